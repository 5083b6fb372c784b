-- The ways to add all rows of a label are a coefficient of the product of two Schur polynomials. A label with zeros at its end stands for the partition
-- without them.
use Rattle.std.proofs.Common.{◌≡◌, ℕ, zero, suc, ◌-◌, ◌≤◌, ◌==◌, ◌⊎◌, inl, inr, nat_le, true, false, ◌&&◌, List, [], ◌∷◌, length, drop, replicate, refl, sym, ap, ap₂, ◌∙◌, arith}
use Rattle.std.proofs.lemmas.Bool.{cases_Bool, and_parts, eqb-true, lt-leb, ne_eqb}
use Rattle.sym_model.specs.Partition.{IsPartition, Falls, part, rows, without_last_zeros}
use Rattle.sym_model.specs.Polynomial.{resize}
use Rattle.sym_model.specs.Schur.{contains}
use Rattle.sym_model.specs.GoodTableau.{product_count}
use Rattle.sym_model.proofs.Exponents.{length-resize, resize-nil}
use Rattle.sym_model.proofs.FirstPlaces.{Falls-resize}
use Rattle.sym_model.proofs.SortedParts.{IsPartition-without_last_zeros}
use Rattle.tableau_laws.specs.PaddedRows.{put_row, line_of}
use Rattle.tableau_laws.specs.ColumnFold.{column_lines}
use Rattle.tableau_laws.proofs.RowSums.{contains_rest}
use Rattle.tableau_laws.proofs.ColumnCounts.{falling-resize}
use Rattle.alternant_laws.proofs.CountedTerms.{product_counts_stable}
use Rattle.alternant_laws.proofs.FallingAlternants.{resize-without_last_zeros}
use Rattle.schur_laws.proofs.ProductCounts.{product_outside}
use Rattle.lr_product.specs.WeighedSum.{over_states, comes_to}
use Rattle.lr_product.specs.RowExtension.{over_rows}
use Rattle.lr_product.proofs.RowFold.{rows_columns}
use Rattle.lr_product.proofs.Sums.{states-shape}
use Rattle.lattice_rows.proofs.LatticeLabels.{falls_or_none, contains_or_none}

-- ---- zeros at the end of the outer shape

lines-none : (n : ℕ) (inner : List ℕ) → contains [] inner ≡ true → column_lines (resize n []) inner ≡ []
lines-none zero inner h = refl
lines-none (suc n) [] h = lines-none n [] h
lines-none (suc n) (b ∷ inner) h =
    let p = and_parts (b == 0) (contains [] inner) h in
    let z : b ≡ 0 = eqb-true b 0 p.0 in
    ap (λ k. put_row (line_of k (0 - k)) (column_lines (resize n []) inner)) z ∙ lines-none n inner p.1

lines-padded : (n : ℕ) (outer inner : List ℕ) → rows outer ≤ n → contains outer inner ≡ true → column_lines (resize n outer) inner ≡ column_lines outer inner
lines-padded n [] inner l h = lines-none n inner h
lines-padded zero (a ∷ outer) inner l h = absurd (omega arith)
lines-padded (suc n) (a ∷ outer) inner l h =
    ap (put_row (line_of (part inner 1) (a - part inner 1))) (lines-padded n outer (drop 1 inner) (omega arith) (contains_rest a outer inner h).1)

contains-padded : (n : ℕ) (outer inner : List ℕ) → rows outer ≤ n → rows inner ≤ n → contains (resize n outer) inner ≡ contains outer inner
contains-padded zero [] inner l m = refl
contains-padded zero (a ∷ outer) inner l m = absurd (omega arith)
contains-padded (suc n) [] [] l m = refl
contains-padded (suc n) (a ∷ outer) [] l m = refl
contains-padded (suc n) [] (b ∷ inner) l m = ap₂ ◌&&◌ (by b) (contains-padded n [] inner (omega arith) (omega arith))
  where
    by : (c : ℕ) → nat_le c 0 ≡ (c == 0)
    by zero = refl
    by (suc c) = lt-leb (suc c) 0 (omega arith) ∙ sym (ne_eqb (suc c) 0 (λ e. absurd (omega arith)))
contains-padded (suc n) (a ∷ outer) (b ∷ inner) l m = ap (λ t. nat_le b a && t) (contains-padded n outer inner (omega arith) (omega arith))

-- ---- the ways to add all rows of a label

-- the ways to add all rows of a partition ν, with zeros at its end
pub label_ways : (N : ℕ) (left right ν : List ℕ) → IsPartition left → IsPartition right → IsPartition ν → 2 ≤ rows right → rows left ≤ N → rows ν ≤ N
    → over_rows (rows right) (resize N ν) left (comes_to right) (replicate (rows right) 0) [] ≡ product_count N left right ν
label_ways N left right ν p q r some few short = by (cases_Bool (contains ν left))
  where
    same : contains (resize N ν) left ≡ contains ν left
    same = contains-padded N ν left short few

    from : replicate (rows right) 0 ≡ resize (rows right) []
    from = sym (resize-nil (rows right))

    by : (contains ν left ≡ true) ⊎ (contains ν left ≡ false) → over_rows (rows right) (resize N ν) left (comes_to right) (replicate (rows right) 0) [] ≡ product_count N left right ν
    by (inl h) =
        ap (λ s. over_rows (rows right) (resize N ν) left (comes_to right) s []) from
        ∙ rows_columns (rows right) (resize N ν) left (λ s. comes_to right s []) (resize (rows right) []) (omega arith) (Falls-resize N ν r.falls) (same ∙ h)
        (length-resize (rows right) []) (falling-resize (rows right) [] tt)
        ∙ ap (λ lines. over_states (rows right) lines (comes_to right) (resize (rows right) []) []) (lines-padded N ν left short h)
        ∙ states-shape left right ν p q r h
        ∙ sym (product_counts_stable (rows ν) N left right ν short p q r (omega arith))
    by (inr h) =
        contains_or_none (rows right) (resize N ν) left (comes_to right) some (let e = length-resize N ν in omega arith) (same ∙ h) (replicate (rows right) 0) []
        (ap length from ∙ length-resize (rows right) [])
        ∙ sym (product_outside left right ν p q r h)
        ∙ sym (product_counts_stable (rows ν) N left right ν short p q r (omega arith))

-- a label with a way to add its rows is a partition with zeros at its end
pub record IsPadded (label : List ℕ) : Type 0 where
  pub partition : IsPartition (without_last_zeros label)
  pub is : resize (length label) (without_last_zeros label) ≡ label

pub padded_label : (n : ℕ) (label inner : List ℕ) (f : List ℕ → List ℕ → ℕ) (ν above : List ℕ) → 2 ≤ n → length ν ≡ n → (over_rows n label inner f ν above ≡ 0 → ⊥) → IsPadded label
padded_label n label inner f ν above h l some = by (falls_or_none n label inner f h)
  where
    by : Falls label ⊎ ((s right : List ℕ) → length s ≡ n → over_rows n label inner f s right ≡ 0) → IsPadded label
    by (inl g) = record { partition = IsPartition-without_last_zeros label g; is = resize-without_last_zeros (length label) label refl }
    by (inr v) = absurd (some (v ν above l))
