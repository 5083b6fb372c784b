-- The ways that the rule for a product has to complete its start by a label: they are the counts of the product.
use Rattle.std.proofs.Common.{◌≡◌, ◌⊎◌, inl, inr, ℕ, zero, suc, ◌+◌, ◌-◌, ◌<◌, ◌≤◌, true, cond, List, [], ◌∷◌, length, take, drop, get_or, replicate, refl, sym, ap, ap₂, ◌∙◌, subst, arith}
use Rattle.std.proofs.lemmas.Bool.{cases_lt, lt-leb}
use Rattle.std.proofs.lemmas.List.{length-replicate, take-replicate}
use Rattle.sym_model.specs.Partition.{IsPartition, Falls, ArePositive, part, rows, size, without_last_zeros}
use Rattle.sym_model.specs.Bounded.{AreBelow}
use Rattle.sym_model.specs.Polynomial.{resize}
use Rattle.sym_model.specs.GoodTableau.{product_count}
use Rattle.sym_model.proofs.Exponents.{length-resize}
use Rattle.sym_model.proofs.FirstPlaces.{Falls-resize}
use Rattle.sym_model.proofs.Lists.{drop-none}
use Rattle.alternant_laws.proofs.CountedTerms.{product_counts_stable}
use Rattle.lr_product.specs.WeighedSum.{comes_to}
use Rattle.lr_product.specs.RowExtension.{filled, next_row, over_rows}
use Rattle.lr_product.proofs.GoodCounts.{product_count-other_size}
use Rattle.lattice_rows.specs.LatticeRows.{fills, row_ways}
use Rattle.lattice_rows.specs.ProductRule.{IsRule}
use Rattle.lattice_rows.proofs.LatticeLaws.{over-first}
use Rattle.lattice_rows.proofs.LatticeStarts.{start-ways}
use Rattle.lattice_rows.proofs.LatticeEnds.{ways-come}
use Rattle.lattice_rows.proofs.LabelWays.{IsPadded, label_ways, padded_label}
use Rattle.lattice_rows.proofs.ListedTerms.{AreCounted}

part-first : (l : List ℕ) → part l 1 ≡ get_or l 0 0
part-first [] = refl
part-first (a ∷ l) = refl

-- ---- the entries of a label are less than 256

refused : (n m out a b : ℕ) (F : List ℕ → List ℕ → ℕ) (ν : List ℕ) → 0 < m → b < a → next_row n true out a F ν (replicate m b) ≡ 0
refused n zero out a b F ν h l = absurd (omega arith)
refused n (suc m) out a b F ν h l = ap (λ t. cond t (filled true n out n a (replicate m b) F ν) 0) (lt-leb a b l)

first-small : (n a : ℕ) (label left right : List ℕ) → 2 ≤ n → length right ≡ n → ArePositive right → part left 1 + get_or right 0 0 ≤ 255 → 255 < a
    → over_rows n (a ∷ label) left (comes_to right) (replicate n 0) [] ≡ 0
first-small n a label left right some full positive short large =
    let z : length {A = ℕ} (replicate n 0) ≡ n = length-replicate n 0 in
    ap (λ s. over_rows n (a ∷ label) left (comes_to right) s []) (sym (take-replicate n n 0 (omega arith)))
    ∙ sym (ways-come n (a ∷ label) left right (replicate n 0) [] full positive)
    ∙ ap (λ s. over_rows n (a ∷ label) left (fills right) s []) (take-replicate n n 0 (omega arith))
    ∙ sym (start-ways n a 255 label left right some full short)
    ∙ over-first n a label left right (replicate n 0) (replicate n 255) (omega arith)
    ∙ refused n n (part left 1) a 255 (over_rows n label (drop 1 left) (fills right)) (replicate n 0) (omega arith) large

below-falls : (a : ℕ) (label : List ℕ) → Falls (a ∷ label) → a < 256 → AreBelow 256 (a ∷ label)
below-falls a [] f h = (h, tt)
below-falls a (b ∷ label) f h = (h, below-falls b label f.1 (let l = f.0 in omega arith))

-- ---- the rule

module _ (left right : List ℕ) (n N k : ℕ) (padded outside content ends : List ℕ) (rule : IsRule left right n N padded outside) (all : k ≡ N)
    (ways : (a : ℕ) (label : List ℕ) → 2 ≤ n → n ≤ 8 → ArePositive (take n padded) → part outside 1 + get_or (take n padded) 0 0 ≤ 255
    → row_ways n padded outside (a ∷ label) content ends ≡ over_rows n (a ∷ label) outside (comes_to (take n padded)) (replicate n 0) []) where
  abbrev pub completed : List ℕ → ℕ
  completed label = row_ways n padded (drop (N - k) outside) label content ends

  abbrev counted : List ℕ → ℕ
  counted label = over_rows (rows right) label left (comes_to right) (replicate (rows right) 0) []

  positive : ArePositive (take n padded)
  positive = subst ArePositive (sym rule.content_is) rule.content_partition.positive

  short : part left 1 + get_or right 0 0 ≤ 255
  short = let s = rule.short in let e = part-first right in omega arith

  starts : (label : List ℕ) → length label ≡ N → completed label ≡ counted label
  starts [] l = let s = rule.some in let r = rule.rows_are in let e = rule.letters_are in absurd (omega arith)
  starts (a ∷ label) l =
      let none : N - k ≡ 0 = omega arith in
      ap (λ i. row_ways n padded (drop i outside) (a ∷ label) content ends) none
      ∙ ap (λ o. row_ways n padded o (a ∷ label) content ends) (drop-none outside)
      ∙ ways a label rule.some rule.few positive
      (subst (λ o. part o 1 + get_or (take n padded) 0 0 ≤ 255) (sym rule.inner_is) (subst (λ q. part left 1 + get_or q 0 0 ≤ 255) (sym rule.content_is) short))
      ∙ ap₂ (λ (o q : List ℕ). over_rows n (a ∷ label) o (comes_to q) (replicate n 0) []) rule.inner_is rule.content_is
      ∙ ap (λ m. over_rows m (a ∷ label) left (comes_to right) (replicate m 0) []) rule.letters_are

  some : 2 ≤ rows right
  some = let s = rule.some in let e = rule.letters_are in omega arith

  is_padded : (label : List ℕ) → length label ≡ N → (completed label ≡ 0 → ⊥) → IsPadded label
  is_padded label l h = padded_label (rows right) label left (comes_to right) (replicate (rows right) 0) [] some (length-replicate (rows right) 0) (λ z. h (starts label l ∙ z))

  is_below : (label : List ℕ) → length label ≡ N → (completed label ≡ 0 → ⊥) → AreBelow 256 label
  is_below [] l h = tt
  is_below (a ∷ label) l h = by (cases_lt 255 a)
    where
      falls : Falls (a ∷ label)
      falls =
          let p = is_padded (a ∷ label) l h in
          subst Falls p.is (Falls-resize (length (a ∷ label)) (without_last_zeros (a ∷ label)) p.partition.falls)

      by : (255 < a) ⊎ (a ≤ 255) → AreBelow 256 (a ∷ label)
      by (inl q) = absurd (h (starts (a ∷ label) l ∙ first-small (rows right) a label left right some refl rule.content_partition.positive short q))
      by (inr q) = below-falls a label falls (omega arith)

  pub rule_counts : N ≤ 512 → size left + size right ≤ 4096 → AreCounted N completed (product_count N left right)
  rule_counts few small = record {
    padded = is_padded;
    below = is_below;
    ways = λ ν p l. starts (resize N ν) (length-resize N ν) ∙ label_ways N left right ν rule.inner_partition rule.content_partition p some (let e = rule.rows_are in omega arith) l;
    few = few;
    limited = λ ν p l h. by ν p l h (cases_lt 4096 (size ν));
  }
    where
      by : (ν : List ℕ) → IsPartition ν → rows ν ≤ N → (product_count N left right ν ≡ 0 → ⊥) → (4096 < size ν) ⊎ (size ν ≤ 4096) → size ν ≤ 4096
      by ν p l h (inl q) =
          absurd (h (product_counts_stable (rows ν) N left right ν l rule.inner_partition rule.content_partition p (omega arith)
          ∙ product_count-other_size ν left right p rule.inner_partition rule.content_partition (λ e. absurd (omega arith))))
      by ν p l h (inr q) = q
