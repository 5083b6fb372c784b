-- The number of ways to add rows to a sum so that it becomes the content μ (n numbers): it is 0 if the sum cannot become μ (`CountsEndings`).
use Rattle.std.proofs.Common.{◌≡◌, ℕ, zero, suc, ◌+◌, ◌-◌, ◌<◌, ◌≤◌, ◌==◌, ◌⊎◌, inl, inr, nat_le, nat_lt, nat_eq, Bool, true, false, cond, List, [], ◌∷◌, ◌++◌, length, take, drop, get_or, refl, sym, ap, ap₂, ◌∙◌, arith}
use Rattle.std.specs.Cmp.Lexicographic.{pointwise}
use Rattle.std.proofs.lemmas.Bool.{cases_lt, lt-leb, lt-ltb, le-leb, both_ways, and_from, eqb-true}
use Rattle.std.proofs.lemmas.List.{get_or-take, take_all}
use Rattle.std.proofs.lemmas.Slice.Eq.{bytes_eq-Decides}
use Rattle.sym_model.specs.Sum.{sum_by}
use Rattle.sym_model.specs.Partition.{part}
use Rattle.sym_model.proofs.NumberSums.{sum_by-ext}
use Rattle.sym_model.proofs.Numbers.{zero_either}
use Rattle.tableau_laws.specs.Grid.{pass_by_place, may_precede}
use Rattle.lr_product.specs.Extension.{numbers_from}
use Rattle.lr_product.specs.RowExtension.{added, filled, next_row, over_rows, least_left, most_left}
use Rattle.lattice_rows.specs.LatticeRows.{fills, CountsEndings, CountsReached}
use Rattle.lr_product.proofs.RowFilling.{take-added, length_put, vanishes-row}
use Rattle.lattice_rows.proofs.LatticeFilling.{short_below, short_above}
use Rattle.lattice_rows.proofs.LatticeBounds.{ends_outside, row_alike}

-- ---- the last row

fills-other : (μ ν right : List ℕ) → (ν ≡ μ → ⊥) → fills μ ν right ≡ 0
fills-other μ ν right differ = by (pointwise nat_eq ν μ) refl
  where
    by : (b : Bool) → pointwise nat_eq ν μ ≡ b → fills μ ν right ≡ 0
    by true e = absurd (differ ((bytes_eq-Decides ν μ).0 e))
    by false e = ap (λ t. cond t 1 0) e

pass-itself : (l : List ℕ) → pass_by_place nat_le l l ≡ true
pass-itself [] = refl
pass-itself (a ∷ l) = and_from (nat_le a a) (pass_by_place nat_le l l) (le-leb a a (omega arith)) (pass-itself l)

fills-counts : (n : ℕ) (is_last : Bool) (μ : List ℕ) → CountsEndings n is_last μ (fills μ)
fills-counts n is_last μ = record {
  within = λ ν right h. fills-other μ ν right (λ e. both_ways (pass_by_place nat_le ν μ) h (ap (λ l. pass_by_place nat_le l μ) e ∙ pass-itself μ));
  reaches = λ ν ends j l w b q. fills-other μ ν ends (λ e. let s = ap (λ v. get_or v j 0) e in absurd (omega arith));
  full = λ last ν ends differ. fills-other μ ν ends differ;
}

-- f does not depend on the last row, so this row need not be kept
module _ (n : ℕ) (f : List ℕ → List ℕ → ℕ) (alike : (ν r w : List ℕ) → f ν r ≡ f ν w) where
  same-number : (s v : List ℕ) (i : ℕ) → take n s ≡ take n v → i < n → get_or s i 0 ≡ get_or v i 0
  same-number s v i e h = sym (get_or-take n s i 0 h) ∙ ap (λ l. get_or l i 0) e ∙ get_or-take n v i 0 h

  same-least : (out t k : ℕ) (s v : List ℕ) → take n s ≡ take n v → t < n → least_left out t k s ≡ least_left out t k v
  same-least out zero k s v e h = refl
  same-least out (suc t) k s v e h = let a = same-number s v t e (omega arith) in let b = same-number s v (suc t) e h in omega arith

  filled-kept : (out t k : ℕ) (above s v : List ℕ) → t ≤ n → n ≤ length s → n ≤ length v → take n s ≡ take n v → filled false n out t k above f s ≡ filled true n out t k above f v
  filled-kept out zero k above s v h l m e = ap (λ w. f w (drop n s)) e ∙ alike (take n v) (drop n s) (drop n v)
  filled-kept out (suc t) k above s v h l m e =
      ap (λ low. sum_by (λ x. filled false n out t x (drop 1 above) f (added t (k - x) s ++ [])) (numbers_from low (most_left out t k above + 1 - low))) (same-least out t k s v e h)
      ∙ sum_by-ext (λ x. filled false n out t x (drop 1 above) f (added t (k - x) s ++ [])) (λ x. filled true n out t x (drop 1 above) f (added t (k - x) v ++ x ∷ []))
      (λ x. filled-kept out t x (drop 1 above) (added t (k - x) s ++ []) (added t (k - x) v ++ x ∷ []) (omega arith)
      (let p = length_put false t (k - x) x s in omega arith) (let p = length_put true t (k - x) x v in omega arith)
      (take-added n t (k - x) s [] l ∙ ap (added t (k - x)) e ∙ sym (take-added n t (k - x) v (x ∷ []) m)))
      (numbers_from (least_left out t k v) (most_left out t k above + 1 - least_left out t k v))

  pub row-kept : (out k : ℕ) (ν above : List ℕ) → n ≤ length ν → next_row n false out k f ν above ≡ next_row n true out k f ν above
  row-kept out k ν above l = ap (λ x. cond (may_precede nat_le k above) x 0) (filled-kept out n k (drop 1 above) ν ν (omega arith) l l refl)

-- the first of some rows
pub over-first : (n a : ℕ) (label inner μ ν above : List ℕ) → n ≤ length ν
    → over_rows n (a ∷ label) inner (fills μ) ν above ≡ next_row n true (part inner 1) a (over_rows n label (drop 1 inner) (fills μ)) ν above
over-first n a [] inner μ ν above l = row-kept n (fills μ) (λ v r w. refl) (part inner 1) a ν above l
over-first n a (b ∷ label) inner μ ν above l =
    ap (λ t. next_row n t (part inner 1) a (over_rows n (b ∷ label) (drop 1 inner) (fills μ)) ν above) (lt-ltb 0 (length (b ∷ label)) (omega arith))

-- ---- a row before other rows

module _ (n : ℕ) (is_last : Bool) (μ : List ℕ) (f : List ℕ → List ℕ → ℕ) (counts : CountsEndings n is_last μ f) (some : 2 ≤ n) (full : length μ ≡ n) where
  row-short : (out a : ℕ) (ν ends : List ℕ) (j : ℕ) → length ν ≡ n → length ends ≡ n → j < n → get_or ν j 0 + get_or ends (n - suc j) 0 < get_or μ j 0 → next_row n true out a f ν ends ≡ 0
  row-short out a ν [] j l m h q = absurd (omega arith)
  row-short out a ν (x ∷ ends) j l m h q = by (cases_lt a out) (cases_lt (suc j) n) (cases_lt x a)
    where
      by : (a < out) ⊎ (out ≤ a) → (suc j < n) ⊎ (n ≤ suc j) → (x < a) ⊎ (a ≤ x) → next_row n true out a f ν (x ∷ ends) ≡ 0
      by (inl o) p r = zero_either (nat_le a x) (ends_outside true n out a ends ν f some o)
      by (inr o) (inl p) r =
          let i : n - suc j ≡ suc (n - suc (suc j)) = omega arith in
          let e = ap (λ k. get_or (x ∷ ends) k 0) i in
          zero_either (nat_le a x) (short_above n is_last μ f counts out n a j ends ν p (omega arith) (omega arith) o (omega arith) (omega arith))
      by (inr o) (inr p) (inl r) = ap (λ t. cond t (filled true n out n a ends f ν) 0) (lt-leb a x r)
      by (inr o) (inr p) (inr r) =
          let i : n - suc j ≡ 0 = omega arith in
          let e = ap (λ k. get_or (x ∷ ends) k 0) i in
          zero_either (nat_le a x) (short_below n is_last μ f counts out n a j ends ν h (omega arith) (omega arith) o (omega arith))

-- the ways to add some rows
pub ways-counts : (n : ℕ) (label inner μ : List ℕ) → 2 ≤ n → length μ ≡ n → CountsEndings n (length label == 0) μ (over_rows n label inner (fills μ))
ways-counts n [] inner μ some full = fills-counts n true μ
ways-counts n (a ∷ label) inner μ some full =
    let rest = ways-counts n label (drop 1 inner) μ some full in
    record {
      within = vanishes-row n (nat_lt 0 (length label)) (part inner 1) a μ (over_rows n label (drop 1 inner) (fills μ)) (omega arith) rest.within;
      reaches = λ ν ends j l m h q.
          over-first n a label inner μ ν ends (omega arith)
          ∙ row-short n (length label == 0) μ (over_rows n label (drop 1 inner) (fills μ)) rest some full (part inner 1) a ν ends j l m h q;
      full = λ last ν ends differ. absurd (let e = eqb-true (length (a ∷ label)) 0 last in omega arith);
    }

-- these ways depend on the ends of the row above only by the greatest ends of the next row
pub ways-reached : (n : ℕ) (label inner μ : List ℕ) → 2 ≤ n → length μ ≡ n → CountsReached n (part inner 1) μ (over_rows n label inner (fills μ))
ways-reached n [] inner μ some full = record { alike = λ ν U V l u v same. refl }
ways-reached n (a ∷ label) inner μ some full =
    let rest = ways-counts n label (drop 1 inner) μ some full in
    record {
      alike = λ ν U V l u v same.
          let e = take_all n ν (omega arith) in
          over-first n a label inner μ ν U (omega arith)
          ∙ ap (λ w. next_row n true (part inner 1) a (over_rows n label (drop 1 inner) (fills μ)) w U) (sym e)
          ∙ row_alike n (length label == 0) μ (over_rows n label (drop 1 inner) (fills μ)) rest some full (part inner 1) a U V ν u v (omega arith) same
          ∙ ap (λ w. next_row n true (part inner 1) a (over_rows n label (drop 1 inner) (fills μ)) w V) e
          ∙ sym (over-first n a label inner μ ν V (omega arith));
    }

pub first-part : (i : ℕ) (l : List ℕ) → part (drop i l) 1 ≡ get_or l i 0
first-part zero [] = refl
first-part zero (a ∷ l) = refl
first-part (suc i) [] = refl
first-part (suc i) (a ∷ l) = first-part i l

-- the rows of a label, of which the first has `out` places outside the shape
pub first-row : (n a i out after : ℕ) (label inner inner' μ ν above : List ℕ) → n ≤ length ν → out ≡ get_or inner i 0 → drop 1 (drop i inner) ≡ inner'
    → over_rows n (a ∷ label) (drop i inner) (fills μ) ν above ≡ next_row n true out a (over_rows n label inner' (fills μ)) ν above
first-row n a i out after label inner inner' μ ν above l e d =
    over-first n a label (drop i inner) μ ν above l
    ∙ ap₂ (λ o v. next_row n true o a (over_rows n label v (fills μ)) ν above) (first-part i inner ∙ sym e) d
