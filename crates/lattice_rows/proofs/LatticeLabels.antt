-- Labels with rows that cannot be the rows of a tableau: the sum of f over all ways to add the rows of label/inner (`over_rows`) is 0 if the label
-- does not fall, or does not contain inner.
use Rattle.std.proofs.Common.{◌≡◌, ℕ, zero, suc, ◌+◌, ◌-◌, ◌<◌, ◌≤◌, ◌⊎◌, inl, inr, nat_le, nat_lt, Bool, true, false, cond, List, [], ◌∷◌, ◌++◌, ◌&&◌, length, take, drop, get_or, refl, sym, ap, ◌∙◌, arith}
use Rattle.std.proofs.lemmas.Bool.{cases_lt, lt-leb, le-leb, lt-ltb}
use Rattle.std.proofs.lemmas.List.{length-take-le}
use Rattle.std.proofs.Math.Seq.{drop-cons}
use Rattle.sym_model.specs.Sum.{sum_by}
use Rattle.sym_model.specs.Partition.{Falls, part}
use Rattle.sym_model.specs.Schur.{contains}
use Rattle.sym_model.proofs.Numbers.{zero_either}
use Rattle.tableau_laws.specs.Grid.{may_precede}
use Rattle.lr_product.specs.Extension.{numbers_from, mark}
use Rattle.lr_product.specs.RowExtension.{added, filled, next_row, over_rows, least_left, most_left}
use Rattle.lr_product.proofs.RowFilling.{length_put}
use Rattle.lr_product.proofs.Ranges.{numbers-ext}
use Rattle.lattice_rows.proofs.LatticeFilling.{get-put_last, length-put}
use Rattle.lattice_rows.proofs.LatticeBounds.{ends_outside}

-- f is 0 at each sum of n numbers
abbrev pub Vanishes : ℕ → (List ℕ → List ℕ → ℕ) → Type 0
Vanishes n f = (ν right : List ℕ) → length ν ≡ n → f ν right ≡ 0

-- f is 0 at each sum of n numbers after a row whose first end is at most a
abbrev VanishesAfter : ℕ → ℕ → (List ℕ → List ℕ → ℕ) → Type 0
VanishesAfter n a f = (ν right : List ℕ) (x : ℕ) → length ν ≡ n → x ≤ a → f ν (x ∷ right) ≡ 0

sum-zero : (low k : ℕ) → sum_by (λ (x : ℕ). 0) (numbers_from low k) ≡ 0
sum-zero low zero = refl
sum-zero low (suc k) = let e = sum-zero (low + 1) k in omega arith

filled-none : (kept : Bool) (n out t k : ℕ) (above s : List ℕ) (f : List ℕ → List ℕ → ℕ) → n ≤ length s → Vanishes n f → filled kept n out t k above f s ≡ 0
filled-none kept n out zero k above s f l v = v (take n s) (drop n s) (length-take-le n s l)
filled-none kept n out (suc t) k above s f l v =
    numbers-ext (λ x. filled kept n out t x (drop 1 above) f (added t (k - x) s ++ mark kept x)) (λ x. 0) (least_left out t k s) (most_left out t k above + 1 - least_left out t k s)
    (λ x low high. filled-none kept n out t x (drop 1 above) (added t (k - x) s ++ mark kept x) f (let p = length_put kept t (k - x) x s in omega arith) v)
    ∙ sum-zero (least_left out t k s) (most_left out t k above + 1 - least_left out t k s)

-- the first end of the row stays
get-put : (n t i x : ℕ) (s : List ℕ) → t < n → n < length s → get_or (added t i s ++ x ∷ []) n 0 ≡ get_or s n 0
get-put zero t i x s h l = absurd (omega arith)
get-put (suc n) t i x [] h l = absurd (omega arith)
get-put (suc n) zero i x (a ∷ s) h l = by n s (omega arith)
  where
    by : (m : ℕ) (w : List ℕ) → m < length w → get_or (w ++ x ∷ []) m 0 ≡ get_or w m 0
    by m [] q = absurd (omega arith)
    by zero (b ∷ w) q = refl
    by (suc m) (b ∷ w) q = by m w (omega arith)
get-put (suc n) (suc t) i x (a ∷ s) h l = get-put n t i x s (omega arith) (omega arith)

filled-after : (n a out t k : ℕ) (above s : List ℕ) (f : List ℕ → List ℕ → ℕ) → t ≤ n → n < length s → get_or s n 0 ≤ a → VanishesAfter n a f → filled true n out t k above f s ≡ 0
filled-after n a out zero k above s f h l x v =
    ap (f (take n s)) (drop-cons s n 0 l) ∙ v (take n s) (drop (suc n) s) (get_or s n 0) (length-take-le n s (omega arith)) x
filled-after n a out (suc t) k above s f h l x v =
    numbers-ext (λ y. filled true n out t y (drop 1 above) f (added t (k - y) s ++ mark true y)) (λ y. 0) (least_left out t k s) (most_left out t k above + 1 - least_left out t k s)
    (λ y low high. filled-after n a out t y (drop 1 above) (added t (k - y) s ++ y ∷ []) f (omega arith) (let p = length_put true t (k - y) y s in omega arith)
    (let e = get-put n t (k - y) y s (omega arith) l in omega arith) v)
    ∙ sum-zero (least_left out t k s) (most_left out t k above + 1 - least_left out t k s)

most-here : (out t k : ℕ) (above : List ℕ) → most_left out (suc t) k above ≤ k
most-here out t k [] = omega arith
most-here out t k (x ∷ above) = omega arith

row-after : (n out a : ℕ) (above s : List ℕ) (f : List ℕ → List ℕ → ℕ) → 2 ≤ n → length s ≡ n → VanishesAfter n a f → filled true n out n a above f s ≡ 0
row-after zero out a above s f h l v = absurd (omega arith)
row-after (suc zero) out a above s f h l v = absurd (omega arith)
row-after (suc (suc n)) out a above s f h l v =
    numbers-ext (λ y. filled true (suc (suc n)) out (suc n) y (drop 1 above) f (added (suc n) (a - y) s ++ mark true y)) (λ y. 0)
    (least_left out (suc n) a s) (most_left out (suc n) a above + 1 - least_left out (suc n) a s)
    (λ y low high. filled-after (suc (suc n)) a out (suc n) y (drop 1 above) (added (suc n) (a - y) s ++ y ∷ []) f (omega arith) (let p = length-put (suc n) (a - y) y s in omega arith)
    (let e = get-put_last (suc n) (a - y) y s in let g = ap (λ i. get_or (added (suc n) (a - y) s ++ y ∷ []) i 0) l in let m = most-here out n a above in omega arith) v)
    ∙ sum-zero (least_left out (suc n) a s) (most_left out (suc n) a above + 1 - least_left out (suc n) a s)

longer : (n b out : ℕ) (kept : Bool) (a : ℕ) (f : List ℕ → List ℕ → ℕ) → a < b → VanishesAfter n a (next_row n kept out b f)
longer n b out kept a f h ν right x l q = ap (λ t. cond t (filled kept n out n b right f ν) 0) (lt-leb b x (omega arith))

-- a label that does not fall
pub falls_or_none : (n : ℕ) (label inner : List ℕ) (f : List ℕ → List ℕ → ℕ) → 2 ≤ n → Falls label ⊎ Vanishes n (over_rows n label inner f)
falls_or_none n [] inner f h = inl tt
falls_or_none n (a ∷ []) inner f h = inl tt
falls_or_none n (a ∷ b ∷ label) inner f h = by (falls_or_none n (b ∷ label) (drop 1 inner) f h) (cases_lt a b)
  where
    by : Falls (b ∷ label) ⊎ Vanishes n (over_rows n (b ∷ label) (drop 1 inner) f) → (a < b) ⊎ (b ≤ a) → Falls (a ∷ b ∷ label) ⊎ Vanishes n (over_rows n (a ∷ b ∷ label) inner f)
    by (inr v) q =
        inr (λ ν above l. zero_either (may_precede nat_le a above)
        (filled-none (nat_lt 0 (length (b ∷ label))) n (part inner 1) n a (drop 1 above) ν (over_rows n (b ∷ label) (drop 1 inner) f) (omega arith) v))
    by (inl g) (inr q) = inl (q, g)
    by (inl g) (inl q) =
        inr (λ ν above l. zero_either (may_precede nat_le a above)
        (ap (λ t. filled t n (part inner 1) n a (drop 1 above) (over_rows n (b ∷ label) (drop 1 inner) f) ν) (lt-ltb 0 (length (b ∷ label)) (omega arith))
        ∙ row-after n (part inner 1) a (drop 1 above) ν (over_rows n (b ∷ label) (drop 1 inner) f) h l
        (longer n b (part (drop 1 inner) 1) (nat_lt 0 (length label)) a (over_rows n label (drop 1 (drop 1 inner)) f) q)))

-- a label that does not contain the inner shape
pub contains_or_none : (n : ℕ) (label inner : List ℕ) (f : List ℕ → List ℕ → ℕ) → 2 ≤ n → length inner ≤ length label → contains label inner ≡ false → Vanishes n (over_rows n label inner f)
contains_or_none n label [] f h s e = absurd (by label e)
  where
    by : (l : List ℕ) → contains l [] ≡ false → ⊥
    by [] q = absurd (cc)
    by (x ∷ l) q = absurd (cc)
contains_or_none n [] (b ∷ inner) f h s e = absurd (omega arith)
contains_or_none n (a ∷ label) (b ∷ inner) f h s e = by (cases_lt a b) (contains_or_none n label inner f h (omega arith))
  where
    by : (a < b) ⊎ (b ≤ a) → (contains label inner ≡ false → Vanishes n (over_rows n label inner f)) → Vanishes n (over_rows n (a ∷ label) (b ∷ inner) f)
    by (inl q) rest = λ ν above l. zero_either (may_precede nat_le a above) (ends_outside (nat_lt 0 (length label)) n b a (drop 1 above) ν (over_rows n label inner f) h q)
    by (inr q) rest =
        λ ν above l. zero_either (may_precede nat_le a above)
        (filled-none (nat_lt 0 (length label)) n b n a (drop 1 above) ν (over_rows n label inner f) (omega arith)
        (rest (sym (ap (λ t. t && contains label inner) (le-leb b a q)) ∙ e)))
