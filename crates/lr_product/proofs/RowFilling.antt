-- A row is added to a *sum*, a list of n numbers: i letters t + 1 of the row raise the number at the index t by i. If the places of a row are filled
-- in all ways with letters up to t, `filled` is the sum of f over the results. Here are equal letters that are added and taken back, and rows after
-- which some number of the sum is greater than the number of a bound, a list of numbers, at the same index. A function f *vanishes outside* the bound
-- if it is 0 at each such sum.
use Rattle.std.proofs.Common.{◌≡◌, ◌==◌, ℕ, zero, suc, ◌+◌, ◌-◌, ◌<◌, ◌≤◌, ◌⊎◌, inl, inr, nat_le, nat_lt, Bool, true, false, ◌&&◌, cond, List, [], ◌∷◌, ◌++◌, length, take, drop, get_or, set, max, length-append, refl, sym, ap, ◌∙◌, arith, rules}
use Rattle.std.proofs.lemmas.Bool.{ne_eqb, cases_lt, and_parts, and_from, lt-ltb, le-ltb, both_ways}
use Rattle.sym_model.specs.Sum.{sum_by}
use Rattle.sym_model.specs.Partition.{size}
use Rattle.sym_model.specs.GoodTableau.{is_falling}
use Rattle.sym_model.proofs.NumberSums.{sum_by-zero, sum_by-ext}
use Rattle.tableau_laws.specs.Grid.{pass_by_place, may_precede}
use Rattle.alternant_laws.proofs.StraightShapes.{falls_places}
use Rattle.lr_product.specs.WeighedSum.{VanishesOutside}
use Rattle.lr_product.specs.Extension.{numbers_from, mark}
use Rattle.lr_product.specs.RowExtension.{added, filled, next_row, least_left, most_left}
use Rattle.lr_product.proofs.Pruned.{not_within, take_none}
use Rattle.lr_product.proofs.LetterSums.{numbers-skipped}
use Rattle.std.proofs.lemmas.List.{get_or-take, take-append-le, length-take-le}
use Rattle.std.proofs.Math.Seq.{take-append_seam}
use Rattle.tableau_laws.proofs.Grids.{pass-nothing}
use Rattle.sym_model.proofs.Numbers.{zero_either}

pub added-set : (t i : ℕ) (s : List ℕ) → set s t (get_or s t 0 + i) ≡ added t i s
added-set zero i [] = refl
added-set (suc t) i [] = refl
added-set zero i (a ∷ s) = refl
added-set (suc t) i (a ∷ s) = ap (λ l. a ∷ l) (added-set t i s)

pub length-added : (t i : ℕ) (s : List ℕ) → length (added t i s) ≡ length s
length-added zero i [] = refl
length-added (suc t) i [] = refl
length-added zero i (a ∷ s) = refl
length-added (suc t) i (a ∷ s) = ap suc (length-added t i s)

pub added-undone : (t i : ℕ) (s w : List ℕ) → t < length s → take (length s) (set (added t i s ++ w) t (get_or (added t i s ++ w) t 0 - i)) ≡ s
added-undone t i [] w h = absurd (omega arith)
added-undone zero i (a ∷ s) w h = let e : (a + i) - i ≡ a = omega arith in ap (λ x. x ∷ take (length s) (s ++ w)) e ∙ ap (λ l. a ∷ l) (take-append_seam s w)
added-undone (suc t) i (a ∷ s) w h = ap (λ l. a ∷ l) (added-undone t i s w (omega arith))

added-nothing : (t i : ℕ) → added t i [] ≡ []
added-nothing zero i = refl
added-nothing (suc t) i = refl

pub take-added : (n t i : ℕ) (s w : List ℕ) → n ≤ length s → take n (added t i s ++ w) ≡ added t i (take n s)
take-added zero t i s w h = take_none (added t i s ++ w) ∙ sym (ap (added t i) (take_none s) ∙ added-nothing t i)
take-added (suc n) t i [] w h = absurd (omega arith)
take-added (suc n) zero i (a ∷ s) w h = ap (λ l. (a + i) ∷ l) (take-append-le n s w (omega arith))
take-added (suc n) (suc t) i (a ∷ s) w h = ap (λ l. a ∷ l) (take-added n t i s w (omega arith))

size-added : (t i : ℕ) (s : List ℕ) → size (added t i s) ≤ size s + i
size-added zero i [] = omega arith
size-added (suc t) i [] = omega arith
size-added zero i (a ∷ s) = omega arith
size-added (suc t) i (a ∷ s) = let e = size-added t i s in omega arith

pub size-put : (n t i : ℕ) (s w : List ℕ) → n ≤ length s → size (take n (added t i s ++ w)) ≤ size (take n s) + i
size-put n t i s w h = let e = ap size (take-added n t i s w h) in let f = size-added t i (take n s) in omega arith

falls_first : (i : ℕ) (s : List ℕ) → is_falling s ≡ true → is_falling (added 0 i s) ≡ true
falls_first i [] h = refl
falls_first i (a ∷ []) h = refl
falls_first i (a ∷ b ∷ s) h = search rules

falls_next : (t i : ℕ) (s : List ℕ) → is_falling s ≡ true → suc t < length s → get_or s (suc t) 0 + i ≤ get_or s t 0 → is_falling (added (suc t) i s) ≡ true
falls_next t i [] h l g = refl
falls_next t i (a ∷ []) h l g = absurd (omega arith)
falls_next zero i (a ∷ b ∷ s) h l g = search rules
falls_next (suc t) i (a ∷ b ∷ s) h l g =
    let p = and_parts (nat_le b a) (is_falling (b ∷ s)) h in
    and_from (nat_le b a) (is_falling (b ∷ added t i s)) p.0 (falls_next t i (b ∷ s) p.1 (omega arith) g)

-- the number at the index t of s, raised by i, is at most the number before it; always true for t = 0
abbrev pub MayAdd : ℕ → ℕ → List ℕ → Type 0
MayAdd t i s = (k : ℕ) → t ≡ suc k → get_or s t 0 + i ≤ get_or s k 0

pub falls-put : (n t i : ℕ) (s w : List ℕ) → t < n → n ≤ length s → is_falling (take n s) ≡ true → MayAdd t i s → is_falling (take n (added t i s ++ w)) ≡ true
falls-put n zero i s w l h f may = ap is_falling (take-added n 0 i s w h) ∙ falls_first i (take n s) f
falls-put n (suc t) i s w l h f may = search (rules, get_or-take, length-take-le, take-added, falls_next)

pub width_put : (kept : Bool) (t i left : ℕ) (s : List ℕ) (up_to width : ℕ) → up_to ≡ t + 1 → length s + cond kept up_to 0 ≡ width → length (added t i s ++ mark kept left) + cond kept t 0 ≡ width
width_put true t i left s up_to width e h = let l = length-append (added t i s) (left ∷ []) in let k = length-added t i s in omega arith
width_put false t i left s up_to width e h = let l = length-append (added t i s) [] in let k = length-added t i s in omega arith

pub length_put : (kept : Bool) (t i left : ℕ) (s : List ℕ) → length s ≤ length (added t i s ++ mark kept left)
length_put kept t i left s = let l = length-append (added t i s) (mark kept left) in let k = length-added t i s in omega arith

-- ---- sums with a number that exceeds that of the bound

nothing-within : (bound : List ℕ) → pass_by_place nat_le [] bound ≡ true
nothing-within [] = refl
nothing-within (b ∷ bound) = refl

still_false : (u u' : Bool) {p p' : Bool} → u && p ≡ false → (u ≡ false → u' ≡ false) → (p ≡ false → p' ≡ false) → u' && p' ≡ false
still_false true true e f g = g e
still_false true false e f g = refl
still_false false true e f g = absurd (let z = f refl in cc)
still_false false false e f g = refl

smaller : (a i b : ℕ) → nat_le a b ≡ false → nat_le (a + i) b ≡ false
smaller a i b e = search rules

within-longer : (n : ℕ) (s w bound : List ℕ) → pass_by_place nat_le (take n s) bound ≡ false → pass_by_place nat_le (take n (s ++ w)) bound ≡ false
within-longer zero s w bound h = absurd (both_ways (pass_by_place nat_le (take 0 s) bound) h (ap (λ l. pass_by_place nat_le l bound) (take_none s) ∙ nothing-within bound))
within-longer (suc n) [] w bound h = absurd (both_ways (pass_by_place nat_le [] bound) h (nothing-within bound))
within-longer (suc n) (a ∷ s) w [] h = absurd (cc)
within-longer (suc n) (a ∷ s) w (b ∷ bound) h = still_false (nat_le a b) (nat_le a b) h (λ e. e) (λ e. within-longer n s w bound e)

within-put : (n t i : ℕ) (s w bound : List ℕ) → pass_by_place nat_le (take n s) bound ≡ false → pass_by_place nat_le (take n (added t i s ++ w)) bound ≡ false
within-put zero t i s w bound h = absurd (both_ways (pass_by_place nat_le (take 0 s) bound) h (ap (λ l. pass_by_place nat_le l bound) (take_none s) ∙ nothing-within bound))
within-put (suc n) t i [] w bound h = absurd (both_ways (pass_by_place nat_le [] bound) h (nothing-within bound))
within-put (suc n) zero i (a ∷ s) w [] h = absurd (cc)
within-put (suc n) (suc t) i (a ∷ s) w [] h = absurd (cc)
within-put (suc n) zero i (a ∷ s) w (b ∷ bound) h = still_false (nat_le a b) (nat_le (a + i) b) h (λ e. smaller a i b e) (λ e. within-longer n s w bound e)
within-put (suc n) (suc t) i (a ∷ s) w (b ∷ bound) h = still_false (nat_le a b) (nat_le a b) h (λ e. e) (λ e. within-put n t i s w bound e)

within-take : (n : ℕ) (ν bound : List ℕ) → length bound ≤ n → pass_by_place nat_le (take n ν) bound ≡ pass_by_place nat_le ν bound
within-take zero ν [] h = pass-nothing nat_le (take 0 ν) ∙ sym (pass-nothing nat_le ν)
within-take zero ν (b ∷ bound) h = absurd (omega arith)
within-take (suc n) [] bound h = refl
within-take (suc n) (a ∷ ν) [] h = refl
within-take (suc n) (a ∷ ν) (b ∷ bound) h = ap (λ t. nat_le a b && t) (within-take n ν bound (omega arith))

pub filled-outside : (kept : Bool) (n out t k : ℕ) (above bound : List ℕ) (f : List ℕ → List ℕ → ℕ) (s : List ℕ) → VanishesOutside bound f
    → pass_by_place nat_le (take n s) bound ≡ false → filled kept n out t k above f s ≡ 0
filled-outside kept n out zero k above bound f s v o = v (take n s) (drop n s) o
filled-outside kept n out (suc t) k above bound f s v o =
    sum_by-ext (λ left. filled kept n out t left (drop 1 above) f (added t (k - left) s ++ mark kept left)) (λ left. 0)
    (λ left. filled-outside kept n out t left (drop 1 above) bound f (added t (k - left) s ++ mark kept left) v
    (within-put n t (k - left) s (mark kept left) bound o))
    (numbers_from (least_left out t k s) (most_left out t k above + 1 - least_left out t k s))
    ∙ sum_by-zero (numbers_from (least_left out t k s) (most_left out t k above + 1 - least_left out t k s))

-- if f vanishes outside the bound, and the number at the index t, raised by k - left, exceeds that of the bound, `filled` for the rest of the row is
-- 0
pub over_bound : (kept : Bool) (n out t k left : ℕ) (above bound : List ℕ) (f : List ℕ → List ℕ → ℕ) (s : List ℕ) → VanishesOutside bound f → t < n → n ≤ length s
    → t < length bound → get_or bound t 0 < get_or s t 0 + (k - left) → filled kept n out t left above f (added t (k - left) s ++ mark kept left) ≡ 0
over_bound kept n out t k left above bound f s v l h b g =
    filled-outside kept n out t left above bound f (added t (k - left) s ++ mark kept left) v
    (not_within t (take n (added t (k - left) s ++ mark kept left)) bound b
    (let a = get_or-take n (added t (k - left) s ++ mark kept left) t 0 l in let c = here t s (omega arith) in omega arith))
  where
    here : (j : ℕ) (v' : List ℕ) → j < length v' → get_or (added j (k - left) v' ++ mark kept left) j 0 ≡ get_or v' j 0 + (k - left)
    here j [] q = absurd (omega arith)
    here zero (a ∷ v') q = refl
    here (suc j) (a ∷ v') q = here j v' (omega arith)

-- let f vanish outside the bound. In the recursion of `filled`, the sum over the number x of places that are left for letters up to t may begin with
-- x = `low`, the least x that the list s and the bound allow
pub bounded_low : (kept : Bool) (n out t k : ℕ) (above bound : List ℕ) (f : List ℕ → List ℕ → ℕ) (s : List ℕ) (low : ℕ) → VanishesOutside bound f → t < n → n ≤ length s
    → low ≡ max (max out (cond (t == 0) 0 (k - (get_or s (t - 1) 0 - get_or s t 0)))) (cond (nat_lt t (length bound)) (k - (get_or bound t 0 - get_or s t 0)) 0)
    → sum_by (λ x. filled kept n out t x (drop 1 above) f (added t (k - x) s ++ mark kept x)) (numbers_from low (most_left out t k above + 1 - low))
    ≡ filled kept n out (suc t) k above f s
bounded_low kept n out t k above bound f s low v l h is =
    sym (numbers-skipped X least (most_left out t k above + 1) (low - least) (λ x g q. none x g (let e = atleast in omega arith))
    ∙ ap (λ x. sum_by X (numbers_from x (most_left out t k above + 1 - x))) (let e = atleast in let d : least + (low - least) ≡ low = omega arith in d))
  where
    X : ℕ → ℕ
    X x = filled kept n out t x (drop 1 above) f (added t (k - x) s ++ mark kept x)

    least : ℕ
    least = least_left out t k s

    first : (t' : ℕ) → max out (cond (t' == 0) 0 (k - (get_or s (t' - 1) 0 - get_or s t' 0))) ≡ least_left out t' k s
    first zero = omega arith
    first (suc t') =
        let e : suc t' - 1 ≡ t' = omega arith in
        ap (λ u. max out (cond {A = ℕ} u 0 (k - (get_or s (suc t' - 1) 0 - get_or s (suc t') 0)))) (ne_eqb (suc t') 0 (λ q. absurd (omega arith)))
        ∙ ap (λ j. max out (k - (get_or s j 0 - get_or s (suc t') 0))) e

    atleast : least ≤ low
    atleast = let e = first t in omega arith

    by : (x : ℕ) → x < low → least ≤ x → (t < length bound) ⊎ (length bound ≤ t) → X x ≡ 0
    by x q g (inl b) =
        let e = first t in
        let d = ap (λ u. cond {A = ℕ} u (k - (get_or bound t 0 - get_or s t 0)) 0) (lt-ltb t (length bound) b) in
        over_bound kept n out t k x (drop 1 above) bound f s v l h b (omega arith)
    by x q g (inr b) =
        let e = first t in
        let d = ap (λ u. cond {A = ℕ} u (k - (get_or bound t 0 - get_or s t 0)) 0) (le-ltb t (length bound) b) in
        absurd (omega arith)

    none : (x : ℕ) → least ≤ x → x < low → X x ≡ 0
    none x g q = by x q g (cases_lt t (length bound))

-- let the list s be weakly decreasing at the index t, and let x be at least `low`, the least number of places that the sum allows: then the number at
-- t may be raised by k - x (`MayAdd`)
pub may_add : (out t k x low : ℕ) (s : List ℕ) (rest : ℕ) → low ≡ max (max out (cond (t == 0) 0 (k - (get_or s (t - 1) 0 - get_or s t 0)))) rest
    → low ≤ x → ((j : ℕ) → get_or s (suc j) 0 ≤ get_or s j 0 ⊎ (t ≡ suc j → ⊥)) → MayAdd t (k - x) s
may_add out t k x low s rest is g falls j e = search rules

pub vanishes-row : (n : ℕ) (kept : Bool) (out k : ℕ) (bound : List ℕ) (f : List ℕ → List ℕ → ℕ) → length bound ≤ n → VanishesOutside bound f → VanishesOutside bound (next_row n kept out k f)
vanishes-row n kept out k bound f l v ν above h = zero_either (may_precede nat_le k above) (filled-outside kept n out n k (drop 1 above) bound f ν v (within-take n ν bound l ∙ h))

pub may_put : (n out t k x low : ℕ) (s : List ℕ) (rest : ℕ) → low ≡ max (max out (cond (t == 0) 0 (k - (get_or s (t - 1) 0 - get_or s t 0)))) rest
    → low ≤ x → t < n → is_falling (take n s) ≡ true → MayAdd t (k - x) s
may_put n out t k x low s rest is g l falls = search (rules, may_add, cases_lt, get_or-take, falls_places)

pub most_within : (out t k : ℕ) (above : List ℕ) → out ≤ k → most_left out t k above ≤ k
most_within out zero k above h = h
most_within out (suc t) k [] h = omega arith
most_within out (suc t) k (a ∷ above) h = omega arith
