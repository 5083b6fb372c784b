-- The last row of a tableau, added to a sum ν (a list of n numbers) so that it becomes the content μ: its letters are those that are missing, so there
-- is at most one way (`completes`).
use Rattle.std.proofs.Common.{◌≡◌, ℕ, zero, suc, ◌+◌, ◌-◌, ◌<◌, ◌≤◌, ◌==◌, ◌⊎◌, inl, inr, nat_le, Bool, true, false, ◌&&◌, cond, List, [], ◌∷◌, ◌++◌, length, take, drop, get_or, refl, sym, ap, ◌∙◌, arith}
use Rattle.std.specs.Prelude.{nat_eq}
use Rattle.std.specs.Cmp.Lexicographic.{pointwise}
use Rattle.std.proofs.lemmas.Bool.{cases_lt, and_parts, and_from, leb-true, le-leb, lt-leb, eqb-true, eq-eqb}
use Rattle.sym_model.specs.Sum.{sum_by}
use Rattle.sym_model.specs.Partition.{ArePositive}
use Rattle.tableau_laws.specs.Grid.{may_precede}
use Rattle.lr_product.specs.WeighedSum.{at_state, comes_to}
use Rattle.lr_product.specs.Extension.{numbers_from, mark}
use Rattle.lr_product.specs.RowExtension.{added, filled, next_row, least_left, most_left}
use Rattle.lr_product.specs.LastRows.{completes}
use Rattle.lr_product.proofs.Pruned.{numbers-zero, take_none}
use Rattle.lr_product.proofs.RowFilling.{over_bound, length_put, most_within}
use Rattle.lr_product.proofs.RowPruning.{below_fixed, get-added_at, get-added_other}
use Rattle.lr_product.proofs.Sums.{comes-begins, comes-inside, comes-below}
use Rattle.lr_product.proofs.RangeSums.{sum-single}

pointwise-same : (s μ : List ℕ) → length μ ≤ length s → ((j : ℕ) → j < length μ → get_or s j 0 ≡ get_or μ j 0) → true ≡ pointwise nat_eq (take (length μ) s) μ
pointwise-same s [] l same = ap (λ v. pointwise nat_eq v []) (sym (take_none s))
pointwise-same [] (b ∷ μ) l same = absurd (omega arith)
pointwise-same (a ∷ s) (b ∷ μ) l same =
    sym (and_from (a == b) (pointwise nat_eq (take (length μ) s) μ) (eq-eqb a b (same 0 (omega arith)))
    (sym (pointwise-same s μ (omega arith) (λ j h. same (suc j) (omega arith)))))

comes-same : (μ s : List ℕ) → ArePositive μ → length μ ≤ length s → ((j : ℕ) → j < length μ → get_or s j 0 ≡ get_or μ j 0) → at_state (length μ) (comes_to μ) s ≡ 1
comes-same μ s p l same = comes-begins μ s true p (pointwise-same s μ l same)

pub get-added_before : (t i j : ℕ) (s w : List ℕ) → j < t → j < length s → get_or (added t i s ++ w) j 0 ≡ get_or s j 0
get-added_before t i j [] w h l = absurd (omega arith)
get-added_before zero i j (a ∷ s) w h l = absurd (omega arith)
get-added_before (suc t) i zero (a ∷ s) w h l = refl
get-added_before (suc t) i (suc j) (a ∷ s) w h l = get-added_before t i j s w (omega arith) (omega arith)

-- whether k places with letters of at most t are allowed below the row that `right` describes, if ν is increased to μ at the index t
abbrev is_open : ℕ → List ℕ → List ℕ → ℕ → ℕ → List ℕ → Bool
is_open outside μ ν zero k right = k == outside
is_open outside μ ν (suc t) k right = may_precede nat_le k right && nat_le (get_or μ (suc t) 0) (get_or ν t 0)

-- the number x of places that are left for letters of at most t, if the others have all letters t + 1 that are missing: x lies in the range of `filled`
-- if and only if `is_open`
record InRange (t outside k x : ℕ) (s w : List ℕ) : Type 0 where
  low : least_left outside t k s ≤ x
  high : x < most_left outside t k w + 1

open_range : (t outside k x : ℕ) (μ s ν w : List ℕ) → outside ≤ x → x + (get_or μ t 0 - get_or ν t 0) ≡ k → get_or s t 0 ≡ get_or ν t 0
    → ((j : ℕ) → t ≡ suc j → get_or s j 0 ≡ get_or ν j 0) → is_open outside μ ν t x w ≡ true → InRange t outside k x s w
open_range zero outside k x μ s ν w o e g b h = let q = eqb-true x outside h in record { low = omega arith; high = omega arith }
open_range (suc t) outside k x μ s ν [] o e g b h =
    let q = leb-true (get_or μ (suc t) 0) (get_or ν t 0) h in let c = b t refl in record { low = omega arith; high = omega arith }
open_range (suc t) outside k x μ s ν (a ∷ w) o e g b h =
    let p = and_parts (nat_le x a) (nat_le (get_or μ (suc t) 0) (get_or ν t 0)) h in
    let r = leb-true x a p.0 in
    let q = leb-true (get_or μ (suc t) 0) (get_or ν t 0) p.1 in
    let c = b t refl in record { low = omega arith; high = omega arith }

range_open : (t outside k x : ℕ) (μ s ν w : List ℕ) → x + (get_or μ t 0 - get_or ν t 0) ≡ k → get_or ν t 0 ≤ get_or μ t 0 → get_or s t 0 ≡ get_or ν t 0
    → ((j : ℕ) → t ≡ suc j → get_or s j 0 ≡ get_or ν j 0) → ((j : ℕ) → get_or ν (suc j) 0 ≤ get_or ν j 0)
    → least_left outside t k s ≤ x → x < most_left outside t k w + 1 → is_open outside μ ν t x w ≡ true
range_open zero outside k x μ s ν w e m g b falls l h = eq-eqb x outside (omega arith)
range_open (suc t) outside k x μ s ν [] e m g b falls l h =
    let c = b t refl in let d = falls t in le-leb (get_or μ (suc t) 0) (get_or ν t 0) (omega arith)
range_open (suc t) outside k x μ s ν (a ∷ w) e m g b falls l h =
    let c = b t refl in let d = falls t in
    and_from (nat_le x a) (nat_le (get_or μ (suc t) 0) (get_or ν t 0)) (le-leb x a (omega arith)) (le-leb (get_or μ (suc t) 0) (get_or ν t 0) (omega arith))

pub least_outside : (outside t k : ℕ) (s : List ℕ) → outside ≤ least_left outside t k s
least_outside outside zero k s = omega arith
least_outside outside (suc t) k s = omega arith

gates : (m m' q q' : Bool) (L R : ℕ) → L ≡ cond (q && q') R 0 → cond (m && m') L 0 ≡ cond (m && (q && (m' && q'))) R 0
gates true true true q' L R e = e
gates true true false q' L R e = e
gates true false true q' L R e = refl
gates true false false q' L R e = refl
gates false m' q q' L R e = refl

completed : (outside : ℕ) (μ : List ℕ) → ArePositive μ → (t k : ℕ) (s ν right : List ℕ) → t ≤ length μ → length μ ≤ length s → outside ≤ k
    → ((j : ℕ) → get_or ν (suc j) 0 ≤ get_or ν j 0) → ((j : ℕ) → j < t → get_or s j 0 ≡ get_or ν j 0) → ((j : ℕ) → t ≤ j → j < length μ → get_or s j 0 ≡ get_or μ j 0)
    → cond (is_open outside μ ν t k right) (filled false (length μ) outside t k (drop 1 right) (comes_to μ) s) 0 ≡ completes outside μ t k right ν
completed outside μ p zero k s ν right l long o falls below same = ap (λ y. cond (k == outside) y 0) (comes-same μ s p long (λ j h. same j (omega arith) h))
completed outside μ p (suc t) k s ν right l long o falls below same =
    gates (may_precede nat_le k right) (nat_le (get_or μ (suc t) 0) (get_or ν t 0)) (nat_le (get_or ν t 0) (get_or μ t 0)) (nat_le (outside + m) k)
    (sum_by X (numbers_from a (b - a))) R
    (by (cases_lt (get_or μ t 0) (get_or ν t 0)) (cases_lt k (outside + m))
    (λ k' s' long' o' below' same'. completed outside μ p t k' s' ν w (omega arith) long' o' falls below' same'))
  where
    n : ℕ
    n = length μ

    w : List ℕ
    w = drop 1 right

    m : ℕ
    m = get_or μ t 0 - get_or ν t 0

    a : ℕ
    a = least_left outside t k s

    b : ℕ
    b = most_left outside t k w + 1

    state : ℕ → List ℕ
    state x = added t (k - x) s ++ mark false x

    X : ℕ → ℕ
    X x = filled false n outside t x (drop 1 w) (comes_to μ) (state x)

    R : ℕ
    R = completes outside μ t (k - m) w ν

    here : get_or s t 0 ≡ get_or ν t 0
    here = below t (omega arith)

    at_t : (x : ℕ) → get_or (state x) t 0 ≡ get_or s t 0 + (k - x)
    at_t x = get-added_at t (k - x) s (mark false x) (omega arith)

    wrong : (x : ℕ) → (get_or s t 0 + (k - x) < get_or μ t 0) ⊎ (get_or μ t 0 < get_or s t 0 + (k - x)) → X x ≡ 0
    wrong x (inl h) =
        let e = length_put false t (k - x) x s in let d = at_t x in
        below_fixed false n outside t x 0 t (drop 1 w) μ (comes_to μ) (state x) (comes-below n μ) (omega arith) (omega arith) (omega arith) (omega arith) (omega arith)
    wrong x (inr h) = over_bound false n outside t k x (drop 1 w) μ (comes_to μ) s (comes-inside μ) (omega arith) long (omega arith) h

    apart : (x y : ℕ) → y + m ≡ k → get_or ν t 0 ≤ get_or μ t 0 → x ≤ k → (x ≡ y → ⊥) → X x ≡ 0
    apart x y e q g h = wrong x (split (cases_lt (get_or s t 0 + (k - x)) (get_or μ t 0)))
      where
        split : (get_or s t 0 + (k - x) < get_or μ t 0) ⊎ (get_or μ t 0 ≤ get_or s t 0 + (k - x)) → (get_or s t 0 + (k - x) < get_or μ t 0) ⊎ (get_or μ t 0 < get_or s t 0 + (k - x))
        split (inl c) = inl c
        split (inr c) = let z = here in inr (other (cases_lt (get_or μ t 0) (get_or s t 0 + (k - x))))
          where
            other : (get_or μ t 0 < get_or s t 0 + (k - x)) ⊎ (get_or s t 0 + (k - x) ≤ get_or μ t 0) → get_or μ t 0 < get_or s t 0 + (k - x)
            other (inl d) = d
            other (inr d) = let z' = here in absurd (h (omega arith))

    within : (x : ℕ) → x < b → x ≤ k
    within x h = let e = most_within outside t k w o in omega arith

    before : (j : ℕ) → t ≡ suc j → get_or s j 0 ≡ get_or ν j 0
    before j e = below j (omega arith)

    Rest : Type 0
    Rest = (k' : ℕ) (s' : List ℕ) → n ≤ length s' → outside ≤ k' → ((j : ℕ) → j < t → get_or s' j 0 ≡ get_or ν j 0) → ((j : ℕ) → t ≤ j → j < n → get_or s' j 0 ≡ get_or μ j 0)
        → cond (is_open outside μ ν t k' w) (filled false n outside t k' (drop 1 w) (comes_to μ) s') 0 ≡ completes outside μ t k' w ν

    next : get_or ν t 0 ≤ get_or μ t 0 → outside + m ≤ k → Rest → cond (is_open outside μ ν t (k - m) w) (X (k - m)) 0 ≡ R
    next q g rest =
        rest (k - m) (state (k - m)) (let e = length_put false t (k - (k - m)) (k - m) s in omega arith) (omega arith)
        (λ j h. get-added_before t (k - (k - m)) j s (mark false (k - m)) h (omega arith) ∙ below j (omega arith))
        (λ j h g'. later j h g' (cases_lt t j))
      where
        later : (j : ℕ) → t ≤ j → j < n → (t < j) ⊎ (j ≤ t) → get_or (state (k - m)) j 0 ≡ get_or μ j 0
        later j h g' (inl c) = get-added_other t (k - (k - m)) j s (mark false (k - m)) c (omega arith) ∙ same j c g'
        later j h g' (inr c) =
            let e : j ≡ t = omega arith in
            let d = at_t (k - m) in
            let z = here in
            let v : get_or (state (k - m)) t 0 ≡ get_or μ t 0 = omega arith in
            ap (λ i. get_or (state (k - m)) i 0) e ∙ v ∙ sym (ap (λ i. get_or μ i 0) e)

    chosen : (u : Bool) → is_open outside μ ν t (k - m) w ≡ u → get_or ν t 0 ≤ get_or μ t 0 → outside + m ≤ k
        → sum_by X (numbers_from a (b - a)) ≡ cond u (X (k - m)) 0
    chosen true e q g =
        let r = open_range t outside k (k - m) μ s ν w (omega arith) (omega arith) here before e in
        sum-single X a b (k - m) r.low r.high (λ x l' h' ne. apart x (k - m) (omega arith) q (within x h') ne)
    chosen false e q g =
        numbers-zero X a (b - a) (λ x l' h'. none x l' (omega arith) (equal x))
      where
        equal : (x : ℕ) → (x ≡ k - m) ⊎ (x ≡ k - m → ⊥)
        equal x = pick (cases_lt x (k - m)) (cases_lt (k - m) x)
          where
            pick : (x < k - m) ⊎ (k - m ≤ x) → (k - m < x) ⊎ (x ≤ k - m) → (x ≡ k - m) ⊎ (x ≡ k - m → ⊥)
            pick (inl c) d = inr (λ z. absurd (omega arith))
            pick (inr c) (inl d) = inr (λ z. absurd (omega arith))
            pick (inr c) (inr d) = inl (omega arith)

        none : (x : ℕ) → a ≤ x → x < b → (x ≡ k - m) ⊎ (x ≡ k - m → ⊥) → X x ≡ 0
        none x l' h' (inl z) = absurd (contra (range_open t outside k (k - m) μ s ν w (omega arith) q here before falls (omega arith) (omega arith)))
          where
            contra : is_open outside μ ν t (k - m) w ≡ true → ⊥
            contra y = let z' = e in cc
        none x l' h' (inr z) = apart x (k - m) (omega arith) q (within x h') z

    by : (get_or μ t 0 < get_or ν t 0) ⊎ (get_or ν t 0 ≤ get_or μ t 0) → (k < outside + m) ⊎ (outside + m ≤ k) → Rest
        → sum_by X (numbers_from a (b - a)) ≡ cond (nat_le (get_or ν t 0) (get_or μ t 0) && nat_le (outside + m) k) R 0
    by (inl c) d rest =
        numbers-zero X a (b - a) (λ x l' h'. let z = here in wrong x (inr (omega arith)))
        ∙ sym (ap (λ u. cond (u && nat_le (outside + m) k) R 0) (lt-leb (get_or ν t 0) (get_or μ t 0) c))
    by (inr c) (inl d) rest =
        numbers-zero X a (b - a) (λ x l' h'. let z = here in let g = least_outside outside t k s in wrong x (inl (omega arith)))
        ∙ sym (ap (λ u. cond (u && nat_le (outside + m) k) R 0) (le-leb (get_or ν t 0) (get_or μ t 0) c) ∙ ap (λ u. cond u R 0) (lt-leb (outside + m) k d))
    by (inr c) (inr d) rest =
        chosen (is_open outside μ ν t (k - m) w) refl c d ∙ next c d rest
        ∙ sym (ap (λ u. cond (u && nat_le (outside + m) k) R 0) (le-leb (get_or ν t 0) (get_or μ t 0) c) ∙ ap (λ u. cond u R 0) (le-leb (outside + m) k d))

past-end : (μ : List ℕ) → get_or μ (length μ) 0 ≡ 0
past-end [] = refl
past-end (a ∷ μ) = past-end μ

open_all : (outside t k : ℕ) (μ ν right : List ℕ) → 0 < t → get_or μ t 0 ≡ 0 → is_open outside μ ν t k right ≡ may_precede nat_le k right
open_all outside zero k μ ν right h e = absurd (omega arith)
open_all outside (suc t) k μ ν right h e =
    ap (λ u. may_precede nat_le k right && u) (le-leb (get_or μ (suc t) 0) (get_or ν t 0) (omega arith)) ∙ always (may_precede nat_le k right)
  where
    always : (u : Bool) → u && true ≡ u
    always true = refl
    always false = refl

-- the ways to add the last row to the weakly decreasing sum ν so that it becomes μ
pub last_row : (outside k : ℕ) (μ ν right : List ℕ) → ArePositive μ → 0 < length μ → length ν ≡ length μ → outside ≤ k → ((j : ℕ) → get_or ν (suc j) 0 ≤ get_or ν j 0)
    → next_row (length μ) false outside k (comes_to μ) ν right ≡ completes outside μ (length μ) k right ν
last_row outside k μ ν right p some long o falls =
    ap (λ u. cond u (filled false (length μ) outside (length μ) k (drop 1 right) (comes_to μ) ν) 0) (sym (open_all outside (length μ) k μ ν right some (past-end μ)))
    ∙ completed outside μ p (length μ) k ν ν right (omega arith) (omega arith) o falls (λ j h. refl) (λ j h g. absurd (omega arith))
