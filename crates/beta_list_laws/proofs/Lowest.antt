-- The lowest list (`lowest` of specs/LowestList) has, in place of each entry x of a list, the number x % n + n·m; here m is the number of later
-- entries that leave the remainder of x modulo n. A strictly decreasing list is full (`IsFull`) if no entry x can be lowered to x - n.
--     lowest_moves      if an entry y + n becomes y and moves to the right over `middle`, the sorted lowest list does not change; the number of
--                       increasing pairs of the lowest list changes, modulo 2, by the length of `middle`
--     full_lowest       the lowest list of a full list is that list
use Rattle.std.proofs.Common.{◌≡◌, ℕ, suc, ◌+◌, ◌-◌, ◌*◌, ◌%◌, ◌<◌, ◌≤◌, ◌⊎◌, inl, inr, true, List, [], ◌∷◌, ◌++◌, length, refl, sym, ◌∙◌, ap, ap₂, subst, arith, rules}
use Rattle.std.proofs.lemmas.Bool.{cases_lt, cases_eq}
use Rattle.std.proofs.Math.Nat.{add-mod_right, mod-eq_of_lt, mod-le}
use Rattle.sym_model.specs.Partition.{Falls}
use Rattle.sym_model.specs.Bases.{has}
use Rattle.sym_model.specs.BetaList.{greater, rising_pairs}
use Rattle.sym_model.proofs.SortedParts.{has_past}
use Rattle.sym_model.proofs.Numbers.{counts-not_less}
use Rattle.beta_list_laws.specs.StrictFall.{FallsStrictly}
use Rattle.beta_list_laws.specs.FullBetaList.{IsFull}
use Rattle.beta_list_laws.proofs.BetaLists.{strict_tail}
use Rattle.beta_list_laws.proofs.BetaRemovals.{before, lowered, above_lowered}
use Rattle.beta_list_laws.proofs.NeighbourExchanges.{Resorts, resorts_itself, resorts_then, resorts_under, resorts_exchange}
use Rattle.beta_list_laws.specs.LowestList.{alike, lowest}
use Rattle.beta_list_laws.proofs.Remainders.{alike_far, between_unlike, alike-here, alike-past, alike-remainder, alike-append, lowered_remainder}
use Rattle.beta_list_laws.proofs.BetaLowerings.{not_below}

-- ---- the lowest list after an entry y + n is lowered to y and moved to the right

pub strict_second : (a b : ℕ) (c : List ℕ) → FallsStrictly (a ∷ b ∷ c) → FallsStrictly (a ∷ c)
strict_second a b [] f = tt
strict_second a b (d ∷ c) f = let p = f.0 in let q = f.1.0 in (omega arith, f.1.1)

same_counts : (n x y : ℕ) (middle back : List ℕ) → alike n x ((y + n) ∷ (middle ++ back)) ≡ alike n x (middle ++ (y ∷ back))
same_counts n x y middle back = search (rules, alike-append, add-mod_right, cases_eq, alike-here, alike-past)

unseen : (n y m : ℕ) (middle back : List ℕ) → (y % n ≡ m % n → ⊥) → alike n m (middle ++ back) ≡ alike n m (middle ++ (y ∷ back))
unseen n y m middle back d = search (rules, alike-append, alike-past)

move_behind : (n y : ℕ) (middle back : List ℕ) → FallsStrictly ((y + n) ∷ (middle ++ back)) → FallsStrictly (middle ++ (y ∷ back))
    → Resorts (length middle) (lowest n ((y + n) ∷ (middle ++ back))) (lowest n (middle ++ (y ∷ back)))
move_behind n y [] back f g = search (rules, add-mod_right, alike-remainder, resorts_itself)
move_behind n y (m ∷ middle) back f g =
    let top = (y + n) % n + alike n (y + n) (middle ++ back) * n in
    let top_now = (y + n) % n + alike n (y + n) (m ∷ (middle ++ back)) * n in
    let second = m % n + alike n m (middle ++ back) * n in
    let second_now = m % n + alike n m (middle ++ (y ∷ back)) * n in
    let less : m < y + n = f.0 in
    let more = above_lowered y m middle back g in
    let unlike : (m % n ≡ y % n → ⊥) = between_unlike n m y more less in
    let unlike_top : (m % n ≡ (y + n) % n → ⊥) = λ e. unlike (e ∙ add-mod_right y n) in
    let same_top : top ≡ top_now = ap (λ a. (y + n) % n + a * n) (sym (alike-past n (y + n) m (middle ++ back) unlike_top)) in
    let same_second : second ≡ second_now = ap (λ a. m % n + a * n) (unseen n y m middle back (λ e. unlike (sym e))) in
    let differ : (top ≡ second → ⊥) = λ e. unlike_top (sym (lowered_remainder n m (alike n m (middle ++ back))) ∙ ap (λ v. v % n) (sym e) ∙ lowered_remainder n (y + n) (alike n (y + n) (middle ++ back))) in
    let rest = lowest n (middle ++ back) in
    let tail = lowest n (middle ++ (y ∷ back)) in
    let exchange = resorts_exchange [] top second rest differ in
    let later = resorts_under (length middle) second (top ∷ rest) tail (move_behind n y middle back (strict_second (y + n) m (middle ++ back) f) (strict_tail m (middle ++ (y ∷ back)) g)) in
    let both = resorts_then 1 (length middle) (top ∷ second ∷ rest) (second ∷ top ∷ rest) (second ∷ tail) exchange later in
    let one : 1 + length middle ≡ suc (length middle) = omega arith in
    subst (λ d. Resorts d (top_now ∷ second ∷ rest) (second_now ∷ tail)) one
    (subst (λ c. Resorts (1 + length middle) (c ∷ second ∷ rest) (second_now ∷ tail)) same_top
    (subst (λ c. Resorts (1 + length middle) (top ∷ second ∷ rest) (c ∷ tail)) same_second both))

pub lowest_moves : (n y : ℕ) (front middle back : List ℕ) → FallsStrictly (before n y front middle back) → FallsStrictly (lowered y front middle back)
    → Resorts (length middle) (lowest n (before n y front middle back)) (lowest n (lowered y front middle back))
lowest_moves n y [] middle back f g = move_behind n y middle back f g
lowest_moves n y (x ∷ front) middle back f g =
    let a = alike-append n x front ((y + n) ∷ (middle ++ back)) in
    let b = alike-append n x front (middle ++ (y ∷ back)) in
    let c = same_counts n x y middle back in
    let e : alike n x (before n y front middle back) ≡ alike n x (lowered y front middle back) = omega arith in
    let later = lowest_moves n y front middle back (strict_tail x (before n y front middle back) f) (strict_tail x (lowered y front middle back) g) in
    let head = x % n + alike n x (before n y front middle back) * n in
    subst (λ h. Resorts (length middle) (head ∷ lowest n (before n y front middle back)) (h ∷ lowest n (lowered y front middle back)))
    (ap (λ a. x % n + a * n) e)
    (resorts_under (length middle) head (lowest n (before n y front middle back)) (lowest n (lowered y front middle back)) later)

-- ---- the lowest list of a full list (`IsFull`) is that list

count_full : (n x : ℕ) (b : List ℕ) → FallsStrictly (x ∷ b) → IsFull n (x ∷ b) → x % n + alike n x b * n ≡ x
count_full n x [] f g = search (rules, cases_lt, mod-eq_of_lt)
count_full n x (w ∷ b) f g =
    by (cases_lt x n) (cases_eq w (x - n)) (count_full n w b (strict_tail x (w ∷ b) f) g.1) (λ h. count_full n x b (strict_second x w b f) (h, g.1.1))
  where
    further : (w ≡ x - n → ⊥) → n ≤ x → has (x - n) b ≡ true
    further d l = sym (has_past (x - n) w b d) ∙ g.0 l

    unlike : (w ≡ x - n → ⊥) → n ≤ x → w % n ≡ x % n → ⊥
    unlike d l e = elim (cases_lt w (x - n)) [
      | inl m ↦ (let t = sym (further d l) ∙ not_below w (x - n) b (strict_tail x (w ∷ b) f) (omega arith) in cc)
      | inr m ↦ (let a = alike_far n x w (sym e) f.0 in d (omega arith))
    ]

    small_unlike : x < n → w % n ≡ x % n → ⊥
    small_unlike l e = let h = f.0 in let a = alike_far n x w (sym e) f.0 in omega arith

    by : (x < n) ⊎ (n ≤ x) → (w ≡ x - n) ⊎ (w ≡ x - n → ⊥) → w % n + alike n w b * n ≡ w → ((n ≤ x → has (x - n) b ≡ true) → x % n + alike n x b * n ≡ x)
        → x % n + alike n x (w ∷ b) * n ≡ x
    by (inl l) c first later =
        ap (λ a. x % n + a * n) (alike-past n x w b (small_unlike l)) ∙ later (λ h. absurd (omega arith))
    by (inr l) (inr d) first later =
        ap (λ a. x % n + a * n) (alike-past n x w b (unlike d l)) ∙ later (further d)
    by (inr l) (inl e) first later =
        let m : x ≡ w + n = omega arith in
        let r : x % n ≡ w % n = ap (λ z. z % n) m ∙ add-mod_right w n in
        let c = alike-here n x w b (sym r) in
        let d = alike-remainder n x w b r in
        let k : alike n x (w ∷ b) ≡ suc (alike n w b) = c ∙ ap suc d in
        ap₂ (λ u a. u + a * n) r k ∙ omega arith

pub full_lowest : (n : ℕ) (b : List ℕ) → FallsStrictly b → IsFull n b → lowest n b ≡ b
full_lowest n [] f g = refl
full_lowest n (x ∷ b) f g = ap₂ ◌∷◌ (count_full n x b f g) (full_lowest n b (strict_tail x b f) g.1)

pub strict_falls : (b : List ℕ) → FallsStrictly b → Falls b
strict_falls [] f = tt
strict_falls (a ∷ []) f = tt
strict_falls (a ∷ c ∷ b) f = let h = f.0 in (omega arith, strict_falls (c ∷ b) f.1)

none_greater : (x a : ℕ) (b : List ℕ) → FallsStrictly (a ∷ b) → a ≤ x → greater x b ≡ 0
none_greater x a [] f h = refl
none_greater x a (c ∷ b) f h = let l = f.0 in let e = counts-not_less x c (omega arith) in let g = none_greater x c b f.1 (omega arith) in omega arith

pub strict_pairs : (b : List ℕ) → FallsStrictly b → rising_pairs b ≡ 0
strict_pairs [] f = refl
strict_pairs (a ∷ b) f = let e = none_greater a a b f (omega arith) in let g = strict_pairs b (strict_tail a b f) in omega arith

pub lowered_below : (n x : ℕ) (b : List ℕ) → FallsStrictly (x ∷ b) → x % n + alike n x b * n ≤ x
lowered_below n x [] f = let e = mod-le x n in omega arith
lowered_below n x (w ∷ b) f =
    by (cases_eq (w % n) (x % n)) (lowered_below n w b (strict_tail x (w ∷ b) f)) (lowered_below n x b (strict_second x w b f))
  where
    by : (w % n ≡ x % n) ⊎ (w % n ≡ x % n → ⊥) → w % n + alike n w b * n ≤ w → x % n + alike n x b * n ≤ x → x % n + alike n x (w ∷ b) * n ≤ x
    by (inr d) first later = let e = ap (λ a. a * n) (alike-past n x w b d) in omega arith
    by (inl e) first later =
        let a = alike-here n x w b e in
        let r = alike-remainder n x w b (sym e) in
        let c : alike n x (w ∷ b) ≡ suc (alike n w b) = a ∙ ap suc r in
        let m = ap (λ a. a * n) c in
        let g = alike_far n x w (sym e) f.0 in
        omega arith
