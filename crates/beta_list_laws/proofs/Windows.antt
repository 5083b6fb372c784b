-- Numbers and lists in a window of n numbers, t, .., t + n - 1.
--     up_low, up_high, up-remainder     `up n t x`, the least number ≥ t with the remainder of x, is in the window and has this remainder
--     up_is                             each number of the window [t, t + n) with the remainder of x is `up n t x`
--     alcove_only                       a strictly decreasing list with a spread (first minus last) below n is determined by its sum and remainders
use Rattle.std.proofs.Common.{◌≡◌, ℕ, zero, suc, ◌+◌, ◌-◌, ◌*◌, ◌/◌, ◌%◌, true, false, ◌<◌, ◌≤◌, ◌⊎◌, inl, inr, cond, List, [], ◌∷◌, ◌++◌, map, length, get_or, refl, sym, ◌∙◌, ap, ap₂, arith, rules}
use Rattle.std.proofs.lemmas.Bool.{cases_lt, cases_eq, eq-eqb, or_parts, ne_eqb}
use Rattle.std.proofs.lemmas.List.{length-map, map-append}
use Rattle.std.proofs.Math.Nat.{add-mod_right, add-mul-mod_self_left, mod-add-div', mod-lt, mod-mod}
use Rattle.sym_model.specs.Partition.{size}
use Rattle.sym_model.specs.Bases.{has}
use Rattle.sym_model.specs.BetaList.{has_equal_entries, sorted_falling}
use Rattle.sym_model.specs.AlcoveReduction.{spread}
use Rattle.beta_list_laws.specs.StrictFall.{FallsStrictly}
use Rattle.beta_list_laws.proofs.NeighbourExchanges.{sort_reach, sorted-exchange, sorted-falling, size-sorted, length-sorted}
use Rattle.sym_model.proofs.SortedParts.{has_here, has_past}
use Rattle.beta_list_laws.specs.LowestList.{alike}
use Rattle.beta_list_laws.specs.AlcoveEnd.{remainders, IsAlcoveEnd, past, up}
use Rattle.beta_list_laws.proofs.Remainders.{alike_same, alike-here, alike-past}
use Rattle.beta_list_laws.proofs.Lowest.{strict_falls}
use Rattle.strip_laws.proofs.Reflections.{last_of, last_is}

-- ---- the least number ≥ t with a given remainder modulo n

record InWindow (n t x u : ℕ) : Type 0 where
  low : t ≤ u
  high : u < t + n
  remainder : u % n ≡ x % n

past-here : (n t u : ℕ) → u ≡ t → past n t u ≡ t + n
past-here n t u e = ap (λ v. cond v (t + n) u) (eq-eqb u t e)

past-other : (n t u : ℕ) → (u ≡ t → ⊥) → past n t u ≡ u
past-other n t u d = ap (λ v. cond v (t + n) u) (ne_eqb u t d)

up_window : (n t x : ℕ) → 1 ≤ n → InWindow n t x (up n t x)
up_window n zero x h = record { low = omega arith; high = let l = mod-lt x h in omega arith; remainder = mod-mod x n }
up_window n (suc t) x h = search (rules, cases_eq, past-here, add-mod_right, past-other, (up_window n t x h))

pub up_low : (n t x : ℕ) → 1 ≤ n → t ≤ up n t x
up_low n t x h = (up_window n t x h).low

pub up_high : (n t x : ℕ) → 1 ≤ n → up n t x < t + n
up_high n t x h = (up_window n t x h).high

pub up-remainder : (n t x : ℕ) → 1 ≤ n → up n t x % n ≡ x % n
up-remainder n t x h = (up_window n t x h).remainder

pub up_is : (n t x u : ℕ) → 1 ≤ n → t ≤ u → u < t + n → u % n ≡ x % n → up n t x ≡ u
up_is n t x u h a b e = alike_same n t (up n t x) u (up-remainder n t x h ∙ sym e) (up_low n t x h) (up_high n t x h) a b

past_above : (n t u : ℕ) → u ≤ past n t u
past_above n t u = elim (cases_eq u t) [ inl e ↦ (let p = past-here n t u e in omega arith) | inr d ↦ (let p = past-other n t u d in omega arith) ]

up_rises : (n t d x : ℕ) → up n t x ≤ up n (t + d) x
up_rises n t zero x = let e : t ≡ t + 0 = omega arith in let c = ap (λ m. up n m x) e in omega arith
up_rises n t (suc d) x =
    let e : suc (t + d) ≡ t + suc d = omega arith in
    let c = ap (λ m. up n m x) e in
    let a = up_rises n t d x in
    let b = past_above n (t + d) (up n (t + d) x) in
    omega arith

-- ---- if t increases, the sum of the least numbers ≥ t with the remainders of the entries of a list does not decrease

pub map_up_same : (n t : ℕ) (s : List ℕ) (d : ℕ) → size (map (up n t) s) ≤ size (map (up n (t + d)) s)
map_up_same n t [] d = omega arith
map_up_same n t (x ∷ s) d = let a = up_rises n t d x in let b = map_up_same n t s d in omega arith

same_where_sums : (n t : ℕ) (s : List ℕ) (d : ℕ) → size (map (up n t) s) ≡ size (map (up n (t + d)) s) → map (up n t) s ≡ map (up n (t + d)) s
same_where_sums n t [] d e = refl
same_where_sums n t (x ∷ s) d e =
    let a = up_rises n t d x in
    let b = map_up_same n t s d in
    ap₂ ◌∷◌ (omega arith) (same_where_sums n t s d (omega arith))

pub sorted-map-exchange : (f : ℕ → ℕ) (left : List ℕ) (a b : ℕ) (right : List ℕ) → sorted_falling (map f (left ++ (a ∷ b ∷ right))) ≡ sorted_falling (map f (left ++ (b ∷ a ∷ right)))
sorted-map-exchange f left a b right = search (rules, map-append, sorted-exchange)

pub sorted-map-sorted : (f : ℕ → ℕ) (s : List ℕ) → sorted_falling (map f (sorted_falling s)) ≡ sorted_falling (map f s)
sorted-map-sorted f s = sort_reach (λ l. sorted_falling (map f l) ≡ sorted_falling (map f s)) s (λ left a b right e. sym (sorted-map-exchange f left a b right) ∙ e) refl

pub spread_is : (a : ℕ) (b : List ℕ) → spread (a ∷ b) ≡ a - last_of a b
spread_is a b =
    let e : length (a ∷ b) - 1 ≡ length b = omega arith in
    let d = ap (λ k. get_or (a ∷ b) k 0) e ∙ last_is a b in
    omega arith

pub last_below : (a : ℕ) (b : List ℕ) → FallsStrictly (a ∷ b) → last_of a b ≤ a
last_below a [] f = omega arith
last_below a (c ∷ b) f = let h = f.0 in let l = last_below c b f.1 in omega arith

-- each entry of the list is in the window [t, t + n)
abbrev pub LieIn : ℕ → ℕ → List ℕ → Type 0
LieIn n t [] = Unit {0}
LieIn n t (x ∷ b) = (t ≤ x) × (x < t + n) × LieIn n t b

strict_lie : (n t a : ℕ) (b : List ℕ) → FallsStrictly (a ∷ b) → t ≡ last_of a b → a < t + n → LieIn n t (a ∷ b)
strict_lie n t a [] f e l = (omega arith, l, tt)
strict_lie n t a (c ∷ b) f e l =
    let h = f.0 in
    let g = last_below c b f.1 in
    (omega arith, l, strict_lie n t c b f.1 e (omega arith))

pub narrow_lie : (n a : ℕ) (b : List ℕ) → FallsStrictly (a ∷ b) → spread (a ∷ b) < n → LieIn n (last_of a b) (a ∷ b)
narrow_lie n a b f l = let e = spread_is a b in let h = last_below a b f in strict_lie n (last_of a b) a b f refl (omega arith)

pub window_back : (n t : ℕ) (b : List ℕ) → 1 ≤ n → LieIn n t b → map (up n t) (remainders n b) ≡ b
window_back n t [] h w = refl
window_back n t (x ∷ b) h w = ap₂ ◌∷◌ (up_is n t (x % n) x h w.0 w.1 (sym (mod-mod x n))) (window_back n t b h w.2)

narrow_shown : (n a : ℕ) (b : List ℕ) → 1 ≤ n → FallsStrictly (a ∷ b) → spread (a ∷ b) < n
    → a ∷ b ≡ sorted_falling (map (up n (last_of a b)) (sorted_falling (remainders n (a ∷ b))))
narrow_shown n a b h f l =
    sym (sorted-falling (a ∷ b) (strict_falls (a ∷ b) f))
    ∙ ap sorted_falling (sym (window_back n (last_of a b) (a ∷ b) h (narrow_lie n a b f l)))
    ∙ sym (sorted-map-sorted (up n (last_of a b)) (remainders n (a ∷ b)))

shown_same : (n t d : ℕ) (s c e : List ℕ) → c ≡ sorted_falling (map (up n t) s) → e ≡ sorted_falling (map (up n (t + d)) s) → size c ≡ size e → c ≡ e
shown_same n t d s c e p q z =
    let u = ap size p ∙ size-sorted (map (up n t) s) in
    let v = ap size q ∙ size-sorted (map (up n (t + d)) s) in
    p ∙ ap sorted_falling (same_where_sums n t s d (omega arith)) ∙ sym q

same_remainders_length : (n : ℕ) (c d : List ℕ) → sorted_falling (remainders n c) ≡ sorted_falling (remainders n d) → length c ≡ length d
same_remainders_length n c d e = search (rules, length-sorted, length-map)

pub length-end : (n : ℕ) (b c : List ℕ) → IsAlcoveEnd n b c → length c ≡ length b
length-end n b c w = same_remainders_length n c b w.alike

pub alcove_only : (n : ℕ) (b c d : List ℕ) → 1 ≤ n → IsAlcoveEnd n b c → IsAlcoveEnd n b d → c ≡ d
alcove_only n b [] [] h w v = refl
alcove_only n b [] (y ∷ d) h w v = let p = length-end n b [] w in let q = length-end n b (y ∷ d) v in absurd (omega arith)
alcove_only n b (x ∷ c) [] h w v = let p = length-end n b (x ∷ c) w in let q = length-end n b [] v in absurd (omega arith)
alcove_only n b (x ∷ c) (y ∷ d) h w v =
    by (cases_lt (last_of y d) (last_of x c))
    (narrow_shown n x c h w.strict w.narrow ∙ ap (λ s. sorted_falling (map (up n (last_of x c)) s)) w.alike)
    (narrow_shown n y d h v.strict v.narrow ∙ ap (λ s. sorted_falling (map (up n (last_of y d)) s)) v.alike)
    (w.sum ∙ sym v.sum)
  where
    by : (last_of y d < last_of x c) ⊎ (last_of x c ≤ last_of y d)
        → x ∷ c ≡ sorted_falling (map (up n (last_of x c)) (sorted_falling (remainders n b)))
        → y ∷ d ≡ sorted_falling (map (up n (last_of y d)) (sorted_falling (remainders n b)))
        → size (x ∷ c) ≡ size (y ∷ d) → x ∷ c ≡ y ∷ d
    by (inl l) p q e =
        let k = last_of x c - last_of y d in
        let m : last_of x c ≡ last_of y d + k = omega arith in
        sym (shown_same n (last_of y d) k (sorted_falling (remainders n b)) (y ∷ d) (x ∷ c) q (p ∙ ap (λ t. sorted_falling (map (up n t) (sorted_falling (remainders n b)))) m) (sym e))
    by (inr l) p q e =
        let k = last_of y d - last_of x c in
        let m : last_of y d ≡ last_of x c + k = omega arith in
        shown_same n (last_of x c) k (sorted_falling (remainders n b)) (x ∷ c) (y ∷ d) p (q ∙ ap (λ t. sorted_falling (map (up n t) (sorted_falling (remainders n b)))) m) e

up-multiple : (n q x : ℕ) → 1 ≤ n → up n (n * q) x ≡ x % n + n * q
up-multiple n q x h =
    let l = mod-lt x h in
    up_is n (n * q) x (x % n + n * q) h (omega arith) (omega arith) (add-mul-mod_self_left (x % n) n q ∙ mod-mod x n)

pub size-multiple : (n q : ℕ) (b : List ℕ) → 1 ≤ n → size (map (up n (n * q)) b) ≡ size (remainders n b) + n * q * length b
size-multiple n q [] h = omega arith
size-multiple n q (x ∷ b) h = let e = up-multiple n q x h in let r = size-multiple n q b h in omega arith

-- if t increases by 1, the sum of the least numbers ≥ t with the remainders of b increases by n for each entry of b with the remainder of t
pub size-next : (n t : ℕ) (b : List ℕ) → 1 ≤ n → size (map (up n (suc t)) b) ≡ size (map (up n t) b) + n * alike n t b
size-next n t [] h = omega arith
size-next n t (x ∷ b) h = search (rules, cases_eq, up_is, past-here, alike-here, past-other, up-remainder, alike-past, (size-next n t b h))

pub size_above : (n t : ℕ) (b : List ℕ) → 1 ≤ n → t * length b ≤ size (map (up n t) b)
size_above n t [] h = omega arith
size_above n t (x ∷ b) h = let l = up_low n t x h in let r = size_above n t b h in omega arith

pub size_remainders : (n x turns : ℕ) (b : List ℕ) → size b ≡ size (remainders n b) + turns * n → size (x ∷ b) ≡ size (remainders n (x ∷ b)) + (turns + x / n) * n
size_remainders n x turns b e = let d = mod-add-div' x n in omega arith

pub has_alike : (n x : ℕ) (b : List ℕ) → 1 ≤ alike n x b → has (x % n) (remainders n b) ≡ true
has_alike n x [] h = absurd (omega arith)
has_alike n x (y ∷ b) h = search (rules, cases_eq, has_here, alike-past, has_past, (has_alike n x b))

pub lacks_alike : (n x : ℕ) (b : List ℕ) → alike n x b ≡ 0 → has (x % n) (remainders n b) ≡ false
lacks_alike n x [] h = refl
lacks_alike n x (y ∷ b) h = search (rules, cases_eq, alike-here, alike-past, has_past, (lacks_alike n x b))

pub alike_once : (n x : ℕ) (b : List ℕ) → has_equal_entries (remainders n b) ≡ false → alike n x b ≤ 1
alike_once n x [] d = omega arith
alike_once n x (y ∷ b) d = search (rules, cases_eq, or_parts, has_alike, alike-here, alike-past, (alike_once n x b))
