-- The reduction of a strictly decreasing list b into the alcove (`reflected_into_alcove n b`). A reflection subtracts n from the first entry, adds n
-- to the last and sorts. The list at which the reflections of b end depends only on the remainders of b modulo n and on the sum of b.
--     alcove_reduced      the result of `reflected_into_alcove n b` satisfies `Reduced n b`
--     alcove_found        if the numbers of a window [t, t + n) with the remainders of b have the sum of b, the result is their sorted list
use Rattle.std.proofs.Common.{◌↔◌, ◌≡◌, ℕ, zero, suc, ◌+◌, ◌-◌, ◌%◌, ◌<◌, ◌≤◌, ◌⊎◌, inl, inr, true, false, ◌==◌, ◌||◌, List, [], ◌∷◌, ◌++◌, map, refl, sym, ◌∙◌, ap, ap₂, subst, arith, ℤ, ◌*ℤ◌, pos, Option, Some, None, rules}
use Rattle.std.proofs.lemmas.Bool.{cases_lt, cases_eq, cases_Bool, eq-eqb, eqb-true, or_cases, or_right as or_either, both_ways, ne_eqb}
use Rattle.std.proofs.Math.Nat.{add-mod_right, mod-mod, mod-eq-sub-mod}
use Rattle.std.proofs.Math.Bool.{or-true}
use Rattle.sym_model.specs.Partition.{size}
use Rattle.sym_model.specs.Bases.{has}
use Rattle.sym_model.specs.BetaList.{has_equal_entries, sorted_falling, rising_pairs, sorting_sign}
use Rattle.sym_model.specs.AlcoveReduction.{spread, squares, last_raised, reflected, with_sign, reflected_into_alcove}
use Rattle.sym_model.proofs.Signs.{minus_one_to_add}
use Rattle.sym_model.proofs.SortedParts.{has_here, has_past}
use Rattle.strip_laws.proofs.Reflections.{reflect_stays, reflect_wall, reflect_equal, reflect_again, squares_fall, squares_sorted, last_of}
use Rattle.beta_list_laws.specs.StrictFall.{FallsStrictly}
use Rattle.beta_list_laws.proofs.BetaLists.{strict_tail}
use Rattle.beta_list_laws.proofs.NeighbourExchanges.{KeptByExchanges, sort_reach, equal-exchange, has-sorted, size-sorted, resorts_exchange, same_sign}
use Rattle.beta_list_laws.proofs.SortedLists.{sorted_strict}
use Rattle.beta_list_laws.specs.AlcoveEnd.{remainders, match_in, IsAlcoveEnd, up}
use Rattle.beta_list_laws.proofs.Remainders.{alike_same}
use Rattle.beta_list_laws.proofs.Lowest.{strict_pairs, strict_second}
use Rattle.beta_list_laws.proofs.Windows.{LieIn, up_low, up_high, up-remainder, up_is, sorted-map-sorted, spread_is, last_below, narrow_lie, alcove_only}
use Rattle.std.proofs.lemmas.List.{map-append}

has_map : (f : ℕ → ℕ) (x : ℕ) (b : List ℕ) → has x b ≡ true → has (f x) (map f b) ≡ true
has_map f x [] e = absurd (cc)
has_map f x (y ∷ b) e = elim (or_cases (y == x) (has x b) e) [
  | inl h ↦ has_here (f x) (f y) (map f b) (ap f (eqb-true y x h))
  | inr h ↦ ap (λ t. (f y == f x) || t) (has_map f x b h) ∙ or-true (f y == f x)
]

pub equal_map : (f : ℕ → ℕ) (b : List ℕ) → has_equal_entries b ≡ true → has_equal_entries (map f b) ≡ true
equal_map f [] e = absurd (cc)
equal_map f (a ∷ b) e = elim (or_cases (has a b) (has_equal_entries b) e) [
  | inl h ↦ ap (λ t. t || has_equal_entries (map f b)) (has_map f a b h)
  | inr h ↦ ap (λ t. has (f a) (map f b) || t) (equal_map f b h) ∙ or-true (has (f a) (map f b))
]

pub equal_inside : (left : List ℕ) (x y : ℕ) (right : List ℕ) → x ≡ y → has_equal_entries (left ++ (x ∷ y ∷ right)) ≡ true
equal_inside [] x y right e = ap (λ t. t || has_equal_entries (y ∷ right)) (has_here x y right (sym e))
equal_inside (c ∷ left) x y right e = or_either (has c (left ++ (x ∷ y ∷ right))) (has_equal_entries (left ++ (x ∷ y ∷ right))) (equal_inside left x y right e)

-- ---- the least number ≥ t with the remainder of x modulo n (`up n t x`) depends only on this remainder

pub up_alike : (n t x y : ℕ) → 1 ≤ n → x % n ≡ y % n → up n t x ≡ up n t y
up_alike n t x y h e = up_is n t x (up n t y) h (up_low n t y h) (up_high n t y h) (up-remainder n t y h ∙ sym e)

pub ups_of_remainders : (n t : ℕ) (b : List ℕ) → 1 ≤ n → map (up n t) (remainders n b) ≡ map (up n t) b
ups_of_remainders n t [] h = refl
ups_of_remainders n t (x ∷ b) h = ap₂ ◌∷◌ (up_alike n t (x % n) x h (mod-mod x n)) (ups_of_remainders n t b h)

pub remainders_of_ups : (n t : ℕ) (b : List ℕ) → 1 ≤ n → remainders n (map (up n t) b) ≡ remainders n b
remainders_of_ups n t [] h = refl
remainders_of_ups n t (x ∷ b) h = ap₂ ◌∷◌ (up-remainder n t x h) (remainders_of_ups n t b h)

pub ups_lie : (n t : ℕ) (b : List ℕ) → 1 ≤ n → LieIn n t (map (up n t) b)
ups_lie n t [] h = tt
ups_lie n t (x ∷ b) h = (up_low n t x h, up_high n t x h, ups_lie n t b h)

ups_stay : (n t : ℕ) (b : List ℕ) → 1 ≤ n → LieIn n t b → map (up n t) b ≡ b
ups_stay n t [] h w = refl
ups_stay n t (x ∷ b) h w = ap₂ ◌∷◌ (up_is n t x x h w.0 w.1 refl) (ups_stay n t b h w.2)

pub ups_differ : (n t : ℕ) (b : List ℕ) → 1 ≤ n → has_equal_entries (remainders n b) ≡ false → has_equal_entries (map (up n t) b) ≡ false
ups_differ n t b h e = elim (cases_Bool (has_equal_entries (map (up n t) b))) [
  | inr f ↦ f
  | inl f ↦ absurd (both_ways (has_equal_entries (remainders n b)) e (ap has_equal_entries (sym (remainders_of_ups n t b h)) ∙ equal_map (λ x. x % n) (map (up n t) b) f))
]

match_up : (n t x : ℕ) (c : List ℕ) → 1 ≤ n → LieIn n t c → has (x % n) (remainders n c) ≡ true → match_in n c x ≡ up n t x
match_up n t x [] h w e = absurd (cc)
match_up n t x (y ∷ c) h w e = search (rules, cases_eq, eq-eqb, up_is, ne_eqb, has_past, (match_up n t x c h w.2))

pub matches_up : (n t : ℕ) (b c : List ℕ) → 1 ≤ n → LieIn n t c → ((r : ℕ) → has r (remainders n b) ≡ true → has r (remainders n c) ≡ true)
    → map (match_in n c) b ≡ map (up n t) b
matches_up n t [] c h w m = refl
matches_up n t (x ∷ b) c h w m = search (rules, match_up, has_here, or_either, (matches_up n t b c h w))

pub same_remainders_has : (n : ℕ) (b c : List ℕ) → sorted_falling (remainders n c) ≡ sorted_falling (remainders n b) → (r : ℕ) → has r (remainders n b) ≡ true → has r (remainders n c) ≡ true
same_remainders_has n b c e r h = sym (has-sorted r (remainders n c)) ∙ ap (has r) e ∙ has-sorted r (remainders n b) ∙ h

absent_remainder : (n t x : ℕ) (b : List ℕ) → FallsStrictly (x ∷ b) → t ≤ x → x < t + n → LieIn n t b → has (x % n) (remainders n b) ≡ false
absent_remainder n t x [] f a c w = refl
absent_remainder n t x (y ∷ b) f a c w =
    has_past (x % n) (y % n) (remainders n b) (λ e. let d = alike_same n t y x e w.0 w.1 a c in let l = f.0 in omega arith)
    ∙ absent_remainder n t x b (strict_second x y b f) a c w.2

distinct_narrow : (n t : ℕ) (b : List ℕ) → FallsStrictly b → LieIn n t b → has_equal_entries (remainders n b) ≡ false
distinct_narrow n t [] f w = refl
distinct_narrow n t (x ∷ b) f w =
    ap₂ ◌||◌ (absent_remainder n t x b f w.0 w.1 w.2) (distinct_narrow n t b (strict_tail x b f) w.2)

-- ---- a reflection keeps the remainders modulo n and the sum of the entries

raised_remainders : (n a : ℕ) (b : List ℕ) → remainders n (last_raised n (a ∷ b)) ≡ remainders n (a ∷ b)
raised_remainders n a [] = ap (λ r. r ∷ []) (add-mod_right a n)
raised_remainders n a (c ∷ b) = ap (λ l. (a % n) ∷ l) (raised_remainders n c b)

raised_size : (n a : ℕ) (b : List ℕ) → size (last_raised n (a ∷ b)) ≡ size (a ∷ b) + n
raised_size n a [] = omega arith
raised_size n a (c ∷ b) = let e = raised_size n c b in omega arith

reflected_remainders : (n : ℕ) (b : List ℕ) → n < spread b → remainders n (reflected n b) ≡ remainders n b
reflected_remainders n [] h = refl
reflected_remainders n (a ∷ []) h = absurd (let e = spread_is a [] in omega arith)
reflected_remainders n (a ∷ c ∷ b) h = search (rules, spread_is, mod-eq-sub-mod, raised_remainders)

reflected_size : (n : ℕ) (b : List ℕ) → n < spread b → size (reflected n b) ≡ size b
reflected_size n [] h = refl
reflected_size n (a ∷ []) h = absurd (let e = spread_is a [] in omega arith)
reflected_size n (a ∷ c ∷ b) h = search (rules, spread_is, raised_size)

has_last : (n a : ℕ) (b : List ℕ) → has (last_of a b % n) (remainders n (a ∷ b)) ≡ true
has_last n a [] = has_here (a % n) (a % n) [] refl
has_last n a (c ∷ b) = or_either (a % n == last_of c b % n) (has (last_of c b % n) (remainders n (c ∷ b))) (has_last n c b)

wall_equal : (n : ℕ) (b : List ℕ) → 1 ≤ n → FallsStrictly b → spread b ≡ n → has_equal_entries (remainders n b) ≡ true
wall_equal n [] h f e = absurd (omega arith)
wall_equal n (a ∷ []) h f e = absurd (let d = spread_is a [] in omega arith)
wall_equal n (a ∷ c ∷ b) h f e =
    let d = spread_is a (c ∷ b) in
    let l = last_below a (c ∷ b) f in
    let m : a ≡ last_of c b + n = omega arith in
    let r : last_of c b % n ≡ a % n = sym (add-mod_right (last_of c b) n) ∙ ap (λ x. x % n) (sym m) in
    ap (λ t. t || has_equal_entries (remainders n (c ∷ b))) (ap (λ x. has x (remainders n (c ∷ b))) (sym r) ∙ has_last n c b)

keeps_turns : (f : ℕ → ℕ) (k : ℕ) → KeptByExchanges (λ l. (has_equal_entries (map f l) ≡ false) × ((rising_pairs (map f l) + rising_pairs l + k) % 2 ≡ 0))
keeps_turns f k left a b right p =
    let there = map-append f left (a ∷ b ∷ right) in
    let here = map-append f left (b ∷ a ∷ right) in
    let apart = sym (ap has_equal_entries there) ∙ p.0 in
    let differ : (f a ≡ f b → ⊥) = λ e. both_ways (has_equal_entries (map f left ++ (f a ∷ f b ∷ map f right))) apart (equal_inside (map f left) (f a) (f b) (map f right) e) in
    let values = (resorts_exchange (map f left) (f a) (f b) (map f right) differ).parity in
    let entries = (resorts_exchange left a b right (λ e. differ (ap f e))).parity in
    let x = ap rising_pairs there in
    let y = ap rising_pairs here in
    let old = p.1 in
    (ap has_equal_entries here ∙ sym (equal-exchange (map f left) (f a) (f b) (map f right)) ∙ apart, omega arith)

sorted_turns : (f : ℕ → ℕ) (s : List ℕ) → has_equal_entries (map f s) ≡ false
    → (rising_pairs (map f (sorted_falling s)) + rising_pairs (sorted_falling s) + (rising_pairs (map f s) + rising_pairs s)) % 2 ≡ 0
sorted_turns f s e =
    let k = rising_pairs (map f s) + rising_pairs s in
    (sort_reach (λ l. (has_equal_entries (map f l) ≡ false) × ((rising_pairs (map f l) + rising_pairs l + k) % 2 ≡ 0)) s (keeps_turns f k) (e, omega arith)).1

sorted_sign : (f : ℕ → ℕ) (s : List ℕ) → has_equal_entries s ≡ false → has_equal_entries (map f s) ≡ false
    → sorting_sign s *ℤ sorting_sign (map f (sorted_falling s)) ≡ sorting_sign (map f s)
sorted_sign f s d e =
    let t = sorted_turns f s e in
    let z = strict_pairs (sorted_falling s) (sorted_strict s d) in
    sym (minus_one_to_add (rising_pairs s) (rising_pairs (map f (sorted_falling s))))
    ∙ same_sign (rising_pairs s + rising_pairs (map f (sorted_falling s))) (rising_pairs (map f s)) (omega arith)

equal_map_sorted : (f : ℕ → ℕ) (s : List ℕ) → has_equal_entries (map f (sorted_falling s)) ≡ has_equal_entries (map f s)
equal_map_sorted f s =
    sort_reach (λ l. has_equal_entries (map f l) ≡ has_equal_entries (map f s)) s
    (λ left a b right e.
    ap has_equal_entries (map-append f left (b ∷ a ∷ right))
    ∙ sym (equal-exchange (map f left) (f a) (f b) (map f right))
    ∙ sym (ap has_equal_entries (map-append f left (a ∷ b ∷ right)))
    ∙ e)
    refl

-- `Reduced n b r`: r is a correct result of the reduction of b. If r is None, two entries of b leave the same remainder modulo n. Otherwise all these
-- remainders are different, and r is a list c with a sign: `IsAlcoveEnd n b c` holds, c lies in some window [t, t + n), and the sign is that of
-- sorting the list `map (up n t) b`
abbrev pub Reduced : ℕ → List ℕ → Option (List ℕ × ℤ) → Type 0
Reduced n b None = has_equal_entries (remainders n b) ≡ true
Reduced n b (Some answer) =
    (has_equal_entries (remainders n b) ≡ false) × IsAlcoveEnd n b answer.0
    × (t : ℕ) × LieIn n t answer.0 × (answer.1 ≡ sorting_sign (map (up n t) b))

stays_in : (n t : ℕ) (b : List ℕ) → 1 ≤ n → FallsStrictly b → spread b < n → LieIn n t b → Reduced n b (Some (b, pos 1))
stays_in n t b h f l w = search (rules, strict_pairs, distinct_narrow, ups_stay)

stays_reduced : (n : ℕ) (b : List ℕ) → 1 ≤ n → FallsStrictly b → spread b < n → Reduced n b (Some (b, pos 1))
stays_reduced n [] h f l = stays_in n 0 [] h f l tt
stays_reduced n (a ∷ b) h f l = stays_in n (last_of a b) (a ∷ b) h f l (narrow_lie n a b f l)

again_reduced : (n : ℕ) (b : List ℕ) (later : Option (List ℕ × ℤ)) → 1 ≤ n → n < spread b → has_equal_entries (reflected n b) ≡ false
    → Reduced n (sorted_falling (reflected n b)) later → Reduced n b (with_sign (sorting_sign (reflected n b)) later)
again_reduced n b None h l d r =
    ap has_equal_entries (sym (reflected_remainders n b l)) ∙ sym (equal_map_sorted (λ x. x % n) (reflected n b)) ∙ r
again_reduced n b (Some answer) h l d r =
    let next = reflected n b in
    let same = reflected_remainders n b l in
    let apart : has_equal_entries (remainders n next) ≡ false = sym (equal_map_sorted (λ x. x % n) next) ∙ r.0 in
    let end = r.1 in
    let values : map (up n r.2) next ≡ map (up n r.2) b = sym (ups_of_remainders n r.2 next h) ∙ ap (map (up n r.2)) same ∙ ups_of_remainders n r.2 b h in (
      ap has_equal_entries (sym same) ∙ apart,
      record {
        strict = end.strict;
        sum = end.sum ∙ size-sorted next ∙ reflected_size n b l;
        alike = end.alike ∙ sorted-map-sorted (λ x. x % n) next ∙ ap sorted_falling same;
        narrow = end.narrow;
      },
      r.2,
      r.3,
      ap (λ s. sorting_sign next *ℤ s) r.4
          ∙ sorted_sign (up n r.2) next d (ups_differ n r.2 next h apart)
          ∙ ap sorting_sign values,
    )

reduced_within : (fuel n : ℕ) (b : List ℕ) → squares b < fuel → 1 ≤ n → FallsStrictly b → Reduced n b (reflected_into_alcove n b)
reduced_within zero n b q h f = absurd (omega arith)
reduced_within (suc fuel) n b q h f =
    by (cases_lt (spread b) n) (cases_lt n (spread b)) (cases_Bool (has_equal_entries (reflected n b)))
    (λ l d. reduced_within fuel n (sorted_falling (reflected n b)) (less l) h (sorted_strict (reflected n b) d))
  where
    less : n < spread b → squares (sorted_falling (reflected n b)) < fuel
    less l = let e = squares_sorted (reflected n b) in let c = squares_fall n b h l in omega arith

    by : (spread b < n) ⊎ (n ≤ spread b) → (n < spread b) ⊎ (spread b ≤ n)
        → (has_equal_entries (reflected n b) ≡ true) ⊎ (has_equal_entries (reflected n b) ≡ false)
        → (n < spread b → has_equal_entries (reflected n b) ≡ false → Reduced n (sorted_falling (reflected n b)) (reflected_into_alcove n (sorted_falling (reflected n b))))
        → Reduced n b (reflected_into_alcove n b)
    by (inl a) c d later = subst (Reduced n b) (sym (reflect_stays n b a)) (stays_reduced n b h f a)
    by (inr a) (inr c) d later = let e : spread b ≡ n = omega arith in subst (Reduced n b) (sym (reflect_wall n b e)) (wall_equal n b h f e)
    by (inr a) (inl c) (inl d) later =
        subst (Reduced n b) (sym (reflect_equal n b c d))
        (ap has_equal_entries (sym (reflected_remainders n b c)) ∙ equal_map (λ x. x % n) (reflected n b) d)
    by (inr a) (inl c) (inr d) later =
        subst (Reduced n b) (sym (reflect_again n b h c d))
        (again_reduced n b (reflected_into_alcove n (sorted_falling (reflected n b))) h c d (later c d))

pub alcove_reduced : (n : ℕ) (b : List ℕ) → 1 ≤ n → FallsStrictly b → Reduced n b (reflected_into_alcove n b)
alcove_reduced n b h f = reduced_within (suc (squares b)) n b (omega arith) h f

-- ---- the clauses of the law `alcove_law`

pub alcove_zero : (n : ℕ) (b : List ℕ) → 1 ≤ n → FallsStrictly b → reflected_into_alcove n b ≡ None → has_equal_entries (remainders n b) ≡ true
alcove_zero n b h f e = subst (Reduced n b) e (alcove_reduced n b h f)

pub alcove_none : (n : ℕ) (b : List ℕ) → 1 ≤ n → FallsStrictly b → has_equal_entries (remainders n b) ≡ true → reflected_into_alcove n b ≡ None
alcove_none n b h f e = by (reflected_into_alcove n b) (alcove_reduced n b h f)
  where
    by : (answer : Option (List ℕ × ℤ)) → Reduced n b answer → answer ≡ None
    by None r = refl
    by (Some a) r = absurd (both_ways (has_equal_entries (remainders n b)) r.0 e)

pub alcove_end : (n : ℕ) (b c : List ℕ) (sign : ℤ) → 1 ≤ n → FallsStrictly b → reflected_into_alcove n b ≡ Some (c, sign) → IsAlcoveEnd n b c
alcove_end n b c sign h f e = (subst (Reduced n b) e (alcove_reduced n b h f)).1

pub alcove_sign : (n : ℕ) (b c : List ℕ) (sign : ℤ) → 1 ≤ n → FallsStrictly b → reflected_into_alcove n b ≡ Some (c, sign) → sign ≡ sorting_sign (map (match_in n c) b)
alcove_sign n b c sign h f e =
    let r = subst (Reduced n b) e (alcove_reduced n b h f) in
    r.4 ∙ ap sorting_sign (sym (matches_up n r.2 b c h r.3 (same_remainders_has n b c r.1.alike)))

-- ---- if the numbers of a window [t, t + n) with the remainders of b have the sum of b, the reduction of b ends at the sorted list of these numbers

lies_kept : (n t : ℕ) → KeptByExchanges (LieIn n t)
lies_kept n t [] a b right w = (w.2.0, w.2.1, (w.0, w.1, w.2.2))
lies_kept n t (c ∷ left) a b right w = (w.0, w.1, lies_kept n t left a b right w.2)

lies_narrow : (n t : ℕ) (b : List ℕ) → 1 ≤ n → FallsStrictly b → LieIn n t b → spread b < n
lies_narrow n t [] h f w = omega arith
lies_narrow n t (a ∷ b) h f w = let e = spread_is a b in let l = last_lies a b w in let m = w.1 in let d = w.0 in omega arith
  where
    last_lies : (a : ℕ) (b : List ℕ) → LieIn n t (a ∷ b) → t ≤ last_of a b
    last_lies a [] v = v.0
    last_lies a (c ∷ b) v = last_lies c b v.2

pub end_found : (n t : ℕ) (b : List ℕ) → 1 ≤ n → has_equal_entries (remainders n b) ≡ false → size (map (up n t) b) ≡ size b
    → IsAlcoveEnd n b (sorted_falling (map (up n t) b))
end_found n t b h d s =
    let strict = sorted_strict (map (up n t) b) (ups_differ n t b h d) in
    record {
      strict = strict;
      sum = size-sorted (map (up n t) b) ∙ s;
      alike = sorted-map-sorted (λ x. x % n) (map (up n t) b) ∙ ap sorted_falling (remainders_of_ups n t b h);
      narrow = lies_narrow n t (sorted_falling (map (up n t) b)) h strict (sort_reach (LieIn n t) (map (up n t) b) (lies_kept n t) (ups_lie n t b h));
    }

pub alcove_found : (n t : ℕ) (b : List ℕ) → 1 ≤ n → FallsStrictly b → has_equal_entries (remainders n b) ≡ false → size (map (up n t) b) ≡ size b
    → reflected_into_alcove n b ≡ Some (sorted_falling (map (up n t) b), sorting_sign (map (up n t) b))
alcove_found n t b h f d s = by (reflected_into_alcove n b) (alcove_reduced n b h f)
  where
    by : (answer : Option (List ℕ × ℤ)) → Reduced n b answer → answer ≡ Some (sorted_falling (map (up n t) b), sorting_sign (map (up n t) b))
    by None r = absurd (both_ways (has_equal_entries (remainders n b)) d r)
    by (Some a) r =
        let found = end_found n t b h d s in
        let same : a.0 ≡ sorted_falling (map (up n t) b) = alcove_only n b a.0 (sorted_falling (map (up n t) b)) h r.1 found in
        let lies = subst (LieIn n t) (sym same) (sort_reach (LieIn n t) (map (up n t) b) (lies_kept n t) (ups_lie n t b h)) in
        let members = same_remainders_has n b a.0 r.1.alike in
        let values : map (up n r.2) b ≡ map (up n t) b = sym (matches_up n r.2 b a.0 h r.3 members) ∙ matches_up n t b a.0 h lies members in
        ap₂ (λ x y. Some (x, y)) same (r.4 ∙ ap sorting_sign values)

pub alcove_zero_where : (n : ℕ) (b : List ℕ) → 1 ≤ n → FallsStrictly b → (reflected_into_alcove n b ≡ None) ↔ (has_equal_entries (remainders n b) ≡ true)
alcove_zero_where n b h f = (alcove_zero n b h f, alcove_none n b h f)
