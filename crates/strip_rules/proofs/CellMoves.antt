-- The beta sets that result from adding cells one after another (specs/BeadMoves). There is a bead at the place b for each number b of a set, and a
-- cell is added by moving a bead up by one place.
--     cells-tell, among-cells     a set results from adding k cells if and only if its beads have moved up, as the strip allows, by k places in all
--     once_cells                  the list `with_cells` of the sets that result from adding k cells has no set twice
--     few_cells                   at most 20^k sets result from a set of 20 numbers
use Rattle.std.proofs.lemmas.Grind.{common_steps}
use Rattle.std.proofs.Common.{◌≡◌, ◌⊎◌, ℕ, zero, suc, ◌+◌, ◌-◌, ◌*◌, ◌^◌, ◌<◌, ◌≤◌, nat_le, Bool, true, false, ◌||◌, List, [], ◌∷◌, filter, length, refl, sym, ap, ap₂, ◌∙◌, subst, inl, inr, arith, flat_map, length-append, rules}
use Rattle.std.specs.Prelude.{nat_lt, not}
use Rattle.std.proofs.Math.Nat.{pow-le-pow_right, mul-le-mul_right}
use Rattle.std.proofs.lemmas.Bool.{cases_eq, cases_lt, ne_eqb, leb-true, ltb-true, not-true}
use Rattle.sym_model.specs.Sum.{Among, Once}
use Rattle.sym_model.specs.Bases.{has}
use Rattle.sym_model.specs.Partition.{size}
use Rattle.sym_model.proofs.Sums.{Among-each, Among_from_each, Once-each, Among-select, Among_from_select, Once-select}
use Rattle.sym_model.proofs.SortedParts.{not_first}
use Rattle.beta_sets.specs.BetaSets.{numbers, set_of, free}
use Rattle.beta_sets.proofs.GreatestPlaces.{places_strict}
use Rattle.beta_sets.proofs.SetNumbers.{set_of-numbers}
use Rattle.strip_rules.specs.declared.bead_strips.Strip.{Strip}
use Rattle.strip_rules.specs.declared.bead_strips.Strip.TheVariants.{Horizontal, Vertical}
use Rattle.strip_rules.specs.BeadMoves.{first_bound, next_bound, next_places, with_cells}
use Rattle.strip_rules.proofs.BeadLists.{Steps, barrier, AreMoved, FallsBelow, falls_below, falls_wider, size_moved, none_moved, numbers-set_of}
use Rattle.sym_model.proofs.Lists.{length-filter-within}
use Rattle.sym_model.proofs.Numbers.{pow_next}
use native.Mathlib.Nat.{eq_of_mul-eq-mul_right}
use Rattle.std.proofs.lemmas.Nat.{pow-add}
use Rattle.partitions.proofs.Growing.{not_more}

-- `raised` is the strictly decreasing list `beads` with its entry b replaced by b + 1, which is less than the entry before b, or less than `limit`
-- if b is the first entry
abbrev pub IsRaised : ℕ → ℕ → List ℕ → List ℕ → Type 0
IsRaised b limit [] raised = ⊥
IsRaised b limit (x ∷ beads) [] = ⊥
IsRaised b limit (x ∷ beads) (y ∷ raised) = ((x ≡ b) × (y ≡ b + 1) × (raised ≡ beads) × (b + 1 < limit)) ⊎ ((y ≡ x) × IsRaised b x beads raised)

raised_falls : (b limit : ℕ) (beads raised : List ℕ) → FallsBelow limit beads → IsRaised b limit beads raised → FallsBelow limit raised
raised_falls b limit [] raised f r = absurd r
raised_falls b limit (x ∷ beads) [] f r = absurd r
raised_falls b limit (x ∷ beads) (y ∷ raised) f (inl r) = search (rules, falls_wider)
raised_falls b limit (x ∷ beads) (y ∷ raised) f (inr r) = search (rules, falls_wider, (raised_falls b x beads raised f.1 r.1))

raised_length : (b limit : ℕ) (beads raised : List ℕ) → IsRaised b limit beads raised → length raised ≡ length beads
raised_length b limit [] raised r = absurd r
raised_length b limit (x ∷ beads) [] r = absurd r
raised_length b limit (x ∷ beads) (y ∷ raised) (inl r) = ap suc (ap length r.2)
raised_length b limit (x ∷ beads) (y ∷ raised) (inr r) = ap suc (raised_length b x beads raised r.1)

raised_size : (b limit : ℕ) (beads raised : List ℕ) → IsRaised b limit beads raised → size raised ≡ size beads + 1
raised_size b limit [] raised r = absurd r
raised_size b limit (x ∷ beads) [] r = absurd r
raised_size b limit (x ∷ beads) (y ∷ raised) (inl r) = let e = r.0 in let g = r.1 in let h = ap size r.2 in omega arith
raised_size b limit (x ∷ beads) (y ∷ raised) (inr r) = let e = r.0 in let h = raised_size b x beads raised r.1 in omega arith

raised_sum : (b limit : ℕ) (beads raised : List ℕ) → IsRaised b limit beads raised → set_of raised ≡ set_of beads + 2 ^ b
unfolding set_of
raised_sum b limit [] raised r = absurd r
raised_sum b limit (x ∷ beads) [] r = absurd r
raised_sum b limit (x ∷ beads) (y ∷ raised) (inl r) = grind (arith, common_steps)
raised_sum b limit (x ∷ beads) (y ∷ raised) (inr r) = search (rules, (raised_sum b x beads raised r.1))

has_later : (a x : ℕ) (beads : List ℕ) → has a (x ∷ beads) ≡ false → has a beads ≡ false
has_later a x beads e = search rules

pub member_below : (limit b : ℕ) (beads : List ℕ) → FallsBelow limit beads → Among b beads → b < limit
member_below limit b [] f m = absurd m
member_below limit b (x ∷ beads) f (inl e) = let l = f.0 in omega arith
member_below limit b (x ∷ beads) f (inr m) = let l = f.0 in let r = member_below x b beads f.1 m in omega arith

can_move : (b limit : ℕ) (beads : List ℕ) → FallsBelow limit beads → Among b beads → has (b + 1) beads ≡ false → b + 1 < limit → (raised : List ℕ) × IsRaised b limit beads raised
can_move b limit [] f m h l = absurd m
can_move b limit (x ∷ beads) f (inl e) h l = ((b + 1) ∷ beads, inl (sym e, refl, refl, l))
can_move b limit (x ∷ beads) f (inr m) h l =
    let below = member_below x b beads f.1 m in
    let apart = not_first (b + 1) x beads h in
    let r = can_move b x beads f.1 m (has_later (b + 1) x beads h) (by below apart (cases_eq x (b + 1))) in
    (x ∷ r.0, inr (refl, r.1))
  where
    by : b < x → (x ≡ b + 1 → ⊥) → (x ≡ b + 1) ⊎ (x ≡ b + 1 → ⊥) → b + 1 < x
    by below apart (inl e) = absurd (apart e)
    by below apart (inr n) = omega (arith, below, n)

moves_there : (b limit : ℕ) (beads raised : List ℕ) → FallsBelow limit beads → IsRaised b limit beads raised → Among b beads × (b + 1 < limit)
moves_there b limit [] raised f r = absurd r
moves_there b limit (x ∷ beads) [] f r = absurd r
moves_there b limit (x ∷ beads) (y ∷ raised) f (inl r) = (inl (sym r.0), r.3)
moves_there b limit (x ∷ beads) (y ∷ raised) f (inr r) = let h = moves_there b x beads raised f.1 r.1 in let l = f.0 in let k = h.1 in (inr h.0, omega arith)

pub past_all : (a limit : ℕ) (beads : List ℕ) → FallsBelow limit beads → limit ≤ a → has a beads ≡ false
past_all a limit [] f l = refl
past_all a limit (x ∷ beads) f l = search (rules, ne_eqb, (past_all a x beads f.1 (omega arith)))

next_free : (b limit : ℕ) (beads raised : List ℕ) → FallsBelow limit beads → IsRaised b limit beads raised → has (b + 1) beads ≡ false
next_free b limit [] raised f r = absurd r
next_free b limit (x ∷ beads) [] f r = absurd r
next_free b limit (x ∷ beads) (y ∷ raised) f (inl r) = search (rules, ne_eqb, past_all)
next_free b limit (x ∷ beads) (y ∷ raised) f (inr r) =
    let l = (moves_there b x beads raised f.1 r.1).1 in
    ap (λ t. t || has (b + 1) beads) (ne_eqb x (b + 1) (λ i. omega (arith, i, l))) ∙ next_free b x beads raised f.1 r.1

-- ---- moves in which only the beads within a bound may leave their places

-- the place b is outside the bound for the next bead that moves: below it in a horizontal strip, and not below it in a vertical strip
abbrev pub IsOutside : Strip → ℕ → ℕ → Type 0
IsOutside Horizontal bound b = b < bound
IsOutside Vertical bound b = bound ≤ b

abbrev pub AreMovedWithin : Strip → ℕ → ℕ → List ℕ → List ℕ → Type 0
AreMovedWithin strip bound limit [] [] = Unit {0}
AreMovedWithin strip bound limit [] (c ∷ moved) = ⊥
AreMovedWithin strip bound limit (b ∷ beads) [] = ⊥
AreMovedWithin strip bound limit (b ∷ beads) (c ∷ moved) = Steps strip limit b c × (IsOutside strip bound b → c ≡ b) × AreMovedWithin strip bound (barrier strip b c) beads moved

pub forget_bound : (strip : Strip) (bound limit : ℕ) (beads moved : List ℕ) → AreMovedWithin strip bound limit beads moved → AreMoved strip limit beads moved
forget_bound strip bound limit [] [] a = tt
forget_bound strip bound limit [] (c ∷ moved) a = absurd a
forget_bound strip bound limit (b ∷ beads) [] a = absurd a
forget_bound strip bound limit (b ∷ beads) (c ∷ moved) a = (a.0, forget_bound strip bound (barrier strip b c) beads moved a.2)

-- if all beads are below 63, no bead is outside the bound of the first move, so moved beads (`AreMoved`) are moved within that bound
-- (`AreMovedWithin`)
pub all_inside : (strip : Strip) (limit : ℕ) (beads moved : List ℕ) → FallsBelow 63 beads → AreMoved strip limit beads moved → AreMovedWithin strip (first_bound strip) limit beads moved
all_inside strip limit [] [] f a = tt
all_inside strip limit [] (c ∷ moved) f a = absurd a
all_inside strip limit (b ∷ beads) [] f a = absurd a
all_inside strip limit (b ∷ beads) (c ∷ moved) f a =
    let l = f.0 in
    (a.0, inside strip l, all_inside strip (barrier strip b c) beads moved (falls_wider b 63 beads (omega arith) f.1) a.1)
  where
    inside : (s : Strip) → b < 63 → IsOutside s (first_bound s) b → c ≡ b
    inside Horizontal l o = absurd (omega (arith, o))
    inside Vertical l o = absurd (omega (arith, o, l))

lower_bound : (bound other limit : ℕ) (beads moved : List ℕ) → FallsBelow other beads → other ≤ bound → AreMovedWithin Vertical bound limit beads moved → AreMovedWithin Vertical other limit beads moved
lower_bound bound other limit [] [] f l a = tt
lower_bound bound other limit [] (c ∷ moved) f l a = absurd a
lower_bound bound other limit (b ∷ beads) [] f l a = absurd a
lower_bound bound other limit (b ∷ beads) (c ∷ moved) f l a =
    let h = f.0 in (a.0, λ o. absurd (omega (arith, o, h)), lower_bound bound other c beads moved (falls_wider b other beads (omega arith) f.1) l a.2)

higher_bound : (bound other limit : ℕ) (beads moved : List ℕ) → FallsBelow other beads → other ≤ bound → AreMovedWithin Vertical other limit beads moved → AreMovedWithin Vertical bound limit beads moved
higher_bound bound other limit [] [] f l a = tt
higher_bound bound other limit [] (c ∷ moved) f l a = absurd a
higher_bound bound other limit (b ∷ beads) [] f l a = absurd a
higher_bound bound other limit (b ∷ beads) (c ∷ moved) f l a =
    let h = f.0 in (a.0, λ o. absurd (omega (arith, o, h, l)), higher_bound bound other c beads moved (falls_wider b other beads (omega arith) f.1) l a.2)

none_below : (bound limit : ℕ) (beads moved : List ℕ) → FallsBelow bound beads → AreMovedWithin Horizontal bound limit beads moved → moved ≡ beads
none_below bound limit [] [] f a = refl
none_below bound limit [] (c ∷ moved) f a = absurd a
none_below bound limit (b ∷ beads) [] f a = absurd a
none_below bound limit (b ∷ beads) (c ∷ moved) f a =
    let h = f.0 in ap₂ (λ (x : ℕ) xs. x ∷ xs) (a.1 h) (none_below bound b beads moved (falls_wider b bound beads (omega arith) f.1) a.2)

same_barrier : (strip : Strip) (b : ℕ) → barrier strip b b ≡ b
same_barrier Horizontal b = refl
same_barrier Vertical b = refl

stay_within : (strip : Strip) (bound limit : ℕ) (beads : List ℕ) → FallsBelow limit beads → AreMovedWithin strip bound limit beads beads
stay_within strip bound limit [] f = tt
stay_within strip bound limit (b ∷ beads) f = search (rules, barrier, same_barrier, (stay_within strip bound (barrier strip b b) beads))

-- ---- k moves by one place: the first one, and then the other ones

pub different : Horizontal ≡ Vertical → ⊥
different e = search rules

-- if the bead at b, not outside the bound, moves up by one place, and the resulting beads `raised` move to `moved` within the bound for the next
-- bead, then `beads` move to `moved` within the bound (`AreMovedWithin`)
pub moved_first : (strip : Strip) (bound limit b : ℕ) (beads raised moved : List ℕ) → FallsBelow limit beads → IsRaised b limit beads raised → (IsOutside strip bound b → ⊥)
    → AreMovedWithin strip (next_bound strip b) limit raised moved → AreMovedWithin strip bound limit beads moved
moved_first strip bound limit b [] raised moved f r i a = absurd r
moved_first strip bound limit b (x ∷ beads) [] moved f r i a = absurd r
moved_first strip bound limit b (x ∷ beads) (y ∷ raised) [] f r i a = absurd a
moved_first Horizontal bound limit b (x ∷ beads) (y ∷ raised) (c ∷ moved) f (inl r) i a =
    search (rules, none_below, falls_wider, different, stay_within)
moved_first Horizontal bound limit b (x ∷ beads) (y ∷ raised) (c ∷ moved) f (inr r) i a =
    search (rules, moves_there, different, (moved_first Horizontal bound x b beads raised moved f.1 r.1 i))
moved_first Vertical bound limit b (x ∷ beads) (y ∷ raised) (c ∷ moved) f (inl r) i a = search (rules, cases_lt, higher_bound)
moved_first Vertical bound limit b (x ∷ beads) (y ∷ raised) (c ∷ moved) f (inr r) i a =
    let e = r.0 in
    let l = (moves_there b x beads raised f.1 r.1).1 in
    let same : c ≡ y = a.1 (omega arith) in
    let here : c ≡ x = same ∙ r.0 in (
      record { up = omega arith; below = a.0.below; one = λ v. omega arith },
      λ o. here,
      subst (λ n. AreMovedWithin Vertical bound n beads moved) (sym here)
          (moved_first Vertical bound x b beads raised moved f.1 r.1 i (subst (λ n. AreMovedWithin Vertical b n raised moved) here a.2)),
    )

-- `beads` move to `moved` in this way: the bead at `place`, not outside the bound, moves up by one place, and then the resulting beads `raised` move
-- to `moved` within the bound for the next bead
pub record MovesFirst (strip : Strip) (bound limit : ℕ) (beads moved : List ℕ) : Type 0 where
  pub place : ℕ
  pub raised : List ℕ
  pub is : IsRaised place limit beads raised
  pub inside : IsOutside strip bound place → ⊥
  pub then : AreMovedWithin strip (next_bound strip place) limit raised moved

pub first_moved : (strip : Strip) (bound limit : ℕ) (beads moved : List ℕ) → FallsBelow limit beads → AreMovedWithin strip bound limit beads moved → size beads < size moved → MovesFirst strip bound limit beads moved
first_moved strip bound limit [] [] f a l = absurd (omega arith)
first_moved strip bound limit [] (c ∷ moved) f a l = absurd a
first_moved strip bound limit (x ∷ beads) [] f a l = absurd a
first_moved Horizontal bound limit (x ∷ beads) (c ∷ moved) f a l = by (cases_lt (size beads) (size moved)) (first_moved Horizontal bound x beads moved f.1 a.2)
  where
    by : (size beads < size moved) ⊎ (size moved ≤ size beads) → (size beads < size moved → MovesFirst Horizontal bound x beads moved) → MovesFirst Horizontal bound limit (x ∷ beads) (c ∷ moved)
    by (inl g) later =
        let r = later g in
        let k = (moves_there r.place x beads r.raised f.1 r.is).1 in
        record {
          place = r.place;
          raised = x ∷ r.raised;
          is = inr (refl, r.is);
          inside = r.inside;
          then = (a.0, λ o. absurd (omega (arith, o, k)), r.then);
        }
    by (inr g) later =
        let m = size_moved Horizontal x beads moved (forget_bound Horizontal bound x beads moved a.2) in
        let stays = none_moved Horizontal x beads moved (forget_bound Horizontal bound x beads moved a.2) (omega arith) in
        let u = a.0.up in
        let d = a.0.below in
        let moves : x < c = omega (arith, g, l, u) in
        record {
          place = x;
          raised = (x + 1) ∷ beads;
          is = inl (refl, refl, refl, omega arith);
          inside = λ o. let e = a.1 o in omega (arith, e, moves);
          then = (
            record { up = omega arith; below = a.0.below; one = λ v. absurd (different v) },
            λ o. absurd (omega (arith, o)),
            subst (AreMovedWithin Horizontal (x + 1) (x + 1) beads) (sym stays) (stay_within Horizontal (x + 1) (x + 1) beads (falls_wider x (x + 1) beads (omega arith) f.1)),
          );
        }
first_moved Vertical bound limit (x ∷ beads) (c ∷ moved) f a l = by (cases_lt x c) (first_moved Vertical bound x beads moved f.1)
  where
    by : (x < c) ⊎ (c ≤ x) → (AreMovedWithin Vertical bound x beads moved → size beads < size moved → MovesFirst Vertical bound x beads moved) → MovesFirst Vertical bound limit (x ∷ beads) (c ∷ moved)
    by (inl g) later =
        let u = a.0.one refl in
        let d = a.0.below in
        let here : c ≡ x + 1 = omega arith in
        record {
          place = x;
          raised = (x + 1) ∷ beads;
          is = inl (refl, refl, refl, omega arith);
          inside = λ o. let e = a.1 o in omega (arith, e, g);
          then = (
            record { up = omega arith; below = a.0.below; one = λ v. omega arith },
            λ o. here,
            reach (cases_lt x bound) here,
          );
        }
      where
        reach : (x < bound) ⊎ (bound ≤ x) → c ≡ x + 1 → AreMovedWithin Vertical x c beads moved
        reach (inl k) here = lower_bound bound x c beads moved f.1 (omega arith) a.2
        reach (inr k) here = let e = a.1 k in absurd (omega arith)
    by (inr g) later =
        let u = a.0.up in
        let here : c ≡ x = omega arith in
        let r = later (subst (λ n. AreMovedWithin Vertical bound n beads moved) here a.2) (omega arith) in
        record {
          place = r.place;
          raised = x ∷ r.raised;
          is = inr (refl, r.is);
          inside = r.inside;
          then = (
            record { up = omega arith; below = a.0.below; one = λ v. omega arith },
            λ o. here,
            subst (λ n. AreMovedWithin Vertical r.place n r.raised moved) (sym here) r.then,
          );
        }

-- ---- the beads that may move up next (`next_places`)

abbrev bound_test : Strip → ℕ → ℕ → Bool
bound_test Horizontal bound b = nat_le bound b
bound_test Vertical bound b = nat_lt b bound

next_are : (strip : Strip) (bound : ℕ) (beads : List ℕ) → next_places strip bound beads ≡ filter (bound_test strip bound) (free 1 beads)
next_are Horizontal bound beads = refl
next_are Vertical bound beads = refl

test_tells : (strip : Strip) (bound b : ℕ) → bound_test strip bound b ≡ true → IsOutside strip bound b → ⊥
test_tells Horizontal bound b t o = let l = leb-true bound b t in omega arith
test_tells Vertical bound b t o = let l = ltb-true b bound t in omega arith

test_from : (strip : Strip) (bound b : ℕ) → (IsOutside strip bound b → ⊥) → bound_test strip bound b ≡ true
test_from Horizontal bound b i = search rules
test_from Vertical bound b i = search rules

pub next_tells : (strip : Strip) (bound b : ℕ) (beads : List ℕ) → Among b (next_places strip bound beads) → Among b beads × (has (b + 1) beads ≡ false) × (IsOutside strip bound b → ⊥)
next_tells strip bound b beads m =
    let s = Among_from_select (bound_test strip bound) b (free 1 beads) (subst (Among b) (next_are strip bound beads) m) in
    let f = Among_from_select (λ x. not (has (x + 1) beads)) b beads s.0 in
    (f.0, not-true (has (b + 1) beads) f.1, test_tells strip bound b s.1)

next_from : (strip : Strip) (bound b : ℕ) (beads : List ℕ) → Among b beads → has (b + 1) beads ≡ false → (IsOutside strip bound b → ⊥) → Among b (next_places strip bound beads)
next_from strip bound b beads m e i = search (rules, next_are, Among-select, test_from)

next_length : (strip : Strip) (bound : ℕ) (beads : List ℕ) → length (next_places strip bound beads) ≤ length beads
next_length strip bound beads = search (rules, next_are, length-filter-within)

gathered : (set n x y z : ℕ) → set + x * z + n * (y * z) ≡ set + (x + n * y) * z
gathered set n x y z = omega arith

pub power_within : (a b : ℕ) → a ≤ b → 2 ^ a ≤ 2 ^ b
power_within a b l = pow-le-pow_right {n = 2} (omega arith) {i = a} {j = b} l

pub among_sum : (b : ℕ) (beads : List ℕ) → Among b beads → 2 ^ b ≤ set_of beads
unfolding set_of
among_sum b [] m = absurd m
among_sum b (x ∷ beads) (inl e) = let p : 2 ^ b ≡ 2 ^ x = ap (λ n. 2 ^ n) e in omega arith
among_sum b (x ∷ beads) (inr m) = let r = among_sum b beads m in omega arith

pub place_low : (m set b : ℕ) → m ≤ 63 → set < 2 ^ m → Among b (numbers set) → (b < m) × (2 ^ b ≤ set)
place_low m set b l h i = search (rules, cases_lt, power_within, set_of-numbers, among_sum)

pub low_falls : (m set : ℕ) → m ≤ 63 → set < 2 ^ m → FallsBelow m (numbers set)
low_falls m set l h = falls_below m (numbers set) (places_strict 64 set) (λ c i. (place_low m set c l h i).0)

wide_falls : (m set : ℕ) → m ≤ 63 → set < 2 ^ m → FallsBelow 64 (numbers set)
wide_falls m set l h = falls_wider m 64 (numbers set) (omega arith) (low_falls m set l h)

in_word : (m set : ℕ) → m ≤ 63 → set < 2 ^ m → set < 2 ^ 64
in_word m set l h = let p = power_within m 64 (omega arith) in omega arith

-- let all numbers of `set` be below m, with m < 63, and let b be the place of one of its beads that may move up next (`next_places`)
module _ (strip : Strip) (bound m set b : ℕ) (l : m < 63) (h : set < 2 ^ m) where
  can_raise : Among b (next_places strip bound (numbers set)) → (raised : List ℕ) × IsRaised b 64 (numbers set) raised
  can_raise i =
      let t = next_tells strip bound b (numbers set) i in
      let p = (place_low m set b (omega arith) h t.0).0 in
      can_move b 64 (numbers set) (wide_falls m set (omega arith) h) t.0 t.1 (omega arith)

  numbers_raised : (raised : List ℕ) → IsRaised b 64 (numbers set) raised → numbers (set + 2 ^ b) ≡ raised
  numbers_raised raised r = search (rules, wide_falls, set_of-numbers, in_word, raised_sum, numbers-set_of, raised_falls)

  raised_low : Among b (numbers set) → set + 2 ^ b < 2 ^ (m + 1)
  raised_low i =
      let p = (place_low m set b (omega arith) h i).1 in
      let q : 2 ^ (m + 1) ≡ 2 ^ suc m = ap (λ n. 2 ^ n) (let s : m + 1 ≡ suc m = omega arith in s) in
      let d : 2 ^ suc m ≡ 2 * 2 ^ m = omega arith in
      omega arith

-- ---- the sets that result from adding k cells: their beads have moved up by k places in all

pub record IsMadeOf (strip : Strip) (bound k set new : ℕ) : Type 0 where
  pub word : new < 2 ^ 64
  pub moved : AreMovedWithin strip bound 64 (numbers set) (numbers new)
  pub more : size (numbers new) ≡ size (numbers set) + k

pub cells-tell : (strip : Strip) (k bound m set new : ℕ) → m + k ≤ 63 → set < 2 ^ m → Among new (with_cells strip k bound set) → IsMadeOf strip bound k set new
cells-tell strip zero bound m set new l h (inl e) = search (rules, in_word, stay_within, wide_falls)
cells-tell strip zero bound m set new l h (inr i) = absurd i
cells-tell strip (suc k) bound m set new l h i =
    let f = Among_from_each (λ b. with_cells strip k (next_bound strip b) (set + 2 ^ b)) new (next_places strip bound (numbers set)) i in
    let b = f.0 in
    let t = next_tells strip bound b (numbers set) f.1 in
    let r = can_raise strip bound m set b (omega arith) h f.1 in
    let e = numbers_raised strip bound m set b (omega arith) h r.0 r.1 in
    let made = cells-tell strip k (next_bound strip b) (m + 1) (set + 2 ^ b) new (omega arith) (raised_low strip bound m set b (omega arith) h t.0) f.2 in
    record {
      word = made.word;
      moved = moved_first strip bound 64 b (numbers set) r.0 (numbers new) (wide_falls m set (omega arith) h) r.1 t.2
          (subst (λ l. AreMovedWithin strip (next_bound strip b) 64 l (numbers new)) e made.moved);
      more = let s = raised_size b 64 (numbers set) r.0 r.1 in let n = ap size e in let o = made.more in omega arith;
    }

pub among-cells : (strip : Strip) (k bound m set : ℕ) (moved : List ℕ) → m + k ≤ 63 → set < 2 ^ m → AreMovedWithin strip bound 64 (numbers set) moved → size moved ≡ size (numbers set) + k
    → Among (set_of moved) (with_cells strip k bound set)
among-cells strip zero bound m set moved l h a e =
    inl (ap set_of (none_moved strip 64 (numbers set) moved (forget_bound strip bound 64 (numbers set) moved a) (omega arith)) ∙ set_of-numbers set (in_word m set (omega arith) h))
among-cells strip (suc k) bound m set moved l h a e =
    let falls = wide_falls m set (omega arith) h in
    let r = first_moved strip bound 64 (numbers set) moved falls a (omega arith) in
    let b = r.place in
    let there = (moves_there b 64 (numbers set) r.raised falls r.is).0 in
    let next = next_from strip bound b (numbers set) there (next_free b 64 (numbers set) r.raised falls r.is) r.inside in
    let n = numbers_raised strip bound m set b (omega arith) h r.raised r.is in
    let s = raised_size b 64 (numbers set) r.raised r.is in
    let z = ap size n in
    Among-each (λ b. with_cells strip k (next_bound strip b) (set + 2 ^ b)) b (set_of moved) (next_places strip bound (numbers set)) next
    (among-cells strip k (next_bound strip b) (m + 1) (set + 2 ^ b) moved (omega arith) (raised_low strip bound m set b (omega arith) h there)
    (subst (λ l. AreMovedWithin strip (next_bound strip b) 64 l moved) (sym n) r.then) (omega arith))

pub once_falls : (limit : ℕ) (beads : List ℕ) → FallsBelow limit beads → Once beads
once_falls limit [] f = tt
once_falls limit (b ∷ beads) f = (λ m. let l = member_below b b beads f.1 m in omega arith, once_falls b beads f.1)

once_next : (strip : Strip) (bound : ℕ) (beads : List ℕ) → Once beads → Once (next_places strip bound beads)
once_next strip bound beads o = search (rules, next_are, Once-select)

multiple : (k bound set new : ℕ) → Among new (with_cells Horizontal k bound set) → (n : ℕ) × (new ≡ set + n * 2 ^ bound)
multiple zero bound set new (inl e) = (0, omega arith)
multiple zero bound set new (inr i) = absurd i
multiple (suc k) bound set new i =
    let f = Among_from_each (λ b. with_cells Horizontal k (b + 1) (set + 2 ^ b)) new (next_places Horizontal bound (numbers set)) i in
    let b = f.0 in
    let t = next_tells Horizontal bound b (numbers set) f.1 in
    let r = multiple k (b + 1) (set + 2 ^ b) new f.2 in
    by b r.0 r.1 (not_more bound b t.2)
  where
    by : (b n : ℕ) → new ≡ set + 2 ^ b + n * 2 ^ (b + 1) → bound ≤ b → (n : ℕ) × (new ≡ set + n * 2 ^ bound)
    by b n e l =
        let p : 2 ^ b ≡ 2 ^ (b - bound) * 2 ^ bound = sym ((sym (pow-add 2 (b - bound) bound) ∙ ap (λ n. 2 ^ n) (sym (omega arith)))) in
        let q : 2 ^ (b + 1) ≡ 2 ^ (b + 1 - bound) * 2 ^ bound = sym ((sym (pow-add 2 (b + 1 - bound) bound) ∙ ap (λ n. 2 ^ n) (sym (omega arith)))) in
        (2 ^ (b - bound) + n * 2 ^ (b + 1 - bound), e ∙ ap₂ (λ x y. set + x + n * y) p q ∙ gathered set n (2 ^ (b - bound)) (2 ^ (b + 1 - bound)) (2 ^ bound))

less_more : (k bound set new : ℕ) → Among new (with_cells Vertical k bound set) → (set ≤ new) × (new < set + 2 ^ bound)
less_more zero bound set new (inl e) = let p = power_within 0 bound (omega arith) in (omega arith, omega arith)
less_more zero bound set new (inr i) = absurd i
less_more (suc k) bound set new i =
    let f = Among_from_each (λ b. with_cells Vertical k b (set + 2 ^ b)) new (next_places Vertical bound (numbers set)) i in
    let b = f.0 in
    let t = next_tells Vertical bound b (numbers set) f.1 in
    let r = less_more k b (set + 2 ^ b) new f.2 in
    let u = r.0 in
    let v = r.1 in
    by b u v (cases_lt b bound) t.2
  where
    by : (b : ℕ) → set + 2 ^ b ≤ new → new < set + 2 ^ b + 2 ^ b → (b < bound) ⊎ (bound ≤ b) → (bound ≤ b → ⊥) → (set ≤ new) × (new < set + 2 ^ bound)
    by b u v (inl l) n = let p = power_within (suc b) bound l in let d : 2 ^ suc b ≡ 2 * 2 ^ b = omega arith in (omega arith, omega arith)
    by b u v (inr l) n = absurd (n l)

odd_multiple : (b d m n : ℕ) → b < d → 2 ^ b + m * 2 ^ (b + 1) ≡ 2 ^ d + n * 2 ^ (d + 1) → ⊥
odd_multiple b d m n l e =
    let q = 2 ^ (d - b - 1) in
    let s : 2 ^ (b + 1) ≡ 2 * 2 ^ b = pow_next b in
    let t : 2 ^ d ≡ (2 * q) * 2 ^ b = sym ((sym (pow-add 2 (d - b) b) ∙ ap (λ n. 2 ^ n) (sym (omega arith)))) ∙ ap (λ x. x * 2 ^ b) (power_at (d - b) (d - b - 1) (omega arith)) in
    let u : 2 ^ (d + 1) ≡ 2 * 2 ^ d = pow_next d in
    let p = power_within 0 b (omega arith) in
    by q (eq_of_mul-eq-mul_right (2 ^ b) (omega arith) (1 + 2 * m) (2 * q + 4 * (q * n)) (left (2 ^ b) ∙ ap (λ x. 2 ^ b + m * x) (sym s) ∙ e ∙ ap₂ (λ x y. x + n * y) t (u ∙ ap (λ x. 2 * x) t) ∙ right q (2 ^ b)))
  where
    power_at : (a c : ℕ) → a ≡ suc c → 2 ^ a ≡ 2 * 2 ^ c
    power_at a c e = ap (λ n. 2 ^ n) e ∙ (let d : 2 ^ suc c ≡ 2 * 2 ^ c = omega arith in d)

    left : (x : ℕ) → (1 + 2 * m) * x ≡ x + m * (2 * x)
    left x = omega arith

    right : (q x : ℕ) → (2 * q) * x + n * (2 * ((2 * q) * x)) ≡ (2 * q + 4 * (q * n)) * x
    right q x = omega arith

    by : (q : ℕ) → 1 + 2 * m ≡ 2 * q + 4 * (q * n) → ⊥
    by q f = omega arith

apart_low : (strip : Strip) (k set new b d : ℕ) → b < d → Among new (with_cells strip k (next_bound strip b) (set + 2 ^ b)) → Among new (with_cells strip k (next_bound strip d) (set + 2 ^ d)) → ⊥
apart_low Horizontal k set new b d l i j =
    let m = multiple k (b + 1) (set + 2 ^ b) new i in
    let n = multiple k (d + 1) (set + 2 ^ d) new j in
    let x = m.1 in
    let y = n.1 in
    odd_multiple b d m.0 n.0 l (omega arith)
apart_low Vertical k set new b d l i j =
    let x = (less_more k b (set + 2 ^ b) new i).1 in
    let y = (less_more k d (set + 2 ^ d) new j).0 in
    let p = power_within (suc b) d l in
    let q : 2 ^ suc b ≡ 2 * 2 ^ b = omega arith in
    omega arith

pub once_cells : (strip : Strip) (k bound m set : ℕ) → m + k ≤ 63 → set < 2 ^ m → Once (with_cells strip k bound set)
once_cells strip zero bound m set l h = (λ m. absurd m, tt)
once_cells strip (suc k) bound m set l h =
    Once-each (λ b. with_cells strip k (next_bound strip b) (set + 2 ^ b)) (next_places strip bound (numbers set))
    (once_next strip bound (numbers set) (once_falls m (numbers set) (low_falls m set (omega arith) h)))
    (λ b i. once_cells strip k (next_bound strip b) (m + 1) (set + 2 ^ b) (omega arith)
    (raised_low strip bound m set b (omega arith) h (next_tells strip bound b (numbers set) i).0))
    (λ b d new i j x y. by b d new x y (cases_lt b d) (cases_lt d b))
  where
    by : (b d new : ℕ) → Among new (with_cells strip k (next_bound strip b) (set + 2 ^ b)) → Among new (with_cells strip k (next_bound strip d) (set + 2 ^ d)) → (b < d) ⊎ (d ≤ b) → (d < b) ⊎ (b ≤ d) → b ≡ d
    by b d new x y (inl g) o = absurd (apart_low strip k set new b d g x y)
    by b d new x y (inr g) (inl o) = absurd (apart_low strip k set new d b o y x)
    by b d new x y (inr g) (inr o) = omega arith

length_each : {A B : Type 0} (f : A → List B) (c : ℕ) (xs : List A) → ((x : A) → Among x xs → length (f x) ≤ c) → length (flat_map f xs) ≤ length xs * c
length_each f c [] h = omega arith
length_each f c (x ∷ xs) h = search (rules, length-append, (length_each f c xs))

pub few_cells : (strip : Strip) (k bound m set : ℕ) → m + k ≤ 63 → set < 2 ^ m → length (numbers set) ≡ 20 → length (with_cells strip k bound set) ≤ 20 ^ k
few_cells strip zero bound m set l h e = let p : 20 ^ 0 ≡ 1 = refl in omega arith
few_cells strip (suc k) bound m set l h e =
    let r = length_each (λ b. with_cells strip k (next_bound strip b) (set + 2 ^ b)) (20 ^ k) (next_places strip bound (numbers set))
    (λ b i.
    let t = next_tells strip bound b (numbers set) i in
    let r = can_raise strip bound m set b (omega arith) h i in
    few_cells strip k (next_bound strip b) (m + 1) (set + 2 ^ b) (omega arith) (raised_low strip bound m set b (omega arith) h t.0)
    (ap length (numbers_raised strip bound m set b (omega arith) h r.0 r.1) ∙ raised_length b 64 (numbers set) r.0 r.1 ∙ e)) in
    let s = next_length strip bound (numbers set) in
    let g = mul-le-mul_right (20 ^ k) s in
    let d : 20 ^ suc k ≡ 20 * 20 ^ k = omega arith in
    let f : length (numbers set) * 20 ^ k ≡ 20 * 20 ^ k = ap (λ a. a * 20 ^ k) e in
    omega arith
