-- The beads of a partition λ with at most n rows are the numbers λ_i + n - i, one for each i from 1 to n (a beta set). This file is about strictly
-- decreasing lists of beads, and about moves of beads to greater numbers, by which a horizontal or vertical strip is added to the partition.
--     AreMoved             each bead moves up to a place below its limit
--     numbers-set_of       the code of a strictly decreasing list is a sum of powers of 2; the list of the numbers in this code is that list
use Rattle.std.proofs.Common.{◌≡◌, ℕ, suc, ◌+◌, ◌*◌, ◌^◌, ◌<◌, ◌≤◌, List, [], ◌∷◌, length, refl, ap, ap₂, inl, arith, rules}
use Rattle.std.proofs.Math.Nat.{pow-le-pow_right}
use Rattle.sym_model.specs.Sum.{Among}
use Rattle.sym_model.specs.Partition.{size}
use Rattle.beta_list_laws.specs.StrictFall.{FallsStrictly}
use Rattle.beta_sets.specs.BetaSets.{numbers, set_of}
use Rattle.beta_sets.proofs.GreatestPlaces.{numbers-greatest, numbers-none}
use Rattle.strip_rules.specs.declared.bead_strips.Strip.{Strip}
use Rattle.strip_rules.specs.declared.bead_strips.Strip.TheVariants.{Horizontal, Vertical}

-- the limit for the new place of the next lower bead if a bead moves from `old` to `new`: this place must be below `old` in a horizontal strip, and
-- below `new` in a vertical strip
abbrev pub barrier : Strip → ℕ → ℕ → ℕ
barrier Horizontal old new = old
barrier Vertical old new = new

-- a bead moves up from b to c, or does not move (c = b); c is below `limit`, and at most b + 1 in a vertical strip
pub record Steps (strip : Strip) (limit b c : ℕ) : Type 0 where
  pub up : b ≤ c
  pub below : c < limit
  pub one : strip ≡ Vertical → c ≤ b + 1

abbrev pub AreMoved : Strip → ℕ → List ℕ → List ℕ → Type 0
AreMoved strip limit [] [] = Unit {0}
AreMoved strip limit [] (c ∷ moved) = ⊥
AreMoved strip limit (b ∷ beads) [] = ⊥
AreMoved strip limit (b ∷ beads) (c ∷ moved) = Steps strip limit b c × AreMoved strip (barrier strip b c) beads moved

-- the list is strictly decreasing, and its numbers are below `limit`
abbrev pub FallsBelow : ℕ → List ℕ → Type 0
FallsBelow limit [] = Unit {0}
FallsBelow limit (b ∷ beads) = (b < limit) × FallsBelow b beads

pub falls_wider : (a b : ℕ) (beads : List ℕ) → a ≤ b → FallsBelow a beads → FallsBelow b beads
falls_wider a b [] l f = tt
falls_wider a b (c ∷ beads) l f = let h = f.0 in (omega arith, f.1)

pub less_than_first : (c : ℕ) (beads : List ℕ) → FallsStrictly (c ∷ beads) → FallsBelow c beads
less_than_first c [] f = tt
less_than_first c (d ∷ beads) f = (f.0, less_than_first d beads f.1)

pub falls_below : (limit : ℕ) (beads : List ℕ) → FallsStrictly beads → ((c : ℕ) → Among c beads → c < limit) → FallsBelow limit beads
falls_below limit [] f h = tt
falls_below limit (b ∷ beads) f h = (h b (inl refl), less_than_first b beads f)

pub falls_strictly : (limit : ℕ) (beads : List ℕ) → FallsBelow limit beads → FallsStrictly beads
falls_strictly limit [] f = tt
falls_strictly limit (b ∷ []) f = tt
falls_strictly limit (b ∷ c ∷ beads) f = (f.1.0, falls_strictly b (c ∷ beads) f.1)

pub up_to : (strip : Strip) (b c : ℕ) → b ≤ c → (b ≤ barrier strip b c) × (barrier strip b c ≤ c)
up_to Horizontal b c l = (omega arith, l)
up_to Vertical b c l = (l, omega arith)

pub length-moved : (strip : Strip) (limit : ℕ) (beads moved : List ℕ) → AreMoved strip limit beads moved → length moved ≡ length beads
length-moved strip limit [] [] a = refl
length-moved strip limit [] (c ∷ moved) a = absurd a
length-moved strip limit (b ∷ beads) [] a = absurd a
length-moved strip limit (b ∷ beads) (c ∷ moved) a = ap suc (length-moved strip (barrier strip b c) beads moved a.1)

pub moved_falls : (strip : Strip) (limit : ℕ) (beads moved : List ℕ) → AreMoved strip limit beads moved → FallsBelow limit moved
moved_falls strip limit [] [] a = tt
moved_falls strip limit [] (c ∷ moved) a = absurd a
moved_falls strip limit (b ∷ beads) [] a = absurd a
moved_falls strip limit (b ∷ beads) (c ∷ moved) a =
    (a.0.below, falls_wider (barrier strip b c) c moved (up_to strip b c a.0.up).1 (moved_falls strip (barrier strip b c) beads moved a.1))

pub size_moved : (strip : Strip) (limit : ℕ) (beads moved : List ℕ) → AreMoved strip limit beads moved → size beads ≤ size moved
size_moved strip limit [] [] a = omega arith
size_moved strip limit [] (c ∷ moved) a = absurd a
size_moved strip limit (b ∷ beads) [] a = absurd a
size_moved strip limit (b ∷ beads) (c ∷ moved) a = let u = a.0.up in let r = size_moved strip (barrier strip b c) beads moved a.1 in omega arith

pub none_moved : (strip : Strip) (limit : ℕ) (beads moved : List ℕ) → AreMoved strip limit beads moved → size moved ≡ size beads → moved ≡ beads
none_moved strip limit [] [] a e = refl
none_moved strip limit [] (c ∷ moved) a e = absurd a
none_moved strip limit (b ∷ beads) [] a e = absurd a
none_moved strip limit (b ∷ beads) (c ∷ moved) a e =
    let u = a.0.up in
    let r = size_moved strip (barrier strip b c) beads moved a.1 in
    ap₂ (λ (x : ℕ) xs. x ∷ xs) (let i : c ≡ b = omega arith in i) (none_moved strip (barrier strip b c) beads moved a.1 (omega arith))

pub set_of-less : (limit : ℕ) (beads : List ℕ) → FallsBelow limit beads → set_of beads < 2 ^ limit
unfolding set_of
set_of-less limit [] f = let p = pow-le-pow_right {n = 2} (omega arith) {i = 0} {j = limit} (omega arith) in omega arith
set_of-less limit (b ∷ beads) f =
    let h : suc b ≤ limit = f.0 in
    let p = pow-le-pow_right {n = 2} (omega arith) {i = suc b} {j = limit} h in
    let q : 2 ^ suc b ≡ 2 * 2 ^ b = omega arith in
    let r = set_of-less b beads f.1 in
    omega arith

pub numbers-set_of : (beads : List ℕ) → FallsBelow 64 beads → numbers (set_of beads) ≡ beads
unfolding set_of
numbers-set_of [] f = numbers-none
numbers-set_of (b ∷ beads) f = search (rules, numbers-greatest, set_of-less, falls_wider, (numbers-set_of beads))
