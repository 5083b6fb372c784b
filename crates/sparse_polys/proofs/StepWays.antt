-- The search for the partitions ν in m_λ·m_μ (specs/Ways). A *state* of the search consists of the parts of λ and of μ that remain, and of the number
-- of ways to reach them (its count). In one step, a part of ν is written as the sum of a part of λ or 0 and a part of μ or 0, which are removed; the
-- file is on the number of ways to continue after this step.
use Rattle.std.proofs.lemmas.Grind.{common_steps}
use Rattle.std.proofs.Common.{◌≡◌, ℕ, ◌+◌, ◌-◌, ◌*◌, ◌<◌, ◌≤◌, true, false, ◌||◌, cond, eqb, leb, List, [], ◌∷◌, length, get_or, drop, not, sym, ◌∙◌, ap, subst, refl, arith, pos, rules}
use Rattle.std.proofs.lemmas.Int.{ints}
use Rattle.std.proofs.lemmas.Bool.{eq-eqb, le-leb, and_parts, leb-true, or_right, not-true, leb-false}
use Rattle.sym_model.specs.Sum.{total}
use Rattle.sym_model.specs.Partition.{IsPartition}
use Rattle.sym_model.specs.Bases.{has}
use Rattle.sym_model.specs.RaisedPart.{without_one, distinct}
use Rattle.monomial_laws.specs.MonomialProduct.{arrangements}
use Rattle.sparse_polys.specs.Ways.{capped, taken, is_choice_at, IsRest, HasPartAbove}
use Rattle.sym_model.proofs.SortedParts.{IsPartition-without_one, size-taken, has-get_or, distinct-zero}
use Rattle.monomial_laws.proofs.Arrangements.{arrangements-cons, arrangements-lacking, arrangements-comm}
use Rattle.sym_model.proofs.Numbers.{below_more, zero_either}
use Rattle.sym_model.specs.Bounded.{AreBelow}
use Rattle.sym_model.proofs.Integers.{pos_equal}
use Rattle.std.proofs.lemmas.List.{drop_more}

pub IsRest-taken : (a b left : ℕ) (l r : List ℕ) → IsRest (a + b + left) l r → has a (0 ∷ l) ≡ true → has b (0 ∷ r) ≡ true → IsRest left (without_one a l) (without_one b r)
IsRest-taken a b left l r s h k = search (rules, IsPartition-without_one, size-taken)

-- if l without one a has a part greater than a + b, and all parts of ν are at most a + b, there is no way to continue to ν (`taken`)
pub taken-above_left : (a b left : ℕ) (l r ν : List ℕ) → IsRest left l r → AreBelow (a + b + 1) ν → HasPartAbove (a + b) (without_one a l) → taken l r a b ν ≡ 0
taken-above_left a b left l r ν s below (k, m, h) = zero_either (has b (0 ∷ r)) (arrangements-lacking k ν (without_one a l) (without_one b r) (IsPartition-without_one a l s.first) (IsPartition-without_one b r s.second) m (below_more (a + b + 1) k ν (omega arith) below))

pub taken-above_right : (a b left : ℕ) (l r ν : List ℕ) → IsRest left l r → AreBelow (a + b + 1) ν → HasPartAbove (a + b) (without_one b r) → taken l r a b ν ≡ 0
taken-above_right a b left l r ν s below (k, m, h) =
    search (rules, zero_either, arrangements-comm, arrangements-lacking, IsPartition-without_one, below_more)

-- the sum, over the numbers b ≤ x of a list, of the number of ways to write ν as a sum of arrangements of l without b and of r without x - b
-- (`taken`)
abbrev pub taken_over : ℕ → List ℕ → List ℕ → List ℕ → List ℕ → ℕ
taken_over x l r ν [] = 0
taken_over x l r ν (b ∷ bs) = cond (leb b x) (taken l r b (x - b) ν) 0 + taken_over x l r ν bs

taken_over-total : (x : ℕ) (l r ν bs : List ℕ)
    → total (λ (b : ℕ). cond (leb b x) (cond (has (x - b) (0 ∷ r)) (pos (arrangements (without_one b l) (without_one (x - b) r) ν)) (pos 0)) (pos 0)) bs ≡ pos (taken_over x l r ν bs)
taken_over-total x l r ν [] = refl
taken_over-total x l r ν (b ∷ bs) = search (rules, ints, (taken_over-total x l r ν bs))

-- the ways to x ∷ ν are those that remove nothing from l and x from r, and, for each of the different parts b ≤ x of l, those that remove one b from
-- l and x - b from r
pub arrangements-first : (x : ℕ) (ν l r : List ℕ) → IsPartition l → IsPartition r → arrangements l r (x ∷ ν) ≡ taken l r 0 x ν + taken_over x l r ν (distinct l)
arrangements-first x ν l r p q = search (rules, pos_equal, arrangements-cons, taken_over-total, distinct-zero, le-leb)

pub capped-add : (a b z : ℕ) → capped a ≡ capped b → capped (a + z) ≡ capped (b + z)
capped-add a b z e = omega arith

pub first-above : (part : ℕ) (parts : List ℕ) (first : ℕ) → 0 < length parts → first ≡ get_or parts 0 first → leb first part ≡ false → HasPartAbove part parts
first-above part [] first h e t = absurd (omega arith)
first-above part (c ∷ parts) first h e t = (first, ap (λ b. b || has first parts) (eq-eqb c first (sym e)), leb-false first part t)

pub nothing_more : (n k t : ℕ) → t ≡ 0 → capped n ≡ capped (n + k * t)
nothing_more n k t e = ap (λ m. capped m) (let p = ap (λ j. k * j) e in omega arith)

-- ---- the number of ways, capped at 2^128 - 1, during the loop over the parts of the list `left` of a state

pub first_way : (w1 w0 k t o a : ℕ) → capped w1 ≡ capped (w0 + k * t) → a ≡ t + o → capped (w1 + k * o) ≡ capped (w0 + k * a)
first_way w1 w0 k t o a h e = capped-add w1 (w0 + k * t) (k * o) h ∙ ap (λ n. capped n) (let p = ap (λ n. k * n) e in let q : w0 + k * t + k * o ≡ w0 + k * a = omega arith in q)

pub next_way : (w2 w1 k t o rest goal : ℕ) → capped w2 ≡ capped (w1 + k * t) → o ≡ t + rest → capped (w1 + k * o) ≡ goal → capped (w2 + k * rest) ≡ goal
next_way w2 w1 k t o rest goal h e g = grind (arith, common_steps)

-- let p be the part at index i of `parts`, at most x and different from all later parts: `taken_over` for the different parts from index i on is the
-- number of ways that remove p from l and x - p from r (`taken`), plus `taken_over` for the different parts after index i
pub taken_over-choice : (x : ℕ) (l r ν parts : List ℕ) (i : ℕ) → i < length parts → is_choice_at parts i x ≡ true
    → taken_over x l r ν (distinct (drop i parts)) ≡ taken l r (get_or parts i 0) (x - get_or parts i 0) ν + taken_over x l r ν (distinct (drop (i + 1) parts))
taken_over-choice x l r ν parts i h e = search (rules, and_parts, drop_more, not-true)

pub taken_over-passed : (x : ℕ) (l r ν parts : List ℕ) (i : ℕ) → i < length parts → is_choice_at parts i x ≡ false
    → taken_over x l r ν (distinct (drop i parts)) ≡ taken_over x l r ν (distinct (drop (i + 1) parts))
taken_over-passed x l r ν parts i h e = grind (arith, common_steps)

-- ---- the number of ways, capped at 2^128 - 1, during the loop over the states

pub next_state : (w2 w1 t o rest goal : ℕ) → capped w2 ≡ capped (w1 + t) → o ≡ t + rest → capped (w1 + o) ≡ goal → capped (w2 + rest) ≡ goal
next_state w2 w1 t o rest goal h e g =
    capped-add w2 (w1 + t) rest h ∙ ap (λ n. capped n) (let q : w1 + t + rest ≡ w1 + o = omega arith in q) ∙ g

pub rest_at : (a b : ℕ) (l r : List ℕ) → a ≡ b → IsRest a l r → IsRest b l r
rest_at a b l r e s = subst (λ k. IsRest k l r) e s

pub below_at : (a b : ℕ) (ν : List ℕ) → a ≡ b → AreBelow a ν → AreBelow b ν
below_at a b ν e s = subst (λ k. AreBelow k ν) e s

pub choice-within : (x : ℕ) (parts : List ℕ) (i : ℕ) → is_choice_at parts i x ≡ true → get_or parts i 0 ≤ x
choice-within x parts i e = leb-true (get_or parts i 0) x (and_parts (leb (get_or parts i 0) x) (not (has (get_or parts i 0) (drop (i + 1) parts))) e).0

pub has_at : (parts : List ℕ) (i : ℕ) → i < length parts → has (get_or parts i 0) (0 ∷ parts) ≡ true
has_at parts i h = or_right (eqb 0 (get_or parts i 0)) (has (get_or parts i 0) parts) (has-get_or parts i h)
