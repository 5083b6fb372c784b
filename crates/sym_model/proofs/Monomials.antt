-- The polynomials of specs/Bases (sums of monomials, m_λ and p_a): their coefficients, and their pairings. The pairing
-- `pair f φ` of a polynomial f and a function φ of exponents is the sum of c·φ(α) over the terms c·x^α of f.
use Rattle.std.proofs.Common.{◌≡◌, ℕ, zero, suc, ◌+◌, ◌-◌, ◌<◌, ◌≤◌, Bool, true, false, ◌&&◌, cond, eqb, leb, List, [], ◌∷◌, map, length, replicate, sym, ◌∙◌, ap, ap₂, refl, arith, ℤ, pos, ◌+ℤ◌, filter, flat_map, rules}
use Rattle.std.proofs.lemmas.Int.{ints}
use Rattle.std.proofs.lemmas.Bool.{cases_lt, cases_eq, le-leb, lt-leb, leb-true, eq-eqb, ne_eqb, eqb-true, cond-true, cond-false, true≢false, and_parts, and_from}
use Rattle.sym_model.specs.Sum.{total, Among}
use Rattle.sym_model.specs.Polynomial.{Term, same, coefficient, In, pair}
use Rattle.sym_model.specs.Partition.{size, sorted_parts}
use Rattle.sym_model.specs.Bases.{down_from, exponent_lists, monomials, has, monomial, power_sum_of}
use Rattle.sym_model.proofs.Sums.{total_append, total_ext, total_zero, total_none, total_map, total_each, total_select, Among_from_map, Among_from_each, Among_from_select, down_from-below}
use Rattle.sym_model.proofs.Exponents.{tests_agree, same_true}
use Rattle.sym_model.proofs.Polynomials.{pair_monomials}
use Rattle.sym_model.proofs.SortedParts.{size-sorted_parts, has_here, has_past}
use lib.IntN.{+ℤ_idl, +ℤ_idr}
use Rattle.sym_model.proofs.Integers.{nested_tests, tests_exchanged}

-- ---- sums over numbers or exponent lists in which only one term is not 0

pub total_down_from-only : (g : ℕ → ℤ) (c d : ℕ) → total (λ (a : ℕ). cond (eqb a c) (g a) (pos 0)) (down_from d) ≡ cond (leb c d) (g c) (pos 0)
total_down_from-only g c zero = search rules
total_down_from-only g c (suc d) =
    search (rules, cases_eq, cases_lt, cond-false, lt-leb, eq-eqb, le-leb, ints, ne_eqb, cond-true, (total_down_from-only g c d))

-- whether γ has n places and the sum d
abbrev pub is_exponent_list : ℕ → ℕ → List ℕ → Bool
is_exponent_list n d γ = eqb (length γ) n && eqb (size γ) d

-- the sum of φ(α) over the members α of `exponent_lists n d` that are equal to γ is φ(γ) if γ has n places and the
-- sum d, and otherwise 0
pub total_exponent_lists-only : (φ : List ℕ → ℤ) (γ : List ℕ) (n d : ℕ) → total (λ (α : List ℕ). cond (same α γ) (φ α) (pos 0)) (exponent_lists n d) ≡ cond (is_exponent_list n d γ) (φ γ) (pos 0)
total_exponent_lists-only φ [] zero d = search rules
total_exponent_lists-only φ (c ∷ γ) zero d = search rules
total_exponent_lists-only φ [] (suc n) d = search (rules, total_each, total_none, total_map, total_zero, ne_eqb)
total_exponent_lists-only φ (c ∷ γ) (suc n) d =
    total_each F (λ (a : ℕ). map (λ (α : List ℕ). a ∷ α) (exponent_lists n (d - a))) (down_from d)
    ∙ total_ext
    (λ (a : ℕ). total F (map (λ (α : List ℕ). a ∷ α) (exponent_lists n (d - a))))
    (λ (a : ℕ). cond (eqb a c) (inner a) (pos 0))
    (λ a. total_map F (λ (α : List ℕ). a ∷ α) (exponent_lists n (d - a)) ∙ row a (eqb a c) (total_exponent_lists-only (λ α. φ (a ∷ α)) γ n (d - a)))
    (down_from d)
    ∙ total_down_from-only inner c d
    ∙ nested_tests (leb c d) (is_exponent_list n (d - c) γ) (φ (c ∷ γ))
    ∙ ap (λ b. cond b (φ (c ∷ γ)) (pos 0)) (tests_agree (leb c d && is_exponent_list n (d - c) γ) (is_exponent_list (suc n) d (c ∷ γ)) there back)
  where
    F : List ℕ → ℤ
    F α = cond (same α (c ∷ γ)) (φ α) (pos 0)

    inner : ℕ → ℤ
    inner a = cond (is_exponent_list n (d - a) γ) (φ (a ∷ γ)) (pos 0)

    row : (a : ℕ) (b : Bool) → total (λ (α : List ℕ). cond (same α γ) (φ (a ∷ α)) (pos 0)) (exponent_lists n (d - a)) ≡ inner a
        → total (λ (α : List ℕ). cond (b && same α γ) (φ (a ∷ α)) (pos 0)) (exponent_lists n (d - a)) ≡ cond b (inner a) (pos 0)
    row a true e = e
    row a false e = total_zero (exponent_lists n (d - a))

    there : (leb c d && is_exponent_list n (d - c) γ) ≡ true → is_exponent_list (suc n) d (c ∷ γ) ≡ true
    there t =
        let p = and_parts (leb c d) (is_exponent_list n (d - c) γ) t in
        let q = and_parts (eqb (length γ) n) (eqb (size γ) (d - c)) p.1 in
        let l = leb-true c d p.0 in
        let u = eqb-true (length γ) n q.0 in
        let v = eqb-true (size γ) (d - c) q.1 in
        and_from (eqb (suc (length γ)) (suc n)) (eqb (c + size γ) d) (eq-eqb (suc (length γ)) (suc n) (omega arith)) (eq-eqb (c + size γ) d (omega arith))

    back : is_exponent_list (suc n) d (c ∷ γ) ≡ true → (leb c d && is_exponent_list n (d - c) γ) ≡ true
    back t =
        let q = and_parts (eqb (suc (length γ)) (suc n)) (eqb (c + size γ) d) t in
        let u = eqb-true (suc (length γ)) (suc n) q.0 in
        let v = eqb-true (c + size γ) d q.1 in
        and_from (leb c d) (is_exponent_list n (d - c) γ) (le-leb c d (omega arith))
        (and_from (eqb (length γ) n) (eqb (size γ) (d - c)) (eq-eqb (length γ) n (omega arith)) (eq-eqb (size γ) (d - c) (omega arith)))

-- the coefficient of x^γ in the sum of the monomials of degree d in n variables that pass a test is 1 if γ has n
-- places, has the sum d and passes the test; otherwise it is 0
pub coefficient-monomials : (test : List ℕ → Bool) (n d : ℕ) (γ : List ℕ) → coefficient (monomials test n d) γ ≡ cond (is_exponent_list n d γ) (cond (test γ) (pos 1) (pos 0)) (pos 0)
coefficient-monomials test n d γ =
    total_map (λ (t : Term). cond (same t.0 γ) t.1 (pos 0)) (λ (α : List ℕ). (α, pos 1)) (filter test (exponent_lists n d))
    ∙ total_select (λ (α : List ℕ). cond (same α γ) (pos 1) (pos 0)) test (exponent_lists n d)
    ∙ total_ext
    (λ (α : List ℕ). cond (test α) (cond (same α γ) (pos 1) (pos 0)) (pos 0))
    (λ (α : List ℕ). cond (same α γ) (cond (test α) (pos 1) (pos 0)) (pos 0))
    (λ α. tests_exchanged (test α) (same α γ) (pos 1))
    (exponent_lists n d)
    ∙ total_exponent_lists-only (λ α. cond (test α) (pos 1) (pos 0)) γ n d

-- the coefficient of x^γ in m_λ in n variables is 1 if γ has n places and sorts to λ, and 0 otherwise
pub coefficient-monomial : (parts : List ℕ) (n : ℕ) (γ : List ℕ) → coefficient (monomial parts n) γ ≡ cond (eqb (length γ) n) (cond (same (sorted_parts γ) parts) (pos 1) (pos 0)) (pos 0)
coefficient-monomial parts n γ =
    coefficient-monomials (λ α. same (sorted_parts α) parts) n (size parts) γ ∙ by (eqb (length γ) n) (eqb (size γ) (size parts)) refl (same (sorted_parts γ) parts) refl
  where
    by : (x y : Bool) → eqb (size γ) (size parts) ≡ y → (z : Bool) → same (sorted_parts γ) parts ≡ z
        → cond (x && y) (cond z (pos 1) (pos 0)) (pos 0) ≡ cond x (cond z (pos 1) (pos 0)) (pos 0)
    by false y d z e = refl
    by true true d z e = refl
    by true false d false e = refl
    by true false d true e =
        absurd (true≢false (sym (eq-eqb (size γ) (size parts) (sym (size-sorted_parts γ) ∙ ap size (same_true (sorted_parts γ) parts e))) ∙ d))

pub members_of-exponent_lists : (α : List ℕ) (n d : ℕ) → Among α (exponent_lists n d) → (length α ≡ n) × (size α ≡ d)
members_of-exponent_lists α zero d m = search rules
members_of-exponent_lists α (suc n) d m =
    let r = Among_from_each (λ (a : ℕ). map (λ (β : List ℕ). a ∷ β) (exponent_lists n (d - a))) α (down_from d) m in
    let s = Among_from_map (λ (β : List ℕ). r.0 ∷ β) α (exponent_lists n (d - r.0)) r.2 in
    let q = members_of-exponent_lists s.0 n (d - r.0) s.1 in
    let l = down_from-below d r.0 r.1 in
    (ap length s.2 ∙ ap suc q.0, ap size s.2 ∙ omega (arith, q.1))

pub In-monomials : (test : List ℕ → Bool) (n d : ℕ) → In n (monomials test n d)
In-monomials test n d t m =
    let r = Among_from_map (λ (α : List ℕ). (α, pos 1)) t (filter test (exponent_lists n d)) m in
    let s = Among_from_select test r.0 (exponent_lists n d) r.1 in
    ap (λ (u : Term). length u.0) r.2 ∙ (members_of-exponent_lists r.0 n d s.0).0

-- ---- the power sum p_a as the sum over the exponent lists with a at one place and 0 elsewhere

-- the exponent lists of n places with a at one place and 0 at all others, one for each place
abbrev pub one_place : ℕ → ℕ → List (List ℕ)
one_place a zero = []
one_place a (suc n) = (a ∷ replicate n 0) ∷ map (λ (α : List ℕ). 0 ∷ α) (one_place a n)

pub total_exponent_lists-zero : (φ : List ℕ → ℤ) (n : ℕ) → total φ (exponent_lists n 0) ≡ φ (replicate n 0)
total_exponent_lists-zero φ zero = +ℤ_idr (φ [])
total_exponent_lists-zero φ (suc n) =
    total_append φ (map (λ (α : List ℕ). 0 ∷ α) (exponent_lists n 0)) []
    ∙ +ℤ_idr (total φ (map (λ (α : List ℕ). 0 ∷ α) (exponent_lists n 0)))
    ∙ total_map φ (λ (α : List ℕ). 0 ∷ α) (exponent_lists n 0)
    ∙ total_exponent_lists-zero (λ α. φ (0 ∷ α)) n

pub total_down_from-last : (g : ℕ → ℤ) (d : ℕ) → ((c : ℕ) → 0 < c → c ≤ d → g c ≡ pos 0) → total g (down_from d) ≡ g 0
total_down_from-last g zero z = +ℤ_idr (g 0)
total_down_from-last g (suc d) z = search (rules, +ℤ_idl, (total_down_from-last g d))

pub has_above_size : (a : ℕ) (α : List ℕ) → size α < a → has a α ≡ false
has_above_size a [] h = refl
has_above_size a (c ∷ α) h = rw (ne_eqb c a (λ e. omega arith)) (has_above_size a α (omega arith))

total_power_sum : (a n : ℕ) (φ : List ℕ → ℤ) → total (λ (α : List ℕ). cond (has (suc a) α) (φ α) (pos 0)) (exponent_lists n (suc a)) ≡ total φ (one_place (suc a) n)
total_power_sum a zero φ = rw (ne_eqb (suc a) 0 (λ e. omega arith)) refl
total_power_sum a (suc n) φ =
    total_append F (map (λ (α : List ℕ). suc a ∷ α) (exponent_lists n (suc a - suc a))) (flat_map (λ (c : ℕ). map (λ (α : List ℕ). c ∷ α) (exponent_lists n (suc a - c))) (down_from a))
    ∙ ap₂ ◌+ℤ◌ top (total_each F (λ (c : ℕ). map (λ (α : List ℕ). c ∷ α) (exponent_lists n (suc a - c))) (down_from a) ∙ total_down_from-last row a middle ∙ bottom (total_power_sum a n (λ α. φ (0 ∷ α))))
  where
    F : List ℕ → ℤ
    F α = cond (has (suc a) α) (φ α) (pos 0)

    row : ℕ → ℤ
    row c = total F (map (λ (α : List ℕ). c ∷ α) (exponent_lists n (suc a - c)))

    top : row (suc a) ≡ φ (suc a ∷ replicate n 0)
    top =
        total_map F (λ (α : List ℕ). suc a ∷ α) (exponent_lists n (suc a - suc a))
        ∙ total_ext (λ (α : List ℕ). F (suc a ∷ α)) (λ (α : List ℕ). φ (suc a ∷ α)) (λ α. cond-true (has (suc a) (suc a ∷ α)) (φ (suc a ∷ α)) (pos 0) (has_here (suc a) (suc a) α refl)) (exponent_lists n (suc a - suc a))
        ∙ ap (λ d. total (λ (α : List ℕ). φ (suc a ∷ α)) (exponent_lists n d)) (let e : suc a - suc a ≡ 0 = omega arith in e)
        ∙ total_exponent_lists-zero (λ α. φ (suc a ∷ α)) n

    middle : (c : ℕ) → 0 < c → c ≤ a → row c ≡ pos 0
    middle c l h =
        total_map F (λ (α : List ℕ). c ∷ α) (exponent_lists n (suc a - c))
        ∙ total_none (λ (α : List ℕ). F (c ∷ α)) (exponent_lists n (suc a - c))
        (λ α m. cond-false (has (suc a) (c ∷ α)) (φ (c ∷ α)) (pos 0)
        (has_past (suc a) c α (λ e. omega arith) ∙ has_above_size (suc a) α (omega (arith, (members_of-exponent_lists α n (suc a - c) m).1))))

    bottom : total (λ (α : List ℕ). cond (has (suc a) α) (φ (0 ∷ α)) (pos 0)) (exponent_lists n (suc a)) ≡ total (λ (α : List ℕ). φ (0 ∷ α)) (one_place (suc a) n)
        → row 0 ≡ total φ (map (λ (α : List ℕ). 0 ∷ α) (one_place (suc a) n))
    bottom h =
        total_map F (λ (α : List ℕ). 0 ∷ α) (exponent_lists n (suc a - 0))
        ∙ total_ext (λ (α : List ℕ). F (0 ∷ α)) (λ (α : List ℕ). cond (has (suc a) α) (φ (0 ∷ α)) (pos 0)) (λ α. ap (λ b. cond b (φ (0 ∷ α)) (pos 0)) (has_past (suc a) 0 α (λ e. omega arith))) (exponent_lists n (suc a - 0))
        ∙ ap (λ d. total (λ (α : List ℕ). cond (has (suc a) α) (φ (0 ∷ α)) (pos 0)) (exponent_lists n d)) (let e : suc a - 0 ≡ suc a = omega arith in e)
        ∙ h
        ∙ sym (total_map φ (λ (α : List ℕ). 0 ∷ α) (one_place (suc a) n))

-- for a > 0, the sum of c·φ(α) over the terms c·x^α of p_a in n variables (`pair`) is the sum of φ over the exponent
-- lists of x_1^a, .., x_n^a
pub pair-power_sum_of : (a n : ℕ) (φ : List ℕ → ℤ) → 0 < a → pair (power_sum_of a n) φ ≡ total φ (one_place a n)
pair-power_sum_of zero n φ h = absurd (omega arith)
pair-power_sum_of (suc a) n φ h = search (rules, pair_monomials, total_select, total_power_sum)
