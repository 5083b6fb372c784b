-- Let ν be a weakly decreasing list and c a column such that ν + content(c) is not weakly decreasing. Then for some place i, counted from 0, the
-- entry of ν + content(c) at i + 1 is 1 more than the entry at i, and c does not have the letter i + 1. It follows that the sum of the alternants
-- a_(ν + content(c) + content(T) + ρ) over all tableaux T left of c is 0.
use Rattle.std.proofs.Common.{◌≡◌, ℕ, zero, suc, ◌+◌, ◌-◌, ◌<◌, ◌≤◌, ◌⊎◌, ◌==◌, Bool, true, false, cond, List, [], ◌∷◌, map, length, get_or, nat_le, nat_lt, sym, ◌∙◌, ap, ap₂, subst, refl, inl, inr, arith, ℤ, pos, neg_ℤ}
use Rattle.std.proofs.lemmas.Bool.{and_parts, and_cases, leb-true, leb-false, ltb-true, eq-eqb, ne_eqb, cases_eq}
use Rattle.sym_model.specs.Sum.{total}
use Rattle.sym_model.specs.Partition.{Falls, after}
use Rattle.sym_model.specs.Polynomial.{join, pair}
use Rattle.sym_model.specs.Schur.{times_in, content, letters_of}
use Rattle.sym_model.specs.GoodTableau.{is_falling}
use Rattle.sym_model.specs.Alternant.{alternant, staircase}
use Rattle.sym_model.proofs.Sums.{total_ext, total_neg}
use Rattle.sym_model.proofs.Exponents.{join_assoc, join_comm, length-join_same, resize_same, get_or-join}
use Rattle.sym_model.proofs.Parts.{length-staircase}
use Rattle.tableau_laws.specs.PaddedRows.{transposed}
use Rattle.tableau_laws.specs.Grid.{may_precede, is_chain, may_stand_above}
use Rattle.tableau_laws.proofs.ColumnCounts.{sum_at_start}
use Rattle.alternant_laws.proofs.Exchanges.{exchanged, exchanged-join, length_content}
use Rattle.alternant_laws.proofs.SymmetricSums.{left_tableaux, total_exchanged}
use Rattle.alternant_laws.proofs.Alternants.{opposite_is_zero}
use Rattle.alternant_laws.proofs.Alternating.{inserting, alternating, alternating_swap}
use Rattle.alternant_laws.proofs.OrderSums.{pair_alternant}
use Rattle.alternant_laws.proofs.LeftColumns.{over_all, AreLong, over_all-rows, falls-transposed}
use Rattle.sym_model.specs.Bounded.{Lacks}

-- ---- letters k ≤ a do not occur below a letter a of a column; so a strictly increasing column has each letter at most once

pub none_below : (k a : ℕ) (w : List ℕ) → 0 < a → k ≤ a → is_chain may_stand_above (a ∷ w) ≡ true → times_in k w ≡ 0
none_below k a [] p h e = refl
none_below k a (b ∷ w) p h e =
    let q = and_parts (nat_lt a (b + (1 - a))) (is_chain may_stand_above (b ∷ w)) e in
    let r = ltb-true a (b + (1 - a)) q.0 in
    let rest = none_below k b w (omega arith) (omega arith) q.1 in
    let d : (b == k) ≡ false = ne_eqb b k (λ i. absurd (omega arith)) in
    ap (λ (c : Bool). cond {A = ℕ} c 1 0 + times_in k w) d ∙ omega arith

at_most_once : (k : ℕ) (w : List ℕ) → 0 < k → is_chain may_stand_above w ≡ true → times_in k w ≤ 1
at_most_once k [] p e = omega arith
at_most_once k (a ∷ w) p e =
    let q = and_parts (may_precede may_stand_above a w) (is_chain may_stand_above w) e in
    by (at_most_once k w p q.1) (cases_eq a k)
  where
    by : times_in k w ≤ 1 → (a ≡ k) ⊎ (a ≡ k → ⊥) → times_in k (a ∷ w) ≤ 1
    by rest (inl i) =
        let none = none_below k a w (omega arith) (omega arith) e in
        let d : cond {A = ℕ} (a == k) 1 0 ≡ 1 = ap (λ (c : Bool). cond {A = ℕ} c 1 0) (eq-eqb a k i) in
        omega arith
    by rest (inr n) =
        let d : cond {A = ℕ} (a == k) 1 0 ≡ 0 = ap (λ (c : Bool). cond {A = ℕ} c 1 0) (ne_eqb a k n) in
        omega arith

misses : (k : ℕ) (w : List ℕ) → times_in k w ≡ 0 → Lacks k w
misses k [] e = tt
misses k (a ∷ w) e = (λ i. absurd (taken i), misses k w (omega arith))
  where
    taken : a ≡ k → ⊥
    taken i = let d : cond {A = ℕ} (a == k) 1 0 ≡ 1 = ap (λ (c : Bool). cond {A = ℕ} c 1 0) (eq-eqb a k i) in absurd (omega arith)

pub at_letter : (f : ℕ → ℕ) (a n i : ℕ) → i < n → get_or (map f (after a n)) i 0 ≡ f (a + suc i)
at_letter f a zero i h = absurd (omega arith)
at_letter f a (suc n) zero h = refl
at_letter f a (suc n) (suc i) h = let e : a + 1 + suc i ≡ a + suc (suc i) = omega arith in at_letter f (a + 1) n i (omega arith) ∙ ap f e

at_most_ones : (f : ℕ → ℕ) (a n i : ℕ) → ((j : ℕ) → f (a + suc j) ≤ 1) → get_or (map f (after a n)) i 0 ≤ 1
at_most_ones f a zero zero h = omega arith
at_most_ones f a zero (suc i) h = omega arith
at_most_ones f a (suc n) zero h = h 0
at_most_ones f a (suc n) (suc i) h =
    at_most_ones f (a + 1) n i (λ j. let e : a + suc (suc j) ≡ a + 1 + suc j = omega arith in subst (λ k. f k ≤ 1) e (h (suc j)))

-- ---- a place i such that the entry of ν + κ at i + 1 is 1 more than the entry at i, and κ is 0 at i

pub record FailsAt (ν κ : List ℕ) : Type 0 where
  pub place : ℕ
  pub within : suc place < length κ
  pub rises : get_or (join ν κ) (suc place) 0 ≡ suc (get_or (join ν κ) place 0)
  pub lacks : get_or κ place 0 ≡ 0

fails : (ν κ : List ℕ) → length ν ≡ length κ → ((i : ℕ) → get_or κ i 0 ≤ 1) → is_falling ν ≡ true → is_falling (join ν κ) ≡ false → FailsAt ν κ
fails [] [] l o f e = absurd (cc)
fails [] (x ∷ κ) l o f e = absurd (omega arith)
fails (a ∷ ν) [] l o f e = absurd (omega arith)
fails (a ∷ []) (x ∷ []) l o f e = absurd (cc)
fails (a ∷ []) (x ∷ y ∷ κ) l o f e = absurd (omega arith)
fails (a ∷ b ∷ ν) (x ∷ []) l o f e = absurd (omega arith)
fails (a ∷ b ∷ ν) (x ∷ y ∷ κ) l o f e =
    let p = and_parts (nat_le b a) (is_falling (b ∷ ν)) f in
    by (leb-true b a p.0) (and_cases (nat_le (b + y) (a + x)) (is_falling (join (b ∷ ν) (y ∷ κ))) e)
    (λ g. fails (b ∷ ν) (y ∷ κ) (omega arith) (λ i. o (suc i)) p.1 g)
  where
    by : b ≤ a → (nat_le (b + y) (a + x) ≡ false) ⊎ (is_falling (join (b ∷ ν) (y ∷ κ)) ≡ false)
        → (is_falling (join (b ∷ ν) (y ∷ κ)) ≡ false → FailsAt (b ∷ ν) (y ∷ κ)) → FailsAt (a ∷ b ∷ ν) (x ∷ y ∷ κ)
    by q (inl g) later =
        let h = leb-false (b + y) (a + x) g in
        let u = o 0 in
        let v = o 1 in
        record { place = 0; within = omega arith; rises = omega arith; lacks = omega arith }
    by q (inr g) later =
        let r = later g in
        let w = r.within in
        record { place = suc r.place; within = omega arith; rises = r.rises; lacks = r.lacks }

-- if ν is weakly decreasing and ν plus the content of the column c is not, then for some place i, counted from 0, the entry of this sum at i + 1 is 1
-- more than that at i, and c does not have the letter i + 1
pub column_fails : (n : ℕ) (ν c : List ℕ) → length ν ≡ n → is_chain may_stand_above c ≡ true → is_falling ν ≡ true → is_falling (join ν (content n c)) ≡ false
    → FailsAt ν (content n c)
column_fails n ν c l e f g =
    fails ν (content n c) (l ∙ sym (length_content n c)) (λ i. at_most_ones (λ k. times_in k c) 0 n i (λ j. at_most_once (0 + suc j) c (omega arith) e)) f g

pub column_misses : (n i : ℕ) (c : List ℕ) → i < n → get_or (content n c) i 0 ≡ 0 → Lacks (suc i) c
column_misses n i c h e =
    let k : 0 + suc i ≡ suc i = omega arith in
    misses (suc i) c (ap (λ j. times_in j c) (sym k) ∙ sym (at_letter (λ j. times_in j c) 0 n i h) ∙ e)

-- ---- lists and alternants with two neighbouring exponents exchanged

exchanged_same : (i : ℕ) (β : List ℕ) → get_or β i 0 ≡ get_or β (suc i) 0 → exchanged i β ≡ β
exchanged_same i [] e = refl
exchanged_same zero (a ∷ []) e = refl
exchanged_same zero (a ∷ b ∷ β) e = ap₂ (λ x y. x ∷ y ∷ β) (sym e) e
exchanged_same (suc i) (a ∷ β) e = ap (λ γ. a ∷ γ) (exchanged_same i β e)

at_staircase : (n i : ℕ) → get_or (staircase n) i 0 ≡ n - suc i
at_staircase zero zero = refl
at_staircase zero (suc i) = omega arith
at_staircase (suc n) zero = omega arith
at_staircase (suc n) (suc i) = at_staircase n i ∙ omega arith

alternating_exchanged : (i : ℕ) (β : List ℕ) (φ : List ℕ → ℤ) → suc i < length β → alternating (exchanged i β) φ ≡ neg_ℤ (alternating β φ)
alternating_exchanged i [] φ h = absurd (omega arith)
alternating_exchanged zero (a ∷ []) φ h = absurd (omega arith)
alternating_exchanged zero (a ∷ b ∷ β) φ h = alternating_swap b a β φ
alternating_exchanged (suc i) (a ∷ β) φ h = alternating_exchanged i β (inserting a φ) (omega arith)

-- `at_sum n φ ν`: the pairing of the alternant a_(ν + ρ) in n variables with φ, which is the sum of c·φ(α) over the terms c·x^α of the alternant
abbrev pub at_sum : ℕ → (List ℕ → ℤ) → List ℕ → ℤ
at_sum n φ ν = pair (alternant (join ν (staircase n))) φ

pub join_right_comm : (α β γ : List ℕ) → join (join α β) γ ≡ join (join α γ) β
join_right_comm α β γ = join_assoc α β γ ∙ ap (join α) (join_comm β γ) ∙ sym (join_assoc α γ β)

turned : (n i : ℕ) (ν κ : List ℕ) (φ : List ℕ → ℤ) → length ν ≡ n → length κ ≡ n → suc i < n → get_or ν (suc i) 0 ≡ suc (get_or ν i 0)
    → at_sum n φ (join ν (exchanged i κ)) ≡ neg_ℤ (at_sum n φ (join ν κ))
turned n i ν κ φ l m h r =
    ap (λ β. pair (alternant β) φ) moved
    ∙ pair_alternant (exchanged i (join (join ν κ) (staircase n))) φ
    ∙ alternating_exchanged i (join (join ν κ) (staircase n)) φ (subst (λ k. suc i < k) (sym whole) h)
    ∙ ap neg_ℤ (sym (pair_alternant (join (join ν κ) (staircase n)) φ))
  where
    whole : length (join (join ν κ) (staircase n)) ≡ n
    whole = length-join_same n (join ν κ) (staircase n) (length-join_same n ν κ l m) (length-staircase n)

    level : get_or (join ν (staircase n)) i 0 ≡ get_or (join ν (staircase n)) (suc i) 0
    level =
        let a = get_or-join ν (staircase n) i in
        let b = get_or-join ν (staircase n) (suc i) in
        let c = at_staircase n i in
        let d = at_staircase n (suc i) in
        omega arith

    moved : join (join ν (exchanged i κ)) (staircase n) ≡ exchanged i (join (join ν κ) (staircase n))
    moved =
        join_right_comm ν (exchanged i κ) (staircase n)
        ∙ ap (λ β. join β (exchanged i κ)) (sym (exchanged_same i (join ν (staircase n)) level))
        ∙ sym (exchanged-join i (join ν (staircase n)) κ (length-join_same n ν (staircase n) l (length-staircase n) ∙ sym m))
        ∙ ap (exchanged i) (join_right_comm ν (staircase n) κ)

-- if the entry of ν at place i + 1 (counted from 0) is 1 more than the entry at i, and the column `right` does not have the letter i + 1, then the
-- sum of the alternants a_(ν + content(T) + ρ) over all tableaux T left of this column is 0
pub vanishes : (n i : ℕ) (lines : List (List Bool)) (right ν : List ℕ) (φ : List ℕ → ℤ) → Falls (map length lines) → AreLong (length right) lines
    → length ν ≡ n → suc i < n → get_or ν (suc i) 0 ≡ suc (get_or ν i 0) → Lacks (suc i) right
    → over_all n lines (λ s c. at_sum n φ s) ν right ≡ pos 0
vanishes n i lines right ν φ f long l h r m =
    ap (λ s. over_all n lines (λ s' c. at_sum n φ s') s right) (sym (sum_at_start n ν (omega arith) ∙ resize_same n ν l))
    ∙ over_all-rows n lines right (at_sum n φ) ν f long
    ∙ opposite_is_zero (total ψ (left_tableaux n (transposed lines) right)) (
    sym (total_exchanged n i (transposed lines) right (λ κ. at_sum n φ (join ν κ)) h (falls-transposed lines) m)
    ∙ total_ext (λ (rows : List (List ℕ)). at_sum n φ (join ν (exchanged i (content n (letters_of rows))))) (λ (rows : List (List ℕ)). neg_ℤ (ψ rows))
    (λ rows. turned n i ν (content n (letters_of rows)) φ l (length_content n (letters_of rows)) h r) (left_tableaux n (transposed lines) right)
    ∙ total_neg ψ (left_tableaux n (transposed lines) right))
  where
    ψ : List (List ℕ) → ℤ
    ψ rows = at_sum n φ (join ν (content n (letters_of rows)))
