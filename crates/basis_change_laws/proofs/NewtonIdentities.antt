-- Newton's identities, proved for the coefficient of each monomial x^α. The proof counts the pairs of a number i ≥ 1 and an entry of α that is at
-- least i, from which i can be subtracted: the number of these pairs is the sum of the entries of α.
use Rattle.std.proofs.Common.{◌≡◌, ℕ, zero, suc, ◌+◌, ◌-◌, ◌<◌, ◌≤◌, ◌⊎◌, ◌==◌, Bool, true, false, cond, ◌&&◌, List, [], ◌∷◌, map, length, nat_le, sym, ◌∙◌, ap, ap₂, subst, refl, inl, inr, arith, ℤ, pos, neg_ℤ, ◌+ℤ◌, ◌*ℤ◌, flat_map, rules}
use Rattle.std.proofs.lemmas.Int.{ints}
use Rattle.std.proofs.lemmas.Bool.{cases_lt, le-leb, lt-leb, eq-eqb, eqb-true, ne_eqb, and_parts}
use Rattle.sym_model.specs.Sum.{total, Among}
use Rattle.sym_model.specs.Polynomial.{Term, Same, same, coefficient, scale, times}
use Rattle.sym_model.specs.Partition.{size, after}
use Rattle.sym_model.specs.Bases.{monomials, at_most_one, elementary_of, complete_of, power_sum_of}
use Rattle.sym_model.specs.PlaceOrders.{minus_one_to}
use Rattle.monomial_laws.specs.LoweredPart.{lowered}
use Rattle.sym_model.proofs.Ring.{product-one, one-product, distributes_left}
use Rattle.sym_model.proofs.Sums.{total_ext, total_among, total_none, total_zero, total_add, total_append, total_map, total_each, total_constant, Among_from_append, Among_from_map, total_cond}
use Rattle.sym_model.proofs.AfterLists.{length_after, after_among, total_after}
use Rattle.sym_model.proofs.Exponents.{tests_agree}
use Rattle.sym_model.proofs.Monomials.{is_exponent_list, coefficient-monomials, In-monomials}
use Rattle.sym_model.proofs.Polynomials.{coefficient_scale}
use Rattle.monomial_laws.proofs.PowerSums.{length-lowered, coefficient-power_sum_times}
use lib.IntN.{+ℤ_idr, *ℤ-zero}
use Rattle.sym_model.proofs.Integers.{times_chosen}

size-lowered : (i : ℕ) (α γ : List ℕ) → Among γ (lowered i α) → i + size γ ≡ size α
size-lowered i [] γ m = absurd m
size-lowered i (c ∷ α) γ m = by (cases_lt c i) (Among_from_append γ (cond (nat_le i c) (((c - i) ∷ α) ∷ []) []) (map (λ (δ : List ℕ). c ∷ δ) (lowered i α)) m) (size-lowered i α)
  where
    by : (c < i) ⊎ (i ≤ c) → Among γ (cond (nat_le i c) (((c - i) ∷ α) ∷ []) []) ⊎ Among γ (map (λ (δ : List ℕ). c ∷ δ) (lowered i α)) → ((δ : List ℕ) → Among δ (lowered i α) → i + size δ ≡ size α) → i + size γ ≡ c + size α
    by (inl h) (inl u) r = absurd (subst (λ (b : Bool). Among γ (cond b (((c - i) ∷ α) ∷ []) [])) (lt-leb i c h) u)
    by (inr h) (inl u) r = here (subst (λ (b : Bool). Among γ (cond b (((c - i) ∷ α) ∷ []) [])) (le-leb i c h) u)
      where
        here : Among γ (((c - i) ∷ α) ∷ []) → i + size γ ≡ c + size α
        here (inl e) = let d = ap size e in omega arith
        here (inr v) = absurd v
    by h (inr u) r = let s = Among_from_map (λ (δ : List ℕ). c ∷ δ) γ (lowered i α) u in let d = ap size s.2 in let e = r s.0 s.1 in omega arith

total_lowered : (g : List ℕ → ℤ) (i c : ℕ) (α : List ℕ) → total g (lowered i (c ∷ α)) ≡ cond (nat_le i c) (g ((c - i) ∷ α)) (pos 0) +ℤ total (λ (γ : List ℕ). g (c ∷ γ)) (lowered i α)
total_lowered g i c α = search (rules, total_append, total_map, +ℤ_idr)

total_last : (a k : ℕ) (g : ℕ → ℤ) → total g (after a (suc k)) ≡ total g (after a k) +ℤ g (a + suc k)
total_last a zero g = omega (arith, ints)
total_last a (suc k) g = search (rules, ints, (total_last (a + 1) k g))

total_places : (m : ℕ) (α : List ℕ) → size α ≤ m → total (λ (i : ℕ). total (λ (γ : List ℕ). pos 1) (lowered i α)) (after 0 m) ≡ pos (size α)
total_places m [] h = total_zero (after 0 m)
total_places m (c ∷ α) h =
    total_ext (λ (i : ℕ). total (λ (γ : List ℕ). pos 1) (lowered i (c ∷ α))) (λ (i : ℕ). cond (nat_le i c) (pos 1) (pos 0) +ℤ total (λ (γ : List ℕ). pos 1) (lowered i α))
    (λ i. total_lowered (λ (γ : List ℕ). pos 1) i c α) (after 0 m)
    ∙ total_add (λ (i : ℕ). cond (nat_le i c) (pos 1) (pos 0)) (λ (i : ℕ). total (λ (γ : List ℕ). pos 1) (lowered i α)) (after 0 m)
    ∙ ap₂ ◌+ℤ◌ counted (total_places m α (omega arith))
    ∙ omega (arith, ints)
  where
    counted : total (λ (i : ℕ). cond (nat_le i c) (pos 1) (pos 0)) (after 0 m) ≡ pos c
    counted =
        let e : c ≡ 0 + c = omega arith in
        ap (λ (j : ℕ). total (λ (i : ℕ). cond (nat_le i j) (pos 1) (pos 0)) (after 0 m)) e
        ∙ total_after 0 c m (λ (i : ℕ). pos 1) (omega arith)
        ∙ total_constant (pos 1) (after 0 c)
        ∙ one-product (pos (length (after 0 c)))
        ∙ ap pos (length_after 0 c)

-- ---- the coefficients of p_i·h_(k-i) and p_i·e_(k-i)

left_degree : (n k i : ℕ) (α γ : List ℕ) → i ≤ k → Among γ (lowered i α) → is_exponent_list n (k - i) γ ≡ is_exponent_list n k α
left_degree n k i α γ h m = search (rules, length-lowered, size-lowered, tests_agree, eqb-true, eq-eqb)

one_product : (test : List ℕ → Bool) (n k i : ℕ) (α : List ℕ) → 0 < i → i ≤ k
    → coefficient (times (power_sum_of i n) (monomials test n (k - i))) α ≡ cond (is_exponent_list n k α) (total (λ (γ : List ℕ). cond (test γ) (pos 1) (pos 0)) (lowered i α)) (pos 0)
one_product test n k i α p h =
    coefficient-power_sum_times i n (monomials test n (k - i)) α p (In-monomials test n (k - i))
    ∙ total_among (coefficient (monomials test n (k - i))) (λ (γ : List ℕ). cond (is_exponent_list n k α) (cond (test γ) (pos 1) (pos 0)) (pos 0)) (lowered i α)
    (λ γ m. coefficient-monomials test n (k - i) γ ∙ ap (λ (b : Bool). cond b (cond (test γ) (pos 1) (pos 0)) (pos 0)) (left_degree n k i α γ h m))
    ∙ total_cond (is_exponent_list n k α) (λ (γ : List ℕ). cond (test γ) (pos 1) (pos 0)) (lowered i α)

size_of : (n k : ℕ) (α : List ℕ) → is_exponent_list n k α ≡ true → size α ≡ k
size_of n k α e = let p = and_parts (length α == n) (size α == k) e in eqb-true (size α) k p.1

pub newton_complete : (k n : ℕ) → Same (scale (pos k) (complete_of k n)) (flat_map (λ i. times (power_sum_of i n) (complete_of (k - i) n)) (after 0 k))
newton_complete k n α =
    coefficient_scale (pos k) (complete_of k n) α
    ∙ ap (λ x. pos k *ℤ x) (coefficient-monomials (λ β. true) n k α)
    ∙ by (is_exponent_list n k α) (size_of n k α)
    ∙ sym (total_each (λ (t : Term). cond (same t.0 α) t.1 (pos 0)) (λ (i : ℕ). times (power_sum_of i n) (complete_of (k - i) n)) (after 0 k)
    ∙ total_among (λ (i : ℕ). coefficient (times (power_sum_of i n) (complete_of (k - i) n)) α) (λ (i : ℕ). cond (is_exponent_list n k α) (total (λ (γ : List ℕ). pos 1) (lowered i α)) (pos 0)) (after 0 k)
    (λ i m. let r = after_among 0 k i m in let l = r.1 in one_product (λ β. true) n k i α r.0 (omega arith))
    ∙ total_cond (is_exponent_list n k α) (λ (i : ℕ). total (λ (γ : List ℕ). pos 1) (lowered i α)) (after 0 k))
  where
    by : (b : Bool) → (b ≡ true → size α ≡ k) → pos k *ℤ cond b (pos 1) (pos 0) ≡ cond b (total (λ (i : ℕ). total (λ (γ : List ℕ). pos 1) (lowered i α)) (after 0 k)) (pos 0)
    by true s = let e = s refl in product-one (pos k) ∙ ap pos (sym e) ∙ sym (total_places k α (omega arith))
    by false s = *ℤ-zero (pos k)

-- ---- Newton's identity for elementary symmetric polynomials: k·e_k is the sum of (-1)^(i-1)·p_i·e_(k-i) for i from 1 to k

-- the sign (-1)^(i-1), for i ≥ 1
abbrev turn : ℕ → ℤ
turn i = minus_one_to (i - 1)

peak : (d : ℕ) → total (λ (i : ℕ). turn i *ℤ cond (nat_le (d - i) 1) (pos 1) (pos 0)) (after 0 d) ≡ cond (d == 1) (pos 1) (pos 0)
peak zero = refl
peak (suc zero) = refl
peak (suc (suc c)) =
    let before : total g (after 0 c) ≡ pos 0 = total_none g (after 0 c) (λ i m. let r = after_among 0 c i m in let l = r.1 in ap (λ (b : Bool). turn i *ℤ cond b (pos 1) (pos 0)) (lt-leb (suc (suc c) - i) 1 (omega arith)) ∙ *ℤ-zero (turn i)) in
    let one = total_last 0 c g in
    let two = total_last 0 (suc c) g in
    let u = last c in
    let v = very_last c in
    let n = ne_eqb (suc (suc c)) 1 (λ e. absurd (omega arith)) in
    sum_up (total g (after 0 (suc (suc c)))) (total g (after 0 (suc c))) (total g (after 0 c)) (g (0 + suc c)) (g (0 + suc (suc c))) (minus_one_to c) two one before u v
    ∙ sym (ap (λ (b : Bool). cond b (pos 1) (pos 0)) n)
  where
    g : ℕ → ℤ
    g i = turn i *ℤ cond (nat_le (suc (suc c) - i) 1) (pos 1) (pos 0)

    value : (i j : ℕ) → i ≡ suc j → suc (suc c) - i ≤ 1 → g i ≡ minus_one_to j
    value i j e h =
        let d : i - 1 ≡ j = omega arith in
        ap (λ (b : Bool). turn i *ℤ cond b (pos 1) (pos 0)) (le-leb (suc (suc c) - i) 1 h) ∙ product-one (turn i) ∙ ap minus_one_to d

    last : (d : ℕ) → g (0 + suc c) ≡ minus_one_to c
    last d = value (0 + suc c) c (omega arith) (omega arith)

    very_last : (d : ℕ) → g (0 + suc (suc c)) ≡ neg_ℤ (minus_one_to c)
    very_last d = value (0 + suc (suc c)) (suc c) (omega arith) (omega arith)

    sum_up : (x y z p q t : ℤ) → x ≡ y +ℤ q → y ≡ z +ℤ p → z ≡ pos 0 → p ≡ t → q ≡ neg_ℤ t → x ≡ pos 0
    sum_up x y z p q t a b d e f = omega (arith, ints)

-- for c ≤ m, the sum of (-1)^(i-1) over the i from 1 to m with i ≤ c and c - i ≤ 1 is 1 if c is 1, and otherwise 0
one_peak : (m c : ℕ) → c ≤ m → total (λ (i : ℕ). cond (nat_le i c) (turn i *ℤ cond (nat_le (c - i) 1) (pos 1) (pos 0)) (pos 0)) (after 0 m) ≡ cond (c == 1) (pos 1) (pos 0)
one_peak m c h =
    let e : c ≡ 0 + c = omega arith in
    ap (λ (j : ℕ). total (λ (i : ℕ). cond (nat_le i j) (turn i *ℤ cond (nat_le (c - i) 1) (pos 1) (pos 0)) (pos 0)) (after 0 m)) e
    ∙ total_after 0 c m (λ (i : ℕ). turn i *ℤ cond (nat_le (c - i) 1) (pos 1) (pos 0)) h
    ∙ peak c

first_place : (p q r : Bool) (t : ℤ) → t *ℤ cond p (cond (q && r) (pos 1) (pos 0)) (pos 0) ≡ cond r (cond p (t *ℤ cond q (pos 1) (pos 0)) (pos 0)) (pos 0)
first_place true true true t = refl
first_place true true false t = *ℤ-zero t
first_place true false true t = refl
first_place true false false t = *ℤ-zero t
first_place false q true t = *ℤ-zero t
first_place false q false t = *ℤ-zero t

later_places : {A : Type 0} (b : Bool) (test : A → Bool) (xs : List A) (t : ℤ) → t *ℤ total (λ (x : A). cond (b && test x) (pos 1) (pos 0)) xs ≡ cond b (t *ℤ total (λ (x : A). cond (test x) (pos 1) (pos 0)) xs) (pos 0)
later_places true test xs t = refl
later_places false test xs t = ap (λ z. t *ℤ z) (total_zero xs) ∙ *ℤ-zero t

-- with [P] for 1 if P holds and 0 otherwise: [b and c = 1] + n·[c ≤ 1 and b] = (c + n)·[c ≤ 1 and b]. In `elementary_places`, n is the sum of a
-- list α, and b says whether no entry of α exceeds 1.
with_first : (c n : ℕ) (b : Bool) → cond b (cond (c == 1) (pos 1) (pos 0)) (pos 0) +ℤ cond (nat_le c 1) (cond b (pos n) (pos 0)) (pos 0) ≡ cond (nat_le c 1 && b) (pos (c + n)) (pos 0)
with_first zero n true = omega (arith, ints)
with_first zero n false = refl
with_first (suc zero) n true = omega (arith, ints)
with_first (suc zero) n false = refl
with_first (suc (suc c)) n b = search rules

-- let m be at least the sum of α. Take the sum over i from 1 to m of (-1)^(i-1) times the number of lists of 0s and 1s obtained from α by subtracting
-- i from one entry. This is the sum of α if α is a list of 0s and 1s, and 0 otherwise.
elementary_places : (m : ℕ) (α : List ℕ) → size α ≤ m
    → total (λ (i : ℕ). turn i *ℤ total (λ (γ : List ℕ). cond (at_most_one γ) (pos 1) (pos 0)) (lowered i α)) (after 0 m) ≡ cond (at_most_one α) (pos (size α)) (pos 0)
elementary_places m [] h = total_none (λ (i : ℕ). turn i *ℤ pos 0) (after 0 m) (λ i n. *ℤ-zero (turn i))
elementary_places m (c ∷ α) h =
    total_ext (λ (i : ℕ). turn i *ℤ total (λ (γ : List ℕ). cond (at_most_one γ) (pos 1) (pos 0)) (lowered i (c ∷ α)))
    (λ (i : ℕ). cond (at_most_one α) (cond (nat_le i c) (turn i *ℤ cond (nat_le (c - i) 1) (pos 1) (pos 0)) (pos 0)) (pos 0) +ℤ cond (nat_le c 1) (turn i *ℤ total (λ (γ : List ℕ). cond (at_most_one γ) (pos 1) (pos 0)) (lowered i α)) (pos 0))
    (λ i. ap (λ z. turn i *ℤ z) (total_lowered (λ (γ : List ℕ). cond (at_most_one γ) (pos 1) (pos 0)) i c α)
    ∙ distributes_left (turn i) (cond (nat_le i c) (cond (nat_le (c - i) 1 && at_most_one α) (pos 1) (pos 0)) (pos 0)) (total (λ (γ : List ℕ). cond (nat_le c 1 && at_most_one γ) (pos 1) (pos 0)) (lowered i α))
    ∙ ap₂ ◌+ℤ◌ (first_place (nat_le i c) (nat_le (c - i) 1) (at_most_one α) (turn i)) (later_places (nat_le c 1) at_most_one (lowered i α) (turn i)))
    (after 0 m)
    ∙ total_add (λ (i : ℕ). cond (at_most_one α) (cond (nat_le i c) (turn i *ℤ cond (nat_le (c - i) 1) (pos 1) (pos 0)) (pos 0)) (pos 0)) (λ (i : ℕ). cond (nat_le c 1) (turn i *ℤ total (λ (γ : List ℕ). cond (at_most_one γ) (pos 1) (pos 0)) (lowered i α)) (pos 0)) (after 0 m)
    ∙ ap₂ ◌+ℤ◌
    (total_cond (at_most_one α) (λ (i : ℕ). cond (nat_le i c) (turn i *ℤ cond (nat_le (c - i) 1) (pos 1) (pos 0)) (pos 0)) (after 0 m) ∙ ap (λ (z : ℤ). cond (at_most_one α) z (pos 0)) (one_peak m c (omega arith)))
    (total_cond (nat_le c 1) (λ (i : ℕ). turn i *ℤ total (λ (γ : List ℕ). cond (at_most_one γ) (pos 1) (pos 0)) (lowered i α)) (after 0 m) ∙ ap (λ (z : ℤ). cond (nat_le c 1) z (pos 0)) (elementary_places m α (omega arith)))
    ∙ with_first c (size α) (at_most_one α)

pub newton_elementary : (k n : ℕ) → Same (scale (pos k) (elementary_of k n)) (flat_map (λ i. scale (minus_one_to (i - 1)) (times (power_sum_of i n) (elementary_of (k - i) n))) (after 0 k))
newton_elementary k n α =
    coefficient_scale (pos k) (elementary_of k n) α
    ∙ ap (λ x. pos k *ℤ x) (coefficient-monomials at_most_one n k α)
    ∙ by (is_exponent_list n k α) (size_of n k α)
    ∙ sym (total_each (λ (t : Term). cond (same t.0 α) t.1 (pos 0)) (λ (i : ℕ). scale (turn i) (times (power_sum_of i n) (elementary_of (k - i) n))) (after 0 k)
    ∙ total_among (λ (i : ℕ). coefficient (scale (turn i) (times (power_sum_of i n) (elementary_of (k - i) n))) α)
    (λ (i : ℕ). cond (is_exponent_list n k α) (turn i *ℤ total (λ (γ : List ℕ). cond (at_most_one γ) (pos 1) (pos 0)) (lowered i α)) (pos 0)) (after 0 k)
    (λ i m. let r = after_among 0 k i m in let l = r.1 in
    coefficient_scale (turn i) (times (power_sum_of i n) (elementary_of (k - i) n)) α
    ∙ ap (λ x. turn i *ℤ x) (one_product at_most_one n k i α r.0 (omega arith))
    ∙ sym (times_chosen (is_exponent_list n k α) (turn i) (total (λ (γ : List ℕ). cond (at_most_one γ) (pos 1) (pos 0)) (lowered i α))))
    ∙ total_cond (is_exponent_list n k α) (λ (i : ℕ). turn i *ℤ total (λ (γ : List ℕ). cond (at_most_one γ) (pos 1) (pos 0)) (lowered i α)) (after 0 k))
  where
    scaled : (b : Bool) → pos k *ℤ cond b (pos 1) (pos 0) ≡ cond b (pos k) (pos 0)
    scaled true = product-one (pos k)
    scaled false = *ℤ-zero (pos k)

    by : (b : Bool) → (b ≡ true → size α ≡ k)
        → pos k *ℤ cond b (cond (at_most_one α) (pos 1) (pos 0)) (pos 0)
        ≡ cond b (total (λ (i : ℕ). turn i *ℤ total (λ (γ : List ℕ). cond (at_most_one γ) (pos 1) (pos 0)) (lowered i α)) (after 0 k)) (pos 0)
    by true s =
        let e = s refl in
        scaled (at_most_one α) ∙ ap (λ (j : ℕ). cond (at_most_one α) (pos j) (pos 0)) (sym e) ∙ sym (elementary_places k α (omega arith))
    by false s = *ℤ-zero (pos k)
