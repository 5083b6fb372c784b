-- Powers of x_1 + .. + x_n (specs/Majorant). Here *the power d* is (x_1 + .. + x_n)^d.
--     power-add                   the product of the powers d and e is the power d + e
--     coefficient_power           the coefficient of x^α in the power d, times Π α_i!, is d! if α has the sum d, and 0 otherwise
--     powers-product              the product of two sums of powers is the sum of the powers d + e, for each exponent d of the first sum and each
--                                 exponent e of the second
use Rattle.std.proofs.Common.{◌≡◌, ◌⊎◌, ℕ, zero, suc, ◌+◌, ◌-◌, ◌*◌, ◌<◌, ◌≤◌, Bool, true, false, cond, eqb, leb, List, [], ◌∷◌, ◌++◌, map, length, replicate, sym, ◌∙◌, ap, ap₂, subst, refl, inl, inr, arith, ℤ, pos, negsuc, ◌+ℤ◌, ◌*ℤ◌, flat_map, rules}
use Rattle.std.specs.Prelude.{◌≤ℤ◌}
use Rattle.std.proofs.lemmas.Int.{ints}
use Rattle.std.proofs.lemmas.Bool.{cases_eq, eq-eqb, ne_eqb, eqb-true, leb-true}
use Rattle.std.proofs.lemmas.List.{length-append, length-map}
use Rattle.sym_model.proofs.Exponents.{tests_agree}
use Rattle.sym_model.specs.Sum.{total, Among}
use Rattle.sym_model.specs.Polynomial.{Poly, coefficient, Same, In, one, join, pair, times}
use Rattle.sym_model.specs.Partition.{size, insert_part, sorted_parts}
use Rattle.sym_model.specs.Bases.{power_sum_of, product_over}
use Rattle.sym_model.specs.Weight.{factorial}
use Rattle.monomial_laws.specs.Majorant.{power, powers}
use Rattle.sym_model.proofs.Ring.{one-product, product_assoc, distributes_right}
use Rattle.sym_model.proofs.Sums.{total_ext, total_append, total_map, total_scale, total_each, Among_from_append, Among-map, Among_from_map}
use Rattle.sym_model.proofs.Polynomials.{at_only, coefficient_pair, pair_ext, pair_each, pair_times, pair_total, pair_determined, same_from_pair, Same_refl, Same_sym, Same_trans, times_respects, In_one, In_times, In_each, coefficient_outside}
use Rattle.sym_model.proofs.PolynomialLaws.{times_assoc, one-times}
use Rattle.sym_model.proofs.Monomials.{In-monomials}
use Rattle.monomial_laws.specs.LoweredPart.{lowered}
use Rattle.monomial_laws.proofs.PowerSums.{length-lowered, coefficient-power_sum_times}
use Rattle.monomial_laws.proofs.Growths.{factorial-positive}
use Rattle.sym_model.specs.ListWeight.{factorials}
use native.Mathlib.Nat.{mul-le-mul_left}
use lib.IntN.{*ℤ-zero, zero-*ℤ, *ℤ_comm}
use Rattle.std.proofs.Math.Nat.{mul_left_comm}
use Rattle.sym_model.proofs.Integers.{pos-cond}

-- ---- products of polynomials in n variables, and products of powers of x_1 + .. + x_n

pub In-product_over : (f : ℕ → ℕ → Poly) (parts : List ℕ) (n : ℕ) → ((k : ℕ) → In n (f k n)) → In n (product_over f parts n)
In-product_over f [] n i = In_one n
In-product_over f (k ∷ parts) n i = In_times n (f k n) (product_over f parts n) (i k) (In-product_over f parts n i)

pub In-power_sum_of : (k n : ℕ) → In n (power_sum_of k n)
In-power_sum_of k n = In-monomials _ n k

pub In-power : (d n : ℕ) → In n (power d n)
In-power d n = In-product_over power_sum_of (replicate d 1) n (λ k. In-power_sum_of k n)

pub In-powers : (exponents : List ℕ) (n : ℕ) → In n (powers exponents n)
In-powers exponents n = In_each n (λ (d : ℕ). power d n) exponents (λ d m. In-power d n)

pub power-add : (d e n : ℕ) → Same (power (d + e) n) (times (power d n) (power e n))
power-add zero e n = search (rules, one-times, In-power)
power-add (suc d) e n =
    let k : suc d + e ≡ suc (d + e) = omega arith in
    let p = power_sum_of 1 n in
    rw k
    (Same_trans (times p (power (d + e) n)) (times p (times (power d n) (power e n))) (times (times p (power d n)) (power e n))
    (times_respects p p (power (d + e) n) (times (power d n) (power e n)) (Same_refl p) (power-add d e n))
    (Same_sym (times (times p (power d n)) (power e n)) (times p (times (power d n) (power e n))) (times_assoc p (power d n) (power e n))))

-- ---- the coefficient of x^α in (x_1 + .. + x_n)^d

size-lowered : (α γ : List ℕ) → Among γ (lowered 1 α) → suc (size γ) ≡ size α
size-lowered [] γ m = absurd m
size-lowered (c ∷ α) γ m = by (leb 1 c) refl (Among_from_append γ (cond (leb 1 c) (((c - 1) ∷ α) ∷ []) []) (map (λ (δ : List ℕ). c ∷ δ) (lowered 1 α)) m) (size-lowered α)
  where
    by : (b : Bool) → leb 1 c ≡ b → Among γ (cond b (((c - 1) ∷ α) ∷ []) []) ⊎ Among γ (map (λ (δ : List ℕ). c ∷ δ) (lowered 1 α)) → ((δ : List ℕ) → Among δ (lowered 1 α) → suc (size δ) ≡ size α) → suc (size γ) ≡ c + size α
    by true e (inl (inl i)) r = let l : 1 ≤ c = leb-true 1 c e in omega (arith, ap size i)
    by true e (inl (inr u)) r = absurd u
    by false e (inl u) r = absurd u
    by b e (inr u) r = let s = Among_from_map (λ (δ : List ℕ). c ∷ δ) γ (lowered 1 α) u in omega (arith, ap size s.2, r s.0 s.1)

lowered-suc : (c : ℕ) (α : List ℕ) → lowered 1 (suc c ∷ α) ≡ (c ∷ α) ∷ map (λ (γ : List ℕ). suc c ∷ γ) (lowered 1 α)
lowered-suc c α = search rules

factorials-lowered : (α : List ℕ) (f : List ℕ → ℤ) (k : ℤ) → ((γ : List ℕ) → Among γ (lowered 1 α) → f γ *ℤ pos (factorials γ) ≡ k)
    → total f (lowered 1 α) *ℤ pos (factorials α) ≡ pos (size α) *ℤ k
factorials-lowered [] f k h = zero-*ℤ (pos 1) ∙ sym (zero-*ℤ k)
factorials-lowered (zero ∷ α) f k h =
    ap₂ ◌*ℤ◌ (total_map f (λ (γ : List ℕ). 0 ∷ γ) (lowered 1 α)) (ap pos (let e : 1 * factorials α ≡ factorials α = omega arith in e))
    ∙ factorials-lowered α (λ γ. f (0 ∷ γ)) k
    (λ γ m. ap (λ n. f (0 ∷ γ) *ℤ pos n) (let e : factorials γ ≡ 1 * factorials γ = omega arith in e) ∙ h (0 ∷ γ) (Among-map (λ (γ : List ℕ). 0 ∷ γ) γ (lowered 1 α) m))
    ∙ ap (λ n. pos n *ℤ k) (let e : size α ≡ 0 + size α = omega arith in e)
factorials-lowered (suc c ∷ α) f k h =
    subst
    (λ (l : List (List ℕ)). ((γ : List ℕ) → Among γ l → f γ *ℤ pos (factorials γ) ≡ k) → total f l *ℤ pos (factorials (suc c ∷ α)) ≡ pos (suc c + size α) *ℤ k)
    (sym (lowered-suc c α))
    (λ r. step r (factorials-lowered α (λ γ. pos (suc c * factorial c) *ℤ f (suc c ∷ γ)) k))
    h
  where
    scaled : (z : ℤ) (a b : ℕ) → z *ℤ pos (a * b) ≡ (pos a *ℤ z) *ℤ pos b
    scaled z a b = sym (ap (λ x. x *ℤ pos b) (*ℤ_comm (pos a) z) ∙ product_assoc z (pos a) (pos b))

    sum : (x y : ℤ) (a b e s : ℕ) (k : ℤ) → x *ℤ pos (b * e) ≡ k → y *ℤ pos (a * b * e) ≡ pos s *ℤ k → (x +ℤ y) *ℤ pos (a * b * e) ≡ pos (a + s) *ℤ k
    sum x y a b e s k p q =
        distributes_right x y (pos (a * b * e))
        ∙ ap₂ ◌+ℤ◌
        (ap (λ n. x *ℤ pos n) (let r : a * b * e ≡ a * (b * e) = omega arith in r) ∙ scaled x a (b * e) ∙ product_assoc (pos a) x (pos (b * e)) ∙ ap (λ z. pos a *ℤ z) p)
        q
        ∙ sym (distributes_right (pos a) (pos s) k)

    step : ((γ : List ℕ) → Among γ ((c ∷ α) ∷ map (λ (γ : List ℕ). suc c ∷ γ) (lowered 1 α)) → f γ *ℤ pos (factorials γ) ≡ k)
        → (((γ : List ℕ) → Among γ (lowered 1 α) → (pos (suc c * factorial c) *ℤ f (suc c ∷ γ)) *ℤ pos (factorials γ) ≡ k) → total (λ (γ : List ℕ). pos (suc c * factorial c) *ℤ f (suc c ∷ γ)) (lowered 1 α) *ℤ pos (factorials α) ≡ pos (size α) *ℤ k)
        → total f ((c ∷ α) ∷ map (λ (γ : List ℕ). suc c ∷ γ) (lowered 1 α)) *ℤ pos (suc c * factorial c * factorials α) ≡ pos (suc c + size α) *ℤ k
    step r rest =
        ap (λ z. (f (c ∷ α) +ℤ z) *ℤ pos (suc c * factorial c * factorials α)) (total_map f (λ (γ : List ℕ). suc c ∷ γ) (lowered 1 α))
        ∙ sum (f (c ∷ α)) (total (λ (γ : List ℕ). f (suc c ∷ γ)) (lowered 1 α)) (suc c) (factorial c) (factorials α) (size α) k
        (r (c ∷ α) (inl refl))
        (scaled (total (λ (γ : List ℕ). f (suc c ∷ γ)) (lowered 1 α)) (suc c * factorial c) (factorials α)
        ∙ ap (λ z. z *ℤ pos (factorials α)) (sym (total_scale (pos (suc c * factorial c)) (λ (γ : List ℕ). f (suc c ∷ γ)) (lowered 1 α)))
        ∙ rest
        (λ γ m.
        sym (scaled (f (suc c ∷ γ)) (suc c * factorial c) (factorials γ))
        ∙ r (suc c ∷ γ) (inr (Among-map (λ (γ : List ℕ). suc c ∷ γ) γ (lowered 1 α) m))))

-- the coefficient of x^α in the polynomial 1, times Π α_i!, is 1 if all α_i are 0, and 0 otherwise
coefficient-one : (α : List ℕ) → coefficient (one (length α)) α *ℤ pos (factorials α) ≡ cond (eqb (size α) 0) (pos 1) (pos 0)
coefficient-one [] = refl
coefficient-one (zero ∷ α) = search (rules, (coefficient-one α))
coefficient-one (suc c ∷ α) = search rules

-- if α has n entries with the sum d, the coefficient of x^α in (x_1 + .. + x_n)^d times Π α_i! is d!; if the sum of α is not d, the coefficient is 0
pub coefficient_power : (d n : ℕ) (α : List ℕ) → length α ≡ n → coefficient (power d n) α *ℤ pos (factorials α) ≡ cond (eqb (size α) d) (pos (factorial d)) (pos 0)
coefficient_power zero n α long = ap (λ m. coefficient (one m) α *ℤ pos (factorials α)) (sym long) ∙ coefficient-one α
coefficient_power (suc d) n α long =
    ap (λ z. z *ℤ pos (factorials α)) (coefficient-power_sum_times 1 n (power d n) α (omega arith) (In-power d n))
    ∙ factorials-lowered α (coefficient (power d n)) (cond (eqb (size α) (suc d)) (pos (factorial d)) (pos 0))
    (λ γ m.
    coefficient_power d n γ (length-lowered 1 α γ m ∙ long)
    ∙ ap (λ b. cond b (pos (factorial d)) (pos 0)) (one_more γ (size-lowered α γ m)))
    ∙ by (cases_eq (size α) (suc d))
  where
    one_more : (γ : List ℕ) → suc (size γ) ≡ size α → eqb (size γ) d ≡ eqb (size α) (suc d)
    one_more γ e =
        tests_agree (eqb (size γ) d) (eqb (size α) (suc d))
        (λ t. let u = eqb-true (size γ) d t in eq-eqb (size α) (suc d) (omega arith))
        (λ t. let u = eqb-true (size α) (suc d) t in eq-eqb (size γ) d (omega arith))

    by : (size α ≡ suc d) ⊎ (size α ≡ suc d → ⊥) → pos (size α) *ℤ cond (eqb (size α) (suc d)) (pos (factorial d)) (pos 0) ≡ cond (eqb (size α) (suc d)) (pos (suc d * factorial d)) (pos 0)
    by (inl e) = rw (eq-eqb (size α) (suc d) e) (ap (λ n. pos (n * factorial d)) e)
    by (inr n) = rw (ne_eqb (size α) (suc d) n) (*ℤ-zero (pos (size α)))

pub factorials-positive : (α : List ℕ) → 0 < factorials α
factorials-positive [] = omega arith
factorials-positive (a ∷ α) = let p = mul-le-mul_left (factorial a) (factorials-positive α) in omega (arith, p, factorial-positive a)

factor : (z : ℤ) (a b : ℕ) → 0 < a → z *ℤ pos a ≡ pos b → (pos 0 ≤ℤ z) × (0 < b → pos 1 ≤ℤ z) × (b ≡ 0 → z ≡ pos 0)
factor (pos zero) a b h e = (omega (arith, ints), λ l. absurd (omega (arith, ints)), λ i. refl)
factor (pos (suc k)) a b h e =
    (omega (arith, ints), λ l. omega (arith, ints), λ i. let p = mul-le-mul_left (suc k) h in let q : suc k * a ≡ b = omega (arith, ints) in absurd (omega arith))
factor (negsuc k) a b h e = search rules

whole_coefficient : (d n : ℕ) (α : List ℕ) → length α ≡ n → coefficient (power d n) α *ℤ pos (factorials α) ≡ pos (cond (eqb (size α) d) (factorial d) 0)
whole_coefficient d n α long = coefficient_power d n α long ∙ sym (pos-cond (eqb (size α) d) (factorial d))

pub power-nonnegative : (d n : ℕ) (α : List ℕ) → pos 0 ≤ℤ coefficient (power d n) α
power-nonnegative d n α = by (cases_eq (length α) n)
  where
    by : (length α ≡ n) ⊎ (length α ≡ n → ⊥) → pos 0 ≤ℤ coefficient (power d n) α
    by (inl e) = (factor (coefficient (power d n) α) (factorials α) (cond (eqb (size α) d) (factorial d) 0) (factorials-positive α) (whole_coefficient d n α e)).0
    by (inr e) = rw (coefficient_outside n (power d n) α (In-power d n) e) (omega (arith, ints))

-- each monomial of degree d in n variables has a positive coefficient in (x_1 + .. + x_n)^d
pub power-positive : (d n : ℕ) (α : List ℕ) → length α ≡ n → size α ≡ d → pos 1 ≤ℤ coefficient (power d n) α
power-positive d n α e i =
    (factor (coefficient (power d n) α) (factorials α) (cond (eqb (size α) d) (factorial d) 0) (factorials-positive α) (whole_coefficient d n α e)).1
    (rw (eq-eqb (size α) d i) (factorial-positive d))

pub power-elsewhere : (d n : ℕ) (α : List ℕ) → length α ≡ n → (size α ≡ d → ⊥) → coefficient (power d n) α ≡ pos 0
power-elsewhere d n α e i =
    (factor (coefficient (power d n) α) (factorials α) (cond (eqb (size α) d) (factorial d) 0) (factorials-positive α) (whole_coefficient d n α e)).2
    (rw (ne_eqb (size α) d i) refl)

-- ---- sums of powers of x_1 + .. + x_n

pub pair-powers : (exponents : List ℕ) (n : ℕ) (φ : List ℕ → ℤ) → pair (powers exponents n) φ ≡ total (λ (d : ℕ). pair (power d n) φ) exponents
pair-powers exponents n φ = pair_each (λ (d : ℕ). power d n) exponents φ

pub coefficient-powers : (exponents : List ℕ) (n : ℕ) (α : List ℕ) → coefficient (powers exponents n) α ≡ total (λ (d : ℕ). coefficient (power d n) α) exponents
coefficient-powers exponents n α = search (rules, coefficient_pair, pair-powers, at_only, total_ext)

-- the sums d + e for each exponent d of the first list and each exponent e of the second: the exponents of a product of two sums of powers
abbrev pub sums : List ℕ → List ℕ → List ℕ
sums ds es = flat_map (λ (d : ℕ). map (λ (e : ℕ). d + e) es) ds

pub powers-product : (ds es : List ℕ) (n : ℕ) → Same (powers (sums ds es) n) (times (powers ds n) (powers es n))
powers-product ds es n =
    same_from_pair (powers (sums ds es) n) (times (powers ds n) (powers es n))
    (λ φ.
    pair-powers (sums ds es) n φ
    ∙ total_each (λ (d : ℕ). pair (power d n) φ) (λ (d : ℕ). map (λ (e : ℕ). d + e) es) ds
    ∙ total_ext
    (λ (d : ℕ). total (λ (e : ℕ). pair (power e n) φ) (map (λ (e : ℕ). d + e) es))
    (λ (d : ℕ). pair (power d n) (λ α. pair (powers es n) (λ β. φ (join α β))))
    (λ d.
    total_map (λ (e : ℕ). pair (power e n) φ) (λ (e : ℕ). d + e) es
    ∙ total_ext
    (λ (e : ℕ). pair (power (d + e) n) φ)
    (λ (e : ℕ). pair (power d n) (λ α. pair (power e n) (λ β. φ (join α β))))
    (λ e. pair_determined (power (d + e) n) (times (power d n) (power e n)) φ (power-add d e n) ∙ pair_times (power d n) (power e n) φ)
    es
    ∙ sym (pair_total (power d n) (λ (e : ℕ) (α : List ℕ). pair (power e n) (λ β. φ (join α β))) es)
    ∙ pair_ext (power d n) (λ α. total (λ (e : ℕ). pair (power e n) (λ β. φ (join α β))) es) (λ α. pair (powers es n) (λ β. φ (join α β))) (λ α. sym (pair-powers es n (λ β. φ (join α β)))))
    ds
    ∙ sym (pair-powers ds n (λ α. pair (powers es n) (λ β. φ (join α β))))
    ∙ sym (pair_times (powers ds n) (powers es n) φ))

pub length-sums : (ds es : List ℕ) → length (sums ds es) ≡ length ds * length es
length-sums [] es = omega arith
length-sums (d ∷ ds) es = length-append (map (λ (e : ℕ). d + e) es) (sums ds es) ∙ ap₂ ◌+◌ (length-map es (λ (e : ℕ). d + e)) (length-sums ds es) ∙ omega arith

-- a list of exponents repeated q times
abbrev pub copies : ℕ → List ℕ → List ℕ
copies zero ds = []
copies (suc q) ds = ds ++ copies q ds

pub length-copies : (q : ℕ) (ds : List ℕ) → length (copies q ds) ≡ q * length ds
length-copies zero ds = omega arith
length-copies (suc q) ds = omega (arith, length-append ds (copies q ds), length-copies q ds)

pub powers-append : (ds es : List ℕ) (n : ℕ) (α : List ℕ) → coefficient (powers (ds ++ es) n) α ≡ coefficient (powers ds n) α +ℤ coefficient (powers es n) α
powers-append ds es n α = search (rules, coefficient-powers, total_append)

pub powers-copies : (q : ℕ) (ds : List ℕ) (n : ℕ) (α : List ℕ) → coefficient (powers (copies q ds) n) α ≡ pos q *ℤ coefficient (powers ds n) α
powers-copies zero ds n α = sym (zero-*ℤ (coefficient (powers ds n) α))
powers-copies (suc q) ds n α = search (rules, powers-append, one-product, distributes_right, (powers-copies q ds n α))

-- if α has the sum d, the coefficient of x^α in the sum of the powers of x_1 + .. + x_n with the exponents ds is at most `length ds` times the
-- coefficient of x^α in (x_1 + .. + x_n)^d
pub powers-few : (ds : List ℕ) (n d : ℕ) (α : List ℕ) → length α ≡ n → size α ≡ d → coefficient (powers ds n) α ≤ℤ (pos (length ds) *ℤ coefficient (power d n) α)
powers-few ds n d α e i = rw (coefficient-powers ds n α) (by ds)
  where
    one : (x : ℕ) → coefficient (power x n) α ≤ℤ coefficient (power d n) α
    one x = each_one (cases_eq x d)
      where
        each_one : (x ≡ d) ⊎ (x ≡ d → ⊥) → coefficient (power x n) α ≤ℤ coefficient (power d n) α
        each_one (inl k) = subst (λ y. coefficient (power x n) α ≤ℤ coefficient (power y n) α) k (omega (arith, ints))
        each_one (inr k) = rw (power-elsewhere x n α e (λ j. k (sym j ∙ i))) (power-nonnegative d n α)

    add : (k : ℕ) (x y z : ℤ) → x ≤ℤ z → y ≤ℤ (pos k *ℤ z) → (x +ℤ y) ≤ℤ (pos (suc k) *ℤ z)
    add k x y z h l = let e = distributes_right (pos 1) (pos k) z in let f = one-product z in let g : pos (1 + k) *ℤ z ≡ pos (suc k) *ℤ z = ap (λ m. pos m *ℤ z) (let e : 1 + k ≡ suc k = omega arith in e) in omega (arith, ints)

    by : (xs : List ℕ) → total (λ (x : ℕ). coefficient (power x n) α) xs ≤ℤ (pos (length xs) *ℤ coefficient (power d n) α)
    by [] = rw (zero-*ℤ (coefficient (power d n) α)) (omega (arith, ints))
    by (x ∷ xs) = add (length xs) (coefficient (power x n) α) (total (λ (x : ℕ). coefficient (power x n) α) xs) (coefficient (power d n) α) (one x) (by xs)

pub factorials-insert : (a : ℕ) (parts : List ℕ) → factorials (insert_part a parts) ≡ factorial a * factorials parts
factorials-insert zero parts = omega arith
factorials-insert (suc a) [] = refl
factorials-insert (suc a) (b ∷ parts) = search (rules, mul_left_comm, (factorials-insert (suc a) parts))

pub factorials-sorted : (α : List ℕ) → factorials (sorted_parts α) ≡ factorials α
factorials-sorted [] = refl
factorials-sorted (a ∷ α) = factorials-insert a (sorted_parts α) ∙ ap (λ k. factorial a * k) (factorials-sorted α)
