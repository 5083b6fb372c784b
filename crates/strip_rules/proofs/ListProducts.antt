-- The product of f and a linear combination of Schur polynomials (a list in s), as the sum of the products of f and the terms of the list. The
-- *weight* of a list is max(1, D·A)·D, with D the least common denominator and A the sum of the absolute values |c| of its coefficients.
--     AddsList-none, AddsList-next    the sum of the products of f and the terms visited so far, for no term and after one more term
--     list_large                      if D or D·A is at least 2^127, so is the weight
--     weight_within                   a bound for the weight of the product
use Rattle.std.proofs.Common.{◌≡◌, ℕ, zero, suc, ◌+◌, ◌*◌, ◌/◌, ◌^◌, ◌<◌, ◌≤◌, max, List, [], ◌∷◌, ◌++◌, refl, sym, ap, ap₂, ◌∙◌, subst, inl, inr, arith, ℤ, ◌+ℤ◌, ◌*ℤ◌, rules}
use Rattle.std.specs.Prelude.{nat_eq, nat_abs}
use Rattle.std.specs.Int.{◌∣◌}
use Rattle.std.specs.Cmp.Lexicographic.{pointwise, nat_list_eq_equiv}
use Rattle.std.proofs.Math.Nat.{div-mul_cancel, div-mul-le_self, dvd_of_mul-dvd-mul_right, mul-dvd-mul_right, one-dvd, one-le-pow, pow-le-pow_left}
use Rattle.std.proofs.lemmas.Bool.{and_parts, cases_lt}
use Rattle.std.proofs.lemmas.Nat.Gcd.{le_of_dvd}
use Rattle.sym_model.specs.Sum.{Among}
use Rattle.sym_model.specs.Canonical.{gcd, is_label}
use Rattle.sym_model.specs.Partition.{IsPartition, size, rows}
use Rattle.sym_model.specs.Polynomial.{Poly, pair, times}
use Rattle.sym_model.specs.Schur.{schur}
use Rattle.sym_model.specs.Expansion.{Fraction, Terms}
use Rattle.sym_model.specs.Expression.{lcm}
use Rattle.sym_model.specs.ListWeight.{common_denominator, absolute_sum, list_weight}
use Rattle.sym_model.specs.WholeTerms.{WholeTerms}
use Rattle.sym_model.proofs.GreatestCommonDivisors.{IsGcd-gcd}
use Rattle.sym_model.proofs.Orders.{is_reduced-tells, is_label-tells}
use Rattle.sym_model.proofs.Sums.{Among-map, Among_from_map}
use Rattle.monomial_laws.proofs.WeightBounds.{lcm-positive}
use Rattle.fraction_laws.specs.Fractions.{scaled as numerator_over, InLowestTerms}
use Rattle.fraction_laws.proofs.Divisors.{divides_other_factor, coprime_without, divisor_positive}
use Rattle.linear_combinations.specs.Entries.{IsCombination, IsWholeTable}
use Rattle.linear_combinations.specs.Gains.{over, mass, mass_at, scaled as gained_times, HaveLabels}
use Rattle.linear_combinations.proofs.Labels.{same_partition}
use Rattle.linear_combinations.proofs.Gains.{all_pairs, next_among, over_append, mass_at_append, overflows_both, scaled_over}
use Rattle.linear_combinations.proofs.LowestTerms.{lowest-is_reduced}
use Rattle.linear_combinations.proofs.Totals.{term-among}
use Rattle.sym_model.proofs.WholeTerms.{labels_append, labels_scaled}
use Rattle.linear_combinations.proofs.Masses.{mass_append, mass_scaled, mass_at_scaled, labels_gained}
use Rattle.sparse_polys.specs.Combination.{terms_of}
use Rattle.sparse_polys.specs.MonomialProducts.{greatest_size}
use Rattle.sparse_polys.proofs.ListSteps.{over_pieces}
use Rattle.sparse_polys.proofs.Tables.{table_gained, term-tests}
use Rattle.linear_combinations.proofs.Cleared.{AreCleared-nothing, Gains-none, Gains-both}
use Rattle.sparse_polys.proofs.ClearedSums.{mass_over, table_over}
use Rattle.sparse_polys.proofs.Expansions.{divides_terms, least-denominators}
use Rattle.sparse_polys.proofs.Rows.{greatest_size-among}
use Rattle.sparse_polys.specs.Tables.{IsFractionTable}
use Rattle.linear_combinations.specs.Cleared.{IsDenominator, GainsMultiple, OverflowsMultiple}
use Rattle.linear_combinations.specs.Cleared.{numerators_over, GainsCleared}
use Rattle.strip_rules.specs.Adding.{IsProduct}
use Rattle.strip_rules.specs.Room.{AreWithin}
use native.Mathlib.Nat.{mul-le-mul_left, pow-zero, le-div_iff_mul-le}
use Rattle.linear_combinations.proofs.Weighed.{gains_mass}
use lib.IntN.{+ℤ_idr}

-- `done` are the terms of `list` visited so far: q·`sum` is the sum of the products of f and the terms of q·`done`, and the coefficients and labels
-- that were added are bounded
pub record AddsList (f : ℕ → Poly) (k q : ℕ) (list done sum : Terms (List ℕ)) : Type 0 where
  pub gained : WholeTerms
  pub gains : GainsCleared (pointwise nat_eq) is_label q [] gained sum
  pub value : (n : ℕ) (φ : List ℕ → ℤ) → over (λ ν. pair (schur ν n) φ) gained ≡ over (λ label. pair (times (f n) (schur label n)) φ) (numerators_over q done)
  pub once : (ν : List ℕ) → mass_at (pointwise nat_eq) ν gained ≤ mass (numerators_over q done)
  pub few : mass gained ≤ mass (numerators_over q done) * (greatest_size list + k) ^ k
  pub small : (cells lengths : ℕ) → AreWithin cells lengths list → HaveLabels (λ ν. (size ν ≤ cells + k) × (rows ν ≤ lengths + k)) gained

pub AddsList-none : (f : ℕ → Poly) (k q : ℕ) (list : Terms (List ℕ)) → AddsList f k q list [] []
AddsList-none f k q list = record {
  gained = [];
  gains = Gains-none q [] (AreCleared-nothing (pointwise nat_eq) q);
  value = λ n φ. refl;
  once = λ ν. omega arith;
  few = omega arith;
  small = λ cells lengths within t m. absurd m;
}

module _ {R : Type 0} (value : R → Fraction) (f : ℕ → Poly) (k q : ℕ) (done : List (List ℕ × R)) (list cur : Terms (List ℕ)) (label : List ℕ) (v : R)
    (h : AddsList f k q list (terms_of value done) cur) (terms : WholeTerms) (p : IsProduct f k label terms) where
  once_next : (ν : List ℕ) → mass_at (pointwise nat_eq) ν (h.gained ++ gained_times (numerator_over q (value v)) terms) ≤ mass (numerators_over q (terms_of value done)) + nat_abs (numerator_over q (value v))
  once_next ν =
      let z = numerator_over q (value v) in
      let a = mass_at_append (pointwise nat_eq) ν h.gained (gained_times z terms) in
      let b = mass_at_scaled (pointwise nat_eq) ν z terms in
      let o = mul-le-mul_left (nat_abs z) (p.once ν) in
      let w = h.once ν in
      omega arith

  mass_next : (rest : List (List ℕ × R)) → mass (numerators_over q (terms_of value (done ++ (label, v) ∷ rest)))
      ≡ mass (numerators_over q (terms_of value done)) + (nat_abs (numerator_over q (value v)) + mass (numerators_over q (terms_of value rest)))
  mass_next rest = ap mass (over_pieces value q done ((label, v) ∷ rest)) ∙ mass_append (numerators_over q (terms_of value done)) (numerators_over q (terms_of value ((label, v) ∷ rest)))

  pub AddsList-next : (new : Terms (List ℕ)) → Among (label, value v) list
      → IsDenominator q (value v) → GainsMultiple (pointwise nat_eq) is_label (value v) terms cur
      new
      → AddsList f k q list (terms_of value (done ++ (label, v) ∷ [])) new
  AddsList-next new among d a =
      let z = numerator_over q (value v) in
      record {
        gained = h.gained ++ gained_times z terms;
        gains = Gains-both q [] h.gained cur (gained_times z terms) new h.gains (a q d h.gains.cleared);
        value =
            λ n φ.
            let ψ : List ℕ → ℤ = λ l. pair (times (f n) (schur l n)) φ in
            over_append (λ ν. pair (schur ν n) φ) h.gained (gained_times z terms)
            ∙ ap₂ (λ x y. x +ℤ y) (h.value n φ) (scaled_over z (λ ν. pair (schur ν n) φ) terms ∙ ap (λ y. z *ℤ y) (p.value n φ) ∙ sym (+ℤ_idr (z *ℤ ψ label)))
            ∙ sym (ap (over ψ) (over_pieces value q done ((label, v) ∷ [])) ∙ over_append ψ (numerators_over q (terms_of value done)) ((label, z) ∷ []));
        once =
            λ ν.
            let w = once_next ν in
            let s = mass_next [] in
            omega arith;
        few =
            let most = (greatest_size list + k) ^ k in
            let b = h.few in
            let u = greatest_size-among list (label, value v) among in
            let e = pow-le-pow_left {n = size label + k} {m = greatest_size list + k} (omega arith) k in
            let w = p.few in
            let m = mul-le-mul_left (nat_abs z) (let x : mass terms ≤ most = omega arith in x) in
            let c = mass_scaled z terms in
            let l = mass_append h.gained (gained_times z terms) in
            let s = ap (λ n. n * most) (mass_next []) in
            let r : (mass (numerators_over q (terms_of value done)) + (nat_abs z + 0)) * most ≡ mass (numerators_over q (terms_of value done)) * most + nat_abs z * most = omega arith in
            omega arith;
        small =
            λ cells lengths within.
            labels_append (λ ν. (size ν ≤ cells + k) × (rows ν ≤ lengths + k)) h.gained (gained_times z terms) (h.small cells lengths within)
            (labels_scaled (λ ν. (size ν ≤ cells + k) × (rows ν ≤ lengths + k)) z terms
            (λ t m.
            let x = p.small t m in
            let y = within (label, value v) among in
            let b = x.0 in
            let c = x.1 in
            let r = y.0 in
            let s = y.1 in
            (omega arith, omega arith)));
      }

  pub refused_large : (rest : List (List ℕ × R)) → terms_of value (done ++ (label, v) ∷ rest) ≡ list → IsDenominator q (value v) → q < 2 ^ 127
      → OverflowsMultiple (pointwise nat_eq) (value v) terms cur → 2 ^ 127 ≤ absolute_sum q list
  refused_large rest whole d small e =
      let o =
      overflows_both (pointwise nat_eq) [] h.gained (numerators_over q cur) (gained_times (numerator_over q (value v)) terms) h.gains.gains (e q d small h.gains.cleared) in
      let l = o.1 in
      let w = once_next o.0 in
      let s = mass_next rest in
      let i = ap (λ l. mass (numerators_over q l)) whole ∙ mass_over q list in
      omega arith

-- ---- the sum of the products of f and all terms of a list

module _ {f : ℕ → Poly} {k q : ℕ} {list done sum : Terms (List ℕ)} (some : 0 < q) (a : AddsList f k q list done sum) where
  pub list_table : IsFractionTable sum
  list_table = table_gained q a.gained sum a.gains

  pub list_divides : (t : List ℕ × Fraction) → Among t sum → t.1.1 ∣ q
  list_divides = divides_terms q sum list_table (λ ν p. a.gains.cleared ν)

  table : IsWholeTable (numerators_over q sum)
  table = table_over q sum list_table some list_divides

  pub list_sums : (n : ℕ) (φ : List ℕ → ℤ) → pair (numerators_over q sum) (λ ν. pair (schur ν n) φ) ≡ pair (numerators_over q done) (λ label. pair (times (f n) (schur label n)) φ)
  list_sums n φ = search rules

  pub list_grows : absolute_sum q sum ≤ absolute_sum q done * (greatest_size list + k) ^ k
  list_grows =
      let g = gains_mass same_partition nat_list_eq_equiv [] a.gained (numerators_over q sum) table a.gains.gains in
      let m = mass_over q sum in
      let n = ap (λ x. x * (greatest_size list + k) ^ k) (mass_over q done) in
      let w = a.few in
      omega arith

  pub list_small : (cells lengths : ℕ) → AreWithin cells lengths list → AreWithin (cells + k) (lengths + k) sum
  list_small cells lengths within t m =
      labels_gained nat_list_eq_equiv same_partition [] a.gained (numerators_over q sum) table a.gains.gains (λ ν. (size ν ≤ cells + k) × (rows ν ≤ lengths + k))
      (λ u n. absurd n) (a.small cells lengths within) (t.0, numerator_over q t.1)
      (Among-map (λ (u : List ℕ × Fraction). (u.0, numerator_over q u.1)) t sum m)

pub within_values : {R : Type 0} (value : R → Fraction) (cells lengths : ℕ) (entries : List (List ℕ × R)) → AreWithin cells lengths entries → AreWithin cells lengths (terms_of value entries)
within_values {R} value cells lengths entries h t m =
    let u = Among_from_map (λ (p : List ℕ × R). (p.0, value p.1)) t entries m in
    subst (λ (x : List ℕ × Fraction). (size x.0 ≤ cells) × (rows x.0 ≤ lengths)) (sym u.2) (h u.0 u.1)

pub values_within : {R : Type 0} (value : R → Fraction) (cells lengths : ℕ) (entries : List (List ℕ × R)) → AreWithin cells lengths (terms_of value entries) → AreWithin cells lengths entries
values_within {R} value cells lengths entries h t m = h (t.0, value t.1) (Among-map (λ (p : List ℕ × R). (p.0, value p.1)) t entries m)

-- each entry of a table has a partition as its label and a scalar whose value is in lowest terms
pub entry_term : {R : Type 0} (value : R → Fraction) (entries : List (List ℕ × R)) → IsCombination (pointwise nat_eq) is_label value entries → (t : List ℕ × R) → Among t entries
    → IsPartition t.0 × InLowestTerms (value t.1)
entry_term value entries is t m =
    let p = and_parts _ _ (term-among is_label value entries is.proper t m) in
    ((is_label-tells t.0 p.1).partition, lowest-is_reduced (value t.1) p.0)

pub pair_here : {A : Type 0} (done rest left begun items all : List A) (p : A) → left ≡ p ∷ rest → done ++ left ≡ begun → begun ≡ items → items ≡ all → Among p all
pair_here done rest left begun items all p steps so_far given is =
    subst (Among p) (all_pairs done rest left begun items all p steps so_far given is) (next_among done p rest)

-- let D be the least common denominator of a list: if D ≥ 2^127, or the absolute values of D times the coefficients add up to at least 2^127, the
-- weight of the list is at least 2^127
pub list_large : (terms : Terms (List ℕ)) → IsFractionTable terms → (common_denominator terms < 2 ^ 127 → 2 ^ 127 ≤ absolute_sum (common_denominator terms) terms) → 2 ^ 127 ≤ list_weight terms
list_large terms is h = search (rules, least-denominators, mul-le-mul_left, cases_lt)

-- ---- the least common denominator of a list divides each common denominator

lcm-divides : (a b d : ℕ) → 0 < b → a ∣ d → b ∣ d → lcm a b ∣ d
lcm-divides a b d some h k =
    let g = gcd a b in
    let is = IsGcd-gcd a b in
    let positive = divisor_positive a b g some is in
    let left : a / g * g ≡ a = div-mul_cancel g is.0 in
    let right : b / g * g ≡ b = div-mul_cancel g is.1 in
    let rest : d / b * b ≡ d = div-mul_cancel b k in
    let spread : d ≡ (b / g * (d / b)) * g = product d (d / b) b (b / g) g rest right in
    let over : a / g * g ∣ (b / g * (d / b)) * g = subst (λ n. n ∣ (b / g * (d / b)) * g) (sym left) (subst (λ n. a ∣ n) spread h) in
    let other : a / g ∣ d / b = divides_other_factor (a / g) (b / g) (d / b) (coprime_without a b g positive is) (dvd_of_mul-dvd-mul_right {k = g} (a / g) {n = b / g * (d / b)} positive over) in
    subst (λ n. a / g * b ∣ n) rest (mul-dvd-mul_right (a / g) other b)
  where
    product : (d x b y g : ℕ) → x * b ≡ d → y * g ≡ b → d ≡ (y * x) * g
    product d x b y g e f = sym e ∙ ap (λ n. x * n) (sym f) ∙ (let s : x * (y * g) ≡ (y * x) * g = omega arith in s)

least_divides : (d : ℕ) (terms : Terms (List ℕ)) → ((t : List ℕ × Fraction) → Among t terms → (0 < t.1.1) × (t.1.1 ∣ d)) → (0 < common_denominator terms) × (common_denominator terms ∣ d)
least_divides d [] h = (omega arith, one-dvd d)
least_divides d (t ∷ terms) h =
    let r = least_divides d terms (λ u m. h u (inr m)) in
    let s = h t (inl refl) in
    (lcm-positive t.1.1 (common_denominator terms) s.0 r.0, lcm-divides t.1.1 (common_denominator terms) d r.0 s.1 r.1)

absolute_within : (c d : ℕ) (terms : Terms (List ℕ)) → c ≤ d → ((t : List ℕ × Fraction) → Among t terms → 0 < t.1.1) → absolute_sum c terms ≤ absolute_sum d terms
absolute_within c d [] h positive = omega arith
absolute_within c d (t ∷ terms) h positive =
    let r = absolute_within c d terms h (λ u m. positive u (inr m)) in
    let s = div-mul-le_self c t.1.1 in
    let q = (le-div_iff_mul-le {k = t.1.1} {x = c / t.1.1} {y = d} (positive t (inl refl))).1 (omega arith) in
    let m = mul-le-mul_left (nat_abs t.1.0) q in
    omega arith

positive_at : (terms : Terms (List ℕ)) → IsFractionTable terms → (t : List ℕ × Fraction) → Among t terms → 0 < t.1.1
positive_at terms is t m = (is_reduced-tells t.1 (term-tests terms is t m).0).denominator

power_positive : (n k : ℕ) → 1 ≤ (n + k) ^ k
power_positive n zero = let e = pow-zero (n + zero) in omega arith
power_positive n (suc k) = one-le-pow (suc k) (n + suc k) (omega arith)

pub weight_within : (list product : Terms (List ℕ)) (most k : ℕ) → IsFractionTable list → IsFractionTable product
    → ((t : List ℕ × Fraction) → Among t product → t.1.1 ∣ common_denominator list)
    → absolute_sum (common_denominator list) product ≤ absolute_sum (common_denominator list) list * (most + k) ^ k
    → list_weight product ≤ list_weight list * (most + k) ^ k
weight_within list product most k is also divides grows =
    let d = common_denominator list in
    let some = (least-denominators list is).positive in
    let l = least_divides d product (λ t m. (positive_at product also t m, divides t m)) in
    let small = le_of_dvd some l.1 in
    let a = absolute_within (common_denominator product) d product small (positive_at product also) in
    by (absolute_sum (common_denominator product) product) (common_denominator product) (absolute_sum d product) d (absolute_sum d list) ((most + k) ^ k) a small grows (power_positive most k)
  where
    scaled_one : (a b : ℕ) → 1 ≤ b → max 1 (a * b) ≤ max 1 a * b
    scaled_one a b h =
        let one : 1 ≤ max 1 a = omega arith in
        let x : a ≤ max 1 a = omega arith in
        let m = mul-le-mul_left b one in
        let n = mul-le-mul_left b x in
        omega arith

    by : (x c y d a b : ℕ) → x ≤ y → c ≤ d → y ≤ a * b → 1 ≤ b → max 1 x * c ≤ max 1 a * d * b
    by x c y d a b h k l one =
        let s = scaled_one a b one in
        let p : max 1 x ≤ max 1 a * b = omega arith in
        let m = mul-le-mul_left (max 1 x) k in
        let n = mul-le-mul_left d p in
        omega arith
