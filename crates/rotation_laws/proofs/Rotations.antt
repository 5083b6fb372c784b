-- The quantum product of a rotated partition and others is the rotated product. The *reduced product* of some partitions (`reduced_product`) is their
-- classical product in k variables with each label reduced by rim hooks of n cells.
--     rotated_columns     the reduced product with a further factor of r columns of k rows is the reduced product, rotated
--     rotated_first       the reduced product of a rotated partition and others, times a power of q, is the reduced product, rotated
use Rattle.std.proofs.Common.{◌≡◌, ℕ, ◌+◌, ◌-◌, ◌*◌, ◌%◌, ◌/◌, ◌<◌, ◌≤◌, ◌==◌, ◌&&◌, false, cond, List, [], ◌∷◌, ◌++◌, refl, sym, ◌∙◌, ap, ap₂, subst, inl, inr, arith, append-nil, append_assoc, ℤ, pos, ◌+ℤ◌, ◌*ℤ◌, Some, None, rules}
use Rattle.std.proofs.Math.IntN.{+ℤ_idr}
use Rattle.std.proofs.lemmas.Bool.{cases_lt}
use Rattle.std.proofs.lemmas.Bool.Decides.{nat_tests}
use Rattle.std.proofs.lemmas.List.{map-append}
use Rattle.std.proofs.Math.Nat.{mod-lt}
use Rattle.sym_model.specs.Sum.{Among}
use Rattle.sym_model.specs.Partition.{IsPartition, ArePartitions, rows}
use Rattle.sym_model.specs.RimHookReduction.{ReducesTo}
use Rattle.sym_model.specs.Reductions.{Reduction, reduced_terms}
use Rattle.sym_model.specs.Polynomial.{Poly, Same, same, join, times, pair}
use Rattle.sym_model.specs.Schur.{schur}
use Rattle.sym_model.specs.Alternant.{alternant, staircase}
use Rattle.sym_model.specs.WholeTerms.{WholeTerms, coefficient_by, same_power, HaveLabels}
use Rattle.sym_model.specs.Products.{schur_product, classical_product}
use Rattle.sym_model.specs.ReductionSteps.{with_power}
use Rattle.sym_model.proofs.Ring.{one-product, product-one, product_assoc}
use Rattle.sym_model.proofs.Sums.{total_append, total_map, total_ext, total_scale, Among-append_right, Among_from_append}
use Rattle.sym_model.proofs.Integers.{times_chosen}
use Rattle.sym_model.proofs.Polynomials.{pair_determined, Same_refl, Same_sym, Same_trans, same_of_equal, times_respects}
use Rattle.sym_model.proofs.PolynomialLaws.{times_assoc, times_comm, one-times, times-one}
use Rattle.beta_list_laws.specs.LowestList.{reduction_by_remainders}
use Rattle.beta_list_laws.specs.ReductionLists.{reductions_of}
use Rattle.beta_list_laws.proofs.Ends.{reduces_by_remainders, goes_partition, goes_rows}
use Rattle.beta_list_laws.proofs.ReducedSums.{reduced_value, reduced_share, reduced_sum}
use Rattle.alternant_laws.proofs.FailingColumns.{at_sum}
use Rattle.alternant_laws.proofs.GoodAlternants.{In-skew_schur}
use Rattle.alternant_laws.proofs.SchurProducts.{bialternant}
use Rattle.product_laws.specs.FactorSteps.{reduced_product, quantized, PowerTerms}
use Rattle.product_laws.proofs.Quantum.{quantum_step}
use Rattle.product_laws.proofs.RimHookSteps.{classical_labels}
use Rattle.product_laws.proofs.FusionSteps.{are_front}
use Rattle.product_laws.proofs.Straightened.{IsShape, on_strict}
use Rattle.product_laws.proofs.ManyFactors.{sums-product, classical_pairing, pair_shapes, at_shape-value}
use Rattle.rotation_laws.specs.Rotation.{IsInside, widened, rotated, wraps, all_turned, AreTurned}
use Rattle.rotation_laws.proofs.Rotated.{reduced_widened, reduced_itself, inside_rotated}
use Rattle.rotation_laws.proofs.FullColumns.{full, shape-widened, shape-none, schur-widened, schur-columns, full-times}

-- the two lists have the same coefficient at each label
abbrev pub Alike : PowerTerms → PowerTerms → Type 0
Alike xs ys = (label : ℕ × List ℕ) → coefficient_by same_power xs label ≡ coefficient_by same_power ys label

-- ---- lists of terms times a power of q

pub at_more : (d p : ℕ) (c : ℤ) (xs : PowerTerms) (label : List ℕ) → coefficient_by same_power (with_power d c xs) (d + p, label) ≡ c *ℤ coefficient_by same_power xs (p, label)
at_more d p c xs label =
    total_map (λ (t : (ℕ × List ℕ) × ℤ). cond (same_power t.0 (d + p, label)) t.1 (pos 0)) (λ (t : (ℕ × List ℕ) × ℤ). let term : (ℕ × List ℕ) × ℤ = ((d + t.0.0, t.0.1), c *ℤ t.1) in term) xs
    ∙ total_ext (λ (t : (ℕ × List ℕ) × ℤ). cond ((d + t.0.0 == d + p) && same t.0.1 label) (c *ℤ t.1) (pos 0)) (λ (t : (ℕ × List ℕ) × ℤ). c *ℤ cond ((t.0.0 == p) && same t.0.1 label) t.1 (pos 0))
    (λ t. ap (λ v. cond (v && same t.0.1 label) (c *ℤ t.1) (pos 0)) (moved t.0.0) ∙ times_chosen ((t.0.0 == p) && same t.0.1 label) c t.1) xs
    ∙ total_scale c (λ (t : (ℕ × List ℕ) × ℤ). cond ((t.0.0 == p) && same t.0.1 label) t.1 (pos 0)) xs
  where
    moved : (m : ℕ) → (d + m == d + p) ≡ (m == p)
    moved m = grind (arith, nat_tests)

at_less : (d p : ℕ) (c : ℤ) (xs : PowerTerms) (label : List ℕ) → p < d → coefficient_by same_power (with_power d c xs) (p, label) ≡ pos 0
at_less d p c [] label h = refl
at_less d p c (t ∷ xs) label h =
    let e : (d + t.0.0 == p) ≡ false = grind (arith, nat_tests) in
    ap₂ ◌+ℤ◌ (ap (λ v. cond (v && same t.0.1 label) (c *ℤ t.1) (pos 0)) e) (at_less d p c xs label h)

raised_alike : (d : ℕ) (c : ℤ) (xs ys : PowerTerms) → Alike xs ys → Alike (with_power d c xs) (with_power d c ys)
raised_alike d c xs ys e (p, label) = elim (cases_lt p d) [
  | inl h ↦ at_less d p c xs label h ∙ sym (at_less d p c ys label h)
  | inr h ↦
      let q : d + (p - d) ≡ p = omega arith in
      subst (λ m. coefficient_by same_power (with_power d c xs) (m, label) ≡ coefficient_by same_power (with_power d c ys) (m, label)) q
      (at_more d (p - d) c xs label ∙ ap (λ z. c *ℤ z) (e (p - d, label)) ∙ sym (at_more d (p - d) c ys label))
]

raised_then : (d p : ℕ) (a c : ℤ) (xs : PowerTerms) → with_power d a (with_power p c xs) ≡ with_power (d + p) (a *ℤ c) xs
raised_then d p a c [] = refl
raised_then d p a c (t ∷ xs) =
    let e : d + (p + t.0.0) ≡ d + p + t.0.0 = omega arith in
    ap₂ (λ (m : ℕ) (z : ℤ). let term : (ℕ × List ℕ) × ℤ = ((m, t.0.1), z) in term ∷ with_power d a (with_power p c xs)) e (sym (product_assoc a c t.1))
    ∙ ap (λ (l : PowerTerms). ((d + p + t.0.0, t.0.1), (a *ℤ c) *ℤ t.1) ∷ l) (raised_then d p a c xs)

raised_none : (xs : PowerTerms) → with_power 0 (pos 1) xs ≡ xs
raised_none [] = refl
raised_none (t ∷ xs) = search (rules, one-product, (raised_none xs))

quantized_raised : (k n : ℕ) (next : List ℕ) (d : ℕ) (xs : PowerTerms) → quantized k n next (with_power d (pos 1) xs) ≡ with_power d (pos 1) (quantized k n next xs)
quantized_raised k n next d [] = refl
quantized_raised k n next d (t ∷ xs) =
    ap₂ ◌++◌ (sym (raised_then d t.0.0 (pos 1) t.1 (reduced_product k n (t.0.1 ∷ next ∷ [])))) (quantized_raised k n next d xs)
    ∙ sym (map-append (λ (u : (ℕ × List ℕ) × ℤ). let term : (ℕ × List ℕ) × ℤ = ((d + u.0.0, u.0.1), pos 1 *ℤ u.1) in term) (with_power t.0.0 t.1 (reduced_product k n (t.0.1 ∷ next ∷ []))) (quantized k n next xs))

-- ---- the reduced product depends only on the product of the Schur polynomials

value_of : (k n : ℕ) (factors : List (List ℕ)) (label : ℕ × List ℕ) → ArePartitions factors
    → coefficient_by same_power (reduced_product k n factors) label ≡ pair (times (alternant (staircase k)) (schur_product factors k)) (on_strict (reduced_share k n label))
value_of k n factors label p =
    reduced_sum k n (classical_product k factors) label
    ∙ pair_shapes k factors (reduced_share k n label) (at_sum k (on_strict (reduced_share k n label))) (λ x s. sym (at_shape-value k (reduced_share k n label) x s))
    ∙ classical_pairing k factors (on_strict (reduced_share k n label)) p

alike_products : (k n : ℕ) (factors others : List (List ℕ)) → ArePartitions factors → ArePartitions others → Same (schur_product factors k) (schur_product others k)
    → Alike (reduced_product k n factors) (reduced_product k n others)
alike_products k n factors others p q s label =
    value_of k n factors label p
    ∙ pair_determined (times (alternant (staircase k)) (schur_product factors k)) (times (alternant (staircase k)) (schur_product others k)) (on_strict (reduced_share k n label))
    (times_respects (alternant (staircase k)) (alternant (staircase k)) _ _ (Same_refl (alternant (staircase k))) s)
    ∙ sym (value_of k n others label q)

alone : (parts : List ℕ) → IsPartition parts → ArePartitions (parts ∷ [])
alone parts p x (inl e) = subst IsPartition (sym e) p
alone parts p x (inr m) = absurd m

single_term : (k n power : ℕ) (parts image : List ℕ) → IsShape k parts → reduction_by_remainders k n parts ≡ Some (image, pos 1, power)
    → Alike (reduced_product k n (parts ∷ [])) (((power, image), pos 1) ∷ [])
single_term k n power parts image p e label =
    value_of k n (parts ∷ []) label (alone parts p.partition)
    ∙ pair_determined (times (alternant (staircase k)) (schur parts k)) (alternant (join parts (staircase k))) (on_strict (reduced_share k n label)) (bialternant k parts p.partition p.few)
    ∙ at_shape-value k (reduced_share k n label) parts p
    ∙ ap (reduced_value label) e
    ∙ sym (+ℤ_idr (cond (same_power (power, image) label) (pos 1) (pos 0)))

-- ---- products of Schur polynomials in another order

product-front : (k : ℕ) (parts : List ℕ) (factors : List (List ℕ)) → Same (schur_product (parts ∷ factors) k) (times (schur parts k) (schur_product factors k))
product-front k parts [] = Same_sym _ _ (times-one k (schur parts k) (In-skew_schur k parts []))
product-front k parts (next ∷ factors) = Same_refl (times (schur parts k) (schur_product (next ∷ factors) k))

product-join : (k : ℕ) (factors others : List (List ℕ)) → ArePartitions others → Same (schur_product (factors ++ others) k) (times (schur_product factors k) (schur_product others k))
product-join k [] others p = Same_sym _ _ (one-times k (schur_product others k) (sums-product k others p).within)
product-join k (parts ∷ factors) others p =
    Same_trans _ _ _ (product-front k parts (factors ++ others))
    (Same_trans _ _ _ (times_respects (schur parts k) (schur parts k) _ _ (Same_refl (schur parts k)) (product-join k factors others p))
    (Same_trans _ _ _ (Same_sym _ _ (times_assoc (schur parts k) (schur_product factors k) (schur_product others k)))
    (times_respects _ _ (schur_product others k) (schur_product others k) (Same_sym _ _ (product-front k parts factors)) (Same_refl (schur_product others k)))))

first_second : (a b c : Poly) → Same (times a (times b c)) (times b (times a c))
first_second a b c =
    Same_trans _ _ _ (Same_sym _ _ (times_assoc a b c))
    (Same_trans _ _ _ (times_respects (times a b) (times b a) c c (times_comm a b) (Same_refl c)) (times_assoc b a c))

-- a·(b·((u·v)·w)) and b·(v·((a·u)·w)) are the same
moved_powers : (a b u v w : Poly) → Same (times a (times b (times (times u v) w))) (times b (times v (times (times a u) w)))
moved_powers a b u v w =
    Same_trans _ _ _ (first_second a b (times (times u v) w))
    (times_respects b b _ _ (Same_refl b)
    (Same_trans _ _ _ (times_respects a a _ _ (Same_refl a) (Same_trans _ _ _ (times_assoc u v w) (first_second u v w)))
    (Same_trans _ _ _ (first_second a v (times u w)) (times_respects v v _ _ (Same_refl v) (Same_sym _ _ (times_assoc a u w))))))

-- ---- products that begin with other partitions

fronts : (k n d : ℕ) (first second rest : List (List ℕ)) → 1 ≤ n → ArePartitions (first ++ rest) → ArePartitions (second ++ rest)
    → Alike (with_power d (pos 1) (reduced_product k n second)) (reduced_product k n first)
    → Alike (with_power d (pos 1) (reduced_product k n (second ++ rest))) (reduced_product k n (first ++ rest))
fronts k n d first second [] h p q e label =
    ap (λ (l : List (List ℕ)). coefficient_by same_power (with_power d (pos 1) (reduced_product k n l)) label) (append-nil second)
    ∙ e label
    ∙ ap (λ (l : List (List ℕ)). coefficient_by same_power (reduced_product k n l) label) (sym (append-nil first))
fronts k n d first second (next ∷ rest) h p q e label =
    let one_more : (first ++ (next ∷ [])) ++ rest ≡ first ++ (next ∷ rest) = append_assoc first (next ∷ []) rest in
    let other_more : (second ++ (next ∷ [])) ++ rest ≡ second ++ (next ∷ rest) = append_assoc second (next ∷ []) rest in
    let is : IsPartition next = p next (Among-append_right next first (next ∷ rest) (inl refl)) in
    ap (λ (l : List (List ℕ)). coefficient_by same_power (with_power d (pos 1) (reduced_product k n l)) label) (sym other_more)
    ∙ fronts k n d (first ++ (next ∷ [])) (second ++ (next ∷ [])) rest h (subst ArePartitions (sym one_more) p) (subst ArePartitions (sym other_more) q)
    (λ l.
    raised_alike d (pos 1) (reduced_product k n (second ++ (next ∷ []))) (quantized k n next (reduced_product k n second))
    (λ m. sym (quantum_step k n second next (reduced_product k n second) h (are_front second (next ∷ rest) q) is (λ z. refl) m)) l
    ∙ ap (λ (xs : PowerTerms). coefficient_by same_power xs l) (sym (quantized_raised k n next d (reduced_product k n second)))
    ∙ quantum_step k n first next (with_power d (pos 1) (reduced_product k n second)) h (are_front first (next ∷ rest) p) is e l) label
    ∙ ap (λ (l : List (List ℕ)). coefficient_by same_power (reduced_product k n l) label) one_more

inside_shape : (k n : ℕ) (parts : List ℕ) → IsInside k n parts → IsShape k parts
inside_shape k n parts p = record { partition = p.partition; few = p.few }

in_front : (parts : List ℕ) (factors : List (List ℕ)) → IsPartition parts → ArePartitions factors → ArePartitions (parts ∷ factors)
in_front parts factors p q x (inl e) = subst IsPartition (sym e) p
in_front parts factors p q x (inr m) = q x m

-- the power of q of the rotation by r
abbrev power_of_turn : ℕ → ℕ → ℕ → List ℕ → ℕ
power_of_turn k n r parts = wraps k n (r % n) parts + r / n * k

turned_inside : (k n r : ℕ) (parts : List ℕ) → 1 ≤ n → IsInside k n parts → IsInside k n (rotated k n (r % n) parts)
turned_inside k n r parts h p = inside_rotated k n (r % n) parts (let l = mod-lt r h in omega arith) p

-- a partition `wide` that reduces to `image`, with the sign 1 and the power w
pub with_image : (k n w : ℕ) (wide image : List ℕ) (rest : List (List ℕ)) → 1 ≤ n → IsShape k wide → IsInside k n image → reduction_by_remainders k n wide ≡ Some (image, pos 1, w)
    → ArePartitions rest
    → Alike (with_power w (pos 1) (reduced_product k n (image ∷ rest))) (reduced_product k n (wide ∷ rest))
with_image k n w wide image rest h shape inside e q =
    fronts k n w (wide ∷ []) (image ∷ []) rest h (in_front wide rest shape.partition q) (in_front image rest inside.partition q)
    (λ label.
    raised_alike w (pos 1) (reduced_product k n (image ∷ [])) (((0, image), pos 1) ∷ []) (single_term k n 0 image image (inside_shape k n image inside) (reduced_itself k n image h inside)) label
    ∙ ap (λ (m : ℕ). coefficient_by same_power (((m, image), pos 1) ∷ []) label) (let z : w + 0 ≡ w = omega arith in z)
    ∙ sym (single_term k n w wide image shape e label))

first_turned : (k n r : ℕ) (parts : List ℕ) (rest : List (List ℕ)) → 1 ≤ n → IsInside k n parts → ArePartitions rest
    → Alike (with_power (power_of_turn k n r parts) (pos 1) (reduced_product k n (rotated k n (r % n) parts ∷ rest))) (reduced_product k n (widened k r parts ∷ rest))
first_turned k n r parts rest h p q =
    with_image k n (power_of_turn k n r parts) (widened k r parts) (rotated k n (r % n) parts) rest h (shape-widened k r parts (inside_shape k n parts p)) (turned_inside k n r parts h p)
    (reduced_widened k n r parts h p) q

-- ---- products with a further factor of r columns of k rows

pub columns_turned : (k n r : ℕ) (terms : PowerTerms) → 1 ≤ n → HaveLabels (λ label. IsInside k n label.1) terms
    → Alike (quantized k n (widened k r []) terms) (all_turned k n r terms)
columns_turned k n r [] h p label = refl
columns_turned k n r (t ∷ terms) h p label =
    total_append (λ (u : (ℕ × List ℕ) × ℤ). cond (same_power u.0 label) u.1 (pos 0)) (with_power t.0.0 t.1 (reduced_product k n (t.0.1 ∷ widened k r [] ∷ []))) (quantized k n (widened k r []) terms)
    ∙ ap₂ ◌+ℤ◌
    (raised_alike t.0.0 t.1 (reduced_product k n (t.0.1 ∷ widened k r [] ∷ [])) (((w, image), pos 1) ∷ []) both label
    ∙ +ℤ_idr (cond (same_power (t.0.0 + w, image) label) (t.1 *ℤ pos 1) (pos 0))
    ∙ ap (λ z. cond (same_power (t.0.0 + w, image) label) z (pos 0)) (product-one t.1))
    (columns_turned k n r terms h (λ u m. p u (inr m)) label)
  where
    w : ℕ
    w = power_of_turn k n r t.0.1

    image : List ℕ
    image = rotated k n (r % n) t.0.1

    inside : IsInside k n t.0.1
    inside = p t (inl refl)

    shape : IsShape k t.0.1
    shape = inside_shape k n t.0.1 inside

    wide : IsShape k (widened k r t.0.1)
    wide = shape-widened k r t.0.1 shape

    both : Alike (reduced_product k n (t.0.1 ∷ widened k r [] ∷ [])) (((w, image), pos 1) ∷ [])
    both l =
        alike_products k n (t.0.1 ∷ widened k r [] ∷ []) (widened k r t.0.1 ∷ [])
        (in_front t.0.1 (widened k r [] ∷ []) inside.partition (alone (widened k r []) (shape-widened k r [] (shape-none k)).partition)) (alone (widened k r t.0.1) wide.partition)
        (Same_trans _ _ _ (times_respects (schur t.0.1 k) (schur t.0.1 k) (schur (widened k r []) k) (full k r) (Same_refl (schur t.0.1 k)) (schur-columns k r)) (Same_sym _ _ (schur-widened k r t.0.1 shape))) l
        ∙ single_term k n w (widened k r t.0.1) image wide (reduced_widened k n r t.0.1 h inside) l

-- ---- several rotated factors

pub turned_bases : (k n : ℕ) (factors bases : List (List ℕ)) (r d : ℕ) → AreTurned k n factors bases r d → ArePartitions bases
turned_bases k n [] [] r d t x m = absurd m
turned_bases k n [] (base ∷ bases) r d t x m = absurd t
turned_bases k n (factor ∷ factors) [] r d t x m = absurd m
turned_bases k n (factor ∷ factors) (base ∷ bases) r d (s, left, power, inside, is, rs, ds, later) x m =
    in_front base bases inside.partition (turned_bases k n factors bases left power later) x m

pub turned_factors : (k n : ℕ) (factors bases : List (List ℕ)) (r d : ℕ) → 1 ≤ n → AreTurned k n factors bases r d → ArePartitions factors
turned_factors k n [] [] r d h t x m = absurd m
turned_factors k n [] (base ∷ bases) r d h t x m = absurd t
turned_factors k n (factor ∷ factors) [] r d h t x m = absurd t
turned_factors k n (factor ∷ factors) (base ∷ bases) r d h (s, left, power, inside, is, rs, ds, later) x m =
    in_front factor factors (subst IsPartition (sym is) (turned_inside k n s base h inside).partition) (turned_factors k n factors bases left power h later) x m

both_lists : (factors others : List (List ℕ)) → ArePartitions factors → ArePartitions others → ArePartitions (factors ++ others)
both_lists factors others p q x m = elim (Among_from_append x factors others m) [ inl a ↦ p x a | inr b ↦ q x b ]

partition-columns : (k r : ℕ) → IsPartition (widened k r [])
partition-columns k r = (shape-widened k r [] (shape-none k)).partition

columns_moved : (k s left : ℕ) (base : List ℕ) (bases rest : List (List ℕ)) → IsShape k base → ArePartitions rest
    → Same (schur_product ((base ∷ bases) ++ (widened k (s + left) [] ∷ rest)) k) (schur_product (bases ++ (widened k left [] ∷ (widened k s base ∷ rest))) k)
columns_moved k s left base bases rest sh p =
    Same_trans (schur_product (base ∷ (bases ++ (c ∷ rest))) k) (times a (times b (times (times u v) w))) (schur_product (bases ++ (widened k left [] ∷ (wide ∷ rest))) k) first
    (Same_trans (times a (times b (times (times u v) w))) (times b (times v (times (times a u) w))) (schur_product (bases ++ (widened k left [] ∷ (wide ∷ rest))) k) (moved_powers a b u v w) last)
  where
    a : Poly
    a = schur base k

    b : Poly
    b = schur_product bases k

    u : Poly
    u = full k s

    v : Poly
    v = full k left

    w : Poly
    w = schur_product rest k

    c : List ℕ
    c = widened k (s + left) []

    wide : List ℕ
    wide = widened k s base

    one_column : Same (schur_product (widened k (s + left) [] ∷ rest) k) (times (times (full k s) (full k left)) (schur_product rest k))
    one_column =
        Same_trans (schur_product (c ∷ rest) k) (times (schur c k) w) (times (times u v) w) (product-front k c rest)
        (times_respects (schur c k) (times u v) w w
        (Same_trans (schur c k) (full k (s + left)) (times u v) (schur-columns k (s + left)) (same_of_equal (full k (s + left)) (times u v) (sym (full-times k s left)))) (Same_refl w))

    first : Same (schur_product (base ∷ (bases ++ (widened k (s + left) [] ∷ rest))) k) (times (schur base k) (times (schur_product bases k) (times (times (full k s) (full k left)) (schur_product rest k))))
    first =
        Same_trans (schur_product (base ∷ (bases ++ (c ∷ rest))) k) (times a (schur_product (bases ++ (c ∷ rest)) k)) (times a (times b (times (times u v) w))) (product-front k base (bases ++ (c ∷ rest)))
        (times_respects a a (schur_product (bases ++ (c ∷ rest)) k) (times b (times (times u v) w)) (Same_refl a)
        (Same_trans (schur_product (bases ++ (c ∷ rest)) k) (times b (schur_product (c ∷ rest) k)) (times b (times (times u v) w))
        (product-join k bases (c ∷ rest) (in_front c rest (partition-columns k (s + left)) p))
        (times_respects b b (schur_product (c ∷ rest) k) (times (times u v) w) (Same_refl b) one_column)))

    both : Same (times (times (schur base k) (full k s)) (schur_product rest k)) (schur_product (widened k s base ∷ rest) k)
    both =
        Same_trans (times (times a u) w) (times (schur wide k) w) (schur_product (wide ∷ rest) k)
        (times_respects (times a u) (schur wide k) w w (Same_sym (schur wide k) (times a u) (schur-widened k s base sh)) (Same_refl w))
        (Same_sym (schur_product (wide ∷ rest) k) (times (schur wide k) w) (product-front k wide rest))

    others : ArePartitions (widened k left [] ∷ (widened k s base ∷ rest))
    others = in_front (widened k left []) (wide ∷ rest) (partition-columns k left) (in_front wide rest (shape-widened k s base sh).partition p)

    last : Same (times (schur_product bases k) (times (full k left) (times (times (schur base k) (full k s)) (schur_product rest k)))) (schur_product (bases ++ (widened k left [] ∷ (widened k s base ∷ rest))) k)
    last =
        Same_trans (times b (times v (times (times a u) w))) (times b (schur_product (widened k left [] ∷ (wide ∷ rest)) k)) (schur_product (bases ++ (widened k left [] ∷ (wide ∷ rest))) k)
        (times_respects b b (times v (times (times a u) w)) (schur_product (widened k left [] ∷ (wide ∷ rest)) k) (Same_refl b)
        (times_respects v (schur (widened k left []) k) (times (times a u) w) (schur_product (wide ∷ rest) k) (Same_sym (schur (widened k left []) k) v (schur-columns k left)) both))
        (Same_sym (schur_product (bases ++ (widened k left [] ∷ (wide ∷ rest))) k) (times b (schur_product (widened k left [] ∷ (wide ∷ rest)) k)) (product-join k bases (widened k left [] ∷ (wide ∷ rest)) others))

pub turned_product : (k n : ℕ) (factors bases rest : List (List ℕ)) (r d : ℕ) → 1 ≤ n → AreTurned k n factors bases r d → ArePartitions rest
    → Alike (with_power d (pos 1) (reduced_product k n (factors ++ rest))) (reduced_product k n (bases ++ (widened k r [] ∷ rest)))
turned_product k n [] (base ∷ bases) rest r d h t p label = absurd t
turned_product k n (factor ∷ factors) [] rest r d h t p label = absurd t
turned_product k n [] [] rest r d h t p label =
    ap (λ m. coefficient_by same_power (with_power m (pos 1) (reduced_product k n rest)) label) t.1
    ∙ ap (λ (xs : PowerTerms). coefficient_by same_power xs label) (raised_none (reduced_product k n rest))
    ∙ alike_products k n rest (widened k 0 [] ∷ rest) p (in_front (widened k 0 []) rest (partition-columns k 0) p)
    (Same_sym (schur_product (widened k 0 [] ∷ rest) k) (schur_product rest k)
    (Same_trans (schur_product (widened k 0 [] ∷ rest) k) (times (schur (widened k 0 []) k) (schur_product rest k)) (schur_product rest k) (product-front k (widened k 0 []) rest)
    (Same_trans (times (schur (widened k 0 []) k) (schur_product rest k)) (times (full k 0) (schur_product rest k)) (schur_product rest k)
    (times_respects (schur (widened k 0 []) k) (full k 0) (schur_product rest k) (schur_product rest k) (schur-columns k 0) (Same_refl (schur_product rest k)))
    (one-times k (schur_product rest k) (sums-product k rest p).within)))) label
    ∙ ap (λ m. coefficient_by same_power (reduced_product k n (widened k m [] ∷ rest)) label) (sym t.0)
turned_product k n (factor ∷ factors) (base ∷ bases) rest r d h (s, left, power, inside, is, rs, ds, later) p label =
    ap₂ (λ (m : ℕ) (f : List ℕ). coefficient_by same_power (with_power m (pos 1) (reduced_product k n (f ∷ (factors ++ rest)))) label) ds is
    ∙ ap (λ (xs : PowerTerms). coefficient_by same_power xs label) (sym (raised_then power w (pos 1) (pos 1) (reduced_product k n (image ∷ (factors ++ rest)))))
    ∙ raised_alike power (pos 1) (with_power w (pos 1) (reduced_product k n (image ∷ (factors ++ rest)))) (reduced_product k n (factors ++ (wide ∷ rest)))
    (λ l. first_turned k n s base (factors ++ rest) h inside (both_lists factors rest own p) l
    ∙ alike_products k n (wide ∷ (factors ++ rest)) (factors ++ (wide ∷ rest)) (in_front wide (factors ++ rest) shape.partition (both_lists factors rest own p)) (both_lists factors (wide ∷ rest) own others) second l) label
    ∙ turned_product k n factors bases (wide ∷ rest) left power h later others label
    ∙ alike_products k n (bases ++ (widened k left [] ∷ (wide ∷ rest))) ((base ∷ bases) ++ (widened k (s + left) [] ∷ rest))
    (both_lists bases (widened k left [] ∷ (wide ∷ rest)) lower (in_front (widened k left []) (wide ∷ rest) (partition-columns k left) others))
    (in_front base (bases ++ (widened k (s + left) [] ∷ rest)) inside.partition (both_lists bases (widened k (s + left) [] ∷ rest) lower (in_front (widened k (s + left) []) rest (partition-columns k (s + left)) p)))
    (Same_sym (schur_product ((base ∷ bases) ++ (widened k (s + left) [] ∷ rest)) k) (schur_product (bases ++ (widened k left [] ∷ (wide ∷ rest))) k) third) label
    ∙ ap (λ m. coefficient_by same_power (reduced_product k n ((base ∷ bases) ++ (widened k m [] ∷ rest))) label) (sym rs)
  where
    w : ℕ
    w = power_of_turn k n s base

    image : List ℕ
    image = rotated k n (s % n) base

    wide : List ℕ
    wide = widened k s base

    shape : IsShape k (widened k s base)
    shape = shape-widened k s base (inside_shape k n base inside)

    own : ArePartitions factors
    own = turned_factors k n factors bases left power h later

    lower : ArePartitions bases
    lower = turned_bases k n factors bases left power later

    others : ArePartitions (widened k s base ∷ rest)
    others = in_front (widened k s base) rest shape.partition p

    second : Same (schur_product (widened k s base ∷ (factors ++ rest)) k) (schur_product (factors ++ (widened k s base ∷ rest)) k)
    second =
        Same_trans _ _ _ (product-front k wide (factors ++ rest))
        (Same_trans _ _ _ (times_respects (schur wide k) (schur wide k) _ _ (Same_refl (schur wide k)) (product-join k factors rest p))
        (Same_trans _ _ _ (first_second (schur wide k) (schur_product factors k) (schur_product rest k))
        (Same_trans _ _ _ (times_respects (schur_product factors k) (schur_product factors k) _ _ (Same_refl (schur_product factors k)) (Same_sym _ _ (product-front k wide rest)))
        (Same_sym _ _ (product-join k factors (wide ∷ rest) others)))))

    third : Same (schur_product ((base ∷ bases) ++ (widened k (s + left) [] ∷ rest)) k) (schur_product (bases ++ (widened k left [] ∷ (widened k s base ∷ rest))) k)
    third = columns_moved k s left base bases rest (inside_shape k n base inside) p

-- a list of terms with labels inside k rows and n - k columns that has the coefficients of the reduced product of the bases: with its labels rotated,
-- it is the reduced product of the factors times a power of q
pub turned_answer : (k n : ℕ) (factors bases : List (List ℕ)) (r d : ℕ) (terms : PowerTerms) → 1 ≤ n → AreTurned k n factors bases r d
    → HaveLabels (λ label. IsInside k n label.1) terms → Alike terms (reduced_product k n bases)
    → Alike (with_power d (pos 1) (reduced_product k n factors)) (all_turned k n r terms)
turned_answer k n factors bases r d terms h t inside e label =
    ap (λ (l : List (List ℕ)). coefficient_by same_power (with_power d (pos 1) (reduced_product k n l)) label) (sym (append-nil factors))
    ∙ turned_product k n factors bases [] r d h t (λ x m. absurd m) label
    ∙ sym (quantum_step k n bases (widened k r []) terms h (turned_bases k n factors bases r d t) (partition-columns k r) e label)
    ∙ columns_turned k n r terms h inside label

-- ---- the labels of a reduced product lie inside k rows and n - k columns

reduced_inside : (k n : ℕ) (shape : List ℕ) (r : Reduction) → IsPartition shape → ReducesTo k n shape r → (t : (ℕ × List ℕ) × ℤ) → Among t (reduced_terms ((shape, pos 1) ∷ []) (r ∷ [])) → IsInside k n t.0.1
reduced_inside k n shape None p g t m = absurd m
reduced_inside k n shape (Some a) p g t (inr m) = absurd m
reduced_inside k n shape (Some a) p g t (inl e) =
    subst (λ (l : ℕ × List ℕ). IsInside k n l.1) (sym (ap (λ (u : (ℕ × List ℕ) × ℤ). u.0) e))
    (record { partition = goes_partition k n shape a.0 a.1 a.2 p g.0; few = goes_rows k n shape a.0 a.1 a.2 g.0; narrow = g.1 })

terms_inside : (k n : ℕ) (terms : WholeTerms) → 1 ≤ n → HaveLabels (λ shape. IsPartition shape × (rows shape ≤ k)) terms
    → HaveLabels (λ (label : ℕ × List ℕ). IsInside k n label.1) (reduced_terms terms (reductions_of k n terms))
terms_inside k n [] h p = λ t m. absurd m
terms_inside k n (u ∷ terms) h p =
    by (reduction_by_remainders k n u.0) (reduced_inside k n u.0 (reduction_by_remainders k n u.0) (p u (inl refl)).0 (reduces_by_remainders k n u.0 h (p u (inl refl)).0 (p u (inl refl)).1))
    (terms_inside k n terms h (λ v m. p v (inr m)))
  where
    by : (r : Reduction) → ((t : (ℕ × List ℕ) × ℤ) → Among t (reduced_terms ((u.0, pos 1) ∷ []) (r ∷ [])) → IsInside k n t.0.1)
        → HaveLabels (λ (label : ℕ × List ℕ). IsInside k n label.1) (reduced_terms terms (reductions_of k n terms))
        → HaveLabels (λ (label : ℕ × List ℕ). IsInside k n label.1) (reduced_terms (u ∷ terms) (r ∷ reductions_of k n terms))
    by None first later t m = later t m
    by (Some a) first later t (inr m) = later t m
    by (Some a) first later t (inl e) =
        subst (λ (l : ℕ × List ℕ). IsInside k n l.1) (sym (ap (λ (v : (ℕ × List ℕ) × ℤ). v.0) e)) (first ((a.2, a.0), pos 1 *ℤ a.1) (inl refl))

pub product_inside : (k n : ℕ) (factors : List (List ℕ)) → 1 ≤ n → HaveLabels (λ (label : ℕ × List ℕ). IsInside k n label.1) (reduced_product k n factors)
product_inside k n factors h = terms_inside k n (classical_product k factors) h (classical_labels k factors)

-- the clauses of the law `quantum_rotation_law`
pub rotated_several : (k n : ℕ) (factors bases : List (List ℕ)) (r d : ℕ) → 1 ≤ n → AreTurned k n factors bases r d
    → Alike (with_power d (pos 1) (reduced_product k n factors)) (all_turned k n r (reduced_product k n bases))
rotated_several k n factors bases r d h t = turned_answer k n factors bases r d (reduced_product k n bases) h t (product_inside k n bases h) (λ l. refl)

pub rotated_first : (k n r : ℕ) (parts : List ℕ) (others : List (List ℕ)) → 1 ≤ n → IsInside k n parts → ArePartitions others
    → Alike (with_power (wraps k n (r % n) parts + r / n * k) (pos 1) (reduced_product k n (rotated k n (r % n) parts ∷ others))) (all_turned k n r (reduced_product k n (parts ∷ others)))
rotated_first k n r parts others h p q label =
    first_turned k n r parts others h p q label
    ∙ alike_products k n (widened k r parts ∷ others) ((parts ∷ others) ++ (widened k r [] ∷ [])) (in_front (widened k r parts) others shape.partition q)
    (both_lists (parts ∷ others) (widened k r [] ∷ []) own (alone (widened k r []) (partition-columns k r))) last label
    ∙ sym (quantum_step k n (parts ∷ others) (widened k r []) (reduced_product k n (parts ∷ others)) h own (partition-columns k r) (λ l. refl) label)
    ∙ columns_turned k n r (reduced_product k n (parts ∷ others)) h (product_inside k n (parts ∷ others) h) label
  where
    shape : IsShape k (widened k r parts)
    shape = shape-widened k r parts (inside_shape k n parts p)

    own : ArePartitions (parts ∷ others)
    own = in_front parts others p.partition q

    last : Same (schur_product (widened k r parts ∷ others) k) (schur_product ((parts ∷ others) ++ (widened k r [] ∷ [])) k)
    last =
        Same_trans _ _ _ (product-front k (widened k r parts) others)
        (Same_trans _ _ _ (times_respects _ _ (schur_product others k) (schur_product others k) (Same_trans _ _ _ (schur-widened k r parts (inside_shape k n parts p)) (times_comm (schur parts k) (full k r))) (Same_refl (schur_product others k)))
        (Same_trans _ _ _ (times_assoc (full k r) (schur parts k) (schur_product others k))
        (Same_trans _ _ _ (times_comm (full k r) (times (schur parts k) (schur_product others k)))
        (Same_trans _ _ _ (times_respects (times (schur parts k) (schur_product others k)) (schur_product (parts ∷ others) k) (full k r) (schur (widened k r []) k) (Same_sym (schur_product (parts ∷ others) k) (times (schur parts k) (schur_product others k)) (product-front k parts others)) (Same_sym (schur (widened k r []) k) (full k r) (schur-columns k r)))
        (Same_sym _ _ (product-join k (parts ∷ others) (widened k r [] ∷ []) (alone (widened k r []) (partition-columns k r))))))))
