-- For each command, two canonical lists that are its answer (`Meets`) are the same list.
use Rattle.std.proofs.Common.{◌≡◌, ℕ, ◌+◌, ◌<◌, ◌≤◌, Bool, true, false, List, [], ◌∷◌, length, refl, sym, ap₂, ◌∙◌}
use Rattle.std.proofs.Common.{inl, arith, ℤ, Some, None, Option, eqb, leb, ltb, ◌&&◌}
use Rattle.std.proofs.lemmas.Bool.{and_parts, leb-true, ltb-true, eqb-true, eq-eqb}
use Rattle.sym_model.specs.Sum.{Among}
use Rattle.sym_model.specs.Polynomial.{Poly, same, times}
use Rattle.sym_model.specs.Partition.{without_last_zeros}
use Rattle.sym_model.specs.Permutation.{kept}
use Rattle.sym_model.specs.Expansion.{Basis, monomials, elementaries, completes, power_sums, schurs, Fraction, Terms}
use Rattle.sym_model.specs.Expansion.{Represents, IsExpansionOf, pair_polynomial}
use Rattle.sym_model.specs.WholeTerms.{same_pair, same_power, coefficient_by, numerators}
use Rattle.sym_model.specs.Canonical.{IsCanonicalBy}
use Rattle.sym_model.specs.LabelLimits.{is_label, is_monomial_label, is_permutation_label}
use Rattle.sym_model.specs.Kind.{Kind, Label, label_rules, number, expansion, product, pairs, powers, permutations}
use Rattle.sym_model.specs.Kind.{polynomial, shifts}
use Rattle.sym_model.specs.Answer.{number_in}
use Rattle.sym_model.specs.Products.{ExpandsInSchurs, IsCoproductOf, IsSchubertPolynomialOf, IsSchubertProductOf}
use Rattle.sym_model.specs.Products.{IsDoubleProductOf, classical_product}
use Rattle.sym_model.specs.Reductions.{IsRimHookReduction, IsAlcoveReductionOf}
use Rattle.sym_model.specs.DividedDifference.{x_to_in}
use Rattle.sym_model.specs.Bases.{monomial, elementary, complete, power_sum}
use Rattle.sym_model.specs.Schur.{schur}
use Rattle.sym_model.specs.Schubert.{schubert_in}
use Rattle.sym_model.proofs.Orders.{is_label-tells}
use Rattle.sym_model.proofs.Exponents.{same_true, same_refl}
use Rattle.printing_laws.proofs.LabelOrders.{label_order-total, label_order-ties}
use Rattle.product_laws.proofs.OneReduction.{one_rim_hook_sum, one_alcove_sum}
use Rattle.schubert_laws.proofs.PermutationLabels.{label_one_line}
use Rattle.independence_laws.proofs.Entries.{Decides, IsGood}
use Rattle.independence_laws.proofs.GoodLists.{canonical-good, canonical-whole}
use Rattle.family_list_laws.proofs.IndependentPowerSums.{power_sums-independent}
use Rattle.family_list_laws.proofs.IndependentFamilies.{elementaries-independent, completes-independent}
use Rattle.schubert_laws.proofs.IndependentSchuberts.{schuberts-independent}
use Rattle.sym_model.specs.DoubleSchubert.{double_schubert_in, shifted_in}
use Rattle.double_schubert_laws.proofs.IndependentDoubles.{doubles-independent}
use Rattle.independence_laws.proofs.WholeLists.{same_sums}
use Rattle.independence_laws.specs.Independence.{AreIndependent, HasRows, HasPlaces}
use Rattle.independence_laws.proofs.DualFunctions.{independent-fewer}
use Rattle.independence_laws.proofs.OneList.{one_list}
use Rattle.independence_laws.proofs.Entries.{same-decides, same_pair-decides}
use Rattle.schur_laws.specs.IndependentLabels.{HavePairRows}
use Rattle.schur_laws.proofs.IndependentSchurs.{schurs-independent, pairs-independent}
use Rattle.independence_laws.proofs.IndependentPowers.{powers-independent}
use Rattle.monomial_laws.proofs.IndependentMonomials.{monomials-independent}
use Rattle.family_list_laws.specs.SmallPartitions.{IsSmall}
use Rattle.schubert_laws.specs.ShortPermutations.{IsShort}
use Rattle.double_schubert_laws.specs.ShortShifts.{IsShortShift}

-- the label is within the limits of its kind and has the property P
abbrev Within : (kind : Kind) → (Label kind → Type 0) → Label kind → Type 0
Within kind P label = ((label_rules kind).is_within_limits label ≡ true) × P label

within-good : (kind : Kind) (P : Label kind → Type 0) (terms : Terms (Label kind))
    → IsCanonicalBy (label_rules kind) terms
    → ((t : Label kind × Fraction) → Among t terms → (label_rules kind).is_within_limits t.0 ≡ true → P t.0)
    → IsGood (label_rules kind).order (Within kind P) terms
within-good kind P terms h k =
    canonical-good (label_rules kind) (label_order-total kind) (Within kind P) terms h (λ t m l. (l, k t m l))

-- two canonical lists that represent the same polynomial f/d in a free family
pub one_of_kind : (kind : Kind) (test : Label kind → Label kind → Bool) → Decides test
    → (P : Label kind → Type 0) (family : Label kind → Poly) → AreIndependent test P family
    → (f : Poly) (d : ℕ) → 0 < d → (xs ys : Terms (Label kind)) → IsCanonicalBy (label_rules kind) xs
    → IsCanonicalBy (label_rules kind) ys
    → ((t : Label kind × Fraction) → Among t xs → (label_rules kind).is_within_limits t.0 ≡ true → P t.0)
    → ((t : Label kind × Fraction) → Among t ys → (label_rules kind).is_within_limits t.0 ≡ true → P t.0)
    → Represents family xs f d → Represents family ys f d → xs ≡ ys
one_of_kind kind test decides P family free f d some xs ys a b k l r s =
    one_list (label_rules kind).order (label_order-total kind) test decides (Within kind P) (λ x y p q e. label_order-ties kind x y p.0 q.0 e) family
    (independent-fewer test P (Within kind P) family (λ x p. p.1) free) f d some xs ys (within-good kind P xs a k) (within-good kind P ys b l) r s

-- ---- a number of variables that is enough for all labels within the limits

enough : ℕ
enough = 4096

enough-is : 4096 ≤ enough
unfolding enough
enough-is = omega arith

label-fits : (label : List ℕ) → is_label label ≡ true → HasRows enough label
label-fits label h =
    let l = is_label-tells label h in
    let r = l.rows in
    let e = enough-is in
    (l.partition, omega arith)

monomial-ends : (label : List ℕ) → is_monomial_label label ≡ true → HasPlaces enough label
monomial-ends label h =
    let p = (and_parts _ _ h).0 in
    let q = and_parts (same (without_last_zeros label) label) (leb (length label) 255) p in
    let l = leb-true (length label) 255 q.1 in
    let e = enough-is in
    (omega arith, same_true (without_last_zeros label) label q.0)

permutation-short : (w : List ℕ) → is_permutation_label w ≡ true → IsShort enough w
permutation-short w h =
    let a = and_parts _ (leb (length w) 255) h in
    let b = and_parts _ (same (kept w) w) a.0 in
    let c = and_parts _ (ltb 0 (length w)) b.0 in
    let l = leb-true (length w) 255 a.1 in
    let e = enough-is in
    record { one_line = label_one_line w h; short = omega arith; some = ltb-true 0 (length w) c.1; whole = same_true (kept w) w b.1 }

-- ---- the answers

pub one_schur_list : (variables : Option ℕ) (f : ℕ → Poly) (xs ys : Terms (List ℕ))
    → IsCanonicalBy (label_rules product) xs → IsCanonicalBy (label_rules product) ys
    → ExpandsInSchurs variables f xs → ExpandsInSchurs variables f ys → xs ≡ ys
one_schur_list None f xs ys a b r s =
    one_of_kind product same same-decides (HasRows enough) (λ parts. schur parts enough) (schurs-independent enough) (f enough) 1 (omega arith) xs ys a b
    (λ t m l. label-fits t.0 l) (λ t m l. label-fits t.0 l) (r enough) (s enough)
one_schur_list (Some k) f xs ys a b r s =
    one_of_kind product same same-decides (HasRows k) (λ parts. schur parts k) (schurs-independent k) (f k) 1 (omega arith) xs ys a b
    (λ t m l. ((is_label-tells t.0 l).partition, r.1 t m)) (λ t m l. ((is_label-tells t.0 l).partition, s.1 t m)) r.0 s.0

pub one_coproduct : (shape : List ℕ) (xs ys : Terms (List ℕ × List ℕ)) → IsCanonicalBy (label_rules pairs) xs
    → IsCanonicalBy (label_rules pairs) ys → IsCoproductOf shape xs → IsCoproductOf shape ys → xs ≡ ys
one_coproduct shape xs ys a b r s =
    one_of_kind pairs same_pair same_pair-decides (HavePairRows enough enough) (pair_polynomial enough enough) (pairs-independent enough enough) (schur shape (enough + enough)) 1 (omega arith) xs ys a b
    (λ t m l. both t.0 l) (λ t m l. both t.0 l) (r enough enough) (s enough enough)
  where
    both : (label : List ℕ × List ℕ) → (is_label label.0 && is_label label.1) ≡ true
        → HavePairRows enough enough label
    both label l =
        let p = and_parts (is_label label.0) (is_label label.1) l in (label-fits label.0 p.0, label-fits label.1 p.1)

pub one_polynomial : (w : List ℕ) (xs ys : Terms (List ℕ)) → IsCanonicalBy (label_rules polynomial) xs
    → IsCanonicalBy (label_rules polynomial) ys → IsSchubertPolynomialOf w xs → IsSchubertPolynomialOf w ys → xs ≡ ys
one_polynomial w xs ys a b r s =
    one_of_kind polynomial same same-decides (HasPlaces enough) (λ exponents. x_to_in exponents enough) (powers-independent enough) (schubert_in w enough) 1 (omega arith) xs ys a b
    (λ t m l. monomial-ends t.0 l) (λ t m l. monomial-ends t.0 l) (r enough) (s enough)

pub one_schubert_product : (u v : List ℕ) (xs ys : Terms (List ℕ)) → IsCanonicalBy (label_rules permutations) xs
    → IsCanonicalBy (label_rules permutations) ys
    → IsSchubertProductOf u v xs → IsSchubertProductOf u v ys → xs ≡ ys
one_schubert_product u v xs ys a b r s =
    one_of_kind permutations same same-decides (IsShort enough) (λ w. schubert_in w enough) (schuberts-independent enough) (times (schubert_in u enough) (schubert_in v enough)) 1 (omega arith) xs ys a b
    (λ t m l. permutation-short t.0 l) (λ t m l. permutation-short t.0 l) (r enough) (s enough)

label-small : (label : List ℕ) → is_label label ≡ true → IsSmall enough label
label-small label h =
    let l = is_label-tells label h in
    let r = l.size in
    let e = enough-is in
    (l.partition, omega arith)

pub one_expansion : (basis : Basis) (f : ℕ → Poly) (d : ℕ) → 0 < d → (xs ys : Terms (List ℕ))
    → IsCanonicalBy (label_rules expansion) xs → IsCanonicalBy (label_rules expansion) ys
    → ((n : ℕ) → IsExpansionOf basis xs n (f n) d) → ((n : ℕ) → IsExpansionOf basis ys n (f n) d) → xs ≡ ys
one_expansion monomials f d some xs ys a b r s =
    one_of_kind expansion same same-decides (HasRows enough) (λ parts. monomial parts enough) (monomials-independent enough) (f enough) d some xs ys a b
    (λ t m l. label-fits t.0 l) (λ t m l. label-fits t.0 l) (r enough) (s enough)
one_expansion elementaries f d some xs ys a b r s =
    one_of_kind expansion same same-decides (IsSmall enough) (λ parts. elementary parts enough) (elementaries-independent enough) (f enough) d some xs ys a b
    (λ t m l. label-small t.0 l) (λ t m l. label-small t.0 l) (r enough) (s enough)
one_expansion completes f d some xs ys a b r s =
    one_of_kind expansion same same-decides (IsSmall enough) (λ parts. complete parts enough) (completes-independent enough) (f enough) d some xs ys a b
    (λ t m l. label-small t.0 l) (λ t m l. label-small t.0 l) (r enough) (s enough)
one_expansion power_sums f d some xs ys a b r s =
    one_of_kind expansion same same-decides (HasRows enough) (λ parts. power_sum parts enough) (power_sums-independent enough) (f enough) d some xs ys a b
    (λ t m l. label-fits t.0 l) (λ t m l. label-fits t.0 l) (r enough) (s enough)
one_expansion schurs f d some xs ys a b r s =
    one_of_kind expansion same same-decides (HasRows enough) (λ parts. schur parts enough) (schurs-independent enough) (f enough) d some xs ys a b
    (λ t m l. label-fits t.0 l) (λ t m l. label-fits t.0 l) (r enough) (s enough)

pub one_double_product : (u v : List ℕ) (xs ys : Terms (List ℕ × List ℕ)) → IsCanonicalBy (label_rules shifts) xs
    → IsCanonicalBy (label_rules shifts) ys
    → IsDoubleProductOf u v xs → IsDoubleProductOf u v ys → xs ≡ ys
one_double_product u v xs ys a b r s =
    one_of_kind shifts same_pair same_pair-decides (IsShortShift enough) (λ label. shifted_in label enough) (doubles-independent enough) (times (double_schubert_in u enough) (double_schubert_in v enough)) 1 (omega arith) xs ys a b
    (λ t m l. shift-short t.0 l) (λ t m l. shift-short t.0 l) (r enough) (s enough)
  where
    shift-short : (label : List ℕ × List ℕ) → (is_permutation_label label.0 && is_monomial_label label.1) ≡ true
        → IsShortShift enough label
    shift-short label l =
        let p = and_parts (is_permutation_label label.0) (is_monomial_label label.1) l in (permutation-short label.0 p.0, monomial-ends label.1 p.1)

-- ---- quantum and fusion products, numbers

same_power-decides : Decides same_power
same_power-decides = record {
  tells =
      λ x y h. let p =
      and_parts (eqb x.0 y.0) (same x.1 y.1) h in ap₂ (λ a b. (a, b)) (eqb-true x.0 y.0 p.0) (same_true x.1 y.1 p.1);
  itself = λ x. ap₂ (λ a b. a && b) (eq-eqb x.0 x.0 refl) (same_refl x.1);
}

any : (kind : Kind) (terms : Terms (Label kind)) → IsCanonicalBy (label_rules kind) terms
    → IsGood (label_rules kind).order (Within kind (λ x. Unit {0})) terms
any kind terms h = within-good kind (λ x. Unit {0}) terms h (λ t m l. tt)

-- two canonical lists of integer coefficients that are the same formal sum
one_sum : (kind : Kind) (test : Label kind → Label kind → Bool) → Decides test
    → (label_rules kind).has_fractions ≡ false
    → (xs ys : Terms (Label kind)) → IsCanonicalBy (label_rules kind) xs → IsCanonicalBy (label_rules kind) ys
    → ((label : Label kind) → coefficient_by test (numerators xs) label ≡ coefficient_by test (numerators ys) label)
    → xs ≡ ys
one_sum kind test decides whole xs ys a b =
    same_sums (label_rules kind).order (label_order-total kind) test decides (Within kind (λ x. Unit {0}))
    (λ x y p q e. label_order-ties kind x y p.0 q.0 e) xs ys (any kind xs a) (any kind ys b)
    (canonical-whole (label_rules kind) (label_order-total kind) whole xs a) (canonical-whole (label_rules kind) (label_order-total kind) whole ys b)

pub one_reduction : (k n : ℕ) (factors : List (List ℕ)) → 1 ≤ n → (xs ys : Terms (ℕ × List ℕ))
    → IsCanonicalBy (label_rules powers) xs
    → IsCanonicalBy (label_rules powers) ys → IsRimHookReduction k n (classical_product k factors) xs
    → IsRimHookReduction k n (classical_product k factors) ys → xs ≡ ys
one_reduction k n factors h xs ys a b r s =
    one_sum powers same_power same_power-decides refl xs ys a b (one_rim_hook_sum k n factors xs ys h r s)

pub one_fusion : (k n : ℕ) (factors : List (List ℕ)) (xs ys : Terms (List ℕ)) → IsCanonicalBy (label_rules product) xs
    → IsCanonicalBy (label_rules product) ys → IsAlcoveReductionOf k n (classical_product k factors) xs
    → IsAlcoveReductionOf k n (classical_product k factors) ys → xs ≡ ys
one_fusion k n factors xs ys a b r s =
    one_sum product same same-decides refl xs ys a b (one_alcove_sum k n factors xs ys r s)

two : (t u : Label number × Fraction) (terms : Terms (Label number))
    → IsCanonicalBy (label_rules number) (t ∷ u ∷ terms) → ⊥
two t u terms h = let o = (any number (t ∷ u ∷ terms) h).ordered.0.0 in cc

pub one_number : (xs ys : Terms (Label number)) → IsCanonicalBy (label_rules number) xs
    → IsCanonicalBy (label_rules number) ys → number_in xs ≡ number_in ys → xs ≡ ys
one_number [] [] a b e = refl
one_number [] (u ∷ ys) a b e = absurd ((any number (u ∷ ys) b).nonzero u (inl refl) (sym e))
one_number (t ∷ xs) [] a b e = absurd ((any number (t ∷ xs) a).nonzero t (inl refl) e)
one_number (t ∷ []) (u ∷ []) a b e =
    let v = canonical-whole (label_rules number) (label_order-total number) refl (t ∷ []) a in
    let w = canonical-whole (label_rules number) (label_order-total number) refl (u ∷ []) b in
    let d : t.1.1 ≡ u.1.1 = v.0 ∙ sym w.0 in
    ap₂ (λ (n : ℤ) (m : ℕ). (tt, (n, m)) ∷ []) e d
one_number (t ∷ []) (u ∷ v ∷ ys) a b e = absurd (two u v ys b)
one_number (t ∷ w ∷ xs) (u ∷ ys) a b e = absurd (two t w xs a)
