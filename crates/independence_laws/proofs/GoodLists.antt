-- A canonical list (labels in order, coefficients in lowest terms and not 0) is good (`IsGood`), so that its labels
-- are different.
use Rattle.std.proofs.Common.{◌≡◌, true, false, ◌&&◌, ◌||◌, [], ◌∷◌, map, refl, ap, subst, inl, inr, arith, nat_abs}
use Rattle.std.proofs.Common.{eqb}
use Rattle.std.specs.Cmp.{IsTotalOrder}
use Rattle.std.proofs.lemmas.Bool.{and_parts, eqb-true}
use Rattle.sym_model.specs.Sum.{Among, Once}
use Rattle.sym_model.specs.Expansion.{Fraction, Terms}
use Rattle.sym_model.specs.WholeTerms.{AreWhole}
use Rattle.sym_model.specs.Kind.{LabelRules}
use Rattle.sym_model.specs.Canonical.{IsCanonicalBy, is_coefficient, is_reduced, is_ordered, each_term}
use Rattle.sym_model.proofs.CanonicalLists.{is_ordered-tells, labels-once, each_term-among}
use Rattle.sym_model.proofs.Orders.{is_reduced-tells, IsReduced}
use Rattle.independence_laws.proofs.Entries.{IsGood}

module _ {Label : Type 0} (rules : LabelRules Label) (total_order : IsTotalOrder rules.order) where
  test_of : (terms : Terms Label) → IsCanonicalBy rules terms → (t : Label × Fraction) → Among t terms
      → (is_coefficient rules.has_fractions t.1 ≡ true) × (rules.is_within_limits t.0 ≡ true)
  test_of terms h t m =
      and_parts (is_coefficient rules.has_fractions t.1) (rules.is_within_limits t.0)
      (each_term-among (λ (u : Label × Fraction). is_coefficient rules.has_fractions u.1 && rules.is_within_limits u.0) terms
      (and_parts (is_ordered rules.order terms) (each_term (λ (u : Label × Fraction). is_coefficient rules.has_fractions u.1 && rules.is_within_limits u.0) terms) h).1 t m)

  pub canonical-good : (P : Label → Type 0) → (terms : Terms Label) → IsCanonicalBy rules terms
      → ((t : Label × Fraction) → Among t terms → rules.is_within_limits t.0 ≡ true → P t.0)
      → IsGood rules.order P terms
  canonical-good P terms h k = record {
    ordered =
        is_ordered-tells rules.order total_order.trans terms (and_parts (is_ordered rules.order terms) (each_term (λ (u : Label × Fraction). is_coefficient rules.has_fractions u.1 && rules.is_within_limits u.0) terms) h).0;
    labels = λ t m. k t m (test_of terms h t m).1;
    lowest = λ t m. let r = reduced t m in record { positive = r.denominator; coprime = r.lowest };
    nonzero =
        λ t m e. let r = (reduced t m).nonzero in let z : nat_abs t.1.0 ≡ 0 = ap nat_abs e in absurd (omega arith);
  }
    where
      reduced : (t : Label × Fraction) → Among t terms → IsReduced t.1
      reduced t m = is_reduced-tells t.1 (and_parts _ (is_reduced t.1) (test_of terms h t m).0).1

  pub canonical-once : (terms : Terms Label) → IsCanonicalBy rules terms
      → Once (map (λ (t : Label × Fraction). t.0) terms)
  canonical-once terms h =
      labels-once rules.order total_order terms (canonical-good (λ x. Unit {0}) terms h (λ t m l. tt)).ordered

  pub canonical-whole : rules.has_fractions ≡ false → (terms : Terms Label) → IsCanonicalBy rules terms
      → AreWhole terms
  canonical-whole none terms h = whole terms (test_of terms h)
    where
      whole : (zs : Terms Label)
          → ((t : Label × Fraction) → Among t zs → (is_coefficient rules.has_fractions t.1 ≡ true) × (rules.is_within_limits t.0 ≡ true)) → AreWhole zs
      whole [] k = tt
      whole (t ∷ zs) k =
          let c = (and_parts (rules.has_fractions || (eqb t.1.1 1)) (is_reduced t.1) (k t (inl refl)).0).0 in
          (eqb-true t.1.1 1 (subst (λ b. (b || eqb t.1.1 1) ≡ true) none c), whole zs (λ u m. k u (inr m)))
