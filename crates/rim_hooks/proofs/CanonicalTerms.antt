-- In a canonical list (labels in order, no coefficient 0) each label occurs once, with a coefficient other than 0 (`AreCollected`).
use Rattle.std.proofs.Common.{◌≡◌, nat_abs, Bool, true, false, ◌&&◌, [], ◌∷◌, map, ap, rules}
use Rattle.std.proofs.Common.{inl, inr, arith, ℤ}
use Rattle.std.proofs.lemmas.Bool.{and_parts}
use Rattle.sym_model.specs.Sum.{Among, Once}
use Rattle.sym_model.specs.Expansion.{Fraction, Terms}
use Rattle.sym_model.specs.Kind.{Kind, Label, LabelRules, label_rules}
use Rattle.sym_model.specs.Canonical.{IsCanonicalBy, each_term, is_coefficient, is_ordered}
use Rattle.sym_model.specs.Canonical.{is_reduced}
use Rattle.sym_model.specs.ReductionSteps.{AreCollected}
use Rattle.sym_model.specs.WholeTerms.{numerators}
use Rattle.sym_model.proofs.CanonicalLists.{is_ordered-tells, labels-once}
use Rattle.sym_model.proofs.Orders.{is_reduced-tells}
use Rattle.printing_laws.proofs.LabelOrders.{label_order-total}

module _ {L : Type 0} (test : L → L → Bool) (test_true : (a b : L) → test a b ≡ true → a ≡ b) where
  apart : (label : L) (terms : Terms L) → (Among label (map (λ (t : L × Fraction). t.0) terms) → ⊥)
      → (u : L × ℤ) → Among u (numerators terms) → test label u.0 ≡ false
  apart label [] none u m = absurd m
  apart label (t ∷ terms) none u (inr m) = apart label terms (λ l. none (inr l)) u m
  apart label (t ∷ terms) none u (inl e) = search rules

  collected : (rules : LabelRules L) (terms : Terms L)
      → Once (map (λ (t : L × Fraction). t.0) terms)
      → each_term (λ t. is_coefficient rules.has_fractions t.1 && rules.is_within_limits t.0) terms
      ≡ true → AreCollected test (numerators terms)
  collected rules [] once tests = tt
  collected rules (t ∷ terms) once tests =
      let p = and_parts (is_coefficient rules.has_fractions t.1 && rules.is_within_limits t.0) _
      tests in
      let c = and_parts (is_coefficient rules.has_fractions t.1) (rules.is_within_limits t.0) p.0 in
      let some = (is_reduced-tells t.1 (and_parts _ (is_reduced t.1) c.0).1).nonzero in (
        (λ zero. let none : nat_abs t.1.0 ≡ 0 = ap nat_abs zero in absurd (omega arith)),
        apart t.0
            terms once.0,
        collected rules terms once.1 p.1,
      )

pub canonical-collected : (kind : Kind) (test : Label kind → Label kind → Bool)
    → ((a b : Label kind) → test a b ≡ true → a ≡ b)
    → (terms : Terms (Label kind)) → IsCanonicalBy (label_rules kind) terms
    → AreCollected test (numerators terms)
canonical-collected kind test test_true terms h =
    let p = and_parts (is_ordered (label_rules kind).order terms) _ h in
    let total = label_order-total kind in
    collected test test_true (label_rules kind) terms
    (labels-once (label_rules kind).order total terms
    (is_ordered-tells (label_rules kind).order total.trans terms p.0)) p.1
