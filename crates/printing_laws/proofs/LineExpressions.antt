-- The one-line form of a canonical list of terms (in the printed order, coefficients in lowest terms and not 0), such as s[3]-3*s[2,1], is an
-- expression that denotes the list, if the labels are partitions.
use Rattle.std.proofs.Common.{◌≡◌, ℕ, Bool, true, ◌&&◌, List, [], ◌∷◌, refl}
use Rattle.std.proofs.lemmas.Bool.{and_parts}
use Rattle.sym_model.specs.Expansion.{Basis, Fraction, Terms}
use Rattle.sym_model.specs.Canonical.{is_coefficient, is_reduced, each_term, is_printable}
use Rattle.sym_model.specs.LabelLimits.{is_label}
use Rattle.sym_model.specs.Phrase.{spelling}
use Rattle.sym_model.specs.PrintedOrder.{printed_order}
use Rattle.sym_model.specs.Kind.{list_rules}
use Rattle.sym_model.specs.Canonical.{is_canonical_by}
use Rattle.sym_model.proofs.Orders.{is_label-tells, is_reduced-tells}
use Rattle.printing_laws.proofs.LegibleKinds.{is_label-short}
use Rattle.printing_laws.proofs.OneLines.{AreReadable, are_readable}
use Rattle.printing_laws.specs.LineExpression.{IsExpression}
use Rattle.printing_laws.proofs.LinePhrases.{line_phrase, line_is, line_spelled}
use Rattle.printing_laws.proofs.LineValues.{AreProper, line-value}
use Rattle.printing_laws.proofs.LineOffences.{line-no_literal}

are_proper : (has_fractions : Bool) (terms : Terms (List ℕ))
    → each_term (λ (t : List ℕ × Fraction). is_coefficient has_fractions t.1 && is_label t.0) terms ≡ true → AreReadable terms → AreProper terms
are_proper has_fractions [] h r = tt
are_proper has_fractions (t ∷ terms) h r =
    let p = and_parts (is_coefficient has_fractions t.1 && is_label t.0) _ h in
    let q = and_parts (is_coefficient has_fractions t.1) (is_label t.0) p.0 in
    let reduced = is_reduced-tells t.1 (and_parts _ (is_reduced t.1) q.0).1 in
    (record { readable = r.0; positive = (is_label-tells t.0 q.1).partition.positive; den = reduced.denominator }, are_proper has_fractions terms p.1 r.1)

pub is_expression : (has_fractions : Bool) (basis : Basis) (terms : Terms (List ℕ))
    → is_canonical_by (list_rules printed_order is_label has_fractions) terms ≡ true → is_printable terms ≡ true → IsExpression basis terms
is_expression has_fractions basis terms h k =
    let tests = (and_parts _ _ h).1 in
    let readable = are_readable (list_rules printed_order is_label has_fractions) is_label-short terms tests k in
    record {
      word = spelling (line_phrase basis terms);
      phrase = line_phrase basis terms;
      line = line_spelled basis terms;
      spells = record { allowed = line_is basis terms readable; spelled = refl };
      value = line-value basis terms (are_proper has_fractions terms tests readable);
      no_literal = line-no_literal has_fractions basis terms tests k;
    }
