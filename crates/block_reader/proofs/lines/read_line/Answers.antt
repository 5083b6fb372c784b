use Rattle.std.proofs.Common.{◌≡◌, ◌≢◌, true, false, [], ◌∷◌, ℤ, pos, ap, ap₂, sym, ◌∙◌, subst}
use Rattle.std.proofs.Common.{FitsSigned, to_z, of_z, to_z-of_z}
use Rattle.std.specs.Int.{w128}
use Rattle.sym_model.specs.NumberText.{signed_value}
use Rattle.fraction_laws.specs.Fractions.{whole}
use Rattle.fraction_laws.proofs.Whole.{same_whole}
use Rattle.block_reader.specs.Parts.{denominator_after}
use Rattle.block_reader.specs.Fitting.{fits, all_fit}
use Rattle.block_reader.proofs.FittingTerms.{line-told, term-large, term-nothing, term-unfit}
use Rattle.block_reader.proofs.FittingTerms.{term-counts, term-unlabelled}
use Rattle.block_reader.proofs.lines.read_line.Goals as goal

pub returns-in_default-clause-refused : goal.returns-in_default-clause-refused
returns-in_default-clause-refused g c =
    let rules = g.L.Spelled.line_rules in
    let name = c.cut.result.1.now in
    let num = c.cut-2.result.0.now in
    let den = c.cut-2.result.1.now in
    let told = line-told rules c.args.line.now c.cut.result.0.now name num den c.cut.ensures.front
    c.cut.ensures.back c.cut-2.ensures.front c.cut-2.ensures.back in
    λ e. ap (all_fit g.R.Coefficient.has_fractions g.L.Label.is_label) told
    ∙ term-large g.R.Coefficient.has_fractions g.L.Label.is_label (signed_value num) den
    (rules.spelled name) c.in_default.ensures

pub returns-then-is_zero-clause-ok : goal.returns-then-is_zero-clause-ok
returns-then-is_zero-clause-ok g c =
    let rules = g.L.Spelled.line_rules in
    let name = c.cut.result.1.now in
    let num = c.cut-2.result.0.now in
    let den = c.cut-2.result.1.now in
    let told = line-told rules c.args.line.now c.cut.result.0.now name num den c.cut.ensures.front
    c.cut.ensures.back c.cut-2.ensures.front c.cut-2.ensures.back in
    let raw : to_z w128 (of_z w128 c.in-Some.num) ≡ signed_value num =
    to_z-of_z (subst (FitsSigned w128) (sym c.in-Some.ensures.1) c.in-Some.ensures.0)
    ∙ c.in-Some.ensures.1 in
    let made : c.new.result ≡ signed_value num = c.new.ensures ∙ raw in
    sym (told ∙ term-nothing g.R.Coefficient.has_fractions g.L.Label.is_label (signed_value num) den
    (rules.spelled name) (sym made ∙ same_whole c.new.result (pos 0)
    (c.is_zero.ensures.zero.0 c.if-is_zero.true)))

pub returns-in_default-coefficient_with-clause-refused
    : goal.returns-in_default-coefficient_with-clause-refused
returns-in_default-coefficient_with-clause-refused g c =
    let rules = g.L.Spelled.line_rules in
    let name = c.cut.result.1.now in
    let num = c.cut-2.result.0.now in
    let den = c.cut-2.result.1.now in
    let told = line-told rules c.args.line.now c.cut.result.0.now name num den c.cut.ensures.front
    c.cut.ensures.back c.cut-2.ensures.front c.cut-2.ensures.back in
    let raw : to_z w128 (of_z w128 c.in-Some.num) ≡ signed_value num =
    to_z-of_z (subst (FitsSigned w128) (sym c.in-Some.ensures.1) c.in-Some.ensures.0)
    ∙ c.in-Some.ensures.1 in
    let made : c.new.result ≡ signed_value num = c.new.ensures ∙ raw in
    let other : signed_value num ≢ pos 0 =
    (λ e. let clash : true ≡ false = sym (c.is_zero.ensures.zero.1 (ap whole (made ∙ e)))
    ∙ c.if-is_zero.false in cc) in
    let unfit : fits g.R.Coefficient.has_fractions (signed_value num, denominator_after den)
    ≡ false =
    ap (λ (z : ℤ). fits g.R.Coefficient.has_fractions (z, denominator_after den)) (sym raw)
    ∙ c.in_default-coefficient_with.ensures in
    λ e. ap (all_fit g.R.Coefficient.has_fractions g.L.Label.is_label) told
    ∙ term-unfit g.R.Coefficient.has_fractions g.L.Label.is_label (signed_value num) den
    (rules.spelled name) other unfit

pub returns-in-Some-2-clause-ok : goal.returns-in-Some-2-clause-ok
returns-in-Some-2-clause-ok g c =
    let rules = g.L.Spelled.line_rules in
    let name = c.cut.result.1.now in
    let num = c.cut-2.result.0.now in
    let den = c.cut-2.result.1.now in
    let told = line-told rules c.args.line.now c.cut.result.0.now name num den c.cut.ensures.front
    c.cut.ensures.back c.cut-2.ensures.front c.cut-2.ensures.back in
    let raw : to_z w128 (of_z w128 c.in-Some.num) ≡ signed_value num =
    to_z-of_z (subst (FitsSigned w128) (sym c.in-Some.ensures.1) c.in-Some.ensures.0)
    ∙ c.in-Some.ensures.1 in
    let made : c.new.result ≡ signed_value num = c.new.ensures ∙ raw in
    let other : signed_value num ≢ pos 0 =
    (λ e. let clash : true ≡ false = sym (c.is_zero.ensures.zero.1 (ap whole (made ∙ e)))
    ∙ c.if-is_zero.false in cc) in
    let spelled = rw c.in-Some-2.is at c.in_ok-label.ensures in
    ap₂ (λ l v. (l, v) ∷ []) spelled (c.in-Some-coefficient_with.ensures ∙ ap (λ (z : ℤ).
    (z, denominator_after den)) raw)
    ∙ sym (told ∙ term-counts g.R.Coefficient.has_fractions g.L.Label.is_label (signed_value num)
    den (rules.spelled name) other)

pub returns-in-None-clause-refused : goal.returns-in-None-clause-refused
returns-in-None-clause-refused g c =
    let rules = g.L.Spelled.line_rules in
    let name = c.cut.result.1.now in
    let num = c.cut-2.result.0.now in
    let den = c.cut-2.result.1.now in
    let told = line-told rules c.args.line.now c.cut.result.0.now name num den c.cut.ensures.front
    c.cut.ensures.back c.cut-2.ensures.front c.cut-2.ensures.back in
    let raw : to_z w128 (of_z w128 c.in-Some.num) ≡ signed_value num =
    to_z-of_z (subst (FitsSigned w128) (sym c.in-Some.ensures.1) c.in-Some.ensures.0)
    ∙ c.in-Some.ensures.1 in
    let made : c.new.result ≡ signed_value num = c.new.ensures ∙ raw in
    let other : signed_value num ≢ pos 0 =
    (λ e. let clash : true ≡ false = sym (c.is_zero.ensures.zero.1 (ap whole (made ∙ e)))
    ∙ c.if-is_zero.false in cc) in
    let unlabelled = rw c.in-None.is at c.in_ok-label.ensures in
    λ e. ap (all_fit g.R.Coefficient.has_fractions g.L.Label.is_label) told
    ∙ term-unlabelled g.R.Coefficient.has_fractions g.L.Label.is_label (signed_value num) den
    (rules.spelled name) other unlabelled
