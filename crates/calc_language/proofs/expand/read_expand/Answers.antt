use Rattle.std.proofs.Common.{[], ◌∷◌, Ok, subst, sym, refl}
use Rattle.std.proofs.lemmas.Result.{err_from_is_err_and}
use Rattle.std.specs.Prelude.{codes}
use Rattle.sym_model.specs.Grammar.{expand_entry}
use Rattle.expression_reading.specs.Reading.{IsRead}
use Rattle.expression_reading.specs.Trees.{basis_of}
use Rattle.calc_words.specs.Reading.{IsRefusal}
use Rattle.calc_language.proofs.ExpressionJudging.{expand_parts, expand_fine, expand_refused}
use Rattle.calc_language.proofs.ExpressionJudging.{cut_of}
use Rattle.calc_language.proofs.expand.read_expand.Goals as goal

pub returns-in_err-places : goal.returns-in_err-places
returns-in_err-places c =
    let p = err_from_is_err_and c.from_residual.result c.from_residual.ensures.1 in
    rw (p.1, p.2) (c.in_err-places.ensures.wrong expand_entry refl)

pub returns-in-Ok : goal.returns-in-Ok
returns-in-Ok c =
    let read = c.in-Ok.ensures.read in
    let k = cut_of (codes "expand") expand_parts c.in_ok-places.places _ _
    c.in_ok-places.ensures.cut
    (λ u. c.text_of.ensures _ (c.piece_at-last.ensures.is _ _ u.piece).1) read.0 read.1 in
    expand_fine _ c.in_ok-places.places k c.target_of-target.result c.maybe_form_of-one_line.result
    c.in-Ok.formula
    (c.target_of-target.ensures k.parts.3.0 (c.piece_at-letter.ensures.is _ _ k.parts.3.2).1)
    (c.maybe_form_of-one_line.ensures k.parts.0 (c.piece_at-form.ensures.is _ _ k.parts.2).1)
    (subst (λ v. IsRead (basis_of c.target_of-target.result) v (Ok c.in-Ok.formula))
    (c.text_of.ensures _ (c.piece_at-last.ensures.is _ _ k.parts.3.3.2).1) read)

pub returns-in-Err : goal.returns-in-Err
returns-in-Err c =
    subst (IsRefusal (expand_entry ∷ []) _) (sym c.placed.ensures)
    (expand_refused _ c.in_ok-places.places c.in_ok-places.ensures.cut
    (basis_of c.target_of-target.result) _ c.text_of.result.now c.in-Err.fault
    (λ u. let last = c.piece_at-last.ensures.is _ _ u.piece in (last.0, c.text_of.ensures _ last.1))
    (λ k.
    let last = c.piece_at-last.ensures.is _ _ k.parts.3.3.2 in (
      c.target_of-target.ensures k.parts.3.0 (c.piece_at-letter.ensures.is _ _ k.parts.3.2).1,
      last.0,
      c.text_of.ensures _ last.1,
    )) c.in-Err.ensures.read)
