use Rattle.std.proofs.Common.{subst, sym, refl}
use Rattle.std.proofs.lemmas.Result.{err_from_is_err_and}
use Rattle.sym_model.specs.Grammar.{plethysm_entry}
use Rattle.sym_model.specs.Phrase.{SpellsPhrase}
use Rattle.expression_reading.specs.Trees.{basis_of}
use Rattle.calc_language.proofs.PlethysmJudging.{plethysm_read}
use Rattle.calc_language.proofs.plethysm_command.read_plethysm.Goals as goal

pub returns-in_err-places : goal.returns-in_err-places
returns-in_err-places c =
    let p = err_from_is_err_and c.from_residual.result c.from_residual.ensures.1 in
    rw (p.1, p.2) (c.in_err-places.ensures.wrong plethysm_entry refl)

pub returns : goal.returns
returns c =
    let k = c.in_ok-places.ensures.cut in
    let f = k.parts.3.0 in
    let g = k.parts.3.3.0 in
    plethysm_read _ c.in_ok-places.places k (basis_of c.target_of-target.result) c.judged.result
    (c.target_of-target.ensures k.parts.0 (c.piece_at-letter.ensures.is _ _ k.parts.2).1)
    (c.judged.ensures f g
    (subst (λ v. SpellsPhrase v f)
    (sym (c.text_of-outer.ensures _ (c.piece_at-first.ensures.is _ _ k.parts.3.2).1))
    (record { allowed = k.parts.3.1; spelled = refl }))
    (subst (λ v. SpellsPhrase v g)
    (sym (c.text_of-inner.ensures _ (c.piece_at-second.ensures.is _ _ k.parts.3.3.2).1))
    (record { allowed = k.parts.3.3.1; spelled = refl })))
