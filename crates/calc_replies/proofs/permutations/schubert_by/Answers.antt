use Rattle.std.proofs.Common.{refl, sym, subst}
use Rattle.std.specs.Prelude.{Ok}
use Rattle.sym_model.specs.Command as commands
use Rattle.calc_replies.specs.Computed.{IsReplyTo}
use Rattle.calc_replies.proofs.permutations.schubert_by.Goals as goal

pub returns-in-Ok : goal.returns-in-Ok
returns-in-Ok c =
    let command = commands.schubert c.args.perm.now in
    subst (λ outcome. IsReplyTo command (Ok outcome)) (sym c.as_block.ensures)
    (c.in-Ok.ensures.fits, c.in-Ok.ensures.meets, refl)
