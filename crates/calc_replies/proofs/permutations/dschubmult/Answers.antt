use Rattle.std.proofs.Common.{refl, sym, subst}
use Rattle.std.specs.Prelude.{Ok}
use Rattle.sym_model.specs.Command as commands
use Rattle.calc_replies.specs.Computed.{IsReplyTo}
use Rattle.calc_replies.proofs.permutations.dschubmult.Goals as goal

pub returns-in-Ok : goal.returns-in-Ok
returns-in-Ok c =
    let command = commands.dschubmult c.args.left.now c.args.right.now in
    subst (λ outcome. IsReplyTo command (Ok outcome)) (sym c.as_block.ensures) (
      (λ m. absurd m.1),
      c.in-Ok.ensures.meets,
      refl,
    )
