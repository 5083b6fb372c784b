use Rattle.std.proofs.Common.{◌*ℤ◌, pos, sym, ap, ◌∙◌}
use Rattle.sym_model.proofs.Signs.{sign-parity}
use Rattle.family_lists.proofs.coefficients.signed.Goals as goal

pub returns : goal.returns
returns c =
    c.with_sign.ensures ∙ ap (λ s. s *ℤ pos c.args.number) (sym (sign-parity c.args.exponent))
