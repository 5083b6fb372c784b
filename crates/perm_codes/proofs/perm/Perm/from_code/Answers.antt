use Rattle.std.proofs.Common.{◌≡◌, ◌<◌, length, sym, ◌∙◌, subst, arith}
use Rattle.std.proofs.lemmas.Bool.{eqb-false}
use Rattle.std.specs.Result.{IsErrAnd}
use Rattle.perm_codes.specs.declared.fault.PermFault.TheVariants.{Letter, NoMemory}
use Rattle.perm_codes.specs.Limits.{IsShortPermutation}
use Rattle.perm_codes.proofs.NewLetters.{no_excess}
use Rattle.perm_codes.proofs.WithinLimits.{short_letters}
use Rattle.perm_codes.proofs.perm.Perm.from_code.Goals as goal

pub returns-in_err-choose-clause-letter : goal.returns-in_err-choose-clause-letter
returns-in_err-choose-clause-letter c = λ at. (
  λ e.
      let h : Letter at ≡ NoMemory = subst (λ r. IsErrAnd r (λ f. f ≡ NoMemory)) e
      c.from_residual.ensures.1 in
      cc,
  λ h. absurd (no_excess c.args.code.now at c.in_default.ensures h.1),
)

pub trimmed-requires : goal.trimmed-requires
trimmed-requires c =
    let some : 0 < length c.args.code.now = let h = c.is_empty.ensures in let k =
    c.if-is_empty.false in omega (
      arith,
      eqb-false (length c.args.code.now) 0
          (sym c.is_empty.ensures ∙ c.if-is_empty.false),
    ) in
    subst IsShortPermutation (sym c.in_ok-choose.ensures)
    (short_letters c.args.code.now c.in_default.ensures some (omega arith))

pub returns-clause-letter : goal.returns-clause-letter
returns-clause-letter c = λ at.
    (λ e. cc, λ h. absurd (no_excess c.args.code.now at c.in_default.ensures h.1))
