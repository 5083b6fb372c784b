use Rattle.std.proofs.Common.{◌≡◌, subst}
use Rattle.std.specs.Result.{IsErrAnd}
use Rattle.perm_codes.specs.declared.fault.PermFault.TheVariants.{Letter, NoMemory}
use Rattle.perm_codes.proofs.NewLetters.{no_offence}
use Rattle.perm_codes.proofs.perm.Perm.from_letters.Goals as goal

pub returns-in_err-from_valid_letters-clause-letter
    : goal.returns-in_err-from_valid_letters-clause-letter
returns-in_err-from_valid_letters-clause-letter c = λ at. (
  λ e.
      let h : Letter at ≡ NoMemory = subst (λ r. IsErrAnd r (λ f. f ≡ NoMemory)) e
      c.from_residual.ensures.1 in
      cc,
  λ h. absurd (no_offence c.args.letters.now at c.in_default.ensures h.1),
)

pub returns-clause-letter : goal.returns-clause-letter
returns-clause-letter c = λ at.
    (λ e. cc, λ h. absurd (no_offence c.args.letters.now at c.in_default.ensures h.1))
