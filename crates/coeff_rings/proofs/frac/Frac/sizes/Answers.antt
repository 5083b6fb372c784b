use Rattle.std.proofs.Common.{ℕ, subst, sym, to_z-of_z}
use Rattle.std.specs.Int.{IsGcd}
use Rattle.coeff_rings.proofs.frac.Frac.sizes.Goals as goal

pub returns-clause-lowest : goal.returns-clause-lowest
returns-clause-lowest c =
    let size = rw (to_z-of_z c.self.invariant.fits) at c.unsigned_abs.ensures.value in (
      c.self.invariant.lowest.positive,
      subst (λ (n : ℕ). IsGcd n c.self.inside.den 1)
          (sym size) c.self.invariant.lowest.coprime,
    )
