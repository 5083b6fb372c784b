use Rattle.std.proofs.Common.{ℕ, List, subst, sym}
use Rattle.sym_model.specs.Slide.{HasInnerCorner}
use Rattle.skew_shapes.proofs.KeptRows.{IsSkew-inner_lowered}
use Rattle.skew_shapes.proofs.skew.Skew.remove_inner_corner.Goals as goal

pub invariant_of-self : goal.invariant_of-self
invariant_of-self c =
    IsSkew-inner_lowered c.self.inside.outer c.self.inside.inner c.remove_corner.new.self c.args.row
    c.self.invariant
    (subst (λ (v : List ℕ × List ℕ). HasInnerCorner c.args.row v.1) (sym c.self.view_is) c.requires)
    c.remove_corner.ensures
