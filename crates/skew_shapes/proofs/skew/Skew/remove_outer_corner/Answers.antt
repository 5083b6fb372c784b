use Rattle.std.proofs.Common.{ℕ, List, ◌<◌, subst, sym}
use Rattle.sym_model.specs.Partition.{part}
use Rattle.sym_model.specs.Slide.{HasInnerCorner}
use Rattle.skew_shapes.proofs.KeptRows.{IsSkew-outer_lowered}
use Rattle.skew_shapes.proofs.skew.Skew.remove_outer_corner.Goals as goal

pub invariant_of-self : goal.invariant_of-self
invariant_of-self c =
    IsSkew-outer_lowered c.self.inside.outer c.self.inside.inner c.remove_corner.new.self c.args.row
    c.self.invariant
    (subst (λ (v : List ℕ × List ℕ). HasInnerCorner c.args.row v.0) (sym c.self.view_is)
    c.requires.corner)
    (subst (λ (v : List ℕ × List ℕ). part v.1 c.args.row < part v.0 c.args.row) (sym c.self.view_is)
    c.requires.cell)
    c.remove_corner.ensures
