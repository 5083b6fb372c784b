use Rattle.strip_laws.proofs.Strips.{horizontal_from_rows, horizontal_rows, vertical_from_rows}
use Rattle.strip_laws.proofs.Strips.{vertical_rows}
use Rattle.strip_laws.proofs.RimHooks.{hook_from_rows, hook_rows, height_of_rows}
use Rattle.strip_laws.proofs.HookSizes.{hook_size}
use Rattle.strip_laws.proofs.strips_and_hooks.strip_law.Goals as goal

pub returns-clause-horizontal : goal.returns-clause-horizontal
returns-clause-horizontal c outer inner f g h =
    (horizontal_rows outer inner f g, horizontal_from_rows outer inner f h)

pub returns-clause-vertical : goal.returns-clause-vertical
returns-clause-vertical c outer inner h =
    (vertical_rows outer inner, vertical_from_rows outer inner h)

pub returns-clause-rim_hook : goal.returns-clause-rim_hook
returns-clause-rim_hook c outer inner f g =
    (hook_rows outer inner f g, λ r. hook_from_rows outer inner r.0 r.1 f r.2)

pub returns-clause-height : goal.returns-clause-height
returns-clause-height c = height_of_rows

pub returns-clause-cells : goal.returns-clause-cells
returns-clause-cells c = hook_size
