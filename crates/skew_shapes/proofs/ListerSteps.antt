-- The height of the rim hook that an iterator over rim hooks returns: the number of its rows, computed from its first and last row.
use Rattle.std.proofs.Common.{◌≡◌, ℕ, ◌+◌, ◌-◌, ◌≤◌, Bool, List, rules}
use Rattle.std.specs.Prelude.{IfSome}
use Rattle.sym_model.specs.Strip.{height}
use Rattle.skew_shapes.specs.HookLists.{HooksListed}
use Rattle.skew_shapes.specs.AddedHooks.{IsAdding, adding_at}
use Rattle.skew_shapes.specs.RemovedHooks.{IsRemoving, removing_at}
use Rattle.skew_shapes.proofs.AddedShapes.{hook_height}
use Rattle.skew_shapes.proofs.RemovedShapes.{left_height}

pub added_height : (inner : List ℕ) (k : ℕ) (buffer : List ℕ) (first last : ℕ) (listed : Bool) (v : HooksListed) (told : ℕ) → adding_at inner k first last listed ≡ v
    → IsAdding inner k buffer first last listed → (first ≤ last → told ≡ last + 1 - first) → IfSome v.item (λ ν. told ≡ height ν v.base)
added_height inner k buffer first last listed v told e h t = search (rules, hook_height)

pub removed_height : (outer : List ℕ) (k : ℕ) (buffer : List ℕ) (first last : ℕ) (listed : Bool) (v : HooksListed) (told : ℕ) → removing_at outer k first last listed ≡ v
    → IsRemoving outer k buffer first last listed → (first ≤ last → told ≡ last + 1 - first) → IfSome v.item (λ ν. told ≡ height v.base ν)
removed_height outer k buffer first last listed v told e h t = search (rules, left_height)
