-- The items of a lister of partitions: those still to be listed, and the current one, for each stage of the lister.
use Rattle.std.specs.Prelude.{ℕ, List, [], ◌∷◌, Option, Some, None}
use Rattle.partitions.specs.declared.listing.Stage.{Stage}
use Rattle.partitions.specs.declared.listing.Stage.TheVariants.{New, Listing, Ended}
use Rattle.partitions.specs.Listing.{partitions_after}

-- the partitions that a lister with these parts in its buffer is still to list, for each stage of the lister
abbrev pub rest_at : Stage → List ℕ → List (List ℕ)
rest_at New parts = parts ∷ partitions_after parts
rest_at Listing parts = partitions_after parts
rest_at Ended parts = []

-- the current partition of a lister with these parts in its buffer, for each stage of the lister
abbrev pub item_at : Stage → List ℕ → Option (List ℕ)
item_at New parts = None
item_at Listing parts = Some parts
item_at Ended parts = None
