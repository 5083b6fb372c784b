-- The list of the partitions inside a partition, in the printed order.
use Rattle.std.specs.Prelude.{◌≡◌, IsTrue, ℕ, ◌<◌, ◌≤◌, List, [], ◌∷◌, length, get_or}
use Rattle.std.specs.declared.cmp.Ordering.TheVariants.{Less}
use Rattle.sym_model.specs.Sum.{Among}
use Rattle.sym_model.specs.LabelLimits.{is_label}
use Rattle.sym_model.specs.Partition.{IsPartition, Holds, size}
use Rattle.sym_model.specs.PrintedOrder.{printed_order}

-- each partition of the list comes strictly before all later ones in the printed order
abbrev pub IsInPrintedOrder : List (List ℕ) → Type 0
IsInPrintedOrder [] = Unit {0}
IsInPrintedOrder (x ∷ xs) =
    ((y : List ℕ) → Among y xs → printed_order x y ≡ Less) × IsInPrintedOrder xs

-- the list `inners` has exactly the partitions inside `shape`, each once, in the printed order, and each of them is a label (`is_label`)
pub record ListsShapesInside (shape : List ℕ) (inners : List (List ℕ)) : Type 0 where
  pub ordered : IsInPrintedOrder inners
  pub labels : (inner : List ℕ) → Among inner inners → IsTrue (is_label inner)
  pub partitions : (inner : List ℕ) → Among inner inners → IsPartition inner
  pub inside : (inner : List ℕ) → Among inner inners → Holds shape inner
  pub all : (inner : List ℕ) → IsPartition inner → Holds shape inner → Among inner inners

-- x is the element of the list xs at the index i
pub record IsAt {A : Type 0} (xs : List A) (i : ℕ) (x : A) : Type 0 where
  pub within : i < length xs
  pub is : x ≡ get_or xs i x

-- the first `count` partitions of the list have more than `cells` cells, and the others have at most `cells` cells
pub record IsCountAbove (inners : List (List ℕ)) (cells count : ℕ) : Type 0 where
  pub bound : count ≤ length inners
  pub before : (i : ℕ) (inner : List ℕ) → IsAt inners i inner → i < count → cells < size inner
  pub after : (i : ℕ) (inner : List ℕ) → IsAt inners i inner → count ≤ i → size inner ≤ cells
