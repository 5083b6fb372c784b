-- The lists of partitions that are the factors of a product.
use Rattle.std.specs.Prelude.{◌≡◌, ℕ, ◌<◌, ◌≤◌, ◌⊎◌, List, length, map}
use Rattle.sym_model.specs.Sum.{Among}
use Rattle.sym_model.specs.Partition.{IsPartition, size, rows}

-- the number of cells of all shapes together
abbrev pub cells_of : List (List ℕ) → ℕ
cells_of shapes = size (map size shapes)

-- the number of rows of all shapes together
abbrev pub rows_of : List (List ℕ) → ℕ
rows_of shapes = size (map rows shapes)

-- the shapes are partitions, with at most 4096 cells and at most 512 rows in all
pub record AreSmall (shapes : List (List ℕ)) : Type 0 where
  pub partitions : (parts : List ℕ) → Among parts shapes → IsPartition parts
  pub cells : cells_of shapes ≤ 4096
  pub rows : rows_of shapes ≤ 512

-- the shapes are 2 to 8 partitions, with at most 4096 cells and at most 512 rows in all
pub record AreFactors (shapes : List (List ℕ)) : Type 0 where
  pub least : 2 ≤ length shapes
  pub most : length shapes ≤ 8
  pub small : AreSmall shapes

-- the shapes have more than 4096 cells or more than 512 rows in all
abbrev pub AreTooBig : List (List ℕ) → Type 0
AreTooBig shapes = (4096 < cells_of shapes) ⊎ (512 < rows_of shapes)

-- `shapes` are the factors of a product (`AreFactors`), with `cells` cells and `rows` rows in all
pub record HasSums (shapes : List (List ℕ)) (cells rows : ℕ) : Type 0 where
  pub factors : AreFactors shapes
  pub cells_are : cells ≡ cells_of shapes
  pub rows_are : rows ≡ rows_of shapes
