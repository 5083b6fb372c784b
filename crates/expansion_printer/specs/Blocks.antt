-- The block of terms whose lines were collected one after another.
use Rattle.std.specs.Prelude.{ℕ, List, [], ◌∷◌, codes}

-- the block that has these lines of terms: the lines, or the line 0 if there is no line
abbrev pub block_of : List ℕ → List ℕ
block_of [] = codes "0\n"
block_of (byte ∷ lines) = byte ∷ lines
