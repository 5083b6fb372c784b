-- The lines that are written if a command is refused: for an error in its words, a line with the kind of the error, the
-- number of the word and the byte in it; and the line for an answer that is too large.
use Rattle.std.specs.Prelude.{ℕ, List, ◌++◌, codes, decimal}
use Rattle.sym_model.specs.ExpressionOffence.{OffenceKind, literal, range, shape}
use Rattle.sym_model.specs.CommandOffence.{Offence}

-- the name of a kind of error
abbrev pub offence_name : OffenceKind → List ℕ
offence_name literal = codes "Literal"
offence_name range = codes "Range"
offence_name shape = codes "Shape"

-- the line of a refusal that names a word and a byte in it, as in `! Range 1:0`
abbrev pub refusal_line : List ℕ → ℕ → ℕ → List ℕ
refusal_line name word byte =
    codes "! " ++ (name ++ (codes " "
    ++ (decimal word ++ (codes ":" ++ (decimal byte ++ codes "\n")))))

-- the line of a refusal because of this error, the first one in the words of the command
abbrev pub offence_line : Offence → List ℕ
offence_line offence = refusal_line (offence_name offence.2) offence.0 offence.1

-- the line of a refusal because the answer to the command is too large
abbrev pub large_line : List ℕ
large_line = codes "! Large\n"
