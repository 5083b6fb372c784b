-- The one-line form of an answer, rewritten byte by byte as the block of this answer. A one-line form is an expression with *atoms*: an atom is a
-- basis letter with numbers in brackets, such as s[2,1]. A block has one line for each term.
use Rattle.std.specs.Prelude.{ℕ, ◌==◌, nat_le, Bool, true, false, ◌&&◌, ◌||◌, List, [], ◌∷◌, ◌++◌}
use Rattle.std.specs.Prelude.{codes, cond}
use Rattle.sym_model.specs.Answer.{Answer, answer}
use Rattle.sym_model.specs.Expansion.{Basis}
use Rattle.sym_model.specs.Kind.{Kind, expansion, product}
use Rattle.printing_laws.specs.LineExpression.{IsExpression}

-- the labels of an answer of this kind are single partitions, which the one-line form writes as atoms (basis elements such as s[2,1])
abbrev pub HasAtoms : Kind → Type 0
HasAtoms expansion = Unit {0}
HasAtoms product = Unit {0}
HasAtoms _ = ⊥

-- the one-line form of the answer is an expression that denotes the terms of the answer
abbrev pub IsLineOfExpression : Basis → Answer → Type 0
IsLineOfExpression basis (answer expansion terms) = IsExpression basis terms
IsLineOfExpression basis (answer product terms) = IsExpression basis terms
IsLineOfExpression basis _ = ⊥

-- whether a byte adds nothing to the block: `+`, `*`, a byte of at least 97 (the letter `a`), and a line feed if `bare`, that is, if no digit was
-- read since the last atom
abbrev pub is_dropped : Bool → ℕ → Bool
is_dropped bare byte = (((byte == 43) || (byte == 42)) || nat_le 97 byte) || (bare && (byte == 10))

-- the text of the block for a byte: `[` opens a label, after the coefficient 1 if `bare`, and `]` ends the label and its line; any other byte that is
-- not dropped is kept
abbrev pub emitted : Bool → ℕ → List ℕ
emitted bare byte =
    cond (is_dropped bare byte) []
    (cond (byte == 91) (cond bare (codes "1  (") (codes "  ("))
    (cond (byte == 93) (codes ")\n") (byte ∷ [])))

-- whether no digit has been read since the last atom, this byte included; `bare` says whether none was read before this byte
abbrev pub is_bare_after : Bool → ℕ → Bool
is_bare_after bare byte =
    cond (byte == 93) true (cond (nat_le 48 byte && nat_le byte 57) false bare)

-- the text of the block for the rest of a one-line form; `bare` says whether no digit was read since the last atom, such as s[2,1]
abbrev pub block_from : Bool → List ℕ → List ℕ
block_from bare [] = []
block_from bare (byte ∷ text) = emitted bare byte ++ block_from (is_bare_after bare byte) text
