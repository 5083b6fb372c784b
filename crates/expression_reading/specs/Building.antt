-- The results of building an expression from its parts: its tree, and whether it has no negative number and no denominator 0 (`has_no_signs`). An
-- *atom* is a basis element such as s[2,1]; a *mark* is a number or an opening parenthesis, which can be an error.
use Rattle.std.specs.Prelude.{◌≡◌, ℕ, ◌+◌, ◌-◌, ◌*◌, ◌^◌, ◌<◌, ◌≤◌, nat_lt, Bool, true, false, ◌&&◌, IsTrue}
use Rattle.std.specs.Prelude.{List, [], ◌∷◌, ◌++◌, length, Option, Some, None}
use Rattle.sym_model.specs.Partition.{Falls, without_last_zeros}
use Rattle.sym_model.specs.Expansion.{Basis}
use Rattle.sym_model.specs.Expression.{Tree, number, fraction, atom, negation}
use Rattle.expression_laws.specs.LeftToRight.{Symbol, digit, BeforeTerm, no_term, negating, adding}
use Rattle.expression_laws.specs.LeftToRight.{subtracting, BeforeFactor, no_factor, multiplying}
use Rattle.expression_laws.specs.LeftToRight.{Opened, outermost, inside, Piece, awaited, in_number}
use Rattle.expression_laws.specs.LeftToRight.{after_slash, in_denominator, after_letter, in_list}
use Rattle.expression_laws.specs.LeftToRight.{in_entry, closed, State, at, Makes, step, is_live}
use Rattle.expression_reading.specs.declared.expr.Expr.{Expr}
use Rattle.expression_reading.specs.declared.builder.LeadingTerms.{LeadingTerms}
use Rattle.expression_reading.specs.declared.builder.LeadingTerms.TheVariants.{NoTerm, Negating}
use Rattle.expression_reading.specs.declared.builder.LeadingTerms.TheVariants.{Adding, Subtracting}
use Rattle.expression_reading.specs.declared.builder.LeadingFactors.{LeadingFactors}
use Rattle.expression_reading.specs.declared.builder.LeadingFactors.TheVariants.{NoFactor}
use Rattle.expression_reading.specs.declared.builder.LeadingFactors.TheVariants.{Multiplying}
use Rattle.expression_reading.specs.declared.builder.Part.{Part}
use Rattle.expression_reading.specs.declared.builder.Part.TheVariants.{Awaited, Number, Slash}
use Rattle.expression_reading.specs.declared.builder.Part.TheVariants.{Denominator, Letter}
use Rattle.expression_reading.specs.declared.builder.Part.TheVariants.{List as Listing, Closed}
use Rattle.expression_reading.specs.declared.builder.Frame.{Frame}
use Rattle.expression_reading.specs.declared.builder.Builder.{Builder}
use Rattle.expression_reading.specs.Trees.{basis_of, tree_of, has_no_signs}
use Rattle.expression_reading.specs.ScanSteps.{capped, is_high}
use Rattle.expression_reading.specs.Offences.{first_kind}
use Rattle.sym_model.specs.Phrase.{Phrase, SpellsPhrase, join_trees}
use Rattle.sym_model.specs.ExpressionOffence.{Mark, marks}
use Rattle.sym_model.specs.Bounded.{AreAtMost}

-- a tree, and whether its expression has no negative number and no denominator 0
abbrev pub Built : Type 0
Built = Tree × Bool

-- the tree of an expression of the program, and whether the expression has no negative number and no denominator 0
abbrev pub built_of : Expr → Built
built_of e = (tree_of e, has_no_signs e)

-- the operations that build the result of an expression from the results of its parts; the value of a number is capped at 2^127
abbrev pub builds : Makes Built ℕ
builds = record {
  begin = λ byte. byte - 48;
  extend = λ n byte. capped (10 * n + (byte - 48));
  numeral_of = λ n. (number n, true);
  ratio_of = λ n k. (fraction n k, nat_lt 0 k);
  label_of = λ basis numbers. (atom basis (without_last_zeros numbers), true);
  brackets_of = λ x. x;
  minus_first_of = λ x. (negation x.0, x.1);
  operation_of = λ operator x y. (join_trees operator x.0 y.0, x.1 && y.1);
}

-- the text before the current term of a builder, as the machine `LeftToRight` describes it: nothing, a minus, or the result of an expression that is
-- followed by `+` or `-`
abbrev pub terms_in : LeadingTerms → BeforeTerm Built
terms_in NoTerm = no_term
terms_in Negating = negating
terms_in (Adding e) = adding (built_of e.value)
terms_in (Subtracting e) = subtracting (built_of e.value)

-- the text before the current factor of a builder, as the machine `LeftToRight` describes it: nothing, or the result of a term that is followed by
-- `*`
abbrev pub factors_in : LeadingFactors → BeforeFactor Built
factors_in NoFactor = no_factor
factors_in (Multiplying e) = multiplying (built_of e.value)

-- There are at most 64 numbers, weakly decreasing and each at most 20. If an atom has a degree of at most 20 and no error, its numbers satisfy this.
pub record AreEntries (numbers : List ℕ) : Type 0 where
  pub falls : Falls numbers
  pub few : length numbers ≤ 64
  pub low : AreAtMost 20 numbers

-- the piece of an atom after its bracket: `numbers` are those that are followed by a comma, and the option is the last number, if one of its digits
-- has been read
abbrev pub list_part : Basis → List ℕ → Option ℕ → Piece Built ℕ
list_part basis numbers None = in_list basis numbers
list_part basis numbers (Some n) = in_entry basis numbers n

-- the part of the current factor that a builder has read, as the machine `LeftToRight` describes it, with the values of its numbers
abbrev pub part_in : Part → Piece Built ℕ
part_in Awaited = awaited
part_in (Number n) = in_number n
part_in (Slash n) = after_slash n
part_in (Denominator n k) = in_denominator n k
part_in (Letter basis) = after_letter (basis_of basis)
part_in (Listing basis numbers entry) = list_part (basis_of basis) numbers.items entry
part_in (Closed e) = closed (built_of e)

-- the open parentheses o, and inside them one open parenthesis for each frame (the text before a parenthesis); the last frame gives the innermost one
abbrev pub opened_from : Opened Built → List Frame → Opened Built
opened_from o [] = o
opened_from o (f ∷ fs) = opened_from (inside o (terms_in f.terms) (factors_in f.factors)) fs

abbrev pub opened_in : List Frame → Opened Built
opened_in fs = opened_from outermost fs

-- what a builder has read, as a state of the machine `LeftToRight`, which reads an expression symbol by symbol: the part of the current factor, the
-- text before the current term and before the current factor, and the open parentheses
abbrev pub state_of : Builder → State Built ℕ
state_of b =
    at (part_in b.part) (terms_in b.frame.terms) (factors_in b.frame.factors)
    (opened_in b.opened.items)

-- if the part ends with a number, this number has no error
abbrev pub IsSound : Piece Built ℕ → Type 0
IsSound (in_number n) = n < 2 ^ 127
IsSound (in_denominator n k) = (n < 2 ^ 127) × (k < 2 ^ 127)
IsSound (in_entry basis numbers n) = AreEntries (numbers ++ n ∷ [])
IsSound p = Unit {0}

-- the symbol, after the piece p, completes no error: the numbers that it ends are within their limits, and a digit is not below the byte 48 of `0`
abbrev pub IsFine : Piece Built ℕ → Symbol → Type 0
IsFine p (digit byte) = 48 ≤ byte
IsFine p s = IsSound p

-- the symbol can follow what the builder has read, and there is no error at it
abbrev pub CanRead : Builder → Symbol → Type 0
CanRead b s = IsTrue (is_live (step builds (state_of b) s)) × IsFine (part_in b.part) s

-- the mark is no error, and if it is a number of an atom, it is at most 20, the greatest degree
abbrev pub IsMild : ℕ × Mark → Type 0
IsMild m = (first_kind m.1 ≡ None) × (is_high m.1 ≡ false)

abbrev pub AreMild : List (ℕ × Mark) → Type 0
AreMild [] = Unit {0}
AreMild (m ∷ ms) = IsMild m × AreMild ms

-- the word is an expression, none of its marks is an error, and its atoms have no number over 20, the greatest degree
abbrev pub IsBuildable : List ℕ → Type 0
IsBuildable word = (phrase : Phrase) × SpellsPhrase word phrase × AreMild (marks 0 0 phrase)
