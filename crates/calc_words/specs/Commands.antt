-- A command of the program (`Command`) corresponds to a command of the definitions (`PlainCommand`), in which partitions and permutations are lists
-- of numbers. The limits of a command whose words have no error.
use Rattle.std.specs.Prelude.{◌≡◌, ◌<◌, ◌≤◌, ◌*◌}
use Rattle.sym_model.specs.Command.{Command as PlainCommand, mult, skew, coef, coprod, quantum}
use Rattle.sym_model.specs.Command.{fusion, expand, schubert, schubmult, tab, rsk, unrsk, rect}
use Rattle.sym_model.specs.Command.{growth, plethysm, dschubmult, stanley, batch, work}
use Rattle.sym_model.specs.CommandOffence.{most_doubled, most_lines, greatest_seed}
use Rattle.sym_model.specs.Expression.{degree, denominator}
use Rattle.sym_model.specs.ExpressionOffence.{degree_limit, plethysm_degree_limit}
use Rattle.plethysm_laws.specs.PositiveExpression.{HasNoSigns}
use Rattle.expression_reading.specs.Trees.{basis_of, tree_of}
use Rattle.calc_words.specs.Pairs.{IsPair}
use Rattle.calc_words.specs.WrittenLimits.{IsWritten, AreWrittenFactors, IsRowNumber, IsRowLimit}
use Rattle.calc_words.specs.WrittenLimits.{IsInList, IsWrittenWord, IsPermutationWithin}
use Rattle.calc_words.specs.WrittenLimits.{IsWrittenPermutation}
use Rattle.calc_words.specs.declared.command.Command.{Command}
use Rattle.calc_words.specs.declared.command.Command.TheVariants.{Mult, Skew, Coef, Coprod}
use Rattle.calc_words.specs.declared.command.Command.TheVariants.{Quantum, Fusion, Expand}
use Rattle.calc_words.specs.declared.command.Command.TheVariants.{Schubert, Schubmult, Tab, Rsk}
use Rattle.calc_words.specs.declared.command.Command.TheVariants.{Unrsk, Rect, Growth, Plethysm}
use Rattle.calc_words.specs.declared.command.Command.TheVariants.{Dschubmult, Stanley, Batch}
use Rattle.calc_words.specs.declared.command.Command.TheVariants.{Work}

-- the command of the definitions that corresponds to a command of the program
abbrev pub command_of : Command → PlainCommand
command_of (Mult rows one_line factors) = mult rows one_line factors
command_of (Skew rows one_line outer inner) = skew rows one_line outer inner
command_of (Coef outer left right) = coef outer left right
command_of (Coprod shape) = coprod shape
command_of (Tab outer inner after) = tab outer inner after
command_of (Quantum rows cols factors) = quantum rows cols factors
command_of (Fusion rows level factors) = fusion rows level factors
command_of (Schubert perm) = schubert perm
command_of (Schubmult left right) = schubmult left right
command_of (Expand target one_line formula) =
    expand (basis_of target) one_line (tree_of formula.tree)
command_of (Rsk letters) = rsk letters
command_of (Unrsk p q) = unrsk p.rows q.rows
command_of (Rect tableau) = rect tableau.outer tableau.inner tableau.rows
command_of (Growth perm) = growth perm
command_of (Plethysm target outer inner) =
    plethysm (basis_of target) (tree_of outer.tree) (tree_of inner.tree)
command_of (Dschubmult left right) = dschubmult left right
command_of (Stanley rows perm) = stanley rows perm
command_of Batch = batch
command_of (Work lines seed) = work lines seed

-- the command is sound: the tableaux p and q of `unrsk` are a pair (`IsPair`); there is no condition on other commands
abbrev pub IsSound : Command → Type 0
IsSound (Unrsk p q) = IsPair p q
IsSound _ = Unit {0}

-- `command` corresponds to the command `plain` of the definitions, and is sound (`IsSound`)
abbrev pub StandsFor : PlainCommand → Command → Type 0
StandsFor plain command = (command_of command ≡ plain) × IsSound command

-- the values of the command are within the limits for commands that are given by words, and no fraction has the denominator 0
abbrev pub KeepsLimits : PlainCommand → Type 0
KeepsLimits (mult limit one_line factors) = IsRowLimit limit × AreWrittenFactors factors
KeepsLimits (skew limit one_line outer inner) = IsRowLimit limit × IsWritten outer × IsWritten inner
KeepsLimits (coef outer left right) = IsWritten outer × IsWritten left × IsWritten right
KeepsLimits (coprod shape) = IsWritten shape
KeepsLimits (tab outer inner after) = IsWritten outer × IsWritten inner × IsInList outer inner after
KeepsLimits (quantum limit columns factors) =
    IsRowNumber limit × IsRowNumber columns × AreWrittenFactors factors
KeepsLimits (fusion limit level factors) =
    IsRowNumber limit × IsRowNumber level × AreWrittenFactors factors
KeepsLimits (schubert w) = IsWrittenPermutation w
KeepsLimits (schubmult left right) = IsWrittenPermutation left × IsWrittenPermutation right
KeepsLimits (expand target one_line e) = (degree e ≤ degree_limit target) × (0 < denominator e)
KeepsLimits (rsk word) = IsWrittenWord word
KeepsLimits (growth w) = IsWrittenPermutation w
KeepsLimits (plethysm target outer inner) =
    (degree outer ≤ plethysm_degree_limit) × (degree inner ≤ plethysm_degree_limit)
    × (degree outer * degree inner ≤ plethysm_degree_limit) × HasNoSigns inner
    × (0 < denominator outer)
KeepsLimits (dschubmult left right) =
    IsPermutationWithin most_doubled left × IsPermutationWithin most_doubled right
KeepsLimits (stanley variables w) = IsRowNumber variables × IsWrittenPermutation w
KeepsLimits (work lines seed) = (1 ≤ lines) × (lines ≤ most_lines) × (seed ≤ greatest_seed)
KeepsLimits _ = Unit {0}
