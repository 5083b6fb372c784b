-- The grammar of commands: a table with an entry for each command, which gives its name, the parts of its words, the
-- command that words of these parts spell, and their errors if these are not only those of single parts. In the
-- comments, NUM is a number, BASIS the letter of a basis, EXPR an expression, PART a partition, PERM a permutation,
-- TABLEAU a tableau, ROWS the option `-r NUM`, FORM the option `-m`, and FROM the option `-from TABLEAU`
-- (specs/WordForms). The signs ?, * and + mean: at most once, any number of times, at least once.
use Rattle.std.specs.Prelude.{ℕ, ◌+◌, cond, List, [], ◌∷◌, ◌++◌, map, length, codes, Option, Some}
use Rattle.std.specs.Prelude.{None}
use Rattle.std.proofs.Common.{inl, inr}
use Rattle.sym_model.specs.Partition.{size}
use Rattle.sym_model.specs.Schur.{row_lengths}
use Rattle.sym_model.specs.GoodTableau.{column_reading}
use Rattle.sym_model.specs.Expansion.{Basis, monomials, elementaries, completes, power_sums, schurs}
use Rattle.sym_model.specs.PrintedBlock.{decimal_value}
use Rattle.sym_model.specs.Phrase.{tree}
use Rattle.sym_model.specs.Permutation.{kept}
use Rattle.sym_model.specs.ExpressionOffence.{shape}
use Rattle.sym_model.specs.Form.{Form, empty, word, sequence, number, target, formula, Written}
use Rattle.sym_model.specs.Form.{words_of}
use Rattle.sym_model.specs.Command.{Command, mult, skew, coef, coprod, tab, quantum, fusion}
use Rattle.sym_model.specs.Command.{schubert, schubmult, expand, rsk, unrsk, rect, growth, plethysm}
use Rattle.sym_model.specs.Command.{dschubmult, stanley, batch, work}
use Rattle.sym_model.specs.CommandOffence.{Offence, Rule, judged_against, offences_by, rows_rule}
use Rattle.sym_model.specs.CommandOffence.{lines_rule, seed_rule, letter_rule, entry_rule}
use Rattle.sym_model.specs.CommandOffence.{inside_rule, part_offences, factor_offences}
use Rattle.sym_model.specs.CommandOffence.{most_doubled, permutation_offences}
use Rattle.sym_model.specs.CommandOffence.{permutation_offences_within, PlacedRow, row_offences}
use Rattle.sym_model.specs.CommandOffence.{count_offences, order_offences, length_offences}
use Rattle.sym_model.specs.CommandOffence.{empty_row_offences, standard_offences, rows_in}
use Rattle.sym_model.specs.CommandOffence.{expression_offences}
use Rattle.sym_model.specs.TableauList.{is_lattice_tableau}
use Rattle.sym_model.specs.CommandOffence.{plethysm_offences}
use Rattle.sym_model.specs.WordForms.{the, optional, partition_words, permutation_words}
use Rattle.sym_model.specs.WordForms.{rows_words, form_words, factors_words, tableau_words}
use Rattle.sym_model.specs.WordForms.{from_words, numbers, partition, factors, factor_numbers}
use Rattle.sym_model.specs.WordForms.{is_one_line, letters, row_limit, row_limit_offences}
use Rattle.sym_model.specs.WordForms.{placed_rows, tableau_rows, shape_offences}
use Rattle.sym_model.specs.Entry.{Entry}

-- all five bases: m, e, h, p and s
abbrev pub all_bases : List Basis
all_bases = monomials ∷ elementaries ∷ completes ∷ power_sums ∷ schurs ∷ []

-- a part of the words of a command: the form of its words, and their errors if the first of them is word k
pub record Part : Type 0 where
  pub form : Form
  pub offends : ℕ → Written form → List Offence

-- ---- the parts

-- words of this form, which have no error by themselves
abbrev pub plain : Form → Part
plain form = record { form = form; offends = λ k x. [] }

-- the word `-`
abbrev pub minus : Part
minus = plain (the (codes "-"))

-- the word `/`
abbrev pub slash : Part
slash = plain (the (codes "/"))

-- FORM?, the option that asks for an answer on one line, or no word
abbrev pub maybe_form : Part
maybe_form = plain (optional form_words)

-- ROWS, the option with a number of rows
abbrev pub rows : Part
rows = record {
  form = rows_words;
  offends = λ k x. offences_by rows_rule (k + 1) (decimal_value x.1 ∷ []);
}

-- ROWS?, the option with a number of rows, or no word
abbrev pub maybe_rows : Part
maybe_rows = record { form = optional rows_words; offends = row_limit_offences }

-- NUM, a number with the errors that the rule finds in it
abbrev pub number_by : Rule → Part
number_by rule =
    record { form = word number; offends = λ k x. offences_by rule k (decimal_value x ∷ []) }

-- PART, the numbers of a partition
abbrev pub one_partition : Part
one_partition =
    record { form = partition_words; offends = λ k x. part_offences k (numbers x) }

-- PART ('-' PART)+, the factors of a product
abbrev pub factor_list : Part
factor_list =
    record { form = factors_words; offends = λ k x. factor_offences 0 k (factor_numbers x) }

-- NUM*, the letters of a word
abbrev pub letter_list : Part
letter_list =
    record { form = partition_words; offends = λ k x. offences_by letter_rule k (numbers x) }

-- PERM, the letters of a permutation
abbrev pub one_permutation : Part
one_permutation =
    record { form = permutation_words; offends = λ k x. permutation_offences k (letters x) }

-- PERM, the letters of a permutation in a product of double Schubert polynomials
abbrev pub short_permutation : Part
short_permutation = record {
  form = permutation_words;
  offends = λ k x. permutation_offences_within most_doubled k (letters x);
}

-- TABLEAU, the rows of a tableau; their errors are those of the command
abbrev pub one_tableau : Part
one_tableau = plain tableau_words

-- FROM?, the option with a tableau, or no word; the errors of the tableau are those of the command
abbrev pub maybe_from : Part
maybe_from = plain (optional from_words)

-- BASIS, the letter of a basis
abbrev pub one_basis : Part
one_basis = plain (word (target all_bases))

-- EXPR, an expression; its errors are those of the command
abbrev pub one_expression : Part
one_expression = plain (word formula)

-- the form of the words of these parts, one part after another
abbrev pub form_of : List Part → Form
form_of [] = empty
form_of (p ∷ []) = p.form
form_of (p ∷ q ∷ ps) = sequence p.form (form_of (q ∷ ps))

-- the errors of these parts, if the first part begins at word k
abbrev pub offends_of : (ps : List Part) → ℕ → Written (form_of ps) → List Offence
offends_of [] k x = []
offends_of (p ∷ []) k x = p.offends k x
offends_of (p ∷ q ∷ ps) k x =
    p.offends k x.0 ++ offends_of (q ∷ ps) (k + length (words_of p.form x.0)) x.1

-- the entry of a command with the given name, at least one part, and the errors that `offends` finds in the values of
-- the parts; `says` gives the command that these values spell
abbrev pub entry_by : List ℕ → (ps : List Part) → (Written (form_of ps) → Command)
    → (Written (form_of ps) → List Offence) → Entry
entry_by name ps says offends = record {
  name = name;
  form = sequence (the name) (form_of ps);
  says = λ x. says x.1;
  offends = λ x. offends x.1;
}

-- the entry of a command with the given name and at least one part, whose errors are those of its parts
abbrev pub entry : List ℕ → (ps : List Part) → (Written (form_of ps) → Command) → Entry
entry name ps says = entry_by name ps says (offends_of ps 1)

-- ---- the commands

-- 'mult' ROWS? FORM? PART ('-' PART)+
abbrev pub mult_entry : Entry
mult_entry = entry (codes "mult") (maybe_rows ∷ maybe_form ∷ factor_list ∷ [])
    (λ (limit, (form, list)). mult (row_limit limit) (is_one_line form) (factors list))

-- 'skew' ROWS? FORM? PART '/' PART
abbrev pub skew_entry : Entry
skew_entry =
    entry (codes "skew") (maybe_rows ∷ maybe_form ∷ one_partition ∷ slash ∷ one_partition ∷ [])
    (λ (limit, (form, (outer, (_, inner)))).
    skew (row_limit limit) (is_one_line form) (partition outer) (partition inner))

-- 'coef' PART '-' PART '-' PART
abbrev pub coef_entry : Entry
coef_entry =
    entry (codes "coef")
    (one_partition ∷ minus ∷ one_partition ∷ minus ∷ one_partition ∷ [])
    (λ (outer, (_, (left, (_, right)))). coef (partition outer) (partition left) (partition right))

-- 'coprod' PART
abbrev pub coprod_entry : Entry
coprod_entry = entry (codes "coprod") (one_partition ∷ []) (λ list. coprod (partition list))

-- the errors of two partitions that are typed with one word between them; the first partition begins at word k
abbrev pub two_partitions : ℕ → List (List ℕ) → List (List ℕ) → List Offence
two_partitions k left right =
    part_offences k (numbers left) ++ part_offences (k + length left + 1) (numbers right)

-- the column reading of the tableau of outer/inner that is typed after `-from`; None without `-from`
abbrev pub last_reading : List ℕ → List ℕ → Written (optional from_words) → Option (List ℕ)
last_reading outer inner (inl nothing) = None
last_reading outer inner (inr (name, tableau)) =
    Some (column_reading outer inner (rows_in outer (tableau_rows tableau)))

-- a shape error at word k, which is `-from`, if the tableau after it is not a lattice tableau of outer/inner
abbrev pub not_listed : ℕ → List ℕ → List ℕ → Written (optional from_words) → List Offence
not_listed k outer inner (inl nothing) = []
not_listed k outer inner (inr (name, tableau)) =
    cond (is_lattice_tableau outer inner (rows_in outer (tableau_rows tableau))) []
    ((k, 0, shape) ∷ [])

-- the errors of the entries of the tableau that is typed after `-from`, if `-from` is word k
abbrev pub from_entries : ℕ → Written (optional from_words) → List Offence
from_entries k (inl nothing) = []
from_entries k (inr (name, tableau)) = row_offences entry_rule (placed_rows (k + 1) tableau)

-- the parts of the words of `tab`
abbrev pub tab_parts : List Part
tab_parts = one_partition ∷ slash ∷ one_partition ∷ maybe_from ∷ []

-- the errors of words of `tab`
abbrev pub tab_offends : Written (form_of tab_parts) → List Offence
tab_offends (outer, (_, (inner, after))) =
    let lists = two_partitions 1 outer inner in
    let k = 2 + length outer + length inner in
    lists ++ judged_against lists (not_listed k (partition outer) (partition inner) after)
    ++ from_entries k after

-- 'tab' PART '/' PART FROM?
abbrev pub tab_entry : Entry
tab_entry = entry_by (codes "tab") tab_parts
    (λ (outer, (_, (inner, after))).
    tab (partition outer) (partition inner) (last_reading (partition outer) (partition inner) after))
    tab_offends

-- 'quantum' NUM NUM PART ('-' PART)+
abbrev pub quantum_entry : Entry
quantum_entry =
    entry (codes "quantum") (number_by rows_rule ∷ number_by rows_rule ∷ factor_list ∷ [])
    (λ (rows, (columns, list)). quantum (decimal_value rows) (decimal_value columns) (factors list))

-- 'fusion' NUM NUM PART ('-' PART)+
abbrev pub fusion_entry : Entry
fusion_entry =
    entry (codes "fusion") (number_by rows_rule ∷ number_by rows_rule ∷ factor_list ∷ [])
    (λ (rows, (level, list)). fusion (decimal_value rows) (decimal_value level) (factors list))

-- 'schubert' PERM
abbrev pub schubert_entry : Entry
schubert_entry = entry (codes "schubert") (one_permutation ∷ []) (λ w. schubert (kept (letters w)))

-- 'schubmult' PERM '-' PERM
abbrev pub schubmult_entry : Entry
schubmult_entry = entry (codes "schubmult") (one_permutation ∷ minus ∷ one_permutation ∷ [])
    (λ (left, (_, right)). schubmult (kept (letters left)) (kept (letters right)))

-- the parts of the words of `expand`
abbrev pub expand_parts : List Part
expand_parts = maybe_form ∷ one_basis ∷ one_expression ∷ []

-- the errors of words of `expand`
abbrev pub expand_offends : Written (form_of expand_parts) → List Offence
expand_offends (form, (basis, phrase)) =
    expression_offences (2 + length (words_of (optional form_words) form)) basis phrase

-- 'expand' FORM? BASIS EXPR
abbrev pub expand_entry : Entry
expand_entry = entry_by (codes "expand") expand_parts
    (λ (form, (basis, phrase)). expand basis (is_one_line form) (tree phrase)) expand_offends

-- 'rsk' NUM*
abbrev pub rsk_entry : Entry
rsk_entry = entry (codes "rsk") (letter_list ∷ []) (λ list. rsk (numbers list))

-- the errors of the numbers of a tableau: those of each number by itself, and a range error at the 257th number
abbrev pub filled_offences : List PlacedRow → List Offence
filled_offences rows = row_offences entry_rule rows ++ count_offences 0 rows

-- the errors of the rows of the first tableau of `unrsk`: errors of its numbers, rows that are longer than the row
-- above, empty rows, and numbers that violate the order of a semistandard tableau
abbrev pub insertion_offences : List PlacedRow → List Offence
insertion_offences [] = []
insertion_offences (row ∷ rows) =
    filled_offences (row ∷ rows)
    ++ length_offences row.1 rows
    ++ empty_row_offences (row ∷ rows)
    ++ order_offences 0 [] [] (row ∷ rows)

-- the parts of the words of `unrsk`
abbrev pub unrsk_parts : List Part
unrsk_parts = one_tableau ∷ minus ∷ one_tableau ∷ []

-- the errors of words of `unrsk`
abbrev pub unrsk_offends : Written (form_of unrsk_parts) → List Offence
unrsk_offends (first, (_, second)) =
    let lengths = map length (rows_in [] (tableau_rows first)) in
    let k = 2 + length (words_of tableau_words first) in
    let earlier = insertion_offences (placed_rows 1 first) in
    let recording = placed_rows k second in
    earlier
    ++ filled_offences recording
    ++ judged_against
    earlier
    (shape_offences k lengths (words_of tableau_words second)
    ++ standard_offences (size lengths) [] [] recording)

-- 'unrsk' TABLEAU '-' TABLEAU
abbrev pub unrsk_entry : Entry
unrsk_entry = entry_by (codes "unrsk") unrsk_parts
    (λ (first, (_, second)).
    unrsk (rows_in [] (tableau_rows first)) (rows_in [] (tableau_rows second)))
    unrsk_offends

-- the errors of an inner partition that begins at word k. It is compared with the outer partition only if `earlier`,
-- the list of the errors of the outer partition, is empty.
abbrev pub inner_offences : ℕ → List Offence → List ℕ → List ℕ → List Offence
inner_offences k earlier outer inner =
    part_offences k inner ++ judged_against earlier (offences_by (inside_rule outer) k inner)

-- the parts of the words of `rect`
abbrev pub rect_parts : List Part
rect_parts = one_partition ∷ slash ∷ one_partition ∷ minus ∷ one_tableau ∷ []

-- the errors of words of `rect`
abbrev pub rect_offends : Written (form_of rect_parts) → List Offence
rect_offends (outer, (_, (inner, (_, tableau)))) =
    let outer_found = part_offences 1 (numbers outer) in
    let inner_found =
    inner_offences (2 + length outer) outer_found (numbers outer) (numbers inner) in
    let k = 3 + length outer + length inner in
    let rows = placed_rows k tableau in
    outer_found
    ++ inner_found
    ++ row_offences entry_rule rows
    ++ judged_against
    (outer_found ++ inner_found)
    (shape_offences k (row_lengths (partition outer) (partition inner))
    (words_of tableau_words tableau)
    ++ order_offences 0 [] (numbers inner) rows)

-- 'rect' PART '/' PART '-' TABLEAU
abbrev pub rect_entry : Entry
rect_entry = entry_by (codes "rect") rect_parts
    (λ (outer, (_, (inner, (_, tableau)))).
    rect (partition outer) (partition inner) (rows_in (partition outer) (tableau_rows tableau)))
    rect_offends

-- 'growth' PERM
abbrev pub growth_entry : Entry
growth_entry = entry (codes "growth") (one_permutation ∷ []) (λ w. growth (kept (letters w)))

-- 'plethysm' BASIS EXPR EXPR
abbrev pub plethysm_entry : Entry
plethysm_entry = entry_by (codes "plethysm") (one_basis ∷ one_expression ∷ one_expression ∷ [])
    (λ (basis, (outer, inner)). plethysm basis (tree outer) (tree inner))
    (λ (basis, (outer, inner)). plethysm_offences 2 outer inner)

-- 'dschubmult' PERM '-' PERM
abbrev pub dschubmult_entry : Entry
dschubmult_entry = entry (codes "dschubmult") (short_permutation ∷ minus ∷ short_permutation ∷ [])
    (λ (left, (_, right)). dschubmult (kept (letters left)) (kept (letters right)))

-- 'stanley' ROWS PERM
abbrev pub stanley_entry : Entry
stanley_entry = entry (codes "stanley") (rows ∷ one_permutation ∷ [])
    (λ (limit, w). stanley (decimal_value limit.1) (kept (letters w)))

-- the entry of the command `batch`, whose form is the single word `batch`
abbrev pub batch_entry : Entry
batch_entry = record {
  name = codes "batch";
  form = the (codes "batch");
  says = λ x. batch;
  offends = λ x. [];
}

-- 'work' NUM NUM
abbrev pub work_entry : Entry
work_entry = entry (codes "work") (number_by lines_rule ∷ number_by seed_rule ∷ [])
    (λ (lines, seed). work (decimal_value lines) (decimal_value seed))

-- the entries of the commands that a line of a batch may be
abbrev pub line_entries : List Entry
line_entries =
    mult_entry ∷ skew_entry ∷ coef_entry ∷ coprod_entry ∷ tab_entry ∷ quantum_entry ∷ fusion_entry
    ∷ schubert_entry
    ∷ schubmult_entry ∷ expand_entry ∷ rsk_entry ∷ unrsk_entry ∷ rect_entry ∷ growth_entry
    ∷ plethysm_entry
    ∷ dschubmult_entry ∷ stanley_entry ∷ []

-- the entries of all commands
abbrev pub all_entries : List Entry
all_entries = line_entries ++ (batch_entry ∷ work_entry ∷ [])
