-- The kinds of answers, which are lists of terms, and for each kind the rules by which the labels of its terms are
-- printed and read.
use Rattle.std.specs.Prelude.{◌≡◌, ℕ, Bool, true, false, List, [], ◌∷◌, ◌++◌, codes, decimal}
use Rattle.std.specs.declared.cmp.Ordering.{Ordering}
use Rattle.std.specs.declared.cmp.Ordering.TheVariants.{Equal}
use Rattle.sym_model.specs.NumberText.{label_text, cut_at, decimal_value, label_of}
use Rattle.sym_model.specs.LabelLimits.{is_label, is_pair_label, is_power_label}
use Rattle.sym_model.specs.LabelLimits.{is_permutation_label, is_monomial_label, is_shifted_label}
use Rattle.sym_model.specs.PrintedOrder.{printed_order, pair_order, power_order, permutation_order}
use Rattle.sym_model.specs.PrintedOrder.{shifted_order}
use Rattle.sym_model.specs.Bounded.{Lacks}

-- The rules for the labels of the terms of an answer, which is printed with one term on each line: the text of a label,
-- which follows the coefficient on the line; the label that such a text spells; the order of the lines; the limits of
-- the labels; and whether a coefficient may be a fraction.
pub record LabelRules (Label : Type 0) : Type 0 where
  pub text : Label → List ℕ
  pub spelled : List ℕ → Label
  pub order : Label → Label → Ordering
  pub is_within_limits : Label → Bool
  pub has_fractions : Bool

-- the kinds of answers, by the labels of their terms: one number (`number`); partitions, with fractions (`expansion`)
-- or whole numbers (`product`) as coefficients; pairs of partitions; partitions with a power of q (`powers`);
-- permutations; monomials (`polynomial`); permutations with a monomial in y as a factor (`shifts`)
pub data Kind : Type 0 where
  number : Kind
  expansion : Kind
  product : Kind
  pairs : Kind
  powers : Kind
  permutations : Kind
  polynomial : Kind
  shifts : Kind

-- the type of the labels of a kind; a number is printed as one term without a label
abbrev pub Label : Kind → Type 0
Label number = Unit {0}
Label expansion = List ℕ
Label product = List ℕ
Label pairs = List ℕ × List ℕ
Label powers = ℕ × List ℕ
Label permutations = List ℕ
Label polynomial = List ℕ
Label shifts = List ℕ × List ℕ

-- the text without its first two bytes; empty if it has fewer than two bytes
abbrev pub after_two : List ℕ → List ℕ
after_two (first ∷ second ∷ text) = text
after_two _ = []

-- the text without its first byte
abbrev pub after_one : List ℕ → List ℕ
after_one [] = []
after_one (first ∷ text) = text

-- the text of a label that is a list of numbers: two spaces and the list. In the line `2  (2,1)` of a term, this text
-- follows the coefficient 2.
abbrev pub list_text : List ℕ → List ℕ
list_text numbers = codes "  " ++ label_text numbers

-- the list of numbers that a text spells after its first two bytes, as (2,1) in `  (2,1)`
abbrev pub list_of : List ℕ → List ℕ
list_of text = label_of (after_two text)

-- the text of a label that is a pair of lists: two spaces, the first list, a space and the second list. In the line
-- `1  (2) (1)` of a term, this text follows the coefficient 1.
abbrev pub pair_text : List ℕ × List ℕ → List ℕ
pair_text pair = codes "  " ++ (label_text pair.0 ++ (codes " " ++ label_text pair.1))

-- the pair of lists that a text spells after its first two bytes; the lists are separated by the first space (the
-- byte 32) after these bytes
abbrev pub pair_of : List ℕ → List ℕ × List ℕ
pair_of text =
    let cut = cut_at 32 (after_two text) in
    (label_of cut.0, label_of (after_one cut.1))

-- the text of a label that is a power of q with a partition: two spaces, `q^` and the power, two spaces and the
-- partition. In the line `1  q^1  (2,1)` of a term, this text follows the coefficient 1.
abbrev pub power_text : ℕ × List ℕ → List ℕ
power_text label = codes "  q^" ++ (decimal label.0 ++ list_text label.1)

-- the power of q and the partition that a text spells: the number after two spaces and `q^`, and the list after the
-- next two spaces, as 1 and (2,1) in `  q^1  (2,1)`
abbrev pub power_of : List ℕ → ℕ × List ℕ
power_of text =
    let cut = cut_at 32 (after_two (after_two text)) in
    (decimal_value cut.0, list_of cut.1)

-- the rules for labels that are lists of numbers, with the given order and limits, and with coefficients that may be
-- fractions if `with_fractions` is true
abbrev pub list_rules : (List ℕ → List ℕ → Ordering) → (List ℕ → Bool) → Bool → LabelRules (List ℕ)
list_rules in_order in_limits with_fractions = record {
  text = list_text;
  spelled = list_of;
  order = in_order;
  is_within_limits = in_limits;
  has_fractions = with_fractions;
}

-- the rules for the labels of each kind of answers
abbrev pub label_rules : (kind : Kind) → LabelRules (Label kind)
label_rules number = record {
  text = λ label. [];
  spelled = λ text. tt;
  order = λ first second. Equal;
  is_within_limits = λ label. true;
  has_fractions = false;
}
label_rules expansion = list_rules printed_order is_label true
label_rules product = list_rules printed_order is_label false
label_rules pairs = record {
  text = pair_text;
  spelled = pair_of;
  order = pair_order;
  is_within_limits = is_pair_label;
  has_fractions = false;
}
label_rules powers = record {
  text = power_text;
  spelled = power_of;
  order = power_order;
  is_within_limits = is_power_label;
  has_fractions = false;
}
label_rules permutations = list_rules permutation_order is_permutation_label false
label_rules polynomial = list_rules printed_order is_monomial_label false
label_rules shifts = record {
  text = pair_text;
  spelled = pair_of;
  order = shifted_order;
  is_within_limits = is_shifted_label;
  has_fractions = false;
}

-- the text is empty or begins with a space (the byte 32)
abbrev pub BeginsWithSpace : List ℕ → Type 0
BeginsWithSpace [] = Unit {0}
BeginsWithSpace (byte ∷ text) = byte ≡ 32

-- The text of each label within the limits can be read back: it has no LF (the byte 10); it is empty or begins with a
-- space, which ends the coefficient in front of it; and it spells the label.
pub record IsLegible {Label : Type 0} (rules : LabelRules Label) : Type 0 where
  pub one_line : (label : Label) → rules.is_within_limits label ≡ true → Lacks 10 (rules.text label)
  pub apart : (label : Label) → rules.is_within_limits label ≡ true
      → BeginsWithSpace (rules.text label)
  pub reads : (label : Label) → rules.is_within_limits label ≡ true
      → rules.spelled (rules.text label) ≡ label
