-- The label of a term of an answer, for example a partition or a permutation, is read back from its text if it is within the limits for its kind
-- (`IsLegible`).
use Rattle.std.proofs.Common.{◌≡◌, ℕ, ◌^◌, ◌<◌, ◌≤◌, Bool, true, false, ◌&&◌, List, [], ◌∷◌, leb, ltb, refl, ap, ◌∙◌, decimal, arith, rules}
use Rattle.std.specs.declared.cmp.Ordering.{Ordering}
use Rattle.std.proofs.lemmas.Bool.{leb-true, ltb-true, and_parts}
use Rattle.sym_model.specs.NumberText.{label_text, decimal_value, label_of}
use Rattle.sym_model.specs.LabelLimits.{is_label, is_pair_label, is_power_label, are_letters, is_permutation_label, is_monomial_label, is_shifted_label}
use Rattle.sym_model.specs.Kind.{Kind, number, expansion, product, pairs, powers, permutations, polynomial, shifts, LabelRules, after_one, list_text, list_of, pair_text, pair_of, power_text, power_of, list_rules, label_rules, IsLegible}
use Rattle.printing_laws.proofs.Decimals.{lacks-append, decimal-lacks, decimal_value-decimal}
use Rattle.printing_laws.proofs.NumberTexts.{cut_at-space, AreShort, are_short-from_size, label_of-text, label_text-lacks}
use Rattle.sym_model.specs.Bounded.{Lacks}

list_rules-legible : (order : List ℕ → List ℕ → Ordering) (limits : List ℕ → Bool) (has_fractions : Bool)
    → ((numbers : List ℕ) → limits numbers ≡ true → AreShort numbers) → IsLegible (list_rules order limits has_fractions)
list_rules-legible order limits has_fractions short = record {
  one_line = λ numbers h. ((λ e. omega arith), ((λ e. omega arith), label_text-lacks 10 numbers (omega arith) (short numbers h)));
  apart = λ numbers h. refl;
  reads = λ numbers h. label_of-text numbers (short numbers h);
}

-- ---- labels within the limits have only numbers below 10^64

pub is_label-short : (label : List ℕ) → is_label label ≡ true → AreShort label
is_label-short label h = search (rules, and_parts, leb-true, are_short-from_size)

is_monomial-short : (exponents : List ℕ) → is_monomial_label exponents ≡ true → AreShort exponents
is_monomial-short exponents h = search (rules, and_parts, leb-true, are_short-from_size)

are_letters-short : (n : ℕ) (w : List ℕ) → n ≤ 255 → are_letters n w ≡ true → AreShort w
are_letters-short n [] low h = tt
are_letters-short n (a ∷ w) low h =
    let p = and_parts (leb 1 a && leb a n) (are_letters n w) h in
    let below : a ≤ n = leb-true a n (and_parts (leb 1 a) (leb a n) p.0).1 in
    (omega arith, are_letters-short n w low p.1)

is_permutation-short : (w : List ℕ) → is_permutation_label w ≡ true → AreShort w
is_permutation-short w h = search (rules, and_parts, leb-true, are_letters-short)

-- the rules for labels that are pairs of lists of numbers, with the order `in_order` and the limits `in_limits`
abbrev pair_rules : (List ℕ × List ℕ → List ℕ × List ℕ → Ordering) → (List ℕ × List ℕ → Bool) → LabelRules (List ℕ × List ℕ)
pair_rules in_order in_limits = record {
  text = pair_text;
  spelled = pair_of;
  order = in_order;
  is_within_limits = in_limits;
  has_fractions = false;
}

pair_rules-legible : (order : List ℕ × List ℕ → List ℕ × List ℕ → Ordering) (limits : List ℕ × List ℕ → Bool)
    → ((pair : List ℕ × List ℕ) → limits pair ≡ true → AreShort pair.0 × AreShort pair.1) → IsLegible (pair_rules order limits)
pair_rules-legible order limits short = record { one_line = one_line; apart = λ pair h. refl; reads = reads }
  where
    one_line : (pair : List ℕ × List ℕ) → limits pair ≡ true → Lacks 10 (pair_text pair)
    one_line pair h =
        let p = short pair h in
        let first = label_text-lacks 10 pair.0 (omega arith) p.0 in
        let second = label_text-lacks 10 pair.1 (omega arith) p.1 in
        ((λ e. omega arith), ((λ e. omega arith), lacks-append 10 (label_text pair.0) _ first ((λ e. omega arith), second)))

    reads : (pair : List ℕ × List ℕ) → limits pair ≡ true → pair_of (pair_text pair) ≡ pair
    reads pair h =
        let p = short pair h in
        ap (λ (cut : List ℕ × List ℕ). (label_of cut.0, label_of (after_one cut.1)))
        (cut_at-space (label_text pair.0) (32 ∷ label_text pair.1) (label_text-lacks 32 pair.0 (omega arith) p.0) refl)
        ∙ (ap (λ label. (label, label_of (label_text pair.1))) (label_of-text pair.0 p.0)
        ∙ ap (λ label. (pair.0, label)) (label_of-text pair.1 p.1))

is_pair-short : (pair : List ℕ × List ℕ) → is_pair_label pair ≡ true → AreShort pair.0 × AreShort pair.1
is_pair-short pair h = let p = and_parts _ _ h in (is_label-short pair.0 p.0, is_label-short pair.1 p.1)

is_shifted-short : (label : List ℕ × List ℕ) → is_shifted_label label ≡ true → AreShort label.0 × AreShort label.1
is_shifted-short label h = let p = and_parts _ _ h in (is_permutation-short label.0 p.0, is_monomial-short label.1 p.1)

powers-legible : IsLegible (label_rules powers)
powers-legible = record { one_line = one_line; apart = λ label h. refl; reads = reads }
  where
    below : (power : ℕ) → ltb power (2 ^ 32) ≡ true → power < 10 ^ 64
    below power h = let low : power < 2 ^ 32 = ltb-true power (2 ^ 32) h in omega arith

    one_line : (label : ℕ × List ℕ) → is_power_label label ≡ true → Lacks 10 (power_text label)
    one_line label h =
        let p = and_parts _ _ h in
        let power = decimal-lacks 10 label.0 (omega arith) (below label.0 p.0) in
        let shape = label_text-lacks 10 label.1 (omega arith) (is_label-short label.1 p.1) in
        let rest : Lacks 10 (list_text label.1) = ((λ e. omega arith), ((λ e. omega arith), shape)) in
        ((λ e. omega arith), ((λ e. omega arith), ((λ e. omega arith), ((λ e. omega arith), lacks-append 10 (decimal label.0) _ power rest))))

    reads : (label : ℕ × List ℕ) → is_power_label label ≡ true → power_of (power_text label) ≡ label
    reads label h =
        let p = and_parts _ _ h in
        let low = below label.0 p.0 in
        ap (λ (cut : List ℕ × List ℕ). (decimal_value cut.0, list_of cut.1))
        (cut_at-space (decimal label.0) (list_text label.1) (decimal-lacks 32 label.0 (omega arith) low) refl)
        ∙ (ap (λ n. (n, list_of (list_text label.1))) (decimal_value-decimal label.0 low)
        ∙ ap (λ shape. (label.0, shape)) (label_of-text label.1 (is_label-short label.1 p.1)))

-- for every kind of answer, each label within the limits is read back from its text
pub legible : (kind : Kind) → IsLegible (label_rules kind)
legible number = record { one_line = λ label h. tt; apart = λ label h. tt; reads = λ label h. refl }
legible expansion = list_rules-legible _ _ _ is_label-short
legible product = list_rules-legible _ _ _ is_label-short
legible pairs = pair_rules-legible _ _ is_pair-short
legible powers = powers-legible
legible permutations = list_rules-legible _ _ _ is_permutation-short
legible polynomial = list_rules-legible _ _ _ is_monomial-short
legible shifts = pair_rules-legible _ _ is_shifted-short
