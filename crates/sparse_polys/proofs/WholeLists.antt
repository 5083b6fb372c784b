-- Tables with partitions as labels: look-ups and sums over the terms. A *table* is a list of terms in which each label occurs once, with a
-- coefficient that is not 0.
--     Same-from_look_ups         the results of the look-ups in a table with integer coefficients determine it as a polynomial
--     coefficient-no_label       a list of numbers that is not a label has the coefficient 0
--     label-partition            each label is a partition
--     Once-labels, Once-keys     no label occurs twice
use Rattle.std.proofs.Common.{◌≡◌, ℕ, false, cond, List, [], ◌∷◌, ◌++◌, map, sym, ◌∙◌, ap, refl, inl, inr, ℤ, pos, ◌+ℤ◌, arith, rules}
use Rattle.std.specs.Prelude.{nat_abs, Option, FitsSigned, Result, Ok, Err, IfOk}
use Rattle.std.specs.Int.{w128}
use Rattle.std.specs.Cmp.Lexicographic.{nat_list_eq_equiv}
use Rattle.std.specs.List.{IsDistinct, AllByRecursion}
use Rattle.std.specs.Map.{keys_of}
use Rattle.std.specs.Option.{unwrap_or}
use Rattle.std.proofs.lemmas.Bool.{and_parts, both_ways}
use Rattle.std.proofs.lemmas.Map.Keys.{IsDistinct-head, IsDistinct-tail}
use Rattle.fraction_laws.specs.Fractions.{whole}
use Rattle.fraction_laws.specs.Checked.{checked_i128}
use Rattle.fraction_laws.proofs.Whole.{sum_answers_i128}
use Rattle.sym_model.specs.Sum.{Among, Once}
use Rattle.sym_model.specs.Partition.{IsPartition}
use Rattle.sym_model.specs.Polynomial.{Same, same, coefficient as coefficient_of}
use Rattle.sym_model.specs.Expansion.{Fraction, Terms}
use Rattle.sym_model.specs.Canonical.{is_reduced}
use Rattle.sym_model.specs.LabelLimits.{is_label}
use Rattle.sym_model.specs.WholeTerms.{WholeTerms, labels}
use Rattle.sym_model.proofs.Orders.{is_label-tells, is_reduced-tells}
use Rattle.sym_model.proofs.Polynomials.{coefficient_plus, pair_determined}
use Rattle.sym_model.proofs.Sums.{total_none}
use Rattle.sym_model.proofs.Exponents.{same_from, same_apart, same_or_not}
use Rattle.linear_combinations.specs.Entries.{coefficient, HasMoreAt, IsRefused}
use Rattle.linear_combinations.specs.Gains.{HaveLabels, over}
use Rattle.linear_combinations.proofs.Labels.{same_partition}
use Rattle.linear_combinations.proofs.Found.{coefficient_found}
use Rattle.linear_combinations.proofs.Gains.{gains_labels}
use Rattle.linear_combinations.proofs.Steps.{fits-zero_left}
use Rattle.linear_combinations.proofs.Totals.{found-among as look_up-among, term-among}
use Rattle.sparse_polys.specs.Tables.{equal, found, IsFractionTable, IsWholeTable}
use lib.IntN.{+ℤ_idl, +ℤ_idr}
use Rattle.linear_combinations.proofs.LabelTests.{equal_from, equal_apart}

-- ---- the labels of a table, each of which occurs once

all-apart : (x : List ℕ) (ks : List (List ℕ)) → AllByRecursion (λ y. equal x y ≡ false) ks → Among x ks → ⊥
all-apart x [] h m = m
all-apart x (k ∷ ks) h (inl e) = both_ways (equal x k) h.0 (equal_from x k e)
all-apart x (k ∷ ks) h (inr m) = all-apart x ks h.1 m

Once-distinct : (ks : List (List ℕ)) → IsDistinct equal ks → Once ks
Once-distinct [] d = tt
Once-distinct (k ∷ ks) d = (all-apart k ks (IsDistinct-head equal k ks d), Once-distinct ks (IsDistinct-tail equal k ks d))

pub Once-keys : (terms : Terms (List ℕ)) → IsFractionTable terms → Once (map (λ (t : List ℕ × Fraction). t.0) terms)
Once-keys terms is = Once-distinct (keys_of terms) is.distinct

pub Once-labels : (terms : WholeTerms) → IsWholeTable terms → Once (labels terms)
Once-labels terms is = Once-distinct (keys_of terms) is.distinct

pub label-partition : (terms : WholeTerms) → IsWholeTable terms → (t : List ℕ × ℤ) → Among t terms → IsPartition t.0
label-partition terms is t m = (is_label-tells t.0 (and_parts _ (is_label t.0) (term-among is_label whole terms is.proper t m)).1).partition

pub coefficient-no_label : (terms : WholeTerms) → IsWholeTable terms → (label : List ℕ) → is_label label ≡ false → coefficient_of terms label ≡ pos 0
coefficient-no_label terms is label none =
    total_none (λ (t : List ℕ × ℤ). cond (same t.0 label) t.1 (pos 0)) terms
    (λ t m. ap (λ b. cond b t.1 (pos 0))
    (same_apart t.0 label
    (λ e. both_ways (is_label label) none (sym (ap is_label e) ∙ (and_parts _ (is_label t.0) (term-among is_label whole terms is.proper t m)).1))))

-- ---- tables that are built term by term

-- for each label, looking it up in the table gives its coefficient in the list W
abbrev pub Finds : WholeTerms → WholeTerms → Type 0
Finds terms W = (label : List ℕ) → coefficient equal (pos 0) terms label ≡ coefficient_of W label

pub Same-from_look_ups : (terms W : WholeTerms) → IsWholeTable terms → Finds terms W → Same terms W
Same-from_look_ups terms W is h label = coefficient_found terms is.distinct label ∙ h label

-- if each look-up in the table `old` gives the coefficient in W, and `new` is `old` with c added at the label, each look-up in `new` gives the
-- coefficient in W with the term (label, c) appended
pub Finds-next : (old new W : WholeTerms) (label : List ℕ) (c : ℤ) → Finds old W → HasMoreAt equal (pos 0) ◌+ℤ◌ old label c new → Finds new (W ++ (label, c) ∷ [])
Finds-next old new W label c h more l = search (rules, same_or_not, coefficient_plus, equal_from, same_from, +ℤ_idr, equal_apart, same_apart)

-- a table that is the empty table with c added at one label is the list of the one term (label, c)
pub Same-single : (new : WholeTerms) (label : List ℕ) (c : ℤ) → IsWholeTable new → HasMoreAt equal (pos 0) ◌+ℤ◌ [] label c new → Same new ((label, c) ∷ [])
Same-single new label c is more = Same-from_look_ups new ((label, c) ∷ []) is (Finds-next [] new [] label c (λ l. refl) more)

-- the checked sum of a = 0 and an integer c of 128 bits is never None
pub not_refused : (a c : ℤ) → a ≡ pos 0 → IsRefused (FitsSigned w128) (λ (x y : ℤ). checked_i128 (x +ℤ y)) a c → ⊥
not_refused a c e = fits-zero_left {is_held = FitsSigned w128} {value = whole} {checked = λ (x y : ℤ). checked_i128 (x +ℤ y)} sum_answers_i128 a c (ap whole e)

pub more_as : (old old' new : WholeTerms) (label label' : List ℕ) (c c' : ℤ) → old ≡ old' → label ≡ label' → c ≡ c'
    → HasMoreAt equal (pos 0) ◌+ℤ◌ old label c new → HasMoreAt equal (pos 0) ◌+ℤ◌ old' label' c' new
more_as old old' new label label' c c' p q r h = search rules

pub if_ok_both : {T E : Type 0} {P Q R : T → Type 0} (r : Result T E) → IfOk r P → IfOk r Q → ((x : T) → P x → Q x → R x) → IfOk r R
if_ok_both (Ok x) h k f = f x h k
if_ok_both (Err e) h k f = tt

pub not_zero : (terms : WholeTerms) → IsWholeTable terms → (t : List ℕ × ℤ) → Among t terms → t.1 ≡ pos 0 → ⊥
not_zero terms is t m e =
    let some = (is_reduced-tells (whole t.1) (and_parts (is_reduced (whole t.1)) _ (term-among is_label whole terms is.proper t m)).0).nonzero in
    let none = ap nat_abs e in
    omega arith

pub labels-same : (P : List ℕ → Type 0) (terms W : WholeTerms) → IsWholeTable terms → Same terms W → HaveLabels P W → HaveLabels P terms
labels-same P terms W is h each =
    gains_labels nat_list_eq_equiv same_partition [] W terms is
    (record { sums = λ φ. pair_determined terms W φ h ∙ sym (+ℤ_idl (over φ W)) }) P (not_zero terms is) (λ t m. absurd m) each

pub found-among : (terms : Terms (List ℕ)) → IsDistinct equal (keys_of terms) → (t : List ℕ × Fraction) → Among t terms → found terms t.0 ≡ t.1
found-among terms d t m = ap (λ (o : Option Fraction). unwrap_or o (pos 0, 1)) (look_up-among nat_list_eq_equiv same_partition terms d t m)

pub found-absent : (terms : Terms (List ℕ)) (label : List ℕ) → (Among label (map (λ (t : List ℕ × Fraction). t.0) terms) → ⊥) → found terms label ≡ whole (pos 0)
found-absent [] label n = refl
found-absent (t ∷ terms) label n = search (rules, equal_apart, (found-absent terms label))
