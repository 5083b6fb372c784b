-- The list of terms made from a table of states with counts. A *state* is a list of numbers: first its *sum*, which is a list of n numbers (a
-- partition plus the content of all letters so far), then the letters of the column added last. The *count* of a partition is the total count of the
-- states that have this partition as their sum, and becomes its coefficient in the list of terms. The entries of the table are added one by one.
use Rattle.std.proofs.Common.{◌≡◌, ℕ, zero, suc, ◌+◌, ◌*◌, ◌^◌, ◌<◌, ◌≤◌, ◌⊎◌, inl, inr, Bool, true, false, cond, List, [], ◌∷◌, length, take, refl, sym, ap, ◌∙◌, subst, arith, ℤ, pos, ◌+ℤ◌, rules}
use Rattle.std.specs.Prelude.{Some, slice_get, FitsSigned, nat_eq}
use Rattle.std.specs.Int.{w128}
use Rattle.std.specs.Cmp.Lexicographic.{nat_list_eq_equiv, pointwise}
use Rattle.std.proofs.lemmas.Bool.{cases_lt, and_parts}
use Rattle.fraction_laws.specs.Fractions.{whole}
use Rattle.sym_model.specs.Sum.{Among}
use Rattle.sym_model.specs.Partition.{IsPartition, rows, without_last_zeros}
use Rattle.sym_model.specs.LabelLimits.{is_label}
use Rattle.sym_model.specs.WholeTerms.{WholeTerms}
use Rattle.sym_model.proofs.Exponents.{same_from, same_apart, same_or_not}
use Rattle.sym_model.proofs.Orders.{is_label-tells}
use Rattle.sym_model.proofs.SortedParts.{IsPartition-without_last_zeros, size-without_last_zeros}
use Rattle.sym_model.proofs.Parts.{length-without_last_zeros}
use Rattle.partitions.specs.Limits.{IsWithinLimits}
use Rattle.linear_combinations.specs.Entries.{coefficient, AreHeld, HasMoreAt, HasSameCoefficients, IsCombination}
use Rattle.linear_combinations.proofs.Labels.{same_partition}
use Rattle.linear_combinations.proofs.Found.{coefficient_found, coefficient_of_term}
use Rattle.linear_combinations.proofs.LowestTerms.{not_zero-is_reduced}
use Rattle.linear_combinations.proofs.Steps.{IsCombination-empty}
use Rattle.linear_combinations.proofs.Totals.{length_same, term-among}
use Rattle.alternant_laws.proofs.FallingAlternants.{falls_from_test}
use Rattle.lr_product.specs.WeighedSum.{at_state, weighed, comes_to}
use Rattle.lr_product.specs.Counts.{HasCounts, IsPastSomewhere}
use Rattle.lr_product.proofs.Steps.{IsReached}
use Rattle.lr_product.proofs.Sums.{length_take}
use Rattle.linear_combinations.proofs.LabelTests.{equal_from, equal_apart}

-- ---- lists of terms in which the coefficient of each partition is its count

-- the coefficient of each partition in `terms` is its count; a list that is not the label of a term has the coefficient 0
abbrev pub Finds : (List ℕ → ℕ) → WholeTerms → Type 0
Finds count terms = (parts : List ℕ) → coefficient (pointwise nat_eq) (pos 0) terms parts ≡ pos (count parts)

pub has_counts : (n : ℕ) (count : List ℕ → ℕ) (terms : WholeTerms) → IsCombination (pointwise nat_eq) is_label whole terms → Finds count terms
    → ((parts : List ℕ) → n < rows parts → count parts ≡ 0) → HasCounts n count terms
has_counts n count terms is finds short = record {
  table = is;
  labels = λ t m. (label t m, few t m (cases_lt n (rows t.0)));
  counts = λ parts p h. coefficient_found terms is.distinct parts ∙ finds parts;
}
  where
    label : (t : List ℕ × ℤ) → Among t terms → IsPartition t.0
    label t m = (is_label-tells t.0 (and_parts _ (is_label t.0) (term-among is_label whole terms is.proper t m)).1).partition

    few : (t : List ℕ × ℤ) → Among t terms → (n < rows t.0) ⊎ (rows t.0 ≤ n) → rows t.0 ≤ n
    few t m (inr l) = l
    few t m (inl l) =
        let zero : t.1 ≡ pos 0 =
        sym (coefficient_of_term terms is.distinct t m) ∙ coefficient_found terms is.distinct t.0 ∙ finds t.0 ∙ ap pos (short t.0 l) in
        absurd (not_zero-is_reduced (whole t.1) (and_parts _ (is_label t.0) (term-among is_label whole terms is.proper t m)).0 (ap whole zero))

pub finds_same : (count : List ℕ → ℕ) (first second : WholeTerms) → HasSameCoefficients (pointwise nat_eq) (pos 0) first second → Finds count first → Finds count second
finds_same count first second e h parts = e parts ∙ h parts

pub held_small : (terms : WholeTerms) (count : List ℕ → ℕ) → AreHeld (pointwise nat_eq) (pos 0) (FitsSigned w128) terms → Finds count terms → (parts : List ℕ) → count parts < 2 ^ 127
held_small terms count h finds parts = let f = (subst (FitsSigned w128) (finds parts) (h.at_label parts)).sfits in omega arith

-- ---- the counts in the first i entries of a table, and in the first i + 1

-- the *weighed sum* of some entries is the sum of count·g(state) over them: if entry i has the state `key` and the count w, the weighed sum of the
-- first i + 1 entries is that of the first i entries plus w·g(key)
pub weighed-take : (n : ℕ) (g : List ℕ → List ℕ → ℕ) (es : List (List ℕ × ℕ)) (i : ℕ) (key : List ℕ) (w : ℕ) → slice_get es i ≡ Some (key, w) → weighed n g (take (i + 1) es) ≡ weighed n g (take i es) + w * at_state n g key
weighed-take n g [] i key w h = cc
weighed-take n g (e ∷ es) zero key w h = search rules
weighed-take n g (e ∷ es) (suc i) key w h = search (rules, (weighed-take n g es i key w h))

pub weighed-front : (n : ℕ) (g : List ℕ → List ℕ → ℕ) (es : List (List ℕ × ℕ)) (i : ℕ) → weighed n g (take i es) ≤ weighed n g es
weighed-front n g [] zero = omega arith
weighed-front n g [] (suc i) = omega arith
weighed-front n g (e ∷ es) zero = omega arith
weighed-front n g (e ∷ es) (suc i) = let r = weighed-front n g es i in omega arith

-- the total count, in the first i entries, of the states whose sum without the zeros at its end is `parts`
abbrev pub counted : ℕ → List (List ℕ × ℕ) → ℕ → List ℕ → ℕ
counted n es i parts = weighed n (comes_to parts) (take i es)

pub counted-zero : (n : ℕ) (es : List (List ℕ × ℕ)) (i : ℕ) (key : List ℕ) (w : ℕ) (parts : List ℕ) → slice_get es i ≡ Some (key, w) → w ≡ 0 → counted n es (i + 1) parts ≡ counted n es i parts
counted-zero n es i key w parts h z =
    weighed-take n (comes_to parts) es i key w h ∙ ap (λ v. counted n es i parts + v * at_state n (comes_to parts) key) z ∙ (let q : counted n es i parts + 0 * at_state n (comes_to parts) key ≡ counted n es i parts = omega arith in q)

counted-more : (n : ℕ) (es : List (List ℕ × ℕ)) (i : ℕ) (key : List ℕ) (w : ℕ) (parts : List ℕ) → slice_get es i ≡ Some (key, w)
    → counted n es (i + 1) parts ≡ cond ((pointwise nat_eq) (without_last_zeros (take n key)) parts) (counted n es i parts + w) (counted n es i parts)
counted-more n es i key w parts h = weighed-take n (comes_to parts) es i key w h ∙ by (same_or_not (without_last_zeros (take n key)) parts)
  where
    by : (without_last_zeros (take n key) ≡ parts) ⊎ (without_last_zeros (take n key) ≡ parts → ⊥)
        → counted n es i parts + w * at_state n (comes_to parts) key ≡ cond ((pointwise nat_eq) (without_last_zeros (take n key)) parts) (counted n es i parts + w) (counted n es i parts)
    by (inl e) =
        ap (λ t. counted n es i parts + w * cond t 1 0) (same_from (without_last_zeros (take n key)) parts e)
        ∙ (let q : counted n es i parts + w * 1 ≡ counted n es i parts + w = omega arith in q)
        ∙ sym (ap (λ t. cond t (counted n es i parts + w) (counted n es i parts)) (equal_from (without_last_zeros (take n key)) parts e))
    by (inr d) =
        ap (λ t. counted n es i parts + w * cond t 1 0) (same_apart (without_last_zeros (take n key)) parts d)
        ∙ (let q : counted n es i parts + w * 0 ≡ counted n es i parts = omega arith in q)
        ∙ sym (ap (λ t. cond t (counted n es i parts + w) (counted n es i parts)) (equal_apart (without_last_zeros (take n key)) parts d))

counted-here : (n : ℕ) (es : List (List ℕ × ℕ)) (i : ℕ) (key : List ℕ) (w : ℕ) → slice_get es i ≡ Some (key, w)
    → counted n es (i + 1) (without_last_zeros (take n key)) ≡ counted n es i (without_last_zeros (take n key)) + w
counted-here n es i key w h =
    let label = without_last_zeros (take n key) in
    counted-more n es i key w label h ∙ ap (λ t. cond t (counted n es i label + w) (counted n es i label)) (equal_from label label refl)

pub finds_next : (n : ℕ) (es : List (List ℕ × ℕ)) (i : ℕ) (key sum : List ℕ) (w : ℕ) (old new : WholeTerms) → slice_get es i ≡ Some (key, w) → sum ≡ take n key
    → Finds (counted n es i) old → HasMoreAt (pointwise nat_eq) (pos 0) ◌+ℤ◌ old (without_last_zeros sum) (pos w) new → Finds (counted n es (i + 1)) new
finds_next n es i key sum w old new h is finds more parts =
    let label = without_last_zeros (take n key) in
    subst (λ l. HasMoreAt (pointwise nat_eq) (pos 0) ◌+ℤ◌ old (without_last_zeros l) (pos w) new) is more parts
    ∙ by ((pointwise nat_eq) label parts) refl
    ∙ sym (ap pos (counted-more n es i key w parts h))
  where
    by : (t : Bool) → (pointwise nat_eq) (without_last_zeros (take n key)) parts ≡ t
        → cond t (coefficient (pointwise nat_eq) (pos 0) old (without_last_zeros (take n key)) +ℤ pos w) (coefficient (pointwise nat_eq) (pos 0) old parts)
        ≡ pos (cond t (counted n es i parts + w) (counted n es i parts))
    by true e = ap (λ z. z +ℤ pos w) (ap (coefficient (pointwise nat_eq) (pos 0) old) (same_partition (without_last_zeros (take n key)) parts e) ∙ finds parts)
    by false e = finds parts

-- let k be the total count, in the first i entries, of the states with the same sum as entry i, and w the count of entry i: if k + w is 2^127 or
-- more, then some partition has a total count of 2^127 or more in the whole table
pub past_next : (n m : ℕ) (es : List (List ℕ × ℕ)) (i : ℕ) (key sum : List ℕ) (w : ℕ) (old : WholeTerms) → slice_get es i ≡ Some (key, w) → sum ≡ take n key → IsReached n m (take n key)
    → Finds (counted n es i) old → ((k : ℕ) → coefficient (pointwise nat_eq) (pos 0) old (without_last_zeros sum) ≡ pos k → 2 ^ 127 ≤ k + w)
    → IsPastSomewhere n (λ parts. weighed n (comes_to parts) es)
past_next n m es i key sum w old h is r finds large = record {
  parts = without_last_zeros (take n key);
  partition = IsPartition-without_last_zeros (take n key) (falls_from_test (take n key) r.falls);
  within = let l = length-without_last_zeros (take n key) in let e = r.long in omega arith;
  past =
      let label = without_last_zeros (take n key) in
      let here : 2 ^ 127 ≤ counted n es i label + w = subst (λ l. (k : ℕ) → coefficient (pointwise nat_eq) (pos 0) old (without_last_zeros l) ≡ pos k → 2 ^ 127 ≤ k + w) is large (counted n es i label) (finds label) in
      let more = counted-here n es i key w h in
      let front = weighed-front n (comes_to label) es (i + 1) in
      omega arith;
}

-- a weakly decreasing list of n ≤ 512 numbers that add up to at most 4,096 is, without the zeros at its end, a partition with at most 512 rows and at
-- most 4,096 cells (`IsWithinLimits`)
pub sum_within : (n : ℕ) (sum : List ℕ) → n ≤ 512 → IsReached n 4096 sum → IsWithinLimits (without_last_zeros sum)
sum_within n sum h r = search (rules, IsPartition-without_last_zeros, falls_from_test, length-without_last_zeros, size-without_last_zeros)

pub counted-long : (n : ℕ) (es : List (List ℕ × ℕ)) (parts : List ℕ) → n < rows parts → weighed n (comes_to parts) es ≡ 0
counted-long n [] parts h = refl
counted-long n (e ∷ es) parts h = search (rules, same_apart, length-without_last_zeros, length_take, (counted-long n es parts h))

pub same_as_none : (terms : WholeTerms) → IsCombination (pointwise nat_eq) is_label whole terms → HasSameCoefficients (pointwise nat_eq) (pos 0) [] terms → terms ≡ []
same_as_none terms is e =
    by terms (length_same nat_list_eq_equiv same_partition (pos 0) whole refl terms [] is (IsCombination-empty (pointwise nat_eq) is_label whole) (λ label. sym (e label)))
  where
    by : (ts : WholeTerms) → length ts ≤ 0 → ts ≡ []
    by [] h = refl
    by (t ∷ ts) h = absurd (omega arith)
