-- The list of pairs that sorted_pairs.rt makes: the entries (state, count) of a table in the order of a list of sorted indices, and the list of terms
-- made from them. The *weighed sum* of some entries, for a function f of states, is the sum of count·f(state) over them.
use Rattle.std.proofs.Common.{◌≡◌, ℕ, zero, suc, ◌+◌, ◌*◌, ◌^◌, ◌<◌, ◌≤◌, ◌⊎◌, inl, inr, cond, List, [], ◌∷◌, ◌++◌, length, take, drop, refl, sym, ap, ◌∙◌, arith, ℤ, pos, ◌+ℤ◌, rules}
use Rattle.std.specs.Prelude.{Some, None, slice_get, nat_eq}
use Rattle.std.specs.Cmp.Lexicographic.{pointwise}
use Rattle.std.specs.List as lists
use Rattle.std.proofs.lemmas.Bool.{cases_lt, and_parts}
use Rattle.std.proofs.lemmas.Int.{ints}
use Rattle.std.proofs.lemmas.List.Sums.{sum_by_push}
use Rattle.sym_model.specs.Sum.{Among}
use Rattle.sym_model.specs.Partition.{without_last_zeros}
use Rattle.sym_model.specs.Polynomial.{coefficient}
use Rattle.sym_model.specs.WholeTerms.{WholeTerms}
use Rattle.sym_model.specs.LabelLimits.{is_label}
use Rattle.sym_model.specs.PrintedOrder.{printed_order}
use Rattle.sym_model.proofs.Exponents.{same_from}
use Rattle.sym_model.proofs.Orders.{printed_order-total}
use Rattle.sym_model.proofs.Polynomials.{coefficient_plus}
use Rattle.sym_model.proofs.Parts.{length-without_last_zeros}
use Rattle.sym_model.proofs.SortedParts.{IsPartition-without_last_zeros}
use Rattle.fraction_laws.specs.Fractions.{whole}
use Rattle.linear_combinations.specs.Entries.{IsCanonicalList, IsCombination}
use Rattle.linear_combinations.proofs.Found.{coefficient_found, coefficient_of_term}
use Rattle.linear_combinations.proofs.Ordered.{canonical-ordered, distinct-ordered}
use Rattle.alternant_laws.proofs.FallingAlternants.{falls_from_test}
use Rattle.product_laws.proofs.CountLists.{some_term}
use Rattle.lr_product.specs.WeighedSum.{at_state, weighed, unreached, comes_to}
use Rattle.lr_product.specs.Counts.{HasCounts, IsPastSomewhere}
use Rattle.lr_product.specs.Places.{entry_at, count_at, AreSmallTerms}
use Rattle.lr_product.proofs.Steps.{IsReached, reached-tells, weighed-none}
use Rattle.lr_product.proofs.CountedLists.{has_counts, counted-long, weighed-take, weighed-front}

-- ---- the entries of a table by their indices

pub none_at : (es : List (List ℕ × ℕ)) (at : ℕ) → slice_get es at ≡ None → entry_at es at ≡ ([], 0)
none_at [] zero h = refl
none_at [] (suc at) h = refl
none_at (e ∷ es) zero h = cc
none_at (e ∷ es) (suc at) h = none_at es at h

pub some_at : (es : List (List ℕ × ℕ)) (at : ℕ) (key : List ℕ) (w : ℕ) → slice_get es at ≡ Some (key, w) → entry_at es at ≡ (key, w)
some_at [] at key w h = cc
some_at (e ∷ es) zero key w h = cc
some_at (e ∷ es) (suc at) key w h = some_at es at key w h

here_at : (es : List (List ℕ × ℕ)) (at : ℕ) → at < length es → slice_get es at ≡ Some ((entry_at es at).0, (entry_at es at).1)
here_at [] at h = absurd (omega arith)
here_at (e ∷ es) zero h = refl
here_at (e ∷ es) (suc at) h = here_at es at (omega arith)

pub past_at_end : (es : List (List ℕ × ℕ)) (at : ℕ) → length es ≤ at → entry_at es at ≡ ([], 0)
past_at_end [] zero h = refl
past_at_end [] (suc at) h = refl
past_at_end (e ∷ es) zero h = absurd (omega arith)
past_at_end (e ∷ es) (suc at) h = past_at_end es at (omega arith)

-- if the entries with the indices `places`, each behind a key, have the same weighed sum as the first `at` entries, then the entries with the indices
-- `places` and `at` have the same weighed sum as the first at + 1 entries
pub sums_next : (n : ℕ) (es : List (List ℕ × ℕ)) (f : List ℕ → List ℕ → ℕ) (at key : ℕ) (places : List (ℕ × ℕ)) → at < length es
    → lists.sum_by (λ (place : ℕ × ℕ). count_at n es f place.1) places ≡ weighed n f (take at es)
    → lists.sum_by (λ (place : ℕ × ℕ). count_at n es f place.1) (places ++ (key, at) ∷ []) ≡ weighed n f (take (at + 1) es)
sums_next n es f at key places h e =
    sum_by_push (λ (place : ℕ × ℕ). count_at n es f place.1) places (key, at) ∙ ap (λ s. s + count_at n es f at) e
    ∙ sym (weighed-take n f es at (entry_at es at).0 (entry_at es at).1 (here_at es at h))

-- ---- the term that is added for one index

pub nothing_counted : (n : ℕ) (es : List (List ℕ × ℕ)) (f : List ℕ → List ℕ → ℕ) (at : ℕ) (z : ℤ) → (entry_at es at).1 ≡ 0 → z ≡ z +ℤ pos (count_at n es f at)
nothing_counted n es f at z e = search rules

pub pushed_counts : (n : ℕ) (es : List (List ℕ × ℕ)) (at : ℕ) (key : List ℕ) (w : ℕ) (old new : WholeTerms) (label : List ℕ) (z : ℤ) (parts : List ℕ)
    → slice_get es at ≡ Some (key, w) → new ≡ old ++ (label, z) ∷ [] → label ≡ without_last_zeros (take n key) → z ≡ pos w
    → coefficient new parts ≡ coefficient old parts +ℤ pos (count_at n es (comes_to parts) at)
pushed_counts n es at key w old new label z parts h e l c = search (rules, coefficient_plus, some_at, ints)

among_pushed : (old : WholeTerms) (x t : List ℕ × ℤ) → Among t (old ++ x ∷ []) → Among t old ⊎ (t ≡ x)
among_pushed [] x t (inl e) = inr e
among_pushed [] x t (inr m) = absurd m
among_pushed (y ∷ old) x t (inl e) = inl (inl e)
among_pushed (y ∷ old) x t (inr m) = search (rules, (among_pushed old x t m))

pub pushed_small : (old new : WholeTerms) (label : List ℕ) (z : ℤ) (w : ℕ) → new ≡ old ++ (label, z) ∷ [] → z ≡ pos w → w < 2 ^ 127 → AreSmallTerms old → AreSmallTerms new
pushed_small old new label z w e c l small t m = search (rules, among_pushed, ints)

pub reached_at : (n : ℕ) (es : List (List ℕ × ℕ)) (i : ℕ) (key : List ℕ) (w : ℕ) → weighed n (unreached n 4096) es ≡ 0 → slice_get es i ≡ Some (key, w) → 0 < w → IsReached n 4096 (take n key)
reached_at n es i key w z h some = reached-tells n 4096 (take n key) (drop n key) (weighed-none n (unreached n 4096) es i key w z h some)

pub past_at : (n : ℕ) (es : List (List ℕ × ℕ)) (at : ℕ) → weighed n (unreached n 4096) es ≡ 0 → 2 ^ 127 ≤ (entry_at es at).1 → IsPastSomewhere n (λ parts. weighed n (comes_to parts) es)
past_at n es at z l = by (cases_lt at (length es))
  where
    there : slice_get es at ≡ Some ((entry_at es at).0, (entry_at es at).1) → IsPastSomewhere n (λ parts. weighed n (comes_to parts) es)
    there h =
        let key = (entry_at es at).0 in
        let w = (entry_at es at).1 in
        let label = without_last_zeros (take n key) in
        let r = reached_at n es at key w z h (omega arith) in
        record {
          parts = label;
          partition = IsPartition-without_last_zeros (take n key) (falls_from_test (take n key) r.falls);
          within = let a = length-without_last_zeros (take n key) in let e = r.long in omega arith;
          past =
              let one : w * at_state n (comes_to label) key ≡ w * 1 = ap (λ t. w * cond t 1 0) (same_from label label refl) in
              let more = weighed-take n (comes_to label) es at key w h in
              let front = weighed-front n (comes_to label) es (at + 1) in
              omega arith;
        }

    by : (at < length es) ⊎ (length es ≤ at) → IsPastSomewhere n (λ parts. weighed n (comes_to parts) es)
    by (inl h) = there (here_at es at h)
    by (inr h) = let e = ap (λ (x : List ℕ × ℕ). x.1) (past_at_end es at h) in absurd (omega arith)

pub table_of : (terms : WholeTerms) → IsCanonicalList printed_order is_label whole terms → IsCombination (pointwise nat_eq) is_label whole terms
table_of terms c = search (rules, distinct-ordered, printed_order-total, canonical-ordered, and_parts)

pub canonical_counts : (n : ℕ) (es : List (List ℕ × ℕ)) (terms : WholeTerms) → IsCanonicalList printed_order is_label whole terms
    → ((parts : List ℕ) → coefficient terms parts ≡ pos (weighed n (comes_to parts) es)) → HasCounts n (λ parts. weighed n (comes_to parts) es) terms
canonical_counts n es terms c e =
    let is = table_of terms c in
    has_counts n (λ parts. weighed n (comes_to parts) es) terms is (λ parts. sym (coefficient_found terms is.distinct parts) ∙ e parts) (λ parts. counted-long n es parts)

pub canonical_small : (n : ℕ) (es : List (List ℕ × ℕ)) (terms : WholeTerms) → IsCanonicalList printed_order is_label whole terms → AreSmallTerms terms
    → ((parts : List ℕ) → coefficient terms parts ≡ pos (weighed n (comes_to parts) es)) → (parts : List ℕ) → weighed n (comes_to parts) es < 2 ^ 127
canonical_small n es terms c small e parts = search (rules, cases_lt, table_of, some_term, ints, coefficient_of_term)
