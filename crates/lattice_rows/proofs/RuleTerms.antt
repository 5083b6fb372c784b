-- The terms that a walk over the rule for a product lists are the expansion of the product.
use Rattle.std.proofs.Common.{◌≡◌, ℕ, ◌+◌, ◌-◌, ◌^◌, ◌<◌, ◌≤◌, List, [], ◌∷◌, take, drop, get_or, replicate, sym, ap, ◌∙◌, subst}
use Rattle.std.specs.Prelude.{Option, Some, None, IfSome, SomeIff}
use Rattle.fraction_laws.specs.Fractions.{whole}
use Rattle.sym_model.specs.Partition.{IsPartition, ArePositive, part, rows, size}
use Rattle.sym_model.specs.GoodTableau.{product_count}
use Rattle.sym_model.specs.LabelLimits.{is_label}
use Rattle.sym_model.specs.PrintedOrder.{printed_order}
use Rattle.sym_model.specs.WholeTerms.{WholeTerms}
use Rattle.linear_combinations.specs.Entries.{IsCanonicalList}
use Rattle.prefix_walk.specs.Terms.{terms_below}
use Rattle.prefix_walk.specs.Levels.{at_most_cap}
use Rattle.lr_product.specs.WeighedSum.{comes_to}
use Rattle.lr_product.specs.RowExtension.{over_rows}
use Rattle.lr_product.specs.Counts.{HasCounts, IsPastSomewhere}
use Rattle.lattice_rows.specs.LatticeRows.{row_ways}
use Rattle.lattice_rows.specs.ProductRule.{IsRule, labelled, AreLimited, AreSmall, HasLarge}
use Rattle.lattice_rows.proofs.ListedTerms.{AreCounted, limited_terms, past_terms, fits_terms, counts_terms}
use Rattle.lattice_rows.proofs.RuleWays.{rule_counts}

pub some_of : {X : Type 0} (Q : X → Type 0) (o : Option X) (x : X) → o ≡ Some x → IfSome o Q → Q x
some_of {X} Q o x e h = subst (λ (p : Option X). IfSome p Q) e h

pub shown_if : {X : Type 0} (o : Option X) (P : Type 0) (v : X) (Q : X → Type 0) → SomeIff o P v → (P → (x : X) → x ≡ v → Q x) → IfSome o Q
shown_if None P v Q n q = tt
shown_if (Some y) P v Q n q = q n.0 y n.1

-- the terms to come are those of the product of left and right in n variables
pub record AreOfProduct (n : ℕ) (left right : List ℕ) (rest : List (List ℕ × ℕ)) : Type 0 where
  pub limited : AreLimited rest
  pub past : HasLarge rest → IsPastSomewhere n (product_count n left right)
  pub fits : AreSmall rest → (ν : List ℕ) → IsPartition ν → rows ν ≤ n → product_count n left right ν < 2 ^ 127
  pub counts : AreSmall rest → (pairs terms : WholeTerms) → pairs ≡ labelled rest → IsCanonicalList printed_order is_label whole pairs → terms ≡ pairs
      → HasCounts n (product_count n left right) terms

all_terms : (n : ℕ) (f : List ℕ → ℕ) (left right : List ℕ) → AreCounted n f (product_count n left right) → AreOfProduct n left right (terms_below 256 n (λ label. at_most_cap (f label)))
all_terms n f left right c = record {
  limited = limited_terms n f (product_count n left right) c;
  past = past_terms n f (product_count n left right) c;
  fits = fits_terms n f (product_count n left right) c;
  counts = λ small pairs terms e canonical same.
      counts_terms n f (product_count n left right) c small terms (same ∙ e) (subst (λ (l : WholeTerms). IsCanonicalList printed_order is_label whole l) (sym same) canonical);
}

pub rule_terms : (left right : List ℕ) (n N k : ℕ) (padded outside content ends : List ℕ) (rest : List (List ℕ × ℕ)) → IsRule left right n N padded outside → k ≡ rows left + rows right
    → rows left + rows right ≤ 512 → size left + size right ≤ 4096
    → ((a : ℕ) (label : List ℕ) → 2 ≤ n → n ≤ 8 → ArePositive (take n padded) → part outside 1 + get_or (take n padded) 0 0 ≤ 255
    → row_ways n padded outside (a ∷ label) content ends ≡ over_rows n (a ∷ label) outside (comes_to (take n padded)) (replicate n 0) [])
    → rest ≡ terms_below 256 k (λ label. at_most_cap (row_ways n padded (drop (N - k) outside) label content ends))
    → AreOfProduct (rows left + rows right) left right rest
rule_terms left right n N k padded outside content ends rest rule all few small ways e =
    let f : List ℕ → ℕ = λ label. row_ways n padded (drop (N - k) outside) label content ends in
    let same : k ≡ N = all ∙ sym rule.rows_are in
    subst (λ (m : ℕ). AreOfProduct m left right rest) rule.rows_are
    (subst (AreOfProduct N left right) (sym (e ∙ ap (λ i. terms_below 256 i (λ label. at_most_cap (f label))) same))
    (all_terms N f left right (rule_counts left right n N k padded outside content ends rule same ways (subst (λ m. m ≤ 512) (sym rule.rows_are) few) small)))
