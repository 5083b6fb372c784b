use Rattle.std.proofs.Common.{◌≡◌, ◌≤◌, ◌<◌, ◌-◌, ◌+◌, ◌^◌, ℕ, ℤ, min, List, [], arith, rules}
use Rattle.std.specs.Prelude.{Result, IfOk, OnOk}
use Rattle.sym_model.specs.Sum.{Among}
use Rattle.sym_model.specs.Partition.{IsPartition, rows, size}
use Rattle.sym_model.specs.Polynomial.{Same}
use Rattle.sym_model.specs.WholeTerms.{WholeTerms}
use Rattle.tableau_laws.specs.ColumnFold.{column_lines}
use Rattle.tableau_laws.proofs.ColumnCounts.{contains_nothing}
use Rattle.linear_combinations.proofs.Steps.{if_answered}
use Rattle.product_laws.specs.FactorSteps.{multiplied}
use Rattle.product_laws.specs.CountedProducts.{Reaches}
use Rattle.lr_product.specs.Capped.{Agree}
use Rattle.lr_product.specs.Counts.{HasCounts, IsPastSomewhere}
use Rattle.lr_product.specs.ProductOfFactors.{AllMayMeet, AreSmallCounts}
use Rattle.lr_product.specs.RowExtension.{VanishesBelow}
use Rattle.lr_product.specs.WeighedSum.{weighed, started, over_states, comes_to, unreached, VanishesOutside}
use Rattle.lr_product.proofs.Agreeing.{agree_then}
use Rattle.lr_product.proofs.RowPruning.{none_below}
use Rattle.lr_product.proofs.GoodCounts.{no_bound}
use Rattle.lr_product.proofs.ManyStarts.{starts_within, is_product, product_small, product_past}
use Rattle.lr_product.proofs.Rounds.{agree_zero}
use Rattle.lr_product.proofs.RowRounds.{started-fresh}
use Rattle.lr_product.proofs.next_factor.times_factor.Goals as goal

-- n letters are tried, with k variables; no label of the list has more than m rows
module _ (n k m : ℕ) (next : List ℕ) (product : WholeTerms) (is : n ≡ min k (m + rows next))
    (q : IsPartition next) (may : AllMayMeet k next product) (most : (t : List ℕ × ℤ) → Among t product → rows t.0 ≤ m)
    (starts : List (List ℕ × ℕ)) (counted : (f : List ℕ → List ℕ → ℕ) → Agree (weighed n f starts) (started n f product)) where
  few : n ≤ k
  few = omega arith

  enough : (t : List ℕ × ℤ) → Among t product → (rows t.0 ≤ n) × (min k (rows t.0 + rows next) ≤ n)
  enough t a = let r = most t a in search rules

  within : (l : ℕ) → l ≡ 4096 - size next → size next ≤ 4096 → weighed n (unreached n l) starts ≡ 0
  within l e small = agree_zero _ _ (counted (unreached n l)) (starts_within n k next product q may few enough l (omega arith) (omega arith))

  module _ (es : List (List ℕ × ℕ))
      (ways : (f : List ℕ → ℕ) → VanishesOutside [] (λ ν right. f ν) → VanishesBelow n 0 [] (λ ν right. f ν)
      → Agree (weighed n (λ ν right. f ν) es) (weighed n (over_states n (column_lines next []) (λ ν right. f ν)) starts)) where
    agree : (ν : List ℕ) → Agree (weighed n (comes_to ν) es) (started n (over_states n (column_lines next []) (comes_to ν)) product)
    agree ν =
        agree_then _ _ _ (ways (λ μ. comes_to ν μ []) (no_bound (comes_to ν)) (none_below n 0 (comes_to ν)))
        (counted (over_states n (column_lines next []) (comes_to ν)))

    past : IsPastSomewhere n (λ ν. weighed n (comes_to ν) es) → Reaches k (2 ^ 127) (multiplied k next product)
    past = product_past n k next product es q may few enough agree

    module _ {E : Type 0} (r : Result WholeTerms E) (fits : OnOk r ((ν : List ℕ) → weighed n (comes_to ν) es < 2 ^ 127)) where
      small : OnOk r (AreSmallCounts (multiplied k next product))
      small = product_small n k next product es q may few enough agree r fits

      same : IfOk r (HasCounts n (λ ν. weighed n (comes_to ν) es)) → IfOk r (λ terms. Same terms (multiplied k next product))
      same = is_product n k next product es q may few enough agree r fits

pub starts_of-requires-clause-counts : goal.starts_of-requires-clause-counts
starts_of-requires-clause-counts c = λ t m. (c.requires.terms t m).positive

pub with_shape-requires-clause-inside : goal.with_shape-requires-clause-inside
with_shape-requires-clause-inside c = contains_nothing c.args.next.now

pub with_shape-requires-clause-size : goal.with_shape-requires-clause-size
with_shape-requires-clause-size c = omega arith

pub with_shape-requires-clause-fresh : goal.with_shape-requires-clause-fresh
with_shape-requires-clause-fresh c = search (rules, agree_zero, started-fresh)

pub with_shape-requires-clause-reached : goal.with_shape-requires-clause-reached
with_shape-requires-clause-reached c =
    within _ c.args.variables c.most_rows.result c.args.next.now c.args.product.now (omega arith) c.requires.factor c.requires.terms
    c.most_rows.ensures.most _ c.in_ok-starts.ensures _ (omega arith) (omega arith)

pub returns-clause-product : goal.returns-clause-product
returns-clause-product c =
    same _ c.args.variables c.most_rows.result c.args.next.now c.args.product.now (omega arith) c.requires.factor c.requires.terms
    c.most_rows.ensures.most _ c.in_ok-starts.ensures _ c.in_ok-table.ensures.ways _ c.terms_of_table.ensures.fits c.terms_of_table.ensures.counts

pub returns-clause-table : goal.returns-clause-table
returns-clause-table c = search (rules, if_answered)

pub returns-clause-small : goal.returns-clause-small
returns-clause-small c =
    small _ c.args.variables c.most_rows.result c.args.next.now c.args.product.now (omega arith) c.requires.factor c.requires.terms
    c.most_rows.ensures.most _ c.in_ok-starts.ensures _ c.in_ok-table.ensures.ways _ c.terms_of_table.ensures.fits

pub returns-clause-large : goal.returns-clause-large
returns-clause-large c = λ e.
    past _ c.args.variables c.most_rows.result c.args.next.now c.args.product.now (omega arith) c.requires.factor c.requires.terms
    c.most_rows.ensures.most _ c.in_ok-starts.ensures _ c.in_ok-table.ensures.ways (c.terms_of_table.ensures.large e)
