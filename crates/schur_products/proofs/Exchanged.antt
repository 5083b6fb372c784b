-- The list of terms of the product of two factors, in as many variables as they have rows together, is also that of the factors exchanged.
use Rattle.std.proofs.Common.{◌≡◌, ℕ, ◌+◌, ◌^◌, ◌<◌, ◌≤◌, List, Option, Some, None, sym, ◌∙◌, ap, pos, arith, ℤ}
use Rattle.std.specs.Prelude.{Result, Ok, Err, IfOk, IfSome}
use Rattle.sym_model.specs.Partition.{IsPartition, rows}
use Rattle.sym_model.specs.GoodTableau.{product_count}
use Rattle.sym_model.specs.WholeTerms.{WholeTerms}
use Rattle.alternant_laws.proofs.CountedTerms.{product_counts_stable}
use Rattle.schur_laws.proofs.ProductCounts.{product_exchanged}
use Rattle.lattice_rows.specs.ListedProduct.{ListsProduct}
use Rattle.lr_product.specs.Counts.{HasCounts, IsPastSomewhere}

swapped : (λ' μ ν : List ℕ) → IsPartition λ' → IsPartition μ → IsPartition ν → rows ν ≤ rows μ + rows λ'
    → product_count (rows λ' + rows μ) λ' μ ν ≡ product_count (rows μ + rows λ') μ λ' ν
swapped λ' μ ν p q r l =
    product_counts_stable (rows ν) (rows λ' + rows μ) λ' μ ν (omega arith) p q r (omega arith)
    ∙ product_exchanged λ' μ ν p q r
    ∙ sym (product_counts_stable (rows ν) (rows μ + rows λ') μ λ' ν l q p r (omega arith))

pub counts_swapped : (λ' μ : List ℕ) (terms : WholeTerms) → IsPartition λ' → IsPartition μ
    → HasCounts (rows λ' + rows μ) (product_count (rows λ' + rows μ) λ' μ) terms → HasCounts (rows μ + rows λ') (product_count (rows μ + rows λ') μ λ') terms
counts_swapped λ' μ terms p q h = record {
  table = h.table;
  labels = λ t m. ((h.labels t m).0, let l = (h.labels t m).1 in omega arith);
  counts = λ ν r l. h.counts ν r (omega arith) ∙ ap pos (swapped λ' μ ν p q r l);
}

pub fits_swapped : (λ' μ : List ℕ) → IsPartition λ' → IsPartition μ
    → ((ν : List ℕ) → IsPartition ν → rows ν ≤ rows λ' + rows μ → product_count (rows λ' + rows μ) λ' μ ν < 2 ^ 127)
    → (ν : List ℕ) → IsPartition ν → rows ν ≤ rows μ + rows λ' → product_count (rows μ + rows λ') μ λ' ν < 2 ^ 127
fits_swapped λ' μ p q small ν r l =
    let e = swapped λ' μ ν p q r l in
    let s = small ν r (omega arith) in
    omega arith

pub past_swapped : (λ' μ : List ℕ) → IsPartition λ' → IsPartition μ
    → IsPastSomewhere (rows λ' + rows μ) (product_count (rows λ' + rows μ) λ' μ) → IsPastSomewhere (rows μ + rows λ') (product_count (rows μ + rows λ') μ λ')
past_swapped λ' μ p q past =
    let w = past.within in
    let e = swapped λ' μ past.parts p q past.partition (omega arith) in
    let l = past.past in
    record { parts = past.parts; partition = past.partition; within = omega arith; past = omega arith }

pub lists_swapped : (λ' μ : List ℕ) (terms : WholeTerms) → IsPartition λ' → IsPartition μ
    → ListsProduct (rows λ' + rows μ) λ' μ terms → ListsProduct (rows μ + rows λ') μ λ' terms
lists_swapped λ' μ terms p q h = record {
  canonical = h.canonical;
  counts = λ f. counts_swapped λ' μ terms p q (h.counts f);
  fits = λ f. fits_swapped λ' μ p q (h.fits f);
  past = λ f. past_swapped λ' μ p q (h.past f);
}

pub if_given : {T E : Type 0} {P Q : T → Type 0} (r : Result (Option T) E) → IfOk r (λ o. IfSome o P) → ((x : T) → P x → Q x) → IfOk r (λ o. IfSome o Q)
if_given (Ok (Some x)) h f = f x h
if_given (Ok None) h f = tt
if_given (Err e) h f = tt
