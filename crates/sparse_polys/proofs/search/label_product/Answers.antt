use Rattle.std.proofs.Common.{◌≡◌, ℕ, ◌+◌, ◌++◌, [], ◌∷◌, List, ap, ap₂, ◌∙◌, sym, refl, arith}
use Rattle.std.proofs.Common.{subst}
use Rattle.monomial_laws.specs.MonomialProduct.{arrangements}
use Rattle.sparse_polys.specs.Ways.{capped}
use Rattle.sparse_polys.specs.declared.states.State.{State}
use Rattle.sparse_polys.specs.declared.search.Counted.{Counted}
use Rattle.sparse_polys.specs.Search.{count_at, found, Counts, HaveCounts}
use Rattle.sparse_polys.proofs.SearchWays.{found-all, Counts-begin}
use Rattle.sparse_polys.proofs.search.label_product.Goals as goal

pub returns-clause-counts : goal.returns-clause-counts
returns-clause-counts c ν p =
    let s : State = record {
      left = c.in_ok-from_slice.field-0;
      right = c.in_ok-from_slice-2.field-0;
      count = 1;
    } in
    let total : ℕ = c.size_of.result + c.size_of-2.result in
    let states : c.as_slice.result.now ≡ s ∷ [] = c.as_slice.ensures.value
    ∙ c.in_ok-push.ensures.items ∙ ap (λ (l : List State). l ++ (s ∷ []))
    c.new-states.ensures.items in
    let chosen : c.as_slice-2.result.now ≡ [] = c.as_slice-2.ensures.value
    ∙ c.new-chosen.ensures.items in
    let begin = ap (λ (l : List Counted). count_at l ν) c.new-out.ensures.items in
    let all = found-all c.args.left.now c.args.right.now ν s total c.in_ok-from_slice.ensures.items
    c.in_ok-from_slice-2.ensures.items refl p (ap₂ ◌+◌ (sym c.size_of.ensures) (sym c.size_of-2.ensures))
    in
    c.in_ok-extend.ensures.found ν
    ∙ ap (λ n. n + found c.as_slice-2.result.now total c.as_slice.result.now ν) begin
    ∙ ap (λ l. 0 + found l total c.as_slice.result.now ν) chosen
    ∙ ap (λ (l : List State). 0 + found [] total l ν) states
    ∙ (let e : 0 + found [] total (s ∷ []) ν ≡ found [] total (s ∷ []) ν = omega arith in e)
    ∙ all

pub returns-clause-each : goal.returns-clause-each
returns-clause-each c =
    let s : State = record {
      left = c.in_ok-from_slice.field-0;
      right = c.in_ok-from_slice-2.field-0;
      count = 1;
    } in
    let total : ℕ = c.size_of.result + c.size_of-2.result in
    let states : c.as_slice.result.now ≡ s ∷ [] = c.as_slice.ensures.value
    ∙ c.in_ok-push.ensures.items ∙ ap (λ (l : List State). l ++ (s ∷ []))
    c.new-states.ensures.items in
    let chosen : c.as_slice-2.result.now ≡ [] = c.as_slice-2.ensures.value
    ∙ c.new-chosen.ensures.items in
    let f : List ℕ → ℕ = λ ν. capped (arrangements c.args.left.now c.args.right.now ν) in
    c.in_ok-extend.ensures.counts f
    (subst (λ l. Counts f l total c.as_slice.result.now) (sym chosen)
    (subst (λ (l : List State). Counts f [] total l) (sym states)
    (Counts-begin c.args.left.now c.args.right.now s total c.in_ok-from_slice.ensures.items
    c.in_ok-from_slice-2.ensures.items refl)))
    (subst (λ (l : List Counted). HaveCounts f l) (sym c.new-out.ensures.items)
    (λ k d l. absurd (omega arith)))
