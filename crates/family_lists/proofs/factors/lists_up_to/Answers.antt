use Rattle.std.proofs.Common.{ℕ, List, ◌+◌, ◌<◌, length, sym, ap, ◌∙◌, subst}
use Rattle.std.proofs.lemmas.List.{length_push}
use Rattle.sym_model.specs.WholeTerms.{WholeTerms}
use Rattle.sparse_polys.specs.Families.{polynomial_of}
use Rattle.family_lists.specs.FactorLists.{IsFactor, list_at}
use Rattle.family_lists.proofs.PlacedLists.{placed-push}
use Rattle.family_lists.proofs.factors.lists_up_to.Goals as goal

pub loop-k-preserved : goal.loop-k-preserved
loop-k-preserved c = (
  ap length c.in_ok-push.ensures.items
      ∙ length_push c.loop-k.lists.items c.in_ok-next.next ∙ ap (λ n. n + 1) c.loop-k.invariant.0,
  subst (λ (lists : List WholeTerms). (k : ℕ) → 0 < k → k < c.loop-k.k + 1
      → IsFactor (polynomial_of c.args.target) c.args.family k (list_at lists k))
      (sym c.in_ok-push.ensures.items)
      (λ k some low.
      placed-push (λ k m. 0 < k → IsFactor (polynomial_of c.args.target) c.args.family k m)
      c.loop-k.lists.items c.in_ok-next.next c.loop-k.k
      c.loop-k.invariant.0 (λ j l p. c.loop-k.invariant.1 j p l) c.in_ok-next.ensures.value
      k low some),
)
