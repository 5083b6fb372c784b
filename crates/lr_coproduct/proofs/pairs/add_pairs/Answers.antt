use Rattle.std.proofs.Common.{Iter, ◌≡◌, [], ◌∷◌, ◌++◌, append-nil, map, refl, sym, ap, ◌∙◌, ℕ, ℤ}
use Rattle.std.proofs.Common.{List}
use Rattle.std.proofs.lemmas.List.{map-append}
use Rattle.sym_model.specs.WholeTerms.{WholeTerms}
use Rattle.sym_model.proofs.Lists.{all_read}
use Rattle.linear_combinations.proofs.Gains.{so_far_next}
use Rattle.lr_coproduct.specs.PairTerms.{with_first}
use Rattle.lr_coproduct.proofs.OrderedPairs.{next_added}
use Rattle.lr_coproduct.proofs.pairs.add_pairs.Goals as goal

pub loop-second-init : goal.loop-second-init
loop-second-init c = record { adds = sym (append-nil c.args.pairs.now.items); so_far = refl }

pub loop-second-preserved : goal.loop-second-preserved
loop-second-preserved c =
    let inv = c.loop-second.invariant in
    let done = map (λ item. item.now) c.loop-second.yielded in
    let p : List ℕ × ℤ = c.in-Some.field-0.now in
    let rest = c.next.new.self.rest.now in
    let pushed : done ++ p ∷ [] ≡ map (λ item. item.now) (c.loop-second.yielded ++ c.in-Some.field-0
    ∷ []) =
    sym (map-append (λ item. item.now) c.loop-second.yielded (c.in-Some.field-0 ∷ [])) in
    record {
      adds = next_added c.args.first.now done _ p.0 p.1 c.args.pairs.now.items
          c.loop-second.pairs.items c.add_pair.new.pairs.items pushed inv.adds
          c.in_ok-add_pair.ensures;
      so_far = so_far_next done rest c.loop-second.second-iterator.rest.now _ _ p pushed
          c.in-Some.ensures.steps inv.so_far;
    }

pub returns-clause-adds : goal.returns-clause-adds
returns-clause-adds c =
    c.loop-second.invariant.adds
    ∙ ap (λ (l : WholeTerms). c.args.pairs.now.items ++ with_first c.args.first.now l)
    (all_read (map (λ item. item.now) c.loop-second.yielded) c.loop-second.second-iterator.rest.now
    _ c.in-None.ensures.steps.0
    (c.loop-second.invariant.so_far ∙ (ap (λ (it : Iter (List ℕ × ℤ)). it.rest.now)
    c.into_iter-second-iterator.ensures.into_iter_gives) ∙ c.iter-second-items.ensures.rest))
