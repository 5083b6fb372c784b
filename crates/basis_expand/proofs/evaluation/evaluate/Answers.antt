use Rattle.std.proofs.Common.{◌≡◌, [], map, sym, ◌∙◌, ap, subst, arith, rules}
use Rattle.std.specs.List.{All}
use Rattle.std.specs.Vec.Iter.{into_iter_items}
use Rattle.std.proofs.lemmas.Grind.{common_steps}
use Rattle.std.proofs.lemmas.List.Elements.{All-head, All-rest}
use Rattle.basis_expand.specs.Postorder.{postorder, Evaluates}
use Rattle.expression_reading.specs.Trees.{tree_of}
use Rattle.basis_expand.proofs.Evaluations.{All-postorder, evaluates-all, evaluates-next}
use Rattle.basis_expand.proofs.Evaluations.{values-taken}
use Rattle.basis_expand.proofs.Making.{failed-part, done}
use Rattle.basis_expand.proofs.Parts.{IsPart, parts-operands, within-itself}
use Rattle.basis_expand.proofs.evaluation.evaluate.Goals as goal

pub loop-node-init : goal.loop-node-init
loop-node-init g c =
    let e = c.args.tree.now in
    let gives : into_iter_items c.into_iter-node-iterator.result ≡ c.in_ok-nodes.nodes.items =
    c.into_iter-node-iterator.ensures.into_iter_gives.0 in
    let all : map (λ n. n.now) (into_iter_items c.into_iter-node-iterator.result)
    ≡ postorder c.args.tree.now =
    ap (map (λ n. n.now)) gives ∙ c.in_ok-nodes.ensures in
    let whole : IsPart e e = record { plain = c.requires.plain; light = within-itself (tree_of e) }
    in
    record {
      evaluates =
          subst (Evaluates (λ n. g.T.Target.stands c.args.target.now (tree_of n)) e
          (map (λ n. n.now) (into_iter_items c.into_iter-node-iterator.result)))
          (sym c.new-values.ensures.items)
          (subst (λ nodes. Evaluates (λ n. g.T.Target.stands c.args.target.now (tree_of n)) e nodes
          []) (sym all) (evaluates-all (λ n. g.T.Target.stands c.args.target.now (tree_of n))
          e));
      parts = subst (All (IsPart e)) (sym all) (All-postorder (IsPart e) (parts-operands e) e
          whole);
    }

pub loop-node-preserved : goal.loop-node-preserved
loop-node-preserved g c =
    let e = c.args.tree.now in
    let next = ap (map (λ n. n.now)) c.in-Some.ensures.steps.0 in
    let left = map (λ n. n.now) (into_iter_items c.next.new.self) in
    record {
      evaluates =
          evaluates-next (λ n. g.T.Target.stands c.args.target.now (tree_of n)) e c.in-Some.node.now
          left c.loop-node.values.items c.value_of.new.values.items c.push.new.self.items
          c.in_ok-value.value
          (subst (λ nodes. Evaluates (λ n. g.T.Target.stands c.args.target.now (tree_of n)) e nodes
          c.loop-node.values.items) next c.loop-node.invariant.evaluates)
          c.in_ok-value.ensures.taken c.in_ok-value.ensures.value.ok c.in_ok-push.ensures.items;
      parts = All-rest (IsPart e) c.in-Some.node.now left _ next c.loop-node.invariant.parts;
    }

pub value_of-requires-clause-plain : goal.value_of-requires-clause-plain
value_of-requires-clause-plain g c =
    let parts = subst (All (IsPart c.args.tree.now))
    (ap (map (λ n. n.now)) c.in-Some.ensures.steps.0) c.loop-node.invariant.parts in
    (All-head (IsPart c.args.tree.now) c.in-Some.node.now
    (map (λ n. n.now) (into_iter_items c.next.new.self)) parts).plain

pub value_of-requires-clause-low : goal.value_of-requires-clause-low
value_of-requires-clause-low g c =
    let parts = subst (All (IsPart c.args.tree.now))
    (ap (map (λ n. n.now)) c.in-Some.ensures.steps.0) c.loop-node.invariant.parts in
    let within = (All-head (IsPart c.args.tree.now) c.in-Some.node.now
    (map (λ n. n.now) (into_iter_items c.next.new.self)) parts).light.deg in
    let low = c.requires.low in
    omega arith

pub returns-in_err-value : goal.returns-in_err-value
returns-in_err-value g c =
    let e = c.args.tree.now in
    let target = c.args.target.now in
    let parts = subst (All (IsPart c.args.tree.now))
    (ap (map (λ n. n.now)) c.in-Some.ensures.steps.0) c.loop-node.invariant.parts in
    let is = All-head (IsPart c.args.tree.now) c.in-Some.node.now
    (map (λ n. n.now) (into_iter_items c.next.new.self)) parts in
    failed-part (g.T.Target.stands target) (g.T.Target.heavy target) (tree_of e)
    (tree_of c.in-Some.node.now) _ _
    c.from_residual-in_err-value.ensures.0 c.from_residual-in_err-value.ensures.1
    c.in_err-value.ensures.value
    (g.met.T.Target.grows target (tree_of c.in-Some.node.now) (tree_of e) is.light)

pub returns : goal.returns
returns g c = search (rules, common_steps, done, values-taken)
