use Rattle.std.proofs.Common.{Iter, ◌≡◌, ◌≤◌, ℕ, ℤ, List, [], ◌∷◌, ◌++◌, ◌+◌, ◌*◌, nat_abs, map, rules}
use Rattle.std.proofs.Common.{sym, ap, ap₂, subst, ◌∙◌, arith, to_z-of_z}
use Rattle.std.proofs.lemmas.List.{map-append}
use Rattle.sym_model.specs.Sum.{Among}
use Rattle.sym_model.specs.Partition.{rows}
use Rattle.sym_model.specs.Polynomial.{resize}
use Rattle.sym_model.proofs.Lists.{all_read}
use Rattle.linear_combinations.proofs.Gains.{all_pairs, so_far_next, next_among}
use Rattle.lr_product.specs.Capped.{Agree}
use Rattle.lr_product.specs.StateCounts.{StateCounts}
use Rattle.lr_product.specs.WeighedSum.{started, weighed}
use Rattle.lr_product.proofs.Agreeing.{agree_same, agree_then, agree_sum}
use Rattle.lr_product.proofs.ManyStarts.{started-push}
use Rattle.lr_product.proofs.next_factor.starts_of.Goals as goal

-- one more term, whose label and whose coefficient's absolute value are given
next_start : (n : ℕ) (f : List ℕ → List ℕ → ℕ) (done : List (List ℕ × ℤ)) (p : List ℕ × ℤ) (all : List (List ℕ × ℤ)) (parts : List ℕ) (count total : ℕ)
    → parts ≡ p.0 → count ≡ nat_abs p.1 → done ++ p ∷ [] ≡ all → Agree total (started n f done)
    → Agree (total + count * f (resize n parts) []) (started n f all)
next_start n f done p all parts count total is size pushed before =
    agree_then _ _ _ (agree_sum _ _ (count * f (resize n parts) []) before)
    (agree_same _ _ (ap (λ x. started n f done + x) (ap₂ ◌*◌ size (ap (λ l. f (resize n l) []) is)) ∙ started-push n f done p ∙ ap (started n f) pushed))

pub loop-label-init : goal.loop-label-init
loop-label-init c = search (rules, agree_same)

pub add_start-requires-clause-rows : goal.add_start-requires-clause-rows
add_start-requires-clause-rows c =
    let done : List (List ℕ × ℤ) = map (λ item. item.now) c.loop-label.yielded in
    let p : List ℕ × ℤ = c.in-Some.field-0.now in
    let rest = c.next.new.self.rest.now in
    let all = all_pairs done rest c.loop-label.label-iterator.rest.now _ _ c.args.product.now p
    c.in-Some.ensures.steps c.loop-label.invariant.so_far
    (ap (λ (it : Iter (List ℕ × ℤ)). it.rest.now)
    c.into_iter-label-iterator.ensures.into_iter_gives) c.iter-label-items.ensures.rest in
    let few : rows p.0 ≤ c.args.letters = c.requires.rows p (subst (λ l. Among p l) all (next_among done p rest)) in
    search rules

pub add_start-requires-clause-width : goal.add_start-requires-clause-width
add_start-requires-clause-width c = c.loop-label.invariant.width

pub add_start-requires-clause-count : goal.add_start-requires-clause-count
add_start-requires-clause-count c = omega arith

pub loop-label-preserved : goal.loop-label-preserved
loop-label-preserved c =
    let n = c.args.letters in
    let done : List (List ℕ × ℤ) = map (λ item. item.now) c.loop-label.yielded in
    let p : List ℕ × ℤ = c.in-Some.field-0.now in
    let rest = c.next.new.self.rest.now in
    let pushed : done ++ p ∷ [] ≡ map (λ item. item.now) (c.loop-label.yielded ++ c.in-Some.field-0
    ∷ []) =
    sym (map-append (λ item. item.now) c.loop-label.yielded (c.in-Some.field-0 ∷ [])) in
    record {
      width = search rules;
      counts = λ f. agree_then _ _ _ (c.in_ok-add_start.ensures.adds f)
          (next_start n f done p _ _ _ _ (search rules) (search (rules, to_z-of_z)) pushed (c.loop-label.invariant.counts f));
      so_far = so_far_next done rest c.loop-label.label-iterator.rest.now _ _ p pushed
          c.in-Some.ensures.steps c.loop-label.invariant.so_far;
    }

pub returns : goal.returns
returns c f =
    agree_then _ _ _ (agree_same _ _ (ap (λ (t : StateCounts). weighed c.args.letters f t.entries)
    c.into_states.ensures))
    (subst (λ (l : List (List ℕ × ℤ)). (f : List ℕ → List ℕ → ℕ) →
    Agree (weighed c.args.letters f c.loop-label.table.entries) (started c.args.letters f l))
    (all_read (map (λ item. item.now) c.loop-label.yielded) c.loop-label.label-iterator.rest.now _
    c.in-None.ensures.steps.0 (c.loop-label.invariant.so_far
    ∙ (ap (λ (it : Iter (List ℕ × ℤ)). it.rest.now)
    c.into_iter-label-iterator.ensures.into_iter_gives) ∙ c.iter-label-items.ensures.rest))
    c.loop-label.invariant.counts f)
