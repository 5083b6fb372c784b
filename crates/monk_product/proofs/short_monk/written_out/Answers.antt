use Rattle.std.proofs.Common.{Iter, ◌≡◌, List, ℕ, ℤ, [], ◌∷◌, ◌++◌, map, refl, sym, ap, ap₂, ◌∙◌, subst}
use Rattle.std.specs.Prelude.{Option, Some, None, IsSome}
use Rattle.std.specs.Option.{SomeIff}
use Rattle.std.proofs.lemmas.List.{map-append}
use Rattle.sym_model.proofs.Lists.{all_read}
use Rattle.sym_model.specs.LabelLimits.{is_permutation_label}
use Rattle.sym_model.specs.PrintedOrder.{permutation_order}
use Rattle.fraction_laws.specs.Fractions.{whole}
use Rattle.linear_combinations.specs.Entries.{IsCanonicalList}
use Rattle.linear_combinations.proofs.Gains.{so_far_next}
use Rattle.monk_product.proofs.short_monk.written_out.Goals as goal

pub loop-w-init : goal.loop-w-init
loop-w-init c = record { written = c.in_ok-pairs.ensures.items; so_far = refl }

pub loop-w-preserved : goal.loop-w-preserved
loop-w-preserved c =
    let inv = c.loop-w.invariant in
    let done = map (λ item. item.now) c.loop-w.yielded in
    let p : List ℕ × ℤ = c.in-Some.field-0.now in
    let rest = c.next.new.self.rest.now in
    let pushed : done ++ p ∷ [] ≡ map (λ item. item.now) (c.loop-w.yielded ++ c.in-Some.field-0
    ∷ []) =
    sym (map-append (λ item. item.now) c.loop-w.yielded (c.in-Some.field-0 ∷ [])) in
    record {
      written = c.in_ok-push.ensures.items
          ∙ ap₂ (λ (xs : List (List ℕ × ℤ)) (x : List ℕ). xs ++ (x, p.1) ∷ []) inv.written
          c.in_ok-perm.ensures
          ∙ pushed;
      so_far = so_far_next done rest c.loop-w.w-iterator.rest.now _ _ p pushed
          c.in-Some.ensures.steps inv.so_far;
    }

some : {T : Type 0} (o : Option T) (P : Type 0) (v : T) → SomeIff o P v → P → IsSome o
some None P v n p = absurd (n p)
some (Some x) P v n p = refl

pub unwrap-requires : goal.unwrap-requires
unwrap-requires c =
    let all : c.loop-w.pairs.items ≡ c.args.terms =
    c.loop-w.invariant.written
    ∙ all_read (map (λ item. item.now) c.loop-w.yielded) c.loop-w.w-iterator.rest.now _
    c.in-None.ensures.steps.0 (c.loop-w.invariant.so_far
    ∙ (ap (λ (it : Iter (List ℕ × ℤ)). it.rest.now)
    c.into_iter-w-iterator.ensures.into_iter_gives) ∙ c.iter-w-items.ensures.rest) in
    some c.from_pairs.result
    (IsCanonicalList permutation_order is_permutation_label whole c.loop-w.pairs.items)
    c.loop-w.pairs.items c.from_pairs.ensures
    (subst (IsCanonicalList permutation_order is_permutation_label whole) (sym all)
    c.len.ensures.canonical)

same : {T : Type 0} (o : Option T) (P : Type 0) (v x : T) → SomeIff o P v → o ≡ Some x → x ≡ v
same None P v x n e = cc
same (Some y) P v x n e = let i : y ≡ v = n.1 in cc

pub returns : goal.returns
returns c =
    let all : c.loop-w.pairs.items ≡ c.args.terms =
    c.loop-w.invariant.written
    ∙ all_read (map (λ item. item.now) c.loop-w.yielded) c.loop-w.w-iterator.rest.now _
    c.in-None.ensures.steps.0 (c.loop-w.invariant.so_far
    ∙ (ap (λ (it : Iter (List ℕ × ℤ)). it.rest.now)
    c.into_iter-w-iterator.ensures.into_iter_gives) ∙ c.iter-w-items.ensures.rest) in
    same c.from_pairs.result
    (IsCanonicalList permutation_order is_permutation_label whole c.loop-w.pairs.items)
    c.loop-w.pairs.items c.unwrap.result c.from_pairs.ensures c.unwrap.ensures ∙ all
