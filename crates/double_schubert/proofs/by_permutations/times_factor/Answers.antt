use Rattle.std.proofs.Common.{◌≡◌, ℕ, List, [], ◌∷◌, ◌++◌, append_assoc, append-nil, refl, sym, ap, ◌∙◌}
use Rattle.std.proofs.Common.{subst, inl, inr, rules, arith, flat_map}
use Rattle.std.specs.Prelude.{Err}
use Rattle.std.proofs.lemmas.Grind.{common_steps}
use Rattle.std.specs.Vec.Iter.{into_iter_items}
use Rattle.sym_model.specs.Permutation.{IsOneLine}
use Rattle.sym_model.specs.Sum.{Among}
use Rattle.sym_model.proofs.Sums.{Among-append_right, Among_from_append}
use Rattle.linear_combinations.proofs.Steps.{error_is}
use Rattle.transition_walk.specs.Waiting.{WithList, Joins}
use Rattle.transition_walk.proofs.JoinedLists.{joins_none}
use Rattle.double_schubert.specs.ByPermutations.{factor_lists}
use Rattle.double_schubert.proofs.FactorLists.{term_joins, term_overflows, whole_value}
use Rattle.double_schubert.proofs.FactorLists.{whole_growth, whole_waiting}
use Rattle.double_schubert.proofs.by_permutations.times_factor.Goals as goal

pub loop-term-init : goal.loop-term-init
loop-term-init c = record {
  joins = subst (λ (l : List (WithList (List ℕ))). Joins [] [] l) (sym c.new-product.ensures.items) (joins_none []);
  lines = λ x m. absurd m;
  so_far = search rules;
}

split : (done rest left all : List (WithList (List ℕ))) (term : WithList (List ℕ)) → left ≡ term ∷ rest → done ++ left ≡ all → done ++ term ∷ rest ≡ all
split done rest left all term e h = ap (λ (xs : List (WithList (List ℕ))). done ++ xs) (sym e) ∙ h

among : (done rest left all : List (WithList (List ℕ))) (term : WithList (List ℕ)) → left ≡ term ∷ rest → done ++ left ≡ all → Among term all
among done rest left all term e h =
    subst (Among term) (split done rest left all term e h) (Among-append_right term done (term ∷ rest) (inl refl))

pub add_product-requires-clause-letters : goal.add_product-requires-clause-letters
add_product-requires-clause-letters c =
    (c.requires.bounds c.in-Some.term (among c.loop-term.yielded (into_iter_items c.next.new.self) _ c.args.sum.items c.in-Some.term
    c.in-Some.ensures.steps.0 c.loop-term.invariant.so_far)).few

pub add_product-requires-clause-degree : goal.add_product-requires-clause-degree
add_product-requires-clause-degree c t m =
    let w = c.requires.bounds c.in-Some.term (among c.loop-term.yielded (into_iter_items c.next.new.self) _ c.args.sum.items c.in-Some.term
    c.in-Some.ensures.steps.0 c.loop-term.invariant.so_far) in
    let l = w.labels t m in
    omega arith

pub loop-term-preserved : goal.loop-term-preserved
loop-term-preserved c = record {
  joins = term_joins c.args.r c.args.c c.loop-term.yielded c.in-Some.term c.loop-term.product.items
      c.loop-term.invariant.joins c.add_product.new.sum.items c.in_ok-add_product.ensures.joins;
  lines = λ x m. elim (Among_from_append x c.loop-term.yielded (c.in-Some.term ∷ []) m) [
    | inl l ↦ c.loop-term.invariant.lines x l
    | inr k ↦ elim k [
      | inl e ↦ subst (λ (y : WithList (List ℕ)). IsOneLine y.perm) (sym e) c.in_ok-add_product.ensures.one_line
      | inr n ↦ absurd n
    ]
  ];
  so_far = append_assoc c.loop-term.yielded (c.in-Some.term ∷ []) (into_iter_items c.next.new.self)
      ∙ split c.loop-term.yielded (into_iter_items c.next.new.self) _ c.args.sum.items c.in-Some.term
      c.in-Some.ensures.steps.0 c.loop-term.invariant.so_far;
}

pub returns-in_err-add_product-clause-large : goal.returns-in_err-add_product-clause-large
returns-in_err-add_product-clause-large c err n top last are =
    term_overflows c.args.r c.args.c c.loop-term.yielded c.in-Some.term c.loop-term.product.items
    c.loop-term.invariant.joins (into_iter_items c.next.new.self) c.args.sum.items n top
    (split c.loop-term.yielded (into_iter_items c.next.new.self) _ c.args.sum.items c.in-Some.term
    c.in-Some.ensures.steps.0 c.loop-term.invariant.so_far)
    c.requires.first last are
    (c.in_err-add_product.ensures.large (ap Err (error_is _ _ _ c.from_residual.ensures.1 err)))

-- if `rest` is empty, the terms `done` are all terms, so `factor_lists` has been added for all terms
module _ (r n : ℕ) (done rest all new : List (WithList (List ℕ))) (none : rest ≡ []) (is : done ++ rest ≡ all) where
  whole : done ≡ all
  whole = sym (append-nil done) ∙ ap (λ (xs : List (WithList (List ℕ))). done ++ xs) (sym none) ∙ is

  added : Joins [] (flat_map (factor_lists r n) done) new → Joins [] (flat_map (factor_lists r n) all) new
  added j = subst (λ (l : List (WithList (List ℕ))). Joins [] (flat_map (factor_lists r n) l) new) whole j

pub returns-clause-value : goal.returns-clause-value
returns-clause-value c φ ψ law =
    let none : into_iter_items c.loop-term.term-iterator ≡ [] = grind (arith, common_steps) in
    whole_value c.args.r c.args.c c.args.sum.items c.loop-term.product.items
    (added c.args.r c.args.c c.loop-term.yielded _ c.args.sum.items c.loop-term.product.items none
    c.loop-term.invariant.so_far c.loop-term.invariant.joins) φ ψ
    (subst (λ (l : List (WithList (List ℕ))). (x : WithList (List ℕ)) → Among x l → IsOneLine x.perm)
    (whole c.args.r c.args.c c.loop-term.yielded _ c.args.sum.items c.loop-term.product.items none
    c.loop-term.invariant.so_far) c.loop-term.invariant.lines) law

pub returns-clause-bounds : goal.returns-clause-bounds
returns-clause-bounds c n top last are =
    let none : into_iter_items c.loop-term.term-iterator ≡ [] = grind (arith, common_steps) in
    whole_waiting c.args.r c.args.c c.args.sum.items c.loop-term.product.items
    (added c.args.r c.args.c c.loop-term.yielded _ c.args.sum.items c.loop-term.product.items none
    c.loop-term.invariant.so_far c.loop-term.invariant.joins) n top c.requires.first last are

pub returns-clause-weight : goal.returns-clause-weight
returns-clause-weight c n top last are =
    let none : into_iter_items c.loop-term.term-iterator ≡ [] = grind (arith, common_steps) in
    whole_growth c.args.r c.args.c c.args.sum.items c.loop-term.product.items
    (added c.args.r c.args.c c.loop-term.yielded _ c.args.sum.items c.loop-term.product.items none
    c.loop-term.invariant.so_far c.loop-term.invariant.joins) n top c.requires.first last are
