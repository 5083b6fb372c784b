use Rattle.std.proofs.Common.{◌≡◌, [], ◌∷◌, ◌++◌, append_assoc, append-nil, sym, ap, ◌∙◌, subst, rules, arith, ◌*ℤ◌, refl}
use Rattle.std.proofs.lemmas.Grind.{common_steps}
use Rattle.std.specs.Vec.Iter.{into_iter_items}
use Rattle.sym_model.specs.Polynomial.{pair}
use Rattle.sym_model.specs.Schur.{schur}
use Rattle.sym_model.specs.Sum.{Among}
use Rattle.sym_model.specs.WholeTerms.{WholeTerms}
use Rattle.linear_combinations.proofs.Gains.{next_among}
use Rattle.stanley_expand.specs.Blocks.{IsAdded, summed}
use Rattle.stanley_expand.proofs.SumsAdded.{none_added, both_added, term_added, multiple_next}
use Rattle.stanley_expand.proofs.Tables.{still_all}
use Rattle.stanley_expand.proofs.products.add_multiple.Goals as goal
use lib.IntN.{*ℤ-zero}

pub loop-shape-init : goal.loop-shape-init
loop-shape-init c = record {
  added = none_added c.args.rows c.args.sum.now (λ φ. c.args.count *ℤ summed c.args.rows φ []) (λ φ. *ℤ-zero c.args.count);
  so_far = search rules;
}

pub loop-shape-preserved : goal.loop-shape-preserved
loop-shape-preserved c =
    let done = c.loop-shape.yielded in
    let κ = c.in-Some.shape in
    let z = c.in-Some.more in
    let all = still_all done (into_iter_items c.next.new.self) (into_iter_items c.loop-shape.shape-iterator) c.args.terms (κ, z)
    c.in-Some.ensures.steps.0 c.loop-shape.invariant.so_far in
    let few = c.requires (κ, z) (subst (λ (l : WholeTerms). Among (κ, z) l) all (next_among done (κ, z) (into_iter_items c.next.new.self))) in
    record {
      added = both_added c.args.rows c.args.sum.now (λ φ. c.args.count *ℤ summed c.args.rows φ done) c.loop-shape.sum
          (λ φ. c.in_ok-product.product *ℤ pair (schur κ c.args.rows) φ) c.add_owned.new.self
          (λ φ. c.args.count *ℤ summed c.args.rows φ (done ++ (κ, z) ∷ []))
          (λ φ. multiple_next c.args.count c.in_ok-product.product (λ ν. pair (schur ν c.args.rows) φ) done (done ++ (κ, z) ∷ []) κ z c.in_ok-product.ensures refl)
          c.loop-shape.invariant.added
          (term_added c.args.rows κ c.in_ok-product.product c.loop-shape.sum c.add_owned.new.self few
          c.in_ok-add_owned.ensures.gains c.in_ok-add_owned.ensures.table c.in_ok-add_owned.ensures.held);
      so_far =
          append_assoc done ((κ, z) ∷ []) (into_iter_items c.next.new.self)
          ∙ all;
    }

pub returns : goal.returns
returns c =
    let none : into_iter_items c.loop-shape.shape-iterator ≡ [] = grind (arith, common_steps) in
    let all : c.loop-shape.yielded ≡ c.args.terms =
    sym (append-nil c.loop-shape.yielded) ∙ ap (λ (xs : WholeTerms). c.loop-shape.yielded ++ xs)
    (sym none) ∙ c.loop-shape.invariant.so_far in
    subst (λ (xs : WholeTerms). IsAdded c.args.rows c.args.sum.now (λ φ. c.args.count *ℤ summed c.args.rows φ xs) c.loop-shape.sum) all
    c.loop-shape.invariant.added
