use Rattle.std.proofs.Common.{◌≡◌, [], ◌∷◌, ◌++◌, length, sym, ◌∙◌, ap, arith, pos, ◌*ℤ◌, refl, rules}
use Rattle.std.proofs.Common.{append_assoc, append-nil, to_z-of_z}
use Rattle.std.specs.Prelude.{FitsSigned}
use Rattle.std.specs.Int.{w128}
use Rattle.std.specs.Vec.Iter.{into_iter_items}
use Rattle.std.proofs.lemmas.Grind.{common_steps}
use Rattle.std.proofs.lemmas.Result.{on_ok_weaker}
use Rattle.fraction_laws.specs.Fractions.{scaled, whole, fraction_product}
use Rattle.sym_model.specs.Polynomial.{pair, times}
use Rattle.sym_model.specs.Schur.{schur}
use Rattle.sym_model.specs.WholeTerms.{WholeTerms}
use Rattle.linear_combinations.specs.Gains.{scaled as multiple}
use Rattle.linear_combinations.proofs.Gains.{scaled_append}
use Rattle.linear_combinations.proofs.Cleared.{Gains-none, Gains-next}
use Rattle.sparse_polys.proofs.ClearedSums.{Gains-term}
use Rattle.basis_expand.specs.SchurLists.{product_at}
use Rattle.basis_expand.proofs.ListProducts.{counted, listed_product, nothing_left}
use Rattle.basis_expand.proofs.ListProducts.{nothing_right}
use Rattle.basis_expand.proofs.SchurTables.{ComeTo-one}
use Rattle.basis_expand.proofs.schur_products.add_pair.Goals as goal

pub loop-shape-init : goal.loop-shape-init
loop-shape-init c = search (rules, Gains-none)

pub loop-shape-preserved : goal.loop-shape-preserved
loop-shape-preserved c =
    let k = c.in-Some.shape in
    let v = c.in-Some.count in
    let fits : FitsSigned w128 c.get.result = record { sfits = c.get.type_inv } in
    let number : c.from_whole.result ≡ whole c.in-Some.count = c.from_whole.ensures.value ∙ ap whole
    (to_z-of_z fits ∙ c.get.ensures) in
    record {
      gains =
          λ q den cleared.
          let before = c.loop-shape.invariant.gains q den cleared in
          let p = counted q c.args.c c.in-Some-mul.product v c.mul.ensures.held.0.lowest
          (c.in-Some-mul.ensures.answer.value ∙ ap (fraction_product c.args.c) number)
          den.positive den.multiple in
          let done = c.loop-shape.yielded in
          let z = scaled q c.args.c in
          Gains-next (multiple z) (scaled_append z) q done (k, v)
          c.args.sum.now c.loop-shape.sum before (done ++ (k, v) ∷ []) c.add_term.new.self refl
          (Gains-term q c.loop-shape.sum c.add_term.new.self k c.in-Some-mul.product
          c.add_term.ensures.tables.before.combination c.add_term.ensures.tables.after.combination
          c.in-Some-mul.ensures.held_product.lowest den.positive p.0 before.cleared
          c.in_ok-add_term.ensures.ok (z *ℤ v) p.1);
      so_far =
          append_assoc c.loop-shape.yielded ((k, v) ∷ []) (into_iter_items c.next.new.self)
          ∙ ap (λ (xs : WholeTerms). c.loop-shape.yielded ++ xs) (sym c.in-Some.ensures.steps.0)
          ∙ c.loop-shape.invariant.so_far;
    }

pub returns : goal.returns
returns c =
    let none : into_iter_items c.loop-shape.shape-iterator ≡ [] = grind (arith, common_steps) in
    let all : c.loop-shape.yielded ≡ into_iter_items c.into_iter-shape-iterator.result =
    sym (append-nil c.loop-shape.yielded) ∙ ap (λ (xs : WholeTerms). c.loop-shape.yielded ++ xs)
    (sym none) ∙ c.loop-shape.invariant.so_far in
    let told : c.loop-shape.yielded ≡ c.in_ok-terms.terms =
    all ∙ c.into_iter-shape-iterator.ensures.into_iter_gives in (
      c.loop-shape.yielded,
      λ n φ.
          ap (λ (l : WholeTerms). pair l (λ label. pair (schur label n) φ)) told
          ∙ listed_product c.in_ok-terms.terms n (times (schur c.args.left.now n)
          (schur c.args.right.now n)) (c.in_ok-terms.ensures.meets n) φ,
      c.loop-shape.invariant.gains,
    )

pub returns-then-rows-eq0 : goal.returns-then-rows-eq0
returns-then-rows-eq0 c =
    let left = c.args.left.now in
    let right = c.args.right.now in
    let none : length left ≡ 0 = let r = c.rows.ensures.value in let z =
    c.if-rows-eq0.true in omega arith in
    on_ok_weaker c.add_multiple.result
    (λ gains. (
      (right, pos 1) ∷ [],
      ComeTo-one right (λ n φ. product_at left right n φ) (nothing_left left right none),
      gains,
    ))
    c.add_multiple.ensures

pub returns-then-rows-eq0-2 : goal.returns-then-rows-eq0-2
returns-then-rows-eq0-2 c =
    let left = c.args.left.now in
    let right = c.args.right.now in
    let none : length right ≡ 0 = let r = c.rows-2.ensures.value in let z =
    c.if-rows-eq0-2.true in omega arith in
    on_ok_weaker c.add_multiple-then-rows-eq0-2.result
    (λ gains. (
      (left, pos 1) ∷ [],
      ComeTo-one left (λ n φ. product_at left right n φ) (nothing_right left right none),
      gains,
    ))
    c.add_multiple-then-rows-eq0-2.ensures
