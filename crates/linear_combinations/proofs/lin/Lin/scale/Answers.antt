use Rattle.std.proofs.Common.{◌≡◌, ℕ, ◌+◌, [], ◌∷◌, ◌++◌, length, pos, true, refl, sym, ap, ◌∙◌}
use Rattle.std.proofs.Common.{subst, append_assoc, rules}
use Rattle.std.specs.Prelude.{Some, IfSome, slice_get}
use Rattle.std.specs.List.{IsDistinct}
use Rattle.std.specs.Map.{keys_of}
use Rattle.indexmap.specs.Layout.{set_value_at}
use Rattle.fraction_laws.specs.Fractions.{whole, InLowestTerms, fraction_product}
use Rattle.fraction_laws.proofs.FractionLaws.{product_comm}
use Rattle.sym_model.specs.Sum.{Among}
use Rattle.linear_combinations.specs.Entries.{coefficient, IsCombination, IsMultipleOf}
use Rattle.linear_combinations.proofs.LowestTerms.{product-zero}
use Rattle.linear_combinations.proofs.Steps.{all_done}
use Rattle.linear_combinations.proofs.Tables.{lowest-coefficient}
use Rattle.linear_combinations.proofs.Gains.{next_among}
use Rattle.linear_combinations.proofs.Multiples.{held-Relates, zero_product, Relates, IsProduct}
use Rattle.linear_combinations.proofs.Multiples.{Relates-push, keys-Relates, next_at, set_next}
use Rattle.linear_combinations.proofs.Multiples.{place_within, rest_empty}
use Rattle.linear_combinations.proofs.Multiples.{IsMultipleOf-Relates, are_terms-Relates}
use Rattle.linear_combinations.proofs.Multiples.{fits-Relates}
use Rattle.linear_combinations.proofs.lin.Lin.scale.Goals as goal
use Rattle.std.proofs.lemmas.List.{length-append}

pub loop-at-init : goal.loop-at-init
loop-at-init g c = (
  [],
  [],
  c.self.inside.table.entries,
  record { was = refl; now = refl; products = tt; place = refl; ends = c.len-at-end.ensures.len },
)

pub pair_at-a-requires : goal.pair_at-a-requires
pair_at-a-requires g c =
    let eq = g.L.PartialEq.eq in
    let value = g.R.Scalar.value in
    let checked = g.R.Ring.checked_product in
    let old = c.self.inside.table.entries in
    let before = c.loop-at.invariant.0 in
    let done = c.loop-at.invariant.1 in
    let rest = c.loop-at.invariant.2 in
    let inv = c.loop-at.invariant.3 in
    place_within (IsProduct g.R.Scalar.is_held value checked g.R.Ring.product c.args.c) before done
    rest old c.loop-at.table.entries c.loop-at.at c.len-at-end.result inv.was inv.now
    inv.products inv.place inv.ends c.loop-at-test.true

pub put_at-requires : goal.put_at-requires
put_at-requires g c =
    let eq = g.L.PartialEq.eq in
    let value = g.R.Scalar.value in
    let checked = g.R.Ring.checked_product in
    let old = c.self.inside.table.entries in
    let before = c.loop-at.invariant.0 in
    let done = c.loop-at.invariant.1 in
    let rest = c.loop-at.invariant.2 in
    let inv = c.loop-at.invariant.3 in
    place_within (IsProduct g.R.Scalar.is_held value checked g.R.Ring.product c.args.c) before done
    rest old c.loop-at.table.entries c.loop-at.at c.len-at-end.result inv.was inv.now
    inv.products inv.place inv.ends c.loop-at-test.true

pub returns-in_err-ok_or-clause-large : goal.returns-in_err-ok_or-clause-large
returns-in_err-ok_or-clause-large g c =
    let eq = g.L.PartialEq.eq in
    let value = g.R.Scalar.value in
    let checked = g.R.Ring.checked_product in
    let old = c.self.inside.table.entries in
    let before = c.loop-at.invariant.0 in
    let done = c.loop-at.invariant.1 in
    let rest = c.loop-at.invariant.2 in
    let inv = c.loop-at.invariant.3 in
    let k = c.pair_at-a.result.0.now in
    let a = c.pair_at-a.result.1 in
    let p : g.row.L.Denot × g.row.R.Denot = (k, a) in
    let here : slice_get (done ++ rest) (length done) ≡ Some p =
    subst (λ (n : ℕ). slice_get (done ++ rest) n ≡ Some p) (sym inv.place)
    (subst (λ es. slice_get es c.loop-at.at ≡ Some p) inv.now c.pair_at-a.ensures.pair) in
    let next = next_at done rest p here in
    let tail = next.0 in
    let all : before ++ (k, a) ∷ tail ≡ old = ap (λ es. before ++ es) (sym next.1) ∙ inv.was in
    let among : Among p c.args.self = subst (Among p) (all ∙ c.self.view_is)
    (next_among before p tail) in (
      λ large. (
        p,
        among,
        record {
          left_held = c.mul.ensures.held.0;
          right_held = c.mul.ensures.held.1;
          refused = sym c.mul.ensures.product ∙ c.in_err-ok_or.ensures.ok_part;
        },
      ),
      λ r. search rules,
    )

pub loop-at-preserved : goal.loop-at-preserved
loop-at-preserved g c =
    let eq = g.L.PartialEq.eq in
    let value = g.R.Scalar.value in
    let checked = g.R.Ring.checked_product in
    let old = c.self.inside.table.entries in
    let before = c.loop-at.invariant.0 in
    let done = c.loop-at.invariant.1 in
    let rest = c.loop-at.invariant.2 in
    let inv = c.loop-at.invariant.3 in
    let k = c.pair_at-a.result.0.now in
    let a = c.pair_at-a.result.1 in
    let p : g.row.L.Denot × g.row.R.Denot = (k, a) in
    let here : slice_get (done ++ rest) (length done) ≡ Some p =
    subst (λ (n : ℕ). slice_get (done ++ rest) n ≡ Some p) (sym inv.place)
    (subst (λ es. slice_get es c.loop-at.at ≡ Some p) inv.now c.pair_at-a.ensures.pair) in
    let next = next_at done rest p here in
    let tail = next.0 in
    let product = c.in_ok-ok_or.field-0 in
    let x = value c.args.c in
    let held : g.R.Scalar.is_held product = subst (λ o. IfSome o g.R.Scalar.is_held)
    c.in_ok-ok_or.ensures.ok_part c.mul.ensures.held_product in
    let answer : checked a c.args.c ≡ Some product = sym c.mul.ensures.product
    ∙ c.in_ok-ok_or.ensures.ok_part in
    let is : value product ≡ fraction_product (value a) x =
    subst (λ o. IfSome o (λ s. value s ≡ fraction_product (value a) x))
    c.in_ok-ok_or.ensures.ok_part c.mul.ensures.answer.value in (
      before ++ (k, a) ∷ [],
      done ++ (k, product) ∷ [],
      tail,
      record {
        was = append_assoc before ((k, a) ∷ []) tail ∙ ap (λ es. before ++ es) (sym next.1)
            ∙ inv.was;
        now = c.put_at.ensures.entries ∙ ap (λ es. set_value_at es c.loop-at.at product) inv.now
            ∙ ap (λ (n : ℕ). set_value_at (done ++ rest) n product) (sym inv.place)
            ∙ ap (λ es. set_value_at (done ++ es) (length done) product) next.1
            ∙ set_next done tail k a product ∙ sym (append_assoc done ((k, product) ∷ []) tail);
        products = Relates-push (IsProduct g.R.Scalar.is_held value checked g.R.Ring.product
            c.args.c) before done k a product inv.products (
              answer,
              g.met.R.Ring.product_is a c.args.c product answer,
              is,
              g.met.R.Scalar.lowest
                  product held,
              held,
            );
        place = length-append done ((k, product) ∷ []) ∙ ap (λ (n : ℕ). n + 1) inv.place;
        ends = inv.ends;
      },
    )

pub returns-then-vanishes-clause-product : goal.returns-then-vanishes-clause-product
returns-then-vanishes-clause-product g c =
    let eq = g.L.PartialEq.eq in
    let value = g.R.Scalar.value in
    let zero = g.R.Scalar.zero in
    let self = c.args.self in
    let same = g.met.R.Scalar.same_value in
    let none : c.args.c ≡ zero = same c.args.c zero
    (c.is_zero-vanishes.ensures.zero.0 c.if-vanishes.true ∙ sym g.met.R.Scalar.zero_value.0) in
    let is : IsCombination eq g.L.Label.is_label value self =
    subst (IsCombination eq g.L.Label.is_label value) c.self.view_is
    c.self.invariant.combination in
    λ label.
    let a = coefficient eq zero self label in
    let low = lowest-coefficient g.met.L.Eq.laws g.met.L.Label.same_label g.L.Label.is_label value
    zero (g.met.R.Scalar.lowest zero g.met.R.Scalar.zero_value.1) self is.proper label in
    ap (λ es. coefficient eq zero es label) c.new.ensures
    ∙ sym (same (g.R.Ring.product a c.args.c) zero
    (g.met.R.Ring.product_value a c.args.c ∙ ap (λ r. fraction_product (value a) (value r)) none
    ∙ ap (fraction_product (value a)) g.met.R.Scalar.zero_value.0
    ∙ product_comm (value a) (whole (pos 0)) ∙ product-zero (value a) low
    ∙ sym g.met.R.Scalar.zero_value.0))

pub returns-then-vanishes-clause-large : goal.returns-then-vanishes-clause-large
returns-then-vanishes-clause-large g c =
    let eq = g.L.PartialEq.eq in
    let value = g.R.Scalar.value in
    let checked = g.R.Ring.checked_product in
    let old = c.self.inside.table.entries in
    let before = c.loop-at.invariant.0 in
    let done = c.loop-at.invariant.1 in
    let rest = c.loop-at.invariant.2 in
    let inv = c.loop-at.invariant.3 in
    let P = IsProduct g.R.Scalar.is_held value checked g.R.Ring.product c.args.c in
    let now = c.loop-at.table.entries in
    let none = rest_empty P before done rest old now c.loop-at.at c.len-at-end.result
    inv.was inv.now inv.products inv.place inv.ends c.loop-at-test.false in
    let first : before ≡ old = all_done before rest _ _ none inv.was refl in
    let second : done ≡ now = all_done done rest _ _ none (sym inv.now) refl in
    let related : Relates P old now = subst (λ ys. Relates P old ys) second
    (subst (λ xs. Relates P xs done) first inv.products) in (
      λ e. cc,
      λ r. absurd (fits-Relates eq g.L.Label.is_label g.R.Scalar.is_held value checked
          g.R.Ring.product c.args.c old now related r.0
          (subst (Among r.0) (sym c.self.view_is) r.1) r.2),
    )

pub invariant_of-result : goal.invariant_of-result
invariant_of-result g c =
    let eq = g.L.PartialEq.eq in
    let value = g.R.Scalar.value in
    let checked = g.R.Ring.checked_product in
    let old = c.self.inside.table.entries in
    let before = c.loop-at.invariant.0 in
    let done = c.loop-at.invariant.1 in
    let rest = c.loop-at.invariant.2 in
    let inv = c.loop-at.invariant.3 in
    let P = IsProduct g.R.Scalar.is_held value checked g.R.Ring.product c.args.c in
    let now = c.loop-at.table.entries in
    let none = rest_empty P before done rest old now c.loop-at.at c.len-at-end.result
    inv.was inv.now inv.products inv.place inv.ends c.loop-at-test.false in
    let first : before ≡ old = all_done before rest _ _ none inv.was refl in
    let second : done ≡ now = all_done done rest _ _ none (sym inv.now) refl in
    let related : Relates P old now = subst (λ ys. Relates P old ys) second
    (subst (λ xs. Relates P xs done) first inv.products) in
    let low : InLowestTerms (value c.args.c) = g.met.R.Scalar.lowest c.args.c
    c.is_zero-vanishes.ensures.held in
    let other : value c.args.c ≡ whole (pos 0) → ⊥ = λ e. let t : c.is_zero-vanishes.result ≡ true =
    c.is_zero-vanishes.ensures.zero.1 e in let f = c.if-vanishes.false in cc in
    let keys : keys_of old ≡ keys_of now = sym (keys-Relates P old now related) in
    record {
      combination = record {
        distinct = subst (IsDistinct eq) keys c.self.invariant.combination.distinct;
        proper = are_terms-Relates eq g.L.Label.is_label g.R.Scalar.is_held value checked
            g.R.Ring.product c.args.c low other old now related c.self.invariant.combination.proper;
      };
      held = held-Relates eq g.L.Label.is_label g.R.Scalar.is_held value checked g.R.Ring.product
          c.args.c g.R.Scalar.zero g.met.R.Scalar.zero_value.1 old now related;
    }

pub returns-clause-combination : goal.returns-clause-combination
returns-clause-combination g c = (invariant_of-result g c).combination

pub returns-clause-product : goal.returns-clause-product
returns-clause-product g c =
    let eq = g.L.PartialEq.eq in
    let value = g.R.Scalar.value in
    let checked = g.R.Ring.checked_product in
    let old = c.self.inside.table.entries in
    let before = c.loop-at.invariant.0 in
    let done = c.loop-at.invariant.1 in
    let rest = c.loop-at.invariant.2 in
    let inv = c.loop-at.invariant.3 in
    let P = IsProduct g.R.Scalar.is_held value checked g.R.Ring.product c.args.c in
    let now = c.loop-at.table.entries in
    let none = rest_empty P before done rest old now c.loop-at.at c.len-at-end.result
    inv.was inv.now inv.products inv.place inv.ends c.loop-at-test.false in
    let first : before ≡ old = all_done before rest _ _ none inv.was refl in
    let second : done ≡ now = all_done done rest _ _ none (sym inv.now) refl in
    let related : Relates P old now = subst (λ ys. Relates P old ys) second
    (subst (λ xs. Relates P xs done) first inv.products) in
    let low : InLowestTerms (value c.args.c) = g.met.R.Scalar.lowest c.args.c
    c.is_zero-vanishes.ensures.held in
    let zero = g.R.Scalar.zero in
    let none = zero_product value zero g.R.Ring.product g.met.R.Scalar.same_value
    g.met.R.Ring.product_value g.met.R.Scalar.zero_value.0 c.args.c low in
    subst (λ es. IsMultipleOf eq zero g.R.Ring.product es c.args.c now) c.self.view_is
    (IsMultipleOf-Relates eq g.L.Label.is_label g.R.Scalar.is_held value checked g.R.Ring.product
    c.args.c zero none old now related)

pub returns-clause-large : goal.returns-clause-large
returns-clause-large g c =
    let eq = g.L.PartialEq.eq in
    let value = g.R.Scalar.value in
    let checked = g.R.Ring.checked_product in
    let old = c.self.inside.table.entries in
    let before = c.loop-at.invariant.0 in
    let done = c.loop-at.invariant.1 in
    let rest = c.loop-at.invariant.2 in
    let inv = c.loop-at.invariant.3 in
    let P = IsProduct g.R.Scalar.is_held value checked g.R.Ring.product c.args.c in
    let now = c.loop-at.table.entries in
    let none = rest_empty P before done rest old now c.loop-at.at c.len-at-end.result
    inv.was inv.now inv.products inv.place inv.ends c.loop-at-test.false in
    let first : before ≡ old = all_done before rest _ _ none inv.was refl in
    let second : done ≡ now = all_done done rest _ _ none (sym inv.now) refl in
    let related : Relates P old now = subst (λ ys. Relates P old ys) second
    (subst (λ xs. Relates P xs done) first inv.products) in (
      λ e. cc,
      λ r. absurd (fits-Relates eq g.L.Label.is_label g.R.Scalar.is_held value checked
          g.R.Ring.product c.args.c old now related r.0
          (subst (Among r.0) (sym c.self.view_is) r.1) r.2),
    )
