use Rattle.std.proofs.Common.{Iter, ◌≡◌, ◌<◌, ℕ, List, [], ◌∷◌, ◌++◌, map, length, refl, sym, ap}
use Rattle.std.proofs.Common.{◌∙◌, subst, arith, rules, tests, append_assoc}
use Rattle.std.specs.Prelude.{codes}
use Rattle.std.specs.List.{All}
use Rattle.std.proofs.lemmas.List.{map-append}
use Rattle.std.proofs.lemmas.List.Elements.{All-nil, All-push}
use Rattle.sym_model.specs.Expansion.{Fraction}
use Rattle.sym_model.proofs.Lists.{all_read}
use Rattle.expansion_printer.proofs.GatheringLaws.{Gathers-then, Gathers-as, Gathers-nothing}
use Rattle.expression_reading.specs.Trees.{basis_of}
use Rattle.sparse_polys.specs.Combination.{terms_of}
use Rattle.sparse_polys.proofs.ValueLists.{length_values}
use Rattle.expansion_printer.specs.SignedTerms.{signed_terms, is_empty}
use Rattle.expansion_printer.proofs.LineTexts.{signed_terms-push, is_empty-push, one_line-some}
use Rattle.expansion_printer.proofs.line.put_line.Goals as goal

pub loop-label-init : goal.loop-label-init
loop-label-init g c = record {
  goes = Gathers-nothing c.args.text.now (g.K.Sink.seen c.args.sink.now);
  first = refl;
  held = All-nil (λ (t : List ℕ × g.row.R.Denot). g.R.Scalar.is_held t.1);
  so_far = refl;
}

pub loop-label-preserved : goal.loop-label-preserved
loop-label-preserved g c =
    let value = g.R.Scalar.value in
    let is_held = λ (t : List ℕ × g.row.R.Denot). g.R.Scalar.is_held t.1 in
    let basis = basis_of c.args.basis in
    let inv = c.loop-label.invariant in
    let done : List (List ℕ × g.row.R.Denot) = map (λ item. item.now) c.loop-label.yielded in
    let p : List ℕ × g.row.R.Denot = c.in-Some.field-0.now in
    let t : List ℕ × Fraction = (p.0, value p.1) in
    let pushed : done ++ p ∷ [] ≡ map (λ item. item.now) (c.loop-label.yielded ++ c.in-Some.field-0
    ∷ []) =
    sym (map-append (λ item. item.now) c.loop-label.yielded (c.in-Some.field-0 ∷ [])) in
    let terms : terms_of value done ++ t ∷ [] ≡ terms_of value
    (map (λ item. item.now) (c.loop-label.yielded ++ c.in-Some.field-0 ∷ [])) =
    sym (map-append (λ (q : List ℕ × g.row.R.Denot). (q.0, value q.1)) done (p ∷ []))
    ∙ ap (terms_of value) pushed in
    let rest = c.next.new.self.rest.now in
    record {
      goes = Gathers-as (signed_terms-push basis (terms_of value done) c.loop-label.is_first t
          inv.first ∙ ap (signed_terms basis) terms)
          (Gathers-then inv.goes c.put_term.ensures.goes);
      first = is_empty-push (terms_of value done) t ∙ ap is_empty terms;
      held = subst (All is_held) pushed
          (All-push is_held done p inv.held c.put_term.ensures.held);
      so_far = ap (λ t. t ++ rest) (sym pushed) ∙ append_assoc done (p ∷ []) rest
          ∙ ap (λ t. done ++ t) (sym c.in-Some.ensures.steps) ∙ inv.so_far;
    }

pub returns-clause-goes : goal.returns-clause-goes
returns-clause-goes g c =
    let value = g.R.Scalar.value in
    let basis = basis_of c.args.basis in
    let length_is = length_values value c.args.terms.now in
    let some : 0 < length c.args.terms.now = search (rules, tests) in
    let done : List (List ℕ × g.row.R.Denot) = map (λ item. item.now) c.loop-label.yielded in
    let all : done ≡ c.args.terms.now =
    all_read done _ _ c.in-None.ensures.steps.0
    (c.loop-label.invariant.so_far
    ∙ ap (λ (it : Iter (List ℕ × g.row.R.Denot)). it.rest.now)
    c.into_iter-label-iterator.ensures.into_iter_gives
    ∙ c.iter-label-items.ensures.rest) in
    Gathers-as (ap (λ (ts : List (List ℕ × g.row.R.Denot)).
    signed_terms basis (terms_of value ts) ++ codes "\n") all
    ∙ one_line-some basis (terms_of value c.args.terms.now) (omega (arith, length_is, some)))
    (Gathers-then c.loop-label.invariant.goes c.put_byte.ensures)
