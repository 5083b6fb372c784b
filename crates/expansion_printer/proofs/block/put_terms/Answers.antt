use Rattle.std.proofs.Common.{Iter, ◌≡◌, ◌<◌, List, [], ◌∷◌, ◌++◌, map, length, refl, sym, ap, ◌∙◌}
use Rattle.std.proofs.Common.{subst, arith, rules, tests, append_assoc}
use Rattle.std.specs.List.{All}
use Rattle.std.proofs.lemmas.List.{map-append}
use Rattle.std.proofs.lemmas.List.Elements.{All-nil, All-push}
use Rattle.sym_model.specs.Expansion.{Fraction}
use Rattle.sym_model.specs.PrintedBlock.{lines_by}
use Rattle.sym_model.proofs.Lists.{all_read}
use Rattle.expansion_printer.proofs.GatheringLaws.{Gathers-then, Gathers-as, Gathers-nothing}
use Rattle.sparse_polys.specs.Combination.{terms_of}
use Rattle.sparse_polys.proofs.ValueLists.{length_values}
use Rattle.expansion_printer.proofs.Texts.{lines_by-push, block_by-some, block_by-nothing}
use Rattle.expansion_printer.proofs.block.put_terms.Goals as goal

pub returns-then-is_empty-clause-goes : goal.returns-then-is_empty-clause-goes
returns-then-is_empty-clause-goes g c =
    let value = g.R.Scalar.value in
    let none : length c.args.terms.now ≡ 0 = search (rules, tests) in
    Gathers-as (block_by-nothing g.L.Named.line_rules (terms_of value c.args.terms.now)
    (length_values value c.args.terms.now ∙ none)) c.put.ensures

pub returns-then-is_empty-clause-held : goal.returns-then-is_empty-clause-held
returns-then-is_empty-clause-held g c =
    let none : length c.args.terms.now ≡ 0 = search (rules, tests) in
    λ k d below. absurd (omega (arith, none))

pub loop-label-init : goal.loop-label-init
loop-label-init g c = record {
  goes = Gathers-nothing c.args.text.now (g.K.Sink.seen c.args.sink.now);
  held = All-nil (λ (t : g.row.L.Denot × g.row.R.Denot). g.R.Scalar.is_held t.1);
  so_far = refl;
}

pub loop-label-preserved : goal.loop-label-preserved
loop-label-preserved g c =
    let value = g.R.Scalar.value in
    let is_held = λ (t : g.row.L.Denot × g.row.R.Denot). g.R.Scalar.is_held t.1 in
    let inv = c.loop-label.invariant in
    let done : List (g.row.L.Denot × g.row.R.Denot) = map (λ item. item.now) c.loop-label.yielded in
    let p : g.row.L.Denot × g.row.R.Denot = c.in-Some.field-0.now in
    let t : g.row.L.Denot × Fraction = (p.0, value p.1) in
    let pushed : done ++ p ∷ [] ≡ map (λ item. item.now) (c.loop-label.yielded ++ c.in-Some.field-0
    ∷ []) =
    sym (map-append (λ item. item.now) c.loop-label.yielded (c.in-Some.field-0 ∷ [])) in
    let terms : terms_of value done ++ t ∷ [] ≡ terms_of value
    (map (λ item. item.now) (c.loop-label.yielded ++ c.in-Some.field-0 ∷ [])) =
    sym (map-append (λ (q : g.row.L.Denot × g.row.R.Denot). (q.0, value q.1)) done (p ∷ []))
    ∙ ap (terms_of value) pushed in
    let rest = c.next.new.self.rest.now in
    record {
      goes = Gathers-as (lines_by-push g.L.Named.line_rules (terms_of value done) t
          ∙ ap (lines_by g.L.Named.line_rules) terms)
          (Gathers-then inv.goes c.put_line.ensures.goes);
      held = subst (All is_held) pushed
          (All-push is_held done p inv.held c.put_line.ensures.held);
      so_far = ap (λ t. t ++ rest) (sym pushed) ∙ append_assoc done (p ∷ []) rest
          ∙ ap (λ t. done ++ t) (sym c.in-Some.ensures.steps) ∙ inv.so_far;
    }

pub returns-clause-goes : goal.returns-clause-goes
returns-clause-goes g c =
    let value = g.R.Scalar.value in
    let length_is = length_values value c.args.terms.now in
    let some : 0 < length c.args.terms.now = search (rules, tests) in
    let done : List (g.row.L.Denot × g.row.R.Denot) = map (λ item. item.now) c.loop-label.yielded in
    let all : done ≡ c.args.terms.now =
    all_read done _ _ c.in-None.ensures.steps.0
    (c.loop-label.invariant.so_far
    ∙ ap (λ (it : Iter (g.row.L.Denot × g.row.R.Denot)). it.rest.now)
    c.into_iter-label-iterator.ensures.into_iter_gives
    ∙ c.iter-label-items.ensures.rest) in
    Gathers-as (ap (λ (ts : List (g.row.L.Denot × g.row.R.Denot)).
    lines_by g.L.Named.line_rules (terms_of value ts)) all
    ∙ block_by-some g.L.Named.line_rules (terms_of value c.args.terms.now)
    (omega (arith, length_is, some))) c.loop-label.invariant.goes

pub returns-clause-held : goal.returns-clause-held
returns-clause-held g c =
    let done : List (g.row.L.Denot × g.row.R.Denot) = map (λ item. item.now) c.loop-label.yielded in
    let all : done ≡ c.args.terms.now =
    all_read done _ _ c.in-None.ensures.steps.0
    (c.loop-label.invariant.so_far
    ∙ ap (λ (it : Iter (g.row.L.Denot × g.row.R.Denot)). it.rest.now)
    c.into_iter-label-iterator.ensures.into_iter_gives
    ∙ c.iter-label-items.ensures.rest) in
    subst (All (λ (t : g.row.L.Denot × g.row.R.Denot). g.R.Scalar.is_held t.1)) all
    c.loop-label.invariant.held
