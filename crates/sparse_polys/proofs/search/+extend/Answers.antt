use Rattle.std.proofs.Common.{◌≡◌, ◌+◌, ◌-◌, ◌∷◌, ◌++◌, [], List, min, ap, ◌∙◌, sym, rules}
use Rattle.std.proofs.Common.{subst, arith, eqb-true}
use Rattle.sym_model.specs.Partition.{IsPartition, size}
use Rattle.sparse_polys.specs.declared.states.State.{State}
use Rattle.sparse_polys.specs.declared.search.Counted.{Counted}
use Rattle.sparse_polys.specs.Ways.{ways, AreStates}
use Rattle.sparse_polys.specs.Search.{found, AreCounted, IsChosen, Counts, HaveCounts}
use Rattle.sparse_polys.proofs.SearchWays.{found-nothing, found-none, found-end, found-step}
use Rattle.sparse_polys.proofs.SearchWays.{found-min, count_at-append, counted-more}
use Rattle.sparse_polys.proofs.SearchWays.{IsPartition-chosen, IsChosen-more, size-chosen}
use Rattle.sparse_polys.proofs.SearchWays.{Counts-end, Counts-step, counts-more}
use Rattle.sparse_polys.proofs.search.+extend.Goals as goal
use Rattle.std.proofs.lemmas.List.{nil_from_length}

pub returns-then-is_empty-clause-found : goal.returns-then-is_empty-clause-found
returns-then-is_empty-clause-found t c ν = search (rules, nil_from_length, eqb-true, found-nothing)

pub returns-then-left-eq0-clause-found : goal.returns-then-left-eq0-clause-found
returns-then-left-eq0-clause-found t c ν = search (rules, found-end, count_at-append)

pub returns-then-left-eq0-clause-counted : goal.returns-then-left-eq0-clause-counted
returns-then-left-eq0-clause-counted t c total sizes chosen counted =
    let prefix = c.args.chosen.now in
    let entry : Counted = record { parts = c.in_ok-parts.parts; count = c.ways_to_end-count.result }
    in
    let copied : c.in_ok-parts.parts.items ≡ prefix = c.in_ok-parts.ensures.items in
    subst (λ (l : List Counted). AreCounted total l) (sym c.in_ok-push.ensures.items)
    (counted-more total c.args.out.now.items entry
    (subst (λ l. IsPartition l) (sym copied) (IsPartition-chosen c.args.largest prefix chosen))
    (ap size copied ∙ (let e : size prefix ≡ total = omega (arith, c.if-left-eq0.true) in e))
    counted)

pub returns-then-left-eq0-clause-counts : goal.returns-then-left-eq0-clause-counts
returns-then-left-eq0-clause-counts t c f counts have =
    let prefix = c.args.chosen.now in
    let entry : Counted = record { parts = c.in_ok-parts.parts; count = c.ways_to_end-count.result }
    in
    let copied : c.in_ok-parts.parts.items ≡ prefix = c.in_ok-parts.ensures.items in
    subst (λ (l : List Counted). HaveCounts f l) (sym c.in_ok-push.ensures.items)
    (counts-more f c.args.out.now.items entry
    (c.ways_to_end-count.ensures ∙ Counts-end f prefix c.args.largest c.args.states.now counts
    ∙ ap f (sym copied))
    have)

pub loop-i-init : goal.loop-i-init
loop-i-init t c = record {
  found = λ ν. let z = found-none c.args.chosen.now c.args.left c.args.states.now ν
      c.requires.states (omega (arith, c.if-left-eq0.false)) in omega arith;
  counted = λ total sizes chosen counted. counted;
  counts = λ f counts have. have;
}

pub extend-requires : goal.extend-requires
extend-requires t c =
    let part : c.loop-i.i + 1 + (c.args.left - (c.loop-i.i + 1)) ≡ c.args.left = omega arith in (
      omega arith,
      subst (λ (l : List State). AreStates (c.args.left - (c.loop-i.i + 1)) l)
          (sym c.as_slice.ensures.value)
          (c.in_ok-next.ensures.states (c.args.left - (c.loop-i.i + 1))
          (subst (λ k. AreStates k c.args.states.now) (sym part) c.requires.states)),
    )

pub loop-i-preserved : goal.loop-i-preserved
loop-i-preserved t c =
    let prefix = c.args.chosen.now in
    let i = c.loop-i.i in
    let next = c.in_ok-next.next.items in
    let part : i + 1 + (c.args.left - (i + 1)) ≡ c.args.left = omega arith in
    let more : c.as_slice-in-loop-i.result.now ≡ prefix ++ ((i + 1) ∷ []) =
    c.as_slice-in-loop-i.ensures.value ∙ c.in_ok-push-2.ensures.items
    ∙ ap (λ l. l ++ ((i + 1) ∷ [])) c.in_ok-more.ensures.items in
    record {
      found =
          λ ν.
          let a = c.in_ok-extend.ensures.found ν in
          let b = ap (λ l. found l (i + 1) c.as_slice.result.now ν) more ∙ ap (λ (l : List State).
          found (prefix ++ ((i + 1) ∷ [])) (i + 1) l ν) c.as_slice.ensures.value in
          let d = c.loop-i.invariant.found ν in
          let e = found-step prefix i c.args.states.now next ν
          (λ rest below. c.in_ok-next.ensures.ways rest c.args.left below c.requires.states) in
          omega arith;
      counted =
          λ total sizes chosen counted.
          c.in_ok-extend.ensures.counted total
          (ap (λ l. size l + (c.args.left - (i + 1))) more ∙ (let s = size-chosen prefix (i + 1) in
          let q : size (prefix ++ ((i + 1) ∷ [])) + (c.args.left - (i + 1)) ≡ total =
          omega arith in q))
          (subst (λ l. IsChosen (i + 1) l) (sym more) (IsChosen-more c.args.largest (i + 1) prefix
          (omega arith) (omega arith) chosen))
          (c.loop-i.invariant.counted total sizes chosen counted);
      counts =
          λ f counts have.
          c.in_ok-extend.ensures.counts f
          (subst (λ (l : List State). Counts f c.as_slice-in-loop-i.result.now (i + 1) l)
          (sym c.as_slice.ensures.value)
          (subst (λ l. Counts f l (i + 1) next) (sym more)
          (Counts-step f prefix (i + 1) c.args.largest c.args.states.now next (omega arith)
          (omega arith)
          (λ rest below. c.in_ok-next.ensures.ways rest c.args.left below c.requires.states)
          counts)))
          (c.loop-i.invariant.counts f counts have);
    }

pub returns-clause-found : goal.returns-clause-found
returns-clause-found t c ν =
    let bound = c.min-i-end.ensures in
    let last : c.loop-i.i ≡ min c.args.largest c.args.left = omega arith in
    let a = c.loop-i.invariant.found ν in
    let b = ap (λ k. found c.args.chosen.now k c.args.states.now ν) last in
    let d = found-min c.args.chosen.now c.args.left c.args.largest c.args.states.now ν
    c.requires.states in
    omega arith
