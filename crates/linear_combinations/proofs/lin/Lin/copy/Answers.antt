use Rattle.std.proofs.Common.{◌≡◌, [], ◌∷◌, ◌++◌, sym, ap, ◌∙◌, subst, append_assoc}
use Rattle.std.specs.Prelude.{None}
use Rattle.std.specs.List.{IsDistinct}
use Rattle.std.specs.Map.{lookup, keys_of}
use Rattle.indexmap.proofs.CallerLemmas.{insert_entry-new}
use Rattle.indexmap.specs.IndexMap.{insert_entry}
use Rattle.linear_combinations.specs.Entries.{IsTable, coefficient}
use Rattle.linear_combinations.proofs.Steps.{absent_before, all_done}
use Rattle.linear_combinations.proofs.lin.Lin.copy.Given.{Over}
use Rattle.linear_combinations.proofs.lin.Lin.copy.Goals as goal

pub loop-label-preserved : goal.loop-label-preserved
loop-label-preserved g c =
    let eq = g.L.PartialEq.eq in
    let done = c.loop-label.table.entries in
    let rest = c.next.new.self in
    let k = c.in-Some.label.now in
    let v = c.in-Some.c.now in
    let given = c.into_iter-label-iterator.ensures.into_iter_gives in
    let so_far : done ++ (k, v) ∷ rest ≡ c.into_iter-label-iterator.result =
    ap (λ es. done ++ es) (sym c.in-Some.ensures.steps) ∙ c.loop-label.invariant in
    let distinct : IsDistinct eq (keys_of (done ++ (k, v) ∷ rest)) =
    subst (λ es. IsDistinct eq (keys_of es)) (sym (so_far ∙ given.0)) given.4 in
    let none : lookup (eq k) done ≡ None = absent_before g.met.L.Eq.laws done (k, v) rest distinct
    in
    let here : c.insert.new.self.entries ≡ done ++ (k, v) ∷ [] =
    c.in_ok-insert.ensures.entries ∙ ap (λ x. insert_entry eq done x v) c.in_ok-copy.ensures.ok
    ∙ insert_entry-new eq c.loop-label.table k v none in
    ap (λ es. es ++ rest) here ∙ append_assoc done ((k, v) ∷ []) rest ∙ so_far

copied : (g : Over) (c : goal.In-None g) → c.loop-label.table.entries ≡ c.self.inside.table.entries
copied g c =
    all_done c.loop-label.table.entries c.loop-label.label-iterator _ _ c.in-None.ensures.steps.0
    c.loop-label.invariant c.into_iter-label-iterator.ensures.into_iter_gives.0

pub invariant_of-result : goal.invariant_of-result
invariant_of-result g c =
    subst (λ es. IsTable g.L.PartialEq.eq g.L.Label.is_label g.R.Scalar.zero g.R.Scalar.value
    g.R.Scalar.is_held es) (sym (copied g c)) c.self.invariant

pub returns-clause-combination : goal.returns-clause-combination
returns-clause-combination g c = (invariant_of-result g c).combination

pub returns-clause-same : goal.returns-clause-same
returns-clause-same g c =
    λ label. ap (λ es. coefficient g.L.PartialEq.eq g.R.Scalar.zero es label) (copied g c)
    ∙ ap (λ terms. coefficient g.L.PartialEq.eq g.R.Scalar.zero terms label) c.self.view_is
