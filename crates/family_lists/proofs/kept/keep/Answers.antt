use Rattle.std.proofs.Common.{List, ℕ, sym, ap, ◌∙◌, refl, inl, inr}
use Rattle.std.specs.Prelude.{Some, slice_get}
use Rattle.linear_combinations.proofs.Labels.{same_partition}
use Rattle.family_lists.proofs.KeptLists.{entry_found, none_found, slice-last}
use Rattle.family_lists.proofs.kept.keep.Goals as goal

pub returns-in-Some-clause-kept : goal.returns-in-Some-clause-kept
returns-in-Some-clause-kept g c = inl refl

pub returns-in-Some-clause-place : goal.returns-in-Some-clause-place
returns-in-Some-clause-place g c =
    let e = entry_found c.args.lists.now.entries _ c.in-Some.at c.in-Some.ensures.within
    (sym c.in-Some.ensures.index) in (
      e.0.1,
      e.1 ∙ ap (λ (x : List ℕ). Some (x, e.0.1))
          (sym (same_partition c.args.label e.0.0 e.2)),
    )

pub put-requires : goal.put-requires
put-requires g c = none_found _ c.in-None.ensures.found

pub returns-in_ok-put-in-None-clause-kept : goal.returns-in_ok-put-in-None-clause-kept
returns-in_ok-put-in-None-clause-kept g c = inr c.in_ok-put-in-None.ensures.ok

pub returns-in_ok-put-in-None-clause-place : goal.returns-in_ok-put-in-None-clause-place
returns-in_ok-put-in-None-clause-place g c = (
  c.args.list,
  ap (λ es. slice_get es c.len-at.result) c.in_ok-put-in-None.ensures.ok ∙ slice-last
      c.args.lists.now.entries (c.args.label, c.args.list) c.len-at.result c.len-at.ensures.len,
)
