use Rattle.std.proofs.Common.{◌≡◌, true, sym, ap, ap₂, ◌∙◌, subst, List, ℕ}
use Rattle.std.specs.Prelude.{Option, Some, None, slice_get}
use Rattle.std.specs.HashMap.{Updates}
use Rattle.std.specs.Option.{unwrap_or}
use Rattle.indexmap.specs.Layout.{set_value_at}
use Rattle.linear_combinations.specs.Entries.{coefficient, IsTable}
use Rattle.std.proofs.lemmas.Bool.{and_parts}
use Rattle.linear_combinations.proofs.Tables.{is_term-found}
use Rattle.linear_combinations.proofs.Inserted.{inserted_at, restored, Settled, settled, some_of}
use Rattle.linear_combinations.proofs.lin.add_to.Goals as goal

new_label : (g : _) (c : goal.After-set_at g) → Settled g.met.L.Eq.laws g.met.L.Label.same_label
    g.L.Label.is_label g.R.Scalar.zero g.R.Scalar.value g.R.Scalar.is_held g.R.Scalar.sum
    g.met.R.Scalar.zero_value.0 g.met.R.Scalar.zero_value.1 g.met.R.Scalar.same_value
    g.met.R.Scalar.lowest
    c.args.table.now.entries c.insert_full.new.self.entries c.set_at.new.table.entries c.args.label
    c.args.c c.args.c
new_label g c =
    let here : slice_get c.insert_full.new.self.entries c.in_ok-at.at ≡ Some (
      c.args.label,
      c.args.c,
    ) =
    ap₂ (λ (es : List (g.row.L.Denot × g.row.R.Denot)) (i : ℕ). slice_get es i)
    c.in_ok-at.ensures.entries c.in_ok-at.ensures.index
    ∙ inserted_at g.L.PartialEq.eq g.met.L.Label.same_label c.args.table.now.entries c.args.label
    c.args.c in
    let limits : g.L.Label.is_label c.args.label ≡ true =
    subst (λ l. g.L.Label.is_label l ≡ true) (ap (λ (o : Option (g.row.L.Denot × g.row.R.Denot)).
    (unwrap_or {T = g.row.L.Denot × g.row.R.Denot} o (c.args.label, c.args.c)).0)
    (sym c.pair_at.ensures.pair ∙ here)) c.lies_in_limits.ensures in
    settled g.met.L.Eq.laws g.met.L.Label.same_label g.L.Label.is_label g.R.Scalar.zero
    g.R.Scalar.value g.R.Scalar.is_held g.R.Scalar.sum
    g.met.R.Scalar.zero_value.0 g.met.R.Scalar.zero_value.1 g.met.R.Scalar.same_value
    g.met.R.Scalar.lowest
    c.args.table.now.entries c.insert_full.new.self.entries c.set_at.new.table.entries c.args.label
    c.args.c c.args.c
    c.requires limits c.set_at.ensures.held c.in_ok-at.ensures.updates.0 c.set_at.ensures.unique
    (some_of (λ (u : Updates g.L.PartialEq.eq c.insert_full.new.self c.set_at.new.table c.args.label
    None). u.0) (λ (u : Updates g.L.PartialEq.eq c.insert_full.new.self c.set_at.new.table
    c.args.label (Some c.args.c)). u.0)
    (c.set_at.ensures.updates (c.args.label, c.args.c) here))

pub returns-in_default-clause-ok : goal.returns-in_default-clause-ok
returns-in_default-clause-ok g c =
    let none : coefficient g.L.PartialEq.eq g.R.Scalar.zero c.args.table.now.entries c.args.label
    ≡ g.R.Scalar.zero = ap (λ o. unwrap_or o g.R.Scalar.zero) (sym c.in_ok-at.ensures.old
    ∙ c.in_default.is) in
    let answer = (g.met.R.Scalar.sum_answers g.R.Scalar.zero c.args.c g.met.R.Scalar.zero_value.1
    c.set_at.ensures.held).zero_left g.met.R.Scalar.zero_value.0 in
    (new_label g c).1 c.args.c (g.met.R.Scalar.sum_is g.R.Scalar.zero c.args.c c.args.c answer
    ∙ ap (λ r. g.R.Scalar.sum r c.args.c) (sym none))

pub returns-in_default-clause-table : goal.returns-in_default-clause-table
returns-in_default-clause-table g c = (new_label g c).0

pub returns-in_default-add-clause-err : goal.returns-in_default-add-clause-err
returns-in_default-add-clause-err g c =
    c.put_at.ensures.entries ∙ ap₂ (λ (es : List (g.row.L.Denot × g.row.R.Denot)) (i : ℕ).
    set_value_at es i c.in-Some.had) c.in_ok-at.ensures.entries c.in_ok-at.ensures.index
    ∙ restored g.L.PartialEq.eq g.met.L.Label.same_label c.args.table.now.entries c.args.label
    c.args.c c.in-Some.had (sym c.in_ok-at.ensures.old ∙ c.in-Some.is)

pub returns-in_default-add-clause-table : goal.returns-in_default-add-clause-table
returns-in_default-add-clause-table g c =
    subst (IsTable g.L.PartialEq.eq g.L.Label.is_label g.R.Scalar.zero g.R.Scalar.value
    g.R.Scalar.is_held) (sym (returns-in_default-add-clause-err g c)) c.requires

label_there : (g : _) (c : goal.After-set_at-2 g) → Settled g.met.L.Eq.laws g.met.L.Label.same_label
    g.L.Label.is_label g.R.Scalar.zero g.R.Scalar.value g.R.Scalar.is_held g.R.Scalar.sum
    g.met.R.Scalar.zero_value.0 g.met.R.Scalar.zero_value.1 g.met.R.Scalar.same_value
    g.met.R.Scalar.lowest
    c.args.table.now.entries c.insert_full.new.self.entries c.set_at-2.new.table.entries
    c.args.label c.args.c c.in-Some-add.sum
label_there g c =
    let here : slice_get c.insert_full.new.self.entries c.in_ok-at.at ≡ Some (
      c.args.label,
      c.args.c,
    ) =
    ap₂ (λ (es : List (g.row.L.Denot × g.row.R.Denot)) (i : ℕ). slice_get es i)
    c.in_ok-at.ensures.entries c.in_ok-at.ensures.index
    ∙ inserted_at g.L.PartialEq.eq g.met.L.Label.same_label c.args.table.now.entries c.args.label
    c.args.c in
    let limits : g.L.Label.is_label c.args.label ≡ true =
    (and_parts _ _ (is_term-found g.met.L.Eq.laws g.met.L.Label.same_label g.L.Label.is_label
    g.R.Scalar.value c.args.table.now.entries c.requires.combination.proper c.args.label
    c.in-Some.had
    (sym c.in_ok-at.ensures.old ∙ c.in-Some.is))).1 in
    settled g.met.L.Eq.laws g.met.L.Label.same_label g.L.Label.is_label g.R.Scalar.zero
    g.R.Scalar.value g.R.Scalar.is_held g.R.Scalar.sum
    g.met.R.Scalar.zero_value.0 g.met.R.Scalar.zero_value.1 g.met.R.Scalar.same_value
    g.met.R.Scalar.lowest
    c.args.table.now.entries c.insert_full.new.self.entries c.set_at-2.new.table.entries
    c.args.label c.args.c c.in-Some-add.sum
    c.requires limits c.set_at-2.ensures.held c.in_ok-at.ensures.updates.0 c.set_at-2.ensures.unique
    (some_of (λ (u : Updates g.L.PartialEq.eq c.insert_full.new.self c.set_at-2.new.table
    c.args.label None). u.0)
    (λ (u : Updates g.L.PartialEq.eq c.insert_full.new.self c.set_at-2.new.table c.args.label
    (Some c.in-Some-add.sum)). u.0)
    (c.set_at-2.ensures.updates (c.args.label, c.args.c) here))

pub returns-clause-ok : goal.returns-clause-ok
returns-clause-ok g c =
    let had : coefficient g.L.PartialEq.eq g.R.Scalar.zero c.args.table.now.entries c.args.label
    ≡ c.in-Some.had = ap (λ o. unwrap_or o g.R.Scalar.zero) (sym c.in_ok-at.ensures.old
    ∙ c.in-Some.is) in
    (label_there g c).1 c.args.c (g.met.R.Scalar.sum_is c.in-Some.had c.args.c c.in-Some-add.sum
    (sym c.add.ensures.sum ∙ c.in-Some-add.is) ∙ ap (λ r. g.R.Scalar.sum r c.args.c) (sym had))

pub returns-clause-table : goal.returns-clause-table
returns-clause-table g c = (label_there g c).0
