use Rattle.std.proofs.Common.{◌≡◌, sym, ap, subst, ◌∙◌}
use Rattle.std.specs.Prelude.{Some, None}
use Rattle.std.specs.HashMap.{Updates}
use Rattle.std.specs.Option.{unwrap_or}
use Rattle.linear_combinations.specs.Entries.{coefficient, HasMoreAt, IsTable}
use Rattle.linear_combinations.proofs.Inserted.{Settled, some_of, in_place}
use Rattle.linear_combinations.proofs.lin.Lin.add_copied.Goals as goal

label_there : (g : _) (c : goal.After-set_at g) → Settled g.met.L.Eq.laws g.met.L.Label.same_label
    g.L.Label.is_label g.R.Scalar.zero g.R.Scalar.value g.R.Scalar.is_held g.R.Scalar.sum
    g.met.R.Scalar.zero_value.0 g.met.R.Scalar.zero_value.1 g.met.R.Scalar.same_value
    g.met.R.Scalar.lowest
    c.self.inside.table.entries c.self.inside.table.entries c.set_at.new.table.entries
    c.args.label.now c.in-Some.had.now c.in_ok-sum.sum
label_there g c =
    in_place g.met.L.Eq.laws g.met.L.Label.same_label g.L.Label.is_label g.R.Scalar.zero
    g.R.Scalar.value g.R.Scalar.is_held g.R.Scalar.sum
    g.met.R.Scalar.zero_value.0 g.met.R.Scalar.zero_value.1 g.met.R.Scalar.same_value
    g.met.R.Scalar.lowest
    c.self.inside.table.entries c.set_at.new.table.entries c.args.label.now c.in-Some.field-0-1.now
    c.in-Some.had.now c.in_ok-sum.sum c.self.invariant (sym c.in-Some.ensures.value)
    (sym c.in-Some.ensures.key) c.set_at.ensures.held c.set_at.ensures.unique
    (some_of (λ (u : Updates g.L.PartialEq.eq c.self.inside.table c.set_at.new.table
    c.in-Some.field-0-1.now None). u.0)
    (λ (u : Updates g.L.PartialEq.eq c.self.inside.table c.set_at.new.table
    c.in-Some.field-0-1.now (Some c.in_ok-sum.sum)). u.0)
    (c.set_at.ensures.updates (c.in-Some.field-0-1.now, c.in-Some.had.now)
    c.in-Some.ensures.entry))

pub invariant_of-self-2 : goal.invariant_of-self-2
invariant_of-self-2 g c = (label_there g c).0

pub returns-clause-ok : goal.returns-clause-ok
returns-clause-ok g c =
    let had : coefficient g.L.PartialEq.eq g.R.Scalar.zero c.self.inside.table.entries
    c.args.label.now ≡ c.in-Some.had.now =
    ap (λ o. unwrap_or o g.R.Scalar.zero) (sym c.in-Some.ensures.value) in
    subst (λ es. HasMoreAt g.L.PartialEq.eq g.R.Scalar.zero g.R.Scalar.sum es c.args.label.now
    c.args.c c.set_at.new.table.entries) c.self.view_is
    ((label_there g c).1 c.args.c (g.met.R.Scalar.sum_is c.in-Some.had.now c.args.c c.in_ok-sum.sum
    (sym c.add.ensures.sum ∙ c.in_ok-sum.ensures.ok_part)
    ∙ ap (λ r. g.R.Scalar.sum r c.args.c) (sym had)))

pub returns-clause-tables : goal.returns-clause-tables
returns-clause-tables g c = record {
  before = subst (IsTable g.L.PartialEq.eq g.L.Label.is_label g.R.Scalar.zero g.R.Scalar.value
      g.R.Scalar.is_held) c.self.view_is c.self.invariant;
  after = (label_there g c).0;
}
