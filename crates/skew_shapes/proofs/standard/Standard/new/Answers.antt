use Rattle.std.proofs.Common.{sym, ◌∙◌, rules}
use Rattle.std.proofs.lemmas.Bool.{true≢false}
use Rattle.skew_shapes.proofs.StandardNumbers.{IsStandard-from, IsStandard-tells}
use Rattle.skew_shapes.proofs.standard.Standard.new.Goals as goal
use Rattle.std.proofs.lemmas.List.{nil_from_length}

pub has_each_once-requires : goal.has_each_once-requires
has_each_once-requires c = search (rules, nil_from_length)

pub returns-then-not-has_each_once-clause-standard
    : goal.returns-then-not-has_each_once-clause-standard
returns-then-not-has_each_once-clause-standard c = (
  λ e. absurd (cc),
  λ s.
      let once = IsStandard-tells c.args.t.rows s.1 in
      absurd (true≢false (sym (c.has_each_once.ensures ∙ once) ∙ c.if-not-has_each_once.true)),
)

pub invariant_of-result : goal.invariant_of-result
invariant_of-result c = search (rules, nil_from_length, IsStandard-from)

pub returns-clause-standard : goal.returns-clause-standard
returns-clause-standard c = search (rules, nil_from_length, IsStandard-from)
