use Rattle.std.proofs.Common.{◌≡◌, sym, ap, ◌∙◌, None, Some, option_map, arith}
use Rattle.sym_model.specs.ExpressionOffence.{marks}
use Rattle.expression_reading.specs.Offences.{offence_in}
use Rattle.expression_reading.proofs.JudgeFacts.{first_before_degree, kept-first, judge-some}
use Rattle.expression_reading.proofs.JudgeFacts.{fault-judged, high-judged, refused-judged}
use Rattle.expression_reading.proofs.JudgeFacts.{degree-judged, formula-judged, no_mark-offence}
use Rattle.expression_reading.proofs.JudgeFacts.{mild-from, high-degree}
use Rattle.expression_reading.proofs.reading.judged.Goals as goal

pub returns-in-Some : goal.returns-in-Some
returns-in-Some c =
    let w = c.args.word.now in
    let e = c.requires.scanned.0 in
    let t = c.args.limit in
    let kept = kept-first w e c.args.scan c.then_some-long.result c.earlier.result
    c.requires.scanned.1 c.requires.scanned.2 c.then_some-long.ensures c.earlier.ensures in
    let first : first_before_degree e ≡ Some (offence_in c.in-Some.first) =
    sym kept ∙ ap (option_map offence_in) c.in-Some.is in
    fault-judged t w e (offence_in c.in-Some.first) c.fault_of.result c.requires.scanned.1
    (judge-some t e (offence_in c.in-Some.first) c.requires.scanned.1.allowed first)
    c.fault_of.ensures

pub returns-then-scan : goal.returns-then-scan
returns-then-scan c =
    let w = c.args.word.now in
    let e = c.requires.scanned.0 in
    let kept = kept-first w e c.args.scan c.then_some-long.result c.earlier.result
    c.requires.scanned.1 c.requires.scanned.2 c.then_some-long.ensures c.earlier.ensures in
    let none : first_before_degree e ≡ None = sym kept ∙ ap (option_map offence_in) c.in_default.is
    in
    high-judged c.args.limit w e c.fault_of-then-scan.result c.requires.low c.requires.scanned.1
    none (high-degree 0 0 e (sym c.requires.scanned.3 ∙ c.if-scan.true))
    c.fault_of-then-scan.ensures

pub build-requires : goal.build-requires
build-requires c =
    let w = c.args.word.now in
    let e = c.requires.scanned.0 in
    let kept = kept-first w e c.args.scan c.then_some-long.result c.earlier.result
    c.requires.scanned.1 c.requires.scanned.2 c.then_some-long.ensures c.earlier.ensures in
    let none : first_before_degree e ≡ None = sym kept ∙ ap (option_map offence_in) c.in_default.is
    in (
      e,
      c.requires.scanned.1,
      mild-from (marks 0 0 e) (no_mark-offence e none)
          (sym c.requires.scanned.3 ∙ c.if-scan.false),
    )

pub returns-in_default-from_tree : goal.returns-in_default-from_tree
returns-in_default-from_tree c =
    let w = c.args.word.now in
    let e = c.requires.scanned.0 in
    let kept = kept-first w e c.args.scan c.then_some-long.result c.earlier.result
    c.requires.scanned.1 c.requires.scanned.2 c.then_some-long.ensures c.earlier.ensures in
    let none : first_before_degree e ≡ None = sym kept ∙ ap (option_map offence_in) c.in_default.is
    in
    refused-judged c.args.limit w e c.in_ok-tree.tree c.fault_of-in_default-from_tree.result
    c.requires.low c.requires.scanned.1 none
    (c.in_ok-tree.ensures e c.requires.scanned.1) c.in_default-from_tree.ensures.1
    c.fault_of-in_default-from_tree.ensures

pub returns-then-degree-limit : goal.returns-then-degree-limit
returns-then-degree-limit c =
    let w = c.args.word.now in
    let e = c.requires.scanned.0 in
    let t = c.args.limit in
    let kept = kept-first w e c.args.scan c.then_some-long.result c.earlier.result
    c.requires.scanned.1 c.requires.scanned.2 c.then_some-long.ensures c.earlier.ensures in
    let none : first_before_degree e ≡ None = sym kept ∙ ap (option_map offence_in) c.in_default.is
    in
    degree-judged t w e c.in_ok-tree.tree c.in-Ok.formula.tree c.fault_of-then-degree-limit.result
    c.requires.scanned.1 none
    (c.in_ok-tree.ensures e c.requires.scanned.1) c.in-Ok.ensures.0 (omega arith)
    c.fault_of-then-degree-limit.ensures

pub returns : goal.returns
returns c =
    let w = c.args.word.now in
    let e = c.requires.scanned.0 in
    let kept = kept-first w e c.args.scan c.then_some-long.result c.earlier.result
    c.requires.scanned.1 c.requires.scanned.2 c.then_some-long.ensures c.earlier.ensures in
    let none : first_before_degree e ≡ None = sym kept ∙ ap (option_map offence_in) c.in_default.is
    in
    formula-judged c.args.limit w e c.in_ok-tree.tree c.in-Ok.formula c.requires.scanned.1 none
    (c.in_ok-tree.ensures e c.requires.scanned.1) c.in-Ok.ensures.0 (omega arith)
