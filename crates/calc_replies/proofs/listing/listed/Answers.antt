use Rattle.std.proofs.Common.{◌≡◌, ℕ, ◌+◌, ◌≤◌, List, [], length, refl, sym, ap, ◌∙◌, arith}
use Rattle.std.proofs.Common.{Result, Ok, Err}
use Rattle.std.specs.Prelude.{IfOk}
use Rattle.calc_base.specs.declared.faults.NoMemory.{NoMemory}
use Rattle.sym_model.specs.GoodTableau.{good_readings}
use Rattle.sym_model.specs.Outcome.{readings_after}
use Rattle.sym_model.specs.Partition.{size, cells}
use Rattle.skew_shapes.specs.Shapes.{IsSkew}
use Rattle.skew_shapes.proofs.CellCounts.{length-cells}
use Rattle.tableau_iter.specs.Listings.{Listed}
use Rattle.calc_replies.proofs.Listings.{all_listed, later_listed}
use Rattle.calc_replies.proofs.listing.listed.Goals as goal

told : (r : Result Listed NoMemory) (a b : List (List ℕ)) → a ≡ b → IfOk r (λ l. l.rest ≡ a) →
    IfOk r (λ l. l.rest ≡ b)
told (Ok l) a b e h = h ∙ e
told (Err f) a b e h = tt

room : (outer inner start : List ℕ) → IsSkew outer inner → start ≡ []
    → size start + length (cells outer inner) ≤ 4096
room outer inner start s e = omega (arith, ap size e, length-cells outer inner s, s.outside.small)

pub new-requires-clause-small : goal.new-requires-clause-small
new-requires-clause-small c =
    room c.args.shape.now.0 c.args.shape.now.1 c.in_ok-start.start c.outer.ensures.limits
    c.in_ok-start.ensures.ok

pub resume-requires-clause-small : goal.resume-requires-clause-small
resume-requires-clause-small c =
    room c.args.shape.now.0 c.args.shape.now.1 c.in_ok-start.start c.outer.ensures.limits
    c.in_ok-start.ensures.ok

pub returns-in_default : goal.returns-in_default
returns-in_default c =
    let outer = c.args.shape.now.0 in
    let inner = c.args.shape.now.1 in
    let all = good_readings c.rows-rows.result c.in_ok-start.start outer inner in
    told c.new.result all (readings_after outer inner c.args.after.now)
    (all_listed outer inner c.in_ok-start.start c.rows-rows.result all
    (c.rows-rows.ensures.value ∙ ap length c.outer.ensures.value)
    c.in_ok-start.ensures.ok refl ∙ sym (ap (readings_after outer inner) c.in_default.is))
    c.new.ensures.rest

pub returns-in-Ok : goal.returns-in-Ok
returns-in-Ok c =
    let outer = c.args.shape.now.0 in
    let inner = c.args.shape.now.1 in
    later_listed outer inner c.in_ok-start.start c.as_slice.result.now c.in-Some.last
    c.rows-rows.result c.in-Ok.lattice.rest
    (c.rows-rows.ensures.value ∙ ap length c.outer.ensures.value) c.in_ok-start.ensures.ok
    c.as_slice.ensures c.in-Ok.ensures.rest
    ∙ sym (ap (readings_after outer inner) c.in-Some.is)
