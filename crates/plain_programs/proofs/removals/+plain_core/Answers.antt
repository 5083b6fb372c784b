use Rattle.std.proofs.Common.{◌∙◌, ap, subst, sym, length, arith, ◌*ℤ◌}
use Rattle.sym_model.specs.Partition.{IsPartition, size}
use Rattle.sym_model.specs.PlaceOrders.{minus_one_to}
use Rattle.sym_model.specs.RimHookReduction.{GoesTo}
use Rattle.plain_programs.specs.Signed.{sign_of}
use Rattle.plain_programs.specs.Removed.{IsFound}
use Rattle.plain_programs.proofs.Searching.{goes_on}
use Rattle.sym_model.proofs.Signs.{sign-parity}
use Rattle.plain_programs.proofs.removals.+plain_core.Goals as goal
use Rattle.strip_laws.proofs.RimHooks.{fewer_rows}

pub plain_core-requires : goal.plain_core-requires
plain_core-requires t c =
    let n = c.args.n in
    let shape = c.args.shape.now in
    let removal = c.in-Some.removal in
    let found = subst (IsFound n shape) c.in-Some.is c.in_ok-removal.ensures in
    let left = c.deref.ensures.value in
    let smaller = found.0.cells in
    let fewer = fewer_rows n shape removal.left.items found.0 in
    let sizes = ap size left in
    let lengths = ap length left in (
      omega (arith, smaller, sizes),
      (
        c.requires.positive,
        (
          subst IsPartition (sym left) found.0.partition,
          (omega (arith, fewer, lengths), omega (arith, smaller, sizes)),
        ),
      ),
    )

pub returns-clause-end : goal.returns-clause-end
returns-clause-end t c =
    let k = c.args.k in
    let n = c.args.n in
    let shape = c.args.shape.now in
    let removal = c.in-Some.removal in
    let core = c.in_ok-core.core in
    let found = subst (IsFound n shape) c.in-Some.is c.in_ok-removal.ensures in
    goes_on k n shape removal.left.items core.shape.items (sign_of core.is_negative)
    (sign_of c.is_one_odd-is_negative.result) core.power removal.height
    c.requires.rows
    found.0
    found.1
    (subst (λ l. GoesTo k n l core.shape.items (sign_of core.is_negative) core.power)
    c.deref.ensures.value c.in_ok-core.ensures.end)
    (c.is_one_odd-is_negative.ensures ∙ ap (λ s. s *ℤ sign_of core.is_negative)
    (sym (sign-parity c.saturating_sub.result) ∙ ap minus_one_to c.saturating_sub.ensures))
