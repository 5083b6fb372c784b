use Rattle.std.proofs.Common.{◌≡◌, ◌∷◌, length, take, sym, subst, arith}
use Rattle.sym_model.specs.PartitionList.{partitions_of}
use Rattle.partitions.specs.Listing.{HoldsParts, partitions_after}
use Rattle.partitions.proofs.Steps.{all_written, first_holds, first_is}
use Rattle.partitions.proofs.listing.PartitionsOf.new.Goals as goal

pub invariant_of-result : goal.invariant_of-result
invariant_of-result c =
    let now = c.fill-rows.new.buffer in
    let before : length c.deref_mut.result.now ≡ c.args.d =
    omega (arith, c.deref_mut.ensures.len, c.in_ok-buffer.ensures.len, c.from.ensures) in
    let long : length now ≡ c.args.d = omega arith in
    let whole : length now ≡ c.in_ok-buffer.buffer.len = omega (arith, c.deref_mut.ensures.len) in
    subst (λ xs. HoldsParts xs c.fill-rows.result)
    (sym (all_written c.in_ok-buffer.buffer.len now c.in_ok-buffer.buffer.items whole))
    (first_holds c.args.d c.deref_mut.result.now now c.fill-rows.result c.requires before long
    c.fill-rows.ensures.within c.fill-rows.ensures.parts)

pub returns-clause-rest : goal.returns-clause-rest
returns-clause-rest c =
    let now = c.fill-rows.new.buffer in
    let before : length c.deref_mut.result.now ≡ c.args.d =
    omega (arith, c.deref_mut.ensures.len, c.in_ok-buffer.ensures.len, c.from.ensures) in
    let whole : length now ≡ c.in_ok-buffer.buffer.len = omega (arith, c.deref_mut.ensures.len) in
    subst (λ xs. take c.fill-rows.result xs ∷ partitions_after (take c.fill-rows.result xs)
    ≡ partitions_of c.args.d)
    (sym (all_written c.in_ok-buffer.buffer.len now c.in_ok-buffer.buffer.items whole))
    (first_is c.args.d c.deref_mut.result.now now c.fill-rows.result before
    c.fill-rows.ensures.parts)
