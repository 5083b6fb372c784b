use Rattle.std.proofs.Common.{◌⊎◌, ◌≤◌, ◌+◌, ◌++◌, length, drop, ◌∙◌, ap, inl, inr, arith}
use Rattle.basis_change_laws.specs.JoinedLists.{merged}
use Rattle.family_lists.proofs.MergedLists.{merged-right, merged-left, merged-end, written}
use Rattle.family_lists.proofs.products.put_merged.Goals as goal
use Rattle.family_lists.proofs.products.put_merged.Goals.{then-loop-i-test+else-j-parts}
use Rattle.family_lists.proofs.products.put_merged.Goals.{else-loop-i-test}

pub loop-i-init : goal.loop-i-init
loop-i-init c = record {
  so_far = ap (λ l. l ++ merged c.args.more.now c.args.parts.now) c.clear.ensures.items;
  within = omega arith;
  within_parts = omega arith;
}

pub loop-i-preserved-then-more-i : goal.loop-i-preserved-then-more-i
loop-i-preserved-then-more-i c =
    let h = c.loop-i-test.true in
    let k = c.if-j-parts.true in
    let l = c.if-more-i.true in
    record {
      so_far =
          ap (λ b. b ++ merged (drop c.loop-i.i c.args.more.now)
          (drop (c.loop-i.j + 1) c.args.parts.now)) c.in_ok-push.ensures.items
          ∙ merged-right (merged c.args.more.now c.args.parts.now) c.args.more.now c.args.parts.now
          c.loop-i.i c.loop-i.j c.requires.more c.requires.parts c.loop-i.buffer.items
          c.loop-i.invariant.so_far h k l;
      within = c.loop-i.invariant.within;
      within_parts = omega arith;
    }

pub loop-i-preserved : goal.loop-i-preserved
loop-i-preserved c =
    let h = c.loop-i-test.true in
    let k = c.if-j-parts.true in
    let l = c.if-more-i.false in
    record {
      so_far =
          ap (λ b. b ++ merged (drop (c.loop-i.i + 1) c.args.more.now)
          (drop c.loop-i.j c.args.parts.now)) c.in_ok-push-2.ensures.items
          ∙ merged-left (merged c.args.more.now c.args.parts.now) c.args.more.now c.args.parts.now
          c.loop-i.i c.loop-i.j c.requires.more c.requires.parts c.loop-i.buffer.items
          c.loop-i.invariant.so_far h k (omega arith);
      within = omega arith;
      within_parts = c.loop-i.invariant.within_parts;
    }

pub returns : goal.returns
returns c =
    let over : (length c.args.more.now ≤ c.loop-i.i) ⊎ (length c.args.parts.now ≤ c.loop-i.j) =
    elim (c.loop-i-test.branch) [
      | then-loop-i-test+else-j-parts w ↦ inr (let k = w.if-j-parts in
          omega arith)
      | else-loop-i-test w ↦ inl (let h = w.loop-i-test in omega arith)
    ] in
    written c.put_rest-2.new.buffer.items c.loop-i.buffer.items c.put_rest.new.buffer.items
    c.args.more.now c.args.parts.now (merged c.args.more.now c.args.parts.now) c.loop-i.i
    c.loop-i.j
    c.in_ok-put_rest.ensures c.in_ok-put_rest-2.ensures
    (merged-end (merged c.args.more.now c.args.parts.now) c.args.more.now c.args.parts.now
    c.loop-i.i c.loop-i.j c.requires.more c.requires.parts c.loop-i.buffer.items
    c.loop-i.invariant.so_far over)
