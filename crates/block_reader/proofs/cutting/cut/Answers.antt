use Rattle.std.proofs.Common.{◌≤◌, ℕ, List, ap, sym, ◌∙◌, length, arith}
use Rattle.std.proofs.Math.Seq.{take-length, drop-length}
use Rattle.block_reader.proofs.Cuts.{cut-found, cut-none}
use Rattle.block_reader.proofs.cutting.cut.Goals as goal

pub returns-then-byte-separator-clause-front : goal.returns-then-byte-separator-clause-front
returns-then-byte-separator-clause-front c =
    c.split_at.ensures.front
    ∙ sym (ap (λ (p : List ℕ × List ℕ). p.0) (cut-found c.args.separator c.args.text.now
    c.loop-at.at c.loop-at-test.true c.if-byte-separator.true c.loop-at.invariant))

pub returns-then-byte-separator-clause-back : goal.returns-then-byte-separator-clause-back
returns-then-byte-separator-clause-back c =
    c.split_at.ensures.back
    ∙ sym (ap (λ (p : List ℕ × List ℕ). p.1) (cut-found c.args.separator c.args.text.now
    c.loop-at.at c.loop-at-test.true c.if-byte-separator.true c.loop-at.invariant))

pub returns-clause-front : goal.returns-clause-front
returns-clause-front c =
    let past : length c.args.text.now ≤ c.loop-at.at = c.loop-at-test.false in
    c.split_at-2.ensures.front ∙ take-length c.args.text.now
    ∙ sym (ap (λ (p : List ℕ × List ℕ). p.0) (cut-none c.args.separator c.args.text.now
    (λ i h. c.loop-at.invariant i (omega arith))))

pub returns-clause-back : goal.returns-clause-back
returns-clause-back c =
    let past : length c.args.text.now ≤ c.loop-at.at = c.loop-at-test.false in
    c.split_at-2.ensures.back ∙ drop-length c.args.text.now
    ∙ sym (ap (λ (p : List ℕ × List ℕ). p.1) (cut-none c.args.separator c.args.text.now
    (λ i h. c.loop-at.invariant i (omega arith))))
