use Rattle.std.proofs.Common.{slice_index, take, sym, ◌∙◌, arith}
use borrow.Author.Count.{below_more}
use Rattle.perm_codes.specs.Limits.{IsNewLetter}
use Rattle.perm_codes.proofs.NewLetters.{among_from_any, any_from_among, one_line_from_new}
use Rattle.perm_codes.proofs.letters.first_offence.Goals as goal
use Rattle.perm_codes.proofs.letters.first_offence.Goals.{then-letter-eq0-via-then-letter-eq0}
use Rattle.perm_codes.proofs.letters.first_offence.Goals.{then-letter-eq0-via-else-letter-eq0+then-from-letters}
use Rattle.perm_codes.proofs.letters.first_offence.Goals.{then-letter-eq0-via-else-letter-eq0+else-from-letters+then-contains}

pub returns-then-letter-eq0 : goal.returns-then-letter-eq0
returns-then-letter-eq0 c =
    elim c.then-letter-eq0.branch [
      | then-letter-eq0-via-then-letter-eq0 w ↦ record {
        inside = omega arith;
        offends = λ n.
            omega (arith, n.positive);
        before = c.loop-at.invariant;
      }
      | then-letter-eq0-via-else-letter-eq0+then-from-letters w ↦ record {
        inside = omega arith;
        offends = λ n. omega (arith, n.within);
        before = c.loop-at.invariant;
      }
      | then-letter-eq0-via-else-letter-eq0+else-from-letters+then-contains w ↦ record {
        inside =
            omega arith;
        offends = λ n.
            n.new (among_from_any _ _ (sym w.contains.ensures.value ∙ w.if-contains.true));
        before =
            c.loop-at.invariant;
      }
    ]

pub loop-at-preserved : goal.loop-at-preserved
loop-at-preserved c =
    let w = c.args.letters.now in
    let at = c.loop-at.at in
    below_more (IsNewLetter w) at c.loop-at.invariant (record {
      positive = omega (arith, c.if-letter-eq0.false);
      within = omega arith;
      new = λ m. let e = any_from_among (slice_index w at) (take at w) m in
          cc (c.contains.ensures.value, c.if-contains.false);
    })

pub returns : goal.returns
returns c = one_line_from_new _ (λ k l. c.loop-at.invariant k (omega arith))
