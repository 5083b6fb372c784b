use Rattle.std.proofs.Common.{subst, arith, ap, sym, refl, ◌+◌, ◌-◌, get_or, ◌≡◌, ◌<◌, ◌≤◌, length, ℕ, false}
use Rattle.std.proofs.lemmas.Bool.{both_ways}
use Rattle.stanley_expand.specs.GreaterBefore.{HasMoreBefore}
use Rattle.stanley_expand.proofs.GreaterBefore.{to_letters, from_letters, before}
use Rattle.stanley_expand.proofs.GreaterLetters.{before_next}
use Rattle.stanley_expand.proofs.letters.has_more_before.Goals as goal

pub returns-then-count_greater-most : goal.returns-then-count_greater-most
returns-then-count_greater-most c = (
  λ _.
      let count = c.count_greater.ensures in
      let more = c.if-count_greater-most.true in
      subst (HasMoreBefore c.args.most) c.letters-letters.ensures.value
      (to_letters c.args.most c.letters-letters.result.now (
        c.loop-at.at,
        c.loop-at-test.true,
        omega arith,
      )),
  λ _. refl,
)

pub loop-at-preserved-then-rises : goal.loop-at-preserved-then-rises
loop-at-preserved-then-rises c =
    let rises = c.if-rises.true in
    record {
      few = before_next c.args.most c.loop-at.at c.loop-at.last c.letters-letters.result.now
          c.loop-at.invariant.few c.loop-at.invariant.last c.loop-at-test.true (omega arith);
      last = λ _.
          let e : c.loop-at.at + 1 - 1 ≡ c.loop-at.at = omega arith in
          sym (ap (λ n. get_or c.letters-letters.result.now n 0) e);
    }

pub returns : goal.returns
returns c = (
  λ never. absurd (both_ways false refl never),
  λ more.
      let f = from_letters c.args.most c.args.perm.now
      c.letters-letters.ensures.limits.kept.one_line more in
      let value = c.letters-letters.ensures.value in
      let f1 = f.1 in
      let f2 = f.2 in
      let g = subst (λ w. (p : ℕ) → p < length w → before w p ≤ c.args.most) value (λ p h.
      let end = c.loop-at-test.false in c.loop-at.invariant.few p (omega arith)) f.0 f.1 in
      absurd (omega arith),
)
