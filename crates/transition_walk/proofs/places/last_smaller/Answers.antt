use Rattle.std.proofs.Common.{◌≡◌, suc, ap, inl, inr, arith}
use Rattle.std.proofs.lemmas.Bool.{cases_lt}
use Rattle.sym_model.specs.Permutation.{letter}
use Rattle.transition_walk.proofs.Descents.{descent_facts, letter_past}
use Rattle.transition_walk.proofs.places.last_smaller.Goals as goal

pub loop-s-init : goal.loop-s-init
loop-s-init c =
    let f = descent_facts c.args.w.now c.args.r c.requires in
    let l = c.len-s.ensures.limits.kept.one_line in (
      omega arith,
      λ j h. letter_past c.args.w.now c.args.r j c.len-s.ensures.limits.kept.one_line
          (omega arith) (omega arith),
    )

pub loop-s-preserved : goal.loop-s-preserved
loop-s-preserved c =
    let inv = c.loop-s.invariant in (
      omega arith,
      λ j h. elim (cases_lt c.loop-s.s j) [
        | inl l ↦ inv.1 j l
        | inr l ↦ let e : j
            ≡ c.loop-s.s = omega arith in let z = ap (letter c.args.w.now) e in omega arith
      ],
    )

pub returns-then-letter-bound : goal.returns-then-letter-bound
returns-then-letter-bound c =
    let inv = c.loop-s.invariant in
    record { descent = c.requires; counts = omega arith; smaller = omega arith; last = inv.1 }

pub returns : goal.returns
returns c =
    let inv = c.loop-s.invariant in
    let f = descent_facts c.args.w.now c.args.r c.requires in
    let e : c.loop-s.s ≡ suc c.args.r = omega arith in
    let z = ap (letter c.args.w.now) e in
    let f2 = f.2 in
    record { descent = c.requires; counts = omega arith; smaller = omega arith; last = inv.1 }

pub letter-bound-requires : goal.letter-bound-requires
letter-bound-requires c = let f = descent_facts c.args.w.now c.args.r c.requires in let f0 = f.0 in
    omega arith
