use Rattle.std.proofs.Common.{◌≡◌, ◌-◌, ◌<◌, ◌≤◌, ◌==◌, ◌||◌, ◌⊎◌, inl, inr, ℕ, ◌+◌, false, List, sym, subst, ◌∙◌, arith}
use Rattle.std.proofs.lemmas.Bool.{cases_lt}
use Rattle.lr_product.specs.Extension.{can_rise as can_rise_at}
use Rattle.lr_product.proofs.letters.first_with_room.Goals as goal

pub loop-letter-init : goal.loop-letter-init
loop-letter-init c = record { tried = λ b low high. absurd (omega arith) }

pub returns-then-has_room-clause-skipped : goal.returns-then-has_room-clause-skipped
returns-then-has_room-clause-skipped c = λ b low high. c.loop-letter.invariant.tried b low high

pub loop-letter-preserved : goal.loop-letter-preserved
loop-letter-preserved c =
    let refused : c.has_room.result ≡ false = cc in
    record {
      tried = λ b low high.
          one_more c.args.bound.now c.args.numbers.now b c.loop-letter.letter (sym c.has_room.ensures ∙ refused)
          (c.loop-letter.invariant.tried b low) (omega arith);
    }
  where
    one_more : (bound numbers : List ℕ) (b letter : ℕ) → ((letter == 0) || can_rise_at bound (letter - 1) numbers) ≡ false
        → (b < letter → ((b == 0) || can_rise_at bound (b - 1) numbers) ≡ false) → b < letter + 1
        → ((b == 0) || can_rise_at bound (b - 1) numbers) ≡ false
    one_more bound numbers b letter last before h = by (cases_lt b letter)
      where
        by : (b < letter) ⊎ (letter ≤ b) → ((b == 0) || can_rise_at bound (b - 1) numbers) ≡ false
        by (inl l) = before l
        by (inr l) =
            let e : letter ≡ b = omega arith in
            subst (λ x. ((x == 0) || can_rise_at bound (x - 1) numbers) ≡ false) e last
