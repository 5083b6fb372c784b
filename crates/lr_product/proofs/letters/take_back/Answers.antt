use Rattle.std.proofs.Common.{Vec, Global, ℕ, ◌≡◌, ◌-◌, length, take, get_or, set, ◌++◌, subst, sym}
use Rattle.std.proofs.Common.{ap, ◌∙◌, arith}
use Rattle.lr_product.proofs.Raising.{taken_back, raised-none}
use Rattle.lr_product.proofs.letters.take_back.Goals as goal
use Rattle.lr_product.proofs.letters.take_back.Goals.{then-letter-gt0, else-letter-gt0}
use Rattle.std.proofs.lemmas.List.{get_or_read}
use Rattle.std.proofs.Math.Seq.{take-append_seam}

pub returns : goal.returns
returns c before after was len within =
    let s = c.args.state.now.items in
    let b = c.args.letter in
    c.truncate.ensures.items ∙ ap (λ n. take n c.if-letter-gt0.state.items) (sym len)
    ∙ (elim c.if-letter-gt0.branch [
      | then-letter-gt0 w ↦
          let x = w.index-number.result.now in
          let read = sym (get_or_read s (b - 1) x (omega (arith, c.requires.within, w.if-letter-gt0.true)) (subst (λ k. x ≡ get_or s (k - 1) x) w.from-at.ensures w.index-number.ensures) 0) in
          taken_back b before after s c.if-letter-gt0.state.items w.if-letter-gt0.true (omega arith)
          was
          (ap (λ (v : Vec ℕ Global). v.items) w.state-is ∙ ap (set s (w.from-at.result - 1))
          w.saturating_sub.ensures
          ∙ ap (λ k. set s (k - 1) (x - 1)) w.from-at.ensures ∙ ap (λ y. set s (b - 1) (y - 1))
          (sym read))
      | else-letter-gt0 w ↦ ap (λ (v : Vec ℕ Global). take (length before) v.items) w.state-is
          ∙ ap (take (length before)) (was ∙ ap (λ s. s ++ after)
          (raised-none c.args.letter before w.if-letter-gt0.false))
          ∙ take-append_seam before after
    ])
