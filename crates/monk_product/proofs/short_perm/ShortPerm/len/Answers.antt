use Rattle.std.proofs.Common.{◌≡◌, ◌-◌, length, slice_index, sym, ap, ◌∙◌, arith}
use Rattle.std.proofs.lemmas.List.{take_all, length-take-le}
use Rattle.sym_model.specs.Permutation.{kept}
use Rattle.perm_codes.proofs.Prefixes.{kept_without, kept_here}
use Rattle.monk_product.proofs.short_perm.ShortPerm.len.Goals as goal

pub loop-len-init : goal.loop-len-init
loop-len-init c =
    let l = c.self.invariant.long in
    (omega arith, omega arith, ap kept (take_all 32 c.self.inside.letters (omega arith)))

pub loop-len-preserved : goal.loop-len-preserved
loop-len-preserved c =
    let w = c.self.inside.letters in
    let l = c.self.invariant.long in
    let n = c.loop-len.len in
    let few = c.loop-len.invariant.1 in
    let t = c.loop-len-test.true in
    let fixed : slice_index w (n - 1) ≡ n = omega arith in
    (omega arith, omega arith, kept_without w n t (omega arith) fixed ∙ c.loop-len.invariant.2)

pub returns-else-from-len : goal.returns-else-from-len
returns-else-from-len c =
    let w = c.self.inside.letters in
    let l = c.self.invariant.long in
    let n = c.loop-len.len in
    let few = c.loop-len.invariant.1 in
    sym (length-take-le n w (omega arith))
    ∙ ap length (sym (kept_here w n c.loop-len-test.true (omega arith) (λ e. omega arith))
    ∙ c.loop-len.invariant.2 ∙ c.self.view_is)
