use Rattle.std.proofs.Common.{◌≡◌, ◌+◌, ◌-◌, ◌≤◌, ◌==◌, length, take, drop, ap, ◌∙◌, sym, subst, arith}
use Rattle.std.proofs.lemmas.List.{length-take-le, drop-drop}
use Rattle.lr_product.specs.RowExtension.{over_rows}
use Rattle.lattice_rows.specs.LatticeRows.{fills, CountsEndings, CountsReached}
use Rattle.lattice_rows.proofs.LatticeLaws.{first-part, first-row, ways-counts, ways-reached}
use Rattle.lattice_rows.proofs.lattice_rows.LatticeRowsPrefixesLatticeState.steps.Goals as goal

pub returns-clause-ways : goal.returns-clause-ways
returns-clause-ways c a label len =
    let n = c.args.self.now.letters in
    let rows = c.args.self.now.rows in
    let inner = c.args.self.now.inner.items in
    let μ = take n c.args.self.now.content in
    let F = over_rows n label (drop (rows - c.args.after) inner) (fills μ) in
    let long : n ≤ length (take n c.args.state.now.content) =
    let w = length-take-le n c.args.state.now.content (omega (arith, c.requires.state.few)) in omega arith in
    let full : length μ ≡ n = length-take-le n c.args.self.now.content (omega (arith, c.requires.state.few)) in
    let next : (rows - (c.args.after + 1)) + 1 ≡ rows - c.args.after = omega (arith, c.requires.state.left) in
    let counts : CountsEndings n (c.args.after == 0) μ F =
    subst (λ k. CountsEndings n (k == 0) μ F) len (ways-counts n label (drop (rows - c.args.after) inner) μ c.requires.state.some full) in
    let reached : CountsReached n c.outside-below.result μ F =
    subst (λ o. CountsReached n o μ F) (first-part (rows - c.args.after) inner ∙ sym c.outside-below.ensures.value) (ways-reached n label (drop (rows - c.args.after) inner) μ c.requires.state.some full) in
    first-row n a (rows - (c.args.after + 1)) c.outside-outside.result c.args.after label inner (drop (rows - c.args.after) inner) μ _ _ long c.outside-outside.ensures.value
    (drop-drop 1 (rows - (c.args.after + 1)) inner ∙ ap (λ i. drop i inner) next)
    ∙ sym (c.in_ok-add_rows.ensures.adds a F counts reached)
