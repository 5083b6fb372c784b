use Rattle.std.proofs.Common.{◌≡◌, ℕ, List, take, replicate, length, sym, ap, ap₂, [], ◌∙◌, ◌∷◌, arith}
use Rattle.std.proofs.lemmas.List.{length-take-le, take-replicate}
use Rattle.lr_product.specs.RowExtension.{over_rows}
use Rattle.lattice_rows.specs.LatticeRows.{fills}
use Rattle.lattice_rows.proofs.LatticeStarts.{start-ways}
use Rattle.lattice_rows.proofs.LatticeEnds.{ways-come}
use Rattle.lr_product.specs.WeighedSum.{comes_to}
use Rattle.lattice_rows.proofs.lattice_rows.LatticeRows.start.Goals as goal

pub returns-clause-ways : goal.returns-clause-ways
returns-clause-ways c a label some few positive short =
    let n = c.args.self.now.letters in
    let inner = c.args.self.now.inner.items in
    let μ = take n c.args.self.now.content in
    let full : length μ ≡ n = length-take-le n c.args.self.now.content (omega arith) in
    ap₂ (λ (v w : List ℕ). over_rows n (a ∷ label) inner (fills μ) v w) (take-replicate n 8 0 few) (take-replicate n 8 255 few)
    ∙ start-ways n a 255 label inner μ some full short
    ∙ ap (λ v. over_rows n (a ∷ label) inner (fills μ) v []) (sym (take-replicate n n 0 (omega arith)))
    ∙ ways-come n (a ∷ label) inner μ (replicate n 0) [] full positive
    ∙ ap (λ v. over_rows n (a ∷ label) inner (comes_to μ) v []) (take-replicate n n 0 (omega arith))
