-- Monk's rule in n variables, stated with any function φ of exponents: the sum of c·φ(α) over the terms c·x^α of x_r·S_w is a signed sum over the
-- covers of w (`over_covers` of specs/Monk).
use Rattle.std.proofs.Common.{◌≡◌, ℕ, ◌≤◌, List, arith, ℤ}
use Rattle.std.proofs.lemmas.Int.{ints}
use Rattle.sym_model.specs.Polynomial.{pair, plus, times, negate}
use Rattle.sym_model.specs.Permutation.{IsOneLine, covers_up, covers_down}
use Rattle.sym_model.specs.DividedDifference.{variable_in}
use Rattle.sym_model.specs.Schubert.{schubert_in, schuberts_in}
use Rattle.sym_model.proofs.Polynomials.{pair_determined, pair_plus, pair_negate, pair_each}
use Rattle.schubert_laws.proofs.MonkFromOne.{monk_in}
use Rattle.monk_product.specs.Monk.{over_covers}

pub pair_monk : (n r : ℕ) (w : List ℕ) (φ : List ℕ → ℤ) → IsOneLine w → 1 ≤ r → pair (times (variable_in r n) (schubert_in w n)) φ ≡ over_covers r (λ x. pair (schubert_in x n) φ) w
pair_monk n r w φ o h =
    let a = pair_determined (times (variable_in r n) (schubert_in w n)) (plus (schuberts_in (covers_up r w) n) (negate (schuberts_in (covers_down r w) n))) φ (monk_in w r n o h) in
    let b = pair_plus (schuberts_in (covers_up r w) n) (negate (schuberts_in (covers_down r w) n)) φ in
    let c = pair_negate (schuberts_in (covers_down r w) n) φ in
    let d = pair_each (λ (x : List ℕ). schubert_in x n) (covers_up r w) φ in
    let e = pair_each (λ (x : List ℕ). schubert_in x n) (covers_down r w) φ in
    omega (arith, ints)
