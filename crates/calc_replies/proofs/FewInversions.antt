-- A bound on the letters and inversions of two permutations of at most 16 letters.
use Rattle.std.proofs.Common.{◌≡◌, ◌≤◌, ◌+◌, ℕ, Bool, true, false, cond, List, length, refl, arith}
use Rattle.std.specs.Prelude.{max, nat_le}
use Rattle.std.proofs.Math.Nat.{max-le}
use Rattle.sym_model.specs.PlaceOrders.{inversions}
use Rattle.sym_model.specs.PastLimit.{shorter}
use Rattle.schubert_laws.proofs.FixedTails.{pairs}
use Rattle.perm_codes.proofs.InversionCounts.{inversions_upto}

pairs_of_sixteen : pairs 16 ≡ 120
unfolding pairs
pairs_of_sixteen = refl

either : (x : Bool) (u v : List ℕ) → length u ≤ 16 → length v ≤ 16 → inversions (cond x u v) ≤ 120
either true u v h k = omega (arith, inversions_upto 16 u h, pairs_of_sixteen)
either false u v h k = omega (arith, inversions_upto 16 v k, pairs_of_sixteen)

-- if u and v have at most 16 letters, the length of the longer one plus the inversions of the one with fewer is at most 255
pub product-within : (u v : List ℕ) → length u ≤ 16 → length v ≤ 16 → max (length u) (length v) + inversions (shorter u v) ≤ 255
product-within u v h k =
    let longest : max (length u) (length v) ≤ 16 = max-le h k in
    omega (arith, longest, either (nat_le (inversions u) (inversions v)) u v h k)
