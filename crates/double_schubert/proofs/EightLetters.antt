-- A permutation of at most 8 letters has at most 28 inversions.
use Rattle.std.proofs.Common.{◌≡◌, ℕ, ◌≤◌, List, length, refl, arith}
use Rattle.sym_model.specs.PlaceOrders.{inversions}
use Rattle.perm_codes.proofs.InversionCounts.{inversions_upto}
use Rattle.schubert_laws.proofs.FixedTails.{pairs as pairs_upto}

pairs_of_eight : pairs_upto 8 ≡ 28
unfolding pairs_upto
pairs_of_eight = refl

pub inversions_of_eight : (w : List ℕ) → length w ≤ 8 → inversions w ≤ 28
inversions_of_eight w h = let a = inversions_upto 8 w h in let b = pairs_of_eight in omega arith
