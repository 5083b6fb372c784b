-- The greatest number of inversions of a permutation with a given number of letters.
use Rattle.std.proofs.Common.{◌≡◌, ℕ, zero, suc, ◌+◌, ◌-◌, ◌≤◌, List, [], ◌∷◌, length, refl, ap, arith}
use Rattle.sym_model.specs.PlaceOrders.{inversions}
use Rattle.schubert_laws.proofs.FixedTails.{pairs}
use Rattle.sym_model.proofs.Lists.{smaller-within}

inversions_within : (w : List ℕ) → inversions w ≤ pairs (length w)
unfolding pairs
inversions_within [] = omega arith
inversions_within (a ∷ w) = let h = smaller-within a w in let i = inversions_within w in omega arith

pairs_more : (k n : ℕ) → pairs n ≤ pairs (k + n)
unfolding pairs
pairs_more zero n = let e : 0 + n ≡ n = omega arith in let p = ap pairs e in omega arith
pairs_more (suc k) n = let h = pairs_more k n in let e : suc k + n ≡ suc (k + n) = omega arith in let p = ap pairs e in omega arith

pairs_most : pairs 255 ≡ 32385
unfolding pairs
pairs_most = refl

pub inversions_upto : (n : ℕ) (w : List ℕ) → length w ≤ n → inversions w ≤ pairs n
inversions_upto n w h =
    let a = inversions_within w in
    let b = pairs_more (n - length w) (length w) in
    let e : (n - length w) + length w ≡ n = omega arith in
    let p = ap pairs e in
    omega arith

pub few_inversions : (w : List ℕ) → length w ≤ 255 → inversions w ≤ 32385
few_inversions w h = let a = inversions_upto 255 w h in let m = pairs_most in omega arith
