-- Counting the terms of a block, the text of an answer or a refusal, byte by byte.
use Rattle.std.proofs.Common.{◌≡◌, ◌<◌, ◌≤◌, ℕ, ◌+◌, ◌==◌, Bool, true, false, cond, List, [], ◌∷◌, length, take, get_or, refl, sym, ap, ◌∙◌, arith}
use Rattle.std.specs.Prelude.{codes, bytes_eq}
use Rattle.std.proofs.lemmas.List.{take_more}
use Rattle.std.proofs.lemmas.Slice.Eq.{bytes_eq-Decides}
use Rattle.sym_model.proofs.Contents.{times_in-append}
use Rattle.sym_model.proofs.Exponents.{same_true}
use Rattle.sym_model.specs.Polynomial.{same}
use Rattle.sym_model.specs.Schur.{times_in}
use Rattle.sym_model.specs.Workload.{terms_in}

pub feeds_more : (xs : List ℕ) (i count more : ℕ) → i < length xs → count ≡ times_in 10 (take i xs) → more ≡ cond (get_or xs i 0 == 10) 1 0
    → count + more ≡ times_in 10 (take (i + 1) xs)
feeds_more xs i count more h c m =
    let t = ap (times_in 10) (take_more xs i 0 h) ∙ times_in-append 10 (take i xs) (get_or xs i 0 ∷ []) in
    omega (arith, t, c, m)

pub one_feed : (byte more : ℕ) → more ≡ cond (byte == 10) 1 0 → more ≤ 1
one_feed byte more m = by (byte == 10) m
  where
    by : (b : Bool) → more ≡ cond b 1 0 → more ≤ 1
    by true e = omega (arith, e)
    by false e = omega (arith, e)

pub terms_some : (block : List ℕ) (count : ℕ) → bytes_eq block (codes "0\n") ≡ false → count ≡ times_in 10 block → count ≡ terms_in block
terms_some block count n c = by (same block (codes "0\n")) refl
  where
    by : (b : Bool) → same block (codes "0\n") ≡ b → count ≡ terms_in block
    by true e = let clash = sym ((bytes_eq-Decides block (codes "0\n")).1 (same_true block (codes "0\n") e)) ∙ n in cc
    by false e = c ∙ sym (ap (λ b. cond b 0 (times_in 10 block)) e)
