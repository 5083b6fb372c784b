-- Sums of the absolute values of the coefficients of a list; `absolute_total` is the sum over all terms of the list.
--     labels_few           for different labels, the absolute values of the coefficients at these labels add up to at most `absolute_total`
--     coefficient-few      the absolute value of the coefficient at one label is at most `absolute_total`
use Rattle.std.proofs.Common.{◌≡◌, ◌⊎◌, ℕ, ◌+◌, ◌≤◌, Bool, true, false, cond, List, [], ◌∷◌, map, ap, subst, refl, inl, inr, arith, ℤ, pos, ◌+ℤ◌}
use Rattle.std.specs.Prelude.{nat_abs}
use Rattle.std.proofs.lemmas.Int.{ints}
use Rattle.sym_model.specs.Sum.{Among, Once}
use Rattle.sym_model.specs.Partition.{size}
use Rattle.sym_model.specs.Polynomial.{same, coefficient}
use Rattle.sym_model.specs.WholeTerms.{WholeTerms, absolute_total}
use Rattle.sym_model.proofs.Exponents.{same_from, same_apart, same_or_not}

labels_none : (label : List ℕ) (k : ℕ) (ls : List (List ℕ)) → (Among label ls → ⊥) → size (map (λ (l : List ℕ). cond (same label l) k 0) ls) ≡ 0
labels_none label k [] h = refl
labels_none label k (l ∷ ls) h =
    let e = ap (λ b. cond {A = ℕ} b k 0) (same_apart label l (λ e. h (inl e))) in
    omega (arith, labels_none label k ls (λ m. h (inr m)))

labels_one : (label : List ℕ) (k : ℕ) (ls : List (List ℕ)) → Once ls → size (map (λ (l : List ℕ). cond (same label l) k 0) ls) ≤ k
labels_one label k [] o = omega arith
labels_one label k (l ∷ ls) o = by (same_or_not label l) (labels_one label k ls o.1)
  where
    by : (label ≡ l) ⊎ (label ≡ l → ⊥) → size (map (λ (l : List ℕ). cond (same label l) k 0) ls) ≤ k
        → cond (same label l) k 0 + size (map (λ (l : List ℕ). cond (same label l) k 0) ls) ≤ k
    by (inl e) r =
        let here = ap (λ b. cond {A = ℕ} b k 0) (same_from label l e) in
        let none = labels_none label k ls (λ m. o.0 (subst (λ x. Among x ls) e m)) in
        omega arith
    by (inr n) r =
        let here = ap (λ b. cond {A = ℕ} b k 0) (same_apart label l n) in
        omega arith

labels_zero : (ls : List (List ℕ)) → size (map (λ (l : List ℕ). nat_abs (pos 0)) ls) ≡ 0
labels_zero [] = refl
labels_zero (l ∷ ls) = omega (arith, labels_zero ls)

labels_more : (label : List ℕ) (z : ℤ) (W : WholeTerms) (ls : List (List ℕ))
    → size (map (λ (l : List ℕ). nat_abs (coefficient ((label, z) ∷ W) l)) ls)
    ≤ size (map (λ (l : List ℕ). cond (same label l) (nat_abs z) 0) ls) + size (map (λ (l : List ℕ). nat_abs (coefficient W l)) ls)
labels_more label z W [] = omega arith
labels_more label z W (l ∷ ls) = let r = labels_more label z W ls in let s = one (same label l) (coefficient W l) in omega arith
  where
    one : (b : Bool) (c : ℤ) → nat_abs (cond b z (pos 0) +ℤ c) ≤ cond b (nat_abs z) 0 + nat_abs c
    one true c = omega (arith, ints)
    one false c = omega (arith, ints)

-- if no label occurs twice in `ls`, the absolute values of the coefficients of W at these labels add up to at most the sum of the absolute values of
-- the coefficients of all terms of W
pub labels_few : (W : WholeTerms) (ls : List (List ℕ)) → Once ls → size (map (λ (l : List ℕ). nat_abs (coefficient W l)) ls) ≤ absolute_total W
labels_few [] ls o = omega (arith, labels_zero ls)
labels_few (t ∷ W) ls o =
    let r = labels_few W ls o in
    let s = labels_one t.0 (nat_abs t.1) ls o in
    let m = labels_more t.0 t.1 W ls in
    omega arith

pub coefficient-few : (W : WholeTerms) (ν : List ℕ) → nat_abs (coefficient W ν) ≤ absolute_total W
coefficient-few [] ν = omega arith
coefficient-few (t ∷ W) ν = let r = coefficient-few W ν in let s = one (same t.0 ν) (coefficient W ν) in omega arith
  where
    one : (b : Bool) (c : ℤ) → nat_abs (cond b t.1 (pos 0) +ℤ c) ≤ nat_abs t.1 + nat_abs c
    one true c = omega (arith, ints)
    one false c = omega (arith, ints)
