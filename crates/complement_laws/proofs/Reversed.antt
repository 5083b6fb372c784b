-- Alternating sums over a reversed list, and of functions of the reversed lists: both have the sign of reversing the places.
--     signed           the integer with its sign changed m times
--     reversals        the number of pairs of places of a list of length n, so that of the exchanges that reverse it
use Rattle.std.proofs.Common.{◌≡◌, ℕ, zero, suc, ◌+◌, List, [], ◌∷◌, ◌++◌, length, reverse, refl, sym, ◌∙◌, ap, arith, ℤ, ◌+ℤ◌, neg_ℤ}
use Rattle.std.proofs.lemmas.Int.{ints}
use Rattle.std.proofs.lemmas.List.{length-reverse}
use Rattle.std.proofs.lemmas.Grind.{reverse_onto}
use Rattle.alternant_laws.proofs.Alternating.{inserting, alternating, inserting_ext, alternating_neg, alternating_swap}
use Rattle.alternant_laws.proofs.Alternants.{In_alternant}
use Rattle.alternant_laws.proofs.OrderSums.{pair_alternant}
use Rattle.sym_model.specs.Alternant.{alternant}
use Rattle.sym_model.proofs.Polynomials.{pair_in}

abbrev pub signed : ℕ → ℤ → ℤ
signed zero x = x
signed (suc m) x = neg_ℤ (signed m x)

signed_neg : (m : ℕ) (x : ℤ) → signed m (neg_ℤ x) ≡ neg_ℤ (signed m x)
signed_neg zero x = refl
signed_neg (suc m) x = ap neg_ℤ (signed_neg m x)

pub signed_twice : (m : ℕ) (x : ℤ) → signed m (signed m x) ≡ x
signed_twice zero x = refl
signed_twice (suc m) x = let e = signed_neg m (signed m x) in let t = signed_twice m x in omega (arith, ints)

signed_sum : (m : ℕ) (x y : ℤ) → signed m (x +ℤ y) ≡ signed m x +ℤ signed m y
signed_sum zero x y = refl
signed_sum (suc m) x y = let e = signed_sum m x y in omega (arith, ints)

signed_both : (m n : ℕ) (x : ℤ) → signed m (signed n x) ≡ signed (m + n) x
signed_both zero n x = let e : n ≡ 0 + n = omega arith in ap (λ k. signed k x) e
signed_both (suc m) n x = let e : suc (m + n) ≡ suc m + n = omega arith in ap neg_ℤ (signed_both m n x) ∙ ap (λ k. signed k x) e

abbrev pub reversals : ℕ → ℕ
reversals zero = 0
reversals (suc n) = n + reversals n

-- ---- an alternating sum over a reversed list

first_to_last : (x : ℕ) (xs : List ℕ) (φ : List ℕ → ℤ) → alternating (x ∷ xs) φ ≡ signed (length xs) (alternating (xs ++ (x ∷ [])) φ)
first_to_last x [] φ = refl
first_to_last x (y ∷ xs) φ = alternating_swap x y xs φ ∙ ap neg_ℤ (first_to_last x xs (inserting y φ))

pub alternating-reversed : (β : List ℕ) (φ : List ℕ → ℤ) → alternating (reverse β) φ ≡ signed (reversals (length β)) (alternating β φ)
alternating-reversed [] φ = refl
alternating-reversed (x ∷ β) φ =
    ap (λ l. alternating l φ) (reverse_onto β x [])
    ∙ sym (signed_twice (length β) (alternating (reverse β ++ (x ∷ [])) φ))
    ∙ ap (λ n. signed (length β) (signed n (alternating (reverse β ++ (x ∷ [])) φ))) (sym (length-reverse β))
    ∙ ap (signed (length β)) (sym (first_to_last x (reverse β) φ) ∙ alternating-reversed β (inserting x φ))
    ∙ signed_both (length β) (reversals (length β)) (alternating (x ∷ β) φ)

-- ---- an alternating sum of a function of the reversed lists

inserting-last : (x y : ℕ) (φ : List ℕ → ℤ) (l : List ℕ)
    → inserting x φ (l ++ (y ∷ [])) ≡ inserting x (λ w. φ (w ++ (y ∷ []))) l +ℤ signed (suc (length l)) (φ (l ++ (y ∷ x ∷ [])))
inserting-last x y φ [] = omega (arith, ints)
inserting-last x y φ (z ∷ l) = let e = inserting-last x y (λ w. φ (z ∷ w)) l in omega (arith, ints)

inserting-reversed : (x : ℕ) (φ : List ℕ → ℤ) (l : List ℕ) → inserting x (λ w. φ (reverse w)) l ≡ signed (length l) (inserting x φ (reverse l))
inserting-reversed x φ [] = refl
inserting-reversed x φ (y ∷ l) =
    let last = λ (w : List ℕ). φ (w ++ (y ∷ [])) in
    let a : φ (reverse (x ∷ y ∷ l)) ≡ φ (reverse l ++ (y ∷ x ∷ [])) = ap φ (reverse_onto l y (x ∷ [])) in
    let b = inserting_ext x (λ w. φ (reverse (y ∷ w))) (λ w. last (reverse w)) (λ w. ap φ (reverse_onto w y [])) l ∙ inserting-reversed x last l in
    let c : inserting x φ (reverse (y ∷ l)) ≡ inserting x last (reverse l) +ℤ signed (suc (length l)) (φ (reverse l ++ (y ∷ x ∷ []))) =
    ap (inserting x φ) (reverse_onto l y []) ∙ inserting-last x y φ (reverse l)
    ∙ ap (λ n. inserting x last (reverse l) +ℤ signed (suc n) (φ (reverse l ++ (y ∷ x ∷ [])))) (length-reverse l) in
    let d = ap (signed (suc (length l))) c ∙ signed_sum (suc (length l)) (inserting x last (reverse l)) (signed (suc (length l)) (φ (reverse l ++ (y ∷ x ∷ [])))) in
    let e = signed_twice (suc (length l)) (φ (reverse l ++ (y ∷ x ∷ []))) in
    omega (arith, ints)

alternating-in : (n : ℕ) (β : List ℕ) (φ ψ : List ℕ → ℤ) → length β ≡ n → ((l : List ℕ) → length l ≡ n → φ l ≡ ψ l) → alternating β φ ≡ alternating β ψ
alternating-in n β φ ψ e h =
    sym (pair_alternant β φ) ∙ pair_in n (alternant β) φ ψ (In_alternant n β e) h ∙ pair_alternant β ψ

alternating-signed : (m : ℕ) (β : List ℕ) (φ : List ℕ → ℤ) → alternating β (λ l. signed m (φ l)) ≡ signed m (alternating β φ)
alternating-signed zero β φ = refl
alternating-signed (suc m) β φ = alternating_neg β (λ l. signed m (φ l)) ∙ ap neg_ℤ (alternating-signed m β φ)

pub alternating-of_reversed : (β : List ℕ) (φ : List ℕ → ℤ) → alternating β (λ w. φ (reverse w)) ≡ signed (reversals (length β)) (alternating β φ)
alternating-of_reversed [] φ = refl
alternating-of_reversed (x ∷ β) φ =
    alternating-in (length β) β (inserting x (λ w. φ (reverse w))) (λ l. signed (length β) (inserting x φ (reverse l))) refl
    (λ l e. inserting-reversed x φ l ∙ ap (λ n. signed n (inserting x φ (reverse l))) e)
    ∙ alternating-signed (length β) β (λ l. inserting x φ (reverse l))
    ∙ ap (signed (length β)) (alternating-of_reversed β (inserting x φ))
    ∙ signed_both (length β) (reversals (length β)) (alternating (x ∷ β) φ)
