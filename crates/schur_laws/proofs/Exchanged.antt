-- The coefficients of a symmetric polynomial at exponents in another order.
--     coefficient-last_first    the coefficient does not change if the last exponent is moved to the front
--     coefficient-sorted        the coefficient does not change if the exponents are sorted, with their zeros at the end
use Rattle.std.proofs.Common.{◌≡◌, ℕ, zero, suc, Bool, true, false, cond, nat_le, List, [], ◌∷◌, ◌++◌, length, replicate, length-append, ◌∙◌, refl, arith, ap, subst, append_assoc}
use Rattle.sym_model.specs.Polynomial.{Poly, coefficient}
use Rattle.sym_model.specs.Partition.{insert_part, sorted_parts}
use Rattle.sym_model.specs.Symmetric.{Symmetric}
use Rattle.beta_list_laws.proofs.NeighbourExchanges.{KeptByExchanges, kept_under}

to_end : (P : List ℕ → Type 0) (a : ℕ) (xs : List ℕ) → KeptByExchanges P → P (a ∷ xs) → P (xs ++ (a ∷ []))
to_end P a [] k p = p
to_end P a (b ∷ xs) k p = to_end (λ l. P (b ∷ l)) a xs (kept_under P b k) (k [] a b xs p)

one_zero_more : (m : ℕ) → ◌++◌ {A = ℕ} (replicate m 0) (0 ∷ []) ≡ replicate (suc m) 0
one_zero_more zero = refl
one_zero_more (suc m) = ap (λ (l : List ℕ). 0 ∷ l) (one_zero_more m)

to_place : (P : List ℕ → Type 0) (a : ℕ) (parts zeros : List ℕ) → KeptByExchanges P → P (suc a ∷ (parts ++ zeros)) → P (insert_part (suc a) parts ++ zeros)
to_place P a [] zeros k p = p
to_place P a (b ∷ parts) zeros k p = by (nat_le b (suc a)) (λ q. to_place (λ l. P (b ∷ l)) a parts zeros (kept_under P b k) q)
  where
    by : (t : Bool) → (P (b ∷ suc a ∷ (parts ++ zeros)) → P (b ∷ (insert_part (suc a) parts ++ zeros))) → P (cond t (suc a ∷ b ∷ parts) (b ∷ insert_part (suc a) parts) ++ zeros)
    by true rec = p
    by false rec = rec (k [] (suc a) b (parts ++ zeros) p)

to_sorted : (P : List ℕ → Type 0) (α : List ℕ) → KeptByExchanges P → P α → (m : ℕ) × P (sorted_parts α ++ replicate m 0)
to_sorted P [] k p = (0, p)
to_sorted P (a ∷ α) k p = by a (to_sorted (λ l. P (a ∷ l)) α (kept_under P a k) p)
  where
    by : (a : ℕ) → (m : ℕ) × P (a ∷ (sorted_parts α ++ replicate m 0)) → (m : ℕ) × P (insert_part a (sorted_parts α) ++ replicate m 0)
    by zero r =
        (suc r.0, subst P (append_assoc (sorted_parts α) (replicate r.0 0) (0 ∷ []) ∙ ap (λ (l : List ℕ). sorted_parts α ++ l) (one_zero_more r.0)) (to_end P 0 (sorted_parts α ++ replicate r.0 0) k r.1))
    by (suc a) r = (r.0, to_place P a (sorted_parts α) (replicate r.0 0) k r.1)

pub coefficient-last_first : (f : Poly) (k : ℕ) (α : List ℕ) → Symmetric f → coefficient f (k ∷ α) ≡ coefficient f (α ++ (k ∷ []))
coefficient-last_first f k α s =
    to_end (λ l. coefficient f (k ∷ α) ≡ coefficient f l) k α (λ left a b right p. p ∙ s left a b right) refl

abbrev IsOrderOf : Poly → List ℕ → List ℕ → Type 0
IsOrderOf f α l = (coefficient f α ≡ coefficient f l) × (length l ≡ length α)

pub coefficient-sorted : (f : Poly) (α : List ℕ) → Symmetric f
    → (m : ℕ) × (coefficient f α ≡ coefficient f (sorted_parts α ++ replicate m 0)) × (length (sorted_parts α ++ replicate m 0) ≡ length α)
coefficient-sorted f α s =
    let r = to_sorted (IsOrderOf f α) α
    (λ left a b right p. (p.0 ∙ s left a b right, omega (arith, p.1, length-append left (a ∷ b ∷ right), length-append left (b ∷ a ∷ right)))) (refl, refl) in
    (r.0, r.1.0, r.1.1)
