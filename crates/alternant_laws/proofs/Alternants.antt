-- The laws of alternants: an exchange of two exponents changes the sign of an alternant, and an alternant with two equal exponents is 0.
use Rattle.std.proofs.Common.{◌≡◌, ℕ, List, [], ◌∷◌, ◌++◌, length, sym, ◌∙◌, ap, refl, arith, ℤ, pos, neg_ℤ}
use Rattle.std.proofs.lemmas.Int.{ints}
use Rattle.std.proofs.lemmas.List.{length-map}
use Rattle.sym_model.specs.Sum.{Among}
use Rattle.sym_model.specs.Partition.{part}
use Rattle.sym_model.specs.Polynomial.{Same, In, nothing, negate}
use Rattle.sym_model.specs.PlaceOrders.{orders, places, sign}
use Rattle.sym_model.specs.Alternant.{rearranged, alternant}
use Rattle.sym_model.proofs.Polynomials.{same_from_pair, pair_negate, In_map}
use Rattle.alternant_laws.proofs.Alternating.{alternating, alternating_exchange}
use Rattle.alternant_laws.proofs.OrderSums.{orders_reach, pair_alternant}
use Rattle.sym_model.proofs.AfterLists.{length_after}
use Rattle.beta_list_laws.proofs.NeighbourExchanges.{KeptByExchanges}

pub alternant_exchange : (left middle right : List ℕ) (a b : ℕ)
    → Same (alternant (left ++ (a ∷ (middle ++ (b ∷ right))))) (negate (alternant (left ++ (b ∷ (middle ++ (a ∷ right))))))
alternant_exchange left middle right a b =
    let β = left ++ (a ∷ (middle ++ (b ∷ right))) in
    let γ = left ++ (b ∷ (middle ++ (a ∷ right))) in
    same_from_pair (alternant β) (negate (alternant γ)) (λ φ.
    pair_alternant β φ
    ∙ alternating_exchange left middle right a b φ
    ∙ ap neg_ℤ (sym (pair_alternant γ φ))
    ∙ sym (pair_negate (alternant γ) φ))

pub opposite_is_zero : (x : ℤ) → x ≡ neg_ℤ x → x ≡ pos 0
opposite_is_zero x e = omega (arith, ints)

pub alternant_equal : (left middle right : List ℕ) (a : ℕ) → Same (alternant (left ++ (a ∷ (middle ++ (a ∷ right))))) nothing
alternant_equal left middle right a =
    let β = left ++ (a ∷ (middle ++ (a ∷ right))) in
    same_from_pair (alternant β) nothing (λ φ. pair_alternant β φ ∙ opposite_is_zero (alternating β φ) (alternating_exchange left middle right a a φ))

length_kept : (n : ℕ) → KeptByExchanges (λ w. length w ≡ n)
length_kept n [] a b r h = h
length_kept n (c ∷ l) a b r h = omega (arith, length_kept (length (l ++ (a ∷ b ∷ r))) l a b r refl)

pub length_order : (n : ℕ) (w : List ℕ) → Among w (orders (places n)) → length w ≡ n
length_order n w m = orders_reach (λ v. length v ≡ n) (length_kept n) (places n) w (length_after 0 n) m

pub In_alternant : (n : ℕ) (β : List ℕ) → length β ≡ n → In n (alternant β)
In_alternant n β e =
    In_map n (λ (w : List ℕ). (rearranged w β, sign w)) (orders (places (length β))) (λ w m. length-map w (part β) ∙ length_order (length β) w m ∙ e)
