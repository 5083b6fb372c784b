-- Polynomials that are symmetric.
--     symmetric-monomials                         the sum of the monomials whose exponents pass a test, if exchanging two neighbouring exponents
--                                                 does not change the result of the test
--     symmetric-plus, -scale, -negate, -times     sums, multiples, negatives and products of symmetric polynomials
use Rattle.std.proofs.Common.{◌≡◌, ℕ, zero, suc, ◌==◌, Bool, false, ◌&&◌, cond, nat_le, ℤ, pos, neg_ℤ, ◌+ℤ◌, ◌*ℤ◌, List, [], ◌∷◌, ◌++◌, length, replicate, refl, sym, ◌∙◌, ap, rules}
use Rattle.sym_model.specs.Polynomial.{Poly, same, coefficient, In, one, plus, scale, negate, times, join, pair}
use Rattle.sym_model.specs.Partition.{sorted_parts}
use Rattle.sym_model.specs.Bases.{monomials, at_most_one}
use Rattle.sym_model.specs.Symmetric.{Symmetric}
use Rattle.sym_model.proofs.Monomials.{coefficient-monomials}
use Rattle.sym_model.proofs.Polynomials.{at_only, coefficient_pair, coefficient_plus, coefficient_scale, coefficient_negate, pair_ext, pair_in, pair_times}
use Rattle.sym_model.proofs.Restrictions.{and_middle}
use Rattle.alternant_laws.proofs.Exchanges.{exchanged, same_exchanged, exchanged_at, exchanged-join}
use Rattle.beta_list_laws.proofs.NeighbourExchanges.{size-exchange, length-exchange}
use Rattle.alternant_laws.proofs.Symmetry.{pair_exchanged}
use Rattle.alternant_laws.proofs.StraightenedMonomials.{sorted-exchange}
use Rattle.std.proofs.lemmas.Bool.{and_right}

-- the result of the test does not change if two neighbouring entries of the list are exchanged
abbrev pub SeesNoExchange : (List ℕ → Bool) → Type 0
SeesNoExchange test = (left : List ℕ) (a b : ℕ) (right : List ℕ) → test (left ++ (a ∷ b ∷ right)) ≡ test (left ++ (b ∷ a ∷ right))

pub symmetric-monomials : (test : List ℕ → Bool) (n d : ℕ) → SeesNoExchange test → Symmetric (monomials test n d)
symmetric-monomials test n d e left a b right = search (rules, coefficient-monomials, length-exchange, size-exchange)

-- ---- tests whose result does not change if two neighbouring entries are exchanged

pub sorts_to-exchange : (parts : List ℕ) → SeesNoExchange (λ α. same (sorted_parts α) parts)
sorts_to-exchange parts left a b right = ap (λ (l : List ℕ). same l parts) (sorted-exchange left a b right)

pub at_most_one-exchange : SeesNoExchange at_most_one
at_most_one-exchange [] a b right = and_middle (nat_le a 1) (nat_le b 1) (at_most_one right)
at_most_one-exchange (c ∷ left) a b right = ap (λ t. nat_le c 1 && t) (at_most_one-exchange left a b right)

pub symmetric-plus : (f g : Poly) → Symmetric f → Symmetric g → Symmetric (plus f g)
symmetric-plus f g s t left a b right = search (rules, coefficient_plus)

pub symmetric-scale : (c : ℤ) (f : Poly) → Symmetric f → Symmetric (scale c f)
symmetric-scale c f s left a b right =
    coefficient_scale c f (left ++ (a ∷ b ∷ right)) ∙ ap (λ z. c *ℤ z) (s left a b right) ∙ sym (coefficient_scale c f (left ++ (b ∷ a ∷ right)))

pub symmetric-negate : (f : Poly) → Symmetric f → Symmetric (negate f)
symmetric-negate f s left a b right =
    coefficient_negate f (left ++ (a ∷ b ∷ right)) ∙ ap neg_ℤ (s left a b right) ∙ sym (coefficient_negate f (left ++ (b ∷ a ∷ right)))

times-exchanged : (n k : ℕ) (f g : Poly) (γ : List ℕ) → In n f → In n g → Symmetric f → Symmetric g
    → coefficient (times f g) (exchanged k γ) ≡ coefficient (times f g) γ
times-exchanged n k f g γ i j s t =
    coefficient_pair (times f g) (exchanged k γ)
    ∙ pair_times f g (at_only (exchanged k γ))
    ∙ pair_in n f (λ α. pair g (λ β. at_only (exchanged k γ) (join α β))) (λ α. pair g (λ β. at_only γ (join (exchanged k α) (exchanged k β)))) i
    (λ α l. pair_in n g (λ β. at_only (exchanged k γ) (join α β)) (λ β. at_only γ (join (exchanged k α) (exchanged k β))) j (λ β m.
    ap (λ x. cond x (pos 1) (pos 0)) (sym (same_exchanged k (join α β) γ) ∙ ap (λ δ. same δ γ) (exchanged-join k α β (l ∙ sym m)))))
    ∙ pair_exchanged k f (λ α. pair g (λ β. at_only γ (join α (exchanged k β)))) s
    ∙ pair_ext f (λ α. pair g (λ β. at_only γ (join α (exchanged k β)))) (λ α. pair g (λ β. at_only γ (join α β)))
    (λ α. pair_exchanged k g (λ β. at_only γ (join α β)) t)
    ∙ sym (coefficient_pair (times f g) γ ∙ pair_times f g (at_only γ))

pub symmetric-times : (n : ℕ) (f g : Poly) → In n f → In n g → Symmetric f → Symmetric g → Symmetric (times f g)
symmetric-times n f g i j s t left a b right =
    sym (times-exchanged n (length left) f g (left ++ (a ∷ b ∷ right)) i j s t)
    ∙ ap (coefficient (times f g)) (exchanged_at left a b right)

zeros-exchange : (n : ℕ) → SeesNoExchange (λ α. same (replicate n 0) α)
zeros-exchange zero [] a b right = refl
zeros-exchange zero (c ∷ left) a b right = refl
zeros-exchange (suc zero) [] a b right = and_right (0 == a) false refl ∙ sym (and_right (0 == b) false refl)
zeros-exchange (suc (suc n)) [] a b right = and_middle (0 == a) (0 == b) (same (replicate n 0) right)
zeros-exchange (suc n) (c ∷ left) a b right = ap (λ t. (0 == c) && t) (zeros-exchange n left a b right)

pub symmetric-one : (n : ℕ) → Symmetric (one n)
symmetric-one n left a b right = ap (λ t. cond t (pos 1) (pos 0) +ℤ pos 0) (zeros-exchange n left a b right)
