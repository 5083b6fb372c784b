-- The Schur polynomial of the complement of λ in the rectangle with k rows and n columns is that of λ with each exponent a replaced by n - a; so the
-- coefficient of a product is also that of the complements.
--     complemented        the polynomial with each exponent a replaced by n - a
use Rattle.std.proofs.Common.{◌≡◌, ℕ, zero, suc, ◌+◌, ◌-◌, ◌≤◌, cond, List, [], ◌∷◌, map, length, reverse, refl, sym, ◌∙◌, ap, ap₂, subst, arith, ℤ, pos, ◌*ℤ◌, neg_ℤ}
use Rattle.std.proofs.lemmas.Int.{ints}
use Rattle.std.proofs.lemmas.List.{reverse-reverse}
use Rattle.sym_model.specs.Sum.{Among}
use Rattle.sym_model.specs.Bounded.{AreAtMost}
use Rattle.sym_model.specs.Partition.{IsPartition, rows, columns}
use Rattle.sym_model.specs.PlaceOrders.{orders, places, sign}
use Rattle.sym_model.specs.Symmetric.{Symmetric}
use Rattle.sym_model.specs.Polynomial.{Poly, Term, In, Same, same, join, times, pair, resize}
use Rattle.sym_model.specs.Schur.{schur}
use Rattle.sym_model.specs.Alternant.{rearranged, alternant, staircase, alternants_over}
use Rattle.sym_model.specs.GoodTableau.{product_count}
use Rattle.sym_model.proofs.Sums.{total_among, total_map, Among_from_map}
use Rattle.sym_model.proofs.Exponents.{tests_agree, same_true, same_from, length-join_same, length-resize}
use Rattle.sym_model.proofs.Parts.{length-staircase}
use Rattle.sym_model.proofs.SortedParts.{IsPartition-none}
use Rattle.alternant_laws.proofs.FallingAlternants.{join_padded}
use Rattle.sym_model.proofs.Polynomials.{at_only, coefficient_pair, same_from_pair, pair_determined, pair_times, pair_in, pair_opposite, In_map, Same_refl, Same_sym, Same_trans, times_respects}
use Rattle.sym_model.proofs.PolynomialLaws.{times_assoc}
use Rattle.alternant_laws.proofs.Alternants.{In_alternant}
use Rattle.alternant_laws.proofs.Alternating.{alternating, alternating_map}
use Rattle.alternant_laws.proofs.AlternantProducts.{alternant_times, pair_alternants_over}
use Rattle.alternant_laws.proofs.CountedTerms.{product_coefficients}
use Rattle.alternant_laws.proofs.GoodAlternants.{In-skew_schur}
use Rattle.alternant_laws.proofs.OrderSums.{pair_alternant}
use Rattle.alternant_laws.proofs.SchurProducts.{bialternant}
use Rattle.alternant_laws.proofs.Staircase.{staircase_cancels}
use Rattle.alternant_laws.proofs.TableauInvolution.{symmetric-skew_schur}
use Rattle.product_laws.proofs.Straightened.{IsShape}
use Rattle.complement_laws.specs.Complement.{complement}
use Rattle.complement_laws.proofs.Flipped.{flipped, length-flipped, flipped-join, flipped_twice, flipped-reversed, at_most-join, at_most_by_places, places_at_most, staircase_at_most, resize_at_most, staircase-turned, shape-complement, beta-complement}
use Rattle.complement_laws.proofs.Reversed.{signed, signed_twice, reversals, alternating-reversed, alternating-of_reversed}
use Rattle.complement_laws.proofs.SmallExponents.{HasExponentsUpTo, schur-exponents}

-- ---- pairings of polynomials whose exponents have a bound

abbrev pub complemented : ℕ → Poly → Poly
complemented n f = map (λ (t : Term). (flipped n t.0, t.1)) f

pair-complemented : (n : ℕ) (f : Poly) (φ : List ℕ → ℤ) → pair (complemented n f) φ ≡ pair f (λ α. φ (flipped n α))
pair-complemented n f φ = total_map (λ (t : Term). t.1 *ℤ φ t.0) (λ (t : Term). let u : Term = (flipped n t.0, t.1) in u) f

In-complemented : (k n : ℕ) (f : Poly) → In k f → In k (complemented n f)
In-complemented k n f i =
    In_map k (λ (t : Term). let u : Term = (flipped n t.0, t.1) in u) f (λ t m. length-flipped n t.0 ∙ i t m)

pair_terms : (f : Poly) (φ ψ : List ℕ → ℤ) → ((t : Term) → Among t f → φ t.0 ≡ ψ t.0) → pair f φ ≡ pair f ψ
pair_terms f φ ψ h = total_among (λ (t : Term). t.1 *ℤ φ t.0) (λ (t : Term). t.1 *ℤ ψ t.0) f (λ t m. ap (λ z. t.1 *ℤ z) (h t m))

-- two functions of the exponents of two polynomials agree if they do so at exponents of length k within the bounds
pair_two : (k b n : ℕ) (p f : Poly) (φ ψ : List ℕ → List ℕ → ℤ) → In k p → In k f → HasExponentsUpTo b p → HasExponentsUpTo n f
    → ((γ α : List ℕ) → length γ ≡ k → length α ≡ k → AreAtMost b γ → AreAtMost n α → φ γ α ≡ ψ γ α)
    → pair p (λ γ. pair f (φ γ)) ≡ pair p (λ γ. pair f (ψ γ))
pair_two k b n p f φ ψ i j u v h =
    pair_terms p (λ γ. pair f (φ γ)) (λ γ. pair f (ψ γ)) (λ s m.
    pair_terms f (φ s.0) (ψ s.0) (λ t l. h s.0 t.0 (i s m) (j t l) (u s m) (v t l)))

alternant-exponents : (b : ℕ) (β : List ℕ) → AreAtMost b β → HasExponentsUpTo b (alternant β)
alternant-exponents b β p t m =
    let u = Among_from_map (λ (w : List ℕ). let v : Term = (rearranged w β, sign w) in v) t (orders (places (length β))) m in
    subst (AreAtMost b) (sym (ap (λ (v : Term). v.0) u.2)) (by u.0)
  where
    by : (w : List ℕ) → AreAtMost b (rearranged w β)
    by [] = tt
    by (i ∷ w) = (places_at_most b β p (i - 1), by w)

-- ---- the product of an alternant and a polynomial, with exponents subtracted from a bound

pair-signed : (m : ℕ) (f : Poly) (φ : List ℕ → ℤ) → pair f (λ α. signed m (φ α)) ≡ signed m (pair f φ)
pair-signed zero f φ = refl
pair-signed (suc m) f φ = pair_opposite f (λ α. signed m (φ α)) ∙ ap neg_ℤ (pair-signed m f φ)

alternating-turned : (k b : ℕ) (β : List ℕ) (φ : List ℕ → ℤ) → length β ≡ k
    → pair (alternant (reverse (flipped b β))) φ ≡ signed (reversals k) (pair (alternant β) (λ γ. φ (flipped b γ)))
alternating-turned k b β φ e =
    pair_alternant (reverse (flipped b β)) φ
    ∙ alternating-reversed (flipped b β) φ
    ∙ ap (λ n. signed (reversals n) (alternating (flipped b β) φ)) (length-flipped b β ∙ e)
    ∙ ap (signed (reversals k)) (alternating_map (λ x. b - x) β φ ∙ sym (pair_alternant β (λ γ. φ (flipped b γ))))

product-turned : (k b n : ℕ) (β : List ℕ) (f : Poly) (φ : List ℕ → ℤ) → length β ≡ k → AreAtMost b β → In k f → HasExponentsUpTo n f
    → pair (times (alternant (reverse (flipped b β))) (complemented n f)) φ
    ≡ signed (reversals k) (pair (times (alternant β) f) (λ α. φ (flipped (b + n) α)))
product-turned k b n β f φ e p i u =
    pair_times (alternant (reverse (flipped b β))) (complemented n f) φ
    ∙ alternating-turned k b β (λ γ. pair (complemented n f) (λ α. φ (join γ α))) e
    ∙ ap (signed (reversals k)) (
    pair_terms (alternant β) (λ γ. pair (complemented n f) (λ α. φ (join (flipped b γ) α))) (λ γ. pair f (λ α. φ (join (flipped b γ) (flipped n α))))
    (λ t m. pair-complemented n f (λ α. φ (join (flipped b t.0) α)))
    ∙ pair_two k b n (alternant β) f (λ γ α. φ (join (flipped b γ) (flipped n α))) (λ γ α. φ (flipped (b + n) (join γ α)))
    (In_alternant k β e) i (alternant-exponents b β p) u (λ γ α c d q r. ap φ (flipped-join b n γ α (c ∙ sym d) q r))
    ∙ sym (pair_times (alternant β) f (λ α. φ (flipped (b + n) α))))

product-of_reversed : (k : ℕ) (β : List ℕ) (f : Poly) (φ : List ℕ → ℤ) → length β ≡ k → In k f → Symmetric f
    → pair (times (alternant β) f) (λ α. φ (reverse α)) ≡ signed (reversals k) (pair (times (alternant β) f) φ)
product-of_reversed k β f φ e i s =
    over (λ α. φ (reverse α))
    ∙ pair_in k f (λ α. pair (alternant (join β α)) (λ γ. φ (reverse γ))) (λ α. signed (reversals k) (pair (alternant (join β α)) φ)) i (λ α d.
    pair_alternant (join β α) (λ γ. φ (reverse γ))
    ∙ alternating-of_reversed (join β α) φ
    ∙ ap (λ n. signed (reversals n) (alternating (join β α) φ)) (length-join_same k β α e d)
    ∙ ap (signed (reversals k)) (sym (pair_alternant (join β α) φ)))
    ∙ pair-signed (reversals k) f (λ α. pair (alternant (join β α)) φ)
    ∙ ap (signed (reversals k)) (sym (over φ))
  where
    over : (ψ : List ℕ → ℤ) → pair (times (alternant β) f) ψ ≡ pair f (λ α. pair (alternant (join β α)) ψ)
    over ψ = pair_determined (times (alternant β) f) (alternants_over β f) ψ (alternant_times k β f e i s) ∙ pair_alternants_over k β f ψ e i

-- ---- the Schur polynomial of a complement

length-beta_of : (k : ℕ) (parts : List ℕ) → rows parts ≤ k → length (join parts (staircase k)) ≡ k
length-beta_of k parts h = ap length (sym (join_padded k parts h)) ∙ length-join_same k (resize k parts) (staircase k) (length-resize k parts) (length-staircase k)

beta_at_most : (k n : ℕ) (parts : List ℕ) → IsShape k parts → columns parts ≤ n → AreAtMost (n + (k - 1)) (join parts (staircase k))
beta_at_most k n parts p h =
    subst (AreAtMost (n + (k - 1))) (join_padded k parts p.few)
    (at_most-join n (k - 1) (resize k parts) (staircase k) (length-resize k parts ∙ sym (length-staircase k)) (resize_at_most k n parts p.partition.falls h) (staircase_at_most k))

exponents-more : (n m : ℕ) (f : Poly) → n ≤ m → HasExponentsUpTo n f → HasExponentsUpTo m f
exponents-more n m f h u t l = at_most_by_places m t.0 (λ i. let a = places_at_most n t.0 (u t l) i in omega arith)

schur_up_to : (k n : ℕ) (parts : List ℕ) → IsShape k parts → columns parts ≤ n → HasExponentsUpTo n (schur parts k)
schur_up_to k n parts p h = exponents-more (columns parts) n (schur parts k) h (schur-exponents k parts p.partition.falls)

pub schur-complement : (k n : ℕ) (parts : List ℕ) → IsShape k parts → columns parts ≤ n
    → Same (schur (complement k n parts) k) (complemented n (schur parts k))
schur-complement k n parts p h =
    staircase_cancels k (schur (complement k n parts) k) (complemented n s) (In-skew_schur k (complement k n parts) []) (In-complemented k n s (In-skew_schur k parts []))
    (Same_trans (times (alternant ρ) (schur (complement k n parts) k)) (alternant (join (complement k n parts) ρ)) (times (alternant ρ) (complemented n s))
    (bialternant k (complement k n parts) q.partition q.few)
    (same_from_pair (alternant (join (complement k n parts) ρ)) (times (alternant ρ) (complemented n s)) both))
  where
    s : Poly
    s = schur parts k

    ρ : List ℕ
    ρ = staircase k

    q : IsShape k (complement k n parts)
    q = shape-complement k n parts p

    bound : n + (k - 1) ≡ (k - 1) + n
    bound = omega arith

    both : (φ : List ℕ → ℤ) → pair (alternant (join (complement k n parts) ρ)) φ ≡ pair (times (alternant ρ) (complemented n s)) φ
    both φ =
        ap (λ l. pair (alternant l) φ) (beta-complement k n parts p h)
        ∙ alternating-turned k (n + (k - 1)) (join parts ρ) φ (length-beta_of k parts p.few)
        ∙ ap (λ m. signed (reversals k) (pair (alternant (join parts ρ)) (λ γ. φ (flipped m γ)))) bound
        ∙ ap (signed (reversals k)) (sym (pair_determined (times (alternant ρ) s) (alternant (join parts ρ)) (λ γ. φ (flipped (k - 1 + n) γ)) (bialternant k parts p.partition p.few)))
        ∙ sym (product-turned k (k - 1) n ρ s φ (length-staircase k) (staircase_at_most k) (In-skew_schur k parts []) (schur_up_to k n parts p h))
        ∙ ap (λ l. pair (times (alternant l) (complemented n s)) φ) (staircase-turned k)

-- ---- the coefficients of products

-- the coefficient of ν in the product of λ and μ is that of x^(ν + ρ) in a_(λ + ρ)·s_μ
count_pairing : (k : ℕ) (left right outer : List ℕ) → IsShape k left → IsPartition right → IsShape k outer
    → pos (product_count k left right outer) ≡ pair (times (alternant (join left (staircase k))) (schur right k)) (at_only (join outer (staircase k)))
count_pairing k left right outer p q r =
    let ρ = staircase k in
    sym (product_coefficients k left right outer p.partition q r.partition r.few)
    ∙ coefficient_pair (times (alternant ρ) (times (schur left k) (schur right k))) (join outer ρ)
    ∙ pair_determined (times (alternant ρ) (times (schur left k) (schur right k))) (times (alternant (join left ρ)) (schur right k)) (at_only (join outer ρ))
    (Same_trans (times (alternant ρ) (times (schur left k) (schur right k))) (times (times (alternant ρ) (schur left k)) (schur right k)) (times (alternant (join left ρ)) (schur right k))
    (Same_sym (times (times (alternant ρ) (schur left k)) (schur right k)) (times (alternant ρ) (times (schur left k) (schur right k))) (times_assoc (alternant ρ) (schur left k) (schur right k)))
    (times_respects (times (alternant ρ) (schur left k)) (alternant (join left ρ)) (schur right k) (schur right k) (bialternant k left p.partition p.few) (Same_refl (schur right k))))

-- the exponents α, flipped, are the exponents γ, flipped and reversed, if and only if α reversed is γ
at_turned : (n : ℕ) (γ α : List ℕ) → AreAtMost n γ → AreAtMost n α → at_only (reverse (flipped n γ)) (flipped n α) ≡ at_only γ (reverse α)
at_turned n γ α p q =
    ap (λ b. cond b (pos 1) (pos 0)) (tests_agree (same (flipped n α) (reverse (flipped n γ))) (same (reverse α) γ)
    (λ e. same_from (reverse α) γ (
    ap reverse (sym (flipped_twice n α q) ∙ ap (flipped n) (same_true (flipped n α) (reverse (flipped n γ)) e) ∙ flipped-reversed n (flipped n γ))
    ∙ reverse-reverse (flipped n (flipped n γ)) ∙ flipped_twice n γ p))
    (λ e. same_from (flipped n α) (reverse (flipped n γ)) (
    ap (flipped n) (sym (reverse-reverse α) ∙ ap reverse (same_true (reverse α) γ e)) ∙ flipped-reversed n γ)))

pub product-complement : (k n m : ℕ) (left right outer : List ℕ) → IsShape k left → IsShape k right → IsShape k outer
    → columns left ≤ n → columns right ≤ m → columns outer ≤ n + m
    → product_count k (complement k n left) (complement k m right) (complement k (n + m) outer) ≡ product_count k left right outer
product-complement k n m left right outer p q r f g h =
    let e = turned in omega (arith, ints)
  where
    ρ : List ℕ
    ρ = staircase k

    β : List ℕ
    β = join left ρ

    γ : List ℕ
    γ = join outer ρ

    s : Poly
    s = schur right k

    b : ℕ
    b = n + (k - 1)

    up_to : n + m + (k - 1) ≡ b + m
    up_to = omega arith

    outer_bound : AreAtMost (b + m) γ
    outer_bound = subst (λ c. AreAtMost c γ) up_to (beta_at_most k (n + m) outer r h)

    at_place : (δ α : List ℕ) → length δ ≡ k → length α ≡ k → AreAtMost b δ → AreAtMost m α
        → at_only (reverse (flipped (b + m) γ)) (flipped (b + m) (join δ α)) ≡ at_only γ (reverse (join δ α))
    at_place δ α c d u v = at_turned (b + m) γ (join δ α) outer_bound (at_most-join b m δ α (c ∙ sym d) u v)

    within : pair (times (alternant β) s) (λ α. at_only (reverse (flipped (b + m) γ)) (flipped (b + m) α)) ≡ pair (times (alternant β) s) (λ α. at_only γ (reverse α))
    within =
        pair_times (alternant β) s (λ α. at_only (reverse (flipped (b + m) γ)) (flipped (b + m) α))
        ∙ pair_two k b m (alternant β) s (λ δ α. at_only (reverse (flipped (b + m) γ)) (flipped (b + m) (join δ α))) (λ δ α. at_only γ (reverse (join δ α)))
        (In_alternant k β (length-beta_of k left p.few)) (In-skew_schur k right []) (alternant-exponents b β (beta_at_most k n left p f)) (schur_up_to k m right q g) at_place
        ∙ sym (pair_times (alternant β) s (λ α. at_only γ (reverse α)))

    turned : pos (product_count k (complement k n left) (complement k m right) (complement k (n + m) outer)) ≡ pos (product_count k left right outer)
    turned =
        count_pairing k (complement k n left) (complement k m right) (complement k (n + m) outer) (shape-complement k n left p) (shape-complement k m right q).partition (shape-complement k (n + m) outer r)
        ∙ ap₂ (λ x y. pair (times (alternant x) (schur (complement k m right) k)) (at_only y)) (beta-complement k n left p f)
        (beta-complement k (n + m) outer r h ∙ ap (λ c. reverse (flipped c γ)) up_to)
        ∙ pair_determined (times (alternant (reverse (flipped b β))) (schur (complement k m right) k)) (times (alternant (reverse (flipped b β))) (complemented m s)) (at_only (reverse (flipped (b + m) γ)))
        (times_respects (alternant (reverse (flipped b β))) (alternant (reverse (flipped b β))) (schur (complement k m right) k) (complemented m s) (Same_refl (alternant (reverse (flipped b β)))) (schur-complement k m right q g))
        ∙ product-turned k b m β s (at_only (reverse (flipped (b + m) γ))) (length-beta_of k left p.few) (beta_at_most k n left p f) (In-skew_schur k right []) (schur_up_to k m right q g)
        ∙ ap (signed (reversals k)) (within ∙ product-of_reversed k β s (at_only γ) (length-beta_of k left p.few) (In-skew_schur k right []) (symmetric-skew_schur k right [] q.partition IsPartition-none))
        ∙ signed_twice (reversals k) (pair (times (alternant β) s) (at_only γ))
        ∙ sym (count_pairing k left right outer p q.partition r)
