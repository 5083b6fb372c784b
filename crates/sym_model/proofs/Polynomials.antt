-- The pairing of a polynomial with a function φ of exponent lists, a test function, is the sum of c·φ(α) over its
-- terms c·x^α. Two polynomials are the same if and only if all their pairings agree (`pair_determined`,
-- `same_from_pair`); the pairing of a sum, product or restriction is given by pairings of its operands, so that a law
-- of polynomials is a law of finite sums.
use Rattle.std.proofs.Common.{◌≡◌, ℕ, zero, suc, ◌+◌, ◌≤◌, ◌⊎◌, Bool, true, false, cond, not, List, [], ◌∷◌, ◌++◌, map, length, length-append, sym, ◌∙◌, ap, ap₂, subst, refl, inl, inr, arith, ℤ, pos, ◌+ℤ◌, ◌*ℤ◌, neg_ℤ, filter, flat_map, rules}
use Rattle.std.proofs.lemmas.Int.{ints}
use Rattle.std.proofs.lemmas.Bool.{cases_eq}
use Rattle.std.proofs.lemmas.List.{length-replicate}
use Rattle.sym_model.specs.Sum.{total, Among}
use Rattle.sym_model.specs.Polynomial.{Term, Poly, same, coefficient, Same, In, no_exponents, one, join, plus, scale, negate, times, pair, resize, fits_in, restrict}
use Rattle.sym_model.specs.Expansion.{beside}
use Rattle.sym_model.proofs.Ring.{distributes_left, product_assoc, product_left_comm, negation-product, product-negation, one-product}
use Rattle.sym_model.proofs.Sums.{total_ext, total_among, total_append, total_none, total_add, total_neg, total_scale, total_map, total_each, total_select, total_exchange, Among_from_append, Among_from_map, Among_from_each, Among_from_select}
use Rattle.sym_model.proofs.Exponents.{same_refl, same_true, same_apart, same_or_not, length-join_same, length-resize}
use Rattle.std.specs.Prelude.{◌≤ℤ◌}
use lib.IntN.{+ℤ_idl, *ℤ-zero, *ℤ_comm}
use Rattle.sym_model.proofs.Integers.{times_chosen, chosen_as_product}

-- ---- pairings of one polynomial (`pair`) with different functions of exponents

pub pair_ext : (f : Poly) (φ ψ : List ℕ → ℤ) → ((α : List ℕ) → φ α ≡ ψ α) → pair f φ ≡ pair f ψ
pair_ext f φ ψ e = total_ext (λ (t : Term). t.1 *ℤ φ t.0) (λ (t : Term). t.1 *ℤ ψ t.0) (λ t. ap (λ n. t.1 *ℤ n) (e t.0)) f

-- for f in n variables: the sum of c·φ(α) over the terms c·x^α of f (`pair f φ`) depends only on the values of φ at
-- lists of n places
pub pair_in : (n : ℕ) (f : Poly) (φ ψ : List ℕ → ℤ) → In n f → ((α : List ℕ) → length α ≡ n → φ α ≡ ψ α) → pair f φ ≡ pair f ψ
pair_in n f φ ψ i e = total_among (λ (t : Term). t.1 *ℤ φ t.0) (λ (t : Term). t.1 *ℤ ψ t.0) f (λ t m. ap (λ c. t.1 *ℤ c) (e t.0 (i t m)))

pub pair_add : (f : Poly) (φ ψ : List ℕ → ℤ) → pair f (λ α. φ α +ℤ ψ α) ≡ pair f φ +ℤ pair f ψ
pair_add f φ ψ = search (rules, total_ext, distributes_left, total_add)

pub pair_factor : (c : ℤ) (f : Poly) (φ : List ℕ → ℤ) → pair f (λ α. c *ℤ φ α) ≡ c *ℤ pair f φ
pair_factor c f φ = search (rules, total_ext, product_left_comm, total_scale)

pub pair_opposite : (f : Poly) (φ : List ℕ → ℤ) → pair f (λ α. neg_ℤ (φ α)) ≡ neg_ℤ (pair f φ)
pair_opposite f φ = search (rules, total_ext, neg_ℤ, product-negation, total_neg)

pub pair_zero : (f : Poly) → pair f (λ α. pos 0) ≡ pos 0
pair_zero f = total_none (λ (t : Term). t.1 *ℤ pos 0) f (λ t m. *ℤ-zero t.1)

-- the pairing (`pair`) of f with a sum of functions of exponents is the sum of the pairings of f with these functions
pub pair_total : {A : Type 0} (f : Poly) (φ : A → List ℕ → ℤ) (xs : List A) → pair f (λ α. total (λ (x : A). φ x α) xs) ≡ total (λ (x : A). pair f (φ x)) xs
pair_total {A} f φ xs =
    total_ext (λ (t : Term). t.1 *ℤ total (λ (x : A). φ x t.0) xs) (λ (t : Term). total (λ (x : A). t.1 *ℤ φ x t.0) xs) (λ t. sym (total_scale t.1 (λ (x : A). φ x t.0) xs)) f
    ∙ total_exchange (λ (t : Term) (x : A). t.1 *ℤ φ x t.0) f xs

pub pair_exchange : (f g : Poly) (φ : List ℕ → List ℕ → ℤ) → pair f (λ α. pair g (λ β. φ α β)) ≡ pair g (λ β. pair f (λ α. φ α β))
pair_exchange f g φ =
    pair_total {A = Term} f (λ (t : Term) (α : List ℕ). t.1 *ℤ φ α t.0) g
    ∙ total_ext (λ (t : Term). pair f (λ α. t.1 *ℤ φ α t.0)) (λ (t : Term). t.1 *ℤ pair f (λ α. φ α t.0)) (λ t. pair_factor t.1 f (λ α. φ α t.0)) g

-- ---- pairings (`pair`) of sums, multiples, products and restrictions of polynomials

pub pair_plus : (f g : Poly) (φ : List ℕ → ℤ) → pair (plus f g) φ ≡ pair f φ +ℤ pair g φ
pair_plus f g φ = total_append (λ (t : Term). t.1 *ℤ φ t.0) f g

pub pair_scale : (c : ℤ) (f : Poly) (φ : List ℕ → ℤ) → pair (scale c f) φ ≡ c *ℤ pair f φ
pair_scale c f φ = search (rules, total_map, total_ext, product_assoc, total_scale)

pub pair_negate : (f : Poly) (φ : List ℕ → ℤ) → pair (negate f) φ ≡ neg_ℤ (pair f φ)
pair_negate f φ = search (rules, total_map, neg_ℤ, total_ext, negation-product, total_neg)

pub pair_each : {A : Type 0} (h : A → Poly) (xs : List A) (φ : List ℕ → ℤ) → pair (flat_map h xs) φ ≡ total (λ (x : A). pair (h x) φ) xs
pair_each h xs φ = total_each (λ (t : Term). t.1 *ℤ φ t.0) h xs

-- if f is the sum of the monomials x^α over a list of exponents α, then `pair f φ` is the sum of the φ(α)
pub pair_monomials : (αs : List (List ℕ)) (φ : List ℕ → ℤ) → pair (map (λ (α : List ℕ). (α, pos 1)) αs) φ ≡ total φ αs
pair_monomials αs φ = search (rules, total_map, total_ext, one-product)

-- for a term s = c·x^α: `pair (s·g) φ` is c times the pairing of g with the function that takes β to φ(α + β)
pub pair_shift : (s : Term) (g : Poly) (φ : List ℕ → ℤ) → pair (map (λ (t : Term). (join s.0 t.0, s.1 *ℤ t.1)) g) φ ≡ s.1 *ℤ pair g (λ β. φ (join s.0 β))
pair_shift s g φ = search (rules, total_map, total_ext, product_assoc, total_scale)

pub pair_times : (f g : Poly) (φ : List ℕ → ℤ) → pair (times f g) φ ≡ pair f (λ α. pair g (λ β. φ (join α β)))
pair_times f g φ = search (rules, pair_each, total_ext, pair_shift)

pub pair_times_each : {A : Type 0} (f : Poly) (h : A → Poly) (xs : List A) (φ : List ℕ → ℤ) → pair (times f (flat_map h xs)) φ ≡ total (λ (x : A). pair (times f (h x)) φ) xs
pair_times_each {A} f h xs φ =
    pair_times f (flat_map h xs) φ
    ∙ pair_ext f (λ α. pair (flat_map h xs) (λ β. φ (join α β))) (λ α. total (λ (x : A). pair (h x) (λ β. φ (join α β))) xs) (λ α. pair_each h xs (λ β. φ (join α β)))
    ∙ pair_total f (λ (x : A) (α : List ℕ). pair (h x) (λ β. φ (join α β))) xs
    ∙ total_ext (λ (x : A). pair f (λ α. pair (h x) (λ β. φ (join α β)))) (λ (x : A). pair (times f (h x)) φ) (λ x. sym (pair_times f (h x) φ)) xs

pub pair_one : (n : ℕ) (φ : List ℕ → ℤ) → pair (one n) φ ≡ φ (no_exponents n)
pair_one n φ = omega (arith, ints, one-product (φ (no_exponents n)))

pub pair_restrict : (n : ℕ) (f : Poly) (φ : List ℕ → ℤ) → pair (restrict n f) φ ≡ pair f (λ α. cond (fits_in n α) (φ (resize n α)) (pos 0))
pair_restrict n f φ = search (rules, total_map, total_select, total_ext, times_chosen)

pair_behind : (s : Term) (g : Poly) (φ : List ℕ → ℤ) → pair (map (λ (t : Term). (s.0 ++ t.0, s.1 *ℤ t.1)) g) φ ≡ s.1 *ℤ pair g (λ β. φ (s.0 ++ β))
pair_behind s g φ = search (rules, total_map, total_ext, product_assoc, total_scale)

pub pair_beside : (f g : Poly) (φ : List ℕ → ℤ) → pair (beside f g) φ ≡ pair f (λ α. pair g (λ β. φ (α ++ β)))
pair_beside f g φ = search (rules, pair_each, total_ext, pair_behind)

-- ---- coefficients as pairings, and pairings of polynomials with the same coefficients

-- the function of exponent lists that is 1 at α and 0 elsewhere
abbrev pub at_only : List ℕ → List ℕ → ℤ
at_only α β = cond (same β α) (pos 1) (pos 0)

pub coefficient_pair : (f : Poly) (α : List ℕ) → coefficient f α ≡ pair f (at_only α)
coefficient_pair f α = total_ext (λ (t : Term). cond (same t.0 α) t.1 (pos 0)) (λ (t : Term). t.1 *ℤ at_only α t.0) (λ t. chosen_as_product (same t.0 α) t.1) f

pub same_from_pair : (f g : Poly) → ((φ : List ℕ → ℤ) → pair f φ ≡ pair g φ) → Same f g
same_from_pair f g e α = coefficient_pair f α ∙ e (at_only α) ∙ sym (coefficient_pair g α)

-- the terms of f whose exponents are not α
abbrev pub others : List ℕ → Poly → Poly
others α f = filter (λ (t : Term). not (same t.0 α)) f

pub length_others : (α : List ℕ) (f : Poly) → length (others α f) ≤ length f
length_others α [] = omega arith
length_others α (t ∷ f) = search (rules, (length_others α f))

pub others_there : (α : List ℕ) (f : Poly) → coefficient (others α f) α ≡ pos 0
others_there α f = search (rules, total_select, total_none)

pub others_elsewhere : (α β : List ℕ) (f : Poly) → (α ≡ β → ⊥) → coefficient (others α f) β ≡ coefficient f β
others_elsewhere α β f h = search (rules, total_select, total_ext, same_apart, same_true)

-- `pair f φ` is φ(α) times the coefficient of f at α, plus the sum of c·φ(β) over the terms c·x^β of f with β not
-- equal to α
pub pair_others : (α : List ℕ) (f : Poly) (φ : List ℕ → ℤ) → pair f φ ≡ φ α *ℤ coefficient f α +ℤ pair (others α f) φ
pair_others α f φ =
    total_ext (λ (t : Term). t.1 *ℤ φ t.0) (λ (t : Term). φ α *ℤ here t +ℤ there t) (λ t. by t (same t.0 α) refl) f
    ∙ total_add (λ (t : Term). φ α *ℤ here t) there f
    ∙ ap₂ ◌+ℤ◌ (total_scale (φ α) here f) (sym (total_select (λ (t : Term). t.1 *ℤ φ t.0) (λ (t : Term). not (same t.0 α)) f))
  where
    here : Term → ℤ
    here t = cond (same t.0 α) t.1 (pos 0)

    there : Term → ℤ
    there t = cond (not (same t.0 α)) (t.1 *ℤ φ t.0) (pos 0)

    by : (t : Term) (b : Bool) → same t.0 α ≡ b → t.1 *ℤ φ t.0 ≡ φ α *ℤ cond b t.1 (pos 0) +ℤ cond (not b) (t.1 *ℤ φ t.0) (pos 0)
    by t true e = let d = ap (λ γ. t.1 *ℤ φ γ) (same_true t.0 α e) in let k = *ℤ_comm t.1 (φ α) in omega (arith, ints)
    by t false e = let z = *ℤ-zero (φ α) in omega (arith, ints)

coefficient_first : (t : Term) (f : Poly) → coefficient (t ∷ f) t.0 ≡ t.1 +ℤ coefficient f t.0
coefficient_first t f = ap (λ b. cond b t.1 (pos 0) +ℤ coefficient f t.0) (same_refl t.0)

pair_first : (t : Term) (f : Poly) (φ : List ℕ → ℤ) → pair (t ∷ f) φ ≡ φ t.0 *ℤ coefficient (t ∷ f) t.0 +ℤ pair (others t.0 f) φ
pair_first t f φ =
    let a = pair_others t.0 f φ in
    let d = distributes_left (φ t.0) t.1 (coefficient f t.0) in
    let e = ap (λ x. φ t.0 *ℤ x) (coefficient_first t f) in
    let k = *ℤ_comm t.1 (φ t.0) in
    omega (arith, ints)

agree_by_length : (n : ℕ) (f : Poly) (φ ψ : List ℕ → ℤ) → length f ≤ n → ((α : List ℕ) → (coefficient f α ≡ pos 0) ⊎ (φ α ≡ ψ α)) → pair f φ ≡ pair f ψ
agree_by_length n [] φ ψ l h = refl
agree_by_length zero (t ∷ f) φ ψ l h = absurd (omega arith)
agree_by_length (suc n) (t ∷ f) φ ψ l h =
    pair_first t f φ
    ∙ ap₂ ◌+ℤ◌ here (agree_by_length n (others t.0 f) φ ψ (omega (arith, length_others t.0 f)) left)
    ∙ sym (pair_first t f ψ)
  where
    here : φ t.0 *ℤ coefficient (t ∷ f) t.0 ≡ ψ t.0 *ℤ coefficient (t ∷ f) t.0
    here = elim (h t.0) [
      | inl e ↦ ap (λ c. φ t.0 *ℤ c) e ∙ *ℤ-zero (φ t.0) ∙ sym (*ℤ-zero (ψ t.0)) ∙ sym (ap (λ c. ψ t.0 *ℤ c) e)
      | inr e ↦ ap (λ x. x *ℤ coefficient (t ∷ f) t.0) e
    ]

    left : (β : List ℕ) → (coefficient (others t.0 f) β ≡ pos 0) ⊎ (φ β ≡ ψ β)
    left β = elim (same_or_not t.0 β) [
      | inl e ↦ inl (subst (λ γ. coefficient (others t.0 f) γ ≡ pos 0) e (others_there t.0 f))
      | inr d ↦ elim (h β) [
        | inl e ↦ inl (others_elsewhere t.0 β f d ∙ sym (+ℤ_idl (coefficient f β)) ∙ ap (λ b. cond b t.1 (pos 0) +ℤ coefficient f β) (sym (same_apart t.0 β d)) ∙ e)
        | inr e ↦ inr e
      ]
    ]

-- if φ and ψ agree at each α at which f has a coefficient other than 0, then the sums of c·φ(α) and of c·ψ(α) over
-- the terms c·x^α of f are equal
pub pair_agree : (f : Poly) (φ ψ : List ℕ → ℤ) → ((α : List ℕ) → (coefficient f α ≡ pos 0) ⊎ (φ α ≡ ψ α)) → pair f φ ≡ pair f ψ
pair_agree f φ ψ h = agree_by_length (length f) f φ ψ (omega arith) h

pub pair_determined : (f g : Poly) (φ : List ℕ → ℤ) → Same f g → pair f φ ≡ pair g φ
pair_determined f g φ e =
    let z = pair_agree (f ++ negate g) φ (λ α. pos 0) (λ α. inl (none α)) ∙ pair_zero (f ++ negate g) in
    let a = pair_plus f (negate g) φ in
    let b = pair_negate g φ in
    omega (arith, ints)
  where
    none : (α : List ℕ) → coefficient (f ++ negate g) α ≡ pos 0
    none α =
        let a = pair_plus f (negate g) (at_only α) in
        let b = pair_negate g (at_only α) in
        let c = coefficient_pair f α in
        let d = coefficient_pair g α in
        let k = e α in
        coefficient_pair (f ++ negate g) α ∙ omega (arith, ints)

-- ---- equality of polynomials (`Same`) is an equivalence that sums and products respect

pub Same_refl : (f : Poly) → Same f f
Same_refl f α = refl

pub Same_sym : (f g : Poly) → Same f g → Same g f
Same_sym f g e α = sym (e α)

pub Same_trans : (f g h : Poly) → Same f g → Same g h → Same f h
Same_trans f g h d e α = d α ∙ e α

pub same_of_equal : (f g : Poly) → f ≡ g → Same f g
same_of_equal f g e α = ap (λ h. coefficient h α) e

pub plus_respects : (f g h k : Poly) → Same f g → Same h k → Same (plus f h) (plus g k)
plus_respects f g h k d e =
    same_from_pair (plus f h) (plus g k) (λ φ. pair_plus f h φ ∙ ap₂ ◌+ℤ◌ (pair_determined f g φ d) (pair_determined h k φ e) ∙ sym (pair_plus g k φ))

pub scale_respects : (c : ℤ) (f g : Poly) → Same f g → Same (scale c f) (scale c g)
scale_respects c f g e =
    same_from_pair (scale c f) (scale c g) (λ φ. pair_scale c f φ ∙ ap (λ n. c *ℤ n) (pair_determined f g φ e) ∙ sym (pair_scale c g φ))

pub negate_respects : (f g : Poly) → Same f g → Same (negate f) (negate g)
negate_respects f g e =
    same_from_pair (negate f) (negate g) (λ φ. pair_negate f φ ∙ ap neg_ℤ (pair_determined f g φ e) ∙ sym (pair_negate g φ))

pub times_respects : (f g h k : Poly) → Same f g → Same h k → Same (times f h) (times g k)
times_respects f g h k d e =
    same_from_pair (times f h) (times g k) (λ φ.
    pair_times f h φ
    ∙ pair_ext f (λ α. pair h (λ β. φ (join α β))) (λ α. pair k (λ β. φ (join α β))) (λ α. pair_determined h k (λ β. φ (join α β)) e)
    ∙ pair_determined f g (λ α. pair k (λ β. φ (join α β))) d
    ∙ sym (pair_times g k φ))

pub restrict_respects : (n : ℕ) (f g : Poly) → Same f g → Same (restrict n f) (restrict n g)
restrict_respects n f g e = search (rules, same_from_pair, pair_restrict, pair_determined)

-- ---- polynomials in n variables, whose exponent lists have n places

pub In_one : (n : ℕ) → In n (one n)
In_one n t (inl e) = ap (λ (s : Term). length s.0) e ∙ length-replicate n 0
In_one n t (inr m) = absurd m

pub In_plus : (n : ℕ) (f g : Poly) → In n f → In n g → In n (plus f g)
In_plus n f g i j t m = elim (Among_from_append t f g m) [ inl l ↦ i t l | inr r ↦ j t r ]

-- if the exponent list of the term h(x) has n places for each x in xs, the sum of the terms h(x) is a polynomial in n
-- variables
pub In_map : {A : Type 0} (n : ℕ) (h : A → Term) (xs : List A) → ((x : A) → Among x xs → length (h x).0 ≡ n) → In n (map h xs)
In_map n h xs i t m = let r = Among_from_map h t xs m in ap (λ (s : Term). length s.0) r.2 ∙ i r.0 r.1

pub In_each : {A : Type 0} (n : ℕ) (h : A → Poly) (xs : List A) → ((x : A) → Among x xs → In n (h x)) → In n (flat_map h xs)
In_each n h xs i t m = let r = Among_from_each h t xs m in i r.0 r.1 t r.2

pub In_select : (n : ℕ) (test : Term → Bool) (f : Poly) → In n f → In n (filter test f)
In_select n test f i t m = i t (Among_from_select test t f m).0

pub In_scale : (n : ℕ) (c : ℤ) (f : Poly) → In n f → In n (scale c f)
In_scale n c f i = In_map n (λ (t : Term). (t.0, c *ℤ t.1)) f i

pub In_negate : (n : ℕ) (f : Poly) → In n f → In n (negate f)
In_negate n f i = In_map n (λ (t : Term). (t.0, neg_ℤ t.1)) f i

pub In_times : (n : ℕ) (f g : Poly) → In n f → In n g → In n (times f g)
In_times n f g i j = search (rules, In_each, In_map, length-join_same)

pub In_beside : (n k : ℕ) (f g : Poly) → In n f → In k g → In (n + k) (beside f g)
In_beside n k f g i j =
    In_each (n + k) (λ (s : Term). map (λ (t : Term). (s.0 ++ t.0, s.1 *ℤ t.1)) g) f (λ s p.
    In_map (n + k) (λ (t : Term). (s.0 ++ t.0, s.1 *ℤ t.1)) g (λ t q. let a = length-append s.0 t.0 in let b = i s p in let c = j t q in omega arith))

pub In_restrict : (n : ℕ) (f : Poly) → In n (restrict n f)
In_restrict n f = In_map n (λ (t : Term). (resize n t.0, t.1)) (filter (λ (t : Term). fits_in n t.0) f) (λ t m. length-resize n t.0)

pub coefficient_outside : (n : ℕ) (f : Poly) (α : List ℕ) → In n f → (length α ≡ n → ⊥) → coefficient f α ≡ pos 0
coefficient_outside n f α i h = search (rules, total_none, same_apart)

pub same_in : (n : ℕ) (f g : Poly) → In n f → In n g → ((α : List ℕ) → length α ≡ n → coefficient f α ≡ coefficient g α) → Same f g
same_in n f g i j e α =
    elim (cases_eq (length α) n) [
      | inl d ↦ e α d
      | inr d ↦ coefficient_outside n f α i d ∙ sym (coefficient_outside n g α j d)
    ]

pub coefficient_plus : (f g : Poly) (α : List ℕ) → coefficient (plus f g) α ≡ coefficient f α +ℤ coefficient g α
coefficient_plus f g α = total_append (λ (t : Term). cond (same t.0 α) t.1 (pos 0)) f g

pub coefficient_scale : (c : ℤ) (f : Poly) (α : List ℕ) → coefficient (scale c f) α ≡ c *ℤ coefficient f α
coefficient_scale c f α = coefficient_pair (scale c f) α ∙ pair_scale c f (at_only α) ∙ ap (λ n. c *ℤ n) (sym (coefficient_pair f α))

pub coefficient_negate : (f : Poly) (α : List ℕ) → coefficient (negate f) α ≡ neg_ℤ (coefficient f α)
coefficient_negate f α = coefficient_pair (negate f) α ∙ pair_negate f (at_only α) ∙ ap neg_ℤ (sym (coefficient_pair f α))

-- the coefficient of x^α in f restricted to n variables is the sum of the coefficients of f at the lists β that have
-- no positive exponent after place n and are α if they are cut or padded to n places
pub coefficient_restrict : (n : ℕ) (f : Poly) (α : List ℕ) → coefficient (restrict n f) α ≡ pair f (λ β. cond (fits_in n β) (at_only α (resize n β)) (pos 0))
coefficient_restrict n f α = coefficient_pair (restrict n f) α ∙ pair_restrict n f (at_only α)

pub at_only-nonnegative : (α β : List ℕ) → pos 0 ≤ℤ at_only α β
at_only-nonnegative α β = search rules
