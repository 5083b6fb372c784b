-- The laws of the ring of polynomials, and of restriction to fewer variables. They are proved by pairings: the pairing
-- of a polynomial f with a function φ of exponents is the sum of c·φ(α) over the terms c·x^α of f (`pair f φ`).
use Rattle.std.proofs.Common.{◌≡◌, ℕ, Bool, true, false, ◌&&◌, cond, List, sym, ◌∙◌, ap, ap₂, refl, arith, ℤ, pos, ◌+ℤ◌, neg_ℤ, rules}
use Rattle.std.proofs.lemmas.Int.{ints}
use Rattle.sym_model.specs.Polynomial.{Poly, Same, In, nothing, no_exponents, one, join, plus, scale, negate, times, pair, resize, fits_in, restrict}
use Rattle.sym_model.proofs.Exponents.{join_comm, join_assoc, join_zeros, resize_zeros, resize-join, fits_in-join, fits_in_zeros}
use Rattle.sym_model.proofs.Polynomials.{pair_ext, pair_in, pair_add, pair_factor, pair_opposite, pair_zero, pair_exchange, pair_plus, pair_scale, pair_negate, pair_times, pair_one, pair_restrict, same_from_pair, Same_trans, pair_determined}
use Rattle.std.specs.Prelude.{◌-ℤ◌}

pub plus_comm : (f g : Poly) → Same (plus f g) (plus g f)
plus_comm f g = same_from_pair (plus f g) (plus g f) (λ φ. omega (arith, ints, pair_plus f g φ, pair_plus g f φ))

pub plus-negate : (f : Poly) → Same (plus f (negate f)) nothing
plus-negate f = same_from_pair (plus f (negate f)) nothing (λ φ. omega (arith, ints, pair_plus f (negate f) φ, pair_negate f φ))

-- ---- laws of products of polynomials

pub times_comm : (f g : Poly) → Same (times f g) (times g f)
times_comm f g =
    same_from_pair (times f g) (times g f) (λ φ.
    pair_times f g φ
    ∙ pair_exchange f g (λ α β. φ (join α β))
    ∙ pair_ext g (λ β. pair f (λ α. φ (join α β))) (λ β. pair f (λ α. φ (join β α))) (λ β. pair_ext f (λ α. φ (join α β)) (λ α. φ (join β α)) (λ α. ap φ (join_comm α β)))
    ∙ sym (pair_times g f φ))

pub times_assoc : (f g h : Poly) → Same (times (times f g) h) (times f (times g h))
times_assoc f g h = search (rules, same_from_pair, pair_times, pair_ext, join_assoc)

pub one-times : (n : ℕ) (f : Poly) → In n f → Same (times (one n) f) f
one-times n f i =
    same_from_pair (times (one n) f) f (λ φ.
    pair_times (one n) f φ
    ∙ pair_one n (λ α. pair f (λ β. φ (join α β)))
    ∙ pair_in n f (λ β. φ (join (no_exponents n) β)) φ i (λ β e. ap φ (join_zeros n β (omega arith))))

pub times-one : (n : ℕ) (f : Poly) → In n f → Same (times f (one n)) f
times-one n f i = Same_trans (times f (one n)) (times (one n) f) f (times_comm f (one n)) (one-times n f i)

pub times-plus : (f g h : Poly) → Same (times f (plus g h)) (plus (times f g) (times f h))
times-plus f g h = search (rules, same_from_pair, pair_times, pair_ext, pair_plus, pair_add)

pub scale-times : (c : ℤ) (f g : Poly) → Same (scale c (times f g)) (times (scale c f) g)
scale-times c f g = search (rules, same_from_pair, pair_scale, pair_times)

pub times-scale : (c : ℤ) (f g : Poly) → Same (times f (scale c g)) (scale c (times f g))
times-scale c f g = search (rules, same_from_pair, pair_times, pair_ext, pair_scale, pair_factor)

pub times-negate : (f g : Poly) → Same (times f (negate g)) (negate (times f g))
times-negate f g = search (rules, same_from_pair, pair_times, pair_ext, neg_ℤ, pair_negate, pair_opposite)

-- ---- laws of restriction to fewer variables

-- the function of exponents whose pairing with each polynomial f is the pairing of φ with f restricted to n variables
abbrev pub restricted_test : ℕ → (List ℕ → ℤ) → List ℕ → ℤ
restricted_test n φ α = cond (fits_in n α) (φ (resize n α)) (pos 0)

pub restrict-plus : (n : ℕ) (f g : Poly) → Same (restrict n (plus f g)) (plus (restrict n f) (restrict n g))
restrict-plus n f g = search (rules, same_from_pair, pair_restrict, pair_plus)

restricted_join : (n : ℕ) (φ : List ℕ → ℤ) (g : Poly) (α : List ℕ) → pair g (λ β. restricted_test n φ (join α β)) ≡ restricted_test n (λ γ. pair g (restricted_test n (λ β. φ (join γ β)))) α
restricted_join n φ g α = by (fits_in n α) refl
  where
    by : (b : Bool) → fits_in n α ≡ b → pair g (λ β. restricted_test n φ (join α β)) ≡ cond b (pair g (restricted_test n (λ β. φ (join (resize n α) β)))) (pos 0)
    by true e =
        pair_ext g (λ β. restricted_test n φ (join α β)) (restricted_test n (λ β. φ (join (resize n α) β))) (λ β.
        ap₂ (λ b γ. cond b (φ γ) (pos 0)) (fits_in-join n α β ∙ ap (λ b. b && fits_in n β) e) (resize-join n α β))
    by false e =
        pair_ext g (λ β. restricted_test n φ (join α β)) (λ β. pos 0) (λ β. ap (λ b. cond b (φ (resize n (join α β))) (pos 0)) (fits_in-join n α β ∙ ap (λ b. b && fits_in n β) e))
        ∙ pair_zero g

pub restrict-times : (n : ℕ) (f g : Poly) → Same (restrict n (times f g)) (times (restrict n f) (restrict n g))
restrict-times n f g =
    same_from_pair (restrict n (times f g)) (times (restrict n f) (restrict n g)) (λ φ.
    pair_restrict n (times f g) φ
    ∙ pair_times f g (restricted_test n φ)
    ∙ pair_ext f (λ α. pair g (λ β. restricted_test n φ (join α β))) (restricted_test n (λ γ. pair g (restricted_test n (λ β. φ (join γ β))))) (restricted_join n φ g)
    ∙ sym (pair_times (restrict n f) (restrict n g) φ
    ∙ pair_restrict n f (λ α. pair (restrict n g) (λ β. φ (join α β)))
    ∙ pair_ext f (restricted_test n (λ α. pair (restrict n g) (λ β. φ (join α β)))) (restricted_test n (λ α. pair g (restricted_test n (λ β. φ (join α β))))) (λ α.
    ap (λ m. cond (fits_in n α) m (pos 0)) (pair_restrict n g (λ β. φ (join (resize n α) β))))))

pub restrict-one : (n k : ℕ) → Same (restrict n (one k)) (one n)
restrict-one n k = search (rules, same_from_pair, pair_restrict, pair_one, fits_in_zeros, resize_zeros)

pub restrict-scale : (n : ℕ) (c : ℤ) (f : Poly) → Same (restrict n (scale c f)) (scale c (restrict n f))
restrict-scale n c f = search (rules, same_from_pair, pair_restrict, pair_scale)

pub pair_times_comm : (p f : Poly) (φ : List ℕ → ℤ) → pair (times p f) φ ≡ pair (times f p) φ
pair_times_comm p f φ = pair_determined (times p f) (times f p) φ (times_comm p f)

pub pair_times_plus : (p f g : Poly) (φ : List ℕ → ℤ) → pair (times p (plus f g)) φ ≡ pair (times p f) φ +ℤ pair (times p g) φ
pair_times_plus p f g φ = pair_determined (times p (plus f g)) (plus (times p f) (times p g)) φ (times-plus p f g) ∙ pair_plus (times p f) (times p g) φ

pub pair_times_minus : (p f g : Poly) (φ : List ℕ → ℤ) → pair (times p (plus f (negate g))) φ ≡ pair (times p f) φ -ℤ pair (times p g) φ
pair_times_minus p f g φ =
    let a = pair_times_plus p f (negate g) φ in
    let b = pair_determined (times p (negate g)) (negate (times p g)) φ (times-negate p g) in
    let c = pair_negate (times p g) φ in
    omega (arith, ints)
