-- The degrees of the polynomials e_k, h_k and p_k and of products of polynomials, and products of sums of monomials.
use Rattle.std.proofs.Common.{◌≡◌, ℕ, zero, suc, ◌+◌, ◌-◌, ◌<◌, ◌≤◌, ◌^◌, Bool, true, false, cond, eqb, List, [], ◌∷◌, ◌++◌, map, length, get_or, take, drop, pos, ◌*ℤ◌, refl, sym, ap, ◌∙◌, subst, inl, inr, arith, filter, flat_map}
use Rattle.std.specs.Global.{Vec}
use Rattle.std.proofs.lemmas.Bool.{eqb-true}
use Rattle.sym_model.specs.Sum.{Among}
use Rattle.sym_model.specs.Polynomial.{Term, Poly, join, times, one}
use Rattle.sym_model.specs.Partition.{size}
use Rattle.sym_model.specs.Bases.{down_from, exponent_lists, monomials, product_over}
use Rattle.sym_model.proofs.Exponents.{size-join}
use Rattle.plain_programs.specs.PlainLists.{sum_of, part_polynomial, product_polynomial, keeps, CanMultiply}
use Rattle.plain_programs.specs.declared.bases.PlainBasis.{PlainBasis}
use Rattle.plain_programs.specs.declared.bases.PlainBasis.TheVariants.{Elementary, Complete, PowerSum}
use Rattle.std.proofs.lemmas.List.{take_rest}
use Rattle.sym_model.proofs.Parts.{size-zeros}

-- the numbers of each list add up to d
abbrev pub HaveSize : ℕ → List (List ℕ) → Type 0
HaveSize d [] = Unit {0}
HaveSize d (α ∷ αs) = (size α ≡ d) × HaveSize d αs

-- each term of the polynomial has the degree d
abbrev pub HasDegree : ℕ → Poly → Type 0
HasDegree d [] = Unit {0}
HasDegree d (t ∷ f) = (size t.0 ≡ d) × HasDegree d f

have_size-append : (d : ℕ) (αs βs : List (List ℕ)) → HaveSize d αs → HaveSize d βs → HaveSize d (αs ++ βs)
have_size-append d [] βs h k = k
have_size-append d (α ∷ αs) βs h k = (h.0, have_size-append d αs βs h.1 k)

have_size-first : (d e a : ℕ) (αs : List (List ℕ)) → a + d ≡ e → HaveSize d αs → HaveSize e (map (λ α. a ∷ α) αs)
have_size-first d e a [] h k = tt
have_size-first d e a (α ∷ αs) h k = (let s = k.0 in omega arith, have_size-first d e a αs h k.1)

have_size-select : (d : ℕ) (test : List ℕ → Bool) (αs : List (List ℕ)) → HaveSize d αs → HaveSize d (filter test αs)
have_size-select d test [] h = tt
have_size-select d test (α ∷ αs) h = by (have_size-select d test αs h.1) (test α)
  where
    by : HaveSize d (filter test αs) → (b : Bool) → HaveSize d (cond b (α ∷ filter test αs) (filter test αs))
    by rest true = (h.0, rest)
    by rest false = rest

pub exponent_lists-size : (n d : ℕ) → HaveSize d (exponent_lists n d)
exponent_lists-size zero d = by (eqb d 0) refl
  where
    by : (b : Bool) → eqb d 0 ≡ b → HaveSize d (cond b ([] ∷ []) [])
    by true e = (sym (eqb-true d 0 e), tt)
    by false e = tt
exponent_lists-size (suc n) d = by (λ e. exponent_lists-size n e) d (omega arith)
  where
    by : ((e : ℕ) → HaveSize e (exponent_lists n e)) → (a : ℕ) → a ≤ d → HaveSize d (flat_map (λ b. map (λ α. b ∷ α) (exponent_lists n (d - b))) (down_from a))
    by shorter zero h =
        have_size-append d (map (λ α. 0 ∷ α) (exponent_lists n (d - 0))) [] (have_size-first (d - 0) d 0 (exponent_lists n (d - 0)) (omega arith) (shorter (d - 0))) tt
    by shorter (suc a) h =
        have_size-append d (map (λ α. suc a ∷ α) (exponent_lists n (d - suc a))) _ (have_size-first (d - suc a) d (suc a) (exponent_lists n (d - suc a)) (omega arith) (shorter (d - suc a))) (by shorter a (omega arith))

has_degree-sum : (d : ℕ) (αs : List (List ℕ)) → HaveSize d αs → HasDegree d (sum_of αs)
has_degree-sum d [] h = tt
has_degree-sum d (α ∷ αs) h = (h.0, has_degree-sum d αs h.1)

pub have_size-from_sum : (d : ℕ) (αs : List (List ℕ)) → HasDegree d (sum_of αs) → HaveSize d αs
have_size-from_sum d [] h = tt
have_size-from_sum d (α ∷ αs) h = (h.0, have_size-from_sum d αs h.1)

pub size-among : (d : ℕ) (αs : List (List ℕ)) (α : List ℕ) → HaveSize d αs → Among α αs → size α ≡ d
size-among d [] α h k = absurd k
size-among d (β ∷ αs) α h (inl e) = ap size e ∙ h.0
size-among d (β ∷ αs) α h (inr k) = size-among d αs α h.1 k

pub monomials-degree : (test : List ℕ → Bool) (n d : ℕ) → HasDegree d (monomials test n d)
monomials-degree test n d =
    has_degree-sum d (filter test (exponent_lists n d)) (have_size-select d test (exponent_lists n d) (exponent_lists-size n d))

has_degree-append : (d : ℕ) (f g : Poly) → HasDegree d f → HasDegree d g → HasDegree d (f ++ g)
has_degree-append d [] g h k = k
has_degree-append d (t ∷ f) g h k = (h.0, has_degree-append d f g h.1 k)

pub times-degree : (d e : ℕ) (f g : Poly) → HasDegree d f → HasDegree e g → HasDegree (d + e) (times f g)
times-degree d e [] g h k = tt
times-degree d e (s ∷ f) g h k =
    has_degree-append (d + e) _ (times f g) (row g k) (times-degree d e f g h.1 k)
  where
    row : (g : Poly) → HasDegree e g → HasDegree (d + e) (map (λ (t : Term). (join s.0 t.0, s.1 *ℤ t.1)) g)
    row [] k = tt
    row (t ∷ g) k = (size-join s.0 t.0 ∙ (let a = h.0 in let b = k.0 in omega arith), row g k.1)

one-degree : (n : ℕ) → HasDegree 0 (one n)
one-degree n = (size-zeros n, tt)

pub product_over-degree : (f : ℕ → ℕ → Poly) → ((k n : ℕ) → HasDegree k (f k n)) → (parts : List ℕ) (n : ℕ) → HasDegree (size parts) (product_over f parts n)
product_over-degree f h [] n = one-degree n
product_over-degree f h (k ∷ parts) n =
    times-degree k (size parts) (f k n) (product_over f parts n) (h k n) (product_over-degree f h parts n)

-- e_k, h_k and p_k are the sums of those monomials of degree k that `keeps` selects for the basis
pub part_polynomial-is : (basis : PlainBasis) (k n : ℕ) → part_polynomial basis k n ≡ monomials (keeps basis k) n k
part_polynomial-is Elementary k n = refl
part_polynomial-is Complete k n = refl
part_polynomial-is PowerSum k n = refl

pub part_polynomial-degree : (basis : PlainBasis) (k n : ℕ) → HasDegree k (part_polynomial basis k n)
part_polynomial-degree basis k n = subst (HasDegree k) (sym (part_polynomial-is basis k n)) (monomials-degree (keeps basis k) n k)

pub sum_of-times : (αs βs : List (List ℕ)) → sum_of (flat_map (λ α. map (λ β. join α β) βs) αs) ≡ times (sum_of αs) (sum_of βs)
sum_of-times [] βs = refl
sum_of-times (α ∷ αs) βs =
    sum_of-append (map (λ β. join α β) βs) (flat_map (λ α. map (λ β. join α β) βs) αs) ∙ (ap (λ front. front ++ sum_of (flat_map (λ α. map (λ β. join α β) βs) αs)) (row βs) ∙ ap (λ back. map (λ (t : Term). (join α t.0, pos 1 *ℤ t.1)) (sum_of βs) ++ back) (sum_of-times αs βs))
  where
    sum_of-append : (xs ys : List (List ℕ)) → sum_of (xs ++ ys) ≡ sum_of xs ++ sum_of ys
    sum_of-append [] ys = refl
    sum_of-append (x ∷ xs) ys = ap (λ zs. (x, pos 1) ∷ zs) (sum_of-append xs ys)

    row : (βs : List (List ℕ)) → sum_of (map (λ β. join α β) βs) ≡ map (λ (t : Term). (join α t.0, pos 1 *ℤ t.1)) (sum_of βs)
    row [] = refl
    row (β ∷ βs) = ap (λ zs. (join α β, pos 1) ∷ zs) (row βs)

pub among-item : (xs : List (Vec ℕ)) (i : ℕ) (x : Vec ℕ) → i < length xs → x ≡ get_or xs i x → Among x.items (map (λ (y : Vec ℕ). y.items) xs)
among-item [] i x h e = absurd (omega arith)
among-item (y ∷ xs) zero x h e = inl (ap (λ (z : Vec ℕ). z.items) e)
among-item (y ∷ xs) (suc i) x h e = inr (among-item xs i x (omega arith) e)

-- if αs are the monomials of a polynomial of degree d, βs those of a polynomial of degree e, and d + e < 2^64, then each of αs and each of βs can be
-- multiplied (`CanMultiply`)
pub can_multiply : (d e : ℕ) (f g : Poly) (αs βs : List (List ℕ)) → d + e < 2 ^ 64 → HasDegree d f → HasDegree e g → sum_of αs ≡ f → sum_of βs ≡ g → CanMultiply αs βs
can_multiply d e f g αs βs h k l p q α β m n =
    let a = size-among d αs α (have_size-from_sum d αs (subst (HasDegree d) (sym p) k)) m in
    let b = size-among e βs β (have_size-from_sum e βs (subst (HasDegree e) (sym q) l)) n in
    omega arith

pub size-first : (parts : List ℕ) → 1 ≤ length parts → size parts ≡ get_or parts 0 0 + size (take (length parts - 1) (drop 1 parts))
size-first [] h = absurd (omega arith)
size-first (a ∷ parts) h = ap (λ ps. a + size ps) (sym (take_rest (a ∷ parts) 1))

pub product_over-first : (f : ℕ → ℕ → Poly) (parts : List ℕ) (n : ℕ) → 1 ≤ length parts → times (f (get_or parts 0 0) n) (product_over f (take (length parts - 1) (drop 1 parts)) n) ≡ product_over f parts n
product_over-first f [] n h = absurd (omega arith)
product_over-first f (k ∷ parts) n h = ap (λ ps. times (f k n) (product_over f ps n)) (take_rest (k ∷ parts) 1)

pub product-is : (f : ℕ → ℕ → Poly) (parts : List ℕ) (n : ℕ) (αs βs all : List (List ℕ)) → 1 ≤ length parts → sum_of αs ≡ f (get_or parts 0 0) n → sum_of βs ≡ product_over f (take (length parts - 1) (drop 1 parts)) n → all ≡ flat_map (λ α. map (λ β. join α β) βs) αs → sum_of all ≡ product_over f parts n
product-is f parts n αs βs all h p q e =
    ap sum_of e ∙ (sum_of-times αs βs ∙ (ap (λ g. times g (sum_of βs)) p ∙ (ap (λ g. times (f (get_or parts 0 0) n) g) q ∙ product_over-first f parts n h)))

pub product_polynomial-is : (basis : PlainBasis) (parts : List ℕ) (n : ℕ) → product_polynomial basis parts n ≡ product_over (part_polynomial basis) parts n
product_polynomial-is Elementary parts n = refl
product_polynomial-is Complete parts n = refl
product_polynomial-is PowerSum parts n = refl
