-- Here α is a list of numbers. The sums of this file run over the pairs (β, γ) of lists with β + γ = α, entry by entry, such that each entry of β is
-- 0 or 1. The summand W(a, b) depends only on two numbers: the sum a of the entries of β, and the sum b of the entries of γ.
use Rattle.std.proofs.Common.{◌≡◌, ℕ, zero, suc, ◌+◌, ◌-◌, ◌<◌, Bool, true, false, ◌&&◌, cond, ◌==◌, leb, List, [], ◌∷◌, refl, sym, ap, ap₂, ◌∙◌, arith, ℤ, pos, negsuc, neg_ℤ, ◌+ℤ◌, ◌*ℤ◌, rules}
use Rattle.std.proofs.lemmas.Bool.{cases_eq, eq-eqb, ne_eqb, le-leb, lt-leb}
use Rattle.std.proofs.lemmas.Int.{ints}
use Rattle.sym_model.specs.Sum.{total}
use Rattle.sym_model.specs.Partition.{size}
use Rattle.sym_model.specs.PlaceOrders.{minus_one_to}
use Rattle.sym_model.specs.Bases.{has, at_most_one, down_from}
use Rattle.sym_model.proofs.Ring.{ring, one-product}
use Rattle.sym_model.proofs.Sums.{total_ext, total_add, total_scale, total_cond, total_none}
use Rattle.sym_model.proofs.SortedParts.{has_past, has_here}
use Rattle.sym_model.proofs.Monomials.{has_above_size}
use Rattle.sym_model.proofs.Signs.{minus_one_to_add}
use Rattle.monomial_laws.specs.MonomialProduct.{splits}
use Rattle.monomial_laws.proofs.Splits.{total_splits}
use lib.IntN.{+ℤ_idr, +ℤ_idl}
use Rattle.sym_model.proofs.Integers.{neg_one-product, nothing_either, times_chosen, nested_tests}

-- the sum of W(a, b) over the pairs (β, γ) with β + γ = α in which no entry of β is above 1; a is the sum of β, and b that of γ
abbrev pub low_total : (ℕ → ℕ → ℤ) → List ℕ → ℤ
low_total W α = total
    (λ (s : List ℕ × List ℕ). cond (at_most_one s.0) (W (size s.0) (size s.1)) (pos 0)) (splits α)

low_two : (g : ℕ → ℤ) (c : ℕ) → total (λ (b : ℕ). cond (leb b 1) (g b) (pos 0)) (down_from c)
    ≡ g 0 +ℤ cond (leb 1 c) (g 1) (pos 0)
low_two g zero = refl
low_two g (suc zero) = let e = +ℤ_idr (g 0) in omega (arith, ints)
low_two g (suc (suc c)) = search (rules, lt-leb, +ℤ_idl, le-leb, (low_two g (suc c)))

pub low_total-ext : (V W : ℕ → ℕ → ℤ) (α : List ℕ) → ((a b : ℕ) → V a b ≡ W a b) → low_total V α
    ≡ low_total W α
low_total-ext V W α h = search rules

pub low_total-add : (V W : ℕ → ℕ → ℤ) (α : List ℕ) → low_total (λ a b. V a b +ℤ W a b) α
    ≡ low_total V α +ℤ low_total W α
low_total-add V W α =
    total_ext (λ (s : List ℕ × List ℕ). cond (at_most_one s.0)
    (V (size s.0) (size s.1) +ℤ W (size s.0) (size s.1)) (pos 0))
    (λ (s : List ℕ × List ℕ). cond (at_most_one s.0) (V (size s.0) (size s.1)) (pos 0) +ℤ cond
    (at_most_one s.0) (W (size s.0) (size s.1)) (pos 0))
    (λ s. by (at_most_one s.0) (V (size s.0) (size s.1)) (W (size s.0) (size s.1))) (splits α)
    ∙ total_add (λ (s : List ℕ × List ℕ). cond (at_most_one s.0) (V (size s.0) (size s.1)) (pos 0))
    (λ (s : List ℕ × List ℕ). cond (at_most_one s.0) (W (size s.0) (size s.1)) (pos 0)) (splits α)
  where
    by : (t : Bool) (x y : ℤ) → cond t (x +ℤ y) (pos 0) ≡ cond t x (pos 0) +ℤ cond t y (pos 0)
    by true x y = refl
    by false x y = refl

pub low_total-scale : (c : ℤ) (W : ℕ → ℕ → ℤ) (α : List ℕ) → low_total (λ a b. c *ℤ W a b) α
    ≡ c *ℤ low_total W α
low_total-scale c W α = search (rules, total_ext, times_chosen, total_scale)

pub low_total-none : (α : List ℕ) → low_total (λ a b. pos 0) α ≡ pos 0
low_total-none α = search (rules, total_none, nothing_either)

-- the first entries of β and γ in a pair for c ∷ α are 0 and c or, if c ≥ 1, 1 and c - 1. So `low_total W (c ∷ α)` is a sum over the pairs for α: the
-- sum of W(a, c + b) and, if c ≥ 1, also the sum of W(1 + a, c - 1 + b); here a and b are the sums of β and γ
pub low_total-cons : (W : ℕ → ℕ → ℤ) (c : ℕ) (α : List ℕ)
    → low_total W (c ∷ α)
    ≡ low_total (λ a b. W (0 + a) (c - 0 + b)) α +ℤ cond (leb 1 c)
    (low_total (λ a b. W (1 + a) (c - 1 + b)) α) (pos 0)
low_total-cons W c α =
    total_splits (λ x y. cond (at_most_one x) (W (size x) (size y)) (pos 0)) c α
    ∙ total_ext
    (λ (b : ℕ). total
    (λ (s : List ℕ × List ℕ). cond (leb b 1 && at_most_one s.0)
    (W (b + size s.0) (c - b + size s.1)) (pos 0)) (splits α))
    (λ (b : ℕ). cond (leb b 1) (rest b) (pos 0))
    (λ b.
    total_ext
    (λ (s : List ℕ × List ℕ). cond (leb b 1 && at_most_one s.0)
    (W (b + size s.0) (c - b + size s.1)) (pos 0))
    (λ (s : List ℕ × List ℕ). cond (leb b 1)
    (cond (at_most_one s.0) (W (b + size s.0) (c - b + size s.1)) (pos 0)) (pos 0))
    (λ s. sym (nested_tests (leb b 1) (at_most_one s.0) (W (b + size s.0) (c - b + size s.1))))
    (splits α)
    ∙ total_cond (leb b 1)
    (λ (s : List ℕ × List ℕ). cond (at_most_one s.0) (W (b + size s.0) (c - b + size s.1)) (pos 0))
    (splits α))
    (down_from c)
    ∙ low_two rest c
  where
    rest : ℕ → ℤ
    rest b = low_total (λ a d. W (b + a) (c - b + d)) α

-- ---- the value of `low_total W α` for particular functions W

-- 1 if the number is 0, and 0 otherwise
abbrev pub at_zero : ℕ → ℤ
at_zero k = cond (k == 0) (pos 1) (pos 0)

-- the sum of (-1)^a over the pairs (β, γ) with β + γ = α in which no entry of β is above 1, a being the sum of β, is 1 if all entries of α are 0, and
-- 0 otherwise
pub signs : (α : List ℕ) → low_total (λ a b. minus_one_to a) α ≡ at_zero (size α)
signs [] = refl
signs (c ∷ α) =
    low_total-cons (λ a b. minus_one_to a) c α
    ∙ ap₂ (λ x y. x +ℤ cond (leb 1 c) y (pos 0))
    (low_total-ext (λ a b. minus_one_to (0 + a)) (λ a b. minus_one_to a) α
    (λ a b. ap minus_one_to (let e : 0 + a ≡ a = omega arith in e)) ∙ signs α)
    (low_total-ext (λ a b. minus_one_to (1 + a)) (λ a b. negsuc 0 *ℤ minus_one_to a) α
    (λ a b. one_more a) ∙ low_total-scale (negsuc 0) (λ a b. minus_one_to a) α
    ∙ ap (λ z. negsuc 0 *ℤ z) (signs α))
    ∙ by c (size α)
  where
    one_more : (a : ℕ) → minus_one_to (1 + a) ≡ negsuc 0 *ℤ minus_one_to a
    one_more a = let e : 1 + a ≡ suc a = omega arith in ap minus_one_to e ∙ sym (neg_one-product (minus_one_to a))

    by : (c k : ℕ) → at_zero k +ℤ cond (leb 1 c) (negsuc 0 *ℤ at_zero k) (pos 0) ≡ at_zero (c + k)
    by zero k = +ℤ_idr (at_zero k) ∙ ap at_zero (let e : k ≡ 0 + k = omega arith in e)
    by (suc c) k =
        ap (λ (t : Bool). at_zero k +ℤ cond t (negsuc 0 *ℤ at_zero k) (pos 0))
        (le-leb 1 (suc c) (omega arith))
        ∙ cancels (at_zero k)
        ∙ ap (λ (t : Bool). cond t (pos 1) (pos 0)) (sym (ne_eqb (suc c + k) 0 (λ e. omega arith)))
      where
        cancels : (z : ℤ) → z +ℤ negsuc 0 *ℤ z ≡ pos 0
        cancels z = omega (arith, ints)

only_number : (c : ℕ) (α : List ℕ) → (size α == 0) ≡ has (suc c + size α) (suc c ∷ α)
only_number c α = search (rules, cases_eq, eq-eqb, has_here, ne_eqb, has_past, has_above_size)

-- if α has a positive sum: the sum of (-1)^a·b over the pairs (β, γ) with β + γ = α in which no entry of β is above 1, a and b being the sums of β
-- and γ, is 1 if α has only one entry other than 0, and 0 otherwise
pub signed_rests : (α : List ℕ) → 0 < size α → low_total (λ a b. minus_one_to a *ℤ pos b) α
    ≡ cond (has (size α) α) (pos 1) (pos 0)
signed_rests [] h = absurd (omega arith)
signed_rests (c ∷ α) h =
    low_total-cons (λ a b. minus_one_to a *ℤ pos b) c α
    ∙ ap₂ (λ x y. x +ℤ cond (leb 1 c) y (pos 0))
    (low_total-ext (λ a b. minus_one_to (0 + a) *ℤ pos (c - 0 + b))
    (λ a b. pos c *ℤ minus_one_to a +ℤ minus_one_to a *ℤ pos b) α (λ a b. here a b)
    ∙ low_total-add (λ a b. pos c *ℤ minus_one_to a) (λ a b. minus_one_to a *ℤ pos b) α
    ∙ ap (λ z. z +ℤ low_total (λ a b. minus_one_to a *ℤ pos b) α)
    (low_total-scale (pos c) (λ a b. minus_one_to a) α ∙ ap (λ z. pos c *ℤ z) (signs α)))
    (low_total-ext (λ a b. minus_one_to (1 + a) *ℤ pos (c - 1 + b))
    (λ a b. neg_ℤ (pos (c - 1)) *ℤ minus_one_to a +ℤ negsuc 0 *ℤ (minus_one_to a *ℤ pos b)) α
    (λ a b. there a b)
    ∙ low_total-add (λ a b. neg_ℤ (pos (c - 1)) *ℤ minus_one_to a)
    (λ a b. negsuc 0 *ℤ (minus_one_to a *ℤ pos b)) α
    ∙ ap₂ ◌+ℤ◌ (low_total-scale (neg_ℤ (pos (c - 1))) (λ a b. minus_one_to a) α
    ∙ ap (λ z. neg_ℤ (pos (c - 1)) *ℤ z) (signs α))
    (low_total-scale (negsuc 0) (λ a b. minus_one_to a *ℤ pos b) α))
    ∙ by c h (signed_rests α)
  where
    here : (a b : ℕ) → minus_one_to (0 + a) *ℤ pos (c - 0 + b)
        ≡ pos c *ℤ minus_one_to a +ℤ minus_one_to a *ℤ pos b
    here a b =
        let d : 0 + a ≡ a = omega arith in
        let e : c - 0 + b ≡ c + b = omega arith in
        ap₂ (λ m n. minus_one_to m *ℤ pos n) d e ∙ spread (minus_one_to a) (pos c) (pos b)
      where
        spread : (x y z : ℤ) → x *ℤ (y +ℤ z) ≡ y *ℤ x +ℤ x *ℤ z
        spread x y z = simp ring (omega (arith, ints))

    there : (a b : ℕ) → minus_one_to (1 + a) *ℤ pos (c - 1 + b)
        ≡ neg_ℤ (pos (c - 1)) *ℤ minus_one_to a +ℤ negsuc 0 *ℤ (minus_one_to a *ℤ pos b)
    there a b =
        let d : 1 + a ≡ suc a = omega arith in
        ap (λ m. minus_one_to m *ℤ pos (c - 1 + b)) d
        ∙ spread (minus_one_to a) (pos (c - 1)) (pos b)
      where
        spread : (x y z : ℤ) → neg_ℤ x *ℤ (y +ℤ z) ≡ neg_ℤ y *ℤ x +ℤ negsuc 0 *ℤ (x *ℤ z)
        spread x y z = apart x y z ∙ ap (λ w. neg_ℤ y *ℤ x +ℤ w) (sym (neg_one-product (x *ℤ z)))
          where
            apart : (x y z : ℤ) → neg_ℤ x *ℤ (y +ℤ z) ≡ neg_ℤ y *ℤ x +ℤ neg_ℤ (x *ℤ z)
            apart x y z = simp ring (omega (arith, ints))

    by : (c : ℕ) → 0 < c + size α
        → (0 < size α → low_total (λ a b. minus_one_to a *ℤ pos b) α
        ≡ cond (has (size α) α) (pos 1) (pos 0))
        → (pos c *ℤ at_zero (size α) +ℤ low_total (λ a b. minus_one_to a *ℤ pos b) α)
        +ℤ cond (leb 1 c)
        (neg_ℤ (pos (c - 1)) *ℤ at_zero (size α) +ℤ negsuc 0 *ℤ low_total
        (λ a b. minus_one_to a *ℤ pos b) α) (pos 0)
        ≡ cond (has (c + size α) (c ∷ α)) (pos 1) (pos 0)
    by zero h r =
        let e : 0 + size α ≡ size α = omega arith in
        none (at_zero (size α)) (low_total (λ a b. minus_one_to a *ℤ pos b) α)
        ∙ r (omega arith)
        ∙ ap (λ (t : Bool). cond t (pos 1) (pos 0))
        (sym (has_past (size α) 0 α (λ d. omega arith)) ∙ ap (λ n. has n (0 ∷ α)) (sym e))
      where
        none : (x y : ℤ) → (pos 0 *ℤ x +ℤ y) +ℤ pos 0 ≡ y
        none x y = omega (arith, ints)
    by (suc c) h r =
        let e : suc c - 1 ≡ c = omega arith in
        ap₂ (λ (t : Bool) (n : ℕ).
        (pos (suc c) *ℤ at_zero (size α) +ℤ low_total
        (λ a b. minus_one_to a *ℤ pos b) α) +ℤ cond t
        (neg_ℤ (pos n) *ℤ at_zero (size α) +ℤ negsuc 0 *ℤ low_total
        (λ a b. minus_one_to a *ℤ pos b) α) (pos 0)) (le-leb 1 (suc c) (omega arith)) e
        ∙ ap (λ n. (pos n *ℤ at_zero (size α) +ℤ low_total (λ a b. minus_one_to a *ℤ pos b) α) +ℤ
        (neg_ℤ (pos c) *ℤ at_zero (size α) +ℤ negsuc 0 *ℤ low_total
        (λ a b. minus_one_to a *ℤ pos b) α))
        (let f : suc c ≡ c + 1 = omega arith in f)
        ∙ left (pos c) (at_zero (size α)) (low_total (λ a b. minus_one_to a *ℤ pos b) α)
        ∙ ap (λ (t : Bool). cond t (pos 1) (pos 0)) (only_number c α)
      where
        left : (x y z : ℤ) → ((x +ℤ pos 1) *ℤ y +ℤ z) +ℤ (neg_ℤ x *ℤ y +ℤ negsuc 0 *ℤ z) ≡ y
        left x y z = ap (λ w. ((x +ℤ pos 1) *ℤ y +ℤ z) +ℤ (neg_ℤ x *ℤ y +ℤ w)) (neg_one-product z)
            ∙ apart x y z
          where
            apart : (x y z : ℤ) → ((x +ℤ pos 1) *ℤ y +ℤ z) +ℤ (neg_ℤ x *ℤ y +ℤ neg_ℤ z) ≡ y
            apart x y z = simp ring (omega (arith, ints))

-- the number of pairs (β, γ) with β + γ = α in which no entry of β is above 1 and all entries of γ are 0 is 1 if no entry of α is above 1, and 0
-- otherwise
pub rests_none : (α : List ℕ) → low_total (λ a b. at_zero b) α
    ≡ cond (at_most_one α) (pos 1) (pos 0)
rests_none [] = refl
rests_none (c ∷ α) = low_total-cons (λ a b. at_zero b) c α ∙ by c (rests_none α)
  where
    nothing : (n : ℕ) → 0 < n → low_total (λ a b. at_zero (n + b)) α ≡ pos 0
    nothing n h = low_total-ext (λ a b. at_zero (n + b)) (λ a b. pos 0) α
        (λ a b. ap (λ (t : Bool). cond t (pos 1) (pos 0))
        (ne_eqb (n + b) 0 (λ e. absurd (omega arith)))) ∙ low_total-none α

    all_of : (n : ℕ) → n ≡ 0 → low_total (λ a b. at_zero (n + b)) α ≡ low_total (λ a b. at_zero b) α
    all_of n h = low_total-ext (λ a b. at_zero (n + b)) (λ a b. at_zero b) α
        (λ a b. ap at_zero (let e : n + b ≡ b = omega arith in e))

    by : (c : ℕ) → low_total (λ a b. at_zero b) α ≡ cond (at_most_one α) (pos 1) (pos 0)
        → low_total (λ a b. at_zero (c - 0 + b)) α +ℤ cond (leb 1 c)
        (low_total (λ a b. at_zero (c - 1 + b)) α) (pos 0)
        ≡ cond (leb c 1 && at_most_one α) (pos 1) (pos 0)
    by zero r = +ℤ_idr (low_total (λ a b. at_zero (0 - 0 + b)) α) ∙ all_of (0 - 0) refl ∙ r
    by (suc zero) r = ap₂ ◌+ℤ◌ (nothing (1 - 0) (omega arith)) (all_of (1 - 1) refl ∙ r)
        ∙ +ℤ_idl (cond (at_most_one α) (pos 1) (pos 0))
    by (suc (suc c)) r =
        ap₂ (λ x (t : Bool). x +ℤ cond t (low_total (λ a b. at_zero (suc (suc c) - 1 + b)) α)
        (pos 0)) (nothing (suc (suc c) - 0) (omega arith))
        (le-leb 1 (suc (suc c)) (omega arith))
        ∙ ap (λ x. pos 0 +ℤ x) (nothing (suc (suc c) - 1) (omega arith))
        ∙ ap (λ (t : Bool). cond (t && at_most_one α) (pos 1) (pos 0))
        (sym (lt-leb (suc (suc c)) 1 (omega arith)))

-- the number of pairs (β, γ) with β + γ = α in which all entries of β are 0 is 1
pub firsts_none : (α : List ℕ) → low_total (λ a b. at_zero a) α ≡ pos 1
firsts_none [] = refl
firsts_none (c ∷ α) =
    low_total-cons (λ a b. at_zero a) c α
    ∙ ap₂ (λ x y. x +ℤ cond (leb 1 c) y (pos 0))
    (low_total-ext (λ a b. at_zero (0 + a)) (λ a b. at_zero a) α
    (λ a b. ap at_zero (let e : 0 + a ≡ a = omega arith in e)) ∙ firsts_none α)
    (low_total-ext (λ a b. at_zero (1 + a)) (λ a b. pos 0) α
    (λ a b. ap (λ (t : Bool). cond t (pos 1) (pos 0))
    (ne_eqb (1 + a) 0 (λ e. absurd (omega arith)))) ∙ low_total-none α)
    ∙ ap (λ z. pos 1 +ℤ z) (nothing_either (leb 1 c))

-- the sum of (-1)^b over the pairs (β, γ) with β + γ = α in which no entry of β is above 1, b being the sum of γ, is 1 if all entries of α are 0, and
-- 0 otherwise
pub rest_signs : (α : List ℕ) → low_total (λ a b. minus_one_to b) α ≡ at_zero (size α)
rest_signs [] = refl
rest_signs (c ∷ α) =
    low_total-cons (λ a b. minus_one_to b) c α
    ∙ ap₂ (λ x y. x +ℤ cond (leb 1 c) y (pos 0)) (shifted (c - 0) (rest_signs α))
    (shifted (c - 1) (rest_signs α))
    ∙ by c (size α)
  where
    shifted : (m : ℕ) → low_total (λ a b. minus_one_to b) α ≡ at_zero (size α)
        → low_total (λ a b. minus_one_to (m + b)) α ≡ minus_one_to m *ℤ at_zero (size α)
    shifted m r =
        low_total-ext (λ a b. minus_one_to (m + b)) (λ a b. minus_one_to m *ℤ minus_one_to b) α
        (λ a b. minus_one_to_add m b)
        ∙ low_total-scale (minus_one_to m) (λ a b. minus_one_to b) α
        ∙ ap (λ z. minus_one_to m *ℤ z) r

    by : (c k : ℕ)
        → minus_one_to (c - 0) *ℤ at_zero k +ℤ cond (leb 1 c) (minus_one_to (c - 1) *ℤ at_zero k)
        (pos 0) ≡ at_zero (c + k)
    by zero k = +ℤ_idr (pos 1 *ℤ at_zero k) ∙ one-product (at_zero k)
        ∙ ap at_zero (let e : k ≡ 0 + k = omega arith in e)
    by (suc c) k =
        let d : suc c - 0 ≡ suc c = omega arith in
        let e : suc c - 1 ≡ c = omega arith in
        ap₂ (λ m n. minus_one_to m *ℤ at_zero k +ℤ cond (leb 1 (suc c))
        (minus_one_to n *ℤ at_zero k) (pos 0)) d e
        ∙ ap (λ (t : Bool). neg_ℤ (minus_one_to c) *ℤ at_zero k +ℤ cond t
        (minus_one_to c *ℤ at_zero k) (pos 0)) (le-leb 1 (suc c) (omega arith))
        ∙ cancels (minus_one_to c) (at_zero k)
        ∙ ap (λ (t : Bool). cond t (pos 1) (pos 0)) (sym (ne_eqb (suc c + k) 0 (λ e. omega arith)))
      where
        cancels : (x z : ℤ) → neg_ℤ x *ℤ z +ℤ x *ℤ z ≡ pos 0
        cancels x z = simp ring (omega (arith, ints))

-- if α has a positive sum: the sum of (-1)^a·a over the pairs (β, γ) with β + γ = α in which no entry of β is above 1, a being the sum of β, is -1 if
-- α has only one entry other than 0, and 0 otherwise
pub signed_firsts : (α : List ℕ) → 0 < size α → low_total (λ a b. minus_one_to a *ℤ pos a) α
    ≡ neg_ℤ (cond (has (size α) α) (pos 1) (pos 0))
signed_firsts [] h = absurd (omega arith)
signed_firsts (c ∷ α) h =
    low_total-cons (λ a b. minus_one_to a *ℤ pos a) c α
    ∙ ap₂ (λ x y. x +ℤ cond (leb 1 c) y (pos 0))
    (low_total-ext (λ a b. minus_one_to (0 + a) *ℤ pos (0 + a)) (λ a b. minus_one_to a *ℤ pos a) α
    (λ a b. ap (λ n. minus_one_to n *ℤ pos n) (let e : 0 + a ≡ a = omega arith in e)))
    (low_total-ext (λ a b. minus_one_to (1 + a) *ℤ pos (1 + a))
    (λ a b. negsuc 0 *ℤ (minus_one_to a +ℤ minus_one_to a *ℤ pos a)) α (λ a b. there a)
    ∙ low_total-scale (negsuc 0) (λ a b. minus_one_to a +ℤ minus_one_to a *ℤ pos a) α
    ∙ ap (λ z. negsuc 0 *ℤ z)
    (low_total-add (λ a b. minus_one_to a) (λ a b. minus_one_to a *ℤ pos a) α
    ∙ ap (λ z. z +ℤ low_total (λ a b. minus_one_to a *ℤ pos a) α) (signs α)))
    ∙ by c h (signed_firsts α)
  where
    there : (a : ℕ) → minus_one_to (1 + a) *ℤ pos (1 + a)
        ≡ negsuc 0 *ℤ (minus_one_to a +ℤ minus_one_to a *ℤ pos a)
    there a =
        let d : 1 + a ≡ suc a = omega arith in
        ap (λ n. minus_one_to n *ℤ (pos 1 +ℤ pos a)) d ∙ spread (minus_one_to a) (pos a)
        ∙ sym (neg_one-product (minus_one_to a +ℤ minus_one_to a *ℤ pos a))
      where
        spread : (x y : ℤ) → neg_ℤ x *ℤ (pos 1 +ℤ y) ≡ neg_ℤ (x +ℤ x *ℤ y)
        spread x y = simp ring (omega (arith, ints))

    by : (c : ℕ) → 0 < c + size α
        → (0 < size α → low_total (λ a b. minus_one_to a *ℤ pos a) α
        ≡ neg_ℤ (cond (has (size α) α) (pos 1) (pos 0)))
        → low_total (λ a b. minus_one_to a *ℤ pos a) α +ℤ cond (leb 1 c)
        (negsuc 0 *ℤ (at_zero (size α) +ℤ low_total (λ a b. minus_one_to a *ℤ pos a) α)) (pos 0)
        ≡ neg_ℤ (cond (has (c + size α) (c ∷ α)) (pos 1) (pos 0))
    by zero h r =
        let e : 0 + size α ≡ size α = omega arith in
        +ℤ_idr (low_total (λ a b. minus_one_to a *ℤ pos a) α)
        ∙ r (omega arith)
        ∙ ap (λ (t : Bool). neg_ℤ (cond t (pos 1) (pos 0)))
        (sym (has_past (size α) 0 α (λ d. omega arith)) ∙ ap (λ n. has n (0 ∷ α)) (sym e))
    by (suc c) h r =
        ap (λ (t : Bool). low_total (λ a b. minus_one_to a *ℤ pos a) α +ℤ cond t
        (negsuc 0 *ℤ (at_zero (size α) +ℤ low_total (λ a b. minus_one_to a *ℤ pos a) α))
        (pos 0)) (le-leb 1 (suc c) (omega arith))
        ∙ left (low_total (λ a b. minus_one_to a *ℤ pos a) α) (at_zero (size α))
        ∙ ap (λ (t : Bool). neg_ℤ (cond t (pos 1) (pos 0))) (only_number c α)
      where
        left : (x y : ℤ) → x +ℤ negsuc 0 *ℤ (y +ℤ x) ≡ neg_ℤ y
        left x y = omega (arith, ints)
