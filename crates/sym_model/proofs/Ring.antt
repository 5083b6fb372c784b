-- Laws of the commutative ring of integers, on products and negations, that the standard library does not have.
--     ring      the rules for `simp`: a polynomial identity over the integers is proved by `simp ring (omega (arith, ints))`
use Rattle.std.proofs.Common.{◌≡◌, ℕ, ◌+◌, ◌*◌, Bool, true, false, cond, sym, ◌∙◌, ap, arith, ℤ, pos, ◌+ℤ◌, ◌*ℤ◌, neg_ℤ}
use Rattle.std.proofs.lemmas.Int.{ints}
use borrow.Author.Differences.{up, down, sum_is_lem, product_is, neg_is}
use lib.IntN.{*ℤ_comm, zero-*ℤ, *ℤ-zero}

pub distributes_left : (a b c : ℤ) → a *ℤ (b +ℤ c) ≡ a *ℤ b +ℤ a *ℤ c
distributes_left a b c = omega (arith, ints, ap (λ n. up a * n) (sum_is_lem b c), ap (λ n. down a * n) (sum_is_lem b c))

pub distributes_right : (a b c : ℤ) → (a +ℤ b) *ℤ c ≡ a *ℤ c +ℤ b *ℤ c
distributes_right a b c = *ℤ_comm (a +ℤ b) c ∙ distributes_left c a b ∙ rw (*ℤ_comm a c, *ℤ_comm b c)

pub product_assoc : (a b c : ℤ) → (a *ℤ b) *ℤ c ≡ a *ℤ (b *ℤ c)
product_assoc a b c =
    omega (
      arith,
      ints,
      ap (λ n. n * up c) (product_is a b).0,
      ap (λ n. n * down c) (product_is a b).0,
      ap (λ n. n * up c) (product_is a b).1,
      ap (λ n. n * down c) (product_is a b).1,
      ap (λ n. up a * n) (product_is b c).0,
      ap (λ n. down a * n) (product_is b c).0,
      ap (λ n. up a * n) (product_is b c).1,
      ap (λ n. down a * n) (product_is b c).1,
    )

pub product_left_comm : (a b c : ℤ) → a *ℤ (b *ℤ c) ≡ b *ℤ (a *ℤ c)
product_left_comm a b c = sym (product_assoc a b c) ∙ ap (λ x. x *ℤ c) (*ℤ_comm a b) ∙ product_assoc b a c

pub product_turned : (a b c : ℤ) → (a *ℤ b) *ℤ c ≡ a *ℤ (c *ℤ b)
product_turned a b c = product_assoc a b c ∙ ap (λ x. a *ℤ x) (*ℤ_comm b c)

pub product-negation : (a b : ℤ) → a *ℤ neg_ℤ b ≡ neg_ℤ (a *ℤ b)
product-negation a b = omega (arith, ints, ap (λ n. up a * n) (neg_is b).0, ap (λ n. up a * n) (neg_is b).1, ap (λ n. down a * n) (neg_is b).0, ap (λ n. down a * n) (neg_is b).1)

pub negation-product : (a b : ℤ) → neg_ℤ a *ℤ b ≡ neg_ℤ (a *ℤ b)
negation-product a b = *ℤ_comm (neg_ℤ a) b ∙ product-negation b a ∙ ap neg_ℤ (*ℤ_comm b a)

pub double_negation-product : (a b : ℤ) → neg_ℤ (neg_ℤ a *ℤ b) ≡ a *ℤ b
double_negation-product a b = ap neg_ℤ (negation-product a b) ∙ omega (arith, ints)

pub product-one : (a : ℤ) → a *ℤ pos 1 ≡ a
product-one a = omega (arith, ints)

pub one-product : (a : ℤ) → pos 1 *ℤ a ≡ a
one-product a = *ℤ_comm (pos 1) a ∙ product-one a

-- with [b] for 1 if b is true and 0 otherwise: ([b] + n)·z = [b]·z + n·z
pub counted-product : (b : Bool) (n : ℕ) (z : ℤ)
    → pos (cond b 1 0 + n) *ℤ z ≡ cond b z (pos 0) +ℤ pos n *ℤ z
counted-product true n z =
    distributes_right (pos 1) (pos n) z ∙ ap (λ y. y +ℤ pos n *ℤ z) (one-product z)
counted-product false n z = omega (arith, ints)

-- the rewriting rules that expand products of sums and of negations of integers and order the factors of each product
pub ruleset ring = (distributes_left, distributes_right, product_assoc, product-negation, negation-product, product_left_comm, *ℤ_comm, zero-*ℤ, *ℤ-zero, product-one, one-product)
