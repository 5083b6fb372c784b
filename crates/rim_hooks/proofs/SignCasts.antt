-- Signs converted between machine integers of 8 and of 128 bits.
use Rattle.std.proofs.Common.{◌≡◌, inl, inr, refl, sym, ◌∙◌, ap, subst, ℤ, to_z, of_z, w8}
use Rattle.std.specs.Int.{w128}
use Rattle.reduction_laws.specs.Collected.{IsSign}

pub kept_wide : (z : ℤ) → IsSign z → to_z w128 (of_z w128 z) ≡ z
kept_wide z (inl e) = subst (λ y. to_z w128 (of_z w128 y) ≡ y) (sym e) refl
kept_wide z (inr e) = subst (λ y. to_z w128 (of_z w128 y) ≡ y) (sym e) refl

pub kept_narrow : (z : ℤ) → IsSign z → to_z w8 (of_z w8 z) ≡ z
kept_narrow z (inl e) = subst (λ y. to_z w8 (of_z w8 y) ≡ y) (sym e) refl
kept_narrow z (inr e) = subst (λ y. to_z w8 (of_z w8 y) ≡ y) (sym e) refl

-- a sign, 1 or -1, converted to an integer of 8 bits and then to one of 128 bits, is unchanged
pub kept_through : (sign narrow wide : ℤ) → IsSign sign → narrow ≡ to_z w8 (of_z w8 sign) → wide ≡ to_z w128 (of_z w128 narrow) → wide ≡ sign
kept_through sign narrow wide s e d = d ∙ ap (λ z. to_z w128 (of_z w128 z)) (e ∙ kept_narrow sign s) ∙ kept_wide sign s
