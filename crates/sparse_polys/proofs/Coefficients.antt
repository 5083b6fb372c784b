-- The coefficient of a label in a list of pairs of a label and a scalar.
use Rattle.std.proofs.Common.{◌≡◌, Bool, true, false, cond, List, [], ◌∷◌, pos, refl, ap, ◌∙◌}
use Rattle.std.specs.Prelude.{Option, Some, None}
use Rattle.std.specs.Option.{option_map, unwrap_or}
use Rattle.std.specs.Map.{lookup, keys_of}
use Rattle.sym_model.specs.Expansion.{Fraction}
use Rattle.fraction_laws.specs.Fractions.{whole}
pub use Rattle.linear_combinations.proofs.LowestTerms.{nat_abs-is, lowest-is_reduced, product-zero}
pub use Rattle.linear_combinations.proofs.Steps.{if_answered}
use Rattle.sparse_polys.specs.Combination.{terms_of, coefficient}

pub lookup-terms_of : {L R : Type 0} (value : R → Fraction) (test : L → Bool) (es : List (L × R)) → lookup test (terms_of value es) ≡ option_map value (lookup test es)
lookup-terms_of value test [] = refl
lookup-terms_of {L} {R} value test (e ∷ es) = by (test e.0) (lookup-terms_of value test es)
  where
    rest : Option Fraction
    rest = lookup test (terms_of value es)

    by : (b : Bool) → rest ≡ option_map value (lookup test es) → cond b (Some (value e.1)) rest ≡ option_map value (cond b (Some e.1) (lookup test es))
    by true h = refl
    by false h = h

pub keys-terms_of : {L R : Type 0} (value : R → Fraction) (es : List (L × R)) → keys_of (terms_of value es) ≡ keys_of es
keys-terms_of value [] = refl
keys-terms_of value (e ∷ es) = ap (λ ks. e.0 ∷ ks) (keys-terms_of value es)

-- the value of the scalar that a look-up returns, or 0 if it returns None
abbrev pub value_at : {R : Type 0} → (R → Fraction) → Option R → Fraction
value_at value None = whole (pos 0)
value_at value (Some c) = value c

pub coefficient-terms_of : {L R : Type 0} (eq : L → L → Bool) (value : R → Fraction) (es : List (L × R)) (label : L) → coefficient eq (terms_of value es) label ≡ value_at value (lookup (eq label) es)
coefficient-terms_of {R = R} eq value es label = ap (λ (o : Option Fraction). unwrap_or o (pos 0, 1)) (lookup-terms_of value (eq label) es) ∙ by (lookup (eq label) es)
  where
    by : (o : Option R) → unwrap_or (option_map value o) (pos 0, 1) ≡ value_at value o
    by None = refl
    by (Some c) = refl
