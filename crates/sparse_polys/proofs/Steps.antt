-- Lemmas for loops over the pairs of a table: the list of the pairs that have been visited, before and after one more pair is visited.
use Rattle.std.proofs.Common.{◌≡◌, Bool, List, [], ◌∷◌, ◌++◌, pos, refl, ◌∙◌, inl, inr}
use Rattle.std.specs.Prelude.{Option, Some}
use Rattle.std.specs.List.{IsDistinct}
use Rattle.fraction_laws.specs.Fractions.{whole}
use Rattle.fraction_laws.specs.Answers.{AnswersSum}
use Rattle.sym_model.specs.Sum.{Among}
use Rattle.sym_model.specs.Expansion.{Fraction}
use Rattle.sparse_polys.specs.Combination.{terms_of, IsCombination}
use Rattle.sparse_polys.specs.Refusal.{IsRefused}
pub use Rattle.linear_combinations.proofs.Steps.{absent_before, error_is, all_done}

-- the checked sum of 0 and a scalar is never None
module _ {R : Type 0} {is_held : R → Type 0} {value : R → Fraction} {checked : R → R → Option R} (answers : (a b : R) → is_held a → is_held b → AnswersSum value a b (checked a b)) where
  pub fits-zero_left : (a b : Fraction) → a ≡ whole (pos 0) → IsRefused is_held value checked a b → ⊥
  fits-zero_left a b e r = let h : checked r.left r.right ≡ Some r.right = (answers r.left r.right r.left_held r.right_held).zero_left (r.left_value ∙ e) in let f = r.refused in cc

pub IsCombination-empty : {L : Type 0} (eq : L → L → Bool) (is_label : L → Bool) → IsCombination eq is_label []
unfolding IsDistinct
IsCombination-empty eq is_label = record { distinct = tt; proper = refl }

pub among-next : {L R : Type 0} (value : R → Fraction) (done : List (L × R)) (k : L) (a : R) (rest : List (L × R)) → Among (k, value a) (terms_of value (done ++ (k, a) ∷ rest))
among-next value [] k a rest = inl refl
among-next value (x ∷ done) k a rest = inr (among-next value done k a rest)
