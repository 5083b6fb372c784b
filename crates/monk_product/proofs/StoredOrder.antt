-- Permutations that are stored with fixed letters at the end are compared as those without them: in the printed order, a list that ends is followed by
-- fixed letters.
use Rattle.std.proofs.Common.{◌≡◌, ℕ, ◌+◌, ◌==◌, Bool, true, false, cond, List, [], ◌∷◌, length, refl, sym, ap, ◌∙◌, arith, eqb-true}
use Rattle.std.specs.Cmp.{tied_itself, nat_cmp_total}
use Rattle.std.specs.Cmp.Lexicographic.{slice_cmp}
use Rattle.std.specs.Ordering.{nat_cmp, ordering_then}
use Rattle.std.specs.declared.cmp.Ordering.TheVariants.{Equal}
use Rattle.sym_model.specs.Permutation.{kept, in_front_unless_fixed, without_fixed_from}
use Rattle.sym_model.specs.PrintedOrder.{rising_letters}

-- a letter in front, which is left out if it is fixed and nothing is after it
module _ (i a : ℕ) where
  left_in_front : (w v : List ℕ) → rising_letters i (in_front_unless_fixed (i + 1) a w) v ≡ rising_letters i (a ∷ w) v
  left_in_front (b ∷ w) v = refl
  left_in_front [] v = by (a == i + 1) refl v
    where
      by : (t : Bool) → (a == i + 1) ≡ t → (v : List ℕ) → rising_letters i (cond t [] (a ∷ [])) v ≡ rising_letters i (a ∷ []) v
      by false e v = refl
      by true e [] = ap (λ r. ordering_then r Equal) (sym (tied_itself nat_cmp_total a) ∙ ap (nat_cmp a) (eqb-true a (i + 1) e))
      by true e (b ∷ v) = ap (λ x. ordering_then (nat_cmp x b) (rising_letters (i + 1) [] v)) (sym (eqb-true a (i + 1) e))

  right_in_front : (w u : List ℕ) → rising_letters i u (in_front_unless_fixed (i + 1) a w) ≡ rising_letters i u (a ∷ w)
  right_in_front (b ∷ w) u = refl
  right_in_front [] u = by (a == i + 1) refl u
    where
      by : (t : Bool) → (a == i + 1) ≡ t → (u : List ℕ) → rising_letters i u (cond t [] (a ∷ [])) ≡ rising_letters i u (a ∷ [])
      by false e u = refl
      by true e [] = ap (λ r. ordering_then r Equal) (sym (tied_itself nat_cmp_total a) ∙ ap (λ x. nat_cmp x a) (eqb-true a (i + 1) e))
      by true e (b ∷ u) = ap (λ x. ordering_then (nat_cmp b x) (rising_letters (i + 1) u [])) (sym (eqb-true a (i + 1) e))

left_kept : (i : ℕ) (u v : List ℕ) → rising_letters i (without_fixed_from (i + 1) u) v ≡ rising_letters i u v
left_kept i [] v = refl
left_kept i (a ∷ u) [] =
    left_in_front i a (without_fixed_from (i + 1 + 1) u) [] ∙ ap (ordering_then (nat_cmp a (i + 1))) (left_kept (i + 1) u [])
left_kept i (a ∷ u) (b ∷ v) =
    left_in_front i a (without_fixed_from (i + 1 + 1) u) (b ∷ v) ∙ ap (ordering_then (nat_cmp a b)) (left_kept (i + 1) u v)

right_kept : (i : ℕ) (u v : List ℕ) → rising_letters i u (without_fixed_from (i + 1) v) ≡ rising_letters i u v
right_kept i u [] = refl
right_kept i [] (b ∷ v) =
    right_in_front i b (without_fixed_from (i + 1 + 1) v) [] ∙ ap (ordering_then (nat_cmp (i + 1) b)) (right_kept (i + 1) [] v)
right_kept i (a ∷ u) (b ∷ v) =
    right_in_front i b (without_fixed_from (i + 1 + 1) v) (a ∷ u) ∙ ap (ordering_then (nat_cmp a b)) (right_kept (i + 1) u v)

same_length : (i : ℕ) (u v : List ℕ) → length u ≡ length v → rising_letters i u v ≡ slice_cmp nat_cmp u v
same_length i [] [] e = refl
same_length i [] (b ∷ v) e = cc
same_length i (a ∷ u) [] e = cc
same_length i (a ∷ u) (b ∷ v) e = ap (ordering_then (nat_cmp a b)) (same_length (i + 1) u v (let h = e in omega arith))

-- equally long lists are compared as the lists without the fixed letters at the end
pub stored_order : (u v : List ℕ) → length u ≡ length v → rising_letters 0 (kept u) (kept v) ≡ slice_cmp nat_cmp u v
stored_order [] [] e = refl
stored_order [] (b ∷ v) e = cc
stored_order (a ∷ u) [] e = cc
stored_order (a ∷ u) (b ∷ v) e =
    ap (ordering_then (nat_cmp a b)) (left_kept 1 u (without_fixed_from 2 v) ∙ right_kept 1 u v) ∙ same_length 0 (a ∷ u) (b ∷ v) e
