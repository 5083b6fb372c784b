-- Partitions in k variables with r columns of k rows in front of them: the Schur polynomial is the one without these columns times (x_1 ⋯ x_k)^r.
use Rattle.std.proofs.Common.{◌≡◌, ℕ, zero, suc, ◌+◌, ◌==◌, ◌&&◌, Bool, true, false, cond, List, [], ◌∷◌, ◌++◌, length, replicate, refl, sym, ◌∙◌, ap, inl, inr, arith, pos, ◌+ℤ◌, append-nil}
use Rattle.std.proofs.lemmas.List.{length-map, length-replicate}
use Rattle.sym_model.specs.Symmetric.{Symmetric}
use Rattle.sym_model.specs.Polynomial.{Poly, Term, In, Same, same, join, one, times}
use Rattle.sym_model.specs.Schur.{schur}
use Rattle.sym_model.specs.Alternant.{alternant, staircase}
use Rattle.sym_model.specs.BetaList.{beta}
use Rattle.sym_model.proofs.Contents.{map-zeros}
use Rattle.sym_model.proofs.Polynomials.{Same_refl, Same_sym, Same_trans, same_of_equal, times_respects, In_times}
use Rattle.sym_model.proofs.PolynomialLaws.{times_assoc, one-times}
use Rattle.beta_list_laws.proofs.BetaLists.{length-beta, beta_strict, beta-from_beta}
use Rattle.alternant_laws.proofs.AlternantProducts.{alternant_times}
use Rattle.alternant_laws.proofs.GoodAlternants.{In-skew_schur}
use Rattle.alternant_laws.proofs.SchurProducts.{bialternant}
use Rattle.alternant_laws.proofs.Staircase.{staircase_cancels}
use Rattle.product_laws.proofs.FusionSteps.{scale_one}
use Rattle.product_laws.proofs.ManyFactors.{join-beta}
use Rattle.product_laws.proofs.Straightened.{IsShape, shape_of_strict}
use Rattle.rotation_laws.specs.Rotation.{raised, widened}
use Rattle.rotation_laws.proofs.Rotated.{raised_strict}

-- (x_1 ⋯ x_k)^r
abbrev pub full : ℕ → ℕ → Poly
full k r = (replicate k r, pos 1) ∷ []

In-full : (k r : ℕ) → In k (full k r)
In-full k r t (inl e) = ap (λ (u : Term). length u.0) e ∙ length-replicate k r
In-full k r t (inr m) = absurd m

tests_exchanged : (p q s : Bool) → p && (q && s) ≡ q && (p && s)
tests_exchanged true true s = refl
tests_exchanged true false s = refl
tests_exchanged false true s = refl
tests_exchanged false false s = refl

test_exchanged : (p q : Bool) → p && false ≡ q && false
test_exchanged true true = refl
test_exchanged true false = refl
test_exchanged false true = refl
test_exchanged false false = refl

same_exchanged : (k r : ℕ) (left : List ℕ) (a b : ℕ) (right : List ℕ) → same (replicate k r) (left ++ (a ∷ b ∷ right)) ≡ same (replicate k r) (left ++ (b ∷ a ∷ right))
same_exchanged zero r [] a b right = refl
same_exchanged zero r (c ∷ left) a b right = refl
same_exchanged (suc zero) r [] a b right = test_exchanged (r == a) (r == b)
same_exchanged (suc (suc k)) r [] a b right = tests_exchanged (r == a) (r == b) (same (replicate k r) right)
same_exchanged (suc k) r (c ∷ left) a b right = ap (λ t. (r == c) && t) (same_exchanged k r left a b right)

symmetric-full : (k r : ℕ) → Symmetric (full k r)
symmetric-full k r left a b right = ap (λ t. cond t (pos 1) (pos 0) +ℤ pos 0) (same_exchanged k r left a b right)

join-replicate : (k r : ℕ) (b : List ℕ) → length b ≡ k → join b (replicate k r) ≡ raised r b
join-replicate zero r [] e = refl
join-replicate (suc k) r [] e = absurd (omega arith)
join-replicate zero r (x ∷ b) e = absurd (omega arith)
join-replicate (suc k) r (x ∷ b) e = ap (λ l. (x + r) ∷ l) (join-replicate k r b (omega arith))

alternant-raised : (k r : ℕ) (b : List ℕ) → length b ≡ k → Same (times (alternant b) (full k r)) (alternant (raised r b))
alternant-raised k r b e =
    Same_trans _ _ _ (alternant_times k b (full k r) e (In-full k r) (symmetric-full k r))
    (same_of_equal _ _ (append-nil _ ∙ scale_one (alternant (join b (replicate k r))) ∙ ap alternant (join-replicate k r b e)))

pub full-times : (k r s : ℕ) → times (full k r) (full k s) ≡ full k (r + s)
full-times k r s = ap (λ l. (l, pos 1) ∷ []) (joined k)
  where
    joined : (k : ℕ) → join (replicate k r) (replicate k s) ≡ replicate k (r + s)
    joined zero = refl
    joined (suc k) = ap (λ l. (r + s) ∷ l) (joined k)

-- ---- the Schur polynomials of the partitions with further columns

pub shape-widened : (k r : ℕ) (parts : List ℕ) → IsShape k parts → IsShape k (widened k r parts)
shape-widened k r parts p =
    shape_of_strict k (raised r (beta k parts)) (length-map (beta k parts) (λ x. x + r) ∙ length-beta k parts)
    (raised_strict r (beta k parts) (beta_strict k parts p.partition.falls))

pub beta-widened : (k r : ℕ) (parts : List ℕ) → IsShape k parts → beta k (widened k r parts) ≡ raised r (beta k parts)
beta-widened k r parts p =
    ap (λ m. beta m (widened k r parts)) (sym (length-map (beta k parts) (λ x. x + r) ∙ length-beta k parts))
    ∙ beta-from_beta (raised r (beta k parts)) (raised_strict r (beta k parts) (beta_strict k parts p.partition.falls))

pub schur-widened : (k r : ℕ) (parts : List ℕ) → IsShape k parts → Same (schur (widened k r parts) k) (times (schur parts k) (full k r))
schur-widened k r parts p =
    staircase_cancels k (schur (widened k r parts) k) (times (schur parts k) (full k r)) (In-skew_schur k (widened k r parts) [])
    (In_times k (schur parts k) (full k r) (In-skew_schur k parts []) (In-full k r))
    (Same_trans _ _ _ wide (Same_sym _ _ own))
  where
    q : IsShape k (widened k r parts)
    q = shape-widened k r parts p

    wide : Same (times (alternant (staircase k)) (schur (widened k r parts) k)) (alternant (raised r (beta k parts)))
    wide =
        Same_trans _ _ _ (bialternant k (widened k r parts) q.partition q.few)
        (same_of_equal _ _ (ap alternant (join-beta k (widened k r parts) q ∙ beta-widened k r parts p)))

    one_by_one : Same (times (alternant (staircase k)) (schur parts k)) (alternant (beta k parts))
    one_by_one = Same_trans _ _ _ (bialternant k parts p.partition p.few) (same_of_equal _ _ (ap alternant (join-beta k parts p)))

    own : Same (times (alternant (staircase k)) (times (schur parts k) (full k r))) (alternant (raised r (beta k parts)))
    own =
        Same_trans _ _ _ (Same_sym _ _ (times_assoc (alternant (staircase k)) (schur parts k) (full k r)))
        (Same_trans _ _ _ (times_respects _ _ (full k r) (full k r) one_by_one (Same_refl (full k r)))
        (alternant-raised k r (beta k parts) (length-beta k parts)))

pub shape-none : (k : ℕ) → IsShape k []
shape-none k = record { partition = record { falls = tt; positive = tt }; few = omega arith }

schur-none : (k : ℕ) → schur [] k ≡ one k
schur-none k = ap (λ (l : List ℕ). (l, pos 1) ∷ []) (map-zeros 0 k)

pub schur-columns : (k r : ℕ) → Same (schur (widened k r []) k) (full k r)
schur-columns k r =
    Same_trans (schur (widened k r []) k) (times (schur [] k) (full k r)) (full k r) (schur-widened k r [] (shape-none k))
    (Same_trans (times (schur [] k) (full k r)) (times (one k) (full k r)) (full k r)
    (times_respects (schur [] k) (one k) (full k r) (full k r) (same_of_equal (schur [] k) (one k) (schur-none k)) (Same_refl (full k r)))
    (one-times k (full k r) (In-full k r)))
