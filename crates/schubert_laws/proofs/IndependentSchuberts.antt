-- The Schubert polynomials of permutations of at most n letters are linearly independent in n variables.
use Rattle.std.proofs.Common.{◌≡◌, ℕ, ◌-◌, ◌≤◌, cond, List, ◌++◌, length, sym, ap, ◌∙◌, subst, arith, ℤ, pos}
use Rattle.std.proofs.Common.{length-append}
use Rattle.sym_model.specs.Polynomial.{Poly, In, pair, same, resize, fits_in, restrict}
use Rattle.sym_model.specs.Partition.{after}
use Rattle.sym_model.specs.Permutation.{IsOneLine, kept, with_fixed}
use Rattle.sym_model.specs.Schubert.{schubert, schubert_in}
use Rattle.sym_model.proofs.AfterLists.{length_after}
use Rattle.sym_model.proofs.Exponents.{same_true, same_from, tests_agree, fits_in_length, resize_same}
use Rattle.sym_model.proofs.Polynomials.{pair_determined, pair_restrict, pair_in}
use Rattle.schubert_laws.proofs.FixedLetters.{In_schubert}
use Rattle.schubert_laws.proofs.FixedTails.{one_line_added, schubert_added, kept_added}
use Rattle.schubert_laws.proofs.SchubertDuals.{schubert-has_dual}
use Rattle.independence_laws.specs.Independence.{AreIndependent}
use Rattle.independence_laws.proofs.DualFunctions.{independent_by_some_duals}
use Rattle.schubert_laws.specs.ShortPermutations.{IsShort}

pub length-with_fixed : (n : ℕ) (w : List ℕ) → length w ≤ n → length (with_fixed n w) ≡ n
length-with_fixed n w h =
    let a = length-append w (after (length w) (n - length w)) in let b = length_after (length w) (n - length w) in omega arith

pub with_fixed-same : (n : ℕ) (v w : List ℕ) → IsShort n v → IsShort n w
    → same (with_fixed n v) (with_fixed n w) ≡ same v w
with_fixed-same n v w p q =
    tests_agree (same (with_fixed n v) (with_fixed n w)) (same v w)
    (λ e. same_from v w (sym (kept_added v (n - length v) p.some ∙ p.whole) ∙ (ap kept (same_true (with_fixed n v) (with_fixed n w) e) ∙ (kept_added w (n - length w) q.some ∙ q.whole))))
    (λ e. same_from (with_fixed n v) (with_fixed n w) (ap (with_fixed n) (same_true v w e)))

pub pair_restrict_whole : (n : ℕ) (f : Poly) (φ : List ℕ → ℤ) → In n f → pair (restrict n f) φ ≡ pair f φ
pair_restrict_whole n f φ i =
    pair_restrict n f φ
    ∙ pair_in n f (λ α. cond (fits_in n α) (φ (resize n α)) (pos 0)) φ i
    (λ α l. ap (λ b. cond b (φ (resize n α)) (pos 0)) (fits_in_length n α (omega arith)) ∙ ap φ (resize_same n α l))

pub pair_schubert_in : (n : ℕ) (w : List ℕ) (φ : List ℕ → ℤ) → IsOneLine w → length w ≤ n
    → pair (schubert_in w n) φ ≡ pair (schubert (with_fixed n w)) φ
pair_schubert_in n w φ o h =
    sym (pair_determined (schubert_in (with_fixed n w) n) (schubert_in w n) φ (schubert_added (n - length w) w n o))
    ∙ pair_restrict_whole n (schubert (with_fixed n w)) φ (subst (λ m. In m (schubert (with_fixed n w))) (length-with_fixed n w h) (In_schubert (with_fixed n w)))

pub schuberts-independent : (n : ℕ) → AreIndependent same (IsShort n) (λ w. schubert_in w n)
schuberts-independent n = independent_by_some_duals same (IsShort n) (λ w. schubert_in w n) dual
  where
    dual : (label : List ℕ) → IsShort n label
        → (φ : List ℕ → ℤ) × ((x : List ℕ) → IsShort n x → pair (schubert_in x n) φ ≡ cond (same x label) (pos 1) (pos 0))
    dual label q =
        let δ = schubert-has_dual (with_fixed n label) (one_line_added (n - length label) label q.one_line) in (
          δ.0,
          λ x p.
              pair_schubert_in n x δ.0 p.one_line p.short
              ∙ δ.1 (with_fixed n x) (one_line_added (n - length x) x p.one_line) (length-with_fixed n x p.short ∙ sym (length-with_fixed n label q.short))
              ∙ ap (λ b. cond b (pos 1) (pos 0)) (with_fixed-same n x label p q),
        )
