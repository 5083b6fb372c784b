-- A test of the numbers 0, .., k: it holds for all of them, or fails for one.
use Rattle.std.proofs.Common.{◌≡◌, ℕ, zero, suc, ◌+◌, ◌<◌, Bool, true, false, ◌&&◌, List, [], ◌∷◌, ◌++◌, sym, ◌∙◌, ap, ap₂, refl, inl, inr, ◌⊎◌, arith}
use Rattle.std.proofs.lemmas.Bool.{cases_eq}
use Rattle.std.proofs.Math.Bool.{and_assoc, and-false}
use Rattle.sym_model.specs.Partition.{after}
use Rattle.sym_model.specs.GoodTableau.{every}
use Rattle.sym_model.proofs.AfterLists.{after-more}

every-append : (test : ℕ → Bool) (xs : List ℕ) (x : ℕ) → every test (xs ++ (x ∷ [])) ≡ (every test xs && test x)
every-append test [] x = last (test x)
  where
    last : (p : Bool) → (p && true) ≡ p
    last true = refl
    last false = refl
every-append test (y ∷ xs) x = ap (λ p. test y && p) (every-append test xs x) ∙ sym (and_assoc (test y) (every test xs) (test x))

pub every_more : (test : ℕ → Bool) (k : ℕ) → every test (after 0 (k + 1)) ≡ (every test (after 0 k) && test (k + 1))
every_more test k =
    let e : 0 + k + 1 ≡ k + 1 = omega arith in
    ap (every test) (after-more 0 k) ∙ every-append test (after 0 k) (0 + k + 1) ∙ ap (λ n. every test (after 0 k) && test n) e

pub every_on : (test : ℕ → Bool) (k : ℕ) → every test (0 ∷ after 0 k) ≡ true → test (k + 1) ≡ true → every test (0 ∷ after 0 (k + 1)) ≡ true
every_on test k h e =
    ap (λ p. test 0 && p) (every_more test k)
    ∙ sym (and_assoc (test 0) (every test (after 0 k)) (test (k + 1)))
    ∙ ap₂ ◌&&◌ h e

every_fails_in : (test : ℕ → Bool) (j k : ℕ) → j < k → test (j + 1) ≡ false → every test (after 0 k) ≡ false
every_fails_in test j zero h e = absurd (omega arith)
every_fails_in test j (suc k) h e = let n : suc k ≡ k + 1 = omega arith in ap (λ n. every test (after 0 n)) n ∙ every_more test k ∙ by (cases_eq j k) (λ l. every_fails_in test j k l e)
  where
    by : (j ≡ k) ⊎ (j ≡ k → ⊥) → (j < k → every test (after 0 k) ≡ false) → (every test (after 0 k) && test (k + 1)) ≡ false
    by (inl d) later = ap (λ p. every test (after 0 k) && p) (ap (λ i. test (i + 1)) (sym d) ∙ e) ∙ and-false (every test (after 0 k))
    by (inr d) later = ap (λ p. p && test (k + 1)) (later (omega (arith, d)))

pub every_fails : (test : ℕ → Bool) (j k : ℕ) → j < k → test (j + 1) ≡ false → every test (0 ∷ after 0 k) ≡ false
every_fails test j k h e = ap (λ p. test 0 && p) (every_fails_in test j k h e) ∙ and-false (test 0)
