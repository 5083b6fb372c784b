-- Removing from a list the first part that equals a number: the search for this part, one index after another.
use Rattle.std.proofs.Common.{◌≡◌, ℕ, zero, suc, ◌<◌, ◌≤◌, List, [], ◌∷◌, length, get_or, refl, sym, ap, ◌∙◌, arith}
use Rattle.std.proofs.lemmas.Bool.{eq-eqb, ne_eqb, cond-true, cond-false}
use Rattle.std.proofs.Common.{◌==◌, remove}
use Rattle.sym_model.specs.RaisedPart.{without_one}

-- if the part at the index `at` is the first that equals the number `part`, removing it gives `without_one part parts`
pub part-taken : (parts : List ℕ) (at part : ℕ) → at < length parts → get_or parts at 0 ≡ part → ((i : ℕ) → i < at → get_or parts i 0 ≡ part → ⊥)
    → remove parts at ≡ without_one part parts
part-taken [] at part h e n = absurd (omega arith)
part-taken (a ∷ parts) zero part h e n = sym (cond-true (a == part) parts (a ∷ without_one part parts) (eq-eqb a part e))
part-taken (a ∷ parts) (suc at) part h e n =
    ap (λ l. a ∷ l) (part-taken parts at part (omega arith) e (λ i l. n (suc i) (omega arith)))
    ∙ sym (cond-false (a == part) parts (a ∷ without_one part parts) (ne_eqb a part (n 0 (omega arith))))

-- if no part equals the number `part`, `without_one part parts` is `parts`
pub none-taken : (parts : List ℕ) (at part : ℕ) → length parts ≤ at → ((i : ℕ) → i < at → get_or parts i 0 ≡ part → ⊥) → parts ≡ without_one part parts
none-taken [] at part h n = refl
none-taken (a ∷ parts) zero part h n = absurd (omega arith)
none-taken (a ∷ parts) (suc at) part h n =
    ap (λ l. a ∷ l) (none-taken parts at part (omega arith) (λ i l. n (suc i) (omega arith)))
    ∙ sym (cond-false (a == part) parts (a ∷ without_one part parts) (ne_eqb a part (n 0 (omega arith))))
