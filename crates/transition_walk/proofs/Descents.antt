-- The last descent r of a permutation w of n letters: 1 ≤ r < n and w(r) > w(r + 1). Also: each letter of w is smaller than the fixed letters n + 1,
-- n + 2, .. after the end of w.
use Rattle.std.proofs.Common.{◌≡◌, ℕ, suc, ◌+◌, ◌-◌, ◌<◌, ◌≤◌, List, length, get_or, ap, ◌∙◌, arith, Some}
use Rattle.sym_model.specs.Permutation.{IsOneLine, letter, last_descent}
use Rattle.schubert_laws.proofs.Transition.{last_descent_is}
use Rattle.schubert_laws.proofs.Ranks.{letter_within}
use Rattle.std.proofs.lemmas.List.{get_or_past, get_or_default}

pub descent_facts : (w : List ℕ) (r : ℕ) → last_descent w ≡ Some r → (1 ≤ r) × (r + 1 ≤ length w) × (letter w (suc r) < letter w r)
descent_facts w r e =
    let f = last_descent_is w (Some r) e in
    let f1 = f.1 in
    let f2 = f.2 in
    let f3 = f.3 in
    let i : r - 1 ≡ f.0 = omega arith in
    let j : suc r - 1 ≡ suc f.0 = omega arith in
    let a = ap (λ t. get_or w t r) i ∙ get_or_default w f.0 r 0 (omega arith) in
    let b = ap (λ t. get_or w t (suc r)) j ∙ get_or_default w (suc f.0) (suc r) 0 f2 in
    (omega arith, omega arith, omega arith)

pub letter_past : (w : List ℕ) (r j : ℕ) → IsOneLine w → r ≤ length w → length w < j → letter w r ≤ letter w j
letter_past w r j o h l = let a = letter_within w r o h in let b = get_or_past w (j - 1) j (omega arith) in omega arith
