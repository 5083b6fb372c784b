-- Rotating by r and then by n - r gives the partition back; the two rotations together subtract n from each entry of the beta list once.
use Rattle.std.proofs.Common.{◌≡◌, inl, inr, ℕ, ◌+◌, ◌-◌, ◌<◌, List, [], ◌∷◌, ◌++◌, length, refl, sym, ◌∙◌, ap, ap₂, arith, append-nil}
use Rattle.std.proofs.lemmas.Bool.{cases_lt}
use Rattle.std.proofs.lemmas.List.{length-append}
use Rattle.sym_model.specs.Bounded.{AreBelow}
use Rattle.sym_model.specs.BetaList.{beta, from_beta}
use Rattle.beta_list_laws.specs.StrictFall.{FallsStrictly}
use Rattle.beta_list_laws.proofs.BetaLists.{length-beta, beta_strict, beta-from_beta, from_beta-beta, strict_tail}
use Rattle.rotation_laws.specs.Rotation.{IsInside, kept, wrapped, rotated, wraps}
use Rattle.rotation_laws.proofs.Rotated.{kept_case, wrapped_case, none_wrapped, below_first, rotated_length, rotated_strict, inside_below}

kept_join : (n s : ℕ) (l m : List ℕ) → kept n s (l ++ m) ≡ kept n s l ++ kept n s m
kept_join n s [] m = refl
kept_join n s (x ∷ l) m = elim (cases_lt (x + s) n) [
  | inl h ↦ (kept_case n s x (l ++ m) h).0 ∙ ap (λ t. (x + s) ∷ t) (kept_join n s l m) ∙ ap (λ t. t ++ kept n s m) (sym (kept_case n s x l h).0)
  | inr h ↦ (wrapped_case n s x (l ++ m) h).0 ∙ kept_join n s l m ∙ ap (λ t. t ++ kept n s m) (sym (wrapped_case n s x l h).0)
]

wrapped_join : (n s : ℕ) (l m : List ℕ) → wrapped n s (l ++ m) ≡ wrapped n s l ++ wrapped n s m
wrapped_join n s [] m = refl
wrapped_join n s (x ∷ l) m = elim (cases_lt (x + s) n) [
  | inl h ↦ (kept_case n s x (l ++ m) h).1 ∙ wrapped_join n s l m ∙ ap (λ t. t ++ wrapped n s m) (sym (kept_case n s x l h).1)
  | inr h ↦ (wrapped_case n s x (l ++ m) h).1 ∙ ap (λ t. (x + s - n) ∷ t) (wrapped_join n s l m) ∙ ap (λ t. t ++ wrapped n s m) (sym (wrapped_case n s x l h).1)
]

none_kept : (n r s : ℕ) (b : List ℕ) → r + s ≡ n → kept n s (kept n r b) ≡ []
none_kept n r s [] e = refl
none_kept n r s (x ∷ b) e = elim (cases_lt (x + r) n) [
  | inl h ↦ ap (kept n s) (kept_case n r x b h).0 ∙ (wrapped_case n s (x + r) (kept n r b) (omega arith)).0 ∙ none_kept n r s b e
  | inr h ↦ ap (kept n s) (wrapped_case n r x b h).0 ∙ none_kept n r s b e
]

none_twice : (n r s : ℕ) (b : List ℕ) → r + s ≡ n → AreBelow n b → wrapped n s (wrapped n r b) ≡ []
none_twice n r s [] e u = refl
none_twice n r s (x ∷ b) e u = elim (cases_lt (x + r) n) [
  | inl h ↦ ap (wrapped n s) (kept_case n r x b h).1 ∙ none_twice n r s b e u.1
  | inr h ↦
      let low : x < n = u.0 in
      ap (wrapped n s) (wrapped_case n r x b h).1 ∙ (kept_case n s (x + r - n) (wrapped n r b) (omega arith)).1 ∙ none_twice n r s b e u.1
]

back_again : (n r s : ℕ) (b : List ℕ) → r + s ≡ n → FallsStrictly b → AreBelow n b → kept n s (wrapped n r b) ++ wrapped n s (kept n r b) ≡ b
back_again n r s [] e f u = refl
back_again n r s (x ∷ b) e f u = elim (cases_lt (x + r) n) [
  | inl h ↦
      let none = none_wrapped n r x b h (below_first x b f) in
      let rest = back_again n r s b e (strict_tail x b f) u.1 in
      let c = kept_case n r x b h in
      let first : x + r + s - n ≡ x = omega arith in
      ap₂ (λ (l m : List ℕ). kept n s l ++ wrapped n s m) (c.1 ∙ none) c.0
      ∙ (wrapped_case n s (x + r) (kept n r b) (omega arith)).1
      ∙ ap₂ ◌∷◌ first (sym (ap (λ l. kept n s l ++ wrapped n s (kept n r b)) none) ∙ rest)
  | inr h ↦
      let low : x < n = u.0 in
      let c = wrapped_case n r x b h in
      let first : x + r - n + s ≡ x = omega arith in
      let rest = back_again n r s b e (strict_tail x b f) u.1 in
      ap₂ (λ (l m : List ℕ). kept n s l ++ wrapped n s m) c.1 c.0
      ∙ ap (λ l. l ++ wrapped n s (kept n r b)) ((kept_case n s (x + r - n) (wrapped n r b) (omega arith)).0 ∙ ap (λ y. y ∷ kept n s (wrapped n r b)) first)
      ∙ ap (λ l. x ∷ l) rest
]

beta-rotated : (k n r : ℕ) (parts : List ℕ) → IsInside k n parts → beta k (rotated k n r parts) ≡ kept n r (beta k parts) ++ wrapped n r (beta k parts)
beta-rotated k n r parts p =
    let l = length-append (kept n r (beta k parts)) (wrapped n r (beta k parts)) ∙ rotated_length n r (beta k parts) ∙ length-beta k parts in
    ap (λ m. beta m (rotated k n r parts)) (sym l)
    ∙ beta-from_beta (kept n r (beta k parts) ++ wrapped n r (beta k parts)) (rotated_strict n r (beta k parts) (beta_strict k parts p.partition.falls) (inside_below k n parts p))

twice_wrapped : (k n r s : ℕ) (parts : List ℕ) → r + s ≡ n → IsInside k n parts → wrapped n s (beta k (rotated k n r parts)) ≡ wrapped n s (kept n r (beta k parts))
twice_wrapped k n r s parts e p =
    let b = beta k parts in
    ap (wrapped n s) (beta-rotated k n r parts p)
    ∙ wrapped_join n s (kept n r b) (wrapped n r b)
    ∙ ap (λ l. wrapped n s (kept n r b) ++ l) (none_twice n r s b e (inside_below k n parts p))
    ∙ append-nil (wrapped n s (kept n r b))

-- the clauses `back` and `turns` of the law `quantum_rotation_law`
pub rotated_back : (k n r s : ℕ) (parts : List ℕ) → r + s ≡ n → IsInside k n parts → rotated k n s (rotated k n r parts) ≡ parts
rotated_back k n r s parts e p =
    let b = beta k parts in
    let first : kept n s (beta k (rotated k n r parts)) ≡ kept n s (wrapped n r b) =
    ap (kept n s) (beta-rotated k n r parts p) ∙ kept_join n s (kept n r b) (wrapped n r b) ∙ ap (λ l. l ++ kept n s (wrapped n r b)) (none_kept n r s b e) in
    ap from_beta
    (ap₂ ◌++◌ first (twice_wrapped k n r s parts e p)
    ∙ back_again n r s b e (beta_strict k parts p.partition.falls) (inside_below k n parts p))
    ∙ from_beta-beta k parts p.partition p.few

pub wraps_back : (k n r s : ℕ) (parts : List ℕ) → r + s ≡ n → IsInside k n parts → wraps k n s (rotated k n r parts) + wraps k n r parts ≡ k
wraps_back k n r s parts e p =
    let b = beta k parts in
    let a = ap length (twice_wrapped k n r s parts e p) in
    let c = rotated_length n s (kept n r b) in
    let d = ap length (none_kept n r s b e) in
    let f = rotated_length n r b in
    let g = length-beta k parts in
    omega arith
