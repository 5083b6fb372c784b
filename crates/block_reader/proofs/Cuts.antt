-- Texts that are cut before their first separator, and the pieces between separators.
use Rattle.std.proofs.Common.{◌≡◌, ℕ, zero, suc, ◌-◌, ◌≤◌, ◌<◌, length, arith, List, [], ◌∷◌, refl, ◌∙◌, ap, take, drop, get_or, cond, ◌==◌, Bool, true, false}
use Rattle.std.proofs.lemmas.Bool.{eq-eqb, ne_eqb, cond-true, cond-false}
use Rattle.sym_model.specs.Kind.{after_one}
use Rattle.sym_model.specs.NumberText.{cut_at, before_cut, split_at, before_first, without_last}
use Rattle.block_reader.specs.Parts.{inside_of}

-- if the first separator s of the text is at index k, the text is cut before index k (`cut_at`)
pub cut-found : (s : ℕ) (text : List ℕ) (k : ℕ) → k < length text → get_or text k 0 ≡ s → ((i : ℕ) → i < k → get_or text i 0 ≡ s → ⊥)
    → cut_at s text ≡ (take k text, drop k text)
cut-found s [] k below here before = absurd (omega arith)
cut-found s (b ∷ text) zero below here before = cond-true (b == s) ([], b ∷ text) (before_cut b (cut_at s text)) (eq-eqb b s here)
cut-found s (b ∷ text) (suc k) below here before =
    cond-false (b == s) ([], b ∷ text) (before_cut b (cut_at s text)) (ne_eqb b s (before 0 (omega arith)))
    ∙ ap (before_cut b) (cut-found s text k (omega arith) here (λ i h. before (suc i) (omega arith)))

-- a text without the separator s is cut at its end (`cut_at`)
pub cut-none : (s : ℕ) (text : List ℕ) → ((i : ℕ) → i < length text → get_or text i 0 ≡ s → ⊥) → cut_at s text ≡ (text, [])
cut-none s [] none = refl
cut-none s (b ∷ text) none =
    cond-false (b == s) ([], b ∷ text) (before_cut b (cut_at s text)) (ne_eqb b s (none 0 (omega arith)))
    ∙ ap (before_cut b) (cut-none s text (λ i h. none (suc i) (omega arith)))

-- the pieces after the first byte of the text, which is a separator; no piece if the text is empty
abbrev pub pieces_after : ℕ → List ℕ → List (List ℕ)
pieces_after s [] = []
pieces_after s (b ∷ text) = split_at s text

pub split-cut : (s : ℕ) (text : List ℕ) → split_at s text ≡ (cut_at s text).0 ∷ pieces_after s (cut_at s text).1
split-cut s [] = refl
split-cut s (b ∷ text) = by (b == s) (split-cut s text)
  where
    by : (e : Bool) → split_at s text ≡ (cut_at s text).0 ∷ pieces_after s (cut_at s text).1
        → cond e ([] ∷ split_at s text) (before_first b (split_at s text))
        ≡ (cond e ([], b ∷ text) (before_cut b (cut_at s text))).0 ∷ pieces_after s (cond e ([], b ∷ text) (before_cut b (cut_at s text))).1
    by true ih = refl
    by false ih = ap (before_first b) ih

-- if a text has a separator, the text after the first separator is shorter than the whole text
pub after_one-cut : (s : ℕ) (text : List ℕ) → 0 < length (cut_at s text).1 → length (after_one (cut_at s text).1) < length text
after_one-cut s [] some = absurd (omega arith)
after_one-cut s (b ∷ text) some = by (b == s) (after_one-cut s text) some
  where
    by : (e : Bool) → (0 < length (cut_at s text).1 → length (after_one (cut_at s text).1) < length text)
        → 0 < length (cond e ([], b ∷ text) (before_cut b (cut_at s text))).1
        → length (after_one (cond e ([], b ∷ text) (before_cut b (cut_at s text))).1) < suc (length text)
    by true ih some = omega arith
    by false ih some = let h = ih some in omega arith

without_last-taken : (text : List ℕ) → 1 ≤ length text → take (length text - 1) text ≡ without_last text
without_last-taken [] some = absurd (omega arith)
without_last-taken (a ∷ []) some = refl
without_last-taken (a ∷ b ∷ text) some =
    let e : suc (suc (length text)) - 1 ≡ suc (suc (length text) - 1) = omega arith in
    ap (λ k. take k (a ∷ b ∷ text)) e ∙ ap (λ t. a ∷ t) (without_last-taken (b ∷ text) (omega arith))

pub inside-taken : (text : List ℕ) → 2 ≤ length text → take (length text - 2) (drop 1 text) ≡ inside_of text
inside-taken [] some = absurd (omega arith)
inside-taken (a ∷ text) some =
    let e : suc (length text) - 2 ≡ length text - 1 = omega arith in
    ap (λ k. take k text) e ∙ without_last-taken text (omega arith)
