-- Texts that are cut at a byte, and texts that are cut before each sign (`+` or `-`).
use Rattle.std.proofs.Common.{◌≡◌, ℕ, true, false, ◌||◌, List, [], ◌∷◌, ◌++◌, eqb, refl, ap, ◌∙◌, rules}
use Rattle.std.proofs.lemmas.Bool.{eq-eqb, ne_eqb, cond-true, cond-false}
use Rattle.sym_model.specs.NumberText.{before_first, before_cut, cut_at}
use Rattle.sym_model.specs.OneLine.{is_sign, cut_at_signs, pieces_of}
use Rattle.sym_model.specs.Bounded.{Lacks}

-- no byte of the text is `+` or `-`
pub record LacksSigns (text : List ℕ) : Type 0 where
  pub plus : Lacks 43 text
  pub minus : Lacks 45 text

pub cut_at-front : (separator : ℕ) (front rest : List ℕ) → Lacks separator front → cut_at separator (front ++ (separator ∷ rest)) ≡ (front, separator ∷ rest)
cut_at-front separator [] rest h = cond-true (eqb separator separator) _ _ (eq-eqb separator separator refl)
cut_at-front separator (b ∷ front) rest h =
    cond-false (eqb b separator) _ _ (ne_eqb b separator h.0) ∙ ap (before_cut b) (cut_at-front separator front rest h.1)

pub cut_at-whole : (separator : ℕ) (text : List ℕ) → Lacks separator text → cut_at separator text ≡ (text, [])
cut_at-whole separator [] h = refl
cut_at-whole separator (b ∷ text) h =
    cond-false (eqb b separator) _ _ (ne_eqb b separator h.0) ∙ ap (before_cut b) (cut_at-whole separator text h.1)

no_sign : (byte : ℕ) → (byte ≡ 43 → ⊥) → (byte ≡ 45 → ⊥) → is_sign byte ≡ false
no_sign byte plus minus =
    ap (λ b. b || eqb byte 45) (ne_eqb byte 43 plus) ∙ ne_eqb byte 45 minus

pub cut_at_signs-front : (front rest piece : List ℕ) (pieces : List (List ℕ)) → LacksSigns front → cut_at_signs rest ≡ piece ∷ pieces
    → cut_at_signs (front ++ rest) ≡ (front ++ piece) ∷ pieces
cut_at_signs-front [] rest piece pieces h e = e
cut_at_signs-front (b ∷ front) rest piece pieces h e =
    search (rules, cond-false, no_sign, (cut_at_signs-front front rest piece pieces (record { plus = h.plus.1; minus = h.minus.1 }) e))

-- if a text begins with a sign, cutting the text before each sign gives an empty piece and then the piece that begins with this sign
pub cut_at_signs-sign : (byte : ℕ) (rest piece : List ℕ) (pieces : List (List ℕ)) → is_sign byte ≡ true → cut_at_signs rest ≡ piece ∷ pieces
    → cut_at_signs (byte ∷ rest) ≡ [] ∷ (byte ∷ piece) ∷ pieces
cut_at_signs-sign byte rest piece pieces h e =
    cond-true (is_sign byte) _ _ h ∙ ap (λ ps. [] ∷ before_first byte ps) e

-- the first byte of a text belongs to the first of the pieces of the text (`pieces_of`), even if this byte is a sign
pub pieces_of-first : (byte : ℕ) (rest piece : List ℕ) (pieces : List (List ℕ)) → cut_at_signs rest ≡ piece ∷ pieces
    → pieces_of (byte ∷ rest) ≡ (byte ∷ piece) ∷ pieces
pieces_of-first byte rest piece pieces e = ap (before_first byte) e
