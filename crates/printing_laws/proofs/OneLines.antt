-- The one-line form of a list of terms, such as s[3]-3*s[2,1], is read back as this list. A list is *canonical* if its labels are within the limits,
-- each once and in the printed order, and its coefficients are in lowest terms and not 0.
use Rattle.std.proofs.Common.{◌≡◌, ℕ, ◌^◌, ◌<◌, Bool, true, false, ◌&&◌, List, [], ◌∷◌, ◌++◌, length, map, cond, eqb, ℤ, pos, negsuc, nat_abs, Some, None, refl, sym, ap, ap₂, ◌∙◌, subst, append_assoc, append-nil, length-append, arith, rules}
use Rattle.std.specs.Prelude.{codes}
use Rattle.std.proofs.lemmas.Bool.{ltb-true, and_parts, and_from, cond-true, cond-false, ne_eqb}
use Rattle.sym_model.specs.Polynomial.{same}
use Rattle.sym_model.specs.Expansion.{Basis, Fraction, Terms}
use Rattle.sym_model.specs.Kind.{LabelRules}
use Rattle.sym_model.specs.Canonical.{is_coefficient, each_term, fits_128_bits, is_canonical_by, is_printable}
use Rattle.sym_model.specs.OneLine.{without_sign, unsigned_text, is_negative, later_text, one_line, is_sign, cut_at_signs, pieces_of, unsigned_term, negated, term_of_piece, terms_on_line, accepted_line, read_one_line}
use Rattle.sym_model.proofs.Exponents.{same_refl, same_true, same_apart}
use Rattle.printing_laws.proofs.NumberTexts.{AreShort, IsShortFraction, without_last-push}
use Rattle.printing_laws.proofs.Pieces.{LacksSigns, cut_at_signs-front, cut_at_signs-sign, pieces_of-first}
use Rattle.printing_laws.proofs.Atoms.{IsReadable, unsigned_text-lacks_signs, unsigned_text-long, unsigned_term-text}

abbrev pub AreReadable : Terms (List ℕ) → Type 0
AreReadable [] = Unit {0}
AreReadable (t ∷ terms) = IsReadable t × AreReadable terms

-- the byte of a sign: `-` for a negative number, otherwise `+`
abbrev sign_byte : ℤ → ℕ
sign_byte z = cond (is_negative z) 45 43

is_sign-byte : (z : ℤ) → is_sign (sign_byte z) ≡ true
is_sign-byte (pos n) = refl
is_sign-byte (negsuc n) = refl

-- the text of a term that is not the first one of a line: the sign of the term, then the text of the term without the sign
abbrev later_piece : Basis → List ℕ × Fraction → List ℕ
later_piece basis t = sign_byte t.1.0 ∷ unsigned_text basis t

later_text-more : (basis : Basis) (t : List ℕ × Fraction) (terms : Terms (List ℕ)) → later_text basis (t ∷ terms) ≡ sign_byte t.1.0 ∷ (unsigned_text basis t ++ later_text basis terms)
later_text-more basis (label, (pos n, den)) terms = refl
later_text-more basis (label, (negsuc n, den)) terms = refl

-- ---- a line cut before each sign gives the texts of its terms

abbrev later_pieces : Basis → Terms (List ℕ) → List (List ℕ)
later_pieces basis terms = map (later_piece basis) terms

pieces-later : (basis : Basis) (front : List ℕ) (terms : Terms (List ℕ)) → LacksSigns front → AreReadable terms
    → cut_at_signs (front ++ later_text basis terms) ≡ front ∷ later_pieces basis terms
pieces-later basis front terms lacks h =
    cut_at_signs-front front (later_text basis terms) [] (later_pieces basis terms) lacks (behind terms h) ∙ ap (λ p. p ∷ later_pieces basis terms) (append-nil front)
  where
    behind : (terms : Terms (List ℕ)) → AreReadable terms → cut_at_signs (later_text basis terms) ≡ [] ∷ later_pieces basis terms
    behind [] h = refl
    behind (t ∷ terms) h =
        ap cut_at_signs (later_text-more basis t terms)
        ∙ cut_at_signs-sign (sign_byte t.1.0) (unsigned_text basis t ++ later_text basis terms) (unsigned_text basis t) (later_pieces basis terms) (is_sign-byte t.1.0)
        (cut_at_signs-front (unsigned_text basis t) (later_text basis terms) [] (later_pieces basis terms) (unsigned_text-lacks_signs basis t h.0) (behind terms h.1)
        ∙ ap (λ p. p ∷ later_pieces basis terms) (append-nil (unsigned_text basis t)))

-- the text of the first term of a line, with `-` in front if the term is negative
abbrev first_piece : Basis → List ℕ × Fraction → List ℕ
first_piece basis t = cond (is_negative t.1.0) (codes "-") [] ++ unsigned_text basis t

pieces-without_sign : (front later : List ℕ) (pieces : List (List ℕ)) → 0 < length front → LacksSigns front
    → ((rest : List ℕ) → LacksSigns rest → cut_at_signs (rest ++ later) ≡ rest ∷ pieces) → pieces_of (front ++ later) ≡ front ∷ pieces
pieces-without_sign [] later pieces some lacks h = absurd (omega arith)
pieces-without_sign (b ∷ front) later pieces some lacks h =
    pieces_of-first b (front ++ later) front pieces (h front (record { plus = lacks.plus.1; minus = lacks.minus.1 }))

pieces-line : (basis : Basis) (t : List ℕ × Fraction) (terms : Terms (List ℕ)) → IsReadable t → AreReadable terms
    → pieces_of (first_piece basis t ++ later_text basis terms) ≡ first_piece basis t ∷ later_pieces basis terms
pieces-line basis t terms r h = by (is_negative t.1.0)
  where
    lacks : LacksSigns (unsigned_text basis t)
    lacks = unsigned_text-lacks_signs basis t r

    by : (b : Bool) → pieces_of ((cond b (codes "-") [] ++ unsigned_text basis t) ++ later_text basis terms) ≡ (cond b (codes "-") [] ++ unsigned_text basis t) ∷ later_pieces basis terms
    by true = pieces_of-first 45 (unsigned_text basis t ++ later_text basis terms) (unsigned_text basis t) (later_pieces basis terms) (pieces-later basis (unsigned_text basis t) terms lacks h)
    by false =
        pieces-without_sign (unsigned_text basis t) (later_text basis terms) (later_pieces basis terms) (let e = unsigned_text-long basis t r in omega arith) lacks
        (λ rest l. pieces-later basis rest terms l h)

-- ---- the text of each term is read as this term

later-term : (basis : Basis) (t : List ℕ × Fraction) → IsReadable t → term_of_piece (later_piece basis t) ≡ t
later-term basis (label, (pos n, den)) r = unsigned_term-text basis (label, (pos n, den)) r
later-term basis (label, (negsuc n, den)) r = ap negated (unsigned_term-text basis (label, (negsuc n, den)) r)

unsigned-piece : (piece : List ℕ) → 0 < length piece → LacksSigns piece → term_of_piece piece ≡ unsigned_term piece
unsigned-piece [] some lacks = refl
unsigned-piece (b ∷ piece) some lacks =
    cond-false (eqb b 45) _ _ (ne_eqb b 45 lacks.minus.0) ∙ cond-false (eqb b 43) _ _ (ne_eqb b 43 lacks.plus.0)

first-term : (basis : Basis) (t : List ℕ × Fraction) → IsReadable t → term_of_piece (first_piece basis t) ≡ t
first-term basis (label, (pos n, den)) r =
    unsigned-piece (unsigned_text basis (label, (pos n, den))) (let e = unsigned_text-long basis (label, (pos n, den)) r in omega arith) (unsigned_text-lacks_signs basis (label, (pos n, den)) r)
    ∙ unsigned_term-text basis (label, (pos n, den)) r
first-term basis (label, (negsuc n, den)) r = ap negated (unsigned_term-text basis (label, (negsuc n, den)) r)

later-terms : (basis : Basis) (terms : Terms (List ℕ)) → AreReadable terms → map {B = List ℕ × Fraction} term_of_piece (later_pieces basis terms) ≡ terms
later-terms basis [] h = refl
later-terms basis (t ∷ terms) h = ap₂ ◌∷◌ (later-term basis t h.0) (later-terms basis terms h.1)

one_line-front : (basis : Basis) (t : List ℕ × Fraction) (terms : Terms (List ℕ)) → one_line basis (t ∷ terms) ≡ (first_piece basis t ++ later_text basis terms) ++ (10 ∷ [])
one_line-front basis t terms = simp append_assoc refl

not_nothing : (basis : Basis) (t : List ℕ × Fraction) (terms : Terms (List ℕ)) → IsReadable t → one_line basis (t ∷ terms) ≡ codes "0\n" → ⊥
not_nothing basis t terms r e =
    let long = unsigned_text-long basis t r in
    let l : length ((first_piece basis t ++ later_text basis terms) ++ (10 ∷ [])) ≡ 2 = ap length (sym (one_line-front basis t terms) ∙ e) in
    let m = length-append (first_piece basis t ++ later_text basis terms) (10 ∷ []) in
    let n = length-append (first_piece basis t) (later_text basis terms) in
    let k = length-append (cond (is_negative t.1.0) (codes "-") []) (unsigned_text basis t) in
    omega arith

-- if each term can be read back (`IsReadable`), the one-line form of the terms is read as these terms
pub terms_on-line : (basis : Basis) (terms : Terms (List ℕ)) → AreReadable terms → terms_on_line (one_line basis terms) ≡ terms
terms_on-line basis [] h = refl
terms_on-line basis (t ∷ terms) h =
    search (rules, cond-false, same_apart, not_nothing, one_line-front, without_last-push, pieces-line, first-term, later-terms)

-- ---- the terms of a canonical list with numbers of at most 128 bits can be read back

short-abs : (z : ℤ) → fits_128_bits z ≡ true → nat_abs z < 10 ^ 64
short-abs (pos n) h = let e = ltb-true n (2 ^ 127) h in omega arith
short-abs (negsuc n) h = let e = ltb-true n (2 ^ 127) h in omega arith

short-den : (d : ℕ) → fits_128_bits (pos d) ≡ true → d < 10 ^ 64
short-den d h = let e = ltb-true d (2 ^ 127) h in omega arith

-- let each label within the limits have only numbers below 10^64. If a list is canonical, and its numerators and denominators have at most 128 bits,
-- then each of its terms satisfies `IsReadable`
pub are_readable : (rules : LabelRules (List ℕ)) → ((label : List ℕ) → rules.is_within_limits label ≡ true → AreShort label) → (terms : Terms (List ℕ))
    → each_term (λ (t : List ℕ × Fraction). is_coefficient rules.has_fractions t.1 && rules.is_within_limits t.0) terms ≡ true → is_printable terms ≡ true → AreReadable terms
are_readable rules short [] h k = tt
are_readable rules short (t ∷ terms) h k =
    let tests = and_parts _ _ (and_parts _ _ h).0 in
    let bits = and_parts _ _ (and_parts _ _ k).0 in
    let fraction : IsShortFraction (without_sign t.1) = record { num = short-abs t.1.0 bits.0; den = short-den t.1.1 bits.1 } in
    (record { numbers = short t.0 tests.1; fraction = fraction }, are_readable rules short terms (and_parts _ _ h).1 (and_parts _ _ k).1)

-- whether the terms are canonical and printable (numbers of at most 128 bits), and `text` is their one-line form
abbrev pub is_line_of : Basis → LabelRules (List ℕ) → List ℕ → Terms (List ℕ) → Bool
is_line_of basis rules text terms = is_canonical_by rules terms && is_printable terms && same (one_line basis terms) text

-- let each label within the limits have only numbers below 10^64. If a list of terms is canonical and printable, its one-line form is read as this
-- list
pub read_one_line-line : (basis : Basis) (rules : LabelRules (List ℕ)) → ((label : List ℕ) → rules.is_within_limits label ≡ true → AreShort label) → (terms : Terms (List ℕ))
    → is_canonical_by rules terms ≡ true → is_printable terms ≡ true → read_one_line basis rules (one_line basis terms) ≡ Some terms
read_one_line-line basis rules short terms h k =
    let e = terms_on-line basis terms (are_readable rules short terms (and_parts _ _ h).1 k) in
    let passes = and_from _ _ (and_from _ _ h k) (same_refl (one_line basis terms)) in
    ap (accepted_line basis rules (one_line basis terms)) e ∙ cond-true (is_line_of basis rules (one_line basis terms) terms) _ _ passes

-- `text` is the one-line form of the terms, which are canonical and printable
pub record ReadsLine (basis : Basis) (rules : LabelRules (List ℕ)) (text : List ℕ) (terms : Terms (List ℕ)) : Type 0 where
  pub canonical : is_canonical_by rules terms ≡ true
  pub printable : is_printable terms ≡ true
  pub line : one_line basis terms ≡ text

-- if the reader of one-line forms reads `text` as the list `terms`, then `text` is the one-line form of these terms, which are canonical and
-- printable
pub read_one_line-tells : (basis : Basis) (rules : LabelRules (List ℕ)) (text : List ℕ) (terms : Terms (List ℕ)) → read_one_line basis rules text ≡ Some terms → ReadsLine basis rules text terms
read_one_line-tells basis rules text terms h = by (is_line_of basis rules text (terms_on_line text)) refl h
  where
    by : (b : Bool) → is_line_of basis rules text (terms_on_line text) ≡ b → cond b (Some (terms_on_line text)) None ≡ Some terms → ReadsLine basis rules text terms
    by false e k = cc
    by true e k =
        let is : terms_on_line text ≡ terms = cc in
        let p = and_parts _ _ e in
        let q = and_parts _ _ p.0 in
        subst (ReadsLine basis rules text) is (record { canonical = q.0; printable = q.1; line = same_true _ _ p.1 })
