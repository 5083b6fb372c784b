-- A *one-line form*, an expression such as 2*s[2,1] for a list of terms, is rewritten as the *block* of the terms, which has one line for each term:
-- its coefficient, two spaces, and the numbers of its label in parentheses. An *atom* is a basis letter with numbers in brackets, such as s[2,1].
use Rattle.std.proofs.Common.{◌≡◌, ℕ, suc, ◌^◌, ◌<◌, Bool, true, false, ◌&&◌, ◌||◌, List, [], ◌∷◌, ◌++◌, length, cond, eqb, leb, pos, negsuc, nat_abs, refl, sym, ap, ap₂, ◌∙◌, append_assoc, decimal, arith}
use Rattle.std.specs.Fmt.{digits}
use Rattle.std.proofs.lemmas.Bool.{ne_eqb, le-leb, lt-leb, and_from, and_parts, cond-true, cond-false, eqb-true}
use Rattle.sym_model.specs.Expansion.{Basis, monomials, elementaries, completes, power_sums, schurs, Fraction, Terms}
use Rattle.sym_model.specs.NumberWord.{IsDigit, AreDigits}
use Rattle.sym_model.specs.NumberText.{fraction_text, numbers_text}
use Rattle.sym_model.specs.Kind.{list_text, list_rules}
use Rattle.sym_model.specs.LabelLimits.{is_label}
use Rattle.sym_model.specs.PrintedOrder.{printed_order}
use Rattle.sym_model.specs.PrintedBlock.{lines_by, block_by}
use Rattle.sym_model.specs.OneLine.{atom_text, without_sign, is_unit, unsigned_text, later_text, one_line}
use Rattle.printing_laws.proofs.Decimals.{decimal-nonempty, decimal-digits}
use Rattle.printing_laws.proofs.NumberTexts.{AreShort}
use Rattle.printing_laws.proofs.Atoms.{IsReadable}
use Rattle.printing_laws.proofs.OneLines.{AreReadable}
use Rattle.block_reader.specs.Lines.{is_dropped, is_bare_after, block_from}

-- ---- the digits, signs and separators of a one-line form are kept

digit-stays : (bare : Bool) (byte : ℕ) (rest : List ℕ) → IsDigit byte → block_from bare (byte ∷ rest) ≡ byte ∷ block_from false rest
digit-stays bare byte rest h =
    ap (λ t. t ++ block_from (is_bare_after bare byte) rest)
    (cond-false (is_dropped bare byte) _ _ kept ∙ cond-false (eqb byte 91) _ _ (ne_eqb byte 91 (λ e. omega (arith, h.1))) ∙ cond-false (eqb byte 93) _ _ (ne_eqb byte 93 (λ e. omega (arith, h.1))))
    ∙ ap (λ b. byte ∷ block_from b rest)
    (cond-false (eqb byte 93) _ _ (ne_eqb byte 93 (λ e. omega (arith, h.1))) ∙ cond-true (leb 48 byte && leb byte 57) _ _ (and_from (leb 48 byte) (leb byte 57) (le-leb 48 byte h.0) (le-leb byte 57 h.1)))
  where
    four : (a b c d e : Bool) → a ≡ false → b ≡ false → c ≡ false → e ≡ false → (((a || b) || c) || (d && e)) ≡ false
    four false false false true false p q r s = refl
    four false false false false false p q r s = refl
    four true b c d e p q r s = let clash : true ≡ false = p in cc
    four false true c d e p q r s = let clash : true ≡ false = q in cc
    four false false true d e p q r s = let clash : true ≡ false = r in cc
    four false false false true true p q r s = let clash : true ≡ false = s in cc
    four false false false false true p q r s = refl

    kept : is_dropped bare byte ≡ false
    kept = four (eqb byte 43) (eqb byte 42) (leb 97 byte) bare (eqb byte 10)
        (ne_eqb byte 43 (λ e. omega (arith, h.0))) (ne_eqb byte 42 (λ e. omega (arith, h.0))) (lt-leb 97 byte (omega (arith, h.1))) (ne_eqb byte 10 (λ e. omega (arith, h.0)))

digits-stay : (bytes rest : List ℕ) → AreDigits bytes → block_from false (bytes ++ rest) ≡ bytes ++ block_from false rest
digits-stay [] rest h = refl
digits-stay (byte ∷ bytes) rest h = digit-stays false byte (bytes ++ rest) h.0 ∙ ap (λ t. byte ∷ t) (digits-stay bytes rest h.1)

some-digits-stay : (bare : Bool) (bytes rest : List ℕ) → 0 < length bytes → AreDigits bytes → block_from bare (bytes ++ rest) ≡ bytes ++ block_from false rest
some-digits-stay bare [] rest some h = absurd (omega arith)
some-digits-stay bare (byte ∷ bytes) rest some h = digit-stays bare byte (bytes ++ rest) h.0 ∙ ap (λ t. byte ∷ t) (digits-stay bytes rest h.1)

number-stays : (bare : Bool) (n : ℕ) (rest : List ℕ) → n < 10 ^ 64 → block_from bare (decimal n ++ rest) ≡ decimal n ++ block_from false rest
number-stays bare n rest h = some-digits-stay bare (decimal n) rest (decimal-nonempty n h) (decimal-digits n h)

-- ---- the basis elements of a one-line form, such as s[2,1], become labels

numbers-rewritten : (bare : Bool) (numbers rest : List ℕ) → AreShort numbers
    → block_from bare (numbers_text numbers ++ (93 ∷ rest)) ≡ numbers_text numbers ++ (41 ∷ 10 ∷ block_from true rest)
numbers-rewritten true [] rest h = refl
numbers-rewritten false [] rest h = refl
numbers-rewritten bare (a ∷ []) rest h = number-stays bare a (93 ∷ rest) h.0
numbers-rewritten bare (a ∷ b ∷ numbers) rest h =
    ap (block_from bare) (append_assoc (decimal a) (44 ∷ numbers_text (b ∷ numbers)) (93 ∷ rest))
    ∙ number-stays bare a (44 ∷ (numbers_text (b ∷ numbers) ++ (93 ∷ rest))) h.0
    ∙ ap (λ t. decimal a ++ (44 ∷ t)) (numbers-rewritten false (b ∷ numbers) rest h.1)
    ∙ sym (append_assoc (decimal a) (44 ∷ numbers_text (b ∷ numbers)) (41 ∷ 10 ∷ block_from true rest))

-- two spaces, the numbers in parentheses and a line feed, followed by `rest`
abbrev label_end : List ℕ → List ℕ → List ℕ
label_end numbers rest = 32 ∷ 32 ∷ 40 ∷ (numbers_text numbers ++ (41 ∷ 10 ∷ rest))

atom-rewritten : (basis : Basis) (numbers rest : List ℕ) → AreShort numbers → block_from false (atom_text basis numbers ++ rest) ≡ label_end numbers (block_from true rest)
atom-rewritten basis numbers rest h = by basis
  where
    inner : block_from false (91 ∷ ((numbers_text numbers ++ (93 ∷ [])) ++ rest)) ≡ label_end numbers (block_from true rest)
    inner = ap (λ t. block_from false (91 ∷ t)) (append_assoc (numbers_text numbers) (93 ∷ []) rest)
        ∙ ap (λ t. 32 ∷ 32 ∷ 40 ∷ t) (numbers-rewritten false numbers rest h)

    by : (basis : Basis) → block_from false (atom_text basis numbers ++ rest) ≡ label_end numbers (block_from true rest)
    by monomials = inner
    by elementaries = inner
    by completes = inner
    by power_sums = inner
    by schurs = inner

bare_atom-rewritten : (basis : Basis) (numbers rest : List ℕ) → AreShort numbers → block_from true (atom_text basis numbers ++ rest) ≡ 49 ∷ label_end numbers (block_from true rest)
bare_atom-rewritten basis numbers rest h = by basis
  where
    inner : block_from true (91 ∷ ((numbers_text numbers ++ (93 ∷ [])) ++ rest)) ≡ 49 ∷ label_end numbers (block_from true rest)
    inner = ap (λ t. block_from true (91 ∷ t)) (append_assoc (numbers_text numbers) (93 ∷ []) rest)
        ∙ ap (λ t. 49 ∷ 32 ∷ 32 ∷ 40 ∷ t) (numbers-rewritten true numbers rest h)

    by : (basis : Basis) → block_from true (atom_text basis numbers ++ rest) ≡ 49 ∷ label_end numbers (block_from true rest)
    by monomials = inner
    by elementaries = inner
    by completes = inner
    by power_sums = inner
    by schurs = inner

-- ---- the terms of a one-line form become the lines of a block

coefficient-rewritten : (num den : ℕ) (rest : List ℕ) → num < 10 ^ 64 → den < 10 ^ 64
    → block_from true ((fraction_text (pos num, den) ++ (42 ∷ [])) ++ rest) ≡ fraction_text (pos num, den) ++ block_from false rest
coefficient-rewritten num den rest h k =
    ap (block_from true) (append_assoc (fraction_text (pos num, den)) (42 ∷ []) rest) ∙ by (eqb den 1)
  where
    by : (b : Bool) → block_from true (cond b (decimal num) (decimal num ++ (47 ∷ decimal den)) ++ (42 ∷ rest)) ≡ cond b (decimal num) (decimal num ++ (47 ∷ decimal den)) ++ block_from false rest
    by true = number-stays true num (42 ∷ rest) h
    by false =
        ap (block_from true) (append_assoc (decimal num) (47 ∷ decimal den) (42 ∷ rest))
        ∙ number-stays true num (47 ∷ (decimal den ++ (42 ∷ rest))) h
        ∙ ap (λ t. decimal num ++ (47 ∷ t)) (number-stays false den (42 ∷ rest) k)
        ∙ sym (append_assoc (decimal num) (47 ∷ decimal den) (block_from false rest))

unit-text : (c : Fraction) → is_unit c ≡ true → fraction_text (without_sign c) ≡ 49 ∷ []
unfolding digits
unit-text c h =
    let p = and_parts (eqb (nat_abs c.0) 1) (eqb c.1 1) h in
    ap₂ (λ (n d : ℕ). fraction_text (pos n, d)) (eqb-true (nat_abs c.0) 1 p.0) (eqb-true c.1 1 p.1)

unsigned-rewritten : (basis : Basis) (t : List ℕ × Fraction) (rest : List ℕ) → IsReadable t
    → block_from true (unsigned_text basis t ++ rest) ≡ fraction_text (without_sign t.1) ++ label_end t.0 (block_from true rest)
unsigned-rewritten basis t rest h = by (is_unit t.1) refl
  where
    by : (b : Bool) → is_unit t.1 ≡ b → block_from true ((cond b [] (fraction_text (without_sign t.1) ++ (42 ∷ [])) ++ atom_text basis t.0) ++ rest)
        ≡ fraction_text (without_sign t.1) ++ label_end t.0 (block_from true rest)
    by true e =
        bare_atom-rewritten basis t.0 rest h.numbers ∙ ap (λ s. s ++ label_end t.0 (block_from true rest)) (sym (unit-text t.1 e))
    by false e =
        ap (block_from true) (append_assoc (fraction_text (without_sign t.1) ++ (42 ∷ [])) (atom_text basis t.0) rest)
        ∙ coefficient-rewritten (nat_abs t.1.0) t.1.1 (atom_text basis t.0 ++ rest) h.fraction.num h.fraction.den
        ∙ ap (λ s. fraction_text (without_sign t.1) ++ s) (atom-rewritten basis t.0 rest h.numbers)

negative-text : (n den : ℕ) → fraction_text (negsuc n, den) ≡ 45 ∷ fraction_text (pos (suc n), den)
negative-text n den = by (eqb den 1)
  where
    by : (b : Bool) → cond b (45 ∷ decimal (suc n)) ((45 ∷ decimal (suc n)) ++ (47 ∷ decimal den)) ≡ 45 ∷ cond b (decimal (suc n)) (decimal (suc n) ++ (47 ∷ decimal den))
    by true = refl
    by false = refl

module _ (has_fractions : Bool) (basis : Basis) where
  line-front : (t : List ℕ × Fraction) (rest : List ℕ) → fraction_text t.1 ++ label_end t.0 rest ≡ (fraction_text t.1 ++ (list_text t.0 ++ (10 ∷ []))) ++ rest
  line-front t rest =
      sym (append_assoc (fraction_text t.1) (list_text t.0 ++ (10 ∷ [])) rest
      ∙ ap (λ s. fraction_text t.1 ++ (32 ∷ 32 ∷ 40 ∷ s)) (ap (λ s. s ++ rest) (append_assoc (numbers_text t.0) (41 ∷ []) (10 ∷ [])) ∙ append_assoc (numbers_text t.0) (41 ∷ 10 ∷ []) rest))

  abbrev lines : Terms (List ℕ) → List ℕ
  lines terms = lines_by (list_rules printed_order is_label has_fractions) terms

  later-rewritten : (terms : Terms (List ℕ)) → AreReadable terms → block_from true (later_text basis terms ++ (10 ∷ [])) ≡ lines terms
  later-rewritten [] h = refl
  later-rewritten ((label, (pos n, den)) ∷ terms) h =
      ap (λ s. block_from true s) (append_assoc (unsigned_text basis (label, (pos n, den))) (later_text basis terms) (10 ∷ []))
      ∙ unsigned-rewritten basis (label, (pos n, den)) (later_text basis terms ++ (10 ∷ [])) h.0
      ∙ ap (λ s. fraction_text (pos n, den) ++ label_end label s) (later-rewritten terms h.1)
      ∙ line-front (label, (pos n, den)) (lines terms)
  later-rewritten ((label, (negsuc n, den)) ∷ terms) h =
      ap (λ s. 45 ∷ block_from true s) (append_assoc (unsigned_text basis (label, (negsuc n, den))) (later_text basis terms) (10 ∷ []))
      ∙ ap (λ s. 45 ∷ s) (unsigned-rewritten basis (label, (negsuc n, den)) (later_text basis terms ++ (10 ∷ [])) h.0)
      ∙ ap (λ s. 45 ∷ (fraction_text (pos (suc n), den) ++ label_end label s)) (later-rewritten terms h.1)
      ∙ ap (λ s. s ++ label_end label (lines terms)) (sym (negative-text n den))
      ∙ line-front (label, (negsuc n, den)) (lines terms)

  pub line-rewritten : (terms : Terms (List ℕ)) → AreReadable terms → block_from true (one_line basis terms) ≡ block_by (list_rules printed_order is_label has_fractions) terms
  line-rewritten [] h = refl
  line-rewritten ((label, (pos n, den)) ∷ terms) h =
      unsigned-rewritten basis (label, (pos n, den)) (later_text basis terms ++ (10 ∷ [])) h.0
      ∙ ap (λ s. fraction_text (pos n, den) ++ label_end label s) (later-rewritten terms h.1)
      ∙ line-front (label, (pos n, den)) (lines terms)
  line-rewritten ((label, (negsuc n, den)) ∷ terms) h =
      ap (λ s. 45 ∷ s) (unsigned-rewritten basis (label, (negsuc n, den)) (later_text basis terms ++ (10 ∷ [])) h.0)
      ∙ ap (λ s. 45 ∷ (fraction_text (pos (suc n), den) ++ label_end label s)) (later-rewritten terms h.1)
      ∙ ap (λ s. s ++ label_end label (lines terms)) (sym (negative-text n den))
      ∙ line-front (label, (negsuc n, den)) (lines terms)
