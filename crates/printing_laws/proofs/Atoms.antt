-- The text of a term without its sign, such as 3*s[2,1], is read back as the label (2,1) of the term and the absolute value 3 of its coefficient. The
-- part s[2,1], a basis with the numbers of a label, is an *atom*.
use Rattle.std.proofs.lemmas.Grind.{common_steps}
use Rattle.std.proofs.Common.{◌≡◌, ℕ, ◌<◌, ◌≤◌, Bool, true, false, List, [], ◌∷◌, ◌++◌, length, cond, eqb, pos, nat_abs, refl, sym, ap, ◌∙◌, append_assoc, decimal, arith, rules}
use Rattle.sym_model.specs.Expansion.{Basis, monomials, elementaries, completes, power_sums, schurs, Fraction}
use Rattle.sym_model.specs.NumberText.{fraction_text, numbers_text, fraction_of}
use Rattle.sym_model.specs.OneLine.{atom_text, without_sign, is_unit, unsigned_text, numbers_in_atom, term_of_cut, unsigned_term}
use Rattle.printing_laws.proofs.Decimals.{lacks-append, decimal-lacks}
use Rattle.printing_laws.proofs.NumberTexts.{AreShort, IsShortFraction, numbers_text-lacks, numbers_of-text, without_last-push, fraction_of-text}
use Rattle.printing_laws.proofs.Pieces.{LacksSigns, cut_at-front, cut_at-whole}
use Rattle.sym_model.specs.Bounded.{Lacks}

-- the numbers of the label, and the numerator (in absolute value) and denominator of the coefficient, are below 10^64, so that the term can be read
-- back
pub record IsReadable (t : List ℕ × Fraction) : Type 0 where
  pub numbers : AreShort t.0
  pub fraction : IsShortFraction (without_sign t.1)

-- ---- the texts of atoms, such as s[2,1]

atom-lacks : (byte : ℕ) (basis : Basis) (numbers : List ℕ) → byte < 44 → AreShort numbers → Lacks byte (atom_text basis numbers)
atom-lacks byte basis numbers low h = by basis
  where
    rest : Lacks byte (91 ∷ (numbers_text numbers ++ (93 ∷ [])))
    rest = ((λ e. omega arith), lacks-append byte (numbers_text numbers) _ (numbers_text-lacks byte numbers (omega arith) (λ e. omega arith) h) ((λ e. omega arith), tt))

    by : (basis : Basis) → Lacks byte (atom_text basis numbers)
    by monomials = ((λ e. omega arith), rest)
    by elementaries = ((λ e. omega arith), rest)
    by completes = ((λ e. omega arith), rest)
    by power_sums = ((λ e. omega arith), rest)
    by schurs = ((λ e. omega arith), rest)

atom-lacks_minus : (basis : Basis) (numbers : List ℕ) → AreShort numbers → Lacks 45 (atom_text basis numbers)
atom-lacks_minus basis numbers h = by basis
  where
    rest : Lacks 45 (91 ∷ (numbers_text numbers ++ (93 ∷ [])))
    rest = ((λ e. omega arith), lacks-append 45 (numbers_text numbers) _ (numbers_text-lacks 45 numbers (omega arith) (λ e. omega arith) h) ((λ e. omega arith), tt))

    by : (basis : Basis) → Lacks 45 (atom_text basis numbers)
    by monomials = ((λ e. omega arith), rest)
    by elementaries = ((λ e. omega arith), rest)
    by completes = ((λ e. omega arith), rest)
    by power_sums = ((λ e. omega arith), rest)
    by schurs = ((λ e. omega arith), rest)

numbers_in-atom : (basis : Basis) (numbers : List ℕ) → AreShort numbers → numbers_in_atom (atom_text basis numbers) ≡ numbers
numbers_in-atom basis numbers h = search (rules, without_last-push, numbers_of-text)

unsigned-lacks : (byte : ℕ) (c : Fraction) → byte < 47 → IsShortFraction (without_sign c) → Lacks byte (fraction_text (without_sign c))
unsigned-lacks byte c low h = by (eqb c.1 1)
  where
    by : (b : Bool) → Lacks byte (cond b (decimal (nat_abs c.0)) (decimal (nat_abs c.0) ++ (47 ∷ decimal c.1)))
    by true = decimal-lacks byte (nat_abs c.0) (omega arith) h.num
    by false = lacks-append byte (decimal (nat_abs c.0)) _ (decimal-lacks byte (nat_abs c.0) (omega arith) h.num) ((λ e. omega arith), decimal-lacks byte c.1 (omega arith) h.den)

unit-is : (c : Fraction) → is_unit c ≡ true → without_sign c ≡ (pos 1, 1)
unit-is c h = search rules

module _ (basis : Basis) (t : List ℕ × Fraction) (h : IsReadable t) where
  pub unsigned_text-lacks_signs : LacksSigns (unsigned_text basis t)
  unsigned_text-lacks_signs = by (is_unit t.1)
    where
      lacks : (byte : ℕ) → byte < 47 → (42 ≡ byte → ⊥) → Lacks byte (atom_text basis t.0) → (b : Bool) → Lacks byte (cond b [] (fraction_text (without_sign t.1) ++ (42 ∷ [])) ++ atom_text basis t.0)
      lacks byte low star atom true = atom
      lacks byte low star atom false =
          lacks-append byte _ _ (lacks-append byte (fraction_text (without_sign t.1)) _ (unsigned-lacks byte t.1 low h.fraction) (star, tt)) atom

      by : (b : Bool) → LacksSigns (cond b [] (fraction_text (without_sign t.1) ++ (42 ∷ [])) ++ atom_text basis t.0)
      by b = record {
        plus = lacks 43 (omega arith) (λ e. omega arith) (atom-lacks 43 basis t.0 (omega arith) h.numbers) b;
        minus = lacks 45 (omega arith) (λ e. omega arith) (atom-lacks_minus basis t.0 h.numbers) b;
      }

  pub unsigned_text-long : 3 ≤ length (unsigned_text basis t)
  unsigned_text-long = grind (arith, common_steps)

  pub unsigned_term-text : unsigned_term (unsigned_text basis t) ≡ (t.0, without_sign t.1)
  unsigned_term-text = by (is_unit t.1) refl
    where
      atom_is : numbers_in_atom (atom_text basis t.0) ≡ t.0
      atom_is = numbers_in-atom basis t.0 h.numbers

      by : (b : Bool) → is_unit t.1 ≡ b → unsigned_term (cond b [] (fraction_text (without_sign t.1) ++ (42 ∷ [])) ++ atom_text basis t.0) ≡ (t.0, without_sign t.1)
      by true e =
          ap term_of_cut (cut_at-whole 42 (atom_text basis t.0) (atom-lacks 42 basis t.0 (omega arith) h.numbers))
          ∙ (ap (λ ns. (ns, (pos 1, 1))) atom_is ∙ ap (λ c. (t.0, c)) (sym (unit-is t.1 e)))
      by false e =
          ap unsigned_term (append_assoc (fraction_text (without_sign t.1)) (42 ∷ []) (atom_text basis t.0))
          ∙ (ap term_of_cut (cut_at-front 42 (fraction_text (without_sign t.1)) (atom_text basis t.0) (unsigned-lacks 42 t.1 (omega arith) h.fraction))
          ∙ (ap (λ ns. (ns, fraction_of (fraction_text (without_sign t.1)))) atom_is
          ∙ ap (λ c. (t.0, c)) (fraction_of-text (without_sign t.1) h.fraction)))
