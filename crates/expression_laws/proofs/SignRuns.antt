-- The inner expression of a plethysm may have neither minus signs nor fractions; each of them is an error, listed by `sign_offences` from the syntax
-- tree (phrase). The function `first_sign` finds the first of these errors byte by byte from the left.
use Rattle.std.proofs.Common.{◌≡◌, ℕ, suc, ◌+◌, ◌<◌, ◌≤◌, ◌==◌, nat_le, Bool, true, false, ◌&&◌, ◌||◌, cond, List, [], ◌∷◌, ◌++◌, length, length-append, append_assoc, append-nil, refl, sym, ap, ◌∙◌, arith, Option, Some, None}
use Rattle.std.specs.Prelude.{codes}
use Rattle.std.proofs.lemmas.Bool.{le-leb, lt-ltb, and_from}
use Rattle.std.proofs.lemmas.Bool.Decides.{nat_tests}
use Rattle.sym_model.specs.Expansion.{Basis, monomials, elementaries, completes, power_sums, schurs}
use Rattle.sym_model.specs.NumberWord.{IsDigit, AreDigits, AreNumberWords, comma_separated}
use Rattle.sym_model.specs.Form.{is_digit}
use Rattle.sym_model.specs.Phrase.{Operator, plus, minus, times, Phrase, numeral, ratio, label, brackets, minus_first, operation, Level, expression, level_of, level_after, Is, sign, spelling, SpellsPhrase}
use Rattle.sym_model.specs.ExpressionOffence.{WordOffence, shape, rank, comes_first, earlier, first_of, minus_offences, sign_offences}
use Rattle.expression_laws.specs.Signs.{first_sign}

-- the first of two optional errors if it is present, otherwise the second
abbrev or_else : Option WordOffence → Option WordOffence → Option WordOffence
or_else None found = found
or_else (Some o) found = Some o

or_else-assoc : (a b c : Option WordOffence) → or_else (or_else a b) c ≡ or_else a (or_else b c)
or_else-assoc None b c = refl
or_else-assoc (Some o) b c = refl

or_else-none : (a : Option WordOffence) → or_else a None ≡ a
or_else-none None = refl
or_else-none (Some o) = refl

-- each error of the list is at a byte that is at least `low` and less than `high`
abbrev AreBetween : ℕ → ℕ → List WordOffence → Type 0
AreBetween low high [] = Unit {0}
AreBetween low high (o ∷ os) = ((low ≤ o.0) × (o.0 < high)) × AreBetween low high os

abbrev IsBetween : ℕ → ℕ → Option WordOffence → Type 0
IsBetween low high None = Unit {0}
IsBetween low high (Some o) = (low ≤ o.0) × (o.0 < high)

wider : (low high l h : ℕ) (os : List WordOffence) → l ≤ low → high ≤ h → AreBetween low high os → AreBetween l h os
wider low high l h [] p q b = tt
wider low high l h (o ∷ os) p q b = ((omega (arith, p, b.0.0), omega (arith, q, b.0.1)), wider low high l h os p q b.1)

both-between : (low high : ℕ) (os ps : List WordOffence) → AreBetween low high os → AreBetween low high ps → AreBetween low high (os ++ ps)
both-between low high [] ps a b = b
both-between low high (o ∷ os) ps a b = (a.0, both-between low high os ps a.1 b)

first-between : (low high : ℕ) (os : List WordOffence) → AreBetween low high os → IsBetween low high (first_of os)
first-between low high [] b = tt
first-between low high (o ∷ os) b = by (first_of os) (first-between low high os b.1)
  where
    chosen : (p : WordOffence) (c : Bool) → IsBetween low high (Some p) → IsBetween low high (cond c (Some o) (Some p))
    chosen p true h = b.0
    chosen p false h = h

    by : (rest : Option WordOffence) → IsBetween low high rest → IsBetween low high (earlier (Some o) rest)
    by None h = b.0
    by (Some p) h = chosen p (comes_first o p) h

less-first : (o p : WordOffence) → o.0 < p.0 → comes_first o p ≡ true
less-first o p h = ap (λ b. b || ((o.0 == p.0) && nat_le (rank o.1) (rank p.1))) (lt-ltb o.0 p.0 h)

one_more : (m h : ℕ) (o : WordOffence) (a b : Option WordOffence) → o.0 < m → IsBetween m h b → earlier (Some o) (or_else a b) ≡ or_else (earlier (Some o) a) b
one_more m h o None None l k = refl
one_more m h o None (Some p) l k = ap (λ c. cond c (Some o) (Some p)) (less-first o p (omega (arith, l, k.0)))
one_more m h o (Some p) b l k = by (comes_first o p)
  where
    by : (c : Bool) → cond c (Some o) (Some p) ≡ or_else (cond c (Some o) (Some p)) b
    by true = refl
    by false = refl

first-apart : (low m high : ℕ) (os ps : List WordOffence) → AreBetween low m os → AreBetween m high ps → first_of (os ++ ps) ≡ or_else (first_of os) (first_of ps)
first-apart low m high [] ps a b = refl
first-apart low m high (o ∷ os) ps a b =
    ap (earlier (Some o)) (first-apart low m high os ps a.1 b)
    ∙ one_more m high o (first_of os) (first_of ps) a.0.1 (first-between m high ps b)

pub joined-length : (operator : Operator) (l r : Phrase) → length (spelling (operation operator l r)) ≡ length (spelling l) + 1 + length (spelling r)
joined-length plus l r = simp length-append (omega arith)
joined-length minus l r = simp length-append (omega arith)
joined-length times l r = simp length-append (omega arith)

minus-between : (m : ℕ) (operator : Operator) → AreBetween m (m + 1) (minus_offences m operator)
minus-between m plus = tt
minus-between m minus = ((omega arith, omega arith), tt)
minus-between m times = tt

signs-between : (b : ℕ) (e : Phrase) → AreBetween b (b + length (spelling e)) (sign_offences b e)
signs-between b (numeral digits) = tt
signs-between b (ratio num den) = ((omega arith, simp length-append (omega arith)), tt)
signs-between b (label basis words) = tt
signs-between b (brackets e) =
    wider (b + 1) (b + 1 + length (spelling e)) b (b + length (spelling (brackets e))) (sign_offences (b + 1) e) (omega arith)
    (simp length-append (omega arith)) (signs-between (b + 1) e)
signs-between b (minus_first e) = (
  (omega arith, omega arith),
  wider (b + 1) (b + 1 + length (spelling e)) b (b + length (spelling (minus_first e))) (sign_offences (b + 1) e) (omega arith) (omega arith)
      (signs-between (b + 1) e),
)
signs-between b (operation operator l r) =
    let m = b + length (spelling l) in
    let whole = joined-length operator l r in
    let high = b + length (spelling (operation operator l r)) in
    both-between b high (sign_offences b l ++ minus_offences m operator) (sign_offences (m + 1) r)
    (both-between b high (sign_offences b l) (minus_offences m operator)
    (wider b m b high (sign_offences b l) (omega arith) (omega (arith, whole)) (signs-between b l))
    (wider m (m + 1) b high (minus_offences m operator) (omega arith) (omega (arith, whole)) (minus-between m operator)))
    (wider (m + 1) (m + 1 + length (spelling r)) b high (sign_offences (m + 1) r) (omega arith) (omega (arith, whole)) (signs-between (m + 1) r))

-- the first minus or fraction in an operation is the first one in its left operand, otherwise its operator if that is a minus, otherwise the first
-- one in its right operand
first-joined : (b : ℕ) (operator : Operator) (l r : Phrase)
    → first_of (sign_offences b (operation operator l r))
    ≡ or_else (first_of (sign_offences b l))
    (or_else (first_of (minus_offences (b + length (spelling l)) operator)) (first_of (sign_offences (b + length (spelling l) + 1) r)))
first-joined b operator l r =
    let m = b + length (spelling l) in
    let left = signs-between b l in
    let middle = minus-between m operator in
    first-apart b (m + 1) (m + 1 + length (spelling r)) (sign_offences b l ++ minus_offences m operator) (sign_offences (m + 1) r)
    (both-between b (m + 1) (sign_offences b l) (minus_offences m operator)
    (wider b m b (m + 1) (sign_offences b l) (omega arith) (omega arith) left)
    (wider m (m + 1) b (m + 1) (minus_offences m operator) (omega arith) (omega arith) middle))
    (signs-between (m + 1) r)
    ∙ ap (λ o. or_else o (first_of (sign_offences (m + 1) r)))
    (first-apart b m (m + 1) (sign_offences b l) (minus_offences m operator) left middle)
    ∙ or_else-assoc (first_of (sign_offences b l)) (first_of (minus_offences m operator)) (first_of (sign_offences (m + 1) r))

first-minus : (b : ℕ) (e : Phrase) → first_of (sign_offences b (minus_first e)) ≡ Some (b, shape)
first-minus b e =
    first-apart b (b + 1) (b + 1 + length (spelling e)) ((b, shape) ∷ []) (sign_offences (b + 1) e) ((omega arith, omega arith), tt)
    (signs-between (b + 1) e)

digit-test : (d : ℕ) → IsDigit d → is_digit d ≡ true
digit-test d h = and_from (nat_le 48 d) (nat_le d 57) (le-leb 48 d h.0) (le-leb d 57 h.1)

digit-step : (at s d : ℕ) (rest : List ℕ) → IsDigit d → first_sign at s (d ∷ rest) ≡ first_sign (at + 1) s rest
digit-step at s d rest h =
    ap
    (λ t.
    cond t (first_sign (at + 1) s rest)
    (cond (d == 45) (Some (at, shape)) (cond (d == 47) (Some (s, shape)) (first_sign (at + 1) (at + 1) rest))))
    (digit-test d h)

digits : (at s : ℕ) (ds rest : List ℕ) → AreDigits ds → first_sign at s (ds ++ rest) ≡ first_sign (at + length ds) s rest
digits at s [] rest h = ap (λ n. first_sign n s rest) (let e : at ≡ at + 0 = omega arith in e)
digits at s (d ∷ ds) rest h =
    digit-step at s d (ds ++ rest) h.0 ∙ digits (at + 1) s ds rest h.1
    ∙ ap (λ n. first_sign n s rest) (let e : at + 1 + length ds ≡ at + length (d ∷ ds) = omega arith in e)

-- the text is empty or begins with a byte that is neither a digit nor a slash (the byte 47); this is true of each text that follows a phrase
abbrev Ends : List ℕ → Type 0
Ends [] = Unit {0}
Ends (byte ∷ bytes) = (is_digit byte ≡ false) × ((byte == 47) ≡ false)

any_start : (at s t : ℕ) (rest : List ℕ) → Ends rest → first_sign at s rest ≡ first_sign at t rest
any_start at s t [] h = refl
any_start at s t (byte ∷ bytes) h = same (is_digit byte) (byte == 47) h.0 h.1
  where
    same : (d k : Bool) → d ≡ false → k ≡ false
        → cond d (first_sign (at + 1) s bytes) (cond (byte == 45) (Some (at, shape)) (cond k (Some (s, shape)) (first_sign (at + 1) (at + 1) bytes)))
        ≡ cond d (first_sign (at + 1) t bytes) (cond (byte == 45) (Some (at, shape)) (cond k (Some (t, shape)) (first_sign (at + 1) (at + 1) bytes)))
    same true k h e = cc
    same false true h e = cc
    same false false h e = refl

-- no byte of the text is `-` (the byte 45) or `/` (the byte 47)
abbrev AreQuiet : List ℕ → Type 0
AreQuiet [] = Unit {0}
AreQuiet (byte ∷ bytes) = (((byte == 45) ≡ false) × ((byte == 47) ≡ false)) × AreQuiet bytes

quiet-append : (xs ys : List ℕ) → AreQuiet xs → AreQuiet ys → AreQuiet (xs ++ ys)
quiet-append [] ys h k = k
quiet-append (x ∷ xs) ys h k = (h.0, quiet-append xs ys h.1 k)

no_sign : (d : ℕ) → IsDigit d → ((d == 45) ≡ false) × ((d == 47) ≡ false)
no_sign d h = (minus_not d h, slash_not d h)
  where
    minus_not : (d : ℕ) → IsDigit d → (d == 45) ≡ false
    minus_not d h = let l = h.0 in grind (arith, nat_tests)

    slash_not : (d : ℕ) → IsDigit d → (d == 47) ≡ false
    slash_not d h = let l = h.0 in grind (arith, nat_tests)

quiet-digits : (ds : List ℕ) → AreDigits ds → AreQuiet ds
quiet-digits [] h = tt
quiet-digits (d ∷ ds) h = (no_sign d h.0, quiet-digits ds h.1)

quiet-numbers : (ws : List (List ℕ)) → AreNumberWords ws → AreQuiet (comma_separated ws)
quiet-numbers [] h = tt
quiet-numbers (w ∷ []) h = quiet-digits w h.0.digits
quiet-numbers (w ∷ v ∷ ws) h =
    quiet-append w (codes "," ++ comma_separated (v ∷ ws)) (quiet-digits w h.0.digits) ((refl, refl), quiet-numbers (v ∷ ws) h.1)

quiet-run : (xs : List ℕ) (at s : ℕ) (rest : List ℕ) → AreQuiet xs
    → first_sign at s (xs ++ (codes "]" ++ rest)) ≡ first_sign (at + length xs + 1) (at + length xs + 1) rest
quiet-run [] at s rest h = ap (λ n. first_sign n n rest) (let e : at + 1 ≡ at + 0 + 1 = omega arith in e)
quiet-run (x ∷ xs) at s rest h =
    by (is_digit x) (x == 45) (x == 47) h.0.0 h.0.1 (λ t. quiet-run xs (at + 1) t rest h.1)
    ∙ ap (λ n. first_sign n n rest) (let e : at + 1 + length xs + 1 ≡ at + length (x ∷ xs) + 1 = omega arith in e)
  where
    by : (d m k : Bool) → m ≡ false → k ≡ false
        → ((t : ℕ) → first_sign (at + 1) t (xs ++ (codes "]" ++ rest)) ≡ first_sign (at + 1 + length xs + 1) (at + 1 + length xs + 1) rest)
        → cond d (first_sign (at + 1) s (xs ++ (codes "]" ++ rest)))
        (cond m (Some (at, shape)) (cond k (Some (s, shape)) (first_sign (at + 1) (at + 1) (xs ++ (codes "]" ++ rest)))))
        ≡ first_sign (at + 1 + length xs + 1) (at + 1 + length xs + 1) rest
    by true m k h e r = r s
    by false true k h e r = cc
    by false false true h e r = cc
    by false false false h e r = r (at + 1)

-- the error at the first minus or fraction in the phrase e, which begins at the byte b; if e has neither, the error at the first one in the text
-- `rest` after e
abbrev signed : ℕ → Phrase → List ℕ → Option WordOffence
signed b e rest = or_else (first_of (sign_offences b e)) (first_sign (b + length (spelling e)) (b + length (spelling e)) rest)

behind_letter : (b : ℕ) (ws : List (List ℕ)) (rest : List ℕ) → AreNumberWords ws
    → first_sign (b + 1 + 1) (b + 1 + 1) ((comma_separated ws ++ codes "]") ++ rest)
    ≡ first_sign (b + suc (suc (length (comma_separated ws ++ codes "]")))) (b + suc (suc (length (comma_separated ws ++ codes "]")))) rest
behind_letter b ws rest h =
    ap (first_sign (b + 1 + 1) (b + 1 + 1)) (append_assoc (comma_separated ws) (codes "]") rest)
    ∙ quiet-run (comma_separated ws) (b + 1 + 1) (b + 1 + 1) rest (quiet-numbers ws h)
    ∙ ap (λ n. first_sign n n rest)
    (let l = length-append (comma_separated ws) (codes "]") in
    let e : b + 1 + 1 + length (comma_separated ws) + 1 ≡ b + suc (suc (length (comma_separated ws ++ codes "]"))) = omega (arith, l) in e)

label-run : (b : ℕ) (basis : Basis) (ws : List (List ℕ)) (rest : List ℕ) → AreNumberWords ws
    → first_sign b b (spelling (label basis ws) ++ rest) ≡ signed b (label basis ws) rest
label-run b monomials ws rest h = behind_letter b ws rest h
label-run b elementaries ws rest h = behind_letter b ws rest h
label-run b completes ws rest h = behind_letter b ws rest h
label-run b power_sums ws rest h = behind_letter b ws rest h
label-run b schurs ws rest h = behind_letter b ws rest h

sign-run : (m : ℕ) (operator : Operator) (rest : List ℕ)
    → first_sign m m (sign operator ++ rest) ≡ or_else (first_of (minus_offences m operator)) (first_sign (m + 1) (m + 1) rest)
sign-run m plus rest = refl
sign-run m minus rest = refl
sign-run m times rest = refl

sign-ends : (operator : Operator) (rest : List ℕ) → Ends (sign operator ++ rest)
sign-ends plus rest = (refl, refl)
sign-ends minus rest = (refl, refl)
sign-ends times rest = (refl, refl)

phrase-run : (level : Level) (b : ℕ) (e : Phrase) (rest : List ℕ) → Is level e → Ends rest → first_sign b b (spelling e ++ rest) ≡ signed b e rest
phrase-run level b (numeral ds) rest h k =
    digits b b ds rest h.digits ∙ any_start (b + length ds) b (b + length ds) rest k
phrase-run level b (ratio num den) rest h k =
    ap (first_sign b b) (append_assoc num (codes "/" ++ den) rest) ∙ digits b b num (codes "/" ++ (den ++ rest)) h.0.digits
phrase-run level b (label basis ws) rest h k = label-run b basis ws rest h
phrase-run level b (brackets e) rest h k =
    ap (first_sign (b + 1) (b + 1)) (append_assoc (spelling e) (codes ")") rest)
    ∙ phrase-run expression (b + 1) e (codes ")" ++ rest) h (refl, refl)
    ∙ ap (λ n. or_else (first_of (sign_offences (b + 1) e)) (first_sign n n rest))
    (let l = length-append (spelling e) (codes ")") in
    let q : b + 1 + length (spelling e) + 1 ≡ b + length (spelling (brackets e)) = omega (arith, l) in q)
phrase-run level b (minus_first e) rest h k =
    sym (ap (λ o. or_else o (first_sign (b + length (spelling (minus_first e))) (b + length (spelling (minus_first e))) rest)) (first-minus b e))
phrase-run level b (operation operator l r) rest h k =
    let m = b + length (spelling l) in
    let left = first_of (sign_offences b l) in
    let middle = first_of (minus_offences m operator) in
    let right = first_of (sign_offences (m + 1) r) in
    let whole = joined-length operator l r in
    ap (first_sign b b)
    (append_assoc (spelling l) (sign operator ++ spelling r) rest
    ∙ ap (λ x. spelling l ++ x) (append_assoc (sign operator) (spelling r) rest))
    ∙ phrase-run (level_of operator) b l (sign operator ++ (spelling r ++ rest)) h.1 (sign-ends operator (spelling r ++ rest))
    ∙ ap (or_else left)
    (sign-run m operator (spelling r ++ rest) ∙ ap (or_else middle) (phrase-run (level_after operator) (m + 1) r rest h.2 k))
    ∙ ap (λ n. or_else left (or_else middle (or_else right (first_sign n n rest))))
    (let q : m + 1 + length (spelling r) ≡ b + length (spelling (operation operator l r)) = omega (arith, whole) in q)
    ∙ regrouped left middle right (first_sign (b + length (spelling (operation operator l r))) (b + length (spelling (operation operator l r))) rest)
    ∙ sym (ap (λ o. or_else o (first_sign (b + length (spelling (operation operator l r))) (b + length (spelling (operation operator l r))) rest))
    (first-joined b operator l r))
  where
    regrouped : (x y z w : Option WordOffence) → or_else x (or_else y (or_else z w)) ≡ or_else (or_else x (or_else y z)) w
    regrouped x y z w = sym (or_else-assoc x (or_else y z) w ∙ ap (or_else x) (or_else-assoc y z w))

-- for a word that spells a phrase, `first_sign` finds the first of the `sign_offences` of the phrase
pub word-signs : (word : List ℕ) (phrase : Phrase) → SpellsPhrase word phrase → first_sign 0 0 word ≡ first_of (sign_offences 0 phrase)
word-signs word phrase h =
    ap (first_sign 0 0) (h.spelled ∙ sym (append-nil (spelling phrase))) ∙ phrase-run expression 0 phrase [] h.allowed tt
    ∙ or_else-none (first_of (sign_offences 0 phrase))

-- the first minus or fraction in a phrase is at a byte below the length of its spelling
pub signs-below : (e : Phrase) (o : WordOffence) → first_of (sign_offences 0 e) ≡ Some o → o.0 < length (spelling e)
signs-below e o h = by (first_of (sign_offences 0 e)) h (first-between 0 (0 + length (spelling e)) (sign_offences 0 e) (signs-between 0 e))
  where
    by : (first : Option WordOffence) → first ≡ Some o → IsBetween 0 (0 + length (spelling e)) first → o.0 < length (spelling e)
    by None k b = cc
    by (Some p) k b =
        let same : p ≡ o = cc in let at = ap (λ (x : WordOffence). x.0) same in omega (arith, at, b.1)
