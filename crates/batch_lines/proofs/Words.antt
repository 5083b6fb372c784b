-- The text of a line that `work` generates, written word by word.
use Rattle.std.proofs.Common.{◌≡◌, ◌≤◌, ◌<◌, ℕ, zero, suc, ◌+◌, ◌-◌, min, max, List, [], ◌∷◌, ◌++◌, append_assoc, append-nil, map, length, refl, sym, ap, ◌∙◌, arith, flat_map}
use Rattle.std.specs.Prelude.{codes, decimal}
use Rattle.std.proofs.lemmas.Fmt.{length-decimal-le}
use Rattle.sym_model.specs.TableauText.{separated}
use Rattle.sym_model.specs.Permutation.{letters_by_code}
use Rattle.sym_model.specs.PlaceOrders.{places}
use Rattle.sym_model.specs.Workload.{draw, after_draws, drawn, partition_drawn, code_drawn, words_drawn, work_line}
use Rattle.batch_lines.specs.Parts.{behind_spaces, past}

pub one_digit : (n : ℕ) → n < 10 → length (decimal n) ≤ 1
one_digit n h = length-decimal-le 1 n (omega arith) h (omega (arith, h))

-- ---- words separated by spaces: the first word, followed by the others, each after a space

abbrev pub word : ℕ → List ℕ
word n = codes " " ++ decimal n

spaced : (first : List ℕ) (words : List (List ℕ)) → separated (codes " ") (first ∷ words) ≡ first ++ flat_map (λ w. codes " " ++ w) words
spaced first [] = sym (append-nil first)
spaced first (w ∷ words) =
    ap (λ t. first ++ (codes " " ++ t)) (spaced w words)
    ∙ ap (λ t. first ++ t) (sym (append_assoc (codes " ") w (flat_map (λ v. codes " " ++ v) words)))

each_numbers : (numbers : List ℕ) (more : List (List ℕ)) → flat_map (λ w. codes " " ++ w) (map decimal numbers ++ more)
    ≡ behind_spaces numbers ++ flat_map (λ w. codes " " ++ w) more
each_numbers [] more = refl
each_numbers (n ∷ numbers) more =
    ap (λ t. (codes " " ++ decimal n) ++ t) (each_numbers numbers more)
    ∙ sym (append_assoc (codes " " ++ decimal n) (behind_spaces numbers) (flat_map (λ w. codes " " ++ w) more))

-- the text of a name, some numbers, a sign and further numbers, separated by spaces, is the name, followed by the numbers, the sign and the further
-- numbers, each after a space
pub between_text : (name sign : List ℕ) (first second : List ℕ)
    → separated (codes " ") (name ∷ (map decimal first ++ (sign ∷ map decimal second)))
    ≡ name ++ (behind_spaces first ++ ((codes " " ++ sign) ++ behind_spaces second))
between_text name sign first second =
    spaced name (map decimal first ++ (sign ∷ map decimal second))
    ∙ ap (λ t. name ++ t) (each_numbers first (sign ∷ map decimal second))
    ∙ ap (λ t. name ++ (behind_spaces first ++ ((codes " " ++ sign) ++ t))) (last second)
  where
    last : (numbers : List ℕ) → flat_map (λ w. codes " " ++ w) (map decimal numbers) ≡ behind_spaces numbers
    last [] = refl
    last (n ∷ numbers) = ap (λ t. (codes " " ++ decimal n) ++ t) (last numbers)

-- ---- the four letters of a permutation, computed from its code

abbrev R : ℕ → ℕ → ℕ → ℕ
R a c q = past (past (c + 1) (min (a + 1) q)) (max (a + 1) q)

abbrev four_letters : ℕ → ℕ → ℕ → List ℕ
four_letters p q r = p ∷ q ∷ r ∷ (10 - p - q - r) ∷ []

letters_are : (a b c : ℕ) → a < 4 → b < 3 → c < 2
    → four_letters (a + 1) (past (b + 1) (a + 1)) (R a c (past (b + 1) (a + 1))) ≡ letters_by_code (a ∷ b ∷ c ∷ 0 ∷ []) (places 4)
letters_are zero zero zero h k l = refl
letters_are zero zero (suc zero) h k l = refl
letters_are zero zero (suc (suc c)) h k l = absurd (omega (arith, l))
letters_are zero (suc zero) zero h k l = refl
letters_are zero (suc zero) (suc zero) h k l = refl
letters_are zero (suc zero) (suc (suc c)) h k l = absurd (omega (arith, l))
letters_are zero (suc (suc zero)) zero h k l = refl
letters_are zero (suc (suc zero)) (suc zero) h k l = refl
letters_are zero (suc (suc zero)) (suc (suc c)) h k l = absurd (omega (arith, l))
letters_are zero (suc (suc (suc b))) c h k l = absurd (omega (arith, k))
letters_are (suc zero) zero zero h k l = refl
letters_are (suc zero) zero (suc zero) h k l = refl
letters_are (suc zero) zero (suc (suc c)) h k l = absurd (omega (arith, l))
letters_are (suc zero) (suc zero) zero h k l = refl
letters_are (suc zero) (suc zero) (suc zero) h k l = refl
letters_are (suc zero) (suc zero) (suc (suc c)) h k l = absurd (omega (arith, l))
letters_are (suc zero) (suc (suc zero)) zero h k l = refl
letters_are (suc zero) (suc (suc zero)) (suc zero) h k l = refl
letters_are (suc zero) (suc (suc zero)) (suc (suc c)) h k l = absurd (omega (arith, l))
letters_are (suc zero) (suc (suc (suc b))) c h k l = absurd (omega (arith, k))
letters_are (suc (suc zero)) zero zero h k l = refl
letters_are (suc (suc zero)) zero (suc zero) h k l = refl
letters_are (suc (suc zero)) zero (suc (suc c)) h k l = absurd (omega (arith, l))
letters_are (suc (suc zero)) (suc zero) zero h k l = refl
letters_are (suc (suc zero)) (suc zero) (suc zero) h k l = refl
letters_are (suc (suc zero)) (suc zero) (suc (suc c)) h k l = absurd (omega (arith, l))
letters_are (suc (suc zero)) (suc (suc zero)) zero h k l = refl
letters_are (suc (suc zero)) (suc (suc zero)) (suc zero) h k l = refl
letters_are (suc (suc zero)) (suc (suc zero)) (suc (suc c)) h k l = absurd (omega (arith, l))
letters_are (suc (suc zero)) (suc (suc (suc b))) c h k l = absurd (omega (arith, k))
letters_are (suc (suc (suc zero))) zero zero h k l = refl
letters_are (suc (suc (suc zero))) zero (suc zero) h k l = refl
letters_are (suc (suc (suc zero))) zero (suc (suc c)) h k l = absurd (omega (arith, l))
letters_are (suc (suc (suc zero))) (suc zero) zero h k l = refl
letters_are (suc (suc (suc zero))) (suc zero) (suc zero) h k l = refl
letters_are (suc (suc (suc zero))) (suc zero) (suc (suc c)) h k l = absurd (omega (arith, l))
letters_are (suc (suc (suc zero))) (suc (suc zero)) zero h k l = refl
letters_are (suc (suc (suc zero))) (suc (suc zero)) (suc zero) h k l = refl
letters_are (suc (suc (suc zero))) (suc (suc zero)) (suc (suc c)) h k l = absurd (omega (arith, l))
letters_are (suc (suc (suc zero))) (suc (suc (suc b))) c h k l = absurd (omega (arith, k))
letters_are (suc (suc (suc (suc a)))) b c h k l = absurd (omega (arith, h))

pub letters_so : (a b c q m x n r : ℕ) → a < 4 → b < 3 → c < 2 → q ≡ past (b + 1) (a + 1) → m ≡ min (a + 1) q → x ≡ past (c + 1) m
    → n ≡ max (a + 1) q → r ≡ past x n → four_letters (a + 1) q r ≡ letters_by_code (a ∷ b ∷ c ∷ 0 ∷ []) (places 4)
letters_so a b c q m x n r h k l eq em ex en er =
    let third : r ≡ R a c q =
    er ∙ ap (λ y. past y n) (ex ∙ ap (past (c + 1)) em) ∙ ap (past (past (c + 1) (min (a + 1) q))) en in
    ap (four_letters (a + 1) q) third
    ∙ ap (λ y. four_letters (a + 1) y (R a c y)) eq
    ∙ letters_are a b c h k l

pub four_words : (old : List ℕ) (p q r s : ℕ)
    → (((old ++ word p) ++ word q) ++ word r) ++ word s ≡ old ++ behind_spaces (p ∷ q ∷ r ∷ s ∷ [])
four_words old p q r s =
    append_assoc ((old ++ word p) ++ word q) (word r) (word s)
    ∙ append_assoc (old ++ word p) (word q) (word r ++ word s)
    ∙ append_assoc old (word p) (word q ++ (word r ++ word s))
    ∙ ap (λ t. old ++ (word p ++ (word q ++ (word r ++ t)))) (sym (append-nil (word s)))

-- ---- the whole line that is drawn from a state of the generator

kind_is : (x k kind : ℕ) → k ≡ drawn 1 5 x → k ≡ kind → separated (codes " ") (words_drawn kind (draw x)) ≡ work_line x
kind_is x k kind d e = ap (λ j. separated (codes " ") (words_drawn j (draw x))) (sym e ∙ d)

pub mult_line : (x s k : ℕ) (out : List ℕ) → k ≡ drawn 1 5 x → k ≡ 0 → s ≡ draw x
    → out ≡ codes "mult" ++ (behind_spaces (partition_drawn 3 s) ++ (codes " -" ++ behind_spaces (partition_drawn 3 (after_draws 3 s))))
    → out ≡ work_line x
mult_line x s k out d e f text =
    text
    ∙ ap (λ y. codes "mult" ++ (behind_spaces (partition_drawn 3 y) ++ (codes " -" ++ behind_spaces (partition_drawn 3 (after_draws 3 y))))) f
    ∙ sym (between_text (codes "mult") (codes "-") (partition_drawn 3 (draw x)) (partition_drawn 3 (after_draws 3 (draw x))))
    ∙ kind_is x k 0 d e

pub skew_line : (x s k : ℕ) (out : List ℕ) → k ≡ drawn 1 5 x → k ≡ 1 → s ≡ draw x
    → out ≡ codes "skew" ++ (behind_spaces (partition_drawn 4 s) ++ (codes " /" ++ behind_spaces (partition_drawn 2 (after_draws 3 s))))
    → out ≡ work_line x
skew_line x s k out d e f text =
    text
    ∙ ap (λ y. codes "skew" ++ (behind_spaces (partition_drawn 4 y) ++ (codes " /" ++ behind_spaces (partition_drawn 2 (after_draws 3 y))))) f
    ∙ sym (between_text (codes "skew") (codes "/") (partition_drawn 4 (draw x)) (partition_drawn 2 (after_draws 3 (draw x))))
    ∙ kind_is x k 1 d e

abbrev letters_drawn : ℕ → List ℕ
letters_drawn x = letters_by_code (code_drawn x) (places 4)

pub schubmult_line : (x s t k : ℕ) (empty named first signed out : List ℕ) → k ≡ drawn 1 5 x → k ≡ 3 → s ≡ draw x → t ≡ after_draws 3 s
    → empty ≡ [] → named ≡ empty ++ codes "schubmult" → first ≡ named ++ behind_spaces (letters_drawn s) → signed ≡ first ++ codes " -"
    → out ≡ signed ++ behind_spaces (letters_drawn t) → out ≡ work_line x
schubmult_line x s t k empty named first signed out d e f g h0 h1 h2 h3 h4 =
    let words : List ℕ → List ℕ → List ℕ = λ u v. codes "schubmult" ++ (behind_spaces u ++ (codes " -" ++ behind_spaces v)) in
    let same : t ≡ after_draws 3 (draw x) = g ∙ ap (after_draws 3) f in
    h4
    ∙ ap (λ y. y ++ behind_spaces (letters_drawn t)) (h3 ∙ ap (λ y. y ++ codes " -") (h2 ∙ ap (λ y. y ++ behind_spaces (letters_drawn s)) (h1 ∙ ap (λ y. y ++ codes "schubmult") h0)))
    ∙ append_assoc (codes "schubmult" ++ behind_spaces (letters_drawn s)) (codes " -") (behind_spaces (letters_drawn t))
    ∙ append_assoc (codes "schubmult") (behind_spaces (letters_drawn s)) (codes " -" ++ behind_spaces (letters_drawn t))
    ∙ ap (λ y. words (letters_drawn y) (letters_drawn t)) f
    ∙ ap (λ y. words (letters_drawn (draw x)) (letters_drawn y)) same
    ∙ sym (between_text (codes "schubmult") (codes "-") (letters_drawn (draw x)) (letters_drawn (after_draws 3 (draw x))))
    ∙ kind_is x k 3 d e
