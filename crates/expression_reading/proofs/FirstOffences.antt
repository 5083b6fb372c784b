-- The first error at a list of marks (a mark is a number, a denominator or a parenthesis, with the byte at which it begins); and numbers that are
-- capped at 2^127.
use Rattle.std.proofs.Common.{◌≡◌, ℕ, ◌+◌, ◌*◌, ◌^◌, ◌<◌, ◌≤◌, ◌==◌, nat_le, nat_lt, Bool, true, false, ◌&&◌, ◌||◌, cond, List, [], ◌∷◌, ◌++◌, refl, sym, ap, ◌∙◌, arith, Option, Some, None, option_map, flat_map}
use Rattle.std.proofs.Math.Bool.{or_assoc}
use Rattle.std.proofs.lemmas.Bool.Decides.{nat_tests}
use Rattle.sym_model.specs.ExpressionOffence.{OffenceKind, literal, range, shape, Mark, value, denominator, entry, opening, is_wide, rises, is_offence, WordOffence, offences_at, rank, comes_first, earlier, first_of}
use Rattle.sym_model.proofs.Numbers.{nat_le-trans, not_le-trans}
use Rattle.expression_reading.specs.Offences.{first_kind}
use Rattle.expression_reading.specs.ScanSteps.{capped, is_high, any_high, first_at}
use Rattle.std.proofs.lemmas.Grind.{flat_map-append}

-- 3 times the byte of an error plus the rank of its kind; of two errors, the one that comes first has the smaller key
abbrev key : WordOffence → ℕ
key o = 3 * o.0 + rank o.1

rank-small : (k : OffenceKind) → rank k < 3
rank-small literal = omega arith
rank-small range = omega arith
rank-small shape = omega arith

comes_first-key : (o p : WordOffence) → comes_first o p ≡ nat_le (key o) (key p)
comes_first-key o p = by (rank o.1) (rank p.1) (rank-small o.1) (rank-small p.1)
  where
    by : (r s : ℕ) → r < 3 → s < 3 → (nat_lt o.0 p.0 || ((o.0 == p.0) && nat_le r s)) ≡ nat_le (3 * o.0 + r) (3 * p.0 + s)
    by r s h k = grind (arith, nat_tests)

comes_first-all : (o p q : WordOffence) → comes_first o p ≡ true → comes_first p q ≡ true → comes_first o q ≡ true
comes_first-all o p q h k =
    comes_first-key o q ∙ nat_le-trans (key o) (key p) (key q) (sym (comes_first-key o p) ∙ h) (sym (comes_first-key p q) ∙ k)

not_first-all : (o p q : WordOffence) → comes_first o p ≡ false → comes_first p q ≡ false → comes_first o q ≡ false
not_first-all o p q h k =
    comes_first-key o q ∙ not_le-trans (key o) (key p) (key q) (sym (comes_first-key o p) ∙ h) (sym (comes_first-key p q) ∙ k)

first_of_three : (o p q : WordOffence) (a b : Bool) → comes_first o p ≡ a → comes_first p q ≡ b
    → earlier (earlier (Some o) (Some p)) (Some q) ≡ earlier (Some o) (earlier (Some p) (Some q))
first_of_three o p q true true h k =
    ap (λ x. earlier (cond x (Some o) (Some p)) (Some q)) h
    ∙ ap (λ x. cond x (Some o) (Some q)) (comes_first-all o p q h k)
    ∙ sym (ap (λ x. earlier (Some o) (cond x (Some p) (Some q))) k ∙ ap (λ x. cond x (Some o) (Some p)) h)
first_of_three o p q true false h k =
    ap (λ x. earlier (cond x (Some o) (Some p)) (Some q)) h
    ∙ sym (ap (λ x. earlier (Some o) (cond x (Some p) (Some q))) k)
first_of_three o p q false true h k =
    ap (λ x. earlier (cond x (Some o) (Some p)) (Some q)) h ∙ ap (λ x. cond x (Some p) (Some q)) k
    ∙ sym (ap (λ x. earlier (Some o) (cond x (Some p) (Some q))) k ∙ ap (λ x. cond x (Some o) (Some p)) h)
first_of_three o p q false false h k =
    ap (λ x. earlier (cond x (Some o) (Some p)) (Some q)) h ∙ ap (λ x. cond x (Some p) (Some q)) k
    ∙ sym (ap (λ x. earlier (Some o) (cond x (Some p) (Some q))) k
    ∙ ap (λ x. cond x (Some o) (Some q)) (not_first-all o p q h k))

first_of_two : (o p : WordOffence) (x : Bool) → earlier (cond x (Some o) (Some p)) None ≡ cond x (Some o) (Some p)
first_of_two o p true = refl
first_of_two o p false = refl

pub earlier-assoc : (a b c : Option WordOffence) → earlier (earlier a b) c ≡ earlier a (earlier b c)
earlier-assoc None b c = refl
earlier-assoc (Some o) None c = refl
earlier-assoc (Some o) (Some p) None = first_of_two o p (comes_first o p)
earlier-assoc (Some o) (Some p) (Some q) = first_of_three o p q (comes_first o p) (comes_first p q) refl refl

pub first_of-append : (os ps : List WordOffence) → first_of (os ++ ps) ≡ earlier (first_of os) (first_of ps)
first_of-append [] ps = refl
first_of-append (o ∷ os) ps =
    ap (earlier (Some o)) (first_of-append os ps) ∙ sym (earlier-assoc (Some o) (first_of os) (first_of ps))

pub first-append : (ms ns : List (ℕ × Mark)) → first_of (flat_map offences_at (ms ++ ns)) ≡ earlier (first_of (flat_map offences_at ms)) (first_of (flat_map offences_at ns))
first-append ms ns = ap first_of (flat_map-append offences_at ms ns) ∙ first_of-append (flat_map offences_at ms) (flat_map offences_at ns)

same_byte : (b : ℕ) (k l : OffenceKind) → rank k ≤ rank l → comes_first (b, k) (b, l) ≡ true
same_byte b k l h = grind (arith, nat_tests)

first_at_mark : (b : ℕ) (l r s : Bool)
    → first_of ((cond l ((b, literal) ∷ []) [] ++ (cond r ((b, range) ∷ []) [] ++ cond s ((b, shape) ∷ []) [])) ++ [])
    ≡ option_map (λ kind. (b, kind)) (cond l (Some literal) (cond r (Some range) (cond s (Some shape) None)))
first_at_mark b false false false = refl
first_at_mark b false false true = refl
first_at_mark b false true false = refl
first_at_mark b false true true = ap (λ x. cond x (Some (b, range)) (Some (b, shape))) (same_byte b range shape (omega arith))
first_at_mark b true false false = refl
first_at_mark b true false true = ap (λ x. cond x (Some (b, literal)) (Some (b, shape))) (same_byte b literal shape (omega arith))
first_at_mark b true true false = ap (λ x. cond x (Some (b, literal)) (Some (b, range))) (same_byte b literal range (omega arith))
first_at_mark b true true true =
    ap (λ x. earlier (Some (b, literal)) (cond x (Some (b, range)) (Some (b, shape)))) (same_byte b range shape (omega arith))
    ∙ ap (λ x. cond x (Some (b, literal)) (Some (b, range))) (same_byte b literal range (omega arith))

pub first-one : (m : ℕ × Mark) → first_of (flat_map offences_at (m ∷ [])) ≡ first_at m
first-one m = first_at_mark m.0 (is_offence m.1 literal) (is_offence m.1 range) (is_offence m.1 shape)

-- the mark with its numbers capped at 2^127; the depth of an open parenthesis is not changed
abbrev pub capped_mark : Mark → Mark
capped_mark (value n) = value (capped n)
capped_mark (denominator n) = denominator (capped n)
capped_mark (entry count before n) = entry count (option_map capped before) (capped n)
capped_mark (opening depth) = opening depth

wide-capped : (n : ℕ) → is_wide (capped n) ≡ is_wide n
wide-capped n = grind (arith, nat_tests)

zero-capped : (n : ℕ) → (capped n == 0) ≡ (n == 0)
zero-capped n = grind (arith, nat_tests)

pub small : (n : ℕ) → is_wide n ≡ false → n < 2 ^ 127
small n h = grind (arith, nat_tests)

below-capped : (p n : ℕ) → n < 2 ^ 127 → nat_lt (capped p) (capped n) ≡ nat_lt p n
below-capped p n h = grind (arith, nat_tests)

rises-capped : (before : Option ℕ) (n : ℕ) → is_wide n ≡ false → rises (option_map capped before) (capped n) ≡ rises before n
rises-capped None n h = refl
rises-capped (Some p) n h = below-capped p n (small n h)

kind-entry : (count : ℕ) (before : Option ℕ) (n : ℕ) (w : Bool) → is_wide n ≡ w
    → first_kind (entry count (option_map capped before) (capped n)) ≡ first_kind (entry count before n)
kind-entry count before n true h =
    ap (λ x. cond x (Some literal) (cond (count == 64) (Some range) (cond (rises (option_map capped before) (capped n)) (Some shape) None))) (wide-capped n ∙ h)
    ∙ sym (ap (λ x. cond x (Some literal) (cond (count == 64) (Some range) (cond (rises before n) (Some shape) None))) h)
kind-entry count before n false h =
    ap (λ x. cond x (Some literal) (cond (count == 64) (Some range) (cond (rises (option_map capped before) (capped n)) (Some shape) None))) (wide-capped n)
    ∙ ap (λ x. cond (is_wide n) (Some literal) (cond (count == 64) (Some range) (cond x (Some shape) None))) (rises-capped before n h)

pub kind-capped : (m : Mark) → first_kind (capped_mark m) ≡ first_kind m
kind-capped (value n) = ap (λ x. cond x (Some literal) None) (wide-capped n)
kind-capped (denominator n) =
    ap (λ x. cond x (Some literal) (cond (capped n == 0) (Some shape) None)) (wide-capped n)
    ∙ ap (λ x. cond (is_wide n) (Some literal) (cond x (Some shape) None)) (zero-capped n)
kind-capped (entry count before n) = kind-entry count before n (is_wide n) refl
kind-capped (opening depth) = refl

above-capped : (n : ℕ) → nat_lt 20 (capped n) ≡ nat_lt 20 n
above-capped n = grind (arith, nat_tests)

pub high-capped : (m : Mark) → is_high (capped_mark m) ≡ is_high m
high-capped (value n) = refl
high-capped (denominator n) = refl
high-capped (entry count before n) = above-capped n
high-capped (opening depth) = refl

pub any_high-append : (ms ns : List (ℕ × Mark)) → any_high (ms ++ ns) ≡ (any_high ms || any_high ns)
any_high-append [] ns = refl
any_high-append (m ∷ ms) ns =
    ap (λ x. is_high m.1 || x) (any_high-append ms ns) ∙ sym (or_assoc (is_high m.1) (any_high ms) (any_high ns))

-- appending a digit d to n and capping the result at 2^127 gives the same if n has been capped before
pub capped-next : (n d : ℕ) → capped (10 * capped n + d) ≡ capped (10 * n + d)
capped-next n d = omega arith
