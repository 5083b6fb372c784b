-- Letters after which no column can be completed, and sums that stay weakly decreasing when a number is raised. Here a *sum* is a list of n numbers,
-- and a *state* is a sum followed by letters of the column. Adding the letter b ≥ 1 raises the number of the sum at the index b - 1 by 1. If the
-- remaining places of a column are filled in all ways, `extended` is the sum of f over the states that are reached and have a weakly decreasing sum.
-- A function f *vanishes outside* a bound, which is a list of numbers, if it is 0 at each sum in which some number is greater than the number of the
-- bound at the same index.
use Rattle.std.proofs.Common.{◌≡◌, ℕ, zero, suc, ◌+◌, ◌-◌, ◌<◌, ◌≤◌, ◌==◌, ◌⊎◌, inl, inr, nat_le, nat_lt, Bool, true, false, cond, ◌&&◌, ◌||◌, List, [], ◌∷◌, ◌++◌, length, take, drop, get_or, length-append, refl, sym, ap, ap₂, ◌∙◌, arith, rules}
use Rattle.std.proofs.lemmas.Bool.{ne_eqb, lt-leb, lt-ltb, le-ltb, cases_lt, and_parts, and_from, or_parts, or_cases, eqb-true, leb-false, ltb-true, ltb-false, eqb-false, and_cases}
use Rattle.sym_model.specs.GoodTableau.{is_falling}
use Rattle.tableau_laws.specs.Grid.{pass_by_place}
use Rattle.lr_product.specs.WeighedSum.{at_state, VanishesOutside}
use Rattle.lr_product.specs.Extension.{numbers_from, least_letter, letters_end, raised, mark, can_rise, extended}
use Rattle.lr_product.proofs.Raising.{length-raised}
use Rattle.lr_product.proofs.Ranges.{numbers-ext, range-front}
use Rattle.sym_model.specs.Sum.{sum_by}
use Rattle.sym_model.proofs.NumberSums.{sum_by-zero}
use Rattle.lr_product.proofs.ColumnExtension.{end-within}
use Rattle.std.proofs.lemmas.List.{get_or_append_left, get_or-take}

-- ---- the numbers of a state after a letter is appended

get-raised_before : (b j : ℕ) (s : List ℕ) → j + 1 < b → get_or (raised b s) j 0 ≡ get_or s j 0
get-raised_before zero j s h = absurd (omega arith)
get-raised_before (suc b) j [] h = refl
get-raised_before (suc zero) j (a ∷ s) h = absurd (omega arith)
get-raised_before (suc (suc b)) zero (a ∷ s) h = refl
get-raised_before (suc (suc b)) (suc j) (a ∷ s) h = get-raised_before (suc b) j s (omega arith)

get-raised_at : (i : ℕ) (s : List ℕ) → i < length s → get_or (raised (suc i) s) i 0 ≡ get_or s i 0 + 1
get-raised_at i [] h = absurd (omega arith)
get-raised_at zero (a ∷ s) h = refl
get-raised_at (suc i) (a ∷ s) h = get-raised_at i s (omega arith)

length-marked : (kept : Bool) (b : ℕ) (s : List ℕ) → length s ≤ length (raised b s ++ mark kept b)
length-marked kept b s = let l = length-append (raised b s) (mark kept b) in let r = length-raised b s in omega arith

pub numbers-zero : (X : ℕ → ℕ) (low k : ℕ) → ((b : ℕ) → low ≤ b → b < low + k → X b ≡ 0) → sum_by X (numbers_from low k) ≡ 0
numbers-zero X low k e = numbers-ext X (λ b. 0) low k e ∙ sum_by-zero (numbers_from low k)

none_outside : (kept : Bool) (n : ℕ) (line : List Bool) (right : List ℕ) (above : ℕ) (f : List ℕ → List ℕ → ℕ) (s : List ℕ) → 0 < above → extended kept n (false ∷ line) right above f s ≡ 0
none_outside kept n line right above f s h =
    ap (λ t. sum_by (λ b. extended kept n line (drop 1 right) b f (raised b s ++ mark kept b)) (numbers_from 0 (cond t 1 0 - 0))) (ne_eqb above 0 (λ e. absurd (omega arith)))

-- ---- states for which `extended` is 0

-- f is 0 at every state t that has a weakly decreasing sum and the same first `above` numbers as s
abbrev pub Hopeless : ℕ → (List ℕ → List ℕ → ℕ) → ℕ → List ℕ → Type 0
Hopeless n f above s = (t : List ℕ) → n ≤ length t → ((j : ℕ) → j < above → get_or t j 0 ≡ get_or s j 0) → cond (is_falling (take n t)) (at_state n f t) 0 ≡ 0

pub hopeless-zero : (kept : Bool) (n : ℕ) (line : List Bool) (right : List ℕ) (above : ℕ) (f : List ℕ → List ℕ → ℕ) (s : List ℕ) → 0 < above → above ≤ n → n ≤ length s → Hopeless n f above s
    → extended kept n line right above f s ≡ 0
hopeless-zero kept n [] right above f s h k l none = none s l (λ j q. refl)
hopeless-zero kept n (false ∷ line) right above f s h k l none = none_outside kept n line right above f s h
hopeless-zero kept n (true ∷ line) right above f s h k l none =
    numbers-zero (λ b. extended kept n line (drop 1 right) b f (raised b s ++ mark kept b)) (above + 1) (letters_end n true right above - (above + 1))
    (λ b low high.
    let e = end-within n true right above in
    let m = length-marked kept b s in
    hopeless-zero kept n line (drop 1 right) b f (raised b s ++ mark kept b) (omega arith) (omega arith) (omega arith)
    (λ t long same. none t long (λ j q. same j (omega arith) ∙ still b j low q)))
  where
    still : (b j : ℕ) → above + 1 ≤ b → j < above → get_or (raised b s ++ mark kept b) j 0 ≡ get_or s j 0
    still b j low q = get_or_append_left (raised b s) (mark kept b) 0 j (let r = length-raised b s in omega arith) ∙ get-raised_before b j s (omega arith)

not_falling : (i n : ℕ) (t : List ℕ) → suc i < n → n ≤ length t → get_or t i 0 < get_or t (suc i) 0 → is_falling (take n t) ≡ false
not_falling i zero t h l g = absurd (omega arith)
not_falling i (suc zero) t h l g = absurd (omega arith)
not_falling i (suc (suc n)) [] h l g = absurd (omega arith)
not_falling i (suc (suc n)) (a ∷ []) h l g = absurd (omega arith)
not_falling zero (suc (suc n)) (a ∷ b ∷ t) h l g = ap (λ x. x && is_falling (b ∷ take n t)) (lt-leb b a g)
not_falling (suc i) (suc (suc n)) (a ∷ b ∷ t) h l g = search (rules, (not_falling i (suc n) (b ∷ t) (omega arith) (omega arith) g))

pub not_within : (i : ℕ) (ν bound : List ℕ) → i < length bound → get_or bound i 0 < get_or ν i 0 → pass_by_place nat_le ν bound ≡ false
not_within i [] [] h g = absurd (omega arith)
not_within i [] (b ∷ bound) h g = absurd (omega arith)
not_within i (a ∷ ν) [] h g = absurd (omega arith)
not_within zero (a ∷ ν) (b ∷ bound) h g = ap (λ x. x && pass_by_place nat_le ν bound) (lt-leb a b g)
not_within (suc i) (a ∷ ν) (b ∷ bound) h g = search (rules, (not_within i ν bound (omega arith) g))

-- if the number at the index i of s cannot be raised by 1 (`can_rise`), and f vanishes outside the bound, the state after the letter i + 1 is
-- hopeless (`Hopeless`)
pub stuck : (kept : Bool) (n : ℕ) (bound : List ℕ) (f : List ℕ → List ℕ → ℕ) (i : ℕ) (s : List ℕ) → VanishesOutside bound f → i < n → n ≤ length s → length bound ≤ n
    → can_rise bound i s ≡ false → Hopeless n f (suc i) (raised (suc i) s ++ mark kept (suc i))
stuck kept n bound f i s vanishes h l m e t long same =
    by
    (and_cases ((i == 0) || nat_lt (get_or s i 0) (get_or s (i - 1) 0)) (nat_le (length bound) i || nat_lt (get_or s i 0) (get_or bound i 0)) e)
  where
    here : get_or t i 0 ≡ get_or s i 0 + 1
    here = same i (omega arith) ∙ get_or_append_left (raised (suc i) s) (mark kept (suc i)) 0 i (let r = length-raised (suc i) s in omega arith) ∙ get-raised_at i s (omega arith)

    ended : (x : Bool) (y : ℕ) → (x ≡ false) ⊎ (y ≡ 0) → cond x y 0 ≡ 0
    ended true y (inl q) = absurd (cc)
    ended true y (inr q) = q
    ended false y q = refl

    above_it : (k : ℕ) → i ≡ suc k → nat_lt (get_or s i 0) (get_or s (i - 1) 0) ≡ false → is_falling (take n t) ≡ false
    above_it k p q =
        let one : i - 1 ≡ k = omega arith in
        let less : get_or s (i - 1) 0 ≤ get_or s i 0 = ltb-false _ _ q in
        let before : get_or t k 0 ≡ get_or s k 0 = same k (omega arith) ∙ get_or_append_left (raised (suc i) s) (mark kept (suc i)) 0 k (let r = length-raised (suc i) s in omega arith) ∙ get-raised_before (suc i) k s (omega arith) in
        let moved : get_or s (i - 1) 0 ≡ get_or s k 0 = ap (λ j. get_or s j 0) one in
        let there : get_or t i 0 ≡ get_or t (suc k) 0 = ap (λ j. get_or t j 0) p in
        let raised_here = here in
        not_falling k n t (omega arith) long (omega arith)

    high : ((i == 0) ≡ false) × (nat_lt (get_or s i 0) (get_or s (i - 1) 0) ≡ false) → cond (is_falling (take n t)) (at_state n f t) 0 ≡ 0
    high q = ended (is_falling (take n t)) (at_state n f t) (inl (above_it (i - 1) (let z = eqb-false i 0 q.0 in omega (arith, z)) q.1))

    outside : (nat_le (length bound) i ≡ false) × (nat_lt (get_or s i 0) (get_or bound i 0) ≡ false) → cond (is_falling (take n t)) (at_state n f t) 0 ≡ 0
    outside q =
        let short : i < length bound = leb-false _ _ q.0 in
        let most : get_or bound i 0 ≤ get_or s i 0 = ltb-false _ _ q.1 in
        let taken : get_or (take n t) i 0 ≡ get_or t i 0 = get_or-take n t i 0 h in
        let raised_here = here in
        ended (is_falling (take n t)) (at_state n f t) (inr (vanishes (take n t) (drop n t) (not_within i (take n t) bound short (omega arith))))

    by : (((i == 0) || nat_lt (get_or s i 0) (get_or s (i - 1) 0)) ≡ false) ⊎ ((nat_le (length bound) i || nat_lt (get_or s i 0) (get_or bound i 0)) ≡ false) → cond (is_falling (take n t)) (at_state n f t) 0 ≡ 0
    by (inl a) = high (or_parts (i == 0) (nat_lt (get_or s i 0) (get_or s (i - 1) 0)) a)
    by (inr b) = outside (or_parts (nat_le (length bound) i) (nat_lt (get_or s i 0) (get_or bound i 0)) b)

-- let 0 < above ≤ n: if the number of remaining places exceeds the number n - above of letters greater than `above`, the column cannot be completed,
-- and `extended` is 0
pub too_few : (kept : Bool) (n : ℕ) (line : List Bool) (right : List ℕ) (above : ℕ) (f : List ℕ → List ℕ → ℕ) (s : List ℕ) → 0 < above → above ≤ n → n < above + length line
    → extended kept n line right above f s ≡ 0
too_few kept n [] right above f s h k l = absurd (omega arith)
too_few kept n (false ∷ line) right above f s h k l = none_outside kept n line right above f s h
too_few kept n (true ∷ line) right above f s h k l =
    numbers-zero (λ b. extended kept n line (drop 1 right) b f (raised b s ++ mark kept b)) (above + 1) (letters_end n true right above - (above + 1))
    (λ b low high.
    let e = end-within n true right above in
    too_few kept n line (drop 1 right) b f (raised b s ++ mark kept b) (omega arith) (omega arith) (omega arith))

-- `extended` does not change if the letters of the first place are restricted to those that leave a greater letter up to n for each place below
pub fewer_letters : (kept : Bool) (n : ℕ) (cell : Bool) (line : List Bool) (right : List ℕ) (above : ℕ) (f : List ℕ → List ℕ → ℕ) (s : List ℕ)
    → sum_by (λ b. extended kept n line (drop 1 right) b f (raised b s ++ mark kept b)) (numbers_from (least_letter cell above) (letters_end (n - length line) cell right above - least_letter cell above))
    ≡ extended kept n (cell ∷ line) right above f s
fewer_letters kept n false line right above f s = refl
fewer_letters kept n true line right above f s = by (letters_end (n - length line) true right above) (letters_end n true right above) (end-within n true right above) (less right) (λ b low high. equal right b low high)
  where
    X : ℕ → ℕ
    X b = extended kept n line (drop 1 right) b f (raised b s ++ mark kept b)

    less : (r : List ℕ) → letters_end (n - length line) true r above ≤ letters_end n true r above
    less [] = omega arith
    less (x ∷ r) = omega arith

    equal : (r : List ℕ) (b : ℕ) → letters_end (n - length line) true r above ≤ b → b < letters_end n true r above → n < b + length line
    equal [] b low high = omega arith
    equal (x ∷ r) b low high = omega arith

    by : (short end : ℕ) → end ≤ n + 1 → short ≤ end → ((b : ℕ) → short ≤ b → b < end → n < b + length line)
        → sum_by X (numbers_from (above + 1) (short - (above + 1))) ≡ sum_by X (numbers_from (above + 1) (end - (above + 1)))
    by short end within h many = cut (cases_lt end (above + 1))
      where
        each : (b : ℕ) → above + 1 ≤ b → b < end → (b < short) ⊎ (short ≤ b) → X b ≡ cond (nat_lt b short) (X b) 0
        each b low high (inl l) = sym (ap (λ t. cond t (X b) 0) (lt-ltb b short l))
        each b low high (inr l) =
            too_few kept n line (drop 1 right) b f (raised b s ++ mark kept b) (omega arith) (omega arith) (many b l high)
            ∙ sym (ap (λ t. cond t (X b) 0) (le-ltb b short l))

        cut : (end < above + 1) ⊎ (above + 1 ≤ end) → sum_by X (numbers_from (above + 1) (short - (above + 1))) ≡ sum_by X (numbers_from (above + 1) (end - (above + 1)))
        cut (inl l) =
            let p : short - (above + 1) ≡ 0 = omega arith in
            let q : end - (above + 1) ≡ 0 = omega arith in
            ap (λ k. sum_by X (numbers_from (above + 1) k)) (p ∙ sym q)
        cut (inr l) =
            sym (numbers-ext X (λ b. cond (nat_lt b short) (X b) 0) (above + 1) (end - (above + 1)) (λ b low high. each b low (omega arith) (cases_lt b short))
            ∙ range-front (λ b. nat_lt b short) X short (above + 1) (end - (above + 1)) (λ b low high. lt-ltb b short high) (λ b low high g. le-ltb b short high) (omega arith))

-- ---- a weakly decreasing sum stays so if a number that can be raised is raised by 1

raised-falls_first : (s : List ℕ) → is_falling s ≡ true → is_falling (raised 1 s) ≡ true
raised-falls_first [] h = refl
raised-falls_first (a ∷ []) h = refl
raised-falls_first (a ∷ b ∷ s) h = search rules

raised-falls_next : (i : ℕ) (s : List ℕ) → is_falling s ≡ true → get_or s (suc i) 0 < get_or s i 0 → is_falling (raised (suc (suc i)) s) ≡ true
raised-falls_next i [] h g = refl
raised-falls_next zero (a ∷ []) h g = refl
raised-falls_next (suc i) (a ∷ []) h g = refl
raised-falls_next zero (a ∷ b ∷ s) h g = search rules
raised-falls_next (suc i) (a ∷ b ∷ s) h g =
    let p = and_parts (nat_le b a) (is_falling (b ∷ s)) h in
    and_from (nat_le b a) (is_falling (b ∷ raised (suc i) s)) p.0 (raised-falls_next i (b ∷ s) p.1 g)

pub take_none : {A : Type 0} (l : List A) → take 0 l ≡ []
take_none [] = refl
take_none (x ∷ l) = refl

take-raised : (n b : ℕ) (s w : List ℕ) → n ≤ length s → take n (raised b s ++ w) ≡ raised b (take n s)
take-raised zero b [] w h = by b w
  where
    by : (x : ℕ) (v : List ℕ) → take 0 (raised x [] ++ v) ≡ raised x []
    by zero [] = refl
    by zero (a ∷ v) = refl
    by (suc x) [] = refl
    by (suc x) (a ∷ v) = refl
take-raised zero b (a ∷ s) w h = take_none (raised b (a ∷ s) ++ w) ∙ by b
  where
    by : (x : ℕ) → [] ≡ raised x []
    by zero = refl
    by (suc x) = refl
take-raised (suc n) b [] w h = absurd (omega arith)
take-raised (suc n) zero (a ∷ s) w h = ap (λ l. a ∷ l) (take-raised n zero s w (omega arith))
take-raised (suc n) (suc zero) (a ∷ s) w h = ap (λ l. (a + 1) ∷ l) (take-raised n zero s w (omega arith))
take-raised (suc n) (suc (suc b)) (a ∷ s) w h = ap (λ l. a ∷ l) (take-raised n (suc b) s w (omega arith))

-- if a sum is weakly decreasing, and its number at the index i can be raised by 1 (`can_rise`), the sum with this number raised is weakly decreasing
pub falls-raised : (n : ℕ) (bound : List ℕ) (i : ℕ) (s w : List ℕ) → i < n → n ≤ length s → can_rise bound i s ≡ true → is_falling (take n s) ≡ true → is_falling (take n (raised (suc i) s ++ w)) ≡ true
falls-raised n bound zero s w h l e falls = ap is_falling (take-raised n 1 s w l) ∙ raised-falls_first (take n s) falls
falls-raised n bound (suc i) s w h l e falls =
    let p = and_parts ((suc i == 0) || nat_lt (get_or s (suc i) 0) (get_or s (suc i - 1) 0)) _ e in
    let one : suc i - 1 ≡ i = omega arith in
    let less : get_or s (suc i) 0 < get_or s i 0 = ltb-true _ _ (ap₂ (λ (t : Bool) (j : ℕ). t || nat_lt (get_or s (suc i) 0) (get_or s j 0)) (sym (ne_eqb (suc i) 0 (λ q. absurd (omega arith)))) (sym one) ∙ p.0) in
    let here : get_or (take n s) (suc i) 0 ≡ get_or s (suc i) 0 = get_or-take n s (suc i) 0 h in
    let before : get_or (take n s) i 0 ≡ get_or s i 0 = get_or-take n s i 0 (omega arith) in
    ap is_falling (take-raised n (suc (suc i)) s w l) ∙ raised-falls_next i (take n s) falls (omega arith)

pub falls-unraised : (n : ℕ) (s w : List ℕ) → n ≤ length s → is_falling (take n s) ≡ true → is_falling (take n (s ++ w)) ≡ true
falls-unraised n s w l falls = ap is_falling (take-raised n zero s w l) ∙ falls

pub no_room : (kept : Bool) (n : ℕ) (line : List Bool) (right : List ℕ) (f : List ℕ → List ℕ → ℕ) (bound : List ℕ) (b : ℕ) (s : List ℕ) → VanishesOutside bound f → b ≤ n → n ≤ length s → length bound ≤ n
    → ((b == 0) || can_rise bound (b - 1) s) ≡ false → extended kept n line right b f (raised b s ++ mark kept b) ≡ 0
no_room kept n line right f bound zero s vanishes h l m e = absurd (cc)
no_room kept n line right f bound (suc i) s vanishes h l m e =
    let one : suc i - 1 ≡ i = omega arith in
    let q = or_parts (suc i == 0) (can_rise bound (suc i - 1) s) e in
    hopeless-zero kept n line right (suc i) f (raised (suc i) s ++ mark kept (suc i)) (omega arith) h (let k = length-marked kept (suc i) s in omega arith)
    (stuck kept n bound f i s vanishes (omega arith) l m (ap (λ j. can_rise bound j s) (sym one) ∙ q.1))

pub falls-placed : (n : ℕ) (bound : List ℕ) (b : ℕ) (s w : List ℕ) → b ≤ n → n ≤ length s → ((b == 0) || can_rise bound (b - 1) s) ≡ true → is_falling (take n s) ≡ true → is_falling (take n (raised b s ++ w)) ≡ true
falls-placed n bound zero s w h l e falls = falls-unraised n s w l falls
falls-placed n bound (suc i) s w h l e falls = by (or_cases (suc i == 0) (can_rise bound (suc i - 1) s) e)
  where
    by : ((suc i == 0) ≡ true) ⊎ (can_rise bound (suc i - 1) s ≡ true) → is_falling (take n (raised (suc i) s ++ w)) ≡ true
    by (inl z) = let q = eqb-true (suc i) 0 z in absurd (omega arith)
    by (inr r) = let one : suc i - 1 ≡ i = omega arith in falls-raised n bound i s w (omega arith) l (ap (λ j. can_rise bound j s) (sym one) ∙ r) falls
