-- A column is added to a tableau in all ways: the sum `extended`, for which the column is filled letter by letter, is equal to the sum `next_states`
-- over whole columns. Here a *state* is a list of numbers: first the sum ν, a partition plus the content of all letters so far, with n numbers; then
-- the letters of the column.
use Rattle.std.proofs.Common.{◌≡◌, ℕ, zero, suc, ◌+◌, ◌-◌, ◌<◌, ◌≤◌, ◌==◌, ◌⊎◌, inl, inr, nat_le, Bool, true, false, cond, ◌&&◌, List, [], ◌∷◌, ◌++◌, append_assoc, append-nil, map, length, take, drop, refl, sym, ap, ap₂, ◌∙◌, arith, rules}
use Rattle.std.proofs.lemmas.Bool.{cases_lt, cases_eq, lt-ltb, le-ltb, le-leb, lt-leb, ne_eqb, eq-eqb}
use Rattle.sym_model.specs.Partition.{after}
use Rattle.sym_model.specs.Polynomial.{join}
use Rattle.sym_model.specs.Schur.{times_in, content}
use Rattle.sym_model.specs.GoodTableau.{is_falling}
use Rattle.sym_model.proofs.Exponents.{resize_same}
use Rattle.tableau_laws.specs.PaddedRows.{letters_at, words_over}
use Rattle.tableau_laws.specs.Grid.{is_chain, may_precede, pass_by_place, may_stand_above}
use Rattle.tableau_laws.specs.ColumnFold.{may_be_next}
use Rattle.tableau_laws.proofs.ColumnCounts.{sum_at_start}
use Rattle.lr_product.specs.WeighedSum.{next_states, seen}
use Rattle.lr_product.specs.Extension.{numbers_from, greatest_letter, least_letter, letters_end, raised, extended}
use Rattle.lr_product.proofs.Raising.{length-raised}
use Rattle.sym_model.specs.Sum.{sum_by}
use Rattle.sym_model.proofs.NumberSums.{sum_by-ext, sum_by-each, sum_by-map, sum_by-cond}
use Rattle.lr_product.proofs.Ranges.{after-numbers, range-passing, numbers-ext}
use Rattle.std.proofs.Math.Seq.{drop-append_seam, take-append_seam}

-- ---- the sum ν plus the content of some letters of a column

pub join-nothing : (n : ℕ) (ν : List ℕ) → length ν ≡ n → join ν (content n []) ≡ ν
join-nothing n ν e = sum_at_start n ν (omega arith) ∙ resize_same n ν e

raise_from : (i b : ℕ) (ν c : List ℕ) (m : ℕ) → length ν ≡ m
    → join ν (map (λ k. cond (b == k) 1 0 + times_in k c) (after i m)) ≡ join (raised (b - i) ν) (map (λ k. times_in k c) (after i m))
raise_from i b [] c zero e = by (b - i)
  where
    by : (x : ℕ) → [] ≡ join (raised x []) []
    by zero = refl
    by (suc x) = refl
raise_from i b [] c (suc m) e = absurd (omega arith)
raise_from i b (x ∷ ν) c zero e = absurd (omega arith)
raise_from i b (x ∷ ν) c (suc m) e = by (cases_lt b (i + 1)) (cases_eq b (i + 1)) (raise_from (i + 1) b ν c m (omega arith))
  where
    by : (b < i + 1) ⊎ (i + 1 ≤ b) → (b ≡ i + 1) ⊎ (b ≡ i + 1 → ⊥)
        → join ν (map (λ k. cond (b == k) 1 0 + times_in k c) (after (i + 1) m)) ≡ join (raised (b - (i + 1)) ν) (map (λ k. times_in k c) (after (i + 1) m))
        → (x + (cond (b == (i + 1)) 1 0 + times_in (i + 1) c)) ∷ join ν (map (λ k. cond (b == k) 1 0 + times_in k c) (after (i + 1) m))
        ≡ join (raised (b - i) (x ∷ ν)) (times_in (i + 1) c ∷ map (λ k. times_in k c) (after (i + 1) m))
    by (inl l) d rest =
        let z : b - i ≡ 0 = omega arith in
        let y : b - (i + 1) ≡ 0 = omega arith in
        ap₂ ◌∷◌ (ap (λ t. x + (cond t 1 0 + times_in (i + 1) c)) (ne_eqb b (i + 1) (λ q. absurd (omega arith))) ∙ (let h : x + (0 + times_in (i + 1) c) ≡ x + times_in (i + 1) c = omega arith in h))
        (rest ∙ ap (λ k. join (raised k ν) (map (λ j. times_in j c) (after (i + 1) m))) y)
        ∙ ap (λ k. join (raised k (x ∷ ν)) (times_in (i + 1) c ∷ map (λ j. times_in j c) (after (i + 1) m))) (sym z)
    by (inr l) (inl q) rest =
        let z : b - i ≡ 1 = omega arith in
        let y : b - (i + 1) ≡ 0 = omega arith in
        ap₂ ◌∷◌ (ap (λ t. x + (cond t 1 0 + times_in (i + 1) c)) (eq-eqb b (i + 1) q) ∙ (let h : x + (1 + times_in (i + 1) c) ≡ (x + 1) + times_in (i + 1) c = omega arith in h))
        (rest ∙ ap (λ k. join (raised k ν) (map (λ j. times_in j c) (after (i + 1) m))) y)
        ∙ ap (λ k. join (raised k (x ∷ ν)) (times_in (i + 1) c ∷ map (λ j. times_in j c) (after (i + 1) m))) (sym z)
    by (inr l) (inr d) rest =
        let z : b - i ≡ suc (suc (b - (i + 2))) = omega (arith, d) in
        let y : b - (i + 1) ≡ suc (b - (i + 2)) = omega (arith, d) in
        ap₂ ◌∷◌ (ap (λ t. x + (cond t 1 0 + times_in (i + 1) c)) (ne_eqb b (i + 1) d) ∙ (let h : x + (0 + times_in (i + 1) c) ≡ x + times_in (i + 1) c = omega arith in h))
        (rest ∙ ap (λ k. join (raised k ν) (map (λ j. times_in j c) (after (i + 1) m))) y)
        ∙ ap (λ k. join (raised k (x ∷ ν)) (times_in (i + 1) c ∷ map (λ j. times_in j c) (after (i + 1) m))) (sym z)

pub join-raised : (n b : ℕ) (ν c : List ℕ) → length ν ≡ n → join ν (content n (b ∷ c)) ≡ join (raised b ν) (content n c)
join-raised n b ν c e = raise_from 0 b ν c n e ∙ ap (λ k. join (raised k ν) (content n c)) (let z : b - 0 ≡ b = omega arith in z)

pub raised-append : (b : ℕ) (ν w : List ℕ) → b ≤ length ν → raised b (ν ++ w) ≡ raised b ν ++ w
raised-append zero ν w h = refl
raised-append (suc b) [] w h = absurd (omega arith)
raised-append (suc zero) (a ∷ ν) w h = refl
raised-append (suc (suc b)) (a ∷ ν) w h = ap (λ l. a ∷ l) (raised-append (suc b) ν w (omega arith))

-- ---- the letters allowed at one place of a column

-- whether the letter b is at most its right neighbour, which is the first letter of `right`; true if `right` is empty
abbrev fits : ℕ → List ℕ → Bool
fits b [] = true
fits b (r ∷ right) = nat_le b r

pass-cons : (b : ℕ) (c right : List ℕ) → pass_by_place nat_le (b ∷ c) right ≡ fits b right && pass_by_place nat_le c (drop 1 right)
pass-cons b [] [] = refl
pass-cons b (x ∷ c) [] = refl
pass-cons b c (r ∷ []) = refl
pass-cons b c (r ∷ s ∷ right) = refl

regroup : (above chain fit pass falls : Bool) → ((above && chain) && ((fit && pass) && falls)) ≡ ((above && fit) && (chain && (pass && falls)))
regroup above chain fit pass falls = grind arith

pub cond_and : (p q : Bool) (x : ℕ) → cond (p && q) x 0 ≡ cond p (cond q x 0) 0
cond_and true q x = refl
cond_and false q x = refl

letters-range : (n : ℕ) (p : Bool) (a : ℕ) (right : List ℕ) (S : ℕ → ℕ) → a ≤ n
    → sum_by (λ b. cond (may_stand_above a b && fits b right) (S b) 0) (letters_at n p)
    ≡ sum_by S (numbers_from (least_letter p a) (letters_end n p right a - least_letter p a))
letters-range n false zero right S h = search rules
letters-range n false (suc a) right S h = search rules
letters-range n true a right S h =
    ap (sum_by (λ b. cond (may_stand_above a b && fits b right) (S b) 0)) (after-numbers 0 n)
    ∙ range-passing (λ b. may_stand_above a b && fits b right) S (greatest_letter n right + 1) 1 (a + 1) n (omega arith)
    (λ b l g. ap (λ t. t && fits b right) (le-ltb a (b + (1 - a)) (omega arith)))
    (λ b l g. ap₂ (λ (s t : Bool). s && t) (lt-ltb a (b + (1 - a)) (omega arith)) (fits-yes b right (omega arith)))
    (λ b l g q. ap₂ (λ (s t : Bool). s && t) (lt-ltb a (b + (1 - a)) (omega arith)) (fits-no b right (omega arith) (omega arith)))
    (within right)
  where
    fits-yes : (b : ℕ) (r : List ℕ) → b ≤ greatest_letter n r → fits b r ≡ true
    fits-yes b [] g = refl
    fits-yes b (x ∷ r) g = le-leb b x (omega arith)

    fits-no : (b : ℕ) (r : List ℕ) → greatest_letter n r < b → b ≤ n → fits b r ≡ false
    fits-no b [] g q = absurd (omega arith)
    fits-no b (x ∷ r) g q = lt-leb b x (omega arith)

    within : (r : List ℕ) → greatest_letter n r + 1 ≤ 1 + n
    within [] = omega arith
    within (x ∷ r) = omega arith

pub end-within : (n : ℕ) (p : Bool) (right : List ℕ) (a : ℕ) → letters_end n p right a ≤ n + 1
end-within n true [] a = omega arith
end-within n true (r ∷ right) a = omega arith
end-within n false right a = search rules

-- ---- a whole column, filled letter by letter

-- the number f(ν', w ++ c), where ν' is ν plus the content of the letters c, if c is allowed below the letter a and left of the column `right`, and
-- ν' is weakly decreasing; otherwise 0
abbrev goes_on : ℕ → List ℕ → ℕ → (List ℕ → List ℕ → ℕ) → List ℕ → List ℕ → List ℕ → ℕ
goes_on n right a f ν w c =
    cond (is_chain may_stand_above (a ∷ c) && (pass_by_place nat_le c right && is_falling (join ν (content n c)))) (f (join ν (content n c)) (w ++ c)) 0

goes_on-cons : (n : ℕ) (right : List ℕ) (a : ℕ) (f : List ℕ → List ℕ → ℕ) (ν w : List ℕ) (b : ℕ) (c : List ℕ) → length ν ≡ n
    → goes_on n right a f ν w (b ∷ c) ≡ cond (may_stand_above a b && fits b right) (goes_on n (drop 1 right) b f (raised b ν) (w ++ b ∷ []) c) 0
goes_on-cons n right a f ν w b c e = search (rules, pass-cons, join-raised, regroup, append_assoc, cond_and)

extended-words : (n : ℕ) (line : List Bool) (right : List ℕ) (a : ℕ) (f : List ℕ → List ℕ → ℕ) (ν w : List ℕ) → length ν ≡ n → a ≤ n
    → extended true n line right a f (ν ++ w) ≡ sum_by (goes_on n right a f ν w) (words_over n line)
extended-words n [] right a f ν w e h = search (rules, take-append_seam, join-nothing, drop-append_seam, append-nil)
extended-words n (p ∷ line) right a f ν w e h =
    let S : ℕ → ℕ = λ b. sum_by (goes_on n (drop 1 right) b f (raised b ν) (w ++ b ∷ [])) (words_over n line) in
    let low = least_letter p a in
    let end = letters_end n p right a in
    numbers-ext (λ b. extended true n line (drop 1 right) b f (raised b (ν ++ w) ++ (b ∷ []))) S low (end - low)
    (λ b l g.
    let k = end-within n p right a in
    let q : b ≤ n = omega arith in
    ap (extended true n line (drop 1 right) b f) (ap (λ s. s ++ (b ∷ [])) (raised-append b ν w (omega arith)) ∙ append_assoc (raised b ν) w (b ∷ []))
    ∙ extended-words n line (drop 1 right) b f (raised b ν) (w ++ b ∷ []) (length-raised b ν ∙ e) q)
    ∙ sym (letters-range n p a right S h)
    ∙ sym (sum_by-each (goes_on n right a f ν w) (λ b. map (λ c. b ∷ c) (words_over n line)) (letters_at n p)
    ∙ sum_by-ext (λ b. sum_by (goes_on n right a f ν w) (map (λ c. b ∷ c) (words_over n line))) (λ b. cond (may_stand_above a b && fits b right) (S b) 0)
    (λ b. sum_by-map (goes_on n right a f ν w) (λ c. b ∷ c) (words_over n line)
    ∙ sum_by-ext (λ c. goes_on n right a f ν w (b ∷ c)) (λ c. cond (may_stand_above a b && fits b right) (goes_on n (drop 1 right) b f (raised b ν) (w ++ b ∷ []) c) 0)
    (λ c. goes_on-cons n right a f ν w b c e) (words_over n line)
    ∙ sum_by-cond (may_stand_above a b && fits b right) (goes_on n (drop 1 right) b f (raised b ν) (w ++ b ∷ [])) (words_over n line))
    (letters_at n p))

extended-next : (n : ℕ) (line : List Bool) (right : List ℕ) (f : List ℕ → List ℕ → ℕ) (ν : List ℕ) → length ν ≡ n
    → extended true n line right 0 f ν ≡ next_states n line f ν right
extended-next n line right f ν e =
    ap (extended true n line right 0 f) (sym (append-nil ν)) ∙ extended-words n line right 0 f ν [] e (omega arith)
    ∙ sum_by-ext (goes_on n right 0 f ν []) (λ c. cond (may_be_next n ν right c) (f (join ν (content n c)) c) 0)
    (λ c. ap (λ t. cond ((t && is_chain may_stand_above c) && (pass_by_place nat_le c right && is_falling (join ν (content n c)))) (f (join ν (content n c)) c) 0) (first c)) (words_over n line)
  where
    first : (c : List ℕ) → may_precede may_stand_above 0 c ≡ true
    first [] = refl
    first (b ∷ c) = lt-ltb 0 (b + (1 - 0)) (omega arith)

forgotten : (n : ℕ) (line : List Bool) (right : List ℕ) (a : ℕ) (f : List ℕ → List ℕ → ℕ) (s w : List ℕ) → length s ≡ n
    → extended false n line right a f s ≡ extended true n line right a (seen false f) (s ++ w)
forgotten n [] right a f s w e =
    let whole : take n s ≡ s = ap (λ k. take k s) (sym e) ∙ ap (take (length s)) (sym (append-nil s)) ∙ take-append_seam s [] in
    let rest : drop n s ≡ [] = ap (λ k. drop k s) (sym e) ∙ ap (drop (length s)) (sym (append-nil s)) ∙ drop-append_seam s [] in
    let front : take n (s ++ w) ≡ s = ap (λ k. take k (s ++ w)) (sym e) ∙ take-append_seam s w in
    ap₂ (λ (x y : List ℕ). cond (is_falling x) (f x y) 0) whole rest ∙ sym (ap (λ (x : List ℕ). cond (is_falling x) (f x []) 0) front)
forgotten n (p ∷ line) right a f s w e =
    numbers-ext (λ b. extended false n line (drop 1 right) b f (raised b s ++ [])) (λ b. extended true n line (drop 1 right) b (seen false f) (raised b (s ++ w) ++ (b ∷ [])))
    (least_letter p a) (letters_end n p right a - least_letter p a)
    (λ b l g.
    let k = end-within n p right a in
    ap (extended false n line (drop 1 right) b f) (append-nil (raised b s))
    ∙ forgotten n line (drop 1 right) b f (raised b s) (w ++ (b ∷ [])) (length-raised b s ∙ e)
    ∙ ap (extended true n line (drop 1 right) b (seen false f))
    (sym (ap (λ t. t ++ (b ∷ [])) (raised-append b s w (omega arith)) ∙ append_assoc (raised b s) w (b ∷ []))))

pub extended-seen : (kept : Bool) (n : ℕ) (line : List Bool) (right : List ℕ) (f : List ℕ → List ℕ → ℕ) (ν : List ℕ) → length ν ≡ n
    → extended kept n line right 0 f ν ≡ next_states n line (seen kept f) ν right
extended-seen true n line right f ν e = extended-next n line right f ν e
extended-seen false n line right f ν e =
    forgotten n line right 0 f ν [] e ∙ ap (extended true n line right 0 (seen false f)) (append-nil ν) ∙ extended-next n line right (seen false f) ν e
