-- The cells of a semistandard tableau that have the greatest letter form a horizontal strip; without them it is a semistandard tableau
-- with fewer letters.
--     removals            the shapes that remain if a horizontal strip is removed, with empty rows kept, each with the number of cells of the strip
--     ended_content       the content of a row that is followed by letters n + 1
--     over_rows-greatest  sums over the tableaux with letters up to n + 1, as sums over tableaux with letters up to n
use Rattle.std.proofs.Common.{◌≡◌, ℕ, zero, suc, ◌+◌, ◌-◌, ◌<◌, ◌≤◌, Bool, true, false, cond, ◌&&◌, List, [], ◌∷◌, ◌++◌, map, length, replicate, nat_le, sym, ◌∙◌, ap, ap₂, refl, arith, ℤ, pos, ◌+ℤ◌, append-nil, flat_map, rules}
use Rattle.std.proofs.lemmas.Bool.{le-leb, lt-leb, lt-ltb, ne_eqb, eq-eqb, leb-true}
use Rattle.std.proofs.lemmas.List.{map-append, length-replicate}
use Rattle.sym_model.specs.Sum.{total}
use Rattle.sym_model.specs.Partition.{Falls, part, after}
use Rattle.sym_model.specs.Polynomial.{join}
use Rattle.sym_model.specs.Bases.{down_from}
use Rattle.sym_model.specs.Schur.{words, row_rises, columns_rise, times_in, content}
use Rattle.sym_model.proofs.Sums.{total_ext, total_zero, total_map, total_each, total_exchange, total_cond}
use Rattle.sym_model.proofs.Exponents.{tests_agree}
use Rattle.sym_model.proofs.SortedParts.{Falls_tail, Falls_first}
use Rattle.sym_model.proofs.AfterLists.{after_among}
use Rattle.sym_model.proofs.Contents.{times_in-append}
use Rattle.sym_model.proofs.Lists.{map-among}
use Rattle.alternant_laws.proofs.Exchanges.{length_content}
use Rattle.schur_laws.proofs.GreatestLetters.{over_rising, rising-ext, rising-greatest, ended, AreLetters, after_zero-last, total_down_from-ext, total_down_from-cut}
use Rattle.schur_laws.proofs.TableauRows.{over_rows, over_rows-ext, over_rows-no_row_above}
use Rattle.sym_model.specs.Bounded.{AreAtMost}
use lib.IntN.{+ℤ_idr}
use Rattle.sym_model.proofs.Restrictions.{and_middle}
use Rattle.sym_model.proofs.Integers.{nothing_either}
use Rattle.sym_model.proofs.Tableaux.{columns_rise-nothing}

-- for each way to remove a horizontal strip of any size from a shape: the shape that remains, with empty rows kept, and the number of cells of the
-- strip
abbrev pub removals : List ℕ → List (List ℕ × ℕ)
removals [] = ([], 0) ∷ []
removals (a ∷ parts) =
    flat_map (λ (i : ℕ). map (λ (r : List ℕ × ℕ). ((a - i) ∷ r.0, i + r.1)) (removals parts)) (down_from (a - part parts 1))

pub letters_up_to : (n : ℕ) (w : List ℕ) → AreLetters n w → AreAtMost n w
letters_up_to n [] h = tt
letters_up_to n (a ∷ w) h = (h.0.1, letters_up_to n w h.1)

-- ---- the contents of rows that end with letters n + 1, the other letters being at most n

pub times_in-higher : (n k : ℕ) (w : List ℕ) → AreLetters n w → n < k → times_in k w ≡ 0
times_in-higher n k [] h l = refl
times_in-higher n k (a ∷ w) h l =
    let b = h.0.1 in
    ap (λ (t : Bool). cond {A = ℕ} t 1 0 + times_in k w) (ne_eqb a k (λ e. absurd (omega arith))) ∙ omega (arith, times_in-higher n k w h.1 l)

times_in-others : (k m i : ℕ) → (m ≡ k → ⊥) → times_in k (replicate i m) ≡ 0
times_in-others k m zero h = refl
times_in-others k m (suc i) h = ap (λ (t : Bool). cond {A = ℕ} t 1 0 + times_in k (replicate i m)) (ne_eqb m k h) ∙ omega (arith, times_in-others k m i h)

pub times_in-itself : (m i : ℕ) → times_in m (replicate i m) ≡ i
times_in-itself m zero = refl
times_in-itself m (suc i) = ap (λ (t : Bool). cond {A = ℕ} t 1 0 + times_in m (replicate i m)) (eq-eqb m m refl) ∙ omega (arith, times_in-itself m i)

content-greatest : (n : ℕ) (w : List ℕ) → content (suc n) w ≡ content n w ++ (times_in (suc n) w ∷ [])
content-greatest n w = ap (map (λ (k : ℕ). times_in k w)) (after_zero-last n) ∙ map-append (λ (k : ℕ). times_in k w) (after 0 n) (suc n ∷ [])

pub ended_content : (n i : ℕ) (v : List ℕ) → AreLetters n v → content (suc n) (ended n i v) ≡ content n v ++ (i ∷ [])
ended_content n i v h =
    search (rules, content-greatest, ended, map-among, after_among, times_in-append, times_in-others, times_in-higher, times_in-itself)

join-last : (β γ : List ℕ) (i j : ℕ) → length β ≡ length γ → join (β ++ (i ∷ [])) (γ ++ (j ∷ [])) ≡ join β γ ++ ((i + j) ∷ [])
join-last [] [] i j e = refl
join-last [] (c ∷ γ) i j e = absurd (omega arith)
join-last (b ∷ β) [] i j e = absurd (omega arith)
join-last (b ∷ β) (c ∷ γ) i j e = ap (λ l. (b + c) ∷ l) (join-last β γ i j (omega arith))

-- let `upper` be followed by c letters n + 1, and v, in the row below, by i letters n + 1, so that the lower row is not longer. The columns of these
-- two rows are strictly increasing if and only if those of `upper` and v are, and length v + i ≤ length upper
columns_rise-ended : (n c i : ℕ) (upper v : List ℕ) → AreAtMost n upper → AreLetters n v → length v + i ≤ length upper + c
    → columns_rise (ended n c upper) (ended n i v) ≡ (nat_le (length v + i) (length upper) && columns_rise upper v)
columns_rise-ended n zero zero [] [] u h l = refl
columns_rise-ended n (suc c) zero [] [] u h l = refl
columns_rise-ended n zero (suc i) [] [] u h l = absurd (omega arith)
columns_rise-ended n (suc c) (suc i) [] [] u h l = search rules
columns_rise-ended n zero i [] (b ∷ v) u h l = absurd (omega arith)
columns_rise-ended n (suc c) i [] (b ∷ v) u h l = search rules
columns_rise-ended n c zero (a ∷ upper) [] u h l = ap (λ t. t && true) (sym (le-leb (0 + 0) (suc (length upper)) (omega arith)))
columns_rise-ended n c (suc i) (a ∷ upper) [] u h l =
    let k = u.0 in
    ap (λ t. t && columns_rise (ended n c upper) (ended n i [])) (lt-ltb a (suc n) (omega arith))
    ∙ columns_rise-ended n c i upper [] u.1 tt (omega arith)
    ∙ ap₂ (λ (s t : Bool). s && t) (tests_agree (nat_le (0 + i) (length upper)) (nat_le (0 + suc i) (suc (length upper))) (λ e. le-leb (0 + suc i) (suc (length upper)) (let m = leb-true (0 + i) (length upper) e in omega arith)) (λ e. le-leb (0 + i) (length upper) (let m = leb-true (0 + suc i) (suc (length upper)) e in omega arith))) (columns_rise-nothing upper)
columns_rise-ended n c i (a ∷ upper) (b ∷ v) u h l =
    search (rules, and_middle, tests_agree, le-leb, leb-true, (columns_rise-ended n c i upper v u.1 h.1 (omega arith)))

rising-under : (n k : ℕ) (b : Bool) (f : List ℕ → ℤ) → over_rising n k (λ v. cond b (f v) (pos 0)) ≡ cond b (over_rising n k f) (pos 0)
rising-under n k true f = refl
rising-under n k false f = total_ext (λ (w : List ℕ). cond (row_rises w) (pos 0) (pos 0)) (λ (w : List ℕ). pos 0) (λ w. nothing_either (row_rises w)) (words n k) ∙ total_zero (words n k)

rising-total : {A : Type 0} (n k : ℕ) (f : A → List ℕ → ℤ) (xs : List A) → over_rising n k (λ v. total (λ (x : A). f x v) xs) ≡ total (λ (x : A). over_rising n k (f x)) xs
rising-total {A} n k f xs =
    total_ext (λ (w : List ℕ). cond (row_rises w) (total (λ (x : A). f x w) xs) (pos 0)) (λ (w : List ℕ). total (λ (x : A). cond (row_rises w) (f x w) (pos 0)) xs)
    (λ w. sym (total_cond (row_rises w) (λ (x : A). f x w) xs)) (words n k)
    ∙ total_exchange (λ (w : List ℕ) (x : A). cond (row_rises w) (f x w) (pos 0)) (words n k) xs

four : {A : Type 0} (b q s : Bool) (f : A → ℤ) (xs : List A)
    → cond (b && q) (cond s (total f xs) (pos 0)) (pos 0) ≡ cond b (cond s (total (λ (x : A). cond q (f x) (pos 0)) xs) (pos 0)) (pos 0)
four true true s f xs = refl
four true false s f xs = sym (ap (λ z. cond s z (pos 0)) (total_zero xs) ∙ nothing_either s)
four false q s f xs = refl

-- ---- sums over tableaux with letters up to n + 1, by the tableau without the letters n + 1

-- the statement that the letters n + 1 in the tableaux of the shape `parts` form a horizontal strip. Let R be the row `upper` of letters up to n and
-- then c letters n + 1. The sum of φ(content) over the tableaux below R is the sum of φ(content, size of the strip) over the strips that can be taken
-- from `parts`, and the tableaux of the remaining shape below `upper`; it is 0 if the first row of `parts` is longer than `upper`
abbrev LosesGreatest : ℕ → List ℕ → Type 0
LosesGreatest n parts =
    (c : ℕ) (upper : List ℕ) (φ : List ℕ → ℤ) → AreAtMost n upper → Falls parts → part parts 1 ≤ length upper + c
    → over_rows (suc n) (ended n c upper) parts φ
    ≡ cond (nat_le (part parts 1) (length upper)) (total (λ (r : List ℕ × ℕ). over_rows n upper r.0 (λ γ. φ (γ ++ (r.1 ∷ [])))) (removals parts)) (pos 0)

-- the induction step of `LosesGreatest` for a first row of length a that is v followed by i letters n + 1. The sum over the tableaux with this first
-- row and other rows of the shape `parts` is a sum over the horizontal strips that can be taken from `parts`, and over the tableaux of the remaining
-- shape below v. It is 0 if a exceeds the length of `upper`, or if the first part of `parts` exceeds a - i
row_ended : (n c i a : ℕ) (upper v parts : List ℕ) (φ : List ℕ → ℤ) → LosesGreatest n parts → AreAtMost n upper → Falls (a ∷ parts) → a ≤ length upper + c → i ≤ a
    → length v ≡ a - i → AreLetters n v
    → cond (columns_rise (ended n c upper) (ended n i v)) (over_rows (suc n) (ended n i v) parts (λ γ. φ (join (content (suc n) (ended n i v)) γ))) (pos 0)
    ≡ cond (nat_le a (length upper)) (cond (nat_le (part parts 1) (a - i))
    (total (λ (r : List ℕ × ℕ). cond (columns_rise upper v) (over_rows n v r.0 (λ γ. φ (join (content n v) γ ++ ((i + r.1) ∷ [])))) (pos 0)) (removals parts)) (pos 0)) (pos 0)
row_ended n c i a upper v parts φ rec u f l h e m =
    ap₂ (λ (b : Bool) (z : ℤ). cond b z (pos 0))
    (columns_rise-ended n c i upper v u m (omega arith) ∙ ap (λ k. nat_le k (length upper) && columns_rise upper v) (let k : length v + i ≡ a = omega arith in k))
    (rec i v (λ γ. φ (join (content (suc n) (ended n i v)) γ)) (letters_up_to n v m) (Falls_tail a parts f) (let s = Falls_first a parts f in omega arith)
    ∙ ap₂ (λ (k : ℕ) (z : ℤ). cond (nat_le (part parts 1) k) z (pos 0)) e
    (total_ext (λ (r : List ℕ × ℕ). over_rows n v r.0 (λ γ. φ (join (content (suc n) (ended n i v)) (γ ++ (r.1 ∷ [])))))
    (λ (r : List ℕ × ℕ). over_rows n v r.0 (λ γ. φ (join (content n v) γ ++ ((i + r.1) ∷ []))))
    (λ r. over_rows-ext n v r.0 _ _
    (λ γ k. ap φ (ap (λ κ. join κ (γ ++ (r.1 ∷ []))) (ended_content n i v m) ∙ join-last (content n v) γ i r.1 (length_content n v ∙ sym k))))
    (removals parts)))
    ∙ four (nat_le a (length upper)) (columns_rise upper v) (nat_le (part parts 1) (a - i)) (λ (r : List ℕ × ℕ). over_rows n v r.0 (λ γ. φ (join (content n v) γ ++ ((i + r.1) ∷ [])))) (removals parts)

total_greatest : (a p : ℕ) (g : ℕ → ℤ) → p ≤ a → total (λ (i : ℕ). cond (nat_le p (a - i)) (g i) (pos 0)) (down_from a) ≡ total g (down_from (a - p))
total_greatest a p g h =
    ap (λ d. total f (down_from d)) (let e : a ≡ p + (a - p) = omega arith in e)
    ∙ total_down_from-cut f (a - p) p (λ i l k. ap (λ b. cond b (g i) (pos 0)) (lt-leb p (a - i) (omega arith)))
    ∙ total_down_from-ext f g (a - p) (λ i l. ap (λ b. cond b (g i) (pos 0)) (le-leb p (a - i) (omega arith)))
  where
    f : ℕ → ℤ
    f i = cond (nat_le p (a - i)) (g i) (pos 0)

loses_greatest : (n : ℕ) (parts : List ℕ) → LosesGreatest n parts
loses_greatest n [] c upper φ u f l =
    ap φ (ended_content n 0 [] tt)
    ∙ sym (ap (λ b. cond b (φ (content n [] ++ (0 ∷ [])) +ℤ pos 0) (pos 0)) (le-leb 0 (length upper) (omega arith)) ∙ +ℤ_idr (φ (content n [] ++ (0 ∷ []))))
loses_greatest n (a ∷ parts) c upper φ u f l =
    rising-greatest n a (λ w. cond (columns_rise (ended n c upper) w) (over_rows (suc n) w parts (λ γ. φ (join (content (suc n) w) γ))) (pos 0))
    ∙ total_down_from-ext _ (λ (i : ℕ). cond (nat_le a (length upper)) (cond (nat_le (part parts 1) (a - i)) (left i) (pos 0)) (pos 0)) a
    (λ i h.
    rising-ext n (a - i) _ _ (λ v k m. row_ended n c i a upper v parts φ (loses_greatest n parts) u f l h k m)
    ∙ rising-under n (a - i) (nat_le a (length upper)) _
    ∙ ap (λ z. cond (nat_le a (length upper)) z (pos 0))
    (rising-under n (a - i) (nat_le (part parts 1) (a - i)) _
    ∙ ap (λ z. cond (nat_le (part parts 1) (a - i)) z (pos 0))
    (rising-total n (a - i) (λ (r : List ℕ × ℕ) (v : List ℕ). cond (columns_rise upper v) (over_rows n v r.0 (λ γ. φ (join (content n v) γ ++ ((i + r.1) ∷ [])))) (pos 0)) (removals parts))))
    ∙ total_cond (nat_le a (length upper)) (λ (i : ℕ). cond (nat_le (part parts 1) (a - i)) (left i) (pos 0)) (down_from a)
    ∙ ap (λ z. cond (nat_le a (length upper)) z (pos 0))
    (total_greatest a (part parts 1) left (Falls_first a parts f)
    ∙ total_ext left (λ (i : ℕ). total value (map (λ (r : List ℕ × ℕ). ((a - i) ∷ r.0, i + r.1)) (removals parts)))
    (λ i. sym (total_map value (λ (r : List ℕ × ℕ). ((a - i) ∷ r.0, i + r.1)) (removals parts))) (down_from (a - part parts 1))
    ∙ sym (total_each value (λ (i : ℕ). map (λ (r : List ℕ × ℕ). ((a - i) ∷ r.0, i + r.1)) (removals parts)) (down_from (a - part parts 1))))
  where
    value : List ℕ × ℕ → ℤ
    value r = over_rows n upper r.0 (λ γ. φ (γ ++ (r.1 ∷ [])))

    left : ℕ → ℤ
    left i = total (λ (r : List ℕ × ℕ). over_rows n upper ((a - i) ∷ r.0) (λ γ. φ (γ ++ ((i + r.1) ∷ [])))) (removals parts)

pub zeros_at_most : (n m : ℕ) → AreAtMost n (replicate m 0)
zeros_at_most n zero = tt
zeros_at_most n (suc m) = (omega arith, zeros_at_most n m)

pub over_rows-greatest : (n : ℕ) (parts : List ℕ) (φ : List ℕ → ℤ) → Falls parts
    → over_rows (suc n) [] parts φ ≡ total (λ (r : List ℕ × ℕ). over_rows n [] r.0 (λ γ. φ (γ ++ (r.1 ∷ [])))) (removals parts)
over_rows-greatest n parts φ f =
    over_rows-no_row_above (suc n) (part parts 1) parts φ
    ∙ ap (λ w. over_rows (suc n) w parts φ) (sym (append-nil zeros))
    ∙ loses_greatest n parts 0 zeros φ (zeros_at_most n (part parts 1)) f (let e = long in omega arith)
    ∙ ap (λ b. cond b (total (λ (r : List ℕ × ℕ). over_rows n zeros r.0 (λ γ. φ (γ ++ (r.1 ∷ [])))) (removals parts)) (pos 0)) (le-leb (part parts 1) (length zeros) (let e = long in omega arith))
    ∙ total_ext (λ (r : List ℕ × ℕ). over_rows n zeros r.0 (λ γ. φ (γ ++ (r.1 ∷ [])))) (λ (r : List ℕ × ℕ). over_rows n [] r.0 (λ γ. φ (γ ++ (r.1 ∷ []))))
    (λ r. sym (over_rows-no_row_above n (part parts 1) r.0 (λ γ. φ (γ ++ (r.1 ∷ []))))) (removals parts)
  where
    zeros : List ℕ
    zeros = replicate (part parts 1) 0

    long : length zeros ≡ part parts 1
    long = length-replicate (part parts 1) 0
