-- Good tableaux, described row by row by the letters of their padded rows. A tableau is good for the partition `start` if, for each column, start
-- plus the content of this column and of the columns to its right is a partition. A padded row begins with a zero for each cell of the inner
-- partition.
use Rattle.std.proofs.Common.{◌≡◌, ℕ, zero, suc, ◌+◌, ◌-◌, ◌<◌, ◌≤◌, ◌⊎◌, ◌==◌, true, cond, ◌&&◌, List, [], ◌∷◌, length, replicate, drop, get_or, nat_le, sym, ◌∙◌, ap, subst, refl, inl, inr, arith, rules}
use Rattle.std.proofs.lemmas.Bool.Decides.{nat_tests}
use Rattle.std.proofs.lemmas.Bool.{cases_lt, and_parts, and_from, le-leb}
use Rattle.std.proofs.lemmas.List.{get_or_past, get_or-drop}
use Rattle.sym_model.specs.Schur.{times_in, letters_of}
use Rattle.sym_model.specs.GoodTableau.{is_falling}
use Rattle.sym_model.proofs.Exponents.{get_or-join}
use Rattle.sym_model.proofs.Contents.{times_in-append}
use Rattle.tableau_laws.specs.PaddedRows.{put_row, transposed, line_of, pattern_of}
use Rattle.tableau_laws.specs.Grid.{is_chain, pass_by_place, first_line, may_stand_above, is_padded_tableau}
use Rattle.tableau_laws.specs.ColumnFold.{sum_reached, is_good_by_columns}
use Rattle.tableau_laws.proofs.PatternFillings.{Fits, AllFit}
use Rattle.alternant_laws.proofs.Exchanges.{length_content}
use Rattle.alternant_laws.proofs.StraightShapes.{at_content}
use Rattle.schur_laws.proofs.RisingRows.{Rises, rises_rest, none_up_to, few_times}
use Rattle.schur_laws.proofs.Interlacing.{add_up}
use Rattle.tableau_laws.proofs.Contents.{times_in-put}

-- `row P r`: row r of the padded rows P, counted from 0; empty after the last row
abbrev pub row : List (List ℕ) → ℕ → List ℕ
row P r = get_or P r []

-- ---- the numbers of zeros and of letters in a padded row (`RowCounts`)

pub record RowCounts (n b k : ℕ) (w : List ℕ) : Type 0 where
  pub zeros : times_in 0 w ≡ b
  pub long : length w ≡ b + k
  pub letters : (x : ℕ) → n < x → times_in x w ≡ 0

cells_tell : (n k : ℕ) (w : List ℕ) → Fits n (replicate k true) w → RowCounts n 0 k w
cells_tell n zero [] f = record { zeros = refl; long = refl; letters = λ x l. refl }
cells_tell n zero (a ∷ w) f = absurd f
cells_tell n (suc k) [] f = absurd f
cells_tell n (suc k) (a ∷ w) f = search (rules, nat_tests, (cells_tell n k w f.1))

pub line_tells : (n b k : ℕ) (w : List ℕ) → Fits n (line_of b k) w → RowCounts n b k w
line_tells n zero k w f = cells_tell n k w f
line_tells n (suc b) k [] f = absurd f
line_tells n (suc b) k (a ∷ w) f = search (rules, nat_tests, (line_tells n b k w f.1))

cells_back : (n k : ℕ) (w : List ℕ) → RowCounts n 0 k w → Fits n (replicate k true) w
cells_back n zero [] c = tt
cells_back n zero (a ∷ w) c = let e = c.long in absurd (omega arith)
cells_back n (suc k) [] c = let e = c.long in absurd (omega arith)
cells_back n (suc k) (a ∷ w) c = ((positive (cases_lt 0 a), small (cases_lt n a)), cells_back n k w rest)
  where
    positive : (0 < a) ⊎ (a ≤ 0) → 0 < a
    positive (inl l) = l
    positive (inr l) = let e = c.zeros in let g : cond {A = ℕ} (a == 0) 1 0 ≡ 1 = grind (arith, nat_tests) in absurd (omega arith)

    small : (n < a) ⊎ (a ≤ n) → a ≤ n
    small (inl l) = let e = c.letters a l in let g : cond {A = ℕ} (a == a) 1 0 ≡ 1 = grind (arith, nat_tests) in absurd (omega arith)
    small (inr l) = l

    rest : RowCounts n 0 k w
    rest = record { zeros = let e = c.zeros in omega arith; long = let e = c.long in omega arith; letters = λ x l. let e = c.letters x l in omega arith }

pub line_back : (n b k : ℕ) (w : List ℕ) → Rises w → RowCounts n b k w → Fits n (line_of b k) w
line_back n zero k w r c = cells_back n k w c
line_back n (suc b) k [] r c = let e = c.long in absurd (omega arith)
line_back n (suc b) k (a ∷ w) r c = (first, line_back n b k w (rises_rest a w r) rest)
  where
    by : (0 < a) ⊎ (a ≤ 0) → a ≡ 0
    by (inl l) = let e = c.zeros in let n' = none_up_to 0 a w r l in let m = few_times 0 (a ∷ w) in absurd (omega arith)
    by (inr l) = omega arith

    first : a ≡ 0
    first = by (cases_lt 0 a)

    rest : RowCounts n b k w
    rest = record {
      zeros = let e = c.zeros in let f = first in let g : cond {A = ℕ} (a == 0) 1 0 ≡ 1 = grind (arith, nat_tests) in omega arith;
      long = let e = c.long in omega arith;
      letters = λ x l. let e = c.letters x l in omega arith;
    }

pub fit_at : (n : ℕ) (outer inner : List ℕ) (P : List (List ℕ)) → AllFit n (pattern_of outer inner) P → (r : ℕ) → r < length outer
    → Fits n (line_of (get_or inner r 0) (get_or outer r 0 - get_or inner r 0)) (row P r)
fit_at n [] inner P f r l = absurd (omega arith)
fit_at n (a ∷ outer) inner [] f r l = absurd f
fit_at n (a ∷ outer) inner (w ∷ P) f zero l = f.0
fit_at n (a ∷ outer) inner (w ∷ P) f (suc r) l = search (rules, get_or-drop, (fit_at n outer (drop 1 inner) P f.1 r (omega arith)))

pub fit_all : (n : ℕ) (outer inner : List ℕ) (P : List (List ℕ)) → length P ≡ length outer
    → ((r : ℕ) → r < length outer → Fits n (line_of (get_or inner r 0) (get_or outer r 0 - get_or inner r 0)) (row P r))
    → AllFit n (pattern_of outer inner) P
fit_all n [] inner [] e h = tt
fit_all n [] inner (w ∷ P) e h = absurd (omega arith)
fit_all n (a ∷ outer) inner [] e h = absurd (omega arith)
fit_all n (a ∷ outer) inner (w ∷ P) e h =
    (h 0 (omega arith), fit_all n outer (drop 1 inner) P (omega arith) (λ r l. later r l))
  where
    later : (r : ℕ) → r < length outer → Fits n (line_of (get_or (drop 1 inner) r 0) (get_or outer r 0 - get_or (drop 1 inner) r 0)) (row P r)
    later r l =
        let f = get_or-drop 1 inner r 0 in
        let d : 1 + r ≡ suc r = omega arith in
        subst (λ b. Fits n (line_of b (get_or outer r 0 - b)) (row P r)) (sym (f ∙ ap (λ i. get_or inner i 0) d)) (h (suc r) (omega arith))

first_row : (P : List (List ℕ)) → first_line P ≡ row P 0
first_row [] = refl
first_row (w ∷ P) = refl

pub grid_tells : (P : List (List ℕ)) → is_padded_tableau P ≡ true → (r : ℕ) → Rises (row P r) × (pass_by_place may_stand_above (row P r) (row P (suc r)) ≡ true)
grid_tells [] e r = search rules
grid_tells (w ∷ P) e zero = search rules
grid_tells (w ∷ P) e (suc r) =
    let p = and_parts (is_chain nat_le w) (pass_by_place may_stand_above w (first_line P) && is_padded_tableau P) e in
    let q = and_parts (pass_by_place may_stand_above w (first_line P)) (is_padded_tableau P) p.1 in
    grid_tells P q.1 r

pub grid_back : (P : List (List ℕ)) → ((r : ℕ) → Rises (row P r)) → ((r : ℕ) → pass_by_place may_stand_above (row P r) (row P (suc r)) ≡ true) → is_padded_tableau P ≡ true
grid_back [] h g = refl
grid_back (w ∷ P) h g =
    and_from (is_chain nat_le w) (pass_by_place may_stand_above w (first_line P) && is_padded_tableau P) (h 0)
    (and_from (pass_by_place may_stand_above w (first_line P)) (is_padded_tableau P)
    (subst (λ v. pass_by_place may_stand_above w v ≡ true) (sym (first_row P)) (g 0)) (grid_back P (λ r. h (suc r)) (λ r. g (suc r))))

-- ---- the letters in the columns after the first j + 1 of a tableau, and start plus the content of these columns

drop_put : (k j : ℕ) (w : List ℕ) (cs : List (List ℕ))
    → times_in k (letters_of (drop (suc j) (put_row w cs))) ≡ times_in k (drop (suc j) w) + times_in k (letters_of (drop (suc j) cs))
drop_put k j [] cs = omega arith
drop_put k zero (x ∷ w) [] = times_in-put k w []
drop_put k (suc j) (x ∷ w) [] = drop_put k j w []
drop_put k zero (x ∷ w) (c ∷ cs) = times_in-put k w cs
drop_put k (suc j) (x ∷ w) (c ∷ cs) = drop_put k j w cs

pub add_up-later : (f : ℕ → ℕ) (a k : ℕ) → add_up f (suc a) k ≡ add_up (λ r. f (suc r)) a k
add_up-later f a zero = refl
add_up-later f a (suc k) = ap (λ n. f (suc a) + n) (add_up-later f (suc a) k)

pub letters_right : (k j : ℕ) (P : List (List ℕ)) → times_in k (letters_of (drop (suc j) (transposed P))) ≡ add_up (λ r. times_in k (drop (suc j) (row P r))) 0 (length P)
letters_right k j [] = refl
letters_right k j (w ∷ P) =
    drop_put k j w (transposed P) ∙ ap (λ n. times_in k (drop (suc j) w) + n) (letters_right k j P ∙ sym (add_up-later (λ r. times_in k (drop (suc j) (row (w ∷ P) r))) 0 (length P)))

pub letters_in_all : (k : ℕ) (P : List (List ℕ)) → times_in k (letters_of P) ≡ add_up (λ r. times_in k (row P r)) 0 (length P)
letters_in_all k [] = refl
letters_in_all k (w ∷ P) =
    times_in-append k w (letters_of P) ∙ ap (λ n. times_in k w + n) (letters_in_all k P ∙ sym (add_up-later (λ r. times_in k (row (w ∷ P) r)) 0 (length P)))

pub good_tells : (n : ℕ) (start : List ℕ) (cs : List (List ℕ)) → is_good_by_columns n start cs ≡ true → (j : ℕ) → is_falling (sum_reached n start (drop j cs)) ≡ true
good_tells n start [] e zero = e
good_tells n start [] e (suc j) = e
good_tells n start (c ∷ cs) e zero = (and_parts (is_falling (sum_reached n start (c ∷ cs))) (is_good_by_columns n start cs) e).0
good_tells n start (c ∷ cs) e (suc j) = good_tells n start cs (and_parts (is_falling (sum_reached n start (c ∷ cs))) (is_good_by_columns n start cs) e).1 j

pub good_back : (n : ℕ) (start : List ℕ) (cs : List (List ℕ)) → ((j : ℕ) → is_falling (sum_reached n start (drop j cs)) ≡ true) → is_good_by_columns n start cs ≡ true
good_back n start [] h = h 1
good_back n start (c ∷ cs) h = and_from (is_falling (sum_reached n start (c ∷ cs))) (is_good_by_columns n start cs) (h 0) (good_back n start cs (λ j. h (suc j)))

pub sum_at : (n : ℕ) (start : List ℕ) (cs : List (List ℕ)) → ((k : ℕ) → n < k → times_in k (letters_of cs) ≡ 0) → (i : ℕ)
    → get_or (sum_reached n start cs) i 0 ≡ get_or start i 0 + times_in (suc i) (letters_of cs)
sum_at n start cs h i = search (rules, get_or-join, cases_lt, at_content, length_content, get_or_past)

pub places_fall : (α : List ℕ) → ((i : ℕ) → get_or α (suc i) 0 ≤ get_or α i 0) → is_falling α ≡ true
places_fall [] h = refl
places_fall (a ∷ []) h = refl
places_fall (a ∷ b ∷ α) h = and_from (nat_le b a) (is_falling (b ∷ α)) (le-leb b a (h 0)) (places_fall (b ∷ α) (λ i. h (suc i)))
