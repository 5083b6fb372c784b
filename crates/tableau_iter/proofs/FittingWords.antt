-- The column readings of three kinds of tableaux: those that are good for a partition `start` (for each column, start plus the content of that column
-- and of those right of it is a partition; the rule `Falling`), all tableaux (`Free`), and those with a given content (`Limited`). Each list has the
-- words in which every letter fits, by the rule of the list, after the letters before it (`fits_by`).
use Rattle.std.proofs.Common.{◌≡◌, ℕ, zero, suc, ◌-◌, ◌<◌, ◌≤◌, min, Bool, true, ◌&&◌, ◌==◌, cond, nat_le, nat_lt, List, [], ◌∷◌, ◌++◌, map, length, take, get_or, ◌∙◌, ap, ap₂, sym, refl, arith, append-nil, append_assoc, filter}
use Rattle.std.proofs.lemmas.Bool.{and_parts, le-leb, leb-true, lt-ltb, ltb-true, false_from_ne_true}
use Rattle.std.proofs.lemmas.List.{length-take, get_or-take}
use Rattle.sym_model.specs.Sum.{Among}
use Rattle.sym_model.specs.Partition.{Falls, after, cells, columns, size}
use Rattle.sym_model.specs.Polynomial.{join, same}
use Rattle.sym_model.specs.Schur.{content, contains, tableaux, words}
use Rattle.sym_model.specs.GoodTableau.{column_reading, every, good_readings, good_tableaux, is_among, is_good}
use Rattle.sym_model.specs.TableauList.{filling_of, reading_cells, readings_with_content, tableau_readings}
use Rattle.sym_model.proofs.Exponents.{same_true, tests_agree}
use Rattle.sym_model.proofs.Lists.{select-none}
use Rattle.strip_laws.proofs.Strips.{falls_get}
use Rattle.skew_shapes.specs.CellFillings.{filled_with, is_tableau}
use Rattle.skew_shapes.specs.Rows.{cells_right_of}
use Rattle.tableau_iter.specs.Walks.{completions}
use Rattle.tableau_iter.specs.Fits.{Neighbours, AreCells, AreNear, all_fit, allows, ceiling_at, fits_by, floor_at, stands_right}
use Rattle.tableau_iter.specs.declared.rule.Rule.{Rule}
use Rattle.tableau_iter.specs.declared.rule.Rule.TheVariants.{Free, Falling, Limited}
use Rattle.tableau_iter.proofs.Walking.{select-select}
use Rattle.tableau_iter.proofs.GoodWords.{good-listed, select-among, tableau-listed}
use Rattle.tableau_iter.proofs.Orders.{length-reading}
use Rattle.tableau_iter.proofs.Sums.{AreWithinLength, ends-within, falls_at, is_good-ends}
use Rattle.tableau_iter.proofs.Tableaux.{Stands, lines-length, stands-tableau, tableau-stands, within-at}
use Rattle.tableau_iter.proofs.FrontContents.{falls_at-from, good-allows}
use Rattle.tableau_iter.proofs.LetterCounts.{content-allows, content-from}
use Rattle.sym_model.specs.Bounded.{AreLetters}
use Rattle.sym_model.proofs.Contents.{size-content}
use Rattle.sym_model.proofs.Tableaux.{word_tells}
use Rattle.std.proofs.Math.Bool.{and-false}

pub all_fit-at :
    (fits : List ℕ → ℕ → Bool) (front w : List ℕ) (p : ℕ) → all_fit fits front w ≡ true → p < length w → fits (front ++ take p w) (get_or w p 0) ≡ true
all_fit-at fits front [] p e h = absurd (omega arith)
all_fit-at fits front (a ∷ w) zero e h =
    ap (λ l. fits l a) (append-nil front) ∙ (and_parts (fits front a) (all_fit fits (front ++ a ∷ []) w) e).0
all_fit-at fits front (a ∷ w) (suc p) e h =
    ap (λ l. fits l (get_or w p 0)) (sym (append_assoc front (a ∷ []) (take p w)))
    ∙ all_fit-at fits (front ++ a ∷ []) w p (and_parts (fits front a) (all_fit fits (front ++ a ∷ []) w) e).1 (omega arith)

pub all_fit-from :
    (fits : List ℕ → ℕ → Bool) (front w : List ℕ) → ((p : ℕ) → p < length w → fits (front ++ take p w) (get_or w p 0) ≡ true) → all_fit fits front w ≡ true
all_fit-from fits front [] h = refl
all_fit-from fits front (a ∷ w) h =
    ap₂ (λ x y. x && y) (ap (λ l. fits l a) (sym (append-nil front)) ∙ h 0 (omega arith))
    (all_fit-from fits (front ++ a ∷ []) w
    (λ p l. ap (λ l. fits l (get_or w p 0)) (append_assoc front (a ∷ []) (take p w)) ∙ h (suc p) (omega arith)))

-- ---- the bounds `floor_at` and `ceiling_at` of a letter depend only on the letters before it

front-length : (w : List ℕ) (p : ℕ) → p < length w → length (take p w) ≡ p
front-length w p h = omega (arith, length-take p w)

earlier_letter : (w : List ℕ) (p n : ℕ) → n ≤ p → 0 < n → get_or (take p w) (n - 1) 0 ≡ get_or w (n - 1) 0
earlier_letter w p n h l = get_or-take p w (n - 1) 0 (omega arith)

pub floor-front :
    (above w : List ℕ) (p : ℕ) → p < length w → get_or above p 0 ≤ p → floor_at above (take p w) (length (take p w)) ≡ floor_at above w p
floor-front above w p h b = ap (floor_at above (take p w)) (front-length w p h) ∙ by (get_or above p 0) b
  where
    by : (n : ℕ) → n ≤ p → cond (n == 0) 0 (get_or (take p w) (n - 1) 0) ≡ cond (n == 0) 0 (get_or w (n - 1) 0)
    by zero l = refl
    by (suc n) l = ap (λ x. cond (suc n == 0) 0 x) (earlier_letter w p (suc n) l (omega arith))

pub ceiling-front :
    (right most w : List ℕ) (p : ℕ) → p < length w → get_or right p 0 ≤ p → ceiling_at right most (take p w) (length (take p w)) ≡ ceiling_at right most w p
ceiling-front right most w p h b = ap (ceiling_at right most (take p w)) (front-length w p h) ∙ by (get_or right p 0) b
  where
    by : (n : ℕ) → n ≤ p
        → cond (n == 0) (get_or most p 0) (min (get_or most p 0) (get_or (take p w) (n - 1) 0))
        ≡ cond (n == 0) (get_or most p 0) (min (get_or most p 0) (get_or w (n - 1) 0))
    by zero l = refl
    by (suc n) l = ap (λ x. cond (suc n == 0) (get_or most p 0) (min (get_or most p 0) x)) (earlier_letter w p (suc n) l (omega arith))

stands-front :
    (near : Neighbours) (w : List ℕ) (p : ℕ) → p < length w → get_or near.above p 0 ≤ p → get_or near.right p 0 ≤ p → Stands near w p
    → stands_right near (take p w) (get_or w p 0) ≡ true
stands-front near w p h a r s =
    ap₂ (λ x y. x && y)
    (lt-ltb (floor_at near.above (take p w) (length (take p w))) (get_or w p 0) (omega (arith, s.0, floor-front near.above w p h a)))
    (le-leb (get_or w p 0) (ceiling_at near.right near.most (take p w) (length (take p w))) (omega (arith, s.1, ceiling-front near.right near.most w p h r)))

pub front-stands :
    (near : Neighbours) (w : List ℕ) (p : ℕ) → p < length w → get_or near.above p 0 ≤ p → get_or near.right p 0 ≤ p
    → stands_right near (take p w) (get_or w p 0) ≡ true → Stands near w p
front-stands near w p h a r e =
    let parts =
    and_parts (nat_lt (floor_at near.above (take p w) (length (take p w))) (get_or w p 0))
    (nat_le (get_or w p 0) (ceiling_at near.right near.most (take p w) (length (take p w)))) e in
    let low = ltb-true (floor_at near.above (take p w) (length (take p w))) (get_or w p 0) parts.0 in
    let high = leb-true (get_or w p 0) (ceiling_at near.right near.most (take p w) (length (take p w))) parts.1 in
    (omega (arith, low, floor-front near.above w p h a), omega (arith, high, ceiling-front near.right near.most w p h r))

-- ---- the readings of those tableaux whose letters a rule allows are the words in which each letter fits

-- outer/inner is a skew shape, and `lines` and `ranks` are the rows and the columns of its cells in reading order. For letters from 1 to k, `near`
-- has, for each cell, the indices of the neighbours above and on the right, and a bound for its letter (`IsGreatest`)
pub record Around (k : ℕ) (outer inner lines ranks : List ℕ) (near : Neighbours) : Type 0 where
  pub outside : Falls outer
  pub inside : Falls inner
  pub holds : contains outer inner ≡ true
  pub cells : AreCells outer inner lines ranks
  pub near_cells : AreNear k lines ranks near

back :
    (k : ℕ) (outer inner lines ranks : List ℕ) (near : Neighbours) (p : ℕ) → Around k outer inner lines ranks near → p < length (reading_cells outer inner)
    → (get_or near.above p 0 ≤ p) × (get_or near.right p 0 ≤ p)
back k outer inner lines ranks near p a h =
    let count = lines-length outer inner lines ranks a.cells in
    ((a.near_cells.above.each p (omega arith)).within, (a.near_cells.right.each p (omega arith)).within)

fits-from :
    (rule : Rule) (counts start : List ℕ) (k : ℕ) (outer inner lines ranks : List ℕ) (near : Neighbours) (w : List ℕ)
    → Around k outer inner lines ranks near → length w ≡ length (reading_cells outer inner) → AreLetters k w → is_tableau (filled_with outer inner w) ≡ true
    → ((p : ℕ) → p < length w → allows rule counts (join start (content k (take p w))) (get_or w p 0) ≡ true) → all_fit (fits_by rule counts start k near) [] w ≡ true
fits-from rule counts start k outer inner lines ranks near w a l within tableau allowed =
    all_fit-from (fits_by rule counts start k near) [] w
    (λ p h.
    let b = back k outer inner lines ranks near p a (omega arith) in
    ap₂ (λ x y. x && y)
    (stands-front near w p h b.0 b.1 (stands-tableau k outer inner w lines ranks near p a.inside l a.cells a.near_cells within tableau h))
    (allowed p h))

fits-tell :
    (rule : Rule) (counts start : List ℕ) (k : ℕ) (outer inner lines ranks : List ℕ) (near : Neighbours) (w : List ℕ)
    → Around k outer inner lines ranks near → length w ≡ length (reading_cells outer inner) → all_fit (fits_by rule counts start k near) [] w ≡ true
    → (is_tableau (filled_with outer inner w) ≡ true)
    × ((p : ℕ) → p < length w → allows rule counts (join start (content k (take p w))) (get_or w p 0) ≡ true)
fits-tell rule counts start k outer inner lines ranks near w a l e = (
  tableau-stands k outer inner w lines ranks near a.outside a.inside l a.cells a.near_cells
      (λ p h.
      let b = back k outer inner lines ranks near p a (omega arith) in
      front-stands near w p h b.0 b.1 (both p h).0),
  λ p h. (both p h).1,
)
  where
    both : (p : ℕ) → p < length w
        → (stands_right near (take p w) (get_or w p 0) ≡ true) × (allows rule counts (join start (content k (take p w))) (get_or w p 0) ≡ true)
    both p h =
        and_parts (stands_right near (take p w) (get_or w p 0)) (allows rule counts (join start (content k (take p w))) (get_or w p 0))
        (all_fit-at (fits_by rule counts start k near) [] w p e h)

pub every-within : (test : ℕ → Bool) (ends : List ℕ) (n : ℕ) → AreWithinLength ends n → ((e : ℕ) → e ≤ n → test e ≡ true) → every test ends ≡ true
every-within test [] n h t = refl
every-within test (e ∷ ends) n h t = ap₂ (λ x y. x && y) (t e h.0) (every-within test ends n h.1 t)

good-fits :
    (counts start : List ℕ) (k : ℕ) (outer inner lines ranks : List ℕ) (near : Neighbours) (w : List ℕ) → Around k outer inner lines ranks near
    → Falls start → length start ≤ k → Among w (words k (length (cells outer inner)))
    → (is_tableau (filled_with outer inner w) && is_good k start outer inner (filling_of outer inner w)) ≡ all_fit (fits_by Falling counts start k near) [] w
good-fits counts start k outer inner lines ranks near w a falls few m =
    let word = word_tells k (length (cells outer inner)) w m in
    let l : length w ≡ length (reading_cells outer inner) = word.0 ∙ sym (length-reading outer inner a.outside) in
    tests_agree (is_tableau (filled_with outer inner w) && is_good k start outer inner (filling_of outer inner w)) (all_fit (fits_by Falling counts start k near) [] w)
    (λ e.
    let parts = and_parts (is_tableau (filled_with outer inner w)) (is_good k start outer inner (filling_of outer inner w)) e in
    fits-from Falling counts start k outer inner lines ranks near w a l word.1 parts.0
    (λ p h.
    let letter = within-at k w p word.1 h in
    good-allows k start outer inner w p few a.outside a.inside l parts.0 parts.1 h letter.1 letter.0))
    (λ e.
    let told = fits-tell Falling counts start k outer inner lines ranks near w a l e in
    ap₂ (λ x y. x && y) told.0
    (sym (is_good-ends k start outer inner w l)
    ∙ every-within (falls_at k start w) (map (λ j. length (cells_right_of outer inner j)) (0 ∷ after 0 (columns outer))) (length w) (ends-within outer inner w l)
    (λ n h. falls_at-from k start w n few (falls_get start falls) (λ p q. ((within-at k w p word.1 q).1, told.1 p q)) h)))

tableau-fits :
    (counts start : List ℕ) (k : ℕ) (outer inner lines ranks : List ℕ) (near : Neighbours) (w : List ℕ) → Around k outer inner lines ranks near
    → Among w (words k (length (cells outer inner)))
    → is_tableau (filled_with outer inner w) ≡ all_fit (fits_by Free counts start k near) [] w
tableau-fits counts start k outer inner lines ranks near w a m =
    let word = word_tells k (length (cells outer inner)) w m in
    let l : length w ≡ length (reading_cells outer inner) = word.0 ∙ sym (length-reading outer inner a.outside) in
    tests_agree (is_tableau (filled_with outer inner w)) (all_fit (fits_by Free counts start k near) [] w)
    (λ e. fits-from Free counts start k outer inner lines ranks near w a l word.1 e (λ p h. refl))
    (λ e. (fits-tell Free counts start k outer inner lines ranks near w a l e).0)

content-fits :
    (counts : List ℕ) (k : ℕ) (outer inner lines ranks : List ℕ) (near : Neighbours) (w : List ℕ) → Around k outer inner lines ranks near
    → length counts ≡ k → size counts ≡ length (cells outer inner) → Among w (words k (length (cells outer inner)))
    → (is_tableau (filled_with outer inner w) && same (content k w) counts) ≡ all_fit (fits_by Limited counts [] k near) [] w
content-fits counts k outer inner lines ranks near w a few all m =
    let word = word_tells k (length (cells outer inner)) w m in
    let l : length w ≡ length (reading_cells outer inner) = word.0 ∙ sym (length-reading outer inner a.outside) in
    tests_agree (is_tableau (filled_with outer inner w) && same (content k w) counts) (all_fit (fits_by Limited counts [] k near) [] w)
    (λ e.
    let parts = and_parts (is_tableau (filled_with outer inner w)) (same (content k w) counts) e in
    fits-from Limited counts [] k outer inner lines ranks near w a l word.1 parts.0
    (λ p h.
    let letter = within-at k w p word.1 h in
    content-allows k counts w p few parts.1 h letter.0 letter.1))
    (λ e.
    let told = fits-tell Limited counts [] k outer inner lines ranks near w a l e in
    ap₂ (λ x y. x && y) told.0
    (content-from k counts w few (word.0 ∙ sym all) word.1
    (λ p h.
    let letter = within-at k w p word.1 h in
    (letter.0, letter.1, told.1 p h))))

pub good_readings-fits :
    (counts start : List ℕ) (k : ℕ) (outer inner lines ranks : List ℕ) (near : Neighbours) → Around k outer inner lines ranks near
    → Falls start → length start ≤ k
    → completions (all_fit (fits_by Falling counts start k near) []) k (length (cells outer inner)) [] ≡ good_readings k start outer inner
good_readings-fits counts start k outer inner lines ranks near a falls few =
    sym (select-among (λ w. is_among w (map (column_reading outer inner) (good_tableaux k start outer inner))) (all_fit (fits_by Falling counts start k near) [])
    (words k (length (cells outer inner)))
    (λ w m. good-listed k start outer inner w a.outside a.holds few m ∙ good-fits counts start k outer inner lines ranks near w a falls few m))

pub tableau_readings-fits :
    (counts start : List ℕ) (k : ℕ) (outer inner lines ranks : List ℕ) (near : Neighbours) → Around k outer inner lines ranks near
    → completions (all_fit (fits_by Free counts start k near) []) k (length (cells outer inner)) [] ≡ tableau_readings k outer inner
tableau_readings-fits counts start k outer inner lines ranks near a =
    sym (select-among (λ w. is_among w (map (column_reading outer inner) (tableaux k outer inner))) (all_fit (fits_by Free counts start k near) [])
    (words k (length (cells outer inner)))
    (λ w m. tableau-listed k outer inner w a.outside a.holds m ∙ tableau-fits counts start k outer inner lines ranks near w a m))

content-listed :
    (counts outer inner : List ℕ)
    → readings_with_content counts outer inner
    ≡ filter (λ w. is_among w (map (column_reading outer inner) (tableaux (length counts) outer inner)) && same (content (length counts) w) counts)
    (words (length counts) (length (cells outer inner)))
content-listed counts outer inner =
    select-select (λ w. is_among w (map (column_reading outer inner) (tableaux (length counts) outer inner))) (λ w. same (content (length counts) w) counts)
    (words (length counts) (length (cells outer inner)))

pub content_readings-fits :
    (counts outer inner lines ranks : List ℕ) (near : Neighbours) → Around (length counts) outer inner lines ranks near
    → size counts ≡ length (cells outer inner)
    → completions (all_fit (fits_by Limited counts [] (length counts) near) []) (length counts) (length (cells outer inner)) [] ≡ readings_with_content counts outer inner
content_readings-fits counts outer inner lines ranks near a all =
    let k = length counts in
    sym (content-listed counts outer inner
    ∙ select-among (λ w. is_among w (map (column_reading outer inner) (tableaux (length counts) outer inner)) && same (content (length counts) w) counts)
    (all_fit (fits_by Limited counts [] (length counts) near) []) (words (length counts) (length (cells outer inner)))
    (λ w m.
    ap (λ b. b && same (content (length counts) w) counts) (tableau-listed k outer inner w a.outside a.holds m)
    ∙ content-fits counts k outer inner lines ranks near w a refl all m))

-- if the numbers of a content do not add up to the number of cells of outer/inner, no tableau of outer/inner has this content
pub no_content :
    (counts outer inner : List ℕ) → (size counts ≡ length (cells outer inner) → ⊥) → readings_with_content counts outer inner ≡ []
no_content counts outer inner n =
    let k = length counts in
    content-listed counts outer inner
    ∙ select-none (λ w. is_among w (map (column_reading outer inner) (tableaux (length counts) outer inner)) && same (content (length counts) w) counts)
    (words (length counts) (length (cells outer inner)))
    (λ w m.
    let word = word_tells k (length (cells outer inner)) w m in
    ap (λ b. is_among w (map (column_reading outer inner) (tableaux (length counts) outer inner)) && b)
    (false_from_ne_true (same (content (length counts) w) counts)
    (λ e. n (sym (ap size (same_true (content (length counts) w) counts e)) ∙ size-content k w word.1 ∙ word.0)))
    ∙ and-false (is_among w (map (column_reading outer inner) (tableaux (length counts) outer inner))))
