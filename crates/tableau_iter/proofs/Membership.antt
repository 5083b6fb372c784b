-- The test of whether a word is among the readings of the lattice tableaux of a skew shape. These are the tableaux that are good for the empty
-- partition, called the empty start: their column readings are lattice words.
use Rattle.std.proofs.Common.{◌≡◌, ℕ, suc, ◌<◌, ◌≤◌, Bool, true, false, ◌&&◌, cond, nat_le, List, [], ◌∷◌, map, length, take, get_or, ◌∙◌, ap, ap₂, sym, refl, arith, filter}
use Rattle.std.proofs.lemmas.Bool.{and_parts, le-leb, leb-true, true≢false, false_from_ne_true}
use Rattle.sym_model.specs.Sum.{Among}
use Rattle.sym_model.specs.Partition.{Falls, after, cells, columns}
use Rattle.sym_model.specs.Polynomial.{join}
use Rattle.sym_model.specs.Schur.{content, contains, fillings_of, row_lengths, semistandard, words}
use Rattle.sym_model.specs.GoodTableau.{column_reading, good_tableaux, is_among, is_good, lattice_readings}
use Rattle.sym_model.specs.TableauList.{filling_of, reading_cells}
use Rattle.sym_model.proofs.Exponents.{tests_agree}
use Rattle.sym_model.proofs.Sums.{Among-select, Among_from_select}
use Rattle.skew_shapes.specs.CellFillings.{filled_with, is_tableau}
use Rattle.skew_shapes.specs.Rows.{cells_right_of}
use Rattle.tableau_laws.proofs.GoodReadings.{is_among-from, is_among-tells}
use Rattle.tableau_iter.specs.Fits.{allows}
use Rattle.tableau_iter.specs.declared.rule.Rule.TheVariants.{Falling}
use Rattle.tableau_iter.proofs.FittingWords.{all_fit-at, all_fit-from, every-within}
use Rattle.tableau_iter.proofs.FrontContents.{falls_at-from, good-allows}
use Rattle.tableau_iter.proofs.GoodWords.{good-listed, word_from}
use Rattle.tableau_iter.proofs.Orders.{length-reading}
use Rattle.tableau_iter.proofs.Sums.{ends-within, falls_at, is_good-ends}
use Rattle.tableau_iter.proofs.Tableaux.{within-at}
use Rattle.tableau_iter.specs.LatticeWords.{is_lattice_word, may_follow}
use Rattle.sym_model.specs.Bounded.{AreLetters}
use Rattle.sym_model.proofs.Tableaux.{word_tells}

-- if w is among the lattice readings of outer/inner, its letters are from 1 to the number of rows of outer, its length is the number of cells, and it
-- is the column reading of a good tableau for the empty start
pub listed_tells : (outer inner w : List ℕ) → is_among w (lattice_readings outer inner) ≡ true
    → Among w (words (length outer) (length (cells outer inner))) × (is_among w (map (column_reading outer inner) (good_tableaux (length outer) [] outer inner)) ≡ true)
listed_tells outer inner w h =
    Among_from_select (λ v. is_among v (map (column_reading outer inner) (good_tableaux (length outer) [] outer inner))) w
    (words (length outer) (length (cells outer inner))) (is_among-tells w (lattice_readings outer inner) h)

listed_from : (outer inner w : List ℕ) → Among w (words (length outer) (length (cells outer inner)))
    → is_among w (map (column_reading outer inner) (good_tableaux (length outer) [] outer inner)) ≡ true → is_among w (lattice_readings outer inner) ≡ true
listed_from outer inner w m h =
    is_among-from w (lattice_readings outer inner)
    (Among-select (λ v. is_among v (map (column_reading outer inner) (good_tableaux (length outer) [] outer inner))) w
    (words (length outer) (length (cells outer inner))) m h)

pub none_outside : (outer inner w : List ℕ) → contains outer inner ≡ false → is_among w (lattice_readings outer inner) ≡ false
none_outside outer inner w n =
    false_from_ne_true (is_among w (lattice_readings outer inner))
    (λ h.
    let e : is_among w (map (column_reading outer inner) (good_tableaux (length outer) [] outer inner)) ≡ true = (listed_tells outer inner w h).1 in
    true≢false (sym e ∙ none))
  where
    empty : (b : Bool) → is_among w (map (column_reading outer inner) (cond b [] [])) ≡ false
    empty true = refl
    empty false = refl

    none : is_among w (map (column_reading outer inner) (good_tableaux (length outer) [] outer inner)) ≡ false
    none =
        ap
        (λ b.
        is_among w
        (map (column_reading outer inner)
        (cond (nat_le 0 (length outer))
        (filter (is_good (length outer) [] outer inner) (cond b (filter (semistandard inner) (fillings_of (length outer) (row_lengths outer inner))) [])) [])))
        n
        ∙ empty (nat_le 0 (length outer))

listed_is : (outer inner w : List ℕ) → Falls outer → contains outer inner ≡ true → Among w (words (length outer) (length (cells outer inner)))
    → is_among w (map (column_reading outer inner) (good_tableaux (length outer) [] outer inner))
    ≡ (is_tableau (filled_with outer inner w) && is_good (length outer) [] outer inner (filling_of outer inner w))
listed_is outer inner w f c m = good-listed (length outer) [] outer inner w f c (omega arith) m

pub none_disordered : (outer inner w : List ℕ) → Falls outer → contains outer inner ≡ true → is_tableau (filled_with outer inner w) ≡ false
    → is_among w (lattice_readings outer inner) ≡ false
none_disordered outer inner w f c n =
    false_from_ne_true (is_among w (lattice_readings outer inner))
    (λ h.
    let told = listed_tells outer inner w h in
    let both = and_parts (is_tableau (filled_with outer inner w)) (is_good (length outer) [] outer inner (filling_of outer inner w))
    (sym (listed_is outer inner w f c told.0) ∙ told.1) in
    true≢false (sym both.0 ∙ n))

letter_at : (k : ℕ) (w : List ℕ) (p : ℕ) → is_lattice_word k w ≡ true → p < length w
    → (1 ≤ get_or w p 0) × (get_or w p 0 ≤ k) × (allows Falling [] (join [] (content k (take p w))) (get_or w p 0) ≡ true)
letter_at k w p e h =
    let a = get_or w p 0 in
    let all = all_fit-at (may_follow k) [] w p e h in
    let counts = content k (take p w) in
    let both = and_parts (nat_le 1 (get_or w p 0) && nat_le (get_or w p 0) k) (allows Falling [] (join [] (content k (take p w))) (get_or w p 0)) all in
    let within = and_parts (nat_le 1 (get_or w p 0)) (nat_le (get_or w p 0) k) both.0 in
    (leb-true 1 (get_or w p 0) within.0, leb-true (get_or w p 0) k within.1, both.1)

pub all_within : (k : ℕ) (w : List ℕ) → ((p : ℕ) → p < length w → (1 ≤ get_or w p 0) × (get_or w p 0 ≤ k)) → AreLetters k w
all_within k [] h = tt
all_within k (a ∷ w) h = (h 0 (omega arith), all_within k w (λ p l. h (suc p) (omega arith)))

lattice_good : (outer inner w : List ℕ) → length w ≡ length (reading_cells outer inner) → is_lattice_word (length outer) w ≡ true
    → is_good (length outer) [] outer inner (filling_of outer inner w) ≡ true
lattice_good outer inner w l e =
    let k = length outer in
    sym (is_good-ends (length outer) [] outer inner w l)
    ∙ every-within (falls_at (length outer) [] w) (map (λ j. length (cells_right_of outer inner j)) (0 ∷ after 0 (columns outer))) (length w) (ends-within outer inner w l)
    (λ n h. falls_at-from (length outer) [] w n (omega arith) (λ i. omega arith)
    (λ p q. let t = letter_at (length outer) w p e q in (t.1, t.2)) h)

-- if w has a letter for each cell of outer/inner and its filling is a tableau, w is among the lattice readings if and only if it is a lattice word in
-- letters from 1 to the number of rows of outer
pub lattice_listed : (outer inner w : List ℕ) → Falls outer → Falls inner → contains outer inner ≡ true → length w ≡ length (cells outer inner)
    → is_tableau (filled_with outer inner w) ≡ true → is_lattice_word (length outer) w ≡ is_among w (lattice_readings outer inner)
lattice_listed outer inner w f g c l t =
    let long : length w ≡ length (reading_cells outer inner) = l ∙ sym (length-reading outer inner f) in
    tests_agree (is_lattice_word (length outer) w) (is_among w (lattice_readings outer inner))
    (λ e.
    let m = word_from (length outer) (length (cells outer inner)) w l (all_within (length outer) w (λ p h. let t = letter_at (length outer) w p e h in (t.0, t.1))) in
    listed_from outer inner w m (listed_is outer inner w f c m ∙ ap₂ (λ x y. x && y) t (lattice_good outer inner w long e)))
    (λ e.
    let told = listed_tells outer inner w e in
    let both = and_parts (is_tableau (filled_with outer inner w)) (is_good (length outer) [] outer inner (filling_of outer inner w))
    (sym (listed_is outer inner w f c told.0) ∙ told.1) in
    let word = word_tells (length outer) (length (cells outer inner)) w told.0 in
    all_fit-from (may_follow (length outer)) [] w
    (λ p h.
    let letter = within-at (length outer) w p word.1 h in
    ap₂ (λ x y. x && y)
    (ap₂ (λ x y. x && y) (le-leb 1 (get_or w p 0) letter.0) (le-leb (get_or w p 0) (length outer) letter.1))
    (good-allows (length outer) [] outer inner w p (omega arith) f g long t both.1 h letter.1 letter.0)))
