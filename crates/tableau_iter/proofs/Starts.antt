-- A *board* is the state of the code that lists column readings of tableaux one after another. Its *position* has the current word of the board, and
-- the setting, that is, the data that decide which letters fit. A new board lists all readings that its rule allows, or those after a given reading.
use Rattle.std.proofs.Common.{◌≡◌, ℕ, ◌≤◌, true, false, List, [], ◌++◌, map, length, take, get_or, ◌∙◌, ap, ap₂, sym, arith}
use Rattle.std.proofs.lemmas.Bool.{and_parts, true≢false, false_from_ne_true}
use Rattle.sym_model.specs.Sum.{Among}
use Rattle.sym_model.specs.Partition.{Falls, cells, rows, size}
use Rattle.sym_model.specs.Polynomial.{join}
use Rattle.sym_model.specs.Schur.{content, words}
use Rattle.sym_model.specs.GoodTableau.{column_reading, good_readings, good_tableaux, is_among}
use Rattle.sym_model.specs.TableauList.{later_than, readings_with_content, tableau_readings}
use Rattle.sym_model.proofs.Sums.{Among-select, Among_from_select}
use Rattle.skew_shapes.specs.Shapes.{IsSkew}
use Rattle.tableau_laws.proofs.GoodReadings.{is_among-from, is_among-tells}
use Rattle.tableau_iter.specs.Walks.{completions, later}
use Rattle.tableau_iter.specs.declared.rule.Rule.{Rule}
use Rattle.tableau_iter.specs.declared.rule.Rule.TheVariants.{Free, Falling, Limited}
use Rattle.tableau_iter.specs.Fits.{Neighbours, all_fit, allows, fits_by, stands_right}
use Rattle.tableau_iter.specs.Positions.{IsNearIn, IsNewBoard, IsSameUpTo, Position, Setting, fits_in, passes}
use Rattle.tableau_iter.proofs.GoodWords.{word_from}
use Rattle.tableau_iter.proofs.Orders.{length-reading}
use Rattle.tableau_iter.proofs.Tableaux.{lines-length}
use Rattle.tableau_iter.proofs.FittingWords.{Around, all_fit-at, content_readings-fits, front-stands, good_readings-fits, tableau_readings-fits}
use Rattle.tableau_iter.proofs.Boards.{ceiling-most}
use Rattle.tableau_iter.proofs.Resuming.{later_than-completions, not_among-completions}
use Rattle.tableau_iter.proofs.Membership.{all_within}
use Rattle.sym_model.specs.Bounded.{AreLetters}

around :
    (k : ℕ) (outer inner : List ℕ) (near : Neighbours) → IsSkew outer inner → (n : IsNearIn k outer inner near) → Around k outer inner n.lines n.ranks near
around k outer inner near s n = record {
  outside = s.outside.partition.falls;
  inside = s.inside.partition.falls;
  holds = s.holds;
  cells = n.cells;
  near_cells = n.near_cells;
}

new-list :
    (rule : Rule) (counts start : List ℕ) (k : ℕ) (outer inner : List ℕ) (p : Position) → IsNewBoard rule counts start k outer inner p
    → completions (passes p) p.setting.letters (length p.word) []
    ≡ completions (all_fit (fits_by rule counts start k p.setting.near) []) k (length (cells outer inner)) []
new-list rule counts start k outer inner p b =
    ap₂ (λ (s : Setting) n. completions (all_fit (fits_in s) []) s.letters n []) b.setting
    (b.cells ∙ length-reading outer inner b.shape.outside.partition.falls)

pub good-list :
    (counts start : List ℕ) (k : ℕ) (outer inner : List ℕ) (p : Position) → IsNewBoard Falling counts start k outer inner p → Falls start → rows start ≤ k
    → completions (passes p) p.setting.letters (length p.word) [] ≡ good_readings k start outer inner
good-list counts start k outer inner p b falls few =
    new-list Falling counts start k outer inner p b
    ∙ good_readings-fits counts start k outer inner b.near_in.lines b.near_in.ranks p.setting.near (around k outer inner p.setting.near b.shape b.near_in) falls few

pub tableau-list :
    (counts start : List ℕ) (k : ℕ) (outer inner : List ℕ) (p : Position) → IsNewBoard Free counts start k outer inner p
    → completions (passes p) p.setting.letters (length p.word) [] ≡ tableau_readings k outer inner
tableau-list counts start k outer inner p b =
    new-list Free counts start k outer inner p b
    ∙ tableau_readings-fits counts start k outer inner b.near_in.lines b.near_in.ranks p.setting.near (around k outer inner p.setting.near b.shape b.near_in)

pub content-list :
    (counts : List ℕ) (outer inner : List ℕ) (p : Position) → IsNewBoard Limited counts [] (length counts) outer inner p → size counts ≡ length (cells outer inner)
    → completions (passes p) p.setting.letters (length p.word) [] ≡ readings_with_content counts outer inner
content-list counts outer inner p b all =
    new-list Limited counts [] (length counts) outer inner p b
    ∙ content_readings-fits counts outer inner b.near_in.lines b.near_in.ranks p.setting.near (around (length counts) outer inner p.setting.near b.shape b.near_in) all

fitting-within :
    (rule : Rule) (counts start : List ℕ) (k : ℕ) (outer inner w : List ℕ) (p : Position) → IsNewBoard rule counts start k outer inner p
    → length w ≡ length p.word → passes p w ≡ true → AreLetters p.setting.letters w
fitting-within rule counts start k outer inner w p b l e =
    let n = b.near_in in
    let near = p.setting.near in
    let lines = lines-length outer inner n.lines n.ranks n.cells in
    let cells = b.cells in
    let letters : p.setting.letters ≡ k = ap (λ (s : Setting). s.letters) b.setting in
    all_within p.setting.letters w
    (λ q h.
    let fits =
    and_parts (stands_right p.setting.near (take q w) (get_or w q 0))
    (allows p.setting.rule p.setting.counts (join p.setting.start (content p.setting.letters (take q w))) (get_or w q 0))
    (all_fit-at (fits_in p.setting) [] w q e h) in
    let above = (n.near_cells.above.each q (omega arith)).within in
    let right = (n.near_cells.right.each q (omega arith)).within in
    let most = (n.near_cells.most q (omega arith)).value in
    let stands = front-stands p.setting.near w q h above right fits.0 in
    (omega (arith, stands.0), omega (arith, stands.1, ceiling-most near.right near.most w q, most, letters)))

among :
    (rule : Rule) (counts start : List ℕ) (k : ℕ) (outer inner w : List ℕ) (p : Position) → IsNewBoard rule counts start k outer inner p
    → length w ≡ length p.word → passes p w ≡ true → Among w (completions (passes p) p.setting.letters (length p.word) [])
among rule counts start k outer inner w p b l e =
    Among-select (λ v. passes p ([] ++ v)) w (words p.setting.letters (length p.word))
    (word_from p.setting.letters (length p.word) w l (fitting-within rule counts start k outer inner w p b l e)) e

pub resumed-listed :
    (counts start : List ℕ) (k : ℕ) (outer inner w : List ℕ) (p : Position) → IsNewBoard Falling counts start k outer inner p → Falls start → rows start ≤ k
    → length w ≡ length p.word → passes p w ≡ true → is_among w (good_readings k start outer inner) ≡ true
resumed-listed counts start k outer inner w p b falls few l e =
    ap (is_among w) (sym (good-list counts start k outer inner p b falls few))
    ∙ is_among-from w (completions (passes p) p.setting.letters (length p.word) []) (among Falling counts start k outer inner w p b l e)

pub resumed-later :
    (counts start : List ℕ) (k : ℕ) (outer inner w : List ℕ) (p : Position) → IsNewBoard Falling counts start k outer inner p → Falls start → rows start ≤ k
    → length w ≡ length p.word → passes p w ≡ true
    → later (passes p) p.setting.letters [] w ≡ later_than w (good_readings k start outer inner)
resumed-later counts start k outer inner w p b falls few l e =
    sym (later_than-completions (passes p) p.setting.letters (length p.word) [] w (among Falling counts start k outer inner w p b l e))
    ∙ ap (later_than w) (good-list counts start k outer inner p b falls few)

pub resumed-fails :
    (counts start : List ℕ) (k : ℕ) (outer inner w : List ℕ) (p : Position) → IsNewBoard Falling counts start k outer inner p → Falls start → rows start ≤ k
    → passes p w ≡ false → is_among w (good_readings k start outer inner) ≡ false
resumed-fails counts start k outer inner w p b falls few e =
    ap (is_among w) (sym (good-list counts start k outer inner p b falls few))
    ∙ false_from_ne_true (is_among w (completions (passes p) p.setting.letters (length p.word) []))
    (λ t.
    true≢false
    (sym (Among_from_select (λ v. passes p ([] ++ v)) w (words p.setting.letters (length p.word))
    (is_among-tells w (completions (passes p) p.setting.letters (length p.word) []) t)).1
    ∙ e))

pub wrong-length :
    (start : List ℕ) (k : ℕ) (outer inner w : List ℕ) → (length w ≡ length (cells outer inner) → ⊥) → is_among w (good_readings k start outer inner) ≡ false
wrong-length start k outer inner w n =
    not_among-completions (λ v. is_among v (map (column_reading outer inner) (good_tableaux k start outer inner))) k (length (cells outer inner)) w (λ h. n h.0)

-- let p be the position of a new board with the rule `Falling`, and let w have a letter for each cell, such that `passes p w` holds. If the position
-- q has the setting of p and the word w, then the words that `later` gives for q are those after w in the list of the good readings
pub resumed-rest :
    (counts start : List ℕ) (k : ℕ) (outer inner w : List ℕ) (p q : Position) → IsNewBoard Falling counts start k outer inner p → Falls start → rows start ≤ k
    → length w ≡ length p.word → passes p w ≡ true → IsSameUpTo 0 p q → q.word ≡ w
    → later (passes q) q.setting.letters [] q.word ≡ later_than w (good_readings k start outer inner)
resumed-rest counts start k outer inner w p q b falls few l e same is =
    ap₂ (λ (s : Setting) v. later (all_fit (fits_in s) []) s.letters [] v) same.setting is
    ∙ resumed-later counts start k outer inner w p b falls few l e
