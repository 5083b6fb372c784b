use Rattle.std.proofs.Common.{◌≡◌, ℕ, true, false, List, map, sym, ap, ap₂, ◌∙◌, Err, rules}
use Rattle.sym_model.specs.GoodTableau.{column_reading}
use Rattle.sym_model.specs.Partition.{cells}
use Rattle.strip_laws.proofs.Containment.{contains-tells}
use Rattle.skew_shapes.specs.CellFillings.{filled_with, is_tableau}
use Rattle.tableau_iter.proofs.EntryLimits.{filling_back}
use Rattle.tableau_iter.proofs.Tests.{reading_count}
use Rattle.calc_language.proofs.ReadTableaux.{is_tableau_back}
use Rattle.calc_language.proofs.tableaux.tableau_of.Goals as goal

clash : true ≡ false → ⊥
clash h = cc

pub unreachable-requires : goal.unreachable-requires
unreachable-requires c = search (rules, contains-tells)

pub returns-in-Ok : goal.returns-in-Ok
returns-in-Ok c =
    let o = c.args.outer in
    let i = c.args.inner in
    let rows = map (λ r. r.items) c.args.rows.now in
    let shape : ◌≡◌ {A = List ℕ × List ℕ} c.in-Some.shape (c.args.outer, c.args.inner) =
    c.in-Some.ensures.value in
    let o_is = c.parts.ensures.value ∙ c.outer.ensures.value ∙ ap (λ (s : List ℕ × List ℕ). s.0)
    shape in
    let i_is = c.parts-2.ensures.value ∙ c.inner.ensures.value ∙ ap (λ (s : List ℕ × List ℕ). s.1)
    shape in
    let letters = c.deref.ensures.value ∙ c.in_ok-letters.ensures
    ∙ ap₂ (λ p q. column_reading p q rows) o_is i_is in
    c.in-Ok.ensures.ok
    ∙ ap (λ (s : List ℕ × List ℕ). filled_with s.0 s.1 c.deref.result.now) shape
    ∙ ap (filled_with o i) letters
    ∙ ap (λ rs. record { outer = o; inner = i; rows = rs })
    (filling_back o i rows c.requires.outside.falls c.requires.cells)

pub unreachable-requires-in-Err-Length : goal.unreachable-requires-in-Err-Length
unreachable-requires-in-Err-Length c = search (rules, reading_count)

pub unreachable-requires-in-Err-Order : goal.unreachable-requires-in-Err-Order
unreachable-requires-in-Err-Order c =
    let o = c.args.outer in
    let i = c.args.inner in
    let rows = map (λ r. r.items) c.args.rows.now in
    let shape : ◌≡◌ {A = List ℕ × List ℕ} c.in-Some.shape (c.args.outer, c.args.inner) =
    c.in-Some.ensures.value in
    let o_is = c.parts.ensures.value ∙ c.outer.ensures.value ∙ ap (λ (s : List ℕ × List ℕ). s.0)
    shape in
    let i_is = c.parts-2.ensures.value ∙ c.inner.ensures.value ∙ ap (λ (s : List ℕ × List ℕ). s.1)
    shape in
    let letters = c.deref.ensures.value ∙ c.in_ok-letters.ensures
    ∙ ap₂ (λ p q. column_reading p q rows) o_is i_is in
    clash
    (sym (is_tableau_back o i rows c.requires)
    ∙ sym (ap (λ xs. is_tableau (filled_with o i xs)) letters)
    ∙ sym (ap (λ (s : List ℕ × List ℕ). is_tableau (filled_with s.0 s.1 c.deref.result.now)) shape)
    ∙ (c.in-Err-Order.ensures.order_only_there (ap Err c.in-Err-Order.field-0-is)).1)
