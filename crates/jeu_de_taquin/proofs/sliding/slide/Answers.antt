use Rattle.std.proofs.Common.{◌≡◌, ap, sym, subst, ◌∙◌, ℕ, List, true}
use Rattle.std.proofs.lemmas.Bool.{false≢true}
use Rattle.sym_model.specs.Partition.{IsCell, part}
use Rattle.sym_model.specs.Insertion.{reading_word}
use Rattle.sym_model.specs.Knuth.{AreKnuthEquivalent}
use Rattle.sym_model.specs.Slide.{slide}
use Rattle.insertion_laws.proofs.SlidWords.{slide_class}
use Rattle.sym_model.specs.Tableau.{SkewFilling}
use Rattle.skew_shapes.specs.CellFillings.{IsFilling, is_tableau, with_inner_cell}
use Rattle.jeu_de_taquin.proofs.Neighbours.{IsFilling-with_inner_cell}
use Rattle.jeu_de_taquin.proofs.WholeSlides.{IsFilling-tableau, corner_cell, whole}
use Rattle.jeu_de_taquin.proofs.WholeSlides.{is_tableau-slide}
use Rattle.jeu_de_taquin.proofs.sliding.slide.Goals as goal

pub move_letters-last-requires-clause-filling : goal.move_letters-last-requires-clause-filling
move_letters-last-requires-clause-filling c =
    let opened : c.add_inner_cell.new.self ≡ with_inner_cell c.args.t c.args.row =
    c.add_inner_cell.ensures ∙ ap (λ (s : SkewFilling). with_inner_cell s c.args.row)
    c.into_filled-filled.ensures in
    subst IsFilling (sym opened)
    (IsFilling-with_inner_cell c.args.t c.args.row
    (IsFilling-tableau c.args.t c.shape.ensures.tableau) c.requires)

pub move_letters-last-requires-clause-cell : goal.move_letters-last-requires-clause-cell
move_letters-last-requires-clause-cell c =
    let opened : c.add_inner_cell.new.self ≡ with_inner_cell c.args.t c.args.row =
    c.add_inner_cell.ensures ∙ ap (λ (s : SkewFilling). with_inner_cell s c.args.row)
    c.into_filled-filled.ensures in
    let column : c.part-column.result ≡ part c.args.t.inner c.args.row =
    c.part-column.ensures.value ∙ ap (λ w. part w c.args.row)
    (c.inner.ensures.value ∙ ap (λ (s : List ℕ × List ℕ). s.1) c.shape.ensures.value) in
    subst (λ (s : SkewFilling). IsCell s.outer s.inner c.args.row c.part-column.result) (sym opened)
    (subst (IsCell c.args.t.outer (with_inner_cell c.args.t c.args.row).inner c.args.row)
    (sym column)
    (corner_cell c.args.t c.args.row c.shape.ensures.tableau c.requires))

pub unreachable-requires : goal.unreachable-requires
unreachable-requires c =
    let opened : c.add_inner_cell.new.self ≡ with_inner_cell c.args.t c.args.row =
    c.add_inner_cell.ensures ∙ ap (λ (s : SkewFilling). with_inner_cell s c.args.row)
    c.into_filled-filled.ensures in
    let column : c.part-column.result ≡ part c.args.t.inner c.args.row =
    c.part-column.ensures.value ∙ ap (λ w. part w c.args.row)
    (c.inner.ensures.value ∙ ap (λ (s : List ℕ × List ℕ). s.1) c.shape.ensures.value) in
    let m = c.move_letters-last.ensures in
    let slid : c.drop_outer_cell.new.self ≡ slide c.args.row c.args.t =
    whole c.args.t c.add_inner_cell.new.self c.move_letters-last.new.filled
    c.drop_outer_cell.new.self c.args.row c.part-column.result
    c.move_letters-last.result c.shape.ensures.tableau c.requires opened column m.outer m.inner
    m.filling m.corner m.cell m.rows
    c.drop_outer_cell.ensures in
    false≢true
    (c.in-Err.ensures.tableau.1
    (subst (λ (s : SkewFilling). is_tableau s ≡ true) (sym slid)
    (is_tableau-slide c.args.row c.args.t c.shape.ensures.tableau c.requires)))

pub returns-clause-slide : goal.returns-clause-slide
returns-clause-slide c =
    let opened : c.add_inner_cell.new.self ≡ with_inner_cell c.args.t c.args.row =
    c.add_inner_cell.ensures ∙ ap (λ (s : SkewFilling). with_inner_cell s c.args.row)
    c.into_filled-filled.ensures in
    let column : c.part-column.result ≡ part c.args.t.inner c.args.row =
    c.part-column.ensures.value ∙ ap (λ w. part w c.args.row)
    (c.inner.ensures.value ∙ ap (λ (s : List ℕ × List ℕ). s.1) c.shape.ensures.value) in
    let m = c.move_letters-last.ensures in
    c.in-Ok.ensures.ok
    ∙ whole c.args.t c.add_inner_cell.new.self c.move_letters-last.new.filled
    c.drop_outer_cell.new.self c.args.row c.part-column.result
    c.move_letters-last.result c.shape.ensures.tableau c.requires opened column m.outer m.inner
    m.filling m.corner m.cell m.rows
    c.drop_outer_cell.ensures

pub returns-clause-class : goal.returns-clause-class
returns-clause-class c =
    subst (λ (s : SkewFilling). AreKnuthEquivalent (reading_word c.args.t.rows)
    (reading_word s.rows)) (sym (returns-clause-slide c))
    (slide_class c.args.row c.args.t c.shape.ensures.tableau.tableau c.requires)
