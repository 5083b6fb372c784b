use Rattle.std.proofs.Common.{◌≡◌, ℕ, ◌++◌, [], List, map, sym, ap, ◌∙◌, subst, rules}
use Rattle.std.specs.Result.{IfOk}
use Rattle.sym_model.specs.GoodTableau.{column_reading}
use Rattle.sym_model.specs.Tableau.{SkewFilling}
use Rattle.sym_model.specs.TableauList.{reading_cells}
use Rattle.skew_shapes.specs.Rows.{number_in, filling_in}
use Rattle.skew_shapes.proofs.CellReadings.{reading-rows_by}
use Rattle.skew_shapes.proofs.filled.Filled.column_reading.Goals as goal

reading :
    (shape : List ℕ × List ℕ) (starts numbers letters : List ℕ) (t : SkewFilling) → filling_in
    shape starts numbers ≡ t
    → letters ≡ map (λ (c : ℕ × ℕ). number_in starts numbers c.0 c.1)
    (reading_cells shape.0 shape.1)
    → letters ≡ column_reading t.outer t.inner t.rows
reading shape starts numbers letters t e is =
    is ∙ sym (reading-rows_by (number_in starts numbers) shape.0 shape.1)
    ∙ ap (λ (t : SkewFilling). column_reading t.outer t.inner t.rows) e

moved :
    (letters given starts starts' numbers numbers' outer outer' inner inner' : List ℕ)
    → letters ≡ given ++ map (λ (c : ℕ × ℕ). number_in starts numbers c.0 c.1)
    (reading_cells outer inner) → given ≡ []
    → starts ≡ starts' → numbers ≡ numbers' → outer ≡ outer' → inner ≡ inner'
    → letters ≡ map (λ (c : ℕ × ℕ). number_in starts' numbers' c.0 c.1)
    (reading_cells outer' inner')
moved letters given starts starts' numbers numbers' outer outer' inner inner' put none s n o i =
    search rules

pub returns : goal.returns
returns c =
    let put = c.in_ok-push_columns.ensures in
    let letters = reading c.self.inside.shape c.self.inside.starts.items c.self.inside.numbers.items
    c.push_columns.new.letters.items c.args.self.now c.self.view_is
    (moved c.push_columns.new.letters.items c.new-letters.result.items _ _ _ _ _ _ _ _ put
    c.new-letters.ensures.items c.deref.ensures.value
    c.deref-2.ensures.value (c.parts.ensures.value ∙ c.outer.ensures.value)
    (c.parts-2.ensures.value ∙ c.inner.ensures.value)) in
    let all = c.deref-3.ensures.value ∙ letters in
    subst (λ l. IfOk c.from_slice.result (λ w. w ≡ l)) all c.from_slice.ensures
