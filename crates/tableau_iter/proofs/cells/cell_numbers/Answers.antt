use Rattle.std.proofs.Common.{◌≡◌, ℕ, Bool, List, [], ◌++◌, cond, map, length, ap, ap₂, ◌∙◌, arith}
use Rattle.std.proofs.lemmas.List.{length-map}
use Rattle.sym_model.specs.TableauList.{reading_cells}
use Rattle.tableau_iter.proofs.Orders.{length-reading}
use Rattle.tableau_iter.proofs.cells.cell_numbers.Goals as goal

moved :
    (of_row : Bool) (numbers given outer outer' inner inner' : List ℕ)
    → numbers ≡ given ++ map (λ (c : ℕ × ℕ). cond of_row c.0 c.1) (reading_cells outer inner) →
    given ≡ [] → outer ≡ outer' → inner ≡ inner'
    → numbers ≡ map (λ (c : ℕ × ℕ). cond of_row c.0 c.1) (reading_cells outer' inner')
moved of_row numbers given outer outer' inner inner' put none o i =
    put ∙ ap (λ l. l ++ map (λ (c : ℕ × ℕ). cond of_row c.0 c.1) (reading_cells outer inner)) none
    ∙ ap₂ (λ a b. map (λ (c : ℕ × ℕ). cond of_row c.0 c.1) (reading_cells a b)) o i

pub returns-clause-value : goal.returns-clause-value
returns-clause-value c =
    moved c.args.of_row c.push_columns.new.numbers.items c.in_ok-numbers.numbers.items _ _ _ _
    c.in_ok-push_columns.ensures c.in_ok-numbers.ensures.items
    (c.parts.ensures.value ∙ c.outer.ensures.value)
    (c.parts-2.ensures.value ∙ c.inner.ensures.value)

pub returns-clause-few : goal.returns-clause-few
returns-clause-few c =
    let outer = c.args.shape.now.0 in
    let inner = c.args.shape.now.1 in
    let all =
    moved c.args.of_row c.push_columns.new.numbers.items c.in_ok-numbers.numbers.items _ _ _ _
    c.in_ok-push_columns.ensures c.in_ok-numbers.ensures.items
    (c.parts.ensures.value ∙ c.outer.ensures.value)
    (c.parts-2.ensures.value ∙ c.inner.ensures.value) in
    omega (
      arith,
      ap length all,
      length-map {A = ℕ × ℕ} {B = ℕ} (reading_cells outer inner)
          (λ (d : ℕ × ℕ). cond c.args.of_row d.0 d.1),
      length-reading outer inner c.cells.ensures.limits.outside.partition.falls,
      c.cells.ensures.value,
      c.cells.ensures.sizes,
      c.cells.ensures.limits.outside.small,
    )
