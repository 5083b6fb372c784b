use Rattle.std.proofs.Common.{◌≡◌, ℕ, List, map, length, sym, ap, ap₂, ◌∙◌, subst}
use Rattle.sym_model.specs.GoodTableau.{column_reading, is_among, lattice_readings}
use Rattle.sym_model.specs.Partition.{Holds, cells}
use Rattle.tableau_iter.proofs.Tests.{lengths_told, right_lengths, not_contained, reading_count}
use Rattle.tableau_iter.proofs.lattice_words.lattice_reading.Goals as goal

pub returns-in_default : goal.returns-in_default
returns-in_default c =
    not_contained c.args.outer.now c.args.inner.now (map (λ r. r.items) c.args.rows.now)
    (λ h.
    let z = c.in_default.ensures.some.1 (subst (λ i. Holds c.in_ok-copy.field-0 i)
    (sym c.in_ok-copy-2.ensures.ok) (subst (λ o. Holds o c.args.inner.now)
    (sym c.in_ok-copy.ensures.ok) h)) in
    cc)

pub reading_of_rows-requires : goal.reading_of_rows-requires
reading_of_rows-requires c =
    lengths_told c.have_lengths.result (map length (map (λ r. r.items) c.args.rows.now))
    c.parts.result.now c.parts-2.result.now c.parts-3.result.now c.parts-4.result.now
    c.have_lengths.ensures c.if-not-have_lengths.false
    (c.parts.ensures.value ∙ sym c.parts-3.ensures.value)
    (c.parts-2.ensures.value ∙ sym c.parts-4.ensures.value)

pub is_listed-requires : goal.is_listed-requires
is_listed-requires c =
    let outer = c.args.outer.now in
    let inner = c.args.inner.now in
    let rows = map (λ r. r.items) c.args.rows.now in
    let l =
    lengths_told c.have_lengths.result (map length (map (λ r. r.items) c.args.rows.now))
    c.parts.result.now c.parts-2.result.now c.args.outer.now c.args.inner.now
    c.have_lengths.ensures c.if-not-have_lengths.false c.parts.ensures.value c.parts-2.ensures.value
    in
    let shape : ◌≡◌ {A = List ℕ × List ℕ} c.in-Some.shape (c.args.outer.now, c.args.inner.now) =
    c.in-Some.ensures.value ∙ ap₂ {C = List ℕ × List ℕ} (λ a b. (a, b)) c.in_ok-copy.ensures.ok
    c.in_ok-copy-2.ensures.ok in
    ap length (c.deref.ensures.value ∙ c.in_ok-reading.ensures
    ∙ ap₂ (λ o i. column_reading o i rows) c.parts-3.ensures.value c.parts-4.ensures.value)
    ∙ reading_count outer inner rows c.parts.ensures.limits.partition.falls l
    ∙ sym (ap (λ (s : List ℕ × List ℕ). length (cells s.0 s.1)) shape)

pub returns-then-not-branch : goal.returns-then-not-branch
returns-then-not-branch c =
    let outer = c.args.outer.now in
    let inner = c.args.inner.now in
    let rows = map (λ r. r.items) c.args.rows.now in
    let l =
    lengths_told c.have_lengths.result (map length (map (λ r. r.items) c.args.rows.now))
    c.parts.result.now c.parts-2.result.now c.args.outer.now c.args.inner.now
    c.have_lengths.ensures c.if-not-have_lengths.false c.parts.ensures.value c.parts-2.ensures.value
    in
    let shape : ◌≡◌ {A = List ℕ × List ℕ} c.in-Some.shape (c.args.outer.now, c.args.inner.now) =
    c.in-Some.ensures.value ∙ ap₂ {C = List ℕ × List ℕ} (λ a b. (a, b)) c.in_ok-copy.ensures.ok
    c.in_ok-copy-2.ensures.ok in
    let reading = c.deref.ensures.value ∙ c.in_ok-reading.ensures
    ∙ ap₂ (λ o i. column_reading o i rows) c.parts-3.ensures.value c.parts-4.ensures.value in
    right_lengths outer inner rows c.in_ok-is_listed.field-0 l
    (c.in_ok-is_listed.ensures
    ∙ ap (λ w. is_among w (lattice_readings c.in-Some.shape.0 c.in-Some.shape.1)) reading
    ∙ ap (λ (s : List ℕ × List ℕ). is_among (column_reading c.args.outer.now c.args.inner.now rows)
    (lattice_readings s.0 s.1)) shape)
    ∙ c.if-not-branch.true

pub returns : goal.returns
returns c =
    let outer = c.args.outer.now in
    let inner = c.args.inner.now in
    let rows = map (λ r. r.items) c.args.rows.now in
    let l =
    lengths_told c.have_lengths.result (map length (map (λ r. r.items) c.args.rows.now))
    c.parts.result.now c.parts-2.result.now c.args.outer.now c.args.inner.now
    c.have_lengths.ensures c.if-not-have_lengths.false c.parts.ensures.value c.parts-2.ensures.value
    in
    let shape : ◌≡◌ {A = List ℕ × List ℕ} c.in-Some.shape (c.args.outer.now, c.args.inner.now) =
    c.in-Some.ensures.value ∙ ap₂ {C = List ℕ × List ℕ} (λ a b. (a, b)) c.in_ok-copy.ensures.ok
    c.in_ok-copy-2.ensures.ok in
    let reading = c.in_ok-reading.ensures ∙ ap₂ (λ o i. column_reading o i rows)
    c.parts-3.ensures.value c.parts-4.ensures.value in (
      right_lengths outer inner rows c.in_ok-is_listed.field-0 l
          (c.in_ok-is_listed.ensures
          ∙ ap (λ w. is_among w (lattice_readings c.in-Some.shape.0 c.in-Some.shape.1))
          (c.deref.ensures.value ∙ reading)
          ∙ ap (λ (s : List ℕ × List ℕ). is_among (column_reading c.args.outer.now c.args.inner.now
          rows) (lattice_readings s.0 s.1)) shape)
          ∙ c.if-not-branch.false,
      c.in_ok-from_slice.ensures ∙ c.deref-2.ensures.value ∙ reading,
    )
