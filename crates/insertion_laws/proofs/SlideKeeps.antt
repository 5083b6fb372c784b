-- A slide of a semistandard tableau gives a semistandard tableau.
use Rattle.std.proofs.Common.{◌≡◌, ℕ, zero, suc, ◌+◌, ◌-◌, ◌<◌, ◌≤◌, true, List, [], map, length, take, drop, get_or, ◌∙◌, ap, sym, refl, inl, inr, arith, rules}
use Rattle.std.proofs.lemmas.Bool.{cases_eq, cases_lt}
use Rattle.std.proofs.lemmas.List.{ext_get_or, get_or-map, get_or-take, get_or_past, length-map, length-take-le}
use Rattle.strip_laws.proofs.Containment.{contains-from, contains-tells}
use Rattle.sym_model.specs.Partition.{Falls, IsPartition, size, without_last_zeros}
use Rattle.sym_model.specs.Schur.{row_lengths, semistandard, letters_of}
use Rattle.sym_model.specs.Slide.{HasInnerCorner, lowered_at, outer_parts, slide, slid_rows}
use Rattle.sym_model.specs.Tableau.{IsTableau, SkewFilling, are_letters}
use Rattle.sym_model.proofs.SortedParts.{IsPartition-without_last_zeros, size-without_last_zeros}
use Rattle.sym_model.proofs.Parts.{length-without_last_zeros, get_or-without_last_zeros as get-dropped, get_or-lowered, get_or-not_lowered as get-not_lowered, size-lowered, positive_within, Falls_from_places}
use Rattle.sym_model.proofs.Tableaux.{length-row_lengths, get_or-row_lengths}
use Rattle.insertion_laws.proofs.RisingRows.{ends-at, length-ends}
use Rattle.insertion_laws.proofs.SlidLetters.{AreLetters-append, AreLetters-taken, AreLetters-dropped, slid-letters}
use Rattle.insertion_laws.proofs.KeptOrder.{IsLowered, ends-kept, length-rows_from, lowered_less, rows_from, order-kept, semistandard-taken, shape-from}
use Rattle.strip_laws.proofs.Strips.{falls_at}

part_lowered : (row : ℕ) (inner : List ℕ) → HasInnerCorner row inner → IsLowered (row - 1) inner (lowered_at row inner)
part_lowered zero inner h = absurd (omega (arith, h.0))
part_lowered (suc i) inner h = search (rules, get_or-lowered, get-not_lowered)

pub corner-lowered : (row : ℕ) (inner : List ℕ) → HasInnerCorner row inner → IsLowered (row - 1) inner (without_last_zeros (lowered_at row inner))
corner-lowered row inner h =
    let l = part_lowered row inner h in
    record {
      here = omega (arith, l.here, get-dropped (lowered_at row inner) (row - 1));
      others = λ k d. get-dropped (lowered_at row inner) k ∙ l.others k d;
      corner = l.corner;
    }

pub slide-smaller : (row : ℕ) (t : SkewFilling) → HasInnerCorner row t.inner → size (slide row t).inner + 1 ≡ size t.inner
slide-smaller zero t h = absurd (omega (arith, h.0))
slide-smaller (suc i) t h = search (rules, size-without_last_zeros, size-lowered)

-- ---- a tableau has one row for each entry of its outer partition, so it has the row in which a slide begins

pub count-rows : (t : SkewFilling) → IsTableau t.outer t.inner t.rows → length t.rows ≡ length t.outer
count-rows t h =
    sym (length-map t.rows (λ (w : List ℕ). length w)) ∙ ap length h.cells ∙ length-row_lengths t.outer t.inner

pub corner_row : (row : ℕ) (t : SkewFilling) → IsTableau t.outer t.inner t.rows → HasInnerCorner row t.inner → row - 1 < length t.rows
corner_row row t h c =
    let count = count-rows t h in
    omega (arith, positive_within t.outer (row - 1) (omega (arith, contains-tells t.outer t.inner h.holds row, c.1)))

falls-lowered : (i : ℕ) (inner new : List ℕ) → Falls inner → IsLowered i inner new → Falls new
falls-lowered i inner new f l =
    Falls_from_places new
    (λ k. elim (cases_eq k i) [
      | inl e ↦
          omega (
            arith,
            l.here,
            l.corner,
            l.others (k + 1) (λ z. omega arith),
            ap (λ n. get_or new n 0) e,
            ap (λ n. get_or inner (n + 1) 0) e,
          )
      | inr d ↦ omega (arith, l.others k d, falls_at inner f k, lowered_less i (k + 1) inner new l)
    ])

built : (new : List ℕ) (rows : List (List ℕ)) → IsPartition new → Falls (outer_parts new rows)
    → ((k : ℕ) → length rows ≤ k → get_or new k 0 ≡ 0)
    → are_letters (letters_of rows) ≡ true → semistandard new rows ≡ true
    → IsTableau (without_last_zeros (outer_parts new rows)) new (take (length (without_last_zeros (outer_parts new rows))) rows)
built new rows p f z l o =
    let ends = outer_parts new rows in
    let outer = without_last_zeros (outer_parts new rows) in
    let n = length (without_last_zeros (outer_parts new rows)) in
    let few : length (without_last_zeros (outer_parts new rows)) ≤ length rows = omega (arith, length-without_last_zeros (outer_parts new rows), length-ends new rows) in
    let kept : length (take n rows) ≡ length (without_last_zeros (outer_parts new rows)) = length-take-le n rows few in
    record {
      outside = IsPartition-without_last_zeros ends f;
      inside = p;
      holds = contains-from outer new
          (λ i. elim (cases_lt (i - 1) (length rows)) [
            | inl h ↦ omega (arith, get-dropped (outer_parts new rows) (i - 1), ends-at rows new (i - 1) h)
            | inr h ↦ omega (arith, z (i - 1) h)
          ]);
      cells = ext_get_or 0 (map length (take n rows)) (row_lengths outer new)
          (length-map (take n rows) (λ (w : List ℕ). length w) ∙ kept ∙ sym (length-row_lengths outer new))
          (λ k h.
          let within : k < n = omega (arith, length-map (take n rows) (λ (w : List ℕ). length w)) in
          get_or-map (λ (w : List ℕ). length w) (take n rows) k [] 0 (omega arith)
          ∙ ap (λ (w : List ℕ). length w) (get_or-take n rows k [] within)
          ∙ (let e : length (get_or rows k []) ≡ get_or (without_last_zeros (outer_parts new rows)) k 0 - get_or new k 0 =
          omega (arith, get-dropped (outer_parts new rows) k, ends-at rows new k (omega arith)) in e)
          ∙ sym (get_or-row_lengths outer new k));
      letters = AreLetters-taken n rows l;
      order = semistandard-taken n rows new o;
    }

pub slide-keeps :
    (row : ℕ) (t : SkewFilling) → IsTableau t.outer t.inner t.rows → HasInnerCorner row t.inner
    → IsTableau (slide row t).outer (slide row t).inner (slide row t).rows
slide-keeps row t h c =
    let new = without_last_zeros (lowered_at row t.inner) in
    let here = drop (row - 1) t.rows in
    let rows = rows_from (row - 1) new t.rows in
    let there = AreLetters-dropped (row - 1) t.rows h.letters in
    let within = corner_row row t h c in
    let shape = shape-from t.rows t.outer t.inner h.cells h.holds h.outside.falls h.inside.falls in
    let less = corner-lowered row t.inner c in
    let count = length-rows_from (row - 1) (without_last_zeros (lowered_at row t.inner)) t.rows within in
    built new rows
    (IsPartition-without_last_zeros (lowered_at row t.inner)
    (falls-lowered (row - 1) t.inner (lowered_at row t.inner) h.inside.falls (part_lowered row t.inner c)))
    (ends-kept (row - 1) t.inner new t.rows within shape h.order less)
    (λ k l.
    let e : k + 1 - 1 ≡ k = omega arith in
    omega (
      arith,
      lowered_less (row - 1) k t.inner (without_last_zeros (lowered_at row t.inner)) less,
      contains-tells t.outer t.inner h.holds (k + 1),
      ap (λ n. get_or t.outer n 0) e,
      ap (λ n. get_or t.inner n 0) e,
      get_or_past t.outer k 0 (omega (arith, count-rows t h, count)),
    ))
    (AreLetters-append (take (row - 1) t.rows) (slid_rows (drop (row - 1) new) [] (letters_of (take 1 here)) (drop 1 here))
    (AreLetters-taken (row - 1) t.rows h.letters)
    (slid-letters (drop 1 here) (drop (row - 1) new) [] (letters_of (take 1 here)) refl
    (AreLetters-taken 1 here there) (AreLetters-dropped 1 here there)))
    (order-kept (row - 1) t.inner new t.rows within shape h.order less)
