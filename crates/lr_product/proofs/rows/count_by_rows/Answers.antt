use Rattle.std.proofs.Common.{◌≡◌, ℕ, ◌+◌, ◌-◌, ◌<◌, ◌≤◌, true, List, [], ◌∷◌, length, drop, get_or, refl, sym, ap, ap₂, subst, ◌∙◌, arith, rules}
use Rattle.std.specs.Prelude.{IfSome}
use Rattle.std.proofs.lemmas.Option.{IfSome_then}
use Rattle.sym_model.specs.Partition.{size}
use Rattle.sym_model.proofs.SortedParts.{IsPartition-none}
use Rattle.sym_model.specs.Schur.{contains}
use Rattle.sym_model.specs.Polynomial.{resize}
use Rattle.tableau_laws.specs.ColumnFold.{column_lines}
use Rattle.linear_combinations.proofs.Steps.{if_answered}
use Rattle.lr_product.specs.Capped.{Agree}
use Rattle.lr_product.specs.StateCounts.{StateCounts}
use Rattle.lr_product.specs.WeighedSum.{weighed, over_states, unreached, comes_to, VanishesOutside}
use Rattle.lr_product.specs.RowExtension.{over_rows, begun, VanishesBelow}
use Rattle.lr_product.proofs.Agreeing.{agree_then, agree_same}
use Rattle.lr_product.proofs.Rounds.{agree_zero, first_reached}
use Rattle.lr_product.proofs.RowRounds.{RowRoom, row_room, two_left, weighed_rows}
use Rattle.lr_product.proofs.Sums.{comes-inside, comes-below}
use Rattle.lr_product.proofs.rows.count_by_rows.Goals as goal

no_states : (n m : ℕ) (es : List (List ℕ × ℕ)) → ((f : List ℕ → List ℕ → ℕ) → Agree (weighed n f es) (f (resize n []) []))
    → weighed n (unreached n m) es ≡ 0
no_states n m es agree = first_reached n m [] es IsPartition-none (omega arith) agree

room : (row : ℕ) (outer inner parts : List ℕ) (b : ℕ) → contains outer inner ≡ true → size outer ≤ 4096 → parts ≡ outer → row < length parts → b ≡ get_or inner row 0
    → RowRoom 0 row (get_or parts row 0) b []
room row outer inner parts b holds small e h g =
    subst (λ x. RowRoom 0 row (get_or parts row 0) x []) (sym g)
    (subst (λ p. RowRoom 0 row (get_or p row 0) (get_or inner row 0) []) (sym e)
    (row_room 0 row outer inner [] (let l = ap length e in omega arith) holds small refl))

pub with_rows-requires-clause-reached : goal.with_rows-requires-clause-reached
with_rows-requires-clause-reached c =
    no_states (length c.args.content.now) (4096 - size c.args.outer.now) c.in_ok-starts.starts.entries
    c.in_ok-starts.ensures

pub completed_count-requires-clause-upper : goal.completed_count-requires-clause-upper
completed_count-requires-clause-upper c =
    (room (length c.parts-parts.result.now - 2) c.args.outer.now c.args.inner.now c.parts-parts.result.now
    c.part_at.result c.requires.inside c.requires.size c.parts-parts.ensures.value
    (omega (arith, c.if-parts-lt2.false)) c.part_at.ensures).cells

pub completed_count-requires-clause-lower : goal.completed_count-requires-clause-lower
completed_count-requires-clause-lower c =
    (room (length c.parts-parts.result.now - 2 + 1) c.args.outer.now c.args.inner.now
    c.parts-parts.result.now c.part_at-2.result c.requires.inside c.requires.size
    c.parts-parts.ensures.value (omega (arith, c.if-parts-lt2.false)) c.part_at-2.ensures).cells

pub completed_count-requires-clause-short : goal.completed_count-requires-clause-short
completed_count-requires-clause-short c =
    (room (length c.parts-parts.result.now - 2) c.args.outer.now c.args.inner.now c.parts-parts.result.now
    c.part_at.result c.requires.inside c.requires.size c.parts-parts.ensures.value
    (omega (arith, c.if-parts-lt2.false)) c.part_at.ensures).short

pub completed_count-requires-clause-below : goal.completed_count-requires-clause-below
completed_count-requires-clause-below c =
    (room (length c.parts-parts.result.now - 2 + 1) c.args.outer.now c.args.inner.now
    c.parts-parts.result.now c.part_at-2.result c.requires.inside c.requires.size
    c.parts-parts.ensures.value (omega (arith, c.if-parts-lt2.false)) c.part_at-2.ensures).short

pub returns : goal.returns
returns c =
    let content = c.args.content.now in
    let n = length content in
    let outer = c.args.outer.now in
    let inner = c.args.inner.now in
    let parts = c.parts-parts.result.now in
    let same = c.parts-parts.ensures.value in
    let u = length parts - 2 in
    let es = c.in-Some.table.entries in
    let starts = c.in_ok-starts.starts.entries in
    let F : List ℕ → List ℕ → ℕ = comes_to content in
    let two : length outer ≡ u + 2 = omega (arith, c.if-parts-lt2.false, ap length same) in
    let last : over_rows n (get_or parts u 0 ∷ get_or parts (u + 1) 0 ∷ [])
    (c.part_at.result ∷ c.part_at-2.result ∷ []) F ≡ over_rows n (drop u outer) (drop u inner) F =
    ap₂ (λ (o i : List ℕ). over_rows n o i F) (ap (λ p. get_or p u 0 ∷ get_or p (u + 1) 0 ∷ []) same)
    (ap₂ (λ (x y : ℕ). x ∷ y ∷ []) c.part_at.ensures c.part_at-2.ensures)
    ∙ sym (two_left n u outer inner F two) in
    let upper : Agree (weighed n (over_rows n (drop u outer) (drop u inner) F) es)
    (weighed n (over_rows n outer inner F) starts) =
    subst (λ o. IfSome o (λ (table : StateCounts). (f : List ℕ → ℕ)
    → VanishesOutside content (λ ν right. f ν) → VanishesBelow n 0 content (λ ν right. f ν)
    → Agree (weighed n (over_rows n (drop u outer) (drop u inner) (λ ν right. f ν)) table.entries)
    (weighed n (over_rows n outer inner (λ ν right. f ν)) starts))) c.in-Some.is
    c.in_ok-table.ensures.ways (λ ν. comes_to content ν []) (comes-inside content)
    (comes-below n content) in
    let columns : weighed n (over_rows n outer inner F) starts
    ≡ weighed n (over_states n (column_lines outer inner) F) starts =
    weighed_rows n (4096 - size outer) outer inner (λ ν. comes_to content ν []) starts (search rules)
    c.in_ok-table.ensures.shape.falls c.requires.inside
    (agree_zero _ _ (c.in_ok-starts.ensures begun) refl)
    (no_states n (4096 - size outer) starts c.in_ok-starts.ensures) in
    record {
      agrees = if_answered c.completed_count.result c.completed_count.ensures.agrees
          (λ o s. IfSome_then o s (λ count agree. agree_then _ _ _ agree
          (agree_then _ _ _ (agree_same _ _ (ap (λ (g : List ℕ → List ℕ → ℕ). weighed n g es) last))
          (agree_then _ _ _ upper
          (agree_then _ _ _ (agree_same _ _ columns)
          (c.in_ok-starts.ensures (over_states n (column_lines outer inner) F)))))));
    }
