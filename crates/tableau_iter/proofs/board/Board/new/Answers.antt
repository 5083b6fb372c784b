use Rattle.std.proofs.Common.{ℕ, zero, suc, ◌+◌, ◌<◌, ◌≤◌, [], length, ap, ap₂, sym, ◌∙◌, refl, arith}
use Rattle.std.proofs.lemmas.List.{length-replicate}
use Rattle.sym_model.specs.Partition.{size, cells}
use Rattle.sym_model.specs.Polynomial.{join}
use Rattle.sym_model.specs.Schur.{content}
use Rattle.tableau_iter.specs.Positions.{near_of}
use Rattle.tableau_iter.proofs.Boards.{board, setting-same}
use Rattle.tableau_iter.proofs.FrontContents.{length-sums}
use Rattle.tableau_iter.proofs.Orders.{length-reading}
use Rattle.tableau_iter.proofs.board.Board.new.Goals as goal

with_start : (n cells : ℕ) → cells ≤ 4096 → (0 < n → n + cells ≤ 4096) → n + cells ≤ 4096
with_start zero cells l h = omega (arith, l)
with_start (suc n) cells l h = h (omega arith)

pub invariant_of-result : goal.invariant_of-result
invariant_of-result c =
    let near = near_of c.in_ok-near.near.above.items c.in_ok-near.near.right.items
    c.in_ok-near.near.most.items in
    let word = c.in_ok-word.ensures.items_if_clones_equal (λ y e. e) in
    let count = ap length word ∙ length-replicate {A = ℕ} c.from.result 0 ∙ c.from.ensures
    ∙ c.cells.ensures.value in
    let room = with_start (size c.args.start.now)
    (length (cells c.args.shape.now.0 c.args.shape.now.1))
    (omega (
      arith,
      c.cells.ensures.value,
      c.cells.ensures.sizes,
      c.cells.ensures.limits.outside.small,
    )) c.requires.small in
    board c.args.letters c.args.shape.now.0 c.args.shape.now.1 near c.in_ok-start.start.items
    c.in_ok-sums.sums.items c.in_ok-word.word.items c.in_ok-near.ensures
    (count ∙ sym (length-reading c.args.shape.now.0 c.args.shape.now.1
    c.cells.ensures.limits.outside.partition.falls))
    (omega (arith, ap size c.in_ok-start.ensures.items, count, room))
    (omega (arith, ap length c.in_ok-start.ensures.items, c.requires.rows)) c.requires.few
    (ap length c.in_ok-sums.ensures ∙ length-sums c.args.start.now [] c.args.letters
    c.requires.rows)

pub returns : goal.returns
returns c =
    let word = c.in_ok-word.ensures.items_if_clones_equal (λ y e. e) in
    let count = ap length word ∙ length-replicate {A = ℕ} c.from.result 0 ∙ c.from.ensures
    ∙ c.cells.ensures.value in
    let letters = ap length c.in_ok-sums.ensures ∙ length-sums c.args.start.now [] c.args.letters
    c.requires.rows in
    record {
      shape = c.cells.ensures.limits;
      setting = setting-same c.args.rule _ _ _ _ _ _ _ c.in_ok-counts.ensures.items
          c.in_ok-start.ensures.items letters;
      near_in = c.in_ok-near.ensures;
      cells = count ∙ sym (length-reading c.args.shape.now.0 c.args.shape.now.1
          c.cells.ensures.limits.outside.partition.falls);
      ready = record {
        fits = refl;
        sums = c.in_ok-sums.ensures ∙ sym (ap₂ (λ s k. join s (content k []))
            c.in_ok-start.ensures.items letters);
      };
    }
