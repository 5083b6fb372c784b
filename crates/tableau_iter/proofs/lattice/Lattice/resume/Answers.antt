use Rattle.std.proofs.Common.{◌≡◌, ◌≤◌, ℕ, List, length, ap, sym, ◌∙◌, subst, arith}
use Rattle.sym_model.specs.Partition.{Falls}
use Rattle.sym_model.specs.GoodTableau.{good_readings, is_among}
use Rattle.sym_model.specs.TableauList.{later_than}
use Rattle.tableau_iter.specs.Listings.{Listed}
use Rattle.tableau_iter.proofs.Orders.{length-reading}
use Rattle.tableau_iter.proofs.Starts.{resumed-fails, resumed-listed, resumed-rest, wrong-length}
use Rattle.tableau_iter.proofs.lattice.Lattice.resume.Goals as goal

pub returns-then-last-from-clause-not_in_list : goal.returns-then-last-from-clause-not_in_list
returns-then-last-from-clause-not_in_list c =
    λ _. wrong-length c.args.start.now c.args.rows c.args.shape.now.0 c.args.shape.now.1
    c.args.last.now
    (λ e. c.if-last-from.true (omega (arith, e, c.from.ensures, c.cells.ensures.value)))

pub put_all-requires-clause-word : goal.put_all-requires-clause-word
put_all-requires-clause-word c =
    let told = c.in_ok-board.ensures in
    omega (
      arith,
      c.if-last-from.false,
      c.from.ensures,
      c.cells.ensures.value,
      told.cells,
      length-reading c.args.shape.now.0 c.args.shape.now.1
          c.cells.ensures.limits.outside.partition.falls,
    )

pub returns-then-not-put_all-clause-not_in_list : goal.returns-then-not-put_all-clause-not_in_list
returns-then-not-put_all-clause-not_in_list c =
    let told = c.in_ok-board.ensures in
    λ _. ap (λ s. is_among c.args.last.now (good_readings c.args.rows s c.args.shape.now.0
    c.args.shape.now.1)) (sym c.parts.ensures.value)
    ∙ resumed-fails _ _ c.args.rows c.args.shape.now.0 c.args.shape.now.1 c.args.last.now
    c.in_ok-board.board told
    (subst Falls (sym c.parts.ensures.value) c.parts.ensures.limits.partition.falls)
    (subst (λ (s : List ℕ). length s ≤ c.args.rows) (sym c.parts.ensures.value) c.requires.start)
    (sym c.put_all.ensures.fits ∙ c.if-not-put_all.true)

pub returns-clause-rest : goal.returns-clause-rest
returns-clause-rest c =
    let told = c.in_ok-board.ensures in
    let count : length c.args.last.now ≡ length c.in_ok-board.board.word =
    omega (
      arith,
      c.if-last-from.false,
      c.from.ensures,
      c.cells.ensures.value,
      told.cells,
      length-reading c.args.shape.now.0 c.args.shape.now.1
          c.cells.ensures.limits.outside.partition.falls,
    ) in
    ap (λ (l : Listed). l.rest) c.at.ensures
    ∙ resumed-rest _ _ c.args.rows c.args.shape.now.0 c.args.shape.now.1 c.args.last.now
    c.in_ok-board.board c.put_all.new.board told
    (subst Falls (sym c.parts.ensures.value) c.parts.ensures.limits.partition.falls)
    (subst (λ (s : List ℕ). length s ≤ c.args.rows) (sym c.parts.ensures.value) c.requires.start)
    count (sym c.put_all.ensures.fits ∙ c.if-not-put_all.false) c.put_all.ensures.same
    c.if-not-put_all.ensures.word
    ∙ ap (λ s. later_than c.args.last.now (good_readings c.args.rows s c.args.shape.now.0
    c.args.shape.now.1)) c.parts.ensures.value

pub returns-clause-in_list : goal.returns-clause-in_list
returns-clause-in_list c =
    let told = c.in_ok-board.ensures in
    let count : length c.args.last.now ≡ length c.in_ok-board.board.word =
    omega (
      arith,
      c.if-last-from.false,
      c.from.ensures,
      c.cells.ensures.value,
      told.cells,
      length-reading c.args.shape.now.0 c.args.shape.now.1
          c.cells.ensures.limits.outside.partition.falls,
    ) in
    ap (λ s. is_among c.args.last.now (good_readings c.args.rows s c.args.shape.now.0
    c.args.shape.now.1)) (sym c.parts.ensures.value)
    ∙ resumed-listed _ _ c.args.rows c.args.shape.now.0 c.args.shape.now.1 c.args.last.now
    c.in_ok-board.board told
    (subst Falls (sym c.parts.ensures.value) c.parts.ensures.limits.partition.falls)
    (subst (λ (s : List ℕ). length s ≤ c.args.rows) (sym c.parts.ensures.value) c.requires.start)
    count (sym c.put_all.ensures.fits ∙ c.if-not-put_all.false)
