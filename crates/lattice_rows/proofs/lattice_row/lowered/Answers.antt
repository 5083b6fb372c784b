use Rattle.std.proofs.Common.{◌≡◌, suc, ◌+◌, ◌-◌, ◌<◌, ◌≤◌, ◌==◌, min, cond, take, get_or, ap, ap₂, ◌∙◌, sym, arith}
use Rattle.std.proofs.lemmas.List.{get_or-take, length-set}
use Rattle.lattice_rows.specs.LatticeRows.{greatest_end, row_room}
use Rattle.lattice_rows.proofs.LatticeBounds.{room_value, lowered_next, lowered_same}
use Rattle.lattice_rows.proofs.lattice_row.lowered.Goals as goal

pub loop-at-preserved : goal.loop-at-preserved
loop-at-preserved c =
    let n = c.args.row.now.letters in
    let m = c.loop-at.at in
    let out = c.args.row.now.below in
    let μ = take n c.args.row.now.content in
    let ν = take n c.args.state.now.content in
    let U = take n c.args.state.now.ends in
    let long = c.loop-at.invariant.long in
    let below : m < n = omega (arith, c.loop-at-test.true) in
    let few : n ≤ 8 = c.requires.letters in
    let at = get_or-take n c.args.row.now.content m 0 below in
    let here = get_or-take n c.args.state.now.content m 0 below in
    let before = get_or-take n c.args.state.now.content (m - 1) 0 (omega arith) in
    let end = get_or-take n c.args.state.now.ends (n - suc m) 0 (omega arith) in
    let same : n - 1 - m ≡ n - suc m = omega arith in
    let place = ap (λ i. get_or c.args.state.now.ends i 0) same in
    let missing : c.from-missing.result ≡ get_or μ m 0 - get_or ν m 0 = omega (arith, c.from-missing.ensures, c.saturating_sub.ensures) in
    let room : c.room_of-room.result ≡ min c.from-missing.result (cond (m == 0) c.from-missing.result (get_or ν (m - 1) 0 - get_or ν m 0)) =
    c.room_of-room.ensures ∙ ap₂ (λ x y. min c.from-missing.result (cond (m == 0) c.from-missing.result (x - y))) (sym before) (sym here) in
    let is-room : c.room_of-room.result ≡ row_room μ ν m = room_value m c.from-missing.result c.room_of-room.result μ ν missing room in
    let one : suc m ≡ m + 1 = omega arith in
    let was = c.loop-at.invariant.end in
    let is-end : c.min-end.result ≡ greatest_end n out μ ν U (suc m) = omega (arith, c.min-end.ensures, c.from.ensures) in
    record {
      long = length-set c.loop-at.ends (n - 1 - m) c.min-end.result ∙ long;
      done = lowered_next n m out μ ν U c.loop-at.ends c.min-end.result below (omega arith) c.loop-at.invariant.done is-end;
      end = is-end ∙ ap (λ i. greatest_end n out μ ν U i) one;
      small = omega (arith, c.min-end.ensures, c.from.ensures);
    }

pub returns-clause-same : goal.returns-clause-same
returns-clause-same c f reached =
    let n = c.args.row.now.letters in
    let few : n ≤ 8 = c.requires.letters in
    lowered_same n c.args.row.now.below (take n c.args.row.now.content) c.args.state.now.content c.args.state.now.ends c.loop-at.ends f (omega arith) (omega arith)
    (let l = c.loop-at.invariant.long in omega arith) reached (λ t q. c.loop-at.invariant.done t (omega (arith, c.loop-at-test.false)))
