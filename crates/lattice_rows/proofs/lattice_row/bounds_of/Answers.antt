use Rattle.std.proofs.Common.{◌≡◌, ◌+◌, ◌-◌, ◌<◌, ◌≤◌, suc, take, get_or, ap, ◌∙◌, arith}
use Rattle.std.proofs.lemmas.List.{get_or-set_same, get_or-take, length-set}
use Rattle.lattice_rows.specs.LatticeRows.{least_end, greatest_end, row_room}
use Rattle.lattice_rows.proofs.LatticeBounds.{bounds_next, room_value}
use Rattle.lattice_rows.proofs.lattice_row.bounds_of.Goals as goal

pub loop-at-preserved : goal.loop-at-preserved
loop-at-preserved c =
    let n = c.args.letters in
    let m = c.loop-at.at in
    let out = c.args.outside in
    let μ = take n c.args.content in
    let start = c.args.start.content in
    let U = take n c.args.start.ends in
    let room-long = c.loop-at.invariant.room_long in
    let least-long = c.loop-at.invariant.least_long in
    let greatest-long = c.loop-at.invariant.greatest_long in
    let below : m < n = omega (arith, c.loop-at-test.true) in
    let few : n ≤ 8 = c.requires.letters in
    let at = get_or-take n c.args.content m 0 below in
    let end = get_or-take n c.args.start.ends (n - suc m) 0 (omega arith) in
    let same : n - 1 - m ≡ n - suc m = omega arith in
    let place = ap (λ i. get_or c.args.start.ends i 0) same in
    let missing : c.from-missing.result ≡ get_or μ m 0 - get_or start m 0 = omega (arith, c.from-missing.ensures, c.saturating_sub.ensures) in
    let is-room : c.room_of.result ≡ row_room μ start m = room_value m c.from-missing.result c.room_of.result μ start missing c.room_of.ensures in
    let least-before = c.loop-at.invariant.bounds.least_is m (omega arith) in
    let greatest-before = c.loop-at.invariant.bounds.greatest_is m (omega arith) in
    let is-least : c.max.result ≡ least_end out μ start (suc m) = omega (arith, c.max.ensures) in
    let put = get_or-set_same c.loop-at.room m c.room_of.result 0 (omega arith) in
    let is-greatest : c.min.result ≡ greatest_end n out μ start U (suc m) = omega (arith, c.min.ensures, c.from.ensures) in
    let small : c.min.result < 256 = omega (arith, c.min.ensures, c.from.ensures) in
    let kept = get_or-set_same c.loop-at.greatest (m + 1) c.min.result 0 (omega arith) in
    record {
      room_long = length-set c.loop-at.room m c.room_of.result ∙ room-long;
      least_long = length-set c.loop-at.least (m + 1) c.max.result ∙ least-long;
      greatest_long = length-set c.loop-at.greatest (m + 1) c.min.result ∙ greatest-long;
      bounds =
          bounds_next n m out μ start U c.loop-at.room c.loop-at.least c.loop-at.greatest c.room_of.result c.max.result c.min.result (omega arith) (omega arith) (omega arith)
          c.loop-at.invariant.bounds is-room is-least is-greatest (omega (arith, c.room_of.ensures, missing));
      small = omega arith;
    }
