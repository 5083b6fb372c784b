use Rattle.std.proofs.Common.{◌+◌, [], ◌∷◌, length, ap, ◌∙◌, arith, length-append}
use Rattle.sym_model.proofs.Conjugates.{count_from-bound, count_from-falls}
use Rattle.partitions.proofs.Conjugates.{counts-more}
use Rattle.partitions.proofs.conjugate.column_lengths.Goals as goal

pub loop-j-init : goal.loop-j-init
loop-j-init c = record {
  lengths = c.in_ok-lengths.ensures.items;
  count = omega (arith, ap length c.in_ok-lengths.ensures.items);
  room = omega (arith, c.in_ok-lengths.ensures.capacity, c.from.ensures);
  within = omega arith;
  enough = count_from-bound 0 c.args.parts.now;
}

pub rows_reaching-rows-requires-clause-enough : goal.rows_reaching-rows-requires-clause-enough
rows_reaching-rows-requires-clause-enough c =
    omega (
      arith,
      count_from-falls c.args.parts.now c.loop-j.j (c.loop-j.j + 1) (omega arith),
      c.loop-j.invariant.enough,
    )

pub overflow_cast-rows : goal.overflow_cast-rows
overflow_cast-rows c =
    omega (arith, c.rows_reaching-rows.ensures, count_from-bound (c.loop-j.j + 1) c.args.parts.now)

pub loop-j-preserved : goal.loop-j-preserved
loop-j-preserved c = record {
  lengths =
      counts-more c.args.parts.now c.loop-j.lengths.items c.push_reserved.new.self.items c.loop-j.j
      c.rows_reaching-rows.result
      c.loop-j.invariant.lengths c.rows_reaching-rows.ensures c.push_reserved.ensures.items;
  count = ap length c.push_reserved.ensures.items ∙ omega (
    arith,
    length-append c.loop-j.lengths.items (c.rows_reaching-rows.result ∷ []),
    c.loop-j.invariant.count,
  );
  room = omega (arith, c.push_reserved.ensures.capacity, c.loop-j.invariant.room);
  within = omega (
    arith,
    c.rows_reaching-rows.ensures,
    count_from-bound (c.loop-j.j + 1)
        c.args.parts.now,
  );
  enough = omega (arith, c.rows_reaching-rows.ensures);
}
