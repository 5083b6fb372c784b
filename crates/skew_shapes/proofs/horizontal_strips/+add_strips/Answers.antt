use Rattle.std.proofs.Common.{◌≡◌, ◌+◌, ◌-◌, ◌≤◌, ◌++◌, [], ◌∷◌, List, ℕ, get_or, take, drop, rules}
use Rattle.std.proofs.Common.{length, map, subst, sym, ap, ◌∙◌, arith, append_assoc, append-nil}
use Rattle.std.proofs.Common.{refl, flat_map}
use Rattle.std.proofs.lemmas.List.{take_at}
use Rattle.sym_model.specs.Partition.{Falls}
use Rattle.sym_model.specs.Sum.{Among}
use Rattle.sym_model.proofs.Parts.{split_first}
use Rattle.partitions.specs.Limits.{IsWithinLimits}
use Rattle.skew_shapes.specs.HorizontalStrips.{counting_down, strips_on}
use Rattle.skew_shapes.proofs.StripLists.{grown_all, grown, each-next, listed_further}
use Rattle.skew_shapes.proofs.horizontal_strips.+add_strips.Goals as goal

falls_rows : (a b : ℕ) (below inner : List ℕ) → b ∷ below ≡ inner → Falls (a ∷ inner) →
    (b ≤ a) × Falls (b ∷ below)
falls_rows a b below inner e f = search rules

pub loop-shorter-init : goal.loop-shorter-init
loop-shorter-init t c = record { same = refl; listed = sym (append-nil c.args.shapes.now.items) }

pub add_strips-requires : goal.add_strips-requires
add_strips-requires t c =
    let a = get_or c.args.inner.now 0 0 in
    let below = take (length c.args.inner.now - 1) (drop 1 c.args.inner.now) in
    let above = c.args.above.now.items in
    let split = split_first c.args.inner.now c.in-len1-up.len_at_least in
    let falls = falls_rows c.args.most (get_or c.args.inner.now 0 0)
    (take (length c.args.inner.now - 1) (drop 1 c.args.inner.now)) c.args.inner.now split
    c.requires.falls in
    let first = falls.0 in
    let shorter = ap length split in
    let row = c.min-longest.result - c.loop-shorter.shorter in
    let longer = c.in_ok-push.ensures.items ∙ ap (λ (l : List ℕ). l ++ (row ∷ []))
    c.loop-shorter.invariant.same in (
      omega arith,
      (
        falls.1,
        (
          omega arith,
          (
            omega arith,
            λ rest m.
                subst IsWithinLimits (sym (append_assoc above (row ∷ []) rest) ∙ ap (λ (l : List ℕ).
                l ++ rest) (sym longer))
                (c.requires.limits (row ∷ rest)
                (subst (λ l. Among (row ∷ rest) (strips_on c.args.most c.args.left l)) split
                (listed_further c.args.most c.args.left a row c.loop-shorter.shorter below rest
                (omega arith) (omega arith) m))),
          ),
        ),
      ),
    )

pub loop-shorter-preserved : goal.loop-shorter-preserved
loop-shorter-preserved t c =
    let a = get_or c.args.inner.now 0 0 in
    let below = take (length c.args.inner.now - 1) (drop 1 c.args.inner.now) in
    let above = c.args.above.now.items in
    let row = c.min-longest.result - c.loop-shorter.shorter in
    let longer = c.in_ok-push.ensures.items ∙ ap (λ (l : List ℕ). l ++ (row ∷ []))
    c.loop-shorter.invariant.same in
    record {
      same =
          c.truncate.ensures.items ∙ ap (take c.len-len.result) (c.in_ok-add_strips.ensures.same
          ∙ longer)
          ∙ take_at above (row ∷ []) c.len-len.result (omega arith);
      listed =
          each-next (λ row. strips_on a (c.args.left + a - row) below) c.min-longest.result
          c.loop-shorter.shorter
          above c.push.new.self.items c.args.shapes.now.items c.loop-shorter.shapes.items
          c.add_strips.new.shapes.items
          c.loop-shorter.invariant.listed longer c.in_ok-add_strips.ensures.shapes;
    }

pub returns-clause-same : goal.returns-clause-same
returns-clause-same t c = c.loop-shorter.invariant.same

pub returns-clause-shapes : goal.returns-clause-shapes
returns-clause-shapes t c =
    let a = get_or c.args.inner.now 0 0 in
    let below = take (length c.args.inner.now - 1) (drop 1 c.args.inner.now) in
    let above = c.args.above.now.items in
    let split = split_first c.args.inner.now c.in-len1-up.len_at_least in
    grown_all c.args.most c.args.left a c.loop-shorter.shorter below above c.args.inner.now
    c.args.shapes.now.items c.loop-shorter.shapes.items split (omega arith)
    (c.loop-shorter.invariant.listed
    ∙ ap (λ n. c.args.shapes.now.items ++ map (λ rest. above ++ rest)
    (flat_map (grown a c.args.left below) (counting_down n c.loop-shorter.shorter)))
    c.min-longest.ensures)
