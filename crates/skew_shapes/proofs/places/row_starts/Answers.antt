use Rattle.std.proofs.Common.{◌≡◌, [], ◌∷◌, ◌++◌, length, take, get_or, ap, ◌∙◌, inl, inr, arith, rules}
use Rattle.std.proofs.Common.{length-append}
use Rattle.std.proofs.lemmas.Bool.{cases_lt}
use Rattle.std.proofs.Math.Seq.{get_or-append_seam}
use Rattle.std.proofs.Math.ListN.{get_or-append}
use Rattle.sym_model.specs.Partition.{size}
use Rattle.partitions.proofs.Parts.{size-take_more}
use Rattle.skew_shapes.proofs.KeptRows.{places-from, size-take-within}
use Rattle.skew_shapes.proofs.places.row_starts.Goals as goal

pub overflow_add-start : goal.overflow_add-start
overflow_add-start c = search (rules, size-take-within)

pub loop-length-preserved : goal.loop-length-preserved
loop-length-preserved c =
    let i = c.loop-length.length-index in
    let old = c.loop-length.starts.items in
    let pushed = c.in_ok-push.ensures.items in
    record {
      starts = λ k h.
          elim (cases_lt k c.loop-length.length-index) [
            | inl l ↦
                ap (λ xs. get_or xs k 0) pushed
                ∙ get_or-append old (c.loop-length.start ∷ []) 0 k
                (omega (arith, c.loop-length.invariant.count))
                ∙ c.loop-length.invariant.starts k l
            | inr l ↦
                let here : k ≡ length c.loop-length.starts.items =
                omega (arith, c.loop-length.invariant.count) in
                let same : c.loop-length.length-index ≡ k = omega arith in
                ap (λ xs. get_or xs k 0) pushed ∙ ap (λ n. get_or (old ++ c.loop-length.start ∷ [])
                n 0) here
                ∙ get_or-append_seam old c.loop-length.start [] 0 ∙ c.loop-length.invariant.sum
                ∙ ap (λ n. size (take n c.args.lengths.now)) same
          ];
      count = ap length pushed ∙ omega (
        arith,
        length-append old (c.loop-length.start ∷ []),
        c.loop-length.invariant.count,
      );
      sum = omega (
        arith,
        c.loop-length.invariant.sum,
        size-take_more c.args.lengths.now i
            c.loop-length-test.true,
      );
    }

pub returns : goal.returns
returns c =
    let count : c.loop-length.length-index ≡ length c.args.lengths.now = omega arith in
    places-from c.loop-length.starts.items c.args.lengths.now (c.loop-length.invariant.count
    ∙ count)
    (λ k h. c.loop-length.invariant.starts k (omega arith))
