use Rattle.std.proofs.Common.{◌≡◌, ℕ, ◌+◌, ◌-◌, ◌*◌, ◌<◌, ◌≤◌, ◌==◌, ◌||◌, true, cond, rules}
use Rattle.std.proofs.Common.{List, ◌++◌, length, take, drop, get_or, refl, sym, ap, ap₂, ◌∙◌}
use Rattle.std.proofs.Common.{subst, arith}
use Rattle.sym_model.specs.GoodTableau.{is_falling}
use Rattle.sym_model.specs.Partition.{size}
use Rattle.sym_model.specs.Sum.{sum_by}
use Rattle.lr_product.specs.Capped.{Agree}
use Rattle.lr_product.specs.WeighedSum.{weighed}
use Rattle.lr_product.specs.Extension.{numbers_from, raised, mark, can_rise, extended}
use Rattle.lr_product.specs.MarksFree.{MarksFree}
use Rattle.lr_product.proofs.FreeLetters.{above_place, marks-narrowed}
use Rattle.lr_product.proofs.Raising.{index-size, size-raised, length-placed, width_placed}
use Rattle.lr_product.proofs.LetterSums.{agree_step, agree_end, sum-from}
use Rattle.lr_product.proofs.Agreeing.{agree_then, agree_same}
use Rattle.lr_product.proofs.Pruned.{no_room, falls-placed, fewer_letters}
use Rattle.lr_product.proofs.extension.+columns.Goals as goal

pub place_letters-loop-letter-init : goal.place_letters-loop-letter-init
place_letters-loop-letter-init t c =
    let n = c.args.column.now.letters in
    let s = c.args.state.now.items in
    let kept = c.args.column.now.is_kept in
    let rest = c.args.rest.now in
    let right = c.args.right.now in
    let bound = c.args.bound.now in
    let X : List ℕ → (List ℕ → List ℕ → ℕ) → ℕ → ℕ = λ r f b. extended kept n rest (drop 1 r) b f
    (raised b s ++ mark kept b) in
    let first = c.next_letter-letter in
    let end = c.end_of_letters-end in
    let state : c.deref.result.now ≡ s = c.deref.ensures.value in
    record {
      same = refl;
      width = refl;
      within = first.ensures.within;
      room = λ h. ap (λ x. (first.result == 0) || can_rise bound (first.result - 1) x) (sym state)
          ∙ first.ensures.room h;
      low = λ h. subst (λ x. x ≤ first.result) c.least_letter.ensures (first.ensures.least h);
      adds = λ f v. agree_same _ _ (ap (λ y. weighed n f c.args.table.now.entries
          + c.args.column.now.ways * y)
          (sym (sum-from (X right f) c.least_letter.result end.result first.result
          first.ensures.within first.ensures.least
          (λ b low high. no_room kept n rest (drop 1 right) f bound b s v
          (omega (arith, end.ensures.within, first.ensures.within))
          c.requires.long c.requires.bound
          (ap (λ x. (b == 0) || can_rise bound (b - 1) x) (sym state)
          ∙ first.ensures.skipped b low high)))
          ∙ ap₂ (λ a z. sum_by (X right f) (numbers_from a (z - a))) c.least_letter.ensures
          end.ensures.value
          ∙ fewer_letters kept n c.args.cell rest right c.args.above f s));
      reached = λ m h z. z;
    }

pub place_letters-place-requires-clause-room : goal.place_letters-place-requires-clause-room
place_letters-place-requires-clause-room t c = λ h.
    let n = c.args.column.now.letters in
    let below = index-size n (c.loop-letter.letter - 1) c.args.state.now.items
    (omega (arith, c.end_of_letters-end.ensures.within, c.loop-letter-test.true)) in
    subst (λ s. get_or s (c.loop-letter.letter - 1) 0 < 65535) (sym c.loop-letter.invariant.same)
    (omega (arith, c.requires.size))

pub place_letters-extend-requires : goal.place_letters-extend-requires
place_letters-extend-requires t c =
    let n = c.args.column.now.letters in
    let b = c.loop-letter.letter in
    let s = c.args.state.now.items in
    let kept = c.args.column.now.is_kept in
    let rest = c.args.rest.now in
    let within : b ≤ n = omega (arith, c.end_of_letters-end.ensures.within, c.loop-letter-test.true)
    in
    let state : c.place.new.state.items ≡ raised b s ++ mark kept b = c.in_ok-len.ensures.state
    ∙ ap (λ x. raised b x ++ mark kept b) c.loop-letter.invariant.same in
    let placed = c.deref-in-loop-letter.ensures.value in
    let long = length-placed b s (mark kept b) in
    let more = size-raised n b s (mark kept b) c.requires.long in (
      omega arith,
      (
        c.requires.ways,
        (
          c.requires.letters,
          (
            c.requires.bound,
            (
              within,
              (
                subst (λ x. n ≤ length x) (sym state) (omega (arith, c.requires.long)),
                (
                  subst (λ x. length x + cond kept (length rest) 0 ≡ c.loop-letter.table.width)
                      (sym state)
                      (width_placed kept b s (length rest) (length rest + 1)
                      c.loop-letter.table.width (omega arith)
                      (c.requires.width ∙ sym c.loop-letter.invariant.width)),
                  (
                    subst (λ x. is_falling (take n x) ≡ true) (sym state)
                        (falls-placed n c.args.bound.now b s (mark kept b) within
                        c.requires.long (c.loop-letter.invariant.room c.loop-letter-test.true)
                        c.requires.falls),
                    (
                      subst (λ x. MarksFree n b c.args.bound.now x c.free_after-later.result)
                          placed
                          (c.free_after-later.ensures n c.args.above s (mark kept b)
                          (placed ∙ state) c.requires.long c.requires.bound c.requires.falls
                          (above_place (n - length rest) c.args.cell c.args.right.now
                          c.args.above b (c.loop-letter.invariant.low c.loop-letter-test.true)
                          (subst (λ e. b < e) c.end_of_letters-end.ensures.value
                          c.loop-letter-test.true))
                          c.requires.free),
                      subst (λ x. size (take n x) + length rest ≤ 4096) (sym state)
                          (omega (arith, c.requires.size)),
                    ),
                  ),
                ),
              ),
            ),
          ),
        ),
      ),
    )

pub place_letters-take_back-requires : goal.place_letters-take_back-requires
place_letters-take_back-requires t c = search (rules, length-placed)

pub place_letters-loop-letter-preserved : goal.place_letters-loop-letter-preserved
place_letters-loop-letter-preserved t c =
    let b = c.loop-letter.letter in
    let n = c.args.column.now.letters in
    let s = c.args.state.now.items in
    let kept = c.args.column.now.is_kept in
    let rest = c.args.rest.now in
    let right = c.args.right.now in
    let bound = c.args.bound.now in
    let same = c.loop-letter.invariant.same in
    let next = c.next_letter-letter-in-loop-letter in
    let end = c.end_of_letters-end in
    let placed : c.place.new.state.items ≡ raised b s ++ mark kept b = c.in_ok-len.ensures.state
    ∙ ap (λ x. raised b x ++ mark kept b) same in
    let len : length s ≡ c.in_ok-len.len = sym (c.in_ok-len.ensures.length ∙ ap length same) in
    let more = size-raised n b s (mark kept b) c.requires.long in
    let back : c.take_back.new.state.items ≡ s =
    c.take_back.ensures s (mark kept b) (c.in_ok-extend.ensures.same ∙ placed) len
    (omega (arith, c.requires.long, end.ensures.within, c.loop-letter-test.true)) in
    let state : c.deref-in-loop-letter-2.result.now ≡ s =
    c.deref-in-loop-letter-2.ensures.value ∙ back in
    let X : (List ℕ → List ℕ → ℕ) → ℕ → ℕ = λ f x. extended kept n rest (drop 1 right) x f
    (raised x s ++ mark kept x) in
    record {
      same = back;
      width = c.in_ok-extend.ensures.width ∙ c.loop-letter.invariant.width;
      within = next.ensures.within;
      room = λ h. ap (λ x. (next.result == 0) || can_rise bound (next.result - 1) x) (sym state)
          ∙ next.ensures.room h;
      low = λ h.
          let low = c.loop-letter.invariant.low c.loop-letter-test.true in
          let more = next.ensures.least h in omega arith;
      adds = λ f v.
          agree_then _ _ _
          (agree_same _ _ (ap (λ y. weighed n f c.extend.new.table.entries + c.args.column.now.ways * y)
          (sym (sum-from (X f) (b + 1) end.result next.result next.ensures.within
          next.ensures.least
          (λ x low high. no_room kept n rest (drop 1 right) f bound x s v
          (omega (arith, end.ensures.within, next.ensures.within))
          c.requires.long c.requires.bound
          (ap (λ y. (x == 0) || can_rise bound (x - 1) y) (sym state)
          ∙ next.ensures.skipped x low high))))))
          (agree_step (weighed n f c.loop-letter.table.entries)
          (weighed n f c.extend.new.table.entries) _ c.args.column.now.ways (X f)
          b end.result c.loop-letter-test.true (c.loop-letter.invariant.adds f v)
          (subst (λ (r : List ℕ). Agree (weighed n f c.extend.new.table.entries)
          (weighed n f c.loop-letter.table.entries + c.args.column.now.ways * extended kept n
          rest r b f (raised b s ++ mark kept b)))
          c.rest_of.ensures
          (subst (λ x. Agree (weighed n f c.extend.new.table.entries)
          (weighed n f c.loop-letter.table.entries + c.args.column.now.ways * extended kept n
          rest c.rest_of.result.now b f x)) placed
          (c.in_ok-extend.ensures.adds f v))));
      reached = λ m h z.
          c.in_ok-extend.ensures.reached m
          (subst (λ x. size (take n x) + length rest ≤ m) (sym placed)
          (omega arith)) (c.loop-letter.invariant.reached m h z);
    }

pub place_letters-returns-clause-adds : goal.place_letters-returns-clause-adds
place_letters-returns-clause-adds t c f v = search (rules, agree_end)

pub place_letters-free_after-later-requires : goal.place_letters-free_after-later-requires
place_letters-free_after-later-requires t c = search (rules, length-placed)

pub place_letters-next_letter-letter-requires-in-loop-letter-clause-length :
    goal.place_letters-next_letter-letter-requires-in-loop-letter-clause-length
place_letters-next_letter-letter-requires-in-loop-letter-clause-length t c =
    let b = c.loop-letter.letter in
    let s = c.args.state.now.items in
    let kept = c.args.column.now.is_kept in
    let end = c.end_of_letters-end in
    let placed : c.place.new.state.items ≡ raised b s ++ mark kept b = c.in_ok-len.ensures.state
    ∙ ap (λ x. raised b x ++ mark kept b) c.loop-letter.invariant.same in
    let len : length s ≡ c.in_ok-len.len = sym (c.in_ok-len.ensures.length
    ∙ ap length c.loop-letter.invariant.same) in
    let back : c.take_back.new.state.items ≡ s =
    c.take_back.ensures s (mark kept b) (c.in_ok-extend.ensures.same ∙ placed) len
    (omega (arith, c.requires.long, end.ensures.within, c.loop-letter-test.true)) in
    subst (λ x. end.result ≤ length x + 1) (sym (c.deref-in-loop-letter-2.ensures.value ∙ back))
    (omega (arith, end.ensures.within, c.requires.long))

pub place_letters-next_letter-letter-requires-in-loop-letter-clause-free :
    goal.place_letters-next_letter-letter-requires-in-loop-letter-clause-free
place_letters-next_letter-letter-requires-in-loop-letter-clause-free t c =
    let b = c.loop-letter.letter in
    let n = c.args.column.now.letters in
    let s = c.args.state.now.items in
    let kept = c.args.column.now.is_kept in
    let end = c.end_of_letters-end in
    let placed : c.place.new.state.items ≡ raised b s ++ mark kept b = c.in_ok-len.ensures.state
    ∙ ap (λ x. raised b x ++ mark kept b) c.loop-letter.invariant.same in
    let len : length s ≡ c.in_ok-len.len = sym (c.in_ok-len.ensures.length
    ∙ ap length c.loop-letter.invariant.same) in
    let back : c.take_back.new.state.items ≡ s =
    c.take_back.ensures s (mark kept b) (c.in_ok-extend.ensures.same ∙ placed) len
    (omega (arith, c.requires.long, end.ensures.within, c.loop-letter-test.true)) in
    let low : c.args.above ≤ b = above_place (n - length c.args.rest.now) c.args.cell
    c.args.right.now c.args.above b (c.loop-letter.invariant.low c.loop-letter-test.true)
    (subst (λ e. b < e) end.ensures.value c.loop-letter-test.true) in
    marks-narrowed n (end.result - 1) c.args.above (b + 1 - 1) c.args.bound.now s
    c.deref-in-loop-letter-2.result.now c.args.free
    (sym (c.deref-in-loop-letter-2.ensures.value ∙ back)) c.requires.free
    (λ i l k h. (omega (arith, low), omega (arith, end.ensures.within)))
