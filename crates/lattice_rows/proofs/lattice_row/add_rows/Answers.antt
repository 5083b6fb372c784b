use Rattle.std.proofs.Common.{◌≡◌, ℕ, ◌<◌, ◌≤◌, ◌⊎◌, inl, inr, true, length, ◌+◌, ◌-◌, ◌++◌, take, drop, get_or, ap, ◌∙◌, sym, arith}
use Rattle.std.proofs.lemmas.List.{length-take-le}
use Rattle.lr_product.specs.RowExtension.{filled, next_row}
use Rattle.lattice_rows.specs.LatticeRows.{least_end, greatest_end}
use Rattle.lattice_rows.proofs.LatticeBounds.{row_within, row_outside, rows_step, rows_other, rows_all}
use Rattle.lattice_rows.proofs.lattice_row.add_rows.Goals as goal

pub loop-entry-preserved : goal.loop-entry-preserved
loop-entry-preserved c =
    let n = c.args.row.now.letters in
    let x = c.loop-entry.entry in
    let out = c.args.row.now.outside in
    let μ = take n c.args.row.now.content in
    let start = c.args.row.now.start.content in
    let U = take n c.args.row.now.start.ends in
    let long : length U ≡ n = length-take-le n c.args.row.now.start.ends (omega (arith, c.requires.letters)) in
    let full : length μ ≡ n = length-take-le n c.args.row.now.content (omega (arith, c.requires.letters)) in
    let greatest = c.requires.bounds.greatest_is n (omega arith) in
    let inside : x ≤ greatest_end n out μ start U n = omega (arith, c.loop-entry-test.true) in
    let content = c.loop-entry.invariant.content in
    record {
      content = c.in_ok-fill.ensures.content ∙ content;
      steps = c.in_ok-fill.ensures.steps c.loop-entry.invariant.steps;
      inside = λ a f e r l h.
          rows_step x a (get_or c.args.row.now.bounds.least n 0) _ _ _ _ (c.in_ok-fill.ensures.adds a f e r) l h (λ q w. c.loop-entry.invariant.inside a f e r q w)
          (λ q. c.loop-entry.invariant.outside a f e r (inr q))
          (λ same. ap (λ v. filled true n out n x (drop ((n + 1) - n) U) f (take n v ++ take (n - n) c.loop-entry.reached.ends)) content
          ∙ sym (row_within n c.args.row.now.is_last μ f e c.requires.some full out x U start c.loop-entry.reached.ends long inside)
          ∙ ap (λ i. next_row n true out i f (take n start) U) (sym same));
      outside = λ a f e r h.
          rows_other x a (get_or c.args.row.now.bounds.least n 0) _ _ _ (c.in_ok-fill.ensures.adds a f e r) c.loop-entry.auto.entry h
          (λ q. c.loop-entry.invariant.outside a f e r q);
    }

pub returns-clause-adds : goal.returns-clause-adds
returns-clause-adds c a f e r =
    let n = c.args.row.now.letters in
    let out = c.args.row.now.outside in
    let μ = take n c.args.row.now.content in
    let start = c.args.row.now.start.content in
    let U = take n c.args.row.now.start.ends in
    let long : length U ≡ n = length-take-le n c.args.row.now.start.ends (omega (arith, c.requires.letters)) in
    let full : length μ ≡ n = length-take-le n c.args.row.now.content (omega (arith, c.requires.letters)) in
    let least = c.requires.bounds.least_is n (omega arith) in
    let greatest = c.requires.bounds.greatest_is n (omega arith) in
    rows_all a (least_end out μ start n) (greatest_end n out μ start U n) c.loop-entry.entry _ _ (omega (arith, c.loop-entry-test.false))
    (λ q w. c.loop-entry.invariant.inside a f e r (omega arith) w)
    (λ q. c.loop-entry.invariant.outside a f e r (low-or q least))
    (λ q. row_outside n c.args.row.now.is_last μ f e c.requires.some full out a U start long (omega (arith, c.requires.letters)) q)
  where
    low-or : {a least low entry : ℕ} → (a < least) ⊎ (entry ≤ a) → low ≡ least → (a < low) ⊎ (entry ≤ a)
    low-or (inl q) is = inl (omega arith)
    low-or (inr q) is = inr q
