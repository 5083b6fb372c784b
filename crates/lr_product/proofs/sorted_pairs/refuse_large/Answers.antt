use Rattle.std.proofs.Common.{◌≡◌, ◌⊎◌, inl, inr, ℕ, ◌+◌, ◌^◌, ◌<◌, ◌≤◌, List, length, ap, arith}
use Rattle.std.proofs.lemmas.Bool.{cases_lt}
use Rattle.lr_product.specs.Places.{entry_at}
use Rattle.lr_product.proofs.Placed.{some_at, past_at_end}
use Rattle.lr_product.proofs.sorted_pairs.refuse_large.Goals as goal

exact_next : (es : List (List ℕ × ℕ)) (at : ℕ) (key : List ℕ) (w : ℕ) → entry_at es at ≡ (key, w) → w < 2 ^ 127 → ((i : ℕ) → i < at → (entry_at es i).1 < 2 ^ 127)
    → (i : ℕ) → i < at + 1 → (entry_at es i).1 < 2 ^ 127
exact_next es at key w e l before i h = split (cases_lt i at)
  where
    split : (i < at) ⊎ (at ≤ i) → (entry_at es i).1 < 2 ^ 127
    split (inl k) = before i k
    split (inr k) =
        let same : i ≡ at = omega arith in
        let a = ap (λ (j : ℕ). (entry_at es j).1) same in
        let b = ap (λ (x : List ℕ × ℕ). x.1) e in
        omega arith

exact_all : (es : List (List ℕ × ℕ)) (at : ℕ) → length es ≤ at → ((i : ℕ) → i < at → (entry_at es i).1 < 2 ^ 127) → (i : ℕ) → (entry_at es i).1 < 2 ^ 127
exact_all es at h before i = split (cases_lt i at)
  where
    split : (i < at) ⊎ (at ≤ i) → (entry_at es i).1 < 2 ^ 127
    split (inl k) = before i k
    split (inr k) = let a = ap (λ (x : List ℕ × ℕ). x.1) (past_at_end es i (omega arith)) in omega arith

pub loop-at-preserved : goal.loop-at-preserved
loop-at-preserved c = record {
  end = c.loop-at.invariant.end;
  exact = exact_next c.args.table.now.entries c.loop-at.at c.entry-ways.result.0.now c.entry-ways.result.1
      (some_at c.args.table.now.entries c.loop-at.at c.entry-ways.result.0.now c.entry-ways.result.1 c.entry-ways.ensures) c.if-ways-ge-CAP.false c.loop-at.invariant.exact;
}

pub returns-then-ways-ge-CAP-clause-large : goal.returns-then-ways-ge-CAP-clause-large
returns-then-ways-ge-CAP-clause-large c =
    let a = ap (λ (x : List ℕ × ℕ). x.1) (some_at c.args.table.now.entries c.loop-at.at c.entry-ways.result.0.now c.entry-ways.result.1 c.entry-ways.ensures) in
    (c.loop-at.at, omega (arith, c.if-ways-ge-CAP.true))

pub returns-clause-exact : goal.returns-clause-exact
returns-clause-exact c = record {
  below = exact_all c.args.table.now.entries c.loop-at.at (omega (arith, c.loop-at.invariant.end, c.loop-at-test.false)) c.loop-at.invariant.exact;
}
