use Rattle.std.proofs.Common.{◌≡◌, ◌++◌, ◌∷◌, [], List, ℕ, sym, ◌∙◌, ap, subst, append_assoc, append-nil, length, ◌-◌, ◌+◌, ◌^◌, refl, arith}
use Rattle.std.specs.Prelude.{IfOk}
use Rattle.partitions.specs.Limits.{IsWithinLimits}
use Rattle.sym_model.specs.Bases.{has}
use Rattle.sym_model.proofs.SortedParts.{has_here}
use Rattle.beta_sets.specs.BetaSets.{numbers, shape}
use Rattle.beta_sets.proofs.BinaryPlaces.{length-bound}
use Rattle.beta_sets.proofs.SetNumbers.{first_row, count_split}
use Rattle.beta_sets.proofs.beta_set.BetaSet.partition.Goals as goal

pub overflow_cast-rows : goal.overflow_cast-rows
overflow_cast-rows c =
    let e = c.len-rows.ensures in
    let l = length-bound 64 c.args.self in
    omega arith

pub loop-number-init : goal.loop-number-init
loop-number-init c = record {
  all = ap (λ (xs : List ℕ). xs ++ shape c.args.self) c.new-parts.ensures.items;
  rows = c.len-rows.ensures;
}

pub first_bead-requires : goal.first_bead-requires
first_bead-requires c = c.loop-number.invariant.rows

pub without-rest-requires-clause-there : goal.without-rest-requires-clause-there
without-rest-requires-clause-there c =
    let b = c.in-Some.number in
    ap (has b) c.in-Some.ensures.0.numbers
    ∙ has_here b b (numbers (c.loop-number.rest - 2 ^ b)) refl

pub loop-number-preserved : goal.loop-number-preserved
loop-number-preserved c =
    let parts = c.loop-number.parts.items in
    let rest = c.loop-number.rest in
    let b = c.in-Some.number in
    let others = rest - 2 ^ b in
    let rows = c.loop-number.invariant.rows in
    let low = c.in-Some.ensures.1 in
    let first = first_row rest b others c.in-Some.ensures.0 (omega arith) in
    let count = count_split rest b others c.in-Some.ensures.0 in
    let part : b + 1 - c.loop-number.rows ≡ b + 1 - length (numbers rest) = ap (λ r. b + 1 - r) rows in
    record {
      all =
          ap (λ (xs : List ℕ). xs ++ shape c.without-rest.result) (c.in_ok-push.ensures.ok ∙ ap (λ p. parts ++ p ∷ []) part)
          ∙ ap (λ s. (parts ++ (b + 1 - length (numbers rest)) ∷ []) ++ shape s) c.without-rest.ensures
          ∙ append_assoc parts ((b + 1 - length (numbers rest)) ∷ []) (shape others)
          ∙ ap (λ (xs : List ℕ). parts ++ xs) (sym first)
          ∙ c.loop-number.invariant.all;
      rows =
          (let e : c.loop-number.rows - 1 ≡ length (numbers others) = omega arith in e)
          ∙ ap (λ s. length (numbers s)) (sym c.without-rest.ensures);
    }

pub from_valid_parts-requires : goal.from_valid_parts-requires
from_valid_parts-requires c =
    let parts = c.loop-number.parts.items in
    let all : parts ≡ shape c.args.self =
    sym (append-nil parts) ∙ ap (λ (xs : List ℕ). parts ++ xs) (sym c.in_default.ensures) ∙ c.loop-number.invariant.all in
    subst IsWithinLimits (sym (c.as_slice.ensures ∙ all)) c.requires

pub returns : goal.returns
returns c =
    let parts = c.loop-number.parts.items in
    let all : parts ≡ shape c.args.self =
    sym (append-nil parts) ∙ ap (λ (xs : List ℕ). parts ++ xs) (sym c.in_default.ensures) ∙ c.loop-number.invariant.all in
    subst (λ (l : List ℕ). IfOk c.from_valid_parts.result (λ p. p ≡ l)) (c.as_slice.ensures ∙ all) c.from_valid_parts.ensures.ok
