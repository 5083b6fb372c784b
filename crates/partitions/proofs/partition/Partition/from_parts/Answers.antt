use Rattle.std.proofs.Common.{◌≡◌, ℕ, ◌≤◌, List, length, sym, subst, arith}
use Rattle.std.specs.Result.{IsErrAnd}
use Rattle.sym_model.specs.Partition.{Falls, size, without_last_zeros}
use Rattle.partitions.specs.declared.fault.PartFault.TheVariants.{Rising, NoMemory}
use Rattle.partitions.specs.Limits.{RisesFirstAt, IsWithinLimits}
use Rattle.partitions.proofs.Parts.{rises-same, Falls-rises, without_last_zeros-IsPartition}
use Rattle.partitions.proofs.partition.Partition.from_parts.Goals as goal

pub returns-in-Some-clause-rising : goal.returns-in-Some-clause-rising
returns-in-Some-clause-rising c =
    let left = without_last_zeros c.args.parts.now in
    let here : RisesFirstAt left c.in-Some.at = subst (λ xs. RisesFirstAt xs c.in-Some.at)
    c.numbers_before_zeros-parts.ensures c.in-Some.ensures in
    let few : length left ≤ 512 = subst (λ (xs : List ℕ). length xs ≤ 512)
    c.numbers_before_zeros-parts.ensures c.if-parts-gt-MAX_ROWS.false in
    λ at. (
      λ e. let same : c.in-Some.at ≡ at = cc in (few, subst (RisesFirstAt left) same here),
      λ h. let same = rises-same left c.in-Some.at at here h.1 in cc,
    )

pub returns-in-Some-clause-too_big : goal.returns-in-Some-clause-too_big
returns-in-Some-clause-too_big c =
    let left = without_last_zeros c.args.parts.now in
    let here : RisesFirstAt left c.in-Some.at = subst (λ xs. RisesFirstAt xs c.in-Some.at)
    c.numbers_before_zeros-parts.ensures c.in-Some.ensures in
    (λ e. cc, λ h. absurd (Falls-rises left c.in-Some.at h.1 here))

pub returns-then-cells-gt-MAX_CELLS-clause-rising :
    goal.returns-then-cells-gt-MAX_CELLS-clause-rising
returns-then-cells-gt-MAX_CELLS-clause-rising c =
    let left = without_last_zeros c.args.parts.now in
    let falls : Falls left = subst Falls c.numbers_before_zeros-parts.ensures c.in_default.ensures
    in
    λ at. (λ e. cc, λ h. absurd (Falls-rises left at falls h.1))

pub returns-in_err-with_cells-clause-rising : goal.returns-in_err-with_cells-clause-rising
returns-in_err-with_cells-clause-rising c =
    let left = without_last_zeros c.args.parts.now in
    let falls : Falls left = subst Falls c.numbers_before_zeros-parts.ensures c.in_default.ensures
    in
    λ at. (
      λ e.
          let h : Rising at ≡ NoMemory = subst (λ r. IsErrAnd r (λ f. f ≡ NoMemory)) e
          c.from_residual.ensures.1 in
          cc,
      λ h. absurd (Falls-rises left at falls h.1),
    )

within : (given left : List ℕ) (sum : ℕ) → left ≡ without_last_zeros given → Falls left →
    length left ≤ 512 → sum ≡ size left → sum ≤ 4096 → IsWithinLimits (without_last_zeros given)
within given left sum is falls few sum_is small = record {
  partition = without_last_zeros-IsPartition given (subst Falls is falls);
  few = subst (λ (xs : List ℕ). length xs ≤ 512) is few;
  small = subst (λ (xs : List ℕ). size xs ≤ 4096) is (omega arith);
}

pub with_cells-requires : goal.with_cells-requires
with_cells-requires c =
    let is = c.numbers_before_zeros-parts.ensures in
    let sum = c.sum_of_numbers-cells.ensures in
    let limits = within c.args.parts.now _ _ is c.in_default.ensures c.if-parts-gt-MAX_ROWS.false
    sum c.if-cells-gt-MAX_CELLS.false in
    record { limits = subst IsWithinLimits (sym is) limits; cells_are = sum }

pub returns-clause-limits : goal.returns-clause-limits
returns-clause-limits c =
    within c.args.parts.now _ _ c.numbers_before_zeros-parts.ensures c.in_default.ensures
    c.if-parts-gt-MAX_ROWS.false c.sum_of_numbers-cells.ensures c.if-cells-gt-MAX_CELLS.false

pub returns-clause-rising : goal.returns-clause-rising
returns-clause-rising c =
    let left = without_last_zeros c.args.parts.now in
    let falls : Falls left = subst Falls c.numbers_before_zeros-parts.ensures c.in_default.ensures
    in
    λ at. (λ e. cc, λ h. absurd (Falls-rises left at falls h.1))
