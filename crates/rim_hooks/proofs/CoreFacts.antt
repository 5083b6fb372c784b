-- The result of removing rim hooks, as removals.rt computes it: the entries of the beta list are lowered by multiples of n as far as they stay
-- different (`lowest`), and then sorted.
use Rattle.std.proofs.Common.{◌≡◌, ℕ, ◌+◌, ◌-◌, ◌*◌, ◌/◌, ◌<◌, ◌≤◌, Bool, true, false, List, length, refl, sym, ◌∙◌, ap, subst, arith, ℤ, ◌*ℤ◌, Some, None, to_z, of_z, w8, rules}
use Rattle.sym_model.specs.Partition.{size, rows, columns}
use Rattle.sym_model.specs.PlaceOrders.{minus_one_to}
use Rattle.sym_model.specs.BetaList.{beta, from_beta, sorted_falling, sorting_sign}
use Rattle.sym_model.specs.RimHookReduction.{ReducesTo}
use Rattle.sym_model.specs.Reductions.{Reduction}
use Rattle.sym_model.proofs.Signs.{minus_one_to_add}
use Rattle.partitions.specs.Limits.{IsWithinLimits}
use Rattle.beta_list_laws.specs.StrictFall.{FallsStrictly}
use Rattle.beta_list_laws.proofs.BetaLists.{length-beta, beta_strict}
use Rattle.beta_list_laws.proofs.NeighbourExchanges.{length-sorted}
use Rattle.beta_list_laws.specs.LowestList.{lowest, end_of, power_of, end_sign, reduction_by_remainders}
use Rattle.beta_list_laws.proofs.Ends.{goes_to_end, goes_cells, goes_partition, goes_rows, narrow, reduces_by_remainders, reduces_only}
use Rattle.product_laws.proofs.Quantum.{length-lowest}
use Rattle.rim_hooks.specs.Signs.{sign_of}
use Rattle.rim_hooks.specs.Sorting.{Sorts}
use Rattle.rim_hooks.specs.declared.sorted.Sorted.{Sorted}

pub kept_sign : (b : Bool) → to_z w8 (of_z w8 (sign_of b)) ≡ sign_of b
kept_sign true = refl
kept_sign false = refl

-- `numbers` are the entries of the beta list of `shape`, lowered by multiples of n as far as they stay different (`lowest`), in decreasing order, and
-- `odd` says whether an odd number of exchanges sorts them
pub record Holds (k n : ℕ) (shape numbers : List ℕ) (odd : Bool) : Type 0 where
  pub numbers_are : numbers ≡ sorted_falling (lowest n (beta k shape))
  pub turns : sign_of odd ≡ sorting_sign (lowest n (beta k shape))

pub holds : (k n : ℕ) (shape b numbers : List ℕ) (sorted : Sorted) → b ≡ beta k shape → Sorts sorted (lowest n b) → numbers ≡ sorted.numbers.items → Holds k n shape numbers sorted.is_odd
holds k n shape b numbers sorted e s d = search rules

pub entries_strict : (k : ℕ) (shape b : List ℕ) → IsWithinLimits shape → b ≡ beta k shape → FallsStrictly b
entries_strict k shape b l e = subst FallsStrictly (sym e) (beta_strict k shape l.partition.falls)

pub core_few : (k n : ℕ) (shape numbers : List ℕ) (odd : Bool) → k ≤ 512 → Holds k n shape numbers odd → length numbers ≤ 512
core_few k n shape numbers odd h w = search (rules, length-sorted, length-lowest, length-beta)

pub core_limits : (k n : ℕ) (shape numbers : List ℕ) (odd : Bool) → 1 ≤ n → rows shape ≤ k → k ≤ 512 → IsWithinLimits shape → Holds k n shape numbers odd → IsWithinLimits (from_beta numbers)
core_limits k n shape numbers odd h r m l w =
    let g = goes_to_end k n shape h l.partition r in
    let end = end_of k n shape in
    let c = goes_cells k n shape end (end_sign k n shape) (power_of k n shape) g in
    let d = goes_rows k n shape end (end_sign k n shape) (power_of k n shape) g in
    let small = l.small in
    let limits : IsWithinLimits end = record {
      partition = goes_partition k n shape end (end_sign k n shape) (power_of k n shape) l.partition g;
      few = omega arith;
      small = omega arith;
    } in
    subst (λ m. IsWithinLimits (from_beta m)) (sym w.numbers_are) limits

pub core_smaller : (k n : ℕ) (shape numbers end : List ℕ) (odd : Bool) → 1 ≤ n → rows shape ≤ k → IsWithinLimits shape → Holds k n shape numbers odd → end ≡ from_beta numbers → size end ≤ size shape
core_smaller k n shape numbers end odd h r l w e =
    let g = goes_to_end k n shape h l.partition r in
    let c = goes_cells k n shape (end_of k n shape) (end_sign k n shape) (power_of k n shape) g in
    let d = ap size (e ∙ ap from_beta w.numbers_are) in
    omega arith

pub core_none : (k n : ℕ) (shape numbers end : List ℕ) (odd : Bool) → Holds k n shape numbers odd → end ≡ from_beta numbers → n < k + columns end → reduction_by_remainders k n shape ≡ None
core_none k n shape numbers end odd w e l = search rules

pub core_some : (k n : ℕ) (shape numbers end : List ℕ) (odd : Bool) (power : ℕ) (sign turn : ℤ) → Holds k n shape numbers odd → end ≡ from_beta numbers → k + columns end ≤ n
    → power ≡ (size shape - size end) / n → turn ≡ minus_one_to (power * (k + 1)) → sign ≡ turn *ℤ sign_of odd
    → reduction_by_remainders k n shape ≡ Some (end, sign, power)
core_some k n shape numbers end odd power sign turn w e l p t s = search (rules, minus_one_to_add, narrow)

pub core_reduces : (k n : ℕ) (shape : List ℕ) (answer : Reduction) → 1 ≤ n → IsWithinLimits shape → rows shape ≤ k → reduction_by_remainders k n shape ≡ answer → ReducesTo k n shape answer
core_reduces k n shape answer h l r e = subst (ReducesTo k n shape) e (reduces_by_remainders k n shape h l.partition r)

pub core_only : (k n : ℕ) (shape : List ℕ) (answer : Reduction) → 1 ≤ n → IsWithinLimits shape → reduction_by_remainders k n shape ≡ answer → (other : Reduction) → ReducesTo k n shape other → other ≡ answer
core_only k n shape answer h l e other r = reduces_only k n shape other h l.partition r ∙ e
