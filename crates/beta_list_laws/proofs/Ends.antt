-- Rim hooks of n cells are removed from a partition λ until no more can be removed: the beta list of the partition that remains is the lowest list
-- (`lowest`) of the beta list of λ, sorted. The lowest list has, in place of each entry x, the number x % n + n·m; here m is the number of later
-- entries that leave the remainder of x modulo n.
--     goes_ends       the partition that remains, the product of the signs of the removals, and the number of removed cells
use Rattle.std.proofs.Common.{◌≡◌, ℕ, zero, suc, ◌+◌, ◌-◌, ◌*◌, ◌<◌, ◌≤◌, ◌⊎◌, inl, inr, List, ◌∷◌, ◌++◌, length, refl, sym, ◌∙◌, ap, ap₂, subst, arith, length-append, ℤ, ◌*ℤ◌, pos, Bool, true, false, nat_le, cond, Option, Some, None, rules}
use Rattle.std.proofs.Math.Nat.{mul-div_cancel_left}
use Rattle.std.proofs.lemmas.Bool.{leb-true}
use Rattle.std.proofs.lemmas.Bool.Decides.{nat_tests}
use Rattle.sym_model.specs.Partition.{IsPartition, size, rows, columns}
use Rattle.sym_model.specs.PlaceOrders.{minus_one_to}
use Rattle.sym_model.specs.BetaList.{beta, from_beta, rising_pairs}
use Rattle.sym_model.specs.Strip.{height}
use Rattle.sym_model.specs.RimHookReduction.{IsRemoval, HasNoRemoval, GoesTo, ReducesTo}
use Rattle.sym_model.proofs.Signs.{minus_one_to_add}
use Rattle.beta_list_laws.specs.StrictFall.{FallsStrictly}
use Rattle.beta_list_laws.specs.FullBetaList.{IsFull}
use Rattle.beta_list_laws.proofs.BetaLists.{length-beta, beta_strict, from_beta-beta}
use Rattle.beta_list_laws.proofs.BetaRemovals.{lowered}
use Rattle.beta_list_laws.proofs.BetaLowerings.{Lowers, CanLower, removal_lowers, lowers_or_full, full_stays, stays_full, lowering_removes}
use Rattle.beta_list_laws.proofs.NeighbourExchanges.{Resorts, same_sign, sorted-falling}
use Rattle.beta_list_laws.specs.LowestList.{lowest, end_of, power_of, end_sign, reduction_by_remainders}
use Rattle.beta_list_laws.proofs.Lowest.{lowest_moves, full_lowest, strict_falls, strict_pairs}
use Rattle.strip_laws.proofs.RimHooks.{fewer_rows}

stays_lowest : (k n : ℕ) (shape : List ℕ) → 1 ≤ n → IsPartition shape → rows shape ≤ k → HasNoRemoval n shape → lowest n (beta k shape) ≡ beta k shape
stays_lowest k n shape h p r none = full_lowest n (beta k shape) (beta_strict k shape p.falls) (stays_full k n shape h p r none)

removal_resorts : (k n : ℕ) (shape left : List ℕ) → IsPartition shape → rows shape ≤ k → IsRemoval n shape left
    → (passed : ℕ) × Resorts passed (lowest n (beta k shape)) (lowest n (beta k left)) × (height shape left ≡ passed + 1) × (passed + 1 ≤ k)
removal_resorts k n shape left p l r =
    let h = removal_lowers k n shape left p l r in
    by h.0 h.1 h.2
  where
    by : (passed : ℕ) → Lowers n (beta k shape) (beta k left) passed → height shape left ≡ passed + 1
        → (passed : ℕ) × Resorts passed (lowest n (beta k shape)) (lowest n (beta k left)) × (height shape left ≡ passed + 1) × (passed + 1 ≤ k)
    by passed w e =
        let f = subst FallsStrictly w.from (beta_strict k shape p.falls) in
        let g = subst FallsStrictly w.to (beta_strict k left r.partition.falls) in
        let m = lowest_moves n w.entry w.front w.middle w.back f g in
        let a = subst (λ b. Resorts (length w.middle) (lowest n b) (lowest n (lowered w.entry w.front w.middle w.back))) (sym w.from) m in
        let c = subst (λ b. Resorts (length w.middle) (lowest n (beta k shape)) (lowest n b)) (sym w.to) a in
        let d = w.passes in
        let u = length-beta k shape in
        let v = ap length w.from in
        let x = length-append w.front ((w.entry + n) ∷ (w.middle ++ w.back)) in
        let y = length-append w.middle w.back in
        (passed, subst (λ q. Resorts q (lowest n (beta k shape)) (lowest n (beta k left))) (sym d) c, e, omega arith)

-- ---- the partition `end` that remains after all removals, the product `sign` of the signs of the removed rim hooks, and their number `power`

pub record Ends (k n : ℕ) (shape end : List ℕ) (sign : ℤ) (power : ℕ) : Type 0 where
  pub end_is : end ≡ end_of k n shape
  pub sign_is : sign ≡ minus_one_to (power * (k + 1) + rising_pairs (lowest n (beta k shape)))
  pub cells : size shape ≡ size end + power * n
  pub partition : IsPartition end

stays_ends : (k n : ℕ) (shape end : List ℕ) (sign : ℤ) → 1 ≤ n → IsPartition shape → rows shape ≤ k → HasNoRemoval n shape → shape ≡ end → sign ≡ pos 1 → Ends k n shape end sign zero
stays_ends k n shape end sign h p r none e s = search (rules, stays_lowest, beta_strict, strict_pairs, sorted-falling, strict_falls, from_beta-beta)

step_ends : (k n : ℕ) (shape left end : List ℕ) (t sign : ℤ) (power : ℕ) → IsPartition shape → rows shape ≤ k → IsRemoval n shape left → Ends k n left end t power
    → sign ≡ minus_one_to (k - height shape left) *ℤ t → Ends k n shape end sign (suc power)
step_ends k n shape left end t sign power p r m w s =
    let h = removal_resorts k n shape left p r m in
    by h.0 h.1 h.2 h.3
  where
    by : (passed : ℕ) → Resorts passed (lowest n (beta k shape)) (lowest n (beta k left)) → height shape left ≡ passed + 1 → passed + 1 ≤ k → Ends k n shape end sign (suc power)
    by passed q e l =
        let now = rising_pairs (lowest n (beta k shape)) in
        let then' = rising_pairs (lowest n (beta k left)) in
        let turns = q.parity in
        let c = m.cells in
        let d = w.cells in
        record {
          end_is = w.end_is ∙ ap from_beta (sym q.sorts);
          sign_is =
              s
              ∙ ap₂ ◌*ℤ◌ (ap (λ x. minus_one_to (k - x)) e) w.sign_is
              ∙ sym (minus_one_to_add (k - (passed + 1)) (power * (k + 1) + then'))
              ∙ same_sign (k - (passed + 1) + (power * (k + 1) + then')) (suc power * (k + 1) + now) (omega arith);
          cells = omega arith;
          partition = w.partition;
        }

pub goes_ends : (k n : ℕ) (shape end : List ℕ) (sign : ℤ) (power : ℕ) → 1 ≤ n → IsPartition shape → GoesTo k n shape end sign power → Ends k n shape end sign power
goes_ends k n shape end sign zero h p (r, none, e, s) = stays_ends k n shape end sign h p r none e s
goes_ends k n shape end sign (suc power) h p (r, left, t, m, g, s) =
    step_ends k n shape left end t sign power p r m (goes_ends k n left end t power h m.partition g) s

abbrev HasEnd : ℕ → ℕ → List ℕ → Type 0
HasEnd k n shape = (end : List ℕ) × (sign : ℤ) × (power : ℕ) × GoesTo k n shape end sign power

goes_within : (fuel k n : ℕ) (shape : List ℕ) → size shape < fuel → 1 ≤ n → IsPartition shape → rows shape ≤ k → HasEnd k n shape
goes_within zero k n shape f h p r = absurd (omega arith)
goes_within (suc fuel) k n shape f h p r =
    by (lowers_or_full n (beta k shape) (beta_strict k shape p.falls)) (λ left m. let c = m.cells in let d = fewer_rows n shape left m in goes_within fuel k n left (omega arith) h m.partition (omega arith))
  where
    by : CanLower n (beta k shape) ⊎ IsFull n (beta k shape) → ((left : List ℕ) → IsRemoval n shape left → HasEnd k n left) → HasEnd k n shape
    by (inr g) later = (shape, pos 1, 0, (r, full_stays k n shape p r g, refl, refl))
    by (inl l) later =
        let left = from_beta (lowered l.entry l.front l.middle l.back) in
        let m = lowering_removes k n shape h p r l in
        let e = later left m in
        (e.0, minus_one_to (k - height shape left) *ℤ e.1, suc e.2, (r, left, e.1, m, e.3, refl))

-- ---- the clauses of the law `removals_end_law`

pub goes_end : (k n : ℕ) (shape end : List ℕ) (sign : ℤ) (power : ℕ) → 1 ≤ n → IsPartition shape → GoesTo k n shape end sign power → end ≡ end_of k n shape
goes_end k n shape end sign power h p g = (goes_ends k n shape end sign power h p g).end_is

pub goes_power : (k n : ℕ) (shape end : List ℕ) (sign : ℤ) (power : ℕ) → 1 ≤ n → IsPartition shape → GoesTo k n shape end sign power → power ≡ power_of k n shape
goes_power k n shape end sign power h p g = search (rules, goes_ends, mul-div_cancel_left)

pub goes_sign : (k n : ℕ) (shape end : List ℕ) (sign : ℤ) (power : ℕ) → 1 ≤ n → IsPartition shape → GoesTo k n shape end sign power → sign ≡ end_sign k n shape
goes_sign k n shape end sign power h p g = search (rules, goes_ends, goes_power)

pub goes_to_end : (k n : ℕ) (shape : List ℕ) → 1 ≤ n → IsPartition shape → rows shape ≤ k → GoesTo k n shape (end_of k n shape) (end_sign k n shape) (power_of k n shape)
goes_to_end k n shape h p r =
    let w = goes_within (suc (size shape)) k n shape (omega arith) h p r in
    let a = subst (λ e. GoesTo k n shape e w.1 w.2) (goes_end k n shape w.0 w.1 w.2 h p w.3) w.3 in
    let b = subst (λ s. GoesTo k n shape (end_of k n shape) s w.2) (goes_sign k n shape w.0 w.1 w.2 h p w.3) a in
    subst (λ m. GoesTo k n shape (end_of k n shape) (end_sign k n shape) m) (goes_power k n shape w.0 w.1 w.2 h p w.3) b

pub goes_cells : (k n : ℕ) (shape end : List ℕ) (sign : ℤ) (power : ℕ) → GoesTo k n shape end sign power → size shape ≡ size end + power * n
goes_cells k n shape end sign zero (r, none, e, s) = ap size e ∙ omega arith
goes_cells k n shape end sign (suc power) (r, left, t, m, g, s) = let c = m.cells in let d = goes_cells k n left end t power g in omega arith

pub goes_partition : (k n : ℕ) (shape end : List ℕ) (sign : ℤ) (power : ℕ) → IsPartition shape → GoesTo k n shape end sign power → IsPartition end
goes_partition k n shape end sign zero p (r, none, e, s) = subst IsPartition e p
goes_partition k n shape end sign (suc power) p (r, left, t, m, g, s) = goes_partition k n left end t power m.partition g

pub goes_rows : (k n : ℕ) (shape end : List ℕ) (sign : ℤ) (power : ℕ) → GoesTo k n shape end sign power → rows end ≤ k
goes_rows k n shape end sign zero (r, none, e, s) = let d = ap length e in omega arith
goes_rows k n shape end sign (suc power) (r, left, t, m, g, s) = goes_rows k n left end t power g

-- ---- the reduction of a partition by rim hooks, given by its n-core

by_columns : (k n : ℕ) (shape : List ℕ) → 1 ≤ n → IsPartition shape → rows shape ≤ k → (t : Bool) → nat_le (k + columns (end_of k n shape)) n ≡ t
    → ReducesTo k n shape (cond t (Some (end_of k n shape, end_sign k n shape, power_of k n shape)) None)
by_columns k n shape h p r true e = (goes_to_end k n shape h p r, leb-true (k + columns (end_of k n shape)) n e)
by_columns k n shape h p r false e =
    let l : n < k + columns (end_of k n shape) = grind (arith, nat_tests) in
    (end_of k n shape, end_sign k n shape, power_of k n shape, goes_to_end k n shape h p r, l)

-- each partition with at most k rows can be reduced by rim hooks (`ReducesTo`), with the result that is computed from the remainders of its beta list
-- modulo n (`reduction_by_remainders`)
pub reduces_by_remainders : (k n : ℕ) (shape : List ℕ) → 1 ≤ n → IsPartition shape → rows shape ≤ k → ReducesTo k n shape (reduction_by_remainders k n shape)
reduces_by_remainders k n shape h p r = by_columns k n shape h p r (nat_le (k + columns (end_of k n shape)) n) refl

pub wide : (k n : ℕ) (shape : List ℕ) → n < k + columns (end_of k n shape) → reduction_by_remainders k n shape ≡ None
wide k n shape l = search rules

pub narrow : (k n : ℕ) (shape : List ℕ) → k + columns (end_of k n shape) ≤ n → reduction_by_remainders k n shape ≡ Some (end_of k n shape, end_sign k n shape, power_of k n shape)
narrow k n shape l = search rules

-- the result is unique: if reducing the partition by rim hooks (`ReducesTo`) gives `answer`, then `answer` is the result that is computed from the
-- remainders of its beta list modulo n (`reduction_by_remainders`)
pub reduces_only : (k n : ℕ) (shape : List ℕ) (answer : Option (List ℕ × ℤ × ℕ)) → 1 ≤ n → IsPartition shape → ReducesTo k n shape answer → answer ≡ reduction_by_remainders k n shape
reduces_only k n shape None h p (end, sign, power, g, l) = search (rules, goes_end, wide)
reduces_only k n shape (Some a) h p (g, l) = search (rules, goes_end, goes_sign, goes_power, narrow)
