use Rattle.std.proofs.lemmas.List.{take_rest}
use Rattle.std.specs.Prelude.{drop}
use Rattle.std.proofs.Common.{[], ◌≡◌, ◌+◌, ◌-◌, take, ◌*◌, ◌^◌, ◌≤◌, length, sym, ap, ◌∙◌, subst, Err, arith, ℕ, rules}
use Rattle.sym_model.specs.Weight.{growth}
use Rattle.linear_combinations.proofs.Labels.{same_pair}
use Rattle.sparse_polys.specs.LabelSizes.{AreWithin}
use Rattle.sparse_polys.specs.Families.{basis_in, polynomial_of}
use Rattle.linear_combinations.specs.Gains.{HaveLabels, over, weighed}
use Rattle.linear_combinations.proofs.Steps.{if_answered}
use Rattle.linear_combinations.proofs.Weighed.{overflow_weighed}
use Rattle.family_lists.specs.FactorLists.{ArePowers}
use Rattle.family_lists.proofs.FactorSteps.{factorial-below}
use Rattle.basis_change.specs.AugmentedProducts.{IsReady, AreSmall}
use Rattle.basis_change.specs.Clearing.{IsBoundedBy, IsMultipleIn, augmented_terms, HasFactors}
use Rattle.basis_change.specs.Costs.{cost}
use Rattle.basis_change.specs.Factors.{product_value, ArePowerSums}
use Rattle.basis_change.proofs.ChangedLists.{failed, factor-family}
use Rattle.basis_change.proofs.PowerSums.{are-small, are-power_sums, behind-first}
use Rattle.basis_change.proofs.Costs.{cost-positive}
use Rattle.basis_change.proofs.CostTable.{cost-within, has-factors}
use Rattle.basis_change.proofs.Bounds.{same_growth}
use Rattle.basis_change.proofs.Starts.{table-cost, table-ready}
use Rattle.basis_change.proofs.Ends.{multiple-changed}
use Rattle.basis_change.proofs.change.in_family.Goals as goal
use lib.IntN.{+ℤ_idl}

pub in_augmented-requires-clause-factor : goal.in_augmented-requires-clause-factor
in_augmented-requires-clause-factor c =
    factorial-below c.factorial.result c.args.size c.factorial.ensures (omega (arith, c.requires.low))

pub returns-in_err-powers : goal.returns-in_err-powers
returns-in_err-powers c = search (rules, failed)

pub returns-in_err-start : goal.returns-in_err-start
returns-in_err-start c =
    failed (basis_in c.args.family) c.args.size c.args.list.now _ _
    c.from_residual-in_err-start.ensures.0 c.from_residual-in_err-start.ensures.1
    (λ large N b.
    let past = c.in_err-start.ensures.large (ap Err large) in
    let o = overflow_weighed same_pair [] (augmented_terms c.factorial.result c.args.list.now) past
    cost (cost-positive past.0) in
    let s = cost-within N c.args.size c.args.list.now c.requires.low c.requires.table
    c.requires.sizes b in
    subst (λ g. 2 ^ 127 ≤ N * g) (sym (same_growth c.args.family c.args.size))
    (omega (arith, rw c.factorial.ensures at o)))

pub in_augmented-requires-clause-multiplicities : goal.in_augmented-requires-clause-multiplicities
in_augmented-requires-clause-multiplicities c =
    subst (λ f. HasFactors f c.args.list.now) (sym c.factorial.ensures)
    (has-factors c.args.size c.args.list.now c.requires.low c.requires.table c.requires.sizes)

pub converted-requires-clause-factors : goal.converted-requires-clause-factors
converted-requires-clause-factors c =
    let lists = c.deref.result.now in
    let l : length c.deref.result.now ≡ c.args.size + 1 =
    omega (arith, ap length c.deref.ensures.value, c.in_ok-powers.ensures.length) in
    subst AreSmall (sym (take_rest lists 1))
    (are-small c.args.family c.args.size lists l
    (subst (ArePowers (polynomial_of c.args.family) (c.args.size + 1))
    (sym c.deref.ensures.value) c.in_ok-powers.ensures.ok))

pub converted-requires-clause-few : goal.converted-requires-clause-few
converted-requires-clause-few c = search (rules, behind-first)

pub converted-requires-clause-ready : goal.converted-requires-clause-ready
converted-requires-clause-ready c =
    let l : length c.deref.result.now ≡ c.args.size + 1 =
    omega (arith, ap length c.deref.ensures.value, c.in_ok-powers.ensures.length) in
    subst (λ n. HaveLabels (IsReady n c.args.size) c.in_ok-start.start)
    (sym (ap length (take_rest c.deref.result.now 1) ∙ behind-first c.deref.result.now
    c.args.size l))
    (table-ready c.args.size c.args.list.now c.requires.low c.requires.table
    c.requires.sizes c.in_ok-start.start c.in_ok-start.ensures.table
    (rw c.factorial.ensures at c.in_ok-start.ensures.gains))

pub returns : goal.returns
returns c =
    let lists = c.deref.result.now in
    let l : length c.deref.result.now ≡ c.args.size + 1 =
    omega (arith, ap length c.deref.ensures.value, c.in_ok-powers.ensures.length) in
    let are : ArePowerSums c.args.family (take (length c.deref.result.now - 1)
    (drop 1 c.deref.result.now)) =
    subst (ArePowerSums c.args.family) (sym (take_rest lists 1))
    (are-power_sums c.args.family c.args.size lists l
    (subst (ArePowers (polynomial_of c.args.family) (c.args.size + 1))
    (sym c.deref.ensures.value) c.in_ok-powers.ensures.ok)) in
    let costs : (N : ℕ) → IsBoundedBy N c.args.list.now → weighed cost c.in_ok-start.start ≤ N
    * growth (basis_in c.args.family) c.args.size =
    λ N b.
    subst (λ g. weighed cost c.in_ok-start.start ≤ N * g)
    (sym (same_growth c.args.family c.args.size))
    (table-cost c.args.size c.args.list.now c.requires.low c.requires.table
    c.requires.sizes c.in_ok-start.start c.in_ok-start.ensures.table
    (rw c.factorial.ensures at c.in_ok-start.ensures.gains) N b) in
    record {
      value = if_answered c.converted.result c.converted.ensures.value
          (λ end same.
          subst (λ q. IsMultipleIn (basis_in c.args.family) q c.args.list.now end)
          (sym (factor-family c.args.family c.args.size))
          (multiple-changed c.args.family c.args.size c.args.list.now end c.requires.low
          c.requires.table c.requires.sizes
          (λ n φ.
          same c.args.family are n φ ∙ c.in_ok-start.ensures.gains.sums
          (product_value c.args.family n φ) ∙ +ℤ_idl (over (product_value c.args.family n φ)
          (augmented_terms c.factorial.result c.args.list.now))
          ∙ ap (λ x. over (product_value c.args.family n φ)
          (augmented_terms x c.args.list.now)) c.factorial.ensures)));
      few = if_answered c.converted.result c.converted.ensures.mass
          (λ end m _ N b. let k = costs N b in omega arith);
      within = if_answered c.converted.result c.converted.ensures.within
          (λ end w _. subst (λ n. AreWithin n end) (ap length (take_rest c.deref.result.now 1)
          ∙ behind-first c.deref.result.now c.args.size l) w);
      table = c.converted.ensures.table;
      large = λ err N b. let k = costs N b in let o = c.converted.ensures.large err in omega arith;
    }
