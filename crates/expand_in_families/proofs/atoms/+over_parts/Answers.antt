use Rattle.std.proofs.Common.{◌≡◌, ℕ, ◌+◌, ◌-◌, ◌*◌, ◌≤◌, ◌^◌, List, [], length}
use Rattle.std.proofs.Common.{get_or, take, drop, ap, subst, sym, arith, Err}
use Rattle.sym_model.specs.Partition.{IsPartition, size}
use Rattle.sym_model.specs.Bases.{product_over}
use Rattle.sym_model.specs.Expansion.{completes}
use Rattle.sym_model.specs.Polynomial.{scale}
use Rattle.sym_model.specs.Weight.{factorial, growth}
use Rattle.sym_model.specs.WholeTerms.{WholeTerms}
use Rattle.sym_model.proofs.Parts.{split_first}
use Rattle.sym_model.proofs.SortedParts.{IsPartition_tail}
use Rattle.linear_combinations.specs.Gains.{Gains, Overflows}
use Rattle.linear_combinations.proofs.Steps.{error_is}
use Rattle.basis_change_laws.specs.JoinedLists.{joined, Stands}
use Rattle.basis_change_laws.proofs.GrowthBounds.{grown-mono}
use Rattle.sparse_polys.specs.Families.{polynomial_of}
use Rattle.sparse_polys.specs.Tables.{equal}
use Rattle.sparse_polys.proofs.Families.{In-family}
use Rattle.family_lists.specs.FactorLists.{over_number}
use Rattle.family_lists.proofs.FactorSteps.{factor-loose}
use Rattle.family_lists.proofs.PartLists.{parts-none, parts-next, parts-large}
use Rattle.family_lists.proofs.TableLists.{stands-greatest}
use Rattle.expand_in_families.proofs.atoms.+over_parts.Goals as goal
use Rattle.basis_expand.proofs.AtomLists.{no_parts}

pub returns-in_default-clause-value : goal.returns-in_default-clause-value
returns-in_default-clause-value t c =
    let none : [] ≡ c.args.parts.now = no_parts c.args.parts.now c.in_default.len_below in
    subst (λ (p : List ℕ). Stands (polynomial_of c.args.target) (factorial (size p))
    (growth completes (size p)) (size p) (product_over (polynomial_of c.args.family) p)
    c.in_ok-one.one) none
    (parts-none (polynomial_of c.args.target) (polynomial_of c.args.family) c.in_ok-one.one
    c.in_ok-one.ensures.table c.in_ok-one.ensures.value)

pub over_parts-requires : goal.over_parts-requires
over_parts-requires t c =
    let split = split_first c.args.parts.now c.in-len1-up.len_at_least in
    let shorter = ap length split in
    let sizes : get_or c.args.parts.now 0 0 + size (take (length c.args.parts.now - 1)
    (drop 1 c.args.parts.now)) ≡ size c.args.parts.now = ap size split in
    let whole = subst IsPartition (sym split) c.requires.partition in
    let low = c.requires.low in (
      omega arith,
      (
        IsPartition_tail (get_or c.args.parts.now 0 0) (take (length c.args.parts.now - 1)
            (drop 1 c.args.parts.now)) whole,
        omega arith,
      ),
    )

pub factor_list-requires : goal.factor_list-requires
factor_list-requires t c =
    let split = split_first c.args.parts.now c.in-len1-up.len_at_least in
    let sizes : get_or c.args.parts.now 0 0 + size (take (length c.args.parts.now - 1)
    (drop 1 c.args.parts.now)) ≡ size c.args.parts.now = ap size split in
    let low = c.requires.low in
    omega arith

pub returns-in_err-others-clause-large : goal.returns-in_err-others-clause-large
returns-in_err-others-clause-large t c = λ large.
    let split = split_first c.args.parts.now c.in-len1-up.len_at_least in
    let sizes : get_or c.args.parts.now 0 0 + size (take (length c.args.parts.now - 1)
    (drop 1 c.args.parts.now)) ≡ size c.args.parts.now = ap size split in
    let l = c.in_err-others.ensures.large
    (ap Err (error_is _ _ _ c.from_residual-in_err-others.ensures.1 large)) in
    let m = grown-mono (size (take (length c.args.parts.now - 1) (drop 1 c.args.parts.now)))
    (size c.args.parts.now) (omega arith) in
    omega arith

pub add_products-requires : goal.add_products-requires
add_products-requires t c =
    let split = split_first c.args.parts.now c.in-len1-up.len_at_least in
    let sizes : get_or c.args.parts.now 0 0 + size (take (length c.args.parts.now - 1)
    (drop 1 c.args.parts.now)) ≡ size c.args.parts.now = ap size split in
    let some = (subst IsPartition (sym split) c.requires.partition).positive.0 in
    let w =
    factor-loose (polynomial_of c.args.target) c.args.family (get_or c.args.parts.now 0 0)
    c.in_ok-list.list
    (c.in_ok-list.ensures.value some) in
    let v = c.in_ok-others.ensures.value in
    let x = stands-greatest (polynomial_of c.args.target) (over_number c.args.family
    (get_or c.args.parts.now 0 0)) (over_number c.args.family (get_or c.args.parts.now 0 0) * 2
    ^ get_or c.args.parts.now 0 0) (get_or c.args.parts.now 0 0)
    (λ n. polynomial_of c.args.family (get_or c.args.parts.now 0 0) n) c.in_ok-list.list w in
    let y = stands-greatest (polynomial_of c.args.target)
    (factorial (size (take (length c.args.parts.now - 1) (drop 1 c.args.parts.now))))
    (growth completes (size (take (length c.args.parts.now - 1) (drop 1 c.args.parts.now))))
    (size (take (length c.args.parts.now - 1) (drop 1 c.args.parts.now)))
    (product_over (polynomial_of c.args.family) (take (length c.args.parts.now - 1)
    (drop 1 c.args.parts.now))) c.in_ok-others.others v in
    let low = c.requires.low in
    omega arith

pub returns-in_err-add_products-clause-large : goal.returns-in_err-add_products-clause-large
returns-in_err-add_products-clause-large t c = λ large.
    let split = split_first c.args.parts.now c.in-len1-up.len_at_least in
    let sizes : get_or c.args.parts.now 0 0 + size (take (length c.args.parts.now - 1)
    (drop 1 c.args.parts.now)) ≡ size c.args.parts.now = ap size split in
    let some = (subst IsPartition (sym split) c.requires.partition).positive.0 in
    let w =
    factor-loose (polynomial_of c.args.target) c.args.family (get_or c.args.parts.now 0 0)
    c.in_ok-list.list
    (c.in_ok-list.ensures.value some) in
    let v = c.in_ok-others.ensures.value in
    let e : c.in_ok-others.size ≡ size (take (length c.args.parts.now - 1)
    (drop 1 c.args.parts.now)) = c.in_ok-others.ensures.size in
    let many : c.ways.result * (over_number c.args.family (get_or c.args.parts.now 0 0) * factorial
    (size (take (length c.args.parts.now - 1) (drop 1 c.args.parts.now)))) ≡ factorial
    (get_or c.args.parts.now 0 0 + size (take (length c.args.parts.now - 1)
    (drop 1 c.args.parts.now))) =
    subst (λ s. c.ways.result * (over_number c.args.family (get_or c.args.parts.now 0 0) * factorial
    s) ≡ factorial (get_or c.args.parts.now 0 0 + s)) e c.ways.ensures.value in
    subst (λ s. 2 ^ 127 ≤ growth completes s) sizes
    (parts-large (polynomial_of c.args.target) (polynomial_of c.args.family)
    (get_or c.args.parts.now 0 0) c.ways.result (over_number c.args.family
    (get_or c.args.parts.now 0 0)) (take (length c.args.parts.now - 1)
    (drop 1 c.args.parts.now)) c.in_ok-list.list c.in_ok-others.others c.whole_of-ways.result
    c.whole_of-ways.ensures many w v
    (subst (λ (ts : WholeTerms). Overflows equal ts
    (joined (scale c.whole_of-ways.result c.in_ok-list.list) c.in_ok-others.others))
    c.new-product.ensures
    (c.in_err-add_products.ensures.large
    (ap Err (error_is _ _ _ c.from_residual-in_err-add_products.ensures.1 large)))))

pub returns-clause-value : goal.returns-clause-value
returns-clause-value t c =
    let split = split_first c.args.parts.now c.in-len1-up.len_at_least in
    let sizes : get_or c.args.parts.now 0 0 + size (take (length c.args.parts.now - 1)
    (drop 1 c.args.parts.now)) ≡ size c.args.parts.now = ap size split in
    let some = (subst IsPartition (sym split) c.requires.partition).positive.0 in
    let w =
    factor-loose (polynomial_of c.args.target) c.args.family (get_or c.args.parts.now 0 0)
    c.in_ok-list.list
    (c.in_ok-list.ensures.value some) in
    let v = c.in_ok-others.ensures.value in
    let e : c.in_ok-others.size ≡ size (take (length c.args.parts.now - 1)
    (drop 1 c.args.parts.now)) = c.in_ok-others.ensures.size in
    let many : c.ways.result * (over_number c.args.family (get_or c.args.parts.now 0 0) * factorial
    (size (take (length c.args.parts.now - 1) (drop 1 c.args.parts.now)))) ≡ factorial
    (get_or c.args.parts.now 0 0 + size (take (length c.args.parts.now - 1)
    (drop 1 c.args.parts.now))) =
    subst (λ s. c.ways.result * (over_number c.args.family (get_or c.args.parts.now 0 0) * factorial
    s) ≡ factorial (get_or c.args.parts.now 0 0 + s)) e c.ways.ensures.value in
    subst (λ (p : List ℕ). Stands (polynomial_of c.args.target) (factorial (size p))
    (growth completes (size p)) (size p) (product_over (polynomial_of c.args.family) p)
    c.add_products.new.sum) split
    (parts-next (polynomial_of c.args.target) (polynomial_of c.args.family)
    (In-family c.args.target) (get_or c.args.parts.now 0 0) c.ways.result
    (over_number c.args.family (get_or c.args.parts.now 0 0))
    (take (length c.args.parts.now - 1) (drop 1 c.args.parts.now)) c.in_ok-list.list
    c.in_ok-others.others c.add_products.new.sum many w v c.in_ok-add_products.ensures.table
    (subst (λ z. Gains [] (joined (scale z c.in_ok-list.list) c.in_ok-others.others)
    c.add_products.new.sum) c.whole_of-ways.ensures
    (subst (λ (ts : WholeTerms). Gains ts
    (joined (scale c.whole_of-ways.result c.in_ok-list.list) c.in_ok-others.others)
    c.add_products.new.sum) c.new-product.ensures
    c.in_ok-add_products.ensures.gains)))
