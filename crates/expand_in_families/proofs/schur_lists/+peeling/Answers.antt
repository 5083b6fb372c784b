use Rattle.std.proofs.lemmas.Option.{slice_get_within}
use Rattle.std.proofs.Common.{◌≡◌, ℕ, List, refl, ◌+◌, ◌-◌, ◌*◌, ◌<◌, ◌≤◌, ◌^◌, length, get_or, ap}
use Rattle.std.proofs.Common.{sym, ◌∙◌, subst, arith, pos, Err}
use Rattle.std.proofs.lemmas.Bool.{eqb-true, eqb-false}
use Rattle.sym_model.specs.Partition.{size}
use Rattle.sym_model.specs.Expansion.{completes}
use Rattle.sym_model.specs.PlaceOrders.{minus_one_to}
use Rattle.sym_model.specs.Weight.{factorial, growth}
use Rattle.sym_model.proofs.SortedParts.{rows_within_size}
use Rattle.linear_combinations.proofs.Steps.{error_is}
use Rattle.basis_change_laws.proofs.GrowthBounds.{grown-mono}
use Rattle.sparse_polys.specs.Families.{polynomial_of}
use Rattle.sparse_polys.proofs.WholeLists.{if_ok_both}
use Rattle.family_lists.proofs.KeptLists.{list-found, lists-kept}
use Rattle.expand_in_families.specs.SchurLists.{schur_in, IsSchurList}
use Rattle.expand_in_families.proofs.PeelingSteps.{left-rest, left-sized, left-within, cells-within}
use Rattle.expand_in_families.proofs.PeelingSteps.{factor-at, nothing-list, peeled-next}
use Rattle.expand_in_families.proofs.PeelingSteps.{peeled-large}
use Rattle.expand_in_families.proofs.HookProducts.{hooks-done}
use Rattle.family_lists.proofs.TableLists.{stands-greatest}
use lib.IntN.{*ℤ_comm}
use Rattle.expand_in_families.proofs.schur_lists.+peeling.Goals as goal

pub list_of-overflow_cast-below : goal.list_of-overflow_cast-below
list_of-overflow_cast-below t c =
    let r = rows_within_size c.args.shape.now c.requires.partition.positive in
    let low = c.requires.low in
    record { fits = omega arith }

pub list_of-index_of-requires : goal.list_of-index_of-requires
list_of-index_of-requires t c =
    let r = left-rest c.args.shape.now c.loop-row.row c.in_ok-rest.rest c.requires.partition
    c.loop-row-test.true c.in_ok-rest.ensures in
    let s = r.sized in
    let f = r.fewer in (
      omega arith,
      (
        c.requires.hooks,
        (
          c.requires.lists,
          (
            c.loop-row.invariant.store,
            (
              omega (arith, c.requires.low),
              left-within c.args.shape.now c.loop-row.row
                  (length c.args.lists.now) c.in_ok-rest.rest c.requires.partition c.loop-row-test.true
                  c.in_ok-rest.ensures c.requires.enough,
            ),
          ),
        ),
      ),
    )

pub list_of-list_at-requires : goal.list_of-list_at-requires
list_of-list_at-requires t c = slice_get_within c.index_of.new.store.entries c.in_ok-at.at _
    c.in_ok-at.ensures.index.1

pub list_of-returns-then-is_empty-clause-value : goal.list_of-returns-then-is_empty-clause-value
list_of-returns-then-is_empty-clause-value t c =
    let none = eqb-true (length c.args.shape.now) 0 (sym c.is_empty.ensures ∙ c.if-is_empty.true) in
    if_ok_both c.single.result c.single.ensures.value c.single.ensures.table
    (λ list same is. nothing-list (polynomial_of c.args.target) c.args.family c.args.shape.now list
    none is same)

pub list_of-returns-in_err-at-clause-large : goal.list_of-returns-in_err-at-clause-large
list_of-returns-in_err-at-clause-large t c = λ large.
    let s = left-sized c.args.shape.now c.loop-row.row c.in_ok-rest.rest c.requires.partition
    c.loop-row-test.true c.in_ok-rest.ensures in
    let l = c.in_err-at.ensures.large
    (ap Err (error_is _ _ _ c.from_residual-in_err-at.ensures.1 large)) in
    let m = grown-mono (size c.in_ok-rest.rest) (size c.args.shape.now) (omega arith) in
    omega arith

pub list_of-overflow_add-cells : goal.list_of-overflow_add-cells
list_of-overflow_add-cells t c =
    let s = left-sized c.args.shape.now c.loop-row.row c.in_ok-rest.rest c.requires.partition
    c.loop-row-test.true c.in_ok-rest.ensures in
    record { fits = omega (arith, c.requires.low) }

pub list_of-binomial-requires : goal.list_of-binomial-requires
list_of-binomial-requires t c =
    let s = left-sized c.args.shape.now c.loop-row.row c.in_ok-rest.rest c.requires.partition
    c.loop-row-test.true c.in_ok-rest.ensures in
    omega (arith, c.requires.low, c.size-size.ensures.value)

pub list_of-offset_bounds-lists-from : goal.list_of-offset_bounds-lists-from
list_of-offset_bounds-lists-from t c =
    let s = left-sized c.args.shape.now c.loop-row.row c.in_ok-rest.rest c.requires.partition
    c.loop-row-test.true c.in_ok-rest.ensures in
    let few =
    cells-within c.args.shape.now c.loop-row.row (length c.args.lists.now) c.requires.partition
    c.loop-row-test.true c.requires.enough in
    record { fits = omega (arith, few, c.requires.low, c.from.ensures) }

pub list_of-bounds-lists-from : goal.list_of-bounds-lists-from
list_of-bounds-lists-from t c =
    let s = left-sized c.args.shape.now c.loop-row.row c.in_ok-rest.rest c.requires.partition
    c.loop-row-test.true c.in_ok-rest.ensures in
    let few =
    cells-within c.args.shape.now c.loop-row.row (length c.args.lists.now) c.requires.partition
    c.loop-row-test.true c.requires.enough in
    omega (arith, few, c.from.ensures)

pub list_of-add_products-requires : goal.list_of-add_products-requires
list_of-add_products-requires t c =
    let s = left-sized c.args.shape.now c.loop-row.row c.in_ok-rest.rest c.requires.partition
    c.loop-row-test.true c.in_ok-rest.ensures in
    let few : get_or c.args.shape.now c.loop-row.row 0 + (length c.args.shape.now - 1
    - c.loop-row.row) < length c.args.lists.now =
    cells-within c.args.shape.now c.loop-row.row (length c.args.lists.now) c.requires.partition
    c.loop-row-test.true c.requires.enough in
    let r = left-rest c.args.shape.now c.loop-row.row c.in_ok-rest.rest c.requires.partition
    c.loop-row-test.true c.in_ok-rest.ensures in
    let w =
    factor-at (polynomial_of c.args.target) c.args.family c.requires.hooks c.args.lists.now
    c.requires.lists (get_or c.args.shape.now c.loop-row.row 0 + (length c.args.shape.now - 1
    - c.loop-row.row)) c.from.result _ c.index-lists-from.result r.some few
    c.from.ensures c.index-lists-from.is in
    let v =
    list-found (IsSchurList (polynomial_of c.args.target) c.args.family)
    c.index_of.new.store.entries c.in_ok-rest.rest c.in_ok-rest.rest c.list_at.result.0.now
    c.list_at.result.1.now c.in_ok-at.at refl
    c.in_ok-at.ensures.store c.in_ok-at.ensures.index c.list_at.ensures in
    let k = get_or c.args.shape.now c.loop-row.row 0 + (length c.args.shape.now - 1
    - c.loop-row.row) in
    let x = stands-greatest (polynomial_of c.args.target) (factorial k) (factorial k * 2 ^ k) k
    (λ n. polynomial_of c.args.family k n) c.index-lists-from.result w in
    let y = stands-greatest (polynomial_of c.args.target) (factorial (size c.in_ok-rest.rest))
    (growth completes (size c.in_ok-rest.rest)) (size c.in_ok-rest.rest)
    (schur_in c.args.family c.in_ok-rest.rest) c.list_at.result.1.now v in
    omega (arith, c.requires.low)

pub list_of-returns-in_err-add_products-clause-large
    : goal.list_of-returns-in_err-add_products-clause-large
list_of-returns-in_err-add_products-clause-large t c = λ large.
    let s = left-sized c.args.shape.now c.loop-row.row c.in_ok-rest.rest c.requires.partition
    c.loop-row-test.true c.in_ok-rest.ensures in
    let few : get_or c.args.shape.now c.loop-row.row 0 + (length c.args.shape.now - 1
    - c.loop-row.row) < length c.args.lists.now =
    cells-within c.args.shape.now c.loop-row.row (length c.args.lists.now) c.requires.partition
    c.loop-row-test.true c.requires.enough in
    let r = left-rest c.args.shape.now c.loop-row.row c.in_ok-rest.rest c.requires.partition
    c.loop-row-test.true c.in_ok-rest.ensures in
    let w =
    factor-at (polynomial_of c.args.target) c.args.family c.requires.hooks c.args.lists.now
    c.requires.lists (get_or c.args.shape.now c.loop-row.row 0 + (length c.args.shape.now - 1
    - c.loop-row.row)) c.from.result _ c.index-lists-from.result r.some few
    c.from.ensures c.index-lists-from.is in
    let v =
    list-found (IsSchurList (polynomial_of c.args.target) c.args.family)
    c.index_of.new.store.entries c.in_ok-rest.rest c.in_ok-rest.rest c.list_at.result.0.now
    c.list_at.result.1.now c.in_ok-at.at refl
    c.in_ok-at.ensures.store c.in_ok-at.ensures.index c.list_at.ensures in
    let many =
    subst (λ d. c.binomial.result * (factorial (get_or c.args.shape.now c.loop-row.row 0 +
    (length c.args.shape.now - 1 - c.loop-row.row)) * factorial d) ≡ factorial
    (get_or c.args.shape.now c.loop-row.row 0 + (length c.args.shape.now - 1 - c.loop-row.row)
    + d))
    c.size-size.ensures.value c.binomial.ensures.value in
    let sign = c.signed-ways.ensures ∙ *ℤ_comm
    (minus_one_to (length c.args.shape.now - 1 - c.loop-row.row)) (pos c.binomial.result) in
    peeled-large c.args.target c.args.family c.requires.hooks c.args.shape.now c.loop-row.row
    c.binomial.result c.signed-ways.result c.in_ok-rest.rest c.index-lists-from.result
    c.list_at.result.1.now c.requires.partition c.loop-row-test.true c.in_ok-rest.ensures many
    sign w v c.loop-row.sum
    c.loop-row.invariant.stands.few (c.in_err-add_products.ensures.large
    (ap Err (error_is _ _ _ c.from_residual-in_err-add_products.ensures.1 large)))

pub list_of-loop-row-preserved : goal.list_of-loop-row-preserved
list_of-loop-row-preserved t c =
    let s = left-sized c.args.shape.now c.loop-row.row c.in_ok-rest.rest c.requires.partition
    c.loop-row-test.true c.in_ok-rest.ensures in
    let few : get_or c.args.shape.now c.loop-row.row 0 + (length c.args.shape.now - 1
    - c.loop-row.row) < length c.args.lists.now =
    cells-within c.args.shape.now c.loop-row.row (length c.args.lists.now) c.requires.partition
    c.loop-row-test.true c.requires.enough in
    let r = left-rest c.args.shape.now c.loop-row.row c.in_ok-rest.rest c.requires.partition
    c.loop-row-test.true c.in_ok-rest.ensures in
    let w =
    factor-at (polynomial_of c.args.target) c.args.family c.requires.hooks c.args.lists.now
    c.requires.lists (get_or c.args.shape.now c.loop-row.row 0 + (length c.args.shape.now - 1
    - c.loop-row.row)) c.from.result _ c.index-lists-from.result r.some few
    c.from.ensures c.index-lists-from.is in
    let v =
    list-found (IsSchurList (polynomial_of c.args.target) c.args.family)
    c.index_of.new.store.entries c.in_ok-rest.rest c.in_ok-rest.rest c.list_at.result.0.now
    c.list_at.result.1.now c.in_ok-at.at refl
    c.in_ok-at.ensures.store c.in_ok-at.ensures.index c.list_at.ensures in
    let many =
    subst (λ d. c.binomial.result * (factorial (get_or c.args.shape.now c.loop-row.row 0 +
    (length c.args.shape.now - 1 - c.loop-row.row)) * factorial d) ≡ factorial
    (get_or c.args.shape.now c.loop-row.row 0 + (length c.args.shape.now - 1 - c.loop-row.row)
    + d))
    c.size-size.ensures.value c.binomial.ensures.value in
    let sign = c.signed-ways.ensures ∙ *ℤ_comm
    (minus_one_to (length c.args.shape.now - 1 - c.loop-row.row)) (pos c.binomial.result) in
    record {
      stands =
          peeled-next c.args.target c.args.family c.requires.hooks c.args.shape.now c.loop-row.row
          c.binomial.result c.signed-ways.result c.in_ok-rest.rest c.index-lists-from.result
          c.list_at.result.1.now c.requires.partition c.loop-row-test.true c.in_ok-rest.ensures
          many sign w v
          c.loop-row.sum c.add_products.new.sum c.in_ok-add_products.ensures.table
          c.loop-row.invariant.stands c.in_ok-add_products.ensures.gains;
      table = c.in_ok-add_products.ensures.table;
      store = c.in_ok-at.ensures.store;
    }

pub list_of-returns-clause-value : goal.list_of-returns-clause-value
list_of-returns-clause-value t c =
    let over = c.loop-row-test.false in
    let some : 1 ≤ length c.args.shape.now = omega (
      arith,
      eqb-false (length c.args.shape.now) 0
          (sym c.is_empty.ensures ∙ c.if-is_empty.false),
    ) in
    let end : length c.args.shape.now ≡ c.loop-row.row = omega arith in
    hooks-done (polynomial_of c.args.target) c.args.family c.requires.hooks c.args.shape.now
    c.loop-row.row c.loop-row.sum c.requires.partition some end c.loop-row.invariant.stands

pub index_of-returns-clause-store : goal.index_of-returns-clause-store
index_of-returns-clause-store t c =
    lists-kept (IsSchurList (polynomial_of c.args.target) c.args.family) c.list_of.new.store.entries
    c.keep.new.lists.entries _ c.in_ok-list.list c.in_ok-list.ensures.store
    (subst (λ (s : List ℕ). IsSchurList (polynomial_of c.args.target) c.args.family s
    c.in_ok-list.list) c.parts.ensures.value c.in_ok-list.ensures.value)
    c.in_ok-keep.ensures.kept
