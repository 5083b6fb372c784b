use Rattle.std.proofs.Common.{◌≡◌, ap, subst, inl, inr, Err, to_z-of_z, pos, ◌*ℤ◌}
use Rattle.sym_model.specs.Polynomial.{scale}
use Rattle.linear_combinations.specs.Entries.{IsMultipleOf}
use Rattle.linear_combinations.proofs.Steps.{error_is}
use Rattle.sparse_polys.specs.Tables.{equal}
use Rattle.sparse_polys.specs.Large.{HasLarge}
use Rattle.sparse_polys.proofs.TableSums.{large_product, large_sum_of, large_sum_swapped}
use Rattle.sparse_polys.proofs.TableSums.{Same-sum_of, Same-sum_swapped}
use Rattle.sparse_polys.proofs.WholeLists.{if_ok_both}
use Rattle.sparse_polys.proofs.whole.sum_of.Goals as goal

pub returns-in_err-first-clause-large : goal.returns-in_err-first-clause-large
returns-in_err-first-clause-large c = λ large.
    let p : c.new.result ≡ c.args.p = rw (to_z-of_z c.ranges.p) at c.new.ensures in
    let refused = c.in_err-first.ensures.large.0
    (ap Err (error_is _ _ _ c.from_residual.ensures.1 large)) in
    inl (subst (λ z. HasLarge (scale z c.args.left)) p (large_product c.args.left c.new.result
    c.len.ensures.combination refused))

pub returns-in_err-second-clause-large : goal.returns-in_err-second-clause-large
returns-in_err-second-clause-large c = λ large.
    let q : c.new-2.result ≡ c.args.q = rw (to_z-of_z c.ranges.q) at c.new-2.ensures in
    let refused = c.in_err-second.ensures.large.0
    (ap Err (error_is _ _ _ c.from_residual-in_err-second.ensures.1 large)) in
    inr (inl (subst (λ z. HasLarge (scale z c.args.right)) q
    (large_product c.args.right c.new-2.result c.len-2.ensures.combination refused)))

pub returns-then-is_shorter-clause-value : goal.returns-then-is_shorter-clause-value
returns-then-is_shorter-clause-value c =
    let p : c.new.result ≡ c.args.p = rw (to_z-of_z c.ranges.p) at c.new.ensures in
    let q : c.new-2.result ≡ c.args.q = rw (to_z-of_z c.ranges.q) at c.new-2.ensures in
    let first = c.in_ok-first.first in
    let second = c.in_ok-second.second in
    let h : IsMultipleOf equal (pos 0) ◌*ℤ◌ c.args.left c.args.p first =
    subst (λ z. IsMultipleOf equal (pos 0) ◌*ℤ◌ c.args.left z first) p
    c.in_ok-first.ensures.product in
    let k : IsMultipleOf equal (pos 0) ◌*ℤ◌ c.args.right c.args.q second =
    subst (λ z. IsMultipleOf equal (pos 0) ◌*ℤ◌ c.args.right z second) q
    c.in_ok-second.ensures.product in
    if_ok_both c.add_all.result c.add_all.ensures.sum c.add_all.ensures.combination
    (λ sum e also. Same-sum_swapped c.args.left c.args.right first second c.args.p c.args.q
    c.len.ensures.combination c.len-2.ensures.combination c.in_ok-first.ensures.combination
    c.in_ok-second.ensures.combination h k sum also e)

pub returns-then-is_shorter-clause-large : goal.returns-then-is_shorter-clause-large
returns-then-is_shorter-clause-large c = λ large.
    let p : c.new.result ≡ c.args.p = rw (to_z-of_z c.ranges.p) at c.new.ensures in
    let q : c.new-2.result ≡ c.args.q = rw (to_z-of_z c.ranges.q) at c.new-2.ensures in
    let first = c.in_ok-first.first in
    let second = c.in_ok-second.second in
    let h : IsMultipleOf equal (pos 0) ◌*ℤ◌ c.args.left c.args.p first =
    subst (λ z. IsMultipleOf equal (pos 0) ◌*ℤ◌ c.args.left z first) p
    c.in_ok-first.ensures.product in
    let k : IsMultipleOf equal (pos 0) ◌*ℤ◌ c.args.right c.args.q second =
    subst (λ z. IsMultipleOf equal (pos 0) ◌*ℤ◌ c.args.right z second) q
    c.in_ok-second.ensures.product in
    inr (inr (large_sum_swapped c.args.left c.args.right first second c.args.p c.args.q
    c.len.ensures.combination c.len-2.ensures.combination c.in_ok-first.ensures.combination
    c.in_ok-second.ensures.combination h k
    (c.add_all.ensures.large large)))

pub returns-clause-value : goal.returns-clause-value
returns-clause-value c =
    let p : c.new.result ≡ c.args.p = rw (to_z-of_z c.ranges.p) at c.new.ensures in
    let q : c.new-2.result ≡ c.args.q = rw (to_z-of_z c.ranges.q) at c.new-2.ensures in
    let first = c.in_ok-first.first in
    let second = c.in_ok-second.second in
    let h : IsMultipleOf equal (pos 0) ◌*ℤ◌ c.args.left c.args.p first =
    subst (λ z. IsMultipleOf equal (pos 0) ◌*ℤ◌ c.args.left z first) p
    c.in_ok-first.ensures.product in
    let k : IsMultipleOf equal (pos 0) ◌*ℤ◌ c.args.right c.args.q second =
    subst (λ z. IsMultipleOf equal (pos 0) ◌*ℤ◌ c.args.right z second) q
    c.in_ok-second.ensures.product in
    if_ok_both c.add_all-2.result c.add_all-2.ensures.sum c.add_all-2.ensures.combination
    (λ sum e also. Same-sum_of c.args.left c.args.right first second c.args.p c.args.q
    c.len.ensures.combination c.len-2.ensures.combination c.in_ok-first.ensures.combination
    c.in_ok-second.ensures.combination h k sum also e)

pub returns-clause-large : goal.returns-clause-large
returns-clause-large c = λ large.
    let p : c.new.result ≡ c.args.p = rw (to_z-of_z c.ranges.p) at c.new.ensures in
    let q : c.new-2.result ≡ c.args.q = rw (to_z-of_z c.ranges.q) at c.new-2.ensures in
    let first = c.in_ok-first.first in
    let second = c.in_ok-second.second in
    let h : IsMultipleOf equal (pos 0) ◌*ℤ◌ c.args.left c.args.p first =
    subst (λ z. IsMultipleOf equal (pos 0) ◌*ℤ◌ c.args.left z first) p
    c.in_ok-first.ensures.product in
    let k : IsMultipleOf equal (pos 0) ◌*ℤ◌ c.args.right c.args.q second =
    subst (λ z. IsMultipleOf equal (pos 0) ◌*ℤ◌ c.args.right z second) q
    c.in_ok-second.ensures.product in
    inr (inr (large_sum_of c.args.left c.args.right first second c.args.p c.args.q
    c.len.ensures.combination c.len-2.ensures.combination c.in_ok-first.ensures.combination
    c.in_ok-second.ensures.combination h k
    (c.add_all-2.ensures.large large)))
