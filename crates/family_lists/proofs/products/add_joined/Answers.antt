use Rattle.std.proofs.Common.{◌≡◌, [], ◌∷◌, ap₂, sym, subst, ◌∙◌, ℤ, List, ℕ, ◌*ℤ◌}
use Rattle.std.specs.Cmp.Lexicographic.{nat_list_eq_equiv}
use Rattle.sym_model.specs.WholeTerms.{WholeTerms}
use Rattle.linear_combinations.specs.Gains.{Gains, Overflows}
use Rattle.linear_combinations.proofs.Labels.{same_partition}
use Rattle.linear_combinations.proofs.Gains.{overflows_alone}
use Rattle.partitions.specs.Limits.{IsWithinLimits}
use Rattle.sparse_polys.specs.Tables.{equal}
use Rattle.basis_change_laws.specs.JoinedLists.{merged}
use Rattle.family_lists.proofs.RowSteps.{limits-merged}
use Rattle.family_lists.proofs.products.add_joined.Goals as goal
use Rattle.std.proofs.lemmas.Result.{on_ok_weaker}

abbrev term : List ℕ → ℤ → WholeTerms
term label c = (label, c) ∷ []

pub returns-in_err-product-clause-large : goal.returns-in_err-product-clause-large
returns-in_err-product-clause-large c err =
    overflows_alone nat_list_eq_equiv same_partition c.args.sum.now
    (merged c.args.left.now c.args.label.now) (c.args.z *ℤ c.args.c) c.in_err-product.ensures

pub from_valid_parts-requires : goal.from_valid_parts-requires
from_valid_parts-requires c =
    let is : c.as_slice.result.now ≡ merged c.args.left.now c.args.label.now =
    c.as_slice.ensures.value ∙ c.in_ok-put_merged.ensures ∙ ap₂ merged c.parts.ensures.value
    c.parts-2.ensures.value in
    subst (λ l. IsWithinLimits l) (sym is)
    (limits-merged c.args.left.now c.args.label.now c.parts.ensures.limits.partition
    c.parts-2.ensures.limits.partition c.requires)

joined_label : (both : List ℕ) (room left right : List ℕ) (product x : ℤ) → both ≡ room →
    room ≡ merged left right → product ≡ x → term both product ≡ term (merged left right) x
joined_label both room left right product x e f g = ap₂ term (e ∙ f) g

pub returns-clause-gains : goal.returns-clause-gains
returns-clause-gains c =
    on_ok_weaker c.add_owned.result (λ more.
    subst (λ (l : WholeTerms). Gains c.args.sum.now l c.add_owned.new.self)
    (joined_label c.in_ok-from_valid_parts.field-0 c.as_slice.result.now c.args.left.now
    c.args.label.now c.in_ok-product.product (c.args.z *ℤ c.args.c)
    c.in_ok-from_valid_parts.ensures.ok
    (c.as_slice.ensures.value ∙ c.in_ok-put_merged.ensures ∙ ap₂ merged c.parts.ensures.value
    c.parts-2.ensures.value) c.in_ok-product.ensures) more) c.add_owned.ensures.gains

pub returns-clause-large : goal.returns-clause-large
returns-clause-large c err =
    subst (λ (l : WholeTerms). Overflows equal c.args.sum.now l)
    (joined_label c.in_ok-from_valid_parts.field-0 c.as_slice.result.now c.args.left.now
    c.args.label.now c.in_ok-product.product (c.args.z *ℤ c.args.c)
    c.in_ok-from_valid_parts.ensures.ok
    (c.as_slice.ensures.value ∙ c.in_ok-put_merged.ensures ∙ ap₂ merged c.parts.ensures.value
    c.parts-2.ensures.value) c.in_ok-product.ensures)
    (c.add_owned.ensures.large err)
