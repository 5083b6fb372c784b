use Rattle.std.proofs.Common.{◌≡◌, [], ◌∷◌, sym, ◌∙◌, ap, subst, arith, ℤ, ◌*ℤ◌}
use Rattle.std.specs.Prelude.{OnOk, nat_eq}
use Rattle.std.specs.Cmp.Lexicographic.{pointwise}
use Rattle.coeff_rings.proofs.Sizes.{refused_size}
use Rattle.sym_model.specs.WholeTerms.{WholeTerms}
use Rattle.sparse_polys.proofs.Accumulating.{at_same}
use Rattle.linear_combinations.specs.Gains.{Gains, Overflows, scaled}
use Rattle.reduction_laws.specs.Collected.{IsSign}
use Rattle.rim_hooks.specs.Reduced.{signed_partition}
use Rattle.reduction_laws.specs.ReducedLists.{at_shape}
use Rattle.reduction_laws.proofs.SignLaws.{sign_told, signed_size}
use Rattle.rim_hooks.proofs.ReducedProducts.{overflow_one}
use Rattle.rim_hooks.proofs.SignCasts.{kept_narrow}
use Rattle.rim_hooks.proofs.fusion_product.ReflectionsReductionPartition.add_reduced.Goals as goal
use Rattle.fraction_laws.proofs.Whole.{whole_fitted}

pub add_signed-requires : goal.add_signed-requires
add_signed-requires c =
    let alcove = c.in-Some.alcove in
    let e = ap signed_partition (sym c.in-Some.is) ∙ c.in_ok-alcove.ensures.value in
    let is = sign_told c.args.self.now.k c.args.self.now.n c.args.grown.now alcove.shape alcove.sign
    e in
    subst IsSign (sym (kept_narrow alcove.sign is)) is

pub returns-in_default-mul-clause-large : goal.returns-in_default-mul-clause-large
returns-in_default-mul-clause-large c err =
    let alcove = c.in-Some.alcove in
    let e = ap signed_partition (sym c.in-Some.is) ∙ c.in_ok-alcove.ensures.value in
    let is = sign_told c.args.self.now.k c.args.self.now.n c.args.grown.now alcove.shape alcove.sign
    e in
    let past = refused_size (c.args.c *ℤ c.args.d) (sym c.in_default-mul.ensures.product) in
    let s = signed_size (c.args.c *ℤ c.args.d) alcove.sign is in
    subst (λ (l : WholeTerms). Overflows (pointwise nat_eq) c.args.sums.now
    (scaled (c.args.c *ℤ c.args.d) l)) (ap at_shape e)
    (overflow_one (pointwise nat_eq) c.args.sums.now alcove.shape
    ((c.args.c *ℤ c.args.d) *ℤ alcove.sign) (at_same alcove.shape) (omega arith))

pub returns-clause-gains : goal.returns-clause-gains
returns-clause-gains c =
    let alcove = c.in-Some.alcove in
    let e = ap signed_partition (sym c.in-Some.is) ∙ c.in_ok-alcove.ensures.value in
    let is = sign_told c.args.self.now.k c.args.self.now.n c.args.grown.now alcove.shape alcove.sign
    e in
    let product : c.in-Some-mul.product ≡ c.args.c *ℤ c.args.d = whole_fitted (c.args.c *ℤ c.args.d) c.in-Some-mul.product (sym c.in-Some-mul.ensures.product) in
    let with : ℤ → ℤ → WholeTerms = λ p z. scaled p ((alcove.shape, z) ∷ []) in
    let path = ap (with c.in-Some-mul.product) (kept_narrow alcove.sign is)
    ∙ ap (λ p. with p alcove.sign) product
    ∙ ap (scaled (c.args.c *ℤ c.args.d)) (ap at_shape e) in
    subst (λ (l : WholeTerms). OnOk c.add_signed.result
    (Gains c.args.sums.now l c.add_signed.new.sums)) path c.add_signed.ensures.gains

pub returns-clause-large : goal.returns-clause-large
returns-clause-large c err =
    let alcove = c.in-Some.alcove in
    let e = ap signed_partition (sym c.in-Some.is) ∙ c.in_ok-alcove.ensures.value in
    let is = sign_told c.args.self.now.k c.args.self.now.n c.args.grown.now alcove.shape alcove.sign
    e in
    let product : c.in-Some-mul.product ≡ c.args.c *ℤ c.args.d = whole_fitted (c.args.c *ℤ c.args.d) c.in-Some-mul.product (sym c.in-Some-mul.ensures.product) in
    let with : ℤ → ℤ → WholeTerms = λ p z. scaled p ((alcove.shape, z) ∷ []) in
    let path = ap (with c.in-Some-mul.product) (kept_narrow alcove.sign is)
    ∙ ap (λ p. with p alcove.sign) product
    ∙ ap (scaled (c.args.c *ℤ c.args.d)) (ap at_shape e) in
    subst (λ (l : WholeTerms). Overflows (pointwise nat_eq) c.args.sums.now l) path
    (c.add_signed.ensures.large err)
