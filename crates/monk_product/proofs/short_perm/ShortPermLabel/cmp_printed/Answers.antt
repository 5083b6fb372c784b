use Rattle.std.proofs.Common.{◌≡◌, List, ℕ, sym, ap, ap₂, ◌∙◌, subst}
use Rattle.std.specs.Ordering.{nat_cmp, ordering_then}
use Rattle.std.specs.Cmp.{tied_itself}
use Rattle.std.proofs.lemmas.Slice.Eq.{bytes_eq-Decides}
use Rattle.sym_model.specs.PlaceOrders.{inversions}
use Rattle.sym_model.specs.Permutation.{kept}
use Rattle.sym_model.specs.PrintedOrder.{permutation_order, rising_letters}
use Rattle.schubert_laws.proofs.FixedTails.{inversions_kept}
use Rattle.linear_combinations.proofs.Labels.{permutation_order_is_total}
use Rattle.linear_combinations.proofs.LabelTests.{is_permutation_label-limits}
use Rattle.perm_codes.specs.Limits.{IsWithinLimits}
use Rattle.perm_codes.proofs.LetterOrder.{permutation_order-equal}
use Rattle.monk_product.specs.ShortPerms.{IsFilled}
use Rattle.monk_product.proofs.ShortPerms.{limits_of}
use Rattle.monk_product.proofs.StoredOrder.{stored_order}
use Rattle.monk_product.proofs.short_perm.ShortPermLabel.cmp_printed.Goals as goal

limits : (u w : List ℕ) (n : ℕ) → kept u ≡ w → IsFilled u n → IsWithinLimits w
limits u w n e f = subst IsWithinLimits e (limits_of u n f)

count : (u w : List ℕ) (n : ℕ) → kept u ≡ w → IsFilled u n → n ≡ inversions w
count u w n e f = f.count_is ∙ sym (inversions_kept u f.one_line) ∙ ap inversions e

pub returns-then-eq-clause-value : goal.returns-then-eq-clause-value
returns-then-eq-clause-value c =
    let same =
    (bytes_eq-Decides c.self.inside.letters c.other.inside.letters).0
    (sym c.eq.ensures ∙ c.if-eq.true) in
    sym (tied_itself permutation_order_is_total c.args.self.now)
    ∙ ap (permutation_order c.args.self.now)
    (sym c.self.view_is ∙ ap kept same ∙ c.other.view_is)

pub returns-then-eq-clause-equal : goal.returns-then-eq-clause-equal
returns-then-eq-clause-equal c =
    λ together. sym c.self.view_is
    ∙ ap kept ((bytes_eq-Decides c.self.inside.letters c.other.inside.letters).0
    (sym c.eq.ensures ∙ c.if-eq.true)) ∙ c.other.view_is

pub returns-then-eq-clause-limits : goal.returns-then-eq-clause-limits
returns-then-eq-clause-limits c =
    is_permutation_label-limits c.args.self.now
    (limits _ _ _ c.self.view_is c.self.invariant)

value : (c : goal.After-then) → c.then.result ≡ permutation_order c.args.self.now c.args.other.now
value c =
    let this = c.args.self.now in
    let other = c.args.other.now in
    let counts : c.cmp.result ≡ nat_cmp (inversions this) (inversions other) =
    c.cmp.ensures
    ∙ ap₂ nat_cmp (count _ _ _ c.self.view_is c.self.invariant)
    (count _ _ _ c.other.view_is c.other.invariant) in
    let lists : c.cmp-2.result ≡ rising_letters 0 this other =
    c.cmp-2.ensures
    ∙ sym (stored_order _ _ (c.self.invariant.long ∙ sym c.other.invariant.long))
    ∙ ap₂ (rising_letters 0) c.self.view_is c.other.view_is in
    c.then.ensures ∙ ap₂ ordering_then counts lists

pub returns-clause-value : goal.returns-clause-value
returns-clause-value c = value c

pub returns-clause-equal : goal.returns-clause-equal
returns-clause-equal c =
    λ together. permutation_order-equal _ _ (limits _ _ _ c.self.view_is c.self.invariant)
    (limits _ _ _ c.other.view_is c.other.invariant) (sym (value c) ∙ together)

pub returns-clause-limits : goal.returns-clause-limits
returns-clause-limits c =
    is_permutation_label-limits c.args.self.now
    (limits _ _ _ c.self.view_is c.self.invariant)
