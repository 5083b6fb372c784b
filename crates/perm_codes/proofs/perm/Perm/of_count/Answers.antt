use Rattle.std.proofs.Common.{◌≡◌, take, sym, ap, ◌∙◌, subst}
use Rattle.sym_model.specs.PlaceOrders.{inversions}
use Rattle.sym_model.specs.Permutation.{kept}
use Rattle.schubert_laws.proofs.FixedTails.{inversions_kept}
use Rattle.perm_codes.specs.Limits.{IsWithinLimits}
use Rattle.perm_codes.proofs.WithinLimits.{kept_limits}
use Rattle.perm_codes.proofs.perm.Perm.of_count.Goals as goal

pub invariant_of-result : goal.invariant_of-result
invariant_of-result c =
    let w = c.args.letters.items in
    let len = c.count_kept-len.result in
    let items : c.truncate.new.self.items ≡ kept w =
    c.truncate.ensures.items ∙ ap (take len) (sym c.as_slice.ensures) ∙ c.count_kept-len.ensures
    ∙ ap kept c.as_slice.ensures in
    record {
      limits = subst IsWithinLimits (sym items) (kept_limits w c.requires.letters);
      count_is = c.requires.count ∙ sym (inversions_kept w c.requires.letters.one_line)
          ∙ ap inversions (sym items);
    }
