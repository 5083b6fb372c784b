use Rattle.std.proofs.Common.{◌≡◌, ℕ, List, length, take, ℤ, pos, flat_map}
use Rattle.std.specs.Prelude.{None}
use Rattle.fraction_laws.specs.Fractions.{whole}
use Rattle.sym_model.specs.Sum.{Among}
use Rattle.sym_model.specs.Partition.{IsPartition}
use Rattle.sym_model.specs.Polynomial.{Same}
use Rattle.sym_model.specs.GoodTableau.{skew_count}
use Rattle.sym_model.specs.Schur.{schur, skew_schur}
use Rattle.sym_model.specs.Expansion.{beside}
use Rattle.sym_model.specs.LabelLimits.{is_pair_label}
use Rattle.sym_model.specs.PrintedOrder.{pair_order}
use Rattle.sym_model.specs.PastLimit.{HasPast, IsCoefficientOfSkew}
use Rattle.linear_combinations.specs.Entries.{IsCanonicalList}
use Rattle.lr_coproduct.specs.PairTerms.{pair_sum, pair_coefficient}
use Rattle.lr_coproduct.specs.SkewLists.{HaveSkewLists}
use Rattle.lr_coproduct.proofs.coproduct.coprod.Given as goal

abbrev pub invariant-loop-at : goal.invariant-loop-at
invariant-loop-at l = record {
  end : l.at-end ≡ length l.inners.items;
  count : length l.lists.items ≡ l.at;
  lists : HaveSkewLists l.shape l.inners.items l.lists.items;
  adds : (n k : ℕ) → Same (pair_sum n k l.pairs.items) (flat_map (λ inner. beside (schur inner n) (skew_schur l.shape inner k)) (take l.at l.inners.items));
  canonical : IsCanonicalList pair_order is_pair_label whole l.pairs.items;
  firsts : (t : (List ℕ × List ℕ) × ℤ) → Among t l.pairs.items → Among t.0.0 (take l.at l.inners.items);
  counts : (first : List ℕ) → Among first (take l.at l.inners.items) → (second : List ℕ) → IsPartition second
      → pair_coefficient l.pairs.items first second ≡ pos (skew_count l.shape first second);
  fits : (inner : List ℕ) → Among inner (take l.at l.inners.items) → HasPast (IsCoefficientOfSkew None l.shape inner) → ⊥;
}
