use Rattle.std.proofs.Common.{◌≡◌, ℕ, ◌≤◌, ◌⊎◌, inl, inr, ℤ, List, [], ◌∷◌, ◌++◌, map, refl, rules}
use Rattle.std.proofs.Common.{sym, subst, arith}
use Rattle.std.proofs.lemmas.List.{map-append}
use Rattle.sym_model.specs.Sum.{Among}
use Rattle.sym_model.specs.Partition.{rows}
use Rattle.sym_model.proofs.Lists.{all_read}
use Rattle.sym_model.proofs.Sums.{Among_from_append}
use Rattle.linear_combinations.proofs.Gains.{so_far_next}
use Rattle.lr_product.proofs.next_factor.most_rows.Goals as goal

pub loop-label-init : goal.loop-label-init
loop-label-init c = record { most = λ t m. absurd m; within = omega arith; so_far = refl }

pub loop-label-preserved : goal.loop-label-preserved
loop-label-preserved c =
    let done : List (List ℕ × ℤ) = map (λ item. item.now) c.loop-label.yielded in
    let p : List ℕ × ℤ = c.in-Some.field-0.now in
    let rest = c.next.new.self.rest.now in
    let pushed : done ++ p ∷ [] ≡ map (λ item. item.now) (c.loop-label.yielded ++ c.in-Some.field-0
    ∷ []) =
    sym (map-append (λ item. item.now) c.loop-label.yielded (c.in-Some.field-0 ∷ [])) in
    record {
      most = λ t m. among done p c.loop-label.most _ c.loop-label.invariant.most (omega arith) (omega arith)
          t (subst (λ l. Among t l) (sym pushed) m);
      within = omega arith;
      so_far = so_far_next done rest c.loop-label.label-iterator.rest.now _ _ p pushed
          c.in-Some.ensures.steps c.loop-label.invariant.so_far;
    }
  where
    among : (done : List (List ℕ × ℤ)) (p : List ℕ × ℤ) (old new : ℕ) →
        ((t : List ℕ × ℤ) → Among t done → rows t.0 ≤ old) → rows p.0 ≤ new → old ≤ new
        → (t : List ℕ × ℤ) → Among t (done ++ p ∷ []) → rows t.0 ≤ new
    among done p old new before here longer t m = by (Among_from_append t done (p ∷ []) m)
      where
        by : Among t done ⊎ Among t (p ∷ []) → rows t.0 ≤ new
        by (inl a) = let b = before t a in omega arith
        by (inr (inr n)) = elim n [ ]
        by (inr (inl e)) = subst (λ (u : List ℕ × ℤ). rows u.0 ≤ new) (sym e) here

pub returns-clause-most : goal.returns-clause-most
returns-clause-most c = search (rules, all_read)
