use Rattle.std.proofs.Common.{◌≡◌, ℕ, suc, zero, ◌+◌, ◌<◌, List, [], ◌∷◌, ◌++◌, length, take, get_or, arith, ap, sym, ◌∙◌, add-one, refl}
use Rattle.prefix_walk.specs.Levels.{entries_of}
use Rattle.prefix_walk.proofs.walk.write_label.Goals as goal

entries_suc : {N : Type 0} → (xs : List (N × ℕ)) (i : ℕ) (d : N × ℕ) → i < length xs → entries_of (take (suc i) xs) ≡ entries_of (take i xs) ++ (get_or xs i d).1 ∷ []
entries_suc [] i d h = absurd (omega arith)
entries_suc (x ∷ xs) zero d h = refl
entries_suc (x ∷ xs) (suc i) d h = ap (λ (t : List ℕ). x.1 ∷ t) (entries_suc xs i d (omega arith))

entries_more : {N : Type 0} → (xs : List (N × ℕ)) (i : ℕ) (d : N × ℕ) → i < length xs → entries_of (take (i + 1) xs) ≡ entries_of (take i xs) ++ (get_or xs i d).1 ∷ []
entries_more xs i d h = rw add-one (entries_suc xs i d h)

pub loop-entry-preserved : goal.loop-entry-preserved
loop-entry-preserved g c =
    c.in_ok-push.ensures.items ∙ ap (λ (t : List ℕ). t ++ c.loop-entry-item.result.1 ∷ []) c.loop-entry.invariant
    ∙ ap (λ level. entries_of (take c.loop-entry.entry-index c.args.levels.now) ++ level.1 ∷ []) c.loop-entry-item.is
    ∙ sym (entries_more c.args.levels.now c.loop-entry.entry-index c.loop-entry-item.result c.loop-entry-test.true)
