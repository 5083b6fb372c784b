-- The search for the partitions in m_λ·m_μ (specs/Ways). A *state* of the search consists of the parts of λ and of μ that remain, and of the number
-- of ways to reach them (its count). The file is on the remaining parts in a list of states, after a state is looked up, gets another count, or is
-- appended.
use Rattle.std.proofs.Common.{◌≡◌, ◌⊎◌, ℕ, ◌+◌, ◌<◌, List, [], ◌∷◌, ◌++◌, map, length, get_or, set, take, sym, ap, ◌∙◌, subst, add-one, inl, inr, rules}
use Rattle.std.proofs.Math.Seq.{map-set_same, take-suc}
use Rattle.std.proofs.lemmas.List.{map-append}
use Rattle.sym_model.specs.Sum.{Among}
use Rattle.sym_model.proofs.Sums.{Among_from_append, Once-append}
use Rattle.sparse_polys.specs.declared.states.State.{State}
use Rattle.sparse_polys.specs.Ways.{labels_left, LeaveOnce}

pub LeaveOnce-set : (xs : List State) (i : ℕ) (s t : State) → s ≡ get_or xs i s → t.left ≡ s.left → t.right ≡ s.right
    → LeaveOnce xs → LeaveOnce (set xs i t)
LeaveOnce-set xs i s t e l r = search (rules, map-set_same)

pub LeaveOnce-append : (xs : List State) (t : State) → (Among (labels_left t) (map labels_left xs) → ⊥) → LeaveOnce xs → LeaveOnce (xs ++ t ∷ [])
LeaveOnce-append xs t new once = search (rules, map-append, Once-append)

pub none_left-next : (xs : List State) (i : ℕ) (s : State) (key : List ℕ × List ℕ) → i < length xs → s ≡ get_or xs i s
    → (labels_left s ≡ key → ⊥) → (Among key (map labels_left (take i xs)) → ⊥) → Among key (map labels_left (take (i + 1) xs)) → ⊥
none_left-next xs i s key h e other none m =
    by (Among_from_append key (map labels_left (take i xs)) (labels_left (get_or xs i s) ∷ []) (subst (Among key) split m))
  where
    split : map labels_left (take (i + 1) xs) ≡ map labels_left (take i xs) ++ labels_left (get_or xs i s) ∷ []
    split = ap (λ n. map labels_left (take n xs)) (add-one i) ∙ ap (map labels_left) (take-suc xs i s h) ∙ map-append labels_left (take i xs) (get_or xs i s ∷ [])

    by : Among key (map labels_left (take i xs)) ⊎ Among key (labels_left (get_or xs i s) ∷ []) → ⊥
    by (inl n) = none n
    by (inr (inl f)) = other (ap labels_left e ∙ sym f)
    by (inr (inr n)) = n
