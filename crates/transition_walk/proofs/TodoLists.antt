-- Lists of waiting permutations (those that the transition rule has not yet replaced), each with a factor: an entry is inserted into the list, or the
-- factor of an entry is replaced (specs/Todo).
use Rattle.std.proofs.Common.{◌≡◌, ◌⊎◌, ℕ, zero, suc, ◌+◌, ◌<◌, ◌≤◌, List, [], ◌∷◌, ◌++◌, length, get_or, set, take, drop, sym, ap, ◌∙◌, subst, inl, inr, arith, ℤ, pos, ◌+ℤ◌}
use Rattle.std.specs.List.{insert}
use Rattle.std.proofs.lemmas.Int.{ints}
use Rattle.std.proofs.lemmas.List.{take-append-drop}
use Rattle.sym_model.specs.Sum.{total, Among}
use Rattle.sym_model.proofs.Sums.{total_append, Among_from_append, Among-append_left, Among-append_right}
use Rattle.transition_walk.specs.declared.todo.Waiting.{Waiting}
use Rattle.transition_walk.specs.Transitions.{weight}
use Rattle.transition_walk.specs.Todo.{load, HasPermutation, MayGain}
use Rattle.std.proofs.lemmas.List.Edits.{length-insert}

-- ---- one entry inserted into a list

pub total_insert : {A : Type 0} (f : A → ℤ) (todo : List A) (i : ℕ) (w : A) → total f (insert todo i w) ≡ total f todo +ℤ f w
total_insert f todo i w =
    let a = total_append f (take i todo) (w ∷ drop i todo) in
    let b = ap (total f) (take-append-drop i todo) in
    let c = total_append f (take i todo) (drop i todo) in
    omega (arith, ints)

pub load_append : {F : Type 0} (xs ys : List (Waiting F)) → load (xs ++ ys) ≡ load xs + load ys
load_append [] ys = omega arith
load_append (x ∷ xs) ys = let h = load_append xs ys in omega arith

pub load_insert : {F : Type 0} (todo : List (Waiting F)) (i : ℕ) (w : Waiting F) → load (insert todo i w) ≡ load todo + weight w.perm
load_insert todo i w =
    let a = load_append (take i todo) (w ∷ drop i todo) in
    let b = ap load (take-append-drop i todo) in
    let c = load_append (take i todo) (drop i todo) in
    omega arith

pub among_insert : {A : Type 0} (todo : List A) (i : ℕ) (w x : A) → Among x (insert todo i w) → (x ≡ w) ⊎ Among x todo
among_insert todo i w x m = elim (Among_from_append x (take i todo) (w ∷ drop i todo) m) [
  | inl l ↦ inr (subst (Among x) (take-append-drop i todo) (Among-append_left x (take i todo) (drop i todo) l))
  | inr r ↦ elim r [
    | inl e ↦ inl e
    | inr k ↦ inr (subst (Among x) (take-append-drop i todo) (Among-append_right x (take i todo) (drop i todo) k))
  ]
]

pub inserted_at : {A : Type 0} (todo : List A) (i : ℕ) (w x : A) → i ≤ length todo → x ≡ get_or (insert todo i w) i x → x ≡ w
inserted_at [] zero w x h e = e
inserted_at [] (suc i) w x h e = absurd (omega arith)
inserted_at (y ∷ todo) zero w x h e = e
inserted_at (y ∷ todo) (suc i) w x h e = inserted_at todo i w x (omega arith) e

-- if f(w) is 0, a list that is `old` or `old` with w inserted has the same sum of f as `old`

pub total_gain : {A : Type 0} (f : A → ℤ) (old new : List A) (w : A) → MayGain old w new → f w ≡ pos 0 → total f new ≡ total f old
total_gain f old new w (inl e) z = ap (total f) e
total_gain f old new w (inr (i, e)) z = let a = ap (total f) e in let b = total_insert f old i w in omega (arith, ints)

pub load_gain : {F : Type 0} (old new : List (Waiting F)) (w : Waiting F) → MayGain old w new → load new ≤ load old + weight w.perm
load_gain old new w (inl e) = let a = ap load e in omega arith
load_gain old new w (inr (i, e)) = let a = ap load e in let b = load_insert old i w in omega arith

pub among_gain : {A : Type 0} (P : A → Type 0) (old new : List A) (w : A) → MayGain old w new → P w → ((x : A) → Among x old → P x) → (x : A) → Among x new → P x
among_gain P old new w (inl e) here all x m = all x (subst (Among x) e m)
among_gain P old new w (inr (i, e)) here all x m = elim (among_insert old i w x (subst (Among x) e m)) [ inl s ↦ subst P (sym s) here | inr k ↦ all x k ]

pub has_inserted : {F : Type 0} (todo new : List (Waiting F)) (at : ℕ) (w : Waiting F) → at ≤ length todo → new ≡ insert todo at w → (at < length new) × HasPermutation w.perm new at
has_inserted {F} todo new at w h e =
    let l = ap length e in
    let m = length-insert todo at w h in (
      omega arith,
      λ x is. ap (λ (y : Waiting F). y.perm) (inserted_at todo at w x h (is ∙ ap (λ (xs : List (Waiting F)). get_or xs at x) e)),
    )

pub total_set : {A : Type 0} (f : A → ℤ) (todo : List A) (i : ℕ) (w v : A) → i < length todo → w ≡ get_or todo i w
    → total f (set todo i v) +ℤ f w ≡ total f todo +ℤ f v
total_set f [] i w v h e = absurd (omega arith)
total_set f (x ∷ todo) zero w v h e = let p = ap f e in omega (arith, ints)
total_set f (x ∷ todo) (suc i) w v h e = let r = total_set f todo i w v (omega arith) e in omega (arith, ints)

pub load_set : {F : Type 0} (todo : List (Waiting F)) (i : ℕ) (w v : Waiting F) → i < length todo → w ≡ get_or todo i w → v.perm ≡ w.perm → load (set todo i v) ≡ load todo
load_set [] i w v h e p = absurd (omega arith)
load_set {F} (x ∷ todo) zero w v h e p = let q = ap weight (p ∙ ap (λ (y : Waiting F). y.perm) e) in omega arith
load_set (x ∷ todo) (suc i) w v h e p = ap (λ n. weight x.perm + n) (load_set todo i w v (omega arith) e p)
