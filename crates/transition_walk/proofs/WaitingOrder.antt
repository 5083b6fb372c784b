-- The order of waiting permutations (`waiting_order`), that is, of those that the transition rule has not yet replaced: it is total, and permutations
-- that compare as equal are the same. A *gap* for a permutation is an index such that the permutations before it are less, and those from it on are
-- greater.
use Rattle.std.proofs.Common.{◌≡◌, ℕ, ◌<◌, ◌≤◌, List, [], ◌∷◌, ◌++◌, length, get_or, set, sym, ap, ◌∙◌, subst}
use Rattle.std.specs.Prelude.{Result, Ok, Err, MatchResult, IfErr, Some, slice_get}
use Rattle.std.specs.Cmp.{IsTotalOrder, nat_cmp_total, on_total, back_total, then_total}
use Rattle.std.specs.Cmp.Lexicographic.{slice_cmp, texts_ties}
use Rattle.std.specs.List.{insert}
use Rattle.std.specs.List.Sorted.{IsBinarySearchResult, IsSearchInRange, IsStrictlySortedBy}
use Rattle.std.specs.declared.cmp.Ordering.TheVariants.{Equal}
use Rattle.std.specs.Ordering.{is_eq, nat_cmp}
use Rattle.std.proofs.lemmas.Cmp.{nat_list_cmp_total}
use Rattle.sym_model.specs.PlaceOrders.{inversions}
use Rattle.sym_model.specs.Sum.{Among}
use Rattle.sym_model.proofs.Orders.{then-equal}
use Rattle.sym_model.proofs.Sums.{Among-map}
use Rattle.transition_walk.specs.declared.todo.Waiting.{Waiting}
use Rattle.transition_walk.specs.Todo.{waiting_order, permutations, AreInOrder, HasPermutation, IsGapFor}
use Rattle.transition_walk.proofs.SortedKeys.{comparisons_rise, absent, keys_set, found_entry, sorted_insert, sorted_rest, sorted_one}
use Rattle.linear_combinations.proofs.Labels.{same_partition}

pub waiting_order-total : IsTotalOrder waiting_order
waiting_order-total = then_total (on_total inversions nat_cmp_total) (back_total nat_list_cmp_total)

waiting_order-equal : (v w : List ℕ) → waiting_order v w ≡ Equal → v ≡ w
waiting_order-equal v w e =
    let t = then-equal (nat_cmp (inversions v) (inversions w)) (slice_cmp nat_cmp w v) e in
    sym (same_partition w v (texts_ties w v ∙ ap is_eq t.1))

-- a binary search of `todo` by `waiting_order` returns the index of an entry with the permutation `perm` as `Ok`, or an index of at most the length
-- of `todo` as `Err`. If `todo` is in order, an index returned as `Err` is a gap for `perm`, and no entry has the permutation `perm`

pub found_place : {F : Type 0} (todo : List (Waiting F)) (perm : List ℕ) (r : Result ℕ ℕ) → IsSearchInRange r (length todo)
    → IsBinarySearchResult (λ (w : Waiting F). waiting_order w.perm perm) todo r
    → MatchResult r (λ at. (at < length todo) × HasPermutation perm todo at) (λ at. at ≤ length todo)
found_place {F} todo perm (Ok at) inside is = (inside, λ w here. waiting_order-equal w.perm perm (ap (λ (x : Waiting F). waiting_order x.perm perm) here ∙ is w))
found_place todo perm (Err at) inside is = inside

pub found_gap : {F : Type 0} (todo : List (Waiting F)) (perm : List ℕ) (r : Result ℕ ℕ)
    → IsBinarySearchResult (λ (w : Waiting F). waiting_order w.perm perm) todo r → IfErr r (λ at. AreInOrder todo → IsGapFor perm todo at)
found_gap todo perm (Ok at) is = tt
found_gap {F} todo perm (Err at) is = λ order. is (comparisons_rise (λ (w : Waiting F). w.perm) waiting_order waiting_order-total todo perm order)

pub found_absent : {F : Type 0} (todo : List (Waiting F)) (perm : List ℕ) (r : Result ℕ ℕ)
    → IfErr r (λ at. AreInOrder todo → IsGapFor perm todo at) → IfErr r (λ _. AreInOrder todo → ¬ Among perm (permutations todo))
found_absent todo perm (Ok at) gap = tt
found_absent {F} todo perm (Err at) gap = λ order m. absent (λ (w : Waiting F). w.perm) waiting_order waiting_order-total todo perm at (gap order) m

-- let `todo` be in order, and let w be an entry of `todo` with the permutation `perm`. If the entry at the index `at` has this permutation too, it is
-- w

pub found_there : {F : Type 0} (todo seen : List (Waiting F)) (perm : List ℕ) (at : ℕ) → seen ≡ todo → (at < length seen) × HasPermutation perm seen at
    → AreInOrder todo → (w : Waiting F) → Among w todo → w.perm ≡ perm → slice_get todo at ≡ Some w
found_there {F} todo seen perm at same place order w m is =
    let all = subst (λ (l : List (Waiting F)). (at < length l) × HasPermutation perm l at) same place in
    found_entry (λ (x : Waiting F). x.perm) waiting_order waiting_order-total todo at w order all.0 (λ x here. all.1 x here ∙ sym is) m

pub not_absent : {F : Type 0} (todo seen : List (Waiting F)) (perm : List ℕ) → seen ≡ todo → (AreInOrder seen → ¬ Among perm (permutations seen))
    → AreInOrder todo → (w : Waiting F) → Among w todo → w.perm ≡ perm → ⊥
not_absent {F} todo seen perm same none order w m is =
    let all = subst (λ (l : List (Waiting F)). AreInOrder l → ¬ Among perm (permutations l)) same none in
    all order (subst (λ p. Among p (permutations todo)) is (Among-map (λ (x : Waiting F). x.perm) w todo m))

-- a list stays in order if an entry is inserted at the gap for its permutation, if the factor of an entry is replaced, and if the last entry is
-- removed

pub order_insert : {F : Type 0} (todo seen new : List (Waiting F)) (at : ℕ) (w : Waiting F) → seen ≡ todo → at ≤ length seen → (AreInOrder seen → IsGapFor w.perm seen at)
    → new ≡ insert todo at w → AreInOrder todo → AreInOrder new
order_insert {F} todo seen new at w same inside gap e order =
    let there = subst AreInOrder (sym same) order in
    subst AreInOrder (ap (λ (l : List (Waiting F)). insert l at w) same ∙ sym e)
    (sorted_insert (λ (x : Waiting F). x.perm) waiting_order waiting_order-total seen at w inside (gap there) there)

pub order_set : {F : Type 0} (todo : List (Waiting F)) (at : ℕ) (w v : Waiting F) → at < length todo → w ≡ get_or todo at w → v.perm ≡ w.perm → AreInOrder todo → AreInOrder (set todo at v)
order_set {F} todo at w v inside here same order = subst (IsStrictlySortedBy waiting_order) (sym (keys_set (λ (x : Waiting F). x.perm) todo at w v inside here same)) order

pub order_rest : {F : Type 0} (todo rest : List (Waiting F)) (last : Waiting F) → todo ≡ rest ++ last ∷ [] → AreInOrder todo → AreInOrder rest
order_rest {F} todo rest last popped order = sorted_rest (λ (x : Waiting F). x.perm) waiting_order todo rest (last ∷ []) popped order

pub order_one : {F : Type 0} (before todo : List (Waiting F)) (w : Waiting F) → before ≡ [] → todo ≡ before ++ w ∷ [] → AreInOrder todo
order_one {F} before todo w none pushed = sorted_one (λ (x : Waiting F). x.perm) waiting_order todo w (pushed ∙ ap (λ (l : List (Waiting F)). l ++ w ∷ []) none)
