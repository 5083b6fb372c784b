-- Maps from partitions to values, as lists of entries (specs/KeptLists).
--     entry_found, none_found     the result of a look-up
--     place-found                 if looking up a partition gives an index, then the entry at this index has the partition
--     place-missed                if looking up a partition gives None, then no entry has the partition
--     lists-kept                  if all entries and a new entry have a property, then all entries have it after the new one is appended
--     list-found                  if all entries have a property, then a partition and the value at its index have it
use Rattle.std.proofs.Common.{◌≡◌, ◌⊎◌, ℕ, zero, suc, ◌+◌, ◌<◌, Bool, cond, true, false, List, [], ◌∷◌, ◌++◌, length, get_or, refl, sym, ap, ◌∙◌, subst, inl, inr, arith}
use Rattle.std.specs.Prelude.{Option, Some, None, IfSome, IfNone, is_some, slice_get, position, nat_eq}
use Rattle.std.specs.Cmp.Lexicographic.{pointwise, nat_list_eq_equiv}
use Rattle.std.specs.List.{position_from}
use Rattle.std.specs.Map.{keys_of}
use Rattle.std.proofs.lemmas.Iterator.Adapters.{position_from-zero}
use Rattle.std.proofs.lemmas.List.Quantifiers.{position-Some}
use Rattle.sym_model.specs.Sum.{Among}
use Rattle.sym_model.proofs.Sums.{Among_from_append}
use Rattle.linear_combinations.proofs.Labels.{same_partition}
use Rattle.family_lists.specs.KeptLists.{AreListsOf, StandsAt, HasKept}

-- if the first key that passes the test is at the index i, then there is an entry at the index i, and its key passes the test
pub entry_found : {K V : Type 0} (es : List (K × V)) (test : K → Bool) (i : ℕ) → i < length es → position test (keys_of es) ≡ Some i
    → (p : K × V) × (slice_get es i ≡ Some p) × (test p.0 ≡ true)
entry_found {K} {V} [] test i l h = absurd (omega arith)
entry_found {K} {V} (e ∷ es) test i l h = let p = entry (e ∷ es) i l in (p.0, p.1, ap test (sym (p.2 e.0)) ∙ (position-Some test (keys_of (e ∷ es)) i e.0 h).1)
  where
    entry : (ds : List (K × V)) (j : ℕ) → j < length ds → (p : K × V) × (slice_get ds j ≡ Some p) × ((d : K) → get_or (keys_of ds) j d ≡ p.0)
    entry [] j k = absurd (omega arith)
    entry (d ∷ ds) zero k = (d, refl, λ x. refl)
    entry (d ∷ ds) (suc j) k = entry ds j (omega arith)

pub none_found : {A : Type 0} (o : Option A) → false ≡ is_some o → o ≡ None
none_found None h = refl
none_found (Some x) h = cc

pub among-slice : {A : Type 0} (xs : List A) (i : ℕ) (x : A) → slice_get xs i ≡ Some x → Among x xs
among-slice {A} [] i x e = cc
among-slice {A} (y ∷ xs) zero x e = let h : x ≡ y = cc in inl h
among-slice {A} (y ∷ xs) (suc i) x e = inr (among-slice xs i x e)

pub slice-last : {A : Type 0} (xs : List A) (x : A) (i : ℕ) → i ≡ length xs → slice_get (xs ++ x ∷ []) i ≡ Some x
slice-last {A} [] x zero e = refl
slice-last {A} [] x (suc i) e = absurd (omega arith)
slice-last {A} (y ∷ xs) x zero e = absurd (omega arith)
slice-last {A} (y ∷ xs) x (suc i) e = slice-last xs x i (omega arith)

same_some : {A : Type 0} (x y : A) → Some x ≡ Some y → x ≡ y
same_some {A} x y e = cc

-- if looking up `label` gives an index, the entry at this index has the partition `label`
pub place-found : {X : Type 0} (lists : List (List ℕ × X)) (label : List ℕ) (found : Option ℕ) → found ≡ position (pointwise nat_eq label) (keys_of lists)
    → IfSome found (λ i. i < length lists) → IfSome found (StandsAt lists label)
place-found {X} lists label None e within = tt
place-found {X} lists label (Some i) e within =
    let f = entry_found lists (pointwise nat_eq label) i within (sym e) in
    (f.0.1, f.1 ∙ ap (λ (x : List ℕ). Some (x, f.0.1)) (sym (same_partition label f.0.0 f.2)))

missed : {X : Type 0} (lists : List (List ℕ × X)) (label : List ℕ) (i at : ℕ) → position_from (pointwise nat_eq label) i (keys_of lists) ≡ None → StandsAt lists label at → ⊥
missed {X} [] label i at e s = let h = s.1 in cc
missed {X} (x ∷ lists) label i zero e s =
    let same : x.0 ≡ label = ap (λ (y : List ℕ × X). y.0) (same_some x (label, s.0) s.1) in
    let test : pointwise nat_eq label x.0 ≡ true = ap (pointwise nat_eq label) same ∙ nat_list_eq_equiv.refl label in
    let found : cond true (Some i) (position_from (pointwise nat_eq label) (i + 1) (keys_of lists)) ≡ None = sym (ap (λ b. cond b (Some i) (position_from (pointwise nat_eq label) (i + 1) (keys_of lists))) test) ∙ e in cc
missed {X} (x ∷ lists) label i (suc at) e s = by (pointwise nat_eq label x.0) e (λ rest. missed lists label (i + 1) at rest s)
  where
    by : (b : Bool) → cond b (Some i) (position_from (pointwise nat_eq label) (i + 1) (keys_of lists)) ≡ None
        → (position_from (pointwise nat_eq label) (i + 1) (keys_of lists) ≡ None → ⊥) → ⊥
    by true found rest = cc
    by false none rest = rest none

pub place-missed : {X : Type 0} (lists : List (List ℕ × X)) (label : List ℕ) (found : Option ℕ) → found ≡ position (pointwise nat_eq label) (keys_of lists)
    → IfNone found ((at : ℕ) → ¬ StandsAt lists label at)
place-missed {X} lists label None e = λ at s. missed lists label 0 at (sym (position_from-zero (pointwise nat_eq label) (keys_of lists)) ∙ sym e) s
place-missed {X} lists label (Some i) e = tt

-- if `IsListOf` holds of the partition and the value of each entry of `old`, and of `label` and `list`, it holds of each entry of `new`, which is
-- `old` with or without the entry (label, list) appended
pub lists-kept : {X : Type 0} (IsListOf : List ℕ → X → Type 0) (old new : List (List ℕ × X)) (label : List ℕ) (list : X)
    → AreListsOf IsListOf old → IsListOf label list → HasKept label list old new → AreListsOf IsListOf new
lists-kept {X} IsListOf old new label list are is (inl e) l m = are l (subst (Among l) e m)
lists-kept {X} IsListOf old new label list are is (inr e) l m = by (Among_from_append l old ((label, list) ∷ []) (subst (Among l) e m))
  where
    by : Among l old ⊎ Among l ((label, list) ∷ []) → IsListOf l.0 l.1
    by (inl i) = are l i
    by (inr (inl s)) = subst (λ (x : List ℕ × X). IsListOf x.0 x.1) (sym s) is
    by (inr (inr n)) = absurd n

-- if `IsListOf` holds of the partition and the value of each entry, it holds of `parts` and the value at the index of `parts`
pub list-found : {X : Type 0} (IsListOf : List ℕ → X → Type 0) (lists : List (List ℕ × X)) (key parts label : List ℕ) (list : X) (at : ℕ) → key ≡ parts
    → AreListsOf IsListOf lists → StandsAt lists key at → slice_get lists at ≡ Some (label, list) → IsListOf parts list
list-found {X} IsListOf lists key parts label list at same are stands e =
    subst (λ (x : List ℕ). IsListOf x list) (ap (λ (x : List ℕ × X). x.0) (same_some (label, list) (key, stands.0) (sym e ∙ stands.1)) ∙ same)
    (are (label, list) (among-slice lists at (label, list) e))
