-- The search for the partitions ν in m_λ·m_μ (specs/Search) chooses the parts of ν one by one. A *state* of the search consists of the parts of λ and
-- of μ that remain, and of the number of ways to reach them (its count). The lemmas describe how the number of ways to ν that the search counts
-- (`found`) changes when the next part of ν is chosen.
use Rattle.std.proofs.lemmas.Grind.{common_steps}
use Rattle.std.proofs.Common.{◌≡◌, ◌⊎◌, ℕ, zero, suc, ◌+◌, ◌-◌, ◌*◌, ◌^◌, ◌<◌, ◌≤◌, min, Bool, true, false, ◌&&◌, cond, leb, ltb, Option, Some, None, List, [], ◌∷◌, ◌++◌, length, get_or, drop, sym, ◌∙◌, ap, ap₂, refl, inl, inr, arith, rules}
use Rattle.std.proofs.lemmas.Bool.{eq-eqb, ne_eqb, le-leb, lt-leb, leb-true, cases_lt, cases_eq, and_parts, ltb-true, lt-ltb, and_from}
use Rattle.sym_model.specs.Polynomial.{same}
use Rattle.sym_model.specs.Partition.{IsPartition, Falls, ArePositive, size}
use Rattle.monomial_laws.specs.MonomialProduct.{arrangements}
use Rattle.sparse_polys.specs.declared.states.State.{State}
use Rattle.sparse_polys.specs.declared.search.Counted.{Counted}
use Rattle.sparse_polys.specs.Ways.{capped, ways, IsRest, AreStates}
use Rattle.sparse_polys.specs.Search.{count_at, AreCounted, falls_from, after_prefix, found_behind, found, IsChosen, Counts, HaveCounts}
use Rattle.monomial_laws.proofs.Arrangements.{arrangements-sizes}
use Rattle.sym_model.proofs.Numbers.{below_more}
use Rattle.sym_model.specs.Bounded.{AreBelow}
use Rattle.sym_model.proofs.Parts.{falls_front}

-- ---- states in which the sum of the remaining parts is `left`

pub states_first : (left : ℕ) (s : State) (states : List State) → AreStates left (s ∷ states) → IsRest left s.left.items s.right.items
states_first left s states h = h 0 s (omega arith)

pub states_rest : (left : ℕ) (s : State) (states : List State) → AreStates left (s ∷ states) → AreStates left states
states_rest left s states h k d l = h (suc k) d (omega arith)

-- if the remaining parts of each state add up to `left`, and |rest| is not `left`, there is no way to continue to `rest`
pub ways-sizes : (left : ℕ) (states : List State) (rest : List ℕ) → AreStates left states → (left ≡ size rest → ⊥) → ways states rest ≡ 0
ways-sizes left [] rest h n = refl
ways-sizes left (s ∷ states) rest h n =
    let f = states_first left s states h in
    let a = arrangements-sizes s.left.items s.right.items rest (λ e. n (sym f.sizes ∙ e)) in
    let r = ways-sizes left states rest (states_rest left s states h) n in
    omega (arith, ap (λ k. s.count * k) a)

-- for states without remaining parts, one step of the loop that adds up their counts: if the count of state i is added to `total`, capped at 2^128 -
-- 1, and this state is dropped, the sum of `total` and the counts of the states from i on, capped at 2^128 - 1, does not change
pub end_next : (total : ℕ) (xs : List State) (i : ℕ) (s : State) (goal : ℕ) → AreStates 0 xs → i < length xs → s ≡ get_or xs i s
    → capped (total + ways (drop i xs) []) ≡ goal → capped (min (total + s.count) (2 ^ 128 - 1) + ways (drop (i + 1) xs) []) ≡ goal
end_next total xs i s goal h l e g = grind (arith, common_steps)

-- for `Some parts` whose first part is x: `parts` without this first part; otherwise None
then_part : ℕ → Option (List ℕ) → Option (List ℕ)
then_part x None = None
then_part x (Some rest) = after_prefix (x ∷ []) rest

after_prefix-append : (prefix : List ℕ) (x : ℕ) (ν : List ℕ) → after_prefix (prefix ++ (x ∷ [])) ν ≡ then_part x (after_prefix prefix ν)
unfolding then_part
after_prefix-append [] x ν = refl
after_prefix-append (a ∷ prefix) x [] = refl
after_prefix-append (a ∷ prefix) x (b ∷ ν) = search (rules, then_part, (after_prefix-append prefix x ν))

pub falls_from-below : (m : ℕ) (rest : List ℕ) → falls_from m rest ≡ true → AreBelow (m + 1) rest
falls_from-below m [] e = tt
falls_from-below m (x ∷ rest) e =
    let p = and_parts (ltb 0 x && leb x m) (falls_from x rest) e in
    let q = and_parts (ltb 0 x) (leb x m) p.0 in
    let l = leb-true x m q.1 in
    (omega arith, below_more (x + 1) (m + 1) rest (omega arith) (falls_from-below x rest p.1))

-- ---- the ways with next part at most i + 1 are those with next part i + 1 and those with next part at most i

pub found-step : (prefix : List ℕ) (i : ℕ) (states next : List State) (ν : List ℕ)
    → ((rest : List ℕ) → AreBelow (i + 1 + 1) rest → capped (ways next rest) ≡ capped (ways states ((i + 1) ∷ rest)))
    → found prefix (i + 1) states ν ≡ found prefix i states ν + found (prefix ++ ((i + 1) ∷ [])) (i + 1) next ν
unfolding then_part
found-step prefix i states next ν h =
    search (rules, after_prefix-append, then_part, cases_eq, falls_from-below, lt-ltb, le-leb, lt-leb, eq-eqb, cases_lt, ne_eqb)

-- if the remaining parts of each state add up to `left` > 0, but the next part of ν must be at most 0, no way to ν is found
pub found-none : (prefix : List ℕ) (left : ℕ) (states : List State) (ν : List ℕ) → AreStates left states → 0 < left → found prefix 0 states ν ≡ 0
found-none prefix left states ν h l = by (after_prefix prefix ν)
  where
    by : (o : Option (List ℕ)) → found_behind 0 states o ≡ 0
    by None = refl
    by (Some []) = omega (arith, ways-sizes left states [] h (λ e. omega arith))
    by (Some (zero ∷ rest)) = refl
    by (Some (suc y ∷ rest)) = ap (λ b. cond (ltb 0 (suc y) && b && falls_from (suc y) rest) (capped (ways states (suc y ∷ rest))) 0) (lt-leb (suc y) 0 (omega arith)) ∙ no (ltb 0 (suc y))
      where
        no : (b : Bool) → cond (b && false && falls_from (suc y) rest) (capped (ways states (suc y ∷ rest))) 0 ≡ 0
        no true = refl
        no false = refl

found-top : (prefix : List ℕ) (left m : ℕ) (states : List State) (ν : List ℕ) → AreStates left states → left ≤ m → found prefix left states ν ≡ found prefix m states ν
found-top prefix left m states ν h l = by (after_prefix prefix ν)
  where
    by : (o : Option (List ℕ)) → found_behind left states o ≡ found_behind m states o
    by None = refl
    by (Some []) = refl
    by (Some (y ∷ rest)) = at (cases_lt left y)
      where
        nothing : (b : Bool) → left < y → cond b (capped (ways states (y ∷ rest))) 0 ≡ 0
        nothing true k = omega (arith, ways-sizes left states (y ∷ rest) h (λ e. omega arith))
        nothing false k = refl

        at : (left < y) ⊎ (y ≤ left) → cond (ltb 0 y && leb y left && falls_from y rest) (capped (ways states (y ∷ rest))) 0 ≡ cond (ltb 0 y && leb y m && falls_from y rest) (capped (ways states (y ∷ rest))) 0
        at (inl k) = nothing (ltb 0 y && leb y left && falls_from y rest) k ∙ sym (nothing (ltb 0 y && leb y m && falls_from y rest) k)
        at (inr k) = ap (λ b. cond (ltb 0 y && b && falls_from y rest) (capped (ways states (y ∷ rest))) 0) (le-leb y left k ∙ sym (le-leb y m (omega arith)))

pub found-min : (prefix : List ℕ) (left m : ℕ) (states : List State) (ν : List ℕ) → AreStates left states → found prefix (min m left) states ν ≡ found prefix m states ν
found-min prefix left m states ν h = search (rules, cases_lt, found-top)

-- for states without remaining parts, the count of ν is 0 unless ν is `prefix`; for ν = `prefix` it is the sum of the counts of the states, capped at
-- 2^128 - 1
pub found-end : (prefix : List ℕ) (m : ℕ) (states : List State) (ν : List ℕ) → AreStates 0 states → found prefix m states ν ≡ cond (same prefix ν) (capped (ways states [])) 0
found-end [] m states [] h = refl
found-end [] m states (y ∷ ν) h = by (ltb 0 y) refl
  where
    by : (b : Bool) → ltb 0 y ≡ b → cond (b && leb y m && falls_from y ν) (capped (ways states (y ∷ ν))) 0 ≡ 0
    by true e = nothing (leb y m && falls_from y ν)
      where
        nothing : (t : Bool) → cond (t) (capped (ways states (y ∷ ν))) 0 ≡ 0
        nothing true = omega (arith, ways-sizes 0 states (y ∷ ν) h (λ i. let l = ltb-true 0 y e in omega arith))
        nothing false = refl
    by false e = refl
found-end (a ∷ prefix) m states [] h = refl
found-end (a ∷ prefix) m states (b ∷ ν) h = search (rules, (found-end prefix m states ν h))

pub count_at-append : (xs ys : List Counted) (ν : List ℕ) → count_at (xs ++ ys) ν ≡ count_at xs ν + count_at ys ν
count_at-append [] ys ν = omega arith
count_at-append (t ∷ xs) ys ν = omega (arith, count_at-append xs ys ν)

-- ---- the chosen parts and the next part as a partition

pub IsPartition-chosen : (m : ℕ) (prefix : List ℕ) → IsChosen m prefix → IsPartition prefix
IsPartition-chosen m prefix c = record { falls = falls_front prefix m c.falls; positive = c.positive }

Falls-less : (prefix : List ℕ) (m x : ℕ) → x ≤ m → Falls (prefix ++ (m ∷ [])) → Falls (prefix ++ (x ∷ []))
Falls-less [] m x h f = tt
Falls-less (a ∷ []) m x h f = (omega (arith, f.0), tt)
Falls-less (a ∷ b ∷ prefix) m x h f = (f.0, Falls-less (b ∷ prefix) m x h f.1)

Falls-twice : (prefix : List ℕ) (x : ℕ) → Falls (prefix ++ (x ∷ [])) → Falls ((prefix ++ (x ∷ [])) ++ (x ∷ []))
Falls-twice [] x f = (omega arith, tt)
Falls-twice (a ∷ []) x f = (f.0, Falls-twice [] x tt)
Falls-twice (a ∷ b ∷ prefix) x f = (f.0, Falls-twice (b ∷ prefix) x f.1)

ArePositive-append : (prefix : List ℕ) (x : ℕ) → 0 < x → ArePositive prefix → ArePositive (prefix ++ (x ∷ []))
ArePositive-append [] x h p = (h, tt)
ArePositive-append (a ∷ prefix) x h p = (p.0, ArePositive-append prefix x h p.1)

pub size-chosen : (prefix : List ℕ) (x : ℕ) → size (prefix ++ (x ∷ [])) ≡ size prefix + x
size-chosen [] x = omega arith
size-chosen (a ∷ prefix) x = omega (arith, size-chosen prefix x)

pub IsChosen-more : (m x : ℕ) (prefix : List ℕ) → 0 < x → x ≤ m → IsChosen m prefix → IsChosen x (prefix ++ (x ∷ []))
IsChosen-more m x prefix h l c = search (rules, Falls-twice, Falls-less, ArePositive-append)

pub found-nothing : (prefix : List ℕ) (m : ℕ) (ν : List ℕ) → found prefix m [] ν ≡ 0
found-nothing prefix m ν = search rules

pub counted-more : (total : ℕ) (terms : List Counted) (t : Counted) → IsPartition t.parts.items → size t.parts.items ≡ total → AreCounted total terms → AreCounted total (terms ++ (t ∷ []))
counted-more total [] t p s h zero d l = (p, s)
counted-more total [] t p s h (suc k) d l = absurd (omega arith)
counted-more total (u ∷ terms) t p s h zero d l = h zero d (omega arith)
counted-more total (u ∷ terms) t p s h (suc k) d l = counted-more total terms t p s (λ j e m. h (suc j) e (omega arith)) k d (omega arith)

IsPartition-goes_on : (m x : ℕ) (rest : List ℕ) → Falls (x ∷ rest) → ArePositive (x ∷ rest) → x ≤ m → falls_from m (x ∷ rest) ≡ true
IsPartition-goes_on m x [] f p h = and_from (ltb 0 x && leb x m) true (and_from (ltb 0 x) (leb x m) (lt-ltb 0 x p.0) (le-leb x m h)) refl
IsPartition-goes_on m x (y ∷ rest) f p h = search (rules, and_from, lt-ltb, le-leb, (IsPartition-goes_on x y rest f.1 p.1 f.0))

-- the search from the one state with the remaining parts l and r and the count 1, before any part is chosen, finds for each partition ν the number of
-- ways to write ν as a sum of arrangements of l and r, or 2^128 - 1 if there are more
pub found-all : (l r ν : List ℕ) (s : State) (total : ℕ) → s.left.items ≡ l → s.right.items ≡ r → s.count ≡ 1 → IsPartition ν → size l + size r ≡ total
    → found [] total (s ∷ []) ν ≡ capped (arrangements l r ν)
found-all l r [] s total a b k p z = search rules
found-all l r (x ∷ rest) s total a b k p z = by (cases_lt total x)
  where
    one : ways (s ∷ []) (x ∷ rest) ≡ arrangements l r (x ∷ rest)
    one =
        let e = ap₂ (λ (y z : List ℕ). arrangements y z (x ∷ rest)) a b in
        let f = ap (λ n. n * arrangements s.left.items s.right.items (x ∷ rest)) k in
        omega arith

    by : (total < x) ⊎ (x ≤ total) → found [] total (s ∷ []) (x ∷ rest) ≡ capped (arrangements l r (x ∷ rest))
    by (inl h) =
        let none = arrangements-sizes l r (x ∷ rest) (λ e. omega arith) in
        ap (λ t. cond (ltb 0 x && t && falls_from x rest) (capped (ways (s ∷ []) (x ∷ rest))) 0) (lt-leb x total h)
        ∙ no (ltb 0 x)
        ∙ sym (ap capped none)
      where
        no : (t : Bool) → cond (t && false && falls_from x rest) (capped (ways (s ∷ []) (x ∷ rest))) 0 ≡ 0
        no true = refl
        no false = refl
    by (inr h) =
        ap (λ t. cond t (capped (ways (s ∷ []) (x ∷ rest))) 0) (IsPartition-goes_on total x rest p.falls p.positive h)
        ∙ ap capped one

-- ---- the count of each entry that the search lists

after_prefix-all : (prefix : List ℕ) → after_prefix prefix prefix ≡ Some []
after_prefix-all [] = refl
after_prefix-all (a ∷ prefix) = ap (λ b. cond b (after_prefix prefix prefix) None) (eq-eqb a a refl) ∙ after_prefix-all prefix

pub Counts-end : (f : List ℕ → ℕ) (prefix : List ℕ) (m : ℕ) (states : List State) → Counts f prefix m states → capped (ways states []) ≡ f prefix
Counts-end f prefix m states h = h prefix [] (after_prefix-all prefix) refl

then_part-some : (x : ℕ) (o : Option (List ℕ)) (rest : List ℕ) → then_part x o ≡ Some rest → o ≡ Some (x ∷ rest)
unfolding then_part
then_part-some x None rest e = cc
then_part-some x (Some []) rest e = cc
then_part-some x (Some (y ∷ ν)) rest e = search rules

pub Counts-step : (f : List ℕ → ℕ) (prefix : List ℕ) (x m : ℕ) (states next : List State) → 0 < x → x ≤ m
    → ((rest : List ℕ) → AreBelow (x + 1) rest → capped (ways next rest) ≡ capped (ways states (x ∷ rest)))
    → Counts f prefix m states → Counts f (prefix ++ (x ∷ [])) x next
Counts-step f prefix x m states next p l h k ν rest a b =
    search (rules, falls_from-below, then_part-some, after_prefix-append, and_from, lt-ltb, le-leb)

pub counts-more : (f : List ℕ → ℕ) (terms : List Counted) (t : Counted) → t.count ≡ f t.parts.items → HaveCounts f terms → HaveCounts f (terms ++ (t ∷ []))
counts-more f [] t e h zero d l = e
counts-more f [] t e h (suc k) d l = absurd (omega arith)
counts-more f (u ∷ terms) t e h zero d l = h zero d (omega arith)
counts-more f (u ∷ terms) t e h (suc k) d l = counts-more f terms t e (λ j i m. h (suc j) i (omega arith)) k d (omega arith)

-- if the only state has the remaining parts l and r and the count 1, and no part is chosen, the count of each partition ν with parts up to m is the
-- number of ways to write ν as the sum of an arrangement of l and an arrangement of r, or 2^128 - 1 if there are more
pub Counts-begin : (l r : List ℕ) (s : State) (m : ℕ) → s.left.items ≡ l → s.right.items ≡ r → s.count ≡ 1
    → Counts (λ ν. capped (arrangements l r ν)) [] m (s ∷ [])
Counts-begin l r s m a b k ν rest e f = search rules
