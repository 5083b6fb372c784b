-- The search for the partitions in m_λ·m_μ (specs/Ways). A *state* of the search consists of the parts of λ and of μ that remain, and of the number
-- of ways to reach them (its count). The file is on the number of ways to continue from a list of states after one state is added or changed.
use Rattle.std.proofs.Common.{◌≡◌, ℕ, zero, suc, ◌+◌, ◌-◌, ◌*◌, ◌^◌, ◌<◌, min, List, [], ◌∷◌, ◌++◌, length, get_or, set, take, drop, drop-cons, sym, ◌∙◌, ap, refl, arith, rules}
use Rattle.std.proofs.lemmas.List.{set_split, take-append-drop}
use Rattle.monomial_laws.specs.MonomialProduct.{arrangements}
use Rattle.sparse_polys.specs.declared.states.State.{State}
use Rattle.sparse_polys.specs.Ways.{capped, ways}

-- the count of a state times the number of ways to write ν as a sum of arrangements of its remaining parts
abbrev pub ways_of : State → List ℕ → ℕ
ways_of s ν = s.count * arrangements s.left.items s.right.items ν

pub ways-append : (xs ys : List State) (ν : List ℕ) → ways (xs ++ ys) ν ≡ ways xs ν + ways ys ν
ways-append [] ys ν = omega arith
ways-append (s ∷ xs) ys ν = omega (arith, ways-append xs ys ν)

capped-count : (n a rest : ℕ) → capped (min n (2 ^ 128 - 1) * a + rest) ≡ capped (n * a + rest)
capped-count n zero rest = omega arith
capped-count n (suc a) rest = search rules

others-of : (xs : List State) (i : ℕ) (s : State) (ν : List ℕ) → i < length xs → s ≡ get_or xs i s → (rest : ℕ) × (ways xs ν ≡ ways_of s ν + rest) × ((t : State) → ways (set xs i t) ν ≡ ways_of t ν + rest)
others-of xs i s ν h e =
    let b = ap (λ (l : List State). ways l ν) (sym (take-append-drop i xs)) ∙ ways-append (take i xs) (drop i xs) ν in
    let d = ap (λ (l : List State). ways l ν) (drop-cons xs i s h ∙ ap (λ (u : State). u ∷ drop (suc i) xs) (sym e)) in (
      ways (take i xs) ν + ways (drop (suc i) xs) ν,
      omega arith,
      λ t. let a = ap (λ (l : List State). ways l ν) (set_split xs i t h) ∙ ways-append (take i xs) (t ∷ drop (suc i) xs) ν in omega arith,
    )

-- let the count of state i be increased by c, but not beyond 2^128 - 1: capped at 2^128 - 1, the number of ways to ν is then the old number plus c
-- times the number of ways to write ν as a sum of arrangements of the remaining parts of this state
pub ways-more : (xs : List State) (i : ℕ) (s t : State) (c : ℕ) (ν : List ℕ) → i < length xs → s ≡ get_or xs i s → t.left ≡ s.left → t.right ≡ s.right → t.count ≡ min (s.count + c) (2 ^ 128 - 1)
    → capped (ways (set xs i t) ν) ≡ capped (ways xs ν + c * arrangements s.left.items s.right.items ν)
ways-more xs i s t c ν h e l r k =
    let o = others-of xs i s ν h e in
    let same : ways_of t ν ≡ min (s.count + c) (2 ^ 128 - 1) * arrangements s.left.items s.right.items ν = rw (k, l, r) refl in
    ap capped (o.2 t ∙ ap (λ n. n + o.0) same)
    ∙ capped-count (s.count + c) (arrangements s.left.items s.right.items ν) o.0
    ∙ ap capped (let q = o.1 in let z : (s.count + c) * arrangements s.left.items s.right.items ν + o.0 ≡ ways xs ν + c * arrangements s.left.items s.right.items ν = omega arith in z)
