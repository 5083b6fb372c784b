-- Adding a rim hook of a cells that begins in an empty row: a is inserted among the decreasing entries of the other rows. Here g is any function of
-- partitions, and its value at a straightening is 0, or the sign times the value at the partition.
--     beta-last          the beta list in k + 1 rows is that in k rows with each entry increased by 1, followed by 0
--     value-put          the value of g at the straightening of the result
--     size-put           the size of the result
use Rattle.std.proofs.Common.{◌≡◌, ℕ, suc, ◌+◌, ◌-◌, ◌≤◌, true, false, ◌||◌, ◌==◌, cond, nat_lt, List, [], ◌∷◌, ◌++◌, map, length, refl, sym, ap, ap₂, ◌∙◌, subst, arith, length-append, ℤ, pos, ◌*ℤ◌, rules}
use Rattle.std.proofs.lemmas.Bool.{or_parts, ne_eqb, both_ways, eq-eqb}
use Rattle.std.proofs.lemmas.List.{map-append, length-map, get_or_past}
use Rattle.sym_model.specs.Partition.{Falls, IsPartition, size, rows, part, after}
use Rattle.sym_model.specs.Bases.{has}
use Rattle.sym_model.specs.Alternant.{staircase}
use Rattle.sym_model.specs.BetaList.{beta, has_equal_entries, put_falling, sorted_falling, greater, rising_pairs, from_beta}
use Rattle.sym_model.specs.PlaceOrders.{minus_one_to}
use Rattle.sym_model.proofs.AfterLists.{after_among, after-more}
use Rattle.sym_model.proofs.Lists.{map-among, map-map}
use Rattle.sym_model.proofs.Numbers.{counts-not_less}
use Rattle.sym_model.proofs.Parts.{size-append}
use Rattle.beta_list_laws.specs.StrictFall.{FallsStrictly}
use Rattle.beta_list_laws.proofs.NeighbourExchanges.{sorted-exchange, sorted-falling, size-sorted, length-sorted, one_way}
use Rattle.beta_list_laws.proofs.SortedLists.{sorted_strict, greater_first}
use Rattle.beta_list_laws.proofs.BetaLists.{beta_strict, strict_tail, length-beta, size-beta, size-from_beta}
use Rattle.basis_change.specs.SpecialRimHooks.{straight_value, hooked}
use Rattle.basis_change.proofs.FrontSorting.{above, value-equal, value-different}
use Rattle.basis_change.proofs.HookRows.{equal-last}
use Rattle.beta_list_laws.proofs.BetaLowerings.{strict_distinct}
use Rattle.beta_list_laws.proofs.Lowest.{strict_falls}

pub beta-last : (ν : List ℕ) (k : ℕ) → rows ν ≤ k → beta (k + 1) ν ≡ above 0 (beta k ν)
beta-last ν k h =
    ap (map (λ i. part ν i + (k + 1 - i))) (after-more 0 k)
    ∙ map-append (λ i. part ν i + (k + 1 - i)) (after 0 k) ((0 + k + 1) ∷ [])
    ∙ ap₂ (λ (l : List ℕ) (x : ℕ). l ++ x ∷ [])
    (map-among (λ i. part ν i + (k + 1 - i)) (λ i. suc (part ν i + (k - i))) (after 0 k) (λ i m. let b = (after_among 0 k i m).1 in omega arith)
    ∙ sym (map-map suc (λ i. part ν i + (k - i)) (after 0 k)))
    (let e = get_or_past ν (0 + k + 1 - 1) 0 (omega arith) in omega arith)

strict-next : (s : List ℕ) → FallsStrictly s → FallsStrictly (map suc s)
strict-next [] f = tt
strict-next (a ∷ []) f = tt
strict-next (a ∷ b ∷ s) f = (let h = f.0 in omega arith, strict-next (b ∷ s) f.1)

pub strict-others : (ν : List ℕ) (k : ℕ) → Falls ν → FallsStrictly (map suc (beta k ν))
strict-others ν k f = strict-next (beta k ν) (beta_strict k ν f)

pub length-others : (ν : List ℕ) (k : ℕ) → length (map suc (beta k ν)) ≡ k
length-others ν k = length-map (beta k ν) suc ∙ length-beta k ν

size-next : (s : List ℕ) → size (map suc s) ≡ size s + length s
size-next [] = refl
size-next (a ∷ s) = let e = size-next s in omega arith

-- ---- sorting a list to whose end the number a is appended

sorted-last : (front : List ℕ) (a : ℕ) → sorted_falling (front ++ a ∷ []) ≡ put_falling a (sorted_falling front)
sorted-last [] a = refl
sorted-last (b ∷ front) a = ap (put_falling b) (sorted-last front a) ∙ sorted-exchange [] b a front

has-last : (b a : ℕ) (front : List ℕ) → has b front ≡ false → (a ≡ b → ⊥) → has b (front ++ a ∷ []) ≡ false
has-last b a [] h n = ap (λ t. t || false) (ne_eqb a b n)
has-last b a (c ∷ front) h n = let p = or_parts (c == b) (has b front) h in ap₂ ◌||◌ p.0 (has-last b a front p.1 n)

different-last : (front : List ℕ) (a : ℕ) → has_equal_entries front ≡ false → has a front ≡ false → has_equal_entries (front ++ a ∷ []) ≡ false
different-last [] a e h = refl
different-last (b ∷ front) a e h =
    let p = or_parts (has b front) (has_equal_entries front) e in
    let q = or_parts (b == a) (has a front) h in
    ap₂ ◌||◌ (has-last b a front p.0 (λ i. both_ways (b == a) q.0 (eq-eqb b a (sym i)))) (different-last front a p.1 q.1)

greater-last : (b a : ℕ) (front : List ℕ) → greater b (front ++ a ∷ []) ≡ greater b front + cond (nat_lt b a) 1 0
greater-last b a [] = let e : cond {A = ℕ} (nat_lt b a) 1 0 + 0 ≡ 0 + cond (nat_lt b a) 1 0 = omega arith in e
greater-last b a (c ∷ front) = let e = greater-last b a front in omega arith

-- if a is not in the strictly decreasing list `front`: the number of increasing pairs of `front` ++ [a] (`rising_pairs`), plus the number of entries
-- of `front` greater than a, is the length of `front`
pub passed : (front : List ℕ) (a : ℕ) → FallsStrictly front → has a front ≡ false → rising_pairs (front ++ a ∷ []) + greater a front ≡ length front
passed [] a f h = refl
passed (b ∷ front) a f h =
    let q = or_parts (b == a) (has a front) h in
    let r = passed front a (strict_tail b front f) q.1 in
    let l = greater-last b a front in
    let g = greater_first b b front (strict_falls (b ∷ front) f) (omega arith) in
    let z = counts-not_less b b (omega arith) in
    let w = one_way b a (λ e. both_ways (b == a) q.0 (eq-eqb b a e)) in
    omega arith

pub value-again : (g : List ℕ → ℤ) (ν : List ℕ) (k a : ℕ) → has a (map suc (beta k ν)) ≡ true → straight_value g (hooked ν (k + 1) a) ≡ pos 0
value-again g ν k a h = search (rules, value-equal, equal-last)

module _ (ν : List ℕ) (k a : ℕ) (p : IsPartition ν) (h : has a (map suc (beta k ν)) ≡ false) where
  different : has_equal_entries (map suc (beta k ν) ++ a ∷ []) ≡ false
  different = different-last (map suc (beta k ν)) a (strict_distinct (map suc (beta k ν)) (strict-others ν k p.falls)) h

  sorts : sorted_falling (map suc (beta k ν) ++ a ∷ []) ≡ put_falling a (map suc (beta k ν))
  sorts = sorted-last (map suc (beta k ν)) a ∙ ap (put_falling a) (sorted-falling (map suc (beta k ν)) (strict_falls (map suc (beta k ν)) (strict-others ν k p.falls)))

  pub value-put : (g : List ℕ → ℤ) (passes : ℕ) → passes + greater a (map suc (beta k ν)) ≡ k
      → straight_value g (hooked ν (k + 1) a) ≡ minus_one_to passes *ℤ g (from_beta (put_falling a (map suc (beta k ν))))
  value-put g passes e = search (rules, passed, strict-others, length-others, value-different, different, sorts)

  pub strict-put : FallsStrictly (put_falling a (map suc (beta k ν)))
  strict-put = subst FallsStrictly sorts (sorted_strict (map suc (beta k ν) ++ a ∷ []) different)

  pub length-put : length (put_falling a (map suc (beta k ν))) ≡ k + 1
  length-put = ap length (sym sorts) ∙ length-sorted (map suc (beta k ν) ++ a ∷ []) ∙ length-append (map suc (beta k ν)) (a ∷ []) ∙ ap (λ n. n + 1) (length-others ν k)

  pub size-put : rows ν ≤ k → size (from_beta (put_falling a (map suc (beta k ν)))) ≡ size ν + a
  size-put r =
      let f = size-from_beta (put_falling a (map suc (beta k ν))) strict-put in
      let s = ap size (sym sorts) ∙ size-sorted (map suc (beta k ν) ++ a ∷ []) in
      let t = size-append (map suc (beta k ν)) (a ∷ []) in
      let n = size-next (beta k ν) in
      let l = length-beta k ν in
      let b = size-beta k ν p r in
      let c : size (staircase (length (put_falling a (map suc (beta k ν))))) ≡ k + size (staircase k) = ap (λ j. size (staircase j)) (length-put ∙ (let e : k + 1 ≡ suc k = omega arith in e)) in
      omega arith
