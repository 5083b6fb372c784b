-- The number of cells of a rim hook, computed from its rows.
--     size_rows       the size of a partition is the sum of its first k parts, if it has at most k parts
--     hook_size       for a rim hook outer/inner in the rows first, .., last, where outer_i and inner_i are the parts of outer and inner in row i:
--                     |outer| + inner_last = |inner| + outer_first + (last - first)
use Rattle.std.proofs.Common.{◌≡◌, ℕ, zero, suc, ◌+◌, ◌-◌, ◌≤◌, List, [], ◌∷◌, length, ap, refl, arith, rules}
use Rattle.sym_model.specs.Partition.{size, part}
use Rattle.strip_laws.specs.HookRows.{IsHookRows}

-- `rows_from parts a k`: the sum of the entries of `parts` at the indices a + 1, .., a + k, counted from 1
abbrev pub rows_from : List ℕ → ℕ → ℕ → ℕ
rows_from parts a zero = 0
rows_from parts a (suc k) = part parts (a + 1) + rows_from parts (a + 1) k

rows_none : (a k : ℕ) → rows_from [] a k ≡ 0
rows_none a zero = refl
rows_none a (suc k) = let e = rows_none (a + 1) k in omega (arith, e)

part_next : (p : ℕ) (parts : List ℕ) (a : ℕ) → part (p ∷ parts) (a + 1 + 1) ≡ part parts (a + 1)
part_next p parts a = search rules

rows_next : (p : ℕ) (parts : List ℕ) (a k : ℕ) → rows_from (p ∷ parts) (a + 1) k ≡ rows_from parts a k
rows_next p parts a zero = refl
rows_next p parts a (suc k) = let d = part_next p parts a in let e = rows_next p parts (a + 1) k in omega (arith, d, e)

pub size_rows : (parts : List ℕ) (k : ℕ) → length parts ≤ k → rows_from parts 0 k ≡ size parts
size_rows [] k h = rows_none 0 k
size_rows (p ∷ parts) zero h = absurd (omega arith)
size_rows (p ∷ parts) (suc k) h = let d = rows_next p parts 0 k in let e = size_rows parts k (omega arith) in omega (arith, d, e)

rows_below : (outer inner : List ℕ) (first last a k : ℕ) → IsHookRows outer inner first last → last ≤ a → rows_from outer a k ≡ rows_from inner a k
rows_below outer inner first last a zero h l = refl
rows_below outer inner first last a (suc k) h l = search (rules, (rows_below outer inner first last (a + 1) k h (omega arith)))

rows_within : (outer inner : List ℕ) (first last d a k : ℕ) → IsHookRows outer inner first last → first ≤ a + 1 → last ≡ a + 1 + d → d + 1 ≤ k
    → rows_from outer a k + part inner last ≡ rows_from inner a k + part outer (a + 1) + d
rows_within outer inner first last d a zero h f e l = absurd (omega arith)
rows_within outer inner first last zero a (suc k) h f e l =
    let c : last ≡ a + 1 = omega arith in
    let r = rows_below outer inner first last (a + 1) k h (omega arith) in
    omega (arith, r, ap (part inner) c)
rows_within outer inner first last (suc d) a (suc k) h f e l =
    search (rules, (rows_within outer inner first last d (a + 1) k h (omega arith) (omega arith) (omega arith)))

rows_above : (outer inner : List ℕ) (first last d a k : ℕ) → IsHookRows outer inner first last → first ≡ a + 1 + d → last ≤ a + k
    → rows_from outer a k + part inner last ≡ rows_from inner a k + part outer first + (last - first)
rows_above outer inner first last zero a k h e l =
    let c : first ≡ a + 1 = omega arith in
    let o = h.ordered in
    let r = rows_within outer inner first last (last - first) a k h (omega arith) (omega arith) (omega arith) in
    omega (arith, r, ap (part outer) c)
rows_above outer inner first last (suc d) a zero h e l = let o = h.ordered in absurd (omega arith)
rows_above outer inner first last (suc d) a (suc k) h e l =
    search (rules, (rows_above outer inner first last d (a + 1) k h (omega arith) (omega arith)))

pub hook_size : (outer inner : List ℕ) (first last : ℕ) → IsHookRows outer inner first last
    → size outer + part inner last ≡ size inner + part outer first + (last - first)
hook_size outer inner first last h =
    let k = length outer + length inner + last in
    let c = h.counts in
    let r = rows_above outer inner first last (first - 1) 0 k h (omega arith) (omega arith) in
    let a = size_rows outer k (omega arith) in
    let b = size_rows inner k (omega arith) in
    omega (arith, r, a, b)

-- if outer/inner is a rim hook of k cells in the rows first, .., last, and outer_i and inner_i are the parts in row i, then
-- outer_first + (last - first) = inner_last + k
pub hook_ends : (outer inner : List ℕ) (first last k : ℕ) → IsHookRows outer inner first last → size outer ≡ size inner + k
    → part outer first + (last - first) ≡ part inner last + k
hook_ends outer inner first last k h s = let e = hook_size outer inner first last h in omega arith
