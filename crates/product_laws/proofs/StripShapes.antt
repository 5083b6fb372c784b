-- A partition is padded with zeros to n places, and a list of n exponents is added to it. Here are the lists of exponents for which the sum is the
-- partition with a horizontal or a vertical strip added.
use Rattle.std.proofs.Common.{◌≡◌, ℕ, zero, suc, ◌+◌, ◌-◌, ◌≤◌, Bool, true, ◌&&◌, nat_le, List, [], ◌∷◌, length, get_or, refl, sym, ◌∙◌, ap, ap₂, subst, arith, ℤ, filter, rules}
use Rattle.std.proofs.lemmas.Bool.{and_parts, and_from, le-leb, leb-true}
use Rattle.sym_model.specs.Sum.{total, Among}
use Rattle.sym_model.specs.Partition.{Falls, ArePositive, IsPartition, Holds, part, rows, size, without_last_zeros}
use Rattle.sym_model.specs.Polynomial.{join, resize}
use Rattle.sym_model.specs.Strip.{IsHorizontalStrip, IsVerticalStrip}
use Rattle.sym_model.specs.Schur.{row_lengths}
use Rattle.sym_model.specs.GoodTableau.{is_falling}
use Rattle.sym_model.specs.Bases.{at_most_one, exponent_lists}
use Rattle.sym_model.proofs.Sums.{total_among, total_bijection, Among-select, Among_from_select, Once-select}
use Rattle.sym_model.proofs.Exponents.{length-join_same, length-resize, resize_same, size-join, get_or-join}
use Rattle.sym_model.proofs.SortedParts.{IsPartition-without_last_zeros, size-without_last_zeros}
use Rattle.sym_model.proofs.Monomials.{members_of-exponent_lists}
use Rattle.sym_model.proofs.Parts.{length-without_last_zeros, get_or-without_last_zeros as get-cut}
use Rattle.sym_model.proofs.Tableaux.{length-row_lengths}
use Rattle.strip_laws.proofs.Strips.{horizontal_from_rows, horizontal_rows, vertical_from_rows, vertical_rows}
use Rattle.strip_laws.proofs.Containment.{Holds-get_or}
use Rattle.tableau_laws.proofs.ColumnCounts.{falling-resize}
use Rattle.alternant_laws.proofs.FallingAlternants.{resize-without_last_zeros, without_last_zeros-resize, falls_from_test}
use Rattle.product_laws.specs.StripLists.{ListsEach}
use Rattle.product_laws.proofs.ExponentLists.{among_exponent_lists, once_exponent_lists}

pub get-padded : (n : ℕ) (parts : List ℕ) (k : ℕ) → length parts ≤ n → get_or (resize n parts) k 0 ≡ get_or parts k 0
get-padded zero [] k h = refl
get-padded zero (a ∷ parts) k h = absurd (omega arith)
get-padded (suc n) [] zero h = refl
get-padded (suc n) [] (suc k) h = get-padded n [] k (omega arith)
get-padded (suc n) (a ∷ parts) zero h = refl
get-padded (suc n) (a ∷ parts) (suc k) h = get-padded n parts k (omega arith)

pub size-padded : (n : ℕ) (parts : List ℕ) → ArePositive parts → length parts ≤ n → size (resize n parts) ≡ size parts
size-padded n parts p h = sym (size-without_last_zeros (resize n parts)) ∙ ap size (without_last_zeros-resize n parts p h)

pub join_less : (n : ℕ) (inner outer : List ℕ) → ((k : ℕ) → get_or inner k 0 ≤ get_or outer k 0) → join (resize n inner) (row_lengths (resize n outer) (resize n inner)) ≡ resize n outer
join_less zero inner outer h = refl
join_less (suc n) [] [] h = ap (λ l. 0 ∷ l) (join_less n [] [] h)
join_less (suc n) [] (b ∷ outer) h = ap₂ (λ (x : ℕ) l. x ∷ l) (let e : 0 + (b - 0) ≡ b = omega arith in e) (join_less n [] outer (λ k. h (suc k)))
join_less (suc n) (a ∷ inner) [] h = let r = h 0 in ap₂ (λ (x : ℕ) l. x ∷ l) (let e : a + (0 - a) ≡ 0 = omega arith in e) (join_less n inner [] (λ k. h (suc k)))
join_less (suc n) (a ∷ inner) (b ∷ outer) h = let r = h 0 in ap₂ (λ (x : ℕ) l. x ∷ l) (let e : a + (b - a) ≡ b = omega arith in e) (join_less n inner outer (λ k. h (suc k)))

less_join : (inner α : List ℕ) → length inner ≡ length α → row_lengths (join inner α) inner ≡ α
less_join [] [] e = refl
less_join [] (x ∷ α) e = absurd (omega arith)
less_join (a ∷ inner) [] e = absurd (omega arith)
less_join (a ∷ inner) (x ∷ α) e = ap₂ (λ (y : ℕ) l. y ∷ l) (let d : a + x - a ≡ x = omega arith in d) (less_join inner α (omega arith))

pub shapes_total : (n k : ℕ) (parts : List ℕ) → IsPartition parts → rows parts ≤ n → (test : List ℕ → Bool) (S : List ℕ → Type 0)
    → ((α : List ℕ) → length α ≡ n → test α ≡ true → Falls (join (resize n parts) α) × S (without_last_zeros (join (resize n parts) α)))
    → ((α : List ℕ) → length α ≡ n → Falls (join (resize n parts) α) → S (without_last_zeros (join (resize n parts) α)) → test α ≡ true)
    → ((ν : List ℕ) → S ν → Holds ν parts)
    → (list : List (List ℕ)) → ListsEach (λ ν. IsPartition ν × (size ν ≡ size parts + k) × S ν) list
    → (g : List ℕ → ℤ)
    → total (λ (α : List ℕ). g (join (resize n parts) α)) (filter test (exponent_lists n k)) ≡ total (λ (ν : List ℕ). g (resize n ν)) (filter (λ (ν : List ℕ). nat_le (rows ν) n) list)
shapes_total n k parts p few test S sound complete held list l g =
    total_among (λ (α : List ℕ). g (join m α)) (λ (α : List ℕ). g (resize n (to α))) xs (λ α i. ap g (sym (resize-without_last_zeros n (join m α) (wide α (lists α i).0))))
    ∙ total_bijection (λ (ν : List ℕ). g (resize n ν)) to from xs ys (Once-select test (exponent_lists n k) (once_exponent_lists n k)) (Once-select (λ (ν : List ℕ). nat_le (rows ν) n) list l.once)
    into back there again
  where
    m : List ℕ
    m = resize n parts

    to : List ℕ → List ℕ
    to α = without_last_zeros (join m α)

    from : List ℕ → List ℕ
    from ν = row_lengths (resize n ν) m

    xs : List (List ℕ)
    xs = filter test (exponent_lists n k)

    ys : List (List ℕ)
    ys = filter (λ (ν : List ℕ). nat_le (rows ν) n) list

    lists : (α : List ℕ) → Among α xs → (length α ≡ n) × (size α ≡ k) × (test α ≡ true)
    lists α i = let s = Among_from_select test α (exponent_lists n k) i in let q = members_of-exponent_lists α n k s.0 in (q.0, q.1, s.1)

    shapes : (ν : List ℕ) → Among ν ys → (rows ν ≤ n) × IsPartition ν × (size ν ≡ size parts + k) × S ν
    shapes ν i = let s = Among_from_select (λ (ν : List ℕ). nat_le (rows ν) n) ν list i in let q = (l.members ν).0 s.0 in (leb-true (rows ν) n s.1, q.0, q.1, q.2)

    wide : (α : List ℕ) → length α ≡ n → length (join m α) ≡ n
    wide α e = length-join_same n m α (length-resize n parts) e

    into : (α : List ℕ) → Among α xs → Among (to α) ys
    into α i =
        let q = lists α i in
        let s = sound α q.0 q.2 in
        let w = wide α q.0 in
        let r = length-without_last_zeros (join m α) in
        let sizes : size (to α) ≡ size parts + k = size-without_last_zeros (join m α) ∙ size-join m α ∙ ap₂ ◌+◌ (size-padded n parts p.positive few) q.1 in
        Among-select (λ (ν : List ℕ). nat_le (rows ν) n) (to α) list ((l.members (to α)).1 (IsPartition-without_last_zeros (join m α) s.0, sizes, s.1)) (le-leb (rows (to α)) n (omega arith))

    whole : (ν : List ℕ) → Among ν ys → join m (from ν) ≡ resize n ν
    whole ν i = join_less n parts ν (Holds-get_or ν parts (held ν (shapes ν i).3))

    long : (ν : List ℕ) → length (from ν) ≡ n
    long ν = length-row_lengths (resize n ν) m ∙ length-resize n ν

    again : (ν : List ℕ) → Among ν ys → to (from ν) ≡ ν
    again ν i = let q = shapes ν i in ap without_last_zeros (whole ν i) ∙ without_last_zeros-resize n ν q.1.positive q.0

    back : (ν : List ℕ) → Among ν ys → Among (from ν) xs
    back ν i =
        let q = shapes ν i in
        let w = whole ν i in
        let falls : Falls (join m (from ν)) = subst Falls (sym w) (falls_from_test (resize n ν) (falling-resize n ν q.1.falls)) in
        let a = size-join m (from ν) in
        let b = ap size w in
        let c = size-padded n parts p.positive few in
        let d = size-padded n ν q.1.positive q.0 in
        let e = q.2 in
        let sized : size (from ν) ≡ k = omega arith in
        Among-select test (from ν) (exponent_lists n k) (among_exponent_lists (from ν) n k (long ν) sized)
        (complete (from ν) (long ν) falls (subst S (sym (again ν i)) q.3))

    there : (α : List ℕ) → Among α xs → from (to α) ≡ α
    there α i =
        let e = (lists α i).0 in
        ap (λ z. row_lengths z m) (resize-without_last_zeros n (join m α) (wide α e)) ∙ less_join m α (length-resize n parts ∙ sym e)

-- ---- exponents that add a horizontal strip to a partition

-- whether m_(i+1) + α_(i+1) is at most m_i for each i, so that the cells added to m form a horizontal strip
abbrev pub keeps_below : List ℕ → List ℕ → Bool
keeps_below [] α = true
keeps_below (a ∷ []) α = true
keeps_below (a ∷ b ∷ m) [] = true
keeps_below (a ∷ b ∷ m) (x ∷ []) = true
keeps_below (a ∷ b ∷ m) (x ∷ y ∷ α) = nat_le (b + y) a && keeps_below (b ∷ m) (y ∷ α)

below_falls : (m α : List ℕ) → length m ≡ length α → keeps_below m α ≡ true → Falls (join m α)
below_falls [] [] e t = tt
below_falls [] (x ∷ α) e t = absurd (omega arith)
below_falls (a ∷ m) [] e t = absurd (omega arith)
below_falls (a ∷ []) (x ∷ []) e t = tt
below_falls (a ∷ []) (x ∷ y ∷ α) e t = absurd (omega arith)
below_falls (a ∷ b ∷ m) (x ∷ []) e t = absurd (omega arith)
below_falls (a ∷ b ∷ m) (x ∷ y ∷ α) e t =
    let p = and_parts (nat_le (b + y) a) (keeps_below (b ∷ m) (y ∷ α)) t in
    let q = leb-true (b + y) a p.0 in
    (omega arith, below_falls (b ∷ m) (y ∷ α) (omega arith) p.1)

below_tells : (m α : List ℕ) → length m ≡ length α → keeps_below m α ≡ true → (k : ℕ) → get_or (join m α) (suc k) 0 ≤ get_or m k 0
below_tells [] [] e t k = omega arith
below_tells [] (x ∷ α) e t k = absurd (omega arith)
below_tells (a ∷ m) [] e t k = absurd (omega arith)
below_tells (a ∷ []) (x ∷ []) e t k = omega arith
below_tells (a ∷ []) (x ∷ y ∷ α) e t k = absurd (omega arith)
below_tells (a ∷ b ∷ m) (x ∷ []) e t k = absurd (omega arith)
below_tells (a ∷ b ∷ m) (x ∷ y ∷ α) e t zero = leb-true (b + y) a (and_parts (nat_le (b + y) a) (keeps_below (b ∷ m) (y ∷ α)) t).0
below_tells (a ∷ b ∷ m) (x ∷ y ∷ α) e t (suc k) = below_tells (b ∷ m) (y ∷ α) (omega arith) (and_parts (nat_le (b + y) a) (keeps_below (b ∷ m) (y ∷ α)) t).1 k

below_from : (m α : List ℕ) → length m ≡ length α → ((k : ℕ) → get_or (join m α) (suc k) 0 ≤ get_or m k 0) → keeps_below m α ≡ true
below_from [] α e h = refl
below_from (a ∷ []) α e h = refl
below_from (a ∷ b ∷ m) [] e h = refl
below_from (a ∷ b ∷ m) (x ∷ []) e h = refl
below_from (a ∷ b ∷ m) (x ∷ y ∷ α) e h =
    and_from (nat_le (b + y) a) (keeps_below (b ∷ m) (y ∷ α)) (le-leb (b + y) a (h 0)) (below_from (b ∷ m) (y ∷ α) (omega arith) (λ k. h (suc k)))

sum_holds : (n : ℕ) (parts α : List ℕ) → rows parts ≤ n → Holds (without_last_zeros (join (resize n parts) α)) parts
sum_holds n parts α h i = search (rules, get-cut, get_or-join, get-padded)

pub horizontal_sound : (n : ℕ) (parts α : List ℕ) → rows parts ≤ n → length α ≡ n → keeps_below (resize n parts) α ≡ true
    → Falls (join (resize n parts) α) × IsHorizontalStrip (without_last_zeros (join (resize n parts) α)) parts
horizontal_sound n parts α h e t =
    let falls = below_falls (resize n parts) α (length-resize n parts ∙ sym e) t in
    (falls, horizontal_from_rows (without_last_zeros (join (resize n parts) α)) parts (IsPartition-without_last_zeros (join (resize n parts) α) falls).falls (sum_holds n parts α h) rows_below)
  where
    rows_below : (i : ℕ) → 1 ≤ i → part (without_last_zeros (join (resize n parts) α)) (i + 1) ≤ part parts i
    rows_below zero o = absurd (omega arith)
    rows_below (suc k) o =
        let d : suc k + 1 - 1 ≡ suc k = omega arith in
        let f : suc k - 1 ≡ k = omega arith in
        let u = ap (λ j. get_or (without_last_zeros (join (resize n parts) α)) j 0) d in
        let v = ap (λ j. get_or parts j 0) f in
        let a = get-cut (join (resize n parts) α) (suc k) in
        let b = below_tells (resize n parts) α (length-resize n parts ∙ sym e) t k in
        let c = get-padded n parts k h in
        omega (arith, u, v, a, b, c)

pub horizontal_complete : (n : ℕ) (parts α : List ℕ) → Falls parts → rows parts ≤ n → length α ≡ n → Falls (join (resize n parts) α)
    → IsHorizontalStrip (without_last_zeros (join (resize n parts) α)) parts → keeps_below (resize n parts) α ≡ true
horizontal_complete n parts α fall h e falls s = below_from (resize n parts) α (length-resize n parts ∙ sym e) rows_below
  where
    rows_below : (k : ℕ) → get_or (join (resize n parts) α) (suc k) 0 ≤ get_or (resize n parts) k 0
    rows_below k =
        let d : suc k + 1 - 1 ≡ suc k = omega arith in
        let f : suc k - 1 ≡ k = omega arith in
        let u = ap (λ j. get_or (without_last_zeros (join (resize n parts) α)) j 0) d in
        let v = ap (λ j. get_or parts j 0) f in
        let a = get-cut (join (resize n parts) α) (suc k) in
        let b = horizontal_rows (without_last_zeros (join (resize n parts) α)) parts (IsPartition-without_last_zeros (join (resize n parts) α) falls).falls fall s (suc k) (omega arith) in
        let c = get-padded n parts k h in
        omega (arith, u, v, a, b, c)

-- ---- exponents that add a vertical strip to a partition

-- whether no exponent of α is greater than 1 and m + α is weakly decreasing, so that the cells added form a vertical strip
abbrev pub adds_column : List ℕ → List ℕ → Bool
adds_column m α = at_most_one α && is_falling (join m α)

one_tells : (α : List ℕ) → at_most_one α ≡ true → (k : ℕ) → get_or α k 0 ≤ 1
one_tells [] t k = omega arith
one_tells (x ∷ α) t zero = leb-true x 1 (and_parts (nat_le x 1) (at_most_one α) t).0
one_tells (x ∷ α) t (suc k) = one_tells α (and_parts (nat_le x 1) (at_most_one α) t).1 k

one_from : (α : List ℕ) → ((k : ℕ) → get_or α k 0 ≤ 1) → at_most_one α ≡ true
one_from [] h = refl
one_from (x ∷ α) h = and_from (nat_le x 1) (at_most_one α) (le-leb x 1 (h 0)) (one_from α (λ k. h (suc k)))

falling_from : (l : List ℕ) → Falls l → is_falling l ≡ true
falling_from l f = ap is_falling (sym (resize_same (length l) l refl)) ∙ falling-resize (length l) l f

pub vertical_sound : (n : ℕ) (parts α : List ℕ) → rows parts ≤ n → length α ≡ n → adds_column (resize n parts) α ≡ true
    → Falls (join (resize n parts) α) × IsVerticalStrip (without_last_zeros (join (resize n parts) α)) parts
vertical_sound n parts α h e t =
    search (rules, and_parts, falls_from_test, vertical_from_rows, sum_holds, get-cut, get_or-join, get-padded, one_tells)

pub vertical_complete : (n : ℕ) (parts α : List ℕ) → rows parts ≤ n → length α ≡ n → Falls (join (resize n parts) α)
    → IsVerticalStrip (without_last_zeros (join (resize n parts) α)) parts → adds_column (resize n parts) α ≡ true
vertical_complete n parts α h e falls s =
    and_from (at_most_one α) (is_falling (join (resize n parts) α)) (one_from α each_one) (falling_from (join (resize n parts) α) falls)
  where
    each_one : (k : ℕ) → get_or α k 0 ≤ 1
    each_one k =
        let f : suc k - 1 ≡ k = omega arith in
        let u = ap (λ j. get_or (without_last_zeros (join (resize n parts) α)) j 0) f in
        let v = ap (λ j. get_or parts j 0) f in
        let a = get-cut (join (resize n parts) α) k in
        let b = vertical_rows (without_last_zeros (join (resize n parts) α)) parts s (suc k) (omega arith) in
        let c = get-padded n parts k h in
        let d = get_or-join (resize n parts) α k in
        omega (arith, u, v, a, b, c, d)
