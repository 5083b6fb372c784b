-- The rule of Murnaghan and Nakayama: p_k·a_b is the sum of the alternants with one exponent of b raised by k. If no two exponents are then equal,
-- they are, when sorted, the beta list of the partition of b with a rim hook of k cells added. (`one_place k n` has the n lists of exponents with k
-- at one place and 0 at the other n - 1 places.)
use Rattle.std.proofs.Common.{◌≡◌, ℕ, ◌+◌, ◌-◌, ◌≤◌, Bool, true, false, not, cond, nat_le, List, ◌∷◌, ◌++◌, map, length, refl, sym, ◌∙◌, ap, ap₂, subst, arith, ℤ, pos, ◌*ℤ◌, append_assoc, filter, flat_map}
use Rattle.std.proofs.lemmas.Bool.{leb-true, le-leb, not-true}
use Rattle.sym_model.specs.Sum.{total, Among, Within}
use Rattle.sym_model.specs.Partition.{IsPartition, rows}
use Rattle.sym_model.specs.Polynomial.{Same, join, pair, times, scale}
use Rattle.sym_model.specs.Strip.{height}
use Rattle.sym_model.specs.RimHookReduction.{IsRemoval}
use Rattle.sym_model.specs.Bases.{has, power_sum_of}
use Rattle.sym_model.specs.Schur.{schur}
use Rattle.sym_model.specs.Alternant.{alternant, staircase}
use Rattle.sym_model.specs.PlaceOrders.{minus_one_to}
use Rattle.sym_model.specs.BetaList.{beta, from_beta, has_equal_entries, sorted_falling}
use Rattle.sym_model.proofs.Sums.{total_ext, total_among, total_map, total_select, total_same_members, Among-map, Among_from_map, Among-select, Among_from_select, Once-map, Once-select}
use Rattle.sym_model.proofs.Polynomials.{pair_scale, In_scale}
use Rattle.sym_model.proofs.Monomials.{one_place, pair-power_sum_of, In-monomials}
use Rattle.monomial_laws.proofs.SchurMajorants.{In-schur}
use Rattle.beta_list_laws.specs.StrictFall.{FallsStrictly}
use Rattle.beta_list_laws.proofs.BetaLists.{length-beta, beta_strict, from_beta-beta, beta-from_beta, from_beta_partition, rows-from_beta}
use Rattle.beta_list_laws.proofs.BetaLowerings.{removal_as_lowered, strict_distinct}
use Rattle.beta_list_laws.proofs.BetaRemovals.{before, lowered, shown_removal, shown_height}
use Rattle.beta_list_laws.proofs.NeighbourExchanges.{sorted-exchange, equal-exchange, has-exchange, length-sorted, has-sorted, sorted-falling}
use Rattle.beta_list_laws.proofs.SortedLists.{sorted_strict}
use Rattle.beta_list_laws.proofs.Lowest.{strict_falls}
use Rattle.alternant_laws.proofs.SortedAlternants.{alternant-equal, from_beta-join}
use Rattle.product_laws.specs.StripLists.{ListsEach, AddsRimHook}
use Rattle.product_laws.proofs.StaircaseProducts.{strip_product}
use Rattle.product_laws.proofs.Overlaps.{alternants_turn}
use Rattle.schur_laws.proofs.SymmetricPolynomials.{symmetric-monomials}
use Rattle.product_laws.proofs.RaisedEntries.{moved, turned_past, sign_twice, place_found, Raises, raises, length-raised, once_one_place, same_place}

beta_joined : (n : ℕ) (parts : List ℕ) → IsPartition parts → rows parts ≤ n → join parts (staircase n) ≡ beta n parts
beta_joined n parts p h =
    ap₂ (λ l k. join l (staircase k)) (sym (from_beta-beta n parts p h)) (sym (length-beta n parts))
    ∙ from_beta-join (beta n parts) (beta_strict n parts p.falls)

-- whether no two entries of b + α are equal
abbrev apart : List ℕ → List ℕ → Bool
apart b α = not (has_equal_entries (join b α))

-- the partition whose beta list is b + α in decreasing order
abbrev pub raised_shape : List ℕ → List ℕ → List ℕ
raised_shape b α = from_beta (sorted_falling (join b α))

-- let b be the beta list of `parts` for n rows, and let b + α have no equal entries. `raised_shape b α` is a partition ν with at most n rows from
-- which removing a rim hook of k cells leaves `parts`, and the alternant of b + α is (-1)^(h - 1) times that of ν + ρ, h being the height of the rim
-- hook
record Shows (n k : ℕ) (parts α : List ℕ) (φ : List ℕ → ℤ) : Type 0 where
  removal : IsRemoval k (raised_shape (beta n parts) α) parts
  partition : IsPartition (raised_shape (beta n parts) α)
  few : rows (raised_shape (beta n parts) α) ≤ n
  back : beta n (raised_shape (beta n parts) α) ≡ sorted_falling (join (beta n parts) α)
  value : pair (alternant (join (beta n parts) α)) φ
      ≡ minus_one_to (height (raised_shape (beta n parts) α) parts - 1) *ℤ pair (alternant (join (raised_shape (beta n parts) α) (staircase n))) φ

shows : (n k : ℕ) (parts α : List ℕ) (φ : List ℕ → ℤ) → 1 ≤ k → IsPartition parts → rows parts ≤ n → Among α (one_place k n) → has_equal_entries (join (beta n parts) α) ≡ false → Shows n k parts α φ
shows n k parts α φ h p few m e = by (raises k n (beta n parts) α (length-beta n parts) strict m e)
  where
    b : List ℕ
    b = beta n parts

    strict : FallsStrictly (beta n parts)
    strict = beta_strict n parts p.falls

    s : List ℕ
    s = sorted_falling (join (beta n parts) α)

    sorted : FallsStrictly (sorted_falling (join (beta n parts) α))
    sorted = sorted_strict (join (beta n parts) α) e

    long : length (sorted_falling (join (beta n parts) α)) ≡ n
    long = length-sorted (join (beta n parts) α) ∙ length-raised k n (beta n parts) α (length-beta n parts) m

    back : beta n (from_beta (sorted_falling (join (beta n parts) α))) ≡ sorted_falling (join (beta n parts) α)
    back = ap (λ j. beta j (from_beta (sorted_falling (join (beta n parts) α)))) (sym long) ∙ beta-from_beta (sorted_falling (join (beta n parts) α)) sorted

    joined : join (from_beta (sorted_falling (join (beta n parts) α))) (staircase n) ≡ sorted_falling (join (beta n parts) α)
    joined = ap (λ j. join (from_beta (sorted_falling (join (beta n parts) α))) (staircase j)) (sym long) ∙ from_beta-join (sorted_falling (join (beta n parts) α)) sorted

    by : Raises k (beta n parts) α → Shows n k parts α φ
    by r =
        let B = before k r.entry r.left r.middle r.rest in
        let is : s ≡ before k r.entry r.left r.middle r.rest =
        ap sorted_falling r.is
        ∙ sym (moved sorted_falling sorted-exchange r.left r.middle r.rest (r.entry + k))
        ∙ sorted-falling (before k r.entry r.left r.middle r.rest) (strict_falls (before k r.entry r.left r.middle r.rest) r.strict) in
        let low : FallsStrictly (lowered r.entry r.left r.middle r.rest) = subst FallsStrictly r.from strict in
        let inner : from_beta (lowered r.entry r.left r.middle r.rest) ≡ parts = ap from_beta (sym r.from) ∙ from_beta-beta n parts p few in
        let outer : from_beta (before k r.entry r.left r.middle r.rest) ≡ raised_shape b α = ap from_beta (sym is) in
        let removal = subst (λ ν. IsRemoval k ν parts) outer (subst (λ μ. IsRemoval k (from_beta (before k r.entry r.left r.middle r.rest)) μ) inner (shown_removal k r.entry r.left r.middle r.rest h r.strict low)) in
        let tall : height (raised_shape b α) parts ≡ length r.middle + 1 = ap₂ height (sym outer) (sym inner) ∙ shown_height k r.entry r.left r.middle r.rest h r.strict low in
        let sign : height (raised_shape b α) parts - 1 ≡ length r.middle = omega (arith, tall) in
        let bounded = rows-from_beta s in
        record {
          removal = removal;
          partition = from_beta_partition s sorted;
          few = omega (arith, bounded, long);
          back = back;
          value =
              sym (ap₂ (λ (j : ℕ) (l : List ℕ). minus_one_to j *ℤ pair (alternant l) φ) sign (joined ∙ is)
              ∙ ap (λ x. minus_one_to (length r.middle) *ℤ x) (turned_past (λ β. pair (alternant β) φ) (alternants_turn φ) r.left r.middle r.rest (r.entry + k))
              ∙ sign_twice (length r.middle) (pair (alternant (r.left ++ (r.middle ++ ((r.entry + k) ∷ r.rest)))) φ)
              ∙ ap (λ l. pair (alternant l) φ) (sym r.is));
        }

-- if ν has at most n rows, and removing a rim hook of k cells from ν leaves `parts`, then raising some entry of the beta list of `parts` by k gives
-- the beta list of ν, unsorted
pub found : (n k : ℕ) (parts ν : List ℕ) → IsPartition parts → IsPartition ν → rows ν ≤ n → IsRemoval k ν parts
    → (α : List ℕ) × Among α (one_place k n) × (has_equal_entries (join (beta n parts) α) ≡ false) × (raised_shape (beta n parts) α ≡ ν)
found n k parts ν p q few r =
    let w = removal_as_lowered n k ν parts q few r in
    by w.0 w.1 w.2 w.3 w.4 w.5
  where
    by : (y : ℕ) (front middle rest : List ℕ) → beta n ν ≡ before k y front middle rest → beta n parts ≡ lowered y front middle rest
        → (α : List ℕ) × Among α (one_place k n) × (has_equal_entries (join (beta n parts) α) ≡ false) × (raised_shape (beta n parts) α ≡ ν)
    by y front middle rest u v =
        let f = place_found k (front ++ middle) y rest in
        let whole : beta n parts ≡ (front ++ middle) ++ (y ∷ rest) = v ∙ sym (append_assoc front middle (y ∷ rest)) in
        let size_is : length ((front ++ middle) ++ (y ∷ rest)) ≡ n = ap length (sym whole) ∙ length-beta n parts in
        let is : join (beta n parts) f.0 ≡ front ++ (middle ++ ((y + k) ∷ rest)) = ap (λ l. join l f.0) whole ∙ f.2 ∙ append_assoc front middle ((y + k) ∷ rest) in
        let strict : FallsStrictly (beta n ν) = beta_strict n ν q.falls in
        let distinct : has_equal_entries (join (beta n parts) f.0) ≡ false =
        ap has_equal_entries is ∙ sym (moved has_equal_entries equal-exchange front middle rest (y + k)) ∙ ap has_equal_entries (sym u) ∙ strict_distinct (beta n ν) strict in
        let sorted : sorted_falling (join (beta n parts) f.0) ≡ beta n ν =
        ap sorted_falling is ∙ sym (moved sorted_falling sorted-exchange front middle rest (y + k)) ∙ ap sorted_falling (sym u) ∙ sorted-falling (beta n ν) (strict_falls (beta n ν) strict) in
        (f.0, subst (λ j. Among f.0 (one_place k j)) size_is f.1, distinct, ap from_beta sorted ∙ from_beta-beta n ν q few)

-- ---- the sum of the alternants with one exponent raised by k, as a sum over the partitions with one more rim hook

hooks_total : (n k : ℕ) (parts : List ℕ) (list : List (List ℕ)) (φ : List ℕ → ℤ) → 1 ≤ k → IsPartition parts → rows parts ≤ n → ListsEach (AddsRimHook k parts) list
    → total (λ (α : List ℕ). pair (alternant (join (beta n parts) α)) φ) (one_place k n)
    ≡ total (λ (ν : List ℕ). minus_one_to (height ν parts - 1) *ℤ pair (alternant (join ν (staircase n))) φ) (filter (λ (ν : List ℕ). nat_le (rows ν) n) list)
hooks_total n k parts list φ h p few l =
    total_among F (λ (α : List ℕ). cond (apart b α) (F α) (pos 0)) (one_place k n) (λ α m. equal_or α (has_equal_entries (join b α)) refl)
    ∙ sym (total_select F (apart b) (one_place k n))
    ∙ total_among F (λ (α : List ℕ). W (raised_shape b α)) xs (λ α m. (seen α m).value)
    ∙ sym (total_map W (raised_shape b) xs)
    ∙ total_same_members W (map (raised_shape b) xs) ys (Once-map (raised_shape b) xs one_each (Once-select (apart b) (one_place k n) (once_one_place k n h))) (Once-select (λ (ν : List ℕ). nat_le (rows ν) n) list l.once) within reach
  where
    b : List ℕ
    b = beta n parts

    F : List ℕ → ℤ
    F α = pair (alternant (join (beta n parts) α)) φ

    W : List ℕ → ℤ
    W ν = minus_one_to (height ν parts - 1) *ℤ pair (alternant (join ν (staircase n))) φ

    xs : List (List ℕ)
    xs = filter (apart (beta n parts)) (one_place k n)

    ys : List (List ℕ)
    ys = filter (λ (ν : List ℕ). nat_le (rows ν) n) list

    equal_or : (α : List ℕ) (t : Bool) → has_equal_entries (join (beta n parts) α) ≡ t → F α ≡ cond (not (has_equal_entries (join (beta n parts) α))) (F α) (pos 0)
    equal_or α true e = alternant-equal (join (beta n parts) α) φ e ∙ sym (ap (λ (s : Bool). cond (not s) (F α) (pos 0)) e)
    equal_or α false e = sym (ap (λ (s : Bool). cond (not s) (F α) (pos 0)) e)

    members : (α : List ℕ) → Among α xs → Among α (one_place k n) × (has_equal_entries (join (beta n parts) α) ≡ false)
    members α m = let s = Among_from_select (apart (beta n parts)) α (one_place k n) m in (s.0, not-true (has_equal_entries (join (beta n parts) α)) s.1)

    seen : (α : List ℕ) → Among α xs → Shows n k parts α φ
    seen α m = let s = members α m in shows n k parts α φ h p few s.0 s.1

    one_each : (α β : List ℕ) → Among α xs → Among β xs → raised_shape (beta n parts) α ≡ raised_shape (beta n parts) β → α ≡ β
    one_each α β m i e =
        let s = members α m in
        let t = members β i in
        let sorted : sorted_falling (join (beta n parts) α) ≡ sorted_falling (join (beta n parts) β) = sym (seen α m).back ∙ ap (beta n) e ∙ (seen β i).back in
        same_place k n (beta n parts) α β h (length-beta n parts) (beta_strict n parts p.falls) s.0 t.0 s.1 t.1
        (λ x. sym (has-sorted x (join (beta n parts) α)) ∙ ap (has x) sorted ∙ has-sorted x (join (beta n parts) β))

    within : Within (map (raised_shape (beta n parts)) xs) ys
    within ν m =
        let r = Among_from_map (raised_shape (beta n parts)) ν xs m in
        let s = seen r.0 r.1 in
        subst (λ z. Among z ys) (sym r.2)
        (Among-select (λ (ν : List ℕ). nat_le (rows ν) n) (raised_shape (beta n parts) r.0) list ((l.members (raised_shape (beta n parts) r.0)).1 (s.partition, s.removal.cells, s.removal.hook)) (le-leb (rows (raised_shape (beta n parts) r.0)) n s.few))

    reach : Within ys (map (raised_shape (beta n parts)) xs)
    reach ν m =
        let s = Among_from_select (λ (ν : List ℕ). nat_le (rows ν) n) ν list m in
        let q = (l.members ν).0 s.0 in
        let removal : IsRemoval k ν parts = record { partition = p; hook = q.2; cells = q.1 } in
        let f = found n k parts ν p q.0 (leb-true (rows ν) n s.1) removal in
        subst (λ z. Among z (map (raised_shape (beta n parts)) xs)) f.3
        (Among-map (raised_shape (beta n parts)) f.0 xs (Among-select (apart (beta n parts)) f.0 (one_place k n) f.1 (ap not f.2)))

pub rim_hooks : (n k : ℕ) (parts : List ℕ) (list : List (List ℕ)) → 1 ≤ k → IsPartition parts
    → ListsEach (AddsRimHook k parts) list
    → Same (times (power_sum_of k n) (schur parts n)) (flat_map (λ ν. scale (minus_one_to (height ν parts - 1)) (schur ν n)) list)
rim_hooks n k parts list h p l =
    strip_product n parts (power_sum_of k n) (λ ν. scale (minus_one_to (height ν parts - 1)) (schur ν n)) (λ ν. minus_one_to (height ν parts - 1)) list p
    (In-monomials (has k) n k) (symmetric-monomials (has k) n k (has-exchange k))
    (λ ν. In_scale n (minus_one_to (height ν parts - 1)) (schur ν n) (In-schur ν n)) (λ ν φ. pair_scale (minus_one_to (height ν parts - 1)) (schur ν n) φ)
    (λ ν i. let q = (l.members ν).0 i in (q.0, q.2.holds))
    (λ few φ.
    pair-power_sum_of k n (λ α. pair (alternant (join (join parts (staircase n)) α)) φ) (omega arith)
    ∙ total_ext (λ (α : List ℕ). pair (alternant (join (join parts (staircase n)) α)) φ) (λ (α : List ℕ). pair (alternant (join (beta n parts) α)) φ)
    (λ α. ap (λ β. pair (alternant (join β α)) φ) (beta_joined n parts p few)) (one_place k n)
    ∙ hooks_total n k parts list φ h p few l)
