-- The tables of permutations that are still to be expanded, each with a count. A step changes the sum of Schur polynomials and the tables, so that
-- the value `walked m φ` of the two increases by `more φ` for every function φ of exponents (`IsWorkedOff`).
--     waited_natural    no Schur coefficient of the sum of the Schubert polynomials of the permutations, times their counts, is negative
--     put_step          one more permutation is added, with its count, to its table
--     none_step, both_steps, as_step    no step, two steps one after the other, and a step with `more` replaced by an equal function
--     large_with        a polynomial with a Schur coefficient of at least 2^127 still has one if no Schur coefficient is made smaller
use Rattle.std.proofs.Common.{◌≡◌, ℕ, zero, suc, Bool, ◌+◌, ◌^◌, ◌<◌, ◌≤◌, List, [], ◌∷◌, ◌++◌, length, get_or, set, replicate, refl, sym, ◌∙◌, ap, subst, arith, inl, inr, ℤ, pos, ◌+ℤ◌, ◌*ℤ◌, ◌≤ℤ◌}
use Rattle.std.specs.Prelude.{nat_eq}
use Rattle.std.specs.Cmp.Lexicographic.{pointwise, nat_list_eq_equiv}
use Rattle.std.specs.List.{IsDistinct}
use Rattle.std.specs.Map.{keys_of}
use Rattle.std.proofs.lemmas.Int.{ints}
use Rattle.std.proofs.lemmas.Bool.{cases_eq, cases_lt}
use Rattle.std.proofs.lemmas.List.{get_or-set_same, get_or-set_other, get_or_append_left, get_or_default, get_or_past, length-set}
use Rattle.std.proofs.Math.Seq.{get_or-append_seam}
use Rattle.sym_model.specs.Sum.{total, Among}
use Rattle.sym_model.specs.Partition.{IsPartition, rows}
use Rattle.sym_model.specs.Polynomial.{pair}
use Rattle.sym_model.specs.Schubert.{schubert_in}
use Rattle.sym_model.specs.WholeTerms.{WholeTerms, AreCounts}
use Rattle.sym_model.proofs.Integers.{product-nonnegative, cond-nonnegative}
use Rattle.sym_model.proofs.Sums.{total_append, Among-append_right}
use Rattle.sym_model.proofs.Ring.{distributes_left, one-product}
use Rattle.fraction_laws.specs.Fractions.{whole}
use Rattle.linear_combinations.specs.Entries.{IsCombination, IsWholeTable}
use Rattle.linear_combinations.specs.Gains.{over, only, Gains, HaveLabels}
use Rattle.linear_combinations.proofs.Labels.{same_partition}
use Rattle.linear_combinations.proofs.Found.{coefficient_over, coefficient_of_term}
use Rattle.linear_combinations.proofs.Gains.{over_append}
use Rattle.sym_model.specs.LabelLimits.{is_label}
use Rattle.linear_combinations.proofs.Steps.{IsCombination-empty}
use Rattle.linear_combinations.proofs.Tables.{held_nothing}
use Rattle.fraction_laws.proofs.Whole.{zero_fits_128_bits}
use Rattle.std.specs.Int.{w128}
use Rattle.std.specs.Prelude.{FitsSigned}
use Rattle.linear_combinations.proofs.Masses.{labels_gained}
use Rattle.transition_walk.proofs.TodoLists.{total_set}
use Rattle.stanley_expand.specs.Grassmannian.{IsRising}
use Rattle.stanley_expand.specs.SchurPositive.{schur_test}
use Rattle.stanley_expand.proofs.SchurPositive.{schur_positive, natural}
use Rattle.stanley_expand.specs.Walk.{WaitsAt, AreWaiting, AreShapes, IsHeld, waited, walked, IsWorkedOff, HasLargeShape, OverflowsWith}

-- if no count of the table and no value of f on its labels is negative, the sum of the counts times the values of f is not negative
pub over_natural : (f : List ℕ → ℤ) (table : WholeTerms) → AreCounts table → HaveLabels (λ p. pos 0 ≤ℤ f p) table → pos 0 ≤ℤ over f table
over_natural f [] counts values = omega (arith, ints)
over_natural f (t ∷ table) counts values =
    let a = product-nonnegative t.1 (f t.0) (counts t (inl refl)) (values t (inl refl)) in
    let b = over_natural f table (λ u i. counts u (inr i)) (λ u i. values u (inr i)) in
    omega (arith, ints)

module _ (m : ℕ) (κ : List ℕ) (q : IsPartition κ) (few : rows κ ≤ m) where
  pub rising_natural : (p : List ℕ) → IsRising m (m + 16) p → pos 0 ≤ℤ pair (schubert_in p m) (schur_test m κ)
  rising_natural p i = natural m (schubert_in p m) κ (schur_positive m (m + 16) p i) q few

  pub table_natural : (table : WholeTerms) → HaveLabels (IsRising m (m + 16)) table → AreCounts table → pos 0 ≤ℤ over (λ p. pair (schubert_in p m) (schur_test m κ)) table
  table_natural table labels counts = over_natural (λ p. pair (schubert_in p m) (schur_test m κ)) table counts (λ t i. rising_natural t.0 (labels t i))

  pub tables_natural : (todo : List WholeTerms) → ((at : ℕ) → HaveLabels (IsRising m (m + 16)) (get_or todo at [])) → ((at : ℕ) → AreCounts (get_or todo at []))
      → pos 0 ≤ℤ waited m (schur_test m κ) todo
  tables_natural [] labels counts = omega (arith, ints)
  tables_natural (table ∷ todo) labels counts =
      let a = table_natural table (labels 0) (counts 0) in
      let b = tables_natural todo (λ at. labels (suc at)) (λ at. counts (suc at)) in
      omega (arith, ints)

  pub waited_natural : (todo : List WholeTerms) → AreWaiting m todo → pos 0 ≤ℤ waited m (schur_test m κ) todo
  waited_natural todo is = tables_natural todo (λ at t i. (is.labels at t i).rising) is.counts

  pub perms_natural : (ps : List (List ℕ)) → ((p : List ℕ) → Among p ps → IsRising m (m + 16) p) → pos 0 ≤ℤ total (λ p. pair (schubert_in p m) (schur_test m κ)) ps
  perms_natural [] rising = omega (arith, ints)
  perms_natural (p ∷ ps) rising =
      let a = rising_natural p (rising p (inl refl)) in
      let b = perms_natural ps (λ x i. rising x (inr i)) in
      omega (arith, ints)

-- ---- `IsWorkedOff` for no step, and for several steps one after the other

pub none_step : (m : ℕ) (sum : WholeTerms) (todo : List WholeTerms) (more : (List ℕ → ℤ) → ℤ) → ((φ : List ℕ → ℤ) → more φ ≡ pos 0) → IsWorkedOff m sum todo more sum todo
none_step m sum todo more none = record {
  value = λ φ. let e = none φ in omega (arith, ints);
  tables = refl;
  waiting = λ w. w;
  shapes = λ s. s;
}

pub both_steps : (m : ℕ) (sum : WholeTerms) (todo : List WholeTerms) (f : (List ℕ → ℤ) → ℤ) (sum2 : WholeTerms) (todo2 : List WholeTerms) (g : (List ℕ → ℤ) → ℤ) (sum3 : WholeTerms)
    (todo3 : List WholeTerms) (h : (List ℕ → ℤ) → ℤ) → ((φ : List ℕ → ℤ) → f φ +ℤ g φ ≡ h φ) → IsWorkedOff m sum todo f sum2 todo2 → IsWorkedOff m sum2 todo2 g sum3 todo3
    → IsWorkedOff m sum todo h sum3 todo3
both_steps m sum todo f sum2 todo2 g sum3 todo3 h e a b = record {
  value = λ φ. let x = a.value φ in let y = b.value φ in let z = e φ in omega (arith, ints);
  tables = b.tables ∙ a.tables;
  waiting = λ w. b.waiting (a.waiting w);
  shapes = λ s. b.shapes (a.shapes s);
}

pub as_step : (m : ℕ) (sum : WholeTerms) (todo : List WholeTerms) (f g : (List ℕ → ℤ) → ℤ) (sum2 : WholeTerms) (todo2 : List WholeTerms) → ((φ : List ℕ → ℤ) → f φ ≡ g φ)
    → IsWorkedOff m sum todo f sum2 todo2 → IsWorkedOff m sum todo g sum2 todo2
as_step m sum todo f g sum2 todo2 e a = record {
  value = λ φ. a.value φ ∙ ap (λ z. walked m φ sum todo +ℤ z) (e φ);
  tables = a.tables;
  waiting = a.waiting;
  shapes = a.shapes;
}

pub large_with : (m : ℕ) (f g : (List ℕ → ℤ) → ℤ) → ((κ : List ℕ) → IsPartition κ → rows κ ≤ m → f (schur_test m κ) ≤ℤ g (schur_test m κ)) → HasLargeShape m f → HasLargeShape m g
large_with m f g h l =
    let a = h l.0 l.1 l.2 in
    let b = l.3 in
    (l.0, l.1, l.2, omega (arith, ints))

pub large_same : (m : ℕ) (f g : (List ℕ → ℤ) → ℤ) → ((φ : List ℕ → ℤ) → f φ ≡ g φ) → HasLargeShape m f → HasLargeShape m g
large_same m f g e l = (l.0, l.1, l.2, subst (λ z. pos (2 ^ 127) ≤ℤ z) (e (schur_test m l.0)) l.3)

pub overflows_as : (m : ℕ) (sum : WholeTerms) (todo : List WholeTerms) (f g : (List ℕ → ℤ) → ℤ) → ((φ : List ℕ → ℤ) → f φ ≡ g φ) → OverflowsWith m sum todo f → OverflowsWith m sum todo g
overflows_as m sum todo f g e large waiting shapes =
    large_same m (λ φ. walked m φ sum todo +ℤ f φ) (λ φ. walked m φ sum todo +ℤ g φ) (λ φ. ap (λ z. walked m φ sum todo +ℤ z) (e φ)) (large waiting shapes)

-- ---- the elements that a loop has visited, and those still to come

pub still_all : {A : Type 0} (done rest left all : List A) (x : A) → left ≡ x ∷ rest → done ++ left ≡ all → done ++ x ∷ rest ≡ all
still_all done rest left all x next e = ap (λ xs. done ++ xs) (sym next) ∙ e

pub next_among : {A : Type 0} (done rest all : List A) (x : A) → done ++ x ∷ rest ≡ all → Among x all
next_among done rest all x e = subst (Among x) e (Among-append_right x done (x ∷ rest) (inl refl))

-- let p follow `done` in the list `all`, and let c ≥ 0 have been added at each permutation of `done`; if adding c at p then overflows, adding c at
-- all permutations of the list overflows
pub large_perm : (m : ℕ) (c : ℤ) (sum : WholeTerms) (todo mid : List WholeTerms) (done rest all : List (List ℕ)) (p : List ℕ) → pos 0 ≤ℤ c → done ++ p ∷ rest ≡ all
    → ((x : List ℕ) → Among x all → IsRising m (m + 16) x) → IsWorkedOff m sum todo (λ φ. c *ℤ total (λ x. pair (schubert_in x m) φ) done) sum mid
    → OverflowsWith m sum mid (λ φ. c *ℤ pair (schubert_in p m) φ) → OverflowsWith m sum todo (λ φ. c *ℤ total (λ x. pair (schubert_in x m) φ) all)
large_perm m c sum todo mid done rest all p positive e rising step large waiting shapes =
    large_with m (λ φ. walked m φ sum mid +ℤ c *ℤ pair (schubert_in p m) φ) (λ φ. walked m φ sum todo +ℤ c *ℤ total (λ x. pair (schubert_in x m) φ) all)
    (λ κ q few.
    let φ : List ℕ → ℤ = schur_test m κ in
    let a = step.value (schur_test m κ) in
    let b = ap (total (λ x. pair (schubert_in x m) (schur_test m κ))) (sym e) ∙ total_append (λ x. pair (schubert_in x m) (schur_test m κ)) done (p ∷ rest) in
    let d = perms_natural m κ q few rest (λ x i. rising x (subst (Among x) e (Among-append_right x done (p ∷ rest) (inr i)))) in
    let f = product-nonnegative c (total (λ x. pair (schubert_in x m) (schur_test m κ)) rest) positive d in
    let g = three c (total (λ x. pair (schubert_in x m) (schur_test m κ)) done) (pair (schubert_in p m) (schur_test m κ)) (total (λ x. pair (schubert_in x m) (schur_test m κ)) rest) in
    let h = ap (λ z. c *ℤ z) b in
    omega (arith, ints))
    (large (step.waiting waiting) (step.shapes shapes))
  where
    three : (c x y z : ℤ) → c *ℤ (x +ℤ (y +ℤ z)) ≡ c *ℤ x +ℤ (c *ℤ y +ℤ c *ℤ z)
    three c x y z = distributes_left c x (y +ℤ z) ∙ ap (λ w. c *ℤ x +ℤ w) (distributes_left c y z)

-- let no count of the table `all` be negative, let the term t follow `done` in it, and let the terms of `done` have been expanded; if expanding t
-- then overflows, expanding the whole table overflows
pub large_count : (m : ℕ) (sum sum2 : WholeTerms) (todo mid : List WholeTerms) (done rest all : WholeTerms) (t : List ℕ × ℤ) → done ++ t ∷ rest ≡ all
    → HaveLabels (IsRising m (m + 16)) all → AreCounts all → IsWorkedOff m sum todo (λ φ. over (λ x. pair (schubert_in x m) φ) done) sum2 mid
    → OverflowsWith m sum2 mid (λ φ. t.1 *ℤ pair (schubert_in t.0 m) φ) → OverflowsWith m sum todo (λ φ. over (λ x. pair (schubert_in x m) φ) all)
large_count m sum sum2 todo mid done rest all t e rising counts step large waiting shapes =
    large_with m (λ φ. walked m φ sum2 mid +ℤ t.1 *ℤ pair (schubert_in t.0 m) φ) (λ φ. walked m φ sum todo +ℤ over (λ x. pair (schubert_in x m) φ) all)
    (λ κ q few.
    let a = step.value (schur_test m κ) in
    let b = ap (over (λ x. pair (schubert_in x m) (schur_test m κ))) (sym e) ∙ over_append (λ x. pair (schubert_in x m) (schur_test m κ)) done (t ∷ rest) in
    let d = table_natural m κ q few rest (λ u i. rising u (subst (Among u) e (Among-append_right u done (t ∷ rest) (inr i))))
    (λ u i. counts u (subst (Among u) e (Among-append_right u done (t ∷ rest) (inr i)))) in
    omega (arith, ints))
    (large (step.waiting waiting) (step.shapes shapes))

pub only_natural : (x y : List ℕ) → pos 0 ≤ℤ only (pointwise nat_eq) x y
only_natural x y = cond-nonnegative (pointwise nat_eq x y) (pos 1) (omega (arith, ints))

set_all : (P : WholeTerms → Type 0) (todo : List WholeTerms) (at : ℕ) (new : WholeTerms) → at < length todo → P new → ((k : ℕ) → P (get_or todo k [])) → (k : ℕ) → P (get_or (set todo at new) k [])
set_all P todo at new inside here old k = elim (cases_eq k at) [
  | inl e ↦ subst (λ n. P (get_or (set todo at new) n [])) (sym e) (subst P (sym (get_or-set_same todo at new [] inside)) here)
  | inr n ↦ subst P (sym (get_or-set_other todo at k new [] n)) (old k)
]

module _ (m at : ℕ) (p : List ℕ) (c : ℤ) (waits : WaitsAt m at p) (positive : pos 0 ≤ℤ c) where
  pub more_counts : (old new : WholeTerms) {is_label : List ℕ → Bool} → IsCombination (pointwise nat_eq) is_label whole new → Gains old ((p, c) ∷ []) new
      → AreCounts old → AreCounts new
  more_counts old new is gains counts t i =
      let e = sym (coefficient_of_term new is.distinct t i) ∙ coefficient_over new t.0 ∙ gains.sums (only (pointwise nat_eq) t.0) in
      let a = over_natural (only (pointwise nat_eq) t.0) old counts (λ u j. only_natural t.0 u.0) in
      let b = product-nonnegative c (only (pointwise nat_eq) t.0 p) positive (only_natural t.0 p) in
      omega (arith, ints)

  pub put_step : (sum : WholeTerms) (todo : List WholeTerms) (table new : WholeTerms) {is_label : List ℕ → Bool} → at < length todo → table ≡ get_or todo at table
      → IsCombination (pointwise nat_eq) is_label whole new → IsHeld new → Gains table ((p, c) ∷ []) new
      → IsWorkedOff m sum todo (λ φ. c *ℤ pair (schubert_in p m) φ) sum (set todo at new)
  put_step sum todo table new inside here is held gains = record {
    value = λ φ.
        let a = total_set (λ t. over (λ x. pair (schubert_in x m) φ) t) todo at table new inside here in
        let b = gains.sums (λ x. pair (schubert_in x m) φ) in
        omega (arith, ints);
    tables = length-set todo at new;
    waiting = λ w. record {
      labels = λ k. elim (cases_eq k at) [
        | inl e ↦ subst (λ n. HaveLabels (WaitsAt m n) (get_or (set todo at new) n [])) (sym e) (subst (HaveLabels (WaitsAt m at)) (sym (get_or-set_same todo at new [] inside))
            (labels_gained nat_list_eq_equiv same_partition table ((p, c) ∷ []) new is gains (WaitsAt m at) (subst (HaveLabels (WaitsAt m at)) (sym there) (w.labels at))
            (λ t i. elim i [ inl d ↦ subst (λ (u : List ℕ × ℤ). WaitsAt m at u.0) (sym d) waits | inr none ↦ absurd none ])))
        | inr n ↦ subst (HaveLabels (WaitsAt m k)) (sym (get_or-set_other todo at k new [] n)) (w.labels k)
      ];
      counts = set_all AreCounts todo at new inside (more_counts table new is gains (subst AreCounts (sym there) (w.counts at))) w.counts;
      distinct = set_all (λ t. IsDistinct (pointwise nat_eq) (keys_of t)) todo at new inside is.distinct w.distinct;
      held = set_all IsHeld todo at new inside held w.held;
    };
    shapes = λ s. s;
  }
    where
      there : table ≡ get_or todo at []
      there = here ∙ get_or_default todo at table [] inside

-- ---- the last table of a list of tables, and the tables before it

no_terms : IsWholeTable []
no_terms = IsCombination-empty (pointwise nat_eq) is_label whole

none_distinct : (λ (t : WholeTerms). IsDistinct (pointwise nat_eq) (keys_of t)) []
none_distinct = no_terms.distinct

none_held : IsHeld []
none_held = held_nothing (pointwise nat_eq) (pos 0) (FitsSigned w128) zero_fits_128_bits

module _ (m : ℕ) (todo rest : List WholeTerms) (table : WholeTerms) (e : todo ≡ rest ++ (table ∷ [])) where
  pub popped_labels : AreWaiting m todo → HaveLabels (WaitsAt m (length rest)) table
  popped_labels w = subst (HaveLabels (WaitsAt m (length rest))) (ap (λ xs. get_or xs (length rest) []) e ∙ get_or-append_seam rest table [] []) (w.labels (length rest))

  pub popped_counts : AreWaiting m todo → AreCounts table
  popped_counts w = subst AreCounts (ap (λ xs. get_or xs (length rest) []) e ∙ get_or-append_seam rest table [] []) (w.counts (length rest))

  pub popped_rest : AreWaiting m todo → AreWaiting m rest
  popped_rest w = record {
    labels = λ at. elim (cases_lt at (length rest)) [
      | inl l ↦ subst (HaveLabels (WaitsAt m at)) (ap (λ xs. get_or xs at []) e ∙ get_or_append_left rest (table ∷ []) [] at l) (w.labels at)
      | inr l ↦ subst (HaveLabels (WaitsAt m at)) (sym (get_or_past rest at [] l)) (λ t i. absurd i)
    ];
    counts = in_rest AreCounts (λ t i. absurd i) w.counts;
    distinct = in_rest (λ t. IsDistinct (pointwise nat_eq) (keys_of t)) none_distinct w.distinct;
    held = in_rest IsHeld none_held w.held;
  }
    where
      in_rest : (P : WholeTerms → Type 0) → P [] → ((k : ℕ) → P (get_or todo k [])) → (k : ℕ) → P (get_or rest k [])
      in_rest P none all k = elim (cases_lt k (length rest)) [
        | inl l ↦ subst P (ap (λ xs. get_or xs k []) e ∙ get_or_append_left rest (table ∷ []) [] k l) (all k)
        | inr l ↦ subst P (sym (get_or_past rest k [] l)) none
      ]

  pub popped_walked : (φ : List ℕ → ℤ) (sum : WholeTerms) → walked m φ sum rest +ℤ over (λ p. pair (schubert_in p m) φ) table ≡ walked m φ sum todo
  popped_walked φ sum =
      let a = ap (total (λ t. over (λ p. pair (schubert_in p m) φ) t)) e ∙ total_append (λ t. over (λ p. pair (schubert_in p m) φ) t) rest (table ∷ []) in
      omega (arith, ints)

module _ (m : ℕ) where
  empty_table : (n at : ℕ) → ◌≡◌ {A = WholeTerms} (get_or (replicate n []) at []) []
  empty_table zero at = refl
  empty_table (suc n) zero = refl
  empty_table (suc n) (suc at) = empty_table n at

  pub empty_waiting : (n : ℕ) → AreWaiting m (replicate n [])
  empty_waiting n = record {
    labels = λ at. subst (HaveLabels (WaitsAt m at)) (sym (empty_table n at)) (λ t i. absurd i);
    counts = λ at. subst AreCounts (sym (empty_table n at)) (λ t i. absurd i);
    distinct = λ at. subst (λ t. IsDistinct (pointwise nat_eq) (keys_of t)) (sym (empty_table n at)) none_distinct;
    held = λ at. subst IsHeld (sym (empty_table n at)) none_held;
  }

  pub empty_waited : (φ : List ℕ → ℤ) (n : ℕ) → waited m φ (replicate n []) ≡ pos 0
  empty_waited φ zero = refl
  empty_waited φ (suc n) = let a = empty_waited φ n in omega (arith, ints)

pub no_shapes : (m : ℕ) → AreShapes m []
no_shapes m = record {
  table = no_terms;
  held = none_held;
  few = λ t i. absurd i;
  natural = λ κ. omega (arith, ints);
}

pub begun : (m n : ℕ) (φ : List ℕ → ℤ) (start : List ℕ) (one : ℤ) (tables : List WholeTerms) → ◌≡◌ {A = List WholeTerms} tables (replicate n []) → one ≡ pos 1
    → walked m φ [] tables +ℤ one *ℤ pair (schubert_in start m) φ ≡ pair (schubert_in start m) φ
begun m n φ start one tables empty is =
    let c = ap (waited m φ) empty ∙ empty_waited m φ n in
    let d = ap (λ z. z *ℤ pair (schubert_in start m) φ) is ∙ one-product (pair (schubert_in start m) φ) in
    omega (arith, ints)

pub start_walked : (m n : ℕ) (φ : List ℕ → ℤ) (start : List ℕ) (one : ℤ) (sum : WholeTerms) (tables todo : List WholeTerms) → ◌≡◌ {A = WholeTerms} sum [] → ◌≡◌ {A = List WholeTerms} tables (replicate n []) → one ≡ pos 1
    → IsWorkedOff m sum tables (λ ψ. one *ℤ pair (schubert_in start m) ψ) sum todo → walked m φ sum todo ≡ pair (schubert_in start m) φ
start_walked m n φ start one sum tables todo none empty is step =
    step.value φ ∙ ap (λ s. walked m φ s tables +ℤ one *ℤ pair (schubert_in start m) φ) none ∙ begun m n φ start one tables empty is
