-- If the partition `inner` has less than half of the cells of `shape`, the terms of the skew Schur polynomial of shape/inner are found without
-- counting tableaux: the coefficient of ν is that of `inner` in the skew Schur polynomial of shape/ν. The lists of these polynomials must have been
-- made before, for the partitions ν before `inner` in the list of all partitions inside `shape`. `ListsExchanged shape inner firsts` holds for the
-- list of the terms of shape/inner with labels in `firsts`.
use Rattle.std.proofs.Common.{◌≡◌, ℕ, ◌+◌, ◌*◌, ◌<◌, ◌≤◌, ◌⊎◌, Bool, true, false, cond, ◌&&◌, List, [], ◌∷◌, ◌++◌, length, take, get_or, refl, sym, ap, ◌∙◌, subst, inl, inr, arith, ℤ, pos, ◌+ℤ◌, ◌^◌}
use Rattle.std.specs.Prelude.{None}
use Rattle.std.specs.declared.cmp.Ordering.TheVariants.{Less}
use Rattle.std.proofs.lemmas.Bool.{and_from, cases_lt, cases_Bool, leb-true}
use Rattle.std.proofs.lemmas.Int.{ints}
use Rattle.std.proofs.lemmas.List.{get_or_default}
use Rattle.fraction_laws.specs.Fractions.{whole}
use Rattle.fraction_laws.proofs.Fractions.{InLowestTerms-whole}
use Rattle.sym_model.specs.Sum.{Among}
use Rattle.sym_model.specs.Partition.{IsPartition, Holds, rows, size}
use Rattle.sym_model.specs.Polynomial.{same, coefficient}
use Rattle.sym_model.specs.Schur.{contains, schur, skew_schur}
use Rattle.sym_model.specs.GoodTableau.{skew_count}
use Rattle.sym_model.specs.PrintedOrder.{printed_order}
use Rattle.sym_model.specs.Canonical.{is_reduced}
use Rattle.sym_model.specs.LabelLimits.{is_label}
use Rattle.sym_model.specs.Expansion.{Fraction}
use Rattle.sym_model.specs.WholeTerms.{WholeTerms, as_fractions}
use Rattle.sym_model.specs.PastLimit.{is_past}
use Rattle.sym_model.proofs.Orders.{printed_order-total}
use Rattle.sym_model.proofs.Exponents.{same_apart, same_from, among_or_not}
use Rattle.sym_model.proofs.Sums.{Among_from_append, Among-append_left, Among-append_right}
use Rattle.sym_model.proofs.Integers.{zero_or_not}
use Rattle.sym_model.specs.Products.{ExpandsInSchurs}
use Rattle.sym_model.specs.PastLimit.{HasPast, IsCoefficientOfSkew}
use Rattle.linear_combinations.specs.Entries.{IsCanonicalList}
use Rattle.linear_combinations.proofs.LowestTerms.{is_reduced-lowest}
use Rattle.linear_combinations.proofs.Ordered.{canonical-append}
use Rattle.strip_laws.proofs.Containment.{contains-tells, contains-from}
use Rattle.alternant_laws.proofs.CountedTerms.{skew_coefficients}
use Rattle.schur_laws.proofs.Duality.{rows_inside}
use Rattle.lr_product.proofs.GoodCounts.{skew_answers}
use Rattle.lr_coproduct.specs.InnerShapeList.{IsInPrintedOrder, ListsShapesInside, IsCountAbove}
use Rattle.lr_coproduct.specs.SkewLists.{IsSkewList, HaveSkewLists}
use Rattle.lr_coproduct.proofs.Prefixes.{IsAt, at_among, at_last, at_same, at_taken, index_in, index_of, take_next, either_at}
use Rattle.lr_coproduct.proofs.Sizes.{behind_small}
use Rattle.lr_coproduct.proofs.SortedShapes.{earlier_before}
use Rattle.lr_coproduct.proofs.Answering.{sum_of_terms}
use Rattle.lr_coproduct.proofs.Lookups.{label_in, not_before}
use Rattle.lr_coproduct.proofs.ExchangedCounts.{skew_exchanged, skew_outside, skew_other_size, listed_coefficient}
use Rattle.lr_product.proofs.Placed.{table_of}
use Rattle.lr_product.proofs.GoodCounts.{no_label}
use Rattle.lr_product.proofs.Partial.{among_taken}

-- `terms` is a canonical list (in the printed order, with no coefficient 0): it has the terms c·ν for the ν in `firsts`, with c the number of lattice
-- tableaux of shape/inner with the content ν, if c is not 0
pub record ListsExchanged (shape inner : List ℕ) (firsts : List (List ℕ)) (terms : WholeTerms) : Type 0 where
  pub canonical : IsCanonicalList printed_order is_label whole terms
  pub labels : (t : List ℕ × ℤ) → Among t terms → Among t.0 firsts
  pub counts : (parts : List ℕ) → Among parts firsts → coefficient terms parts ≡ pos (skew_count shape inner parts)

coefficient_next : (terms : WholeTerms) (label : List ℕ) (c : ℤ) (ν : List ℕ)
    → coefficient (terms ++ (label, c) ∷ []) ν ≡ coefficient terms ν +ℤ cond (same label ν) c (pos 0)
coefficient_next [] label c ν = let z = cond (same label ν) c (pos 0) in omega (arith, ints)
coefficient_next (t ∷ terms) label c ν =
    let r = coefficient_next terms label c ν in
    omega (arith, ints)

apart_from : (inners : List (List ℕ)) (at : ℕ) (second earlier : List ℕ) → IsInPrintedOrder inners → IsAt inners at second → Among earlier (take at inners) → earlier ≡ second → ⊥
apart_from inners at second earlier ordered here m e = not_before earlier second (earlier_before inners at second earlier ordered here m) e

-- if no lattice tableau of shape/inner has the partition at the index `at` as its content, the list `terms` for the first `at` partitions
-- (`ListsExchanged`) is also the one for the first at + 1
pub next_skipped : (shape inner : List ℕ) (inners : List (List ℕ)) (at : ℕ) (second : List ℕ) (terms : WholeTerms) → IsInPrintedOrder inners → IsAt inners at second
    → skew_count shape inner second ≡ 0 → ListsExchanged shape inner (take at inners) terms → ListsExchanged shape inner (take (at + 1) inners) terms
next_skipped shape inner inners at second terms ordered here none l = record {
  canonical = l.canonical;
  labels = λ t m. subst (λ (xs : List (List ℕ)). Among t.0 xs) (sym (take_next inners at second here)) (Among-append_left t.0 (take at inners) (second ∷ []) (l.labels t m));
  counts = λ parts m. either_at (λ (ν : List ℕ). coefficient terms ν ≡ pos (skew_count shape inner ν)) inners at second parts here m
      (no_label terms second (λ t k. apart_from inners at second t.0 ordered here (l.labels t k)) ∙ sym (ap pos none)) (l.counts parts);
}

next_canonical : (shape inner : List ℕ) (inners : List (List ℕ)) (at : ℕ) (second : List ℕ) (c : ℤ) (terms : WholeTerms) → IsInPrintedOrder inners → IsAt inners at second
    → is_label second ≡ true → (c ≡ pos 0 → ⊥) → ListsExchanged shape inner (take at inners) terms → IsCanonicalList printed_order is_label whole (terms ++ (second, c) ∷ [])
next_canonical shape inner inners at second c terms ordered here label other l =
    let reduced = is_reduced-lowest (whole c) (InLowestTerms-whole c) (λ q. other (ap (λ (r : Fraction). r.0) q)) in
    let last : IsCanonicalList printed_order is_label whole ((second, c) ∷ []) = and_from (is_reduced (whole c) && is_label second) true (and_from (is_reduced (whole c)) (is_label second) reduced label) refl in
    canonical-append printed_order is_label whole printed_order-total.trans terms ((second, c) ∷ []) l.canonical last before
  where
    before : (x y : List ℕ × ℤ) → Among x terms → Among y ((second, c) ∷ []) → printed_order x.0 y.0 ≡ Less
    before x y m (inl q) = ap (λ (t : List ℕ × ℤ). printed_order x.0 t.0) q ∙ earlier_before inners at second x.0 ordered here (l.labels x m)
    before x y m (inr k) = absurd k

next_label : (firsts : List (List ℕ)) (second : List ℕ) (c : ℤ) (terms : WholeTerms) → ((t : List ℕ × ℤ) → Among t terms → Among t.0 firsts)
    → (t : List ℕ × ℤ) → Among t terms ⊎ Among t ((second, c) ∷ []) → Among t.0 (firsts ++ (second ∷ []))
next_label firsts second c terms labels t (inl k) = Among-append_left t.0 firsts (second ∷ []) (labels t k)
next_label firsts second c terms labels t (inr (inl q)) = Among-append_right t.0 firsts (second ∷ []) (inl (ap (λ (u : List ℕ × ℤ). u.0) q))
next_label firsts second c terms labels t (inr (inr k)) = absurd k

count_here : (terms : WholeTerms) (second : List ℕ) (c : ℤ) → coefficient terms second ≡ pos 0 → coefficient (terms ++ (second, c) ∷ []) second ≡ c
count_here terms second c none =
    let a = coefficient_next terms second c second in
    let d : cond (same second second) c (pos 0) ≡ c = ap (λ (b : Bool). cond b c (pos 0)) (same_from second second refl) in
    omega (arith, ints)

count_earlier : (terms : WholeTerms) (second : List ℕ) (c : ℤ) (parts : List ℕ) → (second ≡ parts → ⊥) → coefficient (terms ++ (second, c) ∷ []) parts ≡ coefficient terms parts
count_earlier terms second c parts apart =
    let a = coefficient_next terms second c parts in
    let d : cond (same second parts) c (pos 0) ≡ pos 0 = ap (λ (b : Bool). cond b c (pos 0)) (same_apart second parts apart) in
    omega (arith, ints)

next_exchanged : (shape inner : List ℕ) (inners : List (List ℕ)) (at : ℕ) (second : List ℕ) (c : ℤ) (terms new : WholeTerms) → IsInPrintedOrder inners → IsAt inners at second
    → is_label second ≡ true → c ≡ pos (skew_count shape inner second) → (c ≡ pos 0 → ⊥) → new ≡ terms ++ (second, c) ∷ []
    → ListsExchanged shape inner (take at inners) terms → ListsExchanged shape inner (take (at + 1) inners) new
next_exchanged shape inner inners at second c terms new ordered here label is other e l =
    subst (ListsExchanged shape inner (take (at + 1) inners)) (sym e) (record {
      canonical = next_canonical shape inner inners at second c terms ordered here label other l;
      labels = λ t m. subst (λ (xs : List (List ℕ)). Among t.0 xs) (sym (take_next inners at second here))
          (next_label (take at inners) second c terms l.labels t (Among_from_append t terms ((second, c) ∷ []) m));
      counts = λ parts m. either_at (λ (ν : List ℕ). coefficient (terms ++ (second, c) ∷ []) ν ≡ pos (skew_count shape inner ν)) inners at second parts here m
          (count_here terms second c (no_label terms second (λ t k. apart_from inners at second t.0 ordered here (l.labels t k))) ∙ is)
          (λ k. count_earlier terms second c parts (λ q. apart_from inners at second parts ordered here k (sym q)) ∙ l.counts parts k);
    })

-- if `terms` is the list for the first `at` partitions (`ListsExchanged`), and the partition ν at the index `at` is the content of c lattice tableaux
-- of shape/inner, then `terms`, with c·ν appended unless c = 0, is the list for the first at + 1
pub next_either : (shape inner : List ℕ) (inners : List (List ℕ)) (at : ℕ) (second : List ℕ) (c : ℤ) (terms new : WholeTerms) → IsInPrintedOrder inners → IsAt inners at second
    → is_label second ≡ true → c ≡ pos (skew_count shape inner second) → (c ≡ pos 0 → new ≡ terms) → ((c ≡ pos 0 → ⊥) → new ≡ terms ++ (second, c) ∷ [])
    → ListsExchanged shape inner (take at inners) terms → ListsExchanged shape inner (take (at + 1) inners) new
next_either shape inner inners at second c terms new ordered here label is none one l = by (zero_or_not c)
  where
    by : (c ≡ pos 0) ⊎ (c ≡ pos 0 → ⊥) → ListsExchanged shape inner (take (at + 1) inners) new
    by (inl e) =
        subst (ListsExchanged shape inner (take (at + 1) inners)) (sym (none e))
        (next_skipped shape inner inners at second terms ordered here (let z : pos (skew_count shape inner second) ≡ pos 0 = sym is ∙ e in omega (arith, ints)) l)
    by (inr d) = next_exchanged shape inner inners at second c terms new ordered here label is d (one d) l

zero_unless_taken : (shape inner : List ℕ) (inners : List (List ℕ)) (at : ℕ) (ν : List ℕ) → IsPartition shape → ListsShapesInside shape inners → Among inner inners
    → ((i : ℕ) (x : List ℕ) → IsAt inners i x → at ≤ i → size inner + size x ≡ size shape → ⊥)
    → IsPartition ν → rows ν ≤ rows shape → (Among ν (take at inners) → ⊥) → skew_count shape inner ν ≡ 0
zero_unless_taken shape inner inners at ν o listed there later p few not_taken = by (cases_Bool (contains shape ν))
  where
    i : IsPartition inner
    i = listed.partitions inner there

    holds : contains shape inner ≡ true
    holds = contains-from shape inner (listed.inside inner there)

    other : (k : ℕ) → IsAt inners k ν → size inner + size ν ≡ size shape → (k < at) ⊎ (at ≤ k) → ⊥
    other k here s (inl l) = not_taken (at_taken inners k at ν here l)
    other k here s (inr l) = later k ν here l s

    by : (contains shape ν ≡ true) ⊎ (contains shape ν ≡ false) → skew_count shape inner ν ≡ 0
    by (inr e) = skew_outside shape inner ν o i p holds few e
    by (inl e) =
        let r = index_in inners ν (listed.all ν p (contains-tells shape ν e)) in
        skew_other_size shape inner ν o i p holds few (λ s. other r.0 r.1 s (cases_lt r.0 at))

pub exchanged_meets : (shape inner : List ℕ) (inners : List (List ℕ)) (at : ℕ) (terms : WholeTerms) → IsPartition shape → ListsShapesInside shape inners → Among inner inners
    → ((i : ℕ) (x : List ℕ) → IsAt inners i x → at ≤ i → size inner + size x ≡ size shape → ⊥)
    → ListsExchanged shape inner (take at inners) terms → ExpandsInSchurs None (skew_schur shape inner) (as_fractions terms)
exchanged_meets shape inner inners at terms o listed there later l =
    skew_answers None (rows shape) shape inner terms refl o (listed.partitions inner there) (contains-from shape inner (listed.inside inner there)) (record {
      table = table_of terms l.canonical;
      labels = λ t k. label t (among_taken at inners t.0 (l.labels t k));
      counts = λ parts p few. count parts p few (among_or_not parts (take at inners));
    })
  where
    label : (t : List ℕ × ℤ) → Among t.0 inners → IsPartition t.0 × (rows t.0 ≤ rows shape)
    label t k = let p = listed.partitions t.0 k in (p, rows_inside shape t.0 p (contains-from shape t.0 (listed.inside t.0 k)))

    count : (parts : List ℕ) → IsPartition parts → rows parts ≤ rows shape → Among parts (take at inners) ⊎ (Among parts (take at inners) → ⊥) → coefficient terms parts ≡ pos (skew_count shape inner parts)
    count parts p few (inl k) = l.counts parts k
    count parts p few (inr n) =
        no_label terms parts (λ t k e. n (subst (λ (ν : List ℕ). Among ν (take at inners)) e (l.labels t k)))
        ∙ sym (ap pos (zero_unless_taken shape inner inners at parts o listed there later p few n))

-- if the list expands the skew Schur polynomial of shape/second, the coefficient of `inner` in it is the number of lattice tableaux of shape/second
-- with the content `inner`
pub listed_count : (shape second inner : List ℕ) (list : WholeTerms) → IsPartition shape → IsPartition inner → IsPartition second → Holds shape second
    → IsCanonicalList printed_order is_label whole list → ExpandsInSchurs None (skew_schur shape second) (as_fractions list)
    → coefficient list inner ≡ pos (skew_count shape second inner)
listed_count shape second inner list o i s k canonical meets =
    let n = rows inner in
    listed_coefficient n list (skew_schur shape second n) inner (label_in list canonical) (sum_of_terms (λ (label : List ℕ). schur label n) list (skew_schur shape second n) (meets n)) i (omega arith)
    ∙ skew_coefficients n shape second inner o s (contains-from shape second k) i (omega arith)

-- if the list expands the skew Schur polynomial of shape/second, and inner and second lie inside shape, the coefficient of `inner` in it is the
-- number of lattice tableaux of shape/inner with the content `second`
pub exchanged_term : (shape inner second : List ℕ) (list : WholeTerms) (c : ℤ) → IsPartition shape → IsPartition inner → IsPartition second → Holds shape inner → Holds shape second
    → IsCanonicalList printed_order is_label whole list → ExpandsInSchurs None (skew_schur shape second) (as_fractions list) → c ≡ coefficient list inner
    → c ≡ pos (skew_count shape inner second)
exchanged_term shape inner second list c o i s h k canonical meets e =
    e
    ∙ listed_count shape second inner list o i s k canonical meets
    ∙ ap pos (skew_exchanged shape second inner o s i (contains-from shape second k) (contains-from shape inner h))

-- if 2·|inner| < |shape|, and the skew Schur polynomials of shape/second, for the partitions `second` before `inner`, have no coefficient of 2^127 or
-- more, neither has that of shape/inner
pub exchanged_fits : (shape inner : List ℕ) (inners : List (List ℕ)) (m : ℕ) → IsPartition shape → ListsShapesInside shape inners → IsAt inners m inner → 2 * size inner < size shape
    → ((second : List ℕ) → Among second (take m inners) → HasPast (IsCoefficientOfSkew None shape second) → ⊥) → HasPast (IsCoefficientOfSkew None shape inner) → ⊥
exchanged_fits shape inner inners m o listed at small fit (c, d, past) = by (among_or_not d.parts (take m inners))
  where
    there : Among inner inners
    there = at_among inners m inner at

    i : IsPartition inner
    i = listed.partitions inner there

    holds : contains shape inner ≡ true
    holds = contains-from shape inner (listed.inside inner there)

    count : c ≡ pos (skew_count shape inner d.parts)
    count = d.is ∙ skew_coefficients (rows shape) shape inner d.parts o i holds d.partition d.within

    by : Among d.parts (take m inners) ⊎ (Among d.parts (take m inners) → ⊥) → ⊥
    by (inr n) =
        let none = zero_unless_taken shape inner inners m d.parts o listed there (behind_small (size shape) inners m inner listed.ordered at small) d.partition d.within n in
        let big = leb-true (2 ^ 127) (skew_count shape inner d.parts) (sym (ap is_past count) ∙ past) in
        absurd (omega arith)
    by (inl k) =
        let has = contains-from shape d.parts (listed.inside d.parts (among_taken m inners d.parts k)) in
        fit d.parts k (
          c,
          record {
            parts = inner;
            partition = i;
            within = rows_inside shape inner i holds;
            is = count ∙ ap pos (skew_exchanged shape inner d.parts o i d.partition holds has) ∙ sym (skew_coefficients (rows shape) shape d.parts inner o d.partition has i (rows_inside shape inner i holds));
          },
          past,
        )

pub lists_next : (shape : List ℕ) (inners : List (List ℕ)) (lists new : List WholeTerms) (inner : List ℕ) (list : WholeTerms) → IsAt inners (length lists) inner
    → IsSkewList shape inner list → new ≡ lists ++ list ∷ [] → HaveSkewLists shape inners lists → HaveSkewLists shape inners new
lists_next shape inners lists new inner list here is e have =
    subst (HaveSkewLists shape inners) (sym e) (record { at_index = λ i x l a b. by i x l a (at_last lists list i l b) })
  where
    by : (i : ℕ) (x : List ℕ) (l : WholeTerms) → IsAt inners i x → IsAt lists i l ⊎ ((i ≡ length lists) × (l ≡ list)) → IsSkewList shape x l
    by i x l a (inl k) = have.at_index i x l a k
    by i x l a (inr k) =
        let same_inner : x ≡ inner = at_same inners (length lists) x inner (subst (λ (j : ℕ). IsAt inners j x) k.0 a) here in
        subst (λ (y : List ℕ). IsSkewList shape y l) (sym same_inner) (subst (IsSkewList shape inner) (sym k.1) is)

pub listed_fits : (shape : List ℕ) (inners : List (List ℕ)) (lists : List WholeTerms) → HaveSkewLists shape inners lists
    → (second : List ℕ) → Among second (take (length lists) inners) → HasPast (IsCoefficientOfSkew None shape second) → ⊥
listed_fits shape inners lists have second m =
    let r = index_of inners (length lists) second m in
    let list = get_or lists r.0 [] in
    (have.at_index r.0 second list r.2 (record { within = r.1; is = get_or_default lists r.0 [] list r.1 })).fits

-- if |shape| ≤ |inner| + cells, none of the first `count` partitions, which have more than `cells` cells, is the content of a lattice tableau of
-- shape/inner
pub front_exchanged : (shape inner : List ℕ) (inners : List (List ℕ)) (m cells count : ℕ) → IsPartition shape → ListsShapesInside shape inners → IsAt inners m inner → IsCountAbove inners cells count
    → size shape ≤ size inner + cells → ListsExchanged shape inner (take count inners) []
front_exchanged shape inner inners m cells count o listed here above l = record {
  canonical = refl;
  labels = λ t k. absurd k;
  counts = λ parts k. sym (ap pos (none parts k));
}
  where
    none : (parts : List ℕ) → Among parts (take count inners) → skew_count shape inner parts ≡ 0
    none parts k =
        let a = at_among inners m inner here in
        let b = among_taken count inners parts k in
        let s = listed.partitions parts b in
        let r = index_of inners count parts k in
        let great = above.before r.0 parts r.2 r.1 in
        skew_other_size shape inner parts o (listed.partitions inner a) s (contains-from shape inner (listed.inside inner a)) (rows_inside shape parts s (contains-from shape parts (listed.inside parts b))) (λ e. absurd (omega arith))

pub next_term : (shape inner : List ℕ) (inners : List (List ℕ)) (lists : List WholeTerms) (at : ℕ) (second : List ℕ) (list : WholeTerms) (c : ℤ) (terms new : WholeTerms)
    → IsPartition shape → ListsShapesInside shape inners → IsAt inners (length lists) inner → HaveSkewLists shape inners lists → IsAt inners at second → IsAt lists at list
    → IsCanonicalList printed_order is_label whole list → c ≡ coefficient list inner
    → (c ≡ pos 0 → new ≡ terms) → ((c ≡ pos 0 → ⊥) → new ≡ terms ++ (second, c) ∷ [])
    → ListsExchanged shape inner (take at inners) terms → ListsExchanged shape inner (take (at + 1) inners) new
next_term shape inner inners lists at second list c terms new o listed here have there has canonical is none one l =
    let a = at_among inners (length lists) inner here in
    let b = at_among inners at second there in
    next_either shape inner inners at second c terms new listed.ordered there (listed.labels second b)
    (exchanged_term shape inner second list c o (listed.partitions inner a) (listed.partitions second b) (listed.inside inner a) (listed.inside second b) canonical (have.at_index at second list there has).meets is)
    none one l
