-- Lemmas on the summands of a row of a diagram: on tables that gain terms up to those at which a function is 0 (`GainsExcept`), and on the value of a
-- row (`times_rows`, `one_row`) at permutations that are written without fixed letters at the end.
use Rattle.std.proofs.Common.{◌≡◌, ℕ, suc, ◌+◌, ◌-◌, ◌<◌, ◌≤◌, true, cond, List, [], ◌∷◌, ◌++◌, length, take, get_or, refl, sym, ap, ap₂, ◌∙◌, subst, inl, inr, arith, append-nil, ℤ, pos, negsuc, ◌+ℤ◌, ◌*ℤ◌}
use Rattle.std.specs.Prelude.{nat_abs, neg_ℤ, nat_eq, nat_lt, nat_le, flat_map}
use Rattle.std.specs.Cmp.Lexicographic.{pointwise, nat_list_eq_equiv}
use Rattle.std.proofs.lemmas.Bool.{and_parts, ltb-true}
use Rattle.std.proofs.lemmas.Int.{ints}
use Rattle.fraction_laws.specs.Fractions.{whole}
use Rattle.sym_model.specs.Sum.{Among, total}
use Rattle.sym_model.specs.LabelLimits.{is_permutation_label}
use Rattle.sym_model.specs.PlaceOrders.{minus_one_to}
use Rattle.sym_model.specs.Permutation.{IsOneLine, covers_among, covers_down, kept, times_swap, with_fixed}
use Rattle.sym_model.specs.Polynomial.{Poly, In, nothing, one, pair, plus, negate, same, scale, times, join}
use Rattle.sym_model.specs.WholeTerms.{HaveLabels, WholeTerms}
use Rattle.sym_model.proofs.Exponents.{same_true}
use Rattle.sym_model.proofs.PolynomialLaws.{one-times, pair_times_comm}
use Rattle.sym_model.proofs.Polynomials.{In_restrict, In_times, pair_determined, pair_each, pair_negate, pair_plus, pair_scale, pair_times}
use Rattle.sym_model.proofs.Ring.{distributes_left, one-product, product-one, product_assoc, product_left_comm}
use Rattle.sym_model.proofs.Integers.{product-neg_one}
use Rattle.sym_model.proofs.Sums.{Among-append_left, Among-append_right, total_add, total_append, total_among, total_map, total_scale}
use Rattle.schubert_laws.specs.Chains.{elementary_in, letters_before}
use Rattle.schubert_laws.specs.PathCovers.{covers_after, covers_before}
use Rattle.schubert_laws.specs.ShortPermutations.{IsShort}
use Rattle.schubert_laws.proofs.ChainSums.{place_below}
use Rattle.schubert_laws.proofs.PermutationLabels.{label_one_line}
use Rattle.double_schubert_laws.specs.DiagramRows.{AreWithin, HasLeftAscent, one_row, times_rows}
use Rattle.double_schubert_laws.proofs.KeptChains.{before_kept, after_kept, before_short, after_short, place_kept}
use Rattle.double_schubert_laws.proofs.RowsFromOne.{next_row, rows_none, row_within}
use Rattle.perm_codes.proofs.WithinLimits.{length-with_fixed, short_fixed}
use Rattle.linear_combinations.proofs.Labels.{same_partition}
use Rattle.linear_combinations.proofs.Totals.{term-among}
use Rattle.linear_combinations.specs.Gains.{Gains, only, over, each_with, replaced, scaled}
use Rattle.linear_combinations.proofs.Gains.{each_append, each_over, over_append, over_only_within, replaced_append, replaced_over, scaled_append}
use Rattle.linear_combinations.proofs.Masses.{label_held, labels_gained, scaled_each}
use Rattle.linear_combinations.proofs.LabelTests.{equal_from}
use Rattle.monk_product.specs.Monk.{IsPermutationTable}
use Rattle.monk_product.specs.RowProducts.{IsNullAt, GainsExcept, covers_to, row_value, signed_covers, sum_over}
use Rattle.monk_product.specs.declared.row_summands.Summand.{Summand}
use Rattle.monk_product.proofs.ShortCovers.{found, next, rest}
use lib.IntN.{+ℤ_idr, *ℤ-zero}

-- ---- permutations of at most n letters

pub label_short : (n : ℕ) (w : List ℕ) → is_permutation_label w ≡ true → length w ≤ n → IsShort n w
label_short n w h l =
    let a = and_parts _ (nat_le (length w) 255) h in
    let b = and_parts _ (same (kept w) w) a.0 in
    let c = and_parts _ (nat_lt 0 (length w)) b.0 in
    record { one_line = label_one_line w h; short = l; some = ltb-true 0 (length w) c.1; whole = same_true (kept w) w b.1 }

one_among : (w : List ℕ) (f : ℕ → List ℕ) (start k l q : ℕ) (v : List ℕ) → start + k + 1 ≡ q → k < l → Among v (covers_among w (f q ∷ [])) → Among v (found w f start l)
one_among w f start k l q v e h m =
    let z : k + 1 + (l - (k + 1)) ≡ l = omega arith in
    subst (λ x. Among v (found w f start x)) z
    (subst (Among v) (sym (rest w f start (k + 1) (l - (k + 1))))
    (Among-append_left v (found w f start (k + 1)) (found w f (start + (k + 1)) (l - (k + 1)))
    (subst (Among v) (sym (next w f start k q e)) (Among-append_right v (found w f start k) (covers_among w (f q ∷ [])) m))))

-- a cover that exchanges the letters at two places, counted from 0
pub cover_before_short : (n place other : ℕ) (w v : List ℕ) (covers : List (List ℕ)) → IsShort n w → place < n → other < place
    → covers ≡ covers_among w (times_swap (other + 1) (place + 1) w ∷ []) → Among v covers → IsShort n v
cover_before_short n place other w v covers s h l e m =
    before_short (place + 1) n w v s (omega arith) (omega arith)
    (one_among w (λ i. times_swap i (place + 1) w) 0 other (place + 1 - 1) (other + 1) v (omega arith) (omega arith) (subst (Among v) e m))

pub cover_after_short : (n place other : ℕ) (w v : List ℕ) (covers : List (List ℕ)) → IsShort n w → place < other → other < n
    → covers ≡ covers_among w (times_swap (place + 1) (other + 1) w ∷ []) → Among v covers → IsShort n v
cover_after_short n place other w v covers s h l e m =
    after_short (place + 1) n w v s (omega arith) (omega arith)
    (one_among w (λ b. times_swap (place + 1) b w) (place + 1) (other - (place + 1)) (n - (place + 1)) (other + 1) v (omega arith) (omega arith) (subst (Among v) e m))

pub length_fixed : (n : ℕ) (w : List ℕ) → length w ≤ n → length (with_fixed n w) ≡ n
length_fixed n w l = let e = length-with_fixed n w in omega arith

pub fixed_one_line : (n : ℕ) (w : List ℕ) → n ≤ 255 → IsShort n w → IsOneLine (with_fixed n w)
fixed_one_line n w l s =
    let m = s.short in
    (short_fixed n w l (record { kept = record { one_line = s.one_line; some = s.some; unfixed = s.whole }; few = omega arith })).one_line

pub place_inside : (n m : ℕ) (w : List ℕ) → n ≤ 255 → IsShort n w → 1 ≤ m → m ≤ n → letters_before m (with_fixed n w) < n
place_inside n m w l s h k =
    let e = length_fixed n w s.short in
    let p = place_below m (with_fixed n w) (fixed_one_line n w l s) h (omega arith) in
    omega arith

-- the place of a letter, counted from 0, with and without fixed letters after the first n
pub place_at : (n m place : ℕ) (w : List ℕ) → IsShort n w → 1 ≤ m → m ≤ n → n ≤ 32 → place ≡ letters_before m (with_fixed 32 w)
    → (place ≡ letters_before m (with_fixed n w)) × (place < n)
place_at n m place w s h k l e =
    let f : place ≡ letters_before m (with_fixed n w) = e ∙ place_kept m n 32 w s l h k in
    let p = place_inside n m w (omega arith) s h k in
    (f, omega arith)

pub ascent_at : (m n : ℕ) (w : List ℕ) → IsShort n w → m ≤ n → n ≤ 32 → HasLeftAscent m (with_fixed 32 w) → HasLeftAscent m (with_fixed n w)
ascent_at m n w s l k h =
    let f = h.first in
    let g = h.last in
    let o = h.order in
    let a = place_kept h.letter n 32 w s k f (omega arith) in
    let b = place_kept (suc h.letter) n 32 w s k (omega arith) (omega arith) in
    record { letter = h.letter; first = f; last = g; order = omega arith }

-- ---- tables

module _ (n m : ℕ) where
  pub except_both : (old g mid h new : WholeTerms) → GainsExcept n m old g mid → GainsExcept n m mid h new → GainsExcept n m old (g ++ h) new
  except_both old g mid h new a b = record {
    sums = λ f z. let x = a.sums f z in let y = b.sums f z in let s = over_append f g h in omega (arith, ints);
    short = b.short;
  }

  pub except_none : (old : WholeTerms) → HaveLabels (IsShort n) old → GainsExcept n m old [] old
  except_none old s = record { sums = λ f z. sym (+ℤ_idr (over f old)); short = s }

  pub except_added : (c : ℤ) (v : List ℕ) (old new : WholeTerms) → Gains old ((v, c) ∷ []) new → IsPermutationTable new → HaveLabels (IsShort n) old → IsShort n v
      → GainsExcept n m old ((v, c) ∷ []) new
  except_added c v old new g is was s = record {
    sums = λ f z. g.sums f;
    short = labels_gained nat_list_eq_equiv same_partition old ((v, c) ∷ []) new is g (IsShort n) was
        (λ t k. elim k [ inl e ↦ subst (IsShort n) (sym (ap (λ (u : List ℕ × ℤ). u.0) e)) s | inr j ↦ absurd j ]);
  }

  pub except_dropped : (c : ℤ) (v : List ℕ) (old : WholeTerms) → HaveLabels (IsShort n) old → IsShort n v → HasLeftAscent m (with_fixed n v)
      → GainsExcept n m old ((v, c) ∷ []) old
  except_dropped c v old was s h = record {
    sums = λ f z. let p : c *ℤ f v ≡ pos 0 = ap (λ x. c *ℤ x) (z v s h) ∙ *ℤ-zero c in omega (arith, ints);
    short = was;
  }

  pub one_more_except : (c : ℤ) (w : List ℕ) (f : ℕ → List ℕ) (start k l q : ℕ) (slice : List (List ℕ)) (old cur new : WholeTerms)
      → start + k + 1 ≡ q → k + 1 ≡ l → slice ≡ covers_among w (f q ∷ [])
      → GainsExcept n m old (each_with c (found w f start k)) cur → GainsExcept n m cur (each_with c slice) new
      → GainsExcept n m old (each_with c (found w f start l)) new
  one_more_except c w f start k l q slice old cur new e h s so_far more =
      subst (λ x. GainsExcept n m old x new)
      (sym (each_append c (found w f start k) slice)
      ∙ ap (each_with c) (ap (λ x. found w f start k ++ x) s ∙ sym (next w f start k q e) ∙ ap (found w f start) h))
      (except_both old (each_with c (found w f start k)) cur (each_with c slice) new so_far more)

  module _ (image : List ℕ → WholeTerms) where
    pub term_more : (done : WholeTerms) (p : List ℕ × ℤ) (all : WholeTerms) (old cur new : WholeTerms) → done ++ p ∷ [] ≡ all
        → GainsExcept n m old (replaced image done) cur → GainsExcept n m cur (scaled p.1 (image p.0)) new → GainsExcept n m old (replaced image all) new
    term_more done p all old cur new e a b =
        subst (λ x. GainsExcept n m old x new)
        (ap (λ x. replaced image done ++ x) (sym (append-nil (scaled p.1 (image p.0)))) ∙ sym (replaced_append image done (p ∷ [])) ∙ ap (replaced image) e)
        (except_both old (replaced image done) cur (scaled p.1 (image p.0)) new a b)

pub signed_scaled : (n m : ℕ) (c : ℤ) (w : List ℕ) (r : ℕ) → r ≡ letters_before m (with_fixed n w) + 1
    → each_with c (covers_down r w) ++ each_with (neg_ℤ c) (covers_to n r w) ≡ scaled c (signed_covers n m w)
signed_scaled n m c w r e =
    ap (λ q. each_with c (covers_down q w) ++ each_with (neg_ℤ c) (covers_to n q w)) e
    ∙ sym (scaled_append c (each_with (pos 1) (covers_down (letters_before m (with_fixed n w) + 1) w)) (each_with (negsuc 0) (covers_to n (letters_before m (with_fixed n w) + 1) w))
    ∙ ap₂ (λ x y. x ++ y)
    (scaled_each c (pos 1) (covers_down (letters_before m (with_fixed n w) + 1) w)
    ∙ ap (λ z. each_with z (covers_down (letters_before m (with_fixed n w) + 1) w)) (product-one c))
    (scaled_each c (negsuc 0) (covers_to n (letters_before m (with_fixed n w) + 1) w)
    ∙ ap (λ z. each_with z (covers_to n (letters_before m (with_fixed n w) + 1) w)) (product-neg_one c)))

-- a linear combination of functions, summed over the terms of a list
pub over_both : (terms : WholeTerms) (a : ℤ) (f g h : List ℕ → ℤ) → ((t : List ℕ × ℤ) → Among t terms → f t.0 ≡ a *ℤ g t.0 +ℤ h t.0)
    → over f terms ≡ a *ℤ over g terms +ℤ over h terms
over_both terms a f g h e =
    total_among (λ (t : List ℕ × ℤ). t.1 *ℤ f t.0) (λ (t : List ℕ × ℤ). a *ℤ (t.1 *ℤ g t.0) +ℤ t.1 *ℤ h t.0) terms
    (λ t m. ap (λ x. t.1 *ℤ x) (e t m) ∙ distributes_left t.1 (a *ℤ g t.0) (h t.0) ∙ ap (λ x. x +ℤ t.1 *ℤ h t.0) (product_left_comm t.1 a (g t.0)))
    ∙ total_add (λ (t : List ℕ × ℤ). a *ℤ (t.1 *ℤ g t.0)) (λ (t : List ℕ × ℤ). t.1 *ℤ h t.0) terms
    ∙ ap (λ x. x +ℤ over h terms) (total_scale a (λ (t : List ℕ × ℤ). t.1 *ℤ g t.0) terms)

first_label : (q : List ℕ) (new : WholeTerms) → Gains [] ((q, pos 1) ∷ []) new → IsPermutationTable new → is_permutation_label q ≡ true
first_label q new g is =
    let o : over (only (pointwise nat_eq) q) new ≡ pos 1 =
    g.sums (only (pointwise nat_eq) q) ∙ ap (λ t. pos 0 +ℤ (pos 1 *ℤ cond t (pos 1) (pos 0) +ℤ pos 0)) (equal_from q q refl) in
    let a = ap nat_abs o in
    let b = over_only_within (pointwise nat_eq) q new in
    label_held (pointwise nat_eq) same_partition (λ x. is_permutation_label x ≡ true) new q
    (λ t m. (and_parts _ (is_permutation_label t.0) (term-among is_permutation_label whole new is.proper t m)).1) (omega arith)

-- a table to which one permutation has been added with the coefficient 1
pub first_terms : (n : ℕ) (q label : List ℕ) (c : ℤ) (old new : WholeTerms) → length q ≤ n → label ≡ q → c ≡ pos 1 → old ≡ []
    → Gains old ((label, c) ∷ []) new → IsPermutationTable new → Gains [] ((q, pos 1) ∷ []) new × IsShort n q × HaveLabels (IsShort n) new
first_terms n q label c old new l e one none g is =
    let first : Gains [] ((q, pos 1) ∷ []) new = subst (λ x. Gains x ((q, pos 1) ∷ []) new) none (subst (λ x. Gains old ((q, x) ∷ []) new) one (subst (λ x. Gains old ((x, c) ∷ []) new) e g)) in
    let s = label_short n q (first_label q new first is) l in
    (first, s, (except_added n 0 (pos 1) q [] new first is (λ t m. absurd m) s).short)

-- ---- summands

module _ (f : ℕ → List ℕ → ℤ) (d : ℕ) (old : ℤ) (xs : List Summand) (done : WholeTerms) (p : List ℕ × ℤ) (all : WholeTerms)
    (pushed : done ++ p ∷ [] ≡ all) (so_far : sum_over f xs ≡ old +ℤ minus_one_to d *ℤ over (f d) done) where
  next_term : over (f d) all ≡ over (f d) done +ℤ p.1 *ℤ f d p.0
  next_term =
      ap (over (f d)) (sym pushed) ∙ over_append (f d) done (p ∷ [])
      ∙ ap (λ x. over (f d) done +ℤ x) (+ℤ_idr (p.1 *ℤ f d p.0))

  pub summand_more : (x : Summand) (new : List Summand) → x.degree ≡ d → x.perm ≡ p.0 → x.coefficient ≡ minus_one_to d *ℤ p.1 → new ≡ xs ++ x ∷ []
      → sum_over f new ≡ old +ℤ minus_one_to d *ℤ over (f d) all
  summand_more x new a b e g =
      let q : x.coefficient *ℤ f x.degree x.perm ≡ minus_one_to d *ℤ (p.1 *ℤ f d p.0) =
      ap₂ ◌*ℤ◌ e (ap₂ f a b) ∙ product_assoc (minus_one_to d) p.1 (f d p.0) in
      let u : minus_one_to d *ℤ over (f d) all ≡ minus_one_to d *ℤ over (f d) done +ℤ minus_one_to d *ℤ (p.1 *ℤ f d p.0) =
      ap (λ z. minus_one_to d *ℤ z) next_term ∙ distributes_left (minus_one_to d) (over (f d) done) (p.1 *ℤ f d p.0) in
      let v : sum_over f new ≡ sum_over f xs +ℤ (x.coefficient *ℤ f x.degree x.perm +ℤ pos 0) =
      ap (sum_over f) g ∙ total_append (λ (y : Summand). y.coefficient *ℤ f y.degree y.perm) xs (x ∷ []) in
      omega (arith, ints)

  pub summand_less : f d p.0 ≡ pos 0 → sum_over f xs ≡ old +ℤ minus_one_to d *ℤ over (f d) all
  summand_less z =
      let e : p.1 *ℤ f d p.0 ≡ pos 0 = ap (λ x. p.1 *ℤ x) z ∙ *ℤ-zero p.1 in
      let g : over (f d) all ≡ over (f d) done = next_term ∙ ap (λ x. over (f d) done +ℤ x) e ∙ +ℤ_idr (over (f d) done) in
      so_far ∙ ap (λ x. old +ℤ minus_one_to d *ℤ x) (sym g)

-- ---- rows

module _ (n i : ℕ) (rows : List ℕ) (few : n ≤ 255) (inside : i < n) (within : AreWithin n rows) (k : ℕ) (s : Poly) (φ : List ℕ → ℤ) (in_k : In k s) where
  abbrev before : List ℕ → Poly
  before q = times_rows k s (take i rows) q

  abbrev pub partial : ℕ → ℕ → List ℕ → ℤ
  partial e c v = pair (one_row e c (n - i) k (times_rows k s (take i rows)) (with_fixed n v)) φ

  within_at : (v : List ℕ) → length v ≤ n → AreWithin (length (with_fixed n v)) rows
  within_at v l = subst (λ x. AreWithin x rows) (sym (length_fixed n v l)) within

  pub row_starts : (v : List ℕ) → IsShort n v → pair (times_rows k s (take (i + 1) rows) (with_fixed n v)) φ ≡ partial (get_or rows i 0) (get_or rows i 0) v
  row_starts v h =
      let e = length_fixed n v h.short in
      pair_determined (times_rows k s (take (i + 1) rows) (with_fixed n v)) _ φ
      (next_row k i s rows (with_fixed n v) in_k (fixed_one_line n v few h) (within_at v h.short) (omega arith))
      ∙ ap (λ x. pair (one_row (get_or rows i 0) (get_or rows i 0) (x - i) k (times_rows k s (take i rows)) (with_fixed n v)) φ) e

  pub value_null : (d : ℕ) → IsNullAt n (n - i) (row_value n i rows k s φ d)
  value_null d v h a =
      let e = length_fixed n v h.short in
      pair_times_comm (elementary_in d (get_or rows i 0) k) (before (with_fixed n v)) φ
      ∙ pair_times (before (with_fixed n v)) (elementary_in d (get_or rows i 0) k) φ
      ∙ pair_determined (before (with_fixed n v)) nothing (λ α. pair (elementary_in d (get_or rows i 0) k) (λ β. φ (join α β)))
      (rows_none k i s rows (with_fixed n v) (fixed_one_line n v few h) (within_at v h.short) (omega arith)
      (subst (λ x. HasLeftAscent (x - i) (with_fixed n v)) (sym e) a))

  pub partial_null : (e c : ℕ) → IsNullAt n (n - i - 1) (partial e c)
  partial_null e c v h a =
      let l = length_fixed n v h.short in
      let m : n - i - 1 ≡ length (with_fixed n v) - (i + 1) = omega arith in
      ap (λ x. pair (one_row e c (x - i) k (times_rows k s (take i rows)) (with_fixed n v)) φ) (sym l)
      ∙ pair_determined (one_row e c (length (with_fixed n v) - i) k (times_rows k s (take i rows)) (with_fixed n v)) nothing φ
      (row_within e c k i s rows (with_fixed n v) in_k (fixed_one_line n v few h) (within_at v h.short) (omega arith)
      (subst (λ x. HasLeftAscent x (with_fixed n v)) m a))

  pub partial_none : (c : ℕ) (v : List ℕ) → partial 0 c v ≡ row_value n i rows k s φ 0 v
  partial_none c v =
      sym (pair_determined (times (one k) (before (with_fixed n v))) (before (with_fixed n v)) φ
      (one-times k (before (with_fixed n v)) (In_times k s _ in_k (In_restrict k _))))

  over_signed : (f : List ℕ → ℤ) (v : List ℕ) → over f (signed_covers n (n - i) v)
      ≡ total f (covers_down (letters_before (n - i) (with_fixed n v) + 1) v) +ℤ neg_ℤ (total f (covers_to n (letters_before (n - i) (with_fixed n v) + 1) v))
  over_signed f v =
      let down = covers_down (letters_before (n - i) (with_fixed n v) + 1) v in
      let up = covers_to n (letters_before (n - i) (with_fixed n v) + 1) v in
      let a = over_append f (each_with (pos 1) down) (each_with (negsuc 0) up) in
      let b = each_over (pos 1) f down in
      let d = each_over (negsuc 0) f up in
      omega (arith, ints)

  pub partial_step : (e c : ℕ) (v : List ℕ) → IsShort n v → c ≡ get_or rows i 0
      → partial (suc e) c v ≡ minus_one_to (suc e) *ℤ row_value n i rows k s φ (suc e) v +ℤ over (partial e c) (signed_covers n (n - i) v)
  partial_step e c v h g =
      let q = with_fixed n v in
      let r = letters_before (n - i) (with_fixed n v) + 1 in
      let R = one_row e c (n - i) k (times_rows k s (take i rows)) in
      let p = place_inside n (n - i) v few h (omega arith) (omega arith) in
      let first : pair (scale (minus_one_to (suc e)) (times (elementary_in (suc e) c k) (before q))) φ ≡ minus_one_to (suc e) *ℤ row_value n i rows k s φ (suc e) v =
      pair_scale (minus_one_to (suc e)) (times (elementary_in (suc e) c k) (before q)) φ
      ∙ ap (λ x. minus_one_to (suc e) *ℤ pair (times (elementary_in (suc e) x k) (before q)) φ) g in
      let down : pair (flat_map R (covers_before r q)) φ ≡ total (partial e c) (covers_down r v) =
      pair_each R (covers_before r q) φ
      ∙ ap (total (λ x. pair (R x) φ)) (before_kept r n v h (omega arith) (omega arith))
      ∙ total_map (λ x. pair (R x) φ) (with_fixed n) (covers_down r v) in
      let up : pair (flat_map R (covers_after r q)) φ ≡ total (partial e c) (covers_to n r v) =
      pair_each R (covers_after r q) φ
      ∙ ap (total (λ x. pair (R x) φ)) (after_kept r n v h (omega arith) (omega arith))
      ∙ total_map (λ x. pair (R x) φ) (with_fixed n) (covers_to n r v) in
      pair_plus (scale (minus_one_to (suc e)) (times (elementary_in (suc e) c k) (before q))) (plus (flat_map R (covers_before r q)) (negate (flat_map R (covers_after r q)))) φ
      ∙ ap₂ ◌+ℤ◌ first
      (pair_plus (flat_map R (covers_before r q)) (negate (flat_map R (covers_after r q))) φ
      ∙ ap₂ ◌+ℤ◌ down (pair_negate (flat_map R (covers_after r q)) φ ∙ ap neg_ℤ up)
      ∙ sym (over_signed (partial e c) v))

  -- the terms of a row at which the covers are still to be taken (e + 1) times
  step_at : (e c : ℕ) (terms new : WholeTerms) → c ≡ get_or rows i 0 → HaveLabels (IsShort n) terms
      → GainsExcept n (n - i - 1) [] (replaced (signed_covers n (n - i)) terms) new
      → over (partial (suc e) c) terms ≡ minus_one_to (suc e) *ℤ over (row_value n i rows k s φ (suc e)) terms +ℤ over (partial e c) new
  step_at e c terms new g short gains =
      let a = over_both terms (minus_one_to (suc e)) (partial (suc e) c) (row_value n i rows k s φ (suc e)) (λ v. over (partial e c) (signed_covers n (n - i) v))
      (λ t m. partial_step e c t.0 (short t m) g) in
      let b = gains.sums (partial e c) (partial_null e c) in
      let d = replaced_over (signed_covers n (n - i)) (partial e c) terms in
      omega (arith, ints)

  pub row_step : (d e c : ℕ) (terms new : WholeTerms) → d ≡ suc e → c ≡ get_or rows i 0 → HaveLabels (IsShort n) terms
      → GainsExcept n (n - i - 1) [] (replaced (signed_covers n (n - i)) terms) new
      → over (partial d c) terms ≡ minus_one_to d *ℤ over (row_value n i rows k s φ d) terms +ℤ over (partial e c) new
  row_step d e c terms new eq g short gains =
      subst (λ x. over (partial x c) terms ≡ minus_one_to x *ℤ over (row_value n i rows k s φ x) terms +ℤ over (partial e c) new)
      (sym eq) (step_at e c terms new g short gains)

  pub row_first : (d c : ℕ) (q : List ℕ) (terms : WholeTerms) (summands : List Summand) → d ≡ c → get_or rows i 0 ≡ c → summands ≡ []
      → Gains [] ((q, pos 1) ∷ []) terms → IsShort n q
      → pair (times_rows k s (take (i + 1) rows) (with_fixed n q)) φ ≡ sum_over (row_value n i rows k s φ) summands +ℤ over (partial d c) terms
  row_first d c q terms summands e g none gains h =
      let a = gains.sums (partial c c) in
      let b = ap (sum_over (row_value n i rows k s φ)) none in
      let u = one-product (partial c c q) in
      let v = row_starts q h ∙ ap (λ x. partial x x q) g in
      let z = ap (λ x. over (partial x c) terms) e in
      omega (arith, ints)

  pub row_last : (c : ℕ) (terms : WholeTerms) → over (partial 0 c) terms ≡ minus_one_to 0 *ℤ over (row_value n i rows k s φ 0) terms
  row_last c terms =
      total_among (λ (t : List ℕ × ℤ). t.1 *ℤ partial 0 c t.0) (λ (t : List ℕ × ℤ). t.1 *ℤ row_value n i rows k s φ 0 t.0) terms
      (λ t m. ap (λ x. t.1 *ℤ x) (partial_none c t.0))
      ∙ sym (one-product (over (row_value n i rows k s φ 0) terms))
