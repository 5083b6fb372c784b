-- Dual functions for Schubert polynomials of permutations of the same number of letters: divided differences along
-- descents of w down to the identity, and then
-- the constant term, give 1 for S_w and 0 for each other Schubert polynomial.
use Rattle.std.proofs.Common.{◌≡◌, ◌⊎◌, ℕ, zero, suc, ◌+◌, ◌-◌, ◌<◌, ◌≤◌, true, cond, List, [], ◌∷◌, ◌++◌, length}
use Rattle.std.proofs.Common.{replicate, get_or, refl, sym, ap, ap₂, ◌∙◌, subst, inl, inr, arith, ℤ, pos, ◌*ℤ◌, neg_ℤ}
use Rattle.std.proofs.Common.{None, ltb, eqb, length-append}
use Rattle.std.specs.List.{range_with_len}
use lib.IntN.{*ℤ-zero}
use Rattle.std.proofs.lemmas.Bool.{cases_lt, cases_Bool, and_parts, eqb-true}
use Rattle.sym_model.specs.Sum.{Among, Once}
use Rattle.sym_model.specs.Polynomial.{Poly, Term, pair, same, all_zero, scale, coefficient}
use Rattle.sym_model.specs.Partition.{size, Falls, after}
use Rattle.sym_model.specs.Alternant.{staircase}
use Rattle.sym_model.specs.BetaList.{greater, rising_pairs}
use Rattle.sym_model.specs.Permutation.{IsOneLine, first_ascent, code, kept, from_code}
use Rattle.sym_model.specs.DividedDifference.{x_to, powers_between, difference_after, differences_after}
use Rattle.sym_model.specs.Schubert.{schubert, schubert_over}
use Rattle.sym_model.proofs.Sums.{Among_from_append, Among_from_map, Among_from_each, total_none}
use Rattle.sym_model.proofs.Exponents.{same_true, same_from, same_apart, tests_agree, all_zero_zeros}
use Rattle.sym_model.proofs.AfterLists.{length_after}
use Rattle.sym_model.proofs.Conjugates.{one_at_most}
use Rattle.sym_model.proofs.Numbers.{counts-not_less}
use Rattle.sym_model.proofs.Parts.{Falls-zeros}
use Rattle.sym_model.proofs.Polynomials.{pair_determined, pair_ext, pair_zero}
use Rattle.schubert_laws.proofs.Exchanges.{exchange_at, Rises, IsFirstAscent, rises_within, rising_pairs_exchange}
use Rattle.schubert_laws.proofs.Exchanges.{first_ascent_cases, exchange_twice, length-exchange_at}
use Rattle.schubert_laws.proofs.Differences.{along, pair_differences, along_square}
use Rattle.schubert_laws.proofs.Paths.{over_first, over_top, any_ascent}
use Rattle.schubert_laws.proofs.Dominant.{over_exchange, once_exchange, among_exchange, greater_head, dominant}
use Rattle.schubert_laws.proofs.Codes.{from_code-code}
use Rattle.schubert_laws.proofs.LowerPermutations.{NeverFalls, code_never_falls, kept_whole}
use Rattle.independence_laws.proofs.IndependentPowers.{pair_x_to}
use Rattle.schubert_laws.proofs.MonkStep.{rises_or}

-- ---- each divided difference decreases the degree by 1

in_range : (a k c : ℕ) → Among c (range_with_len a k) → (a ≤ c) × (c < a + k)
in_range a zero c m = absurd m
in_range a (suc k) c (inl e) = (omega arith, omega arith)
in_range a (suc k) c (inr m) =
    let r = in_range (a + 1) k c m in let p = r.0 in let q = r.1 in (omega arith, omega arith)

size_between : (s : ℤ) (a b : ℕ) (rest : List ℕ) (t : Term) → Among t (powers_between s a b rest)
    → size t.0 + 1 ≡ a + (b + size rest)
size_between s a b rest t m =
    let r = Among_from_map (λ c. (c ∷ (a + b - 1 - c) ∷ rest, s)) t (range_with_len b (a - b)) m in
    let within = in_range b (a - b) r.0 r.1 in
    let low = within.0 in
    let high = within.1 in
    let is : size t.0 ≡ r.0 + ((a + b - 1 - r.0) + size rest) = ap (λ (u : Term). size u.0) r.2 in
    omega arith

size_difference : (k : ℕ) (α : List ℕ) (t : Term) → Among t (difference_after k α) → size t.0 + 1 ≡ size α
size_difference zero [] t m = absurd m
size_difference zero (a ∷ []) t m = absurd m
size_difference zero (a ∷ b ∷ rest) t m =
    elim (Among_from_append t (powers_between (pos 1) a b rest) (powers_between (neg_ℤ (pos 1)) b a rest) m) [
      | inl i ↦ size_between (pos 1) a b rest t i
      | inr i ↦ let e = size_between (neg_ℤ (pos 1)) b a rest t i in omega arith
    ]
size_difference (suc k) [] t m = absurd m
size_difference (suc k) (a ∷ rest) t m =
    let r = Among_from_map (λ (u : Term). (a ∷ u.0, u.1)) t (difference_after k rest) m in
    let e = size_difference k rest r.0 r.1 in
    let is : size t.0 ≡ a + size r.0.0 = ap (λ (u : Term). size u.0) r.2 in
    omega arith

size_differences : (k : ℕ) (f : Poly) (t : Term) → Among t (differences_after k f)
    → (u : Term) × Among u f × (size t.0 + 1 ≡ size u.0)
size_differences k f t m =
    let r = Among_from_each (λ (u : Term). scale u.1 (difference_after k u.0)) t f m in
    let s = Among_from_map (λ (v : Term). (v.0, r.0.1 *ℤ v.1)) t (difference_after k r.0.0) r.2 in
    (r.0, r.1, ap (λ (v : Term). size v.0 + 1) s.2 ∙ size_difference k r.0.0 s.0 s.1)

count_none : (a b : ℕ) → b < a → cond {A = ℕ} (ltb a b) 1 0 ≡ 0
count_none a b l = counts-not_less a b (omega arith)

pub greater_none : (a : ℕ) (w : List ℕ) → ((x : ℕ) → Among x w → x < a) → greater a w ≡ 0
greater_none a [] h = refl
greater_none a (b ∷ w) h =
    let l = h b (inl refl) in
    let g = greater_none a w (λ x m. h x (inr m)) in
    let c = count_none a b l in
    omega arith

no_rising_pairs : (w : List ℕ) → Once w → ((k : ℕ) → Rises k w → ⊥) → rising_pairs w ≡ 0
no_rising_pairs [] o h = refl
no_rising_pairs (a ∷ w) o h =
    let g = greater_none a w (greater_head a w o h) in
    let r = no_rising_pairs w o.1 (λ k r. h (suc k) r) in
    omega arith

pub degree_within : (n : ℕ) (g : Poly) (d : ℕ) → ((t : Term) → Among t g → size t.0 ≡ d) → (w : List ℕ)
    → rising_pairs w < n → Once w → (t : Term) → Among t (schubert_over g w) → size t.0 + rising_pairs w ≡ d
degree_within zero g d h w b o t m = absurd (omega arith)
degree_within (suc n) g d h w b o t m = by (first_ascent_cases w) (λ v. degree_within n g d h v)
  where
    by : ((k : ℕ) × IsFirstAscent w k) ⊎ ((first_ascent w ≡ None) × ((k : ℕ) → Rises k w → ⊥))
        → ((v : List ℕ) → rising_pairs v < n → Once v → (u : Term) → Among u (schubert_over g v) → size u.0 + rising_pairs v ≡ d) → size t.0 + rising_pairs w ≡ d
    by (inl found) rec =
        let k : ℕ = found.0 in
        let e = rising_pairs_exchange k w found.1.rises in
        let s = size_differences k (schubert_over g (exchange_at k w)) t (subst (λ f. Among t f) (over_first g w k found.1) m) in
        let r = rec (exchange_at k w) (omega arith) (once_exchange k w o) s.0 s.1 in
        let z = s.2 in
        omega arith
    by (inr none) rec =
        let z = no_rising_pairs w o none.1 in
        let r = h t (subst (λ f. Among t f) (over_top g (rising_pairs w) w none.0) m) in
        omega arith

pub schubert-degree : (w : List ℕ) → Once w → (t : Term) → Among t (schubert w)
    → size t.0 + rising_pairs w ≡ size (staircase (length w))
schubert-degree w o t m =
    degree_within (suc (rising_pairs w)) (x_to (staircase (length w))) (size (staircase (length w))) only w (omega arith) o t m
  where
    only : (u : Term) → Among u (x_to (staircase (length w))) → size u.0 ≡ size (staircase (length w))
    only u (inl e) = ap (λ (v : Term). size v.0) e
    only u (inr i) = absurd i

greater_at_most : (a : ℕ) (w : List ℕ) → greater a w ≤ length w
greater_at_most a [] = omega arith
greater_at_most a (b ∷ w) = let g = greater_at_most a w in let c = one_at_most (ltb a b) in omega arith

pub rising_at_most : (w : List ℕ) → rising_pairs w ≤ size (staircase (length w))
rising_at_most [] = omega arith
rising_at_most (a ∷ w) = let g = greater_at_most a w in let r = rising_at_most w in omega arith

abbrev pub constant : List ℕ → ℤ
constant α = cond (all_zero α) (pos 1) (pos 0)

pub all_zero-size : (α : List ℕ) → all_zero α ≡ true → size α ≡ 0
all_zero-size [] h = refl
all_zero-size (a ∷ α) h =
    let p = and_parts (eqb a 0) (all_zero α) h in let e = eqb-true a 0 p.0 in let r = all_zero-size α p.1 in omega arith

-- a Schubert polynomial of a permutation with a descent has no constant term
no_constant : (w : List ℕ) (k : ℕ) → Once w → Rises k (exchange_at k w) → pair (schubert w) constant ≡ pos 0
no_constant w k o r = total_none (λ (t : Term). t.1 *ℤ constant t.0) (schubert w) each
  where
    each : (t : Term) → Among t (schubert w) → t.1 *ℤ constant t.0 ≡ pos 0
    each t m =
        let d = schubert-degree w o t m in
        let more = rising_pairs_exchange k (exchange_at k w) r in
        let back = ap rising_pairs (exchange_twice k w) in
        let most = rising_at_most (exchange_at k w) in
        let long = ap (λ n. size (staircase n)) (length-exchange_at k w) in
        let some : 0 < size t.0 = omega arith in
        elim (cases_Bool (all_zero t.0)) [
          | inl e ↦ absurd (let z = all_zero-size t.0 e in omega arith)
          | inr e ↦ ap (λ b. t.1 *ℤ cond b (pos 1) (pos 0)) e ∙ *ℤ-zero t.1
        ]

-- ---- descents

pub falls_somewhere : (w : List ℕ) → ((k : ℕ) × Rises k (exchange_at k w)) ⊎ NeverFalls w
falls_somewhere [] = inr (λ b h. absurd (omega arith))
falls_somewhere (a ∷ []) = inr (λ b h. absurd (omega arith))
falls_somewhere (a ∷ b ∷ w) = by (cases_lt b a) (falls_somewhere (b ∷ w))
  where
    by : (b < a) ⊎ (a ≤ b) → ((k : ℕ) × Rises k (exchange_at k (b ∷ w))) ⊎ NeverFalls (b ∷ w)
        → ((k : ℕ) × Rises k (exchange_at k (a ∷ b ∷ w))) ⊎ NeverFalls (a ∷ b ∷ w)
    by (inl l) later = inl (0, l)
    by (inr l) (inl found) = inl (suc found.0, found.1)
    by (inr l) (inr never) = inr each
      where
        each : NeverFalls (a ∷ b ∷ w)
        each zero h = l
        each (suc i) h = never i (omega arith)

pub not_falls : (k : ℕ) (w : List ℕ) → NeverFalls w → Rises k (exchange_at k w) → ⊥
not_falls zero [] n r = r
not_falls zero (a ∷ []) n r = r
not_falls zero (a ∷ b ∷ w) n r = let l = n 0 (omega arith) in absurd (omega arith)
not_falls (suc k) [] n r = r
not_falls (suc k) (a ∷ w) n r = not_falls k w (λ b h. n (suc b) (omega arith)) r

pub not_both : (k : ℕ) (w : List ℕ) → Rises k w → Rises k (exchange_at k w) → ⊥
not_both zero [] h r = h
not_both zero (a ∷ []) h r = h
not_both zero (a ∷ b ∷ w) h r = absurd (omega arith)
not_both (suc k) [] h r = h
not_both (suc k) (a ∷ w) h r = not_both k w h r

pub one_line-exchange : (k : ℕ) (w : List ℕ) → IsOneLine w → IsOneLine (exchange_at k w)
one_line-exchange k w o = record {
  letters = λ a m. let r = o.letters a (among_exchange a k w m) in let l = length-exchange_at k w in let q = r.1 in (r.0, omega arith);
  once = once_exchange k w o.once;
}

-- two one-line forms of the same length that never fall are equal
pub never_falls-same : (v w : List ℕ) → IsOneLine v → IsOneLine w → length v ≡ length w → NeverFalls v → NeverFalls w
    → v ≡ w
never_falls-same v w o p l n m =
    let codes : code v ≡ code w = code_never_falls v n ∙ (ap (λ k. replicate k 0) l ∙ sym (code_never_falls w m)) in
    let same_kept : kept v ≡ kept w = sym (from_code-code v o) ∙ (ap from_code codes ∙ from_code-code w p) in
    let a = kept_whole v in
    let b = kept_whole w in
    let x = ap length a.1 ∙ length-append (kept v) (after (length (kept v)) a.0) in
    let y = ap length b.1 ∙ length-append (kept w) (after (length (kept w)) b.0) in
    let i = length_after (length (kept v)) a.0 in
    let j = length_after (length (kept w)) b.0 in
    let q = ap length same_kept in
    let k : a.0 ≡ b.0 = omega arith in
    a.1 ∙ (ap₂ (λ u c. u ++ after (length u) c) same_kept k ∙ sym b.1)

-- ---- the dual functions

abbrev pub HasDual : List ℕ → Type 0
HasDual w =
    (φ : List ℕ → ℤ) × ((v : List ℕ) → IsOneLine v → length v ≡ length w → pair (schubert v) φ ≡ cond (same v w) (pos 1) (pos 0))

identity_dual : (w : List ℕ) → IsOneLine w → NeverFalls w → HasDual w
identity_dual w o n = (constant, λ v p l. by v p l (falls_somewhere v))
  where
    by : (v : List ℕ) → IsOneLine v → length v ≡ length w → ((k : ℕ) × Rises k (exchange_at k v)) ⊎ NeverFalls v
        → pair (schubert v) constant ≡ cond (same v w) (pos 1) (pos 0)
    by v p l (inl found) =
        no_constant v found.0 p.once found.1
        ∙ sym (ap (λ b. cond b (pos 1) (pos 0)) (same_apart v w (λ e. not_falls found.0 w n (subst (λ u. Rises found.0 (exchange_at found.0 u)) e found.1))))
    by v p l (inr never) =
        let c = code_never_falls v never in
        pair_determined (schubert v) (x_to (code v)) constant (dominant v p.once (subst Falls (sym c) (Falls-zeros (length v))))
        ∙ pair_x_to (code v) constant
        ∙ ap constant c
        ∙ ap (λ b. cond b (pos 1) (pos 0)) (all_zero_zeros (length v) ∙ sym (same_from v w (never_falls-same v w p o l never n)))

step_dual : (w : List ℕ) (k : ℕ) → Rises k (exchange_at k w) → HasDual (exchange_at k w) → HasDual w
step_dual w k r dual = (along k dual.0, λ v p l. by v p l (rises_or k v (within v l) p.once))
  where
    within : (v : List ℕ) → length v ≡ length w → suc k < length v
    within v l = let a = rises_within k (exchange_at k w) r in let b = length-exchange_at k w in omega arith

    by : (v : List ℕ) → IsOneLine v → length v ≡ length w → Rises k v ⊎ Rises k (exchange_at k v)
        → pair (schubert v) (along k dual.0) ≡ cond (same v w) (pos 1) (pos 0)
    by v p l (inl up) =
        pair_determined (schubert v) (differences_after k (schubert (exchange_at k v))) (along k dual.0)
        (λ α. any_ascent (x_to (staircase (length v))) v k up α ∙ ap (λ f. coefficient (differences_after k f) α) (over_exchange v k))
        ∙ pair_differences k (schubert (exchange_at k v)) (along k dual.0)
        ∙ pair_ext (schubert (exchange_at k v)) (along k (along k dual.0)) (λ α. pos 0) (along_square k dual.0)
        ∙ pair_zero (schubert (exchange_at k v))
        ∙ sym (ap (λ b. cond b (pos 1) (pos 0)) (same_apart v w (λ e. not_both k w (subst (Rises k) e up) r)))
    by v p l (inr down) =
        sym (pair_differences k (schubert v) dual.0)
        ∙ sym (pair_determined (schubert (exchange_at k v)) (differences_after k (schubert v)) dual.0
        (λ α. sym (ap (λ f. coefficient f α) (over_exchange v k))
        ∙ any_ascent (x_to (staircase (length v))) (exchange_at k v) k down α
        ∙ ap (λ u. coefficient (differences_after k (schubert_over (x_to (staircase (length v))) u)) α) (exchange_twice k v)))
        ∙ dual.1 (exchange_at k v) (one_line-exchange k v p) (length-exchange_at k v ∙ (l ∙ sym (length-exchange_at k w)))
        ∙ ap (λ b. cond b (pos 1) (pos 0)) (tests_agree (same (exchange_at k v) (exchange_at k w)) (same v w)
        (λ e. same_from v w (sym (exchange_twice k v) ∙ (ap (exchange_at k) (same_true (exchange_at k v) (exchange_at k w) e) ∙ exchange_twice k w)))
        (λ e. same_from (exchange_at k v) (exchange_at k w) (ap (exchange_at k) (same_true v w e))))

dual_within : (n : ℕ) (w : List ℕ) → size (staircase (length w)) < n + rising_pairs w → IsOneLine w → HasDual w
dual_within zero w h o = absurd (let m = rising_at_most w in omega arith)
dual_within (suc n) w h o = by (falls_somewhere w) (dual_within n)
  where
    by : ((k : ℕ) × Rises k (exchange_at k w)) ⊎ NeverFalls w
        → ((v : List ℕ) → size (staircase (length v)) < n + rising_pairs v → IsOneLine v → HasDual v) → HasDual w
    by (inl found) rec =
        let k : ℕ = found.0 in
        let more = rising_pairs_exchange k (exchange_at k w) found.1 in
        let back = ap rising_pairs (exchange_twice k w) in
        let long = ap (λ m. size (staircase m)) (length-exchange_at k w) in
        step_dual w k found.1 (rec (exchange_at k w) (omega arith) (one_line-exchange k w o))
    by (inr never) rec = identity_dual w o never

pub schubert-has_dual : (w : List ℕ) → IsOneLine w → HasDual w
schubert-has_dual w o = dual_within (suc (size (staircase (length w)))) w (omega arith) o
