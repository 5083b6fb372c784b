-- Fixed letters that are added at the end of a permutation, or dropped there.
--     one_line_added     a permutation with fixed letters added is a permutation
--     schubert_added     adding or dropping fixed letters at the end does not change the Schubert polynomial in n variables
--     inversions_added   fixed letters at the end do not change the number of inversions
use Rattle.std.proofs.lemmas.Grind.{common_steps}
use Rattle.std.proofs.Common.{◌≡◌, ℕ, zero, suc, ◌+◌, ◌<◌, ◌≤◌, List, [], ◌∷◌, ◌++◌, length, refl, sym, ◌∙◌, ap, ap₂, subst, arith, inl, inr, cond, ◌==◌, Bool, true, false, length-append, eqb-true, eq-eqb, rules}
use Rattle.std.proofs.lemmas.List.{append-nil}
use Rattle.std.proofs.lemmas.Bool.{cases_lt, cond_below}
use Rattle.sym_model.specs.Sum.{Among, Once}
use Rattle.sym_model.specs.Polynomial.{Same, coefficient}
use Rattle.sym_model.specs.Partition.{after}
use Rattle.sym_model.specs.PlaceOrders.{smaller, inversions}
use Rattle.sym_model.specs.BetaList.{greater, rising_pairs}
use Rattle.sym_model.specs.Permutation.{IsOneLine, in_front_unless_fixed, without_fixed_from, kept}
use Rattle.sym_model.specs.Schubert.{schubert_in}
use Rattle.sym_model.proofs.Sums.{Among_from_append, Among-append_left, Among-append_right}
use Rattle.schubert_laws.proofs.FixedLetters.{once_added, smaller_added}
use Rattle.schubert_laws.proofs.PathsFromOne.{below_next, fixed_letter_in}
use Rattle.sym_model.proofs.AfterLists.{length_after, among_after}
use Rattle.sym_model.proofs.Numbers.{counts-not_less}
use Rattle.std.proofs.Math.Arith.{lt_of_le-ne}

-- ---- permutations with fixed letters added at the end

pub one_line_next : (w : List ℕ) → IsOneLine w → IsOneLine (w ++ ((length w + 1) ∷ []))
one_line_next w o = record { letters = letters; once = once_added (length w + 1) w o.once (below_next w o) }
  where
    letters : (a : ℕ) → Among a (w ++ ((length w + 1) ∷ [])) → (1 ≤ a) × (a ≤ length (w ++ ((length w + 1) ∷ [])))
    letters a m =
        let l = length-append w ((length w + 1) ∷ []) in
        elim (Among_from_append a w ((length w + 1) ∷ []) m) [
          | inl i ↦ let r = o.letters a i in let p = r.0 in let q = r.1 in (omega arith, omega arith)
          | inr (inl e) ↦ (omega arith, omega arith)
          | inr (inr e) ↦ absurd e
        ]

pub next_after : (w : List ℕ) (k : ℕ) → w ++ after (length w) (suc k) ≡ (w ++ ((length w + 1) ∷ [])) ++ after (length (w ++ ((length w + 1) ∷ []))) k
next_after w k = grind (arith, common_steps)

pub one_line_added : (k : ℕ) (w : List ℕ) → IsOneLine w → IsOneLine (w ++ after (length w) k)
one_line_added zero w o = subst IsOneLine (sym (append-nil w)) o
one_line_added (suc k) w o = subst IsOneLine (sym (next_after w k)) (one_line_added k (w ++ ((length w + 1) ∷ [])) (one_line_next w o))

pub schubert_added : (k : ℕ) (w : List ℕ) (n : ℕ) → IsOneLine w → Same (schubert_in (w ++ after (length w) k) n) (schubert_in w n)
schubert_added zero w n o = λ α. ap (λ v. coefficient (schubert_in v n) α) (append-nil w)
schubert_added (suc k) w n o = search (rules, next_after, one_line_next, fixed_letter_in, (schubert_added k))

inversions_next : (m : ℕ) (w : List ℕ) → ((a : ℕ) → Among a w → a < m) → inversions (w ++ (m ∷ [])) ≡ inversions w
inversions_next m [] h = refl
inversions_next m (a ∷ w) h = let e = inversions_next m w (λ b i. h b (inr i)) in let s = smaller_added a m w (h a (inl refl)) in omega arith

pub inversions_added : (k : ℕ) (w : List ℕ) → IsOneLine w → inversions (w ++ after (length w) k) ≡ inversions w
inversions_added zero w o = ap inversions (append-nil w)
inversions_added (suc k) w o = search (rules, next_after, one_line_next, inversions_next, below_next, (inversions_added k))

-- ---- permutations without the fixed letters at their end (`kept`)

-- w is v followed by the letters p + l + 1, p + l + 2, .., p + l + k for some k; here l is the length of v. If w is a permutation without its first p
-- letters, then these last letters are fixed letters
abbrev pub IsTail : ℕ → List ℕ → List ℕ → Type 0
IsTail p v w = (k : ℕ) × (w ≡ v ++ after (p + length v) k)

dropped_last : (p i a : ℕ) (w : List ℕ) (t : Bool) → (a == i) ≡ t → i ≡ p + 1 → IsTail (p + 1) [] w → IsTail p (cond t [] (a ∷ [])) (a ∷ w)
dropped_last p i a w true e d r = let q = eqb-true a i e in (suc r.0, ap₂ ◌∷◌ (omega arith) (r.1 ∙ ap (λ n. after n r.0) (omega arith)))
dropped_last p i a w false e d r = (r.0, ap (λ u. a ∷ u) (r.1 ∙ ap (λ n. after n r.0) (omega arith)))

dropped : (p i : ℕ) (w : List ℕ) → i ≡ p + 1 → IsTail p (without_fixed_from i w) w
dropped p i [] e = (0, refl)
dropped p i (a ∷ w) e = by (without_fixed_from (i + 1) w) (dropped (p + 1) (i + 1) w (ap (λ n. n + 1) e))
  where
    by : (v : List ℕ) → IsTail (p + 1) v w → IsTail p (in_front_unless_fixed i a v) (a ∷ w)
    by [] r = dropped_last p i a w (a == i) refl e r
    by (b ∷ v) r = (r.0, ap (λ u. a ∷ u) (r.1 ∙ ap (λ n. (b ∷ v) ++ after n r.0) (omega arith)))

pub kept_tail : (w : List ℕ) → IsTail 0 (kept w) w
kept_tail [] = (0, refl)
kept_tail (a ∷ w) =
    let r = dropped 1 2 w refl in
    (r.0, ap (λ u. a ∷ u) (r.1 ∙ ap (λ n. without_fixed_from 2 w ++ after n r.0) (omega arith)))

pub once_front : (v u : List ℕ) → Once (v ++ u) → Once v
once_front [] u o = tt
once_front (a ∷ v) u o = (λ m. o.0 (Among-append_left a v u m), once_front v u o.1)

pub once_apart : (v u : List ℕ) (x : ℕ) → Once (v ++ u) → Among x v → Among x u → ⊥
once_apart [] u x o m n = m
once_apart (a ∷ v) u x o (inl e) n = o.0 (Among-append_right a v u (subst (λ y. Among y u) e n))
once_apart (a ∷ v) u x o (inr m) n = once_apart v u x o.1 m n

one_line_front : (v : List ℕ) (k : ℕ) → IsOneLine (v ++ after (0 + length v) k) → IsOneLine v
one_line_front v k o = record { letters = letters; once = once_front v (after (0 + length v) k) o.once }
  where
    letters : (a : ℕ) → Among a v → (1 ≤ a) × (a ≤ length v)
    letters a m =
        let l = length-append v (after (0 + length v) k) in
        let n = length_after (0 + length v) k in
        let r = o.letters a (Among-append_left a v (after (0 + length v) k) m) in
        let p = r.0 in
        let q = r.1 in (
          p,
          elim (cases_lt (length v) a) [
            | inl f ↦ absurd (once_apart v (after (0 + length v) k) a o.once m (among_after (0 + length v) k a (omega arith) (omega arith)))
            | inr f ↦ f
          ],
        )

pub one_line_kept : (w : List ℕ) → IsOneLine w → IsOneLine (kept w)
one_line_kept w o = let t = kept_tail w in one_line_front (kept w) t.0 (subst IsOneLine t.1 o)

pub tail_from_zero : (v : List ℕ) (k : ℕ) → v ++ after (0 + length v) k ≡ v ++ after (length v) k
tail_from_zero v k = let e : 0 + length v ≡ length v = omega arith in ap (λ n. v ++ after n k) e

pub schubert_kept : (w : List ℕ) (n : ℕ) → IsOneLine w → Same (schubert_in (kept w) n) (schubert_in w n)
schubert_kept w n o α =
    let t = kept_tail w in
    sym (schubert_added t.0 (kept w) n (one_line_kept w o) α) ∙ ap (λ v. coefficient (schubert_in v n) α) (sym (t.1 ∙ tail_from_zero (kept w) t.0))

pub inversions_kept : (w : List ℕ) → IsOneLine w → inversions (kept w) ≡ inversions w
inversions_kept w o =
    let t = kept_tail w in
    sym (inversions_added t.0 (kept w) (one_line_kept w o)) ∙ ap inversions (sym (t.1 ∙ tail_from_zero (kept w) t.0))

-- ---- in a list of different letters each pair of places is an increasing pair or an inversion

-- the number of pairs of different places among n places, n·(n - 1)/2
unfoldable pub pairs : ℕ → ℕ
pairs zero = 0
pairs (suc n) = n + pairs n

pub greater_or_smaller : (a : ℕ) (w : List ℕ) → (Among a w → ⊥) → greater a w + smaller a w ≡ length w
greater_or_smaller a [] n = refl
greater_or_smaller a (b ∷ w) n = search (rules, cases_lt, cond_below, counts-not_less, lt_of_le-ne, (greater_or_smaller a w))

rising_or_inversion : (w : List ℕ) → Once w → rising_pairs w + inversions w ≡ pairs (length w)
unfolding pairs
rising_or_inversion [] o = refl
rising_or_inversion (a ∷ w) o = let e = rising_or_inversion w o.1 in let g = greater_or_smaller a w o.0 in omega arith

-- let w and v be lists of different entries, of the same length: if w has one increasing pair more than v, then v has one inversion more than w
pub one_more_inversion : (w v : List ℕ) → Once w → Once v → length v ≡ length w → rising_pairs w ≡ suc (rising_pairs v) → inversions v ≡ inversions w + 1
one_more_inversion w v o p l e = let a = rising_or_inversion w o in let b = rising_or_inversion v p in let c = ap pairs l in omega arith

pub one_less_rising : (w v : List ℕ) → Once w → Once v → length v ≡ length w → inversions v ≡ inversions w + 1 → rising_pairs w ≡ suc (rising_pairs v)
one_less_rising w v o p l e = let a = rising_or_inversion w o in let b = rising_or_inversion v p in let c = ap pairs l in omega arith

dropped_added : (p i k : ℕ) (w : List ℕ) → i ≡ p + 1 → without_fixed_from i (w ++ after (p + length w) k) ≡ without_fixed_from i w
dropped_added p i zero [] e = refl
dropped_added p i (suc k) [] e =
    let d : p + 0 + 1 ≡ i = omega arith in
    let f : p + 0 + 1 ≡ p + 1 + 0 = omega arith in
    let r = ap (λ n. without_fixed_from (i + 1) (after n k)) f ∙ dropped_added (p + 1) (i + 1) k [] (omega arith) in
    ap (in_front_unless_fixed i (p + 0 + 1)) r ∙ ap (λ t. cond t [] ((p + 0 + 1) ∷ [])) (eq-eqb (p + 0 + 1) i d)
dropped_added p i k (a ∷ w) e = search (rules, (dropped_added (p + 1) (i + 1) k w (omega arith)))

pub kept_added : (w : List ℕ) (k : ℕ) → 0 < length w → kept (w ++ after (length w) k) ≡ kept w
kept_added [] k h = absurd (omega arith)
kept_added (a ∷ w) k h = let e : suc (length w) ≡ 1 + length w = omega arith in ap (λ n. a ∷ without_fixed_from 2 (w ++ after n k)) e ∙ ap (λ v. a ∷ v) (dropped_added 1 2 k w refl)
