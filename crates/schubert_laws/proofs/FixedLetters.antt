-- A fixed letter added at the end of a permutation does not change its Schubert polynomial. The pairing of a function φ of exponent lists with a
-- polynomial f (`pair f φ`) is the sum of c·φ(α) over the terms c·x^α of f.
use Rattle.std.proofs.Common.{◌≡◌, ℕ, zero, suc, ◌+◌, ◌<◌, List, [], ◌∷◌, ◌++◌, length, refl, sym, ◌∙◌, ap, ap₂, subst, arith, inl, inr, ◌⊎◌, cond, nat_lt, ◌==◌, ◌&&◌, Some, None, Option, ℤ, pos, rules}
use Rattle.sym_model.specs.Sum.{Among, Once}
use Rattle.sym_model.specs.Polynomial.{Term, Poly, Same, In, pair, coefficient, resize, all_zero, fits_in, restrict}
use Rattle.sym_model.specs.Partition.{Falls}
use Rattle.sym_model.specs.PlaceOrders.{smaller}
use Rattle.sym_model.specs.Alternant.{staircase}
use Rattle.sym_model.specs.BetaList.{rising_pairs}
use Rattle.sym_model.specs.Permutation.{code, exchanged, first_ascent}
use Rattle.sym_model.specs.DividedDifference.{x_to, divided_difference, differences_after}
use Rattle.sym_model.specs.Schubert.{descended, schubert, schubert_in}
use Rattle.sym_model.proofs.Exponents.{fits_in_length, fits_in_zeros}
use Rattle.sym_model.proofs.Polynomials.{pair_ext, pair_in, pair_restrict, same_from_pair, same_of_equal, Same_trans, restrict_respects}
use Rattle.schubert_laws.proofs.Differences.{along, pair_differences}
use Rattle.schubert_laws.proofs.Exchanges.{exchange_at, Rises, IsFirstAscent, first_ascent_cases, rising_pairs_exchange, length-exchange_at, rises_within}
use Rattle.schubert_laws.proofs.DifferenceLaws.{differences_respect, In_differences}
use Rattle.schubert_laws.proofs.Paths.{any_ascent, over_top, over_first}
use Rattle.schubert_laws.proofs.Dominant.{pair_x_to, dominant, over_exchange, once_exchange, among_exchange, code_no_ascent}
use Rattle.schubert_laws.proofs.DifferencesFromOne.{In_divided}
use Rattle.std.specs.Option.{option_map_or}
use Rattle.sym_model.proofs.Sums.{Among_from_append}
use Rattle.sym_model.proofs.Parts.{length-staircase}
use Rattle.sym_model.proofs.Numbers.{counts-not_less}

pub In_x_to : (n : ℕ) (α : List ℕ) → length α ≡ n → In n (x_to α)
In_x_to n α e t (inl d) = ap (λ (s : Term). length s.0) d ∙ e
In_x_to n α e t (inr m) = absurd m

-- if g is a polynomial in n variables, so is `descended g fuel w`, which is computed from g by divided differences
pub In_descended : (g : Poly) (n : ℕ) (fuel : ℕ) (w : List ℕ) → In n g → In n (descended g fuel w)
In_descended g n zero w i = i
In_descended g n (suc fuel) w i = by (first_ascent w) (λ k. In_descended g n fuel (exchanged k w) i)
  where
    by : (o : Option ℕ) → ((k : ℕ) → In n (descended g fuel (exchanged k w))) → In n (option_map_or (λ k. divided_difference k (descended g fuel (exchanged k w))) o g)
    by None rec = i
    by (Some k) rec = In_divided k n (descended g fuel (exchanged k w)) (rec k)

pub In_schubert : (w : List ℕ) → In (length w) (schubert w)
In_schubert w = In_descended (x_to (staircase (length w))) (length w) (rising_pairs w) w (In_x_to (length w) (staircase (length w)) (length-staircase (length w)))

-- ---- a polynomial in n variables as a polynomial in n + 1 variables

one_more : (n : ℕ) (α : List ℕ) → length α ≡ n → resize (suc n) α ≡ α ++ (0 ∷ [])
one_more zero [] e = refl
one_more zero (a ∷ α) e = absurd (omega arith)
one_more (suc n) [] e = absurd (omega arith)
one_more (suc n) (a ∷ α) e = ap (λ β. a ∷ β) (one_more n α (omega arith))

-- if f is in n variables, the pairing of φ with f as a polynomial in n + 1 variables is the pairing of f with φ(α followed by 0)
pub pair_one_more : (n : ℕ) (f : Poly) (φ : List ℕ → ℤ) → In n f → pair (restrict (suc n) f) φ ≡ pair f (λ α. φ (α ++ (0 ∷ [])))
pair_one_more n f φ i =
    pair_restrict (suc n) f φ
    ∙ pair_in n f (λ α. cond (fits_in (suc n) α) (φ (resize (suc n) α)) (pos 0)) (λ α. φ (α ++ (0 ∷ []))) i (λ α l.
    ap₂ (λ b γ. cond b (φ γ) (pos 0)) (fits_in_length (suc n) α (omega arith)) (one_more n α l))

along_one_more : (k : ℕ) (φ : List ℕ → ℤ) (α : List ℕ) → suc k < length α → along k φ (α ++ (0 ∷ [])) ≡ along k (λ γ. φ (γ ++ (0 ∷ []))) α
along_one_more k φ [] h = absurd (omega arith)
along_one_more zero φ (a ∷ []) h = absurd (omega arith)
along_one_more zero φ (a ∷ b ∷ α) h = refl
along_one_more (suc k) φ (a ∷ α) h = along_one_more k (λ γ. φ (a ∷ γ)) α (omega arith)

-- if f is in n variables and k + 1 < n, then f can be taken as a polynomial in n + 1 variables before or after ∂_(k+1) is applied, with the same
-- result
pub differences_one_more : (k n : ℕ) (f : Poly) → In n f → suc k < n → Same (differences_after k (restrict (suc n) f)) (restrict (suc n) (differences_after k f))
differences_one_more k n f i h =
    same_from_pair (differences_after k (restrict (suc n) f)) (restrict (suc n) (differences_after k f)) (λ φ.
    pair_differences k (restrict (suc n) f) φ
    ∙ pair_one_more n f (along k φ) i
    ∙ pair_in n f (λ α. along k φ (α ++ (0 ∷ []))) (along k (λ γ. φ (γ ++ (0 ∷ [])))) i (λ α l. along_one_more k φ α (omega arith))
    ∙ sym (pair_one_more n (differences_after k f) φ (In_differences k n f i) ∙ pair_differences k f (λ γ. φ (γ ++ (0 ∷ [])))))

-- ---- lists with a last letter that is greater than all others

pub smaller_added : (a m : ℕ) (w : List ℕ) → a < m → smaller a (w ++ (m ∷ [])) ≡ smaller a w
smaller_added a m [] h = let e = counts-not_less m a (omega arith) in omega arith
smaller_added a m (b ∷ w) h = ap (λ n. cond (nat_lt b a) 1 0 + n) (smaller_added a m w h)

pub code_added : (m : ℕ) (w : List ℕ) → ((a : ℕ) → Among a w → a < m) → code (w ++ (m ∷ [])) ≡ code w ++ (0 ∷ [])
code_added m [] h = refl
code_added m (a ∷ w) h = ap₂ ◌∷◌ (smaller_added a m w (h a (inl refl))) (code_added m w (λ b k. h b (inr k)))

pub rises_added : (k m : ℕ) (w : List ℕ) → Rises k w → Rises k (w ++ (m ∷ []))
rises_added k m [] r = absurd r
rises_added zero m (a ∷ []) r = absurd r
rises_added zero m (a ∷ b ∷ w) r = r
rises_added (suc k) m (a ∷ w) r = rises_added k m w r

pub exchange_added : (k m : ℕ) (w : List ℕ) → Rises k w → exchange_at k (w ++ (m ∷ [])) ≡ exchange_at k w ++ (m ∷ [])
exchange_added k m [] r = absurd r
exchange_added zero m (a ∷ []) r = absurd r
exchange_added zero m (a ∷ b ∷ w) r = refl
exchange_added (suc k) m (a ∷ w) r = ap (λ v. a ∷ v) (exchange_added k m w r)

pub once_added : (m : ℕ) (w : List ℕ) → Once w → ((a : ℕ) → Among a w → a < m) → Once (w ++ (m ∷ []))
once_added m [] o h = (λ e. e, tt)
once_added m (a ∷ w) o h = (apart, once_added m w o.1 (λ b k. h b (inr k)))
  where
    apart : Among a (w ++ (m ∷ [])) → ⊥
    apart k = elim (Among_from_append a w (m ∷ []) k) [
      | inl l ↦ o.0 l
      | inr (inl e) ↦ let g = h a (inl refl) in omega arith
      | inr (inr e) ↦ e
    ]

pub falls_staircase : (n : ℕ) → Falls (staircase n ++ (0 ∷ []))
falls_staircase zero = tt
falls_staircase (suc zero) = (omega arith, tt)
falls_staircase (suc (suc n)) = (omega arith, falls_staircase (suc n))

x_to_added : (α : List ℕ) → Same (x_to (α ++ (0 ∷ []))) (restrict (suc (length α)) (x_to α))
x_to_added α = search (rules, same_from_pair, pair_x_to, pair_one_more, In_x_to)

fixed_within : (n : ℕ) (m : ℕ) (w : List ℕ) → rising_pairs w < n → Once w → ((a : ℕ) → Among a w → a < m)
    → Same (schubert (w ++ (m ∷ []))) (restrict (suc (length w)) (schubert w))
fixed_within zero m w b o h = absurd (omega arith)
fixed_within (suc n) m w b o h = by (first_ascent_cases w) (λ v c p q. fixed_within n m v c p q)
  where
    by : ((j : ℕ) × IsFirstAscent w j) ⊎ ((first_ascent w ≡ None) × ((j : ℕ) → Rises j w → ⊥))
        → ((v : List ℕ) → rising_pairs v < n → Once v → ((a : ℕ) → Among a v → a < m) → Same (schubert (v ++ (m ∷ []))) (restrict (suc (length v)) (schubert v)))
        → Same (schubert (w ++ (m ∷ []))) (restrict (suc (length w)) (schubert w))
    by (inl found) rec α =
        let k : ℕ = found.0 in
        let r = found.1.rises in
        let e = rising_pairs_exchange k w r in
        let l = length-exchange_at k w in
        let v : List ℕ = exchange_at k w in
        any_ascent (x_to (staircase (length (w ++ (m ∷ []))))) (w ++ (m ∷ [])) k (rises_added k m w r) α
        ∙ ap (λ u. coefficient (differences_after k u) α) (over_exchange (w ++ (m ∷ [])) k ∙ ap schubert (exchange_added k m w r))
        ∙ differences_respect k (schubert (v ++ (m ∷ []))) (restrict (suc (length w)) (schubert v))
        (Same_trans (schubert (v ++ (m ∷ []))) (restrict (suc (length v)) (schubert v)) (restrict (suc (length w)) (schubert v))
        (rec v (omega arith) (once_exchange k w o) (λ a i. h a (among_exchange a k w i)))
        (same_of_equal (restrict (suc (length v)) (schubert v)) (restrict (suc (length w)) (schubert v)) (ap (λ i. restrict (suc i) (schubert v)) l))) α
        ∙ differences_one_more k (length w) (schubert v) (subst (λ i. In i (schubert v)) l (In_schubert v)) (rises_within k w r) α
        ∙ ap (λ u. coefficient (restrict (suc (length w)) u) α) (ap (differences_after k) (sym (over_exchange w k)) ∙ sym (over_first (x_to (staircase (length w))) w k found.1))
    by (inr none) rec α =
        let c = code_no_ascent w o none.1 in
        dominant (w ++ (m ∷ [])) (once_added m w o h) (subst Falls (sym (code_added m w h ∙ ap (λ d. d ++ (0 ∷ [])) c)) (falls_staircase (length w))) α
        ∙ ap (λ d. coefficient (x_to d) α) (code_added m w h ∙ ap (λ d. d ++ (0 ∷ [])) c)
        ∙ x_to_added (staircase (length w)) α
        ∙ ap (λ i. coefficient (restrict (suc i) (x_to (staircase (length w)))) α) (length-staircase (length w))
        ∙ ap (λ u. coefficient (restrict (suc (length w)) u) α) (sym (over_top (x_to (staircase (length w))) (rising_pairs w) w none.0))

-- if the letters of w are different and smaller than m, the Schubert polynomial of w followed by m is S_w as a polynomial in one more variable
pub last_letter : (m : ℕ) (w : List ℕ) → Once w → ((a : ℕ) → Among a w → a < m) → Same (schubert (w ++ (m ∷ []))) (restrict (suc (length w)) (schubert w))
last_letter m w o h = fixed_within (suc (rising_pairs w)) m w (omega arith) o h

-- ---- Schubert polynomials of permutations, restricted to any number of variables

pub all_zero_added : (α : List ℕ) → all_zero (α ++ (0 ∷ [])) ≡ all_zero α
all_zero_added [] = refl
all_zero_added (a ∷ α) = ap (λ b. (a == 0) && b) (all_zero_added α)

pub fits_in_added : (m : ℕ) (α : List ℕ) → fits_in m (α ++ (0 ∷ [])) ≡ fits_in m α
fits_in_added zero α = all_zero_added α
fits_in_added (suc m) [] = fits_in_zeros m 0
fits_in_added (suc m) (a ∷ α) = fits_in_added m α

pub resize_added : (m : ℕ) (α : List ℕ) → resize m (α ++ (0 ∷ [])) ≡ resize m α
resize_added zero α = refl
resize_added (suc m) [] = refl
resize_added (suc m) (a ∷ α) = ap (λ β. a ∷ β) (resize_added m α)

restrict_one_more : (N n : ℕ) (f : Poly) → In n f → Same (restrict N (restrict (suc n) f)) (restrict N f)
restrict_one_more N n f i = search (rules, same_from_pair, pair_restrict, pair_one_more, pair_ext, fits_in_added, resize_added)

pub last_letter_in : (m : ℕ) (w : List ℕ) (N : ℕ) → Once w → ((a : ℕ) → Among a w → a < m) → Same (schubert_in (w ++ (m ∷ [])) N) (schubert_in w N)
last_letter_in m w N o h =
    Same_trans (restrict N (schubert (w ++ (m ∷ [])))) (restrict N (restrict (suc (length w)) (schubert w))) (restrict N (schubert w))
    (restrict_respects N (schubert (w ++ (m ∷ []))) (restrict (suc (length w)) (schubert w)) (last_letter m w o h))
    (restrict_one_more N (length w) (schubert w) (In_schubert w))
