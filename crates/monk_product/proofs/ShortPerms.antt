-- A short permutation is stored as 32 letters: its own letters, followed by *fixed* letters, which are equal to their places. Lemmas on these 32
-- letters, and on the letters without the fixed ones at the end (`kept`).
use Rattle.std.proofs.Common.{◌≡◌, ℕ, zero, suc, ◌+◌, ◌-◌, ◌<◌, ◌≤◌, ◌==◌, Bool, cond, List, [], ◌∷◌, ◌++◌, length, take, drop, get_or, inl, inr, sym, ap, ap₂, ◌∙◌, subst, arith, length-append}
use Rattle.std.specs.Prelude.{nat_eq}
use Rattle.std.specs.List.{swap}
use Rattle.std.specs.Cmp.Lexicographic.{pointwise}
use Rattle.std.proofs.lemmas.Bool.{cases_lt}
use Rattle.std.proofs.lemmas.List.{get_or_default}
use Rattle.std.proofs.lemmas.Slice.Eq.{bytes_eq-Decides}
use Rattle.std.proofs.Math.Seq.{take-append_seam}
use Rattle.sym_model.specs.Partition.{after}
use Rattle.sym_model.specs.PlaceOrders.{inversions}
use Rattle.sym_model.specs.Permutation.{IsOneLine, kept, with_fixed, times_swap, covers_among}
use Rattle.sym_model.proofs.AfterLists.{length_after}
use Rattle.schubert_laws.specs.Chains.{letters_before}
use Rattle.schubert_laws.proofs.ChainSums.{place_below, letter_there}
use Rattle.schubert_laws.proofs.FixedTails.{inversions_kept}
use Rattle.schubert_laws.proofs.LowerPermutations.{kept_whole}
use Rattle.schubert_laws.proofs.TransitionFromOne.{times_swap_kept}
use Rattle.perm_codes.specs.Limits.{IsShortPermutation, IsWithinLimits}
use Rattle.perm_codes.proofs.CoverSteps.{swap_in, same_inversions}
use Rattle.perm_codes.proofs.WithinLimits.{kept_limits, short_fixed, short_swap, length-with_fixed}
use Rattle.monk_product.specs.ShortPerms.{IsFilled}
use Rattle.sym_model.proofs.Exponents.{tests_agree}

pub short_of : (u : List ℕ) (n : ℕ) → IsFilled u n → IsShortPermutation u
short_of u n f = let l = f.long in record { one_line = f.one_line; some = omega arith; few = omega arith }

pub limits_of : (u : List ℕ) (n : ℕ) → IsFilled u n → IsWithinLimits (kept u)
limits_of u n f = kept_limits u (short_of u n f)

pub filled : (u : List ℕ) → length u ≡ 32 → with_fixed 32 (kept u) ≡ u
filled u l =
    let t = kept_whole u in
    let n : length u ≡ length (kept u) + t.0 =
    ap length t.1 ∙ length-append (kept u) (after (length (kept u)) t.0)
    ∙ ap (λ k. length (kept u) + k) (length_after (length (kept u)) t.0) in
    let e : 32 - length (kept u) ≡ t.0 = omega arith in
    ap (λ k. kept u ++ after (length (kept u)) k) e ∙ sym t.1

pub as_stored : (u w : List ℕ) → kept u ≡ w → length u ≡ 32 → u ≡ with_fixed 32 w
as_stored u w e l = sym (ap (with_fixed 32) (sym e) ∙ filled u l)

-- the place of the letter a is after the place p, counted from 0, if it is not before p and p has another letter
pub not_yet : (a p : ℕ) (u : List ℕ) → IsOneLine u → 1 ≤ a → a ≤ length u → p ≤ letters_before a u → (get_or u p 0 ≡ a → ⊥) → p + 1 ≤ letters_before a u
not_yet a p u o h l b n = elim (cases_lt p (letters_before a u)) [
  | inl f ↦ omega arith
  | inr f ↦
      let e : p ≡ letters_before a u = omega arith in
      let q = place_below a u o h l in
      absurd (n (get_or_default u p 0 (suc p) (omega arith) ∙ ap (λ i. get_or u i (suc i)) e ∙ letter_there a u o h l))
]

pub few_kept : (u : List ℕ) → length u ≡ 32 → length (kept u) ≤ 32
few_kept u l =
    let t = kept_whole u in
    let n : length u ≡ length (kept u) + t.0 =
    ap length t.1 ∙ length-append (kept u) (after (length (kept u)) t.0)
    ∙ ap (λ k. length (kept u) + k) (length_after (length (kept u)) t.0) in
    omega arith

pub shown : (u : List ℕ) → take (length (kept u)) u ≡ kept u
shown u =
    let t = kept_whole u in
    ap (take (length (kept u))) t.1 ∙ take-append_seam (kept u) (after (length (kept u)) t.0)

pub same_letters : (u v : List ℕ) → length u ≡ 32 → length v ≡ 32 → kept u ≡ kept v → u ≡ v
same_letters u v l m e = sym (filled u l) ∙ ap (with_fixed 32) e ∙ filled v m

pub same_test : (u v : List ℕ) → length u ≡ 32 → length v ≡ 32 → pointwise nat_eq u v ≡ pointwise nat_eq (kept u) (kept v)
same_test u v l m =
    let d = bytes_eq-Decides u v in
    let e = bytes_eq-Decides (kept u) (kept v) in
    tests_agree (pointwise nat_eq u v) (pointwise nat_eq (kept u) (kept v)) (λ h. e.1 (ap kept (d.0 h))) (λ h. d.1 (same_letters u v l m (e.0 h)))

drop-after : (n a k : ℕ) → drop n (after a k) ≡ after (a + n) (k - n)
drop-after zero a k =
    let p : a ≡ a + 0 = omega arith in
    let q : k ≡ k - 0 = omega arith in
    ap₂ after p q
drop-after (suc n) a zero = let q : 0 ≡ 0 - suc n = omega arith in ap (after (a + suc n)) q
drop-after (suc n) a (suc k) =
    let p : a + 1 + n ≡ a + suc n = omega arith in
    let q : k - n ≡ suc k - suc n = omega arith in
    drop-after n (a + 1) k ∙ ap₂ after p q

pub spread : (w u own : List ℕ) → own ≡ w → u ≡ own → u ++ drop (length own) (after 0 32) ≡ with_fixed 32 w
spread w u own e f =
    let z : 0 + length w ≡ length w = omega arith in
    ap₂ (λ x y. x ++ drop (length y) (after 0 32)) (f ∙ e) e
    ∙ ap (λ t. w ++ t) (drop-after (length w) 0 32 ∙ ap (λ k. after k (32 - length w)) z)

pub filled_of : (w u : List ℕ) (n : ℕ) → u ≡ with_fixed 32 w → IsWithinLimits w → length w ≤ 32 → n ≡ inversions w → IsFilled u n
filled_of w u n e l s c =
    subst (λ v. IsFilled v n) (sym e) (record {
      one_line = (short_fixed 32 w (omega arith) l).one_line;
      long = omega (arith, length-with_fixed 32 w);
      count_is = c ∙ sym (same_inversions w 32 (omega arith) l);
    })

pub swapped : (u v : List ℕ) (n a b : ℕ) → IsFilled u n → v ≡ swap u a b → length v ≡ length u → a < b → b < 32
    → inversions (swap u a b) ≡ inversions u + 1 → IsFilled v (n + 1)
swapped u v n a b f e m h l i =
    let k = f.long in
    let c = f.count_is in
    let s = short_swap u a b (omega arith) (omega arith) (short_of u n f) in
    record {
      one_line = (subst IsShortPermutation (sym e) s).one_line;
      long = m ∙ k;
      count_is = ap (λ x. x + 1) c ∙ sym i ∙ ap inversions (sym e);
    }

pub exchanged_kept : (u w : List ℕ) (a b : ℕ) → kept u ≡ w → a < b → b < length u → times_swap (a + 1) (b + 1) w ≡ kept (swap u a b)
exchanged_kept u w a b e h l =
    ap (times_swap (a + 1) (b + 1)) (sym e) ∙ times_swap_kept u (a + 1) (b + 1) (omega arith) (omega arith) ∙ swap_in u a b h l

-- an exchange is a cover of w if and only if it is one of the 32 letters of w
pub exchange_test : (u w : List ℕ) (n a b : ℕ) → kept u ≡ w → IsFilled u n → a < b → b < 32
    → (inversions (times_swap (a + 1) (b + 1) w) == inversions w + 1) ≡ (inversions (swap u a b) == inversions u + 1)
exchange_test u w n a b e f h l =
    let k = f.long in
    let s = short_of u n f in
    ap₂ (λ c d. c == d + 1)
    (ap inversions (exchanged_kept u w a b e h (omega arith))
    ∙ inversions_kept (swap u a b) (short_swap u a b (omega arith) (omega arith) s).one_line)
    (ap inversions (sym e) ∙ inversions_kept u s.one_line)

pub cover_is : (u w : List ℕ) (n a b : ℕ) (t : Bool) → kept u ≡ w → IsFilled u n → a < b → b < 32
    → (inversions (swap u a b) == inversions u + 1) ≡ t
    → covers_among w (times_swap (a + 1) (b + 1) w ∷ []) ≡ cond t (kept (swap u a b) ∷ []) []
cover_is u w n a b t e f h l q =
    let k = f.long in
    ap₂ (λ c y. cond c (y ∷ []) []) (exchange_test u w n a b e f h l ∙ q) (exchanged_kept u w a b e h (omega arith))
