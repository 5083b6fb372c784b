-- Covers and chains of permutations w that are written without fixed letters at the end, from those of w with fixed letters added up to N letters.
--     swap_short        an exchange of two letters, with N letters and without fixed letters at the end
--     before_kept, ..   the clauses of `fixed_letters_law`
--     lifted_less       a cover of a chain makes one of the first k letters greater than all that the chain still exchanges
use Rattle.std.proofs.Common.{◌≡◌, ◌⊎◌, ℕ, zero, suc, ◌+◌, ◌-◌, ◌<◌, ◌≤◌, ◌==◌, max, Bool, true, false, List, [], ◌∷◌, ◌++◌, length, map, flat_map, refl, sym, ◌∙◌, ap, ap₂, subst, arith, inl, inr, cond, nat_lt, take, filter, ℤ, ◌+ℤ◌, length-append, append_assoc}
use Rattle.std.specs.List.{swap}
use Rattle.std.proofs.Math.ListN.{get_or-append}
use Rattle.std.proofs.lemmas.Bool.{cases_eq, cases_lt, lt-ltb, le-ltb}
use Rattle.std.proofs.lemmas.List.Filters.{length-filter_more}
use Rattle.sym_model.specs.Sum.{total, Among}
use Rattle.sym_model.specs.Partition.{after}
use Rattle.sym_model.specs.PlaceOrders.{inversions, places}
use Rattle.sym_model.specs.Permutation.{IsOneLine, kept, with_fixed, swapped, times_swap, covers_among, covers_down}
use Rattle.sym_model.specs.Polynomial.{Same, times, pair}
use Rattle.sym_model.specs.Schubert.{schubert_in, schuberts_in}
use Rattle.sym_model.proofs.AfterLists.{length_after, after_among, after-append}
use Rattle.sym_model.proofs.Polynomials.{pair_each, pair_determined, same_from_pair, Same_refl, times_respects}
use Rattle.sym_model.proofs.Sums.{Among_from_map, Among_from_select, total_among, total_append, total_each, total_map}
use Rattle.schubert_laws.specs.Chains.{letters_before, lifted, chains_from, elementary_in}
use Rattle.schubert_laws.specs.PathCovers.{covers_after, covers_before}
use Rattle.schubert_laws.specs.ShortPermutations.{IsShort}
use Rattle.schubert_laws.proofs.ChainLetters.{cover_test, pieri_sum}
use Rattle.schubert_laws.proofs.ChainSums.{letter_there, place_below, place_is}
use Rattle.schubert_laws.proofs.CoverRelations.{Exchanged}
use Rattle.schubert_laws.proofs.CoverTests.{letter_at, covers_only_if, exchanged_at}
use Rattle.schubert_laws.proofs.FixedTails.{one_line_added, one_line_kept, inversions_added, inversions_kept, kept_added, schubert_added}
use Rattle.schubert_laws.proofs.IndependentSchuberts.{length-with_fixed}
use Rattle.schubert_laws.proofs.LowerPermutations.{kept_whole}
use Rattle.schubert_laws.proofs.MonkFromOne.{swap_is, one_line_swap}
use Rattle.schubert_laws.proofs.Pieri.{paired}
use Rattle.schubert_laws.proofs.Swaps.{swap_at, length-swap_at}
use Rattle.schubert_laws.proofs.TransitionFromOne.{times_swap_kept, kept_swap}
use Rattle.double_schubert_laws.specs.KeptChains.{kept_lifted, kept_chains, less_among}

-- ---- exchanges

pub fixed_one_line : (N : ℕ) (w : List ℕ) → IsShort N w → IsOneLine (with_fixed N w)
fixed_one_line N w s = one_line_added (N - length w) w s.one_line

-- the number of fixed letters at the end of u
tail_length : (u : List ℕ) → length u ≡ length (kept u) + (kept_whole u).0
tail_length u =
    let t = kept_whole u in
    ap length t.1 ∙ length-append (kept u) (after (length (kept u)) t.0) ∙ ap (λ k. length (kept u) + k) (length_after (length (kept u)) t.0)

pub fixed_again : (N : ℕ) (u : List ℕ) → length u ≡ N → with_fixed N (kept u) ≡ u
fixed_again N u l =
    let n = tail_length u in
    let e : N - length (kept u) ≡ (kept_whole u).0 = omega arith in
    ap (λ k. kept u ++ after (length (kept u)) k) e ∙ sym (kept_whole u).1

pub short_kept : (N : ℕ) (u : List ℕ) → IsOneLine u → length u ≡ N → 0 < N → IsShort N (kept u)
short_kept N u o l h = record {
  one_line = one_line_kept u o;
  short = (let n = tail_length u in omega arith);
  some = some u (omega arith);
  whole = sym (kept_added (kept u) (kept_whole u).0 (some u (omega arith))) ∙ ap kept (sym (kept_whole u).1);
}
  where
    some : (v : List ℕ) → 0 < length v → 0 < length (kept v)
    some [] g = g
    some (a ∷ v) g = omega arith

swap_short : (N a b : ℕ) (w : List ℕ) → IsShort N w → a < b → b < N → times_swap (suc a) (suc b) w ≡ kept (swap_at a b (with_fixed N w))
swap_short N a b w s h l =
    ap (times_swap (suc a) (suc b)) (sym (kept_added w (N - length w) s.some ∙ s.whole))
    ∙ times_swap_kept (with_fixed N w) (suc a) (suc b) (omega arith) (omega arith)
    ∙ kept_swap (with_fixed N w) a b h (let n = length-with_fixed N w s.short in omega arith)

-- the permutations that exchanges give, for places i < j from 1 to N
pub record AreSwapped (N i j : ℕ) (w : List ℕ) : Type 0 where
  pub list : swapped i j (with_fixed N w) ≡ with_fixed N (times_swap i j w)
  pub count : inversions (times_swap i j w) ≡ inversions (swapped i j (with_fixed N w))
  pub short : IsShort N (times_swap i j w)

swapped_from_zero : (N a b : ℕ) (w : List ℕ) → IsShort N w → a < b → b < N → AreSwapped N (suc a) (suc b) w
swapped_from_zero N a b w s h l = record {
  list = at ∙ sym (ap (with_fixed N) (swap_short N a b w s h l) ∙ fixed_again N (swap_at a b (with_fixed N w)) (length-swap_at a b (with_fixed N w) ∙ long));
  count =
      ap inversions (swap_short N a b w s h l)
      ∙ inversions_kept (swap_at a b (with_fixed N w)) one
      ∙ ap inversions (sym at);
  short = subst (IsShort N) (sym (swap_short N a b w s h l)) (short_kept N (swap_at a b (with_fixed N w)) one (length-swap_at a b (with_fixed N w) ∙ long) (omega arith));
}
  where
    long : length (with_fixed N w) ≡ N
    long = length-with_fixed N w s.short

    one : IsOneLine (swap_at a b (with_fixed N w))
    one = one_line_swap a b (with_fixed N w) (let n = long in omega arith) (let n = long in omega arith) (fixed_one_line N w s)

    at : swapped (suc a) (suc b) (with_fixed N w) ≡ swap_at a b (with_fixed N w)
    at =
        let x : suc a - 1 ≡ a = omega arith in
        let y : suc b - 1 ≡ b = omega arith in
        ap₂ (swap (with_fixed N w)) x y ∙ swap_is (with_fixed N w) a b (let n = long in omega arith) (let n = long in omega arith)

pub are_swapped : (N i j : ℕ) (w : List ℕ) → IsShort N w → 1 ≤ i → i < j → j ≤ N → AreSwapped N i j w
are_swapped N zero j w s c h l = absurd (omega arith)
are_swapped N (suc a) zero w s c h l = absurd (omega arith)
are_swapped N (suc a) (suc b) w s c h l = swapped_from_zero N a b w s (omega arith) (omega arith)

-- ---- covers

covers_with_fixed : (N : ℕ) (w : List ℕ) (f g : ℕ → List ℕ) (js : List ℕ) → IsShort N w → ((j : ℕ) → Among j js → g j ≡ with_fixed N (f j))
    → ((j : ℕ) → Among j js → inversions (f j) ≡ inversions (g j)) → covers_among (with_fixed N w) (map g js) ≡ map (with_fixed N) (covers_among w (map f js))
covers_with_fixed N w f g [] s e i = refl
covers_with_fixed N w f g (j ∷ js) s e i =
    ap₂ (λ t x. cond t (x ∷ covers_among (with_fixed N w) (map g js)) (covers_among (with_fixed N w) (map g js)))
    (ap₂ (λ x y. x == y + 1) (sym (i j (inl refl))) (inversions_added (N - length w) w s.one_line)) (e j (inl refl))
    ∙ by (inversions (f j) == inversions w + 1) (covers_with_fixed N w f g js s (λ x m. e x (inr m)) (λ x m. i x (inr m)))
  where
    by : (t : Bool) → covers_among (with_fixed N w) (map g js) ≡ map (with_fixed N) (covers_among w (map f js))
        → cond t (with_fixed N (f j) ∷ covers_among (with_fixed N w) (map g js)) (covers_among (with_fixed N w) (map g js))
        ≡ map (with_fixed N) (cond t (f j ∷ covers_among w (map f js)) (covers_among w (map f js)))
    by true r = ap (λ l. with_fixed N (f j) ∷ l) r
    by false r = r

pub before_kept : (r N : ℕ) (w : List ℕ) → IsShort N w → 1 ≤ r → r ≤ N → covers_before r (with_fixed N w) ≡ map (with_fixed N) (covers_down r w)
before_kept r N w s h l =
    covers_with_fixed N w (λ a. times_swap a r w) (λ a. swapped a r (with_fixed N w)) (after 0 (r - 1)) s (λ a m. (there a m).list) (λ a m. (there a m).count)
  where
    there : (a : ℕ) → Among a (after 0 (r - 1)) → AreSwapped N a r w
    there a m = let x = after_among 0 (r - 1) a m in let x0 = x.0 in let x1 = x.1 in are_swapped N a r w s (omega arith) (omega arith) l

pub after_kept : (r N : ℕ) (w : List ℕ) → IsShort N w → 1 ≤ r → r ≤ N
    → covers_after r (with_fixed N w) ≡ map (with_fixed N) (covers_among w (map (λ b. times_swap r b w) (after r (N - r))))
after_kept r N w s h l =
    ap (λ n. covers_among (with_fixed N w) (map (λ b. swapped r b (with_fixed N w)) (after r (n - r)))) (length-with_fixed N w s.short)
    ∙ covers_with_fixed N w (λ b. times_swap r b w) (λ b. swapped r b (with_fixed N w)) (after r (N - r)) s (λ b m. (there b m).list) (λ b m. (there b m).count)
  where
    there : (b : ℕ) → Among b (after r (N - r)) → AreSwapped N r b w
    there b m = let x = after_among r (N - r) b m in let x0 = x.0 in let x1 = x.1 in are_swapped N r b w s h (omega arith) (omega arith)

short_among : (N : ℕ) (w v : List ℕ) (f : ℕ → List ℕ) (js : List ℕ) → ((j : ℕ) → Among j js → IsShort N (f j)) → Among v (covers_among w (map f js)) → IsShort N v
short_among N w v f js s i =
    let x = Among_from_map f v js (Among_from_select (λ u. inversions u == inversions w + 1) v (map f js) i).0 in
    subst (IsShort N) (sym x.2) (s x.0 x.1)

pub before_short : (r N : ℕ) (w v : List ℕ) → IsShort N w → 1 ≤ r → r ≤ N → Among v (covers_down r w) → IsShort N v
before_short r N w v s h l =
    short_among N w v (λ a. times_swap a r w) (after 0 (r - 1)) (λ a m.
    let x = after_among 0 (r - 1) a m in let x0 = x.0 in let x1 = x.1 in (are_swapped N a r w s (omega arith) (omega arith) l).short)

pub after_short : (r N : ℕ) (w v : List ℕ) → IsShort N w → 1 ≤ r → r ≤ N → Among v (covers_among w (map (λ b. times_swap r b w) (after r (N - r)))) → IsShort N v
after_short r N w v s h l =
    short_among N w v (λ b. times_swap r b w) (after r (N - r)) (λ b m.
    let x = after_among r (N - r) b m in let x0 = x.0 in let x1 = x.1 in (are_swapped N r b w s h (omega arith) (omega arith)).short)

-- ---- places

pub fixed_longer : (m n : ℕ) (w : List ℕ) → length w ≤ m → m ≤ n → with_fixed n w ≡ with_fixed m w ++ after m (n - m)
fixed_longer m n w h l =
    let e : n - length w ≡ (m - length w) + (n - m) = omega arith in
    let f : length w + (m - length w) ≡ m = omega arith in
    ap (λ k. w ++ after (length w) k) e
    ∙ ap (λ x. w ++ x) (after-append (length w) (m - length w) (n - m) ∙ ap (λ k. after (length w) (m - length w) ++ after k (n - m)) f)
    ∙ sym (append_assoc w (after (length w) (m - length w)) (after m (n - m)))

pub widen : (m n : ℕ) (w : List ℕ) → IsShort m w → m ≤ n → IsShort n w
widen m n w s h = record { one_line = s.one_line; short = (let l = s.short in omega arith); some = s.some; whole = s.whole }

pub place_kept : (a m n : ℕ) (w : List ℕ) → IsShort m w → m ≤ n → 1 ≤ a → a ≤ m → letters_before a (with_fixed n w) ≡ letters_before a (with_fixed m w)
place_kept a m n w s h c l =
    let p = length-with_fixed m w s.short in
    let q = length-with_fixed n w (widen m n w s h).short in
    let o = fixed_one_line m w s in
    let b = place_below a (with_fixed m w) (fixed_one_line m w s) c (omega arith) in
    place_is a (letters_before a (with_fixed m w)) (with_fixed n w) (fixed_one_line n w (widen m n w s h)) c (omega arith)
    (ap (λ v. letter_at v (letters_before a (with_fixed m w))) (fixed_longer m n w s.short h)
    ∙ get_or-append (with_fixed m w) (after m (n - m)) (suc (letters_before a (with_fixed m w))) (letters_before a (with_fixed m w)) b
    ∙ letter_there a (with_fixed m w) o c (omega arith))

-- ---- chains

lifted_swaps : (k m N : ℕ) (w : List ℕ) → IsShort N w → 1 ≤ m → m ≤ N → k ≤ letters_before m (with_fixed N w) → (a : ℕ) → Among a (places k)
    → AreSwapped N a (letters_before m (with_fixed N w) + 1) w
lifted_swaps k m N w s h l f a i =
    let x = after_among 0 k a i in
    let x0 = x.0 in
    let x1 = x.1 in
    let n = length-with_fixed N w s.short in
    let b = place_below m (with_fixed N w) (fixed_one_line N w s) h (omega arith) in
    are_swapped N a (letters_before m (with_fixed N w) + 1) w s (omega arith) (omega arith) (omega arith)

lifted_kept : (k m N : ℕ) (w : List ℕ) → IsShort N w → 1 ≤ m → m ≤ N → lifted k m (with_fixed N w) ≡ map (with_fixed N) (kept_lifted k m N w)
lifted_kept k m N w s h l = elim (cases_lt (letters_before m (with_fixed N w)) k) [
  | inl f ↦
      ap (λ t. cond t [] (covers_among (with_fixed N w) (map (λ a. swapped a (letters_before m (with_fixed N w) + 1) (with_fixed N w)) (places k)))) (lt-ltb (letters_before m (with_fixed N w)) k f)
      ∙ sym (ap (λ t. map (with_fixed N) (cond t [] (covers_among w (map (λ a. times_swap a (letters_before m (with_fixed N w) + 1) w) (places k))))) (lt-ltb (letters_before m (with_fixed N w)) k f))
  | inr f ↦
      ap (λ t. cond t [] (covers_among (with_fixed N w) (map (λ a. swapped a (letters_before m (with_fixed N w) + 1) (with_fixed N w)) (places k)))) (le-ltb (letters_before m (with_fixed N w)) k f)
      ∙ covers_with_fixed N w (λ a. times_swap a (letters_before m (with_fixed N w) + 1) w) (λ a. swapped a (letters_before m (with_fixed N w) + 1) (with_fixed N w)) (places k) s (λ a i. (lifted_swaps k m N w s h l f a i).list) (λ a i. (lifted_swaps k m N w s h l f a i).count)
      ∙ sym (ap (λ t. map (with_fixed N) (cond t [] (covers_among w (map (λ a. times_swap a (letters_before m (with_fixed N w) + 1) w) (places k))))) (le-ltb (letters_before m (with_fixed N w)) k f))
]

pub lifted_short : (k m N : ℕ) (w v : List ℕ) → IsShort N w → 1 ≤ m → m ≤ N → Among v (kept_lifted k m N w) → IsShort N v
lifted_short k m N w v s h l i = elim (cases_lt (letters_before m (with_fixed N w)) k) [
  | inl f ↦ absurd (subst (λ t. Among v (cond t [] (covers_among w (map (λ a. times_swap a (letters_before m (with_fixed N w) + 1) w) (places k))))) (lt-ltb (letters_before m (with_fixed N w)) k f) i)
  | inr f ↦
      short_among N w v (λ a. times_swap a (letters_before m (with_fixed N w) + 1) w) (places k) (λ a j. (lifted_swaps k m N w s h l f a j).short)
      (subst (λ t. Among v (cond t [] (covers_among w (map (λ a. times_swap a (letters_before m (with_fixed N w) + 1) w) (places k))))) (le-ltb (letters_before m (with_fixed N w)) k f) i)
]

chains_kept : (m d k N : ℕ) (φ ψ : List ℕ → ℤ) (w : List ℕ) → ((v : List ℕ) → IsShort N v → φ (with_fixed N v) ≡ ψ v) → IsShort N w → m ≤ N
    → total φ (chains_from m d k (with_fixed N w)) ≡ total ψ (kept_chains m d k N w)
chains_kept zero zero k N φ ψ w e s h = ap (λ z. z +ℤ total ψ []) (e w s)
chains_kept zero (suc d) k N φ ψ w e s h = refl
chains_kept (suc m) zero k N φ ψ w e s h = chains_kept m zero k N φ ψ w e s (omega arith)
chains_kept (suc m) (suc d) k N φ ψ w e s h =
    total_append φ (chains_from m (suc d) k (with_fixed N w)) (flat_map (λ v. chains_from m d k v) (lifted k (suc m) (with_fixed N w)))
    ∙ ap₂ ◌+ℤ◌ (chains_kept m (suc d) k N φ ψ w e s (omega arith))
    (total_each φ (λ v. chains_from m d k v) (lifted k (suc m) (with_fixed N w))
    ∙ ap (total (λ v. total φ (chains_from m d k v))) (lifted_kept k (suc m) N w s (omega arith) h)
    ∙ total_map (λ v. total φ (chains_from m d k v)) (with_fixed N) (kept_lifted k (suc m) N w)
    ∙ total_among (λ v. total φ (chains_from m d k (with_fixed N v))) (λ v. total ψ (kept_chains m d k N v)) (kept_lifted k (suc m) N w) (λ v i.
    chains_kept m d k N φ ψ v e (lifted_short k (suc m) N w v s (omega arith) h i) (omega arith))
    ∙ sym (total_each ψ (λ v. kept_chains m d k N v) (kept_lifted k (suc m) N w)))
    ∙ sym (total_append ψ (kept_chains m (suc d) k N w) (flat_map (λ v. kept_chains m d k N v) (kept_lifted k (suc m) N w)))

added : (n N : ℕ) (f : List ℕ → ℤ) (w : List ℕ) → IsShort N w → paired n f (with_fixed N w) ≡ paired n f w
added n N f w s = pair_determined (schubert_in (with_fixed N w) n) (schubert_in w n) f (schubert_added (N - length w) w n s.one_line)

-- N letters are one more than w has with N - 1 letters, and k is less
pieri_fixed : (d k n N : ℕ) (w : List ℕ) (f : List ℕ → ℤ) → IsShort N w → max (length w) k < N
    → total (paired n f) (chains_from N d k (with_fixed N w)) ≡ pair (times (elementary_in d k n) (schubert_in w n)) f
pieri_fixed d k n N w f s h =
    let p = length-with_fixed (N - 1) w (omega arith) in
    let e : N ≡ max (length (with_fixed (N - 1) w)) k + 1 = omega arith in
    let g : N - (N - 1) ≡ N - length (with_fixed (N - 1) w) = omega arith in
    ap (λ v. total (paired n f) (chains_from N d k v)) (fixed_longer (N - 1) N w (omega arith) (omega arith) ∙ ap₂ (λ i j. with_fixed (N - 1) w ++ after i j) (sym p) g)
    ∙ ap (λ m. total (paired n f) (chains_from m d k (with_fixed m (with_fixed (N - 1) w)))) e
    ∙ pieri_sum d k n (with_fixed (N - 1) w) f (one_line_added (N - 1 - length w) w s.one_line)
    ∙ pair_determined (times (elementary_in d k n) (schubert_in (with_fixed (N - 1) w) n)) (times (elementary_in d k n) (schubert_in w n)) f
    (times_respects (elementary_in d k n) (elementary_in d k n) (schubert_in (with_fixed (N - 1) w) n) (schubert_in w n) (Same_refl (elementary_in d k n)) (schubert_added (N - 1 - length w) w n s.one_line))

pub pieri_short : (d k n N : ℕ) (w : List ℕ) (f : List ℕ → ℤ) → IsShort N w → max (length w) k < N
    → total (paired n f) (kept_chains N d k N w) ≡ pair (times (elementary_in d k n) (schubert_in w n)) f
pieri_short d k n N w f s h = sym (chains_kept N d k N (paired n f) (paired n f) w (added n N f) s (omega arith)) ∙ pieri_fixed d k n N w f s h

pub pieri_kept : (d k n N : ℕ) (w : List ℕ) → IsShort N w → max (length w) k < N
    → Same (times (elementary_in d k n) (schubert_in w n)) (schuberts_in (kept_chains N d k N w) n)
pieri_kept d k n N w s h =
    same_from_pair (times (elementary_in d k n) (schubert_in w n)) (schuberts_in (kept_chains N d k N w) n) (λ f.
    sym (pieri_short d k n N w f s h) ∙ sym (pair_each (λ v. schubert_in v n) (kept_chains N d k N w) f))

-- ---- chains that do not go on: each cover of a chain needs another one of the first k letters

fewer_less : (m : ℕ) (xs : List ℕ) → length (filter (λ a. nat_lt a m) xs) ≤ length (filter (λ a. nat_lt a (suc m)) xs)
fewer_less m [] = omega arith
fewer_less m (a ∷ xs) = by (cases_lt a m) (cases_lt a (suc m)) (fewer_less m xs)
  where
    by : (a < m) ⊎ (m ≤ a) → (a < suc m) ⊎ (suc m ≤ a) → length (filter (λ a. nat_lt a m) xs) ≤ length (filter (λ a. nat_lt a (suc m)) xs)
        → length (filter (λ a. nat_lt a m) (a ∷ xs)) ≤ length (filter (λ a. nat_lt a (suc m)) (a ∷ xs))
    by (inl f) (inl g) r =
        let x = ap (λ t. length (cond t (a ∷ filter (λ a. nat_lt a m) xs) (filter (λ a. nat_lt a m) xs))) (lt-ltb a m f) in
        let y = ap (λ t. length (cond t (a ∷ filter (λ a. nat_lt a (suc m)) xs) (filter (λ a. nat_lt a (suc m)) xs))) (lt-ltb a (suc m) g) in
        omega arith
    by (inl f) (inr g) r = absurd (omega arith)
    by (inr f) (inl g) r =
        let x = ap (λ t. length (cond t (a ∷ filter (λ a. nat_lt a m) xs) (filter (λ a. nat_lt a m) xs))) (le-ltb a m f) in
        let y = ap (λ t. length (cond t (a ∷ filter (λ a. nat_lt a (suc m)) xs) (filter (λ a. nat_lt a (suc m)) xs))) (lt-ltb a (suc m) g) in
        omega arith
    by (inr f) (inr g) r =
        let x = ap (λ t. length (cond t (a ∷ filter (λ a. nat_lt a m) xs) (filter (λ a. nat_lt a m) xs))) (le-ltb a m f) in
        let y = ap (λ t. length (cond t (a ∷ filter (λ a. nat_lt a (suc m)) xs) (filter (λ a. nat_lt a (suc m)) xs))) (le-ltb a (suc m) g) in
        omega arith

next_less : (k m : ℕ) (w : List ℕ) → k < length w → less_among (suc k) m w ≡ less_among k m w + cond (nat_lt (letter_at w k) m) 1 0
next_less k m w h =
    let e : k + 1 ≡ suc k = omega arith in
    ap (λ i. length (filter (λ a. nat_lt a m) (take i w))) (sym e) ∙ length-filter_more (λ a. nat_lt a m) w k (suc k) h

same_less : (k m : ℕ) (w v : List ℕ) → k ≤ length w → length v ≡ length w → ((c : ℕ) → c < k → letter_at v c ≡ letter_at w c) → less_among k m v ≡ less_among k m w
same_less zero m w v h l e = refl
same_less (suc k) m w v h l e =
    next_less k m v (omega arith)
    ∙ ap₂ (λ x y. x + cond (nat_lt y m) 1 0) (same_less k m w v (omega arith) l (λ c i. e c (omega arith))) (e k (omega arith))
    ∙ sym (next_less k m w (omega arith))

one_less : (k m a b : ℕ) (w v : List ℕ) → Exchanged (letter_at w) a b (letter_at v) → length v ≡ length w → a < k → k ≤ b → k ≤ length w → letter_at w a < m → m ≤ letter_at w b
    → less_among k m w ≡ suc (less_among k m v)
one_less zero m a b w v x l h g i p q = absurd (omega arith)
one_less (suc k) m a b w v x l h g i p q = elim (cases_eq a k) [
  | inl e ↦
      let n = next_less k m w (omega arith) in
      let o = next_less k m v (omega arith) in
      let s = same_less k m w v (omega arith) l (λ c j. x.2 c (λ y. omega arith) (λ y. omega arith)) in
      let y = ap (letter_at w) e in
      let z = ap (letter_at v) e in
      let x0 = x.0 in
      let t : cond {A = ℕ} (nat_lt (letter_at w k) m) 1 0 ≡ 1 = ap (λ z. cond {A = ℕ} z 1 0) (lt-ltb (letter_at w k) m (omega arith)) in
      let u : cond {A = ℕ} (nat_lt (letter_at v k) m) 1 0 ≡ 0 = ap (λ z. cond {A = ℕ} z 1 0) (le-ltb (letter_at v k) m (omega arith)) in
      omega arith
  | inr e ↦
      let n = next_less k m w (omega arith) in
      let o = next_less k m v (omega arith) in
      let r = one_less k m a b w v x l (omega (arith, e)) (omega arith) (omega arith) p q in
      let s = ap (λ y. cond {A = ℕ} (nat_lt y m) 1 0) (x.2 k (λ y. e (sym y)) (λ y. omega arith)) in
      omega arith
]

lifted_less : (k m N : ℕ) (w v : List ℕ) → IsShort N w → 1 ≤ m → m ≤ N → Among v (kept_lifted k m N w) → less_among k m (with_fixed N w) ≡ suc (less_among k m (with_fixed N v))
lifted_less k m N w v s h l i = elim (cases_lt (letters_before m (with_fixed N w)) k) [
  | inl f ↦ absurd (subst (λ t. Among v (cond t [] (covers_among w (map (λ a. times_swap a (letters_before m (with_fixed N w) + 1) w) (places k))))) (lt-ltb (letters_before m (with_fixed N w)) k f) i)
  | inr f ↦ from f (subst (λ t. Among v (cond t [] (covers_among w (map (λ a. times_swap a (letters_before m (with_fixed N w) + 1) w) (places k))))) (le-ltb (letters_before m (with_fixed N w)) k f) i)
]
  where
    from : k ≤ letters_before m (with_fixed N w) → Among v (covers_among w (map (λ a. times_swap a (letters_before m (with_fixed N w) + 1) w) (places k)))
        → less_among k m (with_fixed N w) ≡ suc (less_among k m (with_fixed N v))
    from f j =
        let x = Among_from_select (λ u. inversions u == inversions w + 1) v (map (λ a. times_swap a (letters_before m (with_fixed N w) + 1) w) (places k)) j in
        let y = Among_from_map (λ a. times_swap a (letters_before m (with_fixed N w) + 1) w) v (places k) x.0 in
        let z = after_among 0 k y.0 y.1 in
        let z0 = z.0 in
        let z1 = z.1 in
        let n = length-with_fixed N w s.short in
        let o = fixed_one_line N w s in
        let b = place_below m (with_fixed N w) (fixed_one_line N w s) h (omega arith) in
        let there = letter_there m (with_fixed N w) (fixed_one_line N w s) h (omega arith) in
        let t = lifted_swaps k m N w s h l f y.0 y.1 in
        let e : letters_before m (with_fixed N w) + 1 - 1 ≡ letters_before m (with_fixed N w) = omega arith in
        let at = ap (swap (with_fixed N w) (y.0 - 1)) e ∙ swap_is (with_fixed N w) (y.0 - 1) (letters_before m (with_fixed N w)) (omega arith) b in
        let same = sym at ∙ t.list ∙ ap (with_fixed N) (sym y.2) in
        let test = ap₂ (λ c d. c == d + 1) (ap inversions y.2 ∙ t.count ∙ ap (λ c. inversions (swap (with_fixed N w) (y.0 - 1) c)) e) (sym (inversions_added (N - length w) w s.one_line)) in
        let cover = sym (cover_test (y.0 - 1) (letters_before m (with_fixed N w)) (with_fixed N w) (fixed_one_line N w s) (omega arith) b) ∙ sym test ∙ x.1 in
        let rises = (covers_only_if (y.0 - 1) (letters_before m (with_fixed N w)) (with_fixed N w) (fixed_one_line N w s) (omega arith) b cover).0 in
        one_less k m (y.0 - 1) (letters_before m (with_fixed N w)) (with_fixed N w) (with_fixed N v)
        (subst (λ u. Exchanged (letter_at (with_fixed N w)) (y.0 - 1) (letters_before m (with_fixed N w)) (letter_at u)) same (exchanged_at (y.0 - 1) (letters_before m (with_fixed N w)) (with_fixed N w) (omega arith) b))
        (ap length (sym same) ∙ length-swap_at (y.0 - 1) (letters_before m (with_fixed N w)) (with_fixed N w))
        (omega arith) f (omega arith) (omega arith) (omega arith)

each_empty : (F : List ℕ → List (List ℕ)) (xs : List (List ℕ)) → ((x : List ℕ) → Among x xs → F x ≡ []) → flat_map F xs ≡ []
each_empty F [] e = refl
each_empty F (x ∷ xs) e = ap₂ (λ a b. a ++ b) (e x (inl refl)) (each_empty F xs (λ y m. e y (inr m)))

pub none_kept : (m d k N : ℕ) (w : List ℕ) → IsShort N w → m ≤ N → less_among k m (with_fixed N w) < d → kept_chains m d k N w ≡ []
none_kept zero zero k N w s h l = absurd (omega arith)
none_kept zero (suc d) k N w s h l = refl
none_kept (suc m) zero k N w s h l = absurd (omega arith)
none_kept (suc m) (suc d) k N w s h l =
    ap₂ (λ a b. a ++ b) (none_kept m (suc d) k N w s (omega arith) (let x = fewer_less m (take k (with_fixed N w)) in omega arith))
    (each_empty (λ v. kept_chains m d k N v) (kept_lifted k (suc m) N w) (λ v i.
    none_kept m d k N v (lifted_short k (suc m) N w v s (omega arith) h i) (omega arith)
    (let x = fewer_less m (take k (with_fixed N v)) in let y = lifted_less k (suc m) N w v s (omega arith) h i in omega arith)))
