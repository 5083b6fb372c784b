-- The blocks of a permutation w. If blocks end at the places n and k, n < k (`IsEnd`), the Stanley polynomial of the first k letters is the product
-- of those of the first n letters and of 1, .., n followed by the other letters (`between`).
use Rattle.std.proofs.Common.{◌≡◌, ℕ, zero, suc, ◌+◌, ◌-◌, ◌<◌, ◌≤◌, List, [], ◌∷◌, ◌++◌, length, take, drop, get_or, inl, inr, refl, map, append_assoc, sym, ◌∙◌, ap, ap₂, subst, arith, length-append}
use Rattle.std.specs.Prelude.{slice_range}
use Rattle.std.proofs.Math.Seq.{take-suc}
use Rattle.std.proofs.lemmas.List.{map-append, take-append-drop, drop-take, length-take-le, take_all, take-append-le}
use Rattle.sym_model.specs.Sum.{Among}
use Rattle.sym_model.specs.Partition.{after}
use Rattle.sym_model.specs.Polynomial.{Same, times}
use Rattle.sym_model.specs.Permutation.{IsOneLine}
use Rattle.sym_model.specs.Stanley.{behind, stanley_in}
use Rattle.sym_model.proofs.AfterLists.{length_after, after-append}
use Rattle.sym_model.proofs.Sums.{Among_from_append}
use Rattle.schubert_laws.proofs.Blocks.{IsBehind, block_end, one_line_beside, one_line_after, stanley_beside}
use Rattle.stanley_expand.specs.Blocks.{IsEnd, between}

pub end_first : (w : List ℕ) → IsEnd w 0
end_first w = record { inside = omega arith; small = λ a i. absurd i }

pub end_last : (w : List ℕ) (n : ℕ) → IsOneLine w → n ≡ length w → IsEnd w n
end_last w n o e = record { inside = omega arith; small = λ a i. let r = (o.letters a (subst (Among a) (take_all n w (omega arith)) i)).1 in omega arith }

pub between_first : (n : ℕ) (w : List ℕ) → between 0 n w ≡ take n w
between_first n w = let e : n - 0 ≡ n = omega arith in ap (λ i. take i w) e

pub between_all : (P : List ℕ → Type 0) (w : List ℕ) (n : ℕ) → n ≡ length w → P (between 0 n w) → P w
between_all P w n e p = subst P (between_first n w ∙ take_all n w (omega arith)) p

module _ (w : List ℕ) (n k : ℕ) (o : IsOneLine w) (a : IsEnd w n) (h : n < k) (b : IsEnd w k) where
  first : length (take n w) ≡ n
  first = length-take-le n w a.inside

  last : length (take k w) ≡ k
  last = length-take-le k w b.inside

  rest : drop n (take k w) ≡ slice_range w n k
  rest = let e : n + (k - n) ≡ k = omega arith in ap (λ i. drop n (take i w)) (sym e) ∙ drop-take n (k - n) w

  front : take n (take k w) ≡ take n w
  front =
      let e = length-take-le k w b.inside in
      sym (take-append-le n (take k w) (drop k w) (omega arith)) ∙ ap (take n) (take-append-drop k w)

  both : take n w ++ slice_range w n k ≡ take k w
  both = ap (λ v. v ++ slice_range w n k) (sym front) ∙ ap (λ v. take n (take k w) ++ v) (sym rest) ∙ take-append-drop n (take k w)

  one_line_first : IsOneLine (take k w)
  one_line_first = (block_end (take k w) (drop k w) (subst IsOneLine (sym (take-append-drop k w)) o) (λ c i. let s = b.small c i in let l = last in omega arith)).0

  parts : IsOneLine (take n w) × IsBehind (length (take n w)) (slice_range w n k)
  parts = block_end (take n w) (slice_range w n k) (subst IsOneLine (sym both) one_line_first) (λ c i. let s = a.small c i in let l = first in omega arith)

  is_behind : IsBehind n (slice_range w n k)
  is_behind = subst (λ l. IsBehind l (slice_range w n k)) first parts.1

  pub one_line_between : IsOneLine (between n k w)
  one_line_between = one_line_beside n (after 0 n) (slice_range w n k) (one_line_after n) (length_after 0 n) is_behind

  pub length_between : length (between n k w) ≡ k
  length_between =
      let a = length-append (after 0 n) (slice_range w n k) in
      let c = length_after 0 n in
      let d = length-append (take n w) (slice_range w n k) in
      let e = ap length both in
      let f = first in
      let l = last in
      omega arith

  pub stanley_between : (m : ℕ) → Same (stanley_in (take k w) m) (times (stanley_in (take n w) m) (stanley_in (between n k w) m))
  stanley_between m =
      subst (λ v. Same (stanley_in v m) (times (stanley_in (take n w) m) (stanley_in (between n k w) m))) both
      (stanley_beside n (take n w) (slice_range w n k) m parts.0 first is_behind)

-- ---- one more letter

pub small_next : (w : List ℕ) (at most next : ℕ) → at < length w → ((a : ℕ) → Among a (take at w) → a ≤ most) → most ≤ next → get_or w at 0 ≤ next
    → (a : ℕ) → Among a (take (at + 1) w) → a ≤ next
small_next w at most next h small l g a i =
    let e : at + 1 ≡ suc at = omega arith in
    elim (Among_from_append a (take at w) (get_or w at 0 ∷ []) (subst (Among a) (ap (λ n. take n w) e ∙ take-suc w at 0 h) i)) [
      | inl k ↦ let s = small a k in omega arith
      | inr k ↦ elim k [ inl d ↦ omega arith | inr none ↦ absurd none ]
    ]

-- ---- a block after fixed letters

raised_after : (m n k : ℕ) → map (λ a. a + m) (after n k) ≡ after (m + n) k
raised_after m n zero = refl
raised_after m n (suc k) = ap₂ ◌∷◌ (omega arith) (raised_after m (n + 1) k ∙ ap (λ i. after i k) (omega arith))

pub behind_between : (m n k : ℕ) (w : List ℕ) → after 0 (m + n) ++ map (λ a. a + m) (slice_range w n k) ≡ behind m (between n k w)
behind_between m n k w =
    let e : m + 0 ≡ 0 + m = omega arith in
    ap (λ v. v ++ map (λ a. a + m) (slice_range w n k)) (after-append 0 m n ∙ ap (λ v. after 0 m ++ v) (sym (raised_after m 0 n ∙ ap (λ i. after i n) e)))
    ∙ append_assoc (after 0 m) (map (λ a. a + m) (after 0 n)) (map (λ a. a + m) (slice_range w n k))
    ∙ ap (λ v. after 0 m ++ v) (sym (map-append (λ a. a + m) (after 0 n) (slice_range w n k)))

pub letters_behind : (m n k at : ℕ) (w all items : List ℕ) → all ≡ after 0 (m + n) ++ map (λ a. a + m) (take at items) → length items ≤ at → items ≡ slice_range w n k
    → all ≡ behind m (between n k w)
letters_behind m n k at w all items e l f =
    e ∙ ap (λ (v : List ℕ). after 0 (m + n) ++ map (λ a. a + m) v) (take_all at items l ∙ f) ∙ behind_between m n k w
