-- The code of a list: its entry at each place is the number of later letters that are smaller than the letter there. A permutation and its code
-- determine each other.
use Rattle.std.proofs.Common.{◌≡◌, ℕ, zero, suc, ◌+◌, ◌<◌, ◌≤◌, List, [], ◌∷◌, ◌++◌, length, get_or, refl, sym, ◌∙◌, ap, ap₂, subst, arith, inl, inr, ◌⊎◌, cond, nat_lt, pos, append_assoc, replicate, None, ◌↔◌, rules}
use Rattle.std.specs.List.{remove}
use Rattle.std.proofs.lemmas.Int.{ints}
use Rattle.std.proofs.lemmas.List.{append-nil, length-replicate}
use Rattle.std.proofs.lemmas.Bool.{cases_eq, cases_lt, cond_below}
use Rattle.sym_model.specs.Sum.{total, Among, Once, Within}
use Rattle.sym_model.specs.Partition.{size, after}
use Rattle.sym_model.specs.PlaceOrders.{places, smaller, inversions}
use Rattle.sym_model.specs.Permutation.{IsOneLine, kept, code, IsCode, letters_by_code, from_code, last_descent}
use Rattle.sym_model.proofs.Sums.{total_within}
use Rattle.schubert_laws.proofs.FixedLetters.{code_added}
use Rattle.schubert_laws.proofs.FixedTails.{one_line_next, next_after, one_line_kept, kept_added}
use Rattle.schubert_laws.proofs.LowerPermutations.{kept_whole, last_descent_kept, smaller_of_none, code_never_falls}
use Rattle.schubert_laws.proofs.PathsFromOne.{below_next}
use Rattle.schubert_laws.proofs.Swaps.{among_get}
use Rattle.schubert_laws.proofs.Transition.{last_descent_is}
use Rattle.sym_model.proofs.AfterLists.{length_after, after_among, among_after}
use Rattle.sym_model.proofs.Numbers.{counts-not_less}
use Rattle.sym_model.proofs.Lists.{smaller-within}

pub inversions-code : (w : List ℕ) → inversions w ≡ size (code w)
inversions-code [] = refl
inversions-code (a ∷ w) = ap (λ n. smaller a w + n) (inversions-code w)

pub length-code : (w : List ℕ) → length (code w) ≡ length w
length-code [] = refl
length-code (a ∷ w) = ap suc (length-code w)

pub code_is_code : (w : List ℕ) → IsCode (code w)
code_is_code [] = tt
code_is_code (a ∷ w) = (let e = smaller-within a w in let l = length-code w in omega arith, code_is_code w)

-- ---- strictly increasing lists, and such lists with an entry removed

abbrev Ascends : List ℕ → Type 0
Ascends [] = Unit {0}
Ascends (x ∷ l) = ((y : ℕ) → Among y l → x < y) × Ascends l

ascends_after : (a k : ℕ) → Ascends (after a k)
ascends_after a zero = tt
ascends_after a (suc k) = (λ y m. (after_among (a + 1) k y m).0, ascends_after (a + 1) k)

among_remove : (y c : ℕ) (l : List ℕ) → Among y (remove l c) → Among y l
among_remove y zero [] m = m
among_remove y (suc c) [] m = m
among_remove y zero (x ∷ l) m = inr m
among_remove y (suc c) (x ∷ l) (inl e) = inl e
among_remove y (suc c) (x ∷ l) (inr m) = inr (among_remove y c l m)

ascends_remove : (c : ℕ) (l : List ℕ) → Ascends l → Ascends (remove l c)
ascends_remove zero [] a = tt
ascends_remove (suc c) [] a = tt
ascends_remove zero (x ∷ l) a = a.1
ascends_remove (suc c) (x ∷ l) a = (λ y m. a.0 y (among_remove y c l m), ascends_remove c l a.1)

length-remove : (c : ℕ) (l : List ℕ) → c < length l → suc (length (remove l c)) ≡ length l
length-remove c [] h = absurd (omega arith)
length-remove zero (x ∷ l) h = refl
length-remove (suc c) (x ∷ l) h = ap suc (length-remove c l (omega arith))

smaller-remove : (x c : ℕ) (l : List ℕ) → c < length l → cond (nat_lt (get_or l c 0) x) 1 0 + smaller x (remove l c) ≡ smaller x l
smaller-remove x c [] h = absurd (omega arith)
smaller-remove x zero (y ∷ l) h = refl
smaller-remove x (suc c) (y ∷ l) h = let e = smaller-remove x c l (omega arith) in omega arith

weak : (x : ℕ) (l : List ℕ) → ((y : ℕ) → Among y l → x < y) → (y : ℕ) → Among y l → x ≤ y
weak x l h y m = let k = h y m in omega arith

smaller_index : (c : ℕ) (l : List ℕ) → Ascends l → c < length l → smaller (get_or l c 0) l ≡ c
smaller_index c [] a h = absurd (omega arith)
smaller_index zero (x ∷ l) a h = let n = counts-not_less x x (omega arith) in let e = smaller_of_none x l (weak x l a.0) in omega arith
smaller_index (suc c) (x ∷ l) a h =
    let e = smaller_index c l a.1 (omega arith) in
    let n = sym (cond_below {X = ℕ} x (get_or l c 0) 1 0 (a.0 (get_or l c 0) (among_get c 0 l (omega arith)))) in
    omega arith

-- ---- the letters with a given code, chosen one after another from an increasing list (`letters_by_code`)

smaller-letters : (x : ℕ) (cs l : List ℕ) → IsCode cs → length l ≡ length cs → smaller x (letters_by_code cs l) ≡ smaller x l
smaller-letters x [] l i e = refl
smaller-letters x (c ∷ cs) l i e =
    let i0 = i.0 in
    let n = length-remove c l (omega arith) in
    let r = smaller-letters x cs (remove l c) i.1 (omega arith) in
    let s = smaller-remove x c l (omega arith) in
    omega arith

pub length-letters : (cs l : List ℕ) → IsCode cs → length l ≡ length cs → length (letters_by_code cs l) ≡ length l
length-letters [] l i e = refl
length-letters (c ∷ cs) l i e =
    let i0 = i.0 in
    let n = length-remove c l (omega arith) in
    let r = length-letters cs (remove l c) i.1 (omega arith) in
    omega arith

code-letters : (cs l : List ℕ) → IsCode cs → length l ≡ length cs → Ascends l → code (letters_by_code cs l) ≡ cs
code-letters [] [] i e a = refl
code-letters [] (x ∷ l) i e a = absurd (omega arith)
code-letters (c ∷ cs) l i e a =
    let i0 = i.0 in
    let n = length-remove c l (omega arith) in
    let s = smaller-letters (get_or l c 0) cs (remove l c) i.1 (omega arith) in
    let t = smaller-remove (get_or l c 0) c l (omega arith) in
    let u = smaller_index c l a (omega arith) in
    let z = counts-not_less (get_or l c 0) (get_or l c 0) (omega arith) in
    ap₂ ◌∷◌ (omega arith) (code-letters cs (remove l c) i.1 (omega arith) (ascends_remove c l a))

among-letters : (y : ℕ) (cs l : List ℕ) → IsCode cs → length l ≡ length cs → Among y (letters_by_code cs l) → Among y l
among-letters y [] l i e m = m
among-letters y (c ∷ cs) l i e m =
    let i0 = i.0 in
    let n = length-remove c l (omega arith) in
    by (among_get c 0 l (omega arith)) m (among-letters y cs (remove l c) i.1 (omega arith))
  where
    by : Among (get_or l c 0) l → (y ≡ get_or l c 0) ⊎ Among y (letters_by_code cs (remove l c)) → (Among y (letters_by_code cs (remove l c)) → Among y (remove l c)) → Among y l
    by g (inl d) rec = subst (λ z. Among z l) (sym d) g
    by g (inr k) rec = among_remove y c l (rec k)

removed_gone : (c : ℕ) (l : List ℕ) → Ascends l → c < length l → Among (get_or l c 0) (remove l c) → ⊥
removed_gone c [] a h m = omega arith
removed_gone zero (x ∷ l) a h m = let k = a.0 x m in omega arith
removed_gone (suc c) (x ∷ l) a h (inl e) = let k = a.0 (get_or l c 0) (among_get c 0 l (omega arith)) in omega arith
removed_gone (suc c) (x ∷ l) a h (inr m) = removed_gone c l a.1 (omega arith) m

once_ascends : (l : List ℕ) → Ascends l → Once l
once_ascends [] a = tt
once_ascends (x ∷ l) a = (λ m. let k = a.0 x m in omega arith, once_ascends l a.1)

once-letters : (cs l : List ℕ) → IsCode cs → length l ≡ length cs → Ascends l → Once (letters_by_code cs l)
once-letters [] l i e a = once_ascends l a
once-letters (c ∷ cs) l i e a =
    let i0 = i.0 in
    let n = length-remove c l (omega arith) in (
      λ m. removed_gone c l a (omega arith) (among-letters (get_or l c 0) cs (remove l c) i.1 (omega arith) m),
      once-letters cs (remove l c) i.1 (omega arith) (ascends_remove c l a),
    )

pub one_line_letters : (cs : List ℕ) → IsCode cs → IsOneLine (letters_by_code cs (places (length cs)))
one_line_letters cs i = search (rules, length_after, length-letters, after_among, among-letters, once-letters, ascends_after)

pub one_line_from_code : (cs : List ℕ) → IsCode cs → IsOneLine (from_code cs)
one_line_from_code cs i = one_line_kept (letters_by_code cs (places (length cs))) (one_line_letters cs i)

-- the code of a permutation w followed by fixed letters is the code of w followed by zeros

code_zeros : (k : ℕ) (w : List ℕ) → IsOneLine w → code (w ++ after (length w) k) ≡ code w ++ replicate k 0
code_zeros zero w o = ap code (append-nil w) ∙ sym (append-nil (code w))
code_zeros (suc k) w o = search (rules, next_after, one_line_next, code_added, below_next, append_assoc, (code_zeros k))

pub code_from_code : (cs : List ℕ) → IsCode cs → (k : ℕ) × (code (from_code cs) ++ replicate k 0 ≡ cs)
code_from_code cs i =
    let u : List ℕ = letters_by_code cs (places (length cs)) in
    let t = kept_whole (letters_by_code cs (places (length cs))) in (
      t.0,
      sym (code_zeros t.0 (from_code cs) (one_line_from_code cs i))
          ∙ ap code (sym t.1)
          ∙ code-letters cs (places (length cs)) i (length_after 0 (length cs)) (ascends_after 0 (length cs)),
    )

-- ---- the permutation computed from the code of a permutation w is w, up to fixed letters at the end

-- the lists w and l have the same length and, for each x, the same number of entries below x
record IsRearranged (w l : List ℕ) : Type 0 where
  pub lengths : length l ≡ length w
  pub counts : (x : ℕ) → smaller x w ≡ smaller x l

found : (a : ℕ) (l : List ℕ) → Ascends l → smaller a l < smaller (suc a) l → get_or l (smaller a l) 0 ≡ a
found a [] s h = absurd (omega arith)
found a (y ∷ l) s h = elim (cases_lt y a) [
  | inl k ↦
      let p = sym (cond_below {X = ℕ} y a 1 0 k) in
      let q = sym (cond_below {X = ℕ} y (suc a) 1 0 (omega arith)) in
      let r = found a l s.1 (omega arith) in
      let e : smaller a (y ∷ l) ≡ suc (smaller a l) = omega arith in
      ap (λ n. get_or (y ∷ l) n 0) e ∙ r
  | inr k ↦ elim (cases_eq y a) [
    | inl d ↦
        let p = counts-not_less y a k in
        let z = smaller_of_none a l (λ x m. let g = s.0 x m in omega arith) in
        let e : smaller a (y ∷ l) ≡ 0 = omega arith in
        ap (λ n. get_or (y ∷ l) n 0) e ∙ d
    | inr n ↦
        let p = counts-not_less y (suc a) (omega arith) in
        let z = smaller_of_none (suc a) l (λ x m. let g = s.0 x m in omega arith) in
        absurd (omega arith)
  ]
]

letters-code : (w l : List ℕ) → Ascends l → IsRearranged w l → letters_by_code (code w) l ≡ w
letters-code [] [] s r = refl
letters-code [] (x ∷ l) s r = absurd (let e = r.lengths in omega arith)
letters-code (a ∷ w) l s r =
    let rl = r.lengths in
    let own = counts-not_less a a (omega arith) in
    let here = r.counts a in
    let next = r.counts (suc a) in
    let up = sym (cond_below {X = ℕ} a (suc a) 1 0 (omega arith)) in
    let more = smaller_grows a w in
    let c : smaller a w ≡ smaller a l = omega arith in
    let inside = smaller_below_length a l (omega arith) in
    let at = ap (λ n. get_or l n 0) c ∙ found a l s (omega arith) in
    let n = length-remove (smaller a w) l (omega arith) in
    ap₂ ◌∷◌ at (letters-code w (remove l (smaller a w)) (ascends_remove (smaller a w) l s) (record {
      lengths = omega arith;
      counts = λ x.
          let t = smaller-remove x (smaller a w) l (omega arith) in
          let u = r.counts x in
          let v = ap (λ y. cond {A = ℕ} (nat_lt y x) 1 0) at in
          omega arith;
    }))
  where
    smaller_grows : (b : ℕ) (v : List ℕ) → smaller b v ≤ smaller (suc b) v
    smaller_grows b [] = omega arith
    smaller_grows b (y ∷ v) = let e = smaller_grows b v in elim (cases_lt y b) [
      | inl k ↦ let p = sym (cond_below {X = ℕ} y b 1 0 k) in let q = sym (cond_below {X = ℕ} y (suc b) 1 0 (omega arith)) in omega arith
      | inr k ↦ let p = counts-not_less y b k in omega arith
    ]

    smaller_below_length : (b : ℕ) (v : List ℕ) → smaller b v < smaller (suc b) v → smaller b v < length v
    smaller_below_length b v h = let m = smaller-within (suc b) v in omega arith

-- the number of entries of w that are smaller than x is a sum over the entries of w; so it does not depend on their order
pub smaller_total : (x : ℕ) (w : List ℕ) → pos (smaller x w) ≡ total (λ b. pos (cond (nat_lt b x) 1 0)) w
smaller_total x [] = refl
smaller_total x (b ∷ w) = let e = smaller_total x w in omega (arith, ints)

-- the letters of a permutation w of n letters are among 1, .., n
pub letters_in_places : (w : List ℕ) → IsOneLine w → Within w (places (length w))
letters_in_places w o a m = let r = o.letters a m in let p = r.0 in let q = r.1 in among_after 0 (length w) a (omega arith) (omega arith)

pub from_code-code : (w : List ℕ) → IsOneLine w → from_code (code w) ≡ kept w
from_code-code w o = search (rules, length-code, letters-code, ascends_after, length_after, total_within, letters_in_places, smaller_total, ints)

pub code_of_letters : (cs : List ℕ) → IsCode cs → code (letters_by_code cs (places (length cs))) ≡ cs
code_of_letters cs i = code-letters cs (places (length cs)) i (length_after 0 (length cs)) (ascends_after 0 (length cs))

letters_by_zeros : (n : ℕ) (left : List ℕ) → length left ≡ n → letters_by_code (replicate n 0) left ≡ left
letters_by_zeros zero left e = refl
letters_by_zeros (suc n) [] e = absurd (omega arith)
letters_by_zeros (suc n) (x ∷ left) e = ap (λ l. x ∷ l) (letters_by_zeros n left (omega arith))

kept_zeros : (n : ℕ) → 0 < n → from_code (replicate n 0) ≡ 1 ∷ []
kept_zeros zero h = absurd (omega arith)
kept_zeros (suc n) h =
    ap (λ k. kept (letters_by_code (replicate (suc n) 0) (places k))) (length-replicate (suc n) 0)
    ∙ ap kept (letters_by_zeros (suc n) (places (suc n)) (length_after 0 (suc n)))
    ∙ kept_added (1 ∷ []) n (omega arith)

pub identity_kept : (w : List ℕ) → IsOneLine w → 0 < length w → last_descent w ≡ None → kept w ≡ 1 ∷ []
identity_kept w o h e = sym (from_code-code w o) ∙ ap from_code (code_never_falls w (last_descent_is w None e)) ∙ kept_zeros (length w) h

pub identity_without_descent : (w : List ℕ) → IsOneLine w → 0 < length w → (last_descent w ≡ None) ↔ (kept w ≡ 1 ∷ [])
identity_without_descent w o h = (identity_kept w o h, λ e. sym (last_descent_kept w o) ∙ ap last_descent e)
