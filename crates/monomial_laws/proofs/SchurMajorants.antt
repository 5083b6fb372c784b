-- The *content* of a word lists, for each letter 1, .., n, how often it occurs in the word. (x_1 + .. + x_n)^d is the sum of x^content over all
-- words of d letters. A filling of the diagram of λ, read row by row, is a word of |λ| letters. So (x_1 + .. + x_n)^|λ| is a majorant of s_λ: no
-- coefficient of s_λ is greater.
use Rattle.std.proofs.Common.{◌≡◌, ℕ, zero, suc, ◌+◌, ◌<◌, Bool, cond, eqb, List, [], ◌∷◌, ◌++◌, map, sym, ◌∙◌, ap, ap₂, subst, refl, inl, inr, arith, ℤ, pos, ◌+ℤ◌, filter, rules}
use Rattle.std.specs.Prelude.{◌≤ℤ◌, nat_abs}
use Rattle.std.proofs.lemmas.Int.{ints}
use Rattle.std.proofs.lemmas.Bool.{eq-eqb, ne_eqb}
use Rattle.std.proofs.lemmas.List.{length-map}
use Rattle.sym_model.specs.Sum.{total, Among}
use Rattle.sym_model.specs.Polynomial.{Term, same, coefficient, In, join, pair}
use Rattle.sym_model.specs.Partition.{size, after}
use Rattle.sym_model.specs.Bases.{power_sum_of}
use Rattle.sym_model.specs.Schur.{words, fillings_of, row_lengths, letters_of, times_in, content, tableaux, semistandard, schur}
use Rattle.monomial_laws.specs.Majorant.{IsMajorant, power}
use Rattle.sym_model.proofs.Sums.{total_ext, total_map, total_each}
use Rattle.sym_model.proofs.Polynomials.{at_only, coefficient_pair, pair_ext, pair_times, pair_one, In_map, at_only-nonnegative}
use Rattle.sym_model.proofs.Monomials.{one_place, pair-power_sum_of}
use lib.IntN.{+ℤ_idr}
use Rattle.sym_model.proofs.AfterLists.{length_after}
use Rattle.sym_model.proofs.Tableaux.{row_lengths-none}
use Rattle.sym_model.proofs.Lists.{map-among, map-map}
use Rattle.sym_model.proofs.Contents.{map-zeros, content-none}

-- for each of the letters m + 1, .., m + n, the number of times that it occurs in the word w
abbrev content_after : ℕ → ℕ → List ℕ → List ℕ
content_after m n w = map (λ (k : ℕ). times_in k w) (after m n)

letters_past : (m n j a : ℕ) → Among a (after (m + suc j) n) → m < a
letters_past m zero j a h = absurd h
letters_past m (suc n) j a (inl e) = omega arith
letters_past m (suc n) j a (inr h) = letters_past m n (suc j) a (subst (λ k. Among a (after k n)) (let e : m + suc j + 1 ≡ m + suc (suc j) = omega arith in e) h)

past : (m n a : ℕ) → Among a (after (m + 1) n) → m + 1 < a
past m zero a u = absurd u
past m (suc n) a (inl e) = omega arith
past m (suc n) a (inr u) = letters_past (m + 1) n zero a u

one_place-letters : (m n : ℕ) → one_place 1 n ≡ map (λ (a : ℕ). content_after m n (a ∷ [])) (after m n)
one_place-letters m zero = refl
one_place-letters m (suc n) =
    ap₂ ◌∷◌
    (ap₂ ◌∷◌ (sym (ap (λ b. cond b 1 0 + 0) (eq-eqb (m + 1) (m + 1) refl)))
    (sym
    (map-among (λ (k : ℕ). times_in k ((m + 1) ∷ [])) (λ (k : ℕ). 0) (after (m + 1) n)
    (λ k h. let l = past m n k h in ap (λ b. cond b 1 0 + 0) (ne_eqb (m + 1) k (λ e. omega arith)))
    ∙ map-zeros (m + 1) n)))
    (ap (λ (l : List (List ℕ)). map (λ (α : List ℕ). 0 ∷ α) l) (one_place-letters (m + 1) n)
    ∙ map-map (λ (α : List ℕ). 0 ∷ α) (λ (a : ℕ). content_after (m + 1) n (a ∷ [])) (after (m + 1) n)
    ∙ sym
    (map-among (λ (a : ℕ). content_after m (suc n) (a ∷ [])) (λ (a : ℕ). 0 ∷ content_after (m + 1) n (a ∷ [])) (after (m + 1) n)
    (λ a h. let l = past m n a h in ap (λ b. (cond b 1 0 + 0) ∷ content_after (m + 1) n (a ∷ [])) (ne_eqb a (m + 1) (λ e. omega arith)))))

content-cons : (m n a : ℕ) (w : List ℕ) → content_after m n (a ∷ w) ≡ join (content_after m n (a ∷ [])) (content_after m n w)
content-cons m zero a w = refl
content-cons m (suc n) a w = ap₂ ◌∷◌ (let e : cond (eqb a (m + 1)) 1 0 + times_in (m + 1) w ≡ cond (eqb a (m + 1)) 1 0 + 0 + times_in (m + 1) w = omega arith in e) (content-cons (m + 1) n a w)

-- (x_1 + .. + x_n)^d is the sum of x^content over the words of d letters
pub pair-power : (d n : ℕ) (φ : List ℕ → ℤ) → pair (power d n) φ ≡ total (λ (w : List ℕ). φ (content n w)) (words n d)
pair-power zero n φ = pair_one n φ ∙ ap φ (sym (content-none n)) ∙ sym (+ℤ_idr (φ (content n [])))
pair-power (suc d) n φ =
    pair_times (power_sum_of 1 n) (power d n) φ
    ∙ pair_ext (power_sum_of 1 n) (λ α. pair (power d n) (λ β. φ (join α β))) (λ α. total (λ (w : List ℕ). φ (join α (content n w))) (words n d)) (λ α. pair-power d n (λ β. φ (join α β)))
    ∙ pair-power_sum_of 1 n (λ α. total (λ (w : List ℕ). φ (join α (content n w))) (words n d)) (omega arith)
    ∙ ap (total (λ (α : List ℕ). total (λ (w : List ℕ). φ (join α (content n w))) (words n d))) (one_place-letters 0 n)
    ∙ total_map (λ (α : List ℕ). total (λ (w : List ℕ). φ (join α (content n w))) (words n d)) (λ (a : ℕ). content n (a ∷ [])) (after 0 n)
    ∙ total_ext
    (λ (a : ℕ). total (λ (w : List ℕ). φ (join (content n (a ∷ [])) (content n w))) (words n d))
    (λ (a : ℕ). total (λ (w : List ℕ). φ (content n w)) (map (λ (w : List ℕ). a ∷ w) (words n d)))
    (λ a.
    total_ext (λ (w : List ℕ). φ (join (content n (a ∷ [])) (content n w))) (λ (w : List ℕ). φ (content n (a ∷ w))) (λ w. ap φ (sym (content-cons 0 n a w))) (words n d)
    ∙ sym (total_map (λ (w : List ℕ). φ (content n w)) (λ (w : List ℕ). a ∷ w) (words n d)))
    (after 0 n)
    ∙ sym (total_each (λ (w : List ℕ). φ (content n w)) (λ (a : ℕ). map (λ (w : List ℕ). a ∷ w) (words n d)) (after 0 n))

-- ---- fillings, read row by row, are words

total_words-add : (n j k : ℕ) (h : List ℕ → ℤ) → total (λ (v : List ℕ). total (λ (w : List ℕ). h (v ++ w)) (words n k)) (words n j) ≡ total h (words n (j + k))
total_words-add n zero k h = +ℤ_idr (total h (words n k)) ∙ ap (λ i. total h (words n i)) (let e : k ≡ 0 + k = omega arith in e)
total_words-add n (suc j) k h =
    total_each (λ (v : List ℕ). total (λ (w : List ℕ). h (v ++ w)) (words n k)) (λ (a : ℕ). map (λ (v : List ℕ). a ∷ v) (words n j)) (after 0 n)
    ∙ total_ext
    (λ (a : ℕ). total (λ (v : List ℕ). total (λ (w : List ℕ). h (v ++ w)) (words n k)) (map (λ (v : List ℕ). a ∷ v) (words n j)))
    (λ (a : ℕ). total h (map (λ (w : List ℕ). a ∷ w) (words n (j + k))))
    (λ a.
    total_map (λ (v : List ℕ). total (λ (w : List ℕ). h (v ++ w)) (words n k)) (λ (v : List ℕ). a ∷ v) (words n j)
    ∙ total_words-add n j k (λ w. h (a ∷ w))
    ∙ sym (total_map h (λ (w : List ℕ). a ∷ w) (words n (j + k))))
    (after 0 n)
    ∙ sym (total_each h (λ (a : ℕ). map (λ (w : List ℕ). a ∷ w) (words n (j + k))) (after 0 n))
    ∙ ap (λ i. total h (words n i)) (let e : suc (j + k) ≡ suc j + k = omega arith in e)

total_fillings : (n : ℕ) (lengths : List ℕ) (h : List ℕ → ℤ) → total (λ (filling : List (List ℕ)). h (letters_of filling)) (fillings_of n lengths) ≡ total h (words n (size lengths))
total_fillings n [] h = refl
total_fillings n (k ∷ lengths) h = search (rules, total_each, total_ext, total_map, total_words-add, (total_fillings n lengths))

pub In-schur : (parts : List ℕ) (n : ℕ) → In n (schur parts n)
In-schur parts n =
    In_map n (λ (filling : List (List ℕ)). (content n (letters_of filling), pos 1)) (tableaux n parts [])
    (λ filling m. length-map (after 0 n) (λ (k : ℕ). times_in k (letters_of filling)) ∙ length_after 0 n)

total_select-within : {A : Type 0} (f : A → ℤ) (test : A → Bool) (xs : List A) → ((x : A) → pos 0 ≤ℤ f x) → (pos 0 ≤ℤ total f (filter test xs)) × (total f (filter test xs) ≤ℤ total f xs)
total_select-within f test [] h = (omega (arith, ints), omega (arith, ints))
total_select-within {A} f test (x ∷ xs) h = search (rules, ints, (total_select-within f test xs h))

pub majorant-schur : (parts : List ℕ) (n : ℕ) → IsMajorant (power (size parts) n) (schur parts n)
majorant-schur parts n α =
    let here : List (List ℕ) → ℤ = λ (filling : List (List ℕ)). at_only α (content n (letters_of filling)) in
    let bound = total_select-within here (semistandard []) (fillings_of n (row_lengths parts [])) (λ filling. at_only-nonnegative α (content n (letters_of filling))) in
    let left : coefficient (schur parts n) α ≡ total here (filter (semistandard []) (fillings_of n (row_lengths parts []))) =
    total_map (λ (t : Term). cond (same t.0 α) t.1 (pos 0)) (λ (filling : List (List ℕ)). (content n (letters_of filling), pos 1)) (tableaux n parts []) in
    let right : coefficient (power (size parts) n) α ≡ total here (fillings_of n (row_lengths parts [])) =
    coefficient_pair (power (size parts) n) α
    ∙ pair-power (size parts) n (at_only α)
    ∙ ap (λ (l : List ℕ). total (λ (w : List ℕ). at_only α (content n w)) (words n (size l))) (sym (row_lengths-none parts))
    ∙ sym (total_fillings n (row_lengths parts []) (λ w. at_only α (content n w))) in
    rw (left, right) (within (total here (filter (semistandard []) (fillings_of n (row_lengths parts [])))) (total here (fillings_of n (row_lengths parts []))) bound.0 bound.1)
  where
    within : (x y : ℤ) → pos 0 ≤ℤ x → x ≤ℤ y → pos (nat_abs x) ≤ℤ y
    within x y h k = omega (arith, ints)
