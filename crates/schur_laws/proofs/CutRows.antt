-- Semistandard tableaux listed row by row from the top: each row must have letters that are greater than the letters above them in the previous row.
use Rattle.std.proofs.Common.{◌≡◌, ℕ, suc, ◌-◌, Bool, true, false, ◌&&◌, cond, List, [], ◌∷◌, map, length, drop, get_or, refl, sym, ap, ◌∙◌, subst, inl, inr, arith, ℤ, pos, flat_map, rules}
use Rattle.sym_model.specs.Sum.{total, Among}
use Rattle.sym_model.specs.Partition.{part}
use Rattle.sym_model.specs.Schur.{words, row_lengths, fillings_of, row_rises, columns_rise, semistandard}
use Rattle.sym_model.proofs.Sums.{total_ext, total_map, total_each, Among_from_each, Among_from_map, total_cond, total_cond_list as total_listed}
use Rattle.sym_model.proofs.Lists.{drop-none}
use Rattle.schur_laws.proofs.RisingWords.{rising_words, IsWord, AreLetters, total_rising_words, rising-tells}
use Rattle.strip_laws.proofs.Containment.{get_or-below}

-- the semistandard tableaux of outer/inner with entries from 1 to n that can be directly below the row p, if p begins in column c + 1
abbrev pub tableaux_below : ℕ → List ℕ → List ℕ → ℕ → List ℕ → List (List (List ℕ))
tableaux_below n [] inner c p = [] ∷ []
tableaux_below n (a ∷ outer) inner c p =
    flat_map (λ w. cond (columns_rise p (drop (c - part inner 1) w)) (map (λ T. w ∷ T) (tableaux_below n outer (drop 1 inner) (part inner 1) w)) []) (rising_words n 0 (a - part inner 1))

-- whether the first row w of a filling can be directly below the row p; w begins d columns before p. True if the filling has no row
abbrev pub may_follow : ℕ → List ℕ → List (List ℕ) → Bool
may_follow d p [] = true
may_follow d p (w ∷ T) = columns_rise p (drop d w)

pub total_below : (n a : ℕ) (outer inner : List ℕ) (c : ℕ) (p : List ℕ) (h : List (List ℕ) → ℤ)
    → total h (tableaux_below n (a ∷ outer) inner c p)
    ≡ total (λ w. cond (columns_rise p (drop (c - part inner 1) w)) (total (λ T. h (w ∷ T)) (tableaux_below n outer (drop 1 inner) (part inner 1) w)) (pos 0)) (rising_words n 0 (a - part inner 1))
total_below n a outer inner c p h = search (rules, total_each, rising_words, total_ext, total_listed, total_map)

-- the sum of h over the tableaux of a straight shape that can be below the row p is a double sum: over their first rows w, and, for each w, over the
-- tableaux of the other rows that can be below w
pub total_straight : (n a : ℕ) (outer p : List ℕ) (h : List (List ℕ) → ℤ)
    → total h (tableaux_below n (a ∷ outer) [] 0 p) ≡ total (λ w. cond (columns_rise p w) (total (λ T. h (w ∷ T)) (tableaux_below n outer [] 0 w)) (pos 0)) (rising_words n 0 a)
total_straight n a outer p h = search (rules, total_below, total_ext, drop-none, rising_words)

-- the sum of h over the tableaux of a skew shape that can be below the row p is a double sum: over their first rows w, and, for each w, over the
-- tableaux of the other rows that can be below w
pub total_skew : (n a b c : ℕ) (outer inner p : List ℕ) (h : List (List ℕ) → ℤ)
    → total h (tableaux_below n (a ∷ outer) (b ∷ inner) c p) ≡ total (λ w. cond (columns_rise p (drop (c - b) w)) (total (λ T. h (w ∷ T)) (tableaux_below n outer inner b w)) (pos 0)) (rising_words n 0 (a - b))
total_skew n a b c outer inner p h = search (rules, total_below, rising_words, drop-none)

-- ---- `tableaux_below` has exactly the fillings that the test `semistandard` accepts

semistandard_row : (inner w : List ℕ) (T : List (List ℕ)) → semistandard inner (w ∷ T) ≡ row_rises w && (may_follow (part inner 1 - part (drop 1 inner) 1) w T && semistandard (drop 1 inner) T)
semistandard_row inner w [] = search rules
semistandard_row inner w (v ∷ T) = search rules

row_lengths-first : (a : ℕ) (outer inner : List ℕ) → row_lengths (a ∷ outer) inner ≡ (a - part inner 1) ∷ row_lengths outer (drop 1 inner)
row_lengths-first a outer [] = ap (λ i. i ∷ row_lengths outer []) (let e : a ≡ a - 0 = omega arith in e)
row_lengths-first a outer (b ∷ inner) = ap (λ l. (a - b) ∷ row_lengths outer l) (sym (drop-none inner))

-- the sum of h over those tableaux that have the first row w and can be directly below the row p: the sum of h(w ∷ T) over the tableaux T of the
-- other rows that can be below w, or 0 if w cannot be below p
abbrev row_sum : ℕ → List ℕ → List ℕ → ℕ → List ℕ → (List (List ℕ) → ℤ) → List ℕ → ℤ
row_sum n outer inner c p h w = cond (columns_rise p (drop (c - part inner 1) w)) (total (λ T. h (w ∷ T)) (tableaux_below n outer (drop 1 inner) (part inner 1) w)) (pos 0)

-- the sum of h over the semistandard fillings of outer/inner that can be directly below a row p is the sum of h over the list `tableaux_below` of
-- these fillings. The row p begins in column c + 1; its entries must be smaller than those directly below it
pub total_semistandard : (n : ℕ) (outer inner : List ℕ) (c : ℕ) (p : List ℕ) (h : List (List ℕ) → ℤ)
    → total (λ T. cond (may_follow (c - part inner 1) p T && semistandard inner T) (h T) (pos 0)) (fillings_of n (row_lengths outer inner)) ≡ total h (tableaux_below n outer inner c p)
total_semistandard n [] inner c p h = refl
total_semistandard n (a ∷ outer) inner c p h =
    ap (λ l. total (λ T. cond (may_follow (c - part inner 1) p T && semistandard inner T) (h T) (pos 0)) (fillings_of n l)) (row_lengths-first a outer inner)
    ∙ total_each (λ T. cond (may_follow (c - part inner 1) p T && semistandard inner T) (h T) (pos 0)) (λ w. map (λ T. w ∷ T) (fillings_of n (row_lengths outer (drop 1 inner)))) (words n (a - part inner 1))
    ∙ total_ext (λ w. total (λ T. cond (may_follow (c - part inner 1) p T && semistandard inner T) (h T) (pos 0)) (map (λ T. w ∷ T) (fillings_of n (row_lengths outer (drop 1 inner)))))
    (λ w. cond (row_rises w) (row_sum n outer inner c p h w) (pos 0)) (λ w. row w (total_semistandard n outer (drop 1 inner) (part inner 1) w (λ T. h (w ∷ T)))) (words n (a - part inner 1))
    ∙ total_rising_words n (a - part inner 1) (row_sum n outer inner c p h)
    ∙ sym (total_below n a outer inner c p h)
  where
    tests : (q r s : Bool) (z : ℤ) → cond (q && (r && s)) z (pos 0) ≡ cond r (cond q (cond s z (pos 0)) (pos 0)) (pos 0)
    tests true true s z = refl
    tests true false s z = refl
    tests false true s z = refl
    tests false false s z = refl

    row : (w : List ℕ)
        → total (λ T. cond (may_follow (part inner 1 - part (drop 1 inner) 1) w T && semistandard (drop 1 inner) T) (h (w ∷ T)) (pos 0)) (fillings_of n (row_lengths outer (drop 1 inner)))
        ≡ total (λ T. h (w ∷ T)) (tableaux_below n outer (drop 1 inner) (part inner 1) w)
        → total (λ T. cond (may_follow (c - part inner 1) p T && semistandard inner T) (h T) (pos 0)) (map (λ T. w ∷ T) (fillings_of n (row_lengths outer (drop 1 inner)))) ≡ cond (row_rises w) (row_sum n outer inner c p h w) (pos 0)
    row w rec =
        let rows = fillings_of n (row_lengths outer (drop 1 inner)) in
        let rises = columns_rise p (drop (c - part inner 1) w) in
        total_map (λ T. cond (may_follow (c - part inner 1) p T && semistandard inner T) (h T) (pos 0)) (λ T. w ∷ T) rows
        ∙ total_ext (λ T. cond (rises && semistandard inner (w ∷ T)) (h (w ∷ T)) (pos 0))
        (λ T. cond (row_rises w) (cond rises (cond (may_follow (part inner 1 - part (drop 1 inner) 1) w T && semistandard (drop 1 inner) T) (h (w ∷ T)) (pos 0)) (pos 0)) (pos 0))
        (λ T. ap (λ t. cond (rises && t) (h (w ∷ T)) (pos 0)) (semistandard_row inner w T)
        ∙ tests rises (row_rises w) (may_follow (part inner 1 - part (drop 1 inner) 1) w T && semistandard (drop 1 inner) T) (h (w ∷ T))) rows
        ∙ total_cond (row_rises w) (λ T. cond rises (cond (may_follow (part inner 1 - part (drop 1 inner) 1) w T && semistandard (drop 1 inner) T) (h (w ∷ T)) (pos 0)) (pos 0)) rows
        ∙ ap (λ z. cond (row_rises w) z (pos 0))
        (total_cond rises (λ T. cond (may_follow (part inner 1 - part (drop 1 inner) 1) w T && semistandard (drop 1 inner) T) (h (w ∷ T)) (pos 0)) rows ∙ ap (λ z. cond rises z (pos 0)) rec)

-- each letter of the rows is from 1 to n
abbrev pub HaveLetters : ℕ → List (List ℕ) → Type 0
HaveLetters n [] = Unit {0}
HaveLetters n (w ∷ T) = AreLetters n w × HaveLetters n T

pub record IsFilling (n k : ℕ) (T : List (List ℕ)) : Type 0 where
  pub letters : HaveLetters n T
  pub rows : length T ≡ k

pub below-tells : (n : ℕ) (outer inner : List ℕ) (c : ℕ) (p : List ℕ) (T : List (List ℕ)) → Among T (tableaux_below n outer inner c p) → IsFilling n (length outer) T
below-tells n [] inner c p T (inl e) = subst (λ S. IsFilling n 0 S) (sym e) (record { letters = tt; rows = refl })
below-tells n [] inner c p T (inr m) = absurd m
below-tells n (a ∷ outer) inner c p T m =
    let w = Among_from_each (λ w. cond (columns_rise p (drop (c - part inner 1) w)) (map (λ S. w ∷ S) (tableaux_below n outer (drop 1 inner) (part inner 1) w)) []) T (rising_words n 0 (a - part inner 1)) m in
    by w.0 (rising-tells n 0 (a - part inner 1) w.0 w.1) (columns_rise p (drop (c - part inner 1) w.0)) w.2 (λ S k. below-tells n outer (drop 1 inner) (part inner 1) w.0 S k)
  where
    by : (w : List ℕ) → IsWord n (a - part inner 1) w → (t : Bool) → Among T (cond t (map (λ S. w ∷ S) (tableaux_below n outer (drop 1 inner) (part inner 1) w)) [])
        → ((S : List (List ℕ)) → Among S (tableaux_below n outer (drop 1 inner) (part inner 1) w) → IsFilling n (length outer) S) → IsFilling n (suc (length outer)) T
    by w r false k rec = absurd k
    by w r true k rec =
        let S = Among_from_map (λ (S : List (List ℕ)). w ∷ S) T (tableaux_below n outer (drop 1 inner) (part inner 1) w) k in
        let i = rec S.0 S.1 in
        subst (λ U. IsFilling n (suc (length outer)) U) (sym S.2) (record { letters = (r.letters, i.letters); rows = ap suc i.rows })

-- the two lists have the same number at each place; after the end of a list the numbers are 0
abbrev pub SameParts : List ℕ → List ℕ → Type 0
SameParts inner other = (i : ℕ) → get_or inner i 0 ≡ get_or other i 0

next_parts : (inner other : List ℕ) → SameParts inner other → SameParts (drop 1 inner) (drop 1 other)
next_parts inner other e i = get_or-below inner i ∙ e (suc i) ∙ sym (get_or-below other i)

pub below-same : (n : ℕ) (outer inner other : List ℕ) (c : ℕ) (p : List ℕ) (h : List (List ℕ) → ℤ) → SameParts inner other
    → total h (tableaux_below n outer inner c p) ≡ total h (tableaux_below n outer other c p)
below-same n [] inner other c p h e = refl
below-same n (a ∷ outer) inner other c p h e =
    total_below n a outer inner c p h
    ∙ ap (λ b. total (λ w. cond (columns_rise p (drop (c - b) w)) (total (λ T. h (w ∷ T)) (tableaux_below n outer (drop 1 inner) b w)) (pos 0)) (rising_words n 0 (a - b))) (e 0)
    ∙ total_ext (λ w. cond (columns_rise p (drop (c - part other 1) w)) (total (λ T. h (w ∷ T)) (tableaux_below n outer (drop 1 inner) (part other 1) w)) (pos 0)) (row_sum n outer other c p h)
    (λ w. ap (λ z. cond (columns_rise p (drop (c - part other 1) w)) z (pos 0)) (below-same n outer (drop 1 inner) (drop 1 other) (part other 1) w (λ T. h (w ∷ T)) (next_parts inner other e))) (rising_words n 0 (a - part other 1))
    ∙ sym (total_below n a outer other c p h)
