-- The double Schubert polynomial of a list with a weakly decreasing code is the product of the x_i - y_j over the diagram of its code; and a last
-- letter that is greater than all others does not change a double Schubert polynomial. Here the *pairing* of a function φ of exponents with a
-- polynomial is the sum of c·φ(α) over its terms c·x^α.
use Rattle.std.proofs.Common.{◌≡◌, ℕ, zero, suc, ◌+◌, ◌-◌, ◌<◌, ◌≤◌, List, [], ◌∷◌, ◌++◌, map, length, get_or, replicate, refl, sym, ◌∙◌, ap, ap₂, subst, arith, inl, inr, ◌⊎◌, None, ℤ, ◌+ℤ◌, ◌-ℤ◌, neg_ℤ, length-append, flat_map, rules}
use Rattle.std.proofs.lemmas.Simd.{map-map}
use Rattle.std.proofs.lemmas.List.{map-append, length-replicate, replicate-append-replicate, append-nil}
use Rattle.std.proofs.lemmas.Int.{ints}
use Rattle.sym_model.specs.Sum.{Among, Once}
use Rattle.sym_model.specs.Polynomial.{Poly, Same, In, one, plus, negate, times, pair, join, resize}
use Rattle.sym_model.specs.Partition.{part, after, cells, Falls}
use Rattle.sym_model.specs.Alternant.{staircase}
use Rattle.sym_model.specs.BetaList.{rising_pairs}
use Rattle.sym_model.specs.Permutation.{code, first_ascent}
use Rattle.sym_model.specs.DividedDifference.{variable, variable_in}
use Rattle.sym_model.specs.Expansion.{beside}
use Rattle.schubert_laws.proofs.Dominant.{pair_x_to}
use Rattle.sym_model.proofs.Exponents.{resize-nil, join_zeros, fits_in_length}
use Rattle.sym_model.proofs.Polynomials.{pair_ext, pair_in, pair_add, pair_opposite, pair_plus, pair_negate, pair_times, pair_beside, pair_one, pair_restrict, same_from_pair, In_one, In_plus, In_negate, In_times, In_beside, In_restrict}
use Rattle.schubert_laws.proofs.Differences.{along}
use Rattle.schubert_laws.proofs.Exchanges.{exchange_at, raise, Rises, IsFirstAscent, first_ascent_cases, rises_within, rising_pairs_exchange, length-exchange_at}
use Rattle.schubert_laws.proofs.DifferenceLaws.{variable_after, pair_variable_times}
use Rattle.schubert_laws.proofs.Paths.{over_top}
use Rattle.schubert_laws.proofs.Dominant.{once_exchange, among_exchange, code_no_ascent, one_up, falls_exchange}
use Rattle.schubert_laws.proofs.Codes.{length-code, code_is_code}
use Rattle.schubert_laws.proofs.FixedLetters.{In_descended, rises_added, exchange_added, once_added, code_added, falls_staircase}
use Rattle.schubert_laws.proofs.MonkStep.{pair_ascent, pair_factor_sum}
use Rattle.sym_model.specs.DoubleSchubert.{product_of, difference_in, difference_product, double_schubert}
use Rattle.double_schubert_laws.proofs.DiagramProducts.{less, row, diagram, diagram_one_up, diagram_added}

-- ---- the pairing of φ with x_r - y_s times a polynomial

pair_minus : (f : Poly) (φ ψ : List ℕ → ℤ) → pair f (λ α. φ α -ℤ ψ α) ≡ pair f φ -ℤ pair f ψ
pair_minus f φ ψ =
    let e = pair_ext f (λ α. φ α -ℤ ψ α) (λ α. φ α +ℤ neg_ℤ (ψ α)) (λ α. omega (arith, ints)) in
    let s = pair_add f φ (λ α. neg_ℤ (ψ α)) in
    let n = pair_opposite f ψ in
    omega (arith, ints)

pub pair_less : (N r s : ℕ) (f : Poly) (φ : List ℕ → ℤ) → In N f → r < N → s < N
    → pair (times (plus (variable_after r) (negate (variable_after s))) f) φ ≡ pair f (less r s φ)
pair_less N r s f φ i h l =
    let a = pair_factor_sum N r (negate (variable_after s)) f φ i h in
    let b = pair_times (negate (variable_after s)) f φ in
    let c = pair_negate (variable_after s) (λ α. pair f (λ β. φ (join α β))) in
    let d = pair_times (variable_after s) f φ in
    let e = pair_variable_times s N f φ i l in
    let g = pair_minus f (λ α. φ (raise r α)) (λ α. φ (raise s α)) in
    omega (arith, ints)

-- the exponents, in m variables, of the monomial x_(r+1)
abbrev pub unit : ℕ → ℕ → List ℕ
unit r m = resize m (replicate r 0 ++ (1 ∷ []))

pub length-unit : (r : ℕ) → length {A = ℕ} (replicate r 0 ++ (1 ∷ [])) ≡ suc r
length-unit r = let a = length-append {A = ℕ} (replicate r 0) (1 ∷ []) in let b = length-replicate {A = ℕ} r 0 in omega arith

pub pair_variable_in : (r m : ℕ) (φ : List ℕ → ℤ) → r < m → pair (variable_in (suc r) m) φ ≡ φ (unit r m)
pair_variable_in r m φ h = search (rules, length-unit, pair_restrict, pair_x_to, fits_in_length)

-- the pairing of φ with x_(r+1) - y_(s+1) is φ at the exponents of x_(r+1) minus φ at those of y_(s+1), for m variables x and m variables y
pub pair_difference_in : (r s m : ℕ) (φ : List ℕ → ℤ) → r < m → s < m
    → pair (difference_in (suc r) (suc s) m) φ ≡ φ (unit r m ++ replicate m 0) -ℤ φ (replicate m 0 ++ unit s m)
pair_difference_in r s m φ h l =
    let p = pair_plus (beside (variable_in (suc r) m) (one m)) (negate (beside (one m) (variable_in (suc s) m))) φ in
    let n = pair_negate (beside (one m) (variable_in (suc s) m)) φ in
    let a = pair_beside (variable_in (suc r) m) (one m) φ ∙ pair_variable_in r m (λ α. pair (one m) (λ β. φ (α ++ β))) h ∙ pair_one m (λ β. φ (unit r m ++ β)) in
    let b = pair_beside (one m) (variable_in (suc s) m) φ ∙ pair_one m (λ α. pair (variable_in (suc s) m) (λ β. φ (α ++ β))) ∙ pair_variable_in s m (λ β. φ (replicate m 0 ++ β)) l in
    omega (arith, ints)

join_x : (r m k : ℕ) (β : List ℕ) → r < m → length β ≡ m + k → join (unit r m ++ replicate k 0) β ≡ raise r β
join_x r zero k β h l = absurd (omega arith)
join_x r (suc m) k [] h l = absurd (omega arith)
join_x zero (suc m) k (b ∷ β) h l = search (rules, resize-nil, replicate-append-replicate, join_zeros)
join_x (suc r) (suc m) k (b ∷ β) h l = let e : 0 + b ≡ b = omega arith in ap₂ ◌∷◌ e (join_x r m k β (omega arith) (omega arith))

join_y : (s m k : ℕ) (β : List ℕ) → s < k → length β ≡ m + k → join (replicate m 0 ++ unit s k) β ≡ raise (m + s) β
join_y s zero k β h l =
    let e : s ≡ 0 + s = omega arith in
    sym (append-nil-join s k β h (omega arith)) ∙ ap (λ i. raise i β) e
  where
    append-nil-join : (t n : ℕ) (γ : List ℕ) → t < n → length γ ≡ n → raise t γ ≡ join (unit t n) γ
    append-nil-join t n γ h l = let e : n ≡ n + 0 = omega arith in sym (join_x t n 0 γ h (omega arith)) ∙ ap (λ α. join α γ) (append-nil (unit t n))
join_y s (suc m) k [] h l = absurd (omega arith)
join_y s (suc m) k (b ∷ β) h l = search (rules, raise, (join_y s m k β h (omega arith)))

pub pair_difference : (m r s : ℕ) (f : Poly) (φ : List ℕ → ℤ) → In (m + m) f → r < m → s < m → pair (times (difference_in (suc r) (suc s) m) f) φ ≡ pair f (less r (m + s) φ)
pair_difference m r s f φ i h l =
    let t = pair_times (difference_in (suc r) (suc s) m) f φ in
    let p = pair_difference_in r s m (λ α. pair f (λ β. φ (join α β))) h l in
    let a = pair_in (m + m) f (λ β. φ (join (unit r m ++ replicate m 0) β)) (λ β. φ (raise r β)) i (λ β e. ap φ (join_x r m m β h e)) in
    let b = pair_in (m + m) f (λ β. φ (join (replicate m 0 ++ unit s m) β)) (λ β. φ (raise (m + s) β)) i (λ β e. ap φ (join_y s m m β l e)) in
    let g = pair_minus f (λ α. φ (raise r α)) (λ α. φ (raise (m + s) α)) in
    omega (arith, ints)

pub In_difference_in : (i j m : ℕ) → In (m + m) (difference_in i j m)
In_difference_in i j m =
    In_plus (m + m) (beside (variable_in i m) (one m)) (negate (beside (one m) (variable_in j m)))
    (In_beside m m (variable_in i m) (one m) (In_restrict m (variable i)) (In_one m))
    (In_negate (m + m) (beside (one m) (variable_in j m)) (In_beside m m (one m) (variable_in j m) (In_one m) (In_restrict m (variable j))))

-- ---- the product of all x_i - y_j with i + j ≤ n, row by row

abbrev factors : ℕ → ℕ → ℕ → ℕ → List Poly
factors m i j c = map (λ b. difference_in i b m) (after j c)

In_factors : (m i j c : ℕ) (fs : List Poly) → In (m + m) (product_of (m + m) fs) → In (m + m) (product_of (m + m) (factors m i j c ++ fs))
In_factors m i j zero fs n = n
In_factors m i j (suc c) fs n =
    In_times (m + m) (difference_in i (j + 1) m) (product_of (m + m) (factors m i (j + 1) c ++ fs)) (In_difference_in i (j + 1) m) (In_factors m i (j + 1) c fs n)

pair_factors : (m r i j c : ℕ) (fs : List Poly) (φ : List ℕ → ℤ) → i ≡ suc r → r < m → j + c ≤ m → In (m + m) (product_of (m + m) fs)
    → pair (product_of (m + m) (factors m i j c ++ fs)) φ ≡ pair (product_of (m + m) fs) (row r (m + j) c φ)
pair_factors m r i j zero fs φ d h l n = refl
pair_factors m r i j (suc c) fs φ d h l n =
    let q : j + 1 ≡ suc j = omega arith in
    let s : m + (j + 1) ≡ suc (m + j) = omega arith in
    let rest = product_of (m + m) (factors m i (j + 1) c ++ fs) in
    ap₂ (λ x y. pair (times (difference_in x y m) (product_of (m + m) (factors m i (j + 1) c ++ fs))) φ) d q
    ∙ pair_difference m r j (product_of (m + m) (factors m i (j + 1) c ++ fs)) φ (In_factors m i (j + 1) c fs n) h (omega arith)
    ∙ pair_factors m r i (j + 1) c fs (less r (m + j) φ) d h (omega arith) n
    ∙ ap (λ x. pair (product_of (m + m) fs) (row r x c (less r (m + j) φ))) s

-- the factors x_i - y_j for the rows i from r + 1 to r + k, in each row i for j from 1 to c(i)
abbrev rows_from : ℕ → (ℕ → ℕ) → ℕ → ℕ → List Poly
rows_from m c r k = flat_map (λ i. map (λ j. difference_in i j m) (after 0 (c i))) (after r k)

In_rows : (m : ℕ) (c : ℕ → ℕ) (r k : ℕ) → In (m + m) (product_of (m + m) (rows_from m c r k))
In_rows m c r zero = In_one (m + m)
In_rows m c r (suc k) = In_factors m (r + 1) 0 (c (r + 1)) (rows_from m c (r + 1) k) (In_rows m c (r + 1) k)

pair_rows : (m : ℕ) (c : ℕ → ℕ) (r k : ℕ) (φ : List ℕ → ℤ) → ((i : ℕ) → c i ≤ m) → r + k ≤ m
    → pair (product_of (m + m) (rows_from m c r k)) φ ≡ diagram m r (map c (after r k)) φ (replicate (m + m) 0)
pair_rows m c r zero φ b h = pair_one (m + m) φ
pair_rows m c r (suc k) φ b h =
    let e = b (r + 1) in
    let q : m + 0 ≡ m = omega arith in
    let s : r + 1 ≡ suc r = omega arith in
    pair_factors m r (r + 1) 0 (c (r + 1)) (rows_from m c (r + 1) k) φ s (omega arith) (omega arith) (In_rows m c (r + 1) k)
    ∙ pair_rows m c (r + 1) k (row r (m + 0) (c (r + 1)) φ) b (omega arith)
    ∙ ap₂ (λ x y. diagram m x (map c (after (r + 1) k)) (row r y (c (r + 1)) φ) (replicate (m + m) 0)) s q

staircase_rows : (n r k : ℕ) → r + k ≡ n → map (λ i. n - i) (after r k) ≡ staircase k
staircase_rows n r zero e = refl
staircase_rows n r (suc k) e = let p : n - (r + 1) ≡ k = omega arith in ap₂ ◌∷◌ p (staircase_rows n (r + 1) k (omega arith))

pub pair_difference_product : (m n : ℕ) (φ : List ℕ → ℤ) → n ≤ m → pair (difference_product n m) φ ≡ diagram m 0 (staircase n) φ (replicate (m + m) 0)
pair_difference_product m n φ h =
    pair_rows m (λ i. n - i) 0 n φ (λ i. omega arith) (omega arith)
    ∙ ap (λ cs. diagram m 0 cs φ (replicate (m + m) 0)) (staircase_rows n 0 n (omega arith))

pub In_difference_product : (m n : ℕ) → In (m + m) (difference_product n m)
In_difference_product m n = In_rows m (λ i. n - i) 0 n

pub In_double : (m : ℕ) (w : List ℕ) → In (m + m) (double_schubert w m)
In_double m w = In_descended (difference_product (length w) m) (m + m) (rising_pairs w) w (In_difference_product m (length w))

pub pair_double_ascent : (m : ℕ) (w : List ℕ) (k : ℕ) (φ : List ℕ → ℤ) → Rises k w → pair (double_schubert w m) φ ≡ pair (double_schubert (exchange_at k w) m) (along k φ)
pair_double_ascent m w k φ r = search (rules, pair_ascent, exchange_at, along, length-exchange_at)

double_dominant_within : (n m : ℕ) (w : List ℕ) (φ : List ℕ → ℤ) → rising_pairs w < n → length w ≤ m → Once w → Falls (code w)
    → pair (double_schubert w m) φ ≡ diagram m 0 (code w) φ (replicate (m + m) 0)
double_dominant_within zero m w φ b h o f = absurd (omega arith)
double_dominant_within (suc n) m w φ b h o f = by (first_ascent_cases w) (λ v ψ c p q g. double_dominant_within n m v ψ c p q g)
  where
    by : ((j : ℕ) × IsFirstAscent w j) ⊎ ((first_ascent w ≡ None) × ((j : ℕ) → Rises j w → ⊥))
        → ((v : List ℕ) (ψ : List ℕ → ℤ) → rising_pairs v < n → length v ≤ m → Once v → Falls (code v) → pair (double_schubert v m) ψ ≡ diagram m 0 (code v) ψ (replicate (m + m) 0))
        → pair (double_schubert w m) φ ≡ diagram m 0 (code w) φ (replicate (m + m) 0)
    by (inl found) rec =
        let k : ℕ = found.0 in
        let r = found.1.rises in
        let e = rising_pairs_exchange k w r in
        let l = length-exchange_at k w in
        let i = rises_within k w r in
        pair_double_ascent m w k φ r
        ∙ rec (exchange_at k w) (along k φ) (omega arith) (omega arith) (once_exchange k w o) (falls_exchange k w o f r found.1.first)
        ∙ diagram_one_up m k (m + m) (code w) (code (exchange_at k w)) φ (one_up k w f r) (omega arith) (omega arith)
    by (inr none) rec =
        ap (λ u. pair u φ) (over_top (difference_product (length w) m) (rising_pairs w) w none.0)
        ∙ pair_difference_product m (length w) φ h
        ∙ ap (λ c. diagram m 0 c φ (replicate (m + m) 0)) (sym (code_no_ascent w o none.1))

pub double_dominant : (m : ℕ) (w : List ℕ) (φ : List ℕ → ℤ) → length w ≤ m → Once w → Falls (code w)
    → pair (double_schubert w m) φ ≡ diagram m 0 (code w) φ (replicate (m + m) 0)
double_dominant m w φ h o f = double_dominant_within (suc (rising_pairs w)) m w φ (omega arith) h o f

last_within : (n m p : ℕ) (w : List ℕ) (φ : List ℕ → ℤ) → rising_pairs w < n → length w < m → Once w → ((a : ℕ) → Among a w → a < p)
    → pair (double_schubert (w ++ (p ∷ [])) m) φ ≡ pair (double_schubert w m) φ
last_within zero m p w φ b h o l = absurd (omega arith)
last_within (suc n) m p w φ b h o l = by (first_ascent_cases w) (λ v ψ c i q j. last_within n m p v ψ c i q j)
  where
    by : ((j : ℕ) × IsFirstAscent w j) ⊎ ((first_ascent w ≡ None) × ((j : ℕ) → Rises j w → ⊥))
        → ((v : List ℕ) (ψ : List ℕ → ℤ) → rising_pairs v < n → length v < m → Once v → ((a : ℕ) → Among a v → a < p) → pair (double_schubert (v ++ (p ∷ [])) m) ψ ≡ pair (double_schubert v m) ψ)
        → pair (double_schubert (w ++ (p ∷ [])) m) φ ≡ pair (double_schubert w m) φ
    by (inl found) rec =
        let k : ℕ = found.0 in
        let r = found.1.rises in
        let e = rising_pairs_exchange k w r in
        let i = length-exchange_at k w in
        pair_double_ascent m (w ++ (p ∷ [])) k φ (rises_added k p w r)
        ∙ ap (λ v. pair (double_schubert v m) (along k φ)) (exchange_added k p w r)
        ∙ rec (exchange_at k w) (along k φ) (omega arith) (omega arith) (once_exchange k w o) (λ a j. l a (among_exchange a k w j))
        ∙ sym (pair_double_ascent m w k φ r)
    by (inr none) rec =
        let c = code_no_ascent w o none.1 in
        let d = code_added p w l in
        let len = length-append w (p ∷ []) in
        let falls = λ (e : code w ≡ staircase (length w)). subst Falls (sym (d ∙ ap (λ x. x ++ (0 ∷ [])) e)) (falls_staircase (length w)) in
        double_dominant m (w ++ (p ∷ [])) φ (omega arith) (once_added p w o l) (falls c)
        ∙ ap (λ x. diagram m 0 x φ (replicate (m + m) 0)) d
        ∙ diagram_added m 0 (code w) φ (replicate (m + m) 0)
        ∙ ap (λ x. diagram m 0 x φ (replicate (m + m) 0)) c
        ∙ sym (ap (λ u. pair u φ) (over_top (difference_product (length w) m) (rising_pairs w) w none.0) ∙ pair_difference_product m (length w) φ (omega arith))

pub last_letter_double : (m p : ℕ) (w : List ℕ) → length w < m → Once w → ((a : ℕ) → Among a w → a < p) → Same (double_schubert (w ++ (p ∷ [])) m) (double_schubert w m)
last_letter_double m p w h o l =
    same_from_pair (double_schubert (w ++ (p ∷ [])) m) (double_schubert w m) (λ φ. last_within (suc (rising_pairs w)) m p w φ (omega arith) h o l)

pub pair_cells : (m : ℕ) (cs : List ℕ) (φ : List ℕ → ℤ) → length cs ≤ m → ((i : ℕ) → get_or cs i 0 ≤ m)
    → pair (product_of (m + m) (map (λ cell. difference_in cell.0 cell.1 m) (cells cs []))) φ ≡ diagram m 0 cs φ (replicate (m + m) 0)
pair_cells m cs φ h b =
    ap (λ fs. pair (product_of (m + m) fs) φ) (row_factors (after 0 (length cs)))
    ∙ pair_rows m (λ i. part cs i - part [] i) 0 (length cs) φ (λ i. let x = b (i - 1) in omega arith) (omega arith)
    ∙ ap (λ l. diagram m 0 l φ (replicate (m + m) 0)) (parts_after cs 0 cs (λ i. let e : 0 + i ≡ i = omega arith in ap (λ j. get_or cs j 0) e))
  where
    row_factors : (rs : List ℕ) → map (λ cell. difference_in cell.0 cell.1 m) (flat_map (λ r. map {B = ℕ × ℕ} (λ c. (r, c)) (after (part [] r) (part cs r - part [] r))) rs)
        ≡ flat_map (λ i. map (λ j. difference_in i j m) (after 0 (part cs i - part [] i))) rs
    row_factors [] = refl
    row_factors (r ∷ rs) =
        map-append (λ (cell : ℕ × ℕ). difference_in cell.0 cell.1 m) (map {B = ℕ × ℕ} (λ c. (r, c)) (after (part [] r) (part cs r - part [] r))) (flat_map (λ r. map {B = ℕ × ℕ} (λ c. (r, c)) (after (part [] r) (part cs r - part [] r))) rs)
        ∙ ap₂ (λ x y. x ++ y) (map-map (λ (cell : ℕ × ℕ). difference_in cell.0 cell.1 m) (λ (c : ℕ). (r, c)) (after 0 (part cs r - part [] r))) (row_factors rs)

    parts_after : (γ : List ℕ) (a : ℕ) (β : List ℕ) → ((i : ℕ) → get_or γ (a + i) 0 ≡ get_or β i 0) → map (λ i. part γ i - part [] i) (after a (length β)) ≡ β
    parts_after γ a [] e = refl
    parts_after γ a (c ∷ β) e =
        let f : a + 1 - 1 ≡ a + 0 = omega arith in
        let x = ap (λ k. get_or γ k 0) f ∙ e 0 in
        let y : get_or γ (a + 1 - 1) 0 - 0 ≡ c = omega arith in
        ap₂ ◌∷◌ y (parts_after γ (a + 1) β (λ i. let d : a + 1 + i ≡ a + suc i = omega arith in ap (λ k. get_or γ k 0) d ∙ e (suc i)))

pub entry_small : (w : List ℕ) (i : ℕ) → get_or (code w) i 0 ≤ length w
entry_small [] i = omega arith
entry_small (a ∷ w) zero = let s = (code_is_code (a ∷ w)).0 in let l = length-code w in omega arith
entry_small (a ∷ w) (suc i) = let r = entry_small w i in omega arith

pub dominant_product : (m : ℕ) (w : List ℕ) → length w ≤ m → Once w → Falls (code w)
    → Same (double_schubert w m) (product_of (m + m) (map (λ cell. difference_in cell.0 cell.1 m) (cells (code w) [])))
dominant_product m w h o f =
    same_from_pair (double_schubert w m) (product_of (m + m) (map (λ cell. difference_in cell.0 cell.1 m) (cells (code w) []))) (λ φ.
    double_dominant m w φ h o f
    ∙ sym (pair_cells m (code w) φ (let l = length-code w in omega arith) (λ i. let e = entry_small w i in omega arith)))
