-- In a tableau of the straight shape `outer` with entries from 1 to n + k, the entries up to n form a tableau of an inner shape, and the other
-- entries, lowered by n, form a tableau of the skew shape outer/inner.
use Rattle.std.proofs.Common.{◌≡◌, ℕ, ◌+◌, ◌-◌, ◌≤◌, nat_le, Bool, true, false, ◌&&◌, cond, List, [], ◌∷◌, ◌++◌, map, length, drop, min, refl, sym, ap, ◌∙◌, arith, ℤ, pos}
use Rattle.std.proofs.lemmas.Int.{ints}
use Rattle.sym_model.specs.Sum.{total}
use Rattle.sym_model.specs.Partition.{Falls, columns}
use Rattle.sym_model.specs.Schur.{columns_rise}
use Rattle.sym_model.proofs.Sums.{total_ext, total_among, total_zero, total_map, total_each, total_exchange, total_cond as total_tested}
use Rattle.schur_laws.specs.InnerShapes.{up_to, shapes_inside}
use Rattle.schur_laws.proofs.RisingWords.{rising_words, raised_by, cut_sum, total_cut_words, total_up_to, rising-tells}
use Rattle.schur_laws.proofs.CutRows.{tableaux_below, total_straight, total_skew}
use Rattle.schur_laws.proofs.CutColumns.{letters_up_to, columns_cut}
use Rattle.sym_model.specs.Bounded.{AreAtMost}
use Rattle.schur_laws.proofs.InnerShapeLists.{among_up_to}

-- `glued n S T`: row i of S followed by row i of T with its letters raised by n, for each i
abbrev pub glued : ℕ → List (List ℕ) → List (List ℕ) → List (List ℕ)
glued n [] T = []
glued n (v ∷ S) [] = []
glued n (v ∷ S) (w ∷ T) = (v ++ raised_by n w) ∷ glued n S T

-- the sum of h(S, T) over all triples of an inner shape inside `outer` with at most c columns, a tableau S of the inner shape with entries up to n
-- that can be below the row p, and a tableau T of outer/inner with entries up to k that can be below the row q, where q begins in column c + 1
abbrev pub cut_below : ℕ → ℕ → List ℕ → ℕ → List ℕ → List ℕ → (List (List ℕ) → List (List ℕ) → ℤ) → ℤ
cut_below n k outer c p q h = total (λ inner. total (λ S. total (λ T. h S T) (tableaux_below k outer inner c q)) (tableaux_below n inner [] 0 p)) (shapes_inside outer c)

-- h(v ∷ S, w ∷ T): the value of h at the fillings S and T with the rows v and w added on top
abbrev before : (List (List ℕ) → List (List ℕ) → ℤ) → List ℕ → List ℕ → List (List ℕ) → List (List ℕ) → ℤ
before h v w S T = h (v ∷ S) (w ∷ T)

-- the sum of h(S, T) over the tableaux S of the shape `inner` that can be below the row p, and the tableaux T of (a ∷ outer)/inner that can be below
-- the row q
abbrev over_shape : ℕ → ℕ → ℕ → List ℕ → ℕ → List ℕ → List ℕ → (List (List ℕ) → List (List ℕ) → ℤ) → List ℕ → ℤ
over_shape n k a outer c p q h inner = total (λ S. total (λ T. h S T) (tableaux_below k (a ∷ outer) inner c q)) (tableaux_below n inner [] 0 p)

-- the sum of h(v ∷ S, w ∷ T) over the tableaux T of the skew shape outer/inner that can be below the row w; 0 if w cannot be below the row q
abbrev over_row : ℕ → List ℕ → ℕ → List ℕ → (List (List ℕ) → List (List ℕ) → ℤ) → ℕ → List ℕ → List ℕ → List (List ℕ) → List ℕ → ℤ
over_row k outer c q h b v inner S w = cond (columns_rise q (drop (c - b) w)) (total (λ T. h (v ∷ S) (w ∷ T)) (tableaux_below k outer inner b w)) (pos 0)

first_rows : (n k a : ℕ) (outer : List ℕ) (c : ℕ) (p q : List ℕ) (h : List (List ℕ) → List (List ℕ) → ℤ)
    → cut_below n k (a ∷ outer) c p q h
    ≡ total (λ b. total (λ v. total (λ w. cond (columns_rise p v && columns_rise q (drop (c - b) w)) (cut_below n k outer b v w (before h v w)) (pos 0)) (rising_words k 0 (a - b))) (rising_words n 0 b)) (up_to (min a c))
first_rows n k a outer c p q h =
    total_each (over_shape n k a outer c p q h) (λ b. map (λ inner. b ∷ inner) (shapes_inside outer b)) (up_to (min a c))
    ∙ total_ext (λ b. total (over_shape n k a outer c p q h) (map (λ inner. b ∷ inner) (shapes_inside outer b)))
    (λ b. total (λ v. total (λ w. cond (columns_rise p v && columns_rise q (drop (c - b) w)) (cut_below n k outer b v w (before h v w)) (pos 0)) (rising_words k 0 (a - b))) (rising_words n 0 b))
    (λ b. total_map (over_shape n k a outer c p q h) (λ inner. b ∷ inner) (shapes_inside outer b) ∙ one b) (up_to (min a c))
  where
    rows : (b : ℕ) (inner : List ℕ) → (over_shape n k a outer c p q h) (b ∷ inner) ≡ total (λ v. cond (columns_rise p v) (total (λ S. total (λ w. over_row k outer c q h b v inner S w) (rising_words k 0 (a - b))) (tableaux_below n inner [] 0 v)) (pos 0)) (rising_words n 0 b)
    rows b inner =
        total_straight n b inner p (λ S. total (λ T. h S T) (tableaux_below k (a ∷ outer) (b ∷ inner) c q))
        ∙ total_ext (λ v. cond (columns_rise p v) (total (λ S. total (λ T. h (v ∷ S) T) (tableaux_below k (a ∷ outer) (b ∷ inner) c q)) (tableaux_below n inner [] 0 v)) (pos 0))
        (λ v. cond (columns_rise p v) (total (λ S. total (λ w. over_row k outer c q h b v inner S w) (rising_words k 0 (a - b))) (tableaux_below n inner [] 0 v)) (pos 0))
        (λ v. ap (λ z. cond (columns_rise p v) z (pos 0)) (total_ext (λ S. total (λ T. h (v ∷ S) T) (tableaux_below k (a ∷ outer) (b ∷ inner) c q)) (λ S. total (λ w. over_row k outer c q h b v inner S w) (rising_words k 0 (a - b)))
        (λ S. total_skew k a b c outer inner q (λ T. h (v ∷ S) T)) (tableaux_below n inner [] 0 v))) (rising_words n 0 b)

    out : (b : ℕ) (v : List ℕ) (t : Bool)
        → total (λ inner. cond t (total (λ S. total (λ w. over_row k outer c q h b v inner S w) (rising_words k 0 (a - b))) (tableaux_below n inner [] 0 v)) (pos 0)) (shapes_inside outer b)
        ≡ total (λ w. cond (t && columns_rise q (drop (c - b) w)) (cut_below n k outer b v w (before h v w)) (pos 0)) (rising_words k 0 (a - b))
    out b v false = total_zero (shapes_inside outer b) ∙ sym (total_zero (rising_words k 0 (a - b)))
    out b v true =
        total_ext (λ inner. total (λ S. total (λ w. over_row k outer c q h b v inner S w) (rising_words k 0 (a - b))) (tableaux_below n inner [] 0 v)) (λ inner. total (λ w. total (λ S. over_row k outer c q h b v inner S w) (tableaux_below n inner [] 0 v)) (rising_words k 0 (a - b)))
        (λ inner. total_exchange (λ S w. over_row k outer c q h b v inner S w) (tableaux_below n inner [] 0 v) (rising_words k 0 (a - b))) (shapes_inside outer b)
        ∙ total_exchange (λ inner w. total (λ S. over_row k outer c q h b v inner S w) (tableaux_below n inner [] 0 v)) (shapes_inside outer b) (rising_words k 0 (a - b))
        ∙ total_ext (λ w. total (λ inner. total (λ S. over_row k outer c q h b v inner S w) (tableaux_below n inner [] 0 v)) (shapes_inside outer b)) (λ w. cond (columns_rise q (drop (c - b) w)) (cut_below n k outer b v w (before h v w)) (pos 0))
        (λ w. total_ext (λ inner. total (λ S. over_row k outer c q h b v inner S w) (tableaux_below n inner [] 0 v)) (λ inner. cond (columns_rise q (drop (c - b) w)) (total (λ S. total (λ T. h (v ∷ S) (w ∷ T)) (tableaux_below k outer inner b w)) (tableaux_below n inner [] 0 v)) (pos 0))
        (λ inner. total_tested (columns_rise q (drop (c - b) w)) (λ S. total (λ T. h (v ∷ S) (w ∷ T)) (tableaux_below k outer inner b w)) (tableaux_below n inner [] 0 v)) (shapes_inside outer b)
        ∙ total_tested (columns_rise q (drop (c - b) w)) (λ inner. total (λ S. total (λ T. h (v ∷ S) (w ∷ T)) (tableaux_below k outer inner b w)) (tableaux_below n inner [] 0 v)) (shapes_inside outer b)) (rising_words k 0 (a - b))

    one : (b : ℕ) → total (λ inner. (over_shape n k a outer c p q h) (b ∷ inner)) (shapes_inside outer b)
        ≡ total (λ v. total (λ w. cond (columns_rise p v && columns_rise q (drop (c - b) w)) (cut_below n k outer b v w (before h v w)) (pos 0)) (rising_words k 0 (a - b))) (rising_words n 0 b)
    one b =
        total_ext (λ inner. (over_shape n k a outer c p q h) (b ∷ inner)) (λ inner. total (λ v. cond (columns_rise p v) (total (λ S. total (λ w. over_row k outer c q h b v inner S w) (rising_words k 0 (a - b))) (tableaux_below n inner [] 0 v)) (pos 0)) (rising_words n 0 b)) (rows b) (shapes_inside outer b)
        ∙ total_exchange (λ inner v. cond (columns_rise p v) (total (λ S. total (λ w. over_row k outer c q h b v inner S w) (rising_words k 0 (a - b))) (tableaux_below n inner [] 0 v)) (pos 0)) (shapes_inside outer b) (rising_words n 0 b)
        ∙ total_ext (λ v. total (λ inner. cond (columns_rise p v) (total (λ S. total (λ w. over_row k outer c q h b v inner S w) (rising_words k 0 (a - b))) (tableaux_below n inner [] 0 v)) (pos 0)) (shapes_inside outer b))
        (λ v. total (λ w. cond (columns_rise p v && columns_rise q (drop (c - b) w)) (cut_below n k outer b v w (before h v w)) (pos 0)) (rising_words k 0 (a - b)))
        (λ v. out b v (columns_rise p v)) (rising_words n 0 b)

next_falls : (a : ℕ) (outer : List ℕ) → Falls (a ∷ outer) → Falls outer × (columns outer ≤ a)
next_falls a [] f = (tt, omega arith)
next_falls a (b ∷ outer) f = (f.1, f.0)

pub total_cut : (n k : ℕ) (outer p q : List ℕ) (h : List (List ℕ) → ℤ) → AreAtMost n p → Falls outer → columns outer ≤ length p + length q
    → total h (tableaux_below (n + k) outer [] 0 (p ++ raised_by n q)) ≡ cut_below n k outer (length p) p q (λ S T. h (glued n S T))
total_cut n k [] p q h f g l = omega (arith, ints)
total_cut n k (a ∷ outer) p q h f g l =
    total_straight (n + k) a outer (p ++ raised_by n q) h
    ∙ total_cut_words n k a 0 (λ u. cond (columns_rise (p ++ raised_by n q) u) (total (λ T. h (u ∷ T)) (tableaux_below (n + k) outer [] 0 u)) (pos 0)) (omega arith)
    ∙ total_among
    (λ b. total (cut_sum n k (λ u. cond (columns_rise (p ++ raised_by n q) u) (total (λ T. h (u ∷ T)) (tableaux_below (n + k) outer [] 0 u)) (pos 0)) (a - b)) (rising_words n 0 b))
    (λ b. cond (nat_le b (length p)) (total (λ v. total (λ w. cond (columns_rise p v && columns_rise q (drop (length p - b) w)) (cut_below n k outer b v w (λ S T. h (glued n (v ∷ S) (w ∷ T)))) (pos 0)) (rising_words k 0 (a - b))) (rising_words n 0 b)) (pos 0))
    (up_to a)
    (λ b m. cut_at b (among_up_to a b m) (λ v w lv lw lb. total_cut n k outer v w (λ T. h ((v ++ raised_by n w) ∷ T)) lv (next_falls a outer g).0 lb))
    ∙ total_up_to a (length p) (λ b. total (λ v. total (λ w. cond (columns_rise p v && columns_rise q (drop (length p - b) w)) (cut_below n k outer b v w (λ S T. h (glued n (v ∷ S) (w ∷ T)))) (pos 0)) (rising_words k 0 (a - b))) (rising_words n 0 b))
    ∙ sym (first_rows n k a outer (length p) p q (λ S T. h (glued n S T)))
  where
    split : (t s : Bool) (z y : ℤ) → z ≡ y → cond (t && s) z (pos 0) ≡ cond t (cond s y (pos 0)) (pos 0)
    split true true z y e = e
    split true false z y e = refl
    split false s z y e = refl

    cut_at : (b : ℕ) → b ≤ a
        → ((v w : List ℕ) → AreAtMost n v → (length v ≡ b) → columns outer ≤ length v + length w → total (λ T. h ((v ++ raised_by n w) ∷ T)) (tableaux_below (n + k) outer [] 0 (v ++ raised_by n w)) ≡ cut_below n k outer (length v) v w (λ S T. h (glued n (v ∷ S) (w ∷ T))))
        → total (cut_sum n k (λ u. cond (columns_rise (p ++ raised_by n q) u) (total (λ T. h (u ∷ T)) (tableaux_below (n + k) outer [] 0 u)) (pos 0)) (a - b)) (rising_words n 0 b)
        ≡ cond (nat_le b (length p)) (total (λ v. total (λ w. cond (columns_rise p v && columns_rise q (drop (length p - b) w)) (cut_below n k outer b v w (λ S T. h (glued n (v ∷ S) (w ∷ T)))) (pos 0)) (rising_words k 0 (a - b))) (rising_words n 0 b)) (pos 0)
    cut_at b small rec =
        total_among (cut_sum n k (λ u. cond (columns_rise (p ++ raised_by n q) u) (total (λ T. h (u ∷ T)) (tableaux_below (n + k) outer [] 0 u)) (pos 0)) (a - b))
        (λ v. cond (nat_le b (length p)) (total (λ w. cond (columns_rise p v && columns_rise q (drop (length p - b) w)) (cut_below n k outer b v w (λ S T. h (glued n (v ∷ S) (w ∷ T)))) (pos 0)) (rising_words k 0 (a - b))) (pos 0)) (rising_words n 0 b)
        (λ v m. let V = rising-tells n 0 b v m in
        total_among (λ w. cond (columns_rise (p ++ raised_by n q) (v ++ raised_by n w)) (total (λ T. h ((v ++ raised_by n w) ∷ T)) (tableaux_below (n + k) outer [] 0 (v ++ raised_by n w))) (pos 0))
        (λ w. cond (nat_le b (length p)) (cond (columns_rise p v && columns_rise q (drop (length p - b) w)) (cut_below n k outer b v w (λ S T. h (glued n (v ∷ S) (w ∷ T)))) (pos 0)) (pos 0)) (rising_words k 0 (a - b))
        (λ w o. let U = rising-tells k 0 (a - b) w o in
        let lv = V.long in
        let lw = U.long in
        let few = (next_falls a outer g).1 in
        ap (λ t. cond t (total (λ T. h ((v ++ raised_by n w) ∷ T)) (tableaux_below (n + k) outer [] 0 (v ++ raised_by n w))) (pos 0))
        (columns_cut k n p q v w f (letters_up_to n v V.letters) U.letters (omega arith))
        ∙ split (nat_le (length v) (length p)) (columns_rise p v && columns_rise q (drop (length p - length v) w)) _ _ (rec v w (letters_up_to n v V.letters) lv (omega arith))
        ∙ ap (λ i. cond (nat_le i (length p)) (cond (columns_rise p v && columns_rise q (drop (length p - i) w)) (cut_below n k outer i v w (λ S T. h (glued n (v ∷ S) (w ∷ T)))) (pos 0)) (pos 0)) lv)
        ∙ total_tested (nat_le b (length p)) (λ w. cond (columns_rise p v && columns_rise q (drop (length p - b) w)) (cut_below n k outer b v w (λ S T. h (glued n (v ∷ S) (w ∷ T)))) (pos 0)) (rising_words k 0 (a - b)))
        ∙ total_tested (nat_le b (length p)) (λ v. total (λ w. cond (columns_rise p v && columns_rise q (drop (length p - b) w)) (cut_below n k outer b v w (λ S T. h (glued n (v ∷ S) (w ∷ T)))) (pos 0)) (rising_words k 0 (a - b))) (rising_words n 0 b)
