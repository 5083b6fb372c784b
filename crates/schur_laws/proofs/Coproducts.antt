-- The coproduct of a Schur polynomial: s_λ in n + k variables is the sum, over the partitions μ inside λ, of s_μ in the first n variables times
-- s_(λ/μ) in the other k variables. In the proof, each tableau is cut into its entries up to n and its entries from n + 1 on; its content is the sum
-- of the contents of these two parts.
use Rattle.std.proofs.Common.{◌≡◌, ℕ, zero, suc, ◌+◌, ◌-◌, ◌<◌, ◌≤◌, true, ◌&&◌, cond, List, [], ◌∷◌, ◌++◌, append-nil, map, length, replicate, refl, sym, ap, ap₂, ◌∙◌, arith, ℤ, pos, ◌+ℤ◌, flat_map, rules}
use Rattle.std.proofs.lemmas.Bool.{ne_eqb, eq-eqb, cases_eq, lt-ltb}
use Rattle.std.proofs.lemmas.List.{map-append, length-replicate}
use Rattle.sym_model.specs.Sum.{total}
use Rattle.sym_model.specs.Partition.{IsPartition, columns, after, in_front, without_last_zeros}
use Rattle.sym_model.specs.Polynomial.{Same, pair}
use Rattle.sym_model.specs.Schur.{contains, columns_rise, times_in, letters_of, content, schur, skew_schur}
use Rattle.sym_model.specs.Expansion.{beside}
use Rattle.sym_model.proofs.AfterLists.{after_among, after-append}
use Rattle.sym_model.proofs.Polynomials.{pair_beside, pair_each, same_from_pair}
use Rattle.sym_model.proofs.Ring.{one-product}
use Rattle.sym_model.proofs.Sums.{total_ext, total_among, total_map, total_select}
use Rattle.sym_model.proofs.Contents.{times_in-append}
use Rattle.sym_model.proofs.Lists.{map-among, map-map}
use Rattle.tableau_laws.proofs.ColumnCounts.{contains_nothing}
use Rattle.schur_laws.specs.InnerShapes.{shapes_inside}
use Rattle.schur_laws.proofs.RisingWords.{rising_words, raised_by, AreLetters, after_shift, rising-tells}
use Rattle.schur_laws.proofs.CutRows.{tableaux_below, may_follow, total_straight, total_semistandard, HaveLetters, below-tells, below-same}
use Rattle.schur_laws.proofs.CutTableaux.{glued, cut_below, total_cut}
use Rattle.schur_laws.proofs.InnerShapeLists.{IsInside, inside-tells, contains-without_last_zeros}
use lib.IntN.{+ℤ_idr}
use Rattle.sym_model.proofs.Parts.{get_or-without_last_zeros}
use Rattle.schur_laws.proofs.StripsRemoved.{zeros_at_most}
use Rattle.sym_model.proofs.Tableaux.{columns_rise-nothing}

-- ---- skew Schur polynomials as sums over tableaux that are listed row by row

may_follow_nothing : (d : ℕ) (T : List (List ℕ)) → may_follow d [] T ≡ true
may_follow_nothing d [] = refl
may_follow_nothing d (w ∷ T) = refl

pair_skew_schur : (n : ℕ) (outer inner : List ℕ) (c : ℕ) (φ : List ℕ → ℤ) → contains outer inner ≡ true
    → pair (skew_schur outer inner n) φ ≡ total (λ T. φ (content n (letters_of T))) (tableaux_below n outer inner c [])
pair_skew_schur n outer inner c φ holds =
    search (rules, total_map, total_ext, one-product, total_select, may_follow, may_follow_nothing, total_semistandard)

zeros_rise : (n m : ℕ) (w : List ℕ) → AreLetters n w → columns_rise (replicate m 0) w ≡ true
zeros_rise n zero w h = refl
zeros_rise n (suc m) [] h = refl
zeros_rise n (suc m) (a ∷ w) h = ap₂ (λ s t. s && t) (lt-ltb 0 a h.0) (zeros_rise n m w h.2)

below_zeros : (n m : ℕ) (outer : List ℕ) (h : List (List ℕ) → ℤ) → total h (tableaux_below n outer [] 0 []) ≡ total h (tableaux_below n outer [] 0 (replicate m 0))
below_zeros n m [] h = refl
below_zeros n m (a ∷ outer) h =
    total_straight n a outer [] h
    ∙ total_among (λ w. total (λ T. h (w ∷ T)) (tableaux_below n outer [] 0 w)) (λ w. cond (columns_rise (replicate m 0) w) (total (λ T. h (w ∷ T)) (tableaux_below n outer [] 0 w)) (pos 0)) (rising_words n 0 a)
    (λ w k. sym (ap (λ t. cond t (total (λ T. h (w ∷ T)) (tableaux_below n outer [] 0 w)) (pos 0)) (zeros_rise n m w (rising-tells n 0 a w k).letters)))
    ∙ sym (total_straight n a outer (replicate m 0) h)

row_in_front : (n b : ℕ) (l p : List ℕ) (g : List ℕ → ℤ)
    → total (λ w. cond (columns_rise p w) (total (λ T. g (w ++ letters_of T)) (tableaux_below n l [] 0 w)) (pos 0)) (rising_words n 0 b) ≡ total (λ T. g (letters_of T)) (tableaux_below n (in_front b l) [] 0 p)
row_in_front n zero [] p g = ap (λ t. cond t (total (λ T. g ([] ++ letters_of T)) (tableaux_below n [] [] 0 [])) (pos 0) +ℤ pos 0) (columns_rise-nothing p) ∙ +ℤ_idr (g [] +ℤ pos 0)
row_in_front n zero (x ∷ l) p g = sym (total_straight n 0 (x ∷ l) p (λ T. g (letters_of T)))
row_in_front n (suc b) l p g = sym (total_straight n (suc b) l p (λ T. g (letters_of T)))

below-without_last_zeros : (n : ℕ) (shape p : List ℕ) (g : List ℕ → ℤ) → total (λ T. g (letters_of T)) (tableaux_below n shape [] 0 p) ≡ total (λ T. g (letters_of T)) (tableaux_below n (without_last_zeros shape) [] 0 p)
below-without_last_zeros n [] p g = refl
below-without_last_zeros n (b ∷ shape) p g =
    total_straight n b shape p (λ T. g (letters_of T))
    ∙ total_ext (λ w. cond (columns_rise p w) (total (λ T. g (w ++ letters_of T)) (tableaux_below n shape [] 0 w)) (pos 0)) (λ w. cond (columns_rise p w) (total (λ T. g (w ++ letters_of T)) (tableaux_below n (without_last_zeros shape) [] 0 w)) (pos 0))
    (λ w. ap (λ z. cond (columns_rise p w) z (pos 0)) (below-without_last_zeros n shape w (λ l. g (w ++ l)))) (rising_words n 0 b)
    ∙ row_in_front n b (without_last_zeros shape) p g

-- ---- contents of rows in which letters up to n are followed by letters greater than n

none_raised : (n j : ℕ) (w : List ℕ) (k : ℕ) → j ≤ n → AreLetters k w → times_in j (raised_by n w) ≡ 0
none_raised n j [] k h l = refl
none_raised n j (a ∷ w) k h l = search (rules, ne_eqb, (none_raised n j w k h l.2))

none_past : (n j : ℕ) (v : List ℕ) → 0 < j → AreLetters n v → times_in (n + j) v ≡ 0
none_past n j [] h l = refl
none_past n j (a ∷ v) h l = search (rules, ne_eqb, (none_past n j v h l.2))

times_in-raised : (n j : ℕ) (w : List ℕ) → times_in (n + j) (raised_by n w) ≡ times_in j w
times_in-raised n j [] = refl
times_in-raised n j (a ∷ w) = search (rules, cases_eq, eq-eqb, ne_eqb, (times_in-raised n j w))

times_in_low : (n k j : ℕ) (S T : List (List ℕ)) → j ≤ n → HaveLetters k T → length S ≡ length T → times_in j (letters_of (glued n S T)) ≡ times_in j (letters_of S)
times_in_low n k j [] T h l e = refl
times_in_low n k j (v ∷ S) [] h l e = absurd (omega arith)
times_in_low n k j (v ∷ S) (w ∷ T) h l e =
    search (rules, none_raised, times_in-append, raised_by, glued, (times_in_low n k j S T h l.1 (omega arith)))

times_in_high : (n j : ℕ) (S T : List (List ℕ)) → 0 < j → HaveLetters n S → length S ≡ length T → times_in (n + j) (letters_of (glued n S T)) ≡ times_in j (letters_of T)
times_in_high n j [] [] h l e = refl
times_in_high n j [] (w ∷ T) h l e = absurd (omega arith)
times_in_high n j (v ∷ S) [] h l e = absurd (omega arith)
times_in_high n j (v ∷ S) (w ∷ T) h l e =
    search (rules, none_past, times_in-raised, times_in-append, raised_by, glued, (times_in_high n j S T h l.1 (omega arith)))

content-glued : (n k : ℕ) (S T : List (List ℕ)) → HaveLetters n S → HaveLetters k T → length S ≡ length T → content (n + k) (letters_of (glued n S T)) ≡ content n (letters_of S) ++ content k (letters_of T)
content-glued n k S T l m e =
    let w = letters_of (glued n S T) in
    ap (map (λ j. times_in j w)) (after-append 0 n k ∙ ap (λ i. after 0 n ++ after i k) (let z : 0 + n ≡ n + 0 = omega arith in z) ∙ ap (λ i. after 0 n ++ i) (after_shift n 0 k))
    ∙ map-append (λ j. times_in j w) (after 0 n) (map (λ j. n + j) (after 0 k))
    ∙ ap₂ ◌++◌ (map-among (λ j. times_in j w) (λ j. times_in j (letters_of S)) (after 0 n) (λ j o. let r = after_among 0 n j o in let h = r.1 in times_in_low n k j S T (omega arith) m e))
    (map-map (λ j. times_in j w) (λ j. n + j) (after 0 k) ∙ map-among (λ j. times_in (n + j) w) (λ j. times_in j (letters_of T)) (after 0 k) (λ j o. let r = after_among 0 k j o in times_in_high n j S T r.0 l e))

one_inside : (n k : ℕ) (shape inner : List ℕ) (c m : ℕ) (φ : List ℕ → ℤ) → IsInside shape m inner
    → total (λ S. total (λ T. φ (content (n + k) (letters_of (glued n S T)))) (tableaux_below k shape inner c [])) (tableaux_below n inner [] 0 (replicate c 0))
    ≡ pair (beside (schur (without_last_zeros inner) n) (skew_schur shape (without_last_zeros inner) k)) φ
one_inside n k shape inner c m φ r =
    let part_of = without_last_zeros inner in
    total_among (λ S. total (λ T. φ (content (n + k) (letters_of (glued n S T)))) (tableaux_below k shape inner c [])) (λ S. pair (skew_schur shape part_of k) (λ β. φ (content n (letters_of S) ++ β))) (tableaux_below n inner [] 0 (replicate c 0))
    (λ S o. let s = below-tells n inner [] 0 (replicate c 0) S o in
    total_among (λ T. φ (content (n + k) (letters_of (glued n S T)))) (λ T. φ (content n (letters_of S) ++ content k (letters_of T))) (tableaux_below k shape inner c [])
    (λ T q. let t = below-tells k shape inner c [] T q in ap φ (content-glued n k S T s.letters t.letters (s.rows ∙ r.rows ∙ sym t.rows)))
    ∙ sym (below-same k shape part_of inner c [] (λ T. φ (content n (letters_of S) ++ content k (letters_of T))) (get_or-without_last_zeros inner))
    ∙ sym (pair_skew_schur k shape part_of c (λ β. φ (content n (letters_of S) ++ β)) (contains-without_last_zeros shape inner r.inside)))
    ∙ below-without_last_zeros n inner (replicate c 0) (λ l. pair (skew_schur shape part_of k) (λ β. φ (content n l ++ β)))
    ∙ sym (below_zeros n c part_of (λ S. pair (skew_schur shape part_of k) (λ β. φ (content n (letters_of S) ++ β))))
    ∙ sym (pair_skew_schur n part_of [] 0 (λ α. pair (skew_schur shape part_of k) (λ β. φ (α ++ β))) (contains_nothing part_of))
    ∙ sym (pair_beside (schur part_of n) (skew_schur shape part_of k) φ)

pub coproduct : (n k : ℕ) (shape : List ℕ) → IsPartition shape
    → Same (schur shape (n + k)) (flat_map (λ inner. beside (schur (without_last_zeros inner) n) (skew_schur shape (without_last_zeros inner) k)) (shapes_inside shape (columns shape)))
coproduct n k shape p =
    same_from_pair (schur shape (n + k)) (flat_map (λ inner. beside (schur (without_last_zeros inner) n) (skew_schur shape (without_last_zeros inner) k)) (shapes_inside shape (columns shape))) (λ φ.
    let c = columns shape in
    let z = length-replicate {A = ℕ} c 0 in
    pair_skew_schur (n + k) shape [] 0 φ (contains_nothing shape)
    ∙ below_zeros (n + k) c shape (λ T. φ (content (n + k) (letters_of T)))
    ∙ ap (λ q. total (λ T. φ (content (n + k) (letters_of T))) (tableaux_below (n + k) shape [] 0 q)) (sym (append-nil (replicate c 0)))
    ∙ total_cut n k shape (replicate c 0) [] (λ T. φ (content (n + k) (letters_of T))) (zeros_at_most n c) p.falls (omega arith)
    ∙ ap (λ i. cut_below n k shape i (replicate c 0) [] (λ S T. φ (content (n + k) (letters_of (glued n S T))))) z
    ∙ total_among (λ inner. total (λ S. total (λ T. φ (content (n + k) (letters_of (glued n S T)))) (tableaux_below k shape inner c [])) (tableaux_below n inner [] 0 (replicate c 0)))
    (λ inner. pair (beside (schur (without_last_zeros inner) n) (skew_schur shape (without_last_zeros inner) k)) φ) (shapes_inside shape c)
    (λ inner o. one_inside n k shape inner c c φ (inside-tells shape c inner o))
    ∙ sym (pair_each (λ inner. beside (schur (without_last_zeros inner) n) (skew_schur shape (without_last_zeros inner) k)) (shapes_inside shape c) φ))
