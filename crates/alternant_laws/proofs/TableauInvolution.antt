-- The Bender–Knuth involution on the semistandard tableaux of a skew shape (`tableaux`), and the symmetry of skew Schur polynomials.
use Rattle.std.proofs.Common.{◌≡◌, ℕ, zero, suc, ◌-◌, ◌<◌, ◌≤◌, ◌⊎◌, Bool, true, false, cond, ◌&&◌, List, [], ◌∷◌, ◌++◌, map, length, replicate, drop, sym, ◌∙◌, ap, ap₂, subst, refl, inl, inr, arith, ℤ, pos, filter}
use Rattle.std.proofs.lemmas.Bool.{cases_Bool, cases_lt, cases_eq}
use Rattle.std.proofs.lemmas.List.{length-append}
use Rattle.std.proofs.Math.Bool.{and-true}
use Rattle.sym_model.specs.Sum.{total, Among}
use Rattle.sym_model.specs.Partition.{Falls, IsPartition, part}
use Rattle.sym_model.specs.Polynomial.{Term, same, coefficient}
use Rattle.sym_model.specs.Schur.{row_lengths, fillings_of, semistandard, contains, tableaux, times_in, letters_of, content, skew_schur}
use Rattle.sym_model.specs.PlaceOrders.{smaller}
use Rattle.sym_model.specs.Symmetric.{Symmetric}
use Rattle.sym_model.proofs.Sums.{total_ext, total_map, total_select, Among-map, Among_from_map, Among-select}
use Rattle.sym_model.proofs.Exponents.{same_apart}
use Rattle.tableau_laws.specs.PaddedRows.{fillings_over, pattern_of, padded}
use Rattle.tableau_laws.specs.Grid.{first_line, is_padded_tableau}
use Rattle.tableau_laws.proofs.Padding.{padded-fillings}
use Rattle.tableau_laws.proofs.PaddedTableaux.{padded-semistandard}
use Rattle.tableau_laws.proofs.PatternFillings.{filling_tells, filling_from, filling_lengths}
use Rattle.tableau_laws.proofs.RowSums.{tableau_tells, filling_positive, pattern_lengths, of_tableaux, total_tableaux}
use Rattle.tableau_laws.proofs.Contents.{times_in-padded, content-padded}
use Rattle.alternant_laws.specs.BenderKnuth.{IsEither, AgreeBut, RowsAgreeBut, FillingsAgreeBut, BenderKnuth}
use Rattle.alternant_laws.proofs.Rows.{cut, recut, Cut, cases_cut, low, first, second, high}
use Rattle.alternant_laws.proofs.Exchanges.{exchanged, exchanged_at, same_exchanged, length_content}
use Rattle.alternant_laws.proofs.Stacks.{IsStack, stack_tells, stack_back, toggled, toggled_fits, toggle, toggle_stack, toggle_twice, toggle_lower, toggle_upper}
use Rattle.alternant_laws.proofs.SymmetricSums.{is_left_of, stands_left, left_tableaux, total_exchanged}
use Rattle.sym_model.proofs.Polynomials.{at_only}

-- ---- the rows of a filling of a skew shape, from its padded rows (`unpadded`)

abbrev pub unpadded : List ℕ → List (List ℕ) → List (List ℕ)
unpadded inner [] = []
unpadded inner (row ∷ rows) = drop (part inner 1) row ∷ unpadded (drop 1 inner) rows

drop_zeros : (b : ℕ) (row : List ℕ) → drop b (replicate b 0 ++ row) ≡ row
drop_zeros zero [] = refl
drop_zeros zero (a ∷ row) = refl
drop_zeros (suc b) row = drop_zeros b row

unpadded-padded : (inner : List ℕ) (rows : List (List ℕ)) → unpadded inner (padded inner rows) ≡ rows
unpadded-padded inner [] = refl
unpadded-padded inner (row ∷ rows) = ap₂ ◌∷◌ (drop_zeros (part inner 1) row) (unpadded-padded (drop 1 inner) rows)

-- the Bender–Knuth involution changes only letters k and k + 1

letters_agree : (k s a : ℕ) → AgreeBut k a (cut k s a)
letters_agree k s a = by (cut k s a) (cases_cut k s a)
  where
    either : k ≤ a → a ≤ suc k → (a ≡ k) ⊎ (a ≡ k → ⊥) → IsEither k a
    either p q (inl e) = inl e
    either p q (inr d) = inr (omega arith)

    by : (c : ℕ) → Cut k s a c → AgreeBut k a c
    by c (low p e) = inl (sym e)
    by c (high p e) = inl (sym e)
    by c (first p q t e) = inr (either p q (cases_eq a k), inl e)
    by c (second p q t e) = inr (either p q (cases_eq a k), inr e)

rows_agree : (k s : ℕ) (w : List ℕ) → RowsAgreeBut k w (recut k s w)
rows_agree k s [] = tt
rows_agree k s (a ∷ w) = (letters_agree k s a, rows_agree k (s - 1) w)

drop_agree : (k b : ℕ) (v w : List ℕ) → RowsAgreeBut k v w → RowsAgreeBut k (drop b v) (drop b w)
drop_agree k zero [] [] h = tt
drop_agree k (suc b) [] [] h = tt
drop_agree k b [] (c ∷ w) h = absurd h
drop_agree k b (a ∷ v) [] h = absurd h
drop_agree k zero (a ∷ v) (c ∷ w) h = h
drop_agree k (suc b) (a ∷ v) (c ∷ w) h = drop_agree k b v w h.1

fillings_agree : (k c : ℕ) (inner : List ℕ) (rows : List (List ℕ)) → FillingsAgreeBut k (unpadded inner rows) (unpadded inner (toggled k c rows))
fillings_agree k c inner [] = tt
fillings_agree k c inner (w ∷ ws) = (drop_agree k (part inner 1) w _ (rows_agree k _ w), fillings_agree k (smaller k w) (drop 1 inner) ws)

-- ---- the Bender–Knuth involution `exchange` on the rows of a tableau, whose image is a tableau of the same shape

abbrev pub exchange : ℕ → List ℕ → List (List ℕ) → List (List ℕ)
exchange k inner T = unpadded inner (toggle k (padded inner T))

-- the padded rows of T are a stack, that is, weakly increasing, and each can be directly above the next (`IsStack`); `exchange k inner T` is in the
-- list of the tableaux, and its padded rows are those of T after `toggle k`
record HasPartner (n k : ℕ) (outer inner : List ℕ) (T : List (List ℕ)) : Type 0 where
  stack : IsStack (padded inner T)
  listed : Among (exchange k inner T) (tableaux n outer inner)
  pads : padded inner (exchange k inner T) ≡ toggle k (padded inner T)

tableau_back : (n : ℕ) (outer inner : List ℕ) (T : List (List ℕ)) → Among T (fillings_of n (row_lengths outer inner)) → semistandard inner T ≡ true → contains outer inner ≡ true
    → Among T (tableaux n outer inner)
tableau_back n outer inner T m s e =
    subst (λ b. Among T (cond b (filter (semistandard inner) (fillings_of n (row_lengths outer inner))) [])) (sym e)
    (Among-select (semistandard inner) T (fillings_of n (row_lengths outer inner)) m s)

partner : (n k : ℕ) (outer inner : List ℕ) (T : List (List ℕ)) → 0 < k → k < n → Falls outer → Falls inner → Among T (tableaux n outer inner) → HasPartner n k outer inner T
partner n k outer inner T p q f g m =
    let t = tableau_tells n outer inner T m in
    let R = padded inner T in
    let a = subst (λ (Rs : List (List (List ℕ))). Among R Rs) (padded-fillings n outer inner) (Among-map (padded inner) T (fillings_of n (row_lengths outer inner)) t.0) in
    let fits = filling_tells n (pattern_of outer inner) R a in
    let lengths = filling_lengths n (pattern_of outer inner) R fits ∙ pattern_lengths outer inner t.1.1 in
    let s = stack_tells R (subst Falls (sym lengths) f) (padded-semistandard inner T g (filling_positive n (row_lengths outer inner) T t.0) ∙ t.1.0) in
    let b = filling_from n (pattern_of outer inner) (toggle k R) (toggled_fits n k (length (first_line R)) (pattern_of outer inner) R p q fits) in
    let u = Among_from_map (padded inner) (toggle k R) (fillings_of n (row_lengths outer inner)) (subst (λ (Rs : List (List (List ℕ))). Among (toggle k R) Rs) (sym (padded-fillings n outer inner)) b) in
    let e : exchange k inner T ≡ u.0 = ap (unpadded inner) u.2 ∙ unpadded-padded inner u.0 in
    let back = stack_back (toggle k R) (toggle_stack k R p s) in
    let order : semistandard inner u.0 ≡ true =
    sym (padded-semistandard inner u.0 g (filling_positive n (row_lengths outer inner) u.0 u.1)) ∙ ap is_padded_tableau (sym u.2) ∙ back in
    record {
      stack = s;
      listed = subst (λ (U : List (List ℕ)). Among U (tableaux n outer inner)) (sym e) (tableau_back n outer inner u.0 u.1 order t.1.1);
      pads = ap (padded inner) e ∙ sym u.2;
    }

pub bender_knuth : (n k : ℕ) (outer inner : List ℕ) → 0 < k → k < n → IsPartition outer → IsPartition inner → BenderKnuth n k outer inner
bender_knuth n k outer inner p q o i =
    record {
      exchange = exchange k inner;
      into = λ T m. let h = partner n k outer inner T p q o.falls i.falls m in h.listed;
      twice = λ T m. let h = partner n k outer inner T p q o.falls i.falls m in
          ap (λ (R : List (List ℕ)). unpadded inner (toggle k R)) h.pads ∙ ap (unpadded inner) (toggle_twice k (padded inner T) p h.stack) ∙ unpadded-padded inner T;
      lower = λ T m. let h = partner n k outer inner T p q o.falls i.falls m in
          sym (times_in-padded k inner (exchange k inner T) p) ∙ ap (λ (R : List (List ℕ)). times_in k (letters_of R)) h.pads
          ∙ toggle_lower k (padded inner T) p h.stack ∙ times_in-padded (suc k) inner T (omega arith);
      upper = λ T m. let h = partner n k outer inner T p q o.falls i.falls m in
          sym (times_in-padded (suc k) inner (exchange k inner T) (omega arith)) ∙ ap (λ (R : List (List ℕ)). times_in (suc k) (letters_of R)) h.pads
          ∙ toggle_upper k (padded inner T) p h.stack ∙ times_in-padded k inner T p;
      others = λ T m. subst (λ (U : List (List ℕ)). FillingsAgreeBut k U (exchange k inner T)) (unpadded-padded inner T) (fillings_agree k (length (first_line (padded inner T))) inner (padded inner T));
    }

-- ---- skew Schur polynomials are symmetric

left_of_nothing : (rows : List (List ℕ)) → is_left_of [] rows ≡ true
left_of_nothing [] = refl
left_of_nothing (w ∷ ws) = refl

-- every filling of the pattern that is a tableau fits left of the empty column, so sums over `left_tableaux n pattern []` are sums over all tableaux
-- of the pattern
pub total_left_of_nothing : (n : ℕ) (pattern : List (List Bool)) (g : List (List ℕ) → ℤ)
    → total (of_tableaux g) (fillings_over n pattern) ≡ total g (left_tableaux n pattern [])
total_left_of_nothing n pattern g =
    total_ext (of_tableaux g) (λ (rows : List (List ℕ)). cond (stands_left [] rows) (g rows) (pos 0))
    (λ rows. ap (λ (b : Bool). cond b (g rows) (pos 0)) (sym (ap (λ (b : Bool). is_padded_tableau rows && b) (left_of_nothing rows) ∙ and-true (is_padded_tableau rows))))
    (fillings_over n pattern)
    ∙ sym (total_select g (stands_left []) (fillings_over n pattern))

coefficient_rows : (n : ℕ) (outer inner α : List ℕ) → IsPartition inner → contains outer inner ≡ true
    → coefficient (skew_schur outer inner n) α
    ≡ total (λ (rows : List (List ℕ)). at_only α (content n (letters_of rows))) (left_tableaux n (pattern_of outer inner) [])
coefficient_rows n outer inner α i e =
    total_map (λ (t : Term). cond (same t.0 α) t.1 (pos 0)) (λ (T : List (List ℕ)). (content n (letters_of T), pos 1)) (tableaux n outer inner)
    ∙ total_tableaux n outer inner (λ (T : List (List ℕ)). cond (same (content n (letters_of T)) α) (pos 1) (pos 0)) (λ (rows : List (List ℕ)). at_only α (content n (letters_of rows))) i.falls e
    (λ T m. ap (at_only α) (sym (content-padded n inner T)))
    ∙ total_left_of_nothing n (pattern_of outer inner) (λ (rows : List (List ℕ)). at_only α (content n (letters_of rows)))

too_long : (n : ℕ) (α : List ℕ) (rows : List (List ℕ)) → n < length α → at_only α (content n (letters_of rows)) ≡ pos 0
too_long n α rows h =
    ap (λ (b : Bool). cond b (pos 1) (pos 0)) (same_apart (content n (letters_of rows)) α (λ e. let l = length_content n (letters_of rows) in let d = ap length e in omega arith))

rows_symmetric : (n : ℕ) (outer inner left : List ℕ) (a b : ℕ) (right : List ℕ) → IsPartition outer → contains outer inner ≡ true
    → total (λ (rows : List (List ℕ)). at_only (left ++ (a ∷ b ∷ right)) (content n (letters_of rows))) (left_tableaux n (pattern_of outer inner) [])
    ≡ total (λ (rows : List (List ℕ)). at_only (left ++ (b ∷ a ∷ right)) (content n (letters_of rows))) (left_tableaux n (pattern_of outer inner) [])
rows_symmetric n outer inner left a b right o e = by (cases_lt (suc (length left)) n)
  where
    by : (suc (length left) < n) ⊎ (n ≤ suc (length left))
        → total (λ (rows : List (List ℕ)). at_only (left ++ (a ∷ b ∷ right)) (content n (letters_of rows))) (left_tableaux n (pattern_of outer inner) [])
        ≡ total (λ (rows : List (List ℕ)). at_only (left ++ (b ∷ a ∷ right)) (content n (letters_of rows))) (left_tableaux n (pattern_of outer inner) [])
    by (inl h) =
        sym (total_exchanged n (length left) (pattern_of outer inner) [] (at_only (left ++ (a ∷ b ∷ right))) h (subst Falls (sym (pattern_lengths outer inner e)) o.falls) tt)
        ∙ total_ext (λ (rows : List (List ℕ)). at_only (left ++ (a ∷ b ∷ right)) (exchanged (length left) (content n (letters_of rows))))
        (λ (rows : List (List ℕ)). at_only (left ++ (b ∷ a ∷ right)) (content n (letters_of rows)))
        (λ rows. ap (λ (c : Bool). cond c (pos 1) (pos 0)) (same_exchanged (length left) (content n (letters_of rows)) (left ++ (a ∷ b ∷ right)) ∙ ap (same (content n (letters_of rows))) (exchanged_at left a b right)))
        (left_tableaux n (pattern_of outer inner) [])
    by (inr h) =
        total_ext (λ (rows : List (List ℕ)). at_only (left ++ (a ∷ b ∷ right)) (content n (letters_of rows)))
        (λ (rows : List (List ℕ)). at_only (left ++ (b ∷ a ∷ right)) (content n (letters_of rows)))
        (λ rows. too_long n (left ++ (a ∷ b ∷ right)) rows (omega (arith, length-append left (a ∷ b ∷ right)))
        ∙ sym (too_long n (left ++ (b ∷ a ∷ right)) rows (omega (arith, length-append left (b ∷ a ∷ right)))))
        (left_tableaux n (pattern_of outer inner) [])

pub symmetric-skew_schur : (n : ℕ) (outer inner : List ℕ) → IsPartition outer → IsPartition inner → Symmetric (skew_schur outer inner n)
symmetric-skew_schur n outer inner o i left a b right = by (cases_Bool (contains outer inner))
  where
    by : (contains outer inner ≡ true) ⊎ (contains outer inner ≡ false)
        → coefficient (skew_schur outer inner n) (left ++ (a ∷ b ∷ right)) ≡ coefficient (skew_schur outer inner n) (left ++ (b ∷ a ∷ right))
    by (inl e) =
        coefficient_rows n outer inner (left ++ (a ∷ b ∷ right)) i e
        ∙ rows_symmetric n outer inner left a b right o e
        ∙ sym (coefficient_rows n outer inner (left ++ (b ∷ a ∷ right)) i e)
    by (inr e) = none (left ++ (a ∷ b ∷ right)) ∙ sym (none (left ++ (b ∷ a ∷ right)))
      where
        none : (α : List ℕ) → coefficient (skew_schur outer inner n) α ≡ pos 0
        none α = ap (λ (c : Bool). coefficient (map (λ (T : List (List ℕ)). (content n (letters_of T), pos 1)) (cond c (filter (semistandard inner) (fillings_of n (row_lengths outer inner))) [])) α) e
