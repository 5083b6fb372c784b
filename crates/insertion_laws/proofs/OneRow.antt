-- Two words of three letters that are related by a Knuth relation, inserted into the same row: the rows afterwards are equal, and the words of the
-- letters that leave the row are equal or related by a Knuth relation.
use Rattle.std.proofs.Common.{◌≡◌, ◌⊎◌, ℕ, ◌<◌, ◌≤◌, List, [], ◌∷◌, ◌++◌, Option, Some, None, ◌∙◌, ap, ap₂, sym, refl, subst, inl, inr, arith, rules}
use Rattle.std.proofs.lemmas.Bool.{cases_lt}
use Rattle.sym_model.specs.Insertion.{row_with, bumped}
use Rattle.sym_model.specs.Knuth.{AreKnuthRelated}
use Rattle.insertion_laws.proofs.InsertedRows.{with-less, with-more, bumped-less, bumped-more, some_same, bumped_greater, rises_with}
use Rattle.insertion_laws.proofs.Classes.{first_related, second_related}
use Rattle.insertion_laws.proofs.RowRuns.{listed, row_after, letters_out, IsRun, run_none, run_less, run_more, run_past}
use Rattle.tableau_laws.specs.Rows.{RisesFrom}

pub bumped_from : (c a b : ℕ) (row : List ℕ) → RisesFrom c row → bumped a row ≡ Some b → c ≤ b
bumped_from c a b [] r e = cc
bumped_from c a b (x ∷ row) r e = search (rules, cases_lt, some_same, bumped-less, bumped-more, (bumped_from x a b row r.1))

-- inserting y into the row replaces a letter that is at most d. This holds if y ≤ z and if z, inserted into the row after y, replaces the letter d
-- (`takes_later`)
pub record TakesLater (y z d : ℕ) (row : List ℕ) : Type 0 where
  pub earlier : ℕ
  pub is : bumped y row ≡ Some earlier
  pub order : earlier ≤ d

takes_later : (c y z d : ℕ) (row : List ℕ) → y ≤ z → RisesFrom c row → bumped z (row_with y row) ≡ Some d → TakesLater y z d row
takes_later c y z d [] l r e = cc (sym (bumped-more z y [] l) ∙ e)
takes_later c y z d (x ∷ row) l r e = elim (cases_lt y x) [
  | inl m ↦
      let f = sym (bumped-more z y row l) ∙ sym (ap (bumped z) (with-less y x row m)) ∙ e in
      record { earlier = x; is = bumped-less y x row m; order = bumped_from x z d row r.1 f }
  | inr m ↦
      let f = sym (bumped-more z x (row_with y row) (omega arith)) ∙ sym (ap (bumped z) (with-more y x row m)) ∙ e in
      let t = takes_later x y z d row l r.1 f in
      record { earlier = t.earlier; is = bumped-more y x row m ∙ t.is; order = t.order }
]

-- after z is inserted into the row, inserting y replaces a letter that is at most z; by `takes_earlier`, this holds if y < z
pub record TakesEarlier (y z : ℕ) (row : List ℕ) : Type 0 where
  pub earlier : ℕ
  pub is : bumped y (row_with z row) ≡ Some earlier
  pub order : earlier ≤ z

takes_earlier : (y z : ℕ) (row : List ℕ) → y < z → TakesEarlier y z row
takes_earlier y z [] l = record { earlier = z; is = bumped-less y z [] l; order = omega arith }
takes_earlier y z (x ∷ row) l = elim (cases_lt z x) [
  | inl m ↦ record { earlier = z; is = ap (bumped y) (with-less z x row m) ∙ bumped-less y z row l; order = omega arith }
  | inr m ↦ elim (cases_lt y x) [
    | inl n ↦ record { earlier = x; is = ap (bumped y) (with-more z x row m) ∙ bumped-less y x (row_with z row) n; order = m }
    | inr n ↦
        let t = takes_earlier y z row l in
        record { earlier = t.earlier; is = ap (bumped y) (with-more z x row m) ∙ bumped-more y x (row_with z row) n ∙ t.is; order = t.order }
  ]
]

-- inserting v and inserting w into the row give the same row, and the words of the letters that leave the row are equal or related by a Knuth
-- relation

pub record AreAlike (row v w : List ℕ) : Type 0 where
  pub rows_same : row_after row v ≡ row_after row w
  pub out : (letters_out row v ≡ letters_out row w) ⊎ AreKnuthRelated (letters_out row v) (letters_out row w)

alike :
    {row v w new out other : List ℕ} → IsRun row v new out → IsRun row w new other → (out ≡ other) ⊎ AreKnuthRelated out other
    → AreAlike row v w
alike h k r = search rules

alike_past : (b : ℕ) (row v w : List ℕ) → IsRun (b ∷ row) v (b ∷ row_after row v) (letters_out row v)
    → IsRun (b ∷ row) w (b ∷ row_after row w) (letters_out row w) → AreAlike row v w → AreAlike (b ∷ row) v w
alike_past b row v w h k a =
    alike h (record { row_is = k.row_is ∙ ap (λ (x : List ℕ). b ∷ x) (sym a.rows_same); out_is = k.out_is }) a.out

pub first_none : (x y z : ℕ) → x < y → y ≤ z
    → (row_after [] (y ∷ z ∷ x ∷ []) ≡ row_after [] (y ∷ x ∷ z ∷ [])) × (letters_out [] (y ∷ z ∷ x ∷ []) ≡ letters_out [] (y ∷ x ∷ z ∷ []))
first_none x y z l m = search rules

pub first_alike : (c x y z : ℕ) (row : List ℕ) → x < y → y ≤ z → RisesFrom c row → AreAlike row (y ∷ z ∷ x ∷ []) (y ∷ x ∷ z ∷ [])
first_alike c x y z [] l m r = let e = first_none x y z l m in record { rows_same = e.0; out = inl e.1 }
first_alike c x y z (b ∷ row) l m r = elim (cases_lt y b) [
  | inl s ↦
      alike (run_less y b s (run_more z y m (run_less x y l (run_none _)))) (run_less y b s (run_less x y l (run_more z x (omega arith) (run_none _))))
      (last (bumped z row) refl s)
  | inr s ↦ elim (cases_lt x b) [
    | inl t ↦
        alike (run_more y b s (run_more z b (omega arith) (run_less x b t (run_none _))))
        (run_more y b s (run_less x b t (run_more z x (omega arith) (run_none _))))
        (middle (bumped y row) (bumped z (row_with y row)) refl refl s)
    | inr t ↦
        alike_past b row _ _ (run_past b row _ (s, (omega arith, (t, tt)))) (run_past b row _ (s, (t, (omega arith, tt))))
        (first_alike b x y z row l m r.1)
  ]
]
  where
    last : (o : Option ℕ) → bumped z row ≡ o → y < b
        → (b ∷ (listed o ++ y ∷ []) ≡ b ∷ y ∷ (listed o ++ [])) ⊎ AreKnuthRelated (b ∷ (listed o ++ y ∷ [])) (b ∷ y ∷ (listed o ++ []))
    last None e s = inl refl
    last (Some d) e s = inr (first_related y b d s (bumped_from b z d row r.1 e))

    middle : (o p : Option ℕ) → bumped y row ≡ o → bumped z (row_with y row) ≡ p → b ≤ y
        → (listed o ++ (listed p ++ b ∷ []) ≡ listed o ++ (b ∷ (listed p ++ [])))
        ⊎ AreKnuthRelated (listed o ++ (listed p ++ b ∷ [])) (listed o ++ (b ∷ (listed p ++ [])))
    middle o None e f s = inl refl
    middle None (Some d) e f s = let t = takes_later b y z d row m r.1 f in absurd (cc (sym e ∙ t.is))
    middle (Some a) (Some d) e f s =
        let t = takes_later b y z d row m r.1 f in
        let g = some_same a t.earlier (sym e ∙ t.is) in
        let n = bumped_greater y a row e in
        inr (first_related b a d (omega arith) (omega (arith, t.order)))

pub second_none : (x y z : ℕ) → x ≤ y → y < z
    → (row_after [] (x ∷ z ∷ y ∷ []) ≡ row_after [] (z ∷ x ∷ y ∷ [])) × (letters_out [] (x ∷ z ∷ y ∷ []) ≡ letters_out [] (z ∷ x ∷ y ∷ []))
second_none x y z l m = search rules

pub second_alike : (c x y z : ℕ) (row : List ℕ) → x ≤ y → y < z → RisesFrom c row → AreAlike row (x ∷ z ∷ y ∷ []) (z ∷ x ∷ y ∷ [])
second_alike c x y z [] l m r = let e = second_none x y z l m in record { rows_same = e.0; out = inl e.1 }
second_alike c x y z (b ∷ row) l m r = elim (cases_lt x b) [
  | inr s ↦
      alike_past b row _ _ (run_past b row _ (s, (omega arith, (omega arith, tt)))) (run_past b row _ (omega arith, (s, (omega arith, tt))))
      (second_alike b x y z row l m r.1)
  | inl s ↦ elim (cases_lt z b) [
    | inr t ↦
        alike (run_less x b s (run_more z x (omega arith) (run_more y x l (run_none _))))
        (run_more z b t (run_less x b s (run_more y x l (run_none _))))
        (middle (bumped z row) refl t)
    | inl t ↦
        small row r.1 t
        (run_less x b s (run_more z x (omega arith) (run_more y x l (run_none _))))
        (run_less z b t (run_less x z (omega arith) (run_more y x l (run_none _))))
  ]
]
  where
    middle : (o : Option ℕ) → bumped z row ≡ o → b ≤ z
        → (b ∷ (listed o ++ (listed (bumped y (row_with z row)) ++ [])) ≡ listed o ++ (b ∷ (listed (bumped y (row_with z row)) ++ [])))
        ⊎ AreKnuthRelated (b ∷ (listed o ++ (listed (bumped y (row_with z row)) ++ []))) (listed o ++ (b ∷ (listed (bumped y (row_with z row)) ++ [])))
    middle None e t = inl refl
    middle (Some d) e t =
        let k = takes_earlier y z row m in
        let n = bumped_greater z d row e in
        let f = bumped_from b y k.earlier (row_with z row) (rises_with b z row t r.1) k.is in
        inr (subst (λ o. AreKnuthRelated (b ∷ d ∷ (listed o ++ [])) (d ∷ b ∷ (listed o ++ []))) (sym k.is)
        (second_related b k.earlier d f (omega (arith, k.order))))

    small : (row : List ℕ) → RisesFrom b row → z < b
        → IsRun (b ∷ row) (x ∷ z ∷ y ∷ []) (x ∷ row_with y (row_with z row)) (b ∷ (listed (bumped z row) ++ (listed (bumped y (row_with z row)) ++ [])))
        → IsRun (b ∷ row) (z ∷ x ∷ y ∷ []) (x ∷ row_with y row) (b ∷ z ∷ (listed (bumped y row) ++ []))
        → AreAlike (b ∷ row) (x ∷ z ∷ y ∷ []) (z ∷ x ∷ y ∷ [])
    small [] r t h k =
        alike h (record { row_is = k.row_is ∙ ap (λ (v : List ℕ). x ∷ v) (sym (with-less y z [] m)); out_is = k.out_is })
        (inl (ap (λ o. b ∷ (listed o ++ [])) (bumped-less y z [] m)))
    small (d ∷ row) r t h k =
        let q : row_with z (d ∷ row) ≡ z ∷ row = with-less z d row (omega (arith, r.0)) in
        let u : row_with y (row_with z (d ∷ row)) ≡ row_with y (d ∷ row) =
        ap (row_with y) q ∙ with-less y z row m ∙ sym (with-less y d row (omega (arith, r.0))) in
        alike (record {
          row_is = h.row_is ∙ ap (λ (v : List ℕ). x ∷ v) u;
          out_is = h.out_is ∙ ap₂ (λ o p. b ∷ (listed o ++ (listed p ++ []))) (bumped-less z d row (omega (arith, r.0))) (ap (bumped y) q ∙ bumped-less y z row m);
        })
        (record { row_is = k.row_is; out_is = k.out_is ∙ ap (λ o. b ∷ z ∷ (listed o ++ [])) (bumped-less y d row (omega (arith, r.0))) })
        (inr (first_related z b d t r.0))
