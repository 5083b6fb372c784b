-- Inserting a letter into the rows of a straight tableau gives the rows of a straight tableau with one cell more.
use Rattle.std.proofs.Common.{◌≡◌, ℕ, ◌<◌, ◌≤◌, cond, List, [], ◌∷◌, ◌++◌, length, Option, Some, None, ◌∙◌, ap, sym, refl, subst, inl, inr, arith, rules}
use Rattle.std.proofs.lemmas.Bool.{cases_lt, lt-ltb, le-ltb}
use Rattle.std.proofs.lemmas.List.{length-append}
use Rattle.sym_model.specs.Insertion.{row_with, bumped, inserted}
use Rattle.sym_model.specs.Tableau.{shape_of}
use Rattle.insertion_laws.specs.Rows.{StandsOn, IsRowOver, AreRows, HasOneMore}
use Rattle.tableau_laws.specs.Rows.{RisesFrom}
use Rattle.tableau_laws.specs.Grid.{first_line}

-- ---- a letter inserted into one row: it replaces the first greater letter, or is appended

pub with-less : (a b : ℕ) (row : List ℕ) → a < b → row_with a (b ∷ row) ≡ a ∷ row
with-less a b row h = ap (λ t. cond t (a ∷ row) (b ∷ row_with a row)) (lt-ltb a b h)

pub with-more : (a b : ℕ) (row : List ℕ) → b ≤ a → row_with a (b ∷ row) ≡ b ∷ row_with a row
with-more a b row h = ap (λ t. cond t (a ∷ row) (b ∷ row_with a row)) (le-ltb a b h)

pub bumped-less : (a b : ℕ) (row : List ℕ) → a < b → bumped a (b ∷ row) ≡ Some b
bumped-less a b row h = ap (λ t. cond t (Some b) (bumped a row)) (lt-ltb a b h)

pub bumped-more : (a b : ℕ) (row : List ℕ) → b ≤ a → bumped a (b ∷ row) ≡ bumped a row
bumped-more a b row h = ap (λ t. cond t (Some b) (bumped a row)) (le-ltb a b h)

pub some_same : (x b : ℕ) → Some x ≡ Some b → x ≡ b
some_same x b e = cc

pub bumped_greater : (a b : ℕ) (row : List ℕ) → bumped a row ≡ Some b → a < b
bumped_greater a b [] e = cc
bumped_greater a b (x ∷ row) e = search (rules, cases_lt, some_same, bumped-less, bumped-more, (bumped_greater a b row))

pub with-end : (a : ℕ) (row : List ℕ) → bumped a row ≡ None → row_with a row ≡ row ++ a ∷ []
with-end a [] e = refl
with-end a (x ∷ row) e = search (rules, cases_lt, bumped-less, with-more, bumped-more, (with-end a row))

pub length-with : (a b : ℕ) (row : List ℕ) → bumped a row ≡ Some b → length (row_with a row) ≡ length row
length-with a b [] e = cc
length-with a b (x ∷ row) e = search (rules, cases_lt, with-less, with-more, bumped-more, (length-with a b row))

pub filled-with : (a : ℕ) (row : List ℕ) → 0 < length (row_with a row)
filled-with a [] = omega arith
filled-with a (x ∷ row) = search rules

pub rises_lower : (c d : ℕ) (row : List ℕ) → c ≤ d → RisesFrom d row → RisesFrom c row
rises_lower c d [] l h = tt
rises_lower c d (x ∷ row) l h = (omega (arith, h.0), h.1)

pub rises_with : (c a : ℕ) (row : List ℕ) → c ≤ a → RisesFrom c row → RisesFrom c (row_with a row)
rises_with c a [] l h = (l, tt)
rises_with c a (x ∷ row) l h = elim (cases_lt a x) [
  | inl m ↦ subst (RisesFrom c) (sym (with-less a x row m)) (l, rises_lower a x row (omega arith) h.1)
  | inr m ↦ subst (RisesFrom c) (sym (with-more a x row m)) (h.0, rises_with x a row m h.1)
]

-- if `lower` can be directly below `upper`, then `lower` can also be directly below the row `upper` with a inserted: this row is longer than `upper`,
-- or has a smaller letter in one place
pub stands_with : (a : ℕ) (lower upper : List ℕ) → StandsOn lower upper → StandsOn lower (row_with a upper)
stands_with a [] upper h = tt
stands_with a (y ∷ lower) [] h = absurd h
stands_with a (y ∷ lower) (x ∷ upper) h = elim (cases_lt a x) [
  | inl m ↦ subst (StandsOn (y ∷ lower)) (sym (with-less a x upper m)) (omega (arith, h.0), h.1)
  | inr m ↦ subst (StandsOn (y ∷ lower)) (sym (with-more a x upper m)) (h.0, stands_with a lower upper h.1)
]

-- if `lower` can be directly below `upper`, and a replaces the letter b of `upper`, then `lower` with b inserted can be below `upper` with a inserted
pub stands_bumped :
    (a b : ℕ) (lower upper : List ℕ) → bumped a upper ≡ Some b → StandsOn lower upper
    → StandsOn (row_with b lower) (row_with a upper)
stands_bumped a b [] [] e h = cc
stands_bumped a b (y ∷ lower) [] e h = absurd h
stands_bumped a b [] (x ∷ upper) e h = search (rules, bumped_greater, cases_lt, with-less, with-more)
stands_bumped a b (y ∷ lower) (x ∷ upper) e h =
    let less = bumped_greater a b (x ∷ upper) e in
    let above = h.0 in
    elim (cases_lt a x) [
      | inl m ↦
          let same = some_same x b (sym (bumped-less a x upper m) ∙ e) in
          subst (λ l. StandsOn l (row_with a (x ∷ upper))) (sym (with-less b y lower (omega arith)))
          (subst (StandsOn (b ∷ lower)) (sym (with-less a x upper m)) (less, h.1))
      | inr m ↦ elim (cases_lt b y) [
        | inl n ↦
            subst (λ l. StandsOn l (row_with a (x ∷ upper))) (sym (with-less b y lower n))
            (subst (StandsOn (b ∷ lower)) (sym (with-more a x upper m)) (omega arith, stands_with a lower upper h.1))
        | inr n ↦
            subst (λ l. StandsOn l (row_with a (x ∷ upper))) (sym (with-more b y lower n))
            (subst (StandsOn (y ∷ row_with b lower)) (sym (with-more a x upper m))
            (above, stands_bumped a b lower upper (sym (bumped-more a x upper m) ∙ e) h.1))
      ]
    ]

pub stands_longer : (lower upper more : List ℕ) → StandsOn lower upper → StandsOn lower (upper ++ more)
stands_longer [] upper more h = tt
stands_longer (y ∷ lower) [] more h = absurd h
stands_longer (y ∷ lower) (x ∷ upper) more h = (h.0, stands_longer lower upper more h.1)

pub stands-length : (lower upper : List ℕ) → StandsOn lower upper → length lower ≤ length upper
stands-length [] upper h = omega arith
stands-length (y ∷ lower) [] h = absurd h
stands-length (y ∷ lower) (x ∷ upper) h = omega (arith, stands-length lower upper h.1)

pub inserted-none : (rows : List (List ℕ)) → inserted rows None ≡ rows
inserted-none [] = refl
inserted-none (row ∷ rows) = refl

pub first-inserted : (a : ℕ) (rows : List (List ℕ)) → first_line (inserted rows (Some a)) ≡ row_with a (first_line rows)
first-inserted a [] = refl
first-inserted a (row ∷ rows) = refl

pub keeps_rows : (m a : ℕ) (rows : List (List ℕ)) → m ≤ a → AreRows m rows → AreRows m (inserted rows (Some a))
keeps_rows m a [] l h = (record { filled = omega arith; rises = (l, tt); stands = tt }, tt)
keeps_rows m a (row ∷ rows) l h = by (bumped a row) refl (λ b n. keeps_rows m b rows n h.1)
  where
    over : (rest : List (List ℕ)) → StandsOn (first_line rest) (row_with a row) → IsRowOver m (row_with a row) rest
    over rest s = record { filled = filled-with a row; rises = rises_with m a row l h.0.rises; stands = s }

    by : (o : Option ℕ) → bumped a row ≡ o → ((b : ℕ) → m ≤ b → AreRows m (inserted rows (Some b)))
        → AreRows m (row_with a row ∷ inserted rows o)
    by None e rec =
        subst (λ (rest : List (List ℕ)). AreRows m (row_with a row ∷ rest)) (sym (inserted-none rows))
        (over rows (stands_with a (first_line rows) row h.0.stands), h.1)
    by (Some b) e rec =
        let less = bumped_greater a b row e in (
          over (inserted rows (Some b))
              (subst (λ first. StandsOn first (row_with a row)) (sym (first-inserted b rows)) (stands_bumped a b (first_line rows) row e h.0.stands)),
          rec b (omega arith),
        )

pub adds_cell : (a : ℕ) (rows : List (List ℕ)) → HasOneMore (shape_of (inserted rows (Some a))) (shape_of rows)
adds_cell a [] = (refl, refl)
adds_cell a (row ∷ rows) = by (bumped a row) refl (λ b. adds_cell b rows)
  where
    by : (o : Option ℕ) → bumped a row ≡ o → ((b : ℕ) → HasOneMore (shape_of (inserted rows (Some b))) (shape_of rows))
        → HasOneMore (length (row_with a row) ∷ shape_of (inserted rows o)) (length row ∷ shape_of rows)
    by None e rec =
        inl (omega (arith, ap length (with-end a row e), length-append row (a ∷ [])), ap shape_of (inserted-none rows))
    by (Some b) e rec = inr (length-with a b row e, rec b)
