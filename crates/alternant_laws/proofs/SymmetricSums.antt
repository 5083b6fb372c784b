-- Sums over the semistandard tableaux that fit left of a given column: if the column does not have the letter k, the sum of the values of a function
-- at their contents does not change when the numbers of letters k and k + 1 in the contents are exchanged.
use Rattle.std.proofs.Common.{◌≡◌, ℕ, suc, ◌<◌, Bool, true, ◌&&◌, List, [], ◌∷◌, map, length, nat_le, sym, ◌∙◌, ap, subst, refl, arith, ℤ, filter}
use Rattle.std.proofs.lemmas.Bool.{and_parts, and_from, leb-true, le-leb}
use Rattle.sym_model.specs.Sum.{total, Among}
use Rattle.sym_model.specs.Partition.{Falls}
use Rattle.sym_model.specs.Schur.{letters_of, content}
use Rattle.sym_model.specs.GoodTableau.{every}
use Rattle.sym_model.proofs.Sums.{total_among, total_reindex, Among-select, Among_from_select, Once-select}
use Rattle.tableau_laws.specs.PaddedRows.{fillings_over}
use Rattle.tableau_laws.specs.Grid.{is_padded_tableau}
use Rattle.tableau_laws.proofs.PatternFillings.{filling_tells, filling_from, filling_lengths, fillings_once}
use Rattle.alternant_laws.proofs.Exchanges.{exchanged, content_exchanged}
use Rattle.alternant_laws.proofs.Stacks.{IsStack, stack_tells, stack_back, toggled_fits, AreLeftOf, toggled_left, toggle, toggle_stack, toggle_twice, toggle_lower, toggle_upper, toggle_others}
use Rattle.sym_model.specs.Bounded.{AreAtMost, Lacks}

-- whether no letter of row i is greater than the i-th letter of the column, for each i such that there is a row i and an i-th letter
abbrev pub is_left_of : List ℕ → List (List ℕ) → Bool
is_left_of column [] = true
is_left_of [] (w ∷ ws) = true
is_left_of (x ∷ column) (w ∷ ws) = every (λ a. nat_le a x) w && is_left_of column ws

at_most_tells : (x : ℕ) (w : List ℕ) → every (λ a. nat_le a x) w ≡ true → AreAtMost x w
at_most_tells x [] e = tt
at_most_tells x (a ∷ w) e = let p = and_parts (nat_le a x) (every (λ b. nat_le b x) w) e in (leb-true a x p.0, at_most_tells x w p.1)

at_most_back : (x : ℕ) (w : List ℕ) → AreAtMost x w → every (λ a. nat_le a x) w ≡ true
at_most_back x [] b = refl
at_most_back x (a ∷ w) b = and_from (nat_le a x) (every (λ c. nat_le c x) w) (le-leb a x b.0) (at_most_back x w b.1)

left_tells : (column : List ℕ) (rows : List (List ℕ)) → is_left_of column rows ≡ true → AreLeftOf column rows
left_tells column [] e = tt
left_tells [] (w ∷ ws) e = tt
left_tells (x ∷ column) (w ∷ ws) e =
    let p = and_parts (every (λ a. nat_le a x) w) (is_left_of column ws) e in (at_most_tells x w p.0, left_tells column ws p.1)

left_back : (column : List ℕ) (rows : List (List ℕ)) → AreLeftOf column rows → is_left_of column rows ≡ true
left_back column [] l = refl
left_back [] (w ∷ ws) l = refl
left_back (x ∷ column) (w ∷ ws) l = and_from (every (λ a. nat_le a x) w) (is_left_of column ws) (at_most_back x w l.0) (left_back column ws l.1)

-- whether the padded rows are a semistandard tableau, and no letter of a row is greater than the letter of the column in that row
abbrev pub stands_left : List ℕ → List (List ℕ) → Bool
stands_left column rows = is_padded_tableau rows && is_left_of column rows

-- the semistandard tableaux, given by their rows, that fill the cells marked by `pattern` and fit left of the given column
abbrev pub left_tableaux : ℕ → List (List Bool) → List ℕ → List (List (List ℕ))
left_tableaux n pattern column = filter (stands_left column) (fillings_over n pattern)

record IsLeftTableau (n : ℕ) (pattern : List (List Bool)) (column : List ℕ) (rows : List (List ℕ)) : Type 0 where
  listed : Among rows (fillings_over n pattern)
  stack : IsStack rows
  left : AreLeftOf column rows

left_gives : (n : ℕ) (pattern : List (List Bool)) (column : List ℕ) (rows : List (List ℕ)) → Falls (map length pattern)
    → Among rows (left_tableaux n pattern column) → IsLeftTableau n pattern column rows
left_gives n pattern column rows f m =
    let r = Among_from_select (stands_left column) rows (fillings_over n pattern) m in
    let p = and_parts (is_padded_tableau rows) (is_left_of column rows) r.1 in
    let l = filling_lengths n pattern rows (filling_tells n pattern rows r.0) in
    record { listed = r.0; stack = stack_tells rows (subst Falls (sym l) f) p.0; left = left_tells column rows p.1 }

toggle_listed : (n k : ℕ) (pattern : List (List Bool)) (column : List ℕ) (rows : List (List ℕ)) → 0 < k → k < n → Falls (map length pattern) → Lacks k column
    → Among rows (left_tableaux n pattern column) → Among (toggle k rows) (left_tableaux n pattern column)
toggle_listed n k pattern column rows p q f m a =
    let t = left_gives n pattern column rows f a in
    Among-select (stands_left column) (toggle k rows) (fillings_over n pattern)
    (filling_from n pattern (toggle k rows) (toggled_fits n k _ pattern rows p q (filling_tells n pattern rows t.listed)))
    (and_from (is_padded_tableau (toggle k rows)) (is_left_of column (toggle k rows))
    (stack_back (toggle k rows) (toggle_stack k rows p t.stack)) (left_back column (toggle k rows) (toggled_left k _ column rows m t.left)))

pub toggle_content : (n i : ℕ) (rows : List (List ℕ)) → suc i < n → IsStack rows → content n (letters_of (toggle (suc i) rows)) ≡ exchanged i (content n (letters_of rows))
toggle_content n i rows h s =
    content_exchanged n i (letters_of (toggle (suc i) rows)) (letters_of rows) h
    (toggle_lower (suc i) rows (omega arith) s) (toggle_upper (suc i) rows (omega arith) s) (λ j d e. toggle_others j (suc i) rows d e)

pub total_exchanged : (n i : ℕ) (pattern : List (List Bool)) (column : List ℕ) (ψ : List ℕ → ℤ) → suc i < n → Falls (map length pattern) → Lacks (suc i) column
    → total (λ (rows : List (List ℕ)). ψ (exchanged i (content n (letters_of rows)))) (left_tableaux n pattern column)
    ≡ total (λ (rows : List (List ℕ)). ψ (content n (letters_of rows))) (left_tableaux n pattern column)
total_exchanged n i pattern column ψ h f m =
    total_among (λ (rows : List (List ℕ)). ψ (exchanged i (content n (letters_of rows)))) (λ (rows : List (List ℕ)). ψ (content n (letters_of (toggle (suc i) rows)))) (left_tableaux n pattern column)
    (λ rows a. let t = left_gives n pattern column rows f a in ap ψ (sym (toggle_content n i rows h t.stack)))
    ∙ total_reindex (λ (rows : List (List ℕ)). ψ (content n (letters_of rows))) (toggle (suc i)) (left_tableaux n pattern column)
    (Once-select (stands_left column) (fillings_over n pattern) (fillings_once n pattern))
    (λ rows a. toggle_listed n (suc i) pattern column rows (omega arith) h f m a)
    (λ R S a b e. let s = left_gives n pattern column R f a in let t = left_gives n pattern column S f b in
    sym (toggle_twice (suc i) R (omega arith) s.stack) ∙ ap (toggle (suc i)) e ∙ toggle_twice (suc i) S (omega arith) t.stack)
