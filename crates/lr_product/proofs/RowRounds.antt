-- The loop of `with_rows`: its start, and one pass, in which one row of the shape is added. The loop works on a table of states with counts; a
-- *state* is a *sum*, which is a list of n numbers, followed by a description of the row added last.
use Rattle.std.proofs.Common.{◌≡◌, ℕ, zero, suc, ◌+◌, ◌-◌, ◌*◌, ◌<◌, ◌≤◌, nat_lt, Bool, true, false, List, [], ◌∷◌, length, take, drop, get_or, nat_abs, refl, sym, ap, ap₂, subst, ◌∙◌, arith, rules}
use Rattle.std.proofs.lemmas.Bool.{lt-ltb, le-ltb}
use Rattle.sym_model.specs.Partition.{Falls, size, part}
use Rattle.sym_model.specs.Schur.{contains}
use Rattle.sym_model.specs.WholeTerms.{WholeTerms}
use Rattle.tableau_laws.specs.ColumnFold.{column_lines}
use Rattle.schur_laws.proofs.Duality.{contains_places}
use Rattle.lr_product.specs.WeighedSum.{at_state, weighed, started, over_states, unreached, VanishesOutside}
use Rattle.lr_product.specs.RowExtension.{next_row, over_rows, begun, cell_count, VanishesBelow}
use Rattle.lr_product.specs.Capped.{Agree}
use Rattle.lr_product.proofs.Agreeing.{agree_same, agree_then}
use Rattle.lr_product.proofs.Reaching.{weighed-weaker}
use Rattle.lr_product.proofs.Steps.{positive_factor, reached-tells}
use Rattle.lr_product.proofs.RowFilling.{vanishes-row}
use Rattle.lr_product.proofs.RowFold.{rows_columns}
use Rattle.lr_product.proofs.RowPruning.{below_rows}
use Rattle.std.proofs.lemmas.List.{drop_all}
use Rattle.sym_model.proofs.Lists.{drop-none}
use Rattle.sym_model.proofs.Parts.{size-drop}
use Rattle.std.proofs.Math.Seq.{drop-nil}

fresh_tells : (ν right : List ℕ) → begun ν right ≡ 0 → right ≡ []
fresh_tells ν [] e = refl
fresh_tells ν (x ∷ right) e = absurd (omega arith)

pub weighed_rows : (n m : ℕ) (outer inner : List ℕ) (f : List ℕ → ℕ) (starts : List (List ℕ × ℕ)) → 0 < n → Falls outer → contains outer inner ≡ true
    → weighed n begun starts ≡ 0 → weighed n (unreached n m) starts ≡ 0
    → weighed n (over_rows n outer inner (λ ν r. f ν)) starts ≡ weighed n (over_states n (column_lines outer inner) (λ ν r. f ν)) starts
weighed_rows n m outer inner f [] some falls holds fresh reached = refl
weighed_rows n m outer inner f ((s, w) ∷ starts) some falls holds fresh reached =
    ap₂ ◌+◌ (here w (omega arith) (omega arith)) (weighed_rows n m outer inner f starts some falls holds (omega arith) (omega arith))
  where
    here : (c : ℕ) → c * at_state n begun s ≡ 0 → c * at_state n (unreached n m) s ≡ 0
        → c * at_state n (over_rows n outer inner (λ ν r. f ν)) s ≡ c * at_state n (over_states n (column_lines outer inner) (λ ν r. f ν)) s
    here zero g h = let a : 0 * at_state n (over_rows n outer inner (λ ν r. f ν)) s ≡ 0 = omega arith in let b : 0 * at_state n (over_states n (column_lines outer inner) (λ ν r. f ν)) s ≡ 0 = omega arith in a ∙ sym b
    here (suc c) g h =
        let b : begun (take n s) (drop n s) ≡ 0 = positive_factor (suc c) (at_state n begun s) (omega arith) g in
        let r = reached-tells n m (take n s) (drop n s) (positive_factor (suc c) (at_state n (unreached n m) s) (omega arith) h) in
        ap (λ x. suc c * x)
        (ap (over_rows n outer inner (λ ν r'. f ν) (take n s)) (fresh_tells (take n s) (drop n s) b)
        ∙ rows_columns n outer inner f (take n s) some falls holds r.long r.falls
        ∙ ap (over_states n (column_lines outer inner) (λ ν r'. f ν) (take n s)) (sym (fresh_tells (take n s) (drop n s) b)))

pub started-fresh : (n : ℕ) (terms : WholeTerms) → started n begun terms ≡ 0
started-fresh n [] = refl
started-fresh n (t ∷ terms) = let e = started-fresh n terms in let z : nat_abs t.1 * 0 ≡ 0 = omega arith in omega arith

-- ---- the table after one more row is added

nothing : (k : ℕ) → drop {A = ℕ} (suc k) [] ≡ drop k []
nothing zero = refl
nothing (suc k) = refl

later : (row m : ℕ) → nat_lt (row + 1) m ≡ nat_lt (suc row + 1) (suc m)
later row m = search rules

has_more : (o : List ℕ) → nat_lt 0 (length o) ≡ nat_lt 1 (suc (length o))
has_more [] = refl
has_more (x ∷ o) = lt-ltb 0 (suc (length o)) (omega arith) ∙ sym (lt-ltb 1 (suc (suc (length o))) (omega arith))

rows_front : (n row : ℕ) (outer inner : List ℕ) (F : List ℕ → List ℕ → ℕ) → row < length outer
    → over_rows n (drop row outer) (drop row inner) F
    ≡ next_row n (nat_lt (row + 1) (length outer)) (get_or inner row 0) (get_or outer row 0) (over_rows n (drop (row + 1) outer) (drop (row + 1) inner) F)
rows_front n row [] inner F l = absurd (omega arith)
rows_front n zero (a ∷ outer) [] F l = ap₂ (λ (k : Bool) (o : List ℕ). next_row n k 0 a (over_rows n o [] F)) (has_more outer) (sym (drop-none outer))
rows_front n zero (a ∷ outer) (b ∷ inner) F l = ap₂ (λ (k : Bool) (o : List ℕ). next_row n k b a (over_rows n o (drop 0 inner) F)) (has_more outer) (sym (drop-none outer))
rows_front n (suc row) (a ∷ outer) [] F l =
    let e : suc row + 1 ≡ suc (row + 1) = omega arith in
    ap (λ o. over_rows n (drop row outer) o F) (nothing row) ∙ rows_front n row outer [] F (omega arith)
    ∙ ap₂ (λ (k : Bool) (o : List ℕ). next_row n k 0 (get_or outer row 0) (over_rows n (drop (row + 1) outer) o F)) (later row (length outer)) (drop-nil (row + 1) ∙ sym (drop-nil (suc row + 1)))
    ∙ ap (λ k. next_row n (nat_lt (suc row + 1) (suc (length outer))) 0 (get_or outer row 0) (over_rows n (drop k (a ∷ outer)) (drop (suc row + 1) []) F)) (sym e)
rows_front n (suc row) (a ∷ outer) (b ∷ inner) F l =
    let e : suc row + 1 ≡ suc (row + 1) = omega arith in
    rows_front n row outer inner F (omega arith)
    ∙ ap (λ (k : Bool). next_row n k (get_or inner row 0) (get_or outer row 0) (over_rows n (drop (row + 1) outer) (drop (row + 1) inner) F)) (later row (length outer))
    ∙ ap (λ k. next_row n (nat_lt (suc row + 1) (suc (length outer))) (get_or inner row 0) (get_or outer row 0) (over_rows n (drop k (a ∷ outer)) (drop k (b ∷ inner)) F)) (sym e)

pub vanishes-rows : (n : ℕ) (outer inner bound : List ℕ) (F : List ℕ → List ℕ → ℕ) → length bound ≤ n → VanishesOutside bound F → VanishesOutside bound (over_rows n outer inner F)
vanishes-rows n [] inner bound F l v = v
vanishes-rows n (a ∷ outer) inner bound F l v = vanishes-row n (nat_lt 0 (length outer)) (part inner 1) a bound (over_rows n outer (drop 1 inner) F) l (vanishes-rows n outer (drop 1 inner) bound F l v)

size_front : (row : ℕ) (outer : List ℕ) → row < length outer → size (drop row outer) ≡ get_or outer row 0 + size (drop (row + 1) outer)
size_front row [] l = absurd (omega arith)
size_front zero (a ∷ outer) l = ap (λ o. a + size o) (sym (drop-none outer))
size_front (suc row) (a ∷ outer) l = let e : suc row + 1 ≡ suc (row + 1) = omega arith in size_front row outer (omega arith) ∙ ap (λ k. get_or outer row 0 + size (drop k (a ∷ outer))) (sym e)

-- a row of a - b cells can be added without a sum of size over 4096: b ≤ a ≤ 4096, and the states of positive count have sums of size at most
-- 4096 - (a - b)
pub record RowRoom (n row a b : ℕ) (es : List (List ℕ × ℕ)) : Type 0 where
  pub cells : b ≤ a
  pub short : a ≤ 4096
  pub reached : weighed n (unreached n (4096 - (a - b))) es ≡ 0

pub row_room : (n row : ℕ) (outer inner : List ℕ) (es : List (List ℕ × ℕ)) → row < length outer → contains outer inner ≡ true → size outer ≤ 4096
    → weighed n (unreached n (4096 - size (drop row outer))) es ≡ 0 → RowRoom n row (get_or outer row 0) (get_or inner row 0) es
row_room n row outer inner es l holds room z = search (rules, size_front, size-drop, contains_places, weighed-weaker)

pub row_reached : (n row : ℕ) (outer inner : List ℕ) (new : List (List ℕ × ℕ)) → row < length outer → size outer ≤ 4096
    → weighed n (unreached n (4096 - size (drop row outer) + (get_or outer row 0 - get_or inner row 0))) new ≡ 0
    → weighed n (unreached n (4096 - size (drop (row + 1) outer))) new ≡ 0
row_reached n row outer inner new l room z = search (rules, size_front, size-drop, weighed-weaker)

pub row_counts : (n row : ℕ) (outer inner bound : List ℕ) (starts es new : List (List ℕ × ℕ)) (a b later : ℕ) (kept : Bool) → row < length outer → length bound ≤ n
    → a ≡ get_or outer row 0 → b ≡ get_or inner row 0 → kept ≡ nat_lt (row + 1) (length outer)
    → later ≡ cell_count (drop (row + 1) outer) (drop (row + 1) inner)
    → ((f : List ℕ → ℕ) → VanishesOutside bound (λ ν r. f ν) → VanishesBelow n 0 bound (λ ν r. f ν) → Agree (weighed n (over_rows n (drop row outer) (drop row inner) (λ ν r. f ν)) es) (weighed n (over_rows n outer inner (λ ν r. f ν)) starts))
    → ((f : List ℕ → List ℕ → ℕ) → VanishesOutside bound f → VanishesBelow n later bound f → Agree (weighed n f new) (weighed n (next_row n kept b a f) es))
    → (f : List ℕ → ℕ) → VanishesOutside bound (λ ν r. f ν) → VanishesBelow n 0 bound (λ ν r. f ν)
    → Agree (weighed n (over_rows n (drop (row + 1) outer) (drop (row + 1) inner) (λ ν r. f ν)) new) (weighed n (over_rows n outer inner (λ ν r. f ν)) starts)
row_counts n row outer inner bound starts es new a b later kept l s ea eb ek el agree more f v w =
    let g = over_rows n (drop (row + 1) outer) (drop (row + 1) inner) (λ ν r. f ν) in
    agree_then _ _ _ (more g (vanishes-rows n (drop (row + 1) outer) (drop (row + 1) inner) bound (λ ν r. f ν) s v)
    (subst (λ m. VanishesBelow n m bound g) (sym el) (below_rows n (drop (row + 1) outer) (drop (row + 1) inner) bound (λ ν r. f ν) s w)))
    (agree_then _ _ _ (agree_same _ _
    (ap₂ (λ (x y : ℕ). weighed n (next_row n kept y x g) es) ea eb
    ∙ ap (λ (t : Bool). weighed n (next_row n t (get_or inner row 0) (get_or outer row 0) g) es) ek
    ∙ sym (ap (λ (h : List ℕ → List ℕ → ℕ). weighed n h es) (rows_front n row outer inner (λ ν r. f ν) l))))
    (agree f v w))

pub last_row : (n row : ℕ) (outer inner : List ℕ) (starts es : List (List ℕ × ℕ)) (f : List ℕ → ℕ) → length outer ≤ row
    → Agree (weighed n (over_rows n (drop row outer) (drop row inner) (λ ν r. f ν)) es) (weighed n (over_rows n outer inner (λ ν r. f ν)) starts)
    → Agree (weighed n (λ ν r. f ν) es) (weighed n (over_rows n outer inner (λ ν r. f ν)) starts)
last_row n row outer inner starts es f l agree =
    subst (λ (o : List ℕ). Agree (weighed n (over_rows n o (drop row inner) (λ ν r. f ν)) es) (weighed n (over_rows n outer inner (λ ν r. f ν)) starts)) (drop_all row outer l) agree

-- what is left to add after all rows but two
pub two_left : (n u : ℕ) (outer inner : List ℕ) (F : List ℕ → List ℕ → ℕ) → length outer ≡ u + 2
    → over_rows n (drop u outer) (drop u inner) F ≡ over_rows n (get_or outer u 0 ∷ get_or outer (u + 1) 0 ∷ []) (get_or inner u 0 ∷ get_or inner (u + 1) 0 ∷ []) F
two_left n u outer inner F e =
    let k1 = get_or outer u 0 in
    let k0 = get_or outer (u + 1) 0 in
    let l1 = get_or inner u 0 in
    let l0 = get_or inner (u + 1) 0 in
    rows_front n u outer inner F (omega arith)
    ∙ ap (next_row n (nat_lt (u + 1) (length outer)) l1 k1) (rows_front n (u + 1) outer inner F (omega arith))
    ∙ ap₂ (λ (p : Bool) (o : List ℕ). next_row n p l1 k1 (next_row n (nat_lt (u + 1 + 1) (length outer)) l0 k0 (over_rows n o (drop (u + 1 + 1) inner) F))) (lt-ltb (u + 1) (length outer) (omega arith)) (drop_all (u + 1 + 1) outer (omega arith))
    ∙ ap (λ (p : Bool). next_row n true l1 k1 (next_row n p l0 k0 F)) (le-ltb (u + 1 + 1) (length outer) (omega arith))
    ∙ ap (λ (w : List ℕ). next_row n true l1 k1 (next_row n false (part w 1) k0 F)) (sym (drop-none (l0 ∷ [])))
