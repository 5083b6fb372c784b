-- A *state* is a *sum*, which is a list of numbers, followed by the column added last. The count of one partition in a table of states with counts,
-- that is, the total count of the states whose sum is this partition (with zeros added at its end); and the counts of products.
use Rattle.std.proofs.Common.{◌≡◌, ℕ, zero, suc, ◌+◌, ◌*◌, ◌^◌, ◌<◌, ◌≤◌, ◌==◌, ◌⊎◌, inl, inr, nat_le, Bool, true, false, cond, ◌&&◌, List, [], ◌∷◌, min, length, take, get_or, refl, sym, ap, ap₂, ◌∙◌, arith, pos, rules}
use Rattle.std.specs.Prelude.{nat_eq}
use Rattle.std.specs.Cmp.Lexicographic.{pointwise}
use Rattle.std.proofs.lemmas.Bool.{ne_eqb, le-leb, cases_lt, and_right}
use Rattle.std.proofs.lemmas.Int.{ints}
use Rattle.sym_model.specs.Partition.{ArePositive, IsPartition, rows, in_front, without_last_zeros}
use Rattle.sym_model.specs.Polynomial.{same, resize}
use Rattle.sym_model.specs.Schur.{contains}
use Rattle.sym_model.specs.GoodTableau.{product_count}
use Rattle.tableau_laws.specs.Grid.{pass_by_place}
use Rattle.tableau_laws.specs.ColumnFold.{column_lines, is_sum}
use Rattle.schur_laws.proofs.ProductCounts.{product_by_shape}
use Rattle.lr_product.specs.WeighedSum.{at_state, weighed, over_states, comes_to, VanishesOutside}
use Rattle.lr_product.specs.RowExtension.{VanishesBelow}
use Rattle.lr_product.specs.Capped.{Agree}
use Rattle.lr_product.proofs.Agreeing.{agree_same, agree_then}
use Rattle.lr_product.proofs.ColumnsOfCounts.{over-states, over-ext}
use Rattle.sym_model.proofs.Numbers.{second_false}
use Rattle.sym_model.proofs.Integers.{pos-cond}

pub same-whole : (s ν : List ℕ) → length s ≤ length ν → ArePositive ν → pointwise nat_eq s ν ≡ same (without_last_zeros s) ν
same-whole [] [] h p = refl
same-whole [] (b ∷ ν) h p = refl
same-whole (a ∷ s) [] h p = absurd (omega arith)
same-whole (suc a ∷ s) (b ∷ ν) h p = ap (λ t. (suc a == b) && t) (same-whole s ν (omega arith) p.1)
same-whole (zero ∷ s) (b ∷ ν) h p = search rules

pub length_take : (n : ℕ) (s : List ℕ) → length (take n s) ≤ n
length_take zero [] = omega arith
length_take zero (a ∷ s) = omega arith
length_take (suc n) [] = omega arith
length_take (suc n) (a ∷ s) = let i = length_take n s in omega arith

pub begins : (s ν : List ℕ) → ArePositive ν → pointwise nat_eq (take (length ν) s) ν ≡ same (without_last_zeros (take (length ν) s)) ν
begins s ν p = same-whole (take (length ν) s) ν (length_take (length ν) s) p

pub pos_comes : (parts ν right : List ℕ) → pos (comes_to parts ν right) ≡ is_sum parts ν right
pos_comes parts ν right = pos-cond (same (without_last_zeros ν) parts) 1

pub comes-begins : (parts key : List ℕ) (t : Bool) → ArePositive parts → t ≡ pointwise nat_eq (take (length parts) key) parts → at_state (length parts) (comes_to parts) key ≡ cond t 1 0
comes-begins parts key t p e = sym (ap (λ s. cond s 1 0) (e ∙ begins key parts p))

pub agree_skipped : (now rest all rest' ways x : ℕ) → Agree (now + rest) all → rest ≡ ways * x + rest' → x ≡ 0 → Agree (now + rest') all
agree_skipped now rest all rest' ways x p e z = agree_then _ _ _ (agree_same _ (now + rest) (let q = ap (λ y. ways * y) z in omega arith)) p

pub agree_counted : (now rest all rest' ways x saturated next : ℕ) → Agree (now + rest) all → rest ≡ ways * x + rest' → x ≡ 1
    → saturated ≡ min (now + ways) 340282366920938463463374607431768211455 → Agree next saturated → Agree (next + rest') all
agree_counted now rest all rest' ways x saturated next p e o s a = search rules

in_front-rest : (a : ℕ) (l : List ℕ) (b : ℕ) (outer : List ℕ) → same l outer ≡ false → same (in_front a l) (b ∷ outer) ≡ false
in_front-rest zero [] b outer e = refl
in_front-rest zero (x ∷ l) b outer e = and_right (0 == b) _ e
in_front-rest (suc a) l b outer e = and_right (suc a == b) _ e

-- if some number of ν is greater than the part of `outer` at the same index, ν without the zeros at its end is not `outer`
pub comes-inside : (outer ν right : List ℕ) → pass_by_place nat_le ν outer ≡ false → comes_to outer ν right ≡ 0
comes-inside outer ν right h = ap (λ t. cond t 1 0) (by_places ν outer h)
  where
    front : (a : ℕ) (l : List ℕ) (b : ℕ) (outer' : List ℕ) → b < a → same (in_front a l) (b ∷ outer') ≡ false
    front zero l b outer' g = absurd (omega arith)
    front (suc a) l b outer' g = ap (λ t. t && same l outer') (ne_eqb (suc a) b (λ e. absurd (omega arith)))

    by_places : (ν' outer' : List ℕ) → pass_by_place nat_le ν' outer' ≡ false → same (without_last_zeros ν') outer' ≡ false
    by_places [] [] g = absurd (cc)
    by_places [] (b ∷ outer') g = absurd (cc)
    by_places (a ∷ ν') [] g = absurd (cc)
    by_places (a ∷ ν') (b ∷ outer') g = split (cases_lt b a) (by_places ν' outer')
      where
        split : (b < a) ⊎ (a ≤ b) → (pass_by_place nat_le ν' outer' ≡ false → same (without_last_zeros ν') outer' ≡ false) → same (in_front a (without_last_zeros ν')) (b ∷ outer') ≡ false
        split (inl l) rec = front a (without_last_zeros ν') b outer' l
        split (inr l) rec = in_front-rest a (without_last_zeros ν') b outer' (rec (second_false (nat_le a b) (le-leb a b l) g))

pub comes-below : (n : ℕ) (outer : List ℕ) → VanishesBelow n 0 outer (comes_to outer)
comes-below n outer ν right j e h g = ap (λ t. cond t 1 0) (short ν outer j h (omega arith))
  where
    first : (a : ℕ) (l : List ℕ) (b : ℕ) (outer' : List ℕ) → a < b → same (in_front a l) (b ∷ outer') ≡ false
    first zero [] b outer' q = refl
    first zero (x ∷ l) b outer' q = ap (λ t. t && same (x ∷ l) outer') (ne_eqb 0 b (λ d. absurd (omega arith)))
    first (suc a) l b outer' q = ap (λ t. t && same l outer') (ne_eqb (suc a) b (λ d. absurd (omega arith)))

    short : (ν' outer' : List ℕ) (i : ℕ) → i < length outer' → get_or ν' i 0 < get_or outer' i 0 → same (without_last_zeros ν') outer' ≡ false
    short ν' [] i l q = absurd (omega arith)
    short [] (b ∷ outer') i l q = refl
    short (a ∷ ν') (b ∷ outer') zero l q = first a (without_last_zeros ν') b outer' q
    short (a ∷ ν') (b ∷ outer') (suc i) l q = in_front-rest a (without_last_zeros ν') b outer' (short ν' outer' i (omega arith) q)

-- if inner lies inside outer, the number of ways to reach the sum `content` from the empty start by the columns of outer/inner is the coefficient of
-- outer in the product of inner and content
pub states-shape : (inner content outer : List ℕ) → IsPartition inner → IsPartition content → IsPartition outer → contains outer inner ≡ true
    → over_states (rows content) (column_lines outer inner) (comes_to content) (resize (rows content) []) [] ≡ product_count (rows outer) inner content outer
states-shape inner content outer p q r h =
    let k = rows content in
    let e : pos (over_states k (column_lines outer inner) (comes_to content) (resize k []) []) ≡ pos (product_count (rows outer) inner content outer) =
    over-states k (column_lines outer inner) (comes_to content) (resize k []) []
    ∙ over-ext k (column_lines outer inner) (λ s r. pos (comes_to content s r)) (is_sum content) (pos_comes content) (resize k []) []
    ∙ sym (product_by_shape inner content outer p q r h) in
    omega (arith, ints)

pub counted_shape : (count letters : ℕ) (es : List (List ℕ × ℕ)) (outer parts inside inner content : List ℕ) → letters ≡ rows content → parts ≡ content → inside ≡ inner
    → IsPartition inner → IsPartition content → IsPartition outer → contains outer inner ≡ true → Agree count (weighed (length parts) (comes_to parts) es)
    → ((f : List ℕ → ℕ) → VanishesOutside parts (λ ν r. f ν) → VanishesBelow letters 0 parts (λ ν r. f ν) → Agree (weighed letters (λ ν r. f ν) es) (over_states letters (column_lines outer inside) (λ ν r. f ν) (resize letters []) []))
    → Agree count (product_count (rows outer) inner content outer)
counted_shape count letters es outer parts inside inner content l p is i j o h a ways =
    let n : length parts ≡ letters = ap length p ∙ sym l in
    agree_then _ _ _ a
    (agree_then _ _ _ (agree_same _ (weighed letters (comes_to parts) es) (ap (λ (k : ℕ). weighed k (comes_to parts) es) n))
    (agree_then _ _ _ (ways (λ ν. comes_to parts ν []) (comes-inside parts) (comes-below letters parts))
    (agree_same _ _ (ap₂ (λ (q t : List ℕ). over_states letters (column_lines outer t) (comes_to q) (resize letters []) []) p is
    ∙ ap (λ (k : ℕ). over_states k (column_lines outer inner) (comes_to content) (resize k []) []) l ∙ states-shape inner content outer i j o h))))

pub not_past : (a b : ℕ) → Agree a b → a < 2 ^ 127 → b < 2 ^ 127
not_past a b p h = let e = p.below h in omega arith
