-- The loop of `with_column`, which adds one more column in all ways to each entry of a table. An entry is a state with its count, and a state is a
-- sum, which is a list of n numbers, followed by the column added last.
use Rattle.std.proofs.Common.{◌≡◌, ℕ, zero, suc, ◌+◌, ◌*◌, ◌<◌, ◌≤◌, Bool, true, ◌&&◌, cond, List, [], ◌∷◌, min, length, take, drop, refl, sym, ap, ◌∙◌, arith, rules}
use Rattle.std.specs.Prelude.{Some, slice_get}
use Rattle.sym_model.specs.Partition.{size}
use Rattle.sym_model.specs.GoodTableau.{is_falling}
use Rattle.lr_product.specs.WeighedSum.{at_state, weighed, unreached}
use Rattle.lr_product.specs.Capped.{Agree}
use Rattle.lr_product.proofs.Agreeing.{agree_same, agree_then, agree_sum, agree_times}

pub weighed-drop : (n : ℕ) (g : List ℕ → List ℕ → ℕ) (es : List (List ℕ × ℕ)) (i : ℕ) (p : List ℕ × ℕ) → slice_get es i ≡ Some p
    → weighed n g (drop i es) ≡ p.1 * at_state n g p.0 + weighed n g (drop (i + 1) es)
weighed-drop n g [] i p h = cc
weighed-drop n g (e ∷ es) zero p h = search rules
weighed-drop n g (e ∷ es) (suc i) p h =
    let k : suc i + 1 ≡ suc (i + 1) = omega arith in
    weighed-drop n g es i p h ∙ ap (λ j. p.1 * at_state n g p.0 + weighed n g (drop j (e ∷ es))) (sym k)

pub positive_factor : (w x : ℕ) → 0 < w → w * x ≡ 0 → x ≡ 0
positive_factor w zero h e = refl
positive_factor zero (suc x) h e = absurd (omega arith)
positive_factor (suc w) (suc x) h e = absurd (omega arith)

pub weighed-none : (n : ℕ) (g : List ℕ → List ℕ → ℕ) (es : List (List ℕ × ℕ)) (i : ℕ) (key : List ℕ) (w : ℕ) → weighed n g es ≡ 0 → slice_get es i ≡ Some (key, w) → 0 < w → at_state n g key ≡ 0
weighed-none n g [] i key w z h l = cc
weighed-none n g (e ∷ es) zero key w z h l = search (rules, positive_factor)
weighed-none n g (e ∷ es) (suc i) key w z h l = weighed-none n g es i key w (omega arith) h l

-- 0 if p, q and r are true, otherwise 1
abbrev no_of : Bool → Bool → Bool → ℕ
no_of p q r = cond (p && (q && r)) 0 1

-- ν is a weakly decreasing list of n numbers that add up to at most m
pub record IsReached (n m : ℕ) (ν : List ℕ) : Type 0 where
  pub long : length ν ≡ n
  pub small : size ν ≤ m
  pub falls : is_falling ν ≡ true

pub reached-tells : (n m : ℕ) (ν right : List ℕ) → unreached n m ν right ≡ 0 → IsReached n m ν
reached-tells n m ν right h = search rules

pub agree_entry : (now next rest all rest' ways counted x : ℕ) → Agree (now + rest) all → rest ≡ ways * x + rest' → Agree counted ways → Agree next (now + counted * x) → Agree (next + rest') all
agree_entry now next rest all rest' ways counted x p e a q =
    let more = agree_sum (counted * x) (ways * x) (now + rest') (agree_times counted ways x a) in
    agree_then _ _ _ (agree_sum next (now + counted * x) rest' q)
    (agree_then _ _ _ (agree_same _ (counted * x + (now + rest')) (omega arith)) (agree_then _ _ _ more (agree_then _ _ _ (agree_same _ (now + rest) (omega arith)) p)))

pub length_taken : (n : ℕ) (s : List ℕ) → length (take n s) ≡ n → n ≤ length s
length_taken zero s h = omega arith
length_taken (suc n) [] h = absurd (omega arith)
length_taken (suc n) (a ∷ s) h = let i = length_taken n s (omega arith) in omega arith

pub agree_positive : (a w : ℕ) → Agree a w → 0 < a → 0 < w
agree_positive a (suc w) p h = omega arith
agree_positive a zero p h = search rules

pub weighed-past : (n : ℕ) (g : List ℕ → List ℕ → ℕ) (es : List (List ℕ × ℕ)) (i : ℕ) → length es ≤ i → weighed n g (drop i es) ≡ 0
weighed-past n g [] zero h = refl
weighed-past n g [] (suc i) h = refl
weighed-past n g (e ∷ es) zero h = absurd (omega arith)
weighed-past n g (e ∷ es) (suc i) h = weighed-past n g es i (omega arith)

pub agree_past : (now rest all : ℕ) → rest ≡ 0 → Agree (now + rest) all → Agree now all
agree_past now rest all e p = agree_then _ _ _ (agree_same now (now + rest) (omega arith)) p

-- capped sums and products: the entry of a table is counted `ways` times x
pub agree_none : (now rest all rest' ways x : ℕ) → Agree (now + rest) all → rest ≡ ways * x + rest' → ways ≡ 0 → Agree (now + rest') all
agree_none now rest all rest' ways x p e z = agree_then _ _ _ (agree_same _ (now + rest) (let q = ap (λ w. w * x) z in omega arith)) p

agree_saturated : (now w product sum : ℕ) → product ≡ min w 340282366920938463463374607431768211455 → sum ≡ min (now + product) 340282366920938463463374607431768211455 → Agree sum (now + w)
agree_saturated now w product sum p s = record { below = λ h. omega arith; past = λ h. omega arith }

pub agree_product : (now rest all rest' ways x y product sum next : ℕ) → Agree (now + rest) all → rest ≡ ways * x + rest' → y ≡ x
    → product ≡ min (ways * y) 340282366920938463463374607431768211455 → sum ≡ min (now + product) 340282366920938463463374607431768211455 → Agree next sum
    → Agree (next + rest') all
agree_product now rest all rest' ways x y product sum next p e g a s c =
    let more = agree_then _ _ _ c (agree_saturated now (ways * x) product sum (a ∙ ap (λ z. min (ways * z) 340282366920938463463374607431768211455) g) s) in
    agree_then _ _ _ (agree_sum next (now + ways * x) rest' more) (agree_then _ _ _ (agree_same _ (now + rest) (omega arith)) p)
