-- Numbers that leave the same remainder modulo n.
--     alike_far           two different numbers that leave the same remainder differ by at least n
--     alike-append        the number of entries with a given remainder, of two lists joined
use Rattle.std.proofs.lemmas.Grind.{common_steps}
use Rattle.std.proofs.Common.{◌≡◌, ℕ, suc, ◌+◌, ◌*◌, ◌%◌, ◌<◌, ◌≤◌, true, false, ◌==◌, cond, List, [], ◌∷◌, ◌++◌, refl, ◌∙◌, ap, arith}
use Rattle.std.proofs.lemmas.Bool.{eq-eqb, ne_eqb}
use Rattle.std.proofs.Math.Nat.{mod-mod, add-mul-mod_self_right}
use Rattle.beta_list_laws.specs.LowestList.{alike}

pub alike_far : (n x y : ℕ) → x % n ≡ y % n → y < x → y + n ≤ x
alike_far n x y e h = grind (arith, common_steps)

pub alike_same : (n t x y : ℕ) → x % n ≡ y % n → t ≤ x → x < t + n → t ≤ y → y < t + n → x ≡ y
alike_same n t x y e a b c d = grind (arith, common_steps)

pub between_unlike : (n x y : ℕ) → y < x → x < y + n → x % n ≡ y % n → ⊥
between_unlike n x y h l e = let f = alike_far n x y e h in omega arith

pub alike-here : (n x y : ℕ) (b : List ℕ) → y % n ≡ x % n → alike n x (y ∷ b) ≡ suc (alike n x b)
alike-here n x y b e = let t : (y % n == x % n) ≡ true = eq-eqb (y % n) (x % n) e in ap (λ v. cond {A = ℕ} v 1 0 + alike n x b) t ∙ omega arith

pub alike-past : (n x y : ℕ) (b : List ℕ) → (y % n ≡ x % n → ⊥) → alike n x (y ∷ b) ≡ alike n x b
alike-past n x y b d = let t : (y % n == x % n) ≡ false = ne_eqb (y % n) (x % n) d in ap (λ v. cond {A = ℕ} v 1 0 + alike n x b) t ∙ omega arith

pub alike-remainder : (n x y : ℕ) (b : List ℕ) → x % n ≡ y % n → alike n x b ≡ alike n y b
alike-remainder n x y [] e = refl
alike-remainder n x y (z ∷ b) e = let r = alike-remainder n x y b e in let t = ap (λ m. cond {A = ℕ} (z % n == m) 1 0) e in omega arith

pub alike-append : (n x : ℕ) (s t : List ℕ) → alike n x (s ++ t) ≡ alike n x s + alike n x t
alike-append n x [] t = omega arith
alike-append n x (y ∷ s) t = let r = alike-append n x s t in omega arith

pub lowered_remainder : (n x a : ℕ) → (x % n + a * n) % n ≡ x % n
lowered_remainder n x a = add-mul-mod_self_right (x % n) a n ∙ mod-mod x n
