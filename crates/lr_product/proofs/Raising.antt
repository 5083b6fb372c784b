-- A number of a list raised by 1, and the sum of the first n numbers.
use Rattle.std.proofs.Common.{◌≡◌, ℕ, zero, suc, ◌+◌, ◌-◌, ◌<◌, ◌≤◌, Bool, true, false, cond, List, [], ◌∷◌, ◌++◌, length, take, get_or, set, length-append, refl, ap, ◌∙◌, arith, rules}
use Rattle.sym_model.specs.Partition.{size}
use Rattle.lr_product.specs.Extension.{raised, mark}
use Rattle.std.proofs.Math.Seq.{take-append_seam}

pub raised-set : (b : ℕ) (s : List ℕ) → set s b (get_or s b 0 + 1) ≡ raised (suc b) s
raised-set zero [] = refl
raised-set (suc b) [] = refl
raised-set zero (a ∷ s) = refl
raised-set (suc b) (a ∷ s) = ap (λ l. a ∷ l) (raised-set b s)

pub length-raised : (b : ℕ) (s : List ℕ) → length (raised b s) ≡ length s
length-raised zero s = refl
length-raised (suc b) [] = refl
length-raised (suc zero) (a ∷ s) = refl
length-raised (suc (suc b)) (a ∷ s) = ap suc (length-raised (suc b) s)

pub raised-undone : (b : ℕ) (s w : List ℕ) → b < length s → take (length s) (set (raised (suc b) s ++ w) b (get_or (raised (suc b) s ++ w) b 0 - 1)) ≡ s
raised-undone b [] w h = absurd (omega arith)
raised-undone zero (a ∷ s) w h = let e : (a + 1) - 1 ≡ a = omega arith in ap (λ x. x ∷ take (length s) (s ++ w)) e ∙ ap (λ l. a ∷ l) (take-append_seam s w)
raised-undone (suc b) (a ∷ s) w h = ap (λ l. a ∷ l) (raised-undone b s w (omega arith))

-- for b < n, the number at the index b is at most the sum of the first n numbers
pub index-size : (n b : ℕ) (s : List ℕ) → b < n → get_or s b 0 ≤ size (take n s)
index-size n b [] h = omega arith
index-size zero b (a ∷ s) h = absurd (omega arith)
index-size (suc n) zero (a ∷ s) h = omega arith
index-size (suc n) (suc b) (a ∷ s) h = let i = index-size n b s (omega arith) in omega arith

size-appended : (n : ℕ) (s w : List ℕ) → n ≤ length s → size (take n (s ++ w)) ≡ size (take n s)
size-appended zero [] [] h = refl
size-appended zero [] (a ∷ w) h = refl
size-appended zero (a ∷ s) w h = refl
size-appended (suc n) [] w h = absurd (omega arith)
size-appended (suc n) (a ∷ s) w h = ap (λ x. a + x) (size-appended n s w (omega arith))

pub size-raised : (n b : ℕ) (s w : List ℕ) → n ≤ length s → size (take n (raised b s ++ w)) ≤ size (take n s) + 1
size-raised n zero s w h = let e = size-appended n s w h in omega arith
size-raised zero (suc b) s w h = search rules
size-raised (suc n) (suc b) [] w h = absurd (omega arith)
size-raised (suc n) (suc zero) (a ∷ s) w h = let e = size-appended n s w (omega arith) in omega arith
size-raised (suc n) (suc (suc b)) (a ∷ s) w h = let i = size-raised n (suc b) s w (omega arith) in omega arith

pub placed : (b : ℕ) (s t : List ℕ) → 0 < b → t ≡ set s (b - 1) (get_or s (b - 1) 0 + 1) → t ≡ raised b s
placed zero s t h e = absurd (omega arith)
placed (suc b) s t h e = let p : suc b - 1 ≡ b = omega arith in e ∙ ap (λ i. set s i (get_or s i 0 + 1)) p ∙ raised-set b s

pub taken_back : (b : ℕ) (s w old t : List ℕ) → 0 < b → b ≤ length s → old ≡ raised b s ++ w → t ≡ set old (b - 1) (get_or old (b - 1) 0 - 1) → take (length s) t ≡ s
taken_back zero s w old t h l is e = absurd (omega arith)
taken_back (suc b) s w old t h l is e =
    let p : suc b - 1 ≡ b = omega arith in
    ap (take (length s)) (e ∙ ap (λ i. set old i (get_or old i 0 - 1)) p ∙ ap (λ o. set o b (get_or o b 0 - 1)) is) ∙ raised-undone b s w (omega arith)

pub raised-none : (b : ℕ) (s : List ℕ) → b ≤ 0 → raised b s ≡ s
raised-none zero s h = refl
raised-none (suc b) s h = absurd (omega arith)

pub length-placed : (b : ℕ) (s w : List ℕ) → length (raised b s ++ w) ≡ length s + length w
length-placed b s w = length-append (raised b s) w ∙ ap (λ k. k + length w) (length-raised b s)

-- letters of a column are placed one by one, and appended to the list s if `kept` is true. If a letter b is placed, then the length of the list plus
-- the number of letters still to be appended remains equal to `width`
pub width_placed : (kept : Bool) (b : ℕ) (s : List ℕ) (rest line width : ℕ) → line ≡ rest + 1 → length s + cond kept line 0 ≡ width → length (raised b s ++ mark kept b) + cond kept rest 0 ≡ width
width_placed true b s rest line width e h = let l = length-placed b s (b ∷ []) in omega arith
width_placed false b s rest line width e h = let l = length-placed b s [] in omega arith
