-- Lists with two neighbouring entries exchanged, and contents of words in which two neighbouring letters have exchanged their multiplicities.
use Rattle.std.proofs.Common.{◌≡◌, ℕ, zero, suc, ◌+◌, ◌<◌, ◌==◌, false, ◌&&◌, List, [], ◌∷◌, ◌++◌, map, length, sym, ◌∙◌, ap, ap₂, refl, arith}
use Rattle.sym_model.specs.Partition.{after}
use Rattle.sym_model.specs.Polynomial.{same, join}
use Rattle.sym_model.specs.Schur.{times_in, content}
use Rattle.std.proofs.lemmas.List.{length-map}
use Rattle.sym_model.proofs.AfterLists.{length_after, after_among}
use Rattle.sym_model.proofs.Restrictions.{and_middle}
use Rattle.sym_model.proofs.Lists.{map-among}
use Rattle.std.proofs.lemmas.Bool.{and_right}

-- the list with the entries at the places k and k + 1, counted from 0, exchanged; a list without a place k + 1 is not changed
abbrev pub exchanged : ℕ → List ℕ → List ℕ
exchanged k [] = []
exchanged zero (a ∷ []) = a ∷ []
exchanged zero (a ∷ b ∷ α) = b ∷ a ∷ α
exchanged (suc k) (a ∷ α) = a ∷ exchanged k α

pub same_exchanged : (k : ℕ) (α β : List ℕ) → same (exchanged k α) β ≡ same α (exchanged k β)
same_exchanged k [] [] = refl
same_exchanged zero [] (b ∷ []) = refl
same_exchanged zero [] (b ∷ c ∷ β) = refl
same_exchanged (suc k) [] (b ∷ β) = refl
same_exchanged zero (a ∷ []) [] = refl
same_exchanged zero (a ∷ c ∷ α) [] = refl
same_exchanged (suc k) (a ∷ α) [] = refl
same_exchanged zero (a ∷ []) (b ∷ []) = refl
same_exchanged zero (a ∷ []) (b ∷ d ∷ β) = and_right (a == b) false refl ∙ sym (and_right (a == d) false refl)
same_exchanged zero (a ∷ c ∷ α) (b ∷ []) = and_right (c == b) false refl ∙ sym (and_right (a == b) false refl)
same_exchanged zero (a ∷ c ∷ α) (b ∷ d ∷ β) = and_middle (c == b) (a == d) (same α β)
same_exchanged (suc k) (a ∷ α) (b ∷ β) = ap (λ p. (a == b) && p) (same_exchanged k α β)

pub exchanged_at : (left : List ℕ) (a b : ℕ) (right : List ℕ) → exchanged (length left) (left ++ (a ∷ b ∷ right)) ≡ left ++ (b ∷ a ∷ right)
exchanged_at [] a b right = refl
exchanged_at (c ∷ left) a b right = ap (λ β. c ∷ β) (exchanged_at left a b right)

pub exchanged-join : (k : ℕ) (α β : List ℕ) → length α ≡ length β → exchanged k (join α β) ≡ join (exchanged k α) (exchanged k β)
exchanged-join k [] [] e = refl
exchanged-join k [] (b ∷ β) e = absurd (omega arith)
exchanged-join k (a ∷ α) [] e = absurd (omega arith)
exchanged-join zero (a ∷ []) (b ∷ []) e = refl
exchanged-join zero (a ∷ []) (b ∷ d ∷ β) e = absurd (omega arith)
exchanged-join zero (a ∷ c ∷ α) (b ∷ []) e = absurd (omega arith)
exchanged-join zero (a ∷ c ∷ α) (b ∷ d ∷ β) e = refl
exchanged-join (suc k) (a ∷ α) (b ∷ β) e = ap (λ γ. (a + b) ∷ γ) (exchanged-join k α β (omega arith))

-- let k and k + 1 be among a + 1, .., a + n. If f(k) = g(k + 1), f(k + 1) = g(k), and f and g agree at all other numbers, then the list of the values
-- of f at a + 1, .., a + n is that of g with the values at k and k + 1 exchanged

map_exchanged : (f g : ℕ → ℕ) (a n i k : ℕ) → k ≡ a + suc i → suc i < n → f k ≡ g (suc k) → f (suc k) ≡ g k
    → ((j : ℕ) → (j ≡ k → ⊥) → (j ≡ suc k → ⊥) → f j ≡ g j) → map f (after a n) ≡ exchanged i (map g (after a n))
map_exchanged f g a zero i k e h p q o = absurd (omega arith)
map_exchanged f g a (suc zero) i k e h p q o = absurd (omega arith)
map_exchanged f g a (suc (suc n)) zero k e h p q o =
    let x : a + 1 ≡ k = omega arith in
    let y : a + 1 + 1 ≡ suc k = omega arith in
    ap₂ ◌∷◌ (ap f x ∙ p ∙ ap g (sym y)) (ap₂ ◌∷◌ (ap f y ∙ q ∙ ap g (sym x))
    (map-among f g (after (a + 1 + 1) n) (λ j m. let r = after_among (a + 1 + 1) n j m in let s = r.0 in o j (λ d. omega arith) (λ d. omega arith))))
map_exchanged f g a (suc (suc n)) (suc i) k e h p q o =
    ap₂ ◌∷◌ (o (a + 1) (λ d. omega arith) (λ d. omega arith)) (map_exchanged f g (a + 1) (suc n) i k (omega arith) (omega arith) p q o)

-- let i + 1 occur in v as often as i + 2 in w, let i + 2 occur in v as often as i + 1 in w, and let each other letter occur equally often in v and w:
-- then the content of v is that of w with the entries at i and i + 1, counted from 0, exchanged
pub content_exchanged : (n i : ℕ) (v w : List ℕ) → suc i < n → times_in (suc i) v ≡ times_in (suc (suc i)) w → times_in (suc (suc i)) v ≡ times_in (suc i) w
    → ((j : ℕ) → (j ≡ suc i → ⊥) → (j ≡ suc (suc i) → ⊥) → times_in j v ≡ times_in j w) → content n v ≡ exchanged i (content n w)
content_exchanged n i v w h p q o =
    let e : suc i ≡ 0 + suc i = omega arith in
    map_exchanged (λ j. times_in j v) (λ j. times_in j w) 0 n i (suc i) e h p q o

pub length_content : (n : ℕ) (w : List ℕ) → length (content n w) ≡ n
length_content n w = length-map (after 0 n) (λ k. times_in k w) ∙ length_after 0 n
