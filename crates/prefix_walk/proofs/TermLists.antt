-- Lists of terms in order (`terms_below`): they depend only on the values of the function, and parts without terms can be skipped.
use Rattle.std.proofs.Common.{◌≡◌, ℕ, zero, suc, ◌<◌, ◌≤◌, ◌⊎◌, inl, inr, Bool, cond, List, [], ◌∷◌, ◌++◌, length, refl, sym, ap, ap₂, ◌∙◌, arith}
use Rattle.std.specs.List.{All}
use Rattle.std.proofs.lemmas.Bool.{cases_lt, ne_eqb}
use Rattle.prefix_walk.specs.Terms.{with_entry, from_top, lone_term, terms_below}
use Rattle.prefix_walk.specs.Levels.{at_most_cap, weighed_at, part_at, terms_of, IsTaken}
use Rattle.prefix_walk.proofs.RecordLists.{weighed_others, weighed_left}

pub lone : (c : ℕ) → 0 < c → lone_term c ≡ ([], c) ∷ []
lone c h = ap (λ (t : Bool). cond t [] (([], c) ∷ [])) (ne_eqb c 0 (λ e. absurd (omega arith)))

pub with_entry-append : (a : ℕ) (xs ys : List (List ℕ × ℕ)) → with_entry a (xs ++ ys) ≡ with_entry a xs ++ with_entry a ys
with_entry-append a [] ys = refl
with_entry-append a (x ∷ xs) ys = ap (λ (t : List (List ℕ × ℕ)). (a ∷ x.0, x.1) ∷ t) (with_entry-append a xs ys)

from_top-ext : (f g : ℕ → List (List ℕ × ℕ)) (n : ℕ) → ((a : ℕ) → a < n → f a ≡ g a) → from_top f n ≡ from_top g n
from_top-ext f g zero h = refl
from_top-ext f g (suc n) h = ap₂ (λ (x y : List (List ℕ × ℕ)). x ++ y) (h n (omega arith)) (from_top-ext f g n (λ a l. h a (omega arith)))

terms-ext : (bound n : ℕ) (f g : List ℕ → ℕ) → ((l : List ℕ) → length l ≡ n → f l ≡ g l) → terms_below bound n f ≡ terms_below bound n g
terms-ext bound zero f g h = ap lone_term (h [] refl)
terms-ext bound (suc n) f g h =
    from_top-ext _ _ bound (λ a k. ap (with_entry a) (terms-ext bound n (λ l. f (a ∷ l)) (λ l. g (a ∷ l)) (λ l e. h (a ∷ l) (ap suc e))))

from_top-none : (g : ℕ → List (List ℕ × ℕ)) → ((a : ℕ) → g a ≡ []) → (n : ℕ) → from_top g n ≡ []
from_top-none g h zero = refl
from_top-none g h (suc n) = ap₂ (λ (x y : List (List ℕ × ℕ)). x ++ y) (h n) (from_top-none g h n)

terms-none : (bound n : ℕ) (f : List ℕ → ℕ) → ((l : List ℕ) → f l ≡ 0) → terms_below bound n f ≡ []
terms-none bound zero f h = ap lone_term (h [])
terms-none bound (suc n) f h =
    from_top-none _ (λ a. ap (with_entry a) (terms-none bound n (λ l. f (a ∷ l)) (λ l. h (a ∷ l)))) bound

-- parts from `end` on that are empty can be left out
from_top-skip : (g : ℕ → List (List ℕ × ℕ)) (end left : ℕ) → end ≤ left → ((a : ℕ) → end ≤ a → g a ≡ []) → from_top g left ≡ from_top g end
from_top-skip g end zero le h = let e : zero ≡ end = omega arith in ap (from_top g) e
from_top-skip g end (suc left) le h = split (cases_lt left end) (λ l. from_top-skip g end left l h)
  where
    split : (left < end) ⊎ (end ≤ left) → (end ≤ left → from_top g left ≡ from_top g end) → from_top g (suc left) ≡ from_top g end
    split (inl l) rec = let e : suc left ≡ end = omega arith in ap (from_top g) e
    split (inr l) rec = ap (λ (x : List (List ℕ × ℕ)). x ++ from_top g left) (h left l) ∙ rec l

from_top-take : (p q : ℕ → List (List ℕ × ℕ)) (a bound : ℕ) → a < bound → ((b : ℕ) → suc a ≤ b → p b ≡ []) → ((b : ℕ) → a ≤ b → q b ≡ []) → ((b : ℕ) → b < a → p b ≡ q b)
    → from_top p bound ≡ p a ++ from_top q bound
from_top-take p q a bound l none left same =
    from_top-skip p (suc a) bound (omega arith) none
    ∙ ap (λ (x : List (List ℕ × ℕ)). p a ++ x) (from_top-ext p q a same ∙ sym (from_top-skip q a bound (omega arith) left))

module _ (S : Type 0) (ways : ℕ → S → List ℕ → ℕ) (bound : ℕ) where
  part-none : (n : ℕ) (records : List ((ℕ × S) × ℕ)) (a : ℕ) → ((f : S → ℕ) → weighed_at a f records ≡ 0) → part_at ways bound n records a ≡ []
  part-none n records a h =
      ap (with_entry a) (terms-none bound n (λ l. at_most_cap (weighed_at a (λ s. ways n s l) records)) (λ l. ap at_most_cap (h (λ s. ways n s l))))

  pub no_terms : (n : ℕ) (records : List ((ℕ × S) × ℕ)) → records ≡ [] → terms_of ways bound n records ≡ []
  no_terms n records e =
      ap (λ (x : List ((ℕ × S) × ℕ)). terms_of ways bound n x) e ∙ from_top-none (part_at ways bound n []) (λ a. part-none n [] a (λ f. refl)) bound

  -- the group with the greatest entry is taken
  pub terms_taken : (n a : ℕ) (old new : List ((ℕ × S) × ℕ)) → a < bound → IsTaken a old new → All (λ r. r.0.0 < a) new
      → terms_of ways bound n old ≡ part_at ways bound n old a ++ terms_of ways bound n new
  terms_taken n a old new l taken below =
      from_top-take (part_at ways bound n old) (part_at ways bound n new) a bound l
      (λ b k. part-none n old b (λ f. weighed_others S a old new taken b f (λ e. omega arith) ∙ weighed_left S a old new taken below b f (omega arith)))
      (λ b k. part-none n new b (λ f. weighed_left S a old new taken below b f k))
      (λ b k. ap (with_entry b) (terms-ext bound n (λ m. at_most_cap (weighed_at b (λ s. ways n s m) old)) (λ m. at_most_cap (weighed_at b (λ s. ways n s m) new))
      (λ m e. ap at_most_cap (weighed_others S a old new taken b (λ s. ways n s m) (λ i. omega arith)))))

  -- the steps of the states of a group
  pub terms_next : (m : ℕ) (f : List ℕ → ℕ) (next : List ((ℕ × S) × ℕ))
      → ((a : ℕ) (label : List ℕ) → length label ≡ m → at_most_cap (weighed_at a (λ s. ways m s label) next) ≡ at_most_cap (f (a ∷ label)))
      → terms_below bound (suc m) (λ label. at_most_cap (f label)) ≡ terms_of ways bound m next
  terms_next m f next h =
      from_top-ext _ _ bound (λ a k. ap (with_entry a) (terms-ext bound m (λ l. at_most_cap (f (a ∷ l))) (λ l. at_most_cap (weighed_at a (λ s. ways m s l) next)) (λ l e. sym (h a l e))))
