-- Swaps of two entries of a list, defined by recursion on their places, counted from 0, and the number of increasing pairs before and after a swap.
--     swap_at a b w        w with the entries at the places a and b swapped
--     moved k a            the place to which place a moves if the places k and k + 1 are exchanged
--     exchange_swap        swapping a and b and then exchanging k and k + 1 is exchanging k and k + 1 and then swapping `moved k a` and `moved k b`
--     raises, lowers       swapping a decreasing pair gives more increasing pairs; swapping any other pair does not give more
use Rattle.std.proofs.Common.{◌≡◌, ℕ, zero, suc, ◌+◌, ◌<◌, ◌≤◌, List, [], ◌∷◌, length, get_or, set, refl, sym, ◌∙◌, ap, ap₂, subst, arith, inl, inr, ◌⊎◌, cond, nat_lt, length-set, rules}
use Rattle.std.proofs.lemmas.Bool.{cases_eq}
use Rattle.sym_model.specs.Sum.{Among, Once}
use Rattle.sym_model.specs.PlaceOrders.{smaller}
use Rattle.sym_model.specs.BetaList.{greater, rising_pairs}
use Rattle.schubert_laws.proofs.Exchanges.{exchange_at}
use Rattle.std.proofs.lemmas.List.{get_or-set_same, get_or_default}

abbrev pub swap_at : ℕ → ℕ → List ℕ → List ℕ
swap_at a b [] = []
swap_at zero zero (x ∷ w) = x ∷ w
swap_at zero (suc b) (x ∷ w) = get_or w b x ∷ set w b x
swap_at (suc a) zero (x ∷ w) = get_or w a x ∷ set w a x
swap_at (suc a) (suc b) (x ∷ w) = x ∷ swap_at a b w

abbrev pub moved : ℕ → ℕ → ℕ
moved zero zero = suc zero
moved zero (suc zero) = zero
moved zero (suc (suc a)) = suc (suc a)
moved (suc k) zero = zero
moved (suc k) (suc a) = suc (moved k a)

pub swap_at_sym : (a b : ℕ) (w : List ℕ) → swap_at a b w ≡ swap_at b a w
swap_at_sym a b [] = refl
swap_at_sym zero zero (x ∷ w) = refl
swap_at_sym zero (suc b) (x ∷ w) = refl
swap_at_sym (suc a) zero (x ∷ w) = refl
swap_at_sym (suc a) (suc b) (x ∷ w) = ap (λ v. x ∷ v) (swap_at_sym a b w)

pub length-swap_at : (a b : ℕ) (w : List ℕ) → length (swap_at a b w) ≡ length w
length-swap_at a b [] = refl
length-swap_at zero zero (x ∷ w) = refl
length-swap_at zero (suc b) (x ∷ w) = ap suc (length-set w b x)
length-swap_at (suc a) zero (x ∷ w) = ap suc (length-set w a x)
length-swap_at (suc a) (suc b) (x ∷ w) = ap suc (length-swap_at a b w)

pub moved_within : (k a n : ℕ) → suc k < n → a < n → moved k a < n
moved_within zero zero n h l = h
moved_within zero (suc zero) n h l = omega arith
moved_within zero (suc (suc a)) n h l = l
moved_within (suc k) zero n h l = l
moved_within (suc k) (suc a) zero h l = absurd (omega arith)
moved_within (suc k) (suc a) (suc n) h l = let m = moved_within k a n (omega arith) (omega arith) in omega arith

-- if a < b, then `moved k a` < `moved k b`, unless a is k and b is k + 1
pub moved_order : (k a b : ℕ) → a < b → (a ≡ k → b ≡ suc k → ⊥) → moved k a < moved k b
moved_order k a zero h d = absurd (omega arith)
moved_order zero zero (suc zero) h d = absurd (d refl refl)
moved_order zero zero (suc (suc b)) h d = omega arith
moved_order zero (suc zero) (suc zero) h d = absurd (omega arith)
moved_order zero (suc zero) (suc (suc b)) h d = omega arith
moved_order zero (suc (suc a)) (suc zero) h d = absurd (omega arith)
moved_order zero (suc (suc a)) (suc (suc b)) h d = h
moved_order (suc k) zero (suc b) h d = omega arith
moved_order (suc k) (suc a) (suc b) h d = let m = moved_order k a b (omega arith) (λ p q. d (ap suc p) (ap suc q)) in omega arith

pub get_moved : (k a d : ℕ) (w : List ℕ) → suc k < length w → get_or (exchange_at k w) (moved k a) d ≡ get_or w a d
get_moved k a d [] h = absurd (omega arith)
get_moved zero a d (x ∷ []) h = absurd (omega arith)
get_moved zero zero d (x ∷ y ∷ w) h = refl
get_moved zero (suc zero) d (x ∷ y ∷ w) h = refl
get_moved zero (suc (suc a)) d (x ∷ y ∷ w) h = refl
get_moved (suc k) zero d (x ∷ w) h = refl
get_moved (suc k) (suc a) d (x ∷ w) h = get_moved k a d w (omega arith)

set_moved : (k a v : ℕ) (w : List ℕ) → suc k < length w → set (exchange_at k w) (moved k a) v ≡ exchange_at k (set w a v)
set_moved k a v [] h = absurd (omega arith)
set_moved zero a v (x ∷ []) h = absurd (omega arith)
set_moved zero zero v (x ∷ y ∷ w) h = refl
set_moved zero (suc zero) v (x ∷ y ∷ w) h = refl
set_moved zero (suc (suc a)) v (x ∷ y ∷ w) h = refl
set_moved (suc k) zero v (x ∷ w) h = refl
set_moved (suc k) (suc a) v (x ∷ w) h = ap (λ u. x ∷ u) (set_moved k a v w (omega arith))

pub exchange_swap : (k a b : ℕ) (w : List ℕ) → suc k < length w → exchange_at k (swap_at a b w) ≡ swap_at (moved k a) (moved k b) (exchange_at k w)
exchange_swap k a b [] h = absurd (omega arith)
exchange_swap zero a b (x ∷ []) h = absurd (omega arith)
exchange_swap zero zero zero (x ∷ y ∷ w) h = refl
exchange_swap zero zero (suc zero) (x ∷ y ∷ w) h = refl
exchange_swap zero zero (suc (suc b)) (x ∷ y ∷ w) h = refl
exchange_swap zero (suc zero) zero (x ∷ y ∷ w) h = refl
exchange_swap zero (suc zero) (suc zero) (x ∷ y ∷ w) h = refl
exchange_swap zero (suc zero) (suc (suc b)) (x ∷ y ∷ w) h = refl
exchange_swap zero (suc (suc a)) zero (x ∷ y ∷ w) h = refl
exchange_swap zero (suc (suc a)) (suc zero) (x ∷ y ∷ w) h = refl
exchange_swap zero (suc (suc a)) (suc (suc b)) (x ∷ y ∷ w) h = refl
exchange_swap (suc k) zero zero (x ∷ w) h = refl
exchange_swap (suc k) zero (suc b) (x ∷ w) h = ap₂ ◌∷◌ (sym (get_moved k b x w (omega arith))) (sym (set_moved k b x w (omega arith)))
exchange_swap (suc k) (suc a) zero (x ∷ w) h = ap₂ ◌∷◌ (sym (get_moved k a x w (omega arith))) (sym (set_moved k a x w (omega arith)))
exchange_swap (suc k) (suc a) (suc b) (x ∷ w) h = ap (λ v. x ∷ v) (exchange_swap k a b w (omega arith))

pub swap_neighbour : (k : ℕ) (w : List ℕ) → suc k < length w → swap_at k (suc k) w ≡ exchange_at k w
swap_neighbour k [] h = absurd (omega arith)
swap_neighbour zero (x ∷ []) h = absurd (omega arith)
swap_neighbour zero (x ∷ y ∷ w) h = refl
swap_neighbour (suc k) (x ∷ w) h = ap (λ v. x ∷ v) (swap_neighbour k w (omega arith))

pub greater_set : (a b x : ℕ) (w : List ℕ) → cond (nat_lt a (get_or w b x)) 1 0 + greater a (set w b x) ≡ cond (nat_lt a x) 1 0 + greater a w
greater_set a b x [] = refl
greater_set a zero x (y ∷ w) = omega arith
greater_set a (suc b) x (y ∷ w) = let e = greater_set a b x w in omega arith

pub greater_swap : (c a b : ℕ) (w : List ℕ) → greater c (swap_at a b w) ≡ greater c w
greater_swap c a b [] = refl
greater_swap c zero zero (x ∷ w) = refl
greater_swap c zero (suc b) (x ∷ w) = greater_set c b x w
greater_swap c (suc a) zero (x ∷ w) = greater_set c a x w
greater_swap c (suc a) (suc b) (x ∷ w) = ap (λ n. cond (nat_lt c x) 1 0 + n) (greater_swap c a b w)

smaller_set : (a b x : ℕ) (w : List ℕ) → cond (nat_lt (get_or w b x) a) 1 0 + smaller a (set w b x) ≡ cond (nat_lt x a) 1 0 + smaller a w
smaller_set a b x [] = refl
smaller_set a zero x (y ∷ w) = omega arith
smaller_set a (suc b) x (y ∷ w) = let e = smaller_set a b x w in omega arith

pub smaller_swap : (c a b : ℕ) (w : List ℕ) → smaller c (swap_at a b w) ≡ smaller c w
smaller_swap c a b [] = refl
smaller_swap c zero zero (x ∷ w) = refl
smaller_swap c zero (suc b) (x ∷ w) = smaller_set c b x w
smaller_swap c (suc a) zero (x ∷ w) = smaller_set c a x w
smaller_swap c (suc a) (suc b) (x ∷ w) = ap (λ n. cond (nat_lt x c) 1 0 + n) (smaller_swap c a b w)

counts_more : (x y z : ℕ) → y ≤ x → cond {A = ℕ} (nat_lt x z) 1 0 ≤ cond {A = ℕ} (nat_lt y z) 1 0
counts_more x y z h = search rules

greater_more : (z b x d : ℕ) (w : List ℕ) → b < length w → get_or w b d < x → greater z w ≤ greater z (set w b x)
greater_more z b x d [] l h = absurd (omega arith)
greater_more z zero x d (y ∷ w) l h = search rules
greater_more z (suc b) x d (y ∷ w) l h = let e = greater_more z b x d w (omega arith) h in omega arith

raises_first : (x b d : ℕ) (w : List ℕ) → b < length w → get_or w b d < x
    → greater x w + rising_pairs w < greater (get_or w b d) (set w b x) + rising_pairs (set w b x)
raises_first x b d [] l h = absurd (omega arith)
raises_first x zero d (y ∷ w) l h = search rules
raises_first x (suc b) d (z ∷ w) l h = search (rules, greater_more, counts_more, (raises_first x b d w (omega arith) h))

-- if a < b and the entry at a is greater than that at b, swapping them gives more increasing pairs
pub raises : (a b d : ℕ) (w : List ℕ) → a < b → b < length w → get_or w b d < get_or w a d → rising_pairs w < rising_pairs (swap_at a b w)
raises a b d [] o l h = absurd (omega arith)
raises zero zero d (x ∷ w) o l h = absurd (omega arith)
raises zero (suc b) d (x ∷ w) o l h = search (rules, get_or_default, raises_first)
raises (suc a) zero d (x ∷ w) o l h = absurd (omega arith)
raises (suc a) (suc b) d (x ∷ w) o l h = search (rules, greater_swap, (raises a b d w (omega arith) (omega arith) h))

set_back : (w : List ℕ) (b x d : ℕ) → b < length w → set (set w b x) b (get_or w b d) ≡ w
set_back [] b x d h = absurd (omega arith)
set_back (y ∷ w) zero x d h = refl
set_back (y ∷ w) (suc b) x d h = ap (λ v. y ∷ v) (set_back w b x d (omega arith))

pub swap_twice : (a b : ℕ) (w : List ℕ) → a < length w → b < length w → swap_at a b (swap_at a b w) ≡ w
swap_twice a b [] l m = refl
swap_twice zero zero (x ∷ w) l m = refl
swap_twice zero (suc b) (x ∷ w) l m = ap₂ ◌∷◌ (get_or-set_same w b x (get_or w b x) (omega arith)) (set_back w b x x (omega arith))
swap_twice (suc a) zero (x ∷ w) l m = ap₂ ◌∷◌ (get_or-set_same w a x (get_or w a x) (omega arith)) (set_back w a x x (omega arith))
swap_twice (suc a) (suc b) (x ∷ w) l m = ap (λ v. x ∷ v) (swap_twice a b w (omega arith) (omega arith))

pub get_swap_left : (a b d : ℕ) (w : List ℕ) → a < length w → b < length w → get_or (swap_at a b w) a d ≡ get_or w b d
get_swap_left a b d [] l m = absurd (omega arith)
get_swap_left zero zero d (x ∷ w) l m = refl
get_swap_left zero (suc b) d (x ∷ w) l m = get_or_default w b x d (omega arith)
get_swap_left (suc a) zero d (x ∷ w) l m = get_or-set_same w a x d (omega arith)
get_swap_left (suc a) (suc b) d (x ∷ w) l m = get_swap_left a b d w (omega arith) (omega arith)

pub get_swap_right : (a b d : ℕ) (w : List ℕ) → a < length w → b < length w → get_or (swap_at a b w) b d ≡ get_or w a d
get_swap_right a b d w l m = ap (λ v. get_or v b d) (swap_at_sym a b w) ∙ get_swap_left b a d w m l

-- if a < b and the entry at a is at most that at b, swapping them does not give more increasing pairs
pub lowers : (a b d : ℕ) (w : List ℕ) → a < b → b < length w → get_or w a d ≤ get_or w b d → rising_pairs (swap_at a b w) ≤ rising_pairs w
lowers a b d w o l h = elim (cases_eq (get_or w a d) (get_or w b d)) [
  | inl e ↦ let f = ap rising_pairs (swap_equal a b d w (omega arith) l e) in omega arith
  | inr n ↦
      let p = get_swap_left a b d w (omega arith) l in
      let q = get_swap_right a b d w (omega arith) l in
      let s = length-swap_at a b w in
      let r = raises a b d (swap_at a b w) o (omega arith) (omega arith) in
      let t = ap rising_pairs (swap_twice a b w (omega arith) l) in
      omega arith
]
  where
    set_same : (v : List ℕ) (i x p : ℕ) → i < length v → get_or v i p ≡ x → set v i x ≡ v
    set_same [] i x p m e = refl
    set_same (y ∷ v) zero x p m e = ap (λ z. z ∷ v) (sym e)
    set_same (y ∷ v) (suc i) x p m e = ap (λ u. y ∷ u) (set_same v i x p (omega arith) e)

    swap_equal : (i j p : ℕ) (v : List ℕ) → i < length v → j < length v → get_or v i p ≡ get_or v j p → swap_at i j v ≡ v
    swap_equal i j p [] m n e = refl
    swap_equal zero zero p (x ∷ v) m n e = refl
    swap_equal zero (suc j) p (x ∷ v) m n e =
        let g : get_or v j x ≡ x = get_or_default v j x p (omega arith) ∙ sym e in
        ap₂ ◌∷◌ g (set_same v j x x (omega arith) g)
    swap_equal (suc i) zero p (x ∷ v) m n e =
        let g : get_or v i x ≡ x = get_or_default v i x p (omega arith) ∙ e in
        ap₂ ◌∷◌ g (set_same v i x x (omega arith) g)
    swap_equal (suc i) (suc j) p (x ∷ v) m n e = ap (λ u. x ∷ u) (swap_equal i j p v (omega arith) (omega arith) e)

pub among_set : {A : Type 0} (z : A) (b : ℕ) (x : A) (w : List A) → Among z (set w b x) → (z ≡ x) ⊎ Among z w
among_set z b x [] m = absurd m
among_set z zero x (y ∷ w) (inl e) = inl e
among_set z zero x (y ∷ w) (inr m) = inr (inr m)
among_set z (suc b) x (y ∷ w) (inl e) = inr (inl e)
among_set z (suc b) x (y ∷ w) (inr m) = elim (among_set z b x w m) [ inl e ↦ inl e | inr k ↦ inr (inr k) ]

pub among_get : (b d : ℕ) (w : List ℕ) → b < length w → Among (get_or w b d) w
among_get b d [] h = absurd (omega arith)
among_get zero d (y ∷ w) h = inl refl
among_get (suc b) d (y ∷ w) h = inr (among_get b d w (omega arith))

replaced : (b d x : ℕ) (w : List ℕ) → b < length w → Once w → Among (get_or w b d) (set w b x) → get_or w b d ≡ x
replaced b d x [] h o m = absurd m
replaced zero d x (y ∷ w) h o (inl e) = e
replaced zero d x (y ∷ w) h o (inr m) = absurd (o.0 m)
replaced (suc b) d x (y ∷ w) h o (inl e) = absurd (o.0 (subst (λ z. Among z w) e (among_get b d w (omega arith))))
replaced (suc b) d x (y ∷ w) h o (inr m) = replaced b d x w (omega arith) o.1 m

once_set : (b x : ℕ) (w : List ℕ) → Once w → (Among x w → ⊥) → Once (set w b x)
once_set b x [] o n = tt
once_set zero x (y ∷ w) o n = (λ m. n (inr m), o.1)
once_set (suc b) x (y ∷ w) o n = (apart, once_set b x w o.1 (λ m. n (inr m)))
  where
    apart : Among y (set w b x) → ⊥
    apart m = elim (among_set y b x w m) [ inl e ↦ n (inl (sym e)) | inr k ↦ o.0 k ]

once_first : (b x : ℕ) (w : List ℕ) → b < length w → Once (x ∷ w) → Once (get_or w b x ∷ set w b x)
once_first b x w h o =
    (λ m. o.0 (subst (λ z. Among z w) (replaced b x x w h o.1 m) (among_get b x w h)), once_set b x w o.1 o.0)

among_first : (z b x : ℕ) (w : List ℕ) → b < length w → Among z (get_or w b x ∷ set w b x) → Among z (x ∷ w)
among_first z b x w h (inl e) = inr (subst (λ y. Among y w) (sym e) (among_get b x w h))
among_first z b x w h (inr m) = elim (among_set z b x w m) [ inl e ↦ inl e | inr k ↦ inr k ]

pub among_swap : (z a b : ℕ) (w : List ℕ) → a < length w → b < length w → Among z (swap_at a b w) → Among z w
among_swap z a b [] l h m = m
among_swap z zero zero (x ∷ w) l h m = m
among_swap z zero (suc b) (x ∷ w) l h m = among_first z b x w (omega arith) m
among_swap z (suc a) zero (x ∷ w) l h m = among_first z a x w (omega arith) m
among_swap z (suc a) (suc b) (x ∷ w) l h (inl e) = inl e
among_swap z (suc a) (suc b) (x ∷ w) l h (inr m) = inr (among_swap z a b w (omega arith) (omega arith) m)

pub once_swap : (a b : ℕ) (w : List ℕ) → a < length w → b < length w → Once w → Once (swap_at a b w)
once_swap a b [] l h o = o
once_swap zero zero (x ∷ w) l h o = o
once_swap zero (suc b) (x ∷ w) l h o = once_first b x w (omega arith) o
once_swap (suc a) zero (x ∷ w) l h o = once_first a x w (omega arith) o
once_swap (suc a) (suc b) (x ∷ w) l h o = (λ m. o.0 (among_swap x a b w (omega arith) (omega arith) m), once_swap a b w (omega arith) (omega arith) o.1)
