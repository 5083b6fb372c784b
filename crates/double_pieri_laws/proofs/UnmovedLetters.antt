-- The terms of DoubleChainSums, by chains: those of j covers give e_(d-j) of the variables y of the letters that stand at the same place, among the first
-- k, at both ends of the chain (`sum_by_chains`). Places are counted from 0, but those of `staying`, as in the definitions, from 1.
use Rattle.std.proofs.Common.{◌≡◌, ℕ, zero, suc, ◌+◌, ◌-◌, ◌<◌, ◌≤◌, List, [], ◌∷◌, ◌++◌, length, map, filter, get_or, refl, sym, ◌∙◌, ap, ap₂, subst, arith, inl, inr, ◌⊎◌, cond, nat_lt, ◌==◌, ◌&&◌, Bool, true, false, ℤ, pos, ◌+ℤ◌, eq-eqb}
use Rattle.std.proofs.lemmas.Int.{ints}
use Rattle.std.proofs.lemmas.Bool.{cases_eq, cases_lt, lt-ltb, le-ltb, ne_eqb}
use Rattle.sym_model.specs.Sum.{total, Among, Once}
use Rattle.sym_model.specs.Partition.{after}
use Rattle.sym_model.specs.PlaceOrders.{places}
use Rattle.sym_model.specs.Permutation.{IsOneLine, letter}
use Rattle.sym_model.specs.DividedDifference.{raised}
use Rattle.sym_model.proofs.AfterLists.{after_among, among_after, once_after}
use Rattle.schubert_laws.specs.Chains.{letters_before}
use Rattle.schubert_laws.proofs.ChainSums.{place_below, letter_there, if_less, if_not_less, up_ext, lift, lift_none, lift_some, chain_sum, no_covers_left}
use Rattle.schubert_laws.proofs.CoverTests.{letter_at, different, exchanged_at, covers_only_if, up}
use Rattle.schubert_laws.proofs.MonkFromOne.{one_line_swap}
use Rattle.schubert_laws.proofs.MonkStep.{is_cover}
use Rattle.schubert_laws.proofs.PlaceSums.{sum_below_ext}
use Rattle.schubert_laws.proofs.Ranks.{letter_counts}
use Rattle.schubert_laws.proofs.Swaps.{swap_at, length-swap_at}
use Rattle.double_pieri_laws.proofs.DoubleChainSums.{lift_sum, raised_twice, double_sum, no_covers_left_y}

-- ---- sums over j + e = d

abbrev pub split_sum : ℕ → (ℕ → ℕ → ℤ) → ℤ
split_sum zero h = h 0 0
split_sum (suc d) h = h (suc d) 0 +ℤ split_sum d (λ j e. h j (suc e))

pub split_ext : (d : ℕ) (g h : ℕ → ℕ → ℤ) → ((j e : ℕ) → j + e ≡ d → g j e ≡ h j e) → split_sum d g ≡ split_sum d h
split_ext zero g h f = f 0 0 refl
split_ext (suc d) g h f = ap₂ ◌+ℤ◌ (f (suc d) 0 (omega arith)) (split_ext d (λ j e. g j (suc e)) (λ j e. h j (suc e)) (λ j e p. f j (suc e) (omega arith)))

pub split_add : (d : ℕ) (g h : ℕ → ℕ → ℤ) → split_sum d (λ j e. g j e +ℤ h j e) ≡ split_sum d g +ℤ split_sum d h
split_add zero g h = refl
split_add (suc d) g h = let r = split_add d (λ j e. g j (suc e)) (λ j e. h j (suc e)) in omega (arith, ints)

split_none : (d : ℕ) (h : ℕ → ℕ → ℤ) → ((j e : ℕ) → h j e ≡ pos 0) → split_sum d h ≡ pos 0
split_none zero h f = f 0 0
split_none (suc d) h f = let a = f (suc d) 0 in let r = split_none d (λ j e. h j (suc e)) (λ j e. f j (suc e)) in omega (arith, ints)

pub split_left : (d : ℕ) (h : ℕ → ℕ → ℤ) → split_sum (suc d) h ≡ h 0 (suc d) +ℤ split_sum d (λ j e. h (suc j) e)
split_left zero h = omega (arith, ints)
split_left (suc d) h = let r = split_left d (λ j e. h j (suc e)) in omega (arith, ints)

pub split_total : (d a : ℕ) (h : ℕ → ℕ → ℤ) → split_sum d (λ j e. h (j + a) e) ≡ h a d +ℤ total (λ j. h j (a + d - j)) (after a d)
split_total zero a h = let z : 0 + a ≡ a = omega arith in let e = ap (λ i. h i 0) z in omega (arith, ints)
split_total (suc d) a h =
    let z : 0 + a ≡ a = omega arith in
    let p = ap (λ i. h i (suc d)) z in
    let l = split_left d (λ j e. h (j + a) e) in
    let s = split_ext d (λ j e. h (suc j + a) e) (λ j e. h (j + (a + 1)) e) (λ j e q. let y : suc j + a ≡ j + (a + 1) = omega arith in ap (λ i. h i e) y) in
    let r = split_total d (a + 1) h in
    let x : a + 1 + d ≡ a + suc d = omega arith in
    let y : a + suc d - (a + 1) ≡ d = omega arith in
    let u = ap (λ i. total (λ j. h j (i - j)) (after (a + 1) d)) x in
    let v = ap (λ i. h (a + 1) i) y in
    omega (arith, ints)

-- ---- chains

pub lift_at_covers : (F G : List ℕ → ℤ) (w : List ℕ) (k b : ℕ) → ((a : ℕ) → a < k → k ≤ b → is_cover w a b ≡ true → F (swap_at a b w) ≡ G (swap_at a b w)) → lift F w k b ≡ lift G w k b
lift_at_covers F G w k b e = elim (cases_lt b k) [
  | inl h ↦ lift_none F w k b h ∙ sym (lift_none G w k b h)
  | inr h ↦
      lift_some F w k b h ∙ sum_below_ext k (λ a. up F w a b) (λ a. up G w a b) (λ a l. up_ext F G w a b (e a l h)) ∙ sym (lift_some G w k b h)
]

pub lift_split : (d : ℕ) (H : ℕ → ℕ → List ℕ → ℤ) (w : List ℕ) (k b : ℕ) → lift (λ v. split_sum d (λ j e. H j e v)) w k b ≡ split_sum d (λ j e. lift (H j e) w k b)
lift_split zero H w k b = refl
lift_split (suc d) H w k b = lift_sum (H (suc d) 0) (λ v. split_sum d (λ j e. H j (suc e) v)) w k b ∙ ap (λ z. lift (H (suc d) 0) w k b +ℤ z) (lift_split d (λ j e. H j (suc e)) w k b)

chain_add : (m d k : ℕ) (F G : List ℕ → ℤ) (w : List ℕ) → chain_sum m d k (λ v. F v +ℤ G v) w ≡ chain_sum m d k F w +ℤ chain_sum m d k G w
chain_add zero zero k F G w = refl
chain_add zero (suc d) k F G w = refl
chain_add (suc m) zero k F G w = chain_add m zero k F G w
chain_add (suc m) (suc d) k F G w =
    let a = chain_add m (suc d) k F G w in
    let b = lift_at_covers (λ v. chain_sum m d k (λ u. F u +ℤ G u) v) (λ v. chain_sum m d k F v +ℤ chain_sum m d k G v) w k (letters_before (suc m) w) (λ a i j t. chain_add m d k F G (swap_at a (letters_before (suc m) w) w)) in
    let c = lift_sum (λ v. chain_sum m d k F v) (λ v. chain_sum m d k G v) w k (letters_before (suc m) w) in
    omega (arith, ints)

-- v is a permutation as long as w, in which the letters greater than m have the places that they have in w
pub record AreFixed (m : ℕ) (w v : List ℕ) : Type 0 where
  pub one_line : IsOneLine v
  pub size : length v ≡ length w
  pub same : (c : ℕ) → c < length w → m < letter_at w c → letter_at v c ≡ letter_at w c

pub chain_ends : (m d k : ℕ) (F G : List ℕ → ℤ) (w : List ℕ) → IsOneLine w → m ≤ length w → ((v : List ℕ) → AreFixed m w v → F v ≡ G v) → chain_sum m d k F w ≡ chain_sum m d k G w
chain_ends zero zero k F G w o l e = e w (record { one_line = o; size = refl; same = λ c h x. refl })
chain_ends zero (suc d) k F G w o l e = refl
chain_ends (suc m) zero k F G w o l e = chain_ends m zero k F G w o (omega arith) (λ v f. e v (record { one_line = f.one_line; size = f.size; same = λ c h x. f.same c h (omega arith) }))
chain_ends (suc m) (suc d) k F G w o l e =
    ap₂ ◌+ℤ◌ (chain_ends m (suc d) k F G w o (omega arith) (λ v f. e v (record { one_line = f.one_line; size = f.size; same = λ c h x. f.same c h (omega arith) })))
    (lift_at_covers (λ v. chain_sum m d k F v) (λ v. chain_sum m d k G v) w k (letters_before (suc m) w) (λ a i j t.
    let p = inside in
    let n = length-swap_at a (letters_before (suc m) w) w in
    chain_ends m d k F G (swap_at a (letters_before (suc m) w) w) (one_line_swap a (letters_before (suc m) w) w (omega arith) p o) (omega arith) (λ v f.
    e v (record { one_line = f.one_line; size = f.size ∙ n; same = λ c h x. kept a c v (omega arith) t h x f }))))
  where
    inside : letters_before (suc m) w < length w
    inside = place_below (suc m) w o (omega arith) l

    kept : (a c : ℕ) (v : List ℕ) → a < letters_before (suc m) w → is_cover w a (letters_before (suc m) w) ≡ true → c < length w → suc m < letter_at w c → AreFixed m (swap_at a (letters_before (suc m) w) w) v → letter_at v c ≡ letter_at w c
    kept a c v i t h x f =
        let p = inside in
        let b = letter_there (suc m) w o (omega arith) l in
        let r = (covers_only_if a (letters_before (suc m) w) w o i p t).0 in
        let n = length-swap_at a (letters_before (suc m) w) w in
        let g = (exchanged_at a (letters_before (suc m) w) w (omega arith) p).2 c (λ q. let y = ap (letter_at w) q in omega arith) (λ q. let y = ap (letter_at w) q in omega arith) in
        f.same c (omega arith) (omega arith) ∙ g

-- ---- elementary sums of variables y

-- the sum of φ over the labels of e_d(y_a, a in the list)·y^β·S_v
abbrev pub elementary_sum : ℕ → List ℕ → (List ℕ → List ℕ → ℤ) → List ℕ → List ℕ → ℤ
elementary_sum zero letters φ β v = φ β v
elementary_sum (suc d) [] φ β v = pos 0
elementary_sum (suc d) (a ∷ letters) φ β v = elementary_sum (suc d) letters φ β v +ℤ elementary_sum d letters φ (raised a β) v

one_letter_more : (d a : ℕ) (before later : List ℕ) (φ : List ℕ → List ℕ → ℤ) (β v : List ℕ)
    → elementary_sum (suc d) (before ++ (a ∷ later)) φ β v ≡ elementary_sum (suc d) (before ++ later) φ β v +ℤ elementary_sum d (before ++ later) φ (raised a β) v
one_letter_more d a [] later φ β v = refl
one_letter_more zero a (c ∷ before) later φ β v = let r = one_letter_more zero a before later φ β v in omega (arith, ints)
one_letter_more (suc d) a (c ∷ before) later φ β v =
    let r = one_letter_more (suc d) a before later φ β v in
    let s = one_letter_more d a before later φ (raised c β) v in
    let t = ap (λ γ. elementary_sum d (before ++ later) φ γ v) (raised_twice a c β) in
    omega (arith, ints)

-- ---- the letters that stand at the same place

abbrev pub staying : ℕ → List ℕ → List ℕ → List ℕ → List ℕ
staying m w v is = map (letter w) (filter (λ i. (letter v i == letter w i) && nat_lt (letter w i) (suc m)) is)

pub at_place : (w : List ℕ) (i : ℕ) → 1 ≤ i → letter w i ≡ letter_at w (i - 1)
at_place w i h = let z : suc (i - 1) ≡ i = omega arith in ap (λ j. get_or w (i - 1) j) (sym z)

pub same_selected : (f g : ℕ → ℕ) (p q : ℕ → Bool) (is : List ℕ) → ((i : ℕ) → Among i is → (p i ≡ q i) × (p i ≡ true → f i ≡ g i)) → map f (filter p is) ≡ map g (filter q is)
same_selected f g p q [] e = refl
same_selected f g p q (i ∷ is) e = by (p i) (q i) (e i (inl refl)).0 (e i (inl refl)).1 refl refl (same_selected f g p q is (λ j m. e j (inr m)))
  where
    by : (s t : Bool) → p i ≡ q i → (p i ≡ true → f i ≡ g i) → p i ≡ s → q i ≡ t → map f (filter p is) ≡ map g (filter q is) → map f (filter p (i ∷ is)) ≡ map g (filter q (i ∷ is))
    by true true a b x y r = search (x, y, b, r)
    by true false a b x y r = cc
    by false true a b x y r = cc
    by false false a b x y r = search (x, y, r)

-- a letter at a place before k is not m + 1, if that letter stands at b, and the place is not b
other_letter : (m b i : ℕ) (w : List ℕ) → IsOneLine w → letter_at w b ≡ suc m → 1 ≤ i → (i ≡ suc b → ⊥) → letter w i ≡ suc m → ⊥
other_letter m b i w o t h n e = n (let p = at_place w i h in let d = different w o (i - 1) b (sym p ∙ e ∙ sym t) in omega arith)

one_bound_more : (m x : ℕ) → (x ≡ suc m → ⊥) → nat_lt x (suc (suc m)) ≡ nat_lt x (suc m)
one_bound_more m x n = elim (cases_lt x (suc m)) [
  | inl h ↦ lt-ltb x (suc (suc m)) (omega arith) ∙ sym (lt-ltb x (suc m) h)
  | inr h ↦ le-ltb x (suc (suc m)) (omega (arith, n)) ∙ sym (le-ltb x (suc m) h)
]

staying_same : (m b : ℕ) (w v is : List ℕ) → IsOneLine w → letter_at w b ≡ suc m → ((i : ℕ) → Among i is → (1 ≤ i) × (i ≡ suc b → ⊥)) → staying (suc m) w v is ≡ staying m w v is
staying_same m b w v is o t h =
    same_selected (letter w) (letter w) (λ i. (letter v i == letter w i) && nat_lt (letter w i) (suc (suc m))) (λ i. (letter v i == letter w i) && nat_lt (letter w i) (suc m)) is
    (λ i x. let p = h i x in
    (ap (λ z. (letter v i == letter w i) && z) (one_bound_more m (letter w i) (other_letter m b i w o t p.0 p.1)), λ y. refl))

-- the letters that stand at the same place and are at most m + 1: those that are at most m and the letter m + 1 between them
record IsInserted (a : ℕ) (few many : List ℕ) : Type 0 where
  pub before : List ℕ
  pub later : List ℕ
  pub without_it : few ≡ before ++ later
  pub with_it : many ≡ before ++ (a ∷ later)

inserted_sum : (d a : ℕ) (few many : List ℕ) (φ : List ℕ → List ℕ → ℤ) (β v : List ℕ) → IsInserted a few many
    → elementary_sum (suc d) many φ β v ≡ elementary_sum (suc d) few φ β v +ℤ elementary_sum d few φ (raised a β) v
inserted_sum d a few many φ β v r =
    subst (λ letters. elementary_sum (suc d) many φ β v ≡ elementary_sum (suc d) letters φ β v +ℤ elementary_sum d letters φ (raised a β) v) (sym r.without_it)
    (subst (λ letters. elementary_sum (suc d) letters φ β v ≡ elementary_sum (suc d) (r.before ++ r.later) φ β v +ℤ elementary_sum d (r.before ++ r.later) φ (raised a β) v) (sym r.with_it)
    (one_letter_more d a r.before r.later φ β v))

staying_more : (m b : ℕ) (w v is : List ℕ) → IsOneLine w → letter_at w b ≡ suc m → letter_at v b ≡ suc m → Once is → ((i : ℕ) → Among i is → 1 ≤ i) → Among (suc b) is
    → IsInserted (suc m) (staying m w v is) (staying (suc m) w v is)
staying_more m b w v [] o t u n h x = absurd x
staying_more m b w v (i ∷ is) o t u n h (inl e) =
    record { before = []; later = staying m w v is; without_it = few; with_it = many }
  where
    z : suc b - 1 ≡ b
    z = omega arith

    lw : letter w i ≡ suc m
    lw = ap (letter w) (sym e) ∙ at_place w (suc b) (omega arith) ∙ ap (letter_at w) z ∙ t

    lv : letter v i ≡ suc m
    lv = ap (letter v) (sym e) ∙ at_place v (suc b) (omega arith) ∙ ap (letter_at v) z ∙ u

    rest : staying (suc m) w v is ≡ staying m w v is
    rest = staying_same m b w v is o t (λ j y. (h j (inr y), λ q. n.0 (subst (λ k. Among k is) (q ∙ e) y)))

    few : staying m w v (i ∷ is) ≡ staying m w v is
    few = ap (λ s. map (letter w) (cond ((letter v i == letter w i) && s) (i ∷ filter (λ i. (letter v i == letter w i) && nat_lt (letter w i) (suc m)) is) (filter (λ i. (letter v i == letter w i) && nat_lt (letter w i) (suc m)) is)))
        (le-ltb (letter w i) (suc m) (let p = lw in omega arith))
        ∙ by (letter v i == letter w i)
      where
        by : (s : Bool) → map (letter w) (cond (s && false) (i ∷ filter (λ i. (letter v i == letter w i) && nat_lt (letter w i) (suc m)) is) (filter (λ i. (letter v i == letter w i) && nat_lt (letter w i) (suc m)) is)) ≡ staying m w v is
        by true = refl
        by false = refl

    many : staying (suc m) w v (i ∷ is) ≡ suc m ∷ staying m w v is
    many =
        ap₂ (λ s x. map (letter w) (cond (s && x) (i ∷ filter (λ i. (letter v i == letter w i) && nat_lt (letter w i) (suc (suc m))) is) (filter (λ i. (letter v i == letter w i) && nat_lt (letter w i) (suc (suc m))) is)))
        (eq-eqb (letter v i) (letter w i) (lv ∙ sym lw)) (lt-ltb (letter w i) (suc (suc m)) (let p = lw in omega arith))
        ∙ ap₂ ◌∷◌ lw rest
staying_more m b w v (i ∷ is) o t u n h (inr x) = by (staying_more m b w v is o t u n.1 (λ j y. h j (inr y)) x) ((letter v i == letter w i) && nat_lt (letter w i) (suc m)) refl
  where
    other : (letter w i ≡ suc m) → ⊥
    other = other_letter m b i w o t (h i (inl refl)) (λ q. n.0 (subst (λ j. Among j is) (sym q) x))

    same : ((letter v i == letter w i) && nat_lt (letter w i) (suc (suc m))) ≡ ((letter v i == letter w i) && nat_lt (letter w i) (suc m))
    same = ap (λ z. (letter v i == letter w i) && z) (one_bound_more m (letter w i) other)

    by : IsInserted (suc m) (staying m w v is) (staying (suc m) w v is) → (s : Bool) → ((letter v i == letter w i) && nat_lt (letter w i) (suc m)) ≡ s → IsInserted (suc m) (staying m w v (i ∷ is)) (staying (suc m) w v (i ∷ is))
    by r true e = record {
      before = letter w i ∷ r.before;
      later = r.later;
      without_it = let a = r.without_it in search (e, a);
      with_it = let a = r.with_it in let c = same in search (e, a, c);
    }
    by r false e = record {
      before = r.before;
      later = r.later;
      without_it = let a = r.without_it in search (e, a);
      with_it = let a = r.with_it in let c = same in search (e, a, c);
    }

-- after a cover that brings the letter m + 1 to a place before k, the letters that stay and are at most m are the same
staying_swapped : (m k a b : ℕ) (w v : List ℕ) → IsOneLine w → a < k → k ≤ b → b < length w → letter_at w b ≡ suc m → is_cover w a b ≡ true → AreFixed m (swap_at a b w) v
    → staying m (swap_at a b w) v (places k) ≡ staying m w v (places k)
staying_swapped m k a b w v o h g l t r f =
    same_selected (letter (swap_at a b w)) (letter w) (λ i. (letter v i == letter (swap_at a b w) i) && nat_lt (letter (swap_at a b w) i) (suc m)) (λ i. (letter v i == letter w i) && nat_lt (letter w i) (suc m)) (places k) at
  where
    less : letter_at w a < letter_at w b
    less = (covers_only_if a b w o (omega arith) l r).0

    at : (i : ℕ) → Among i (places k) → (((letter v i == letter (swap_at a b w) i) && nat_lt (letter (swap_at a b w) i) (suc m)) ≡ ((letter v i == letter w i) && nat_lt (letter w i) (suc m)))
        × (((letter v i == letter (swap_at a b w) i) && nat_lt (letter (swap_at a b w) i) (suc m)) ≡ true → letter (swap_at a b w) i ≡ letter w i)
    at i x = by (after_among 0 k i x) (cases_eq (i - 1) a)
      where
        by : (0 < i) × (i ≤ 0 + k) → ((i - 1) ≡ a) ⊎ ((i - 1) ≡ a → ⊥) → (((letter v i == letter (swap_at a b w) i) && nat_lt (letter (swap_at a b w) i) (suc m)) ≡ ((letter v i == letter w i) && nat_lt (letter w i) (suc m)))
            × (((letter v i == letter (swap_at a b w) i) && nat_lt (letter (swap_at a b w) i) (suc m)) ≡ true → letter (swap_at a b w) i ≡ letter w i)
        by y (inl e) =
            let y0 = y.0 in
            let p = at_place (swap_at a b w) i y0 ∙ ap (letter_at (swap_at a b w)) e ∙ (exchanged_at a b w (omega arith) l).0 ∙ t in
            let n = length-swap_at a b w in
            let q = at_place v i y0 ∙ ap (letter_at v) e ∙ f.same a (omega arith) (let z = (exchanged_at a b w (omega arith) l).0 in omega arith) ∙ (exchanged_at a b w (omega arith) l).0 ∙ t in
            let u = at_place w i y0 ∙ ap (letter_at w) e in
            let s = less in
            let left : ((letter v i == letter (swap_at a b w) i) && nat_lt (letter (swap_at a b w) i) (suc m)) ≡ false = ap (λ z. (letter v i == letter (swap_at a b w) i) && z) (le-ltb (letter (swap_at a b w) i) (suc m) (omega arith)) ∙ both (letter v i == letter (swap_at a b w) i) in
            let right : ((letter v i == letter w i) && nat_lt (letter w i) (suc m)) ≡ false = ap (λ z. z && nat_lt (letter w i) (suc m)) (ne_eqb (letter v i) (letter w i) (λ z. omega arith)) in
            (left ∙ sym right, λ z. absurd (cc))
          where
            both : (s : Bool) → (s && false) ≡ false
            both true = refl
            both false = refl
        by y (inr n) =
            let y0 = y.0 in
            let y1 = y.1 in
            let p : letter (swap_at a b w) i ≡ letter w i = at_place (swap_at a b w) i y0 ∙ (exchanged_at a b w (omega arith) l).2 (i - 1) n (λ z. omega arith) ∙ sym (at_place w i y0) in
            (ap (λ z. (letter v i == z) && nat_lt z (suc m)) p, λ z. p)

staying_none : (w v is : List ℕ) → IsOneLine w → ((i : ℕ) → Among i is → 1 ≤ i) → staying 0 w v is ≡ []
staying_none w v [] o h = refl
staying_none w v (i ∷ is) o h =
    let c = letter_counts w i o (h i (inl refl)) in
    ap (λ s. map (letter w) (cond ((letter v i == letter w i) && s) (i ∷ filter (λ i. (letter v i == letter w i) && nat_lt (letter w i) 1) is) (filter (λ i. (letter v i == letter w i) && nat_lt (letter w i) 1) is)))
    (le-ltb (letter w i) 1 (omega arith))
    ∙ by (letter v i == letter w i) (staying_none w v is o (λ j x. h j (inr x)))
  where
    by : (s : Bool) → staying 0 w v is ≡ []
        → map (letter w) (cond (s && false) (i ∷ filter (λ i. (letter v i == letter w i) && nat_lt (letter w i) 1) is) (filter (λ i. (letter v i == letter w i) && nat_lt (letter w i) 1) is)) ≡ []
    by true r = r
    by false r = r

-- ---- the sum by chains

abbrev pub chain_term : ℕ → ℕ → (List ℕ → List ℕ → ℤ) → List ℕ → List ℕ → ℕ → List ℕ → ℤ
chain_term m k φ β w e v = elementary_sum e (staying m w v (places k)) φ β v

abbrev pub by_chains : ℕ → ℕ → (List ℕ → List ℕ → ℤ) → List ℕ → List ℕ → ℕ → ℕ → ℤ
by_chains m k φ β w j e = chain_sum m j k (chain_term m k φ β w e) w

pub sum_by_chains : (m d k : ℕ) (φ : List ℕ → List ℕ → ℤ) (β w : List ℕ) → IsOneLine w → m ≤ length w → k ≤ length w → double_sum m d k φ β w ≡ split_sum d (by_chains m k φ β w)
sum_by_chains zero zero k φ β w o l g = refl
sum_by_chains zero (suc d) k φ β w o l g = sym (ap (λ z. pos 0 +ℤ z) (split_none d (λ j e. by_chains zero k φ β w j (suc e)) none))
  where
    none : (j e : ℕ) → by_chains zero k φ β w j (suc e) ≡ pos 0
    none zero e = ap (λ letters. elementary_sum (suc e) letters φ β w) (staying_none w w (places k) o (λ i x. let y = after_among 0 k i x in let y0 = y.0 in omega arith))
    none (suc j) e = refl
sum_by_chains (suc m) zero k φ β w o l g = no_covers_left_y m k φ β w ∙ sym (no_covers_left m k (chain_term (suc m) k φ β w 0) w)
sum_by_chains (suc m) (suc d) k φ β w o l g =
    by (cases_lt (letters_before (suc m) w) k) (sum_by_chains m (suc d) k φ β w o (omega arith) g) (sum_by_chains m d k φ (raised (suc m) β) w o (omega arith) g)
    (λ v x y. sum_by_chains m d k φ β v x (omega arith) (omega arith))
  where
    b : ℕ
    b = letters_before (suc m) w

    inside : letters_before (suc m) w < length w
    inside = place_below (suc m) w o (omega arith) l

    top : letter_at w (letters_before (suc m) w) ≡ suc m
    top = letter_there (suc m) w o (omega arith) l

    -- the letter m + 1 stays
    left : letters_before (suc m) w < k → (j e : ℕ) → by_chains (suc m) k φ β w j (suc e) ≡ by_chains m k φ β w j (suc e) +ℤ by_chains m k φ (raised (suc m) β) w j e
    left h j e =
        same j
        ∙ chain_ends m j k (chain_term (suc m) k φ β w (suc e)) (λ v. chain_term m k φ β w (suc e) v +ℤ chain_term m k φ (raised (suc m) β) w e v) w o (omega arith) (λ v f.
        let p = inside in
        inserted_sum e (suc m) (staying m w v (places k)) (staying (suc m) w v (places k)) φ β v
        (staying_more m (letters_before (suc m) w) w v (places k) o top (f.same (letters_before (suc m) w) p (let t = top in omega arith) ∙ top) (once_after 0 k) (λ i x. let y = after_among 0 k i x in let y0 = y.0 in omega arith)
        (among_after 0 k (suc (letters_before (suc m) w)) (omega arith) (omega arith))))
        ∙ chain_add m j k (chain_term m k φ β w (suc e)) (chain_term m k φ (raised (suc m) β) w e) w
      where
        same : (j : ℕ) → chain_sum (suc m) j k (chain_term (suc m) k φ β w (suc e)) w ≡ chain_sum m j k (chain_term (suc m) k φ β w (suc e)) w
        same zero = refl
        same (suc j) = let n = lift_none (λ v. chain_sum m j k (chain_term (suc m) k φ β w (suc e)) v) w k (letters_before (suc m) w) h in omega (arith, ints)

    left_end : letters_before (suc m) w < k → by_chains (suc m) k φ β w (suc d) 0 ≡ by_chains m k φ β w (suc d) 0
    left_end h = let n = lift_none (λ v. chain_sum m d k (chain_term (suc m) k φ β w 0) v) w k (letters_before (suc m) w) h in omega (arith, ints)

    -- the letter m + 1 stands after the place k
    unchanged : k ≤ letters_before (suc m) w → (v : List ℕ) → staying (suc m) w v (places k) ≡ staying m w v (places k)
    unchanged h v = staying_same m (letters_before (suc m) w) w v (places k) o top (λ i x. let y = after_among 0 k i x in let y0 = y.0 in let y1 = y.1 in (omega arith, λ z. omega arith))

    right_start : k ≤ letters_before (suc m) w → by_chains (suc m) k φ β w 0 (suc d) ≡ by_chains m k φ β w 0 (suc d)
    right_start h = chain_ends m 0 k (chain_term (suc m) k φ β w (suc d)) (chain_term m k φ β w (suc d)) w o (omega arith) (λ v f. ap (λ letters. elementary_sum (suc d) letters φ β v) (unchanged h v))

    right : k ≤ letters_before (suc m) w → (j e : ℕ) → by_chains (suc m) k φ β w (suc j) e ≡ by_chains m k φ β w (suc j) e +ℤ lift (λ v. by_chains m k φ β v j e) w k (letters_before (suc m) w)
    right h j e =
        ap₂ ◌+ℤ◌
        (chain_ends m (suc j) k (chain_term (suc m) k φ β w e) (chain_term m k φ β w e) w o (omega arith) (λ v f. ap (λ letters. elementary_sum e letters φ β v) (unchanged h v)))
        (lift_at_covers (λ v. chain_sum m j k (chain_term (suc m) k φ β w e) v) (λ v. by_chains m k φ β v j e) w k (letters_before (suc m) w) (λ a i x t.
        let p = inside in
        chain_ends m j k (chain_term (suc m) k φ β w e) (chain_term m k φ β (swap_at a (letters_before (suc m) w) w) e) (swap_at a (letters_before (suc m) w) w)
        (one_line_swap a (letters_before (suc m) w) w (omega arith) p o) (omega (arith, length-swap_at a (letters_before (suc m) w) w)) (λ v f.
        ap (λ letters. elementary_sum e letters φ β v) (unchanged h v ∙ sym (staying_swapped m k a (letters_before (suc m) w) w v o i x p top t f)))))

    by : (letters_before (suc m) w < k) ⊎ (k ≤ letters_before (suc m) w)
        → double_sum m (suc d) k φ β w ≡ split_sum (suc d) (by_chains m k φ β w)
        → double_sum m d k φ (raised (suc m) β) w ≡ split_sum d (by_chains m k φ (raised (suc m) β) w)
        → ((v : List ℕ) → IsOneLine v → length v ≡ length w → double_sum m d k φ β v ≡ split_sum d (by_chains m k φ β v))
        → double_sum (suc m) (suc d) k φ β w ≡ split_sum (suc d) (by_chains (suc m) k φ β w)
    by (inl h) r s t =
        let x = if_less (letters_before (suc m) w) k (double_sum m d k φ (raised (suc m) β) w) (pos 0) h in
        let y = lift_none (λ v. double_sum m d k φ β v) w k (letters_before (suc m) w) h in
        let z = split_ext d (λ j e. by_chains (suc m) k φ β w j (suc e)) (λ j e. by_chains m k φ β w j (suc e) +ℤ by_chains m k φ (raised (suc m) β) w j e) (λ j e q. left h j e) in
        let u = split_add d (λ j e. by_chains m k φ β w j (suc e)) (by_chains m k φ (raised (suc m) β) w) in
        let v = left_end h in
        omega (arith, ints)
    by (inr h) r s t =
        let x = if_not_less (letters_before (suc m) w) k (double_sum m d k φ (raised (suc m) β) w) (pos 0) h in
        let y = lift_at_covers (λ v. double_sum m d k φ β v) (λ v. split_sum d (by_chains m k φ β v)) w k (letters_before (suc m) w) (λ a i j c.
        let p = inside in
        t (swap_at a (letters_before (suc m) w) w) (one_line_swap a (letters_before (suc m) w) w (omega arith) p o) (length-swap_at a (letters_before (suc m) w) w)) in
        let z = lift_split d (λ j e v. by_chains m k φ β v j e) w k (letters_before (suc m) w) in
        let a = split_left d (by_chains (suc m) k φ β w) in
        let c = split_left d (by_chains m k φ β w) in
        let e = right_start h in
        let f = split_ext d (λ j e. by_chains (suc m) k φ β w (suc j) e) (λ j e. by_chains m k φ β w (suc j) e +ℤ lift (λ v. by_chains m k φ β v j e) w k (letters_before (suc m) w)) (λ j e q. right h j e) in
        let n = split_add d (λ j e. by_chains m k φ β w (suc j) e) (λ j e. lift (λ v. by_chains m k φ β v j e) w k (letters_before (suc m) w)) in
        omega (arith, ints)
