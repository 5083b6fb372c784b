-- Lists of records: their sums, and their order.
use Rattle.std.proofs.Common.{◌^◌, append_assoc, eq-eqb, not, take, true, ◌≡◌, ℕ, zero, suc, ◌+◌, ◌*◌, ◌<◌, ◌≤◌, ◌==◌, Bool, cond, List, [], ◌∷◌, ◌++◌, length, get_or, set, refl, sym, ap, ap₂, ◌∙◌, subst, arith}
use Rattle.std.specs.Prelude.{Option, Some, None, MatchOption, slice_get}
use Rattle.std.specs.Option.{option_eq}
use Rattle.std.specs.Map.{keys_of}
use Rattle.std.specs.List.{All}
use Rattle.std.specs.List.Sorted.{IsNonDecreasingBy, IsPermutation}
use Rattle.std.proofs.lemmas.List.Sorted.{All-permutation, sum_by-IsPermutation}
use Rattle.std.proofs.Math.Nat.{add_assoc, add-mul, mul-add}
use Rattle.std.proofs.lemmas.Bool.{ne_eqb}
use Rattle.std.proofs.lemmas.List.Sums.{sum_by-cons, sum_by-append, sum_by-set, sum_by_push, fold_more}
use Rattle.std.proofs.lemmas.List.Elements.{All-nil, All-cons, All-head, All-tail, All-same, All-weaker}
use Rattle.prefix_walk.specs.Steps.{if_entry, sum_at}
use Rattle.prefix_walk.specs.Levels.{at_most_cap, weighed_at, Rise, IsStep, AreRecords, IsLast, IsTaken, top_of}
use Rattle.prefix_walk.proofs.Capped.{cap_sum, cap_times}

-- the count of a record times f of its state, if it has the entry a
abbrev value : {S : Type 0} → ℕ → (S → ℕ) → (ℕ × S) × ℕ → ℕ
value a f r = r.1 * if_entry a f r.0

pub keys-set : {K X : Type 0} → (es : List (K × X)) (i : ℕ) (e : K × X) (v : X) → i < length es → e ≡ get_or es i e → keys_of (set es i (e.0, v)) ≡ keys_of es
keys-set [] i e v h s = absurd (omega arith)
keys-set {K} {X} (x ∷ es) zero e v h s = ap (λ (t : K × X). t.0 ∷ keys_of es) s
keys-set {K} {X} (x ∷ es) (suc i) e v h s = ap (λ (t : List K). x.0 ∷ t) (keys-set es i e v (omega arith) s)

key_at : {K X : Type 0} → (es : List (K × X)) (i : ℕ) (e : K × X) (k : K) → e ≡ get_or es i e → slice_get (keys_of es) i ≡ Some k → e.0 ≡ k
key_at [] i e k s h = absurd (cc)
key_at {K} {X} (x ∷ es) zero e k s h = let here : x.0 ≡ k = cc in ap (λ (t : K × X). t.0) s ∙ here
key_at (x ∷ es) (suc i) e k s h = key_at es i e k s h

-- a count is added to a record
pub joined_at : {S : Type 0} → (a : ℕ) (f : S → ℕ) (es : List ((ℕ × S) × ℕ)) (i : ℕ) (e : (ℕ × S) × ℕ) (v had count : ℕ) (step : ℕ × S) → i < length es → e ≡ get_or es i e
    → had ≡ e.1 → v ≡ at_most_cap (had + count) → slice_get (keys_of es) i ≡ Some step
    → at_most_cap (weighed_at a f (set es i (e.0, v))) ≡ at_most_cap (weighed_at a f es + count * if_entry a f step)
joined_at {S} a f es i e v had count step h s was now key =
    let w = if_entry a f e.0 in
    let put = sum_by-set (value a f) es i (e.0, v) e h in
    let out = sum_by-set (value a f) es i (e.0, 0) e h in
    let there : value a f (get_or es i e) ≡ had * w = ap (value a f) (sym s) ∙ ap (λ (k : ℕ). k * w) (sym was) in
    let rest = weighed_at a f (set es i (e.0, 0)) in
    let none : 0 * w ≡ 0 = omega arith in
    let more = add-mul had count w in
    let one : weighed_at a f (set es i (e.0, v)) ≡ v * w + rest = omega arith in
    let two : (had + count) * w + rest ≡ weighed_at a f es + count * w = omega arith in
    ap at_most_cap one ∙ cap_sum (v * w) ((had + count) * w) rest (cap_times v (had + count) w (omega arith)) ∙ ap at_most_cap two
    ∙ ap (λ (k : ℕ × S). at_most_cap (weighed_at a f es + count * if_entry a f k)) (key_at es i e step s key)

pub weighed_none : {S : Type 0} → (a : ℕ) (f : S → ℕ) (es : List ((ℕ × S) × ℕ)) → All (λ r. r.0.0 ≡ a → ⊥) es → weighed_at a f es ≡ 0
weighed_none a f [] h = refl
weighed_none a f (e ∷ es) h =
    let other = ne_eqb e.0.0 a (All-head (λ r. r.0.0 ≡ a → ⊥) e es h) in
    let here : value a f e ≡ e.1 * 0 = ap (λ (t : Bool). e.1 * cond t (f e.0.1) 0) other in
    let later = weighed_none a f es (All-tail (λ r. r.0.0 ≡ a → ⊥) e es h) in
    let both = sum_by-cons (value a f) e es in
    omega arith

pub weighed_same : {S : Type 0} → (a : ℕ) (f g : S → ℕ) (es : List ((ℕ × S) × ℕ)) → All (λ r. f r.0.1 ≡ g r.0.1) es → weighed_at a f es ≡ weighed_at a g es
weighed_same a f g [] h = refl
weighed_same a f g (e ∷ es) h =
    sum_by-cons (value a f) e es
    ∙ ap₂ (λ (x y : ℕ). e.1 * cond (e.0.0 == a) x 0 + y) (All-head (λ r. f r.0.1 ≡ g r.0.1) e es h) (weighed_same a f g es (All-tail (λ r. f r.0.1 ≡ g r.0.1) e es h))
    ∙ sym (sum_by-cons (value a g) e es)

pub All_front : {X : Type 0} (P : X → Type 0) (xs ys : List X) → All P (xs ++ ys) → All P xs
All_front P [] ys h = All-nil P
All_front P (x ∷ xs) ys h = All-cons P x xs (All-head P x (xs ++ ys) h) (All_front P xs ys (All-tail P x (xs ++ ys) h))

rise_front : {S : Type 0} → (xs ys : List ((ℕ × S) × ℕ)) → Rise (xs ++ ys) → Rise xs
rise_front [] ys h = tt
rise_front (x ∷ xs) ys h = (All_front (λ s. x.0.0 < suc s.0.0) xs ys h.0, rise_front xs ys h.1)

-- no entry is greater than the last one
pub rise_last : {S : Type 0} → (front : List ((ℕ × S) × ℕ)) (last : (ℕ × S) × ℕ) → Rise (front ++ last ∷ []) → All (λ r. r.0.0 < suc last.0.0) (front ++ last ∷ [])
rise_last [] last h = All-cons (λ r. r.0.0 < suc last.0.0) last [] (omega arith) (All-nil (λ r. r.0.0 < suc last.0.0))
rise_last {S} (x ∷ front) last h = All-cons (λ r. r.0.0 < suc last.0.0) x (front ++ last ∷ []) (first front h.0) (rise_last front last h.1)
  where
    first : (xs : List ((ℕ × S) × ℕ)) → All (λ s. x.0.0 < suc s.0.0) (xs ++ last ∷ []) → x.0.0 < suc last.0.0
    first [] g = All-head (λ s. x.0.0 < suc s.0.0) last [] g
    first (y ∷ xs) g = first xs (All-tail (λ s. x.0.0 < suc s.0.0) y (xs ++ last ∷ []) g)

pub greatest_last : {S : Type 0} → (a : ℕ) (es : List ((ℕ × S) × ℕ)) → IsLast a es → Rise es → All (λ r. r.0.0 < a + 1) es
greatest_last {S} a es h rise =
    let all = rise_last h.front h.last (subst Rise h.is rise) in
    subst (λ (l : List ((ℕ × S) × ℕ)). All (λ r. r.0.0 < a + 1) l) (sym h.is)
    (All-weaker (λ r. r.0.0 < suc h.last.0.0) (λ r. r.0.0 < a + 1) (λ r l. omega (arith, h.entry)) (h.front ++ h.last ∷ []) all)

-- what is left when the last record has another entry
pub below_last : {S : Type 0} → (a : ℕ) (es : List ((ℕ × S) × ℕ)) (r : Option ℕ) → MatchOption r (es ≡ []) (λ b. IsLast b es) → (r ≡ Some a → ⊥) → Rise es
    → All (λ r. r.0.0 < a + 1) es → All (λ r. r.0.0 < a) es
below_last a es None h n rise all = All-same (λ r. r.0.0 < a) es [] h (All-nil (λ r. r.0.0 < a))
below_last {S} a es (Some b) h n rise all =
    let greatest = greatest_last b es h rise in
    let last = last_of h.front h.last (subst (λ (l : List ((ℕ × S) × ℕ)). All (λ r. r.0.0 < a + 1) l) h.is all) in
    let mine : b < a + 1 = omega (arith, h.entry) in
    let other : (b ≡ a) → ⊥ = λ e. n (ap Some e) in
    All-weaker (λ r. r.0.0 < b + 1) (λ r. r.0.0 < a) (λ r l. below r.0.0 l mine other) es greatest
  where
    below : (i : ℕ) → i < b + 1 → b < a + 1 → (b ≡ a → ⊥) → i < a
    below i l m o = omega arith

    last_of : (xs : List ((ℕ × S) × ℕ)) (y : (ℕ × S) × ℕ) → All (λ r. r.0.0 < a + 1) (xs ++ y ∷ []) → y.0.0 < a + 1
    last_of [] y g = All-head (λ r. r.0.0 < a + 1) y [] g
    last_of (x ∷ xs) y g = last_of xs y (All-tail (λ r. r.0.0 < a + 1) x (xs ++ y ∷ []) g)

pub rise_from : {S : Type 0} → (es : List ((ℕ × S) × ℕ)) → IsNonDecreasingBy (λ r. r.0.0) es → Rise es
rise_from [] h = tt
rise_from (e ∷ es) h =
    (λ k d l. let p = h 0 (suc k) d (omega arith) (omega arith) in omega arith, rise_from es (λ i j d l m. h (suc i) (suc j) d (omega arith) (omega arith)))

-- the group with the greatest entry is taken
module _ (S : Type 0) (a : ℕ) (old new : List ((ℕ × S) × ℕ)) (taken : IsTaken a old new) where
  pub records_taken : (state : S → Type 0) (end : ℕ) → AreRecords state end old → AreRecords state end new
  records_taken state end h = record {
    steps = All_front (λ r. IsStep state end r.0) new taken.group (subst (λ (l : List ((ℕ × S) × ℕ)). All (λ r. IsStep state end r.0) l) taken.is h.steps);
    rise = rise_front new taken.group (subst Rise taken.is h.rise);
  }

  weighed_split : (b : ℕ) (f : S → ℕ) → weighed_at b f old ≡ weighed_at b f new + weighed_at b f taken.group
  weighed_split b f = ap (λ (l : List ((ℕ × S) × ℕ)). weighed_at b f l) taken.is ∙ sum_by-append (value b f) new taken.group

  pub weighed_others : (b : ℕ) (f : S → ℕ) → (b ≡ a → ⊥) → weighed_at b f old ≡ weighed_at b f new
  weighed_others b f n =
      let none = weighed_none b f taken.group (All-weaker (λ r. r.0.0 ≡ a) (λ r. r.0.0 ≡ b → ⊥) (λ r e k. n (sym k ∙ e)) taken.group taken.entries) in
      let both = weighed_split b f in
      omega arith

  pub weighed_left : All (λ r. r.0.0 < a) new → (b : ℕ) (f : S → ℕ) → a ≤ b → weighed_at b f new ≡ 0
  weighed_left below b f le = weighed_none b f new (All-weaker (λ r. r.0.0 < a) (λ r. r.0.0 ≡ b → ⊥) (λ r l k. absurd (omega arith)) new below)

pub top_below : {S : Type 0} → (a : ℕ) (es : List ((ℕ × S) × ℕ)) → All (λ r. r.0.0 < a) es → top_of es ≤ a
top_below a [] h = omega arith
top_below a (e ∷ es) h = let here = All-head (λ r. r.0.0 < a) e es h in let later = top_below a es (All-tail (λ r. r.0.0 < a) e es h) in omega arith

pub top_last : {S : Type 0} → (front : List ((ℕ × S) × ℕ)) (last : (ℕ × S) × ℕ) → last.0.0 < top_of (front ++ last ∷ [])
top_last [] last = omega arith
top_last (x ∷ front) last = let later = top_last front last in omega arith

-- two readings of one record
pub read_count : {X : Type 0} → (es : List (X × ℕ)) (i : ℕ) (d e : X × ℕ) → i < length es → d ≡ get_or es i d → e ≡ get_or es i e → d.1 ≡ e.1
read_count [] i d e h p q = absurd (omega arith)
read_count {X} (x ∷ es) zero d e h p q = ap (λ (t : X × ℕ). t.1) (p ∙ sym q)
read_count (x ∷ es) (suc i) d e h p q = read_count es i d e (omega arith) p q

-- facts about the steps of records are facts about their keys
to_keys : {K X : Type 0} (P : K → Type 0) (es : List (K × X)) → All (λ r. P r.0) es → All P (keys_of es)
to_keys P [] h = All-nil P
to_keys P (e ∷ es) h = All-cons P e.0 (keys_of es) (All-head (λ r. P r.0) e es h) (to_keys P es (All-tail (λ r. P r.0) e es h))

from_keys : {K X : Type 0} (P : K → Type 0) (es : List (K × X)) → All P (keys_of es) → All (λ r. P r.0) es
from_keys P [] h = All-nil (λ r. P r.0)
from_keys P (e ∷ es) h = All-cons (λ r. P r.0) e es (All-head P e.0 (keys_of es) h) (from_keys P es (All-tail P e.0 (keys_of es) h))

pub steps_kept : {K X : Type 0} (P : K → Type 0) (es new : List (K × X)) → keys_of new ≡ keys_of es → All (λ r. P r.0) es → All (λ r. P r.0) new
steps_kept P es new e h = from_keys P new (All-same P (keys_of new) (keys_of es) e (to_keys P es h))

pub not_last : (r : Option ℕ) (a : ℕ) (b : Bool) → b ≡ not (option_eq (λ x y. x == y) r (Some a)) → b ≡ true → r ≡ Some a → ⊥
not_last None a b e t h = absurd (cc)
not_last (Some x) a b e t h =
    let k : x ≡ a = cc in
    let m : b ≡ not true = e ∙ ap not (eq-eqb x a k) in
    absurd (cc)

-- the sums with one more step of a list
pub steps_more : {S : Type 0} → (a : ℕ) (f : S → ℕ) (steps : List (ℕ × S)) (i : ℕ) (d : ℕ × S) (now mid start count : ℕ) → i < length steps → d ≡ get_or steps i d
    → at_most_cap now ≡ at_most_cap (mid + count * if_entry a f d) → at_most_cap mid ≡ at_most_cap (start + count * sum_at a f (take i steps))
    → at_most_cap now ≡ at_most_cap (start + count * sum_at a f (take (i + 1) steps))
steps_more {S} a f steps i d now mid start count l s h g =
    let more : sum_at a f (take (i + 1) steps) ≡ sum_at a f (take i steps) + if_entry a f d =
    fold_more (λ (x : ℕ) (y : ℕ × S). x + if_entry a f y) 0 steps i d l ∙ ap (λ (y : ℕ × S). sum_at a f (take i steps) + if_entry a f y) (sym s) in
    let both = mul-add count (sum_at a f (take i steps)) (if_entry a f d) in
    let whole : start + count * sum_at a f (take i steps) + count * if_entry a f d ≡ start + count * sum_at a f (take (i + 1) steps) =
    add_assoc start _ _ ∙ ap (λ (x : ℕ). start + x) (sym both ∙ ap (λ (x : ℕ). count * x) (sym more)) in
    h ∙ cap_sum mid (start + count * sum_at a f (take i steps)) (count * if_entry a f d) g ∙ ap at_most_cap whole

-- the last record is taken
pub taken_more : {S : Type 0} → (a : ℕ) (old now new : List ((ℕ × S) × ℕ)) (r : (ℕ × S) × ℕ) → IsTaken a old now → now ≡ new ++ r ∷ [] → r.0.0 ≡ a → IsTaken a old new
taken_more {S} a old now new r taken e k = record {
  group = r ∷ taken.group;
  is = taken.is ∙ ap (λ (l : List ((ℕ × S) × ℕ)). l ++ taken.group) e ∙ append_assoc new (r ∷ []) taken.group;
  entries = All-cons (λ s. s.0.0 ≡ a) r taken.group k taken.entries;
}

pub weighed_last : {S : Type 0} → (a : ℕ) (f : S → ℕ) (now new : List ((ℕ × S) × ℕ)) (r : (ℕ × S) × ℕ) → now ≡ new ++ r ∷ [] → r.0.0 ≡ a
    → weighed_at a f now ≡ weighed_at a f new + r.1 * f r.0.1
weighed_last {S} a f now new r e k =
    ap (λ (l : List ((ℕ × S) × ℕ)). weighed_at a f l) e ∙ sum_by_push (value a f) new r
    ∙ ap (λ (t : Bool). weighed_at a f new + r.1 * cond t (f r.0.1) 0) (eq-eqb r.0.0 a k)

pub total_more : (now mid w cur new start : ℕ) → at_most_cap now ≡ at_most_cap (mid + w) → cur ≡ new + w → at_most_cap (mid + cur) ≡ start → at_most_cap (now + new) ≡ start
total_more now mid w cur new start h e g =
    let k : mid + w + new ≡ mid + cur = omega arith in
    cap_sum now (mid + w) new h ∙ ap at_most_cap k ∙ g

pub All_last : {X : Type 0} (P : X → Type 0) (xs ys : List X) (x : X) → ys ≡ xs ++ x ∷ [] → All P ys → P x
All_last {X} P xs ys x e h = ends xs (subst (λ (l : List X). All P l) e h)
  where
    ends : (l : List X) → All P (l ++ x ∷ []) → P x
    ends [] g = All-head P x [] g
    ends (y ∷ l) g = ends l (All-tail P y (l ++ x ∷ []) g)

-- the end of the group is reached
pub taken_below : {S : Type 0} → (a : ℕ) (old now new : List ((ℕ × S) × ℕ)) → IsTaken a old now → new ≡ now
    → (Rise now → All (λ r. r.0.0 < a + 1) now → All (λ r. r.0.0 < a) now) → Rise old → All (λ r. r.0.0 < a + 1) old → All (λ r. r.0.0 < a) new
taken_below {S} a old now new taken e below rise all =
    All-same (λ r. r.0.0 < a) new now e
    (below (rise_front now taken.group (subst Rise taken.is rise))
    (All_front (λ r. r.0.0 < a + 1) now taken.group (subst (λ (l : List ((ℕ × S) × ℕ)). All (λ r. r.0.0 < a + 1) l) taken.is all)))

pub none_left : {S : Type 0} → (a : ℕ) (f : S → ℕ) (now new : List ((ℕ × S) × ℕ)) → new ≡ now → All (λ r. r.0.0 < a) new → weighed_at a f now ≡ 0
none_left {S} a f now new e below =
    ap (λ (l : List ((ℕ × S) × ℕ)). weighed_at a f l) (sym e) ∙ weighed_none a f new (All-weaker (λ r. r.0.0 < a) (λ r. r.0.0 ≡ a → ⊥) (λ r l k. absurd (omega arith)) new below)

pub total_end : (total w start : ℕ) → total ≤ 2 ^ 127 → w ≡ 0 → at_most_cap (total + w) ≡ at_most_cap start → total ≡ at_most_cap start
total_end total w start l z h = omega arith

pub sum_end : (now w start : ℕ) → w ≡ 0 → at_most_cap (now + w) ≡ start → at_most_cap now ≡ start
sum_end now w start z h = let k : now ≡ now + w = omega arith in ap at_most_cap k ∙ h

pub last_within : {S : Type 0} → (state : S → Type 0) (end a : ℕ) (es : List ((ℕ × S) × ℕ)) → AreRecords state end es → IsLast a es → a < end
last_within state end a es h last =
    let within = (All_last (λ r. IsStep state end r.0) last.front es last.last last.is h.steps).1 in
    omega (arith, last.entry, within)

pub top_taken : {S : Type 0} → (a : ℕ) (old new : List ((ℕ × S) × ℕ)) → IsLast a old → All (λ r. r.0.0 < a) new → top_of new < top_of old
top_taken {S} a old new last below =
    let low = top_below a new below in
    let high = top_last last.front last.last in
    let same = ap (λ (l : List ((ℕ × S) × ℕ)). top_of l) last.is in
    omega (arith, last.entry, low, high, same)

pub top_within : {S : Type 0} → (state : S → Type 0) (end : ℕ) (es : List ((ℕ × S) × ℕ)) → AreRecords state end es → top_of es ≤ end
top_within state end es h = top_below end es (All-weaker (λ r. IsStep state end r.0) (λ r. r.0.0 < end) (λ r s. s.1) es h.steps)

pub records_sorted : {S : Type 0} → (state : S → Type 0) (end : ℕ) (es new : List ((ℕ × S) × ℕ)) → All (λ r. IsStep state end r.0) es → IsPermutation es new → Rise new → AreRecords state end new
records_sorted state end es new h moved rise = record {
  steps = All-permutation (λ r. IsStep state end r.0) es new moved h;
  rise = rise;
}

pub weighed_sorted : {S : Type 0} → (a : ℕ) (f : S → ℕ) (es new : List ((ℕ × S) × ℕ)) → IsPermutation es new → weighed_at a f new ≡ weighed_at a f es
weighed_sorted a f es new moved = sum_by-IsPermutation (value a f) es new moved

pub steps_both : {S : Type 0} → (state : S → Type 0) (end : ℕ) (steps : List (ℕ × S)) → All (λ s. state s.1) steps → All (λ s. s.0 < end) steps → All (IsStep state end) steps
steps_both state end steps p q = λ k d l. (p k d l, q k d l)

pub first_sum : {S : Type 0} → (a : ℕ) (f : S → ℕ) (es : List ((ℕ × S) × ℕ)) (w : ℕ) → es ≡ [] → weighed_at a f es + 1 * w ≡ w
first_sum {S} a f es w e = ap (λ (l : List ((ℕ × S) × ℕ)). weighed_at a f l + 1 * w) e ∙ once w
  where
    once : (x : ℕ) → 0 + 1 * x ≡ x
    once x = omega arith
