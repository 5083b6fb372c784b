-- `terms_below` lists exactly the labels with a count that is not 0.
use Rattle.std.proofs.Common.{◌≡◌, ◌⊎◌, inl, inr, ℕ, zero, suc, ◌<◌, ◌≤◌, Bool, cond, List, [], ◌∷◌, ◌++◌, length, refl, sym, ap, subst, arith}
use Rattle.std.proofs.lemmas.Bool.{ne_eqb, cases_lt, eq-eqb}
use Rattle.sym_model.specs.Sum.{Among}
use Rattle.sym_model.specs.Bounded.{AreBelow}
use Rattle.sym_model.proofs.Sums.{Among-append_left, Among-append_right, Among_from_append}
use Rattle.prefix_walk.specs.Terms.{with_entry, from_top, lone_term, terms_below}

-- a listed term has a label of n entries, and its count, which is positive
pub record IsListed (bound n : ℕ) (f : List ℕ → ℕ) (t : List ℕ × ℕ) : Type 0 where
  pub long : length t.0 ≡ n
  pub count : t.1 ≡ f t.0
  pub some : 0 < t.1

-- a term with the entry a in front comes from a term
abbrev IsPut : ℕ → List ℕ × ℕ → List (List ℕ × ℕ) → Type 0
IsPut a x ts = (t : List ℕ × ℕ) × Among t ts × (x ≡ (a ∷ t.0, t.1))

put_back : (a : ℕ) (x : List ℕ × ℕ) (ts : List (List ℕ × ℕ)) → Among x (with_entry a ts) → IsPut a x ts
put_back a x [] h = absurd h
put_back a x (t ∷ ts) (inl e) = (t, inl refl, e)
put_back a x (t ∷ ts) (inr h) = let r = put_back a x ts h in (r.0, inr r.1, r.2)

put_there : (a : ℕ) (t : List ℕ × ℕ) (ts : List (List ℕ × ℕ)) → Among t ts → Among (a ∷ t.0, t.1) (with_entry a ts)
put_there a t [] h = absurd h
put_there a t (s ∷ ts) (inl e) = inl (ap (λ (x : List ℕ × ℕ). (a ∷ x.0, x.1)) e)
put_there a t (s ∷ ts) (inr h) = inr (put_there a t ts h)

-- a term of the joined parts is in one of them
abbrev IsIn : (ℕ → List (List ℕ × ℕ)) → ℕ → List ℕ × ℕ → Type 0
IsIn part n x = (a : ℕ) × (a < n) × Among x (part a)

part_of : (part : ℕ → List (List ℕ × ℕ)) (n : ℕ) (x : List ℕ × ℕ) → Among x (from_top part n) → IsIn part n x
part_of part zero x h = absurd h
part_of part (suc n) x h = more (Among_from_append x (part n) (from_top part n) h) (part_of part n x)
  where
    more : Among x (part n) ⊎ Among x (from_top part n) → (Among x (from_top part n) → IsIn part n x) → IsIn part (suc n) x
    more (inl k) rec = (n, omega arith, k)
    more (inr k) rec = let r = rec k in (r.0, omega arith, r.2)

in_part : (part : ℕ → List (List ℕ × ℕ)) (n a : ℕ) (x : List ℕ × ℕ) → a < n → Among x (part a) → Among x (from_top part n)
in_part part zero a x l h = absurd (omega arith)
in_part part (suc n) a x l h = split (cases_lt a n) (λ k. in_part part n a x k h)
  where
    split : (a < n) ⊎ (n ≤ a) → (a < n → Among x (from_top part n)) → Among x (part n ++ from_top part n)
    split (inl k) rec = Among-append_right x (part n) (from_top part n) (rec k)
    split (inr k) rec = let e : a ≡ n = omega arith in Among-append_left x (part n) (from_top part n) (subst (λ (i : ℕ). Among x (part i)) e h)

pub listed_tells : (bound n : ℕ) (f : List ℕ → ℕ) (t : List ℕ × ℕ) → Among t (terms_below bound n f) → IsListed bound n f t
listed_tells bound zero f t h = split (f []) refl (cases_lt 0 (f [])) h
  where
    some : (c : ℕ) → c ≡ f [] → 0 < c → Among t (([], c) ∷ []) → IsListed bound 0 f t
    some c e l (inl k) = subst (IsListed bound 0 f) (sym k) (record { long = refl; count = e; some = l })
    some c e l (inr k) = absurd k

    split : (c : ℕ) → c ≡ f [] → (0 < c) ⊎ (c ≤ 0) → Among t (lone_term c) → IsListed bound 0 f t
    split c e (inl l) m = some c e l (subst (λ (b : Bool). Among t (cond b [] (([], c) ∷ []))) (ne_eqb c 0 (λ z. omega arith)) m)
    split c e (inr l) m = absurd (subst (λ (b : Bool). Among t (cond b [] (([], c) ∷ []))) (eq-eqb c 0 (omega arith)) m)
listed_tells bound (suc n) f t h =
    let p = part_of (λ a. with_entry a (terms_below bound n (λ label. f (a ∷ label)))) bound t h in
    let q = put_back p.0 t (terms_below bound n (λ label. f (p.0 ∷ label))) p.2 in
    let r = listed_tells bound n (λ label. f (p.0 ∷ label)) q.0 q.1 in
    subst (IsListed bound (suc n) f) (sym q.2) (record { long = ap suc r.long; count = r.count; some = r.some })

pub all_listed : (bound n : ℕ) (f : List ℕ → ℕ) (label : List ℕ) → length label ≡ n → AreBelow bound label → 0 < f label → Among {A = List ℕ × ℕ} (label, f label) (terms_below bound n f)
all_listed bound zero f [] e b p = subst (λ (t : Bool). Among {A = List ℕ × ℕ} ([], f []) (cond t [] (([], f []) ∷ []))) (sym (ne_eqb (f []) 0 (λ z. omega arith))) (inl refl)
all_listed bound zero f (a ∷ label) e b p = absurd (omega arith)
all_listed bound (suc n) f [] e b p = absurd (omega arith)
all_listed bound (suc n) f (a ∷ label) e b p =
    in_part (λ i. with_entry i (terms_below bound n (λ l. f (i ∷ l)))) bound a (a ∷ label, f (a ∷ label)) b.0
    (put_there a (label, f (a ∷ label)) (terms_below bound n (λ l. f (a ∷ l))) (all_listed bound n (λ l. f (a ∷ l)) label (omega arith) b.1 p))
