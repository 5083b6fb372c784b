-- Knuth classes: chains of Knuth steps can be joined and reversed, and the same letters can be added before and after all words of a chain.
use Rattle.std.proofs.Common.{◌≡◌, ℕ, ◌<◌, ◌≤◌, List, [], ◌∷◌, ◌++◌, ◌∙◌, ap, sym, refl, subst, inl, inr, append_assoc, append-nil, rules}
use Rattle.sym_model.specs.Knuth.{AreKnuthRelated, IsKnuthStep, IsKnuthChain, AreKnuthEquivalent}

infixr 20 ◌⨾◌
pub one_word : (v : List ℕ) → AreKnuthEquivalent v v
one_word v = record { chain = []; steps = refl }

pub one_step : {v w : List ℕ} → IsKnuthStep v w → AreKnuthEquivalent v w
one_step {v} {w} s = record { chain = w ∷ []; steps = (s, refl) }

pub ◌⨾◌ : {u v w : List ℕ} → AreKnuthEquivalent u v → AreKnuthEquivalent v w → AreKnuthEquivalent u w
◌⨾◌ {u} {v} {w} h k = record { chain = h.chain ++ k.chain; steps = both u h.chain h.steps }
  where
    both : (u : List ℕ) (c : List (List ℕ)) → IsKnuthChain u c v → IsKnuthChain u (c ++ k.chain) w
    both u [] e = subst (λ x. IsKnuthChain x k.chain w) (sym e) k.steps
    both u (x ∷ c) s = (s.0, both x c s.1)

pub related_back : (v w : List ℕ) → AreKnuthRelated v w → AreKnuthRelated w v
related_back v w (inl (inl h)) = inl (inr h)
related_back v w (inl (inr h)) = inl (inl h)
related_back v w (inr (inl h)) = inr (inr h)
related_back v w (inr (inr h)) = inr (inl h)

step_back : {v w : List ℕ} → IsKnuthStep v w → IsKnuthStep w v
step_back s = search (rules, related_back)

pub turned : {v w : List ℕ} → AreKnuthEquivalent v w → AreKnuthEquivalent w v
turned {v} {w} h = by v h.chain h.steps
  where
    by : (v : List ℕ) (c : List (List ℕ)) → IsKnuthChain v c w → AreKnuthEquivalent w v
    by v [] e = record { chain = []; steps = sym e }
    by v (x ∷ c) s = by x c s.1 ⨾ one_step (step_back s.0)

step_between : (a b : List ℕ) {v w : List ℕ} → IsKnuthStep v w → IsKnuthStep (a ++ (v ++ b)) (a ++ (w ++ b))
step_between a b s =
    let place = λ (x : List ℕ). ap (λ (y : List ℕ). a ++ y) (append_assoc s.front (x ++ s.back) b ∙ ap (λ (y : List ℕ). s.front ++ y) (append_assoc x s.back b))
    ∙ sym (append_assoc a s.front (x ++ (s.back ++ b))) in
    record {
      front = a ++ s.front;
      three = s.three;
      changed = s.changed;
      back = s.back ++ b;
      related = s.related;
      from = ap (λ (y : List ℕ). a ++ (y ++ b)) s.from ∙ place s.three;
      to = ap (λ (y : List ℕ). a ++ (y ++ b)) s.to ∙ place s.changed;
    }

pub between : (a b : List ℕ) {v w : List ℕ} → AreKnuthEquivalent v w → AreKnuthEquivalent (a ++ (v ++ b)) (a ++ (w ++ b))
between a b {v} {w} h = by v h.chain h.steps
  where
    by : (v : List ℕ) (c : List (List ℕ)) → IsKnuthChain v c w → AreKnuthEquivalent (a ++ (v ++ b)) (a ++ (w ++ b))
    by v [] e = record { chain = []; steps = ap (λ (y : List ℕ). a ++ (y ++ b)) e }
    by v (x ∷ c) s = one_step (step_between a b s.0) ⨾ by x c s.1

pub same_word : {v w : List ℕ} → v ≡ w → AreKnuthEquivalent v w
same_word e = record { chain = []; steps = e }

pub behind : (a : List ℕ) {v w : List ℕ} → AreKnuthEquivalent v w → AreKnuthEquivalent (a ++ v) (a ++ w)
behind a {v} {w} h =
    same_word (sym (ap (λ (y : List ℕ). a ++ y) (append-nil v))) ⨾ between a [] h ⨾ same_word (ap (λ (y : List ℕ). a ++ y) (append-nil w))

pub before : (b : List ℕ) {v w : List ℕ} → AreKnuthEquivalent v w → AreKnuthEquivalent (v ++ b) (w ++ b)
before b h = between [] b h

-- ---- the two Knuth exchanges of three letters, in a word of three letters and at the front of a longer word

pub first_related : (x y z : ℕ) → x < y → y ≤ z → AreKnuthRelated (y ∷ z ∷ x ∷ []) (y ∷ x ∷ z ∷ [])
first_related x y z l m = inl (inl (record { x = x; y = y; z = z; below = l; within = m; before = refl; after = refl }))

pub second_related : (x y z : ℕ) → x ≤ y → y < z → AreKnuthRelated (x ∷ z ∷ y ∷ []) (z ∷ x ∷ y ∷ [])
second_related x y z l m = inr (inl (record { x = x; y = y; z = z; within = l; below = m; before = refl; after = refl }))

related_step : (v w back : List ℕ) → AreKnuthRelated v w → AreKnuthEquivalent (v ++ back) (w ++ back)
related_step v w back r =
    one_step (record { front = []; three = v; changed = w; back = back; related = r; from = refl; to = refl })

pub first : (x y z : ℕ) (back : List ℕ) → x < y → y ≤ z → AreKnuthEquivalent (y ∷ z ∷ x ∷ back) (y ∷ x ∷ z ∷ back)
first x y z back l m = related_step (y ∷ z ∷ x ∷ []) (y ∷ x ∷ z ∷ []) back (first_related x y z l m)

pub second : (x y z : ℕ) (back : List ℕ) → x ≤ y → y < z → AreKnuthEquivalent (x ∷ z ∷ y ∷ back) (z ∷ x ∷ y ∷ back)
second x y z back l m = related_step (x ∷ z ∷ y ∷ []) (z ∷ x ∷ y ∷ []) back (second_related x y z l m)
