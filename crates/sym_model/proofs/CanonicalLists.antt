-- Lists of terms with strictly increasing labels: if each label is less than the next one, then each label is less than
-- all later ones. If `each_term test` is true of a list, then each term of the list passes `test`.
use Rattle.std.proofs.Common.{◌≡◌, Bool, true, [], ◌∷◌, map, refl, sym, ap, ◌∙◌, subst, inl, inr}
use Rattle.std.specs.Ordering.{is_lt}
use Rattle.std.specs.declared.cmp.Ordering.{Ordering}
use Rattle.std.specs.declared.cmp.Ordering.TheVariants.{Less, Equal, Greater}
use Rattle.std.specs.Cmp.{IsTotalOrder}
use Rattle.std.proofs.lemmas.Cmp.{tied_itself}
use Rattle.std.proofs.lemmas.Bool.{and_parts}
use Rattle.sym_model.specs.Sum.{Among, Once}
use Rattle.sym_model.specs.Expansion.{Fraction, Terms}
use Rattle.sym_model.specs.Canonical.{is_ordered, each_term}

pub is_lt-tells : (o : Ordering) → is_lt o ≡ true → o ≡ Less
is_lt-tells Less h = refl
is_lt-tells Equal h = cc
is_lt-tells Greater h = cc

-- the label is less, in the given order, than the label of each term of the list
abbrev pub StandsBefore : {Label : Type 0} → (Label → Label → Ordering) → Label → Terms Label → Type 0
StandsBefore order label [] = Unit {0}
StandsBefore order label (t ∷ terms) = (order label t.0 ≡ Less) × StandsBefore order label terms

-- each label of the list of terms is less, in the given order, than all later labels
abbrev pub IsOrdered : {Label : Type 0} → (Label → Label → Ordering) → Terms Label → Type 0
IsOrdered order [] = Unit {0}
IsOrdered order (t ∷ terms) = StandsBefore order t.0 terms × IsOrdered order terms

-- the order is transitive: if x is less than y and y less than z, then x is less than z
abbrev pub IsTransitive : {Label : Type 0} → (Label → Label → Ordering) → Type 0
IsTransitive {Label} order = (x y z : Label) → order x y ≡ Less → order y z ≡ Less → order x z ≡ Less

pub stands_before-weaker : {Label : Type 0} (order : Label → Label → Ordering) → IsTransitive order → (x y : Label) (terms : Terms Label) → order x y ≡ Less → StandsBefore order y terms → StandsBefore order x terms
stands_before-weaker order trans x y [] h k = tt
stands_before-weaker order trans x y (t ∷ terms) h k =
    (trans x y t.0 h k.0, stands_before-weaker order trans x y terms h k.1)

-- if the order is transitive and each label of the list is less than the next one, then each label is less than all
-- later ones
pub is_ordered-tells : {Label : Type 0} (order : Label → Label → Ordering) → IsTransitive order → (terms : Terms Label) → is_ordered order terms ≡ true → IsOrdered order terms
is_ordered-tells order trans [] h = tt
is_ordered-tells order trans (t ∷ []) h = (tt, tt)
is_ordered-tells order trans (t ∷ u ∷ terms) h =
    let p = and_parts (is_lt (order t.0 u.0)) (is_ordered order (u ∷ terms)) h in
    let e = is_lt-tells (order t.0 u.0) p.0 in
    let rest = is_ordered-tells order trans (u ∷ terms) p.1 in
    ((e, stands_before-weaker order trans t.0 u.0 terms e rest.0), rest)

pub labels-once : {Label : Type 0} (order : Label → Label → Ordering) → IsTotalOrder order → (terms : Terms Label) → IsOrdered order terms → Once (map (λ (t : Label × Fraction). t.0) terms)
labels-once order total [] h = tt
labels-once {Label = Label} order total (t ∷ terms) h =
    (not_again t.0 terms h.0, labels-once order total terms h.1)
  where
    not_again : (label : Label) (rest : Terms Label) → StandsBefore order label rest → Among label (map (λ (u : Label × Fraction). u.0) rest) → ⊥
    not_again label [] k m = m
    not_again label (u ∷ rest) k (inl e) =
        let same_label : order label label ≡ Less = subst (λ x. order label x ≡ Less) (sym e) k.0 in
        let itself = tied_itself total label in cc
    not_again label (u ∷ rest) k (inr m) = not_again label rest k.1 m

pub each_term-among : {Label : Type 0} (test : Label × Fraction → Bool) (terms : Terms Label) → each_term test terms ≡ true → (t : Label × Fraction) → Among t terms → test t ≡ true
each_term-among test [] h t k = absurd k
each_term-among test (u ∷ terms) h t (inl e) = ap test e ∙ (and_parts (test u) (each_term test terms) h).0
each_term-among test (u ∷ terms) h t (inr k) = each_term-among test terms (and_parts (test u) (each_term test terms) h).1 t k
