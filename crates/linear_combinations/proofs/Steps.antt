-- For a loop over the pairs (label, coefficient) of a list with distinct labels: the coefficient of a label in the visited pairs, and the statement
-- that a list is another list plus the visited pairs (`IsSumOf`), before and after the loop visits one more pair.
use Rattle.std.proofs.Common.{◌≡◌, Bool, true, false, cond, List, [], ◌∷◌, ◌++◌, append-nil, pos, refl, sym, ap, ◌∙◌, subst, if◌then◌else◌}
use Rattle.std.specs.Prelude.{Option, Some, None, Result, Ok, Err, IfOk, IsErrAnd, IsErrOf}
use Rattle.std.specs.Cmp.{IsEquivalence}
use Rattle.std.specs.Option.{unwrap_or}
use Rattle.std.specs.List.{IsDistinct}
use Rattle.std.specs.Map.{lookup, keys_of}
use Rattle.std.proofs.lemmas.Map.{lookup-none}
use Rattle.std.proofs.lemmas.Map.Keys.{IsDistinct-tail}
use Rattle.std.proofs.lemmas.Map.Entries.{none_past_head}
use Rattle.fraction_laws.specs.Fractions.{whole, InLowestTerms, fraction_sum}
use Rattle.fraction_laws.proofs.FractionLaws.{sum-zero}
use Rattle.fraction_laws.specs.Answers.{AnswersSum}
use Rattle.sym_model.specs.Expansion.{Fraction}
use Rattle.linear_combinations.specs.Entries.{coefficient, IsCombination, HasMoreAt, IsSumOf, IsRefused}

module _ {L X : Type 0} where
  pub found_past : (test : L → Bool) (xs ys : List (L × X)) → lookup test xs ≡ None → lookup test (xs ++ ys) ≡ lookup test ys
  found_past test [] ys h = refl
  found_past test (x ∷ xs) ys h = by (test x.0) h (found_past test xs ys)
    where
      by : (b : Bool) → cond b (Some x.1) (lookup test xs) ≡ None → (lookup test xs ≡ None → lookup test (xs ++ ys) ≡ lookup test ys) → cond b (Some x.1) (lookup test (xs ++ ys)) ≡ lookup test ys
      by true h rest = cc
      by false h rest = rest h

  pub found_before : (test : L → Bool) (xs : List (L × X)) (e : L × X) → test e.0 ≡ false → lookup test (xs ++ e ∷ []) ≡ lookup test xs
  found_before test [] e h = ap (λ b. cond b (Some e.1) None) h
  found_before test (x ∷ xs) e h = ap (cond (test x.0) (Some x.1)) (found_before test xs e h)

  not_missed : (test : L → Bool) (xs : List (L × X)) (e : L × X) (ys : List (L × X)) → test e.0 ≡ true → lookup test (xs ++ e ∷ ys) ≡ None → ⊥
  not_missed test [] e ys t h = let here : cond true (Some e.1) (lookup test ys) ≡ None = sym (ap (λ b. cond b (Some e.1) (lookup test ys)) t) ∙ h in cc
  not_missed test (x ∷ xs) e ys t h = by (test x.0) h (not_missed test xs e ys t)
    where
      by : (b : Bool) → cond b (Some x.1) (lookup test (xs ++ e ∷ ys)) ≡ None → (lookup test (xs ++ e ∷ ys) ≡ None → ⊥) → ⊥
      by true h rest = cc
      by false h rest = rest h

module _ {L X : Type 0} {eq : L → L → Bool} (laws : IsEquivalence eq) where
  pub absent_before : (done : List (L × X)) (e : L × X) (ys : List (L × X)) → IsDistinct eq (keys_of (done ++ e ∷ ys)) → lookup (eq e.0) done ≡ None
  absent_before [] e ys h = refl
  absent_before (x ∷ done) e ys h = by (eq e.0 x.0) refl (absent_before done e ys (IsDistinct-tail eq x.0 (keys_of (done ++ e ∷ ys)) h))
    where
      by : (b : Bool) → eq e.0 x.0 ≡ b → lookup (eq e.0) done ≡ None → cond b (Some x.1) (lookup (eq e.0) done) ≡ None
      by true p rest =
          absurd (not_missed (eq e.0) done e ys (laws.refl e.0)
          (lookup-none (eq e.0) (done ++ e ∷ ys) (none_past_head laws e.0 x (done ++ e ∷ ys) h p)))
      by false p rest = rest

  pub found_next : (done : List (L × X)) (e : L × X) (ys : List (L × X)) → IsDistinct eq (keys_of (done ++ e ∷ ys)) → lookup (eq e.0) (done ++ e ∷ ys) ≡ Some e.1
  found_next done e ys h =
      found_past (eq e.0) done (e ∷ ys) (absent_before done e ys h) ∙ ap (λ b. cond b (Some e.1) (lookup (eq e.0) ys)) (laws.refl e.0)

module _ {L R : Type 0} {eq : L → L → Bool} (laws : IsEquivalence eq) (same : (x y : L) → eq x y ≡ true → x ≡ y) (zero : R) (sum : R → R → R)
    (done : List (L × R)) (k : L) (v : R) (none : lookup (eq k) done ≡ None) where
  pub coefficient-push : (q : L) → coefficient eq zero (done ++ (k, v) ∷ []) q ≡ (if eq k q then v else coefficient eq zero done q)
  coefficient-push q = by (eq k q) refl
    where
      by : (b : Bool) → eq k q ≡ b → unwrap_or (lookup (eq q) (done ++ (k, v) ∷ [])) zero ≡ (if b then v else coefficient eq zero done q)
      by true p =
          ap (λ x. unwrap_or (lookup (eq x) (done ++ (k, v) ∷ [])) zero) (sym (same k q p))
          ∙ ap (λ o. unwrap_or o zero) (found_past (eq k) done ((k, v) ∷ []) none ∙ ap (λ b. cond b (Some v) None) (laws.refl k))
      by false p = ap (λ o. unwrap_or o zero) (found_before (eq q) done (k, v) (laws.symm q k ∙ p))

  absent-coefficient : coefficient eq zero done k ≡ zero
  absent-coefficient = ap (λ o. unwrap_or o zero) none

  pub sum-before : (first cur : List (L × R)) → sum (coefficient eq zero first k) zero ≡ coefficient eq zero first k → IsSumOf eq zero sum first done cur → coefficient eq zero cur k ≡ coefficient eq zero first k
  sum-before first cur neutral sums = sums k ∙ ap (λ r. sum (coefficient eq zero first k) r) absent-coefficient ∙ neutral

  pub IsSumOf-next : (first cur new : List (L × R)) → sum (coefficient eq zero first k) zero ≡ coefficient eq zero first k → IsSumOf eq zero sum first done cur → HasMoreAt eq zero sum cur k v new → IsSumOf eq zero sum first (done ++ (k, v) ∷ []) new
  IsSumOf-next first cur new neutral sums more q =
      more q ∙ by (eq k q) refl ∙ ap (λ r. sum (coefficient eq zero first q) r) (sym (coefficient-push q))
    where
      by : (b : Bool) → eq k q ≡ b → (if b then sum (coefficient eq zero cur k) v else coefficient eq zero cur q) ≡ sum (coefficient eq zero first q) (if b then v else coefficient eq zero done q)
      by true p = ap (λ r. sum r v) (sum-before first cur neutral sums ∙ ap (coefficient eq zero first) (same k q p))
      by false p = sums q

  pub fits-next : (P : R → R → Type 0) (first : List (L × R)) → ((q : L) → P (coefficient eq zero first q) (coefficient eq zero done q) → ⊥) → (P (coefficient eq zero first k) v → ⊥) → (q : L) → P (coefficient eq zero first q) (coefficient eq zero (done ++ (k, v) ∷ []) q) → ⊥
  fits-next P first before here q h = by (eq k q) refl (subst (P (coefficient eq zero first q)) (coefficient-push q) h)
    where
      by : (b : Bool) → eq k q ≡ b → P (coefficient eq zero first q) (if b then v else coefficient eq zero done q) → ⊥
      by true p h = here (subst (λ x. P (coefficient eq zero first x) v) (sym (same k q p)) h)
      by false p h = before q h

pub sum_zero : {R : Type 0} (value : R → Fraction) (zero : R) (sum : R → R → R) → ((a b : R) → value a ≡ value b → a ≡ b)
    → ((a b : R) → value (sum a b) ≡ fraction_sum (value a) (value b)) → value zero ≡ whole (pos 0)
    → (a : R) → InLowestTerms (value a) → sum a zero ≡ a
sum_zero value zero sum same values none a low =
    same (sum a zero) a (values a zero ∙ ap (fraction_sum (value a)) none ∙ sum-zero (value a) low)

-- if b is 0, the checked addition has a result for a and b
module _ {R : Type 0} {is_held : R → Type 0} {value : R → Fraction} {checked : R → R → Option R} (answers : (a b : R) → is_held a → is_held b → AnswersSum value a b (checked a b)) where
  pub fits-zero_right : (a b : R) → value b ≡ whole (pos 0) → IsRefused is_held checked a b → ⊥
  fits-zero_right a b e r = let h : checked a b ≡ Some a = (answers a b r.left_held r.right_held).zero_right e in let f = r.refused in cc

  pub fits-zero_left : (a b : R) → value a ≡ whole (pos 0) → IsRefused is_held checked a b → ⊥
  fits-zero_left a b e r = let h : checked a b ≡ Some b = (answers a b r.left_held r.right_held).zero_left e in let f = r.refused in cc

pub answered : {R : Type 0} {is_held : R → Type 0} {checked : R → R → Option R} (a b s : R) → checked a b ≡ Some s → IsRefused is_held checked a b → ⊥
answered a b s e r = let none = r.refused in cc

pub error_is : {T E : Type 0} (r : Result T E) (e l : E) → IsErrAnd r (λ y. y ≡ e) → IsErrOf r l → e ≡ l
error_is (Ok x) e l h k = cc
error_is (Err y) e l h k = cc

pub all_done : {A : Type 0} (done rest all entries : List A) → rest ≡ [] → done ++ rest ≡ all → all ≡ entries → done ≡ entries
all_done done rest all entries none so_far is = sym (append-nil done) ∙ ap (λ es. done ++ es) (sym none) ∙ so_far ∙ is

pub IsCombination-empty : {L R : Type 0} (eq : L → L → Bool) (is_label : L → Bool) (value : R → Fraction) → IsCombination eq is_label value []
unfolding IsDistinct
IsCombination-empty eq is_label value = record { distinct = tt; proper = refl }

pub if_answered : {T E : Type 0} {P Q : T → Type 0} (r : Result T E) → IfOk r P → ((x : T) → P x → Q x) → IfOk r Q
if_answered (Ok x) h f = f x h
if_answered (Err e) h f = tt
