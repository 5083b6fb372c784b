-- A label k is inserted into a table with a scalar c, and c is then replaced by another scalar. A table is a list of pairs (label, scalar) with
-- distinct labels and without the scalar 0.
--     inserted_at    the index of the label
--     restored       if the old scalar of k is written back, the table is the old one
--     settled        the table after another scalar is written at k, or k is removed
--     some_of        if P and U, or Q and V, then P and F, or Q and G, provided that U implies F, and V implies G
--     in_place       the table after the scalar of a label in the table is replaced, or the label is removed
use Rattle.std.proofs.Common.{◌≡◌, ◌≢◌, ◌⊎◌, inl, inr, ℕ, suc, ◌+◌, Bool, true, false, cond, not, ◌&&◌, List, [], ◌∷◌, refl, sym, ap, subst, ◌∙◌, arith, pos}
use Rattle.std.specs.Prelude.{Option, Some, None, slice_get}
use Rattle.std.specs.Cmp.{IsEquivalence}
use Rattle.std.specs.List.{position_or_len, IsDistinct}
use Rattle.std.specs.Map.{keys_of, lookup, lookup_key}
use Rattle.std.proofs.lemmas.Bool.{and_from, and_parts}
use Rattle.std.proofs.lemmas.Map.Made.{lookup_key_passes}
use Rattle.indexmap.specs.IndexMap.{insert_entry}
use Rattle.indexmap.specs.Layout.{set_value_at}
use Rattle.fraction_laws.specs.Fractions.{whole, InLowestTerms}
use Rattle.sym_model.specs.Expansion.{Fraction}
use Rattle.sym_model.specs.Canonical.{is_reduced}
use Rattle.linear_combinations.specs.Entries.{coefficient, HasMoreAt, IsTable}
use Rattle.linear_combinations.proofs.LowestTerms.{is_reduced-lowest}
use Rattle.linear_combinations.proofs.Tables.{is_term-found, IsCombination-put, IsCombination-taken, HasMoreAt-found, held_found}

module _ {L R : Type 0} (eq : L → L → Bool) (same : (x y : L) → eq x y ≡ true → x ≡ y) where
  pub inserted_at : (es : List (L × R)) (k : L) (c : R) → slice_get (insert_entry eq es k c) (position_or_len (eq k) (keys_of es)) ≡ Some (k, c)
  inserted_at [] k c = refl
  inserted_at (e ∷ es) k c = by (eq k e.0) refl (inserted_at es k c)
    where
      place : ℕ
      place = position_or_len (eq k) (keys_of es)

      by : (t : Bool) → eq k e.0 ≡ t → slice_get (insert_entry eq es k c) place ≡ Some (k, c)
          → slice_get (cond t ((e.0, c) ∷ es) (e ∷ insert_entry eq es k c)) (cond (not t) (1 + place) 0) ≡ Some (k, c)
      by true p later = ap (λ (l : L). Some (l, c)) (sym (same k e.0 p))
      by false p later =
          let i : 1 + place ≡ suc place = omega arith in
          ap (slice_get (e ∷ insert_entry eq es k c)) i ∙ later

  pub restored : (es : List (L × R)) (k : L) (c had : R) → lookup (eq k) es ≡ Some had → set_value_at (insert_entry eq es k c) (position_or_len (eq k) (keys_of es)) had ≡ es
  restored [] k c had found = cc
  restored (e ∷ es) k c had found = by (eq k e.0) found (restored es k c had)
    where
      place : ℕ
      place = position_or_len (eq k) (keys_of es)

      by : (t : Bool) → cond t (Some e.1) (lookup (eq k) es) ≡ Some had
          → (lookup (eq k) es ≡ Some had → set_value_at (insert_entry eq es k c) place had ≡ es)
          → set_value_at (cond t ((e.0, c) ∷ es) (e ∷ insert_entry eq es k c)) (cond (not t) (1 + place) 0) had ≡ e ∷ es
      by true h later = let was : e.1 ≡ had = cc in ap (λ (x : R). (e.0, x) ∷ es) (sym was)
      by false h later =
          let i : 1 + place ≡ suc place = omega arith in
          ap (λ n. set_value_at (e ∷ insert_entry eq es k c) n had) i ∙ ap (λ xs. e ∷ xs) (later h)

-- let `mid` be the table `old` after k is inserted with the scalar c, and `new` be `mid` after this scalar is replaced by s, or k is removed if s is
-- 0. Then `new` is a table; and if s is the coefficient of k in `old` plus x, then `new` is `old` with x added at k (`Settled`)
module _ {L R : Type 0} {eq : L → L → Bool} (laws : IsEquivalence eq) (same : (x y : L) → eq x y ≡ true → x ≡ y) (is_label : L → Bool)
    (zero : R) (value : R → Fraction) (is_held : R → Type 0) (sum : R → R → R) (zero_is : value zero ≡ whole (pos 0)) (zero_held : is_held zero)
    (same_value : (a b : R) → value a ≡ value b → a ≡ b) (lowest : (a : R) → is_held a → InLowestTerms (value a))
    (old mid new : List (L × R)) (k : L) (c s : R) where
  -- `after` has at k the scalar that `o` holds, or no label k if `o` is `None`, and at all other labels the scalars of `before`
  abbrev pub Finds : List (L × R) → List (L × R) → Option R → Type 0
  Finds before after o = (q : L) → lookup (eq q) after ≡ cond (eq k q) o (lookup (eq q) before)

  twice : (o : Option R) → Finds old mid (Some c) → Finds mid new o → Finds old new o
  twice o first then q = then q ∙ by (eq k q) refl
    where
      by : (b : Bool) → eq k q ≡ b → cond b o (lookup (eq q) mid) ≡ cond b o (lookup (eq q) old)
      by true p = refl
      by false p = first q ∙ ap (λ b. cond b (Some c) (lookup (eq q) old)) p

  abbrev pub Settled : Type 0
  Settled = IsTable eq is_label zero value is_held new × ((x : R) → s ≡ sum (coefficient eq zero old k) x → HasMoreAt eq zero sum old k x new)

  pub settled : IsTable eq is_label zero value is_held old → is_label k ≡ true → is_held s → Finds old mid (Some c) → IsDistinct eq (keys_of new)
      → ((value s ≡ whole (pos 0)) × Finds mid new None) ⊎ ((value s ≢ whole (pos 0)) × Finds mid new (Some s)) → Settled
  settled was label held first distinct (inl (is_zero, then)) =
      let finds = twice None first then in (
        record {
          combination = IsCombination-taken laws same is_label value old new k was.combination distinct finds;
          held = held_found eq zero is_held old new k None was.held zero_held finds;
        },
        λ x total. HasMoreAt-found eq zero sum old new k None x (same_value zero s (zero_is ∙ sym is_zero) ∙ total) finds,
      )
  settled was label held first distinct (inr (other, then)) =
      let finds = twice (Some s) first then in
      let passes : (is_reduced (value s) && is_label k) ≡ true = and_from _ _ (is_reduced-lowest (value s) (lowest s held) other) label in (
        record {
          combination = IsCombination-put laws same is_label value old new k s was.combination passes distinct finds;
          held = held_found eq zero is_held old new k (Some s) was.held held finds;
        },
        λ x total. HasMoreAt-found eq zero sum old new k (Some s) x total finds,
      )

pub some_of : {P Q U V F G : Type 0} → (U → F) → (V → G) → (P × U) ⊎ (Q × V) → (P × F) ⊎ (Q × G)
some_of f g (inl (p, u)) = inl (p, f u)
some_of f g (inr (q, v)) = inr (q, g v)

-- let k be a label in the table `old`, stored there as the equal label `key` with the scalar `had`, and let `new` be `old` after `had` is replaced by
-- s, or the label is removed if s is 0. Then `new` is a table; and if s is `had` plus x, then `new` is `old` with x added at k (`Settled`)
module _ {L R : Type 0} {eq : L → L → Bool} (laws : IsEquivalence eq) (same : (x y : L) → eq x y ≡ true → x ≡ y) (is_label : L → Bool)
    (zero : R) (value : R → Fraction) (is_held : R → Type 0) (sum : R → R → R) (zero_is : value zero ≡ whole (pos 0)) (zero_held : is_held zero)
    (same_value : (a b : R) → value a ≡ value b → a ≡ b) (lowest : (a : R) → is_held a → InLowestTerms (value a))
    (old new : List (L × R)) (k key : L) (had s : R) where
  pub in_place : IsTable eq is_label zero value is_held old → lookup (eq k) old ≡ Some had → lookup_key (eq k) old ≡ Some key → is_held s → IsDistinct eq (keys_of new)
      → ((value s ≡ whole (pos 0)) × ((q : L) → lookup (eq q) new ≡ cond (eq key q) None (lookup (eq q) old)))
      ⊎ ((value s ≢ whole (pos 0)) × ((q : L) → lookup (eq q) new ≡ cond (eq key q) (Some s) (lookup (eq q) old)))
      → Settled laws same is_label zero value is_held sum zero_is zero_held same_value lowest old old new k had s
  in_place was found stored held distinct then =
      settled laws same is_label zero value is_held sum zero_is zero_held same_value lowest old old new k had s was
      (and_parts _ _ (is_term-found laws same is_label value old was.combination.proper k had found)).1 held again distinct
      (some_of (at None) (at (Some s)) then)
    where
      is : k ≡ key
      is = same k key (lookup_key_passes (eq k) old key stored)

      at : (o : Option R) → ((q : L) → lookup (eq q) new ≡ cond (eq key q) o (lookup (eq q) old)) → (q : L) → lookup (eq q) new ≡ cond (eq k q) o (lookup (eq q) old)
      at o h = subst (λ l. (q : L) → lookup (eq q) new ≡ cond (eq l q) o (lookup (eq q) old)) (sym is) h

      again : (q : L) → lookup (eq q) old ≡ cond (eq k q) (Some had) (lookup (eq q) old)
      again q = by (eq k q) refl
        where
          by : (b : Bool) → eq k q ≡ b → lookup (eq q) old ≡ cond b (Some had) (lookup (eq q) old)
          by true p = ap (λ x. lookup (eq x) old) (sym (same k q p)) ∙ found
          by false p = refl
