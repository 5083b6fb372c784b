-- The store of Schubert polynomials: it keeps its invariant (`IsSchubertStore`) when an entry is moved, inserted or dropped.
use Rattle.std.proofs.Common.{Bor, ◌≡◌, ◌+◌, ◌-◌, ◌<◌, ◌≤◌, ◌⊎◌, ℕ, zero, suc, Bool, true, false, cond, List, [], ◌∷◌, length, take, Option, Some, None, inl, inr, refl, sym, ap, ◌∙◌, subst, arith, option_map, pos}
use Rattle.std.specs.Prelude.{Contains, nat_eq, IfSome, option_copied, Result, Ok, Err, OnOk, OnErr}
use Rattle.std.specs.Cmp.Lexicographic.{pointwise}
use Rattle.std.specs.Map.{lookup, lookup_entry, remove_entry}
use Rattle.std.specs.Option.{option_map_or}
use Rattle.std.proofs.lemmas.Cmp.{nat_list_eq_equiv}
use Rattle.lru.specs.LruCache.{LruCache, lru_cache, promoted, put_entries}
use Rattle.lru.proofs.CallerLemmas.{Contains-lookup, Contains-promoted, Contains-put_entries, IsPut}
use Rattle.lru.proofs.Pairs.{lookup-lookup_entry}
use Rattle.fraction_laws.specs.Fractions.{whole}
use Rattle.linear_combinations.specs.Entries.{HasSameCoefficients}
use Rattle.linear_combinations.proofs.Labels.{same_partition}
use Rattle.linear_combinations.proofs.Totals.{carried, length_same}
use Rattle.transition_walk.proofs.Answering.{represents_same}
use Rattle.sym_model.specs.DividedDifference.{x_to_in}
use Rattle.sym_model.specs.WholeTerms.{WholeTerms}
use Rattle.sym_model.specs.Schubert.{schubert_in}
use Rattle.schubert_transition.specs.Kept.{AreKept, IsSchubertStore, Store, kept_for, ComesFirst}
use Rattle.schubert_transition.specs.TermLists.{IsSchubertOf, IsMonomialTable}

-- whether a list is the permutation w
abbrev is : List ℕ → List ℕ → Bool
is w = pointwise nat_eq w

removed_length : {K V : Type 0} (test : K → Bool) (es : List (K × V)) (e : K × V) → lookup_entry test es ≡ Some e → length (remove_entry test es) + 1 ≡ length es
removed_length test [] e h = cc
removed_length {K} {V} test (f ∷ es) e h = by (test f.0) h (removed_length test es e)
  where
    by : (b : Bool) → cond b (Some f) (lookup_entry test es) ≡ Some e → (lookup_entry test es ≡ Some e → length (remove_entry test es) + 1 ≡ length es)
        → length (cond b es (f ∷ remove_entry test es)) + 1 ≡ suc (length es)
    by true h rest = omega arith
    by false h rest = let r = rest h in omega arith

promoted_length : {K V : Type 0} (test : K → Bool) (es : List (K × V)) → length (promoted test es) ≤ length es
promoted_length {K} {V} test es = by (lookup_entry test es) refl
  where
    by : (o : Option (K × V)) → lookup_entry test es ≡ o → length (option_map_or (λ e. e ∷ remove_entry test es) o es) ≤ length es
    by None h = omega arith
    by (Some e) h = let r = removed_length test es e h in omega arith

few_taken : {X : Type 0} (n : ℕ) (xs : List X) → length (take n xs) ≤ n
few_taken zero xs = omega arith
few_taken (suc n) [] = omega arith
few_taken (suc n) (x ∷ xs) = let r = few_taken n xs in omega arith

put_length : {K V : Type 0} (eq : K → K → Bool) (c : LruCache K V) (k : K) (v : V) → length c.entries ≤ c.cap → 0 < c.cap → length (put_entries eq c k v) ≤ c.cap
put_length {K} {V} eq c k v few room = by (lookup_entry (eq k) c.entries) refl
  where
    by : (o : Option (K × V)) → lookup_entry (eq k) c.entries ≡ o → length (option_map_or (λ e. (e.0, v) ∷ remove_entry (eq k) c.entries) o ((k, v) ∷ take (c.cap - 1) c.entries)) ≤ c.cap
    by None h = let t = few_taken (c.cap - 1) c.entries in omega arith
    by (Some e) h = let r = removed_length (eq k) c.entries e h in omega arith

pub promoted_store : (w : List ℕ) (store : Store) → IsSchubertStore store → IsSchubertStore (lru_cache (promoted (is w) store.entries) store.cap)
promoted_store w store held = record {
  kept = record { each = λ e h. held.kept.each e (Contains-promoted (is w) store.entries e h) };
  few = let a = promoted_length (is w) store.entries in let b = held.few in omega arith;
  room = held.room;
}

-- if the store of Schubert polynomials has the entry `terms` for w, then `terms` is S_w
pub found : (w : List ℕ) (entries : List (List ℕ × WholeTerms)) (terms : WholeTerms) → AreKept entries
    → lookup (is w) entries ≡ Some terms → IsSchubertOf w terms
found w entries terms kept at =
    let c = Contains-lookup (is w) entries terms at in
    subst (λ v. IsSchubertOf v terms) (sym (same_partition w c.0 c.2)) (kept.each (c.0, terms) c.1).0

pub copied : (w : List ℕ) (terms copy : WholeTerms) → IsMonomialTable copy → HasSameCoefficients (pointwise nat_eq) (pos 0) terms copy → IsSchubertOf w terms → IsSchubertOf w copy
copied w terms copy second same h = record {
  represents = λ n. represents_same nat_list_eq_equiv same_partition terms copy h.table second same (λ exponents. x_to_in exponents n) (schubert_in w n) (h.represents n);
  terms_of = λ t m. h.terms_of t (carried nat_list_eq_equiv same_partition (pos 0) whole refl copy terms second t m (sym (same t.0)));
  table = second;
  fits = h.fits;
}

pub as_long : (terms copy : WholeTerms) → IsMonomialTable terms → IsMonomialTable copy → HasSameCoefficients (pointwise nat_eq) (pos 0) terms copy → length copy ≤ length terms
as_long terms copy first second same = length_same nat_list_eq_equiv same_partition (pos 0) whole refl copy terms second first (λ label. sym (same label))

-- if each entry of a store is the Schubert polynomial of its permutation and has at most 4,096 terms, this is still true after S_w, with at most
-- 4,096 terms, is inserted for w
pub put_kept : (c : LruCache (List ℕ) WholeTerms) (w : List ℕ) (terms : WholeTerms) → AreKept c.entries → IsSchubertOf w terms
    → length terms ≤ 4096 → AreKept (put_entries (pointwise nat_eq) c w terms)
put_kept c w terms kept h few = record { each = λ e at. by e (Contains-put_entries (pointwise nat_eq) c w terms e at) }
  where
    by : (e : List ℕ × WholeTerms) → Contains c.entries e ⊎ IsPut (pointwise nat_eq) c w terms e → IsSchubertOf e.0 e.1 × (length e.1 ≤ 4096)
    by e (inl was) = kept.each e was
    by e (inr (same, inl key)) = (subst (λ t. IsSchubertOf e.0 t) (sym same) (subst (λ v. IsSchubertOf v terms) (sym key) h), subst (λ (t : WholeTerms). length t ≤ 4096) (sym same) few)
    by e (inr (same, inr was)) =
        (subst (λ t. IsSchubertOf e.0 t) (sym same) (subst (λ v. IsSchubertOf v terms) (same_partition w e.0 was.2) h), subst (λ (t : WholeTerms). length t ≤ 4096) (sym same) few)

pub found_if : (w : List ℕ) (entries : List (List ℕ × WholeTerms)) (o : Option (Bor WholeTerms)) → AreKept entries
    → option_copied o ≡ lookup (is w) entries → IfSome o (λ terms. IsSchubertOf w terms.now)
found_if w entries None kept at = tt
found_if w entries (Some terms) kept at = found w entries terms.now kept (sym at)

pub put_if : {T E : Type 0} (c new : Store) (w : List ℕ) (terms : WholeTerms) (result : Result T E)
    → IsSchubertStore c → IsSchubertOf w terms → length terms ≤ 4096
    → OnOk result (new ≡ lru_cache (put_entries (pointwise nat_eq) c w terms) c.cap) → OnErr result (new ≡ c) → IsSchubertStore new
put_if c new w terms (Ok x) held h few well ill =
    subst IsSchubertStore (sym well)
    (record { kept = put_kept c w terms held.kept h few; few = put_length (pointwise nat_eq) c w terms held.few held.room; room = held.room })
put_if c new w terms (Err e) held h few well ill = subst IsSchubertStore (sym ill) held

-- let the old store have no entry for w. If the new store is the old one, or the old one with a polynomial inserted for w, then the new store is the
-- old one or has w at the front (`ComesFirst`)
pub comes_first : (w : List ℕ) (old new : Store) → kept_for w old ≡ None
    → (new ≡ old) ⊎ ((polynomial : WholeTerms) × (new ≡ lru_cache (put_entries (pointwise nat_eq) old w polynomial) old.cap)) → (new ≡ old) ⊎ ComesFirst w old new
comes_first w old new none (inl same) = inl same
comes_first w old new none (inr (terms, put)) =
    inr (record {
      absent = none;
      polynomial = terms;
      entries =
          put ∙ ap (λ (o : Option (List ℕ × WholeTerms)). lru_cache (option_map_or (λ e. (e.0, terms) ∷ remove_entry (is w) old.entries) o ((w, terms) ∷ take (old.cap - 1) old.entries)) old.cap) no_entry;
    })
  where
    no_value : (o : Option (List ℕ × WholeTerms)) → option_map (λ e. e.1) o ≡ None → o ≡ None
    no_value None h = refl
    no_value (Some e) h = cc

    no_entry : lookup_entry (is w) old.entries ≡ None
    no_entry = no_value (lookup_entry (is w) old.entries) (lookup-lookup_entry (is w) old.entries ∙ none)
