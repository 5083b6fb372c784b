-- The list `lowest` (each entry lowered by multiples of n as far as the entries stay different), computed from the last entry to the first with a
-- table of the number of entries for each remainder modulo n.
use Rattle.std.proofs.Common.{◌≡◌, ℕ, zero, suc, ◌+◌, ◌-◌, ◌*◌, ◌%◌, ◌<◌, ◌≤◌, List, [], ◌∷◌, length, get_or, set, drop, replicate, refl, sym, ◌∙◌, ap, subst, arith, rules}
use Rattle.std.proofs.lemmas.Bool.{cases_eq}
use Rattle.std.proofs.lemmas.List.{get_or-set_same, get_or-set_other, get_or-replicate, length-set, length-replicate, drop_all, drop_more}
use Rattle.std.proofs.Math.Nat.{mod-lt, mod-mod, mod-eq_of_lt}
use Rattle.beta_list_laws.specs.StrictFall.{FallsStrictly}
use Rattle.beta_list_laws.proofs.BetaLists.{strict_tail}
use Rattle.beta_list_laws.specs.LowestList.{alike, lowest}
use Rattle.beta_list_laws.proofs.Remainders.{alike-here, alike-past, alike-remainder}
use Rattle.beta_list_laws.proofs.Lowest.{lowered_below}
use Rattle.rim_hooks.specs.Counts.{Counts}
use Rattle.rim_hooks.specs.Sorting.{Sorts}
use Rattle.rim_hooks.specs.declared.sorted.Sorted.{Sorted}

pub drop_none : (xs : List ℕ) (i : ℕ) → i ≡ 0 → drop i xs ≡ xs
drop_none [] zero e = refl
drop_none (x ∷ xs) zero e = refl
drop_none xs (suc i) e = absurd (omega arith)

pub drop_strict : (xs : List ℕ) (i : ℕ) → FallsStrictly xs → FallsStrictly (drop i xs)
drop_strict [] zero f = tt
drop_strict [] (suc i) f = tt
drop_strict (x ∷ xs) zero f = f
drop_strict (x ∷ xs) (suc i) f = drop_strict xs i (strict_tail x xs f)

pub no_counts : (n : ℕ) (table : List ℕ) → n ≤ 512 → table ≡ replicate 512 0 → Counts n table []
no_counts n table h e = record {
  room = ap length e ∙ length-replicate {A = ℕ} 512 0;
  counts = λ r l. ap (λ t. get_or t r 0) e ∙ get_or-replicate {A = ℕ} 512 r 0 0 (omega arith);
}

pub count_more : (n : ℕ) (table b : List ℕ) (x at : ℕ) → 1 ≤ n → n ≤ 512 → at ≡ x % n → Counts n table b → Counts n (set table at (get_or table at 0 + 1)) (x ∷ b)
count_more n table b x at h m e c =
    search (rules, length-set, cases_eq, mod-lt, get_or-set_same, alike-here, mod-eq_of_lt, get_or-set_other, alike-past)

pub count_found : (n : ℕ) (table b : List ℕ) (x at : ℕ) → 1 ≤ n → at ≡ x % n → Counts n table b → get_or table at 0 ≡ alike n x b
count_found n table b x at h e c = search (rules, mod-lt, alike-remainder, mod-mod)

-- ---- the loop of `lowest_entries`, which lowers one entry after another

pub record Lowered (n : ℕ) (entries counts : List ℕ) (sorted : Sorted) (at : ℕ) : Type 0 where
  pub sorts : Sorts sorted (lowest n (drop at entries))
  pub counted : Counts n counts (drop at entries)

pub lowered_start : (n : ℕ) (entries counts : List ℕ) (sorted : Sorted) (at : ℕ) → n ≤ 512 → at ≡ length entries → counts ≡ replicate 512 0 → Sorts sorted [] → Lowered n entries counts sorted at
lowered_start n entries counts sorted at h l e s =
    let d : drop at entries ≡ [] = drop_all at entries (omega arith) in
    record {
      sorts = subst (λ b. Sorts sorted (lowest n b)) (sym d) s;
      counted = subst (Counts n counts) (sym d) (no_counts n counts h e);
    }

pub lowered_value : (n : ℕ) (entries counts : List ℕ) (sorted : Sorted) (at place : ℕ) → 1 ≤ n → 0 < at → at ≤ length entries → FallsStrictly entries
    → place ≡ get_or entries (at - 1) 0 % n → Lowered n entries counts sorted at
    → get_or entries (at - 1) 0 % n + get_or counts place 0 * n ≤ get_or entries (at - 1) 0
lowered_value n entries counts sorted at place h p l f e w =
    let x = get_or entries (at - 1) 0 in
    let d = drop_more entries (at - 1) 0 (omega arith) ∙ ap (λ k. get_or entries (at - 1) 0 ∷ drop k entries) (let next : (at - 1) + 1 ≡ at = omega arith in next) in
    let strict = subst FallsStrictly d (drop_strict entries (at - 1) f) in
    let c = ap (λ a. a * n) (count_found n counts (drop at entries) x place h e w.counted) in
    let k = lowered_below n x (drop at entries) strict in
    omega arith

pub lowered_step : (n : ℕ) (entries counts : List ℕ) (old new : Sorted) (at place : ℕ) → 1 ≤ n → n ≤ 512 → 0 < at → at ≤ length entries
    → place ≡ get_or entries (at - 1) 0 % n
    → ((list : List ℕ) → Sorts old list → Sorts new ((get_or entries (at - 1) 0 % n + get_or counts place 0 * n) ∷ list))
    → Lowered n entries counts old at → Lowered n entries (set counts place (get_or counts place 0 + 1)) new (at - 1)
lowered_step n entries counts old new at place h m p l e put w =
    let x = get_or entries (at - 1) 0 in
    let b = drop at entries in
    let d = drop_more entries (at - 1) 0 (omega arith) ∙ ap (λ k. get_or entries (at - 1) 0 ∷ drop k entries) (let next : (at - 1) + 1 ≡ at = omega arith in next) in
    let c = ap (λ a. x % n + a * n) (count_found n counts b x place h e w.counted) in
    record {
      sorts = subst (λ b. Sorts new (lowest n b)) (sym d) (subst (λ v. Sorts new (v ∷ lowest n b)) c (put (lowest n b) w.sorts));
      counted = subst (Counts n (set counts place (get_or counts place 0 + 1))) (sym d) (count_more n counts b x place h m e w.counted);
    }

pub lowered_end : (n : ℕ) (entries counts : List ℕ) (sorted : Sorted) (at : ℕ) → at ≡ 0 → Lowered n entries counts sorted at → Sorts sorted (lowest n entries)
lowered_end n entries counts sorted at e w = subst (λ b. Sorts sorted (lowest n b)) (drop_none entries at e) w.sorts
