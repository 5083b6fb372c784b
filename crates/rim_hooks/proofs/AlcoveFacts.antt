-- The reduction of a partition into the alcove, as reflections.rt computes it: each entry of its beta list is moved by a multiple of a number n into
-- a window of n consecutive numbers.
use Rattle.std.proofs.lemmas.Grind.{common_steps}
use Rattle.std.proofs.Common.{◌≡◌, ℕ, zero, suc, ◌+◌, ◌-◌, ◌*◌, ◌/◌, ◌%◌, ◌<◌, ◌≤◌, ◌||◌, inl, inr, Bool, true, false, List, [], ◌∷◌, map, length, get_or, set, drop, replicate, refl, sym, ◌∙◌, ap, ap₂, subst, arith, ℤ, Option, Some, None, Fits, w16, rules}
use Rattle.std.proofs.lemmas.Bool.{cases_lt}
use Rattle.std.proofs.lemmas.List.{length-map, drop_all, drop_more}
use Rattle.std.proofs.Math.Nat.{div-add-mod, mul-le-mul_left, mul-le-mul_right, mod-lt, mod-mod, mod-add-div', add-mul-mod_self_right, mul-add}
use Rattle.std.proofs.Math.Bool.{or-true}
use Rattle.sym_model.specs.Partition.{size, rows}
use Rattle.sym_model.specs.Alternant.{staircase}
use Rattle.sym_model.specs.Bases.{has}
use Rattle.sym_model.specs.BetaList.{beta, from_beta, has_equal_entries, sorted_falling, sorting_sign}
use Rattle.sym_model.specs.AlcoveReduction.{reflected_into_alcove, as_partition, alcove_reduction}
use Rattle.partitions.specs.Limits.{IsWithinLimits}
use Rattle.beta_list_laws.specs.StrictFall.{FallsStrictly}
use Rattle.beta_list_laws.proofs.BetaLists.{length-beta, beta_strict, size-beta, size-from_beta, from_beta_partition, rows-from_beta, beta-from_beta}
use Rattle.beta_list_laws.proofs.NeighbourExchanges.{length-sorted}
use Rattle.beta_list_laws.specs.LowestList.{alike}
use Rattle.beta_list_laws.specs.AlcoveEnd.{remainders, up, match_in, IsAlcoveEnd}
use Rattle.beta_list_laws.proofs.Remainders.{alike-remainder}
use Rattle.beta_list_laws.proofs.Windows.{alcove_only, up_is, size-multiple, size-next, size_above, size_remainders, has_alike, lacks_alike, alike_once}
use Rattle.beta_list_laws.proofs.AlcoveEnds.{alcove_none, alcove_found, end_found, alcove_sign}
use Rattle.rim_hooks.specs.AlcoveOf.{IsAlcoveOf}
use Rattle.rim_hooks.specs.Sorting.{Sorts}
use Rattle.rim_hooks.specs.Turns.{AreTurned}
use Rattle.rim_hooks.specs.Signs.{sign_of}
use Rattle.rim_hooks.specs.declared.sorted.Sorted.{Sorted}
use Rattle.rim_hooks.proofs.LowestEntries.{drop_none, no_counts, count_more, count_found}

-- ---- the loop that counts the remainders of the entries modulo n

pub turned_start : (n : ℕ) (entries counts : List ℕ) (at : ℕ) → n ≤ 512 → at ≡ length entries → counts ≡ replicate 512 0 → AreTurned n counts (drop at entries) 0
turned_start n entries counts at h l e =
    let d : drop at entries ≡ [] = drop_all at entries (omega arith) in
    subst (λ b. AreTurned n counts b 0) (sym d) (record { differ = refl; counted = no_counts n counts h e; sum = omega arith; bound = omega arith })

turned_more : (n : ℕ) (b counts : List ℕ) (x place turns : ℕ) → 1 ≤ n → n ≤ 512 → x < 65536 → place ≡ x % n → get_or counts place 0 ≡ 0 → AreTurned n counts b turns
    → AreTurned n (set counts place (get_or counts place 0 + 1)) (x ∷ b) (turns + x / n)
turned_more n b counts x place turns h m f e z w =
    let c = count_found n counts b x place h e w.counted in
    let lacks : has (x % n) (remainders n b) ≡ false = lacks_alike n x b (omega arith) in
    let q = mod-add-div' x n in
    let u : x / n ≤ x / n * n = small (x / n) in
    let t = w.bound in
    record {
      differ = ap₂ ◌||◌ lacks w.differ;
      counted = count_more n counts b x place h m e w.counted;
      sum = size_remainders n x turns b w.sum;
      bound = omega arith;
    }
  where
    small : (a : ℕ) → a ≤ a * n
    small a = let l = mul-le-mul_left a h in omega arith

pub turned_step : (n : ℕ) (entries counts : List ℕ) (at place turns : ℕ) → 1 ≤ n → n ≤ 512 → 0 < at → at ≤ length entries → get_or entries (at - 1) 0 < 65536
    → place ≡ get_or entries (at - 1) 0 % n → get_or counts place 0 ≡ 0 → AreTurned n counts (drop at entries) turns
    → AreTurned n (set counts place (get_or counts place 0 + 1)) (drop (at - 1) entries) (turns + get_or entries (at - 1) 0 / n)
turned_step n entries counts at place turns h m p l f e z w =
    let d = drop_more entries (at - 1) 0 (omega arith) ∙ ap (λ k. get_or entries (at - 1) 0 ∷ drop k entries) (let next : (at - 1) + 1 ≡ at = omega arith in next) in
    subst (λ b. AreTurned n (set counts place (get_or counts place 0 + 1)) b (turns + get_or entries (at - 1) 0 / n)) (sym d)
    (turned_more n (drop at entries) counts (get_or entries (at - 1) 0) place turns h m f e z w)

equal_before : (n : ℕ) (xs : List ℕ) (i : ℕ) → has_equal_entries (remainders n (drop i xs)) ≡ true → has_equal_entries (remainders n xs) ≡ true
equal_before n [] zero e = e
equal_before n [] (suc i) e = e
equal_before n (x ∷ xs) zero e = e
equal_before n (x ∷ xs) (suc i) e =
    ap (λ t. has (x % n) (remainders n xs) || t) (equal_before n xs i e) ∙ or-true (has (x % n) (remainders n xs))

pub turned_equal : (n : ℕ) (entries counts : List ℕ) (at place turns : ℕ) → 1 ≤ n → 0 < at → at ≤ length entries
    → place ≡ get_or entries (at - 1) 0 % n → 0 < get_or counts place 0 → AreTurned n counts (drop at entries) turns → has_equal_entries (remainders n entries) ≡ true
turned_equal n entries counts at place turns h p l e z w =
    let x = get_or entries (at - 1) 0 in
    let d = drop_more entries (at - 1) 0 (omega arith) ∙ ap (λ k. get_or entries (at - 1) 0 ∷ drop k entries) (let next : (at - 1) + 1 ≡ at = omega arith in next) in
    let c = count_found n counts (drop at entries) x place h e w.counted in
    let here = has_alike n x (drop at entries) (omega arith) in
    equal_before n entries (at - 1)
    (ap (λ b. has_equal_entries (remainders n b)) d ∙ ap (λ t. t || has_equal_entries (remainders n (drop at entries))) here)

pub turned_end : (n : ℕ) (entries counts : List ℕ) (at turns : ℕ) → at ≡ 0 → AreTurned n counts (drop at entries) turns → AreTurned n counts entries turns
turned_end n entries counts at turns e w = subst (λ b. AreTurned n counts b turns) (drop_none entries at e) w

pub turned_bound : (n : ℕ) (entries counts : List ℕ) (at turns x : ℕ) → length entries ≤ 512 → x < 65536 → AreTurned n counts (drop at entries) turns → turns + x / n ≤ 65536 * 513
turned_bound n entries counts at turns x l f w = grind (arith, common_steps)

-- ---- the window of n numbers into which the entries can be moved by multiples of n without changing their sum

pub record Window (n : ℕ) (entries : List ℕ) (start left : ℕ) : Type 0 where
  pub sum : size (map (up n start) entries) + n * left ≡ size entries

pub window_init : (n : ℕ) (entries counts : List ℕ) (turns : ℕ) → 1 ≤ n → 1 ≤ length entries → AreTurned n counts entries turns
    → Window n entries (n * (turns / length entries)) (turns % length entries)
window_init n entries counts turns h l w =
    let k = length entries in
    let q = turns / k in
    let e = div-add-mod turns k in
    let m : n * (k * q + turns % k) ≡ n * turns = ap (λ v. n * v) e in
    let s = size-multiple n q entries h in
    let t = w.sum in
    record { sum = omega arith }

pub window_count : (n : ℕ) (entries counts : List ℕ) (turns start : ℕ) → 1 ≤ n → AreTurned n counts entries turns → get_or counts (start % n) 0 ≡ alike n start entries
window_count n entries counts turns start h w = search (rules, mod-lt, alike-remainder, mod-mod)

pub window_once : (n : ℕ) (entries counts : List ℕ) (turns start : ℕ) → 1 ≤ n → AreTurned n counts entries turns → get_or counts (start % n) 0 ≤ 1
window_once n entries counts turns start h w = search (rules, window_count, alike_once)

split_left : (n left count : ℕ) → count ≤ left → n * left ≡ n * (left - count) + n * count
split_left n left count h = let e : left ≡ left - count + count = omega arith in ap (λ m. n * m) e ∙ mul-add n (left - count) count

pub window_step : (n : ℕ) (entries counts : List ℕ) (turns start left : ℕ) → 1 ≤ n → 0 < left → AreTurned n counts entries turns → Window n entries start left
    → Window n entries (start + 1) (left - get_or counts (start % n) 0)
window_step n entries counts turns start left h p w v =
    let c = window_count n entries counts turns start h w in
    let o = window_once n entries counts turns start h w in
    let s = size-next n start entries h in
    let one : start + 1 ≡ suc start = omega arith in
    let m = ap (λ t. size (map (up n t) entries)) one in
    let a = split_left n left (get_or counts (start % n) 0) (omega arith) in
    let d = ap (λ t. n * t) c in
    let t = v.sum in
    record { sum = omega arith }

pub window_low : (n : ℕ) (entries : List ℕ) (start left : ℕ) → 1 ≤ n → 1 ≤ length entries → Window n entries start left → start ≤ size entries
window_low n entries start left h l v =
    let a = size_above n start entries h in
    let m = mul-le-mul_left start l in
    let t = v.sum in
    omega arith

pub size_fits : (b : List ℕ) → ((i : ℕ) → Fits w16 (get_or b i 0)) → size b ≤ 65535 * length b
size_fits [] f = omega arith
size_fits (x ∷ b) f = let h = f 0 in let r = size_fits b (λ i. f (suc i)) in omega arith

pub raised_low : (n start entry : ℕ) → 1 ≤ n → start - start % n + entry % n < start → up n start entry ≡ start - start % n + entry % n + n
raised_low n start entry h l =
    let a = mod-add-div' start n in
    let b = mod-lt start h in
    let c = mod-lt entry h in
    let e : start - start % n + entry % n + n ≡ entry % n + (start / n + 1) * n = omega arith in
    up_is n start entry (start - start % n + entry % n + n) h (omega arith) (omega arith) (ap (λ v. v % n) e ∙ add-mul-mod_self_right (entry % n) (start / n + 1) n ∙ mod-mod entry n)

pub raised_high : (n start entry : ℕ) → 1 ≤ n → start ≤ start - start % n + entry % n → up n start entry ≡ start - start % n + entry % n
raised_high n start entry h l =
    let a = mod-add-div' start n in
    let b = mod-lt start h in
    let c = mod-lt entry h in
    let e : start - start % n + entry % n ≡ entry % n + start / n * n = omega arith in
    up_is n start entry (start - start % n + entry % n) h l (omega arith) (ap (λ v. v % n) e ∙ add-mul-mod_self_right (entry % n) (start / n) n ∙ mod-mod entry n)

pub raised_start : (n start : ℕ) (entries : List ℕ) (sorted : Sorted) (at : ℕ) → at ≡ length entries → Sorts sorted [] → Sorts sorted (map (up n start) (drop at entries))
raised_start n start entries sorted at l s = grind (arith, common_steps)

pub raised_step : (n start : ℕ) (entries : List ℕ) (old new : Sorted) (at value : ℕ) → 0 < at → at ≤ length entries → value ≡ up n start (get_or entries (at - 1) 0)
    → ((list : List ℕ) → Sorts old list → Sorts new (value ∷ list)) → Sorts old (map (up n start) (drop at entries)) → Sorts new (map (up n start) (drop (at - 1) entries))
raised_step n start entries old new at value p l e put s = grind (arith, common_steps)

pub raised_end : (n start : ℕ) (entries : List ℕ) (sorted : Sorted) (at : ℕ) → at ≡ 0 → Sorts sorted (map (up n start) (drop at entries)) → Sorts sorted (map (up n start) entries)
raised_end n start entries sorted at e s = subst (λ b. Sorts sorted (map (up n start) b)) (drop_none entries at e) s

-- ---- the result: the reduction of a partition into the alcove

pub entries_few : (k : ℕ) (shape b : List ℕ) → 1 ≤ k → k ≤ 512 → b ≡ beta k shape → (1 ≤ length b) × (length b ≤ 512)
entries_few k shape b h l e = let d = ap length e in let m = length-beta k shape in (omega arith, omega arith)

alcove_is : (k n : ℕ) (shape : List ℕ) → rows shape ≤ k → alcove_reduction k n shape ≡ as_partition (reflected_into_alcove n (beta k shape))
alcove_is k n shape r = search rules

pub alcove_equal : (k n : ℕ) (shape b : List ℕ) → 1 ≤ n → rows shape ≤ k → IsWithinLimits shape → b ≡ beta k shape → has_equal_entries (remainders n b) ≡ true → None ≡ alcove_reduction k n shape
alcove_equal k n shape b h r l e d =
    sym (alcove_is k n shape r ∙ ap as_partition (alcove_none n (beta k shape) h (beta_strict k shape l.partition.falls) (ap (λ c. has_equal_entries (remainders n c)) (sym e) ∙ d)))

-- the entries of b, the beta list of `shape`, have different remainders modulo n. If they are moved by multiples of n to the numbers start, .., start
-- + n - 1, their sum does not change, and in decreasing order they are `numbers`; `odd` says whether an odd number of exchanges sorts the moved
-- entries
pub record HoldsWindow (k n start : ℕ) (shape b numbers : List ℕ) (odd : Bool) : Type 0 where
  pub entries : b ≡ beta k shape
  pub differ : has_equal_entries (remainders n b) ≡ false
  pub sum : size (map (up n start) b) ≡ size b
  pub numbers_are : numbers ≡ sorted_falling (map (up n start) b)
  pub turns : sign_of odd ≡ sorting_sign (map (up n start) b)

pub holds_window : (k n start : ℕ) (shape b numbers : List ℕ) (sorted : Sorted) → b ≡ beta k shape
    → (has_equal_entries (remainders n b) ≡ false) × (size (map (up n start) b) ≡ size b) → Sorts sorted (map (up n start) b) → numbers ≡ sorted.numbers.items
    → HoldsWindow k n start shape b numbers sorted.is_odd
holds_window k n start shape b numbers sorted e w s d = record { entries = e; differ = w.0; sum = w.1; numbers_are = d ∙ s.numbers; turns = s.turns }

staircase_size : (k : ℕ) → k ≤ 512 → size (staircase k) ≤ 512 * k
staircase_size zero h = omega arith
staircase_size (suc k) h = let r = staircase_size k (omega arith) in omega arith

pub window_small : (k n start : ℕ) (shape b : List ℕ) → 1 ≤ n → n ≤ 512 → 1 ≤ k → k ≤ 512 → rows shape ≤ k → IsWithinLimits shape → b ≡ beta k shape
    → (has_equal_entries (remainders n b) ≡ false) × (size (map (up n start) b) ≡ size b) → start + n ≤ 65536
window_small k n start shape b h m p q r l e w =
    let a = size_above n start b h in
    let s = w.1 in
    let c = ap length e in
    let d = length-beta k shape in
    let z = ap size e in
    let y = size-beta k shape l.partition r in
    let x = staircase_size k q in
    let small = l.small in
    elim (cases_lt 4608 start) [
      | inr g ↦ omega arith
      | inl g ↦ (
          let f : 4609 ≤ start = omega arith in
          let o = mul-le-mul_right k f in
          let i : start * length b ≡ start * k = ap (λ v. start * v) (c ∙ d) in
          absurd (omega arith))
    ]

pub alcove_few : (k n start : ℕ) (shape b numbers : List ℕ) (odd : Bool) → k ≤ 512 → HoldsWindow k n start shape b numbers odd → length numbers ≤ 512
alcove_few k n start shape b numbers odd h w = search (rules, length-sorted, length-map, length-beta)

pub alcove_limits : (k n start : ℕ) (shape b numbers : List ℕ) (odd : Bool) → 1 ≤ n → k ≤ 512 → rows shape ≤ k → IsWithinLimits shape → HoldsWindow k n start shape b numbers odd
    → IsWithinLimits (from_beta numbers)
alcove_limits k n start shape b numbers odd h m r l w =
    let end = end_found n start b h w.differ w.sum in
    let c = sorted_falling (map (up n start) b) in
    let few = alcove_few k n start shape b numbers odd m w in
    let e = ap length w.numbers_are in
    let s = length-sorted (map (up n start) b) in
    let o = length-map b (up n start) in
    let d = ap length w.entries in
    let i = length-beta k shape in
    let same : length c ≡ k = omega arith in
    let x = size-from_beta c end.strict in
    let y = size-beta k shape l.partition r in
    let z = ap size w.entries in
    let u = end.sum in
    let t = ap (λ v. size (staircase v)) same in
    let a = rows-from_beta c in
    let small = l.small in
    let limits : IsWithinLimits (from_beta c) = record { partition = from_beta_partition c end.strict; few = omega arith; small = omega arith } in
    subst (λ v. IsWithinLimits (from_beta v)) (sym w.numbers_are) limits

pub alcove_some : (k n start : ℕ) (shape b numbers end : List ℕ) (odd : Bool) (sign : ℤ) → 1 ≤ n → rows shape ≤ k → IsWithinLimits shape → HoldsWindow k n start shape b numbers odd
    → end ≡ from_beta numbers → sign ≡ sign_of odd → Some (end, sign) ≡ alcove_reduction k n shape
alcove_some k n start shape b numbers end odd sign h r l w e s =
    let f : List ℕ → ℤ → Option (List ℕ × ℤ) = λ x y. Some (x, y) in
    let strict = subst FallsStrictly (sym w.entries) (beta_strict k shape l.partition.falls) in
    let found = alcove_found n start b h strict w.differ w.sum in
    sym (
    alcove_is k n shape r
    ∙ ap (λ v. as_partition (reflected_into_alcove n v)) (sym w.entries)
    ∙ ap as_partition found
    ∙ ap (λ x. f (from_beta x) (sorting_sign (map (up n start) b))) (sym w.numbers_are)
    ∙ ap (λ x. f x (sorting_sign (map (up n start) b))) (sym e)
    ∙ ap (f end) (sym (s ∙ w.turns)))

-- if `HoldsWindow` holds, the partition `end` with the beta list `numbers` is the reduction of `shape` into the alcove, with the sign of sorting the
-- moved entries
pub alcove_told : (k n start : ℕ) (shape b numbers end : List ℕ) (odd : Bool) (sign : ℤ) → 1 ≤ n → IsWithinLimits shape → HoldsWindow k n start shape b numbers odd
    → end ≡ from_beta numbers → sign ≡ sign_of odd → IsAlcoveOf k n shape end sign
alcove_told k n start shape b numbers end odd sign h l w e s =
    let c = sorted_falling (map (up n start) b) in
    let strict = subst FallsStrictly (sym w.entries) (beta_strict k shape l.partition.falls) in
    let found = alcove_found n start b h strict w.differ w.sum in
    let is_end = end_found n start b h w.differ w.sum in
    let size_is = length-sorted (map (up n start) b) in
    let o = length-map b (up n start) in
    let d = ap length w.entries in
    let i = length-beta k shape in
    let same : length c ≡ k = omega arith in
    let back : beta k end ≡ c = ap (beta k) (e ∙ ap from_beta w.numbers_are) ∙ ap (λ m. beta m (from_beta c)) (sym same) ∙ beta-from_beta c is_end.strict in
    let ends : IsAlcoveEnd n b (beta k end) = subst (IsAlcoveEnd n b) (sym back) is_end in
    let turns : sign ≡ sorting_sign (map (match_in n (beta k end)) b) =
    s ∙ w.turns ∙ alcove_sign n b c (sorting_sign (map (up n start) b)) h strict found ∙ ap (λ z. sorting_sign (map (match_in n z) b)) (sym back) in
    let only : (z : List ℕ) → IsAlcoveEnd n b z → z ≡ beta k end = λ z v. alcove_only n b z (beta k end) h v ends in
    record {
      differ = ap (λ z. has_equal_entries (remainders n z)) (sym w.entries) ∙ w.differ;
      ends = subst (λ z. IsAlcoveEnd n z (beta k end)) w.entries ends;
      only = subst (λ u. (z : List ℕ) → IsAlcoveEnd n u z → z ≡ beta k end) w.entries only;
      matches = turns ∙ ap (λ z. sorting_sign (map (match_in n (beta k end)) z)) w.entries;
    }
