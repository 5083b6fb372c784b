-- Bytes without a line feed, and lists of bytes whose first bytes are dropped.
use Rattle.std.proofs.Common.{◌≡◌, ℕ, zero, suc, ◌+◌, ◌-◌, ◌<◌, ◌≤◌, List, [], ◌∷◌, ◌++◌, length, take, drop, get_or, sym, ap, ◌∙◌, subst, arith}
use Rattle.std.specs.Prelude.{Option, Some, None, true, is_some, slice_index, slice_range, MatchOption}
use Rattle.std.proofs.lemmas.List.{take_more, length-take, drop-take, drop-drop}
use Rattle.batch_lines.specs.Feeds.{HasNoFeed}

pub no_feed_append : (xs ys : List ℕ) → HasNoFeed xs → HasNoFeed ys → HasNoFeed (xs ++ ys)
no_feed_append [] ys h k = k
no_feed_append (x ∷ xs) ys h k = (h.0, no_feed_append xs ys h.1 k)

pub no_feed_more : (xs : List ℕ) (i : ℕ) → i < length xs → HasNoFeed (take i xs) → (get_or xs i 0 ≡ 10 → ⊥) → HasNoFeed (take (i + 1) xs)
no_feed_more xs i h k n = subst HasNoFeed (sym (take_more xs i 0 h)) (no_feed_append (take i xs) (get_or xs i 0 ∷ []) k (n, tt))

some_feed : (bytes : List ℕ) (at : ℕ) → at < length bytes → slice_index bytes at ≡ 10 → HasNoFeed bytes → ⊥
some_feed [] at h is none = absurd (omega (arith, h))
some_feed (b ∷ bytes) zero h is none = none.0 is
some_feed (b ∷ bytes) (suc at) h is none = some_feed bytes at (omega (arith, h)) is none.1

-- if the search for a line feed returned an index, the bytes have a line feed
pub found_feed : (bytes : List ℕ) (found : Option ℕ)
    → MatchOption found (HasNoFeed bytes) (λ at. (at < length bytes) × HasNoFeed (take at bytes) × (slice_index bytes at ≡ 10))
    → is_some found ≡ true → HasNoFeed bytes → ⊥
found_feed bytes None m some none = cc
found_feed bytes (Some at) m some none = some_feed bytes at m.0 m.2 none

pub skipped : (bytes : List ℕ) (start end count : ℕ) → start ≤ end → end ≤ length bytes → count ≤ length (slice_range bytes start end)
    → slice_range bytes (start + count) end ≡ drop count (slice_range bytes start end)
skipped bytes start end count h k l =
    let t = length-take (end - start) (drop start bytes) in
    let m = end - (start + count) in
    let e : end - start ≡ count + m = omega (arith, h, l, t) in
    ap (take m) (sym (drop-drop count start bytes))
    ∙ sym (ap (λ n. drop count (take n (drop start bytes))) e ∙ drop-take count m (drop start bytes))
