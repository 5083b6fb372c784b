-- The bytes of a writer after several writes, and those of a reader after a read, if they are known.
use Rattle.std.proofs.Common.{◌≡◌, ℕ, ◌+◌, ◌-◌, List, ◌++◌, length, take, drop, Option, Some, None, true, false, refl, sym, ◌∙◌, ap, subst, append_assoc, length-drop}
use Rattle.std.specs.Prelude.{is_some}
use Rattle.std.proofs.Math.Seq.{take-add, take-length}
use Rattle.std.specs.Io.KnownBytes.{Appends, Consumes, Keeps, prepend_known}

Appends-append : (before between after : Option (List ℕ)) (a b : List ℕ)
    → Appends before between a → Appends between after b → Appends before after (a ++ b)
Appends-append None between after a b first second = tt
Appends-append (Some x) (Some y) (Some z) a b first second =
    second ∙ ap (λ t. t ++ b) first ∙ append_assoc x a b
Appends-append (Some x) (Some y) None a b first second = absurd second
Appends-append (Some x) None after a b first second = absurd first

-- if the first `at` of the bytes were appended, and then the first `count` of those left, the first `at` + `count` of the bytes were appended
pub Appends-more : (before between after : Option (List ℕ)) (bytes left : List ℕ) (at count : ℕ)
    → left ≡ take (length bytes - at) (drop at bytes)
    → Appends before between (take at bytes) → Appends between after (take count left)
    → Appends before after (take (at + count) bytes)
Appends-more before between after bytes left at count is_left first second =
    subst (Appends before after) joined (Appends-append before between after (take at bytes) (take count left) first second)
  where
    all_left : left ≡ drop at bytes
    all_left = is_left ∙ ap (λ n. take n (drop at bytes)) (sym (length-drop at bytes)) ∙ take-length (drop at bytes)

    joined : take at bytes ++ take count left ≡ take (at + count) bytes
    joined = ap (λ t. take at bytes ++ take count t) all_left ∙ sym (take-add at count bytes)

-- ---- a reader of which the bytes are known after a read if and only if they were before

pub taken_as : (before now : Option (List ℕ)) (bytes : List ℕ) → is_some now ≡ is_some before → Consumes before now bytes
    → before ≡ prepend_known bytes now
taken_as None None bytes same h = refl
taken_as None (Some y) bytes same h = let clash : true ≡ false = same in cc
taken_as (Some x) None bytes same h = absurd h
taken_as (Some x) (Some y) bytes same h = ap Some h

pub kept_as : (before now : Option (List ℕ)) → is_some now ≡ is_some before → Keeps before now → now ≡ before
kept_as None None same h = refl
kept_as None (Some y) same h = let clash : true ≡ false = same in cc
kept_as (Some x) None same h = absurd h
kept_as (Some x) (Some y) same h = ap Some h
