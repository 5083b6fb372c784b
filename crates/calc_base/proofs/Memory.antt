-- Reads of a source in memory and writes to a sink in memory, as operations on lists of bytes.
use Rattle.std.proofs.Common.{◌≡◌, ℕ, ◌+◌, ◌<◌, ◌≤◌, min, max, List, ◌++◌, length, take, drop, Option, Some, None, refl, sym, ◌∙◌, ap, arith, length-append, Bool, true, false}
use Rattle.std.specs.Prelude.{is_some}
use Rattle.std.specs.Io.KnownBytes.{append_known, Appends as Grows}
use Rattle.std.proofs.lemmas.List.{take-append-drop, nil_from_length}
use Rattle.std.proofs.Math.Seq.{take-append_seam, drop-nil}
use Rattle.std.proofs.lemmas.Grind.{common_steps}
use Rattle.calc_base.specs.Source.{Takes}
use Rattle.calc_base.specs.Sink.{greatest_length, seen_bytes, Appends, AppendsPrefix}

-- let `piece` ≥ 1, let the buffer not be empty, and let `count` be the least of its length, `piece` and the number of bytes in `rest`: a read that
-- moves the first `count` bytes of `rest` to the front of the buffer satisfies `Takes`
pub Takes-front : (rest later filled behind buffer : List ℕ) (piece count : ℕ)
    → filled ≡ take count rest → later ≡ drop count rest → buffer ≡ filled ++ behind
    → count ≡ min (length buffer) (min piece (length rest)) → 0 < length buffer → 1 ≤ piece
    → Takes (Some rest) (Some later) buffer count
Takes-front rest later filled behind buffer piece count front back whole number room some = record {
  fits = omega arith;
  given = ap Some (sym (take-append-drop count rest) ∙ parts (take count buffer) later in_front (sym back));
  ended = λ none. back ∙ ap (drop count) (nil_from_length rest (omega arith)) ∙ drop-nil count;
}
  where
    long : length filled ≡ count
    long = grind (arith, common_steps)

    in_front : take count rest ≡ take count buffer
    in_front = sym front ∙ sym (take-append_seam filled behind) ∙ ap (λ k. take k (filled ++ behind)) long
        ∙ ap (take count) (sym whole)

    parts : (a b : List ℕ) → take count rest ≡ a → drop count rest ≡ b → take count rest ++ drop count rest ≡ a ++ b
    parts a b e f = cc

-- if a text is appended to the recorded bytes `old`, the sink has appended the text
appends_told : (old new text : List ℕ) (was failed : ℕ) (settled finished : Bool) → new ≡ old ++ text
    → Appends (seen_bytes (Some old) was settled) (seen_bytes (Some new) failed finished) text
appends_told old new text was failed settled finished grew = record {
  bytes = ap Some grew;
  number = ap Some (number (length old) (length text) (length new) greatest_length (ap length grew ∙ length-append old text));
}
  where
    number : (n a all limit : ℕ) → all ≡ n + a → min all limit ≡ max (min n limit) (min (min n limit + a) limit)
    number n a all limit e = omega arith

-- if the first `count` bytes of `piece` are appended to the recorded bytes `old`, the sink has appended a prefix of `piece`
pub appends_some : (old new piece : List ℕ) (count was failed : ℕ) (settled finished : Bool) → new ≡ old ++ take count piece
    → AppendsPrefix (seen_bytes (Some old) was settled) (seen_bytes (Some new) failed finished) piece
appends_some old new piece count was failed settled finished grew = record {
  front = take count piece;
  is_prefix = record { rest = drop count piece; joined = take-append-drop count piece };
  appends = appends_told old new (take count piece) was failed settled finished grew;
}

-- the bytes of a sink over a writer are those that the writer has received, if they are known, and those in the buffer: if a text is appended to
-- them, and the writer's bytes are known after this if and only if they were before, the sink has appended the text
pub appends_known : (before now : Option (List ℕ)) (buffer waiting text : List ℕ) (was failed : ℕ) (settled finished : Bool)
    → is_some now ≡ is_some before → Grows (append_known before buffer) (append_known now waiting) text
    → Appends (seen_bytes (append_known before buffer) was settled) (seen_bytes (append_known now waiting) failed finished) text
appends_known None None buffer waiting text was failed settled finished same grew = record { bytes = refl; number = refl }
appends_known None (Some y) buffer waiting text was failed settled finished same grew = let clash : true ≡ false = same in cc
appends_known (Some x) None buffer waiting text was failed settled finished same grew = absurd grew
appends_known (Some x) (Some y) buffer waiting text was failed settled finished same grew =
    appends_told (x ++ buffer) (y ++ waiting) text was failed settled finished grew
