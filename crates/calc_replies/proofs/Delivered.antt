-- Texts that are written to a sink (`Puts`, with two truth values that say whether no call of the sink has failed before the text, and after it): a
-- text written by one call of a printer, and two texts written one after the other.
use Rattle.std.proofs.Common.{◌≡◌, ℕ, List, ◌++◌, Bool, true, false, sym, ◌∙◌, subst}
use Rattle.std.specs.Prelude.{Result, Ok, Err, is_ok}
use Rattle.calc_base.proofs.PutsLaws.{Puts-then}
use Rattle.calc_base.specs.Puts.{Puts, Prints}
use Rattle.calc_base.specs.Sink.{SinkSeen}

pub Puts-from_prints : {E : Type 0} {now : Bool} {old new : SinkSeen} {text : List ℕ} (result : Result (Unit {0}) E)
    → Prints old new text result → now ≡ is_ok result
    → Puts true old now new text
Puts-from_prints (Ok x) prints is = record {
  whole = λ well. prints.whole;
  still = λ well. prints.counted.still;
  cut = λ began ended. let clash : true ≡ false = sym is ∙ ended in cc;
  rose = λ began ended. let clash : true ≡ false = sym is ∙ ended in cc;
  later = prints.counted.later;
  untouched = λ ill. let clash : true ≡ false = ill in cc;
  ill = λ ill. let clash : true ≡ false = ill in cc;
}
Puts-from_prints (Err e) prints is = record {
  whole = λ well. let clash : false ≡ true = sym is ∙ well in cc;
  still = λ well. let clash : false ≡ true = sym is ∙ well in cc;
  cut = λ began ended. prints.cut;
  rose = λ began ended. prints.counted.rose;
  later = prints.counted.later;
  untouched = λ ill. let clash : true ≡ false = ill in cc;
  ill = λ ill. let clash : true ≡ false = ill in cc;
}

-- if `front` was written whole, and then `text` (or a prefix of it, if `now` is false), then `front` followed by `text` was written (or a prefix of
-- it)
pub Puts-behind : {well now : Bool} {old mid new : SinkSeen} {front text : List ℕ} → well ≡ true
    → Puts true old well mid front → Puts true mid now new text
    → Puts true old now new (front ++ text)
Puts-behind {old = old} {mid = mid} {front = front} is first second =
    let P : Bool → Type 0 = λ w. Puts true old w mid front in Puts-then (subst P is first) second
