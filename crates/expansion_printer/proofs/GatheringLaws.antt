-- A text is *collected* (`Gathers`) if its first part, which may be empty, is written to a sink and the rest is kept in a buffer, both after the
-- texts collected before; after a failed write, nothing more is written. Laws of `Gathers`: for texts that are collected one after another, for equal
-- texts, for the empty text, and for the text that a printer has collected at its end.
use Rattle.std.proofs.Common.{◌≡◌, ℕ, List, [], ◌++◌, Bool, true, false, refl, sym, ◌∙◌, ap, subst, append_assoc, append-nil}
use Rattle.std.specs.Prelude.{Result, is_ok}
use Rattle.calc_base.specs.Puts.{Puts, Prints}
use Rattle.calc_base.specs.Sink.{SinkSeen}
use Rattle.calc_base.proofs.PutsLaws.{Puts-then, Puts-as, Puts-nothing, Puts-prints}
use Rattle.expansion_printer.specs.Gathering.{Waiting, HasPut, Gathers}

Puts-else : {before now : Bool} {old new : SinkSeen} {a b : List ℕ} → (before ≡ true → a ≡ b)
    → Puts before old now new a → Puts before old now new b
Puts-else {before = before} {now = now} {old = old} {new = new} {b = b} same goes =
    by before refl
  where
    by : (well : Bool) → before ≡ well → Puts before old now new b
    by true well = Puts-as (same well) goes
    by false ill = record {
      whole = λ well. let ended : now ≡ false = goes.ill ill in cc;
      still = goes.still;
      cut = λ began ended. cc;
      rose = goes.rose;
      later = goes.later;
      untouched = goes.untouched;
      ill = goes.ill;
    }

HasPut-nothing : (start : SinkSeen)
    → HasPut start [] (record { bytes = []; well = true }) start
HasPut-nothing start = record {
  front = [];
  last = [];
  joined = refl;
  waits = λ well. refl;
  goes = Puts-nothing true start;
}

-- if a text has been collected and the bytes in the buffer are written now, the whole text has been written since the state `start`
HasPut-ends : {start sink new : SinkSeen} {text : List ℕ} {old : Waiting} {now : Bool}
    → HasPut start text old sink → Puts old.well sink now new old.bytes
    → Puts true start now new text
HasPut-ends h goes = Puts-as h.joined (Puts-then h.goes (Puts-else h.waits goes))

-- if a piece was appended to the bytes in the buffer and nothing was written, the piece was collected
pub Gathers-kept : {old new : Waiting} (sink : SinkSeen)
    {piece : List ℕ} → new ≡ record { bytes = old.bytes ++ piece; well = old.well } → Gathers old sink new sink piece
Gathers-kept {old = old} {new = new} sink {piece = piece} kept = record {
  behind = λ start before h.
      let P : Waiting → Type 0 = λ now. HasPut start (before ++ piece) now sink in
      subst P (sym kept) (record {
        front = h.front;
        last = h.last ++ piece;
        joined = sym (append_assoc h.front h.last piece) ∙ ap (λ t. t ++ piece) h.joined;
        waits = λ well. ap (λ t. t ++ piece) (h.waits well);
        goes = h.goes;
      });
}

-- if the bytes in the buffer were written to the sink and the buffer is now empty, the empty text was collected
pub Gathers-flushed : {old new : Waiting}
    {first second : SinkSeen} → new.bytes ≡ [] → Puts old.well first new.well second old.bytes
    → Gathers old first new second []
Gathers-flushed empty goes = record {
  behind = λ start before h. record {
    front = before;
    last = [];
    joined = refl;
    waits = λ well. empty;
    goes = HasPut-ends h goes;
  };
}

-- if the buffer was empty and still is, and a piece was written to the sink directly, the piece was collected
pub Gathers-straight : {old new : Waiting}
    {first second : SinkSeen} {piece : List ℕ} → old.bytes ≡ [] → new.bytes ≡ []
    → Puts old.well first new.well second piece → Gathers old first new second piece
Gathers-straight {piece = piece} before_empty empty goes = record {
  behind = λ start before h. record {
    front = before ++ piece;
    last = [];
    joined = append-nil (before ++ piece);
    waits = λ well. empty;
    goes = Puts-as (sym (append_assoc h.front h.last piece) ∙ ap (λ t. t ++ piece) h.joined)
        (Puts-then h.goes (Puts-else (λ well. ap (λ t. t ++ piece) (sym before_empty ∙ h.waits well)) goes));
  };
}

-- if the text a was collected and then the text b, the text a ++ b was collected
pub Gathers-then : {old mid new : Waiting}
    {first second third : SinkSeen} {a b : List ℕ} → Gathers old first mid second a
    → Gathers mid second new third b → Gathers old first new third (a ++ b)
Gathers-then {new = new} {third = third} {a = a} {b = b} front back = record {
  behind = λ start before h.
      let P : List ℕ → Type 0 = λ t. HasPut start t new third in
      subst P (append_assoc before a b) (back.behind start (before ++ a) (front.behind start before h));
}

pub Gathers-as : {old new : Waiting}
    {first second : SinkSeen} {a b : List ℕ} → a ≡ b → Gathers old first new second a
    → Gathers old first new second b
Gathers-as {old = old} {new = new} {first = first} {second = second} same goes =
    let P : List ℕ → Type 0 = λ t. Gathers old first new second t in subst P same goes

pub Gathers-from : {other old new : Waiting}
    {first second : SinkSeen} {text : List ℕ} → other ≡ old → Gathers other first new second text
    → Gathers old first new second text
Gathers-from {new = new} {first = first} {second = second} {text = text} same goes =
    let P : Waiting → Type 0 = λ w. Gathers w first new second text in subst P same goes

pub Gathers-nothing : (now : Waiting) (sink : SinkSeen)
    → Gathers now sink now sink []
Gathers-nothing now sink = record {
  behind = λ start before h.
      let P : List ℕ → Type 0 = λ t. HasPut start t now sink in subst P (sym (append-nil before)) h;
}

-- if a text was collected, beginning with an empty buffer, and the bytes in the buffer are written at the end, the text was printed
pub Gathers-prints : {E : Type 0} {old now : Waiting}
    {start sink new : SinkSeen} {text : List ℕ} (result : Result (Unit {0}) E) → old ≡ record { bytes = []; well = true }
    → Gathers old start now sink text → Puts now.well sink (is_ok result) new now.bytes
    → Prints start new text result
Gathers-prints {start = start} result begins goes ends =
    let P : Waiting → Type 0 = λ w. HasPut start [] w start in
    Puts-prints result (HasPut-ends (goes.behind start [] (subst P (sym begins) (HasPut-nothing start))) ends) refl
