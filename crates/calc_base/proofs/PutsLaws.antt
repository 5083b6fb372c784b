-- Lemmas on `Puts`, the statement that a text was written to a sink, or a prefix of it if a call failed: `Puts-then` for
-- two texts, `Puts-as` for an equal text, `Puts-nothing` for the empty text, `Puts-finished` for a text and a call of
-- `finish` after it, `Puts-stopped` after a failed call, and `Puts-prints` for the result of a printer.
use Rattle.std.proofs.Common.{◌≡◌, ℕ, ◌+◌, min, max, List, [], ◌++◌, length, Option, Some, None, Bool, true, false, refl, sym, ◌∙◌, ap, subst, arith, append_assoc, append-nil, length-append}
use Rattle.std.specs.Prelude.{Result, Ok, Err, is_ok}
use Rattle.std.specs.Io.KnownBytes.{append_known}
use Rattle.calc_base.specs.Fault.{counted_up, Rose}
use Rattle.calc_base.specs.Sink.{SinkSeen, greatest_length, number_after, Appends, AppendsPrefix}
use Rattle.calc_base.specs.Puts.{Puts, Prints}

bytes-then : (told : Option (List ℕ)) (a b : List ℕ) → append_known (append_known told a) b ≡ append_known told (a ++ b)
bytes-then None a b = refl
bytes-then (Some bytes) a b = ap Some (append_assoc bytes a b)

bytes-nothing : (told : Option (List ℕ)) → told ≡ append_known told []
bytes-nothing None = refl
bytes-nothing (Some bytes) = ap Some (sym (append-nil bytes))

number-then : (told : Option ℕ) (a b : List ℕ) → number_after (number_after told a) b ≡ number_after told (a ++ b)
number-then None a b = refl
number-then (Some n) a b = ap Some (numbers n (length a) (length b) (length (a ++ b)) greatest_length (length-append a b))
  where
    numbers : (n a b c limit : ℕ) → c ≡ a + b
        → max (max n (min (n + a) limit)) (min (max n (min (n + a) limit) + b) limit) ≡ max n (min (n + c) limit)
    numbers n a b c limit e = omega arith

number-nothing : (told : Option ℕ) → told ≡ number_after told []
number-nothing None = refl
number-nothing (Some n) = ap Some (same n greatest_length)
  where
    same : (n limit : ℕ) → n ≡ max n (min (n + 0) limit)
    same n limit = omega arith

-- ---- texts appended one after another (`Appends` and `AppendsPrefix`)

pub Appends-then : {old mid new : SinkSeen} {a b : List ℕ}
    → Appends old mid a → Appends mid new b → Appends old new (a ++ b)
Appends-then {old = old} {mid = mid} {new = new} {a = a} {b = b} first second = record {
  bytes = second.bytes ∙ ap (λ told. append_known told b) first.bytes ∙ bytes-then old.written a b;
  number = second.number ∙ ap (λ told. number_after told b) first.number ∙ number-then old.length a b;
}

pub Appends-nothing : (s : SinkSeen)
    → Appends s s []
Appends-nothing s = record { bytes = bytes-nothing s.written; number = number-nothing s.length }

-- if the sink had recorded the bytes `before` and a text was appended, it records `before` followed by the text
pub Appends-told : {old new : SinkSeen} {text : List ℕ} (before : List ℕ)
    → Appends old new text → old.written ≡ Some before → new.written ≡ Some (before ++ text)
Appends-told {text = text} before h told = h.bytes ∙ ap (λ bytes. append_known bytes text) told

pub AppendsPrefix-more : {old new : SinkSeen} {a : List ℕ} (b : List ℕ)
    → AppendsPrefix old new a → AppendsPrefix old new (a ++ b)
AppendsPrefix-more b cut = record {
  front = cut.front;
  is_prefix = record {
    rest = cut.is_prefix.rest ++ b;
    joined = sym (append_assoc cut.front cut.is_prefix.rest b) ∙ ap (λ t. t ++ b) cut.is_prefix.joined;
  };
  appends = cut.appends;
}

-- if a was appended whole and then a prefix of b, a prefix of a ++ b was appended
pub AppendsPrefix-then : {old mid new : SinkSeen} {a b : List ℕ}
    → Appends old mid a → AppendsPrefix mid new b
    → AppendsPrefix old new (a ++ b)
AppendsPrefix-then {a = a} first cut = record {
  front = a ++ cut.front;
  is_prefix = record {
    rest = cut.is_prefix.rest;
    joined = append_assoc a cut.front cut.is_prefix.rest ∙ ap (λ t. a ++ t) cut.is_prefix.joined;
  };
  appends = Appends-then first cut.appends;
}

pub AppendsPrefix-whole : {old new : SinkSeen} {a : List ℕ}
    → Appends old new a → AppendsPrefix old new a
AppendsPrefix-whole {a = a} all = record { front = a; is_prefix = record { rest = []; joined = append-nil a }; appends = all }

-- ---- texts written one after another, with a record of whether a call failed (`Puts`)

-- if `Puts` holds for writing a, and then for writing b, it holds for writing a ++ b (whether or not a call fails)
pub Puts-then : {before mid now : Bool} {old between new : SinkSeen} {a b : List ℕ}
    → Puts before old mid between a → Puts mid between now new b
    → Puts before old now new (a ++ b)
Puts-then {before = before} {mid = mid} {now = now}
    {old = old} {between = between} {new = new} {a = a} {b = b} first second = record {
      whole = λ well. let went : mid ≡ true = goes_on mid now second.ill well in
          Appends-then (first.whole went) (second.whole well);
      still = λ well. let went : mid ≡ true = goes_on mid now second.ill well in
          second.still well ∙ first.still went;
      cut = λ began ended. by_cut mid refl began ended;
      rose = λ began ended. by_rose mid refl began ended;
      later = omega (arith, first.later, second.later);
      untouched = λ ill. second.untouched (first.ill ill) ∙ first.untouched ill;
      ill = λ ill. second.ill (first.ill ill);
    }
  where
    goes_on : (m n : Bool) → (m ≡ false → n ≡ false) → n ≡ true → m ≡ true
    goes_on true n h well = refl
    goes_on false n h well = let stopped : n ≡ false = h refl in cc

    by_cut : (m : Bool) → mid ≡ m → before ≡ true → now ≡ false → AppendsPrefix old new (a ++ b)
    by_cut true went began ended = AppendsPrefix-then (first.whole went) (second.cut went ended)
    by_cut false went began ended =
        let P : SinkSeen → Type 0 = λ s. AppendsPrefix old s (a ++ b) in
        subst P (sym (second.untouched went)) (AppendsPrefix-more b (first.cut began went))

    by_rose : (m : Bool) → mid ≡ m → before ≡ true → now ≡ false → Rose old.faults new.faults
    by_rose true went began ended =
        second.rose went ended ∙ ap counted_up (first.still went)
    by_rose false went began ended =
        ap (λ (s : SinkSeen). s.faults) (second.untouched went) ∙ first.rose began went

pub Puts-as : {before now : Bool} {old new : SinkSeen} {a b : List ℕ} → a ≡ b
    → Puts before old now new a → Puts before old now new b
Puts-as {before = before} {now = now} {old = old} {new = new} same goes =
    let P : List ℕ → Type 0 = λ t. Puts before old now new t in subst P same goes

pub Puts-nothing : (before : Bool) (s : SinkSeen)
    → Puts before s before s []
Puts-nothing before s = record {
  whole = λ well. Appends-nothing s;
  still = λ well. refl;
  cut = λ began ended. AppendsPrefix-whole (Appends-nothing s);
  rose = λ began ended. let clash : true ≡ false = sym began ∙ ended in cc;
  later = omega arith;
  untouched = λ ill. refl;
  ill = λ ill. ill;
}

-- let `Puts` hold for a text, with no failed call before the text is written. If a result is `Ok` if and only if `now` is true, that is, no call has
-- failed, then the result satisfies `Prints` for the text
pub Puts-prints : {E : Type 0} {now : Bool} {old new : SinkSeen} {text : List ℕ} (result : Result (Unit {0}) E)
    → Puts true old now new text → is_ok result ≡ now
    → Prints old new text result
Puts-prints {now = now} (Ok x) goes answer =
    let well : now ≡ true = sym answer in
    record { whole = goes.whole well; cut = tt; counted = record { still = goes.still well; rose = tt; later = goes.later } }
Puts-prints {now = now} (Err e) goes answer =
    let ended : now ≡ false = sym answer in
    record { whole = tt; cut = goes.cut refl ended; counted = record { still = tt; rose = goes.rose refl ended; later = goes.later } }

-- if a text was written, and then a finish wrote the empty text, the two calls together wrote the text (`Puts`)
pub Puts-finished : {before mid now : Bool} {old between new : SinkSeen} {text : List ℕ}
    → Puts before old mid between text → Puts mid between now new []
    → Puts before old now new text
Puts-finished {text = text} first finish = Puts-as (append-nil text) (Puts-then first finish)

-- after a failed call, a sink that is left unchanged satisfies `Puts` for any text
pub Puts-stopped : (s : SinkSeen) (text : List ℕ)
    → Puts false s false s text
Puts-stopped s text = record {
  whole = λ well. let clash : false ≡ true = well in cc;
  still = λ well. refl;
  cut = λ began ended. let clash : false ≡ true = began in cc;
  rose = λ began ended. let clash : false ≡ true = began in cc;
  later = omega arith;
  untouched = λ ill. refl;
  ill = λ ill. ill;
}
