-- The next line of a source whose bytes are taken piece by piece.
use Rattle.std.proofs.Common.{◌≡◌, ℕ, ◌+◌, ◌≤◌, Bool, true, false, List, [], ◌∷◌, ◌++◌, append_assoc, length, length-append, refl, sym, ap, ◌∙◌, subst, arith, Option, Some, None, inl, inr, ◌⊎◌}
use Rattle.std.specs.Prelude.{IfSome, is_some}
use Rattle.std.specs.Io.KnownBytes.{IsAtEnd, prepend_known, Keeps}
use Rattle.std.proofs.KnownBytes.{Consumes-trans, Consumes-kept}
use Rattle.std.proofs.lemmas.Bool.{ltb-true, ltb-false, cases_eq}
use Rattle.std.proofs.lemmas.List.{append-nil, nil_from_length}
use Rattle.sym_model.specs.BatchLine.{most_bytes}
use Rattle.calc_base.specs.Source.{SourceSeen}
use Rattle.batch_lines.specs.Feeds.{HasNoFeed}
use Rattle.batch_lines.specs.Heard.{IsHeard, IsTaken, Hears}
use Rattle.batch_lines.specs.Reading.{most_pending, HasLineAtMost, TookLineAtMost, Took, TookPart, EndsAtFeed, EndsAtEnd, EndsBy, IsNext, ReadsNext, next_at_feed, next_at_end}
use Rattle.batch_lines.specs.declared.heard.Heard.{Heard}
use Rattle.batch_lines.specs.declared.next.Next.{Next}
use Rattle.batch_lines.proofs.Parts.{no_feed_append}

pub took_nothing : (told : Option (List ℕ)) → Took told told []
took_nothing None = refl
took_nothing (Some rest) = refl

pub took_more : (before between now : Option (List ℕ)) (first more : List ℕ) → Took before between first → Took between now more → Took before now (first ++ more)
took_more before between now first more h k = h ∙ ap (prepend_known first) k ∙ joined now
  where
    joined : (told : Option (List ℕ)) → prepend_known first (prepend_known more told) ≡ prepend_known (first ++ more) told
    joined None = refl
    joined (Some rest) = ap Some (sym (append_assoc first more rest))

-- if bytes were taken from a source, it records its bytes afterwards if and only if it did before
pub took_told : (before now : Option (List ℕ)) (taken : List ℕ) → Took before now taken → is_some now ≡ is_some before
took_told before now taken h = same now ∙ ap is_some (sym h)
  where
    same : (told : Option (List ℕ)) → is_some told ≡ is_some (prepend_known taken told)
    same None = refl
    same (Some rest) = refl

pub record ReadsSo (before now : SourceSeen) (first pending kept : List ℕ) (is_long : Bool) : Type 0 where
  pub taken : List ℕ
  pub took : Took before.left now.left taken
  pub spent : now.allowance + length taken ≤ before.allowance
  pub still : now.faults ≡ before.faults
  pub text : List ℕ
  pub no_feed : HasNoFeed text
  pub bytes : first ++ taken ≡ text ++ pending
  pub heard : IsHeard text kept is_long

ended_at_feed : (text line : List ℕ) (is_long : Bool) (all pending : List ℕ) (now : Option (List ℕ)) → IsHeard text line is_long → EndsAtFeed all text pending
    → IsNext (next_at_feed is_long) all text pending now line
ended_at_feed text line true all pending now h e = (ltb-true most_bytes (length text) (sym h.long), inl e)
ended_at_feed text line false all pending now h e = (h.whole refl, ltb-false most_bytes (length text) (sym h.long), inl e)

pub ends : {before now : SourceSeen} {first pending kept behind line : List ℕ} {is_long : Bool} (heard : Heard) (ended : Bool) (next : Next)
    → (r : ReadsSo before now first pending kept is_long) → Hears r.text pending behind line heard → heard.has_ended ≡ true
    → ended ≡ false → next ≡ next_at_feed heard.is_long → ReadsNext before now first behind line ended next
ends {before = before} {now = now} {first = first} {pending = pending} {behind = behind} {line = line} heard ended next r h e going n =
    let cut : pending ≡ h.part ++ 10 ∷ behind = subst (IsTaken h.part pending behind) e h.taken in
    let all : EndsAtFeed (first ++ r.taken) (r.text ++ h.part) behind =
    r.bytes ∙ ap (λ xs. r.text ++ xs) cut ∙ sym (append_assoc r.text h.part (10 ∷ behind)) in
    record {
      taken = r.taken;
      took = r.took;
      spent = r.spent;
      text = r.text ++ h.part;
      no_feed = no_feed_append r.text h.part r.no_feed h.no_feed;
      ends = subst (λ x. EndsBy x (first ++ r.taken) (r.text ++ h.part) behind now.left) (sym going) all;
      is_next =
          subst (λ x. IsNext x (first ++ r.taken) (r.text ++ h.part) behind now.left line) (sym n)
          (ended_at_feed (r.text ++ h.part) line heard.is_long (first ++ r.taken) behind now.left h.heard all);
    }

-- ---- a line that does not end within the bytes that were taken, so that more bytes are taken from the source

pub goes_on : {before now later : SourceSeen} {first pending kept behind line piece : List ℕ} {is_long : Bool} (heard : Heard)
    → (r : ReadsSo before now first pending kept is_long) → Hears r.text pending behind line heard → heard.has_ended ≡ false
    → Took now.left later.left piece → later.allowance + length piece ≤ now.allowance → later.faults ≡ now.faults
    → ReadsSo before later first piece line heard.is_long
goes_on {before = before} {now = now} {later = later} {first = first} {pending = pending} {behind = behind} {piece = piece} heard r h e t s f =
    let cut : (pending ≡ h.part) × (behind ≡ []) = subst (IsTaken h.part pending behind) e h.taken in
    record {
      taken = r.taken ++ piece;
      took = took_more before.left now.left later.left r.taken piece r.took t;
      spent = let x = r.spent in let l = length-append r.taken piece in omega (arith, x, l, s);
      still = f ∙ r.still;
      text = r.text ++ h.part;
      no_feed = no_feed_append r.text h.part r.no_feed h.no_feed;
      bytes =
          sym (append_assoc first r.taken piece)
          ∙ ap (λ xs. xs ++ piece) (r.bytes ∙ ap (λ xs. r.text ++ xs) cut.0);
      heard = h.heard;
    }

pub cuts : {before now : SourceSeen} (later : Option (List ℕ)) {first pending kept behind line : List ℕ} {is_long : Bool} (heard : Heard)
    → (r : ReadsSo before now first pending kept is_long) → Hears r.text pending behind line heard → heard.has_ended ≡ false
    → later ≡ now.left → TookPart before.left later first
cuts {before = before} {now = now} later {first = first} {pending = pending} {behind = behind} heard r h e kept_left =
    let cut : (pending ≡ h.part) × (behind ≡ []) = subst (IsTaken h.part pending behind) e h.taken in
    record {
      taken = r.taken;
      took = r.took ∙ ap (prepend_known r.taken) (sym kept_left);
      no_feed =
          subst HasNoFeed (sym (r.bytes ∙ ap (λ xs. r.text ++ xs) cut.0)) (no_feed_append r.text h.part r.no_feed h.no_feed);
    }

-- the bytes `text`, without a line feed, and at most 4,096 bytes after them have at most one complete line with few bytes after it
line_at_most : (text behind : List ℕ) → HasNoFeed text → length behind ≤ most_pending → HasLineAtMost (text ++ behind)
line_at_most text [] none few = inl (subst HasNoFeed (sym (append-nil text)) none)
line_at_most text (b ∷ behind) none few = by (cases_eq b 10) (line_at_most (text ++ b ∷ []) behind)
  where
    by : (b ≡ 10) ⊎ (b ≡ 10 → ⊥) → (HasNoFeed (text ++ b ∷ []) → length behind ≤ most_pending → HasLineAtMost ((text ++ b ∷ []) ++ behind))
        → HasLineAtMost (text ++ b ∷ behind)
    by (inl e) later = inr (record { line = text; rest = behind; whole = ap (λ c. text ++ c ∷ behind) e; no_feed = none; short = omega arith })
    by (inr d) later =
        subst HasLineAtMost (append_assoc text (b ∷ []) behind) (later (no_feed_append text (b ∷ []) none (d, tt)) (omega arith))

-- if memory runs out while a line is read, at most this line was taken from the source, and few bytes after it
pub runs_out : {before now : SourceSeen} {first pending kept : List ℕ} {is_long : Bool} → ReadsSo before now first pending kept is_long
    → length pending ≤ most_pending → TookLineAtMost before.left now.left first
runs_out {pending = pending} r short = record {
  taken = r.taken;
  took = r.took;
  at_most = subst HasLineAtMost (sym r.bytes) (line_at_most r.text pending r.no_feed short);
}

-- a line was read, and at most 4,096 bytes are pending after it: at most one complete line was taken
pub reads_at_most : {before now : SourceSeen} {pending behind line : List ℕ} {has_ended : Bool} {next : Next}
    → ReadsNext before now pending behind line has_ended next → length behind ≤ most_pending
    → TookLineAtMost before.left now.left pending
reads_at_most {now = now} {pending = pending} {behind = behind} {has_ended = has_ended} r short =
    record { taken = r.taken; took = r.took; at_most = by has_ended r.ends }
  where
    by : (ended : Bool) → EndsBy ended (pending ++ r.taken) r.text behind now.left → HasLineAtMost (pending ++ r.taken)
    by false e = inr (record { line = r.text; rest = behind; whole = e; no_feed = r.no_feed; short = short })
    by true e = inl (subst HasNoFeed (sym e.whole) r.no_feed)

told_end : (later : Option (List ℕ)) → IsAtEnd later → IfSome later (λ rest. rest ≡ [])
told_end None h = tt
told_end (Some rest) h = h

at_end_is : (text line : List ℕ) (is_long : Bool) (all pending : List ℕ) (later : Option (List ℕ)) → IsHeard text line is_long → EndsAtEnd all text pending later
    → IsNext (next_at_end line is_long) all text pending later line
at_end_is text line true all pending later h e = (ltb-true most_bytes (length text) (sym h.long), inr e)
at_end_is text [] false all pending later h e = (sym (h.whole refl), e)
at_end_is text (b ∷ line) false all pending later h e =
    let w = h.whole refl in
    (w, ltb-false most_bytes (length text) (sym h.long), inr (e, (let l = ap length w in omega (arith, l))))

pub stops : {before now later : SourceSeen} {first pending kept behind line piece : List ℕ} {is_long : Bool} (heard : Heard) (next : Next)
    → (r : ReadsSo before now first pending kept is_long) → Hears r.text pending behind line heard → heard.has_ended ≡ false
    → Took now.left later.left piece → later.allowance + length piece ≤ now.allowance → length piece ≡ 0 → IsAtEnd later.left
    → next ≡ next_at_end line heard.is_long → ReadsNext before later first piece line true next
stops {before = before} {now = now} {later = later} {first = first} {pending = pending} {behind = behind} {line = line} {piece = piece} heard next r h e t s z q n =
    let cut : (pending ≡ h.part) × (behind ≡ []) = subst (IsTaken h.part pending behind) e h.taken in
    let none = nil_from_length piece z in
    let text = r.text ++ h.part in
    let at_end : EndsAtEnd (first ++ r.taken) text piece later.left =
    record { whole = r.bytes ∙ ap (λ xs. r.text ++ xs) cut.0; none_pending = none; none_left = told_end later.left q } in
    record {
      taken = r.taken;
      took = subst (Took before.left later.left) (ap (λ xs. r.taken ++ xs) none ∙ append-nil r.taken) (took_more before.left now.left later.left r.taken piece r.took t);
      spent = let x = r.spent in omega (arith, x, s);
      text = text;
      no_feed = no_feed_append r.text h.part r.no_feed h.no_feed;
      ends = at_end;
      is_next =
          subst (λ x. IsNext x (first ++ r.taken) text piece later.left line) (sym n)
          (at_end_is text line heard.is_long (first ++ r.taken) piece later.left h.heard at_end);
    }
