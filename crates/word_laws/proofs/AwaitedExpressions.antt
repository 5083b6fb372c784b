-- A *form* describes lists of words, much like a regular expression, and some of the words may be expressions. The derivative of a form by a word
-- describes the words that may follow this word. Here derivatives decide whether a form allows an expression after given words.
use Rattle.std.proofs.Common.{◌≡◌, ℕ, Bool, true, false, ◌&&◌, cond, List, [], ◌∷◌, ◌++◌, map, append_assoc, refl, sym, ap, ◌∙◌, subst, ◌⊎◌, inl, inr, rules}
use Rattle.std.proofs.lemmas.Bool.{and_parts, and_from, or_cases, or_left, or_right}
use Rattle.sym_model.specs.Sum.{Among}
use Rattle.sym_model.proofs.Sums.{Among-append_left, Among-append_right, Among_from_append, Among-map, Among_from_map, Among-each, Among_from_each}
use Rattle.sym_model.specs.Form.{exact, number, target, formula, Form, empty, word, sequence, either, many, SomeOf, Has, Awaits, fits, is_skippable, derivatives, after_word, after_words, awaits_next, some_awaits_next, TellsExpressions}
use Rattle.word_laws.proofs.Derivatives.{sequence_parts, has_more, has_none, skipped, skippable, derivative_sound, derivative_complete, Splits, inside, behind, splits, among_cond_true, among_cond as from_cond, no_append}
use Rattle.word_laws.proofs.LongestPrefixes.{some_in, some_out}
use Rattle.word_laws.specs.Words.{Words}

pub next_sound : (f : Form) → awaits_next f ≡ true → Awaits f []
next_sound empty h = cc
next_sound (word (exact text)) h = cc
next_sound (word number) h = cc
next_sound (word (target bases)) h = cc
next_sound (word formula) h = refl
next_sound (sequence f g) h = search (rules, or_cases, and_parts, skipped, (next_sound f), (next_sound g))
next_sound (either f g) h = search (rules, or_cases, (next_sound f), (next_sound g))
next_sound (many f) h = ([], [], refl, has_none f, next_sound f h)

pub next_complete : (f : Form) → Awaits f [] → awaits_next f ≡ true
next_complete empty h = absurd h
next_complete (word (exact text)) h = absurd h
next_complete (word number) h = absurd h
next_complete (word (target bases)) h = absurd h
next_complete (word formula) h = refl
next_complete (sequence f g) (inl h) = or_left (awaits_next f) (is_skippable f && awaits_next g) (next_complete f h)
next_complete (sequence f g) (inr h) =
    let p = no_append h.0 h.1 (sym h.2) in
    or_right (awaits_next f) (is_skippable f && awaits_next g)
    (and_from (is_skippable f) (awaits_next g)
    (skippable f h.3.written (sym h.3.spelled ∙ p.0))
    (next_complete g (subst (Awaits g) p.1 h.4)))
next_complete (either f g) (inl h) = or_left (awaits_next f) (awaits_next g) (next_complete f h)
next_complete (either f g) (inr h) = or_right (awaits_next f) (awaits_next g) (next_complete g h)
next_complete (many f) h = let p = no_append h.0 h.1 (sym h.2) in next_complete f (subst (Awaits f) p.1 h.4)

-- ---- forms that allow an expression after one word and then further words (`AwaitsAfter`)

-- f has a derivative by the word `text` in which an expression can follow the words ws
pub record AwaitsAfter (reads : List ℕ → Bool) (f : Form) (text : List ℕ) (ws : Words) : Type 0 where
  pub next : Form
  pub among : Among next (derivatives reads f text)
  pub awaits : Awaits next ws

pub awaits_after : (reads : List ℕ → Bool) → TellsExpressions reads → (f : Form) (text : List ℕ) (ws : Words)
    → Awaits f (text ∷ ws) → AwaitsAfter reads f text ws
awaits_after reads tells empty text ws h = absurd h
awaits_after reads tells (word (exact w)) text ws h = absurd h
awaits_after reads tells (word number) text ws h = absurd h
awaits_after reads tells (word (target bases)) text ws h = absurd h
awaits_after reads tells (word formula) text ws h = cc
awaits_after reads tells (sequence f g) text ws (inl h) =
    let n = awaits_after reads tells f text ws h in
    record {
      next = sequence n.next g;
      among = Among-append_left (sequence n.next g) (map (λ h. sequence h g) (derivatives reads f text)) (cond (is_skippable f) (derivatives reads g text) [])
          (Among-map (λ h. sequence h g) n.next (derivatives reads f text) n.among);
      awaits = inl n.awaits;
    }
awaits_after reads tells (sequence f g) text ws (inr h) =
    by (splits h.0 h.1 text ws (sym h.2)) (λ vs. awaits_after reads tells g text vs)
  where
    by : Splits h.0 h.1 text ws → ((vs : Words) → Awaits g (text ∷ vs) → AwaitsAfter reads g text vs)
        → AwaitsAfter reads (sequence f g) text ws
    by (inside rest e k) r =
        let n = derivative_complete reads tells f h.3.written h.3.allowed text rest (sym h.3.spelled ∙ e) in
        record {
          next = sequence n.next g;
          among = Among-append_left (sequence n.next g) (map (λ h. sequence h g) (derivatives reads f text)) (cond (is_skippable f) (derivatives reads g text) [])
              (Among-map (λ h. sequence h g) n.next (derivatives reads f text) n.among);
          awaits = inr (rest, h.1, k, n.has, h.4);
        }
    by (behind e k) r =
        let n = r ws (subst (Awaits g) k h.4) in
        record {
          next = n.next;
          among = Among-append_right n.next (map (λ h. sequence h g) (derivatives reads f text)) (cond (is_skippable f) (derivatives reads g text) [])
              (among_cond_true (is_skippable f) n.next (derivatives reads g text) (skippable f h.3.written (sym h.3.spelled ∙ e)) n.among);
          awaits = n.awaits;
        }
awaits_after reads tells (either f g) text ws (inl h) = search (rules, Among-append_left, (awaits_after reads tells f text ws h))
awaits_after reads tells (either f g) text ws (inr h) = search (rules, Among-append_right, (awaits_after reads tells g text ws h))
awaits_after reads tells (many f) text ws h =
    by (splits h.0 h.1 text ws (sym h.2)) (awaits_after reads tells f text ws)
  where
    by : Splits h.0 h.1 text ws → (Awaits f (text ∷ ws) → AwaitsAfter reads f text ws) → AwaitsAfter reads (many f) text ws
    by (inside rest e k) r =
        let n = derivative_complete reads tells (many f) h.3.written h.3.allowed text rest (sym h.3.spelled ∙ e) in
        let b = Among_from_map (λ h. sequence h (many f)) n.next (derivatives reads f text) n.among in
        let q = sequence_parts b.0 (many f) rest (subst (λ g. Has g rest) b.2 n.has) in
        record {
          next = sequence b.0 (many f);
          among = subst (λ g. Among g (derivatives reads (many f) text)) b.2 n.among;
          awaits = inr (
            q.before,
            q.after ++ h.1,
            k ∙ ap (λ us. us ++ h.1) q.are ∙ append_assoc q.before q.after h.1,
            q.first,
            (q.after, h.1, refl, q.second, h.4),
          );
        }
    by (behind e k) r =
        let n = r (subst (Awaits f) k h.4) in
        record {
          next = sequence n.next (many f);
          among = Among-map (λ h. sequence h (many f)) n.next (derivatives reads f text) n.among;
          awaits = inl n.awaits;
        }

is_empty : (b : Bool) (h : Form) (ws : Words) → Among h (cond b (empty ∷ []) []) → Awaits h ws → ⊥
is_empty true h ws (inl e) a = subst (λ f. Awaits f ws) e a
is_empty true h ws (inr m) a = absurd m
is_empty false h ws m a = absurd m

pub awaits_before : (reads : List ℕ → Bool) → TellsExpressions reads → (f h : Form) (text : List ℕ) (ws : Words)
    → Among h (derivatives reads f text) → Awaits h ws → Awaits f (text ∷ ws)
awaits_before reads tells empty h text ws m a = absurd m
awaits_before reads tells (word c) h text ws m a = absurd (is_empty (fits reads c text) h ws m a)
awaits_before reads tells (sequence f g) h text ws m a =
    by
    (Among_from_append h (map (λ h. sequence h g) (derivatives reads f text)) (cond (is_skippable f) (derivatives reads g text) []) m)
    (λ k. awaits_before reads tells f k text ws)
    (awaits_before reads tells g h text ws)
  where
    first : (k : Form) → Among k (derivatives reads f text) → (Among k (derivatives reads f text) → Awaits k ws → Awaits f (text ∷ ws))
        → Awaits (sequence k g) ws → Awaits (sequence f g) (text ∷ ws)
    first k b l (inl w) = inl (l b w)
    first k b l (inr w) =
        inr (text ∷ w.0, w.1, ap (λ us. text ∷ us) w.2, derivative_sound reads tells f k text w.0 b w.3, w.4)

    by : Among h (map (λ h. sequence h g) (derivatives reads f text)) ⊎ Among h (cond (is_skippable f) (derivatives reads g text) [])
        → ((k : Form) → Among k (derivatives reads f text) → Awaits k ws → Awaits f (text ∷ ws))
        → (Among h (derivatives reads g text) → Awaits h ws → Awaits g (text ∷ ws))
        → Awaits (sequence f g) (text ∷ ws)
    by (inl n) l r =
        let b = Among_from_map (λ h. sequence h g) h (derivatives reads f text) n in
        first b.0 b.1 (l b.0) (subst (λ k. Awaits k ws) b.2 a)
    by (inr n) l r =
        let p = from_cond (is_skippable f) h (derivatives reads g text) n in
        inr ([], text ∷ ws, refl, skipped f p.0, r p.1 a)
awaits_before reads tells (either f g) h text ws m a =
    elim (Among_from_append h (derivatives reads f text) (derivatives reads g text) m) [
      | inl n ↦ inl (awaits_before reads tells f h text ws n a)
      | inr n ↦ inr (awaits_before reads tells g h text ws n a)
    ]
awaits_before reads tells (many f) h text ws m a =
    let b = Among_from_map (λ h. sequence h (many f)) h (derivatives reads f text) m in
    by b.0 b.1 (awaits_before reads tells f b.0 text ws) (subst (λ k. Awaits k ws) b.2 a)
  where
    by : (k : Form) → Among k (derivatives reads f text) → (Among k (derivatives reads f text) → Awaits k ws → Awaits f (text ∷ ws))
        → Awaits (sequence k (many f)) ws → Awaits (many f) (text ∷ ws)
    by k n l (inl w) = ([], text ∷ ws, refl, has_none f, l n w)
    by k n l (inr w) = (
      (text ∷ w.0) ++ w.4.0,
      w.4.1,
      ap (λ us. text ∷ us) (w.2 ∙ ap (λ us. w.0 ++ us) w.4.2 ∙ sym (append_assoc w.0 w.4.0 w.4.1)),
      has_more f (text ∷ w.0) w.4.0 (derivative_sound reads tells f k text w.0 n w.3) w.4.3,
      w.4.4,
    )

-- ---- `AwaitsOne`: one of several forms allows an expression after the words

abbrev pub AwaitsOne : List Form → Words → Type 0
AwaitsOne forms ws = SomeOf (λ f. Awaits f ws) forms

nothing_sound : (forms : List Form) → some_awaits_next forms ≡ true → AwaitsOne forms []
nothing_sound [] h = cc
nothing_sound (f ∷ forms) h = search (rules, or_cases, next_sound, (nothing_sound forms))

nothing_complete : (forms : List Form) → AwaitsOne forms [] → some_awaits_next forms ≡ true
nothing_complete [] h = absurd h
nothing_complete (f ∷ forms) (inl h) = or_left (awaits_next f) (some_awaits_next forms) (next_complete f h)
nothing_complete (f ∷ forms) (inr h) = or_right (awaits_next f) (some_awaits_next forms) (nothing_complete forms h)

-- if one of the derivatives of the forms by the words ws can begin with an expression, an expression can follow ws in one of the forms
pub awaits_sound : (reads : List ℕ → Bool) → TellsExpressions reads → (forms : List Form) (ws : Words)
    → some_awaits_next (after_words reads forms ws) ≡ true → AwaitsOne forms ws
awaits_sound reads tells forms [] h = nothing_sound forms h
awaits_sound reads tells forms (text ∷ ws) h =
    let a = some_out (λ f. Awaits f ws) (after_word reads forms text) (awaits_sound reads tells (after_word reads forms text) ws h) in
    let b = Among_from_each (λ f. derivatives reads f text) a.0 forms a.1 in
    some_in (λ f. Awaits f (text ∷ ws)) b.0 forms b.1 (awaits_before reads tells b.0 a.0 text ws b.2 a.2)

pub awaits_complete : (reads : List ℕ → Bool) → TellsExpressions reads → (forms : List Form) (ws : Words)
    → AwaitsOne forms ws → some_awaits_next (after_words reads forms ws) ≡ true
awaits_complete reads tells forms [] h = nothing_complete forms h
awaits_complete reads tells forms (text ∷ ws) h =
    let a = some_out (λ f. Awaits f (text ∷ ws)) forms h in
    let n = awaits_after reads tells a.0 text ws a.2 in
    awaits_complete reads tells (after_word reads forms text) ws
    (some_in (λ f. Awaits f ws) n.next (after_word reads forms text)
    (Among-each (λ f. derivatives reads f text) a.0 n.next forms a.1 n.among)
    n.awaits)
