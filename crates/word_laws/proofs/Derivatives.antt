-- Derivatives of forms, which are patterns of words: a word followed by ws is of a form if and only if ws is of one of the derivatives of the form
-- by this word.
use Rattle.std.proofs.Common.{◌≡◌, ℕ, Bool, true, false, cond, List, [], ◌∷◌, ◌++◌, map, refl, sym, ap, ◌∙◌, subst, ◌⊎◌, inl, inr, flat_map, rules}
use Rattle.std.proofs.lemmas.Bool.{and_parts, and_from, or_cases, or_left, or_right}
use Rattle.sym_model.specs.Sum.{Among}
use Rattle.sym_model.proofs.Sums.{Among-append_left, Among-append_right, Among_from_append, Among-map, Among_from_map}
use Rattle.sym_model.specs.Form.{Form, empty, word, sequence, either, many, Written, words_of, May, Has, is_skippable, derivatives, TellsExpressions}
use Rattle.word_laws.proofs.Classes.{fits_sound, fits_complete}
use Rattle.word_laws.specs.Words.{Words}

pub has_sequence : (f g : Form) (us vs : Words) → Has f us → Has g vs → Has (sequence f g) (us ++ vs)
has_sequence f g us vs h k = record {
  written = (h.written, k.written);
  allowed = (h.allowed, k.allowed);
  spelled = ap (λ ws. ws ++ vs) h.spelled ∙ ap (λ ws. words_of f h.written ++ ws) k.spelled;
}

pub record Parts (f g : Form) (ws : Words) : Type 0 where
  pub before : Words
  pub after : Words
  pub are : ws ≡ before ++ after
  pub first : Has f before
  pub second : Has g after

pub sequence_parts : (f g : Form) (ws : Words) → Has (sequence f g) ws → Parts f g ws
sequence_parts f g ws h = search rules

pub has_left : (f g : Form) (ws : Words) → Has f ws → Has (either f g) ws
has_left f g ws h = record { written = inl h.written; allowed = h.allowed; spelled = h.spelled }

pub has_right : (f g : Form) (ws : Words) → Has g ws → Has (either f g) ws
has_right f g ws h = record { written = inr h.written; allowed = h.allowed; spelled = h.spelled }

pub has_more : (f : Form) (us vs : Words) → Has f us → Has (many f) vs → Has (many f) (us ++ vs)
has_more f us vs h k = record {
  written = h.written ∷ k.written;
  allowed = (h.allowed, k.allowed);
  spelled = ap (λ ws. ws ++ vs) h.spelled ∙ ap (λ ws. words_of f h.written ++ ws) k.spelled;
}

pub has_none : (f : Form) → Has (many f) []
has_none f = record { written = []; allowed = tt; spelled = refl }

pub skipped : (f : Form) → is_skippable f ≡ true → Has f []
skipped empty h = record { written = tt; allowed = tt; spelled = refl }
skipped (word c) h = cc
skipped (sequence f g) h =
    let p = and_parts (is_skippable f) (is_skippable g) h in
    has_sequence f g [] [] (skipped f p.0) (skipped g p.1)
skipped (either f g) h = by (or_cases (is_skippable f) (is_skippable g) h) (skipped f) (skipped g)
  where
    by : (is_skippable f ≡ true) ⊎ (is_skippable g ≡ true) → (is_skippable f ≡ true → Has f []) → (is_skippable g ≡ true → Has g [])
        → Has (either f g) []
    by (inl e) l r = has_left f g [] (l e)
    by (inr e) l r = has_right f g [] (r e)
skipped (many f) h = has_none f

pub no_append : (us vs : Words) → us ++ vs ≡ [] → (us ≡ []) × (vs ≡ [])
no_append [] vs h = (refl, h)
no_append (u ∷ us) vs h = cc

pub skippable : (f : Form) (x : Written f) → words_of f x ≡ [] → is_skippable f ≡ true
skippable empty x h = refl
skippable (word c) x h = cc
skippable (sequence f g) x h =
    let p = no_append (words_of f x.0) (words_of g x.1) h in
    and_from (is_skippable f) (is_skippable g) (skippable f x.0 p.0) (skippable g x.1 p.1)
skippable (either f g) (inl x) h = or_left (is_skippable f) (is_skippable g) (skippable f x h)
skippable (either f g) (inr x) h = or_right (is_skippable f) (is_skippable g) (skippable g x h)
skippable (many f) x h = refl

pub among_cond : {A : Type 0} (b : Bool) (x : A) (xs : List A) → Among x (cond b xs []) → (b ≡ true) × Among x xs
among_cond true x xs m = (refl, m)
among_cond false x xs m = absurd m

pub among_cond_true : {A : Type 0} (b : Bool) (x : A) (xs : List A) → b ≡ true → Among x xs → Among x (cond b xs [])
among_cond_true true x xs h m = m
among_cond_true false x xs h m = cc

-- if the words ws are of a derivative of f by the word `text`, then `text` followed by ws is of the form f
pub derivative_sound : (reads : List ℕ → Bool) → TellsExpressions reads → (f h : Form) (text : List ℕ) (ws : Words)
    → Among h (derivatives reads f text) → Has h ws → Has f (text ∷ ws)
derivative_sound reads tells empty h text ws m k = absurd m
derivative_sound reads tells (word c) h text ws m k = search (rules, among_cond, fits_sound)
derivative_sound reads tells (sequence f g) h text ws m k =
    by
    (Among_from_append h (map (λ h. sequence h g) (derivatives reads f text)) (cond (is_skippable f) (derivatives reads g text) []) m)
    (derivative_sound reads tells f)
    (derivative_sound reads tells g)
  where
    by : Among h (map (λ h. sequence h g) (derivatives reads f text)) ⊎ Among h (cond (is_skippable f) (derivatives reads g text) [])
        → ((h : Form) (text : List ℕ) (ws : Words) → Among h (derivatives reads f text) → Has h ws → Has f (text ∷ ws))
        → ((h : Form) (text : List ℕ) (ws : Words) → Among h (derivatives reads g text) → Has h ws → Has g (text ∷ ws))
        → Has (sequence f g) (text ∷ ws)
    by (inl a) l r =
        let b = Among_from_map (λ h. sequence h g) h (derivatives reads f text) a in
        let q = sequence_parts b.0 g ws (subst (λ f. Has f ws) b.2 k) in
        subst (Has (sequence f g)) (sym (ap (λ w. text ∷ w) q.are))
        (has_sequence f g (text ∷ q.before) q.after (l b.0 text q.before b.1 q.first) q.second)
    by (inr a) l r =
        let p = among_cond (is_skippable f) h (derivatives reads g text) a in
        has_sequence f g [] (text ∷ ws) (skipped f p.0) (r h text ws p.1 k)
derivative_sound reads tells (either f g) h text ws m k =
    elim (Among_from_append h (derivatives reads f text) (derivatives reads g text) m) [
      | inl a ↦ has_left f g (text ∷ ws) (derivative_sound reads tells f h text ws a k)
      | inr a ↦ has_right f g (text ∷ ws) (derivative_sound reads tells g h text ws a k)
    ]
derivative_sound reads tells (many f) h text ws m k =
    let b = Among_from_map (λ h. sequence h (many f)) h (derivatives reads f text) m in
    let q = sequence_parts b.0 (many f) ws (subst (λ f. Has f ws) b.2 k) in
    subst (Has (many f)) (sym (ap (λ w. text ∷ w) q.are))
    (has_more f (text ∷ q.before) q.after (derivative_sound reads tells f b.0 text q.before b.1 q.first) q.second)

-- the words ws are of some derivative of the form f by the word `text`
pub record Follows (reads : List ℕ → Bool) (f : Form) (text : List ℕ) (ws : Words) : Type 0 where
  pub next : Form
  pub among : Among next (derivatives reads f text)
  pub has : Has next ws

abbrev pub CompleteAt : (List ℕ → Bool) → Form → Type 0
CompleteAt reads f = (x : Written f) → May f x → (text : List ℕ) (ws : Words) → words_of f x ≡ text ∷ ws → Follows reads f text ws

-- if us followed by vs is `text` followed by ws, either us begins with `text`, or us is empty and vs begins with `text`
pub data Splits (us vs : Words) (text : List ℕ) (ws : Words) : Type 0 where
  inside : (rest : Words) → us ≡ text ∷ rest → ws ≡ rest ++ vs → Splits us vs text ws
  behind : us ≡ [] → vs ≡ text ∷ ws → Splits us vs text ws

pub splits : (us vs : Words) (text : List ℕ) (ws : Words) → us ++ vs ≡ text ∷ ws → Splits us vs text ws
splits [] vs text ws h = behind refl h
splits (u ∷ us) vs text ws h = let e : u ≡ text = cc in let k : us ++ vs ≡ ws = cc in inside us (ap (λ t. t ∷ us) e) (sym k)

sequence_complete : (reads : List ℕ → Bool) (f g : Form) → CompleteAt reads f → CompleteAt reads g → CompleteAt reads (sequence f g)
sequence_complete reads f g l r x a text ws h = by (splits (words_of f x.0) (words_of g x.1) text ws h)
  where
    by : Splits (words_of f x.0) (words_of g x.1) text ws → Follows reads (sequence f g) text ws
    by (inside rest e k) =
        let n = l x.0 a.0 text rest e in
        record {
          next = sequence n.next g;
          among = Among-append_left (sequence n.next g) (map (λ h. sequence h g) (derivatives reads f text)) (cond (is_skippable f) (derivatives reads g text) [])
              (Among-map (λ h. sequence h g) n.next (derivatives reads f text) n.among);
          has = subst (Has (sequence n.next g)) (sym k)
              (has_sequence n.next g rest (words_of g x.1) n.has (record { written = x.1; allowed = a.1; spelled = refl }));
        }
    by (behind e k) =
        let n = r x.1 a.1 text ws k in
        record {
          next = n.next;
          among = Among-append_right n.next (map (λ h. sequence h g) (derivatives reads f text)) (cond (is_skippable f) (derivatives reads g text) [])
              (among_cond_true (is_skippable f) n.next (derivatives reads g text) (skippable f x.0 e) n.among);
          has = n.has;
        }

many_complete : (reads : List ℕ → Bool) (f : Form) → CompleteAt reads f → CompleteAt reads (many f)
many_complete reads f l [] a text ws h = cc
many_complete reads f l (x ∷ xs) a text ws h =
    by (splits (words_of f x) (flat_map (words_of f) xs) text ws h) (many_complete reads f l xs a.1 text ws)
  where
    by : Splits (words_of f x) (flat_map (words_of f) xs) text ws → (flat_map (words_of f) xs ≡ text ∷ ws → Follows reads (many f) text ws)
        → Follows reads (many f) text ws
    by (inside rest e k) again =
        let n = l x a.0 text rest e in
        record {
          next = sequence n.next (many f);
          among = Among-map (λ h. sequence h (many f)) n.next (derivatives reads f text) n.among;
          has = subst (Has (sequence n.next (many f))) (sym k)
              (has_sequence n.next (many f) rest (flat_map (words_of f) xs) n.has (record { written = xs; allowed = a.1; spelled = refl }));
        }
    by (behind e k) again = again k

-- if a word followed by ws is of the form f, then ws is of some derivative of f by this word
pub derivative_complete : (reads : List ℕ → Bool) → TellsExpressions reads → (f : Form) → CompleteAt reads f
derivative_complete reads tells empty x a text ws h = cc
derivative_complete reads tells (word c) x a text ws h = search (rules, among_cond_true, fits_complete)
derivative_complete reads tells (sequence f g) x a text ws h =
    sequence_complete reads f g (derivative_complete reads tells f) (derivative_complete reads tells g) x a text ws h
derivative_complete reads tells (either f g) (inl x) a text ws h =
    search (rules, Among-append_left, (derivative_complete reads tells f x a text ws h))
derivative_complete reads tells (either f g) (inr x) a text ws h =
    search (rules, Among-append_right, (derivative_complete reads tells g x a text ws h))
derivative_complete reads tells (many f) x a text ws h =
    many_complete reads f (derivative_complete reads tells f) x a text ws h
