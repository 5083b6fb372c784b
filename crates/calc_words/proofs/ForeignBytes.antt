-- A result of reading words in which each byte outside ASCII is replaced by `?` is a result of reading the words unchanged.
use Rattle.std.proofs.lemmas.Grind.{common_steps}
use Rattle.std.proofs.Common.{◌≡◌, ℕ, zero, suc, ◌<◌, ◌≤◌, ◌==◌, nat_lt, Bool, true, false, not, ◌&&◌, cond, List, [], ◌∷◌, ◌++◌, map, length, length-append, take, refl, sym, ap, ◌∙◌, subst, arith, ◌⊎◌, inl, inr, Result, Ok, Err, rules}
use Rattle.std.specs.Prelude.{slice_index_or}
use Rattle.std.proofs.lemmas.Bool.{ltb-true, ltb-false}
use Rattle.std.proofs.lemmas.List.{take-append-le, get_or_append_left, map-append}
use Rattle.std.proofs.Math.Seq.{get_or-append_seam}
use Rattle.sym_model.specs.Entry.{Entry, BeginsCommand}
use Rattle.sym_model.specs.LongestPrefix.{IsLongestPrefix}
use Rattle.sym_model.specs.Phrase.{BeginsExpression}
use Rattle.sym_model.specs.SyntaxPlace.{IsExpressionWord, IsSyntaxByte, IsSyntaxPlace}
use Rattle.word_laws.specs.Words.{Words}
use Rattle.calc_base.specs.declared.words.WordsFault.{WordsFault}
use Rattle.calc_base.specs.declared.words.WordsFault.TheVariants.{Syntax, Literal, Range, Shape, NoMemory}
use Rattle.calc_words.specs.Commands.{command_of}
use Rattle.calc_words.specs.declared.command.Command.{Command as Read}
use Rattle.calc_words.specs.LineBytes.{seen}
use Rattle.calc_words.specs.Reading.{IsRead}
use Rattle.calc_words.proofs.PlainBytes.{is_plain, are_plain, all_plain, entries_plain, not_plain, not_all_plain, expression_plain, begins_plain, spells_plain, freely_plain, first_plain}

-- ---- the longest prefix with a property, in two lists that agree up to a certain element

abbrev Stops : {A : Type 0} → (List A → Type 0) → List A → A → Type 0
Stops {A} P pre x = (ys : List A) → P (pre ++ x ∷ ys) → ⊥

past : {A : Type 0} (pre : List A) (x : A) (xs : List A) (j : ℕ) → length pre < j → (ys : List A) × (take j (pre ++ x ∷ xs) ≡ pre ++ x ∷ ys)
past [] x xs zero h = absurd (omega (arith, h))
past [] x xs (suc j) h = (take j xs, refl)
past (y ∷ pre) x xs zero h = absurd (omega (arith, h))
past (y ∷ pre) x xs (suc j) h = let r = past pre x xs j (omega (arith, h)) in (r.0, ap (λ ys. y ∷ ys) r.1)

short : {A : Type 0} (P : List A → Type 0) (pre : List A) (x : A) (xs : List A) (j : ℕ) → Stops P pre x → P (take j (pre ++ x ∷ xs)) → j ≤ length pre
short P pre x xs j s h = by (nat_lt (length pre) j) refl
  where
    by : (b : Bool) → nat_lt (length pre) j ≡ b → j ≤ length pre
    by true e = let r = past pre x xs j (ltb-true (length pre) j e) in absurd (s r.0 (subst P r.1 h))
    by false e = ltb-false (length pre) j e

same_front : {A : Type 0} (pre xs ys : List A) (j : ℕ) → j ≤ length pre → take j (pre ++ xs) ≡ take j (pre ++ ys)
same_front pre xs ys j h = take-append-le j pre xs h ∙ sym (take-append-le j pre ys h)

longest_short : {A : Type 0} (P : List A → Type 0) (pre : List A) (x : A) (xs : List A) (k : ℕ) → Stops P pre x → IsLongestPrefix P (pre ++ x ∷ xs) k → k ≤ length pre
longest_short P pre x xs k s h = short P pre x xs k s h.begins

longest_same : {A : Type 0} (P : List A → Type 0) (pre : List A) (x y : A) (xs ys : List A) (k : ℕ) → Stops P pre x → Stops P pre y
    → IsLongestPrefix P (pre ++ x ∷ xs) k → IsLongestPrefix P (pre ++ y ∷ ys) k
longest_same P pre x y xs ys k s t h =
    let few = longest_short P pre x xs k s h in
    record {
      within = let l = length-append pre (y ∷ ys) in omega (arith, few, l);
      begins = subst P (same_front pre (x ∷ xs) (y ∷ ys) k few) h.begins;
      longest = λ j l b.
          let m = short P pre y ys j t b in
          h.longest j (let n = length-append pre (x ∷ xs) in omega (arith, m, n)) (subst P (same_front pre (y ∷ ys) (x ∷ xs) j m) b);
    }

-- ---- the place of the first error of syntax in two lists of words that agree up to a byte

stops_words : (entries : List Entry) (before : Words) (w : List ℕ) → entries_plain entries ≡ true → (are_plain w ≡ true → ⊥) → Stops (BeginsCommand entries) before w
stops_words entries before w p n ys h = not_all_plain before ys w n (begins_plain entries (before ++ w ∷ ys) p h)

stops_bytes : (u : List ℕ) (b : ℕ) → is_plain b ≡ false → Stops BeginsExpression u b
stops_bytes u b n ys h = not_plain u ys b n (expression_plain (u ++ b ∷ ys) h)

moved_word : (entries : List Entry) (before : Words) (w v : List ℕ) (rest more : Words) (k : ℕ) → k ≤ length before
    → IsExpressionWord entries (before ++ w ∷ rest) k → IsExpressionWord entries (before ++ v ∷ more) k
moved_word entries before w v rest more k h e = grind (arith, common_steps)

at_most : (n m : ℕ) → n ≤ m → (n < m) ⊎ (n ≡ m)
at_most n m h = search rules

moved_byte : (before : Words) (u v x : List ℕ) (b c : ℕ) (rest more : Words) (k byte : ℕ) → is_plain b ≡ false → is_plain c ≡ false → k ≤ length before
    → IsLongestPrefix BeginsExpression (slice_index_or (before ++ (u ++ b ∷ v) ∷ rest) k []) byte
    → IsLongestPrefix BeginsExpression (slice_index_or (before ++ (u ++ c ∷ x) ∷ more) k []) byte
moved_byte before u v x b c rest more k byte n m h l = by (at_most k (length before) h)
  where
    by : (k < length before) ⊎ (k ≡ length before) → IsLongestPrefix BeginsExpression (slice_index_or (before ++ (u ++ c ∷ x) ∷ more) k []) byte
    by (inl s) =
        subst (λ t. IsLongestPrefix BeginsExpression t byte)
        (get_or_append_left before ((u ++ b ∷ v) ∷ rest) [] k s ∙ sym (get_or_append_left before ((u ++ c ∷ x) ∷ more) [] k s)) l
    by (inr e) =
        let old : slice_index_or (before ++ (u ++ b ∷ v) ∷ rest) k [] ≡ u ++ b ∷ v =
        ap (λ i. slice_index_or (before ++ (u ++ b ∷ v) ∷ rest) i []) e ∙ get_or-append_seam before (u ++ b ∷ v) rest [] in
        let new : slice_index_or (before ++ (u ++ c ∷ x) ∷ more) k [] ≡ u ++ c ∷ x =
        ap (λ i. slice_index_or (before ++ (u ++ c ∷ x) ∷ more) i []) e ∙ get_or-append_seam before (u ++ c ∷ x) more [] in
        subst (λ t. IsLongestPrefix BeginsExpression t byte) (sym new)
        (longest_same BeginsExpression u b c v x byte (stops_bytes u b n) (stops_bytes u c m) (subst (λ t. IsLongestPrefix BeginsExpression t byte) old l))

moved_place : (entries : List Entry) → entries_plain entries ≡ true → (before : Words) (u v x : List ℕ) (b c : ℕ) (rest more : Words) (k byte : ℕ)
    → is_plain b ≡ false → is_plain c ≡ false → IsSyntaxPlace entries (before ++ (u ++ b ∷ v) ∷ rest) k byte
    → IsSyntaxPlace entries (before ++ (u ++ c ∷ x) ∷ more) k byte
moved_place entries p before u v x b c rest more k byte n m h =
    let old = stops_words entries before (u ++ b ∷ v) p (not_plain u v b n) in
    let new = stops_words entries before (u ++ c ∷ x) p (not_plain u x c m) in
    let few = longest_short (BeginsCommand entries) before (u ++ b ∷ v) rest k old h.word_is in
    record {
      no_command = λ command s. not_all_plain before more (u ++ c ∷ x) (not_plain u x c m) (spells_plain entries (before ++ (u ++ c ∷ x) ∷ more) command p s);
      word_is = longest_same (BeginsCommand entries) before (u ++ b ∷ v) (u ++ c ∷ x) rest more k old new h.word_is;
      byte_is = by few h.byte_is;
    }
  where
    by : k ≤ length before → IsSyntaxByte entries (before ++ (u ++ b ∷ v) ∷ rest) k byte → IsSyntaxByte entries (before ++ (u ++ c ∷ x) ∷ more) k byte
    by few (inl e) =
        inl (moved_word entries before (u ++ b ∷ v) (u ++ c ∷ x) rest more k few e.0, moved_byte before u v x b c rest more k byte n m few e.1)
    by few (inr e) = inr ((λ w. e.0 (moved_word entries before (u ++ c ∷ x) (u ++ b ∷ v) more rest k few w)), e.1)

-- ---- words with a byte outside ASCII, and words without such a byte

record Foreign (w : List ℕ) : Type 0 where
  front : List ℕ
  byte : ℕ
  behind : List ℕ
  is : w ≡ front ++ byte ∷ behind
  kept : seen front ≡ front
  foreign : nat_lt byte 128 ≡ false

told_word : (w : List ℕ) → (seen w ≡ w) ⊎ Foreign w
told_word [] = inl refl
told_word (b ∷ w) = by (nat_lt b 128) refl (told_word w)
  where
    by : (t : Bool) → nat_lt b 128 ≡ t → (seen w ≡ w) ⊎ Foreign w → (seen (b ∷ w) ≡ b ∷ w) ⊎ Foreign (b ∷ w)
    by false e r = inr (record { front = []; byte = b; behind = w; is = refl; kept = refl; foreign = e })
    by true e (inl s) = inl (ap (λ x. cond x b 63 ∷ seen w) e ∙ ap (λ ws. b ∷ ws) s)
    by true e (inr f) =
        inr (record {
          front = b ∷ f.front;
          byte = f.byte;
          behind = f.behind;
          is = ap (λ ws. b ∷ ws) f.is;
          kept = ap (λ x. cond x b 63 ∷ seen f.front) e ∙ ap (λ ws. b ∷ ws) f.kept;
          foreign = f.foreign;
        })

record ForeignWord (words : Words) : Type 0 where
  before : Words
  foreign : List ℕ
  rest : Words
  is : words ≡ before ++ foreign ∷ rest
  kept : map seen before ≡ before
  has : Foreign foreign

told_words : (words : Words) → (map seen words ≡ words) ⊎ ForeignWord words
told_words [] = inl refl
told_words (w ∷ words) = by (told_word w) (told_words words)
  where
    by : (seen w ≡ w) ⊎ Foreign w → (map seen words ≡ words) ⊎ ForeignWord words → (map seen (w ∷ words) ≡ w ∷ words) ⊎ ForeignWord (w ∷ words)
    by (inr f) r = inr (record { before = []; foreign = w; rest = words; is = refl; kept = refl; has = f })
    by (inl s) (inl r) = inl (ap (λ x. x ∷ map seen words) s ∙ ap (λ ws. w ∷ ws) r)
    by (inl s) (inr f) =
        inr (record {
          before = w ∷ f.before;
          foreign = f.foreign;
          rest = f.rest;
          is = ap (λ ws. w ∷ ws) f.is;
          kept = ap (λ x. x ∷ map seen f.before) s ∙ ap (λ ws. w ∷ ws) f.kept;
          has = f.has;
        })

seen_word : (w : List ℕ) (f : Foreign w) → seen w ≡ f.front ++ 63 ∷ seen f.behind
seen_word w f = search (rules, map-append)

seen_words : (words : Words) (f : ForeignWord words) → map seen words ≡ f.before ++ (f.has.front ++ 63 ∷ seen f.has.behind) ∷ map seen f.rest
seen_words words f = search (rules, map-append, seen_word)

not_ascii : (b : ℕ) → nat_lt b 128 ≡ false → is_plain b ≡ false
not_ascii b h = ap (λ t. t && not (b == 63)) h

foreign_seen : (words : Words) → ForeignWord words → all_plain (map seen words) ≡ true → ⊥
foreign_seen words f h =
    not_all_plain f.before (map seen f.rest) (f.has.front ++ 63 ∷ seen f.has.behind) (not_plain f.has.front (seen f.has.behind) 63 refl)
    (sym (ap all_plain (seen_words words f)) ∙ h)

foreign_place : (entries : List Entry) → entries_plain entries ≡ true → (words : Words) → ForeignWord words → (k byte : ℕ)
    → IsSyntaxPlace entries (map seen words) k byte → IsSyntaxPlace entries words k byte
foreign_place entries p words f k byte h =
    let g = f.has in
    subst (λ ws. IsSyntaxPlace entries ws k byte) (sym (f.is ∙ ap (λ w. f.before ++ w ∷ f.rest) g.is))
    (moved_place entries p f.before g.front (seen g.behind) g.behind 63 g.byte (map seen f.rest) f.rest k byte refl (not_ascii g.byte g.foreign)
    (subst (λ ws. IsSyntaxPlace entries ws k byte) (seen_words words f) h))

-- if the fixed words of all commands are ASCII without `?`, then a result of reading the given words, each byte outside
-- ASCII replaced by `?`, is also a result of reading them unchanged
pub seen_read : (entries : List Entry) → entries_plain entries ≡ true → (words : Words) (r : Result Read WordsFault)
    → IsRead entries (map seen words) r → IsRead entries words r
seen_read entries p words r h = by (told_words words)
  where
    foreign : ForeignWord words → (s : Result Read WordsFault) → IsRead entries (map seen words) s → IsRead entries words s
    foreign f (Ok command) h = absurd (foreign_seen words f (freely_plain entries (map seen words) (command_of command) p h.0))
    foreign f (Err (Syntax at)) h = foreign_place entries p words f at.word at.byte h
    foreign f (Err (Literal at)) h = absurd (foreign_seen words f (first_plain entries (map seen words) _ p h))
    foreign f (Err (Range at)) h = absurd (foreign_seen words f (first_plain entries (map seen words) _ p h))
    foreign f (Err (Shape at)) h = absurd (foreign_seen words f (first_plain entries (map seen words) _ p h))
    foreign f (Err NoMemory) h = tt

    by : (map seen words ≡ words) ⊎ ForeignWord words → IsRead entries words r
    by (inl e) = subst (λ ws. IsRead entries ws r) e h
    by (inr f) = foreign f r h
