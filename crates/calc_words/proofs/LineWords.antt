-- The words of a line, read one byte after another.
use Rattle.std.proofs.Common.{◌≡◌, ℕ, zero, suc, ◌+◌, ◌<◌, ◌≤◌, ◌==◌, nat_lt, Bool, true, false, ◌||◌, cond, List, [], ◌∷◌, ◌++◌, append_assoc, map, length, drop, get_or, drop-cons, refl, sym, ap, ◌∙◌, arith, filter, flat_map, rules}
use Rattle.std.proofs.lemmas.List.{append-nil, length-map, map-append}
use Rattle.std.proofs.Math.ListN.{drop_of_length-le}
use Rattle.sym_model.specs.BatchLine.{is_some_text, words_of_line, without_return}
use Rattle.sym_model.specs.NumberText.{split_at, before_first}
use Rattle.word_laws.specs.Words.{Words}
use Rattle.calc_words.specs.LineBytes.{seen_byte, seen, word_with_bytes, is_space}

-- the words of the text that consists of `word`, which has no space or tab, and the rest of a line
abbrev pub words_from : List ℕ → List ℕ → Words
words_from word [] = word_with_bytes word
words_from word (byte ∷ line) = cond (is_space byte) (word_with_bytes word ++ words_from [] line) (words_from (word ++ byte ∷ []) line)

-- ---- proof that the words read byte by byte are those of the definition (`words_of_line`)

abbrev continued : List ℕ → Words → Words
continued word [] = word ∷ []
continued word (piece ∷ pieces) = (word ++ piece) ∷ pieces

abbrev pieces_of : List ℕ → Words
pieces_of line = flat_map (split_at 9) (split_at 32 line)

split_some : (s : ℕ) (line : List ℕ) → (p : List ℕ) × (ps : Words) × (split_at s line ≡ p ∷ ps)
split_some s [] = ([], [], refl)
split_some s (b ∷ line) = by (b == s) refl (split_some s line)
  where
    by : (t : Bool) → (b == s) ≡ t → (p : List ℕ) × (ps : Words) × (split_at s line ≡ p ∷ ps) → (p : List ℕ) × (ps : Words) × (split_at s (b ∷ line) ≡ p ∷ ps)
    by true e r = ([], split_at s line, ap (λ x. cond x ([] ∷ split_at s line) (before_first b (split_at s line))) e)
    by false e r =
        (b ∷ r.0, r.1, ap (λ x. cond x ([] ∷ split_at s line) (before_first b (split_at s line))) e ∙ ap (before_first b) r.2)

some_pieces : (line : List ℕ) → (p : List ℕ) × (ps : Words) × (pieces_of line ≡ p ∷ ps)
some_pieces line =
    let r = split_some 32 line in
    let q = split_some 9 r.0 in
    (q.0, q.1 ++ flat_map (split_at 9) r.1, ap (flat_map (split_at 9)) r.2 ∙ ap (λ ps. ps ++ flat_map (split_at 9) r.1) q.2)

space_pieces : (b : ℕ) (line : List ℕ) → is_space b ≡ true → pieces_of (b ∷ line) ≡ [] ∷ pieces_of line
space_pieces b line h = by (b == 32) (b == 9) refl refl h
  where
    tab : (n : ℕ) → (n == 9) ≡ true → (ps : Words) (p : List ℕ) (qs : Words) → ps ≡ p ∷ qs → flat_map (split_at 9) (before_first n ps) ≡ [] ∷ flat_map (split_at 9) ps
    tab n e ps p qs s =
        ap (λ x. flat_map (split_at 9) (before_first n x)) s
        ∙ ap (λ t. cond t ([] ∷ split_at 9 p) (before_first n (split_at 9 p)) ++ flat_map (split_at 9) qs) e
        ∙ sym (ap (λ x. [] ∷ flat_map (split_at 9) x) s)

    by : (x y : Bool) → (b == 32) ≡ x → (b == 9) ≡ y → (x || y) ≡ true → pieces_of (b ∷ line) ≡ [] ∷ pieces_of line
    by true y e f g = ap (λ t. flat_map (split_at 9) (cond t ([] ∷ split_at 32 line) (before_first b (split_at 32 line)))) e
    by false true e f g =
        let r = split_some 32 line in
        ap (λ t. flat_map (split_at 9) (cond t ([] ∷ split_at 32 line) (before_first b (split_at 32 line)))) e ∙ tab b f (split_at 32 line) r.0 r.1 r.2
    by false false e f g = cc

other_pieces : (b : ℕ) (line : List ℕ) → is_space b ≡ false → pieces_of (b ∷ line) ≡ before_first b (pieces_of line)
other_pieces b line h = by (b == 32) (b == 9) refl refl h
  where
    front : (ps : Words) (p : List ℕ) (qs more : Words) → ps ≡ p ∷ qs → before_first b ps ++ more ≡ before_first b (ps ++ more)
    front ps p qs more s = ap (λ x. before_first b x ++ more) s ∙ sym (ap (λ x. before_first b (x ++ more)) s)

    inner : (ps : Words) (p : List ℕ) (qs : Words) → (b == 9) ≡ false → ps ≡ p ∷ qs → flat_map (split_at 9) (before_first b ps) ≡ before_first b (flat_map (split_at 9) ps)
    inner ps p qs f s =
        let r = split_some 9 p in
        ap (λ x. flat_map (split_at 9) (before_first b x)) s
        ∙ ap (λ t. cond t ([] ∷ split_at 9 p) (before_first b (split_at 9 p)) ++ flat_map (split_at 9) qs) f
        ∙ front (split_at 9 p) r.0 r.1 (flat_map (split_at 9) qs) r.2
        ∙ sym (ap (λ x. before_first b (flat_map (split_at 9) x)) s)

    by : (x y : Bool) → (b == 32) ≡ x → (b == 9) ≡ y → (x || y) ≡ false → pieces_of (b ∷ line) ≡ before_first b (pieces_of line)
    by true y e f g = cc
    by false true e f g = cc
    by false false e f g =
        let r = split_some 32 line in
        ap (λ t. flat_map (split_at 9) (cond t ([] ∷ split_at 32 line) (before_first b (split_at 32 line)))) e ∙ inner (split_at 32 line) r.0 r.1 f r.2

continued_front : (w : List ℕ) (b : ℕ) (ps : Words) (p : List ℕ) (qs : Words) → ps ≡ p ∷ qs → continued w (before_first b ps) ≡ continued (w ++ b ∷ []) ps
continued_front w b ps p qs s = search (rules, append_assoc)

continued_nothing : (ps : Words) (p : List ℕ) (qs : Words) → ps ≡ p ∷ qs → ps ≡ continued [] ps
continued_nothing ps p qs s = s ∙ sym (ap (continued []) s)

select_front : (w : List ℕ) (ws : Words) → filter is_some_text (w ∷ ws) ≡ word_with_bytes w ++ filter is_some_text ws
select_front w ws = search rules

words_continued : (w line : List ℕ) → filter is_some_text (continued w (pieces_of line)) ≡ words_from w line
words_continued w [] = ap (λ x. filter is_some_text (x ∷ [])) (append-nil w) ∙ select_front w [] ∙ append-nil (word_with_bytes w)
words_continued w (b ∷ line) = by (is_space b) refl (words_continued [] line) (words_continued (w ++ b ∷ []) line)
  where
    by : (t : Bool) → is_space b ≡ t → filter is_some_text (continued [] (pieces_of line)) ≡ words_from [] line
        → filter is_some_text (continued (w ++ b ∷ []) (pieces_of line)) ≡ words_from (w ++ b ∷ []) line
        → filter is_some_text (continued w (pieces_of (b ∷ line))) ≡ words_from w (b ∷ line)
    by true e r q =
        let s = some_pieces line in
        ap (λ ps. filter is_some_text (continued w ps)) (space_pieces b line e)
        ∙ ap (λ x. filter is_some_text (x ∷ pieces_of line)) (append-nil w)
        ∙ select_front w (pieces_of line)
        ∙ ap (λ ws. word_with_bytes w ++ ws) (ap (filter is_some_text) (continued_nothing (pieces_of line) s.0 s.1 s.2) ∙ r)
        ∙ sym (ap (λ t. cond t (word_with_bytes w ++ words_from [] line) (words_from (w ++ b ∷ []) line)) e)
    by false e r q =
        let s = some_pieces line in
        ap (λ ps. filter is_some_text (continued w ps)) (other_pieces b line e)
        ∙ ap (filter is_some_text) (continued_front w b (pieces_of line) s.0 s.1 s.2)
        ∙ q
        ∙ sym (ap (λ t. cond t (word_with_bytes w ++ words_from [] line) (words_from (w ++ b ∷ []) line)) e)

words_read : (line : List ℕ) → words_of_line line ≡ words_from [] line
words_read line =
    let s = some_pieces line in
    ap (filter is_some_text) (continued_nothing (pieces_of line) s.0 s.1 s.2) ∙ words_continued [] line

-- ---- the words of a line in which each byte outside ASCII is replaced by `?`

some_seen : (w : List ℕ) → is_some_text (seen w) ≡ is_some_text w
some_seen w = ap (λ n. nat_lt 0 n) (length-map w seen_byte)

with_bytes_seen : (w : List ℕ) → word_with_bytes (seen w) ≡ map seen (word_with_bytes w)
with_bytes_seen w = search (rules, some_seen)

space_seen : (b : ℕ) → is_space (seen_byte b) ≡ is_space b
space_seen b = search rules

words_seen : (w line : List ℕ) → words_from (seen w) (seen line) ≡ map seen (words_from w line)
words_seen w [] = with_bytes_seen w
words_seen w (b ∷ line) = ap (λ t. cond t (word_with_bytes (seen w) ++ words_from [] (seen line)) (words_from (seen w ++ seen_byte b ∷ []) (seen line))) (space_seen b)
    ∙ by (is_space b) (words_seen [] line) (words_seen (w ++ b ∷ []) line)
  where
    by : (t : Bool) → words_from [] (seen line) ≡ map seen (words_from [] line) → words_from (seen (w ++ b ∷ [])) (seen line) ≡ map seen (words_from (w ++ b ∷ []) line)
        → cond t (word_with_bytes (seen w) ++ words_from [] (seen line)) (words_from (seen w ++ seen_byte b ∷ []) (seen line))
        ≡ map seen (cond t (word_with_bytes w ++ words_from [] line) (words_from (w ++ b ∷ []) line))
    by true r q =
        ap (λ ws. ws ++ words_from [] (seen line)) (with_bytes_seen w)
        ∙ ap (λ ws. map seen (word_with_bytes w) ++ ws) r
        ∙ sym (map-append seen (word_with_bytes w) (words_from [] line))
    by false r q = ap (λ v. words_from v (seen line)) (sym (map-append seen_byte w (b ∷ []))) ∙ q

-- replacing each byte outside ASCII by `?` (`seen`) before a line is divided into words gives the same words as replacing it in the words of the line
pub kept_words : (line : List ℕ) → words_from [] (seen line) ≡ map seen (words_of_line line)
kept_words line = words_seen [] line ∙ ap (map seen) (sym (words_read line))

-- ---- the words of a line that is read up to a certain byte

get_seen : (line : List ℕ) (i : ℕ) → i < length line → get_or (seen line) i 0 ≡ seen_byte (get_or line i 0)
get_seen [] i h = absurd (omega (arith, h))
get_seen (b ∷ line) zero h = refl
get_seen (b ∷ line) (suc i) h = get_seen line i (omega (arith, h))

byte_at : (line : List ℕ) (i : ℕ) → i < length line → drop i (seen line) ≡ seen_byte (get_or line i 0) ∷ drop (i + 1) (seen line)
byte_at line i h =
    drop-cons (seen line) i 0 (let l = length-map line seen_byte in omega (arith, h, l))
    ∙ ap (λ b. b ∷ drop (suc i) (seen line)) (get_seen line i h)
    ∙ ap (λ j. seen_byte (get_or line i 0) ∷ drop j (seen line)) (let e : suc i ≡ i + 1 = omega arith in e)

-- the line is read up to place i, with `?` in place of each byte outside ASCII: `words` are the words that have ended before place i, and `word` has
-- the bytes before place i of the word that may go on at place i
abbrev pub AreWordsSo : List ℕ → ℕ → Words → List ℕ → Type 0
AreWordsSo line i words word = words_from [] (seen line) ≡ words ++ words_from word (drop i (seen line))

pub space_read : (line : List ℕ) (i : ℕ) (words more : Words) (word : List ℕ) → i < length line → is_space (get_or line i 0) ≡ true
    → more ≡ words ++ word_with_bytes word → AreWordsSo line i words word → AreWordsSo line (i + 1) more []
space_read line i words more word h s m a = search (rules, byte_at, space_seen, append_assoc)

pub byte_read : (line : List ℕ) (i : ℕ) (words : Words) (word longer : List ℕ) → i < length line → is_space (get_or line i 0) ≡ false
    → longer ≡ word ++ seen_byte (get_or line i 0) ∷ [] → AreWordsSo line i words word → AreWordsSo line (i + 1) words longer
byte_read line i words word longer h s m a = search (rules, byte_at, space_seen)

pub all_read : (line : List ℕ) (i : ℕ) (words more : Words) (word : List ℕ) → length line ≤ i → more ≡ words ++ word_with_bytes word
    → AreWordsSo line i words word → more ≡ map seen (words_of_line line)
all_read line i words more word h m a = search (rules, drop_of_length-le, length-map, kept_words)

pub return_dropped : (front : List ℕ) (last : ℕ) → (last == 13) ≡ true → without_return (front ++ last ∷ []) ≡ front
return_dropped [] last h = ap (λ t. cond t [] (last ∷ [])) h
return_dropped (a ∷ []) last h = ap (λ t. a ∷ cond t [] (last ∷ [])) h
return_dropped (a ∷ b ∷ front) last h = ap (λ xs. a ∷ xs) (return_dropped (b ∷ front) last h)

pub no_return : (front : List ℕ) (last : ℕ) → (last == 13) ≡ false → without_return (front ++ last ∷ []) ≡ front ++ last ∷ []
no_return [] last h = ap (λ t. cond t [] (last ∷ [])) h
no_return (a ∷ []) last h = ap (λ t. a ∷ cond t [] (last ∷ [])) h
no_return (a ∷ b ∷ front) last h = ap (λ xs. a ∷ xs) (no_return (b ∷ front) last h)
