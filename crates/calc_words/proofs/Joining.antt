-- A command in a list of commands with different names: for words that begin with its name, a result of reading them for this command is a result for
-- the list.
use Rattle.std.proofs.Common.{◌≡◌, ℕ, zero, suc, ◌≤◌, List, [], ◌∷◌, ◌++◌, length, take, ap, arith, Option, Some, Result, Ok, Err, inl, inr, rules}
use Rattle.sym_model.specs.Sum.{Among}
use Rattle.sym_model.specs.Form.{SomeOf, Begins, Awaits}
use Rattle.sym_model.specs.Command.{Command}
use Rattle.sym_model.specs.CommandOffence.{Offence}
use Rattle.sym_model.specs.Entry.{Entry, SpellsBy, OffendsBy, SpellsFreely, SpellsCommand, HasFirstOffence, SpellsWithoutOffence, BeginsCommand, AwaitsExpression}
use Rattle.sym_model.specs.SyntaxPlace.{IsExpressionWord, IsSyntaxByte, IsSyntaxPlace}
use Rattle.word_laws.proofs.LongestPrefixes.{some_in, some_out}
use Rattle.sym_model.specs.ExpressionOffence.{literal, range, shape}
use Rattle.word_laws.specs.Words.{Words}
use Rattle.calc_base.specs.declared.words.WordsFault.{WordsFault}
use Rattle.calc_base.specs.declared.words.WordsFault.TheVariants.{Syntax, Literal, Range, Shape, NoMemory}
use Rattle.calc_words.specs.Commands.{command_of}
use Rattle.calc_words.specs.declared.command.Command.{Command as Read}
use Rattle.calc_words.specs.Joined.{Joined}
use Rattle.calc_words.specs.Reading.{IsRead}

same_first : (a b : List ℕ) (xs ys words : Words) → words ≡ a ∷ xs → words ≡ b ∷ ys → b ≡ a
same_first a b xs ys words h k = cc

own : (e : Entry) (entries : List Entry) → Joined e entries → (P : Entry → Type 0) (words rest : Words) → words ≡ e.name ∷ rest
    → ((f : Entry) → Among f entries → P f → (more : Words) × (words ≡ f.name ∷ more)) → SomeOf P entries → P e
own e entries j P words rest w n s = search (rules, some_out, same_first)

one_of : (e : Entry) (entries : List Entry) → Joined e entries → (P : Entry → Type 0) → SomeOf P (e ∷ []) → SomeOf P entries
one_of e entries j P (inl h) = some_in P e entries j.among h
one_of e entries j P (inr h) = absurd h

pub joined_freely : (e : Entry) (entries : List Entry) → Joined e entries → (words : Words) (c : Command)
    → SpellsWithoutOffence (e ∷ []) words c → SpellsWithoutOffence entries words c
joined_freely e entries j words c h = one_of e entries j (λ f. SpellsFreely f words c) h

pub joined_first : (e : Entry) (entries : List Entry) → Joined e entries → (words : Words) (first : Option Offence)
    → HasFirstOffence (e ∷ []) words first → HasFirstOffence entries words first
joined_first e entries j words first h = one_of e entries j (λ f. OffendsBy f words first) h

own_command : (e : Entry) (entries : List Entry) → Joined e entries → (words rest : Words) (c : Command) → words ≡ e.name ∷ rest
    → SpellsCommand entries words c → SpellsCommand (e ∷ []) words c
own_command e entries j words rest c w s =
    inl (own e entries j (λ f. SpellsBy f words c) words rest w (λ f m h. (j.named f m).spells words h.has) s)

own_begins : (e : Entry) (entries : List Entry) → Joined e entries → (words rest : Words) → words ≡ e.name ∷ rest
    → BeginsCommand entries words → BeginsCommand (e ∷ []) words
own_begins e entries j words rest w s =
    inl (own e entries j (λ f. Begins f.form words) words rest w
    (λ f m h. let x = (j.named f m).spells (words ++ h.0) h.1 in begun words rest e.name f.name h.0 x.0 w x.1) s)
  where
    begun : (ws r : Words) (a b : List ℕ) (more tail : Words) → ws ≡ a ∷ r → ws ++ more ≡ b ∷ tail → (tail : Words) × (ws ≡ b ∷ tail)
    begun [] r a b more tail h k = cc
    begun (x ∷ ws) r a b more tail h k = (ws, (let z : x ≡ b = cc in ap (λ y. y ∷ ws) z))

own_awaits : (e : Entry) (entries : List Entry) → Joined e entries → (words rest : Words) → words ≡ e.name ∷ rest
    → AwaitsExpression entries words → AwaitsExpression (e ∷ []) words
own_awaits e entries j words rest w s =
    inl (own e entries j (λ f. Awaits f.form words) words rest w (λ f m h. (j.named f m).awaits words h) s)

none_awaited : (e : Entry) (entries : List Entry) → Joined e entries → AwaitsExpression entries [] → ⊥
none_awaited e entries j s = search (rules, some_out)

own_word : (e : Entry) (entries : List Entry) → Joined e entries → (words rest : Words) (word : ℕ) → words ≡ e.name ∷ rest
    → IsExpressionWord entries words word → IsExpressionWord (e ∷ []) words word
own_word e entries j words rest zero w x = absurd (none_awaited e entries j x.awaited)
own_word e entries j words rest (suc n) w x = record {
  is_there = x.is_there;
  awaited = own_awaits e entries j (take (suc n) words) (take n rest) (ap (take (suc n)) w) x.awaited;
}

word_of_all : (e : Entry) (entries : List Entry) → Joined e entries → (words : Words) (word : ℕ)
    → IsExpressionWord (e ∷ []) words word → IsExpressionWord entries words word
word_of_all e entries j words word x = search (rules, one_of)

joined_byte : (e : Entry) (entries : List Entry) → Joined e entries → (words rest : Words) (word byte : ℕ) → words ≡ e.name ∷ rest
    → IsSyntaxByte (e ∷ []) words word byte → IsSyntaxByte entries words word byte
joined_byte e entries j words rest word byte w (inl h) = inl (word_of_all e entries j words word h.0, h.1)
joined_byte e entries j words rest word byte w (inr h) = inr ((λ x. h.0 (own_word e entries j words rest word w x)), h.1)

longest_of_all : (e : Entry) (entries : List Entry) → Joined e entries → (words rest : Words) (word : ℕ) → words ≡ e.name ∷ rest
    → ((i : ℕ) → i ≤ length words → BeginsCommand (e ∷ []) (take i words) → i ≤ word)
    → (i : ℕ) → i ≤ length words → BeginsCommand entries (take i words) → i ≤ word
longest_of_all e entries j words rest word w l zero k b = omega arith
longest_of_all e entries j words rest word w l (suc n) k b =
    l (suc n) k (own_begins e entries j (take (suc n) words) (take n rest) (ap (take (suc n)) w) b)

-- let e be in a list of commands with different names (`Joined`), and let words begin with the name of e. The place of the first error of syntax in
-- the words, for the list that has only e, is also the place of this error for the whole list
pub joined_syntax : (e : Entry) (entries : List Entry) → Joined e entries → (words rest : Words) (word byte : ℕ) → words ≡ e.name ∷ rest
    → IsSyntaxPlace (e ∷ []) words word byte → IsSyntaxPlace entries words word byte
joined_syntax e entries j words rest word byte w p = record {
  no_command = λ c s. p.no_command c (own_command e entries j words rest c w s);
  word_is = record {
    within = p.word_is.within;
    begins = one_of e entries j (λ f. Begins f.form (take word words)) p.word_is.begins;
    longest = longest_of_all e entries j words rest word w p.word_is.longest;
  };
  byte_is = joined_byte e entries j words rest word byte w p.byte_is;
}

-- let e be in a list of commands with different names (`Joined`), and let words begin with the name of e: a correct result of reading them for the
-- list that has only e is correct for the whole list
pub joined_read : (e : Entry) (entries : List Entry) → Joined e entries → (words rest : Words) → words ≡ e.name ∷ rest
    → (r : Result Read WordsFault) → IsRead (e ∷ []) words r → IsRead entries words r
joined_read e entries j words rest w (Ok command) h = (joined_freely e entries j words (command_of command) h.0, h.1)
joined_read e entries j words rest w (Err (Syntax at)) h = joined_syntax e entries j words rest at.word at.byte w h
joined_read e entries j words rest w (Err (Literal at)) h = joined_first e entries j words (Some (at.word, at.byte, literal)) h
joined_read e entries j words rest w (Err (Range at)) h = joined_first e entries j words (Some (at.word, at.byte, range)) h
joined_read e entries j words rest w (Err (Shape at)) h = joined_first e entries j words (Some (at.word, at.byte, shape)) h
joined_read e entries j words rest w (Err NoMemory) h = tt
