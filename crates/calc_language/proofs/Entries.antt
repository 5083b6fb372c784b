-- Each command has an entry with its name and the form of its words. This file is on the entry that `entry_named` finds for a name, and on words
-- whose first word is the name of no command.
use Rattle.std.proofs.Common.{◌≡◌, ℕ, ◌<◌, Bool, true, false, cond, List, [], ◌∷◌, length, refl, sym, ap, ◌∙◌, subst, inl, inr, ◌⊎◌, Option, Some, None, Result, Ok, Err, rules}
use Rattle.std.specs.Prelude.{IfOk, codes}
use Rattle.sym_model.specs.Sum.{Among}
use Rattle.sym_model.specs.Polynomial.{same}
use Rattle.sym_model.specs.Form.{EachOf}
use Rattle.sym_model.specs.Entry.{Entry}
use Rattle.sym_model.specs.Grammar.{all_entries, line_entries, batch_entry, work_entry}
use Rattle.sym_model.specs.SyntaxPlace.{IsSyntaxPlace}
use Rattle.sym_model.proofs.Exponents.{same_true, same_from, same_apart}
use Rattle.sym_model.proofs.Sums.{Among_from_append, Among-append_left}
use Rattle.word_laws.specs.Words.{Words}
use Rattle.word_laws.specs.Reading.{forms_of}
use Rattle.word_laws.proofs.LongestPrefixes.{CanBe}
use Rattle.calc_base.specs.declared.words.WordsFault.{WordsFault}
use Rattle.calc_base.specs.declared.words.WordsFault.TheVariants.{Syntax}
use Rattle.calc_words.specs.declared.command.Command.{Command}
use Rattle.calc_words.specs.Reading.{IsRead as IsReadBy}
use Rattle.calc_words.proofs.CutWords.{first_text}
use Rattle.calc_words.proofs.Joining.{joined_read}
use Rattle.calc_words.proofs.WrittenCommands.{words_keep}
use Rattle.calc_words.specs.ReadParts.{entry_named}
use Rattle.calc_language.specs.Reading.{command_of, IsReadAs, IsRead, IsWithinItsLimits}
use Rattle.calc_language.proofs.NamedEntries.{IsLed, are_named_apart, each_among, one_named, led_named, unnamed}
use Rattle.std.proofs.lemmas.Bool.{both_ways}

some_same : (e f : Entry) → Some f ≡ Some e → f ≡ e
some_same e f h = cc

found : (w : List ℕ) (entries : List Entry) (e : Entry) → entry_named w entries ≡ Some e → Among e entries × (w ≡ e.name)
found w [] e h = cc
found w (f ∷ entries) e h = search (rules, some_same, same_true, (found w entries e))

none_found : (w : List ℕ) (entries : List Entry) → entry_named w entries ≡ None → (e : Entry) → Among e entries → w ≡ e.name → ⊥
none_found w [] h e m n = absurd m
none_found w (f ∷ entries) h e m n = by (same w f.name) refl h m (λ k a. none_found w entries k e a n)
  where
    by : (b : Bool) → same w f.name ≡ b → cond b (Some f) (entry_named w entries) ≡ None → Among e (f ∷ entries)
        → (entry_named w entries ≡ None → Among e entries → ⊥) → ⊥
    by true s k m later = cc
    by false s k (inl q) later = absurd (both_ways (same w f.name) s (same_from w f.name (n ∙ ap (λ (x : Entry). x.name) q)))
    by false s k (inr m) later = later k m

pub none_named : (w : List ℕ) (entries : List Entry) → EachOf (λ (e : Entry). w ≡ e.name → ⊥) entries → entry_named w entries ≡ None
none_named w [] h = refl
none_named w (e ∷ entries) h = ap (λ b. cond b (Some e) (entry_named w entries)) (same_apart w e.name h.0) ∙ none_named w entries h.1

-- the commands of the list can be told apart: the form of each command begins with its name, some words have this form, the names are different, and
-- the list is not empty
pub record AreTold (entries : List Entry) : Type 0 where
  pub led : EachOf IsLed entries
  pub can : CanBe (forms_of entries)
  pub some : 0 < length entries
  pub apart : are_named_apart entries ≡ true

wrong_first : (entries : List Entry) (words : Words) (r : Result Command WordsFault) → IsSyntaxPlace entries words 0 0
    → r ≡ Err (Syntax (record { word = 0; byte = 0 })) → IsReadBy entries words r
wrong_first entries words r p h = subst (λ x. IsReadBy entries words x) (sym h) p

-- let `entries` be commands of `all` with different names (`AreTold`), among them each command of `all` with the name w, and let words begin with w.
-- Then a correct result of reading the words as the command of `all` with the name w (`IsReadAs`) is a correct result of reading them for `entries`
pub named_among : (all entries : List Entry) → AreTold entries → (w : List ℕ) (words rest : Words) (r : Result Command WordsFault) → words ≡ w ∷ rest
    → ((e : Entry) → Among e all → w ≡ e.name → Among e entries) → ((e : Entry) → Among e entries → Among e all)
    → IsReadAs (entry_named w all) words r → IsReadBy entries words r
named_among all entries t w words rest r is here there h = by (entry_named w all) refl h
  where
    by : (o : Option Entry) → entry_named w all ≡ o → IsReadAs o words r → IsReadBy entries words r
    by None s k =
        wrong_first entries words r
        (subst (λ ws. IsSyntaxPlace entries ws 0 0) (sym is)
        (unnamed entries t.led t.can t.some (w ∷ rest) (λ e m b. none_found w all s e (there e m) (first_text w e.name rest b.0 b.1)))) k
    by (Some e) s k =
        let f = found w all e s in
        let m = here e f.0 f.1 in
        joined_read e entries
        (record { among = m; alone = λ f n q. one_named entries t.apart e f m n q; named = λ f n. led_named f (each_among IsLed entries t.led f n) })
        words rest (is ∙ ap (λ v. v ∷ rest) f.1) r k

-- ---- the commands of the command line, and those of a line of a batch, have different names

pub commands_told : AreTold all_entries
commands_told = search rules

pub lines_told : AreTold line_entries
lines_told = search rules

pub read_named : (w : List ℕ) (words rest : Words) (r : Result Command WordsFault) → words ≡ w ∷ rest
    → IsReadAs (entry_named w all_entries) words r → IsRead words r
read_named w words rest r is h = named_among all_entries all_entries commands_told w words rest r is (λ e m n. m) (λ e m. m) h

pub read_in_line : (w : List ℕ) (words rest : Words) (r : Result Command WordsFault) → words ≡ w ∷ rest
    → (w ≡ codes "batch" → ⊥) → (w ≡ codes "work" → ⊥)
    → IsReadAs (entry_named w all_entries) words r → IsReadBy line_entries words r
read_in_line w words rest r is b k h = named_among all_entries line_entries lines_told w words rest r is here there h
  where
    there : (e : Entry) → Among e line_entries → Among e all_entries
    there e m = Among-append_left e line_entries (batch_entry ∷ work_entry ∷ []) m

    here : (e : Entry) → Among e all_entries → w ≡ e.name → Among e line_entries
    here e m n = by (Among_from_append e line_entries (batch_entry ∷ work_entry ∷ []) m)
      where
        by : Among e line_entries ⊎ Among e (batch_entry ∷ work_entry ∷ []) → Among e line_entries
        by (inl a) = a
        by (inr (inl q)) = absurd (b (n ∙ ap (λ (x : Entry). x.name) q))
        by (inr (inr (inl q))) = absurd (k (n ∙ ap (λ (x : Entry). x.name) q))
        by (inr (inr (inr q))) = absurd q

-- for commands with different names (`AreTold`), the refusal with an error of syntax at byte 0 of word 0 is a correct result of reading the empty
-- list of words
pub no_words : (words : Words) (r : Result Command WordsFault) (entries : List Entry) → AreTold entries → words ≡ [] → r ≡ Err (Syntax (record { word = 0; byte = 0 }))
    → IsReadBy entries words r
no_words words r entries t is h =
    wrong_first entries words r (subst (λ ws. IsSyntaxPlace entries ws 0 0) (sym is) (unnamed entries t.led t.can t.some [] (λ e m b. let k = b.1 in cc))) h

pub within : (words : Words) (result : Result Command WordsFault) → IsRead words result → IfOk result IsWithinItsLimits
within words (Ok command) h = words_keep words (command_of command) h.0
within words (Err fault) h = tt

-- if the first word is the name of no command of a line of a batch, then the refusal with an error of syntax at byte 0 of word 0 is a correct result
-- of reading the words as such a command
pub elsewhere : (w : List ℕ) (words rest : Words) (r : Result Command WordsFault) → words ≡ w ∷ rest
    → EachOf (λ (e : Entry). w ≡ e.name → ⊥) line_entries → r ≡ Err (Syntax (record { word = 0; byte = 0 })) → IsReadBy line_entries words r
elsewhere w words rest r is apart h =
    wrong_first line_entries words r
    (subst (λ ws. IsSyntaxPlace line_entries ws 0 0) (sym is)
    (unnamed line_entries lines_told.led lines_told.can lines_told.some (w ∷ rest)
    (λ e m b. none_found w line_entries (none_named w line_entries apart) e m (first_text w e.name rest b.0 b.1)))) h

of_no_line : (w a : List ℕ) → w ≡ a → EachOf (λ (e : Entry). same a e.name ≡ false) line_entries → EachOf (λ (e : Entry). w ≡ e.name → ⊥) line_entries
of_no_line w a h k = search rules

none_same : (a : List ℕ) (entries : List Entry) → entry_named a entries ≡ None → EachOf (λ (e : Entry). same a e.name ≡ false) entries
none_same a [] h = tt
none_same a (e ∷ entries) h = search (rules, (none_same a entries))

-- `batch` and `work` are not names of commands of a line of a batch
pub runs_others : (w : List ℕ) → (w ≡ codes "batch") ⊎ (w ≡ codes "work") → EachOf (λ (e : Entry). w ≡ e.name → ⊥) line_entries
runs_others w (inl h) = of_no_line w (codes "batch") h (none_same (codes "batch") line_entries refl)
runs_others w (inr h) = of_no_line w (codes "work") h (none_same (codes "work") line_entries refl)
