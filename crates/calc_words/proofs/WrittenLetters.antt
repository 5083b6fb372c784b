-- If a list of letters has no error, it is a permutation of at most `most` letters.
use Rattle.std.proofs.Common.{◌≡◌, ℕ, ◌+◌, ◌<◌, ◌≤◌, false, List, [], ◌∷◌, length, arith, None, eq-eqb, rules}
use Rattle.std.proofs.lemmas.Bool.{eqb-false, or_parts}
use Rattle.sym_model.specs.Sum.{Among, Once}
use Rattle.sym_model.specs.CommandOffence.{first_offence, permutation_offences, permutation_offences_within, permutation_rule_within, offences_after, stands_in, most_permuted}
use Rattle.sym_model.specs.Permutation.{kept}
use Rattle.perm_codes.specs.Limits.{IsShortPermutation}
use Rattle.perm_codes.proofs.WithinLimits.{kept_limits}
use Rattle.word_laws.proofs.FirstOffences.{first_none}
use Rattle.calc_words.specs.WrittenLimits.{IsPermutationWithin, IsWrittenPermutation}
use Rattle.calc_words.proofs.WrittenLists.{inside}
use Rattle.word_laws.proofs.NoOffences.{none_append, none_next}
use Rattle.schubert_laws.proofs.Members.{fewer_kept}
use Rattle.sym_model.proofs.Lists.{none_chosen}

-- the letters ns are from 1 to `count`, and differ from each other and from the letters `before`; ns and `before` together have at most `most`
-- letters
record AreLetters (most count : ℕ) (before ns : List ℕ) : Type 0 where
  letters : (b : ℕ) → Among b ns → (1 ≤ b) × (b ≤ count)
  new : (b : ℕ) → Among b ns → stands_in b before ≡ false
  once : Once ns
  few : length before + length ns ≤ most

letters_fine : (most count : ℕ) (before : List ℕ) (k : ℕ) (ns : List ℕ) → length before ≤ most
    → offences_after (permutation_rule_within most count) before k ns ≡ [] → AreLetters most count before ns
letters_fine most count before k [] f h = record { letters = λ b m. absurd m; new = λ b m. absurd m; once = tt; few = omega arith }
letters_fine most count before k (a ∷ ns) f h =
    search (rules, none_next, none_append, or_parts, none_chosen, eqb-false, inside, eq-eqb, (letters_fine most count (a ∷ before) (k + 1) ns))

-- if most ≤ 16, and ns has at least one letter and no error, ns is a permutation of at most `most` letters
pub short_within : (most k : ℕ) (ns : List ℕ) → most ≤ 16 → 0 < length ns → first_offence (permutation_offences_within most k ns) ≡ None
    → IsShortPermutation ns × (length ns ≤ most)
short_within most k ns m s h = search (rules, letters_fine, first_none)

-- if most ≤ 16, and ns has at least one letter and no error, ns without the fixed letters at its end (`kept`) is a permutation of at most `most`
-- letters
pub letters_within : (most k : ℕ) (ns : List ℕ) → most ≤ 16 → 0 < length ns → first_offence (permutation_offences_within most k ns) ≡ None
    → IsPermutationWithin most (kept ns)
letters_within most k ns m s h = search (rules, short_within, kept_limits, fewer_kept)

pub written_letters : (k : ℕ) (ns : List ℕ) → 0 < length ns → first_offence (permutation_offences k ns) ≡ None → IsWrittenPermutation (kept ns)
written_letters k ns s h = letters_within most_permuted k ns (omega arith) s h
