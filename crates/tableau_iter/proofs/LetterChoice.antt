-- The letters that fit at an index of a word that is written letter by letter: they are given by the letters of the neighbouring cells and by a rule.
use Rattle.std.proofs.Common.{◌≡◌, ℕ, ◌<◌, ◌≤◌, max, true, false, ◌&&◌, nat_le, nat_lt, List, length, take, get_or, Option, Some, None, ◌∙◌, ap, ap₂, sym, subst, inl, inr, arith}
use Rattle.std.proofs.lemmas.Bool.{and_parts, cases_lt, le-leb, leb-true, le-ltb, lt-ltb, ltb-true, lt-leb}
use Rattle.sym_model.specs.Polynomial.{join}
use Rattle.sym_model.specs.Schur.{content}
use Rattle.tableau_iter.specs.NextLetters.{IsNextLetter}
use Rattle.tableau_iter.specs.Fits.{allows, ceiling_at, floor_at}
use Rattle.std.specs.Option.{MatchOption}
use Rattle.std.proofs.Math.Bool.{and-false}
use Rattle.tableau_iter.specs.declared.rule.Rule.{Rule}
use Rattle.tableau_iter.specs.Positions.{Position, Setting, fits_in}
use Rattle.tableau_iter.proofs.FittingWords.{ceiling-front, floor-front}

-- `place` is an index of the word, and the neighbours of its cell have earlier indices. The list `sums` is start plus the content of the letters
-- before `place`. The letter at `place` must be greater than `least` (`floor_at`) and at most `most` (`ceiling_at`)
pub record IsPlace (s : Setting) (word sums : List ℕ) (place least most : ℕ) : Type 0 where
  pub within : place < length word
  pub above_back : get_or s.near.above place 0 ≤ place
  pub right_back : get_or s.near.right place 0 ≤ place
  pub least_is : least ≡ floor_at s.near.above word place
  pub most_is : most ≡ ceiling_at s.near.right s.near.most word place
  pub few : most ≤ s.letters
  pub sums_are : sums ≡ join s.start (content s.letters (take place word))

fits-here :
    (s : Setting) (word sums : List ℕ) (place least most b : ℕ) → IsPlace s word sums place least most
    → fits_in s (take place word) b ≡ ((nat_lt least b && nat_le b most) && allows s.rule s.counts sums b)
fits-here s word sums place least most b p =
    ap₂ (λ x y. x && y)
    (ap₂ (λ x y. nat_lt x b && nat_le b y) (floor-front s.near.above word place p.within p.above_back ∙ sym p.least_is)
    (ceiling-front s.near.right s.near.most word place p.within p.right_back ∙ sym p.most_is))
    (ap (λ xs. allows s.rule s.counts xs b) (sym p.sums_are))

pub too_small :
    (s : Setting) (word sums : List ℕ) (place least most b : ℕ) → IsPlace s word sums place least most → b ≤ least → fits_in s (take place word) b ≡ false
too_small s word sums place least most b p h =
    fits-here s word sums place least most b p ∙ ap (λ x. (x && nat_le b most) && allows s.rule s.counts sums b) (le-ltb least b h)

pub too_great :
    (s : Setting) (word sums : List ℕ) (place least most b : ℕ) → IsPlace s word sums place least most → most < b → fits_in s (take place word) b ≡ false
too_great s word sums place least most b p h =
    fits-here s word sums place least most b p
    ∙ ap (λ x. (nat_lt least b && x) && allows s.rule s.counts sums b) (lt-leb b most h)
    ∙ ap (λ x. x && allows s.rule s.counts sums b) (and-false (nat_lt least b))

pub between :
    (s : Setting) (word sums : List ℕ) (place least most b : ℕ) → IsPlace s word sums place least most → least < b → b ≤ most
    → fits_in s (take place word) b ≡ allows s.rule s.counts sums b
between s word sums place least most b p h l =
    fits-here s word sums place least most b p
    ∙ ap₂ (λ x y. (x && y) && allows s.rule s.counts sums b) (lt-ltb least b h) (le-leb b most l)

pub next-fits :
    (s : Setting) (word sums : List ℕ) (place least most tried a : ℕ) → IsPlace s word sums place least most
    → IsNextLetter (allows s.rule s.counts sums) (max tried least) most a → IsNextLetter (fits_in s (take place word)) tried s.letters a
next-fits s word sums place least most tried a p n =
    let greater = n.greater in
    let within = n.within in
    let few = p.few in
    record {
      greater = omega arith;
      within = omega arith;
      passes = between s word sums place least most a p (omega arith) (omega arith) ∙ n.passes;
      between =
          λ b h l. elim (cases_lt least b) [
            | inl m ↦
                between s word sums place least most b p m (omega arith) ∙ n.between b (omega arith) l
            | inr m ↦ too_small s word sums place least most b p m
          ];
    }

pub none-fits :
    (s : Setting) (word sums : List ℕ) (place least most tried : ℕ) → IsPlace s word sums place least most
    → ((b : ℕ) → max tried least < b → b ≤ most → allows s.rule s.counts sums b ≡ false)
    → (b : ℕ) → tried < b → b ≤ s.letters → fits_in s (take place word) b ≡ false
none-fits s word sums place least most tried p n b h l = elim (cases_lt least b) [
  | inr m ↦ too_small s word sums place least most b p m
  | inl m ↦ elim (cases_lt most b) [
    | inl q ↦ too_great s word sums place least most b p q
    | inr q ↦ between s word sums place least most b p m q ∙ n b (omega arith) q
  ]
]

pub fitting_letter :
    (s : Setting) (word sums : List ℕ) (place least most b : ℕ) → IsPlace s word sums place least most → fits_in s (take place word) b ≡ true
    → (least < b) × (b ≤ s.letters)
fitting_letter s word sums place least most b p e =
    let few = p.few in
    let parts =
    and_parts (nat_lt least b) (nat_le b most)
    (and_parts (nat_lt least b && nat_le b most) (allows s.rule s.counts sums b) (sym (fits-here s word sums place least most b p) ∙ e)).0 in
    let low = ltb-true least b parts.0 in
    let high = leb-true b most parts.1 in
    (low, omega arith)

-- let `least` and `most` be the bounds at `place` (`IsPlace`). Let `found` be the least letter that the rule allows, that is greater than
-- from = max(tried, least) and at most `most`; or None if there is no such letter. Then `found` is the least letter greater than `tried` that fits at
-- `place`, or None if there is no such letter
pub next-letter :
    (p : Position) (sums : List ℕ) (place least most tried from : ℕ) (found : Option ℕ) (rule : Rule) (counts : List ℕ) → IsPlace p.setting p.word sums place least most
    → p.setting.rule ≡ rule → p.setting.counts ≡ counts → from ≡ max tried least
    → MatchOption found ((b : ℕ) → from < b → b ≤ most → allows rule counts sums b ≡ false) (IsNextLetter (allows rule counts sums) from most)
    → MatchOption found ((b : ℕ) → tried < b → b ≤ p.setting.letters → fits_in p.setting (take place p.word) b ≡ false)
    (IsNextLetter (fits_in p.setting (take place p.word)) tried p.setting.letters)
next-letter p sums place least most tried from found rule counts h r c f m = by found m
  where
    by : (found : Option ℕ)
        → MatchOption found ((b : ℕ) → from < b → b ≤ most → allows rule counts sums b ≡ false) (IsNextLetter (allows rule counts sums) from most)
        → MatchOption found ((b : ℕ) → tried < b → b ≤ p.setting.letters → fits_in p.setting (take place p.word) b ≡ false)
        (IsNextLetter (fits_in p.setting (take place p.word)) tried p.setting.letters)
    by None m =
        none-fits p.setting p.word sums place least most tried h
        (λ b q l. ap₂ (λ x y. allows x y sums b) r c ∙ m b (omega arith) l)
    by (Some a) m =
        next-fits p.setting p.word sums place least most tried a h
        (subst (λ n. IsNextLetter (allows p.setting.rule p.setting.counts sums) n most a) f
        (subst (λ x. IsNextLetter (allows x p.setting.counts sums) from most a) (sym r)
        (subst (λ y. IsNextLetter (allows rule y sums) from most a) (sym c) m)))
