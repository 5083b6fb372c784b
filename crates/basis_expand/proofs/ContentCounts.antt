-- If a shape is taken apart by removing horizontal strips one after another, the list of their numbers of cells is the content.
-- For a list of terms c·s_λ, all contents that are partitions are found part by part. They have been *counted* (`CountsContents`) if each content κ
-- has been added to the result with the coefficient Σ c·K(λ,κ) over the terms. The Kostka number K(λ,κ) is the number of ways to take λ apart with
-- the content κ.
--     counts-end                          after the chosen parts, the content without a further part has been counted
--     counts-missed, -step                if the contents with a next part of at most p - 1 have been counted, those with the next part p come next
--     fresh-longer, limits-longer         the conditions on the chosen parts hold too if one more part is chosen
--     list-counted, lists-counted         if all contents are counted, the list in m is s_λ, or the given list in s
use Rattle.std.proofs.Common.{◌≡◌, ◌⊎◌, ℕ, ◌-◌, ◌≤◌, ◌<◌, min, List, [], ◌∷◌, ◌++◌, length, sym, ◌∙◌, ap, ap₂, subst, inl, inr, arith, append_assoc, append-nil, cond, drop, length-append, ℤ, pos, ◌+ℤ◌, ◌*ℤ◌, rules}
use Rattle.std.proofs.Math.Nat.{eq-or-lt_of_le}
use Rattle.std.proofs.lemmas.Bool.{cases_lt}
use Rattle.sym_model.specs.Partition.{IsPartition, ArePositive, Falls, size}
use Rattle.sym_model.specs.Polynomial.{same, coefficient, pair, Same}
use Rattle.sym_model.specs.Schur.{schur}
use Rattle.sym_model.specs.WholeTerms.{WholeTerms, combined}
use Rattle.sym_model.proofs.Sums.{total_none}
use Rattle.sym_model.proofs.Polynomials.{coefficient_pair, coefficient_plus, pair_determined}
use Rattle.sym_model.proofs.Exponents.{same_apart, same_from}
use Rattle.monomial_laws.specs.ExpressionTerms.{IsList}
use Rattle.partitions.specs.Limits.{IsWithinLimits}
use Rattle.schur_laws.specs.Kostka.{kostka}
use Rattle.schur_laws.proofs.SchurLists.{list-schur, kostka-other_size}
use Rattle.sparse_polys.specs.LabelSizes.{AreWithin}
use Rattle.basis_expand.specs.Contents.{IsContent, HasNoneBehind, CountsContents}
use Rattle.basis_expand.specs.Strips.{strip_terms}
use Rattle.linear_combinations.specs.Entries.{coefficient as found}
use Rattle.linear_combinations.proofs.Found.{coefficient_found}
use Rattle.sparse_polys.specs.Tables.{equal, IsWholeTable}
use Rattle.sparse_polys.proofs.PartitionTerms.{IsWithinLimits-low}
use Rattle.basis_expand.proofs.SchurSums.{list-schurs}
use Rattle.sparse_polys.proofs.WholeLists.{label-partition}
use Rattle.basis_expand.proofs.StripTables.{ways-alone, pair-strip_terms}
use lib.IntN.{+ℤ_idl, +ℤ_idr, *ℤ-zero}

content-more : (largest more left : ℕ) (rest : List ℕ) → largest ≤ more → IsContent largest left rest → IsContent more left rest
content-more largest more left [] h c = c
content-more largest more left (a ∷ rest) h c = ((c.0.0, let l = c.0.1 in omega arith, c.0.2), c.1)

content-falls : (largest left : ℕ) (rest : List ℕ) → IsContent largest left rest → Falls rest × ArePositive rest × (size rest ≤ left)
content-falls largest left [] c = (tt, tt, omega arith)
content-falls largest left (a ∷ []) c = (tt, (c.0.0, tt), let l = c.0.2 in omega arith)
content-falls largest left (a ∷ b ∷ rest) c = search (rules, (content-falls a (left - a) (b ∷ rest) c.1))

partition-content : (largest left : ℕ) (parts : List ℕ) → IsPartition parts → size parts ≤ left → Falls (largest ∷ parts) → IsContent largest left parts
partition-content largest left [] p e f = tt
partition-content largest left (a ∷ []) p e f = ((p.positive.0, f.0, omega arith), tt)
partition-content largest left (a ∷ b ∷ parts) p e f =
    search (rules, (partition-content a (left - a) (b ∷ parts) (record { falls = p.falls.1; positive = p.positive.1 }) (omega arith) p.falls))

first_few : (parts : List ℕ) (d : ℕ) → size parts ≤ d → Falls parts → Falls (d ∷ parts)
first_few [] d e f = tt
first_few (a ∷ parts) d e f = (omega arith, f)

-- a content whose sum is at most d is within the limits of partitions, if d ≤ 512
pub limits-content : (largest d : ℕ) (rest : List ℕ) → d ≤ 512 → IsContent largest d rest → IsWithinLimits rest
limits-content largest d rest h c = search (rules, content-falls, IsWithinLimits-low)

-- ---- contents that begin with the chosen parts and one more part

pub limits-longer : (chosen longer : List ℕ) (part largest left : ℕ) → longer ≡ chosen ++ part ∷ [] → 1 ≤ part → part ≤ largest → part ≤ left
    → ((rest : List ℕ) → IsContent largest left rest → IsWithinLimits (chosen ++ rest))
    → (rest : List ℕ) → IsContent part (left - part) rest → IsWithinLimits (longer ++ rest)
limits-longer chosen longer part largest left e p h l limits rest c =
    subst IsWithinLimits (sym (append_assoc chosen (part ∷ []) rest) ∙ ap (λ xs. xs ++ rest) (sym e)) (limits (part ∷ rest) ((p, h, l), c))

same_behind : (chosen : List ℕ) (a b : ℕ) (xs ys : List ℕ) → chosen ++ (a ∷ xs) ≡ chosen ++ (b ∷ ys) → a ≡ b
same_behind [] a b xs ys e = search rules
same_behind (x ∷ chosen) a b xs ys e = same_behind chosen a b xs ys (ap (drop 1) e)

not_nothing : (chosen : List ℕ) (b : ℕ) (ys : List ℕ) → chosen ++ [] ≡ chosen ++ (b ∷ ys) → ⊥
not_nothing chosen b ys e = let h = ap length e in omega (arith, length-append chosen [], length-append chosen (b ∷ ys))

apart : (chosen rest behind : List ℕ) (part left : ℕ) → 1 ≤ part → IsContent (part - 1) left rest → chosen ++ (part ∷ behind) ≡ chosen ++ rest → ⊥
apart chosen [] behind part left p c e = not_nothing chosen part behind (sym e)
apart chosen (a ∷ rest) behind part left p c e = let h = same_behind chosen part a behind rest e in let l = c.0.1 in omega arith

none_here : (terms : WholeTerms) (chosen : List ℕ) (part left : ℕ) (old list : WholeTerms) → 1 ≤ part → HasNoneBehind chosen old
    → CountsContents terms chosen (part - 1) left old list → (rest : List ℕ) → coefficient list (chosen ++ (part ∷ rest)) ≡ pos 0
none_here terms chosen part left old list p none so_far rest =
    so_far.others (chosen ++ (part ∷ rest)) (λ other c e. apart chosen other rest part left p c e) ∙ none (part ∷ rest)

pub fresh-longer : (terms : WholeTerms) (chosen longer : List ℕ) (part left : ℕ) (old list : WholeTerms) → longer ≡ chosen ++ part ∷ [] → 1 ≤ part
    → HasNoneBehind chosen old → CountsContents terms chosen (part - 1) left old list → HasNoneBehind longer list
fresh-longer terms chosen longer part left old list l p none so_far rest =
    ap (coefficient list) (ap (λ xs. xs ++ rest) l ∙ append_assoc chosen (part ∷ []) rest) ∙ none_here terms chosen part left old list p none so_far rest

ways : (part : ℕ) (terms next : WholeTerms) (rest : List ℕ) → Same next (strip_terms part terms)
    → pair next (λ shape. kostka shape rest) ≡ pair terms (λ shape. kostka shape (part ∷ rest))
ways part terms next rest e = pair_determined next (strip_terms part terms) (λ shape. kostka shape rest) e ∙ pair-strip_terms part terms (λ shape. kostka shape rest)

-- if no shape remains after removing horizontal strips of `part` cells from the terms, no label of `old` begins with `chosen`, and the contents with
-- a next part of at most `part - 1` have been counted (`CountsContents`), then those with a next part of at most `part` have been counted
pub counts-missed : (terms next : WholeTerms) (chosen : List ℕ) (part left : ℕ) (old list : WholeTerms) → 1 ≤ part → next ≡ [] → Same next (strip_terms part terms)
    → HasNoneBehind chosen old → CountsContents terms chosen (part - 1) left old list → CountsContents terms chosen part left old list
counts-missed terms next chosen part left old list p nothing e none so_far = record {
  counted = counted;
  others = λ label no. so_far.others label (λ rest c. no rest (content-more (part - 1) part left rest (omega arith) c));
}
  where
    counted : (rest : List ℕ) → IsContent part left rest → coefficient list (chosen ++ rest) ≡ pair terms (λ shape. kostka shape rest)
    counted [] c = so_far.counted [] tt
    counted (a ∷ rest) c = by (eq-or-lt_of_le {n = a} {m = part} c.0.1)
      where
        by : (a ≡ part) ⊎ (a < part) → coefficient list (chosen ++ (a ∷ rest)) ≡ pair terms (λ shape. kostka shape (a ∷ rest))
        by (inl s) =
            ap (λ b. coefficient list (chosen ++ (b ∷ rest))) s
            ∙ none_here terms chosen part left old list p none so_far rest
            ∙ ap (λ (l : WholeTerms). pair l (λ shape. kostka shape rest)) (sym nothing)
            ∙ ways part terms next rest e
            ∙ ap (λ b. pair terms (λ shape. kostka shape (b ∷ rest))) (sym s)
        by (inr l) = so_far.counted (a ∷ rest) ((c.0.0, omega arith, c.0.2), c.1)

-- if the contents with a next part of at most `part - 1` have been counted (`CountsContents`), and then those with the next part `part`, all contents
-- with a next part of at most `part` have been counted
pub counts-step : (terms next : WholeTerms) (chosen longer : List ℕ) (part left : ℕ) (old list new : WholeTerms) → longer ≡ chosen ++ part ∷ [] → 1 ≤ part → part ≤ left
    → Same next (strip_terms part terms) → CountsContents terms chosen (part - 1) left old list → CountsContents next longer part (left - part) list new
    → CountsContents terms chosen part left old new
counts-step terms next chosen longer part left old list new l p low e so_far more = record {
  counted = counted;
  others = λ label no.
      more.others label (λ rest c is. no (part ∷ rest) ((p, omega arith, low), c) (is ∙ behind rest))
      ∙ so_far.others label (λ rest c. no rest (content-more (part - 1) part left rest (omega arith) c));
}
  where
    behind : (rest : List ℕ) → longer ++ rest ≡ chosen ++ (part ∷ rest)
    behind rest = ap (λ xs. xs ++ rest) l ∙ append_assoc chosen (part ∷ []) rest

    counted : (rest : List ℕ) → IsContent part left rest → coefficient new (chosen ++ rest) ≡ pair terms (λ shape. kostka shape rest)
    counted [] c = more.others (chosen ++ []) (λ rest d is. not_nothing chosen part rest (is ∙ behind rest)) ∙ so_far.counted [] tt
    counted (a ∷ rest) c = by (eq-or-lt_of_le {n = a} {m = part} c.0.1)
      where
        by : (a ≡ part) ⊎ (a < part) → coefficient new (chosen ++ (a ∷ rest)) ≡ pair terms (λ shape. kostka shape (a ∷ rest))
        by (inl s) =
            ap (λ b. coefficient new (chosen ++ (b ∷ rest))) s
            ∙ ap (coefficient new) (sym (behind rest))
            ∙ more.counted rest (subst (λ b. IsContent b (left - b) rest) s c.1)
            ∙ ways part terms next rest e
            ∙ ap (λ b. pair terms (λ shape. kostka shape (b ∷ rest))) (sym s)
        by (inr less) =
            more.others (chosen ++ (a ∷ rest)) (λ other d is. let h = same_behind chosen a part rest other (is ∙ behind other) in omega arith)
            ∙ so_far.counted (a ∷ rest) ((c.0.0, omega arith, c.0.2), c.1)

pub nothing-more : (label : List ℕ) (number : ℤ) (list : WholeTerms) → number ≡ pos 0 → Same list (list ++ (label, number) ∷ [])
nothing-more label number list z other = search (rules, coefficient_plus, +ℤ_idr)

-- if `new` is `old` with one term added, whose label is `chosen` and whose coefficient is that of the empty shape in `terms`, then all contents
-- without a further part have been counted (`CountsContents`)
pub counts-end : (terms : WholeTerms) (chosen nothing : List ℕ) (left : ℕ) (number : ℤ) (old new : WholeTerms) → IsWholeTable terms → nothing ≡ []
    → number ≡ found equal (pos 0) terms nothing → HasNoneBehind chosen old → Same new (old ++ (chosen, number) ∷ []) → CountsContents terms chosen 0 left old new
counts-end terms chosen nothing left number old new is n f none more = record {
  counted = counted;
  others = λ other no.
      told other
      ∙ ap (λ b. coefficient old other +ℤ (cond b number (pos 0) +ℤ pos 0)) (same_apart chosen other (λ e. no [] tt (sym (append-nil chosen ∙ e))))
      ∙ +ℤ_idr (coefficient old other);
}
  where
    told : (other : List ℕ) → coefficient new other ≡ coefficient old other +ℤ (cond (same chosen other) number (pos 0) +ℤ pos 0)
    told other = more other ∙ coefficient_plus old ((chosen, number) ∷ []) other

    counted : (rest : List ℕ) → IsContent 0 left rest → coefficient new (chosen ++ rest) ≡ pair terms (λ shape. kostka shape rest)
    counted (a ∷ rest) c = absurd (let p = c.0.0 in let few = c.0.1 in omega arith)
    counted [] c =
        told (chosen ++ [])
        ∙ ap₂ (λ z b. z +ℤ (cond b number (pos 0) +ℤ pos 0)) (none []) (same_from chosen (chosen ++ []) (sym (append-nil chosen)))
        ∙ +ℤ_idl (number +ℤ pos 0) ∙ +ℤ_idr number
        ∙ f ∙ ap (found equal (pos 0) terms) n ∙ sym (coefficient_found terms is.distinct []) ∙ coefficient_pair terms []

pub fresh-found : (chosen label : List ℕ) (old : WholeTerms) → IsWholeTable old → label ≡ chosen → HasNoneBehind chosen old → found equal (pos 0) old label ≡ pos 0
fresh-found chosen label old is l none =
    ap (found equal (pos 0) old) l ∙ sym (coefficient_found old is.distinct chosen) ∙ ap (coefficient old) (sym (append-nil chosen)) ∙ none []

-- no further part of a content exceeds `left`: so if the contents with further parts of at most min(largest, left) have been counted
-- (`CountsContents`), then those with further parts of at most `largest` have been counted
pub counts-all : (terms : WholeTerms) (chosen : List ℕ) (most largest left : ℕ) (old new : WholeTerms) → most ≡ min largest left → CountsContents terms chosen most left old new
    → CountsContents terms chosen largest left old new
counts-all terms chosen most largest left old new e counts = record {
  counted = λ rest c. counts.counted rest (less rest c);
  others = λ label no. counts.others label (λ rest c. no rest (content-more most largest left rest (omega arith) c));
}
  where
    less : (rest : List ℕ) → IsContent largest left rest → IsContent most left rest
    less [] c = c
    less (a ∷ rest) c = ((c.0.0, let l = c.0.1 in let few = c.0.2 in omega arith, c.0.2), c.1)

at_most : (d : ℕ) (W old list : WholeTerms) (κ : List ℕ) → old ≡ [] → CountsContents W [] d d old list → IsPartition κ → size κ ≤ d
    → coefficient list κ ≡ pair W (λ shape. kostka shape κ)
at_most d W old list κ none counts is low = counts.counted κ (partition-content d d κ is low (first_few κ d low is.falls))

past : (d : ℕ) (W old list : WholeTerms) (κ : List ℕ) → old ≡ [] → CountsContents W [] d d old list → d < size κ → coefficient list κ ≡ pos 0
past d W old list κ none counts high = search (rules, content-falls)

pub list-counted : (shape : List ℕ) (d : ℕ) (terms old list : WholeTerms) → IsPartition shape → d ≡ size shape → old ≡ [] → Same terms ((shape, pos 1) ∷ [])
    → CountsContents terms [] d d old list → IsList list (schur shape)
list-counted shape d terms old list p is_d none e counts = list-schur shape list p (λ κ is. at κ is (cases_lt d (size κ)))
  where
    at : (κ : List ℕ) → IsPartition κ → (d < size κ) ⊎ (size κ ≤ d) → coefficient list κ ≡ kostka shape κ
    at κ is (inr low) = at_most d terms old list κ none counts is low ∙ ways-alone shape terms e κ
    at κ is (inl high) = past d terms old list κ none counts high ∙ sym (kostka-other_size shape κ p (λ same_size. omega arith))

-- if the labels of `terms` have at most d cells, and, from an empty list on, all contents of at most d cells have been counted for `terms`
-- (`CountsContents`), then the resulting list of terms in the monomial basis m is the sum of c·s_λ over the terms c·λ
pub lists-counted : (d : ℕ) (terms old list : WholeTerms) → IsWholeTable terms → AreWithin d terms → old ≡ [] → CountsContents terms [] d d old list
    → IsList list (λ n. combined (λ label. schur label n) terms)
lists-counted d terms old list is within none counts =
    list-schurs terms list (label-partition terms is) (λ κ is. at κ is (cases_lt d (size κ)))
  where
    at : (κ : List ℕ) → IsPartition κ → (d < size κ) ⊎ (size κ ≤ d) → coefficient list κ ≡ pair terms (λ shape. kostka shape κ)
    at κ p (inr low) = at_most d terms old list κ none counts p low
    at κ p (inl high) =
        past d terms old list κ none counts high
        ∙ sym
        (total_none (λ (t : List ℕ × ℤ). t.1 *ℤ kostka t.0 κ) terms
        (λ t m.
        let small = within t m in
        ap (λ z. t.1 *ℤ z) (kostka-other_size t.0 κ (label-partition terms is t m) (λ same_size. omega arith)) ∙ *ℤ-zero t.1))
