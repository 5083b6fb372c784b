-- The merge of two partitions `more` and `parts`, computed by a loop from their first parts on. Its invariant: the list `done`, followed by the merge
-- of the parts of `more` from the index i on and of the parts of `parts` from the index j on, is the merge of `more` and `parts`.
--     merged-right, merged-left      the invariant still holds after the greater one of the next two parts is appended to `done`
--     merged-end                     if one of the two partitions has no part left, then `done`, followed by the parts that are left of the other
--                                    one, is the merge
--     written                        the list is the merge after these parts are appended to it
use Rattle.std.proofs.Common.{◌≡◌, ◌⊎◌, ℕ, zero, suc, ◌+◌, ◌<◌, ◌≤◌, List, [], ◌∷◌, ◌++◌, length, get_or, take, drop, refl, sym, ap, ◌∙◌, subst, inl, inr, arith, ◌-◌, ap₂, append-nil, append_assoc}
use Rattle.std.proofs.Math.ListN.{drop_of_length-le}
use Rattle.std.proofs.lemmas.List.{drop_more, take_rest}
use Rattle.std.proofs.lemmas.Bool.{cases_lt}
use Rattle.sym_model.specs.Partition.{Falls, ArePositive, IsPartition, insert_part}
use Rattle.sym_model.proofs.SortedParts.{insert_part_above, insert_part_below, Falls_tail}
use Rattle.basis_change_laws.specs.JoinedLists.{merged}
use Rattle.family_lists.proofs.PartLists.{columns-tail}
use Rattle.sym_model.proofs.Parts.{falls_more}

insert-behind : (c b : ℕ) (parts : List ℕ) → 0 < c → c ≤ b → get_or parts 0 0 ≤ b → insert_part c (b ∷ parts) ≡ b ∷ insert_part c parts
insert-behind zero b parts p h f = absurd (omega arith)
insert-behind (suc a) b parts p h f = by (cases_lt (suc a) b)
  where
    in_front_of : (k : ℕ) (ps : List ℕ) → get_or ps 0 0 ≤ suc k → insert_part (suc k) ps ≡ suc k ∷ ps
    in_front_of k [] g = refl
    in_front_of k (d ∷ ps) g = insert_part_above k d ps g

    by : (suc a < b) ⊎ (b ≤ suc a) → insert_part (suc a) (b ∷ parts) ≡ b ∷ insert_part (suc a) parts
    by (inl l) = insert_part_below a b parts l
    by (inr l) =
        let e : suc a ≡ b = omega arith in
        insert_part_above a b parts l ∙ ap (λ x. x ∷ b ∷ parts) e ∙ ap (λ l. b ∷ l) (ap (λ x. x ∷ parts) (sym e) ∙ sym (in_front_of a parts (omega arith)))

first-insert : (c b : ℕ) (parts : List ℕ) → 0 < c → c ≤ b → get_or parts 0 0 ≤ b → get_or (insert_part c parts) 0 0 ≤ b
first-insert zero b parts p h f = absurd (omega arith)
first-insert (suc a) b [] p h f = h
first-insert (suc a) b (d ∷ parts) p h f = by (cases_lt (suc a) d)
  where
    by : (suc a < d) ⊎ (d ≤ suc a) → get_or (insert_part (suc a) (d ∷ parts)) 0 0 ≤ b
    by (inl l) = subst (λ (ps : List ℕ). get_or ps 0 0 ≤ b) (sym (insert_part_below a d parts l)) f
    by (inr l) = subst (λ (ps : List ℕ). get_or ps 0 0 ≤ b) (sym (insert_part_above a d parts l)) h

merged-front : (more : List ℕ) (b : ℕ) (parts : List ℕ) → ArePositive more → Falls (b ∷ more) → get_or parts 0 0 ≤ b → merged more (b ∷ parts) ≡ b ∷ merged more parts
merged-front [] b parts p f g = refl
merged-front (c ∷ more) b parts p f g =
    ap (merged more) (insert-behind c b parts p.0 f.0 g)
    ∙ merged-front more b (insert_part c parts) p.1 (falls_more c b more f.0 f.1) (first-insert c b parts p.0 f.0 g)

merged-nothing : (more : List ℕ) → ArePositive more → Falls more → merged more [] ≡ more
merged-nothing [] p f = refl
merged-nothing (c ∷ more) p f =
    insert-nothing c more p.0
    ∙ merged-front more c [] p.1 f (omega arith) ∙ ap (λ l. c ∷ l) (merged-nothing more p.1 (Falls_tail c more f))
  where
    insert-nothing : (c : ℕ) (more : List ℕ) → 0 < c → merged more (insert_part c []) ≡ merged more (c ∷ [])
    insert-nothing zero more h = absurd (omega arith)
    insert-nothing (suc c) more h = refl

-- ---- lists of positive, weakly decreasing numbers, and the merge of two such lists

pub positive-drop : (i : ℕ) (xs : List ℕ) → ArePositive xs → ArePositive (drop i xs)
positive-drop zero xs p = p
positive-drop (suc i) [] p = tt
positive-drop (suc i) (x ∷ xs) p = positive-drop i xs p.1

pub falls-drop : (i : ℕ) (xs : List ℕ) → Falls xs → Falls (drop i xs)
falls-drop zero xs f = f
falls-drop (suc i) [] f = tt
falls-drop (suc i) (x ∷ xs) f = falls-drop i xs (Falls_tail x xs f)

module _ (all more parts : List ℕ) (i j : ℕ) (p : IsPartition more) (q : IsPartition parts) (done : List ℕ) (so_far : done ++ merged (drop i more) (drop j parts) ≡ all) where
  pub merged-right : i < length more → j < length parts → get_or more i 0 < get_or parts j 0 → (done ++ get_or parts j 0 ∷ []) ++ merged (drop i more) (drop (j + 1) parts) ≡ all
  merged-right h k l =
      let x = drop_more more i 0 h in
      let y = drop_more parts j 0 k in
      let f = subst Falls x (falls-drop i more p.falls) in
      let g = subst Falls y (falls-drop j parts q.falls) in
      let t = subst ArePositive y (positive-drop j parts q.positive) in
      append_assoc done (get_or parts j 0 ∷ []) (merged (drop i more) (drop (j + 1) parts))
      ∙ ap (λ l. done ++ l)
      (sym (ap (merged (drop i more)) y
      ∙ merged-front (drop i more) (get_or parts j 0) (drop (j + 1) parts) (positive-drop i more p.positive)
      (subst (λ (ps : List ℕ). Falls (get_or parts j 0 ∷ ps)) (sym x) (omega arith, f)) (columns-tail (get_or parts j 0) (drop (j + 1) parts) (record { falls = g; positive = t }))))
      ∙ so_far

  pub merged-left : i < length more → j < length parts → get_or parts j 0 ≤ get_or more i 0 → (done ++ get_or more i 0 ∷ []) ++ merged (drop (i + 1) more) (drop j parts) ≡ all
  merged-left h k l =
      let x = drop_more more i 0 h in
      let y = drop_more parts j 0 k in
      let f = subst Falls x (falls-drop i more p.falls) in
      let s = subst ArePositive x (positive-drop i more p.positive) in
      let first : get_or (drop j parts) 0 0 ≤ get_or more i 0 = subst (λ (ps : List ℕ). get_or ps 0 0 ≤ get_or more i 0) (sym y) l in
      append_assoc done (get_or more i 0 ∷ []) (merged (drop (i + 1) more) (drop j parts))
      ∙ ap (λ l. done ++ l)
      (sym (ap (λ m. merged m (drop j parts)) x ∙ ap (merged (drop (i + 1) more)) (in_front_of (get_or more i 0) (drop j parts) s.0 first)
      ∙ merged-front (drop (i + 1) more) (get_or more i 0) (drop j parts) s.1 f first))
      ∙ so_far
    where
      in_front_of : (k : ℕ) (ps : List ℕ) → 0 < k → get_or ps 0 0 ≤ k → insert_part k ps ≡ k ∷ ps
      in_front_of zero ps o g = absurd (omega arith)
      in_front_of (suc k) [] o g = refl
      in_front_of (suc k) (d ∷ ps) o g = insert_part_above k d ps g

  pub merged-end : (length more ≤ i) ⊎ (length parts ≤ j) → (done ++ drop i more) ++ drop j parts ≡ all
  merged-end (inl h) =
      let x = drop_of_length-le more h in
      ap (λ l. (done ++ l) ++ drop j parts) x ∙ ap (λ l. l ++ drop j parts) (append-nil done)
      ∙ ap (λ l. done ++ l) (sym (ap (λ m. merged m (drop j parts)) x)) ∙ so_far
  merged-end (inr h) =
      let y = drop_of_length-le parts h in
      ap (λ l. (done ++ drop i more) ++ l) y ∙ append-nil (done ++ drop i more)
      ∙ ap (λ l. done ++ l) (sym (ap (merged (drop i more)) y ∙ merged-nothing (drop i more) (positive-drop i more p.positive) (falls-drop i more p.falls))) ∙ so_far

-- let `new` be `start` with two lists appended: the parts of `more` from i on, and the parts of `parts` from j on. If `start` followed by these two
-- lists is the merged list `all`, then `new` is `all`
pub written : (new start mid more parts all : List ℕ) (i j : ℕ) → mid ≡ start ++ take (length more - i) (drop i more)
    → new ≡ mid ++ take (length parts - j) (drop j parts) → (start ++ drop i more) ++ drop j parts ≡ all → new ≡ all
written new start mid more parts all i j e f g = f ∙ ap₂ (λ (a b : List ℕ). a ++ b) (e ∙ ap (λ l. start ++ l) (take_rest more i)) (take_rest parts j) ∙ g
