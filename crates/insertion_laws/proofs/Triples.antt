-- A Knuth step between two words does not change the insertion tableau.
use Rattle.std.proofs.Common.{◌≡◌, ◌⊎◌, ℕ, ◌<◌, ◌≤◌, List, [], ◌∷◌, ◌++◌, Some, ◌∙◌, ap, ap₂, sym, inl, inr, arith, rules}
use Rattle.sym_model.specs.Insertion.{inserted, insertion_pair}
use Rattle.sym_model.specs.Knuth.{AreKnuthRelated, IsKnuthStep, IsKnuthChain, AreKnuthEquivalent}
use Rattle.insertion_laws.specs.Rows.{AreRows}
use Rattle.insertion_laws.proofs.InsertedRows.{keeps_rows}
use Rattle.insertion_laws.proofs.InsertedWords.{inserted_word, word-append, first-tableau}
use Rattle.insertion_laws.proofs.RowRuns.{letters_out, word-rows}
use Rattle.insertion_laws.proofs.OneRow.{AreAlike, first_alike, second_alike}
use Rattle.tableau_laws.specs.Rows.{RisesFrom}

related_cases :
    (P : List ℕ → List ℕ → Type 0) → ((v w : List ℕ) → P v w → P w v)
    → ((x y z : ℕ) → x < y → y ≤ z → P (y ∷ z ∷ x ∷ []) (y ∷ x ∷ z ∷ []))
    → ((x y z : ℕ) → x ≤ y → y < z → P (x ∷ z ∷ y ∷ []) (z ∷ x ∷ y ∷ []))
    → (v w : List ℕ) → AreKnuthRelated v w → P v w
related_cases P back one two v w r = search rules

alike_back : (row v w : List ℕ) → AreAlike row v w → AreAlike row w v
alike_back row v w a = search rules

related_alike : (c : ℕ) (row v w : List ℕ) → RisesFrom c row → AreKnuthRelated v w → AreAlike row v w
related_alike c row v w h =
    related_cases (AreAlike row) (alike_back row) (λ x y z l m. first_alike c x y z row l m h) (λ x y z l m. second_alike c x y z row l m h) v w

none_same : (v w : List ℕ) → AreKnuthRelated v w → inserted_word [] v ≡ inserted_word [] w
none_same v w r = search rules

pub triple_same :
    (m : ℕ) (rows : List (List ℕ)) (v w : List ℕ) → AreRows m rows → AreKnuthRelated v w
    → inserted_word rows v ≡ inserted_word rows w
triple_same m [] v w h r = none_same v w r
triple_same m (row ∷ rows) v w h r =
    let a = related_alike m row v w h.0.rises r in
    word-rows row rows v
    ∙ ap₂ (λ (r : List ℕ) (t : List (List ℕ)). r ∷ t) a.rows_same (by a.out (triple_same m rows (letters_out row v) (letters_out row w) h.1))
    ∙ sym (word-rows row rows w)
  where
    by : {a b : List ℕ} → (a ≡ b) ⊎ AreKnuthRelated a b → (AreKnuthRelated a b → inserted_word rows a ≡ inserted_word rows b)
        → inserted_word rows a ≡ inserted_word rows b
    by (inl e) rec = ap (inserted_word rows) e
    by (inr r) rec = rec r

-- ---- all words of a Knuth class have the same insertion tableau

pub keeps_word : (w : List ℕ) (rows : List (List ℕ)) → AreRows 0 rows → AreRows 0 (inserted_word rows w)
keeps_word [] rows h = h
keeps_word (a ∷ w) rows h = keeps_word w (inserted rows (Some a)) (keeps_rows 0 a rows (omega arith) h)

step_same : (v w : List ℕ) → IsKnuthStep v w → inserted_word [] v ≡ inserted_word [] w
step_same v w s =
    ap (inserted_word []) s.from ∙ parts s.three
    ∙ ap (λ (r : List (List ℕ)). inserted_word r s.back) (triple_same 0 (inserted_word [] s.front) s.three s.changed (keeps_word s.front [] tt) s.related)
    ∙ sym (parts s.changed) ∙ sym (ap (inserted_word []) s.to)
  where
    parts : (x : List ℕ) → inserted_word [] (s.front ++ (x ++ s.back)) ≡ inserted_word (inserted_word (inserted_word [] s.front) x) s.back
    parts x = word-append s.front (x ++ s.back) [] ∙ word-append x s.back (inserted_word [] s.front)

chain_same : (v : List ℕ) (chain : List (List ℕ)) (w : List ℕ) → IsKnuthChain v chain w → inserted_word [] v ≡ inserted_word [] w
chain_same v [] w e = ap (inserted_word []) e
chain_same v (u ∷ chain) w h = step_same v u h.0 ∙ chain_same u chain w h.1

-- two words of the same Knuth class have the same insertion tableau
pub class_same : (v w : List ℕ) → AreKnuthEquivalent v w → inserted_word [] v ≡ inserted_word [] w
class_same v w h = chain_same v h.chain w h.steps

pub class_tableau : (v w : List ℕ) → AreKnuthEquivalent v w → (insertion_pair v).0 ≡ (insertion_pair w).0
class_tableau v w h = first-tableau v 1 [] [] ∙ class_same v w h ∙ sym (first-tableau w 1 [] [])
