-- The beta list of length k of a partition (part i plus k - i, for i from 1 to k), computed entry by entry.
use Rattle.std.proofs.Common.{◌≡◌, ℕ, suc, ◌+◌, ◌-◌, ◌<◌, List, [], ◌∷◌, ◌++◌, map, length, drop, get_or, sym, ap, ap₂, ◌∙◌, arith, append_assoc, add-one}
use Rattle.std.proofs.Math.Seq.{drop-cons}
use Rattle.std.proofs.lemmas.List.{length-drop}
use Rattle.sym_model.specs.Partition.{part, after}
use Rattle.sym_model.specs.BetaList.{less_the_rest}
use Rattle.partitions.proofs.Conjugates.{map_after-more}

pub beta-more :
    (parts items new : List ℕ) (k i entry : ℕ) → items ≡ map (λ j. part parts j + (k - j)) (after 0 i)
    → entry ≡ get_or parts i 0 + (k - 1 - i) → new ≡ items ++ entry ∷ []
    → new ≡ map (λ j. part parts j + (k - j)) (after 0 (i + 1))
beta-more parts items new k i entry e f g =
    let place : i ≡ i + 1 - 1 = omega arith in
    let rest : k - 1 - i ≡ k - (i + 1) = omega arith in
    g ∙ ap₂ (λ l n. l ++ n ∷ []) e (f ∙ ap₂ (λ j n. get_or parts j 0 + n) place rest)
    ∙ sym (map_after-more (λ j. part parts j + (k - j)) i)

pub less-more :
    (entries numbers new : List ℕ) (i later number : ℕ) → i < length entries
    → numbers ++ less_the_rest (drop i entries) ≡ less_the_rest entries → later ≡ length entries - i
    → number ≡ get_or entries i 0 - (later - 1) → new ≡ numbers ++ number ∷ []
    → new ++ less_the_rest (drop (i + 1) entries) ≡ less_the_rest entries
less-more entries numbers new i later number h e l f g =
    let count : later - 1 ≡ length (drop (suc i) entries) = omega (arith, length-drop (suc i) entries) in
    let first : number ∷ less_the_rest (drop (i + 1) entries) ≡ less_the_rest (drop i entries) =
    ap₂ (λ a m. a ∷ less_the_rest (drop m entries)) (f ∙ ap (λ n. get_or entries i 0 - n) count) (add-one i)
    ∙ sym (ap less_the_rest (drop-cons entries i 0 h)) in
    ap (λ xs. xs ++ less_the_rest (drop (i + 1) entries)) g
    ∙ append_assoc numbers (number ∷ []) (less_the_rest (drop (i + 1) entries))
    ∙ ap (λ xs. numbers ++ xs) first ∙ e
