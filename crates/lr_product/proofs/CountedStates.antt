-- A *state* is a list of numbers: first its sum, which is a list of numbers (a partition plus the content of all letters so far), then the letters of
-- the column added last. The states of a table are written one after another into one list of numbers. Here are the state at an index, one more state
-- appended, and the count of a state replaced.
use Rattle.std.proofs.Common.{◌≡◌, ℕ, zero, suc, ◌+◌, ◌*◌, ◌<◌, ◌≤◌, List, [], ◌∷◌, ◌++◌, length, take, drop, get_or, set, drop-drop, length-drop, refl, sym, ap, ap₂, ◌∙◌, arith, rules}
use Rattle.std.specs.Prelude.{Some, slice_get}
use Rattle.std.specs.Map.{keys_of}
use Rattle.std.proofs.lemmas.List.{take-append-le, drop-append-le, take_all}
use Rattle.lr_product.specs.StateCounts.{StateCounts, counted_states}
use Rattle.lr_product.specs.WeighedSum.{at_state, weighed}
use Rattle.lr_product.specs.Capped.{Agree}
use Rattle.lr_product.proofs.Agreeing.{agree_same, agree_then, agree_sum, agree_times}

pub states_length : (w : ℕ) (ns cs : List ℕ) → length (counted_states w ns cs) ≡ length cs
states_length w ns [] = refl
states_length w ns (c ∷ cs) = ap suc (states_length w (drop w ns) cs)

pub entries_length : (w : ℕ) (ns cs : List ℕ) (s : StateCounts) → record { width = w; entries = counted_states w ns cs } ≡ s → length cs ≡ length s.entries
entries_length w ns cs s e = sym (states_length w ns cs) ∙ ap (λ (t : StateCounts). length t.entries) e

pub within_numbers : (w i k len : ℕ) → len ≡ k * w → i < k → i * w + w ≤ len
within_numbers w i k len e h = search rules

pub state_there : (w : ℕ) (ns cs : List ℕ) (i count : ℕ) → i < length cs → count ≡ get_or cs i count → slice_get (counted_states w ns cs) i ≡ Some (take w (drop (i * w) ns), count)
state_there w ns [] i count h e = absurd (omega arith)
state_there w ns (c ∷ cs) zero count h e = search rules
state_there w ns (c ∷ cs) (suc i) count h e = search (rules, drop-drop, (state_there w (drop w ns) cs i count (omega arith) e))

pub state_pushed : (w : ℕ) (ns cs s : List ℕ) (c : ℕ) → length ns ≡ length cs * w → length s ≡ w → counted_states w (ns ++ s) (cs ++ c ∷ []) ≡ counted_states w ns cs ++ (s, c) ∷ []
state_pushed w [] [] s c h l = ap (λ t. (t, c) ∷ []) (take_all w s (omega arith))
state_pushed w (a ∷ ns) [] s c h l = absurd (omega arith)
state_pushed w ns (d ∷ cs) s c h l =
    let first : w ≤ length ns = omega arith in
    let rest : length (drop w ns) ≡ length cs * w = omega (arith, length-drop w ns) in
    ap₂ (λ t (m : List ℕ). (t, d) ∷ counted_states w m (cs ++ c ∷ [])) (take-append-le w ns s first) (drop-append-le w ns s first)
    ∙ ap (λ (es : List (List ℕ × ℕ)). (take w ns, d) ∷ es) (state_pushed w (drop w ns) cs s c rest l)

-- the statement, for the sum W of count·f(s) over the states s, that W is `had`·f(`state`) + `rest` for some number `rest`, and that W becomes
-- v·f(`state`) + `rest` if the count at the index i is replaced by any number v
abbrev SplitsAt : ℕ → (List ℕ → List ℕ → ℕ) → ℕ → List ℕ → List ℕ → ℕ → ℕ → List ℕ → Type 0
SplitsAt n f w ns cs i had state = (rest : ℕ) × (weighed n f (counted_states w ns cs) ≡ had * at_state n f state + rest)
    × ((v : ℕ) → weighed n f (counted_states w ns (set cs i v)) ≡ v * at_state n f state + rest)

split_at : (n : ℕ) (f : List ℕ → List ℕ → ℕ) (w : ℕ) (ns cs : List ℕ) (i had : ℕ) (state : List ℕ) → slice_get (keys_of (counted_states w ns cs)) i ≡ Some state → had ≡ get_or cs i had → SplitsAt n f w ns cs i had state
split_at n f w ns [] i had state h e = cc
split_at n f w ns (c ∷ cs) zero had state h e =
    let here : take w ns ≡ state = cc in
    let rest = weighed n f (counted_states w (drop w ns) cs) in
    (rest, ap₂ (λ k x. k * at_state n f x + rest) (sym e) here, λ v. ap (λ x. v * at_state n f x + rest) here)
split_at n f w ns (c ∷ cs) (suc i) had state h e =
    let later = split_at n f w (drop w ns) cs i had state h e in
    let was = later.1 in
    (c * at_state n f (take w ns) + later.0, omega arith, λ v. let now = later.2 v in omega arith)

pub agree_put : (n : ℕ) (f : List ℕ → List ℕ → ℕ) (w : ℕ) (ns cs : List ℕ) (i had count v : ℕ) (state : List ℕ) → slice_get (keys_of (counted_states w ns cs)) i ≡ Some state
    → had ≡ get_or cs i had → Agree v (had + count) → Agree (weighed n f (counted_states w ns (set cs i v))) (weighed n f (counted_states w ns cs) + count * at_state n f state)
agree_put n f w ns cs i had count v state h e a =
    let s = split_at n f w ns cs i had state h e in
    let x = at_state n f state in
    let more = agree_sum (v * x) ((had + count) * x) s.0 (agree_times v (had + count) x a) in
    let was = s.1 in
    agree_then _ _ _ (agree_same _ _ (s.2 v)) (agree_then _ _ _ more (agree_same _ _ (omega arith)))

pub state_of_entry : (es : List (List ℕ × ℕ)) (i : ℕ) (state : List ℕ) (count : ℕ) → slice_get es i ≡ Some (state, count) → slice_get (keys_of es) i ≡ Some state
state_of_entry [] i state count h = cc
state_of_entry (e ∷ es) zero state count h = let here : e ≡ (state, count) = cc in ap (λ (x : List ℕ × ℕ). Some x.0) here
state_of_entry (e ∷ es) (suc i) state count h = state_of_entry es i state count h
