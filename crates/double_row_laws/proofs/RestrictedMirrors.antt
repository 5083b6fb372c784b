-- A polynomial in n variables x and n variables y with its alphabets exchanged, in k variables x and k variables y (`turned_over`): this is compatible with
-- products, and exchanges the variables and their elementary polynomials. Variables are counted from 0.
use Rattle.std.proofs.Common.{◌≡◌, ℕ, zero, suc, ◌+◌, ◌-◌, ◌<◌, ◌≤◌, List, [], ◌∷◌, ◌++◌, inl, inr, length, map, take, drop, replicate, length-take, length-drop, length-append, refl, sym, ◌∙◌, ap, ap₂, arith, cond, ◌&&◌, ℤ, pos, ◌+ℤ◌}
use Rattle.std.proofs.lemmas.List.{length-replicate, replicate-append-replicate, take-append-drop, take_at, drop_at}
use Rattle.std.proofs.Math.Bool.{and-true}
use Rattle.sym_model.specs.Sum.{Among}
use Rattle.sym_model.specs.Polynomial.{Term, Poly, Same, In, nothing, one, plus, times, pair, join, resize, fits_in}
use Rattle.sym_model.specs.Expansion.{beside}
use Rattle.sym_model.specs.DividedDifference.{variable, variable_in}
use Rattle.sym_model.specs.DoubleSchubert.{restrict_both}
use Rattle.sym_model.proofs.Exponents.{fits_in_zeros, resize_zeros, length-join, length-resize}
use Rattle.sym_model.proofs.Polynomials.{pair_in, pair_beside, pair_one, pair_plus, pair_times, pair_restrict, pair_determined, same_from_pair, Same_refl, Same_trans, plus_respects, times_respects, In_map}
use Rattle.schubert_laws.proofs.Dominant.{pair_x_to}
use Rattle.double_schubert_laws.proofs.BothRestrictions.{both, pair_restrict_both, join_append, restrict_both-times}
use Rattle.double_schubert_laws.proofs.DoubleDominant.{unit, length-unit, pair_variable_in}
use Rattle.double_schubert_laws.proofs.DoubleVariables.{fits_again, resize_again}
use Rattle.double_pieri_laws.specs.DoubleChains.{elementary_of, these_y}
use Rattle.double_row_laws.specs.ExchangedAlphabets.{exchange_alphabets}
use Rattle.double_row_laws.proofs.Mirrors.{mirror, mirror_at}
use Rattle.double_row_laws.proofs.MirroredDoubles.{pair_exchanged}
use Rattle.double_row_laws.proofs.ExpandedRows.{In_y, In_elementary_y}

abbrev pub turned_over : ℕ → ℕ → Poly → Poly
turned_over n k f = restrict_both n k (exchange_alphabets n f)

pub pair_turned_over : (n k : ℕ) (f : Poly) (φ : List ℕ → ℤ) → pair (turned_over n k f) φ ≡ pair f (mirror n (both n k φ))
pair_turned_over n k f φ = pair_restrict_both n k (exchange_alphabets n f) φ ∙ pair_exchanged n f (both n k φ)

In_exchanged : (n : ℕ) (f : Poly) → In (n + n) f → In (n + n) (exchange_alphabets n f)
In_exchanged n f i =
    In_map (n + n) (λ (t : Term). (drop n t.0 ++ take n t.0, t.1)) f (λ t m.
    let l = i t m in
    let a = length-append (drop n t.0) (take n t.0) in
    let b = length-drop n t.0 in
    let c = length-take n t.0 in
    omega arith)

exchanged_joined : (n : ℕ) (ψ : List ℕ → ℤ) (α β : List ℕ) → length α ≡ n + n → length β ≡ n + n
    → mirror n ψ (join α β) ≡ ψ (join (drop n α ++ take n α) (drop n β ++ take n β))
exchanged_joined n ψ α β a b =
    let ta = length-take n α in
    let tb = length-take n β in
    let da = length-drop n α in
    let db = length-drop n β in
    let j = length-join (take n α) (take n β) in
    ap₂ (λ x y. mirror n ψ (join x y)) (sym (take-append-drop n α)) (sym (take-append-drop n β))
    ∙ ap (mirror n ψ) (join_append (take n α) (drop n α) (take n β) (drop n β) (omega arith))
    ∙ mirror_at n ψ (join (take n α) (take n β)) (join (drop n α) (drop n β)) (omega arith)
    ∙ ap ψ (sym (join_append (drop n α) (take n α) (drop n β) (take n β) (omega arith)))

exchanged_times : (n : ℕ) (f g : Poly) → In (n + n) f → In (n + n) g → Same (exchange_alphabets n (times f g)) (times (exchange_alphabets n f) (exchange_alphabets n g))
exchanged_times n f g i j =
    same_from_pair (exchange_alphabets n (times f g)) (times (exchange_alphabets n f) (exchange_alphabets n g)) (λ ψ.
    pair_exchanged n (times f g) ψ
    ∙ pair_times f g (mirror n ψ)
    ∙ pair_in (n + n) f (λ α. pair g (λ β. mirror n ψ (join α β))) (mirror n (λ α. pair (exchange_alphabets n g) (λ β. ψ (join α β)))) i (λ α a.
    pair_in (n + n) g (λ β. mirror n ψ (join α β)) (mirror n (λ β. ψ (join (drop n α ++ take n α) β))) j (λ β b. exchanged_joined n ψ α β a b)
    ∙ sym (pair_exchanged n g (λ β. ψ (join (drop n α ++ take n α) β))))
    ∙ sym (pair_exchanged n f (λ α. pair (exchange_alphabets n g) (λ β. ψ (join α β))))
    ∙ sym (pair_times (exchange_alphabets n f) (exchange_alphabets n g) ψ))

pub turned_over-times : (n k : ℕ) (f g : Poly) → In (n + n) f → In (n + n) g → Same (turned_over n k (times f g)) (times (turned_over n k f) (turned_over n k g))
turned_over-times n k f g i j =
    Same_trans (turned_over n k (times f g)) (restrict_both n k (times (exchange_alphabets n f) (exchange_alphabets n g))) (times (turned_over n k f) (turned_over n k g))
    (same_from_pair (turned_over n k (times f g)) (restrict_both n k (times (exchange_alphabets n f) (exchange_alphabets n g))) (λ φ.
    pair_restrict_both n k (exchange_alphabets n (times f g)) φ
    ∙ pair_determined (exchange_alphabets n (times f g)) (times (exchange_alphabets n f) (exchange_alphabets n g)) (both n k φ) (exchanged_times n f g i j)
    ∙ sym (pair_restrict_both n k (times (exchange_alphabets n f) (exchange_alphabets n g)) φ)))
    (restrict_both-times n k (n + n) (exchange_alphabets n f) (exchange_alphabets n g) (In_exchanged n f i) (In_exchanged n g j))

-- ---- variables

both_of : (n k : ℕ) (φ : List ℕ → ℤ) (α β : List ℕ) → length α ≡ n → both n k φ (α ++ β) ≡ cond (fits_in k α && fits_in k β) (φ (resize k α ++ resize k β)) (pos 0)
both_of n k φ α β e = ap₂ (λ x y. cond (fits_in k x && fits_in k y) (φ (resize k x ++ resize k y)) (pos 0)) (take_at α β n e) (drop_at α β n e)

variable_fits : (c k : ℕ) (φ : List ℕ → ℤ) → pair (variable_in (suc c) k) φ ≡ cond (fits_in k (replicate c 0 ++ (1 ∷ []))) (φ (resize k (replicate c 0 ++ (1 ∷ [])))) (pos 0)
variable_fits c k φ =
    let z : suc c - 1 ≡ c = omega arith in
    pair_restrict k (variable (suc c)) φ
    ∙ pair_x_to (replicate (suc c - 1) 0 ++ (1 ∷ [])) (λ α. cond (fits_in k α) (φ (resize k α)) (pos 0))
    ∙ ap (λ i. cond (fits_in k (replicate i 0 ++ (1 ∷ []))) (φ (resize k (replicate i 0 ++ (1 ∷ [])))) (pos 0)) z

unit_long : (c n : ℕ) → c < n → length {A = ℕ} (replicate c 0 ++ (1 ∷ [])) ≤ n
unit_long c n h = let e = length-unit c in omega arith

pub y_turned_over : (n k c : ℕ) → c < n → Same (turned_over n k (beside (one n) (variable_in (suc c) n))) (beside (variable_in (suc c) k) (one k))
y_turned_over n k c h =
    same_from_pair (turned_over n k (beside (one n) (variable_in (suc c) n))) (beside (variable_in (suc c) k) (one k)) (λ φ.
    let z = length-replicate {A = ℕ} n 0 in
    pair_turned_over n k (beside (one n) (variable_in (suc c) n)) φ
    ∙ pair_beside (one n) (variable_in (suc c) n) (mirror n (both n k φ))
    ∙ pair_one n (λ α. pair (variable_in (suc c) n) (λ β. mirror n (both n k φ) (α ++ β)))
    ∙ pair_variable_in c n (λ β. mirror n (both n k φ) (replicate n 0 ++ β)) h
    ∙ mirror_at n (both n k φ) (replicate n 0) (unit c n) z
    ∙ both_of n k φ (unit c n) (replicate n 0) (length-resize n (replicate c 0 ++ (1 ∷ [])))
    ∙ ap₂ (λ s β. cond (fits_in k (unit c n) && s) (φ (resize k (unit c n) ++ β)) (pos 0)) (fits_in_zeros k n) (resize_zeros k n)
    ∙ ap (λ s. cond s (φ (resize k (unit c n) ++ replicate k 0)) (pos 0)) (and-true (fits_in k (unit c n)))
    ∙ ap₂ (λ s β. cond s (φ (β ++ replicate k 0)) (pos 0)) (fits_again k n (replicate c 0 ++ (1 ∷ [])) (unit_long c n h)) (resize_again k n (replicate c 0 ++ (1 ∷ [])) (unit_long c n h))
    ∙ sym (pair_beside (variable_in (suc c) k) (one k) φ
    ∙ variable_fits c k (λ α. pair (one k) (λ β. φ (α ++ β)))
    ∙ ap (λ x. cond (fits_in k (replicate c 0 ++ (1 ∷ []))) x (pos 0)) (pair_one k (λ β. φ (resize k (replicate c 0 ++ (1 ∷ [])) ++ β)))))

pub x_turned_over : (n k c : ℕ) → c < n → Same (turned_over n k (beside (variable_in (suc c) n) (one n))) (beside (one k) (variable_in (suc c) k))
x_turned_over n k c h =
    same_from_pair (turned_over n k (beside (variable_in (suc c) n) (one n))) (beside (one k) (variable_in (suc c) k)) (λ φ.
    let z = length-replicate {A = ℕ} n 0 in
    pair_turned_over n k (beside (variable_in (suc c) n) (one n)) φ
    ∙ pair_beside (variable_in (suc c) n) (one n) (mirror n (both n k φ))
    ∙ pair_variable_in c n (λ α. pair (one n) (λ β. mirror n (both n k φ) (α ++ β))) h
    ∙ pair_one n (λ β. mirror n (both n k φ) (unit c n ++ β))
    ∙ mirror_at n (both n k φ) (unit c n) (replicate n 0) (length-resize n (replicate c 0 ++ (1 ∷ [])))
    ∙ both_of n k φ (replicate n 0) (unit c n) z
    ∙ ap₂ (λ s β. cond (s && fits_in k (unit c n)) (φ (β ++ resize k (unit c n))) (pos 0)) (fits_in_zeros k n) (resize_zeros k n)
    ∙ ap₂ (λ s β. cond s (φ (replicate k 0 ++ β)) (pos 0)) (fits_again k n (replicate c 0 ++ (1 ∷ [])) (unit_long c n h)) (resize_again k n (replicate c 0 ++ (1 ∷ [])) (unit_long c n h))
    ∙ sym (pair_beside (one k) (variable_in (suc c) k) φ
    ∙ pair_one k (λ α. pair (variable_in (suc c) k) (λ β. φ (α ++ β)))
    ∙ variable_fits c k (λ β. φ (replicate k 0 ++ β))))

pub one_turned_over : (n k : ℕ) → Same (turned_over n k (one (n + n))) (one (k + k))
one_turned_over n k =
    same_from_pair (turned_over n k (one (n + n))) (one (k + k)) (λ φ.
    let z = length-replicate {A = ℕ} n 0 in
    pair_turned_over n k (one (n + n)) φ
    ∙ pair_one (n + n) (mirror n (both n k φ))
    ∙ ap (mirror n (both n k φ)) (sym (replicate-append-replicate n n 0))
    ∙ mirror_at n (both n k φ) (replicate n 0) (replicate n 0) z
    ∙ both_of n k φ (replicate n 0) (replicate n 0) z
    ∙ ap₂ (λ s β. cond (s && s) (φ (β ++ β)) (pos 0)) (fits_in_zeros k n) (resize_zeros k n)
    ∙ ap φ (replicate-append-replicate k k 0)
    ∙ sym (pair_one (k + k) φ))

turned_over-plus : (n k : ℕ) (f g : Poly) → Same (turned_over n k (plus f g)) (plus (turned_over n k f) (turned_over n k g))
turned_over-plus n k f g =
    same_from_pair (turned_over n k (plus f g)) (plus (turned_over n k f) (turned_over n k g)) (λ φ.
    pair_turned_over n k (plus f g) φ
    ∙ pair_plus f g (mirror n (both n k φ))
    ∙ sym (pair_plus (turned_over n k f) (turned_over n k g) φ ∙ ap₂ ◌+ℤ◌ (pair_turned_over n k f φ) (pair_turned_over n k g φ)))

-- ---- elementary polynomials

-- the variables x_a, for the numbers a of a list
abbrev pub these_x : List ℕ → ℕ → List Poly
these_x letters n = map (λ i. beside (variable_in i n) (one n)) letters

letter_turned_over : (n k a : ℕ) → 1 ≤ a → a ≤ n → Same (turned_over n k (beside (one n) (variable_in a n))) (beside (variable_in a k) (one k))
letter_turned_over n k zero h l = λ α. absurd (omega arith)
letter_turned_over n k (suc c) h l = y_turned_over n k c (omega arith)

pub elementary_turned_over : (n k d : ℕ) (letters : List ℕ) → ((a : ℕ) → Among a letters → (1 ≤ a) × (a ≤ n))
    → Same (turned_over n k (elementary_of (n + n) d (these_y letters n))) (elementary_of (k + k) d (these_x letters k))
elementary_turned_over n k zero letters h = one_turned_over n k
elementary_turned_over n k (suc d) [] h = Same_refl nothing
elementary_turned_over n k (suc d) (a ∷ letters) h =
    let y : Poly = beside (one n) (variable_in a n) in
    let x : Poly = beside (variable_in a k) (one k) in
    let more : Poly = elementary_of (n + n) (suc d) (these_y letters n) in
    let few : Poly = elementary_of (n + n) d (these_y letters n) in
    let more_x : Poly = elementary_of (k + k) (suc d) (these_x letters k) in
    let few_x : Poly = elementary_of (k + k) d (these_x letters k) in
    Same_trans (turned_over n k (plus more (times y few))) (plus (turned_over n k more) (turned_over n k (times y few))) (plus more_x (times x few_x))
    (turned_over-plus n k more (times y few))
    (plus_respects (turned_over n k more) more_x (turned_over n k (times y few)) (times x few_x)
    (elementary_turned_over n k (suc d) letters (λ b m. h b (inr m)))
    (Same_trans (turned_over n k (times y few)) (times (turned_over n k y) (turned_over n k few)) (times x few_x)
    (turned_over-times n k y few (In_y n a) (In_elementary_y n d letters))
    (times_respects (turned_over n k y) x (turned_over n k few) few_x
    (letter_turned_over n k a (h a (inl refl)).0 (h a (inl refl)).1)
    (elementary_turned_over n k d letters (λ b m. h b (inr m))))))
