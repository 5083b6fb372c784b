-- Double Schubert polynomials in n variables x and n variables y, obtained by restriction from m variables x and m variables y: they do not depend on
-- m, and the restriction is compatible with products and sums.
use Rattle.std.proofs.Common.{◌≡◌, ℕ, zero, suc, ◌+◌, ◌<◌, ◌≤◌, List, [], ◌∷◌, ◌++◌, ◌&&◌, take, drop, length, replicate, refl, sym, ◌∙◌, ap, ap₂, subst, arith, inl, inr, ◌⊎◌, cond, Bool, true, false, None, ℤ, pos, ◌-ℤ◌, rules}
use Rattle.std.proofs.lemmas.List.{replicate-append-replicate, length-replicate}
use Rattle.sym_model.specs.Polynomial.{Poly, Same, In, times, pair, join, resize, fits_in}
use Rattle.sym_model.specs.Alternant.{staircase}
use Rattle.sym_model.specs.BetaList.{rising_pairs}
use Rattle.sym_model.specs.Permutation.{first_ascent}
use Rattle.sym_model.proofs.Sums.{total_ext, total_map, total_select}
use Rattle.sym_model.proofs.Exponents.{fits_in-join, resize-join, length-resize, and_exchange}
use Rattle.sym_model.proofs.Polynomials.{pair_ext, pair_in, pair_zero, pair_times, same_from_pair, Same_trans}
use Rattle.schubert_laws.proofs.Differences.{along}
use Rattle.schubert_laws.proofs.Exchanges.{exchange_at, raise, length-raise, Rises, IsFirstAscent, first_ascent_cases, rises_within, rising_pairs_exchange, length-exchange_at}
use Rattle.schubert_laws.proofs.Paths.{over_top}
use Rattle.sym_model.specs.DoubleSchubert.{difference_product, double_schubert, restrict_both, double_schubert_in}
use Rattle.double_schubert_laws.proofs.DiagramProducts.{less, row, diagram}
use Rattle.double_schubert_laws.proofs.DoubleDominant.{pair_double_ascent, pair_difference_product, In_double}
use Rattle.sym_model.proofs.Integers.{times_chosen}
use Rattle.schubert_laws.proofs.FixedLetters.{resize_added, fits_in_added}

abbrev pub both : ℕ → ℕ → (List ℕ → ℤ) → List ℕ → ℤ
both m n φ α = cond (fits_in n (take m α) && fits_in n (drop m α)) (φ (resize n (take m α) ++ resize n (drop m α))) (pos 0)

pub pair_restrict_both : (m n : ℕ) (f : Poly) (φ : List ℕ → ℤ) → pair (restrict_both m n f) φ ≡ pair f (both m n φ)
pair_restrict_both m n f φ = search (rules, total_map, total_select, total_ext, times_chosen)

-- ---- exponents with one more variable x and one more variable y, both with the exponent 0

abbrev wide : ℕ → List ℕ → List ℕ
wide zero α = 0 ∷ (α ++ (0 ∷ []))
wide (suc m) [] = []
wide (suc m) (a ∷ α) = a ∷ wide m α

take_wide : (m : ℕ) (α : List ℕ) → m ≤ length α → take (suc m) (wide m α) ≡ take m α ++ (0 ∷ [])
take_wide zero α h = refl
take_wide (suc m) [] h = absurd (omega arith)
take_wide (suc m) (a ∷ α) h = ap (λ l. a ∷ l) (take_wide m α (omega arith))

drop_wide : (m : ℕ) (α : List ℕ) → m ≤ length α → drop (suc m) (wide m α) ≡ drop m α ++ (0 ∷ [])
drop_wide zero α h = refl
drop_wide (suc m) [] h = absurd (omega arith)
drop_wide (suc m) (a ∷ α) h = drop_wide m α (omega arith)

wide_zeros : (m k : ℕ) → wide m (replicate (m + k) 0) ≡ replicate (suc m + suc k) 0
wide_zeros zero k =
    let e : 0 + k ≡ k = omega arith in
    let d : k + 1 ≡ suc k = omega arith in
    let f : suc (suc k) ≡ suc zero + suc k = omega arith in
    ap (λ i. 0 ∷ (replicate i 0 ++ (0 ∷ []))) e ∙ ap (λ l. 0 ∷ l) (replicate-append-replicate k 1 0 ∙ ap (λ i. replicate i 0) d) ∙ ap (λ i. replicate i 0) f
wide_zeros (suc m) k =
    let e : suc m + k ≡ suc (m + k) = omega arith in
    let f : suc (suc m + suc k) ≡ suc (suc m) + suc k = omega arith in
    ap (λ i. wide (suc m) (replicate i 0)) e ∙ ap (λ l. 0 ∷ l) (wide_zeros m k) ∙ ap (λ i. replicate i 0) f

raise_wide_x : (r m : ℕ) (α : List ℕ) → r < m → m ≤ length α → raise r (wide m α) ≡ wide m (raise r α)
raise_wide_x r zero α h l = absurd (omega arith)
raise_wide_x r (suc m) [] h l = absurd (omega arith)
raise_wide_x zero (suc m) (a ∷ α) h l = refl
raise_wide_x (suc r) (suc m) (a ∷ α) h l = ap (λ β. a ∷ β) (raise_wide_x r m α (omega arith) (omega arith))

raise_added : (s : ℕ) (α : List ℕ) → s < length α → raise s (α ++ (0 ∷ [])) ≡ raise s α ++ (0 ∷ [])
raise_added s [] h = absurd (omega arith)
raise_added zero (a ∷ α) h = refl
raise_added (suc s) (a ∷ α) h = ap (λ β. a ∷ β) (raise_added s α (omega arith))

raise_wide_y : (s m : ℕ) (α : List ℕ) → m ≤ s → s < length α → raise (suc s) (wide m α) ≡ wide m (raise s α)
raise_wide_y s zero α h l = ap (λ β. 0 ∷ β) (raise_added s α l)
raise_wide_y s (suc m) [] h l = absurd (omega arith)
raise_wide_y zero (suc m) (a ∷ α) h l = absurd (omega arith)
raise_wide_y (suc s) (suc m) (a ∷ α) h l = ap (λ β. a ∷ β) (raise_wide_y s m α (omega arith) (omega arith))

along_wide : (k m : ℕ) (φ : List ℕ → ℤ) (α : List ℕ) → suc k < m → m ≤ length α → along k φ (wide m α) ≡ along k (λ β. φ (wide m β)) α
along_wide k zero φ α h l = absurd (omega arith)
along_wide k (suc m) φ [] h l = absurd (omega arith)
along_wide zero (suc zero) φ (a ∷ α) h l = absurd (omega arith)
along_wide zero (suc (suc m)) φ (a ∷ []) h l = absurd (omega arith)
along_wide zero (suc (suc m)) φ (a ∷ b ∷ α) h l = refl
along_wide (suc k) (suc m) φ (a ∷ α) h l = along_wide k m (λ β. φ (a ∷ β)) α (omega arith) (omega arith)

-- ---- functions φ that agree at all lists of n exponents (`AgreeIn`), and the sums of c·φ(α) over the terms c·x^α of products of differences x - y

abbrev AgreeIn : ℕ → (List ℕ → ℤ) → (List ℕ → ℤ) → Type 0
AgreeIn n φ ψ = (α : List ℕ) → length α ≡ n → φ α ≡ ψ α

row_in : (n r s c : ℕ) (φ ψ : List ℕ → ℤ) → AgreeIn n φ ψ → AgreeIn n (row r s c φ) (row r s c ψ)
row_in n r s zero φ ψ e = e
row_in n r s (suc c) φ ψ e = row_in n r (suc s) c (less r s φ) (less r s ψ) (λ α l. ap₂ ◌-ℤ◌ (e (raise r α) (length-raise r α ∙ l)) (e (raise s α) (length-raise s α ∙ l)))

diagram_in : (n s r : ℕ) (cs : List ℕ) (φ ψ : List ℕ → ℤ) → AgreeIn n φ ψ → AgreeIn n (diagram s r cs φ) (diagram s r cs ψ)
diagram_in n s r [] φ ψ e = e
diagram_in n s r (c ∷ cs) φ ψ e = diagram_in n s (suc r) cs (row r s c φ) (row r s c ψ) (row_in n r s c φ ψ e)

row_wide : (m r s c : ℕ) (φ : List ℕ → ℤ) → r < m → m ≤ s → s + c ≤ m + m → AgreeIn (m + m) (λ α. row r (suc s) c φ (wide m α)) (row r s c (λ β. φ (wide m β)))
row_wide m r s zero φ h l k α e = refl
row_wide m r s (suc c) φ h l k α e = search (rules, less, row_in, raise_wide_x, raise_wide_y, (row_wide m r (suc s) c))

diagram_wide : (m r k : ℕ) (φ : List ℕ → ℤ) → r + k ≤ m → AgreeIn (m + m) (λ α. diagram (suc m) r (staircase k) φ (wide m α)) (diagram m r (staircase k) (λ β. φ (wide m β)))
diagram_wide m r zero φ h α e = refl
diagram_wide m r (suc k) φ h α e = search (rules, row, diagram_in, row_wide, (diagram_wide m (suc r) k))

-- ---- the double Schubert polynomial, restricted to n variables x and n variables y, does not depend on the number m of variables

wider_within : (n m : ℕ) (w : List ℕ) (φ : List ℕ → ℤ) → rising_pairs w < n → length w ≤ m → pair (double_schubert w (suc m)) φ ≡ pair (double_schubert w m) (λ α. φ (wide m α))
wider_within zero m w φ b h = absurd (omega arith)
wider_within (suc n) m w φ b h = by (first_ascent_cases w) (λ v ψ c l. wider_within n m v ψ c l)
  where
    by : ((j : ℕ) × IsFirstAscent w j) ⊎ ((first_ascent w ≡ None) × ((j : ℕ) → Rises j w → ⊥))
        → ((v : List ℕ) (ψ : List ℕ → ℤ) → rising_pairs v < n → length v ≤ m → pair (double_schubert v (suc m)) ψ ≡ pair (double_schubert v m) (λ α. ψ (wide m α)))
        → pair (double_schubert w (suc m)) φ ≡ pair (double_schubert w m) (λ α. φ (wide m α))
    by (inl found) rec =
        let k : ℕ = found.0 in
        let r = found.1.rises in
        let e = rising_pairs_exchange k w r in
        let l = length-exchange_at k w in
        let i = rises_within k w r in
        pair_double_ascent (suc m) w k φ r
        ∙ rec (exchange_at k w) (along k φ) (omega arith) (omega arith)
        ∙ pair_in (m + m) (double_schubert (exchange_at k w) m) (λ α. along k φ (wide m α)) (along k (λ β. φ (wide m β))) (In_double m (exchange_at k w))
        (λ α d. along_wide k m φ α (omega arith) (omega arith))
        ∙ sym (pair_double_ascent m w k (λ α. φ (wide m α)) r)
    by (inr none) rec =
        let z = length-replicate (m + m) 0 in
        ap (λ u. pair u φ) (over_top (difference_product (length w) (suc m)) (rising_pairs w) w none.0)
        ∙ pair_difference_product (suc m) (length w) φ (omega arith)
        ∙ ap (diagram (suc m) 0 (staircase (length w)) φ) (sym (wide_zeros m m))
        ∙ diagram_wide m 0 (length w) φ (omega arith) (replicate (m + m) 0) z
        ∙ sym (ap (λ u. pair u (λ α. φ (wide m α))) (over_top (difference_product (length w) m) (rising_pairs w) w none.0) ∙ pair_difference_product m (length w) (λ α. φ (wide m α)) h)

both_wide : (m n : ℕ) (φ : List ℕ → ℤ) (α : List ℕ) → m ≤ length α → both (suc m) n φ (wide m α) ≡ both m n φ α
both_wide m n φ α h = search (rules, take_wide, drop_wide, fits_in_added, resize_added)

wider : (m n : ℕ) (w : List ℕ) → length w ≤ m → Same (restrict_both (suc m) n (double_schubert w (suc m))) (restrict_both m n (double_schubert w m))
wider m n w h =
    same_from_pair (restrict_both (suc m) n (double_schubert w (suc m))) (restrict_both m n (double_schubert w m)) (λ φ.
    pair_restrict_both (suc m) n (double_schubert w (suc m)) φ
    ∙ wider_within (suc (rising_pairs w)) m w (both (suc m) n φ) (omega arith) h
    ∙ pair_in (m + m) (double_schubert w m) (λ α. both (suc m) n φ (wide m α)) (both m n φ) (In_double m w) (λ α l. both_wide m n φ α (omega arith))
    ∙ sym (pair_restrict_both m n (double_schubert w m) φ))

-- if m is at least the length of w, the double Schubert polynomial of w in m variables x and m variables y, restricted to n of each, is
-- `double_schubert_in w n`, which does not depend on m
pub in_any : (d m n : ℕ) (w : List ℕ) → m ≡ d + length w → Same (restrict_both m n (double_schubert w m)) (double_schubert_in w n)
in_any zero m n w e = let f : m ≡ length w = omega arith in subst (λ i. Same (restrict_both i n (double_schubert w i)) (double_schubert_in w n)) (sym f) (λ α. refl)
in_any (suc d) zero n w e = absurd (omega arith)
in_any (suc d) (suc m) n w e =
    Same_trans (restrict_both (suc m) n (double_schubert w (suc m))) (restrict_both m n (double_schubert w m)) (double_schubert_in w n)
    (wider m n w (omega arith)) (in_any d m n w (omega arith))

-- ---- restriction to fewer variables is compatible with products

take-join : (m : ℕ) (α β : List ℕ) → length α ≡ length β → take m (join α β) ≡ join (take m α) (take m β)
take-join zero α β e = refl
take-join (suc m) [] [] e = refl
take-join (suc m) [] (b ∷ β) e = absurd (omega arith)
take-join (suc m) (a ∷ α) [] e = absurd (omega arith)
take-join (suc m) (a ∷ α) (b ∷ β) e = ap (λ l. (a + b) ∷ l) (take-join m α β (omega arith))

drop-join : (m : ℕ) (α β : List ℕ) → length α ≡ length β → drop m (join α β) ≡ join (drop m α) (drop m β)
drop-join zero α β e = refl
drop-join (suc m) [] [] e = refl
drop-join (suc m) [] (b ∷ β) e = absurd (omega arith)
drop-join (suc m) (a ∷ α) [] e = absurd (omega arith)
drop-join (suc m) (a ∷ α) (b ∷ β) e = drop-join m α β (omega arith)

pub join_append : (α β γ δ : List ℕ) → length α ≡ length γ → join (α ++ β) (γ ++ δ) ≡ join α γ ++ join β δ
join_append [] β [] δ e = refl
join_append [] β (c ∷ γ) δ e = absurd (omega arith)
join_append (a ∷ α) β [] δ e = absurd (omega arith)
join_append (a ∷ α) β (c ∷ γ) δ e = ap (λ l. (a + c) ∷ l) (join_append α β γ δ (omega arith))

-- whether α, the exponents of m variables x followed by the exponents of variables y, is 0 at each x after the first n variables x and at each y
-- after the first n variables y
abbrev fits : ℕ → ℕ → List ℕ → Bool
fits m n α = fits_in n (take m α) && fits_in n (drop m α)

abbrev cut : ℕ → ℕ → List ℕ → List ℕ
cut m n α = resize n (take m α) ++ resize n (drop m α)

fits-join : (m n : ℕ) (α β : List ℕ) → length α ≡ length β → fits m n (join α β) ≡ (fits m n α && fits m n β)
fits-join m n α β e = search (rules, take-join, drop-join, fits_in-join, and_exchange)

cut-join : (m n : ℕ) (α β : List ℕ) → length α ≡ length β → cut m n (join α β) ≡ join (cut m n α) (cut m n β)
cut-join m n α β e = search (rules, length-resize, take-join, drop-join, resize-join, join_append)

both_join : (m n N : ℕ) (φ : List ℕ → ℤ) (g : Poly) (α : List ℕ) → In N g → length α ≡ N → pair g (λ β. both m n φ (join α β)) ≡ both m n (λ γ. pair g (both m n (λ β. φ (join γ β)))) α
both_join m n N φ g α i l = by (fits m n α) refl
  where
    by : (b : Bool) → fits m n α ≡ b → pair g (λ β. both m n φ (join α β)) ≡ cond b (pair g (both m n (λ β. φ (join (cut m n α) β)))) (pos 0)
    by true e =
        pair_in N g (λ β. both m n φ (join α β)) (both m n (λ β. φ (join (cut m n α) β))) i (λ β k.
        let d : length α ≡ length β = omega arith in
        ap₂ (λ b γ. cond b (φ γ) (pos 0)) (fits-join m n α β d ∙ ap (λ b. b && fits m n β) e) (cut-join m n α β d))
    by false e =
        pair_in N g (λ β. both m n φ (join α β)) (λ β. pos 0) i (λ β k.
        let d : length α ≡ length β = omega arith in
        ap (λ b. cond b (φ (cut m n (join α β))) (pos 0)) (fits-join m n α β d ∙ ap (λ b. b && fits m n β) e))
        ∙ pair_zero g

pub restrict_both-times : (m n N : ℕ) (f g : Poly) → In N f → In N g → Same (restrict_both m n (times f g)) (times (restrict_both m n f) (restrict_both m n g))
restrict_both-times m n N f g i j =
    same_from_pair (restrict_both m n (times f g)) (times (restrict_both m n f) (restrict_both m n g)) (λ φ.
    pair_restrict_both m n (times f g) φ
    ∙ pair_times f g (both m n φ)
    ∙ pair_in N f (λ α. pair g (λ β. both m n φ (join α β))) (both m n (λ γ. pair g (both m n (λ β. φ (join γ β))))) i (λ α l. both_join m n N φ g α j l)
    ∙ sym (pair_times (restrict_both m n f) (restrict_both m n g) φ
    ∙ pair_restrict_both m n f (λ α. pair (restrict_both m n g) (λ β. φ (join α β)))
    ∙ pair_ext f (both m n (λ α. pair (restrict_both m n g) (λ β. φ (join α β)))) (both m n (λ α. pair g (both m n (λ β. φ (join α β))))) (λ α.
    ap (λ z. cond (fits m n α) z (pos 0)) (pair_restrict_both m n g (λ β. φ (join (cut m n α) β))))))
