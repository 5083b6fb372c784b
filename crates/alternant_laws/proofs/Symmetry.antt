-- Symmetric polynomials by their pairings with functions: the pairing of f with φ is the sum of c·φ(α) over the terms c·x^α of f. If f is symmetric,
-- rearranging the exponents α by an order (a permutation) of the places changes no pairing.
use Rattle.std.proofs.Common.{◌≡◌, ℕ, zero, suc, cond, List, [], ◌∷◌, ◌++◌, append_assoc, map, length, sym, ◌∙◌, ap, refl, ℤ, pos, ◌*ℤ◌}
use Rattle.sym_model.specs.Sum.{Among}
use Rattle.sym_model.specs.Polynomial.{Poly, Term, In, same, coefficient, pair}
use Rattle.sym_model.specs.Partition.{part}
use Rattle.sym_model.specs.PlaceOrders.{orders, places}
use Rattle.sym_model.specs.Symmetric.{Symmetric}
use Rattle.sym_model.specs.Alternant.{rearranged}
use Rattle.sym_model.proofs.Sums.{total_ext, total_map}
use Rattle.sym_model.proofs.Polynomials.{pair_in, pair_ext, pair_determined}
use Rattle.alternant_laws.proofs.Exchanges.{exchanged, same_exchanged}
use Rattle.alternant_laws.proofs.OrderSums.{orders_reach, rearranged_places}
use Rattle.beta_list_laws.proofs.NeighbourExchanges.{KeptByExchanges}

symmetric_after : (f : Poly) → Symmetric f → (left : List ℕ) (k : ℕ) (α : List ℕ) → coefficient f (left ++ exchanged k α) ≡ coefficient f (left ++ α)
symmetric_after f s left k [] = refl
symmetric_after f s left zero (a ∷ []) = refl
symmetric_after f s left zero (a ∷ b ∷ α) = s left b a α
symmetric_after f s left (suc k) (a ∷ α) =
    let p = symmetric_after f s (left ++ (a ∷ [])) k α in
    ap (coefficient f) (sym (append_assoc left (a ∷ []) (exchanged k α))) ∙ p ∙ ap (coefficient f) (append_assoc left (a ∷ []) α)

pub pair_exchanged : (k : ℕ) (f : Poly) (φ : List ℕ → ℤ) → Symmetric f → pair f (λ α. φ (exchanged k α)) ≡ pair f φ
pair_exchanged k f φ s =
    let swap = λ (t : Term). let u : Term = (exchanged k t.0, t.1) in u in
    sym (total_map (λ (t : Term). t.1 *ℤ φ t.0) swap f)
    ∙ pair_determined (map swap f) f φ (λ β.
    total_map (λ (t : Term). cond (same t.0 β) t.1 (pos 0)) swap f
    ∙ total_ext
    (λ (t : Term). cond (same (exchanged k t.0) β) t.1 (pos 0))
    (λ (t : Term). cond (same t.0 (exchanged k β)) t.1 (pos 0))
    (λ t. ap (λ b. cond b t.1 (pos 0)) (same_exchanged k t.0 β))
    f
    ∙ symmetric_after f s [] k β)

map-exchanged : (g : ℕ → ℕ) (l : List ℕ) (a b : ℕ) (r : List ℕ) → map g (l ++ (b ∷ a ∷ r)) ≡ exchanged (length l) (map g (l ++ (a ∷ b ∷ r)))
map-exchanged g [] a b r = refl
map-exchanged g (c ∷ l) a b r = ap (λ β. g c ∷ β) (map-exchanged g l a b r)

-- for each φ, the sums of c·φ(α) and of c·φ(α rearranged by w) over the terms c·x^α of f are equal; w is an order of the places
abbrev ChangesNothing : Poly → List ℕ → Type 0
ChangesNothing f w = (φ : List ℕ → ℤ) → pair f (λ α. φ (rearranged w α)) ≡ pair f φ

changes_nothing_kept : (f : Poly) → Symmetric f → KeptByExchanges (ChangesNothing f)
changes_nothing_kept f s l a b r h φ =
    pair_ext f
    (λ α. φ (rearranged (l ++ (b ∷ a ∷ r)) α))
    (λ α. φ (exchanged (length l) (rearranged (l ++ (a ∷ b ∷ r)) α)))
    (λ α. ap φ (map-exchanged (part α) l a b r))
    ∙ h (λ α. φ (exchanged (length l) α))
    ∙ pair_exchanged (length l) f φ s

pub pair_rearranged : (n : ℕ) (f : Poly) (w : List ℕ) (φ : List ℕ → ℤ) → In n f → Symmetric f → Among w (orders (places n))
    → pair f (λ α. φ (rearranged w α)) ≡ pair f φ
pair_rearranged n f w φ i s m =
    orders_reach (ChangesNothing f) (changes_nothing_kept f s) (places n) w
    (λ ψ. pair_in n f (λ α. ψ (rearranged (places n) α)) ψ i (λ α e. ap ψ (rearranged_places n α e)))
    m φ
