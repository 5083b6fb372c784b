-- An alternant times a symmetric polynomial f: a_β·f is the sum of c·a_(β + α) over the terms c·x^α of f. The pairing of f with a function φ is the
-- sum of c·φ(α) over these terms.
use Rattle.std.proofs.Common.{◌≡◌, ℕ, List, length, sym, ◌∙◌, ap, ℤ, ◌*ℤ◌}
use Rattle.sym_model.specs.Sum.{total}
use Rattle.sym_model.specs.Polynomial.{Poly, Term, Same, In, join, scale, times, pair}
use Rattle.sym_model.specs.PlaceOrders.{orders, places, sign}
use Rattle.sym_model.specs.Symmetric.{Symmetric}
use Rattle.sym_model.specs.Alternant.{rearranged, alternant, alternants_over}
use Rattle.sym_model.proofs.Sums.{total_among}
use Rattle.sym_model.proofs.Exponents.{length-join_same}
use Rattle.sym_model.proofs.Polynomials.{pair_ext, pair_in, pair_factor, pair_total, pair_times, pair_scale, pair_each, same_from_pair}
use Rattle.alternant_laws.proofs.OrderSums.{pair_orders, rearranged-join}
use Rattle.alternant_laws.proofs.Symmetry.{pair_rearranged}

-- if f is symmetric, the pairing of a_β·f with φ is the sum, over the orders w of 1, .., n and the terms c·x^α of f, of sign(w)·c·φ(γ); γ is β + α
-- rearranged by w
pub pair_alternant_times : (n : ℕ) (β : List ℕ) (f : Poly) (φ : List ℕ → ℤ) → length β ≡ n → In n f → Symmetric f
    → pair (times (alternant β) f) φ ≡ total (λ (w : List ℕ). sign w *ℤ pair f (λ α. φ (rearranged w (join β α)))) (orders (places n))
pair_alternant_times n β f φ e i s =
    pair_times (alternant β) f φ
    ∙ pair_orders n β (λ γ. pair f (λ α. φ (join γ α))) e
    ∙ total_among
    (λ (w : List ℕ). sign w *ℤ pair f (λ α. φ (join (rearranged w β) α)))
    (λ (w : List ℕ). sign w *ℤ pair f (λ α. φ (rearranged w (join β α))))
    (orders (places n))
    (λ w m. ap (λ z. sign w *ℤ z) (
    sym (pair_rearranged n f w (λ α. φ (join (rearranged w β) α)) i s m)
    ∙ pair_ext f
    (λ α. φ (join (rearranged w β) (rearranged w α)))
    (λ α. φ (rearranged w (join β α)))
    (λ α. ap φ (sym (rearranged-join w β α)))))

pub pair_alternants_over : (n : ℕ) (β : List ℕ) (f : Poly) (φ : List ℕ → ℤ) → length β ≡ n → In n f
    → pair (alternants_over β f) φ ≡ pair f (λ α. pair (alternant (join β α)) φ)
pair_alternants_over n β f φ e i =
    pair_each (λ (t : Term). scale t.1 (alternant (join β t.0))) f φ
    ∙ total_among
    (λ (t : Term). pair (scale t.1 (alternant (join β t.0))) φ)
    (λ (t : Term). t.1 *ℤ pair (alternant (join β t.0)) φ)
    f
    (λ t m. pair_scale t.1 (alternant (join β t.0)) φ)

pub alternant_times : (n : ℕ) (β : List ℕ) (f : Poly) → length β ≡ n → In n f → Symmetric f → Same (times (alternant β) f) (alternants_over β f)
alternant_times n β f e i s =
    same_from_pair (times (alternant β) f) (alternants_over β f) (λ φ.
    pair_alternant_times n β f φ e i s
    ∙ sym (
    pair_alternants_over n β f φ e i
    ∙ pair_in n f
    (λ α. pair (alternant (join β α)) φ)
    (λ α. total (λ (w : List ℕ). sign w *ℤ φ (rearranged w (join β α))) (orders (places n)))
    i
    (λ α d. pair_orders n (join β α) φ (length-join_same n β α e d))
    ∙ pair_total f (λ (w : List ℕ) (α : List ℕ). sign w *ℤ φ (rearranged w (join β α))) (orders (places n))
    ∙ total_among
    (λ (w : List ℕ). pair f (λ α. sign w *ℤ φ (rearranged w (join β α))))
    (λ (w : List ℕ). sign w *ℤ pair f (λ α. φ (rearranged w (join β α))))
    (orders (places n))
    (λ w m. pair_factor (sign w) f (λ α. φ (rearranged w (join β α))))))
