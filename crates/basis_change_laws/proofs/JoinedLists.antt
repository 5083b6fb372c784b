-- Lists of terms in a multiplicative basis: the label of a term is a partition and denotes the product of polynomials P_a over its parts a.
-- Here a *list of q·f* (`Stands`) is a list of terms whose sum is q·f(n) in every number n of variables.
--     `stands-product`, `-plus`, `-scale`, `-raised`, `-weaken`      products, sums and multiples of lists of q·f
use Rattle.std.proofs.Common.{◌≡◌, ℕ, ◌+◌, ◌*◌, ◌≤◌, List, [], ◌∷◌, map, refl, sym, ap, ap₂, ◌∙◌, inl, inr, arith, ℤ, pos, ◌+ℤ◌, ◌*ℤ◌, rules}
use Rattle.std.specs.Prelude.{nat_abs}
use Rattle.std.proofs.lemmas.Int.{ints, unsigned_abs-mul}
use Rattle.std.proofs.lemmas.Nat.{mul-le}
use Rattle.sym_model.specs.Sum.{Among}
use Rattle.sym_model.specs.Polynomial.{Poly, Same, In, pair, join, times, plus, scale, one}
use Rattle.sym_model.specs.Partition.{ArePositive}
use Rattle.sym_model.specs.Bases.{product_over}
use Rattle.sym_model.specs.WholeTerms.{WholeTerms, absolute_total, HaveLabels}
use Rattle.sym_model.proofs.Ring.{ring, product_assoc, distributes_left, product_left_comm}
use Rattle.sym_model.proofs.Sums.{total_ext, total_among, total_each, total_map, total_scale}
use Rattle.sym_model.proofs.Polynomials.{pair_ext, pair_factor, pair_plus, pair_scale, pair_times, pair_determined, Same_refl, Same_sym, Same_trans, times_respects, In_one}
use Rattle.sym_model.proofs.PolynomialLaws.{times_comm, times-one}
use Rattle.monomial_laws.proofs.Powers.{In-product_over}
use Rattle.sym_model.proofs.WholeTerms.{labels_append, labels_map, labels_scaled}
use Rattle.basis_change_laws.specs.JoinedLists.{merged, joined, IsLow, Stands}
use Rattle.basis_change_laws.proofs.MergedParts.{IsPartition-merged, size-merged, product_over-merged}
use Rattle.sym_model.proofs.WholeTerms.{absolute-append}
use Rattle.std.proofs.Math.Nat.{mul_assoc}

low-joined : (a b : ℕ) (W V : WholeTerms) → HaveLabels (IsLow a) W → HaveLabels (IsLow b) V → HaveLabels (IsLow (a + b)) (joined W V)
low-joined a b [] V h k t m = absurd m
low-joined a b (s ∷ W) V h k u n =
    labels_append (IsLow (a + b)) (map (λ (t : List ℕ × ℤ). (merged s.0 t.0, s.1 *ℤ t.1)) V) (joined W V)
    (labels_map (IsLow (a + b)) (λ (t : List ℕ × ℤ). (merged s.0 t.0, s.1 *ℤ t.1)) V one)
    (low-joined a b W V (λ t m. h t (inr m)) k) u n
  where
    one : (t : List ℕ × ℤ) → Among t V → IsLow (a + b) (merged s.0 t.0)
    one t m =
        let first = h s (inl refl) in
        let second = k t m in
        let x = first.low in
        let y = second.low in
        let z = size-merged s.0 t.0 in
        record { partition = IsPartition-merged s.0 t.0 second.partition; low = omega arith }

pub absolute-scale : (c : ℤ) (W : WholeTerms) → absolute_total (scale c W) ≡ nat_abs c * absolute_total W
absolute-scale c [] = omega arith
absolute-scale c (t ∷ W) = let u = unsigned_abs-mul c t.1 in let r = absolute-scale c W in omega arith

pub absolute-joined : (W V : WholeTerms) → absolute_total (joined W V) ≡ absolute_total W * absolute_total V
absolute-joined [] V = omega arith
absolute-joined (s ∷ W) V =
    let a = absolute-append (map (λ (t : List ℕ × ℤ). (merged s.0 t.0, s.1 *ℤ t.1)) V) (joined W V) in
    let r = row V in
    let i = absolute-joined W V in
    omega arith
  where
    row : (U : WholeTerms) → absolute_total (map (λ (t : List ℕ × ℤ). (merged s.0 t.0, s.1 *ℤ t.1)) U) ≡ nat_abs s.1 * absolute_total U
    row [] = omega arith
    row (t ∷ U) = let u = unsigned_abs-mul s.1 t.1 in let r = row U in omega arith

-- ---- the polynomial of a product of two lists is the product of the polynomials of the lists

pub pair-joined : (W V : WholeTerms) (ψ : List ℕ → ℤ) → pair (joined W V) ψ ≡ pair W (λ l. pair V (λ r. ψ (merged l r)))
pair-joined W V ψ = search (rules, total_each, total_ext, total_map, product_assoc, total_scale)

pair-among : (W : WholeTerms) (φ ψ : List ℕ → ℤ) → ((t : List ℕ × ℤ) → Among t W → φ t.0 ≡ ψ t.0) → pair W φ ≡ pair W ψ
pair-among W φ ψ h = total_among (λ (t : List ℕ × ℤ). t.1 *ℤ φ t.0) (λ (t : List ℕ × ℤ). t.1 *ℤ ψ t.0) W (λ t m. ap (λ z. t.1 *ℤ z) (h t m))

module _ (P : ℕ → ℕ → Poly) (places : (n k : ℕ) → In n (P k n)) where
  pub merged-value : (n : ℕ) (l r : List ℕ) → ArePositive l → Same (product_over P (merged l r) n) (times (product_over P l n) (product_over P r n))
  merged-value n l r p =
      let M = product_over P (merged l r) n in
      let L = product_over P l n in
      let R = product_over P r n in
      Same_trans M (times M (one n)) (times L R)
      (Same_sym (times M (one n)) M (times-one n M (In-product_over P (merged l r) n (places n))))
      (Same_trans (times M (one n)) (times L (times R (one n))) (times L R)
      (product_over-merged P n (places n) l r (one n) (In_one n) p)
      (times_respects L L (times R (one n)) R (Same_refl L) (times-one n R (In-product_over P r n (places n)))))

  pub stands-product : (q A a r B b s M : ℕ) (c : ℕ) (f g : ℕ → Poly) (W V : WholeTerms) → Stands P q A a f W → Stands P r B b g V → c * (q * r) ≡ s → c * (A * B) ≤ M
      → Stands P s M (a + b) (λ n. times (f n) (g n)) (joined (scale (pos c) W) V)
  stands-product q A a r B b s M c f g W V h k e m = record {
    value = λ n φ.
        let Q : List ℕ → Poly = λ l. product_over P l n in
        let ψ : List ℕ → ℤ = λ l. pair (product_over P l n) φ in
        pair-joined (scale (pos c) W) V (λ l. pair (product_over P l n) φ)
        ∙ pair_scale (pos c) W (λ l. pair V (λ r. pair (product_over P (merged l r) n) φ))
        ∙ ap (λ z. pos c *ℤ z)
        (pair-among W (λ l. pair V (λ r. pair (product_over P (merged l r) n) φ)) (λ l. pos r *ℤ pair (product_over P l n) (λ α. pair (g n) (λ β. φ (join α β))))
        (λ t i.
        pair_ext V (λ r. pair (product_over P (merged t.0 r) n) φ) (λ r. pair (product_over P r n) (λ β. pair (product_over P t.0 n) (λ α. φ (join β α))))
        (λ r.
        pair_determined (product_over P (merged t.0 r) n) (times (product_over P t.0 n) (product_over P r n)) φ (merged-value n t.0 r (h.labels t i).partition.positive)
        ∙ pair_determined (times (product_over P t.0 n) (product_over P r n)) (times (product_over P r n) (product_over P t.0 n)) φ (times_comm (product_over P t.0 n) (product_over P r n))
        ∙ pair_times (product_over P r n) (product_over P t.0 n) φ)
        ∙ k.value n (λ β. pair (product_over P t.0 n) (λ α. φ (join β α)))
        ∙ ap (λ z. pos r *ℤ z)
        (sym (pair_times (g n) (product_over P t.0 n) φ)
        ∙ pair_determined (times (g n) (product_over P t.0 n)) (times (product_over P t.0 n) (g n)) φ (times_comm (g n) (product_over P t.0 n))
        ∙ pair_times (product_over P t.0 n) (g n) φ))
        ∙ pair_factor (pos r) W (λ l. pair (product_over P l n) (λ α. pair (g n) (λ β. φ (join α β))))
        ∙ ap (λ z. pos r *ℤ z) (h.value n (λ α. pair (g n) (λ β. φ (join α β))))
        ∙ ap (λ z. pos r *ℤ (pos q *ℤ z)) (sym (pair_times (f n) (g n) φ)))
        ∙ regroup (pos c) (pos r) (pos q) (pair (times (f n) (g n)) φ)
        ∙ ap (λ (k : ℕ). pos k *ℤ pair (times (f n) (g n)) φ) e;
    few =
        let x = absolute-joined (scale (pos c) W) V in
        let y = absolute-scale (pos c) W in
        let u = mul-le (absolute_total W) (absolute_total V) A B h.few k.few in
        closing (absolute_total (joined (scale (pos c) W) V)) (absolute_total (scale (pos c) W)) c (absolute_total W) (absolute_total V) (A * B) M x y u m;
    labels = low-joined a b (scale (pos c) W) V (labels_scaled _ (pos c) W h.labels) k.labels;
  }
    where
      regroup : (c r q x : ℤ) → c *ℤ (r *ℤ (q *ℤ x)) ≡ (c *ℤ (q *ℤ r)) *ℤ x
      regroup c r q x = simp ring (omega (arith, ints))

      closing : (t u c w v n m : ℕ) → t ≡ u * v → u ≡ c * w → w * v ≤ n → c * n ≤ m → t ≤ m
      closing t u c w v n m x y h k =
          let a = mul-le c (w * v) c n (omega arith) h in
          let b : u * v ≡ c * (w * v) = ap (λ k. k * v) y ∙ mul_assoc c w v in
          omega arith

pub stands-plus : (P : ℕ → ℕ → Poly) (q A B M d : ℕ) (f g : ℕ → Poly) (W V : WholeTerms) → Stands P q A d f W → Stands P q B d g V → A + B ≤ M → Stands P q M d (λ n. plus (f n) (g n)) (plus W V)
stands-plus P q A B M d f g W V h k m = record {
  value = λ n φ.
      let ψ : List ℕ → ℤ = λ l. pair (product_over P l n) φ in
      pair_plus W V (λ l. pair (product_over P l n) φ) ∙ ap₂ ◌+ℤ◌ (h.value n φ) (k.value n φ)
      ∙ sym (distributes_left (pos q) (pair (f n) φ) (pair (g n) φ)) ∙ ap (λ z. pos q *ℤ z) (sym (pair_plus (f n) (g n) φ));
  few = let x = absolute-append W V in let y = h.few in let z = k.few in omega arith;
  labels = labels_append (IsLow d) W V h.labels k.labels;
}

-- if W is a list of q·f (`Stands`), and the absolute values of its coefficients add up to at most A, then c·W is a list of q·(c·f), and the absolute
-- values of its coefficients add up to at most M, for each M ≥ |c|·A
pub stands-scale : (P : ℕ → ℕ → Poly) (q A M d : ℕ) (c : ℤ) (f : ℕ → Poly) (W : WholeTerms) → Stands P q A d f W → nat_abs c * A ≤ M → Stands P q M d (λ n. scale c (f n)) (scale c W)
stands-scale P q A M d c f W h m = record {
  value = λ n φ.
      pair_scale c W (λ l. pair (product_over P l n) φ) ∙ ap (λ z. c *ℤ z) (h.value n φ)
      ∙ product_left_comm c (pos q) (pair (f n) φ) ∙ ap (λ z. pos q *ℤ z) (sym (pair_scale c (f n) φ));
  few = let x = absolute-scale c W in let y = mul-le (nat_abs c) (absolute_total W) (nat_abs c) A (omega arith) h.few in omega arith;
  labels = labels_scaled _ c W h.labels;
}

-- if W is a list of q·f (`Stands`), and the absolute values of its coefficients add up to at most A, then c·W is a list of (c·q)·f, and the absolute
-- values of its coefficients add up to at most M, for each M ≥ c·A
pub stands-raised : (P : ℕ → ℕ → Poly) (q A M d r : ℕ) (c : ℕ) (f : ℕ → Poly) (W : WholeTerms) → Stands P q A d f W → c * q ≡ r → c * A ≤ M → Stands P r M d f (scale (pos c) W)
stands-raised P q A M d r c f W h e m = record {
  value = λ n φ.
      pair_scale (pos c) W (λ l. pair (product_over P l n) φ) ∙ ap (λ z. pos c *ℤ z) (h.value n φ)
      ∙ sym (product_assoc (pos c) (pos q) (pair (f n) φ)) ∙ ap (λ (k : ℕ). pos k *ℤ pair (f n) φ) e;
  few = let x = absolute-scale (pos c) W in let y = mul-le c (absolute_total W) c A (omega arith) h.few in omega arith;
  labels = labels_scaled _ (pos c) W h.labels;
}

pub stands-weaken : (P : ℕ → ℕ → Poly) (q A M d e : ℕ) (f : ℕ → Poly) (W : WholeTerms) → Stands P q A d f W → A ≤ M → d ≤ e → Stands P q M e f W
stands-weaken P q A M d e f W h m l = search rules

pub stands-same : (P : ℕ → ℕ → Poly) (q A d : ℕ) (f g : ℕ → Poly) (W : WholeTerms) → ((n : ℕ) → Same (f n) (g n)) → Stands P q A d f W → Stands P q A d g W
stands-same P q A d f g W e h = record { value = λ n φ. h.value n φ ∙ ap (λ z. pos q *ℤ z) (pair_determined (f n) (g n) φ (e n)); few = h.few; labels = h.labels }
