-- Let one entry of a strictly decreasing list be raised by k. If no two entries are then equal, sorting moves the raised entry in front of some
-- entries, and the sorted list is the beta list of a greater partition. (`one_place k n` has the n lists of exponents with k at one place and 0 at
-- the other n - 1 places.)
use Rattle.std.proofs.Common.{◌≡◌, ◌⊎◌, ℕ, zero, suc, ◌+◌, ◌<◌, ◌≤◌, true, false, ◌==◌, List, [], ◌∷◌, ◌++◌, map, length, replicate, drop, get_or, refl, sym, ◌∙◌, ap, ap₂, subst, inl, inr, arith, ℤ, pos, neg_ℤ, ◌*ℤ◌, append_assoc, rules}
use Rattle.std.proofs.lemmas.Int.{ints}
use Rattle.std.proofs.lemmas.Bool.{cases_lt, cases_eq, both_ways, eq-eqb, or_parts, or_right}
use Rattle.sym_model.specs.Sum.{Among, Once}
use Rattle.sym_model.specs.Polynomial.{join}
use Rattle.sym_model.specs.Bases.{has}
use Rattle.sym_model.specs.PlaceOrders.{minus_one_to}
use Rattle.sym_model.specs.BetaList.{has_equal_entries}
use Rattle.sym_model.proofs.Sums.{Among-map, Among_from_map, Once-map}
use Rattle.sym_model.proofs.Exponents.{join_comm, join_zeros}
use Rattle.sym_model.proofs.SortedParts.{has_here, has_past}
use Rattle.sym_model.proofs.Monomials.{one_place}
use Rattle.beta_list_laws.specs.StrictFall.{FallsStrictly}
use Rattle.beta_list_laws.proofs.BetaLists.{strict_tail}
use Rattle.beta_list_laws.proofs.NeighbourExchanges.{parity_of}
use Rattle.beta_list_laws.proofs.BetaLowerings.{not_below}
use Rattle.product_laws.proofs.Overlaps.{Turns}
use Rattle.sym_model.proofs.Ring.{negation-product, one-product}
use Rattle.std.proofs.Math.Seq.{append_snoc}

pub moved : {A : Type 0} (f : List ℕ → A) → ((left : List ℕ) (a b : ℕ) (right : List ℕ) → f (left ++ (a ∷ b ∷ right)) ≡ f (left ++ (b ∷ a ∷ right)))
    → (left middle right : List ℕ) (z : ℕ) → f (left ++ (z ∷ (middle ++ right))) ≡ f (left ++ (middle ++ (z ∷ right)))
moved f h left [] right z = refl
moved f h left (c ∷ middle) right z =
    h left z c (middle ++ right)
    ∙ ap f (sym (append_snoc left c (z ∷ (middle ++ right))))
    ∙ moved f h (left ++ (c ∷ [])) middle right z
    ∙ ap f (append_snoc left c (middle ++ (z ∷ right)))

pub turned_past : (U : List ℕ → ℤ) → Turns U → (left middle right : List ℕ) (z : ℕ)
    → U (left ++ (z ∷ (middle ++ right))) ≡ minus_one_to (length middle) *ℤ U (left ++ (middle ++ (z ∷ right)))
turned_past U t left [] right z = sym (one-product (U (left ++ (z ∷ right))))
turned_past U t left (c ∷ middle) right z =
    t left z c (middle ++ right)
    ∙ ap neg_ℤ (ap U (sym (append_snoc left c (z ∷ (middle ++ right))))
    ∙ turned_past U t (left ++ (c ∷ [])) middle right z
    ∙ ap (λ l. minus_one_to (length middle) *ℤ U l) (append_snoc left c (middle ++ (z ∷ right))))
    ∙ sym (negation-product (minus_one_to (length middle)) (U (left ++ (c ∷ (middle ++ (z ∷ right))))))

pub sign_twice : (k : ℕ) (x : ℤ) → minus_one_to k *ℤ (minus_one_to k *ℤ x) ≡ x
sign_twice k x = elim (parity_of k) [ inl e ↦ ap (λ s. s *ℤ (s *ℤ x)) e.1 ∙ plain x | inr e ↦ ap (λ s. s *ℤ (s *ℤ x)) e.1 ∙ twice x ]
  where
    plain : (x : ℤ) → pos 1 *ℤ (pos 1 *ℤ x) ≡ x
    plain x = omega (arith, ints)

    twice : (x : ℤ) → neg_ℤ (pos 1) *ℤ (neg_ℤ (pos 1) *ℤ x) ≡ x
    twice x = omega (arith, ints)

strict_without : (front : List ℕ) (x : ℕ) (rest : List ℕ) → FallsStrictly (front ++ (x ∷ rest)) → FallsStrictly (front ++ rest)
strict_without [] x rest f = strict_tail x rest f
strict_without (a ∷ []) x [] f = tt
strict_without (a ∷ []) x (c ∷ rest) f = let g = f.0 in let h = f.1.0 in (omega (arith, g, h), f.1.1)
strict_without (a ∷ b ∷ front) x rest f = (f.0, strict_without (b ∷ front) x rest f.1)

stands : (front : List ℕ) (z : ℕ) (rest : List ℕ) (a : ℕ) → z ≡ a → has a (front ++ (z ∷ rest)) ≡ true
stands [] z rest a e = has_here a z rest e
stands (c ∷ front) z rest a e = or_right (c == a) (has a (front ++ (z ∷ rest))) (stands front z rest a e)

first_apart : (z : ℕ) (front rest : List ℕ) → has_equal_entries (front ++ (z ∷ rest)) ≡ false → has z front ≡ false
first_apart z [] rest h = refl
first_apart z (a ∷ front) rest h =
    let p = or_parts (has a (front ++ (z ∷ rest))) (has_equal_entries (front ++ (z ∷ rest))) h in
    by p.0 (cases_eq a z) (first_apart z front rest p.1)
  where
    by : has a (front ++ (z ∷ rest)) ≡ false → (a ≡ z) ⊎ (a ≡ z → ⊥) → has z front ≡ false → has z (a ∷ front) ≡ false
    by g (inl e) r = absurd (both_ways (has a (front ++ (z ∷ rest))) g (stands front z rest a (sym e)))
    by g (inr n) r = has_past z a front n ∙ r

-- ---- adding the exponents of a list in `one_place k n` to a list raises one entry of the list by k

raised_at : (k n : ℕ) (b α : List ℕ) → length b ≡ n → Among α (one_place k n)
    → (front : List ℕ) × (x : ℕ) × (rest : List ℕ) × (b ≡ front ++ (x ∷ rest)) × (join b α ≡ front ++ ((x + k) ∷ rest))
raised_at k zero b α l m = absurd m
raised_at k (suc n) [] α l m = absurd (omega arith)
raised_at k (suc n) (c ∷ b) α l (inl e) = ([], c, b, refl, ap (join (c ∷ b)) e ∙ ap (λ r. (c + k) ∷ r) (join_comm b (replicate n 0) ∙ join_zeros n b (omega arith)))
raised_at k (suc n) (c ∷ b) α l (inr m) =
    let r = Among_from_map (λ (α : List ℕ). 0 ∷ α) α (one_place k n) m in
    let q = raised_at k n b r.0 (omega arith) r.1 in
    (c ∷ q.0, q.1, q.2, ap (λ t. c ∷ t) q.3, ap (join (c ∷ b)) r.2 ∙ ap₂ (λ (u : ℕ) t. u ∷ t) (let e : c + 0 ≡ c = omega arith in e) q.4)

pub place_found : (k : ℕ) (front : List ℕ) (y : ℕ) (back : List ℕ)
    → (α : List ℕ) × Among α (one_place k (length (front ++ (y ∷ back)))) × (join (front ++ (y ∷ back)) α ≡ front ++ ((y + k) ∷ back))
place_found k [] y back = (k ∷ replicate (length back) 0, inl refl, ap (λ r. (y + k) ∷ r) (join_comm back (replicate (length back) 0) ∙ join_zeros (length back) back (omega arith)))
place_found k (c ∷ front) y back =
    let r = place_found k front y back in
    (0 ∷ r.0, inr (Among-map (λ (α : List ℕ). 0 ∷ α) r.0 (one_place k (length (front ++ (y ∷ back)))) r.1), ap₂ (λ (u : ℕ) t. u ∷ t) (let e : c + 0 ≡ c = omega arith in e) r.2)

split : (front : List ℕ) (z x : ℕ) (rest : List ℕ) → x ≤ z → FallsStrictly (front ++ (x ∷ rest)) → has z front ≡ false
    → (left : List ℕ) × (middle : List ℕ) × (front ≡ left ++ middle) × FallsStrictly (left ++ (z ∷ (middle ++ rest)))
split [] z x rest l f h = search rules
split (a ∷ front) z x rest l f h =
    let p = or_parts (a == z) (has z front) h in
    by p.0 (cases_lt a z) (cases_eq a z) (split front z x rest l (strict_tail a (front ++ (x ∷ rest)) f) p.1)
  where
    over : (left middle : List ℕ) → z < a → front ≡ left ++ middle → FallsStrictly (left ++ (z ∷ (middle ++ rest))) → FallsStrictly (a ∷ (left ++ (z ∷ (middle ++ rest))))
    over [] middle o e g = (o, g)
    over (c ∷ left) middle o e g = ((subst (λ t. FallsStrictly (a ∷ (t ++ (x ∷ rest)))) e f).0, g)

    by : (a == z) ≡ false → (a < z) ⊎ (z ≤ a) → (a ≡ z) ⊎ (a ≡ z → ⊥) → (left : List ℕ) × (middle : List ℕ) × (front ≡ left ++ middle) × FallsStrictly (left ++ (z ∷ (middle ++ rest)))
        → (left : List ℕ) × (middle : List ℕ) × (a ∷ front ≡ left ++ middle) × FallsStrictly (left ++ (z ∷ (middle ++ rest)))
    by g d (inl e) r = absurd (both_ways (a == z) g (eq-eqb a z e))
    by g (inl o) (inr n) r = ([], a ∷ front, refl, (o, strict_without (a ∷ front) x rest f))
    by g (inr o) (inr n) r = (a ∷ r.0, r.1, ap (λ t. a ∷ t) r.2, over r.0 r.1 (omega (arith, o, n)) r.2 r.3)

-- b is left ++ middle ++ (entry ∷ rest), and b + α is the same list with entry + k in place of `entry`; moving entry + k in front of `middle` makes
-- it strictly decreasing
pub record Raises (k : ℕ) (b α : List ℕ) : Type 0 where
  pub left : List ℕ
  pub middle : List ℕ
  pub rest : List ℕ
  pub entry : ℕ
  pub from : b ≡ left ++ (middle ++ (entry ∷ rest))
  pub is : join b α ≡ left ++ (middle ++ ((entry + k) ∷ rest))
  pub strict : FallsStrictly (left ++ ((entry + k) ∷ (middle ++ rest)))

pub raises : (k n : ℕ) (b α : List ℕ) → length b ≡ n → FallsStrictly b → Among α (one_place k n) → has_equal_entries (join b α) ≡ false → Raises k b α
raises k n b α l f m h =
    let q = raised_at k n b α l m in
    let s = split q.0 (q.1 + k) q.1 q.2 (omega arith) (subst FallsStrictly q.3 f) (first_apart (q.1 + k) q.0 q.2 (subst (λ t. has_equal_entries t ≡ false) q.4 h)) in
    record {
      left = s.0;
      middle = s.1;
      rest = q.2;
      entry = q.1;
      from = q.3 ∙ cut q.0 s.0 s.1 (q.1 ∷ q.2) s.2;
      is = q.4 ∙ cut q.0 s.0 s.1 ((q.1 + k) ∷ q.2) s.2;
      strict = s.3;
    }
  where
    cut : (front left middle end : List ℕ) → front ≡ left ++ middle → front ++ end ≡ left ++ (middle ++ end)
    cut front left middle end e = ap (λ t. t ++ end) e ∙ append_assoc left middle end

pub length-raised : (k n : ℕ) (b α : List ℕ) → length b ≡ n → Among α (one_place k n) → length (join b α) ≡ n
length-raised k n b α l m = let q = raised_at k n b α l m in ap length q.4 ∙ changed q.0 (q.1 + k) q.1 q.2 ∙ sym (ap length q.3) ∙ l
  where
    changed : (front : List ℕ) (z x : ℕ) (rest : List ℕ) → length (front ++ (z ∷ rest)) ≡ length (front ++ (x ∷ rest))
    changed [] z x rest = refl
    changed (a ∷ front) z x rest = ap suc (changed front z x rest)

pub once_one_place : (k n : ℕ) → 1 ≤ k → Once (one_place k n)
once_one_place k zero h = tt
once_one_place k (suc n) h = (apart, Once-map (λ (α : List ℕ). 0 ∷ α) (one_place k n) (λ x y p q e. ap (drop 1) e) (once_one_place k n h))
  where
    apart : Among (k ∷ replicate n 0) (map (λ (α : List ℕ). 0 ∷ α) (one_place k n)) → ⊥
    apart m =
        let r = Among_from_map (λ (α : List ℕ). 0 ∷ α) (k ∷ replicate n 0) (one_place k n) m in
        let e = ap (λ l. get_or l 0 0) r.2 in
        absurd (omega (arith, e, h))

head_lost : (k c : ℕ) (b β : List ℕ) → 1 ≤ k → FallsStrictly (c ∷ b) → ((x : ℕ) → has x ((c + k) ∷ b) ≡ has x ((c + 0) ∷ β)) → ⊥
head_lost k c b β h f same =
    both_ways (has c ((c + k) ∷ b)) (has_past c (c + k) b (λ e. omega (arith, e, h)) ∙ not_below c c b f (omega arith)) (same c ∙ has_here c (c + 0) β (omega arith))

-- let b be strictly decreasing, and α and β in `one_place k n`. If b + α and b + β have no equal entries and consist of the same numbers, then α = β
pub same_place : (k n : ℕ) (b α β : List ℕ) → 1 ≤ k → length b ≡ n → FallsStrictly b → Among α (one_place k n) → Among β (one_place k n)
    → has_equal_entries (join b α) ≡ false → has_equal_entries (join b β) ≡ false → ((x : ℕ) → has x (join b α) ≡ has x (join b β)) → α ≡ β
same_place k zero b α β h l f m i d e same = absurd m
same_place k (suc n) [] α β h l f m i d e same = absurd (omega arith)
same_place k (suc n) (c ∷ b) α β h l f (inl m) (inl i) d e same = m ∙ sym i
same_place k (suc n) (c ∷ b) α β h l f (inl m) (inr i) d e same =
    let r = Among_from_map (λ (α : List ℕ). 0 ∷ α) β (one_place k n) i in
    let z : join b (replicate n 0) ≡ b = join_comm b (replicate n 0) ∙ join_zeros n b (omega arith) in
    absurd (head_lost k c b (join b r.0) h f (λ x.
    ap (has x) (sym (ap (join (c ∷ b)) m ∙ ap (λ t. (c + k) ∷ t) z)) ∙ same x ∙ ap (λ t. has x (join (c ∷ b) t)) r.2))
same_place k (suc n) (c ∷ b) α β h l f (inr m) (inl i) d e same =
    let r = Among_from_map (λ (α : List ℕ). 0 ∷ α) α (one_place k n) m in
    let z : join b (replicate n 0) ≡ b = join_comm b (replicate n 0) ∙ join_zeros n b (omega arith) in
    absurd (head_lost k c b (join b r.0) h f (λ x.
    ap (has x) (sym (ap (join (c ∷ b)) i ∙ ap (λ t. (c + k) ∷ t) z)) ∙ sym (same x) ∙ ap (λ t. has x (join (c ∷ b) t)) r.2))
same_place k (suc n) (c ∷ b) α β h l f (inr m) (inr i) d e same =
    let r = Among_from_map (λ (α : List ℕ). 0 ∷ α) α (one_place k n) m in
    let s = Among_from_map (λ (α : List ℕ). 0 ∷ α) β (one_place k n) i in
    let p = or_parts (has (c + 0) (join b r.0)) (has_equal_entries (join b r.0)) (subst (λ t. has_equal_entries (join (c ∷ b) t) ≡ false) r.2 d) in
    let q = or_parts (has (c + 0) (join b s.0)) (has_equal_entries (join b s.0)) (subst (λ t. has_equal_entries (join (c ∷ b) t) ≡ false) s.2 e) in
    r.2
    ∙ ap (λ t. 0 ∷ t) (same_place k n b r.0 s.0 h (omega arith) (strict_tail c b f) r.1 s.1 p.1 q.1
    (λ x. under (c + 0) x (join b r.0) (join b s.0) p.0 q.0 (ap (λ t. has x (join (c ∷ b) t)) (sym r.2) ∙ same x ∙ ap (λ t. has x (join (c ∷ b) t)) s.2)))
    ∙ sym s.2
  where
    under : (a x : ℕ) (u v : List ℕ) → has a u ≡ false → has a v ≡ false → has x (a ∷ u) ≡ has x (a ∷ v) → has x u ≡ has x v
    under a x u v p q g = by (cases_eq a x)
      where
        by : (a ≡ x) ⊎ (a ≡ x → ⊥) → has x u ≡ has x v
        by (inl o) = ap (λ j. has j u) (sym o) ∙ p ∙ sym q ∙ ap (λ j. has j v) o
        by (inr o) = sym (has_past x a u o) ∙ g ∙ has_past x a v o
