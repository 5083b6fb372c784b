-- Pieri's rules: in the sum of the alternants a_(μ + ρ + α) over lists α of exponents, each term is of one of three kinds. Either μ + α is μ with a
-- strip added, or the term cancels against another term, or it is 0 since two exponents are equal.
use Rattle.std.proofs.Common.{◌≡◌, ◌⊎◌, ℕ, zero, suc, ◌+◌, ◌-◌, ◌<◌, ◌≤◌, Bool, true, false, ◌&&◌, ◌||◌, not, cond, nat_le, List, [], ◌∷◌, ◌++◌, map, length, drop, refl, sym, ◌∙◌, ap, ap₂, subst, inl, inr, arith, ℤ, pos, ◌+ℤ◌, neg_ℤ, filter, rules}
use Rattle.std.proofs.lemmas.Bool.{cases_lt, and_parts, le-leb, leb-true, lt-leb, or_right}
use Rattle.sym_model.specs.Sum.{total, Among}
use Rattle.sym_model.specs.Partition.{Falls, size}
use Rattle.sym_model.specs.Polynomial.{join, pair, negate}
use Rattle.sym_model.specs.Bases.{down_from, exponent_lists, at_most_one, has}
use Rattle.sym_model.specs.Alternant.{alternant, staircase}
use Rattle.sym_model.specs.BetaList.{has_equal_entries}
use Rattle.sym_model.specs.GoodTableau.{is_falling}
use Rattle.sym_model.proofs.Sums.{total_ext, total_among, total_map, total_each, total_select, total_split, total_cancel, Among-select, Among_from_select, Once-select}
use Rattle.sym_model.proofs.Polynomials.{pair_determined, pair_negate}
use Rattle.sym_model.proofs.SortedParts.{has_here}
use Rattle.sym_model.proofs.Monomials.{members_of-exponent_lists}
use Rattle.alternant_laws.proofs.Alternants.{alternant_exchange}
use Rattle.product_laws.proofs.ExponentLists.{among_exponent_lists, once_exponent_lists}
use Rattle.product_laws.proofs.StripShapes.{keeps_below}
use lib.IntN.{+ℤ_idr}

-- the value of U changes its sign if two neighbouring entries of its list are exchanged
abbrev pub Turns : (List ℕ → ℤ) → Type 0
Turns U = (left : List ℕ) (p q : ℕ) (right : List ℕ) → U (left ++ (p ∷ q ∷ right)) ≡ neg_ℤ (U (left ++ (q ∷ p ∷ right)))

pub alternants_turn : (φ : List ℕ → ℤ) → Turns (λ β. pair (alternant β) φ)
alternants_turn φ left p q right =
    pair_determined (alternant (left ++ (p ∷ q ∷ right))) (negate (alternant (left ++ (q ∷ p ∷ right)))) φ (alternant_exchange left [] right p q)
    ∙ pair_negate (alternant (left ++ (q ∷ p ∷ right))) φ

-- ---- the exponents α changed so that the first two entries of μ + ρ + α are exchanged (`changed`); terms cancel in pairs by this exchange

abbrev changed : ℕ → ℕ → List ℕ → List ℕ
changed a b [] = []
changed a b (x ∷ []) = x ∷ []
changed a b (x ∷ y ∷ α) = (b + y - (a + 1)) ∷ (a + 1 + x - b) ∷ α

first_free : (b : ℕ) (m : List ℕ) (y z : ℕ) (α : List ℕ) → keeps_below (b ∷ m) (y ∷ α) ≡ keeps_below (b ∷ m) (z ∷ α)
first_free b [] y z α = refl
first_free b (c ∷ m) y z [] = refl
first_free b (c ∷ m) y z (w ∷ α) = refl

above : (a b y : ℕ) (t : Bool) → t ≡ true → not (nat_le (b + y) a && t) ≡ true → a < b + y
above a b y t e h = search rules

not_above : (a b y : ℕ) (t : Bool) → a < b + y → not (nat_le (b + y) a && t) ≡ true
not_above a b y t h = ap (λ (s : Bool). not (s && t)) (lt-leb (b + y) a h)

-- ---- a sum over the elements that pass a narrow test does not change if only the elements that pass a wider test are considered

narrowed : {A : Type 0} (f : A → ℤ) (wide narrow : A → Bool) (xs : List A) → ((x : A) → Among x xs → narrow x ≡ true → wide x ≡ true) → total f (filter narrow (filter wide xs)) ≡ total f (filter narrow xs)
narrowed {A} f wide narrow xs h = search (rules, total_select, total_among)

record IsOver (a b : ℕ) (m : List ℕ) (n d : ℕ) (α : List ℕ) : Type 0 where
  first : ℕ
  second : ℕ
  rest : List ℕ
  is : α ≡ first ∷ second ∷ rest
  long : length rest ≡ n
  sum : first + (second + size rest) ≡ d
  below : keeps_below (b ∷ m) (second ∷ rest) ≡ true
  over : a < b + second

over_step : (a b : ℕ) (m : List ℕ) (n d : ℕ) (U : List ℕ → ℤ) → b ≤ a → Turns U
    → total (λ (α : List ℕ). U (join ((a + suc n) ∷ (b + n) ∷ join m (staircase n)) α))
    (filter (λ (α : List ℕ). not (keeps_below (a ∷ b ∷ m) α)) (filter (λ (α : List ℕ). keeps_below (b ∷ m) (drop 1 α)) (exponent_lists (suc (suc n)) d))) ≡ pos 0
over_step a b m n d U h turns =
    total_cancel F (changed a b) xs (Once-select (λ (α : List ℕ). not (keeps_below (a ∷ b ∷ m) α)) (filter wide lists) (Once-select wide lists (once_exponent_lists (suc (suc n)) d)))
    (λ α i. into α (over α i)) (λ α i. twice α (over α i)) (λ α i. turned α (over α i))
  where
    lists : List (List ℕ)
    lists = exponent_lists (suc (suc n)) d

    wide : List ℕ → Bool
    wide α = keeps_below (b ∷ m) (drop 1 α)

    xs : List (List ℕ)
    xs = filter (λ (α : List ℕ). not (keeps_below (a ∷ b ∷ m) α)) (filter wide lists)

    F : List ℕ → ℤ
    F α = U (join ((a + suc n) ∷ (b + n) ∷ join m (staircase n)) α)

    shape : (α : List ℕ) → length α ≡ suc (suc n) → size α ≡ d → wide α ≡ true → not (keeps_below (a ∷ b ∷ m) α) ≡ true → IsOver a b m n d α
    shape [] l s w o = absurd (omega arith)
    shape (x ∷ []) l s w o = absurd (omega arith)
    shape (x ∷ y ∷ α) l s w o = record { first = x; second = y; rest = α; is = refl; long = omega arith; sum = s; below = w; over = above a b y (keeps_below (b ∷ m) (y ∷ α)) w o }

    over : (α : List ℕ) → Among α xs → IsOver a b m n d α
    over α i =
        let p = Among_from_select (λ (α : List ℕ). not (keeps_below (a ∷ b ∷ m) α)) α (filter wide lists) i in
        let q = Among_from_select wide α lists p.0 in
        let r = members_of-exponent_lists α (suc (suc n)) d q.0 in
        shape α r.0 r.1 q.1 p.1

    into : (α : List ℕ) → IsOver a b m n d α → Among (changed a b α) xs
    into α o = subst (λ (l : List ℕ). Among (changed a b l) xs) (sym o.is) (found o.first o.second o.rest o.long o.sum o.below o.over)
      where
        found : (x y : ℕ) (α : List ℕ) → length α ≡ n → x + (y + size α) ≡ d → keeps_below (b ∷ m) (y ∷ α) ≡ true → a < b + y → Among (changed a b (x ∷ y ∷ α)) xs
        found x y α l s k o =
            let e : (b + y - (a + 1)) + ((a + 1 + x - b) + size α) ≡ d = omega arith in
            Among-select (λ (α : List ℕ). not (keeps_below (a ∷ b ∷ m) α)) (changed a b (x ∷ y ∷ α)) (filter wide lists)
            (Among-select wide (changed a b (x ∷ y ∷ α)) lists (among_exponent_lists (changed a b (x ∷ y ∷ α)) (suc (suc n)) d (omega arith) e)
            (first_free b m (a + 1 + x - b) y α ∙ k))
            (not_above a b (a + 1 + x - b) (keeps_below (b ∷ m) ((a + 1 + x - b) ∷ α)) (omega arith))

    twice : (α : List ℕ) → IsOver a b m n d α → changed a b (changed a b α) ≡ α
    twice α o = subst (λ (l : List ℕ). changed a b (changed a b l) ≡ l) (sym o.is) (back o.first o.second o.rest o.over)
      where
        back : (x y : ℕ) (α : List ℕ) → a < b + y → changed a b (changed a b (x ∷ y ∷ α)) ≡ x ∷ y ∷ α
        back x y α o =
            let e : b + (a + 1 + x - b) - (a + 1) ≡ x = omega arith in
            let f : a + 1 + (b + y - (a + 1)) - b ≡ y = omega arith in
            ap₂ (λ (u v : ℕ). u ∷ v ∷ α) e f

    turned : (α : List ℕ) → IsOver a b m n d α → F (changed a b α) ≡ neg_ℤ (F α)
    turned α o = subst (λ (l : List ℕ). F (changed a b l) ≡ neg_ℤ (F l)) (sym o.is) (opposite o.first o.second o.rest o.over)
      where
        opposite : (x y : ℕ) (α : List ℕ) → a < b + y → F (changed a b (x ∷ y ∷ α)) ≡ neg_ℤ (F (x ∷ y ∷ α))
        opposite x y α o =
            let e : a + suc n + (b + y - (a + 1)) ≡ b + n + y = omega arith in
            let f : b + n + (a + 1 + x - b) ≡ a + suc n + x = omega arith in
            ap₂ (λ (u v : ℕ). U (u ∷ v ∷ join (join m (staircase n)) α)) e f
            ∙ turns [] (b + n + y) (a + suc n + x) (join (join m (staircase n)) α)

pub strips_remain : (n : ℕ) (m : List ℕ) (U : List ℕ → ℤ) → length m ≡ n → Falls m → Turns U → (d : ℕ)
    → total (λ (α : List ℕ). U (join (join m (staircase n)) α)) (exponent_lists n d)
    ≡ total (λ (α : List ℕ). U (join (join m (staircase n)) α)) (filter (keeps_below m) (exponent_lists n d))
strips_remain n [] U l f t d = sym (total_select (λ (α : List ℕ). U (join (join [] (staircase n)) α)) (keeps_below []) (exponent_lists n d))
strips_remain n (a ∷ []) U l f t d = sym (total_select (λ (α : List ℕ). U (join (join (a ∷ []) (staircase n)) α)) (keeps_below (a ∷ [])) (exponent_lists n d))
strips_remain zero (a ∷ b ∷ m) U l f t d = absurd (omega arith)
strips_remain (suc zero) (a ∷ b ∷ m) U l f t d = absurd (omega arith)
strips_remain (suc (suc n)) (a ∷ b ∷ m) U l f t d =
    first (λ c. strips_remain (suc n) (b ∷ m) (λ β. U ((a + suc n + c) ∷ β)) (omega arith) f.1 (λ left. t ((a + suc n + c) ∷ left)) (d - c))
    ∙ total_split F narrow (filter wide lists)
    ∙ ap₂ ◌+ℤ◌ (narrowed F wide narrow lists (λ α i. implied α)) (over_step a b m n d U f.0 t)
    ∙ +ℤ_idr (total F (filter narrow lists))
  where
    lists : List (List ℕ)
    lists = exponent_lists (suc (suc n)) d

    F : List ℕ → ℤ
    F α = U (join (join (a ∷ b ∷ m) (staircase (suc (suc n)))) α)

    wide : List ℕ → Bool
    wide α = keeps_below (b ∷ m) (drop 1 α)

    narrow : List ℕ → Bool
    narrow α = keeps_below (a ∷ b ∷ m) α

    none_kept : (m : List ℕ) → keeps_below (b ∷ m) [] ≡ true
    none_kept [] = refl
    none_kept (c ∷ m) = refl

    implied : (α : List ℕ) → narrow α ≡ true → wide α ≡ true
    implied [] e = none_kept m
    implied (x ∷ []) e = none_kept m
    implied (x ∷ y ∷ α) e = (and_parts (nat_le (b + y) a) (keeps_below (b ∷ m) (y ∷ α)) e).1

    rows_of : ℕ → List (List ℕ)
    rows_of c = map (λ (α : List ℕ). c ∷ α) (exponent_lists (suc n) (d - c))

    kept : List ℕ → ℤ
    kept α = cond (wide α) (F α) (pos 0)

    first : ((c : ℕ) → total (λ (α : List ℕ). F (c ∷ α)) (exponent_lists (suc n) (d - c)) ≡ total (λ (α : List ℕ). F (c ∷ α)) (filter (keeps_below (b ∷ m)) (exponent_lists (suc n) (d - c))))
        → total F lists ≡ total F (filter wide lists)
    first r =
        total_each F rows_of (down_from d)
        ∙ total_ext (λ (c : ℕ). total F (rows_of c)) (λ (c : ℕ). total kept (rows_of c)) (λ c.
        total_map F (λ (α : List ℕ). c ∷ α) (exponent_lists (suc n) (d - c))
        ∙ r c
        ∙ total_select (λ (α : List ℕ). F (c ∷ α)) (keeps_below (b ∷ m)) (exponent_lists (suc n) (d - c))
        ∙ sym (total_map kept (λ (α : List ℕ). c ∷ α) (exponent_lists (suc n) (d - c)))) (down_from d)
        ∙ sym (total_each kept rows_of (down_from d))
        ∙ sym (total_select F wide lists)

pub equal_found : (n : ℕ) (m α : List ℕ) → length m ≡ n → length α ≡ n → Falls m → at_most_one α ≡ true → is_falling (join m α) ≡ false
    → has_equal_entries (join (join m (staircase n)) α) ≡ true
equal_found n [] [] l k f o e = absurd (cc)
equal_found n [] (x ∷ α) l k f o e = absurd (omega arith)
equal_found n (a ∷ m) [] l k f o e = absurd (omega arith)
equal_found n (a ∷ []) (x ∷ []) l k f o e = absurd (cc)
equal_found n (a ∷ []) (x ∷ y ∷ α) l k f o e = absurd (omega arith)
equal_found n (a ∷ b ∷ m) (x ∷ []) l k f o e = absurd (omega arith)
equal_found zero (a ∷ b ∷ m) (x ∷ y ∷ α) l k f o e = absurd (omega arith)
equal_found (suc zero) (a ∷ b ∷ m) (x ∷ y ∷ α) l k f o e = absurd (omega arith)
equal_found (suc (suc n)) (a ∷ b ∷ m) (x ∷ y ∷ α) l k f o e =
    let p = and_parts (nat_le x 1) (nat_le y 1 && at_most_one α) o in
    let q = and_parts (nat_le y 1) (at_most_one α) p.1 in
    by (leb-true y 1 q.0) (cases_lt (a + x) (b + y)) (λ g. equal_found (suc n) (b ∷ m) (y ∷ α) (omega arith) (omega arith) f.1 p.1 g)
  where
    rest : List ℕ
    rest = join (join m (staircase n)) α

    falls_on : (s t : Bool) → s ≡ true → (s && t) ≡ false → t ≡ false
    falls_on true t u e = e
    falls_on false t u e = absurd (cc)

    by : y ≤ 1 → (a + x < b + y) ⊎ (b + y ≤ a + x) → (is_falling (join (b ∷ m) (y ∷ α)) ≡ false → has_equal_entries ((b + n + y) ∷ rest) ≡ true) → has_equal_entries ((a + suc n + x) ∷ (b + n + y) ∷ rest) ≡ true
    by c (inl h) r =
        let g = f.0 in
        ap (λ (t : Bool). t || has_equal_entries ((b + n + y) ∷ rest)) (has_here (a + suc n + x) (b + n + y) rest (omega arith))
    by c (inr h) r =
        or_right (has (a + suc n + x) ((b + n + y) ∷ rest)) (has_equal_entries ((b + n + y) ∷ rest))
        (r (falls_on (nat_le (b + y) (a + x)) (is_falling (join (b ∷ m) (y ∷ α))) (le-leb (b + y) (a + x) h) e))
