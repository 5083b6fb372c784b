-- Each removal of a rim hook of n cells lowers an entry of the beta list by n; a list is full (`IsFull`) if no entry can be lowered.
--     removal_lowers      a removal lowers one entry of the beta list and moves it after h - 1 entries, if h is the height of the rim hook
--     lowers_or_full      a strictly decreasing list has an entry that can be lowered, or is full
--     full_none           no entry of a full strictly decreasing list can be lowered
use Rattle.std.proofs.Common.{◌≡◌, ℕ, zero, suc, ◌+◌, ◌-◌, ◌<◌, ◌≤◌, ◌⊎◌, inl, inr, true, false, List, [], ◌∷◌, ◌++◌, map, length, refl, sym, ◌∙◌, ap, ap₂, subst, arith, Bool, ◌||◌, rules}
use Rattle.std.proofs.lemmas.Bool.{cases_lt, cases_eq, cases_Bool}
use Rattle.sym_model.specs.Partition.{IsPartition, rows, part, after}
use Rattle.sym_model.specs.Bases.{has}
use Rattle.sym_model.specs.BetaList.{beta, from_beta, has_equal_entries}
use Rattle.sym_model.specs.Strip.{height}
use Rattle.sym_model.specs.RimHookReduction.{IsRemoval, HasNoRemoval}
use Rattle.sym_model.proofs.AfterLists.{length_after, after-append}
use Rattle.sym_model.proofs.SortedParts.{has_past, not_first}
use Rattle.std.proofs.lemmas.List.{length-map, map-append, get_or_past}
use Rattle.strip_laws.specs.HookRows.{IsHookRows}
use Rattle.strip_laws.proofs.RimHooks.{hook_rows, height_of_rows}
use Rattle.strip_laws.proofs.HookSizes.{hook_size}
use Rattle.beta_list_laws.specs.StrictFall.{FallsStrictly}
use Rattle.beta_list_laws.specs.FullBetaList.{IsFull}
use Rattle.beta_list_laws.proofs.BetaLists.{beta_strict, from_beta-beta, strict_tail, map_after_ext}
use Rattle.beta_list_laws.proofs.BetaRemovals.{before, lowered, shown_removal, above_lowered}
use Rattle.std.proofs.Math.Nat.{zero-add, add_right_comm}

-- `Lowers n b c passed`: the list b has an entry y + n (y is `entry`), and c is b with this entry replaced by y and moved to the right by `passed`
-- places, over the entries of `middle`
pub record Lowers (n : ℕ) (b c : List ℕ) (passed : ℕ) : Type 0 where
  pub front : List ℕ
  pub entry : ℕ
  pub middle : List ℕ
  pub back : List ℕ
  pub from : b ≡ before n entry front middle back
  pub to : c ≡ lowered entry front middle back
  pub passes : passed ≡ length middle

-- ---- the entry of the beta list that a removal lowers

map_after_next : (f g : ℕ → ℕ) (a k : ℕ) → ((i : ℕ) → a < i → i ≤ a + k → f (i + 1) ≡ g i) → map f (after (a + 1) k) ≡ map g (after a k)
map_after_next f g a zero e = refl
map_after_next f g a (suc k) e = ap₂ ◌∷◌ (e (a + 1) (omega arith) (omega arith)) (map_after_next f g (a + 1) k (λ i h l. e i (omega arith) (omega arith)))

split_at : (f : ℕ → ℕ) (k a d c : ℕ) → k ≡ a + suc (d + c) → map f (after 0 k) ≡ map f (after 0 a) ++ (f (a + 1) ∷ (map f (after (a + 1) d) ++ map f (after (a + 1 + d) c)))
split_at f k a d c e = search (rules, after-append, map-append, zero-add)

split_later : (f : ℕ → ℕ) (k a d c : ℕ) → k ≡ a + suc (d + c) → map f (after 0 k) ≡ map f (after 0 a) ++ (map f (after a d) ++ (f (a + d + 1) ∷ map f (after (a + 1 + d) c)))
split_later f k a d c e =
    ap (λ m. map f (after 0 m)) length_is
    ∙ ap (map f) (after-append 0 a (d + suc c))
    ∙ map-append f (after 0 a) (after (0 + a) (d + suc c))
    ∙ ap (λ z. map f (after 0 a) ++ map f (after z (d + suc c))) (zero-add a)
    ∙ ap (λ l. map f (after 0 a) ++ map f l) (after-append a d (suc c))
    ∙ ap (λ l. map f (after 0 a) ++ l) (map-append f (after a d) (after (a + d) (suc c)))
    ∙ ap (λ z. map f (after 0 a) ++ (map f (after a d) ++ (f (a + d + 1) ∷ map f (after z c)))) (add_right_comm a d 1)
  where
    length_is : k ≡ a + (d + suc c)
    length_is = omega (arith, e)

lowered_values : (f g : ℕ → ℕ) (n y k a d c : ℕ) → k ≡ a + suc (d + c) → f (a + 1) ≡ y + n → g (a + d + 1) ≡ y
    → ((i : ℕ) → 0 < i → i ≤ a → f i ≡ g i) → ((i : ℕ) → a < i → i ≤ a + d → f (i + 1) ≡ g i) → ((i : ℕ) → a + 1 + d < i → i ≤ a + 1 + d + c → f i ≡ g i)
    → Lowers n (map f (after 0 k)) (map g (after 0 k)) d
lowered_values f g n y k a d c e top low above between below =
    let fronts = map_after_ext f g 0 a (λ i h l. above i h (omega arith)) in
    let middles = map_after_next f g a d between in
    let backs = map_after_ext f g (a + 1 + d) c below in
    record {
      front = map f (after 0 a);
      entry = y;
      middle = map f (after (a + 1) d);
      back = map f (after (a + 1 + d) c);
      from = split_at f k a d c e ∙ ap (λ x. map f (after 0 a) ++ (x ∷ (map f (after (a + 1) d) ++ map f (after (a + 1 + d) c)))) top;
      to =
          split_later g k a d c e
          ∙ ap (λ x. map g (after 0 a) ++ (map g (after a d) ++ (x ∷ map g (after (a + 1 + d) c)))) low
          ∙ ap (λ l. l ++ (map g (after a d) ++ (y ∷ map g (after (a + 1 + d) c)))) (sym fronts)
          ∙ ap (λ l. map f (after 0 a) ++ (l ++ (y ∷ map g (after (a + 1 + d) c)))) (sym middles)
          ∙ ap (λ l. map f (after 0 a) ++ (map f (after (a + 1) d) ++ (y ∷ l))) (sym backs);
      passes = sym (length-map (after (a + 1) d) f ∙ length_after (a + 1) d);
    }

last_within : (outer inner : List ℕ) (last : ℕ) → 1 ≤ last → part inner last < part outer last → last ≤ length outer
last_within outer inner last c h = elim (cases_lt (length outer) last) [ inl l ↦ absurd (let e = get_or_past outer (last - 1) 0 (omega arith) in omega (arith, e, h)) | inr l ↦ l ]

rows_lower : (k n : ℕ) (shape left : List ℕ) (first last : ℕ) → rows shape ≤ k → IsRemoval n shape left → IsHookRows shape left first last
    → Lowers n (beta k shape) (beta k left) (last - first)
rows_lower k n shape left first last l r h =
    let p = h.counts in
    let q = h.ordered in
    let w = last_within shape left last (omega arith) h.end in
    let s = hook_size shape left first last h in
    let t = r.cells in
    let a = first - 1 in
    let place : a + 1 ≡ first = omega arith in
    let place_last : a + (last - first) + 1 ≡ last = omega arith in
    lowered_values (λ i. part shape i + (k - i)) (λ i. part left i + (k - i)) n (part left last + (k - last)) k a (last - first) (k - last)
    (omega arith)
    (ap (λ i. part shape i + (k - i)) place ∙ omega (arith, s, t))
    (ap (λ i. part left i + (k - i)) place_last)
    (λ i u v. ap (λ m. m + (k - i)) (h.above i u (omega arith)))
    (λ i u v. let e = h.chained i (omega arith) (omega arith) in omega arith)
    (λ i u v. ap (λ m. m + (k - i)) (h.below i (omega arith)))

-- the removal of a rim hook of n cells lowers an entry of the beta list by n and moves it to the right by `passed` places; the height of the rim hook
-- is `passed` + 1
pub removal_lowers : (k n : ℕ) (shape left : List ℕ) → IsPartition shape → rows shape ≤ k → IsRemoval n shape left
    → (passed : ℕ) × Lowers n (beta k shape) (beta k left) passed × (height shape left ≡ passed + 1)
removal_lowers k n shape left p l r =
    let h = hook_rows shape left p.falls r.partition.falls r.hook in
    by h.0 h.1 h.2
  where
    by : (first last : ℕ) → IsHookRows shape left first last → (passed : ℕ) × Lowers n (beta k shape) (beta k left) passed × (height shape left ≡ passed + 1)
    by first last h =
        let e = height_of_rows shape left first last p.falls h in
        let o = h.ordered in
        (last - first, rows_lower k n shape left first last l r h, omega arith)

-- ---- a strictly decreasing list is full (`IsFull`), or one of its entries can be lowered by n

place_for : (y : ℕ) (b : List ℕ) → FallsStrictly b → has y b ≡ false → (middle : List ℕ) × (back : List ℕ) × (b ≡ middle ++ back) × FallsStrictly (middle ++ (y ∷ back))
place_for y [] f h = ([], [], refl, tt)
place_for y (x ∷ b) f h = by (cases_lt y x) (cases_eq x y) (place_for y b (strict_tail x b f))
  where
    front_strict : (m back : List ℕ) → b ≡ m ++ back → y < x → FallsStrictly (m ++ (y ∷ back)) → FallsStrictly (x ∷ (m ++ (y ∷ back)))
    front_strict [] back e l g = (l, g)
    front_strict (z ∷ m) back e l g = (first (subst (λ c. FallsStrictly (x ∷ c)) e f), g)
      where
        first : FallsStrictly (x ∷ (z ∷ (m ++ back))) → z < x
        first k = k.0

    by : (y < x) ⊎ (x ≤ y) → (x ≡ y) ⊎ (x ≡ y → ⊥) → (has y b ≡ false → (middle : List ℕ) × (back : List ℕ) × (b ≡ middle ++ back) × FallsStrictly (middle ++ (y ∷ back)))
        → (middle : List ℕ) × (back : List ℕ) × (x ∷ b ≡ middle ++ back) × FallsStrictly (middle ++ (y ∷ back))
    by a (inl e) later = absurd (not_first y x b h e)
    by (inr l) (inr d) later = ([], x ∷ b, refl, (omega (arith, l, d), f))
    by (inl l) (inr d) later =
        let r = later (sym (has_past y x b d) ∙ h) in
        (x ∷ r.0, r.1, ap (λ c. x ∷ c) r.2, front_strict r.0 r.1 r.2 l r.3)

-- an entry y + n of the list b that can be lowered: if it is replaced by y and moved after the entries of `middle`, the list is still strictly
-- decreasing
pub record CanLower (n : ℕ) (b : List ℕ) : Type 0 where
  pub front : List ℕ
  pub entry : ℕ
  pub middle : List ℕ
  pub back : List ℕ
  pub from : b ≡ before n entry front middle back
  pub strict : FallsStrictly (lowered entry front middle back)

under_first : (n x : ℕ) (b : List ℕ) (l : CanLower n b) → FallsStrictly (x ∷ b) → CanLower n (x ∷ b)
under_first n x b l f = record {
  front = x ∷ l.front;
  entry = l.entry;
  middle = l.middle;
  back = l.back;
  from = ap (λ c. x ∷ c) l.from;
  strict = by l.front l.middle (subst (λ c. FallsStrictly (x ∷ c)) l.from f) l.strict;
}
  where
    by : (front middle : List ℕ) → FallsStrictly (x ∷ before n l.entry front middle l.back) → FallsStrictly (lowered l.entry front middle l.back) → FallsStrictly (x ∷ lowered l.entry front middle l.back)
    by (z ∷ front) middle g h = (g.0, h)
    by [] [] g h = (let a = g.0 in omega (arith, a), h)
    by [] (z ∷ middle) g h = (let a = g.0 in let c = g.1.0 in omega (arith, a, c), h)

pub lowers_or_full : (n : ℕ) (b : List ℕ) → FallsStrictly b → CanLower n b ⊎ IsFull n b
lowers_or_full n [] f = inr tt
lowers_or_full n (x ∷ b) f = by (lowers_or_full n b (strict_tail x b f)) (cases_lt x n) (cases_Bool (has (x - n) b))
  where
    here : n ≤ x → has (x - n) b ≡ false → CanLower n (x ∷ b)
    here l e =
        let r = place_for (x - n) b (strict_tail x b f) e in
        let sum : x ≡ x - n + n = omega arith in
        record {
          front = [];
          entry = x - n;
          middle = r.0;
          back = r.1;
          from = ap₂ ◌∷◌ sum r.2;
          strict = r.3;
        }

    by : CanLower n b ⊎ IsFull n b → (x < n) ⊎ (n ≤ x) → (has (x - n) b ≡ true) ⊎ (has (x - n) b ≡ false) → CanLower n (x ∷ b) ⊎ IsFull n (x ∷ b)
    by (inl l) c d = inl (under_first n x b l f)
    by (inr g) (inl l) d = inr (λ h. absurd (omega (arith, h, l)), g)
    by (inr g) (inr l) (inl e) = inr (λ h. e, g)
    by (inr g) (inr l) (inr e) = inl (here l e)

pub not_below : (y z : ℕ) (b : List ℕ) → FallsStrictly (y ∷ b) → y ≤ z → has z b ≡ false
not_below y z [] f l = refl
not_below y z (x ∷ b) f l = let h = f.0 in has_past z x b (λ e. omega (arith, e, h, l)) ∙ not_below x z b f.1 (omega (arith, h, l))

absent : (y : ℕ) (middle back : List ℕ) → FallsStrictly (middle ++ (y ∷ back)) → has y (middle ++ back) ≡ false
absent y [] back f = not_below y y back f (omega arith)
absent y (x ∷ middle) back f =
    has_past y x (middle ++ back) (λ e. let l = above_lowered y x middle back f in omega (arith, e, l)) ∙ absent y middle back (strict_tail x (middle ++ (y ∷ back)) f)

pub full_none : (n y : ℕ) (front middle back : List ℕ) → IsFull n (before n y front middle back) → FallsStrictly (lowered y front middle back) → ⊥
full_none n y [] middle back g f = search (rules, absent)
full_none n y (x ∷ front) middle back g f = full_none n y front middle back g.1 (strict_tail x (lowered y front middle back) f)

-- if no entry of the beta list can be lowered by n, no rim hook of n cells can be removed from the shape
pub full_stays : (k n : ℕ) (shape : List ℕ) → IsPartition shape → rows shape ≤ k → IsFull n (beta k shape) → HasNoRemoval n shape
full_stays k n shape p l g left r =
    let h = removal_lowers k n shape left p l r in
    let w = h.1 in
    full_none n w.entry w.front w.middle w.back (subst (IsFull n) w.from g) (subst FallsStrictly w.to (beta_strict k left r.partition.falls))

-- lowering an entry of the beta list of a shape by n removes a rim hook of n cells from the shape
pub lowering_removes : (k n : ℕ) (shape : List ℕ) → 1 ≤ n → IsPartition shape → rows shape ≤ k → (l : CanLower n (beta k shape))
    → IsRemoval n shape (from_beta (lowered l.entry l.front l.middle l.back))
lowering_removes k n shape h p r l =
    let e = sym (ap from_beta l.from) ∙ from_beta-beta k shape p r in
    subst (λ s. IsRemoval n s (from_beta (lowered l.entry l.front l.middle l.back))) e
    (shown_removal n l.entry l.front l.middle l.back h (subst FallsStrictly l.from (beta_strict k shape p.falls)) l.strict)

pub stays_full : (k n : ℕ) (shape : List ℕ) → 1 ≤ n → IsPartition shape → rows shape ≤ k → HasNoRemoval n shape → IsFull n (beta k shape)
stays_full k n shape h p r none = elim (lowers_or_full n (beta k shape) (beta_strict k shape p.falls)) [
  | inl l ↦ absurd (none (from_beta (lowered l.entry l.front l.middle l.back)) (lowering_removes k n shape h p r l))
  | inr g ↦ g
]

pub removal_as_lowered : (k n : ℕ) (shape left : List ℕ) → IsPartition shape → rows shape ≤ k → IsRemoval n shape left
    → (y : ℕ) × (front : List ℕ) × (middle : List ℕ) × (back : List ℕ) × (beta k shape ≡ before n y front middle back) × (beta k left ≡ lowered y front middle back) × (height shape left ≡ length middle + 1)
removal_as_lowered k n shape left p l r =
    let h = removal_lowers k n shape left p l r in
    let w = h.1 in
    (w.entry, w.front, w.middle, w.back, w.from, w.to, h.2 ∙ ap (λ m. m + 1) w.passes)

pub strict_distinct : (b : List ℕ) → FallsStrictly b → has_equal_entries b ≡ false
strict_distinct [] f = refl
strict_distinct (a ∷ b) f = ap₂ (λ (s t : Bool). s || t) (not_below a a b f (omega arith)) (strict_distinct b (strict_tail a b f))
