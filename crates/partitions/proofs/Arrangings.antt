-- An arrangement of a list has the same numbers in any order; arrangements are listed in decreasing lexicographic order. Here: the first arrangement
-- of a list, and the arrangement that follows a given one.
use Rattle.std.proofs.Common.{◌≡◌, ◌⊎◌, ℕ, zero, suc, ◌+◌, ◌-◌, ◌<◌, ◌≤◌, cond, eqb, List, [], ◌∷◌, ◌++◌, map, length, replicate, refl, sym, ap, ap₂, subst, ◌∙◌, inl, inr, arith, reverse, take, drop, get_or, length-append, length-drop, length-take, append_assoc, filter, flat_map}
use Rattle.std.proofs.Math.Nat.{eq-or-lt_of_le}
use Rattle.std.proofs.lemmas.List.{length-reverse, length-replicate, reverse-append, take-append-drop, get_or-take, get_or-append-add, take_more}
use Rattle.std.proofs.lemmas.Bool.{cases_eq, eq-eqb, ne_eqb}
use Rattle.std.proofs.Math.ListN.{set}
use Rattle.std.proofs.Math.Seq.{drop-cons, get_or-append_seam, set-append_seam}
use Rattle.std.proofs.lemmas.List.Edits.{swap_is}
use Rattle.std.specs.List.{swap}
use Rattle.sym_model.specs.Polynomial.{same}
use Rattle.sym_model.specs.Partition.{Falls, IsPartition, ArePositive, size, insert_part, sorted_parts}
use Rattle.sym_model.specs.Bases.{down_from, exponent_lists}
use Rattle.sym_model.specs.Schur.{times_in}
use Rattle.sym_model.specs.Arrangement.{arrangements}
use Rattle.sym_model.proofs.Exponents.{same_apart, same_from, same_or_not}
use Rattle.sym_model.proofs.Monomials.{members_of-exponent_lists}
use Rattle.sym_model.proofs.SortedParts.{IsPartition-sorted_parts, times_in-insert_part, times_in-sorted_parts, rows-sorted_parts, size-sorted_parts, partition_from_counts, sorted_parts-partition, sorted_parts-padded, Falls_tail, insert_part-injective, length-insert_part}
use Rattle.sym_model.proofs.Contents.{times_in-append}
use Rattle.sym_model.proofs.Parts.{size-append, Falls-zeros, size-zeros}
use Rattle.sym_model.proofs.Lists.{select-each, select-map, select-none, select-ext, each-ext}
use Rattle.partitions.specs.Arranging.{beginning_with, beginning_below, arrangements_after, Rises}
use Rattle.sym_model.specs.Bounded.{AreAtLeast}

each-skip :
    (f : ℕ → List (List ℕ)) (a b : ℕ) → b ≤ a → ((c : ℕ) → b < c → c ≤ a → f c ≡ [])
    → flat_map f (down_from a) ≡ flat_map f (down_from b)
each-skip f zero b h none = let e : 0 ≡ b = omega arith in ap (λ n. flat_map f (down_from n)) e
each-skip f (suc a) b h none =
    by (eq-or-lt_of_le {n = b} {m = suc a} h) (λ l. each-skip f a b l (λ c p q. none c p (omega arith)))
  where
    by : (b ≡ suc a) ⊎ (b < suc a) → (b ≤ a → flat_map f (down_from a) ≡ flat_map f (down_from b)) → flat_map f (down_from (suc a)) ≡ flat_map f (down_from b)
    by (inl e) rest = ap (λ n. flat_map f (down_from n)) (sym e)
    by (inr l) rest = ap (λ xs. xs ++ flat_map f (down_from a)) (none (suc a) l (omega arith)) ∙ rest (omega arith)

each-none : (f : ℕ → List (List ℕ)) (a : ℕ) → ((c : ℕ) → c ≤ a → f c ≡ []) → flat_map f (down_from a) ≡ []
each-none f zero none = ap (λ xs. xs ++ []) (none 0 (omega arith))
each-none f (suc a) none =
    ap₂ (λ xs ys. xs ++ ys) (none (suc a) (omega arith)) (each-none f a (λ c h. none c (omega arith)))

-- inserting b into two lists σ and τ gives equal lists if and only if σ and τ are equal
pub same-insert_part : (b : ℕ) (σ τ : List ℕ) → same (insert_part b σ) (insert_part b τ) ≡ same σ τ
same-insert_part b σ τ = by (same_or_not σ τ)
  where
    by : (σ ≡ τ) ⊎ (σ ≡ τ → ⊥) → same (insert_part b σ) (insert_part b τ) ≡ same σ τ
    by (inl e) = same_from (insert_part b σ) (insert_part b τ) (ap (insert_part b) e) ∙ sym (same_from σ τ e)
    by (inr n) =
        same_apart (insert_part b σ) (insert_part b τ) (λ e. n (insert_part-injective b σ τ e)) ∙ sym (same_apart σ τ n)

-- if each positive number has the same multiplicity in α and β, both sort to the same partition
pub sorted-from_counts : (α β : List ℕ) → ((k : ℕ) → 0 < k → times_in k α ≡ times_in k β) → sorted_parts α ≡ sorted_parts β
sorted-from_counts α β h =
    partition_from_counts (sorted_parts α) (sorted_parts β) (IsPartition-sorted_parts α) (IsPartition-sorted_parts β)
    (λ k p. times_in-sorted_parts k α p ∙ h k p ∙ sym (times_in-sorted_parts k β p))

absent : (c : ℕ) (α : List ℕ) (n d : ℕ) → 0 < c → times_in c α ≡ 0 → beginning_with c (sorted_parts α) n d ≡ []
absent c α n d p none =
    ap (map (λ β. c ∷ β))
    (select-none (λ β. same (insert_part c (sorted_parts β)) (sorted_parts α)) (exponent_lists n (d - c))
    (λ β m. same_apart (insert_part c (sorted_parts β)) (sorted_parts α)
    (λ e.
    let one : times_in c (insert_part c (sorted_parts β)) ≡ 1 + times_in c (sorted_parts β) =
    times_in-insert_part c c (sorted_parts β) p ∙ ap (λ b. cond b 1 0 + times_in c (sorted_parts β)) (eq-eqb c c refl) in
    omega (arith, ap (times_in c) e, times_in-sorted_parts c α p))))

ArePositive-rows : (α : List ℕ) → ArePositive α → length (sorted_parts α) ≡ length α
ArePositive-rows [] p = refl
ArePositive-rows (a ∷ α) p = one_more a (sorted_parts α) p.0 ∙ ap suc (ArePositive-rows α p.1)
  where
    one_more : (a : ℕ) (parts : List ℕ) → 0 < a → length (insert_part a parts) ≡ suc (length parts)
    one_more zero parts h = absurd (omega arith)
    one_more (suc a) parts h = length-insert_part a parts

no_zero : (α : List ℕ) (n d : ℕ) → ArePositive α → n < length α → beginning_with 0 (sorted_parts α) n d ≡ []
no_zero α n d p h =
    ap (map (λ β. 0 ∷ β))
    (select-none (λ β. same (sorted_parts β) (sorted_parts α)) (exponent_lists n (d - 0))
    (λ β m. same_apart (sorted_parts β) (sorted_parts α)
    (λ e.
    let rows = rows-sorted_parts β in
    let places = (members_of-exponent_lists β n (d - 0) m).0 in
    omega (arith, ap length e, ArePositive-rows α p))))

-- ---- the first arrangement of the numbers of a list

-- the lists of n numbers with the sum d that sort to `parts`
abbrev pub sorting_to : List ℕ → ℕ → ℕ → List (List ℕ)
sorting_to parts n d = filter (λ α. same (sorted_parts α) parts) (exponent_lists n d)

sorting_to-each :
    (parts : List ℕ) (n d : ℕ) → sorting_to parts (suc n) d ≡ flat_map (λ b. beginning_with b parts n d) (down_from d)
sorting_to-each parts n d =
    let test = λ (α : List ℕ). same (sorted_parts α) parts in
    select-each test (λ a. map (λ α. a ∷ α) (exponent_lists n (d - a))) (down_from d)
    ∙ each-ext (λ a. filter test (map (λ α. a ∷ α) (exponent_lists n (d - a)))) (λ b. beginning_with b parts n d) (down_from d)
    (λ a. select-map test (λ α. a ∷ α) (exponent_lists n (d - a)))

beginning_with-head :
    (b : ℕ) (g : List ℕ) → sorting_to (sorted_parts g) (length g) (size g) ≡ g ∷ arrangements_after g
    → beginning_with b (sorted_parts (b ∷ g)) (length g) (b + size g) ≡ (b ∷ g) ∷ map (λ α. b ∷ α) (arrangements_after g)
beginning_with-head b g first =
    let left : b + size g - b ≡ size g = omega arith in
    ap (map (λ α. b ∷ α))
    (select-ext (λ α. same (insert_part b (sorted_parts α)) (insert_part b (sorted_parts g)))
    (λ α. same (sorted_parts α) (sorted_parts g)) (exponent_lists (length g) (b + size g - b))
    (λ α. same-insert_part b (sorted_parts α) (sorted_parts g))
    ∙ ap (sorting_to (sorted_parts g) (length g)) left ∙ first)

head :
    (b : ℕ) (g : List ℕ) → sorting_to (sorted_parts g) (length g) (size g) ≡ g ∷ arrangements_after g
    → flat_map (λ c. beginning_with c (sorted_parts (b ∷ g)) (length g) (b + size g)) (down_from b)
    ≡ (b ∷ g) ∷ arrangements_after (b ∷ g)
unfolding arrangements_after
head zero g first = ap (λ xs. xs ++ []) (beginning_with-head zero g first)
head (suc b) g first =
    ap (λ xs. xs ++ beginning_below (suc b) (sorted_parts (suc b ∷ g)) (length g) (suc b + size g)) (beginning_with-head (suc b) g first)

greater_absent : (c b : ℕ) (g : List ℕ) → Falls (b ∷ g) → b < c → times_in c (b ∷ g) ≡ 0
greater_absent c b [] f h = ap (λ t. cond t 1 0 + 0) (ne_eqb b c (omega arith))
greater_absent c b (d ∷ g) f h =
    ap (λ t. cond t 1 0 + times_in c (d ∷ g)) (ne_eqb b c (omega arith))
    ∙ omega (arith, greater_absent c d g f.1 (omega (arith, f.0)))

-- a weakly decreasing list is the first of its arrangements
pub first_arrangement :
    (g : List ℕ) → Falls g → sorting_to (sorted_parts g) (length g) (size g) ≡ g ∷ arrangements_after g
unfolding arrangements_after
first_arrangement [] f = refl
first_arrangement (b ∷ g) f =
    let parts = sorted_parts (b ∷ g) in
    sorting_to-each parts (length g) (b + size g)
    ∙ each-skip (λ c. beginning_with c parts (length g) (b + size g)) (b + size g) b (omega arith)
    (λ c h l. absent c (b ∷ g) (length g) (b + size g) (omega arith) (greater_absent c b g f h))
    ∙ head b g (first_arrangement g (Falls_tail b g f))

-- ---- the arrangement that follows a given one

Rises_tail : (a : ℕ) (s : List ℕ) → Rises (a ∷ s) → Rises s
Rises_tail a [] r = tt
Rises_tail a (b ∷ s) r = r.1

smaller_absent : (c a : ℕ) (s : List ℕ) → Rises (a ∷ s) → c < a → times_in c (a ∷ s) ≡ 0
smaller_absent c a [] r h = ap (λ t. cond t 1 0 + 0) (ne_eqb a c (omega arith))
smaller_absent c a (b ∷ s) r h =
    ap (λ t. cond t 1 0 + times_in c (b ∷ s)) (ne_eqb a c (omega arith))
    ∙ omega (arith, smaller_absent c b s r.1 (omega (arith, r.0)))

ArePositive-rising : (a : ℕ) (s : List ℕ) → Rises (a ∷ s) → 0 < a → ArePositive (a ∷ s)
ArePositive-rising a [] r h = (h, tt)
ArePositive-rising a (b ∷ s) r h = (h, ArePositive-rising b s r.1 (omega (arith, r.0)))

-- there is no arrangement after a weakly increasing list
pub arrangements_after-rising : (s : List ℕ) → Rises s → arrangements_after s ≡ []
unfolding arrangements_after
arrangements_after-rising [] r = refl
arrangements_after-rising (a ∷ s) r =
    ap₂ (λ xs ys. map (λ α. a ∷ α) xs ++ ys) (arrangements_after-rising s (Rises_tail a s r)) (below a r)
  where
    below : (b : ℕ) → Rises (b ∷ s) → beginning_below b (sorted_parts (b ∷ s)) (length s) (b + size s) ≡ []
    below zero r = refl
    below (suc b) r =
        let zero_too : beginning_with 0 (sorted_parts (suc b ∷ s)) (length s) (suc b + size s) ≡ [] =
        no_zero (suc b ∷ s) (length s) (suc b + size s) (ArePositive-rising (suc b) s r (omega arith)) (omega arith) in
        each-none (λ c. beginning_with c (sorted_parts (suc b ∷ s)) (length s) (suc b + size s)) b
        (λ c h. each_number c h zero_too)
      where
        each_number : (c : ℕ) → c ≤ b → beginning_with 0 (sorted_parts (suc b ∷ s)) (length s) (suc b + size s) ≡ []
            → beginning_with c (sorted_parts (suc b ∷ s)) (length s) (suc b + size s) ≡ []
        each_number zero h z = z
        each_number (suc c) h z =
            absent (suc c) (suc b ∷ s) (length s) (suc b + size s) (omega arith) (smaller_absent (suc c) (suc b) s r (omega arith))

-- let s be weakly increasing, let b be the greatest number of s that is less than a, and let g have the other numbers of a ∷ s in weakly decreasing
-- order. Then the arrangement that follows a ∷ s is b ∷ g.
pub arrangements_after-step :
    (a b : ℕ) (s g : List ℕ) → Rises s → Falls g → b < a → length s ≡ length g
    → ((k : ℕ) → times_in k (a ∷ s) ≡ times_in k (b ∷ g)) → ((c : ℕ) → b < c → c < a → times_in c (a ∷ s) ≡ 0)
    → arrangements_after (a ∷ s) ≡ (b ∷ g) ∷ arrangements_after (b ∷ g)
unfolding arrangements_after
arrangements_after-step zero b s g r f h l counts between = absurd (omega arith)
arrangements_after-step (suc a) b s g r f h l counts between =
    let parts : sorted_parts (suc a ∷ s) ≡ sorted_parts (b ∷ g) = sorted-from_counts (suc a ∷ s) (b ∷ g) (λ k p. counts k) in
    let sum : suc a + size s ≡ b + size g =
    sym (size-sorted_parts (suc a ∷ s)) ∙ ap size parts ∙ size-sorted_parts (b ∷ g) in
    ap (λ xs. map (λ α. suc a ∷ α) xs ++ beginning_below (suc a) (sorted_parts (suc a ∷ s)) (length s) (suc a + size s))
    (arrangements_after-rising s r)
    ∙ each-skip (λ c. beginning_with c (sorted_parts (suc a ∷ s)) (length s) (suc a + size s)) a b (omega arith)
    (λ c p q. absent c (suc a ∷ s) (length s) (suc a + size s) (omega arith) (between c p (omega arith)))
    ∙ ap (λ xs. flat_map (λ c. beginning_with c xs (length s) (suc a + size s)) (down_from b)) parts
    ∙ ap₂ (λ n d. flat_map (λ c. beginning_with c (sorted_parts (b ∷ g)) n d) (down_from b)) l sum
    ∙ head b g (first_arrangement g f)

-- if the arrangement `next` follows `now`, and both have the same numbers, the arrangement `front ++ next` follows `front ++ now`
pub arrangements_after-append :
    (front now next : List ℕ) → arrangements_after now ≡ next ∷ arrangements_after next
    → sorted_parts now ≡ sorted_parts next → length now ≡ length next
    → arrangements_after (front ++ now) ≡ (front ++ next) ∷ arrangements_after (front ++ next)
unfolding arrangements_after
arrangements_after-append [] now next h p l = h
arrangements_after-append (a ∷ front) now next h p l =
    let parts : sorted_parts (front ++ now) ≡ sorted_parts (front ++ next) = sorted-append front now next p in
    let places : length (front ++ now) ≡ length (front ++ next) =
    omega (arith, length-append front now, length-append front next) in
    let sum : size (front ++ now) ≡ size (front ++ next) =
    sym (size-sorted_parts (front ++ now)) ∙ ap size parts ∙ size-sorted_parts (front ++ next) in
    ap₂ (λ xs ps. map (λ α. a ∷ α) xs ++ beginning_below a (insert_part a ps) (length (front ++ now)) (a + size (front ++ now)))
    (arrangements_after-append front now next h p l) parts
    ∙ ap₂ (λ n d. (a ∷ (front ++ next)) ∷ (map (λ α. a ∷ α) (arrangements_after (front ++ next))
    ++ beginning_below a (sorted_parts (a ∷ (front ++ next))) n (a + d))) places sum
  where
    sorted-append : (front now next : List ℕ) → sorted_parts now ≡ sorted_parts next → sorted_parts (front ++ now) ≡ sorted_parts (front ++ next)
    sorted-append [] now next p = p
    sorted-append (b ∷ front) now next p = ap (insert_part b) (sorted-append front now next p)

-- ---- exchanging a number with the first smaller one of a weakly decreasing list

reverse-cons : (a : ℕ) (s : List ℕ) → reverse (a ∷ s) ≡ reverse s ++ a ∷ []
reverse-cons a s = reverse-append (a ∷ []) s

times_in-reverse : (k : ℕ) (v : List ℕ) → times_in k (reverse v) ≡ times_in k v
times_in-reverse k [] = refl
times_in-reverse k (a ∷ v) =
    omega (arith, ap (times_in k) (reverse-cons a v), times_in-append k (reverse v) (a ∷ []), times_in-reverse k v)

times_in-exchange :
    (k a b : ℕ) (front back : List ℕ)
    → times_in k (a ∷ (front ++ b ∷ back)) ≡ times_in k (b ∷ (front ++ a ∷ back))
times_in-exchange k a b front back =
    omega (arith, times_in-append k front (b ∷ back), times_in-append k front (a ∷ back))

Falls-exchange :
    (a b : ℕ) (front back : List ℕ) → Falls (front ++ b ∷ back) → AreAtLeast a front → b < a → Falls (front ++ a ∷ back)
Falls-exchange a b [] [] f m h = tt
Falls-exchange a b [] (c ∷ back) f m h = (omega (arith, f.0), f.1)
Falls-exchange a b (x ∷ []) back f m h = (m.0, Falls-exchange a b [] back f.1 tt h)
Falls-exchange a b (x ∷ y ∷ front) back f m h = (f.0, Falls-exchange a b (y ∷ front) back f.1 m.1 h)

absent_between :
    (c a b : ℕ) (front back : List ℕ) → Falls (front ++ b ∷ back) → AreAtLeast a front → b < c → c < a
    → times_in c (front ++ b ∷ back) ≡ 0
absent_between c a b [] back f m h l = greater_absent c b back f h
absent_between c a b (x ∷ front) back f m h l =
    ap (λ t. cond t 1 0 + times_in c (front ++ b ∷ back)) (ne_eqb x c (omega (arith, m.0)))
    ∙ omega (arith, absent_between c a b front back (Falls_tail x (front ++ b ∷ back) f) m.1 h l)

Falls-push : (ys : List ℕ) (x : ℕ) → Falls ys → AreAtLeast x ys → Falls (ys ++ x ∷ [])
Falls-push [] x f m = tt
Falls-push (a ∷ []) x f m = (m.0, tt)
Falls-push (a ∷ b ∷ ys) x f m = (f.0, Falls-push (b ∷ ys) x f.1 m.1)

AtLeast-push : (a : ℕ) (ys : List ℕ) (x : ℕ) → AreAtLeast a ys → a ≤ x → AreAtLeast a (ys ++ x ∷ [])
AtLeast-push a [] x m h = (h, tt)
AtLeast-push a (b ∷ ys) x m h = (m.0, AtLeast-push a ys x m.1 h)

AtLeast-reverse : (a : ℕ) (s : List ℕ) → AreAtLeast a s → AreAtLeast a (reverse s)
AtLeast-reverse a [] m = tt
AtLeast-reverse a (x ∷ s) m = subst (AreAtLeast a) (sym (reverse-cons x s)) (AtLeast-push a (reverse s) x (AtLeast-reverse a s m.1) m.0)

AtLeast-rising : (a c : ℕ) (s : List ℕ) → c ≤ a → Rises (a ∷ s) → AreAtLeast c s
AtLeast-rising a c [] h r = tt
AtLeast-rising a c (b ∷ s) h r = (omega (arith, r.0), AtLeast-rising b c s (omega (arith, r.0)) r.1)

pub Falls-reverse : (s : List ℕ) → Rises s → Falls (reverse s)
Falls-reverse [] r = tt
Falls-reverse (a ∷ s) r =
    subst Falls (sym (reverse-cons a s))
    (Falls-push (reverse s) a (Falls-reverse s (Rises_tail a s r)) (AtLeast-reverse a s (AtLeast-rising a a s (omega arith) r)))

-- let s be weakly increasing, and let b be the first number less than a in the reversed list s. Then the arrangement that follows before ++ a ∷ s is
-- obtained by reversing s and then exchanging a with this b.
pub next_arrangement :
    (before s front back : List ℕ) (a b : ℕ) → Rises s → reverse s ≡ front ++ b ∷ back → AreAtLeast a front → b < a
    → arrangements_after (before ++ a ∷ s)
    ≡ (before ++ b ∷ (front ++ a ∷ back)) ∷ arrangements_after (before ++ b ∷ (front ++ a ∷ back))
next_arrangement before s front back a b r e m h =
    let falls : Falls (front ++ b ∷ back) = subst Falls e (Falls-reverse s r) in
    let same : (k : ℕ) → times_in k s ≡ times_in k (front ++ b ∷ back) =
    λ k. sym (times_in-reverse k s) ∙ ap (times_in k) e in
    let counts : (k : ℕ) → times_in k (a ∷ s) ≡ times_in k (b ∷ (front ++ a ∷ back)) =
    λ k. ap (λ n. cond (eqb a k) 1 0 + n) (same k) ∙ times_in-exchange k a b front back in
    let places : length s ≡ length (front ++ a ∷ back) =
    sym (length-reverse s) ∙ ap length e ∙ length-append front (b ∷ back) ∙ sym (length-append front (a ∷ back)) in
    let step =
    arrangements_after-step a b s (front ++ a ∷ back) r (Falls-exchange a b front back falls m h) h places counts
    (λ c p q.
    let none : times_in c (front ++ b ∷ back) ≡ 0 = absent_between c a b front back falls m p q in
    ap (λ t. cond t 1 0 + times_in c s) (ne_eqb a c (omega arith)) ∙ omega (arith, same c)) in
    arrangements_after-append before (a ∷ s) (b ∷ (front ++ a ∷ back)) step
    (sorted-from_counts (a ∷ s) (b ∷ (front ++ a ∷ back)) (λ k p. counts k)) (ap suc places)

-- ---- the next arrangement, stated by the indices of the two numbers that are exchanged

Rises-short : (xs : List ℕ) → length xs ≤ 1 → Rises xs
Rises-short [] h = tt
Rises-short (a ∷ []) h = tt
Rises-short (a ∷ b ∷ xs) h = absurd (omega arith)

pub Rises-last : (xs : List ℕ) → Rises (drop (length xs - 1) xs)
Rises-last xs = Rises-short (drop (length xs - 1) xs) (omega (arith, length-drop (length xs - 1) xs))

pub Rises-more :
    (xs : List ℕ) (at : ℕ) → 0 < at → at < length xs → get_or xs (at - 1) 0 ≤ get_or xs at 0 → Rises (drop at xs)
    → Rises (drop (at - 1) xs)
Rises-more xs at p h le r =
    let next : suc (at - 1) ≡ at = omega arith in
    let here = drop-cons xs at 0 h in
    let back : drop (at - 1) xs ≡ get_or xs (at - 1) 0 ∷ drop at xs =
    drop-cons xs (at - 1) 0 (omega arith) ∙ ap (λ n. get_or xs (at - 1) 0 ∷ drop n xs) next in
    let both : drop (at - 1) xs ≡ get_or xs (at - 1) 0 ∷ get_or xs at 0 ∷ drop (suc at) xs =
    back ∙ ap (λ l. get_or xs (at - 1) 0 ∷ l) here in
    subst Rises (sym both) (le, subst Rises here r)

pub not_last :
    (xs : List ℕ) (at bound : ℕ) → at < length xs → get_or xs (length xs - 1) 0 < bound → bound ≤ get_or xs at 0
    → at + 1 < length xs
not_last xs at bound h last here = by (cases_eq at (length xs - 1))
  where
    by : (at ≡ length xs - 1) ⊎ (at ≡ length xs - 1 → ⊥) → at + 1 < length xs
    by (inl e) = absurd (omega (arith, ap (λ i. get_or xs i 0) e))
    by (inr n) = omega (arith, n)

AtLeast-from : (a : ℕ) (xs : List ℕ) → ((k : ℕ) → k < length xs → a ≤ get_or xs k 0) → AreAtLeast a xs
AtLeast-from a [] h = tt
AtLeast-from a (x ∷ xs) h = (h 0 (omega arith), AtLeast-from a xs (λ k l. h (suc k) (omega arith)))

swap_parts :
    (before front back : List ℕ) (a b i j : ℕ) → i ≡ length before → j ≡ length before + suc (length front)
    → swap (before ++ a ∷ (front ++ b ∷ back)) i j ≡ before ++ b ∷ (front ++ a ∷ back)
swap_parts before front back a b i j e f =
    let xs = before ++ a ∷ (front ++ b ∷ back) in
    let tail = front ++ b ∷ back in
    let long : length (before ++ a ∷ (front ++ b ∷ back)) ≡ length before + suc (length front + suc (length back)) =
    length-append before (a ∷ tail) ∙ ap (λ n. length before + suc n) (length-append front (b ∷ back)) in
    let at_i : get_or (before ++ a ∷ (front ++ b ∷ back)) i 0 ≡ a =
    ap (λ n. get_or xs n 0) e ∙ get_or-append_seam before a tail 0 in
    let at_j : get_or (before ++ a ∷ (front ++ b ∷ back)) j 0 ≡ b =
    ap (λ n. get_or xs n 0) f ∙ get_or-append-add before (a ∷ tail) (suc (length front)) 0 ∙ get_or-append_seam front b back 0 in
    let place : j ≡ length (before ++ b ∷ front) = f ∙ sym (length-append before (b ∷ front)) in
    let first : set (before ++ a ∷ (front ++ b ∷ back)) i b ≡ (before ++ b ∷ front) ++ b ∷ back =
    ap (λ n. set xs n b) e ∙ set-append_seam before a tail b ∙ sym (append_assoc before (b ∷ front) (b ∷ back)) in
    sym (swap_is xs i j 0 (omega arith) (omega arith))
    ∙ ap₂ (λ x y. set (set xs i x) j y) at_j at_i
    ∙ ap₂ (λ l n. set l n a) first place
    ∙ set-append_seam (before ++ b ∷ front) b back a
    ∙ append_assoc before (b ∷ front) (a ∷ back)

-- if the numbers of `old` from the index `behind` on are reversed, the last number of the new list is the number of `old` at `behind`
pub last-turned :
    (old : List ℕ) (behind : ℕ) → behind < length old
    → get_or (take behind old ++ reverse (drop behind old)) (length (take behind old ++ reverse (drop behind old)) - 1) 0
    ≡ get_or old behind 0
last-turned old behind h =
    let c = get_or old behind 0 in
    let rest = take behind old ++ reverse (drop (suc behind) old) in
    let parts : take behind old ++ reverse (drop behind old) ≡ rest ++ c ∷ [] =
    ap (λ l. take behind old ++ reverse l) (drop-cons old behind 0 h)
    ∙ ap (λ l. take behind old ++ l) (reverse-cons c (drop (suc behind) old))
    ∙ sym (append_assoc (take behind old) (reverse (drop (suc behind) old)) (c ∷ [])) in
    let long : length (rest ++ c ∷ []) - 1 ≡ length rest = omega (arith, length-append rest (c ∷ [])) in
    ap (λ l. get_or l (length l - 1) 0) parts ∙ ap (λ n. get_or (rest ++ c ∷ []) n 0) long
    ∙ get_or-append_seam rest c [] 0

-- let the numbers of `old` from the index `behind` on be weakly increasing, and let `turned` be `old` with these numbers reversed. Let `low` be the
-- first index from `behind` on at which `turned` has a smaller number than at the index before `behind`. If `new` is `turned` with these two numbers
-- exchanged, then `new` is the arrangement that follows `old`
pub next_by_places :
    (old turned new : List ℕ) (behind low : ℕ) → 0 < behind → behind < length old
    → Rises (drop behind old) → turned ≡ take behind old ++ reverse (drop behind old)
    → behind ≤ low → low < length turned → get_or turned low 0 < get_or old (behind - 1) 0
    → ((k : ℕ) → behind ≤ k → k < low → get_or old (behind - 1) 0 ≤ get_or turned k 0)
    → new ≡ swap turned (behind - 1) low
    → arrangements_after old ≡ new ∷ arrangements_after new
next_by_places old turned new behind low p h r e l m below above f =
    let a = get_or old (behind - 1) 0 in
    let s = drop behind old in
    let t = reverse (drop behind old) in
    let j = low - behind in
    let front = take (low - behind) t in
    let b = get_or t (low - behind) 0 in
    let back = drop (suc (low - behind)) t in
    let before = take (behind - 1) old in
    let next : suc (behind - 1) ≡ behind = omega arith in
    let next' : (behind - 1) + 1 ≡ behind = omega arith in
    let whole : old ≡ before ++ a ∷ s =
    sym (take-append-drop (behind - 1) old)
    ∙ ap (λ l. before ++ l) (drop-cons old (behind - 1) 0 (omega arith) ∙ ap (λ n. a ∷ drop n old) next) in
    let fronts : take behind old ≡ before ++ a ∷ [] = ap (λ n. take n old) (sym next') ∙ take_more old (behind - 1) 0 (omega arith) in
    let turned_is : turned ≡ before ++ a ∷ t = e ∙ ap (λ l. l ++ t) fronts ∙ append_assoc before (a ∷ []) t in
    let long : length (take behind old) ≡ behind = omega (arith, length-take behind old) in
    let sizes : length turned ≡ behind + length t = ap length e ∙ length-append (take behind old) t ∙ ap (λ n. n + length t) long in
    let within : low - behind < length t = omega arith in
    let place : (k : ℕ) → get_or turned (behind + k) 0 ≡ get_or t k 0 =
    λ k. ap₂ (λ l n. get_or l (n + k) 0) e (sym long) ∙ get_or-append-add (take behind old) t k 0 in
    let here : behind + (low - behind) ≡ low = omega arith in
    let low_is : get_or turned low 0 ≡ b = ap (λ n. get_or turned n 0) (sym here) ∙ place j in
    let tail : t ≡ front ++ b ∷ back = sym (take-append-drop j t) ∙ ap (λ l. front ++ l) (drop-cons t j 0 within) in
    let short : length front ≡ low - behind = omega (arith, length-take (low - behind) t) in
    let least : AreAtLeast a front =
    AtLeast-from a front
    (λ k q.
    let inside : k < low - behind = omega arith in
    let same : get_or front k 0 ≡ get_or turned (behind + k) 0 = get_or-take j t k 0 inside ∙ sym (place k) in
    omega (arith, above (behind + k) (omega arith) (omega arith))) in
    let count : behind - 1 ≡ length before = omega (arith, length-take (behind - 1) old) in
    let new_is : new ≡ before ++ b ∷ (front ++ a ∷ back) =
    f ∙ ap (λ l. swap l (behind - 1) low) (turned_is ∙ ap (λ l. before ++ a ∷ l) tail)
    ∙ swap_parts before front back a b (behind - 1) low count (omega arith) in
    let smaller : b < a = omega (arith, low_is) in
    ap arrangements_after whole ∙ next_arrangement before s front back a b r tail least smaller
    ∙ ap (λ l. l ∷ arrangements_after l) (sym new_is)

Falls-padded : (parts : List ℕ) (n : ℕ) → Falls parts → Falls (parts ++ replicate n 0)
Falls-padded [] n f = Falls-zeros n
Falls-padded (a ∷ []) zero f = tt
Falls-padded (a ∷ []) (suc n) f = (omega arith, Falls-zeros (suc n))
Falls-padded (a ∷ b ∷ parts) n f = (f.0, Falls-padded (b ∷ parts) n f.1)

pub arrangements-first :
    (parts numbers : List ℕ) (n : ℕ) → IsPartition parts → length parts ≤ n
    → numbers ≡ parts ++ replicate (n - length parts) 0
    → numbers ∷ arrangements_after numbers ≡ arrangements parts n
arrangements-first parts numbers n p h e =
    let more = n - length parts in
    let g = parts ++ replicate (n - length parts) 0 in
    let places : length (parts ++ replicate (n - length parts) 0) ≡ n =
    length-append parts (replicate more 0) ∙ omega (arith, length-replicate {A = ℕ} more 0) in
    let sum : size (parts ++ replicate (n - length parts) 0) ≡ size parts =
    size-append parts (replicate more 0) ∙ omega (arith, size-zeros more) in
    let sorted : sorted_parts (parts ++ replicate (n - length parts) 0) ≡ parts =
    sorted_parts-padded parts more ∙ sorted_parts-partition parts p in
    ap (λ xs. xs ∷ arrangements_after xs) e
    ∙ sym (first_arrangement g (Falls-padded parts more p.falls))
    ∙ ap (λ xs. sorting_to xs (length g) (size g)) sorted
    ∙ ap₂ (λ k d. sorting_to parts k d) places sum
