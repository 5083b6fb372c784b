-- A *board* (`IsBoard`) has a word, which the code writes letter by letter in reading order, and the entrywise sum of a partition `start` and the
-- content of the letters written so far. Its *position* (`position_of`) consists of the word, these sums, and the data that decide which letters fit;
-- the position is ready at an index if all letters before the index fit (`IsReady`). Here: positions of a new board, and of a board after a letter is
-- written or removed.
use Rattle.std.proofs.Common.{◌≡◌, ℕ, ◌+◌, ◌-◌, ◌<◌, ◌≤◌, min, ◌==◌, Bool, true, false, ◌&&◌, cond, List, [], ◌∷◌, ◌++◌, length, take, get_or, ◌∙◌, ap, ap₂, sym, refl, subst, inl, inr, arith}
use Rattle.std.proofs.Math.ListN.{set}
use Rattle.std.proofs.lemmas.Bool.{and_parts, cases_eq, eq-eqb, ne_eqb}
use Rattle.std.proofs.lemmas.List.{length-set, get_or-set_same, get_or-set_other, length-take, take_more, take_more_set, get_or_default}
use Rattle.sym_model.specs.Partition.{rows, size}
use Rattle.sym_model.specs.Polynomial.{join}
use Rattle.sym_model.specs.Schur.{content}
use Rattle.sym_model.specs.TableauList.{reading_cells}
use Rattle.sym_model.proofs.Parts.{get_or-le-size}
use Rattle.sym_model.proofs.Contents.{times_in-most}
use Rattle.tableau_iter.specs.declared.rule.Rule.{Rule}
use Rattle.tableau_iter.specs.Fits.{Neighbours, all_fit, ceiling_at, fits_by, floor_at}
use Rattle.tableau_iter.specs.Positions.{IsBoard, IsNearIn, IsReady, Position, fits_in, position_of, setting_of}
use Rattle.tableau_iter.proofs.Walking.{all_fit-append, all_fit-one}
use Rattle.tableau_iter.proofs.LetterChoice.{IsPlace, fitting_letter}
use Rattle.tableau_iter.proofs.Sums.{sums-join}
use Rattle.tableau_iter.proofs.Tableaux.{lines-length}
use Rattle.tableau_iter.proofs.FrontContents.{length-sums, sum-at, times_in-one}

pub board :
    (k : ℕ) (outer inner : List ℕ) (near : Neighbours) (start sums word : List ℕ) → IsNearIn k outer inner near
    → length word ≡ length (reading_cells outer inner) → size start + length word ≤ 4096 → rows start ≤ k → k ≤ 4096 → length sums ≡ k
    → IsBoard near start sums word
board k outer inner near start sums word n l small fits few count =
    let lines = lines-length outer inner n.lines n.ranks n.cells in
    let a = n.near_cells.above in
    let r = n.near_cells.right in
    let long_above = a.places in
    let long_right = r.places in
    let long_most = n.near_cells.places in
    record {
      above = omega arith;
      right = omega arith;
      most = omega arith;
      above_back = λ p h. (a.each p (omega arith)).within;
      right_back = λ p h. (r.each p (omega arith)).within;
      within = λ p h. let m = n.near_cells.most p (omega arith) in let v = m.value in omega arith;
      small = small;
      fits = omega arith;
      few = omega arith;
    }

-- if `sums` is start plus the content of v, then adding 1 to the entry of `sums` for the letter a gives start plus the content of v with a appended
pub sums-put :
    (start sums v : List ℕ) (k a : ℕ) → rows start ≤ k → 1 ≤ a → a ≤ k → sums ≡ join start (content k v)
    → set sums (a - 1) (get_or sums (a - 1) 0 + 1) ≡ join start (content k (v ++ a ∷ []))
sums-put start sums v k a few low high e =
    let long : length sums ≡ k = ap length e ∙ length-sums start v k few in
    sums-join (set sums (a - 1) (get_or sums (a - 1) 0 + 1)) start (v ++ a ∷ []) k (length-set sums (a - 1) (get_or sums (a - 1) 0 + 1) ∙ long) few
    (λ i h. elim (cases_eq a (i + 1)) [
      | inl s ↦
          let one : cond {A = ℕ} (a == i + 1) 1 0 ≡ 1 = ap (λ b. cond b 1 0) (eq-eqb a (i + 1) s) in
          let place : a - 1 ≡ i = omega arith in
          omega (
            arith,
            ap (λ n. get_or (set sums n (get_or sums n 0 + 1)) i 0) place,
            get_or-set_same sums i (get_or sums i 0 + 1) 0 (omega arith),
            ap (λ xs. get_or xs i 0) e,
            sum-at start v k i few h,
            times_in-one (i + 1) a v,
            one,
          )
      | inr n ↦
          let none : cond {A = ℕ} (a == i + 1) 1 0 ≡ 0 = ap (λ b. cond b 1 0) (ne_eqb a (i + 1) n) in
          omega (
            arith,
            get_or-set_other sums (a - 1) i (get_or sums (a - 1) 0 + 1) 0 (λ (s : i ≡ a - 1). n (omega arith)),
            ap (λ xs. get_or xs i 0) e,
            sum-at start v k i few h,
            times_in-one (i + 1) a v,
            none,
          )
    ])

-- if `sums` is start plus the content of v with the letter a appended, then the entry of `sums` for a is at least 1, and subtracting 1 from this
-- entry gives start plus the content of v
pub sums-take :
    (start sums v : List ℕ) (k a : ℕ) → rows start ≤ k → 1 ≤ a → a ≤ k → sums ≡ join start (content k (v ++ a ∷ []))
    → (1 ≤ get_or sums (a - 1) 0) × (set sums (a - 1) (get_or sums (a - 1) 0 - 1) ≡ join start (content k v))
sums-take start sums v k a few low high e =
    let long : length sums ≡ k = ap length e ∙ length-sums start (v ++ a ∷ []) k few in
    let letter : a ≡ a - 1 + 1 = omega arith in
    let here : cond {A = ℕ} (a == a - 1 + 1) 1 0 ≡ 1 = ap (λ b. cond b 1 0) (eq-eqb a (a - 1 + 1) letter) in (
      omega (arith, ap (λ xs. get_or xs (a - 1) 0) e, sum-at start (v ++ a ∷ []) k (a - 1) few (omega arith), times_in-one (a - 1 + 1) a v, here),
      sums-join (set sums (a - 1) (get_or sums (a - 1) 0 - 1)) start v k (length-set sums (a - 1) (get_or sums (a - 1) 0 - 1) ∙ long) few
          (λ i h. elim (cases_eq a (i + 1)) [
            | inl s ↦
                let one : cond {A = ℕ} (a == i + 1) 1 0 ≡ 1 = ap (λ b. cond b 1 0) (eq-eqb a (i + 1) s) in
                let place : a - 1 ≡ i = omega arith in
                omega (
                  arith,
                  ap (λ n. get_or (set sums n (get_or sums n 0 - 1)) i 0) place,
                  get_or-set_same sums i (get_or sums i 0 - 1) 0 (omega arith),
                  ap (λ xs. get_or xs i 0) e,
                  sum-at start (v ++ a ∷ []) k i few h,
                  times_in-one (i + 1) a v,
                  one,
                )
            | inr n ↦
                let none : cond {A = ℕ} (a == i + 1) 1 0 ≡ 0 = ap (λ b. cond b 1 0) (ne_eqb a (i + 1) n) in
                omega (
                  arith,
                  get_or-set_other sums (a - 1) i (get_or sums (a - 1) 0 - 1) 0 (λ (s : i ≡ a - 1). n (omega arith)),
                  ap (λ xs. get_or xs i 0) e,
                  sum-at start (v ++ a ∷ []) k i few h,
                  times_in-one (i + 1) a v,
                  none,
                )
          ]),
    )

sum-small : (start v : List ℕ) (k i : ℕ) → rows start ≤ k → i < k → get_or (join start (content k v)) i 0 ≤ size start + length v
sum-small start v k i few h = omega (arith, sum-at start v k i few h, get_or-le-size start i, times_in-most (i + 1) v)

pub ceiling-most : (right most word : List ℕ) (place : ℕ) → ceiling_at right most word place ≤ get_or most place 0
ceiling-most right most word place = by (get_or right place 0 == 0)
  where
    by : (b : Bool) → cond b (get_or most place 0) (min (get_or most place 0) (get_or word (get_or right place 0 - 1) 0)) ≤ get_or most place 0
    by true = omega arith
    by false = omega arith

pub place-of :
    (rule : Rule) (counts start : List ℕ) (near : Neighbours) (sums numbers word : List ℕ) (place least most : ℕ) → IsBoard near start sums word
    → place < length word → least ≡ floor_at near.above word place → most ≡ ceiling_at near.right near.most word place
    → numbers ≡ join start (content (length sums) (take place word))
    → IsPlace (setting_of rule counts start (length sums) near) word numbers place least most
place-of rule counts start near sums numbers word place least most b h l m s =
    let within = b.within place h in
    record {
      within = h;
      above_back = b.above_back place h;
      right_back = b.right_back place h;
      least_is = l;
      most_is = m;
      few = omega (arith, ceiling-most near.right near.most word place);
      sums_are = s;
    }

letter-within :
    (rule : Rule) (counts start : List ℕ) (near : Neighbours) (sums word : List ℕ) (place a : ℕ) → IsBoard near start sums word
    → place < length word → fits_in (setting_of rule counts start (length sums) near) (take place word) a ≡ true → (1 ≤ a) × (a ≤ length sums)
letter-within rule counts start near sums word place a b h e =
    let s = setting_of rule counts start (length sums) near in
    let told =
    fitting_letter s word (join start (content (length sums) (take place word))) place (floor_at near.above word place) (ceiling_at near.right near.most word place) a
    (place-of rule counts start near sums (join start (content (length sums) (take place word))) word place _ _ b h refl refl refl) e in
    let low = told.0 in
    (omega arith, told.1)

pub put-tells :
    (rule : Rule) (counts start : List ℕ) (near : Neighbours) (sums word : List ℕ) (place a : ℕ) → IsBoard near start sums word → place < length word
    → IsReady place (position_of rule counts start near sums word)
    → fits_in (setting_of rule counts start (length sums) near) (take place word) a ≡ true
    → (1 ≤ a) × (a ≤ length sums) × (get_or sums (a - 1) 0 + 1 ≤ 4097)
    × IsReady (place + 1) (position_of rule counts start near (set sums (a - 1) (get_or sums (a - 1) 0 + 1)) (set word place a))
put-tells rule counts start near sums word place a b h r e =
    let told = letter-within rule counts start near sums word place a b h e in
    let low = told.0 in
    let high = told.1 in
    let small = b.small in
    let same = length-set sums (a - 1) (get_or sums (a - 1) 0 + 1) in
    let front = take_more_set word place a h in (
      low,
      high,
      omega (
        arith,
        ap (λ xs. get_or xs (a - 1) 0) r.sums,
        sum-small start (take place word) (length sums) (a - 1) b.fits (omega arith),
        length-take place word,
      ),
      record {
        fits =
            ap₂ (λ k v. all_fit (fits_by rule counts start k near) [] v) same front
            ∙ all_fit-one (fits_by rule counts start (length sums) near) (take place word) a r.fits e;
        sums =
            sums-put start sums (take place word) (length sums) a b.fits low high r.sums
            ∙ sym (ap₂ (λ k v. join start (content k v)) same front);
      },
    )

pub take-tells :
    (rule : Rule) (counts start : List ℕ) (near : Neighbours) (sums word : List ℕ) (place : ℕ) → IsBoard near start sums word → place < length word
    → IsReady (place + 1) (position_of rule counts start near sums word)
    → (1 ≤ get_or word place 0) × (get_or word place 0 ≤ length sums) × (1 ≤ get_or sums (get_or word place 0 - 1) 0)
    × IsReady place (position_of rule counts start near (set sums (get_or word place 0 - 1) (get_or sums (get_or word place 0 - 1) 0 - 1)) word)
take-tells rule counts start near sums word place b h r =
    let a = get_or word place 0 in
    let fits = fits_by rule counts start (length sums) near in
    let front : take (place + 1) word ≡ take place word ++ get_or word place 0 ∷ [] = take_more word place 0 h in
    let both =
    and_parts (all_fit (fits_by rule counts start (length sums) near) [] (take place word))
    (fits_by rule counts start (length sums) near (take place word) (get_or word place 0) && true)
    (sym (all_fit-append fits [] (take place word) (get_or word place 0 ∷ [])) ∙ sym (ap (all_fit fits []) front) ∙ r.fits) in
    let last = (and_parts (fits_by rule counts start (length sums) near (take place word) (get_or word place 0)) true both.1).0 in
    let told = letter-within rule counts start near sums word place a b h last in
    let low = told.0 in
    let high = told.1 in
    let taken = sums-take start sums (take place word) (length sums) a b.fits low high (r.sums ∙ ap (λ v. join start (content (length sums) v)) front) in
    let same = length-set sums (a - 1) (get_or sums (a - 1) 0 - 1) in (
      low,
      high,
      taken.0,
      record {
        fits = ap (λ k. all_fit (fits_by rule counts start k near) [] (take place word)) same ∙ both.0;
        sums = taken.1 ∙ sym (ap (λ k. join start (content k (take place word))) same);
      },
    )

-- ---- letters written and removed, with the values as the code reads them from its arrays

-- let p be the position of a board, ready at `place`: if the letter a fits there, the entry of `sums` for a is at most 4,096, and with a written at
-- `place` and this entry raised by 1 the board is ready at the next index
pub put-read :
    (rule : Rule) (counts start : List ℕ) (near : Neighbours) (sums word : List ℕ) (place a n v : ℕ) (p : Position)
    → position_of rule counts start near sums word ≡ p → IsBoard near start sums word → place < length p.word
    → IsReady place p → fits_in p.setting (take place p.word) a ≡ true → n ≡ a → v ≡ get_or sums (n - 1) v
    → (v + 1 ≤ 4097) × IsReady (place + 1) (position_of rule counts start near (set sums (n - 1) (v + 1)) (set word place a))
put-read rule counts start near sums word place a n v p is b h r e same read =
    let told =
    put-tells rule counts start near sums word place a b (subst (λ (q : Position). place < length q.word) (sym is) h)
    (subst (λ (q : Position). IsReady place q) (sym is) r)
    (subst (λ (q : Position). fits_in q.setting (take place q.word) a ≡ true) (sym is) e) in
    let low = told.0 in
    let high = told.1 in
    let at : n - 1 ≡ a - 1 = omega arith in
    let value : v ≡ get_or sums (a - 1) 0 =
    read ∙ get_or_default sums (n - 1) v 0 (omega arith) ∙ ap (λ m. get_or sums m 0) at in (
      omega (arith, told.2),
      subst (λ m. IsReady (place + 1) (position_of rule counts start near (set sums m (v + 1)) (set word place a))) (sym at)
          (subst (λ m. IsReady (place + 1) (position_of rule counts start near (set sums (a - 1) (m + 1)) (set word place a))) (sym value) told.3),
    )

-- let p be the position of a board, ready at `place` + 1: if the letter at `place` is removed and the entry of `sums` for it is lowered by 1, the
-- board is ready at `place`
pub take-read :
    (rule : Rule) (counts start : List ℕ) (near : Neighbours) (sums word : List ℕ) (place a n : ℕ) (p : Position)
    → position_of rule counts start near sums word ≡ p → IsBoard near start sums word → place < length p.word
    → IsReady (place + 1) p → a ≡ get_or word place a → n ≡ a
    → (1 ≤ n) × (n ≤ length sums)
    × ((v : ℕ) → v ≡ get_or sums (n - 1) v → (1 ≤ v) × IsReady place (position_of rule counts start near (set sums (n - 1) (v - 1)) word))
take-read rule counts start near sums word place a n p is b h r letter same =
    let inside = subst (λ (q : Position). place < length q.word) (sym is) h in
    let told = take-tells rule counts start near sums word place b inside (subst (λ (q : Position). IsReady (place + 1) q) (sym is) r) in
    let low = told.0 in
    let high = told.1 in
    let now : n ≡ get_or word place 0 = same ∙ letter ∙ get_or_default word place a 0 inside in
    let at : n - 1 ≡ get_or word place 0 - 1 = omega arith in (
      omega arith,
      omega arith,
      λ v read.
          let value : v ≡ get_or sums (get_or word place 0 - 1) 0 =
          read ∙ get_or_default sums (n - 1) v 0 (omega arith) ∙ ap (λ m. get_or sums m 0) at in (
            omega (arith, told.2),
            subst (λ m. IsReady place (position_of rule counts start near (set sums m (v - 1)) word)) (sym at)
                (subst (λ m. IsReady place (position_of rule counts start near (set sums (get_or word place 0 - 1) (m - 1)) word)) (sym value) told.3),
          ),
    )

-- let p be the position of a board, ready at `place`. If `least` and `most` are the values of `floor_at` and `ceiling_at` at `place` for the lists of
-- the board, then they are the bounds for the letter at `place` (`IsPlace`)
pub place-read :
    (rule : Rule) (counts start : List ℕ) (near : Neighbours) (sums word : List ℕ) (place least most : ℕ) (p : Position)
    → position_of rule counts start near sums word ≡ p → IsBoard near start sums word → place < length p.word → IsReady place p
    → (above word' right mosts word'' numbers : List ℕ) → above ≡ near.above → word' ≡ word → right ≡ near.right → mosts ≡ near.most → word'' ≡ word
    → numbers ≡ sums → least ≡ floor_at above word' place → most ≡ ceiling_at right mosts word'' place
    → IsPlace p.setting p.word numbers place least most
place-read rule counts start near sums word place least most p is b h r above word' right mosts word'' numbers a w i m v s l t =
    subst (λ (q : Position). IsPlace q.setting q.word numbers place least most) is
    (place-of rule counts start near sums numbers word place least most b (subst (λ (q : Position). place < length q.word) (sym is) h)
    (l ∙ ap₂ (λ x y. floor_at x y place) a w)
    (t ∙ ap (λ x. ceiling_at right mosts x place) v ∙ ap₂ (λ x y. ceiling_at x y word place) i m)
    (s ∙ (subst (λ (q : Position). IsReady place q) (sym is) r).sums))

pub setting-same :
    (rule : Rule) (counts counts' start start' : List ℕ) (k k' : ℕ) (near : Neighbours) → counts ≡ counts' → start ≡ start' → k ≡ k'
    → setting_of rule counts start k near ≡ setting_of rule counts' start' k' near
setting-same rule counts counts' start start' k k' near c s l =
    ap₂ (λ x y. setting_of rule x y k near) c s ∙ ap (λ n. setting_of rule counts' start' n near) l
