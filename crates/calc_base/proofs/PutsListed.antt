-- Writing the items of a lister, which gives a list item by item, to a sink. `Puts` says that a text was written, or a prefix of it if a call failed;
-- `PutsUpTo` is the invariant of a printer's loop over the items. Lemmas for its start, for one more item, for the end of the list, and for a failed
-- call.
use Rattle.std.proofs.Common.{◌≡◌, ℕ, List, [], ◌++◌, Option, Some, Bool, false, refl, sym, ◌∙◌, ap, subst, append_assoc, append-nil}
use Rattle.std.specs.List.{flat_map}
use Rattle.std.specs.Option.{option_to_list}
use Rattle.calc_base.specs.Puts.{Puts}
use Rattle.calc_base.specs.Sink.{SinkSeen}
use Rattle.calc_base.proofs.PutsLaws.{Puts-then, Puts-as, Puts-nothing, Puts-stopped}

-- `Puts` holds for the text `front`, and `front` followed by the texts of the items `left` is the text of all items
pub record PutsUpTo {X : Type 0} (before : Bool) (old : SinkSeen) (now : Bool) (new : SinkSeen)
    (text : X → List ℕ) (all left : List X) : Type 0 where
  pub front : List ℕ
  pub goes : Puts before old now new front
  pub joined : front ++ flat_map text left ≡ flat_map text all

pub PutsUpTo-start : {X : Type 0} (before : Bool) (s : SinkSeen)
    (text : X → List ℕ) (all : List X) → PutsUpTo before s before s text all all
PutsUpTo-start before s text all = record {
  front = [];
  goes = Puts-nothing before s;
  joined = refl;
}

-- let `PutsUpTo` hold with `listed` as the items that are left, and let x, the first of them, be written: then `PutsUpTo` holds with the items after
-- x
pub PutsUpTo-more : {X : Type 0} {before mid now : Bool} {old between new : SinkSeen} (text : X → List ℕ) (all listed left : List X) (item : Option X) (x : X)
    → PutsUpTo before old mid between text all listed
    → listed ≡ option_to_list item ++ left → item ≡ Some x
    → Puts mid between now new (text x)
    → PutsUpTo before old now new text all left
PutsUpTo-more text all listed left item x so_far next current goes = record {
  front = so_far.front ++ text x;
  goes = Puts-then so_far.goes goes;
  joined = append_assoc so_far.front (text x) (flat_map text left)
      ∙ ap (λ items. so_far.front ++ flat_map text items) (sym (next ∙ ap (λ o. option_to_list o ++ left) current))
      ∙ so_far.joined;
}

-- if `PutsUpTo` holds and no item is left, `Puts` holds for the texts of all items
pub PutsUpTo-all : {X : Type 0} {before now : Bool} {old new : SinkSeen} (text : X → List ℕ) (all left : List X)
    → PutsUpTo before old now new text all left → left ≡ []
    → Puts before old now new (flat_map text all)
PutsUpTo-all text all left so_far none =
    Puts-as (sym (append-nil so_far.front) ∙ ap (λ items. so_far.front ++ flat_map text items) (sym none) ∙ so_far.joined)
    so_far.goes

-- if `PutsUpTo` holds and a call has failed, `Puts` holds for the texts of all items: a prefix of them was written
pub PutsUpTo-stopped : {X : Type 0} {before now : Bool} {old new : SinkSeen} (text : X → List ℕ) (all left : List X)
    → PutsUpTo before old now new text all left → now ≡ false
    → Puts before old now new (flat_map text all)
PutsUpTo-stopped {before = before} {now = now} {old = old} {new = new} text all left so_far ill =
    Puts-as so_far.joined (Puts-then so_far.goes
    (subst (λ b. Puts b new b new (flat_map text left)) (sym ill) (Puts-stopped new (flat_map text left))))
