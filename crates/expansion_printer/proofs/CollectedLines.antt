-- Lines that are collected in a sink into memory and a buffer: their text, and the block that has them.
use Rattle.std.proofs.Common.{◌≡◌, ℕ, List, [], ◌∷◌, ◌++◌, true, false, refl, sym, ◌∙◌, ap, subst, append_assoc, Bool}
use Rattle.std.specs.Prelude.{Some, codes, not}
use Rattle.calc_base.specs.Growing.{Growing, growing_seen}
use Rattle.calc_base.specs.Sink.{Appends}
use Rattle.calc_base.specs.Puts.{Puts}
use Rattle.calc_base.proofs.PutsLaws.{Appends-told, Puts-nothing}
use Rattle.sym_model.specs.Expansion.{Terms}
use Rattle.sym_model.specs.Kind.{LabelRules}
use Rattle.sym_model.specs.NumberText.{fraction_text}
use Rattle.sym_model.specs.PrintedBlock.{lines_by, block_by}
use Rattle.expansion_printer.specs.Blocks.{block_of}
use Rattle.expansion_printer.specs.Gathering.{Waiting, Gathers}

pub bytes_after : (s t : Growing) (text : List ℕ) → Appends (growing_seen s) (growing_seen t) text → t.bytes ≡ s.bytes ++ text
bytes_after s t text h = let e : Some t.bytes ≡ Some (s.bytes ++ text) = Appends-told s.bytes h refl in cc

-- the bytes in the sink and in the buffer are those before, and then the text that was collected
pub bytes_gathered : (old new : Waiting) (s t : Growing) (text : List ℕ) → Gathers old (growing_seen s) new (growing_seen t) text → old.well ≡ true → new.well ≡ true
    → t.bytes ++ new.bytes ≡ (s.bytes ++ old.bytes) ++ text
bytes_gathered old new s t text goes began ended =
    let h = goes.behind (growing_seen s) old.bytes (record {
      front = [];
      last = old.bytes;
      joined = refl;
      waits = λ well. refl;
      goes = subst (λ (b : Bool). Puts true (growing_seen s) b (growing_seen s) []) (sym began) (Puts-nothing true (growing_seen s));
    }) in
    ap (λ b. b ++ new.bytes) (bytes_after s t h.front (h.goes.whole ended))
    ∙ append_assoc s.bytes h.front new.bytes
    ∙ ap (λ b. s.bytes ++ (h.front ++ b)) (h.waits ended)
    ∙ ap (λ b. s.bytes ++ b) h.joined
    ∙ sym (append_assoc s.bytes old.bytes text)

pub both_empty : (a b : List ℕ) → a ++ b ≡ [] → (a ≡ []) × (b ≡ [])
both_empty [] b h = (refl, h)
both_empty (x ∷ a) b h = absurd (cc)

pub block_of-some : (text : List ℕ) → (text ≡ [] → ⊥) → text ≡ block_of text
block_of-some [] other = absurd (other refl)
block_of-some (byte ∷ text) other = refl

some_line : (coefficient label rest : List ℕ) → (coefficient ++ (label ++ codes "\n")) ++ rest ≡ [] → ⊥
some_line [] [] rest h = cc
some_line [] (byte ∷ label) rest h = cc
some_line (byte ∷ coefficient) label rest h = cc

-- the lines of a list of terms are those of its block
pub block_of-lines : {Label : Type 0} (rules : LabelRules Label) (terms : Terms Label) → block_of (lines_by rules terms) ≡ block_by rules terms
block_of-lines rules [] = refl
block_of-lines rules (t ∷ terms) = sym (block_of-some (lines_by rules (t ∷ terms)) (some_line (fraction_text t.1) (rules.text t.0) (lines_by rules terms)))

pub well_unless : (well failed : Bool) → failed ≡ not well → failed ≡ false → well ≡ true
well_unless true failed e f = refl
well_unless false failed e f = absurd (cc)

-- if the last write of a buffer succeeded, no write has failed, and the bytes in the buffer follow those in the sink
finished : (last : Waiting) (u v : Growing) (ok : Bool) → Puts last.well (growing_seen u) ok (growing_seen v) last.bytes → ok ≡ true
    → (last.well ≡ true) × (v.bytes ≡ u.bytes ++ last.bytes)
finished last u v ok goes ended = (by last.well refl, bytes_after u v last.bytes (goes.whole ended))
  where
    by : (well : Bool) → last.well ≡ well → last.well ≡ true
    by true e = e
    by false e = let f : ok ≡ false = goes.ill e in absurd (cc)

none_then : (text : List ℕ) → text ≡ [] → text ++ codes "0\n" ≡ block_of text
none_then [] e = refl
none_then (byte ∷ text) e = absurd (cc)

pub finished_none : (text : List ℕ) (old mid last : Waiting) (s t u v : Growing) (ok : Bool) → text ≡ s.bytes ++ old.bytes → old.well ≡ true → text ≡ []
    → Gathers old (growing_seen s) mid (growing_seen t) (codes "0\n") → last ≡ mid → u ≡ t
    → Puts last.well (growing_seen u) ok (growing_seen v) last.bytes → ok ≡ true → v.bytes ≡ block_of text
finished_none text old mid last s t u v ok is began none goes same_text same_sink ends ended =
    let f = finished last u v ok ends ended in
    f.1
    ∙ ap (λ (g : Growing). g.bytes ++ last.bytes) same_sink
    ∙ ap (λ (w : Waiting). t.bytes ++ w.bytes) same_text
    ∙ bytes_gathered old mid s t (codes "0\n") goes began (sym (ap (λ (w : Waiting). w.well) same_text) ∙ f.0)
    ∙ ap (λ b. b ++ codes "0\n") (sym is)
    ∙ none_then text none

pub finished_some : (text : List ℕ) (old last : Waiting) (s u v : Growing) (ok : Bool) → text ≡ s.bytes ++ old.bytes → (text ≡ [] → ⊥) → last ≡ old → u ≡ s
    → Puts last.well (growing_seen u) ok (growing_seen v) last.bytes → ok ≡ true → v.bytes ≡ block_of text
finished_some text old last s u v ok is some same_text same_sink ends ended =
    (finished last u v ok ends ended).1
    ∙ ap (λ (g : Growing). g.bytes ++ last.bytes) same_sink
    ∙ ap (λ (w : Waiting). s.bytes ++ w.bytes) same_text
    ∙ sym is
    ∙ block_of-some text some
