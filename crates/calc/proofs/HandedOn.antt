-- If the buffer of a sink over a writer is empty, the writer has received all that was written to the sink.
use Rattle.std.proofs.Common.{◌≡◌, ℕ, List, [], ◌∷◌, Option, true, false, refl, sym, ap, ◌∙◌}
use Rattle.std.proofs.lemmas.Bool.{and_parts}
use Rattle.std.specs.Io.KnownBytes.{append_known}
use Rattle.calc_base.specs.Edge.{Outlet, told_bytes, is_none, is_handed_on}
use Rattle.calc_base.specs.Sink.{seen_bytes}
use Rattle.calc_base.proofs.PutsLaws.{Appends-nothing}

none_waits : (waiting : List ℕ) → is_none waiting ≡ true → waiting ≡ []
none_waits [] h = refl
none_waits (byte ∷ bytes) h = let clash : false ≡ true = h in cc

-- If the buffer of the sink is empty (`is_handed_on`), the bytes that were written to the sink are the bytes that its writer has received.
pub handed_on : {W : Type 0} (contents : W → Option (List ℕ)) (s : Outlet W) → is_handed_on s ≡ true → told_bytes contents s ≡ contents s.writer
handed_on contents s settled =
    ap (append_known (contents s.writer)) (none_waits s.waiting (and_parts s.finished (is_none s.waiting) settled).1)
    ∙ sym (Appends-nothing (seen_bytes (contents s.writer) 0 true)).bytes
