use Rattle.std.proofs.Common.{refl}
use Rattle.calc_words.proofs.ReadParts.{all_read}
use Rattle.calc_words.proofs.reductions.read_quantum.Goals as goal

pub returns : goal.returns
returns c =
    let k = c.in_ok-places.ensures.cut in
    let h = k.parts in
    all_read _ _ k c.in_ok-factors.ensures.fine _ refl
    (cc (c.in_ok-rows.ensures.value _ h.0 h.1 h.2, c.in_ok-cols.ensures.value _ h.3.0 h.3.1 h.3.2, c.in_ok-factors.ensures.value _ h.3.3.0 h.3.3.1 h.3.3.2))
