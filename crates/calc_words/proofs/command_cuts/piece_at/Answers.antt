use Rattle.std.proofs.Common.{◌≡◌, ◌+◌, ◌-◌, map, take, drop, slice_index_or, ap₂, refl, ◌∙◌, arith}
use Rattle.std.specs.Prelude.{string_bytes}
use Rattle.calc_words.proofs.CutWords.{piece_is}
use Rattle.calc_words.proofs.command_cuts.piece_at.Goals as goal

pub returns-clause-is : goal.returns-clause-is
returns-clause-is c =
    λ k us p.
    let ws = c.args.words.now in
    let q = piece_is string_bytes ws c.args.places.now c.args.i k _ _ us p refl refl in
    let z = c.min-end.ensures in
    let a = c.min-at.ensures in
    let end : c.min-end.result ≡ slice_index_or c.args.places.now (c.args.i + 1) 0 = omega (arith, z, q.1) in
    let at : c.min-at.result ≡ slice_index_or c.args.places.now c.args.i 0 = omega (arith, a, end, q.0) in
    (at ∙ q.2, ap₂ (λ n m. map string_bytes (take (m - n) (drop n ws))) at end ∙ q.3)
