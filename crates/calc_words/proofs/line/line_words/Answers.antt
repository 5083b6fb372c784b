use Rattle.std.proofs.Common.{◌≡◌, ◌++◌, [], ◌∷◌, map, take, get_or, length, sym, ap, ◌∙◌, arith, rules}
use Rattle.std.specs.Prelude.{string_bytes}
use Rattle.std.specs.List.{take-map}
use Rattle.std.proofs.lemmas.List.{map-set, take-set, get_or-set_same, get_or-map, length-map, length-set}
use Rattle.calc_words.specs.LineBytes.{seen_byte}
use Rattle.calc_words.proofs.LineWords.{space_read, byte_read, all_read}
use Rattle.calc_words.proofs.line.line_words.Goals as goal

pub loop-byte-preserved-then-is_space : goal.loop-byte-preserved-then-is_space
loop-byte-preserved-then-is_space c = search (rules, space_read)

pub loop-byte-preserved : goal.loop-byte-preserved
loop-byte-preserved c =
    let items = c.loop-byte.words.items in
    let done = c.loop-byte.done in
    let longer = c.add_byte.new.word in
    let within = c.loop-byte.invariant.1 in
    let front = ap (take done) (map-set string_bytes items done longer)
    ∙ take-set (map string_bytes items) done (string_bytes longer) in
    let word = ap (λ words. get_or words done []) (map-set string_bytes items done longer)
    ∙ get_or-set_same (map string_bytes items) done (string_bytes longer) []
    (let l = length-map items string_bytes in omega arith) in
    let more : string_bytes longer ≡ get_or (map string_bytes items) done []
    ++ seen_byte (get_or c.args.line.now c.loop-byte.byte-index 0) ∷ [] =
    search (rules, get_or-map) in (
      rw (front, word)
          (byte_read c.args.line.now c.loop-byte.byte-index (take done (map string_bytes items))
          (get_or (map string_bytes items) done []) (string_bytes longer)
          (omega (arith, c.loop-byte-test.true)) (search rules) more c.loop-byte.invariant.0),
      (let l = length-set items done longer in omega arith),
    )

pub returns : goal.returns
returns c =
    let items = c.end_word-2.new.words.items in
    ap (map string_bytes) c.truncate.ensures.items
    ∙ sym (take-map string_bytes c.in_ok-done-2.done items)
    ∙ all_read c.args.line.now c.loop-byte.byte-index
    (take c.loop-byte.done (map string_bytes c.loop-byte.words.items))
    (take c.in_ok-done-2.done (map string_bytes items))
    (get_or (map string_bytes c.loop-byte.words.items) c.loop-byte.done [])
    (omega (arith, c.loop-byte-test.false)) c.in_ok-done-2.ensures.ended c.loop-byte.invariant.0
