use Rattle.std.proofs.Common.{◌≡◌, ◌+◌, ap, take, drop, refl, arith}
use Rattle.std.proofs.lemmas.Grind.{common_steps}
use Rattle.calc_base.specs.Supply.{Supply}
use Rattle.calc_base.proofs.Memory.{Takes-front}
use Rattle.calc_base.proofs.mem_source.MemSourceSource.take.Goals as goal

pub returns-clause-ok : goal.returns-clause-ok
returns-clause-ok c =
    let seen : drop c.self.inside.at c.self.inside.bytes.items ≡ c.args.self.now.rest =
    ap (λ (s : Supply). s.rest) c.self.view_is in
    let copied : c.copy_from_slice.new.self ≡ take c.min-count.result c.args.self.now.rest =
    grind (arith, common_steps) in
    let later : drop (c.self.inside.at + c.min-count.result) c.self.inside.bytes.items
    ≡ drop c.min-count.result c.args.self.now.rest =
    grind (arith, common_steps) in
    Takes-front c.args.self.now.rest _ c.copy_from_slice.new.self
    (drop c.min-count.result c.args.buf.now) _
    c.self.inside.piece c.min-count.result copied later refl (grind (arith, common_steps))
    (grind (arith, common_steps)) (grind (arith, common_steps))
