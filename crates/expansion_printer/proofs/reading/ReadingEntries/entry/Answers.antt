use Rattle.std.proofs.Common.{◌≡◌, ◌∙◌, rules}
use Rattle.std.specs.Prelude.{slice_index}
use Rattle.expansion_printer.proofs.reading.ReadingEntries.entry.Goals as goal

pub returns : goal.returns
returns c =
    let got : c.unwrap_or.result ≡ slice_index c.args.self.now.letters.now c.place-place.result =
    search rules in
    got ∙ c.place-place.ensures c.args.self.now.letters.now
