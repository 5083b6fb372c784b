use Rattle.std.proofs.Common.{rules}
use Rattle.calc_words.proofs.ReadParts.{all_read}
use Rattle.calc_words.proofs.batches.read_batch.Goals as goal

pub returns : goal.returns
returns c = search (rules, all_read)
