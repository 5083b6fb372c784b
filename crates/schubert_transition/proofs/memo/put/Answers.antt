use Rattle.schubert_transition.proofs.KeptEntries.{put_if}
use Rattle.schubert_transition.proofs.memo.put.Goals as goal

pub returns-clause-kept : goal.returns-clause-kept
returns-clause-kept c =
    put_if c.args.cache.now c.put.new.self c.args.w c.args.terms c.put.result c.requires.held
    c.requires.is c.requires.few c.put.ensures.entries c.put.ensures.err
