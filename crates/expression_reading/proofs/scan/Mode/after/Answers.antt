use Rattle.expression_reading.proofs.scan.Mode.after.Goals as goal

pub returns-in-Entry : goal.returns-in-Entry
returns-in-Entry c = rw c.in-Entry.is (c.in_entry.ensures c.args.at)
