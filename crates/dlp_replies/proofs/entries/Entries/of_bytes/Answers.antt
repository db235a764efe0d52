use Rattle.dlp_replies.proofs.EntryLaws.{items_are}
use Rattle.dlp_replies.proofs.entries.Entries.of_bytes.Goals as goal

pub invariant_of-result : goal.invariant_of-result
invariant_of-result c = (items_are c.args.count 4 c.args.bytes.now c.requires.rows c.requires.values).1

pub returns : goal.returns
returns c = (items_are c.args.count 4 c.args.bytes.now c.requires.rows c.requires.values).0
