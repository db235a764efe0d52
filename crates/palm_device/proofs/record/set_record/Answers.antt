use Rattle.std.proofs.Common.{rules, ◌≡◌, slice_get, Some}
use Rattle.palm_device.specs.Records.{rewritten}
use Rattle.palm_device.proofs.TellingLaws.{tells_change}
use Rattle.palm_device.proofs.record.set_record.Goals as goal

pub returns-in-Some-clause-differs : goal.returns-in-Some-clause-differs
returns-in-Some-clause-differs c =
    let there : slice_get c.args.database.now.records c.args.place ≡ Some c.in-Some.item.now = search rules in
    tells_change (rewritten c.args.content) c.args.database.now c.args.place c.in-Some.item.now c.is_set-same.result there c.is_set-same.ensures.0
    c.is_set-same.ensures.1
