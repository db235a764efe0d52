use Rattle.std.proofs.Common.{◌≡◌, ◌++◌, ◌∷◌, [], length, rules, slice_get}
use Rattle.std.specs.Prelude.{IsSome, remove}
use Rattle.palm_device.specs.Records.{with_records}
use Rattle.handheld_store.proofs.PlacedLaws.{last_back}
use Rattle.handheld_store.proofs.placed.append_record.Goals as goal

pub returns-in-Err-clause-stays : goal.returns-in-Err-clause-stays
returns-in-Err-clause-stays g c =
    let pushed : c.push_record.new.self ≡ with_records (c.args.database.now.records ++ c.args.item ∷ []) c.args.database.now = search rules in
    let taken : c.remove_record-written.result ≡ slice_get c.push_record.new.self.records (length c.args.database.now.records) = search rules in
    let rest : IsSome c.remove_record-written.result → c.remove_record-written.new.self
    ≡ with_records (remove c.push_record.new.self.records (length c.args.database.now.records)) c.push_record.new.self = search rules in
    last_back c.args.item c.args.database.now c.push_record.new.self c.remove_record-written.new.self c.remove_record-written.result pushed taken rest
