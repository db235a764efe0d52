use Rattle.std.proofs.Common.{◌≡◌, ◌∙◌, ◌<◌, Some, get_or, length, rules, slice_set, sym}
use Rattle.pdb_values.specs.NamedDatabases.{place_of}
use Rattle.handheld_store.specs.Placed.{with_record}
use Rattle.handheld_store.proofs.KeptLaws.{settled_database}
use Rattle.handheld_store.proofs.PlacedLaws.{AreKept-placed, Follows-placed, Stands-placed, place_within_records, placed_nowhere, placed_was}
use Rattle.handheld_store.proofs.PlacedLaws.{put_at_place, put_is, settled_placed, stands_at, takes_at}
use Rattle.handheld_store.proofs.named.put_record.Goals as goal

pub returns-in_default-clause-put : goal.returns-in_default-clause-put
returns-in_default-clause-put g c = search (rules, placed_nowhere)

pub write_record-requires-clause-records : goal.write_record-requires-clause-records
write_record-requires-clause-records g c =
    let found : place_of c.args.name.now c.args.databases.now.items ≡ Some c.in-Some.at = search rules in
    let within : c.in-Some.at < length c.args.databases.now.items = search rules in
    let there : c.index_mut.result.now ≡ get_or c.args.databases.now.items c.in-Some.at c.index_mut.result.now = search rules in
    (takes_at c.args.id c.args.name.now c.args.databases.now.items c.in-Some.at c.index_mut.result.now found within there c.requires.takes).records

pub write_record-requires-clause-place : goal.write_record-requires-clause-place
write_record-requires-clause-place g c = search (rules, stands_at)

pub write_record-requires-clause-within : goal.write_record-requires-clause-within
write_record-requires-clause-within g c = place_within_records c.args.place c.args.id c.index_mut.result.now.records (write_record-requires-clause-place g c)

pub write_record-requires-clause-room : goal.write_record-requires-clause-room
write_record-requires-clause-room g c =
    let found : place_of c.args.name.now c.args.databases.now.items ≡ Some c.in-Some.at = search rules in
    let within : c.in-Some.at < length c.args.databases.now.items = search rules in
    let there : c.index_mut.result.now ≡ get_or c.args.databases.now.items c.in-Some.at c.index_mut.result.now = search rules in
    (λ none. (takes_at c.args.id c.args.name.now c.args.databases.now.items c.in-Some.at c.index_mut.result.now found within there c.requires.takes).room
    (sym (write_record-requires-clause-place g c) ∙ none))

pub returns-in-Ok-clause-put : goal.returns-in-Ok-clause-put
returns-in-Ok-clause-put g c =
    let databases = c.args.databases.now.items in
    let was = c.index_mut.result.now in
    let new = c.write_record.new.database in
    let found : place_of c.args.name.now databases ≡ Some c.in-Some.at = search rules in
    let within : c.in-Some.at < length databases = search rules in
    let there : was ≡ get_or databases c.in-Some.at was = search rules in
    let made : new ≡ with_record c.args.id c.args.content was = search rules in
    let placed = put_at_place c.args.id c.args.content c.args.name.now databases c.in-Some.at was new found within there made in
    put_is c.args.id c.args.content c.args.name.now databases (slice_set databases c.in-Some.at new) was new placed made

pub returns-in-Ok-clause-kept : goal.returns-in-Ok-clause-kept
returns-in-Ok-clause-kept g c =
    let databases = c.args.databases.now.items in
    let was = c.index_mut.result.now in
    let new = c.write_record.new.database in
    let found : place_of c.args.name.now databases ≡ Some c.in-Some.at = search rules in
    let within : c.in-Some.at < length databases = search rules in
    let there : was ≡ get_or databases c.in-Some.at was = search rules in
    let made : new ≡ with_record c.args.id c.args.content was = search rules in
    let placed = put_at_place c.args.id c.args.content c.args.name.now databases c.in-Some.at was new found within there made in
    let takes = takes_at c.args.id c.args.name.now databases c.in-Some.at was found within there c.requires.takes in
    let settled = settled_placed c.args.place c.args.id c.args.content was new made takes.free
    (settled_database c.args.name.now databases was c.requires.kept
    (placed_was c.args.name.now databases (slice_set databases c.in-Some.at new) was new placed)) in
    AreKept-placed c.args.name.now databases (slice_set databases c.in-Some.at new) was new placed c.requires.kept settled

pub returns-in-Ok-clause-follows : goal.returns-in-Ok-clause-follows
returns-in-Ok-clause-follows g c =
    let databases = c.args.databases.now.items in
    let was = c.index_mut.result.now in
    let new = c.write_record.new.database in
    let found : place_of c.args.name.now databases ≡ Some c.in-Some.at = search rules in
    let within : c.in-Some.at < length databases = search rules in
    let there : was ≡ get_or databases c.in-Some.at was = search rules in
    let made : new ≡ with_record c.args.id c.args.content was = search rules in
    let placed = put_at_place c.args.id c.args.content c.args.name.now databases c.in-Some.at was new found within there made in
    Follows-placed (g.F.Folder.contents c.args.folder.now)
    (g.F.Folder.contents c.write_record.new.folder) c.args.name.now databases (slice_set databases c.in-Some.at new) was new placed c.in-Ok.ensures.follows

pub returns-in-Ok-clause-stands : goal.returns-in-Ok-clause-stands
returns-in-Ok-clause-stands g c = λ user stands.
    let databases = c.args.databases.now.items in
    let was = c.index_mut.result.now in
    let new = c.write_record.new.database in
    let found : place_of c.args.name.now databases ≡ Some c.in-Some.at = search rules in
    let within : c.in-Some.at < length databases = search rules in
    let there : was ≡ get_or databases c.in-Some.at was = search rules in
    let made : new ≡ with_record c.args.id c.args.content was = search rules in
    let placed = put_at_place c.args.id c.args.content c.args.name.now databases c.in-Some.at was new found within there made in
    let takes = takes_at c.args.id c.args.name.now databases c.in-Some.at was found within there c.requires.takes in
    let settled = settled_placed c.args.place c.args.id c.args.content was new made takes.free
    (settled_database c.args.name.now databases was c.requires.kept
    (placed_was c.args.name.now databases (slice_set databases c.in-Some.at new) was new placed)) in
    Stands-placed (g.F.Folder.contents c.args.folder.now) (g.F.Folder.contents c.write_record.new.folder) c.args.name.now databases
    (slice_set databases c.in-Some.at new) was new user placed c.requires.kept settled c.in-Ok.ensures.text c.in-Ok.ensures.follows stands
