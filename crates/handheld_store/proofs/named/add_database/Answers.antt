use Rattle.std.proofs.Common.{◌≡◌, refl, rules}
use Rattle.std.specs.FinMap as finmap
use Rattle.std.specs.Option.{option_map}
use Rattle.pdb_values.specs.NamedDatabases.{with_new}
use Rattle.pdb_files.specs.Files.{IsFileText, canonical}
use Rattle.palm_device.specs.Blocks.{empty_database}
use Rattle.folder_files.specs.FileNames.{database_file}
use Rattle.handheld_store.proofs.KeptLaws.{AreKept-with_new, Follows-with_new, Stands-with_new, without_named-with_new}
use Rattle.handheld_store.proofs.named.add_database.Goals as goal

pub returns-in-Ok-clause-kept : goal.returns-in-Ok-clause-kept
returns-in-Ok-clause-kept g c = search (rules, AreKept-with_new)

pub returns-in-Ok-clause-stands : goal.returns-in-Ok-clause-stands
returns-in-Ok-clause-stands g c =
    λ user stands. let new = empty_database c.args.head in let added : c.insert_database.new.databases.items ≡ with_new new c.args.databases.now.items =
    search rules in let written : g.F.Folder.contents c.write_file.new.folder
    ≡ option_map (λ held. finmap.insert held (database_file new.head) (canonical new)) (g.F.Folder.contents c.args.folder.now) = search rules in
    let text : IsFileText new (canonical new) = search rules in rw added (Stands-with_new (g.F.Folder.contents c.args.folder.now)
    (g.F.Folder.contents c.write_file.new.folder) c.args.databases.now.items new user written text refl c.requires.kept c.requires.none stands)

pub returns-clause-stays : goal.returns-clause-stays
returns-clause-stays g c = search (rules, without_named-with_new)

pub returns-clause-kept : goal.returns-clause-kept
returns-clause-kept g c = rw (returns-clause-stays g c) c.requires.kept

pub returns-in-Ok-clause-follows : goal.returns-in-Ok-clause-follows
returns-in-Ok-clause-follows g c =
    let new = empty_database c.args.head in
    let added : c.insert_database.new.databases.items ≡ with_new new c.args.databases.now.items = search rules in
    let written : g.F.Folder.contents c.write_file.new.folder
    ≡ option_map (λ held. finmap.insert held (database_file new.head) (canonical new)) (g.F.Folder.contents c.args.folder.now) = search rules in
    Follows-with_new (g.F.Folder.contents c.args.folder.now)
    (g.F.Folder.contents c.write_file.new.folder) c.args.databases.now.items c.insert_database.new.databases.items new c.requires.none added written
