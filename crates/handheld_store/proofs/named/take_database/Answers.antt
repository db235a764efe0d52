use Rattle.std.proofs.Common.{◌≡◌, Some, rules}
use Rattle.std.specs.FinMap as finmap
use Rattle.std.specs.Option.{option_map}
use Rattle.pdb_values.specs.NamedDatabases.{database_of, without_named}
use Rattle.folder_files.specs.FileNames.{database_file}
use Rattle.handheld_files.proofs.ChangeLaws.{stands_gone}
use Rattle.handheld_store.proofs.KeptLaws.{AreKept-without_named, Follows-without_named}
use Rattle.handheld_store.proofs.named.take_database.Goals as goal

pub returns-clause-kept : goal.returns-clause-kept
returns-clause-kept g c = search (rules, AreKept-without_named)

pub returns-clause-stands : goal.returns-clause-stands
returns-clause-stands g c =
    λ user stands. let taken : c.remove_database.new.databases.items ≡ without_named c.args.name.now c.args.databases.now.items = search rules in
    let here : database_of c.args.name.now c.args.databases.now.items ≡ Some c.in-Some.database.now = search rules in
    let gone : g.F.Folder.contents c.remove_database_file.new.folder ≡ option_map (λ held. finmap.remove held (database_file c.in-Some.database.now.head))
    (g.F.Folder.contents c.args.folder.now) = search rules in rw taken (stands_gone (g.F.Folder.contents c.args.folder.now)
    (g.F.Folder.contents c.remove_database_file.new.folder) c.args.databases.now.items c.args.name.now c.in-Some.database.now user gone here stands)

pub returns-clause-follows : goal.returns-clause-follows
returns-clause-follows g c =
    let taken : c.remove_database.new.databases.items ≡ without_named c.args.name.now c.args.databases.now.items = search rules in
    let here : database_of c.args.name.now c.args.databases.now.items ≡ Some c.in-Some.database.now = search rules in
    let gone : g.F.Folder.contents c.remove_database_file.new.folder
    ≡ option_map (λ held. finmap.remove held (database_file c.in-Some.database.now.head)) (g.F.Folder.contents c.args.folder.now) = search rules in
    Follows-without_named (g.F.Folder.contents c.args.folder.now) (g.F.Folder.contents c.remove_database_file.new.folder)
    c.args.databases.now.items c.remove_database.new.databases.items c.args.name.now c.in-Some.database.now c.requires.order here taken gone
