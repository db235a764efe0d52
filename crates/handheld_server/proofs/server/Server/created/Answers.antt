use Rattle.std.proofs.Common.{rules, ◌≡◌, None}
use Rattle.pdb_values.specs.NamedDatabases.{database_of, with_new}
use Rattle.palm_device.specs.Blocks.{empty_database}
use Rattle.handheld_store.specs.Files.{FollowsName}
use Rattle.handheld_server.proofs.KeepLaws.{touches_new}
use Rattle.handheld_server.specs.Servers.{store_of}
use Rattle.handheld_server.proofs.server.Server.created.Goals as goal

pub returns-in-Ok-create-clause-files : goal.returns-in-Ok-create-clause-files
returns-in-Ok-create-clause-files g c =
    let head = c.new_head.result in
    let old = store_of c.args.self.now in
    let none : database_of head.name old.databases ≡ None = search rules in
    let made : c.create.new.self.databases ≡ with_new (empty_database head) old.databases = search rules in
    let user : c.create.new.self.user ≡ old.user = search rules in
    let follows : FollowsName g.F.Folder.contents head.name old c.create.new.self = search rules in
    touches_new g.F.Folder.contents old c.create.new.self (empty_database head) none made user follows
