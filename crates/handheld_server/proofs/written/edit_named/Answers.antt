use Rattle.std.proofs.Common.{rules}
use Rattle.std.specs.Prelude.{IsSome}
use Rattle.pdb_values.specs.NamedDatabases.{database_of}
use Rattle.handheld_server.proofs.RecordLaws.{record_touches}
use Rattle.handheld_server.proofs.written.edit_named.Goals as goal

pub returns-in-Ok-clause-files : goal.returns-in-Ok-clause-files
returns-in-Ok-clause-files g c =
    let there : IsSome (database_of c.args.name.now c.args.store.now.databases) = search rules in
    record_touches g.F.Folder.contents c.args.name.now c.in-Ok.given (record {
      category = c.in-Record.category;
      secret = c.in-Record.secret;
      bytes = c.in-Record.bytes.now;
    }) c.args.store.now c.write_record.new.self there c.in-Ok.ensures.written c.in-Ok.ensures.files
