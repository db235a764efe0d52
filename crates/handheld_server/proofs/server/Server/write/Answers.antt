use Rattle.std.proofs.Common.{◌≡◌, Some, refl, rules}
use Rattle.pdb_values.specs.NamedDatabases.{database_of}
use Rattle.palm_device.specs.Handles.{opened_at}
use Rattle.dlp_replies.specs.Frames.{reply_text}
use Rattle.dlp_replies.specs.ReplyValues.{Refused}
use Rattle.dlp_commands.specs.Refusals.{code_of}
use Rattle.dlp_commands.specs.Writings.{writing_value}
use Rattle.handheld_server.specs.Writing.{Refuses, Wrote}
use Rattle.handheld_server.proofs.WriteLaws.{acts_as, refused_acts, wrote_acts}
use Rattle.handheld_server.proofs.server.Server.write.Goals as goal
use Rattle.handheld_server.proofs.server.Server.write.Goals.{in-Ok-Ok, in-Ok-Err, in-Err}

pub returns-clause-acts : goal.returns-clause-acts
returns-clause-acts g c =
    let there : opened_at c.args.handle c.args.self.now.device.handles ≡ Some c.in-Some.opened.now = search rules in
    let handles : c.args.self.now.device.handles ≡ c.self.inside.handles = search rules in
    elim c.match-write_named.branch [
      | in-Ok-Ok w ↦ rw (w.result-is, w.out-is) (
          let wrote : Wrote c.in-Some.opened.now.mode (writing_value c.args.writing.now)
          c.in-Some.opened.now.name c.args.self.now.device.databases w.in-Ok-Ok.given c.write_named.new.store.databases = search rules in
          let user : c.args.self.now.device.user ≡ c.write_named.new.store.user = search rules in
          acts_as c.args.self.now.device c.args.number c.args.handle
          _ _ _ c.write_named.new.store.databases c.write_named.new.store.databases c.write_named.new.store.user c.self.inside.handles
          (wrote_acts c.args.self.now.device c.args.number
          c.args.handle w.in-Ok-Ok.given (writing_value c.args.writing.now) c.in-Some.opened.now c.write_named.new.store.databases there wrote)
          w.put_done.ensures refl user handles)
      | in-Ok-Err w ↦ rw (w.result-is, w.out-is) (
          let refuses : Refuses c.in-Some.opened.now.mode (writing_value c.args.writing.now)
          (database_of c.in-Some.opened.now.name c.args.self.now.device.databases) (code_of w.in-Ok-Err.refusal) = search rules in
          let user : c.args.self.now.device.user ≡ c.write_named.new.store.user = search rules in
          let databases : c.args.self.now.device.databases ≡ c.write_named.new.store.databases = search rules in
          let out : w.put_refusal-in-Ok-Err.new.out ≡ reply_text (Refused c.args.number (code_of w.in-Ok-Err.refusal)) =
          search rules in
          acts_as c.args.self.now.device c.args.number c.args.handle
          _ _ _ c.args.self.now.device.databases c.write_named.new.store.databases c.write_named.new.store.user c.self.inside.handles
          (refused_acts c.args.self.now.device c.args.number c.args.handle (code_of w.in-Ok-Err.refusal) (writing_value c.args.writing.now) c.in-Some.opened.now there refuses)
          out databases user handles)
      | in-Err w ↦ rw w.result-is tt
    ]
