use Rattle.std.proofs.Common.{◌≡◌, Some, false, rules, true}
use Rattle.palm_device.specs.Handles.{Base, base_at}
use Rattle.dlp_commands.proofs.ReachedLaws.{reset_done, reset_unfit}
use Rattle.dlp_commands.specs.Holding.{on_records}
use Rattle.dlp_commands.specs.Reached.{with_index}
use Rattle.handheld_server.proofs.server.Server.reset_index.Goals as goal

pub returns-then-not-fits-clause-done : goal.returns-then-not-fits-clause-done
returns-then-not-fits-clause-done g c number =
    let base : Base = record { opened = c.in-Some.field-0-0.now; database = c.in-Some.database.now } in
    let there : base_at c.args.self.now.device c.args.handle ≡ Some base = search rules in
    let unfit : on_records c.in-Some.database.now ≡ false = search rules in
    reset_unfit c.args.self.now.device number c.args.handle base there unfit

pub returns-clause-done : goal.returns-clause-done
returns-clause-done g c number =
    let base : Base = record { opened = c.in-Some.field-0-0.now; database = c.in-Some.database.now } in
    let there : base_at c.args.self.now.device c.args.handle ≡ Some base = search rules in
    let suits : on_records c.in-Some.database.now ≡ true = search rules in
    let last : c.set_index.new.self.device ≡ with_index c.args.self.now.device c.args.handle 0 = search rules in
    rw last (reset_done c.args.self.now.device number c.args.handle base there suits)
