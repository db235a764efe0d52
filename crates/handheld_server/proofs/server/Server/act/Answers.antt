-- The request is what it was matched as.
use Rattle.std.proofs.Common.{◌≡◌, refl, rules, true}
use Rattle.dlp_requests.specs.Views.{request_value}
use Rattle.dlp_commands.specs.Asked.{AsksToWrite}
use Rattle.dlp_commands.specs.Changes.{is_among, writing_forms}
use Rattle.dlp_commands.specs.DeviceSteps.{tried}
use Rattle.dlp_commands.specs.Writings.{writing_value}
use Rattle.handheld_server.proofs.ServeLaws.{alone_acts, writing_acts, writing_changes, writing_other}
use Rattle.handheld_server.proofs.server.Server.act.Goals as goal

pub returns-in-Some-clause-acts : goal.returns-in-Some-clause-acts
returns-in-Some-clause-acts g c =
    let asks : AsksToWrite (request_value c.args.asked.now) c.in-Some.handle (writing_value c.in-Some.writing) = search rules in
    writing_acts c.write.result c.args.self.now.device c.write.new.self.device c.args.number c.in-Some.handle (request_value c.args.asked.now)
    (writing_value c.in-Some.writing) c.write.new.out asks c.write.ensures.acts

pub returns-in-Some-clause-files : goal.returns-in-Some-clause-files
returns-in-Some-clause-files g c =
    let writes : is_among writing_forms c.args.number ≡ true = search rules in
    rw (writing_other c.args.number c.write.new.out writes) c.write.ensures.files

pub returns-in-Some-clause-quiet : goal.returns-in-Some-clause-quiet
returns-in-Some-clause-quiet g c quiet =
    let writes : is_among writing_forms c.args.number ≡ true = search rules in
    let changes = writing_changes c.args.number writes in
    absurd cc

pub returns-in-CreateDb-clause-acts : goal.returns-in-CreateDb-clause-acts
unfolding tried
returns-in-CreateDb-clause-acts g c =
    rw c.in-CreateDb.is (alone_acts c.create.result c.args.self.now.device c.create.new.self.device c.args.number _ _ c.create.new.out tt refl
    c.create.ensures.done)

pub returns-in-WriteUserInfo-clause-acts : goal.returns-in-WriteUserInfo-clause-acts
unfolding tried
returns-in-WriteUserInfo-clause-acts g c =
    rw c.in-WriteUserInfo.is (alone_acts c.write_user.result c.args.self.now.device c.write_user.new.self.device c.args.number _ _ c.write_user.new.out tt
    refl c.write_user.ensures.done)

pub returns-in-DeleteDb-clause-acts : goal.returns-in-DeleteDb-clause-acts
unfolding tried
returns-in-DeleteDb-clause-acts g c =
    rw c.in-DeleteDb.is (alone_acts c.delete.result c.args.self.now.device c.delete.new.self.device c.args.number _ _ c.delete.new.out tt refl
    c.delete.ensures.done)
