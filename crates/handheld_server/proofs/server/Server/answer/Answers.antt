-- The request is what it was matched as.
use Rattle.std.proofs.Common.{◌≡◌, refl, rules}
use Rattle.dlp_replies.specs.Frames.{reply_text}
use Rattle.dlp_replies.specs.ReplyValues as reply
use Rattle.palm_device.specs.Handles.{no_handles}
use Rattle.dlp_commands.specs.DeviceSteps.{tried}
use Rattle.dlp_commands.specs.UserFunctions.{system_reply, user_reply}
use Rattle.handheld_server.proofs.server.Server.answer.Goals as goal

pub returns-in-ReadUserInfo-clause-done : goal.returns-in-ReadUserInfo-clause-done
unfolding tried
returns-in-ReadUserInfo-clause-done g c free =
    let out : c.write_reply.new.out ≡ reply_text (user_reply c.args.self.now.device.user) = search rules in
    rw (c.in-ReadUserInfo.is, out) refl

pub returns-in-ReadSysInfo-clause-done : goal.returns-in-ReadSysInfo-clause-done
unfolding tried
returns-in-ReadSysInfo-clause-done g c free =
    let out : c.write_reply-in-ReadSysInfo.new.out ≡ reply_text system_reply = search rules in
    rw (c.in-ReadSysInfo.is, out) refl

pub returns-in-ReadSysInfoFor-clause-done : goal.returns-in-ReadSysInfoFor-clause-done
unfolding tried
returns-in-ReadSysInfoFor-clause-done g c free =
    let out : c.write_reply-in-ReadSysInfoFor.new.out ≡ reply_text system_reply = search rules in
    rw (c.in-ReadSysInfoFor.is, out) refl

pub returns-in-ReadDbList-clause-done : goal.returns-in-ReadDbList-clause-done
unfolding tried
returns-in-ReadDbList-clause-done g c free = rw c.in-ReadDbList.is c.list.ensures

pub returns-in-OpenDb-clause-done : goal.returns-in-OpenDb-clause-done
unfolding tried
returns-in-OpenDb-clause-done g c free = rw (c.in-OpenDb.is, c.put_handle.ensures) (c.open-answer.ensures.done c.args.number)

pub returns-in-CloseDb-clause-done : goal.returns-in-CloseDb-clause-done
unfolding tried
returns-in-CloseDb-clause-done g c free = rw (c.in-CloseDb.is, c.put_done.ensures) (c.close-answer.ensures.done c.args.number)

pub returns-in-ReadNextModifiedRec-clause-done : goal.returns-in-ReadNextModifiedRec-clause-done
unfolding tried
returns-in-ReadNextModifiedRec-clause-done g c free = rw c.in-ReadNextModifiedRec.is c.next.ensures.done

pub returns-in-ResetRecordIndex-clause-done : goal.returns-in-ResetRecordIndex-clause-done
unfolding tried
returns-in-ResetRecordIndex-clause-done g c free =
    rw (c.in-ResetRecordIndex.is, c.put_done-in-ResetRecordIndex.ensures) (c.reset_index-answer.ensures.done c.args.number)

pub returns-in-AddSyncLogEntry-clause-done : goal.returns-in-AddSyncLogEntry-clause-done
unfolding tried
returns-in-AddSyncLogEntry-clause-done g c free =
    let out : c.write_reply-in-AddSyncLogEntry.new.out ≡ reply_text reply.AddSyncLogEntry = search rules in
    rw (c.in-AddSyncLogEntry.is, out) refl

pub returns-in-OpenConduit-clause-done : goal.returns-in-OpenConduit-clause-done
unfolding tried
returns-in-OpenConduit-clause-done g c free =
    let out : c.write_reply-in-OpenConduit.new.out ≡ reply_text reply.OpenConduit = search rules in
    rw (c.in-OpenConduit.is, out) refl

pub returns-in-EndOfSync-clause-done : goal.returns-in-EndOfSync-clause-done
unfolding tried
returns-in-EndOfSync-clause-done g c free =
    let out : c.write_reply-in-EndOfSync.new.out ≡ reply_text reply.EndOfSync = search rules in
    let closed : c.close_all.new.self ≡ no_handles = search rules in
    rw (c.in-EndOfSync.is, out, closed) (search rules)
