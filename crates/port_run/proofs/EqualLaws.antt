-- A session over a cable that ended leaves the same on both sides.
use Rattle.std.proofs.Common.{◌≡◌, ◌≤◌, ◌+◌, ℕ, List, Option, Some, None, length, map, sym, subst, ap, ◌∙◌, arith}
use Rattle.std.specs.Prelude.{IfSome, filter, replicate}
use Rattle.palm_device.specs.Devices.{Device}
use Rattle.dlp_commands.specs.Changes.{changes}
use Rattle.desk_store.specs.Shelves.{SlotValue, slot_at}
use Rattle.desktop_session.specs.Acts.{text}
use Rattle.device_stream.specs.Hands.{Hand}
use Rattle.session_parts.specs.Rests.{IsAtRest}
use Rattle.session_plan.specs.Limits.{first_over}
use Rattle.session_plan.specs.Merges.{merged_device, merged_slots}
use Rattle.session_plan.specs.Tasks.{Meeting}
use Rattle.sync_session.specs.Sessions.{adds_of, after_commit, before_commit, writes_before_commit}
use Rattle.front_laws.specs.Meetings.{holding}
use Rattle.front_laws.specs.Equal.{HasEqualSides}
use Rattle.front_laws.proofs.EqualLaws.{holds-equal}
use Rattle.front_laws.proofs.FrontLaws.{front-behind}
use Rattle.port_laws.specs.Palms.{Palm}
use Rattle.port_run.specs.Links.{Answered, answered, link_over}
use Rattle.run_words.specs.Cables.{Cable}
use Rattle.cmd_status.specs.declared.status.Status.{Status}
use Rattle.call_parts.specs.LineRuns.{write_count}
use Rattle.call_parts.specs.Told.{FolderTold}
use Rattle.call_parts.specs.declared.report.SessionEnd.TheVariants.{Ended}
use Rattle.call_parts.proofs.EndLaws.{count-append}
use Rattle.front_laws.proofs.RequestLaws.{no-limit, parts-are, prefix-length, writes-before}
use Rattle.front_laws.proofs.SlotLaws.{merged-picked, picked-near}
use Rattle.port_run.specs.Ends.{BothLeft, EndedSession, given_by}
use Rattle.port_run.specs.Equal.{EndsEqual}
use Rattle.port_run.specs.Syncs.{SessionRan}
use Rattle.port_run.specs.Told.{SyncTold}
use Rattle.port_run.specs.declared.synced.CableReport.{CableReport}
use Rattle.port_run.proofs.TalkedLaws.{performed-begins}
use Rattle.call_parts.proofs.EndLaws.{prefix-on}

-- all writes were made
all-written : {meeting : Meeting} {hand : Hand} {desk_after : FolderTold} {report : CableReport} → EndedSession meeting hand desk_after report
    → writes_before_commit meeting ≤ write_count hand.performed
unfolding write_count
all-written {meeting} {hand} ended =
    let none = replicate (adds_of meeting) 0 in
    let before = map text (before_commit meeting none) in
    let after = map text (after_commit meeting) in
    let sum : length (filter changes hand.performed) ≡ length (filter changes before) + length (filter changes after) =
    ap (λ (l : List (List ℕ)). length (filter changes l)) (ended.performed ∙ sym (parts-are meeting none)) ∙ count-append before after in
    let first = writes-before meeting none in
    omega (arith, sum, first)

module _ {cable : Cable} {device : Device} {after : Option Palm} {desk desk_after : FolderTold} {said : Answered} {report : CableReport}
    (both : BothLeft cable device after desk desk_after said report) (ended : EndedSession both.meeting both.palm.hand desk_after report) where
  none-over : first_over both.meeting ≡ None
  none-over =
      let none = replicate (adds_of both.meeting) 0 in
      let begins = performed-begins both.left.ran in
      let parts : length (map text (before_commit both.meeting none)) ≤ length both.palm.hand.performed =
      prefix-length (record { rest = map text (after_commit both.meeting); is = parts-are both.meeting none ∙ sym ended.performed }) in
      no-limit both.meeting none both.palm.hand.performed (first_over both.meeting) parts (λ some. prefix-on begins (both.left.issued.over some))

  pub both-equal : EndsEqual cable device after desk desk_after
  both-equal =
      let m = both.meeting in
      let hand = both.palm.hand in
      let given = given_by hand in
      let stands = front-behind m (write_count hand.performed) given hand.device both.left.sound none-over both.left.front (all-written ended) in
      record {
        meeting = m;
        meets = both.meets;
        palm = both.palm;
        palm_is = both.palm_is;
        given = given;
        desktop = ended.desktop;
        each = λ name active shown. subst (λ (d : Device). HasEqualSides (holding d (slot_at (merged_slots m given) m.picked) name)) (sym ended.handheld)
            (subst (λ (slot : SlotValue). HasEqualSides (holding (merged_device m given) slot name))
            (sym (merged-picked m given (picked-near m m.wishes.user both.meets.picked)))
            (holds-equal m given name both.left.sound active shown (stands.free name active)));
      }

pub ends-equal : (cable : Cable) (before after : SyncTold) (status : Status) (report : CableReport) → (ran : SessionRan cable before after status report)
    → report.end ≡ Ended → IfSome before.port.palm (λ (palm : Palm). IsAtRest palm.hand.device
    → EndsEqual cable palm.hand.device after.port.palm before.desk after.desk)
ends-equal cable before after status report ran end = go before.port.palm ran.both where
  go : (told : Option Palm)
      → IfSome told (λ (palm : Palm). IsAtRest palm.hand.device
      → BothLeft cable palm.hand.device after.port.palm before.desk after.desk (answered (link_over ran.opened) ran.link.last ran.answer) report)
      → IfSome told (λ (palm : Palm). IsAtRest palm.hand.device
      → EndsEqual cable palm.hand.device after.port.palm before.desk after.desk)
  go None both = tt
  go (Some palm) both = λ rests. let left = both rests in both-equal left (left.left.ended end)
