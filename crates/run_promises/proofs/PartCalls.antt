-- What took no part in a call is read whole by the next one; and a life begins anew behind one that ended.
use Rattle.std.proofs.Common.{◌≡◌, ◌⊎◌, ◌∙◌, inl, inr, ap, refl, sym, subst, ℕ, List}
use Rattle.std.specs.Prelude.{IfSome, IsSome, Option, Some}
use Rattle.std.specs.Option.{option_map}
use Rattle.hs_folders.specs.FileMaps.{FileMap}
use Rattle.pdb_values.specs.declared.user.UserInfo.{UserInfo}
use Rattle.handheld_files.specs.Openings.{HoldsAll, Stands}
use Rattle.desk_journal.specs.Overlays.{finished}
use Rattle.desk_store.specs.Desks.{IsDesk}
use Rattle.desk_store.specs.Shelves.{SlotValue, slot_at}
use Rattle.session_plan.specs.Merges.{merged_device, merged_slot, merged_slots}
use Rattle.session_plan.specs.Tasks.{Meeting, slot_of}
use Rattle.session_plan.specs.Users.{done_of}
use Rattle.front_laws.specs.Parts.{IsReadAnew, TakesNoPart}
use Rattle.front_laws.proofs.PartLaws.{read-anew}
use Rattle.front_laws.proofs.SlotLaws.{merged-picked, merged-seated, picked-near}
use Rattle.call_parts.specs.Causes.{ByEnd}
use Rattle.call_parts.specs.SessionCalls.{SentNothing}
use Rattle.call_parts.specs.Undisturbed.{AreGood}
use Rattle.call_parts.specs.declared.report.SessionEnd.{SessionEnd}
use Rattle.call_parts.specs.declared.report.SessionEnd.TheVariants.{Ended, NotStarted, Stopped}
use Rattle.cmd_session.specs.Meetings.{Meets}
use Rattle.cmd_session.specs.Ends.{StoppedBefore, StoppedBehind}
use Rattle.cmd_session.specs.Runs.{SessionRan, run_command}
use Rattle.run_promises.specs.Again.{AreTold}
use Rattle.run_promises.specs.RunCalls.{IsAnsweredRun, RunCall}
use Rattle.run_promises.specs.Lives.{BeginsAnew, LiveCall, RanBetween, RunsBehind, Sides, StandForSides}
use Rattle.run_promises.proofs.AgainCalls.{ran-of, session_in}
use Rattle.run_promises.proofs.AgainLaws.{Ran, ended-behind, given_in, seated-behind}
use Rattle.run_promises.proofs.LeftGoodLaws.{left-good, rows-few}
use Rattle.run_promises.proofs.LifeCalls.{ended-life, has-few}
use Rattle.run_promises.proofs.OneLaws.{same_handheld, told_slots}

some_told : {told : Option FileMap} {held : FileMap} → told ≡ Some held → IsSome told
some_told is = subst IsSome (sym is) refl

merged-user : (m : Meeting) (given : List ℕ) → ((merged_device m given).user.user ≡ (done_of m).user) × ((merged_device m given).user.name ≡ (done_of m).name)
unfolding merged_device
merged-user m given = (refl, refl)

module _ (call : RunCall) (did : IsAnsweredRun call) (good : AreGood call.before)
    (session : SessionRan call.run call.before call.after call.status call.report) (is : call.report.end ≡ Ended) where
  abbrev ran : Ran
  ran = ran-of call session

  abbrev m : Meeting
  m = session.meeting

  next-read : (next : RunCall) (second : Meeting) (name : List ℕ) → RunsBehind call next second → TakesNoPart m name → IsReadAnew second name
  next-read next second name behind none =
      let given = given_in ran in
      let ended = ran.left.ended is in
      let after = left-good call did good in
      let holds = subst (λ (told : Option FileMap). IfSome told (λ held. HoldsAll held second.device.databases second.device.user)) behind.palm
      behind.meets.handheld in
      let one = same_handheld call.after.palm.contents (merged_device m given) second.device (some_told after.handheld.is) ended.handheld holds in
      let desk = subst (λ (told : Option FileMap). IsDesk (option_map finished told) second.slots) behind.desk behind.meets.desktop in
      let stands = ended-behind ran ended in
      let slots : second.slots ≡ merged_slots m given = told_slots call.after.desk.contents (some_told after.desktop.is) stands.stands desk in
      let merged = merged-user m given in
      let user : (second.device.user.user ≡ (done_of m).user) × (second.device.user.name ≡ (done_of m).name) =
      (ap (λ (u : UserInfo). u.user) one.user_is ∙ merged.0, ap (λ (u : UserInfo). u.name) one.user_is ∙ merged.1) in
      let asks : second.device.user.user ≡ 0 → second.wishes.user.name ≡ m.wishes.user.name =
      λ none. behind.meets.asked.user ∙ behind.asks none ∙ sym session.meets.asked.user in
      let picked = merged-seated m second given session.meets.desktop.formed (seated-behind ran stands) behind.seated session.meets.picked
      behind.meets.picked asks slots (inr user) in
      let slot : slot_of second ≡ merged_slot m given =
      (λ k. slot_at (slots k) (picked k)) ∙ merged-picked m given (picked-near m m.wishes.user session.meets.picked) in
      read-anew m second given name ran.left.sound (has-few m (rows-few good.desktop session.meets.desktop)) none (ap (λ (s : SlotValue). s.parted) slot)

pub parted-next : (call : RunCall) → IsAnsweredRun call → AreGood call.before → call.report.end ≡ Ended
    → (first : Meeting) × Meets call.run call.before first
    × ((next : RunCall) (second : Meeting) (name : List ℕ) → RunsBehind call next second → TakesNoPart first name → IsReadAnew second name)
parted-next call did good is =
    let session = session_in call is did in
    (session.meeting, session.meets, next-read call did good session is)

pub life-anew : (one : LiveCall) → RanBetween one → one.call.report.end ≡ Ended
    → (meeting : Meeting) × Meets one.call.run one.call.before meeting × BeginsAnew one meeting
life-anew one ran is =
    let session = session_in one.call is ran.answered in
    let own = ran-of one.call session in
    let ended = own.left.ended is in
    (session.meeting, session.meets, record { each = ended-life one ran session (seated-behind own (ended-behind own ended)) ended })

-- ---- what a call leaves

-- a session leaves the handheld behind its last step, and the slots as they were, or merged
session-sides : (call : RunCall) (name : List ℕ) → AreGood call.after → (session : SessionRan call.run call.before call.after call.status call.report)
    → StoppedBefore session.meeting call.before.desk call.after.desk call.report ⊎ StoppedBehind session.meeting call.after.desk call.report
    → (after : Sides) × StandForSides call.after after
session-sides call name good session ends = elim ends [
  | inl before ↦ (
    record { device = (ran-of call session).line.last; slots = session.meeting.slots; name = name },
    record {
      tells = tells;
      handheld = (ran-of call session).line.stands;
      desktop = subst (λ (told : Option FileMap). IsDesk told session.meeting.slots) (sym before.stands) session.meets.desktop;
    },
  )
  | inr behind ↦ (
    record { device = (ran-of call session).line.last; slots = merged_slots session.meeting (given_in (ran-of call session)); name = name },
    record { tells = tells; handheld = (ran-of call session).line.stands; desktop = behind.stands },
  )
]
  where
    tells : AreTold call.after
    tells = record { palm = some_told good.handheld.is; desk = some_told good.desktop.is }

pub sides-left : (call : RunCall) (before : Sides) → IsAnsweredRun call → AreGood call.before → StandForSides call.before before
    → (after : Sides) × StandForSides call.after after
sides-left call before did good stands = by call.report.end refl (session_in call refl did)
  where
    after : AreGood call.after
    after = left-good call did good

    by : (end : SessionEnd) → call.report.end ≡ end
        → ByEnd end (SentNothing (run_command call.run) call.before call.after call.status call.report)
        (SessionRan call.run call.before call.after call.status call.report)
        → (after : Sides) × StandForSides call.after after
    by NotStarted is sent = (
      before,
      record {
        tells = record { palm = some_told after.handheld.is; desk = some_told after.desktop.is };
        handheld = subst (λ (told : Option FileMap). Stands told before.device.databases before.device.user) (sym sent.handheld.contents)
            stands.handheld;
        desktop = subst (λ (told : Option FileMap). IsDesk told before.slots) (sym sent.desktop.stands.stands) stands.desktop;
      },
    )
    by Stopped is session = session-sides call before.name after session ((ran-of call session).left.stopped is)
    by Ended is session = let ran = ran-of call session in session-sides call before.name after session (inr (ended-behind ran (ran.left.ended is)))
