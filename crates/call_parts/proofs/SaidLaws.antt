-- What a report tells of a world that was fresh.
use Rattle.std.proofs.Common.{◌≡◌, ◌∙◌, ap, refl, sym, subst, arith, ℕ, List, [], ◌∷◌, length, ◌≤◌, zero, suc, take}
use Rattle.std.specs.Prelude.{Option, Result, Ok, Err, IfErr}
use Rattle.std.specs.Global.{Vec}
use Rattle.std.specs.List.{flat_map, AllByRecursion}
use Rattle.palm_device.specs.Devices.{Device}
use Rattle.dlp_commands.specs.Changes.{given_in}
use Rattle.dlp_commands.specs.DeviceRuns.{Exchange, exchanged, DeviceRun}
use Rattle.palm_device.specs.Bounds.{IsBounded}
use Rattle.palm_device.specs.Handles.{no_handles}
use Rattle.handheld_files.specs.Openings.{AreKept, Stands}
use Rattle.handheld_files.proofs.BoundLaws.{opened-device}
use Rattle.desktop_session.specs.Says.{IsPrefix}
use Rattle.line_world.specs.Logs.{LogValue, no_log}
use Rattle.line_world.specs.Worlds.{IsLog, WorldValue, world_talk}
use Rattle.session_parts.specs.Rests.{IsAtRest}
use Rattle.session_parts.specs.declared.report.DbReport.{DbReport}
use Rattle.session_parts.specs.declared.stop.Stop.{Stop}
use Rattle.call_parts.specs.LineRuns.{exchanges_in, log_in, write_count, LineRan, TellsWorld}
use Rattle.call_parts.specs.Told.{FolderTold}
use Rattle.call_parts.specs.declared.report.Report.{Report}
use Rattle.line_script.specs.Rules.{RuleValue}
use Rattle.call_parts.proofs.FrontLaws.{performed-begins}
use Rattle.call_parts.proofs.SpokeLaws.{IsUnrefusedEnd, IsUnrefusedStop}
use Rattle.palm_device.proofs.BoundLaws.{AllByRecursion-take}
use Rattle.std.proofs.lemmas.Grind.{common_steps}
use Rattle.line_world.specs.declared.down.Down.{Down}
use Rattle.call_parts.specs.Causes.{IsCutShort, down_status}
use Rattle.call_parts.specs.Whole.{StopsAnswered}

-- the ids that these exchanges gave
abbrev pub ids_by : List Exchange → List ℕ
ids_by exchanges = flat_map (λ (exchange : Exchange). given_in exchange.request exchange.reply) exchanges

-- what a report tells of a world that was fresh, as far as a session's end needs it
pub record Tells {F : Type 0} (old new : WorldValue F) (palm_after : FolderTold) (report : Report) : Type 0 where
  pub silent : old.log ≡ no_log
  pub is_log : IsLog new.log new.answered
  pub said : log_in report ≡ new.log
  pub given : (log_in report).given ≡ ids_by (exchanges_in report)
  pub writes : report.writes ≡ write_count (log_in report).performed
  pub stands : Stands palm_after.contents new.server.device.databases new.server.device.user

-- an opened handheld, on which nothing is open
pub opened_rests : {device : Device} → AreKept device.databases → IsBounded device → device.handles ≡ no_handles → IsAtRest device
opened_rests {device} kept bounded closed = grind (arith, opened-device device.databases device.user kept)

-- the exchanges of fewer requests are the first of those of more
exchanged-take : (n m : ℕ) (requests replies : List (List ℕ)) → n ≤ m
    → exchanged (take n requests) (take n replies) ≡ take n (exchanged (take m requests) replies)
exchanged-take zero m requests replies few = refl
exchanged-take (suc n) zero requests replies few = absurd (omega (arith, few))
exchanged-take (suc n) (suc m) [] replies few = refl
exchanged-take (suc n) (suc m) (x ∷ xs) [] few = refl
exchanged-take (suc n) (suc m) (x ∷ xs) (y ∷ ys) few =
    ap (λ (es : List Exchange). let one : Exchange = record { request = x; reply = y } in one ∷ es) (exchanged-take n m xs ys (omega (arith, few)))

-- what holds of each exchange that a report tells holds of each of the world's talk
pub all-talked : {F : Type 0} (P : Exchange → Type 0) (world : WorldValue F) {report : Report} → TellsWorld world report
    → AllByRecursion P (exchanges_in report) → AllByRecursion P (world_talk world).exchanges
all-talked P world {report} tells all =
    let replies = world.log.replies in
    let said : exchanges_in report ≡ exchanged (take (length replies) world.log.issued) replies =
    ap (λ (l : LogValue). exchanged l.performed l.replies) tells.said
    ∙ ap (λ (requests : List (List ℕ)). exchanged requests replies) tells.log.performed_is in
    subst (AllByRecursion P) (sym (exchanged-take world.answered (length replies) world.log.issued replies tells.log.replied))
    (AllByRecursion-take P world.answered (exchanged (take (length replies) world.log.issued) replies) (subst (AllByRecursion P) said all))

-- each stop that may come is no refusal, so the end is none
pub end_never : (P : Stop → Type 0) → ((why : Stop) → P why → IsUnrefusedStop why) → (answer : Result (Vec DbReport) Stop) → IfErr answer P
    → IsUnrefusedEnd answer
end_never P each (Ok made) is = tt
end_never P each (Err why) is = each why is

-- what holds of each exchange of a run by these requests holds of those that a report tells
pub run-says : (P : Exchange → Type 0) {whole : List (List ℕ)} {rules : List RuleValue} {device : Device} {before after : FolderTold} {report : Report}
    → (line : LineRan rules device before after report) → IsPrefix (log_in report).issued whole
    → ((count : ℕ) (replies : List (List ℕ)) (last : Device) → DeviceRun device (take count whole) replies last
    → AllByRecursion P (exchanged (take count whole) replies)) → AllByRecursion P (exchanges_in report)
run-says P {whole} {device = device} {report = report} line prefix says =
    let replies = (log_in report).replies in
    let same = performed-begins line prefix in
    subst (λ (performed : List (List ℕ)). AllByRecursion P (exchanged performed replies)) (sym same)
    (says (length replies) replies line.last (subst (λ (performed : List (List ℕ)). DeviceRun device performed replies line.last) same line.ran))

-- a line that is down answered nothing
pub never_down : (cause : Option Down) → StopsAnswered (down_status cause) → ⊥
never_down cause is = grind (arith, common_steps)

-- and it cut the session short
pub down_cut : (cause : Option Down) → IsCutShort (down_status cause)
down_cut cause = grind (arith, common_steps)
