-- No session over a handheld of ours stops for a refusal, nor for a reply that can't be read.
use Rattle.std.proofs.Common.{ℕ, zero, suc, List, [], ◌∷◌, take}
use Rattle.std.specs.Prelude.{Option, Some, IfErr, Result}
use Rattle.std.specs.Global.{Vec}
use Rattle.std.specs.List.{AllByRecursion}
use Rattle.palm_device.specs.Devices.{Device}
use Rattle.dlp_commands.specs.declared.link.LinkFault.{LinkFault}
use Rattle.desktop_session.specs.declared.fault.SessionFault.TheVariants as session_fault
use Rattle.desktop_session.specs.Acts.{Act, AsksNoId, acted}
use Rattle.desktop_session.specs.Orders.{AreInOrder}
use Rattle.desktop_session.specs.Tellings.{AreSayable}
use Rattle.line_world.specs.Worlds.{WorldValue, world_talk}
use Rattle.session_parts.specs.declared.report.DbReport.{DbReport}
use Rattle.session_parts.specs.declared.stop.Stop.{Stop}
use Rattle.session_parts.specs.declared.stop.Stop.TheVariants as stop
use Rattle.session_plan.specs.Tasks.{Meeting}
use Rattle.sync_session.specs.Outcomes.{IsStopOf}
use Rattle.category_mirror.specs.FilingEnds.{IsFilingStop}
use Rattle.category_mirror.specs.Sides.{Filing}
use Rattle.front_laws.specs.Answered.{IsAnsweredExchange}
use Rattle.front_laws.proofs.AnsweredLaws.{never-refused}
use Rattle.front_laws.proofs.FitLaws.{Fit}
use Rattle.front_laws.proofs.RelabelLaws.{NoAsk}
use Rattle.call_parts.proofs.SpokeLaws.{IsUnrefusedEnd, IsUnrefusedStop}
use Rattle.call_parts.proofs.SaidLaws.{end_never}

-- ---- why a session stopped

module _ {F : Type 0} (fault : WorldValue F → Option LinkFault) (new : WorldValue F)
    (all : AllByRecursion IsAnsweredExchange (world_talk new).exchanges) where
  meeting_stop : (meeting : Meeting) (old : WorldValue F) (why : Stop)
      → IsStopOf (λ (world : WorldValue F). Some (world_talk world)) fault meeting old new why → IsUnrefusedStop why
  meeting_stop meeting old (stop.Session (session_fault.Refused function code)) is =
      never-refused (world_talk new) (session_fault.Refused function code) all is.1
  meeting_stop meeting old (stop.Session (session_fault.BadReply function broken)) is =
      never-refused (world_talk new) (session_fault.BadReply function broken) all is.1
  meeting_stop meeting old (stop.Session session_fault.Down) is = tt
  meeting_stop meeting old (stop.Session (session_fault.OtherUser handheld desktop)) is = tt
  meeting_stop meeting old (stop.Session session_fault.TooManyUsers) is = tt
  meeting_stop meeting old (stop.Session session_fault.NoMemory) is = tt
  meeting_stop meeting old (stop.Limit name) is = tt
  meeting_stop meeting old (stop.NewHandheld name) is = tt
  meeting_stop meeting old stop.DeskFault is = tt

  pub meeting_never : (meeting : Meeting) (old : WorldValue F) (answer : Result (Vec DbReport) Stop)
      → IfErr answer (IsStopOf (λ (world : WorldValue F). Some (world_talk world)) fault meeting old new) → IsUnrefusedEnd answer
  meeting_never meeting old answer is =
      end_never (IsStopOf (λ (world : WorldValue F). Some (world_talk world)) fault meeting old new) (meeting_stop meeting old) answer is

  filing_stop : (filing : Filing) (old : WorldValue F) (why : Stop)
      → IsFilingStop (λ (world : WorldValue F). Some (world_talk world)) fault filing old new why → IsUnrefusedStop why
  filing_stop filing old (stop.Session (session_fault.Refused function code)) is =
      never-refused (world_talk new) (session_fault.Refused function code) all is.1
  filing_stop filing old (stop.Session (session_fault.BadReply function broken)) is =
      never-refused (world_talk new) (session_fault.BadReply function broken) all is.1
  filing_stop filing old (stop.Session session_fault.Down) is = tt
  filing_stop filing old (stop.Session (session_fault.OtherUser handheld desktop)) is = tt
  filing_stop filing old (stop.Session session_fault.TooManyUsers) is = tt
  filing_stop filing old (stop.Session session_fault.NoMemory) is = tt
  filing_stop filing old (stop.Limit name) is = tt
  filing_stop filing old (stop.NewHandheld name) is = tt
  filing_stop filing old stop.DeskFault is = tt

  pub filing_never : (filing : Filing) (old : WorldValue F) (answer : Result (Vec DbReport) Stop)
      → IfErr answer (IsFilingStop (λ (world : WorldValue F). Some (world_talk world)) fault filing old new) → IsUnrefusedEnd answer
  filing_never filing old answer is =
      end_never (IsFilingStop (λ (world : WorldValue F). Some (world_talk world)) fault filing old new) (filing_stop filing old) answer is

-- ---- a run by acts

-- acts that may be said fit
pub fit_said : (acts : List Act) (device : Device) → AreSayable acts device → Fit acts
fit_said [] device sayable = tt
fit_said (act ∷ acts) device sayable = (sayable.0.request, fit_said acts (acted act device).1 sayable.1)

-- acts of which none asks for ids
pub none_said : (acts : List Act) → AllByRecursion (λ (one : Act). AsksNoId one.asks) acts → NoAsk acts
none_said [] fixed = tt
none_said (act ∷ acts) fixed = (fixed.0, none_said acts fixed.1)

-- a beginning of acts that keep their order
pub order_taken : (n : ℕ) (acts : List Act) (device : Device) → AreInOrder acts device → AreInOrder (take n acts) device
order_taken zero acts device order = tt
order_taken (suc n) [] device order = tt
order_taken (suc n) (act ∷ acts) device order = (order.0, order_taken n acts (acted act device).1 order.1)
