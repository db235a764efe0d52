-- No install, backup or restore over a handheld of ours stops for a refusal, but for want of room, nor for a reply that can't be read.
use Rattle.std.proofs.Common.{◌≡◌, ◌∙◌, ap, refl, sym, subst, inl, inr, ◌⊎◌, ℕ, zero, suc, false, List, [], ◌∷◌, ◌++◌, map, take}
use Rattle.std.specs.Prelude.{◌==◌, ◌&&◌, Option, Some, None, IfErr, Result, Ok}
use Rattle.std.specs.Global.{Vec}
use Rattle.std.specs.List.{AllByRecursion}
use Rattle.pdb_values.specs.Databases.{DatabaseValue}
use Rattle.palm_device.specs.Bounds.{IsBoundedDatabase}
use Rattle.palm_device.specs.Devices.{Device}
use Rattle.dlp_requests.specs.Forms.{number_of as number_of_form}
use Rattle.dlp_requests.specs.RequestReading.{request_at}
use Rattle.dlp_requests.specs.RequestValues.{RequestValue}
use Rattle.dlp_replies.specs.declared.error_code.ErrorCode.{ErrorCode}
use Rattle.dlp_replies.specs.ReplyReading.{reply_at}
use Rattle.dlp_commands.specs.declared.link.LinkFault.{LinkFault}
use Rattle.dlp_commands.specs.DeviceRuns.{DeviceRun, Exchange, exchanged}
use Rattle.dlp_commands.specs.DeviceSteps.{function_number}
use Rattle.dlp_commands.specs.Talks.{Talk}
use Rattle.desktop_session.specs.declared.fault.SessionFault.{SessionFault}
use Rattle.desktop_session.specs.Acts.{Act, acted, text}
use Rattle.desktop_session.specs.Lasts.{IsBroken, IsRefusal, LastSays}
use Rattle.desktop_session.specs.Lists.{Refuses}
use Rattle.desktop_session.specs.Orders.{AreAnswered, AreInOrder, IsAnswered}
use Rattle.desktop_session.specs.Requests.{making}
use Rattle.desktop_session.specs.Says.{IsPrefix}
use Rattle.desktop_session.specs.Tellings.{AreSayable, IsTellable, device_after, exchanges, told}
use Rattle.desktop_session.proofs.ActLaws.{read_back}
use Rattle.desktop_session.proofs.OrderLaws.{order_answered}
use Rattle.desktop_session.proofs.TellLaws.{acted_proper, acted_reads}
use Rattle.line_script.specs.Rules.{RuleValue}
use Rattle.line_world.specs.Worlds.{WorldValue, world_talk}
use Rattle.session_parts.specs.Causes.{IsLater}
use Rattle.session_parts.specs.Rests.{IsAtRest}
use Rattle.session_parts.specs.declared.report.DbReport.{DbReport}
use Rattle.session_parts.specs.declared.stop.Stop.{Stop}
use Rattle.install_backup.specs.Backups.{IsBackupCause}
use Rattle.install_backup.specs.declared.mark.Mark.{Mark}
use Rattle.install_backup.specs.InstallActs.{install_acts}
use Rattle.install_backup.specs.InstallEnds.{IsInstallStop, first_full, until_full}
use Rattle.install_backup.specs.Marks.{marked_greeting}
use Rattle.install_backup.specs.Rooms.{IsNoLimit}
use Rattle.install_backup.proofs.BackupOrder.{IsPlain}
use Rattle.install_backup.proofs.InstallOrder.{IsRefusedLast, install-order, install-refused, install-until_plain, install_session_plain}
use Rattle.front_laws.specs.Answered.{IsAnsweredExchange}
use Rattle.front_laws.proofs.AnsweredLaws.{never-refused}
use Rattle.front_laws.proofs.FitLaws.{Fit, FitsOne}
use Rattle.front_laws.proofs.FrontLaws.{take-map}
use Rattle.front_laws.proofs.OrderRuns.{plain-answered, plain-said}
use Rattle.front_laws.proofs.RelabelLaws.{NoAsk}
use Rattle.call_parts.specs.LineRuns.{LineRan, exchanges_in, log_in}
use Rattle.call_parts.specs.Told.{FolderTold}
use Rattle.call_parts.specs.declared.report.Report.{Report}
use Rattle.call_parts.proofs.SpokeLaws.{IsUnrefusedEnd, IsUnrefusedStop}
use Rattle.palm_device.proofs.BoundLaws.{AllByRecursion-take}
use Rattle.call_parts.proofs.SaidLaws.{end_never, run-says}
use Rattle.dlp_requests.specs.Forms as form
use Rattle.dlp_replies.specs.ReplyValues as reply
use Rattle.desktop_session.specs.declared.fault.SessionFault.TheVariants as session_fault
use Rattle.session_parts.specs.declared.stop.Stop.TheVariants as stop

later_never : (talk : Talk) (fault : Option LinkFault) (cause : SessionFault) → AllByRecursion IsAnsweredExchange talk.exchanges
    → IsLater (Some talk) fault cause → IsUnrefusedStop (stop.Session cause)
later_never talk fault (session_fault.Refused function code) all later =
    never-refused talk (session_fault.Refused function code) all later.1
later_never talk fault (session_fault.BadReply function broken) all later =
    never-refused talk (session_fault.BadReply function broken) all later.1
later_never talk fault session_fault.Down all later = tt
later_never talk fault (session_fault.OtherUser handheld desktop) all later = tt
later_never talk fault session_fault.TooManyUsers all later = tt
later_never talk fault session_fault.NoMemory all later = tt

module _ {F : Type 0} (fault : WorldValue F → Option LinkFault) (new : WorldValue F)
    (all : AllByRecursion IsAnsweredExchange (world_talk new).exchanges) where
  backup_stop : (why : Stop) → IsBackupCause (λ (world : WorldValue F). Some (world_talk world)) fault new why → IsUnrefusedStop why
  backup_stop (stop.Session cause) is = later_never (world_talk new) (fault new) cause all is
  backup_stop (stop.Limit name) is = tt
  backup_stop (stop.NewHandheld name) is = tt
  backup_stop stop.DeskFault is = tt

  pub backup_never : (answer : Result (Vec DbReport) Stop) → IfErr answer (IsBackupCause (λ (world : WorldValue F). Some (world_talk world)) fault new)
      → IsUnrefusedEnd answer
  backup_never answer is = end_never (IsBackupCause (λ (world : WorldValue F). Some (world_talk world)) fault new) backup_stop answer is

-- the making of a database was refused for want of room
pub record IsRefusedMaking (exchange : Exchange) : Type 0 where
  pub asked : RequestValue
  pub request : request_at exchange.request ≡ Ok asked
  pub makes : asked.form ≡ form.CreateDb
  pub refused : reply_at (function_number asked) exchange.reply ≡ Ok (reply.Refused 0x18 17)

abbrev pub IsAnsweredOrFull : Exchange → Type 0
IsAnsweredOrFull exchange = IsAnsweredExchange exchange ⊎ IsRefusedMaking exchange

all-last : (P : Exchange → Type 0) (before : List Exchange) (x : Exchange) → AllByRecursion P (before ++ x ∷ []) → P x
all-last P [] x all = all.0
all-last P (y ∷ before) x all = all-last P before x all.1

never_limit : (function : ℕ) (code : ErrorCode) → function ≡ 0x18 → 17 ≡ code.0 → IsNoLimit (session_fault.Refused function code) → ⊥
never_limit function code makes is other =
    let same : ((0x18 == 0x18) && (17 == 17)) ≡ false =
    ap (λ n. (n == 0x18) && (17 == 17)) (sym makes) ∙ ap (λ n. (function == 0x18) && (n == 17)) is ∙ other in
    cc

never_full : (talk : Talk) (fault : Option LinkFault) (cause : SessionFault) → AllByRecursion IsAnsweredOrFull talk.exchanges
    → IsLater (Some talk) fault cause → IsNoLimit cause → IsUnrefusedStop (stop.Session cause)
never_full talk fault (session_fault.Refused function code) all later other =
    by (all-last IsAnsweredOrFull last.before last.exchange (subst (AllByRecursion IsAnsweredOrFull) last.is all))
  where
    last : LastSays (IsRefusal function code.0) talk
    last = later.1

    by : IsAnsweredOrFull last.exchange → ⊥
    by (inl answered) =
        let alone : Talk = record talk { exchanges = last.exchange ∷ [] } in
        never-refused alone (session_fault.Refused function code) (answered, tt)
        (record { before = []; exchange = last.exchange; is = refl; asked = last.asked; request = last.request; reads = last.reads })
    by (inr full) =
        let both : Ok last.asked ≡ Ok full.asked = sym last.request ∙ full.request in
        let same : last.asked ≡ full.asked = cc in
        let refusal : IsRefusal function code.0 full.asked (reply_at (function_number full.asked) last.exchange.reply) =
        subst (λ (a : RequestValue). IsRefusal function code.0 a (reply_at (function_number a) last.exchange.reply)) same last.reads in
        let makes : function ≡ 0x18 = refusal.own ∙ ap number_of_form full.makes in
        never_limit function code makes (subst (Refuses code.0) full.refused refusal.refuses) other
never_full talk fault (session_fault.BadReply function broken) all later other =
    by (all-last IsAnsweredOrFull last.before last.exchange (subst (AllByRecursion IsAnsweredOrFull) last.is all))
  where
    last : LastSays (IsBroken function broken) talk
    last = later.1

    by : IsAnsweredOrFull last.exchange → ⊥
    by (inl answered) =
        let alone : Talk = record talk { exchanges = last.exchange ∷ [] } in
        never-refused alone (session_fault.BadReply function broken) (answered, tt)
        (record { before = []; exchange = last.exchange; is = refl; asked = last.asked; request = last.request; reads = last.reads })
    by (inr full) =
        let both : Ok last.asked ≡ Ok full.asked = sym last.request ∙ full.request in
        let same : last.asked ≡ full.asked = cc in
        let broke : IsBroken function broken full.asked (reply_at (function_number full.asked) last.exchange.reply) =
        subst (λ (a : RequestValue). IsBroken function broken a (reply_at (function_number a) last.exchange.reply)) same last.reads in
        absurd (let never = sym full.refused ∙ broke.breaks in cc)
never_full talk fault session_fault.Down all later other = tt
never_full talk fault (session_fault.OtherUser handheld desktop) all later other = tt
never_full talk fault session_fault.TooManyUsers all later other = tt
never_full talk fault session_fault.NoMemory all later other = tt

module _ {F : Type 0} (fault : WorldValue F → Option LinkFault) (mark : Mark) (databases : List DatabaseValue) (device : Device) (old new : WorldValue F)
    (all : AllByRecursion IsAnsweredOrFull (world_talk new).exchanges) where
  install_stop : (why : Stop) → IsInstallStop (λ (world : WorldValue F). Some (world_talk world)) fault mark databases device old new why → IsUnrefusedStop why
  install_stop (stop.Session cause) is = never_full (world_talk new) (fault new) cause all is.0 is.1
  install_stop (stop.Limit name) is = tt
  install_stop (stop.NewHandheld name) is = tt
  install_stop stop.DeskFault is = tt

  pub install_never : (answer : Result (Vec DbReport) Stop)
      → IfErr answer (IsInstallStop (λ (world : WorldValue F). Some (world_talk world)) fault mark databases device old new) → IsUnrefusedEnd answer
  install_never answer is =
      end_never (IsInstallStop (λ (world : WorldValue F). Some (world_talk world)) fault mark databases device old new) install_stop answer is

pub fit_of : (acts : List Act) → AllByRecursion IsPlain acts → Fit acts
fit_of [] plain = tt
fit_of (act ∷ acts) plain = (plain.0.0, fit_of acts plain.1)

pub none_of : (acts : List Act) → AllByRecursion IsPlain acts → NoAsk acts
none_of [] plain = tt
none_of (act ∷ acts) plain = (plain.0.1, none_of acts plain.1)

-- each act is answered, or is the making of a database for which there is no room
abbrev AreAnsweredOrFull : List Act → Device → Type 0
AreAnsweredOrFull [] device = Unit {0}
AreAnsweredOrFull (act ∷ acts) device =
    (IsAnswered act.asks.form (told act device) ⊎ ((act.asks.form ≡ form.CreateDb) × (told act device ≡ reply.Refused 0x18 17)))
    × AreAnsweredOrFull acts (acted act device).1

full_take : (n : ℕ) (acts : List Act) (device : Device) → AreAnsweredOrFull acts device → AreAnsweredOrFull (take n acts) device
full_take zero acts device all = tt
full_take (suc n) [] device all = tt
full_take (suc n) (act ∷ acts) device all = (all.0, full_take n acts (acted act device).1 all.1)

full_last : (front : List Act) (last : Act) (device : Device) → AreAnswered front device → last.asks.form ≡ form.CreateDb
    → told last (device_after front device) ≡ reply.Refused 0x18 17 → AreAnsweredOrFull (front ++ last ∷ []) device
full_last [] last device answered makes full = (inr (makes, full), tt)
full_last (act ∷ front) last device answered makes full =
    (inl answered.0, full_last front last (acted act device).1 answered.1 makes full)

told_full : (acts : List Act) {device : Device} → AreSayable acts device → IsTellable device → AreAnsweredOrFull acts device
    → AllByRecursion IsAnsweredOrFull (exchanges acts device)
unfolding text
told_full [] sayable proper all = tt
told_full (act ∷ acts) {device} sayable proper all =
    (by all.0, told_full acts sayable.1 (acted_proper act device proper sayable.0) all.1)
  where
    by : IsAnswered act.asks.form (told act device) ⊎ ((act.asks.form ≡ form.CreateDb) × (told act device ≡ reply.Refused 0x18 17))
        → IsAnsweredOrFull (record { request = text act; reply = (acted act device).0 })
    by (inl answered) = inl (record {
      asked = act.asks;
      request = read_back act.asks sayable.0.request;
      answer = told act device;
      reply = acted_reads act device proper sayable.0;
      answered = answered;
    })
    by (inr full) = inr (record {
      asked = act.asks;
      request = read_back act.asks sayable.0.request;
      makes = full.0;
      refused = acted_reads act device proper sayable.0 ∙ ap (λ (v : reply.ReplyValue). Ok v) full.1;
    })

-- what a run by these requests says
abbrev RunSays : (Exchange → Type 0) → Device → Device → List (List ℕ) → List (List ℕ) → Type 0
RunSays P old new replies asked = DeviceRun old asked replies new → AllByRecursion P (exchanged asked replies)

-- each but the last is answered, and that one is the making of a database for which there is no room
pub refused-last : (acts : List Act) (count : ℕ) {old : Device} (replies : List (List ℕ)) (reached : Device) → AllByRecursion IsPlain acts
    → IsTellable old → IsRefusedLast acts old → DeviceRun old (take count (map text acts)) replies reached
    → AllByRecursion IsAnsweredOrFull (exchanged (take count (map text acts)) replies)
refused-last acts count {old} replies reached plain proper last =
    let part = take count acts in
    let full : AreAnsweredOrFull acts old =
    subst (λ (zs : List Act). AreAnsweredOrFull zs old) (sym last.is)
    (full_last last.front (making last.head) old (order_answered last.front old last.goes.order) refl
    (ap (told (making last.head)) last.goes.after ∙ last.full)) in
    subst (RunSays IsAnsweredOrFull old reached replies) (sym (take-map text count acts))
    (λ run.
    let said = plain-said part replies reached (AllByRecursion-take FitsOne count acts (fit_of acts plain))
    (none_of part (AllByRecursion-take IsPlain count acts plain)) run in
    subst (AllByRecursion IsAnsweredOrFull) (sym said.0) (told_full part said.1 proper (full_take count acts old full)))

-- each is answered
pub all-answered : (acts : List Act) (count : ℕ) {old : Device} (replies : List (List ℕ)) (reached : Device) → AllByRecursion IsPlain acts
    → IsTellable old → AreInOrder (take count acts) old → DeviceRun old (take count (map text acts)) replies reached
    → AllByRecursion IsAnsweredExchange (exchanged (take count (map text acts)) replies)
all-answered acts count replies reached plain proper order run =
    plain-answered acts count replies reached (fit_of acts plain) (none_of acts plain) proper order run

-- those that are answered are answered, or for want of room not
pub or-full : (es : List Exchange) → AllByRecursion IsAnsweredExchange es → AllByRecursion IsAnsweredOrFull es
or-full [] all = tt
or-full (e ∷ es) all = (inl all.0, or-full es all.1)

module _ {rules : List RuleValue} {device : Device} {before after : FolderTold} {report : Report} (line : LineRan rules device before after report)
    (mark : Mark) (databases : List DatabaseValue) (rests : IsAtRest device) (bounded : AllByRecursion IsBoundedDatabase databases) where
  pub install-said : IsPrefix (log_in report).issued (map text (install_acts mark device.user databases))
      → ((name : List ℕ) → first_full databases device.databases ≡ Some name
      → IsPrefix (log_in report).issued (map text (marked_greeting mark device.user ++ until_full databases device.databases)))
      → AllByRecursion IsAnsweredOrFull (exchanges_in report)
  install-said issued until = by (first_full databases device.databases) refl
    where
      by : (o : Option (List ℕ)) → first_full databases device.databases ≡ o → AllByRecursion IsAnsweredOrFull (exchanges_in report)
      by None none = or-full (exchanges_in report) (run-says IsAnsweredExchange line issued (λ count replies last run.
          all-answered (install_acts mark device.user databases) count replies last (install_session_plain mark device.user databases bounded) rests.proper
          (install-order mark device databases count rests bounded none) run))
      by (Some name) full = run-says IsAnsweredOrFull line (until name full) (λ count replies last run.
          refused-last (marked_greeting mark device.user ++ until_full databases device.databases) count replies last
          (install-until_plain mark device.user databases device.databases bounded) rests.proper
          (install-refused mark device databases name rests bounded full) run)
