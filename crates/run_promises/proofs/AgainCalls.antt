-- The sessions of calls, one behind another: what each left is what the next one meets.
use Rattle.std.proofs.Common.{◌≡◌, ◌⊎◌, ◌∙◌, ap, refl, sym, subst, inr, ℕ, List, [], ◌∷◌}
use Rattle.std.specs.Prelude.{Option, IfSome}
use Rattle.std.specs.Option.{option_map}
use Rattle.hs_folders.specs.FileMaps.{FileMap}
use Rattle.run_words.specs.Runs.{run_actions}
use Rattle.run_words.specs.UserNames.{wished_name}
use Rattle.handheld_files.specs.Openings.{HoldsAll}
use Rattle.desk_journal.specs.Overlays.{FinishesAs, finished}
use Rattle.desk_store.specs.Desks.{IsDesk}
use Rattle.run_promises.specs.Again.{AllMeet, AllRan, AreTold, DidRun, EndsAsOne, IsRepeat, TakesUp, begun_of, if_begun, last_call}
use Rattle.call_parts.specs.Causes.{ByEnd}
use Rattle.cmd_session.specs.Ends.{StoppedBefore, StoppedBehind}
use Rattle.run_promises.specs.RunCalls.{IsAnsweredRun, RunCall}
use Rattle.call_parts.specs.LineRuns.{log_in}
use Rattle.cmd_session.specs.Meetings.{Meets}
use Rattle.cmd_session.specs.Runs.{SessionRan, run_command}
use Rattle.call_parts.specs.SessionCalls.{SentNothing}
use Rattle.call_parts.specs.Told.{CallTold}
use Rattle.call_parts.specs.declared.report.SessionEnd.{SessionEnd}
use Rattle.call_parts.specs.declared.report.SessionEnd.TheVariants.{Ended, NotStarted, Stopped}
use Rattle.run_promises.proofs.AgainLaws.{AllPrecede, Ran, ended-behind, given_in, last_ran, laters, taken-up}

pub session_in : (call : RunCall) {end : SessionEnd} → call.report.end ≡ end → IsAnsweredRun call
    → ByEnd end (SentNothing (run_command call.run) call.before call.after call.status call.report) (SessionRan call.run call.before call.after call.status call.report)
session_in call is did =
    subst (λ (e : SessionEnd). ByEnd e (SentNothing (run_command call.run) call.before call.after call.status call.report)
    (SessionRan call.run call.before call.after call.status call.report)) is did.ran.shown

abbrev pub ran-of : (call : RunCall) → SessionRan call.run call.before call.after call.status call.report → Ran
ran-of call ran = record {
  rules = ran.rules;
  meeting = ran.meeting;
  before = call.before;
  after = call.after;
  report = call.report;
  picked = ran.meets.picked;
  handheld = ran.meets.handheld;
  desktop = ran.meets.desktop;
  line = ran.talked.spoke.line;
  left = ran.talked.left;
}

-- the sessions of calls
record AreSessions (call : RunCall) (later : List RunCall) : Type 0 where
  first : RunCall
  rest : List RunCall
  begun : begun_of (call ∷ later) ≡ first ∷ rest
  ran : Ran
  others : List Ran
  precede : AllPrecede ran others
  meets : Meets first.run call.before ran.meeting
  own : Meets first.run first.before ran.meeting
  meet : AllMeet first rest (laters ran others)
  told : AreTold ran.before
  palm : ran.before.palm.contents ≡ call.before.palm.contents
  desk : FinishesAs call.before.desk.contents ran.before.desk.contents
  actions : run_actions first.run ≡ run_actions call.run
  slow : first.run.slow ≡ call.run.slow
  user : first.run.user ≡ call.run.user
  last_given : given_in (last_ran ran others) ≡ (log_in (last_call call later).report).given
  last_after : (last_ran ran others).after ≡ (last_call call later).after

-- the last one
last-session : (call : RunCall) → AllRan call [] → AreSessions call []
last-session call all =
    let session = session_in call all.1 all.0.1 in
    let ran = ran-of call session in
    record {
      first = call;
      rest = [];
      begun = ap (λ (end : SessionEnd). if_begun end call []) all.1;
      ran = ran;
      others = [];
      precede = ran.left.ended all.1;
      meets = session.meets;
      own = session.meets;
      meet = tt;
      told = all.0.0;
      palm = refl;
      desk = refl;
      actions = refl;
      slow = refl;
      user = refl;
      last_given = refl;
      last_after = refl;
    }

module _ (call next : RunCall) (later : List RunCall) (did : DidRun call) (repeat : IsRepeat call next) (behind : AreSessions next later) where
  -- a call that sent nothing before the others
  silent-before : call.report.end ≡ NotStarted → SentNothing (run_command call.run) call.before call.after call.status call.report → AreSessions call (next ∷ later)
  silent-before is sent =
      let palm : next.before.palm.contents ≡ call.before.palm.contents = repeat.palm ∙ sent.handheld.contents in
      let desk : FinishesAs call.before.desk.contents next.before.desk.contents =
      ap (λ (told : Option FileMap). option_map finished told) repeat.desk ∙ sent.desktop.stands.stands in
      let device = behind.ran.meeting.device in
      record {
        first = behind.first;
        rest = behind.rest;
        begun = ap (λ (end : SessionEnd). if_begun end call (begun_of (next ∷ later))) is ∙ behind.begun;
        ran = behind.ran;
        others = behind.others;
        precede = behind.precede;
        meets = record {
          handheld = subst (λ (told : Option FileMap). IfSome told (λ held. HoldsAll held device.databases device.user)) palm behind.meets.handheld;
          closed = behind.meets.closed;
          desktop = subst (λ (told : Option FileMap). IsDesk told behind.ran.meeting.slots) desk behind.meets.desktop;
          picked = behind.meets.picked;
          asked = behind.meets.asked;
        };
        own = behind.own;
        meet = behind.meet;
        told = behind.told;
        palm = behind.palm ∙ palm;
        desk = behind.desk ∙ desk;
        actions = behind.actions ∙ repeat.actions;
        slow = behind.slow ∙ repeat.slow;
        user = behind.user ∙ repeat.user;
        last_given = behind.last_given;
        last_after = behind.last_after;
      }

  -- a call whose session began before them
  session-before : begun_of (call ∷ next ∷ later) ≡ call ∷ begun_of (next ∷ later)
      → (session : SessionRan call.run call.before call.after call.status call.report)
      → (let ran = ran-of call session in StoppedBefore ran.meeting ran.before.desk ran.after.desk ran.report
      ⊎ StoppedBehind ran.meeting ran.after.desk ran.report)
      → AreSessions call (next ∷ later)
  session-before is session stopped =
      let ran = ran-of call session in
      let asked = behind.meets.asked in
      record {
        first = call;
        rest = behind.first ∷ behind.rest;
        begun = is ∙ ap (λ (calls : List RunCall). call ∷ calls) behind.begun;
        ran = ran;
        others = behind.ran ∷ behind.others;
        precede = (
          record {
            told = did.0;
            next_told = behind.told;
            asks = record {
              actions = asked.actions ∙ behind.actions ∙ repeat.actions ∙ sym session.meets.asked.actions;
              slow = asked.slow ∙ behind.slow ∙ repeat.slow ∙ sym session.meets.asked.slow;
            };
            names = asked.user ∙ ap wished_name (behind.user ∙ repeat.user) ∙ sym session.meets.asked.user;
            palm = behind.palm ∙ repeat.palm;
            desk = behind.desk ∙ ap (λ (told : Option FileMap). option_map finished told) repeat.desk;
            stopped = stopped;
          },
          behind.precede,
        );
        meets = session.meets;
        own = session.meets;
        meet = (behind.own, refl, refl, behind.meet);
        told = did.0;
        palm = refl;
        desk = refl;
        actions = refl;
        slow = refl;
        user = refl;
        last_given = behind.last_given;
        last_after = behind.last_after;
      }

  call-before : (end : SessionEnd) → call.report.end ≡ end → ByEnd end (SentNothing (run_command call.run) call.before call.after call.status call.report)
      (SessionRan call.run call.before call.after call.status call.report) → AreSessions call (next ∷ later)
  call-before NotStarted is sent = silent-before is sent
  call-before Stopped is session =
      session-before (ap (λ (end : SessionEnd). if_begun end call (begun_of (next ∷ later))) is) session ((ran-of call session).left.stopped is)
  call-before Ended is session =
      let ran = ran-of call session in
      session-before (ap (λ (end : SessionEnd). if_begun end call (begun_of (next ∷ later))) is) session
      (inr (ended-behind ran (ran.left.ended is)))

are-sessions : (call : RunCall) (later : List RunCall) → AllRan call later → AreSessions call later
are-sessions call [] all = last-session call all
are-sessions call (next ∷ later) all =
    call-before call next later all.0 all.1 (are-sessions next later all.2) call.report.end refl (session_in call refl all.0.1)

pub end-as_one : (call : RunCall) (later : List RunCall) → AllRan call later → EndsAsOne call later
end-as_one call later all =
    let sessions = are-sessions call later all in
    record {
      first = sessions.first;
      rest = sessions.rest;
      begun = sessions.begun;
      meeting = sessions.ran.meeting;
      meets = sessions.meets;
      others = laters sessions.ran sessions.others;
      meet = sessions.meet;
      takes_up = subst (λ (after : CallTold). TakesUp sessions.ran.meeting (laters sessions.ran sessions.others)
          (log_in (last_call call later).report).given after) sessions.last_after (subst
          (λ (given : List ℕ). TakesUp sessions.ran.meeting (laters sessions.ran sessions.others) given
          (last_ran sessions.ran sessions.others).after) sessions.last_given (taken-up sessions.ran sessions.others sessions.precede));
    }
