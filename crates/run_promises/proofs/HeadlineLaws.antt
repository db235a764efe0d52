-- What a run promises, from all that is known of it.
use Rattle.std.proofs.Common.{◌≡◌, List}
use Rattle.line_script.specs.Rules.{RuleValue}
use Rattle.session_plan.specs.Tasks.{Meeting}
use Rattle.call_parts.specs.Causes.{ByEnd, HasBegun}
use Rattle.palm_device.specs.Devices.{Device}
use Rattle.handheld_files.specs.Openings.{Stands}
use Rattle.run_promises.specs.Headline.{ActsOnce, FairStaysUp, Headline, IsWhatItSays, LeavesTheMerge, TellsCause}
use Rattle.run_promises.specs.RunCalls.{IsAnsweredRun, RunCall}
use Rattle.cmd_session.specs.Meetings.{Meets}
use Rattle.cmd_session.specs.Runs.{SessionRan, run_command}
use Rattle.call_parts.specs.SessionCalls.{SentNothing}
use Rattle.call_parts.specs.Scripts.{IsScripted}
use Rattle.call_parts.specs.declared.report.SessionEnd.{SessionEnd}
use Rattle.call_parts.specs.declared.report.SessionEnd.TheVariants.{NotStarted, Ended, Stopped}
use Rattle.run_promises.proofs.EqualLaws.{equal-behind}
use Rattle.run_promises.proofs.LaterMoments.{moments-later}
use Rattle.run_promises.proofs.SkippedLaws.{keeps-bytes}

pub begun_by : (end : SessionEnd) (Not Began : Type 0) → ByEnd end Not Began → HasBegun end → Began
begun_by NotStarted Not Began is begun = absurd begun
begun_by Ended Not Began is begun = is
begun_by Stopped Not Began is begun = is

silent_by : (end : SessionEnd) (Not Began : Type 0) → ByEnd end Not Began → end ≡ NotStarted → Not
silent_by NotStarted Not Began is silent = is
silent_by Ended Not Began is silent = cc
silent_by Stopped Not Began is silent = cc

module _ (call : RunCall) (is : IsAnsweredRun call) where
  abbrev Silent : Type 0
  Silent = SentNothing (run_command call.run) call.before call.after call.status call.report

  abbrev Session : Type 0
  Session = SessionRan call.run call.before call.after call.status call.report

  pub silent_run : call.report.end ≡ NotStarted → Silent
  silent_run silent = silent_by call.report.end Silent Session is.ran.shown silent

  session_ran : HasBegun call.report.end → Session
  session_ran begun = begun_by call.report.end Silent Session is.ran.shown begun

  pub headline : HasBegun call.report.end → (rules : List RuleValue) × (meeting : Meeting) × Headline rules meeting call
  headline begun =
      let ran = session_ran begun in
      let talked = ran.talked in (
        ran.rules,
        ran.meeting,
        record {
          scripted = ran.scripted;
          meets = ran.meets;
          reached = talked.spoke.line.last;
          stands = talked.spoke.line.stands;
          once = record {
            answered = talked.spoke.line.answered;
            once = talked.spoke.line.log;
            dealt = talked.spoke.dealt;
            steps = talked.spoke.line.ran;
          };
          line = record { trace = talked.spoke.line.proper; told = talked.spoke.line.told; written = ran.traced };
          cause = record {
            ends = talked.spoke.why.ends;
            cause = talked.spoke.why.caused;
            stops = talked.spoke.why.stops;
            blames = is.ran.blames;
            shows = talked.shows.status_is;
            refused = talked.shows.refused;
          };
          fair = talked.spoke.why.fair;
          leaves = record {
            begins = talked.left.issued;
            ended = talked.left.ended;
            stopped = talked.left.stopped;
            commit = ran.changed;
            given = talked.left.given;
            merged = moments-later call.before.desk.moments ran.changed.between call.after.desk.moments ran.changed.unchanged
                ran.changed.changed talked.left.moments;
            handheld = talked.spoke.front;
            files = keeps-bytes talked.spoke.line talked.left;
            limit = talked.left.over;
            loss = talked.left.losing;
          };
          equal = equal-behind call ran;
          done = is.complete;
        },
      )

  pub acts-once : HasBegun call.report.end → (meeting : Meeting) × (reached : Device) × Meets call.run call.before meeting
      × Stands call.after.palm.contents reached.databases reached.user × ActsOnce meeting reached call
  acts-once begun = let all = headline begun in (all.1, all.2.reached, all.2.meets, all.2.stands, all.2.once)

  pub line-is : HasBegun call.report.end
      → (rules : List RuleValue) × IsScripted call.run.script call.before.source.left rules × IsWhatItSays rules call
  line-is begun = let all = headline begun in (all.0, all.2.scripted, all.2.line)

  pub cause-told : HasBegun call.report.end → (meeting : Meeting) × Meets call.run call.before meeting × TellsCause meeting call
  cause-told begun = let all = headline begun in (all.1, all.2.meets, all.2.cause)

  pub stays-up : HasBegun call.report.end
      → (rules : List RuleValue) × IsScripted call.run.script call.before.source.left rules × FairStaysUp rules call
  stays-up begun = let all = headline begun in (all.0, all.2.scripted, all.2.fair)

  pub leaves-merge : HasBegun call.report.end → (meeting : Meeting) × (reached : Device) × Meets call.run call.before meeting
      × Stands call.after.palm.contents reached.databases reached.user × LeavesTheMerge meeting reached call
  leaves-merge begun = let all = headline begun in (all.1, all.2.reached, all.2.meets, all.2.stands, all.2.leaves)
