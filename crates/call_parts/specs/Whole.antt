-- How far what went over the line was dealt with, and a session that went over it whole.
use Rattle.std.specs.Prelude.{◌≡◌, ◌⊎◌, ◌<◌, ⊤, ℕ, List, [], ◌∷◌, length, take}
use Rattle.trace_text.specs.TraceLines.{FrameValue}
use Rattle.trace_text.specs.Stories.{IsStory}
use Rattle.trace_text.specs.declared.frame.End.TheVariants.{Handheld, Desktop}
use Rattle.line_steps.specs.Stories.{told_from}
use Rattle.line_steps.specs.TalkTelling.{bytes_of, init, wake}
use Rattle.line_world.specs.Logs.{LogValue}
use Rattle.line_world.specs.Worlds.{EndsAcknowledged}
use Rattle.call_parts.specs.Causes.{IsFallen, IsLineDown}
use Rattle.call_parts.specs.LineRuns.{frames_in, log_in}
use Rattle.call_parts.specs.declared.report.Report.{Report}
use Rattle.call_parts.specs.declared.report.SessionEnd.TheVariants.{Ended}
use Rattle.cmd_status.specs.declared.status.Status.{Status}
use Rattle.cmd_status.specs.declared.status.Status.TheVariants.{HandheldFolder, DesktopFolder, NoMemory, OtherUser, TooManyUsers, Limit}
use Rattle.cmd_status.specs.declared.status.Status.TheVariants.{NewHandheld}

-- Behind the greetings the frames tell the handheld the requests that it performed, or one request
-- more, and the desktop the replies that were answered, or one reply more: the one more only where
-- it was not dealt with, and no end had spent its tries.
pub record TellsDone (status : Status) (log : LogValue) (answered : ℕ)
    (frames : List FrameValue) : Type 0 where
  pub requests :
      IsStory Desktop frames (told_from 0 (bytes_of init ∷ log.performed))
      ⊎ (¬ IsLineDown status × (length log.performed < length log.issued)
      × IsStory Desktop frames (told_from 0 (bytes_of init ∷ log.issued)))
  pub replies :
      IsStory Handheld frames (told_from 0 (bytes_of wake ∷ take answered log.replies))
      ⊎ (¬ IsLineDown status × (answered < length log.replies)
      × IsStory Handheld frames (told_from 0 (bytes_of wake ∷ log.replies)))

-- it stopped for its user, for a limit, for a new handheld or for the desktop's folder, behind the
-- answer to all that was issued
abbrev pub StopsAnswered : Status → Type 0
StopsAnswered (OtherUser handheld desktop) = ⊤
StopsAnswered TooManyUsers = ⊤
StopsAnswered (Limit name) = ⊤
StopsAnswered (NewHandheld name) = ⊤
StopsAnswered DesktopFolder = ⊤
StopsAnswered other = ⊥

-- All that is asked was issued, the frames tell the desktop a reply to each request, and they end
-- with its acknowledgement of the last one, the reply to the end of the session; the run goes on
-- behind it.
pub record WentWhole (asked : List (List ℕ)) (report : Report) : Type 0 where
  pub issued : (log_in report).issued ≡ asked
  pub replied : length (log_in report).replies ≡ length (log_in report).issued
  pub told : IsStory Handheld (frames_in report)
      (told_from 0 (bytes_of wake ∷ (log_in report).replies))
  pub acked : EndsAcknowledged (log_in report) (frames_in report)

-- How far it was dealt with, by how it ended. Where the line is down or the handheld's folder
-- failed, the last request wasn't answered, if one was issued; where the folder failed it wasn't
-- performed. Only there, or where memory ran out, a request was left without an answer. A session
-- ended exactly where it went over whole, unless memory ran out.
pub record DealtWith (asked : List (List ℕ)) (status : Status) (report : Report) (answered : ℕ)
    : Type 0 where
  pub done : ((log_in report).issued ≡ [])
      ⊎ TellsDone status (log_in report) answered (frames_in report)
  pub fallen : IsFallen status
      → ((log_in report).issued ≡ []) ⊎ (answered < length (log_in report).issued)
  pub unserved : status ≡ HandheldFolder
      → length (log_in report).performed < length (log_in report).issued
  pub all : (report.end ≡ Ended) ⊎ StopsAnswered status → length (log_in report).issued ≡ answered
  pub cut : answered < length (log_in report).issued → IsFallen status ⊎ (status ≡ NoMemory)
  pub whole : report.end ≡ Ended → WentWhole asked report
  pub over : WentWhole asked report → (report.end ≡ Ended) ⊎ (status ≡ NoMemory)
