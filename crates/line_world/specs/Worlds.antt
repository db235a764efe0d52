-- What contracts see of a world, and what holds of it since an earlier time.
use Rattle.std.specs.Prelude.{◌≡◌, ◌⊎◌, ℕ, ◌+◌, ◌≤◌, ◌<◌, Bool, true, false, List, [], ◌∷◌, ◌++◌, length, map, take, slice_get, Option, Some, None}
use Rattle.std.specs.List.{flat_map}
use Rattle.hs_folders.specs.Causes.{Rose}
use Rattle.hs_folders.specs.FileMaps.{FileMap}
use Rattle.hs_folders.specs.Moments.{Moments}
use Rattle.dlp_commands.specs.declared.link.LinkFault.{LinkFault}
use Rattle.dlp_commands.specs.declared.link.LinkFault.TheVariants as link
use Rattle.dlp_commands.specs.Changes.{given_in}
use Rattle.dlp_commands.specs.DeviceRuns.{Exchange, exchanged}
use Rattle.dlp_commands.specs.Talks.{Talk}
use Rattle.handheld_server.specs.Servers.{ServerValue}
use Rattle.line_script.specs.Rules.{RuleValue}
use Rattle.padp_link.specs.Neighbours.{session_id}
use Rattle.trace_text.specs.declared.frame.End.TheVariants as ends
use Rattle.trace_text.specs.Stories.{IsStory}
use Rattle.trace_text.specs.Talks as talks
use Rattle.trace_text.specs.TraceLines.{FrameValue, frame_value}
use Rattle.line_steps.specs.declared.line.Line.{Line}
use Rattle.line_steps.specs.declared.sending.Halt.{Halt}
use Rattle.line_steps.specs.Acknowledging.{EndsAcknowledging, last_key}
use Rattle.line_steps.specs.Advancing.{IsUp}
use Rattle.line_steps.specs.Promising.{TellsOf}
use Rattle.line_steps.specs.Stories.{told_from}
use Rattle.line_steps.specs.Telling.{no_talk}
use Rattle.line_world.specs.declared.down.Down.{Down}
use Rattle.line_world.specs.declared.down.Down.TheVariants.{Keeper}
use Rattle.line_world.specs.Causes.{IsCause, IsHaltOf, NamesLast, down_end}
use Rattle.line_world.specs.Folders.{ServedSince}
use Rattle.line_steps.specs.TalkHalting.{LineEnds}
use Rattle.line_steps.specs.Rests.{MayGreet, MayAsk}
use Rattle.line_steps.specs.TalkTelling.{LineCounts, LineRecords, LineTells, LineTold, bytes_of, init, wake}
use Rattle.line_world.specs.Logs.{LogValue, said_in}

-- a world is the handheld's server, the script, what was said, how much of it was answered, the
-- frames, whether it has begun, and why it is down
pub record WorldValue (F : Type 0) : Type 0 where
  pub server : ServerValue F
  pub script : List RuleValue
  pub log : LogValue
  pub answered : ℕ
  pub frames : List FrameValue
  pub begun : Bool
  pub fault : Option LinkFault
  pub cause : Option Down

-- the exchanges that were answered, and the request that wasn't, if there is one
abbrev pub world_talk : {F : Type 0} → WorldValue F → Talk
world_talk world = record {
  device = world.server.device;
  exchanges =
      exchanged (take world.answered world.log.issued) (take world.answered world.log.replies);
  left = slice_get world.log.issued world.answered;
}

-- the frames tell each end the messages of the other one, under the ids of their numbers: all of
-- them, or all but the last
pub record TellBoth (talk : talks.Talk) (frames : List FrameValue) : Type 0 where
  pub handheld_said : TellsOf ends.Handheld talk.handheld frames
  pub desktop_said : TellsOf ends.Desktop talk.desktop frames

-- they tell all of them
pub record TellAll (talk : talks.Talk) (frames : List FrameValue) : Type 0 where
  pub handheld_said : IsStory ends.Handheld frames (told_from 0 talk.handheld)
  pub desktop_said : IsStory ends.Desktop frames (told_from 0 talk.desktop)

-- the run stopped, and not because an end had spent its tries
abbrev pub StoppedUp : Option LinkFault → Option Down → Type 0
StoppedUp fault cause = (fault ≡ None → ⊥) × (down_end cause ≡ None)

-- Behind the greetings the frames told the handheld the requests that it performed, or one request
-- more, and the desktop the replies that its calls answered, or one reply more: the one more only
-- in a run that stopped before it was dealt with, and not because an end had spent its tries.
pub record TellDone (log : LogValue) (answered : ℕ) (fault : Option LinkFault)
    (cause : Option Down) (frames : List FrameValue) : Type 0 where
  pub requests :
      IsStory ends.Desktop frames (told_from 0 (bytes_of init ∷ log.performed))
      ⊎ (StoppedUp fault cause × (length log.performed < length log.issued)
      × IsStory ends.Desktop frames (told_from 0 (bytes_of init ∷ log.issued)))
  pub replies :
      IsStory ends.Handheld frames (told_from 0 (bytes_of wake ∷ take answered log.replies))
      ⊎ (StoppedUp fault cause × (answered < length log.replies)
      × IsStory ends.Handheld frames (told_from 0 (bytes_of wake ∷ log.replies)))

-- the frames end with the desktop's acknowledgement of the last piece of the last reply
pub record EndsAcknowledged (log : LogValue) (frames : List FrameValue) : Type 0 where
  pub earlier : List (List ℕ)
  pub reply : List ℕ
  pub is : log.replies ≡ earlier ++ reply ∷ []
  pub acked : EndsAcknowledging ends.Desktop
      (last_key (session_id (length log.replies)) reply) frames

-- A line that went down left the last request without an answer, where one was sent; a folder that
-- failed left it unperformed.
pub record LeavesOff (log : LogValue) (answered : ℕ) (fault : Option LinkFault)
    (cause : Option Down) : Type 0 where
  pub down : fault ≡ Some link.Down → (log.issued ≡ []) ⊎ (answered < length log.issued)
  pub keeper : cause ≡ Some Keeper → length log.performed < length log.issued

-- Since the first of the two more was sent, performed and replied: each request that was performed
-- was one step of the device, in order. The script is the same. A folder that failed meanwhile had
-- its count rise.
pub record WorldSince {F : Type 0} (contents : F → Option FileMap) (moments : F → Moments)
    (paths : F → Option (List (List ℕ))) (faults : F → ℕ)
    (old new : WorldValue F) : Type 0 where
  pub same_script : new.script ≡ old.script
  pub requests : List (List ℕ)
  pub issued_is : new.log.issued ≡ old.log.issued ++ requests
  pub exchanges : List Exchange
  pub performed_is : new.log.performed
      ≡ old.log.performed ++ map (λ (exchange : Exchange). exchange.request) exchanges
  pub replies_are : new.log.replies
      ≡ old.log.replies ++ map (λ (exchange : Exchange). exchange.reply) exchanges
  pub given_is : new.log.given
      ≡ old.log.given
      ++ flat_map (λ (exchange : Exchange). given_in exchange.request exchange.reply) exchanges
  pub served : ServedSince contents moments paths faults old.server new.server exchanges
  pub keeper : new.cause ≡ Some Keeper
      → (old.cause ≡ Some Keeper) ⊎ Rose (faults old.server.folder) (faults new.server.folder)

-- what was said, in numbers: each performed request is a request that was sent, in order, and all
-- but the last at most are answered
pub record IsLog (log : LogValue) (answered : ℕ) : Type 0 where
  pub performed_is : log.performed ≡ take (length log.replies) log.issued
  pub replied : answered ≤ length log.replies
  pub performed_few : length log.replies ≤ length log.issued
  pub few : length log.issued ≤ answered + 1

-- a line at rest, once it has begun and before; its frames tell what was said
abbrev pub IsAtRest : Bool → Line → LogValue → ℕ → Type 0
IsAtRest false line log answered = MayGreet line × (answered ≡ 0) × LineTells no_talk line
IsAtRest true line log answered = MayAsk line answered × LineTells (said_in log) line

-- what holds while the link answers: the handheld is sound, all was answered, and the line is at
-- rest
pub record IsRunning (line : Line) (log : LogValue) (sound : Bool) (answered : ℕ)
    (begun : Bool) : Type 0 where
  pub is_sound : sound ≡ true
  pub all : length log.issued ≡ answered
  pub at_rest : IsAtRest begun line log answered

-- the frames tell what was said, and say why it is over with the line
pub record IsTold (line : Line) (log : LogValue) (cause : Option Down) : Type 0 where
  pub halt : Halt
  pub ends : LineEnds halt (said_in log) line
  pub halt_is : IsHaltOf cause (length line.wire.frames.items) halt
  pub names : NamesLast cause (map frame_value line.wire.frames.items)

-- so both ends took the messages behind the greetings, each so far as it was dealt with, or one
-- more where no end has spent its tries
pub record IsHeard (halt : Halt) (log : LogValue) (answered : ℕ) (line : Line) : Type 0 where
  pub requests :
      LineTold ends.Desktop (bytes_of init ∷ take (length log.replies) log.issued) line
      ⊎ ((length log.replies < length log.issued) × IsUp halt
      × LineTold ends.Desktop (bytes_of init ∷ log.issued) line)
  pub replies :
      LineTold ends.Handheld (bytes_of wake ∷ take answered log.replies) line
      ⊎ ((answered < length log.replies) × IsUp halt
      × LineTold ends.Handheld (bytes_of wake ∷ log.replies) line)

-- what holds of each world
pub record IsWorld (line : Line) (script : List RuleValue) (log : LogValue) (sound : Bool)
    (answered : ℕ) (begun : Bool) (fault : Option LinkFault)
    (cause : Option Down) : Type 0 where
  pub recorded : LineRecords script line
  pub counted : LineCounts line
  pub told : IsTold line log cause
  pub heard : begun ≡ true → IsHeard told.halt log answered line
  pub is_log : IsLog log answered
  pub silent : begun ≡ false → log.issued ≡ []
  pub left_off : LeavesOff log answered fault cause
  pub acked : 0 < answered → length log.issued ≡ answered
      → EndsAcknowledged log (map frame_value line.wire.frames.items)
  pub running : fault ≡ None → IsRunning line log sound answered begun
  pub caused : IsCause fault cause
