-- A request and its reply over a line.
use Rattle.std.specs.Prelude.{◌≡◌, ℕ, ◌+◌, List, [], ◌∷◌, length, map, Option}
use Rattle.hs_folders.specs.FileMaps.{FileMap}
use Rattle.hs_folders.specs.Moments.{Moments}
use Rattle.hs_folders.specs.Causes.{Rose}
use Rattle.handheld_server.specs.Servers.{ServerValue}
use Rattle.padp_link.specs.Neighbours.{session_id}
use Rattle.trace_text.specs.declared.frame.End.TheVariants.{Desktop}
use Rattle.trace_text.specs.TraceLines.{frame_value}
use Rattle.line_steps.specs.Acknowledging.{EndsAcknowledging, last_key}
use Rattle.line_steps.specs.declared.line.Line.{Line}
use Rattle.line_world.specs.declared.stop.Break.{Break}
use Rattle.line_world.specs.declared.stop.Break.TheVariants.{NoMemory, Keeper}
use Rattle.line_world.specs.Folders.{ServedSince}
use Rattle.line_steps.specs.Rests.{MayAsk}
use Rattle.line_world.specs.Logs.{LogValue, with_issued, with_performed}
use Rattle.line_world.specs.Serving.{Performs}

-- the request was performed once, and its reply came back, and was acknowledged last
pub record Answers {F : Type 0} (contents : F → Option FileMap) (moments : F → Moments)
    (paths : F → Option (List (List ℕ))) (faults : F → ℕ)
    (old new : ServerValue F) (log later : LogValue) (line : Line)
    (request reply : List ℕ) : Type 0 where
  pub asks : MayAsk line (length log.issued + 1)
  pub acked : EndsAcknowledging Desktop (last_key (session_id (length log.issued + 1)) reply)
      (map frame_value line.wire.frames.items)
  pub performs : Performs contents moments paths faults old new
      (with_issued log request) later request reply

-- how far a request went that got no reply: it wasn't sent, it was sent and not performed, or it
-- was performed, with this reply
pub data RequestReach : Type 0 where
  Unsent : RequestReach
  Sent : RequestReach
  Served : (reply : List ℕ) → RequestReach

abbrev pub WentTo : {F : Type 0} → (F → Option FileMap) → (F → Moments)
    → (F → Option (List (List ℕ))) → (F → ℕ) → RequestReach → ServerValue F → ServerValue F
    → LogValue → LogValue → List ℕ → Type 0
WentTo contents moments paths faults Unsent old new log later request =
    ServedSince contents moments paths faults old new [] × (later ≡ log)
WentTo contents moments paths faults Sent old new log later request =
    ServedSince contents moments paths faults old new [] × (later ≡ with_issued log request)
WentTo contents moments paths faults (Served reply) old new log later request =
    ServedSince contents moments paths faults old new
    (record { request = request; reply = reply } ∷ [])
    × (later ≡ with_performed (with_issued log request) request reply)

-- It got no reply: it wasn't sent only where memory ran out. Where the folder failed, it was sent
-- and not performed, and the folder's count rose.
pub record Breaks {F : Type 0} (contents : F → Option FileMap) (moments : F → Moments)
    (paths : F → Option (List (List ℕ))) (faults : F → ℕ)
    (old new : ServerValue F) (log later : LogValue) (request : List ℕ)
    (ended : Break) : Type 0 where
  pub went : RequestReach
  pub is : WentTo contents moments paths faults went old new log later request
  pub unsent : went ≡ Unsent → ended ≡ NoMemory
  pub unserved : ended ≡ Keeper → went ≡ Sent
  pub keeper : ended ≡ Keeper → Rose (faults old.folder) (faults new.folder)
