-- A record that is put: under its id, or as a new one of id 0, which gets a free id.
use Rattle.std.specs.Prelude.{◌≡◌, ◌<◌, ℕ, Option, None, IfOk, IfSome, Result}
use Rattle.pdb_values.specs.Contents.{ContentValue}
use Rattle.palm_device.specs.Handles.{base_at}
use Rattle.palm_device.specs.Records.{IsFree}
use Rattle.dlp_commands.specs.declared.link.LinkFault.{LinkFault}
use Rattle.dlp_commands.specs.Talks.{Talk}
use Rattle.desktop_session.specs.declared.fault.SessionFault.{SessionFault}
use Rattle.desktop_session.specs.Requests.{putting}
use Rattle.desktop_session.specs.Sessions.{SessionValue}
use Rattle.desktop_session.specs.Stops.{AsksOne}

-- a new record of id 0 got an id that no record of the database under the handle has
abbrev pub IsGiven : ℕ → ℕ → ℕ → Option Talk → Type 0
IsGiven given handle id talk =
    IfSome talk
    (λ talk. IfSome (base_at talk.device handle)
    (λ base. id ≡ 0 → IsFree given base.database.records))

-- the session asked for it; the answer's id is the one that was given
pub record Puts {L : Type 0} (talk : L → Option Talk) (since : L → L → Type 0)
    (fault : L → Option LinkFault) (downs : L → ℕ) (handle id : ℕ)
    (content : ContentValue) (old new : SessionValue L)
    (answer : Result ℕ SessionFault) : Type 0 where
  pub given : ℕ
  pub asked : AsksOne talk since fault downs (putting given handle id content) old new
  pub free : fault new.link ≡ None → IsGiven given handle id (talk old.link)
  pub new_id : IfOk answer (λ answer. id ≡ 0 → answer ≡ given)
  pub old_id : 0 < id → given ≡ 0
