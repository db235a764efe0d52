-- A request at the handheld.
use Rattle.std.specs.Prelude.{◌≡◌, ℕ, true, List, [], ◌∷◌, Option}
use Rattle.hs_folders.specs.FileMaps.{FileMap}
use Rattle.hs_folders.specs.Moments.{Moments}
use Rattle.hs_folders.specs.Causes.{Rose}
use Rattle.handheld_server.specs.declared.fault.ServeFault.{ServeFault}
use Rattle.handheld_server.specs.declared.fault.ServeFault.TheVariants as serve
use Rattle.handheld_server.specs.Servers.{ServerValue}
use Rattle.line_steps.specs.declared.sending.Halt.TheVariants as halt
use Rattle.line_world.specs.declared.stop.Break.{Break}
use Rattle.line_world.specs.declared.stop.Break.TheVariants.{NoMemory, Keeper}
use Rattle.line_world.specs.Causes.{halt_of}
use Rattle.line_world.specs.Folders.{ServedSince}
use Rattle.line_world.specs.Logs.{LogValue, with_performed}

-- why a request that wasn't served gets no reply
abbrev pub break_of : ServeFault → Break
break_of serve.Keeper = Keeper
break_of serve.NoMemory = NoMemory

-- it was performed once, with this reply
pub record Performs {F : Type 0} (contents : F → Option FileMap) (moments : F → Moments)
    (paths : F → Option (List (List ℕ))) (faults : F → ℕ)
    (old new : ServerValue F) (log later : LogValue) (request reply : List ℕ) : Type 0 where
  pub sound : new.sound ≡ true
  pub since : ServedSince contents moments paths faults old new
      (record { request = request; reply = reply } ∷ [])
  pub log_is : later ≡ with_performed log request reply

-- it wasn't; where the folder failed, its count rose, and the line is at rest
pub record Refuses {F : Type 0} (contents : F → Option FileMap) (moments : F → Moments)
    (paths : F → Option (List (List ℕ))) (faults : F → ℕ)
    (old new : ServerValue F) (log later : LogValue) (ended : Break) : Type 0 where
  pub since : ServedSince contents moments paths faults old new []
  pub keeper : ended ≡ Keeper → Rose (faults old.folder) (faults new.folder)
  pub at_rest : halt_of ended ≡ halt.NoMemory
  pub log_is : later ≡ log
