-- What is judged before a session: the source, the handheld's folder, another folder, and the trace.
use Rattle.std.specs.Prelude.{◌⊎◌, ℕ, List, Option}
use Rattle.hs_folders.specs.FileMaps.{FileMap}
use Rattle.cmd_status.specs.declared.status.Status.{Status}
use Rattle.call_parts.specs.Refusals.{DesktopRefuses, HandheldRefuses, HasDesktop, HasHandheld, TraceRefuses}
use Rattle.call_parts.specs.Scripts.{HasScript, ScriptRefuses}
use Rattle.call_parts.specs.Told.{CallTold}

-- what a command wants of its source and of the other folder, and what either refuses it with
pub record Judges : Type 1 where
  pub SourceRefuses : Option (List ℕ) → Status → Type 0
  pub HasSource : Option (List ℕ) → Type 0
  pub FolderRefuses : Option FileMap → Status → Type 0
  pub HasFolder : Option FileMap → Type 0

-- The source is judged first, then the handheld's folder, then the other one, and last the trace is
-- opened at its path. Each is judged where all that comes before it is good.
abbrev pub Refuses : Judges → Option (List ℕ) → CallTold → Status → Type 0
Refuses judges trace before refusal =
    judges.SourceRefuses before.source.left refusal
    ⊎ (judges.HasSource before.source.left × (HandheldRefuses before.palm.contents refusal
    ⊎ (HasHandheld before.palm.contents × (judges.FolderRefuses before.desk.contents refusal
    ⊎ (judges.HasFolder before.desk.contents × TraceRefuses trace refusal)))))

-- what a session between a handheld and a desktop wants: a script where its words name one, and the
-- desktop's folder
abbrev pub desktop_judges : Option (List ℕ) → Judges
desktop_judges script = record {
  SourceRefuses = λ left refusal. ScriptRefuses script left refusal;
  HasSource = λ left. HasScript script left;
  FolderRefuses = λ kept refusal. DesktopRefuses kept refusal;
  HasFolder = λ kept. HasDesktop kept;
}
