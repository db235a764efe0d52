-- What went over a line, as a report tells it.
use Rattle.std.proofs.Common.{arith, ◌≡◌, ap, refl, subst, ℕ, suc, List, [], ◌∷◌, length}
use Rattle.std.specs.Prelude.{map, Option}
use Rattle.hs_folders.specs.FileMaps.{FileMap}
use Rattle.hs_folders.specs.Moments.{Moments}
use Rattle.dlp_commands.specs.DeviceRuns.{Exchange, exchanged}
use Rattle.handheld_files.specs.Openings.{Stands}
use Rattle.line_world.specs.Folders.{FilesRan}
use Rattle.line_world.specs.Logs.{no_log}
use Rattle.line_world.specs.Worlds.{WorldSince, WorldValue}
use Rattle.call_parts.specs.LineRuns.{LineRan, TellsWorld, exchanges_in}
use Rattle.call_parts.specs.Told.{folder_told}
use Rattle.call_parts.specs.declared.report.Report.{Report}

abbrev requests_of : List Exchange → List (List ℕ)
requests_of exchanges = map (λ (exchange : Exchange). exchange.request) exchanges

abbrev replies_of : List Exchange → List (List ℕ)
replies_of exchanges = map (λ (exchange : Exchange). exchange.reply) exchanges

-- exchanges, taken apart and put together again
pub exchanged-parts : (exchanges : List Exchange) → exchanged (requests_of exchanges) (replies_of exchanges) ≡ exchanges
exchanged-parts [] = refl
exchanged-parts (exchange ∷ exchanges) = ap (λ (l : List Exchange). exchange ∷ l) (exchanged-parts exchanges)

same_length : (exchanges : List Exchange) → length (replies_of exchanges) ≡ length (requests_of exchanges)
same_length [] = refl
same_length (exchange ∷ exchanges) = ap (λ (n : ℕ). suc n) (same_length exchanges)

-- the exchanges of a fresh world are those of its report
exchanges-are : {F : Type 0} {contents : F → Option FileMap} {moments : F → Moments} {paths : F → Option (List (List ℕ))} {faults : F → ℕ}
    {old new : WorldValue F} {report : Report} → old.log ≡ no_log → (since : WorldSince contents moments paths faults old new) → TellsWorld new report
    → since.exchanges ≡ exchanges_in report
exchanges-are silent since tells = grind (arith, requests_of since.exchanges, replies_of since.exchanges, exchanged-parts since.exchanges)

files-ran : {F : Type 0} {contents : F → Option FileMap} {moments : F → Moments} {paths : F → Option (List (List ℕ))} {faults : F → ℕ}
    {old new : WorldValue F} {report : Report} → old.log ≡ no_log → WorldSince contents moments paths faults old new → TellsWorld new report
    → FilesRan (contents old.server.folder) old.server.device (exchanges_in report) (contents new.server.folder) new.server.device
files-ran {contents} {old} {new} silent since tells =
    subst (λ (es : List Exchange). FilesRan (contents old.server.folder) old.server.device es (contents new.server.folder) new.server.device)
    (exchanges-are silent since tells) since.served.files

-- what a fresh world became, as its report tells it
pub line_ran : {F : Type 0} {contents : F → Option FileMap} {moments : F → Moments} {paths : F → Option (List (List ℕ))} {faults : F → ℕ}
    {old new : WorldValue F} {report : Report}
    → old.log ≡ no_log → Stands (contents old.server.folder) old.server.device.databases old.server.device.user
    → WorldSince contents moments paths faults old new → TellsWorld new report
    → LineRan old.script old.server.device (folder_told contents moments paths faults old.server.folder)
    (folder_told contents moments paths faults new.server.folder) report
line_ran silent stands since tells =
    grind (
      arith,
      requests_of since.exchanges,
      replies_of since.exchanges,
      exchanged-parts since.exchanges,
      same_length since.exchanges,
      files-ran silent since tells,
    )

-- it counts the answers of the world
pub line_answered : {F : Type 0} {contents : F → Option FileMap} {moments : F → Moments} {paths : F → Option (List (List ℕ))} {faults : F → ℕ}
    {old new : WorldValue F} {report : Report} (silent : old.log ≡ no_log)
    (stands : Stands (contents old.server.folder) old.server.device.databases old.server.device.user)
    (since : WorldSince contents moments paths faults old new) (tells : TellsWorld new report)
    → (line_ran silent stands since tells).answered ≡ new.answered
unfolding line_ran
line_answered silent stands since tells = refl
