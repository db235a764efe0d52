-- What is said before the first write writes nothing.
use Rattle.std.proofs.Common.{◌≡◌, ◌∙◌, refl, Bool, true, false, ℕ, List, [], ◌∷◌, map, filter, if◌then◌else◌}
use Rattle.std.specs.List.{AllByRecursion}
use Rattle.dlp_commands.specs.Changes.{changes, is_change}
use Rattle.dlp_commands.specs.DeviceSteps.{function_number}
use Rattle.dlp_commands.proofs.StepLaws.{changes-text}
use Rattle.desktop_session.specs.Acts.{Act, text}
use Rattle.session_parts.specs.Quiet.{AreQuiet}
use Rattle.sync_session.proofs.MeetingWords.{before_writes, Meeting}
use Rattle.sync_session.proofs.SaidLaws.{writes-all}

-- an act of a function that changes nothing
abbrev IsQuiet : Act → Type 0
IsQuiet a = is_change (function_number a.asks) ≡ false

changes-act : (a : Act) → changes (text a) ≡ is_change (function_number a.asks)
unfolding text
changes-act a = changes-text a.asks

pub keeps : (b : Bool) (x : List ℕ) (xs : List (List ℕ)) → b ≡ false → (if b then x ∷ xs else xs) ≡ xs
keeps true x xs is = absurd cc
keeps false x xs is = refl

quiet-all : (acts : List Act) → AllByRecursion IsQuiet acts → AreQuiet acts
quiet-all [] all = refl
quiet-all (a ∷ acts) all =
    keeps (changes (text a)) (text a) (filter changes (map text acts)) (changes-act a ∙ all.0) ∙ quiet-all acts all.1

pub quiet-before_writes : (meeting : Meeting) → AreQuiet (before_writes meeting)
quiet-before_writes meeting =
    quiet-all (before_writes meeting) (writes-all {P = IsQuiet} (record { users = refl; begins = refl; lists = λ start. refl })
    (record { opens = λ name. refl; closes = refl })
    (record { counts = refl; lists = λ start. refl; nexts = refl; ids = λ id. refl; places = λ index. refl }) meeting)
