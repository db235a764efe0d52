-- Each moment of a handheld's folder is at a front of the session.
use Rattle.std.proofs.Common.{◌≡◌, ◌∙◌, ap, append_assoc, refl, sym, subst, arith, ℕ, suc, List, [], ◌∷◌, ◌++◌, length, take}
use Rattle.std.specs.Prelude.{Option, filter, map}
use Rattle.std.specs.List.{flat_map}
use Rattle.std.proofs.lemmas.List.{map-append}
use Rattle.std.proofs.Math.Seq.{take-append_seam}
use Rattle.hs_folders.specs.FileMaps.{FileMap}
use Rattle.hs_folders.specs.Moments.{EachMomentSince}
use Rattle.hs_folders.proofs.MomentLaws.{moments_weaken}
use Rattle.palm_device.specs.Devices.{Device}
use Rattle.dlp_commands.specs.Changes.{changes, given_in}
use Rattle.dlp_commands.specs.DeviceRuns.{DeviceRun, Exchange, Ran, exchanged}
use Rattle.desktop_session.specs.Says.{IsPrefix}
use Rattle.line_script.specs.Rules.{RuleValue}
use Rattle.line_world.specs.Folders.{StoodAfterSome}
use Rattle.session_parts.specs.Fronts.{Front}
use Rattle.call_parts.specs.Sessions.{StandsAtFront}
use Rattle.call_parts.specs.LineRuns.{LineRan, exchanges_in, log_in}
use Rattle.call_parts.specs.Told.{FolderTold}
use Rattle.call_parts.specs.declared.report.Report.{Report}
use Rattle.call_parts.proofs.EndLaws.{performed-prefix}
use Rattle.call_parts.proofs.FrontLaws.{exchanged-requests}
use Rattle.call_parts.proofs.LineLaws.{exchanged-parts}

abbrev pub requests_of : List Exchange → List (List ℕ)
requests_of exchanges = map (λ (exchange : Exchange). exchange.request) exchanges

abbrev pub replies_of : List Exchange → List (List ℕ)
replies_of exchanges = map (λ (exchange : Exchange). exchange.reply) exchanges

same_length : (exchanges : List Exchange) → length (replies_of exchanges) ≡ length (requests_of exchanges)
same_length [] = refl
same_length (exchange ∷ exchanges) = ap (λ (n : ℕ). suc n) (same_length exchanges)

-- a device at a front of these requests
pub record IsAtFront (device : Device) (whole : List (List ℕ)) (reached : Device) : Type 0 where
  pub writes : ℕ
  pub given : List ℕ
  pub front : Front device whole writes given reached

-- behind some of the exchanges the handheld is at one
pub front-some : (device : Device) (whole : List (List ℕ)) {rules : List RuleValue} {before after : FolderTold} {report : Report}
    → LineRan rules device before after report → IsPrefix (log_in report).issued whole → (some later : List Exchange)
    (reached : Device) → exchanges_in report ≡ some ++ later → Ran device some reached → IsAtFront device whole reached
front-some device whole {report} line prefix some later reached is ran =
    let asked = requests_of some in
    let count = length asked in
    let begins = performed-prefix line.log prefix in
    let same = line.ran.same in
    let all = exchanged-requests (log_in report).performed (log_in report).replies (omega (arith, same)) in
    let parts : asked ++ requests_of later ≡ (log_in report).performed =
    sym (map-append (λ (exchange : Exchange). exchange.request) some later) ∙ ap requests_of (sym is) ∙ all in
    let joined : asked ++ (requests_of later ++ begins.rest) ≡ whole =
    sym (append_assoc asked (requests_of later) begins.rest) ∙ ap (λ (l : List (List ℕ)). l ++ begins.rest) parts ∙ begins.is in
    let first : take count whole ≡ asked = ap (λ (l : List (List ℕ)). take count l) (sym joined)
    ∙ take-append_seam asked (requests_of later ++ begins.rest) in
    let run : DeviceRun device asked (replies_of some) reached = record {
      same = same_length some;
      ran = subst (λ (l : List Exchange). Ran device l reached) (sym (exchanged-parts some)) ran;
    } in
    record {
      writes = length (filter changes (take count whole));
      given = flat_map (λ (exchange : Exchange). given_in exchange.request exchange.reply)
          (exchanged (take count whole) (replies_of some));
      front = record {
        count = count;
        replies = replies_of some;
        reached = reached;
        run = subst (λ (l : List (List ℕ)). DeviceRun device l (replies_of some) reached) (sym first) run;
        holds = refl;
        ids = refl;
        databases = refl;
        user = refl;
      };
    }

-- so a moment that stood for it stands at a front
front_at : (device : Device) (whole : List (List ℕ)) {rules : List RuleValue} {before after : FolderTold} {report : Report}
    → LineRan rules device before after report → IsPrefix (log_in report).issued whole → (told : Option FileMap)
    → StoodAfterSome device (exchanges_in report) told → StandsAtFront device whole told
front_at device whole line prefix told stood =
    let at = front-some device whole line prefix stood.before stood.after stood.device stood.is stood.ran in
    record { writes = at.writes; given = at.given; reached = stood.device; front = at.front; stands = stood.stands }

-- so is each moment
pub fronts_at_moments : (device : Device) (whole : List (List ℕ)) {rules : List RuleValue} (before : FolderTold) {after : FolderTold} {report : Report}
    → LineRan rules device before after report → IsPrefix (log_in report).issued whole
    → EachMomentSince (StandsAtFront device whole) before.moments after.moments
fronts_at_moments device whole before {after} {report} line prefix =
    moments_weaken (StoodAfterSome device (exchanges_in report)) (StandsAtFront device whole) before.moments after.moments line.moments
    (front_at device whole line prefix)
