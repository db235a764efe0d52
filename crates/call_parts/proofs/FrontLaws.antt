-- What a world's talk tells of its requests, and where the handheld of a report stands.
use Rattle.std.proofs.lemmas.Grind.{common_steps}
use Rattle.std.proofs.Common.{◌≡◌, ◌∙◌, ◌+◌, ◌≤◌, ap, refl, sym, subst, arith, ℕ, zero, suc, List, [], ◌∷◌, ◌++◌, length, take}
use Rattle.std.specs.Prelude.{Option, Some, None, map, slice_get}
use Rattle.std.specs.Option.{option_to_list}
use Rattle.std.proofs.lemmas.List.{length-take, take-append-le}
use Rattle.palm_device.specs.Devices.{Device}
use Rattle.dlp_commands.specs.DeviceRuns.{Exchange, exchanged}
use Rattle.dlp_commands.specs.Talks.{issued}
use Rattle.desktop_session.specs.Says.{Begins, IsPrefix, grown, sent}
use Rattle.line_script.specs.Rules.{RuleValue}
use Rattle.line_world.specs.Logs.{LogValue, no_log}
use Rattle.line_world.specs.Worlds.{IsLog, WorldValue, world_talk}
use Rattle.session_parts.specs.Fronts.{Front}
use Rattle.call_parts.specs.LineRuns.{LineRan, log_in, write_count}
use Rattle.call_parts.specs.Told.{FolderTold}
use Rattle.call_parts.specs.declared.report.Report.{Report}

-- ---- a world's talk

pub exchanged-requests : (xs ys : List (List ℕ)) → length xs ≤ length ys → map (λ (exchange : Exchange). exchange.request) (exchanged xs ys) ≡ xs
exchanged-requests [] ys few = refl
exchanged-requests (x ∷ xs) [] few = absurd (omega (arith, few))
exchanged-requests (x ∷ xs) (y ∷ ys) few = ap (λ (l : List (List ℕ)). x ∷ l) (exchanged-requests xs ys (omega (arith, few)))

pub take-none : (n : ℕ) → ◌≡◌ {A = List (List ℕ)} (take n []) []
take-none n = grind (arith, common_steps)

take-last : (xs : List (List ℕ)) (n : ℕ) → length xs ≤ n + 1 → take n xs ++ option_to_list (slice_get xs n) ≡ xs
take-last [] n few = ap (λ (l : List (List ℕ)). l ++ []) (take-none n)
take-last (x ∷ []) zero few = refl
take-last (x ∷ y ∷ xs) zero few = absurd (omega (arith, few))
take-last (x ∷ xs) (suc n) few = ap (λ (l : List (List ℕ)). x ∷ l) (take-last xs n (omega (arith, few)))

-- it tells all that was issued
pub world_issued : {F : Type 0} (world : WorldValue F) → IsLog world.log world.answered → issued (world_talk world) ≡ world.log.issued
world_issued world is =
    let replied = length-take world.answered world.log.replies in
    let asked = length-take world.answered world.log.issued in
    let few : length (take world.answered world.log.issued) ≤ length (take world.answered world.log.replies) = omega (arith, replied, asked, is.replied) in
    ap (λ (l : List (List ℕ)). l ++ option_to_list (slice_get world.log.issued world.answered))
    (exchanged-requests (take world.answered world.log.issued) (take world.answered world.log.replies) few)
    ∙ take-last world.log.issued world.answered is.few

pub get-none : (n : ℕ) → ◌≡◌ {A = Option (List ℕ)} (slice_get [] n) None
get-none n = grind (arith, common_steps)

-- nothing was issued over a fresh one
pub issued_none : (n : ℕ) → map (λ (exchange : Exchange). exchange.request) (exchanged (take n []) (take n [])) ++ option_to_list (slice_get [] n) ≡ []
issued_none n =
    ap (λ (l : List (List ℕ)). map (λ (exchange : Exchange). exchange.request) (exchanged l (take n [])) ++ option_to_list (slice_get [] n)) (take-none n)
    ∙ ap (λ (o : Option (List ℕ)). option_to_list o) (get-none n)

-- where a world that was fresh stopped within these requests, what was issued begins them
pub issued_begins : {F : Type 0} (old new : WorldValue F) (whole : List (List ℕ)) → old.log ≡ no_log → IsLog new.log new.answered
    → Begins (sent (Some (world_talk new))) (grown (sent (Some (world_talk old))) whole) → IsPrefix new.log.issued whole
unfolding Begins sent grown
issued_begins old new whole silent is begins =
    let first : issued (world_talk old) ≡ [] = ap (λ (log : LogValue). map (λ (exchange : Exchange). exchange.request)
    (exchanged (take old.answered log.issued) (take old.answered log.replies)) ++ option_to_list (slice_get log.issued old.answered)) silent
    ∙ issued_none old.answered in
    subst (λ (l : List (List ℕ)). IsPrefix l whole) (world_issued new is)
    (subst (λ (l : List (List ℕ)). IsPrefix (issued (world_talk new)) (l ++ whole)) first begins)

-- ---- a report

-- what was performed begins these requests where what was issued does
pub performed-begins : {whole : List (List ℕ)} {rules : List RuleValue} {device : Device} {before after : FolderTold} {report : Report}
    → LineRan rules device before after report → IsPrefix (log_in report).issued whole
    → (log_in report).performed ≡ take (length (log_in report).replies) whole
performed-begins {report} line prefix =
    line.log.performed_is
    ∙ sym (ap (λ (l : List (List ℕ)). take (length (log_in report).replies) l) (sym prefix.is)
    ∙ take-append-le (length (log_in report).replies) (log_in report).issued prefix.rest line.log.performed_few)

-- the handheld stands where a beginning of the session's requests leads it
pub front_of : (device : Device) (asked : List (List ℕ)) {rules : List RuleValue} {before after : FolderTold} {report : Report}
    (line : LineRan rules device before after report)
    → IsPrefix (log_in report).issued asked → Front device asked report.writes report.given.items line.last
unfolding write_count
front_of device asked {report} line prefix = grind (arith, performed-begins line prefix, length (log_in report).replies)
