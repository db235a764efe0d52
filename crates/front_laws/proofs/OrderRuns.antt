-- A handheld that runs by requests of a session answers each of them, whichever ids it gives.
use Rattle.std.proofs.Common.{◌≡◌, ◌∙◌, ap, sym, subst, ℕ, Bool, true, false, List, [], ◌∷◌, map, take}
use Rattle.std.specs.Prelude.{None}
use Rattle.std.specs.List.{AllByRecursion}
use Rattle.palm_device.specs.Devices.{Device}
use Rattle.dlp_commands.specs.DeviceRuns.{DeviceRun, exchanged}
use Rattle.desktop_session.specs.Acts.{Act, text}
use Rattle.desktop_session.specs.Orders.{AreAnswered, AreInOrder}
use Rattle.desktop_session.specs.Tellings.{AreSayable, IsTellable, IsSayable, exchanges, told}
use Rattle.desktop_session.proofs.ActLaws.{read_back}
use Rattle.desktop_session.proofs.OrderLaws.{order_answered}
use Rattle.desktop_session.proofs.TellLaws.{acted_proper, acted_reads}
use Rattle.session_plan.specs.Limits.{first_over}
use Rattle.sync_session.specs.Sessions.{before_writes, requests, session}
use Rattle.session_plan.specs.Tasks.{Meeting}
use Rattle.sync_session.proofs.QuietLaws.{quiet-before_writes}
use Rattle.front_laws.specs.Answered.{IsAnsweredExchange}
use Rattle.front_laws.specs.Given.{GetFreeIds}
use Rattle.front_laws.specs.Sound.{IsSoundMeeting}
use Rattle.front_laws.proofs.AlongLaws.{quiet-all}
use Rattle.front_laws.proofs.FitLaws.{Fit, FitsOne, fit-before}
use Rattle.front_laws.proofs.FrontLaws.{first_fit, first_requests, take-map}
use Rattle.front_laws.proofs.OrderActs.{read-order}
use Rattle.front_laws.proofs.OrderWrites.{session-order}
use Rattle.front_laws.proofs.RelabelLaws.{NoAsk, none-quiet, none-same, session-labelled}
use Rattle.front_laws.proofs.RunLaws.{answers, asks, exchanges-are, given_to, ids_left, relabel, relabel-take, runs-by, sayable-all}
use Rattle.palm_device.proofs.BoundLaws.{AllByRecursion-take}

-- ---- exchanges

told_exchanges : (acts : List Act) {device : Device} → Fit acts → IsTellable device → GetFreeIds acts device → AreAnswered acts device
    → AllByRecursion IsAnsweredExchange (exchanges acts device)
unfolding text
told_exchanges [] fit proper free answered = tt
told_exchanges (act ∷ acts) {device} fit proper free answered =
    let sayable : IsSayable act device = record { request = fit.0; free = free.0 } in (
      record {
        asked = act.asks;
        request = read_back act.asks fit.0;
        answer = told act device;
        reply = acted_reads act device proper sayable;
        answered = answered.0;
      },
      told_exchanges acts fit.1 (acted_proper act device proper sayable) free.1 answered.1,
    )

-- ---- other ids, the same requests

relabel-text : (ids : List ℕ) (acts : List Act) → map text (relabel ids acts) ≡ map text acts
unfolding text
relabel-text ids [] = λ k. []
relabel-text ids (act ∷ acts) = by (asks act) (λ is. relabel-text is acts)
  where
    by : (b : Bool) → ((is : List ℕ) → map text (relabel is acts) ≡ map text acts)
        → map text (given_to b ids act ∷ relabel (ids_left b ids) acts) ≡ map text (act ∷ acts)
    by true rest = ap (λ (zs : List (List ℕ)). text act ∷ zs) (rest (ids_left true ids))
    by false rest = ap (λ (zs : List (List ℕ)). text act ∷ zs) (rest ids)

relabel-fit : (ids : List ℕ) (acts : List Act) → Fit acts → Fit (relabel ids acts)
relabel-fit ids [] fit = tt
relabel-fit ids (act ∷ acts) fit = by (asks act) (λ is. relabel-fit is acts fit.1)
  where
    by : (b : Bool) → ((is : List ℕ) → Fit (relabel is acts)) → Fit (given_to b ids act ∷ relabel (ids_left b ids) acts)
    by true rest = (fit.0, rest (ids_left true ids))
    by false rest = (fit.0, rest ids)

-- ---- a run

-- by acts that keep their order, whichever ids they give
run_answered : (bare : List Act) {old : Device} (new : Device) (replies : List (List ℕ)) → Fit bare → IsTellable old
    → ((ids : List ℕ) → GetFreeIds (relabel ids bare) old → AreInOrder (relabel ids bare) old) → DeviceRun old (map text bare) replies new
    → AllByRecursion IsAnsweredExchange (exchanged (map text bare) replies)
run_answered bare {old} new replies fit proper order run =
    let runs = runs-by bare old new replies fit run.same run.ran in
    let acts = relabel runs.ids bare in
    let told : exchanged (map text bare) replies ≡ exchanges acts old =
    ap {A = List (List ℕ) × List (List ℕ)} (λ p. exchanged p.0 p.1) (λ k. (sym (relabel-text runs.ids bare) k, runs.told k)) ∙ exchanges-are acts old in
    subst (AllByRecursion IsAnsweredExchange) (sym told)
    (told_exchanges acts (relabel-fit runs.ids bare fit) proper runs.free (order_answered acts old (order runs.ids runs.free)))

-- what a run by these requests is answered
abbrev IsRunAnswered : Device → Device → List (List ℕ) → List (List ℕ) → Type 0
IsRunAnswered old new replies asked = DeviceRun old asked replies new → AllByRecursion IsAnsweredExchange (exchanged asked replies)

-- by acts that keep their order, fit into messages, and ask for no ids
pub plain-answered : (acts : List Act) (count : ℕ) {old : Device} (replies : List (List ℕ)) (reached : Device) → Fit acts → NoAsk acts → IsTellable old
    → AreInOrder (take count acts) old → DeviceRun old (take count (map text acts)) replies reached
    → AllByRecursion IsAnsweredExchange (exchanged (take count (map text acts)) replies)
plain-answered acts count {old} replies reached fit none proper order =
    let same : (ids : List ℕ) → relabel ids (take count acts) ≡ take count acts =
    λ ids. sym (relabel-take count ids acts) ∙ ap (take count) (none-same ids acts none) in
    subst (IsRunAnswered old reached replies) (sym (take-map text count acts))
    (run_answered (take count acts) reached replies (AllByRecursion-take FitsOne count acts fit) proper
    (λ ids free. subst (λ (zs : List Act). AreInOrder zs old) (sym (same ids)) order))

-- a run by them is that of the acts
pub plain-said : (acts : List Act) {old : Device} (replies : List (List ℕ)) (reached : Device) → Fit acts → NoAsk acts
    → DeviceRun old (map text acts) replies reached → (exchanged (map text acts) replies ≡ exchanges acts old) × AreSayable acts old
plain-said acts {old} replies reached fit none run =
    let runs = runs-by acts old reached replies fit run.same run.ran in
    let same : relabel runs.ids acts ≡ acts = none-same runs.ids acts none in
    let told : replies ≡ answers (exchanges acts old) =
    runs.told ∙ ap (λ (zs : List Act). answers (exchanges zs old)) same in
    let free : GetFreeIds acts old = subst (λ (zs : List Act). GetFreeIds zs old) same runs.free in
    (ap (exchanged (map text acts)) told ∙ exchanges-are acts old, sayable-all acts old fit free)

pub read-answered : (m : Meeting) (count : ℕ) (replies : List (List ℕ)) (reached : Device) → IsSoundMeeting m
    → DeviceRun m.device (take count (map text (before_writes m))) replies reached
    → AllByRecursion IsAnsweredExchange (exchanged (take count (map text (before_writes m))) replies)
read-answered m count replies reached sound =
    let all = before_writes m in
    let same : (ids : List ℕ) → relabel ids (take count all) ≡ take count all =
    λ ids. sym (relabel-take count ids all) ∙ ap (take count) (none-same ids all (none-quiet all (quiet-all all (quiet-before_writes m)))) in
    subst (IsRunAnswered m.device reached replies) (sym (take-map text count all))
    (run_answered (take count all) reached replies (AllByRecursion-take FitsOne count all (fit-before sound)) sound.device
    (λ ids free. subst (λ (acts : List Act). AreInOrder acts m.device) (sym (same ids)) (read-order m count sound)))

pub whole-answered : (m : Meeting) (count : ℕ) (replies : List (List ℕ)) (reached : Device) → IsSoundMeeting m → first_over m ≡ None
    → DeviceRun m.device (take count (requests m)) replies reached → AllByRecursion IsAnsweredExchange (exchanged (take count (requests m)) replies)
whole-answered m count replies reached sound none =
    let same : (ids : List ℕ) → take count (session m ids) ≡ relabel ids (take count (session m [])) =
    λ ids. ap (take count) (session-labelled m sound ids) ∙ relabel-take count ids (session m []) in
    subst (IsRunAnswered m.device reached replies) (sym (first_requests m [] count))
    (run_answered (take count (session m [])) reached replies (first_fit sound [] count) sound.device
    (λ ids free. subst (λ (acts : List Act). AreInOrder acts m.device) (same ids)
    (session-order m ids count sound none (subst (λ (acts : List Act). GetFreeIds acts m.device) (sym (same ids)) free))))
