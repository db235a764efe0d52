-- What holds of a world since before a request.
use Rattle.line_world.proofs.Names.{◌≡◌, ◌⊎◌, ℕ, List, [], ◌∷◌, ◌++◌, length, Option, Some, sym, ap, subst, ◌∙◌, append-nil, Rose, FileMap, Moments}
use Rattle.line_world.proofs.Names.{ServerValue, given_in, Keeper, RequestReach, Unsent, Sent, Served, WentTo, ServedSince, LogValue, IsLog, WorldValue, WorldSince}
use Rattle.line_world.proofs.Names.{served-itself}
use Rattle.line_world.proofs.LogLaws.{log-issued, log-performed}

pub log-went : {F : Type 0} (contents : F → Option FileMap) (moments : F → Moments) (paths : F → Option (List (List ℕ))) (faults : F → ℕ) (went : RequestReach)
    (old new : ServerValue F) {log later : LogValue} {answered : ℕ} (request : List ℕ) → IsLog log answered → length log.issued ≡ answered
    → WentTo contents moments paths faults went old new log later request → IsLog later answered
log-went contents moments paths faults Unsent old new {answered} request is all to = subst (λ l. IsLog l answered) (sym to.1) is
log-went contents moments paths faults Sent old new {answered} request is all to =
    subst (λ l. IsLog l answered) (sym to.1) (log-issued request is all)
log-went contents moments paths faults (Served reply) old new {answered} request is all to =
    subst (λ l. IsLog l answered) (sym to.1) (log-performed request reply is all)

pub since-went : {F : Type 0} {contents : F → Option FileMap} {moments : F → Moments} {paths : F → Option (List (List ℕ))} {faults : F → ℕ} (went : RequestReach)
    {old new : WorldValue F} (request : List ℕ) → new.script ≡ old.script
    → (new.cause ≡ Some Keeper → (old.cause ≡ Some Keeper) ⊎ Rose (faults old.server.folder) (faults new.server.folder))
    → WentTo contents moments paths faults went old.server new.server old.log new.log request → WorldSince contents moments paths faults old new
since-went Unsent {old} request script keeper to = record {
  same_script = script;
  requests = [];
  issued_is = ap (λ l. l.issued) to.1 ∙ sym (append-nil old.log.issued);
  exchanges = [];
  performed_is = ap (λ l. l.performed) to.1 ∙ sym (append-nil old.log.performed);
  replies_are = ap (λ l. l.replies) to.1 ∙ sym (append-nil old.log.replies);
  given_is = ap (λ l. l.given) to.1 ∙ sym (append-nil old.log.given);
  served = to.0;
  keeper = keeper;
}
since-went Sent {old} request script keeper to = record {
  same_script = script;
  requests = request ∷ [];
  issued_is = ap (λ l. l.issued) to.1;
  exchanges = [];
  performed_is = ap (λ l. l.performed) to.1 ∙ sym (append-nil old.log.performed);
  replies_are = ap (λ l. l.replies) to.1 ∙ sym (append-nil old.log.replies);
  given_is = ap (λ l. l.given) to.1 ∙ sym (append-nil old.log.given);
  served = to.0;
  keeper = keeper;
}
since-went (Served reply) {old} request script keeper to = record {
  same_script = script;
  requests = request ∷ [];
  issued_is = ap (λ l. l.issued) to.1;
  exchanges = record { request = request; reply = reply } ∷ [];
  performed_is = ap (λ l. l.performed) to.1;
  replies_are = ap (λ l. l.replies) to.1;
  given_is = ap (λ l. l.given) to.1 ∙ ap (λ l. old.log.given ++ l) (sym (append-nil (given_in request reply)));
  served = to.0;
  keeper = keeper;
}

-- nothing was said
pub since-quiet : {F : Type 0} {contents : F → Option FileMap} {moments : F → Moments} {paths : F → Option (List (List ℕ))} {faults : F → ℕ}
    {old new : WorldValue F} → new.script ≡ old.script → new.log ≡ old.log → new.server ≡ old.server
    → (new.cause ≡ Some Keeper → (old.cause ≡ Some Keeper) ⊎ Rose (faults old.server.folder) (faults new.server.folder))
    → WorldSince contents moments paths faults old new
since-quiet {contents} {moments} {paths} {faults} {old} script log server keeper =
    since-went Unsent [] script keeper (
      subst (λ s. ServedSince contents moments paths faults old.server s []) (sym server)
          (served-itself contents moments paths faults old.server),
      log,
    )
