-- How a session that installs databases went, and how it ends.
use Rattle.std.proofs.lemmas.List.{append-nil, map-append}
use Rattle.std.proofs.Common.{refl, ℕ, List, [], ◌∷◌, ◌++◌, map, inl, inr}
use Rattle.std.specs.Prelude.{Option, Ok, Err}
use Rattle.std.specs.Global.{Vec}
use Rattle.pdb_values.specs.Databases.{DatabaseValue}
use Rattle.desktop_session.proofs.StopLaws.{does_then, stops_then}
use Rattle.session_parts.specs.Causes.{IsLater}
use Rattle.session_parts.specs.Stretches.{SpansEach, each_acts}
use Rattle.session_parts.specs.declared.stop.Stop.{Stop}
use Rattle.session_parts.specs.declared.stop.Stop.TheVariants as stop
use Rattle.session_parts.proofs.LinkWords.{Act, Does, LinkFault, SessionFault, SessionValue, Stops, Talk, ending, text}
use Rattle.install_backup.specs.declared.moved.Moved.{Moved}
use Rattle.install_backup.specs.InstallActs.{installs_under}
use Rattle.install_backup.specs.InstallEnds.{InstallWent, IsInstallCause}
use Rattle.install_backup.specs.Installs.{IsLimit, SaysMoved, StopsWithin}
use Rattle.install_backup.specs.Rooms.{IsNoLimit, fault_of}

cause_of : {L : Type 0} (talk : L → Option Talk) (fault : L → Option LinkFault) (databases : List DatabaseValue) (old : SessionValue L) (new : L) (why : Stop)
    → IsLater (talk new) (fault new) (fault_of why) → IsLimit talk databases old new why → IsInstallCause talk fault databases old new why
cause_of talk fault databases old new (stop.Session cause) later limit = (later, limit)
cause_of talk fault databases old new (stop.Limit name) later limit = limit
cause_of talk fault databases old new (stop.NewHandheld name) later limit = absurd limit
cause_of talk fault databases old new stop.DeskFault later limit = absurd limit

module _ {L : Type 0} {talk : L → Option Talk} {since : L → L → Type 0} {fault : L → Option LinkFault} {downs : L → ℕ} {databases : List DatabaseValue}
    {old now : SessionValue L} where
  -- all were installed
  module _ (since_more : (a b c : L) → since a b → since b c → since a c) {moved : Vec Moved}
      (spans : SpansEach talk since fault downs installs_under SaysMoved databases (λ (made : Vec Moved). made.items) old now (Ok moved)) where
    abbrev said_all : List Act
    said_all = each_acts installs_under (talk old.link) databases spans.stretches

    ends_stops : {new : L} → Stops talk since fault downs (text ending ∷ []) now.link new
        → Stops talk since fault downs (map text (said_all ++ ending ∷ [])) old.link new
    ends_stops {new} stops =
        rw (map-append text said_all (ending ∷ []))
        (stops_then talk since fault downs since_more said_all (text ending ∷ []) old.link now.link new spans.does spans.stops stops)

    -- and the session was ended
    pub went_ended : {F : Type 0} (folder : F) (new : L) → Stops talk since fault downs (text ending ∷ []) now.link new → Does talk (ending ∷ []) now.link new
        → InstallWent talk since fault downs databases old (record { link = new; folder = folder; end = Ok moved })
    went_ended folder new stops does = record {
      stretches = spans.stretches;
      firsts = spans.firsts;
      moved = moved.items;
      last = ending ∷ [];
      whole = inr (refl, spans.said);
      stops = ends_stops stops;
      does = does_then talk said_all (ending ∷ []) old.link now.link new spans.does does;
      said = spans.said;
      cause = tt;
    }

    -- and the session was not ended
    pub went_unended : {F : Type 0} (folder : F) (new : L) {cause : SessionFault} → Stops talk since fault downs (text ending ∷ []) now.link new
        → IsLater (talk new) (fault new) cause → IsNoLimit cause
        → InstallWent talk since fault downs databases old (record { link = new; folder = folder; end = Err (stop.Session cause) })
    went_unended folder new stops later other = record {
      stretches = spans.stretches;
      firsts = spans.firsts;
      moved = moved.items;
      last = ending ∷ [];
      whole = inr (refl, spans.said);
      stops = ends_stops stops;
      does = tt;
      said = tt;
      cause = (later, other);
    }

  -- not all were installed
  pub went_stopped : {F : Type 0} (folder : F) (why : Stop)
      → SpansEach {B = Vec Moved} talk since fault downs installs_under SaysMoved databases (λ (made : Vec Moved). made.items) old now (Err (fault_of why))
      → IsLimit talk databases old now.link why → StopsWithin talk since fault downs databases old now.link
      → InstallWent talk since fault downs databases old (record { link = now.link; folder = folder; end = Err why })
  went_stopped folder why spans limit within = record {
    stretches = spans.stretches;
    firsts = spans.firsts;
    moved = [];
    last = [];
    whole = inl (refl, within);
    stops = rw (append-nil (each_acts installs_under (talk old.link) databases spans.stretches)) spans.stops;
    does = tt;
    said = tt;
    cause = cause_of talk fault databases old now.link why spans.cause limit;
  }
