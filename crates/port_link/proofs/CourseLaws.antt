-- Courses, one after the other.
use Rattle.std.proofs.Common.{◌≡◌, ℕ, List, [], ◌∷◌, ◌++◌, refl, sym, ap, subst, ◌∙◌, false}
use Rattle.std.specs.Prelude.{Option, Some, None, Result, Ok, Err, IfOk}
use Rattle.std.specs.Option.{option_map}
use Rattle.std.specs.Result.{result_err}
use Rattle.std.proofs.lemmas.Grind.{flat_map-append}
use Rattle.std.proofs.lemmas.List.{append-nil, append_assoc}
use Rattle.port_laws.specs.Palms.{IsTold, MovesOn}
use Rattle.port_line.specs.declared.port_fault.PortFault.{PortFault}
use Rattle.slp_frames.proofs.ScanLaws.{continues_append, continues_now, continues_start, continues_then}
use Rattle.slp_frames.specs.Histories.{Continues}
use Rattle.port_link.specs.declared.awaited.Awaited.{Awaited}
use Rattle.port_link.specs.declared.desk.Desk.{Desk}
use Rattle.port_link.specs.declared.turn.Turn.{Turn}
use Rattle.port_link.specs.Behind.{PalmAt, PalmsGo}
use Rattle.port_link.proofs.BehindLaws.{ends-itself, palms-then}
use Rattle.port_link.specs.Courses.{Course, Happens, Holds, HoldsNext, IsHeard, Scene, Tells, reads_at, reads_of}
use Rattle.port_link.specs.Desks.{Event, Awaits, Begins, Came, Read, desk_after, reacts}
use Rattle.port_link.specs.Listening.{GoesThrough, is_over}
use Rattle.port_link.specs.Logs.{EntryValue, entries_at, logged}
use Rattle.port_link.proofs.TellLaws.{tells-failed, tells-nothing, tells-then, written-none, written-then}

-- ---- what a reader holds

next-from : (event : Event) {a b : List ℕ} (c : List ℕ) → Continues a [] b → HoldsNext b event c → HoldsNext a event c
next-from (Awaits id) c first next = continues_then first next
next-from (Begins id message) c first next = continues_then first next
next-from (Came packet) c first next = continues_then first next
next-from (Read bytes) {a} {b} c first next = (
  continues_now a b [] first ∙ next.0,
  continues_then (continues_append a bytes b [] first) next.1,
)

-- it had dropped what can't be in a packet
pub holds-from : (events : List Event) {a b : List ℕ} (c : List ℕ) → Continues a [] b → Holds b events c → Holds a events c
holds-from [] c first next = continues_then first next
holds-from (event ∷ events) c first next = (next.0, next-from event next.0 first next.1, next.2)

pub holds-then : (es fs : List Event) (a b c : List ℕ) → Holds a es b → Holds b fs c → Holds a (es ++ fs) c
holds-then [] fs a b c first next = holds-from fs c first next
holds-then (event ∷ es) fs a b c first next = (first.0, first.1, holds-then es fs first.0 b c first.2 next)

-- ---- the desktop's end

pub desk_after-append : (desk : Desk) (es fs : List Event) → desk_after desk (es ++ fs) ≡ desk_after (desk_after desk es) fs
desk_after-append desk [] fs = refl
desk_after-append desk (event ∷ es) fs = desk_after-append (reacts desk event).desk es fs

logged-append : (desk : Desk) (es fs : List Event) → logged desk (es ++ fs) ≡ logged desk es ++ logged (desk_after desk es) fs
logged-append desk [] fs = refl
logged-append desk (event ∷ es) fs =
    ap (λ (l : List EntryValue). entries_at desk event ++ l) (logged-append (reacts desk event).desk es fs)
    ∙ sym (append_assoc (entries_at desk event) (logged (reacts desk event).desk es) (logged (desk_after (reacts desk event).desk es) fs))

pub through-then : (awaited : Awaited) (desk : Desk) (es : List Event) (event : Event) → GoesThrough awaited desk es
    → IsHeard event → is_over awaited (reacts (desk_after desk es) event).turn ≡ false → GoesThrough awaited desk (es ++ event ∷ [])
through-then awaited desk [] event through heard goes = (heard, goes, tt)
through-then awaited desk (first ∷ es) event through heard goes =
    (through.0, through.1, through-then awaited (reacts desk first).desk es event through.2 heard goes)

-- ---- courses

pub course-then : {fault : Option PortFault} {a b c : Scene} {es fs : List Event} → Course es None a b → Course fs fault b c → Course (es ++ fs) fault a c
course-then {fault} {a} {b} {c} {es} {fs} first next = record {
  holds = holds-then es fs a.held b.held c.held first.holds next.holds;
  given = written-then a.given (reads_of es) (reads_of fs) first.given next.given
      ∙ ap (λ (r : List (List ℕ)). option_map (λ given. given ++ r) a.given) (sym (flat_map-append reads_at es fs));
  desk = next.desk ∙ ap (λ (d : Desk). desk_after d fs) first.desk ∙ sym (desk_after-append a.desk es fs);
  tells = subst (λ (l : List EntryValue). Tells fault a.taken c.taken a.log c.log l) (sym (logged-append a.desk es fs))
      (tells-then first.tells (subst (λ (d : Desk). Tells fault b.taken c.taken b.log c.log (logged d fs)) first.desk next.tells));
  palms = palms-then fault a.desk es fs a.palm b.palm c.palm first.palms
      (subst (λ (d : Desk). PalmsGo fault d fs b.palm c.palm) first.desk next.palms);
}

-- a course of one event
pub course-one : {fault : Option PortFault} (event : Event) {old new : Scene} → HoldsNext old.held event new.held
    → new.given ≡ option_map (λ given. given ++ reads_at event) old.given → new.desk ≡ (reacts old.desk event).desk
    → Tells fault old.taken new.taken old.log new.log (entries_at old.desk event) → PalmAt old.desk event old.palm new.palm
    → Course (event ∷ []) fault old new
course-one {fault} event {old} {new} holds given desk tells palm = record {
  holds = (new.held, holds, continues_start new.held);
  given = given ∙ ap (λ (r : List (List ℕ)). option_map (λ given. given ++ r) old.given) (sym (append-nil (reads_at event)));
  desk = desk;
  tells = subst (λ (l : List EntryValue). Tells fault old.taken new.taken old.log new.log l) (sym (append-nil (entries_at old.desk event))) tells;
  palms = (new.palm, palm, ends-itself fault new.palm);
}

-- one event happened
pub happens-one : (result : Result Turn PortFault) (event : Event) (old new : Scene) → IsHeard event → HoldsNext old.held event new.held
    → new.given ≡ option_map (λ given. given ++ reads_at event) old.given → new.desk ≡ (reacts old.desk event).desk
    → IfOk result (λ turn. turn ≡ (reacts old.desk event).turn)
    → Tells (result_err result) old.taken new.taken old.log new.log (entries_at old.desk event) → PalmAt old.desk event old.palm new.palm
    → Happens result old new
happens-one (Ok turn) event old new heard holds given desk turn_is tells palm = (event, heard, turn_is, course-one event holds given desk tells palm)
happens-one (Err fault) event old new heard holds given desk turn_is tells palm =
    (event ∷ [], (heard, refl), course-one event holds given desk tells palm)

-- the reader had dropped what can't be in a packet
course-from : {fault : Option PortFault} {events : List Event} (old : Scene) {new : Scene} (held : List ℕ) → Continues old.held [] held
    → Course events fault (record { given = old.given; taken = old.taken; palm = old.palm; held = held; desk = old.desk; log = old.log }) new → Course events fault old new
course-from {fault} {events} old {new} held first course = record {
  holds = holds-from events new.held first course.holds;
  given = course.given;
  desk = course.desk;
  tells = course.tells;
  palms = course.palms;
}

pub happens-from : (result : Result Turn PortFault) (old new : Scene) (held : List ℕ) → Continues old.held [] held
    → Happens result (record { given = old.given; taken = old.taken; palm = old.palm; held = held; desk = old.desk; log = old.log }) new → Happens result old new
happens-from (Ok turn) old new held first happens = (happens.0, happens.1, happens.2, course-from old held first happens.3)
happens-from (Err fault) old new held first happens = (happens.0, happens.1, course-from old held first happens.2)

-- nothing happened
pub course-none : (s : Scene) → Course [] None s s
course-none s = record {
  holds = continues_start s.held;
  given = written-none s.given;
  desk = refl;
  tells = tells-nothing s.taken s.log;
  palms = refl;
}

-- the port failed at a read
pub course-unread : (fault : PortFault) {old new : Scene} → new.given ≡ old.given → new.taken ≡ old.taken → new.held ≡ old.held → new.desk ≡ old.desk
    → new.log ≡ old.log → IsTold MovesOn old.palm new.palm → Course [] (Some fault) old new
course-unread fault {old} {new} given taken held desk log palm = record {
  holds = subst (λ (h : List ℕ). Continues old.held [] h) (sym held) (continues_start old.held);
  given = given ∙ written-none old.given;
  desk = desk;
  tells = subst (λ (l : List EntryValue). Tells (Some fault) old.taken new.taken old.log l []) (sym log) (tells-failed fault old.taken old.log taken);
  palms = palm;
}
