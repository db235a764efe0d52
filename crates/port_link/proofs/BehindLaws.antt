-- What stands behind a port, one event after the other.
use Rattle.std.proofs.Common.{◌≡◌, ℕ, List, [], ◌∷◌, ◌++◌, refl, sym, ap, subst, ◌∙◌, inl, inr}
use Rattle.std.specs.Prelude.{Option, Some, None, is_some}
use Rattle.std.proofs.lemmas.Bool.{cases_Bool, cond-false, cond-true}
use Rattle.port_laws.specs.Cables.{packets_of}
use Rattle.padp_end.specs.Outgoings.{OutgoingFragment, said_text}
use Rattle.padp_link.specs.Senders.{waiting}
use Rattle.port_laws.specs.Palms.{HearsOf, IsTold, MovesOn, Palm}
use Rattle.port_laws.proofs.LossLaws.{lost_toward, moves-itself}
use Rattle.port_laws.proofs.SaidLaws.{IsScannedOf, waits_scanned}
use Rattle.port_line.specs.declared.port_fault.PortFault.{PortFault}
use Rattle.slp_frames.specs.PacketScan.{scan}
use Rattle.slp_frames.specs.PacketText.{PacketValue}
use Rattle.port_link.specs.declared.desk.Desk.{Desk}
use Rattle.port_link.specs.Behind.{Comes, PalmAt, PalmEnds, PalmsGo}
use Rattle.port_link.specs.Desks.{Event, Reaction, desk_after, idle_silence, reacts, silence, waiting_silence}

-- ---- nothing happens

pub told-moved : (told : Option Palm) → IsTold MovesOn told told
told-moved None = refl
told-moved (Some palm) = (palm, moves-itself palm, refl)

-- all that is said is lost
pub told-unheard : (packets : List PacketValue) (told : Option Palm) → IsTold (HearsOf packets) told told
told-unheard packets None = refl
told-unheard packets (Some palm) = (palm, lost_toward palm packets, refl)

-- nothing is said
pub palm-quiet : (desk : Desk) (event : Event) (old between : Option Palm) → Comes event old between → (reacts desk event).said ≡ []
    → PalmAt desk event old between
palm-quiet desk event old between comes none = record {
  between = between;
  comes = comes;
  hears = told-unheard (packets_of (reacts desk event).said) between;
}

-- ---- one event after the other

pub ends-itself : (fault : Option PortFault) (told : Option Palm) → PalmEnds fault told told
ends-itself None told = refl
ends-itself (Some fault) told = told-moved told

pub palms-then : (fault : Option PortFault) (desk : Desk) (es fs : List Event) (a b c : Option Palm) → PalmsGo None desk es a b
    → PalmsGo fault (desk_after desk es) fs b c → PalmsGo fault desk (es ++ fs) a c
palms-then fault desk [] fs a b c first next = subst (λ (told : Option Palm). PalmsGo fault desk fs told c) first next
palms-then fault desk (event ∷ es) fs a b c first next =
    (first.0, first.1, palms-then fault (reacts desk event).desk es fs first.0 b c first.2 next)

-- ---- the bytes of what is said hold it

pub silence_scanned : (desk : Desk) → IsScannedOf (silence desk).said
silence_scanned desk = elim (cases_Bool (is_some (waiting desk.end.sender))) [
  | inl waits ↦ subst (λ (r : Reaction). IsScannedOf r.said)
      (sym (cond-true (is_some (waiting desk.end.sender)) (waiting_silence desk) (idle_silence desk) waits)) (waits_scanned desk.end)
  | inr idle ↦ subst (λ (r : Reaction). IsScannedOf r.said)
      (sym (cond-false (is_some (waiting desk.end.sender)) (waiting_silence desk) (idle_silence desk) idle)) refl
]

-- so they are on their way
pub heard-said : (said : List OutgoingFragment) (text : List ℕ) (old new : Option Palm) → IsScannedOf said → text ≡ said_text said
    → IsTold (HearsOf (scan text)) old new → IsTold (HearsOf (packets_of said)) old new
heard-said said text old new scanned is hears = subst (λ (ps : List PacketValue). IsTold (HearsOf ps) old new) (ap scan is ∙ scanned) hears
