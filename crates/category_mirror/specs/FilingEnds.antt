-- How a session that brings categories together ends, over a link that tells a handheld on which
-- nothing is open.
use Rattle.std.specs.Prelude.{◌≡◌, ◌⊎◌, ℕ, List, [], ◌∷◌, map, Option, IfErr, IfOk, IsOk, OnErr, Result, Ok, Err}
use Rattle.std.specs.Global.{Vec}
use Rattle.std.specs.Option.{option_map}
use Rattle.hs_folders.specs.FileMaps.{FileMap}
use Rattle.hs_folders.specs.Moments.{EachMomentSince, Moments}
use Rattle.pdb_values.specs.declared.user.Marks.{Marks}
use Rattle.pdb_values.specs.declared.user.UserInfo.{UserInfo}
use Rattle.palm_device.specs.Devices.{Device}
use Rattle.folder_files.specs.Slots.{AreSlots}
use Rattle.dlp_commands.specs.declared.link.LinkFault.{LinkFault}
use Rattle.dlp_commands.specs.Talks.{Talk}
use Rattle.desk_journal.specs.Overlays.{FinishesAs, finished}
use Rattle.desk_store.specs.Bounds.{AreBounded}
use Rattle.desk_store.specs.Desks.{IsDesk}
use Rattle.desk_store.specs.Shelves.{AreInOrder, SlotValue, marks_of}
use Rattle.desktop_session.specs.declared.fault.SessionFault.{SessionFault}
use Rattle.desktop_session.specs.declared.fault.SessionFault.TheVariants as session
use Rattle.desktop_session.specs.Acts.{text}
use Rattle.desktop_session.specs.Greetings.{user_with}
use Rattle.desktop_session.specs.Requests.{ending, reading_user}
use Rattle.desktop_session.specs.Seats.{no_wish, seat_for}
use Rattle.desktop_session.specs.Stops.{Does, Stops}
use Rattle.session_parts.specs.Causes.{IsLater}
use Rattle.session_parts.specs.Rests.{IsAtRest}
use Rattle.session_parts.specs.declared.stop.Stop.{Stop}
use Rattle.session_parts.specs.declared.stop.Stop.TheVariants as stop
use Rattle.session_parts.specs.declared.report.DbReport.{DbReport}
use Rattle.session_parts.specs.declared.outcome.Outcome.{Outcome}
use Rattle.category_mirror.specs.Sides.{Filing, before_end, filed_slots, filing_acts, filing_changes, filing_of, filing_reports}

-- ---- the desktop's folder

-- it stands for the slots that the session leaves
abbrev pub StandsFiled : Filing → Option FileMap → Type 0
StandsFiled filing told = IsDesk (option_map finished told) (filed_slots filing)

-- ---- how it ended

-- All requests were asked and answered; the desktop's folder has the slots that the session leaves,
-- and no journal; and what was done with each database is told.
pub record IsEnded {L : Type 0} (talk : L → Option Talk) (filing : Filing) (old new : L)
    (after : Option FileMap) (reports : List DbReport) : Type 0 where
  pub does : Does talk (filing_acts filing) old new
  pub desk : IsDesk after (filed_slots filing)
  pub told : reports ≡ filing_reports filing

-- the end was not asked for, and the folder stands for what it stood for
pub record IsUncommitted {L : Type 0} (talk : L → Option Talk) (since : L → L → Type 0)
    (fault : L → Option LinkFault) (downs : L → ℕ) (filing : Filing) (old new : L)
    (before after : Option FileMap) : Type 0 where
  pub stops : Stops talk since fault downs (map text (before_end filing)) old new
  pub stands : FinishesAs before after

-- All but the end was asked and answered, so that each block is written; the folder stands for the
-- slots that the session leaves; and no more than the end was asked for then.
pub record IsCommitted {L : Type 0} (talk : L → Option Talk) (since : L → L → Type 0)
    (fault : L → Option LinkFault) (downs : L → ℕ) (filing : Filing) (old new : L)
    (after : Option FileMap) : Type 0 where
  pub between : L
  pub does : Does talk (before_end filing) old between
  pub stops : Stops talk since fault downs (text ending ∷ []) between new
  pub stands : StandsFiled filing after

-- ---- why it stopped

-- the marks that the desktop's slots have
abbrev pub marks_in : Filing → List Marks
marks_in filing = marks_of filing.slots

-- the handheld's user, where it has a slot, and else why a session stops
abbrev pub seat_of : Filing → Result UserInfo SessionFault
seat_of filing =
    user_with (marks_in filing) filing.device.user
    (seat_for (marks_in filing) no_wish filing.device.user)

-- A handheld on which nothing is open meets a desktop whose slots are in their form and keep the
-- bounds of their types, and one of which is that of the handheld's user.
pub record IsFileable (device : Device) (slots : List SlotValue) : Type 0 where
  pub rests : IsAtRest device
  pub formed : AreSlots (marks_of slots)
  pub ordered : AreInOrder slots
  pub bounded : AreBounded slots
  pub seated : IsOk (seat_of (filing_of device slots))

-- The cause of a stop. For its user a session stops where nothing else was asked for; the folder
-- fails where all but the end was asked and answered; a reply is refused only where the link has no
-- fault, and it is the last one; want of memory is free.
abbrev pub IsFilingStop : {L : Type 0} → (L → Option Talk) → (L → Option LinkFault) → Filing → L → L
    → Stop → Type 0
IsFilingStop talk fault filing old new (stop.Session (session.OtherUser handheld desktop)) =
    (seat_of filing ≡ Err (session.OtherUser handheld desktop))
    × Does talk (reading_user ∷ []) old new
IsFilingStop talk fault filing old new (stop.Session cause) =
    IsLater (talk new) (fault new) cause
IsFilingStop talk fault filing old new stop.DeskFault = Does talk (before_end filing) old new
IsFilingStop talk fault filing old new other = ⊥

-- it stopped for this, unless its link is down or memory was wanted
abbrev pub StopsFor : SessionFault → Result (Vec DbReport) Stop → Type 0
StopsFor why (Ok reports) = ⊥
StopsFor why (Err cause) =
    (cause ≡ stop.Session why)
    ⊎ ((cause ≡ stop.Session session.Down) ⊎ (cause ≡ stop.Session session.NoMemory))

-- ---- all of it

-- A session of these two sides ended, or it stopped: before the desktop's commit or behind it, and
-- by its cause. At each moment the folder stood for what the session leaves, from the first at
-- which it changed on; where no row changes it was not touched. Where the handheld's user has no
-- slot, nothing but the user is asked for, and it stops for that.
pub record FilingEnds {L F : Type 0} (talk : L → Option Talk) (since : L → L → Type 0)
    (fault : L → Option LinkFault) (downs : L → ℕ)
    (contents : F → Option FileMap) (moments : F → Moments)
    (filing : Filing) (old : L) (folder : F) (left : Outcome L F) : Type 0 where
  pub ended : IfOk left.end
      (λ reports. IsEnded talk filing old left.link (contents left.folder) reports.items)
  pub stopped : OnErr left.end
      (IsUncommitted talk since fault downs filing old left.link (contents folder)
      (contents left.folder)
      ⊎ IsCommitted talk since fault downs filing old left.link (contents left.folder))
  pub cause : IfErr left.end (IsFilingStop talk fault filing old left.link)
  pub moments_are : EachMomentSince (StandsFiled filing) (moments folder) (moments left.folder)
  pub untouched : filing_changes filing ≡ [] → left.folder ≡ folder
  pub unseated : (why : SessionFault) → seat_of filing ≡ Err why
      → Stops talk since fault downs (text reading_user ∷ []) old left.link
      × StopsFor why left.end
