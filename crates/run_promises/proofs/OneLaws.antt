-- A folder stands for one handheld only, and for the slots of one desktop.
use Rattle.std.proofs.Common.{◌≡◌, ◌∙◌, ◌<◌, ap, refl, sym, subst, arith, ℕ, zero, suc, List, [], ◌∷◌, length, get_or}
use Rattle.std.specs.Prelude.{Option, Some, None, IfSome, IsSome}
use Rattle.std.specs.Option.{option_map}
use Rattle.std.proofs.lemmas.List.{length-map}
use Rattle.hs_folders.specs.FileMaps.{FileMap}
use Rattle.folder_files.specs.Slots.{SlotInfoValue}
use Rattle.pdb_values.proofs.NamedLaws.{database_of-same}
use Rattle.palm_device.specs.Devices.{Device}
use Rattle.handheld_files.specs.Openings.{HoldsAll, Stands}
pub use Rattle.handheld_files.proofs.OneLaws.{IsOne, one-handheld}
use Rattle.desk_journal.specs.Overlays.{FinishesAs, finished}
use Rattle.desk_store.specs.Desks.{IsDesk, IsDeskOf}
use Rattle.desk_store.specs.Shelves.{AreInOrder, SlotValue, database_at, info_of, infos_of, new_slot, number_of, shelf_at, slot_at}
use Rattle.desk_store.specs.declared.role.Role.{Role}
use Rattle.desk_store.specs.declared.role.Role.TheVariants.{Rows, Base, Archive}
use Rattle.desk_store.proofs.OrderLaws.{rising}
use Rattle.desk_store.proofs.SlotListLaws.{ordered_at, slot_at-any}
use Rattle.run_words.specs.Runs.{Run}
use Rattle.session_plan.specs.Tasks.{Meeting}
use Rattle.run_promises.specs.Again.{AreOfOneKind, AreTold}
use Rattle.cmd_session.specs.Meetings.{Meets}
use Rattle.call_parts.specs.Told.{CallTold}
use Rattle.call_parts.proofs.EndLaws.{same_some}

-- ---- a desktop

pub infos-length : (slots : List SlotValue) → length (infos_of slots) ≡ length slots
infos-length slots = length-map slots info_of

same_slot : (one other : SlotValue) → info_of one ≡ info_of other → one.shelves.rows ≡ other.shelves.rows → one.shelves.bases ≡ other.shelves.bases
    → one.shelves.archives ≡ other.shelves.archives → one ≡ other
same_slot one other info rows bases archives k =
    record { marks = (info k).marks; parted = (info k).parted; shelves = record { rows = rows k; bases = bases k; archives = archives k } }

-- lists that agree at each place are one
same_at : (one other : List SlotValue) (d : SlotValue) → length one ≡ length other → ((k : ℕ) → k < length one → get_or one k d ≡ get_or other k d)
    → one ≡ other
same_at [] [] d count each = refl
same_at [] (y ∷ other) d count each = absurd (omega (arith, count))
same_at (x ∷ one) [] d count each = absurd (omega (arith, count))
same_at (x ∷ one) (y ∷ other) d count each =
    let first = each 0 (omega arith) in
    let rest = same_at one other d (omega (arith, count)) (λ k less. each (suc k) (omega (arith, less))) in
    λ i. first i ∷ rest i

pub info_at : (slots : List SlotValue) (k : ℕ) (d : SlotValue) → get_or (infos_of slots) k (info_of d) ≡ info_of (get_or slots k d)
info_at [] k d = refl
info_at (slot ∷ slots) zero d = refl
info_at (slot ∷ slots) (suc k) d = info_at slots k d

pub one-desktop : (held : FileMap) (one other : List SlotValue) → AreInOrder one → AreInOrder other → IsDeskOf held one → IsDeskOf held other
    → one ≡ other
one-desktop held one other order order' first second = same_at one other behind count each
  where
    marked : infos_of one ≡ infos_of other
    marked = first.marked ∙ sym second.marked

    count : length one ≡ length other
    count = sym (infos-length one) ∙ ap length marked ∙ infos-length other

    behind : SlotValue
    behind = new_slot (number_of one)

    shelf : (k : ℕ) → k < length one → (role : Role) → shelf_at one k role ≡ shelf_at other k role
    shelf k less role =
        database_of-same (shelf_at one k role) (shelf_at other k role) (rising (slot_at one k).shelves (ordered_at one k order) role)
        (rising (slot_at other k).shelves (ordered_at other k order') role)
        (λ name. first.shelved k role name less ∙ ap (λ n. database_at held n k role name) count
        ∙ sym (second.shelved k role name (subst (λ n. k < n) count less)))

    there : (k : ℕ) → k < length one → slot_at other k ≡ get_or other k behind
    there k less = slot_at-any other k (new_slot (number_of other)) behind (subst (λ n. k < n) count less)

    each : (k : ℕ) → k < length one → get_or one k behind ≡ get_or other k behind
    each k less =
        same_slot (slot_at one k) (slot_at other k)
        (sym (info_at one k behind) ∙ ap (λ (is : List SlotInfoValue). get_or is k (info_of behind)) marked ∙ info_at other k behind
        ∙ ap info_of (sym (there k less))) (shelf k less Rows) (shelf k less Base) (shelf k less Archive)
        ∙ there k less

-- ---- what folders tell

pub same_handheld : (told : Option FileMap) (last device : Device) → IsSome told → Stands told last.databases last.user
    → IfSome told (λ held. HoldsAll held device.databases device.user) → IsOne device.databases last.databases device.user last.user
same_handheld None last device there stands holds = absurd (let no : ⊥ = cc in no)
same_handheld (Some held) last device there stands holds = one-handheld holds.stands stands

one_told : (told : Option FileMap) (one other : Device) → IsSome told → IfSome told (λ held. HoldsAll held one.databases one.user)
    → IfSome told (λ held. HoldsAll held other.databases other.user) → IsOne other.databases one.databases other.user one.user
one_told None one other there first second = absurd (let no : ⊥ = cc in no)
one_told (Some held) one other there first second = one-handheld second.stands first.stands

-- a folder that stands for what it stood for has the slots that it had
pub same_slots : (first last : Option FileMap) {slots next : List SlotValue} → IsSome first → IsSome last → FinishesAs first last
    → IsDesk (option_map finished first) slots → IsDesk (option_map finished last) next → next ≡ slots
same_slots None last there there' stands old new = absurd (let no : ⊥ = cc in no)
same_slots (Some a) None there there' stands old new = absurd (let no : ⊥ = cc in no)
same_slots (Some a) (Some b) {slots} {next} there there' stands old new =
    grind (
      arith,
      same_some stands,
      one-desktop (finished a) next slots new.ordered old.ordered,
      new.stands,
      old.stands,
    )

-- what stands for slots stands for no others
pub told_slots : (told : Option FileMap) {one other : List SlotValue} → IsSome told → IsDesk (option_map finished told) one
    → IsDesk (option_map finished told) other → other ≡ one
told_slots told there first second = same_slots told told there there refl first second

pub one-meeting : (run : Run) (before : CallTold) (meeting other : Meeting) → AreTold before → Meets run before meeting → Meets run before other
    → AreOfOneKind meeting other
one-meeting run before meeting other told first second =
    grind (
      arith,
      one_told before.palm.contents meeting.device other.device told.palm first.handheld second.handheld,
      told_slots before.desk.contents told.desk first.desktop second.desktop,
    )
