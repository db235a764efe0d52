-- What is opened on a handheld at rest, read and closed leaves it as it was.
use Rattle.std.proofs.Common.{◌≡◌, ◌∙◌, ◌+◌, refl, sym, ap, subst, ℕ, zero, suc, false, List, [], ◌∷◌, ◌++◌, lit<}
use Rattle.std.specs.Prelude.{Some, Ok, Err, ◌&&◌, replicate, flat_map, slice_get}
use Rattle.std.specs.List.{AllByRecursion}
use Rattle.std.specs.Option.{option_map}
use Rattle.pdb_values.specs.Databases.{DatabaseValue}
use Rattle.session_parts.specs.Meets.{greeting}
use Rattle.pdb_values.specs.Names.{IsName}
use Rattle.pdb_values.specs.NamedDatabases.{database_of}
use Rattle.dlp_replies.specs.ReplyValues as reply
use Rattle.dlp_replies.specs.ReplyValues.{ReplyValue}
use Rattle.palm_device.specs.Devices.{Device, with_handles}
use Rattle.palm_device.specs.Handles.{base_at, no_handles, with_handle}
use Rattle.palm_device.specs.Heads.{has_bit, is_read_only}
use Rattle.dlp_commands.specs.DatabaseFunctions.{close_db, on_card, open_db, read_db_list}
use Rattle.dlp_commands.specs.DeviceSteps.{outcome, tried}
use Rattle.dlp_commands.specs.Errors.{none_open, not_found, check, need}
use Rattle.dlp_commands.specs.Reached.{Trial, next_of, read_next_modified_rec, reads}
use Rattle.dlp_commands.specs.Readings.{read_in}
use Rattle.dlp_commands.specs.declared.reading.Reading.{Reading}
use Rattle.session_parts.proofs.LinkWords.{Act, acted, closing, listing, opening, reading_next, IsTellable, device_after}
use Rattle.desktop_session.specs.Orders.{CanOpen}
use Rattle.desktop_session.proofs.ChangeRows.{row_does}
use Rattle.desktop_session.proofs.OrderLaws.{name_right, some_with}
use Rattle.desktop_session.proofs.RequestFits.{open_fits}
use Rattle.desktop_session.proofs.TellLaws.{IfDone, act_sayable, acted_proper, done_then}
use Rattle.desktop_session.proofs.ListLaws.{after_append}
use Rattle.desk_journal.proofs.StepLaws.{all-append}

-- ---- acts, one after another

pub all-replicate : {A : Type 0} (P : A → Type 0) (n : ℕ) (x : A) → P x → AllByRecursion P (replicate n x)
all-replicate P zero x is = tt
all-replicate P (suc n) x is = (is, all-replicate P n x is)

pub all-flat_map : {A B : Type 0} (P : B → Type 0) (f : A → List B) (xs : List A) → ((x : A) → AllByRecursion P (f x)) → AllByRecursion P (flat_map f xs)
all-flat_map P f [] each = tt
all-flat_map P f (x ∷ xs) each = all-append P (f x) (flat_map f xs) (each x) (all-flat_map P f xs each)

-- what is done holds of the device after, if it holds of the one before
pub outcome_is : (P : Device → Type 0) (old : Device) (number : ℕ) (r : Trial) → P old → IfDone (λ (done : Device × ReplyValue). P done.0) r
    → P (outcome old number r).1
outcome_is P old number (Ok done) before after = after
outcome_is P old number (Err code) before after = before

-- ---- what changes nothing

pub reads_same : (device : Device) (handle number : ℕ) (asked : Reading) → (outcome device number (reads device handle asked)).1 ≡ device
reads_same device handle number asked =
    outcome_is (λ d. d ≡ device) device number (reads device handle asked) refl
    (done_then (need none_open (base_at device handle)) _ (λ (done : Device × ReplyValue). done.0 ≡ device) (λ base a.
    done_then (read_in asked base.database) _ (λ (done : Device × ReplyValue). done.0 ≡ device) (λ answer b. refl)))

list_done : (device : Device) (flags card start : ℕ) → IfDone (λ (done : Device × ReplyValue). done.0 ≡ device) (read_db_list device flags card start)
unfolding read_db_list
list_done device flags card start =
    let P : Device × ReplyValue → Type 0 = λ done. done.0 ≡ device in
    done_then (on_card card) _ P (λ right a.
    done_then (check not_found (has_bit 0x80 flags)) _ P (λ asked b.
    done_then (need not_found (slice_get device.databases start)) _ P (λ database c. refl)))

pub listing_same : (device : Device) (start : ℕ) → (acted (listing start) device).1 ≡ device
unfolding acted tried
listing_same device start =
    outcome_is (λ d. d ≡ device) device 0x16 (read_db_list device 0x80 0 start) refl (list_done device 0x80 0 start)

pub greeting_same : (device : Device) → device_after greeting device ≡ device
unfolding acted tried
greeting_same device = refl

-- ---- what is open under handle 1, and under no other

-- a database of this name, opened in this mode on a handheld at rest, with this record index
abbrev pub opened_on : Device → List ℕ → ℕ → ℕ → Device
opened_on device name mode next = with_handles device (with_handle 1 (Some (record { name = name; mode = mode; next = next })) no_handles)

-- what is open is left open, and all else as it was
pub record KeepsOpen (device : Device) (name : List ℕ) (mode : ℕ) (one : Act) : Type 0 where
  pub at : (next : ℕ) → (later : ℕ) × ((acted one (opened_on device name mode next)).1 ≡ opened_on device name mode later)

pub keeps_same : {device : Device} {name : List ℕ} {mode : ℕ} {one : Act} → ((d : Device) → (acted one d).1 ≡ d) → KeepsOpen device name mode one
keeps_same {device} {name} {mode} same = record { at = λ next. (next, same (opened_on device name mode next)) }

pub keeps_next : (device : Device) (name : List ℕ) (mode : ℕ) → KeepsOpen device name mode (reading_next 1)
unfolding acted tried read_next_modified_rec
keeps_next device name mode = record {
  at = λ next.
      let now = opened_on device name mode next in
      outcome_is (λ d. (later : ℕ) × (d ≡ opened_on device name mode later)) now 0x1F (read_next_modified_rec now 1) (next, refl)
      (done_then (next_of now 1) _ (λ (done : Device × ReplyValue). (later : ℕ) × (done.0 ≡ opened_on device name mode later)) (λ found is.
      (found.0 + 1, refl)));
}

pub after_open : (device : Device) (name : List ℕ) (mode : ℕ) (acts : List Act) (next : ℕ) → AllByRecursion (KeepsOpen device name mode) acts
    → (later : ℕ) × (device_after acts (opened_on device name mode next) ≡ opened_on device name mode later)
after_open device name mode [] next all = (next, refl)
after_open device name mode (one ∷ acts) next all =
    let first = all.0.at next in
    let rest = after_open device name mode acts first.0 all.1 in
    (rest.0, ap (device_after acts) first.1 ∙ rest.1)

-- ---- opening and closing

open_row : (device : Device) (name : List ℕ) → CanOpen device 0 0xD0 name
    → tried 0 device (opening name).asks ≡ Ok (opened_on device name 0xD0 0, reply.OpenDb 1)
unfolding tried open_db
open_row device name can =
    let found = some_with (λ (database : DatabaseValue). (has_bit 0x40 0xD0 && is_read_only database.head.attributes) ≡ false)
    (database_of name device.databases) can.there in
    rw (name_right name can.named, found.1, can.none_open, found.2) refl

pub opens_does : (device : Device) (name : List ℕ) → CanOpen device 0 0xD0 name → (acted (opening name) device).1 ≡ opened_on device name 0xD0 0
opens_does device name can = row_does (opening name) device _ (reply.OpenDb 1) (open_row device name can)

pub closes_does : (device : Device) (name : List ℕ) (mode next : ℕ) → device.handles ≡ no_handles
    → (acted (closing 1) (opened_on device name mode next)).1 ≡ device
unfolding acted tried close_db
closes_does device name mode next closed = ap (with_handles device) (sym closed)

pub leads_to : (device : Device) (name : List ℕ) (mode next : ℕ) (database : DatabaseValue) → database_of name device.databases ≡ Some database
    → base_at (opened_on device name mode next) 1 ≡ Some (record { opened = record { name = name; mode = mode; next = next }; database = database })
leads_to device name mode next database is =
    ap (option_map (λ (d : DatabaseValue). record { opened = record { name = name; mode = mode; next = next }; database = d })) is

-- opened, with acts that keep it open, and closed: all is as before
pub around_same : (device : Device) (name : List ℕ) (acts : List Act) → device.handles ≡ no_handles → CanOpen device 0 0xD0 name
    → AllByRecursion (KeepsOpen device name 0xD0) acts → device_after (opening name ∷ (acts ++ closing 1 ∷ [])) device ≡ device
around_same device name acts closed can all =
    let more = after_open device name 0xD0 acts 0 all in
    ap (device_after (acts ++ closing 1 ∷ [])) (opens_does device name can)
    ∙ after_append acts (closing 1 ∷ []) (opened_on device name 0xD0 0)
    ∙ ap (λ d. (acted (closing 1) d).1) more.1
    ∙ closes_does device name 0xD0 more.0 closed

pub opened_proper : (device : Device) (name : List ℕ) → IsTellable device → IsName name → CanOpen device 0 0xD0 name
    → IsTellable (opened_on device name 0xD0 0)
opened_proper device name proper is can =
    subst IsTellable (opens_does device name can)
    (acted_proper (opening name) device proper (act_sayable (opening name).asks device (open_fits 0xD0 name (lit< tt) is) refl))
