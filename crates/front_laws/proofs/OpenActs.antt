-- What acts make of a handheld whose one open database is under handle 1.
use Rattle.std.proofs.Common.{arith, ◌≡◌, ◌∙◌, ◌+◌, ◌*◌, refl, ap, ℕ, zero, suc, false, List, [], ◌∷◌, ◌++◌}
use Rattle.std.specs.Prelude.{Some, Result, Ok, Err, replicate, flat_map}
use Rattle.pdb_values.specs.Databases.{DatabaseValue}
use Rattle.pdb_values.specs.NamedDatabases.{database_of}
use Rattle.pdb_values.specs.Names.{IsName}
use Rattle.pdb_values.specs.declared.user.UserInfo.{UserInfo}
use Rattle.dlp_replies.specs.ReplyValues as reply
use Rattle.dlp_replies.specs.ReplyValues.{ReplyValue}
use Rattle.palm_device.specs.Devices.{Device}
use Rattle.palm_device.specs.Handles.{just_opened, no_handles, with_handle}
use Rattle.palm_device.specs.Heads.{is_read_only}
use Rattle.palm_device.specs.declared.opened.Opened.{Opened}
use Rattle.dlp_commands.specs.DatabaseFunctions.{open_db}
use Rattle.dlp_commands.specs.DeviceSteps.{outcome, tried}
use Rattle.dlp_commands.specs.Errors.{◌>>=◌}
use Rattle.dlp_commands.specs.Reached.{next_of, read_next_modified_rec, reads as reached, with_index, with_next}
use Rattle.dlp_commands.specs.declared.reading.Reading.{Reading}
use Rattle.dlp_commands.specs.declared.reading.Reading.TheVariants as reading
use Rattle.desktop_session.specs.Acts.{Act, acted}
use Rattle.desktop_session.specs.Lists.{id_listings, listings}
use Rattle.desktop_session.specs.Requests.{beginning, closing, counting, listing, listing_ids, opening, reading_at, reading_next, reading_of, reading_user}
use Rattle.desktop_session.specs.Tellings.{device_after}
use Rattle.desktop_session.proofs.ChangeRows.{row_does}
use Rattle.desktop_session.proofs.OrderLaws.{name_right}
use Rattle.desktop_session.proofs.RowLaws.{close_row}
use Rattle.mirrors.specs.Reads as slow
use Rattle.session_parts.proofs.RestLaws.{listing_same}
use Rattle.desktop_session.proofs.ListLaws.{after_append}

-- nothing is open
abbrev pub all_closed : List DatabaseValue → UserInfo → Device
all_closed databases user = record { databases = databases; user = user; handles = no_handles }

-- this is open under handle 1, and nothing else is
abbrev pub one_open : Opened → List DatabaseValue → UserInfo → Device
one_open o databases user = record { databases = databases; user = user; handles = with_handle 1 (Some o) no_handles }

-- ---- the opening and the closing

module _ (databases : List DatabaseValue) (user : UserInfo) {name : List ℕ} {d : DatabaseValue} (named : IsName name)
    (here : database_of name databases ≡ Some d) (writable : is_read_only d.head.attributes ≡ false) where
  open_row : tried 0 (all_closed databases user) (opening name).asks ≡ Ok (one_open (just_opened name 0xD0) databases user, reply.OpenDb 1)
  unfolding tried open_db
  open_row = rw (name_right name named, here, writable) refl

  pub open_does : (acted (opening name) (all_closed databases user)).1 ≡ one_open (just_opened name 0xD0) databases user
  open_does =
      row_does (opening name) (all_closed databases user) (one_open (just_opened name 0xD0) databases user) (reply.OpenDb 1) open_row

pub close_does : (o : Opened) (databases : List DatabaseValue) (user : UserInfo)
    → (acted (closing 1) (one_open o databases user)).1 ≡ all_closed databases user
close_does o databases user =
    row_does (closing 1) (one_open o databases user) (all_closed databases user) reply.CloseDb (close_row (one_open o databases user) 1 o refl)

-- ---- a request that only reads leaves the device as it is

Same : Device → Device × ReplyValue → Type 0
Same device done = done.0 ≡ device

reached_same : (device : Device) (number handle : ℕ) (asked : Reading) → (outcome device number (reached device handle asked)).1 ≡ device
unfolding Same
reached_same device number handle asked = grind (arith, Same device)

pub user_same : (device : Device) → (acted reading_user device).1 ≡ device
unfolding acted tried
user_same device = refl

pub begin_same : (device : Device) → (acted beginning device).1 ≡ device
unfolding acted tried
begin_same device = refl

pub lists_same : (device : Device) (count : ℕ) → device_after (listings count) device ≡ device
unfolding listings
lists_same device zero = refl
lists_same device (suc count) =
    grind (arith, after_append (listings count) (listing count ∷ []) device, lists_same device count, listing_same device count)

pub count_same : (device : Device) → (acted (counting 1) device).1 ≡ device
unfolding acted tried
count_same device = reached_same device 0x2B 1 reading.EntryCount

pub at_same : (index : ℕ) (device : Device) → (acted (reading_at 1 index) device).1 ≡ device
unfolding acted tried
at_same index device = reached_same device 0x20 1 (reading.RecordAt index 0 65535)

pub of_same : (id : ℕ) (device : Device) → (acted (reading_of 1 id) device).1 ≡ device
unfolding acted tried
of_same id device = reached_same device 0x20 1 (reading.RecordOfId id 0 65535)

pub ids_same : (start : ℕ) (device : Device) → (acted (listing_ids 1 start) device).1 ≡ device
unfolding acted tried
ids_same start device = reached_same device 0x31 1 (reading.RecordIds start 8000)

-- ---- what is open stays open, with another record index

unfoldable pub KeepsOpen : List Act → Type 0
KeepsOpen acts = (o : Opened) (databases : List DatabaseValue) (user : UserInfo)
    → (next : ℕ) × (device_after acts (one_open o databases user) ≡ one_open (with_next next o) databases user)

pub keeps-nil : KeepsOpen []
unfolding KeepsOpen
keeps-nil o databases user = (o.next, refl)

pub keeps-same : (act : Act) → ((device : Device) → (acted act device).1 ≡ device) → KeepsOpen (act ∷ [])
unfolding KeepsOpen
keeps-same act same o databases user = (o.next, same (one_open o databases user))

pub keeps-append : (xs ys : List Act) → KeepsOpen xs → KeepsOpen ys → KeepsOpen (xs ++ ys)
unfolding KeepsOpen
keeps-append xs ys first second o databases user =
    let a = first o databases user in
    let b = second (with_next a.0 o) databases user in (
      b.0,
      after_append xs ys (one_open o databases user) ∙ ap (device_after ys) a.1 ∙ b.1,
    )

pub keeps-next : KeepsOpen (reading_next 1 ∷ [])
unfolding KeepsOpen acted tried read_next_modified_rec
keeps-next o databases user = by (next_of (one_open o databases user) 1)
  where
    by : (r : Result (ℕ × ReplyValue) ℕ)
        → (next : ℕ) × ((outcome (one_open o databases user) 0x1F (r >>= λ found. Ok (with_index (one_open o databases user) 1 (found.0 + 1), found.1))).1
        ≡ one_open (with_next next o) databases user)
    by (Ok found) = (found.0 + 1, refl)
    by (Err code) = (o.next, refl)

pub keeps-replicate : (n : ℕ) (act : Act) → KeepsOpen (act ∷ []) → KeepsOpen (replicate n act)
keeps-replicate zero act keeps = keeps-nil
keeps-replicate (suc n) act keeps = keeps-append (act ∷ []) (replicate n act) keeps (keeps-replicate n act keeps)

pub keeps-flat_map : {A : Type 0} (f : A → List Act) (xs : List A) → ((x : A) → KeepsOpen (f x)) → KeepsOpen (flat_map f xs)
keeps-flat_map f [] each = keeps-nil
keeps-flat_map f (x ∷ xs) each = keeps-append (f x) (flat_map f xs) (each x) (keeps-flat_map f xs each)

pub keeps-id_listings : (n : ℕ) → KeepsOpen (id_listings 1 n)
unfolding id_listings
keeps-id_listings zero = keeps-nil
keeps-id_listings (suc n) =
    keeps-append (id_listings 1 n) (listing_ids 1 (8000 * n) ∷ []) (keeps-id_listings n) (keeps-same (listing_ids 1 (8000 * n)) (ids_same (8000 * n)))

keeps-each : (n : ℕ) → KeepsOpen (slow.reads 1 n)
unfolding slow.reads
keeps-each zero = keeps-nil
keeps-each (suc n) = keeps-append (slow.reads 1 n) (reading_at 1 n ∷ []) (keeps-each n) (keeps-same (reading_at 1 n) (at_same n))

pub keeps-slow : (count : ℕ) → KeepsOpen (slow.slow_reads 1 count)
keeps-slow count = keeps-append (counting 1 ∷ []) (slow.reads 1 count) (keeps-same (counting 1) count_same) (keeps-each count)

-- ---- a whole stretch

-- what is done while a database is open
pub around : (first : Act) (acts : List Act) (old : Device) (o p : Opened) (databases after : List DatabaseValue) (user : UserInfo)
    → (acted first old).1 ≡ one_open o databases user → device_after acts (one_open o databases user) ≡ one_open p after user
    → device_after (first ∷ (acts ++ closing 1 ∷ [])) old ≡ all_closed after user
around first acts old o p databases after user opens does =
    grind (arith, [], after_append acts (closing 1 ∷ []) (one_open o databases user), close_does p after user)
