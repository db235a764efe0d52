-- The requests of a backup, and what they leave of a handheld.
use Rattle.std.proofs.lemmas.Grind.{flat_map-append}
use Rattle.std.proofs.lemmas.List.{length-append, map-append, take-append-drop}
use Rattle.std.proofs.lemmas.List.Elements.{filter-append}
use Rattle.std.proofs.Common.{◌≡◌, ◌≢◌, ◌∙◌, ◌<◌, ◌≤◌, ◌+◌, ap, append_assoc, refl, sym, arith, ℕ, zero, suc, Bool, true, false, List, [], ◌∷◌, ◌++◌, drop, length, take}
use Rattle.std.specs.Prelude.{filter, map, max}
use Rattle.std.specs.List.{flat_map}
use Rattle.pdb_values.specs.Databases.{DatabaseValue}
use Rattle.pdb_values.specs.Heads.{holds_resources}
use Rattle.palm_device.specs.Blocks.{entry_count}
use Rattle.palm_device.specs.Devices.{Device}
use Rattle.dlp_commands.specs.Changes.{changes, is_change}
use Rattle.dlp_commands.specs.DeviceSteps.{function_number}
use Rattle.dlp_commands.proofs.StepLaws.{changes-text}
use Rattle.desktop_session.specs.Acts.{Act, text}
use Rattle.desktop_session.specs.Lists.{listings}
use Rattle.desktop_session.specs.Requests.{beginning, closing, counting, ending, listing, opening_to_read, reading_app, reading_at, reading_resource, reading_sort, reading_user}
use Rattle.desktop_session.specs.Says.{IsPrefix}
use Rattle.session_parts.specs.Fronts.{Front}
use Rattle.session_parts.specs.Meets.{greeting}
use Rattle.session_parts.specs.Quiet.{AreQuiet}
use Rattle.install_backup.specs.BackupActs.{backup_acts, backup_of, each_read, entry_reads}
use Rattle.install_backup.specs.BackupEnds.{backup_front, next_of}
use Rattle.call_parts.proofs.EndLaws.{prefix-count}
use Rattle.cmd_files.proofs.QuietRuns.{IsKept, quiet-run}
use Rattle.sync_session.proofs.QuietLaws.{keeps as passed}

-- ---- how far it came

acts-are : (device : Device) → backup_acts device ≡ backup_front device ++ (flat_map backup_of device.databases ++ ending ∷ [])
unfolding backup_acts
acts-are device = sym (append_assoc greeting (listings (max 1 (length device.databases))) (flat_map backup_of device.databases ++ ending ∷ []))

-- the readings of the first ones and of the later ones are all
joined : (device : Device) (kept later : List DatabaseValue) → kept ++ later ≡ device.databases
    → backup_front device ++ (flat_map backup_of kept ++ (flat_map backup_of later ++ ending ∷ [])) ≡ backup_acts device
joined device kept later parts =
    ap (λ (acts : List Act). backup_front device ++ acts)
    (sym (append_assoc (flat_map backup_of kept) (flat_map backup_of later) (ending ∷ []))
    ∙ ap (λ (acts : List Act). acts ++ ending ∷ []) (sym (flat_map-append backup_of kept later)
    ∙ ap (λ (databases : List DatabaseValue). flat_map backup_of databases) parts))
    ∙ sym (acts-are device)

abbrev behind_next : List DatabaseValue → List Act
behind_next [] = []
behind_next (database ∷ later) = flat_map backup_of later ++ ending ∷ []

next-joined : (later : List DatabaseValue) → next_of later ++ behind_next later ≡ flat_map backup_of later ++ ending ∷ []
next-joined [] = refl
next-joined (database ∷ later) = sym (append_assoc (backup_of database) (flat_map backup_of later) (ending ∷ []))

all-joined : (device : Device) (kept later : List DatabaseValue) → kept ++ later ≡ device.databases
    → (backup_front device ++ (flat_map backup_of kept ++ next_of later)) ++ behind_next later ≡ backup_acts device
all-joined device kept later parts =
    append_assoc (backup_front device) (flat_map backup_of kept ++ next_of later) (behind_next later)
    ∙ ap (λ (acts : List Act). backup_front device ++ acts) (append_assoc (flat_map backup_of kept) (next_of later) (behind_next later)
    ∙ ap (λ (acts : List Act). flat_map backup_of kept ++ acts) (next-joined later))
    ∙ joined device kept later parts

-- what may be asked for where so many are kept begins the whole
pub next-begins : (device : Device) (kept later : List DatabaseValue) → kept ++ later ≡ device.databases
    → IsPrefix (map text (backup_front device ++ (flat_map backup_of kept ++ next_of later))) (map text (backup_acts device))
next-begins device kept later parts = record {
  rest = map text (behind_next later);
  is = sym (map-append text (backup_front device ++ (flat_map backup_of kept ++ next_of later)) (behind_next later))
      ∙ ap (λ (acts : List Act). map text acts) (all-joined device kept later parts);
}

behind-some : (later : List DatabaseValue) → later ≢ [] → 0 < length (map text (behind_next later))
behind-some [] some = absurd (some refl)
behind-some (database ∷ later) some =
    let parts = ap (λ (requests : List (List ℕ)). length requests) (map-append text (flat_map backup_of later) (ending ∷ [])) in
    let sum = length-append (map text (flat_map backup_of later)) (map text (ending ∷ [])) in
    omega (arith, parts, sum)

fewer : (first more both all : ℕ) → both ≡ first + more → both ≡ all → 0 < more → first < all
fewer first more both all parts same some = omega (arith, parts, same, some)

-- where one is left it is not all
pub next-shorter : (device : Device) (kept later : List DatabaseValue) → kept ++ later ≡ device.databases → later ≢ []
    → length (map text (backup_front device ++ (flat_map backup_of kept ++ next_of later))) < length (map text (backup_acts device))
next-shorter device kept later parts some =
    let first : List Act = backup_front device ++ (flat_map backup_of kept ++ next_of later) in
    let both = ap (λ (requests : List (List ℕ)). length requests) (map-append text first (behind_next later)) in
    let whole = ap (λ (acts : List Act). length (map text acts)) (all-joined device kept later parts) in
    fewer (length (map text first)) (length (map text (behind_next later))) (length (map text (first ++ behind_next later)))
    (length (map text (backup_acts device))) (both ∙ length-append (map text first) (map text (behind_next later))) whole (behind-some later some)

pub some-acts : (device : Device) → 0 < length (map text (backup_acts device))
unfolding backup_acts
some-acts device = omega arith

-- ---- it writes nothing

changes-act : (one : Act) → changes (text one) ≡ is_change (function_number one.asks)
unfolding text
changes-act one = changes-text one.asks

quiet-one : (one : Act) (acts : List Act) → is_change (function_number one.asks) ≡ false → AreQuiet acts → AreQuiet (one ∷ acts)
quiet-one one acts is rest = passed (changes (text one)) (text one) (filter changes (map text acts)) (changes-act one ∙ is) ∙ rest

quiet-both : (xs ys : List Act) → AreQuiet xs → AreQuiet ys → AreQuiet (xs ++ ys)
quiet-both xs ys first second =
    ap (λ (requests : List (List ℕ)). filter changes requests) (map-append text xs ys) ∙ filter-append changes (map text xs) (map text ys)
    ∙ ap (λ (requests : List (List ℕ)). requests ++ filter changes (map text ys)) first ∙ second

quiet-listings : (count : ℕ) → AreQuiet (listings count)
unfolding listings
quiet-listings zero = refl
quiet-listings (suc count) = quiet-both (listings count) (listing count ∷ []) (quiet-listings count) (quiet-one (listing count) [] refl refl)

quiet-each : (asks : ℕ → Act) → ((place : ℕ) → is_change (function_number (asks place).asks) ≡ false) → (count : ℕ) → AreQuiet (each_read asks count)
unfolding each_read
quiet-each asks reads zero = refl
quiet-each asks reads (suc count) =
    quiet-both (each_read asks count) (asks count ∷ []) (quiet-each asks reads count) (quiet-one (asks count) [] (reads count) refl)

quiet-entries : (of_resources : Bool) (handle count : ℕ) → AreQuiet (entry_reads of_resources handle count)
quiet-entries true handle count = quiet-each (reading_resource handle) (λ place. refl) count
quiet-entries false handle count = quiet-each (reading_at handle) (λ place. refl) count

quiet-database : (database : DatabaseValue) → AreQuiet (backup_of database)
unfolding backup_of
quiet-database database =
    let entries : List Act = entry_reads (holds_resources database.head.attributes) 1 (entry_count database) in
    quiet-one (opening_to_read database.head.name) (counting 1 ∷ reading_app 1 ∷ reading_sort 1 ∷ (entries ++ closing 1 ∷ [])) refl
    (quiet-one (counting 1) (reading_app 1 ∷ reading_sort 1 ∷ (entries ++ closing 1 ∷ [])) refl
    (quiet-one (reading_app 1) (reading_sort 1 ∷ (entries ++ closing 1 ∷ [])) refl
    (quiet-one (reading_sort 1) (entries ++ closing 1 ∷ []) refl
    (quiet-both entries (closing 1 ∷ []) (quiet-entries (holds_resources database.head.attributes) 1 (entry_count database))
    (quiet-one (closing 1) [] refl refl)))))

quiet-databases : (databases : List DatabaseValue) → AreQuiet (flat_map backup_of databases)
quiet-databases [] = refl
quiet-databases (database ∷ databases) =
    quiet-both (backup_of database) (flat_map backup_of databases) (quiet-database database) (quiet-databases databases)

quiet-acts : (device : Device) → AreQuiet (backup_acts device)
unfolding backup_acts
quiet-acts device =
    quiet-both greeting (listings (max 1 (length device.databases)) ++ (flat_map backup_of device.databases ++ ending ∷ []))
    (quiet-one reading_user (beginning ∷ []) refl (quiet-one beginning [] refl refl))
    (quiet-both (listings (max 1 (length device.databases))) (flat_map backup_of device.databases ++ ending ∷ [])
    (quiet-listings (max 1 (length device.databases)))
    (quiet-both (flat_map backup_of device.databases) (ending ∷ []) (quiet-databases device.databases) (quiet-one ending [] refl refl)))

pub none-of : (requests : List (List ℕ)) → length requests ≤ 0 → requests ≡ []
none-of [] few = refl
none-of (x ∷ requests) few = absurd (omega (arith, few))

quiet-front : (device : Device) (count : ℕ) → filter changes (take count (map text (backup_acts device))) ≡ []
quiet-front device count =
    let asked = map text (backup_acts device) in
    let begins : IsPrefix (take count asked) asked = record { rest = drop count asked; is = take-append-drop count asked } in
    let few = prefix-count begins in
    let none = ap (λ (requests : List (List ℕ)). length requests) (quiet-acts device) in
    none-of (filter changes (take count asked)) (omega (arith, few, none))

-- so a handheld keeps its databases and its user, wherever it stops
pub front-kept : (device after : Device) (writes : ℕ) (given : List ℕ) → Front device (map text (backup_acts device)) writes given after
    → IsKept device after
front-kept device after writes given front =
    let kept = quiet-run (take front.count (map text (backup_acts device))) front.replies device front.reached (quiet-front device front.count)
    front.run.ran in
    record { databases = front.databases ∙ kept.databases; user = front.user ∙ kept.user }

pub front-writes : (device after : Device) (writes : ℕ) (given : List ℕ) → Front device (map text (backup_acts device)) writes given after → writes ≡ 0
front-writes device after writes given front =
    sym front.holds ∙ ap (λ (requests : List (List ℕ)). length requests) (quiet-front device front.count)
