-- A database that is taken away: what the handheld is then, and what room there is.
use Rattle.std.proofs.lemmas.Bool.Decides.{nat_tests}
use Rattle.std.proofs.Common.{arith, ◌≡◌, ◌∙◌, ◌<◌, ◌≤◌, ◌+◌, ap, refl, sym, subst, ℕ, Bool, true, false, cond, not, List, [], ◌∷◌, length}
use Rattle.std.specs.Prelude.{◌||◌, Option, Some, None, is_some, nat_lt}
use Rattle.pdb_values.specs.Databases.{DatabaseValue}
use Rattle.pdb_values.specs.NamedDatabases.{database_of, remove_at, without_named}
use Rattle.pdb_values.specs.Names.{IsName}
use Rattle.pdb_values.proofs.NamedLaws.{bytes_eq-own, database_of-without_named, length-without_named, place_of-none}
use Rattle.palm_device.specs.Devices.{Device}
use Rattle.palm_device.specs.Handles.{is_open, no_handles}
use Rattle.palm_device.specs.Soundness.{IsDevice}
use Rattle.dlp_commands.specs.DatabaseFunctions.{delete_db, named}
use Rattle.dlp_commands.specs.DeviceSteps.{outcome, tried}
use Rattle.dlp_commands.specs.Errors.{already_open, not_found, check, need}
use Rattle.dlp_replies.specs.ReplyValues.{ReplyValue}
use Rattle.desktop_session.specs.Acts.{acted}
use Rattle.desktop_session.specs.Orders.{CanDelete}
use Rattle.desktop_session.specs.Requests.{deleting}
use Rattle.desktop_session.proofs.OrderLaws.{name_right}
use Rattle.desktop_session.proofs.StopLaws.{does_then}
use Rattle.desktop_session.proofs.TellLaws.{done_then}
use Rattle.session_parts.specs.Rests.{IsAtRest}
use Rattle.session_parts.specs.declared.stop.Stop.{Stop}
use Rattle.session_parts.specs.declared.stop.Stop.TheVariants as stop
use Rattle.session_parts.proofs.LinkWords.{Act, Does, Talk, saying}
use Rattle.session_parts.proofs.RestLaws.{outcome_is}
use Rattle.install_backup.specs.Rooms.{IsUnmade, Judges, has_room}

-- where none has its name, all stay
pub without-none : (name : List ℕ) (databases : List DatabaseValue) → database_of name databases ≡ None → without_named name databases ≡ databases
without-none name databases none = ap (λ (o : Option ℕ). remove_at o databases) (place_of-none name databases none)

-- a device with other databases
abbrev pub with_databases : List DatabaseValue → Device → Device
with_databases databases device = record device { databases = databases }

pub deleted : (device : Device) (name : List ℕ) → CanDelete device 0 name
    → (acted (deleting name) device).1 ≡ with_databases (without_named name device.databases) device
unfolding acted tried delete_db
deleted device name can = by (database_of name device.databases) refl
  where
    by : (o : Option DatabaseValue) → database_of name device.databases ≡ o
        → (outcome device 0x1A (delete_db device 0 name)).1 ≡ with_databases (without_named name device.databases) device
    by None none =
        rw (name_right name can.named, none) (sym (ap (λ (databases : List DatabaseValue). with_databases databases device)
        (without-none name device.databases none)))
    by (Some database) there = rw (name_right name can.named, there, can.closed) refl

-- on a handheld on which nothing is open
pub can_delete : (device : Device) (name : List ℕ) → IsName name → device.handles ≡ no_handles → CanDelete device 0 name
can_delete device name is none = record { first = refl; named = is; closed = ap (is_open name) none }

pub deleted-room : (device : Device) (name : List ℕ) → IsDevice device → has_room name (without_named name device.databases) ≡ has_room name device.databases
deleted-room device name sound =
    let databases = device.databases in
    let gone : database_of name (without_named name databases) ≡ None =
    database_of-without_named name name databases sound.names ∙ ap (λ b. cond b None (database_of name databases)) (bytes_eq-own name) in
    let few = sound.few in
    rw gone (by (is_some (database_of name databases)) (length (without_named name databases)) (length databases)
    (length-without_named name databases) few)
  where
    by : (b : Bool) (m n : ℕ) → m + cond b 1 0 ≡ n → n ≤ 200 → nat_lt m 200 ≡ (b || nat_lt n 200)
    by true m n less few = below m (omega arith)
      where
        below : (k : ℕ) → k < 200 → nat_lt k 200 ≡ true
        below k l = grind (arith, nat_tests)
    by false m n same few = ap (λ k. nat_lt k 200) (let is : m ≡ n = omega arith in is)

-- ---- over a link

-- taking it away opens and closes nothing
pub deleting_keeps : (name : List ℕ) (device : Device) → (acted (deleting name) device).1.handles ≡ device.handles
unfolding acted tried delete_db
deleting_keeps name device =
    let P : Device × ReplyValue → Type 0 = λ done. done.0.handles ≡ device.handles in
    outcome_is (λ d. d.handles ≡ device.handles) device 0x1A (delete_db device 0 name) refl
    (done_then (named 0 name) _ P (λ right a.
    done_then (need not_found (database_of name device.databases)) _ P (λ database b.
    done_then (check already_open (not (is_open name device.handles))) _ P (λ closed c. refl))))

-- what holds of the room behind it, holds of the room before
pub judged_before : (name : List ℕ) (room : Bool) (o : Option Talk) → Judges (λ (device : Device). device.handles ≡ no_handles) room name
    (saying (deleting name ∷ []) o) → Judges (λ (device : Device). IsAtRest device × IsName name) room name o
unfolding saying
judged_before name room None judged = tt
judged_before name room (Some talk) judged = λ holds.
    let is = deleted talk.device name (can_delete talk.device name holds.1 holds.0.closed) in
    sym (deleted-room talk.device name holds.0.proper.sound) ∙ ap (λ (d : Device). has_room name d.databases) (sym is)
    ∙ judged (ap (λ (d : Device). d.handles) is ∙ holds.0.closed)

-- why it was not made behind it, is why it was not installed
pub unmade_before : {L : Type 0} (talk : L → Option Talk) (made : Act) (name : List ℕ) (old now new : L) (why : Stop) → Does talk (deleting name ∷ []) old now
    → IsUnmade talk (λ (device : Device). device.handles ≡ no_handles) (made ∷ []) name now new why
    → IsUnmade talk (λ (device : Device). IsAtRest device × IsName name) (deleting name ∷ made ∷ []) name old new why
unmade_before talk made name old now new (stop.Session cause) before is = is
unmade_before talk made name old now new (stop.Limit other) before is = (
  is.0,
  does_then talk (deleting name ∷ []) (made ∷ []) old now new before is.1,
  judged_before name false (talk old) (subst (λ (o : Option Talk). Judges (λ (device : Device). device.handles ≡ no_handles) false name o) before.said is.2),
)
unmade_before talk made name old now new (stop.NewHandheld other) before is = absurd is
unmade_before talk made name old now new stop.DeskFault before is = absurd is
