-- An open database's handle stands for it from the opening to the closing.
use Rattle.std.proofs.Common.{◌≡◌, ◌<◌, refl, ℕ, zero, suc, List, [], ◌∷◌, length, arith}
use Rattle.std.proofs.lemmas.List.Quantifiers.{position-Some}
use Rattle.std.specs.Prelude.{Option, Some, None, Result, Ok, slice_get, slice_set}
use Rattle.std.specs.Option.{option_map}
use Rattle.pdb_values.specs.declared.head.DbHead.{DbHead}
use Rattle.dlp_args.specs.Fields.{Fields}
use Rattle.dlp_requests.specs.Forms.{Form, kinds_of}
use Rattle.dlp_replies.specs.ReplyValues as reply
use Rattle.dlp_replies.specs.ReplyValues.{ReplyValue}
use Rattle.palm_device.specs.Devices.{Device}
use Rattle.palm_device.specs.Handles.{Base, base_at, free_handle, joined, just_opened, opened_at, with_handle}
use Rattle.palm_device.specs.declared.opened.Opened.{Opened}
use Rattle.dlp_commands.specs.DatabaseFunctions.{create_db, delete_db, open_db, read_db_list}
use Rattle.dlp_commands.specs.DeviceSteps.{outcome, tried, tried_by}
use Rattle.dlp_commands.specs.Errors.{◌>>=◌, need}
use Rattle.dlp_commands.specs.Reached.{Trial, read_next_modified_rec, reads, reset_record_index, with_index, with_next, writes}
use Rattle.dlp_commands.specs.UserFunctions.{write_user_info}
use Rattle.dlp_commands.specs.Writings.{WritingValue}
use Rattle.dlp_commands.specs.declared.reading.Reading.{Reading}
use Rattle.desktop_session.specs.Acts.{Act, acted}
use Rattle.desktop_session.specs.Opens.{IsOpenAs, LeavesOpen}
use Rattle.desktop_session.specs.Requests.{closing, making, opening_in}
use Rattle.desktop_session.specs.Tellings.{tells, told}
use Rattle.desktop_session.proofs.RowLaws.{close_row}
use Rattle.desktop_session.proofs.TellLaws.{IfDone, done_then, need_some}
use Rattle.std.proofs.lemmas.Grind.{common_steps}
use Rattle.std.proofs.lemmas.Bool.Decides.{nat_tests}
use Rattle.std.proofs.Common.{rules}

-- ---- what is open under each handle, but for its record index, stays

Stays : List (Option Opened) → Device × ReplyValue → Type 0
Stays handles done = (handle : ℕ) → option_map (with_next 0) (opened_at handle done.0.handles) ≡ option_map (with_next 0) (opened_at handle handles)

reads_stay : (device : Device) (handle : ℕ) (asked : Reading) → IfDone (Stays device.handles) (reads device handle asked)
unfolding Stays
reads_stay device handle asked = search (rules, done_then)

writes_stay : (free : ℕ) (device : Device) (handle : ℕ) (asked : WritingValue) → IfDone (Stays device.handles) (writes free device handle asked)
unfolding Stays
writes_stay free device handle asked = search (rules, done_then)

-- another record index under a handle

next_same : (next : ℕ) (o : Option Opened) → option_map (with_next 0) (option_map (with_next next) o) ≡ option_map (with_next 0) o
next_same next None = refl
next_same next (Some opened) = refl

at_place : (handles : List (Option Opened)) (k o next : ℕ)
    → option_map (with_next 0) (joined (slice_get (slice_set handles k (option_map (with_next next) (joined (slice_get handles k)))) o))
    ≡ option_map (with_next 0) (joined (slice_get handles o))
at_place (y ∷ ys) zero zero next = next_same next y
at_place (y ∷ ys) (suc k) (suc o) next = at_place ys k o next
at_place handles k o next = refl

-- handle 1 has the first place

pub opened_suc : (handles : List (Option Opened)) (k : ℕ) → opened_at (suc k) handles ≡ joined (slice_get handles k)
opened_suc handles k = grind (arith, common_steps, nat_tests)

pub with_suc : (handles : List (Option Opened)) (k : ℕ) (slot : Option Opened) → with_handle (suc k) slot handles ≡ slice_set handles k slot
with_suc handles k slot = grind (arith, common_steps, nat_tests)

index_stays : (device : Device) (handle next : ℕ) {base : Base} (answer : ReplyValue) → base_at device handle ≡ Some base
    → Stays device.handles (with_index device handle next, answer)
unfolding Stays
index_stays device handle next answer is other = search (rules, opened_suc, with_suc, at_place)

found_then : {A B : Type 0} (code : ℕ) (o : Option A) (f : A → Result B ℕ) {y : B} → (need code o >>= f) ≡ Ok y → (x : A) × (o ≡ Some x)
found_then code (Some x) f is = (x, refl)
found_then code None f is = cc

next_stays : (device : Device) (handle : ℕ) → IfDone (Stays device.handles) (read_next_modified_rec device handle)
unfolding read_next_modified_rec
next_stays device handle = search (rules, done_then, found_then, index_stays)

reset_stays : (device : Device) (handle : ℕ) → IfDone (Stays device.handles) (reset_record_index device handle)
unfolding reset_record_index
reset_stays device handle = search (rules, done_then, index_stays, need_some)

list_stays : (device : Device) (flags card start : ℕ) → IfDone (Stays device.handles) (read_db_list device flags card start)
unfolding Stays read_db_list
list_stays device flags card start = search (rules, done_then)

delete_stays : (device : Device) (card : ℕ) (name : List ℕ) → IfDone (Stays device.handles) (delete_db device card name)
unfolding Stays delete_db
delete_stays device card name = search (rules, done_then)

mark_stays : (device : Device) (user viewer pc : ℕ) (date : List ℕ) (bits name_len : ℕ) (name : Option (List ℕ))
    → IfDone (Stays device.handles) (write_user_info device user viewer pc date bits name_len name)
unfolding Stays write_user_info
mark_stays device user viewer pc date bits name_len name = search (rules, done_then)

all_stay : (free : ℕ) (device : Device) (f : Form) (fields : Fields (kinds_of f)) → LeavesOpen f
    → IfDone (Stays device.handles) (tried_by free device f fields)
unfolding Stays
all_stay free device f fields leaves = search (rules, mark_stays, list_stays, delete_stays, reads_stay, writes_stay, next_stays, reset_stays)

outcome_stays : (device : Device) (number handle : ℕ) (r : Trial) → IfDone (Stays device.handles) r
    → option_map (with_next 0) (opened_at handle (outcome device number r).1.handles) ≡ option_map (with_next 0) (opened_at handle device.handles)
unfolding Stays
outcome_stays device number handle r stays = grind (arith, common_steps, nat_tests)

pub open_stays : (one : Act) (device : Device) (handle mode : ℕ) (name : List ℕ) → LeavesOpen one.asks.form → IsOpenAs handle name mode device
    → IsOpenAs handle name mode (acted one device).1
unfolding acted tried
open_stays one device handle mode name leaves is = search (rules, outcome_stays, all_stay)

-- ---- the opening

set_there : {A : Type 0} (xs : List A) (k : ℕ) (x : A) → k < length xs → slice_get (slice_set xs k x) k ≡ Some x
set_there [] k x within = absurd (omega arith)
set_there (y ∷ ys) zero x within = refl
set_there (y ∷ ys) (suc k) x within = set_there ys k x (omega arith)

map_some : {A B : Type 0} (f : A → B) (o : Option A) {y : B} → option_map f o ≡ Some y → (x : A) × (o ≡ Some x) × (f x ≡ y)
map_some f (Some x) is = (x, refl, cc)
map_some f None is = cc

under_free : (handles : List (Option Opened)) {handle : ℕ} {opened : Opened} → free_handle handles ≡ Some handle
    → opened_at handle (with_handle handle (Some opened) handles) ≡ Some opened
under_free handles is = grind (arith, common_steps, nat_tests, map_some, position-Some, opened_suc, with_suc, set_there)

-- it was opened under the handle that the reply says
Opened_under : List ℕ → ℕ → (ℕ → ReplyValue) → Device × ReplyValue → Type 0
Opened_under name mode says done = (handle : ℕ) × (done.1 ≡ says handle) × (opened_at handle done.0.handles ≡ Some (just_opened name mode))

opened_done : (device : Device) (mode : ℕ) (name : List ℕ) → IfDone (Opened_under name mode reply.OpenDb) (open_db device 0 mode name)
unfolding Opened_under open_db
opened_done device mode name = search (rules, done_then, under_free, need_some)

made_done : (device : Device) (creator kind : List ℕ) (flags version : ℕ) (name : List ℕ)
    → IfDone (Opened_under name 0xC0 reply.CreateDb) (create_db device creator kind 0 flags version name)
unfolding Opened_under create_db
made_done device creator kind flags version name = search (rules, done_then, under_free, need_some)

opened_by : (device : Device) {handle : ℕ} (number mode : ℕ) (name : List ℕ) (r : Trial) → IfDone (Opened_under name mode reply.OpenDb) r
    → tells number r ≡ reply.OpenDb handle → IsOpenAs handle name mode (outcome device number r).1
unfolding Opened_under
opened_by device number mode name r opens is = search (rules)

made_by : (device : Device) {handle : ℕ} (number mode : ℕ) (name : List ℕ) (r : Trial) → IfDone (Opened_under name mode reply.CreateDb) r
    → tells number r ≡ reply.CreateDb handle → IsOpenAs handle name mode (outcome device number r).1
unfolding Opened_under
made_by device number mode name r opens is = search (rules)

pub opens_named : (device : Device) (mode handle : ℕ) (name : List ℕ) → told (opening_in mode name) device ≡ reply.OpenDb handle
    → IsOpenAs handle name mode (acted (opening_in mode name) device).1
unfolding told acted tried
opens_named device mode handle name is = search (rules, opened_by, opened_done)

pub makes_named : (device : Device) (head : DbHead) (handle : ℕ) → told (making head) device ≡ reply.CreateDb handle
    → IsOpenAs handle head.name 0xC0 (acted (making head) device).1
unfolding told acted tried
makes_named device head handle is = search (rules, made_by, made_done)

-- ---- the closing

pub closes_named : (device : Device) (handle mode : ℕ) (name : List ℕ) → IsOpenAs handle name mode device
    → told (closing handle) device ≡ reply.CloseDb
unfolding told
closes_named device handle mode name is = grind (arith, common_steps, nat_tests, map_some, close_row)
