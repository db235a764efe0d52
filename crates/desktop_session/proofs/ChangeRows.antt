-- What a session makes and marks at a device where it can be done: rows of the table.
use Rattle.std.proofs.Common.{◌≡◌, ◌≤◌, ◌<◌, ◌^◌, refl, ℕ, Bool, true, false, cond, List, [], length, le-ltb}
use Rattle.std.specs.Prelude.{Option, Some, None, Ok, IsSome, ◌==◌, replicate}
use Rattle.std.specs.List.{list_any}
use Rattle.pdb_values.specs.NamedDatabases.{with_new}
use Rattle.pdb_values.specs.PalmDates.{read_wire, wire_date}
use Rattle.pdb_values.specs.Users.{user_name_of}
use Rattle.pdb_values.specs.declared.head.DbHead.{DbHead}
use Rattle.pdb_values.specs.declared.user.UserInfo.{UserInfo}
use Rattle.pdb_values.proofs.DateLaws.{read_wire_of_wire_date}
use Rattle.dlp_replies.specs.ReplyValues as reply
use Rattle.dlp_replies.specs.ReplyValues.{ReplyValue}
use Rattle.palm_device.specs.Blocks.{empty_database}
use Rattle.palm_device.specs.Devices.{Device}
use Rattle.palm_device.specs.Handles.{just_opened, no_handles, with_handle}
use Rattle.palm_device.specs.Heads.{new_head}
use Rattle.dlp_commands.specs.DatabaseFunctions.{create_db}
use Rattle.dlp_commands.specs.DeviceSteps.{tried}
use Rattle.dlp_commands.specs.UserFunctions.{chosen, name_or_empty, with_marks, write_user_info}
use Rattle.desktop_session.specs.Acts.{Act, acted}
use Rattle.desktop_session.specs.Orders.{CanMake, IsMark, IsPossible}
use Rattle.desktop_session.specs.Requests.{making, marking, some_name}
use Rattle.desktop_session.specs.Tellings.{told}
use Rattle.desktop_session.proofs.OrderLaws.{below_is, name_right, same_is}
use Rattle.std.proofs.Common.{rules}

-- ---- a row says what is told, and what the device is then

pub row_tells : (one : Act) {new : Device} (device : Device) {answer : ReplyValue} → tried one.given device one.asks ≡ Ok (new, answer)
    → told one device ≡ answer
unfolding told
row_tells one device is = cc

pub row_does : (one : Act) (device new : Device) (answer : ReplyValue) → tried one.given device one.asks ≡ Ok (new, answer) → (acted one device).1 ≡ new
unfolding acted
row_does one device new answer is = cc

-- ---- CreateDB

make_row : {device : Device} (head : DbHead) → CanMake device 0 head.name
    → tried 0 device (making head).asks ≡ Ok (
      record device {
        databases = with_new (empty_database (new_head head.name head.kind.0 head.creator.0 head.attributes head.version)) device.databases;
        handles = with_handle 1 (Some (just_opened head.name 0xC0)) no_handles;
      },
      reply.CreateDb 1,
    )
unfolding tried create_db
make_row head can = search (rules, name_right, below_is)

pub made_tells : (device : Device) (head : DbHead) → CanMake device 0 head.name → told (making head) device ≡ reply.CreateDb 1
made_tells device head can = row_tells (making head) device (make_row head can)

pub made_does : (device : Device) (head : DbHead) → CanMake device 0 head.name
    → (acted (making head) device).1 ≡ record device {
      databases = with_new (empty_database (new_head head.name head.kind.0 head.creator.0 head.attributes head.version)) device.databases;
      handles = with_handle 1 (Some (just_opened head.name 0xC0)) no_handles;
    }
made_does device head can = row_does (making head) device _ (reply.CreateDb 1) (make_row head can)

-- ---- WriteUserInfo

again : {A : Type 0} (b : Bool) (x y z : A) → cond b (cond b x y) z ≡ cond b x z
again true x y z = refl
again false x y z = refl

date_read : (b : Bool) (seconds : ℕ) → seconds < 2 ^ 32 → read_wire (cond b (wire_date seconds) (replicate 8 0)) ≡ Some (cond b seconds 0)
date_read true seconds small = read_wire_of_wire_date seconds small
date_read false seconds small = refl

plain_name : {name : List ℕ} → length name ≤ 40 → list_any (λ byte. byte == 0) name ≡ false → user_name_of name ≡ Some name
plain_name short none = search (rules, le-ltb)

name_read : (b : Bool) (name : List ℕ) → length name ≤ 40 → list_any (λ byte. byte == 0) name ≡ false
    → user_name_of (name_or_empty (cond b (some_name name) None)) ≡ Some (cond b name [])
name_read b name short none = search (rules, plain_name)

marks_again : (bits : ℕ) (mark old : UserInfo)
    → with_marks bits (chosen 0x80 bits mark.user 0) (chosen 0x08 bits mark.viewer 0) (chosen 0x40 bits mark.pc 0) (chosen 0x20 bits mark.last 0)
    (chosen 0x10 bits mark.name []) old
    ≡ with_marks bits mark.user mark.viewer mark.pc mark.last mark.name old
marks_again bits mark old = search (rules, again)

mark_row : (device : Device) {mark : UserInfo} (bits : ℕ) → IsMark mark
    → tried 0 device (marking mark bits).asks ≡ Ok
    (record device { user = with_marks bits mark.user mark.viewer mark.pc mark.last mark.name device.user }, reply.WriteUserInfo)
unfolding tried write_user_info
mark_row device bits is = search (rules, date_read, same_is, name_read, marks_again)

pub marked_tells : (device : Device) (mark : UserInfo) (bits : ℕ) → IsMark mark → told (marking mark bits) device ≡ reply.WriteUserInfo
marked_tells device mark bits is = row_tells (marking mark bits) device (mark_row device bits is)

pub marked_does : (device : Device) (mark : UserInfo) (bits : ℕ) → IsMark mark
    → (acted (marking mark bits) device).1 ≡ record device { user = with_marks bits mark.user mark.viewer mark.pc mark.last mark.name device.user }
marked_does device mark bits is = row_does (marking mark bits) device _ reply.WriteUserInfo (mark_row device bits is)

-- whatever the device
some_is : {A : Type 0} {o : Option A} {x : A} → o ≡ Some x → IsSome o
some_is is = rw is refl

pub mark_possible : (device : Device) (mark : UserInfo) (bits : ℕ) → IsMark mark → IsPossible (marking mark bits) device
unfolding IsPossible
mark_possible device mark bits is = search (rules, some_is, date_read, name_read)
