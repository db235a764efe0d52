-- The functions on the user, on the system and on the whole session: the table, with the errors in
-- its order (pilot-link, `pi-dlp.h`).
use Rattle.std.specs.Prelude.{ℕ, ◌+◌, List, [], ◌∷◌, length, Option, Some, None, Result, Ok, ◌==◌, if◌then◌else◌}
use Rattle.pdb_values.specs.PalmDates.{read_wire}
use Rattle.pdb_values.specs.Users.{user_name_of}
use Rattle.pdb_values.specs.declared.user.UserInfo.{UserInfo}
use Rattle.dlp_replies.specs.ReplyValues as reply
use Rattle.dlp_replies.specs.ReplyValues.{ReplyValue}
use Rattle.palm_device.specs.Devices.{Device, with_handles}
use Rattle.palm_device.specs.Handles.{no_handles}
use Rattle.palm_device.specs.Heads.{has_bit}
use Rattle.dlp_commands.specs.Errors.{parameter, ◌>>=◌, check, need}
use Rattle.dlp_commands.specs.Reached.{Trial}

-- the reply with what a device knows of its user
abbrev pub user_reply : UserInfo → ReplyValue
user_reply user =
    reply.ReadUserInfo user.user user.viewer user.pc user.good user.last user.name user.password

-- ReadUserInfo replies what the device knows
abbrev pub read_user_info : Device → Trial
read_user_info device = Ok (device, user_reply device.user)

-- the length that goes with a name counts its zero; without a name it is 0
abbrev pub name_length : Option (List ℕ) → ℕ
name_length None = 0
name_length (Some name) = length name + 1

-- no name is the empty one
abbrev pub name_or_empty : Option (List ℕ) → List ℕ
name_or_empty None = []
name_or_empty (Some name) = name

-- one of two values, by a bit
abbrev pub chosen : {A : Type 0} → ℕ → ℕ → A → A → A
chosen bit bits new old = if has_bit bit bits then new else old

-- user (bit 0x80), PC (0x40), both dates (0x20), name (0x10) and viewer (0x08) are set
abbrev pub with_marks : ℕ → ℕ → ℕ → ℕ → ℕ → List ℕ → UserInfo → UserInfo
with_marks bits user viewer pc date name old =
    record old {
      user = chosen 0x80 bits user old.user;
      viewer = chosen 0x08 bits viewer old.viewer;
      pc = chosen 0x40 bits pc old.pc;
      good = chosen 0x20 bits date old.good;
      last = chosen 0x20 bits date old.last;
      name = chosen 0x10 bits name old.name;
    }

-- what the device knows then: a bad date, a name length other than the name's, or a name that is no
-- user's: parameter
abbrev pub marked : ℕ → ℕ → ℕ → List ℕ → ℕ → ℕ → Option (List ℕ) → UserInfo → Result UserInfo ℕ
marked user viewer pc date bits name_len name old = do
  seconds ← need parameter (read_wire date)
  counted ← check parameter (name_len == name_length name)
  named ← need parameter (user_name_of (name_or_empty name))
  Ok (with_marks bits user viewer pc seconds named old)

-- WriteUserInfo sets what the bits say
unfoldable pub write_user_info : Device → ℕ → ℕ → ℕ → List ℕ → ℕ → ℕ → Option (List ℕ) → Trial
write_user_info device user viewer pc date bits name_len name =
    marked user viewer pc date bits name_len name device.user
    >>= λ known. Ok (record device { user = known }, reply.WriteUserInfo)

-- what every device says that it is: the ROM of version 1.0, the locale 0, and the product's id
abbrev pub system_reply : ReplyValue
system_reply = reply.ReadSysInfo 0x01003000 0 (0 ∷ 1 ∷ 0 ∷ 0 ∷ [])

-- ReadSysInfo replies that
abbrev pub read_sys_info : Device → Trial
read_sys_info device = Ok (device, system_reply)

-- AddSyncLogEntry keeps nothing
abbrev pub add_sync_log_entry : Device → Trial
add_sync_log_entry device = Ok (device, reply.AddSyncLogEntry)

-- OpenConduit does nothing
abbrev pub open_conduit : Device → Trial
open_conduit device = Ok (device, reply.OpenConduit)

-- EndOfSync closes all handles
abbrev pub end_of_sync : Device → Trial
end_of_sync device = Ok (with_handles device no_handles, reply.EndOfSync)
