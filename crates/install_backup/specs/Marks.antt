-- What an install says of itself in a handheld's marks, before it writes anything else.
use Rattle.std.specs.Prelude.{ℕ, Bool, true, ◌==◌, ◌&&◌, List, [], ◌∷◌, ◌++◌, if◌then◌else◌}
use Rattle.pdb_values.specs.declared.user.UserInfo.{UserInfo}
use Rattle.palm_device.specs.Devices.{Device}
use Rattle.desktop_session.specs.Acts.{Act}
use Rattle.desktop_session.specs.Requests.{marking}
use Rattle.session_parts.specs.Meets.{greeting}
use Rattle.install_backup.specs.declared.mark.Mark.{Mark}
use Rattle.install_backup.specs.declared.mark.Mark.TheVariants.{Unchanged, NoDesktop, NewLife}

-- what the handheld knows of its user with a mark
abbrev pub marked_user : Mark → UserInfo → UserInfo
marked_user Unchanged user = user
marked_user NoDesktop user = record user { pc = 0 }
marked_user NewLife user = record user { user = 0; pc = 0; good = 0; last = 0 }

-- its marks say so already
abbrev pub is_marked : Mark → UserInfo → Bool
is_marked Unchanged user = true
is_marked NoDesktop user = user.pc == 0
is_marked NewLife user =
    (user.user == 0) && ((user.pc == 0) && ((user.good == 0) && (user.last == 0)))

-- which numbers a mark sets: the desktop's (0x40); the user's (0x80), too, and both dates (0x20)
abbrev pub mark_bits : Mark → ℕ
mark_bits Unchanged = 0
mark_bits NoDesktop = 0x40
mark_bits NewLife = 0xE0

-- no user, no desktop, no date
abbrev pub nobody : UserInfo
nobody = record {
  user = 0;
  viewer = 0;
  pc = 0;
  good = 0;
  last = 0;
  name = [];
  password = [];
}

-- the request that says a mark, unless they say so already
unfoldable pub marks_before : Mark → UserInfo → List Act
marks_before mark user =
    if is_marked mark user then [] else marking nobody (mark_bits mark) ∷ []

-- the handheld with a mark
abbrev pub marked_on : Mark → Device → Device
marked_on mark device = record device { user = marked_user mark device.user }

-- the greeting, and then the mark
unfoldable pub marked_greeting : Mark → UserInfo → List Act
marked_greeting mark user = greeting ++ marks_before mark user
