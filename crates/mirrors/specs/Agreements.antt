-- When both sides agree on their last synchronisation.
use Rattle.std.specs.Prelude.{Bool, ◌==◌, ◌&&◌}
use Rattle.pdb_values.specs.declared.user.Marks.{Marks}
use Rattle.pdb_values.specs.declared.user.UserInfo.{UserInfo}

-- the handheld was synchronized last with this desktop, and last well when the desktop says
abbrev pub agreed : UserInfo → Marks → Bool
agreed handheld desktop = (handheld.pc == desktop.pc) && (handheld.good == desktop.last)
