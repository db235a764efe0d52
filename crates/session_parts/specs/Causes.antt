-- Why a session stops once both sides have met.
use Rattle.std.specs.Prelude.{◌≡◌, Option, Some, None, IfSome}
use Rattle.dlp_commands.specs.declared.link.LinkFault.{LinkFault}
use Rattle.dlp_commands.specs.declared.link.LinkFault.TheVariants as link
use Rattle.dlp_commands.specs.Talks.{Talk}
use Rattle.desktop_session.specs.declared.fault.SessionFault.{SessionFault}
use Rattle.desktop_session.specs.declared.fault.SessionFault.TheVariants as session
use Rattle.desktop_session.specs.Lasts.{IsBroken, IsRefusal, LastSays}

-- its link is down, or the link has no fault and the last reply of its talk is an error or none
-- that can be read, told with the function of its request, or memory is wanted: never for its user
abbrev pub IsLater : Option Talk → Option LinkFault → SessionFault → Type 0
IsLater talk fault session.Down = fault ≡ Some link.Down
IsLater talk fault (session.Refused function code) =
    (fault ≡ None) × IfSome talk (LastSays (IsRefusal function code.0))
IsLater talk fault (session.BadReply function broken) =
    (fault ≡ None) × IfSome talk (LastSays (IsBroken function broken))
IsLater talk fault session.NoMemory = Unit {0}
IsLater talk fault (session.OtherUser handheld desktop) = ⊥
IsLater talk fault session.TooManyUsers = ⊥
