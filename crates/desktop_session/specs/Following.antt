-- How a part of a session went over any link: it followed an inquiry.
use Rattle.std.specs.Prelude.{◌≡◌, ◌⊎◌, List, Option, None, Some, Result, Ok, Err}
use Rattle.dlp_commands.specs.declared.link.Link.{Ghosts}
use Rattle.dlp_commands.specs.declared.link.LinkFault.{LinkFault}
use Rattle.dlp_commands.specs.declared.link.LinkFault.TheVariants.{Down}
use Rattle.dlp_commands.specs.Links.{WentDown}
use Rattle.dlp_commands.specs.Tries.{Try}
use Rattle.desktop_session.specs.declared.fault.SessionFault.{SessionFault}
use Rattle.desktop_session.specs.declared.fault.SessionFault.TheVariants as session
use Rattle.desktop_session.specs.Inquiries.{After, Ends, Inquiry}

-- a cause that no reply gives: the link is down, or memory ran out
abbrev pub CutsOff : Option LinkFault → SessionFault → Type 0
CutsOff fault session.Down = fault ≡ Some Down
CutsOff fault session.NoMemory = Unit {0}
CutsOff fault (session.Refused function code) = ⊥
CutsOff fault (session.BadReply function broken) = ⊥
CutsOff fault (session.OtherUser handheld desktop) = ⊥
CutsOff fault session.TooManyUsers = ⊥

abbrev pub IsCut : {A : Type 0} → Option LinkFault → Result A SessionFault → Type 0
IsCut fault (Ok x) = ⊥
IsCut fault (Err cause) = CutsOff fault cause

-- this answers an inquiry of which that is left: it is its end, and the link has no fault; or the
-- inquiry was cut off
abbrev pub IsAnswerTo : {A : Type 0} → Inquiry A → Option LinkFault → Result A SessionFault → Type 0
IsAnswerTo left fault answer = ((left ≡ Ends answer) × (fault ≡ None)) ⊎ IsCut fault answer

-- these tries follow an inquiry, and this answers it
pub record Leads {A : Type 0} (asked : Inquiry A) (tries : List Try) (fault : Option LinkFault)
    (answer : Result A SessionFault) : Type 0 where
  pub left : Inquiry A
  pub after : After asked tries left
  pub stands : IsAnswerTo left fault answer

-- Over a link an inquiry was followed, request by request, by what the link says that it heard: so
-- the next request is the inquiry's by the replies so far, and the answer is, but for the link's
-- fault and want of memory. It is down only where its count rose or it was down before.
pub record Follows {L A : Type 0} (link : Ghosts L) (asked : Inquiry A) (old new : L)
    (answer : Result A SessionFault) : Type 0 where
  pub tries : List Try
  pub heard : link.heard old tries new
  pub leads : link.fault old ≡ None → Leads asked tries (link.fault new) answer
  pub fell : WentDown (link.fault old) (link.downs old) (link.downs new)
      (link.fault new ≡ Some Down)

-- the answer is what was said, or memory ran out
abbrev pub OrNoMemory : {A : Type 0} → Result A SessionFault → Result A SessionFault → Type 0
OrNoMemory said answer = (answer ≡ said) ⊎ (answer ≡ Err session.NoMemory)
