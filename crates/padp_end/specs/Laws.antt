-- What a packet of data is that comes twice.
use Rattle.std.specs.Prelude.{◌≡◌, ℕ, []}
use Rattle.slp_frames.specs.PacketText.{PacketValue}
use Rattle.padp_link.specs.FragmentText.{FragmentValue}
use Rattle.padp_end.specs.Arrivals.{Data, arrival_of}
use Rattle.padp_end.specs.Ends.{Answer, EndValue, end_takes}
use Rattle.padp_end.specs.declared.heard.Heard.TheVariants as heard

-- the same was said and nothing is heard, and the end stays
abbrev pub same_again : Answer → Answer
same_again answer = record { said = answer.said; heard = heard.Nothing; end = answer.end }

-- where the packet bears data, and something was said to it, it is answered so once more
abbrev pub IsRepeatOf : EndValue → PacketValue → Type 0
IsRepeatOf end packet =
    (id : ℕ) (fragment : FragmentValue) → arrival_of packet ≡ Data id fragment
    → ¬ ((end_takes end packet).said ≡ [])
    → end_takes (end_takes end packet).end packet ≡ same_again (end_takes end packet)
