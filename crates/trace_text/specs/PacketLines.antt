-- What is shown of a packet, and of the fragment in its body.
use Rattle.std.specs.Prelude.{◌≡◌, ℕ, List, [], ◌∷◌, ◌++◌, length, codes}
use Rattle.std.specs.Fmt.{decimal}
use Rattle.hex.specs.Hex.{encode_lower}
use Rattle.slp_frames.specs.PacketText.{PacketValue}
use Rattle.padp_link.specs.declared.fragment.PadpKind.{PadpKind}
use Rattle.padp_link.specs.declared.fragment.PadpKind.TheVariants.{Data, Ack, Tickle, Abort}
use Rattle.padp_link.specs.FragmentText.{FragmentValue, FragmentText}

-- the word of a fragment's kind
abbrev pub kind_word : PadpKind → List ℕ
kind_word Data = codes "data"
kind_word Ack = codes "ack"
kind_word Tickle = codes "tickle"
kind_word Abort = codes "abort"

-- ` padp KIND FLAGS SIZE data N`
unfoldable pub fragment_words : FragmentValue → List ℕ
fragment_words fragment =
    codes " padp " ++ kind_word fragment.kind ++ codes " " ++ encode_lower (fragment.flags ∷ [])
    ++ codes " " ++ decimal fragment.size
    ++ (codes " data " ++ decimal (length fragment.bytes))

-- ` body N`
abbrev pub body_words : List ℕ → List ℕ
body_words body = codes " body " ++ decimal (length body)

-- `slp DEST SOURCE TYPE id ID`
unfoldable pub header_words : PacketValue → List ℕ
header_words packet =
    codes "slp " ++ decimal packet.dest ++ codes " " ++ decimal packet.source ++ codes " "
    ++ decimal packet.kind ++ (codes " id " ++ decimal packet.id)

-- the words of a body: its fragment, where it is the text of one, and else its length
pub record ShowsBody (body words : List ℕ) : Type 0 where
  pub fragment : (fragment : FragmentValue) → FragmentText fragment body
      → words ≡ fragment_words fragment
  pub other : ((fragment : FragmentValue) → ¬ (FragmentText fragment body))
      → words ≡ body_words body

-- the text shows the packet: its header and then its body
abbrev pub ShowsPacket : PacketValue → List ℕ → Type 0
ShowsPacket packet text =
    (words : List ℕ) × (text ≡ header_words packet ++ words) × ShowsBody packet.body words
