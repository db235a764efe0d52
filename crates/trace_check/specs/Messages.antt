-- What a trace says by itself: the fate of each frame, and the messages of both ends.
use Rattle.std.specs.Prelude.{◌≡◌, ℕ, zero, suc, ◌+◌, ◌-◌, ◌<◌, List, [], ◌∷◌, ◌++◌, length, replicate, reverse}
use Rattle.padp_link.specs.Pieces.{piece_count}
use Rattle.cmp_hello.specs.declared.hello.Hello.{Hello}
use Rattle.cmp_hello.specs.declared.hello.HelloKind.{HelloKind}
use Rattle.cmp_hello.specs.HelloText.{HelloText}
use Rattle.trace_text.specs.declared.frame.End.{End}
use Rattle.trace_text.specs.declared.frame.End.TheVariants.{Handheld, Desktop}
use Rattle.trace_text.specs.Fates.{FateValue, Untouched}
use Rattle.trace_text.specs.TraceLines.{FrameValue}
use Rattle.trace_text.specs.Frames.{past_of}
use Rattle.trace_text.specs.Parts.{Part, spoken}
use Rattle.trace_text.specs.Talks.{Talk, messages_of}

-- the fate of each frame by its number, from 1 on
abbrev pub fates_in : List FrameValue → ℕ → FateValue
fates_in [] number = Untouched
fates_in (frame ∷ later) zero = Untouched
fates_in (frame ∷ later) (suc zero) = frame.fate
fates_in (frame ∷ later) (suc (suc number)) = fates_in later (suc number)

-- how many parts a message has behind the one that begins it
abbrev pub parts_behind : Part → ℕ
parts_behind part = piece_count part.key.size - 1

-- bytes, filled with zeros up to this size
abbrev pub filled : ℕ → List ℕ → List ℕ
filled size bytes = bytes ++ replicate (size - length bytes) 0

-- The messages from one on that has this size and these bytes so far and wants so many parts more.
-- One whose parts are missing is filled with zeros.
abbrev pub messages_from : ℕ → ℕ → List ℕ → List Part → List (List ℕ)
messages_from wanted size bytes [] = filled size bytes ∷ []
messages_from zero size bytes (part ∷ later) =
    filled size bytes ∷ messages_from (parts_behind part) part.key.size part.bytes later
messages_from (suc wanted) size bytes (part ∷ later) =
    messages_from wanted size (bytes ++ part.bytes) later

-- the messages whose parts these are, one after the other: each takes as many parts as the size in
-- its first one asks for
abbrev pub messages_in : List Part → List (List ℕ)
messages_in [] = []
messages_in (part ∷ later) = messages_from (parts_behind part) part.key.size part.bytes later

-- how many of them are whole, where the first one wants so many parts more
abbrev pub wholes_from : ℕ → List Part → ℕ
wholes_from zero [] = 1
wholes_from (suc wanted) [] = 0
wholes_from zero (part ∷ later) = 1 + wholes_from (parts_behind part) later
wholes_from (suc wanted) (part ∷ later) = wholes_from wanted later

abbrev pub wholes_in : List Part → ℕ
wholes_in [] = 0
wholes_in (part ∷ later) = wholes_from (parts_behind part) later

-- the parts that an end said, in order
abbrev pub parts_in : End → List FrameValue → List Part
parts_in X frames = reverse (spoken X (past_of frames))

-- the messages of both ends
abbrev pub talk_in : List FrameValue → Talk
talk_in frames = record {
  handheld = messages_in (parts_in Handheld frames);
  desktop = messages_in (parts_in Desktop frames);
}

-- how many messages an end said whole
abbrev pub whole_count : End → List FrameValue → ℕ
whole_count X frames = wholes_in (parts_in X frames)

-- a greeting of this kind
pub record IsGreeting (kind : HelloKind) (bytes : List ℕ) : Type 0 where
  pub hello : Hello
  pub text : HelloText hello bytes
  pub kind_is : hello.kind ≡ kind

abbrev pub IfFirst : (List ℕ → Type 0) → List (List ℕ) → Type 0
IfFirst P [] = Unit {0}
IfFirst P (message ∷ later) = P message

-- the first message of an end is a greeting of this kind, where it is whole
abbrev pub Greets : HelloKind → End → List FrameValue → Type 0
Greets kind X frames =
    0 < whole_count X frames → IfFirst (IsGreeting kind) (messages_of X (talk_in frames))
