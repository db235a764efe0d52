-- What the frames of a line with its two ends tell: the fates that a script gave them, which of
-- them came, and the messages of both ends.
use Rattle.std.specs.Prelude.{◌≡◌, ℕ, ◌+◌, List, [], ◌∷◌, length, reverse}
use Rattle.cmp_hello.specs.declared.hello.Hello.{Hello}
use Rattle.cmp_hello.specs.declared.hello.HelloKind.TheVariants.{Wake, Init}
use Rattle.cmp_hello.specs.HelloText.{hello_bytes}
use Rattle.line_script.specs.Rules.{RuleValue}
use Rattle.trace_text.specs.declared.frame.End.{End}
use Rattle.trace_text.specs.Past.{at}
use Rattle.trace_text.specs.Stories.{IsStoryOf}
use Rattle.trace_text.specs.Talks.{Talk}
use Rattle.line_laws.specs.Hearing.{heard}
use Rattle.line_steps.specs.declared.line.Line.{Line}
use Rattle.line_steps.specs.Counting.{CountsTaken}
use Rattle.line_steps.specs.Running.{past_now}
use Rattle.line_steps.specs.Stories.{told_from}
use Rattle.line_steps.specs.Telling.{RecordsFrames, Talks, cursor_of}

-- each frame has its number and the fate that the script gives it, and came exactly where it
-- arrives and was taken
abbrev pub LineRecords : List RuleValue → Line → Type 0
LineRecords script line = RecordsFrames script line.wire line.handheld line.desktop

-- both readers counted what landed of all frames that were taken, and nothing else
abbrev pub LineCounts : Line → Type 0
LineCounts line = CountsTaken line.wire line.handheld line.desktop

-- the frames so far tell these messages
abbrev pub LineTells : Talk → Line → Type 0
LineTells talk line = Talks talk line.wire line.handheld line.desktop

-- of the messages of X the other end took these whole, and none behind them
abbrev pub LineTold : End → List (List ℕ) → Line → Type 0
LineTold X messages line =
    IsStoryOf (reverse
    (heard X (at (cursor_of line.handheld line.desktop X) (past_now line.wire.frames.items))))
    (told_from 0 messages)

-- both ends said as much: their greetings, and so many requests and replies
pub record HasSaid (talk : Talk) (replies requests : ℕ) : Type 0 where
  pub handheld_said : length talk.handheld ≡ replies + 1
  pub desktop_said : length talk.desktop ≡ requests + 1

-- the greetings: the wake and the init, at 9,600 bits per second
abbrev pub wake : Hello
wake = record { kind = Wake; flags = 0; minor = 1; rate = 9600 }

abbrev pub init : Hello
init = record { kind = Init; flags = 0; minor = 1; rate = 9600 }

abbrev pub bytes_of : Hello → List ℕ
bytes_of hello = hello_bytes hello (0 ∷ 0 ∷ [])

-- both ends greeted each other
abbrev pub greeted : Talk
greeted = record { handheld = bytes_of wake ∷ []; desktop = bytes_of init ∷ [] }
