-- A trace says its messages: what is proper by the messages of a run is proper by those that its frames say.
use Rattle.std.proofs.Common.{◌≡◌, ◌⊎◌, ℕ, ◌+◌, ◌<◌, Bool, List, [], ◌∷◌, length, Option, Some, None, refl, sym, ap, subst, ◌∙◌, arith, inl, inr}
use Rattle.std.proofs.lemmas.List.{length-map, length-reverse}
use Rattle.trace_text.specs.declared.frame.End.{End}
use Rattle.trace_text.specs.declared.frame.End.TheVariants.{Handheld, Desktop}
use Rattle.trace_text.specs.Fates.{FateValue}
use Rattle.trace_text.specs.Past.{PastFrame, said, at, data_of}
use Rattle.trace_text.specs.Parts.{spoken, key_of_part, session_parts}
use Rattle.trace_text.specs.Frames.{past_of, came_in}
use Rattle.trace_text.specs.Proper.{IsProper, SpeaksProperly, SaysMessages, BeginInTurn, IsKnown, AcksNewest, AnswersNewest, IfAnswers}
use Rattle.trace_text.specs.Talks.{Talk, Turn, messages_of, pieces_before, answered_by}
use Rattle.trace_text.specs.TraceLines.{FrameValue}
use Rattle.line_laws.proofs.MessageLaws.{pieces-more}
use Rattle.line_laws.proofs.PastLaws.{keys_below, keys_push}
use Rattle.line_laws.proofs.PartLaws.{spoken_keys}
use Rattle.cmp_hello.specs.declared.hello.HelloKind.{HelloKind}
use Rattle.cmp_hello.specs.declared.hello.HelloKind.TheVariants.{Wake, Init}
use Rattle.trace_check.specs.Judging.{IsProperTrace}
use Rattle.trace_check.specs.Messages.{messages_in, parts_in, talk_in, IfFirst, IsGreeting, Greets}
use Rattle.trace_check.proofs.FilledLaws.{Agrees, Heard, heard, first-told}
use Rattle.trace_check.proofs.RunLaws.{proper-fates}

-- the messages of both ends agree as far as they were begun
abbrev Agree : Talk → Talk → List PastFrame → Type 0
Agree talk other past = (Z : End) → Agrees (messages_of Z talk) (messages_of Z other) (length (said Z past))

agree-before : (talk other : Talk) (frame : PastFrame) (past : List PastFrame) → Agree talk other (frame ∷ past) → Agree talk other past
agree-before talk other frame past agree Z =
    let was = agree Z in
    let grows = keys_push (data_of Z) frame past in
    record { few = was.few; stays = was.stays; begun = λ k less some. was.begun k less (omega (arith, some, grows)) }

-- a message of which this fragment was said was begun
said-begun : (talk other : Talk) (past : List PastFrame) (Z : End) (n number place : ℕ) → Agree talk other past → number < length (messages_of Z talk)
    → length (said Z (at n past)) ≡ place → pieces_before (messages_of Z talk) number < place → number < length (messages_of Z other)
said-begun talk other past Z n number place agree there said_is less =
    let below = keys_below (data_of Z) n past in
    (agree Z).begun number there (omega (arith, below, said_is, less))

known-agrees : (X Y : End) (talk other : Talk) (came : ℕ → Bool) (past : List PastFrame) → Agree talk other past → IsKnown X Y talk came past
    → IsKnown X Y other came past
known-agrees X Y talk other came past agree was = record { n = was.n; reaches = was.reaches; cause = go was.reaches.frame was.cause }
  where
    go : (frame : PastFrame) → AcksNewest X Y past was.n frame ⊎ AnswersNewest X Y talk past was.n frame
        → AcksNewest X Y past was.n frame ⊎ AnswersNewest X Y other past was.n frame
    go frame (inl ack) = inl ack
    go frame (inr answer) =
        let more = pieces-more (messages_of X talk) answer.number (answer.number + 1) (omega arith) (omega (arith, answer.asked)) in
        let asked : answer.number < length (messages_of X other) = (agree X).begun answer.number answer.asked (omega (arith, more, answer.newest_ends)) in
        let there : answer.answer < length (messages_of Y other) =
        said-begun talk other past Y was.n answer.answer _ agree answer.there answer.bears.number_is (omega arith) in
        inr (record {
          number = answer.number;
          answer = answer.answer;
          asked = asked;
          there = there;
          answers = answer.answers;
          newest_ends = (agree X).stays (answer.number + 1) (omega (arith, asked)) ∙ answer.newest_ends;
          bears = record {
            is = answer.bears.is;
            number_is = answer.bears.number_is ∙ ap (λ k. k + 1) (sym ((agree Y).stays answer.answer (omega (arith, there))));
          };
        })

answers-agree : (turn : Option Turn) (talk other : Talk) (came : ℕ → Bool) (past : List PastFrame) → Agree talk other past → IfAnswers turn talk came past
    → IfAnswers turn other came past
answers-agree None talk other came past agree was = tt
answers-agree (Some turn) talk other came past agree was =
    let more = pieces-more (messages_of turn.end talk) turn.number (turn.number + 1) (omega arith) (omega (arith, was.there)) in
    let there : turn.number < length (messages_of turn.end other) =
    said-begun talk other past turn.end was.n turn.number _ agree was.there was.bears.number_is more in
    record {
      n = was.n;
      reaches = was.reaches;
      there = there;
      bears = record {
        is = was.bears.is;
        number_is = was.bears.number_is ∙ sym ((agree turn.end).stays (turn.number + 1) (omega (arith, there)));
      };
    }

begins-agree : (X Y : End) (talk other : Talk) (came : ℕ → Bool) (past : List PastFrame) → Agree talk other past → BeginInTurn X Y talk came past
    → BeginInTurn X Y other came past
begins-agree X Y talk other came [] agree was = tt
begins-agree X Y talk other came (frame ∷ past) agree was =
    let before = agree-before talk other frame past agree in (
      λ is new. (
        λ some. known-agrees X Y talk other came past before ((was.0 is new).0 some),
        λ number less begins. answers-agree (answered_by X number) talk other came past before
            ((was.0 is new).1 number (omega (arith, less, (agree X).few)) (sym ((agree X).stays number (omega (arith, less))) ∙ begins)),
      ),
      begins-agree X Y talk other came past before was.1,
    )

-- ---- a trace's own messages

said-parts : (X : End) (frames : List FrameValue) → length (parts_in X frames) ≡ length (said X (past_of frames))
said-parts X frames =
    length-reverse (spoken X (past_of frames))
    ∙ (sym (length-map (spoken X (past_of frames)) key_of_part) ∙ ap length (spoken_keys X (past_of frames)))

pub talk_in-messages : (X : End) (frames : List FrameValue) → messages_of X (talk_in frames) ≡ messages_in (parts_in X frames)
talk_in-messages Handheld frames = refl
talk_in-messages Desktop frames = refl

heard_in : (X : End) (talk : Talk) (frames : List FrameValue) → SaysMessages X talk (past_of frames) → Heard 0 (messages_of X talk) (parts_in X frames)
heard_in X talk frames says = heard 0 (messages_of X talk) (parts_in X frames) says.rest says.is

agrees_in : (X : End) (talk : Talk) (frames : List FrameValue) → SaysMessages X talk (past_of frames)
    → Agrees (messages_of X talk) (messages_of X (talk_in frames)) (length (said X (past_of frames)))
agrees_in X talk frames says =
    subst (λ others. Agrees (messages_of X talk) others (length (said X (past_of frames)))) (sym (talk_in-messages X frames))
    (subst (Agrees (messages_of X talk) (messages_in (parts_in X frames))) (said-parts X frames) (heard_in X talk frames says).agrees)

says_in : (X : End) (talk : Talk) (frames : List FrameValue) → SaysMessages X talk (past_of frames) → SaysMessages X (talk_in frames) (past_of frames)
says_in X talk frames says =
    let found = heard_in X talk frames says in
    record { rest = found.rest; is = found.is ∙ ap (λ messages. session_parts 0 messages) (sym (talk_in-messages X frames)) }

agree_in : (script : ℕ → FateValue) (talk : Talk) (frames : List FrameValue) → IsProper script talk frames → Agree talk (talk_in frames) (past_of frames)
agree_in script talk frames proper Handheld = agrees_in Handheld talk frames proper.handheld.says
agree_in script talk frames proper Desktop = agrees_in Desktop talk frames proper.desktop.says

speaks_in : (X Y : End) (talk : Talk) (frames : List FrameValue) → Agree talk (talk_in frames) (past_of frames)
    → SpeaksProperly X Y talk (came_in frames) (past_of frames) → SpeaksProperly X Y (talk_in frames) (came_in frames) (past_of frames)
speaks_in X Y talk frames agree speaks = record {
  says = says_in X talk frames speaks.says;
  ten = speaks.ten;
  begins = begins-agree X Y talk (talk_in frames) (came_in frames) (past_of frames) agree speaks.begins;
  acked = speaks.acked;
}

pub proper-talk : (script : ℕ → FateValue) (talk : Talk) (frames : List FrameValue) → IsProper script talk frames → IsProper script (talk_in frames) frames
proper-talk script talk frames proper =
    let agree = agree_in script talk frames proper in
    record {
      numbered = proper.numbered;
      bear = proper.bear;
      come = proper.come;
      faults = proper.faults;
      handheld = speaks_in Handheld Desktop talk frames agree proper.handheld;
      desktop = speaks_in Desktop Handheld talk frames agree proper.desktop;
    }

-- ---- a run's trace

greets_in : (kind : HelloKind) (X : End) (talk : Talk) (frames : List FrameValue) → SaysMessages X talk (past_of frames)
    → IfFirst (IsGreeting kind) (messages_of X talk) → Greets kind X frames
greets_in kind X talk frames says first some =
    subst (IfFirst (IsGreeting kind)) (sym (talk_in-messages X frames))
    (first-told (IsGreeting kind) 0 (messages_of X talk) (parts_in X frames) says.rest says.is some first)

pub proper-trace : (script : ℕ → FateValue) (talk : Talk) (frames : List FrameValue) → IsProper script talk frames
    → IfFirst (IsGreeting Wake) talk.handheld → IfFirst (IsGreeting Init) talk.desktop → IsProperTrace frames
proper-trace script talk frames proper wake init = record {
  proper = proper-fates script (talk_in frames) frames (proper-talk script talk frames proper);
  wake = greets_in Wake Handheld talk frames proper.handheld.says wake;
  init = greets_in Init Desktop talk frames proper.desktop.says init;
}
