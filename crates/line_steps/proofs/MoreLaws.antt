-- A message that never went out changes nothing of what the frames tell by the rules.
use Rattle.line_steps.proofs.TalkNames.{◌≡◌, ℕ, ◌-◌, ◌≤◌, false, List, ◌++◌, length, reverse, sym, ap, subst, ◌∙◌, arith, append_assoc, length-append}
use Rattle.line_steps.proofs.TalkNames.{length-reverse, session_id, End, spoken, message_parts, PastFrame, said, at, SaysMessages, Talk, messages_of, pieces_before}
use Rattle.line_steps.proofs.TalkNames.{Apart, heard, count_messages, say, count-say, longer-say, speaks-more, speaks-beside, parts-say, Half, Wire, HasProperPast, Spoke}
use Rattle.line_steps.proofs.TalkNames.{past_now, side_of, HeardOf, TookMessages, Talks, cursor_of, Turn, spoken_now, length-spoken, took_beside, parts_total}
use Rattle.line_steps.proofs.TalkNames.{cursor_own, x_heard_as, settled_holds}

-- no more was said than there is
said-few : {X : End} {talk : Talk} {past : List PastFrame} → SaysMessages X talk past
    → length (said X past) ≤ pieces_before (messages_of X talk) (count_messages X talk)
said-few {X} {talk} {past} says =
    let sum = sym (length-append (reverse (spoken X past)) says.rest) ∙ ap length says.is ∙ parts_total 0 (messages_of X talk) in
    omega (arith, sum, length-reverse (spoken X past), length-spoken X past)

took-unsent : {X : End} {talk : Talk} {past : List PastFrame} {cx : ℕ} (message : List ℕ)
    → pieces_before (messages_of X talk) (count_messages X talk) ≤ length (heard X (at cx past)) → TookMessages X talk past cx
    → TookMessages X (say X message talk) past cx
took-unsent {X} {talk} {past} {cx} message all was =
    let parts = message_parts (session_id (count_messages X talk)) message in
    let before : count_messages X (say X message talk) - 1 ≡ count_messages X talk = omega (arith, count-say X message talk) in
    record {
      rest = was.rest ++ parts;
      is = sym (append_assoc (reverse (heard X (at cx past))) was.rest parts) ∙ (ap (λ ps. ps ++ parts) was.is ∙ sym (parts-say X message talk));
      most = omega (
        arith,
        ap (pieces_before (messages_of X (say X message talk))) before,
        (longer-say X message talk).stays X (count_messages X talk) (omega arith),
        all,
      );
    }

-- where all messages of X were taken
pub spoken-unsent : {X Y : End} {talk : Talk} {cursor : End → ℕ} {past : List PastFrame} (message : List ℕ) → Apart X Y
    → pieces_before (messages_of X talk) (count_messages X talk) ≤ length (heard X (at (cursor X) past)) → HasProperPast X Y talk cursor past
    → HasProperPast X Y (say X message talk) cursor past
spoken-unsent {X} message apart all was = record {
  faults = was.faults;
  x_speaks = speaks-more message (said-few was.x_speaks.says) was.x_speaks;
  y_speaks = speaks-beside message apart.back (said-few was.y_speaks.says) was.y_speaks;
  x_in = was.x_in;
  y_in = was.y_in;
  x_took = took-unsent message all was.x_took;
  y_took = took_beside X message apart.back was.y_took;
}

-- where it is its turn
pub turn-unsent : {talk : Talk} {wire : Wire} {x y : Half} (message : List ℕ) → Turn wire x y → Talks talk wire x y → Spoke (say x.end message talk) wire x y
turn-unsent {wire} {x} {y} message turn talks =
    let past = past_now wire.frames.items in
    let line = turn.settled.line in
    let was = x_heard_as wire x y false line.core.there.follows talks in
    let at_cursor : heard x.end (at (cursor_of x y x.end) past) ≡ spoken x.end past =
    subst (λ n. HeardOf x.end past n false (side_of x)) (sym (cursor_own x.end x.taken y.taken)) was in
    spoken-unsent message turn.settled.apart
    (omega (arith, talks.talking.x_speech.begun, turn.idle, ap length at_cursor, length-spoken x.end past)) (spoken_now (settled_holds turn.settled) talks)
