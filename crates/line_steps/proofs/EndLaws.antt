-- A line with which it is over, or which is at rest.
use Rattle.line_steps.proofs.TalkNames.{rules, ◌≡◌, ℕ, List, [], ◌∷◌, refl, ap, subst, arith, Handheld, Desktop, Talk, messages_of, pieces_before, Apart}
use Rattle.line_steps.proofs.TalkNames.{count_messages, say, Half, Wire, Line, Halt, NoMemory, HaltsBy, HasProperPast, Spoke, past_now, IsNextTo, Talks, cursor_of, no_talk}
use Rattle.line_steps.proofs.TalkNames.{spoken_now, cursor_turned, apart_turned, settled_holds, settled_turned, LineEnds, MayAnswer, MayAsk, MayGreet, LineTells}
use Rattle.line_steps.proofs.TalkNames.{bytes_of, greeted, init, wake}
use Rattle.line_steps.proofs.AskLaws.{woken}
use Rattle.line_steps.proofs.MoreLaws.{spoken-unsent, turn-unsent}
use Rattle.line_steps.proofs.HaltedLaws.{spoken_turned}

-- seen from the other end
pub halts-turned : (halt : Halt) (wire : Wire) (x y : Half) → Apart x.end y.end → HaltsBy halt (cursor_of x y) wire.frames.items
    → HaltsBy halt (cursor_of y x) wire.frames.items
halts-turned halt wire x y apart by = search rules

pub spoke-turned : {talk : Talk} (wire : Wire) (x y : Half) → Apart x.end y.end → Spoke talk wire x y → Spoke talk wire y x
spoke-turned {talk} wire x y apart it =
    subst (λ c. HasProperPast y.end x.end talk c (past_now wire.frames.items)) (cursor_turned x.end y.end x.taken y.taken apart.there) (spoken_turned it)

pub ends-apart : (x y : Half) → x.end ≡ Handheld → y.end ≡ Desktop → Apart x.end y.end
ends-apart x y handheld desktop = search rules

-- the first message of y was not sent
pub first-unsent : {talk : Talk} (wire : Wire) (x y : Half) (message : List ℕ) → Apart x.end y.end → count_messages y.end talk ≡ 0 → Spoke talk wire x y
    → Spoke (say y.end message talk) wire x y
first-unsent {talk} wire x y message apart none it =
    let past = past_now wire.frames.items in
    let cursor = cursor_of x y in
    let zero : pieces_before (messages_of y.end talk) (count_messages y.end talk) ≡ 0 = ap (λ n. pieces_before (messages_of y.end talk) n) none in
    spoken_turned (spoken-unsent message (apart_turned apart) (omega (arith, zero)) (spoken_turned it))

-- ---- at rest

pub asks-ends : {talk : Talk} {line : Line} {requests : ℕ} → MayAsk line requests → LineTells talk line → LineEnds NoMemory talk line
asks-ends asks tells = record {
  ends = asks.ends;
  by = asks.turn.settled.go;
  spoke = spoken_now (settled_holds (settled_turned asks.turn.settled)) tells;
}

pub answers-ends : {talk : Talk} {line : Line} {requests : ℕ} → MayAnswer line requests → LineTells talk line → LineEnds NoMemory talk line
answers-ends answers tells = record {
  ends = answers.ends;
  by = answers.turn.settled.go;
  spoke = spoken_now (settled_holds answers.turn.settled) tells;
}

-- the wake was the last message that was begun
pub wakes-greeted : (wire : Wire) (x y : Half) {message : List ℕ} → x.end ≡ Handheld → y.end ≡ Desktop → message ≡ bytes_of wake
    → Spoke (woken message) wire x y → Spoke greeted wire x y
wakes-greeted wire x y {message} handheld desktop is it =
    let none : count_messages y.end (woken message) ≡ 0 = ap (λ Y. count_messages Y (woken message)) desktop in
    let both = first-unsent wire x y (bytes_of init) (ends-apart x y handheld desktop) none it in
    subst (λ m. Spoke (record { handheld = m ∷ []; desktop = bytes_of init ∷ [] }) wire x y) is
    (subst (λ Y. Spoke (say Y (bytes_of init) (woken message)) wire x y) desktop both)

-- the init was
pub inits-greeted : (wire wire' : Wire) {h d : Half} (d' h' : Half) {wake_bytes init_bytes : List ℕ} → d.end ≡ Desktop → wake_bytes ≡ bytes_of wake
    → init_bytes ≡ bytes_of init
    → ((talk : Talk) → IsNextTo talk d h 255 → Talks talk wire d h → Spoke (say d.end init_bytes talk) wire' d' h') → Talks (woken wake_bytes) wire d h
    → Spoke greeted wire' d' h'
inits-greeted wire wire' d' h' d_end wake_is init_is then tells = search rules

pub greets-ends : {line : Line} → MayGreet line → LineTells no_talk line → LineEnds NoMemory greeted line
greets-ends {line} greets tells = record {
  ends = greets.ends;
  by = greets.turn.settled.go;
  spoke = wakes-greeted line.wire line.handheld line.desktop {message = bytes_of wake} greets.ends.handheld_is greets.ends.desktop_is refl
      (subst (λ X. Spoke (say X (bytes_of wake) no_talk) line.wire line.handheld line.desktop) greets.ends.handheld_is
      (turn-unsent (bytes_of wake) greets.turn tells));
}
