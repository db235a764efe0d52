-- A run halts where a frame was to be sent: what its frames are then, and what they tell.
use Rattle.line_steps.proofs.Names.{rules, Accepted, Whole, Repeated, Dropped, HeardOf, TookMessages, ◌≡◌, ℕ, ◌+◌, ◌<◌, ◌≤◌, false, List, ◌∷◌, [], length}
use Rattle.line_steps.proofs.Names.{map, Some, refl, sym, ap, subst, ◌∙◌, arith, inl, inr, Bool, true, cases_lt, cond-true, cond-false, and_from}
use Rattle.line_steps.proofs.Names.{map-append, PadpKind, Key, Taken, FragmentValue, piece_count, Waits, waiting_key, End, Frame, FateValue, holds_packet}
use Rattle.line_steps.proofs.Names.{strange_bytes, comes, RepeatsHaveFaults, MayBear, is_abort, fragment_in, add_frame, past_behind, padp_packet, course_of}
use Rattle.line_steps.proofs.Names.{PastFrame, is_data_of, at, Talk, frame_value, is_taken, data_taken, Apart, Side, part_now, ack_frame, say, running_next_piece}
use Rattle.line_steps.proofs.Names.{running_starts, running_tick_one, running_tick_two, speech-moves, speaks-more, speaks-beside, speaks-unacked, beginning}
use Rattle.line_steps.proofs.Names.{Accepting, moves-more, speaks_properly, ack_is_no_data, other_no_repeat, faults_push, IsBlocked, Half, Wire, Stop, Unplugged}
use Rattle.line_steps.proofs.Names.{Aborted, Undetected, Halt, NoMemory, Stopped, Down, IsSpent, is_aborted, EndsWith, HaltsBy, HasProperPast, Spoke, HaltsBetween, NotAgain}
use Rattle.line_steps.proofs.Names.{sent_of, past_now, side_of, AllGo, MovesReceiver, Holds, Stays, Sends, Halts, StopsBy, in_place, ack_fragment, AckNext, DataHeard}
use Rattle.line_steps.proofs.Names.{cursor_of, TellsTalk, Talks, KeepsTalk, IsNextTo, SendsAgain, Turn}
use Rattle.line_steps.proofs.StoryLaws.{heard_again, heard_new, took_of, took_more, took_beside}
use Rattle.padp_link.specs.declared.fragment.PadpKind.TheVariants as kinds
use Rattle.line_steps.proofs.BeginningLaws.{again_frame, starts-told, one_again-told, two_again-told}
use Rattle.line_steps.proofs.DataLaws.{NewSender, after_heard, copy_is, never_dropped}
use Rattle.line_steps.proofs.FrameLaws.{behind_push}
use Rattle.line_steps.proofs.HaltingLaws.{first_spent, second_spent}
use Rattle.line_steps.proofs.HoldsLaws.{moved}
use Rattle.line_steps.proofs.SendingLaws.{sends_in, placed, extends}
use Rattle.line_steps.proofs.StartingLaws.{again, waits_now}
use Rattle.line_steps.proofs.TakingLaws.{head, waits_with, advanced}
use Rattle.line_steps.proofs.TalkedLaws.{cursor_own, cursor_other, cursor_moves, cursor_turned, talks_turned, x_heard_as, y_heard_as, x_heard_now, y_heard_now}
use Rattle.line_steps.proofs.RecordedLaws.{same_cursors}
use Rattle.line_steps.proofs.TellingLaws.{next_frame, ack_other-talks, ack_more-told, took_data-told}
use Rattle.line_steps.proofs.TurnLaws.{apart_turned}

-- ---- the frames

-- a fragment that may stand in any frame, and is no abort
pub record Plain (kind : PadpKind) : Type 0 where
  pub may : (given : FateValue) → MayBear given kind
  pub no_abort : is_abort kind ≡ false

pub data_plain : Plain kinds.Data
data_plain = search rules

pub ack_plain : Plain kinds.Ack
ack_plain = search rules

abort_stands : (stop : Stop) (fragment : FragmentValue) → Plain fragment.kind → is_abort (in_place (Some stop) fragment).kind ≡ is_aborted stop
abort_stands Unplugged fragment plain = plain.no_abort
abort_stands Aborted fragment plain = refl
abort_stands Undetected fragment plain = plain.no_abort

-- whatever the bytes, an abort and a pulled cable are told by the fate
stops_any : (stop : Stop) (id : ℕ) (fragment : FragmentValue) (given : FateValue) {bytes : List ℕ} → bytes ≡ padp_packet id (in_place (Some stop) fragment)
    → StopsBy given (padp_packet id fragment) (Some stop) → StopsBy given bytes (Some stop)
stops_any Unplugged id fragment given same stops = stops
stops_any Aborted id fragment given same stops = stops
stops_any Undetected id fragment given same stops = (stops.0, ap (λ b. holds_packet (strange_bytes given b)) same ∙ stops.1)

may_bear : (stop : Stop) (id : ℕ) (fragment : FragmentValue) (given : FateValue) → Plain fragment.kind → StopsBy given (padp_packet id fragment) (Some stop)
    → MayBear given (in_place (Some stop) fragment).kind
may_bear Unplugged id fragment given plain stops = plain.may given
may_bear Aborted id fragment given plain stops = stops
may_bear Undetected id fragment given plain stops = plain.may given

ends_with : {old new : List Frame} {from : End} {id : ℕ} {fragment : FragmentValue} {given : FateValue} {stop : Stop} → Plain fragment.kind → AllGo 1 old
    → Sends old from id fragment given (Some stop) new → EndsWith stop new
ends_with {old} {id} {fragment} {given} {stop} plain go sends =
    let it = placed sends (may_bear stop id fragment given plain sends.stops) in
    record {
      before = old;
      last = sends.frame;
      is = sends.is;
      go = go;
      number_is = sends.number_is;
      stops = subst (λ g. StopsBy g sends.frame.bytes.items (Some stop)) (sym sends.fate_is) (stops_any stop id fragment given sends.bytes_are sends.stops);
      bears = it.bears;
      aborts = ap (λ f. is_abort f.kind) it.fragment_is ∙ abort_stands stop fragment plain;
      abort_is = λ is. it.fragment_is ∙ ap (λ s. in_place (Some s) fragment) is;
    }

pub halts_by : (old new : List Frame) (from : End) (id : ℕ) (fragment : FragmentValue) (given : FateValue) (halt : Halt) (cursor : End → ℕ)
    → Plain fragment.kind → AllGo 1 old → Halts old from id fragment given halt new → HaltsBy halt cursor new
halts_by old new from id fragment given NoMemory cursor plain go halts = subst (AllGo 1) (sym halts) go
halts_by old new from id fragment given (Stopped stop) cursor plain go halts = ends_with plain go halts
halts_by old new from id fragment given (Down end) cursor plain go halts = absurd halts

-- what holds of the past without the frame and with it holds of the past behind a run that halted
same_stop : (stop : Stop) (P : List PastFrame → Type 0) {from : End} {id : ℕ} {fragment : FragmentValue} (given : FateValue) (frame : Frame) {past : List PastFrame}
    → Plain fragment.kind → fragment_in (frame_value frame) ≡ in_place (Some stop) fragment
    → sent_of frame ≡ sends_in from id (in_place (Some stop) fragment) given → P past → P (sends_in from id fragment given ∷ past)
    → P (add_frame (frame_value frame) past)
same_stop Unplugged P given frame {past} plain is sent without with_it =
    subst P (sym (cond-false _ _ _ (ap (λ f. is_abort f.kind) is ∙ plain.no_abort) ∙ ap (λ s. s ∷ past) sent)) with_it
same_stop Aborted P given frame plain is sent without with_it =
    subst P (sym (cond-true _ _ _ (ap (λ f. is_abort f.kind) is))) without
same_stop Undetected P given frame {past} plain is sent without with_it =
    subst P (sym (cond-false _ _ _ (ap (λ f. is_abort f.kind) is ∙ plain.no_abort) ∙ ap (λ s. s ∷ past) sent)) with_it

pub behind_halt : (P : List PastFrame → Type 0) (old new : List Frame) {from : End} {id : ℕ} {fragment : FragmentValue} (given : FateValue) (halt : Halt)
    → Plain fragment.kind → Halts old from id fragment given halt new
    → P (past_now old) → P (sends_in from id fragment given ∷ past_now old) → P (past_now new)
behind_halt P old new given NoMemory plain halts without with_it = subst (λ fs. P (past_now fs)) (sym halts) without
behind_halt P old new {id} {fragment} given (Stopped stop) plain halts without with_it =
    let it = placed halts (may_bear stop id fragment given plain halts.stops) in
    let past_is : past_now new ≡ add_frame (frame_value halts.frame) (past_now old) = ap past_now halts.is
    ∙ (ap (λ fs. past_behind [] fs) (map-append frame_value old (halts.frame ∷ [])) ∙ behind_push [] (map frame_value old) (frame_value halts.frame)) in
    subst P (sym past_is) (same_stop stop P given halts.frame plain it.fragment_is it.sent_is without with_it)
behind_halt P old new given (Down end) plain halts without with_it = absurd halts

-- ---- what they tell

pub spoken_of : {X Y : End} {talk : Talk} {cursor : End → ℕ} {past : List PastFrame} {x y : Side} → RepeatsHaveFaults past → cursor X ≤ length past
    → cursor Y ≤ length past → TellsTalk X Y talk cursor past x y → HasProperPast X Y talk cursor past
spoken_of faults x_in y_in talked = record {
  faults = faults;
  x_speaks = speaks_properly x_in talked.talking.x_speech;
  y_speaks = speaks_properly y_in talked.talking.y_speech;
  x_in = x_in;
  y_in = y_in;
  x_took = took_of talked.fx talked.talking.x_speech talked.x_heard;
  y_took = took_of talked.fy talked.talking.y_speech talked.y_heard;
}

pub spoken_now : {talk : Talk} {wire : Wire} {x y : Half} → Holds wire x y → Talks talk wire x y → Spoke talk wire x y
spoken_now {x} {y} holds talks =
    spoken_of holds.line.traced.faults (omega (arith, cursor_own x.end x.taken y.taken, holds.line.core.there.cur_in))
    (omega (arith, cursor_other x.end y.end x.taken y.taken holds.apart.there, holds.line.core.back.cur_in)) talks

-- with the cursor of x behind the next frame, and a frame more
spoken_next : {talk : Talk} {wire : Wire} {x y : Half} {sent : PastFrame} {sx sy : Side} → Holds wire x y → x.taken < length (past_now wire.frames.items)
    → RepeatsHaveFaults (sent ∷ past_now wire.frames.items) → TellsTalk x.end y.end talk (cursor_of (moved x) y) (sent ∷ past_now wire.frames.items) sx sy
    → HasProperPast x.end y.end talk (cursor_of (moved x) y) (sent ∷ past_now wire.frames.items)
spoken_next {x} {y} holds inside faults talked =
    spoken_of faults (omega (arith, cursor_own x.end (x.taken + 1) y.taken, inside))
    (omega (arith, cursor_other x.end y.end (x.taken + 1) y.taken holds.apart.there, holds.line.core.back.cur_in)) talked

-- ---- the next piece was to be sent behind an acknowledgement

module _ {wire : Wire} {x y : Half} where
  ack_faults : {key : Key} (given : FateValue) → Holds wire x y → AckNext x.end wire x.taken key → waiting_key y.sender ≡ Some key
      → y.sender.acknowledged + 1 < piece_count y.sender.length → RepeatsHaveFaults (next_frame y given ∷ past_now wire.frames.items)
  ack_faults given holds it is more =
      let at_head = head holds.go it.next in
      let w = waits_with holds.y_half is in
      let below : y.sender.acknowledged + 1 < piece_count (length y.message) =
      subst (λ n. y.sender.acknowledged + 1 < piece_count n) holds.y_half.length_is more in
      (running_next_piece {course = course_of given} holds.apart holds.line at_head.inside at_head.here at_head.late it.is w.waits
      (w.key_is ∙ sym it.key_is) below).traced.faults

  pub halted_ack : {new : Wire} {key : Key} (given : FateValue) {halt : Halt} → Holds wire x y → AckNext x.end wire x.taken key
      → waiting_key y.sender ≡ Some key → y.sender.acknowledged + 1 < piece_count y.sender.length
      → Halts wire.frames.items y.end y.sender.id (part_now (side_of (advanced y))) given halt new.frames.items
      → HaltsBetween halt wire x y new (moved x) (advanced y)
  halted_ack {new} given {halt} holds it is more halts =
      let at_head = head holds.go it.next in
      let part = part_now (side_of (advanced y)) in
      record {
        x_end = refl;
        y_end = refl;
        by = halts_by wire.frames.items new.frames.items y.end y.sender.id part given halt (cursor_of (moved x) y) data_plain holds.go halts;
        talks = λ talk talks. behind_halt (HasProperPast x.end y.end talk (cursor_of (moved x) y)) wire.frames.items new.frames.items given halt data_plain halts
            (spoken_of holds.line.traced.faults (omega (arith, cursor_own x.end (x.taken + 1) y.taken, at_head.inside))
            (omega (arith, cursor_other x.end y.end (x.taken + 1) y.taken holds.apart.there, holds.line.core.back.cur_in)) (ack_other-talks holds it talks))
            (spoken_next holds at_head.inside (ack_faults given holds it is more) (ack_more-told given holds it is more talks));
      }

  -- ---- data was to be acknowledged

  -- what was taken of x then
  unacked_heard : {talk : Talk} {key : Key} {taken : Taken} → DataHeard wire x y key taken → Talks talk wire x y
      → (fx : Bool) × HeardOf x.end (past_now wire.frames.items) (x.taken + 1) fx (side_of x)
  unacked_heard {key} {taken} heard talks = go taken heard where
    new : (answer : Taken) (whole : Bool) → (it : DataHeard wire x y key answer) → it.holds.fx ≡ true
        → Accepting x.end y.end (past_now wire.frames.items) y.taken (x.taken + 1) (side_of x) (side_of y) x.receiver it.before (sent_of it.next.frame).key
        (sent_of it.next.frame).bytes answer whole
        → (fx : Bool) × HeardOf x.end (past_now wire.frames.items) (x.taken + 1) fx (side_of x)
    new answer whole it fresh accepting =
        let at_head = head it.holds.go it.next in (
          false,
          heard_new it.holds.line.core it.holds.line.traced.x_acks at_head.inside at_head.here it.is it.next.comes_here fresh accepting.key_is accepting.waits
              (x_heard_now it.holds talks),
        )

    go : (answer : Taken) → DataHeard wire x y key answer → (fx : Bool) × HeardOf x.end (past_now wire.frames.items) (x.taken + 1) fx (side_of x)
    go Repeated it =
        let at_head = head it.holds.go it.next in
        let sent = sent_of it.next.frame in
        let last : it.before.last ≡ Some (sent_of it.next.frame).key = it.answers ∙ ap Some (sym it.key_is) in
        let copy = copy_is it.holds.line.core (omega arith) (omega (arith, at_head.inside)) at_head.here it.is last in (
          it.holds.fx,
          heard_again x.end y.end (past_now wire.frames.items) x.taken it.holds.fx (side_of x) it.holds.line.traced.x_acks at_head.here
              (and_from (is_data_of x.end sent) (comes sent.course) it.is it.next.comes_here) copy.key
              (x_heard_now it.holds talks),
        )
    go Accepted it = new Accepted false it ((after_heard it).0) ((after_heard it).1)
    go Whole it = new Whole true it ((after_heard it).0) ((after_heard it).1)
    go Dropped it = absurd (never_dropped it refl)

  unacked : {talk : Talk} {key : Key} {taken : Taken} → DataHeard wire x y key taken → Talks talk wire x y
      → HasProperPast x.end y.end talk (cursor_of (moved x) y) (past_now wire.frames.items)
  unacked {talk} heard talks =
      let holds = heard.holds in
      let past = past_now wire.frames.items in
      let sent = sent_of heard.next.frame in
      let at_head = head holds.go heard.next in
      let cursor = cursor_of x y in
      let next = cursor_of (moved x) y in
      let more = moves-more holds.apart.there (cursor_moves x.taken y.taken holds.apart.there) in
      let same = (cursor_moves x.taken y.taken holds.apart.there).kept in
      let comes_here = and_from (is_data_of x.end sent) (comes sent.course) heard.is heard.next.comes_here in
      record {
        faults = holds.line.traced.faults;
        x_speaks = speaks-unacked more (cursor_own x.end x.taken y.taken) (cursor_own x.end (x.taken + 1) y.taken) at_head.inside at_head.here comes_here
            (λ n frame older inside here. ap (is_taken next n) here) talks.talking.x_speech;
        y_speaks = speaks_properly (omega (arith, cursor_other x.end y.end (x.taken + 1) y.taken holds.apart.there, holds.line.core.back.cur_in))
            (speech-moves {later = next} more (ap (λ k. data_taken y.end (at k past)) same) talks.talking.y_speech);
        x_in = omega (arith, cursor_own x.end (x.taken + 1) y.taken, at_head.inside);
        y_in = omega (arith, cursor_other x.end y.end (x.taken + 1) y.taken holds.apart.there, holds.line.core.back.cur_in);
        x_took = subst (λ n. TookMessages x.end talk past n) (sym (cursor_own x.end (x.taken + 1) y.taken))
            (let took = unacked_heard heard talks in took_of took.0 talks.talking.x_speech took.1);
        y_took = subst (λ n. TookMessages y.end talk past n) (sym (cursor_other x.end y.end (x.taken + 1) y.taken holds.apart.there))
            (took_of holds.fy talks.talking.y_speech (y_heard_now holds talks));
      }

  pub halted_data : {new : Wire} {key : Key} {taken : Taken} (given : FateValue) {halt : Halt} {sender : _} → DataHeard wire x y key taken
      → NewSender taken y.sender sender → Halts wire.frames.items y.end key.id (ack_fragment key) given halt new.frames.items
      → HaltsBetween halt wire x y new (moved x) (record y { sender = sender })
  halted_data {new} {key} {taken} given {halt} {sender} heard after halts =
      let holds = heard.holds in
      let past = past_now wire.frames.items in
      let at_head = head holds.go heard.next in
      let ack = ack_frame y.end key (course_of given) in
      record {
        x_end = refl;
        y_end = refl;
        by = halts_by wire.frames.items new.frames.items y.end key.id (ack_fragment key) given halt (cursor_of (moved x) y) ack_plain holds.go halts;
        talks = λ talk talks. behind_halt (HasProperPast x.end y.end talk (cursor_of (moved x) y)) wire.frames.items new.frames.items given halt
            ack_plain halts (unacked heard talks)
            (spoken_next holds at_head.inside (faults_push ack past holds.line.traced.faults
            (λ Z. other_no_repeat Z ack past (ack_is_no_data Z y.end key (course_of given))))
            (took_data-told taken given sender heard after talks));
      }

  -- ---- a message was to begin

  more_spoken : {talk : Talk} (message : List ℕ) → Turn wire x y → Talks talk wire x y
      → HasProperPast x.end y.end (say x.end message talk) (cursor_of x y) (past_now wire.frames.items)
  more_spoken {talk} message turn talks =
      let past = past_now wire.frames.items in
      let cursor = cursor_of x y in
      let x_speech = talks.talking.x_speech in
      let y_speech = talks.talking.y_speech in
      let line = turn.settled.line in
      record {
        faults = line.traced.faults;
        x_speaks = speaks-more message (omega (arith, x_speech.begun))
            (speaks_properly (omega (arith, cursor_own x.end x.taken y.taken, line.core.there.cur_in)) x_speech);
        y_speaks = speaks-beside message turn.settled.apart.back (omega (arith, y_speech.begun))
            (speaks_properly (omega (arith, cursor_other x.end y.end x.taken y.taken turn.settled.apart.there, line.core.back.cur_in)) y_speech);
        x_in = omega (arith, cursor_own x.end x.taken y.taken, line.core.there.cur_in);
        y_in = omega (arith, cursor_other x.end y.end x.taken y.taken turn.settled.apart.there, line.core.back.cur_in);
        x_took = subst (λ n. TookMessages x.end (say x.end message talk) past n) (sym (cursor_own x.end x.taken y.taken))
            (took_more message x_speech (omega (arith, turn.idle)) (x_heard_as wire x y false line.core.there.follows talks));
        y_took = subst (λ n. TookMessages y.end (say x.end message talk) past n) (sym (cursor_other x.end y.end x.taken y.taken turn.settled.apart.there))
            (took_beside x.end message turn.settled.apart.back
            (took_of false y_speech (y_heard_as wire x y false turn.settled.apart.there line.core.back.follows talks)));
      }

  pub start_speaks : {talk : Talk} (new : Wire) {id : ℕ} (message : List ℕ) (given : FateValue) (halt : Halt) → Turn wire x y → (id ≡ x.sender.id → ⊥)
      → y.receiver.awaited ≡ Some id → y.receiver.pieces ≡ []
      → Halts wire.frames.items x.end id (part_now (beginning id message)) given halt new.frames.items → IsNextTo talk x y id → Talks talk wire x y
      → Spoke (say x.end message talk) new x y
  start_speaks {talk} new message given halt turn different awaited none halts next talks =
      let line = turn.settled.line in
      let after = running_starts (course_of given) turn.settled.apart line turn.knows different awaited none (λ w. omega (arith, w, turn.last)) in
      behind_halt (HasProperPast x.end y.end (say x.end message talk) (cursor_of x y)) wire.frames.items new.frames.items given halt data_plain halts
      (more_spoken message turn talks)
      (spoken_of after.traced.faults (omega (arith, cursor_own x.end x.taken y.taken, line.core.there.cur_in))
      (omega (arith, cursor_other x.end y.end x.taken y.taken turn.settled.apart.there, line.core.back.cur_in))
      (starts-told message given turn different awaited none next talks))

  -- ---- a piece was to be sent again

  again_faults : (given : FateValue) → Holds wire x y → IsBlocked x.end (past_now wire.frames.items) x.taken wire.released
      → IsBlocked y.end (past_now wire.frames.items) y.taken wire.released → Waits x.sender → RepeatsHaveFaults (again_frame x given ∷ past_now wire.frames.items)
  again_faults given holds x_blocked y_blocked waits =
      let now = waits_now holds.x_half waits in
      elim (cases_lt y.sender.acknowledged (piece_count (length y.message))) [
        | inl too ↦ (running_tick_two {course = course_of given} (course_of given) holds.apart holds.line x_blocked y_blocked now too).traced.faults.1
        | inr idle ↦ (running_tick_one {course = course_of given} holds.apart holds.line x_blocked y_blocked now (λ w. omega (arith, w, idle))).traced.faults
      ]

  both_faults : (given next : FateValue) → Holds wire x y → IsBlocked x.end (past_now wire.frames.items) x.taken wire.released
      → IsBlocked y.end (past_now wire.frames.items) y.taken wire.released → Waits x.sender → Waits y.sender
      → RepeatsHaveFaults (again_frame y next ∷ again_frame x given ∷ past_now wire.frames.items)
  both_faults given next holds x_blocked y_blocked x_waits y_waits =
      (running_tick_two (course_of next) holds.apart holds.line x_blocked y_blocked
      (waits_now holds.x_half x_waits) (waits_now holds.y_half y_waits)).traced.faults

  again_spoken : {talk : Talk} (given : FateValue) → Holds wire x y → IsBlocked x.end (past_now wire.frames.items) x.taken wire.released
      → IsBlocked y.end (past_now wire.frames.items) y.taken wire.released → Waits x.sender → x.sender.tries < 10 → Talks talk wire x y
      → HasProperPast x.end y.end talk (cursor_of x y) (again_frame x given ∷ past_now wire.frames.items)
  again_spoken given holds x_blocked y_blocked waits few talks =
      spoken_of (again_faults given holds x_blocked y_blocked waits) (omega (arith, cursor_own x.end x.taken y.taken, holds.line.core.there.cur_in))
      (omega (arith, cursor_other x.end y.end x.taken y.taken holds.apart.there, holds.line.core.back.cur_in)) (one_again-told given holds waits few talks)

  first_sends : {new : Wire} (given : FateValue) {halt : Halt} → Holds wire x y → IsBlocked x.end (past_now wire.frames.items) x.taken wire.released
      → IsBlocked y.end (past_now wire.frames.items) y.taken wire.released → Waits x.sender → x.sender.tries < 10
      → Halts wire.frames.items x.end x.sender.id (part_now (side_of x)) given halt new.frames.items → HaltsBetween halt wire x y new x y
  first_sends {new} given {halt} holds x_blocked y_blocked waits few halts = record {
    x_end = refl;
    y_end = refl;
    by = halts_by wire.frames.items new.frames.items x.end x.sender.id (part_now (side_of x)) given halt (cursor_of x y) data_plain holds.go halts;
    talks = λ talk talks. behind_halt (HasProperPast x.end y.end talk (cursor_of x y)) wire.frames.items new.frames.items given halt
        data_plain halts (spoken_now holds talks)
        (again_spoken given holds x_blocked y_blocked waits few talks);
  }

  pub first_halts : {new : Wire} (r : ℕ) (given : FateValue) (halt : Halt) → Holds wire x y → IsBlocked x.end (past_now wire.frames.items) x.taken wire.released
      → IsBlocked y.end (past_now wire.frames.items) y.taken wire.released → Waits x.sender
      → NotAgain halt given x (record wire { released = r }) new → HaltsBetween halt wire x y new x y
  first_halts r given NoMemory holds x_blocked y_blocked waits it = first_sends given holds x_blocked y_blocked waits it.0 it.1
  first_halts r given (Stopped stop) holds x_blocked y_blocked waits it = first_sends given holds x_blocked y_blocked waits it.0 it.1
  first_halts r given (Down end) holds x_blocked y_blocked waits it =
      subst (λ w. HaltsBetween (Down end) wire x y w x y) (sym it.2) (subst (λ X. HaltsBetween (Down X) wire x y (record wire { released = r }) x y) (sym it.0) (record {
        x_end = refl;
        y_end = refl;
        by = (holds.go, first_spent holds x_blocked y_blocked waits it.1);
        talks = λ talk talks. spoken_now holds talks;
      }))

module _ {wire mid new : Wire} {r : ℕ} {x y : Half} {given : FateValue} where
  second_sends : (next : FateValue) {halt : Halt} → Holds wire x y → IsBlocked x.end (past_now wire.frames.items) x.taken wire.released
      → IsBlocked y.end (past_now wire.frames.items) y.taken wire.released → Waits x.sender → Waits y.sender
      → SendsAgain (record wire { released = r }) x given mid (again x) → y.sender.tries < 10
      → Halts mid.frames.items y.end y.sender.id (part_now (side_of y)) next halt new.frames.items → HaltsBetween halt wire x y new x y
  second_sends next {halt} holds x_blocked y_blocked x_waits y_waits sent few halts =
      let longer = extends (record wire { released = r }) mid x.end x.sender.id (part_now (side_of x)) given holds.go sent.sends tt sent.released in
      record {
        x_end = refl;
        y_end = refl;
        by = halts_by mid.frames.items new.frames.items y.end y.sender.id (part_now (side_of y)) next halt (cursor_of x y) data_plain longer.go halts;
        talks = λ talk talks. behind_halt (HasProperPast x.end y.end talk (cursor_of x y)) mid.frames.items new.frames.items next halt data_plain halts
            (subst (λ p. HasProperPast x.end y.end talk (cursor_of x y) p) (sym longer.past) (again_spoken given holds x_blocked y_blocked x_waits sent.few talks))
            (subst (λ p. HasProperPast x.end y.end talk (cursor_of x y) (again_frame y next ∷ p)) (sym longer.past)
            (spoken_of (both_faults given next holds x_blocked y_blocked x_waits y_waits)
            (omega (arith, cursor_own x.end x.taken y.taken, holds.line.core.there.cur_in))
            (omega (arith, cursor_other x.end y.end x.taken y.taken holds.apart.there, holds.line.core.back.cur_in))
            (two_again-told given next holds x_waits y_waits sent.few few talks)));
      }

  second_now : (next : FateValue) (halt : Halt) → Holds wire x y → IsBlocked x.end (past_now wire.frames.items) x.taken wire.released
      → IsBlocked y.end (past_now wire.frames.items) y.taken wire.released → Waits x.sender → Waits y.sender
      → SendsAgain (record wire { released = r }) x given mid (again x) → NotAgain halt next y mid new → HaltsBetween halt wire x y new x y
  second_now next NoMemory holds x_blocked y_blocked x_waits y_waits sent it = second_sends next holds x_blocked y_blocked x_waits y_waits sent it.0 it.1
  second_now next (Stopped stop) holds x_blocked y_blocked x_waits y_waits sent it = second_sends next holds x_blocked y_blocked x_waits y_waits sent it.0 it.1
  second_now next (Down end) holds x_blocked y_blocked x_waits y_waits sent it =
      let longer = extends (record wire { released = r }) mid x.end x.sender.id (part_now (side_of x)) given holds.go sent.sends tt sent.released in
      subst (λ w. HaltsBetween (Down end) wire x y w x y) (sym it.2) (subst (λ X. HaltsBetween (Down X) wire x y mid x y) (sym it.0) (record {
        x_end = refl;
        y_end = refl;
        by = (
          longer.go,
          subst (λ p. IsSpent y.end (cursor_of x y) p) (sym longer.past)
              (subst (λ c. IsSpent y.end c (again_frame x given ∷ past_now wire.frames.items)) (cursor_turned y.end x.end y.taken x.taken holds.apart.back)
              (second_spent given holds x_blocked y_blocked y_waits it.1)),
        );
        talks = λ talk talks. subst (λ p. HasProperPast x.end y.end talk (cursor_of x y) p) (sym longer.past)
            (again_spoken given holds x_blocked y_blocked x_waits sent.few talks);
      }))

  pub second_halts : {x_later : Half} (next : FateValue) {halt : Halt} → Holds wire x y → IsBlocked x.end (past_now wire.frames.items) x.taken wire.released
      → IsBlocked y.end (past_now wire.frames.items) y.taken wire.released → Waits x.sender → Waits y.sender
      → SendsAgain (record wire { released = r }) x given mid x_later → NotAgain halt next y mid new → HaltsBetween halt wire x y new x y
  second_halts next {halt} holds x_blocked y_blocked x_waits y_waits sent it =
      second_now next halt holds x_blocked y_blocked x_waits y_waits (subst (λ h. SendsAgain (record wire { released = r }) x given mid h) sent.counted sent) it

-- ---- the same from elsewhere

pub spoken_turned : {X Y : End} {talk : Talk} {cursor : End → ℕ} {past : List PastFrame} → HasProperPast X Y talk cursor past → HasProperPast Y X talk cursor past
spoken_turned it = search rules

module _ {halt : Halt} {wire : Wire} {x y : Half} {new : Wire} {later_x later_y : Half} where
  pub halted_turned : Apart x.end y.end → Apart later_x.end later_y.end → HaltsBetween halt wire x y new later_x later_y → HaltsBetween halt wire y x new later_y later_x
  halted_turned apart later_apart it =
      let cursor = cursor_turned later_x.end later_y.end later_x.taken later_y.taken later_apart.there in
      record {
        x_end = it.y_end;
        y_end = it.x_end;
        by = subst (λ c. HaltsBy halt c new.frames.items) cursor it.by;
        talks = λ talk talks. subst (λ c. HasProperPast later_y.end later_x.end talk c (past_now new.frames.items)) cursor
            (spoken_turned (it.talks talk (talks_turned wire y x (apart_turned apart) talks)));
      }

  -- where both ends are where they were
  pub halted_there : Stays x later_x → Stays y later_y → HaltsBetween halt wire x y new x y → HaltsBetween halt wire x y new later_x later_y
  halted_there x_same y_same it =
      let cursor = same_cursors x y later_x later_y (x_same.end_is, x_same.taken_is) (y_same.end_is, y_same.taken_is) in
      record {
        x_end = x_same.end_is;
        y_end = y_same.end_is;
        by = subst (λ c. HaltsBy halt c new.frames.items) cursor it.by;
        talks = λ talk talks. subst (λ c. HasProperPast later_x.end later_y.end talk c (past_now new.frames.items)) cursor
            (subst (λ X. HasProperPast X later_y.end talk (cursor_of x y) (past_now new.frames.items)) (sym x_same.end_is)
            (subst (λ Y. HasProperPast x.end Y talk (cursor_of x y) (past_now new.frames.items)) (sym y_same.end_is) (it.talks talk talks)));
      }

  pub halted_behind : {wire0 : Wire} {x0 y0 : Half} → x.end ≡ x0.end → y.end ≡ y0.end → KeepsTalk wire0 x0 y0 wire x y
      → HaltsBetween halt wire x y new later_x later_y → HaltsBetween halt wire0 x0 y0 new later_x later_y
  halted_behind x_same y_same keeps it =
      record { x_end = it.x_end ∙ x_same; y_end = it.y_end ∙ y_same; by = it.by; talks = λ talk talks. it.talks talk (keeps talk talks) }

  pub halted_heeded : {h : Half} → MovesReceiver y h → HaltsBetween halt wire x h new later_x later_y → HaltsBetween halt wire x y new later_x later_y
  halted_heeded heeded it =
      let now = subst (λ k. HaltsBetween halt wire x k new later_x later_y) heeded it in
      record { x_end = now.x_end; y_end = now.y_end; by = now.by; talks = now.talks }

-- memory ran out before anything was sent
pub no_memory : {wire : Wire} {x y : Half} → Holds wire x y → HaltsBetween NoMemory wire x y wire x y
no_memory holds = record { x_end = refl; y_end = refl; by = holds.go; talks = λ talk talks. spoken_now holds talks }
