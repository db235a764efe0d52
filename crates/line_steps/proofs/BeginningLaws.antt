-- What the frames tell of the messages, where a message begins and where a piece goes again.
use Rattle.line_steps.proofs.Names.{rules, ◌≡◌, ℕ, zero, suc, ◌-◌, ◌<◌, ◌≤◌, true, false, List, [], ◌∷◌, length, Some, None, refl, sym, ap, subst, ◌∙◌}
use Rattle.line_steps.proofs.Names.{arith, inl, inr, ◌&&◌, Key, piece_count, Waits, End, Handheld, Desktop, FateValue, course_of, PastFrame, first, said}
use Rattle.line_steps.proofs.Names.{acked, EndReached, IfAnswers, Talk, messages_of, pieces_before, answered_by, answer_to, came_by, Apart, Side, Waiting}
use Rattle.line_steps.proofs.Names.{key_now, part_now, data_frame, left, count_messages, say, Speech, TalkingAt, first_is, running_starts, turned, beginning}
use Rattle.line_steps.proofs.Names.{end_taken, talking_starts, talking_tick_one, talking_tick_two, Half, Wire, past_now, side_of, Holds, Sends, cursor_of}
use Rattle.line_steps.proofs.Names.{TellsTalk, Talks, IsInTurn, IsNextTo, SendsAgain, Turn, HeardOf}
use Rattle.line_laws.proofs.StepLaws.{again as once_more}
use Rattle.line_steps.proofs.SendingLaws.{extends}
use Rattle.line_steps.proofs.StartingLaws.{begun, again, waits_now}
use Rattle.line_steps.proofs.StoryLaws.{heard_beside, heard_begins, heard_same}
use Rattle.line_steps.proofs.TalkedLaws.{x_heard_as, y_heard_as, x_heard_now, y_heard_now, at_own, at_other, cursor_own, cursor_other, talking_as, talking_now}
use Rattle.line_steps.proofs.TurnLaws.{apart_turned}

-- ---- which message comes next

-- the message of x that comes next answers nothing, the other end's last one, or its own last one, where the other end waits for nothing
data Answers (X Y : End) (talk : Talk) (y : Half) : Type 0 where
  answers_nothing : answered_by X (count_messages X talk) ≡ None → count_messages Y talk ≡ 0 → Answers X Y talk y
  answers_other : 0 < count_messages Y talk → answered_by X (count_messages X talk) ≡ Some (record { end = Y; number = count_messages Y talk - 1 })
      → answer_to Y (count_messages Y talk - 1) ≡ Some (count_messages X talk) → Answers X Y talk y
  answers_own : 0 < count_messages X talk → answered_by X (count_messages X talk) ≡ Some (record { end = X; number = count_messages X talk - 1 })
      → piece_count (length y.message) ≤ y.sender.acknowledged → Answers X Y talk y

answers_handheld : {talk : Talk} {y : Half} (h : ℕ) {d : ℕ} → count_messages Handheld talk ≡ h → count_messages Desktop talk ≡ d → IsInTurn Handheld h d y
    → Answers Handheld Desktop talk y
answers_handheld h h_is d_is (inl none) = answers_nothing (ap (answered_by Handheld) (h_is ∙ none.0)) (d_is ∙ none.1)
answers_handheld zero h_is d_is (inr next) = absurd (omega (arith, next.0))
answers_handheld {talk} (suc n) h_is d_is (inr next) =
    let last : suc n ≡ count_messages Desktop talk - 1 = omega (arith, d_is, next.1) in
    answers_other (omega (arith, d_is, next.1)) (ap (answered_by Handheld) h_is ∙ ap (λ k. Some (record { end = Desktop; number = k })) last)
    (ap (answer_to Desktop) (sym last) ∙ ap Some (sym h_is))

answers_desktop : {talk : Talk} {y : Half} {h : ℕ} (d : ℕ) → count_messages Handheld talk ≡ h → count_messages Desktop talk ≡ d → IsInTurn Desktop h d y
    → Answers Desktop Handheld talk y
answers_desktop {talk} d h_is d_is (inl begin) =
    let last : 0 ≡ count_messages Handheld talk - 1 = omega (arith, h_is, begin.0) in
    let count : count_messages Desktop talk ≡ 0 = d_is ∙ begin.1 in
    answers_other (omega (arith, h_is, begin.0)) (ap (answered_by Desktop) count ∙ ap (λ k. Some (record { end = Handheld; number = k })) last)
    (ap (answer_to Handheld) (sym last) ∙ ap Some (sym count))
answers_desktop {talk} d h_is d_is (inr (inl second)) =
    let count : count_messages Desktop talk ≡ 1 = d_is ∙ second.1 in
    let last : 0 ≡ count_messages Desktop talk - 1 = omega (arith, count) in
    answers_own (omega (arith, count)) (ap (answered_by Desktop) count ∙ ap (λ k. Some (record { end = Desktop; number = k })) last) second.2
answers_desktop zero h_is d_is (inr (inr next)) = absurd (omega (arith, next.0))
answers_desktop (suc zero) h_is d_is (inr (inr next)) = absurd (omega (arith, next.0))
answers_desktop {talk} (suc (suc n)) h_is d_is (inr (inr next)) =
    let last : suc n ≡ count_messages Handheld talk - 1 = omega (arith, h_is, next.1) in
    answers_other (omega (arith, h_is, next.1)) (ap (answered_by Desktop) d_is ∙ ap (λ k. Some (record { end = Handheld; number = k })) last)
    (ap (answer_to Handheld) (sym last) ∙ ap Some (sym d_is))

answers_of : (X Y : End) {talk : Talk} {y : Half} → Apart X Y → IsInTurn X (count_messages Handheld talk) (count_messages Desktop talk) y → Answers X Y talk y
answers_of Handheld Handheld apart turn = absurd (let e = apart.there in cc)
answers_of Handheld Desktop apart turn = answers_handheld _ refl refl turn
answers_of Desktop Handheld apart turn = answers_desktop _ refl refl turn
answers_of Desktop Desktop apart turn = absurd (let e = apart.there in cc)

-- ---- what it answers was taken

module _ {X Y : End} {talk : Talk} {cursor : End → ℕ} {past : List PastFrame} {x : Side} where
  -- an end that began a message said something
  some_said : Speech X Y talk cursor past x → left x ≡ 0 → 0 < count_messages X talk → 0 < length (said X past)
  some_said speech none some = search rules

  last_taken : Speech X Y talk cursor past x → left x ≡ 0 → said X past ≡ acked Y past → 0 < count_messages X talk
      → EndReached (record { end = X; number = count_messages X talk - 1 }) talk (came_by cursor past) past
  last_taken speech none same some = end_taken speech none same some (some_said speech none some)

  -- an end that began nothing waits for nothing
  none_waits : {key : Key} → Speech X Y talk cursor past x → count_messages X talk ≡ 0 → first (said X past) ≡ Some key → ⊥
  none_waits speech none newest =
      let f = first_is (said X past) newest in
      omega (arith, speech.begun, ap length f.1, ap (λ k. pieces_before (messages_of X talk) k) none)

-- ---- a message begins

-- the first piece stands on the line
abbrev pub first_frame : Half → ℕ → List ℕ → FateValue → PastFrame
first_frame x id message given = data_frame x.end (key_now (beginning id message)) ((part_now (beginning id message)).bytes) (course_of given)

pub starts-told : {talk : Talk} {wire : Wire} {x y : Half} {id : ℕ} (message : List ℕ) (given : FateValue) → Turn wire x y → (id ≡ x.sender.id → ⊥)
    → y.receiver.awaited ≡ Some id → y.receiver.pieces ≡ [] → IsNextTo talk x y id → Talks talk wire x y
    → TellsTalk x.end y.end (say x.end message talk) (cursor_of x y) (first_frame x id message given ∷ past_now wire.frames.items)
    (beginning id message) (side_of y)
starts-told {talk} {wire} {x} {y} {id} message given turn different awaited none next talks = go (answers_of x.end y.end turn.settled.apart next.turn) where
  past : List PastFrame
  past = past_now wire.frames.items

  side : Side
  side = beginning id message

  talking : TalkingAt x.end y.end talk (cursor_of x y) (past_now wire.frames.items) (side_of x) (side_of y) false false
  talking = talking_as turn.settled.line.core.there.follows turn.settled.line.core.back.follows talks

  x_before : HeardOf x.end (past_now wire.frames.items) x.taken false (side_of x)
  x_before = x_heard_as wire x y false turn.settled.line.core.there.follows talks

  y_before : HeardOf y.end (past_now wire.frames.items) y.taken false (side_of y)
  y_before = y_heard_as wire x y false turn.settled.apart.there turn.settled.line.core.back.follows talks

  told : IfAnswers (answered_by x.end (count_messages x.end talk)) talk (came_by (cursor_of x y) (past_now wire.frames.items)) (past_now wire.frames.items)
      → (Waiting (side_of y) → (0 < count_messages y.end talk) × (answer_to y.end (count_messages y.end talk - 1) ≡ Some (count_messages x.end talk)))
      → TellsTalk x.end y.end (say x.end message talk) (cursor_of x y) (first_frame x id message given ∷ past_now wire.frames.items)
      (beginning id message) (side_of y)
  told answers waits =
      let line = running_starts (course_of given) turn.settled.apart turn.settled.line turn.knows different awaited none (λ w. omega (arith, w, turn.last)) in
      record {
        fx = true;
        fy = false;
        there = line.core.there.follows;
        back = line.core.back.follows;
        talking = talking_starts turn.settled.apart turn.settled.line
            (λ w. omega (arith, w, turn.idle)) different next.id_is answers waits (cursor_own x.end x.taken y.taken)
            (cursor_other x.end y.end x.taken y.taken turn.settled.apart.there) talking;
        x_heard = at_own x.end y.end x.taken y.taken (first_frame x id message given ∷ past) true side
            (heard_begins x.end past (side_of x) side (course_of given) turn.settled.line.core.there.cur_in
            (λ same. different (turn.settled.line.core.x_speaks.newest_id _ same)) x_before);
        y_heard = at_other x.end y.end x.taken y.taken (first_frame x id message given ∷ past) false (side_of y) turn.settled.apart.there
            (heard_beside y.end (first_frame x id message given) past false (side_of y) turn.settled.line.core.back.cur_in
            (ap (λ b. b && true) turn.settled.apart.back) y_before);
      }

  go : Answers x.end y.end talk y
      → TellsTalk x.end y.end (say x.end message talk) (cursor_of x y) (first_frame x id message given ∷ past_now wire.frames.items)
      (beginning id message) (side_of y)
  go (answers_nothing answers zero_is) = told (subst (λ o. IfAnswers o talk (came_by (cursor_of x y) past) past) (sym answers) tt)
      (λ w. absurd (none_waits talking.y_speech zero_is (turn.settled.line.core.y_speaks.newest w)))
  go (answers_other some answers back) = told
      (subst (λ o. IfAnswers o talk (came_by (cursor_of x y) past) past) (sym answers)
      (last_taken talking.y_speech (omega (arith, turn.last)) turn.settled.line.core.back.follows some))
      (λ w. (some, back))
  go (answers_own some answers idle) = told
      (subst (λ o. IfAnswers o talk (came_by (cursor_of x y) past) past) (sym answers)
      (last_taken talking.x_speech (omega (arith, turn.idle)) turn.settled.line.core.there.follows some))
      (λ w. absurd (omega (arith, w, idle)))

pub starts-talks : {talk : Talk} {wire : Wire} (new : Wire) {x y : Half} {id : ℕ} (size : ℕ) (message : List ℕ) {given : FateValue} → Turn wire x y
    → (id ≡ x.sender.id → ⊥) → y.receiver.awaited ≡ Some id → y.receiver.pieces ≡ []
    → Sends wire.frames.items x.end id (part_now (beginning id message)) given None new.frames.items → new.released ≡ wire.released → IsNextTo talk x y id
    → Talks talk wire x y
    → Talks (say x.end message talk) new (record x { sender = begun id size; message = message }) y
starts-talks {talk} {wire} new {x} {y} {id} size message {given} turn different awaited none sends released next talks =
    let longer = extends wire new x.end id (part_now (beginning id message)) given turn.settled.go sends tt released in
    subst (λ p. TellsTalk x.end y.end (say x.end message talk) (cursor_of x y) p (beginning id message) (side_of y)) (sym longer.past)
    (starts-told message given turn different awaited none next talks)

-- ---- a tick

-- the waiting piece stands on the line again
abbrev pub again_frame : Half → FateValue → PastFrame
again_frame x given = data_frame x.end (key_now (side_of x)) ((part_now (side_of x)).bytes) (course_of given)

-- x sends its piece again, whether y waits or not
pub one_again-told : {talk : Talk} {wire : Wire} {x y : Half} (given : FateValue) → Holds wire x y → Waits x.sender → x.sender.tries < 10 → Talks talk wire x y
    → TellsTalk x.end y.end talk (cursor_of x y) (again_frame x given ∷ past_now wire.frames.items) (side_of x) (side_of y)
one_again-told {wire} {x} {y} given holds waits few talks =
    let past = past_now wire.frames.items in
    let now = waits_now holds.x_half waits in
    let core = once_more (course_of given) holds.apart holds.line.core now in
    record {
      fx = holds.fx;
      fy = holds.fy;
      there = core.there.follows;
      back = core.back.follows;
      talking = talking_tick_one holds.apart holds.line now few
          (cursor_own x.end x.taken y.taken) (cursor_other x.end y.end x.taken y.taken holds.apart.there) (talking_now holds talks);
      x_heard = at_own x.end y.end x.taken y.taken (again_frame x given ∷ past) holds.fx (side_of x)
          (heard_same x.end past holds.fx (side_of x) ((part_now (side_of x)).bytes) (course_of given) holds.line.core.there.cur_in
          (holds.line.core.x_speaks.newest now) (x_heard_now holds talks));
      y_heard = at_other x.end y.end x.taken y.taken (again_frame x given ∷ past) holds.fy (side_of y) holds.apart.there
          (heard_beside y.end (again_frame x given) past holds.fy (side_of y) holds.line.core.back.cur_in
          (ap (λ b. b && true) holds.apart.back) (y_heard_now holds talks));
    }

pub one_again-talks : {talk : Talk} {wire new : Wire} {r : ℕ} {x y : Half} {given : FateValue} → Holds wire x y → Waits x.sender
    → SendsAgain (record wire { released = r }) x given new (again x) → Talks talk wire x y → Talks talk new x y
one_again-talks {talk} {wire} {new} {r} {x} {y} {given} holds waits sent talks =
    let longer = extends (record wire { released = r }) new x.end x.sender.id (part_now (side_of x)) given holds.go sent.sends tt sent.released in
    subst (λ p. TellsTalk x.end y.end talk (cursor_of x y) p (side_of x) (side_of y)) (sym longer.past) (one_again-told given holds waits sent.few talks)

-- x does, and then y
pub two_again-told : {talk : Talk} {wire : Wire} {x y : Half} (given next : FateValue) → Holds wire x y → Waits x.sender → Waits y.sender → x.sender.tries < 10
    → y.sender.tries < 10 → Talks talk wire x y
    → TellsTalk x.end y.end talk (cursor_of x y) (again_frame y next ∷ again_frame x given ∷ past_now wire.frames.items) (side_of x) (side_of y)
two_again-told {wire} {x} {y} given next holds x_waits y_waits x_few y_few talks =
    let past = past_now wire.frames.items in
    let x_now = waits_now holds.x_half x_waits in
    let y_now = waits_now holds.y_half y_waits in
    let core = once_more (course_of given) holds.apart holds.line.core x_now in
    let back = once_more (course_of next) (apart_turned holds.apart) (turned core) y_now in
    record {
      fx = holds.fx;
      fy = holds.fy;
      there = back.back.follows;
      back = back.there.follows;
      talking = talking_tick_two holds.apart holds.line x_now y_now x_few y_few
          (cursor_own x.end x.taken y.taken) (cursor_other x.end y.end x.taken y.taken holds.apart.there) (talking_now holds talks);
      x_heard = at_own x.end y.end x.taken y.taken (again_frame y next ∷ again_frame x given ∷ past) holds.fx (side_of x)
          (heard_beside x.end (again_frame y next) (again_frame x given ∷ past) holds.fx (side_of x) (omega (arith, holds.line.core.there.cur_in))
          (ap (λ b. b && true) holds.apart.there) (heard_same x.end past holds.fx (side_of x) ((part_now (side_of x)).bytes) (course_of given)
          holds.line.core.there.cur_in (holds.line.core.x_speaks.newest x_now) (x_heard_now holds talks)));
      y_heard = at_other x.end y.end x.taken y.taken (again_frame y next ∷ again_frame x given ∷ past) holds.fy (side_of y) holds.apart.there
          (heard_same y.end (again_frame x given ∷ past) holds.fy (side_of y) ((part_now (side_of y)).bytes) (course_of next)
          (omega (arith, holds.line.core.back.cur_in)) (core.y_speaks.newest y_now)
          (heard_beside y.end (again_frame x given) past holds.fy (side_of y) holds.line.core.back.cur_in
          (ap (λ b. b && true) holds.apart.back) (y_heard_now holds talks)));
    }

pub two_again-talks : {talk : Talk} {wire mid new : Wire} {r : ℕ} {x y : Half} {given next : FateValue} → Holds wire x y → Waits x.sender → Waits y.sender
    → SendsAgain (record wire { released = r }) x given mid (again x) → SendsAgain mid y next new (again y)
    → Talks talk wire x y → Talks talk new x y
two_again-talks {talk} {wire} {mid} {new} {r} {x} {y} {given} {next} holds x_waits y_waits x_sent y_sent talks =
    let one = extends (record wire { released = r }) mid x.end x.sender.id (part_now (side_of x)) given holds.go x_sent.sends tt x_sent.released in
    let two = extends mid new y.end y.sender.id (part_now (side_of y)) next one.go y_sent.sends tt y_sent.released in
    subst (λ p. TellsTalk x.end y.end talk (cursor_of x y) p (side_of x) (side_of y)) (sym two.past)
    (subst (λ p. TellsTalk x.end y.end talk (cursor_of x y) (again_frame y next ∷ p) (side_of x) (side_of y)) (sym one.past)
    (two_again-told given next holds x_waits y_waits x_sent.few y_sent.few talks))

-- ---- the first state
