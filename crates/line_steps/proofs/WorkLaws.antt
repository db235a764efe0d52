-- Each step leaves less to do.
use Rattle.line_steps.proofs.Names.{rules, ◌≡◌, ◌⊎◌, inl, inr, ℕ, suc, ◌+◌, ◌<◌, ◌≤◌, true, false, ◌&&◌, List, ◌∷◌, length, Some, None, sym, ap, subst, ◌∙◌}
use Rattle.line_steps.proofs.Names.{arith, Key, Taken, Accepted, Whole, Repeated, Dropped, piece_count, SenderValue, Waits, waiting_key, End, FateValue}
use Rattle.line_steps.proofs.Names.{course_of, PastFrame, is_end, is_data_of, Apart, Waiting, key_now, part_now, data_frame, ack_frame, measure, acknowledged}
use Rattle.line_steps.proofs.Names.{rest-idle, measure_passes, measure_copy, measure_newest, measure_last_ack, measure_next_piece, measure_again, Half, Wire}
use Rattle.line_steps.proofs.Names.{sent_of, past_now, side_of, IsHalf, AllGo, Holds, MovesReader, Sends, ack_fragment, AckNext, DataHeard, SendsAgain, work_left}
use Rattle.line_steps.proofs.DataLaws.{NewSender}
use Rattle.line_steps.proofs.FrameLaws.{length-past}
use Rattle.line_steps.proofs.HoldsLaws.{moved}
use Rattle.line_steps.proofs.SendingLaws.{Extends, sends_in, extends}
use Rattle.line_steps.proofs.StartingLaws.{again}
use Rattle.line_steps.proofs.TurnLaws.{holds_turned}
use Rattle.line_steps.proofs.TakingLaws.{Head, head, waits_with, advanced}

other_data : {X Y : End} → Apart X Y → (key : Key) (bytes : List ℕ) (course : _) → is_data_of X (data_frame Y key bytes course) ≡ false
other_data apart key bytes course = ap (λ b. b && true) apart.there

-- a frame is passed, and the reader of the other end may read
pub skip_less : {wire : Wire} {x y new : Half} → Holds wire x y → x.taken < length wire.frames.items → MovesReader y new
    → work_left wire (moved x) new < work_left wire x y
skip_less {wire} {x} {y} holds inside read =
    let past = past_now wire.frames.items in
    let less = measure_passes x.end y.end past (side_of x) (side_of y) x.sender.tries y.sender.tries
    (omega (arith, inside, length-past wire.frames.items holds.go)) holds.line.core.back.cur_in in
    subst (λ h. work_left wire (moved x) h < work_left wire x y) (sym read) less

pub ack_other-less : {wire : Wire} {x y : Half} {key : Key} → Holds wire x y → AckNext x.end wire x.taken key → work_left wire (moved x) y < work_left wire x y
ack_other-less {wire} {x} {y} holds it =
    measure_passes x.end y.end (past_now wire.frames.items) (side_of x) (side_of y) x.sender.tries y.sender.tries
    (head holds.go it.next).inside holds.line.core.back.cur_in

pub ack_last-less : {wire : Wire} {x y : Half} {key : Key} → Holds wire x y → AckNext x.end wire x.taken key → waiting_key y.sender ≡ Some key
    → piece_count y.sender.length ≤ y.sender.acknowledged + 1 → work_left wire (moved x) (advanced y) < work_left wire x y
ack_last-less {wire} {x} {y} holds it is last =
    let w = waits_with holds.y_half is in
    let ends : y.sender.acknowledged + 1 ≡ piece_count (length y.message) = omega (arith, w.waits, last, ap piece_count holds.y_half.length_is) in
    let less = measure_last_ack x.end y.end (past_now wire.frames.items) (side_of x) (side_of y) x.sender.tries y.sender.tries (head holds.go it.next).inside
    holds.line.core.back.cur_in ends in
    omega (arith, less, rest-idle (acknowledged (side_of y)) y.sender.tries (omega (arith, ends)), rest-idle (acknowledged (side_of y)) 1 (omega (arith, ends)))

pub ack_more-less : {wire : Wire} (new : Wire) {x y : Half} {key : Key} {given : FateValue} → Holds wire x y → AckNext x.end wire x.taken key
    → y.sender.acknowledged + 1 < piece_count y.sender.length
    → Sends wire.frames.items y.end y.sender.id (part_now (side_of (advanced y))) given None new.frames.items → new.released ≡ wire.released
    → work_left new (moved x) (advanced y) < work_left wire x y
ack_more-less {wire} new {x} {y} {given} holds it more sends released =
    let past = past_now wire.frames.items in
    let next = acknowledged (side_of y) in
    let below : y.sender.acknowledged + 1 < piece_count (length y.message) =
    subst (λ n. y.sender.acknowledged + 1 < piece_count n) holds.y_half.length_is more in
    let longer = extends wire new y.end y.sender.id (part_now (side_of (advanced y))) given holds.go sends tt released in
    let less = measure_next_piece x.end y.end past (side_of x) (side_of y) x.sender.tries y.sender.tries (key_now next) ((part_now next).bytes)
    (course_of given) (other_data holds.apart (key_now next) ((part_now next).bytes) (course_of given)) (head holds.go it.next).inside
    holds.line.core.back.cur_in below in
    subst (λ p. measure x.end y.end p (x.taken + 1) y.taken (side_of x) next x.sender.tries 1 < work_left wire x y) (sym longer.past) less

-- data, by its answer
pub took_data-less : {wire : Wire} (new : Wire) {x y : Half} {key : Key} {taken : Taken} (given : FateValue) (sender : SenderValue)
    → DataHeard wire x y key taken → NewSender taken y.sender sender → Sends wire.frames.items y.end key.id (ack_fragment key) given None new.frames.items
    → new.released ≡ wire.released
    → work_left new (moved x) (record y { sender = sender }) < work_left wire x y
took_data-less {wire} new {x} {y} {key} {taken} given sender heard after sends released = go taken after where
  past : List PastFrame
  past = past_now wire.frames.items

  sent : PastFrame
  sent = sent_of heard.next.frame

  longer : Extends wire new (sends_in y.end key.id (ack_fragment key) given)
  longer = extends wire new y.end key.id (ack_fragment key) given heard.holds.go sends tt released

  at_head : Head x.end wire x.taken (sent_of heard.next.frame)
  at_head = head heard.holds.go heard.next

  keyed : (k : ℕ) (tries : ℕ)
      → measure x.end y.end (ack_frame y.end sent.key (course_of given) ∷ past) (x.taken + 1) y.taken (side_of x) (record (side_of y) { acknowledged = k })
      x.sender.tries tries < work_left wire x y
      → measure x.end y.end (past_now new.frames.items) (x.taken + 1) y.taken (side_of x) (record (side_of y) { acknowledged = k })
      x.sender.tries tries < work_left wire x y
  keyed k tries less = subst (λ p. measure x.end y.end p (x.taken + 1) y.taken (side_of x) (record (side_of y) { acknowledged = k }) x.sender.tries tries <
      work_left wire x y) (sym longer.past)
      (subst (λ key. measure x.end y.end (ack_frame y.end key (course_of given) ∷ past) (x.taken + 1) y.taken (side_of x)
      (record (side_of y) { acknowledged = k }) x.sender.tries tries < work_left wire x y) heard.key_is less)

  copy : work_left new (moved x) y < work_left wire x y
  copy = keyed y.sender.acknowledged y.sender.tries (measure_copy x.end y.end past (side_of x) (side_of y) x.sender.tries y.sender.tries (course_of given)
      at_head.inside heard.holds.line.core.back.cur_in at_head.here heard.is heard.next.comes_here)

  newest : sender ≡ record y.sender { acknowledged = sender.acknowledged } → piece_count sender.length ≤ sender.acknowledged
      → work_left new (moved x) (record y { sender = sender }) < work_left wire x y
  newest rest idle =
      let over : piece_count (length y.message) ≤ sender.acknowledged =
      subst (λ n. piece_count n ≤ sender.acknowledged) (ap (λ s. s.length) rest ∙ heard.holds.y_half.length_is) idle in
      subst (λ s. work_left new (moved x) (record y { sender = s }) < work_left wire x y) (sym rest)
      (keyed sender.acknowledged y.sender.tries (measure_newest x.end y.end past (side_of x) (side_of y) x.sender.tries y.sender.tries (course_of given)
      at_head.inside heard.holds.line.core.back.cur_in at_head.here heard.is heard.next.comes_here over))

  go : (answer : Taken) → NewSender answer y.sender sender → work_left new (moved x) (record y { sender = sender }) < work_left wire x y
  go Repeated same = subst (λ s. work_left new (moved x) (record y { sender = s }) < work_left wire x y) (sym same) copy
  go Accepted idle = newest idle.0 idle.1
  go Whole idle = newest idle.0 idle.1
  go Dropped none = absurd none

-- ---- a piece is sent again

again_less : {wire new : Wire} {x : Half} (y : Half) {given : FateValue} → AllGo 1 wire.frames.items → is_end y.end x.end ≡ false → IsHalf x
    → x.taken ≤ length (past_now wire.frames.items) → y.taken ≤ length (past_now wire.frames.items) → Waits x.sender → SendsAgain wire x given new (again x)
    → work_left new (again x) y < work_left wire x y
again_less {wire} {new} {x} y {given} go apart half x_in y_in waits sent =
    let past = past_now wire.frames.items in
    let side = side_of x in
    let longer = extends wire new x.end x.sender.id (part_now side) given go sent.sends tt sent.released in
    let now : Waiting side = subst (λ n. x.sender.acknowledged < piece_count n) half.length_is waits in
    let less = measure_again x.end y.end past side (side_of y) y.sender.tries (key_now side) ((part_now side).bytes) (course_of given)
    (ap (λ b. b && true) apart) x_in y_in now sent.few in
    let more : suc x.sender.tries ≡ x.sender.tries + 1 = omega arith in
    subst (λ t. measure x.end y.end (past_now new.frames.items) x.taken y.taken side (side_of y) t y.sender.tries < work_left wire x y) more
    (subst (λ p. measure x.end y.end p x.taken y.taken side (side_of y) (suc x.sender.tries) y.sender.tries < work_left wire x y) (sym longer.past) less)

pub tick_one-less : {wire new : Wire} {r : ℕ} {x y later : Half} {given : FateValue} → Holds wire x y → Waits x.sender
    → SendsAgain (record wire { released = r }) x given new later → work_left new later y < work_left wire x y
tick_one-less {wire} {new} {r} {x} {y} {given} holds waits sent =
    let now = subst (λ h. SendsAgain (record wire { released = r }) x given new h) sent.counted sent in
    subst (λ h. work_left new h y < work_left wire x y) (sym sent.counted)
    (again_less y holds.go holds.apart.back holds.x_half holds.line.core.there.cur_in holds.line.core.back.cur_in waits now)

pub work_turned : (wire : Wire) (x y : Half) → work_left wire x y ≡ work_left wire y x
work_turned wire x y = search rules

pub tick_other-less : {wire new : Wire} {r : ℕ} {x y later : Half} {given : FateValue} → Holds wire x y → Waits y.sender
    → SendsAgain (record wire { released = r }) y given new later → work_left new x later < work_left wire x y
tick_other-less {wire} {new} {x} {y} {later} holds waits sent =
    omega (arith, tick_one-less (holds_turned holds) waits sent, work_turned wire x y, work_turned new x later)

pub other_waits : {A B : Type 0} → (A → ⊥) → A ⊎ B → B
other_waits idle (inl waits) = absurd (idle waits)
other_waits idle (inr waits) = waits

pub tick_two-less : {wire first new : Wire} {r : ℕ} {x y x_later y_later : Half} {given other : FateValue} → Holds wire x y → Waits x.sender → Waits y.sender
    → SendsAgain (record wire { released = r }) x given first x_later → SendsAgain first y other new y_later
    → work_left new x_later y_later < work_left wire x y
tick_two-less {wire} {first} {new} {r} {x} {y} {x_later} {y_later} {given} {other} holds x_waits y_waits x_sent y_sent =
    let longer = extends (record wire { released = r }) first x.end x.sender.id (part_now (side_of x)) given holds.go x_sent.sends tt x_sent.released in
    let size : length (past_now first.frames.items) ≡ suc (length (past_now wire.frames.items)) = ap length longer.past in
    let one = tick_one-less holds x_waits x_sent in
    let now = subst (λ h. SendsAgain first y other new h) y_sent.counted y_sent in
    let two = again_less (again x) longer.go holds.apart.there holds.y_half (omega (arith, holds.line.core.back.cur_in, size))
    (omega (arith, holds.line.core.there.cur_in, size)) y_waits now in
    let two_later = subst (λ h. work_left new h x_later < work_left first y x_later) (sym y_sent.counted)
    (subst (λ h. work_left new (again y) h < work_left first y h) (sym x_sent.counted) two) in
    omega (arith, one, two_later, work_turned new x_later y_later, work_turned first x_later y)

pub skips_less : {wire : Wire} (x0 y0 : Half) {x y new : Half} → Holds wire x y → work_left wire x y ≤ work_left wire x0 y0 → x.taken < length wire.frames.items
    → MovesReader y new → work_left wire (moved x) new ≤ work_left wire x0 y0
skips_less x0 y0 holds before inside read = omega (arith, before, skip_less holds inside read)
