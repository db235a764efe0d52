-- The message that an end made whole is the other one's.
use Rattle.line_steps.proofs.Names.{common_steps, ◌≡◌, ℕ, ◌+◌, ◌-◌, ◌≤◌, Bool, true, false, ◌&&◌, List, ◌∷◌, length, map, Some, None, sym, ap, subst, ◌∙◌}
use Rattle.line_steps.proofs.Names.{arith, inl, inr, eqb-true, eq-eqb, Key, Taken, Accepted, Whole, Repeated, Dropped, data_fragment, taken_pieces, piece_count}
use Rattle.line_steps.proofs.Names.{piece_of, ReceiverValue, Answers, after_answer, whole_of, SenderValue, is_complete-pieces, whole_of-held, End, Frame}
use Rattle.line_steps.proofs.Names.{FateValue, frame_value, PastFrame, is_end, said, at, Side, Waiting, key_now, part_now, Awaits, CoreAt, pending_data, takes, Half}
use Rattle.line_steps.proofs.Names.{Wire, EndsAcknowledging, last_key, sent_of, past_now, side_of, Sends, ack_fragment, DataHeard, TurnAfter}
use Rattle.line_laws.specs.Core.{Hears}
use Rattle.line_steps.proofs.HoldsLaws.{moved}
use Rattle.line_steps.proofs.TakingLaws.{head}
use Rattle.line_steps.proofs.DataLaws.{after_heard, NewSender, turns}

awaits_of : {Y : End} {past : List PastFrame} (fresh : Bool) {side : Side} {receiver : ReceiverValue} → Hears Y past fresh side receiver → fresh ≡ true
    → Waiting side → Awaits side.id side.acknowledged side.message receiver
awaits_of true hears is waits = hears.receives waits
awaits_of false hears is waits = absurd cc

-- data that wasn't taken before bears the waiting piece
part_of_new : {X Y : End} {past : List PastFrame} {cx cy : ℕ} {x y : Side} {rx ry : ReceiverValue} {fx fy : Bool} {n : ℕ} {frame : PastFrame} {older : List PastFrame}
    → CoreAt X Y past cx cy x y rx ry fx fy → cx ≤ n → n ≤ length past → at n past ≡ frame ∷ older → (is_end X frame.from && frame.is_data) ≡ true
    → (ry.last ≡ Some frame.key → ⊥) → Waiting x
    → frame.bytes ≡ (part_now x).bytes
part_of_new {X} {fx} {n} {frame} {older} core from inside here is new waits = elim (pending_data fx core.there from inside here is) [
  | inl copy ↦ absurd (new (core.y_hears.last_is ∙ copy.key))
  | inr newest ↦ core.x_speaks.bytes waits n frame older inside here is (ap (λ p. length (said X p)) (sym here) ∙ newest.newest)
]

whole_message : {message : List ℕ} {count : ℕ} → count ≡ piece_count (length message) → whole_of (taken_pieces (length message) count message) ≡ Some message
whole_message {message} {count} all =
    let complete = is_complete-pieces count message (omega (arith, all)) (omega (arith, all)) ∙ eq-eqb count (piece_count (length message)) all in
    whole_of-held (length message) count message (omega (arith, all)) complete

pub delivered : {wire : Wire} {x y : Half} {key : Key} → DataHeard wire x y key Whole → whole_of y.receiver.pieces ≡ Some x.message
delivered {wire} {x} {y} {key} heard =
    let after = after_heard heard in
    let accepting = after.1 in
    let holds = heard.holds in
    let core = holds.line.core in
    let side = side_of x in
    let sent = sent_of heard.next.frame in
    let past = past_now wire.frames.items in
    let at_head = head holds.go heard.next in
    let before = heard.before in
    let waits = accepting.waits in
    let awaits = awaits_of holds.fx core.y_hears after.0 waits in
    let key_is : key ≡ key_now side = sym heard.key_is ∙ accepting.key_is in
    let new : before.last ≡ Some sent.key → ⊥ = λ same. heard.answers.0 (same ∙ ap Some heard.key_is) in
    let bytes = part_of_new core (omega arith) (omega (arith, at_head.inside)) at_head.here heard.is new waits in
    let answers : Answers before side.id (part_now side) Whole = subst (λ b. Answers before side.id (data_fragment (key_now side) b) Whole) bytes
    (subst (λ k. Answers before k.id (data_fragment k sent.bytes) Whole) key_is heard.answers) in
    let took = takes {answer = Whole} awaits (λ same. new (same ∙ ap Some (sym accepting.key_is))) waits answers in
    let receiver : y.receiver ≡ after_answer before side.id (part_now side) Whole =
    heard.after ∙ ap (λ k. after_answer before k.id (data_fragment k sent.bytes) Whole) key_is
    ∙ ap (λ b. after_answer before side.id (data_fragment (key_now side) b) Whole) bytes in
    ap (λ r. whole_of r.pieces) receiver ∙ ap whole_of took.awaits.pieces ∙ whole_message (eqb-true _ _ accepting.whole_is)

-- what was sent in a frame stands at the end
ends_sent : {old new : List Frame} {Y : End} {key : Key} {given : FateValue} → Sends old Y key.id (ack_fragment key) given None new
    → EndsAcknowledging Y key (map frame_value new)
ends_sent sends = grind (arith, common_steps)

-- the message was made whole by its last piece, which is acknowledged
acknowledged : {wire : Wire} (new : Wire) {x y : Half} {key : Key} {given : FateValue} → DataHeard wire x y key Whole
    → Sends wire.frames.items y.end key.id (ack_fragment key) given None new.frames.items
    → EndsAcknowledging y.end (last_key x.sender.id x.message) (map frame_value new.frames.items)
acknowledged new {x} {y} {key} heard sends =
    let accepting = (after_heard heard).1 in
    let side = side_of x in
    let count = piece_count (length x.message) in
    let all : side.acknowledged + 1 ≡ count = eqb-true _ _ accepting.whole_is in
    let number : side.acknowledged ≡ count - 1 = omega (arith, all) in
    let key_is : key ≡ last_key x.sender.id x.message =
    sym heard.key_is ∙ accepting.key_is ∙ ap (λ n. (piece_of x.sender.id (length x.message) n).key) number in
    subst (λ k. EndsAcknowledging y.end k (map frame_value new.frames.items)) key_is (ends_sent sends)

pub turned_after : {wire : Wire} (new : Wire) {x y : Half} {key : Key} (taken : Taken) (given : FateValue) (sender : SenderValue) → DataHeard wire x y key taken
    → NewSender taken y.sender sender → Sends wire.frames.items y.end key.id (ack_fragment key) given None new.frames.items → new.released ≡ wire.released
    → TurnAfter taken new (record y { sender = sender }) (moved x)
turned_after new Repeated given sender heard same sends released = tt
turned_after new Accepted given sender heard idle sends released = tt
turned_after new Whole given sender heard idle sends released = (turns heard idle.0 idle.1 sends released, delivered heard, acknowledged new heard sends)
turned_after new Dropped given sender heard none sends released = absurd none
