-- The step in which an end takes data, over the values of the program.
use Rattle.line_steps.proofs.Names.{rules, ◌≡◌, ◌⊎◌, ℕ, ◌+◌, ◌<◌, ◌≤◌, Bool, true, false, ◌&&◌, List, ◌∷◌, length, Some, None, refl, sym, ap, subst, ◌∙◌, arith}
use Rattle.line_steps.proofs.Names.{inl, inr, both_ways, and_parts, eqb-true, PadpKind, Data, Tickle, Abort, Key, Taken, Accepted, Whole, Repeated, Dropped}
use Rattle.line_steps.proofs.Names.{data_fragment, IsFragment, piece_count, ReceiverValue, Answers, after_answer, SenderValue, Waits, WaitsOnLast}
use Rattle.line_steps.proofs.Names.{ack-IsFragment, End, FateValue, is_data_kind, fragment_in, course_of, PastFrame, is_end, first, said, acked, at, data_of}
use Rattle.line_steps.proofs.Names.{frame_value, Side, Follows, CoreAt, ack_frame, LineAt, keys_apart, at_push, said_ack, IsCopy, IsNewest, pending_data, AfterData}
use Rattle.line_steps.proofs.Names.{Accepting, take_data, running_copy, running_newest, Half, Wire, sent_of, past_now, side_of, Holds, Sends, ack_fragment}
use Rattle.line_steps.proofs.Names.{DataHeard, IsAllTaken, Turn}
use Rattle.padp_link.specs.declared.fragment.PadpKind.TheVariants.{Ack}
use Rattle.line_steps.proofs.HoldsLaws.{moved, going}
use Rattle.line_steps.proofs.SendingLaws.{extends, lined}
use Rattle.line_steps.proofs.TakingLaws.{head}
use Rattle.line_steps.proofs.TurnLaws.{settled_turned, settled_holds}

-- ---- a copy is one of what was taken last

newest_was_new : {X Y : End} {past : List PastFrame} (fx : Bool) {n : ℕ} {frame : PastFrame} → Follows (said X past) (acked Y past) fx → IsNewest X Y frame n past fx
    → first (acked Y past) ≡ Some frame.key → ⊥
newest_was_new false follows newest copy = absurd (let e = newest.is_fresh in cc)
newest_was_new {X} {past} true {frame} follows newest copy =
    let e : Some follows.0 ≡ Some frame.key = sym (ap first follows.1) ∙ newest.key in
    keys_apart (data_of X) past follows.1 (copy ∙ sym e)

pub copy_is : {X Y : End} {past : List PastFrame} {cx cy : ℕ} {x y : Side} {rx ry : ReceiverValue} {fx fy : Bool} {n : ℕ} {frame : PastFrame} {older : List PastFrame}
    → CoreAt X Y past cx cy x y rx ry fx fy → cx ≤ n → n ≤ length past → at n past ≡ frame ∷ older → (is_end X frame.from && frame.is_data) ≡ true
    → ry.last ≡ Some frame.key → IsCopy X Y frame n past
copy_is {fx} core from inside here is last = elim (pending_data fx core.there from inside here is) [
  | inl copy ↦ copy
  | inr newest ↦ absurd (newest_was_new fx core.there.follows newest (sym core.y_hears.last_is ∙ last))
]

-- ---- what was heard, by its answer

abbrev AfterHeard : (wire : Wire) (x y : Half) (before : ReceiverValue) (fx fy : Bool) (sent : PastFrame) → Taken → Type 0
AfterHeard wire x y before fx fy sent taken =
    AfterData x.end y.end (past_now wire.frames.items) y.taken (x.taken + 1) (side_of x) (side_of y) x.receiver before fx fy sent.key sent.bytes taken

module _ {wire : Wire} {x y : Half} {key : Key} {taken : Taken} where
  pub after_heard : (heard : DataHeard wire x y key taken) → AfterHeard wire x y heard.before heard.holds.fx heard.holds.fy (sent_of heard.next.frame) taken
  after_heard heard =
      let holds = heard.holds in
      let sent = sent_of heard.next.frame in
      let past = past_now wire.frames.items in
      let at_head = head holds.go heard.next in
      take_data taken holds.apart holds.line.core (omega arith) (omega (arith, at_head.inside)) at_head.here heard.is
      (subst (λ k. Answers heard.before k.id (data_fragment k sent.bytes) taken) (sym heard.key_is) heard.answers)

  pub never_dropped : DataHeard wire x y key taken → taken ≡ Dropped → ⊥
  never_dropped heard is =
      subst (λ t. AfterHeard wire x y heard.before heard.holds.fx heard.holds.fy (sent_of heard.next.frame) t) is (after_heard heard)

  -- the end that waits waits on its last piece
  pub answers_wait : DataHeard wire x y key taken → (taken ≡ Repeated → ⊥) → Waits y.sender → WaitsOnLast y.sender
  answers_wait heard new waits = go taken new (after_heard heard) where
    same : y.sender.length ≡ length y.message
    same = heard.holds.y_half.length_is

    from : (answer : Taken) (whole : Bool)
        → Accepting x.end y.end (past_now wire.frames.items) y.taken (x.taken + 1) (side_of x) (side_of y) x.receiver heard.before
        (sent_of heard.next.frame).key (sent_of heard.next.frame).bytes answer whole → WaitsOnLast y.sender
    from answer whole accepting = (accepting.answers (subst (λ n. y.sender.acknowledged < piece_count n) same waits)).1 ∙ ap piece_count (sym same)

    go : (answer : Taken) → (answer ≡ Repeated → ⊥) → AfterHeard wire x y heard.before heard.holds.fx heard.holds.fy (sent_of heard.next.frame) answer
        → WaitsOnLast y.sender
    go Repeated new after = absurd (new refl)
    go Accepted new after = from Accepted false after.1
    go Whole new after = from Whole true after.1
    go Dropped new after = absurd after

data_kind : (kind : PadpKind) (from : Bool) → (from && is_data_kind kind) ≡ true → kind ≡ Data
data_kind Data from is = refl
data_kind Ack from is = absurd (both_ways _ refl ((and_parts from false is).1))
data_kind Tickle from is = absurd (both_ways _ refl ((and_parts from false is).1))
data_kind Abort from is = absurd (both_ways _ refl ((and_parts from false is).1))

-- its acknowledgement is a fragment
pub ack_fits : {wire : Wire} {x y : Half} {key : Key} {taken : Taken} → DataHeard wire x y key taken → key.flags < 256 → IsFragment (ack_fragment key)
ack_fits {x} {key} heard small =
    let frame = heard.next.frame in
    let fragment = fragment_in (frame_value frame) in
    let goes = going x.taken heard.holds heard.next.here in
    let kind : fragment.kind ≡ Data = data_kind fragment.kind (is_end x.end frame.from) heard.is in
    let flags : fragment.flags ≡ key.flags = ap (λ k. k.flags) heard.key_is in
    subst (λ k. IsFragment (ack_fragment k)) heard.key_is (ack-IsFragment fragment kind (omega (arith, small, flags)) goes.bears.fragment.fragment_is)

-- ---- the steps

-- the sender behind data that had this answer: nothing waits behind new data
abbrev pub NewSender : Taken → SenderValue → SenderValue → Type 0
NewSender Repeated old new = new ≡ old
NewSender Accepted old new = (new ≡ record old { acknowledged = new.acknowledged }) × (piece_count new.length ≤ new.acknowledged)
NewSender Whole old new = (new ≡ record old { acknowledged = new.acknowledged }) × (piece_count new.length ≤ new.acknowledged)
NewSender Dropped old new = ⊥

copied : {wire new : Wire} {x y : Half} {key : Key} {given : FateValue} → (heard : DataHeard wire x y key Repeated)
    → Sends wire.frames.items y.end key.id (ack_fragment key) given None new.frames.items → new.released ≡ wire.released → Holds new (moved x) y
copied {wire} {new} {x} {y} {key} {given} heard sends released =
    let holds = heard.holds in
    let sent = sent_of heard.next.frame in
    let past = past_now wire.frames.items in
    let at_head = head holds.go heard.next in
    let longer = extends wire new y.end key.id (ack_fragment key) given holds.go sends tt released in
    let last : heard.before.last ≡ Some sent.key = heard.answers ∙ ap Some (sym heard.key_is) in
    let copy = copy_is holds.line.core (omega arith) (omega (arith, at_head.inside)) at_head.here heard.is last in
    let line = running_copy holds.apart holds.line at_head.inside at_head.here at_head.late heard.is heard.next.comes_here copy in
    let keyed = subst (λ k. LineAt x.end y.end (ack_frame y.end k (course_of given) ∷ past) (x.taken + 1) y.taken wire.released (side_of x) (side_of y) x.receiver
    heard.before holds.fx holds.fy x.sender.tries y.sender.tries) heard.key_is line in
    subst (λ r. Holds new (moved x) (record y { receiver = r })) (sym heard.after) (record {
      apart = holds.apart;
      fx = holds.fx;
      fy = holds.fy;
      go = longer.go;
      x_half = record { length_is = holds.x_half.length_is; gap = holds.x_half.gap };
      y_half = record { length_is = holds.y_half.length_is; gap = holds.y_half.gap };
      line = lined longer keyed;
    })

module _ {wire new : Wire} {x y : Half} {key : Key} {sender : SenderValue} where
  accepted : {taken : Taken} {whole : Bool} {given : FateValue} → (heard : DataHeard wire x y key taken)
      → Accepting x.end y.end (past_now wire.frames.items) y.taken (x.taken + 1) (side_of x) (side_of y) x.receiver heard.before (sent_of heard.next.frame).key
      (sent_of heard.next.frame).bytes taken whole
      → sender ≡ record y.sender { acknowledged = sender.acknowledged } → piece_count sender.length ≤ sender.acknowledged
      → Sends wire.frames.items y.end key.id (ack_fragment key) given None new.frames.items → new.released ≡ wire.released
      → IsAllTaken new (moved x) (record y { sender = sender })
  accepted {taken} {given} heard accepting rest idle sends released =
      let holds = heard.holds in
      let sent = sent_of heard.next.frame in
      let past = past_now wire.frames.items in
      let at_head = head holds.go heard.next in
      let longer = extends wire new y.end key.id (ack_fragment key) given holds.go sends tt released in
      let k = sender.acknowledged in
      let over : piece_count (length y.message) ≤ k = subst (λ n. piece_count n ≤ k) (ap (λ s. s.length) rest ∙ holds.y_half.length_is) idle in
      let line = running_newest holds.apart holds.line at_head.inside at_head.here at_head.late heard.is heard.next.comes_here accepting over in
      let keyed = subst (λ key. LineAt x.end y.end (ack_frame y.end key (course_of given) ∷ past) (x.taken + 1) y.taken wire.released (side_of x)
      (record (side_of y) { acknowledged = k }) x.receiver (after_answer heard.before key.id (data_fragment key sent.bytes) taken) false false x.sender.tries
      y.sender.tries) heard.key_is line in
      subst (λ s. IsAllTaken new (moved x) (record y { sender = s })) (sym rest)
      (subst (λ r. IsAllTaken new (moved x) (record y { sender = record y.sender { acknowledged = k }; receiver = r })) (sym heard.after) (record {
        apart = holds.apart;
        go = longer.go;
        x_half = record { length_is = holds.x_half.length_is; gap = holds.x_half.gap };
        y_half = record { length_is = holds.y_half.length_is; gap = holds.y_half.gap };
        line = lined longer keyed;
      }))

  -- where the message is whole, it is the turn of the end that took it
  pub turns : {given : FateValue} → (heard : DataHeard wire x y key Whole) → sender ≡ record y.sender { acknowledged = sender.acknowledged }
      → piece_count sender.length ≤ sender.acknowledged
      → Sends wire.frames.items y.end key.id (ack_fragment key) given None new.frames.items → new.released ≡ wire.released
      → Turn new (record y { sender = sender }) (moved x)
  turns {given} heard rest idle sends released =
      let accepting = (after_heard heard).1 in
      let holds = heard.holds in
      let past = past_now wire.frames.items in
      let at_head = head holds.go heard.next in
      let longer = extends wire new y.end key.id (ack_fragment key) given holds.go sends tt released in
      let settled = accepted heard accepting rest idle sends released in
      let ack = ack_frame y.end key (course_of given) in
      let said_is : said y.end (past_now new.frames.items) ≡ said y.end past =
      ap (λ p. said y.end p) longer.past ∙ said_ack y.end y.end key (course_of given) past in
      let at_is : at (x.taken + 1) (past_now new.frames.items) ≡ at (x.taken + 1) past =
      ap (λ p. at (x.taken + 1) p) longer.past ∙ at_push ack past (omega (arith, at_head.inside)) in
      record {
        settled = settled_turned settled;
        knows = omega (arith, accepting.knows, ap length said_is, ap (λ p. length (acked x.end p)) at_is);
        idle = subst (λ n. piece_count n ≤ sender.acknowledged) (ap (λ s. s.length) rest ∙ holds.y_half.length_is) idle;
        last = omega (arith, eqb-true _ _ accepting.whole_is);
      }

  pub took_data : (taken : Taken) (given : FateValue) → DataHeard wire x y key taken → NewSender taken y.sender sender
      → Sends wire.frames.items y.end key.id (ack_fragment key) given None new.frames.items → new.released ≡ wire.released
      → Holds new (moved x) (record y { sender = sender })
  took_data Repeated given heard same sends released =
      subst (λ s. Holds new (moved x) (record y { sender = s })) (sym same) (copied heard sends released)
  took_data Accepted given heard idle sends released = settled_holds (accepted heard ((after_heard heard).1) idle.0 idle.1 sends released)
  took_data Whole given heard idle sends released = settled_holds (accepted heard ((after_heard heard).1) idle.0 idle.1 sends released)
  took_data Dropped given heard none sends released = absurd none

pub is_new_data : {taken : Taken} → (taken ≡ Accepted) ⊎ (taken ≡ Whole) → taken ≡ Repeated → ⊥
is_new_data (inl is) same = absurd (let e : Accepted ≡ Repeated = sym is ∙ same in cc)
is_new_data (inr is) same = absurd (let e : Whole ≡ Repeated = sym is ∙ same in cc)

pub same_sender : {taken : Taken} (sender : SenderValue) → taken ≡ Repeated → NewSender taken sender sender
same_sender sender is = search rules

pub idle_sender : {taken : Taken} (old : SenderValue) {new : SenderValue} → (taken ≡ Accepted) ⊎ (taken ≡ Whole)
    → new ≡ record old { acknowledged = new.acknowledged } → piece_count new.length ≤ new.acknowledged → NewSender taken old new
idle_sender old {new} (inl is) rest idle = subst (λ t. NewSender t old new) (sym is) (rest, idle)
idle_sender old {new} (inr is) rest idle = subst (λ t. NewSender t old new) (sym is) (rest, idle)
