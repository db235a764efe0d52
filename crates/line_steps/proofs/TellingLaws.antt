-- What the frames tell of the messages, where an end takes the other one's next frame.
use Rattle.line_steps.proofs.Names.{rules, ◌≡◌, ◌+◌, ◌<◌, ◌≤◌, Bool, true, false, ◌&&◌, ◌∷◌, length, Some, None, sym, ap, subst, ◌∙◌, arith, Key, Taken}
use Rattle.line_steps.proofs.Names.{Accepted, Whole, Repeated, Dropped, piece_count, SenderValue, waiting_key, FateValue, comes, course_of}
use Rattle.line_steps.proofs.Names.{PastFrame, first, said, acked, is_data_of, Talk, Follows, ack_frame, part_now, data_frame, key_now, Side, Accepting}
use Rattle.line_steps.proofs.Names.{acknowledged, take_ack, matched, talking_passes, talking_copy, talking_newest, talking_last_ack, talking_next_piece, Half}
use Rattle.line_steps.proofs.Names.{Wire, sent_of, past_now, side_of, Holds, Sends, ack_fragment, AckNext, DataHeard, cursor_of, TellsTalk, Talks, HeardOf}
use Rattle.line_steps.proofs.Names.{ack_is_no_data, and_from}
use Rattle.line_steps.proofs.DataLaws.{NewSender, after_heard, copy_is}
use Rattle.line_steps.proofs.HoldsLaws.{moved}
use Rattle.line_steps.proofs.SendingLaws.{extends}
use Rattle.line_steps.proofs.TakingLaws.{head, waits_with, advanced}
use Rattle.line_steps.proofs.StoryLaws.{heard_past, heard_again, heard_new, heard_beside, heard_begins}
use Rattle.line_steps.proofs.TalkedLaws.{x_heard_now, y_heard_now, at_own, at_other, cursor_own, cursor_other, cursor_moves, talking_now}
use Rattle.line_laws.proofs.RunningLaws.{ack_no_data}

-- ---- an acknowledgement

pub ack_other-talks : {talk : Talk} {wire : Wire} {x y : Half} {key : Key} → Holds wire x y → AckNext x.end wire x.taken key → Talks talk wire x y
    → Talks talk wire (moved x) y
ack_other-talks {wire} {x} {y} holds it talks =
    let at_head = head holds.go it.next in
    record {
      fx = holds.fx;
      fy = holds.fy;
      there = holds.line.core.there.follows;
      back = holds.line.core.back.follows;
      talking = talking_passes holds.apart
          (cursor_own x.end x.taken y.taken) (cursor_moves x.taken y.taken holds.apart.there) at_head.here
          (ack_no_data x.end (sent_of it.next.frame) it.is) (talking_now holds talks);
      x_heard = at_own x.end y.end (x.taken + 1) y.taken (past_now wire.frames.items) holds.fx (side_of x)
          (heard_past x.end (past_now wire.frames.items) x.taken holds.fx (side_of x) at_head.here
          (ack_no_data x.end (sent_of it.next.frame) it.is) (x_heard_now holds talks));
      y_heard = at_other x.end y.end (x.taken + 1) y.taken (past_now wire.frames.items) holds.fy (side_of y) holds.apart.there (y_heard_now holds talks);
    }

pub ack_last-talks : {talk : Talk} {wire : Wire} {x y : Half} {key : Key} → Holds wire x y → AckNext x.end wire x.taken key → waiting_key y.sender ≡ Some key
    → piece_count y.sender.length ≤ y.sender.acknowledged + 1 → Talks talk wire x y
    → Talks talk wire (moved x) (advanced y)
ack_last-talks {wire} {x} {y} holds it is last talks =
    let past = past_now wire.frames.items in
    let sent = sent_of it.next.frame in
    let at_head = head holds.go it.next in
    let w = waits_with holds.y_half is in
    let ends : y.sender.acknowledged + 1 ≡ piece_count (length y.message) = omega (arith, w.waits, last, ap piece_count holds.y_half.length_is) in
    let m = matched holds.line.core (omega arith) (omega (arith, at_head.inside)) at_head.here it.is w.waits (w.key_is ∙ sym it.key_is) in
    record {
      fx = holds.fx;
      fy = false;
      there = holds.line.core.there.follows;
      back = subst (λ f. Follows (said y.end past) (acked x.end past) f) m.none_fresh holds.line.core.back.follows;
      talking = talking_last_ack holds.apart holds.line at_head.inside at_head.here at_head.late
          it.is it.next.comes_here w.waits (w.key_is ∙ sym it.key_is) ends (cursor_own x.end x.taken y.taken)
          (cursor_moves x.taken y.taken holds.apart.there) (talking_now holds talks);
      x_heard = at_own x.end y.end (x.taken + 1) y.taken past holds.fx (side_of x)
          (heard_past x.end past x.taken holds.fx (side_of x) at_head.here (ack_no_data x.end sent it.is) (x_heard_now holds talks));
      y_heard = at_other x.end y.end (x.taken + 1) y.taken past false (acknowledged (side_of y)) holds.apart.there
          (subst (λ f. HeardOf y.end past y.taken f (side_of y)) m.none_fresh (y_heard_now holds talks));
    }

next_new : (side : Side) → side.acknowledged + 1 < piece_count (length side.message) → key_now side ≡ key_now (acknowledged side) → ⊥
next_new side below same = search rules

-- the next piece stands on the line
abbrev pub next_frame : Half → FateValue → PastFrame
next_frame y given = data_frame y.end (key_now (acknowledged (side_of y))) ((part_now (acknowledged (side_of y))).bytes) (course_of given)

module _ {talk : Talk} {wire : Wire} {x y : Half} {key : Key} where
  pub ack_more-told : (given : FateValue) → Holds wire x y → AckNext x.end wire x.taken key → waiting_key y.sender ≡ Some key
      → y.sender.acknowledged + 1 < piece_count y.sender.length → Talks talk wire x y
      → TellsTalk x.end y.end talk (cursor_of (moved x) y) (next_frame y given ∷ past_now wire.frames.items) (side_of x) (acknowledged (side_of y))
  ack_more-told given holds it is more talks =
      let past = past_now wire.frames.items in
      let sent = sent_of it.next.frame in
      let at_head = head holds.go it.next in
      let w = waits_with holds.y_half is in
      let below : y.sender.acknowledged + 1 < piece_count (length y.message) =
      subst (λ n. y.sender.acknowledged + 1 < piece_count n) holds.y_half.length_is more in
      let next = acknowledged (side_of y) in
      let m = matched holds.line.core (omega arith) (omega (arith, at_head.inside)) at_head.here it.is w.waits (w.key_is ∙ sym it.key_is) in
      let no_fresh : holds.fx ≡ false = (m.alone below).0 in
      let new : first (said y.end (past_now wire.frames.items)) ≡ Some (key_now (acknowledged (side_of y))) → ⊥ = λ same. next_new (side_of y) below
      (let e : Some (key_now (side_of y)) ≡ Some (key_now (acknowledged (side_of y))) = sym (holds.line.core.y_speaks.newest w.waits) ∙ same in cc) in
      let core = take_ack (course_of given) holds.apart holds.line.core (omega arith) (omega (arith, at_head.inside)) at_head.here it.is w.waits
      (w.key_is ∙ sym it.key_is) below in
      record {
        fx = false;
        fy = true;
        there = core.there.follows;
        back = core.back.follows;
        talking = talking_next_piece holds.apart holds.line at_head.inside at_head.here
            at_head.late it.is it.next.comes_here w.waits (w.key_is ∙ sym it.key_is) below (cursor_own x.end x.taken y.taken)
            (cursor_other x.end y.end x.taken y.taken holds.apart.there) (cursor_moves x.taken y.taken holds.apart.there) (talking_now holds talks);
        x_heard = at_own x.end y.end (x.taken + 1) y.taken (next_frame y given ∷ past) false (side_of x)
            (heard_beside x.end (next_frame y given) past false (side_of x) (omega (arith, at_head.inside)) (ap (λ b. b && true) holds.apart.there)
            (heard_past x.end past x.taken false (side_of x) at_head.here (ack_no_data x.end sent it.is)
            (subst (λ f. HeardOf x.end past x.taken f (side_of x)) no_fresh (x_heard_now holds talks))));
        y_heard = at_other x.end y.end (x.taken + 1) y.taken (next_frame y given ∷ past) true next holds.apart.there
            (heard_begins y.end past (side_of y) next (course_of given) holds.line.core.back.cur_in new
            (subst (λ f. HeardOf y.end past y.taken f (side_of y)) m.none_fresh (y_heard_now holds talks)));
      }

  pub ack_more-talks : (new : Wire) {given : FateValue} → Holds wire x y → AckNext x.end wire x.taken key → waiting_key y.sender ≡ Some key
      → y.sender.acknowledged + 1 < piece_count y.sender.length
      → Sends wire.frames.items y.end y.sender.id (part_now (side_of (advanced y))) given None new.frames.items → new.released ≡ wire.released
      → Talks talk wire x y → Talks talk new (moved x) (advanced y)
  ack_more-talks new {given} holds it is more sends released talks =
      let longer = extends wire new y.end y.sender.id (part_now (side_of (advanced y))) given holds.go sends tt released in
      subst (λ p. TellsTalk x.end y.end talk (cursor_of (moved x) y) p (side_of x) (acknowledged (side_of y))) (sym longer.past)
      (ack_more-told given holds it is more talks)

  -- ---- data, by its answer

  copied-told : (given : FateValue) → (heard : DataHeard wire x y key Repeated) → Talks talk wire x y
      → TellsTalk x.end y.end talk (cursor_of (moved x) y) (ack_frame y.end key (course_of given) ∷ past_now wire.frames.items) (side_of x) (side_of y)
  copied-told given heard talks =
      let holds = heard.holds in
      let old = record y { receiver = heard.before } in
      let sent = sent_of heard.next.frame in
      let past = past_now wire.frames.items in
      let at_head = head holds.go heard.next in
      let last : heard.before.last ≡ Some sent.key = heard.answers ∙ ap Some (sym heard.key_is) in
      let copy = copy_is holds.line.core (omega arith) (omega (arith, at_head.inside)) at_head.here heard.is last in
      let core = after_heard heard (course_of given) in
      let told : TellsTalk x.end y.end talk (cursor_of (moved x) y) (ack_frame y.end sent.key (course_of given) ∷ past) (side_of x) (side_of y) = record {
        fx = holds.fx;
        fy = holds.fy;
        there = core.there.follows;
        back = core.back.follows;
        talking = talking_copy holds.apart holds.line at_head.inside at_head.here at_head.late
            heard.is heard.next.comes_here copy (cursor_own x.end x.taken y.taken) (cursor_other x.end y.end x.taken y.taken holds.apart.there)
            (cursor_moves x.taken y.taken holds.apart.there) (talking_now holds talks);
        x_heard = at_own x.end y.end (x.taken + 1) y.taken (ack_frame y.end sent.key (course_of given) ∷ past) holds.fx (side_of x)
            (heard_beside x.end (ack_frame y.end sent.key (course_of given)) past holds.fx (side_of x) (omega (arith, at_head.inside))
            (ack_is_no_data x.end y.end sent.key (course_of given))
            (heard_again x.end y.end past x.taken holds.fx (side_of x) holds.line.traced.x_acks at_head.here
            (and_from (is_data_of x.end sent) (comes sent.course) heard.is heard.next.comes_here) copy.key (x_heard_now holds talks)));
        y_heard = at_other x.end y.end (x.taken + 1) y.taken (ack_frame y.end sent.key (course_of given) ∷ past) holds.fy (side_of y) holds.apart.there
            (heard_beside y.end (ack_frame y.end sent.key (course_of given)) past holds.fy (side_of y) holds.line.core.back.cur_in
            (ack_is_no_data y.end y.end sent.key (course_of given)) (y_heard_now holds talks));
      } in
      subst (λ k. TellsTalk x.end y.end talk (cursor_of (moved x) y) (ack_frame y.end k (course_of given) ∷ past) (side_of x) (side_of y)) heard.key_is told

  accepted-told : {taken : Taken} {whole : Bool} (given : FateValue) {sender : SenderValue} → (heard : DataHeard wire x y key taken)
      → Accepting x.end y.end (past_now wire.frames.items) y.taken (x.taken + 1) (side_of x) (side_of y) x.receiver heard.before (sent_of heard.next.frame).key
      (sent_of heard.next.frame).bytes taken whole
      → heard.holds.fx ≡ true → sender ≡ record y.sender { acknowledged = sender.acknowledged } → piece_count sender.length ≤ sender.acknowledged
      → Talks talk wire x y
      → TellsTalk x.end y.end talk (cursor_of (moved x) y) (ack_frame y.end key (course_of given) ∷ past_now wire.frames.items) (side_of x)
      (side_of (record y { sender = sender }))
  accepted-told given {sender} heard accepting fresh rest idle talks =
      let holds = heard.holds in
      let old = record y { receiver = heard.before } in
      let sent = sent_of heard.next.frame in
      let past = past_now wire.frames.items in
      let at_head = head holds.go heard.next in
      let k = sender.acknowledged in
      let over : piece_count (length y.message) ≤ k = subst (λ n. piece_count n ≤ k) (ap (λ s. s.length) rest ∙ holds.y_half.length_is) idle in
      let core = accepting.core k (course_of given) over in
      let told : TellsTalk x.end y.end talk (cursor_of (moved x) y) (ack_frame y.end sent.key (course_of given) ∷ past)
      (side_of x) (record (side_of y) { acknowledged = k }) = record {
        fx = false;
        fy = false;
        there = core.there.follows;
        back = core.back.follows;
        talking = talking_newest holds.apart holds.line at_head.inside at_head.here at_head.late
            heard.is heard.next.comes_here accepting over (cursor_own x.end x.taken y.taken) (cursor_other x.end y.end x.taken y.taken holds.apart.there)
            (cursor_moves x.taken y.taken holds.apart.there) (talking_now holds talks);
        x_heard = at_own x.end y.end (x.taken + 1) y.taken (ack_frame y.end sent.key (course_of given) ∷ past) false (side_of x)
            (heard_beside x.end (ack_frame y.end sent.key (course_of given)) past false (side_of x) (omega (arith, at_head.inside))
            (ack_is_no_data x.end y.end sent.key (course_of given))
            (heard_new holds.line.core holds.line.traced.x_acks at_head.inside at_head.here heard.is heard.next.comes_here fresh accepting.key_is
            accepting.waits (x_heard_now holds talks)));
        y_heard = at_other x.end y.end (x.taken + 1) y.taken (ack_frame y.end sent.key (course_of given) ∷ past) false (record (side_of y) { acknowledged = k })
            holds.apart.there (heard_beside y.end (ack_frame y.end sent.key (course_of given)) past false (side_of y) holds.line.core.back.cur_in
            (ack_is_no_data y.end y.end sent.key (course_of given))
            (subst (λ f. HeardOf y.end past y.taken f (side_of y)) (holds.line.core.one fresh) (y_heard_now holds talks)));
      } in
      subst (λ s. TellsTalk x.end y.end talk (cursor_of (moved x) y) (ack_frame y.end key (course_of given) ∷ past) (side_of x)
      (side_of (record y { sender = s }))) (sym rest)
      (subst (λ k'. TellsTalk x.end y.end talk (cursor_of (moved x) y) (ack_frame y.end k' (course_of given) ∷ past) (side_of x)
      (record (side_of y) { acknowledged = k })) heard.key_is told)

  -- data is acknowledged
  pub took_data-told : (taken : Taken) (given : FateValue) (sender : SenderValue) → DataHeard wire x y key taken → NewSender taken y.sender sender
      → Talks talk wire x y
      → TellsTalk x.end y.end talk (cursor_of (moved x) y) (ack_frame y.end key (course_of given) ∷ past_now wire.frames.items) (side_of x)
      (side_of (record y { sender = sender }))
  took_data-told Repeated given sender heard same talks =
      subst (λ s. TellsTalk x.end y.end talk (cursor_of (moved x) y) (ack_frame y.end key (course_of given) ∷ past_now wire.frames.items) (side_of x)
      (side_of (record y { sender = s }))) (sym same) (copied-told given heard talks)
  took_data-told Accepted given sender heard idle talks = accepted-told given heard ((after_heard heard).1) ((after_heard heard).0) idle.0 idle.1 talks
  took_data-told Whole given sender heard idle talks = accepted-told given heard ((after_heard heard).1) ((after_heard heard).0) idle.0 idle.1 talks
  took_data-told Dropped given sender heard none talks = absurd none

  pub took_data-talks : (new : Wire) {taken : Taken} {given : FateValue} (sender : SenderValue) → DataHeard wire x y key taken → NewSender taken y.sender sender
      → Sends wire.frames.items y.end key.id (ack_fragment key) given None new.frames.items → new.released ≡ wire.released
      → Talks talk wire x y → Talks talk new (moved x) (record y { sender = sender })
  took_data-talks new {taken} {given} sender heard after sends released talks =
      let longer = extends wire new y.end key.id (ack_fragment key) given heard.holds.go sends tt released in
      subst (λ p. TellsTalk x.end y.end talk (cursor_of (moved x) y) p (side_of x) (side_of (record y { sender = sender }))) (sym longer.past)
      (took_data-told taken given sender heard after talks)
