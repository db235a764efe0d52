-- A message stays on its way until it is whole.
use Rattle.line_steps.proofs.Names.{rules, ◌≡◌, ℕ, ◌+◌, ◌<◌, ◌≤◌, Bool, true, false, List, [], ◌∷◌, length, Some, None, refl, sym, ap, subst, ◌∙◌, arith}
use Rattle.line_steps.proofs.Names.{both_ways, eqb-false, Key, Taken, Accepted, Whole, Repeated, Dropped, piece_count, ReceiverValue, SenderValue}
use Rattle.line_steps.proofs.Names.{Waits, waiting_key, FateValue, course_of, PastFrame, said, acked, Apart, Waiting, Follows, CoreAt, part_now, ack_frame}
use Rattle.line_steps.proofs.Names.{running_starts, turned, acknowledged, beginning, matched, take_ack, Active, active_begun, active_taken, active_goes_on}
use Rattle.line_steps.proofs.Names.{Half, Wire, Heard, Nothing, Ack, sent_of, past_now, side_of, IsHalf, AllGo, Holds, MovesReceiver, AllTaken, Sends, ack_fragment}
use Rattle.line_steps.proofs.Names.{AckNext, DataHeard, KeepsTalk, SendsAgain, Turn, Underway, StillUnderway}
use Rattle.line_laws.proofs.StepLaws.{again as once_more}
use Rattle.line_steps.specs.declared.hearing.Heard.TheVariants.{Data}
use Rattle.line_steps.proofs.DataLaws.{NewSender, after_heard}
use Rattle.line_steps.proofs.HoldsLaws.{moved}
use Rattle.line_steps.proofs.SendingLaws.{extends}
use Rattle.line_steps.proofs.StartingLaws.{begun, again, waits_now}
use Rattle.line_steps.proofs.TurnLaws.{apart_turned, holds_turned}
use Rattle.line_steps.proofs.BeginningLaws.{one_again-talks, two_again-talks}
use Rattle.line_steps.proofs.TalkedLaws.{talk_turned}
use Rattle.line_steps.proofs.TellingLaws.{ack_other-talks, ack_last-talks, ack_more-talks, took_data-talks}
use Rattle.line_steps.proofs.TakingLaws.{head, waits_with, advanced}

-- ---- by counts, and by the record of the line

pub active_of : {wire : Wire} {x y : Half} → (holds : Holds wire x y) → Underway wire x y → Active holds.fx (side_of x)
active_of holds it = search rules

-- of both ends
back_of : {wire : Wire} {x y : Half} → (holds : Holds wire x y) → Underway wire y x → Active holds.fy (side_of y)
back_of holds it = search rules

underway : {wire : Wire} {x y : Half} {past : List PastFrame} {fx : Bool} → past_now wire.frames.items ≡ past → Follows (said x.end past) (acked y.end past) fx
    → Active fx (side_of x) → Underway wire x y
underway same follows active = search rules

-- ---- what was all taken

none_fresh : (fresh : Bool) (said acked : List Key) → Follows said acked fresh → length said ≤ length acked → fresh ≡ false
none_fresh false said acked follows all = refl
none_fresh true said acked follows all = absurd (omega (arith, all, ap length follows.1))

-- so it is behind more frames, while x waits
all_taken : {wire new : Wire} {x y later_x later_y : Half} {past : List PastFrame} {fresh : Bool} → Waiting (side_of later_x) → AllTaken wire x y → fresh ≡ false
    → past_now new.frames.items ≡ past → Follows (said later_x.end past) (acked later_y.end past) fresh
    → side_of later_x ≡ side_of x → side_of later_y ≡ side_of y → AllTaken new later_x later_y
all_taken waits it none same follows x_same y_same = search rules

-- ---- an acknowledgement

pub ack_other-underway : {wire : Wire} {x y : Half} {key : Key} → Holds wire x y → AckNext x.end wire x.taken key
    → StillUnderway (Ack key) wire x y wire (moved x) y
ack_other-underway holds next = record {
  own = λ it. record { waits = it.waits; due = it.due };
  other = λ it. record { waits = it.waits; due = it.due };
  own_taken = λ waits it. record { all = it.all; idle = it.idle; last = it.last; knows = λ over. absurd (omega (arith, waits, over)) };
  other_taken = λ waits it. record { all = it.all; idle = it.idle; last = it.last; knows = λ over. absurd (omega (arith, waits, over)) };
  talks = λ talk. ack_other-talks holds next;
}

pub ack_last-underway : {wire : Wire} {x y : Half} {key : Key} → Holds wire x y → AckNext x.end wire x.taken key → waiting_key y.sender ≡ Some key
    → piece_count y.sender.length ≤ y.sender.acknowledged + 1 → StillUnderway (Ack key) wire x y wire (moved x) (advanced y)
ack_last-underway holds it is last =
    let at_head = head holds.go it.next in
    let w = waits_with holds.y_half is in
    let m = matched holds.line.core (omega arith) (omega (arith, at_head.inside)) at_head.here it.is w.waits (w.key_is ∙ sym it.key_is) in
    record {
      own = λ own. record { waits = own.waits; due = own.due };
      other = λ other. absurd (omega (arith, last, ap piece_count holds.y_half.length_is, active_goes_on holds.fy (back_of holds other) m.none_fresh));
      own_taken = λ waits taken. absurd (omega (arith, w.waits, taken.idle));
      other_taken = λ waits taken. record { all = taken.all; idle = taken.idle; last = omega (arith, taken.last); knows = λ over. m.knows };
      talks = λ talk. ack_last-talks holds it is last;
    }

pub ack_more-underway : {wire new : Wire} {x y : Half} {key : Key} {given : FateValue} → Holds wire x y → AckNext x.end wire x.taken key
    → waiting_key y.sender ≡ Some key → y.sender.acknowledged + 1 < piece_count y.sender.length
    → Sends wire.frames.items y.end y.sender.id (part_now (side_of (advanced y))) given None new.frames.items → new.released ≡ wire.released
    → StillUnderway (Ack key) wire x y new (moved x) (advanced y)
ack_more-underway {wire} {new} {y} {given} holds it is more sends released =
    let past = past_now wire.frames.items in
    let next = acknowledged (side_of y) in
    let sent = sent_of it.next.frame in
    let at_head = head holds.go it.next in
    let w = waits_with holds.y_half is in
    let below : y.sender.acknowledged + 1 < piece_count (length y.message) =
    subst (λ n. y.sender.acknowledged + 1 < piece_count n) holds.y_half.length_is more in
    let m = matched holds.line.core (omega arith) (omega (arith, at_head.inside)) at_head.here it.is w.waits (w.key_is ∙ sym it.key_is) in
    let longer = extends wire new y.end y.sender.id (part_now (side_of (advanced y))) given holds.go sends tt released in
    let core = take_ack (course_of given) holds.apart holds.line.core (omega arith) (omega (arith, at_head.inside)) at_head.here it.is w.waits
    (w.key_is ∙ sym it.key_is) below in
    record {
      own = λ own. absurd ((m.alone below).1 own.waits);
      own_taken = λ waits taken. absurd ((m.alone below).1 waits);
      other_taken = λ waits taken. absurd (omega (arith, below, taken.last));
      other = λ other. underway longer.past core.back.follows (active_begun below);
      talks = λ talk. ack_more-talks new holds it is more sends released;
    }

-- ---- data, by its answer

-- before y took it
abbrev before : (wire : Wire) (x y : Half) (receiver : ReceiverValue) → Underway wire x y → Underway wire x (record y { receiver = receiver })
before wire x y receiver it = record { waits = it.waits; due = it.due }

abbrev before_back : (wire : Wire) (x y : Half) (receiver : ReceiverValue) → Underway wire y x → Underway wire (record y { receiver = receiver }) x
before_back wire x y receiver it = record { waits = it.waits; due = it.due }

-- the past behind the acknowledgement
acked_past : {wire : Wire} (new : Wire) {x y : Half} {key : Key} {taken : Taken} {given : FateValue} → (heard : DataHeard wire x y key taken)
    → Sends wire.frames.items y.end key.id (ack_fragment key) given None new.frames.items → new.released ≡ wire.released
    → past_now new.frames.items ≡ ack_frame y.end (sent_of heard.next.frame).key (course_of given) ∷ past_now wire.frames.items
acked_past {wire} new {y} {key} {given} heard sends released =
    (extends wire new y.end key.id (ack_fragment key) given heard.holds.go sends tt released).past
    ∙ ap (λ k. ack_frame y.end k (course_of given) ∷ past_now wire.frames.items) (sym heard.key_is)

copied-underway : {wire new : Wire} {x y : Half} {key : Key} {given : FateValue} → (heard : DataHeard wire x y key Repeated)
    → Sends wire.frames.items y.end key.id (ack_fragment key) given None new.frames.items → new.released ≡ wire.released
    → StillUnderway (Data key Repeated) wire x y new (moved x) y
copied-underway {wire} {new} {x} {y} {given} heard sends released =
    let old = record y { receiver = heard.before } in
    let ack = ack_frame y.end (sent_of heard.next.frame).key (course_of given) in
    let longer = acked_past new heard sends released in
    let core = after_heard heard (course_of given) in
    record {
      own = λ it. underway longer core.there.follows (active_of heard.holds (before wire x y heard.before it));
      other = λ it. underway longer core.back.follows (back_of heard.holds (before_back wire x y heard.before it));
      own_taken = λ waits it. all_taken waits it (none_fresh heard.holds.fx _ _ heard.holds.line.core.there.follows it.all) longer core.there.follows refl refl;
      other_taken = λ waits it. all_taken waits it (none_fresh heard.holds.fy _ _ heard.holds.line.core.back.follows it.all) longer core.back.follows refl refl;
      talks = λ talk. took_data-talks new y.sender heard refl sends released;
    }

-- while a message of y is on its way, nothing new of x comes
none_new : {wire : Wire} {x y : Half} → (holds : Holds wire x y) → holds.fx ≡ true → Underway wire y x → ⊥
none_new holds fresh it = search rules

more_pieces : {acknowledged count : ℕ} → acknowledged < count → (acknowledged + 1 ≡ count → ⊥) → acknowledged + 1 < count
more_pieces below other = search rules

module _ {wire new : Wire} {x y : Half} {key : Key} {sender : SenderValue} where
  accepted-underway : {given : FateValue} → (heard : DataHeard wire x y key Accepted) → NewSender Accepted y.sender sender
      → Sends wire.frames.items y.end key.id (ack_fragment key) given None new.frames.items → new.released ≡ wire.released
      → StillUnderway (Data key Accepted) wire x y new (moved x) (record y { sender = sender })
  accepted-underway {given} heard idle sends released =
      let old = record y { receiver = heard.before } in
      let ack = ack_frame y.end (sent_of heard.next.frame).key (course_of given) in
      let longer = acked_past new heard sends released in
      let after = after_heard heard in
      let accepting = after.1 in
      let core = accepting.core (piece_count (length y.message)) (course_of given) (omega arith) in
      let more = more_pieces accepting.waits (eqb-false _ _ accepting.whole_is) in
      record {
        own = λ it. underway longer core.there.follows (active_taken accepting.waits more);
        other = λ it. absurd (none_new heard.holds after.0 (before_back wire x y heard.before it));
        own_taken = λ waits it. absurd (both_ways heard.holds.fx (none_fresh heard.holds.fx _ _ heard.holds.line.core.there.follows it.all) after.0);
        other_taken = λ waits it. absurd (omega (arith, accepting.waits, it.idle));
        talks = λ talk. took_data-talks new sender heard idle sends released;
      }

  whole-underway : {given : FateValue} → (heard : DataHeard wire x y key Whole) → NewSender Whole y.sender sender
      → Sends wire.frames.items y.end key.id (ack_fragment key) given None new.frames.items → new.released ≡ wire.released
      → StillUnderway (Data key Whole) wire x y new (moved x) (record y { sender = sender })
  whole-underway heard idle sends released = record {
    own = λ it. tt;
    other = λ it. absurd (none_new heard.holds (after_heard heard).0 (before_back wire x y heard.before it));
    own_taken = λ waits it. absurd (both_ways heard.holds.fx (none_fresh heard.holds.fx _ _ heard.holds.line.core.there.follows it.all) (after_heard heard).0);
    other_taken = λ waits it. absurd (omega (arith, (after_heard heard).1.waits, it.idle));
    talks = λ talk. took_data-talks new sender heard idle sends released;
  }

  pub took_data-underway : (taken : Taken) (given : FateValue) → DataHeard wire x y key taken → NewSender taken y.sender sender
      → Sends wire.frames.items y.end key.id (ack_fragment key) given None new.frames.items → new.released ≡ wire.released
      → StillUnderway (Data key taken) wire x y new (moved x) (record y { sender = sender })
  took_data-underway Repeated given heard same sends released =
      subst (λ s. StillUnderway (Data key Repeated) wire x y new (moved x) (record y { sender = s })) (sym same) (copied-underway heard sends released)
  took_data-underway Accepted given heard idle sends released = accepted-underway heard idle sends released
  took_data-underway Whole given heard idle sends released = whole-underway heard idle sends released
  took_data-underway Dropped given heard none sends released = absurd none

-- an end heeds what it hears first
pub heeded-underway : {heard : Heard} {wire : Wire} {x y h : Half} {new : Wire} {later_x later_y : Half} → MovesReceiver y h
    → StillUnderway heard wire x h new later_x later_y → StillUnderway heard wire x y new later_x later_y
heeded-underway {heard} {wire} {x} {new} {later_x} {later_y} heeded still =
    let now = subst (λ k. StillUnderway heard wire x k new later_x later_y) heeded still in
    record {
      own = λ it. now.own (record { waits = it.waits; due = it.due });
      other = λ it. now.other (record { waits = it.waits; due = it.due });
      own_taken = λ waits it. now.own_taken waits (record { all = it.all; idle = it.idle; last = it.last; knows = it.knows });
      other_taken = λ waits it. now.other_taken waits (record { all = it.all; idle = it.idle; last = it.last; knows = it.knows });
      talks = now.talks;
    }

-- ---- a message begins, and a tick

pub starts-underway : {wire new : Wire} {x y : Half} {id size : ℕ} {message : List ℕ} {given : FateValue} → Turn wire x y → (id ≡ x.sender.id → ⊥)
    → y.receiver.awaited ≡ Some id → y.receiver.pieces ≡ [] → size ≡ length message
    → Sends wire.frames.items x.end id (part_now (beginning id message)) given None new.frames.items → new.released ≡ wire.released
    → Underway new (record x { sender = begun id size; message = message }) y
starts-underway {wire} {new} {x} {id} {message} {given} turn other awaited none fits sends released =
    let settled = turn.settled in
    let side = beginning id message in
    let longer = extends wire new x.end id (part_now side) given settled.go sends tt released in
    let line = running_starts (course_of given) settled.apart settled.line turn.knows other awaited none (λ waits. omega (arith, waits, turn.last)) in
    underway longer.past line.core.there.follows (active_begun (line.core.x_speaks.waits refl))

-- x sends again, behind a past of both ends
record Behind (wire : Wire) (x y : Half) (fx fy : Bool) : Type 0 where
  pub apart : Apart x.end y.end
  pub go : AllGo 1 wire.frames.items
  pub half : IsHalf x
  pub core : CoreAt x.end y.end (past_now wire.frames.items) x.taken y.taken (side_of x) (side_of y) x.receiver y.receiver fx fy

module _ {wire new : Wire} {x y : Half} where
  again_core : {fx fy : Bool} {given : FateValue} → Behind wire x y fx fy → Waits x.sender → SendsAgain wire x given new (again x)
      → CoreAt x.end y.end (past_now new.frames.items) x.taken y.taken (side_of x) (side_of y) x.receiver y.receiver fx fy
  again_core {fx} {fy} {given} behind waits sent =
      let longer = extends wire new x.end x.sender.id (part_now (side_of x)) given behind.go sent.sends tt sent.released in
      subst (λ p. CoreAt x.end y.end p x.taken y.taken (side_of x) (side_of y) x.receiver y.receiver fx fy) (sym longer.past)
      (once_more (course_of given) behind.apart behind.core (waits_now behind.half waits))

  keeps : (holds : Holds wire x y)
      → CoreAt x.end y.end (past_now new.frames.items) x.taken y.taken (side_of x) (side_of y) x.receiver y.receiver holds.fx holds.fy
      → KeepsTalk wire x y new x y → StillUnderway Nothing wire x y new x y
  keeps holds core talks = search rules

  -- tries are no part of it
  tried_x : StillUnderway Nothing wire x y new x y → StillUnderway Nothing wire x y new (again x) y
  tried_x still = search rules

  tried_both : StillUnderway Nothing wire x y new x y → StillUnderway Nothing wire x y new (again x) (again y)
  tried_both still = search rules

  still_turned : {later_x later_y : Half} → Apart x.end y.end → Apart later_x.end later_y.end → StillUnderway Nothing wire x y new later_x later_y
      → StillUnderway Nothing wire y x new later_y later_x
  still_turned {later_x} {later_y} apart later_apart still =
      record {
        own = still.other;
        other = still.own;
        own_taken = still.other_taken;
        other_taken = still.own_taken;
        talks = talk_turned wire x y new later_x later_y apart later_apart still.talks;
      }

pub tick_one-underway : {wire new : Wire} {r : ℕ} {x y later : Half} {given : FateValue} → Holds wire x y → Waits x.sender
    → SendsAgain (record wire { released = r }) x given new later → StillUnderway Nothing wire x y new later y
tick_one-underway {wire} {new} {r} {x} {y} {given} holds waits sent =
    let now = subst (λ h. SendsAgain (record wire { released = r }) x given new h) sent.counted sent in
    let behind : Behind (record wire { released = r }) x y holds.fx holds.fy =
    record { apart = holds.apart; go = holds.go; half = holds.x_half; core = holds.line.core } in
    subst (λ h. StillUnderway Nothing wire x y new h y) (sym sent.counted)
    (tried_x (keeps holds (again_core behind waits now) (λ talk. one_again-talks holds waits now)))

pub tick_other-underway : {wire new : Wire} {r : ℕ} {x y later : Half} {given : FateValue} → Holds wire x y → Waits y.sender
    → SendsAgain (record wire { released = r }) y given new later → StillUnderway Nothing wire x y new x later
tick_other-underway {x} holds waits sent =
    let apart = apart_turned holds.apart in
    still_turned apart (subst (λ h. Apart h.end x.end) (sym sent.counted) apart) (tick_one-underway (holds_turned holds) waits sent)

pub tick_two-underway : {wire first new : Wire} {r : ℕ} {x y x_later y_later : Half} {given other : FateValue} → Holds wire x y → Waits x.sender
    → Waits y.sender → SendsAgain (record wire { released = r }) x given first x_later → SendsAgain first y other new y_later
    → StillUnderway Nothing wire x y new x_later y_later
tick_two-underway {wire} {first} {new} {r} {x} {y} {x_later} {given} {other} holds x_waits y_waits x_sent y_sent =
    let x_now = subst (λ h. SendsAgain (record wire { released = r }) x given first h) x_sent.counted x_sent in
    let y_now = subst (λ h. SendsAgain first y other new h) y_sent.counted y_sent in
    let behind : Behind (record wire { released = r }) x y holds.fx holds.fy =
    record { apart = holds.apart; go = holds.go; half = holds.x_half; core = holds.line.core } in
    let longer = extends (record wire { released = r }) first x.end x.sender.id (part_now (side_of x)) given holds.go x_sent.sends tt x_sent.released in
    let one = again_core behind x_waits x_now in
    let back : Behind first y x holds.fy holds.fx = record {
      apart = apart_turned holds.apart;
      go = longer.go;
      half = holds.y_half;
      core = turned one;
    } in
    let two = again_core back y_waits y_now in
    let core = turned two in
    subst (λ h. StillUnderway Nothing wire x y new x_later h) (sym y_sent.counted)
    (subst (λ h. StillUnderway Nothing wire x y new h (again y)) (sym x_sent.counted)
    (tried_both (keeps holds core (λ talk. two_again-talks holds x_waits y_waits x_now y_now))))
