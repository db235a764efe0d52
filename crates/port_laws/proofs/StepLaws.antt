-- An end begins a piece, and its newest piece was answered.
use Rattle.std.proofs.Common.{◌≡◌, ◌≤◌, ◌<◌, ◌-◌, ℕ, ◌+◌, false, List, [], ◌∷◌, ◌++◌, length, Some, None, refl, subst, sym, ap, ◌∙◌, arith}
use Rattle.padp_end.specs.Arrivals.{Data, arrival_of}
use Rattle.padp_end.specs.Ends.{EndValue, is_acked}
use Rattle.padp_end.specs.Outgoings.{OutgoingFragment, piece_said}
use Rattle.padp_link.specs.Collecting.{taken_pieces}
use Rattle.padp_link.specs.Pieces.{fragment_of, piece_count, piece_of}
use Rattle.padp_link.specs.Senders.{SenderValue, waiting}
use Rattle.padp_link.specs.declared.piece.Key.{Key}
use Rattle.port_laws.specs.Cables.{BearsFor, Count, HasParts, IsOver, IsPiece, Side, Parcel, Way}
use Rattle.port_laws.specs.Cables.{key_now, number_now, packet_of, part_count, piece_now, parcels}
use Rattle.port_laws.proofs.QueueLaws.{at_most-itself, bear-append, bear-lost, bear-on, rise-append, rise-ends, rise-from, rise-lost}
use Rattle.port_laws.proofs.SayLaws.{flags_within, newest_text, number_within, piece-arrives}

-- ---- a new piece

-- an end that sends this from now on
abbrev pub with_sender : EndValue → SenderValue → List ℕ → EndValue
with_sender end sender message = record { receiver = end.receiver; sender = sender; message = message }

-- one that began a piece more
abbrev pub begun_more : Side → SenderValue → List ℕ → Side
begun_more y sender message =
    record { end = with_sender y.end sender message; count = record { taken = y.count.taken; begun = y.count.begun + 1 } }

-- the piece that is newest then, as it is said
abbrev pub newest_said : SenderValue → List ℕ → OutgoingFragment
newest_said sender message = piece_said message (piece_now sender)

-- What has to hold at that: all pieces so far are over, and no acknowledgement of the last one counts for the new one.
pub record MayBegin (x y : Side) (there back : List Parcel) (sender : SenderValue) (message : List ℕ) : Type 0 where
  pub to : Way x y there
  pub from : Way y x back
  pub none_older : y.count.begun ≤ to.low
  pub over : IsOver x y
  pub taken : x.count.taken ≡ y.count.begun
  pub length_is : sender.length ≡ length message
  pub short : length message ≤ 65535
  pub waits : sender.acknowledged < piece_count sender.length
  pub differs : (y.count.begun ≡ 0 → ⊥) → is_acked (Some (key_now sender)) (key_now y.end.sender) ≡ false
  pub parts : HasParts (begun_more y sender message) x

begun-to : (x y : Side) (there back : List Parcel) (sender : SenderValue) (message : List ℕ) → MayBegin x y there back sender message
    → (waiting sender ≡ None → ⊥) → Way x (begun_more y sender message) there
begun-to x y there back sender message may waits =
    let to = may.to in
    let to_taken = to.taken in
    let to_begun = to.begun in
    let from_taken = may.from.taken in
    let ends = (rise-ends (record { taken = to.low; begun = y.count.taken }) there x.count to.rise) in
    let none_older = may.none_older in
    let taken = may.taken in
    let newer = begun_more y sender message in
    record {
      taken = to_taken;
      begun = to_begun;
      low = to.low;
      low_is = omega (arith, none_older);
      answered = λ none. absurd (waits none);
      rise = to.rise;
      bear = bear-on x y x newer (record { taken = to.low; begun = y.count.taken }) there x.count (record {
        acks = λ at key above below acks.
            let high = below.taken in
            let low = above.taken in
            let same : at.taken ≡ y.count.begun = omega (arith, high, low, none_older, taken) in
            record {
              any = acks.any;
              newest = λ is. let a : ⊥ = omega (arith, is, same) in absurd a;
              older = λ is. subst (λ (k : Key). is_acked (Some (key_now sender)) k ≡ false) (sym (acks.newest same))
                  (may.differs (λ zero_is. acks.any (same ∙ zero_is)));
            };
        data_is = λ at id fragment above below piece. record {
          known = piece.known;
          newest = piece.newest;
          since = piece.since;
          text = piece.text;
          kind_is = piece.kind_is;
          flags_fit = piece.flags_fit;
        };
      }) to.rise to.bear;
      knows = record { none = to.knows.none; quiet = to.knows.quiet; newest = to.knows.newest; older = to.knows.older };
      parts = to.parts;
    }

-- the piece that is said
new_piece : (x y : Side) (there back : List Parcel) (sender : SenderValue) (message : List ℕ) → MayBegin x y there back sender message
    → IsPiece (begun_more y sender message) x (begun_more y sender message).count sender.id (fragment_of message (piece_now sender))
new_piece x y there back sender message may =
    let taken = may.taken in
    record {
      known = λ is. let a : ⊥ = omega (arith, is, taken) in absurd a;
      newest = λ is. refl;
      since = λ ahead is. refl;
      text = newest_text sender message may.length_is may.short;
      kind_is = refl;
      flags_fit = flags_within sender.length (number_now sender);
    }

pub newest-arrives : (sender : SenderValue) (message : List ℕ) → sender.length ≡ length message → length message ≤ 65535
    → arrival_of (packet_of (newest_said sender message)) ≡ Data sender.id (fragment_of message (piece_now sender))
newest-arrives sender message length_is short =
    subst (λ (n : ℕ). arrival_of (packet_of (piece_said message (piece_of sender.id n (number_now sender)))) ≡ Data sender.id (fragment_of message (piece_of sender.id n (number_now sender))))
    (sym length_is) (piece-arrives sender.id (number_now sender) message short
    (subst (λ (n : ℕ). number_now sender < piece_count n) length_is (number_within sender)))

begun-from : (x y : Side) (there back : List Parcel) (sender : SenderValue) (message : List ℕ) → MayBegin x y there back sender message
    → Way (begun_more y sender message) x (back ++ parcels (begun_more y sender message).count (newest_said sender message ∷ []))
begun-from x y there back sender message may =
    let from = may.from in
    let from_taken = from.taken in
    let from_begun = from.begun in
    let taken = may.taken in
    let newer = begun_more y sender message in
    let low_count : Count = record { taken = from.low; begun = x.count.taken } in
    record {
      taken = omega (arith, taken);
      begun = omega (arith, taken);
      low = from.low;
      low_is = from.low_is;
      answered = from.answered;
      rise = rise-append low_count back y.count (parcels newer.count (newest_said sender message ∷ [])) newer.count from.rise
          (record { taken = omega arith; begun = omega arith }, at_most-itself newer.count);
      bear = bear-append newer x back (parcels newer.count (newest_said sender message ∷ []))
          (bear-on y x newer x low_count back y.count (record {
            acks = λ at key above below acks. record { any = acks.any; newest = acks.newest; older = acks.older };
            data_is = λ at id fragment above below piece.
                let high = below.begun in
                record {
                  known = piece.known;
                  newest = λ is. let a : ⊥ = omega (arith, is, high) in absurd a;
                  since = λ ahead is. let a : ⊥ = omega (arith, is, high) in absurd a;
                  text = piece.text;
                  kind_is = piece.kind_is;
                  flags_fit = piece.flags_fit;
                };
          }) from.rise from.bear)
          (subst (BearsFor newer x newer.count) (sym (newest-arrives sender message may.length_is may.short)) (new_piece x y there back sender message may), tt);
      knows = record {
        none = from.knows.none;
        quiet = λ is. let a : ⊥ = omega (arith, is) in absurd a;
        newest = λ is some. let a : ⊥ = omega (arith, is, taken) in absurd a;
        older = λ ahead key now. older key now;
      };
      parts = may.parts;
    } where
      some_of : {X : Type 0} {a b : X} → Some a ≡ Some b → a ≡ b
      some_of e = cc

      nothing : {X : Type 0} {a : X} → None ≡ Some a → ⊥
      nothing e = cc

      older : (key : Key) → x.end.receiver.last ≡ Some key → is_acked (Some (key_now sender)) key ≡ false
      older key now =
          let taken = may.taken in
          let some : y.count.begun ≡ 0 → ⊥ = λ z. nothing (sym (may.from.knows.none (taken ∙ z)) ∙ now) in
          subst (λ (k : Key). is_acked (Some (key_now sender)) k ≡ false) (some_of (sym (may.from.knows.newest (sym taken) some) ∙ now)) (may.differs some)

-- Both ways behind it.
pub record Begun (x y : Side) (there back : List Parcel) (sender : SenderValue) (message : List ℕ) : Type 0 where
  pub to : Way x (begun_more y sender message) there
  pub from : Way (begun_more y sender message) x (back ++ parcels (begun_more y sender message).count (newest_said sender message ∷ []))

pub begins_piece : (x y : Side) (there back : List Parcel) (sender : SenderValue) (message : List ℕ) → MayBegin x y there back sender message
    → (waiting sender ≡ None → ⊥) → Begun x y there back sender message
begins_piece x y there back sender message may waits = record {
  to = begun-to x y there back sender message may waits;
  from = begun-from x y there back sender message may;
}

-- ---- the same newest piece

-- an end with so many pieces acknowledged
abbrev pub counted : EndValue → ℕ → ℕ → EndValue
counted end acknowledged tries = record {
  receiver = end.receiver;
  sender = record { id = end.sender.id; length = end.sender.length; acknowledged = acknowledged; tries = tries };
  message = end.message;
}

abbrev pub counted_side : Side → ℕ → ℕ → Side
counted_side y acknowledged tries = record { end = counted y.end acknowledged tries; count = y.count }

key_same : (end : EndValue) (acknowledged tries : ℕ) → number_now (counted end acknowledged tries).sender ≡ number_now end.sender
    → key_now (counted end acknowledged tries).sender ≡ key_now end.sender
key_same end acknowledged tries same = ap (λ (n : ℕ). (piece_of end.sender.id end.sender.length n).key) same

said_same : (end : EndValue) (acknowledged tries : ℕ) → number_now (counted end acknowledged tries).sender ≡ number_now end.sender
    → piece_said end.message (piece_now (counted end acknowledged tries).sender) ≡ piece_said end.message (piece_now end.sender)
said_same end acknowledged tries same = ap (λ (n : ℕ). piece_said end.message (piece_of end.sender.id end.sender.length n)) same

-- packets come to it as before
pub counted-to : (x y : Side) (there : List Parcel) (acknowledged tries : ℕ) → number_now (counted y.end acknowledged tries).sender ≡ number_now y.end.sender
    → (to : Way x y there) → (waiting (counted y.end acknowledged tries).sender ≡ None → y.count.begun ≤ to.low) → Way x (counted_side y acknowledged tries) there
counted-to x y there acknowledged tries same to answered =
    let newer = counted_side y acknowledged tries in
    let key = key_same y.end acknowledged tries same in
    record {
      taken = to.taken;
      begun = to.begun;
      low = to.low;
      low_is = to.low_is;
      answered = answered;
      rise = to.rise;
      bear = bear-on x y x newer (record { taken = to.low; begun = y.count.taken }) there x.count (record {
        acks = λ at k above below acks. record {
          any = acks.any;
          newest = λ is. acks.newest is ∙ sym key;
          older = λ is. subst (λ (n : Key). is_acked (Some n) k ≡ false) (sym key) (acks.older is);
        };
        data_is = λ at id fragment above below piece. record {
          known = piece.known;
          newest = piece.newest;
          since = piece.since;
          text = piece.text;
          kind_is = piece.kind_is;
          flags_fit = piece.flags_fit;
        };
      }) to.rise to.bear;
      knows = record { none = to.knows.none; quiet = to.knows.quiet; newest = to.knows.newest; older = to.knows.older };
      parts = to.parts;
    }

part_same : (x y : Side) (acknowledged tries : ℕ) → number_now (counted y.end acknowledged tries).sender ≡ number_now y.end.sender
    → part_count (counted_side y acknowledged tries) x ≡ part_count y x
part_same x y acknowledged tries same = ap (λ (n : ℕ). n + 1 + x.count.taken - y.count.begun) same

-- and go from it as before
pub counted-from : (x y : Side) (back : List Parcel) (acknowledged tries : ℕ) → number_now (counted y.end acknowledged tries).sender ≡ number_now y.end.sender
    → (y.count.begun ≡ 0 → waiting (counted y.end acknowledged tries).sender ≡ None) → Way y x back → Way (counted_side y acknowledged tries) x back
counted-from x y back acknowledged tries same quiet from =
    let newer = counted_side y acknowledged tries in
    let key = key_same y.end acknowledged tries same in
    let said = said_same y.end acknowledged tries same in
    record {
      taken = from.taken;
      begun = from.begun;
      low = from.low;
      low_is = from.low_is;
      answered = from.answered;
      rise = from.rise;
      bear = bear-on y x newer x (record { taken = from.low; begun = x.count.taken }) back y.count (record {
        acks = λ at k above below acks. record { any = acks.any; newest = acks.newest; older = acks.older };
        data_is = λ at id fragment above below piece. record {
          known = piece.known;
          newest = λ is. piece.newest is ∙ sym said;
          since = piece.since;
          text = piece.text;
          kind_is = piece.kind_is;
          flags_fit = piece.flags_fit;
        };
      }) from.rise from.bear;
      knows = record {
        none = from.knows.none;
        quiet = quiet;
        newest = λ is some. from.knows.newest is some ∙ ap Some (sym key);
        older = λ is k now. subst (λ (n : Key). is_acked (Some n) k ≡ false) (sym key) (from.knows.older is k now);
      };
      parts = λ some few. subst (λ (n : ℕ). x.end.receiver.pieces ≡ taken_pieces (length y.end.message) n y.end.message)
          (sym (part_same x y acknowledged tries same))
          (from.parts (subst (λ (n : ℕ). 0 < n) (part_same x y acknowledged tries same) some)
          (subst (λ (n : ℕ). n < piece_count y.end.sender.length) (part_same x y acknowledged tries same) few));
    }

-- ---- one more packet that is no new piece

-- what is said now
pub more-from : (x y : Side) (back : List Parcel) (said : OutgoingFragment) → Way y x back
    → BearsFor y x y.count (arrival_of (packet_of said)) → Way y x (back ++ parcels y.count (said ∷ []))
more-from x y back said from bears = record {
  taken = from.taken;
  begun = from.begun;
  low = from.low;
  low_is = from.low_is;
  answered = from.answered;
  rise = rise-append (record { taken = from.low; begun = x.count.taken }) back y.count (parcels y.count (said ∷ [])) y.count from.rise
      (at_most-itself y.count, at_most-itself y.count);
  bear = bear-append y x back (parcels y.count (said ∷ [])) from.bear (bears, tt);
  knows = from.knows;
  parts = from.parts;
}

-- the oldest packet is heard
pub next-to : (x y : Side) (first : Parcel) (there : List Parcel) → Way x y (first ∷ there) → Way x y there
next-to x y first there to = record {
  taken = to.taken;
  begun = to.begun;
  low = to.low;
  low_is = to.low_is;
  answered = to.answered;
  rise = rise-from (record { taken = to.low; begun = y.count.taken }) first.at there x.count to.rise.0 to.rise.1;
  bear = to.bear.1;
  knows = to.knows;
  parts = to.parts;
}

-- a packet is lost
pub lost-to : (x y : Side) (before : List Parcel) (lost : Parcel) (after : List Parcel) → Way x y (before ++ lost ∷ after) → Way x y (before ++ after)
lost-to x y before lost after to = record {
  taken = to.taken;
  begun = to.begun;
  low = to.low;
  low_is = to.low_is;
  answered = to.answered;
  rise = rise-lost (record { taken = to.low; begun = y.count.taken }) before lost after x.count to.rise;
  bear = bear-lost x y before lost after to.bear;
  knows = to.knows;
  parts = to.parts;
}
