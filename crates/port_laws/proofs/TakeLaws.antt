-- An end takes a packet.
use Rattle.std.proofs.Common.{◌≡◌, ◌≤◌, ◌<◌, ℕ, ◌+◌, nat_eq, if◌then◌else◌, Bool, true, false, List, [], ◌∷◌, ◌++◌, length, Option, Some, None, inl, inr, refl, subst, subst₂, sym, ap, ◌∙◌, arith}
use Rattle.std.proofs.lemmas.Bool.{ne_eqb}
use Rattle.std.proofs.lemmas.List.{append-nil}
use Rattle.padp_end.proofs.TakingLaws.{is_acked-part, is_acked-some}
use Rattle.std.specs.Option.{option_map}
use Rattle.padp_link.proofs.NeighbourLaws.{next_key_differs}
use Rattle.padp_link.proofs.SenderLaws.{waiting_none}
use Rattle.padp_end.specs.declared.heard.Heard.{Heard}
use Rattle.padp_end.specs.Ends.{Answer, end_takes, goes_on_with, heard_behind, is_acked, is_only, silent, with_next}
use Rattle.padp_end.specs.Outgoings.{OutgoingFragment, acknowledgement, pieces_said}
use Rattle.padp_end.specs.declared.heard.Heard.TheVariants as heard
use Rattle.padp_link.specs.FragmentText.{FragmentValue}
use Rattle.padp_link.specs.Collecting.{taken_pieces}
use Rattle.padp_link.specs.Pieces.{key_of, piece_count, piece_of}
use Rattle.padp_link.specs.Senders.{SenderValue, waiting, waiting_key}
use Rattle.padp_link.specs.declared.piece.Key.{Key}
use Rattle.padp_link.specs.declared.piece.Piece.{Piece}
use Rattle.port_laws.specs.Cables.{AcksPiece, BearsFor, Cable, IsOver, IsPiece, Side, Parcel, Way}
use Rattle.port_laws.specs.Cables.{key_now, number_now, part_count, parcels}
use Rattle.port_laws.specs.Moments.{HeardRightly, TakesOne}
use Rattle.port_laws.proofs.QueueLaws.{rise-ends, rise-from}
use Rattle.port_laws.proofs.SayLaws.{ack-arrives, now-waiting, waiting-now}
use Rattle.port_laws.proofs.StepLaws.{MayBegin, begins_piece, begun_more, counted, counted-from, counted-to, counted_side, more-from, newest_said, next-to}

nothing : {X : Type 0} {a : X} → None ≡ Some a → ⊥
nothing e = cc

pub some_of : {X : Type 0} {a b : X} → Some a ≡ Some b → a ≡ b
some_of e = cc

quiet : heard.Nothing ≡ heard.Message → ⊥
quiet e = cc

undelivered : heard.Nothing ≡ heard.Delivered → ⊥
undelivered e = cc

unlike : true ≡ false → ⊥
unlike e = cc

-- ---- the stamps of the oldest packet

pub record Oldest (x y : Side) (first : Parcel) (low : ℕ) : Type 0 where
  pub taken_low : low ≤ first.at.taken
  pub taken_high : first.at.taken ≤ x.count.taken
  pub begun_low : y.count.taken ≤ first.at.begun
  pub begun_high : first.at.begun ≤ x.count.begun

pub oldest : (x y : Side) (first : Parcel) (there : List Parcel) → (to : Way x y (first ∷ there)) → Oldest x y first to.low
oldest x y first there to =
    let low = to.rise.0 in
    let high = rise-ends first.at there x.count to.rise.1 in
    record { taken_low = low.taken; taken_high = high.taken; begun_low = low.begun; begun_high = high.begun }

-- ---- nothing changes

-- a packet of which nothing is made
pub takes_silent : (x y : Side) (first : Parcel) (there back : List Parcel) → Cable x y (first ∷ there) back → (hears : Heard)
    → (hears ≡ heard.Message → ⊥) → (hears ≡ heard.Delivered → ⊥)
    → end_takes y.end first.packet ≡ silent y.end hears → TakesOne x y first there back
takes_silent x y first there back cable hears no_message no_delivery is = record {
  next = y;
  end_is = sym (ap (λ (a : Answer). a.end) is);
  cable = subst (λ (said : List OutgoingFragment). Cable x y there (back ++ parcels y.count said)) (sym (ap (λ (a : Answer). a.said) is))
      (subst (λ (queue : List Parcel). Cable x y there queue) (sym (append-nil back)) (record {
        x_sends = cable.x_sends;
        y_sends = cable.y_sends;
        there_is = next-to x y first there cable.there_is;
        back_is = cable.back_is;
        one = cable.one;
      }));
  heard = subst (HeardRightly x y y) (sym (ap (λ (a : Answer). a.heard) is)) (record {
    ahead = λ e. absurd (no_message e);
    over = λ e. absurd (no_message e);
    whole = λ e. absurd (no_message e);
    answered = λ e. absurd (no_message e);
    quiet = λ e. absurd (no_delivery e);
    delivered = λ e. absurd (no_delivery e);
  });
  stays = record { message = refl; id = refl; over = λ o. o; other = λ o. o };
}

-- ---- a repeat

-- the last piece that y took is acknowledged again
again_acks : (x y : Side) (there : List Parcel) (id : ℕ) (fragment : FragmentValue) → Way x y there → y.end.receiver.last ≡ Some (key_of id fragment)
    → AcksPiece y x y.count (key_of id fragment)
again_acks x y there id fragment to last = record {
  any = λ none. nothing (sym (to.knows.none none) ∙ last);
  newest = λ is. some_of (sym last ∙ to.knows.newest (sym is) (λ zero_is. nothing (sym (to.knows.none (is ∙ zero_is)) ∙ last)));
  older = λ is. to.knows.older (sym is) (key_of id fragment) last;
}

pub takes_repeat : (x y : Side) (first : Parcel) (there back : List Parcel) (id : ℕ) (fragment : FragmentValue) → Cable x y (first ∷ there) back
    → IsPiece x y first.at id fragment → y.end.receiver.last ≡ Some (key_of id fragment)
    → end_takes y.end first.packet ≡ record { said = acknowledgement (key_of id fragment) ∷ []; heard = heard.Nothing; end = y.end }
    → TakesOne x y first there back
takes_repeat x y first there back id fragment cable piece last is = record {
  next = y;
  end_is = sym (ap (λ (a : Answer). a.end) is);
  cable = subst (λ (said : List OutgoingFragment). Cable x y there (back ++ parcels y.count said)) (sym (ap (λ (a : Answer). a.said) is)) (record {
    x_sends = cable.x_sends;
    y_sends = cable.y_sends;
    there_is = next-to x y first there cable.there_is;
    back_is = more-from x y back (acknowledgement (key_of id fragment)) cable.back_is
        (subst (BearsFor y x y.count) (sym (ack-arrives id fragment piece.text piece.kind_is piece.flags_fit))
        (again_acks x y (first ∷ there) id fragment cable.there_is last));
    one = cable.one;
  });
  heard = subst (HeardRightly x y y) (sym (ap (λ (a : Answer). a.heard) is)) (record {
    ahead = λ e. absurd (quiet e);
    over = λ e. absurd (quiet e);
    whole = λ e. absurd (quiet e);
    answered = λ e. absurd (quiet e);
    quiet = λ e. absurd (undelivered e);
    delivered = λ e. absurd (undelivered e);
  });
  stays = record { message = refl; id = refl; over = λ o. o; other = λ o. o };
}

-- ---- an acknowledgement

-- of packets behind this one all acknowledgements are for the newest piece of y
pub raised-to : (x y : Side) (first : Parcel) (there : List Parcel) → Way x y (first ∷ there) → y.count.begun ≤ first.at.taken → Way x y there
raised-to x y first there to above =
    let stamps = oldest x y first there to in
    let low = stamps.begun_low in
    record {
      taken = to.taken;
      begun = to.begun;
      low = first.at.taken;
      low_is = omega (arith, above);
      answered = λ none. above;
      rise = rise-from (record { taken = first.at.taken; begun = y.count.taken }) first.at there x.count
          (record { taken = omega arith; begun = low }) to.rise.1;
      bear = to.bear.1;
      knows = to.knows;
      parts = to.parts;
    }

waiting_with : (waits : Option Piece) (key : Key) → option_map (λ (piece : Piece). piece.key) waits ≡ Some key
    → (piece : Piece) × (waits ≡ Some piece) × (piece.key ≡ key)
waiting_with None key is = absurd (nothing is)
waiting_with (Some piece) key is = (piece, refl, some_of is)

-- what an acknowledgement of the waiting piece tells
pub record IsAcked (x y : Side) (first : Parcel) : Type 0 where
  pub waits : y.end.sender.acknowledged < piece_count y.end.sender.length
  pub stamp : y.count.begun ≤ first.at.taken
  pub taken : x.count.taken ≡ y.count.begun
  pub some : y.count.begun ≡ 0 → ⊥

pub acked : (x y : Side) (first : Parcel) (there back : List Parcel) (key : Key) → Cable x y (first ∷ there) back → AcksPiece x y first.at key
    → is_acked (waiting_key y.end.sender) key ≡ true → IsAcked x y first
acked x y first there back key cable acks same =
    let counts = is_acked-some (waiting_key y.end.sender) key same in
    let found = waiting_with (waiting y.end.sender) counts.0 counts.1 in
    let now = waiting-now y.end.sender found.0 found.1 in
    let stamps = oldest x y first there cable.there_is in
    let low_is = cable.there_is.low_is in
    let low = stamps.taken_low in
    let high = stamps.taken_high in
    let most = cable.back_is.taken in
    let newest : counts.0 ≡ key_now y.end.sender = sym found.2 ∙ ap (λ (p : Piece). p.key) now.1 in
    let not_older : first.at.taken + 1 ≡ y.count.begun → ⊥ = λ is.
    unlike (sym counts.2 ∙ ap (λ (k : Key). is_acked (Some k) key) newest ∙ acks.older is) in
    let stamp : y.count.begun ≤ first.at.taken = omega (arith, not_older, low_is, low, high, most) in
    record {
      waits = now.0;
      stamp = stamp;
      taken = omega (arith, stamp, high, most);
      some = λ none. nothing (sym (cable.back_is.knows.quiet none) ∙ found.1);
    }

-- the next piece of the message
abbrev next_sender : SenderValue → SenderValue
next_sender sender = record { id = sender.id; length = sender.length; acknowledged = sender.acknowledged + 1; tries = 1 }

number_is : (sender : SenderValue) → sender.acknowledged < piece_count sender.length → number_now sender ≡ sender.acknowledged
number_is sender below = omega (arith, below)

-- a later piece of a message is no first one
part_flags : (first last : Bool) → first ≡ false → nat_eq ((if first then 128 else 0) + (if last then 64 else 0)) 192 ≡ false
part_flags false true later = refl
part_flags false false later = refl
part_flags true last later = absurd cc

later_part : (id length number : ℕ) → is_only (piece_of id length (number + 1)).key ≡ false
later_part id length number =
    part_flags (nat_eq (number + 1) 0) (nat_eq (number + 1 + 1) (piece_count length)) (ne_eqb (number + 1) 0 (λ is. omega (arith, is)))

next_differs : (sender : SenderValue) → sender.acknowledged + 1 < piece_count sender.length
    → is_acked (Some (key_now (next_sender sender))) (key_now sender) ≡ false
next_differs sender below =
    let a : number_now sender ≡ sender.acknowledged = omega (arith, below) in
    let b : number_now (next_sender sender) ≡ sender.acknowledged + 1 = omega (arith, below) in
    let key_at : ℕ → Key = λ n. (piece_of sender.id sender.length n).key in
    subst₂ (λ (n : ℕ) (m : ℕ). is_acked (Some (key_at m)) (key_at n) ≡ false) (sym a) (sym b)
    (is_acked-part (key_at (sender.acknowledged + 1)) (key_at sender.acknowledged) (later_part sender.id sender.length sender.acknowledged)
    (λ same. next_key_differs sender.id sender.length sender.acknowledged (sym same)))

next_parts : (x y : Side) → y.end.sender.acknowledged + 1 < piece_count y.end.sender.length → x.count.taken ≡ y.count.begun
    → part_count (begun_more y (next_sender y.end.sender) y.end.message) x ≡ part_count y x
next_parts x y below taken =
    let a : number_now y.end.sender ≡ y.end.sender.acknowledged = omega (arith, below) in
    let b : number_now (next_sender y.end.sender) ≡ y.end.sender.acknowledged + 1 = omega (arith, below) in
    omega (arith, a, b, taken)

over_there : (x y : Side) (there back : List Parcel) → Cable x y there back → y.end.sender.acknowledged + 1 < piece_count y.end.sender.length → IsOver x y
over_there x y there back cable below = elim cable.one [
  | inl over ↦ over
  | inr over ↦ (let last = over.last in let e : ⊥ = omega (arith, last, below) in absurd e)
]

may_next : (x y : Side) (first : Parcel) (there back : List Parcel) → (cable : Cable x y (first ∷ there) back) → IsAcked x y first
    → y.end.sender.acknowledged + 1 < piece_count y.end.sender.length → MayBegin x y there back (next_sender y.end.sender) y.end.message
unfolding raised-to
may_next x y first there back cable acks below = record {
  to = raised-to x y first there cable.there_is acks.stamp;
  from = cable.back_is;
  none_older = acks.stamp;
  over = over_there x y (first ∷ there) back cable below;
  taken = acks.taken;
  length_is = cable.y_sends.length_is;
  short = cable.y_sends.short;
  waits = below;
  differs = λ some. next_differs y.end.sender below;
  parts = λ some few. subst (λ (n : ℕ). x.end.receiver.pieces ≡ taken_pieces (length y.end.message) n y.end.message)
      (sym (next_parts x y below acks.taken))
      (cable.back_is.parts (subst (λ (n : ℕ). 0 < n) (next_parts x y below acks.taken) some)
      (subst (λ (n : ℕ). n < piece_count y.end.sender.length) (next_parts x y below acks.taken) few));
}

-- the answer to it
pub takes_next : (x y : Side) (first : Parcel) (there back : List Parcel) → Cable x y (first ∷ there) back → IsAcked x y first
    → y.end.sender.acknowledged + 1 < piece_count y.end.sender.length → end_takes y.end first.packet ≡ goes_on_with (with_next y.end)
    → TakesOne x y first there back
takes_next x y first there back cable acks below is =
    let sender = next_sender y.end.sender in
    let waits = now-waiting sender below in
    let may = may_next x y first there back cable acks below in
    let ways = begins_piece x y there back sender y.end.message may (λ none. nothing (sym none ∙ waits)) in
    let next = begun_more y sender y.end.message in
    let answer : end_takes y.end first.packet ≡ record { said = newest_said sender y.end.message ∷ []; heard = heard.Nothing; end = next.end }
    = is ∙ ap (λ (piece : Option Piece). record { said = pieces_said y.end.message piece; heard = heard_behind piece; end = with_next y.end }) waits in
    let inside : y.end.sender.acknowledged + 1 ≤ piece_count y.end.sender.length = omega (arith, below) in
    record {
      next = next;
      end_is = sym (ap (λ (a : Answer). a.end) answer);
      cable = subst (λ (said : List OutgoingFragment). Cable x next there (back ++ parcels next.count said)) (sym (ap (λ (a : Answer). a.said) answer)) (record {
        x_sends = cable.x_sends;
        y_sends = record { length_is = cable.y_sends.length_is; short = cable.y_sends.short; within = inside };
        there_is = ways.to;
        back_is = ways.from;
        one = inl (record { all = may.over.all; last = may.over.last });
      });
      heard = subst (HeardRightly x y next) (sym (ap (λ (a : Answer). a.heard) answer)) (record {
        ahead = λ e. absurd (quiet e);
        over = λ e. absurd (quiet e);
        whole = λ e. absurd (quiet e);
        answered = λ e. absurd (quiet e);
        quiet = λ e. absurd (undelivered e);
        delivered = λ e. absurd (undelivered e);
      });
      stays = record {
        message = refl;
        id = refl;
        over = λ over. let last = over.last in let e : ⊥ = omega (arith, last, below) in absurd e;
        other = λ over. record { all = over.all; last = over.last };
      };
    }

-- the last piece of the message is acknowledged
pub takes_last : (x y : Side) (first : Parcel) (there back : List Parcel) → Cable x y (first ∷ there) back → IsAcked x y first
    → piece_count y.end.sender.length ≤ y.end.sender.acknowledged + 1 → end_takes y.end first.packet ≡ goes_on_with (with_next y.end)
    → TakesOne x y first there back
unfolding raised-to
takes_last x y first there back cable acks last is =
    let acknowledged = y.end.sender.acknowledged + 1 in
    let none : waiting (counted y.end acknowledged 1).sender ≡ None = waiting_none (counted y.end acknowledged 1).sender last in
    let waits = acks.waits in
    let number : number_now (counted y.end acknowledged 1).sender ≡ number_now y.end.sender = omega (arith, waits, last) in
    let next = counted_side y acknowledged 1 in
    let answer : end_takes y.end first.packet ≡ record { said = []; heard = heard.Delivered; end = next.end }
    = is ∙ ap (λ (piece : Option Piece). record { said = pieces_said y.end.message piece; heard = heard_behind piece; end = with_next y.end }) none in
    let inside : y.end.sender.acknowledged + 1 ≤ piece_count y.end.sender.length = omega (arith, waits) in
    let over : IsOver next x = record { all = acks.taken; last = omega (arith, last) } in
    record {
      next = next;
      end_is = sym (ap (λ (a : Answer). a.end) answer);
      cable = subst (λ (said : List OutgoingFragment). Cable x next there (back ++ parcels next.count said)) (sym (ap (λ (a : Answer). a.said) answer))
          (subst (λ (queue : List Parcel). Cable x next there queue) (sym (append-nil back)) (record {
            x_sends = cable.x_sends;
            y_sends = record { length_is = cable.y_sends.length_is; short = cable.y_sends.short; within = inside };
            there_is = counted-to x y there acknowledged 1 number (raised-to x y first there cable.there_is acks.stamp) (λ e. acks.stamp);
            back_is = counted-from x y back acknowledged 1 number (λ e. none) cable.back_is;
            one = inr over;
          }));
      heard = subst (HeardRightly x y next) (sym (ap (λ (a : Answer). a.heard) answer)) (record {
        ahead = λ e. absurd (no_message e);
        over = λ e. absurd (no_message e);
        whole = λ e. absurd (no_message e);
        answered = λ e. absurd (no_message e);
        quiet = λ e. none;
        delivered = λ e. over;
      });
      stays = record {
        message = refl;
        id = refl;
        over = λ o. over;
        other = λ o. record { all = o.all; last = o.last };
      };
    } where
      no_message : heard.Delivered ≡ heard.Message → ⊥
      no_message e = cc
