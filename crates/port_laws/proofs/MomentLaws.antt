-- What may happen to two ends over a cable.
use Rattle.std.proofs.Common.{◌≡◌, ◌⊎◌, ◌≤◌, ℕ, ◌+◌, ◌&&◌, ◌↔◌, nat_eq, true, false, List, [], ◌∷◌, ◌++◌, length, Option, Some, None, inl, inr, refl, subst, sym, ap, ◌∙◌, arith}
use Rattle.std.proofs.lemmas.Bool.{and_parts, cases_Bool, cases_lt, cond-false, cond-true}
use Rattle.std.proofs.lemmas.List.{append-nil}
use Rattle.padp_end.proofs.TakingLaws.{data_taken-new, data_taken-repeat, is_acked-others, is_acked-same, is_key-same, is_key-true, new_taken-next, new_taken-other}
use Rattle.padp_end.specs.Arrivals.{Ack, Arrival, Data, Drop, Stop, Tickle, arrival_of}
use Rattle.padp_end.specs.Ends.{EndValue, arrival_taken, end_begins, end_expects, end_takes, end_waits, goes_on_with, is_acked, is_key, is_ready, silent, tried_again, with_message, with_next}
use Rattle.padp_end.specs.Outgoings.{OutgoingFragment, piece_said, pieces_said}
use Rattle.padp_end.specs.declared.heard.Heard.TheVariants as heard
use Rattle.padp_link.specs.FragmentText.{FragmentValue}
use Rattle.padp_link.specs.Pieces.{key_of, piece_count}
use Rattle.padp_link.specs.Receivers.{is_next}
use Rattle.padp_link.specs.Senders.{waiting, waiting_key}
use Rattle.padp_link.specs.declared.piece.Key.{Key}
use Rattle.padp_link.specs.declared.piece.Piece.{Piece}
use Rattle.port_laws.specs.Cables.{AcksPiece, BearsFor, Cable, IsAhead, IsOver, IsPiece, Side, Parcel, Way}
use Rattle.port_laws.specs.Cables.{key_now, number_now, part_count, parcels}
use Rattle.port_laws.specs.Moments.{BeginsOne, SaysAgain, TakesOne}
use Rattle.port_laws.proofs.DataLaws.{key_newest, takes_piece, nothing}
use Rattle.port_laws.proofs.QueueLaws.{bear-on}
use Rattle.port_laws.proofs.SayLaws.{count_some, flags_within, newest_text, now-waiting, waiting-now}
use Rattle.port_laws.proofs.StepLaws.{begins_piece, begun_more, counted-from, counted-to, counted_side, lost-to, more-from, newest-arrives, newest_said}
use Rattle.port_laws.proofs.TakeLaws.{acked, oldest, takes_last, takes_next, takes_repeat, takes_silent}

pub turned : (x y : Side) (there back : List Parcel) → Cable x y there back → Cable y x back there
turned x y there back cable = record {
  x_sends = cable.y_sends;
  y_sends = cable.x_sends;
  there_is = cable.back_is;
  back_is = cable.there_is;
  one = elim cable.one [ inl over ↦ inr over | inr over ↦ inl over ];
}

-- ---- a packet is lost

pub loses : (x y : Side) (before : List Parcel) (lost : Parcel) (after back : List Parcel) → Cable x y (before ++ lost ∷ after) back
    → Cable x y (before ++ after) back
loses x y before lost after back cable = record {
  x_sends = cable.x_sends;
  y_sends = cable.y_sends;
  there_is = lost-to x y before lost after cable.there_is;
  back_is = cable.back_is;
  one = cable.one;
}

-- ---- a packet comes

dropped : heard.Nothing ≡ heard.Message → ⊥
dropped e = cc

dropped_too : heard.Nothing ≡ heard.Delivered → ⊥
dropped_too e = cc

takes_arrival : (x y : Side) (first : Parcel) (there back : List Parcel) → Cable x y (first ∷ there) back → (arrival : Arrival)
    → end_takes y.end first.packet ≡ arrival_taken y.end arrival → BearsFor x y first.at arrival → TakesOne x y first there back
takes_arrival x y first there back cable Drop is bears = takes_silent x y first there back cable heard.Nothing dropped dropped_too is
takes_arrival x y first there back cable Tickle is bears = takes_silent x y first there back cable heard.Tickle (λ e. cc) (λ e. cc) is
takes_arrival x y first there back cable Stop is bears = takes_silent x y first there back cable heard.Stop (λ e. cc) (λ e. cc) is
takes_arrival x y first there back cable (Ack key) is bears = elim (cases_Bool (is_acked (waiting_key y.end.sender) key)) [
  | inl same ↦ (let counts = is ∙ cond-true (is_acked (waiting_key y.end.sender) key) (goes_on_with (with_next y.end)) (silent y.end heard.Nothing) same in
      let acks = acked x y first there back key cable bears same in
      elim (cases_lt (y.end.sender.acknowledged + 1) (piece_count y.end.sender.length)) [
        | inl below ↦ takes_next x y first there back cable acks below counts
        | inr last ↦ takes_last x y first there back cable acks last counts
      ])
  | inr other ↦ takes_silent x y first there back cable heard.Nothing dropped dropped_too
      (is ∙ cond-false (is_acked (waiting_key y.end.sender) key) (goes_on_with (with_next y.end)) (silent y.end heard.Nothing) other)
]
takes_arrival x y first there back cable (Data id fragment) is bears = elim (cases_Bool (is_key y.end.receiver.last (key_of id fragment))) [
  | inl same ↦ takes_repeat x y first there back id fragment cable bears (is_key-true y.end.receiver.last (key_of id fragment) same)
      (is ∙ data_taken-repeat y.end id fragment same)
  | inr new ↦ elim (cases_Bool (is_ready (waiting y.end.sender) fragment && is_next y.end.receiver id fragment)) [
    | inl next ↦ (let parts = and_parts (is_ready (waiting y.end.sender) fragment) (is_next y.end.receiver id fragment) next in
        takes_piece x y first there back id fragment cable bears
        (λ known. unlike (sym (is_key-same y.end.receiver.last (key_of id fragment) known) ∙ new))
        (and_parts _ _ parts.1).1
        (is ∙ data_taken-new y.end id fragment new ∙ new_taken-next y.end id fragment next))
    | inr other ↦ takes_silent x y first there back cable heard.Nothing dropped dropped_too
        (is ∙ data_taken-new y.end id fragment new ∙ new_taken-other y.end id fragment other)
  ]
] where
  unlike : true ≡ false → ⊥
  unlike e = cc

pub takes : (x y : Side) (first : Parcel) (there back : List Parcel) → Cable x y (first ∷ there) back → TakesOne x y first there back
takes x y first there back cable = takes_arrival x y first there back cable (arrival_of first.packet) refl cable.there_is.bear.0

-- ---- a piece goes again

-- it had one try more
abbrev again : EndValue → EndValue
again end = record end { sender = record end.sender { tries = end.sender.tries + 1 } }

says_waiting : (x y : Side) (there back : List Parcel) → Cable x y there back → (waits : Option Piece) → waiting y.end.sender ≡ waits
    → end_waits y.end ≡ tried_again y.end waits → SaysAgain x y there back
says_waiting x y there back cable None none is = record {
  next = y;
  end_is = sym (ap (λ (s : List OutgoingFragment × EndValue). s.1) is);
  cable = subst (λ (said : List OutgoingFragment). Cable x y there (back ++ parcels y.count said)) (sym (ap (λ (s : List OutgoingFragment × EndValue). s.0) is))
      (subst (λ (queue : List Parcel). Cable x y there queue) (sym (append-nil back)) cable);
  stays = record { message = refl; id = refl; over = λ o. o; other = λ o. o };
}
says_waiting x y there back cable (Some piece) some is = elim (cases_Bool (nat_eq y.end.sender.tries 10)) [
  | inl spent ↦ (let none = is ∙ cond-true (nat_eq y.end.sender.tries 10) ([], y.end) (pieces_said y.end.message (Some piece), again y.end) spent in
      record {
        next = y;
        end_is = sym (ap (λ (s : List OutgoingFragment × EndValue). s.1) none);
        cable = subst (λ (said : List OutgoingFragment). Cable x y there (back ++ parcels y.count said))
            (sym (ap (λ (s : List OutgoingFragment × EndValue). s.0) none))
            (subst (λ (queue : List Parcel). Cable x y there queue) (sym (append-nil back)) cable);
        stays = record { message = refl; id = refl; over = λ o. o; other = λ o. o };
      })
  | inr left ↦ (let now = waiting-now y.end.sender piece some in
      let more = is ∙ cond-false (nat_eq y.end.sender.tries 10) ([], y.end) (pieces_said y.end.message (Some piece), again y.end) left
      ∙ ap (λ (p : Piece). (piece_said y.end.message p ∷ [], again y.end)) now.1 in
      let next = counted_side y y.end.sender.acknowledged (y.end.sender.tries + 1) in
      let some_begun : y.count.begun ≡ 0 → ⊥ = λ z. nothing (sym (cable.back_is.knows.quiet z) ∙ some) in
      let from = counted-from x y back y.end.sender.acknowledged (y.end.sender.tries + 1) refl (λ z. absurd (some_begun z)) cable.back_is in
      record {
        next = next;
        end_is = sym (ap (λ (s : List OutgoingFragment × EndValue). s.1) more);
        cable = subst (λ (said : List OutgoingFragment). Cable x next there (back ++ parcels next.count said))
            (sym (ap (λ (s : List OutgoingFragment × EndValue). s.0) more)) (record {
              x_sends = cable.x_sends;
              y_sends = record { length_is = cable.y_sends.length_is; short = cable.y_sends.short; within = cable.y_sends.within };
              there_is = counted-to x y there y.end.sender.acknowledged (y.end.sender.tries + 1) refl cable.there_is cable.there_is.answered;
              back_is = more-from x next back (newest_said y.end.sender y.end.message) from
                  (subst (BearsFor next x next.count) (sym (newest-arrives y.end.sender y.end.message cable.y_sends.length_is cable.y_sends.short)) (record {
                    known = λ is. cable.back_is.knows.newest is some_begun;
                    newest = λ is. refl;
                    since = λ ahead is. refl;
                    text = newest_text y.end.sender y.end.message cable.y_sends.length_is cable.y_sends.short;
                    kind_is = refl;
                    flags_fit = flags_within y.end.sender.length (number_now y.end.sender);
                  }));
              one = elim cable.one [
                | inl over ↦ inl (record { all = over.all; last = over.last })
                | inr over ↦ inr (record { all = over.all; last = over.last })
              ];
            });
        stays = record {
          message = refl;
          id = refl;
          over = λ o. record { all = o.all; last = o.last };
          other = λ o. record { all = o.all; last = o.last };
        };
      })
]

pub says_again : (x y : Side) (there back : List Parcel) → Cable x y there back → SaysAgain x y there back
says_again x y there back cable = says_waiting x y there back cable (waiting y.end.sender) refl refl

-- ---- a message begins

pub begins : (x y : Side) (there back : List Parcel) (id : ℕ) (message : List ℕ) → Cable x y there back → IsOver x y → IsOver y x
    → waiting y.end.sender ≡ None → length message ≤ 65535 → (y.count.begun ≡ 0) ⊎ (y.end.sender.id ≡ id → ⊥) → BeginsOne x y id message there back
begins x y there back id message cable over other none short differs =
    let sender = (with_message y.end id message).sender in
    let some = count_some (length message) in
    let waits = now-waiting sender some in
    let taken = other.all in
    let newer = begun_more y sender message in
    let number : number_now sender ≡ 0 = omega arith in
    let no_part : part_count newer x ≡ 0 = omega (arith, number, taken) in
    let ways = begins_piece x y there back sender message (record {
      to = cable.there_is;
      from = cable.back_is;
      none_older = cable.there_is.answered none;
      over = over;
      taken = taken;
      length_is = refl;
      short = short;
      waits = some;
      differs = λ began. elim differs [
        | inl zero_is ↦ absurd (began zero_is)
        | inr apart ↦ is_acked-others (key_now sender) (key_now y.end.sender) (λ same. apart (sym same))
      ];
      parts = λ any few. let e : ⊥ = omega (arith, any, no_part) in absurd e;
    }) (λ silent. nothing (sym silent ∙ waits)) in
    let answer : end_begins y.end id message ≡ (newest_said sender message ∷ [], newer.end)
    = ap (λ (piece : Option Piece). (pieces_said message piece, with_message y.end id message)) waits in
    record {
      next = newer;
      end_is = sym (ap (λ (s : List OutgoingFragment × EndValue). s.1) answer);
      cable = subst (λ (said : List OutgoingFragment). Cable x newer there (back ++ parcels newer.count said))
          (sym (ap (λ (s : List OutgoingFragment × EndValue). s.0) answer)) (record {
            x_sends = cable.x_sends;
            y_sends = record { length_is = refl; short = short; within = omega arith };
            there_is = ways.to;
            back_is = ways.from;
            one = inl (record { all = over.all; last = over.last });
          });
      other = record { all = over.all; last = over.last };
      ahead = ap (λ (n : ℕ). n + 1) (sym taken);
    }

-- ---- a message is awaited

abbrev expecting : Side → ℕ → Side
expecting y id = record { end = end_expects y.end id; count = y.count }

expects-to : (x y : Side) (there : List Parcel) (id : ℕ) → Way x y there → IsOver x y → Way x (expecting y id) there
expects-to x y there id to over =
    let newer = expecting y id in
    let all = over.all in
    let last = over.last in
    record {
      taken = to.taken;
      begun = to.begun;
      low = to.low;
      low_is = to.low_is;
      answered = to.answered;
      rise = to.rise;
      bear = bear-on x y x newer (record { taken = to.low; begun = y.count.taken }) there x.count (record {
        acks = λ at k above below acks. record { any = acks.any; newest = acks.newest; older = acks.older };
        data_is = λ at i f above below piece. record {
          known = piece.known;
          newest = piece.newest;
          since = piece.since;
          text = piece.text;
          kind_is = piece.kind_is;
          flags_fit = piece.flags_fit;
        };
      }) to.rise to.bear;
      knows = record { none = to.knows.none; quiet = to.knows.quiet; newest = to.knows.newest; older = to.knows.older };
      parts = λ some few. let e : ⊥ = omega (arith, few, all, last) in absurd e;
    }

expects-from : (x y : Side) (back : List Parcel) (id : ℕ) → Way y x back → Way (expecting y id) x back
expects-from x y back id from =
    let newer = expecting y id in
    record {
      taken = from.taken;
      begun = from.begun;
      low = from.low;
      low_is = from.low_is;
      answered = from.answered;
      rise = from.rise;
      bear = bear-on y x newer x (record { taken = from.low; begun = x.count.taken }) back y.count (record {
        acks = λ at k above below acks. record { any = acks.any; newest = acks.newest; older = acks.older };
        data_is = λ at i f above below piece. record {
          known = piece.known;
          newest = piece.newest;
          since = piece.since;
          text = piece.text;
          kind_is = piece.kind_is;
          flags_fit = piece.flags_fit;
        };
      }) from.rise from.bear;
      knows = record { none = from.knows.none; quiet = from.knows.quiet; newest = from.knows.newest; older = from.knows.older };
      parts = from.parts;
    }

pub expects : (x y : Side) (there back : List Parcel) (id : ℕ) → Cable x y there back → IsOver x y
    → Cable x (record { end = end_expects y.end id; count = y.count }) there back
expects x y there back id cable over = record {
  x_sends = cable.x_sends;
  y_sends = record { length_is = cable.y_sends.length_is; short = cable.y_sends.short; within = cable.y_sends.within };
  there_is = expects-to x y there id cable.there_is over;
  back_is = expects-from x y back id cable.back_is;
  one = inl (record { all = over.all; last = over.last });
}

-- ---- what comes, by its stamp

-- data is a repeat where y took all that its sender had begun by then
pub known_by-stamp : (x y : Side) (first : Parcel) (there back : List Parcel) (id : ℕ) (fragment : FragmentValue) → Cable x y (first ∷ there) back
    → arrival_of first.packet ≡ Data id fragment → (y.end.receiver.last ≡ Some (key_of id fragment)) ↔ (first.at.begun ≡ y.count.taken)
known_by-stamp x y first there back id fragment cable is =
    let piece : IsPiece x y first.at id fragment = subst (BearsFor x y first.at) is cable.there_is.bear.0 in
    let stamps = oldest x y first there cable.there_is in
    let low = stamps.begun_low in
    let high = stamps.begun_high in
    let most = cable.there_is.begun in (
      λ known. elim (cases_lt y.count.taken first.at.begun) [
        | inl above ↦ (let begun : first.at.begun ≡ x.count.begun = omega (arith, above, high, most) in
            let ahead : IsAhead x y = omega (arith, above, high, most) in
            let key = key_newest x id fragment (piece.newest begun) in
            let no : true ≡ false = sym (is_acked-same (key_now x.end.sender)) ∙ cable.there_is.knows.older ahead (key_now x.end.sender) (known ∙ ap Some key) in
            absurd cc)
        | inr same ↦ omega (arith, same, low)
      ],
      piece.known,
    )

-- an acknowledgement that counts for the piece that waits is of that piece
pub acked_by-stamp : (x y : Side) (first : Parcel) (there back : List Parcel) (key : Key) → Cable x y (first ∷ there) back
    → arrival_of first.packet ≡ Ack key → is_acked (waiting_key y.end.sender) key ≡ true → first.at.taken ≡ y.count.begun
acked_by-stamp x y first there back key cable is waits =
    let acks : AcksPiece x y first.at key = subst (BearsFor x y first.at) is cable.there_is.bear.0 in
    let known = acked x y first there back key cable acks waits in
    let low = known.stamp in
    let stamps = oldest x y first there cable.there_is in
    let high = stamps.taken_high in
    let most = cable.back_is.taken in
    omega (arith, low, high, most)
