-- An end takes a piece.
use Rattle.std.proofs.Common.{◌≡◌, ◌≤◌, ◌<◌, ◌-◌, ◌*◌, ℕ, ◌+◌, ◌&&◌, not, min, zero, suc, nat_eq, Bool, true, false, List, [], ◌∷◌, ◌++◌, length, Option, Some, None, inl, inr, refl, subst, sym, ap, ◌∙◌, arith}
use Rattle.std.specs.Bool.{beq}
use Rattle.std.specs.Prelude.{if◌then◌else◌, nat_le}
use Rattle.std.proofs.lemmas.Bool.{cases_Bool, cond-false, cond-true, eqb-true}
use Rattle.padp_end.proofs.TakingLaws.{accepting}
use Rattle.padp_end.specs.Ends.{Answer, EndValue, end_takes, heard_with, is_acked, with_answer, with_answer_at, with_part}
use Rattle.padp_end.specs.Outgoings.{OutgoingFragment, acknowledgement, piece_said}
use Rattle.padp_end.specs.declared.heard.Heard.TheVariants as heard
use Rattle.padp_link.proofs.PieceLaws.{flag_first}
use Rattle.padp_link.proofs.ReceiverLaws.{is_complete-pieces, whole_of-held, with_one_more}
use Rattle.padp_link.proofs.SenderLaws.{waiting_none}
use Rattle.padp_link.specs.Collecting.{taken_pieces}
use Rattle.padp_link.specs.FragmentText.{FragmentValue, has_flag}
use Rattle.padp_link.specs.Pieces.{fragment_of, key_of, piece_count, piece_of}
use Rattle.padp_link.specs.Receivers.{bytes_of, is_complete, is_next_piece, whole_of, with_piece}
use Rattle.padp_link.specs.Senders.{SenderValue, waiting}
use Rattle.padp_link.specs.declared.piece.Key.{Key}
use Rattle.padp_link.specs.declared.piece.Piece.{Piece}
use Rattle.port_laws.specs.Cables.{BearsFor, Cable, Count, HasParts, IsAhead, IsOver, IsPiece, Rise, Side, Parcel, Way}
use Rattle.port_laws.specs.Cables.{key_now, number_now, part_count, piece_now, parcels}
use Rattle.port_laws.specs.Moments.{HeardRightly, TakesOne}
use Rattle.port_laws.proofs.QueueLaws.{at_most-itself, bear-append, bear-on, rise-append, rise-from}
use Rattle.port_laws.proofs.SayLaws.{ack-arrives, none-waiting, number_within}
use Rattle.port_laws.proofs.StepLaws.{counted}
use Rattle.port_laws.proofs.TakeLaws.{oldest}

pub nothing : {X : Type 0} {a : X} → None ≡ Some a → ⊥
nothing e = cc

-- ---- the sender whose message was answered

-- so many of its pieces are acknowledged then: all
pub record Answered (sender : SenderValue) : Type 0 where
  pub acknowledged : ℕ
  pub is : with_answer sender
      ≡ record { id = sender.id; length = sender.length; acknowledged = acknowledged; tries = sender.tries }
  pub all : acknowledged ≡ piece_count sender.length

answered_at : (sender : SenderValue) → sender.acknowledged ≤ piece_count sender.length → (waits : Option Piece) → waiting sender ≡ waits
    → (acknowledged : ℕ) × (with_answer_at sender waits
    ≡ record { id = sender.id; length = sender.length; acknowledged = acknowledged; tries = sender.tries }) × (acknowledged ≡ piece_count sender.length)
answered_at sender within None is = let all = none-waiting sender is in (sender.acknowledged, refl, omega (arith, all, within))
answered_at sender within (Some piece) is = (piece_count sender.length, refl, refl)

answered : (sender : SenderValue) → sender.acknowledged ≤ piece_count sender.length → Answered sender
answered sender within =
    let found = answered_at sender within (waiting sender) refl in
    record { acknowledged = found.0; is = found.1; all = found.2 }

-- ---- the pieces that were taken

first_flags : (id length : ℕ) → has_flag 128 (piece_of id length 0).key.flags ≡ true
first_flags id length = flag_first true (nat_eq (0 + 1) (piece_count length))

not_first : (a b c d : Bool) → (not a && b && c && d) ≡ true → a ≡ false
not_first false b c d is = refl
not_first true b c d is = absurd cc

-- a first piece is next where none was taken of its message
none_before : (pieces : List FragmentValue) (id length : ℕ) (message : List ℕ) → is_next_piece pieces (fragment_of message (piece_of id length 0)) ≡ true
    → pieces ≡ []
none_before [] id len message next = refl
none_before (first ∷ later) id len message next =
    let piece = fragment_of message (piece_of id len 0) in
    let taken = length (bytes_of (first ∷ later)) in
    let later : has_flag 128 piece.flags ≡ false = not_first (has_flag 128 piece.flags) (nat_eq piece.size taken) (nat_le (taken + length piece.bytes) first.size)
    (beq (has_flag 64 piece.flags) (nat_eq (taken + length piece.bytes) first.size)) next in
    let e : true ≡ false = sym (first_flags id len) ∙ later in
    absurd cc

before_at : (pieces : List FragmentValue) (number id len : ℕ) (message : List ℕ) → (0 < number → pieces ≡ taken_pieces (length message) number message)
    → is_next_piece pieces (fragment_of message (piece_of id len number)) ≡ true → pieces ≡ taken_pieces (length message) number message
before_at pieces zero id len message known next = none_before pieces id len message next
before_at pieces (suc number) id len message known next = known (omega arith)

part_ahead : (x y : Side) → IsAhead x y → part_count x y ≡ number_now x.end.sender
part_ahead x y ahead = omega (arith, ahead)

-- y took the pieces of the message before the next one
pub taken_before : (x y : Side) → HasParts x y → IsAhead x y
    → is_next_piece y.end.receiver.pieces (fragment_of x.end.message (piece_now x.end.sender)) ≡ true
    → y.end.receiver.pieces ≡ taken_pieces (length x.end.message) (number_now x.end.sender) x.end.message
taken_before x y parts ahead next =
    before_at y.end.receiver.pieces (number_now x.end.sender) x.end.sender.id x.end.sender.length x.end.message
    (λ some. subst (λ (n : ℕ). y.end.receiver.pieces ≡ taken_pieces (length x.end.message) n x.end.message) (part_ahead x y ahead)
    (parts (subst (λ (n : ℕ). 0 < n) (sym (part_ahead x y ahead)) some)
    (subst (λ (n : ℕ). n < piece_count x.end.sender.length) (sym (part_ahead x y ahead)) (number_within x.end.sender)))) next

-- ---- a piece is taken

-- what that tells
pub record Accepts (x y : Side) (first : Parcel) (id : ℕ) (fragment : FragmentValue) : Type 0 where
  pub ahead : IsAhead x y
  pub begun : first.at.begun ≡ x.count.begun
  pub stamp : first.at.taken ≡ x.count.taken
  pub over : IsOver y x
  pub newest : record { id = id; fragment = fragment } ≡ piece_said x.end.message (piece_now x.end.sender)

pub accepts : (x y : Side) (first : Parcel) (there back : List Parcel) (id : ℕ) (fragment : FragmentValue) → Cable x y (first ∷ there) back
    → IsPiece x y first.at id fragment → (y.end.receiver.last ≡ Some (key_of id fragment) → ⊥) → Accepts x y first id fragment
accepts x y first there back id fragment cable piece new =
    let stamps = oldest x y first there cable.there_is in
    let low = stamps.begun_low in
    let high = stamps.begun_high in
    let most = cable.there_is.begun in
    let apart : first.at.begun ≡ y.count.taken → ⊥ = λ is. new (piece.known is) in
    let begun : first.at.begun ≡ x.count.begun = omega (arith, apart, low, high, most) in
    let ahead : IsAhead x y = omega (arith, apart, low, high, most) in
    record {
      ahead = ahead;
      begun = begun;
      stamp = piece.since ahead begun;
      over = elim cable.one [
        | inl over ↦ (let all = over.all in let e : ⊥ = omega (arith, all, ahead) in absurd e)
        | inr over ↦ over
      ];
      newest = piece.newest begun;
    }

-- y then
abbrev pub received : Side → ℕ → FragmentValue → ℕ → Side
received y id fragment acknowledged = record {
  end = record {
    receiver = with_piece y.end.receiver id fragment;
    sender = record { id = y.end.sender.id; length = y.end.sender.length; acknowledged = acknowledged; tries = y.end.sender.tries };
    message = y.end.message;
  };
  count = record { taken = y.count.taken + 1; begun = y.count.begun };
}

pub key_newest : (x : Side) (id : ℕ) (fragment : FragmentValue) → record { id = id; fragment = fragment } ≡ piece_said x.end.message (piece_now x.end.sender)
    → key_of id fragment ≡ key_now x.end.sender
key_newest x id fragment is = ap (λ (o : OutgoingFragment). key_of o.id o.fragment) is

-- the pieces that it has then
pieces_then : (x y : Side) (id : ℕ) (fragment : FragmentValue) → HasParts x y → IsAhead x y
    → record { id = id; fragment = fragment } ≡ piece_said x.end.message (piece_now x.end.sender) → is_next_piece y.end.receiver.pieces fragment ≡ true
    → x.end.sender.length ≡ length x.end.message
    → y.end.receiver.pieces ++ fragment ∷ [] ≡ taken_pieces (length x.end.message) (number_now x.end.sender + 1) x.end.message
pieces_then x y id fragment parts ahead newest next length_is =
    let same : fragment ≡ fragment_of x.end.message (piece_now x.end.sender) = ap (λ (o : OutgoingFragment). o.fragment) newest in
    let before = taken_before x y parts ahead (subst (λ (f : FragmentValue). is_next_piece y.end.receiver.pieces f ≡ true) same next) in
    let there : fragment ≡ fragment_of x.end.message (piece_of 0 (length x.end.message) (number_now x.end.sender))
    = same ∙ ap (λ (n : ℕ). fragment_of x.end.message (piece_of 0 n (number_now x.end.sender))) length_is in
    ap (λ (f : FragmentValue). y.end.receiver.pieces ++ f ∷ []) there ∙ with_one_more (number_now x.end.sender) x.end.message before

-- how many they are
part_then : (x y : Side) (id : ℕ) (fragment : FragmentValue) (acknowledged : ℕ) → IsAhead x y
    → part_count x (received y id fragment acknowledged) ≡ number_now x.end.sender + 1
part_then x y id fragment acknowledged ahead = omega (arith, ahead)

received-to : (x y : Side) (first : Parcel) (there back : List Parcel) (id : ℕ) (fragment : FragmentValue) (acknowledged : ℕ)
    → Cable x y (first ∷ there) back → Accepts x y first id fragment
    → number_now (counted y.end acknowledged y.end.sender.tries).sender ≡ number_now y.end.sender
    → is_next_piece y.end.receiver.pieces fragment ≡ true → Way x (received y id fragment acknowledged) there
received-to x y first there back id fragment acknowledged cable takes number next =
    let to = cable.there_is in
    let ahead = takes.ahead in
    let stamp = takes.stamp in
    let begun = takes.begun in
    let over = takes.over.all in
    let newer = received y id fragment acknowledged in
    let low : Count = record { taken = y.count.begun; begun = y.count.taken + 1 } in
    let key : key_now newer.end.sender ≡ key_now y.end.sender = ap (λ (n : ℕ). (piece_of y.end.sender.id y.end.sender.length n).key) number in
    let rise : Rise low there x.count = rise-from low first.at there x.count
    (record { taken = omega (arith, stamp, over); begun = omega (arith, begun, ahead) }) to.rise.1 in
    record {
      taken = omega (arith, ahead);
      begun = omega (arith, ahead);
      low = y.count.begun;
      low_is = omega arith;
      answered = λ none. omega arith;
      rise = rise;
      bear = bear-on x y x newer low there x.count (record {
        acks = λ at k above below acks. record {
          any = acks.any;
          newest = λ is. acks.newest is ∙ sym key;
          older = λ is. subst (λ (n : Key). is_acked (Some n) k ≡ false) (sym key) (acks.older is);
        };
        data_is = λ at i f above below piece. record {
          known = λ is.
              let now : at.begun ≡ x.count.begun = omega (arith, is, ahead) in
              ap (λ (o : OutgoingFragment). Some (key_of o.id o.fragment)) (takes.newest ∙ sym (piece.newest now));
          newest = piece.newest;
          since = λ more is. let e : ⊥ = omega (arith, more, ahead) in absurd e;
          text = piece.text;
          kind_is = piece.kind_is;
          flags_fit = piece.flags_fit;
        };
      }) rise to.bear.1;
      knows = record {
        none = λ is. let e : ⊥ = omega (arith, is) in absurd e;
        quiet = to.knows.quiet;
        newest = λ is some. ap Some (key_newest x id fragment takes.newest);
        older = λ more k now. let e : ⊥ = omega (arith, more, ahead) in absurd e;
      };
      parts = λ some few. pieces_then x y id fragment to.parts ahead takes.newest next cable.x_sends.length_is
          ∙ ap (λ (n : ℕ). taken_pieces (length x.end.message) n x.end.message) (sym (part_then x y id fragment acknowledged ahead));
    }

received-from : (x y : Side) (first : Parcel) (there back : List Parcel) (id : ℕ) (fragment : FragmentValue) (acknowledged : ℕ)
    → Cable x y (first ∷ there) back → IsPiece x y first.at id fragment → Accepts x y first id fragment
    → number_now (counted y.end acknowledged y.end.sender.tries).sender ≡ number_now y.end.sender
    → piece_count y.end.sender.length ≤ acknowledged
    → Way (received y id fragment acknowledged) x (back ++ parcels (received y id fragment acknowledged).count (acknowledgement (key_of id fragment) ∷ []))
received-from x y first there back id fragment acknowledged cable piece takes number all =
    let from = cable.back_is in
    let ahead = takes.ahead in
    let over = takes.over.all in
    let newer = received y id fragment acknowledged in
    let low : Count = record { taken = from.low; begun = x.count.taken } in
    let key : key_now newer.end.sender ≡ key_now y.end.sender = ap (λ (n : ℕ). (piece_of y.end.sender.id y.end.sender.length n).key) number in
    let said : piece_said y.end.message (piece_now newer.end.sender) ≡ piece_said y.end.message (piece_now y.end.sender)
    = ap (λ (n : ℕ). piece_said y.end.message (piece_of y.end.sender.id y.end.sender.length n)) number in
    let same : part_count newer x ≡ part_count y x = ap (λ (n : ℕ). n + 1 + x.count.taken - y.count.begun) number in
    record {
      taken = from.taken;
      begun = from.begun;
      low = from.low;
      low_is = from.low_is;
      answered = from.answered;
      rise = rise-append low back y.count (parcels newer.count (acknowledgement (key_of id fragment) ∷ [])) newer.count from.rise
          (record { taken = omega arith; begun = omega arith }, at_most-itself newer.count);
      bear = bear-append newer x back (parcels newer.count (acknowledgement (key_of id fragment) ∷ []))
          (bear-on y x newer x low back y.count (record {
            acks = λ at k above below acks. record { any = acks.any; newest = acks.newest; older = acks.older };
            data_is = λ at i f above below other. record {
              known = other.known;
              newest = λ is. other.newest is ∙ sym said;
              since = λ more is. let e : ⊥ = omega (arith, more, over) in absurd e;
              text = other.text;
              kind_is = other.kind_is;
              flags_fit = other.flags_fit;
            };
          }) from.rise from.bear) (
            subst (BearsFor newer x newer.count) (sym (ack-arrives id fragment piece.text piece.kind_is piece.flags_fit)) (record {
              any = λ is. let e : ⊥ = omega (arith, is) in e;
              newest = λ is. key_newest x id fragment takes.newest;
              older = λ is. let e : ⊥ = omega (arith, is, ahead) in absurd e;
            }),
            tt,
          );
      knows = record {
        none = from.knows.none;
        quiet = λ is. waiting_none newer.end.sender all;
        newest = λ is some. from.knows.newest is some ∙ ap Some (sym key);
        older = λ is k now. subst (λ (n : Key). is_acked (Some n) k ≡ false) (sym key) (from.knows.older is k now);
      };
      parts = λ some few. subst (λ (n : ℕ). x.end.receiver.pieces ≡ taken_pieces (length y.end.message) n y.end.message) (sym same)
          (from.parts (subst (λ (n : ℕ). 0 < n) same some) (subst (λ (n : ℕ). n < piece_count y.end.sender.length) same few));
    }

-- ---- what is heard then

heard_when : (pieces : List FragmentValue) (message : List ℕ) (number : ℕ) → pieces ≡ taken_pieces (length message) (number + 1) message
    → number < piece_count (length message) → is_complete pieces ≡ true → (number + 1 ≡ piece_count (length message)) × (whole_of pieces ≡ Some message)
heard_when pieces message number is below complete =
    let there : is_complete (taken_pieces (length message) (number + 1) message) ≡ true = sym (ap is_complete is) ∙ complete in
    let all : number + 1 ≡ piece_count (length message)
    = eqb-true _ _ (sym (is_complete-pieces (number + 1) message (omega arith) (omega (arith, below))) ∙ there) in
    let held : length message ≡ min (1024 * (number + 1)) (length message) = omega (arith, all) in
    (all, ap whole_of is ∙ whole_of-held (length message) (number + 1) message held there)

hears_message : (pieces : List FragmentValue) → (if is_complete pieces then heard.Message else heard.Nothing) ≡ heard.Message → is_complete pieces ≡ true
hears_message pieces is = elim (cases_Bool (is_complete pieces)) [
  | inl complete ↦ complete
  | inr part ↦ (let e : heard.Nothing ≡ heard.Message = sym (cond-false (is_complete pieces) heard.Message heard.Nothing part) ∙ is in absurd cc)
]

hears_no_delivery : (pieces : List FragmentValue) → (if is_complete pieces then heard.Message else heard.Nothing) ≡ heard.Delivered → ⊥
hears_no_delivery pieces is = elim (cases_Bool (is_complete pieces)) [
  | inl complete ↦ (let e : heard.Message ≡ heard.Delivered = sym (cond-true (is_complete pieces) heard.Message heard.Nothing complete) ∙ is in absurd cc)
  | inr part ↦ (let e : heard.Nothing ≡ heard.Delivered = sym (cond-false (is_complete pieces) heard.Message heard.Nothing part) ∙ is in absurd cc)
]

whole_then : (x y : Side) (first : Parcel) (there back : List Parcel) (id : ℕ) (fragment : FragmentValue) (acknowledged : ℕ)
    → Cable x y (first ∷ there) back → Accepts x y first id fragment → is_next_piece y.end.receiver.pieces fragment ≡ true
    → heard_with y.end.receiver fragment ≡ heard.Message
    → IsOver x (received y id fragment acknowledged) × (whole_of (y.end.receiver.pieces ++ fragment ∷ []) ≡ Some x.end.message)
whole_then x y first there back id fragment acknowledged cable takes next hears =
    let pieces = pieces_then x y id fragment cable.there_is.parts takes.ahead takes.newest next cable.x_sends.length_is in
    let below : number_now x.end.sender < piece_count (length x.end.message)
    = subst (λ (n : ℕ). number_now x.end.sender < piece_count n) cable.x_sends.length_is (number_within x.end.sender) in
    let found = heard_when (y.end.receiver.pieces ++ fragment ∷ []) x.end.message (number_now x.end.sender) pieces below
    (hears_message (y.end.receiver.pieces ++ fragment ∷ []) hears) in
    let all : number_now x.end.sender + 1 ≡ piece_count x.end.sender.length = found.0 ∙ ap piece_count (sym cable.x_sends.length_is) in
    let ahead = takes.ahead in
    (record { all = sym ahead; last = omega (arith, all) }, found.1)

-- y takes a piece of x
pub takes_piece : (x y : Side) (first : Parcel) (there back : List Parcel) (id : ℕ) (fragment : FragmentValue) → Cable x y (first ∷ there) back
    → IsPiece x y first.at id fragment → (y.end.receiver.last ≡ Some (key_of id fragment) → ⊥) → is_next_piece y.end.receiver.pieces fragment ≡ true
    → end_takes y.end first.packet ≡ accepting y.end id fragment → TakesOne x y first there back
takes_piece x y first there back id fragment cable piece new next is =
    let takes = accepts x y first there back id fragment cable piece new in
    let sent = answered y.end.sender cable.y_sends.within in
    let acknowledged = sent.acknowledged in
    let last = takes.over.last in
    let all = sent.all in
    let number : number_now (counted y.end acknowledged y.end.sender.tries).sender ≡ number_now y.end.sender = omega (arith, all, last) in
    let newer = received y id fragment acknowledged in
    let above : piece_count y.end.sender.length ≤ acknowledged = omega (arith, all) in
    let end_is : with_part y.end id fragment ≡ newer.end
    = ap (λ (s : SenderValue). record { receiver = with_piece y.end.receiver id fragment; sender = s; message = y.end.message }) sent.is in
    let answer : end_takes y.end first.packet
    ≡ record { said = acknowledgement (key_of id fragment) ∷ []; heard = heard_with y.end.receiver fragment; end = newer.end }
    = is ∙ ap (λ (e : EndValue). record { said = acknowledgement (key_of id fragment) ∷ []; heard = heard_with y.end.receiver fragment; end = e }) end_is in
    let over : IsOver newer x = record { all = takes.over.all; last = omega (arith, all) } in
    record {
      next = newer;
      end_is = sym (ap (λ (a : Answer). a.end) answer);
      cable = subst (λ (said : List OutgoingFragment). Cable x newer there (back ++ parcels newer.count said)) (sym (ap (λ (a : Answer). a.said) answer)) (record {
        x_sends = cable.x_sends;
        y_sends = record { length_is = cable.y_sends.length_is; short = cable.y_sends.short; within = omega (arith, all) };
        there_is = received-to x y first there back id fragment acknowledged cable takes number next;
        back_is = received-from x y first there back id fragment acknowledged cable piece takes number above;
        one = inr over;
      });
      heard = subst (HeardRightly x y newer) (sym (ap (λ (a : Answer). a.heard) answer)) (record {
        ahead = λ e. takes.ahead;
        over = λ e. (whole_then x y first there back id fragment acknowledged cable takes next e).0;
        whole = λ e. (whole_then x y first there back id fragment acknowledged cable takes next e).1;
        answered = λ e. waiting_none newer.end.sender above;
        quiet = λ e. absurd (hears_no_delivery (y.end.receiver.pieces ++ fragment ∷ []) e);
        delivered = λ e. absurd (hears_no_delivery (y.end.receiver.pieces ++ fragment ∷ []) e);
      });
      stays = record {
        message = refl;
        id = refl;
        over = λ o. over;
        other = λ o. let same = o.all in let ahead = takes.ahead in let e : ⊥ = omega (arith, same, ahead) in absurd e;
      };
    }
