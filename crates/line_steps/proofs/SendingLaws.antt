-- What one more frame makes of the past.
use Rattle.line_steps.proofs.Names.{rules, ◌≡◌, ℕ, ◌+◌, Bool, List, ◌∷◌, length, Option, None, sym, ap, subst, ◌∙◌, arith, packet_at, FragmentValue}
use Rattle.line_steps.proofs.Names.{FragmentText, fragment_text, key_of, ReceiverValue, End, Frame, FateValue, fate_value, ends_run, BearsFragment, MayBear}
use Rattle.line_steps.proofs.Names.{is_data_kind, fragment_in, fields_of, padp_packet, course_of, PastFrame, frame_value, Side, LineAt, Wire, sent_of, past_now, Goes}
use Rattle.line_steps.proofs.Names.{AllGo, Sends, in_place, Stop}
use Rattle.line_steps.proofs.BytesLaws.{packet_of, packet_again, fields_again}
use Rattle.line_steps.proofs.FrameLaws.{past_push, go_push}

-- what is sent in a fragment
abbrev pub sends_in : End → ℕ → FragmentValue → FateValue → PastFrame
sends_in from id fragment given =
    record { from = from; is_data = is_data_kind fragment.kind; key = key_of id fragment; bytes = fragment.bytes; course = course_of given }

-- a frame that was sent bears what was to be sent, or what stands in its place
pub record Placed (frame : Frame) (from : End) (id : ℕ) (fragment : FragmentValue) (given : FateValue) : Type 0 where
  pub bears : BearsFragment (frame_value frame)
  pub fragment_is : fragment_in (frame_value frame) ≡ fragment
  pub sent_is : sent_of frame ≡ sends_in from id fragment given

pub placed : {old new : List Frame} {from : End} {id : ℕ} {fragment : FragmentValue} {given : FateValue} {stop : Option Stop}
    → (sends : Sends old from id fragment given stop new) → MayBear given (in_place stop fragment).kind
    → Placed sends.frame from id (in_place stop fragment) given
placed {id} {fragment} {stop} sends may =
    let bytes = sends.frame.bytes.items in
    let now = in_place stop fragment in
    let packet : packet_at bytes ≡ packet_of id (in_place stop fragment) = ap (λ b. packet_at b) sends.bytes_are ∙ packet_again sends.text in
    let id_is : (packet_at bytes).id ≡ id = ap (λ p. p.id) packet in
    let fragment_is : fragment_in (frame_value sends.frame) ≡ in_place stop fragment = ap (λ p. fields_of p.body) packet ∙ fields_again sends.text in
    let key_is = ap (λ n. key_of n (fragment_in (frame_value sends.frame))) id_is ∙ ap (λ f. key_of id f) fragment_is in
    record {
      bears = record {
        is = sends.bytes_are ∙ ap (λ n. padp_packet n now) (sym id_is) ∙ ap (λ f. padp_packet (packet_at bytes).id f) (sym fragment_is);
        fragment = subst (λ f. FragmentText f (fragment_text f)) (sym fragment_is) sends.text;
        kind = subst (λ f. MayBear (fate_value sends.frame.fate) f.kind) (sym fragment_is) (subst (λ g. MayBear g now.kind) (sym sends.fate_is) may);
      };
      fragment_is = fragment_is;
      sent_is = λ i. record {
        from = sends.from_is i;
        is_data = is_data_kind (fragment_is i).kind;
        key = key_is i;
        bytes = (fragment_is i).bytes;
        course = course_of (sends.fate_is i);
      };
    }

pub record IsNew (frame : Frame) (number : ℕ) (from : End) (id : ℕ) (fragment : FragmentValue) (given : FateValue) : Type 0 where
  pub goes : Goes number (frame_value frame)
  pub sent_is : sent_of frame ≡ sends_in from id fragment given

is_new : {old new : List Frame} {from : End} {id : ℕ} {fragment : FragmentValue} {given : FateValue} → (sends : Sends old from id fragment given None new)
    → MayBear given fragment.kind → IsNew sends.frame (1 + length old) from id fragment given
is_new {given} sends may =
    let bytes = sends.frame.bytes.items in
    let it = placed sends may in
    record {
      goes = record {
        number_is = omega (arith, sends.number_is);
        bears = it.bears;
        goes_on = ap (λ g. ends_run g bytes) sends.fate_is ∙ ap (λ b. ends_run given b) sends.bytes_are ∙ sends.stops;
      };
      sent_is = it.sent_is;
    }

-- the wire behind one more frame
pub record Extends (wire new : Wire) (sent : PastFrame) : Type 0 where
  pub go : AllGo 1 new.frames.items
  pub past : past_now new.frames.items ≡ sent ∷ past_now wire.frames.items
  pub released : new.released ≡ wire.released

pub extends : (wire new : Wire) (from : End) (id : ℕ) (fragment : FragmentValue) (given : FateValue) → AllGo 1 wire.frames.items
    → Sends wire.frames.items from id fragment given None new.frames.items → MayBear given fragment.kind → new.released ≡ wire.released
    → Extends wire new (sends_in from id fragment given)
extends wire new from id fragment given go sends may released =
    let old = wire.frames.items in
    let it = is_new sends may in
    record {
      go = subst (λ fs. AllGo 1 fs) (sym sends.is) (go_push 1 old sends.frame go it.goes);
      past = ap past_now sends.is ∙ past_push old sends.frame it.goes ∙ ap (λ s. s ∷ past_now old) it.sent_is;
      released = released;
    }

pub lined : {X Y : End} {wire new : Wire} {sent : PastFrame} {cx cy : ℕ} {x y : Side} {rx ry : ReceiverValue} {fx fy : Bool} {tx ty : ℕ} → Extends wire new sent
    → LineAt X Y (sent ∷ past_now wire.frames.items) cx cy wire.released x y rx ry fx fy tx ty
    → LineAt X Y (past_now new.frames.items) cx cy new.released x y rx ry fx fy tx ty
lined more line = search rules
