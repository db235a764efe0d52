-- The steps in which an end takes the other one's next frame, over the values of the program.
use Rattle.line_steps.proofs.Names.{rules, ◌≡◌, ℕ, ◌+◌, ◌<◌, ◌≤◌, Bool, true, false, List, ◌∷◌, length, Some, None, sym, ap, subst, ◌∙◌, arith, inl, inr}
use Rattle.line_steps.proofs.Names.{option_map, is_some, cases_lt, both_ways, and_parts, slice_get_within, Key, piece_count, piece_of, ReceiverValue}
use Rattle.line_steps.proofs.Names.{SenderValue, waiting, waiting_key, waiting_is, waiting_none, End, FateValue, late_of, PastFrame, is_end, at, Side, Waiting}
use Rattle.line_steps.proofs.Names.{key_now, part_now, LineAt, running_other_ack, running_last_ack, running_next_piece, Half, Wire, sent_of, past_now, side_of}
use Rattle.line_steps.proofs.Names.{IsHalf, AllGo, Holds, Sends, Delivers, AckNext}
use Rattle.line_steps.proofs.FrameLaws.{past_at, length-past}
use Rattle.line_steps.proofs.HoldsLaws.{moved}
use Rattle.line_steps.proofs.SendingLaws.{extends, lined}

-- the head of the line from an end
pub record Head (X : End) (wire : Wire) (n : ℕ) (frame : PastFrame) : Type 0 where
  pub inside : n < length (past_now wire.frames.items)
  pub here : at (n + 1) (past_now wire.frames.items) ≡ frame ∷ at n (past_now wire.frames.items)
  pub late : late_of X frame ≡ true → n + 1 ≤ wire.released

pub head : {X : End} {wire : Wire} {n : ℕ} → AllGo 1 wire.frames.items → (next : Delivers X wire n) → Head X wire n (sent_of next.frame)
head {X} {wire} {n} go next = record {
  inside = omega (arith, slice_get_within wire.frames.items n next.frame next.here, length-past wire.frames.items go);
  here = past_at wire.frames.items n go next.here;
  late = λ is. next.free ((and_parts (is_end X next.frame.from) _ is).1);
}

-- ---- an acknowledgement

pub record WaitsWith (half : Half) (key : Key) : Type 0 where
  pub waits : Waiting (side_of half)
  pub key_is : key_now (side_of half) ≡ key

key_of_waiting : (sender : SenderValue) → sender.acknowledged < piece_count sender.length
    → waiting_key sender ≡ Some ((piece_of sender.id sender.length sender.acknowledged).key)
key_of_waiting sender waits = ap (λ o. option_map (λ p. p.key) o) (waiting_is sender waits)

pub waits_with : {half : Half} {key : Key} → IsHalf half → waiting_key half.sender ≡ Some key → WaitsWith half key
waits_with {half} {key} is_half is = elim (cases_lt half.sender.acknowledged (piece_count half.sender.length)) [
  | inl waits ↦ (let e : Some ((piece_of half.sender.id half.sender.length half.sender.acknowledged).key) ≡ Some key = sym
      (key_of_waiting half.sender waits) ∙ is in
      let k : (piece_of half.sender.id half.sender.length half.sender.acknowledged).key ≡ key = cc in
      record {
        waits = subst (λ n. half.sender.acknowledged < piece_count n) is_half.length_is waits;
        key_is = subst (λ n. (piece_of half.sender.id n half.sender.acknowledged).key ≡ key) is_half.length_is k;
      })
  | inr none ↦ (let e : None ≡ Some key = sym (ap (λ o. option_map (λ p. p.key) o) (waiting_none half.sender none)) ∙ is in absurd cc)
]

pub waits_for_other : {half : Half} {key : Key} → IsHalf half → (waiting_key half.sender ≡ Some key → ⊥) → Waiting (side_of half) → key_now (side_of half) ≡ key
    → ⊥
waits_for_other {half} {key} is_half other waits same =
    let here : half.sender.acknowledged < piece_count half.sender.length =
    subst (λ n. half.sender.acknowledged < piece_count n) (sym is_half.length_is) waits in
    let k : (piece_of half.sender.id half.sender.length half.sender.acknowledged).key ≡ key =
    subst (λ n. (piece_of half.sender.id n half.sender.acknowledged).key ≡ key) (sym is_half.length_is) same in
    other (key_of_waiting half.sender here ∙ ap Some k)

-- the waiting piece is acknowledged
abbrev pub advanced : Half → Half
advanced y = record y { sender = record y.sender { acknowledged = y.sender.acknowledged + 1; tries = 1 } }

-- where an end waits for nothing, its tries say nothing
pub idle_tries : {X Y : End} {past : List PastFrame} {cx cy released : ℕ} {x y : Side} {rx ry : ReceiverValue} {fx fy : Bool} {tx ty other : ℕ} → (Waiting y → ⊥)
    → LineAt X Y past cx cy released x y rx ry fx fy tx ty → LineAt X Y past cx cy released x y rx ry fx fy tx other
idle_tries idle line = search rules

pub ack_other : {wire : Wire} {x y : Half} {key : Key} → Holds wire x y → AckNext x.end wire x.taken key → (waiting_key y.sender ≡ Some key → ⊥)
    → Holds wire (moved x) y
ack_other holds it other =
    let at_head = head holds.go it.next in
    record {
      apart = holds.apart;
      fx = holds.fx;
      fy = holds.fy;
      go = holds.go;
      x_half = record { length_is = holds.x_half.length_is; gap = holds.x_half.gap };
      y_half = holds.y_half;
      line = running_other_ack holds.line at_head.inside at_head.here at_head.late it.is
          (λ waits same. waits_for_other holds.y_half other waits (same ∙ it.key_is));
    }

pub ack_last : {wire : Wire} {x y : Half} {key : Key} → Holds wire x y → AckNext x.end wire x.taken key → waiting_key y.sender ≡ Some key
    → piece_count y.sender.length ≤ y.sender.acknowledged + 1 → Holds wire (moved x) (advanced y)
ack_last {y} holds it is last =
    let at_head = head holds.go it.next in
    let w = waits_with holds.y_half is in
    let ends : y.sender.acknowledged + 1 ≡ piece_count (length y.message) = omega (arith, w.waits, last, ap piece_count holds.y_half.length_is) in
    let line = running_last_ack holds.line at_head.inside at_head.here at_head.late it.is it.next.comes_here w.waits (w.key_is ∙ sym it.key_is) ends in
    record {
      apart = holds.apart;
      fx = holds.fx;
      fy = false;
      go = holds.go;
      x_half = record { length_is = holds.x_half.length_is; gap = holds.x_half.gap };
      y_half = record { length_is = holds.y_half.length_is; gap = holds.y_half.gap };
      line = idle_tries (λ waits. omega (arith, waits, ends)) line;
    }

pub ack_more : {wire new : Wire} {x y : Half} {key : Key} {given : FateValue} → Holds wire x y → AckNext x.end wire x.taken key
    → waiting_key y.sender ≡ Some key → y.sender.acknowledged + 1 < piece_count y.sender.length
    → Sends wire.frames.items y.end y.sender.id (part_now (side_of (advanced y))) given None new.frames.items → new.released ≡ wire.released
    → Holds new (moved x) (advanced y)
ack_more {wire} {new} {y} {given} holds it is more sends released =
    let sent = sent_of it.next.frame in
    let at_head = head holds.go it.next in
    let w = waits_with holds.y_half is in
    let below : y.sender.acknowledged + 1 < piece_count (length y.message) =
    subst (λ n. y.sender.acknowledged + 1 < piece_count n) holds.y_half.length_is more in
    let longer = extends wire new y.end y.sender.id (part_now (side_of (advanced y))) given holds.go sends tt released in
    let line = running_next_piece holds.apart holds.line at_head.inside at_head.here at_head.late it.is w.waits (w.key_is ∙ sym it.key_is) below in
    record {
      apart = holds.apart;
      fx = false;
      fy = true;
      go = longer.go;
      x_half = record { length_is = holds.x_half.length_is; gap = holds.x_half.gap };
      y_half = record { length_is = holds.y_half.length_is; gap = holds.y_half.gap };
      line = lined longer line;
    }

pub some_waits : (sender : SenderValue) → is_some (waiting sender) ≡ true → sender.acknowledged < piece_count sender.length
some_waits sender some = elim (cases_lt sender.acknowledged (piece_count sender.length)) [
  | inl waits ↦ waits
  | inr none ↦ absurd (let n : is_some (waiting sender) ≡ false = ap is_some (waiting_none sender none) in both_ways _ n some)
]

pub none_waits : (sender : SenderValue) → is_some (waiting sender) ≡ false → piece_count sender.length ≤ sender.acknowledged
none_waits sender none = elim (cases_lt sender.acknowledged (piece_count sender.length)) [
  | inl waits ↦ absurd (let n : is_some (waiting sender) ≡ true = ap is_some (waiting_is sender waits) in both_ways _ none n)
  | inr over ↦ over
]

pub waits_not : (sender : SenderValue) → is_some (waiting sender) ≡ false → sender.acknowledged < piece_count sender.length → ⊥
waits_not sender none waits = omega (arith, waits, none_waits sender none)
