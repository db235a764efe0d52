-- A message begins, and a waiting piece goes again, over the values of the program.
use Rattle.line_steps.proofs.Names.{rules, ◌≡◌, ◌⊎◌, ℕ, suc, ◌+◌, ◌<◌, ◌≤◌, true, false, List, [], ◌∷◌, length, Some, None, sym, ap, subst, ◌∙◌, arith}
use Rattle.line_steps.proofs.Names.{inl, inr, slice_get, and_parts, and_from, SenderValue, Waits, End, Frame, FateValue, fate_value, is_late, course_of}
use Rattle.line_steps.proofs.Names.{is_end, at, Waiting, key_now, part_now, data_frame, LineAt, IsBlocked, beginning, running_starts, running_tick_one}
use Rattle.line_steps.proofs.Names.{running_tick_two, Half, Wire, sent_of, past_now, side_of, IsHalf, AllGo, Holds, ComesNext, AtHead, Sends, Delivers}
use Rattle.line_steps.proofs.Names.{SendsAgain, Turn, fate_with, refl}
use Rattle.trace_text.specs.Fates as fates
use Rattle.trace_text.specs.declared.fate.FateKind.{FateKind}
use Rattle.trace_text.specs.declared.fate.FateKind.TheVariants as kinds
use Rattle.line_steps.proofs.FrameLaws.{past_at, length-past}
use Rattle.line_steps.proofs.SendingLaws.{extends, lined}
use Rattle.line_steps.proofs.TurnLaws.{holds_turned}

-- a sender that begins a message of this length
abbrev pub begun : ℕ → ℕ → SenderValue
begun id size = record { id = id; length = size; acknowledged = 0; tries = 1 }

pub starts : {wire new : Wire} {x y : Half} {id size : ℕ} {message : List ℕ} {given : FateValue} → Turn wire x y → (id ≡ x.sender.id → ⊥)
    → y.receiver.awaited ≡ Some id → y.receiver.pieces ≡ [] → size ≡ length message
    → Sends wire.frames.items x.end id (part_now (beginning id message)) given None new.frames.items → new.released ≡ wire.released
    → Holds new (record x { sender = begun id size; message = message }) y
starts {wire} {new} {x} {id} {message} {given} turn other awaited none fits sends released =
    let settled = turn.settled in
    let longer = extends wire new x.end id (part_now (beginning id message)) given settled.go sends tt released in
    let line = running_starts (course_of given) settled.apart settled.line turn.knows other awaited none (λ waits. omega (arith, waits, turn.last)) in
    record {
      apart = settled.apart;
      fx = true;
      fy = false;
      go = longer.go;
      x_half = record { length_is = fits; gap = settled.x_half.gap };
      y_half = settled.y_half;
      line = lined longer line;
    }

-- ---- whether the next frame can be delivered

pub comes_at : {X : End} {frames : List Frame} {n : ℕ} → AtHead X frames n → (n ≡ length frames → ⊥) → ComesNext X frames n
comes_at (inl over) more = absurd (more over)
comes_at (inr comes) more = comes

late_is : (given : FateValue) → is_late (course_of given) ≡ true → given ≡ fates.Late
late_is fates.Untouched late = cc
late_is fates.Lost late = cc
late_is fates.Late late = refl
late_is (fates.Cut count) late = cc
late_is (fates.Hit place bytes) late = cc
late_is (fates.Noise bytes) late = cc
late_is fates.Unplug late = cc
late_is fates.Abort late = cc

pub kind_late : (kind : FateKind) (bytes : List ℕ) → fate_with kind bytes ≡ fates.Late → kind ≡ kinds.Late
kind_late kinds.Ok bytes is = cc
kind_late kinds.Lost bytes is = cc
kind_late kinds.Late bytes is = refl
kind_late (kinds.Cut count) bytes is = cc
kind_late (kinds.Hit place) bytes is = cc
kind_late kinds.Noise bytes is = cc
kind_late kinds.Unplug bytes is = cc
kind_late kinds.Abort bytes is = cc

module _ {X : End} {wire : Wire} {n : ℕ} {frame : Frame} where
  deliver : ComesNext X wire.frames.items n → slice_get wire.frames.items n ≡ Some frame
      → (is_late (course_of (fate_value frame.fate)) ≡ true → n + 1 ≤ wire.released) → Delivers X wire n
  deliver comes here free = search rules

  pub delivers_late : ComesNext X wire.frames.items n → slice_get wire.frames.items n ≡ Some frame → n < wire.released → Delivers X wire n
  delivers_late comes here below = search rules

  pub delivers_now : ComesNext X wire.frames.items n → slice_get wire.frames.items n ≡ Some frame → (fate_value frame.fate ≡ fates.Late → ⊥) → Delivers X wire n
  delivers_now comes here not_late = deliver comes here (λ late. absurd (not_late (late_is (fate_value frame.fate) late)))

pub held_back : {X : End} (wire : Wire) {n : ℕ} {frame : Frame} → AllGo 1 wire.frames.items → ComesNext X wire.frames.items n
    → slice_get wire.frames.items n ≡ Some frame → fate_value frame.fate ≡ fates.Late → wire.released ≤ n
    → IsBlocked X (past_now wire.frames.items) n wire.released
held_back {X} wire {n} {frame} go comes here late above =
    let parts = and_parts (is_end X frame.from) _ (comes.is frame here) in
    inr (record {
      frame = sent_of frame;
      older = at n (past_now wire.frames.items);
      inside = omega (arith, comes.inside, length-past wire.frames.items go);
      here = past_at wire.frames.items n go here;
      late = and_from (is_end X frame.from) _ parts.0 (ap (λ f. is_late (course_of f)) late);
      above = omega (arith, above);
    })

-- ---- a tick

-- nothing is held any more
abbrev pub let_go : Wire → Wire
let_go wire = record wire { released = length wire.frames.items }

pub waits_now : {half : Half} → IsHalf half → Waits half.sender → Waiting (side_of half)
waits_now is_half waits = search rules

pub waits_then : {half : Half} → IsHalf half → Waiting (side_of half) → Waits half.sender
waits_then is_half waits = search rules

abbrev pub again : Half → Half
again half = record half { sender = record half.sender { tries = half.sender.tries + 1 } }

module _ {wire new : Wire} {given : FateValue} where
  one_again : {x y : Half} → Holds wire x y → IsBlocked x.end (past_now wire.frames.items) x.taken wire.released
      → IsBlocked y.end (past_now wire.frames.items) y.taken wire.released → Waits x.sender → (Waits y.sender → ⊥)
      → Sends wire.frames.items x.end x.sender.id (part_now (side_of x)) given None new.frames.items → new.released ≡ length wire.frames.items
      → Holds new (again x) y
  one_again {x} {y} holds x_blocked y_blocked waits idle sends released =
      let frames = wire.frames.items in
      let past = past_now frames in
      let longer = extends (let_go wire) new x.end x.sender.id (part_now (side_of x)) given holds.go sends tt released in
      let line = running_tick_one holds.apart holds.line x_blocked y_blocked (waits_now holds.x_half waits) (λ w. idle (waits_then holds.y_half w)) in
      let sent = data_frame x.end (key_now (side_of x)) ((part_now (side_of x)).bytes) (course_of given) in
      let more : suc x.sender.tries ≡ x.sender.tries + 1 = omega arith in
      let tried = subst (λ t. LineAt x.end y.end (sent ∷ past) x.taken y.taken (length past) (side_of x) (side_of y) x.receiver y.receiver holds.fx
      holds.fy t y.sender.tries) more line in
      let timed = subst (λ r. LineAt x.end y.end (sent ∷ past) x.taken y.taken r (side_of x) (side_of y) x.receiver y.receiver holds.fx holds.fy
      (x.sender.tries + 1) y.sender.tries) (length-past frames holds.go) tried in
      record {
        apart = holds.apart;
        fx = holds.fx;
        fy = holds.fy;
        go = longer.go;
        x_half = record { length_is = holds.x_half.length_is; gap = holds.x_half.gap };
        y_half = holds.y_half;
        line = lined longer timed;
      }

  pub ticks_one : {r : ℕ} {x y later : Half} → r ≡ length wire.frames.items → Holds wire x y → IsBlocked x.end (past_now wire.frames.items) x.taken wire.released
      → IsBlocked y.end (past_now wire.frames.items) y.taken wire.released → Waits x.sender → (Waits y.sender → ⊥)
      → SendsAgain (record wire { released = r }) x given new later → Holds new later y
  ticks_one {y} size holds x_blocked y_blocked waits idle sent =
      subst (λ h. Holds new h y) (sym sent.counted) (one_again holds x_blocked y_blocked waits idle sent.sends (sent.released ∙ size))

  pub ticks_other : {r : ℕ} {x y later : Half} → r ≡ length wire.frames.items → Holds wire x y
      → IsBlocked x.end (past_now wire.frames.items) x.taken wire.released → IsBlocked y.end (past_now wire.frames.items) y.taken wire.released
      → (Waits x.sender → ⊥) → Waits x.sender ⊎ Waits y.sender
      → SendsAgain (record wire { released = r }) y given new later → Holds new x later
  ticks_other size holds x_blocked y_blocked idle (inl waits) sent = absurd (idle waits)
  ticks_other size holds x_blocked y_blocked idle (inr waits) sent =
      holds_turned (ticks_one size (holds_turned holds) y_blocked x_blocked waits idle sent)

  two_again : (first : Wire) {x y : Half} {other : FateValue} → Holds wire x y → IsBlocked x.end (past_now wire.frames.items) x.taken wire.released
      → IsBlocked y.end (past_now wire.frames.items) y.taken wire.released → Waits x.sender → Waits y.sender
      → Sends wire.frames.items x.end x.sender.id (part_now (side_of x)) given None first.frames.items → first.released ≡ length wire.frames.items
      → Sends first.frames.items y.end y.sender.id (part_now (side_of y)) other None new.frames.items → new.released ≡ first.released
      → Holds new (again x) (again y)
  two_again first {x} {y} {other} holds x_blocked y_blocked x_waits y_waits x_sends first_released y_sends released =
      let frames = wire.frames.items in
      let past = past_now frames in
      let one = extends (let_go wire) first x.end x.sender.id (part_now (side_of x)) given holds.go x_sends tt first_released in
      let two = extends first new y.end y.sender.id (part_now (side_of y)) other one.go y_sends tt released in
      let x_sent = data_frame x.end (key_now (side_of x)) ((part_now (side_of x)).bytes) (course_of given) in
      let y_sent = data_frame y.end (key_now (side_of y)) ((part_now (side_of y)).bytes) (course_of other) in
      let line =
      running_tick_two (course_of other) holds.apart holds.line x_blocked y_blocked (waits_now holds.x_half x_waits) (waits_now holds.y_half y_waits) in
      let x_more : suc x.sender.tries ≡ x.sender.tries + 1 = omega arith in
      let y_more : suc y.sender.tries ≡ y.sender.tries + 1 = omega arith in
      let x_tried = subst (λ t. LineAt x.end y.end (y_sent ∷ x_sent ∷ past) x.taken y.taken (length past) (side_of x) (side_of y) x.receiver y.receiver holds.fx
      holds.fy t (suc y.sender.tries)) x_more line in
      let y_tried = subst (λ t. LineAt x.end y.end (y_sent ∷ x_sent ∷ past) x.taken y.taken (length past) (side_of x) (side_of y) x.receiver y.receiver holds.fx
      holds.fy (x.sender.tries + 1) t) y_more x_tried in
      let timed = subst (λ r. LineAt x.end y.end (y_sent ∷ x_sent ∷ past) x.taken y.taken r (side_of x) (side_of y) x.receiver y.receiver holds.fx holds.fy
      (x.sender.tries + 1) (y.sender.tries + 1)) (length-past frames holds.go ∙ sym first_released) y_tried in
      let behind = subst (λ p. LineAt x.end y.end (y_sent ∷ p) x.taken y.taken first.released (side_of x) (side_of y) x.receiver y.receiver holds.fx holds.fy
      (x.sender.tries + 1) (y.sender.tries + 1)) (sym one.past) timed in
      record {
        apart = holds.apart;
        fx = holds.fx;
        fy = holds.fy;
        go = two.go;
        x_half = record { length_is = holds.x_half.length_is; gap = holds.x_half.gap };
        y_half = record { length_is = holds.y_half.length_is; gap = holds.y_half.gap };
        line = lined two behind;
      }

  pub ticks_two : {first : Wire} {r : ℕ} {x y x_later y_later : Half} {other : FateValue} → r ≡ length wire.frames.items → Holds wire x y
      → IsBlocked x.end (past_now wire.frames.items) x.taken wire.released → IsBlocked y.end (past_now wire.frames.items) y.taken wire.released → Waits x.sender
      → Waits y.sender
      → SendsAgain (record wire { released = r }) x given first x_later → SendsAgain first y other new y_later → Holds new x_later y_later
  ticks_two {first} {y} {x_later} size holds x_blocked y_blocked x_waits y_waits x_sent y_sent =
      subst (λ h. Holds new x_later h) (sym y_sent.counted) (subst (λ h. Holds new h (again y)) (sym x_sent.counted)
      (two_again first holds x_blocked y_blocked x_waits y_waits x_sent.sends (x_sent.released ∙ size) y_sent.sends y_sent.released))
