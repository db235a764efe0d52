-- The core over the steps of the line.
use Rattle.line_laws.proofs.Names.{rules, ◌≡◌, ℕ, ◌+◌, ◌<◌, ◌≤◌, Bool, true, false, List, ◌∷◌, length, Some, refl, sym, ap, ◌∙◌, arith, inl, Key, piece_count}
use Rattle.line_laws.proofs.Names.{ReceiverValue, FrameCourse, PastFrame, first, data_of, said, acked, at, End, Apart, Counts, Side, Waiting, key_now, part_now, Speaks}
use Rattle.line_laws.proofs.Names.{Awaits, Hears, CoreAt, data_frame, ack_frame}
use Rattle.line_laws.proofs.PastLaws.{add_first, add_new, keys_apart, said_data, said_data-other, acked_data, acked_ack, acked_ack-other, said_ack}
use Rattle.line_laws.proofs.CountLaws.{counts_push, counts_later, counts_accept, counts_begin, counts_begun}
use Rattle.line_laws.proofs.SpeakLaws.{speaks_push, hears_push, all_bear-new, ack_no_data, data_no_other}

module _ {X Y : End} {past : List PastFrame} {cx cy : ℕ} {x y : Side} {rx ry : ReceiverValue} where
  pub turned : {fx fy : Bool} → CoreAt X Y past cx cy x y rx ry fx fy → CoreAt Y X past cy cx y x ry rx fy fx
  turned core = search rules

  -- the timer of X: the waiting piece goes once more
  pub again : {fx fy : Bool} (course : FrameCourse) → Apart X Y
      → CoreAt X Y past cx cy x y rx ry fx fy → Waiting x
      → CoreAt X Y (data_frame X (key_now x) ((part_now x).bytes) course ∷ past) cx cy x y rx ry fx fy
  again course apart core waits =
      let key = key_now x in
      let bytes = (part_now x).bytes in
      let frame = data_frame X key bytes course in
      let sx : said X (frame ∷ past) ≡ said X past = said_data X key bytes course past ∙ add_first (core.x_speaks.newest waits) in
      let sy = said_data-other X Y apart.back key bytes course past in
      let ax = acked_data X X key bytes course past in
      let ay = acked_data X Y key bytes course past in
      record {
        there = counts_push core.there sx sy ay;
        back = counts_push core.back sy sx ax;
        x_speaks = speaks_push core.x_speaks sx (λ is. refl);
        y_speaks = speaks_push core.y_speaks sy (λ is. absurd (data_no_other Y X apart.back key bytes course is));
        y_hears = hears_push core.y_hears ay;
        x_hears = hears_push core.x_hears ax;
        one = core.one;
        both = core.both;
      }

  -- a frame of X is taken off the line and changes nothing: one that was lost or damaged, or another acknowledgement than the waiting one
  pub passes : {fx fy : Bool} {n : ℕ}
      → CoreAt X Y past cx cy x y rx ry fx fy → cx ≤ n → n ≤ length past → CoreAt X Y past n cy x y rx ry fx fy
  passes core from inside = search rules

  -- Y takes a copy of the last fragment that it took, and acknowledges it again
  pub repeats : {fx fy : Bool} {n : ℕ} {key : Key} {course : FrameCourse}
      → Apart X Y → CoreAt X Y past cx cy x y rx ry fx fy → cx ≤ n → n ≤ length past → first (acked Y past) ≡ Some key
      → CoreAt X Y (ack_frame Y key course ∷ past) n cy x y rx ry fx fy
  repeats {key} {course} apart core from inside copy =
      let frame = ack_frame Y key course in
      let sx = said_ack Y X key course past in
      let sy = said_ack Y Y key course past in
      let ax = acked_ack-other Y X apart.there key course past in
      let ay : acked Y (frame ∷ past) ≡ acked Y past = acked_ack Y key course past ∙ add_first copy in
      record {
        there = counts_push (counts_later core.there from inside) sx sy ay;
        back = counts_push core.back sy sx ax;
        x_speaks = speaks_push core.x_speaks sx (λ is. absurd (ack_no_data X Y key course is));
        y_speaks = speaks_push core.y_speaks sy (λ is. absurd (ack_no_data Y Y key course is));
        y_hears = hears_push core.y_hears ay;
        x_hears = hears_push core.x_hears ax;
        one = core.one;
        both = core.both;
      }

  -- X, which knows all that was said, begins its next fragment
  pub begins : {course : FrameCourse} → Apart X Y
      → Counts X Y past false cx → Counts Y X past false cy → length (said X past) ≤ length (acked Y (at cy past))
      → Speaks Y past false y → ry.last ≡ first (acked Y past) → Awaits x.id x.acknowledged x.message ry → Hears X past false y rx
      → Waiting x → (first (said X past) ≡ Some (key_now x) → ⊥) → (Waiting y → (x.acknowledged ≡ 0) × (y.acknowledged + 1 ≡ piece_count (length y.message)))
      → CoreAt X Y (data_frame X (key_now x) ((part_now x).bytes) course ∷ past) cx cy x y rx ry true false
  begins {course} apart there back caught y_speaks last awaits x_hears waits new both =
      let key = key_now x in
      let bytes = (part_now x).bytes in
      let frame = data_frame X key bytes course in
      let sx : said X (frame ∷ past) ≡ key ∷ said X past = said_data X key bytes course past ∙ add_new (said X past) new in
      let sy = said_data-other X Y apart.back key bytes course past in
      let ax = acked_data X X key bytes course past in
      let ay = acked_data X Y key bytes course past in
      let knows : length (said Y past) ≤ length (acked X past) = omega (arith, ap length back.follows) in
      record {
        there = counts_begin there knows sx sy ax ay;
        back = counts_begun back caught sx sy ay ax;
        x_speaks = record {
          waits = λ fresh. waits;
          newest = λ w. ap first sx;
          newest_id = λ k is. (let e : key ≡ k = (let same : Some key ≡ Some k = sym (ap first sx) ∙ is in cc) in ap (λ j. j.id) (sym e));
          bytes = λ w. all_bear-new X frame past sx refl;
        };
        y_speaks = speaks_push y_speaks sy (λ is. absurd (data_no_other Y X apart.back key bytes course is));
        y_hears = record { last_is = last ∙ ap first (sym ay); receives = λ below. awaits };
        x_hears = hears_push x_hears ax;
        one = λ fresh. refl;
        both = λ wx wy. (let b = both wy in inl (record { is_fresh = refl; begins = b.0; ends = b.1 }));
      }

  -- where the newest fragment wasn't taken and the other end waits too, it is a first piece, and the other end waits on its last
  pub answers_last : {fy : Bool} → CoreAt X Y past cx cy x y rx ry true fy
      → Waiting y → (x.acknowledged ≡ 0) × (y.acknowledged + 1 ≡ piece_count (length y.message))
  answers_last core waits = search rules

  -- Y takes the newest fragment, which is acknowledged; what Y waited for is acknowledged by it too
  pub accepts : {ry' : ReceiverValue} {n k : ℕ} {key : Key} {course : FrameCourse} → Apart X Y
      → CoreAt X Y past cx cy x y rx ry true false → cx ≤ n → n ≤ length past
      → first (said X past) ≡ Some key → length (acked Y past) < length (said X (at n past)) → piece_count (length y.message) ≤ k
      → ry'.last ≡ Some key → (x.acknowledged + 1 < piece_count (length x.message) → Awaits x.id (x.acknowledged + 1) x.message ry')
      → CoreAt X Y (ack_frame Y key course ∷ past) n cy x (record y { acknowledged = k }) rx ry' false false
  accepts {key} {course} apart core from inside newest fresh idle last awaits =
      let frame = ack_frame Y key course in
      let sx = said_ack Y X key course past in
      let sy = said_ack Y Y key course past in
      let ax = acked_ack-other Y X apart.there key course past in
      let was = core.there.follows in
      let it : was.0 ≡ key = (let same : Some was.0 ≡ Some key = sym (ap first was.1) ∙ newest in cc) in
      let more : first (acked Y past) ≡ Some key → ⊥ = λ e. keys_apart (data_of X) past was.1 (e ∙ ap Some (sym it)) in
      let new : acked Y (frame ∷ past) ≡ key ∷ acked Y past = acked_ack Y key course past ∙ add_new (acked Y past) more in
      let ay : acked Y (frame ∷ past) ≡ said X past = new ∙ ap (λ j. j ∷ acked Y past) (sym it) ∙ sym was.1 in
      record {
        there = counts_accept core.there from inside fresh sx sy ax ay;
        back = counts_push core.back sy sx ax;
        x_speaks = (let s = speaks_push core.x_speaks sx (λ is. absurd (ack_no_data X Y key course is)) in
            record { waits = λ e. absurd cc; newest = s.newest; newest_id = s.newest_id; bytes = s.bytes });
        y_speaks = record {
          waits = λ e. absurd cc;
          newest = λ w. absurd (omega arith);
          newest_id = λ j is. core.y_speaks.newest_id j (ap first (sym sy) ∙ is);
          bytes = λ w. absurd (omega arith);
        };
        y_hears = record { last_is = last ∙ sym (ap first new); receives = awaits };
        x_hears = record { last_is = core.x_hears.last_is ∙ ap first (sym ax); receives = λ below. absurd (omega arith) };
        one = λ e. refl;
        both = λ wx wy. absurd (omega arith);
      }

  -- X takes the acknowledgement of its last piece
  pub ends : {fx : Bool} {n k : ℕ}
      → CoreAt X Y past cx cy x y rx ry fx false → cx ≤ n → n ≤ length past → piece_count (length y.message) ≤ k
      → CoreAt X Y past n cy x (record y { acknowledged = k }) rx ry fx false
  ends core from inside idle = search rules
