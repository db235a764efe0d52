-- What an end heard of the other one's next frame.
use Rattle.line_steps.proofs.Names.{rules, ◌≡◌, ℕ, not, [], Some, sym, ap, subst, ◌∙◌, slice_get, and_from, packet_at, ReaderValue, Key, Taken, data_fragment}
use Rattle.line_steps.proofs.Names.{FragmentValue, key_of, ReceiverValue, Answers, after_answer, Frame, is_data_kind, fragment_in, is_end, frame_value, Half}
use Rattle.line_steps.proofs.Names.{List, FrameValue, IsFrameAt, Wire, Heard, Nothing, Ack, Hears, Goes, Holds, MovesReceiver, Delivers, AckNext, DataHeard}
use Rattle.padp_link.specs.declared.fragment.PadpKind.TheVariants as kind
use Rattle.line_steps.specs.declared.hearing.Heard.TheVariants.{Data}
use Rattle.line_steps.proofs.HoldsLaws.{with_reader}

abbrev HearsFrame : Frame → ReceiverValue → Heard → ReceiverValue → Type 0
HearsFrame frame old heard new = Hears old (packet_at frame.bytes.items).id (fragment_in (frame_value frame)) heard new

pub hears_lent : {frames : List Frame} {n : ℕ} {lent : FrameValue} (old : ReceiverValue) (heard : Heard) (new : ReceiverValue) → (it : IsFrameAt frames n lent)
    → Hears old (packet_at lent.bytes).id (fragment_in lent) heard new → HearsFrame it.frame old heard new
hears_lent old heard new it hears = subst (λ v. Hears old (packet_at v.bytes).id (fragment_in v) heard new) it.is hears

pub read_on : (wire : Wire) (x y : Half) (reader : ReaderValue) → Holds wire x y → reader.held ≡ [] → Holds wire x (with_reader y reader)
read_on wire x y reader holds gap = search rules

-- the frame that was heard is the next one
same_frame : (wire : Wire) (n : ℕ) (frame next : Frame) → slice_get wire.frames.items n ≡ Some frame → slice_get wire.frames.items n ≡ Some next → frame ≡ next
same_frame wire n frame next here there = cc

pub heard_ack-holds : {wire : Wire} {x y new : Half} → Holds wire x y → new.receiver ≡ y.receiver → MovesReceiver y new → new.reader.held ≡ [] → Holds wire x new
heard_ack-holds holds same heeded gap = search rules

pub heard_ack-next : {wire : Wire} (x y : Half) {frame : Frame} {key : Key} (later : ReceiverValue) → Delivers x.end wire x.taken
    → slice_get wire.frames.items x.taken ≡ Some frame → HearsFrame frame y.receiver (Ack key) later → AckNext x.end wire x.taken key
heard_ack-next {wire} x y {frame} {key} later next here hears =
    let h = subst (λ f. HearsFrame f y.receiver (Ack key) later) (same_frame wire x.taken frame next.frame here next.here) hears in
    record {
      next = next;
      is = and_from (is_end x.end next.frame.from) _ next.from_is (ap (λ k. not (is_data_kind k)) h.0);
      key_is = sym h.1;
    }

whole_fragment : {fragment : FragmentValue} (id : ℕ) → fragment.kind ≡ kind.Data → fragment ≡ data_fragment (key_of id fragment) fragment.bytes
whole_fragment id is = search rules

pub heard_data : {wire : Wire} {x y new : Half} {frame : Frame} {key : Key} {taken : Taken} → Holds wire x y → Delivers x.end wire x.taken
    → slice_get wire.frames.items x.taken ≡ Some frame → HearsFrame frame y.receiver (Data key taken) new.receiver → MovesReceiver y new → new.reader.held ≡ []
    → DataHeard wire x new key taken
heard_data {wire} {x} {y} {new} {frame} {key} {taken} holds next here hears heeded gap =
    let h = subst (λ f. HearsFrame f y.receiver (Data key taken) new.receiver) (same_frame wire x.taken frame next.frame here next.here) hears in
    let fragment = fragment_in (frame_value next.frame) in
    let id = (packet_at next.frame.bytes.items).id in
    let whole = whole_fragment {fragment = fragment} id h.0 in
    record {
      before = y.receiver;
      holds = subst (λ n. Holds wire x (record n { receiver = y.receiver })) (sym heeded) (read_on wire x y new.reader holds gap);
      next = next;
      is = and_from (is_end x.end next.frame.from) _ next.from_is (ap (λ k. is_data_kind k) h.0);
      key_is = sym h.1;
      answers = subst (λ k. Answers y.receiver k.id (data_fragment k fragment.bytes) taken) (sym h.1) (subst (λ f. Answers y.receiver id f taken) whole h.2);
      after = h.3 ∙ ap (λ f. after_answer y.receiver id f taken) whole
          ∙ ap (λ k. after_answer y.receiver k.id (data_fragment k fragment.bytes) taken) (sym h.1);
    }

pub heard_something : {number : ℕ} (frame : Frame) (old new : ReceiverValue) → Goes number (frame_value frame) → HearsFrame frame old Nothing new → ⊥
heard_something frame old new goes hears = search rules
