-- The fragment stands behind the header of the packet, and is read.
use Rattle.std.proofs.Common.{◌≡◌, sym, ap, ◌∙◌, arith, refl, get_or}
use Rattle.padp_link.specs.Pieces.{key_of}
use Rattle.slp_frames.specs.PacketScan.{fields_at}
use Rattle.padp_link.specs.FragmentText.{FragmentValue}
use Rattle.trace_text.specs.Frames.{fragment_in, is_abort, is_data_kind}
use Rattle.trace_text.specs.TraceLines.{frame_value}
use Rattle.trace_check.proofs.NoticeLaws.{packet-long, text-there, same-abort, same-data}
use Rattle.trace_check.proofs.notice.notice_of.Goals as goal

pub overflow_sub-bytes : goal.overflow_sub-bytes
overflow_sub-bytes c = omega (arith, packet-long (frame_value c.args.frame.now) _ c.as_slice-bytes.ensures.value c.requires)

pub slice_bounds-read_fragment-count : goal.slice_bounds-read_fragment-count
slice_bounds-read_fragment-count c = omega (arith, packet-long (frame_value c.args.frame.now) _ c.as_slice-bytes.ensures.value c.requires)

pub slice_bounds-read_fragment-start : goal.slice_bounds-read_fragment-start
slice_bounds-read_fragment-start c = omega (arith, packet-long (frame_value c.args.frame.now) _ c.as_slice-bytes.ensures.value c.requires)

pub returns-in_default-clause-none : goal.returns-in_default-clause-none
returns-in_default-clause-none c =
    absurd (c.in_default.ensures.only (fragment_in (frame_value c.args.frame.now))
    (text-there (frame_value c.args.frame.now) _ c.as_slice-bytes.ensures.value c.requires))

pub returns-then-eq-clause-none : goal.returns-then-eq-clause-none
returns-then-eq-clause-none c =
    let same = c.in-Ok.ensures.only (fragment_in (frame_value c.args.frame.now))
    (text-there (frame_value c.args.frame.now) _ c.as_slice-bytes.ensures.value c.requires) in
    ap (λ (f : FragmentValue). is_abort f.kind) (sym same) ∙ (sym (same-abort c.in-Ok.fragment.kind) ∙ (sym c.eq.ensures ∙ c.if-eq.true))

pub returns-clause-some : goal.returns-clause-some
unfolding fields_at
returns-clause-some c =
    let same = c.in-Ok.ensures.only (fragment_in (frame_value c.args.frame.now))
    (text-there (frame_value c.args.frame.now) _ c.as_slice-bytes.ensures.value c.requires) in
    let bytes : c.as_slice-bytes.result.now ≡ c.args.frame.now.bytes.items = c.as_slice-bytes.ensures.value in
    record {
      from_is = refl;
      is_data_is = c.eq-2.ensures ∙ (same-data c.in-Ok.fragment.kind ∙ ap (λ (f : FragmentValue). is_data_kind f.kind) same);
      key_is = c.key.ensures ∙ (ap (key_of (get_or c.as_slice-bytes.result.now 8 0)) same
          ∙ ap (λ s. key_of (get_or s 8 0) (fragment_in (frame_value c.args.frame.now))) bytes);
      late_is = c.is_late.ensures;
      number_is = refl;
      came_is = refl;
    }

pub returns-clause-said : goal.returns-clause-said
returns-clause-said c =
    let same = c.in-Ok.ensures.only (fragment_in (frame_value c.args.frame.now))
    (text-there (frame_value c.args.frame.now) _ c.as_slice-bytes.ensures.value c.requires) in
    ap (λ (f : FragmentValue). is_abort f.kind) (sym same) ∙ (sym (same-abort c.in-Ok.fragment.kind) ∙ (sym c.eq.ensures ∙ c.if-eq.false))
