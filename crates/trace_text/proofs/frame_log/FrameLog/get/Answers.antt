use Rattle.std.proofs.Common.{◌<◌, ◌+◌, ◌∙◌, ap, sym, subst, length, refl, arith}
use Rattle.std.proofs.lemmas.Option.{slice_get_read}
use Rattle.std.specs.Prelude.{slice_get}
use Rattle.trace_text.specs.FrameEntries.{IsWithin, frame_at}
use Rattle.trace_text.specs.TraceLines.{frame_value}
use Rattle.trace_text.proofs.LogLaws.{frames_in-get, length-frames_in, within_at}
use Rattle.trace_text.proofs.frame_log.FrameLog.get.Goals as goal

pub index-requires : goal.index-requires
index-requires c =
    let entries = c.self.inside.entries in
    omega (arith, entries.ok.0, length-frames_in c.self.inside.bytes.items 1 entries.items, ap (λ v. length v.items) c.self.view_is, c.requires)

pub frame_in-requires-clause-within : goal.frame_in-requires-clause-within
frame_in-requires-clause-within c =
    let entries = c.self.inside.entries in
    let inside : c.args.place < length entries.items =
    omega (
      arith,
      length-frames_in c.self.inside.bytes.items 1 entries.items,
      ap (λ v. length v.items) c.self.view_is,
      c.requires,
    ) in
    let here = slice_get_read entries.items _ c.args.place c.index.result.now refl inside c.index.ensures in
    subst (λ n. IsWithin n c.index.result.now) (sym c.deref.ensures.len) (within_at 0 _ entries.items c.args.place c.self.invariant here)

pub frame_in-requires-clause-few : goal.frame_in-requires-clause-few
frame_in-requires-clause-few c =
    let entries = c.self.inside.entries in
    omega (arith, entries.small, entries.ok, length-frames_in c.self.inside.bytes.items 1 entries.items, ap (λ v. length v.items) c.self.view_is, c.requires)

pub returns : goal.returns
returns c =
    let entries = c.self.inside.entries in
    let bytes = c.self.inside.bytes.items in
    let entry = c.index.result.now in
    let inside : c.args.place < length entries.items =
    omega (
      arith,
      length-frames_in bytes 1 entries.items,
      ap (λ v. length v.items) c.self.view_is,
      c.requires,
    ) in
    record {
      frame = frame_at bytes (1 + c.args.place) entry;
      here = ap (λ v. slice_get v.items c.args.place) (sym c.self.view_is)
          ∙ frames_in-get bytes 1 entries.items c.args.place (slice_get_read entries.items _ c.args.place entry refl inside c.index.ensures);
      is = c.frame_in.ensures ∙ (ap (λ b. frame_value (frame_at b (c.args.place + 1) entry)) c.deref.ensures.value
          ∙ ap (λ n. frame_value (frame_at bytes n entry)) (omega arith));
    }
