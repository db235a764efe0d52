use Rattle.std.proofs.Common.{◌<◌, ◌∙◌, ap, length, refl, arith}
use Rattle.std.proofs.lemmas.Option.{slice_get_read}
use Rattle.trace_text.specs.FrameLogs.{marked}
use Rattle.trace_text.proofs.LogLaws.{frames_in-marked, length-frames_in, within_marked}
use Rattle.trace_text.proofs.frame_log.FrameLog.mark.Goals as goal

pub index_mut-requires : goal.index_mut-requires
index_mut-requires c =
    let entries = c.self.inside.entries in
    omega (arith, entries.ok.0, length-frames_in c.self.inside.bytes.items 1 entries.items, ap (λ v. length v.items) c.self.view_is, c.requires)

pub invariant_of-self : goal.invariant_of-self
invariant_of-self c =
    let entries = c.self.inside.entries in
    let inside : c.args.place < length entries.items =
    omega (
      arith,
      length-frames_in c.self.inside.bytes.items 1 entries.items,
      ap (λ v. length v.items) c.self.view_is,
      c.requires,
    ) in
    let here = slice_get_read entries.items _ c.args.place c.index_mut.result.now refl inside c.index_mut.ensures.value in
    within_marked 0 _ entries.items c.args.place here c.self.invariant

pub returns : goal.returns
returns c =
    let entries = c.self.inside.entries in
    let bytes = c.self.inside.bytes.items in
    let inside : c.args.place < length entries.items =
    omega (
      arith,
      length-frames_in bytes 1 entries.items,
      ap (λ v. length v.items) c.self.view_is,
      c.requires,
    ) in
    let here = slice_get_read entries.items _ c.args.place c.index_mut.result.now refl inside c.index_mut.ensures.value in
    let view = c.self.view_is in
    λ i. record {
      items = (frames_in-marked bytes 1 entries.items c.args.place here ∙ ap (λ v. marked c.args.place v.items) view) i;
      room = (view i).room;
      byte_room = (view i).byte_room;
    }
