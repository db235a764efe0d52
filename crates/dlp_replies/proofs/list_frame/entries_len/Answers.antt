use Rattle.std.proofs.Common.{◌∙◌, sym, arith}
use Rattle.dlp_replies.specs.EntryLists.{entry_text}
use Rattle.dlp_replies.proofs.ListLaws.{lengths_left, within_list}
use Rattle.dlp_replies.proofs.list_frame.entries_len.Goals as goal
use Rattle.dlp_replies.proofs.list_frame.entries_len.Goals.{in-Some, in_default}

pub loop-place-preserved : goal.loop-place-preserved
loop-place-preserved c =
    elim c.match-get.branch [
      | in-Some w ↦
          let more = lengths_left entry_text c.args.entries.now c.loop-place.place c.loop-place.len (w.in-Some.field-0-0, w.in-Some.head)
          (sym c.get.ensures ∙ w.in-Some.is) c.loop-place.invariant.left in
          record {
            near = omega (arith, c.loop-place.invariant.near, w.entry_len-len.ensures.small, w.len-is);
            left = omega (arith, more, w.entry_len-len.ensures.len w.in-Some.field-0-0, w.len-is);
          }
      | in_default w ↦
          let past = within_list c.args.entries.now c.loop-place.place (sym c.get.ensures ∙ w.in_default.is) in
          absurd (omega (arith, past, c.loop-place-test.true, c.len-place-end.ensures.len))
    ]
