use Rattle.std.proofs.Common.{◌∙◌, ◌+◌, ◌++◌, List, ℕ, drop, sym, ap, arith}
use Rattle.std.proofs.lemmas.List.{length-append}
use Rattle.dlp_replies.specs.EntryLists.{entry_text, entries_text}
use Rattle.dlp_replies.proofs.ListLaws.{text_added, text_fits, within_list}
use Rattle.dlp_replies.proofs.list_frame.append_entries.Goals as goal
use Rattle.dlp_replies.proofs.list_frame.append_entries.Goals.{in-Some, in_default}

pub append_entry-requires : goal.append_entry-requires
append_entry-requires c =
    let all = c.args.out.now ++ entries_text c.args.entries.now in
    let fits = text_fits entry_text c.args.entries.now c.loop-place.place (c.in-Some.index, c.in-Some.head) c.loop-place.out all
    (sym c.get.ensures ∙ c.in-Some.is) c.loop-place.invariant in
    omega (arith, fits, length-append c.args.out.now (entries_text c.args.entries.now), c.requires)

pub loop-place-preserved : goal.loop-place-preserved
loop-place-preserved c =
    elim c.match-get.branch [
      | in-Some w ↦
          let all = c.args.out.now ++ entries_text c.args.entries.now in
          let out = w.out-is ∙ w.append_entry.ensures in
          ap (λ (xs : List ℕ). xs ++ entries_text (drop (c.loop-place.place + 1) c.args.entries.now)) out ∙ text_added entry_text c.args.entries.now
          c.loop-place.place (w.in-Some.index, w.in-Some.head) c.loop-place.out all (sym c.get.ensures ∙ w.in-Some.is) c.loop-place.invariant
      | in_default w ↦
          let past = within_list c.args.entries.now c.loop-place.place (sym c.get.ensures ∙ w.in_default.is) in
          absurd (omega (arith, past, c.loop-place-test.true, c.len-place-end.ensures.len))
    ]
