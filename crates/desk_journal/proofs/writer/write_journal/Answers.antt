-- Each entry is written behind those before it.
use Rattle.std.proofs.Common.{◌≡◌, ◌++◌, [], List, length, take, arith, ap, ◌∙◌}
use Rattle.std.specs.Int.{w16, to_be_bytes}
use Rattle.std.specs.List.{flat_map}
use Rattle.std.proofs.lemmas.List.{length-map, take_all}
use Rattle.desk_journal.specs.Entries.{EntryValue, entry_text, entry_value, entry_values, mark}
use Rattle.desk_journal.proofs.EntryLaws.{entry_is, text_more}
use Rattle.desk_journal.proofs.OverlayLaws.{values_more}
use Rattle.desk_journal.proofs.writer.write_journal.Goals as goal

pub put_entry-requires : goal.put_entry-requires
put_entry-requires c = entry_is [] c.args.entries.now c.loop-entry.entry-index c.requires.1 c.loop-entry-test.true c.entry-item.is

pub loop-entry-preserved : goal.loop-entry-preserved
loop-entry-preserved c =
    let values = entry_values c.args.entries.now in
    let place = c.loop-entry.entry-index in
    text_more (mark ++ to_be_bytes w16 (length values)) (take place values) (entry_value c.entry-item.result)
    c.loop-entry.invariant c.in_ok-put_entry.ensures (values_more c.args.entries.now place c.loop-entry-test.true c.entry-item.is)

pub returns : goal.returns
returns c =
    let values = entry_values c.args.entries.now in
    let count : length values ≡ length c.args.entries.now = simp length-map in
    let all : take c.loop-entry.entry-index values ≡ values = take_all c.loop-entry.entry-index values (omega (arith, c.loop-entry-test.false)) in
    c.loop-entry.invariant ∙ ap (λ (written : List EntryValue). mark ++ (to_be_bytes w16 (length values) ++ flat_map entry_text written)) all
