-- One entry after the other, as the definition reads them.
use Rattle.std.proofs.Common.{◌≡◌, ◌++◌, ◌∷◌, [], None, Some, sym}
use Rattle.std.proofs.lemmas.Bool.{eqb-true, eqb-false}
use Rattle.std.proofs.lemmas.List.{map_push}
use Rattle.desk_journal.specs.declared.entry.Entry.{Entry}
use Rattle.desk_journal.specs.Entries.{EntryValue, entry_value, entry_values}
use Rattle.desk_journal.specs.Reading.{entry_at}
use Rattle.desk_journal.proofs.EntryLaws.{goes_on, stops, has_more, is_done, same_entry}
use Rattle.desk_journal.proofs.entry_reader.read_entries.Goals as goal

pub returns-in_default : goal.returns-in_default
returns-in_default c =
    let none : entry_at (entry_values c.loop.entries.items) c.loop.rest.now ≡ None = rw (← c.deref.ensures.value) (sym c.in_default.ensures) in
    stops c.args.count c.loop.counter (entry_values c.loop.entries.items) c.loop.rest.now c.loop-test.true none c.loop.invariant

pub loop-preserved : goal.loop-preserved
loop-preserved c =
    let entry : Entry = record { name = c.in_ok-from_str.field-0; bytes = c.in_ok-from_slice.field-0 } in
    let read : EntryValue = record { name = c.in-Some.lent.name.now; bytes = c.in-Some.lent.bytes.now } in
    let is : entry_value entry ≡ read = same_entry entry c.in_ok-from_str.ensures.ok c.in_ok-from_slice.ensures.items in
    let grown : entry_values c.push.new.self.items ≡ entry_values c.loop.entries.items ++ read ∷ [] = rw (c.in_ok-push.ensures.items, ← is)
    (map_push entry_value c.loop.entries.items entry) in
    let found : entry_at (entry_values c.loop.entries.items) c.loop.rest.now ≡ Some (read, c.in-Some.lent.rest.now) = rw (← c.deref.ensures.value)
    (sym c.in-Some.ensures) in
    rw grown (goes_on c.args.count c.loop.counter (entry_values c.loop.entries.items) c.loop.rest.now read c.in-Some.lent.rest.now c.loop-test.true found
    c.loop.invariant)

pub returns-then-not-is_empty : goal.returns-then-not-is_empty
returns-then-not-is_empty c = has_more c.args.count c.loop.counter (entry_values c.loop.entries.items) c.loop.rest.now c.loop-test.false
    (eqb-false _ _ (sym c.if-not-is_empty.ensures)) c.loop.invariant

pub returns : goal.returns
returns c = is_done c.args.count c.loop.counter (entry_values c.loop.entries.items) c.loop.rest.now c.loop-test.false
    (eqb-true _ _ (sym c.if-not-is_empty.ensures)) c.loop.invariant
