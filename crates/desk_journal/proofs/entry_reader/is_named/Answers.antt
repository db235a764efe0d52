-- The entry at an index bears the name.
use Rattle.std.proofs.Common.{◌≡◌, ◌∙◌, true, sym}
use Rattle.std.specs.Prelude.{bytes_eq, string_bytes}
use Rattle.std.proofs.lemmas.List.Folds.{list_any_at}
use Rattle.desk_journal.specs.Entries.{EntryValue, entry_value}
use Rattle.desk_journal.specs.declared.entry.Entry.{Entry}
use Rattle.desk_journal.proofs.EntryLaws.{list_any-map}
use Rattle.desk_journal.proofs.entry_reader.is_named.Goals as goal

pub returns-then-eq : goal.returns-then-eq
returns-then-eq c =
    let passes : bytes_eq (string_bytes c.entry-item.result.name) c.args.name.now ≡ true = cc in
    sym (list_any-map (λ (entry : EntryValue). bytes_eq entry.name c.args.name.now) entry_value c.args.entries.now
    ∙ list_any_at (λ (entry : Entry). bytes_eq (string_bytes entry.name) c.args.name.now) c.args.entries.now c.loop-entry.entry-index c.entry-item.result
    c.loop-entry-test.true (rw (← c.entry-item.is) passes))
