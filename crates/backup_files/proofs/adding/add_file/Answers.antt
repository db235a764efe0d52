use Rattle.std.proofs.Common.{◌∙◌, ap, sym}
use Rattle.std.specs.Prelude.{find}
use Rattle.std.specs.Option.{option_copied}
use Rattle.pdb_values.specs.declared.head.DbHead.{DbHead}
use Rattle.backup_files.specs.FoundFiles.{is_origin}
use Rattle.backup_files.proofs.AddLaws.{same_shows}
use Rattle.backup_files.proofs.FileBounds.{filed_database}
use Rattle.backup_files.proofs.adding.add_file.Goals as goal

pub returns-in-Some-clause-shown : goal.returns-in-Some-clause-shown
returns-in-Some-clause-shown c =
    same_shows c.args.found.now.origins.items c.args.name.now c.args.bytes.now c.as_str.result.now c.same_database.result (record {
      stored = c.in_ok-database.database;
      text = c.in_ok-database.ensures.file;
      origin = c.in-Some.origin.now;
      found = ap (λ (h : DbHead). find (is_origin h.name) c.args.found.now.origins.items) (sym c.head.ensures.head)
          ∙ ap (find (is_origin c.head.result.now.name)) (sym c.deref.ensures.value) ∙ sym c.origin_of.ensures ∙ ap option_copied c.in-Some.is;
      file = sym c.as_str.ensures.value;
    }) c.same_database.ensures

pub returns-clause-added : goal.returns-clause-added
returns-clause-added c = record {
  stored = c.in_ok-database.database;
  text = c.in_ok-database.ensures.file;
  bounded = filed_database c.in_ok-database.database c.args.bytes.now c.in_ok-database.ensures.file c.head-2.ensures.database;
  is_new = ap (λ (h : DbHead). find (is_origin h.name) c.args.found.now.origins.items) (sym c.head.ensures.head)
      ∙ ap (find (is_origin c.head.result.now.name)) (sym c.deref.ensures.value) ∙ sym c.origin_of.ensures ∙ ap option_copied c.in-None.is;
  made = c.in_ok-insert_database.ensures.inserted;
  origin = record { file = c.in_ok-from_str.field-0; name = c.copy.result };
  file = c.in_ok-from_str.ensures.ok;
  database = c.copy.ensures ∙ ap (λ (h : DbHead). h.name) c.head-2.ensures.head;
  noted = c.in_ok-push.ensures.items;
}
