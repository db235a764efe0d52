use Rattle.std.proofs.Common.{◌≡◌, ◌∙◌, Ok, ap, rules, subst}
use Rattle.handheld_store.specs.Lents.{LentValue}
use Rattle.handheld_store.specs.Loans.{database_in}
use Rattle.palm_device.specs.Edits.{edited}
use Rattle.handheld_server.proofs.KeepLaws.{Lent, kept_keeps, kept_touches}
use Rattle.handheld_server.proofs.WriteLaws.{edited-head}
use Rattle.handheld_server.specs.Keeping.{Keeps, TouchesOne}
use Rattle.handheld_server.proofs.written.edit_copied.Goals as goal

pub returns-in-Ok-keep-clause-keeps : goal.returns-in-Ok-keep-clause-keeps
returns-in-Ok-keep-clause-keeps g c =
    let entry = c.apply.new.self in
    let made = edited c.in-Ok-apply.given c.args.edit.now (database_in c.in-Ok.base) in
    let becomes = c.in-Ok-apply.ensures.edited in
    let last : c.keep.new.self.0 ≡ c.store-in-Ok-apply-1.given.0 = search rules in
    let lent : Lent c.args.store.now entry.store.now c.args.name.now (database_in c.in-Ok.base) made (database_in entry) = record {
      lender = becomes.store ∙ c.in-Ok.ensures.store;
      became = ap (λ (l : LentValue). l.database) becomes.lent;
      there = c.in-Ok.ensures.database;
      head = edited-head c.in-Ok-apply.given c.args.edit.now (database_in c.in-Ok.base);
    } in
    subst (λ s. Keeps g.F.Folder.contents g.F.Folder.moments g.F.Folder.paths g.F.Folder.faults c.args.store.now s
    (Ok c.in-Ok-apply.given)) last
    (kept_keeps g.F.Folder.contents g.F.Folder.moments g.F.Folder.paths g.F.Folder.faults c.args.store.now entry.store.now c.keep.new.self.0 c.args.name.now
    (database_in c.in-Ok.base) made (database_in entry) c.in-Ok-keep.field-0 c.in-Ok-apply.given lent c.requires.sound
    c.in-Ok-keep.ensures.kept c.in-Ok-keep.ensures.stands c.in-Ok-keep.ensures.change)

pub returns-in-Ok-keep-clause-files : goal.returns-in-Ok-keep-clause-files
returns-in-Ok-keep-clause-files g c =
    let entry = c.apply.new.self in
    let made = edited c.in-Ok-apply.given c.args.edit.now (database_in c.in-Ok.base) in
    let becomes = c.in-Ok-apply.ensures.edited in
    let last : c.keep.new.self.0 ≡ c.store-in-Ok-apply-1.given.0 = search rules in
    let lent : Lent c.args.store.now entry.store.now c.args.name.now (database_in c.in-Ok.base) made (database_in entry) = record {
      lender = becomes.store ∙ c.in-Ok.ensures.store;
      became = ap (λ (l : LentValue). l.database) becomes.lent;
      there = c.in-Ok.ensures.database;
      head = edited-head c.in-Ok-apply.given c.args.edit.now (database_in c.in-Ok.base);
    } in
    subst (λ s. TouchesOne g.F.Folder.contents c.args.store.now s) last
    (kept_touches g.F.Folder.contents c.args.store.now entry.store.now c.keep.new.self.0 c.args.name.now
    (database_in c.in-Ok.base) made (database_in entry) lent c.in-Ok-keep.ensures.kept c.in-Ok-keep.ensures.files)
