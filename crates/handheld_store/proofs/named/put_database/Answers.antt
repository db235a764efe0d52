use Rattle.std.proofs.Common.{◌≡◌, ◌∙◌, Some, ap, rules, slice_set, subst, sym}
use Rattle.std.specs.Prelude.{IfSome}
use Rattle.std.specs.FinMap as finmap
use Rattle.std.specs.Option.{option_map}
use Rattle.pdb_values.specs.Databases.{DatabaseValue}
use Rattle.pdb_values.specs.NamedDatabases.{place_of}
use Rattle.pdb_files.specs.Files.{IsFileText, canonical}
use Rattle.folder_files.specs.FileNames.{database_file}
use Rattle.handheld_files.specs.Openings.{Stands}
use Rattle.handheld_store.proofs.KeptLaws.{AreKept-replaced, Follows-other, Stands-replaced, not_other, other_at}
use Rattle.handheld_store.proofs.named.put_database.Goals as goal

pub returns-in-Ok-clause-same : goal.returns-in-Ok-clause-same
returns-in-Ok-clause-same g c = λ own.
    let at : place_of c.args.database.head.name c.args.databases.now.items ≡ Some c.in-Some.place = search rules in
    let other = other_at c.args.databases.now.items c.in-Some.place c.index.result.now c.args.database c.are_same.result at
    (search rules) c.index.ensures c.are_same.ensures.1 c.if-are_same.false in
    absurd (not_other c.args.databases.now.items
    (slice_set c.args.databases.now.items c.in-Some.place c.args.database) c.index.result.now c.args.database other own)

pub returns-in-Err-clause-same : goal.returns-in-Err-clause-same
returns-in-Err-clause-same g c = λ own.
    let at : place_of c.args.database.head.name c.args.databases.now.items ≡ Some c.in-Some.place = search rules in
    let other = other_at c.args.databases.now.items c.in-Some.place c.index.result.now c.args.database c.are_same.result at
    (search rules) c.index.ensures c.are_same.ensures.1 c.if-are_same.false in
    absurd (not_other c.args.databases.now.items
    (slice_set c.args.databases.now.items c.in-Some.place c.args.database) c.index.result.now c.args.database other own)

pub returns-in-Ok-clause-kept : goal.returns-in-Ok-clause-kept
returns-in-Ok-clause-kept g c =
    let at : place_of c.args.database.head.name c.args.databases.now.items ≡ Some c.in-Some.place = search rules in
    let other = other_at c.args.databases.now.items c.in-Some.place c.index.result.now c.args.database c.are_same.result at
    (search rules) c.index.ensures c.are_same.ensures.1 c.if-are_same.false in
    rw (c.in-Ok.ensures.put, other.is) (AreKept-replaced c.args.database c.args.databases.now.items c.requires.kept c.requires.settled)

pub returns-in-Ok-clause-follows : goal.returns-in-Ok-clause-follows
returns-in-Ok-clause-follows g c =
    let at : place_of c.args.database.head.name c.args.databases.now.items ≡ Some c.in-Some.place = search rules in
    let other = other_at c.args.databases.now.items c.in-Some.place c.index.result.now c.args.database c.are_same.result at
    (search rules) c.index.ensures c.are_same.ensures.1 c.if-are_same.false in
    let written : g.F.Folder.contents c.replace_database.new.folder ≡ option_map (λ held. finmap.insert held
    (database_file c.args.database.head) (canonical c.args.database)) (g.F.Folder.contents c.args.folder.now) = search rules in
    rw c.in-Ok.ensures.put (Follows-other (g.F.Folder.contents c.args.folder.now) (g.F.Folder.contents c.replace_database.new.folder) c.args.databases.now.items
    (slice_set c.args.databases.now.items c.in-Some.place c.args.database) c.index.result.now c.args.database other written)

pub returns-in-Ok-clause-stands : goal.returns-in-Ok-clause-stands
returns-in-Ok-clause-stands g c = λ user head stands.
    let at : place_of c.args.database.head.name c.args.databases.now.items ≡ Some c.in-Some.place = search rules in
    let other = other_at c.args.databases.now.items c.in-Some.place c.index.result.now c.args.database c.are_same.result at
    (search rules) c.index.ensures c.are_same.ensures.1 c.if-are_same.false in
    let written : g.F.Folder.contents c.replace_database.new.folder ≡ option_map (λ held. finmap.insert held
    (database_file c.args.database.head) (canonical c.args.database)) (g.F.Folder.contents c.args.folder.now) = search rules in
    let text : IsFileText c.args.database (canonical c.args.database) = search rules in
    let same_head : c.index.result.now.head ≡ c.args.database.head =
    subst (λ o. IfSome o (λ (was : DatabaseValue). was.head ≡ c.args.database.head)) other.here head in
    subst (λ ds. Stands (g.F.Folder.contents c.replace_database.new.folder) ds user)
    (sym (ap (slice_set c.args.databases.now.items c.in-Some.place) c.in-Ok.ensures.put ∙ other.is))
    (Stands-replaced (g.F.Folder.contents c.args.folder.now) (g.F.Folder.contents c.replace_database.new.folder)
    c.args.databases.now.items c.index.result.now c.args.database user written text c.requires.settled c.requires.kept other.here same_head stands)
