use Rattle.std.proofs.Common.{◌≡◌, ◌∙◌, ◌≤◌, Global, List, ℕ, ap, arith, map, subst}
use Rattle.std.specs.Prelude.{IfErr, IfOk, IfSome, Option, count_by, string_bytes}
use Rattle.hs_folders.specs.FileMaps.{FileMap}
use Rattle.handheld_files.specs.Handhelds.{StandFor, is_database_file}
use Rattle.handheld_files.specs.Openings.{among}
use Rattle.handheld_files.specs.Reading.{RefusesOne}
use Rattle.handheld_files.proofs.KeptLaws.{holds_all, shows_all}
use Rattle.handheld_files.proofs.reading.read_folder.Goals as goal

pub returns-clause-held : goal.returns-clause-held
returns-clause-held g c =
    let told : Option FileMap = g.F.Folder.contents c.args.folder.now in
    let names : List (List ℕ) = map (string_bytes {Z = Global}) c.in_ok-names.names.items in
    let counted : c.count_databases.result ≡ count_by is_database_file names = c.count_databases.ensures
    ∙ ap (λ ns. count_by is_database_file (map (string_bytes {Z = Global}) ns)) c.deref.ensures.value in
    let few : count_by is_database_file names ≤ 200 = omega (arith, counted) in
    let stands : IfOk c.read_files.result (λ handheld. IfSome told (λ held. StandFor (among names held) handheld.databases.items handheld.user)) =
    subst (λ t. IfOk c.read_files.result (λ handheld. IfSome t (λ held. StandFor (among names held) handheld.databases.items handheld.user)))
    c.in_ok-names.ensures.contents
    (subst (λ ns. IfOk c.read_files.result (λ handheld. IfSome (g.F.Folder.contents c.list.new.self)
    (λ held. StandFor (among (map (string_bytes {Z = Global}) ns) held) handheld.databases.items handheld.user))) c.deref-2.ensures.value
    c.read_files.ensures.stand) in
    holds_all told names c.read_files.result c.in_ok-names.ensures.names few stands

pub returns-clause-shown : goal.returns-clause-shown
returns-clause-shown g c =
    let told : Option FileMap = g.F.Folder.contents c.args.folder.now in
    let names : List (List ℕ) = map (string_bytes {Z = Global}) c.in_ok-names.names.items in
    let counted : c.count_databases.result ≡ count_by is_database_file names = c.count_databases.ensures
    ∙ ap (λ ns. count_by is_database_file (map (string_bytes {Z = Global}) ns)) c.deref.ensures.value in
    let few : count_by is_database_file names ≤ 200 = omega (arith, counted) in
    let refuses : IfErr c.read_files.result (λ fault. IfSome told (RefusesOne names fault)) =
    subst (λ t. IfErr c.read_files.result (λ fault. IfSome t (RefusesOne names fault))) c.in_ok-names.ensures.contents
    (subst (λ ns. IfErr c.read_files.result (λ fault. IfSome (g.F.Folder.contents c.list.new.self) (RefusesOne (map (string_bytes {Z = Global}) ns) fault)))
    c.deref-2.ensures.value c.read_files.ensures.refused) in
    shows_all told names c.read_files.result c.in_ok-names.ensures.names few refuses
