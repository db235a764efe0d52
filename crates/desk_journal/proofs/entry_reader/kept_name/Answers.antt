-- UTF-8 is tested first, and then the ending.
use Rattle.std.proofs.Common.{◌≡◌, ◌∙◌, ℕ, List, true, Some, sym, ap, subst}
use Rattle.folder_files.specs.FileNames.{is_kept_file}
use Rattle.desk_journal.proofs.ReadLaws.{kept_not, kept_when}
use Rattle.desk_journal.proofs.entry_reader.kept_name.Goals as goal

pub returns-in-Err : goal.returns-in-Err
returns-in-Err c = sym (kept_not c.args.bytes.now c.in-Err.ensures.cases.0)

pub returns-then-is_kept_file : goal.returns-then-is_kept_file
returns-then-is_kept_file c =
    let same = c.in-Ok.ensures.cases.0 in
    let kept : is_kept_file c.args.bytes.now ≡ true = subst (λ (name : List ℕ). is_kept_file name ≡ true) same
    (sym c.is_kept_file.ensures ∙ c.if-is_kept_file.true) in
    ap Some same ∙ sym (kept_when c.args.bytes.now c.in-Ok.ensures.cases.1 kept)
