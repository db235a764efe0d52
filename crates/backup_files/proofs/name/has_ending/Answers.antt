use Rattle.std.proofs.Common.{◌∙◌, ◌-◌, ap, drop, length, take}
use Rattle.std.specs.Prelude.{bytes_eq}
use Rattle.std.specs.Str.{str_to_ascii_lowercase}
use Rattle.backup_files.proofs.NameLaws.{ending_in_small, rest-whole, tested}
use Rattle.backup_files.proofs.name.has_ending.Goals as goal

pub returns : goal.returns
returns c =
    let test = c.eq_ignore_ascii_case.ensures.test in
    let start = c.saturating_sub-start.result in
    let name = c.args.name.now in
    let ending = str_to_ascii_lowercase c.args.ending.now in
    let tail = take (length name - start) (drop start name) in
    tested c.eq_ignore_ascii_case.result ending (str_to_ascii_lowercase tail) test.0 test.1
    ∙ ap (λ text. bytes_eq ending (str_to_ascii_lowercase text)) (rest-whole start name)
    ∙ ap (λ n. bytes_eq ending (str_to_ascii_lowercase (drop n name))) c.saturating_sub-start.ensures
    ∙ ending_in_small c.args.ending.now name
