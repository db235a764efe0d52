use Rattle.std.proofs.lemmas.Grind.{common_steps}
use Rattle.std.proofs.Common.{arith}
use Rattle.hotsync_looks.proofs.LookLaws.{import_result, reading_result, trace_result}
use Rattle.hotsync_looks.proofs.look.bytes_text.Goals as goal

pub returns-in_err-verdict_text-in-Verify-clause-refused : goal.returns-in_err-verdict_text-in-Verify-clause-refused
returns-in_err-verdict_text-in-Verify-clause-refused c =
    grind (arith, common_steps, trace_result c.verdict_text.result c.args.look c.args.file.now c.args.bytes.now c.in-Verify.is c.verdict_text.ensures.refused)

pub returns-in_err-picture_text-in-Picture-clause-refused : goal.returns-in_err-picture_text-in-Picture-clause-refused
returns-in_err-picture_text-in-Picture-clause-refused c =
    grind (arith, common_steps, reading_result c.picture_text.result c.args.look c.args.file.now c.args.bytes.now c.in-Picture.is c.picture_text.ensures.refused)

pub returns-in-Import-Text-clause-refused : goal.returns-in-Import-Text-clause-refused
returns-in-Import-Text-clause-refused c =
    import_result c.imported_file.result c.args.look _ c.args.file.now c.args.bytes.now c.in-Import-Text.is c.imported_file.ensures.refused
