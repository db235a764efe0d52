use Rattle.std.proofs.Common.{◌∙◌, sym, ap}
use Rattle.std.specs.List.{count_by}
use Rattle.std.proofs.lemmas.List.{take_all}
use Rattle.dlp_args.specs.Messages.{MessageTextValue}
use Rattle.dlp_commands.specs.Changes.{changes}
use Rattle.call_parts.proofs.WriteLaws.{write_count-texts}
use Rattle.call_parts.proofs.reporting.count_writes.Goals as goal

pub returns : goal.returns
returns c =
    let whole = c.loop-text-test.false in
    c.loop-text.invariant.counted
    ∙ ap (λ l. count_by (λ (text : MessageTextValue). changes text.bytes) l) (take_all c.loop-text.text-index c.args.requests.now whole)
    ∙ sym (write_count-texts c.args.requests.now)
