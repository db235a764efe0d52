use Rattle.std.proofs.Common.{◌≡◌, drop}
use Rattle.palm_records.specs.Choices.{first_bad}
use Rattle.content_lines.specs.Refusals.{fault_by}
use Rattle.content_lines.proofs.broken.refuse_first_bad.Given as goal

abbrev pub invariant-loop-index : goal.invariant-loop-index
invariant-loop-index g l =
    first_bad (fault_by g.F.Form.fault) l.privacy l.index (drop l.index l.records) ≡ first_bad (fault_by g.F.Form.fault) l.privacy 0 l.records
