use Rattle.std.proofs.Common.{◌≡◌, take}
use Rattle.std.specs.Prelude.{string_bytes}
use Rattle.std.specs.List.{flat_map}
use Rattle.cmd_status.specs.Commands.{command_row}
use Rattle.cmd_status.proofs.commands.command_rows.Given as goal

abbrev pub invariant-loop-command : goal.invariant-loop-command
invariant-loop-command l = string_bytes l.text ≡ flat_map command_row (take l.command-index l.commands)
