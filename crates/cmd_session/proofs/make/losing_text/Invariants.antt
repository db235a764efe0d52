use Rattle.std.proofs.Common.{◌≡◌, ◌+◌, ◌-◌, ◌*◌, ◌++◌}
use Rattle.std.specs.Prelude.{string_bytes}
use Rattle.cmd_session.specs.Makes.{losses, made_script, script_text}
use Rattle.cmd_session.proofs.make.losing_text.Given as goal

abbrev pub invariant-loop-place : goal.invariant-loop-place
invariant-loop-place l = string_bytes l.text ++ script_text (losses (20 * (l.place + 1)) (1000 - l.place)) ≡ script_text made_script
