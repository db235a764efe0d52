use Rattle.std.proofs.Common.{◌≡◌, take}
use Rattle.std.specs.Prelude.{string_bytes}
use Rattle.std.specs.List.{flat_map}
use Rattle.hotsync_looks.specs.HelpTexts.{option_line}
use Rattle.hotsync_looks.proofs.help_text.options_text.Given as goal

abbrev pub invariant-loop-option : goal.invariant-loop-option
invariant-loop-option l = string_bytes l.text ≡ flat_map option_line (take l.option-index l.options)
