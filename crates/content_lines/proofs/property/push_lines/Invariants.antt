use Rattle.std.proofs.Common.{◌≡◌, ◌++◌, string_bytes, take}
use Rattle.content_lines.specs.Properties.{properties_text}
use Rattle.content_lines.proofs.property.push_lines.Given as goal

abbrev pub invariant-loop-property : goal.invariant-loop-property
invariant-loop-property l = string_bytes l.text ≡ string_bytes l.initial.text ++ properties_text (take l.property-index l.list)
