use Rattle.line_steps.proofs.Names.{◌≡◌, ◌++◌, take, xored}
use Rattle.line_steps.proofs.harm.append_xored.Given as goal

-- the bytes so far
abbrev pub invariant-loop-place : goal.invariant-loop-place
invariant-loop-place l = l.out.items ≡ l.initial.out.items ++ xored l.mask (take l.place l.bytes)
