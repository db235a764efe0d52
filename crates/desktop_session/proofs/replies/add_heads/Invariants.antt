use Rattle.std.proofs.Common.{◌≡◌, ◌++◌, ℕ, map, take}
use Rattle.pdb_values.specs.declared.head.DbHead.{DbHead}
use Rattle.desktop_session.proofs.replies.add_heads.Given as goal

abbrev pub invariant-loop-place : goal.invariant-loop-place
invariant-loop-place l = l.heads.items ≡ l.initial.heads.items ++ map (λ (entry : ℕ × DbHead). entry.1) (take l.place l.entries)
