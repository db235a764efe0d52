use Rattle.std.proofs.Common.{◌≡◌, ◌+◌, ◌*◌, ◌≤◌, drop, length}
use Rattle.dlp_replies.specs.EntryLists.{entries_text}
use Rattle.dlp_replies.proofs.list_frame.entries_len.Given as goal

abbrev pub invariant-loop-place : goal.invariant-loop-place
invariant-loop-place l = record {
  near : l.len ≤ 76 * l.place;
  left : l.len + length (entries_text (drop l.place l.entries)) ≡ length (entries_text l.entries);
}
