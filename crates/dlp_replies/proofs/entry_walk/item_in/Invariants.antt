use Rattle.std.proofs.Common.{◌≡◌, ◌-◌, slice_get}
use Rattle.dlp_replies.specs.Lent.{items_in}
use Rattle.dlp_replies.proofs.entry_walk.item_in.Given as goal

abbrev pub invariant-loop : goal.invariant-loop
invariant-loop l = slice_get (items_in l.count l.bytes) l.place ≡ slice_get (items_in (l.count - l.counter) l.rest) (l.place - l.counter)
