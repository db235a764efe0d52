use Rattle.std.proofs.Common.{◌≡◌, drop}
use Rattle.hotsync_c.specs.Building.{is_cut}
use Rattle.hotsync_c.proofs.fit.is_cut.Given as goal

abbrev pub invariant-loop-entry : goal.invariant-loop-entry
invariant-loop-entry l = is_cut (drop l.entry-index l.entries) l.rest ≡ is_cut l.entries l.packed
