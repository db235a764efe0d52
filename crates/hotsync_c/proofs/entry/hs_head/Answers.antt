use Rattle.std.proofs.Common.{inr, refl, rules}
use Rattle.hotsync_c.specs.declared.refusal.Refusal.TheVariants.{Memory}
use Rattle.hotsync_c.proofs.entry.hs_head.Goals as goal

pub returns : goal.returns
returns c = inr (Memory, (tt, refl), search rules, refl)
