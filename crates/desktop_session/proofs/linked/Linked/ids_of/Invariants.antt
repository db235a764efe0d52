use Rattle.std.proofs.Common.{◌-◌, ◌<◌, length}
use Rattle.dlp_replies.specs.ReplyReading.{reply_at}
use Rattle.desktop_session.specs.Asking.{all_ids}
use Rattle.desktop_session.specs.Starts.{AreIdsUpTo}
use Rattle.desktop_session.proofs.IdsCameLaws.{IdsCame}
use Rattle.desktop_session.proofs.IdsFollow.{IdsOn}
use Rattle.desktop_session.proofs.linked.Linked.ids_of.Given as goal

abbrev pub invariant-part : goal.invariant-part
invariant-part g l =
    IdsCame g.L.Link.talk g.L.Link.since g.L.Link.fault g.L.Link.downs l.handle l.count l.ids.items l.initial.self l.self
    × (0 < length l.ids.items → AreIdsUpTo (reply_at 0x31 l.self.reply) l.ids.items)
    × IdsOn g.L.Link (all_ids l.handle l.count) l.handle l.count l.ids.items l.initial.self.link l.self.link

abbrev pub decreases-part : goal.decreases-part
decreases-part g l = l.count - length l.ids.items
