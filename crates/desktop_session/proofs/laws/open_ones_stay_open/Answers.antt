use Rattle.desktop_session.proofs.OpenLaws.{closes_named, makes_named, open_stays, opens_named}
use Rattle.desktop_session.proofs.laws.open_ones_stay_open.Goals as goal

pub returns : goal.returns
returns c = record { opened = opens_named; made = makes_named; stays = open_stays; closes = closes_named }
