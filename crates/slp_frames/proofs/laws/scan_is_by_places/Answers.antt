use Rattle.slp_frames.proofs.ByPlaces.{are_scanned, same_places}
use Rattle.slp_frames.proofs.laws.scan_is_by_places.Goals as goal

pub returns-clause-there : goal.returns-clause-there
returns-clause-there c = are_scanned

pub returns-clause-only : goal.returns-clause-only
returns-clause-only c bytes found others = same_places bytes 0 found others
