use Rattle.std.proofs.Common.{◌≡◌, ◌++◌, take, map}
use Rattle.std.specs.Option.{option_copied}
use Rattle.conduit_rules.specs.News.{live_contents, archived_records, found_in}
use Rattle.conduit_rules.proofs.loose.collect_loose.Given as goal

abbrev pub invariant-loop-slot : goal.invariant-loop-slot
invariant-loop-slot l = record {
  offers : l.offers.items ≡ l.initial.offers.items ++ live_contents (found_in (map option_copied (take l.slot-index l.slots)));
  archive : l.archive.items ≡ l.initial.archive.items ++ map (λ c. (0, c)) (archived_records (found_in (map option_copied (take l.slot-index l.slots))));
}
