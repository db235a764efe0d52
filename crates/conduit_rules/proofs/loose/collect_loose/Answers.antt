use Rattle.std.proofs.Common.{◌++◌, arith, append-nil, map}
use Rattle.std.proofs.lemmas.Grind.{common_steps}
use Rattle.conduit_rules.specs.News.{live_contents, archived_records}
use Rattle.conduit_rules.proofs.SlotLaws.{live-more, archived-more, found_upto}
use Rattle.conduit_rules.proofs.loose.collect_loose.Goals as goal
use Rattle.conduit_rules.proofs.loose.collect_loose.Goals.{in-Some+in_ok-push_content+in_ok-push_row, in_default}

pub loop-slot-preserved : goal.loop-slot-preserved
loop-slot-preserved c =
    let offers = c.loop-slot.invariant.offers in
    let archive = c.loop-slot.invariant.archive in
    elim c.match-slot.branch [
      | in-Some+in_ok-push_content+in_ok-push_row w ↦ record {
        offers = live-more c.args.slots.now c.loop-slot.slot-index c.slot-item.result c.args.offers.now.items c.match-slot.offers.items c.loop-slot-test.true
            c.slot-item.is
            (grind (arith, common_steps, w.offers-is, w.in_ok-push_content.ensures, w.live.ensures, w.of_record-holding.ensures, w.in-Some.is));
        archive = archived-more c.args.slots.now c.loop-slot.slot-index c.slot-item.result c.args.archive.now.items c.match-slot.archive.items
            c.loop-slot-test.true c.slot-item.is
            (grind (
              arith,
              common_steps,
              w.archive-is,
              w.in_ok-push_row.ensures,
              w.archived.ensures,
              w.of_record-holding.ensures,
              w.no_id.ensures,
              w.in-Some.is,
            ));
      }
      | in_default w ↦ record {
        offers = live-more c.args.slots.now c.loop-slot.slot-index c.slot-item.result c.args.offers.now.items c.match-slot.offers.items c.loop-slot-test.true
            c.slot-item.is
            (grind (
              arith,
              common_steps,
              w.offers-is,
              w.in_default.is,
              append-nil (c.args.offers.now.items ++ live_contents (found_upto c.loop-slot.slot-index c.args.slots.now)),
            ));
        archive = archived-more c.args.slots.now c.loop-slot.slot-index c.slot-item.result c.args.archive.now.items c.match-slot.archive.items
            c.loop-slot-test.true c.slot-item.is
            (grind (
              arith,
              common_steps,
              w.archive-is,
              w.in_default.is,
              append-nil (c.args.archive.now.items ++ map (λ x. (0, x)) (archived_records (found_upto c.loop-slot.slot-index c.args.slots.now))),
            ));
      }
    ]
