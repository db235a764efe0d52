-- The number of entries, and then the ids.
use Rattle.std.proofs.Common.{◌∷◌, [], map, refl}
use Rattle.std.proofs.lemmas.Result.{err_from_is_err_and}
use Rattle.desktop_session.specs.Acts.{text}
use Rattle.desktop_session.specs.Lists.{id_listings, id_parts}
use Rattle.desktop_session.specs.Requests.{counting}
use Rattle.desktop_session.proofs.StopLaws.{stops_more}
use Rattle.mirrors.specs.Reads.{entries_of}
use Rattle.mirrors.proofs.ListingLaws.{listing_done, listing_ids, listing_last, listing_stops}
use Rattle.desktop_session.specs.Answers.{count_of}
use Rattle.desktop_session.proofs.LastLaws.{last_refused}
use Rattle.mirrors.proofs.PartFollows.{then_ends, then_goes}
use Rattle.mirrors.proofs.reading.read_ids.Goals as goal

pub returns-in_err-count-clause-stops : goal.returns-in_err-count-clause-stops
returns-in_err-count-clause-stops g c =
    let handle = c.args.db.now.handle in
    stops_more g.L.Link.talk g.L.Link.since g.L.Link.fault g.L.Link.downs (map text (counting handle ∷ []))
    (map text (id_listings handle (id_parts (entries_of (g.L.Link.talk c.args.db.now.linked.now.link) handle)))) c.args.db.now.linked.now.link
    c.count.new.self.linked.now.link c.in_err-count.ensures.asked.stops

pub returns-clause-stops : goal.returns-clause-stops
returns-clause-stops g c =
    listing_stops g.met.L.Link.since_more
    c.in_ok-count.ensures.same_handle
    c.in_ok-count.ensures.answer c.in_ok-count.ensures.asked c.ids.ensures.stops

pub returns-clause-does : goal.returns-clause-does
returns-clause-does g c =
    listing_done
    c.ids.new.self.linked.now.link c.ids.result
    c.in_ok-count.ensures.same_handle c.in_ok-count.ensures.answer c.in_ok-count.ensures.asked c.ids.ensures.does

pub returns-clause-ids : goal.returns-clause-ids
returns-clause-ids g c =
    listing_ids
    (λ ids. ids.items) c.ids.result
    c.in_ok-count.ensures.same_handle c.in_ok-count.ensures.answer c.in_ok-count.ensures.asked c.ids.ensures.ids

pub returns-in_err-count-clause-last : goal.returns-in_err-count-clause-last
returns-in_err-count-clause-last g c =
    let p = err_from_is_err_and c.from_residual.result c.from_residual.ensures.1 in
    rw (p.1, p.2) (last_refused count_of _ refl c.in_err-count.ensures.asked c.in_err-count.ensures.answer)

pub returns-clause-last : goal.returns-clause-last
returns-clause-last g c =
    listing_last c.ids.new.self.linked.now.link c.ids.result c.in_ok-count.ensures.same_handle c.in_ok-count.ensures.answer c.in_ok-count.ensures.asked
    c.ids.ensures.last

pub returns-in_err-count-clause-follows : goal.returns-in_err-count-clause-follows
returns-in_err-count-clause-follows g c =
    let p = err_from_is_err_and c.from_residual.result c.from_residual.ensures.1 in
    rw (p.1, p.2) (then_ends g.met.L.Link.heard_none g.met.L.Link.heard_more _ c.in_err-count.ensures.follows)

pub returns-clause-follows : goal.returns-clause-follows
returns-clause-follows g c =
    then_goes g.met.L.Link.heard_none g.met.L.Link.heard_more _ c.in_ok-count.ensures.follows
    (rw c.in_ok-count.ensures.same_handle at c.ids.ensures.follows)
