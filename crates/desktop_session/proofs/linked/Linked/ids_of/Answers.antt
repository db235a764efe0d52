-- A list of ids grows by those that come.
use Rattle.std.proofs.Common.{◌≡◌, ◌∙◌, ◌≤◌, ◌<◌, ◌%◌, ap, subst, sym, true, false, length, arith, rules}
use Rattle.std.proofs.lemmas.Bool.Decides.{nat_tests}
use Rattle.std.proofs.lemmas.Grind.{common_steps}
use Rattle.std.proofs.lemmas.List.{length-append}
use Rattle.std.specs.Prelude.{◌⊎◌}
use Rattle.std.proofs.lemmas.Result.{err_from_is_err_and}
use Rattle.dlp_replies.specs.ReplyReading.{reply_at}
use Rattle.desktop_session.specs.Asking.{repeats}
use Rattle.desktop_session.specs.Starts.{AreNewFrom}
use Rattle.desktop_session.proofs.IdsCameLaws.{came_all_does, came_all_stops, came_more, came_none, asked_at, came_replied, came_stops, none_read, parted_untold, short_untold, tells_on}
use Rattle.desktop_session.proofs.IdsFollow.{ids_all, ids_bad, ids_begin, ids_next, ids_stop, page_new, page_none, page_twice}
use Rattle.desktop_session.proofs.linked.Linked.ids_of.Goals as goal

pub part-init : goal.part-init
part-init g c = (
  came_none g.met.L.Link.since_itself c.new-ids.ensures.items,
  λ some. absurd (omega (arith, ap length c.new-ids.ensures.items, some)),
  ids_begin g.met.L.Link.heard_none c.args.handle c.args.count c.new-ids.ensures.items,
)

pub part-preserved : goal.part-preserved
part-preserved g c =
    let less : length c.part.ids.items < c.args.count = omega arith in
    let start : c.len-before.result ≡ length c.part.ids.items = search rules in
    let more : length c.part.ids.items < length c.ids_from.new.ids.items = grind (arith, common_steps, nat_tests, length-append) in (
      came_more g.met.L.Link.since_more c.part.invariant.0 less (asked_at c.part.ids.items start c.in_ok-ids_from.ensures.asked) c.in_ok-ids_from.ensures.none
          c.in_ok-ids_from.ensures.read c.in_ok-ids_from.ensures.ids,
      λ some. record {
        before = c.part.ids.items;
        is = c.in_ok-ids_from.ensures.ids;
        new = subst (λ n. (n % 8000 ≡ 0) ⊎ AreNewFrom n c.ids_from.new.ids.items) start
            (subst (λ ids. (c.len-before.result % 8000 ≡ 0) ⊎ AreNewFrom c.len-before.result ids) c.deref.ensures.value
            (c.repeats.ensures.none c.if-repeats.false));
      },
      ids_next g.met.L.Link.heard_more less c.part.invariant.2 more
          (page_new (length c.part.ids.items) c.ids_from.new.ids.items more (subst (λ n. false ≡ repeats n c.ids_from.new.ids.items) start
          (subst (λ ids. false ≡ repeats c.len-before.result ids) c.deref.ensures.value (sym c.if-repeats.false ∙ c.repeats.ensures.value))))
          (rw start at c.in_ok-ids_from.ensures.follows),
    )

pub returns-in_err-ids_from-clause-stops : goal.returns-in_err-ids_from-clause-stops
returns-in_err-ids_from-clause-stops g c =
    let less : length c.part.ids.items < c.args.count = omega arith in
    let start : c.len-before.result ≡ length c.part.ids.items = search rules in
    came_stops g.met.L.Link.since_more c.part.invariant.0 less (asked_at c.part.ids.items start c.in_err-ids_from.ensures.asked)

pub returns-in_err-ids_from-clause-replied : goal.returns-in_err-ids_from-clause-replied
returns-in_err-ids_from-clause-replied g c =
    let p = err_from_is_err_and c.from_residual.result c.from_residual.ensures.1 in
    let less : length c.part.ids.items < c.args.count = omega arith in
    let start : c.len-before.result ≡ length c.part.ids.items = search rules in
    rw p.1 (came_replied c.part.invariant.0 less (asked_at c.part.ids.items start c.in_err-ids_from.ensures.asked))

pub returns-then-len-before-clause-stops : goal.returns-then-len-before-clause-stops
returns-then-len-before-clause-stops g c =
    let less : length c.part.ids.items < c.args.count = omega arith in
    let start : c.len-before.result ≡ length c.part.ids.items = search rules in
    let asked = asked_at c.part.ids.items start c.in_ok-ids_from.ensures.asked in
    let link : c.forget_reply.new.self.link ≡ c.ids_from.new.self.link = ap (λ v. v.link) c.forget_reply.ensures in
    rw link (came_stops g.met.L.Link.since_more c.part.invariant.0 less asked)

pub returns-then-len-before-clause-cause : goal.returns-then-len-before-clause-cause
returns-then-len-before-clause-cause g c = (
  ap (λ v. g.L.Link.fault v.link) c.forget_reply.ensures ∙ c.in_ok-ids_from.ensures.none,
  ap (λ v. reply_at 0x31 v.reply) c.forget_reply.ensures ∙ none_read 0x31,
)

pub returns-then-len-before-clause-last : goal.returns-then-len-before-clause-last
returns-then-len-before-clause-last g c = λ counted.
    let less : length c.part.ids.items < c.args.count = omega arith in
    let start : c.len-before.result ≡ length c.part.ids.items = search rules in
    let asked = asked_at c.part.ids.items start c.in_ok-ids_from.ensures.asked in
    let link : c.forget_reply.new.self.link ≡ c.ids_from.new.self.link = ap (λ v. v.link) c.forget_reply.ensures in
    let same : length c.ids_from.new.ids.items ≡ length c.part.ids.items = search rules in
    let untold = short_untold c.part.invariant.0 less asked c.in_ok-ids_from.ensures.none c.in_ok-ids_from.ensures.read c.in_ok-ids_from.ensures.ids same
    counted in
    let came = came_more g.met.L.Link.since_more c.part.invariant.0 less asked c.in_ok-ids_from.ensures.none c.in_ok-ids_from.ensures.read
    c.in_ok-ids_from.ensures.ids in
    rw (link, tells_on came untold) tt

pub returns-then-len-before-clause-replied : goal.returns-then-len-before-clause-replied
returns-then-len-before-clause-replied g c = λ counted none.
    let less : length c.part.ids.items < c.args.count = omega arith in
    let start : c.len-before.result ≡ length c.part.ids.items = search rules in
    let asked = asked_at c.part.ids.items start c.in_ok-ids_from.ensures.asked in
    let link : c.forget_reply.new.self.link ≡ c.ids_from.new.self.link = ap (λ v. v.link) c.forget_reply.ensures in
    let same : length c.ids_from.new.ids.items ≡ length c.part.ids.items = search rules in
    let untold = short_untold c.part.invariant.0 less asked c.in_ok-ids_from.ensures.none c.in_ok-ids_from.ensures.read c.in_ok-ids_from.ensures.ids same
    counted in
    rw untold tt

pub returns-then-repeats-clause-stops : goal.returns-then-repeats-clause-stops
returns-then-repeats-clause-stops g c =
    let less : length c.part.ids.items < c.args.count = omega arith in
    let start : c.len-before.result ≡ length c.part.ids.items = search rules in
    let asked = asked_at c.part.ids.items start c.in_ok-ids_from.ensures.asked in
    let link : c.forget_reply-then-repeats.new.self.link ≡ c.ids_from.new.self.link = ap (λ v. v.link) c.forget_reply-then-repeats.ensures in
    rw link (came_stops g.met.L.Link.since_more c.part.invariant.0 less asked)

pub returns-then-repeats-clause-cause : goal.returns-then-repeats-clause-cause
returns-then-repeats-clause-cause g c = (
  ap (λ v. g.L.Link.fault v.link) c.forget_reply-then-repeats.ensures ∙ c.in_ok-ids_from.ensures.none,
  ap (λ v. reply_at 0x31 v.reply) c.forget_reply-then-repeats.ensures ∙ none_read 0x31,
)

pub returns-then-repeats-clause-last : goal.returns-then-repeats-clause-last
returns-then-repeats-clause-last g c = λ counted.
    let less : length c.part.ids.items < c.args.count = omega arith in
    let start : c.len-before.result ≡ length c.part.ids.items = search rules in
    let asked = asked_at c.part.ids.items start c.in_ok-ids_from.ensures.asked in
    let link : c.forget_reply-then-repeats.new.self.link ≡ c.ids_from.new.self.link = ap (λ v. v.link) c.forget_reply-then-repeats.ensures in
    let untold = parted_untold c.part.invariant.0 less (λ even. c.repeats.ensures.parted c.if-repeats.true (ap (λ n. n % 8000) start ∙ even)) counted in
    let came = came_more g.met.L.Link.since_more c.part.invariant.0 less asked c.in_ok-ids_from.ensures.none c.in_ok-ids_from.ensures.read
    c.in_ok-ids_from.ensures.ids in
    rw (link, tells_on came untold) tt

pub returns-then-repeats-clause-replied : goal.returns-then-repeats-clause-replied
returns-then-repeats-clause-replied g c = λ counted none.
    let less : length c.part.ids.items < c.args.count = omega arith in
    let start : c.len-before.result ≡ length c.part.ids.items = search rules in
    let asked = asked_at c.part.ids.items start c.in_ok-ids_from.ensures.asked in
    let link : c.forget_reply-then-repeats.new.self.link ≡ c.ids_from.new.self.link = ap (λ v. v.link) c.forget_reply-then-repeats.ensures in
    let untold = parted_untold c.part.invariant.0 less (λ even. c.repeats.ensures.parted c.if-repeats.true (ap (λ n. n % 8000) start ∙ even)) counted in
    rw untold tt

pub returns-clause-stops : goal.returns-clause-stops
returns-clause-stops g c =
    let all : c.args.count ≤ length c.part.ids.items = omega arith in
    came_all_stops c.part.invariant.0 all

pub returns-clause-does : goal.returns-clause-does
returns-clause-does g c =
    let all : c.args.count ≤ length c.part.ids.items = omega arith in
    came_all_does c.part.invariant.0 all

pub returns-in_err-ids_from-clause-follows : goal.returns-in_err-ids_from-clause-follows
returns-in_err-ids_from-clause-follows g c =
    let p = err_from_is_err_and c.from_residual.result c.from_residual.ensures.1 in
    let less : length c.part.ids.items < c.args.count = omega arith in
    let start : c.len-before.result ≡ length c.part.ids.items = search rules in
    rw (p.1, p.2) (ids_stop g.met.L.Link.heard_more less c.part.invariant.2 (rw start at c.in_err-ids_from.ensures.follows))

pub returns-then-len-before-clause-follows : goal.returns-then-len-before-clause-follows
returns-then-len-before-clause-follows g c =
    let less : length c.part.ids.items < c.args.count = omega arith in
    let start : c.len-before.result ≡ length c.part.ids.items = search rules in
    let link : c.forget_reply.new.self.link ≡ c.ids_from.new.self.link = ap (λ v. v.link) c.forget_reply.ensures in
    let same : length c.ids_from.new.ids.items ≡ length c.part.ids.items = search rules in
    rw link (ids_bad g.met.L.Link.heard_more less c.part.invariant.2
    (page_none (length c.part.ids.items) c.ids_from.new.ids.items (omega (arith, same))) (rw start at c.in_ok-ids_from.ensures.follows))

pub returns-then-repeats-clause-follows : goal.returns-then-repeats-clause-follows
returns-then-repeats-clause-follows g c =
    let less : length c.part.ids.items < c.args.count = omega arith in
    let start : c.len-before.result ≡ length c.part.ids.items = search rules in
    let link : c.forget_reply-then-repeats.new.self.link ≡ c.ids_from.new.self.link = ap (λ v. v.link) c.forget_reply-then-repeats.ensures in
    rw link (ids_bad g.met.L.Link.heard_more less c.part.invariant.2
    (page_twice (length c.part.ids.items) c.ids_from.new.ids.items (subst (λ n. true ≡ repeats n c.ids_from.new.ids.items) start
    (subst (λ ids. true ≡ repeats c.len-before.result ids) c.deref.ensures.value (sym c.if-repeats.true ∙ c.repeats.ensures.value))))
    (rw start at c.in_ok-ids_from.ensures.follows))

pub returns-clause-follows : goal.returns-clause-follows
returns-clause-follows g c =
    let all : c.args.count ≤ length c.part.ids.items = omega arith in
    ids_all c.part.invariant.2 all
