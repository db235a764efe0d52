-- A database is opened, its categories are brought together, and it is closed.
use Rattle.std.proofs.Common.{[], ◌∷◌, refl, rules}
use Rattle.std.proofs.lemmas.Result.{err_from_is_err_and}
use Rattle.std.specs.Option.{option_copied}
use Rattle.session_parts.proofs.LinkWords.{opening, saying}
use Rattle.session_parts.proofs.HandleLaws.{opened_first}
use Rattle.session_parts.proofs.SpanLaws.{span_done, span_stopped, span_unclosed, span_unopened}
use Rattle.category_mirror.specs.FilingActs.{filed_under}
use Rattle.category_mirror.proofs.filing.file_one.Goals as goal

pub returns-in_err-opened : goal.returns-in_err-opened
returns-in_err-opened g c =
    let p = err_from_is_err_and c.from_residual.result c.from_residual.ensures.1 in
    let told = saying (opening c.args.name.now ∷ []) (g.L.Link.talk c.args.linked.now.link) in
    record {
      spans = rw (p.1, p.2) (span_unopened _ 0x17 (λ handle given. filed_under (option_copied c.args.rows_app) told handle) _
          refl refl c.in_err-opened.was c.open.follows.holds-at-none);
    }

pub returns-in-Err : goal.returns-in-Err
returns-in-Err g c =
    let opened = opened_first c.args.name.now c.in_ok-opened.ensures.asked c.in_ok-opened.ensures.handle in
    let told = saying (opening c.args.name.now ∷ []) (g.L.Link.talk c.args.linked.now.link) in
    record {
      spans = span_stopped g.met.L.Link.since_more (λ handle given. filed_under (option_copied c.args.rows_app) told handle) [] opened
          (rw opened.told at c.in-Err.ensures.asks) c.in-Err.ensures.cause (search rules);
    }

pub returns-in_err-close : goal.returns-in_err-close
returns-in_err-close g c =
    let p = err_from_is_err_and c.from_residual-in_err-close.result c.from_residual-in_err-close.ensures.1 in
    let opened = opened_first c.args.name.now c.in_ok-opened.ensures.asked c.in_ok-opened.ensures.handle in
    let told = saying (opening c.args.name.now ∷ []) (g.L.Link.talk c.args.linked.now.link) in
    record {
      spans = rw (p.1, p.2) (span_unclosed g.met.L.Link.since_more (λ handle given. filed_under (option_copied c.args.rows_app) told handle) [] opened
          (rw opened.told at c.in-Ok.ensures.asks) c.in-Ok.ensures.same_handle c.in_err-close.ensures.asked c.in_err-close.ensures.answer (search rules));
    }

pub returns : goal.returns
returns g c =
    let opened = opened_first c.args.name.now c.in_ok-opened.ensures.asked c.in_ok-opened.ensures.handle in
    let told = saying (opening c.args.name.now ∷ []) (g.L.Link.talk c.args.linked.now.link) in
    record {
      spans = span_done g.met.L.Link.since_more (λ handle given. filed_under (option_copied c.args.rows_app) told handle) [] opened
          (rw opened.told at c.in-Ok.ensures.asks) c.in-Ok.ensures.same_handle c.in_ok-close.ensures.asked c.in_ok-close.ensures.answer
          (rw opened.told at c.in-Ok.ensures.told) (search rules);
    }
