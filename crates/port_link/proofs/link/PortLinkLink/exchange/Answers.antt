use Rattle.std.proofs.Common.{◌<◌, ◌∙◌, List, ℕ, get_or, refl, subst, sym, ap, arith}
use Rattle.std.specs.Prelude.{Option, Some, None, Ok, Err}
use Rattle.std.specs.Option.{option_map}
use Rattle.dlp_commands.specs.Links.{MayExchange}
use Rattle.dlp_commands.specs.Talks.{HasAnswer, LacksAnswer}
use Rattle.port_link.specs.Causes.{link_fault}
use Rattle.port_link.specs.declared.port_cause.PortCause.{PortCause}
use Rattle.port_link.specs.Standing.{talk_of}
use Rattle.port_link.proofs.LinkLaws.{asks_told, begun_is}
use Rattle.dlp_commands.specs.Tries.{tries_of}
use Rattle.port_link.specs.Calls.{Heard, LinkValue}
use Rattle.port_link.specs.Courses.{scene}
use Rattle.port_link.specs.Logs.{log_entries}
use Rattle.port_link.proofs.CallLaws.{asks-by, heard-answered, heard-left, heard-since, heard-still}
use Rattle.port_link.proofs.MendedLaws.{bytes-of, heard-of}
use Rattle.port_link.specs.Calls.{AnswersExchange}
use Rattle.port_link.proofs.link.PortLinkLink.exchange.Goals as goal

pub returns-in-Some-clause-heard : goal.returns-in-Some-clause-heard
returns-in-Some-clause-heard g c =
    heard-still c.args.request.now _ c.in-Some.cause _ c.args.self.now c.args.self.now
    (sym (ap (λ (value : LinkValue). value.cause) c.self.view_is) ∙ c.in-Some.is) refl

pub returns-in-Ok-clause-heard : goal.returns-in-Ok-clause-heard
returns-in-Ok-clause-heard g c =
    let w = c.self.inside in
    let old : LinkValue = record {
      scene = scene (g.P.Port.given w.cable.port) (g.P.Port.taken w.cable.port) (g.P.Port.palm w.cable.port) w.reader.held w.cable.desk (log_entries w.cable.log.entries);
      paths = g.P.Port.paths w.cable.port;
      faults = g.P.Port.faults w.cable.port;
      id = w.id;
      begun = w.begun;
      cause = w.cause;
    } in
    let v = c.converse.new in
    let new : LinkValue = record {
      scene = scene (g.P.Port.given v.cable.port) (g.P.Port.taken v.cable.port) (g.P.Port.palm v.cable.port) v.reader.held v.cable.desk (log_entries v.cable.log.entries);
      paths = g.P.Port.paths v.cable.port;
      faults = g.P.Port.faults v.cable.port;
      id = c.id_of_next-self-inside.result;
      begun = w.begun;
      cause = w.cause;
    } in
    let may = subst (λ (value : LinkValue). MayExchange value.begun (option_map link_fault value.cause)) (sym c.self.view_is) c.requires in
    subst (λ (value : LinkValue). Heard value (tries_of (option_map link_fault value.cause) c.args.request.now c.mend.new.reply (Ok tt)) new) c.self.view_is
    (heard-answered c.args.request.now c.mend.new.reply old new c.in_default.is c.in_default.is (record {
      greeted = begun_is old.begun old.cause c.in_default.is may;
      short = c.converse.ensures.short;
      bytes = bytes-of c.bytes.ensures.bytes c.function_of-function.ensures.bytes;
      asks = asks-by c.args.request.now v.reply c.mend.new.reply old new None c.in_default.is c.id_of_next-self-inside.ensures refl c.converse.ensures.paths
          c.in-Ok.ensures.converses (λ fine. heard-of c.converse.new.reply c.mend.ensures c.function_of-function.ensures.function c.bytes.ensures.bytes) c.in-Ok.ensures.cause;
    }))

pub returns-in-Err-clause-heard : goal.returns-in-Err-clause-heard
returns-in-Err-clause-heard g c =
    let w = c.self.inside in
    let old : LinkValue = record {
      scene = scene (g.P.Port.given w.cable.port) (g.P.Port.taken w.cable.port) (g.P.Port.palm w.cable.port) w.reader.held w.cable.desk (log_entries w.cable.log.entries);
      paths = g.P.Port.paths w.cable.port;
      faults = g.P.Port.faults w.cable.port;
      id = w.id;
      begun = w.begun;
      cause = w.cause;
    } in
    let v = c.converse.new in
    let new : LinkValue = record {
      scene = scene (g.P.Port.given v.cable.port) (g.P.Port.taken v.cable.port) (g.P.Port.palm v.cable.port) v.reader.held v.cable.desk (log_entries v.cable.log.entries);
      paths = g.P.Port.paths v.cable.port;
      faults = g.P.Port.faults v.cable.port;
      id = c.id_of_next-self-inside.result;
      begun = w.begun;
      cause = Some c.in-Err.cause;
    } in
    let may = subst (λ (value : LinkValue). MayExchange value.begun (option_map link_fault value.cause)) (sym c.self.view_is) c.requires in
    subst (λ (value : LinkValue). Heard value (tries_of (option_map link_fault value.cause) c.args.request.now v.reply (Err c.fault_of-in-Err.result)) new)
    c.self.view_is
    (heard-left c.args.request.now v.reply c.in-Err.cause c.fault_of-in-Err.result old new c.in_default.is refl (record {
      greeted = begun_is old.begun old.cause c.in_default.is may;
      short = c.converse.ensures.short;
      bytes = bytes-of c.bytes.ensures.bytes c.function_of-function.ensures.bytes;
      asks = asks-by c.args.request.now v.reply v.reply old new (Some c.in-Err.cause) refl c.id_of_next-self-inside.ensures refl c.converse.ensures.paths
          c.in-Err.ensures.converses (λ fine. absurd cc) c.in-Err.ensures.cause;
    }))

pub returns-in-Ok-clause-since : goal.returns-in-Ok-clause-since
returns-in-Ok-clause-since g c = heard-since _ _ _ (returns-in-Ok-clause-heard g c)

pub returns-in-Err-clause-since : goal.returns-in-Err-clause-since
returns-in-Err-clause-since g c = heard-since _ _ _ (returns-in-Err-clause-heard g c)

pub returns-in-Ok-clause-answered : goal.returns-in-Ok-clause-answered
returns-in-Ok-clause-answered g c =
    let w = c.self.inside in
    let old : LinkValue = record {
      scene = scene (g.P.Port.given w.cable.port) (g.P.Port.taken w.cable.port) (g.P.Port.palm w.cable.port) w.reader.held w.cable.desk (log_entries w.cable.log.entries);
      paths = g.P.Port.paths w.cable.port;
      faults = g.P.Port.faults w.cable.port;
      id = w.id;
      begun = w.begun;
      cause = w.cause;
    } in
    let v = c.converse.new in
    let new : LinkValue = record {
      scene = scene (g.P.Port.given v.cable.port) (g.P.Port.taken v.cable.port) (g.P.Port.palm v.cable.port) v.reader.held v.cable.desk (log_entries v.cable.log.entries);
      paths = g.P.Port.paths v.cable.port;
      faults = g.P.Port.faults v.cable.port;
      id = c.id_of_next-self-inside.result;
      begun = w.begun;
      cause = w.cause;
    } in
    let may = subst (λ (value : LinkValue). MayExchange value.begun (option_map link_fault value.cause)) (sym c.self.view_is) c.requires in
    let asks = asks-by c.args.request.now v.reply c.mend.new.reply old new None c.in_default.is c.id_of_next-self-inside.ensures refl c.converse.ensures.paths
    c.in-Ok.ensures.converses (λ fine. heard-of c.converse.new.reply c.mend.ensures c.function_of-function.ensures.function c.bytes.ensures.bytes) c.in-Ok.ensures.cause in
    let told = asks_told c.args.request.now c.mend.new.reply old new c.converse.ensures.short (bytes-of c.bytes.ensures.bytes c.function_of-function.ensures.bytes) c.in_default.is (begun_is old.begun old.cause c.in_default.is may) c.self.invariant asks in
    subst (λ (value : LinkValue). HasAnswer (talk_of value) c.args.request.now c.mend.new.reply (talk_of new)) c.self.view_is (told.answered c.in_default.is)

pub returns-in-Err-clause-unanswered : goal.returns-in-Err-clause-unanswered
returns-in-Err-clause-unanswered g c =
    let w = c.self.inside in
    let old : LinkValue = record {
      scene = scene (g.P.Port.given w.cable.port) (g.P.Port.taken w.cable.port) (g.P.Port.palm w.cable.port) w.reader.held w.cable.desk (log_entries w.cable.log.entries);
      paths = g.P.Port.paths w.cable.port;
      faults = g.P.Port.faults w.cable.port;
      id = w.id;
      begun = w.begun;
      cause = w.cause;
    } in
    let v = c.converse.new in
    let new : LinkValue = record {
      scene = scene (g.P.Port.given v.cable.port) (g.P.Port.taken v.cable.port) (g.P.Port.palm v.cable.port) v.reader.held v.cable.desk (log_entries v.cable.log.entries);
      paths = g.P.Port.paths v.cable.port;
      faults = g.P.Port.faults v.cable.port;
      id = c.id_of_next-self-inside.result;
      begun = w.begun;
      cause = Some c.in-Err.cause;
    } in
    let may = subst (λ (value : LinkValue). MayExchange value.begun (option_map link_fault value.cause)) (sym c.self.view_is) c.requires in
    let asks = asks-by c.args.request.now v.reply v.reply old new (Some c.in-Err.cause) refl c.id_of_next-self-inside.ensures refl c.converse.ensures.paths
    c.in-Err.ensures.converses (λ fine. absurd cc) c.in-Err.ensures.cause in
    let told = asks_told c.args.request.now v.reply old new c.converse.ensures.short (bytes-of c.bytes.ensures.bytes c.function_of-function.ensures.bytes) c.in_default.is (begun_is old.begun old.cause c.in_default.is may) c.self.invariant asks in
    subst (λ (value : LinkValue). LacksAnswer (talk_of value) c.args.request.now (talk_of new)) c.self.view_is (told.unanswered (λ none. cc))

pub invariant_of-self : goal.invariant_of-self
invariant_of-self g c =
    let w = c.self.inside in
    let old : LinkValue = record {
      scene = scene (g.P.Port.given w.cable.port) (g.P.Port.taken w.cable.port) (g.P.Port.palm w.cable.port) w.reader.held w.cable.desk (log_entries w.cable.log.entries);
      paths = g.P.Port.paths w.cable.port;
      faults = g.P.Port.faults w.cable.port;
      id = w.id;
      begun = w.begun;
      cause = w.cause;
    } in
    let v = c.converse.new in
    let new : LinkValue = record {
      scene = scene (g.P.Port.given v.cable.port) (g.P.Port.taken v.cable.port) (g.P.Port.palm v.cable.port) v.reader.held v.cable.desk (log_entries v.cable.log.entries);
      paths = g.P.Port.paths v.cable.port;
      faults = g.P.Port.faults v.cable.port;
      id = c.id_of_next-self-inside.result;
      begun = w.begun;
      cause = w.cause;
    } in
    let may = subst (λ (value : LinkValue). MayExchange value.begun (option_map link_fault value.cause)) (sym c.self.view_is) c.requires in
    let asks = asks-by c.args.request.now v.reply c.mend.new.reply old new None c.in_default.is c.id_of_next-self-inside.ensures refl c.converse.ensures.paths
    c.in-Ok.ensures.converses (λ fine. heard-of c.converse.new.reply c.mend.ensures c.function_of-function.ensures.function c.bytes.ensures.bytes) c.in-Ok.ensures.cause in
    let told = asks_told c.args.request.now c.mend.new.reply old new c.converse.ensures.short (bytes-of c.bytes.ensures.bytes c.function_of-function.ensures.bytes) c.in_default.is (begun_is old.begun old.cause c.in_default.is may) c.self.invariant asks in
    told.stands

pub returns-in-Ok-clause-answers : goal.returns-in-Ok-clause-answers
returns-in-Ok-clause-answers g c =
    let w = c.self.inside in
    let old : LinkValue = record {
      scene = scene (g.P.Port.given w.cable.port) (g.P.Port.taken w.cable.port) (g.P.Port.palm w.cable.port) w.reader.held w.cable.desk (log_entries w.cable.log.entries);
      paths = g.P.Port.paths w.cable.port;
      faults = g.P.Port.faults w.cable.port;
      id = w.id;
      begun = w.begun;
      cause = w.cause;
    } in
    let v = c.converse.new in
    let new : LinkValue = record {
      scene = scene (g.P.Port.given v.cable.port) (g.P.Port.taken v.cable.port) (g.P.Port.palm v.cable.port) v.reader.held v.cable.desk (log_entries v.cable.log.entries);
      paths = g.P.Port.paths v.cable.port;
      faults = g.P.Port.faults v.cable.port;
      id = c.id_of_next-self-inside.result;
      begun = w.begun;
      cause = w.cause;
    } in
    subst (λ (value : LinkValue). AnswersExchange value.cause c.args.request.now c.mend.new.reply value new None) c.self.view_is
    (subst (λ (cause : Option PortCause). AnswersExchange cause c.args.request.now c.mend.new.reply old new None) (sym c.in_default.is) (
      asks-by c.args.request.now v.reply c.mend.new.reply old new None c.in_default.is c.id_of_next-self-inside.ensures refl c.converse.ensures.paths
          c.in-Ok.ensures.converses (λ fine. heard-of c.converse.new.reply c.mend.ensures c.function_of-function.ensures.function c.bytes.ensures.bytes) c.in-Ok.ensures.cause,
      ap (option_map link_fault) (sym c.in_default.is),
    ))

pub returns-in-Err-clause-answers : goal.returns-in-Err-clause-answers
returns-in-Err-clause-answers g c =
    let w = c.self.inside in
    let old : LinkValue = record {
      scene = scene (g.P.Port.given w.cable.port) (g.P.Port.taken w.cable.port) (g.P.Port.palm w.cable.port) w.reader.held w.cable.desk (log_entries w.cable.log.entries);
      paths = g.P.Port.paths w.cable.port;
      faults = g.P.Port.faults w.cable.port;
      id = w.id;
      begun = w.begun;
      cause = w.cause;
    } in
    let v = c.converse.new in
    let new : LinkValue = record {
      scene = scene (g.P.Port.given v.cable.port) (g.P.Port.taken v.cable.port) (g.P.Port.palm v.cable.port) v.reader.held v.cable.desk (log_entries v.cable.log.entries);
      paths = g.P.Port.paths v.cable.port;
      faults = g.P.Port.faults v.cable.port;
      id = c.id_of_next-self-inside.result;
      begun = w.begun;
      cause = Some c.in-Err.cause;
    } in
    subst (λ (value : LinkValue). AnswersExchange value.cause c.args.request.now v.reply value new (Some c.fault_of-in-Err.result)) c.self.view_is
    (subst (λ (cause : Option PortCause). AnswersExchange cause c.args.request.now v.reply old new (Some c.fault_of-in-Err.result)) (sym c.in_default.is) (
      asks-by c.args.request.now v.reply v.reply old new (Some c.in-Err.cause) refl c.id_of_next-self-inside.ensures refl c.converse.ensures.paths
          c.in-Err.ensures.converses (λ fine. absurd cc) c.in-Err.ensures.cause,
      ap Some c.fault_of-in-Err.ensures,
    ))
