use Rattle.std.proofs.Common.{◌≡◌, refl, subst, sym, true, false}
use Rattle.port_link.specs.Standing.{talk_of}
use Rattle.port_link.proofs.LinkLaws.{hello_told}
use Rattle.std.specs.Prelude.{[], Some, None, Ok, Err}
use Rattle.port_link.specs.Calls.{Heard, LinkValue}
use Rattle.port_link.specs.Courses.{scene}
use Rattle.port_link.specs.Logs.{log_entries}
use Rattle.port_link.proofs.CallLaws.{heard-hello, heard-since, hello-by}
use Rattle.port_link.specs.SinceLaws.{heard_none}
use Rattle.port_link.proofs.link.PortLinkLink.hello.Goals as goal

pub returns-in-Some-clause-heard : goal.returns-in-Some-clause-heard
returns-in-Some-clause-heard g c = heard_none c.args.self.now

pub returns-in-Ok-clause-heard : goal.returns-in-Ok-clause-heard
returns-in-Ok-clause-heard g c =
    let w = c.self.inside in
    let old : LinkValue = record {
      scene = scene (g.P.Port.given w.cable.port) (g.P.Port.taken w.cable.port) (g.P.Port.palm w.cable.port) w.reader.held w.cable.desk (log_entries w.cable.log.entries);
      paths = g.P.Port.paths w.cable.port;
      faults = g.P.Port.faults w.cable.port;
      id = w.id;
      begun = w.begun;
      cause = w.cause;
    } in
    let v = c.greet.new in
    let new : LinkValue = record {
      scene = scene (g.P.Port.given v.cable.port) (g.P.Port.taken v.cable.port) (g.P.Port.palm v.cable.port) v.reader.held v.cable.desk (log_entries v.cable.log.entries);
      paths = g.P.Port.paths v.cable.port;
      faults = g.P.Port.faults v.cable.port;
      id = w.id;
      begun = true;
      cause = w.cause;
    } in
    subst (λ (value : LinkValue). Heard value [] new) c.self.view_is
    (heard-hello old new c.in_default.is (record {
      first = subst (λ (value : LinkValue). value.begun ≡ false) (sym c.self.view_is) c.requires;
      answer = Ok c.in-Ok.rate;
      says = hello-by (Ok c.in-Ok.rate) old new c.in_default.is (λ none. refl) (λ not. absurd (not c.in_default.is)) refl c.greet.ensures.paths
          c.in-Ok.ensures.greets c.in-Ok.ensures.cause;
    }))

pub returns-in-Err-clause-heard : goal.returns-in-Err-clause-heard
returns-in-Err-clause-heard g c =
    let w = c.self.inside in
    let old : LinkValue = record {
      scene = scene (g.P.Port.given w.cable.port) (g.P.Port.taken w.cable.port) (g.P.Port.palm w.cable.port) w.reader.held w.cable.desk (log_entries w.cable.log.entries);
      paths = g.P.Port.paths w.cable.port;
      faults = g.P.Port.faults w.cable.port;
      id = w.id;
      begun = w.begun;
      cause = w.cause;
    } in
    let v = c.greet.new in
    let new : LinkValue = record {
      scene = scene (g.P.Port.given v.cable.port) (g.P.Port.taken v.cable.port) (g.P.Port.palm v.cable.port) v.reader.held v.cable.desk (log_entries v.cable.log.entries);
      paths = g.P.Port.paths v.cable.port;
      faults = g.P.Port.faults v.cable.port;
      id = w.id;
      begun = w.begun;
      cause = Some c.in-Err.cause;
    } in
    subst (λ (value : LinkValue). Heard value [] new) c.self.view_is
    (heard-hello old new c.in_default.is (record {
      first = subst (λ (value : LinkValue). value.begun ≡ false) (sym c.self.view_is) c.requires;
      answer = Err c.in-Err.cause;
      says = hello-by (Err c.in-Err.cause) old new refl (λ none. cc) (λ not. refl) refl c.greet.ensures.paths
          c.in-Err.ensures.greets c.in-Err.ensures.cause;
    }))

pub returns-in-Ok-clause-since : goal.returns-in-Ok-clause-since
returns-in-Ok-clause-since g c = heard-since _ _ _ (returns-in-Ok-clause-heard g c)

pub returns-in-Err-clause-since : goal.returns-in-Err-clause-since
returns-in-Err-clause-since g c = heard-since _ _ _ (returns-in-Err-clause-heard g c)

pub returns-in-Ok-clause-talk : goal.returns-in-Ok-clause-talk
returns-in-Ok-clause-talk g c =
    let w = c.self.inside in
    let old : LinkValue = record {
      scene = scene (g.P.Port.given w.cable.port) (g.P.Port.taken w.cable.port) (g.P.Port.palm w.cable.port) w.reader.held w.cable.desk (log_entries w.cable.log.entries);
      paths = g.P.Port.paths w.cable.port;
      faults = g.P.Port.faults w.cable.port;
      id = w.id;
      begun = w.begun;
      cause = w.cause;
    } in
    let v = c.greet.new in
    let new : LinkValue = record {
      scene = scene (g.P.Port.given v.cable.port) (g.P.Port.taken v.cable.port) (g.P.Port.palm v.cable.port) v.reader.held v.cable.desk (log_entries v.cable.log.entries);
      paths = g.P.Port.paths v.cable.port;
      faults = g.P.Port.faults v.cable.port;
      id = w.id;
      begun = true;
      cause = w.cause;
    } in
    let fresh = subst (λ (value : LinkValue). value.begun ≡ false) (sym c.self.view_is) c.requires in
    let says = hello-by (Ok c.in-Ok.rate) old new c.in_default.is (λ none. refl) (λ not. absurd (not c.in_default.is)) refl c.greet.ensures.paths c.in-Ok.ensures.greets c.in-Ok.ensures.cause in
    subst (λ (value : LinkValue). talk_of new ≡ talk_of value) c.self.view_is
    (hello_told (Ok c.in-Ok.rate) old new c.in_default.is fresh c.self.invariant says).talk

pub returns-in-Err-clause-talk : goal.returns-in-Err-clause-talk
returns-in-Err-clause-talk g c =
    let w = c.self.inside in
    let old : LinkValue = record {
      scene = scene (g.P.Port.given w.cable.port) (g.P.Port.taken w.cable.port) (g.P.Port.palm w.cable.port) w.reader.held w.cable.desk (log_entries w.cable.log.entries);
      paths = g.P.Port.paths w.cable.port;
      faults = g.P.Port.faults w.cable.port;
      id = w.id;
      begun = w.begun;
      cause = w.cause;
    } in
    let v = c.greet.new in
    let new : LinkValue = record {
      scene = scene (g.P.Port.given v.cable.port) (g.P.Port.taken v.cable.port) (g.P.Port.palm v.cable.port) v.reader.held v.cable.desk (log_entries v.cable.log.entries);
      paths = g.P.Port.paths v.cable.port;
      faults = g.P.Port.faults v.cable.port;
      id = w.id;
      begun = w.begun;
      cause = Some c.in-Err.cause;
    } in
    let fresh = subst (λ (value : LinkValue). value.begun ≡ false) (sym c.self.view_is) c.requires in
    let says = hello-by (Err c.in-Err.cause) old new refl (λ none. cc) (λ not. refl) refl c.greet.ensures.paths c.in-Err.ensures.greets c.in-Err.ensures.cause in
    subst (λ (value : LinkValue). talk_of new ≡ talk_of value) c.self.view_is
    (hello_told (Err c.in-Err.cause) old new c.in_default.is fresh c.self.invariant says).talk

pub invariant_of-self : goal.invariant_of-self
invariant_of-self g c =
    let w = c.self.inside in
    let old : LinkValue = record {
      scene = scene (g.P.Port.given w.cable.port) (g.P.Port.taken w.cable.port) (g.P.Port.palm w.cable.port) w.reader.held w.cable.desk (log_entries w.cable.log.entries);
      paths = g.P.Port.paths w.cable.port;
      faults = g.P.Port.faults w.cable.port;
      id = w.id;
      begun = w.begun;
      cause = w.cause;
    } in
    let v = c.greet.new in
    let new : LinkValue = record {
      scene = scene (g.P.Port.given v.cable.port) (g.P.Port.taken v.cable.port) (g.P.Port.palm v.cable.port) v.reader.held v.cable.desk (log_entries v.cable.log.entries);
      paths = g.P.Port.paths v.cable.port;
      faults = g.P.Port.faults v.cable.port;
      id = w.id;
      begun = true;
      cause = w.cause;
    } in
    let fresh = subst (λ (value : LinkValue). value.begun ≡ false) (sym c.self.view_is) c.requires in
    let says = hello-by (Ok c.in-Ok.rate) old new c.in_default.is (λ none. refl) (λ not. absurd (not c.in_default.is)) refl c.greet.ensures.paths c.in-Ok.ensures.greets c.in-Ok.ensures.cause in
    (hello_told (Ok c.in-Ok.rate) old new c.in_default.is fresh c.self.invariant says).stands
