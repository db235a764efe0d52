use Rattle.line_world.proofs.Names.{◌≡◌, ◌≤◌, length, map, Some, refl, subst, sym, arith, inl, inr, length-map, MayExchange, HasAnswer, LacksAnswer, downs_of}
use Rattle.line_world.proofs.Names.{frame_value, IsCauseOf, NamesLast, Served, log_value, since_itself, IsWorld, WorldSince, WorldValue, world_talk}
use Rattle.line_world.proofs.TalkLaws.{talk-answered, talk-broke}
use Rattle.line_world.proofs.WentLaws.{since-went}
use Rattle.line_world.proofs.WorldLaws.{begun-of, tells-of, world-answered, world-broke}
use Rattle.std.proofs.Common.{◌∙◌, ap}
use Rattle.dlp_commands.specs.TryLaws.{goes_answered, goes_unanswered}
use Rattle.line_world.proofs.link.WorldLink.exchange.Goals as goal

pub returns-in-Some-clause-since : goal.returns-in-Some-clause-since
returns-in-Some-clause-since g c = since_itself g.F.Folder.contents g.F.Folder.moments g.F.Folder.paths g.F.Folder.faults c.args.self.now

pub invariant_of-self : goal.invariant_of-self
invariant_of-self g c =
    let w = c.self.inside in
    let later = c.converse.new.log in
    let may = subst (λ v. MayExchange v.begun v.fault) (sym c.self.view_is) c.requires in
    let first = begun-of w.fault c.in_default.is may in
    let running = c.self.invariant.running c.in_default.is in
    let count : c.len-self-inside.result ≡ length (log_value later).replies =
    omega (arith, c.len-self-inside.ensures, length-map later.replies.items (λ t. t.bytes)) in
    world-answered
    c.self.invariant c.in_default.is first (c.converse.ensures.recorded c.self.invariant.recorded) (c.converse.ensures.counted c.self.invariant.counted)
    c.in-Ok.ensures.answers (c.in-Ok.ensures.tells (tells-of w.begun w.line (log_value w.log) w.answered first running.at_rest)) count

pub invariant_of-self-in-Err : goal.invariant_of-self-in-Err
invariant_of-self-in-Err g c =
    let w = c.self.inside in
    let later = c.converse.new.log in
    let may = subst (λ v. MayExchange v.begun v.fault) (sym c.self.view_is) c.requires in
    let first = begun-of w.fault c.in_default.is may in
    let running = c.self.invariant.running c.in_default.is in
    subst (λ f. IsWorld c.converse.new.line w.script (log_value later) c.converse.new.server.sound w.answered w.begun (Some f)
    c.cause_of-cause.result) (sym c.fault_of-fault.ensures)
    (world-broke
    c.self.invariant c.in_default.is first (c.converse.ensures.recorded c.self.invariant.recorded) (c.converse.ensures.counted c.self.invariant.counted)
    (c.in-Err.ensures.ends (tells-of w.begun w.line (log_value w.log) w.answered first running.at_rest))
    c.cause_of-cause.ensures.is
    c.cause_of-cause.ensures.keeper
    c.cause_of-cause.ensures.names c.in-Err.ensures.breaks
    (c.in-Err.ensures.heard (tells-of w.begun w.line (log_value w.log) w.answered first running.at_rest)) c.in-Err.ensures.unsent)

pub returns-in-Ok-clause-answered : goal.returns-in-Ok-clause-answered
returns-in-Ok-clause-answered g c =
    let w = c.self.inside in
    let later = c.converse.new.log in
    let old : WorldValue g.row.F.Denot = record {
      server = w.server;
      script = w.script;
      log = log_value w.log;
      answered = w.answered;
      frames = map frame_value w.line.wire.frames.items;
      begun = w.begun;
      fault = w.fault;
      cause = w.cause;
    } in
    let new : WorldValue g.row.F.Denot = record {
      server = c.converse.new.server;
      script = w.script;
      log = log_value later;
      answered = c.len-self-inside.result;
      frames = map frame_value c.converse.new.line.wire.frames.items;
      begun = w.begun;
      fault = w.fault;
      cause = w.cause;
    } in
    let count : c.len-self-inside.result ≡ length (log_value later).replies =
    omega (arith, c.len-self-inside.ensures, length-map later.replies.items (λ t. t.bytes)) in
    subst (λ v. HasAnswer (Some (world_talk v)) c.args.request.now c.converse.new.reply (Some (world_talk new))) c.self.view_is
    (talk-answered old new c.self.invariant.is_log (c.self.invariant.running c.in_default.is).all count c.in-Ok.ensures.answers.performs)

pub returns-in-Ok-clause-since : goal.returns-in-Ok-clause-since
returns-in-Ok-clause-since g c =
    let w = c.self.inside in
    let later = c.converse.new.log in
    let performs = c.in-Ok.ensures.answers.performs in
    let old : WorldValue g.row.F.Denot = record {
      server = w.server;
      script = w.script;
      log = log_value w.log;
      answered = w.answered;
      frames = map frame_value w.line.wire.frames.items;
      begun = w.begun;
      fault = w.fault;
      cause = w.cause;
    } in
    let new : WorldValue g.row.F.Denot = record {
      server = c.converse.new.server;
      script = w.script;
      log = log_value later;
      answered = c.len-self-inside.result;
      frames = map frame_value c.converse.new.line.wire.frames.items;
      begun = w.begun;
      fault = w.fault;
      cause = w.cause;
    } in
    subst (λ v. WorldSince g.F.Folder.contents g.F.Folder.moments g.F.Folder.paths g.F.Folder.faults v new) c.self.view_is
    (since-went (Served c.converse.new.reply) c.args.request.now refl (λ is. inl is) (performs.since, performs.log_is))

pub returns-in-Err-clause-unanswered : goal.returns-in-Err-clause-unanswered
returns-in-Err-clause-unanswered g c =
    let w = c.self.inside in
    let later = c.converse.new.log in
    let breaks = c.in-Err.ensures.breaks in
    let old : WorldValue g.row.F.Denot = record {
      server = w.server;
      script = w.script;
      log = log_value w.log;
      answered = w.answered;
      frames = map frame_value w.line.wire.frames.items;
      begun = w.begun;
      fault = w.fault;
      cause = w.cause;
    } in
    let new : WorldValue g.row.F.Denot = record {
      server = c.converse.new.server;
      script = w.script;
      log = log_value later;
      answered = w.answered;
      frames = map frame_value c.converse.new.line.wire.frames.items;
      begun = w.begun;
      fault =
          Some c.fault_of-fault.result;
      cause = c.cause_of-cause.result;
    } in
    subst (λ v. LacksAnswer (Some (world_talk v)) c.args.request.now (Some (world_talk new))) c.self.view_is
    (talk-broke g.F.Folder.contents g.F.Folder.moments g.F.Folder.paths g.F.Folder.faults old new breaks.went c.self.invariant.is_log
    (c.self.invariant.running c.in_default.is).all refl breaks.is)

pub returns-in-Err-clause-since : goal.returns-in-Err-clause-since
returns-in-Err-clause-since g c =
    let w = c.self.inside in
    let later = c.converse.new.log in
    let breaks = c.in-Err.ensures.breaks in
    let old : WorldValue g.row.F.Denot = record {
      server = w.server;
      script = w.script;
      log = log_value w.log;
      answered = w.answered;
      frames = map frame_value w.line.wire.frames.items;
      begun = w.begun;
      fault = w.fault;
      cause = w.cause;
    } in
    let new : WorldValue g.row.F.Denot = record {
      server = c.converse.new.server;
      script = w.script;
      log = log_value later;
      answered = w.answered;
      frames = map frame_value c.converse.new.line.wire.frames.items;
      begun = w.begun;
      fault =
          Some c.fault_of-fault.result;
      cause = c.cause_of-cause.result;
    } in
    subst (λ v. WorldSince g.F.Folder.contents g.F.Folder.moments g.F.Folder.paths g.F.Folder.faults v new) c.self.view_is
    (since-went breaks.went c.args.request.now refl (λ is. inr (breaks.keeper (c.cause_of-cause.ensures.keeper is))) breaks.is)

pub returns-in-Ok-clause-cause : goal.returns-in-Ok-clause-cause
returns-in-Ok-clause-cause g c = record {
  later = subst (λ v. downs_of v.fault ≤ downs_of c.self.inside.fault) c.self.view_is (omega arith);
  rose = λ is. absurd cc;
}

pub returns-in-Ok-clause-heard : goal.returns-in-Ok-clause-heard
returns-in-Ok-clause-heard g c =
    goes_answered c.args.self.now.fault _ _ _ _ (sym (ap (λ v. v.fault) c.self.view_is) ∙ c.in_default.is) (returns-in-Ok-clause-answered g c)

pub returns-in-Err-clause-heard : goal.returns-in-Err-clause-heard
returns-in-Err-clause-heard g c =
    goes_unanswered c.args.self.now.fault _ _ _ _ _ (sym (ap (λ v. v.fault) c.self.view_is) ∙ c.in_default.is) (returns-in-Err-clause-unanswered g c)
