use Rattle.line_world.proofs.Names.{IsErrOf, ℕ, length, map, true, Some, Ok, refl, sym, subst, ap, ◌∙◌, arith, inl, WentDown, downs_of, frame_value, IsCauseOf}
use Rattle.line_world.proofs.Names.{NamesLast, log_value, since_itself, IsWorld, WorldSince, WorldValue}
use Rattle.dlp_commands.specs.declared.link.LinkFault.TheVariants.{Down}
use Rattle.line_world.specs.declared.stop.Break.TheVariants.{Line as OfLine}
use Rattle.line_world.proofs.WentLaws.{since-quiet}
use Rattle.line_world.proofs.WorldLaws.{greets-of, world-greeted, world-halted}
use Rattle.line_world.proofs.link.WorldLink.hello.Goals as goal

pub returns-in-Some-clause-since : goal.returns-in-Some-clause-since
returns-in-Some-clause-since g c = since_itself g.F.Folder.contents g.F.Folder.moments g.F.Folder.paths g.F.Folder.faults c.args.self.now

pub invariant_of-self : goal.invariant_of-self
invariant_of-self g c =
    let w = c.self.inside in
    let first = ap (λ v. v.begun) c.self.view_is ∙ c.requires in
    let running = c.self.invariant.running c.in_default.is in
    let greets = greets-of w.begun (log_value w.log) first running.at_rest in
    world-greeted c.self.invariant c.in_default.is first (c.greet.ensures.recorded c.self.invariant.recorded) (c.greet.ensures.counted c.self.invariant.counted)
    c.in-Ok.ensures.asks (c.in-Ok.ensures.tells greets.tells)

pub invariant_of-self-in-Err : goal.invariant_of-self-in-Err
invariant_of-self-in-Err g c =
    let w = c.self.inside in
    let first = ap (λ v. v.begun) c.self.view_is ∙ c.requires in
    let greets = greets-of w.begun (log_value w.log) first (c.self.invariant.running c.in_default.is).at_rest in
    subst (λ f. IsWorld c.greet.new.line w.script (log_value w.log) w.server.sound w.answered w.begun (Some f)
    c.cause_of-cause.result) (sym c.fault_of-fault.ensures)
    (world-halted c.self.invariant c.in_default.is first
    (c.greet.ensures.recorded c.self.invariant.recorded) (c.greet.ensures.counted c.self.invariant.counted) (c.in-Err.ensures.ends greets.tells)
    c.cause_of-cause.ensures.is
    c.cause_of-cause.ensures.keeper
    c.cause_of-cause.ensures.names)

pub returns-in-Ok-clause-cause : goal.returns-in-Ok-clause-cause
returns-in-Ok-clause-cause g c =
    subst (λ v. WentDown v.fault (downs_of v.fault) (downs_of c.self.inside.fault) (IsErrOf {T = ℕ} (Ok c.in-Ok.rate) Down))
    c.self.view_is (record { later = omega arith; rose = λ is. absurd cc })

pub returns-in-Ok-clause-since : goal.returns-in-Ok-clause-since
returns-in-Ok-clause-since g c =
    let w = c.self.inside in
    let old : WorldValue g.row.F.Denot = record {
      server = w.server;
      script = w.script;
      log = log_value w.log;
      answered = w.answered;
      frames = map frame_value w.line.wire.frames.items;
      begun = w.begun;
      fault = w.fault;
      cause = w.cause;
    } in
    let new : WorldValue g.row.F.Denot = record {
      server = w.server;
      script = w.script;
      log = log_value w.log;
      answered = w.answered;
      frames = map frame_value c.greet.new.line.wire.frames.items;
      begun = true;
      fault = w.fault;
      cause = w.cause;
    } in
    subst (λ v. WorldSince g.F.Folder.contents g.F.Folder.moments g.F.Folder.paths g.F.Folder.faults v new) c.self.view_is
    (since-quiet refl refl refl (λ is. inl is))

pub returns-in-Err-clause-since : goal.returns-in-Err-clause-since
returns-in-Err-clause-since g c =
    let w = c.self.inside in
    let old : WorldValue g.row.F.Denot = record {
      server = w.server;
      script = w.script;
      log = log_value w.log;
      answered = w.answered;
      frames = map frame_value w.line.wire.frames.items;
      begun = w.begun;
      fault = w.fault;
      cause = w.cause;
    } in
    let new : WorldValue g.row.F.Denot = record {
      server = w.server;
      script = w.script;
      log = log_value w.log;
      answered = w.answered;
      frames = map frame_value c.greet.new.line.wire.frames.items;
      begun = w.begun;
      fault = Some c.fault_of-fault.result;
      cause = c.cause_of-cause.result;
    } in
    subst (λ v. WorldSince g.F.Folder.contents g.F.Folder.moments g.F.Folder.paths g.F.Folder.faults v new) c.self.view_is
    (since-quiet refl refl refl (λ is. absurd (let e = c.cause_of-cause.ensures.keeper is in cc)))
