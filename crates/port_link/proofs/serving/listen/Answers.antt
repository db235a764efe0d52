use Rattle.std.proofs.Common.{◌≡◌, ℕ, ◌+◌, [], ◌∷◌, ◌++◌, refl, ap, ◌∙◌, arith}
use Rattle.std.proofs.lemmas.List.{length-append}
use Rattle.hs_folders.proofs.CauseLaws.{ok_is_no_fault}
use Rattle.device_stream.proofs.CourseLaws.{any-itself, any-then}
use Rattle.port_link.proofs.VigilCourseLaws.{goes-itself, goes-then, out-behind, out-long}
use Rattle.port_link.specs.Ends.{most_events}
use Rattle.port_link.proofs.serving.listen.Goals as goal

pub loop-count-init : goal.loop-count-init
loop-count-init g c = record {
  ready = c.requires;
  goes = ([], goes-itself _, refl);
  performs = any-itself g.F.Folder.contents g.F.Folder.moments g.F.Folder.paths g.F.Folder.faults c.args.waits.now.talk;
  keeper = refl;
  port = refl;
  paths = refl;
}

pub loop-count-preserved : goal.loop-count-preserved
loop-count-preserved g c =
    let before = c.loop-count.invariant in
    let did = c.in-Ok.ensures in
    let events = before.goes.0 in
    record {
      ready = did.ready;
      goes = (
        events ++ did.goes.0 ∷ [],
        goes-then before.goes.1 did.goes.1,
        length-append events (did.goes.0 ∷ []) ∙ ap (λ (n : ℕ). n + 1) before.goes.2,
      );
      performs = any-then g.F.Folder.contents g.F.Folder.moments g.F.Folder.paths g.F.Folder.faults before.performs did.performs;
      keeper = did.keeper.still (ok_is_no_fault _ _) ∙ before.keeper;
      port = did.port.still (ok_is_no_fault _ _) ∙ before.port;
      paths = c.step.ensures.paths ∙ before.paths;
    }

pub returns-in-Err-clause-goes : goal.returns-in-Err-clause-goes
returns-in-Err-clause-goes g c = out-behind c.in-Err.ensures.sudden c.loop-count.invariant.goes.1 c.in-Err.ensures.stops

pub returns-in-Err-clause-performs : goal.returns-in-Err-clause-performs
returns-in-Err-clause-performs g c =
    any-then g.F.Folder.contents g.F.Folder.moments g.F.Folder.paths g.F.Folder.faults c.loop-count.invariant.performs c.step.ensures.performs

pub returns-clause-goes : goal.returns-clause-goes
returns-clause-goes g c =
    let before = c.loop-count.invariant in
    let all : c.loop-count.count ≡ most_events = omega arith in
    out-long before.goes.1 (before.goes.2 ∙ all) before.ready.going
