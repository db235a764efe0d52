use Rattle.line_world.proofs.Names.{◌≡◌, ◌<◌, [], length, map, None, true, false, sym, subst, fate_by, IsProper, frame_value, CountsOf, said_in}
use Rattle.line_world.proofs.Names.{EndsAcknowledged, IsLog, LeavesOff, TellAll, TellBoth, TellDone, Handheld, Desktop}
use Rattle.line_world.proofs.CauseLaws.{counts-desktop, counts-handheld}
use Rattle.line_world.proofs.WorldLaws.{world-all_told, world-done, world-proper, world-told}
use Rattle.line_world.proofs.world.World.into_log.Goals as goal

pub returns-clause-log : goal.returns-clause-log
returns-clause-log g c = subst (λ v. IsLog v.log v.answered) c.self.view_is c.self.invariant.is_log

pub returns-clause-proper : goal.returns-clause-proper
returns-clause-proper g c =
    let w = c.self.inside in
    subst (λ v. IsProper (fate_by v.script) (said_in v.log) (map frame_value w.line.wire.frames.items)) c.self.view_is
    (world-proper c.self.invariant.recorded c.self.invariant.told)

pub returns-clause-told : goal.returns-clause-told
returns-clause-told g c =
    let w = c.self.inside in
    subst (λ v. TellBoth (said_in v.log) (map frame_value w.line.wire.frames.items)) c.self.view_is
    (world-told c.self.invariant.recorded c.self.invariant.told)

pub returns-clause-all_told : goal.returns-clause-all_told
returns-clause-all_told g c =
    let w = c.self.inside in
    subst (λ v. v.fault ≡ None → v.begun ≡ true
    → TellAll (said_in v.log) (map frame_value w.line.wire.frames.items)) c.self.view_is
    (λ none first. world-all_told c.self.invariant none first)

pub returns-clause-to_handheld : goal.returns-clause-to_handheld
returns-clause-to_handheld g c =
    let w = c.self.inside in
    subst (λ t. CountsOf Desktop t w.line.wire.frames.items) (sym c.tally.ensures)
    (counts-desktop c.self.invariant.told.ends.ends c.self.invariant.recorded c.self.invariant.counted)

pub returns-clause-to_desktop : goal.returns-clause-to_desktop
returns-clause-to_desktop g c =
    let w = c.self.inside in
    subst (λ t. CountsOf Handheld t w.line.wire.frames.items) (sym c.tally-2.ensures)
    (counts-handheld c.self.invariant.told.ends.ends c.self.invariant.recorded c.self.invariant.counted)

pub returns-clause-told_done : goal.returns-clause-told_done
returns-clause-told_done g c =
    let w = c.self.inside in
    subst (λ v. v.begun ≡ true → TellDone v.log v.answered v.fault v.cause
    (map frame_value w.line.wire.frames.items)) c.self.view_is
    (λ first. world-done c.self.invariant first)

pub returns-clause-silent : goal.returns-clause-silent
returns-clause-silent g c = subst (λ v. v.begun ≡ false → v.log.issued ≡ []) c.self.view_is c.self.invariant.silent

pub returns-clause-left_off : goal.returns-clause-left_off
returns-clause-left_off g c = subst (λ v. LeavesOff v.log v.answered v.fault v.cause) c.self.view_is c.self.invariant.left_off

pub returns-clause-acked : goal.returns-clause-acked
returns-clause-acked g c =
    let w = c.self.inside in
    subst (λ v. 0 < v.answered → length v.log.issued ≡ v.answered
    → EndsAcknowledged v.log (map frame_value w.line.wire.frames.items)) c.self.view_is c.self.invariant.acked
