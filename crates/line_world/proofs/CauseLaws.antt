-- Why it is over with a line, and what its readers counted.
use Rattle.line_world.proofs.Names.{arith, common_steps, ◌≡◌, ℕ, List, length, map, Option, Some, None, refl, sym, ap, subst, ◌∙◌, length-map, LinkFault}
use Rattle.line_world.proofs.Names.{RuleValue, fate_by, End, Handheld, Desktop, IsFairUpTo, FrameValue, frame_value, Stop, Line, Halt, IsUp, counts, HaltsBy}
use Rattle.line_world.proofs.Names.{cursors, cursor_of, fair_is_never_down, AreEnds, LineCounts, LineRecords, Down, Break, BearsOut, EndsBy, IsCause, IsCauseOf, stop_cause}
use Rattle.line_world.proofs.Names.{IsHaltOf, NamesLast, down_end, halt_of, LogValue, IsTold, AgreesWith, CountsOf}
use Rattle.line_steps.specs.declared.harm.Stop.TheVariants as stop
use Rattle.line_steps.specs.declared.sending.Halt.TheVariants as halt
use Rattle.line_world.specs.declared.down.Down.TheVariants as down
use Rattle.line_world.specs.declared.stop.Break.TheVariants.{NoMemory, Line as OfLine, Keeper}
use Rattle.line_world.proofs.FaultLaws.{ten-last}
use Rattle.line_world.proofs.StopLaws.{goes-on, in-abort, run-on, stops-so}
use Rattle.line_world.proofs.TallyLaws.{agrees}

-- ---- the cause

down-is : (cause : Option Down) (count : ℕ) {end : End} → down_end cause ≡ Some end → IsHaltOf cause count (halt.Down end)
down-is None count is = absurd cc
down-is (Some (down.LineDown other numbers)) count {end} is = (let same : end ≡ other = cc in ap halt.Down same)
down-is (Some (down.Unplugged number)) count is = absurd cc
down-is (Some (down.Aborted number)) count is = absurd cc
down-is (Some (down.Undetected number)) count is = absurd cc
down-is (Some down.Keeper) count is = absurd cc

pub halt-by : (ended : Break) (count : ℕ) (cause : Option Down) → IsCauseOf ended count cause → IsHaltOf cause count (halt_of ended)
halt-by NoMemory count cause is = subst (λ o. IsHaltOf o count halt.NoMemory) (sym is) refl
halt-by (OfLine halt.NoMemory) count cause is = subst (λ o. IsHaltOf o count halt.NoMemory) (sym is) refl
halt-by (OfLine (halt.Stopped stop.Unplugged)) count cause is =
    subst (λ o. IsHaltOf o count (halt.Stopped stop.Unplugged)) (sym is) (refl, refl)
halt-by (OfLine (halt.Stopped stop.Aborted)) count cause is = subst (λ o. IsHaltOf o count (halt.Stopped stop.Aborted)) (sym is) (refl, refl)
halt-by (OfLine (halt.Stopped stop.Undetected)) count cause is =
    subst (λ o. IsHaltOf o count (halt.Stopped stop.Undetected)) (sym is) (refl, refl)
halt-by (OfLine (halt.Down end)) count cause is = down-is cause count is
halt-by Keeper count cause is = subst (λ o. IsHaltOf o count halt.NoMemory) (sym is) refl

-- an end that has spent its tries is the cause
pub up-cause : (cause : Option Down) (count : ℕ) (ended : Halt) → IsHaltOf cause count ended → IsUp ended → down_end cause ≡ None
up-cause None count ended is up = refl
up-cause (Some (down.LineDown end numbers)) count ended is up = absurd (subst IsUp is up)
up-cause (Some (down.Unplugged number)) count ended is up = refl
up-cause (Some (down.Aborted number)) count ended is up = refl
up-cause (Some (down.Undetected number)) count ended is up = refl
up-cause (Some down.Keeper) count ended is up = refl

-- while the link answers there is none
pub no-halt : (fault : Option LinkFault) (cause : Option Down) (count : ℕ) → IsCause fault cause → fault ≡ None → IsHaltOf cause count halt.NoMemory
no-halt None cause count is none = subst (λ o. IsHaltOf o count halt.NoMemory) (sym is) refl
no-halt (Some fault) cause count is none = absurd cc

pub no-names : (fault : Option LinkFault) (cause : Option Down) (frames : List FrameValue) → IsCause fault cause → fault ≡ None → NamesLast cause frames
no-names None cause frames is none = subst (λ o. NamesLast o frames) (sym is) tt
no-names (Some fault) cause frames is none = absurd cc

-- ---- the frames bear it out

stopped : {why : Stop} {line : Line} {log : LogValue} {cause : Option Down} {number : ℕ} → IsTold line log cause → {told : Halt}
    → HaltsBy told (cursor_of line.handheld line.desktop) line.wire.frames.items → (number ≡ length line.wire.frames.items) × (told ≡ halt.Stopped why)
    → (number ≡ length (map frame_value line.wire.frames.items)) × EndsBy why (map frame_value line.wire.frames.items)
stopped it by is = grind (arith, common_steps)

module _ {script : List RuleValue} {line : Line} where
  pub bears-out : {log : LogValue} (cause : Option Down) → LineRecords script line → IsTold line log cause
      → BearsOut cause (map frame_value line.wire.frames.items)
  bears-out None recorded told = tt
  bears-out (Some (down.LineDown end numbers)) recorded told =
      let by = subst (λ h. HaltsBy h (cursor_of line.handheld line.desktop) line.wire.frames.items) told.halt_is told.ends.by in (
        record { cursor = cursor_of line.handheld line.desktop; came = recorded.came; spent = by.1; go = run-on 1 line.wire.frames.items by.0 },
        ten-last script line.wire.frames.items recorded.by by.0 by.1.faults told.names.0 told.names.1,
      )
  bears-out (Some (down.Unplugged number)) recorded told = stopped told told.ends.by told.halt_is
  bears-out (Some (down.Aborted number)) recorded told =
      let ends = stopped told told.ends.by told.halt_is in
      let by = subst (λ h. HaltsBy h (cursor_of line.handheld line.desktop) line.wire.frames.items) told.halt_is.1 told.ends.by in
      (ends.0, ends.1, in-abort line.wire.frames.items by)
  bears-out (Some (down.Undetected number)) recorded told = stopped told told.ends.by told.halt_is
  bears-out (Some down.Keeper) recorded told =
      run-on 1 line.wire.frames.items (subst (λ h. HaltsBy h (cursor_of line.handheld line.desktop) line.wire.frames.items) told.halt_is told.ends.by)

  -- where the run ends with the last of them, that is the cause
  pub stop-caused : {log : LogValue} (cause : Option Down) → LineRecords script line → IsTold line log cause → (why : Stop)
      → EndsBy why (map frame_value line.wire.frames.items) → cause ≡ Some (stop_cause why (length (map frame_value line.wire.frames.items)))
  stop-caused None recorded told why ends =
      absurd (goes-on ends (run-on 1 line.wire.frames.items (subst
      (λ h. HaltsBy h (cursor_of line.handheld line.desktop) line.wire.frames.items) told.halt_is told.ends.by)))
  stop-caused (Some (down.LineDown end numbers)) recorded told why ends =
      absurd (goes-on ends (bears-out (Some (down.LineDown end numbers)) recorded told).0.go)
  stop-caused (Some (down.Unplugged number)) recorded told why ends =
      let bears = bears-out (Some (down.Unplugged number)) recorded told in
      stops-so bears.0 bears.1 ends refl
  stop-caused (Some (down.Aborted number)) recorded told why ends =
      let bears = bears-out (Some (down.Aborted number)) recorded told in
      stops-so bears.0 bears.1 ends refl
  stop-caused (Some (down.Undetected number)) recorded told why ends =
      let bears = bears-out (Some (down.Undetected number)) recorded told in
      stops-so bears.0 bears.1 ends refl
  stop-caused (Some down.Keeper) recorded told why ends =
      absurd (goes-on ends (bears-out (Some down.Keeper) recorded told))

  -- over a fair script no end spends its tries
  pub never-down : {log : LogValue} (cause : Option Down) → LineRecords script line → IsTold line log cause
      → IsFairUpTo (length (map frame_value line.wire.frames.items)) (fate_by script) → down_end cause ≡ None
  never-down None recorded told fair = refl
  never-down (Some (down.LineDown end numbers)) recorded told fair =
      let frames = line.wire.frames.items in
      let cursor = cursor_of line.handheld line.desktop in
      let by = subst (λ h. HaltsBy h cursor frames) told.halt_is told.ends.by in
      absurd (fair_is_never_down script frames cursor end recorded.by by.0
      (subst (λ n. IsFairUpTo n (fate_by script)) (length-map frames frame_value) fair) by.1)
  never-down (Some (down.Unplugged number)) recorded told fair = refl
  never-down (Some (down.Aborted number)) recorded told fair = refl
  never-down (Some (down.Undetected number)) recorded told fair = refl
  never-down (Some down.Keeper) recorded told fair = refl

  -- ---- what the readers counted

  pub counts-desktop : AreEnds line → LineRecords script line → LineCounts line → CountsOf Desktop line.handheld.reader.tally line.wire.frames.items
  counts-desktop ends recorded counted =
      let frames = line.wire.frames.items in
      let here : cursor_of line.handheld line.desktop Desktop ≡ line.desktop.taken =
      ap (λ E. cursors E line.handheld.taken line.desktop.taken Desktop) ends.handheld_is in
      let cursor = cursor_of line.handheld line.desktop in
      let is : line.handheld.reader.tally ≡ counts Desktop (cursor Desktop) frames (record { bytes = 0; packets = 0 }) =
      counted.by_x ∙ (ap (λ E. counts E line.desktop.taken frames (record { bytes = 0; packets = 0 })) ends.desktop_is
      ∙ ap (λ n. counts Desktop n frames (record { bytes = 0; packets = 0 })) (sym here)) in
      record {
        cursor = cursor;
        came = recorded.came;
        is = is;
        sums = subst (AgreesWith Desktop (map frame_value frames)) (sym is)
            (agrees cursor frames recorded.came);
      }

  pub counts-handheld : AreEnds line → LineRecords script line → LineCounts line → CountsOf Handheld line.desktop.reader.tally line.wire.frames.items
  counts-handheld ends recorded counted =
      let frames = line.wire.frames.items in
      let here : cursor_of line.handheld line.desktop Handheld ≡ line.handheld.taken =
      ap (λ E. cursors E line.handheld.taken line.desktop.taken Handheld) ends.handheld_is in
      let cursor = cursor_of line.handheld line.desktop in
      let is : line.desktop.reader.tally ≡ counts Handheld (cursor Handheld) frames (record { bytes = 0; packets = 0 }) =
      counted.by_y ∙ (ap (λ E. counts E line.handheld.taken frames (record { bytes = 0; packets = 0 })) ends.handheld_is
      ∙ ap (λ n. counts Handheld n frames (record { bytes = 0; packets = 0 })) (sym here)) in
      record {
        cursor = cursor;
        came = recorded.came;
        is = is;
        sums = subst (AgreesWith Handheld (map frame_value frames)) (sym is)
            (agrees cursor frames recorded.came);
      }
