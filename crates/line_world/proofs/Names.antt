-- The names that the proofs of this crate cite, passed on from one place. Declares nothing.
pub use Rattle.dlp_args.specs.Messages.{MessageTextValue}
pub use Rattle.dlp_commands.specs.Changes.{asks_id, given_in}
pub use Rattle.dlp_commands.specs.DeviceRuns.{Exchange, Ran, exchanged}
pub use Rattle.dlp_commands.specs.DeviceSteps.{DeviceStep}
pub use Rattle.dlp_commands.specs.Links.{MayExchange, WentDown}
pub use Rattle.dlp_commands.specs.Talks.{HasAnswer, LacksAnswer}
pub use Rattle.dlp_commands.specs.declared.link.LinkFault.{LinkFault}
pub use Rattle.dlp_requests.specs.Views.{request_value}
pub use Rattle.handheld_server.specs.Keeping.{Touches, wrote_user}
pub use Rattle.handheld_server.specs.SaidThings.{downs_of}
pub use Rattle.handheld_server.specs.Servers.{ServerValue, store_of}
pub use Rattle.hs_folders.specs.Causes.{Rose}
pub use Rattle.hs_folders.specs.FileMaps.{FileMap}
pub use Rattle.hs_folders.specs.Moments.{Moments}
pub use Rattle.line_laws.proofs.CameLaws.{same_end}
pub use Rattle.line_laws.specs.Framing.{CameByCursor, RunsOn}
pub use Rattle.line_script.specs.Rules.{RuleValue}
pub use Rattle.line_script.specs.Scripts.{fate_by}
pub use Rattle.line_steps.proofs.FairLaws.{count_at, fair_is_never_down}
pub use Rattle.line_steps.proofs.FrameLaws.{length-past}
pub use Rattle.line_steps.proofs.ProperLaws.{halted_is_proper}
pub use Rattle.line_steps.proofs.RecordedLaws.{recorded_turned}
pub use Rattle.line_steps.proofs.TalkedLaws.{talks_turned}
pub use Rattle.line_steps.proofs.TellsLaws.{halted_story, halted_tells, turn_tells_all}
pub use Rattle.line_steps.proofs.TurnLaws.{apart_turned}
pub use Rattle.line_steps.specs.Acknowledging.{EndsAcknowledging, last_key}
pub use Rattle.line_steps.specs.Adding.{AllBy}
pub use Rattle.line_steps.specs.Advancing.{IsUp}
pub use Rattle.line_steps.specs.Counting.{counts, landed}
pub use Rattle.line_steps.specs.Halting.{EndsWith, HaltsBy, TenFaults}
pub use Rattle.line_steps.specs.Promising.{TellsOf}
pub use Rattle.line_steps.specs.Resting.{IsNew}
pub use Rattle.line_steps.specs.Running.{AllGo, past_now}
pub use Rattle.line_steps.specs.Sending.{StopsBy}
pub use Rattle.line_steps.specs.Stories.{told_from}
pub use Rattle.line_steps.specs.Telling.{cursor_of, cursors, no_talk}
pub use Rattle.line_steps.specs.Turning.{Turn}
pub use Rattle.line_steps.specs.declared.harm.Stop.{Stop}
pub use Rattle.line_steps.specs.declared.line.Line.{Line}
pub use Rattle.line_steps.specs.declared.sending.Halt.{Halt}
pub use Rattle.line_steps.specs.declared.sending.Halt.TheVariants.{NoMemory}
pub use Rattle.line_steps.proofs.EndLaws.{answers-ends, asks-ends, greets-ends}
pub use Rattle.line_steps.proofs.ToldLaws.{cursor-inside, told-answers, told-asks, told-last, told-others}
pub use Rattle.line_steps.specs.TalkHalting.{HaltsWithin, LineEnds}
pub use Rattle.line_steps.specs.Rests.{AreEnds, MayAnswer, MayAsk, MayGreet}
pub use Rattle.line_steps.specs.TalkTelling.{HasSaid, LineCounts, LineRecords, LineTells, LineTold, bytes_of, greeted, init, wake}
pub use Rattle.line_world.specs.Causes.{AreLastTen, AreTenFaults, BearsOut, IsCause, IsCauseOf, IsHaltOf, KeeperOnly, NamesLast, down_end, faults_in}
pub use Rattle.line_world.specs.Causes.{halt_of, link_fault}
pub use Rattle.line_world.specs.Conversing.{Answers, Breaks, Sent, Served, Unsent, RequestReach, WentTo}
pub use Rattle.line_world.specs.Counts.{AgreesWith, CountsOf, capped, land_to_last}
pub use Rattle.line_world.specs.Folders.{ServedSince}
pub use Rattle.line_world.specs.Logs.{LogValue, log_value, no_log, said_in, texts, with_issued, with_performed}
pub use Rattle.line_world.specs.Serving.{Performs}
pub use Rattle.line_world.specs.SinceLaws.{served-itself, served-once, since_itself}
pub use Rattle.line_world.specs.Stops.{AllRunOn, EndsBy, EndsInAbort, stop_cause}
pub use Rattle.line_world.specs.Worlds.{EndsAcknowledged, IsAtRest, IsHeard, IsLog, IsTold, IsWorld, LeavesOff, TellAll, TellBoth, TellDone, WorldSince}
pub use Rattle.line_world.specs.Worlds.{WorldValue, world_talk}
pub use Rattle.line_world.specs.declared.down.Down.{Down}
pub use Rattle.line_world.specs.declared.down.Down.TheVariants.{Keeper}
pub use Rattle.line_world.specs.declared.stop.Break.{Break}
pub use Rattle.padp_link.specs.Neighbours.{session_id}
pub use Rattle.palm_device.specs.Devices.{Device}
pub use Rattle.slp_frames.specs.Histories.{raised}
pub use Rattle.slp_frames.specs.Readers.{TallyValue}
pub use Rattle.std.proofs.Common.{Bool, List, None, Ok, Option, Some, [], ap, arith, drop, false, inl, inr, leb, length, map, nat_eq, refl, subst, suc, sym}
pub use Rattle.std.proofs.Common.{take, true, zero, ℕ, ◌&&◌, ◌++◌, ◌+◌, ◌-◌, ◌<◌, ◌∙◌, ◌∷◌, ◌≡◌, ◌≤◌, ◌⊎◌, rules}
pub use Rattle.std.proofs.lemmas.Bool.{both_ways, cases_lt}
pub use Rattle.std.proofs.lemmas.List.{append-nil, length-append, length-drop, length-map, length-take, map-append, take-append-drop, take_all}
pub use Rattle.std.proofs.lemmas.Option.{slice_get_past}
pub use Rattle.std.proofs.lemmas.Result.{err_from_is_err_and}
pub use Rattle.std.specs.List.{AllByRecursion}
pub use Rattle.std.specs.Prelude.{IfSome, IsErrOf, OnOk, if◌then◌else◌, slice_get, unwrap_or}
pub use Rattle.trace_text.specs.Fates.{FateValue, arrives, ends_run, is_fault, landing}
pub use Rattle.trace_text.specs.Faults.{count, faulted}
pub use Rattle.trace_text.specs.Past.{at, is_end}
pub use Rattle.trace_text.specs.Proper.{IsProper}
pub use Rattle.trace_text.specs.Stories.{IsStory}
pub use Rattle.trace_text.specs.Talks.{messages_of}
pub use Rattle.trace_text.specs.Tallies.{IsFairUpTo, all_land, count_came, faults_from}
pub use Rattle.trace_text.specs.TraceLines.{FrameValue, frame_value}
pub use Rattle.trace_text.specs.declared.frame.End.{End}
pub use Rattle.trace_text.specs.declared.frame.End.TheVariants.{Desktop, Handheld}
pub use Rattle.trace_text.specs.declared.frame.Frame.{Frame}
pub use Rattle.std.proofs.lemmas.Grind.{common_steps}
