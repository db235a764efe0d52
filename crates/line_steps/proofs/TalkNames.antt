-- The names that the proofs of this crate cite, passed on from one place. Declares nothing.
pub use Rattle.cmp_hello.specs.HelloText.{HelloText, hello_bytes}
pub use Rattle.cmp_hello.specs.declared.hello.HelloKind.TheVariants.{Init}
pub use Rattle.line_laws.proofs.MessageLaws.{count-say, longer-say}
pub use Rattle.line_laws.proofs.StoppedLaws.{speaks-beside, speaks-more}
pub use Rattle.line_laws.proofs.UnsaidLaws.{parts-say}
pub use Rattle.line_laws.specs.Core.{Apart}
pub use Rattle.line_laws.specs.Hearing.{heard}
pub use Rattle.line_laws.specs.Talking.{count_messages, say}
pub use Rattle.line_script.specs.Rules.{RuleValue}
pub use Rattle.line_script.specs.Scripts.{fate_by}
pub use Rattle.line_steps.proofs.AdvancingLaws.{turn_took, up_where}
pub use Rattle.line_steps.proofs.CountingLaws.{counted_turned}
pub use Rattle.line_steps.proofs.HaltedLaws.{spoken_now}
pub use Rattle.line_steps.proofs.RecordedLaws.{recorded_turned}
pub use Rattle.line_steps.proofs.StoryLaws.{length-spoken, took_beside}
pub use Rattle.line_steps.proofs.TalkedLaws.{cursor_own, cursor_turned, talks_turned, x_heard_as}
pub use Rattle.line_steps.proofs.TookLaws.{parts_total, took_but, took_tells, took_whole}
pub use Rattle.line_steps.proofs.TurnLaws.{apart_turned, settled_holds, settled_turned}
pub use Rattle.line_steps.specs.Acknowledging.{EndsAcknowledging, last_key}
pub use Rattle.line_steps.specs.Advancing.{FallsShort, IsUp, piece_total, took_count}
pub use Rattle.line_steps.specs.Counting.{CountsTaken}
pub use Rattle.line_steps.specs.Halting.{HaltsBy, Spoke, HasProperPast, other_end}
pub use Rattle.line_steps.specs.Running.{past_now, side_of}
pub use Rattle.line_steps.specs.Stories.{HeardOf, TookMessages}
pub use Rattle.line_steps.specs.Telling.{IsNextTo, RecordsFrames, Talks, cursor_of, no_talk}
pub use Rattle.line_steps.specs.Turning.{Turn}
pub use Rattle.line_steps.specs.declared.half.Half.{Half}
pub use Rattle.line_steps.specs.declared.half.Wire.{Wire}
pub use Rattle.line_steps.specs.declared.line.Line.{Line}
pub use Rattle.line_steps.specs.declared.sending.Halt.{Halt}
pub use Rattle.line_steps.specs.declared.sending.Halt.TheVariants.{Down, NoMemory, Stopped}
pub use Rattle.line_steps.specs.TalkHalting.{HaltedOver, HaltsWithin, LineEnds, half_of, speaking}
pub use Rattle.line_steps.specs.Rests.{AreEnds, MayAnswer, MayAsk, MayGreet}
pub use Rattle.line_steps.specs.TalkTelling.{HasSaid, LineTells, LineTold, bytes_of, greeted, init, wake}
pub use Rattle.padp_link.specs.Neighbours.{session_id}
pub use Rattle.std.proofs.Common.{List, Some, [], ap, arith, false, inl, inr, length, map, refl, reverse, subst, sym, take, ℕ, ◌++◌, ◌+◌, ◌-◌, ◌∙◌, ◌∷◌, ◌≡◌}
pub use Rattle.std.proofs.Common.{◌≤◌, ◌⊎◌, rules}
pub use Rattle.std.proofs.lemmas.List.{append_assoc, length-append, length-reverse}
pub use Rattle.std.proofs.lemmas.Result.{IfErr-weaker, err_from_is_err_and, on_ok_weaker}
pub use Rattle.std.specs.Prelude.{Err, IfErr, Ok, OnOk, Result}
pub use Rattle.trace_text.specs.Parts.{message_parts, spoken}
pub use Rattle.trace_text.specs.Past.{PastFrame, at, said}
pub use Rattle.trace_text.specs.Proper.{SaysMessages}
pub use Rattle.trace_text.specs.Talks.{Talk, messages_of, pieces_before}
pub use Rattle.trace_text.specs.TraceLines.{frame_value}
pub use Rattle.trace_text.specs.declared.frame.End.{End}
pub use Rattle.trace_text.specs.declared.frame.End.TheVariants.{Desktop, Handheld}
