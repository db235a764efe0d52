-- The names that the proofs of this crate cite, passed on from one place. Declares nothing.
pub use Rattle.line_laws.specs.Budget.{FirstTry, HeldBudget, HeldUp, RepeatBudget, EndTime, TryBudget, data_pending, load}
pub use Rattle.line_laws.specs.Came.{AcksMatch, came_by, data_taken, is_taken}
pub use Rattle.line_laws.specs.Core.{AllBear, AllFit, Answering, Apart, Awaits, Counts, Fits, Follows, Hears, Side, Speaks, Waiting, ack_frame}
pub use Rattle.line_laws.specs.Core.{data_frame, key_now, part_now, taken_count}
pub use Rattle.line_laws.specs.Framing.{CameByCursor, FrameFacts, IsNoAbort, PassesFrame, RunsOn}
pub use Rattle.line_laws.specs.Hearing.{heard}
pub use Rattle.line_laws.specs.Line.{Knows}
pub use Rattle.line_laws.specs.Measure.{measure, rest_tries, work}
pub use Rattle.line_laws.specs.Progress.{AckPends, IsBlocked, DataPends, IsHeld, Progress}
pub use Rattle.line_laws.specs.Promises.{HasProperTrace, HasTenFaults}
pub use Rattle.line_laws.specs.Reaching.{BeginsReached}
pub use Rattle.line_laws.specs.Talking.{Moves, Speech, TookNewest, count_messages, left, part_at, say, unsaid}
pub use Rattle.line_laws.specs.Trace.{IsAcknowledged, AcksBehind, AcksFollow, NoAck, Release, TraceFacts, ack_keys, came_keys, cons_if}
pub use Rattle.line_laws.proofs.Places.{CoreAt, LineAt, TalkingAt}
pub use Rattle.padp_link.proofs.NeighbourLaws.{next_key_differs}
pub use Rattle.padp_link.proofs.ReceiverLaws.{IsBefore, takes_piece}
pub use Rattle.padp_link.specs.Collecting.{data_fragment}
pub use Rattle.padp_link.specs.Neighbours.{session_id}
pub use Rattle.padp_link.specs.Pieces.{fragment_of, piece_count, piece_of, pieces}
pub use Rattle.padp_link.specs.Receivers.{Answers, ReceiverValue, after_answer}
pub use Rattle.padp_link.specs.declared.piece.Key.{Key}
pub use Rattle.padp_link.specs.declared.piece.Piece.{Piece}
pub use Rattle.padp_link.specs.declared.receiver.Taken.{Taken}
pub use Rattle.padp_link.specs.declared.receiver.Taken.TheVariants.{Accepted, Dropped, Repeated, Whole}
pub use Rattle.std.proofs.Common.{Bool, List, None, Option, Some, [], ap, arith, cond, drop, false, inl, inr, leb, length, map, nat_eq, not, refl, subst, suc}
pub use Rattle.std.proofs.Common.{sym, true, zero, ℕ, ◌&&◌, ◌*◌, ◌++◌, ◌+◌, ◌-◌, ◌<◌, ◌∙◌, ◌∷◌, ◌≡◌, ◌≤◌, ◌⊎◌, rules}
pub use Rattle.std.proofs.Math.ListN.{drop_of_length-le}
pub use Rattle.std.proofs.lemmas.Bool.{and_from, and_parts, both_ways, cases_Bool, cases_lt, cond-false, cond-true, le-leb, le-ltb, leb-true, lt-leb, lt-ltb}
pub use Rattle.std.proofs.lemmas.List.{append-nil, append_assoc, length-map}
pub use Rattle.std.proofs.lemmas.List.FromFn.{length-map-range_with_len}
pub use Rattle.std.specs.Bool.{MatchBool}
pub use Rattle.std.specs.List.{AllByRecursion, range_with_len}
pub use Rattle.std.specs.Prelude.{reverse, slice_index_or}
pub use Rattle.trace_text.specs.Fates.{Abort, Cut, FateValue, Hit, Lost, Noise, Unplug, Untouched, arrives}
pub use Rattle.trace_text.specs.Faults.{IsHeldIn, RepeatsHaveFaults, comes, count, data_comes, faulted, is_late, last_repeat, late_of, newest, newest_repeat}
pub use Rattle.trace_text.specs.Frames.{came_in, course_of, past_behind, past_of, sent_in}
pub use Rattle.trace_text.specs.Parts.{Part, add_part, each_once, key_of_part, message_parts, part_of, session_parts, spoken}
pub use Rattle.trace_text.specs.Past.{Came, FrameCourse, Gone, IsAckOf, IsDataOf, Late, PastFrame, ack_of, acked, add, at, data_of, first, is_data_of, is_end, is_repeat}
pub use Rattle.trace_text.specs.Past.{keys, run, said, same_key}
pub use Rattle.trace_text.specs.Proper.{AcksAreFor, AcksNewest, AnswersNewest, AnswersReached, AreNumbered, AtMostTen, BeginInTurn, ComeInOrder, EndReached}
pub use Rattle.trace_text.specs.Proper.{IfAnswers, IsKnown, IsProper, NumberedFrame, Reaches, SpeaksProperly, StaysAway, data_that_came, is_ack_of}
pub use Rattle.trace_text.specs.Talks.{Talk, Turn, answer_to, answered_by, messages_of, pieces_before}
pub use Rattle.trace_text.specs.TraceLines.{FrameValue}
pub use Rattle.trace_text.specs.declared.frame.End.{End}
pub use Rattle.trace_text.specs.declared.frame.End.TheVariants.{Desktop, Handheld}
pub use Rattle.std.proofs.lemmas.Grind.{common_steps}
