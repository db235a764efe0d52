-- The names that the proofs of this crate cite, passed on from one place. Declares nothing.
pub use Rattle.byteorder.specs.Endian.{big_bytes, big_number}
pub use Rattle.line_laws.proofs.CameLaws.{Grows, acks-grow, begins-grow, data_that_came-by, data_that_came-taken, leaves, same_end, stays_in}
pub use Rattle.line_laws.proofs.CountLaws.{IsCopy, IsNewest, pending_data}
pub use Rattle.line_laws.proofs.FramedLaws.{OthersStay, all-push, came-push-one, came-same, came-takes, leb-above, leb-below, same-leb}
pub use Rattle.line_laws.proofs.FramingLaws.{IsByCursor, came_in-is, come-in-order, grows-by}
pub use Rattle.line_laws.proofs.JoinLaws.{run_other}
pub use Rattle.line_laws.proofs.MeasureLaws.{measure_again, measure_copy, measure_last_ack, measure_newest, measure_next_piece, measure_passes, rest-idle}
pub use Rattle.line_laws.proofs.MessageLaws.{count-say, longer-say, some_pieces}
pub use Rattle.line_laws.proofs.PartLaws.{heard_copy, heard_newest, spoken_again, spoken_begins, spoken_keys}
pub use Rattle.line_laws.proofs.PastLaws.{at_all, at_at, at_push, first_is, keys_apart, said_ack, said_data-other}
pub use Rattle.line_laws.proofs.PromiseLaws.{has_ten_faults}
pub use Rattle.line_laws.proofs.RunningLaws.{running_copy, running_last_ack, running_newest, running_next_piece, running_other_ack, running_skips}
pub use Rattle.line_laws.proofs.RunningLaws.{running_starts, running_tick_one, running_tick_two}
pub use Rattle.line_laws.proofs.SpeechLaws.{speech-moves}
pub use Rattle.line_laws.proofs.StepLaws.{turned}
pub use Rattle.line_laws.proofs.StoppedLaws.{came-still, speaks-beside, speaks-more, speaks-unacked}
pub use Rattle.line_laws.proofs.TakeLaws.{Accepting, AfterData, acknowledged, beginning, matched, take_ack, take_data, takes}
pub use Rattle.line_laws.proofs.TalkLaws.{end_taken, moves-more, speaks_properly, talking_copy, talking_last_ack, talking_newest, talking_next_piece}
pub use Rattle.line_laws.proofs.TalkLaws.{talking_passes, talking_starts, talking_tick_one, talking_tick_two}
pub use Rattle.line_laws.proofs.TimeLaws.{ack_is_no_data}
pub use Rattle.line_laws.proofs.TraceLaws.{faults_push, other_no_repeat}
pub use Rattle.line_laws.proofs.TurnLaws.{Active, active_begun, active_goes_on, active_taken, no_ack-push}
pub use Rattle.line_laws.proofs.UnsaidLaws.{parts-from, parts-say, unsaid-none}
pub use Rattle.line_laws.specs.Came.{came_by, data_taken, is_taken}
pub use Rattle.line_laws.specs.Core.{Apart, Awaits, Follows, Side, Waiting, ack_frame, data_frame, key_now, part_now}
pub use Rattle.line_laws.specs.Framing.{CameByCursor, IsNoAbort, PassesFrame}
pub use Rattle.line_laws.specs.Hearing.{heard}
pub use Rattle.line_laws.proofs.Places.{CoreAt, LineAt, TalkingAt}
pub use Rattle.line_laws.specs.Measure.{measure}
pub use Rattle.line_laws.specs.Progress.{IsBlocked}
pub use Rattle.line_laws.specs.Talking.{Moves, Speech, count_messages, left, part_at, say, unsaid}
pub use Rattle.line_laws.specs.Trace.{AcksFollow, NoAck}
pub use Rattle.line_script.specs.Rules.{RuleValue}
pub use Rattle.line_script.specs.Scripts.{fate_by}
pub use Rattle.line_steps.specs.Acknowledging.{EndsAcknowledging, last_key}
pub use Rattle.line_steps.specs.Adding.{AddsFrame, AddsOne, AddsTwo, AllBy, IsFirst, StartsWith}
pub use Rattle.line_steps.specs.Advancing.{Advances, FallsShort, IsUp, StandsStill, WhereDown, piece_total, took_count}
pub use Rattle.line_steps.specs.Carrying.{HasMessage, Reaches, SameMessage, StepTo, makes_whole}
pub use Rattle.line_steps.specs.Counting.{CountsTaken, Lands, counts, landed}
pub use Rattle.line_steps.specs.Halting.{EndsWith, HaltsBetween, HaltsBy, IsSpent, NotAgain, Spoke, HasProperPast, TenFaults, is_aborted, other_end}
pub use Rattle.line_steps.specs.Hearing.{Hears, counted, tally_after}
pub use Rattle.line_steps.specs.Marking.{Marks}
pub use Rattle.line_steps.specs.Promising.{FairIsNeverDown, HaltedIsProper, HaltedTells, RunningIsProper, TellsOf, TurnTellsAll}
pub use Rattle.line_steps.specs.Resting.{IsNew}
pub use Rattle.line_steps.specs.Running.{AllGo, AtHead, ComesNext, Goes, MovesReceiver, Holds, IsHalf, MovesCursor, MovesReader, SamePlace, Stays, past_now, sent_of, side_of, station_of}
pub use Rattle.line_steps.specs.Sending.{Halts, Sends, StopsBy, ack_fragment, in_place}
pub use Rattle.line_steps.specs.Settling.{AllTaken}
pub use Rattle.line_steps.specs.Stories.{HeardOf, TookMessages, part_of_now, told_from}
pub use Rattle.line_steps.specs.Taking.{AckNext, DataHeard, Delivers}
pub use Rattle.line_steps.specs.Telling.{IsInTurn, IsNextTo, KeepsAll, KeepsTalk, RecordsFrames, TellsTalk, Talks, cursor_of, cursors}
pub use Rattle.line_steps.specs.Ticking.{SendsAgain}
pub use Rattle.line_steps.specs.Turning.{IsAllTaken, Turn, TurnAfter, TurnBehind}
pub use Rattle.line_steps.specs.Underway.{StillUnderway, Underway, UnderwayBehind}
pub use Rattle.line_steps.specs.Working.{work_left}
pub use Rattle.line_steps.specs.declared.half.Half.{Half}
pub use Rattle.line_steps.specs.declared.half.Wire.{Wire}
pub use Rattle.line_steps.specs.declared.harm.Stop.{Stop}
pub use Rattle.line_steps.specs.declared.harm.Stop.TheVariants.{Aborted, Undetected, Unplugged}
pub use Rattle.line_steps.specs.declared.hearing.Heard.{Heard}
pub use Rattle.line_steps.specs.declared.hearing.Heard.TheVariants.{Ack, Nothing}
pub use Rattle.line_steps.specs.declared.sending.Halt.{Halt}
pub use Rattle.line_steps.specs.declared.sending.Halt.TheVariants.{Down, NoMemory, Stopped}
pub use Rattle.padp_link.proofs.PieceLaws.{flag_last}
pub use Rattle.padp_link.proofs.ReceiverLaws.{is_complete-pieces, whole_of-held}
pub use Rattle.padp_link.proofs.SenderLaws.{waiting_is, waiting_none}
pub use Rattle.padp_link.proofs.TextLaws.{one_fragment}
pub use Rattle.padp_link.proofs.WaitingLaws.{ack-IsFragment, waiting-fragment, waiting-piece_of}
pub use Rattle.padp_link.specs.Arrivals.{Bears}
pub use Rattle.padp_link.specs.Collecting.{data_fragment, taken_pieces}
pub use Rattle.padp_link.specs.FragmentText.{FragmentText, FragmentValue, IsFragment, fragment_text, has_flag}
pub use Rattle.padp_link.specs.FragmentValues.{fragment_value}
pub use Rattle.padp_link.specs.Neighbours.{session_id}
pub use Rattle.padp_link.specs.Pieces.{fragment_of, key_of, piece_count, piece_flags, piece_of, pieces}
pub use Rattle.padp_link.specs.Receivers.{Answers, ReceiverValue, after_answer, whole_of}
pub use Rattle.padp_link.specs.Senders.{SenderValue, Waits, WaitsOnLast, waiting, waiting_key}
pub use Rattle.padp_link.specs.declared.fragment.PadpKind.{PadpKind}
pub use Rattle.padp_link.specs.declared.fragment.PadpKind.TheVariants.{Abort, Data, Tickle}
pub use Rattle.padp_link.specs.declared.piece.Key.{Key}
pub use Rattle.padp_link.specs.declared.piece.Piece.{Piece}
pub use Rattle.padp_link.specs.declared.receiver.Taken.{Taken}
pub use Rattle.padp_link.specs.declared.receiver.Taken.TheVariants.{Accepted, Dropped, Repeated, Whole}
pub use Rattle.slp_frames.proofs.PlaceLaws.{length-packet_text, place_of-packet}
pub use Rattle.slp_frames.proofs.ScanLaws.{scan_packet_text}
pub use Rattle.slp_frames.specs.Histories.{raised}
pub use Rattle.slp_frames.specs.PacketScan.{Dead, Open, has_packet, is_open, packet_at, scan}
pub use Rattle.slp_frames.specs.PacketText.{HasText, PacketValue, packet_text}
pub use Rattle.slp_frames.specs.PacketValues.{handed_out, lent_value}
pub use Rattle.slp_frames.specs.Readers.{ReaderValue, TallyValue}
pub use Rattle.slp_frames.specs.declared.packet.PacketLent.{PacketLent}
pub use Rattle.std.proofs.Common.{Bool, List, None, Option, Some, Vec, [], ap, arith, bit_xor, cond, drop, false, get_or, inl, inr, leb, length, map, nat_eq}
pub use Rattle.std.proofs.Common.{not, refl, reverse, subst, suc, sym, take, true, zero, ℕ, ◌%◌, ◌&&◌, ◌++◌, ◌+◌, ◌-◌, ◌<◌, ◌^◌, ◌||◌, ◌∙◌, ◌∷◌, ◌≡◌, ◌≤◌, ◌⊎◌}
pub use Rattle.std.proofs.Common.{rules}
pub use Rattle.std.proofs.Math.Seq.{drop-append-add, drop-append_seam, drop-cons, take-suc}
pub use Rattle.std.proofs.lemmas.Bool.{and_from, and_parts, both_ways, cases_Bool, cases_lt, cond-false, cond-true, eq-eqb, eqb-false, eqb-true, ltb-false}
pub use Rattle.std.proofs.lemmas.Bool.{ltb-true, ne_eqb}
pub use Rattle.std.proofs.lemmas.List.{append-nil, append_assoc, drop-append-le, length-append, length-drop, length-map, length-reverse, length-take}
pub use Rattle.std.proofs.lemmas.List.{map-append, reverse-append, take-append-drop, take_all}
pub use Rattle.std.proofs.lemmas.List.FromFn.{length-map-range_with_len}
pub use Rattle.std.proofs.lemmas.Option.{get_or_from_slice_get, slice_get_read, slice_get_within}
pub use Rattle.std.proofs.lemmas.Result.{IfOk-weaker, err_from_is_err_and, on_ok_weaker}
pub use Rattle.std.specs.Int.Bits.{xor_zero_r}
pub use Rattle.std.specs.List.{AllByRecursion}
pub use Rattle.std.specs.Option.{is_some, option_map, unwrap_or}
pub use Rattle.std.specs.Prelude.{Err, IfErr, Ok, OnOk, Result, if◌then◌else◌, slice_get, slice_set}
pub use Rattle.std.specs.declared.alloc.Global.{Global}
pub use Rattle.trace_text.specs.Fates.{Cut, FateValue, Hit, Late, Lost, Noise, Unplug, Untouched, arrives, ends_run, fate_value, hit_at, holds_packet, is_fault}
pub use Rattle.trace_text.specs.Fates.{landing, strange_bytes, xored}
pub use Rattle.trace_text.specs.Faults.{RepeatsHaveFaults, comes, count, data_comes, faulted, is_faulty, is_late, late_of}
pub use Rattle.trace_text.specs.Frames.{BearsFragment, MayBear, add_frame, came_in, course_of, fields_of, fragment_in, is_abort, is_data_kind, padp_packet}
pub use Rattle.trace_text.specs.Frames.{past_behind, past_of, sent_in}
pub use Rattle.trace_text.specs.Parts.{Part, add_part, key_of_part, message_parts, part_of, session_parts, spoken, taken}
pub use Rattle.trace_text.specs.Past.{FrameCourse, IsAckOf, IsDataOf, PastFrame, acked, at, data_of, first, is_data_of, is_end, run, said}
pub use Rattle.trace_text.specs.Proper.{AcksAreFor, AreNumbered, DataIsAcked, EndReached, IfAnswers, IsProper, SpeaksProperly, data_that_came}
pub use Rattle.trace_text.specs.Stories.{IsStory, IsStoryOf, IdMessage, told_parts}
pub use Rattle.trace_text.specs.Talks.{Talk, answer_to, answered_by, messages_of, pieces_before}
pub use Rattle.trace_text.specs.Tallies.{faults_from}
pub use Rattle.trace_text.specs.TraceLines.{FrameValue, frame_value}
pub use Rattle.trace_text.specs.declared.frame.End.{End}
pub use Rattle.trace_text.specs.declared.frame.End.TheVariants.{Desktop, Handheld}
pub use Rattle.trace_text.specs.FrameLogs.{FrameLogValue, IsFrameAt, KeepsRoom, marked}
pub use Rattle.trace_text.specs.Lent.{fate_with, lent_fate, lent_frame}
pub use Rattle.trace_text.specs.declared.frame.Frame.{Frame}
pub use Rattle.std.proofs.lemmas.Grind.{common_steps}
