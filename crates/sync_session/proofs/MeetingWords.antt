-- The words in which the laws of a meeting speak.
pub use Rattle.pdb_values.specs.Contents.{ContentValue}
pub use Rattle.pdb_values.specs.Databases.{DatabaseValue}
pub use Rattle.pdb_values.specs.declared.head.DbHead.{DbHead}
pub use Rattle.conduit_rules.specs.Plans.{IsPlan, kept_rows, lost, purged_at, purged_ids, replaced_rows, replacement}
pub use Rattle.conduit_rules.specs.declared.planned.Plan.{Plan}
pub use Rattle.desk_store.specs.Shelves.{AreInOrder, AreOrdered, ShelvesValue, SlotValue, marks_of, new_slot, number_of, slot_at, with_place}
pub use Rattle.desk_store.specs.Views.{DeskValue, marks_in, parted_in, shelves_in}
pub use Rattle.session_plan.specs.declared.job.Job.{Job}
pub use Rattle.session_plan.specs.declared.planned.Planned.{Planned}
pub use Rattle.session_parts.specs.declared.skip.Skip.{Skip}
pub use Rattle.session_plan.specs.Choosing.{action_or_sync, base_rows, base_rows_by, is_fast_by, is_sync, seen_held, sides_by}
unfoldable pub use Rattle.session_plan.specs.Choosing.{agrees, choice, is_fast, sides, view}
pub use Rattle.sync_session.specs.Phases.{gained_by, opened_news, purges_by}
unfoldable pub use Rattle.sync_session.specs.Phases.{gained, news_under, purges_under}
pub use Rattle.sync_session.specs.PlannedTasks.{AreEachPlannedFor, ArePlannedFor, IsPlannedFor, job_for, listed_head}
pub use Rattle.session_parts.specs.Rests.{IsAtRest, IsFirst}
pub use Rattle.session_parts.specs.Meets.{greeting}
unfoldable pub use Rattle.sync_session.specs.Sessions.{adds_of, after_commit, before_commit, before_writes, listing_all, requests, session}
pub use Rattle.session_plan.specs.Skips.{head_of, reason_by}
unfoldable pub use Rattle.session_plan.specs.Skips.{active, skip_of}
pub use Rattle.session_parts.specs.Stretches.{AreFirst, EachSays, SpansBehind, SpansEach, Stretch, done_each, each_acts, says_nothing}
pub use Rattle.session_plan.specs.Tasks.{Meeting, Task, meeting_of, names, names_of, records_of, slot_of, task_of, with_name, with_names}
unfoldable pub use Rattle.session_plan.specs.Tasks.{tasks}
