-- The words in which the laws of what a session plans speak.
pub use Rattle.pdb_values.specs.Contents.{ContentValue}
pub use Rattle.pdb_values.specs.Databases.{DatabaseValue}
pub use Rattle.pdb_values.specs.declared.head.DbHead.{DbHead}
pub use Rattle.conduit_rules.specs.Plans.{IsPlan, kept_rows}
pub use Rattle.conduit_rules.specs.declared.planned.Plan.{Plan}
pub use Rattle.desk_store.specs.Shelves.{ShelvesValue}
pub use Rattle.desk_store.specs.Views.{DeskValue, marks_in, parted_in, shelves_in}
pub use Rattle.session_plan.specs.declared.planned.Planned.{Planned}
pub use Rattle.session_plan.specs.Tasks.{names_of, with_name, with_names}
