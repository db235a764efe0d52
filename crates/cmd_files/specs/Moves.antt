-- What is told of databases that a session moved.
use Rattle.std.specs.Prelude.{◌≡◌, ℕ, map, Option, None, Some, Result, Ok, Err}
use Rattle.std.specs.Global.{Vec}
use Rattle.desktop_session.specs.declared.fault.SessionFault.TheVariants as session
use Rattle.session_parts.specs.declared.report.DbReport.{DbReport}
use Rattle.session_parts.specs.declared.report.Did.{Did}
use Rattle.session_parts.specs.declared.report.Did.TheVariants.{Skipped, Installed, BackedUp}
use Rattle.session_parts.specs.declared.skip.Skip.TheVariants as skip
use Rattle.session_parts.specs.declared.stop.Stop.{Stop}
use Rattle.session_parts.specs.declared.stop.Stop.TheVariants as stop
use Rattle.install_backup.specs.declared.moved.Moved.{Moved}
use Rattle.cmd_files.specs.declared.moved.Way.{Way}
use Rattle.cmd_files.specs.declared.moved.Way.TheVariants.{ToHandheld, ToFiles}

-- so many entries were installed or backed up, or a read-only database was passed over
abbrev pub moved_did : Way → Option ℕ → Did
moved_did ToHandheld (Some entries) = Installed entries
moved_did ToHandheld None = Skipped skip.ReadOnly
moved_did ToFiles (Some entries) = BackedUp entries
moved_did ToFiles None = Skipped skip.ReadOnly

abbrev pub moved_report : Way → Moved → DbReport
moved_report way moved = record { name = moved.name; did = moved_did way moved.entries }

-- what a session tells that answered this: of each database, unless memory ran out for it
abbrev pub TellsMoves : Way → Result (Vec Moved) Stop → Result (Vec DbReport) Stop → Type 0
TellsMoves way (Ok moved) (Ok reports) = reports.items ≡ map (moved_report way) moved.items
TellsMoves way (Ok moved) (Err why) = why ≡ stop.Session session.NoMemory
TellsMoves way (Err cause) (Ok reports) = ⊥
TellsMoves way (Err cause) (Err why) = why ≡ cause
