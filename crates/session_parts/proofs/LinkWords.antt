-- The words in which the laws of a session over a link speak.
pub use Rattle.dlp_commands.specs.declared.link.LinkFault.{LinkFault}
pub use Rattle.dlp_commands.specs.Talks.{Talk}
pub use Rattle.desktop_session.specs.declared.fault.SessionFault.{SessionFault}
pub use Rattle.desktop_session.specs.declared.ending.Ended.{Ended}
pub use Rattle.desktop_session.specs.declared.ending.Halted.{Halted}
pub use Rattle.desktop_session.specs.Acts.{Act, AsksNoId}
unfoldable pub use Rattle.desktop_session.specs.Acts.{acted, text}
pub use Rattle.desktop_session.specs.Answers.{answer_by, handle_of, mapped, no_more, said_in, user_of}
pub use Rattle.desktop_session.specs.Ends.{end_of, link_ended}
pub use Rattle.desktop_session.specs.Requests.{beginning, cleaning, closing, counting, ending, listing, listing_ids, making, marked_name, marking}
pub use Rattle.desktop_session.specs.Requests.{opening, putting, reading_at, reading_next, reading_of, reading_user, removing, resetting, secret_bit}
pub use Rattle.desktop_session.specs.Says.{said}
unfoldable pub use Rattle.desktop_session.specs.Says.{saying}
pub use Rattle.desktop_session.specs.Sessions.{SessionValue}
pub use Rattle.desktop_session.specs.Stops.{AsksOne, Does, Stops}
pub use Rattle.desktop_session.specs.Tellings.{IsTellable, device_after}
unfoldable pub use Rattle.desktop_session.specs.Tellings.{told}
