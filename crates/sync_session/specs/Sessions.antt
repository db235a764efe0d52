-- What a session says: requests in order, each with the id that its new record got, as a list
-- computed from both sides.
use Rattle.std.specs.Prelude.{ℕ, List, [], ◌∷◌, ◌++◌, filter, length, map, max, replicate, sum_by}
use Rattle.std.specs.List.{flat_map}
use Rattle.dlp_commands.specs.Changes.{changes}
use Rattle.desktop_session.specs.Acts.{Act, text}
use Rattle.desktop_session.specs.Lists.{listings}
use Rattle.desktop_session.specs.Requests.{ending, marking}
use Rattle.session_plan.specs.Tasks.{Meeting}
use Rattle.session_parts.specs.Meets.{greeting}
use Rattle.session_plan.specs.Skips.{active}
use Rattle.session_plan.specs.Users.{begun_user, done_of, done_user}
use Rattle.sync_session.specs.Reads.{read_acts}
use Rattle.session_plan.specs.Choosing.{add_count}
use Rattle.sync_session.specs.News.{all_news, purge_acts}

-- the mark that begins what is written (PC, bit 0x40), and the one that ends it (user, PC, date and
-- name: 0xF0)
abbrev pub begin_mark : Meeting → Act
begin_mark meeting = marking (begun_user meeting.device.user) 0x40

-- the mark that ends it: user, PC, date and name (bits 0xF0)
abbrev pub end_mark : Meeting → Act
end_mark meeting =
    marking (done_user meeting.device.user (done_of meeting)) 0xF0

-- the handheld's databases are listed: one request for each, and one where it has none
unfoldable pub listing_all : Meeting → List Act
listing_all meeting = listings (max 1 (length meeting.device.databases))

-- nothing is written yet
unfoldable pub before_writes : Meeting → List Act
before_writes meeting =
    greeting ++ (listing_all meeting ++ flat_map (read_acts meeting) (active meeting))

-- up to the desktop's commit
unfoldable pub before_commit : Meeting → List ℕ → List Act
before_commit meeting given =
    before_writes meeting ++ begin_mark meeting ∷ all_news meeting (active meeting) given

-- behind it
unfoldable pub after_commit : Meeting → List Act
after_commit meeting =
    flat_map (purge_acts meeting) (active meeting) ++ (end_mark meeting ∷ ending ∷ [])

-- the whole, where the new records got these ids
unfoldable pub session : Meeting → List ℕ → List Act
session meeting given = before_commit meeting given ++ after_commit meeting

-- how many ids it gets
unfoldable pub adds_of : Meeting → ℕ
adds_of meeting = sum_by (add_count meeting) (active meeting)

-- the requests; none depends on the ids that are given
unfoldable pub requests : Meeting → List (List ℕ)
requests meeting = map text (session meeting (replicate (adds_of meeting) 0))

-- how many of them stand before the desktop's commit
unfoldable pub writes_before_commit : Meeting → ℕ
writes_before_commit meeting =
    length (filter changes (map text (before_commit meeting (replicate (adds_of meeting) 0))))
