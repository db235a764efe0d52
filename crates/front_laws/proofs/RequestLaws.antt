-- The requests of a session, up to its commit and behind it, and both sides before it.
use Rattle.std.proofs.Common.{◌≡◌, ◌⊎◌, ◌∙◌, ◌≤◌, ◌<◌, ap, append_assoc, refl, sym, arith, ℕ, List, ◌∷◌, ◌++◌, length}
use Rattle.std.specs.Prelude.{Option, Some, None, IsSome, filter, map, replicate}
use Rattle.std.proofs.lemmas.List.{length-append, map-append}
use Rattle.hs_folders.specs.FileMaps.{FileMap}
use Rattle.hs_folders.specs.Moments.{EachMomentSince, Moments}
use Rattle.hs_folders.proofs.MomentLaws.{moments_weaken}
use Rattle.palm_device.specs.Devices.{Device}
use Rattle.dlp_commands.specs.Changes.{changes}
use Rattle.desk_store.specs.Bounds.{AreBounded}
use Rattle.desk_store.specs.Shelves.{SlotValue}
use Rattle.desk_store.proofs.BoundLaws.{bounded_at}
use Rattle.desk_journal.specs.Overlays.{FinishesAs}
use Rattle.desktop_session.specs.Acts.{text}
use Rattle.desktop_session.specs.Says.{IsPrefix}
use Rattle.sync_session.proofs.IdsLaws.{text-before_commit, text-session}
use Rattle.sync_session.specs.News.{all_news}
use Rattle.session_plan.specs.Skips.{active}
use Rattle.session_plan.specs.Merges.{merged_slots}
use Rattle.sync_session.specs.Outcomes.{MergedSince, StandsForSlots}
use Rattle.sync_session.specs.Sessions.{adds_of, after_commit, before_commit, before_writes, requests, session, writes_before_commit, begin_mark}
use Rattle.session_parts.specs.Rests.{IsAtRest}
use Rattle.session_plan.specs.Tasks.{Meeting, meeting_of, place_for}
use Rattle.session_plan.specs.declared.wishes.Wishes.{Wishes}
use Rattle.front_laws.specs.Sound.{AreSoundWishes, IsSoundMeeting}

-- ---- the session's requests

-- those up to the commit, and those behind it
pub parts-are : (meeting : Meeting) (given : List ℕ) → map text (before_commit meeting given) ++ map text (after_commit meeting) ≡ requests meeting
unfolding session
parts-are meeting given = sym (map-append text (before_commit meeting given) (after_commit meeting)) ∙ text-session meeting given

-- some go out up to the commit that the readings before it don't have
pub before-longer : (meeting : Meeting) (given : List ℕ) → length (map text (before_writes meeting)) < length (map text (before_commit meeting given))
unfolding before_commit
before-longer meeting given =
    grind (
      arith,
      map-append text (before_writes meeting) (begin_mark meeting ∷ all_news meeting (active meeting) given),
      length-append (map text (before_writes meeting)) (map text (begin_mark meeting ∷ all_news meeting (active meeting) given)),
    )

-- what begins a list begins a longer one, and is no longer than it
pub prefix-more : {xs ys : List (List ℕ)} (zs : List (List ℕ)) → IsPrefix xs ys → IsPrefix xs (ys ++ zs)
prefix-more {xs} zs prefix = grind (arith, append_assoc xs prefix.rest zs)

pub prefix-length : {xs ys : List (List ℕ)} → IsPrefix xs ys → length xs ≤ length ys
prefix-length {xs} prefix = let sum = sym (length-append xs prefix.rest) ∙ ap length prefix.is in omega (arith, sum)

-- how many of those up to the commit write
pub writes-before : (meeting : Meeting) (given : List ℕ)
    → length (filter changes (map text (before_commit meeting given))) ≡ writes_before_commit meeting
unfolding writes_before_commit
writes-before meeting given = grind (arith, text-before_commit meeting given (replicate (adds_of meeting) 0))

-- ---- a limit stops a session before it writes

-- what went out is more than what writes nothing
pub no-limit : (meeting : Meeting) (given : List ℕ) (sent_out : List (List ℕ)) (o : Option (List ℕ))
    → length (map text (before_commit meeting given)) ≤ length sent_out → (IsSome o → IsPrefix sent_out (map text (before_writes meeting))) → o ≡ None
no-limit meeting given sent_out None many over = refl
no-limit meeting given sent_out (Some name) many over = grind (arith, prefix-length (over refl), before-longer meeting given)

-- ---- the desktop's folder

-- at each moment it stood for what it stood for at first, or for the merge
pub stood_or_merged : (meeting : Meeting) (given : List ℕ) (files : Option FileMap) (before after : Moments)
    → MergedSince meeting given before after
    → EachMomentSince (λ told. FinishesAs files told ⊎ StandsForSlots (merged_slots meeting given) told) before after
stood_or_merged meeting given files before after since = grind (arith, moments_weaken (StandsForSlots (merged_slots meeting given)))

-- ---- both sides before it

-- with an opened desktop it can have a session
pub sound_meeting : {device : Device} (slots : List SlotValue) (wishes : Wishes) → IsAtRest device → AreBounded slots → AreSoundWishes wishes
    → IsSoundMeeting (meeting_of device slots wishes)
sound_meeting {device} slots wishes rests bounded asked = grind (arith, bounded_at slots (place_for device slots wishes.user) bounded)
