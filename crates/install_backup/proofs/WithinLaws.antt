-- How far an install goes that stops: of the one that it stops at no more was asked for than that it be made, unless it had room.
use Rattle.std.proofs.lemmas.List.{map-append}
use Rattle.std.proofs.Common.{◌≡◌, ◌∙◌, ap, sym, subst, inl, inr, ◌⊎◌, ℕ, Bool, true, false, cond, List, [], ◌∷◌, ◌++◌, map, append_assoc}
use Rattle.std.specs.Prelude.{Option, Some, None, flat_map}
use Rattle.pdb_values.specs.Databases.{DatabaseValue}
use Rattle.pdb_values.specs.Names.{IsName}
use Rattle.palm_device.specs.Devices.{Device}
use Rattle.palm_device.specs.Handles.{no_handles}
use Rattle.desktop_session.specs.Requests.{deleting}
use Rattle.desktop_session.proofs.StopLaws.{stops_more, stops_then}
use Rattle.session_parts.specs.Rests.{IsAtRest}
use Rattle.session_parts.proofs.LinkWords.{Act, Does, LinkFault, Stops, Talk, text}
use Rattle.session_parts.proofs.StretchLaws.{where_kept}
use Rattle.install_backup.specs.Installed.{with_installed}
use Rattle.install_backup.specs.InstallActs.{install_one, is_installable}
use Rattle.install_backup.specs.InstallEnds.{all_installed, first_full, until_full}
use Rattle.install_backup.specs.Installs.{making_acts}
use Rattle.install_backup.specs.Rooms.{IsWithin, Judges, has_room}
use Rattle.install_backup.proofs.ClosedLaws.{says_one}
use Rattle.install_backup.proofs.GoneLaws.{judged_before}

-- behind the one of its name that was taken away
pub within_before : {L : Type 0} (talk : L → Option Talk) (since : L → L → Type 0) (fault : L → Option LinkFault) (downs : L → ℕ)
    (since_more : (a b c : L) → since a b → since b c → since a c) (made : Act) (name : List ℕ) (old now new : L) → Does talk (deleting name ∷ []) old now
    → Stops talk since fault downs (text (deleting name) ∷ []) old now
    → IsWithin talk since fault downs (λ (device : Device). device.handles ≡ no_handles) (made ∷ []) name now new
    → IsWithin talk since fault downs (λ (device : Device). IsAtRest device × IsName name) (deleting name ∷ made ∷ []) name old new
within_before talk since fault downs since_more made name old now new before stops (inl room) =
    inl (judged_before name true (talk old)
    (subst (λ (o : Option Talk). Judges (λ (device : Device). device.handles ≡ no_handles) true name o) before.said room))
within_before talk since fault downs since_more made name old now new before stops (inr more) =
    inr (stops_then talk since fault downs since_more (deleting name ∷ []) (text made ∷ []) old now new before stops more)

-- what follows where it had room, or that no more was asked for
pub room_or : {Judged Room Stopped : Type 0} → (Judged → Room) → Judged ⊎ Stopped → Room ⊎ Stopped
room_or judged (inl room) = inl (judged room)
room_or judged (inr stops) = inr stops

-- ---- up to the first that has no room

pub until-append : (before rest held : List DatabaseValue) → first_full before held ≡ None
    → until_full (before ++ rest) held ≡ flat_map says_one before ++ until_full rest (all_installed before held)
unfolding until_full
until-append [] rest held none = λ k. until_full rest held
until-append (database ∷ before) rest held none =
    by (is_installable database) (has_room database.head.name held) none (until-append before rest (with_installed database held))
    (until-append before rest held)
  where
    by : (b c : Bool) → cond b (cond c (first_full before (with_installed database held)) (Some database.head.name)) (first_full before held) ≡ None
        → (first_full before (with_installed database held) ≡ None
        → until_full (before ++ rest) (with_installed database held)
        ≡ flat_map says_one before ++ until_full rest (all_installed before (with_installed database held)))
        → (first_full before held ≡ None
        → until_full (before ++ rest) held ≡ flat_map says_one before ++ until_full rest (all_installed before held))
        → cond b (cond c (install_one database 1 [] ++ until_full (before ++ rest) (with_installed database held)) (making_acts database))
        (until_full (before ++ rest) held)
        ≡ (where_kept b (install_one database 1 []) ++ flat_map says_one before)
        ++ until_full rest (all_installed before (cond b (with_installed database held) held))
    by true true none one two =
        ap (λ (acts : List Act). install_one database 1 [] ++ acts) (one none)
        ∙ sym (append_assoc (install_one database 1 []) (flat_map says_one before) (until_full rest (all_installed before (with_installed database held))))
    by true false none one two = absurd cc
    by false c none one two = two none

module _ {L : Type 0} (talk : L → Option Talk) (since : L → L → Type 0) (fault : L → Option LinkFault) (downs : L → ℕ) where
  making_of : {requests : List (List ℕ)} {a b : L} → (false ≡ true) ⊎ Stops talk since fault downs requests a b → Stops talk since fault downs requests a b
  making_of (inl room) = absurd cc
  making_of (inr stops) = stops

  -- what was asked for of one begins what is asked for of it and those behind it
  pub until_one : (one : DatabaseValue) (rest held : List DatabaseValue) (a b : L) → Stops talk since fault downs (map text (says_one one)) a b
      → (is_installable one ≡ true → (has_room one.head.name held ≡ true) ⊎ Stops talk since fault downs (map text (making_acts one)) a b)
      → Stops talk since fault downs (map text (until_full (one ∷ rest) held)) a b
  unfolding until_full
  until_one one rest held a b stops within = by (is_installable one) (has_room one.head.name held) stops within
    where
      by : (kept room : Bool) → Stops talk since fault downs (map text (where_kept kept (install_one one 1 []))) a b
          → (kept ≡ true → (room ≡ true) ⊎ Stops talk since fault downs (map text (making_acts one)) a b)
          → Stops talk since fault downs (map text (cond kept
          (cond room (install_one one 1 [] ++ until_full rest (with_installed one held)) (making_acts one)) (until_full rest held))) a b
      by true true stops within =
          rw (map-append text (install_one one 1 []) (until_full rest (with_installed one held)))
          (stops_more talk since fault downs (map text (install_one one 1 [])) (map text (until_full rest (with_installed one held))) a b stops)
      by true false stops within = making_of (within (λ k. true))
      by false room stops within = stops_more talk since fault downs [] (map text (until_full rest held)) a b stops
