-- Ids that are free at their turn.
use Rattle.std.proofs.Common.{refl, ℕ, List, [], ◌∷◌, ◌++◌, map}
use Rattle.std.specs.List.{AllByRecursion}
use Rattle.sync_session.proofs.MeetingWords.{ContentValue, purged_ids, choice, seen_held, before_writes, Meeting, Task}
use Rattle.palm_device.specs.Devices.{Device}
use Rattle.dlp_commands.specs.DeviceSteps.{FormMayGive}
use Rattle.session_parts.proofs.LinkWords.{Act, AsksNoId, acted, closing, removing, cleaning, resetting, putting, device_after}
use Rattle.mirrors.specs.News.{AreFreeFor, AreIdsOf, purge_writes, puts}
use Rattle.session_parts.specs.Given.{GetFreeIds}
use Rattle.sync_session.specs.News.{purge_acts}
use Rattle.sync_session.proofs.SaidLaws.{HoldsOfOpens, opened-all, writes-all}
use Rattle.desktop_session.proofs.TellLaws.{form_gives}
use Rattle.desk_journal.proofs.StepLaws.{all-append}

-- ---- acts that ask for no id

-- an act that asks for no id
pub record NoId (one : Act) : Type 0 where
  pub is : AsksNoId one.asks

pub act_free : (one : Act) (device : Device) → NoId one → FormMayGive device one.given one.asks.form one.asks.fields
act_free one device none = form_gives device one.given one.asks.form one.asks.fields none.is

pub none_free : (acts : List Act) (device : Device) → AllByRecursion NoId acts → GetFreeIds acts device
none_free [] device all = tt
none_free (one ∷ acts) device all = (act_free one device all.0, none_free acts (acted one device).1 all.1)

pub free-append : (xs ys : List Act) (device : Device) → GetFreeIds xs device → GetFreeIds ys (device_after xs device) → GetFreeIds (xs ++ ys) device
free-append [] ys device first second = second
free-append (x ∷ xs) ys device first second = (first.0, free-append xs ys (acted x device).1 first.1 second)

-- ---- those of a session

opens-none : HoldsOfOpens NoId
opens-none = record { opens = λ name. record { is = refl }; closes = record { is = refl } }

pub writes-none : (meeting : Meeting) → AllByRecursion NoId (before_writes meeting)
writes-none =
    writes-all {P = NoId} (record { users = record { is = refl }; begins = record { is = refl }; lists = λ start. record { is = refl } }) opens-none
    (record {
      counts = record { is = refl };
      lists = λ start. record { is = refl };
      nexts = record { is = refl };
      ids = λ id. record { is = refl };
      places = λ index. record { is = refl };
    })

removes-none : (handle : ℕ) (ids : List ℕ) → AllByRecursion NoId (map (removing handle) ids)
removes-none handle [] = tt
removes-none handle (id ∷ ids) = (record { is = refl }, removes-none handle ids)

pub purge_acts-none : (meeting : Meeting) (task : Task) → AllByRecursion NoId (purge_acts meeting task)
unfolding purge_acts
purge_acts-none meeting task =
    let ids : List ℕ = purged_ids (choice meeting task).keep (seen_held meeting task) in
    opened-all opens-none task.name (purge_writes 1 ids)
    (all-append NoId (map (removing 1) ids) (cleaning 1 ∷ resetting 1 ∷ []) (removes-none 1 ids) (record { is = refl }, (record { is = refl }, tt)))

-- ---- puts

pub puts_free : (handle : ℕ) (entries : List (ℕ × ContentValue)) (given : List ℕ) (device : Device) → AreIdsOf entries given
    → AreFreeFor handle entries given device → GetFreeIds (puts handle given entries) device
unfolding puts
puts_free handle [] given device own free = tt
puts_free handle (e ∷ es) [] device own free = absurd own
puts_free handle (e ∷ es) (g ∷ given) device own free =
    (free.0, puts_free handle es given (acted (putting g handle e.0 e.1) device).1 own.1 free.1)

-- a database is opened or made for its news, and closed
pub around_free : (one : Act) (acts : List Act) (device : Device) → NoId one → GetFreeIds acts (acted one device).1
    → GetFreeIds (one ∷ (acts ++ closing 1 ∷ [])) device
around_free one acts device none free =
    (act_free one device none, free-append acts (closing 1 ∷ []) (acted one device).1 free (tt, tt))
