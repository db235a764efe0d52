-- What a handheld gets: replacements, and new records under ids that were free.
use Rattle.std.proofs.lemmas.Grind.{common_steps}
use Rattle.std.proofs.Common.{◌≡◌, ◌∙◌, ◌≤◌, ◌<◌, ◌+◌, ◌==◌, refl, ap, ℕ, true, List, [], ◌∷◌, ◌++◌, length, if◌then◌else◌, arith}
use Rattle.std.specs.Prelude.{◌||◌, not, nat_lt, is_none, Option, Some, None, replicate, IfSome}
use Rattle.std.specs.List.{AllByRecursion}
use Rattle.std.proofs.lemmas.Bool.Decides.{nat_tests}
use Rattle.pdb_values.specs.Contents.{ContentValue}
use Rattle.pdb_values.specs.Databases.{DatabaseValue}
use Rattle.pdb_values.specs.declared.record.Record.{Record}
use Rattle.pdb_values.specs.declared.user.UserInfo.{UserInfo}
use Rattle.palm_device.specs.Devices.{Device}
use Rattle.palm_device.specs.Handles.{base_at}
use Rattle.palm_device.specs.Records.{IsFree, given_id, is_new, place_of_id, put_record}
use Rattle.palm_device.specs.declared.opened.Opened.{Opened}
use Rattle.palm_device.proofs.RecordLaws.{put_record_new}
use Rattle.conduit_rules.specs.ById.{at}
use Rattle.conduit_rules.specs.States.{first}
use Rattle.record_merge.specs.Writes.{AreFree, adding, after, numbered, replaces}
use Rattle.record_merge.proofs.AfterLaws.{place-first}
use Rattle.record_merge.proofs.PutLaws.{Apart, appended, put_record-cons, put_record-nil, appended-put}
use Rattle.desktop_session.specs.Acts.{Act, acted}
use Rattle.desktop_session.specs.Requests.{putting}
use Rattle.desktop_session.specs.Tellings.{device_after}
use Rattle.mirrors.specs.News.{as_new, puts}
use Rattle.front_laws.specs.Given.{GetFreeIds}
use Rattle.front_laws.proofs.WriteActs.{CanPut, IsSorted, MayWrite, holding, holding_base, put_does}

-- ---- the acts, apart

pub puts-append : (es ns : List (ℕ × ContentValue)) (ids : List ℕ)
    → puts 1 (replicate (length es) 0 ++ ids) (es ++ ns) ≡ puts 1 (replicate (length es) 0) es ++ puts 1 ids ns
unfolding puts
puts-append [] ns ids = refl
puts-append (e ∷ es) ns ids = ap (λ (zs : List Act). putting 0 1 e.0 e.1 ∷ zs) (puts-append es ns ids)

pub free-append : (xs ys : List Act) (device : Device) → GetFreeIds (xs ++ ys) device → GetFreeIds ys (device_after xs device)
free-append [] ys device free = free
free-append (x ∷ xs) ys device free = free-append xs ys (acted x device).1 free.1

pub free-front : (xs ys : List Act) (device : Device) → GetFreeIds (xs ++ ys) device → GetFreeIds xs device
free-front [] ys device free = tt
free-front (x ∷ xs) ys device free = (free.0, free-front xs ys (acted x device).1 free.1)

-- ---- room

-- how many records there are then
pub put-length : (i : ℕ) (c : ContentValue) (rs : List Record) → length (put_record i c rs) ≡ length rs + (if is_none (first i rs) then 1 else 0)
put-length i c [] = ap length (put_record-nil i c)
put-length i c (r ∷ rs) = grind (arith, put_record-cons i c r rs, put-length i c rs)

appended-length : (e : ℕ × ContentValue) (es : List (ℕ × ContentValue)) (rs : List Record)
    → length (appended rs (e ∷ es)) ≡ (if is_none (first e.0 rs) then 1 else 0) + length (appended rs es)
appended-length e es rs = grind arith

pub room_then : (e : ℕ × ContentValue) (es : List (ℕ × ContentValue)) (rs : List Record) → at e.0 es ≡ None
    → length rs + length (appended rs (e ∷ es)) ≤ 65535 → length (put_record e.0 e.1 rs) + length (appended (put_record e.0 e.1 rs) es) ≤ 65535
room_then e es rs none few =
    grind (
      arith,
      put-length e.0 e.1 rs,
      length (appended (put_record e.0 e.1 rs) es),
      length (appended rs es),
      appended-put e es rs none,
      appended-length e es rs,
    )

pub room_now : (e : ℕ × ContentValue) (es : List (ℕ × ContentValue)) (rs : List Record) → 0 < e.0 → length rs + length (appended rs (e ∷ es)) ≤ 65535
    → (not (is_new e.0 rs) || nat_lt (length rs) 65535) ≡ true
room_now e es rs some few = by (place_of_id e.0 rs) refl
  where
    by : (p : Option ℕ) → place_of_id e.0 rs ≡ p → (not ((e.0 == 0) || is_none p) || nat_lt (length rs) 65535) ≡ true
    by (Some place) is = grind (arith, nat_tests, some)
    by None is =
        let none = place-first e.0 rs is in
        let more : length (appended rs (e ∷ es)) ≡ 1 + length (appended rs es) = appended-length e es rs
        ∙ ap (λ (o : Option Record). (if is_none o then 1 else 0) + length (appended rs es)) none in
        let less : length rs < 65535 = omega (arith, more, few) in
        grind (arith, nat_tests, less)

-- how many records there are behind the replacements
pub replaces-length : (es : List (ℕ × ContentValue)) (rs : List Record) → Apart es
    → length (after (replaces es) rs) ≡ length rs + length (appended rs es)
replaces-length [] rs apart = omega arith
replaces-length (e ∷ es) rs apart =
    grind (
      arith,
      replaces-length es (put_record e.0 e.1 rs) apart.1,
      put-length e.0 e.1 rs,
      length (appended (put_record e.0 e.1 rs) es),
      length (appended rs es),
      appended-put e es rs apart.0,
      appended-length e es rs,
    )

-- ---- replacements

pub record IsReplacement (e : ℕ × ContentValue) : Type 0 where
  pub some : 0 < e.0
  pub can : CanPut e.0 e.1

pub own_id : (i : ℕ) → given_id 0 i ≡ i
own_id i = grind (arith, common_steps)

pub replaces_do : {o : Opened} {d : DatabaseValue} {databases : List DatabaseValue} (user : UserInfo) (rs : List Record) (es : List (ℕ × ContentValue))
    → MayWrite o d databases → AllByRecursion IsReplacement es → Apart es → length rs + length (appended rs es) ≤ 65535
    → device_after (puts 1 (replicate (length es) 0) es) (holding o d databases user rs) ≡ holding o d databases user (after (replaces es) rs)
unfolding puts
replaces_do user rs [] may each apart few = refl
replaces_do user rs (e ∷ es) may each apart few =
    grind (
      arith,
      length es,
      put_does user rs 0 e.0 e.1 may each.0.can (room_now e es rs each.0.some few),
      own_id e.0,
      replaces_do user (put_record e.0 e.1 rs) es may each.1 apart.1 (room_then e es rs apart.0 few),
    )

-- ---- new records

-- what was made of the database, and that each record got an id that was free
pub record AreAdded (o : Opened) (d : DatabaseValue) (databases : List DatabaseValue) (user : UserInfo) (rs : List Record) (given : List ℕ)
    (cs : List ContentValue) : Type 0 where
  pub does : device_after (puts 1 given (as_new cs)) (holding o d databases user rs) ≡ holding o d databases user (after (adding (numbered given cs)) rs)
  pub free : AreFree (numbered given cs) rs
  pub each : length cs ≤ length given

pub is_free : {o : Opened} {d : DatabaseValue} {databases : List DatabaseValue} (user : UserInfo) (rs : List Record) (g : ℕ) → MayWrite o d databases
    → IfSome (base_at (holding o d databases user rs) 1) (λ base. ◌≡◌ {A = ℕ} 0 0 → IsFree g base.database.records) → IsFree g rs
is_free user rs g may if_some = grind (arith, holding_base may user rs)

pub add_room : (rs : List Record) → length rs < 65535 → (not (is_new 0 rs) || nat_lt (length rs) 65535) ≡ true
add_room rs few = grind (arith, nat_tests, few)

pub adds_do : {o : Opened} {d : DatabaseValue} {databases : List DatabaseValue} (user : UserInfo) (rs : List Record) (given : List ℕ) (cs : List ContentValue)
    → MayWrite o d databases → AllByRecursion IsSorted cs → length rs + length cs ≤ 65535
    → GetFreeIds (puts 1 given (as_new cs)) (holding o d databases user rs) → AreAdded o d databases user rs given cs
unfolding puts
adds_do user rs [] [] may each few free = record { does = refl; free = tt; each = omega arith }
adds_do user rs (g ∷ gs) [] may each few free = record { does = refl; free = tt; each = omega arith }
adds_do user rs [] (c ∷ cs) may each few free = grind (arith, is_free user rs 0 may free.0)
adds_do user rs (g ∷ gs) (c ∷ cs) may each few free =
    grind (
      arith,
      is_free user rs g may free.0,
      put_record_new g c rs (is_free user rs g may free.0).none,
      length (put_record g c rs),
      length rs,
      put-length g c rs,
      place-first g rs (is_free user rs g may free.0).none,
      put_does user rs g 0 c may (record { bounded = omega arith; sorted = each.0 }) (add_room rs (omega (arith, few))),
      adds_do user (put_record g c rs) gs cs may each.1,
    )
