-- What a mirror asks for fits into messages, and new records get ids that are free at their turn.
use Rattle.std.proofs.Common.{◌≤◌, ◌<◌, ◌^◌, refl, ℕ, zero, suc, List, [], ◌∷◌, ◌++◌, map, arith, rules}
use Rattle.std.specs.List.{AllByRecursion}
use Rattle.pdb_values.specs.Contents.{ContentValue}
use Rattle.palm_device.specs.Devices.{Device}
use Rattle.desktop_session.specs.Acts.{Act, acted}
use Rattle.desktop_session.specs.Requests.{putting, reading_at, removing}
use Rattle.desktop_session.specs.Tellings.{AreSayable}
use Rattle.desktop_session.proofs.RequestFits.{at_fits, clean_fits, count_fits, putting_fits, remove_fits, reset_fits}
use Rattle.desktop_session.proofs.TellLaws.{act_sayable}
use Rattle.mirrors.specs.News.{AreFreeFor, AreIdsOf, ArePuttable, purge_writes, puts}
use Rattle.mirrors.specs.Reads.{reads, slow_reads}

-- what can be said of any device can be said behind others
sayable-append : (xs ys : List Act) (device : Device) → AreSayable xs device → ((device : Device) → AreSayable ys device) → AreSayable (xs ++ ys) device
sayable-append [] ys device first second = second device
sayable-append (x ∷ xs) ys device first second = (first.0, sayable-append xs ys (acted x device).1 first.1 second)

reads_sayable : (handle count : ℕ) (device : Device) → handle < 2 ^ 8 → count ≤ 2 ^ 16 → AreSayable (reads handle count) device
unfolding reads
reads_sayable handle zero device byte few = tt
reads_sayable handle (suc count) device byte few =
    sayable-append (reads handle count) (reading_at handle count ∷ []) device (reads_sayable handle count device byte (omega arith))
    (λ d. (act_sayable (reading_at handle count).asks d (at_fits handle count byte (omega arith)) refl, tt))

pub slow_sayable : (device : Device) (handle count : ℕ) → handle < 2 ^ 8 → count ≤ 2 ^ 16 → AreSayable (slow_reads handle count) device
slow_sayable device handle count byte few = search (rules, act_sayable, count_fits, reads_sayable)

pub puts_sayable : (device : Device) (handle : ℕ) (entries : List (ℕ × ContentValue)) (given : List ℕ) → handle < 2 ^ 8 → ArePuttable entries
    → AreIdsOf entries given → AreFreeFor handle entries given device → AreSayable (puts handle given entries) device
unfolding puts
puts_sayable device handle [] given byte bounded ids free = tt
puts_sayable device handle (e ∷ es) [] byte bounded ids free = absurd ids
puts_sayable device handle (e ∷ es) (g ∷ gs) byte bounded ids free =
    let within = bounded.0 in (
      record { request = putting_fits handle e.0 e.1 byte (omega (arith, within.0)) (omega (arith, within.1)) within.2; free = free.0 },
      puts_sayable (acted (putting g handle e.0 e.1) device).1 handle es gs byte bounded.1 ids.1 free.1,
    )

removes_sayable : (device : Device) (handle : ℕ) (ids : List ℕ) → handle < 2 ^ 8 → AllByRecursion (λ (id : ℕ). id ≤ 16777215) ids
    → AreSayable (map (removing handle) ids) device
removes_sayable device handle [] byte bounded = tt
removes_sayable device handle (id ∷ ids) byte bounded = (
  act_sayable (removing handle id).asks device (remove_fits handle id byte (omega (arith, bounded.0))) refl,
  removes_sayable (acted (removing handle id) device).1 handle ids byte bounded.1,
)

pub purges_sayable : (device : Device) (handle : ℕ) (ids : List ℕ) → handle < 2 ^ 8 → AllByRecursion (λ (id : ℕ). id ≤ 16777215) ids
    → AreSayable (purge_writes handle ids) device
purges_sayable device handle ids byte bounded = search (rules, sayable-append, removes_sayable, act_sayable, clean_fits, reset_fits)
