-- What a handheld is once a database was taken away, made, filled and closed: each request may be asked, and the database is the installed one.
use Rattle.std.proofs.Common.{◌≡◌, ◌∙◌, ap, refl, sym, subst, ℕ, not, Bool, true, false, cond, List, [], ◌∷◌, ◌++◌}
use Rattle.std.specs.Prelude.{Option, Some, None, Ok}
use Rattle.std.specs.Option.{option_map}
use Rattle.std.specs.Str.{bytes_eq}
use Rattle.pdb_values.specs.Databases.{DatabaseValue}
use Rattle.pdb_values.specs.Heads.{is_read_only}
use Rattle.pdb_values.specs.NamedDatabases.{NamesRise, database_of, replaced, with_put}
use Rattle.pdb_values.specs.declared.head.DbHead.{DbHead}
use Rattle.pdb_values.proofs.NamedLaws.{NamesRise-replaced, NamesRise-with_put, bytes_eq-own, database_of-replaced, database_of-same, database_of-with_put}
use Rattle.dlp_replies.specs.ReplyValues as reply
use Rattle.dlp_replies.specs.ReplyValues.{ReplyValue}
use Rattle.palm_device.specs.Blocks.{with_app, with_sort}
use Rattle.palm_device.specs.Devices.{Device, with_database}
use Rattle.palm_device.specs.Handles.{Base, base_at, is_writable, just_opened, no_handles, with_handle}
use Rattle.dlp_commands.specs.DeviceSteps.{tried}
use Rattle.dlp_commands.specs.Reached.{writes}
use Rattle.dlp_commands.specs.Writings as writing
use Rattle.dlp_commands.specs.Writings.{WritingValue, written_in}
use Rattle.desktop_session.specs.Acts.{Act, acted}
use Rattle.desktop_session.specs.Orders.{AreInOrder, IsPossible}
use Rattle.desktop_session.specs.Requests.{writing_app, writing_sort}
use Rattle.desktop_session.specs.Tellings.{device_after}
use Rattle.desktop_session.proofs.ChangeRows.{row_does}
use Rattle.desktop_session.proofs.RowLaws.{writes_row}
use Rattle.install_backup.specs.Installed.{installed_block}
use Rattle.install_backup.specs.InstallActs as acts

-- ---- acts that may be asked one after another

pub record Goes (acts : List Act) (old new : Device) : Type 0 where
  pub order : AreInOrder acts old
  pub after : device_after acts old ≡ new

pub goes_none : (device : Device) → Goes [] device device
goes_none device = record { order = tt; after = refl }

pub goes_one : {one : Act} {old new : Device} → IsPossible one old → (acted one old).1 ≡ new → Goes (one ∷ []) old new
goes_one can is = record { order = (can, tt); after = is }

pub goes_then : (xs ys : List Act) {old mid new : Device} → Goes xs old mid → Goes ys mid new → Goes (xs ++ ys) old new
goes_then [] ys {old} {mid} {new} first second = subst (λ d. Goes ys d new) (sym first.after) second
goes_then (x ∷ xs) ys {old} {mid} {new} first second =
    let later = goes_then xs ys {old = (acted x old).1} {mid = mid} {new = new} (record { order = first.order.1; after = first.after }) second in
    record { order = (first.order.0, later.order); after = later.after }

-- ---- the database that is open

-- the handheld with this database under its name, open under handle 1 as one that was made
abbrev pub filled : Device → DatabaseValue → Device
filled device database = record device {
  databases = with_put database device.databases;
  handles = with_handle 1 (Some (just_opened database.head.name 0xC0)) no_handles;
}

abbrev pub made_base : DatabaseValue → Base
made_base database = record { opened = just_opened database.head.name 0xC0; database = database }

pub found : (database : DatabaseValue) (databases : List DatabaseValue) → database_of database.head.name (with_put database databases) ≡ Some database
found database databases =
    database_of-with_put database.head.name database databases
    ∙ ap (λ b. cond b (Some database) (database_of database.head.name databases)) (bytes_eq-own database.head.name)

pub leads : (device : Device) (database : DatabaseValue) → base_at (filled device database) 1 ≡ Some (made_base database)
leads device database =
    ap (λ (o : Option DatabaseValue). option_map (λ (d : DatabaseValue). let base : Base = record { opened = just_opened database.head.name 0xC0; database = d }
    in base) o) (found database device.databases)

pub replaced-with_put : (new old : DatabaseValue) (databases : List DatabaseValue) → NamesRise databases → new.head.name ≡ old.head.name
    → replaced new (with_put old databases) ≡ with_put new databases
replaced-with_put new old databases rise same =
    let there : database_of new.head.name (with_put old databases) ≡ Some old =
    ap (λ n. database_of n (with_put old databases)) same ∙ found old databases in
    database_of-same (replaced new (with_put old databases)) (with_put new databases)
    (NamesRise-replaced new (with_put old databases) (NamesRise-with_put old databases rise)) (NamesRise-with_put new databases rise) (λ name.
    database_of-replaced name new old (with_put old databases) there
    ∙ ap (λ (o : Option DatabaseValue). cond (bytes_eq new.head.name name) (Some new) o) (database_of-with_put name old databases
    ∙ ap (λ n. cond (bytes_eq n name) (Some old) (database_of name databases)) (sym same))
    ∙ twice (bytes_eq new.head.name name) (Some new) (Some old) (database_of name databases)
    ∙ sym (database_of-with_put name new databases))
  where
    twice : (b : Bool) (x y z : Option DatabaseValue) → cond b x (cond b y z) ≡ cond b x z
    twice true x y z = refl
    twice false x y z = refl

-- ---- what is written into it

module _ (device : Device) (rise : NamesRise device.databases) where
  pub wrote : (one : Act) (asked : WritingValue) (database changed : DatabaseValue) (answer : ReplyValue)
      → tried one.given (filled device database) one.asks ≡ writes one.given (filled device database) 1 asked
      → is_writable (made_base database) ≡ true → written_in one.given asked database ≡ Ok (changed, answer) → changed.head ≡ database.head
      → (acted one (filled device database)).1 ≡ filled device changed
  wrote one asked database changed answer row writable done same =
      row_does one (filled device database) (with_database (filled device database) changed) answer
      (row ∙ writes_row one.given (filled device database) 1 asked (made_base database) changed answer (leads device database) writable done)
      ∙ (λ k. record device {
        databases = replaced-with_put changed database device.databases rise (ap (λ (h : DbHead). h.name) same) k;
        handles = with_handle 1 (Some (just_opened (sym same k).name 0xC0)) no_handles;
      })

  -- a database of this head that may be written
  abbrev pub Writable : DatabaseValue → Type 0
  Writable database = is_read_only database.head.attributes ≡ false

  pub writable_base : (database : DatabaseValue) → Writable database → is_writable (made_base database) ≡ true
  writable_base database may = ap not may

  -- ---- the blocks

  pub app_goes : (database : DatabaseValue) (block : Option (List ℕ)) → Writable database → database.app ≡ None
      → Goes (acts.block_acts writing_app 1 block) (filled device database) (filled device (record database { app = installed_block block }))
  unfolding IsPossible tried
  app_goes database None may none = record { order = tt; after = λ k. filled device (record database { app = none k }) }
  app_goes database (Some []) may none = record { order = tt; after = λ k. filled device (record database { app = none k }) }
  app_goes database (Some (byte ∷ bytes)) may none =
      goes_one (rw (leads device database) (writable_base database may))
      (wrote (writing_app 1 (byte ∷ bytes)) (writing.AppBlock (byte ∷ bytes)) database (with_app (byte ∷ bytes) database) reply.WriteAppBlock refl
      (writable_base database may) refl refl)

  pub sort_goes : (database : DatabaseValue) (block : Option (List ℕ)) → Writable database → database.sort ≡ None
      → Goes (acts.block_acts writing_sort 1 block) (filled device database) (filled device (record database { sort = installed_block block }))
  unfolding IsPossible tried
  sort_goes database None may none = record { order = tt; after = λ k. filled device (record database { sort = none k }) }
  sort_goes database (Some []) may none = record { order = tt; after = λ k. filled device (record database { sort = none k }) }
  sort_goes database (Some (byte ∷ bytes)) may none =
      goes_one (rw (leads device database) (writable_base database may))
      (wrote (writing_sort 1 (byte ∷ bytes)) (writing.SortBlock (byte ∷ bytes)) database (with_sort (byte ∷ bytes) database) reply.WriteSortBlock refl
      (writable_base database may) refl refl)
