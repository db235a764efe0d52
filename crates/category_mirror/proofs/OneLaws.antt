-- One database of a handheld on which nothing is open: its block is read, and another one written.
use Rattle.std.proofs.Common.{arith, ◌≡◌, ◌∙◌, ◌≤◌, ap, refl, sym, subst, ℕ, not, true, false, List, [], ◌∷◌, ◌++◌, length, lit<}
use Rattle.std.specs.Prelude.{Option, Some, None, Ok}
use Rattle.std.specs.List.{AllByRecursion}
use Rattle.pdb_values.specs.Blocks.{block_length}
use Rattle.pdb_values.specs.Databases.{DatabaseValue}
use Rattle.pdb_values.specs.Heads.{is_read_only}
use Rattle.pdb_values.specs.Names.{IsName}
use Rattle.pdb_values.specs.NamedDatabases.{database_of, replaced}
use Rattle.pdb_values.proofs.NamedLaws.{AllByRecursion-database_of, database_of-name, replaced-own}
use Rattle.dlp_replies.specs.ReplyValues as reply
use Rattle.palm_device.specs.Blocks.{with_app}
use Rattle.palm_device.specs.Bounds.{IsBoundedDatabase}
use Rattle.palm_device.specs.Devices.{Device, with_database}
use Rattle.palm_device.specs.Handles.{Base, base_at, is_writable}
use Rattle.dlp_commands.specs.DeviceSteps.{tried}
use Rattle.dlp_commands.specs.Writings as writing
use Rattle.dlp_commands.specs.declared.reading.Reading.TheVariants as reading
use Rattle.desktop_session.specs.Acts.{Act, AsksNoId, acted}
use Rattle.desktop_session.specs.Answers.{block_of, or_none, said_in}
use Rattle.desktop_session.specs.Orders.{AreInOrder, CanOpen, IsPossible}
use Rattle.desktop_session.specs.Requests.{closing, opening, reading_app, writing_app}
use Rattle.desktop_session.specs.Tellings.{AreSayable, IsTellable, IsSayable, device_after, told}
use Rattle.desktop_session.proofs.ChangeRows.{row_does}
use Rattle.desktop_session.proofs.GrowLaws.{take_whole}
use Rattle.desktop_session.proofs.RequestFits.{app_fits, close_fits, open_fits, write_app_fits}
use Rattle.desktop_session.proofs.RowLaws.{writes_row}
use Rattle.desktop_session.proofs.TellLaws.{act_sayable, acted_reads, after_proper}
use Rattle.session_parts.specs.Rests.{IsAtRest}
use Rattle.session_parts.proofs.RestLaws.{closes_does, leads_to, opened_on, opened_proper, opens_does, reads_same}
use Rattle.category_mirror.specs.FilingActs.{app_told, block_or_none, writes_where}
use Rattle.desktop_session.proofs.LentLaws.{none_past}

-- ---- acts that may be asked one after another, and what the handheld is then

pub record Goes (acts : List Act) (old new : Device) : Type 0 where
  pub order : AreInOrder acts old
  pub sayable : AreSayable acts old
  pub fixed : AllByRecursion (λ (one : Act). AsksNoId one.asks) acts
  pub after : device_after acts old ≡ new

pub goes_none : (device : Device) → Goes [] device device
goes_none device = record { order = tt; sayable = tt; fixed = tt; after = refl }

pub goes_one : {one : Act} {old new : Device} → IsSayable one old → AsksNoId one.asks → IsPossible one old → (acted one old).1 ≡ new
    → Goes (one ∷ []) old new
goes_one sayable fixed can is = record { order = (can, tt); sayable = (sayable, tt); fixed = (fixed, tt); after = is }

pub goes_then : (xs ys : List Act) {old mid new : Device} → Goes xs old mid → Goes ys mid new → Goes (xs ++ ys) old new
goes_then [] ys {old} {mid} {new} first second = subst (λ d. Goes ys d new) (sym first.after) second
goes_then (x ∷ xs) ys {old} {mid} {new} first second =
    let behind : Goes xs (acted x old).1 mid = record {
      order = first.order.1;
      sayable = first.sayable.1;
      fixed = first.fixed.1;
      after = first.after;
    } in
    let later = goes_then xs ys behind second in
    record {
      order = (first.order.0, later.order);
      sayable = (first.sayable.0, later.sayable);
      fixed = (first.fixed.0, later.fixed);
      after = later.after;
    }

pub goes_to : {acts : List Act} {old mid new : Device} → Goes acts old mid → mid ≡ new → Goes acts old new
goes_to goes is = record { order = goes.order; sayable = goes.sayable; fixed = goes.fixed; after = goes.after ∙ is }

pub goes_proper : {acts : List Act} {old new : Device} → Goes acts old new → IsTellable old → IsTellable new
goes_proper {acts} {old} goes proper = subst IsTellable goes.after (after_proper acts old proper goes.sayable)

-- ---- one database

-- what becomes of it where this block is written, if one is
abbrev pub written_into : DatabaseValue → Option (List ℕ) → DatabaseValue
written_into database None = database
written_into database (Some bytes) = with_app bytes database

-- other databases, and all else as it was
abbrev pub with_databases : List DatabaseValue → Device → Device
with_databases databases device = record device { databases = databases }

-- its acts: its block is read, and this one written
abbrev pub acts_with : List ℕ → Option (List ℕ) → List Act
acts_with name written = opening name ∷ ((reading_app 1 ∷ writes_where 1 written) ++ closing 1 ∷ [])

module _ (device : Device) (rests : IsAtRest device) (name : List ℕ) (database : DatabaseValue) (there : database_of name device.databases ≡ Some database)
    (may : is_read_only database.head.attributes ≡ false) where
  bounded : IsBoundedDatabase database
  bounded = AllByRecursion-database_of IsBoundedDatabase name device.databases database rests.proper.bounded.databases there

  own_name : database.head.name ≡ name
  own_name = database_of-name name device.databases database there

  named : IsName name
  named = subst IsName own_name bounded.head.name

  can : CanOpen device 0 0xD0 name
  can = record { first = refl; named = named; none_open = rests.closed; there = rw there may }

  abbrev pub here : Device
  here = opened_on device name 0xD0 0

  pub opens : (acted (opening name) device).1 ≡ here
  opens = opens_does device name can

  proper_here : IsTellable here
  proper_here = opened_proper device name rests.proper named can

  abbrev base : Base
  base = record { opened = record { name = name; mode = 0xD0; next = 0 }; database = database }

  base_here : base_at here 1 ≡ Some base
  base_here = leads_to device name 0xD0 0 database there

  open_goes : Goes (opening name ∷ []) device here
  unfolding IsPossible
  open_goes = goes_one (act_sayable (opening name).asks device (open_fits 0xD0 name (lit< tt) named) refl) refl can opens

  -- ---- it is read

  app_by : (app : Option (List ℕ)) → database.app ≡ app → block_length app ≤ 65500
      → block_or_none (or_none (said_in 0x1B block_of (Ok (told (reading_app 1) here)))) ≡ app
  unfolding told tried
  app_by None is short = rw (base_here, is) refl
  app_by (Some bytes) is short = rw (base_here, is, none_past (length bytes)) (ap (λ b. Some b) (take_whole bytes 65535 (omega arith)))

  pub app_is : app_told here 1 ≡ database.app
  app_is =
      ap (λ r. block_or_none (or_none (said_in 0x1B block_of r))) (acted_reads (reading_app 1) here proper_here
      (act_sayable (reading_app 1).asks here (app_fits 1 (lit< tt)) refl))
      ∙ app_by database.app refl bounded.whole.short_app

  pub read_same : (acted (reading_app 1) here).1 ≡ here
  unfolding acted tried
  read_same = reads_same here 1 0x1B (reading.AppBlock 0 65535)

  read_goes : Goes (reading_app 1 ∷ []) here here
  unfolding IsPossible
  read_goes = goes_one (act_sayable (reading_app 1).asks here (app_fits 1 (lit< tt)) refl) refl (refl, rw base_here refl) read_same

  -- ---- it is written

  writable : is_writable base ≡ true
  writable = ap not may

  pub wrote : (bytes : List ℕ) → (acted (writing_app 1 bytes) here).1 ≡ with_database here (with_app bytes database)
  unfolding tried
  wrote bytes =
      row_does (writing_app 1 bytes) here (with_database here (with_app bytes database)) reply.WriteAppBlock
      (writes_row 0 here 1 (writing.AppBlock bytes) base (with_app bytes database) reply.WriteAppBlock base_here writable refl)

  -- the handheld with its database changed so
  abbrev pub changed : Option (List ℕ) → Device
  changed written = with_databases (replaced (written_into database written) device.databases) device

  same_databases : replaced database device.databases ≡ device.databases
  same_databases = replaced-own database device.databases (ap (λ n. database_of n device.databases) own_name ∙ there)

  write_goes : (written : Option (List ℕ)) → block_length written ≤ 65500
      → Goes (writes_where 1 written) here (opened_on (changed written) name 0xD0 0)
  unfolding IsPossible
  write_goes None short = goes_to (goes_none here) (λ k. opened_on (with_databases (sym same_databases k) device) name 0xD0 0)
  write_goes (Some bytes) short =
      goes_one (act_sayable (writing_app 1 bytes).asks here (write_app_fits 1 bytes (lit< tt) short) refl) refl (rw base_here writable)
      (wrote bytes)

  pub closed_same : (written : Option (List ℕ)) → (acted (closing 1) (opened_on (changed written) name 0xD0 0)).1 ≡ changed written
  closed_same written = closes_does (changed written) name 0xD0 0 rests.closed

  close_goes : (written : Option (List ℕ)) → Goes (closing 1 ∷ []) (opened_on (changed written) name 0xD0 0) (changed written)
  unfolding IsPossible
  close_goes written =
      goes_one (act_sayable (closing 1).asks (opened_on (changed written) name 0xD0 0) (close_fits 1 (lit< tt)) refl) refl refl (closed_same written)

  -- ---- the whole

  pub acts_go : (written : Option (List ℕ)) → block_length written ≤ 65500 → Goes (acts_with name written) device (changed written)
  acts_go written short =
      goes_then (opening name ∷ []) ((reading_app 1 ∷ writes_where 1 written) ++ closing 1 ∷ []) open_goes
      (goes_then (reading_app 1 ∷ writes_where 1 written) (closing 1 ∷ [])
      (goes_then (reading_app 1 ∷ []) (writes_where 1 written) read_goes (write_goes written short)) (close_goes written))

  pub rests_after : (written : Option (List ℕ)) → block_length written ≤ 65500 → IsAtRest (changed written)
  rests_after written short = record { proper = goes_proper (acts_go written short) rests.proper; closed = rests.closed }
