-- What requests that name databases of some names alone leave as it was: the user, and each database of another name.
use Rattle.std.proofs.Common.{inl, inr, ◌⊎◌, ◌++◌, sym, ◌≡◌, ◌∙◌, ◌-◌, ◌==◌, ap, refl, subst, ℕ, zero, suc, not, Bool, true, false, cond, List, [], ◌∷◌, map, take, length}
use Rattle.std.specs.Prelude.{Option, None, Some, IfSome, option_and_then, slice_get, slice_set, is_none, nat_lt}
use Rattle.std.specs.List.{AllByRecursion}
use Rattle.std.specs.Option.{option_map}
use Rattle.std.specs.Str.{bytes_eq}
use Rattle.pdb_values.specs.Databases.{DatabaseValue}
use Rattle.pdb_values.specs.NamedDatabases.{database_of}
use Rattle.pdb_values.proofs.NamedLaws.{bytes_eq-is}
use Rattle.dlp_args.specs.Fields.{Fields}
use Rattle.dlp_requests.specs.Forms as form
use Rattle.dlp_requests.specs.Forms.{Form, kinds_of}
use Rattle.dlp_requests.specs.RequestTexts.{IsRequest}
use Rattle.dlp_replies.specs.ReplyValues.{ReplyValue}
use Rattle.palm_device.specs.Devices.{Device}
use Rattle.palm_device.specs.Handles.{Base, base_at, base_of, free_handle, is_open, is_writable, joined, just_opened, no_handles, opened_at}
use Rattle.palm_device.specs.declared.opened.Opened.{Opened}
use Rattle.palm_device.proofs.BoundLaws.{AllByRecursion-get}
use Rattle.dlp_commands.specs.DatabaseFunctions.{close_db, create_db, delete_db, named}
use Rattle.dlp_commands.specs.DeviceRuns.{Ran, exchanged}
use Rattle.dlp_commands.specs.DeviceSteps.{DeviceStep, function_number, outcome, tried, tried_by}
use Rattle.dlp_commands.specs.Errors.{already_open, exists, limit, none_open, not_found, read_only, too_many_open, check, need}
use Rattle.dlp_commands.specs.Reached.{Trial, writes}
use Rattle.dlp_commands.specs.Targets.{is_name, target_by, target_of, writable_name}
use Rattle.dlp_commands.specs.Writings as writing
use Rattle.dlp_commands.specs.Writings.{WritingValue, written_in}
use Rattle.dlp_commands.proofs.StepLaws.{stepped, target_keeps}
use Rattle.desktop_session.specs.Acts.{Act, AsksNoId, acted, text}
use Rattle.desktop_session.specs.Tellings.{device_after}
use Rattle.desktop_session.proofs.ActLaws.{read_back, step_tried, tried_fixed}
use Rattle.desktop_session.proofs.TellLaws.{IfDone, done_then}
use Rattle.session_parts.proofs.RestLaws.{outcome_is}

module _ (mine : List ℕ → Bool) where
  -- what is open has such a name
  abbrev IsMineSlot : Option Opened → Type 0
  IsMineSlot slot = IfSome slot (λ (opened : Opened). mine opened.name ≡ true)

  abbrev pub OpenMine : List (Option Opened) → Type 0
  OpenMine handles = AllByRecursion IsMineSlot handles

  -- the request asks for no id, and makes or takes away a database of such a name alone, or does something under a handle, or is of the session's frame
  abbrev pub IsMineForm : (f : Form) → Fields (kinds_of f) → Type 0
  IsMineForm form.CreateDb (creator, (kind, (card, (pad, (flags, (version, (name, end))))))) = mine name ≡ true
  IsMineForm form.DeleteDb (card, (pad, (name, end))) = mine name ≡ true
  IsMineForm form.ReadUserInfo fields = Unit {0}
  IsMineForm form.OpenConduit fields = Unit {0}
  IsMineForm form.EndOfSync fields = Unit {0}
  IsMineForm form.CloseDb fields = Unit {0}
  IsMineForm form.WriteAppBlock fields = Unit {0}
  IsMineForm form.WriteSortBlock fields = Unit {0}
  IsMineForm form.WriteRecord fields = Unit {0}
  IsMineForm form.WriteResource fields = Unit {0}
  IsMineForm form.ResetSyncFlags fields = Unit {0}
  IsMineForm other fields = ⊥

  abbrev pub IsMine : Act → Type 0
  IsMine one = IsRequest one.asks × AsksNoId one.asks × IsMineForm one.asks.form one.asks.fields

  -- the user stays, and what is open has such a name
  record Leaves (old new : Device) : Type 0 where
    user : new.user ≡ old.user
    open_ones : OpenMine new.handles

  -- ---- what one request leaves

  all_set : (handles : List (Option Opened)) (k : ℕ) (slot : Option Opened) → OpenMine handles → IsMineSlot slot → OpenMine (slice_set handles k slot)
  all_set [] k slot all is = tt
  all_set (x ∷ handles) zero slot all is = (is, all.1)
  all_set (x ∷ handles) (suc k) slot all is = (all.0, all_set handles k slot all.1 is)

  pub none_open_mine : OpenMine no_handles
  none_open_mine = (tt, (tt, (tt, (tt, (tt, (tt, (tt, (tt, tt))))))))

  abbrev LeavesDone : Device → Device × ReplyValue → Type 0
  LeavesDone old done = Leaves old done.0

  makes : (device : Device) (creator kind : List ℕ) (card flags version : ℕ) (name : List ℕ) → mine name ≡ true → OpenMine device.handles
      → IfDone (LeavesDone device) (create_db device creator kind card flags version name)
  unfolding create_db
  makes device creator kind card flags version name is all =
      done_then (named card name) _ (LeavesDone device) (λ right a.
      done_then (check exists (is_none (database_of name device.databases))) _ (LeavesDone device) (λ fresh b.
      done_then (need too_many_open (free_handle device.handles)) _ (LeavesDone device) (λ handle c.
      done_then (check limit (nat_lt (length device.databases) 200)) _ (LeavesDone device) (λ room d.
      record { user = refl; open_ones = all_set device.handles (handle - 1) (Some (just_opened name 0xC0)) all is }))))

  takes : (device : Device) (card : ℕ) (name : List ℕ) → OpenMine device.handles → IfDone (LeavesDone device) (delete_db device card name)
  unfolding delete_db
  takes device card name all =
      done_then (named card name) _ (LeavesDone device) (λ right a.
      done_then (need not_found (database_of name device.databases)) _ (LeavesDone device) (λ database b.
      done_then (check already_open (not (is_open name device.handles))) _ (LeavesDone device) (λ closed c.
      record { user = refl; open_ones = all })))

  closes : (device : Device) (handle : ℕ) → OpenMine device.handles → IfDone (LeavesDone device) (close_db device handle)
  unfolding close_db
  closes device handle all =
      done_then (need none_open (opened_at handle device.handles)) _ (LeavesDone device) (λ opened a.
      record { user = refl; open_ones = all_set device.handles (handle - 1) None all tt })

  changes_one : (free : ℕ) (device : Device) (handle : ℕ) (asked : WritingValue) → OpenMine device.handles
      → IfDone (LeavesDone device) (writes free device handle asked)
  changes_one free device handle asked all =
      done_then (need none_open (base_at device handle)) _ (LeavesDone device) (λ base a.
      done_then (check read_only (is_writable base)) _ (LeavesDone device) (λ allowed b.
      done_then (written_in free asked base.database) _ (LeavesDone device) (λ changed c.
      record { user = refl; open_ones = all })))

  leaves : (free : ℕ) (device : Device) (f : Form) (fields : Fields (kinds_of f)) → IsMineForm f fields → OpenMine device.handles
      → IfDone (LeavesDone device) (tried_by free device f fields)
  leaves free device form.CreateDb (creator, (kind, (card, (pad, (flags, (version, (name, end))))))) is all =
      makes device creator kind card flags version name is all
  leaves free device form.DeleteDb (card, (pad, (name, end))) is all = takes device card name all
  leaves free device form.CloseDb (handle, end) is all = closes device handle all
  leaves free device form.WriteAppBlock (handle, (pad, (bytes, end))) is all = changes_one free device handle (writing.AppBlock bytes) all
  leaves free device form.WriteSortBlock (handle, (pad, (bytes, end))) is all = changes_one free device handle (writing.SortBlock bytes) all
  leaves free device form.WriteRecord (handle, (flags, (id, (attributes, (category, (bytes, end)))))) is all =
      changes_one free device handle (writing.WriteRecord id attributes category bytes) all
  leaves free device form.WriteResource (handle, (pad, (kind, (id, (bytes, end))))) is all =
      changes_one free device handle (writing.WriteResource kind id bytes) all
  leaves free device form.ResetSyncFlags (handle, end) is all = changes_one free device handle writing.ResetFlags all
  leaves free device form.ReadUserInfo fields is all = record { user = refl; open_ones = all }
  leaves free device form.OpenConduit fields is all = record { user = refl; open_ones = all }
  leaves free device form.EndOfSync (status, end) is all = record { user = refl; open_ones = none_open_mine }
  leaves free device f fields is all = absurd is

  -- ---- the database that it may change has such a name

  differ : (one other : List ℕ) → mine one ≡ true → mine other ≡ false → bytes_eq one other ≡ false
  differ one other is not_is = by (bytes_eq one other) refl
    where
      by : (b : Bool) → bytes_eq one other ≡ b → b ≡ false
      by true same = absurd (let eq : mine one ≡ mine other = ap mine (bytes_eq-is one other same) in cc)
      by false same = refl

  open_mine : (handles : List (Option Opened)) (handle : ℕ) → OpenMine handles → IsMineSlot (opened_at handle handles)
  open_mine handles handle all = by (handle == 0) (slice_get handles (handle - 1)) refl
    where
      by : (none : Bool) (o : Option (Option Opened)) → slice_get handles (handle - 1) ≡ o → IsMineSlot (cond none None (joined o))
      by true o is = tt
      by false None is = tt
      by false (Some slot) is = AllByRecursion-get IsMineSlot handles (handle - 1) slot all is

  written_mine : (device : Device) (name : List ℕ) (o : Option Opened) → IsMineSlot o → mine name ≡ false
      → is_name name (writable_name (option_and_then (base_of device) o)) ≡ false
  written_mine device name None is other = refl
  written_mine device name (Some opened) is other = by (database_of opened.name device.databases)
    where
      by : (o : Option DatabaseValue)
          → is_name name (writable_name (option_map (λ (d : DatabaseValue). let base : Base = record { opened = opened; database = d } in base) o)) ≡ false
      by None = refl
      by (Some d) = chosen (is_writable (record { opened = opened; database = d }))
        where
          chosen : (b : Bool) → is_name name (cond b (Some opened.name) None) ≡ false
          chosen true = differ opened.name name is other
          chosen false = refl

  not_target : (device : Device) (name : List ℕ) (f : Form) (fields : Fields (kinds_of f)) → IsMineForm f fields → OpenMine device.handles
      → mine name ≡ false → is_name name (target_by device f fields) ≡ false
  not_target device name form.CreateDb (creator, (kind, (card, (pad, (flags, (version, (made, end))))))) is all other = differ made name is other
  not_target device name form.DeleteDb (card, (pad, (gone, end))) is all other = differ gone name is other
  not_target device name form.WriteAppBlock (handle, more) is all other =
      written_mine device name (opened_at handle device.handles) (open_mine device.handles handle all) other
  not_target device name form.WriteSortBlock (handle, more) is all other =
      written_mine device name (opened_at handle device.handles) (open_mine device.handles handle all) other
  not_target device name form.WriteRecord (handle, more) is all other =
      written_mine device name (opened_at handle device.handles) (open_mine device.handles handle all) other
  not_target device name form.WriteResource (handle, more) is all other =
      written_mine device name (opened_at handle device.handles) (open_mine device.handles handle all) other
  not_target device name form.ResetSyncFlags (handle, more) is all other =
      written_mine device name (opened_at handle device.handles) (open_mine device.handles handle all) other
  not_target device name form.CloseDb fields is all other = refl
  not_target device name form.ReadUserInfo fields is all other = refl
  not_target device name form.OpenConduit fields is all other = refl
  not_target device name form.EndOfSync fields is all other = refl
  not_target device name f fields is all other = absurd is

  -- ---- one act, and acts

  pub record Keeps (old new : Device) : Type 0 where
    pub user : new.user ≡ old.user
    pub open_ones : OpenMine new.handles
    pub others : (name : List ℕ) → mine name ≡ false → database_of name new.databases ≡ database_of name old.databases

  keeps_one : (one : Act) (old new : Device) (reply : List ℕ) → IsMine one → OpenMine old.handles → DeviceStep old (text one) reply new → Keeps old new
  unfolding text tried
  keeps_one one old new reply is all step =
      let done : outcome old (function_number one.asks) (tried step.free old one.asks) ≡ (reply, new) = step_tried old new one.asks reply is.0 step in
      let after : Leaves old (outcome old (function_number one.asks) (tried step.free old one.asks)).1
      = outcome_is (Leaves old) old (function_number one.asks) (tried step.free old one.asks) (record { user = refl; open_ones = all })
      (leaves step.free old one.asks.form one.asks.fields is.2 all) in
      let kept : Leaves old new = subst (Leaves old) (ap (λ (p : List ℕ × Device). p.1) done) after in
      record {
        user = kept.user;
        open_ones = kept.open_ones;
        others = λ name other. target_keeps old new (text one) reply name (stepped old new (text one) reply step)
            (ap (λ read. is_name name (target_of old read)) (read_back one.asks is.0) ∙ not_target old name one.asks.form one.asks.fields is.2 all other);
      }

  same_keeps : (old new : Device) → OpenMine old.handles → new ≡ old → Keeps old new
  same_keeps old new all same = rw same (record { user = refl; open_ones = all; others = λ name other. refl })

  pub keeps-front : (count : ℕ) (acts : List Act) (old new : Device) (replies : List (List ℕ)) → AllByRecursion IsMine acts → OpenMine old.handles
      → Ran old (exchanged (take count (map text acts)) replies) new → Keeps old new
  keeps-front zero acts old new replies are all ran = same_keeps old new all ran
  keeps-front (suc count) [] old new replies are all ran = same_keeps old new all ran
  keeps-front (suc count) (one ∷ acts) old new [] are all ran = same_keeps old new all ran
  keeps-front (suc count) (one ∷ acts) old new (reply ∷ replies) are all ran =
      let first = keeps_one one old ran.0 reply are.0 all ran.1 in
      let rest = keeps-front count acts ran.0 new replies are.1 first.open_ones ran.2 in
      record {
        user = rest.user ∙ first.user;
        open_ones = rest.open_ones;
        others = λ name other. rest.others name other ∙ first.others name other;
      }

  -- ---- acts that were done whole

  pub acts_one : (one : Act) (old new : Device) (reply : List ℕ) → IsMine one → DeviceStep old (text one) reply new → (acted one old).1 ≡ new
  unfolding text acted
  acts_one one old new reply is step =
      ap (λ (r : Trial). (outcome old (function_number one.asks) r).1) (tried_fixed one.given step.free old one.asks is.1)
      ∙ ap (λ (p : List ℕ × Device). p.1) (step_tried old new one.asks reply is.0 step)

  -- a run by a beginning of acts is one by a beginning of the first of them, or goes on behind these
  abbrev pub Within : ℕ → List Act → Device → Device → Type 0
  Within count acts old new = (replies : List (List ℕ)) × Ran old (exchanged (take count (map text acts)) replies) new

  abbrev pub Behind : List Act → Device → Device → Type 0
  Behind acts old new = (count : ℕ) × Within count acts old new

  pub run_cut : (count : ℕ) (xs ys : List Act) (old new : Device) → AllByRecursion IsMine xs → Within count (xs ++ ys) old new
      → Within count xs old new ⊎ Behind ys (device_after xs old) new
  run_cut count [] ys old new are ran = inr (count, ran)
  run_cut zero (one ∷ xs) ys old new are ran = inl ran
  run_cut (suc count) (one ∷ xs) ys old new are ([], ran) = inl ([], ran)
  run_cut (suc count) (one ∷ xs) ys old new are (reply ∷ replies, ran) = by (run_cut count xs ys ran.0 new are.1 (replies, ran.2))
    where
      by : Within count xs ran.0 new ⊎ Behind ys (device_after xs ran.0) new
          → Within (suc count) (one ∷ xs) old new ⊎ Behind ys (device_after (one ∷ xs) old) new
      by (inl within) = inl (reply ∷ within.0, (ran.0, ran.1, within.1))
      by (inr behind) =
          inr (subst (λ (d : Device). Behind ys (device_after xs d) new) (sym (acts_one one old ran.0 reply are.0 ran.1)) behind)
