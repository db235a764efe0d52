-- Whatever is opened, written and closed under handle 1 leaves nothing open.
use Rattle.std.proofs.Common.{◌≡◌, ◌∙◌, refl, ap, ℕ, List, [], ◌∷◌, ◌++◌, map, Option, Some, None, Ok, Err, replicate}
use Rattle.std.specs.List.{AllByRecursion}
use Rattle.std.specs.Option.{option_map}
use Rattle.pdb_values.specs.Contents.{ContentValue}
use Rattle.pdb_values.specs.declared.head.DbHead.{DbHead}
use Rattle.pdb_values.specs.PalmDates.{wire_date}
use Rattle.pdb_values.specs.declared.user.UserInfo.{UserInfo}
use Rattle.dlp_replies.specs.ReplyValues as reply
use Rattle.dlp_replies.specs.ReplyValues.{ReplyValue}
use Rattle.palm_device.specs.Devices.{Device}
use Rattle.palm_device.specs.Handles.{base_at, is_writable, just_opened, no_handles, with_handle}
use Rattle.palm_device.specs.declared.opened.Opened.{Opened}
use Rattle.dlp_commands.specs.DatabaseFunctions.{close_db, create_db, open_db}
use Rattle.dlp_commands.specs.DeviceSteps.{outcome, tried}
use Rattle.dlp_commands.specs.Errors.{none_open, read_only, check, need}
use Rattle.dlp_commands.specs.Reached.{Trial, writes}
use Rattle.session_parts.proofs.LinkWords.{Talk, Act, acted, cleaning, closing, making, marked_name, marking, opening, putting, removing, resetting, secret_bit}
use Rattle.session_parts.proofs.LinkWords.{said, saying, device_after}
use Rattle.dlp_commands.specs.UserFunctions.{chosen, marked, name_length, write_user_info}
use Rattle.dlp_commands.specs.Writings as writing
use Rattle.dlp_commands.specs.Writings.{WritingValue, written_in}
use Rattle.desktop_session.proofs.TellLaws.{IfDone, Opens, done_then, open_done, said_device}
use Rattle.mirrors.specs.News.{purge_writes, puts}
use Rattle.session_parts.proofs.HandleLaws.{make_done}
use Rattle.session_parts.proofs.RestLaws.{outcome_is}
use Rattle.desktop_session.proofs.ListLaws.{after_append}
use Rattle.desk_journal.proofs.StepLaws.{all-append}

-- something is open under handle 1, or nothing is, and under no other handle
pub record OneOpen (device : Device) : Type 0 where
  pub slot : Option Opened
  pub is : device.handles ≡ with_handle 1 slot no_handles

-- ---- opening

one_opens : (name : List ℕ) (mode : ℕ) (answer : ReplyValue) (r : Trial) → IfDone (Opens name mode answer) r
    → IfDone (λ (done : Device × ReplyValue). OneOpen done.0) r
one_opens name mode answer (Ok done) opens = record { slot = Some (just_opened name mode); is = opens.handles }
one_opens name mode answer (Err code) opens = tt

-- an act that opens, or that doesn't, on a device on which nothing is open
pub record OpensOne (one : Act) : Type 0 where
  pub at : (device : Device) → device.handles ≡ no_handles → OneOpen (acted one device).1

pub opening_one : (name : List ℕ) → OpensOne (opening name)
unfolding acted tried
opening_one name = record {
  at = λ device none. outcome_is OneOpen device 0x17 (open_db device 0 0xD0 name) (record { slot = None; is = none })
      (one_opens name 0xD0 (reply.OpenDb 1) (open_db device 0 0xD0 name) (open_done device 0xD0 name none));
}

pub making_one : (head : DbHead) → OpensOne (making head)
unfolding acted tried
making_one head = record {
  at = λ device none.
      let made = create_db device head.creator.0 head.kind.0 0 head.attributes head.version head.name in
      outcome_is OneOpen device 0x18 made (record { slot = None; is = none })
      (one_opens head.name 0xC0 (reply.CreateDb 1) made (make_done device head.creator.0 head.kind.0 head.attributes head.version head.name none));
}

-- ---- writing

-- an act that opens and closes nothing
pub record KeepsHandles (one : Act) : Type 0 where
  pub at : (device : Device) → (acted one device).1.handles ≡ device.handles

pub writes_keep : (free : ℕ) (device : Device) (handle number : ℕ) (asked : WritingValue)
    → (outcome device number (writes free device handle asked)).1.handles ≡ device.handles
writes_keep free device handle number asked =
    let P : Device × ReplyValue → Type 0 = λ done. done.0.handles ≡ device.handles in
    outcome_is (λ d. d.handles ≡ device.handles) device number (writes free device handle asked) refl
    (done_then (need none_open (base_at device handle)) _ P (λ base a.
    done_then (check read_only (is_writable base)) _ P (λ allowed b.
    done_then (written_in free asked base.database) _ P (λ changed c. refl))))

putting_keeps : (given handle id : ℕ) (content : ContentValue) → KeepsHandles (putting given handle id content)
unfolding acted tried
putting_keeps given handle id content = record {
  at = λ device. writes_keep given device handle 0x21 (writing.WriteRecord id (secret_bit content.secret) content.category content.bytes);
}

removing_keeps : (handle id : ℕ) → KeepsHandles (removing handle id)
unfolding acted tried
removing_keeps handle id = record { at = λ device. writes_keep 0 device handle 0x22 (writing.DeleteRecord 0 id) }

marks_keep : (device : Device) (user viewer pc : ℕ) (date : List ℕ) (bits name_len : ℕ) (name : Option (List ℕ))
    → IfDone (λ (done : Device × ReplyValue). done.0.handles ≡ device.handles) (write_user_info device user viewer pc date bits name_len name)
unfolding write_user_info
marks_keep device user viewer pc date bits name_len name =
    done_then (marked user viewer pc date bits name_len name device.user) _ (λ (done : Device × ReplyValue). done.0.handles
    ≡ device.handles) (λ known a. refl)

pub marking_keeps : (mark : UserInfo) (bits : ℕ) → KeepsHandles (marking mark bits)
unfolding acted tried
marking_keeps mark bits = record {
  at = λ device.
      let wanted : Option (List ℕ) = marked_name bits mark.name in
      let dated : List ℕ = chosen 0x20 bits (wire_date mark.last) (replicate 8 0) in
      outcome_is (λ d. d.handles ≡ device.handles) device 0x11
      (write_user_info device (chosen 0x80 bits mark.user 0) (chosen 0x08 bits mark.viewer 0) (chosen 0x40 bits mark.pc 0) dated bits
      (name_length wanted) wanted)
      refl
      (marks_keep device (chosen 0x80 bits mark.user 0) (chosen 0x08 bits mark.viewer 0) (chosen 0x40 bits mark.pc 0) dated bits (name_length wanted) wanted);
}

pub puts_keep : (handle : ℕ) (given : List ℕ) (entries : List (ℕ × ContentValue)) → AllByRecursion KeepsHandles (puts handle given entries)
unfolding puts
puts_keep handle given [] = tt
puts_keep handle [] (e ∷ es) = (putting_keeps 0 handle e.0 e.1, puts_keep handle [] es)
puts_keep handle (g ∷ gs) (e ∷ es) = (putting_keeps g handle e.0 e.1, puts_keep handle gs es)

removes_keep : (handle : ℕ) (ids : List ℕ) → AllByRecursion KeepsHandles (map (removing handle) ids)
removes_keep handle [] = tt
removes_keep handle (id ∷ ids) = (removing_keeps handle id, removes_keep handle ids)

pub purges_keep : (handle : ℕ) (ids : List ℕ) → AllByRecursion KeepsHandles (purge_writes handle ids)
unfolding acted tried
purges_keep handle ids =
    all-append KeepsHandles (map (removing handle) ids) (cleaning handle ∷ resetting handle ∷ []) (removes_keep handle ids) (
      record { at = λ device. writes_keep 0 device handle 0x26 writing.CleanUp },
      (record { at = λ device. writes_keep 0 device handle 0x27 writing.ResetFlags }, tt),
    )

handles_after : (acts : List Act) (device : Device) → AllByRecursion KeepsHandles acts → (device_after acts device).handles ≡ device.handles
handles_after [] device all = refl
handles_after (one ∷ acts) device all = handles_after acts (acted one device).1 all.1 ∙ all.0.at device

-- ---- closing

closed_by : (device : Device) (slot : Option Opened) → device.handles ≡ with_handle 1 slot no_handles → (acted (closing 1) device).1.handles ≡ no_handles
unfolding acted tried close_db
closed_by device None is = rw is refl
closed_by device (Some opened) is = rw is refl

-- nothing is open behind it
pub around_none : (first : Act) (acts : List Act) (device : Device) → OpensOne first → AllByRecursion KeepsHandles acts → device.handles ≡ no_handles
    → (device_after (first ∷ (acts ++ closing 1 ∷ [])) device).handles ≡ no_handles
around_none first acts device opens keeps none =
    let open_now = opens.at device none in
    let now : Device = (acted first device).1 in
    let written : (device_after acts now).handles ≡ with_handle 1 open_now.slot no_handles = handles_after acts now keeps ∙ open_now.is in
    ap (λ (d : Device). d.handles) (after_append acts (closing 1 ∷ []) now) ∙ closed_by (device_after acts now) open_now.slot written

-- ---- a link that tells a device on which nothing is open

pub record TellsClosed (told : Option Talk) : Type 0 where
  pub talk : Talk
  pub is : told ≡ Some talk
  pub closed : talk.device.handles ≡ no_handles

-- acts behind which nothing is open
pub record LeavesClosed (acts : List Act) : Type 0 where
  pub at : (device : Device) → device.handles ≡ no_handles → (device_after acts device).handles ≡ no_handles

pub closed_on : (acts : List Act) (told : Option Talk) → TellsClosed told → LeavesClosed acts → TellsClosed (saying acts told)
unfolding saying
closed_on acts told tells leaves = record {
  talk = said acts tells.talk;
  is = ap (option_map (said acts)) tells.is;
  closed = ap (λ (d : Device). d.handles) (said_device acts tells.talk) ∙ leaves.at tells.talk.device tells.closed;
}

pub around_closed : (first : Act) (acts : List Act) → OpensOne first → AllByRecursion KeepsHandles acts → LeavesClosed (first ∷ (acts ++ closing 1 ∷ []))
around_closed first acts opens keeps = record { at = λ device none. around_none first acts device opens keeps none }

pub none_closed : LeavesClosed []
none_closed = record { at = λ device none. none }

pub keeps_closed : (one : Act) → KeepsHandles one → LeavesClosed (one ∷ [])
keeps_closed one keeps = record { at = λ device none. keeps.at device ∙ none }
