-- A session's installs leave nothing open, and are those of the list.
use Rattle.std.proofs.Common.{◌≡◌, ◌∙◌, ap, refl, sym, ℕ, Bool, true, false, cond, List, [], ◌∷◌, ◌++◌, map}
use Rattle.std.specs.Prelude.{Option, Some, None, flat_map, filter}
use Rattle.std.specs.List.{AllByRecursion}
use Rattle.pdb_values.specs.Databases.{DatabaseValue}
use Rattle.pdb_values.specs.Heads.{holds_resources}
use Rattle.pdb_values.specs.declared.record.Record.{Record}
use Rattle.pdb_values.specs.declared.resource.Resource.{Resource}
use Rattle.dlp_commands.specs.DeviceSteps.{tried}
use Rattle.dlp_commands.specs.Writings as writing
use Rattle.desktop_session.specs.Requests.{deleting, secret_bit, writing_app, writing_sort}
use Rattle.session_parts.specs.Rests.{IsFirst}
use Rattle.session_parts.specs.Stretches.{AreFirst, Stretch, each_acts}
use Rattle.session_parts.proofs.CloseLaws.{KeepsHandles, LeavesClosed, TellsClosed, around_closed, closed_on, making_one, none_closed, writes_keep}
use Rattle.session_parts.proofs.LinkWords.{Act, Talk, acted, making, resetting}
use Rattle.session_parts.proofs.StretchLaws.{Leads, Steps, flat_map-kept, stretches_lead, where_kept}
use Rattle.install_backup.specs.Installed.{installed_head, installed_records}
use Rattle.install_backup.specs.InstallActs as acts
use Rattle.install_backup.specs.InstallActs.{entry_acts, fill_acts, install_one, installs_of, installs_under, is_installable}
use Rattle.install_backup.proofs.GoneLaws.{deleting_keeps}
use Rattle.desk_journal.proofs.StepLaws.{all-append}

app_keeps : (block : Option (List ℕ)) → AllByRecursion KeepsHandles (acts.block_acts writing_app 1 block)
unfolding acted tried
app_keeps None = tt
app_keeps (Some []) = tt
app_keeps (Some (byte ∷ bytes)) = (record { at = λ device. writes_keep 0 device 1 0x1C (writing.AppBlock (byte ∷ bytes)) }, tt)

sort_keeps : (block : Option (List ℕ)) → AllByRecursion KeepsHandles (acts.block_acts writing_sort 1 block)
unfolding acted tried
sort_keeps None = tt
sort_keeps (Some []) = tt
sort_keeps (Some (byte ∷ bytes)) = (record { at = λ device. writes_keep 0 device 1 0x1E (writing.SortBlock (byte ∷ bytes)) }, tt)

records_keep : (records : List Record) → AllByRecursion KeepsHandles (map (acts.put_record 1) records)
unfolding acted tried
records_keep [] = tt
records_keep (item ∷ records) = (
  record {
    at = λ device. writes_keep 0 device 1 0x21 (writing.WriteRecord item.id (secret_bit item.content.secret) item.content.category item.content.bytes);
  },
  records_keep records,
)

resources_keep : (resources : List Resource) → AllByRecursion KeepsHandles (map (acts.put_resource 1) resources)
unfolding acted tried
resources_keep [] = tt
resources_keep (item ∷ resources) =
    (record { at = λ device. writes_keep 0 device 1 0x24 (writing.WriteResource item.kind.0 item.id item.bytes) }, resources_keep resources)

reset_keeps : KeepsHandles (resetting 1)
unfolding acted tried
reset_keeps = record { at = λ device. writes_keep 0 device 1 0x27 writing.ResetFlags }

entries_keep : (database : DatabaseValue) → AllByRecursion KeepsHandles (entry_acts 1 database)
unfolding entry_acts
entries_keep database = by (holds_resources database.head.attributes)
  where
    by : (b : Bool) → AllByRecursion KeepsHandles (cond b (map (acts.put_resource 1) database.resources)
        (acts.record_acts 1 (installed_records database.records)))
    by true = resources_keep database.resources
    by false =
        all-append KeepsHandles (map (acts.put_record 1) (installed_records database.records)) (resetting 1 ∷ [])
        (records_keep (installed_records database.records)) (reset_keeps, tt)

fill_keeps : (database : DatabaseValue) (given : List ℕ) → AllByRecursion KeepsHandles (fill_acts database 1 given)
unfolding fill_acts
fill_keeps database given =
    all-append KeepsHandles (acts.block_acts writing_app 1 database.app) (acts.block_acts writing_sort 1 database.sort ++ entry_acts 1 database)
    (app_keeps database.app)
    (all-append KeepsHandles (acts.block_acts writing_sort 1 database.sort) (entry_acts 1 database) (sort_keeps database.sort) (entries_keep database))

one_closed : (database : DatabaseValue) → LeavesClosed (install_one database 1 [])
unfolding install_one
one_closed database =
    let rest = around_closed (making (installed_head database.head)) (fill_acts database 1 []) (making_one (installed_head database.head))
    (fill_keeps database []) in
    record { at = λ device none. rest.at (acted (deleting database.head.name) device).1 (deleting_keeps database.head.name device ∙ none) }

-- what is said of one
abbrev pub says_one : DatabaseValue → List Act
says_one database = where_kept (is_installable database) (install_one database 1 [])

kept_closed : (b : Bool) (said : List Act) → LeavesClosed said → LeavesClosed (where_kept b said)
kept_closed true said leaves = leaves
kept_closed false said leaves = none_closed

closed_first : (told : Option Talk) (handle : ℕ) → TellsClosed told → IsFirst told handle → handle ≡ 1
closed_first told handle tells first =
    let here : IsFirst (Some tells.talk) handle = rw tells.is at first in
    here tells.closed

given_none : (database : DatabaseValue) (given : List ℕ) → install_one database 1 given ≡ install_one database 1 []
unfolding install_one fill_acts
given_none database given = refl

pub under_is : (told : Option Talk) (database : DatabaseValue) (handle : ℕ) (given : List ℕ) → handle ≡ 1
    → installs_under told database handle given ≡ says_one database
unfolding installs_under
under_is told database handle given is =
    ap (λ h. cond (is_installable database) (install_one database h given) []) is
    ∙ ap (λ (said : List Act). cond (is_installable database) said []) (given_none database given)
    ∙ kept (is_installable database) (install_one database 1 [])
  where
    kept : (b : Bool) (said : List Act) → cond b said [] ≡ where_kept b said
    kept true said = refl
    kept false said = refl

pub install_steps : Steps installs_under (λ (database : DatabaseValue). database) says_one TellsClosed
install_steps = record {
  acts_are = λ told database one tells first. under_is told database one.handle one.given (closed_first told one.handle tells first);
  known = λ told database tells. closed_on (says_one database) told tells (kept_closed (is_installable database) (install_one database 1 []) (one_closed database));
}

map-self : {A : Type 0} (xs : List A) → map (λ (x : A). x) xs ≡ xs
map-self [] = refl
map-self {A} (x ∷ xs) = ap (λ (ys : List A). x ∷ ys) (map-self xs)

-- some of the installs begin those of the list
pub installs_lead : (told : Option Talk) (databases : List DatabaseValue) (ones : List Stretch) → TellsClosed told
    → AreFirst installs_under told databases ones → Leads (each_acts installs_under told databases ones) (installs_of databases)
unfolding installs_of
installs_lead told databases ones tells firsts =
    let led = stretches_lead install_steps told databases ones tells (rw (map-self databases) firsts) in
    let kept : flat_map says_one databases ≡ flat_map (λ (d : DatabaseValue). install_one d 1 []) (filter is_installable databases) =
    flat_map-kept is_installable (λ (d : DatabaseValue). install_one d 1 []) databases in
    record {
      rest = led.rest;
      is = ap (λ (ds : List DatabaseValue). each_acts installs_under told ds ones ++ led.rest) (sym (map-self databases)) ∙ led.is ∙ kept;
    }
