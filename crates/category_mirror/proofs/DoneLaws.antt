-- What a whole session makes of a handheld on which nothing is open.
use Rattle.std.proofs.lemmas.Simd.{map-map}
use Rattle.std.proofs.Common.{arith, ◌≡◌, ◌∙◌, ◌≤◌, ap, refl, sym, ℕ, zero, suc, Bool, true, false, cond, List, [], ◌∷◌, ◌++◌, length, map}
use Rattle.std.specs.Prelude.{Option, Some, None, flat_map, max}
use Rattle.std.specs.Option.{option_map}
use Rattle.pdb_values.specs.Databases.{DatabaseValue}
use Rattle.pdb_values.specs.NamedDatabases.{database_of}
use Rattle.pdb_values.specs.declared.head.DbHead.{DbHead}
use Rattle.pdb_values.proofs.NamedLaws.{database_of-name}
use Rattle.palm_device.specs.Devices.{Device, with_handles}
use Rattle.palm_device.specs.Handles.{no_handles}
use Rattle.dlp_commands.specs.DeviceSteps.{tried}
use Rattle.desktop_session.specs.Acts.{acted}
use Rattle.desktop_session.specs.Lists.{listings}
use Rattle.desktop_session.specs.Orders.{IsPossible}
use Rattle.desktop_session.specs.Requests.{beginning, ending, listing, reading_user}
use Rattle.desktop_session.proofs.RequestFits.{begin_fits, end_fits, list_fits, user_fits}
use Rattle.desktop_session.proofs.TellLaws.{act_sayable}
use Rattle.session_parts.specs.Meets.{greeting}
use Rattle.session_parts.specs.Rests.{IsAtRest}
use Rattle.session_parts.proofs.RestLaws.{greeting_same, listing_same}
use Rattle.session_plan.specs.Fits.{Rise}
use Rattle.session_plan.specs.Tasks.{names_of, with_names}
use Rattle.session_plan.proofs.RiseLaws.{rise-with_names}
use Rattle.category_mirror.specs.Sides.{Filing, before_end, before_mark, device_among, filed_database, filed_device, filed_where, filing_acts, filing_changes, heads_of, is_among, job_acts, jobs, mark_acts, names, shelves_of}
use Rattle.category_mirror.proofs.EvolveLaws.{IsBehind, Turns, behind_none, free_none, jobs_named, turns}
use Rattle.category_mirror.proofs.MarkLaws.{marks_go}
use Rattle.category_mirror.proofs.NamedMaps.{KeepsNames, among-given, among-kept, found-among, listed_of, map-is}
use Rattle.category_mirror.proofs.OneLaws.{Goes, goes_none, goes_one, goes_then, goes_to}

-- ---- what frames a session

pub greeting_goes : (device : Device) → Goes greeting device device
unfolding IsPossible
greeting_goes device = record {
  order = (tt, (tt, tt));
  sayable = (
    act_sayable reading_user.asks device user_fits refl,
    (act_sayable beginning.asks (acted reading_user device).1 begin_fits refl, tt),
  );
  fixed = (refl, (refl, tt));
  after = greeting_same device;
}

pub listings_go : (device : Device) (count : ℕ) → count ≤ 65536 → Goes (listings count) device device
unfolding listings IsPossible
listings_go device zero few = goes_none device
listings_go device (suc count) few =
    goes_then (listings count) (listing count ∷ []) (listings_go device count (omega arith))
    (goes_one (act_sayable (listing count).asks device (list_fits count (omega arith)) refl) refl (refl, refl) (listing_same device count))

end_same : (device : Device) → device.handles ≡ no_handles → (acted ending device).1 ≡ device
unfolding acted tried
end_same device closed = λ k. with_handles device (sym closed k)

pub end_goes : (device : Device) → device.handles ≡ no_handles → Goes (ending ∷ []) device device
unfolding IsPossible
end_goes device closed = goes_one (act_sayable ending.asks device end_fits refl) refl tt (end_same device closed)

-- ---- the names

module _ (filing : Filing) where
  abbrev held : List DatabaseValue
  held = filing.device.databases

  pub names_rise : Rise (names filing)
  names_rise =
      rise-with_names (names_of (shelves_of filing).rows) (with_names (map (λ (head : DbHead). head.name) (heads_of held)) [])
      (rise-with_names (map (λ (head : DbHead). head.name) (heads_of held)) [] tt)

  pub handheld-among : (name : List ℕ) (d : DatabaseValue) → database_of name held ≡ Some d → is_among name (names filing) ≡ true
  handheld-among name d is =
      among-kept name (names_of (shelves_of filing).rows) (with_names (map (λ (head : DbHead). head.name) (heads_of held)) [])
      (among-given name (map (λ (head : DbHead). head.name) (heads_of held)) []
      (ap (is_among name) (map-map (λ (head : DbHead). head.name) listed_of held) ∙ found-among name held d is))

  pub rows-among : (name : List ℕ) (d : DatabaseValue) → database_of name (shelves_of filing).rows ≡ Some d → is_among name (names filing) ≡ true
  rows-among name d is =
      among-given name (names_of (shelves_of filing).rows) (with_names (map (λ (head : DbHead). head.name) (heads_of held)) [])
      (found-among name (shelves_of filing).rows d is)

  -- ---- the databases

  where_keeps : (done : List (List ℕ)) → KeepsNames (filed_where filing done)
  where_keeps done = record { at = λ d. by (is_among d.head.name done) d }
    where
      by : (b : Bool) (d : DatabaseValue) → (cond b (filed_database filing d) d).head.name ≡ d.head.name
      by true d = refl
      by false d = refl

  pub filed_keeps : KeepsNames (filed_database filing)
  filed_keeps = record { at = λ d. refl }

  module _ (rests : IsAtRest filing.device) where
    pub among_are : (done : List (List ℕ)) (device : Device) → IsBehind filing done device → device.databases ≡ (device_among filing done).databases
    unfolding device_among
    among_are done device behind =
        map-is (where_keeps done) held device.databases rests.proper.sound.names behind.rests.proper.sound.names
        (λ name o is. behind.found name ∙ ap (option_map (filed_where filing done)) is)

    all_are : (device : Device) → IsBehind filing (names filing) device → device.databases ≡ map (filed_database filing) held
    all_are device behind =
        map-is filed_keeps held device.databases rests.proper.sound.names behind.rests.proper.sound.names
        (λ name o is. behind.found name ∙ ap (option_map (filed_where filing (names filing))) is ∙ by name o is)
      where
        by : (name : List ℕ) (o : Option DatabaseValue) → database_of name held ≡ o
            → option_map (filed_where filing (names filing)) o ≡ option_map (filed_database filing) o
        by name None is = refl
        by name (Some d) is =
            ap (λ b. let one : Option DatabaseValue = Some (cond b (filed_database filing d) d) in one)
            (ap (λ n. is_among n (names filing)) (database_of-name name held d is) ∙ handheld-among name d is)

    -- ---- the whole

    abbrev pub list_count : ℕ
    list_count = max 1 (length held)

    pub few_lists : list_count ≤ 65536
    few_lists = let few = rests.proper.sound.few in omega (arith, few)

    pub all_turns : Turns filing (names filing) [] filing.device
    all_turns = turns filing (names filing) [] filing.device (behind_none filing rests) names_rise (free_none (names filing))

    -- all blocks are written, and it is not marked yet
    abbrev pub blocks_device : Device
    blocks_device = record filing.device { databases = map (filed_database filing) held }

    blocks_are : all_turns.after ≡ blocks_device
    blocks_are = λ k. record {
      databases = all_are all_turns.after all_turns.behind k;
      user = all_turns.behind.user k;
      handles = (all_turns.behind.rests.closed ∙ sym rests.closed) k;
    }

    pub before_mark_goes : Goes (before_mark filing) filing.device blocks_device
    unfolding before_mark jobs
    before_mark_goes =
        goes_then greeting (listings list_count ++ flat_map (job_acts filing) (jobs_named filing (names filing))) (greeting_goes filing.device)
        (goes_then (listings list_count) (flat_map (job_acts filing) (jobs_named filing (names filing)))
        (listings_go filing.device list_count few_lists) (goes_to all_turns.goes blocks_are))

    pub mark_goes : Goes (mark_acts filing) blocks_device (filed_device filing)
    unfolding mark_acts filed_device
    mark_goes = marks_go blocks_device rests.proper.bounded.user (filing_changes filing)

    pub before_goes : Goes (before_end filing) filing.device (filed_device filing)
    unfolding before_end
    before_goes = goes_then (before_mark filing) (mark_acts filing) before_mark_goes mark_goes

    -- all databases of the session are all of the handheld's
    pub among_all : (device_among filing (names filing)).databases ≡ map (filed_database filing) held
    among_all = sym (among_are (names filing) all_turns.after all_turns.behind) ∙ all_are all_turns.after all_turns.behind

    pub filed_closed : (filed_device filing).handles ≡ no_handles
    unfolding filed_device
    filed_closed = rests.closed

    pub session_goes : Goes (filing_acts filing) filing.device (filed_device filing)
    unfolding filing_acts
    session_goes = goes_then (before_end filing) (ending ∷ []) before_goes (end_goes (filed_device filing) filed_closed)
