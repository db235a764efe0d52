-- What the blocks that a session writes make of the one database that is open under handle 1.
use Rattle.std.proofs.Common.{◌≡◌, ◌∙◌, refl, ap, sym, subst, cond, ℕ, not, true, List, [], ◌∷◌, ◌++◌, append-nil}
use Rattle.std.specs.Prelude.{◌&&◌, Option, Some, None}
use Rattle.std.specs.Str.{bytes_eq}
use Rattle.pdb_values.specs.Databases.{DatabaseValue}
use Rattle.pdb_values.specs.NamedDatabases.{database_of, replaced}
use Rattle.pdb_values.specs.declared.user.UserInfo.{UserInfo}
use Rattle.pdb_values.proofs.NamedLaws.{bytes_eq-own, database_of-name, database_of-replaced, replaced-own, replaced-replaced}
use Rattle.dlp_replies.specs.ReplyValues as reply
use Rattle.palm_device.specs.Blocks.{with_app, with_sort}
use Rattle.palm_device.specs.Devices.{Device}
use Rattle.palm_device.specs.Handles.{Base, base_at, is_writable}
use Rattle.palm_device.specs.declared.opened.Opened.{Opened}
use Rattle.dlp_commands.specs.DeviceSteps.{tried}
use Rattle.dlp_commands.specs.Writings as writing
use Rattle.desktop_session.specs.Acts.{Act, acted}
use Rattle.desktop_session.specs.Requests.{writing_app, writing_sort}
use Rattle.desktop_session.specs.Tellings.{device_after}
use Rattle.desktop_session.proofs.ChangeRows.{row_does}
use Rattle.desktop_session.proofs.ListLaws.{after_append}
use Rattle.desktop_session.proofs.RowLaws.{writes_row}
use Rattle.session_plan.specs.Blocks.{GivenBlocks, with_blocks}
use Rattle.sync_session.specs.News.{block_act, block_acts}
use Rattle.front_laws.specs.Given.{ids_in}
use Rattle.front_laws.specs.Stops.{app_alone}
use Rattle.front_laws.proofs.AlongLaws.{Along, along-append, none-told}
use Rattle.front_laws.proofs.OpenActs.{one_open}
use Rattle.front_laws.proofs.WriteActs.{MayWrite, holding_base, holding_own}

-- the sort block of these alone
abbrev pub sort_alone : GivenBlocks → GivenBlocks
sort_alone blocks = record { app = None; sort = blocks.sort }

-- an open database with these blocks
abbrev pub with_own : Opened → GivenBlocks → DatabaseValue → List DatabaseValue → UserInfo → Device
with_own o blocks d databases user = one_open o (replaced (with_blocks blocks d) databases) user

abbrev base_of : Opened → DatabaseValue → Base
base_of o d = record { opened = o; database = d }

module _ {o : Opened} {d : DatabaseValue} {databases : List DatabaseValue} (user : UserInfo) (may : MayWrite o d databases) where
  pub open_base : base_at (one_open o databases user) 1 ≡ Some (base_of o d)
  open_base = subst (λ (x : Device). base_at x 1 ≡ Some (base_of o d)) (holding_own may user) (holding_base may user d.records)

  pub open_writable : is_writable (base_of o d) ≡ true
  open_writable = λ k. may.mode k && not (may.writable k)

  app_does : (bytes : List ℕ) → (acted (writing_app 1 bytes) (one_open o databases user)).1 ≡ one_open o (replaced (with_app bytes d) databases) user
  unfolding tried
  app_does bytes =
      row_does (writing_app 1 bytes) (one_open o databases user) (one_open o (replaced (with_app bytes d) databases) user) reply.WriteAppBlock
      (writes_row 0 (one_open o databases user) 1 (writing.AppBlock bytes) (base_of o d) (with_app bytes d) reply.WriteAppBlock open_base open_writable refl)

  sort_does : (bytes : List ℕ) → (acted (writing_sort 1 bytes) (one_open o databases user)).1 ≡ one_open o (replaced (with_sort bytes d) databases) user
  unfolding tried
  sort_does bytes =
      row_does (writing_sort 1 bytes) (one_open o databases user) (one_open o (replaced (with_sort bytes d) databases) user) reply.WriteSortBlock
      (writes_row 0 (one_open o databases user) 1 (writing.SortBlock bytes) (base_of o d) (with_sort bytes d) reply.WriteSortBlock open_base open_writable
      refl)

  -- nothing is written
  same_open : one_open o databases user ≡ one_open o (replaced d databases) user
  same_open =
      ap (λ (ds : List DatabaseValue). one_open o ds user)
      (sym (replaced-own d databases (ap (λ n. database_of n databases) (database_of-name o.name databases d may.here) ∙ may.here)))

  pub app_step : (block : Option (List ℕ))
      → device_after (block_act writing_app 1 block) (one_open o databases user) ≡ with_own o (record { app = block; sort = None }) d databases user
  app_step None = same_open
  app_step (Some bytes) = app_does bytes

  pub sort_step : (block : Option (List ℕ))
      → device_after (block_act writing_sort 1 block) (one_open o databases user) ≡ with_own o (record { app = None; sort = block }) d databases user
  sort_step None = same_open
  sort_step (Some bytes) = sort_does bytes

-- it may be written with these blocks too
pub may_filled : {o : Opened} {d : DatabaseValue} {databases : List DatabaseValue} (blocks : GivenBlocks) → MayWrite o d databases
    → MayWrite o (with_blocks blocks d) (replaced (with_blocks blocks d) databases)
may_filled {o} {d} {databases} blocks may =
    let named : d.head.name ≡ o.name = database_of-name o.name databases d may.here in
    let found : database_of d.head.name databases ≡ Some d = ap (λ n. database_of n databases) named ∙ may.here in
    let own : bytes_eq d.head.name o.name ≡ true = subst (λ n. bytes_eq d.head.name n ≡ true) named (bytes_eq-own d.head.name) in
    record {
      here = database_of-replaced o.name (with_blocks blocks d) d databases found
          ∙ ap (λ b. cond b (Some (with_blocks blocks d)) (database_of o.name databases)) own;
      mode = may.mode;
      writable = may.writable;
      records = may.records;
    }

module _ {o : Opened} {d : DatabaseValue} {databases : List DatabaseValue} (user : UserInfo) (may : MayWrite o d databases) (blocks : GivenBlocks) where
  abbrev between : List DatabaseValue
  between = replaced (with_blocks (app_alone blocks) d) databases

  sort_behind : device_after (block_act writing_sort 1 blocks.sort) (one_open o between user) ≡ with_own o blocks d databases user
  sort_behind =
      sort_step user (may_filled (app_alone blocks) may) blocks.sort
      ∙ ap (λ (ds : List DatabaseValue). one_open o ds user) (replaced-replaced (with_blocks (app_alone blocks) d) (with_blocks blocks d) databases refl)

  -- both blocks
  pub blocks_do : device_after (block_acts 1 blocks) (one_open o databases user) ≡ with_own o blocks d databases user
  unfolding block_acts
  blocks_do =
      after_append (block_act writing_app 1 blocks.app) (block_act writing_sort 1 blocks.sort) (one_open o databases user)
      ∙ ap (device_after (block_act writing_sort 1 blocks.sort)) (app_step user may blocks.app) ∙ sort_behind

  -- ---- on the way

  module _ (P : List ℕ → Device → Type 0) (ids : List ℕ) (first : P ids (one_open o databases user))
      (second : P ids (with_own o (app_alone blocks) d databases user)) (last : P ids (with_own o blocks d databases user)) where
    app_ids : (block : Option (List ℕ)) → ids ++ ids_in (block_act writing_app 1 block) ≡ ids
    app_ids None = append-nil ids
    app_ids (Some bytes) = append-nil ids

    app_along : (block : Option (List ℕ)) → block ≡ blocks.app → Along P ids (block_act writing_app 1 block) (one_open o databases user)
    app_along None is = first
    app_along (Some bytes) is = (
      first,
      λ free. (
        none-told (writing_app 1 bytes) (one_open o databases user) refl,
        subst (λ (p : List ℕ × Device). P p.0 p.1) (λ k. (sym (append-nil ids) k, sym (app_step user may (Some bytes)) k))
            (subst (λ (b : Option (List ℕ)). P ids (with_own o (record { app = b; sort = None }) d databases user)) (sym is) second),
      ),
    )

    sort_along : (block : Option (List ℕ)) → block ≡ blocks.sort → Along P ids (block_act writing_sort 1 block) (one_open o between user)
    sort_along None is = second
    sort_along (Some bytes) is = (
      second,
      λ free. (
        none-told (writing_sort 1 bytes) (one_open o between user) refl,
        subst (λ (p : List ℕ × Device). P p.0 p.1) (λ k. (
          sym (append-nil ids) k,
          sym (ap (λ (b : Option (List ℕ)). device_after (block_act writing_sort 1 b) (one_open o between user)) is ∙ sort_behind) k,
        ))
            last,
      ),
    )

    pub blocks_along : Along P ids (block_acts 1 blocks) (one_open o databases user)
    unfolding block_acts
    blocks_along =
        along-append P ids (block_act writing_app 1 blocks.app) (block_act writing_sort 1 blocks.sort) (one_open o databases user)
        (app_along blocks.app refl)
        (λ free. subst (λ (p : List ℕ × Device). Along P p.0 (block_act writing_sort 1 blocks.sort) p.1)
        (λ k. (sym (app_ids blocks.app) k, sym (app_step user may blocks.app) k)) (sort_along blocks.sort refl))

-- ---- they give no ids

pub blocks_ids : (blocks : GivenBlocks) → ids_in (block_acts 1 blocks) ≡ []
unfolding block_acts
blocks_ids blocks = by blocks.app blocks.sort
  where
    by : (app sort : Option (List ℕ)) → ids_in (block_act writing_app 1 app ++ block_act writing_sort 1 sort) ≡ []
    by None None = refl
    by None (Some bytes) = refl
    by (Some bytes) None = refl
    by (Some bytes) (Some more) = refl
