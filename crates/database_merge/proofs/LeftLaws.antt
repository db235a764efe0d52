-- What a plan makes of both sides is what a session leaves.
use Rattle.std.proofs.Common.{◌≡◌, ◌∙◌, ◌+◌, ◌≤◌, ap, refl, sym, subst, ℕ, suc, true, false, List, [], ◌∷◌, ◌++◌, append_assoc, arith, length, nat_lt}
use Rattle.std.specs.Prelude.{Option, Some, None}
use Rattle.std.specs.Option.{option_or}
use Rattle.std.proofs.lemmas.Bool.Decides.{nat_tests}
use Rattle.pdb_values.specs.Contents.{ContentValue}
use Rattle.pdb_values.specs.Databases.{DatabaseValue}
use Rattle.pdb_values.specs.declared.record.Record.{Record}
use Rattle.conduit_rules.specs.Choices.{Choice}
use Rattle.conduit_rules.specs.Plans.{IsPlan, replaced_rows}
use Rattle.conduit_rules.specs.States.{SideState}
use Rattle.conduit_rules.specs.Views.{slow_view, view_held}
use Rattle.conduit_rules.specs.declared.planned.Plan.{Plan}
use Rattle.handheld_files.specs.Settled.{are_ids, are_settled}
use Rattle.palm_device.specs.Records.{with_records}
use Rattle.palm_device.specs.Soundness.{AreIds, ids_of}
use Rattle.record_merge.specs.Merging.{AreBounded, merged_archive, merged_records, one_copy_behind}
use Rattle.record_merge.specs.Writes.{AreFree, GotFreeIds, adding, after, clean_up, clearing, giving, numbered, purges, replaces, reset}
use Rattle.record_merge.proofs.ShownLaws.{after-all_slow}
use Rattle.session_plan.specs.Archives.{archive_records, entries_of}
use Rattle.session_plan.specs.Blocks.{blocks_of, with_blocks}
use Rattle.session_plan.specs.Heads.{made_head, rows_head}
use Rattle.session_plan.specs.Merges.{archive_of, beside, handheld_before, new_database, rows_before}
use Rattle.session_plan.specs.Sizes.{is_over}
use Rattle.session_plan.specs.Tasks.{records_of}
use Rattle.session_plan.proofs.RowLaws.{base-merged, rows-merged}
use Rattle.palm_device.specs.Blocks.{empty_database}
use Rattle.database_merge.specs.Carrying.{IsCarried, IsCarriedOn, carried_by, plan_peak, plan_sizes}
use Rattle.database_merge.specs.Faults.{sizes_by}
use Rattle.database_merge.specs.Merges.{IsLeft, IsLeftOf, IsMerged, left_by}
use Rattle.database_merge.specs.Seeing.{AreOpened, merge_choice, shown, sides, skip_of, writes}
use Rattle.database_merge.specs.declared.both_sides.BothSides.{BothSides}
use Rattle.database_merge.specs.declared.wishes.MergeWishes.{MergeWishes}
use Rattle.std.proofs.lemmas.Bool.{and_parts}
use Rattle.std.specs.Prelude.{not}
use Rattle.std.specs.List.{list_all}
use Rattle.handheld_files.proofs.BoundLaws.{ids_are}

-- ---- ids

settled_ids : (records : List Record) → are_settled records ≡ true → AreIds (ids_of records)
settled_ids records is = ids_are (ids_of records) (and_parts (list_all (λ (item : Record). not item.busy) records) (are_ids (ids_of records)) is).1

-- ---- sizes

fits_with : (p r b a : ℕ) → p ≤ 65535 → is_over (record { handhelds = 0; desktops = 0; records = 0; rows = r; base = b; archive = a }) ≡ false
    → is_over (record { handhelds = 0; desktops = 0; records = p; rows = r; base = b; archive = a }) ≡ false
fits_with p r b a small is = let few : nat_lt 65535 p ≡ false = grind (arith, nat_tests, small) in rw few is

length-archive : (es : List (ℕ × ContentValue)) → length (archive_records es) ≡ length es
length-archive [] = refl
length-archive (e ∷ es) = ap suc (length-archive es)

-- how much a merge makes, by its plan
sizes_planned : (both : BothSides) (wishes : MergeWishes) (plan : Plan) (records : List Record) → IsPlan wishes.action (sides both wishes) plan
    → sizes_by (merge_choice both wishes) (shown both wishes) records (records_of both.archive) ≡ record {
      handhelds = 0;
      desktops = 0;
      records = length (after (replaces plan.replace.items) records) + length plan.adds.items;
      rows = (plan_sizes plan both.archive).rows;
      base = (plan_sizes plan both.archive).base;
      archive = (plan_sizes plan both.archive).archive;
    }
sizes_planned both wishes plan records is =
    let keeps = ap length is.kept in
    let adds = ap length is.adds in
    let gone = ap length is.gone in
    let replace = ap (λ rows. length (after (replaces rows) records)) is.replace in
    let archive = ap (λ es. length (archive_records es)) (ap (λ new. one_copy_behind [] (entries_of (records_of both.archive) ++ new)) is.archive) in
    λ i. record {
      handhelds = 0;
      desktops = 0;
      records = sym replace i + sym adds i;
      rows = sym keeps i + sym adds i;
      base = sym keeps i + sym adds i + sym gone i;
      archive = (sym (length-archive (merged_archive (merge_choice both wishes) (entries_of (records_of both.archive)))) ∙ sym archive) i;
    }

-- ---- the handheld

after_whole : (ch : Choice) (handheld : ℕ → SideState) (given : List ℕ) (records : List Record) → handheld ≡ view_held (slow_view records)
    → AreIds (ids_of records) → AreBounded records → GotFreeIds ch handheld given records
    → after (giving ch handheld given ++ clearing ch handheld) records ≡ merged_records ch handheld given records
after_whole ch handheld given records is ids bounded free =
    subst (λ h. GotFreeIds ch h given records → after (giving ch h given ++ clearing ch h) records ≡ merged_records ch h given records) (sym is)
    (after-all_slow ch given records ids bounded) free

writes_whole : (both : BothSides) (wishes : MergeWishes) (plan : Plan) (given : List ℕ) → IsPlan wishes.action (sides both wishes) plan
    → writes plan given ≡ giving (merge_choice both wishes) (shown both wishes) given ++ clearing (merge_choice both wishes) (shown both wishes)
writes_whole both wishes plan given is =
    (λ i. replaces (is.replace i) ++ (adding (numbered given (is.adds i)) ++ (purges (is.purge i) ++ clean_up ∷ reset ∷ [])))
    ∙ sym (append_assoc (replaces (replaced_rows (merge_choice both wishes).keep (shown both wishes))) (adding (numbered given (merge_choice both wishes).adds))
    (clearing (merge_choice both wishes) (shown both wishes)))

-- ---- both sides

carried-left : (both : BothSides) (wishes : MergeWishes) (plan : Plan) (before rows : DatabaseValue) (all : BothSides)
    → AreIds (ids_of before.records) → AreBounded before.records → records_of both.handheld ≡ before.records
    → IsPlan wishes.action (sides both wishes) plan → is_over (plan_sizes plan both.archive) ≡ false → IsCarried plan both.archive before rows all
    → IsLeft both wishes before rows all
unfolding sides
carried-left both wishes plan before rows all ids bounded same is large carried =
    let ch = merge_choice both wishes in
    let held = shown both wishes in
    let given = carried.given in
    let view : held ≡ view_held (slow_view before.records) = ap (λ records. view_held (slow_view records)) same in
    let free : GotFreeIds ch held given before.records =
    subst (λ rows. AreFree (numbered given ch.adds) (after (replaces rows) before.records)) is.replace
    (subst (λ adds. AreFree (numbered given adds) (after (replaces plan.replace.items) before.records)) is.adds carried.free) in
    let records : after (writes plan given) before.records ≡ merged_records ch held given before.records =
    ap (λ ws. after ws before.records) (writes_whole both wishes plan given is) ∙ after_whole ch held given before.records view ids bounded free in
    let archive = ap (λ new. archive_records (one_copy_behind [] (entries_of (records_of both.archive) ++ new))) is.archive in
    let left : carried_by plan given both.archive before rows ≡ left_by ch held given both.archive before rows =
    λ i. record {
      handheld = Some (with_records (records i) before);
      rows = Some (with_records (rows-merged wishes.action (sides both wishes) plan given is i) rows);
      base = Some (beside rows (base-merged wishes.action (sides both wishes) plan given is i));
      archive = option_or (archive_of rows (archive i)) both.archive;
    } in
    record {
      fits = ap is_over (ap (λ records. sizes_by ch held records (records_of both.archive)) same ∙ sizes_planned both wishes plan before.records is)
          ∙ fits_with (plan_peak plan before) (plan_sizes plan both.archive).rows (plan_sizes plan both.archive).base (plan_sizes plan both.archive).archive
          carried.room large;
      given = given;
      counted = carried.counted ∙ ap length is.adds;
      free = free;
      is = carried.is ∙ left;
    }

-- what a merge that isn't skipped knows
pub record Goes (both : BothSides) (wishes : MergeWishes) (plan : Plan) : Type 0 where
  pub opened : AreOpened both
  pub bounded : AreBounded (records_of both.handheld)
  pub goes_on : skip_of both wishes.action ≡ None
  pub plan_is : IsPlan wishes.action (sides both wishes) plan
  pub small : is_over (plan_sizes plan both.archive) ≡ false

left_by_sides : (handheld rows base archive : Option DatabaseValue) (wishes : MergeWishes) (plan : Plan) (all : BothSides)
    → Goes (record { handheld = handheld; rows = rows; base = base; archive = archive }) wishes plan
    → IsCarriedOn (record { handheld = handheld; rows = rows; base = base; archive = archive }) wishes.date plan all
    → IsLeftOf (record { handheld = handheld; rows = rows; base = base; archive = archive }) wishes (handheld_before handheld rows)
    (rows_before wishes.date rows handheld) all
left_by_sides (Some h) (Some r) base archive wishes plan all goes carried =
    carried-left (record { handheld = Some h; rows = Some r; base = base; archive = archive }) wishes plan h r all (settled_ids h.records goes.opened)
    goes.bounded refl goes.plan_is goes.small carried
left_by_sides (Some h) None base archive wishes plan all goes carried =
    carried-left (record { handheld = Some h; rows = None; base = base; archive = archive }) wishes plan h (empty_database (rows_head wishes.date h.head)) all
    (settled_ids h.records goes.opened) goes.bounded refl goes.plan_is goes.small carried
left_by_sides None (Some r) base archive wishes plan all goes carried =
    carried-left (record { handheld = None; rows = Some r; base = base; archive = archive }) wishes plan
    (with_blocks (blocks_of (Some r)) (new_database (made_head r.head))) r all tt tt refl
    goes.plan_is goes.small carried
left_by_sides None None base archive wishes plan all goes carried = carried

pub carried-merged : (both : BothSides) (wishes : MergeWishes) (plan : Plan) (all : BothSides) → Goes both wishes plan
    → IsCarriedOn both wishes.date plan all → IsMerged both wishes all
carried-merged both wishes plan all goes carried = record {
  goes_on = goes.goes_on;
  is = left_by_sides both.handheld both.rows both.base both.archive wishes plan all goes carried;
}
