-- Each file that is read adds what it holds, and the first bad one is named.
use Rattle.std.proofs.Common.{◌≡◌, ◌<◌, ◌≤◌, ◌∙◌, ℕ, List, length, take, arith, refl, sym, subst}
use Rattle.std.specs.Prelude.{map, string_bytes}
use Rattle.std.proofs.lemmas.List.{length-map}
use Rattle.hs_folders.proofs.CauseLaws.{cause_on, ok_is_no_fault}
use Rattle.desk_store.specs.declared.fault.DeskOpenFault.TheVariants.{DeskFault}
use Rattle.desk_store.proofs.LoopLaws.{FindsTold, all_taken, map_more, mapped_at, told_more, told_refused}
use Rattle.desk_store.proofs.SlotListLaws.{form_on, marks-length, same_count, same_form}
use Rattle.desk_store.proofs.reading.read_files.Goals as goal

pub loop-name-init : goal.loop-name-init
loop-name-init g c = record {
  found = c.requires.start;
  form = same_form c.args.slots.items;
  bounded = λ each. each;
  read = record { same_contents = refl; same_moments = refl; same_paths = refl; later = omega arith };
  count = refl;
}

pub loop-name-preserved : goal.loop-name-preserved
loop-name-preserved g c =
    let before = g.F.Folder.contents c.args.folder.now in
    let names = map string_bytes c.args.names.now in
    let place = c.loop-name.name-index in
    let item = c.name-item.result in
    let was = c.loop-name.invariant in
    let adds = rw (c.as_str.ensures.value, was.read.same_contents) at c.in-Ok.ensures.added in
    let few : length c.loop-name.found.items ≤ 16 = omega (arith, same_count was.form, marks-length c.args.slots.items, c.requires.formed.few) in
    record {
      found = subst (λ (files : List (List ℕ)). FindsTold before files c.read_file.new.slots.items)
          (sym (map_more string_bytes c.args.names.now place c.loop-name-test.true c.name-item.is))
          (told_more before (take place names) (string_bytes item) c.loop-name.found.items c.read_file.new.slots.items few was.found adds);
      form = form_on was.form c.in-Ok.ensures.form;
      bounded = λ each. c.in-Ok.ensures.bounded (was.bounded each);
      read = record {
        same_contents = c.read_file.ensures.read.same_contents ∙ was.read.same_contents;
        same_moments = c.read_file.ensures.read.same_moments ∙ was.read.same_moments;
        same_paths = c.read_file.ensures.read.same_paths ∙ was.read.same_paths;
        later = omega (arith, c.read_file.ensures.read.later, was.read.later);
      };
      count = c.in-Ok.ensures.cause.still (ok_is_no_fault c.in-Ok.field-0 DeskFault) ∙ was.count;
    }

pub returns-in-Err-clause-refused : goal.returns-in-Err-clause-refused
returns-in-Err-clause-refused g c =
    let names = map string_bytes c.args.names.now in
    let place = c.loop-name.name-index in
    let item = c.name-item.result in
    let refused = rw (c.as_str.ensures.value, c.loop-name.invariant.read.same_contents) at c.in-Err.ensures.refused in
    let count : length names ≡ length c.args.names.now = simp length-map in
    let less : place < length names = omega (arith, count, c.loop-name-test.true) in
    told_refused (g.F.Folder.contents c.args.folder.now) names place c.loop-name.found.items c.in-Err.fault less
    (mapped_at string_bytes c.args.names.now place c.loop-name-test.true c.name-item.is) c.loop-name.invariant.found refused

pub returns-in-Err-clause-cause : goal.returns-in-Err-clause-cause
returns-in-Err-clause-cause g c =
    cause_on (g.F.Folder.faults c.args.folder.now) (g.F.Folder.faults c.loop-name.folder) (g.F.Folder.faults c.read_file.new.folder) c.in-Err.fault DeskFault
    c.loop-name.invariant.count c.in-Err.ensures.cause

pub returns-in-Err-clause-read : goal.returns-in-Err-clause-read
returns-in-Err-clause-read g c =
    let was = c.loop-name.invariant.read in
    record {
      same_contents = c.read_file.ensures.read.same_contents ∙ was.same_contents;
      same_moments = c.read_file.ensures.read.same_moments ∙ was.same_moments;
      same_paths = c.read_file.ensures.read.same_paths ∙ was.same_paths;
      later = omega (arith, c.read_file.ensures.read.later, was.later);
    }

pub returns-clause-cause : goal.returns-clause-cause
returns-clause-cause g c = record {
  later = omega (arith, c.loop-name.invariant.count);
  rose =
      λ is. absurd (ok_is_no_fault c.loop-name.found DeskFault is);
  still = λ _. c.loop-name.invariant.count;
}

pub returns-clause-found : goal.returns-clause-found
returns-clause-found g c =
    subst (λ (files : List (List ℕ)). FindsTold (g.F.Folder.contents c.args.folder.now) files c.loop-name.found.items)
    (all_taken string_bytes c.args.names.now c.loop-name.name-index c.loop-name-test.false) c.loop-name.invariant.found
