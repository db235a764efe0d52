-- An entry that changes a file comes behind the others, one that does not is left out.
use Rattle.std.proofs.Common.{◌≡◌, ◌∙◌, ◌+◌, ◌++◌, ◌∷◌, [], length, arith, ap, append_assoc, rules, true, false}
use Rattle.std.specs.Prelude.{IfSome}
use Rattle.std.proofs.lemmas.List.{length-append}
use Rattle.hs_folders.specs.declared.faults.FolderFault.TheVariants.{Failed}
use Rattle.hs_folders.proofs.CauseLaws.{ok_is_no_fault}
use Rattle.desk_journal.specs.Entries.{entry_value}
use Rattle.desk_journal.specs.Steps.{is_changed}
use Rattle.desk_journal.proofs.ChangeLaws.{changed_passed, changed_pushed, form_passed, form_pushed}
use Rattle.desk_journal.proofs.change.changed_entries.Goals as goal

pub loop-entry-preserved-in-Continue-branch-2 : goal.loop-entry-preserved-in-Continue-branch-2
loop-entry-preserved-in-Continue-branch-2 g c =
    let was = c.loop-entry.invariant in
    let entry = c.in-Some.entry in
    let rest = c.next.new.self.rest.items in
    let told = g.F.Folder.contents c.args.folder.now in
    let step : c.loop-entry.entry-iterator.rest.items ≡ entry ∷ rest = search rules in
    let new : IfSome told (λ held. true ≡ is_changed held (entry_value entry)) = rw (was.read.same_contents, c.if-branch.true) at c.in_ok-is_changed.ensures.changed in
    let pushed : c.push.new.self.items ≡ c.loop-entry.changed.items ++ entry ∷ [] = search rules in
    record {
      count = let one : c.loop-entry.entry-iterator.rest.len ≡ c.next.new.self.rest.len + 1 = search rules in
          let all = ap length step in let whole = was.count in omega arith;
      all = cc (append_assoc c.loop-entry.yielded (entry ∷ []) rest);
      changed = changed_pushed told c.loop-entry.yielded c.loop-entry.changed.items entry pushed was.changed new;
      form = form_pushed c.loop-entry.changed.items rest entry pushed step was.form;
      few = let now = ap length pushed in
          omega (arith, now, was.few, length-append c.loop-entry.changed.items (entry ∷ []), length-append c.loop-entry.yielded (entry ∷ []));
      read = record {
        same_contents = c.is_changed.ensures.read.same_contents ∙ was.read.same_contents;
        same_moments = c.is_changed.ensures.read.same_moments ∙ was.read.same_moments;
        same_paths = c.is_changed.ensures.read.same_paths ∙ was.read.same_paths;
        later = omega (arith, c.is_changed.ensures.read.later, was.read.later);
      };
      faults = c.in_ok-is_changed.ensures.cause.still (ok_is_no_fault c.in_ok-is_changed.field-0 Failed) ∙ was.faults;
    }

pub loop-entry-preserved : goal.loop-entry-preserved
loop-entry-preserved g c =
    let was = c.loop-entry.invariant in
    let entry = c.in-Some.entry in
    let rest = c.next.new.self.rest.items in
    let told = g.F.Folder.contents c.args.folder.now in
    let step : c.loop-entry.entry-iterator.rest.items ≡ entry ∷ rest = search rules in
    let same : IfSome told (λ held. false ≡ is_changed held (entry_value entry)) = rw (was.read.same_contents, c.if-branch.false) at c.in_ok-is_changed.ensures.changed in
    record {
      count = let one : c.loop-entry.entry-iterator.rest.len ≡ c.next.new.self.rest.len + 1 = search rules in
          let all = ap length step in let whole = was.count in omega arith;
      all = cc (append_assoc c.loop-entry.yielded (entry ∷ []) rest);
      changed = changed_passed told c.loop-entry.yielded c.loop-entry.changed.items entry was.changed same;
      form = form_passed c.loop-entry.changed.items rest entry step was.form;
      few = omega (arith, was.few, length-append c.loop-entry.yielded (entry ∷ []));
      read = record {
        same_contents = c.is_changed.ensures.read.same_contents ∙ was.read.same_contents;
        same_moments = c.is_changed.ensures.read.same_moments ∙ was.read.same_moments;
        same_paths = c.is_changed.ensures.read.same_paths ∙ was.read.same_paths;
        later = omega (arith, c.is_changed.ensures.read.later, was.read.later);
      };
      faults = c.in_ok-is_changed.ensures.cause.still (ok_is_no_fault c.in_ok-is_changed.field-0 Failed) ∙ was.faults;
    }
