-- Each name is followed by its bytes, which the folder has.
use Rattle.std.proofs.Common.{◌≡◌, ◌∙◌, ◌++◌, ◌≤◌, Err, Global, List, Ok, ap, arith, length, map, sym, ℕ}
use Rattle.std.specs.Prelude.{None, Some, Vec, String, string_bytes}
use Rattle.std.specs.FinMap as finmap
use Rattle.std.proofs.lemmas.List.{append-nil, take_all}
use Rattle.std.proofs.lemmas.Result.{IfOk-at_ok}
use Rattle.hs_folders.specs.FileMaps.{FileMap}
use Rattle.hs_folders.specs.FileTrees.{file_map}
use Rattle.device_state.specs.Lists.{NamedFile, files_of, list_text}
use Rattle.device_state.specs.Strings.{string_text}
use Rattle.device_state.proofs.PushLaws.{StandsAt, length-files_of, never_failed, only_memory, stands_at, written_on}
use Rattle.device_state.proofs.files.push_files.Goals as goal

pub loop-name-init : goal.loop-name-init
loop-name-init c =
    let names = c.in_ok-names.names in
    let held : FileMap = file_map c.args.folder.now.files in
    let is : c.list.result ≡ Ok names = grind (arith, c.in_ok-names.ensures.cases) in
    record {
      listed = rw c.deref-name-items.ensures.value
          (IfOk-at_ok (λ (ns : Vec (String Global) Global). map (string_bytes {Z = Global}) ns.items ≡ finmap.keys held) is c.list.ensures.names);
      written = sym (append-nil c.args.out.now.items);
      contents = c.list.ensures.contents;
      moments = c.list.ensures.moments;
      paths = c.list.ensures.paths;
      faults = c.list.ensures.cause.still (λ failed. never_failed _ _ c.requires (c.list.ensures.counted.exactly.0 failed));
      changes = c.list.ensures.changes;
      failing = c.list.ensures.counted.same_failing ∙ c.requires;
    }

pub map_err-requires-in-loop-name : goal.map_err-requires-in-loop-name
map_err-requires-in-loop-name c = λ fault is.
    let held : FileMap = file_map c.args.folder.now.files in
    let so_far = c.loop-name.invariant in
    let at : StandsAt held c.loop-name.name-index (string_bytes c.name-item.result) =
    stands_at held c.deref-name-items.result.now c.loop-name.name-index c.name-item.result so_far.listed c.loop-name-test.true c.name-item.is in
    only_memory fault (λ failed. never_failed _ _ so_far.failing (c.read.ensures.counted.exactly.0 (is ∙ ap Err failed)))
    (λ missing.
    let none : finmap.get (file_map c.loop-name.folder.files) c.as_str.result.now ≡ None = c.read.ensures.missing (is ∙ ap Err missing) in
    let some = at.bytes in grind (arith, none, some, so_far.contents, c.as_str.ensures.value))

pub loop-name-preserved : goal.loop-name-preserved
loop-name-preserved c =
    let held : FileMap = file_map c.args.folder.now.files in
    let name : List ℕ = string_bytes c.name-item.result in
    let bytes = c.in_ok-bytes.bytes in
    let so_far = c.loop-name.invariant in
    let read : c.read.result ≡ Ok bytes = grind (arith, c.in_ok-bytes.ensures.cases) in
    let at : StandsAt held c.loop-name.name-index name =
    stands_at held c.deref-name-items.result.now c.loop-name.name-index c.name-item.result so_far.listed c.loop-name-test.true c.name-item.is in
    let now : FileMap = file_map c.loop-name.folder.files in
    let found = IfOk-at_ok (λ (bs : Vec ℕ Global). finmap.get now c.as_str.result.now ≡ Some bs.items) read c.read.ensures.bytes in
    let has : finmap.get held name ≡ Some bytes.items = grind (arith, found, so_far.contents, c.as_str.ensures.value) in
    record {
      listed = so_far.listed;
      written = written_on held c.loop-name.name-index c.args.out.now.items at so_far.written
          (c.in_ok-push_string.ensures.ok ∙ ap (λ (text : List ℕ). c.loop-name.out.items ++ string_text text) c.as_bytes.ensures.value)
          (c.in_ok-push_string-2.ensures.ok ∙ ap (λ (text : List ℕ). c.push_string.new.out.items ++ string_text text) c.deref.ensures.value) has;
      contents = c.read.ensures.contents ∙ so_far.contents;
      moments = c.read.ensures.moments ∙ so_far.moments;
      paths = c.read.ensures.paths ∙ so_far.paths;
      faults = c.read.ensures.cause.still (λ failed. never_failed _ _ so_far.failing (c.read.ensures.counted.exactly.0 failed)) ∙ so_far.faults;
      changes = c.read.ensures.changes ∙ so_far.changes;
      failing = c.read.ensures.counted.same_failing ∙ so_far.failing;
    }

pub returns-clause-ok : goal.returns-clause-ok
returns-clause-ok c =
    let held : FileMap = file_map c.args.folder.now.files in
    let so_far = c.loop-name.invariant in
    let all : length (files_of held) ≤ c.loop-name.name-index =
    omega (arith, c.loop-name-test.false, length-files_of held c.deref-name-items.result.now so_far.listed) in
    so_far.written ∙ ap (λ (files : List NamedFile). c.args.out.now.items ++ list_text files) (take_all c.loop-name.name-index (files_of held) all)
