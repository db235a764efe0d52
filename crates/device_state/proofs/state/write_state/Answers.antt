use Rattle.std.proofs.Common.{◌≡◌, ◌∙◌, ◌++◌, ap, rules, subst, sym}
use Rattle.std.specs.FinMap as finmap
use Rattle.hs_folders.specs.FileMaps.{FileMap}
use Rattle.hs_folders.specs.FileTrees.{file_map}
use Rattle.hs_folders.specs.declared.mem_folder.MemFolder.{MemFolder}
use Rattle.device_state.proofs.HeldLaws.{IsFileList-files_of, utf8_of-file_map}
use Rattle.device_state.specs.Lists.{files_of, list_text}
use Rattle.handheld_files.specs.Handhelds.{StandFor}
use Rattle.device_state.proofs.StateLaws.{IsState-written, front_text-written, same_map}
use Rattle.device_state.specs.States.{mark}
use Rattle.device_state.proofs.state.write_state.Goals as goal

pub returns : goal.returns
returns c =
    let folder = c.in_ok-folder.folder in
    let now = file_map folder.files in
    let device = c.args.talk.hand.device in
    let first : c.in_ok-state.state.items ≡ mark = search rules in
    let listed : c.push_files.new.out.items ≡ c.push_string.new.out.items ++ list_text (files_of (file_map c.fail_calls.new.self.files)) =
    c.in_ok-push_files.ensures.ok in
    let same : file_map c.fail_calls.new.self.files ≡ now = same_map _ _ c.fail_calls.ensures.contents in
    IsState-written c.args.talk.hand c.in_ok-folder.parts c.args.held.now now c.requires.device c.in_ok-folder.ensures.alike c.in_ok-folder.ensures.parts
    c.in_ok-push_talk.ensures.named (IsFileList-files_of now (utf8_of-file_map folder.files))
    (subst (λ (f : MemFolder). StandFor (finmap.get (file_map f.files)) device.databases device.user) (sym c.in_ok-folder.ensures.folder) c.requires.stands)
    (front_text-written c.in_ok-folder.parts c.args.held.now (list_text (files_of now)) first c.in_ok-push_talk.ensures.ok c.in_ok-push_string.ensures.ok
    (listed ∙ ap (λ (m : FileMap). c.push_string.new.out.items ++ list_text (files_of m)) same))
