use Rattle.std.proofs.Common.{rules, ◌≡◌, ◌∙◌, ap, true}
use Rattle.std.specs.FinMap as finmap
use Rattle.std.specs.Option.{option_map}
use Rattle.folder_files.specs.InfoFiles.{device_text}
use Rattle.folder_files.specs.FileNames.{device_info_file}
use Rattle.handheld_server.proofs.ServeLaws.{done_user}
use Rattle.handheld_server.specs.Keeping.{wrote_by}
use Rattle.handheld_server.proofs.server.Server.write_user.Goals as goal
use Rattle.handheld_server.proofs.server.Server.write_user.Goals.{in-Ok-set_user, in-Err-set_user}

pub returns-clause-files : goal.returns-clause-files
returns-clause-files g c =
    elim c.match-set_user.branch [
      | in-Ok-set_user w ↦ rw (w.result-is, w.out-is) (
          let folder : c.self.inside.store.folder ≡ c.args.self.now.folder = search rules in
          let user : c.in-Ok.user ≡ c.set_user.new.self.user = search rules in
          let accepted : wrote_by c.args.number w.write_reply.new.out ≡ true = done_user c.args.number w.write_reply.new.out c.requires.number w.write_reply.ensures in
          rw accepted (record {
            file = w.in-Ok-set_user.ensures.written
                ∙ ap (λ u. option_map
                (λ held. finmap.insert held device_info_file (device_text u)) (g.F.Folder.contents c.self.inside.store.folder)) user
                ∙ ap (λ f. option_map (λ held. finmap.insert held device_info_file (device_text c.set_user.new.self.user)) (g.F.Folder.contents f))
                folder;
            databases = search rules;
          }))
      | in-Err-set_user w ↦ rw w.result-is tt
    ]
