use Rattle.line_world.proofs.Names.{unwrap_or, ◌≡◌, ℕ, List, [], Option, ap, subst, ◌∙◌, DeviceStep, Touches, wrote_user, store_of, log_value, with_performed}
use Rattle.line_world.proofs.Names.{served-once}
use Rattle.line_world.proofs.serving.perform.Goals as goal

pub returns-clause-performs : goal.returns-clause-performs
returns-clause-performs g c =
    let served = c.in_ok-serve_whole.ensures in
    let request = c.args.request.now in
    let reply = c.serve_whole.new.reply in
    let asked : c.in_ok-asked.asked.bytes ≡ request = ap (λ t. t.bytes) c.in_ok-asked.ensures in
    let answered : c.trim.new.self.bytes ≡ reply =
    ap (λ t. t.bytes) c.trim.ensures ∙ ap (λ t. t.bytes) c.fill.ensures in
    record {
      sound = served.sound;
      since = served-once g.F.Folder.contents g.F.Folder.moments g.F.Folder.paths g.F.Folder.faults c.args.server.now c.serve_whole.new.server request reply
          (subst (λ (o : Option (List ℕ)). DeviceStep c.args.server.now.device (unwrap_or o []) reply c.serve_whole.new.server.device) c.requires.whole
          served.step) served.stands served.change.each_moment served.change.same_paths served.change.cause.later
          (subst (λ (o : Option (List ℕ)). Touches g.F.Folder.contents (wrote_user (unwrap_or o []) reply) (store_of c.args.server.now)
          (store_of c.serve_whole.new.server)) c.requires.whole served.files);
      log_is = c.keep.ensures ∙ ap (λ l. with_performed l c.in_ok-asked.asked.bytes c.trim.new.self.bytes) c.make_room.ensures.stays
          ∙ ap (λ b. with_performed (log_value c.args.log.now) b c.trim.new.self.bytes) asked
          ∙ ap (λ b. with_performed (log_value c.args.log.now) request b) answered;
    }
