use Rattle.line_world.proofs.Names.{OnOk, unwrap_or, ℕ, List, [], Option, subst, DeviceStep, Touches, wrote_user, store_of}
use Rattle.line_world.proofs.serving.serve_whole.Goals as goal

pub returns-in-Some-clause-step : goal.returns-in-Some-clause-step
returns-in-Some-clause-step g c =
    subst (λ (o : Option (List ℕ)). OnOk c.serve.result (DeviceStep c.args.server.now.device (unwrap_or o []) c.serve.new.reply c.serve.new.self.device))
    c.in-Some.ensures.message c.serve.ensures.step

pub returns-in-Some-clause-files : goal.returns-in-Some-clause-files
returns-in-Some-clause-files g c =
    subst (λ (o : Option (List ℕ)). OnOk c.serve.result
    (Touches g.F.Folder.contents (wrote_user (unwrap_or o []) c.serve.new.reply) (store_of c.args.server.now) (store_of c.serve.new.self)))
    c.in-Some.ensures.message c.serve.ensures.files
