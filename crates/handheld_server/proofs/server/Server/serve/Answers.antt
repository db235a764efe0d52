use Rattle.std.proofs.Common.{◌≡◌, ◌∙◌, Ok, ap, rules}
use Rattle.dlp_requests.specs.RequestReading.{request_at}
use Rattle.dlp_requests.specs.Views.{request_value}
use Rattle.dlp_commands.specs.Changes.{changes, is_change}
use Rattle.dlp_commands.specs.DeviceSteps.{function_number}
use Rattle.handheld_server.proofs.ServeLaws.{fault_step, first_of, fits_of, request_step}
use Rattle.handheld_server.proofs.server.Server.serve.Goals as goal

pub act-requires-clause-number : goal.act-requires-clause-number
act-requires-clause-number g c = c.first_byte.ensures ∙ first_of (request_value c.in-Ok.asked) c.args.request.now c.in-Ok.ensures.found

pub act-requires-clause-fits : goal.act-requires-clause-fits
act-requires-clause-fits g c = fits_of (request_value c.in-Ok.asked) c.args.request.now c.in-Ok.ensures.found

pub returns-in-Ok-clause-step : goal.returns-in-Ok-clause-step
returns-in-Ok-clause-step g c =
    let read : request_at c.args.request.now ≡ Ok (request_value c.in-Ok.asked) = search rules in
    let number : c.first_byte.result ≡ function_number (request_value c.in-Ok.asked) =
    c.first_byte.ensures ∙ first_of (request_value c.in-Ok.asked) c.args.request.now c.in-Ok.ensures.found in
    request_step c.act.result c.args.self.now.device c.act.new.self.device c.args.request.now c.act.new.out c.first_byte.result
    (request_value c.in-Ok.asked) read number c.act.ensures.acts

pub returns-in-Ok-clause-files : goal.returns-in-Ok-clause-files
returns-in-Ok-clause-files g c = rw (← c.first_byte.ensures) c.act.ensures.files

pub returns-in-Ok-clause-quiet : goal.returns-in-Ok-clause-quiet
unfolding changes
returns-in-Ok-clause-quiet g c quiet = c.act.ensures.quiet (ap is_change c.first_byte.ensures ∙ quiet)

pub returns-in-Err-clause-step : goal.returns-in-Err-clause-step
returns-in-Err-clause-step g c = search (rules, fault_step)
