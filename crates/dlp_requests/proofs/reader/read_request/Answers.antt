use Rattle.std.proofs.Common.{arith, subst, Result}
use Rattle.dlp_args.specs.Views.{Gives}
use Rattle.dlp_requests.specs.declared.fault.RequestFault.{RequestFault}
use Rattle.dlp_requests.specs.RequestValues.{RequestValue}
use Rattle.dlp_requests.specs.Views.{request_value}
use Rattle.dlp_requests.proofs.RequestLaws.{is_found, request_again}
use Rattle.dlp_requests.proofs.reader.read_request.Goals as goal

pub returns-clause-found : goal.returns-clause-found
returns-clause-found c = is_found c.args.bytes.now c.take_request.result (λ i. omega (arith, c.type_inv.bytes i)) c.take_request.ensures

pub returns-clause-only : goal.returns-clause-only
returns-clause-only c = λ value is. subst
    (λ (r : Result RequestValue RequestFault). Gives request_value c.take_request.result r) (request_again value c.args.bytes.now is) c.take_request.ensures
