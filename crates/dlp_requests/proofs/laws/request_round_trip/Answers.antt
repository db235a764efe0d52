use Rattle.dlp_requests.specs.RequestTexts.{request_text}
use Rattle.dlp_requests.proofs.RequestLaws.{request_written, request_again}
use Rattle.dlp_requests.proofs.laws.request_round_trip.Goals as goal

pub returns-clause-text : goal.returns-clause-text
returns-clause-text c = request_written

pub returns-clause-again : goal.returns-clause-again
returns-clause-again c = λ value is. request_again value (request_text value) (request_written value is)
