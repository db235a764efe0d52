use Rattle.dlp_requests.proofs.RequestLaws.{IsRequest-short}
use Rattle.dlp_requests.proofs.laws.short_requests_fit.Goals as goal

pub returns : goal.returns
returns c = IsRequest-short
