use Rattle.front_laws.proofs.OrderActs.{read-order}
use Rattle.front_laws.proofs.OrderWrites.{session-answered, session-closed, session-order}
use Rattle.front_laws.proofs.laws.a_session_keeps_its_order.Goals as goal

pub returns : goal.returns
returns c = record {
  read = read-order;
  whole = λ meeting given n fits. session-order meeting given n fits.sound fits.fits;
  answered = λ meeting given n fits. session-answered meeting given n fits.sound fits.fits;
  closed = λ meeting given sound fits. session-closed meeting given sound fits;
}
