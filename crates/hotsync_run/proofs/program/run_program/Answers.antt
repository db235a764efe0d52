use Rattle.std.proofs.Common.{sym}
use Rattle.hotsync_run.proofs.program.run_program.Goals as goal

pub returns-clause-report : goal.returns-clause-report
returns-clause-report g c = λ no. c.hotsync-answer.ensures.report (rw c.words_of.ensures no)

pub returns-clause-source : goal.returns-clause-source
returns-clause-source g c = λ no. c.hotsync-answer.ensures.source (rw c.words_of.ensures no)

pub returns-clause-device : goal.returns-clause-device
returns-clause-device g c = λ no. c.hotsync-answer.ensures.device (rw c.words_of.ensures no)

pub returns-clause-desk : goal.returns-clause-desk
returns-clause-desk g c = λ no. c.hotsync-answer.ensures.desk (rw c.words_of.ensures no)

pub returns-clause-trace : goal.returns-clause-trace
returns-clause-trace g c = λ no. c.hotsync-answer.ensures.trace (rw c.words_of.ensures no)

pub returns-clause-fault : goal.returns-clause-fault
returns-clause-fault g c = λ none. rw (sym c.words_of.ensures) (c.hotsync-answer.ensures.fault (rw c.words_of.ensures none))

pub returns-clause-session : goal.returns-clause-session
returns-clause-session g c = λ asks. c.hotsync-answer.ensures.session (rw c.words_of.ensures asks)
