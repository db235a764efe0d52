-- It is over with a line, at rest or on the way of a message.
use Rattle.line_world.proofs.Names.{rules, ◌≡◌, ℕ, List, length, sym, subst, Line, Halt, NoMemory, LineEnds, MayAnswer, MayAsk, LineTells, answers-ends}
use Rattle.line_world.proofs.Names.{asks-ends, LogValue, said_in, with_issued, with_performed}

pub asks-over : {line : Line} {log later : LogValue} → MayAsk line (length log.issued) → later ≡ log → LineTells (said_in log) line
    → LineEnds NoMemory (said_in later) line
asks-over {line} asks same tells = subst (λ l. LineEnds NoMemory (said_in l) line) (sym same) (asks-ends asks tells)

pub answers-over : {line : Line} {log later : LogValue} {requests : ℕ} → MayAnswer line requests → later ≡ log → LineTells (said_in log) line
    → LineEnds NoMemory (said_in later) line
answers-over {line} answers same tells = subst (λ l. LineEnds NoMemory (said_in l) line) (sym same) (answers-ends answers tells)

pub asked-over : {halt : Halt} {line : Line} (log : LogValue) {later : LogValue} {request sent : List ℕ} → later ≡ with_issued log request → sent ≡ request
    → LineEnds halt (said_in (with_issued log sent)) line → LineEnds halt (said_in later) line
asked-over log later_is is over = search rules

pub answered-over : {halt : Halt} {line : Line} (log : LogValue) {later : LogValue} (request : List ℕ) {reply sent : List ℕ}
    → later ≡ with_performed (with_issued log request) request reply → sent ≡ reply
    → LineEnds halt (said_in (with_performed (with_issued log request) request sent)) line
    → LineEnds halt (said_in later) line
answered-over log request later_is is over = search rules
