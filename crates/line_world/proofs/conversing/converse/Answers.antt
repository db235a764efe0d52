use Rattle.line_world.proofs.Names.{IfSome, ◌≡◌, ℕ, ◌+◌, ◌≤◌, List, [], ◌∷◌, ◌++◌, length, map, Option, refl, sym, ap, subst, ◌∙◌, arith, length-map}
use Rattle.line_world.proofs.Names.{err_from_is_err_and, session_id, Desktop, frame_value, EndsAcknowledging, last_key, NoMemory, LineEnds, MayAsk, HasSaid}
use Rattle.line_world.proofs.Names.{LineTells, Sent, Served, Unsent, log_value, said_in, with_issued, with_performed, Performs, told-answers, told-asks}
use Rattle.line_world.proofs.Names.{served-itself, IsHeard}
use Rattle.line_world.proofs.HeardLaws.{heard-answered, heard-asked, heard-refused, heard-rest}
use Rattle.line_world.proofs.LogLaws.{length-later, length-more}
use Rattle.line_world.proofs.OverLaws.{answered-over, answers-over, asked-over, asks-over}
use Rattle.line_world.proofs.conversing.converse.Goals as goal

pub returns-in_err-ask-clause-recorded : goal.returns-in_err-ask-clause-recorded
returns-in_err-ask-clause-recorded g c recorded = c.ask.ensures.recorded recorded

pub returns-in_err-perform-clause-recorded : goal.returns-in_err-perform-clause-recorded
returns-in_err-perform-clause-recorded g c recorded = c.ask.ensures.recorded recorded

pub returns-in_err-answer-clause-recorded : goal.returns-in_err-answer-clause-recorded
returns-in_err-answer-clause-recorded g c recorded = c.answer.ensures.recorded (c.ask.ensures.recorded recorded)

pub returns-clause-recorded : goal.returns-clause-recorded
returns-clause-recorded g c recorded = c.answer.ensures.recorded (c.ask.ensures.recorded recorded)

pub returns-in_err-ask-clause-counted : goal.returns-in_err-ask-clause-counted
returns-in_err-ask-clause-counted g c counted = c.ask.ensures.counted counted

pub returns-in_err-perform-clause-counted : goal.returns-in_err-perform-clause-counted
returns-in_err-perform-clause-counted g c counted = c.ask.ensures.counted counted

pub returns-in_err-answer-clause-counted : goal.returns-in_err-answer-clause-counted
returns-in_err-answer-clause-counted g c counted = c.answer.ensures.counted (c.ask.ensures.counted counted)

pub returns-clause-counted : goal.returns-clause-counted
returns-clause-counted g c counted = c.answer.ensures.counted (c.ask.ensures.counted counted)

pub returns-in_err-issue-clause-ends : goal.returns-in_err-issue-clause-ends
returns-in_err-issue-clause-ends g c =
    let p = err_from_is_err_and c.from_residual.result c.from_residual.ensures.1 in
    rw (p.1, p.2) (λ before. asks-over c.requires.asks c.in_err-issue.ensures.stays before)

pub returns-in_err-ask-clause-ends : goal.returns-in_err-ask-clause-ends
returns-in_err-ask-clause-ends g c =
    let p = err_from_is_err_and c.from_residual-in_err-ask.result c.from_residual-in_err-ask.ensures.1 in
    let log = log_value c.args.log.now in
    let request = c.args.request.now in
    let requests : c.len-requests.result ≡ length log.issued =
    omega (arith, c.len-requests.ensures, length-map c.args.log.now.issued.items (λ t. t.bytes)) in
    let said : HasSaid (said_in log) c.len-requests.result c.len-requests.result =
    record { handheld_said = omega (arith, requests, c.requires.answered); desktop_said = omega (arith, requests) } in
    rw (p.1, p.2) (λ before. asked-over log c.in_ok-issue.ensures.kept c.bytes.ensures.bytes (c.in_err-ask.ensures.ends (said_in log) said before))

pub returns-in_err-perform-clause-ends : goal.returns-in_err-perform-clause-ends
returns-in_err-perform-clause-ends g c =
    let p = err_from_is_err_and c.from_residual-in_err-perform.result c.from_residual-in_err-perform.ensures.1 in
    let log = log_value c.args.log.now in
    let request = c.args.request.now in
    let requests : c.len-requests.result ≡ length log.issued =
    omega (arith, c.len-requests.ensures, length-map c.args.log.now.issued.items (λ t. t.bytes)) in
    let said : HasSaid (said_in log) c.len-requests.result c.len-requests.result =
    record { handheld_said = omega (arith, requests, c.requires.answered); desktop_said = omega (arith, requests) } in
    let refuses = c.in_err-perform.ensures.refuses in
    rw (p.1, p.2) (λ before. subst (λ h. LineEnds h (said_in (log_value c.perform.new.log)) c.ask.new.line) (sym refuses.at_rest)
    (answers-over c.in_ok-ask.ensures.answers (refuses.log_is ∙ c.in_ok-issue.ensures.kept)
    (subst (λ m. LineTells (said_in (with_issued log m)) c.ask.new.line) c.bytes.ensures.bytes
    (c.in_ok-ask.ensures.tells (said_in log) said before))))

pub returns-in_err-answer-clause-ends : goal.returns-in_err-answer-clause-ends
returns-in_err-answer-clause-ends g c =
    let p = err_from_is_err_and c.from_residual-in_err-answer.result c.from_residual-in_err-answer.ensures.1 in
    let log = log_value c.args.log.now in
    let request = c.args.request.now in
    let requests : c.len-requests.result ≡ length log.issued =
    omega (arith, c.len-requests.ensures, length-map c.args.log.now.issued.items (λ t. t.bytes)) in
    let said : HasSaid (said_in log) c.len-requests.result c.len-requests.result =
    record { handheld_said = omega (arith, requests, c.requires.answered); desktop_said = omega (arith, requests) } in
    let reply = c.perform.new.reply in
    let more : length (log.issued ++ request ∷ []) ≡ length log.issued + 1 = length-more log.issued request in
    let then : HasSaid (said_in (with_issued log request)) c.len-requests.result (c.len-requests.result + 1) =
    record { handheld_said = omega (arith, requests, c.requires.answered); desktop_said = omega (arith, more, requests) } in
    let log_is = c.in_ok-perform.ensures.performs.log_is ∙ ap (λ l. with_performed l request reply) c.in_ok-issue.ensures.kept in
    rw (p.1, p.2) (λ before. answered-over log request log_is c.bytes-2.ensures.bytes
    (c.in_err-answer.ensures.ends (said_in (with_issued log request)) then
    (subst (λ m. LineTells (said_in (with_issued log m)) c.ask.new.line) c.bytes.ensures.bytes
    (c.in_ok-ask.ensures.tells (said_in log) said before))))

pub returns-in_err-issue-clause-breaks : goal.returns-in_err-issue-clause-breaks
returns-in_err-issue-clause-breaks g c =
    let p = err_from_is_err_and c.from_residual.result c.from_residual.ensures.1 in
    rw (p.1, p.2) (record {
      went = Unsent;
      is = (served-itself g.F.Folder.contents g.F.Folder.moments g.F.Folder.paths g.F.Folder.faults c.args.server.now, c.in_err-issue.ensures.stays);
      unsent = λ is. refl;
      unserved = λ is. absurd cc;
      keeper = λ is. absurd cc;
    })

pub returns-in_err-ask-clause-breaks : goal.returns-in_err-ask-clause-breaks
returns-in_err-ask-clause-breaks g c =
    let p = err_from_is_err_and c.from_residual-in_err-ask.result c.from_residual-in_err-ask.ensures.1 in
    rw (p.1, p.2) (record {
      went = Sent;
      is = (served-itself g.F.Folder.contents g.F.Folder.moments g.F.Folder.paths g.F.Folder.faults c.args.server.now, c.in_ok-issue.ensures.kept);
      unsent = λ is. absurd cc;
      unserved = λ is. absurd cc;
      keeper = λ is. absurd cc;
    })

pub returns-in_err-perform-clause-breaks : goal.returns-in_err-perform-clause-breaks
returns-in_err-perform-clause-breaks g c =
    let p = err_from_is_err_and c.from_residual-in_err-perform.result c.from_residual-in_err-perform.ensures.1 in
    let refuses = c.in_err-perform.ensures.refuses in
    rw (p.1, p.2) (record {
      went = Sent;
      is = (refuses.since, refuses.log_is ∙ c.in_ok-issue.ensures.kept);
      unsent = λ is. absurd cc;
      unserved = λ is. refl;
      keeper = refuses.keeper;
    })

pub returns-in_err-answer-clause-breaks : goal.returns-in_err-answer-clause-breaks
returns-in_err-answer-clause-breaks g c =
    let p = err_from_is_err_and c.from_residual-in_err-answer.result c.from_residual-in_err-answer.ensures.1 in
    let performs = c.in_ok-perform.ensures.performs in
    rw (p.1, p.2) (record {
      went = Served c.perform.new.reply;
      is = (performs.since, performs.log_is ∙ ap (λ l. with_performed l c.args.request.now c.perform.new.reply) c.in_ok-issue.ensures.kept);
      unsent = λ is. absurd cc;
      unserved = λ is. absurd cc;
      keeper = λ is. absurd cc;
    })

pub returns-clause-answers : goal.returns-clause-answers
returns-clause-answers g c =
    let answered = c.in_ok-answer.ensures in
    let requests : c.len-requests.result ≡ length (log_value c.args.log.now).issued =
    omega (arith, c.len-requests.ensures, length-map c.args.log.now.issued.items (λ t. t.bytes)) in
    let frames = map frame_value c.answer.new.line.wire.frames.items in
    let message : c.take_whole.new.message ≡ c.perform.new.reply = subst
    (λ (o : Option (List ℕ)). IfSome o (λ whole. length whole ≤ 65535 → c.take_whole.new.message ≡ whole)) answered.whole c.take_whole.ensures
    c.bytes-2.ensures.bound ∙ c.bytes-2.ensures.bytes in
    record {
      asks = subst (λ n. MayAsk c.answer.new.line (n + 1)) requests answered.asks;
      acked = subst (λ n. EndsAcknowledging Desktop (last_key (session_id (n + 1)) c.take_whole.new.message) frames) requests
          (subst (λ m. EndsAcknowledging Desktop (last_key (session_id (c.len-requests.result + 1)) m) frames)
          (c.bytes-2.ensures.bytes ∙ sym message) answered.acked);
      performs = subst (λ m. Performs g.F.Folder.contents g.F.Folder.moments g.F.Folder.paths g.F.Folder.faults c.args.server.now
          c.perform.new.server (with_issued (log_value c.args.log.now) c.args.request.now) (log_value c.perform.new.log) c.args.request.now m) (sym message)
          (subst (λ l. Performs g.F.Folder.contents g.F.Folder.moments g.F.Folder.paths g.F.Folder.faults c.args.server.now c.perform.new.server l
          (log_value c.perform.new.log) c.args.request.now c.perform.new.reply) c.in_ok-issue.ensures.kept c.in_ok-perform.ensures.performs);
    }

pub returns-clause-tells : goal.returns-clause-tells
returns-clause-tells g c before =
    let log = log_value c.args.log.now in
    let request = c.args.request.now in
    let reply = c.perform.new.reply in
    let requests : c.len-requests.result ≡ length log.issued =
    omega (arith, c.len-requests.ensures, length-map c.args.log.now.issued.items (λ t. t.bytes)) in
    let said : HasSaid (said_in log) c.len-requests.result c.len-requests.result =
    record { handheld_said = omega (arith, requests, c.requires.answered); desktop_said = omega (arith, requests) } in
    let asked : LineTells (said_in (with_issued log request)) c.ask.new.line = subst (λ m. LineTells (said_in (with_issued log m)) c.ask.new.line)
    c.bytes.ensures.bytes (c.in_ok-ask.ensures.tells (said_in log) said before) in
    let more : length (log.issued ++ request ∷ []) ≡ length log.issued + 1 = length-more log.issued request in
    let then : HasSaid (said_in (with_issued log request)) c.len-requests.result (c.len-requests.result + 1) =
    record { handheld_said = omega (arith, requests, c.requires.answered); desktop_said = omega (arith, more, requests) } in
    let told = subst (λ m. LineTells (said_in (with_performed (with_issued log request) request m)) c.answer.new.line) c.bytes-2.ensures.bytes
    (c.in_ok-answer.ensures.tells (said_in (with_issued log request)) then asked) in
    let log_is = c.in_ok-perform.ensures.performs.log_is ∙ ap (λ l. with_performed l request reply) c.in_ok-issue.ensures.kept in
    subst (λ l. LineTells (said_in l) c.answer.new.line) (sym log_is) told

pub returns-in_err-issue-clause-heard : goal.returns-in_err-issue-clause-heard
returns-in_err-issue-clause-heard g c =
    let p = err_from_is_err_and c.from_residual.result c.from_residual.ensures.1 in
    let log = log_value c.args.log.now in
    rw (p.1, p.2) (λ before. subst (λ l. IsHeard NoMemory l (length log.replies) c.args.line.now) (sym c.in_err-issue.ensures.stays)
    (heard-rest refl (sym c.requires.answered) (told-asks c.requires.asks before)))

pub returns-in_err-ask-clause-heard : goal.returns-in_err-ask-clause-heard
returns-in_err-ask-clause-heard g c =
    let p = err_from_is_err_and c.from_residual-in_err-ask.result c.from_residual-in_err-ask.ensures.1 in
    let log = log_value c.args.log.now in
    let request = c.args.request.now in
    let requests : c.len-requests.result ≡ length log.issued =
    omega (arith, c.len-requests.ensures, length-map c.args.log.now.issued.items (λ t. t.bytes)) in
    let said : HasSaid (said_in log) c.len-requests.result c.len-requests.result =
    record { handheld_said = omega (arith, requests, c.requires.answered); desktop_said = omega (arith, requests) } in
    let failed = c.in_err-ask.ensures in
    rw (p.1, p.2) (λ before. heard-asked log c.in_ok-issue.ensures.kept c.bytes.ensures.bytes c.requires.answered (failed.ends (said_in log) said before)
    (failed.within (said_in log) said before))

pub returns-in_err-perform-clause-heard : goal.returns-in_err-perform-clause-heard
returns-in_err-perform-clause-heard g c =
    let p = err_from_is_err_and c.from_residual-in_err-perform.result c.from_residual-in_err-perform.ensures.1 in
    let log = log_value c.args.log.now in
    let request = c.args.request.now in
    let requests : c.len-requests.result ≡ length log.issued =
    omega (arith, c.len-requests.ensures, length-map c.args.log.now.issued.items (λ t. t.bytes)) in
    let said : HasSaid (said_in log) c.len-requests.result c.len-requests.result =
    record { handheld_said = omega (arith, requests, c.requires.answered); desktop_said = omega (arith, requests) } in
    let refuses = c.in_err-perform.ensures.refuses in
    rw (p.1, p.2) (λ before. subst (λ h. IsHeard h (log_value c.perform.new.log) (length log.replies) c.ask.new.line) (sym refuses.at_rest)
    (heard-refused log request (refuses.log_is ∙ c.in_ok-issue.ensures.kept) c.requires.answered
    (told-answers c.in_ok-ask.ensures.answers (subst (λ m. LineTells (said_in (with_issued log m)) c.ask.new.line) c.bytes.ensures.bytes
    (c.in_ok-ask.ensures.tells (said_in log) said before)))))

pub returns-in_err-answer-clause-heard : goal.returns-in_err-answer-clause-heard
returns-in_err-answer-clause-heard g c =
    let p = err_from_is_err_and c.from_residual-in_err-answer.result c.from_residual-in_err-answer.ensures.1 in
    let log = log_value c.args.log.now in
    let request = c.args.request.now in
    let requests : c.len-requests.result ≡ length log.issued =
    omega (arith, c.len-requests.ensures, length-map c.args.log.now.issued.items (λ t. t.bytes)) in
    let said : HasSaid (said_in log) c.len-requests.result c.len-requests.result =
    record { handheld_said = omega (arith, requests, c.requires.answered); desktop_said = omega (arith, requests) } in
    let reply = c.perform.new.reply in
    let more : length (log.issued ++ request ∷ []) ≡ length log.issued + 1 = length-more log.issued request in
    let then : HasSaid (said_in (with_issued log request)) c.len-requests.result (c.len-requests.result + 1) =
    record { handheld_said = omega (arith, requests, c.requires.answered); desktop_said = omega (arith, more, requests) } in
    let log_is = c.in_ok-perform.ensures.performs.log_is ∙ ap (λ l. with_performed l request reply) c.in_ok-issue.ensures.kept in
    let failed = c.in_err-answer.ensures in
    rw (p.1, p.2) (λ before. (let tells = subst (λ m. LineTells (said_in (with_issued log m)) c.ask.new.line) c.bytes.ensures.bytes
    (c.in_ok-ask.ensures.tells (said_in log) said before) in
    heard-answered log request log_is c.bytes-2.ensures.bytes c.requires.answered
    (failed.ends (said_in (with_issued log request)) then tells) (failed.within (said_in (with_issued log request)) then tells)))

longer : (xs ys : List (List ℕ)) (x : List ℕ) → ys ≡ xs ++ x ∷ [] → ys ≡ xs → ⊥
longer xs ys x more same = omega (arith, length-later xs x more, ap (λ (l : List (List ℕ)). length l) same)

pub returns-in_err-ask-clause-unsent : goal.returns-in_err-ask-clause-unsent
returns-in_err-ask-clause-unsent g c =
    let p = err_from_is_err_and c.from_residual-in_err-ask.result c.from_residual-in_err-ask.ensures.1 in
    let log = log_value c.args.log.now in
    let later = log_value c.issue.new.self in
    rw p.1 (λ same. absurd (longer log.issued later.issued c.args.request.now (ap (λ l. l.issued) c.in_ok-issue.ensures.kept)
    (ap (λ l. l.issued) same)))

pub returns-in_err-perform-clause-unsent : goal.returns-in_err-perform-clause-unsent
returns-in_err-perform-clause-unsent g c =
    let p = err_from_is_err_and c.from_residual-in_err-perform.result c.from_residual-in_err-perform.ensures.1 in
    let log = log_value c.args.log.now in
    let later = log_value c.perform.new.log in
    let is = c.in_err-perform.ensures.refuses.log_is ∙ c.in_ok-issue.ensures.kept in
    rw p.1 (λ same. absurd (longer log.issued later.issued c.args.request.now (ap (λ l. l.issued) is) (ap (λ l. l.issued) same)))

pub returns-in_err-answer-clause-unsent : goal.returns-in_err-answer-clause-unsent
returns-in_err-answer-clause-unsent g c =
    let p = err_from_is_err_and c.from_residual-in_err-answer.result c.from_residual-in_err-answer.ensures.1 in
    let log = log_value c.args.log.now in
    let later = log_value c.perform.new.log in
    let is = c.in_ok-perform.ensures.performs.log_is ∙ ap
    (λ l. with_performed l c.args.request.now c.perform.new.reply) c.in_ok-issue.ensures.kept in
    rw p.1 (λ same. absurd (longer log.issued later.issued c.args.request.now (ap (λ l. l.issued) is) (ap (λ l. l.issued) same)))
