-- What both ends took of what was said, behind a request.
use Rattle.line_world.proofs.Names.{common_steps, ◌≡◌, ℕ, suc, ◌-◌, List, [], ◌∷◌, ◌++◌, length, take, refl, sym, subst, arith, inl, inr, take_all, End}
use Rattle.line_world.proofs.Names.{Handheld, Desktop, messages_of, Line, Halt, NoMemory, HaltsWithin, LineEnds, LineTold, bytes_of, init, wake, told-last}
use Rattle.line_world.proofs.Names.{told-others, LogValue, said_in, with_issued, with_performed, IsHeard}
use Rattle.line_world.proofs.LogLaws.{length-more}

-- at rest, where all was dealt with
pub heard-rest : {halt : Halt} {log : LogValue} {answered : ℕ} {line : Line} → length log.replies ≡ answered → length log.issued ≡ length log.replies
    → ((X : End) → LineTold X (messages_of X (said_in log)) line) → IsHeard halt log answered line
heard-rest replied issued told = grind (arith, common_steps)

-- all but the last of them
but-last : (X : End) {greeting : List ℕ} (messages : List (List ℕ)) (message : List ℕ) {count : ℕ} (line : Line) → length messages ≡ count
    → LineTold X (take (length (greeting ∷ (messages ++ message ∷ [])) - 1) (greeting ∷ (messages ++ message ∷ []))) line
    → LineTold X (greeting ∷ take count (messages ++ message ∷ [])) line
but-last X {greeting} messages message {count} line same told =
    let more : length (greeting ∷ (messages ++ message ∷ [])) - 1 ≡ suc count = omega (arith, length-more messages message, same) in
    subst (λ n. LineTold X (take n (greeting ∷ (messages ++ message ∷ []))) line) more told

-- the request was on its way
pub heard-asked : {halt : Halt} (log : LogValue) {later : LogValue} {line : Line} {request sent : List ℕ} → later ≡ with_issued log request → sent ≡ request
    → length log.replies ≡ length log.issued
    → LineEnds halt (said_in (with_issued log sent)) line → HaltsWithin Desktop halt (said_in (with_issued log sent)) line
    → IsHeard halt later (length log.replies) line
heard-asked {halt} log {line} {sent} later_is is all over within =
    subst (λ l. IsHeard halt l (length log.replies) line) (sym later_is)
    (subst (λ m. IsHeard halt (with_issued log m) (length log.replies) line) is (record {
      requests = elim (told-last halt over within) [
        | inl whole ↦ inr (omega (arith, length-more log.issued sent, all), whole.0, whole.1)
        | inr but ↦ inl (but-last Desktop log.issued sent line (sym all) but)
      ];
      replies = inl (subst (λ (l : List (List ℕ)). LineTold Handheld (bytes_of wake ∷ l) line)
          (sym (take_all (length log.replies) log.replies (omega arith))) (told-others over within));
    }))

-- it was there, and wasn't performed
pub heard-refused : (log : LogValue) {later : LogValue} {line : Line} (request : List ℕ) → later ≡ with_issued log request
    → length log.replies ≡ length log.issued → ((X : End) → LineTold X (messages_of X (said_in (with_issued log request))) line)
    → IsHeard NoMemory later (length log.replies) line
heard-refused log request later_is all told = grind (arith, common_steps)

-- the reply was on its way
pub heard-answered : {halt : Halt} (log : LogValue) {later : LogValue} {line : Line} (request : List ℕ) {reply sent : List ℕ}
    → later ≡ with_performed (with_issued log request) request reply → sent ≡ reply → length log.replies ≡ length log.issued
    → LineEnds halt (said_in (with_performed (with_issued log request) request sent)) line
    → HaltsWithin Handheld halt (said_in (with_performed (with_issued log request) request sent)) line → IsHeard halt later (length log.replies) line
heard-answered {halt} log {line} request {sent} later_is is all over within =
    let said = said_in (with_performed (with_issued log request) request sent) in
    subst (λ l. IsHeard halt l (length log.replies) line) (sym later_is)
    (subst (λ m. IsHeard halt (with_performed (with_issued log request) request m) (length log.replies) line) is (record {
      requests = inl (subst (λ (l : List (List ℕ)). LineTold Desktop (bytes_of init ∷ l) line)
          (sym (take_all (length (log.replies ++ sent ∷ [])) (log.issued ++ request ∷ [])
          (omega (arith, length-more log.issued request, length-more log.replies sent, all)))) (told-others over within));
      replies = elim (told-last halt over within) [
        | inl whole ↦ inr (omega (arith, length-more log.replies sent), whole.0, whole.1)
        | inr but ↦ inl (but-last Handheld log.replies sent line refl but)
      ];
    }))
