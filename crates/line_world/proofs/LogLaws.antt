-- What was said over a line, in numbers.
use Rattle.line_world.proofs.Names.{common_steps, rules, ◌≡◌, ℕ, ◌+◌, List, [], ◌∷◌, ◌++◌, length, arith, length-append, MessageTextValue, LogValue, texts}
use Rattle.line_world.proofs.Names.{with_issued, with_performed, IsLog}

pub length-more : {X : Type 0} (xs : List X) (x : X) → length (xs ++ x ∷ []) ≡ length xs + 1
length-more xs x = length-append xs (x ∷ [])

pub length-later : {X : Type 0} (xs : List X) {ys : List X} (x : X) → ys ≡ xs ++ x ∷ [] → length ys ≡ length xs + 1
length-later xs x is = grind (arith, common_steps)

module _ {log : LogValue} {answered : ℕ} where
  -- where all was answered, all was performed
  pub replies-all : IsLog log answered → length log.issued ≡ answered → length log.replies ≡ answered
  replies-all is all = search rules

  pub log-issued : (request : List ℕ) → IsLog log answered → length log.issued ≡ answered → IsLog (with_issued log request) answered
  log-issued request is all = grind (arith, common_steps)

  pub log-performed : (request reply : List ℕ) → IsLog log answered → length log.issued ≡ answered
      → IsLog (with_performed (with_issued log request) request reply) answered
  log-performed request reply is all = grind (arith, common_steps)

  pub log-answered : (request reply : List ℕ) → IsLog log answered → length log.issued ≡ answered
      → IsLog (with_performed (with_issued log request) request reply) (answered + 1)
  log-answered request reply is all = grind (arith, common_steps)

-- ---- kept texts

pub texts-more : (kept : List MessageTextValue) (text : MessageTextValue) → texts (kept ++ text ∷ []) ≡ texts kept ++ text.bytes ∷ []
texts-more kept text = grind (arith, common_steps)

-- the same by its parts
pub same_log : {a b : LogValue} → a.issued ≡ b.issued → a.performed ≡ b.performed → a.replies ≡ b.replies → a.given ≡ b.given → a ≡ b
same_log p q r s = search rules
