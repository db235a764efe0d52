-- What is asked under the handle of a database is followed, from its opening to its closing.
use Rattle.std.proofs.Common.{◌≡◌, ◌++◌, ℕ, List, [], refl, sym, subst}
use Rattle.std.specs.Prelude.{IfErr, OnErr, Result, Ok, Err}
use Rattle.dlp_commands.specs.declared.link.Link.{Ghosts}
use Rattle.dlp_commands.specs.Tries.{Try}
use Rattle.desktop_session.specs.declared.fault.SessionFault.{SessionFault}
use Rattle.desktop_session.specs.Asking.{closes}
use Rattle.desktop_session.specs.Following.{Follows}
use Rattle.desktop_session.specs.Inquiries.{Ends, Inquiry, ◌>>=◌}
use Rattle.mirrors.proofs.PartFollows.{follows_none, then_ends, then_goes}
use Rattle.session_parts.specs.Inquiries.{under}

-- what is asked once its answer is there
abbrev closing_with : {A : Type 0} → ℕ → A → Inquiry A
closing_with handle answer = closes handle >>= (λ closed. Ends (Ok answer))

-- and once it is open
abbrev behind : {A : Type 0} → (ℕ → Inquiry A) → ℕ → Inquiry A
behind inner handle = inner handle >>= (λ answer. closing_with handle answer)

module _ {L A : Type 0} {link : Ghosts L} (heard_none : (a : L) → link.heard a [] a)
    (heard_more : (a b c : L) (first next : List Try) → link.heard a first b → link.heard b next c → link.heard a (first ++ next) c)
    (opening : Inquiry ℕ) (inner : ℕ → Inquiry A) {old : L} where
  -- it was not opened
  pub under_unopened : {C : Type 0} (P Q : Type 0) {new : L} {cause : SessionFault} (r : Result C SessionFault) → r ≡ Err cause
      → OnErr r (P × Q × IfErr r (λ why. Follows link opening old new (Err why))) → Follows link (under opening inner) old new (Err cause)
  under_unopened P Q (Ok opened) is held = absurd cc
  under_unopened P Q {new} {cause} (Err other) is held =
      let same : other ≡ cause = cc in
      then_ends heard_none heard_more (behind inner) (subst (λ (why : SessionFault). Follows link opening old new (Err why)) same held.2)

  module _ {handle : ℕ} {mid : L} (opens : Follows link opening old mid (Ok handle)) where
    -- what was to be asked stopped, and the database was left
    pub under_stopped : {now new : L} {cause : SessionFault} → Follows link (inner handle) mid now (Err cause) → new ≡ now
        → Follows link (under opening inner) old new (Err cause)
    under_stopped {cause} stops left =
        subst (λ (end : L). Follows link (under opening inner) old end (Err cause)) (sym left)
        (then_goes heard_none heard_more (behind inner) opens (then_ends heard_none heard_more (closing_with handle) stops))

    module _ {last : ℕ} {done now new : L} {x : A} (asks : Follows link (inner handle) mid done (Ok x)) (same : last ≡ handle) where
      -- it was asked, and the closing was refused, or done
      pub under_unclosed : {cause : SessionFault} → Follows link (closes last) done now (Err cause) → new ≡ now
          → Follows link (under opening inner) old new (Err cause)
      under_unclosed {cause} closing left =
          subst (λ (end : L). Follows link (under opening inner) old end (Err cause)) (sym left)
          (then_goes heard_none heard_more (behind inner) opens (then_goes heard_none heard_more (closing_with handle) asks
          (then_ends heard_none heard_more (λ closed. Ends (Ok x)) (rw same at closing))))

      pub under_closed : {end : Unit {0}} → Follows link (closes last) done now (Ok end) → new ≡ now → Follows link (under opening inner) old new (Ok x)
      under_closed closing left =
          subst (λ (end : L). Follows link (under opening inner) old end (Ok x)) (sym left)
          (then_goes heard_none heard_more (behind inner) opens (then_goes heard_none heard_more (closing_with handle) asks
          (then_goes heard_none heard_more (λ closed. Ends (Ok x)) (rw same at closing) (follows_none heard_none (Ok x) _ refl))))

-- the same where nothing is answered but that it was done
module _ {L : Type 0} {link : Ghosts L} (heard_none : (a : L) → link.heard a [] a)
    (heard_more : (a b c : L) (first next : List Try) → link.heard a first b → link.heard b next c → link.heard a (first ++ next) c)
    (opening : Inquiry ℕ) (inner : ℕ → Inquiry (Unit {0})) {old mid done now new : L} {handle last : ℕ} where
  pub under_done : Follows link opening old mid (Ok handle) → Follows link (inner handle) mid done (Ok tt) → last ≡ handle
      → (answer : Result (Unit {0}) SessionFault) → Follows link (closes last) done now answer → new ≡ now
      → Follows link (under opening inner) old new answer
  under_done opens asks same (Ok end) closing left = under_closed heard_none heard_more opening inner opens asks same closing left
  under_done opens asks same (Err cause) closing left = under_unclosed heard_none heard_more opening inner opens asks same closing left
