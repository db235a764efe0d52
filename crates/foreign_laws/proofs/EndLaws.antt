-- An inquiry of parts ends where its parts end, one behind the other.
use Rattle.std.proofs.Common.{◌≡◌, refl, sym, subst, List, [], ◌∷◌, ℕ}
use Rattle.std.specs.Prelude.{Result, Ok, Err}
use Rattle.dlp_commands.specs.Tries.{Answered, Try, Unanswered}
use Rattle.desktop_session.specs.Inquiries.{After, Asks, Ends, Inquiry, ◌>>=◌}
use Rattle.foreign_laws.specs.Endings.{EndsOver, TakesEach}

pub ok_same : {A E : Type 0} {x y : A} → ◌≡◌ {A = Result A E} (Ok x) (Ok y) → x ≡ y
ok_same is = cc

-- a part that ended, and what is left behind it
pub record Parts {S A B : Type 0} (Step : S → List ℕ → List ℕ → S → Type 0) (part : Inquiry A) (next : A → Inquiry B) (old : S) (y : B) (new : S)
    : Type 0 where
  pub x : A
  pub between : S
  pub first : EndsOver Step part old x between
  pub rest : EndsOver Step (next x) between y new

module _ {S : Type 0} (Step : S → List ℕ → List ℕ → S → Type 0) where
  pub ends_parts : {A B : Type 0} (part : Inquiry A) (next : A → Inquiry B) (old : S) (y : B) (new : S)
      → EndsOver Step (part >>= next) old y new → Parts Step part next old y new
  unfolding ◌>>=◌
  ends_parts (Ends (Ok x)) next old y new ended = record { x = x; between = old; first = (refl, refl); rest = ended }
  ends_parts (Ends (Err cause)) next old y new ended = absurd (let e = ended.0 in cc)
  ends_parts (Asks request more) next old y new ended =
      let parts = ends_parts (more ended.0) next ended.1 y new ended.4 in
      record {
        x = parts.x;
        between = parts.between;
        first = (ended.0, ended.1, ended.2, ended.3, parts.first);
        rest = parts.rest;
      }

  pub ends_then : {A B : Type 0} (part : Inquiry A) (next : A → Inquiry B) (old : S) (x : A) (between : S) (y : B) (new : S)
      → EndsOver Step part old x between → EndsOver Step (next x) between y new → EndsOver Step (part >>= next) old y new
  unfolding ◌>>=◌
  ends_then {A} {B} (Ends (Ok z)) next old x between y new first rest =
      subst (λ (s : S). EndsOver Step (next z) s y new) first.1 (subst (λ (w : A). EndsOver Step (next w) between y new) (sym (ok_same first.0)) rest)
  ends_then (Ends (Err cause)) next old x between y new first rest = absurd (let e = first.0 in cc)
  ends_then (Asks request more) next old x between y new first rest =
      (first.0, first.1, first.2, first.3, ends_then (more first.0) next first.1 x between y new first.4 rest)

  -- tries that follow an inquiry to its end
  pub tries_end : {A : Type 0} (asked : Inquiry A) (tries : List Try) (old : S) (x : A) (new : S) → After asked tries (Ends (Ok x))
      → TakesEach Step old tries new → EndsOver Step asked old x new
  tries_end asked [] old x new after takes = ends_here asked after takes
    where
      ends_here : {A : Type 0} {x : A} (asked : Inquiry A) → Ends (Ok x) ≡ asked → new ≡ old → EndsOver Step asked old x new
      ends_here (Ends answer) is same = (cc, same)
      ends_here (Asks request more) is same = absurd cc
  tries_end (Ends answer) (one ∷ tries) old x new after takes = absurd after
  tries_end (Asks request more) (Answered bytes reply ∷ tries) old x new after takes = (
    reply,
    takes.0,
    after.0.fits,
    subst (λ (b : List ℕ). Step old b reply takes.0) after.0.is takes.1,
    tries_end (more reply) tries takes.0 x new after.1 takes.2,
  )
  tries_end {A} (Asks request more) (Unanswered bytes ∷ tries) old x new after takes =
      absurd (let left : Ends (Ok x) ≡ Asks request more = subst (λ (t : List Try). After (Asks request more) t (Ends (Ok x))) takes.0 after.1 in cc)
