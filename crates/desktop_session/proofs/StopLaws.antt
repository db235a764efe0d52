-- One stretch of a session after another.
use Rattle.std.proofs.Common.{◌≡◌, inl, ℕ, List, [], ◌++◌, map, arith}
use Rattle.std.proofs.lemmas.List.{map-append}
use Rattle.std.specs.Prelude.{Option, Some}
use Rattle.dlp_commands.specs.declared.link.LinkFault.{LinkFault}
use Rattle.dlp_commands.specs.declared.link.LinkFault.TheVariants as link
use Rattle.dlp_commands.specs.Links.{WentDown}
use Rattle.dlp_commands.specs.Talks.{Talk}
use Rattle.desktop_session.specs.Acts.{Act, text}
use Rattle.desktop_session.specs.Stops.{Does, Stops}
use Rattle.desktop_session.proofs.SaysLaws.{begins_after, begins_more, begins_same, grown_grown, grown_none, saying_none, saying_then}
use Rattle.std.proofs.lemmas.Grind.{common_steps}
use Rattle.std.proofs.lemmas.Bool.Decides.{nat_tests}
use Rattle.std.proofs.Common.{rules}

-- ---- the count of downs

pub fell_then : {a b c : Option LinkFault} {x y z : ℕ} → WentDown a x y (b ≡ Some link.Down) → WentDown b y z (c ≡ Some link.Down)
    → WentDown a x z (c ≡ Some link.Down)
fell_then first second = grind (arith, common_steps, nat_tests)

-- ---- what was done

pub does_none : {L : Type 0} {talk : L → Option Talk} {a : L} → Does talk [] a a
does_none = search (rules, saying_none, grown_none)

pub does_then : {L : Type 0} (talk : L → Option Talk) (xs ys : List Act) (a b c : L) → Does talk xs a b → Does talk ys b c → Does talk (xs ++ ys) a c
does_then talk xs ys a b c first second = search (rules, saying_then, grown_grown, map-append)

-- ---- where it stopped

pub stops_none : {L : Type 0} (talk : L → Option Talk) (since : L → L → Type 0) (fault : L → Option LinkFault) (downs : L → ℕ)
    (more : List (List ℕ)) (a b : L) → talk b ≡ talk a → since a b → WentDown (fault a) (downs a) (downs b) (fault b ≡ Some link.Down)
    → Stops talk since fault downs more a b
stops_none talk since fault downs more a b same later fell = search (rules, begins_same)

pub stops_more : {L : Type 0} (talk : L → Option Talk) (since : L → L → Type 0) (fault : L → Option LinkFault) (downs : L → ℕ)
    (zs more : List (List ℕ)) (a b : L) → Stops talk since fault downs zs a b → Stops talk since fault downs (zs ++ more) a b
stops_more talk since fault downs zs more a b stops = search (rules, begins_more)

pub stops_then : {L : Type 0} (talk : L → Option Talk) (since : L → L → Type 0) (fault : L → Option LinkFault) (downs : L → ℕ)
    (since_more : (x y z : L) → since x y → since y z → since x z) (xs : List Act) (more : List (List ℕ)) (a b c : L) → Does talk xs a b
    → Stops talk since fault downs (map text xs) a b → Stops talk since fault downs more b c
    → Stops talk since fault downs (map text xs ++ more) a c
stops_then talk since fault downs since_more xs more a b c does first second = search (rules, begins_after, fell_then)

-- no more went out
pub fell_none : {L : Type 0} (fault : L → Option LinkFault) (downs : L → ℕ) (a : L) → WentDown (fault a) (downs a) (downs a) (fault a ≡ Some link.Down)
fell_none fault downs a = record { later = omega arith; rose = λ down. inl down }

-- nothing was said before
does_same : {L : Type 0} (talk : L → Option Talk) (a b : L) → talk b ≡ talk a → Does talk [] a b
does_same talk a b same = search (rules, saying_none, grown_none)

pub stops_after_none : {L : Type 0} {talk : L → Option Talk} {since : L → L → Type 0} {fault : L → Option LinkFault} {downs : L → ℕ}
    (since_more : (x y z : L) → since x y → since y z → since x z) {more : List (List ℕ)} {a b c : L}
    → talk b ≡ talk a → since a b → WentDown (fault a) (downs a) (downs b) (fault b ≡ Some link.Down) → Stops talk since fault downs more b c
    → Stops talk since fault downs more a c
stops_after_none since_more same later fell second = search (rules, stops_then, does_same, stops_none)

pub stops_between : {L : Type 0} (talk : L → Option Talk) (since : L → L → Type 0) (fault : L → Option LinkFault) (downs : L → ℕ)
    (more : List (List ℕ)) (x y a b : L) → x ≡ a → y ≡ b → Stops talk since fault downs more x y → Stops talk since fault downs more a b
stops_between talk since fault downs more x y a b first last stops = search (rules)
