-- What holds of the calls of a link since an earlier time goes on.
use Rattle.std.proofs.Common.{◌≡◌, ◌∙◌, List, [], ◌∷◌, ◌++◌, ap, append_assoc, append-nil, refl, subst, subst₂, sym}
use Rattle.dlp_commands.specs.Tries.{Try}
use Rattle.port_link.specs.Calls.{AreCalls, Call, Heard, HeardBy, IsCall, LinkValue, Since, tries_at}

calls-then : (a : LinkValue) (es : List Call) (b : LinkValue) (fs : List Call) (c : LinkValue)
    → AreCalls a es b → AreCalls b fs c → AreCalls a (es ++ fs) c
calls-then a [] b fs c first next = subst (λ (v : LinkValue). AreCalls v fs c) first next
calls-then a (call ∷ es) b fs c first next =
    (first.0, first.1, calls-then first.0 es b fs c first.2 next)

-- since the same time no call was made
pub since_itself : (link : LinkValue) → Since link link
since_itself link = ([], refl)

pub since_more : (a b c : LinkValue) → Since a b → Since b c → Since a c
since_more a b c first next = (first.0 ++ next.0, calls-then a first.0 b next.0 c first.1 next.1)

-- ---- what was asked and replied

pub heard_none : (link : LinkValue) → Heard link [] link
heard_none link = ([], (refl, refl))

heard-then : (a : LinkValue) (es : List Call) (xs : List Try) (b : LinkValue) (fs : List Call)
    (ys : List Try) (c : LinkValue) → HeardBy a es xs b → HeardBy b fs ys c
    → HeardBy a (es ++ fs) (xs ++ ys) c
heard-then a [] xs b fs ys c first next =
    subst₂ (λ (v : LinkValue) (tries : List Try). HeardBy v fs tries c) first.0
    (sym (ap (λ (tries : List Try). tries ++ ys) first.1)) next
heard-then a (call ∷ es) xs b fs ys c first next = (
  first.0,
  first.1,
  first.2 ++ ys,
  ap (λ (tries : List Try). tries ++ ys) first.3
      ∙ append_assoc (tries_at a.cause call first.0.cause) first.2 ys,
  heard-then first.0 es first.2 b fs ys c first.4 next,
)

pub heard_more : (a b c : LinkValue) (xs ys : List Try) → Heard a xs b → Heard b ys c
    → Heard a (xs ++ ys) c
heard_more a b c xs ys first next =
    (first.0 ++ next.0, heard-then a first.0 xs b next.0 ys c first.1 next.1)

-- one call
pub heard_one : (call : Call) (old new : LinkValue) → IsCall old.cause call old new
    → Heard old (tries_at old.cause call new.cause) new
heard_one call old new it = (
  call ∷ [],
  (
    new,
    it,
    [],
    sym (append-nil (tries_at old.cause call new.cause)),
    (refl, refl),
  ),
)
