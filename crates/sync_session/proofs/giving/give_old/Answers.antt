-- Nothing is put, or something is.
use Rattle.std.proofs.Common.{◌≡◌, ◌+◌, length, refl, ◌∙◌, sym, ℕ, zero, suc, List, [], ◌∷◌, ◌++◌, drop, arith, Option}
use Rattle.session_parts.proofs.SpanLaws.{span_none}
use Rattle.sync_session.proofs.MeetingWords.{ContentValue, Plan, opened_news}
use Rattle.session_parts.proofs.LinkWords.{Talk, opening}
use Rattle.mirrors.specs.News.{as_new, news_of, puts}
use Rattle.sync_session.specs.Gains.{AreGained}
use Rattle.session_parts.specs.Spans.{within}
use Rattle.std.specs.Prelude.{Ok}
use Rattle.desktop_session.specs.Asking.{opens}
use Rattle.mirrors.specs.WriteInquiries.{sends_news}
use Rattle.mirrors.proofs.PartFollows.{follows_none}
use Rattle.session_parts.specs.Inquiries.{under}
use Rattle.sync_session.specs.Inquiries.{gives_old}
use Rattle.sync_session.proofs.giving.give_old.Goals as goal
use Rattle.mirrors.proofs.NewsLaws.{free_none}

none_put : (rows : List (ℕ × ContentValue)) (adds : List ContentValue) → length rows + length adds ≡ 0 → rows ++ as_new adds ≡ []
none_put [] [] none = refl
none_put [] (c ∷ adds) none = absurd (omega arith)
none_put (r ∷ rows) adds none = absurd (omega arith)

nothing_put : (plan : Plan) → length plan.replace.items + length plan.adds.items ≡ 0 → news_of plan ≡ []
nothing_put plan none = none_put plan.replace.items plan.adds.items none

some_put : (name : List ℕ) (rows : List (ℕ × ContentValue)) (adds : List ContentValue) → (length rows + length adds ≡ 0 → ⊥)
    → within (opening name) (λ handle given. puts handle given (rows ++ as_new adds)) ≡ opened_news name (rows ++ as_new adds)
some_put name [] [] some = absurd (some refl)
some_put name [] (c ∷ adds) some = refl
some_put name (r ∷ rows) adds some = refl

something_put : (name : List ℕ) (plan : Plan) → (length plan.replace.items + length plan.adds.items ≡ 0 → ⊥)
    → within (opening name) (λ handle given. puts handle given (news_of plan)) ≡ opened_news name (news_of plan)
something_put name plan some = some_put name plan.replace.items plan.adds.items some

-- the same of what is asked
some_given : (name : List ℕ) (plan : Plan) (rows : List (ℕ × ContentValue)) (adds : List ContentValue) → (length rows + length adds ≡ 0 → ⊥)
    → gives_old name plan (rows ++ as_new adds) ≡ under (opens 0xD0 name) (λ handle. sends_news handle plan)
some_given name plan [] [] some = absurd (some refl)
some_given name plan [] (c ∷ adds) some = refl
some_given name plan (r ∷ rows) adds some = refl

something_given : (name : List ℕ) (plan : Plan) → (length plan.replace.items + length plan.adds.items ≡ 0 → ⊥)
    → gives_old name plan (news_of plan) ≡ under (opens 0xD0 name) (λ handle. sends_news handle plan)
something_given name plan some = some_given name plan plan.replace.items plan.adds.items some

no_drop : (n : ℕ) → drop {A = ℕ} n [] ≡ []
no_drop zero = refl
no_drop (suc n) = refl

-- no ids are those of no adds
none_gained : (told : Option Talk) (plan : Plan) (handle : ℕ) (ids : List ℕ) → length plan.replace.items + length plan.adds.items ≡ 0 → ids ≡ []
    → AreGained told plan handle [] ids
none_gained told plan handle ids none is = record {
  behind = is ∙ sym (no_drop (length plan.replace.items));
  own = rw (nothing_put plan none) tt;
  free = rw (nothing_put plan none) (free_none told handle);
}

pub returns-then-is_nothing : goal.returns-then-is_nothing
returns-then-is_nothing g c =
    let none : length c.args.plan.now.replace.items + length c.args.plan.now.adds.items ≡ 0
    = rw (c.deref.ensures.value, c.deref-2.ensures.value) at (c.if-is_nothing.ensures.0 refl) in
    record {
      spans = rw (nothing_put c.args.plan.now none)
          (span_none g.met.L.Link.since_itself (none_gained _ c.args.plan.now 1 _ none c.new.ensures.items));
      follows = rw (nothing_put c.args.plan.now none, c.new.ensures.items) (follows_none g.met.L.Link.heard_none (Ok []) _ refl);
    }

pub returns : goal.returns
returns g c =
    let some : (length c.args.plan.now.replace.items + length c.args.plan.now.adds.items ≡ 0 → ⊥)
    = λ none. absurd (let is = c.if-is_nothing.ensures.1 (rw (c.deref.ensures.value, c.deref-2.ensures.value) none) in cc) in
    record {
      spans = rw (← something_put c.args.name.now c.args.plan.now some) c.give_one.ensures.spans;
      follows = rw (something_given c.args.name.now c.args.plan.now some) c.give_one.ensures.follows;
    }
