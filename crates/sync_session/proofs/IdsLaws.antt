-- No request depends on the ids that new records get.
use Rattle.std.proofs.Common.{◌≡◌, refl, ap, ℕ, List, [], ◌∷◌, ◌++◌, map, length, take, drop, replicate, Option, Some, None}
use Rattle.std.proofs.lemmas.List.{map-append}
use Rattle.sync_session.proofs.MeetingWords.{ContentValue, DatabaseValue, Meeting, Task, active, choice, adds_of, before_commit, requests, session}
use Rattle.session_parts.proofs.LinkWords.{Act, text, closing, making, opening, putting}
use Rattle.mirrors.specs.News.{as_new, puts}
use Rattle.session_plan.specs.Heads.{made_head}
use Rattle.session_plan.specs.Choosing.{add_count}
use Rattle.sync_session.specs.News.{all_news, news_acts, news_by, opened_for, replaced, task_blocks, writes}

pub text-puts : (handle : ℕ) (entries : List (ℕ × ContentValue)) (ids others : List ℕ)
    → map text (puts handle ids entries) ≡ map text (puts handle others entries)
unfolding puts text
text-puts handle [] ids others = refl
text-puts handle (e ∷ es) [] [] = refl
text-puts handle (e ∷ es) [] (o ∷ others) = ap (λ zs. text (putting 0 handle e.0 e.1) ∷ zs) (text-puts handle es [] others)
text-puts handle (e ∷ es) (i ∷ ids) [] = ap (λ zs. text (putting 0 handle e.0 e.1) ∷ zs) (text-puts handle es ids [])
text-puts handle (e ∷ es) (i ∷ ids) (o ∷ others) = ap (λ zs. text (putting 0 handle e.0 e.1) ∷ zs) (text-puts handle es ids others)

pub text-around : (first : Act) (acts others : List Act) → map text acts ≡ map text others
    → map text (first ∷ (acts ++ closing 1 ∷ [])) ≡ map text (first ∷ (others ++ closing 1 ∷ []))
text-around first acts others same = simp (map-append, same)

pub text-opened_for : (name : List ℕ) (acts others : List Act) → map text acts ≡ map text others
    → map text (opened_for name acts) ≡ map text (opened_for name others)
text-opened_for name [] [] same = refl
text-opened_for name [] (other ∷ others) same = absurd cc
text-opened_for name (act ∷ acts) [] same = absurd cc
text-opened_for name (act ∷ acts) (other ∷ others) same = text-around (opening name) (act ∷ acts) (other ∷ others) same

text-news_by : (handheld rows : Option DatabaseValue) (task : Task) (acts others : List Act) → task.rows ≡ rows → map text acts ≡ map text others
    → map text (news_by handheld task acts) ≡ map text (news_by handheld task others)
text-news_by (Some handheld) rows task acts others is same = text-opened_for task.name acts others same
text-news_by None None task acts others is same = rw is refl
text-news_by None (Some rows) task acts others is same = rw is (text-around (making (made_head rows.head)) acts others same)

pub text-behind : (front acts others : List Act) → map text acts ≡ map text others → map text (front ++ acts) ≡ map text (front ++ others)
text-behind front acts others same = simp (map-append, same)

-- the ids of a database don't show
pub text-news_acts : (meeting : Meeting) (task : Task) (ids others : List ℕ)
    → map text (news_acts meeting task ids) ≡ map text (news_acts meeting task others)
unfolding news_acts
text-news_acts meeting task ids others =
    let zeros : List ℕ = replicate (length (replaced meeting task)) 0 in
    text-news_by task.handheld task.rows task (task_blocks task ++ writes meeting task ids) (task_blocks task ++ writes meeting task others) refl
    (text-behind (task_blocks task) (writes meeting task ids) (writes meeting task others)
    (text-puts 1 (replaced meeting task ++ as_new (choice meeting task).adds) (zeros ++ ids) (zeros ++ others)))

pub text-all_news : (meeting : Meeting) (tasks : List Task) (ids others : List ℕ)
    → map text (all_news meeting tasks ids) ≡ map text (all_news meeting tasks others)
unfolding all_news
text-all_news meeting [] ids others = refl
text-all_news meeting (task ∷ later) ids others =
    let n = add_count meeting task in
    simp (map-append, text-news_acts meeting task (take n ids) (take n others), text-all_news meeting later (drop n ids) (drop n others))

pub text-before_commit : (meeting : Meeting) (ids others : List ℕ) → map text (before_commit meeting ids) ≡ map text (before_commit meeting others)
unfolding before_commit
text-before_commit meeting ids others =
    simp (map-append, text-all_news meeting (active meeting) ids others)

pub text-session : (meeting : Meeting) (ids : List ℕ) → map text (session meeting ids) ≡ requests meeting
unfolding session requests
text-session meeting ids = simp (map-append, text-before_commit meeting ids (replicate (adds_of meeting) 0))
