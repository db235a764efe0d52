-- What databases get, and what they lose then, are the news and the purges of the meeting.
use Rattle.std.proofs.Common.{◌≡◌, ◌∙◌, ◌<◌, ◌+◌, refl, sym, ap, subst, ℕ, zero, suc, Bool, true, false, List, [], ◌∷◌, ◌++◌, map, length, take, drop}
use Rattle.std.proofs.Common.{append_assoc, arith, Option, Some, None, is_none, filter, flat_map}
use Rattle.std.proofs.Math.Seq.{drop-append_seam, take-append_seam}
use Rattle.std.proofs.lemmas.List.{length-append, map-append, map-id}
use Rattle.std.proofs.lemmas.List.Sums.{sum_by-cons}
use Rattle.std.specs.Prelude.{Option, Some, None, IfSome, is_none, filter, flat_map, replicate, ◌==◌, sum_by, if◌then◌else◌}
use Rattle.std.specs.List.{AllByRecursion}
use Rattle.std.specs.Option.{option_to_list}
use Rattle.sync_session.proofs.MeetingWords.{ContentValue, DatabaseValue, DbHead, IsPlan, replacement, Plan, Planned, Skip, action_or_sync, agrees, choice}
use Rattle.sync_session.proofs.MeetingWords.{seen_held, sides, sides_by, view, gained, gained_by, news_under, opened_news, AreEachPlannedFor, ArePlannedFor}
use Rattle.sync_session.proofs.MeetingWords.{IsPlannedFor, listed_head, IsFirst, active, head_of, skip_of, AreFirst, EachSays, Stretch, each_acts, Meeting}
use Rattle.sync_session.proofs.MeetingWords.{ShelvesValue, Task, names, slot_of, task_of, tasks, purged_ids, purges_by, purges_under, done_each, says_nothing}
use Rattle.session_parts.proofs.LinkWords.{Talk, Act, acted, text, closing, making, opening, said, saying, device_after}
use Rattle.conduit_rules.specs.ById.{each_id, id_bound, ids_below, with_id}
use Rattle.conduit_rules.specs.Choices.{Sides, choice_for, fate_for, offered_for, offers_for, partners_for}
use Rattle.conduit_rules.specs.Contents.{count_of}
use Rattle.conduit_rules.specs.Fates.{fate_under}
use Rattle.conduit_rules.specs.News.{unpaired}
use Rattle.conduit_rules.specs.States.{SideState, live, no_base}
use Rattle.conduit_rules.specs.declared.action.Action.{Action}
use Rattle.conduit_rules.specs.declared.action.Action.TheVariants.{Sync, Handheld, Desktop, Both}
use Rattle.conduit_rules.proofs.ContentLaws.{same_content-same}
use Rattle.desktop_session.proofs.SaysLaws.{saying_none, saying_then}
use Rattle.desktop_session.proofs.TellLaws.{said_device}
use Rattle.mirrors.specs.News.{AreFreeFor, AreIdsOf, as_new, news_of, puts, purge_writes}
use Rattle.desk_journal.proofs.StepLaws.{all-append}
use Rattle.sync_session.specs.Gains.{AreGained}
use Rattle.sync_session.specs.Given.{AreDealtTo}
use Rattle.session_parts.specs.Given.{GetFreeIds}
use Rattle.session_plan.specs.Blocks.{GivenBlocks, blocks_for, blocks_of}
use Rattle.session_plan.specs.Heads.{made_head}
use Rattle.pdb_values.specs.NamedDatabases.{database_of}
use Rattle.palm_device.specs.Devices.{Device}
use Rattle.sync_session.proofs.BlockLaws.{blocks-none, blocks_keep}
use Rattle.sync_session.specs.Phases.{GainsMade, blocks_at}
use Rattle.sync_session.specs.News as session
use Rattle.session_plan.specs.Choosing.{add_count}
use Rattle.sync_session.specs.News.{all_news, block_acts, made, news_acts, opened_for, replaced, task_blocks, writes, purge_acts}
use Rattle.sync_session.specs.Phases as phase
use Rattle.session_parts.proofs.CloseLaws.{KeepsHandles, LeavesClosed, TellsClosed, around_closed, closed_on, making_one, none_closed, opening_one, puts_keep, purges_keep}
use Rattle.sync_session.proofs.FreeLaws.{NoId, around_free, free-append, none_free, puts_free}
use Rattle.sync_session.proofs.IdsLaws.{text-all_news, text-around, text-behind, text-news_acts, text-opened_for, text-puts}
use Rattle.sync_session.proofs.ReadJoins.{job-skip}
use Rattle.session_parts.proofs.RestLaws.{all-flat_map}
use Rattle.session_parts.proofs.StretchLaws.{flat_map-none, flat_map-same, where_kept, Steps, kept_step, stretches_join}
use Rattle.sync_session.specs.Reads.{opened}

-- ---- replacements have ids

-- nothing is written under id 0
rep_zero : (a : Action) (h d : SideState) → replacement (fate_under a no_base h d).keep h ≡ None
rep_zero Sync (live c) d = ap (λ b. let none : Option ContentValue = None in if b then none else Some c) (same_content-same c)
rep_zero Handheld (live c) d = ap (λ b. let none : Option ContentValue = None in if b then none else Some c) (same_content-same c)
rep_zero Desktop (live c) d = refl
rep_zero Both (live c) d = ap (λ b. let none : Option ContentValue = None in if b then none else Some c) (same_content-same c)
rep_zero a h d = refl

abbrev HasId : ℕ × ContentValue → Type 0
HasId entry = 0 < entry.0

with_id-has : (i : ℕ) (o : Option ContentValue) → 0 < i → AllByRecursion HasId (with_id i o)
with_id-has i None some = tt
with_id-has i (Some c) some = (some, tt)

none-has : (o : Option ContentValue) → o ≡ None → AllByRecursion HasId (with_id 0 o)
none-has o is = rw is tt

-- ---- ids are 0 where an entry has its own

zeros : (rows : List (ℕ × ContentValue)) (adds : List (ℕ × ContentValue)) (given : List ℕ) → AllByRecursion HasId rows → AreIdsOf (rows ++ adds) given
    → given ≡ replicate (length rows) 0 ++ drop (length rows) given
zeros [] adds given has own = refl
zeros (e ∷ rows) adds [] has own = absurd own
zeros (e ∷ rows) adds (g ∷ given) has own =
    ap (λ n. n ∷ given) (own.0 has.0) ∙ ap (λ gs. 0 ∷ gs) (zeros rows adds given has.1 own.1)

behind_rows : (rows adds : List (ℕ × ContentValue)) (given : List ℕ) → AreIdsOf (rows ++ adds) given → length (drop (length rows) given) ≡ length adds
behind_rows [] [] [] own = refl
behind_rows [] (a ∷ adds) (g ∷ given) own = let rest = behind_rows [] adds given own.1 in omega (arith, rest)
behind_rows (e ∷ rows) adds (g ∷ given) own = behind_rows rows adds given own.1
behind_rows rows adds given own = absurd own

length-as_new : (cs : List ContentValue) → length (as_new cs) ≡ length cs
length-as_new [] = refl
length-as_new (c ∷ cs) = let rest = length-as_new cs in omega (arith, rest)

-- ---- a database of which the desktop has no rows gets nothing new

offered_none : (a : Action) (s : Sides) → s.loose_live ≡ [] → s.all_live ≡ [] → offered_for a s ≡ []
offered_none Sync s loose all = loose
offered_none Handheld s loose all = refl
offered_none Desktop s loose all = loose
offered_none Both s loose all = all

none_added : (a : Action) (s : Sides) → s.loose_live ≡ [] → s.all_live ≡ [] → ((i : ℕ) → (fate_for a s i).news ≡ None) → (choice_for a s).adds ≡ []
none_added a s loose all none =
    let each : ((i : ℕ) → option_to_list (fate_for a s i).news ≡ []) = λ i. ap option_to_list (none i) in
    let offers : offers_for a s ≡ []
    = ap (λ cs. cs ++ each_id (λ i. option_to_list (fate_for a s i).news)) (offered_none a s loose all)
    ∙ flat_map-same (λ i. option_to_list (fate_for a s i).news) (λ i. []) (ids_below id_bound) each ∙ flat_map-none (ids_below id_bound) in
    ap (unpaired (λ c. count_of c (partners_for a s))) offers

unbased_news : (a : Action) (h d : SideState) → (fate_under a no_base h d).news ≡ None
unbased_news Sync h d = refl
unbased_news Handheld h d = refl
unbased_news Desktop h d = refl
unbased_news Both h d = refl

never_based : (zero : Bool) → (if zero then no_base else no_base) ≡ no_base
never_based true = refl
never_based false = refl

-- ---- one database

-- so many, where the test holds
abbrev kept_count : Bool → ℕ → ℕ
kept_count b n = if b then n else 0

opened_same : (name : List ℕ) (entries : List (ℕ × ContentValue)) (given : List ℕ)
    → opened_news name entries 1 given ≡ opened_for name (puts 1 given entries)
unfolding puts
opened_same name [] given = refl
opened_same name (e ∷ es) [] = refl
opened_same name (e ∷ es) (g ∷ given) = refl

-- ---- a database of a meeting

pub no_ids : (ids : List ℕ) → length ids ≡ 0 → ids ≡ []
no_ids [] is = refl
no_ids (id ∷ ids) is = absurd (omega arith)

-- a task that isn't skipped
abbrev pub is_active : Task → Bool
is_active task = is_none (skip_of task)

module _ (meeting : Meeting) (task : Task) where
  replaced-has : AllByRecursion HasId (replaced meeting task)
  unfolding choice sides
  replaced-has = all-flat_map HasId (λ i. with_id i (replacement ((choice meeting task).keep i) (seen_held meeting task i))) (ids_below id_bound) each
    where
      each : (i : ℕ) → AllByRecursion HasId (with_id i (replacement ((choice meeting task).keep i) (seen_held meeting task i)))
      each zero = none-has (replacement ((choice meeting task).keep 0) (seen_held meeting task 0))
          (rep_zero (action_or_sync task.action) (seen_held meeting task 0) ((sides meeting task).desktop 0))
      each (suc i) = with_id-has (suc i) (replacement ((choice meeting task).keep (suc i)) (seen_held meeting task (suc i))) (omega arith)

  rowless_adds : task.rows ≡ None → (choice meeting task).adds ≡ []
  unfolding choice sides
  rowless_adds none =
      let a : Action = action_or_sync task.action in
      let s : Sides = sides_by (view meeting task) None task.base (agrees meeting task.name) in
      ap (λ rows. (choice_for a (sides_by (view meeting task) rows task.base (agrees meeting task.name))).adds) none
      ∙ none_added a s refl refl (λ i. ap (λ b. (fate_under a b (s.handheld i) (s.desktop i)).news) (never_based (i == 0))
      ∙ unbased_news a (s.handheld i) (s.desktop i))

  -- it is opened where the handheld has it, and else made where the desktop has rows
  opened_there : (database : DatabaseValue) (acts : List Act) → task.handheld ≡ Some database
      → session.news_by task.handheld task acts ≡ opened_for task.name acts
  opened_there database acts has = rw has

  made_for : (rows : Option DatabaseValue) (acts : List Act) → task.handheld ≡ None → task.rows ≡ rows
      → session.news_by task.handheld task acts ≡ made rows acts
  made_for rows acts has is = rw (has, is)

  -- the blocks of one that is made are those of its rows, and one that the handheld has gets none
  made_blocks : (rows : Option DatabaseValue) → task.handheld ≡ None → task.rows ≡ rows → blocks_for task.handheld task.rows ≡ blocks_of rows
  made_blocks rows has is = rw (has, is) refl

  no_task_blocks : (database : DatabaseValue) → task.handheld ≡ Some database → task_blocks task ≡ []
  unfolding block_acts
  no_task_blocks database has = rw has refl

  -- what it gets, where this became of its new records
  record NewsStep (b : Bool) (acts : List Act) (ids : List ℕ) : Type 0 where
    acts_are : acts ≡ where_kept b (news_acts meeting task ids)
    count : length ids ≡ kept_count b (add_count meeting task)

  module _ (plan : Plan) (given ids : List ℕ) where
    -- what is put by its plan
    news-plan : IsPlan (action_or_sync task.action) (sides meeting task) plan → news_of plan ≡ replaced meeting task ++ as_new (choice meeting task).adds
    unfolding choice
    news-plan is = ap (λ rs. rs ++ as_new plan.adds.items) is.replace ∙ ap (λ cs. replaced meeting task ++ as_new cs) is.adds

    -- what is written of it, where its new records got these ids
    plan_puts : IsPlan (action_or_sync task.action) (sides meeting task) plan → ids ≡ drop (length plan.replace.items) given
        → AreIdsOf (news_of plan) given → (puts 1 given (news_of plan) ≡ writes meeting task ids) × (length ids ≡ add_count meeting task)
    unfolding choice
    plan_puts is behind own =
        let rows : List (ℕ × ContentValue) = replaced meeting task in
        let adds : List ContentValue = (choice meeting task).adds in
        let count : ids ≡ drop (length rows) given = behind ∙ ap (λ rs. drop (length rs) given) is.replace in
        let own_rows : AreIdsOf (rows ++ as_new adds) given = rw (news-plan is) at own in
        let all : given ≡ replicate (length rows) 0 ++ ids
        = zeros rows (as_new adds) given replaced-has own_rows ∙ ap (λ gs. replicate (length rows) 0 ++ gs) (sym count) in (
          ap (puts 1 given) (news-plan is) ∙ ap (λ gs. puts 1 gs (rows ++ as_new adds)) all,
          ap length count ∙ behind_rows rows (as_new adds) given own_rows ∙ length-as_new adds,
        )

    text_put : IsPlan (action_or_sync task.action) (sides meeting task) plan → map text (puts 1 given (news_of plan)) ≡ map text (writes meeting task ids)
    text_put is =
        let rows : List (ℕ × ContentValue) = replaced meeting task in
        ap (λ es. map text (puts 1 given es)) (news-plan is)
        ∙ text-puts 1 (rows ++ as_new (choice meeting task).adds) given (replicate (length rows) 0 ++ ids)

    -- the blocks, and what is written behind them
    abbrev filled : List Act
    filled = task_blocks task ++ writes meeting task ids

    news_by_case : (told : Option Talk) (s : Option Skip) (h r : Option DatabaseValue) (blocks : GivenBlocks) → task.handheld ≡ h → task.rows ≡ r
        → blocks ≡ blocks_of r → (s ≡ None → IsPlan (action_or_sync task.action) (sides meeting task) plan)
        → gained_by s (listed_head h) (head_of r) blocks task.name plan told 1 given ids
        → NewsStep (is_none s) (phase.news_by s (listed_head h) (head_of r) blocks task.name (news_of plan) 1 given) ids
    unfolding news_acts
    news_by_case told (Some why) h r blocks has rows own planned gains = record { acts_are = refl; count = ap length gains }
    news_by_case told None (Some d) r blocks has rows own planned gains =
        let put = plan_puts (planned refl) gains.behind gains.own in
        record {
          acts_are = opened_same task.name (news_of plan) given ∙ ap (opened_for task.name) put.0
              ∙ ap (λ front. opened_for task.name (front ++ writes meeting task ids)) (sym (no_task_blocks d has)) ∙ sym (opened_there d filled has);
          count = put.1;
        }
    news_by_case told None None (Some d) blocks has rows own planned gains =
        let put = plan_puts (planned refl) gains.behind gains.own in
        record {
          acts_are = ap (λ zs. making (made_head d.head) ∷ ((block_acts 1 blocks ++ zs) ++ closing 1 ∷ [])) put.0
              ∙ ap (λ front. making (made_head d.head) ∷ ((block_acts 1 front ++ writes meeting task ids) ++ closing 1 ∷ []))
              (own ∙ sym (made_blocks (Some d) has rows)) ∙ sym (made_for (Some d) filled has rows);
          count = put.1;
        }
    news_by_case told None None None blocks has rows own planned gains =
        record { acts_are = sym (made_for None filled has rows); count = ap length gains ∙ sym (ap length (rowless_adds rows)) }

    text_by_case : (s : Option Skip) (h r : Option DatabaseValue) (blocks : GivenBlocks) → task.handheld ≡ h → task.rows ≡ r → blocks ≡ blocks_of r
        → (s ≡ None → IsPlan (action_or_sync task.action) (sides meeting task) plan)
        → map text (phase.news_by s (listed_head h) (head_of r) blocks task.name (news_of plan) 1 given)
        ≡ map text (where_kept (is_none s) (news_acts meeting task ids))
    unfolding news_acts
    text_by_case (Some why) h r blocks has rows own planned = refl
    text_by_case None (Some d) r blocks has rows own planned =
        ap (map text) (opened_same task.name (news_of plan) given)
        ∙ text-opened_for task.name (puts 1 given (news_of plan)) (writes meeting task ids) (text_put (planned refl))
        ∙ ap (λ front. map text (opened_for task.name (front ++ writes meeting task ids))) (sym (no_task_blocks d has))
        ∙ ap (map text) (sym (opened_there d filled has))
    text_by_case None None (Some d) blocks has rows own planned =
        text-around (making (made_head d.head)) (block_acts 1 blocks ++ puts 1 given (news_of plan)) (block_acts 1 blocks ++ writes meeting task ids)
        (text-behind (block_acts 1 blocks) (puts 1 given (news_of plan)) (writes meeting task ids) (text_put (planned refl)))
        ∙ ap (λ front. map text (making (made_head d.head) ∷ ((block_acts 1 front ++ writes meeting task ids) ++ closing 1 ∷ [])))
        (own ∙ sym (made_blocks (Some d) has rows))
        ∙ ap (map text) (sym (made_for (Some d) filled has rows))
    text_by_case None None None blocks has rows own planned = ap (map text) (sym (made_for None filled has rows))

  module _ (shelves : ShelvesValue) (own : database_of task.name shelves.rows ≡ task.rows) (one : Planned) (told : Option Talk) (given ids : List ℕ)
      (is : IsPlannedFor meeting task one) where
    news_step : gained shelves told one 1 given ids → NewsStep (is_active task) (news_under shelves told one 1 given) ids
    unfolding news_under gained
    news_step gains =
        let skips = job-skip meeting task in
        let mine = rw (is.job, skips) at gains in
        let step = news_by_case one.plan given ids told (skip_of task) task.handheld task.rows (blocks_at shelves task.name) refl refl (ap blocks_of own)
        is.plan mine in
        record { acts_are = rw (is.job, skips) step.acts_are; count = step.count }

    text_step : map text (news_under shelves told one 1 given) ≡ map text (where_kept (is_active task) (news_acts meeting task ids))
    unfolding news_under
    text_step =
        rw (is.job, job-skip meeting task) (text_by_case one.plan given ids (skip_of task) task.handheld task.rows (blocks_at shelves task.name) refl refl
        (ap blocks_of own) is.plan)

  deal : (later : List Task) (b : Bool) (ids rest : List ℕ) → length ids ≡ kept_count b (add_count meeting task)
      → where_kept b (news_acts meeting task ids) ++ all_news meeting later rest ≡ all_news meeting (if b then task ∷ later else later) (ids ++ rest)
  unfolding all_news
  deal later true ids rest is = rw (← is, take-append_seam ids rest, drop-append_seam ids rest)
  deal later false ids rest is = rw (no_ids ids is)

  adds_more : (later : List Task) (b : Bool) (ids rest : List ℕ) → length ids ≡ kept_count b (add_count meeting task)
      → length rest ≡ sum_by (add_count meeting) later → length (ids ++ rest) ≡ sum_by (add_count meeting) (if b then task ∷ later else later)
  adds_more later true ids rest first second =
      length-append ids rest ∙ ap (λ n. n + length rest) first ∙ ap (λ n. add_count meeting task + n) second
      ∙ sym (sum_by-cons (add_count meeting) task later)
  adds_more later false ids rest first second =
      length-append ids rest ∙ ap (λ n. n + length rest) first ∙ (let same : 0 + length rest ≡ length rest = omega arith in same) ∙ second

  -- the texts of one that isn't skipped, and then of the others
  text_deal : (later : List Task) (b : Bool) (ids : List ℕ)
      → map text (where_kept b (news_acts meeting task ids)) ++ map text (all_news meeting later ids)
      ≡ map text (all_news meeting (if b then task ∷ later else later) ids)
  unfolding all_news
  text_deal later true ids =
      let n : ℕ = add_count meeting task in
      ap (λ zs. zs ++ map text (all_news meeting later ids)) (text-news_acts meeting task ids (take n ids))
      ∙ ap (λ zs. map text (news_acts meeting task (take n ids)) ++ zs) (text-all_news meeting later ids (drop n ids))
      ∙ sym (map-append text (news_acts meeting task (take n ids)) (all_news meeting later (drop n ids)))
  text_deal later false ids = refl

-- ---- what becomes of the handheld

-- each id was free at its turn

put_free : (one : Act) (plan : Plan) (talk : Talk) (given ids : List ℕ) → NoId one → AreGained (saying (one ∷ []) (Some talk)) plan 1 given ids
    → GetFreeIds (one ∷ (puts 1 given (news_of plan) ++ closing 1 ∷ [])) talk.device
unfolding saying
put_free one plan talk given ids none gains =
    around_free one (puts 1 given (news_of plan)) talk.device none (puts_free 1 (news_of plan) given (acted one talk.device).1 gains.own gains.free)

opened_free : (name : List ℕ) (plan : Plan) (entries : List (ℕ × ContentValue)) (talk : Talk) (given ids : List ℕ) → news_of plan ≡ entries
    → AreGained (saying (opening name ∷ []) (Some talk)) plan 1 given ids → GetFreeIds (opened_news name entries 1 given) talk.device
opened_free name plan [] talk given ids is gains = tt
opened_free name plan (e ∷ es) talk given ids is gains =
    rw is at (put_free (opening name) plan talk given ids (record { is = refl }) gains)

made_free : (head : DbHead) (blocks : GivenBlocks) (plan : Plan) (talk : Talk) (given ids : List ℕ) → GainsMade head blocks (Some talk) plan 1 given ids
    → GetFreeIds (making head ∷ ((block_acts 1 blocks ++ puts 1 given (news_of plan)) ++ closing 1 ∷ [])) talk.device
unfolding saying
made_free head blocks plan talk given ids gains =
    let front : List Act = block_acts 1 blocks in
    let puts_all : List Act = puts 1 given (news_of plan) in
    let now : Device = (acted (making head) talk.device).1 in
    let free : GetFreeIds puts_all (device_after front now) =
    puts_free 1 (news_of plan) given (device_after front now) gains.own
    (subst (AreFreeFor 1 (news_of plan) given) (said_device (making head ∷ front) talk) gains.free) in
    around_free (making head) (front ++ puts_all) talk.device (record { is = refl })
    (free-append front puts_all now (none_free front now (blocks-none 1 blocks)) free)

free_by_case : (s : Option Skip) (h r : Option DbHead) (blocks : GivenBlocks) (name : List ℕ) (plan : Plan) (talk : Talk) (given ids : List ℕ)
    → gained_by s h r blocks name plan (Some talk) 1 given ids → GetFreeIds (phase.news_by s h r blocks name (news_of plan) 1 given) talk.device
free_by_case (Some why) h r blocks name plan talk given ids gains = tt
free_by_case None (Some h) r blocks name plan talk given ids gains = opened_free name plan (news_of plan) talk given ids refl gains
free_by_case None None (Some r) blocks name plan talk given ids gains = made_free (made_head r) blocks plan talk given ids gains
free_by_case None None None blocks name plan talk given ids gains = tt

news_free : (shelves : ShelvesValue) (one : Planned) (talk : Talk) (given ids : List ℕ) → gained shelves (Some talk) one 1 given ids
    → GetFreeIds (news_under shelves (Some talk) one 1 given) talk.device
unfolding news_under gained
news_free shelves one talk given ids gains =
    free_by_case one.job.skip one.job.handheld one.job.rows (blocks_at shelves one.job.name) one.job.name one.plan talk given ids gains

nothing_free : (told : Option Talk) → IfSome told (λ talk. GetFreeIds [] talk.device)
nothing_free None = tt
nothing_free (Some talk) = tt

said_some : (acts : List Act) (talk : Talk) → saying acts (Some talk) ≡ Some (said acts talk)
unfolding saying
said_some acts talk = refl

-- nothing is open behind it
opened_leaves : (name : List ℕ) (entries : List (ℕ × ContentValue)) (given : List ℕ) → LeavesClosed (opened_news name entries 1 given)
opened_leaves name [] given = none_closed
opened_leaves name (e ∷ es) given = around_closed (opening name) (puts 1 given (e ∷ es)) (opening_one name) (puts_keep 1 given (e ∷ es))

news_leaves : (s : Option Skip) (h r : Option DbHead) (blocks : GivenBlocks) (name : List ℕ) (entries : List (ℕ × ContentValue)) (given : List ℕ)
    → LeavesClosed (phase.news_by s h r blocks name entries 1 given)
news_leaves (Some why) h r blocks name entries given = none_closed
news_leaves None (Some h) r blocks name entries given = opened_leaves name entries given
news_leaves None None None blocks name entries given = none_closed
news_leaves None None (Some r) blocks name entries given =
    around_closed (making (made_head r)) (block_acts 1 blocks ++ puts 1 given entries) (making_one (made_head r))
    (all-append KeepsHandles (block_acts 1 blocks) (puts 1 given entries) (blocks_keep 1 blocks) (puts_keep 1 given entries))

news_under_leaves : (shelves : ShelvesValue) (told : Option Talk) (one : Planned) (given : List ℕ) → LeavesClosed (news_under shelves told one 1 given)
unfolding news_under
news_under_leaves shelves told one given =
    news_leaves one.job.skip one.job.handheld one.job.rows (blocks_at shelves one.job.name) one.job.name (news_of one.plan) given

-- the rows of tasks are those of a slot
abbrev HaveOwnRows : ShelvesValue → List Task → Type 0
HaveOwnRows shelves ts = AllByRecursion (λ (t : Task). database_of t.name shelves.rows ≡ t.rows) ts

own_rows : (meeting : Meeting) → HaveOwnRows (slot_of meeting).shelves (tasks meeting)
unfolding tasks
own_rows meeting = each (names meeting)
  where
    each : (ns : List (List ℕ)) → HaveOwnRows (slot_of meeting).shelves (map (task_of meeting) ns)
    each [] = tt
    each (n ∷ ns) = (refl, each ns)

-- under the handle that it got
pub handle_is : (told : Option Talk) (handle : ℕ) → TellsClosed told → IsFirst told handle → handle ≡ 1
handle_is told handle tells first = let here : IsFirst (Some tells.talk) handle = rw tells.is at first in here tells.closed

-- ---- all of them

-- what all databases got: the ids that were given are dealt out to them in order, each was free at its turn, and then nothing is open
pub record NewsJoin (shelves : ShelvesValue) (meeting : Meeting) (ts : List Task) (told : Option Talk) (planned : List Planned) (ones : List Stretch) (given : List ℕ)
    (each : List (List ℕ)) : Type 0 where
  pub free : IfSome told (λ talk. GetFreeIds (each_acts (news_under shelves) told planned ones) talk.device)
  pub acts : each_acts (news_under shelves) told planned ones ≡ all_news meeting (filter is_active ts) given
  pub closed : TellsClosed (saying (each_acts (news_under shelves) told planned ones) told)
  pub count : length given ≡ sum_by (add_count meeting) (filter is_active ts)
  pub dealt : AreDealtTo meeting ts each

news_each : {V : Type 0} (items : V → List ℕ) (shelves : ShelvesValue) (meeting : Meeting) (ts : List Task) → HaveOwnRows shelves ts → (told : Option Talk) (planned : List Planned) (ones : List Stretch)
    (ids : List V) → AreEachPlannedFor meeting ts planned → TellsClosed told → AreFirst (news_under shelves) told planned ones
    → EachSays (news_under shelves) (λ told one handle given got. gained shelves told one handle given (items got)) told planned ones ids
    → NewsJoin shelves meeting ts told planned ones (flat_map items ids) (map items ids)
unfolding all_news
news_each items shelves meeting [] own told [] [] [] are tells firsts all =
    record { free = nothing_free told; acts = refl; closed = subst TellsClosed (sym (saying_none told)) tells; count = refl; dealt = tt }
news_each items shelves meeting (task ∷ ts) own told (p ∷ planned) (one ∷ ones) (x ∷ ids) are tells firsts all =
    let handle : one.handle ≡ 1 = handle_is told one.handle tells firsts.0 in
    let mine : List Act = news_under shelves told p one.handle one.given in
    let same : mine ≡ news_under shelves told p 1 one.given = ap (λ h. news_under shelves told p h one.given) handle in
    let step = news_step meeting task shelves own.0 p told one.given (items x) are.0 (rw handle at all.0) in
    let leaves = subst LeavesClosed (sym same) (news_under_leaves shelves told p one.given) in
    let later = news_each items shelves meeting ts own.1 (saying mine told) planned ones ids are.1 (closed_on mine told tells leaves) firsts.1 all.1 in
    let rest : List ℕ = flat_map items ids in
    let rests : List Act = each_acts (news_under shelves) (saying mine told) planned ones in
    let talk : Talk = tells.talk in
    let now : saying mine told ≡ Some (said mine talk) = ap (saying mine) tells.is ∙ said_some mine talk in
    let first : GetFreeIds mine talk.device = rw (same, tells.is) (news_free shelves p talk one.given (items x) (rw (handle, tells.is) at all.0)) in
    let second : GetFreeIds rests (device_after mine talk.device) = subst (GetFreeIds rests) (said_device mine talk)
    (subst (λ t. IfSome t (λ talk. GetFreeIds rests talk.device)) now later.free) in
    record {
      free = subst (λ t. IfSome t (λ talk. GetFreeIds (mine ++ rests) talk.device)) (sym tells.is) (free-append mine rests talk.device first second);
      acts = rw (later.acts, same ∙ step.acts_are) (deal meeting task (filter is_active ts) (is_active task) (items x) rest step.count);
      closed = subst TellsClosed (saying_then mine (each_acts (news_under shelves) (saying mine told) planned ones) told) later.closed;
      count = adds_more meeting task (filter is_active ts) (is_active task) (items x) rest step.count later.count;
      dealt = (step.count, later.dealt);
    }
news_each items shelves meeting [] own told (p ∷ planned) ones ids are tells firsts all = absurd are
news_each items shelves meeting (task ∷ ts) own told [] ones ids are tells firsts all = absurd are
news_each items shelves meeting ts own told planned ones ids are tells firsts all = absurd all

pub news_join : {V : Type 0} (items : V → List ℕ) (meeting : Meeting) → let shelves = (slot_of meeting).shelves in (told : Option Talk) (planned : List Planned) (ones : List Stretch)
    (ids : List V) → ArePlannedFor meeting planned → TellsClosed told → AreFirst (news_under shelves) told planned ones
    → EachSays (news_under shelves) (λ told one handle given got. gained shelves told one handle given (items got)) told planned ones ids
    → NewsJoin shelves meeting (tasks meeting) told planned ones (flat_map items ids) (map items ids)
news_join items meeting told planned ones ids are tells firsts all =
    news_each items (slot_of meeting).shelves meeting (tasks meeting) (own_rows meeting) told planned ones ids are tells firsts all

-- ---- some of them: what their texts begin with

-- the second list of texts goes on where the first one ends
pub record TextsLead (first all : List (List ℕ)) : Type 0 where
  pub rest : List (List ℕ)
  pub is : first ++ rest ≡ all

news_lead_each : (shelves : ShelvesValue) (meeting : Meeting) (ts : List Task) → HaveOwnRows shelves ts → (told : Option Talk) (planned : List Planned) (ones : List Stretch) (ids : List ℕ)
    → AreEachPlannedFor meeting ts planned → TellsClosed told → AreFirst (news_under shelves) told planned ones
    → TextsLead (map text (each_acts (news_under shelves) told planned ones)) (map text (all_news meeting (filter is_active ts) ids))
news_lead_each shelves meeting [] own told [] ones ids are tells firsts = record { rest = map text (all_news meeting [] ids); is = refl }
news_lead_each shelves meeting (task ∷ ts) own told (p ∷ planned) [] ids are tells firsts =
    record { rest = map text (all_news meeting (filter is_active (task ∷ ts)) ids); is = refl }
news_lead_each shelves meeting (task ∷ ts) own told (p ∷ planned) (one ∷ ones) ids are tells firsts =
    let handle : one.handle ≡ 1 = handle_is told one.handle tells firsts.0 in
    let mine : List Act = news_under shelves told p one.handle one.given in
    let same : mine ≡ news_under shelves told p 1 one.given = ap (λ h. news_under shelves told p h one.given) handle in
    let leaves = subst LeavesClosed (sym same) (news_under_leaves shelves told p one.given) in
    let rest : List Act = each_acts (news_under shelves) (saying mine told) planned ones in
    let later = news_lead_each shelves meeting ts own.1 (saying mine told) planned ones ids are.1 (closed_on mine told tells leaves) firsts.1 in
    record {
      rest = later.rest;
      is = rw (
        map-append text mine rest,
        append_assoc (map text mine) (map text rest) later.rest,
        later.is,
        same,
        text_step meeting task shelves own.0 p told one.given ids are.0,
      ) (text_deal meeting task (filter is_active ts) (is_active task) ids);
    }
news_lead_each shelves meeting ts own told planned ones ids are tells firsts = absurd are

pub news_lead : (meeting : Meeting) → let shelves = (slot_of meeting).shelves in (told : Option Talk) (planned : List Planned) (ones : List Stretch) (ids : List ℕ) → ArePlannedFor meeting planned
    → TellsClosed told → AreFirst (news_under shelves) told planned ones
    → TextsLead (map text (each_acts (news_under shelves) told planned ones)) (map text (all_news meeting (active meeting) ids))
unfolding active
news_lead meeting told planned ones ids are tells firsts = news_lead_each (slot_of meeting).shelves meeting (tasks meeting) (own_rows meeting) told planned ones ids are tells firsts

-- ---- what they lose once the desktop has committed

-- what a planned database loses
abbrev purge_says : Planned → List Act
purge_says one = purges_by one.job.skip one.job.name one.plan.purge.items 1 []

purges_leave : (s : Option Skip) (name ids : List ℕ) → LeavesClosed (purges_by s name ids 1 [])
purges_leave (Some why) name ids = none_closed
purges_leave None name ids = around_closed (opening name) (purge_writes 1 ids) (opening_one name) (purges_keep 1 ids)

any_given : (s : Option Skip) (name ids given : List ℕ) → purges_by s name ids 1 given ≡ purges_by s name ids 1 []
any_given (Some why) name ids given = refl
any_given None name ids given = refl

purge_steps : Steps purges_under (λ (one : Planned). one) purge_says TellsClosed
unfolding purges_under
purge_steps = record {
  acts_are = λ told one stretch tells first.
      ap (λ h. purges_by one.job.skip one.job.name one.plan.purge.items h stretch.given) (handle_is told stretch.handle tells first)
      ∙ any_given one.job.skip one.job.name one.plan.purge.items stretch.given;
  known = λ told one tells. closed_on (purge_says one) told tells (purges_leave one.job.skip one.job.name one.plan.purge.items);
}

-- by the meeting

purge_by_case : (meeting : Meeting) (task : Task) (plan : Plan) (s : Option Skip) → (s ≡ None
    → plan.purge.items ≡ purged_ids (choice meeting task).keep (seen_held meeting task))
    → purges_by s task.name plan.purge.items 1 [] ≡ where_kept (is_none s) (purge_acts meeting task)
unfolding purge_acts
purge_by_case meeting task plan (Some why) planned = refl
purge_by_case meeting task plan None planned = ap (λ ids. opened task.name (purge_writes 1 ids)) (planned refl)

purge_for : (meeting : Meeting) (task : Task) (one : Planned) → IsPlannedFor meeting task one
    → purge_says one ≡ where_kept (is_active task) (purge_acts meeting task)
unfolding choice
purge_for meeting task one is =
    rw (is.job, job-skip meeting task) (purge_by_case meeting task one.plan (skip_of task) (λ none. (is.plan none).purge))

purges_flat : (meeting : Meeting) (ts : List Task) (planned : List Planned) → AreEachPlannedFor meeting ts planned
    → flat_map purge_says planned ≡ flat_map (purge_acts meeting) (filter is_active ts)
purges_flat meeting [] [] are = refl
purges_flat meeting (task ∷ ts) (p ∷ planned) are =
    rw (purges_flat meeting ts planned are.1, purge_for meeting task p are.0)
    (kept_step (is_active task) (purge_acts meeting) task (filter is_active ts))
purges_flat meeting ts planned are = absurd are

-- ---- all of them

pub record PurgeJoin (meeting : Meeting) (told : Option Talk) (planned : List Planned) (ones : List Stretch) : Type 0 where
  pub acts : each_acts purges_under told planned ones ≡ flat_map (purge_acts meeting) (active meeting)
  pub closed : TellsClosed (saying (flat_map (purge_acts meeting) (active meeting)) told)

pub purge_join : (meeting : Meeting) (told : Option Talk) (planned : List Planned) (ones : List Stretch) → ArePlannedFor meeting planned → TellsClosed told
    → AreFirst purges_under told planned ones → EachSays purges_under says_nothing told planned ones (done_each planned tt)
    → PurgeJoin meeting told planned ones
unfolding active
purge_join meeting told planned ones are tells firsts all =
    let own : map (λ (one : Planned). one) planned ≡ planned = map-id planned in
    let flat = purges_flat meeting (tasks meeting) planned are in
    let joined = stretches_join purge_steps says_nothing (λ one done. Unit {0}) (λ told one stretch done tells first said. tt) told planned ones
    (done_each planned tt) tells (subst (λ ps. AreFirst purges_under told ps ones) (sym own) firsts)
    (subst (λ ps. EachSays purges_under says_nothing told ps ones (done_each planned tt)) (sym own) all) in
    record {
      acts = ap (λ ps. each_acts purges_under told ps ones) (sym own) ∙ joined.acts_are ∙ flat;
      closed = subst (λ zs. TellsClosed (saying zs told)) flat joined.known;
    }
