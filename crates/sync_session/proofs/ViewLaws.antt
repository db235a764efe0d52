-- What a session writes goes by the jobs and the plans of its databases, not by their views.
use Rattle.std.proofs.lemmas.Result.{IfOk-weaker}
use Rattle.std.proofs.Common.{◌≡◌, ◌∙◌, ap, refl, sym, subst, ℕ, Bool, suc, List, [], ◌∷◌, ◌++◌, length, map, Option, None, Some, Ok, Err, Result}
use Rattle.std.proofs.Common.{◌+◌, ◌<◌, add-one, get_or, take, take-suc-set}
use Rattle.std.proofs.lemmas.List.Elements.{All-push}
use Rattle.std.proofs.lemmas.List.{map-set, set-get_or}
use Rattle.std.proofs.Math.ListN.{set}
use Rattle.std.specs.Prelude.{All, if◌then◌else◌, is_none}
use Rattle.std.specs.Global.{Vec}
use Rattle.hs_folders.specs.FileMaps.{FileMap}
use Rattle.hs_folders.specs.Moments.{Moments}
use Rattle.pdb_values.specs.declared.user.Marks.{Marks}
use Rattle.conduit_rules.specs.declared.view.View.{View}
use Rattle.session_parts.proofs.LinkWords.{LinkFault, Talk, SessionValue, Act, saying, marking, Ended, Halted, SessionFault}
use Rattle.sync_session.proofs.MeetingWords.{ShelvesValue, DeskValue, shelves_in, Job, Plan, Planned, Skip, gained, news_under, purges_under}
use Rattle.sync_session.proofs.MeetingWords.{AreFirst, EachSays, IsFirst, Stretch, done_each, each_acts, says_nothing}
use Rattle.desk_store.specs.declared.fault.CommitFault.{CommitFault}
use Rattle.desk_store.specs.Shelves.{SlotValue}
use Rattle.pdb_values.specs.declared.user.UserInfo.{UserInfo}
use Rattle.session_plan.specs.Fits.{AreOfSession}
use Rattle.session_plan.specs.PlannedLimits.{unskipped}
use Rattle.session_plan.specs.Users.{begun_user}
use Rattle.session_plan.specs.Takes.{change_of, changes_of, taken_entries, taken_slots}
use Rattle.session_parts.specs.declared.outcome.Outcome.{Outcome}
use Rattle.sync_session.specs.Courses.{AfterCommit, AfterNews, Carries, Closes, Writes}
use Rattle.sync_session.specs.Endings.{Ends}
use Rattle.sync_session.specs.Phases.{GainsEach}
use Rattle.sync_session.specs.Unseen.{HasNoView, SameButViews}
use Rattle.sync_session.specs.declared.preparing.Prepared.{Prepared}
use Rattle.session_plan.specs.Partings.{parted_planned, parting_planned, with_parting}
use Rattle.folder_files.specs.declared.parted.Parted.{Parted}

-- ---- what goes by jobs and plans

-- a planned database with this view
abbrev pub seen_as : View → Planned → Planned
seen_as view one = record one { view = view }

seen_as-same : (view : View) (old new : List Planned) → map (λ (one : Planned). one.job) new ≡ map (λ (one : Planned). one.job) old
    → map (λ (one : Planned). one.plan) new ≡ map (λ (one : Planned). one.plan) old → map (seen_as view) new ≡ map (seen_as view) old
seen_as-same view [] [] jobs plans = refl
seen_as-same view (one ∷ old) (other ∷ new) jobs plans =
    let job : other.job ≡ one.job = cc in
    let plan : other.plan ≡ one.plan = cc in
    let rest = seen_as-same view old new (cc) (cc) in
    λ k. record { job = job k; view = view; plan = plan k } ∷ rest k
seen_as-same view old new jobs plans = absurd (cc)

-- what is the same of databases with another view is the same where jobs and plans are
pub by_plans {ℓ} : {A : Type ℓ} (F : List Planned → A) → ((view : View) (planned : List Planned) → F (map (seen_as view) planned) ≡ F planned)
    → (old new : List Planned) → SameButViews old new → F new ≡ F old
by_plans F unseen [] [] same = refl
by_plans F unseen (one ∷ old) (other ∷ new) same =
    sym (unseen one.view (other ∷ new)) ∙ ap F (seen_as-same one.view (one ∷ old) (other ∷ new) same.jobs same.plans) ∙ unseen one.view (one ∷ old)
by_plans F unseen old new same = let jobs = same.jobs in absurd (cc)

-- one more view is let go of
pub same-next : {old planned : List Planned} (i : ℕ) (one : Planned) (view : View) → SameButViews old planned
    → SameButViews old (set planned i (seen_as view (get_or planned i one)))
same-next {planned} i one view same =
    let at : Planned = get_or planned i one in
    let next : (B : Type 0) (f : Planned → B) → f (seen_as view at) ≡ f at → map f (set planned i (seen_as view at)) ≡ map f planned
    = λ B f alike. map-set f planned i (seen_as view at) ∙ ap (set (map f planned) i) alike ∙ sym (map-set f planned i at)
    ∙ ap (map f) (set-get_or planned i one) in
    record { jobs = next Job (λ one. one.job) refl ∙ same.jobs; plans = next Plan (λ one. one.plan) refl ∙ same.plans }

pub views-next : (planned : List Planned) (i : ℕ) (one : Planned) → i < length planned → HasNoView one → All HasNoView (take i planned)
    → All HasNoView (take (i + 1) (set planned i one))
views-next planned i one within none before =
    let next : take (i + 1) (set planned i one) ≡ take i planned ++ one ∷ [] = rw add-one (take-suc-set planned i one within) in
    rw next (All-push HasNoView (take i planned) one before none)

-- ---- stretches

module _ {J : Type 0} (f : J → J) (acts : Option Talk → J → ℕ → List ℕ → List Act)
    (same : (told : Option Talk) (job : J) (handle : ℕ) (given : List ℕ) → acts told (f job) handle given ≡ acts told job handle given) where
  each_acts-map : (told : Option Talk) (jobs : List J) (stretches : List Stretch)
      → each_acts acts told (map f jobs) stretches ≡ each_acts acts told jobs stretches
  each_acts-map told [] stretches = refl
  each_acts-map told (job ∷ jobs) [] = refl
  each_acts-map told (job ∷ jobs) (one ∷ more) =
      let mine : List Act = acts told job one.handle one.given in
      rw (same told job one.handle one.given) (ap (λ zs. mine ++ zs) (each_acts-map (saying mine told) jobs more))

  are_first-map : (told : Option Talk) (jobs : List J) (stretches : List Stretch)
      → AreFirst acts told (map f jobs) stretches ≡ AreFirst acts told jobs stretches
  are_first-map told [] stretches = refl
  are_first-map told (job ∷ jobs) [] = refl
  are_first-map told (job ∷ jobs) (one ∷ more) =
      let mine : List Act = acts told job one.handle one.given in
      rw (same told job one.handle one.given) (ap (λ (T : Type 0). IsFirst told one.handle × T) (are_first-map (saying mine told) jobs more))

  each_says-map : {A : Type 0} (says : Option Talk → J → ℕ → List ℕ → A → Type 0)
      → ((told : Option Talk) (job : J) (handle : ℕ) (given : List ℕ) (x : A) → says told (f job) handle given x ≡ says told job handle given x)
      → (told : Option Talk) (jobs : List J) (stretches : List Stretch) (xs : List A)
      → EachSays acts says told (map f jobs) stretches xs ≡ EachSays acts says told jobs stretches xs
  each_says-map says alike told [] [] [] = refl
  each_says-map says alike told (job ∷ jobs) (one ∷ more) (x ∷ xs) =
      let mine : List Act = acts told job one.handle one.given in
      let Mine : Type 0 = says told job one.handle one.given x in
      rw (same told job one.handle one.given, alike told job one.handle one.given x)
      (ap (λ (T : Type 0). Mine × T) (each_says-map says alike (saying mine told) jobs more xs))
  each_says-map says alike told jobs stretches xs = refl

done_each-map : {J : Type 0} (f : J → J) (jobs : List J) → done_each (map f jobs) tt ≡ done_each jobs tt
done_each-map f [] = refl
done_each-map f (job ∷ jobs) = ap (λ xs. tt ∷ xs) (done_each-map f jobs)

-- ---- what a desktop takes

module _ (view : View) where
  length-unskipped_seen : (planned : List Planned) → length (unskipped (map (seen_as view) planned)) ≡ length (unskipped planned)
  length-unskipped_seen [] = refl
  length-unskipped_seen (one ∷ planned) = by one.job.skip (length-unskipped_seen planned)
    where
      by : (skip : Option Skip) → length (unskipped (map (seen_as view) planned)) ≡ length (unskipped planned)
          → length (if is_none skip then seen_as view one ∷ unskipped (map (seen_as view) planned) else unskipped (map (seen_as view) planned))
          ≡ length (if is_none skip then one ∷ unskipped planned else unskipped planned)
      by None same = ap suc same
      by (Some skip) same = same

  changes_of-seen : (date : ℕ) (shelves : ShelvesValue) (planned : List Planned) (ids : List (List ℕ))
      → changes_of date shelves (map (seen_as view) planned) ids ≡ changes_of date shelves planned ids
  unfolding changes_of change_of
  changes_of-seen date shelves [] ids = refl
  changes_of-seen date shelves (one ∷ planned) [] = refl
  changes_of-seen date shelves (one ∷ planned) (given ∷ ids) =
      ap (λ changes. change_of date shelves one given ++ changes) (changes_of-seen date shelves planned ids)

  parted-seen : (stranger : Bool) (shelves : ShelvesValue) (before : List Parted) (planned : List Planned)
      → parted_planned stranger shelves before (map (seen_as view) planned) ≡ parted_planned stranger shelves before planned
  parted-seen stranger shelves before [] = refl
  parted-seen stranger shelves before (one ∷ planned) =
      ap (with_parting one.job.name (parting_planned stranger shelves before one)) (parted-seen stranger shelves before planned)

  pub taken_slots-seen : (done : Marks) (user : UserInfo) (planned : List Planned) (ids : List (List ℕ)) (place : ℕ) (slots : List SlotValue)
      → taken_slots done user (map (seen_as view) planned) ids place slots ≡ taken_slots done user planned ids place slots
  unfolding taken_slots
  taken_slots-seen done user planned ids place slots = rw (changes_of-seen, parted-seen) refl

  pub taken_entries-seen : (done : Marks) (user : UserInfo) (planned : List Planned) (ids : List (List ℕ)) (place : ℕ) (slots : List SlotValue)
      → taken_entries done user (map (seen_as view) planned) ids place slots ≡ taken_entries done user planned ids place slots
  unfolding taken_entries
  taken_entries-seen done user planned ids place slots = rw (changes_of-seen, taken_slots-seen) refl

-- ---- planned databases of a session

module _ {old new : List Planned} (same : SameButViews old new) where
  pub of_session-same : {shelves : ShelvesValue} → AreOfSession shelves old → AreOfSession shelves new
  of_session-same of = record { heads = of.heads; agree = of.agree; wishes = of.wishes; are = same.jobs ∙ of.are }

  pub length-unskipped_same : length (unskipped new) ≡ length (unskipped old)
  length-unskipped_same = by_plans (λ planned. length (unskipped planned)) length-unskipped_seen old new same

  news-acts : (shelves : ShelvesValue) (told : Option Talk) (stretches : List Stretch)
      → each_acts (news_under shelves) told new stretches ≡ each_acts (news_under shelves) told old stretches
  unfolding news_under
  news-acts shelves told stretches =
      by_plans (λ planned. each_acts (news_under shelves) told planned stretches)
      (λ view planned. each_acts-map (seen_as view) (news_under shelves) (λ told one handle given. refl) told planned stretches) old new same

  news-first : (shelves : ShelvesValue) (told : Option Talk) (stretches : List Stretch)
      → AreFirst (news_under shelves) told new stretches ≡ AreFirst (news_under shelves) told old stretches
  unfolding news_under
  news-first shelves told stretches =
      by_plans (λ planned. AreFirst (news_under shelves) told planned stretches)
      (λ view planned. are_first-map (seen_as view) (news_under shelves) (λ told one handle given. refl) told planned stretches) old new same

  news-says : (shelves : ShelvesValue) (told : Option Talk) (stretches : List Stretch) (ids : List (Vec ℕ))
      → EachSays (news_under shelves) (GainsEach shelves) told new stretches ids ≡ EachSays (news_under shelves) (GainsEach shelves) told old stretches ids
  unfolding news_under gained
  news-says shelves told stretches ids =
      by_plans (λ planned. EachSays (news_under shelves) (GainsEach shelves) told planned stretches ids)
      (λ view planned. each_says-map (seen_as view) (news_under shelves) (λ told one handle given. refl) (GainsEach shelves) (λ told one handle given x. refl)
      told planned stretches ids) old new same

  purges-acts : (told : Option Talk) (stretches : List Stretch) → each_acts purges_under told new stretches ≡ each_acts purges_under told old stretches
  unfolding purges_under
  purges-acts told stretches =
      by_plans (λ planned. each_acts purges_under told planned stretches)
      (λ view planned. each_acts-map (seen_as view) purges_under (λ told one handle given. refl) told planned stretches) old new same

  purges-first : (told : Option Talk) (stretches : List Stretch) → AreFirst purges_under told new stretches ≡ AreFirst purges_under told old stretches
  unfolding purges_under
  purges-first told stretches =
      by_plans (λ planned. AreFirst purges_under told planned stretches)
      (λ view planned. are_first-map (seen_as view) purges_under (λ told one handle given. refl) told planned stretches) old new same

  purges-says : (told : Option Talk) (stretches : List Stretch) → EachSays purges_under says_nothing told new stretches (done_each new tt)
      ≡ EachSays purges_under says_nothing told old stretches (done_each old tt)
  unfolding purges_under
  purges-says told stretches =
      by_plans (λ planned. EachSays purges_under says_nothing told planned stretches (done_each planned tt))
      (λ view planned. ap (EachSays purges_under says_nothing told (map (seen_as view) planned) stretches) (done_each-map (seen_as view) planned)
      ∙ each_says-map (seen_as view) purges_under (λ told one handle given. refl) says_nothing (λ told one handle given x. refl)
      told planned stretches (done_each planned tt)) old new same

-- ---- a session that goes on

ends-same : {L : Type 0} {talk : L → Option Talk} {since : L → L → Type 0} {fault : L → Option LinkFault} {downs : L → ℕ} {old new : List Planned}
    {last : List Act} {before : SessionValue L} {answer : Result (Ended L) (Halted L)} → SameButViews old new
    → Ends talk since fault downs new last before answer → Ends talk since fault downs old last before answer
ends-same {talk} {before} same ends =
    let told : Option Talk = talk before.link in
    let acts = purges-acts same told ends.stretches in
    record {
      stretches = ends.stretches;
      firsts = subst (λ (T : Type 0). T) (purges-first same told ends.stretches) ends.firsts;
      stops = rw acts at ends.stops;
      cause = ends.cause;
      does = rw acts at ends.does;
      all = subst (λ (T : Type 0). T) (purges-says same told ends.stretches) ends.all;
    }

-- what was prepared, with these databases
abbrev pub prepared_with : Prepared → Vec Planned → Prepared
prepared_with prepared planned = record prepared { planned = planned }

module _ (old : Prepared) (planned : Vec Planned) (same : SameButViews old.planned.items planned.items) where
  closes-same : {L F : Type 0} {talk : L → Option Talk} {since : L → L → Type 0} {fault : L → Option LinkFault} {downs : L → ℕ}
      {done : Marks} {before : SessionValue L} {folder : F} {left : Outcome L F}
      → Closes talk since fault downs done (prepared_with old planned) before folder left
      → Closes talk since fault downs done old before folder left
  closes-same closes = record { answer = closes.answer; ends = ends-same same closes.ends; is = closes.is }

  carries-same : {L F : Type 0} {talk : L → Option Talk} {since : L → L → Type 0} {fault : L → Option LinkFault} {downs : L → ℕ}
      {contents : F → Option FileMap} {moments : F → Moments} {paths : F → Option (List (List ℕ))} {faults : F → ℕ}
      {done : Marks} {ids : List (List ℕ)} {before : SessionValue L} {desk : DeskValue F} {left : Outcome L F}
      → Carries talk since fault downs contents moments paths faults done (prepared_with old planned) ids before desk left
      → Carries talk since fault downs contents moments paths faults done old ids before desk left
  carries-same {F} {talk} {since} {fault} {downs} {done} {ids} {before} {desk} {left} carries = record {
    answer = carries.answer;
    commits = rw (
      by_plans (λ planned. taken_slots done before.user planned ids desk.picked desk.slots)
          (λ view planned. taken_slots-seen view done before.user planned ids desk.picked desk.slots) old.planned.items planned.items same,
      by_plans (λ planned. taken_entries done before.user planned ids desk.picked desk.slots)
          (λ view planned. taken_entries-seen view done before.user planned ids desk.picked desk.slots) old.planned.items planned.items same,
    ) at carries.commits;
    goes = by carries.answer carries.goes;
  }
    where
      by : (answer : Result (DeskValue F) (CommitFault × F))
          → AfterCommit talk since fault downs done (prepared_with old planned) before answer left
          → AfterCommit talk since fault downs done old before answer left
      by (Ok after) goes = closes-same goes
      by (Err refusal) goes = goes

  -- a session writes the same without the views
  pub writes-same : {L F : Type 0} {talk : L → Option Talk} {since : L → L → Type 0} {fault : L → Option LinkFault} {downs : L → ℕ}
      {contents : F → Option FileMap} {moments : F → Moments} {paths : F → Option (List (List ℕ))} {faults : F → ℕ}
      {done : Marks} {before : SessionValue L} {desk : DeskValue F} {left : Outcome L F}
      → Writes talk since fault downs contents moments paths faults done (prepared_with old planned) before desk left
      → Writes talk since fault downs contents moments paths faults done old before desk left
  writes-same {talk} {since} {fault} {downs} {contents} {moments} {paths} {faults} {done} {before} {desk} {left} writes =
      let sends = writes.sends in
      let told : Option Talk = saying (marking (begun_user before.user) 0x40 ∷ []) (talk before.link) in
      let acts = news-acts same (shelves_in desk) told sends.stretches in
      record {
        now = writes.now;
        answer = writes.answer;
        sends = record {
          stretches = sends.stretches;
          firsts = subst (λ (T : Type 0). T) (news-first same (shelves_in desk) told sends.stretches) sends.firsts;
          stops = rw acts at sends.stops;
          does = rw acts at sends.does;
          clear = sends.clear;
          user = sends.user;
          closed = sends.closed;
          cause = sends.cause;
          said = IfOk-weaker writes.answer _ _ (λ ids said. subst (λ (T : Type 0). T) (news-says same (shelves_in desk) told sends.stretches ids.items) said) sends.said;
        };
        goes = by writes.answer writes.goes;
      }
    where
      by : (answer : Result (Vec (Vec ℕ)) SessionFault)
          → AfterNews talk since fault downs contents moments paths faults done (prepared_with old planned) writes.now desk answer left
          → AfterNews talk since fault downs contents moments paths faults done old writes.now desk answer left
      by (Ok ids) goes = carries-same goes
      by (Err cause) goes = goes
