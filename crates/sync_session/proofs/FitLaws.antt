-- What a session planned, with the ids that its handheld gave, is what a desktop takes.
use Rattle.std.proofs.lemmas.Grind.{common_steps}
use Rattle.std.proofs.lemmas.Bool.Decides.{nat_tests}
use Rattle.std.proofs.lemmas.Bool.{or_parts}
use Rattle.std.proofs.lemmas.List.{length-append, length-drop, length-map}
use Rattle.std.proofs.lemmas.Nat.{and_mod}
use Rattle.std.proofs.Common.{◌≡◌, ◌∙◌, ◌<◌, ◌≤◌, ◌-◌, ◌%◌, ap, refl, sym, subst, inl, inr, ◌⊎◌, ℕ, suc, Bool, true, false, List, [], ◌∷◌}
use Rattle.std.proofs.Common.{arith, length, map, bit_and}
use Rattle.std.specs.Prelude.{◌==◌, Option, Some, None, IfSome, IsSome, if◌then◌else◌, is_none, is_some, Result, Ok, Err}
use Rattle.std.specs.Option.{option_or}
use Rattle.std.specs.Global.{Vec}
use Rattle.pdb_values.specs.Contents.{ContentValue}
use Rattle.pdb_values.specs.Databases.{DatabaseValue}
use Rattle.pdb_values.specs.Heads.{holds_resources}
use Rattle.pdb_values.specs.NamedDatabases.{database_of}
use Rattle.pdb_values.specs.declared.head.DbHead.{DbHead}
use Rattle.pdb_values.proofs.NamedLaws.{bytes_eq-is, database_of-name}
use Rattle.dlp_commands.specs.Talks.{Talk}
use Rattle.dlp_commands.specs.declared.link.LinkFault.{LinkFault}
use Rattle.desktop_session.specs.Sessions.{SessionValue}
use Rattle.desktop_session.specs.declared.fault.SessionFault.{SessionFault}
use Rattle.mirrors.specs.Agreements.{agreed}
use Rattle.conduit_rules.specs.declared.action.Action.{Action}
use Rattle.conduit_rules.specs.declared.planned.Plan.{Plan}
use Rattle.desk_store.specs.Shelves.{ShelvesValue}
use Rattle.desk_store.specs.Views.{DeskValue, marks_in, parted_in, shelves_in}
use Rattle.desk_store.specs.Desks.{all_rows}
use Rattle.mirrors.specs.News.{AreIdsOf, as_new, news_of}
use Rattle.sync_session.specs.Courses.{AfterReading, Prepares, ReadsAll}
use Rattle.session_plan.specs.Fits.{AreOfSession, AreTakeable, IsTakeable, TakesPlan}
use Rattle.sync_session.specs.Gains.{AreGained}
use Rattle.session_plan.specs.Heads.{plain_attributes}
use Rattle.session_plan.specs.Jobs.{head_named, job_of, jobs_of, names_with}
use Rattle.sync_session.specs.Phases.{blocks_at, gained, gained_by, news_under}
use Rattle.session_plan.specs.Blocks.{GivenBlocks}
use Rattle.session_plan.specs.PlannedLimits.{over_planned, past_room, unskipped}
use Rattle.session_plan.specs.Skips.{head_of, one_passes, passes, reason_by}
use Rattle.session_parts.specs.Stretches.{EachSays, Stretch}
use Rattle.session_plan.specs.Takes.{each_of, rows_begun}
use Rattle.session_plan.specs.declared.job.Job.{Job}
use Rattle.session_plan.specs.declared.planned.Planned.{Planned}
use Rattle.sync_session.specs.declared.preparing.Prepared.{Prepared}
use Rattle.session_parts.specs.declared.skip.Skip.{Skip}
use Rattle.session_plan.specs.declared.wishes.Wishes.{Wishes}
use Rattle.session_plan.specs.Partings.{agrees_with}

-- ---- rows

-- a head that was found has the name
head-name : (name : List ℕ) (heads : List DbHead) (head : DbHead) → head_named name heads ≡ Some head → head.name ≡ name
head-name name [] head is = absurd cc
head-name name (first ∷ heads) head is = grind (arith, nat_tests, common_steps, head-name name heads head, bytes_eq-is)

-- the lowest bit of a bit is itself
pub one_bit : (n : ℕ) → n < 2 → bit_and n 1 ≡ n
one_bit n l = grind arith

-- a mask that is odd keeps the lowest bit
pub odd_mask : (a m : ℕ) → m % 2 ≡ 1 → bit_and a m % 2 ≡ a % 2
odd_mask a m is = and_mod a m 1 ∙ ap (bit_and (a % 2)) is ∙ one_bit (a % 2) (mod-lt a)
  where
    mod-lt : (n : ℕ) → n % 2 < 2
    mod-lt n = omega arith

plain_records : (attributes : ℕ) → holds_resources attributes ≡ false → holds_resources (plain_attributes attributes) ≡ false
plain_records attributes is = ap (λ (n : ℕ). n == 1) (odd_mask attributes 0x7FFB refl) ∙ is

-- a database that isn't skipped holds records on either side
holds_records : (action : Option Action) (handheld rows : Option DbHead) (base : Bool) → reason_by action handheld rows base ≡ None
    → (passes holds_resources handheld ≡ false) × (passes holds_resources rows ≡ false)
holds_records None handheld rows base is = absurd cc
holds_records (Some action) handheld rows base is = by (one_passes holds_resources handheld rows) refl
  where
    by : (resources : Bool) → one_passes holds_resources handheld rows ≡ resources
        → (passes holds_resources handheld ≡ false) × (passes holds_resources rows ≡ false)
    by false none = or_parts (passes holds_resources handheld) (passes holds_resources rows) none
    by true some = absurd (grind (arith, common_steps))

-- ---- ids

ids-length : (entries : List (ℕ × ContentValue)) (given : List ℕ) → AreIdsOf entries given → length given ≡ length entries
ids-length [] [] are = refl
ids-length (entry ∷ entries) (id ∷ given) are = ap suc (ids-length entries given are.1)
ids-length entries given are = absurd are

gained-count : (told : Option Talk) (plan : Plan) (handle : ℕ) (given ids : List ℕ) → AreGained told plan handle given ids
    → length ids ≡ length plan.adds.items
gained-count told plan handle given ids got =
    let all = ids-length (news_of plan) given got.own in
    let both = length-append plan.replace.items (as_new plan.adds.items) in
    let adds = length-map {B = ℕ × ContentValue} plan.adds.items (λ (content : ContentValue). (0, content)) in
    let rest = length-drop (length plan.replace.items) given in
    rw got.behind (omega (arith, all, both, adds, rest))

counted-by : (skip : Option Skip) (handheld rows : Option DbHead) (blocks : GivenBlocks) (name : List ℕ) (plan : Plan) (told : Option Talk) (handle : ℕ) (given ids : List ℕ)
    → gained_by skip handheld rows blocks name plan told handle given ids → skip ≡ None → IsSome handheld ⊎ IsSome rows
    → length ids ≡ length plan.adds.items
counted-by (Some skip) handheld rows blocks name plan told handle given ids got none there = absurd cc
counted-by None (Some handheld) rows blocks name plan told handle given ids got none there = gained-count _ plan handle given ids got
counted-by None None (Some rows) blocks name plan told handle given ids got none there = gained-count _ plan handle given ids got
counted-by None None None blocks name plan told handle given ids got none (inl there) = absurd cc
counted-by None None None blocks name plan told handle given ids got none (inr there) = absurd cc

-- ---- a database of a session can be taken

module _ (date : ℕ) (heads : List DbHead) (shelves : ShelvesValue) (agree : List ℕ → Bool) (wishes : Wishes) where
  rows-take : (name : List ℕ) (plan : Plan) (given : List ℕ) (rows : Option DatabaseValue) (handheld : Option DbHead)
      → database_of name shelves.rows ≡ rows → head_named name heads ≡ handheld
      → (passes holds_resources handheld ≡ false) × (passes holds_resources (head_of rows) ≡ false)
      → (IsSome handheld ⊎ IsSome (head_of rows) → length given ≡ length plan.adds.items)
      → IfSome (rows_begun date rows handheld) (TakesPlan name plan given)
  rows-take name plan given (Some rows) handheld there head records counted = record {
    records = records.1;
    named = database_of-name name shelves.rows rows there;
    counted = counted (inr refl);
  }
  rows-take name plan given None (Some head) there is records counted = record {
    records = plain_records head.attributes records.0;
    named = head-name name heads head is;
    counted = counted (inl refl);
  }
  rows-take name plan given None None there is records counted = tt

  one-takes : (name : List ℕ) (one : Planned) (told : Option Talk) (handle : ℕ) (given ids : List ℕ) → one.job ≡ job_of heads shelves agree wishes name
      → gained shelves told one handle given ids → IsTakeable date shelves one ids
  unfolding gained
  one-takes name one told handle given ids is got = λ active.
      let job : Job = job_of heads shelves agree wishes name in
      let skips : job.skip ≡ None = ap (λ (j : Job). j.skip) (sym is) ∙ active in
      let counted : IsSome one.job.handheld ⊎ IsSome one.job.rows → length ids ≡ length one.plan.adds.items
      = counted-by one.job.skip one.job.handheld one.job.rows (blocks_at shelves one.job.name) one.job.name one.plan told handle given ids got active in
      let there : IsSome job.handheld ⊎ IsSome job.rows → length ids ≡ length one.plan.adds.items = rw is at counted in
      let taken : IfSome (rows_begun date (database_of name shelves.rows) job.handheld) (TakesPlan name one.plan ids)
      = rows-take name one.plan ids (database_of name shelves.rows) job.handheld refl refl (holds_records job.action job.handheld job.rows _ skips) there in
      subst (λ (j : Job). IfSome (rows_begun date (database_of j.name shelves.rows) j.handheld) (TakesPlan j.name one.plan ids)) (sym is) taken

  each-takes : (names : List (List ℕ)) (told : Option Talk) (planned : List Planned) (stretches : List Stretch) (ids : List (Vec ℕ))
      → map (λ (one : Planned). one.job) planned ≡ map (job_of heads shelves agree wishes) names
      → EachSays (news_under shelves) (λ told one handle given (ids : Vec ℕ). gained shelves told one handle given ids.items) told planned stretches ids
      → AreTakeable date shelves planned (each_of ids)
  each-takes [] told [] [] [] are all = tt
  each-takes (name ∷ names) told (one ∷ planned) (stretch ∷ more) (given ∷ ids) are all = (
    one-takes name one told stretch.handle stretch.given given.items (first are) all.0,
    each-takes names _ planned more ids (rest are) all.1,
  )
    where
      first : one.job ∷ map (λ (one : Planned). one.job) planned ≡ job_of heads shelves agree wishes name ∷ map (job_of heads shelves agree wishes) names
          → one.job ≡ job_of heads shelves agree wishes name
      first same = cc

      rest : one.job ∷ map (λ (one : Planned). one.job) planned ≡ job_of heads shelves agree wishes name ∷ map (job_of heads shelves agree wishes) names
          → map (λ (one : Planned). one.job) planned ≡ map (job_of heads shelves agree wishes) names
      rest same = cc
  each-takes [] told (one ∷ planned) stretches ids are all = absurd cc
  each-takes (name ∷ names) told [] stretches ids are all = absurd cc
  each-takes names told planned stretches ids are all = absurd all

-- what a session planned, with the ids that its handheld gave
pub session-takes : (date : ℕ) {shelves : ShelvesValue} {planned : List Planned} (told : Option Talk) (stretches : List Stretch) (ids : List (Vec ℕ))
    → AreOfSession shelves planned
    → EachSays (news_under shelves) (λ told one handle given (ids : Vec ℕ). gained shelves told one handle given ids.items) told planned stretches ids
    → AreTakeable date shelves planned (each_of ids)
unfolding jobs_of
session-takes date {shelves} {planned} told stretches ids of all =
    each-takes date of.heads shelves of.agree of.wishes (names_with of.heads shelves) told planned stretches ids of.are all

-- ---- what was prepared

few-past : (room : ℕ) (planned : List Planned) → past_room room planned ≡ None → length (unskipped planned) ≤ room
few-past room [] none = omega arith
few-past room (one ∷ planned) none = by one.job.skip none (few-past room planned) (few-past (room - 1) planned)
  where
    by : (skip : Option Skip)
        → (if is_some skip then past_room room planned else (if room == 0 then Some one.job.name else past_room (room - 1) planned)) ≡ None
        → (past_room room planned ≡ None → length (unskipped planned) ≤ room)
        → (past_room (room - 1) planned ≡ None → length (unskipped planned) ≤ room - 1)
        → length (if is_none skip then one ∷ unskipped planned else unskipped planned) ≤ room
    by (Some skip) none same less = same none
    by None none same less = step (room == 0) refl none
      where
        step : (full : Bool) → (room == 0) ≡ full → (if full then Some one.job.name else past_room (room - 1) planned) ≡ None
            → length (one ∷ unskipped planned) ≤ room
        step true is none = absurd cc
        step false is none = let rest = less none in let some : 0 < room = grind (arith, nat_tests, is) in omega (arith, rest, some)

past-by : (over past : Option (List ℕ)) → option_or over past ≡ None → past ≡ None
past-by None past none = none
past-by (Some name) past none = absurd cc

module _ {L F : Type 0} {talk : L → Option Talk} {since : L → L → Type 0} {fault : L → Option LinkFault} {downs : L → ℕ} {heads : List DbHead}
    {wishes : Wishes} {desk : DeskValue F} {old new : SessionValue L} {prepared : Prepared}
    (prepares : Prepares talk since fault downs heads wishes desk old new (Ok prepared)) where
  pub prepared-of-session : AreOfSession (shelves_in desk) prepared.planned.items
  prepared-of-session = by prepares.reading prepares.reads prepares.goes
    where
      by : (reading : Result (Vec Planned) SessionFault) → ReadsAll talk since fault downs heads wishes desk old new reading
          → AfterReading heads desk new.user reading (Ok prepared) → AreOfSession (shelves_in desk) prepared.planned.items
      by (Ok planned) reads goes =
          subst (λ (p : Vec Planned). AreOfSession (shelves_in desk) p.items) (sym goes.1)
          (record { heads = heads; agree = agrees_with (agreed old.user (marks_in desk)) (parted_in desk); wishes = wishes; are = reads.plans.jobs_are })
      by (Err cause) reads goes = absurd cc

  pub prepared-few : length (unskipped prepared.planned.items) ≤ 200
  prepared-few = by prepares.reading prepares.goes
    where
      by : (reading : Result (Vec Planned) SessionFault) → AfterReading heads desk new.user reading (Ok prepared)
          → length (unskipped prepared.planned.items) ≤ 200
      by (Ok planned) goes =
          subst (λ (p : Vec Planned). length (unskipped p.items) ≤ 200) (sym goes.1)
          (few-past 200 planned.items (past-by (over_planned (shelves_in desk) (length heads) (all_rows desk.slots) planned.items) _ goes.0.0))
      by (Err cause) goes = absurd cc
