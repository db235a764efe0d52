-- A front is where acts of the session lead to, and what it is.
use Rattle.std.proofs.Common.{arith, ◌≡◌, ◌∙◌, ◌≤◌, refl, ap, sym, subst, ℕ, zero, suc, Bool, true, false, List, [], ◌∷◌, ◌++◌, length, map, filter, take}
use Rattle.std.proofs.Common.{if◌then◌else◌, append-nil}
use Rattle.std.specs.Prelude.{None}
use Rattle.std.specs.List.{AllByRecursion, flat_map}
use Rattle.palm_device.specs.Devices.{Device}
use Rattle.dlp_commands.specs.Changes.{changes, given_in}
use Rattle.dlp_commands.specs.DeviceRuns.{Exchange, Ran, exchanged}
use Rattle.desktop_session.specs.Acts.{Act, text}
use Rattle.desktop_session.specs.Tellings.{AreSayable, device_after, exchanges}
use Rattle.desktop_session.proofs.TellLaws.{acts_ran}
use Rattle.sync_session.specs.Fronts.{MeetingFront}
use Rattle.session_plan.specs.Limits.{first_over}
use Rattle.sync_session.specs.Sessions.{adds_of, after_commit, before_commit, requests, session, writes_before_commit}
use Rattle.session_plan.specs.Tasks.{Meeting}
use Rattle.sync_session.proofs.IdsLaws.{text-session}
use Rattle.front_laws.specs.Given.{GetFreeIds, ids_in}
use Rattle.front_laws.specs.Sound.{IsSoundMeeting}
use Rattle.front_laws.specs.Stops.{StandsAmongNews, StandsBehindCommit}
use Rattle.front_laws.proofs.AlongLaws.{Holds, along-told, none-in}
use Rattle.front_laws.proofs.AmongActs.{AmongPart, among-along, respects-among}
use Rattle.front_laws.proofs.BehindActs.{respects-behind}
use Rattle.front_laws.proofs.CutActs.{IsCut, cut-acts, ids-append, writes_in}
use Rattle.front_laws.proofs.FitLaws.{Fit, FitsOne, fit-after, fit-commit, fit-session}
use Rattle.front_laws.proofs.NameLaws.{stands-among, stands-behind}
use Rattle.front_laws.proofs.PartActs.{take-all}
use Rattle.front_laws.proofs.ReadyLaws.{ready-all}
use Rattle.front_laws.proofs.RelabelLaws.{NoAsk, before-count, before-labelled, none-after, session-labelled}
use Rattle.front_laws.proofs.RunLaws.{answers, answers-count, asks, asks_in, count_one, exchanges-are, given-all, given_to, ids_left, none-all-given}
use Rattle.front_laws.proofs.RunLaws.{relabel, relabel-take, runs-by, sayable-all}
use Rattle.palm_device.proofs.BoundLaws.{AllByRecursion-take}

-- ---- the requests of a beginning

pub take-map : {A B : Type 0} (f : A → B) (n : ℕ) (xs : List A) → take n (map f xs) ≡ map f (take n xs)
take-map f zero xs = refl
take-map f (suc n) [] = refl
take-map {A} {B} f (suc n) (x ∷ xs) = ap (λ (ys : List B). f x ∷ ys) (take-map f n xs)

pub first_requests : (m : Meeting) (ids : List ℕ) (n : ℕ) → take n (requests m) ≡ map text (take n (session m ids))
first_requests m ids n = ap (take n) (sym (text-session m ids)) ∙ take-map text n (session m ids)

pub first_fit : {m : Meeting} → IsSoundMeeting m → (ids : List ℕ) (n : ℕ) → Fit (take n (session m ids))
first_fit {m} sound ids n = AllByRecursion-take FitsOne n (session m ids) (fit-session sound ids)

pub first-said : (m : Meeting) (given : List ℕ) (n : ℕ) → IsSoundMeeting m → GetFreeIds (take n (session m given)) m.device
    → AreSayable (take n (session m given)) m.device
first-said m given n sound free = sayable-all (take n (session m given)) m.device (first_fit sound given n) free

-- ---- acts lead to a front

pub acts-front : (m : Meeting) (given : List ℕ) (n : ℕ) → IsSoundMeeting m → first_over m ≡ None → GetFreeIds (take n (session m given)) m.device
    → MeetingFront m (length (filter changes (map text (take n (session m given))))) (ids_in (take n (session m given)))
    (device_after (take n (session m given)) m.device)
acts-front m given n sound none free =
    grind (
      arith,
      take n (session m given),
      first_fit sound given n,
      take n (requests m),
      map text (take n (session m given)),
      first_requests m given n,
      answers (exchanges (take n (session m given)) m.device),
      exchanges-are (take n (session m given)) m.device,
      answers-count (take n (session m given)) m.device,
      acts_ran (take n (session m given)) m.device (sayable-all (take n (session m given)) m.device (first_fit sound given n) free),
      given-all (take n (session m given)) (first_fit sound given n) sound.device free (cut-acts sound given none n free).tells,
    )

-- ---- a front is where acts lead to

pub ids_of_label : (ids : List ℕ) (acts : List Act) → length ids ≡ asks_in acts → ids_in (relabel ids acts) ≡ ids
ids_of_label [] [] count = refl
ids_of_label (i ∷ ids) [] count = absurd (cc)
ids_of_label ids (act ∷ acts) count = by (asks act) refl ids count (λ is same. ids_of_label is acts same)
  where
    pred_of : ℕ → ℕ
    pred_of zero = zero
    pred_of (suc n) = n

    one : (b : Bool) (is : List ℕ)
        → (if asks (given_to b is act) then (given_to b is act).given ∷ [] else []) ≡ (if asks act then (given_to b is act).given ∷ [] else [])
    one true is = refl
    one false is = refl

    by : (b : Bool) → asks act ≡ b → (is : List ℕ) → length is ≡ count_one b (asks_in acts)
        → ((js : List ℕ) → length js ≡ asks_in acts → ids_in (relabel js acts) ≡ js)
        → (if asks (given_to b is act) then (given_to b is act).given ∷ [] else []) ++ ids_in (relabel (ids_left b is) acts) ≡ is
    by true is_asked [] same rest = absurd (cc)
    by true is_asked (i ∷ is) same rest =
        ap (λ b. (if b then i ∷ [] else []) ++ ids_in (relabel is acts)) is_asked ∙ ap (λ js. i ∷ js) (rest is (ap pred_of same))
    by false is_asked is same rest = ap (λ b. (if b then act.given ∷ [] else []) ++ ids_in (relabel is acts)) is_asked ∙ rest is same

pub record IsActs (m : Meeting) (sound : IsSoundMeeting m) (writes : ℕ) (given : List ℕ) (device : Device) : Type 0 where
  pub acts : List Act
  pub cut : IsCut m sound given acts
  pub count : writes_in acts ≡ writes
  pub ids : ids_in acts ≡ given
  pub holds : Holds device (device_after acts m.device)

module _ (m : Meeting) (writes : ℕ) (given : List ℕ) (device : Device) (sound : IsSoundMeeting m) (none : first_over m ≡ None)
    (front : MeetingFront m writes given device) where
  pub front-acts : IsActs m sound writes given device
  front-acts =
      let n = front.count in
      let bare = take n (session m []) in
      let asked = first_requests m [] n in
      let runs = runs-by bare m.device front.reached front.replies (first_fit sound [] n) (front.run.same ∙ ap length asked)
      (subst (λ (rs : List (List ℕ)). Ran m.device (exchanged rs front.replies) front.reached) asked front.run.ran) in
      let acts = take n (session m runs.ids) in
      let same : acts ≡ relabel runs.ids bare = ap (take n) (session-labelled m sound runs.ids) ∙ relabel-take n runs.ids (session m []) in
      let free : GetFreeIds acts m.device = subst (λ (zs : List Act). GetFreeIds zs m.device) (sym same) runs.free in
      let fit = first_fit sound runs.ids n in
      let cut = cut-acts sound runs.ids none n free in
      let own : ids_in acts ≡ runs.ids = ap ids_in same ∙ ids_of_label runs.ids bare runs.all in
      let now = first_requests m runs.ids n in
      let replies : front.replies ≡ answers (exchanges acts m.device) =
      runs.told ∙ ap (λ (zs : List Act). answers (exchanges zs m.device)) (sym same) in
      let told : exchanged (take n (requests m)) front.replies ≡ exchanges acts m.device =
      ap {A = List (List ℕ) × List (List ℕ)} (λ p. exchanged p.0 p.1) (λ k. (now k, replies k)) ∙ exchanges-are acts m.device in
      let ids : given ≡ ids_in acts =
      sym front.ids ∙ ap (λ (es : List Exchange). flat_map (λ (e : Exchange). given_in e.request e.reply) es) told
      ∙ given-all acts fit sound.device free cut.tells in
      let reached : front.reached ≡ device_after acts m.device = sym runs.reaches ∙ ap (λ (zs : List Act). device_after zs m.device) (sym same) in
      record {
        acts = acts;
        cut = subst (λ (is : List ℕ). IsCut m sound is acts) (sym own ∙ sym ids) cut;
        count = sym (ap (λ (rs : List (List ℕ)). length (filter changes rs)) now) ∙ front.holds;
        ids = sym ids;
        holds = record {
          databases = front.databases ∙ ap (λ (d : Device). d.databases) reached;
          user = front.user ∙ ap (λ (d : Device). d.user) reached;
        };
      }

  -- ---- what a front is

  pub front-among : writes ≤ writes_before_commit m → StandsAmongNews m given device
  front-among few =
      let is = front-acts in
      let part = is.cut.among (subst (λ n. n ≤ writes_before_commit m) (sym is.count) few) in
      stands-among m sound (respects-among m (ready-all sound) given (device_after is.acts m.device) device is.holds
      (subst (λ ids. AmongPart m (ready-all sound) ids (device_after is.acts m.device)) is.ids part))

  pub front-behind : writes_before_commit m ≤ writes → StandsBehindCommit m given device
  front-behind most =
      let is = front-acts in
      let enough = subst (λ n. writes_before_commit m ≤ n) (sym is.count) most in
      stands-behind m sound
      (respects-behind m given (ready-all sound) (ids_in is.acts) (ids_in is.acts) (device_after is.acts m.device) device is.holds (is.cut.behind enough))
      (is.cut.dealt enough)

-- ---- the ids that are told

no-ids : (acts : List Act) → NoAsk acts → ids_in acts ≡ []
no-ids [] none = refl
no-ids (act ∷ acts) none = grind (arith, none-in act none.0, no-ids acts none.1)

pub commit-ids : (m : Meeting) (given : List ℕ) → IsSoundMeeting m → length given ≡ adds_of m → ids_in (before_commit m given) ≡ given
commit-ids m given sound count =
    ap ids_in (before-labelled m sound given) ∙ ids_of_label given (before_commit m []) (count ∙ sym (before-count m sound))

pub session-ids : (m : Meeting) (given : List ℕ) → IsSoundMeeting m → length given ≡ adds_of m → ids_in (session m given) ≡ given
unfolding session
session-ids m given sound count =
    grind (
      arith,
      ids-append (before_commit m given) (after_commit m),
      commit-ids m given sound count,
      no-ids (after_commit m) (none-after m),
      none-after m,
      append-nil given,
    )

pub commit-told : (m : Meeting) (given : List ℕ) → IsSoundMeeting m → first_over m ≡ None → GetFreeIds (before_commit m given) m.device
    → flat_map (λ (e : Exchange). given_in e.request e.reply) (exchanges (before_commit m given) m.device) ≡ ids_in (before_commit m given)
commit-told m given sound none free =
    given-all (before_commit m given) (fit-commit sound given) sound.device free
    (along-told (AmongPart m (ready-all sound)) [] (before_commit m given) m.device (among-along given sound none) free)

pub first-told : (m : Meeting) (given : List ℕ) (n : ℕ) → IsSoundMeeting m → first_over m ≡ None → GetFreeIds (take n (session m given)) m.device
    → flat_map (λ (e : Exchange). given_in e.request e.reply) (exchanges (take n (session m given)) m.device) ≡ ids_in (take n (session m given))
first-told m given n sound none free =
    given-all (take n (session m given)) (first_fit sound given n) sound.device free (cut-acts sound given none n free).tells

pub session-told : (m : Meeting) (given : List ℕ) → IsSoundMeeting m → first_over m ≡ None → GetFreeIds (session m given) m.device
    → flat_map (λ (e : Exchange). given_in e.request e.reply) (exchanges (session m given) m.device) ≡ ids_in (session m given)
session-told m given sound none free =
    grind (arith, take-all (session m given), first-told m given (length (session m given)) sound none, length (session m given))

none-listed : (acts : List Act) → NoAsk acts → AllByRecursion (λ (act : Act). asks act ≡ false) acts
none-listed [] none = tt
none-listed (act ∷ acts) none = (none.0, none-listed acts none.1)

pub after-none : (m : Meeting) → IsSoundMeeting m
    → AllByRecursion (λ (request : List ℕ). (answer : List ℕ) → given_in request answer ≡ []) (map text (after_commit m))
after-none m sound = none-all-given (after_commit m) (fit-after sound) (none-listed (after_commit m) (none-after m))
