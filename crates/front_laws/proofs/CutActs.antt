-- A beginning of a session's acts ends up to the desktop's commit or behind it; how many of them write says which.
use Rattle.std.proofs.lemmas.Grind.{common_steps}
use Rattle.std.proofs.Common.{◌≡◌, ◌⊎◌, inl, inr, ◌∙◌, ◌≤◌, ◌+◌, refl, ap, sym, subst, ℕ, zero, suc, List, [], ◌∷◌, ◌++◌, length, map, filter, take, drop}
use Rattle.std.proofs.Common.{arith, append_assoc}
use Rattle.std.specs.Prelude.{None, replicate}
use Rattle.std.proofs.lemmas.List.{length-append, map-append}
use Rattle.std.proofs.lemmas.List.Elements.{filter-append}
use Rattle.palm_device.specs.Devices.{Device}
use Rattle.dlp_commands.specs.Changes.{changes}
use Rattle.desktop_session.specs.Acts.{Act, acted, text}
use Rattle.desktop_session.specs.Tellings.{device_after}
use Rattle.session_plan.specs.Limits.{first_over}
use Rattle.sync_session.specs.Sessions.{adds_of, after_commit, before_commit, requests, session, writes_before_commit}
use Rattle.session_plan.specs.Skips.{active}
use Rattle.session_plan.specs.Tasks.{Meeting}
use Rattle.session_plan.specs.Users.{begun_user}
use Rattle.sync_session.proofs.IdsLaws.{text-session}
use Rattle.front_laws.specs.Given.{GetFreeIds, id_in, ids_in}
use Rattle.front_laws.specs.Sound.{IsSoundMeeting}
use Rattle.front_laws.proofs.AlongLaws.{Holds, Quiet, TellIds, along-first, along-last, along-take, along-tells, along-told, quiet-after, quiet-all}
use Rattle.front_laws.proofs.AlongLaws.{told-append}
use Rattle.front_laws.proofs.AmongActs.{AmongPart, among-along, respects-among}
use Rattle.front_laws.proofs.BehindActs.{BehindPart, behind-along, respects-behind}
use Rattle.front_laws.proofs.EachLaws.{put_each}
use Rattle.front_laws.proofs.MergeActs.{committed}
use Rattle.front_laws.proofs.OpenActs.{all_closed}
use Rattle.front_laws.proofs.PhaseActs.{AreDealt}
use Rattle.front_laws.proofs.PutActs.{free-append, free-front}
use Rattle.front_laws.proofs.ReadyLaws.{ready-all}
use Rattle.front_laws.proofs.TaskActs.{with_news}
use Rattle.desktop_session.proofs.ListLaws.{after_append}

-- ---- how many acts write

abbrev pub writes_in : List Act → ℕ
writes_in acts = length (filter changes (map text acts))

pub writes-append : (xs ys : List Act) → writes_in (xs ++ ys) ≡ writes_in xs + writes_in ys
writes-append xs ys =
    grind (
      arith,
      map-append text xs ys,
      filter-append changes (map text xs) (map text ys),
      length-append (filter changes (map text xs)) (filter changes (map text ys)),
    )

none_left : (xs : List (List ℕ)) → length xs ≡ 0 → xs ≡ []
none_left xs none = grind (arith, common_steps)

quiet_where : (acts : List Act) → writes_in acts ≡ 0 → Quiet acts
quiet_where acts none = quiet-all acts (none_left (filter changes (map text acts)) none)

-- the same, whatever ids are given
pub commit-writes : (m : Meeting) (given : List ℕ) → writes_in (before_commit m given) ≡ writes_before_commit m
unfolding writes_before_commit session
commit-writes m given =
    let zeros = replicate (adds_of m) 0 in
    let one = whole given in
    let other = whole zeros in
    omega (arith, one, other)
  where
    whole : (ids : List ℕ) → writes_in (before_commit m ids) + writes_in (after_commit m) ≡ length (filter changes (requests m))
    whole ids = sym (writes-append (before_commit m ids) (after_commit m)) ∙ ap (λ (zs : List (List ℕ)). length (filter changes zs)) (text-session m ids)

-- ---- a beginning of two lists

cut : {A : Type 0} (xs ys : List A) (n : ℕ) → (take n (xs ++ ys) ≡ take n xs) ⊎ ((k : ℕ) × (take n (xs ++ ys) ≡ xs ++ take k ys))
cut [] ys n = inr (n, refl)
cut (x ∷ xs) ys zero = inl refl
cut {A} (x ∷ xs) ys (suc n) = grind (arith, cut xs ys n)

rest : {A : Type 0} (n : ℕ) (xs : List A) → take n xs ++ drop n xs ≡ xs
rest zero xs = refl
rest (suc n) [] = refl
rest {A} (suc n) (x ∷ xs) = ap (λ (zs : List A). x ∷ zs) (rest n xs)

-- ---- where it ends

-- by how many of the acts write
pub record IsCut (m : Meeting) (sound : IsSoundMeeting m) (given : List ℕ) (acts : List Act) : Type 0 where
  pub among : writes_in acts ≤ writes_before_commit m → AmongPart m (ready-all sound) (ids_in acts) (device_after acts m.device)
  pub behind : writes_before_commit m ≤ writes_in acts → BehindPart m given (ready-all sound) (ids_in acts) (ids_in acts) (device_after acts m.device)
  pub dealt : writes_before_commit m ≤ writes_in acts → AreDealt m (active m) given
  pub tells : TellIds acts m.device

-- free ids of acts, and of quiet ones behind them
free_both : (xs ys : List Act) (device : Device) → GetFreeIds xs device → GetFreeIds ys (device_after xs device) → GetFreeIds (xs ++ ys) device
free_both [] ys device first second = second
free_both (x ∷ xs) ys device first second = (first.0, free_both xs ys (acted x device).1 first.1 second)

pub ids-append : (xs ys : List Act) → ids_in (xs ++ ys) ≡ ids_in xs ++ ids_in ys
ids-append [] ys = refl
ids-append (x ∷ xs) ys = grind (arith, ids-append xs ys, append_assoc (id_in x) (ids_in xs) (ids_in ys))

-- it ends up to the commit
cut_before : (m : Meeting) (sound : IsSoundMeeting m) (given : List ℕ) → first_over m ≡ None → (n : ℕ)
    → GetFreeIds (take n (before_commit m given)) m.device → IsCut m sound given (take n (before_commit m given))
cut_before m sound given none n free =
    grind (
      arith,
      take n (before_commit m given),
      drop n (before_commit m given),
      rest n (before_commit m given),
      writes_in (take n (before_commit m given)),
      writes_in (drop n (before_commit m given)),
      writes-append (take n (before_commit m given)) (drop n (before_commit m given)),
      commit-writes m given,
      quiet_where (drop n (before_commit m given)),
      free_both (take n (before_commit m given)) (drop n (before_commit m given)) m.device free,
      quiet-after (drop n (before_commit m given)) (device_after (take n (before_commit m given)) m.device),
      along-take (AmongPart m (ready-all sound)) [] (before_commit m given) m.device n (among-along given sound none) free,
      committed given sound none,
      all_closed (put_each m (with_news m) (active m) given m.device.databases) (begun_user m.device.user),
      along-first (BehindPart m given (ready-all sound) (ids_in (take n (before_commit m given)))) (ids_in (take n (before_commit m given)))
          (after_commit m) (all_closed (put_each m (with_news m) (active m) given m.device.databases) (begun_user m.device.user)),
      ready-all sound,
      behind-along given sound (ids_in (take n (before_commit m given))),
      after_append (take n (before_commit m given)) (drop n (before_commit m given)) m.device,
      respects-behind m given (ready-all sound) (ids_in (take n (before_commit m given))) (ids_in (take n (before_commit m given)))
          (all_closed (put_each m (with_news m) (active m) given m.device.databases) (begun_user m.device.user))
          (device_after (take n (before_commit m given)) m.device),
      along-tells (AmongPart m (ready-all sound)) [] (before_commit m given) m.device n
          (among-along given sound none) free,
    )

-- it ends behind it
cut_behind : (m : Meeting) (sound : IsSoundMeeting m) (given : List ℕ) → first_over m ≡ None → (k : ℕ)
    → GetFreeIds (before_commit m given ++ take k (after_commit m)) m.device → IsCut m sound given (before_commit m given ++ take k (after_commit m))
cut_behind m sound given none k free =
    let xs = before_commit m given in
    let ys = take k (after_commit m) in
    let ready = ready-all sound in
    let device = all_closed (put_each m (with_news m) (active m) given m.device.databases) (begun_user m.device.user) in
    let free_xs = free-front xs ys m.device free in
    let first = committed given sound none free_xs in
    let free_ys : GetFreeIds ys device = subst (GetFreeIds ys) first.does (free-append xs ys m.device free) in
    let total : writes_in (xs ++ ys) ≡ writes_before_commit m + writes_in ys =
    writes-append xs ys ∙ ap (λ n. n + writes_in ys) (commit-writes m given) in
    let reached : device_after (xs ++ ys) m.device ≡ device_after ys device = after_append xs ys m.device ∙ ap (device_after ys) first.does in
    let part =
    along-take (BehindPart m given ready (ids_in xs)) (ids_in xs) (after_commit m) device k (behind-along given sound (ids_in xs) first.dealt) free_ys in
    let same : ids_in (xs ++ ys) ≡ ids_in xs = ids-append xs ys ∙ part.same in
    record {
      among = λ few.
          let still = quiet_where ys (omega (arith, total, few)) in
          let holds = (quiet-after ys device still).1 in
          let start = along-last (AmongPart m ready) [] xs m.device (among-along given sound none) free_xs in
          subst (λ is. AmongPart m ready is (device_after (xs ++ ys) m.device)) (sym same)
          (respects-among m ready (ids_in xs) (device_after xs m.device) (device_after (xs ++ ys) m.device)
          (subst (λ (d : Device). Holds d (device_after xs m.device)) (sym reached) (subst (Holds (device_after ys device)) (sym first.does) holds)) start);
      behind = λ most. subst (λ (p : List ℕ × List ℕ). BehindPart m given ready p.0 p.1 (device_after (xs ++ ys) m.device))
          (λ j. (sym same j, sym (ids-append xs ys) j)) (subst (BehindPart m given ready (ids_in xs) (ids_in xs ++ ids_in ys)) (sym reached) part);
      dealt = λ most. first.dealt;
      tells = told-append xs ys m.device (along-told (AmongPart m ready) [] xs m.device (among-along given sound none) free_xs)
          (subst (TellIds ys) (sym first.does) (along-tells (BehindPart m given ready (ids_in xs)) (ids_in xs) (after_commit m) device k
          (behind-along given sound (ids_in xs) first.dealt) free_ys));
    }

pub cut-acts : {m : Meeting} (sound : IsSoundMeeting m) (given : List ℕ) → first_over m ≡ None → (n : ℕ)
    → GetFreeIds (take n (session m given)) m.device → IsCut m sound given (take n (session m given))
unfolding session
cut-acts {m} sound given none n free = by (cut (before_commit m given) (after_commit m) n)
  where
    by : (take n (before_commit m given ++ after_commit m) ≡ take n (before_commit m given)) ⊎ ((k : ℕ)
        × (take n (before_commit m given ++ after_commit m) ≡ before_commit m given ++ take k (after_commit m)))
        → IsCut m sound given (take n (before_commit m given ++ after_commit m))
    by (inl is) = subst (IsCut m sound given) (sym is) (cut_before m sound given none n (subst (λ (zs : List Act). GetFreeIds zs m.device) is free))
    by (inr (k, is)) = subst (IsCut m sound given) (sym is) (cut_behind m sound given none k (subst (λ (zs : List Act). GetFreeIds zs m.device) is free))
