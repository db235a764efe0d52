-- What holds of a server and of a world since an earlier time goes on.
use Rattle.std.proofs.Common.{◌≡◌, ℕ, ◌+◌, ◌-◌, ◌^◌, ◌≤◌, List, [], ◌∷◌, ◌++◌, map, min, Option, refl, sym, ap, subst, ◌∙◌, append_assoc, arith, inl, inr}
use Rattle.std.proofs.lemmas.List.{append-nil, map-append}
use Rattle.std.specs.List.{flat_map}
use Rattle.hs_folders.specs.FileMaps.{FileMap}
use Rattle.hs_folders.specs.Moments.{Moments, EachMomentSince, IsBeforeOrAfter}
use Rattle.hs_folders.proofs.MomentLaws.{moments_go_on, moments_weaken, no_moment}
use Rattle.palm_device.specs.Devices.{Device}
use Rattle.handheld_files.specs.Openings.{Stands}
use Rattle.std.specs.FinMap as finmap
use Rattle.std.specs.Option.{option_map}
use Rattle.handheld_server.specs.Keeping.{Touches, wrote_user}
use Rattle.handheld_server.specs.Servers.{ServerValue, store_of}
use Rattle.dlp_commands.specs.DeviceRuns.{Exchange, Ran}
use Rattle.dlp_commands.specs.DeviceSteps.{DeviceStep}
use Rattle.dlp_commands.specs.Changes.{given_in}
use Rattle.dlp_commands.proofs.StepLaws.{given-append, ran_joined}
use Rattle.line_world.specs.FileLaws.{files_joined, others_touched, touches_told}
use Rattle.line_world.specs.Folders.{StoodAfterSome, ServedSince}
use Rattle.line_world.specs.Worlds.{WorldValue, WorldSince}

-- ---- a server

pub served-itself : {F : Type 0} (contents : F → Option FileMap) (moments : F → Moments)
    (paths : F → Option (List (List ℕ))) (faults : F → ℕ)
    (server : ServerValue F) → ServedSince contents moments paths faults server server []
served-itself contents moments paths faults server = record {
  ran = refl;
  files = (refl, refl);
  others = λ name unread. refl;
  stands = λ held. held;
  moments_since =
      λ held. no_moment (StoodAfterSome server.device []) (moments server.folder)
      (moments server.folder) refl;
  same_paths = refl;
  later = omega arith;
}

more_after : (first : Device) (xs ys : List Exchange) (told : Option FileMap)
    → StoodAfterSome first xs told → StoodAfterSome first (xs ++ ys) told
more_after first xs ys told stood = record {
  before = stood.before;
  after = stood.after ++ ys;
  is = ap (λ (e : List Exchange). e ++ ys) stood.is ∙ append_assoc stood.before stood.after ys;
  device = stood.device;
  ran = stood.ran;
  stands = stood.stands;
}

more_before : (first mid : Device) (xs ys : List Exchange) (told : Option FileMap)
    → Ran first xs mid → StoodAfterSome mid ys told
    → StoodAfterSome first (xs ++ ys) told
more_before first mid xs ys told ran stood = record {
  before = xs ++ stood.before;
  after = stood.after;
  is =
      ap (λ (e : List Exchange). xs ++ e) stood.is ∙ sym (append_assoc xs stood.before stood.after);
  device = stood.device;
  ran = ran_joined first mid stood.device xs stood.before ran stood.ran;
  stands = stood.stands;
}

pub served-more : {F : Type 0} (contents : F → Option FileMap) (moments : F → Moments)
    (paths : F → Option (List (List ℕ))) (faults : F → ℕ)
    (a b c : ServerValue F) (xs ys : List Exchange)
    → ServedSince contents moments paths faults a b xs
    → ServedSince contents moments paths faults b c ys
    → ServedSince contents moments paths faults a c (xs ++ ys)
served-more contents moments paths faults a b c xs ys first second = record {
  ran = ran_joined a.device b.device c.device xs ys first.ran second.ran;
  files =
      files_joined (contents a.folder) (contents b.folder)
      (contents c.folder) a.device b.device c.device xs ys first.files second.files;
  others = λ name unread. second.others name unread ∙ first.others name unread;
  stands = λ held. second.stands (first.stands held);
  moments_since =
      λ held. moments_go_on (StoodAfterSome a.device (xs ++ ys)) (moments a.folder)
      (moments b.folder) (moments c.folder)
      (moments_weaken (StoodAfterSome a.device xs) (StoodAfterSome a.device (xs ++ ys))
      (moments a.folder) (moments b.folder) (first.moments_since held)
      (λ told stood. more_after a.device xs ys told stood))
      (moments_weaken (StoodAfterSome b.device ys) (StoodAfterSome a.device (xs ++ ys))
      (moments b.folder) (moments c.folder)
      (second.moments_since (first.stands held))
      (λ told stood. more_before a.device b.device xs ys told first.ran stood));
  same_paths = second.same_paths ∙ first.same_paths;
  later = omega (arith, first.later, second.later);
}

-- it took one step, and its folder was changed once at most
pub served-once : {F : Type 0} (contents : F → Option FileMap) (moments : F → Moments)
    (paths : F → Option (List (List ℕ))) (faults : F → ℕ)
    (old new : ServerValue F) (request reply : List ℕ)
    → DeviceStep old.device request reply new.device
    → (Stands (contents old.folder) old.device.databases old.device.user
    → Stands (contents new.folder) new.device.databases new.device.user)
    → EachMomentSince (IsBeforeOrAfter (contents old.folder) (contents new.folder))
    (moments old.folder) (moments new.folder)
    → paths new.folder ≡ paths old.folder → faults old.folder ≤ faults new.folder
    → Touches contents (wrote_user request reply) (store_of old) (store_of new)
    → ServedSince contents moments paths faults old new
    (record { request = request; reply = reply } ∷ [])
served-once contents moments paths faults old new request reply step stands each same later
    touches = record {
      ran = (new.device, step, refl);
      files = (
        new.device,
        contents new.folder,
        step,
        touches_told contents
            (wrote_user request reply) old new touches,
        (refl, refl),
      );
      others =
          others_touched (wrote_user request reply) (contents old.folder)
          (contents new.folder) old.device new.device
          (touches_told contents (wrote_user request reply) old new touches);
      stands = stands;
      moments_since =
          λ held. moments_weaken (IsBeforeOrAfter (contents old.folder) (contents new.folder))
          (StoodAfterSome old.device (record { request = request; reply = reply } ∷ []))
          (moments old.folder) (moments new.folder) each (λ told is. elim is [
            | inl before ↦ record {
              before = [];
              after = record { request = request; reply = reply } ∷ [];
              is = refl;
              device = old.device;
              ran = refl;
              stands = subst (λ (t : Option FileMap). Stands t old.device.databases old.device.user)
                  (sym before) held;
            }
            | inr after ↦ record {
              before = record { request = request; reply = reply } ∷ [];
              after = [];
              is = refl;
              device = new.device;
              ran = (new.device, step, refl);
              stands = subst (λ (t : Option FileMap). Stands t new.device.databases new.device.user)
                  (sym after) (stands held);
            }
          ]);
      same_paths = same;
      later = later;
    }

-- it took none, and its folder stayed
pub served-none : {F : Type 0} (contents : F → Option FileMap) (moments : F → Moments)
    (paths : F → Option (List (List ℕ))) (faults : F → ℕ)
    (old new : ServerValue F) → new.device ≡ old.device → contents new.folder ≡ contents old.folder
    → moments new.folder ≡ moments old.folder
    → paths new.folder ≡ paths old.folder → faults old.folder ≤ faults new.folder
    → ServedSince contents moments paths faults old new []
served-none contents moments paths faults old new device stays quiet same later = record {
  ran = device;
  files = (stays, device);
  others =
      λ name unread. ap
      (λ (t : Option FileMap). option_map (λ (held : FileMap). finmap.get held name) t) stays;
  stands =
      λ held. subst (λ (d : Device). Stands (contents new.folder) d.databases d.user) (sym device)
      (subst (λ (t : Option FileMap). Stands t old.device.databases old.device.user)
      (sym stays) held);
  moments_since =
      λ held. no_moment (StoodAfterSome old.device []) (moments old.folder)
      (moments new.folder) quiet;
  same_paths = same;
  later = later;
}

-- ---- a world

rose_later : (most a b c : ℕ) → min (a + 1) most ≤ b → b ≤ c → min (a + 1) most ≤ c
rose_later most a b c rose more = omega (arith, rose, more)

rose_earlier : (most a b c : ℕ) → a ≤ b → min (b + 1) most ≤ c → min (a + 1) most ≤ c
rose_earlier most a b c less rose = omega (arith, less, rose)

pub since_itself : {F : Type 0} (contents : F → Option FileMap) (moments : F → Moments)
    (paths : F → Option (List (List ℕ))) (faults : F → ℕ)
    (world : WorldValue F) → WorldSince contents moments paths faults world world
since_itself contents moments paths faults world = record {
  same_script = refl;
  requests = [];
  issued_is = sym (append-nil world.log.issued);
  exchanges = [];
  performed_is = sym (append-nil world.log.performed);
  replies_are = sym (append-nil world.log.replies);
  given_is = sym (append-nil world.log.given);
  served = served-itself contents moments paths faults world.server;
  keeper = λ is. inl is;
}

joined : {A B : Type 0} (f : A → B) (a b c : List B) (xs ys : List A) → b ≡ a ++ map f xs
    → c ≡ b ++ map f ys → c ≡ a ++ map f (xs ++ ys)
joined f a b c xs ys first second =
    second ∙ ap (λ (l : List _). l ++ map f ys) first ∙ append_assoc a (map f xs) (map f ys)
    ∙ ap (λ (l : List _). a ++ l)
    (sym (map-append f xs ys))

pub since_more : {F : Type 0} (contents : F → Option FileMap) (moments : F → Moments)
    (paths : F → Option (List (List ℕ))) (faults : F → ℕ)
    (a b c : WorldValue F) → WorldSince contents moments paths faults a b
    → WorldSince contents moments paths faults b c
    → WorldSince contents moments paths faults a c
since_more contents moments paths faults a b c first second = record {
  same_script = second.same_script ∙ first.same_script;
  requests = first.requests ++ second.requests;
  issued_is =
      second.issued_is ∙ ap (λ (l : List (List ℕ)). l ++ second.requests) first.issued_is
      ∙ append_assoc a.log.issued first.requests second.requests;
  exchanges = first.exchanges ++ second.exchanges;
  performed_is = joined (λ (exchange : Exchange). exchange.request) a.log.performed
      b.log.performed c.log.performed first.exchanges second.exchanges first.performed_is
      second.performed_is;
  replies_are = joined (λ (exchange : Exchange). exchange.reply) a.log.replies b.log.replies
      c.log.replies first.exchanges second.exchanges first.replies_are second.replies_are;
  given_is =
      second.given_is
      ∙ ap (λ (l : List ℕ). l
      ++ flat_map
      (λ (exchange : Exchange). given_in exchange.request exchange.reply) second.exchanges)
      first.given_is
      ∙ append_assoc a.log.given
      (flat_map (λ (exchange : Exchange). given_in exchange.request exchange.reply) first.exchanges)
      (flat_map (λ (exchange : Exchange). given_in exchange.request exchange.reply)
      second.exchanges)
      ∙ ap (λ (l : List ℕ). a.log.given ++ l) (sym (given-append first.exchanges second.exchanges));
  served = served-more contents moments paths faults a.server b.server c.server first.exchanges
      second.exchanges first.served second.served;
  keeper = λ is. elim (second.keeper is) [
    | inl mid ↦ elim (first.keeper mid) [
      | inl old ↦ inl old
      | inr rose ↦ inr
          (rose_later (2 ^ 64 - 1) (faults a.server.folder) (faults b.server.folder)
          (faults c.server.folder) rose second.served.later)
    ]
    | inr rose ↦ inr
        (rose_earlier (2 ^ 64 - 1) (faults a.server.folder) (faults b.server.folder)
        (faults c.server.folder) first.served.later rose)
  ];
}
