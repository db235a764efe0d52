-- What a world tells of its talk behind a request.
use Rattle.line_world.proofs.Names.{common_steps, rules, ◌≡◌, ℕ, ◌+◌, List, [], ◌∷◌, ◌++◌, length, take, Option, Some, refl, sym, ap, subst, ◌∙◌, arith, inl}
use Rattle.line_world.proofs.Names.{inr, slice_get, append-nil, take_all, slice_get_past, FileMap, Moments, Device, Exchange, Ran, exchanged, DeviceStep}
use Rattle.line_world.proofs.Names.{HasAnswer, LacksAnswer, RequestReach, Unsent, Sent, Served, WentTo, with_issued, Performs, IsLog, WorldValue, world_talk}
use Rattle.dlp_commands.specs.Talks.{Talk}
use Rattle.line_world.proofs.LogLaws.{length-later, replies-all}

pub exchanged-more : (xs ys : List (List ℕ)) (x y : List ℕ) → length xs ≡ length ys
    → exchanged (xs ++ x ∷ []) (ys ++ y ∷ []) ≡ exchanged xs ys ++ record { request = x; reply = y } ∷ []
exchanged-more [] [] x y same = refl
exchanged-more [] (b ∷ ys) x y same = absurd (omega (arith, same))
exchanged-more (a ∷ xs) [] x y same = absurd (omega (arith, same))
exchanged-more (a ∷ xs) (b ∷ ys) x y same = ap (λ l. record { request = a; reply = b } ∷ l) (exchanged-more xs ys x y (omega (arith, same)))

slice_get-last : {X : Type 0} (xs : List X) {x : X} → slice_get (xs ++ x ∷ []) (length xs) ≡ Some x
slice_get-last [] = refl
slice_get-last (a ∷ xs) = slice_get-last xs

two : {a a' b b' : List (List ℕ)} → a ≡ a' → b ≡ b' → exchanged a b ≡ exchanged a' b'
two e d = search rules

abbrev talk_with : Device → List Exchange → Option (List ℕ) → Talk
talk_with device exchanges left = record { device = device; exchanges = exchanges; left = left }

same_talk : {d d' : Device} {e e' : List Exchange} {l l' : Option (List ℕ)} → d ≡ d' → e ≡ e' → l ≡ l' → talk_with d e l ≡ talk_with d' e' l'
same_talk p q r = search rules

-- a step by one exchange
one_step : {old new : Device} {request reply : List ℕ} → Ran old (record { request = request; reply = reply } ∷ []) new → DeviceStep old request reply new
one_step ran = search rules

-- ---- an answer

pub talk-answered : {F : Type 0} {contents : F → Option FileMap} {moments : F → Moments} {paths : F → Option (List (List ℕ))} {faults : F → ℕ}
    (old new : WorldValue F) {request reply : List ℕ} → IsLog old.log old.answered → length old.log.issued ≡ old.answered
    → new.answered ≡ length new.log.replies → Performs contents moments paths faults old.server new.server (with_issued old.log request) new.log request reply
    → HasAnswer (Some (world_talk old)) request reply (Some (world_talk new))
talk-answered old new {request} {reply} is all count performs =
    let issued : new.log.issued ≡ old.log.issued ++ request ∷ [] = ap (λ l. l.issued) performs.log_is in
    let replies : new.log.replies ≡ old.log.replies ++ reply ∷ [] = ap (λ l. l.replies) performs.log_is in
    let replied : length old.log.replies ≡ old.answered = replies-all is all in
    let n_issued : length new.log.issued ≡ length old.log.issued + 1 = length-later old.log.issued request issued in
    let n_replies : length new.log.replies ≡ length old.log.replies + 1 = length-later old.log.replies reply replies in
    let e : Exchange = record { request = request; reply = reply } in
    let now = two
    (take_all new.answered new.log.issued (omega (arith, count, n_issued, n_replies, replied, all)) ∙ issued)
    (take_all new.answered new.log.replies (omega (arith, count)) ∙ replies) in
    let before = two (take_all old.answered old.log.issued (omega (arith, all))) (take_all old.answered old.log.replies (omega (arith, replied))) in
    record {
      device = new.server.device;
      step = one_step performs.since.ran;
      none_left = slice_get_past old.log.issued old.answered (omega (arith, all));
      is = ap Some (same_talk refl
          (now ∙ exchanged-more old.log.issued old.log.replies request reply (omega (arith, replied, all)) ∙ ap (λ l. l ++ e ∷ [])
          (sym before)) (slice_get_past new.log.issued new.answered (omega (arith, count, n_issued, n_replies, replied, all))));
    }

-- ---- no answer

-- the exchanges are those that were answered before
kept : {F : Type 0} (old new : WorldValue F) (issued replies : List (List ℕ)) → IsLog old.log old.answered → length old.log.issued ≡ old.answered
    → new.answered ≡ old.answered → new.log.issued ≡ old.log.issued ++ issued → new.log.replies ≡ old.log.replies ++ replies
    → exchanged (take new.answered new.log.issued) (take new.answered new.log.replies) ≡ exchanged (take old.answered old.log.issued)
    (take old.answered old.log.replies)
kept old new issued replies is all same issued_is replies_are = grind (arith, common_steps)

left_is : {F : Type 0} (old new : WorldValue F) {request : List ℕ} → length old.log.issued ≡ old.answered → new.answered ≡ old.answered
    → new.log.issued ≡ old.log.issued ++ request ∷ [] → slice_get new.log.issued new.answered ≡ Some request
left_is old new {request} all same issued = subst (λ n. slice_get new.log.issued n ≡ Some request) (all ∙ sym same)
    (ap (λ (l : List (List ℕ)). slice_get l (length old.log.issued)) issued ∙ slice_get-last old.log.issued)

pub talk-broke : {F : Type 0} (contents : F → Option FileMap) (moments : F → Moments) (paths : F → Option (List (List ℕ))) (faults : F → ℕ)
    (old new : WorldValue F) {request : List ℕ} (went : RequestReach) → IsLog old.log old.answered → length old.log.issued ≡ old.answered
    → new.answered ≡ old.answered → WentTo contents moments paths faults went old.server new.server old.log new.log request
    → LacksAnswer (Some (world_talk old)) request (Some (world_talk new))
talk-broke contents moments paths faults old new Unsent is all same went =
    inl (ap Some (same_talk
    went.0.ran (λ i. exchanged (take (same i) ((went.1 i).issued)) (take (same i) ((went.1 i).replies))) (λ i. slice_get ((went.1 i).issued) (same i))))
talk-broke contents moments paths faults old new {request} Sent is all same went =
    let issued : new.log.issued ≡ old.log.issued ++ request ∷ [] = ap (λ l. l.issued) went.1 in
    let replies : new.log.replies ≡ old.log.replies ++ [] = ap (λ l. l.replies) went.1 ∙ sym (append-nil old.log.replies) in
    inr (record {
      device = new.server.device;
      step = inl went.0.ran;
      none_left = slice_get_past old.log.issued old.answered (omega (arith, all));
      is = ap Some (same_talk refl
          (kept old new (request ∷ []) [] is all same issued replies) (left_is old new all same issued));
    })
talk-broke contents moments paths faults old new {request} (Served reply) is all same went =
    let issued : new.log.issued ≡ old.log.issued ++ request ∷ [] = ap (λ l. l.issued) went.1 in
    let replies : new.log.replies ≡ old.log.replies ++ reply ∷ [] = ap (λ l. l.replies) went.1 in
    inr (record {
      device = new.server.device;
      step = inr (reply, one_step went.0.ran);
      none_left = slice_get_past old.log.issued old.answered (omega (arith, all));
      is = ap Some (same_talk refl
          (kept old new (request ∷ []) (reply ∷ []) is all same issued replies) (left_is old new all same issued));
    })
