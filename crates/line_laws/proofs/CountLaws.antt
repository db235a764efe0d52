-- One direction of the line over the steps.
use Rattle.line_laws.proofs.Names.{rules, ◌≡◌, ◌⊎◌, ℕ, suc, ◌+◌, ◌<◌, ◌≤◌, Bool, true, false, cond, List, ◌∷◌, length, Some, refl, sym, ap, subst, ◌∙◌, arith}
use Rattle.line_laws.proofs.Names.{inl, inr, cases_lt, Key, PastFrame, first, data_of, ack_of, said, acked, at, IsDataOf, IsAckOf, End, Follows, Fits, AllFit}
use Rattle.line_laws.proofs.Names.{Counts}
use Rattle.line_laws.proofs.PastLaws.{at_all, at_push, keys_grow, keys_below, keys_push, keys_apart, keys_end_all, first_said, first_acked, first_is, ends_all}
use Rattle.line_laws.proofs.PastLaws.{ends_tail, Ends}

-- ---- all fit

pub fits_now : {X : End} {a s cur : ℕ} {past : List PastFrame} → cur ≤ length past → AllFit X a s cur past → Fits X a s past
fits_now inside all = search rules

pub all_fit-push : {X : End} {a s cur : ℕ} {frame : PastFrame} {past : List PastFrame} → AllFit X a s cur past → Fits X a s (frame ∷ past)
    → AllFit X a s cur (frame ∷ past)
all_fit-push {X} {a} {s} {frame} {past} all now n from inside = elim (cases_lt (length past) n) [
  | inl new ↦ (let e : n ≡ length (frame ∷ past) = omega arith in subst (λ p. Fits X a s p) (sym (ap (λ k. at k (frame ∷ past)) e ∙ at_all (frame ∷ past))) now)
  | inr old ↦ subst (λ p. Fits X a s p) (sym (at_push frame past old)) (all n from old)
]

-- the fragment of frame `later` is taken
pub all_fit-taken : {X : End} {a s cur later : ℕ} (past : List PastFrame) → cur ≤ later → AllFit X a s cur past → a < length (said X (at later past))
    → length (said X past) ≤ suc a → AllFit X (suc a) s later past
all_fit-taken {X} past more all fresh most n from inside =
    let was = all n (omega arith) inside in
    let grows = keys_grow (data_of X) past from inside in
    let below = keys_below (data_of X) n past in
    record { taken = omega (arith, grows); known = was.known; begun = λ over. absurd (omega (arith, below)) }

-- the other end, which knows all, begins a fragment
pub all_fit-begun : {X : End} {a s cur : ℕ} (past : List PastFrame) → AllFit X a s cur past → s ≤ length (acked X (at cur past)) → length (said X past) ≡ a
    → AllFit X a (suc s) cur past
all_fit-begun {X} past all caught none n from inside =
    let was = all n from inside in
    let grows = keys_grow (ack_of X) past from inside in
    let below = keys_below (data_of X) n past in
    record { taken = was.taken; known = omega (arith, grows); begun = λ over. absurd (omega (arith, below)) }

-- ---- the counts

pub follows-length : (said acked : List Key) (fresh : Bool) → Follows said acked fresh → length said ≡ length acked + cond fresh 1 0
follows-length said acked false follows = omega (arith, ap length follows)
follows-length said acked true follows = omega (arith, ap length follows.1)

-- a frame that changes nothing but what X acknowledged
pub counts_push : {X Y : End} {frame : PastFrame} {past : List PastFrame} {fresh : Bool} {cur : ℕ} → Counts X Y past fresh cur
    → said X (frame ∷ past) ≡ said X past → said Y (frame ∷ past) ≡ said Y past → acked Y (frame ∷ past) ≡ acked Y past
    → Counts X Y (frame ∷ past) fresh cur
counts_push {X} {Y} {frame} {past} {cur} counts sx sy ay =
    let now = fits_now counts.cur_in counts.fits in
    let more = keys_push (ack_of X) frame past in
    let len = ap length sx in
    let fits : Fits X (length (acked Y past)) (length (said Y past)) (frame ∷ past) = record
    { taken = omega (arith, now.taken, len); known = omega (arith, now.known, more); begun = λ over. omega (arith, now.begun (omega (arith, len)), more) } in
    let all = all_fit-push counts.fits fits in
    record {
      follows = rw (sx, ay) counts.follows;
      cur_in = omega (arith, counts.cur_in);
      fits = subst (λ k. AllFit X k (length (said Y (frame ∷ past))) cur (frame ∷ past)) (ap length (sym ay))
          (subst (λ k. AllFit X (length (acked Y past)) k cur (frame ∷ past)) (ap length (sym sy)) all);
    }

pub counts_later : {X Y : End} {past : List PastFrame} {fresh : Bool} {cur later : ℕ} → Counts X Y past fresh cur → cur ≤ later → later ≤ length past
    → Counts X Y past fresh later
counts_later counts more inside = search rules

pub all_fit-is : {X : End} {a s c d cur : ℕ} (past : List PastFrame) → a ≡ c → s ≡ d → AllFit X a s cur past → AllFit X c d cur past
all_fit-is past ac sd all = search rules

pub len : {s t : List Key} → s ≡ t → length s ≡ length t
len e = ap length e

-- Y took the newest fragment of X, in frame n, and acknowledges it
pub counts_accept : {X Y : End} {frame : PastFrame} {past : List PastFrame} {cur n : ℕ} → Counts X Y past true cur → cur ≤ n → n ≤ length past
    → length (acked Y past) < length (said X (at n past))
    → said X (frame ∷ past) ≡ said X past → said Y (frame ∷ past) ≡ said Y past → acked X (frame ∷ past) ≡ acked X past
    → acked Y (frame ∷ past) ≡ said X past → Counts X Y (frame ∷ past) false n
counts_accept {X} {Y} {frame} {past} counts from inside fresh sx sy ax ay =
    let follows = follows-length _ _ true counts.follows in
    let all = all_fit-taken past from counts.fits fresh (omega (arith, follows)) in
    let now = fits_now inside all in
    let s = len sx in
    let a = len ax in
    let fits : Fits X (suc (length (acked Y past))) (length (said Y past)) (frame ∷ past) = record
    { taken = omega (arith, now.taken, s); known = omega (arith, now.known, a); begun = λ over. omega (arith, now.begun (omega (arith, s)), a) } in
    record {
      follows = sx ∙ sym ay;
      cur_in = omega arith;
      fits = all_fit-is (frame ∷ past) (omega (arith, follows, len ay)) (sym (len sy)) (all_fit-push all fits);
    }

-- X, which knows all, begins a fragment
pub counts_begin : {X Y : End} {key : Key} {frame : PastFrame} {past : List PastFrame} {cur : ℕ} → Counts X Y past false cur
    → length (said Y past) ≤ length (acked X past)
    → said X (frame ∷ past) ≡ key ∷ said X past → said Y (frame ∷ past) ≡ said Y past → acked X (frame ∷ past) ≡ acked X past
    → acked Y (frame ∷ past) ≡ acked Y past → Counts X Y (frame ∷ past) true cur
counts_begin {X} {Y} {key} {frame} {past} counts knows sx sy ax ay =
    let now = fits_now counts.cur_in counts.fits in
    let s = len sx in
    let a = len ax in
    let fits : Fits X (length (acked Y past)) (length (said Y past)) (frame ∷ past) =
    record { taken = omega (arith, now.taken, s); known = omega (arith, now.known, a); begun = λ over. omega (arith, knows, a) } in
    record {
      follows = (key, sx ∙ ap (λ k. key ∷ k) (counts.follows ∙ sym ay));
      cur_in = omega (arith, counts.cur_in);
      fits = all_fit-is (frame ∷ past) (sym (len ay)) (sym (len sy)) (all_fit-push counts.fits fits);
    }

-- the direction from X, where the other end begins a fragment
pub counts_begun : {X Y : End} {key : Key} {frame : PastFrame} {past : List PastFrame} {cur : ℕ} → Counts X Y past false cur
    → length (said Y past) ≤ length (acked X (at cur past))
    → said Y (frame ∷ past) ≡ key ∷ said Y past → said X (frame ∷ past) ≡ said X past → acked X (frame ∷ past) ≡ acked X past
    → acked Y (frame ∷ past) ≡ acked Y past → Counts X Y (frame ∷ past) false cur
counts_begun {X} {Y} {frame} {past} counts caught sy sx ax ay =
    let all = all_fit-begun past counts.fits caught (len counts.follows) in
    let now = fits_now counts.cur_in all in
    let s = len sx in
    let a = len ax in
    let fits : Fits X (length (acked Y past)) (suc (length (said Y past))) (frame ∷ past) = record
    { taken = omega (arith, now.taken, s); known = omega (arith, now.known, a); begun = λ over. omega (arith, now.begun (omega (arith, s)), a) } in
    record {
      follows = rw (sx, ay) counts.follows;
      cur_in = omega (arith, counts.cur_in);
      fits = all_fit-is (frame ∷ past) (sym (len ay)) (sym (len sy)) (all_fit-push all fits);
    }

-- ---- what stands on the line

-- the last fragment that was taken, once more
pub record IsCopy (X Y : End) (frame : PastFrame) (n : ℕ) (past : List PastFrame) : Type 0 where
  pub key : first (acked Y past) ≡ Some (frame.key)
  pub old : length (said X (at n past)) ≡ length (acked Y past)

-- the newest fragment, which wasn't taken
pub record IsNewest (X Y : End) (frame : PastFrame) (n : ℕ) (past : List PastFrame) (fresh : Bool) : Type 0 where
  pub is_fresh : fresh ≡ true
  pub key : first (said X past) ≡ Some (frame.key)
  pub newest : length (said X (at n past)) ≡ length (said X past)
  pub behind : length (acked Y past) < length (said X (at n past))

pub pending_data : {X Y : End} {past : List PastFrame} (fresh : Bool) {cur n : ℕ} {frame : PastFrame} {older : List PastFrame} → Counts X Y past fresh cur → cur ≤ n
    → n ≤ length past → at n past ≡ frame ∷ older → IsDataOf X frame
    → IsCopy X Y frame n past ⊎ IsNewest X Y frame n past fresh
pending_data {X} {past} false {n} {frame} {older} counts from inside here is =
    let fits = counts.fits n from inside in
    let ends = keys_end_all (data_of X) n past in
    let follows = follows-length _ _ false counts.follows in
    let same = ends_all ends (omega (arith, fits.taken, ends.fits)) in
    inl (record {
      key = ap first (sym counts.follows) ∙ ap first (sym same) ∙ ap (λ p. first (said X p)) here ∙ first_said X frame older is;
      old = omega (arith, fits.taken, ends.fits, follows);
    })
pending_data {X} {Y} {past} true {n} {frame} {older} counts from inside here is =
    let fits = counts.fits n from inside in
    let ends = keys_end_all (data_of X) n past in
    let follows = follows-length _ _ true counts.follows in
    let newest : first (said X (at n past)) ≡ Some frame.key = ap (λ p. first (said X p)) here ∙ first_said X frame older is in
    elim (cases_lt (length (acked Y past)) (length (said X (at n past)))) [
      | inl more ↦ (let e : length (said X (at n past)) ≡ length (said X past) = omega (arith, ends.fits, follows) in
          inr (record { is_fresh = refl; key = ap first (sym (ends_all ends e)) ∙ newest; newest = e; behind = more }))
      | inr few ↦ (let e : length (said X (at n past)) ≡ length (acked Y past) = omega (arith, fits.taken) in
          let tail = ends_tail counts.follows.0 (subst (λ s. Ends (said X (at n past)) s) counts.follows.1 ends) e in
          inl (record { key = ap first (sym tail) ∙ newest; old = e }))
    ]

ends_more : {short : List Key} {key : Key} {long : List Key} → Ends short long → Ends short (key ∷ long)
ends_more ends = record { count = suc ends.count; is = ends.is; fits = omega (arith, ends.fits) }

-- what X acknowledged in frame n ends what Y said
pub acked_ends : (X Y : End) (past : List PastFrame) (fresh : Bool) (n : ℕ) → Follows (said Y past) (acked X past) fresh → Ends (acked X (at n past)) (said Y past)
acked_ends X Y past false n follows = subst (λ s. Ends (acked X (at n past)) s) (sym follows) (keys_end_all (ack_of X) n past)
acked_ends X Y past true n follows = subst (λ s. Ends (acked X (at n past)) s) (sym follows.1) (ends_more (keys_end_all (ack_of X) n past))

-- an acknowledgement on the line that bears the newest key of Y acknowledges its newest fragment
pub pending_ack : {X : End} (Y : End) (past : List PastFrame) (fresh : Bool) {cur n : ℕ} {frame : PastFrame} {older : List PastFrame} {a : ℕ}
    → AllFit X a (length (said Y past)) cur past → Follows (said Y past) (acked X past) fresh → cur ≤ n → n ≤ length past → at n past ≡ frame ∷ older
    → IsAckOf X frame
    → first (said Y past) ≡ Some (frame.key) → length (said Y past) ≡ length (acked X (at n past))
pending_ack {X} Y past fresh {n} {frame} {older} all follows from inside here is matches =
    let fits = all n from inside in
    let ends = acked_ends X Y past fresh n follows in
    let newest : first (acked X (at n past)) ≡ Some frame.key = ap (λ p. first (acked X p)) here ∙ first_acked X frame older is in
    let said_is = first_is (said Y past) matches in
    elim (cases_lt (length (acked X (at n past))) (length (said Y past))) [
      | inl few ↦ (let e : length (acked X (at n past)) ≡ length said_is.0 = omega (arith, fits.known, len said_is.1) in
          let tail = ends_tail frame.key (subst (λ s. Ends (acked X (at n past)) s) said_is.1 ends) e in
          absurd (keys_apart (data_of Y) past said_is.1 (ap first (sym tail) ∙ newest)))
      | inr enough ↦ omega (arith, ends.fits)
    ]
