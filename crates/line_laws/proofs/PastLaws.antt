use Rattle.line_laws.proofs.Names.{common_steps, rules, ◌≡◌, ◌⊎◌, ℕ, zero, suc, ◌+◌, ◌-◌, ◌≤◌, true, false, List, [], ◌∷◌, length, drop, Option, Some, None}
use Rattle.line_laws.proofs.Names.{refl, sym, ap, subst, ◌∙◌, arith, inl, inr, cond-true, cond-false, cases_Bool, both_ways, Key, FrameCourse, IsDataOf, IsAckOf}
use Rattle.line_laws.proofs.Names.{PastFrame, is_end, same_key, first, add, keys, said, acked, at, End, Handheld, Desktop, data_frame, ack_frame}

-- ---- keys

pub same_key-true : {x y : Key} → same_key x y ≡ true → x ≡ y
same_key-true test = search rules

pub same_key-same : (x : Key) → same_key x x ≡ true
same_key-same x = search rules

pub same_key-apart : {x y : Key} → (x ≡ y → ⊥) → same_key x y ≡ false
same_key-apart apart = search rules

-- ---- adding a key

pub add_new : {key : Key} (older : List Key) → (first older ≡ Some key → ⊥) → add (Some key) older ≡ key ∷ older
add_new [] apart = refl
add_new (newest ∷ older) apart = cond-false _ _ _ (same_key-apart (λ same. apart (ap Some (sym same))))

pub first_is : (keys : List Key) {key : Key} → first keys ≡ Some key → (older : List Key) × (keys ≡ key ∷ older)
first_is [] none = absurd cc
first_is (newest ∷ older) {key} is = let e : newest ≡ key = cc in (older, ap (λ k. k ∷ older) e)

pub add_first : {key : Key} {keys : List Key} → first keys ≡ Some key → add (Some key) keys ≡ keys
add_first is = search rules

-- adding leaves the keys, or puts one before them that isn't the newest
pub record IsPut (older all : List Key) : Type 0 where
  pub key : Key
  pub apart : first older ≡ Some key → ⊥
  pub is : all ≡ key ∷ older

pub add_either : (picked : Option Key) (older : List Key) → (add picked older ≡ older) ⊎ IsPut older (add picked older)
add_either None older = inl refl
add_either (Some key) [] = inr (record { key = key; apart = λ e. absurd cc; is = refl })
add_either (Some key) (newest ∷ older) = elim (cases_Bool (same_key key newest)) [
  | inl same ↦ inl (cond-true _ _ _ same)
  | inr differ ↦ inr (record {
    key = key;
    apart = λ e. (let same : newest ≡ key = cc in both_ways _ differ (ap (λ k. same_key key k) same ∙ same_key-same key));
    is = cond-false _ _ _ differ;
  })
]

-- ---- the end of a list

pub record Ends (short long : List Key) : Type 0 where
  pub count : ℕ
  pub is : short ≡ drop count long
  pub fits : count + length short ≡ length long

pub ends_all : {short long : List Key} → Ends short long → length short ≡ length long → short ≡ long
ends_all ends same = search rules

pub ends_tail : {short : List Key} (key : Key) {long : List Key} → Ends short (key ∷ long) → length short ≡ length long → short ≡ long
ends_tail key ends same = search rules

-- ---- the past

pub keys_end : (pick : PastFrame → Option Key) (n : ℕ) (past : List PastFrame) → Ends (keys pick (drop n past)) (keys pick past)
keys_end pick zero past = record { count = 0; is = refl; fits = omega arith }
keys_end pick (suc n) [] = record { count = 0; is = refl; fits = omega arith }
keys_end pick (suc n) (frame ∷ past) =
    let ends = keys_end pick n past in
    elim (add_either (pick frame) (keys pick past)) [
      | inl same ↦ record { count = ends.count; is = ends.is ∙ ap (λ s. drop ends.count s) (sym same); fits = ends.fits ∙ ap length (sym same) }
      | inr more ↦ record {
        count = suc ends.count;
        is = ends.is ∙ ap (λ s. drop (suc ends.count) s) (sym more.is);
        fits = omega (arith, ends.fits, ap length more.is);
      }
    ]

pub length-at : (n : ℕ) (past : List PastFrame) → n ≤ length past → length (at n past) ≡ n
length-at n past inside = grind (arith, common_steps)

pub at_all : (past : List PastFrame) → at (length past) past ≡ past
at_all past = search rules

pub at_push : {n : ℕ} (frame : PastFrame) (past : List PastFrame) → n ≤ length past → at n (frame ∷ past) ≡ at n past
at_push frame past inside = search rules

pub at_at : {m n : ℕ} (past : List PastFrame) → m ≤ n → n ≤ length past → drop (n - m) (at n past) ≡ at m past
at_at past below inside = grind (arith, common_steps)

pub keys_end_at : (pick : PastFrame → Option Key) {m n : ℕ} (past : List PastFrame) → m ≤ n → n ≤ length past → Ends (keys pick (at m past)) (keys pick (at n past))
keys_end_at pick {m} {n} past below inside =
    subst (λ s. Ends (keys pick s) (keys pick (at n past))) (at_at past below inside) (keys_end pick (n - m) (at n past))

pub keys_end_all : (pick : PastFrame → Option Key) (n : ℕ) (past : List PastFrame) → Ends (keys pick (at n past)) (keys pick past)
keys_end_all pick n past = keys_end pick (length past - n) past

pub keys_grow : (pick : PastFrame → Option Key) {m n : ℕ} (past : List PastFrame) → m ≤ n → n ≤ length past
    → length (keys pick (at m past)) ≤ length (keys pick (at n past))
keys_grow pick past below inside = let ends = keys_end_at pick past below inside in omega arith

pub keys_below : (pick : PastFrame → Option Key) (n : ℕ) (past : List PastFrame) → length (keys pick (at n past)) ≤ length (keys pick past)
keys_below pick n past = let ends = keys_end_all pick n past in omega arith

-- two keys in a row differ
pub keys_apart : (pick : PastFrame → Option Key) (past : List PastFrame) {key : Key} {older : List Key} → keys pick past ≡ key ∷ older → first older ≡ Some key → ⊥
keys_apart pick [] is same = absurd cc
keys_apart pick (frame ∷ past) {key} {older} is same = elim (add_either (pick frame) (keys pick past)) [
  | inl stays ↦ keys_apart pick past (sym stays ∙ is) same
  | inr more ↦ (let e : more.key ∷ keys pick past ≡ key ∷ older = sym more.is ∙ is in let k : more.key ≡ key = cc in let o : keys pick past ≡ older = cc in
      more.apart (ap first o ∙ same ∙ ap Some (sym k)))
]

pub keys_push : (pick : PastFrame → Option Key) (frame : PastFrame) (past : List PastFrame) → length (keys pick past) ≤ length (keys pick (frame ∷ past))
keys_push pick frame past = search rules

-- ---- what a pushed frame changes

pub is_end-same : (X : End) → is_end X X ≡ true
is_end-same Handheld = refl
is_end-same Desktop = refl

pub said_data : (X : End) (key : Key) (bytes : List ℕ) (course : FrameCourse) (past : List PastFrame)
    → said X (data_frame X key bytes course ∷ past) ≡ add (Some key) (said X past)
said_data Handheld key bytes course past = refl
said_data Desktop key bytes course past = refl

pub said_data-other : (X Y : End) → is_end Y X ≡ false → (key : Key) (bytes : List ℕ) (course : FrameCourse) (past : List PastFrame)
    → said Y (data_frame X key bytes course ∷ past) ≡ said Y past
said_data-other Handheld Handheld apart key bytes course past = absurd cc
said_data-other Desktop Desktop apart key bytes course past = absurd cc
said_data-other Handheld Desktop apart key bytes course past = refl
said_data-other Desktop Handheld apart key bytes course past = refl

pub acked_data : (X Y : End) (key : Key) (bytes : List ℕ) (course : FrameCourse) (past : List PastFrame) → acked Y (data_frame X key bytes course ∷ past) ≡ acked Y past
acked_data Handheld Handheld key bytes course past = refl
acked_data Desktop Desktop key bytes course past = refl
acked_data Handheld Desktop key bytes course past = refl
acked_data Desktop Handheld key bytes course past = refl

pub acked_ack : (X : End) (key : Key) (course : FrameCourse) (past : List PastFrame) → acked X (ack_frame X key course ∷ past) ≡ add (Some key) (acked X past)
acked_ack Handheld key course past = refl
acked_ack Desktop key course past = refl

pub acked_ack-other : (X Y : End) → is_end Y X ≡ false → (key : Key) (course : FrameCourse) (past : List PastFrame)
    → acked Y (ack_frame X key course ∷ past) ≡ acked Y past
acked_ack-other Handheld Handheld apart key course past = absurd cc
acked_ack-other Desktop Desktop apart key course past = absurd cc
acked_ack-other Handheld Desktop apart key course past = refl
acked_ack-other Desktop Handheld apart key course past = refl

pub said_ack : (X Y : End) (key : Key) (course : FrameCourse) (past : List PastFrame) → said Y (ack_frame X key course ∷ past) ≡ said Y past
said_ack Handheld Handheld key course past = refl
said_ack Desktop Desktop key course past = refl
said_ack Handheld Desktop key course past = refl
said_ack Desktop Handheld key course past = refl

-- the newest key of a past that begins with this frame is that frame's
pub first_said : (X : End) (frame : PastFrame) (past : List PastFrame) → IsDataOf X frame → first (said X (frame ∷ past)) ≡ Some (frame.key)
first_said X frame past is = search rules

pub first_acked : (X : End) (frame : PastFrame) (past : List PastFrame) → IsAckOf X frame → first (acked X (frame ∷ past)) ≡ Some (frame.key)
first_acked X frame past is = search rules
