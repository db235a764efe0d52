-- The text of handles: with one more, after one is set, and where it ends.
use Rattle.std.proofs.Common.{◌≡◌, ◌≢◌, ◌∙◌, ℕ, zero, suc, ◌+◌, ◌-◌, ◌<◌, ◌≤◌, ◌^◌, List, [], ◌∷◌, ◌++◌, length, get_or, drop, ◌/◌, ◌%◌, Option, Some, None, refl, sym, ap, subst, ⊎_elim, arith}
use Rattle.std.specs.Prelude.{slice_get}
use Rattle.std.proofs.lemmas.Grind.{common_steps}
use Rattle.std.proofs.lemmas.Bool.{cases_eq}
use Rattle.std.proofs.lemmas.Bool.Decides.{nat_tests}
use Rattle.std.proofs.lemmas.List.{append_assoc, append-nil, ext_get_or, get_or-set_same, get_or-set_other}
use Rattle.palm_device.specs.Handles.{joined, opened_at, with_handle}
use Rattle.palm_device.specs.declared.opened.Opened.{Opened}
use Rattle.device_state.specs.Strings.{string_text}
use Rattle.device_state.specs.Opened.{IsNamed, handles_text, opened_text}
use Rattle.device_state.proofs.TalkStringLaws.{string_end, string_next}

-- the string of a handle
abbrev pub handle_text : ℕ → List (Option Opened) → List ℕ
handle_text handle handles = string_text (opened_text (opened_at handle handles))

-- ---- what stands under a handle

joined_at : (slots : List (Option Opened)) (place : ℕ) → joined (slice_get slots place) ≡ get_or slots place None
joined_at [] place = refl
joined_at (slot ∷ slots) zero = refl
joined_at (slot ∷ slots) (suc place) = joined_at slots place

pub opened_at-place : (handle : ℕ) (handles : List (Option Opened)) → 0 < handle → opened_at handle handles ≡ get_or handles (handle - 1) None
opened_at-place handle handles some = grind (arith, nat_tests, common_steps, joined_at)

pub opened_at-set_same : (handle : ℕ) (slot : Option Opened) (handles : List (Option Opened)) → 0 < handle → handle ≤ length handles
    → opened_at handle (with_handle handle slot handles) ≡ slot
opened_at-set_same handle slot handles some within =
    opened_at-place handle (with_handle handle slot handles) some ∙ get_or-set_same handles (handle - 1) slot None (omega arith)

pub opened_at-set_other : (other handle : ℕ) (slot : Option Opened) (handles : List (Option Opened)) → 0 < other → 0 < handle → other ≢ handle
    → opened_at other (with_handle handle slot handles) ≡ opened_at other handles
opened_at-set_other other handle slot handles some some' apart =
    opened_at-place other (with_handle handle slot handles) some
    ∙ (get_or-set_other handles (handle - 1) (other - 1) slot None (omega arith) ∙ sym (opened_at-place other handles some))

-- what is open is known by its bytes
opened_text-injective : (x y : Option Opened) → opened_text x ≡ opened_text y → x ≡ y
opened_text-injective None None same = refl
opened_text-injective None (Some y) same = absurd (omega (arith, ap length same))
opened_text-injective (Some x) None same = absurd (omega (arith, ap length same))
opened_text-injective (Some x) (Some y) same =
    let high : x.next / 256 ≡ y.next / 256 = ap (λ (t : List ℕ). get_or t 1 0) same in
    let low : x.next % 256 ≡ y.next % 256 = ap (λ (t : List ℕ). get_or t 2 0) same in
    let next : x.next ≡ y.next = omega arith in
    let mode : x.mode ≡ y.mode = ap (λ (t : List ℕ). get_or t 0 0) same in
    let name : x.name ≡ y.name = ap (λ (t : List ℕ). drop 3 t) same in
    λ i. Some (record { name = name i; mode = mode i; next = next i })

-- ---- one more handle

pub handles_text-none : (first : ℕ) (handles : List (Option Opened)) → handles_text first 0 handles ≡ []
unfolding handles_text
handles_text-none first handles = refl

pub handles_text-front : (first count : ℕ) (handles : List (Option Opened))
    → handles_text first (suc count) handles ≡ handle_text first handles ++ handles_text (first + 1) count handles
unfolding handles_text
handles_text-front first count handles = refl

pub handles_text-push : (first count last : ℕ) (handles : List (Option Opened)) → first + count ≡ last
    → handles_text first (suc count) handles ≡ handles_text first count handles ++ handle_text last handles
handles_text-push first zero last handles is =
    handles_text-front first 0 handles ∙ (ap (λ t. handle_text first handles ++ t) (handles_text-none (first + 1) handles)
    ∙ (append-nil (handle_text first handles) ∙ (ap (λ n. handle_text n handles) (omega arith)
    ∙ ap (λ t. t ++ handle_text last handles) (sym (handles_text-none first handles)))))
handles_text-push first (suc count) last handles is =
    handles_text-front first (suc count) handles
    ∙ (ap (λ t. handle_text first handles ++ t) (handles_text-push (first + 1) count last handles (omega arith))
    ∙ (sym (append_assoc (handle_text first handles) (handles_text (first + 1) count handles) (handle_text last handles))
    ∙ ap (λ t. t ++ handle_text last handles) (sym (handles_text-front first count handles))))

-- the handles from one on, up to the last
pub handles_text-next : (first : ℕ) (handles : List (Option Opened)) → first ≤ 8
    → handles_text first (9 - first) handles ≡ handle_text first handles ++ handles_text (first + 1) (9 - (first + 1)) handles
handles_text-next first handles within =
    ap (λ n. handles_text first n handles) (omega arith) ∙ handles_text-front first (9 - (first + 1)) handles

-- a handle that is set behind them
pub handles_text-set : (first count handle : ℕ) (slot : Option Opened) (handles : List (Option Opened)) → 0 < first → first + count ≤ handle
    → handles_text first count (with_handle handle slot handles) ≡ handles_text first count handles
handles_text-set first zero handle slot handles some below =
    handles_text-none first (with_handle handle slot handles) ∙ sym (handles_text-none first handles)
handles_text-set first (suc count) handle slot handles some below =
    let here = opened_at-set_other first handle slot handles some (omega arith) (omega arith) in
    let rest = handles_text-set (first + 1) count handle slot handles (omega arith) (omega arith) in
    handles_text-front first count (with_handle handle slot handles)
    ∙ (ap (λ o. string_text (opened_text o) ++ handles_text (first + 1) count (with_handle handle slot handles)) here
    ∙ (ap (λ t. handle_text first handles ++ t) rest ∙ sym (handles_text-front first count handles)))

-- ---- where a handle ends

-- bytes that begin with the text of the handles from one on begin with its string
pub handle_begins : (first : ℕ) (handles : List (Option Opened)) (rest : List ℕ) {bytes : List ℕ} → first ≤ 8
    → bytes ≡ handles_text first (9 - first) handles ++ rest
    → bytes ≡ handle_text first handles ++ (handles_text (first + 1) (9 - (first + 1)) handles ++ rest)
handle_begins first handles rest within is =
    is ∙ (ap (λ t. t ++ rest) (handles_text-next first handles within)
    ∙ append_assoc (handle_text first handles) (handles_text (first + 1) (9 - (first + 1)) handles) rest)

pub handle_end : (first : ℕ) (handles : List (Option Opened)) (string behind rest : List ℕ) {bytes : List ℕ} → first ≤ 8 → length bytes < 2 ^ 64
    → bytes ≡ string_text string ++ behind → bytes ≡ handles_text first (9 - first) handles ++ rest
    → (string ≡ opened_text (opened_at first handles)) × (behind ≡ handles_text (first + 1) (9 - (first + 1)) handles ++ rest)
handle_end first handles string behind rest within short found is =
    string_end string (opened_text (opened_at first handles)) behind (handles_text (first + 1) (9 - (first + 1)) handles ++ rest)
    (omega (arith, ap length found)) (sym found ∙ handle_begins first handles rest within is)

-- ---- a handle more is read

pub handles_text-more : (handle : ℕ) (slot : Option Opened) (handles : List (Option Opened)) (behind : List ℕ) {bytes string rest : List ℕ}
    → 0 < handle → handle ≤ 8 → length handles ≡ 8 → bytes ≡ handles_text 1 (handle - 1) handles ++ rest → rest ≡ string_text string ++ behind
    → string ≡ opened_text slot → bytes ≡ handles_text 1 (handle + 1 - 1) (with_handle handle slot handles) ++ behind
handles_text-more handle slot handles behind some within eight was found is =
    let after = with_handle handle slot handles in
    let before = handles_text-set 1 (handle - 1) handle slot handles (omega arith) (omega arith) in
    let here : handle_text handle after ≡ string_text (opened_text slot) =
    ap (λ o. string_text (opened_text o)) (opened_at-set_same handle slot handles some (omega arith)) in
    let more : handles_text 1 (handle + 1 - 1) after ≡ handles_text 1 (handle - 1) handles ++ string_text (opened_text slot) =
    ap (λ n. handles_text 1 n after) (omega arith) ∙ (handles_text-push 1 (handle - 1) handle after (omega arith) ∙ cc) in
    was ∙ (ap (λ t. handles_text 1 (handle - 1) handles ++ t) (found ∙ ap (λ s. string_text s ++ behind) is)
    ∙ (sym (append_assoc (handles_text 1 (handle - 1) handles) (string_text (opened_text slot)) behind) ∙ ap (λ t. t ++ behind) (sym more)))

pub named_more : (handle : ℕ) (slot : Option Opened) (handles : List (Option Opened)) → 0 < handle → handle ≤ 8 → length handles ≡ 8 → IsNamed slot
    → ((k : ℕ) → 0 < k → k < handle → IsNamed (opened_at k handles))
    → (k : ℕ) → 0 < k → k < handle + 1 → IsNamed (opened_at k (with_handle handle slot handles))
named_more handle slot handles some within eight is each k low high =
    let P : Option Opened → Type 0 = IsNamed in
    ⊎_elim (λ same. subst P (sym (ap (λ n. opened_at n (with_handle handle slot handles)) same ∙ opened_at-set_same handle slot handles some (omega arith))) is)
    (λ apart. subst P (sym (opened_at-set_other k handle slot handles low some apart)) (each k low (omega arith)))
    (cases_eq k handle)

-- ---- a handle more is written

pub handles_text-written : (handle : ℕ) (handles : List (Option Opened)) (old : List ℕ) {written now : List ℕ} → 0 < handle
    → written ≡ old ++ handles_text 1 (handle - 1) handles → now ≡ written ++ handle_text handle handles
    → now ≡ old ++ handles_text 1 (handle + 1 - 1) handles
handles_text-written handle handles old some was more =
    let text : handles_text 1 (handle + 1 - 1) handles ≡ handles_text 1 (handle - 1) handles ++ handle_text handle handles =
    ap (λ n. handles_text 1 n handles) (omega arith) ∙ handles_text-push 1 (handle - 1) handle handles (omega arith) in
    more ∙ (ap (λ t. t ++ handle_text handle handles) was
    ∙ (append_assoc old (handles_text 1 (handle - 1) handles) (handle_text handle handles) ∙ ap (λ t. old ++ t) (sym text)))

pub named_next : (handle : ℕ) (handles : List (Option Opened)) → IsNamed (opened_at handle handles)
    → ((k : ℕ) → 0 < k → k < handle → IsNamed (opened_at k handles)) → (k : ℕ) → 0 < k → k < handle + 1 → IsNamed (opened_at k handles)
named_next handle handles is each k low high =
    let P : Option Opened → Type 0 = IsNamed in
    ⊎_elim (λ same. subst P (ap (λ n. opened_at n handles) (sym same)) is) (λ apart. each k low (omega arith)) (cases_eq k handle)

-- ---- two texts of handles

-- of one text, from a handle on, so many slots are the same, and what stands behind them
pub handles_text-end : (first count : ℕ) (x y : List (Option Opened)) (rest behind : List ℕ) → length (handles_text first count x ++ rest) < 2 ^ 64
    → handles_text first count x ++ rest ≡ handles_text first count y ++ behind
    → ((handle : ℕ) → first ≤ handle → handle < first + count → opened_at handle x ≡ opened_at handle y) × (rest ≡ behind)
handles_text-end first zero x y rest behind short same = (
  λ handle low high. absurd (omega arith),
  ap (λ t. t ++ rest) (sym (handles_text-none first x)) ∙ (same ∙ ap (λ t. t ++ behind) (handles_text-none first y)),
)
handles_text-end first (suc count) x y rest behind short same =
    let begins : (handles : List (Option Opened)) (end : List ℕ) → handles_text first (suc count) handles ++ end
    ≡ handle_text first handles ++ (handles_text (first + 1) count handles ++ end) =
    λ handles end. ap (λ t. t ++ end) (handles_text-front first count handles)
    ∙ append_assoc (handle_text first handles) (handles_text (first + 1) count handles) end in
    let cut = string_next (opened_text (opened_at first x)) (handles_text (first + 1) count x ++ rest) (opened_text (opened_at first y))
    (handles_text (first + 1) count y ++ behind) short (begins x rest) (same ∙ begins y behind) in
    let ends = handles_text-end (first + 1) count x y rest behind cut.2 cut.1 in (
      λ handle low high. ⊎_elim (λ is. ap (λ n. opened_at n x) is ∙ (opened_text-injective (opened_at first x) (opened_at first y) cut.0
          ∙ ap (λ n. opened_at n y) (sym is))) (λ apart. ends.0 handle (omega arith) (omega arith)) (cases_eq handle first),
      ends.1,
    )

-- eight handles are known by what is open under each
pub handles_are : (x y : List (Option Opened)) → length x ≡ 8 → length y ≡ 8
    → ((handle : ℕ) → 1 ≤ handle → handle < 1 + 8 → opened_at handle x ≡ opened_at handle y) → y ≡ x
handles_are x y eight eight' each =
    sym (ext_get_or None x y (eight ∙ sym eight') (λ place within.
    ap (λ n. get_or x n None) (omega arith) ∙ (sym (opened_at-place (place + 1) x (omega arith)) ∙ (each (place + 1) (omega arith) (omega arith)
    ∙ (opened_at-place (place + 1) y (omega arith) ∙ ap (λ n. get_or y n None) (omega arith))))))
