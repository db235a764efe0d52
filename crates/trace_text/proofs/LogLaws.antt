-- The frames that entries are: one more, and one that is marked.
use Rattle.std.proofs.Common.{◌≡◌, ℕ, zero, suc, ◌+◌, ◌-◌, ◌≤◌, false, true, List, [], ◌∷◌, ◌++◌, length, drop, refl, sym, ap, subst, ◌∙◌, arith, add-zero}
use Rattle.std.proofs.lemmas.List.{append_assoc, drop-append-le, length-append, length-drop, length-take, take-append-le}
use Rattle.std.proofs.Math.Seq.{drop-append_seam, take-length}
use Rattle.std.specs.Prelude.{Some, slice_get, slice_range, slice_set}
use Rattle.trace_text.specs.declared.fate.FateKind.{FateKind}
use Rattle.trace_text.specs.declared.fate.FateKind.TheVariants as kind
use Rattle.trace_text.specs.declared.frame.Frame.{Frame}
use Rattle.trace_text.specs.declared.frame_log.Entry.{Entry}
use Rattle.trace_text.specs.Fates.{fate_bytes, fate_value}
use Rattle.trace_text.specs.FrameEntries.{AllWithin, IsWithin, fate_at, frame_at, frames_in}
use Rattle.trace_text.specs.FrameLogs.{Adds, byte_count, frame_size, marked}
use Rattle.trace_text.specs.Kinds.{kind_bytes, kind_count}
use Rattle.trace_text.specs.TraceLines.{frame_value}
use Rattle.trace_text.specs.Lent.{fate_with}

length_none : (xs : List ℕ) → length xs ≡ 0 → xs ≡ []
length_none [] none = refl
length_none (x ∷ xs) none = absurd (omega arith)

kind-count : (kind : FateKind) (bytes : List ℕ) → bytes ≡ kind_bytes kind bytes → kind_count kind (length bytes) ≡ length bytes
kind-count kind.Ok bytes none = sym (ap length none)
kind-count kind.Lost bytes none = sym (ap length none)
kind-count kind.Late bytes none = sym (ap length none)
kind-count (kind.Cut count) bytes none = sym (ap length none)
kind-count (kind.Hit place) bytes none = refl
kind-count kind.Noise bytes none = refl
kind-count kind.Unplug bytes none = sym (ap length none)
kind-count kind.Abort bytes none = sym (ap length none)

-- a fate without bytes
pub kind_none : (kind : FateKind) → [] ≡ kind_bytes kind []
kind_none kind.Ok = refl
kind_none kind.Lost = refl
kind_none kind.Late = refl
kind_none (kind.Cut count) = refl
kind_none (kind.Hit place) = refl
kind_none kind.Noise = refl
kind_none kind.Unplug = refl
kind_none kind.Abort = refl

pub fate-at : (kind : FateKind) (bytes : List ℕ) → fate_value (fate_at kind bytes) ≡ fate_with kind bytes
fate-at kind.Ok bytes = refl
fate-at kind.Lost bytes = refl
fate-at kind.Late bytes = refl
fate-at (kind.Cut count) bytes = refl
fate-at (kind.Hit place) bytes = refl
fate-at kind.Noise bytes = refl
fate-at kind.Unplug bytes = refl
fate-at kind.Abort bytes = refl

pub length-frames_in : (bytes : List ℕ) (number : ℕ) (entries : List Entry) → length (frames_in bytes number entries) ≡ length entries
length-frames_in bytes number [] = refl
length-frames_in bytes number (entry ∷ later) = ap suc (length-frames_in bytes (number + 1) later)

-- the frame at a place
pub frames_in-get : (bytes : List ℕ) (number : ℕ) (entries : List Entry) (n : ℕ) {entry : Entry} → slice_get entries n ≡ Some entry
    → slice_get (frames_in bytes number entries) n ≡ Some (frame_at bytes (number + n) entry)
frames_in-get bytes number [] n here = cc
frames_in-get bytes number (first ∷ later) zero here =
    ap (λ e. Some (frame_at bytes number e)) (some_is here) ∙ ap (λ m. Some (frame_at bytes m _)) (sym (add-zero number))
  where
    some_is : {x y : Entry} → Some x ≡ Some y → x ≡ y
    some_is is = cc
frames_in-get bytes number (first ∷ later) (suc n) {entry} here =
    let same : number + 1 + n ≡ number + suc n = omega arith in
    frames_in-get bytes (number + 1) later n here ∙ ap (λ m. Some (frame_at bytes m entry)) same

-- bytes behind those of the frames change nothing
slice-more : (bytes more : List ℕ) (a b : ℕ) → a ≤ b → b ≤ length bytes → slice_range (bytes ++ more) a b ≡ slice_range bytes a b
slice-more bytes more a b rise inside =
    let first : a ≤ length bytes = omega arith in
    let rest : b - a ≤ length (drop a bytes) = omega (arith, length-drop a bytes) in
    rw drop-append-le (rw take-append-le refl)

pub frames_in-more : (bytes more : List ℕ) (number from : ℕ) (entries : List Entry) → AllWithin from entries (length bytes)
    → frames_in (bytes ++ more) number entries ≡ frames_in bytes number entries
frames_in-more bytes more number from [] within = refl
frames_in-more bytes more number from (entry ∷ later) within =
    let it = within.1 in
    let fate = slice-more bytes more entry.start entry.middle it.rise (omega (arith, it.rise_on, it.inside)) in
    let own = slice-more bytes more entry.middle entry.end it.rise_on it.inside in
    rw (fate, own, frames_in-more bytes more (number + 1) entry.end later within.2) refl

-- one more
pub frames_in-push : (bytes : List ℕ) (number : ℕ) (entries : List Entry) (entry : Entry)
    → frames_in bytes number (entries ++ entry ∷ []) ≡ frames_in bytes number entries ++ frame_at bytes (number + length entries) entry ∷ []
frames_in-push bytes number [] entry = ap (λ m. frame_at bytes m entry ∷ []) (sym (add-zero number))
frames_in-push bytes number (first ∷ later) entry =
    let same : number + 1 + length later ≡ number + suc (length later) = omega arith in
    ap (λ (fs : List Frame). frame_at bytes number first ∷ fs) (frames_in-push bytes (number + 1) later entry
    ∙ ap (λ m. frames_in bytes (number + 1) later ++ frame_at bytes m entry ∷ []) same)

is_within-more : {count more : ℕ} {entry : Entry} → count ≤ more → IsWithin count entry → IsWithin more entry
is_within-more fits it =
    record { rise = it.rise; rise_on = it.rise_on; inside = omega (arith, fits, it.inside); fate_short = it.fate_short; short = it.short; fits = it.fits }

pub within-push : (from count : ℕ) (entries : List Entry) (entry : Entry) → AllWithin from entries count → entry.start ≡ count → IsWithin entry.end entry
    → count ≤ entry.end → AllWithin from (entries ++ entry ∷ []) entry.end
within-push from count [] entry within start one fits = (start ∙ sym within, one, refl)
within-push from count (first ∷ later) entry within start one fits =
    (within.0, is_within-more fits within.1, within-push first.end count later entry within.2 start one fits)

pub within_at : (from count : ℕ) (entries : List Entry) (n : ℕ) {entry : Entry} → AllWithin from entries count → slice_get entries n ≡ Some entry
    → IsWithin count entry
within_at from count [] n within here = absurd cc
within_at from count (first ∷ later) zero {entry} within here = (let same : first ≡ entry = cc in subst (IsWithin count) same within.1)
within_at from count (first ∷ later) (suc n) within here = within_at first.end count later n within.2 here

-- how many bytes the frames have
fate-count : (kind : FateKind) (bytes : List ℕ) → length (fate_bytes (fate_value (fate_at kind bytes))) ≡ kind_count kind (length bytes)
fate-count kind.Ok bytes = refl
fate-count kind.Lost bytes = refl
fate-count kind.Late bytes = refl
fate-count (kind.Cut count) bytes = refl
fate-count (kind.Hit place) bytes = refl
fate-count kind.Noise bytes = refl
fate-count kind.Unplug bytes = refl
fate-count kind.Abort bytes = refl

length-slice_range : (bytes : List ℕ) (a b : ℕ) → b ≤ length bytes → length (slice_range bytes a b) ≡ b - a
length-slice_range bytes a b inside = omega (arith, length-take (b - a) (drop a bytes), length-drop a bytes, inside)

size-in : (bytes : List ℕ) (number : ℕ) (entry : Entry) → IsWithin (length bytes) entry
    → frame_size (frame_value (frame_at bytes number entry)) + entry.start ≡ entry.end
size-in bytes number entry it =
    let fate : length (slice_range bytes entry.start entry.middle) ≡ entry.middle - entry.start =
    length-slice_range bytes entry.start entry.middle (omega (arith, it.rise_on, it.inside)) in
    let first : length (fate_bytes (fate_value (fate_at entry.kind (slice_range bytes entry.start entry.middle)))) ≡ entry.middle - entry.start =
    fate-count entry.kind (slice_range bytes entry.start entry.middle) ∙ (ap (kind_count entry.kind) fate ∙ it.fits) in
    omega (arith, first, length-slice_range bytes entry.middle entry.end it.inside, it.rise, it.rise_on)

pub count-in : (bytes : List ℕ) (number from : ℕ) (entries : List Entry) → AllWithin from entries (length bytes)
    → byte_count (frames_in bytes number entries) + from ≡ length bytes
count-in bytes number from [] within = omega (arith, within)
count-in bytes number from (entry ∷ later) within =
    omega (arith, size-in bytes number entry within.1, count-in bytes (number + 1) entry.end later within.2, within.0)

-- one that is marked
pub frames_in-marked : (bytes : List ℕ) (number : ℕ) (entries : List Entry) (n : ℕ) {entry : Entry} → slice_get entries n ≡ Some entry
    → frames_in bytes number (slice_set entries n (record entry { came = true })) ≡ marked n (frames_in bytes number entries)
frames_in-marked bytes number [] n here = absurd cc
frames_in-marked bytes number (first ∷ later) zero {entry} here =
    let same : entry ≡ first = cc in
    ap (λ (e : Entry). record (frame_at bytes number e) { came = true } ∷ frames_in bytes (number + 1) later) same
frames_in-marked bytes number (first ∷ later) (suc n) here =
    ap (λ (fs : List Frame). frame_at bytes number first ∷ fs) (frames_in-marked bytes (number + 1) later n here)

pub within_marked : (from count : ℕ) (entries : List Entry) (n : ℕ) {entry : Entry} → slice_get entries n ≡ Some entry → AllWithin from entries count
    → AllWithin from (slice_set entries n (record entry { came = true })) count
within_marked from count [] n here within = absurd cc
within_marked from count (first ∷ later) zero {entry} here within =
    let same : first ≡ entry = cc in
    let it = subst (IsWithin count) same within.1 in (
      ap (λ (e : Entry). e.start) (sym same) ∙ within.0,
      record { rise = it.rise; rise_on = it.rise_on; inside = it.inside; fate_short = it.fate_short; short = it.short; fits = it.fits },
      subst (λ (e : Entry). AllWithin e.end later count) same within.2,
    )
within_marked from count (first ∷ later) (suc n) here within = (within.0, within.1, within_marked first.end count later n here within.2)

-- one more frame whose bytes stand behind the others
slice-seam : {X : Type 0} (xs ys zs : List X) (a b : ℕ) → a ≡ length xs → b ≡ length xs + length ys → slice_range (xs ++ ys ++ zs) a b ≡ ys
slice-seam xs ys zs a b from to =
    let count : b - a ≡ length ys = omega arith in
    let inside : length ys ≤ length (ys ++ zs) = omega (arith, length-append ys zs) in
    rw (count, from, append_assoc, drop-append_seam) (take-append-le (length ys) ys zs (omega arith) ∙ take-length ys)

-- its places, behind so many bytes
pub record Behind (bytes fate own : List ℕ) (entry : Entry) : Type 0 where
  pub start_is : entry.start ≡ length bytes
  pub middle_is : entry.middle ≡ length bytes + length fate
  pub end_is : entry.end ≡ length bytes + length fate + length own
  pub came_is : entry.came ≡ false

module _ {bytes fate own : List ℕ} {entry : Entry} where
  pub log-adds : (entries : List Entry) → Behind bytes fate own entry → AllWithin 0 entries (length bytes)
      → Adds entry.from (fate_with entry.kind fate) own (frames_in bytes 1 entries) (frames_in (bytes ++ fate ++ own) 1 (entries ++ entry ∷ []))
  log-adds entries it within =
      let all = bytes ++ fate ++ own in
      let older : frames_in all 1 entries ≡ frames_in bytes 1 entries =
      ap (λ b. frames_in b 1 entries) (append_assoc bytes fate own) ∙ frames_in-more bytes (fate ++ own) 1 0 entries within in
      let first : slice_range all entry.start entry.middle ≡ fate = slice-seam bytes fate own entry.start entry.middle it.start_is it.middle_is in
      let last : slice_range all entry.middle entry.end ≡ own = slice_last all (bytes ++ fate) own _ _ refl
      (it.middle_is ∙ sym (length-append bytes fate)) (it.end_is ∙ ap (λ n. n + length own) (sym (length-append bytes fate))) in
      let number : 1 + length entries ≡ length (frames_in bytes 1 entries) + 1 = omega (arith, length-frames_in bytes 1 entries) in
      record {
        frame = frame_at all (1 + length entries) entry;
        is = frames_in-push all 1 entries entry ∙ ap (λ (fs : List Frame). fs ++ frame_at all (1 + length entries) entry ∷ []) older;
        number_is = number;
        from_is = refl;
        fate_is = fate-at entry.kind (slice_range all entry.start entry.middle) ∙ ap (fate_with entry.kind) first;
        came_is = it.came_is;
        bytes_are = last;
      }
    where
      slice_last : (all xs ys : List ℕ) (a b : ℕ) → all ≡ xs ++ ys → a ≡ length xs → b ≡ length xs + length ys → slice_range all a b ≡ ys
      slice_last all xs ys a b is from to =
          let count : b - a ≡ length ys = omega arith in
          rw (is, count, from, drop-append_seam) (take-length ys)

  pub log-within : (entries : List Entry) (count : ℕ) → Behind bytes fate own entry → AllWithin 0 entries (length bytes)
      → length fate ≤ 1040 → fate ≡ kind_bytes entry.kind fate → length own ≤ 1040 → count ≡ length bytes + length fate + length own
      → AllWithin 0 (entries ++ entry ∷ []) count
  log-within entries count it within fate_short fits short is =
      let span : entry.middle - entry.start ≡ length fate = omega (arith, it.start_is, it.middle_is) in
      subst (AllWithin 0 (entries ++ entry ∷ [])) (it.end_is ∙ sym is) (within-push 0 (length bytes) entries entry within it.start_is (record {
        rise = omega (arith, it.start_is, it.middle_is);
        rise_on = omega (arith, it.end_is, it.middle_is);
        inside = omega arith;
        fate_short = omega (arith, it.start_is, it.middle_is);
        short = omega (arith, it.end_is, it.middle_is);
        fits = ap (kind_count entry.kind) span ∙ (kind-count entry.kind fate fits ∙ sym span);
      }) (omega (arith, it.end_is)))
