-- Each step of a running line makes its measure less.
use Rattle.line_laws.proofs.Names.{◌≡◌, ℕ, suc, ◌+◌, ◌-◌, ◌<◌, ◌≤◌, true, false, List, ◌∷◌, length, refl, arith, cond-true, cond-false, lt-ltb, le-ltb}
use Rattle.line_laws.proofs.Names.{and_from, Key, piece_count, comes, data_comes, FrameCourse, PastFrame, at, is_data_of, IsDataOf, End, Side, Waiting, data_frame}
use Rattle.line_laws.proofs.Names.{ack_frame, rest_tries, work, measure, left}
use Rattle.line_laws.proofs.LoadLaws.{load_push, load_sent, load_moves, load_takes, load_turned}
use Rattle.line_laws.proofs.TakeLaws.{acknowledged}
use Rattle.line_laws.proofs.TimeLaws.{ack_is_no_data}

-- ---- tries

pub rest-waits : (side : Side) (tries : ℕ) → Waiting side → rest_tries side tries ≡ 10 - tries
rest-waits side tries waits = cond-true _ _ _ (lt-ltb _ _ waits)

pub rest-idle : (side : Side) (tries : ℕ) → piece_count (length side.message) ≤ side.acknowledged → rest_tries side tries ≡ 0
rest-idle side tries idle = cond-false _ _ _ (le-ltb _ _ idle)

-- ---- the work over each kind of step

work_moves : (X Y : End) (past : List PastFrame) {cx cy pieces tries fewer less : ℕ} → cx < length past → cy ≤ length past → fewer ≤ pieces → less ≤ tries
    → work X Y past (cx + 1) cy fewer less < work X Y past cx cy pieces tries
work_moves X Y past {cx} {cy} x_in y_in f l = omega (arith, load_moves X Y past cx cy (cx + 1) (omega arith) (omega (arith, x_in)), x_in, y_in, f, l)

work_taken : (X Y : End) (ack : PastFrame) (past : List PastFrame) {cx cy pieces tries fewer less : ℕ} {frame : PastFrame} → cx < length past → cy ≤ length past
    → at (cx + 1) past ≡ frame ∷ at cx past → data_comes X frame ≡ true → is_data_of X ack ≡ false → is_data_of Y ack ≡ false → fewer ≤ pieces
    → less ≤ tries
    → work X Y (ack ∷ past) (cx + 1) cy fewer less < work X Y past cx cy pieces tries
work_taken X Y ack past {cx} {cy} x_in y_in here comes_here no_x no_y f l =
    omega (arith, load_push X Y ack past (cx + 1) (omega (arith, x_in)) y_in no_x no_y, load_takes X Y past cy x_in here refl comes_here, x_in, y_in, f, l)

work_sent : (X Y : End) (frame : PastFrame) (past : List PastFrame) {cx cy : ℕ} (pieces : ℕ) {tries less : ℕ} → cx ≤ length past → cy ≤ length past
    → is_data_of Y frame ≡ false → less < tries → work X Y (frame ∷ past) cx cy pieces less < work X Y past cx cy pieces tries
work_sent X Y frame past pieces x_in y_in no_y l = omega (arith, load_sent X Y frame past x_in y_in no_y, x_in, y_in, l)

work_next : (X Y : End) (frame : PastFrame) (past : List PastFrame) {cx cy pieces : ℕ} (tries fewer : ℕ) {more : ℕ} → cx < length past → cy ≤ length past
    → is_data_of X frame ≡ false → fewer + 1 ≤ pieces → more ≤ tries + 9
    → work X Y (frame ∷ past) (cx + 1) cy fewer more < work X Y past cx cy pieces tries
work_next X Y frame past {cx} {cy} tries fewer x_in y_in no_x f m =
    omega (
      arith,
      load_sent Y X frame past {cy = cx + 1} y_in (omega (arith, x_in)) no_x,
      load_turned X Y (frame ∷ past) (cx + 1) cy,
      load_turned X Y past (cx + 1) cy,
      load_moves X Y past cx cy (cx + 1) (omega arith) (omega (arith, x_in)),
      x_in,
      y_in,
      f,
      m,
    )

-- ---- a running line

-- a frame of X is passed
pub measure_passes : (X Y : End) (past : List PastFrame) {cx cy : ℕ} (x y : Side) (tx ty : ℕ) → cx < length past → cy ≤ length past
    → measure X Y past (cx + 1) cy x y tx ty < measure X Y past cx cy x y tx ty
measure_passes X Y past x y tx ty x_in y_in = work_moves X Y past x_in y_in (omega arith) (omega arith)

-- data of X is taken and acknowledged, and Y's side stays or ends
pub measure_copy : (X Y : End) (past : List PastFrame) {cx cy : ℕ} (x y : Side) (tx ty : ℕ) (course : FrameCourse) {frame : PastFrame} → cx < length past
    → cy ≤ length past → at (cx + 1) past ≡ frame ∷ at cx past → IsDataOf X frame → comes frame.course ≡ true
    → measure X Y (ack_frame Y (frame.key) course ∷ past) (cx + 1) cy x y tx ty < measure X Y past cx cy x y tx ty
measure_copy X Y past x y tx ty course {frame} x_in y_in here is comes_here =
    work_taken X Y (ack_frame Y frame.key course) past x_in y_in here (and_from (is_data_of X frame) (comes frame.course) is comes_here)
    (ack_is_no_data X Y frame.key course) (ack_is_no_data Y Y frame.key course) (omega arith) (omega arith)

pub measure_newest : (X Y : End) (past : List PastFrame) {cx cy : ℕ} (x y : Side) (tx ty : ℕ) {k : ℕ} (course : FrameCourse) {frame : PastFrame} → cx < length past
    → cy ≤ length past → at (cx + 1) past ≡ frame ∷ at cx past → IsDataOf X frame → comes frame.course ≡ true → piece_count (length y.message) ≤ k
    → measure X Y (ack_frame Y (frame.key) course ∷ past) (cx + 1) cy x (record y { acknowledged = k }) tx ty < measure X Y past cx cy x y tx ty
measure_newest X Y past x y tx ty {k} course {frame} x_in y_in here is comes_here idle =
    let done = rest-idle (record y { acknowledged = k }) ty idle in
    work_taken X Y (ack_frame Y frame.key course) past x_in y_in here (and_from (is_data_of X frame) (comes frame.course) is comes_here)
    (ack_is_no_data X Y frame.key course) (ack_is_no_data Y Y frame.key course)
    (omega (arith, idle)) (omega (arith, done))

pub measure_last_ack : (X Y : End) (past : List PastFrame) {cx cy : ℕ} (x y : Side) (tx ty : ℕ) → cx < length past → cy ≤ length past
    → y.acknowledged + 1 ≡ piece_count (length y.message) → measure X Y past (cx + 1) cy x (acknowledged y) tx ty < measure X Y past cx cy x y tx ty
measure_last_ack X Y past x y tx ty x_in y_in last =
    let done = rest-idle (acknowledged y) ty (omega (arith, last)) in
    work_moves X Y past x_in y_in (omega (arith, last)) (omega (arith, done))

pub measure_next_piece : (X Y : End) (past : List PastFrame) {cx cy : ℕ} (x y : Side) (tx ty : ℕ) (key : Key) (bytes : List ℕ) (course : FrameCourse)
    → is_data_of X (data_frame Y key bytes course) ≡ false → cx < length past → cy ≤ length past → y.acknowledged + 1 < piece_count (length y.message)
    → measure X Y (data_frame Y key bytes course ∷ past) (cx + 1) cy x (acknowledged y) tx 1 < measure X Y past cx cy x y tx ty
measure_next_piece X Y past x y tx ty key bytes course no_x x_in y_in more =
    let rest = rest-waits (acknowledged y) 1 more in
    work_next X Y (data_frame Y key bytes course) past (rest_tries x tx + rest_tries y ty) (left x + left (acknowledged y)) x_in y_in no_x
    (omega (arith, more)) (omega (arith, rest))

-- X sends again
pub measure_again : (X Y : End) (past : List PastFrame) {cx cy : ℕ} (x y : Side) {tx : ℕ} (ty : ℕ) (key : Key) (bytes : List ℕ) (course : FrameCourse)
    → is_data_of Y (data_frame X key bytes course) ≡ false → cx ≤ length past → cy ≤ length past → Waiting x → tx < 10
    → measure X Y (data_frame X key bytes course ∷ past) cx cy x y (suc tx) ty < measure X Y past cx cy x y tx ty
measure_again X Y past x y {tx} ty key bytes course no_y x_in y_in waits few =
    let now = rest-waits x tx waits in
    let then = rest-waits x (suc tx) waits in
    work_sent X Y (data_frame X key bytes course) past (left x + left y) x_in y_in no_y (omega (arith, now, then, few))
