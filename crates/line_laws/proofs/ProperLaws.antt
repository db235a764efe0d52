-- What each end knew when it began a fragment, where a fragment is sent again.
use Rattle.line_laws.proofs.Names.{rules, ◌≡◌, ℕ, List, ◌∷◌, Some, Key, FrameCourse, PastFrame, first, said, End, Apart, data_frame, BeginsReached}

-- X sends its newest fragment again
pub both-again : {X Y : End} {past : List PastFrame} {cx cy : ℕ} {key : Key} (bytes : List ℕ) (course : FrameCourse) → Apart X Y
    → first (said X past) ≡ Some key → BeginsReached X Y cy past → BeginsReached Y X cx past
    → BeginsReached X Y cy (data_frame X key bytes course ∷ past) × BeginsReached Y X cx (data_frame X key bytes course ∷ past)
both-again bytes course apart newest_is x_begins y_begins = search rules
