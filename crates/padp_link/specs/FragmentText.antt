-- The text of a fragment of the packet assembly and disassembly protocol, as pilot-link's pi-padp.h
-- and padp.c have it.
use Rattle.std.specs.Prelude.{◌≡◌, ℕ, ◌^◌, ◌%◌, ◌<◌, min, Bool, true, not, ◌&&◌, ◌||◌, List, ◌∷◌, ◌++◌, length, nat_eq, nat_le, bit_and, if◌then◌else◌}
use Rattle.std.specs.Bool.{beq}
use Rattle.byteorder.specs.Endian.{big_bytes}
use Rattle.padp_link.specs.declared.fragment.PadpKind.{PadpKind}
use Rattle.padp_link.specs.declared.fragment.PadpKind.TheVariants.{Data, Ack, Tickle, Abort}
use Rattle.padp_link.specs.Numbers.{max_data, first_flag, last_flag}

-- a fragment, wherever its part of a message lies
pub record FragmentValue : Type 0 where
  pub kind : PadpKind
  pub flags : ℕ
  pub size : ℕ
  pub bytes : List ℕ

-- the byte that says what a fragment is for
abbrev pub kind_code : PadpKind → ℕ
kind_code Data = 1
kind_code Ack = 2
kind_code Tickle = 4
kind_code Abort = 8

-- the byte says one of the four kinds
abbrev pub is_kind : ℕ → Bool
is_kind code = nat_eq code 1 || nat_eq code 2 || nat_eq code 4 || nat_eq code 8

-- the flags bear this one
abbrev pub has_flag : ℕ → ℕ → Bool
has_flag flag flags = not (nat_eq (bit_and flags flag) 0)

-- the flags that a kind never bears: an acknowledgement alone bears the memory error
abbrev pub strange_flags : PadpKind → ℕ
strange_flags Ack = 0x1F
strange_flags _ = 0x3F

-- a fragment of this kind may bear these flags
abbrev pub are_flags : PadpKind → ℕ → Bool
are_flags kind flags = nat_eq (bit_and flags (strange_flags kind)) 0

-- A first fragment has the whole message, or as much of it as fits, and is the last one where that
-- is all. Its size is the
-- length of the message.
abbrev pub fits_first : Bool → ℕ → ℕ → Bool
fits_first last size len = nat_eq len (min size max_data) && beq last (nat_le size max_data)

-- A later fragment is full unless it is the last one, which has at least one byte. Its size is its
-- place in the message.
abbrev pub fits_later : Bool → ℕ → ℕ → Bool
fits_later last size len =
    nat_eq (size % max_data) 0 && not (nat_eq size 0)
    && (if last then nat_le 1 len && nat_le len max_data else nat_eq len max_data)

-- a fragment of this kind with these flags and this size may have so many bytes of a message
abbrev pub fits_size : PadpKind → ℕ → ℕ → ℕ → Bool
fits_size Data flags size len =
    if has_flag first_flag flags then fits_first (has_flag last_flag flags) size len
    else fits_later (has_flag last_flag flags) size len
fits_size _ flags size len = nat_eq len 0

-- the fragment is one of the protocol
pub record IsFragment (fragment : FragmentValue) : Type 0 where
  pub flags : are_flags fragment.kind fragment.flags ≡ true
  pub size : fits_size fragment.kind fragment.flags fragment.size (length fragment.bytes) ≡ true

-- the bytes of a fragment: its kind, its flags, its size and its part of a message
abbrev pub fragment_text : FragmentValue → List ℕ
fragment_text fragment =
    kind_code fragment.kind ∷ fragment.flags ∷ (big_bytes 2 fragment.size ++ fragment.bytes)

-- the bytes are the text of a fragment of the protocol
pub record FragmentText (fragment : FragmentValue) (bytes : List ℕ) : Type 0 where
  pub fragment_is : IsFragment fragment
  pub size_fits : fragment.size < 2 ^ 16
  pub is : bytes ≡ fragment_text fragment
