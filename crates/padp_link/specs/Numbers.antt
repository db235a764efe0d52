-- The numbers of a fragment, as pilot-link's pi-padp.h has them.
use Rattle.std.specs.Prelude.{ℕ}

-- how many bytes the header of a fragment has, and its part of a message at most
abbrev pub header_len : ℕ
header_len = 4

abbrev pub max_data : ℕ
max_data = 1024

-- the flags of the first fragment of a message, and of its last one
abbrev pub first_flag : ℕ
first_flag = 0x80

abbrev pub last_flag : ℕ
last_flag = 0x40

-- the places of the fields in a header
abbrev pub kind_place : ℕ
kind_place = 0

abbrev pub flags_place : ℕ
flags_place = 1

abbrev pub size_place : ℕ
size_place = 2

-- the socket of the desktop link protocol, and the type of the packets that bear fragments
-- (pi-slp.h)
abbrev pub dlp_socket : ℕ
dlp_socket = 3

abbrev pub padp_type : ℕ
padp_type = 2
