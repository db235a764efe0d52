-- The numbers of a packet, as pilot-link's pi-slp.h has them. That a body has at most 1,028 bytes
-- is this reader's own rule: it
-- is as long as the longest fragment.
use Rattle.std.specs.Prelude.{ℕ, List, [], ◌∷◌}

-- the bytes that each packet begins with
abbrev pub sync_bytes : List ℕ
sync_bytes = 0xBE ∷ 0xEF ∷ 0xED ∷ []

-- how many bytes a header has, the CRC behind the body, a body at most, and a packet at most
abbrev pub header_len : ℕ
header_len = 10

abbrev pub crc_len : ℕ
crc_len = 2

abbrev pub max_body : ℕ
max_body = 1028

abbrev pub max_packet : ℕ
max_packet = 1040

-- the places of the fields in a header
abbrev pub dest_place : ℕ
dest_place = 3

abbrev pub source_place : ℕ
source_place = 4

abbrev pub kind_place : ℕ
kind_place = 5

abbrev pub size_place : ℕ
size_place = 6

abbrev pub id_place : ℕ
id_place = 8
