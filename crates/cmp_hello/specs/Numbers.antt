-- The numbers of a greeting, as pilot-link's pi-cmp.h has them.
use Rattle.std.specs.Prelude.{ℕ}

-- how many bytes a greeting has
abbrev pub hello_len : ℕ
hello_len = 10

-- the major version of the protocol that is spoken
abbrev pub major_version : ℕ
major_version = 1

-- the places of the fields that are tested
abbrev pub kind_place : ℕ
kind_place = 0

abbrev pub major_place : ℕ
major_place = 2
