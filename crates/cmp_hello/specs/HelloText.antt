-- The text of a greeting of the connection management protocol, as pilot-link's pi-cmp.h and cmp.c
-- have it.
use Rattle.std.specs.Prelude.{◌≡◌, ℕ, ◌^◌, ◌<◌, List, ◌∷◌, ◌++◌, length}
use Rattle.byteorder.specs.Endian.{big_bytes}
use Rattle.cmp_hello.specs.declared.hello.Hello.{Hello}
use Rattle.cmp_hello.specs.declared.hello.HelloKind.{HelloKind}
use Rattle.cmp_hello.specs.declared.hello.HelloKind.TheVariants.{Wake, Init, Abort}
use Rattle.cmp_hello.specs.Numbers.{major_version}

-- the byte that says what a greeting is for
abbrev pub kind_code : HelloKind → ℕ
kind_code Wake = 1
kind_code Init = 2
kind_code Abort = 3

-- the bytes of a greeting: its kind, its flags, the two versions, two bytes that bear nothing, and
-- the rate
abbrev pub hello_bytes : Hello → List ℕ → List ℕ
hello_bytes hello unread =
    kind_code hello.kind ∷ hello.flags ∷ major_version ∷ hello.minor
    ∷ (unread ++ big_bytes 4 hello.rate)

-- the bytes are a text of the greeting, whatever the two unread ones are
pub record HelloText (hello : Hello) (bytes : List ℕ) : Type 0 where
  pub unread : List ℕ
  pub two : length unread ≡ 2
  pub rate_fits : hello.rate < 2 ^ 32
  pub is : bytes ≡ hello_bytes hello unread
