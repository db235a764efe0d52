-- What contracts see of a record's content (Palm File Format Specification, record entries of a
-- PDB).
use Rattle.std.specs.Prelude.{ℕ, Bool, List}

-- a content is its category, whether it is secret, and its bytes
pub record ContentValue : Type 0 where
  pub category : ℕ
  pub secret : Bool
  pub bytes : List ℕ

-- the content of this category and secrecy with these bytes
abbrev pub content_with : ℕ → Bool → List ℕ → ContentValue
content_with category secret bytes =
    record { category = category; secret = secret; bytes = bytes }
