-- Replies of handhelds of another make, written again as our own handheld writes them: what nobody
-- needs is left out, and a date that is none is no date (pilot-link, `dlp.c`, reads no more).
use Rattle.std.specs.Prelude.{ℕ, zero, suc, ◌+◌, ◌*◌, List, [], ◌∷◌, ◌++◌, length, take, drop, Bool, ◌&&◌, ◌||◌, not, Option, None, Some, is_ok, ◌==◌, nat_lt, if◌then◌else◌}
use Rattle.std.specs.Option.{option_map_or}
use Rattle.std.specs.List.{position}
use Rattle.dlp_args.specs.Arguments.{arg_text}
use Rattle.dlp_commands.specs.DeviceSteps.{first_byte}
use Rattle.dlp_replies.specs.Checks.{is_date}
use Rattle.dlp_replies.specs.Frames.{name_text}
use Rattle.dlp_replies.specs.ReplyReading.{reply_at}

-- so many bytes from a place on
abbrev pub part : ℕ → ℕ → List ℕ → List ℕ
part at count bytes = take count (drop at bytes)

-- the byte at a place; one that isn't there is 0
abbrev pub byte_in : ℕ → List ℕ → ℕ
byte_in place bytes = first_byte (drop place bytes)

-- the number in the first two bytes
abbrev pub half_in : List ℕ → ℕ
half_in bytes = byte_in 0 bytes * 256 + byte_in 1 bytes

-- what stands before the first zero, or all
abbrev pub until_zero : List ℕ → List ℕ
until_zero bytes =
    option_map_or (λ end. take end bytes) (position (λ byte. byte == 0) bytes) bytes

-- eight bytes at the front are a date
abbrev pub begins_date : List ℕ → Bool
begins_date bytes = not (nat_lt (length bytes) 8) && is_date (take 8 bytes)

-- the date at the front, or no date where there is none
abbrev pub date_again : List ℕ → List ℕ
date_again bytes =
    if begins_date bytes then take 8 bytes else 0 ∷ 0 ∷ 0 ∷ 0 ∷ 0 ∷ 0 ∷ 0 ∷ 0 ∷ []

-- ---- the user

-- the name of a user, of at most 41 bytes
abbrev pub name_again : ℕ → List ℕ → List ℕ
name_again size bytes = name_text (until_zero (take 41 (take size bytes)))

-- the name and the password, behind their lengths
abbrev pub names_again : ℕ → ℕ → List ℕ → List ℕ
names_again name password bytes =
    (length (name_again name bytes) ∷ password ∷ [])
    ++ (name_again name bytes ++ part name password bytes)

-- numbers, dates, and names
abbrev pub user_again : List ℕ → List ℕ
user_again content =
    take 12 content
    ++ (date_again (drop 12 content)
    ++ (date_again (drop 20 content)
    ++ names_again (byte_in 28 content) (byte_in 29 content) (drop 30 content)))

-- ---- databases

-- the name of a database, of at most 32 bytes
abbrev pub entry_name : List ℕ → List ℕ
entry_name entry = until_zero (part 44 32 entry)

-- an entry that has all but its name
abbrev pub full_entry : List ℕ → List ℕ
full_entry entry =
    ((45 + length (entry_name entry)) ∷ [])
    ++ (part 1 17 entry
    ++ (date_again (drop 18 entry)
    ++ (date_again (drop 26 entry)
    ++ (date_again (drop 34 entry) ++ (part 42 2 entry ++ (entry_name entry ++ 0 ∷ []))))))

-- an entry; one that lacks more stays as it is
abbrev pub entry_again : List ℕ → List ℕ
entry_again entry = if nat_lt (length entry) 44 then take 44 entry else full_entry entry

-- so many entries, each as long as its first byte says
unfoldable pub entries_again : ℕ → List ℕ → List ℕ
entries_again zero bytes = []
entries_again (suc count) bytes =
    entry_again (take (byte_in 0 bytes) bytes) ++ entries_again count (drop (byte_in 0 bytes) bytes)

abbrev pub list_again : List ℕ → List ℕ
list_again content = take 4 content ++ entries_again (byte_in 3 content) (drop 4 content)

-- ---- any reply

-- how long the content of a function's reply is, where that is said by the function or by its front
abbrev pub needed : ℕ → List ℕ → ℕ
needed function content =
    if function == 0x17 || function == 0x18 then 1
    else if function == 0x2B then 2
    else if function == 0x21 then 4
    else if function == 0x1B || function == 0x1D then 2 + half_in content
    else if function == 0x31 then 2 + 4 * half_in content
    else length content

abbrev pub content_again : ℕ → List ℕ → List ℕ
content_again function content =
    if function == 0x10 then user_again content
    else if function == 0x16 then list_again content
    else take (needed function content) content

-- the functions whose replies have a content
abbrev pub has_content : ℕ → Bool
has_content function =
    function == 0x10 || (function == 0x12 || (function == 0x16 || (function == 0x17
    || (function == 0x18 || (function == 0x1B || (function == 0x1D || (function == 0x1F
    || (function == 0x20 || (function == 0x21 || (function == 0x23 || (function == 0x2B
    || function == 0x31)))))))))))

-- a first argument under the id of replies, with a header of two bytes or of four
abbrev pub first_content : List ℕ → Option (List ℕ)
first_content (first ∷ second ∷ bytes) =
    if first == 0x20 then Some (take second bytes)
    else if first == 0xA0 then Some (take (half_in bytes) (drop 2 bytes))
    else None
first_content bytes = None

-- a reply with this content, if there is one
abbrev pub with_content : ℕ → Option (List ℕ) → List ℕ → List ℕ
with_content first None bytes = bytes
with_content first (Some content) bytes =
    (first ∷ 1 ∷ 0 ∷ 0 ∷ []) ++ arg_text (record { id = 0x20; bytes = content })

abbrev pub content_from : ℕ → Option (List ℕ) → Option (List ℕ)
content_from function None = None
content_from function (Some content) = Some (content_again function content)

-- it has a content, and tells no error
abbrev pub is_full : ℕ → List ℕ → Bool
is_full function bytes =
    has_content function && (not (byte_in 1 bytes == 0) && (byte_in 2 bytes == 0 && byte_in 3 bytes == 0))

-- a reply to this function: where it has no content, or tells an error, it has no argument
abbrev pub mended : ℕ → List ℕ → List ℕ
mended function bytes =
    if nat_lt (length bytes) 4 then bytes
    else if is_full function bytes
    then with_content (byte_in 0 bytes) (content_from function (first_content (drop 4 bytes))) bytes
    else byte_in 0 bytes ∷ 0 ∷ byte_in 2 bytes ∷ byte_in 3 bytes ∷ []

-- what a session takes for the reply to a function: the bytes, where they are one, and else the
-- same mended
abbrev pub heard : ℕ → List ℕ → List ℕ
heard function bytes = if is_ok (reply_at function bytes) then bytes else mended function bytes
