-- What the calls of a session ask.
use Rattle.std.specs.Prelude.{ℕ, zero, suc, ◌%◌, Bool, false, List, [], ◌++◌, length, take, slice_index, Option, Result, Ok, Err, nat_eq, nat_le, nat_lt, ◌||◌, ◌&&◌, not, if◌then◌else◌}
use Rattle.pdb_values.specs.Contents.{ContentValue}
use Rattle.pdb_values.specs.declared.head.DbHead.{DbHead}
use Rattle.pdb_values.specs.declared.user.UserInfo.{UserInfo}
use Rattle.palm_device.specs.FreshIds.{is_among}
use Rattle.dlp_replies.specs.declared.fault.ReplyFault.{ReplyFault}
use Rattle.dlp_replies.specs.declared.fault.ReplyFault.TheVariants.{Wrapper}
use Rattle.dlp_replies.specs.ReplyValues.{ReplyValue}
use Rattle.desktop_session.specs.declared.fault.SessionFault.{SessionFault}
use Rattle.desktop_session.specs.declared.fault.SessionFault.TheVariants as session
use Rattle.desktop_session.specs.Answers.{block_of, handle_of, id_of, ids_of, mapped, no_more, or_false, or_none, resource_of, said_in}
use Rattle.desktop_session.specs.Inquiries.{Ends, Inquiry, asks_for, asks_read, ◌>>=◌}
use Rattle.desktop_session.specs.Lent.{LentResource}
use Rattle.desktop_session.specs.Requests as request

-- ---- one request each

-- that the user is marked; that a database goes, and whether there was one
abbrev pub marks : UserInfo → ℕ → Inquiry (Unit {0})
marks mark bits = asks_for (request.marking mark bits).asks no_more

abbrev pub deletes : List ℕ → Inquiry Bool
deletes name = asks_read (request.deleting name).asks (λ read. or_false (said_in 0x1A no_more read))

-- the handle of a database that is opened in a mode, or made; that it is closed
abbrev pub opens : ℕ → List ℕ → Inquiry ℕ
opens mode name = asks_for (request.opening_in mode name).asks handle_of

abbrev pub makes_by : List ℕ → List ℕ → ℕ → ℕ → List ℕ → Inquiry ℕ
makes_by creator kind attributes version name =
    asks_for (request.making_of creator kind attributes version name).asks handle_of

abbrev pub makes : DbHead → Inquiry ℕ
makes head = makes_by head.creator.0 head.kind.0 head.attributes head.version head.name

abbrev pub closes : ℕ → Inquiry (Unit {0})
closes handle = asks_for (request.closing handle).asks no_more

-- the resource at an index; copies of both blocks, or nothing where error 5 says so
abbrev pub lends_resource : ℕ → ℕ → Inquiry LentResource
lends_resource handle index = asks_for (request.reading_resource handle index).asks resource_of

abbrev pub copies_app : ℕ → Inquiry (Option (List ℕ))
copies_app handle =
    asks_read (request.reading_app handle).asks (λ read. or_none (said_in 0x1B block_of read))

abbrev pub copies_sort : ℕ → Inquiry (Option (List ℕ))
copies_sort handle =
    asks_read (request.reading_sort handle).asks (λ read. or_none (said_in 0x1D block_of read))

-- the id that a record got; that a record goes, and whether there was one
abbrev pub puts_one : ℕ → ℕ → ContentValue → Inquiry ℕ
puts_one handle id content = asks_for (request.putting 0 handle id content).asks id_of

abbrev pub removes : ℕ → ℕ → Inquiry Bool
removes handle id =
    asks_read (request.removing handle id).asks (λ read. or_false (said_in 0x22 no_more read))

-- that all with the delete bit go; that all become clean
abbrev pub cleans : ℕ → Inquiry (Unit {0})
cleans handle = asks_for (request.cleaning handle).asks no_more

abbrev pub resets : ℕ → Inquiry (Unit {0})
resets handle = asks_for (request.resetting handle).asks no_more

-- that the blocks get these bytes, or the resource of a type and id
abbrev pub writes_app : ℕ → List ℕ → Inquiry (Unit {0})
writes_app handle bytes = asks_for (request.writing_app handle bytes).asks no_more

abbrev pub writes_sort : ℕ → List ℕ → Inquiry (Unit {0})
writes_sort handle bytes = asks_for (request.writing_sort handle bytes).asks no_more

abbrev pub puts_resource : ℕ → List ℕ → ℕ → List ℕ → Inquiry (Unit {0})
puts_resource handle kind id bytes =
    asks_for (request.putting_resource handle kind id bytes).asks no_more

-- that all is done
abbrev pub ends : Inquiry (Unit {0})
ends = asks_for request.ending.asks no_more

-- ---- the ids of an open database that has so many records

-- the ids of a reply, behind those before it
abbrev pub ids_behind : List ℕ → Result ReplyValue ReplyFault → Result (List ℕ) SessionFault
ids_behind before read = mapped (λ more. before ++ more) (said_in 0x31 ids_of read)

abbrev pub asks_ids : ℕ → ℕ → List ℕ → Inquiry (List ℕ)
asks_ids handle start before =
    asks_read (request.listing_ids handle start).asks (ids_behind before)

-- of the first so many ids, one from a place on is one of those before it
unfoldable pub comes_again : ℕ → List ℕ → ℕ → Bool
comes_again place ids zero = false
comes_again place ids (suc last) =
    comes_again place ids last
    || (nat_le place last && is_among (slice_index ids last) (take last ids))

-- one behind so many came before; behind replies of 8,000, the most that is asked for, it isn't
-- asked
abbrev pub repeats : ℕ → List ℕ → Bool
repeats before ids = not (nat_eq (before % 8000) 0) && comes_again before ids (length ids)

-- there are more than so many, and each of them is new
abbrev pub is_page : ℕ → List ℕ → Bool
is_page before ids = nat_lt before (length ids) && not (repeats before ids)

-- behind these ids; a reply that is no such page is taken for none
unfoldable pub lists_ids : ℕ → ℕ → ℕ → List ℕ → Inquiry (List ℕ)
lists_ids zero handle count ids = Ends (Ok ids)
lists_ids (suc most) handle count ids =
    if nat_lt (length ids) count then (do
      all ← asks_ids handle (length ids) ids
      if is_page (length ids) all then lists_ids most handle count all
          else Ends (Err (session.BadReply 0x31 (Wrapper 0))))
    else Ends (Ok ids)

-- each reply has an id at least, so that no more requests are reached than there are ids
abbrev pub all_ids : ℕ → ℕ → Inquiry (List ℕ)
all_ids handle count = lists_ids count handle count []
