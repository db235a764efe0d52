-- The requests of a session fit into a message.
use Rattle.std.proofs.Common.{◌≡◌, ◌≤◌, ◌<◌, ◌^◌, refl, ℕ, Bool, true, false, cond, List, ◌∷◌, length, arith, lit<}
use Rattle.std.specs.Prelude.{◌==◌, None, IfSome, replicate}
use Rattle.std.specs.List.{list_any}
use Rattle.pdb_values.specs.Contents.{ContentValue}
use Rattle.pdb_values.specs.Heads.{has_bit}
use Rattle.pdb_values.specs.Names.{IsName}
use Rattle.pdb_values.specs.PalmDates.{wire_date}
use Rattle.pdb_values.specs.declared.user.UserInfo.{UserInfo}
use Rattle.pdb_values.proofs.PlaceLaws.{place_past}
use Rattle.dlp_args.specs.Cells.{HasNoZero}
use Rattle.dlp_requests.specs.Forms as form
use Rattle.dlp_requests.specs.RequestTexts.{IsRequest}
use Rattle.dlp_requests.proofs.RequestLaws.{IsRequest-short}
use Rattle.dlp_commands.proofs.Fits.{has_no_zero}
use Rattle.dlp_commands.specs.UserFunctions.{name_length}
use Rattle.desktop_session.specs.Requests.{beginning, cleaning, closing, counting, deleting, ending, listing, listing_ids, making_of, marking, opening_in}
use Rattle.desktop_session.specs.Requests.{putting, putting_resource, reading_app, reading_at, reading_next, reading_of, reading_resource, reading_sort}
use Rattle.desktop_session.specs.Requests.{reading_user, removing, resetting, secret_bit, some_name, writing_app, writing_sort}
use Rattle.std.proofs.Common.{rules}
use Rattle.dlp_replies.proofs.EntryWritten.{date_len}

no_zero : {name : List ℕ} → IsName name → HasNoZero name
no_zero {name} is = place_past (λ byte. byte == 0) name is.nonzero

pub user_fits : IsRequest reading_user.asks
user_fits = IsRequest-short reading_user.asks tt tt

pub begin_fits : IsRequest beginning.asks
begin_fits = IsRequest-short beginning.asks tt tt

pub end_fits : IsRequest ending.asks
end_fits = IsRequest-short ending.asks (lit< tt) (tt, tt)

pub list_fits : (start : ℕ) → start < 2 ^ 16 → IsRequest (listing start).asks
list_fits start half = IsRequest-short (listing start).asks (lit< tt, (lit< tt, half)) (tt, (tt, (tt, tt)))

pub open_fits : (mode : ℕ) (name : List ℕ) → mode < 2 ^ 8 → IsName name → IsRequest (opening_in mode name).asks
open_fits mode name byte is = IsRequest-short (opening_in mode name).asks (lit< tt, (byte, no_zero is)) (
  tt,
  (
    tt,
    (let short = is.short in omega arith, tt),
  ),
)

pub make_fits : (creator kind : List ℕ) (attributes version : ℕ) (name : List ℕ) → length creator ≡ 4 → length kind ≡ 4 → attributes < 2 ^ 16
    → version < 2 ^ 16 → IsName name → IsRequest (making_of creator kind attributes version name).asks
make_fits creator kind attributes version name first second small few is =
    IsRequest-short (making_of creator kind attributes version name).asks
    (first, (second, (lit< tt, (tt, (small, (few, no_zero is))))))
    (tt, (tt, (tt, (tt, (tt, (tt, (let short = is.short in omega arith, tt)))))))

pub delete_fits : (name : List ℕ) → IsName name → IsRequest (deleting name).asks
delete_fits name is = IsRequest-short (deleting name).asks (lit< tt, (tt, no_zero is)) (tt, (tt, (let short = is.short in omega arith, tt)))

pub close_fits : (handle : ℕ) → handle < 2 ^ 8 → IsRequest (closing handle).asks
close_fits handle byte = IsRequest-short (closing handle).asks byte (tt, tt)

pub count_fits : (handle : ℕ) → handle < 2 ^ 8 → IsRequest (counting handle).asks
count_fits handle byte = IsRequest-short (counting handle).asks byte (tt, tt)

pub ids_fit : (handle start : ℕ) → handle < 2 ^ 8 → start < 2 ^ 16 → IsRequest (listing_ids handle start).asks
ids_fit handle start byte half = IsRequest-short (listing_ids handle start).asks (byte, (lit< tt, (half, lit< tt))) (tt, (tt, (tt, (tt, tt))))

pub at_fits : (handle index : ℕ) → handle < 2 ^ 8 → index < 2 ^ 16 → IsRequest (reading_at handle index).asks
at_fits handle index byte half = IsRequest-short (reading_at handle index).asks (byte, (tt, (half, (lit< tt, lit< tt)))) (tt, (tt, (tt, (tt, (tt, tt)))))

pub of_fits : (handle id : ℕ) → handle < 2 ^ 8 → id < 2 ^ 32 → IsRequest (reading_of handle id).asks
of_fits handle id byte word = IsRequest-short (reading_of handle id).asks (byte, (tt, (word, (lit< tt, lit< tt)))) (tt, (tt, (tt, (tt, (tt, tt)))))

pub next_fits : (handle : ℕ) → handle < 2 ^ 8 → IsRequest (reading_next handle).asks
next_fits handle byte = IsRequest-short (reading_next handle).asks byte (tt, tt)

pub resource_fits : (handle index : ℕ) → handle < 2 ^ 8 → index < 2 ^ 16 → IsRequest (reading_resource handle index).asks
resource_fits handle index byte half = IsRequest-short (reading_resource handle index).asks (byte, (tt, (half, (lit< tt, lit< tt)))) (
  tt,
  (
    tt,
    (
      tt,
      (
        tt,
        (tt, tt),
      ),
    ),
  ),
)

pub app_fits : (handle : ℕ) → handle < 2 ^ 8 → IsRequest (reading_app handle).asks
app_fits handle byte = IsRequest-short (reading_app handle).asks (byte, (tt, (lit< tt, lit< tt))) (tt, (tt, (tt, (tt, tt))))

pub sort_fits : (handle : ℕ) → handle < 2 ^ 8 → IsRequest (reading_sort handle).asks
sort_fits handle byte = IsRequest-short (reading_sort handle).asks (byte, (tt, (lit< tt, lit< tt))) (tt, (tt, (tt, (tt, tt))))

pub put_fits : (handle id attributes category : ℕ) (bytes : List ℕ) → handle < 2 ^ 8 → id < 2 ^ 32 → attributes < 2 ^ 8 → category < 2 ^ 8
    → length bytes ≤ 65500 → IsRequest (record { form = form.WriteRecord; fields = (handle, (0x80, (id, (attributes, (category, (bytes, tt)))))) })
put_fits handle id attributes category bytes byte word bits sort short =
    IsRequest-short (record { form = form.WriteRecord; fields = (handle, (0x80, (id, (attributes, (category, (bytes, tt)))))) })
    (byte, (lit< tt, (word, (bits, (sort, short)))))
    (tt, (tt, (tt, (tt, (tt, (tt, tt))))))

secret_bound : (secret : Bool) → secret_bit secret < 2 ^ 8
secret_bound true = lit< tt
secret_bound false = lit< tt

pub putting_fits : (handle id : ℕ) (content : ContentValue) → handle < 2 ^ 8 → id < 2 ^ 32 → content.category < 2 ^ 8
    → length content.bytes ≤ 65500 → IsRequest (putting 0 handle id content).asks
putting_fits handle id content byte word sort short = search (rules, put_fits, secret_bound)

pub remove_fits : (handle id : ℕ) → handle < 2 ^ 8 → id < 2 ^ 32 → IsRequest (removing handle id).asks
remove_fits handle id byte word = IsRequest-short (removing handle id).asks (byte, (lit< tt, word)) (tt, (tt, (tt, tt)))

pub clean_fits : (handle : ℕ) → handle < 2 ^ 8 → IsRequest (cleaning handle).asks
clean_fits handle byte = IsRequest-short (cleaning handle).asks byte (tt, tt)

pub reset_fits : (handle : ℕ) → handle < 2 ^ 8 → IsRequest (resetting handle).asks
reset_fits handle byte = IsRequest-short (resetting handle).asks byte (tt, tt)

pub write_app_fits : (handle : ℕ) (bytes : List ℕ) → handle < 2 ^ 8 → length bytes ≤ 65500 → IsRequest (writing_app handle bytes).asks
write_app_fits handle bytes byte short = IsRequest-short (writing_app handle bytes).asks (byte, (tt, short)) (tt, (tt, (tt, tt)))

pub write_sort_fits : (handle : ℕ) (bytes : List ℕ) → handle < 2 ^ 8 → length bytes ≤ 65500 → IsRequest (writing_sort handle bytes).asks
write_sort_fits handle bytes byte short = IsRequest-short (writing_sort handle bytes).asks (byte, (tt, short)) (tt, (tt, (tt, tt)))

pub put_resource_fits : (handle : ℕ) (kind : List ℕ) (id : ℕ) (bytes : List ℕ) → handle < 2 ^ 8 → length kind ≡ 4 → id < 2 ^ 16
    → length bytes ≤ 65500 → IsRequest (putting_resource handle kind id bytes).asks
put_resource_fits handle kind id bytes byte four half short =
    IsRequest-short (putting_resource handle kind id bytes).asks (byte, (tt, (four, (half, short)))) (tt, (tt, (tt, (tt, (tt, tt)))))

-- ---- what is set of the user

chosen_bound : (b : Bool) (n limit : ℕ) → n < limit → cond b n 0 < limit
chosen_bound b n limit below = search (rules)

chosen_date : (b : Bool) (seconds : ℕ) → length (cond b (wire_date seconds) (replicate 8 0)) ≡ 8
chosen_date true seconds = date_len seconds
chosen_date false seconds = refl

name_fits : (b : Bool) (name : List ℕ) → HasNoZero name → length name ≤ 40 → IfSome (cond b (some_name name) None) (λ text. HasNoZero text × (length text ≤ 40))
name_fits b name none short = search (rules)

length_fits : (b : Bool) (name : List ℕ) → length name ≤ 40 → name_length (cond b (some_name name) None) < 2 ^ 8
length_fits true (byte ∷ bytes) short = omega arith
length_fits b name short = lit< tt

pub mark_fits : (mark : UserInfo) (bits : ℕ) → mark.user < 2 ^ 32 → mark.viewer < 2 ^ 32 → mark.pc < 2 ^ 32 → bits < 2 ^ 8 → length mark.name ≤ 40
    → list_any (λ byte. byte == 0) mark.name ≡ false → IsRequest (marking mark bits).asks
mark_fits mark bits user viewer pc byte short none =
    IsRequest-short (marking mark bits).asks (
      chosen_bound (has_bit 0x80 bits) mark.user (2 ^ 32) user,
      (
        chosen_bound (has_bit 0x08 bits) mark.viewer (2 ^ 32) viewer,
        (
          chosen_bound (has_bit 0x40 bits) mark.pc (2 ^ 32) pc,
          (
            chosen_date (has_bit 0x20 bits) mark.last,
            (byte, (length_fits (has_bit 0x10 bits) mark.name short, name_fits (has_bit 0x10 bits) mark.name (has_no_zero mark.name none) short)),
          ),
        ),
      ),
    )
    (tt, (tt, (tt, (tt, (tt, (tt, (tt, tt)))))))
