-- Bytes are one handheld.
use Rattle.std.proofs.Common.{◌≡◌, ◌∙◌, ◌+◌, ◌*◌, ◌<◌, ◌≤◌, ◌^◌, ◌&&◌, ◌||◌, ap, append_assoc, arith, not, nat_eq, nat_le, nat_lt, refl, subst, sym}
use Rattle.std.proofs.Common.{ℕ, Bool, true, false, List, [], ◌∷◌, ◌++◌, drop, length, length-append, min, replicate}
use Rattle.std.specs.FinMap as finmap
use Rattle.std.specs.Prelude.{Option, Some, Result, Ok, Err, OnOk, unwrap_or}
use Rattle.hs_folders.specs.FileMaps.{FileMap}
use Rattle.device_state.specs.Lists.{IsFileList, NamedFile, files_of, held_of, list_text}
use Rattle.device_state.specs.declared.files.ListFault.{ListFault}
use Rattle.device_state.specs.declared.files.ListFault.TheVariants as list_fault
use Rattle.device_state.proofs.HeldLaws.{held_of-files_of}
use Rattle.device_state.specs.Strings.{string_text}
use Rattle.device_state.specs.Opened.{AreNamed}
use Rattle.device_state.specs.Texts.{talk_text}
use Rattle.device_state.proofs.TextLaws.{talk_text-injective}
use Rattle.device_state.proofs.FileLaws.{list_text-injective}
use Rattle.device_state.proofs.StringLaws.{length-string_text, string_text-injective}
use Rattle.padp_link.specs.Neighbours.{session_id}
use Rattle.handheld_files.specs.Handhelds.{StandFor}
use Rattle.handheld_files.proofs.OneLaws.{one-handheld}
use Rattle.padp_end.specs.Parts.{SameEndParts, are_end_parts, end_of}
use Rattle.padp_end.specs.declared.parts.EndParts.{EndParts}
use Rattle.padp_link.specs.declared.parts.PartsFault.{PartsFault}
use Rattle.padp_link.specs.declared.parts.PartsFault.TheVariants as parts_fault
use Rattle.padp_link.specs.Numbers.{max_data}
use Rattle.padp_link.specs.Parts.{SameReceiverParts, are_receiver_parts, are_sender_parts, receiver_of, sender_of}
use Rattle.padp_link.specs.Pieces.{piece_count}
use Rattle.padp_link.specs.declared.parts.ReceiverParts.{ReceiverParts}
use Rattle.pdb_values.specs.Databases.{DatabaseValue}
use Rattle.pdb_values.specs.declared.user.UserInfo.{UserInfo}
use Rattle.palm_device.specs.Devices.{Device}
use Rattle.palm_device.specs.Soundness.{IsDevice}
use Rattle.palm_device.specs.declared.opened.Opened.{Opened}
use Rattle.handheld_files.specs.Openings.{opened_device}
use Rattle.dlp_commands.specs.DeviceRuns.{Exchange, Ran}
use Rattle.dlp_commands.proofs.StepLaws.{sound_stays, stepped}
use Rattle.device_stream.specs.Alikeness.{Alike}
use Rattle.device_stream.specs.Hands.{Hand}
use Rattle.device_stream.specs.Parts.{SameTalkParts, are_talk_parts, hand_of}
use Rattle.device_stream.specs.declared.parts.TalkParts.{TalkParts}
use Rattle.device_stream.proofs.AlikeLaws.{Alike-back, Alike-itself, Alike-through}
use Rattle.device_state.specs.Laws.{IsOneHandheld}
use Rattle.device_state.specs.Refusals.{IsNoState, RefusesList, RefusesState, SaysNone, of_list, of_parts}
use Rattle.device_state.specs.States.{IsOpenedList, IsState, mark}
use Rattle.device_state.specs.declared.fault.StateFault.{StateFault}
use Rattle.device_state.specs.declared.fault.StateFault.TheVariants.{Form, BadFiles, NoMemory}

-- ---- the same parts make the same hand

receiver_of-parts : (x y : ReceiverParts) → SameReceiverParts x y → receiver_of y ≡ receiver_of x
receiver_of-parts x y same = cc (same.awaited_is, same.length_is, same.taken_is, same.received_is, same.last_is)

end_of-parts : (x y : EndParts) → SameEndParts x y → end_of y ≡ end_of x
end_of-parts x y same = (λ i. record {
  receiver = receiver_of-parts x.receiver y.receiver same.receiver_is i;
  sender = sender_of (same.sender_is i);
  message = same.message_is i;
})

hand_of-parts : (device other : Device) (x y : TalkParts) → other.databases ≡ device.databases → other.user ≡ device.user → SameTalkParts x y
    → Alike (hand_of device x) (hand_of other y)
hand_of-parts device other x y databases user same = record {
  device_is = (λ i. record { databases = databases i; user = user i; handles = same.handles_are i });
  end_is = end_of-parts x.end y.end same.end_is;
  greeted_is = same.greeted_is;
  over_is = same.over_is;
  next_is = ap (λ (number : ℕ). session_id (length (replicate {A = List ℕ} number []) + 1)) same.number_is;
}

-- and are parts of a talk, or not
are_receiver_parts-same : (x y : ReceiverParts) → SameReceiverParts x y → are_receiver_parts y ≡ are_receiver_parts x
are_receiver_parts-same x y same = (λ i.
    nat_le (same.taken_is i) (piece_count (same.length_is i))
    && nat_eq (length (same.received_is i)) (min (max_data * same.taken_is i) (same.length_is i))
    && (not (nat_eq (same.taken_is i) 0) || nat_eq (same.length_is i) 0))

are_end_parts-same : (x y : EndParts) → SameEndParts x y → are_end_parts y ≡ are_end_parts x
are_end_parts-same x y same = (λ i.
    are_receiver_parts-same x.receiver y.receiver same.receiver_is i && are_sender_parts (same.sender_is i)
    && nat_eq (length (same.message_is i)) (same.sender_is i).length)

are_talk_parts-same : (x y : TalkParts) → SameTalkParts x y → are_talk_parts y ≡ are_talk_parts x
are_talk_parts-same x y same = (λ i. are_end_parts-same x.end y.end same.end_is i && nat_lt (same.number_is i) 253)

-- ---- the same bytes are the same handheld

-- what stands at the front of a state is one
pub record IsOneFront (x y : TalkParts) (held left rest behind : List ℕ) : Type 0 where
  pub parts : SameTalkParts x y
  pub held_is : held ≡ left
  pub rest_is : rest ≡ behind

abbrev pub front_text : TalkParts → List ℕ → List ℕ → List ℕ
front_text parts held rest = mark ++ (talk_text parts ++ (string_text held ++ rest))

-- what a state has room for
record IsWithin (state : List ℕ) (parts : TalkParts) (held rest : List ℕ) : Type 0 where
  pub talk : length (talk_text parts ++ (string_text held ++ rest)) ≤ length state
  pub string : length held ≤ length state
  pub list : length rest ≤ length state

within : (state : List ℕ) (parts : TalkParts) (held rest : List ℕ) → state ≡ front_text parts held rest → IsWithin state parts held rest
within state parts held rest is =
    let whole = ap length is in
    let behind = length-append (string_text held) rest in
    let string = length-string_text held in
    let talk = length-append (talk_text parts) (string_text held ++ rest) in
    let all = length-append mark (talk_text parts ++ (string_text held ++ rest)) in
    record {
      talk = omega (arith, whole, all);
      string = omega (arith, whole, all, talk, behind, string);
      list = omega (arith, whole, all, talk, behind);
    }

pub front-one : (state : List ℕ) (x y : TalkParts) (held left rest behind : List ℕ) → length state < 2 ^ 64 → length x.handles ≡ 8 → length y.handles ≡ 8
    → state ≡ front_text x held rest → state ≡ front_text y left behind → IsOneFront x y held left rest behind
front-one state x y held left rest behind short eight eight' one other =
    let same : talk_text x ++ (string_text held ++ rest) ≡ talk_text y ++ (string_text left ++ behind) = ap (drop 4) (sym one ∙ other) in
    let first = within state x held rest one in
    let second = within state y left behind other in
    let talks = talk_text-injective x y (string_text held ++ rest) (string_text left ++ behind) eight eight' (omega (arith, short, first.talk)) same in
    let strings = string_text-injective held left rest behind (omega (arith, short, first.string)) (omega (arith, short, second.string)) talks.1 in
    record { parts = talks.0; held_is = strings.0; rest_is = strings.1 }

-- what stands behind the parts of a talk
pub no-held : (state rest behind : List ℕ) (x y : TalkParts) (held more : List ℕ) → length state < 2 ^ 64 → length x.handles ≡ 8 → length y.handles ≡ 8
    → state ≡ mark ++ rest → rest ≡ talk_text x ++ behind → state ≡ front_text y held more → behind ≡ string_text held ++ more
no-held state rest behind x y held more short eight eight' front is whole =
    let same : talk_text x ++ behind ≡ talk_text y ++ (string_text held ++ more) = sym is ∙ ap (drop 4) (sym front ∙ whole) in
    let room : length (talk_text x ++ behind) < 2 ^ 64 = omega (arith, short, ap length front, length-append mark rest, ap length is) in
    (talk_text-injective x y behind (string_text held ++ more) eight eight' room same).1

pub state-one : (state : List ℕ) (x y : Hand) (held left : List ℕ) → length state < 2 ^ 64 → IsState state x held → IsState state y left
    → IsOneHandheld x y held left
state-one state x y held left short one other =
    let front = front-one state one.parts other.parts held left (list_text one.files) (list_text other.files) short one.says.eight other.says.eight one.says.is other.says.is in
    let room = within state one.parts held (list_text one.files) one.says.is in
    let files : one.files ≡ other.files = list_text-injective one.files other.files (omega (arith, short, room.list)) front.rest_is in
    let stands = one-handheld one.stands (subst (λ (f : List NamedFile). StandFor (finmap.get (held_of f)) y.device.databases y.device.user) (sym files) other.stands) in
    let same = hand_of-parts x.device y.device one.parts other.parts (sym stands.databases) (sym stands.user_is) front.parts in
    record {
      alike = Alike-through x (hand_of y.device other.parts) y
          (Alike-through x (hand_of x.device one.parts) (hand_of y.device other.parts) one.alike same)
          (Alike-back y (hand_of y.device other.parts) other.alike);
      held_is = front.held_is;
    }

-- a hand that is alike has the same states
pub IsState-alike : (state : List ℕ) (x y : Hand) (held : List ℕ) → Alike x y → IsState state x held → IsState state y held
IsState-alike state x y held alike is = record {
  parts = is.parts;
  files = is.files;
  says = is.says;
  stands = subst (λ (d : Device). StandFor (finmap.get (held_of is.files)) d.databases d.user) (sym alike.device_is) is.stands;
  alike = Alike-through y x (hand_of y.device is.parts) (Alike-back x y alike)
      (subst (λ (d : Device). Alike x (hand_of d is.parts)) (sym alike.device_is) is.alike);
}

-- ---- what is refused

-- the files of a state are no list
pub refused-list : (state : List ℕ) (parts : TalkParts) (held rest : List ℕ) → length state < 2 ^ 64 → length parts.handles ≡ 8
    → state ≡ front_text parts held rest → ((files : List NamedFile) → IsFileList files → rest ≡ list_text files → ⊥) → IsNoState state
refused-list state parts held rest short eight is none other left files says =
    none files says.are_files (front-one state parts other held left rest (list_text files) short eight says.eight is says.is).rest_is

-- its parts are none of a talk
pub refused-parts : (state : List ℕ) (parts : TalkParts) (held rest : List ℕ) → length state < 2 ^ 64 → length parts.handles ≡ 8
    → state ≡ front_text parts held rest → are_talk_parts parts ≡ false → IsNoState state
refused-parts state parts held rest short eight is none other left files says =
    let front = front-one state parts other held left rest (list_text files) short eight says.eight is says.is in
    no_both _ (sym (are_talk_parts-same parts other front.parts) ∙ says.are_parts) none
  where
    no_both : (b : Bool) → b ≡ true → b ≡ false → ⊥
    no_both b one other = grind (arith, one, other)

module _ (state : List ℕ) (parts : TalkParts) (held rest : List ℕ) (short : length state < 2 ^ 64) (eight : length parts.handles ≡ 8)
    (is : state ≡ front_text parts held rest) where
  pub refused-of_parts : (fault : PartsFault) → (fault ≡ parts_fault.Form → are_talk_parts parts ≡ false) → RefusesState state (of_parts fault)
  refused-of_parts parts_fault.Form none = refused-parts state parts held rest short eight is (none refl)
  refused-of_parts parts_fault.NoMemory none = tt

  pub refused-of_list : (fault : ListFault) → (fault ≡ list_fault.Form → (files : List NamedFile) → IsFileList files → rest ≡ list_text files → ⊥)
      → RefusesState state (of_list fault)
  refused-of_list list_fault.Form none = refused-list state parts held rest short eight is (none refl)
  refused-of_list list_fault.NoMemory none = tt

  -- the same where no files are looked for
  pub SaysNone-of_parts : (fault : PartsFault) → (fault ≡ parts_fault.Form → are_talk_parts parts ≡ false) → SaysNone state (of_parts fault)
  SaysNone-of_parts parts_fault.Form none = refused-parts state parts held rest short eight is (none refl)
  SaysNone-of_parts parts_fault.NoMemory none = tt

  pub SaysNone-of_list : (fault : ListFault) → (fault ≡ list_fault.Form → (files : List NamedFile) → IsFileList files → rest ≡ list_text files → ⊥)
      → SaysNone state (of_list fault)
  SaysNone-of_list list_fault.Form none = refused-list state parts held rest short eight is (none refl)
  SaysNone-of_list list_fault.NoMemory none = tt

  pub refused-opened : (fault : StateFault) → RefusesList rest fault → RefusesState state fault
  refused-opened Form none = refused-list state parts held rest short eight is none
  refused-opened BadFiles list = record {
    parts = parts;
    held = held;
    files = list.files;
    are_files = list.are_files;
    is = is ∙ ap (λ (r : List ℕ). front_text parts held r) list.is;
    bad = list.bad;
  }
  refused-opened NoMemory list = tt

  -- ---- what is read

  pub IsState-opened : {told : Option FileMap} {databases : List DatabaseValue} {user : UserInfo} → are_talk_parts parts ≡ true → AreNamed parts.handles
      → IsOpenedList rest told databases user
      → IsState state (hand_of (record { databases = databases; user = user; handles = parts.handles }) parts) held
  IsState-opened {databases = databases} {user = user} are named list = record {
    parts = parts;
    files = list.files;
    says = record {
      are_parts = are;
      eight = eight;
      named = named;
      are_files = list.are_files;
      is = is ∙ ap (λ (r : List ℕ). front_text parts held r) list.is;
    };
    stands = list.stands;
    alike = Alike-itself (hand_of (record { databases = databases; user = user; handles = parts.handles }) parts);
  }

-- handles of a device that is opened
pub IsDevice-handles : (databases : List DatabaseValue) (user : UserInfo) (handles : List (Option Opened)) → IsDevice (opened_device databases user)
    → length handles ≡ 8 → IsDevice (record { databases = databases; user = user; handles = handles })
IsDevice-handles databases user handles device eight = record { names = device.names; few = device.few; ids = device.ids; handles = eight }

-- the steps of a device
pub IsDevice-ran : (exchanges : List Exchange) (device new : Device) → Ran device exchanges new → IsDevice device → IsDevice new
IsDevice-ran [] device new ran sound = subst IsDevice (sym ran) sound
IsDevice-ran (x ∷ xs) device new (between, step, rest) sound =
    IsDevice-ran xs between new rest (sound_stays device between x.request x.reply sound (stepped device between x.request x.reply step))

pub front_text-written : (parts : TalkParts) (held rest : List ℕ) {first second third all : List ℕ} → first ≡ mark → second ≡ first ++ talk_text parts
    → third ≡ second ++ string_text held → all ≡ third ++ rest → all ≡ front_text parts held rest
front_text-written parts held rest one two three four =
    four ∙ ap (λ (s : List ℕ). s ++ rest) (three ∙ ap (λ (s : List ℕ). s ++ string_text held) (two ∙ ap (λ (s : List ℕ). s ++ talk_text parts) one))
    ∙ append_assoc (mark ++ talk_text parts) (string_text held) rest ∙ append_assoc mark (talk_text parts) (string_text held ++ rest)

pub same_map : (one other : FileMap) → Some one ≡ Some other → one ≡ other
same_map one other same = ap (λ (o : Option FileMap). unwrap_or o one) same

-- what is written is the handheld
pub IsState-written : (hand : Hand) (parts : TalkParts) (held : List ℕ) (now : FileMap) {state : List ℕ} → IsDevice hand.device
    → Alike hand (hand_of hand.device parts) → are_talk_parts parts ≡ true → AreNamed parts.handles → IsFileList (files_of now)
    → StandFor (finmap.get now) hand.device.databases hand.device.user → state ≡ front_text parts held (list_text (files_of now)) → IsState state hand held
IsState-written hand parts held now device alike are named listed stands is = record {
  parts = parts;
  files = files_of now;
  says = record {
    are_parts = are;
    eight = ap (λ (d : Device). length d.handles) alike.device_is ∙ device.handles;
    named = named;
    are_files = listed;
    is = is;
  };
  stands = subst (λ (m : FileMap). StandFor (finmap.get m) hand.device.databases hand.device.user) (sym (held_of-files_of now)) stands;
  alike = alike;
}

-- what follows of a result
pub OnOk-then : {T E : Type 0} {P Q : Type 0} (r : Result T E) → OnOk r P → (P → Q) → OnOk r Q
OnOk-then (Ok it) fact step = step fact
OnOk-then (Err it) fact step = tt
