-- What `arrived` answers is what the packet is.
use Rattle.std.proofs.Common.{◌≡◌, ℕ, ◌<◌, ◌≤◌, ◌-◌, ◌&&◌, Bool, true, false, List, length, drop, slice_index, get_or, nat_eq, nat_lt, None, Some, Option, is_none}
use Rattle.std.proofs.Common.{inl, inr, if◌then◌else◌, refl, sym, ap, ◌∙◌, arith}
use Rattle.std.proofs.lemmas.Bool.{and_parts, cases_Bool, cond-true, cond-false, eqb-true}
use Rattle.std.proofs.lemmas.Bool.Decides.{nat_tests}
use Rattle.std.proofs.lemmas.Grind.{common_steps}
use Rattle.byteorder.specs.Endian.{big_number}
use Rattle.slp_frames.specs.PacketText.{PacketValue}
use Rattle.padp_link.specs.declared.arrival.Arrived.{Arrived}
use Rattle.padp_link.specs.declared.arrival.Arrived.TheVariants as arrived
use Rattle.padp_link.specs.declared.fragment.FragmentFault.{FragmentFault}
use Rattle.padp_link.specs.declared.fragment.FragmentFault.TheVariants.{Short, BadType, BadFlags, BadSize}
use Rattle.padp_link.specs.Arrivals.{Bears, HasArrived}
use Rattle.padp_link.specs.FragmentFaults.{fragment_fault, kind_said}
use Rattle.padp_link.specs.FragmentText.{FragmentValue, FragmentText, are_flags, fits_size, is_kind, kind_code}
use Rattle.padp_link.specs.FragmentValues.{fragment_value}
use Rattle.padp_link.proofs.TextLaws.{text_of_fields}
use Rattle.trace_text.specs.Frames.{fields_of}
use Rattle.padp_end.specs.Arrivals.{Ack, Data, Drop, IsDataArrival, arrival_of, arrival_as, arrival_value, is_bearing}

-- the fields of a text are its fragment
fields_read : {body : List ℕ} {fragment : FragmentValue} → FragmentText fragment body → fields_of body ≡ fragment
fields_read text = grind arith

-- a text breaks no rule
none_read : {body : List ℕ} {fragment : FragmentValue} → FragmentText fragment body → fragment_fault body ≡ None
none_read text = grind arith

-- no rule is broken: each test holds
record Tests (short kind flags fits : Bool) : Type 0 where
  pub long : short ≡ false
  pub kind_is : kind ≡ true
  pub flags_are : flags ≡ true
  pub size_is : fits ≡ true

fault_by : Bool → Bool → Bool → Bool → Option FragmentFault
fault_by short kind flags fits =
    if short then Some Short else (if kind then (if flags then (if fits then None else Some BadSize) else Some BadFlags) else Some BadType)

tests_of : (short kind flags fits : Bool) → fault_by short kind flags fits ≡ None → Tests short kind flags fits
unfolding fault_by
tests_of true kind flags fits none = absurd cc
tests_of false false flags fits none = absurd cc
tests_of false true false fits none = absurd cc
tests_of false true true false none = absurd cc
tests_of false true true true none = record { long = refl; kind_is = refl; flags_are = refl; size_is = refl }

code_said : (code : ℕ) → is_kind code ≡ true → kind_code (kind_said code) ≡ code
code_said code is = grind (arith, nat_tests, common_steps)

-- bytes that break no rule are the text of their fields
text_there : (body : List ℕ) → ((i : ℕ) → get_or body i 0 < 256) → fragment_fault body ≡ None → FragmentText (fields_of body) body
unfolding fault_by
text_there body bytes none =
    let kind = kind_said (slice_index body 0) in
    let tests = tests_of (nat_lt (length body) 4) (is_kind (slice_index body 0)) (are_flags kind (slice_index body 1))
    (fits_size kind (slice_index body 1) (big_number 2 (drop 2 body)) (length body - 4)) none in
    let four : 4 ≤ length body = grind (arith, nat_tests, tests.long) in
    text_of_fields kind body four bytes (code_said (slice_index body 0) tests.kind_is) tests.flags_are tests.size_is

is_bearing-text : (packet : PacketValue) {fragment : FragmentValue} → Bears packet.dest packet.kind packet.body fragment → is_bearing packet ≡ true
is_bearing-text packet bears = rw (bears.socket_is, bears.type_is, none_read bears.text) refl

-- a packet that bears a fragment is what a fragment of its kind is
pub arrival_of-bearing : (packet : PacketValue) (fragment : FragmentValue) → Bears packet.dest packet.kind packet.body fragment
    → arrival_of packet ≡ arrival_as fragment.kind packet.id fragment
unfolding arrival_of
arrival_of-bearing packet fragment bears =
    cond-true (is_bearing packet) (arrival_as (fields_of packet.body).kind packet.id (fields_of packet.body)) Drop (is_bearing-text packet bears)
    ∙ ap (λ (f : FragmentValue). arrival_as f.kind packet.id f) (fields_read bears.text)

none_is : (fault : Option FragmentFault) → is_none fault ≡ true → fault ≡ None
none_is None none = refl
none_is (Some fault) none = absurd cc

bears-is_bearing : (packet : PacketValue) → ((i : ℕ) → get_or packet.body i 0 < 256) → is_bearing packet ≡ true
    → Bears packet.dest packet.kind packet.body (fields_of packet.body)
bears-is_bearing packet bytes bearing =
    let outer = and_parts (nat_eq packet.dest 3 && nat_eq packet.kind 2) (is_none (fragment_fault packet.body)) bearing in
    let inner = and_parts (nat_eq packet.dest 3) (nat_eq packet.kind 2) outer.0 in
    record {
      socket_is = eqb-true _ _ inner.0;
      type_is = eqb-true _ _ inner.1;
      text = text_there packet.body bytes (none_is (fragment_fault packet.body) outer.1);
    }

-- a packet that bears none is dropped
pub arrival_of-none : (packet : PacketValue) → ((i : ℕ) → get_or packet.body i 0 < 256)
    → ((fragment : FragmentValue) → Bears packet.dest packet.kind packet.body fragment → ⊥) → arrival_of packet ≡ Drop
unfolding arrival_of
arrival_of-none packet bytes none = elim (cases_Bool (is_bearing packet)) [
  | inl bearing ↦ absurd (none (fields_of packet.body) (bears-is_bearing packet bytes bearing))
  | inr strange ↦ cond-false (is_bearing packet) (arrival_as (fields_of packet.body).kind packet.id (fields_of packet.body)) Drop strange
]

-- so is what the program answers
pub arrival_of-arrived : (packet : PacketValue) → ((i : ℕ) → get_or packet.body i 0 < 256) → (answer : Arrived)
    → HasArrived packet.dest packet.kind packet.id packet.body answer → arrival_value answer ≡ arrival_of packet
arrival_of-arrived packet bytes arrived.Drop none = sym (arrival_of-none packet bytes none)
arrival_of-arrived packet bytes arrived.Tickle (fragment, bears, kind) =
    sym (arrival_of-bearing packet fragment bears ∙ ap (λ k. arrival_as k packet.id fragment) kind)
arrival_of-arrived packet bytes arrived.Stop (fragment, bears, kind) =
    sym (arrival_of-bearing packet fragment bears ∙ ap (λ k. arrival_as k packet.id fragment) kind)
arrival_of-arrived packet bytes (arrived.Ack key) (fragment, bears, kind, is) =
    sym (arrival_of-bearing packet fragment bears ∙ ap (λ k. arrival_as k packet.id fragment) kind ∙ ap Ack (sym is))
arrival_of-arrived packet bytes (arrived.Data from fragment) (bears, kind, is) =
    sym
    (arrival_of-bearing packet (fragment_value fragment) bears ∙ ap (λ k. arrival_as k packet.id (fragment_value fragment)) kind
    ∙ ap (λ n. Data n (fragment_value fragment)) (sym is))

-- a data fragment is one of the protocol
pub arrived-fragment : (packet : PacketValue) (answer : Arrived) → HasArrived packet.dest packet.kind packet.id packet.body answer → IsDataArrival answer
arrived-fragment packet arrived.Drop has = tt
arrived-fragment packet arrived.Tickle has = tt
arrived-fragment packet arrived.Stop has = tt
arrived-fragment packet (arrived.Ack key) has = tt
arrived-fragment packet (arrived.Data from fragment) has = (has.0.text.fragment_is, has.1)
