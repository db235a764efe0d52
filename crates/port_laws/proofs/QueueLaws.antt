-- Packets under way, with their stamps.
use Rattle.std.proofs.Common.{ℕ, List, [], ◌∷◌, ◌++◌, arith}
use Rattle.padp_end.specs.Arrivals.{Arrival, Drop, Tickle, Stop, Ack, Data, arrival_of}
use Rattle.padp_link.specs.FragmentText.{FragmentValue}
use Rattle.padp_link.specs.declared.piece.Key.{Key}
use Rattle.port_laws.specs.Cables.{AcksPiece, AllBear, AtMost, BearsFor, Count, IsPiece, Rise, Side, Parcel}

pub at_most-then : (a b c : Count) → AtMost a b → AtMost b c → AtMost a c
at_most-then a b c first next =
    let f = first.taken in
    let g = next.taken in
    let h = first.begun in
    let k = next.begun in
    record { taken = omega (arith, f, g); begun = omega (arith, h, k) }

pub at_most-itself : (a : Count) → AtMost a a
at_most-itself a = record { taken = omega arith; begun = omega arith }

-- ---- the stamps

-- from below to above
pub rise-ends : (low : Count) (queue : List Parcel) (high : Count) → Rise low queue high → AtMost low high
rise-ends low [] high rise = rise
rise-ends low (each ∷ later) high rise = at_most-then low each.at high rise.0 (rise-ends each.at later high rise.1)

-- from lower
pub rise-from : (lower low : Count) (queue : List Parcel) (high : Count) → AtMost lower low → Rise low queue high → Rise lower queue high
rise-from lower low [] high less rise = at_most-then lower low high less rise
rise-from lower low (each ∷ later) high less rise = (at_most-then lower low each.at less rise.0, rise.1)

-- to higher
pub rise-to : (low : Count) (queue : List Parcel) (high higher : Count) → Rise low queue high → AtMost high higher → Rise low queue higher
rise-to low [] high higher rise more = at_most-then low high higher rise more
rise-to low (each ∷ later) high higher rise more = (rise.0, rise-to each.at later high higher rise.1 more)

-- with packets more that are stamped at the end
pub rise-append : (low : Count) (queue : List Parcel) (high : Count) (more : List Parcel) (higher : Count) → Rise low queue high → Rise high more higher
    → Rise low (queue ++ more) higher
rise-append low [] high more higher rise later = rise-from low high more higher rise later
rise-append low (each ∷ queue) high more higher rise later = (rise.0, rise-append each.at queue high more higher rise.1 later)

-- without one
pub rise-lost : (low : Count) (before : List Parcel) (lost : Parcel) (after : List Parcel) (high : Count) → Rise low (before ++ lost ∷ after) high
    → Rise low (before ++ after) high
rise-lost low [] lost after high rise = rise-from low lost.at after high rise.0 rise.1
rise-lost low (each ∷ before) lost after high rise = (rise.0, rise-lost each.at before lost after high rise.1)

-- ---- what they bear

pub bear-append : (x y : Side) (queue more : List Parcel) → AllBear x y queue → AllBear x y more → AllBear x y (queue ++ more)
bear-append x y [] more bear later = later
bear-append x y (each ∷ queue) more bear later = (bear.0, bear-append x y queue more bear.1 later)

pub bear-lost : (x y : Side) (before : List Parcel) (lost : Parcel) (after : List Parcel) → AllBear x y (before ++ lost ∷ after)
    → AllBear x y (before ++ after)
bear-lost x y [] lost after bear = bear.1
bear-lost x y (each ∷ before) lost after bear = (bear.0, bear-lost x y before lost after bear.1)

-- the acknowledgements and the data between two counts bear this of others
pub record Carries (x y newer other : Side) (low high : Count) : Type 0 where
  pub acks : (at : Count) (key : Key) → AtMost low at → AtMost at high → AcksPiece x y at key → AcksPiece newer other at key
  pub data_is : (at : Count) (id : ℕ) (fragment : FragmentValue) → AtMost low at → AtMost at high → IsPiece x y at id fragment
      → IsPiece newer other at id fragment

carry : (x y newer other : Side) (low high at : Count) (arrival : Arrival) → Carries x y newer other low high → AtMost low at → AtMost at high
    → BearsFor x y at arrival → BearsFor newer other at arrival
carry x y newer other low high at Drop carries above below bears = tt
carry x y newer other low high at Tickle carries above below bears = tt
carry x y newer other low high at Stop carries above below bears = tt
carry x y newer other low high at (Ack key) carries above below bears = carries.acks at key above below bears
carry x y newer other low high at (Data id fragment) carries above below bears = carries.data_is at id fragment above below bears

carries-from : (x y newer other : Side) (lower low high : Count) → AtMost lower low → Carries x y newer other lower high → Carries x y newer other low high
carries-from x y newer other lower low high less carries = record {
  acks = λ at key above below. carries.acks at key (at_most-then lower low at less above) below;
  data_is = λ at id fragment above below. carries.data_is at id fragment (at_most-then lower low at less above) below;
}

pub bear-on : (x y newer other : Side) (low : Count) (queue : List Parcel) (high : Count) → Carries x y newer other low high → Rise low queue high
    → AllBear x y queue → AllBear newer other queue
bear-on x y newer other low [] high carries rise bear = tt
bear-on x y newer other low (each ∷ queue) high carries rise bear = (
  carry x y newer other low high each.at (arrival_of each.packet) carries rise.0 (rise-ends each.at queue high rise.1) bear.0,
  bear-on x y newer other each.at queue high (carries-from x y newer other low each.at high rise.0 carries) rise.1 bear.1,
)
