-- Each piece is what the bytes say; where one is none, the bytes are no text of a talk.
use Rattle.std.proofs.Common.{◌≡◌, ◌∙◌, ◌++◌, ℕ, None, IsErr, ap, rules, arith}
use Rattle.std.specs.Global.{Vec}
use Rattle.device_state.specs.Strings.{string_text}
use Rattle.device_state.specs.Numbers.{numbers_text}
use Rattle.device_state.specs.Opened.{handles_text}
use Rattle.device_state.proofs.TalkStringLaws.{string_next}
use Rattle.device_state.proofs.TextLaws.{behind_message, behind_numbers, behind_received, talk_text-append, talk_text-read}
use Rattle.device_state.proofs.talk.read_talk.Goals as goal

pub returns-in_err-numbers-clause-form : goal.returns-in_err-numbers-clause-form
returns-in_err-numbers-clause-form c = λ _ parts rest named whole.
    let none : c.next_string.result ≡ None = search rules in
    c.next_string.ensures.none none (numbers_text parts) (behind_numbers parts rest) (whole ∙ talk_text-append parts rest)

pub returns-in_err-received-clause-form : goal.returns-in_err-received-clause-form
returns-in_err-received-clause-form c = λ _ parts rest named whole.
    let numbers = c.in_ok-numbers.numbers in
    let found : c.args.bytes.now ≡ string_text numbers.string.now ++ numbers.rest.now = search rules in
    let one = string_next numbers.string.now numbers.rest.now (numbers_text parts) (behind_numbers parts rest) (omega arith) found
    (whole ∙ talk_text-append parts rest) in
    let none : c.next_string-2.result ≡ None = search rules in
    c.next_string-2.ensures.none none parts.end.receiver.received.items (behind_received parts rest) one.1

pub returns-in_err-message-clause-form : goal.returns-in_err-message-clause-form
returns-in_err-message-clause-form c = λ _ parts rest named whole.
    let numbers = c.in_ok-numbers.numbers in
    let received = c.in_ok-received.received in
    let found : c.args.bytes.now ≡ string_text numbers.string.now ++ numbers.rest.now = search rules in
    let found' : numbers.rest.now ≡ string_text received.string.now ++ received.rest.now = search rules in
    let one = string_next numbers.string.now numbers.rest.now (numbers_text parts) (behind_numbers parts rest) (omega arith) found
    (whole ∙ talk_text-append parts rest) in
    let two = string_next received.string.now received.rest.now parts.end.receiver.received.items (behind_received parts rest) one.2 found' one.1 in
    let none : c.next_string-3.result ≡ None = search rules in
    c.next_string-3.ensures.none none parts.end.message.items (behind_message parts rest) two.1

pub returns-in_err-handles-clause-form : goal.returns-in_err-handles-clause-form
returns-in_err-handles-clause-form c = λ _ parts rest named whole.
    let numbers = c.in_ok-numbers.numbers in
    let received = c.in_ok-received.received in
    let message = c.in_ok-message.message in
    let found : c.args.bytes.now ≡ string_text numbers.string.now ++ numbers.rest.now = search rules in
    let found' : numbers.rest.now ≡ string_text received.string.now ++ received.rest.now = search rules in
    let found'' : received.rest.now ≡ string_text message.string.now ++ message.rest.now = search rules in
    let one = string_next numbers.string.now numbers.rest.now (numbers_text parts) (behind_numbers parts rest) (omega arith) found
    (whole ∙ talk_text-append parts rest) in
    let two = string_next received.string.now received.rest.now parts.end.receiver.received.items (behind_received parts rest) one.2 found' one.1 in
    let three = string_next message.string.now message.rest.now parts.end.message.items (behind_message parts rest) two.2 found'' two.1 in
    let refused : IsErr c.next_handles.result = search rules in
    c.next_handles.ensures.form refused parts.handles rest named three.1

pub returns-in_err-parts-clause-form : goal.returns-in_err-parts-clause-form
returns-in_err-parts-clause-form c = λ _ parts rest named whole.
    let numbers = c.in_ok-numbers.numbers in
    let found : c.args.bytes.now ≡ string_text numbers.string.now ++ numbers.rest.now = search rules in
    let one = string_next numbers.string.now numbers.rest.now (numbers_text parts) (behind_numbers parts rest) (omega arith) found
    (whole ∙ talk_text-append parts rest) in
    let none : c.parts_of.result ≡ None = search rules in
    c.parts_of.ensures.none none parts one.0

pub returns-clause-ok : goal.returns-clause-ok
returns-clause-ok c =
    let parts = c.in_ok-parts.parts in
    let numbers = c.in_ok-numbers.numbers in
    let received = c.in_ok-received.received in
    let message = c.in_ok-message.message in
    let handles = c.in_ok-handles.handles in
    let rest = c.in_ok-handles.rest.now in
    let found : c.args.bytes.now ≡ string_text numbers.string.now ++ numbers.rest.now = search rules in
    let found' : numbers.rest.now ≡ string_text received.string.now ++ received.rest.now = search rules in
    let found'' : received.rest.now ≡ string_text message.string.now ++ message.rest.now = search rules in
    let behind : message.rest.now ≡ handles_text 1 8 handles ++ rest = search rules in
    let is_numbers : numbers.string.now ≡ numbers_text parts = search rules in
    let is_received : parts.end.receiver.received ≡ c.in_ok-received-2.received = search rules in
    let is_message : parts.end.message ≡ c.in_ok-message-2.message = search rules in
    let is_handles : parts.handles ≡ handles = search rules in
    let copy : c.in_ok-received-2.received.items ≡ received.string.now = search rules in
    let copy' : c.in_ok-message-2.message.items ≡ message.string.now = search rules in
    talk_text-read parts rest handles numbers.rest.now received.rest.now message.rest.now found found' found'' behind is_numbers
    (ap (λ (v : Vec ℕ). v.items) is_received ∙ copy) (ap (λ (v : Vec ℕ). v.items) is_message ∙ copy') is_handles
