-- A reply that is read is a refusal or the reply of the function that was asked.
use Rattle.std.proofs.lemmas.Bool.Decides.{nat_tests}
use Rattle.std.proofs.lemmas.Grind.{common_steps}
use Rattle.std.proofs.Common.{◌≡◌, ◌∙◌, ℕ, List, Option, Some, None, Result, sym, arith}
use Rattle.std.specs.Prelude.{IfOk}
use Rattle.dlp_args.proofs.FunctionLaws.{number_is}
use Rattle.dlp_args.specs.Fields.{Fields}
use Rattle.dlp_args.specs.Functions.{function_of, number_of}
use Rattle.dlp_args.specs.declared.function.Function.{Function}
use Rattle.dlp_args.specs.declared.function.Function.TheVariants as function
use Rattle.dlp_replies.specs.Frames.{frame, function_byte}
use Rattle.dlp_replies.specs.ReplyTexts.{IsShape, ReplyText}
use Rattle.dlp_replies.specs.ReplyValues.{ReplyValue}
use Rattle.dlp_replies.specs.Shapes.{Shape, Unknown, Bare, One, shape, shape_of}
use Rattle.dlp_replies.specs.Views.{reply_value}
use Rattle.dlp_replies.specs.declared.fault.ReplyFault.{ReplyFault}
use Rattle.dlp_replies.specs.declared.reply.Reply.{Reply}

-- all replies of a shape are the function's
Owns : ℕ → Shape → Type 0
Owns number Unknown = Unit {0}
Owns number (Bare done) = function_byte (frame done) ≡ number
Owns number (One kinds sizes checks make) = (fields : Fields kinds) → function_byte (frame (make fields)) ≡ number

each_owns : (f : Function) → Owns (number_of f) (shape f)
unfolding Owns
each_owns f = grind arith

shape_owns : (number first : ℕ) (s : Shape) (value : ReplyValue) (bytes : List ℕ) → Owns number s → IsShape first s value bytes
    → function_byte (frame value) ≡ number
unfolding Owns
shape_owns number first s value bytes owns is = grind arith

known_owns : (number first : ℕ) (o : Option Function) (value : ReplyValue) (bytes : List ℕ) → function_of number ≡ o
    → IsShape first (shape_of o) value bytes → function_byte (frame value) ≡ number
known_owns number first None value bytes named is = absurd cc
known_owns number first (Some f) value bytes named is = shape_owns (number_of f) first (shape f) value bytes (each_owns f) is ∙ sym (number_is number f named)

pub function_byte-ReplyText : (number : ℕ) (value : ReplyValue) (bytes : List ℕ) → ReplyText number value bytes → function_byte (frame value) ≡ number
function_byte-ReplyText number value bytes reply_text = grind (arith, nat_tests, common_steps, known_owns)

pub reply_owns : (number : ℕ) (bytes : List ℕ) (r : Result Reply ReplyFault) → IfOk r (λ reply. ReplyText number (reply_value reply) bytes)
    → IfOk r (λ reply. function_byte (frame (reply_value reply)) ≡ number)
reply_owns number bytes r text = grind (arith, nat_tests, common_steps, function_byte-ReplyText)
