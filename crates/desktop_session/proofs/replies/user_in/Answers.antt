-- The reply with a user has a name and a password.
use Rattle.std.proofs.Common.{◌∙◌, refl, sym, subst}
use Rattle.std.specs.Prelude.{IsSome}
use Rattle.dlp_replies.specs.ReplyTexts.{ReplyText}
use Rattle.dlp_replies.specs.Views.{reply_value}
use Rattle.dlp_replies.specs.declared.reply.Reply.{Reply}
use Rattle.desktop_session.proofs.UserLaws.{user_ok}
use Rattle.desktop_session.proofs.replies.user_in.Goals as goal

pub unwrap-name-requires : goal.unwrap-name-requires
unwrap-name-requires c =
    let text = subst (λ (r : Reply). ReplyText 0x10 (reply_value r) c.args.bytes.now) c.in-ReadUserInfo.is c.in_ok-user.ensures.own.text in
    let ok = user_ok _ _ _ _ _ _ _ _ text in
    subst IsSome (sym (c.new.ensures ∙ ok.0)) refl
