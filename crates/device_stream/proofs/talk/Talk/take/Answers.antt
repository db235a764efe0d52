use Rattle.std.proofs.Common.{◌++◌, refl, ap, ◌∙◌, arith}
use Rattle.std.proofs.lemmas.Result.{on_ok_weaker}
use Rattle.slp_frames.specs.PacketValues.{lent_value}
use Rattle.padp_end.specs.Ends.{end_takes}
use Rattle.padp_end.specs.Outgoings.{said_text}
use Rattle.device_stream.specs.Talks.{talk_server}
use Rattle.device_stream.proofs.TakingLaws.{delivered-taken, greeting-taken, message-room, performs-itself, serving-taken}
use Rattle.device_stream.proofs.TakingLaws.{end_takes-message, message-delivered, short-served, short-then, silent-taken, stop-taken, taken-from}
use Rattle.device_stream.proofs.talk.Talk.take.Goals as goal

pub serve-requires-clause-room : goal.serve-requires-clause-room
serve-requires-clause-room g c =
    let text = c.take.ensures.said ∙ ap (λ s. s ++ said_text (end_takes c.self.inside.end (lent_value c.args.packet)).said) c.clear.ensures in
    omega (arith, message-room c.self.inside.end (lent_value c.args.packet) c.take.ensures.heard c.in-Message.is text)

pub returns-in-Nothing-clause-takes : goal.returns-in-Nothing-clause-takes
returns-in-Nothing-clause-takes g c =
    let text = c.take.ensures.said ∙ ap (λ s. s ++ said_text (end_takes c.self.inside.end (lent_value c.args.packet)).said) c.clear.ensures in
    let going = ap (λ t. t.hand.over) c.self.view_is ∙ c.requires.going in
    taken-from (ap (λ t. t.hand) c.self.view_is)
    (silent-taken _ (lent_value c.args.packet) going c.take.ensures.heard c.take.ensures.end c.in-Nothing.is refl text)

pub returns-in-Nothing-clause-performs : goal.returns-in-Nothing-clause-performs
returns-in-Nothing-clause-performs g c =
    performs-itself g.F.Folder.contents g.F.Folder.moments g.F.Folder.paths g.F.Folder.faults c.args.self.now _ (ap talk_server c.self.view_is)
    (ap (λ t. t.hand.performed) c.self.view_is) (ap (λ t. t.hand.replies) c.self.view_is)

pub returns-in-Delivered-clause-takes : goal.returns-in-Delivered-clause-takes
returns-in-Delivered-clause-takes g c =
    let text = c.take.ensures.said ∙ ap (λ s. s ++ said_text (end_takes c.self.inside.end (lent_value c.args.packet)).said) c.clear.ensures in
    let going = ap (λ t. t.hand.over) c.self.view_is ∙ c.requires.going in
    taken-from (ap (λ t. t.hand) c.self.view_is)
    (delivered-taken _ (lent_value c.args.packet) going c.take.ensures.heard c.take.ensures.end c.in-Delivered.is c.deliver.ensures.hand text)

pub returns-in-Delivered-clause-performs : goal.returns-in-Delivered-clause-performs
returns-in-Delivered-clause-performs g c =
    let stays = c.deliver.ensures.stays in
    performs-itself g.F.Folder.contents g.F.Folder.moments g.F.Folder.paths g.F.Folder.faults c.args.self.now _
    (stays.server_is ∙ ap talk_server c.self.view_is) (stays.performed_is ∙ ap (λ t. t.hand.performed) c.self.view_is)
    (stays.replies_are ∙ ap (λ t. t.hand.replies) c.self.view_is)

pub returns-in-Message-clause-takes : goal.returns-in-Message-clause-takes
returns-in-Message-clause-takes g c =
    let text = c.take.ensures.said ∙ ap (λ s. s ++ said_text (end_takes c.self.inside.end (lent_value c.args.packet)).said) c.clear.ensures in
    let going = ap (λ t. t.hand.over) c.self.view_is ∙ c.requires.going in
    on_ok_weaker c.serve.result (λ serves. taken-from (ap (λ t. t.hand) c.self.view_is)
    (serving-taken _ (lent_value c.args.packet) going c.take.ensures.heard c.take.ensures.end c.if-self.true c.in-Message.is serves text))
    c.serve.ensures.serves

pub returns-in-Message-2-clause-takes : goal.returns-in-Message-2-clause-takes
returns-in-Message-2-clause-takes g c =
    let text = c.take.ensures.said ∙ ap (λ s. s ++ said_text (end_takes c.self.inside.end (lent_value c.args.packet)).said) c.clear.ensures in
    let going = ap (λ t. t.hand.over) c.self.view_is ∙ c.requires.going in
    taken-from (ap (λ t. t.hand) c.self.view_is)
    (greeting-taken _ (lent_value c.args.packet) going c.take.ensures.heard c.take.ensures.end c.if-self.false c.in-Message-2.is c.greet.ensures.hand text)

pub returns-in-Message-2-clause-performs : goal.returns-in-Message-2-clause-performs
returns-in-Message-2-clause-performs g c =
    let stays = c.greet.ensures.stays in
    performs-itself g.F.Folder.contents g.F.Folder.moments g.F.Folder.paths g.F.Folder.faults c.args.self.now _
    (stays.server_is ∙ ap talk_server c.self.view_is) (stays.performed_is ∙ ap (λ t. t.hand.performed) c.self.view_is)
    (stays.replies_are ∙ ap (λ t. t.hand.replies) c.self.view_is)

pub returns-in-Stop-clause-takes : goal.returns-in-Stop-clause-takes
returns-in-Stop-clause-takes g c =
    let text = c.take.ensures.said ∙ ap (λ s. s ++ said_text (end_takes c.self.inside.end (lent_value c.args.packet)).said) c.clear.ensures in
    let going = ap (λ t. t.hand.over) c.self.view_is ∙ c.requires.going in
    taken-from (ap (λ t. t.hand) c.self.view_is)
    (stop-taken _ (lent_value c.args.packet) going c.take.ensures.heard c.take.ensures.end c.in-Stop.is refl text)

pub returns-in-Stop-clause-performs : goal.returns-in-Stop-clause-performs
returns-in-Stop-clause-performs g c =
    performs-itself g.F.Folder.contents g.F.Folder.moments g.F.Folder.paths g.F.Folder.faults c.args.self.now _ (ap talk_server c.self.view_is)
    (ap (λ t. t.hand.performed) c.self.view_is) (ap (λ t. t.hand.replies) c.self.view_is)

pub returns-in-Nothing-clause-short : goal.returns-in-Nothing-clause-short
returns-in-Nothing-clause-short g c short =
    short-then (ap (λ e. e.message) c.take.ensures.end ∙ end_takes-message c.self.inside.end (lent_value c.args.packet)
    ∙ ap (λ t. t.hand.end.message) c.self.view_is) short

pub returns-in-Delivered-clause-short : goal.returns-in-Delivered-clause-short
returns-in-Delivered-clause-short g c short =
    short-then (ap (λ h. h.end.message) c.deliver.ensures.hand ∙ message-delivered _
    ∙ ap (λ e. e.message) c.take.ensures.end ∙ end_takes-message c.self.inside.end (lent_value c.args.packet)
    ∙ ap (λ t. t.hand.end.message) c.self.view_is) short

pub returns-in-Message-clause-short : goal.returns-in-Message-clause-short
returns-in-Message-clause-short g c short =
    short-served c.serve.result _ c.serve.new.self.hand c.serve.ensures.short c.serve.ensures.refused
    (short-then (ap (λ e. e.message) c.take.ensures.end ∙ end_takes-message c.self.inside.end (lent_value c.args.packet)
    ∙ ap (λ t. t.hand.end.message) c.self.view_is) short)

pub returns-in-Message-2-clause-short : goal.returns-in-Message-2-clause-short
returns-in-Message-2-clause-short g c short =
    short-then (c.greet.ensures.message
    ∙ ap (λ e. e.message) c.take.ensures.end ∙ end_takes-message c.self.inside.end (lent_value c.args.packet)
    ∙ ap (λ t. t.hand.end.message) c.self.view_is) short

pub returns-in-Stop-clause-short : goal.returns-in-Stop-clause-short
returns-in-Stop-clause-short g c short =
    short-then (ap (λ e. e.message) c.take.ensures.end ∙ end_takes-message c.self.inside.end (lent_value c.args.packet)
    ∙ ap (λ t. t.hand.end.message) c.self.view_is) short
