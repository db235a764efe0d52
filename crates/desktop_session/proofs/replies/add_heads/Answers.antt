-- The heads of all entries are appended.
use Rattle.std.proofs.Common.{◌≡◌, ◌∙◌, sym, ℕ, arith, rules}
use Rattle.std.specs.Prelude.{Ok, Some}
use Rattle.pdb_values.specs.declared.head.DbHead.{DbHead}
use Rattle.dlp_replies.specs.ReplyReading.{reply_at}
use Rattle.desktop_session.specs.Answers.{list_of, or_none, said_in}
use Rattle.desktop_session.proofs.GrowLaws.{grows}
use Rattle.desktop_session.proofs.PageLaws.{page_heads, page_next, page_whole}
use Rattle.desktop_session.proofs.replies.add_heads.Goals as goal

pub loop-place-preserved : goal.loop-place-preserved
loop-place-preserved c =
    c.in_ok-push.ensures.items
    ∙ grows (λ (entry : ℕ × DbHead). entry.1) c.in-Some.entries c.args.heads.now.items c.loop-place.place
    (sym c.get.ensures ∙ c.unwrap-entry.ensures) c.loop-place.invariant

pub returns-clause-heads : goal.returns-clause-heads
returns-clause-heads c =
    let read = reply_at 0x16 c.args.bytes.now in
    let found : or_none (said_in 0x16 list_of read) ≡ Ok (Some (c.in-Some.last, c.in-Some.flags, c.in-Some.entries)) = search rules in
    page_heads c.args.start c.args.heads.now.items c.loop-place.heads.items read c.in-Some.last c.in-Some.flags c.loop-place.place c.in-Some.entries found
    (omega arith) c.loop-place.invariant

pub returns-clause-next : goal.returns-clause-next
returns-clause-next c =
    let read = reply_at 0x16 c.args.bytes.now in
    let found : or_none (said_in 0x16 list_of read) ≡ Ok (Some (c.in-Some.last, c.in-Some.flags, c.in-Some.entries)) = search rules in
    page_next c.args.start c.args.heads.now.items c.loop-place.heads.items read c.in-Some.last c.in-Some.flags c.loop-place.place c.in-Some.entries found
    (omega arith) c.loop-place.invariant c.list_behind.result c.list_behind.ensures

pub returns-clause-page : goal.returns-clause-page
returns-clause-page c =
    let read = reply_at 0x16 c.args.bytes.now in
    let found : or_none (said_in 0x16 list_of read) ≡ Ok (Some (c.in-Some.last, c.in-Some.flags, c.in-Some.entries)) = search rules in
    page_whole c.args.start c.args.heads.now.items c.loop-place.heads.items read c.in-Some.last c.in-Some.flags c.loop-place.place c.in-Some.entries found
    (omega arith) c.loop-place.invariant c.list_behind.result c.list_behind.ensures
