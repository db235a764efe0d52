use Rattle.std.proofs.Common.{◌≡◌, ◌∙◌, ◌+◌, ◌++◌, ◌∷◌, [], ap, subst, sym}
use Rattle.palm_device.specs.Records.{IsFree, put_record, with_records}
use Rattle.database_merge.proofs.WriteLaws.{IsAdded, one_added}
use Rattle.database_merge.proofs.writing.add_all.Goals as goal

pub loop-content-preserved : goal.loop-content-preserved
loop-content-preserved c =
    let old = c.args.database.now in
    let now = c.loop-content.database in
    let adds = c.args.adds.now in
    let k = c.loop-content.content-index in
    let id = c.free_id-id.result in
    let content = c.content-item.result in
    let put = c.in_ok-write.ensures.put in
    let made = ap (λ d. d.records) put in
    let items : c.push.new.self.items ≡ c.loop-content.given.items ++ id ∷ [] = c.in_ok-push.ensures.items in
    let free : IsFree id now.records = subst (IsFree id) c.records.ensures.records c.free_id-id.ensures in
    let added = one_added c.loop-content.given.items adds k id content old.records now.records c.loop-content-test.true c.content-item.is free
    c.loop-content.invariant.added in
    record {
      placed = c.in_ok-write.ensures.placed;
      rest = put ∙ ap (λ d. with_records (put_record id content now.records) d) c.loop-content.invariant.rest ∙ ap (λ rs. with_records rs old) (sym made);
      added = subst (λ gs. IsAdded gs adds (k + 1) old.records c.write.new.database.records) (sym items)
          (subst (λ rs. IsAdded (c.loop-content.given.items ++ id ∷ []) adds (k + 1) old.records rs) (sym made) added);
    }
