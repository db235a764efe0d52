use Rattle.std.proofs.Common.{◌≡◌, [], take, map, None, Some}
use Rattle.memo_texts.specs.Databases.{memo_block, memo_head, record_of}
use Rattle.memo_texts.proofs.database.database_of.Given as goal

abbrev pub invariant-loop-memo : goal.invariant-loop-memo
invariant-loop-memo l =
    l.database ≡ record {
      head = memo_head;
      app = Some (memo_block l.labels.items);
      sort = None;
      records = map (record_of l.labels.items) (take l.memo-index l.memos);
      resources = [];
    }
