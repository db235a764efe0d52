use Rattle.std.proofs.Common.{arith, rules}
use Rattle.pdb_values.specs.Blocks.{block_length, block_of}
use Rattle.pdb_files.proofs.ReadLaws.{blocks_read, ok_within}
use Rattle.pdb_files.proofs.reader.read_blocks.Goals as goal

pub behind_front-behind_app-requires : goal.behind_front-behind_app-requires
behind_front-behind_app-requires c =
    (blocks_read c.args.bytes.now (λ i. omega (arith, c.type_inv.bytes i)) c.requires.none c.requires.header c.requires.begins).app_there

pub behind_front-data-requires : goal.behind_front-data-requires
behind_front-data-requires c =
    rw c.behind_front-behind_app.ensures
    (blocks_read c.args.bytes.now (λ i. omega (arith, c.type_inv.bytes i)) c.requires.none c.requires.header c.requires.begins).sort_there

pub front_block-requires-clause-there : goal.front_block-requires-clause-there
front_block-requires-clause-there c =
    (blocks_read c.args.bytes.now (λ i. omega (arith, c.type_inv.bytes i)) c.requires.none c.requires.header c.requires.begins).app_there

pub front_block-requires-clause-order : goal.front_block-requires-clause-order
front_block-requires-clause-order c =
    (blocks_read c.args.bytes.now (λ i. omega (arith, c.type_inv.bytes i)) c.requires.none c.requires.header c.requires.begins).order

pub front_block-requires-2-clause-there : goal.front_block-requires-2-clause-there
front_block-requires-2-clause-there c =
    rw c.behind_front-behind_app.ensures
    (blocks_read c.args.bytes.now (λ i. omega (arith, c.type_inv.bytes i)) c.requires.none c.requires.header c.requires.begins).sort_there

pub front_block-requires-2-clause-order : goal.front_block-requires-2-clause-order
front_block-requires-2-clause-order c = search (rules, blocks_read)

pub unwrap-requires : goal.unwrap-requires
unwrap-requires c =
    let blocks = blocks_read c.args.bytes.now (λ i. omega (arith, c.type_inv.bytes i)) c.requires.none c.requires.header c.requires.begins in
    ok_within c.set_app.result (block_length (block_of c.in_ok-app.app)) c.set_app.ensures.too_large (rw c.in_ok-app.ensures blocks.short_app)

pub unwrap-requires-2 : goal.unwrap-requires-2
unwrap-requires-2 c =
    let blocks = blocks_read c.args.bytes.now (λ i. omega (arith, c.type_inv.bytes i)) c.requires.none c.requires.header c.requires.begins in
    ok_within c.set_sort.result
    (block_length (block_of c.in_ok-sort.sort)) c.set_sort.ensures.too_large (rw (c.in_ok-sort.ensures, c.behind_front-behind_app.ensures) blocks.short_sort)

pub read_entries-requires-clause-long : goal.read_entries-requires-clause-long
read_entries-requires-clause-long c =
    let blocks = blocks_read c.args.bytes.now (λ i. omega (arith, c.type_inv.bytes i)) c.requires.none c.requires.header c.requires.begins in
    let app = rw c.unwrap.ensures at c.set_app.ensures.ok in
    let sort = rw c.unwrap-2.ensures at c.set_sort.ensures.ok in
    rw (sort, app, c.new-database.ensures, c.behind_front-data.ensures, c.behind_front-behind_app.ensures) blocks.long

pub read_entries-requires-clause-few : goal.read_entries-requires-clause-few
read_entries-requires-clause-few c =
    rw (c.behind_front-data.ensures, c.behind_front-behind_app.ensures)
    (blocks_read c.args.bytes.now (λ i. omega (arith, c.type_inv.bytes i)) c.requires.none c.requires.header c.requires.begins).few

pub read_entries-requires-clause-order : goal.read_entries-requires-clause-order
read_entries-requires-clause-order c =
    rw (c.behind_front-data.ensures, c.behind_front-behind_app.ensures)
    (blocks_read c.args.bytes.now (λ i. omega (arith, c.type_inv.bytes i)) c.requires.none c.requires.header c.requires.begins).data_order

pub read_entries-requires-clause-short : goal.read_entries-requires-clause-short
read_entries-requires-clause-short c =
    rw (c.behind_front-data.ensures, c.behind_front-behind_app.ensures)
    (blocks_read c.args.bytes.now (λ i. omega (arith, c.type_inv.bytes i)) c.requires.none c.requires.header c.requires.begins).data_short

pub returns-clause-database : goal.returns-clause-database
returns-clause-database c =
    let blocks = blocks_read c.args.bytes.now (λ i. omega (arith, c.type_inv.bytes i)) c.requires.none c.requires.header c.requires.begins in
    let app = rw c.unwrap.ensures at c.set_app.ensures.ok in
    let sort = rw c.unwrap-2.ensures at c.set_sort.ensures.ok in
    rw (
      c.in_ok-read_entries.ensures.entries,
      sort,
      app,
      c.new-database.ensures,
      c.in_ok-sort.ensures,
      c.in_ok-app.ensures,
      c.behind_front-data.ensures,
      c.behind_front-behind_app.ensures,
    ) blocks.database
