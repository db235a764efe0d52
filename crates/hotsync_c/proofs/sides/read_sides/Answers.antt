use Rattle.std.proofs.Common.{◌∙◌, inr, sym}
use Rattle.hotsync_c.proofs.sides.read_sides.Goals as goal

pub returns-else-is_one-clause-refused : goal.returns-else-is_one-clause-refused
returns-else-is_one-clause-refused c =
    inr (inr (inr (inr (record {
      both = record {
        handheld = c.in_ok-handheld.handheld;
        rows = c.in_ok-rows.rows;
        base = c.in_ok-base.base;
        archive = c.in_ok-archive.archive;
      };
      sides = record {
        handheld_is = c.in_ok-handheld.ensures.side;
        rows_are = c.in_ok-rows.ensures.side;
        base_is = c.in_ok-base.ensures.side;
        archive_is = c.in_ok-archive.ensures.side;
      };
      several = sym c.is_one.ensures ∙ c.if-is_one.false;
    }))))
