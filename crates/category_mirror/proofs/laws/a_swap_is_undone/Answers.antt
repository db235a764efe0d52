-- Exchanged numbers.
use Rattle.category_mirror.proofs.SwapLaws.{swap_undone}
use Rattle.category_mirror.proofs.laws.a_swap_is_undone.Goals as goal

pub returns : goal.returns
returns c = λ handheld desktop i j are records all. swap_undone handheld desktop i j are.tables.handheld_is are.tables.desktop_is are.swap records all
