use Rattle.std.proofs.Common.{length-drop, rules}
use Rattle.report.proofs.Pieces.{to_the_end}
use Rattle.report.proofs.decimals.Decimal.as_slice.Goals as goal

pub returns : goal.returns
returns c = record { value = search (rules, to_the_end); bound = search (rules, to_the_end, length-drop) }
