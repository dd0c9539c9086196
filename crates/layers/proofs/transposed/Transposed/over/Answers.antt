use Rattle.std.proofs.Common.{sym, refl}
use Rattle.layers.proofs.Layering.{pairs_transposed}
use Rattle.layers.proofs.transposed.Transposed.over.Goals as goal

pub returns : goal.returns
returns g c = record { meaning = refl; twice = refl; pairs = sym (pairs_transposed (g.S.Source.means c.args.source)) }
