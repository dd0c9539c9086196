use Rattle.layers.proofs.Layering.{pairs_transposed}
use Rattle.layers.proofs.transposed.TransposedSource.pairs.Goals as goal

pub returns : goal.returns
returns g c = let p = pairs_transposed (g.S.Source.means c.args.self.now.below) in let e = c.pairs.ensures in cc
