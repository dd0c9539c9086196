use Rattle.std.proofs.Common.{rules}
use Rattle.grammar.proofs.Cuts.{text_cut}
use Rattle.line.proofs.texts.Lines.of.Goals as goal

pub returns : goal.returns
returns c = record { left = search rules; splits = text_cut c.args.text.now }
