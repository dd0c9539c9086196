use Rattle.std.proofs.Common.{refl, arith, length-drop}
use Rattle.grammar.proofs.Splits.{front_from, words_next}
use Rattle.line.proofs.words.word_at.Goals as goal

pub returns : goal.returns
returns c =
    let line = c.args.line.now in
    let from = c.args.from in
    let front = front_from 32 c.until.result from line c.until.ensures in
    record {
      starts = refl;
      forward = omega arith;
      within = omega (arith, front.within, length-drop from line);
      first = words_next line from c.until.result (omega arith) front;
    }
