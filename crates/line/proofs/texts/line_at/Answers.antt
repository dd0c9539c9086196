use Rattle.std.proofs.Common.{refl, arith, length-drop}
use Rattle.grammar.proofs.Splits.{front_from, lines_next}
use Rattle.line.proofs.texts.line_at.Goals as goal

pub returns : goal.returns
returns c =
    let text = c.args.text.now in
    let from = c.args.from in
    let front = front_from 10 c.until.result from text c.until.ensures in
    record {
      inside = omega arith;
      starts = refl;
      forward = omega arith;
      within = omega (arith, front.within, length-drop from text);
      first = lines_next text from c.until.result (omega arith) front;
    }
