use Rattle.std.proofs.Common.{sym}
use Rattle.std.specs.Iterator.Adapters.{enumerate_source, enumerate_count}
use Rattle.account.proofs.Sofar.{line_on, all_lines, bad_line}
use Rattle.account.proofs.checking.check_text.Goals as goal

pub loop-index-preserved : goal.loop-index-preserved
loop-index-preserved c =
    let s = c.in-Some.ensures.steps in (
      (c.in-Some.ensures.goes.on tt).1,
      line_on
          c.args.text.now (enumerate_source c.loop-index.index-iterator) (enumerate_source c.next.new.self) (enumerate_count c.loop-index.index-iterator) (enumerate_count c.next.new.self)
          c.loop-index.account c.note.new.self (c.in-Some.start, c.in-Some.end) c.in-Ok.line
          c.loop-index.invariant.1 s.0.1.0 s.0.0 s.0.1.1 s.2 c.in-Ok.ensures.value c.note.ensures,
    )

pub returns-in-Err : goal.returns-in-Err
returns-in-Err c =
    let s = c.in-Some.ensures.steps in
    let bad = bad_line
    c.args.text.now (enumerate_source c.loop-index.index-iterator) (enumerate_count c.loop-index.index-iterator) c.loop-index.account
    (c.in-Some.start, c.in-Some.end) c.in-Some.index c.in-Err.fault c.in_line.result c.loop-index.invariant.1 s.0.1.0 s.1 (sym c.in-Err.ensures.value) c.in_line.ensures in
    record { value = bad.0; law = bad.1 }

pub returns : goal.returns
returns c =
    let s = c.in-None.ensures.steps in
    let all = all_lines c.args.text.now (enumerate_source c.loop-index.index-iterator) (enumerate_count c.loop-index.index-iterator) c.loop-index.account c.loop-index.invariant.1 s.0.1 in
    record { value = all.0; law = all.1 }
