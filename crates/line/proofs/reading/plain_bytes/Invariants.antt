use Rattle.std.proofs.Common.{◌≡◌, ◌+◌, drop}
use Rattle.grammar.specs.Reading.{odd_byte}
use Rattle.line.proofs.reading.plain_bytes.Given as goal

abbrev pub invariant-loop-i : goal.invariant-loop-i
invariant-loop-i l = odd_byte (l.i + 1) (drop l.i l.line) ≡ odd_byte 1 l.line
