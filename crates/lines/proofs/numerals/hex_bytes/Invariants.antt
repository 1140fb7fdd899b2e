use Rattle.lines.proofs.Scanning.{Filled}
use Rattle.lines.proofs.numerals.hex_bytes.Given as goal

abbrev pub invariant-loop-i : goal.invariant-loop-i
invariant-loop-i l = Filled l.s l.initial.out l.out l.i
