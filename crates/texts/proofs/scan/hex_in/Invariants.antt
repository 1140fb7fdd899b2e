use Rattle.texts.proofs.Scanning.{HexInv}
use Rattle.texts.proofs.scan.hex_in.Given as goal

abbrev pub invariant-loop-i : goal.invariant-loop-i
invariant-loop-i l = HexInv l.s l.initial.out l.out l.rest l.i
