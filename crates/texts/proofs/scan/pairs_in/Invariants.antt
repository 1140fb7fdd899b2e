use Rattle.texts.proofs.Scanning.{PairsInv}
use Rattle.texts.proofs.scan.pairs_in.Given as goal

abbrev pub invariant-loop-i : goal.invariant-loop-i
invariant-loop-i l = PairsInv l.n l.s l.initial.out l.out l.to l.i
