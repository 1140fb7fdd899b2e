use Rattle.std.proofs.Common.{◌≡◌, ◌<◌, ◌≤◌, ℕ, length, get_or}
use lib.Bits.{bit_xor}
use Rattle.codes.specs.Padding.{padded}
use Rattle.codes.proofs.sum.Given as goal

abbrev pub invariant-loop-i : goal.invariant-loop-i
invariant-loop-i l = record {
  long : length l.block ≡ 16;
  added : (k : ℕ) → k < l.i → get_or l.block k 0 ≡ bit_xor (get_or l.fn.before k 0) (get_or (padded l.rest) k 0);
  not_yet : (k : ℕ) → l.i ≤ k → get_or l.block k 0 ≡ get_or l.fn.before k 0;
}
