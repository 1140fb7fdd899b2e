use Rattle.cipher.proofs.Halves.{highs-fit, rest-fits, back_fits, doubled-halves}
use native.Mathlib.Nat.{lt_of_le_of_lt}
use Rattle.cipher.proofs.word.doubled.Goals as goal

pub overflow_mul-result : goal.overflow_mul-result
overflow_mul-result c = record { fits = rw c.high_bits-h.ensures (lt_of_le_of_lt (highs-fit c.args.w c.ranges.w.fits) c.ranges.w.fits) }

pub overflow_sub-result : goal.overflow_sub-result
overflow_sub-result c = rw c.high_bits-h.ensures (highs-fit c.args.w c.ranges.w.fits)

pub overflow_mul-result-2 : goal.overflow_mul-result-2
overflow_mul-result-2 c = record { fits = rw c.high_bits-h.ensures (rest-fits c.args.w c.ranges.w.fits) }

pub overflow_mul-result-3 : goal.overflow_mul-result-3
overflow_mul-result-3 c = record { fits = rw c.high_bits-h.ensures (back_fits c.args.w c.ranges.w.fits) }

pub returns : goal.returns
returns c = rw c.high_bits-h.ensures (doubled-halves c.args.w c.ranges.w.fits)
