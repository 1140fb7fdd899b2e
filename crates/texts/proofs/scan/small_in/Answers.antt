use Prim.Native.Nat.{◌%◌}
use mathlib.Core.Path.{ap}
use Rattle.texts.specs.Reading.{small}
use Rattle.texts.proofs.scan.small_in.Goals as goal

pub returns : goal.returns
unfolding small
returns c = ap (λ n. n % 256) c.number_in.ensures.is
