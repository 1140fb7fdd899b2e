use mathlib.Core.Path.{◌≡◌}
use mathlib.Core.Bool.{◌&&◌}
use lib.ListN.{drop}
use Rattle.rules.specs.Words.{all_of}
use Rattle.files.specs.Words.{is_zero}
use Rattle.card.proofs.sound.zero_from.Given as goal

abbrev pub invariant-loop-i : goal.invariant-loop-i
invariant-loop-i l = (l.good && all_of is_zero (drop l.i l.response.bytes)) ≡ all_of is_zero (drop l.from l.response.bytes)
