use mathlib.Core.Path.{◌≡◌}
use Rattle.cipher.specs.Field.{x_power}
use Rattle.cipher.specs.KeyExpansion.{key_expansion}
use Rattle.cipher.specs.Words.{columns, state}
use Rattle.cipher.proofs.Keys.{IsRoundKey}
use Rattle.cipher.proofs.Rounds.{up_to}
use Rattle.cipher.proofs.enciphered.Given as goal

abbrev pub invariant-loop-n : goal.invariant-loop-n
invariant-loop-n l = (l.rc ≡ x_power l.n) × IsRoundKey (key_expansion (state (columns l.initial.k))) l.n (columns l.k)
    × (state (columns l.s) ≡ up_to (key_expansion (state (columns l.initial.k))) (state (columns l.initial.s)) l.n)
