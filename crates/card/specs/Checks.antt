-- Checks as results: what a status word says of the checks before it.
use Rattle.std.specs.Prelude.{ℕ, cond, eqb, Result, Ok, Err}
use Rattle.card.specs.declared.Refused.{Refused}

-- 9000 that none refuses, any other by which one does
unfoldable pub checked : ℕ → Result Unit Refused
checked sw = cond (eqb sw 0x9000) (Ok tt) (Err (record { sw = sw }))
