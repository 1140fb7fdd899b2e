-- Stores by their numbers, as the code goes through a list of them.
use Rattle.std.specs.Prelude.{ℕ, ◌+◌, ◌-◌, ◌*◌, min, cond, eqb, ltb}
use Rattle.power.specs.declared.Numbered.{Numbered}
use Rattle.power.specs.Store.{journal_what, journal_byte}
use Rattle.power.specs.Address.{no_store, a_store}

-- of a list of one store
abbrev pub only_at : Numbered → ℕ → Numbered
only_at s k = cond (eqb k 0) s no_store

-- a change of n bytes by the journal: n into it, what it is about, n over the target, that it is about nothing, n times 00. Which of the n bytes store k is about
abbrev pub turn : ℕ → ℕ → ℕ
turn n k = cond (ltb k n) k (min (k - (n + 1)) (n - 1))

-- store k, by that byte and by the store that puts it over the target
abbrev pub run_at : ℕ → ℕ → ℕ → Numbered → ℕ → Numbered
run_at what n byte target k =
    cond (ltb k n) (a_store (journal_byte k byte))
    (cond (eqb k n) (a_store (journal_what what))
    (cond (ltb k (2 * n + 1)) target
    (cond (eqb k (2 * n + 1)) (a_store (journal_what 0))
    (cond (ltb k (3 * n + 2)) (a_store (journal_byte (k - (2 * n + 2)) 0)) no_store))))
