-- The laws of the rights byte.
use Prim.Native.Nat.{ℕ, ◌-◌, ◌*◌, ◌/◌, ◌%◌}
use mathlib.Core.Bool.{true}
use mathlib.Core.Path.{◌≡◌}
use native.Mathlib.Omega.{arith}
use borrow.Author.Tests.{eq-eqb, ne_eqb}
use Rattle.files.specs.Rights.{good_rights, good_file_rights}

-- with bits 2 to 6 clear it is good
pub plain-good : (byte : ℕ) → byte / 2 % 32 ≡ 0 → good_file_rights byte ≡ true
unfolding good_file_rights good_rights
plain-good byte h =
    let high : byte / 4 ≡ 16 * (byte / 64) = omega (arith, h) in
    let same : byte - 4 * (byte / 4 % 2) ≡ byte = omega (arith, high) in
    let rest : byte / 4 % 16 ≡ 0 = omega (arith, high) in
    rw (same, ne_eqb byte 15 (λ e. omega (arith, h, e)), eq-eqb (byte / 4 % 16) 0 rest, ne_eqb byte 2 (λ e. omega (arith, h, e)))
