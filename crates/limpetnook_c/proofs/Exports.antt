-- Each export has the contract of its function: both are computed, and are one.
use mathlib.Core.Path.{refl}
use Rattle.limpetnook_c.specs.Exports.{Exports}

pub exports : Exports
exports = record {
  limpet-card-size = refl;
  limpet-version = refl;
  limpet-aes128 = refl;
  limpet-code = refl;
  limpet-issue = refl;
  limpet-command = refl;
  limpet-reset = refl;
  limpet-recover = refl;
  limpet-store = refl;
  limpet-stores = refl;
  limpet-to-text = refl;
  limpet-from-text = refl;
  limpet-text-to-new = refl;
  limpet-text-to-old = refl;
}
