use Rattle.cipher.specs.Cipher.{aes128}
use mathlib.Core.Path.{◌∙◌, ap₂}
use Rattle.cipher.proofs.block_of.Goals as goal

pub returns : goal.returns
returns c = c.bytes_of.ensures ∙ (c.enciphered.ensures ∙ ap₂ aes128 c.loaded.ensures c.loaded-2.ensures)
