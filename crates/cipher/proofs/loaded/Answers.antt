use Rattle.std.proofs.Common.{◌∙◌, ap}
use Rattle.std.specs.Int.{w64, from_le_bytes}
use Rattle.cipher.proofs.States.{loaded}
use Rattle.cipher.proofs.loaded.Goals as goal

pub returns : goal.returns
returns c =
    let lo = rw c.unwrap.ensures at c.try_into.ensures.1 in
    let hi = rw c.unwrap-2.ensures at c.try_into-2.ensures.1 in
    loaded c.args.s.now _ c.requires (λ i. (c.type_inv.s i).fits)
    (c.from_le_bytes.ensures ∙ ap (from_le_bytes w64) (lo.same ∙ c.split_at.ensures.front))
    (c.from_le_bytes-2.ensures ∙ ap (from_le_bytes w64) (hi.same ∙ c.split_at.ensures.back))
