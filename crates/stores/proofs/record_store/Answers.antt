use mathlib.Core.Path.{◌∙◌}
use native.Mathlib.Omega.{arith}
use Rattle.power.specs.Journal.{entry, known_bytes, journaled}
use Rattle.stores.proofs.Changes.{record-bytes, record-next}
use Rattle.stores.proofs.record_store.Goals as goal

pub returns-then-k-n : goal.returns-then-k-n
returns-then-k-n c = let a = c.args in c.area_store.ensures ∙ rw c.record_byte.ensures (record-bytes a.f a.given.now a.at a.k (journaled (entry a.place) (known_bytes a.next)) (omega (arith, c.if-k-n.true, c.lead.ensures.is)))

pub returns : goal.returns
returns c = let a = c.args in c.known_store.ensures ∙ rw c.lead.ensures.is (record-next a.f a.given.now a.at a.k (journaled (entry a.place) (known_bytes a.next)) (omega (arith, c.if-k-n.false, c.lead.ensures.is)))
