use Prim.Native.Nat.{◌-◌}
use mathlib.Core.List.{◌++◌}
use mathlib.Core.Path.{sym, ◌∙◌}
use Rattle.files.specs.Record as records
use Rattle.power.specs.Store.{entry_byte, area_byte, row}
use Rattle.power.specs.Journal.{entry, known_bytes, journaled}
use Rattle.power.specs.Plan.{is_full}
use Rattle.stores.proofs.Changes.{oldest-stays, oldest-first, oldest-gone}
use Rattle.stores.proofs.append_store.Goals as goal

pub returns-then-not-is_full : goal.returns-then-not-is_full
returns-then-not-is_full c = let a = c.args in c.record_store.ensures ∙ oldest-stays (is_full a.f) (entry_byte a.place 7 (a.f.held - 1)) (row area_byte a.at (records.entry a.f a.given.now) ++ journaled (entry a.place) (known_bytes a.next)) a.k (sym c.is_full.ensures ∙ c.if-not-is_full.true)

pub returns-then-k-eq0 : goal.returns-then-k-eq0
returns-then-k-eq0 c = let a = c.args in c.entry_store.ensures ∙ rw c.saturating_sub.ensures (oldest-first (is_full a.f) (entry_byte a.place 7 (a.f.held - 1)) (row area_byte a.at (records.entry a.f a.given.now) ++ journaled (entry a.place) (known_bytes a.next)) a.k (sym c.is_full.ensures ∙ c.if-not-is_full.false) c.if-k-eq0.true)

pub returns : goal.returns
returns c = let a = c.args in c.record_store-2.ensures ∙ oldest-gone (is_full a.f) (entry_byte a.place 7 (a.f.held - 1)) (row area_byte a.at (records.entry a.f a.given.now) ++ journaled (entry a.place) (known_bytes a.next)) a.k (sym c.is_full.ensures ∙ c.if-not-is_full.false) c.if-k-eq0.false
