use mathlib.Core.Path.{sym, ◌∙◌}
use lib.ListN.{get_or-eq_default}
use Rattle.stores.proofs.Changes.{byte-given, byte-length}
use Rattle.stores.proofs.value_byte.Goals as goal

pub returns-then-i-eq-LENGTH : goal.returns-then-i-eq-LENGTH
returns-then-i-eq-LENGTH c = byte-length c.args.given.now c.requires c.args.i c.if-i-eq-LENGTH.true

pub returns-then-i-given : goal.returns-then-i-given
returns-then-i-given c = byte-given c.args.given.now c.requires c.args.i c.if-i-eq-LENGTH.false

pub returns-else-i-given : goal.returns-else-i-given
returns-else-i-given c = sym (get_or-eq_default c.args.given.now 0 c.if-i-given.false) ∙ byte-given c.args.given.now c.requires c.args.i c.if-i-eq-LENGTH.false
