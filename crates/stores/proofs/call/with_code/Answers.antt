use mathlib.Core.Path.{sym, ◌∙◌}
use Rattle.stores.proofs.Calling.{not-presented, code-lowers, code-wrong, code-restores, code-next}
use Rattle.stores.proofs.call.with_code.Goals as goal

pub returns-then-not-presents_code : goal.returns-then-not-presents_code
returns-then-not-presents_code c = let a = c.args in
    c.no_store.ensures ∙ not-presented _ a.card _ _ a.k (sym c.presents_code.ensures ∙ c.if-not-presents_code.true)

pub returns-then-k-eq0 : goal.returns-then-k-eq0
returns-then-k-eq0 c = let a = c.args in
    c.lowered_store.ensures ∙ code-lowers _ a.card _ _ a.k (sym c.presents_code.ensures ∙ c.if-not-presents_code.false) c.tries_at-tries.ensures c.if-k-eq0.true

pub returns-then-not-is_code : goal.returns-then-not-is_code
returns-then-not-is_code c = let a = c.args in
    c.no_store-then-not-is_code.ensures ∙ code-wrong _ a.card _ _ a.k (sym c.presents_code.ensures ∙ c.if-not-presents_code.false) c.if-k-eq0.false (sym c.is_code.ensures ∙ c.if-not-is_code.true)

pub returns-then-k-eq1 : goal.returns-then-k-eq1
returns-then-k-eq1 c = let a = c.args in
    c.tries_store.ensures ∙ code-restores _ a.card _ _ a.k (sym c.presents_code.ensures ∙ c.if-not-presents_code.false) c.if-k-eq0.false (sym c.is_code.ensures ∙ c.if-not-is_code.false) c.tries_at-tries.ensures c.if-k-eq1.true

pub returns : goal.returns
returns c = let a = c.args in
    c.obeyed.ensures ∙ code-next _ a.card _ _ a.k (sym c.presents_code.ensures ∙ c.if-not-presents_code.false) c.if-k-eq0.false (sym c.is_code.ensures ∙ c.if-not-is_code.false) c.if-k-eq1.false
