use mathlib.Core.Path.{sym, ◌∙◌}
use Rattle.stores.proofs.Calling.{refused-area, refused-random, refused-state, not-refused}
use Rattle.stores.proofs.call.refusal.Goals as goal

pub returns-then-area-ne-AREA_SIZE : goal.returns-then-area-ne-AREA_SIZE
returns-then-area-ne-AREA_SIZE c = let a = c.args in refused-area a.card a.area.now a.random.now c.if-area-ne-AREA_SIZE.true

pub returns-then-random-ne-RANDOM_SIZE : goal.returns-then-random-ne-RANDOM_SIZE
returns-then-random-ne-RANDOM_SIZE c = let a = c.args in refused-random a.card a.area.now a.random.now c.if-area-ne-AREA_SIZE.false c.if-random-ne-RANDOM_SIZE.true

pub returns-then-not-is_sound : goal.returns-then-not-is_sound
returns-then-not-is_sound c = let a = c.args in
    refused-state a.card a.area.now a.random.now c.if-area-ne-AREA_SIZE.false c.if-random-ne-RANDOM_SIZE.false (sym c.is_sound.ensures ∙ c.if-not-is_sound.true)

pub returns : goal.returns
returns c = let a = c.args in
    not-refused a.card a.area.now a.random.now c.if-area-ne-AREA_SIZE.false c.if-random-ne-RANDOM_SIZE.false (sym c.is_sound.ensures ∙ c.if-not-is_sound.false)
