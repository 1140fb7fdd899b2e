use Rattle.texts.specs.Text.{new}
use Rattle.texts.proofs.Loading.{write-area, write-unsound}
use Rattle.texts.proofs.calls.to_text.Goals as goal

pub returns-then-area-ne-AREA_SIZE : goal.returns-then-area-ne-AREA_SIZE
returns-then-area-ne-AREA_SIZE c = let a = c.args in write-area new a.card a.area.now a.out.now _ c.if-area-ne-AREA_SIZE.true c.answer.ensures

pub returns-then-not-is_sound : goal.returns-then-not-is_sound
returns-then-not-is_sound c = let a = c.args in write-unsound new a.card a.area.now a.out.now c.if-area-ne-AREA_SIZE.false _ c.is_sound.ensures _ c.if-not-is_sound.true c.answer-then-not-is_sound.ensures
