use Rattle.card.proofs.Stepping.{refused-reply, refused-area, refused-random, refused-state, served-command}
use mathlib.Core.Path.{sym, ◌∙◌}
use Rattle.card.proofs.step.command.Goals as goal

pub returns-then-reply-lt-REPLY_SIZE : goal.returns-then-reply-lt-REPLY_SIZE
returns-then-reply-lt-REPLY_SIZE c = let a = c.args in
    refused-reply a.card a.area.now a.cmd.now a.random.now a.reply.now c.if-reply-lt-REPLY_SIZE.true c.answer.result c.answer.ensures

pub returns-then-area-ne-AREA_SIZE : goal.returns-then-area-ne-AREA_SIZE
returns-then-area-ne-AREA_SIZE c = let a = c.args in
    refused-area a.card a.area.now a.cmd.now a.random.now a.reply.now c.if-reply-lt-REPLY_SIZE.false c.if-area-ne-AREA_SIZE.true c.answer-then-area-ne-AREA_SIZE.result c.answer-then-area-ne-AREA_SIZE.ensures

pub returns-then-random-ne-RANDOM_SIZE : goal.returns-then-random-ne-RANDOM_SIZE
returns-then-random-ne-RANDOM_SIZE c = let a = c.args in
    refused-random a.card a.area.now a.cmd.now a.random.now a.reply.now c.if-reply-lt-REPLY_SIZE.false c.if-area-ne-AREA_SIZE.false c.if-random-ne-RANDOM_SIZE.true c.answer-then-random-ne-RANDOM_SIZE.result c.answer-then-random-ne-RANDOM_SIZE.ensures

pub returns-then-not-is_sound : goal.returns-then-not-is_sound
returns-then-not-is_sound c = let a = c.args in
    refused-state a.card a.area.now a.cmd.now a.random.now a.reply.now c.if-reply-lt-REPLY_SIZE.false c.if-area-ne-AREA_SIZE.false c.if-random-ne-RANDOM_SIZE.false (sym c.is_sound.ensures ∙ c.if-not-is_sound.true) c.answer-then-not-is_sound.result c.answer-then-not-is_sound.ensures

pub step-requires : goal.step-requires
step-requires c = record { ready = record { is-sound = sym c.is_sound.ensures ∙ c.if-not-is_sound.false; area-size = c.if-area-ne-AREA_SIZE.false }; random_len = (c.if-random-ne-RANDOM_SIZE.false, c.if-reply-lt-REPLY_SIZE.false) }

pub returns : goal.returns
returns c = let a = c.args in
    served-command a.card a.area.now a.cmd.now a.random.now a.reply.now c.if-reply-lt-REPLY_SIZE.false c.if-area-ne-AREA_SIZE.false c.if-random-ne-RANDOM_SIZE.false (sym c.is_sound.ensures ∙ c.if-not-is_sound.false) c.step.result _ _ c.step.ensures
