-- The form of a text, as the code has it.
use Rattle.std.specs.Prelude.{Bool, true, false}
use Rattle.texts.specs.declared.Form.{Form}
use Rattle.texts.specs.declared.Form.TheVariants.{New, Old}

-- in the words of `Text`
abbrev pub is_new : Form → Bool
is_new New = true
is_new Old = false
