-- Sound bytes at their places: those of a PIN are digits, and behind a PIN and a challenge all is 00.
use Rattle.std.specs.Prelude.{Bool, ◌&&◌, drop}
use Rattle.files.specs.Words.{is_zero}
use Rattle.rules.specs.declared.Credential.{Credential}
use Rattle.rules.specs.declared.Session.{Session}
use Rattle.rules.specs.Words.{all_of}
use Rattle.rules.specs.State.{value_of}
use Rattle.rules.specs.Sound.{digit}

abbrev pub pin_fits : Credential → Bool
pin_fits x = all_of digit (value_of x) && all_of is_zero (drop x.len x.value)

abbrev pub challenge_fits : Session → Bool
challenge_fits s = all_of is_zero (drop s.len s.challenge)
