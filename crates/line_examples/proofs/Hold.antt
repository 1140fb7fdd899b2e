-- Every row of the table holds, computed from the definitions: a statement for each group of rows, and table-holds, that no group is left out.
-- Assumes nothing.
use mathlib.Core.Bool.{Bool, true}
use mathlib.Core.List.{List}
use mathlib.Core.Path.{◌≡◌, refl}
use Rattle.files.specs.Words.{all_below, seek}
use Rattle.files.specs.Part.{part, splice, over}
use Rattle.files.specs.Types.{count, record_length, size, good_shape}
use Rattle.files.specs.Rights.{all_held, any_held, allowed, good_rights, good_file_rights}
use Rattle.files.specs.Directory.{used, start_at, extent, is_place, in_area, find_fid, find_sfi, find_folder}
use Rattle.files.specs.Record.{back, next, bytes_used, places_held, place_of, records_held, start_of, length_of, located, located_in, next_place, next_start, entry, appended, sound_held, sound_used, parted_file, is_record, has_room}
use Rattle.files.specs.Walk.{stands, past, walk, parted, standing}
use Rattle.files.specs.Create.{good_contents, apart, name_unused, room, created, good_folder, fid_unused, founded}
use Rattle.files.specs.Sound.{sound_file, unused_place, sfis_differ, unused_folder, sound_folder, sound_folders, sound_directory, parted_area}
use Rattle.rules.specs.Words.{or_else, all_of, same}
use Rattle.rules.specs.Sound.{good_pin, good_value, sound_value, sound_tries, sound_credential, sound_challenge, sound_response, sound_journal, sound_current, sound_state, sound}
use Rattle.rules.specs.Frame.{case_of, framed}
use Rattle.rules.specs.List.{rows, find, listed, rule}
use Rattle.rules.specs.Select.{select_checks}
use Rattle.rules.specs.Binary.{read_count, read_binary_checks, update_binary_checks}
use Rattle.rules.specs.Target.{target}
use Rattle.rules.specs.Record.{record_found, read_record_checks, update_record_checks, append_checks}
use Rattle.rules.specs.Pins.{compared_at, verify_checks, change_checks, reload_checks}
use Rattle.rules.specs.Device.{authenticate_checks, get_challenge_checks}
use Rattle.rules.specs.Create.{file_given, folder_given, good_folder_given, creation_right, create_checks}
use Rattle.rules.specs.Response.{wait_sw, get_response_checks, fetches, fetched}
use Rattle.rules.specs.Code.{code_sw, presents_code, credentials_after}
use Rattle.rules.specs.Step.{checks, effect_of, kept, outcome, settled, at_once, step}
use Rattle.rules.specs.Calls.{command, reset, good_order, issue}
use Rattle.digits.specs.Digits.{digits_in, decimal, hex_digit, hex_of, or_dash, value}
use Rattle.lines.specs.Grammar.{first_at, tabs, before, after, is_hex, bytes_of, number_from, is_limit, is_issue, order_in, is_command, is_reset}
use Rattle.lines.specs.Text.{printed}
use Rattle.lines.specs.Script.{on_card, handled, answer}
use Rattle.line_examples.specs.Table.{Row, all_hold}
use Rattle.line_examples.specs.Fields.{issue-fields, command-fields, reset-fields}
use Rattle.line_examples.specs.Digits.{hex-edges, every-hex-digit, number-edges, every-decimal-digit, every-pin-byte}
use Rattle.line_examples.specs.Turns.{example, before-issue, keeping, no_call}
use Rattle.line_examples.specs.Rows.{table, EachHolds}

-- whether rows hold, by computation: to unfold this is to unfold every definition that a row may need
computed : List Row → Bool
unfolding code_sw presents_code credentials_after all_below part splice over count record_length size good_shape all_held any_held allowed good_rights good_file_rights used start_at extent is_place in_area seek find_fid find_sfi find_folder back next bytes_used places_held place_of records_held start_of length_of located located_in next_place next_start entry appended sound_held sound_used parted_file is_record has_room stands past walk parted standing good_contents apart name_unused room created good_folder fid_unused founded sound_file unused_place sfis_differ unused_folder sound_folder sound_folders sound_directory parted_area or_else all_of same good_pin good_value sound_value sound_tries sound_credential sound_challenge sound_response sound_journal sound_current sound_state sound case_of framed rows find listed rule select_checks target read_count read_binary_checks update_binary_checks record_found read_record_checks update_record_checks append_checks compared_at verify_checks change_checks reload_checks authenticate_checks get_challenge_checks file_given folder_given good_folder_given creation_right create_checks wait_sw get_response_checks fetches checks effect_of kept outcome settled at_once fetched step command reset good_order issue digits_in decimal hex_digit hex_of or_dash value first_at tabs before after is_hex bytes_of number_from is_limit is_issue order_in is_command is_reset printed on_card handled answer
computed = all_hold

pub issue-fields-hold : all_hold issue-fields ≡ true
unfolding computed
issue-fields-hold = refl

pub command-fields-hold : all_hold command-fields ≡ true
unfolding computed
command-fields-hold = refl

pub reset-fields-hold : all_hold reset-fields ≡ true
unfolding computed
reset-fields-hold = refl

pub hex-edges-hold : all_hold hex-edges ≡ true
unfolding computed
hex-edges-hold = refl

pub every-hex-digit-hold : all_hold every-hex-digit ≡ true
unfolding computed
every-hex-digit-hold = refl

pub number-edges-hold : all_hold number-edges ≡ true
unfolding computed
number-edges-hold = refl

pub every-decimal-digit-hold : all_hold every-decimal-digit ≡ true
unfolding computed
every-decimal-digit-hold = refl

pub every-pin-byte-hold : all_hold every-pin-byte ≡ true
unfolding computed
every-pin-byte-hold = refl

pub example-hold : all_hold example ≡ true
unfolding computed
example-hold = refl

pub before-issue-hold : all_hold before-issue ≡ true
unfolding computed
before-issue-hold = refl

pub keeping-hold : all_hold keeping ≡ true
unfolding computed
keeping-hold = refl

pub no-call-hold : all_hold no_call ≡ true
unfolding computed
no-call-hold = refl

pub table-holds : EachHolds table
table-holds =
    (issue-fields-hold, (command-fields-hold, (reset-fields-hold, (hex-edges-hold, (every-hex-digit-hold, (number-edges-hold, (every-decimal-digit-hold, (every-pin-byte-hold, (example-hold, (before-issue-hold, (keeping-hold, (no-call-hold, tt))))))))))))
