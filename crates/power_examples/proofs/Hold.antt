-- Every row of the table holds, computed from the definitions: a statement for each group of rows, and table-holds, that no group is left out.
-- Assumes nothing.
use mathlib.Core.Bool.{Bool, true}
use mathlib.Core.List.{List}
use mathlib.Core.Path.{◌≡◌, refl}
use Rattle.cipher.specs.Field.{x_power}
use Rattle.cipher.specs.SubBytes.{square, squares, inverse, sbox}
use Rattle.cipher.specs.MixColumns.{mix_column}
use Rattle.cipher.specs.KeyExpansion.{expanded, key_expansion}
use Rattle.cipher.specs.Cipher.{round_key, full_round, last_round, rounds, cipher, aes128}
use Rattle.codes.specs.Padding.{padded}
use Rattle.codes.specs.Chaining.{added, link, chain, first_blocks}
use Rattle.codes.specs.Code.{mac}
use Rattle.files.specs.Words.{all_below, seek}
use Rattle.files.specs.Part.{part, splice, over}
use Rattle.files.specs.Types.{count, record_length, size, good_shape}
use Rattle.files.specs.Rights.{all_held, any_held, allowed, good_rights, good_file_rights}
use Rattle.files.specs.Directory.{used, start_at, extent, is_place, in_area, find_fid, find_sfi, find_folder}
use Rattle.files.specs.Record.{back, next, bytes_used, places_held, place_of, records_held, start_of, length_of, located, located_in, next_place, next_start, entry, appended, sound_held, sound_used, parted_file, is_record, has_room}
use Rattle.files.specs.Walk.{stands, past, walk, parted, standing}
use Rattle.files.specs.Create.{good_contents, apart, name_unused, room, created, good_folder, fid_unused, founded}
use Rattle.files.specs.Sound.{sound_file, unused_place, sfis_differ, unused_folder, sound_folder, sound_folders, sound_directory, parted_area}
use Rattle.rules.specs.Words.{or_else, all_of, same}
use Rattle.rules.specs.Sound.{good_pin, good_value, sound_value, sound_tries, sound_credential, sound_challenge, sound_response, sound_journal, sound_current, sound_state, sound}
use Rattle.rules.specs.Frame.{case_of, framed}
use Rattle.rules.specs.List.{rows, find, listed, rule}
use Rattle.rules.specs.Select.{select_checks}
use Rattle.rules.specs.Binary.{read_count, read_binary_checks, update_binary_checks}
use Rattle.rules.specs.Target.{target}
use Rattle.rules.specs.Record.{record_found, read_record_checks, update_record_checks, append_checks}
use Rattle.rules.specs.Pins.{compared_at, verify_checks, change_checks, reload_checks}
use Rattle.rules.specs.Device.{authenticate_checks, get_challenge_checks}
use Rattle.rules.specs.Create.{file_given, folder_given, good_folder_given, creation_right, create_checks}
use Rattle.rules.specs.Response.{wait_sw, get_response_checks, fetches, fetched}
use Rattle.rules.specs.Code.{code_sw, presents_code, credentials_after}
use Rattle.rules.specs.Step.{checks, effect_of, kept, outcome, settled, at_once, step}
use Rattle.rules.specs.Calls.{command, reset, good_order, issue}
use Rattle.files.specs.Listed.{records_at, records}
use Rattle.power.specs.Journal.{left_by_cut}
use Rattle.power.specs.Plan.{act_of}
use Rattle.power.specs.Recovery.{tidied, recover}
use Rattle.power_examples.specs.Table.{Row, all_hold}
use Rattle.power_examples.specs.Stored.{presented, pins, files, code-right, code-late, code-wrong}
use Rattle.power_examples.specs.Cuts.{append-cut, pin-cut, present-cut, make-cut}
use Rattle.power_examples.specs.Recovered.{journals, impossible, others}
use Rattle.power_examples.specs.Rows.{table, EachHolds}

-- whether rows hold, by computation: to unfold this is to unfold every definition that a row may need
computed : List Row → Bool
unfolding x_power square squares inverse sbox mix_column expanded key_expansion round_key full_round last_round rounds cipher aes128 padded added link chain first_blocks mac all_below part splice over count record_length size good_shape all_held any_held allowed good_rights good_file_rights used start_at extent is_place in_area seek find_fid find_sfi find_folder back next bytes_used places_held place_of records_held start_of length_of located located_in next_place next_start entry appended sound_held sound_used parted_file is_record has_room stands past walk parted standing good_contents apart name_unused room created good_folder fid_unused founded sound_file unused_place sfis_differ unused_folder sound_folder sound_folders sound_directory parted_area or_else all_of same good_pin good_value sound_value sound_tries sound_credential sound_challenge sound_response sound_journal sound_current sound_state sound case_of framed rows find listed rule select_checks target read_count read_binary_checks update_binary_checks record_found read_record_checks update_record_checks append_checks compared_at verify_checks change_checks reload_checks authenticate_checks get_challenge_checks file_given folder_given good_folder_given creation_right create_checks wait_sw get_response_checks fetches code_sw presents_code credentials_after checks effect_of kept outcome settled at_once fetched step command reset good_order issue records_at records left_by_cut act_of tidied recover
computed = all_hold

pub presented-hold : all_hold presented ≡ true
unfolding computed
presented-hold = refl

pub pins-hold : all_hold pins ≡ true
unfolding computed
pins-hold = refl

pub files-hold : all_hold files ≡ true
unfolding computed
files-hold = refl

pub code-right-hold : all_hold code-right ≡ true
unfolding computed
code-right-hold = refl

pub code-late-hold : all_hold code-late ≡ true
unfolding computed
code-late-hold = refl

pub code-wrong-hold : all_hold code-wrong ≡ true
unfolding computed
code-wrong-hold = refl

pub append-cut-hold : all_hold append-cut ≡ true
unfolding computed
append-cut-hold = refl

pub pin-cut-hold : all_hold pin-cut ≡ true
unfolding computed
pin-cut-hold = refl

pub present-cut-hold : all_hold present-cut ≡ true
unfolding computed
present-cut-hold = refl

pub make-cut-hold : all_hold make-cut ≡ true
unfolding computed
make-cut-hold = refl

pub journals-hold : all_hold journals ≡ true
unfolding computed
journals-hold = refl

pub impossible-hold : all_hold impossible ≡ true
unfolding computed
impossible-hold = refl

pub others-hold : all_hold others ≡ true
unfolding computed
others-hold = refl

pub table-holds : EachHolds table
table-holds =
    (presented-hold, (pins-hold, (files-hold, (code-right-hold, (code-late-hold, (code-wrong-hold, (append-cut-hold, (pin-cut-hold, (present-cut-hold, (make-cut-hold, (journals-hold, (impossible-hold, (others-hold, tt)))))))))))))
