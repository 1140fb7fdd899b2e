-- Every row of the table holds, computed from the rules: a statement for each group of rows, since one statement has a step limit, and
-- edges-hold, that no group is left out.
-- Assumes nothing.
use mathlib.Core.Bool.{Bool, true}
use mathlib.Core.List.{List}
use mathlib.Core.Path.{◌≡◌, refl}
use Rattle.cipher.specs.Field.{x_power}
use Rattle.cipher.specs.SubBytes.{square, squares, inverse, sbox}
use Rattle.cipher.specs.MixColumns.{mix_column}
use Rattle.cipher.specs.KeyExpansion.{expanded, key_expansion}
use Rattle.cipher.specs.Cipher.{round_key, full_round, last_round, rounds, cipher, aes128}
use Rattle.codes.specs.Padding.{padded}
use Rattle.codes.specs.Chaining.{added, link, chain, first_blocks}
use Rattle.codes.specs.Code.{mac}
use Rattle.files.specs.Words.{all_below, seek}
use Rattle.files.specs.Part.{part, splice, over}
use Rattle.files.specs.Types.{count, record_length, size, good_shape}
use Rattle.files.specs.Rights.{all_held, any_held, allowed, good_rights, good_file_rights}
use Rattle.files.specs.Directory.{used, start_at, extent, is_place, in_area, find_fid, find_sfi, find_folder}
use Rattle.files.specs.Record.{back, next, bytes_used, places_held, place_of, records_held, start_of, length_of, located, located_in, next_place, next_start, entry, appended, sound_held, sound_used, parted_file, is_record, has_room}
use Rattle.files.specs.Walk.{stands, past, walk, parted, standing}
use Rattle.files.specs.Create.{good_contents, apart, name_unused, room, created, good_folder, fid_unused, founded}
use Rattle.files.specs.Sound.{sound_file, unused_place, sfis_differ, unused_folder, sound_folder, sound_folders, sound_directory, parted_area}
use Rattle.rules.specs.Words.{or_else, all_of, same}
use Rattle.rules.specs.Sound.{good_pin, good_value, sound_value, sound_tries, sound_credential, sound_challenge, sound_response, sound_journal, sound_current, sound_state, sound}
use Rattle.rules.specs.Frame.{case_of, framed}
use Rattle.rules.specs.List.{rows, find, listed, rule}
use Rattle.rules.specs.Select.{select_checks}
use Rattle.rules.specs.Binary.{read_count, read_binary_checks, update_binary_checks}
use Rattle.rules.specs.Target.{target}
use Rattle.rules.specs.Record.{record_found, read_record_checks, update_record_checks, append_checks}
use Rattle.rules.specs.Pins.{compared_at, verify_checks, change_checks, reload_checks}
use Rattle.rules.specs.Device.{authenticate_checks, get_challenge_checks}
use Rattle.rules.specs.Create.{file_given, folder_given, good_folder_given, creation_right, create_checks}
use Rattle.rules.specs.Response.{wait_sw, get_response_checks, fetches, fetched}
use Rattle.rules.specs.Code.{code_sw, presents_code, credentials_after}
use Rattle.rules.specs.Step.{checks, effect_of, kept, outcome, settled, at_once, step}
use Rattle.rules.specs.Calls.{command, reset, good_order, issue}
use Rattle.edges.specs.Table.{Edge, all_hold}
use Rattle.edges.specs.Starred.{starred}
use Rattle.edges.specs.Frame.{framing}
use Rattle.edges.specs.Select.{selecting}
use Rattle.edges.specs.Binary.{binaries}
use Rattle.edges.specs.Record.{recording}
use Rattle.edges.specs.Variable.{variables}
use Rattle.edges.specs.Rights.{holding-rights}
use Rattle.edges.specs.Pins.{pins}
use Rattle.edges.specs.Device.{devices}
use Rattle.edges.specs.Create.{creating}
use Rattle.edges.specs.Calls.{calls}
use Rattle.edges.specs.Sound.{credentials, directories, sessions}
use Rattle.edges.specs.Folders.{folders, folder-states}
use Rattle.edges.specs.Response.{fetching, discarding, modes, responses, login-fetched}
use Rattle.edges.specs.Login.{login}
use Rattle.edges.specs.FrameRanges.{class-bytes, ins-bytes, frame-lengths}
use Rattle.edges.specs.ParameterRanges.{sfis}
use Rattle.edges.specs.OffsetRanges.{offsets}
use Rattle.edges.specs.RightsRanges.{rights-created, rights-asked}
use Rattle.edges.specs.PinRanges.{pin-digits, pin-tries, orders, staying}
use Rattle.edges.specs.LoginRanges.{cryptograms, login-of-4, login-of-8}
use Rattle.edges.specs.ResponseRanges.{response-bytes, issue-modes}
use Rattle.edges.specs.FolderRanges.{types-created, fids-created, creation-rights, creation-asked, folder-bytes}
use Rattle.edges.specs.Codes.{codes, unpresented}
use Rattle.edges.specs.BehindCode.{coded-tries, coded-rights, coded-counts, paddings}
use Rattle.edges.specs.Coded.{code-late, code-wrong, code-served}
use Rattle.edges.specs.Outsiders.{outsiders, guessers}
use Rattle.edges.specs.Edges.{edges, EachHolds}

-- whether rows hold, by computation: to unfold this is to unfold every rule that a row may need
computed : List Edge → Bool
unfolding x_power square squares inverse sbox mix_column expanded key_expansion round_key full_round last_round rounds cipher aes128 padded added link chain first_blocks mac all_below part splice over count record_length size good_shape all_held any_held allowed good_rights good_file_rights used start_at extent is_place in_area seek find_fid find_sfi find_folder back next bytes_used places_held place_of records_held start_of length_of located located_in next_place next_start entry appended sound_held sound_used parted_file is_record has_room stands past walk parted standing good_contents apart name_unused room created good_folder fid_unused founded sound_file unused_place sfis_differ unused_folder sound_folder sound_folders sound_directory parted_area or_else all_of same good_pin good_value sound_value sound_tries sound_credential sound_challenge sound_response sound_journal sound_current sound_state sound case_of framed rows find listed rule select_checks target read_count read_binary_checks update_binary_checks record_found read_record_checks update_record_checks append_checks compared_at verify_checks change_checks reload_checks authenticate_checks get_challenge_checks file_given folder_given good_folder_given creation_right create_checks wait_sw get_response_checks fetches code_sw presents_code credentials_after checks effect_of kept outcome settled at_once fetched step command reset good_order issue
computed = all_hold

pub starred-hold : all_hold starred ≡ true
unfolding computed
starred-hold = refl

pub framing-hold : all_hold framing ≡ true
unfolding computed
framing-hold = refl

pub selecting-hold : all_hold selecting ≡ true
unfolding computed
selecting-hold = refl

pub binaries-hold : all_hold binaries ≡ true
unfolding computed
binaries-hold = refl

pub recording-hold : all_hold recording ≡ true
unfolding computed
recording-hold = refl

pub variables-hold : all_hold variables ≡ true
unfolding computed
variables-hold = refl

pub holding-rights-hold : all_hold holding-rights ≡ true
unfolding computed
holding-rights-hold = refl

pub pins-hold : all_hold pins ≡ true
unfolding computed
pins-hold = refl

pub devices-hold : all_hold devices ≡ true
unfolding computed
devices-hold = refl

pub creating-hold : all_hold creating ≡ true
unfolding computed
creating-hold = refl

pub calls-hold : all_hold calls ≡ true
unfolding computed
calls-hold = refl

pub credentials-hold : all_hold credentials ≡ true
unfolding computed
credentials-hold = refl

pub directories-hold : all_hold directories ≡ true
unfolding computed
directories-hold = refl

pub sessions-hold : all_hold sessions ≡ true
unfolding computed
sessions-hold = refl

pub folders-hold : all_hold folders ≡ true
unfolding computed
folders-hold = refl

pub folder-states-hold : all_hold folder-states ≡ true
unfolding computed
folder-states-hold = refl

pub fetching-hold : all_hold fetching ≡ true
unfolding computed
fetching-hold = refl

pub discarding-hold : all_hold discarding ≡ true
unfolding computed
discarding-hold = refl

pub modes-hold : all_hold modes ≡ true
unfolding computed
modes-hold = refl

pub responses-hold : all_hold responses ≡ true
unfolding computed
responses-hold = refl

pub login-hold : all_hold login ≡ true
unfolding computed
login-hold = refl

pub login-fetched-hold : all_hold login-fetched ≡ true
unfolding computed
login-fetched-hold = refl

pub class-bytes-hold : all_hold class-bytes ≡ true
unfolding computed
class-bytes-hold = refl

pub ins-bytes-hold : all_hold ins-bytes ≡ true
unfolding computed
ins-bytes-hold = refl

pub frame-lengths-hold : all_hold frame-lengths ≡ true
unfolding computed
frame-lengths-hold = refl

pub sfis-hold : all_hold sfis ≡ true
unfolding computed
sfis-hold = refl

pub offsets-hold : all_hold offsets ≡ true
unfolding computed
offsets-hold = refl

pub rights-created-hold : all_hold rights-created ≡ true
unfolding computed
rights-created-hold = refl

pub rights-asked-hold : all_hold rights-asked ≡ true
unfolding computed
rights-asked-hold = refl

pub pin-digits-hold : all_hold pin-digits ≡ true
unfolding computed
pin-digits-hold = refl

pub pin-tries-hold : all_hold pin-tries ≡ true
unfolding computed
pin-tries-hold = refl

pub orders-hold : all_hold orders ≡ true
unfolding computed
orders-hold = refl

pub staying-hold : all_hold staying ≡ true
unfolding computed
staying-hold = refl

pub cryptograms-hold : all_hold cryptograms ≡ true
unfolding computed
cryptograms-hold = refl

pub login-of-4-hold : all_hold login-of-4 ≡ true
unfolding computed
login-of-4-hold = refl

pub login-of-8-hold : all_hold login-of-8 ≡ true
unfolding computed
login-of-8-hold = refl

pub response-bytes-hold : all_hold response-bytes ≡ true
unfolding computed
response-bytes-hold = refl

pub issue-modes-hold : all_hold issue-modes ≡ true
unfolding computed
issue-modes-hold = refl

pub types-created-hold : all_hold types-created ≡ true
unfolding computed
types-created-hold = refl

pub fids-created-hold : all_hold fids-created ≡ true
unfolding computed
fids-created-hold = refl

pub creation-rights-hold : all_hold creation-rights ≡ true
unfolding computed
creation-rights-hold = refl

pub creation-asked-hold : all_hold creation-asked ≡ true
unfolding computed
creation-asked-hold = refl

pub folder-bytes-hold : all_hold folder-bytes ≡ true
unfolding computed
folder-bytes-hold = refl

pub codes-hold : all_hold codes ≡ true
unfolding computed
codes-hold = refl

pub unpresented-hold : all_hold unpresented ≡ true
unfolding computed
unpresented-hold = refl

pub coded-tries-hold : all_hold coded-tries ≡ true
unfolding computed
coded-tries-hold = refl

pub coded-rights-hold : all_hold coded-rights ≡ true
unfolding computed
coded-rights-hold = refl

pub coded-counts-hold : all_hold coded-counts ≡ true
unfolding computed
coded-counts-hold = refl

pub paddings-hold : all_hold paddings ≡ true
unfolding computed
paddings-hold = refl

pub code-late-hold : all_hold code-late ≡ true
unfolding computed
code-late-hold = refl

pub code-wrong-hold : all_hold code-wrong ≡ true
unfolding computed
code-wrong-hold = refl

pub code-served-hold : all_hold code-served ≡ true
unfolding computed
code-served-hold = refl

pub outsiders-hold : all_hold outsiders ≡ true
unfolding computed
outsiders-hold = refl

pub guessers-hold : all_hold guessers ≡ true
unfolding computed
guessers-hold = refl

pub edges-hold : EachHolds edges
edges-hold =
    (starred-hold, (framing-hold, (selecting-hold, (binaries-hold, (recording-hold, (variables-hold, (holding-rights-hold, (pins-hold, (devices-hold, (creating-hold, (calls-hold, (credentials-hold, (directories-hold, (sessions-hold, (folders-hold, (folder-states-hold, (fetching-hold, (discarding-hold, (modes-hold, (responses-hold, (login-hold, (login-fetched-hold, (class-bytes-hold, (ins-bytes-hold, (frame-lengths-hold, (sfis-hold, (offsets-hold, (rights-created-hold, (rights-asked-hold, (pin-digits-hold, (pin-tries-hold, (orders-hold, (staying-hold, (cryptograms-hold, (login-of-4-hold, (login-of-8-hold, (response-bytes-hold, (issue-modes-hold, (types-created-hold, (fids-created-hold, (creation-rights-hold, (creation-asked-hold, (folder-bytes-hold, (codes-hold, (unpresented-hold, (coded-tries-hold, (coded-rights-hold, (coded-counts-hold, (paddings-hold, (code-late-hold, (code-wrong-hold, (code-served-hold, (outsiders-hold, (guessers-hold, tt))))))))))))))))))))))))))))))))))))))))))))))))))))))
