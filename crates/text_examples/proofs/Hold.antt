-- Every row of the table holds, computed from the definitions: a statement for each group of rows, since one statement has a step limit, and
-- table-holds, that no group is left out.
-- Assumes nothing.
use mathlib.Core.Bool.{Bool, true}
use mathlib.Core.List.{List}
use mathlib.Core.Path.{◌≡◌, refl}
use Rattle.files.specs.Words.{all_below, seek}
use Rattle.files.specs.Part.{part, over}
use Rattle.files.specs.Types.{count, record_length, size, good_shape}
use Rattle.files.specs.Rights.{good_rights, good_file_rights}
use Rattle.files.specs.Directory.{used, start_at, extent, find_fid, find_folder}
use Rattle.files.specs.Record.{bytes_used, sound_held, sound_used, parted_file}
use Rattle.files.specs.Walk.{stands, past, walk, parted}
use Rattle.files.specs.Create.{good_contents, apart, good_folder}
use Rattle.files.specs.Sound.{sound_file, unused_place, sfis_differ, unused_folder, sound_folder, sound_folders, sound_directory, parted_area}
use Rattle.rules.specs.Words.{all_of, same}
use Rattle.rules.specs.Sound.{good_pin, good_value, sound_value, sound_tries, sound_credential, sound_challenge, sound_response, sound_journal, sound_current, sound_state, sound}
use Rattle.digits.specs.Digits.{digits_in, decimal, hex_digit, hex_of, or_dash, value}
use Rattle.texts.specs.Text.{line, credential_line, session_line, folder_line, folder_lines, folder_count, held_or_used, file_line, rows, contents, files_text, credential_lines, text}
use Rattle.texts.specs.Reading.{skip, pair, hex_in, number_from, number, small, tries_in, credential_in, home_in, session_in, response_in, file_in, pairs, past_row, rows_in, behind, files_in, bytes_in, folder_in, folders_in, laid, foldered, with_files, folders_read, files_part, card_in, area_in}
use Rattle.texts.specs.Calls.{to_text, accepted, from_text, converted}
use Rattle.text_examples.specs.Table.{Row, all_hold}
use Rattle.text_examples.specs.Examples.{documented, states, sizes, counts}
use Rattle.text_examples.specs.FieldRanges.{every-number, every_byte, every-digit, credentials-written, sessions-written}
use Rattle.text_examples.specs.FileRanges.{file-lines, line-counts, contents-written, files-written}
use Rattle.text_examples.specs.Longest.{longest-text, longest-new}
use Rattle.text_examples.specs.Whole.{sixteen-files, all-used, most-free}
use Rattle.text_examples.specs.Folders.{in-root, two-firms, folder-lines, bad-folders}
use Rattle.text_examples.specs.Refusals.{writer-refuses, reader-refuses, unsound-texts, other-forms}
use Rattle.text_examples.specs.Transport.{coded-files, line-misplaced}
use Rattle.text_examples.specs.Waiting.{waiting-written, waiting-read, more-read, modes-read}
use Rattle.text_examples.specs.Spoilt.{credentials-spoilt, session-spoilt, file-spoilt, cut-and-more}
use Rattle.text_examples.specs.Rows.{table, EachHolds}

-- whether rows hold, by computation: to unfold this is to unfold every definition that a row may need
computed : List Row → Bool
unfolding all_below part over count record_length size good_shape good_rights good_file_rights used start_at extent seek find_fid find_folder bytes_used sound_held sound_used parted_file stands past walk parted good_contents apart good_folder sound_file unused_place sfis_differ unused_folder sound_folder sound_folders sound_directory parted_area all_of same good_pin good_value sound_value sound_tries sound_credential sound_challenge sound_response sound_journal sound_current sound_state sound digits_in decimal hex_digit hex_of or_dash value line credential_line session_line folder_line folder_lines folder_count held_or_used file_line rows contents files_text credential_lines text skip pair hex_in number_from number small tries_in credential_in home_in session_in response_in file_in pairs past_row rows_in behind files_in bytes_in folder_in folders_in laid foldered with_files folders_read files_part card_in area_in to_text accepted from_text converted
computed = all_hold

pub documented-hold : all_hold documented ≡ true
unfolding computed
documented-hold = refl

pub states-hold : all_hold states ≡ true
unfolding computed
states-hold = refl

pub sizes-hold : all_hold sizes ≡ true
unfolding computed
sizes-hold = refl

pub counts-hold : all_hold counts ≡ true
unfolding computed
counts-hold = refl

pub every-number-hold : all_hold every-number ≡ true
unfolding computed
every-number-hold = refl

pub every-byte-hold : all_hold every_byte ≡ true
unfolding computed
every-byte-hold = refl

pub every-digit-hold : all_hold every-digit ≡ true
unfolding computed
every-digit-hold = refl

pub credentials-written-hold : all_hold credentials-written ≡ true
unfolding computed
credentials-written-hold = refl

pub sessions-written-hold : all_hold sessions-written ≡ true
unfolding computed
sessions-written-hold = refl

pub file-lines-hold : all_hold file-lines ≡ true
unfolding computed
file-lines-hold = refl

pub line-counts-hold : all_hold line-counts ≡ true
unfolding computed
line-counts-hold = refl

pub contents-written-hold : all_hold contents-written ≡ true
unfolding computed
contents-written-hold = refl

pub files-written-hold : all_hold files-written ≡ true
unfolding computed
files-written-hold = refl

pub waiting-written-hold : all_hold waiting-written ≡ true
unfolding computed
waiting-written-hold = refl

pub waiting-read-hold : all_hold waiting-read ≡ true
unfolding computed
waiting-read-hold = refl

pub more-read-hold : all_hold more-read ≡ true
unfolding computed
more-read-hold = refl

pub modes-read-hold : all_hold modes-read ≡ true
unfolding computed
modes-read-hold = refl

pub longest-text-hold : all_hold longest-text ≡ true
unfolding computed
longest-text-hold = refl

pub longest-new-hold : all_hold longest-new ≡ true
unfolding computed
longest-new-hold = refl

pub sixteen-files-hold : all_hold sixteen-files ≡ true
unfolding computed
sixteen-files-hold = refl

pub all-used-hold : all_hold all-used ≡ true
unfolding computed
all-used-hold = refl

pub most-free-hold : all_hold most-free ≡ true
unfolding computed
most-free-hold = refl

pub in-root-hold : all_hold in-root ≡ true
unfolding computed
in-root-hold = refl

pub two-firms-hold : all_hold two-firms ≡ true
unfolding computed
two-firms-hold = refl

pub folder-lines-hold : all_hold folder-lines ≡ true
unfolding computed
folder-lines-hold = refl

pub bad-folders-hold : all_hold bad-folders ≡ true
unfolding computed
bad-folders-hold = refl

pub writer-refuses-hold : all_hold writer-refuses ≡ true
unfolding computed
writer-refuses-hold = refl

pub reader-refuses-hold : all_hold reader-refuses ≡ true
unfolding computed
reader-refuses-hold = refl

pub unsound-texts-hold : all_hold unsound-texts ≡ true
unfolding computed
unsound-texts-hold = refl

pub other-forms-hold : all_hold other-forms ≡ true
unfolding computed
other-forms-hold = refl

pub coded-files-hold : all_hold coded-files ≡ true
unfolding computed
coded-files-hold = refl

pub line-misplaced-hold : all_hold line-misplaced ≡ true
unfolding computed
line-misplaced-hold = refl

pub credentials-spoilt-hold : all_hold credentials-spoilt ≡ true
unfolding computed
credentials-spoilt-hold = refl

pub session-spoilt-hold : all_hold session-spoilt ≡ true
unfolding computed
session-spoilt-hold = refl

pub file-spoilt-hold : all_hold file-spoilt ≡ true
unfolding computed
file-spoilt-hold = refl

pub cut-and-more-hold : all_hold cut-and-more ≡ true
unfolding computed
cut-and-more-hold = refl

pub table-holds : EachHolds table
table-holds =
    (documented-hold, (states-hold, (sizes-hold, (counts-hold, (every-number-hold, (every-byte-hold, (every-digit-hold, (credentials-written-hold, (sessions-written-hold, (file-lines-hold, (line-counts-hold, (contents-written-hold, (files-written-hold, (waiting-written-hold, (waiting-read-hold, (more-read-hold, (modes-read-hold, (longest-text-hold, (longest-new-hold, (sixteen-files-hold, (all-used-hold, (most-free-hold, (in-root-hold, (two-firms-hold, (folder-lines-hold, (bad-folders-hold, (writer-refuses-hold, (reader-refuses-hold, (unsound-texts-hold, (other-forms-hold, (coded-files-hold, (line-misplaced-hold, (credentials-spoilt-hold, (session-spoilt-hold, (file-spoilt-hold, (cut-and-more-hold, tt))))))))))))))))))))))))))))))))))))
