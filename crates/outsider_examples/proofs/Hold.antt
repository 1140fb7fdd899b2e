-- The examples, computed from the rules.
use Prim.Native.Nat.{ℕ, ◌≤◌, ◌<◌}
use mathlib.Core.Bool.{Bool, true, false}
use mathlib.Core.List.{List}
use mathlib.Core.Path.{◌≡◌, refl}
use native.Mathlib.Omega.{arith}
use lib.ListN.{length}
use Rattle.cipher.specs.Field.{x_power}
use Rattle.cipher.specs.SubBytes.{square, squares, inverse, sbox}
use Rattle.cipher.specs.MixColumns.{mix_column}
use Rattle.cipher.specs.KeyExpansion.{expanded, key_expansion}
use Rattle.cipher.specs.Cipher.{round_key, full_round, last_round, rounds, cipher, aes128}
use Rattle.codes.specs.Padding.{padded}
use Rattle.codes.specs.Chaining.{added, link, chain, first_blocks}
use Rattle.codes.specs.Code.{mac}
use Rattle.files.specs.Words.{all_below, seek}
use Rattle.files.specs.Part.{part, splice, over}
use Rattle.files.specs.Types.{count, record_length, size, good_shape}
use Rattle.files.specs.Rights.{all_held, any_held, allowed, good_rights, good_file_rights}
use Rattle.files.specs.Directory.{used, start_at, extent, is_place, in_area, find_fid, find_sfi, find_folder}
use Rattle.files.specs.Record.{back, next, bytes_used, places_held, place_of, records_held, start_of, length_of, located, located_in, next_place, next_start, entry, appended, sound_held, sound_used, parted_file, is_record, has_room}
use Rattle.files.specs.Walk.{stands, past, walk, parted, standing}
use Rattle.files.specs.Create.{good_contents, apart, name_unused, room, created, good_folder, fid_unused, founded}
use Rattle.files.specs.Sound.{sound_file, unused_place, sfis_differ, unused_folder, sound_folder, sound_folders, sound_directory, parted_area}
use Rattle.rules.specs.Words.{or_else, all_of, same}
use Rattle.rules.specs.Sound.{good_pin, good_value, sound_value, sound_tries, sound_credential, sound_challenge, sound_response, sound_journal, sound_current, sound_state, sound}
use Rattle.rules.specs.Frame.{case_of, framed}
use Rattle.rules.specs.List.{rows, find, listed, rule}
use Rattle.rules.specs.Select.{select_checks}
use Rattle.rules.specs.Binary.{read_count, read_binary_checks, update_binary_checks}
use Rattle.rules.specs.Target.{target}
use Rattle.rules.specs.Record.{record_found, read_record_checks, update_record_checks, append_checks}
use Rattle.rules.specs.Pins.{compared_at, verify_checks, change_checks, reload_checks}
use Rattle.rules.specs.Device.{authenticate_checks, get_challenge_checks}
use Rattle.rules.specs.Create.{file_given, folder_given, good_folder_given, creation_right, create_checks}
use Rattle.rules.specs.Response.{wait_sw, get_response_checks, fetches, fetched}
use Rattle.rules.specs.Code.{code_sw, presents_code, credentials_after}
use Rattle.rules.specs.Step.{checks, effect_of, kept, outcome, settled, at_once, step}
use Rattle.rules.specs.Calls.{command, reset, good_order, issue}
use Rattle.rules.specs.State.{Which, user, transport, number_of}
use Rattle.edges.specs.Outsiders.{Drawer, binary, cyclic, notes, asking, never, place, others, guesses, other-pin}
use Rattle.demands.specs.Ledger.{Event, size_of}
use Rattle.demands.specs.Held.{IsFile, file_no, label_no, size_of_first, bytes_no}
use Rattle.demands.specs.Run.{World, SoundWorld}
use Rattle.demands.specs.Outsider.{with_contents}
use Rattle.demands.proofs.Outsider.{outsider, other-bytes}
use Rattle.demands.proofs.Guesser.{unguessed, other-value}
use Rattle.outsider_examples.specs.Tests.{closed_all, lengths_same, wrong_all}
use Rattle.outsider_examples.specs.Examples.{box, events, told, Unread, box_with_value, Unlearned, PinUnlearned, other_key, wrong-code, CodeUnlearned}
use Rattle.outsider_examples.proofs.Apply.{lengths-told, closed-before, wrong-before}

-- to unfold this is to unfold every rule that an example may need
computed : ℕ → World → List Event → Bool
unfolding x_power square squares inverse sbox mix_column expanded key_expansion round_key full_round last_round rounds cipher aes128 padded added link chain first_blocks mac all_below part splice over count record_length size good_shape all_held any_held allowed good_rights good_file_rights used start_at extent is_place in_area seek find_fid find_sfi find_folder back next bytes_used places_held place_of records_held start_of length_of located located_in next_place next_start entry appended sound_held sound_used parted_file is_record has_room stands past walk parted standing good_contents apart name_unused room created good_folder fid_unused founded sound_file unused_place sfis_differ unused_folder sound_folder sound_folders sound_directory parted_area or_else all_of same good_pin good_value sound_value sound_tries sound_credential sound_challenge sound_response sound_journal sound_current sound_state sound case_of framed rows find listed rule select_checks target read_count read_binary_checks update_binary_checks record_found read_record_checks update_record_checks append_checks compared_at verify_checks change_checks reload_checks authenticate_checks get_challenge_checks file_given folder_given good_folder_given creation_right create_checks wait_sw get_response_checks fetches code_sw presents_code credentials_after checks effect_of kept outcome settled at_once fetched step command reset good_order issue closed_all wrong_all size_of size_of_first
computed = closed_all

is-sound : (later : Bool) → SoundWorld (box later)
unfolding computed
is-sound false = record { sound-card = refl; size_is = refl }
is-sound true = record { sound-card = refl; size_is = refl }

-- of all files only the first is read by right
only-open : (later : Bool) → closed_all 1 (box later) (told later) ≡ true
unfolding computed
only-open false = refl
only-open true = refl

-- the closed files: each is there, past the first; the other bytes have its size, and the same length bytes
behind : (x : Drawer) → 1 < place x
behind binary = omega arith
behind cyclic = omega arith
behind notes = omega arith
behind asking = omega arith
behind never = omega arith

there : (later : Bool) (x : Drawer) → IsFile (box later).card (place x)
there later x = record { first = omega (arith, behind x); last = low x }
  where
    low : (x : Drawer) → place x ≤ 6
    low binary = omega arith
    low cyclic = omega arith
    low notes = omega arith
    low asking = omega arith
    low never = omega arith

long : (later : Bool) (x : Drawer) → length (others x) ≡ size_of (label_no (box later).card (place x))
unfolding computed
long later binary = refl
long later cyclic = refl
long later notes = refl
long later asking = refl
long later never = refl

lengths : (later : Bool) (x : Drawer) → lengths_same (file_no (box later).card (place x)) (bytes_no (box later).card (box later).area (place x)) (others x) ≡ true
unfolding computed
lengths later binary = refl
lengths later cyclic = refl
lengths later notes = refl
lengths later asking = refl
lengths later never = refl

pub unread : Unread
unread later x =
    let n = place x in
    let w = box later in
    let s = is-sound later in
    let o = other-bytes n (others x) w s (there later x) (long later x) (lengths-told (file_no w.card n) (bytes_no w.card w.area n) (others x) (lengths later x)) in
    outsider n w (with_contents n (others x) w) (told later) s o.0 o.1.0
    (closed-before 1 n w (with_contents n (others x) w) (told later) s (behind x) (only-open later))

-- a credential: another good value, and calls of which none presents it rightly on either card
apply : (which : Which) (value : List ℕ) (es : List Event) → good_value (number_of which) value ≡ true
    → wrong_all which (box false) (box_with_value which value) es ≡ true → Unlearned which value es
apply which value es good wrong =
    let s = is-sound false in
    let o = other-value which value (box false) s good in
    unguessed which (box false) (box_with_value which value) es s o.0 o.1.0 (wrong-before which (box false) (box_with_value which value) es wrong)

pub pin-unlearned : PinUnlearned
unfolding computed
pin-unlearned = apply user other-pin (events guesses) refl refl

pub code-unlearned : CodeUnlearned
unfolding computed
code-unlearned = apply transport other_key wrong-code refl refl
