-- No second answer: each condition is decided, by the test that the rules have for it, and each effect says one thing.
use Prim.Native.Nat.{ℕ, ◌+◌, ◌-◌, ◌*◌, ◌%◌, ◌≤◌, ◌<◌, min}
use mathlib.Core.Bool.{Bool, true, false, ◌&&◌, ◌||◌, not}
use mathlib.Core.List.{List, [], ◌∷◌, List-discrete}
use mathlib.Core.Logic.{◌⊎◌, inl, inr, ⊎_elim, by_cases}
use mathlib.Core.Path.{◌≡◌, refl, sym, ◌∙◌, subst, ap}
use native.Mathlib.Decide.{ℕ_discrete}
use native.Mathlib.Omega.{arith}
use lib.Dec.{eqb, leb, ltb}
use lib.ListN.{length, take, drop, get_or}
use borrow.Author.Tests.{eqb-true, eq-eqb, leb-true, le-leb, ltb-true, lt-ltb}
use Rattle.files.specs.declared.File.{File}
use Rattle.files.specs.Words.{is_zero}
use Rattle.files.specs.Rights.{asks_code}
use Rattle.files.specs.Types.{has_records}
use Rattle.files.specs.Directory.{good_sfi, find_fid, find_folder}
use Rattle.files.specs.Record.{grows, is_record, has_room}
use Rattle.files.specs.Create.{good_contents, name_unused, room, fid_unused}
use Rattle.files.specs.State.{new_file, in_folder}
use Rattle.files.proofs.Checks.{clash, both, join}
use Rattle.rules.specs.declared.Card.{Card}
use Rattle.rules.specs.declared.Credential.{Credential}
use Rattle.rules.specs.Words.{all_of, byte}
use Rattle.rules.specs.State.{mode, waiting, with_credentials}
use Rattle.rules.specs.Sound.{digit, good_challenge, sound}
use Rattle.rules.specs.Frame.{Command, framed, coded}
use Rattle.rules.specs.Binary.{by_sfi}
use Rattle.rules.specs.Target.{target, opens}
use Rattle.rules.specs.Record.{good_p2, record_target, record_found}
use Rattle.rules.specs.Create.{is_folder, good_folder_given, creation_right}
use Rattle.rules.specs.Pins.{pin_given}
use Rattle.rules.specs.Effect.{Stepped}
use Rattle.rules.proofs.Checks.{one_of, either}
use Rattle.rules.proofs.Good.{sound-good, responded}
use Rattle.rules.proofs.Targets.{not-zero}
use Rattle.demands.specs.Held.{file_no, bytes_no, Named, records_of, value_no, right_no, left_no, limit_no, Opens, AsksCode, label_no, HeldOn, binary_sfi, record_sfi}
use Rattle.demands.specs.Ledger.{size_of, code_sent, code_of}
use Rattle.demands.proofs.Named.{named-target, target-named, the-fid, found-fid, the-folder, found-folder, opens-asked, asked-opens}
use Rattle.served.specs.Left.{challenge, with_key_tries, Ask, Says, Left, Refused, Kept, Fetched}
use Rattle.served.specs.Answers.{WithCode, CodeAgrees}
use Rattle.served.specs.Answers as answers
use Rattle.served.specs.One.{SameAnswer, OneAnswer}
use Rattle.served.proofs.View.{held-sound}
use Rattle.served.proofs.Frames.{some-data, read-test, read-to, to_read, write-test, write-to, to_write}
use Rattle.served.proofs.Codes.{code-to, to-code, key-few, tries-sound}
use Rattle.served.proofs.Append.{append-p, p-append, grows-to, to-grows, lc-to, to-lc, room-to, to_room}
use Rattle.served.proofs.Records.{record-p, p-record, has-to, to-has, there-to, to-there}
use Rattle.served.proofs.Binary.{p-to, to-p}
use Rattle.served.proofs.Credentials.{digits-to, to-digits, given_to, to-given, le-to, to_le}
use Rattle.served.proofs.Create as create

no_bytes : (d : List ℕ) → length d ≡ 0 → d ≡ []
no_bytes [] e = refl
no_bytes (b ∷ d) e = absurd (omega (arith, e))

-- of two areas, which may be one; R is what is to be shown, and the same answer shows it
module _ (c : Card) (area other random cmd : List ℕ) (s t : Stepped) (h : sound c area ≡ true) (R : Type 0) (same : SameAnswer s t → R) where
  abbrev k : Command
  k = framed cmd

  -- a file's bytes are asked, and are the same, or R is shown otherwise
  abbrev pub Alike : ℕ → (File → ℕ) → Type 0
  Alike sfi right =
      (n : ℕ) → Named c sfi n → Opens (HeldOn c) (right (file_no c n)) → (AsksCode (right (file_no c n)) → WithCode cmd) → (bytes_no c area n ≡ bytes_no c other n → R) → R

  -- one word and the same data
  pub says_same : (sw : ℕ) (d : List ℕ) → Says c sw d s → Says c sw d t → R
  says_same sw d p q =
      by_cases (ℕ_discrete (mode c) 0)
      (λ z. let a = p.at-once z in let b = q.at-once z in same (record { sw-is = a.0 ∙ sym b.0; bytes-are = a.1 ∙ sym b.1; waiting-are = a.2 ∙ sym b.2 }))
      (λ o. let low = leb-true (mode c) 1 (responded c.response (sound-good c area h).response).mode in
      let one : mode c ≡ 1 = omega (arith, o, low) in
      let a = p.later one in
      let b = q.later one in
      let word : s.sw ≡ t.sw =
      by_cases (ℕ_discrete (length d) 0) (λ z. p.no-data one (no_bytes d z) ∙ sym (q.no-data one (no_bytes d z)))
      (λ n. let some : 1 ≤ length d = omega (arith, n) in p.some-data one some ∙ sym (q.some-data one some)) in
      same (record { sw-is = word; bytes-are = a.0 ∙ sym b.0; waiting-are = a.1 ∙ sym b.1 }))

  -- a condition that is decided
  pub ask-same : {A N M : Type 0} {sw : ℕ} (b : Bool) → (b ≡ true → A) → (A → b ≡ true) → Ask (λ w. Refused c area w s) A sw N → Ask (λ w. Refused c other w t) A sw M → (A → N → M → R)
      → R
  ask-same true to back p q f = f (to refl) (p.1 (to refl)) (q.1 (to refl))
  ask-same {sw = sw} false to back p q f =
      let o : _ → ⊥ = λ a. clash false (back a) refl in says_same sw [] (p.0 o).says (q.0 o).says

  -- a file that is named
  file-same : (x : ℕ) {N M : ℕ → Type 0} → answers.AsksFile c area random cmd s x N → answers.AsksFile c other random cmd t x M → (Named c x (target c x) → N (target c x) → M (target c x) → R) → R
  file-same x p q f = go (is_zero (target c x)) refl
    where
      go : (b : Bool) → is_zero (target c x) ≡ b → R
      go true z =
          let none : (n : ℕ) → Named c x n → ⊥ = λ n w. omega (arith, eqb-true (target c x) 0 z, named-target c (sound-good c area h) x n w, w.there.first) in
          says_same 0x6A82 [] (p.0 none).says (q.0 none).says
      go false z = let w = target-named c (sound-good c area h) x (not-zero (target c x) z) in f w (p.1 (target c x) w) (q.1 (target c x) w)

  p-same : {N M : Type 0} {n sw : ℕ} → Ask (λ w. Refused c area w s) (k.p1 * 256 + k.p2 ≡ n) sw N → Ask (λ w. Refused c other w t) (k.p1 * 256 + k.p2 ≡ n) sw M → (N → M → R) → R
  p-same {n = n} p q f = ask-same (eqb (k.p1 * 256 + k.p2) n) (eqb-true _ _) (eq-eqb _ _) p q (λ a. f)

  -- a file's right, and the code that it asks
  right-same : {N M : Type 0} (right : ℕ) → answers.AsksRight c area random cmd s right N → answers.AsksRight c other random cmd t right M
      → (Opens (HeldOn c) right → (AsksCode right → WithCode cmd) → N → M → R) → R
  right-same right p q f =
      ask-same (opens c right) (opens-asked c right) (asked-opens c right) p q (λ o p q.
      ask-same (not (asks_code right) || coded (framed cmd)) (code-to cmd right) (to-code cmd right o.not-never) p q (f o))

  -- case 3 with a fixed Lc
  lc-same : {N M : Type 0} {n sw : ℕ} → Ask (λ w. Refused c area w s) ((k.case ≡ 3) × (length k.given ≡ n)) sw N → Ask (λ w. Refused c other w t) ((k.case ≡ 3) × (length k.given ≡ n)) sw M
      → (N → M → R) → R
  lc-same {n = n} p q f =
      ask-same (eqb k.case 3 && eqb (length k.given) n) (λ b. let e = both (eqb k.case 3) (eqb (length k.given) n) b in (eqb-true _ _ e.0, eqb-true _ _ e.1))
      (λ e. join (eq-eqb _ _ e.0) (eq-eqb _ _ e.1)) p q (λ a. f)

  pin-same : {N M : Type 0} {sw : ℕ} → Ask (λ w. Refused c area w s) ((k.case ≡ 3) × (6 ≤ length k.given) × (length k.given ≤ 16)) sw N
      → Ask (λ w. Refused c other w t) ((k.case ≡ 3) × (6 ≤ length k.given) × (length k.given ≤ 16)) sw M → (N → M → R) → R
  pin-same p q f = ask-same (pin_given k) (given_to k) (to-given k) p q (λ a. f)

  digits_same : {N M : Type 0} {sw : ℕ} → Ask (λ w. Refused c area w s) (answers.Digits k.given) sw N → Ask (λ w. Refused c other w t) (answers.Digits k.given) sw M → (N → M → R)
      → R
  digits_same p q f = ask-same (all_of digit k.given) (digits-to k.given) (to-digits k.given) p q (λ a. f)

  held_same : (n : ℕ) {N M : Type 0} {sw : ℕ} → Ask (λ w. Refused c area w s) (right_no c n ≡ 1) sw N → Ask (λ w. Refused c other w t) (right_no c n ≡ 1) sw M → (N → M → R) → R
  held_same n p q f = ask-same (eqb (right_no c n) 1) (eqb-true _ _) (eq-eqb _ _) p q (λ a. f)

  some_same : {N M : Type 0} {n sw : ℕ} → Ask (λ w. Refused c area w s) (1 ≤ n) sw N → Ask (λ w. Refused c other w t) (1 ≤ n) sw M → (N → M → R) → R
  some_same {n = n} p q f = ask-same (leb 1 n) (leb-true _ _) (le-leb _ _) p q (λ a. f)

  pin-p : {N M : Type 0} {n sw : ℕ} → Ask (λ w. Refused c area w s) ((k.p1 ≡ n) × (k.p2 ≤ 1)) sw N → Ask (λ w. Refused c other w t) ((k.p1 ≡ n) × (k.p2 ≤ 1)) sw M → (N → M → R) → R
  pin-p {n = n} p q f =
      ask-same (eqb k.p1 n && leb k.p2 1) (λ b. let e = both (eqb k.p1 n) (leb k.p2 1) b in (eqb-true _ _ e.0, leb-true _ _ e.1))
      (λ e. join (eq-eqb _ _ e.0) (le-leb k.p2 1 e.1)) p q (λ a. f)

  -- right or wrong
  compared_same : (n : ℕ) (expected : List ℕ) → answers.Compared c area random cmd s n expected → answers.Compared c other random cmd t n expected → R
  compared_same n expected p q =
      by_cases (List-discrete ℕ_discrete expected k.given) (λ e. says_same 0x9000 [] (p.equal e).says (q.equal e).says)
      (λ o. says_same (answers.counted (left_no c n - 1)) [] (p.unequal o).says (q.unequal o).says)

  queried-same : (n : ℕ) → answers.Queried c area random cmd s n → answers.Queried c other random cmd t n → R
  queried-same n p q =
      by_cases (ℕ_discrete (right_no c n) 1) (λ e. says_same 0x9000 [] (p.held e).says (q.held e).says)
      (λ o. by_cases (ℕ_discrete (left_no c n) 0) (λ z. says_same 0x6983 [] (p.blocked o z).says (q.blocked o z).says)
      (λ m. let some : 1 ≤ left_no c n = omega (arith, m) in says_same (answers.counted (left_no c n)) [] (p.tries o some).says (q.tries o some).says))

  -- ---- the credentials
  pub verify-same : answers.Verify c area random cmd s → answers.Verify c other random cmd t → R
  verify-same p q =
      pin-p p q (λ p q.
      ask-same (eqb k.case 1 || pin_given k) (λ b. one_of (eqb k.case 1) (pin_given k) b (λ z. inl (eqb-true _ _ z)) (λ z. inr (given_to k z)))
      (⊎_elim (λ z. rw (eq-eqb k.case 1 z)) (λ z. either (eqb k.case 1) (to-given k z))) p q (λ a p q.
      ⊎_elim (λ one. queried-same (k.p2 + 1) (p.0 one) (q.0 one))
      (λ g. some_same (p.1 g.0) (q.1 g.0) (λ p q. digits_same p q (λ p q. compared_same (k.p2 + 1) (value_no c (k.p2 + 1)) p q))) a))

  pub change-same : answers.ChangePin c area random cmd s → answers.ChangePin c other random cmd t → R
  change-same p q = pin-p p q (λ p q. pin-same p q (λ p q. held_same (k.p2 + 1) p q (λ p q. digits_same p q (λ p q. says_same 0x9000 [] p.says q.says))))

  pub reload-same : answers.ReloadPin c area random cmd s → answers.ReloadPin c other random cmd t → R
  reload-same p q = p-same p q (λ p q. pin-same p q (λ p q. held_same 1 p q (λ p q. digits_same p q (λ p q. says_same 0x9000 [] p.says q.says))))

  pub authenticate-same : answers.Authenticate c area random cmd s → answers.Authenticate c other random cmd t → R
  authenticate-same p q = p-same p q (λ p q. lc-same p q (λ p q. some_same p q (λ p q. some_same p q (λ p q. compared_same 0 (answers.cryptogram c area random cmd s) p q))))

  pub challenge-same : answers.GetChallenge c area random cmd s → answers.GetChallenge c other random cmd t → R
  challenge-same p q =
      p-same p q (λ p q.
      ask-same (eqb k.case 2 && good_challenge k.le) (λ b. let e = both (eqb k.case 2) (good_challenge k.le) b in (eqb-true _ _ e.0, le-to k.le e.1))
      (λ e. join (eq-eqb _ _ e.0) (to_le k.le e.1)) p q (λ a p q. says_same 0x9000 _ p.says q.says))

  -- ---- the files
  pub select-same : answers.Select c area random cmd s → answers.Select c other random cmd t → R
  select-same p q =
      let fid : ℕ = answers.fid c area random cmd s in
      let g = sound-good c area h in
      let n : ℕ = find_fid c.directory c.session.folder fid in
      let m : ℕ = find_folder c.directory fid in
      p-same p q (λ p q. lc-same p q (λ p q.
      by_cases (ℕ_discrete (find_fid c.directory c.session.folder fid) 0)
      (λ z. let none : (i : ℕ) → answers.FileHas c fid i → ⊥ = λ i w. omega (arith, z, the-fid c g c.session.folder fid i w.within w.fid-is, w.within.there.first) in
      by_cases (ℕ_discrete (find_folder c.directory fid) 0)
      (λ y. let nowhere : (i : ℕ) → answers.FolderHas c fid i → ⊥ = λ i w. omega (arith, y, the-folder c g fid i w.there w.fid-is, w.there.first) in
      by_cases (ℕ_discrete fid 0x3F00) (λ e. says_same 0x9000 [] (p.root none nowhere e).says (q.root none nowhere e).says)
      (λ o. says_same 0x6A82 [] (p.none none nowhere o).says (q.none none nowhere o).says))
      (λ y. let w = found-folder c fid (omega (arith, y)) in
      let has : answers.FolderHas c fid (find_folder c.directory fid) = record { there = w.0; fid-is = w.1 } in
      says_same 0x9000 [] (p.directory none m has).says (q.directory none m has).says))
      (λ z. let w = found-fid c g c.session.folder fid (omega (arith, z)) in
      let has : answers.FileHas c fid (find_fid c.directory c.session.folder fid) = record { within = w.0; fid-is = w.1 } in
      says_same 0x9000 [] (p.file n has).says (q.file n has).says)))

  binary-same : (right : File → ℕ) {N M : ℕ → Type 0} → answers.AsksBinary c area random cmd s right N → answers.AsksBinary c other random cmd t right M
      → ((n : ℕ) → Named c (binary_sfi k) n → Opens (HeldOn c) (right (file_no c n)) → (AsksCode (right (file_no c n)) → WithCode cmd) → N n → M n → R) → R
  binary-same right p q f =
      let x = binary_sfi k in
      file-same x p q (λ w p q.
      ask-same (eqb (file_no c (target c x)).kind 0x28) (eqb-true _ _) (eq-eqb _ _) p q (λ a p q. right-same (right (file_no c (target c x))) p q (λ held code p q.
      ask-same (ltb (answers.offset c area random cmd s) (size_of (label_no c (target c x)))) (ltb-true _ _) (lt-ltb _ _) p q (λ a p q. f (target c x) w held code p q))))

  reads-binary-same : Alike (binary_sfi k) (λ f. f.read) → answers.ReadsBinary c area random cmd s → answers.ReadsBinary c other random cmd t → R
  reads-binary-same alike p q =
      binary-same (λ (f : File). f.read) p q (λ n there held code p q.
      let o = answers.offset c area random cmd s + k.le in
      ask-same (eqb k.le 256 || leb o (size_of (label_no c n))) (λ b. one_of (eqb k.le 256) (leb o (size_of (label_no c n))) b (λ z. inl (eqb-true _ _ z)) (λ z. inr (leb-true _ _ z)))
      (⊎_elim (λ z. rw (eq-eqb k.le 256 z)) (λ z. either (eqb k.le 256) (le-leb _ _ z))) p q (λ a p q.
      alike n there held code (λ e.
      says_same 0x9000 _ p.says (subst (λ (b : List ℕ). Says c 0x9000 (take k.le (drop (answers.offset c area random cmd s) b)) t) (sym e) q.says))))

  updates-binary-same : answers.UpdatesBinary c area random cmd s → answers.UpdatesBinary c other random cmd t → R
  updates-binary-same p q =
      binary-same (λ (f : File). f.write) p q (λ n there held code p q.
      ask-same (leb (answers.offset c area random cmd s + length k.given) (size_of (label_no c n))) (leb-true _ _) (le-leb _ _) p q (λ a p q. says_same 0x9000 [] p.written.says q.written.says))

  -- record number P1 of a file with these bytes
  abbrev at-p1 : ℕ → List ℕ → List ℕ
  at-p1 n b = get_or (records_of (file_no c n) b) (k.p1 - 1) []

  -- what is asked from the number on goes by the file's bytes
  record_same : 1 ≤ k.p1 → (right : File → ℕ) → Alike (record_sfi k) right → (N M : ℕ → List ℕ → Type 0) → answers.AsksRecord c area random cmd s right (λ n. N n (bytes_no c area n))
      → answers.AsksRecord c other random cmd t right (λ n. M n (bytes_no c other n)) → ((n : ℕ) (b : List ℕ) → N n b → M n b → R) → R
  record_same low right alike N M p q f =
      file-same (record_sfi k) p q (λ w p q.
      let n : ℕ = record_target c k in
      let file = file_no c (record_target c k) in
      ask-same (has_records file) (has-to file) (to-has file) p q (λ has p q. right-same (right file) p q (λ held code p q.
      alike n w held code (λ e.
      let q-here = subst (λ (b : List ℕ). Ask (λ v. Refused c other v t) (k.p1 ≤ length (records_of file b)) 0x6A83 (M n b)) (sym e) q in
      ask-same (record_found c area k).there (there-to c area h k w.there has) (to-there c area h k w.there has low) p q-here (λ b p q. f n (bytes_no c area n) p q)))))

  reads-record-same : 1 ≤ k.p1 → Alike (record_sfi k) (λ f. f.read) → answers.ReadsRecord c area random cmd s → answers.ReadsRecord c other random cmd t → R
  reads-record-same low alike p q =
      record_same low (λ (f : File). f.read) alike
      (λ n b. Ask (λ w. Refused c area w s) ((k.le ≡ 256) ⊎ (k.le ≡ length (at-p1 n b))) (0x6C00 + length (at-p1 n b)) (Left c area 0x9000 (at-p1 n b) n [] s))
      (λ n b. Ask (λ w. Refused c other w t) ((k.le ≡ 256) ⊎ (k.le ≡ length (at-p1 n b))) (0x6C00 + length (at-p1 n b)) (Left c other 0x9000 (at-p1 n b) n [] t)) p q (λ n b p q.
      let m = length (at-p1 n b) in
      ask-same (eqb k.le 256 || eqb k.le m) (λ y. one_of (eqb k.le 256) (eqb k.le m) y (λ z. inl (eqb-true _ _ z)) (λ z. inr (eqb-true _ _ z)))
      (⊎_elim (λ z. rw (eq-eqb k.le 256 z)) (λ z. either (eqb k.le 256) (eq-eqb _ _ z))) p q (λ a p q. says_same 0x9000 _ p.says q.says))

  updates-record-same : 1 ≤ k.p1 → Alike (record_sfi k) (λ f. f.write) → answers.UpdatesRecord c area random cmd s → answers.UpdatesRecord c other random cmd t → R
  updates-record-same low alike p q =
      record_same low (λ (f : File). f.write) alike
      (λ n b. Ask (λ w. Refused c area w s) (length k.given ≡ length (at-p1 n b)) 0x6700 (answers.RecordUpdated c area random cmd s n))
      (λ n b. Ask (λ w. Refused c other w t) (length k.given ≡ length (at-p1 n b)) 0x6700 (answers.RecordUpdated c other random cmd t n)) p q (λ n b p q.
      ask-same (eqb (length k.given) (length (at-p1 n b))) (eqb-true _ _) (eq-eqb _ _) p q (λ a p q. says_same 0x9000 [] p.written.says q.written.says))

  appends-same : 1 ≤ length k.given → answers.AppendsRecord c area random cmd s → answers.AppendsRecord c other random cmd t → R
  appends-same some p q =
      file-same (record_sfi k) p q (λ w p q.
      let file = file_no c (record_target c k) in
      let n : ℕ = length k.given in
      ask-same (grows file) (grows-to file) (to-grows file) p q (λ g p q. right-same file.write p q (λ held code p q.
      ask-same (is_record file n) (lc-to file n) (to-lc file n g some) p q (λ l p q.
      ask-same (has_room file n) (room-to file n) (to_room file n g (held-sound c area h (record_target c k) w.there) (to-lc file n g some l)) p q (λ b p q.
      says_same 0x9000 [] p.written.says q.written.says)))))

  pub create-same : answers.CreateFile c area random cmd s → answers.CreateFile c other random cmd t → R
  create-same p q =
      let n : ℕ = k.p1 * 256 + k.p2 in
      let file =
      in_folder c.session.folder
      (new_file k.p1 k.p2 (byte k.given 0) (byte k.given 1) (byte k.given 2) (byte k.given 3) (byte k.given 4)) in
      ask-same (good_sfi ((k.p1 * 256 + k.p2) % 32)) (λ b. let e = both (leb 1 ((k.p1 * 256 + k.p2) % 32)) (leb ((k.p1 * 256 + k.p2) % 32) 30) b in (leb-true _ _ e.0, leb-true _ _ e.1))
      (λ e. join (le-leb 1 ((k.p1 * 256 + k.p2) % 32) e.0) (le-leb ((k.p1 * 256 + k.p2) % 32) 30 e.1)) p q (λ a p q. lc-same p q (λ p q.
      ask-same (opens c (creation_right c)) (create.may-to c k) (create.to-may c k) p q (λ a p q.
      ask-same (not (is_folder k) || is_zero c.session.folder) (create.root-to c k) (create.to-root c k) p q (λ a p q.
      by_cases (ℕ_discrete (byte k.given 0) 0x38)
      (λ z. let u = p.0 z in
      let v = q.0 z in
      ask-same (good_folder_given k) (create.given_to c k) (create.to-given c k) u v (λ a p q.
      ask-same (fid_unused c.directory n) (create.fid-to c area h n) (create.to-fid c area h n) p q (λ a p q.
      ask-same (ltb c.directory.number 4) (ltb-true _ _) (lt-ltb _ _) p q (λ a p q. says_same 0x9000 [] p.says q.says))))
      (λ o. let u = p.1 o in
      let v = q.1 o in
      ask-same (good_contents file) (create.contents-to file) (create.to-contents file) u v (λ a p q.
      ask-same (name_unused c.directory file) (create.unused-to c area h file n refl refl) (create.to-unused c area h file n refl refl) p q (λ a p q.
      ask-same (room c.directory file) (create.room-to c area h file) (create.to_room c area h file) p q (λ a p q. says_same 0x9000 [] p.says q.says))))))))

  -- ---- GET RESPONSE: refused with all kept, or the next bytes
  kept_same : {sw : ℕ} → Kept c area sw s → Kept c other sw t → R
  kept_same p q =
      same (record { sw-is = p.sw-is ∙ sym q.sw-is; bytes-are = p.bytes-are ∙ sym q.bytes-are; waiting-are = ap waiting p.card-is ∙ sym (ap waiting q.card-is) })

  keep_same : {A N M : Type 0} {sw : ℕ} (b : Bool) → (b ≡ true → A) → (A → b ≡ true) → Ask (λ w. Kept c area w s) A sw N → Ask (λ w. Kept c other w t) A sw M → (N → M → R) → R
  keep_same true to back p q f = f (p.1 (to refl)) (q.1 (to refl))
  keep_same false to back p q f = let o : _ → ⊥ = λ a. clash false (back a) refl in kept_same (p.0 o) (q.0 o)

  fetched-same : (n : ℕ) → n ≤ length (waiting c) → Fetched c area n s → Fetched c other n t → R
  fetched-same n low p q =
      let word : s.sw ≡ t.sw =
      by_cases (ℕ_discrete n (length (waiting c))) (λ e. p.none-remain e ∙ sym (q.none-remain e))
      (λ o. let l : n < length (waiting c) = omega (arith, o, low) in p.some-remain l ∙ sym (q.some-remain l)) in
      same (record { sw-is = word; bytes-are = p.bytes-are ∙ sym q.bytes-are; waiting-are = p.waiting-are ∙ sym q.waiting-are })

  pub response-same : answers.GetResponse c area random cmd s → answers.GetResponse c other random cmd t → R
  response-same p q =
      let n = length (waiting c) in
      ask-same (eqb (mode c) 1) (eqb-true _ _) (eq-eqb _ _) p q (λ a p q.
      keep_same (eqb (k.p1 * 256 + k.p2) 0x0000) (eqb-true _ _) (eq-eqb _ _) p q (λ p q.
      keep_same (eqb k.case 2) (eqb-true _ _) (eq-eqb _ _) p q (λ p q.
      keep_same (leb 1 (length (waiting c))) (leb-true _ _) (le-leb _ _) p q (λ p q.
      keep_same (eqb k.le 256 || leb k.le n) (λ y. one_of (eqb k.le 256) (leb k.le n) y (λ z. inl (eqb-true _ _ z)) (λ z. inr (leb-true _ _ z)))
      (⊎_elim (λ z. rw (eq-eqb k.le 256 z)) (λ z. either (eqb k.le 256) (le-leb _ _ z))) p q (λ p q.
      fetched-same (min k.le (length (waiting c))) (omega arith) p q)))))

-- ---- the five whole: P, case, the code, and the file on the card that it leaves
module _ (c : Card) (area other random cmd : List ℕ) (s t : Stepped) (h : sound c area ≡ true) (R : Type 0) (same : SameAnswer s t → R) where
  abbrev l : Command
  l = framed cmd

  -- what the file's checks have in common, on each card that a code may leave
  abbrev pub Behind : Type 0 → Type 0 → (Card → Type 0) → (Card → Type 0) → Type 0
  Behind P Case N M =
      (xs : List Credential) → sound (with_credentials c xs) area ≡ true → P → Case → (WithCode cmd → CodeAgrees c cmd) → N (with_credentials c xs) → M (with_credentials c xs) → R

  contents-same : {P Case : Type 0} (N M : Card → Type 0) (a b : Bool) → (a ≡ true → P) → (P → a ≡ true) → (b ≡ true → Case) → (Case → b ≡ true)
      → answers.AsksContents c area random cmd s P Case N → answers.AsksContents c other random cmd t P Case M → Behind P Case N M → R
  contents-same N M a b p-to to-p case-to to-case p q f =
      ask-same c area other random cmd s t h R same a p-to to-p p q (λ here p q.
      ask-same c area other random cmd s t h R same b case-to to-case p q (λ case p q.
      by_cases (ℕ_discrete (framed cmd).cla 0x04)
      (λ w. some_same c area other random cmd s t h R same (p.1 w) (q.1 w) (λ p q.
      some_same c area other random cmd s t h R same p q (λ p q.
      by_cases (List-discrete ℕ_discrete (code_of (value_no c 3) (challenge c) cmd) (code_sent cmd))
      (λ e. f (with_key_tries c (limit_no c 3)).credentials (tries-sound c area h (limit_no c 3) (omega arith)) here case (λ z. e) (p.1 e) (q.1 e))
      (λ o. let few : left_no c 3 - 1 ≤ limit_no c 3 = omega (arith, key-few c area h) in
      says_same (with_key_tries c (left_no c 3 - 1)) area other random cmd s t (tries-sound c area h (left_no c 3 - 1) few) R same 0x6988 [] (p.0 o).says (q.0 o).says))))
      (λ o. f c.credentials h here case (λ w. absurd (o w)) (p.0 o) (q.0 o))))

  -- another file has the same bytes, whichever card is left
  abbrev pub AlikeOn : ℕ → (File → ℕ) → Type 0
  AlikeOn sfi right =
      (n : ℕ) → Named c sfi n → Opens (HeldOn c) (right (file_no c n)) → (AsksCode (right (file_no c n)) → WithCode cmd) → (WithCode cmd → CodeAgrees c cmd)
      → (bytes_no c area n ≡ bytes_no c other n → R) → R

  alike-left : (sfi : ℕ) (right : File → ℕ) (xs : List Credential) (hx : sound (with_credentials c xs) area ≡ true) → (WithCode cmd → CodeAgrees c cmd) → AlikeOn sfi right
      → Alike (with_credentials c xs) area other random cmd s t hx R same sfi right
  alike-left sfi right xs hx code alike n w o asked f =
      alike n (record { there = record { first = w.there.first; last = w.there.last }; lies = w.lies; by-sfi = w.by-sfi; current = w.current }) o asked code f

  pub read-binary-same : AlikeOn (binary_sfi (framed cmd)) (λ f. f.read) → answers.ReadBinary c area random cmd s → answers.ReadBinary c other random cmd t → R
  read-binary-same alike p q =
      contents-same (λ x. answers.ReadsBinary x area random cmd s) (λ x. answers.ReadsBinary x other random cmd t) (ltb l.p1 0x80 || by_sfi l) (read-test cmd) (p-to l) (to-p l) (read-to cmd) (to_read cmd) p q
      (λ xs hx here case code p q.
      reads-binary-same (with_credentials c xs) area other random cmd s t hx R same (alike-left (binary_sfi l) (λ (f : File). f.read) xs hx code alike) p q)

  pub update-binary-same : answers.UpdateBinary c area random cmd s → answers.UpdateBinary c other random cmd t → R
  update-binary-same p q =
      contents-same (λ x. answers.UpdatesBinary x area random cmd s) (λ x. answers.UpdatesBinary x other random cmd t) (ltb l.p1 0x80 || by_sfi l) (write-test cmd) (p-to l) (to-p l) (write-to cmd) (to_write cmd) p q
      (λ xs hx here case code p q. updates-binary-same (with_credentials c xs) area other random cmd s t hx R same p q)

  pub read-record-same : AlikeOn (record_sfi (framed cmd)) (λ f. f.read) → answers.ReadRecord c area random cmd s → answers.ReadRecord c other random cmd t → R
  read-record-same alike p q =
      contents-same (λ x. answers.ReadsRecord x area random cmd s) (λ x. answers.ReadsRecord x other random cmd t) (leb 1 l.p1 && good_p2 4 l) (read-test cmd) (record-p cmd) (p-record cmd) (read-to cmd) (to_read cmd) p q
      (λ xs hx here case code p q.
      reads-record-same (with_credentials c xs) area other random cmd s t hx R same here.0 (alike-left (record_sfi l) (λ (f : File). f.read) xs hx code alike) p q)

  pub update-record-same : AlikeOn (record_sfi (framed cmd)) (λ f. f.write) → answers.UpdateRecord c area random cmd s → answers.UpdateRecord c other random cmd t → R
  update-record-same alike p q =
      contents-same (λ x. answers.UpdatesRecord x area random cmd s) (λ x. answers.UpdatesRecord x other random cmd t) (leb 1 l.p1 && good_p2 4 l) (write-test cmd) (record-p cmd) (p-record cmd) (write-to cmd) (to_write cmd) p q
      (λ xs hx here case code p q.
      updates-record-same (with_credentials c xs) area other random cmd s t hx R same here.0 (alike-left (record_sfi l) (λ (f : File). f.write) xs hx code alike) p q)

  pub append-same : answers.AppendRecord c area random cmd s → answers.AppendRecord c other random cmd t → R
  append-same p q =
      contents-same (λ x. answers.AppendsRecord x area random cmd s) (λ x. answers.AppendsRecord x other random cmd t) (is_zero l.p1 && good_p2 0 l) (write-test cmd) (append-p cmd) (p-append cmd) (write-to cmd) (to_write cmd) p q
      (λ xs hx here case code p q. appends-same (with_credentials c xs) area other random cmd s t hx R same (some-data cmd case) p q)

pub one_answer : OneAnswer
one_answer = record {
  select = λ c area random cmd s t h. select-same c area area random cmd s t h (SameAnswer s t) (λ x. x);
  read-binary = λ c area random cmd s t h. read-binary-same c area area random cmd s t h (SameAnswer s t) (λ x. x) (λ n w o a r f. f refl);
  update-binary = λ c area random cmd s t h. update-binary-same c area area random cmd s t h (SameAnswer s t) (λ x. x);
  read-record = λ c area random cmd s t h. read-record-same c area area random cmd s t h (SameAnswer s t) (λ x. x) (λ n w o a r f. f refl);
  update-record = λ c area random cmd s t h. update-record-same c area area random cmd s t h (SameAnswer s t) (λ x. x) (λ n w o a r f. f refl);
  append-record = λ c area random cmd s t h. append-same c area area random cmd s t h (SameAnswer s t) (λ x. x);
  verify = λ c area random cmd s t h. verify-same c area area random cmd s t h (SameAnswer s t) (λ x. x);
  change-pin = λ c area random cmd s t h. change-same c area area random cmd s t h (SameAnswer s t) (λ x. x);
  reload-pin = λ c area random cmd s t h. reload-same c area area random cmd s t h (SameAnswer s t) (λ x. x);
  authenticate = λ c area random cmd s t h. authenticate-same c area area random cmd s t h (SameAnswer s t) (λ x. x);
  get-challenge = λ c area random cmd s t h. challenge-same c area area random cmd s t h (SameAnswer s t) (λ x. x);
  create-file = λ c area random cmd s t h. create-same c area area random cmd s t h (SameAnswer s t) (λ x. x);
  get-response = λ c area random cmd s t h. response-same c area area random cmd s t h (SameAnswer s t) (λ x. x);
}
