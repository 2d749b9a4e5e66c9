-- Lines that are cut, and the last line.
use Rattle.std.proofs.Common.{◌≡◌, ◌⊎◌, inl, inr, ℕ, ◌<◌, ◌≤◌, ◌^◌, Bool, true, false, nat_eq, List, [], ◌∷◌, ◌++◌, length, drop}
use Rattle.std.proofs.Common.{None, Some, Ok, Err, cond, refl, sym, ap, ◌∙◌, arith, codes, append_assoc}
use Rattle.fs_machine.specs.declared.entry.Act.{Act}
use Rattle.fs_replay.specs.declared.fault.Fault.TheVariants.{Cut}
use Rattle.fs_replay.specs.declared.acts.Head.{Head}
use Rattle.fs_machine.specs.declared.note.LoadNote.{LoadNote}
use Rattle.fs_replay.specs.Texts.{field, note_words, last_line}
use Rattle.fs_replay.specs.Faults.{command_line, IsCutBlock, load_line, IsCutText}
use Rattle.fs_replay.specs.Reading.{Read, Reads, begins, word_at, and_then, plain_at, head_at, block_at, of_block, of_head, command_at, noted, note_at, of_note, of_job, loaded_at, or_bad, act_at, of_act, of_moment, entry_at, field_at, count_at}
use Rattle.fs_replay.proofs.Numbers.{follows, word_is, word_sound, field_complete, field_sound}
use Rattle.fs_replay.proofs.Blocks.{block_cut, cut_block}
use Rattle.fs_replay.proofs.LoadLines.{IsCutNote, noted_words, noted_fits, noted_has_text, words_begin, note_cut, note_cut_sound}
use Rattle.fs_replay.proofs.ActLines.{head_sound, head_complete, is_letter}

command_shape : (moment conn len : ℕ) (block : List ℕ) → command_line moment conn len ++ block ≡ 67 ∷ (field moment ++ (field conn ++ (field len ++ (10 ∷ block))))
unfolding command_line
command_shape moment conn len block = simp append_assoc

-- a command whose block is cut is read as cut
pub cut_complete : (moment conn len : ℕ) (block : List ℕ) → moment < 2 ^ 64 → conn < 2 ^ 32 → len < 2 ^ 64 → length block ≤ len
    → entry_at (command_line moment conn len ++ block) ≡ Err Cut
unfolding entry_at act_at command_at
cut_complete moment conn len block moment_fits conn_fits len_fits short =
    rw (command_shape moment conn len block, field_complete moment 32 _ moment_fits refl, head_complete conn len block conn_fits len_fits, block_cut len block short) refl

load_shape : (moment job : ℕ) (told : LoadNote) (len : ℕ) (block : List ℕ)
    → load_line moment job told len ++ block ≡ 76 ∷ (field moment ++ (field job ++ (note_words told ++ (field len ++ (10 ∷ block)))))
unfolding load_line
load_shape moment job told len block = simp append_assoc

-- the job of a load is read
job_read : (job : ℕ) (told : LoadNote) (rest : List ℕ) → job < 2 ^ 64 → field_at (field job ++ (note_words told ++ rest)) ≡ Some (job, note_words told ++ rest)
job_read job told rest fits =
    let b = words_begin told rest in
    ap (λ (l : List ℕ). field_at (field job ++ l)) b.1 ∙ field_complete job 32 b.0 fits refl ∙ ap (λ (l : List ℕ). Some (job, l)) (sym b.1)

-- so is a text
pub text_complete : (left : List ℕ) → IsCutText left → entry_at left ≡ Err Cut
unfolding entry_at act_at loaded_at
text_complete left c =
    rw (
      c.is,
      load_shape c.moment c.job c.note c.len c.block,
      field_complete c.moment 32 _ c.moment_fits refl,
      job_read c.job c.note (field c.len ++ (10 ∷ c.block)) c.act_fits.0,
      note_cut c.note c.len c.block c.text c.act_fits.1 c.len_fits c.short,
    ) refl

-- what is read as cut is a command or a text that is cut
pub cut_sound : (bytes : List ℕ) → entry_at bytes ≡ Err Cut → IsCutBlock bytes ⊎ IsCutText bytes
unfolding entry_at act_at command_at loaded_at
cut_sound [] read = absurd (cc)
cut_sound (letter ∷ bytes) read = first (field_at bytes) refl read
  where
    fifth : (moment : ℕ) (mid : List ℕ) (head : Head) (left : List ℕ) (r : Reads (List ℕ)) → letter ≡ 67 → field_at bytes ≡ Some (moment, mid)
        → head_at mid ≡ Some (head, left) → block_at head.len left ≡ r → of_block head.conn r ≡ Err Cut → IsCutBlock (letter ∷ bytes) ⊎ IsCutText (letter ∷ bytes)
    fifth moment mid head left (Ok r) is before line here same = absurd (cc)
    fifth moment mid head left (Err fault) is before line here same =
        let cut : fault ≡ Cut = cc in
        let number = field_sound moment bytes mid before in
        let parts = head_sound mid left head line in
        let text = ap (λ n. n ∷ bytes) is ∙ ap (λ (l : List ℕ). 67 ∷ l) (number.0 ∙ ap (λ (l : List ℕ). field moment ++ l) parts.0)
        ∙ sym (command_shape moment head.conn head.len left) in
        inl (record {
          moment = moment;
          conn = head.conn;
          len = head.len;
          block = left;
          moment_fits = number.1;
          conn_fits = parts.1.0;
          len_fits = parts.1.1;
          is = text;
          short = cut_block head.len left (here ∙ ap (λ f. Err f) cut);
        })

    fourth : (moment : ℕ) (mid : List ℕ) (r : Read Head) → letter ≡ 67 → field_at bytes ≡ Some (moment, mid) → head_at mid ≡ r → of_head r ≡ Err Cut → IsCutBlock (letter ∷ bytes) ⊎ IsCutText (letter ∷ bytes)
    fourth moment mid None is before line same = absurd (cc)
    fourth moment mid (Some r) is before line same = fifth moment mid r.0 r.1 (block_at r.0.len r.1) is before line refl same

    plain : (r : Read Act) → or_bad r ≡ Err Cut → ⊥
    plain None same = cc
    plain (Some r) same = cc

    noted_cut : (moment job : ℕ) (mid left : List ℕ) → letter ≡ 76 → field_at bytes ≡ Some (moment, mid) → field_at mid ≡ Some (job, left)
        → IsCutNote left → IsCutText (letter ∷ bytes)
    noted_cut moment job mid left is before line c =
        let number = field_sound moment bytes mid before in
        let other = field_sound job mid left line in
        let words = c.is ∙ ap (λ (w : List ℕ). w ++ (field c.len ++ (10 ∷ c.block))) (sym (noted_words c.kind [])) in
        record {
          moment = moment;
          job = job;
          note = noted c.kind [];
          len = c.len;
          block = c.block;
          moment_fits = number.1;
          act_fits = (other.1, noted_fits c.kind [] c.fit (omega arith));
          len_fits = c.len_fits;
          text = noted_has_text c.kind [];
          is = ap (λ n. n ∷ bytes) is ∙ ap (λ (l : List ℕ). 76 ∷ l) (number.0 ∙ ap (λ (l : List ℕ). field moment ++ l) (other.0 ∙ ap (λ (l : List ℕ). field job ++ l) words))
              ∙ sym (load_shape moment job (noted c.kind []) c.len c.block);
          short = c.short;
        }

    load_cut : (moment job : ℕ) (mid left : List ℕ) (r : Reads LoadNote) → letter ≡ 76 → field_at bytes ≡ Some (moment, mid)
        → field_at mid ≡ Some (job, left) → note_at left ≡ r → of_note job r ≡ Err Cut → IsCutText (letter ∷ bytes)
    load_cut moment job mid left (Ok r) is before line here same = absurd (cc)
    load_cut moment job mid left (Err fault) is before line here same =
        let cut : fault ≡ Cut = cc in
        noted_cut moment job mid left is before line (note_cut_sound left (here ∙ ap (λ f. Err f) cut))

    load : (moment : ℕ) (mid : List ℕ) (r : Read ℕ) → letter ≡ 76 → field_at bytes ≡ Some (moment, mid) → field_at mid ≡ r → of_job r ≡ Err Cut
        → IsCutText (letter ∷ bytes)
    load moment mid None is before line same = absurd (cc)
    load moment mid (Some r) is before line same = load_cut moment r.0 mid r.1 (note_at r.1) is before line refl same

    other : (moment : ℕ) (mid : List ℕ) (t : Bool) → nat_eq letter 76 ≡ t → field_at bytes ≡ Some (moment, mid)
        → ◌≡◌ {A = Reads Act} (cond t (of_job (field_at mid)) (or_bad (plain_at letter mid))) (Err Cut) → IsCutText (letter ∷ bytes)
    other moment mid true is before same = load moment mid (field_at mid) (is_letter letter 76 is) before refl same
    other moment mid false differs before same = absurd (plain (plain_at letter mid) same)

    third : (moment : ℕ) (mid : List ℕ) (t : Bool) → nat_eq letter 67 ≡ t → field_at bytes ≡ Some (moment, mid)
        → ◌≡◌ {A = Reads Act} (cond t (of_head (head_at mid)) (cond (nat_eq letter 76) (of_job (field_at mid)) (or_bad (plain_at letter mid)))) (Err Cut)
        → IsCutBlock (letter ∷ bytes) ⊎ IsCutText (letter ∷ bytes)
    third moment mid true is before same = fourth moment mid (head_at mid) (is_letter letter 67 is) before refl same
    third moment mid false differs before same = inr (other moment mid (nat_eq letter 76) refl before same)

    second : (moment : ℕ) (mid : List ℕ) (r : Reads Act) → field_at bytes ≡ Some (moment, mid) → act_at letter mid ≡ r → of_act moment r ≡ Err Cut → IsCutBlock (letter ∷ bytes) ⊎ IsCutText (letter ∷ bytes)
    second moment mid (Ok r) before here same = absurd (cc)
    second moment mid (Err fault) before here same =
        let cut : fault ≡ Cut = cc in
        third moment mid (nat_eq letter 67) refl before (here ∙ ap (λ f. Err f) cut)

    first : (r : Read ℕ) → field_at bytes ≡ r → of_moment letter r ≡ Err Cut → IsCutBlock (letter ∷ bytes) ⊎ IsCutText (letter ∷ bytes)
    first None before same = absurd (cc)
    first (Some r) before same = second r.0 r.1 (act_at letter r.1) before refl same

-- ---- the last line

pub count_complete : (count : ℕ) (rest : List ℕ) → count < 2 ^ 64 → count_at (last_line count ++ rest) ≡ Some (count, rest)
unfolding count_at last_line
count_complete count rest fits = rw (append_assoc (field count) (codes "\n") rest, field_complete count 10 rest fits refl) refl

pub count_sound : (count : ℕ) (bytes left : List ℕ) → count_at bytes ≡ Some (count, left) → bytes ≡ last_line count ++ left
unfolding count_at last_line
count_sound count bytes left read = by (begins (codes "Z") bytes) refl read
  where
    by : (t : Bool) → begins (codes "Z") bytes ≡ t
        → ◌≡◌ {A = Read ℕ} (cond t (and_then (field_at (drop 1 bytes)) (λ n mid. word_at (codes "\n") n mid)) None) (Some (count, left))
        → bytes ≡ (90 ∷ field count ++ codes "\n") ++ left
    by true found same =
        let parts = follows (field_at (drop 1 bytes)) (λ n mid. word_at (codes "\n") n mid) count left same in
        let number = field_sound parts.first (drop 1 bytes) parts.mid parts.before in
        let back = word_sound (codes "\n") parts.first count parts.mid left parts.behind in
        rw back.0 (word_is (codes "Z") bytes found ∙ ap (λ (l : List ℕ). 90 ∷ l) (number.0 ∙ ap (λ (l : List ℕ). field parts.first ++ l) back.1
        ∙ sym (append_assoc (field parts.first) (codes "\n") left)))
    by false none same = absurd (cc)
