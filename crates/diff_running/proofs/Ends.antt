-- What each status says of what the source told.
use Rattle.std.proofs.Common.{inl, inr, arith, ◌≤◌, ◌<◌, ◌≡◌, ◌⊎◌, ℕ, ◌+◌, Bool, true, false, cond, List, ◌++◌, length, Option, Some, None, Result, Ok, Err, refl, sym, ap, subst, ◌∙◌, [], append-nil}
use Rattle.std.proofs.lemmas.List.{length-append}
use Rattle.std.proofs.lemmas.Option.{same_Some, none-some}
use Rattle.io_edge.specs.Edge.{with_front, with_back, IsSpent}
use Rattle.io_whole.specs.Whole.{HasMoreThan, HasFront}
use Rattle.picture_diff.specs.Picture.{Picture, AreTextsOf, IsBroken}
use Rattle.picture_diff.specs.Frames.{AreAllNear, are_all_same, judged}
use Rattle.picture_diff.specs.Lines.{frame_lines}
use Rattle.picture_diff.specs.Told.{IsJudged, Told}
use Rattle.picture_diff.specs.declared.difference.Difference.{Difference}
use Rattle.picture_diff.specs.declared.fault.PictureFault.{PictureFault}
use Rattle.picture_diff.specs.declared.fault.PictureFault.TheVariants as faults
use Rattle.picture_diff.proofs.Nears.{judged-forth, judged-back}
use Rattle.picture_diff.proofs.Texts.{broken-once, not-broken, reading-same}
use Rattle.diff_running.specs.Io.{longest, IsRead}
use Rattle.diff_running.specs.Notes.{picture_note, count_note, sides_note, usage_note, length_note}
use Rattle.diff_running.specs.Putting.{IsPut, IsTold, whole, cut, none, IsToldOf}
use Rattle.diff_running.specs.Ended.{AreDifferences, IsRefused, EndedTaken, EndedRefused, IsUsage, Ended, status_of, IsCalledFor, too_long, broken, read, EndsAs}
use Rattle.diff_running.specs.declared.words.Asked.{Asked}
use Rattle.diff_running.specs.declared.status.DiffStatus.{DiffStatus}
use Rattle.diff_running.specs.declared.status.DiffStatus.TheVariants as status

true-false : (b : Bool) → b ≡ true → b ≡ false → ⊥
true-false true h e = cc
true-false false h e = cc

-- ---- what a run is, from its parts

pub put_ended : (st : DiffStatus) (a : Asked) (ps : List Picture) (ds : List Difference) (before after old new told : Option (List ℕ)) (rf pf tf : Type 0) → AreDifferences a ps ds before after → IsPut st ds old new pf → EndedTaken st a before after old new told told rf pf tf
put_ended status.Same a ps ds before after old new told rf pf tf d h = (ps, ds, d, judged-forth a.near a.frames ps ds d.texts.each d.told h.0, h.1, refl)
put_ended status.Different a ps ds before after old new told rf pf tf d h = (ps, ds, d, (λ near. true-false (are_all_same ds) (judged-back a.near a.frames ps ds d.told near) h.0), h.1, refl)
put_ended status.LineFault a ps ds before after old new told rf pf tf d h = (ps, ds, d, h.0, h.1, refl)
put_ended status.OutOfMemory a ps ds before after old new told rf pf tf d h = (h, refl)
put_ended (status.NoPicture pictures at) a ps ds before after old new told rf pf tf d h = absurd h
put_ended (status.Count pictures) a ps ds before after old new told rf pf tf d h = absurd h
put_ended (status.Sides frame) a ps ds before after old new told rf pf tf d h = absurd h
put_ended status.ReadFault a ps ds before after old new told rf pf tf d h = absurd h
put_ended status.NoteFault a ps ds before after old new told rf pf tf d h = absurd h
put_ended status.TooLong a ps ds before after old new told rf pf tf d h = absurd h
put_ended status.Usage a ps ds before after old new told rf pf tf d h = absurd h

-- a note was told of what is refused
pub noted_ended : (st wanted : DiffStatus) (a : Asked) (note : List ℕ) (before after old told said : Option (List ℕ)) (rf pf tf : Type 0) → IsRefused wanted a note before after
    → (said ≡ with_back told note → EndedTaken wanted a before after old old told said rf pf tf) → IsTold st wanted note told said tf → EndedTaken st a before after old old told said rf pf tf
noted_ended st wanted a note before after old told said rf pf tf r h (whole e p) = subst (λ (x : DiffStatus). EndedTaken x a before after old old told said rf pf tf) (sym e) (h p)
noted_ended st wanted a note before after old told said rf pf tf r h (cut e p f) = subst (λ (x : DiffStatus). EndedTaken x a before after old old told said rf pf tf) (sym e) (wanted, note, r, p, f, refl)
noted_ended st wanted a note before after old told said rf pf tf r h (none e p) = subst (λ (x : DiffStatus). EndedTaken x a before after old old told said rf pf tf) (sym e) (refl, p)

pub long_ended : (st : DiffStatus) (a : Asked) (before after old told said : Option (List ℕ)) (rf pf tf : Type 0) → HasMoreThan longest before → IsTold st status.TooLong length_note told said tf → EndedTaken st a before after old old told said rf pf tf
long_ended st a before after old told said rf pf tf h t = noted_ended st status.TooLong a length_note before after old told said rf pf tf (h, refl) (λ p. (length_note, (h, refl), p, refl)) t

pub fault_ended : {X : Type 0} (fault : PictureFault) (st : DiffStatus) (a : Asked) (bytes : List ℕ) (view : X → List Difference) (before after old told said : Option (List ℕ)) (rf pf tf : Type 0) → IsRead bytes before after
    → Told a.near a.frames bytes view (Err fault) → IsToldOf fault st told said tf → EndedTaken st a before after old old told said rf pf tf
fault_ended (faults.NoPicture pictures at) st a bytes view before after old told said rf pf tf is h t =
    noted_ended st (status.NoPicture pictures at) a (picture_note pictures at) before after old told said rf pf tf (bytes, is, h, refl) (λ p. (picture_note pictures at, (bytes, is, h, refl), p, refl)) t
fault_ended (faults.Count pictures) st a bytes view before after old told said rf pf tf is h t =
    noted_ended st (status.Count pictures) a (count_note pictures) before after old told said rf pf tf (bytes, is, h, refl) (λ p. (count_note pictures, (bytes, is, h, refl), p, refl)) t
fault_ended (faults.Sides frame) st a bytes view before after old told said rf pf tf is h t =
    noted_ended st (status.Sides frame) a (sides_note frame) before after old told said rf pf tf (bytes, is, h, refl) (λ p. (sides_note frame, (bytes, is, h, refl), p, refl)) t
fault_ended faults.OutOfMemory st a bytes view before after old told said rf pf tf is h t = subst (λ (x : DiffStatus). EndedTaken x a before after old old told said rf pf tf) (sym t.0) (refl, t.1)

-- the same, where the code has the bytes and the differences by other names
pub compared_ended : (st : DiffStatus) (a : Asked) (bytes xs : List ℕ) (ds es : List Difference) (before after old new told : Option (List ℕ)) (rf pf tf : Type 0) → IsRead bytes before after → xs ≡ bytes → IsJudged a.near a.frames xs (Ok ds)
    → es ≡ ds → IsPut st es old new pf → EndedTaken st a before after old new told told rf pf tf
compared_ended st a bytes xs ds es before after old new told rf pf tf is same judged_so same_ds put =
    let h = subst (λ (ys : List ℕ). IsJudged a.near a.frames ys (Ok ds)) same judged_so in
    put_ended st a h.0 ds before after old new told rf pf tf (record { bytes = bytes; read = is; texts = h.1; told = h.2 }) (subst (λ (zs : List Difference). IsPut st zs old new pf) same_ds put)

pub told_ended : {X : Type 0} (fault : PictureFault) (st : DiffStatus) (a : Asked) (bytes xs : List ℕ) (view : X → List Difference) (before after old told said : Option (List ℕ)) (rf pf tf : Type 0) → IsRead bytes before after → xs ≡ bytes
    → Told a.near a.frames xs view (Err fault) → IsToldOf fault st told said tf → EndedTaken st a before after old old told said rf pf tf
told_ended {X} fault st a bytes xs view before after old told said rf pf tf is same h t =
    fault_ended fault st a bytes view before after old told said rf pf tf is (subst (λ (ys : List ℕ). Told {X = X} a.near a.frames ys view (Err fault)) same h) t

-- ---- what was read is what was told

told_is : (bytes b : List ℕ) (after : Option (List ℕ)) → Some bytes ≡ with_front b after → IsSpent after → b ≡ bytes
told_is bytes b None e s = absurd (none-some bytes (sym e))
told_is bytes b (Some r) e s = sym (same_Some bytes (b ++ []) (e ∙ ap (λ x. Some (b ++ x)) s) ∙ append-nil b)

read_told : (bytes b : List ℕ) (before after : Option (List ℕ)) → before ≡ Some bytes → IsRead b before after → b ≡ bytes
read_told bytes b before after told r = told_is bytes b after (sym told ∙ r.given) r.ended

longer : (n : ℕ) (bytes b : List ℕ) (rest : Option (List ℕ)) → Some bytes ≡ with_front b rest → n < length b → n < length bytes
longer n bytes b None e lt = absurd (none-some bytes (sym e))
longer n bytes b (Some r) e lt = let long : length bytes ≡ length b + length r = ap length (same_Some bytes (b ++ r) e) ∙ length-append b r in omega (arith, long, lt)

many_told : (n : ℕ) (bytes : List ℕ) (before : Option (List ℕ)) → before ≡ Some bytes → HasMoreThan n before → n < length bytes
many_told n bytes before told h = longer n bytes h.bytes h.rest (sym told ∙ h.given) h.many

-- ---- the status that bytes call for

-- bytes call for one status
called-once : (a : Asked) (bytes : List ℕ) (x y : DiffStatus) → IsCalledFor a bytes x → IsCalledFor a bytes y → x ≡ y
called-once a bytes x y (too_long l e) (too_long m f) = e ∙ sym f
called-once a bytes x y (too_long l e) (broken m n at b f) = absurd (omega (arith, l, m))
called-once a bytes x y (too_long l e) (read m ps are f) = absurd (omega (arith, l, m))
called-once a bytes x y (broken l n at b e) (too_long m f) = absurd (omega (arith, l, m))
called-once a bytes x y (broken l n at b e) (broken m k place d f) =
    let same = broken-once bytes n at k place b d in
    e ∙ (λ i. status.NoPicture (same.0 i) (same.1 i)) ∙ sym f
called-once a bytes x y (broken l n at b e) (read m ps are f) = absurd (not-broken bytes n at ps b are)
called-once a bytes x y (read l ps are e) (too_long m f) = absurd (omega (arith, l, m))
called-once a bytes x y (read l ps are e) (broken m n at b f) = absurd (not-broken bytes n at ps b are)
called-once a bytes x y (read l ps are e) (read m qs are_too f) = e ∙ ap (λ (zs : List Picture). status_of (judged a.near a.frames zs)) (reading-same bytes ps qs are are_too) ∙ sym f

-- what was read calls for this
judged-called : (a : Asked) (bytes b : List ℕ) (before after : Option (List ℕ)) (answer : Result (List Difference) PictureFault) (st : DiffStatus) → before ≡ Some bytes → IsRead b before after → IsJudged a.near a.frames b answer → status_of answer ≡ st → IsCalledFor a bytes st
judged-called a bytes b before after answer st told is (ps, are, e) same =
    subst (λ (xs : List ℕ). IsCalledFor a xs st) (read_told bytes b before after told is) (read is.few ps are (sym same ∙ ap status_of (sym e)))

refused-called : (st : DiffStatus) (a : Asked) (note : List ℕ) (before after : Option (List ℕ)) (bytes : List ℕ) → before ≡ Some bytes → IsRefused st a note before after → IsCalledFor a bytes st
refused-called (status.NoPicture pictures at) a note before after bytes told (b, is, h, same) = subst (λ (xs : List ℕ). IsCalledFor a xs (status.NoPicture pictures at)) (read_told bytes b before after told is) (broken is.few pictures at h refl)
refused-called (status.Count pictures) a note before after bytes told (b, is, h, same) = judged-called a bytes b before after (Err (faults.Count pictures)) (status.Count pictures) told is h refl
refused-called (status.Sides frame) a note before after bytes told (b, is, h, same) = judged-called a bytes b before after (Err (faults.Sides frame)) (status.Sides frame) told is h refl
refused-called status.TooLong a note before after bytes told (h, same) = too_long (many_told longest bytes before told h) refl
refused-called status.Same a note before after bytes told h = absurd h
refused-called status.Different a note before after bytes told h = absurd h
refused-called status.ReadFault a note before after bytes told h = absurd h
refused-called status.LineFault a note before after bytes told h = absurd h
refused-called status.NoteFault a note before after bytes told h = absurd h
refused-called status.OutOfMemory a note before after bytes told h = absurd h
refused-called status.Usage a note before after bytes told h = absurd h

not-true : (b : Bool) → (b ≡ true → ⊥) → b ≡ false
not-true true h = absurd (h refl)
not-true false h = refl

same-status : (ds : List Difference) → are_all_same ds ≡ true → status_of (Ok ds) ≡ status.Same
same-status ds h = ap (λ (b : Bool). cond b status.Same status.Different) h

other-status : (ds : List Difference) → are_all_same ds ≡ false → status_of (Ok ds) ≡ status.Different
other-status ds h = ap (λ (b : Bool). cond b status.Same status.Different) h

pub complete_taken : (st : DiffStatus) (a : Asked) (before after old new told said : Option (List ℕ)) (rf pf tf : Type 0) (bytes : List ℕ) (wanted : DiffStatus) → EndedTaken st a before after old new told said rf pf tf → before ≡ Some bytes → IsCalledFor a bytes wanted
    → (rf → ⊥) → (pf → ⊥) → (tf → ⊥) → EndsAs wanted st
complete_taken status.Same a before after old new told said rf pf tf bytes wanted (ps, ds, d, near, p, q) is called no_read no_put no_tell =
    let same = same-status ds (judged-back a.near a.frames ps ds d.told near) in
    inl (called-once a bytes status.Same wanted (judged-called a bytes d.bytes before after (Ok ds) status.Same is d.read (ps, d.texts, d.told) same) called)
complete_taken status.Different a before after old new told said rf pf tf bytes wanted (ps, ds, d, far, p, q) is called no_read no_put no_tell =
    let other = other-status ds (not-true (are_all_same ds) (λ h. far (judged-forth a.near a.frames ps ds d.texts.each d.told h))) in
    inl (called-once a bytes status.Different wanted (judged-called a bytes d.bytes before after (Ok ds) status.Different is d.read (ps, d.texts, d.told) other) called)
complete_taken (status.NoPicture pictures at) a before after old new told said rf pf tf bytes wanted (note, r, p, q) is called no_read no_put no_tell =
    inl (called-once a bytes (status.NoPicture pictures at) wanted (refused-called (status.NoPicture pictures at) a note before after bytes is r) called)
complete_taken (status.Count pictures) a before after old new told said rf pf tf bytes wanted (note, r, p, q) is called no_read no_put no_tell =
    inl (called-once a bytes (status.Count pictures) wanted (refused-called (status.Count pictures) a note before after bytes is r) called)
complete_taken (status.Sides frame) a before after old new told said rf pf tf bytes wanted (note, r, p, q) is called no_read no_put no_tell =
    inl (called-once a bytes (status.Sides frame) wanted (refused-called (status.Sides frame) a note before after bytes is r) called)
complete_taken status.TooLong a before after old new told said rf pf tf bytes wanted (note, r, p, q) is called no_read no_put no_tell =
    inl (called-once a bytes status.TooLong wanted (refused-called status.TooLong a note before after bytes is r) called)
complete_taken status.ReadFault a before after old new told said rf pf tf bytes wanted (f, p, q) is called no_read no_put no_tell = absurd (no_read f)
complete_taken status.LineFault a before after old new told said rf pf tf bytes wanted (ps, ds, d, p, f, q) is called no_read no_put no_tell = absurd (no_put f)
complete_taken status.NoteFault a before after old new told said rf pf tf bytes wanted (st, note, r, p, f, q) is called no_read no_put no_tell = absurd (no_tell f)
complete_taken status.OutOfMemory a before after old new told said rf pf tf bytes wanted h is called no_read no_put no_tell = inr refl
complete_taken status.Usage a before after old new told said rf pf tf bytes wanted h is called no_read no_put no_tell = absurd h

pub complete : (o : Option Asked) (st : DiffStatus) (a : Asked) (before after old new told said : Option (List ℕ)) (rf pf tf : Type 0) (bytes : List ℕ) (wanted : DiffStatus) → Ended o st before after old new told said rf pf tf → o ≡ Some a → before ≡ Some bytes
    → IsCalledFor a bytes wanted → (rf → ⊥) → (pf → ⊥) → (tf → ⊥) → EndsAs wanted st
complete o st a before after old new told said rf pf tf bytes wanted h taken is called no_read no_put no_tell =
    complete_taken st a before after old new told said rf pf tf bytes wanted (subst (λ (x : Option Asked). Ended x st before after old new told said rf pf tf) taken h) is called no_read no_put no_tell

refused_as : (st : DiffStatus) (told said : Option (List ℕ)) (tf : Type 0) → IsUsage st told said tf → (tf → ⊥) → st ≡ status.Usage
refused_as status.Usage told said tf h quiet = refl
refused_as status.NoteFault told said tf h quiet = absurd (quiet h.1)
refused_as status.Same told said tf h quiet = absurd h
refused_as status.Different told said tf h quiet = absurd h
refused_as (status.NoPicture pictures at) told said tf h quiet = absurd h
refused_as (status.Count pictures) told said tf h quiet = absurd h
refused_as (status.Sides frame) told said tf h quiet = absurd h
refused_as status.ReadFault told said tf h quiet = absurd h
refused_as status.LineFault told said tf h quiet = absurd h
refused_as status.TooLong told said tf h quiet = absurd h
refused_as status.OutOfMemory told said tf h quiet = absurd h

pub refused : (o : Option Asked) (st : DiffStatus) (before after old new told said : Option (List ℕ)) (rf pf tf : Type 0) → Ended o st before after old new told said rf pf tf → o ≡ None → (tf → ⊥) → st ≡ status.Usage
refused o st before after old new told said rf pf tf h untaken quiet = refused_as st told said tf (subst (λ (x : Option Asked). Ended x st before after old new told said rf pf tf) untaken h).2 quiet
