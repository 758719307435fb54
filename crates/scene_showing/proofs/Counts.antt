-- The numbers of entries of a lawful journal are the numbers of its scene's items.
use Rattle.std.proofs.Common.{◌≡◌, ℕ, suc, ◌+◌, ◌<◌, ◌≤◌, Bool, true, false, ◌==◌, cond, List, [], ◌∷◌, ◌++◌, map, length, filter, take, get_or, refl, ap, sym, ◌∙◌, arith}
use Rattle.std.specs.List.{range_with_len}
use Rattle.std.proofs.lemmas.List.{map_more, take_all}
use Rattle.std.proofs.lemmas.List.FromFn.{length-range_with_len, length-map-range_with_len, map-range_with_len_more}
use Rattle.gfx_words.specs.declared.journal.JournalEntry.{JournalEntry}
use Rattle.scene_model.specs.Scene.{Scene, SceneFrame}
use Rattle.scene_model.specs.Fold.{Accepted, Progress, accepted_of, recording_of, at_start, after_lines, plan_of, plans_from, plans, first_progress}
use Rattle.scene_model.specs.Journal.{Entry, Journal, ordinals_of, HasInOrder, AreLawful, IsLawful}
use Rattle.scene_progress.specs.Laws.{LawfulCountLaw}
use Rattle.frame_record.specs.declared.frame.Frame.{Frame}
use Rattle.scene_playing.specs.Frames.{AreEnded}
use Rattle.scene_text.specs.Journals.{counts_in, counts_of}
use Rattle.scene_text.specs.Seen.{entry_seen}

-- ---- the entries of one encoder

-- an encoder's entries among the first of a list
abbrev pub entries_before : ℕ → ℕ → List JournalEntry → ℕ
entries_before e i entries = length (filter (λ (n : JournalEntry). n.encoder == e) (take i entries))

-- there are as many ordinals as entries
ordinal_count : (e : ℕ) (entries : List JournalEntry) → length (ordinals_of e (map entry_seen entries)) ≡ length (filter (λ (n : JournalEntry). n.encoder == e) entries)
ordinal_count e [] = refl
ordinal_count e (x ∷ rest) = by (x.encoder == e) (ordinal_count e rest)
  where
    by : (b : Bool) → length (ordinals_of e (map entry_seen rest)) ≡ length (filter (λ (n : JournalEntry). n.encoder == e) rest)
        → length (map (λ (m : Entry). m.ordinal) (cond b (entry_seen x ∷ filter (λ (m : Entry). m.encoder == e) (map entry_seen rest)) (filter (λ (m : Entry). m.encoder == e) (map entry_seen rest))))
        ≡ length (cond b (x ∷ filter (λ (n : JournalEntry). n.encoder == e) rest) (filter (λ (n : JournalEntry). n.encoder == e) rest))
    by true h = ap suc h
    by false h = h

-- all entries of the encoder
pub all_counted : (e : ℕ) (entries : List JournalEntry) (i count : ℕ) → length entries ≤ i → count ≡ entries_before e i entries → count ≡ length (ordinals_of e (map entry_seen entries))
all_counted e entries i count all counted =
    counted ∙ ap (λ (es : List JournalEntry). length (filter (λ (n : JournalEntry). n.encoder == e) es)) (take_all i entries all) ∙ sym (ordinal_count e entries)

-- ---- the entries of a frame

-- how many entries each encoder has
abbrev pub entry_counts : ℕ → List JournalEntry → List ℕ
entry_counts encoders entries = map (λ e. length (ordinals_of e (map entry_seen entries))) (range_with_len 0 encoders)

-- one encoder more
pub encoder_more : (entries : List JournalEntry) (e count : ℕ) (before after : List ℕ)
    → before ≡ entry_counts e entries → count ≡ length (ordinals_of e (map entry_seen entries)) → after ≡ before ++ count ∷ [] → after ≡ entry_counts (e + 1) entries
encoder_more entries e count before after counted one more =
    more
    ∙ ap (λ (cs : List ℕ). cs ++ count ∷ []) counted
    ∙ ap (λ (k : ℕ). entry_counts e entries ++ k ∷ []) one
    ∙ sym (map-range_with_len_more (λ k. length (ordinals_of k (map entry_seen entries))) 0 e e (omega arith))

-- one frame more
pub frame_more : (encoders : ℕ) (frames : List (List JournalEntry)) (i : ℕ) (entries : List JournalEntry) (row : List ℕ) (before after : List (List ℕ))
    → i < length frames → entries ≡ get_or frames i entries → before ≡ map (entry_counts encoders) (take i frames) → row ≡ entry_counts encoders entries → after ≡ before ++ row ∷ []
    → after ≡ map (entry_counts encoders) (take (i + 1) frames)
frame_more encoders frames i entries row before after lt is counted one more =
    more
    ∙ ap (λ (cs : List (List ℕ)). cs ++ row ∷ []) counted
    ∙ ap (λ (r : List ℕ). map (entry_counts encoders) (take i frames) ++ r ∷ []) (one ∙ ap (entry_counts encoders) is)
    ∙ sym (map_more (entry_counts encoders) frames i entries lt)

cons_same : {A : Type 0} (x y : A) (xs ys : List A) → x ≡ y → xs ≡ ys → x ∷ xs ≡ y ∷ ys
cons_same x y xs ys e es = ap (λ z. z ∷ xs) e ∙ ap (λ zs. y ∷ zs) es

in_order : (first : ℕ) (encoders : List Accepted) (entries : List Entry) → HasInOrder first encoders entries → map (λ e. length (ordinals_of e entries)) (range_with_len first (length encoders)) ≡ counts_in encoders
in_order first [] entries h = refl
in_order first (a ∷ rest) entries h =
    cons_same _ _ _ _ (ap length h.0 ∙ length-range_with_len 0 (length a.items)) (in_order (first + 1) rest entries h.1)

in_frame : (count : ℕ) (encoders : List Accepted) (entries : List JournalEntry) → length encoders ≡ count → HasInOrder 0 encoders (map entry_seen entries) → entry_counts count entries ≡ counts_in encoders
in_frame count encoders entries l h = ap (λ (n : ℕ). entry_counts n entries) (sym l) ∙ in_order 0 encoders (map entry_seen entries) h

-- ---- the entries of all frames

encoder_count : (s : Scene) (k : ℕ) (f : SceneFrame) (gone : List ℕ) (before all : Progress) → length (plan_of s k f gone before all).encoders ≡ s.encoders
encoder_count s k f gone before all = length-map-range_with_len (λ e. accepted_of (recording_of s k before f e)) 0 s.encoders

in_frames : (s : Scene) (k : ℕ) (gone : List ℕ) (p : Progress) (fs : List SceneFrame) (frames : List (List JournalEntry))
    → AreLawful (plans_from s k gone p fs) (map (map entry_seen) frames) → length (map (map entry_seen) frames) ≡ length fs
    → map (entry_counts s.encoders) frames ≡ counts_of (plans_from s k gone p fs)
in_frames s k gone p [] [] h l = refl
in_frames s k gone p [] (entries ∷ rest) h l = absurd h
in_frames s k gone p (f ∷ fs) [] h l = absurd (omega (arith, l))
in_frames s k gone p (f ∷ fs) (entries ∷ rest) h l =
    let before = after_lines s.names (at_start k p) f.before in
    let all = after_lines s.names before f.beside in
    let here = in_frame s.encoders (plan_of s k f gone before all).encoders entries (encoder_count s k f gone before all) h.0.in_order in
    cons_same _ _ _ _ here (in_frames s (k + 1) _ all fs rest h.1 (omega (arith, l)))

pub of_lawful : (s : Scene) (frames : List (List JournalEntry)) → IsLawful s (map (map entry_seen) frames) → map (entry_counts s.encoders) frames ≡ counts_of (plans s)
of_lawful s frames h = in_frames s 0 [] (first_progress s) s.frames frames h.0 h.1

-- where all frames were given, the journal of those that ended is lawful for the scene
pub lawful_when_whole : (s : Scene) (given : List Frame) (journal : Journal) (notes : List (ℕ × ℕ)) → LawfulCountLaw → (is_whole : Bool) → is_whole ≡ true → AreEnded s given journal notes is_whole → IsLawful s journal
lawful_when_whole s given journal notes law is_whole is e =
    let many = law s journal e.lawful in
    let whole = e.whole is in
    let few = e.few.0 in
    let long : length journal ≡ length s.frames = omega (arith, many, whole, few) in
    (e.lawful, long)
