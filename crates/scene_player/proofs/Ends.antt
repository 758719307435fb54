-- How a run ends, from how it was read and answered.
use Rattle.std.proofs.Common.{◌≡◌, ◌∙◌, ◌<◌, ℕ, Bool, false, List, [], ◌++◌, length, Some, None, Option, Result, Ok, refl, sym, ap, subst, inl, inr, arith, append-nil}
use Rattle.std.proofs.lemmas.List.{length-append}
use Rattle.io_edge.specs.Edge.{with_front, IsSpent}
use Rattle.scene_model.specs.Scene.{Scene}
use Rattle.scene_model.specs.Grammar.{Fault, front_of, scene_of, whole_language}
use Rattle.scene_model.specs.Journal.{Journal, serial}
use Rattle.scene_model.specs.Journal as journals
use Rattle.scene_model.specs.Run.{all_done, input_too_long, words_refused, refused}
use Rattle.scene_model.specs.Output.{length_line, usage_line}
use Rattle.command_line_model.specs.Taken.{Mode, play, replay, make, Command}
use Rattle.command_line_model.specs.Answer.{of_command}
use Rattle.scene_player.specs.declared.status.Status.{Status}
use Rattle.scene_player.specs.declared.status.Status.TheVariants as status
use Rattle.io_whole.specs.Whole.{HasMoreThan}
use Rattle.io_whole.specs.Runs.{AreLeft, HasFailedToGive, HasFailedToTake, IsUnread, Putting, Reading}
use Rattle.scene_player.specs.Ended.{answer_of, AreTaken, Ends, EndsAs, EndsIn, IsAnswered, IsBlank, IsGiven, IsReadAndAnswered, IsSceneOf, IsToldIn, ReadsAndShows}
use Rattle.scene_player.specs.Numbers.{ending_of}
use Rattle.scene_player.specs.Parts.{IsRefusedWith, showing_command}
use Rattle.scene_player.proofs.Refused.{refuses, too-long}

-- ---- what was left

-- what was read to the end is what was left
pub are-left : (before after : Option (List ℕ)) (bytes : List ℕ) → before ≡ with_front bytes after → IsSpent after → AreLeft before bytes
are-left before None bytes e spent = subst (λ (o : Option (List ℕ)). AreLeft o bytes) (sym e) tt
are-left before (Some rest) bytes e spent = subst (λ (o : Option (List ℕ)). AreLeft o bytes) (sym e) (ap (λ (r : List ℕ). bytes ++ r) spent ∙ append-nil bytes)

-- some bytes were left
some-left : (before : Option (List ℕ)) → (bytes : List ℕ) × AreLeft before bytes
some-left None = ([], tt)
some-left (Some told) = (told, refl)

-- many bytes were left
long-left : (n : ℕ) (before : Option (List ℕ)) → HasMoreThan n before → (bytes : List ℕ) × AreLeft before bytes × (n < length bytes)
long-left n before h = go h.rest h.given
  where
    go : (rest : Option (List ℕ)) → before ≡ with_front h.bytes rest → (bytes : List ℕ) × AreLeft before bytes × (n < length bytes)
    go None e = (h.bytes, subst (λ (o : Option (List ℕ)). AreLeft o h.bytes) (sym e) tt, h.many)
    go (Some rest) e = (h.bytes ++ rest, subst (λ (o : Option (List ℕ)). AreLeft o (h.bytes ++ rest)) (sym e) refl, omega (arith, length-append h.bytes rest, h.many))

-- equal answers have equal scenes
same-scene : (x y : Scene × ℕ) → ◌≡◌ {A = Result (Scene × ℕ) Fault} (Ok x) (Ok y) → x.0 ≡ y.0
same-scene x y e = let same : x ≡ y = cc in ap (λ (p : Scene × ℕ). p.0) same

-- bytes that were told are those that were left
pub told-is : (before : Option (List ℕ)) (bytes other : List ℕ) → before ≡ Some bytes → AreLeft before other → other ≡ bytes
told-is before bytes other e left = let same : AreLeft (Some bytes) other = subst (λ (o : Option (List ℕ)). AreLeft o other) e left in sym same

-- ---- a run over a source

module _ (c : Command) (source : Reading) (j : Journal) (pictures notes : Putting) where
  pub read-answered : (st : Status) (bytes : List ℕ) → AreLeft source.before bytes → IsSpent source.after → IsAnswered st c bytes j pictures notes → IsReadAndAnswered st c source j pictures notes
  read-answered status.Done bytes left spent h = (bytes, left, spent, h)
  read-answered status.Usage bytes left spent h = (bytes, left, spent, h)
  read-answered (status.Scene line cause) bytes left spent h = (bytes, left, spent, h)
  read-answered status.ReadFault bytes left spent h = absurd h
  read-answered status.PictureFault bytes left spent h = (bytes, left, spent, h)
  read-answered status.NoteFault bytes left spent h = (bytes, left, spent, h)
  read-answered status.TooLong bytes left spent h = (bytes, left, tt, h)
  read-answered (status.Journal place) bytes left spent h = (bytes, left, spent, h)
  read-answered status.OutOfMemory bytes left spent h = (bytes, left, tt, h)

  pub starved-read : (st : Status) → st ≡ status.OutOfMemory → IsBlank j pictures notes → IsReadAndAnswered st c source j pictures notes
  starved-read st is h = let some = some-left source.before in subst (λ (s : Status). IsReadAndAnswered s c source j pictures notes) (sym is) (some.0, some.1, tt, inl h)

  -- the answer to the bytes that were told
  read-as : (st : Status) (bytes : List ℕ) → IsReadAndAnswered st c source j pictures notes → source.before ≡ Some bytes → (HasFailedToGive source → ⊥) → IsAnswered st c bytes j pictures notes
  read-as status.ReadFault bytes h told none = absurd (none h.0)
  read-as status.Done bytes h told none = subst (λ (b : List ℕ). IsAnswered status.Done c b j pictures notes) (told-is source.before bytes h.0 told h.1) h.3
  read-as status.Usage bytes h told none = subst (λ (b : List ℕ). IsAnswered status.Usage c b j pictures notes) (told-is source.before bytes h.0 told h.1) h.3
  read-as (status.Scene line cause) bytes h told none = subst (λ (b : List ℕ). IsAnswered (status.Scene line cause) c b j pictures notes) (told-is source.before bytes h.0 told h.1) h.3
  read-as status.PictureFault bytes h told none = subst (λ (b : List ℕ). IsAnswered status.PictureFault c b j pictures notes) (told-is source.before bytes h.0 told h.1) h.3
  read-as status.NoteFault bytes h told none = subst (λ (b : List ℕ). IsAnswered status.NoteFault c b j pictures notes) (told-is source.before bytes h.0 told h.1) h.3
  read-as status.TooLong bytes h told none = subst (λ (b : List ℕ). IsAnswered status.TooLong c b j pictures notes) (told-is source.before bytes h.0 told h.1) h.3
  read-as (status.Journal place) bytes h told none = subst (λ (b : List ℕ). IsAnswered (status.Journal place) c b j pictures notes) (told-is source.before bytes h.0 told h.1) h.3
  read-as status.OutOfMemory bytes h told none = subst (λ (b : List ℕ). IsAnswered status.OutOfMemory c b j pictures notes) (told-is source.before bytes h.0 told h.1) h.3

  -- where nothing fails, the answer's ending is the definition's
  pub as-defined : (st : Status) (bytes : List ℕ) → IsAnswered st c bytes j pictures notes → (ReadsAndShows c.mode → HasFailedToTake pictures → ⊥) → (HasFailedToTake notes → ⊥) → EndsAs (answer_of c bytes j).ending st
  as-defined status.Done bytes h taken noted = inl (ap Some (sym h.0.done))
  as-defined status.NoteFault bytes h taken noted = absurd (noted h.2)
  as-defined status.PictureFault bytes h taken noted = absurd (taken h.shows h.failed)
  as-defined status.OutOfMemory bytes h taken noted = inr refl
  as-defined status.ReadFault bytes h taken noted = absurd h
  as-defined status.Usage bytes h taken noted = inl h.refused
  as-defined (status.Scene line cause) bytes h taken noted = inl h.refused
  as-defined status.TooLong bytes h taken noted = inl h.refused
  as-defined (status.Journal place) bytes h taken noted = inl h.refused

  -- where the definition refuses the run, it ends so
  pub as-refused : (st : Status) (bytes : List ℕ) → IsAnswered st c bytes j pictures notes → ((answer_of c bytes j).ending ≡ all_done → ⊥) → EndsAs (answer_of c bytes j).ending st
  as-refused status.Done bytes h other = absurd (other h.0.done)
  as-refused status.NoteFault bytes h other = absurd (other h.0.done)
  as-refused status.PictureFault bytes h other = absurd (other h.done)
  as-refused status.OutOfMemory bytes h other = inr refl
  as-refused status.ReadFault bytes h other = absurd h
  as-refused status.Usage bytes h other = inl h.refused
  as-refused (status.Scene line cause) bytes h other = inl h.refused
  as-refused status.TooLong bytes h other = inl h.refused
  as-refused (status.Journal place) bytes h other = inl h.refused

-- an input that is too long
pub long-read : (is_replay with_journal : Bool) (count : ℕ) (source : Reading) (st : Status) (j : Journal) (pictures notes : Putting) → HasMoreThan 16777216 source.before
    → IsRefusedWith status.TooLong st length_line j pictures notes → IsReadAndAnswered st (showing_command is_replay with_journal count) source j pictures notes
long-read is_replay with_journal count source st j pictures notes long h =
    let c = showing_command is_replay with_journal count in
    let left = long-left 16777216 source.before long in
    let own : IsRefusedWith status.TooLong status.TooLong length_line j pictures notes = record { is = refl; no_frame = h.no_frame; no_picture = h.no_picture; noted = h.noted } in
    let answered = refuses c left.0 j pictures notes status.TooLong status.TooLong (refused input_too_long length_line) tt (too-long is_replay with_journal count left.0 j left.2) refl own in
    subst (λ (s : Status). IsReadAndAnswered s c source j pictures notes) (sym h.is) (left.0, left.1, tt, answered)

-- ---- the whole run

module _ (source : Reading) (j : Journal) (pictures notes : Putting) where
  -- words that are no command
  pub usage-ends : (o : Option Command) (st : Status) → None ≡ o → IsRefusedWith status.Usage st usage_line j pictures notes → IsUnread source → Ends st o source j pictures notes
  usage-ends o st none h unread = subst (λ (x : Option Command). Ends st x source j pictures notes) none (inl (
    record {
      refused = subst (λ (s : Status). ending_of s ≡ Some words_refused) (sym h.is) refl;
      no_frame = h.no_frame;
      no_picture = h.no_picture;
      noted = h.noted;
    },
    unread,
  ))

  starved-in : (m : Mode) (c : Command) → IsUnread source → IsBlank j pictures notes → EndsIn m status.OutOfMemory c source j pictures notes
  starved-in make c unread h = (unread, inl h)
  starved-in play c unread h = starved-read c source j pictures notes status.OutOfMemory refl h
  starved-in replay c unread h = starved-read c source j pictures notes status.OutOfMemory refl h

  -- words for which there was no memory
  pub starved-ends : (o : Option Command) (st : Status) → st ≡ status.OutOfMemory → IsUnread source → IsBlank j pictures notes → Ends st o source j pictures notes
  starved-ends None st is unread h = inr (is, unread, h)
  starved-ends (Some c) st is unread h = subst (λ (s : Status). Ends s (Some c) source j pictures notes) (sym is) (starved-in c.mode c unread h)

  -- ---- what follows

  abbrev command : Mode → Bool → ℕ → Command
  command m with_journal count = record { mode = m; journal = with_journal; count = count }

  defined-in : (m : Mode) (w : Bool) (k : ℕ) (st : Status) (bytes : List ℕ) → EndsIn m st (command m w k) source j pictures notes
      → IsToldIn m source bytes → (ReadsAndShows m → HasFailedToGive source → ⊥) → (ReadsAndShows m → HasFailedToTake pictures → ⊥) → (HasFailedToTake notes → ⊥)
      → EndsAs (answer_of (command m w k) bytes j).ending st
  defined-in play w k st bytes h told given taken noted = as-defined (command play w k) source j pictures notes st bytes (read-as (command play w k) source j pictures notes st bytes h told (given tt)) taken noted
  defined-in replay w k st bytes h told given taken noted = as-defined (command replay w k) source j pictures notes st bytes (read-as (command replay w k) source j pictures notes st bytes h told (given tt)) taken noted
  defined-in make w k st bytes h told given taken noted = as-defined (command make w k) source j pictures notes st [] h.1 taken noted

  refused-in : (m : Mode) (w : Bool) (k : ℕ) (st : Status) (bytes : List ℕ) → EndsIn m st (command m w k) source j pictures notes
      → IsToldIn m source bytes → (ReadsAndShows m → HasFailedToGive source → ⊥) → ((answer_of (command m w k) bytes j).ending ≡ all_done → ⊥)
      → EndsAs (answer_of (command m w k) bytes j).ending st
  refused-in play w k st bytes h told given other = as-refused (command play w k) source j pictures notes st bytes (read-as (command play w k) source j pictures notes st bytes h told (given tt)) other
  refused-in replay w k st bytes h told given other = as-refused (command replay w k) source j pictures notes st bytes (read-as (command replay w k) source j pictures notes st bytes h told (given tt)) other
  refused-in make w k st bytes h told given other = absurd (other refl)

  pub ends-defined : (o : Option Command) (st : Status) (bytes : List ℕ) → Ends st o source j pictures notes → IsGiven o source bytes → AreTaken o pictures notes → EndsAs (of_command o (λ s. j) bytes).ending st
  ends-defined None st bytes (inl h) given taken = inl h.0.refused
  ends-defined None st bytes (inr h) given taken = inr h.0
  ends-defined (Some c) st bytes h given taken = defined-in c.mode c.journal c.count st bytes h given.0 given.1 taken.0 taken.1

  pub ends-refused : (o : Option Command) (st : Status) (bytes : List ℕ) → Ends st o source j pictures notes → IsGiven o source bytes → ((of_command o (λ s. j) bytes).ending ≡ all_done → ⊥) → EndsAs (of_command o (λ s. j) bytes).ending st
  ends-refused None st bytes (inl h) given other = inl h.0.refused
  ends-refused None st bytes (inr h) given other = inr h.0
  ends-refused (Some c) st bytes h given other = refused-in c.mode c.journal c.count st bytes h given.0 given.1 other

  -- ---- one thread

  abbrev IsSerial : Scene → Type 0
  IsSerial s = journals.pictures s j ≡ journals.pictures s (serial s)

  serial-in : (m : Mode) (w : Bool) (k : ℕ) (bytes : List ℕ) (s : Scene) → EndsIn m status.Done (command m w k) source j pictures notes → IsToldIn m source bytes → IsSceneOf (command m w k) bytes s
      → journals.shares_key s ≡ false → IsSerial s
  serial-in play w k bytes s h told is apart =
      let same : h.0 ≡ bytes = told-is source.before bytes h.0 told h.1 in
      let shown = h.3.0 in
      let scenes : ◌≡◌ {A = Result Scene Fault} (Ok shown.scene) (Ok s) = sym shown.is.1 ∙ ap (scene_of whole_language) same ∙ is.1 in
      let own : shown.scene ≡ s = cc in
      (subst (λ (x : Scene). journals.shares_key x ≡ false → IsSerial x) own shown.one_thread) apart
  serial-in replay w k bytes s h told is apart =
      let same : h.0 ≡ bytes = told-is source.before bytes h.0 told h.1 in
      let shown = h.3.0 in
      let fronts : ◌≡◌ {A = Result (Scene × ℕ) Fault} (Ok (shown.scene, shown.is.1)) (Ok (s, is.1)) = sym shown.is.2 ∙ ap (front_of whole_language) same ∙ is.2 in
      let own : shown.scene ≡ s = same-scene _ _ fronts in
      (subst (λ (x : Scene). journals.shares_key x ≡ false → IsSerial x) own shown.one_thread) apart
  serial-in make w k bytes s h told is apart =
      let shown = h.1.0 in
      (subst (λ (x : Scene). journals.shares_key x ≡ false → IsSerial x) (shown.is ∙ sym is) shown.one_thread) apart

  pub ends-serial : (o : Option Command) (st : Status) (c : Command) (bytes : List ℕ) (s : Scene) → Ends st o source j pictures notes → o ≡ Some c → IsToldIn c.mode source bytes → IsSceneOf c bytes s
      → st ≡ status.Done → journals.shares_key s ≡ false → IsSerial s
  ends-serial o st c bytes s h taken told is done apart =
      let here : Ends status.Done (Some c) source j pictures notes = subst (λ (x : Status). Ends x (Some c) source j pictures notes) done (subst (λ (x : Option Command). Ends st x source j pictures notes) taken h) in
      serial-in c.mode c.journal c.count bytes s here told is apart
