-- How a recorded scene ends, from how it was played and put.
use Rattle.std.proofs.Common.{◌≡◌, ◌≢◌, ◌∙◌, ℕ, ◌+◌, ◌<◌, ◌≤◌, false, List, [], length, Option, Some, None, Result, Ok, Err, refl, sym, ap, ap₂, subst, inl, inr, ◌⊎◌, arith}
use Rattle.io_edge.specs.Edge.{IsSpent, with_front}
use Rattle.scene_model.specs.Scene.{Scene}
use Rattle.scene_model.specs.Grammar.{Fault, scene_of, whole_language}
use Rattle.scene_model.specs.Journal.{Journal, IsLawful, IsLawfulFront}
use Rattle.scene_model.specs.Output.{pictures_text}
use Rattle.scene_model.specs.Run.{longest_input}
use Rattle.scene_player.specs.declared.status.Status.{Status}
use Rattle.scene_player.specs.declared.status.Status.TheVariants as player
use Rattle.io_whole.specs.Whole.{HasMoreThan}
use Rattle.io_whole.specs.Runs.{Reading, HasFailedToGive, Putting, IsUntouched}
use Rattle.scene_player.proofs.Ends.{are-left}
use Rattle.frame_capture.specs.Film.{Film, CanBeCaptured, texts}
use Rattle.frame_capture.specs.Spelling.{AreTextsOf, film}
use Rattle.capture_running.specs.declared.size.Size.{Size}
use Rattle.capture_running.specs.declared.status.CaptureStatus.{CaptureStatus}
use Rattle.capture_running.specs.declared.status.CaptureStatus.TheVariants as status
use Rattle.capture_running.specs.Filmed.{film_of}
use Rattle.capture_running.specs.Measured.{IsOfSize, Measures, RefusesAs}
use Rattle.capture_running.specs.PlayedInto.{IsPlayedInto, IsPut}
use Rattle.capture_running.specs.Ended.{EndsRecord, HasGiven, IsBlank, IsPlayed, IsRead}
use Rattle.capture_running.proofs.Filmed.{capture-of, film-can, film-texts}

-- ---- what was read

-- what was read to its end
pub is-read : (most : ℕ) (bytes : List ℕ) (source : Reading) → source.before ≡ with_front bytes source.after → IsSpent source.after → length bytes ≤ most → IsRead most bytes source
is-read most bytes source e spent few = record { were_left = are-left source.before source.after bytes e spent; spent = spent; few = few }

module _ (st : CaptureStatus) (source : Reading) (j : Journal) (sink noted : Putting) where
  -- memory ran out before the play
  pub starved-ends : st ≡ status.OutOfMemory → j ≡ [] → IsUntouched sink → IsUntouched noted → EndsRecord st source j sink noted
  starved-ends e none same quiet = subst (λ (x : CaptureStatus). EndsRecord x source j sink noted) (sym e) (same, inl (none, quiet))

  -- a read failed
  pub fault-ends : st ≡ status.ReadFault → HasFailedToGive source → IsBlank j sink noted → EndsRecord st source j sink noted
  fault-ends e failed blank = subst (λ (x : CaptureStatus). EndsRecord x source j sink noted) (sym e) (failed, blank)

  -- a text that is too long
  pub long-ends : st ≡ status.TooLong → HasMoreThan longest_input source.before → IsBlank j sink noted → EndsRecord st source j sink noted
  long-ends e long blank = subst (λ (x : CaptureStatus). EndsRecord x source j sink noted) (sym e) (long, blank)

-- a text that is refused
refused-ends : (st : CaptureStatus) (text : List ℕ) (source : Reading) (j : Journal) (sink noted : Putting) → RefusesAs st (scene_of whole_language text) → IsRead longest_input text source
    → IsBlank j sink noted → EndsRecord st source j sink noted
refused-ends (status.Scene line cause) text source j sink noted h read blank = (text, read, h, blank)
refused-ends status.TooLarge text source j sink noted h read blank = (h.0, record { bytes = text; read = read; is = h.1 }, h.2, blank)
refused-ends status.OutOfMemory text source j sink noted h read blank = (blank.not_put, inl (blank.no_frame, blank.not_noted))
refused-ends status.Done text source j sink noted h read blank = absurd h
refused-ends status.Usage text source j sink noted h read blank = absurd h
refused-ends status.ReadFault text source j sink noted h read blank = absurd h
refused-ends status.PictureFault text source j sink noted h read blank = absurd h
refused-ends status.NoteFault text source j sink noted h read blank = absurd h
refused-ends status.TooLong text source j sink noted h read blank = absurd h
refused-ends (status.Capture frame cause) text source j sink noted h read blank = absurd h

-- the scene that was measured is the one that was read
pub sized : (s : Scene) (size : Size) (read : Result Scene Fault) → Measures (Ok size) read → read ≡ Ok s → IsOfSize size s
sized s size read h e = let both : ◌≡◌ {A = Result Scene Fault} (Ok h.0) (Ok s) = sym h.1 ∙ e in let same : h.0 ≡ s = cc in subst (λ (x : Scene). IsOfSize size x) same h.2

-- the same of a text as it was measured
pub measured-ends : (st wanted : CaptureStatus) (text seen : List ℕ) (source : Reading) (j : Journal) (sink noted : Putting) → st ≡ wanted → seen ≡ text → RefusesAs wanted (scene_of whole_language seen)
    → IsRead longest_input text source → IsBlank j sink noted → EndsRecord st source j sink noted
measured-ends st wanted text seen source j sink noted e same h read blank =
    let own = subst (λ (b : List ℕ). RefusesAs wanted (scene_of whole_language b)) same h in
    subst (λ (x : CaptureStatus). EndsRecord x source j sink noted) (sym e) (refused-ends wanted text source j sink noted own read blank)

-- ---- the texts that are put

module _ (s : Scene) (size : Size) (of_size : IsOfSize size s) (j : Journal) where
  pub film-is : film size.width size.height (film_of s j).pictures ≡ film_of s j
  film-is = ap₂ (λ (w h : ℕ). film w h (film_of s j).pictures) of_size.width_is of_size.height_is

  texts-of : (held : List ℕ) → IsLawful s j → held ≡ pictures_text s j → AreTextsOf size.width size.height held (film_of s j).pictures
  texts-of held lawful is =
      subst (λ (f : Film). CanBeCaptured f × (held ≡ texts f)) (sym film-is) (film-can s j of_size.readable lawful of_size.small, is ∙ sym (film-texts s j of_size.readable))

  -- the texts of the scene's pictures
  pub are-texts : (st : Status) (held bytes : List ℕ) (noted : Putting) → st ≡ player.Done → IsPlayedInto st s j held noted → bytes ≡ held → AreTextsOf size.width size.height bytes (film_of s j).pictures
  are-texts st held bytes noted e h same = let own = subst (λ (x : Status). IsPlayedInto x s j held noted) e h in texts-of bytes own.0 (same ∙ own.1)

  module _ (source : Reading) (sink noted : Putting) (given : HasGiven s source) where
    played : IsLawful s j → IsPlayed s source j
    played lawful = record { given = given; small = of_size.small; lawful = lawful }

    put-ends : (st : CaptureStatus) (held : List ℕ) → IsPlayedInto player.Done s j held noted → IsPut st (film_of s j) sink → EndsRecord st source j sink noted
    put-ends status.Done held h put = (s, played h.0, put.0, capture-of s j put.0 of_size.readable put.1, put.2, h.2)
    put-ends status.PictureFault held h put =
        (s, played h.0, put.0, capture-of s j put.0 of_size.readable put.1, put.2, put.3, h.2)
    put-ends status.OutOfMemory held h put = (put, inr (s, given, inr (h.0, h.2)))
    put-ends status.Usage held h put = absurd put
    put-ends (status.Scene line cause) held h put = absurd put
    put-ends status.ReadFault held h put = absurd put
    put-ends status.NoteFault held h put = absurd put
    put-ends status.TooLong held h put = absurd put
    put-ends status.TooLarge held h put = absurd put
    put-ends (status.Capture frame cause) held h put = absurd put

    -- what was put behind a whole play
    pub done-ends : (is : Status) (st : CaptureStatus) (held : List ℕ) → is ≡ player.Done → IsPlayedInto is s j held noted → IsPut st (film_of s j) sink → EndsRecord st source j sink noted
    done-ends is st held e h put = put-ends st held (subst (λ (x : Status). IsPlayedInto x s j held noted) e h) put

    -- the notes failed
    pub noted-ends : (is : Status) (held : List ℕ) → is ≡ player.NoteFault → IsPlayedInto is s j held noted → IsUntouched sink → EndsRecord status.NoteFault source j sink noted
    noted-ends is held e h same = let own = subst (λ (x : Status). IsPlayedInto x s j held noted) e h in (s, played own.0, same, own.1, own.2)

    starved : (j ≡ []) ⊎ IsLawfulFront s j → IsUntouched noted → IsUntouched sink → EndsRecord status.OutOfMemory source j sink noted
    starved (inl none) quiet same = (same, inl (none, quiet))
    starved (inr front) quiet same = (same, inr (s, given, inl (front, quiet)))

    -- no other end of the play can come but want of memory
    pub other-ends : (st : Status) (held : List ℕ) → IsPlayedInto st s j held noted → st ≢ player.Done → st ≢ player.NoteFault → IsUntouched sink → EndsRecord status.OutOfMemory source j sink noted
    other-ends player.OutOfMemory held h x y same = starved h.0 h.1 same
    other-ends player.Done held h x y same = absurd (x refl)
    other-ends player.NoteFault held h x y same = absurd (y refl)
    other-ends player.PictureFault held h x y same = absurd h
    other-ends player.ReadFault held h x y same = absurd h
    other-ends player.Usage held h x y same = absurd h
    other-ends (player.Scene line cause) held h x y same = absurd h
    other-ends player.TooLong held h x y same = absurd h
    other-ends (player.Journal place) held h x y same = absurd h
