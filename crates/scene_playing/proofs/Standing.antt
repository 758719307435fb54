-- What names stand for when an encoder of a frame begins.
use Rattle.std.proofs.Common.{◌≡◌, ℕ, suc, ◌+◌, ◌<◌, ◌≤◌, ◌⊎◌, inl, inr, List, map, length, Option, Some, None, refl, sym, ap, ◌∙◌, subst, arith}
use Rattle.std.specs.List.{AllByRecursion, find}
use Rattle.gfx_model.specs.Words.{Handle, greatest, place_of_handle}
use Rattle.gfx_model.specs.World.{Item}
use Rattle.gfx_model.specs.Resources.{Thing, Resources, is_at, word_of, word_of_thing, word_of_death}
use Rattle.schedule_model.specs.Machine.{Place, place_at}
use Rattle.hold_table.specs.Words as places
use Rattle.hold_table.specs.Views.{SeatView, fresh}
use Rattle.draw_encoder.specs.Begins.{IsGivenBefore}
use Rattle.resource_laws.specs.Bare.{bare, bare_of}
use Rattle.resource_laws.specs.Lawful.{IsLawful}
use Rattle.resource_laws.proofs.LiveLaws.{all_found}
use Rattle.scene_model.specs.Scene.{Name, SceneFrame, Scene}
use Rattle.scene_model.specs.Fold.{Progress, thing_named}
use Rattle.scene_progress.specs.Progress.{before_of, AreGiven}
use Rattle.gfx_context.specs.Places.{place_by, place_of, IsPlaced}
use Rattle.gfx_context.specs.Kept.{IsNext, IsContext}
use Rattle.gfx_context.specs.States.{ContextView}
use Rattle.gfx_context.proofs.Tied.{found_bare}
use Rattle.block_recording.specs.Lines.{WasPlaced, StandFor}
use Rattle.scene_playing.specs.Recording.{IsRecording}

-- ---- the place of a thing has its word, and a serial that fits into one

word_by : (serial : ℕ) (d : Option ℕ) → word_of_death serial d ≡ places.word_of (place_by serial d)
word_by serial None = refl
word_by serial (Some death) = refl

word_of_place : (o : Option Thing) → word_of_thing o ≡ places.word_of (place_of o)
word_of_place None = refl
word_of_place (Some t) = word_by t.handle.serial t.death

up_by : (most serial : ℕ) (d : Option ℕ) → serial ≤ most → places.IsUpTo most (place_by serial d)
up_by most serial None le = le
up_by most serial (Some death) le = le

up_to : (r : Resources) (h : Handle) (o : Option Thing) → IsLawful r → find (is_at h.kind h.index) r.things ≡ o → places.IsUpTo 4294967295 (place_of o)
up_to r h None l e = omega arith
up_to r h (Some t) l e =
    let below = all_found (λ t. t.handle.serial < r.next_serial) (is_at h.kind h.index) r.things t l.below e in
    let most = l.serials in
    up_by 4294967295 t.handle.serial t.death (omega (arith, below, most))

-- ---- a handle that was given is in its place

-- where the first serial is 1, a serial below the next one was given
was_given : (next greatest first serial : ℕ) → IsNext next greatest first → first ≡ 1 → serial < next → serial ≤ greatest
was_given next greatest first serial (inl e) one lt = omega (arith, e, lt)
was_given next greatest first serial (inr e) one lt = let zero = e.0 in let is = e.1 in omega (arith, zero, is, one, lt)

module _ (r : Resources) (l : IsLawful r) (v : SeatView) (placed : IsPlaced v.places (map bare r.things)) (h : Handle) (below : h.index < greatest h.kind) where
  at : place_at v.places (place_of_handle h) ≡ place_of (find (is_at h.kind h.index) r.things)
  at = placed h.kind h.index below ∙ found_bare (is_at h.kind h.index) (λ t. refl) r.things

  was_placed : h.serial ≤ v.greatest → WasPlaced v r h
  was_placed given = record {
    given = (given, subst (λ (p : Place). places.IsUpTo 4294967295 p) (sym at) (up_to r h (find (is_at h.kind h.index) r.things) l refl));
    word = word_of_place (find (is_at h.kind h.index) r.things) ∙ ap places.word_of (sym at);
  }

-- names stand for what they do in the definition's state, for an encoder that begins with what the context knows
pub stand_for : {L : Type 0} (admits : ℕ → ℕ → List Item → ℕ → Type 0) (views number : ℕ) (s : Scene) (k : ℕ) (f : SceneFrame) (names : List (Option Handle)) (c : ContextView L)
    → IsContext admits views c → IsRecording s k f names c → IsLawful (before_of s k f).resources → AreGiven (before_of s k f) → StandFor names (fresh number c.seat) (before_of s k f)
stand_for admits views number s k f names c kept recording lawful given =
    let p : Progress = before_of s k f in
    let is : c.book.resources ≡ bare_of p.resources = ap (λ b. b.resources) recording.stands.book_is ∙ ap bare_of recording.stands.resources in
    let placed : IsPlaced c.seat.places (map bare p.resources.things) = subst (λ (r : Resources). IsPlaced c.seat.places r.things) is kept.tied.placed in
    record {
      named = recording.stands.named;
      placed = λ n h e.
          let known = given n h e in
          let next : c.book.resources.next_serial ≡ p.resources.next_serial = ap (λ r. r.next_serial) is in
          let lt : h.serial < c.book.resources.next_serial = subst (λ m. h.serial < m) (sym next) known.0 in
          was_placed p.resources lawful (fresh number c.seat) placed h known.1 (was_given c.book.resources.next_serial c.seat.greatest c.first h.serial kept.newest recording.first lt);
    }
