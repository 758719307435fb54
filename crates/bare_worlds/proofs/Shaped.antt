-- Draws take their triangles from the same things of the stores and of the world.
use Rattle.std.proofs.Common.{◌≡◌, ◌∙◌, ℕ, zero, suc, ◌+◌, ◌<◌, ◌≤◌, List, [], ◌∷◌, Option, Some, None, option_map, slice_get, refl, sym, ap, subst, arith}
use Rattle.std.proofs.lemmas.Option.{none-some}
use Rattle.std.specs.Option.{option_and_then}
use Rattle.std.specs.Prelude.{fold, take}
use Rattle.std.specs.List.{cons_option}
use Rattle.gfx_model.specs.Words.{program_kind, uniform_kind, first_place, greatest}
use Rattle.gfx_model.specs.World.{World, Content, layout_content, vertex_content, index_content, texture_content, frame_buffer_content, program_content, uniform_content, Item, Draw, draw_item, FrameContent, Surface, begin_frame, frame_step, first_world, vertex_range, index_range}
use Rattle.store_model.specs.Slots.{at}
use Rattle.store_laws.specs.Standing.{Holding, held_in, StandsIn, serial_at, serials, thing_at}
use Rattle.store_laws.specs.ByIndex.{Stores, FrameData, first_stores, frame_by_index, vertices_at, indices_at}
use Rattle.store_laws.specs.Says.{StandsFor, program_in, Says, left, there_in, begun_things, ItemNames, ItemsName}
use Rattle.store_laws.specs.Run.{Frames, no_frames, next_frame}
use Rattle.store_laws.proofs.MadeLaws.{made_all}
use Rattle.store_laws.proofs.FrameLaws.{frame_stands}
use Rattle.store_laws.proofs.DeathLaws.{left_same}
use Rattle.store_laws.proofs.Things.{found_place, serial_found}
use Rattle.store_laws.proofs.HeldLaws.{stand_found}
use Rattle.store_laws.proofs.LookLaws.{Keeps, here_of, vertices_same, indices_same}
use Rattle.store_laws.proofs.Start.{start_stands}
use Rattle.scene_model.specs.Scene.{Scene}
use Rattle.scene_model.specs.Fold.{FramePlan, plans, first_progress}
use Rattle.scene_model.specs.Journal.{Entry, Journal, item_of, frame_content}
use Rattle.scene_laws.specs.SceneFrames.{scene_frames}
use Rattle.scene_laws.proofs.Pictures.{contents_from, scene_run}
use Rattle.bare_worlds.specs.Bare.{bare_worlds, bare_stores, begun_by}
use Rattle.bare_worlds.specs.Laws.{IsShapedIn, ShapedLaw}
use Rattle.bare_worlds.proofs.Frames.{only, bare, frame-kept, stores-bare, moments_of, begun-at, has-entries}

-- ---- a frame of a run

record Begins (place : ℕ → ℕ) (h : Stores) (w : World) (f : FrameData) (content : FrameContent) : Type 0 where
  later : List ℕ
  stands : StandsFor place h (left content.gone w)
  says : Says place w f content later

some-same : {A : Type 0} (a b : A) → Some a ≡ Some b → a ≡ b
some-same a b is = cc is

run-says : (place : ℕ → ℕ) (h : Stores) (w : World) (gone : List ℕ) (fs : List FrameData) (cs : List FrameContent) → StandsFor place h (left gone w) → Frames place w gone fs cs
    → (n : ℕ) (f : FrameData) (u : World) (c : FrameContent) → slice_get fs n ≡ Some f → slice_get (moments_of w cs) n ≡ Some (u, c) → Begins place (fold frame_by_index h (take n fs)) u f c
run-says place h w gone fs cs s no_frames n f u c has begins = absurd (cc has)
run-says place h w gone fs cs s (next_frame {later = later} {f = g} {fs = more} {content = content} {contents = contents} e says next) zero f u c has begins =
    let P : List (ℕ × Content) → Type 0 = λ ts. StandsFor place h (record w { things = ts }) in
    let one : Begins place h w g content = record { later = later; stands = subst P (sym (left_same content.gone gone w.things e)) s; says = says } in
    let same : pair w content ≡ pair u c = some-same (pair w content) (pair u c) begins in
    subst (λ (z : World × FrameContent). Begins place h z.0 f z.1) same (subst (λ (x : FrameData). Begins place h w x content) (some-same g f has) one)
  where
    pair : World → FrameContent → World × FrameContent
    pair v d = (v, d)
run-says place h w gone fs cs s (next_frame {later = later} {f = g} {fs = more} {content = content} {contents = contents} e says next) (suc n) f u c has begins =
    let P : List (ℕ × Content) → Type 0 = λ ts. StandsFor place h (record w { things = ts }) in
    let one = frame_stands place h w g content later (subst P (sym (left_same content.gone gone w.things e)) s) says in
    run-says place (frame_by_index h g) (frame_step w content) later more contents one.1 next n f u c has begins

-- ---- its draws

-- what stands at a place of programs is one
program-at : (n : ℕ) (c : Content) (p : ℕ) → StandsIn c p → first_place program_kind ≤ p → p < first_place uniform_kind → program_in (n, c) ≡ None → ⊥
program-at n (layout_content l) p s low high e = (let b = s.1 in omega (arith, b, low))
program-at n (vertex_content l bytes) p s low high e = (let b = s.1 in omega (arith, b, low))
program-at n (index_content bytes) p s low high e = (let b = s.1 in omega (arith, b, low))
program-at n (texture_content f t) p s low high e = (let b = s.1 in omega (arith, b, low))
program-at n (frame_buffer_content color depth) p s low high e = (let b = s.1 in omega (arith, b, low))
program-at n (program_content k) p s low high e = none-some k (sym e)
program-at n (uniform_content name v) p s low high e = (let a = s.0 in omega (arith, a, high))

-- a program that is named is in the stores
program-there : (place : ℕ → ℕ) (h : Stores) (w : World) (index serial : ℕ) → StandsFor place h w → index < greatest program_kind → serial_at place (serials w.things) (first_place program_kind + index) ≡ Some serial → at h.programs index ≡ None → ⊥
program-there place h w index serial stands lt is none = go (thing_at place w.things (first_place program_kind + index)) refl
  where
    go : (o : Option (ℕ × Content)) → thing_at place w.things (first_place program_kind + index) ≡ o → ⊥
    go None e = none-some serial (sym (ap (option_map (λ (t : ℕ × Content). t.0)) e) ∙ serial_found place w.things (first_place program_kind + index) ∙ is)
    go (Some t) e =
        program-at t.0 t.1 (first_place program_kind + index) (subst (λ (p : ℕ). StandsIn t.1 p) (found_place place w.things (first_place program_kind + index) t e) (stand_found place w.things (first_place program_kind + index) t stands.stand e)) (omega arith) (omega (arith, lt))
        (sym (ap (option_and_then program_in) e) ∙ sym (stands.programs.each index lt) ∙ none)

shaped : (place : ℕ → ℕ) (h : Stores) (w : World) (f : FrameData) (content : FrameContent) (d : Draw) → content.items ≡ draw_item d ∷ [] → Begins place h w f content
    → IsShapedIn (begun_by h f) (begin_frame content.gone content.changes w) d
shaped place h w f content d is b =
    let start : World = left content.gone w in
    let there : List ℕ = there_in content w in
    let held : List Holding = held_in (begun_things content w) in
    let made = made_all place f.payloads h start f.pre content.changes b.says.made b.stands b.says.apart b.says.ascends in
    let keeps : Keeps place there held (begun_by h f) (begin_frame content.gone content.changes w) = record { stands = made.0; same = made.1; holds = refl } in
    let named : ItemsName place there held (draw_item d ∷ []) = subst (λ (is : List Item). ItemsName place there held is) (b.says.items ∙ is) b.says.named_items in
    let names : ItemNames place there held (draw_item d) = named.0 in
    record {
      width = ap (λ (b : Surface). b.color.width) keeps.stands.back;
      height = ap (λ (b : Surface). b.color.height) keeps.stands.back;
      vertices = vertices_same place there held (begun_by h f) (begin_frame content.gone content.changes w) d.vertices keeps names.2;
      indices = indices_same place there held (begun_by h f) (begin_frame content.gone content.changes w) d.indices keeps names.3;
      program = program-there place (begun_by h f) (begin_frame content.gone content.changes w) d.program.index d.program.serial keeps.stands names.0.0
          (here_of place there held (begun_by h f) (begin_frame content.gone content.changes w) (first_place program_kind + d.program.index) d.program.serial keeps names.0.1);
    }

-- ---- the scene

-- a frame that is there with the same commands
record Kept (o : Option FrameData) (f : FrameData) : Type 0 where
  frame : FrameData
  at : o ≡ Some frame
  same : bare frame ≡ bare f

kept-of : (o : Option FrameData) (f : FrameData) → option_map bare o ≡ Some (bare f) → Kept o f
kept-of None f e = absurd (cc e)
kept-of (Some g) f e = record { frame = g; at = refl; same = some-same (bare g) (bare f) e }

pub shaped-law : ShapedLaw
shaped-law s j colors k f p w n d has plan bare_at is =
    let entries = has-entries s k 0 (first_progress s) s.frames j f has in
    let start : World = first_world s.width s.height in
    let begun = begun-at k start (plans s) j n p w entries.0 plan bare_at entries.1 in
    let own = kept-of (slice_get (scene_frames s (only k n j)) k) f (frame-kept s n k 0 (first_progress s) s.frames j ∙ ap (option_map bare) has) in
    let run = scene_run s (only k n j) colors in
    let begins = run-says run.0 (first_stores start.back) start [] (scene_frames s (only k n j)) (contents_from (plans s) (only k n j)) (start_stands run.0 start.back) run.1 k own.frame begun.world (frame_content p (n ∷ [])) own.at begun.at in
    let stores = stores-bare s n (first_stores start.back) k 0 (first_progress s) s.frames j in
    let one = shaped run.0 (fold frame_by_index (first_stores start.back) (take k (scene_frames s (only k n j)))) begun.world own.frame (frame_content p (n ∷ [])) d (ap (λ o. cons_option o []) is) begins in
    subst (λ (u : World). IsShapedIn (begun_by (bare_stores s.width s.height (take k (scene_frames s j))) f) u d) (sym begun.begins)
    (subst (λ (g : FrameData). IsShapedIn (begun_by (bare_stores s.width s.height (take k (scene_frames s j))) g) (begin_frame p.gone p.changes begun.world) d) own.same
    (subst (λ (h : Stores). IsShapedIn (begun_by h own.frame) (begin_frame p.gone p.changes begun.world) d) stores one))
