-- The draws of views on their target, taken out once.
use Rattle.std.proofs.Common.{◌≡◌, ◌≢◌, ℕ, ◌+◌, true, List, [], ◌∷◌, take, Option, Some, None, refl, sym, ap, subst, ◌∙◌, inl, inr}
use Rattle.std.proofs.lemmas.Option.{none-some, same_Some}
use Rattle.std.specs.Prelude.{fold, map, ◌++◌, IfSome}
use Rattle.std.proofs.lemmas.List.Sums.{fold-append}
use Rattle.gfx_model.specs.Words.{Handle, ProgramKind}
use Rattle.gfx_model.specs.Raster.{Texels}
use Rattle.gfx_model.specs.Views.{View}
use Rattle.gfx_model.specs.World.{Surface, Item, draw_item, touch_item, blit_item, Blit, clear_surface}
use Rattle.store_model.specs.Laws.{PutBackLaw}
use Rattle.store_model.specs.Slots.{at}
use Rattle.store_model.specs.Buffers.{Buffers}
use Rattle.store_model.specs.Textures.{Textures, TargetSlot, IsTextures, target_texels, target_out, target_back, can_attach_at, TextureSlot}
use Rattle.store_model.proofs.AttachLaws.{apart_of}
use Rattle.store_laws.specs.ByIndex.{Stores, with_buffers, with_textures, on_target, textures_out, do_by_index}
use Rattle.store_laws.specs.Listed.{Drawing, drawn_in, values_after, IsApartTarget}
use Rattle.pass_laws.specs.Passed.{Turn, all_drawn, all_values, all_cleared, all_listed, all_passed}
use Rattle.int_raster.specs.Drawing.{PreparedDraw, drawn_prepared}
use Rattle.view_drawing.specs.Entered.{blit_in, StopsAtBlit, StopsAtDraw, HaveGiven, IsBegun}
use Rattle.view_drawing.specs.Memory.{CanDraw}
use Rattle.view_drawing.specs.Prepared.{DoAllTo}
use Rattle.view_drawing.proofs.TargetLaws.{surface_with, put_changed}

-- ---- the buffers of a list

one_value : (out : Textures) (programs : List (Option ProgramKind)) (view : View) (x : Drawing) (i : Item) → (drawn_in out programs view x i).buffers ≡ values_after x.buffers i
one_value out programs view x (draw_item d) = refl
one_value out programs view x (touch_item t) = refl
one_value out programs view x (blit_item b) = refl

values_drawn : (out : Textures) (programs : List (Option ProgramKind)) (view : View) (x : Drawing) (items : List Item) → (fold (drawn_in out programs view) x items).buffers ≡ fold values_after x.buffers items
values_drawn out programs view x [] = refl
values_drawn out programs view x (i ∷ items) =
    values_drawn out programs view (drawn_in out programs view x i) items ∙ ap (λ b. fold values_after b items) (one_value out programs view x i)

pub turns_drawn : (out : Textures) (programs : List (Option ProgramKind)) (x : Drawing) (ts : List Turn) → (all_drawn out programs x ts).buffers ≡ all_values x.buffers ts
turns_drawn out programs x [] = refl
turns_drawn out programs x (t ∷ ts) =
    turns_drawn out programs (fold (drawn_in out programs t.view) x t.items) ts ∙ ap (λ b. all_values b ts) (values_drawn out programs t.view x t.items)

-- ---- the list on what a target may be

abbrev surface_after : Option Handle → Stores → List Turn → Surface → Surface
surface_after target h ts s = (all_drawn (textures_out target h.textures) h.programs (record { buffers = h.buffers; surface = s }) ts).surface

-- on the back buffer
pub listed_back : (h : Stores) (ts : List Turn) (b : Buffers) (s : Surface)
    → all_drawn h.textures h.programs (record { buffers = h.buffers; surface = h.back }) ts ≡ record { buffers = b; surface = s }
    → record { back = s; buffers = b; textures = h.textures; programs = h.programs } ≡ all_listed None h ts
listed_back h ts b s e =
    λ j. record { back = (sym e j).surface; buffers = (ap (λ (x : Drawing). x.buffers) (sym e) ∙ turns_drawn h.textures h.programs (record { buffers = h.buffers; surface = h.back }) ts) j; textures = h.textures; programs = h.programs }

-- on textures that are taken out
pub listed_taken : (h : Stores) (ts : List Turn) (b : Buffers) (s : Surface) (t : Handle) (p : Texels × Option Texels) (textures : Textures)
    → target_texels h.textures t.index ≡ Some p
    → all_drawn (target_out t.index h.textures) h.programs (record { buffers = h.buffers; surface = surface_with p }) ts ≡ record { buffers = b; surface = s }
    → textures ≡ target_back t.index s.color s.depth (target_out t.index h.textures)
    → record { back = h.back; buffers = b; textures = textures; programs = h.programs } ≡ all_listed (Some t) h ts
listed_taken h ts b s t p textures there e is =
    λ j. record {
      back = h.back;
      buffers = (ap (λ (x : Drawing). x.buffers) (sym e) ∙ turns_drawn (target_out t.index h.textures) h.programs (record { buffers = h.buffers; surface = surface_with p }) ts) j;
      textures = put_changed h.textures textures t.index p (surface_after (Some t) h ts) s there (ap (λ (x : Drawing). x.surface) (sym e)) is j;
      programs = h.programs;
    }

-- ---- the clears and the list on what a target may be

-- on the back buffer
pub passed_back : (h : Stores) (cs ts : List Turn) (b : Buffers) (s : Surface)
    → all_drawn h.textures h.programs (record { buffers = h.buffers; surface = all_cleared h.back cs }) ts ≡ record { buffers = b; surface = s }
    → record { back = s; buffers = b; textures = h.textures; programs = h.programs } ≡ all_passed None h cs ts
passed_back h cs ts b s e =
    λ j. record { back = (sym e j).surface; buffers = (ap (λ (x : Drawing). x.buffers) (sym e) ∙ turns_drawn h.textures h.programs (record { buffers = h.buffers; surface = all_cleared h.back cs }) ts) j; textures = h.textures; programs = h.programs }

-- on textures that are taken out
pub passed_taken : (h : Stores) (cs ts : List Turn) (b : Buffers) (s : Surface) (t : Handle) (p : Texels × Option Texels) (textures : Textures)
    → target_texels h.textures t.index ≡ Some p
    → all_drawn (target_out t.index h.textures) h.programs (record { buffers = h.buffers; surface = all_cleared (surface_with p) cs }) ts ≡ record { buffers = b; surface = s }
    → textures ≡ target_back t.index s.color s.depth (target_out t.index h.textures)
    → record { back = h.back; buffers = b; textures = textures; programs = h.programs } ≡ all_passed (Some t) h cs ts
passed_taken h cs ts b s t p textures there e is =
    λ j. record {
      back = h.back;
      buffers = (ap (λ (x : Drawing). x.buffers) (sym e) ∙ turns_drawn (target_out t.index h.textures) h.programs (record { buffers = h.buffers; surface = all_cleared (surface_with p) cs }) ts) j;
      textures = put_changed h.textures textures t.index p (λ x. surface_after (Some t) h ts (all_cleared x cs)) s there (ap (λ (x : Drawing). x.surface) (sym e)) is j;
      programs = h.programs;
    }

-- ---- a frame buffer's textures are two

two_apart : (textures : List (Option TextureSlot)) (color : ℕ) (depth : Option ℕ) → can_attach_at textures color depth ≡ true → depth ≢ Some color
two_apart textures color None e f = none-some color f
two_apart textures color (Some d) e f = apart_of textures color d e (same_Some d color f)

pub apart_target : (h : Stores) (target : Option Handle) → IsTextures h.textures → IsApartTarget h target
apart_target h None is = tt
apart_target h (Some t) is = step (at h.textures.targets t.index) refl
  where
    step : (o : Option TargetSlot) → at h.textures.targets t.index ≡ o → IfSome o (λ s. s.depth ≢ Some s.color)
    step None e = tt
    step (Some s) e = two_apart h.textures.textures s.color s.depth (is.attached t.index s e)

-- ---- blits

blits_in : (view : View) (h : Stores) (blits : List Blit) → fold (do_by_index view) h (map blit_item blits) ≡ with_textures h (fold blit_in h.textures blits)
blits_in view h [] = refl
blits_in view h (b ∷ blits) = blits_in view (with_textures h (blit_in h.textures b)) blits

-- what is done after the blits is done after them
pub after_blits : (view : View) (h : Stores) (blits : List Blit) (items : List Item) (textures : Textures) → textures ≡ fold blit_in h.textures blits
    → fold (do_by_index view) (with_textures h textures) items ≡ fold (do_by_index view) h (map blit_item blits ++ items)
after_blits view h blits items textures e =
    ap (λ t. fold (do_by_index view) (with_textures h t) items) e
    ∙ sym (fold-append (do_by_index view) h (map blit_item blits) items ∙ ap (λ x. fold (do_by_index view) x items) (blits_in view h blits))

-- ---- where memory was wanting

-- the values of items, all of which are done
pub values_done : (width height : ℕ) (out : Textures) (programs : List (Option ProgramKind)) (view : View) (items : List Item) (b c : Buffers) (l m : List PreparedDraw)
    → DoAllTo width height out programs view items b l c m → c ≡ fold values_after b items
values_done width height out programs view items b c l m all =
    sym (ap (λ (x : Drawing). x.buffers) (all s refl refl)) ∙ values_drawn out programs view (record { buffers = b; surface = fold drawn_prepared s l }) items
  where
    s : Surface
    s = record { color = record { width = width; height = height; texels = [] }; depth = None }

pub begun_by_blits : (view : View) (blits : List Blit) (items : List Item) (old c : Stores) (textures : Textures) → c ≡ on_target old view.target (clear_surface view) → StopsAtBlit blits c.textures textures
    → IsBegun view blits items old (with_textures c textures)
begun_by_blits view blits items old c textures e stops = inl (record {
  before = stops.before;
  blit = stops.blit;
  there = stops.there;
  within = stops.within;
  done =
      ap (with_textures c) stops.done ∙ sym (blits_in view c (take stops.before blits))
      ∙ ap (λ x. fold (do_by_index view) x (map blit_item (take stops.before blits))) e;
})

-- a changed target leaves the programs
programs_kept : (h : Stores) (target : Option Handle) (change : Surface → Surface) → (on_target h target change).programs ≡ h.programs
programs_kept h None change = refl
programs_kept h (Some t) change = refl

pub begun_by_items : (view : View) (blits : List Blit) (items : List Item) (old c new : Stores) (textures : Textures) → c ≡ on_target old view.target (clear_surface view) → textures ≡ fold blit_in c.textures blits
    → HaveGiven items (with_textures c textures) new → IsBegun view blits items old new
begun_by_items view blits items old c new textures e f given =
    let stops : StopsAtDraw c.programs items c.buffers given.0 = given.1.0 in inr (record {
      before = stops.before;
      item = stops.item;
      there = stops.there;
      draws = subst (λ (ps : List (Option ProgramKind)). CanDraw ps stops.item) (ap (λ (h : Stores). h.programs) e ∙ programs_kept old view.target (clear_surface view)) stops.draws;
      done =
          given.1.1
          ∙ ap (with_buffers (with_textures c textures)) stops.given
          ∙ (λ j. with_buffers (step j) (fold values_after (step j).buffers (take (stops.before + 1) items)));
    })
  where
    step : with_textures c textures ≡ fold (do_by_index view) (on_target old view.target (clear_surface view)) (map blit_item blits)
    step =
        ap (with_textures c) f ∙ sym (blits_in view c blits)
        ∙ ap (λ x. fold (do_by_index view) x (map blit_item blits)) e

-- a target that is put back as it was
pub given_on_target : (h : Stores) (items : List Item) (i : ℕ) (p : Texels × Option Texels) (s : Surface) (b : Buffers) (textures : Textures) → IsTextures h.textures → PutBackLaw → target_texels h.textures i ≡ Some p
    → s ≡ surface_with p → textures ≡ target_back i s.color s.depth (target_out i h.textures) → StopsAtDraw h.programs items h.buffers b
    → HaveGiven items h (record { back = h.back; buffers = b; textures = textures; programs = h.programs })
given_on_target h items i p s b textures facts law there same is given =
    (b, (given, (λ j. record { back = h.back; buffers = b; textures = (is ∙ (λ k. target_back i (same k).color (same k).depth (target_out i h.textures)) ∙ law h.textures i p.0 p.1 facts there) j; programs = h.programs })))

-- a target that is put back cleared
pub given_on_cleared : (h : Stores) (cs : List Turn) (items : List Item) (t : Handle) (p : Texels × Option Texels) (s : Surface) (b : Buffers) (textures : Textures) → target_texels h.textures t.index ≡ Some p
    → s ≡ all_cleared (surface_with p) cs → textures ≡ target_back t.index s.color s.depth (target_out t.index h.textures) → StopsAtDraw h.programs items h.buffers b
    → HaveGiven items (on_target h (Some t) (λ x. all_cleared x cs)) (record { back = h.back; buffers = b; textures = textures; programs = h.programs })
given_on_cleared h cs items t p s b textures there same is given =
    (b, (given, (λ j. record { back = h.back; buffers = b; textures = put_changed h.textures textures t.index p (λ x. all_cleared x cs) s there same is j; programs = h.programs })))
