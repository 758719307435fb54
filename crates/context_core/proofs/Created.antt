-- What an accepted create tells.
use Rattle.std.proofs.Common.{◌≡◌, ℕ, ◌+◌, ◌<◌, Bool, false, List, Option, Some, None, inl, refl, sym, ap, ◌∙◌, subst, arith, slice_set}
use Rattle.std.specs.Prelude.{⊤}
use Rattle.std.proofs.lemmas.Option.{same_Some}
use Rattle.gfx_model.specs.Words.{Kind, layout_kind, vertex_buffer_kind, index_buffer_kind, texture_kind, frame_buffer_kind, program_kind, Info, plain, texture_info, Handle, Format, ProgramKind, first_place, place_of_handle}
use Rattle.gfx_model.specs.Vertex.{Layout}
use Rattle.gfx_model.specs.World.{Item, Content, layout_content, vertex_content, index_content, texture_content, frame_buffer_content, program_content}
use Rattle.gfx_model.specs.Resources.{Resources, ResourceCall, TexelSource, Effect, create_layout, create_vertex_buffer, create_index_buffer, create_texture, create_frame_buffer, create_program, refusals, refusal_of, effect, make, lacks_index, lacks_serial, book_of, top_index, layout_of_handle, texels_from}
use Rattle.schedule_model.specs.Machine.{free, live, place_at}
use Rattle.hold_table.specs.Views.{SeatView, created}
use Rattle.resource_laws.specs.Bare.{bare_of}
use Rattle.resource_laws.specs.Lawful.{IsLawful}
use Rattle.resource_laws.proofs.CallLaws.{all_passed}
use Rattle.resource_book.specs.Written.{BookView, after_in}
use Rattle.context_core.specs.Kept.{IsTied, IsNext, AreTargets, IsCore, KeepsUsable}
use Rattle.gfx_model.specs.Views.{View}
use Rattle.context_core.proofs.Stays.{targets_stay}
use Rattle.context_core.specs.States.{CoreState, CoreView, own, core_of}
use Rattle.context_core.specs.Calls.{IsPlacedBy, Makes}
use Rattle.context_core.specs.Places.{Stays}
use Rattle.atomic_table.specs.Seated.{TableId}
use Rattle.context_core.proofs.Stays.{stays_unnamed, free_unnamed}
use Rattle.context_core.proofs.Moves.{kept_moved}
use Rattle.resource_book.proofs.SameLaws.{same_law}
use Rattle.context_core.proofs.Tied.{free_before, tied_made}

-- an effect that makes a thing of a kind
pub record IsMake (r : Resources) (e : Effect) (h : Handle) : Type 0 where
  pub kind : Kind
  pub info : Info
  pub content : Content
  pub is : e ≡ make kind info content r
  pub some : (lacks_index r kind).0 ≡ false
  pub serial : (lacks_serial r).0 ≡ false
  pub handle : h ≡ record { kind = kind; index = top_index (book_of r kind).free; serial = r.next_serial; info = info }

pub made_by : (k : Kind) (info : Info) (c : Content) (r : Resources) (h : Handle) → (lacks_index r k).0 ≡ false → (lacks_serial r).0 ≡ false → (make k info c r).made ≡ Some h → IsMake r (make k info c r) h
made_by k info c r h some serial m = record { kind = k; info = info; content = c; is = refl; some = some; serial = serial; handle = sym (same_Some _ _ m) }

module _ (r : Resources) (h : Handle) where
  pub make_layout : (l : Layout) → refusal_of r (create_layout l) ≡ None → (effect r (create_layout l)).made ≡ Some h → IsMake r (effect r (create_layout l)) h
  make_layout l e m = let p = all_passed (refusals r (create_layout l)) e in made_by layout_kind plain (layout_content l) r h p.0 p.1.0 m

  pub make_vertices : (l : Handle) (bytes : List ℕ) → refusal_of r (create_vertex_buffer l bytes) ≡ None → (effect r (create_vertex_buffer l bytes)).made ≡ Some h → IsMake r (effect r (create_vertex_buffer l bytes)) h
  make_vertices l bytes e m = let p = all_passed (refusals r (create_vertex_buffer l bytes)) e in made_by vertex_buffer_kind plain (vertex_content (layout_of_handle r l) bytes) r h p.1.1.1.0 p.1.1.1.1.0 m

  pub make_indices : (bytes : List ℕ) → refusal_of r (create_index_buffer bytes) ≡ None → (effect r (create_index_buffer bytes)).made ≡ Some h → IsMake r (effect r (create_index_buffer bytes)) h
  make_indices bytes e m = let p = all_passed (refusals r (create_index_buffer bytes)) e in made_by index_buffer_kind plain (index_content bytes) r h p.1.0 p.1.1.0 m

  pub make_texture : (width height : ℕ) (f : Format) (d : Bool) (source : TexelSource) → refusal_of r (create_texture width height f d source) ≡ None → (effect r (create_texture width height f d source)).made ≡ Some h
      → IsMake r (effect r (create_texture width height f d source)) h
  make_texture width height f d source e m = let p = all_passed (refusals r (create_texture width height f d source)) e in
      made_by texture_kind (texture_info f d width height) (texture_content f (texels_from width height source)) r h p.1.0 p.1.1.1.0 m

  pub make_target : (color : Handle) (depth : Option Handle) → refusal_of r (create_frame_buffer color depth) ≡ None → (effect r (create_frame_buffer color depth)).made ≡ Some h → IsMake r (effect r (create_frame_buffer color depth)) h
  make_target color None e m = let p = all_passed (refusals r (create_frame_buffer color None)) e in made_by frame_buffer_kind plain (frame_buffer_content color.serial None) r h p.1.1.0 p.1.1.1.0 m
  make_target color (Some d) e m = let p = all_passed (refusals r (create_frame_buffer color (Some d))) e in made_by frame_buffer_kind plain (frame_buffer_content color.serial (Some d.serial)) r h p.1.1.1.0 p.1.1.1.1.0 m

  pub make_program : (k : ProgramKind) → refusal_of r (create_program k) ≡ None → (effect r (create_program k)).made ≡ Some h → IsMake r (effect r (create_program k)) h
  make_program k e m = let p = all_passed (refusals r (create_program k)) e in made_by program_kind plain (program_content k) r h p.0 p.1.0 m

module _ {r : Resources} {e : Effect} {h : Handle} (m : IsMake r e h) where
  place_is : place_of_handle h ≡ first_place m.kind + top_index (book_of r m.kind).free
  place_is = ap place_of_handle m.handle

  pub place_was_free : (seat : SeatView) → IsLawful r → IsTied r seat → place_at seat.places (place_of_handle h) ≡ free
  place_was_free seat l t = ap (place_at seat.places) place_is ∙ free_before m.kind r l m.some m.serial seat t

  pub serial_is_new : (seat : SeatView) → IsTied r seat → seat.greatest < h.serial
  serial_is_new seat t = subst (λ (n : ℕ). seat.greatest < n) (sym (ap (λ (g : Handle). g.serial) m.handle)) t.older

  tied_after : (seat : SeatView) → IsLawful r → IsTied r seat → IsTied (bare_of e.after) (created (place_of_handle h) h.serial seat)
  tied_after seat l t = subst (λ (p : Resources × SeatView). IsTied p.0 p.1)
      (λ j. (bare_of (sym m.is j).after, created (sym place_is j) (sym (ap (λ (g : Handle). g.serial) m.handle) j) seat))
      (tied_made m.kind r l m.some m.serial seat t m.info m.content)

  -- the next serial is one more than the thing's
  next_made : (first : ℕ) → IsNext (bare_of e.after).next_serial h.serial first
  next_made first = inl (ap (λ (x : Effect). x.after.next_serial) m.is ∙ (let s = ap (λ (g : Handle). g.serial) m.handle in omega (arith, s)))

-- a create of a new thing
pub kept_made : (admits : ℕ → ℕ → List Item → ℕ → Type 0) (views : ℕ) (v : CoreState) (c : ResourceCall) (h : Handle) → IsCore admits views ⊤ v → IsLawful v.book.resources → IsMake v.book.resources (effect v.book.resources c) h
    → IsCore admits views ⊤ (record v { book = after_in c (Some h) v.book; seat = created (place_of_handle h) h.serial v.seat })
kept_made admits views v c h k l m =
    let same = same_law v.book.resources c in
    let stays = λ (n : ℕ). stays_unnamed v.seat.places (place_of_handle h) (live h.serial) n (free_unnamed n (place_at v.seat.places (place_of_handle h)) (place_was_free m v.seat l k.tied)) in
    kept_moved admits views v k (after_in c (Some h) v.book) (slice_set v.seat.places (place_of_handle h) (live h.serial)) h.serial
    (λ n le. stays_unnamed v.seat.places (place_of_handle h) (live h.serial) n (free_unnamed n (place_at v.seat.places (place_of_handle h)) (place_was_free m v.seat l k.tied)))
    (tied_after m v.seat l k.tied) (next_made m v.first) same.0 same.1
    (subst (λ (xs : List View). AreTargets v.seat.frame (slice_set v.seat.places (place_of_handle h) (live h.serial)) xs) (sym (ap (λ (e : Effect). e.after.views.settings) m.is))
    (targets_stay v.seat.frame v.seat.places (slice_set v.seat.places (place_of_handle h) (live h.serial)) (stays v.seat.frame) v.book.resources.views.settings k.targets))

module _ {admits : ℕ → ℕ → List Item → ℕ → Type 0} {views : ℕ} {v : CoreState} (k : IsCore admits views ⊤ v) (l : IsLawful v.book.resources) (c : ResourceCall) {h : Handle} (m : IsMake v.book.resources (effect v.book.resources c) h)
    (b : BookView) (s : SeatView) (book : b ≡ after_in c (Some h) v.book) (seat : s ≡ created (place_of_handle h) h.serial v.seat) where
  pub kept_after : IsCore admits views ⊤ (record v { book = b; seat = s })
  kept_after = subst (λ (p : BookView × SeatView). IsCore admits views ⊤ (record v { book = p.0; seat = p.1 })) (λ j. (sym book j, sym seat j)) (kept_made admits views v c h k l m)

  makes_here : refusal_of v.book.resources c ≡ None → (effect v.book.resources c).made ≡ Some h → (t u : TableId) → u ≡ t → Makes own c h (core_of t v) (core_of u (record v { book = b; seat = s }))
  makes_here accepted made t u same = record {
    accepted = accepted;
    made = made;
    placed = subst (λ (e : Effect). IsPlacedBy e.changes h v.seat s) (sym m.is) (place_was_free m v.seat l k.tied, seat);
    after = (λ j. core_of (same j) (record v { book = book j; seat = s }));
  }

  pub makes_after : refusal_of v.book.resources c ≡ None → (effect v.book.resources c).made ≡ Some h → (t u : TableId) → u ≡ t → (old : CoreView) → core_of t v ≡ old
      → Makes own c h old (core_of u (record v { book = b; seat = s }))
  makes_after accepted made t u same old e = subst (λ (o : CoreView). Makes own c h o (core_of u (record v { book = b; seat = s }))) e (makes_here accepted made t u same)

  usable_here : KeepsUsable v (record v { book = b; seat = s })
  usable_here n le = subst (λ (x : SeatView). Stays n v.seat.places x.places) (sym seat)
      (stays_unnamed v.seat.places (place_of_handle h) (live h.serial) n (free_unnamed n (place_at v.seat.places (place_of_handle h)) (place_was_free m v.seat l k.tied)))

  pub usable_after : (t : TableId) (old : CoreView) → core_of t v ≡ old → KeepsUsable old.state (record v { book = b; seat = s })
  usable_after t old e = subst (λ (o : CoreView). KeepsUsable o.state (record v { book = b; seat = s })) e usable_here
