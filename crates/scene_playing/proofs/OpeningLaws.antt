-- The context at the start of the first frame.
use Rattle.std.proofs.Common.{◌≡◌, ◌==◌, ℕ, zero, suc, Bool, true, false, if◌then◌else◌, inl, inr, List, [], ◌∷◌, map, length, replicate, Option, Some, None, refl, sym, ap, ◌∙◌, subst}
use Rattle.std.proofs.lemmas.List.{length-replicate}
use Rattle.gfx_model.specs.Words.{Handle, Kind, all_kinds, greatest}
use Rattle.gfx_model.specs.Views.{View, plain_view, IsViewCount, fewest_views, most_views}
use Rattle.gfx_model.specs.Resources.{Resources, Book, new_book, opening, book_at_start, with_live_target, start_frame}
use Rattle.resource_laws.specs.Bare.{bare_of}
use Rattle.scene_model.specs.Scene.{Scene, views_of, latency_of}
use Rattle.scene_model.specs.Fold.{Progress, at_start, first_progress}
use Rattle.scene_progress.specs.Progress.{start_of}
use Rattle.scene_progress.specs.Laws.{FirstLaw}
use Rattle.scene_lines.specs.Names.{AreNamed, handle_of}
use Rattle.resource_book.specs.Opened.{opened}
use Rattle.resource_book.specs.declared.opening.Start.{Start}
use Rattle.gfx_context.specs.States.{ContextView}
use Rattle.scene_playing.specs.Recording.{IsAt}

-- nothing waits in a new book
books_kept : (latency frame : ℕ) (ks : List Kind) → map (book_at_start latency frame) (map (λ k. new_book (greatest k)) ks) ≡ map (λ k. new_book (greatest k)) ks
books_kept latency frame [] = refl
books_kept latency frame (k ∷ ks) = ap (λ bs. new_book (greatest k) ∷ bs) (books_kept latency frame ks)

-- no view has a target
views_kept : (r : Resources) (n : ℕ) → map (with_live_target r) (replicate n plain_view) ≡ replicate n plain_view
views_kept r zero = refl
views_kept r (suc n) = ap (λ vs. plain_view ∷ vs) (views_kept r n)

-- the start of a frame changes nothing but its number where nothing is made
pub start_opening : (views latency frame serial : ℕ) → start_frame frame (opening views latency frame serial) ≡ opening views latency frame serial
start_opening views latency frame serial = λ i. record (opening views latency frame serial) {
  books = books_kept latency frame all_kinds i;
  views = record (opening views latency frame serial).views { settings = views_kept (opening views latency frame serial) views i };
}

none_named : (many n : ℕ) → handle_of (replicate many None) n ≡ None
none_named zero n = refl
none_named (suc many) zero = refl
none_named (suc many) (suc n) = none_named many n

-- a new context is at the start of the first frame
pub at_first : {L : Type 0} (first : FirstLaw) (s : Scene) (start : Start) (c : ContextView L) → start.frame ≡ 0 → start.serial ≡ 1 → start.views ≡ views_of s → start.latency ≡ latency_of s
    → c.book ≡ opened start → c.begun ≡ 0 → c.is_ended ≡ false → c.first ≡ start.serial → (handles : List (Option Handle)) → handles ≡ replicate (length s.names) None → IsAt s 0 handles c
at_first first s start c frame serial views latency book begun running is handles none =
    let at : start_of s 0 ≡ at_start 0 (first_progress s) = ap (at_start 0) (first s) in
    let opened_is : opening start.views start.latency start.frame start.serial ≡ (start_of s 0).resources =
    (λ i. opening (views i) (latency i) (frame i) (serial i)) ∙ sym (start_opening (views_of s) (latency_of s) 0 1) ∙ ap (λ (p : Progress). p.resources) (sym at) in
    let bare_is : (start_of s 0).resources ≡ bare_of (start_of s 0).resources = subst (λ (r : Resources). r ≡ bare_of r) opened_is refl in
    record {
      stands = record {
        resources = refl;
        changes = refl;
        book_is = book ∙ ap (λ (r : Resources). record { resources = r; pre = []; post = []; payloads = [] }) (opened_is ∙ bare_is);
        named = subst (λ hs. AreNamed hs (start_of s 0).bindings) (sym none) (subst (λ (p : Progress). AreNamed (replicate (length s.names) None) p.bindings) (sym at) (none_named (length s.names)));
      };
      none_begun = begun;
      running = running;
      first = is ∙ serial;
      many = ap length none ∙ length-replicate (length s.names) None;
    }

counted_by : (b : Bool) → IsViewCount (if b then fewest_views else most_views)
counted_by true = inl refl
counted_by false = inr refl

-- a scene has as many views as there may be
pub counted_views : (s : Scene) → IsViewCount (views_of s)
counted_views s = counted_by (s.version == 1)
