-- What a book keeps over calls.
use Rattle.std.proofs.Common.{◌≡◌, ℕ, ◌+◌, ◌*◌, ◌≤◌, Bool, true, false, if◌then◌else◌, List, [], ◌∷◌, ◌++◌, map, length, Option, Some, None, Result, Ok, Err, refl, sym, ap, ◌∙◌, subst, arith}
use Rattle.std.proofs.lemmas.List.{length-append, length-map}
use Rattle.cmd_buffer.specs.Rows.{Writing}
use Rattle.gfx_model.specs.Commands.{Command}
use Rattle.gfx_model.specs.Views.{Views}
use Rattle.gfx_model.specs.Words.{Handle, all_kinds, greatest}
use Rattle.gfx_model.specs.Resources.{Thing, Resources, ResourceCall, is_live, refusal_of, effect, destroy, start_frame}
use Rattle.gfx_words.specs.declared.refusals.Refusal.{Refusal}
use Rattle.resource_laws.specs.Bare.{bare, bare_of}
use Rattle.resource_laws.specs.Lawful.{count_where, IsLawful}
use Rattle.resource_laws.proofs.AttachLaws.{count_map}
use Rattle.resource_laws.proofs.LawfulLaws.{lawful_bare}
use Rattle.resource_laws.proofs.CallLaws.{lawful_call}
use Rattle.resource_laws.proofs.StartLaws.{lawful_started}
use Rattle.resource_book.specs.Answered.{Creates, Destroys}
use Rattle.resource_book.specs.Books.{view_of, IsBook}
use Rattle.resource_book.specs.declared.book.Book.TheInside.{Inside}
use Rattle.resource_book.specs.declared.orders.Orders.{Orders}
use Rattle.resource_book.specs.declared.shelf.Shelf.{Shelf}
use Rattle.resource_book.specs.Shelves.{resources_of, HasLimits}
use Rattle.resource_book.specs.Stacks.{StackView}
use Rattle.resource_book.specs.Works.{destroy_bytes}
use Rattle.resource_book.specs.Written.{BookView, after_in, add_all, destroys_of}
use Rattle.resource_book.proofs.Counts.{moves}

pub length_added : {A : Type 0} (xs ys : List A) → length (add_all xs ys) ≡ length xs + length ys
length_added xs [] = omega arith
length_added xs (y ∷ ys) = length-append xs (y ∷ ys)

-- the bytes of the destroys that there is room for did not grow less
abbrev pub KeepsRoom : (old new : Inside) → Type 0
KeepsRoom old new = old.post.spare + 4 * length old.post.commands ≤ new.post.spare + 4 * length new.post.commands

pub kept_call : (old new : Inside) (call : ResourceCall) (made : Option Handle) → IsBook old → refusal_of (resources_of old.shelf) call ≡ None → view_of new ≡ after_in call made (view_of old) → HasLimits new.shelf → KeepsRoom old new → IsBook new
kept_call old new call made k passes e limits room =
    let r = resources_of old.shelf in
    let now : resources_of new.shelf ≡ bare_of (effect r call).after = ap (λ (v : BookView). v.resources) e in
    let m = moves r call k.lawful passes in
    let posted : length new.post.commands ≡ length (add_all old.post.commands (destroys_of r call)) = ap (λ (v : BookView). length v.post) e in
    let added = length_added old.post.commands (destroys_of r call) in
    let lives : count_where is_live (resources_of new.shelf).things ≡ count_where is_live (effect r call).after.things = ap (λ (s : Resources). count_where is_live s.things) now ∙ count_map bare is_live (λ t. refl) (effect r call).after.things in
    let many : length (resources_of new.shelf).things ≡ length (effect r call).after.things = ap (λ (s : Resources). length s.things) now ∙ length-map (effect r call).after.things bare in
    let frames : new.shelf.frame ≡ old.shelf.frame = ap (λ (s : Resources). s.frame) now ∙ m.frame in
    record {
      limits = limits;
      lawful = subst IsLawful (sym now) (lawful_bare (effect r call).after (lawful_call r call k.lawful passes));
      frame = omega (arith, frames, k.frame);
      destroys = omega (arith, posted, added, lives, many, m.counts, k.destroys);
      room = omega (arith, room, k.room);
    }

pub kept_same : (old new : Inside) → IsBook old → view_of new ≡ view_of old → HasLimits new.shelf → KeepsRoom old new → IsBook new
kept_same old new k e limits room =
    let now : resources_of new.shelf ≡ resources_of old.shelf = ap (λ (v : BookView). v.resources) e in
    let posted : length new.post.commands ≡ length old.post.commands = ap (λ (v : BookView). length v.post) e in
    let lives : count_where is_live (resources_of new.shelf).things ≡ count_where is_live (resources_of old.shelf).things = ap (λ (s : Resources). count_where is_live s.things) now in
    let many : length (resources_of new.shelf).things ≡ length (resources_of old.shelf).things = ap (λ (s : Resources). length s.things) now in
    let frames : new.shelf.frame ≡ old.shelf.frame = ap (λ (s : Resources). s.frame) now in
    record {
      limits = limits;
      lawful = subst IsLawful (sym now) k.lawful;
      frame = omega (arith, frames, k.frame);
      destroys = omega (arith, posted, lives, many, k.destroys);
      room = omega (arith, room, k.room);
    }

pub same_room : (old new : Inside) → new.post ≡ old.post → KeepsRoom old new
same_room old new e = let a = ap (λ (w : Writing). w.spare + 4 * length w.commands) e in omega (arith, a)

pub same_limits : (s t : Shelf) → s.stacks ≡ t.stacks → HasLimits t → HasLimits s
same_limits s t e = subst (λ (ss : List StackView). map (λ b. b.limit) ss ≡ map greatest all_kinds) (sym e)

-- a create that is accepted
pub created_kept : (b new : Inside) (v : BookView) (call : ResourceCall) (h : Handle) → IsBook b → view_of b ≡ v → Creates (Ok h) call v (view_of new) → HasLimits new.shelf → new.post ≡ b.post → IsBook new
created_kept b new v call h k is a limits e =
    let made : Creates (Ok h) call (view_of b) (view_of new) = subst (λ (w : BookView). Creates (Ok h) call w (view_of new)) (sym is) a in
    kept_call b new call (Some h) k made.0 made.2 limits (same_room b new e)

-- a create of a uniform whose name lives, whether it is refused or not
pub referred_kept : (result : Result Handle Refusal) (b : Inside) (s : Shelf) (v : BookView) (call : ResourceCall) → IsBook b → view_of b ≡ v → Creates result call v (view_of (record b { shelf = s })) → s.stacks ≡ b.shelf.stacks → IsBook (record b { shelf = s })
referred_kept (Ok h) b s v call k is a stacks = created_kept b (record b { shelf = s }) v call h k is a (same_limits s b.shelf stacks k.limits) refl
referred_kept (Err r) b s v call k is a stacks = kept_same b (record b { shelf = s }) k (a.1 ∙ sym is) (same_limits s b.shelf stacks k.limits) (same_room b (record b { shelf = s }) refl)

-- there is more room, and nothing else is changed
pub reserved_kept : (b : Inside) (s : Shelf) (o : Orders) → IsBook b → resources_of s ≡ resources_of b.shelf → s.stacks ≡ b.shelf.stacks → IsBook (record b { shelf = s; orders = o })
reserved_kept b s o k e stacks =
    let frames : s.frame ≡ b.shelf.frame = ap (λ (r : Resources). r.frame) e in
    let lives : count_where is_live (resources_of s).things ≡ count_where is_live (resources_of b.shelf).things = ap (λ (r : Resources). count_where is_live r.things) e in
    let many : length (resources_of s).things ≡ length (resources_of b.shelf).things = ap (λ (r : Resources). length r.things) e in
    record {
      limits = same_limits s b.shelf stacks k.limits;
      lawful = subst IsLawful (sym e) k.lawful;
      frame = omega (arith, frames, k.frame);
      destroys = omega (arith, lives, many, k.destroys);
      room = k.room;
    }

-- other views
pub views_kept : (b : Inside) (vs : Views) → IsBook b → IsBook (record b { shelf = record b.shelf { views = vs } })
views_kept b vs k = record {
  limits = k.limits;
  lawful = record {
    rises = k.lawful.rises;
    below = k.lawful.below;
    serials = k.lawful.serials;
    few = k.lawful.few;
    fits = k.lawful.fits;
    books = k.lawful.books;
    below_free = k.lawful.below_free;
    once = k.lawful.once;
    waits = k.lawful.waits;
    past = k.lawful.past;
    attached = k.lawful.attached;
  };
  frame = k.frame;
  destroys = k.destroys;
  room = k.room;
}

-- a destroy that is accepted
pub destroyed_kept : (b new : Inside) (v : BookView) (h : Handle) (died : Bool) → IsBook b → view_of b ≡ v → Destroys (Ok died) h v (view_of new) → HasLimits new.shelf → KeepsRoom b new → IsBook new
destroyed_kept b new v h died k is a limits room =
    let done : Destroys (Ok died) h (view_of b) (view_of new) = subst (λ (w : BookView). Destroys (Ok died) h w (view_of new)) (sym is) a in
    kept_call b new (destroy h) None k done.0 done.2 limits room

-- one destroy more, of four bytes
pub noted_room : (old new : Writing) (d : Command) → new.commands ≡ old.commands ++ d ∷ [] → old.spare ≤ new.spare + 4 → old.spare + 4 * length old.commands ≤ new.spare + 4 * length new.commands
noted_room old new d e spare = let long = ap length e ∙ length-append old.commands (d ∷ []) in omega (arith, long, spare)

-- ---- frames

few_where : (p : Thing → Bool) (ts : List Thing) → count_where p ts ≤ length ts
few_where p [] = omega arith
few_where p (t ∷ ts) = let h = few_where p ts in let one = at_most_one (p t) in omega (arith, h, one) where
  at_most_one : (b : Bool) → (if b then 1 else 0) ≤ 1
  at_most_one true = omega arith
  at_most_one false = omega arith

pub started_kept : (b : Inside) (s : Shelf) (frame : ℕ) → IsBook b → b.shelf.frame ≤ frame → frame ≤ 1073741823 → b.post.commands ≡ [] → resources_of s ≡ start_frame frame (resources_of b.shelf) → HasLimits s → IsBook (record b { shelf = s })
started_kept b s frame k later most empty now limits =
    let frames : s.frame ≡ frame = ap (λ (r : Resources). r.frame) now in
    let posted : length b.post.commands ≡ 0 = ap length empty in
    let few = few_where is_live (resources_of s).things in
    record {
      limits = limits;
      lawful = subst IsLawful (sym now) (lawful_started (resources_of b.shelf) frame k.lawful later);
      frame = omega (arith, frames, most);
      destroys = omega (arith, posted, few);
      room = k.room;
    }

-- the work was taken
pub taken_kept : (b : Inside) (o : Orders) (post : Writing) → IsBook b → post.commands ≡ [] → destroy_bytes ≤ post.spare → IsBook (record b { orders = o; post = post })
taken_kept b o post k empty room =
    let posted : length post.commands ≡ 0 = ap length empty in
    let few = few_where is_live (resources_of b.shelf).things in
    record {
      limits = k.limits;
      lawful = k.lawful;
      frame = k.frame;
      destroys = omega (arith, posted, few);
      room = omega (arith, room);
    }

-- the rows have more room
pub roomier_kept : (b : Inside) (o : Orders) (post : Writing) → IsBook b → post.commands ≡ b.post.commands → b.post.spare ≤ post.spare → IsBook (record b { orders = o; post = post })
roomier_kept b o post k same spare =
    let posted : length post.commands ≡ length b.post.commands = ap length same in
    record {
      limits = k.limits;
      lawful = k.lawful;
      frame = k.frame;
      destroys = omega (arith, posted, k.destroys);
      room = omega (arith, posted, spare, k.room);
    }
