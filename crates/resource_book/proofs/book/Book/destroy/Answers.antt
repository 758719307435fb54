use Rattle.std.proofs.Common.{rules, ◌<◌, ◌≤◌, ◌-◌, ap, ◌∙◌, sym, subst, slice_index_or, arith, refl, ℕ}
use Rattle.gfx_model.specs.Resources.{Thing, on_thing, with_references}
use Rattle.resource_laws.specs.Bare.{bare_of}
use Rattle.resource_book.specs.Answered.{HasLive}
use Rattle.resource_book.specs.Books.{view_of}
use Rattle.resource_book.specs.declared.book.Book.TheInside.{Inside}
use Rattle.resource_book.specs.Shelves.{resources_of}
use Rattle.resource_book.proofs.NoThing.{no_thing}
use Rattle.resource_book.proofs.Effects.{book_less, book_whole}
use Rattle.resource_book.proofs.Kept.{destroyed_kept, noted_room, same_limits, same_room}
use Rattle.resource_book.proofs.Rooms.{things_fit}
use Rattle.resource_book.proofs.book.Book.destroy.Goals as goal

pub note_destroy-requires : goal.note_destroy-requires
note_destroy-requires c = let fit = things_fit (resources_of c.self.inside.shelf) c.self.invariant.lawful in omega (arith, fit, c.self.invariant.destroys, c.self.invariant.room)

pub returns-then-row-gt1-clause-answer : goal.returns-then-row-gt1-clause-answer
returns-then-row-gt1-clause-answer c =
    let t : Thing = slice_index_or c.self.inside.shelf.table.things c.in-Ok.number no_thing in
    let live = c.in-Ok.ensures.1 no_thing in
    let more = subst (λ (n : ℕ). 1 < n) (ap (λ (u : Thing). u.references) (c.row.ensures no_thing)) c.if-row-gt1.true in
    let after = sym c.forget.ensures.bare ∙ ap bare_of (c.forget.ensures.after no_thing ∙ ap (λ (s : ℕ). on_thing (with_references (λ n. n - 1)) s (resources_of c.self.inside.shelf)) live.serial) in
    let less = book_less c.self.inside c.args.self.now c.self.view_is c.args.h c.forget.new.self t live.found more after in
    (search rules, less.0, less.1)

pub returns-clause-answer : goal.returns-clause-answer
returns-clause-answer c =
    let t : Thing = slice_index_or c.self.inside.shelf.table.things c.in-Ok.number no_thing in
    let live = c.in-Ok.ensures.1 no_thing in
    let few = subst (λ (n : ℕ). n ≤ 1) (ap (λ (u : Thing). u.references) (c.row.ensures no_thing)) c.if-row-gt1.false in
    let after = sym c.die.ensures.bare ∙ ap bare_of c.die.ensures.after in
    let whole = book_whole c.self.inside c.args.self.now c.self.view_is c.args.h c.die.new.self c.note_destroy.new.post t live.found few after c.note_destroy.ensures.noted in
    (search rules, whole.0, whole.1)

pub returns-then-row-gt1-clause-told : goal.returns-then-row-gt1-clause-told
returns-then-row-gt1-clause-told c = let live : HasLive c.args.h (view_of c.self.inside) = (_, c.in-Ok.ensures.1 no_thing) in subst (HasLive c.args.h) c.self.view_is live

pub returns-clause-told : goal.returns-clause-told
returns-clause-told c = let live : HasLive c.args.h (view_of c.self.inside) = (_, c.in-Ok.ensures.1 no_thing) in subst (HasLive c.args.h) c.self.view_is live

pub invariant_of-self : goal.invariant_of-self
invariant_of-self c =
    let new : Inside = record c.self.inside { shelf = c.forget.new.self } in
    destroyed_kept c.self.inside new c.args.self.now c.args.h _ c.self.invariant c.self.view_is (returns-then-row-gt1-clause-answer c) (same_limits c.forget.new.self c.self.inside.shelf c.forget.ensures.stacks c.self.invariant.limits) (same_room c.self.inside new refl)

pub invariant_of-self-2 : goal.invariant_of-self-2
invariant_of-self-2 c =
    destroyed_kept c.self.inside _ c.args.self.now c.args.h _ c.self.invariant c.self.view_is (returns-clause-answer c) c.die.ensures.limits (noted_room c.self.inside.post c.note_destroy.new.post _ c.note_destroy.ensures.noted c.note_destroy.ensures.spare)
