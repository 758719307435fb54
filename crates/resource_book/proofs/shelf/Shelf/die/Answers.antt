use Rattle.std.proofs.Common.{◌≡◌, ◌<◌, ◌+◌, ap, ◌∙◌, sym, subst, arith, [], length, map, ℕ}
use Rattle.gfx_model.specs.Words.{kind_number}
use Rattle.gfx_model.specs.Resources.{Book, with_death, with_waiting, change_of_serial}
use Rattle.resource_book.specs.Stacks.{StackView, book_seen}
use Rattle.resource_book.specs.Shelves.{resources_of}
use Rattle.resource_book.proofs.NoThing.{no_thing}
use Rattle.resource_book.proofs.Rooms.{waiting_room, live_of}
use Rattle.resource_book.proofs.StackLaws.{limit_here, limits_same, book_here, books_changed}
use Rattle.resource_book.proofs.ThingLaws.{change_at}
use Rattle.resource_book.proofs.shelf.Shelf.die.Goals as goal

pub wait-requires : goal.wait-requires
wait-requires c =
    let e = c.number.ensures ∙ ap kind_number c.kind-kind.ensures in
    let live = c.requires.live no_thing in
    let room = waiting_room (resources_of c.args.self.now) c.requires.lawful c.args.h.kind _ c.args.h.index live.found (live_of c.args.h c.args.self.now.table.things _ live) in
    let here = ap (λ (b : Book). length b.waiting) (book_here c.args.self.now.stacks c.args.h.kind c.number.result c.index-self-number.result (record { free = []; waiting = [] }) e c.requires.limits) in
    let limit = limit_here c.args.self.now.stacks c.args.h.kind c.number.result c.index-self-number.result e c.requires.limits in
    omega (arith, room, here, limit)

pub returns-clause-limits : goal.returns-clause-limits
returns-clause-limits c =
    limits_same c.args.self.now.stacks c.args.h.kind c.number.result c.index-self-number.result c.wait.new.self (c.number.ensures ∙ ap kind_number c.kind-kind.ensures) c.requires.limits (ap (λ (s : StackView). s.limit) c.wait.ensures)

pub returns-clause-after : goal.returns-clause-after
returns-clause-after c =
    let e = c.number.ensures ∙ ap kind_number c.kind-kind.ensures in
    let live = c.requires.live no_thing in
    λ j. record (resources_of c.args.self.now) {
      books = books_changed c.args.self.now.stacks c.args.h.kind c.number.result c.index-self-number.result c.wait.new.self (with_waiting c.args.h.index c.args.self.now.frame) (record { free = []; waiting = [] }) e c.requires.limits
          (ap book_seen c.wait.ensures ∙ (λ i. with_waiting (c.index-index.ensures.same i) c.args.self.now.frame (book_seen (Rattle.std.proofs.Common.slice_index_or c.args.self.now.stacks c.number.result c.index-self-number.result)))) j;
      things = (c.kill.ensures.things no_thing ∙ sym (change_at (with_death c.args.self.now.frame) 0 c.args.self.now.table.things c.args.number no_thing c.requires.lawful.rises c.requires.within)
          ∙ ap (λ (s : ℕ). change_of_serial (with_death c.args.self.now.frame) s c.args.self.now.table.things) live.serial) j;
    }
