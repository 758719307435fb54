use Rattle.std.proofs.Common.{rules, slice_index_or}
use Rattle.gfx_model.specs.Resources.{create_uniform}
use Rattle.gfx_words.specs.Kinds.{uniform_seen}
use Rattle.resource_book.proofs.NoThing.{no_thing}
use Rattle.resource_book.proofs.Effects.{book_referred, never_memory}
use Rattle.resource_book.proofs.GivesLaws.{book_gives}
use Rattle.resource_book.proofs.Kept.{referred_kept}
use Rattle.resource_book.proofs.book.Book.create_uniform.Goals as goal

pub returns-in-Some-clause-answer : goal.returns-in-Some-clause-answer
returns-in-Some-clause-answer c =
    book_referred c.self.inside c.args.self.now c.self.view_is c.refer.result c.args.name.now (uniform_seen c.args.kind) c.refer.new.shelf (slice_index_or c.self.inside.shelf.table.things c.in-Some.number no_thing) (search rules)
    (c.in-Some.ensures.1 no_thing) (c.refer.ensures.answer no_thing)

pub returns-in-Some-clause-free : goal.returns-in-Some-clause-free
returns-in-Some-clause-free c = book_gives c.refer.result (create_uniform c.args.name.now (uniform_seen c.args.kind)) c.self.inside c.args.self.now _ c.self.invariant c.self.view_is (returns-in-Some-clause-answer c)

pub returns-in-Some-clause-memory : goal.returns-in-Some-clause-memory
returns-in-Some-clause-memory c = never_memory c.refer.result _ _ _ _ (c.refer.ensures.answer no_thing)

pub invariant_of-self : goal.invariant_of-self
invariant_of-self c = referred_kept c.refer.result c.self.inside c.refer.new.shelf c.args.self.now (create_uniform c.args.name.now (uniform_seen c.args.kind)) c.self.invariant c.self.view_is (returns-in-Some-clause-answer c) c.refer.ensures.stacks

pub returns-in-None-clause-free : goal.returns-in-None-clause-free
returns-in-None-clause-free c = book_gives c.new_uniform.result (create_uniform c.args.name.now (uniform_seen c.args.kind)) c.self.inside c.args.self.now _ c.self.invariant c.self.view_is c.new_uniform.ensures
