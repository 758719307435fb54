use Rattle.std.proofs.Common.{rules}
use Rattle.gfx_model.specs.Resources.{create_texture}
use Rattle.gfx_words.specs.Kinds.{format_seen}
use Rattle.texture_store.specs.Seen.{own_source_seen}
use Rattle.resource_book.proofs.GivesLaws.{book_gives}
use Rattle.resource_book.proofs.book.Book.create_texture.Goals as goal

pub returns-in-Fill-clause-answer : goal.returns-in-Fill-clause-answer
returns-in-Fill-clause-answer c = search rules

pub returns-in-Fill-clause-free : goal.returns-in-Fill-clause-free
returns-in-Fill-clause-free c = book_gives c.new_filled.result (create_texture c.args.width c.args.height (format_seen c.args.format) c.args.blit_dst (own_source_seen c.args.source)) c.self.inside c.args.self.now c.new_filled.new.self c.self.invariant c.self.view_is (returns-in-Fill-clause-answer c)

pub returns-in-Bytes-clause-answer : goal.returns-in-Bytes-clause-answer
returns-in-Bytes-clause-answer c = search rules

pub returns-in-Bytes-clause-free : goal.returns-in-Bytes-clause-free
returns-in-Bytes-clause-free c = book_gives c.new_sent.result (create_texture c.args.width c.args.height (format_seen c.args.format) c.args.blit_dst (own_source_seen c.args.source)) c.self.inside c.args.self.now c.new_sent.new.self c.self.invariant c.self.view_is (returns-in-Bytes-clause-answer c)
