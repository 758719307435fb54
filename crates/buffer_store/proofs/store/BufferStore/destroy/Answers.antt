use Rattle.std.proofs.Common.{◌∙◌}
use Rattle.gfx_words.specs.Seen.{kind_seen}
use Rattle.store_model.proofs.NothingLaws.{taken_nothing}
use Rattle.buffer_store.proofs.store.BufferStore.destroy.Goals as goal

pub returns-clause-nothing : goal.returns-clause-nothing
returns-clause-nothing c none = c.take.ensures ∙ taken_nothing c.args.self.now (kind_seen c.args.kind) c.args.index none
