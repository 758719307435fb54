use Rattle.std.proofs.Common.{ap, sym, ◌∙◌, length}
use Rattle.std.proofs.lemmas.List.{length-map}
use Rattle.gfx_words.specs.Kinds.{uniform_seen}
use Rattle.hold_table.specs.Seats.{api_table, api_view}
use Rattle.resource_book.specs.Seen.{row_seen}
use Rattle.context_core.proofs.Uniforms.{uniform_free, uniform_kept, uniform_makes, uniform_usable}
use Rattle.context_core.proofs.context.ContextCore.create_uniform.Goals as goal

pub mark_live-requires-clause-place : goal.mark_live-requires-clause-place
mark_live-requires-clause-place c =
    let h = c.in_ok-handle.ensures.answer in
    λ t. (uniform_free c.self.invariant.2 c.tell_facts.ensures c.args.name.now (uniform_seen c.args.kind) c.in_ok-handle.handle h.0 h.1 c.create_uniform.new.self h.2 (length c.rows-before.result.now) (length c.rows.result.now)
    (sym (length-map c.rows-before.result.now row_seen) ∙ ap length c.rows-before.ensures) (sym (length-map c.rows.result.now row_seen) ∙ ap length c.rows.ensures) t).0

pub mark_live-requires-clause-serial : goal.mark_live-requires-clause-serial
mark_live-requires-clause-serial c =
    let h = c.in_ok-handle.ensures.answer in
    λ t. (uniform_free c.self.invariant.2 c.tell_facts.ensures c.args.name.now (uniform_seen c.args.kind) c.in_ok-handle.handle h.0 h.1 c.create_uniform.new.self h.2 (length c.rows-before.result.now) (length c.rows.result.now)
    (sym (length-map c.rows-before.result.now row_seen) ∙ ap length c.rows-before.ensures) (sym (length-map c.rows.result.now row_seen) ∙ ap length c.rows.ensures) t).1

pub invariant_of-self-2 : goal.invariant_of-self-2
invariant_of-self-2 c =
    let h = c.in_ok-handle.ensures.answer in (
      c.self.invariant.0,
      c.self.invariant.1,
      uniform_kept c.self.invariant.2 c.tell_facts.ensures c.args.name.now (uniform_seen c.args.kind) c.in_ok-handle.handle h.0 h.1 c.create_uniform.new.self h.2 (length c.rows-before.result.now) (length c.rows.result.now)
          (sym (length-map c.rows-before.result.now row_seen) ∙ ap length c.rows-before.ensures) (sym (length-map c.rows.result.now row_seen) ∙ ap length c.rows.ensures) (api_view c.mark_live.new.api) c.mark_live.ensures.api,
    )

pub returns-clause-answer : goal.returns-clause-answer
returns-clause-answer c =
    let h = c.in_ok-handle.ensures.answer in
    uniform_makes c.self.invariant.2 c.tell_facts.ensures c.args.name.now (uniform_seen c.args.kind) c.in_ok-handle.handle h.0 h.1 c.create_uniform.new.self h.2 (length c.rows-before.result.now) (length c.rows.result.now)
    (sym (length-map c.rows-before.result.now row_seen) ∙ ap length c.rows-before.ensures) (sym (length-map c.rows.result.now row_seen) ∙ ap length c.rows.ensures) (api_view c.mark_live.new.api) c.mark_live.ensures.api (api_table c.self.inside.api) (api_table c.mark_live.new.api) c.mark_live.ensures.table _ c.self.view_is

pub returns-clause-stays : goal.returns-clause-stays
returns-clause-stays c =
    let h = c.in_ok-handle.ensures.answer in
    uniform_usable c.self.invariant.2 c.tell_facts.ensures c.args.name.now (uniform_seen c.args.kind) c.in_ok-handle.handle h.0 h.1 c.create_uniform.new.self h.2 (length c.rows-before.result.now) (length c.rows.result.now)
    (sym (length-map c.rows-before.result.now row_seen) ∙ ap length c.rows-before.ensures) (sym (length-map c.rows.result.now row_seen) ∙ ap length c.rows.ensures) (api_view c.mark_live.new.api) c.mark_live.ensures.api (api_table c.self.inside.api) _ c.self.view_is
