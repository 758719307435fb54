use Rattle.std.proofs.Common.{rules, ℕ, ap, sym, subst, ◌∙◌, List}
use Rattle.gfx_model.specs.Views.{view_count}
use Rattle.hold_table.specs.Seats.{api_table, api_view, enc_view}
use Rattle.draw_encoder.specs.Bundles.{BelongTogether}
use Rattle.draw_encoder.specs.declared.items.Recording.{Recording}
use Rattle.context_core.specs.Gathered.{anything, AreGathered}
use Rattle.context_core.specs.States.{CoreView}
use Rattle.context_core.proofs.Ends.{as_gathered, has_gathered, off_not_given, kept_gathered}
use Rattle.context_core.proofs.Gathers.{gathered_more, same_joined, gathers_told}
use Rattle.context_core.proofs.context.ContextCore.gather.Goals as goal

pub invariant_of-self : goal.invariant_of-self
invariant_of-self c =
    let k = c.self.invariant.2 in
    let j = c.join.ensures in
    let old = api_view c.self.inside.api in
    let new = api_view c.join.new.api in
    let together : BelongTogether c.self.inside.views c.args.recording c.args.seat =
    subst (λ (n : ℕ). BelongTogether n c.args.recording c.args.seat) (ap (λ (o : CoreView). view_count o.state.book.resources.views) (sym c.self.view_is) ∙ k.counted) c.requires.together in
    let still = off_not_given anything c.self.inside.views old c.self.inside.begun c.self.inside.gathered.items c.self.inside.is_given (enc_view c.args.seat).encoder k.gathered j.was_off in
    let was = as_gathered anything c.self.inside.views old c.self.inside.begun c.self.inside.gathered.items c.self.inside.is_given still k.gathered in
    let more = gathered_more anything c.self.inside.views old new c.args.recording c.args.seat j.api together j.frame j.was_off j.named tt j.distinct j.most c.self.inside.begun c.self.inside.gathered.items was in (
      search rules,
      c.self.invariant.1,
      kept_gathered anything c.self.inside.views _ k new c.push_reserved.new.self.items (same_joined old new c.args.seat j.api)
          (has_gathered anything c.self.inside.views new c.self.inside.begun c.push_reserved.new.self.items c.self.inside.is_given still
          (subst (λ (rs : List Recording). AreGathered anything c.self.inside.views new c.self.inside.begun rs) (sym c.push_reserved.ensures.items) more)),
    )

pub returns : goal.returns
returns c =
    let j = c.join.ensures in
    gathers_told (api_table c.self.inside.api) (api_table c.join.new.api) _ (api_view c.join.new.api) c.push_reserved.new.self.items c.args.recording c.args.seat j.api c.push_reserved.ensures.items j.was_off _ c.self.view_is
    (j.table ∙ sym c.requires.table.0)
