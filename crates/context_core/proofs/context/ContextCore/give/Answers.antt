use Rattle.std.proofs.Common.{rules, ◌≡◌, ◌<◌, [], ap, sym, subst, ◌∙◌, List, map, false}
use Rattle.gfx_model.specs.Frames.{collected}
use Rattle.hold_table.specs.Seats.{api_table, api_view}
use Rattle.draw_encoder.specs.declared.items.Recording.{Recording}
use Rattle.frame_record.specs.Kept.{IsKept}
use Rattle.frame_record.specs.Seen.{entry_seen, recordings_seen}
use Rattle.context_core.specs.Gathered.{anything}
use Rattle.context_core.specs.States.{CoreView}
use Rattle.context_core.proofs.Frames.{kept_frame}
use Rattle.context_core.proofs.Ends.{as_gathered, kept_given, makes_work, not_last}
use Rattle.context_core.proofs.context.ContextCore.give.Goals as goal

pub new-frame-requires : goal.new-frame-requires
new-frame-requires c =
    let still : c.self.inside.is_given ≡ false = ap (λ (o : CoreView). o.state.is_given) c.self.view_is ∙ c.requires.not_given in
    subst (λ (rs : List Recording). IsKept rs c.args.journal.items) (sym (ap (λ x. x.items) c.replace-recordings.ensures.value))
    (kept_frame anything c.self.inside.views (api_view c.self.inside.api) c.self.inside.begun c.self.inside.gathered.items
    (as_gathered anything c.self.inside.views (api_view c.self.inside.api) c.self.inside.begun c.self.inside.gathered.items c.self.inside.is_given still c.self.invariant.2.gathered) c.args.journal.items
    (c.requires.journal ∙ ap (λ (o : CoreView). collected (recordings_seen o.state.gathered)) (sym c.self.view_is)))

pub invariant_of-self : goal.invariant_of-self
invariant_of-self c =
    let none : (api_view c.self.inside.api).off ≡ [] = ap (λ (o : CoreView). o.state.seat.off) c.self.view_is ∙ c.requires.none_off in
    let few : c.self.inside.out < c.self.inside.book.resources.latency = subst (λ (o : CoreView). o.state.out < o.state.book.resources.latency) (sym c.self.view_is) c.requires.out in
    let last : c.self.inside.book.resources.frame < 1073741823 = subst (λ (o : CoreView). o.state.book.resources.frame < 1073741823) (sym c.self.view_is) (not_last c.args.self.now.state c.requires.accepted) in (
      search rules,
      c.self.invariant.1,
      kept_given anything c.self.inside.views _ c.self.invariant.2 c.replace-recordings.new.dest.items (ap (λ x. x.items) c.replace-recordings.ensures.after ∙ c.requires.room.0) _ none last few,
    )

pub returns : goal.returns
returns c =
    let still : c.self.inside.is_given ≡ false = ap (λ (o : CoreView). o.state.is_given) c.self.view_is ∙ c.requires.not_given in
    let f = c.new-frame.ensures in
    let vs : c.new-frame.result.views ≡ c.self.inside.book.resources.views = f.views ∙ subst (λ (o : CoreView). c.args.work.views ≡ o.state.book.resources.views) (sym c.self.view_is) c.requires.views in
    makes_work anything c.self.inside.views _ c.self.invariant.2 c.replace-recordings.new.dest.items (ap (λ x. x.items) c.replace-recordings.ensures.after ∙ c.requires.room.0) (api_table c.self.inside.api) c.new-frame.result c.args.work
    (as_gathered anything c.self.inside.views (api_view c.self.inside.api) c.self.inside.begun c.self.inside.gathered.items c.self.inside.is_given still c.self.invariant.2.gathered)
    (f.number ∙ c.frame-number.ensures.frame) vs f.commands.0 f.commands.1 f.payloads
    (ap (λ x. x.items) (f.recordings ∙ c.replace-recordings.ensures.value)) (ap (λ x. map entry_seen x.items) f.journal ∙ c.requires.journal ∙ ap (λ (o : CoreView). collected (recordings_seen o.state.gathered)) (sym c.self.view_is)) _ c.self.view_is
    _ (λ j. record { seat = api_view (c.of-last.ensures.seat j); recordings = (c.of-last.ensures.recordings j).items })
