use Rattle.std.proofs.Common.{ℕ, ◌≤◌, length, sym, ◌∙◌, subst}
use Rattle.c_calls.specs.Frames.{came_back}
use Rattle.c_calls.specs.Views.{ContextView}
use Rattle.c_calls.proofs.InPasses.{delivered_as_one, told_as_one}
use Rattle.c_calls.proofs.open_frames.Kept.end.Goals as goal

pub returns-then-is_empty : goal.returns-then-is_empty
returns-then-is_empty c =
    let from : ContextView = c.args.self.from.value in
    let mid : ContextView = record from { core = came_back c.args.self.core } in
    let f = c.finish-context in (
      tt,
      told_as_one c.args.begun.frame c.args.self.dropped from mid f.result.0 c.requires.begun.runs c.requires.begun.made c.args.buffer.now c.tell-told.result
          (sym c.is_empty.ensures ∙ c.if-is_empty.true) (c.tell-told.ensures c.args.begun.frame mid f.ensures.number f.ensures.shows),
    )

pub returns : goal.returns
returns c =
    let from : ContextView = c.args.self.from.value in
    let mid : ContextView = record from { core = came_back c.args.self.core } in
    let f = c.finish-context in
    let some = sym c.is_empty.ensures ∙ c.if-is_empty.false in
    let enough = subst (λ (n : ℕ). n ≤ length c.args.buffer.now) c.requires.begun.most_is (c.is_short.ensures.no c.if-is_short.false some) in (
      tt,
      delivered_as_one c.args.begun.frame c.args.self.dropped from mid f.result.0 c.requires.begun.runs c.requires.begun.made c.args.buffer.now c.deliver-told.new.buffer c.deliver-told.result
          some enough (c.deliver-told.ensures c.args.begun.frame mid f.ensures.number f.ensures.shows),
    )
