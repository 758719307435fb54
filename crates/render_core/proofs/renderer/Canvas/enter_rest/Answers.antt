use Rattle.std.proofs.Common.{◌∙◌, List, map, ap, inl}
use Rattle.std.proofs.lemmas.Result.{on_ok_weaker}
use Rattle.gfx_words.specs.Seen.{entry_seen}
use Rattle.gfx_words.specs.declared.journal.JournalEntry.{JournalEntry}
use Rattle.frame_record.specs.Placed.{items_in}
use Rattle.render_stores.specs.Seen.{stores_seen}
use Rattle.view_drawing.specs.Passes.{part_seen}
use Rattle.view_drawing.specs.declared.view_parts.ViewPart.{ViewPart}
use Rattle.render_core.specs.Seen.{frame_seen, recordings_of}
use Rattle.render_core.specs.ViewParts.{parts_in}
use Rattle.render_core.proofs.PartsIn.{nothing_left, rest_entered, rest_plain}
use Rattle.render_core.proofs.Wants.{no_entry, some_entry, on_err_holds}
use Rattle.render_core.proofs.renderer.Canvas.enter_rest.Goals as goal

pub returns-then-is_empty-clause-entered : goal.returns-then-is_empty-clause-entered
returns-then-is_empty-clause-entered g c =
    let frame = c.args.frame.now in
    let none = no_entry _ frame.journal.items c.is_empty.result frame.journal.ok.0 c.is_empty.ensures c.if-is_empty.true in
    nothing_left (stores_seen c.args.self.now.stores) (frame_seen frame) c.args.entered (ap (λ (js : List JournalEntry). items_in (recordings_of frame) (map entry_seen js)) none)

pub returns-in_err-parts-clause-needs : goal.returns-in_err-parts-clause-needs
returns-in_err-parts-clause-needs g c =
    let frame = c.args.frame.now in
    on_err_holds c.from_residual.result (inl (some_entry _ frame.journal.items c.is_empty.result frame.journal.ok.0 c.is_empty.ensures c.if-is_empty.false))

pub enter_views-requires : goal.enter_views-requires
enter_views-requires g c = rest_plain c.args.entered c.deref.result.now c.in_ok-parts.parts.items c.deref.ensures.value c.in_ok-parts.ensures.plain

pub returns-clause-entered : goal.returns-clause-entered
returns-clause-entered g c =
    let same = ap (λ (xs : List ViewPart). map part_seen xs) c.deref.ensures.value ∙ c.in_ok-parts.ensures.parts in
    on_ok_weaker c.enter_views.result
    (rest_entered part_seen c.deref.result.now (parts_in (frame_seen c.args.frame.now)) c.args.entered (stores_seen c.args.self.now.stores) (stores_seen c.enter_views.new.stores) same)
    c.enter_views.ensures.entered

pub returns-clause-needs : goal.returns-clause-needs
returns-clause-needs g c =
    let frame = c.args.frame.now in
    on_err_holds c.enter_views.result (inl (some_entry _ frame.journal.items c.is_empty.result frame.journal.ok.0 c.is_empty.ensures c.if-is_empty.false))
