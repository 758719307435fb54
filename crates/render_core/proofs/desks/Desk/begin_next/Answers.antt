use Rattle.std.proofs.Common.{◌≡◌, ◌≤◌, ◌+◌, ◌∙◌, List, map, length, refl, ap, arith}
use Rattle.gfx_words.specs.Seen.{entry_seen}
use Rattle.gfx_words.specs.declared.journal.JournalEntry.{JournalEntry}
use Rattle.frame_record.specs.Placed.{items_in}
use Rattle.render_stores.specs.Seen.{stores_seen}
use Rattle.view_drawing.specs.Begun.{begun_seen}
use Rattle.view_drawing.specs.Passes.{part_seen}
use Rattle.view_drawing.specs.declared.view_parts.ViewPart.{ViewPart}
use Rattle.render_core.specs.Seen.{frame_seen, recordings_of}
use Rattle.render_core.specs.ViewParts.{parts_in}
use Rattle.render_core.proofs.PartsIn.{all_entered, rest_plain, some_entered, some_within}
use Rattle.render_core.proofs.Wants.{no_entry}
use Rattle.render_core.proofs.desks.Desk.begin_next.Goals as goal

pub returns-then-is_empty-clause-next : goal.returns-then-is_empty-clause-next
returns-then-is_empty-clause-next c =
    let frame = c.args.frame.now in
    let none = no_entry _ frame.journal.items c.is_empty.result frame.journal.ok.0 c.is_empty.ensures c.if-is_empty.true in
    (refl, all_entered (frame_seen frame) c.args.entered c.requires.many (ap (λ (js : List JournalEntry). items_in (recordings_of frame) (map entry_seen js)) none))

pub begin_views-requires-clause-plain : goal.begin_views-requires-clause-plain
begin_views-requires-clause-plain c = rest_plain c.args.entered c.deref.result.now c.in-Ok.parts.items c.deref.ensures.value c.in-Ok.ensures.plain

pub returns-in-Ok-begin_views-clause-next : goal.returns-in-Ok-begin_views-clause-next
returns-in-Ok-begin_views-clause-next c =
    let a = c.args in
    let parts = parts_in (frame_seen a.frame.now) in
    let begun = c.in-Ok-begin_views in
    let same : map part_seen c.deref.result.now ≡ parts = ap (λ (xs : List ViewPart). map part_seen xs) c.deref.ensures.value ∙ c.in-Ok.ensures.parts in
    let many : a.entered + begun.count ≤ length parts = some_within part_seen c.deref.result.now parts a.entered begun.count same c.requires.many begun.ensures.length in
    (omega (arith, begun.ensures.some), (many, some_entered part_seen c.deref.result.now parts a.entered begun.count (stores_seen a.stores) (begun_seen begun.pass) same begun.ensures.entered))
