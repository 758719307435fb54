use Rattle.std.proofs.Common.{◌+◌, ◌-◌, sym, subst, ◌∙◌, arith}
use Rattle.fix_math.specs.Seen.{rect_seen}
use Rattle.int_raster.specs.Joined.{HoldsTest, either}
use Rattle.int_raster.specs.Places.{deep_pixels, is_drawn}
use Rattle.int_raster.specs.Seen.{facing_seen, step_seen}
use Rattle.int_raster.proofs.Along.{length-deep}
use Rattle.int_raster.proofs.Two.{short_inside, holds_drawn, rows_in_cut, joined_test, first_row, last_row, either_row, whole_rows}
use Rattle.int_raster.proofs.Twice.{same_step, stored_twice, either_once}
use Rattle.int_raster.proofs.deep.triangle_short.Goals as goal

pub rows_tiled-requires-clause-spans : goal.rows_tiled-requires-clause-spans
rows_tiled-requires-clause-spans c =
    short_inside c.with_next-two.result c.spans.new.spans c.with_next-two.new.spans c.args.setup.now c.args.next.now c.drawn_limits-limits.result c.args.draw.now.cut c.args.rows.now.width (c.args.rows.now.top + c.args.shared.0) (c.args.shared.1 - c.args.shared.0)
    c.spans.ensures.spans c.drawn_limits-limits.ensures c.with_next-two.ensures.joined c.with_next-two.ensures.still

pub returns-clause-one : goal.returns-clause-one
returns-clause-one c alone =
    let d = c.args.draw.now in
    let s = c.args.setup.now in
    let rows = c.args.rows.now in
    let r = c.args.shared in
    let test = is_drawn (rect_seen d.cut) (facing_seen d s) in
    let olds = c.spans.new.spans in
    let here : HoldsTest olds test (rows.top + r.0) rows.width (r.1 - r.0) =
    holds_drawn olds d s c.drawn_limits-limits.result rows.width (rows.top + r.0) (r.1 - r.0) c.spans.ensures.spans c.drawn_limits-limits.ensures (λ k b. rows_in_cut r rows d s k c.requires.rows b) in
    whole_rows (step_seen d s) test rows.width rows.top rows.count r.0 r.1 (r.1 - r.0) (deep_pixels c.args.colors.now c.args.depths.now) (deep_pixels c.rows_tiled.new.colors c.rows_tiled.new.depths) rows.wide
    (length-deep c.args.colors.now c.args.depths.now c.requires.same ∙ c.requires.whole) (omega (arith, c.requires.rows.order))
    (λ x y b t. first_row r rows d s x y c.requires.rows b t) (λ x y b t. last_row r rows d s x y c.requires.rows b t)
    (c.rows_tiled.ensures test (deep_pixels c.args.colors.now c.args.depths.now) (subst (λ z. HoldsTest z test (rows.top + r.0) rows.width (r.1 - r.0)) (sym (c.with_next-two.ensures.still alone)) here))

pub returns-clause-two : goal.returns-clause-two
returns-clause-two c taken =
    let d = c.args.draw.now in
    let s = c.args.setup.now in
    let n = c.args.next.now in
    let rows = c.args.rows.now in
    let r = c.args.shared in
    let one = is_drawn (rect_seen d.cut) (facing_seen d s) in
    let other = is_drawn (rect_seen d.cut) (facing_seen d n) in
    let olds = c.spans.new.spans in
    let limits = c.drawn_limits-limits.result in
    let all = c.with_next-two.ensures.all taken in
    let level = c.with_next-two.ensures.level taken in
    let j = c.with_next-two.ensures.joined taken in
    let here : HoldsTest c.with_next-two.new.spans (either one other) (rows.top + r.0) rows.width (r.1 - r.0) =
    joined_test c.with_next-two.new.spans olds j.0 one other (rows.top + r.0) rows.width (r.1 - r.0) j.1.1
    (holds_drawn olds d s limits rows.width (rows.top + r.0) (r.1 - r.0) c.spans.ensures.spans c.drawn_limits-limits.ensures (λ k b. rows_in_cut r rows d s k c.requires.rows b))
    (holds_drawn j.0 d n limits rows.width (rows.top + r.0) (r.1 - r.0) j.1.0 c.drawn_limits-limits.ensures (λ k b. rows_in_cut r rows d n k all b)) in
    whole_rows (step_seen d s) (either one other) rows.width rows.top rows.count r.0 r.1 (r.1 - r.0) (deep_pixels c.args.colors.now c.args.depths.now) (deep_pixels c.rows_tiled.new.colors c.rows_tiled.new.depths) rows.wide
    (length-deep c.args.colors.now c.args.depths.now c.requires.same ∙ c.requires.whole) (omega (arith, c.requires.rows.order))
    (λ x y b t. either_row (one x (rows.top + y)) (other x (rows.top + y)) _ (first_row r rows d s x y c.requires.rows b) (first_row r rows d n x y all b) t)
    (λ x y b t. either_row (one x (rows.top + y)) (other x (rows.top + y)) _ (last_row r rows d s x y c.requires.rows b) (last_row r rows d n x y all b) t)
    (c.rows_tiled.ensures (either one other) (deep_pixels c.args.colors.now c.args.depths.now) here)
    ∙ either_once one other (step_seen d s) (step_seen d n) rows.width rows.top (deep_pixels c.args.colors.now c.args.depths.now)
    (λ x y u. same_step c.args.level.now d s n x y u c.requires.level level) (λ x y u. stored_twice c.args.level.now d s x y u c.requires.level)
