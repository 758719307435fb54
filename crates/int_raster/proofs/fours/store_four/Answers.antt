use Rattle.std.proofs.Common.{◌≡◌, ◌+◌, ◌%◌, ◌^◌, ◌&&◌, [], slice_index, slice_index_or, if◌then◌else◌, refl, sym, ap, ◌∙◌, arith}
use Rattle.gfx_model.specs.Number.{u32_at}
use Rattle.gfx_model.specs.Pixel.{stored_color}
use Rattle.int_raster.specs.Rules.{by_order}
use Rattle.int_raster.specs.Tiled.{word_bytes, deep_of, is_within}
use Rattle.int_raster.proofs.Tested.{kept_is}
use Rattle.int_raster.proofs.Tiled.{word_of_two}
use Rattle.int_raster.proofs.fours.store_four.Goals as goal

pub returns-clause-stored : goal.returns-clause-stored
returns-clause-stored g c state j rule meets is_rule is_reach h less few =
    let t = c.args.reach.now in
    let old = slice_index_or c.args.colors.now (c.args.at + j) [] in
    let word = u32_at (slice_index_or c.args.depths.now (c.args.at + j) []) 0 in
    let new = slice_index c.args.four.now.depths j in
    let color = word_bytes (slice_index c.args.four.now.colors j) in
    let small = c.words_of-words.ensures.few j h in
    let pass = by_order rule new (word % 2 ^ 24) in
    let test : is_within t.least t.more new (word % 2 ^ 24) ≡ pass = sym (is_reach.test new (word % 2 ^ 24) few (omega arith)) in
    let hc = c.put_colors.ensures.stored state j meets h less
    ∙ ap (λ n. if is_within t.least t.more new (n % 2 ^ 24) then stored_color state color old else old) (c.words_of-words.ensures.words j h)
    ∙ ap (λ b. if b then stored_color state color old else old) test in
    let hk = c.put_depths.ensures.stored j h less
    ∙ ap (λ b. if b then deep_of t.bits t.taken new word else word) test
    ∙ word_of_two pass rule.writes (deep_of t.bits t.taken new word) new word (is_reach.stores new word few small) in
    kept_is rule state word new (u32_at (slice_index_or c.put_depths.new.depths (c.args.at + j) []) 0) old color (slice_index_or c.put_colors.new.colors (c.args.at + j) []) pass (pass && rule.writes) is_rule refl refl hc hk

pub returns-clause-rest : goal.returns-clause-rest
returns-clause-rest g c j h more = (c.put_colors.ensures.rest j h more, c.put_depths.ensures.rest j h more)

pub returns-clause-others : goal.returns-clause-others
returns-clause-others g c i out = (c.put_colors.ensures.others i out, c.put_depths.ensures.others i out)
