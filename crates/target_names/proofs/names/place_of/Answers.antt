use Rattle.std.proofs.Common.{◌≡◌, ℕ, List, map, length, get_or, ap, sym, ◌∙◌, arith}
use Rattle.std.proofs.lemmas.List.{get_or-map, length-map}
use Rattle.scene_text.specs.Seen.{name_seen}
use Rattle.scene_text.specs.declared.scene.SceneName.{SceneName}
use Rattle.target_laws.specs.Names.{name_from}
use Rattle.target_names.proofs.Spelled.{name-next, name-found}
use Rattle.target_names.proofs.names.place_of.Goals as goal

pub returns-then-is_spelled : goal.returns-then-is_spelled
returns-then-is_spelled c =
    let names : List SceneName = c.args.names.now in
    let i : ℕ = c.loop-place.place in
    let x : SceneName = c.index-names-place.result in
    let before = c.loop-place-test.true in
    let many = length-map names name_seen in
    name-found c.args.text.now (map name_seen names) i (name_seen x) (name_from 0 (map name_seen names) c.args.text.now) (omega (arith, before, many))
    (get_or-map name_seen names i x (name_seen x) before ∙ ap name_seen (sym c.index-names-place.is)) c.loop-place.invariant (sym c.is_spelled.ensures ∙ c.if-is_spelled.true)

pub loop-place-preserved : goal.loop-place-preserved
loop-place-preserved c =
    let names : List SceneName = c.args.names.now in
    let i : ℕ = c.loop-place.place in
    let x : SceneName = c.index-names-place.result in
    let before = c.loop-place-test.true in
    let many = length-map names name_seen in
    name-next c.args.text.now (map name_seen names) i (name_seen x) (name_from 0 (map name_seen names) c.args.text.now) (omega (arith, before, many))
    (get_or-map name_seen names i x (name_seen x) before ∙ ap name_seen (sym c.index-names-place.is)) c.loop-place.invariant (sym c.is_spelled.ensures ∙ c.if-is_spelled.false)
