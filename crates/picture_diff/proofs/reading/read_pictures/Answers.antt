use Rattle.std.proofs.Common.{◌≡◌, ◌-◌, ◌++◌, ◌∷◌, [], Some, None, List, length, map, ap, sym, subst, ◌∙◌, refl, arith}
use Rattle.std.proofs.lemmas.List.{length-map, map-append}
use Rattle.picture_diff.specs.Picture.{IsBroken, Picture}
use Rattle.picture_diff.specs.Reading.{picture_at}
use Rattle.picture_diff.specs.Told.{picture_seen}
use Rattle.picture_diff.proofs.Texts.{IsReadTo, read-broken, read-shorter, read-step, some-bytes}
use Rattle.picture_diff.proofs.reading.read_pictures.Goals as goal

pub loop-rest-smaller : goal.loop-rest-smaller
loop-rest-smaller c =
    let found : picture_at c.loop-rest.rest.now ≡ Some (picture_seen c.in-Some.picture, c.in-Some.after.now) = sym c.in-Some.ensures in
    read-shorter c.loop-rest.rest.now (picture_seen c.in-Some.picture) c.in-Some.after.now found

pub loop-rest-preserved : goal.loop-rest-preserved
loop-rest-preserved c =
    let items = c.loop-rest.pictures.items in
    let p = picture_seen c.in-Some.picture in
    let found : picture_at c.loop-rest.rest.now ≡ Some (p, c.in-Some.after.now) = sym c.in-Some.ensures in
    let push : c.push.new.self.items ≡ items ++ c.in-Some.picture ∷ [] = c.in_ok-push-in-Some.ensures.items in
    subst (λ (ps : List Picture). IsReadTo c.args.bytes.now ps c.in-Some.after.now) (sym (ap (map picture_seen) push ∙ map-append picture_seen items (c.in-Some.picture ∷ [])))
    (read-step c.args.bytes.now (map picture_seen items) c.loop-rest.rest.now p c.in-Some.after.now c.loop-rest.invariant found)

pub returns-in-None : goal.returns-in-None
returns-in-None c =
    let items = c.loop-rest.pictures.items in
    let none : picture_at c.loop-rest.rest.now ≡ None = sym c.in-None.ensures in
    let many : length (map picture_seen items) ≡ c.len.result = omega (arith, length-map items picture_seen, c.len.ensures, c.loop-rest.pictures.ok.0) in
    subst (λ n. IsBroken c.args.bytes.now n (length c.args.bytes.now - length c.loop-rest.rest.now)) many
    (read-broken c.args.bytes.now (map picture_seen items) c.loop-rest.rest.now (length c.args.bytes.now - length c.loop-rest.rest.now) c.loop-rest.invariant (some-bytes _ _ c.is_empty.ensures c.loop-rest-test.true) none refl)
