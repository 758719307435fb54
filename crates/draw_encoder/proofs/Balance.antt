-- Each step of the bundle queue keeps its rule.
use Rattle.std.proofs.Common.{◌≡◌, ℕ, zero, suc, ◌+◌, List, [], ◌∷◌, ◌++◌, set, sym, refl, ap, ◌∙◌, arith}
use mathlib.Core.Option.{some, some-injective, some-ne-none}
use lib.ListN.{get_elem?}
use Rattle.std.proofs.lemmas.List.{map-append}
use Rattle.schedule_model.specs.Held.{count_of}
use Rattle.schedule_model.proofs.Lists.{count_of-append}
use Rattle.crossbeam_queue.specs.Fifo.{Pushes, Pops, Admits}
use Rattle.draw_encoder.specs.Posts.{Posted, seat_of, seats_in, PassView, new_pass, posts, takes, Posts, Takes, total, posts_of, takes_of, IsBalanced}

-- a sum after one view has changed
total_set : (f : PassView → ℕ) (views : List PassView) (pass : ℕ) (v w : PassView) → get_elem? views pass ≡ some v → total f (set views pass w) + f v ≡ total f views + f w
total_set f [] pass v w at = absurd (some-ne-none v (sym at))
total_set f (u ∷ us) zero v w at = let e : f u ≡ f v = ap f (some-injective u v at) in omega arith
total_set f (u ∷ us) (suc pass) v w at = let e = total_set f us pass v w at in omega arith

-- a sum with one view more
total_snoc : (f : PassView → ℕ) (views : List PassView) (w : PassView) → total f (views ++ w ∷ []) ≡ total f views + f w
total_snoc f [] w = omega arith
total_snoc f (u ∷ us) w = let e = total_snoc f us w in omega arith

-- ---- the steps

pub begins : IsBalanced [] (new_pass ∷ [])
begins id = refl

pub admits : Admits IsBalanced new_pass
admits items views h id =
    let a = h id in
    let b = total_snoc (takes_of id) views new_pass in
    let c = total_snoc (posts_of id) views new_pass in omega arith

pub pushes : (room pass : ℕ) (v : PassView) (b : Posted) → Pushes IsBalanced room pass v b (Posts v b)
pushes room pass v b items views few h at = (
  posts v b,
  (λ id.
      let a = h id in
      let t = total_set (takes_of id) views pass v (posts v b) at in
      let p = total_set (posts_of id) views pass v (posts v b) at in
      let one = count_of-append id v.posted (seat_of b ∷ []) in
      let more : count_of id (seats_in (items ++ b ∷ [])) ≡ count_of id (seats_in items) + count_of id (seat_of b ∷ []) = ap (count_of id) (map-append seat_of items (b ∷ [])) ∙ count_of-append id (seats_in items) (seat_of b ∷ []) in omega arith),
  refl,
)

pub pops : (pass : ℕ) (v : PassView) → Pops IsBalanced pass v (Takes v)
pops pass v b items views h at = (
  takes v b,
  (λ id.
      let a = h id in
      let t = total_set (takes_of id) views pass v (takes v b) at in
      let p = total_set (posts_of id) views pass v (takes v b) at in
      let one = count_of-append id v.taken (seat_of b ∷ []) in
      let less : count_of id (seats_in (b ∷ items)) ≡ count_of id (seat_of b ∷ []) + count_of id (seats_in items) = count_of-append id (seat_of b ∷ []) (seats_in items) in omega arith),
  refl,
)
