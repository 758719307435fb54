use Rattle.std.proofs.Common.{◌≡◌, ◌-◌, length}
use Rattle.std.specs.Prelude.{slice_get}
use Rattle.std.specs.List.{find, range_with_len}
use Rattle.recorded_keys.specs.Pairs.{is_recorded_by, found_place}
use Rattle.recorded_keys.proofs.pairs.place_of.Given as goal

-- the search from here on is the whole search
abbrev pub invariant-loop-place : goal.invariant-loop-place
invariant-loop-place l = find (λ n. is_recorded_by l.encoder (slice_get l.recordings n)) (range_with_len l.place (length l.recordings - l.place)) ≡ found_place l.recordings l.encoder
