use Rattle.std.proofs.Common.{◌≡◌, ℕ, ◌≤◌, ◌+◌, ◌++◌, take, drop, filter, length}
use Rattle.gfx_model.specs.Resources.{is_kept_thing}
use Rattle.hold_table.specs.Seats.{api_table, api_view}
use Rattle.resource_book.specs.Seen.{rows_seen}
use Rattle.context_core.specs.Places.{IsPlaced, Stays}
use Rattle.context_core.proofs.freeing.free_words.Given as goal

abbrev pub invariant-loop-row : goal.invariant-loop-row
invariant-loop-row l = record {
  table : api_table l.api ≡ api_table l.initial.api;
  many : length (api_view l.api).places ≡ 3776;
  placed : IsPlaced (api_view l.api).places (filter (is_kept_thing l.latency l.frame) (rows_seen (take l.row-index l.rows)) ++ rows_seen (drop l.row-index l.rows));
  stays : (n : ℕ) → l.frame ≤ n + l.latency → Stays n (api_view l.initial.api).places (api_view l.api).places;
  same : api_view l.api ≡ record (api_view l.initial.api) { places = (api_view l.api).places };
}
