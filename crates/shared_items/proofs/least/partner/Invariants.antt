use Rattle.std.proofs.Common.{◌≡◌, ◌-◌, length}
use Rattle.std.specs.Prelude.{slice_index_or, None}
use Rattle.std.specs.List.{find, range_with_len}
use Rattle.shared_items.specs.Marked.{marks_clash, partner_mark}
use Rattle.shared_items.proofs.least.partner.Given as goal

-- the search from here on is the whole search
abbrev pub invariant-loop-place : goal.invariant-loop-place
invariant-loop-place l = find (λ j. marks_clash l.view l.left (slice_index_or l.rights j None)) (range_with_len l.place (length l.rights - l.place)) ≡ partner_mark l.view l.left l.rights
