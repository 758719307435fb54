use Rattle.std.proofs.Common.{◌≡◌, take}
use Rattle.std.specs.List.{list_all}
use Rattle.scene_text.specs.Digits.{is_hex}
use Rattle.scene_text.proofs.bytes.all_hex.Given as goal

abbrev pub invariant-loop-byte : goal.invariant-loop-byte
invariant-loop-byte l = l.all ≡ list_all is_hex (take l.byte-index l.digits)
