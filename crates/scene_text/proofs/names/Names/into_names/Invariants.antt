use Rattle.std.proofs.Common.{◌≡◌, ◌++◌, map}
use Rattle.scene_model.specs.Grammar.{text_of}
use Rattle.scene_text.specs.Seen.{name_seen}
use Rattle.scene_text.proofs.names.Names.into_names.Given as goal

-- the names so far, and those that are left
abbrev pub invariant-loop-text : goal.invariant-loop-text
invariant-loop-text l = map name_seen l.names.items ++ map (λ k. k.items) l.text-iterator ≡ map text_of l.fn.self
