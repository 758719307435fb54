-- What is known of the texts of scenes and of journals.
use Rattle.std.specs.Prelude.{◌≡◌, ◌≤◌, ℕ, List, ◌++◌, length, Ok, codes}
use Rattle.std.specs.List.{AllByRecursion}
use Rattle.scene_model.specs.Scene.{Scene}
use Rattle.scene_model.specs.Grammar.{Language, scene_of, front_of}
use Rattle.scene_model.specs.Journal.{Entry, Journal}
use Rattle.scene_model.specs.Output.{journal_text}
use Rattle.scene_model.specs.JournalText.{greatest_encoder, greatest_ordinal, journal_of}

-- a scene's text, whose last line is the one that ends it, is a front of each text that begins with it: the scene is read, and the rest begins behind it
abbrev pub FrontLaw : Type 0
FrontLaw = (known : Language) (s : Scene) (front rest : List ℕ)
    → scene_of known (front ++ codes "\ndone\n") ≡ Ok s → front_of known ((front ++ codes "\ndone\n") ++ rest) ≡ Ok (s, length (front ++ codes "\ndone\n"))

-- the numbers of an entry are in their ranges
abbrev pub IsSpellable : Entry → Type 0
IsSpellable n = (n.encoder ≤ greatest_encoder) × (n.ordinal ≤ greatest_ordinal)

-- the text of a journal, whose entries are in their ranges, is read as that journal
abbrev pub JournalTextLaw : Type 0
JournalTextLaw = (j : Journal) → AllByRecursion (AllByRecursion IsSpellable) j → journal_of (journal_text j) (length j) ≡ Ok j
