-- Names of things: kind, index and serial, and the words that spell them.
use Rattle.std.specs.Prelude.{ℕ, ◌≡◌, ◌<◌, ◌+◌, ◌*◌, ◌^◌}
use Rattle.gfx_model.specs.Words.{Kind, Handle, kind_number, greatest}
use Rattle.gfx_words.specs.Kinds.{kind_seen}
use Rattle.gfx_words.specs.declared.names.HandleName.{HandleName}

-- the serial in 32 bits, the index in 10, and above them the kind's number
abbrev pub word_of_name : Kind → (index serial : ℕ) → ℕ
word_of_name kind index serial = serial + 2 ^ 32 * index + 2 ^ 42 * kind_number kind

-- the word of a name
abbrev pub name_word : HandleName → ℕ
name_word n = word_of_name (kind_seen n.kind) n.index n.serial

-- the word of a handle's name
abbrev pub handle_word : Handle → ℕ
handle_word h = word_of_name h.kind h.index h.serial

-- an index is below its kind's greatest number, and a serial has 32 bits
abbrev pub IsName : HandleName → Type 0
IsName n = (n.index < greatest (kind_seen n.kind)) × (n.serial < 2 ^ 32)

-- a name is the handle's
pub record IsNameOf (n : HandleName) (h : Handle) : Type 0 where
  pub kind : kind_seen n.kind ≡ h.kind
  pub index : n.index ≡ h.index
  pub serial : n.serial ≡ h.serial
  pub admitted : IsName n

-- no two names have one word
abbrev pub OneWordOneName : Type 0
OneWordOneName =
    (g h : Handle) → g.index < greatest g.kind → h.index < greatest h.kind → g.serial < 2 ^ 32 → h.serial < 2 ^ 32
    → handle_word g ≡ handle_word h → (g.kind ≡ h.kind) × (g.index ≡ h.index) × (g.serial ≡ h.serial)
