-- The things of a table, and the number of each by its place.
use Rattle.std.specs.Prelude.{ℕ, ◌≡◌, ◌<◌, ◌≤◌, ◌+◌, ◌*◌, Bool, ◌&&◌, if◌then◌else◌, List, [], ◌∷◌, Option, Some, None, option_map, length, slice_index_or, sum_by}
use Rattle.gfx_model.specs.World.{Content, uniform_content}
use Rattle.gfx_model.specs.Resources.{Thing, is_at, is_live, has_name, texel_count}
use Rattle.std.specs.List.{AllByRecursion, find}
use Rattle.gfx_model.specs.Words.{Kind, greatest, first_place}
use Rattle.store_laws.specs.Standing.{content_kind}
use Rattle.resource_laws.specs.Lawful.{count_where}
use Rattle.resource_book.specs.Names.{index_in}

-- how many places there are
abbrev pub place_count : ℕ
place_count = 3776

-- the greatest product of two sides of 16 bits
abbrev pub most_texels : ℕ
most_texels = 4294836225

-- the things in the order of their births, and how many more there is room for, each with a name
pub record TableView : Type 0 where
  pub things : List Thing
  pub spare : ℕ

-- the number of the first thing of which a test holds
abbrev pub number_of : (Thing → Bool) → List Thing → Option ℕ
number_of p [] = None
number_of p (t ∷ ts) = if p t then Some 0 else option_map (λ n. n + 1) (number_of p ts)

-- each place has the number of the first thing of its kind and index
pub record IsPlaced (places : List (Option ℕ)) (things : List Thing) : Type 0 where
  pub many : length places ≡ place_count
  pub stands : (k : Kind) (index : ℕ) → index < greatest k → slice_index_or places (first_place k + index) None ≡ number_of (is_at k index) things

-- no two things stand at one place
pub record StandApart (things : List Thing) : Type 0 where
  pub fits : AllByRecursion (λ t. t.handle.index < greatest t.handle.kind) things
  pub once : (k : Kind) (index : ℕ) → index < greatest k → count_where (is_at k index) things ≤ 1

-- a thing's content is of its handle's kind
abbrev pub IsOfKind : Thing → Type 0
IsOfKind t = content_kind t.content ≡ t.handle.kind

-- whether a thing is the live uniform of a name
abbrev pub is_named : List ℕ → Thing → Bool
is_named name t = is_live t && has_name name t.content

-- the index of the live uniform of a name
abbrev pub index_named : List ℕ → List Thing → Option ℕ
index_named name things = option_map (λ t. t.handle.index) (find (is_named name) things)

-- the name of a uniform
abbrev pub name_of : Content → Option (List ℕ)
name_of (uniform_content name v) = Some name
name_of _ = None

-- each name has the index of its live uniform, and no two live ones have one name
pub record IsNamed (names : List (List ℕ × ℕ)) (things : List Thing) : Type 0 where
  pub finds : (name : List ℕ) → index_in names name ≡ index_named name things
  pub once : (name : List ℕ) → count_where (is_named name) things ≤ 1

-- how many texels things have
abbrev pub texels_of : List Thing → ℕ
texels_of things = sum_by (λ t. texel_count t.content) things

-- what every table keeps: the numbers by places, the indices by names, and how many texels there are
pub record IsTable (places : List (Option ℕ)) (names : List (List ℕ × ℕ)) (texels : ℕ) (things : List Thing) : Type 0 where
  pub placed : IsPlaced places things
  pub apart : StandApart things
  pub kinds : AllByRecursion IsOfKind things
  pub named : IsNamed names things
  pub sum : texels ≡ texels_of things
  pub most : texels ≤ most_texels * length things
