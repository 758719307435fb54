-- Passes that are begun.
use Rattle.store_laws.specs.ByIndex.{Stores}
use Rattle.render_stores.specs.Seen.{stores_seen}
use Rattle.view_drawing.specs.declared.begun.BegunPass.{BegunPass}
use Rattle.view_drawing.specs.declared.begun.BegunPass.TheVariants as begun

-- the stores that a pass ends with
abbrev pub begun_seen : BegunPass → Stores
begun_seen (begun.Lent pass bands) = pass
begun_seen (begun.Done stores) = stores_seen stores
