-- Where there is room for a query.
use Rattle.std.specs.Prelude.{◌≡◌, ◌<◌, ⊤, true, length}
use Rattle.hsp_instance.specs.declared.arc.Arc.{Arc}
use Rattle.hsp_price_dispatch.specs.Holding.{Held, cell_at, has_room}
use Rattle.hsp_price_dispatch.specs.declared.answer.Choice.{Choice}
use Rattle.hsp_price_dispatch.specs.declared.answer.Choice.TheVariants.{OfClass, Free, Diverted, Full, Unknown}

-- an arc leads to a server that is there, and there is room
pub record IsOpen (own : Held) (arc : Arc) : Type 0 where
  pub inside : arc.server < length own.service.servers
  pub room : has_room own arc ≡ true

-- there is room for what a query is answered by, and something is left of the amount
abbrev pub CanTake : Held → Choice → Type 0
CanTake own (OfClass n arc) = IsOpen own arc × (n < length own.cells) × (0 < (cell_at own.cells n).left)
CanTake own (Free arc) = IsOpen own arc
CanTake own (Diverted arc) = IsOpen own arc
CanTake own Full = ⊤
CanTake own Unknown = ⊤
