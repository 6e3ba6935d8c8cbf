-- The order of the arcs of an instance: by row, and in a row by site.
use Rattle.std.specs.Prelude.{◌≡◌, ◌<◌, ◌⊎◌, ⊤, List, [], ◌∷◌}
use Rattle.std.specs.List.{AllByRecursion}
use Rattle.hsp_check.specs.declared.arc.NetworkArc.{NetworkArc}

-- the arc comes later
abbrev pub IsLater : NetworkArc → NetworkArc → Type 0
IsLater a b = (a.row < b.row) ⊎ ((a.row ≡ b.row) × (a.site < b.site))

-- each arc comes before all that follow it
abbrev pub AreOrdered : List NetworkArc → Type 0
AreOrdered [] = ⊤
AreOrdered (a ∷ arcs) = AllByRecursion (IsLater a) arcs × AreOrdered arcs
